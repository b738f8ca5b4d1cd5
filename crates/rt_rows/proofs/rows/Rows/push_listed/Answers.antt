use Rattle.std.proofs.Common.{◌≡◌, ◌<◌, ◌∙◌, ◌++◌, ap, subst, sym, refl, arith, length, length-append, List, Some}
use Rattle.rt_ops.specs.Operations.{Insert, Name, Operation}
use Rattle.rt_rows.specs.Places.{RowsValue}
use Rattle.rt_rows.specs.Stored.{AreListed, rows_in}
use Rattle.rt_rows.specs.Listed.{names_at}
use Rattle.rt_rows.specs.Views.{operation_under}
use Rattle.rt_rows.proofs.Lists.{there_in, new_in, kept_in, listed_more, rows_more}
use Rattle.rt_rows.specs.Listed.{KeptInsert, insert_under}
use Rattle.rt_rows.specs.declared.stored.Stored.{Stored}
use Rattle.rt_rows.proofs.rows.Rows.push_listed.Goals as goal

-- what is kept stands for the same rows where lists have come in
same_rows : (lists new : List (List Name)) (kept : List Stored) → (more : List (List Name)) × (new ≡ lists ++ more) → AreListed (length lists) kept → rows_in new kept ≡ rows_in lists kept
same_rows lists new kept e h = ap (λ l. rows_in l kept) e.1 ∙ rows_more lists e.0 kept h

still_listed : (lists new : List (List Name)) (kept : List Stored) → (more : List (List Name)) × (new ≡ lists ++ more) → AreListed (length lists) kept → AreListed (length new) kept
still_listed lists new kept e h =
    let n = ap length e.1 ∙ length-append lists e.0 in
    listed_more (length lists) (length new) kept (omega (arith, n)) h

pub invariant_of-self : goal.invariant_of-self
invariant_of-self c =
    let lists = c.self.inside.lists.lists in
    let new = c.keep-list.new.self.lists in
    c.push_one.ensures.listed (length new) (still_listed lists new c.self.inside.kept.kept c.keep-list.ensures.kept c.self.invariant) c.keep-list.ensures.within

pub invariant_of-self-in-None : goal.invariant_of-self-in-None
invariant_of-self-in-None c =
    let lists = c.self.inside.lists.lists in
    let new = c.keep-list.new.self.lists in
    let within : c.of-one.result.list < length new = subst (λ (one : KeptInsert). one.list < length new) (sym c.of-one.ensures) c.keep-list.ensures.within in
    c.push_alone.ensures.listed (length new) (still_listed lists new c.self.inside.kept.kept c.keep-list.ensures.kept c.self.invariant) within

pub returns-in-Some-clause-one : goal.returns-in-Some-clause-one
returns-in-Some-clause-one c =
    let new = c.keep-list.new.self.lists in
    let kept = c.self.inside.kept.kept in
    let op : List (List Name) → Operation = λ lists. operation_under (names_at lists (Some c.keep-list.result)) c.in-Some.typed in
    let same = same_rows c.self.inside.lists.lists new kept c.keep-list.ensures.kept c.self.invariant ∙ ap (λ (v : RowsValue). v.rows) c.self.view_is in
    new_in new kept c.push_one.new.self.kept op c.push_one.result c.args.self.now.rows same c.push_one.ensures.put

pub returns-in-Some-clause-kept : goal.returns-in-Some-clause-kept
returns-in-Some-clause-kept c =
    let new = c.keep-list.new.self.lists in
    let kept = c.self.inside.kept.kept in
    let op : List (List Name) → Operation = λ lists. operation_under (names_at lists (Some c.keep-list.result)) c.in-Some.typed in
    let same = same_rows c.self.inside.lists.lists new kept c.keep-list.ensures.kept c.self.invariant ∙ ap (λ (v : RowsValue). v.rows) c.self.view_is in
    kept_in new kept c.push_one.new.self.kept op c.push_one.result c.args.self.now.rows same c.push_one.ensures.put

pub returns-in-None-clause-there : goal.returns-in-None-clause-there
returns-in-None-clause-there c =
    let new = c.keep-list.new.self.lists in
    let op : List (List Name) → Operation = λ lists. insert_under lists c.of-one.result in
    let one : Operation = record { count = c.args.stamp.count; site = c.args.stamp.site; prev = c.args.prev; body = Insert c.args.after c.args.tags c.args.text } in
    let is : insert_under new c.of-one.result ≡ one = ap (insert_under new) c.of-one.ensures
    ∙ ap (λ tags. record { count = c.args.stamp.count; site = c.args.stamp.site; prev = c.args.prev; body = Insert c.args.after tags c.args.text }) c.keep-list.ensures.there in
    there_in new c.self.inside.kept.kept c.push_alone.new.self.kept op c.push_alone.result one is (c.push_alone.ensures.put op (λ lists. refl))

pub returns-in-None-clause-one : goal.returns-in-None-clause-one
returns-in-None-clause-one c =
    let new = c.keep-list.new.self.lists in
    let kept = c.self.inside.kept.kept in
    let op : List (List Name) → Operation = λ lists. insert_under lists c.of-one.result in
    let same = same_rows c.self.inside.lists.lists new kept c.keep-list.ensures.kept c.self.invariant ∙ ap (λ (v : RowsValue). v.rows) c.self.view_is in
    new_in new kept c.push_alone.new.self.kept op c.push_alone.result c.args.self.now.rows same (c.push_alone.ensures.put op (λ lists. refl))

pub returns-in-None-clause-kept : goal.returns-in-None-clause-kept
returns-in-None-clause-kept c =
    let new = c.keep-list.new.self.lists in
    let kept = c.self.inside.kept.kept in
    let op : List (List Name) → Operation = λ lists. insert_under lists c.of-one.result in
    let same = same_rows c.self.inside.lists.lists new kept c.keep-list.ensures.kept c.self.invariant ∙ ap (λ (v : RowsValue). v.rows) c.self.view_is in
    kept_in new kept c.push_alone.new.self.kept op c.push_alone.result c.args.self.now.rows same (c.push_alone.ensures.put op (λ lists. refl))
