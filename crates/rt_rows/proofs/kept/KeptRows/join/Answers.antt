use Rattle.std.proofs.Common.{◌≡◌, ◌∙◌, ap, subst, sym, List}
use Rattle.std.proofs.lemmas.Option.{IfSome_then}
use Rattle.rt_ops.specs.Operations.{Name, Operation}
use Rattle.rt_rows.specs.Stored.{AreListed, IsPut, KeptValue}
use Rattle.rt_rows.specs.Views.{operation_of}
use Rattle.rt_rows.proofs.kept.KeptRows.join.Goals as goal

pub returns-in-Some-clause-put : goal.returns-in-Some-clause-put
returns-in-Some-clause-put c =
    let op : List (List Name) → Operation = λ lists. operation_of lists c.args.one.now in
    subst (λ kept. IsPut kept c.take_at.new.rows.items op c.in-Some.place) (ap (λ (v : KeptValue). v.kept) c.self.view_is) c.in-Some.ensures.put

pub returns-in-Some-clause-listed : goal.returns-in-Some-clause-listed
returns-in-Some-clause-listed c many h = c.take_at.ensures.listed many (subst (AreListed many) (sym (ap (λ (v : KeptValue). v.kept) c.self.view_is)) h)

pub returns-clause-put : goal.returns-clause-put
returns-clause-put c =
    let op : List (List Name) → Operation = λ lists. operation_of lists c.args.one.now in
    let same : c.take_at.new.rows.items ≡ c.args.self.now.kept = c.in_default.ensures.same ∙ ap (λ (v : KeptValue). v.kept) c.self.view_is in
    IfSome_then c.take_any.result c.take_any.ensures.put (λ place h. subst (λ kept. IsPut kept c.take_any.new.rows.items op place) same h)

pub returns-clause-listed : goal.returns-clause-listed
returns-clause-listed c many h =
    let same : c.take_at.new.rows.items ≡ c.args.self.now.kept = c.in_default.ensures.same ∙ ap (λ (v : KeptValue). v.kept) c.self.view_is in
    c.take_any.ensures.listed many (subst (AreListed many) (sym same) h)
