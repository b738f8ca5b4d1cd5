use Rattle.std.proofs.Common.{◌≡◌, ◌∙◌, ◌++◌, ◌∷◌, [], sym, ap, arith, length, true}
use Rattle.std.proofs.lemmas.Option.{IfSome_then}
use Rattle.rt_rows.specs.Listed.{KeptRow, names_at, row_under}
use Rattle.rt_rows.specs.Rows.{follows, operations_in_row, puts}
use Rattle.rt_rows.specs.Views.{operation_under}
use Rattle.rt_rows.proofs.Following.{row_next, follows_count, from_length, typed_next}
use Rattle.rt_rows.proofs.row.Row.take.Goals as goal

pub push-requires : goal.push-requires
push-requires c =
    let next = sym (c.goes_on.ensures.next []) ∙ c.if-not-goes_on.false in
    let f : follows c.args.self.now.start (length c.args.self.now.text) (operation_under [] c.args.typed.now) ≡ true = grind (arith, next) in
    let count = follows_count c.args.self.now.start (length c.args.self.now.text) (operation_under [] c.args.typed.now) f in
    omega (arith, count, c.requires)

pub returns-clause-place : goal.returns-clause-place
returns-clause-place c =
    let row = c.args.self.now in
    IfSome_then c.push.result c.push.ensures.more (λ at h lists. let r = row_under lists row in h.0 ∙ sym (from_length row.start (puts row.start row.after r.tags) 0 row.text))

pub returns-clause-more : goal.returns-clause-more
returns-clause-more c =
    let row : KeptRow = c.args.self.now in
    let typed = c.args.typed.now in
    let list = c.is_same_list.ensures c.if-not-is_same_list.false ∙ ap (λ (r : KeptRow). r.list) c.self.view_is in
    IfSome_then c.push.result c.push.ensures.more (λ at h lists.
    let tags = names_at lists row.list in
    let next = typed_next (row_under lists row) typed (sym (c.goes_on.ensures.next tags) ∙ c.if-not-goes_on.false) in
    ap (λ r. operations_in_row (row_under lists r)) h.1 ∙ row_next (row_under lists row) (operation_under tags typed) c.goes_on.ensures.some next
    ∙ ap (λ l. operations_in_row (row_under lists row) ++ operation_under (names_at lists l) typed ∷ []) (sym list))
