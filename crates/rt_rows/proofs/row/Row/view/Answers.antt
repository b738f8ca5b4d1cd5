use Rattle.std.proofs.Common.{◌≡◌, ◌<◌, ◌∙◌, ◌∷◌, [], ap, sym, get_or, length, arith, Some, Option}
use Rattle.std.proofs.lemmas.List.{get_or_read}
use Rattle.rt_ops.specs.Operations.{Insert, Operation}
use Rattle.rt_stamps.specs.Words.{as_words}
use Rattle.rt_rows.specs.Listed.{KeptRow, names_at}
use Rattle.rt_rows.specs.Rows.{one_in, prev_in, puts, stamp_in}
use Rattle.rt_rows.proofs.Following.{row_get}
use Rattle.rt_rows.proofs.row.Row.view.Goals as goal

pub returns-clause-is : goal.returns-clause-is
returns-clause-is c =
    let row : KeptRow = c.args.self.now in
    let place = c.args.place in
    let text : c.as_slice.result.now ≡ row.text = c.as_slice.ensures ∙ ap (λ (r : KeptRow). r.text) c.self.view_is in
    let within : place < length c.as_slice.result.now = omega (arith, c.requires, ap length text) in
    let letter : c.index-as_slice-place.result ≡ get_or row.text place 0 =
    get_or_read c.as_slice.result.now place c.index-as_slice-place.result within c.index-as_slice-place.is 0 ∙ ap (λ xs. get_or xs place 0) text in
    let one = c.one_of.ensures.text ∙ ap (λ x. x ∷ []) letter in
    let stamp = c.stamp_at.ensures ∙ ap (λ (r : KeptRow). stamp_in r.start place) c.self.view_is in
    let prev = c.prev_at.ensures ∙ ap (λ (r : KeptRow). prev_in r.start place) c.self.view_is in
    let after = c.after_at.ensures in
    let names = names_at c.args.lists.now.lists row.list in
    let tags : as_words c.names_at.result.now ≡ names = c.names_at.ensures.names ∙ ap (λ (r : KeptRow). names_at c.args.lists.now.lists r.list) c.self.view_is in
    let seen : record { count = c.stamp_at.result.count; site = c.stamp_at.result.site; prev = c.prev_at.result; body = Insert c.after_at.result (as_words c.names_at.result.now) c.one_of.result.now }
    ≡ one_in row.start place (puts row.start row.after names place (get_or row.text place 0)) =
    λ i. record { count = (stamp i).count; site = (stamp i).site; prev = prev i; body = Insert (after i) (tags i) (one i) } in
    let some : Operation → Option Operation = λ o. Some o in
    row_get row.start (puts row.start row.after names) row.text place 0 c.requires ∙ ap some (sym seen)
