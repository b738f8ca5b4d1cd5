use Rattle.std.proofs.Common.{◌≡◌, ◌∙◌, ◌∷◌, [], ap, sym, get_or, Some, Option}
use Rattle.std.proofs.lemmas.Option.{get_or_from_slice_get}
use Rattle.rt_ops.specs.Operations.{Delete, Operation}
use Rattle.rt_rows.specs.Rows.{DeletesInRow, deletes, one_in, prev_in, stamp_in}
use Rattle.rt_rows.proofs.Following.{row_get}
use Rattle.rt_rows.proofs.deletes.DeleteRow.view.Goals as goal

pub returns-clause-is : goal.returns-clause-is
returns-clause-is c =
    let row : DeletesInRow = c.args.self.now in
    let place = c.args.place in
    let span = c.span_at.result.now in
    let there : get_or row.spans place span ≡ span = get_or_from_slice_get row.spans place span span c.span_at.ensures.is in
    let one = c.from_ref.ensures.value ∙ ap (λ s. s ∷ []) (sym there) in
    let stamp = c.stamp_at.ensures ∙ ap (λ (r : DeletesInRow). stamp_in r.start place) c.self.view_is in
    let prev = c.prev_at.ensures ∙ ap (λ (r : DeletesInRow). prev_in r.start place) c.self.view_is in
    let seen : record { count = c.stamp_at.result.count; site = c.stamp_at.result.site; prev = c.prev_at.result; body = Delete c.from_ref.result.now } ≡ one_in row.start place (deletes place (get_or row.spans place span)) =
    λ i. record { count = (stamp i).count; site = (stamp i).site; prev = prev i; body = Delete (one i) } in
    let some : Operation → Option Operation = λ o. Some o in
    row_get row.start deletes row.spans place span c.requires ∙ ap some (sym seen)
