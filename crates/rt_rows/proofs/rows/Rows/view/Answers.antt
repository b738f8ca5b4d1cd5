use Rattle.std.proofs.Common.{◌∙◌, ◌<◌, [], ap, sym, arith, length, get_or}
use Rattle.std.proofs.lemmas.Option.{get_or_from_slice_get}
use Rattle.rt_rows.specs.Places.{RowsValue, nothing}
use Rattle.rt_rows.specs.Stored.{operations_stored}
use Rattle.rt_rows.specs.Views.{operation_in}
use Rattle.rt_rows.proofs.InRows.{within_rows, row_at}
use Rattle.rt_rows.proofs.rows.Rows.view.Goals as goal

pub returns-clause-is : goal.returns-clause-is
returns-clause-is c =
    let lists = c.self.inside.lists.lists in
    let kept = c.self.inside.kept.kept in
    let place = c.args.place in
    let one = c.at.result.now in
    let rows = ap (λ (v : RowsValue). v.rows) c.self.view_is in
    let within : place.row < length kept = within_rows lists kept place.row place.at (omega (arith, c.requires, ap (λ rs. length (get_or rs place.row [])) rows)) in
    ap (λ rs. get_or (get_or rs place.row []) place.at nothing) (sym rows)
    ∙ ap (λ xs. get_or xs place.at nothing) (row_at lists kept place.row one within)
    ∙ ap (λ s. get_or (operations_stored lists s) place.at nothing) c.at.ensures
    ∙ get_or_from_slice_get (operations_stored lists one) place.at (operation_in c.view.result) nothing c.view.ensures.is
