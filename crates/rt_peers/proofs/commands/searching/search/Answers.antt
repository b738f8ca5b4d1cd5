use Rattle.std.proofs.Common.{map, refl}
use Rattle.std.proofs.lemmas.Result.{err_from_is_err_and}
use Rattle.rt_stamps.specs.Places.{text_of_position}
use Rattle.rt_tagcmd.specs.SearchCommand.{searched}
use Rattle.rt_peers.proofs.Steps.{refused_as, replied_as}
use Rattle.rt_peers.proofs.commands.searching.search.Goals as goal

pub returns-in_err-positions : goal.returns-in_err-positions
returns-in_err-positions c =
    let p = err_from_is_err_and c.from_residual.result c.from_residual.ensures.1 in
    rw p.1 (refl, refused_as (map text_of_position) c.args.view.now _ _ p.0 c.in_err-positions.field-0.0 (λ i. searched c.args.view.now c.args.request.now) c.in_err-positions.ensures.err p.2)

pub returns : goal.returns
returns c = replied_as (map text_of_position) c.args.view.now _ _ c.in_ok-positions.positions.items c.positions_reply.result (λ i. searched c.args.view.now c.args.request.now) c.in_ok-positions.ensures.ok (rw (← c.deref.ensures.value) c.positions_reply.ensures.ok) c.positions_reply.ensures.err
