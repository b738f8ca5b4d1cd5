use Rattle.std.proofs.Common.{map, refl}
use Rattle.std.proofs.lemmas.Result.{err_from_is_err_and}
use Rattle.std.specs.Fmt.{signed_decimal}
use Rattle.rt_text.specs.Commands.{counted}
use Rattle.rt_peers.proofs.Steps.{refused_as, replied_as}
use Rattle.rt_peers.proofs.commands.reading.count.Goals as goal

pub returns-in_err-distances : goal.returns-in_err-distances
returns-in_err-distances c =
    let p = err_from_is_err_and c.from_residual.result c.from_residual.ensures.1 in
    rw p.1 (refl, refused_as (map signed_decimal) c.args.view.now _ _ p.0 c.in_err-distances.field-0.0 (λ i. counted c.args.view.now (c.all.ensures i) (c.text.ensures i) (c.text-2.ensures i)) c.in_err-distances.ensures.err p.2)

pub returns : goal.returns
returns c = replied_as (map signed_decimal) c.args.view.now _ _ c.in_ok-distances.distances.items c.numbers.result (λ i. counted c.args.view.now (c.all.ensures i) (c.text.ensures i) (c.text-2.ensures i)) c.in_ok-distances.ensures.ok (rw (← c.deref.ensures.value) c.numbers.ensures.ok) c.numbers.ensures.err
