use Rattle.std.proofs.Common.{◌<◌, [], ◌∷◌, ◌++◌, length, take, sym, ap, ◌∙◌, arith, append_assoc}
use Rattle.std.proofs.lemmas.List.{take_more}
use Rattle.rt_oplog.specs.Runs.{places_of}
use Rattle.rt_oplog.proofs.blocks.push_run.Goals as goal

pub loop-number-preserved : goal.loop-number-preserved
loop-number-preserved c =
    let old = c.args.places.now.items in
    let xs = places_of c.args.run in
    let i = c.loop-number.number in
    let place = c.place.result in
    let l : i < length xs = omega (arith, c.loop-number-test.true, c.len-number-end.ensures) in
    c.in_ok-push.ensures.items ∙ ap (λ ys. ys ++ place ∷ []) c.loop-number.invariant ∙ append_assoc old (take i xs) (place ∷ [])
    ∙ ap (λ ys. old ++ ys) (ap (λ p. take i xs ++ p ∷ []) (c.place.ensures place) ∙ sym (take_more xs i place l))
