use Rattle.std.proofs.Common.{◌≡◌, ◌∙◌, ◌+◌, ◌-◌, ◌≤◌, ap, arith, get_or, insert, length, subst, sym, take}
use Rattle.std.proofs.lemmas.List.{length-take-le}
use Rattle.rt_tags.specs.ManyCounts.{ArePlaced}
use Rattle.rt_tags.proofs.Counts.{place}
use Rattle.rt_tags.proofs.PlacedLast.{placed_last}
use Rattle.rt_tags.proofs.many.place_last.Goals as goal

pub returns-clause-placed : goal.returns-clause-placed
returns-clause-placed c =
    let cs = c.args.counts.now.items in
    let last = c.index-last.result.now in
    let k = c.len-2.result - 1 in
    let n = c.args.ordered in
    let at = c.spot_of-place.result.place in
    let less : k + 1 ≡ length cs = omega (arith, c.len-2.ensures, c.args.counts.now.ok.0, c.requires.more) in
    let same : c.len.result - 1 ≡ k = omega (arith, c.len.ensures, c.len-2.ensures) in
    let is : last ≡ get_or cs k last = c.index-last.ensures ∙ ap (λ i. get_or cs i last) same in
    let p : at ≡ place last.tag (take n (take k cs)) = c.spot_of-place.ensures.place ∙ ap (λ v. place last.tag (take n v)) (c.deref.ensures.value ∙ c.truncate.ensures.items) in
    let short = length-take-le n c.deref.result.now (omega (arith, c.deref.ensures.len, c.truncate.ensures.len, less, c.requires.more, c.args.counts.now.ok.0)) in
    let w : at ≤ n = omega (arith, c.spot_of-place.ensures.within, short) in
    subst (ArePlaced (n + 1)) (sym (c.insert_count.ensures.items ∙ ap (λ v. insert v at last) c.truncate.ensures.items))
    (placed_last n k at cs last c.requires.placed (omega (arith, less, c.requires.more, c.args.counts.now.ok.0)) less is p w)
