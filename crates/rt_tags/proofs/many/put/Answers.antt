use Rattle.std.proofs.Common.{◌≡◌, ℕ, ◌∙◌, ◌==◌, ap, arith, cond, subst, sym, take}
use Rattle.rt_tags.specs.ManyCounts.{ArePlaced}
use Rattle.rt_tags.specs.Toggles.{count_in}
use Rattle.rt_tags.proofs.Counts.{place}
use Rattle.rt_tags.proofs.ManyCounts.{first_there, parts, placed_behind, placed_there, same_first, stands_at, with_behind, with_there}
use Rattle.rt_tags.proofs.many.put.Goals as goal

pub push_reserved-requires : goal.push_reserved-requires
push_reserved-requires c =
    let cs = c.args.counts.now.items in
    let at : c.spot_of-spot.result.count ≡ count_in c.args.tag (take c.args.ordered cs) = c.spot_of-spot.ensures.count ∙ ap (λ v. count_in c.args.tag (take c.args.ordered v)) c.deref.ensures.value in
    let p = parts c.args.tag c.args.ordered cs in
    c.requires.room (omega (arith, at, p, c.if-spot-eq0.true, c.requires.behind))

pub index_mut-requires : goal.index_mut-requires
index_mut-requires c =
    let cs = c.args.counts.now.items in
    let n = c.args.ordered in
    let tag = c.args.tag in
    let count : c.spot_of-spot.result.count ≡ count_in tag (take n cs) = c.spot_of-spot.ensures.count ∙ ap (λ v. count_in tag (take n v)) c.deref.ensures.value in
    let at : c.spot_of-spot.result.place ≡ place tag (take n cs) = c.spot_of-spot.ensures.place ∙ ap (λ v. place tag (take n v)) c.deref.ensures.value in
    let l = stands_at n tag _ _ cs c.requires.placed at count (omega (arith, c.if-spot-eq0.false)) in
    omega (arith, l, c.requires.placed.within, c.args.counts.now.ok.0)

pub returns-then-spot-eq0-clause-placed : goal.returns-then-spot-eq0-clause-placed
returns-then-spot-eq0-clause-placed c =
    let cs = c.args.counts.now.items in
    let at : c.spot_of-spot.result.count ≡ count_in c.args.tag (take c.args.ordered cs) = c.spot_of-spot.ensures.count ∙ ap (λ v. count_in c.args.tag (take c.args.ordered v)) c.deref.ensures.value in
    let p = parts c.args.tag c.args.ordered cs in
    subst (ArePlaced c.args.ordered) (sym c.push_reserved.ensures.items)
    (placed_behind c.args.ordered (record { tag = c.args.tag; count = c.args.more }) cs c.requires.placed (omega (arith, at, p, c.if-spot-eq0.true, c.requires.behind)) c.requires.some)

pub returns-then-spot-eq0-clause-counts : goal.returns-then-spot-eq0-clause-counts
returns-then-spot-eq0-clause-counts c t =
    ap (count_in t) c.push_reserved.ensures.items ∙ with_behind t (record { tag = c.args.tag; count = c.args.more }) c.args.counts.now.items

pub returns-then-spot-eq0-clause-first : goal.returns-then-spot-eq0-clause-first
returns-then-spot-eq0-clause-first c t =
    let e = same_first t c.args.ordered (record { tag = c.args.tag; count = c.args.more }) c.args.counts.now.items c.requires.placed.within in
    let f = ap (λ v. count_in t (take c.args.ordered v)) c.push_reserved.ensures.items in
    omega (arith, e, f)

pub returns-then-spot-eq0-clause-len : goal.returns-then-spot-eq0-clause-len
returns-then-spot-eq0-clause-len c =
    let cs = c.args.counts.now.items in
    let at : c.spot_of-spot.result.count ≡ count_in c.args.tag (take c.args.ordered cs) = c.spot_of-spot.ensures.count ∙ ap (λ v. count_in c.args.tag (take c.args.ordered v)) c.deref.ensures.value in
    let p = parts c.args.tag c.args.ordered cs in
    let z : count_in c.args.tag cs ≡ 0 = omega (arith, at, p, c.if-spot-eq0.true, c.requires.behind) in
    let one = ap {A = ℕ} {B = ℕ} (λ n. cond (n == 0) 1 0) z in
    omega (arith, one, c.push_reserved.ensures.len)

pub returns-else-spot-eq0-clause-placed : goal.returns-else-spot-eq0-clause-placed
returns-else-spot-eq0-clause-placed c =
    let cs = c.args.counts.now.items in
    let n = c.args.ordered in
    let tag = c.args.tag in
    let count : c.spot_of-spot.result.count ≡ count_in tag (take n cs) = c.spot_of-spot.ensures.count ∙ ap (λ v. count_in tag (take n v)) c.deref.ensures.value in
    let at : c.spot_of-spot.result.place ≡ place tag (take n cs) = c.spot_of-spot.ensures.place ∙ ap (λ v. place tag (take n v)) c.deref.ensures.value in
    placed_there n tag _ _ cs c.requires.placed at count (omega (arith, c.if-spot-eq0.false)) _ (omega (arith, c.if-spot-eq0.false))

pub returns-else-spot-eq0-clause-counts : goal.returns-else-spot-eq0-clause-counts
returns-else-spot-eq0-clause-counts c t =
    let cs = c.args.counts.now.items in
    let n = c.args.ordered in
    let tag = c.args.tag in
    let count : c.spot_of-spot.result.count ≡ count_in tag (take n cs) = c.spot_of-spot.ensures.count ∙ ap (λ v. count_in tag (take n v)) c.deref.ensures.value in
    let at : c.spot_of-spot.result.place ≡ place tag (take n cs) = c.spot_of-spot.ensures.place ∙ ap (λ v. place tag (take n v)) c.deref.ensures.value in
    with_there n tag _ _ cs c.requires.placed at count (omega (arith, c.if-spot-eq0.false)) t c.args.more

pub returns-else-spot-eq0-clause-first : goal.returns-else-spot-eq0-clause-first
returns-else-spot-eq0-clause-first c t =
    let cs = c.args.counts.now.items in
    let n = c.args.ordered in
    let tag = c.args.tag in
    let count : c.spot_of-spot.result.count ≡ count_in tag (take n cs) = c.spot_of-spot.ensures.count ∙ ap (λ v. count_in tag (take n v)) c.deref.ensures.value in
    let at : c.spot_of-spot.result.place ≡ place tag (take n cs) = c.spot_of-spot.ensures.place ∙ ap (λ v. place tag (take n v)) c.deref.ensures.value in
    let e = first_there n tag _ _ cs c.requires.placed at count (omega (arith, c.if-spot-eq0.false)) t c.args.more in
    omega (arith, e)
