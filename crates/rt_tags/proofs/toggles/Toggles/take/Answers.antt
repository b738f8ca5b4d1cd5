use Rattle.std.proofs.Common.{◌≡◌, ◌∙◌, ◌+◌, ◌==◌, ◌≤◌, ap, cond, subst, sym, length, arith}
use Rattle.rt_tags.specs.Toggles.{AreFrom, count_in, count_of}
use Rattle.rt_tags.proofs.Counts.{less_at, none_at, place, removed, set_at, stands}
use Rattle.rt_tags.proofs.toggles.Toggles.take.Goals as goal

pub invariant_of-self : goal.invariant_of-self
invariant_of-self c = subst (AreFrom 0) (sym c.remove.ensures.items) (removed 0 c.spot_of-spot.result.place c.self.inside.counts.items c.self.invariant)

pub remove-requires : goal.remove-requires
remove-requires c =
    let xs = c.self.inside.counts.items in
    let tag = c.args.tag in
    let count : c.spot_of-spot.result.count ≡ count_in tag xs = c.spot_of-spot.ensures.count ∙ ap (count_in tag) c.as_slice.ensures.value in
    let at : c.spot_of-spot.result.place ≡ place tag xs = c.spot_of-spot.ensures.place ∙ ap (place tag) c.as_slice.ensures.value in
    let enough : c.args.n ≤ c.spot_of-spot.result.count = omega (arith, c.requires, count, ap (count_of tag) c.self.view_is) in
    let s = stands tag 0 xs c.self.invariant (omega (arith, count, enough, c.if-n-eq0.false)) in
    omega (arith, at, s.within, ap length c.as_slice.ensures.value, c.as_slice.ensures.len)

pub index_mut-requires : goal.index_mut-requires
index_mut-requires c =
    let xs = c.self.inside.counts.items in
    let tag = c.args.tag in
    let count : c.spot_of-spot.result.count ≡ count_in tag xs = c.spot_of-spot.ensures.count ∙ ap (count_in tag) c.as_slice.ensures.value in
    let at : c.spot_of-spot.result.place ≡ place tag xs = c.spot_of-spot.ensures.place ∙ ap (place tag) c.as_slice.ensures.value in
    let enough : c.args.n ≤ c.spot_of-spot.result.count = omega (arith, c.requires, count, ap (count_of tag) c.self.view_is) in
    let s = stands tag 0 xs c.self.invariant (omega (arith, count, enough, c.if-n-eq0.false)) in
    omega (arith, at, s.within, ap length c.as_slice.ensures.value, c.as_slice.ensures.len)

pub invariant_of-self-else-spot-n : goal.invariant_of-self-else-spot-n
invariant_of-self-else-spot-n c =
    let xs = c.self.inside.counts.items in
    let tag = c.args.tag in
    let count : c.spot_of-spot.result.count ≡ count_in tag xs = c.spot_of-spot.ensures.count ∙ ap (count_in tag) c.as_slice.ensures.value in
    let at : c.spot_of-spot.result.place ≡ place tag xs = c.spot_of-spot.ensures.place ∙ ap (place tag) c.as_slice.ensures.value in
    let enough : c.args.n ≤ c.spot_of-spot.result.count = omega (arith, c.requires, count, ap (count_of tag) c.self.view_is) in
    let s = stands tag 0 xs c.self.invariant (omega (arith, count, enough, c.if-n-eq0.false)) in
    set_at tag _ _ xs c.self.invariant at s (omega (arith, enough, c.if-spot-n.false))

pub returns-then-spot-n-clause-counts : goal.returns-then-spot-n-clause-counts
returns-then-spot-n-clause-counts c t =
    let xs = c.self.inside.counts.items in
    let tag = c.args.tag in
    let count : c.spot_of-spot.result.count ≡ count_in tag xs = c.spot_of-spot.ensures.count ∙ ap (count_in tag) c.as_slice.ensures.value in
    let at : c.spot_of-spot.result.place ≡ place tag xs = c.spot_of-spot.ensures.place ∙ ap (place tag) c.as_slice.ensures.value in
    let enough : c.args.n ≤ c.spot_of-spot.result.count = omega (arith, c.requires, count, ap (count_of tag) c.self.view_is) in
    let s = stands tag 0 xs c.self.invariant (omega (arith, count, enough, c.if-n-eq0.false)) in
    sym (ap (count_of t) c.self.view_is) ∙ none_at tag c.args.n t _ _ xs at count s c.if-spot-n.true
    ∙ ap (λ v. count_in t v + cond (tag == t) c.args.n 0) (sym c.remove.ensures.items)

pub returns-else-spot-n-clause-counts : goal.returns-else-spot-n-clause-counts
returns-else-spot-n-clause-counts c t =
    let xs = c.self.inside.counts.items in
    let tag = c.args.tag in
    let count : c.spot_of-spot.result.count ≡ count_in tag xs = c.spot_of-spot.ensures.count ∙ ap (count_in tag) c.as_slice.ensures.value in
    let at : c.spot_of-spot.result.place ≡ place tag xs = c.spot_of-spot.ensures.place ∙ ap (place tag) c.as_slice.ensures.value in
    let enough : c.args.n ≤ c.spot_of-spot.result.count = omega (arith, c.requires, count, ap (count_of tag) c.self.view_is) in
    let s = stands tag 0 xs c.self.invariant (omega (arith, count, enough, c.if-n-eq0.false)) in
    sym (ap (count_of t) c.self.view_is) ∙ less_at tag c.args.n t _ _ xs at count s enough
