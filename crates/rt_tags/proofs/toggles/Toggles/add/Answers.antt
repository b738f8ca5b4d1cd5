use Rattle.std.proofs.Common.{◌≡◌, ◌∙◌, ◌+◌, ◌==◌, ◌<◌, ap, cond, subst, sym, length, insert, arith}
use Rattle.rt_tags.specs.Toggles.{AreFrom, count_in, count_of}
use Rattle.rt_tags.proofs.Counts.{inserted, more_at, place, set_at, stands}
use Rattle.rt_tags.proofs.toggles.Toggles.add.Goals as goal

pub insert_count-requires-clause-room : goal.insert_count-requires-clause-room
insert_count-requires-clause-room c =
    let view = c.self.view_is in
    let count : c.spot_of-spot.result.count ≡ count_in c.args.tag c.self.inside.counts.items = c.spot_of-spot.ensures.count ∙ ap (count_in c.args.tag) c.as_slice.ensures.value in
    let room = c.requires.room (sym (ap (count_of c.args.tag) view) ∙ sym count ∙ c.if-spot-eq0.true) in
    omega (arith, room, ap (λ t. length t.counts) view, ap (λ t. t.capacity) view, ap length c.as_slice.ensures.value, c.as_slice.ensures.len)

pub invariant_of-self : goal.invariant_of-self
invariant_of-self c =
    let xs = c.self.inside.counts.items in
    let count : c.spot_of-spot.result.count ≡ count_in c.args.tag xs = c.spot_of-spot.ensures.count ∙ ap (count_in c.args.tag) c.as_slice.ensures.value in
    let at : c.spot_of-spot.result.place ≡ place c.args.tag xs = c.spot_of-spot.ensures.place ∙ ap (place c.args.tag) c.as_slice.ensures.value in
    let n : 0 < c.args.n = omega (arith, c.if-n-eq0.false) in
    subst (AreFrom 0) (sym (c.insert_count.ensures.items ∙ ap (λ i. insert xs i (record { tag = c.args.tag; count = c.args.n })) at))
    (inserted c.args.tag 0 c.args.n xs c.self.invariant (omega arith) (sym count ∙ c.if-spot-eq0.true) n)

pub index_mut-requires : goal.index_mut-requires
index_mut-requires c =
    let xs = c.self.inside.counts.items in
    let count : c.spot_of-spot.result.count ≡ count_in c.args.tag xs = c.spot_of-spot.ensures.count ∙ ap (count_in c.args.tag) c.as_slice.ensures.value in
    let at : c.spot_of-spot.result.place ≡ place c.args.tag xs = c.spot_of-spot.ensures.place ∙ ap (place c.args.tag) c.as_slice.ensures.value in
    let s = stands c.args.tag 0 xs c.self.invariant (omega (arith, count, c.if-spot-eq0.false)) in
    omega (arith, at, s.within, ap length c.as_slice.ensures.value, c.as_slice.ensures.len)

pub invariant_of-self-else-spot-eq0 : goal.invariant_of-self-else-spot-eq0
invariant_of-self-else-spot-eq0 c =
    let xs = c.self.inside.counts.items in
    let count : c.spot_of-spot.result.count ≡ count_in c.args.tag xs = c.spot_of-spot.ensures.count ∙ ap (count_in c.args.tag) c.as_slice.ensures.value in
    let at : c.spot_of-spot.result.place ≡ place c.args.tag xs = c.spot_of-spot.ensures.place ∙ ap (place c.args.tag) c.as_slice.ensures.value in
    let s = stands c.args.tag 0 xs c.self.invariant (omega (arith, count, c.if-spot-eq0.false)) in
    set_at c.args.tag _ _ xs c.self.invariant at s (omega (arith, c.if-spot-eq0.false))

pub returns-else-spot-eq0-clause-counts : goal.returns-else-spot-eq0-clause-counts
returns-else-spot-eq0-clause-counts c t =
    let xs = c.self.inside.counts.items in
    let tag = c.args.tag in
    let count : c.spot_of-spot.result.count ≡ count_in tag xs = c.spot_of-spot.ensures.count ∙ ap (count_in tag) c.as_slice.ensures.value in
    let at : c.spot_of-spot.result.place ≡ place tag xs = c.spot_of-spot.ensures.place ∙ ap (place tag) c.as_slice.ensures.value in
    let s = stands tag 0 xs c.self.invariant (omega (arith, count, c.if-spot-eq0.false)) in
    more_at tag c.args.n t _ _ xs at count s ∙ ap (λ m. m + cond (tag == t) c.args.n 0) (ap (count_of t) c.self.view_is)
