use Rattle.std.proofs.Common.{◌≡◌, ◌==◌, ◌∙◌, ℕ, Bool, ap, arith, cond, sym, vec_capacity}
use Rattle.rt_tags.specs.Toggles.{count_in}
use Rattle.rt_tags.proofs.ManyCounts.{room_once}
use Rattle.rt_tags.proofs.Settings.{not_same}
use Rattle.rt_tags.proofs.walk.put_if.Goals as goal

pub put-requires-clause-room : goal.put-requires-clause-room
put-requires-clause-room c = λ none.
    let r = room_once (vec_capacity c.args.counts.now) c.args.tag c.args.counts.now.items c.requires.placed.once c.requires.others c.requires.within
    (ap (λ (x : ℕ). count_in x c.args.counts.now.items) (sym c.at.ensures) ∙ none) in
    omega (arith, r, c.args.counts.now.ok.0)

pub returns-then-is_so-clause-others : goal.returns-then-is_so-clause-others
returns-then-is_so-clause-others c = λ t more.
    let w = c.requires.within in
    let same = c.put.ensures.capacity in
    let is = c.at.ensures in
    let old = c.requires.others t (omega (arith, more, same)) in
    let k = c.put.ensures.counts t in
    let z : cond (c.at.result == t) 1 0 ≡ 0 = ap {A = Bool} {B = ℕ} (λ d. cond d 1 0) (not_same c.at.result t (λ e. absurd (omega (arith, e, is, more, same, w)))) in
    omega (arith, old, k, z)
