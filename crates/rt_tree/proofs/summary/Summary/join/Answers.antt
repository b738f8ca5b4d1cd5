use Rattle.std.proofs.Common.{◌≡◌, ◌≤◌, ◌∙◌, ℕ, arith, length, subst}
use Rattle.rt_tags.specs.Toggles.{AreFrom, count_of}
use Rattle.rt_tags.proofs.Together.{together}
use Rattle.rt_tree.proofs.Summing.{joined_summary}
use Rattle.rt_tree.proofs.summary.Summary.join.Goals as goal

pub add_all-requires-clause-room : goal.add_all-requires-clause-room
add_all-requires-clause-room c =
    let names = c.args.states.now.names in
    let own = c.add_border.new.self in
    let others = c.args.other.now.counts in
    let none : (tag : ℕ) → length names ≤ tag → count_of tag own ≡ 0 = λ tag far. c.add_border.ensures.others tag far ∙ c.requires.room.others tag far in
    let all = together (length names) 0 others.counts own.counts (subst (AreFrom 0) c.counts-2.ensures.counts c.counts-2.ensures.order) (subst (AreFrom 0) c.counts.ensures.counts c.counts.ensures.order) c.requires.others none in
    let r = c.requires.room.room in
    let e = c.add_border.ensures.capacity in
    omega (arith, all, r, e)

pub returns-clause-joined : goal.returns-clause-joined
returns-clause-joined c xs ys one other =
    joined_summary c.args.states.now xs ys c.args.self.now c.args.other.now (record { first = c.either-self.result; last = c.either-self-2.result; counts = c.add_all.new.self }) one other
    c.either-self.ensures c.either-self-2.ensures
    (λ tag h. let a = c.add_border.ensures.given tag h in let b = c.add_all.ensures.counts tag in omega (arith, a, b))
    (λ tag far.
    let a = c.add_border.ensures.others tag far in
    let b = c.add_all.ensures.counts tag in
    let z = c.requires.room.others tag far in
    let w = c.requires.others tag far in
    omega (arith, a, b, z, w))
