use Rattle.std.proofs.Common.{◌≡◌, ◌∙◌, arith, false, subst, sym}
use Rattle.std.specs.Prelude.{IfSome}
use Rattle.rt_tags.specs.Toggles.{count_of}
use Rattle.rt_tree.specs.Summaries.{tagged_as}
use Rattle.rt_tree.proofs.Reaching.{told}
use Rattle.rt_tree.proofs.Seeking.{tells_none}
use Rattle.rt_tree.proofs.Skipping.{low_is}
use Rattle.rt_tree.proofs.reach.has_none.Goals as goal

pub returns-then-seen-gt0-clause-some : goal.returns-then-seen-gt0-clause-some
returns-then-seen-gt0-clause-some c shown s is t off =
    let w = c.args.wanted.now in
    let none = (tells_none c.args.states.now w.tag w.on shown s c.requires.tag is off).0 in
    absurd (omega (arith, none, t.borders, c.if-seen-gt0.true))

pub returns-in-Some-clause-none : goal.returns-in-Some-clause-none
returns-in-Some-clause-none c shown s is t e =
    let w = c.args.wanted.now in
    let none : count_of w.tag s.counts ≡ 0 = omega (arith, t.borders, c.if-seen-gt0.false) in
    let off = sym c.state_is.ensures ∙ low_is c.state_is.result e in
    told c.args.states.now w.tag w.on shown s c.requires.tag is none
    (subst (λ o. IfSome o (λ x. tagged_as c.args.states.now w.tag w.on x ≡ false)) (sym c.in-Some.is ∙ t.first) off)
