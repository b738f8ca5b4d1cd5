use Rattle.std.proofs.Common.{◌≡◌, ◌∙◌, ◌+◌, ◌-◌, ◌<◌, ◌∷◌, ap, arith, length, take}
use Rattle.std.specs.Prelude.{reverse}
use Rattle.std.proofs.lemmas.Result.{err_from_is_err_and}
use Rattle.rt_plans.proofs.PlanLaws.{spent}
use Rattle.rt_undo.specs.Actions.{action_of, group_of}
use Rattle.rt_revert.specs.Plans.{named_action, named_group}
use Rattle.rt_revert.specs.Reverting.{with_each_reverted}
use Rattle.rt_revert.proofs.Acted.{action_given, action_sound, group_left}
use Rattle.rt_revert.proofs.Had.{action_had}
use Rattle.rt_revert.proofs.Reaching.{group_early, group_step}
use Rattle.rt_revert.proofs.reverting.revert_all.Goals as goal

pub revert-requires-clause-given : goal.revert-requires-clause-given
revert-requires-clause-given g c =
    action_given c.args.kept.now c.args.group.now (c.loop-left.left - 1) c.index-group-left.result (omega (arith, c.loop-left.invariant.within)) c.index-group-left.is c.requires.given

pub revert-requires-clause-sound : goal.revert-requires-clause-sound
revert-requires-clause-sound g c =
    action_sound c.args.kept.now c.args.group.now (c.loop-left.left - 1) c.index-group-left.result (omega (arith, c.loop-left.invariant.within)) c.index-group-left.is c.requires.sound

pub loop-left-preserved : goal.loop-left-preserved
loop-left-preserved g c =
    let table = c.args.kept.now in
    let group = c.args.group.now in
    let left = c.loop-left.left in
    let action = c.index-group-left.result in
    let less : left - 1 < length group = omega (arith, c.loop-left.invariant.within) in
    let one : left ≡ left - 1 + 1 = omega arith in
    let step : reverse (named_group table (group_of (take left group))) ≡ named_action table (action_of action) ∷ reverse (named_group table (group_of (take (left - 1) group))) =
    ap (λ n. reverse (named_group table (group_of (take n group)))) one ∙ group_left table group (left - 1) action less c.index-group-left.is in
    record {
      within = omega (arith, less);
      copy = c.in_ok-revert.ensures.copy;
      agrees = c.in_ok-revert.ensures.agrees;
      going = c.in_ok-revert.ensures.going;
      so_far = λ part r had s. group_step table c.args.site.number (g.S.TextStore.list c.loop-left.copy) c.loop-left.plan part (reverse (named_group table (group_of (take left group))))
          (reverse (named_group table (group_of (take (left - 1) group)))) (named_action table (action_of action)) (with_each_reverted (reverse (named_group table (group_of group))) r)
          (g.S.TextStore.list c.revert.new.copy) c.revert.new.plan step (c.loop-left.invariant.so_far part r had s)
          (λ q. c.in_ok-revert.ensures.so_far part q (action_had part group (left - 1) action less c.index-group-left.is had));
    }

pub returns-in_err-revert-clause-err : goal.returns-in_err-revert-clause-err
returns-in_err-revert-clause-err g c =
    let p = err_from_is_err_and c.from_residual.result c.from_residual.ensures.1 in
    let table = c.args.kept.now in
    let group = c.args.group.now in
    let left = c.loop-left.left in
    let action = c.index-group-left.result in
    let less : left - 1 < length group = omega (arith, c.loop-left.invariant.within) in
    let one : left ≡ left - 1 + 1 = omega arith in
    let step : reverse (named_group table (group_of (take left group))) ≡ named_action table (action_of action) ∷ reverse (named_group table (group_of (take (left - 1) group))) =
    ap (λ n. reverse (named_group table (group_of (take n group)))) one ∙ group_left table group (left - 1) action less c.index-group-left.is in
    rw (p.1, p.2) (spent
    (λ k part r had s. group_early table c.args.site.number (g.S.TextStore.list c.loop-left.copy) c.loop-left.plan part (reverse (named_group table (group_of (take left group))))
    (reverse (named_group table (group_of (take (left - 1) group)))) (named_action table (action_of action)) (with_each_reverted (reverse (named_group table (group_of group))) r)
    step (c.loop-left.invariant.so_far part r had s) (λ q. k part q (action_had part group (left - 1) action less c.index-group-left.is had)))
    c.in_err-revert.ensures.err)
