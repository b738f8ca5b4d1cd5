use Rattle.std.proofs.Common.{◌∙◌, ◌<◌, arith, subst, sym}
use Rattle.std.proofs.lemmas.Bool.{true≢false}
use Rattle.rt_tree.specs.Reaches.{reached}
use Rattle.rt_tree.specs.Summaries.{shown_states, tagged_as}
use Rattle.rt_tree.proofs.Reaching.{reached-far, reached-none}
use Rattle.rt_tree.proofs.Seeking.{is_there}
use Rattle.rt_tree.proofs.reach.is_past.Goals as goal

pub returns-then-visible-from-clause-past : goal.returns-then-visible-from-clause-past
returns-then-visible-from-clause-past c rs s is t v e =
    reached-far (tagged_as c.args.states.now c.args.wanted.now.tag c.args.wanted.now.on) c.args.from rs (omega (arith, v, c.if-visible-from.true)) ∙ sym v

pub returns-then-from-eq0-clause-past : goal.returns-then-from-eq0-clause-past
returns-then-from-eq0-clause-past c rs s is t v e =
    reached-none (tagged_as c.args.states.now c.args.wanted.now.tag c.args.wanted.now.on) c.args.from rs (c.has_none.ensures.none (shown_states rs) s is t e) ∙ sym v

pub returns-then-from-eq0-clause-there : goal.returns-then-from-eq0-clause-there
returns-then-from-eq0-clause-there c rs s is t v some z e =
    let test = tagged_as c.args.states.now c.args.wanted.now.tag c.args.wanted.now.on in
    let l = is_there test rs some (λ off. true≢false (sym (c.has_none.ensures.some (shown_states rs) s is t off) ∙ e)) in
    subst (λ n. reached test n rs < c.args.visible) (sym z) (subst (λ n. reached test 0 rs < n) (sym v) l)
