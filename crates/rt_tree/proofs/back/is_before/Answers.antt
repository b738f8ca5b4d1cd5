use Rattle.std.proofs.Common.{◌∙◌, ap}
use Rattle.rt_tree.specs.Reaches.{reached_back}
use Rattle.rt_tree.specs.Summaries.{shown_states, tagged_as}
use Rattle.rt_tree.proofs.Returning.{back-none, back-zero}
use Rattle.rt_tree.proofs.back.is_before.Goals as goal

pub returns-then-upto-eq0 : goal.returns-then-upto-eq0
returns-then-upto-eq0 c rs is e =
    let test = tagged_as c.args.states.now c.args.wanted.now.tag c.args.wanted.now.on in
    ap (λ n. reached_back test n rs) c.if-upto-eq0.true ∙ back-zero test rs

pub returns-else-upto-eq0 : goal.returns-else-upto-eq0
returns-else-upto-eq0 c rs is e =
    back-none (tagged_as c.args.states.now c.args.wanted.now.tag c.args.wanted.now.on) c.args.upto rs (c.passes_nowhere.ensures (shown_states rs) is e)
