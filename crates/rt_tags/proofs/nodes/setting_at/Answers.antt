use Rattle.std.proofs.Common.{◌≡◌, ◌∙◌, ℕ, ap, sym, arith}
use Rattle.rt_tags.specs.SharedStates.{Tree, at_id, setting_of}
use Rattle.rt_tags.proofs.Settings.{setting_below, setting_top, part_even, part_odd}
use Rattle.rt_tags.proofs.Trees.{even_given, first_is, node_settings, odd_given}
use Rattle.rt_tags.proofs.nodes.setting_at.Goals.{then-rest-eq1, else-rest-eq1}
use Rattle.rt_tags.proofs.nodes.setting_at.Goals as goal

pub returns-then-node-rest : goal.returns-then-node-rest
returns-then-node-rest c =
    let nodes = c.args.nodes.now.keys in
    let n = c.node_at-node.result in
    let here = node_settings nodes c.loop-at.at n c.requires.kept c.node_at-node.ensures c.loop-at.rest in
    sym (here ∙ setting_top n.tag n.setting (at_id nodes n.odd) (at_id nodes n.even) c.loop-at.rest (sym c.if-node-rest.true)) ∙ c.loop-at.invariant.settings

pub loop-at-preserved : goal.loop-at-preserved
loop-at-preserved c =
    let nodes = c.args.nodes.now.keys in
    let n = c.node_at-node.result in
    let are = c.requires.kept in
    let at = c.node_at-node.ensures in
    let o = at_id nodes n.odd in
    let e = at_id nodes n.even in
    let here = node_settings nodes c.loop-at.at n are at c.loop-at.rest ∙ setting_below n.tag n.setting o e c.loop-at.rest (λ z. absurd (omega arith)) in
    elim c.if-rest-eq1.branch [
      | then-rest-eq1 w ↦ record {
        given = rw w.at-is (odd_given nodes c.loop-at.at n are at);
        settings = rw w.at-is (sym (here ∙ part_odd o e c.loop-at.rest (omega (arith, w.if-rest-eq1.true))) ∙ c.loop-at.invariant.settings);
      }
      | else-rest-eq1 w ↦ record {
        given = rw w.at-is (even_given nodes c.loop-at.at n are at);
        settings = rw w.at-is (sym (here ∙ part_even o e c.loop-at.rest (omega (arith, w.if-rest-eq1.false))) ∙ c.loop-at.invariant.settings);
      }
    ]

pub returns : goal.returns
returns c =
    let nodes = c.args.nodes.now.keys in
    let z : c.loop-at.at ≡ 0 = omega arith in
    sym (ap (λ (i : ℕ). setting_of (at_id nodes i) c.loop-at.rest) z ∙ ap (λ (v : Tree). setting_of v c.loop-at.rest) (first_is nodes)) ∙ c.loop-at.invariant.settings
