use Rattle.std.proofs.Common.{◌≡◌, ◌∙◌, ap, sym}
use Rattle.rt_nodes.specs.Nodes.{entries}
use Rattle.rt_tags.specs.Borders.{one_or_none}
use Rattle.rt_tree.specs.declared.node.Entry.{Entry}
use Rattle.rt_tree.specs.Shape.{below}
use Rattle.rt_tree.specs.Summaries.{shown_states}
use Rattle.rt_tree.proofs.Passes.{get-any}
use Rattle.rt_tree.proofs.Replacing.{shown_one}
use Rattle.rt_tree.proofs.resum.shown_at.Goals as goal

pub returns-in-Here : goal.returns-in-Here
returns-in-Here c e here =
    let m = c.args.mem.now in
    let own = c.read_entry.result in
    let to : e ≡ own = here ∙ get-any (entries m c.args.leaf.index) c.args.i e own c.requires.within ∙ sym c.read_entry.ensures in
    ap (λ (x : Entry). shown_states (below m 0 x)) (to ∙ c.in-Here.is) ∙ sym (ap one_or_none c.shown_state.ensures.first ∙ shown_one c.in-Here.run')

pub returns-in-Down : goal.returns-in-Down
returns-in-Down c e here =
    let m = c.args.mem.now in
    let own = c.read_entry.result in
    let to : e ≡ own = here ∙ get-any (entries m c.args.leaf.index) c.args.i e own c.requires.within ∙ sym c.read_entry.ensures in
    ap (λ (x : Entry). shown_states (below m 0 x)) (to ∙ c.in-Down.is)
