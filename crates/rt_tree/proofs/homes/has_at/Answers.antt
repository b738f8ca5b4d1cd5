use Rattle.std.proofs.Common.{◌∙◌, Option, Some, ap, sym, true≢false}
use Rattle.std.proofs.lemmas.Option.{slice_get-get_or}
use Rattle.rt_nodes.specs.Nodes.{entries}
use Rattle.rt_tree.specs.declared.node.Entry.{Entry}
use Rattle.rt_tree.proofs.homes.has_at.Goals as goal

pub returns-in-Down : goal.returns-in-Down
returns-in-Down c = λ h. absurd (true≢false (sym h))

pub returns-in-Here : goal.returns-in-Here
returns-in-Here c = λ h.
    let es = entries c.args.mem.now c.args.node.index in
    let some : Entry → Option Entry = λ x. Some x in
    (c.in-Here.run', slice_get-get_or es c.args.i c.read_entry.result c.requires.1 ∙ ap some (sym c.read_entry.ensures ∙ c.in-Here.is), sym c.has.ensures ∙ h)
