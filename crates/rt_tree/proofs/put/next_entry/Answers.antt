use Rattle.std.proofs.Common.{◌+◌, ◌∙◌, Option, Some, ap, arith, sym}
use Rattle.std.proofs.lemmas.Option.{slice_get-get_or}
use Rattle.rt_nodes.specs.Nodes.{entries}
use Rattle.rt_tree.specs.declared.node.Entry.{Entry}
use Rattle.rt_tree.proofs.put.next_entry.Goals as goal

pub returns-then-run-gt0-clause-run : goal.returns-then-run-gt0-clause-run
returns-then-run-gt0-clause-run c =
    let es = entries c.args.mem.now c.args.spot.leaf.index in
    let some : Entry → Option Entry = λ x. Some x in
    let within = c.if-next-all.false in let long = c.len-all.ensures.value in
    (c.in-Here.run', slice_get-get_or es (c.args.spot.entry + 1) c.read_entry.result (omega (arith, within, long)) ∙ ap some (sym c.read_entry.ensures ∙ c.in-Here.is), c.if-run-gt0.true)
