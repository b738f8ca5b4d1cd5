use Rattle.std.proofs.Common.{◌+◌, ◌∙◌, ◌<◌, ap, arith, get_or, length, refl, sym, subst}
use Rattle.rt_nodes.specs.Nodes.{entries}
use Rattle.rt_tree.specs.declared.node.Counts.{Counts}
use Rattle.rt_tree.specs.declared.node.Entry.TheVariants.{Here}
use Rattle.rt_tree.specs.Holds.{IsHeld}
use Rattle.rt_tree.specs.Sums.{AreFew, plus}
use Rattle.rt_tree.proofs.Ends.{counts_with, next_held}
use Rattle.rt_tree.proofs.Going.{get-at}
use Rattle.rt_tree.proofs.Puts.{some_entry}
use Rattle.rt_tree.proofs.Rising.{few-before}
use Rattle.rt_tree.proofs.near.behind.Goals as goal

pub overflow_add-entry : goal.overflow_add-entry
overflow_add-entry c =
    let f = c.args.found.now in
    let lt = some_entry (entries c.args.mem.now f.spot.leaf.index) f.spot.entry (Here f.run) c.requires.held.here in
    omega (arith, lt, c.len-all.ensures.value)

pub plus-before-requires : goal.plus-before-requires
plus-before-requires c =
    let m = c.args.mem.now in let r = c.args.root.index in let f = c.args.found.now in let i = f.spot.entry + 1 in let held = c.requires.held in
    let few = few-before m r c.requires.tree f.spot.leaf.index i held.is held.low c.requires.few in
    let same = counts_with m r f.spot.leaf.index f.spot.entry i f.run f.before held refl in
    subst (λ (x : Counts). AreFew (plus f.before x)) (sym c.counts_of_run.ensures) (subst AreFew (sym same) few)

pub returns-in-Here : goal.returns-in-Here
returns-in-Here c =
    let m = c.args.mem.now in let r = c.args.root.index in let f = c.args.found.now in let i = f.spot.entry + 1 in
    let next = c.in-Here.run' in
    let lt : i < length (entries m f.spot.leaf.index) = omega (arith, c.if-entry-all.false, c.len-all.ensures.value) in
    let there = get-at (entries m f.spot.leaf.index) i (Here next) lt (sym c.in-Here.is ∙ c.read_entry.ensures ∙ ap (get_or (entries m f.spot.leaf.index) i) c.in-Here.is) in
    let stands = next_held m r f.spot.leaf.index f.spot.entry i f.run next f.before c.requires.held refl there in
    subst (λ (x : Counts). IsHeld m r f.spot.leaf.index i next x) (sym (c.plus-before.ensures ∙ ap (plus f.before) c.counts_of_run.ensures)) stands
