use Rattle.std.proofs.Common.{◌≤◌, ◌≡◌, ℕ, ◌+◌, List, length, get_or, arith, refl, sym, ap, ◌∙◌, subst}
use Rattle.std.specs.List.{AllByRecursion}
use Rattle.rt_tags.specs.States.{IsState, TagStates}
use Rattle.rt_tree.specs.declared.node.Entry.{Entry}
use Rattle.rt_tree.specs.declared.node.Run.{Run}
use Rattle.rt_tree.specs.declared.summed.Summaries.{Summaries}
use Rattle.rt_tree.specs.Changes.{IsGrown, bare, strip}
use Rattle.rt_tree.specs.Shape.{Memory, runs}
use Rattle.rt_tree.specs.Summaries.{AreSummed, AreTold, HaveMemory, shown_states}
use Rattle.rt_tree.proofs.Told.{shown_few, shown_given, told_split}
use Rattle.rt_tree.specs.Sums.{AreFew, counts_of}
use Rattle.rt_tree.proofs.Fills.{filled_root}
use Rattle.rt_tree.proofs.Spare.{spare_root}
use Rattle.rt_tree.proofs.Standing.{stay_then}
use Rattle.rt_tree.proofs.room.cut_root.Goals as goal

pub cut_node-requires-clause-node : goal.cut_node-requires-clause-node
cut_node-requires-clause-node c = let g = c.add_root-new.ensures.grown in (omega (arith, g.new, g.longer, c.requires.tree.root_is), λ e. omega (arith, e, g.new, c.requires.tree.root_is))

pub cut_node-requires-clause-parent : goal.cut_node-requires-clause-parent
cut_node-requires-clause-parent c = sym c.add_root-new.ensures.grown.parent

pub cut_node-requires-clause-within : goal.cut_node-requires-clause-within
cut_node-requires-clause-within c = omega (arith, ap length c.add_root-new.ensures.grown.at_q)

pub cut_node-requires-clause-slot : goal.cut_node-requires-clause-slot
cut_node-requires-clause-slot c e is = ap strip (is ∙ ap (λ (l : List Entry). get_or l 0 e) c.add_root-new.ensures.grown.at_q)

pub cut_node-requires-clause-parent_room : goal.cut_node-requires-clause-parent_room
cut_node-requires-clause-parent_room c = omega (arith, ap length c.add_root-new.ensures.grown.at_q)

pub cut_node-requires-clause-few : goal.cut_node-requires-clause-few
cut_node-requires-clause-few c = subst (λ (l : List Run). AreFew (counts_of l)) (sym c.add_root-new.ensures.runs) c.requires.few

pub returns-clause-filled : goal.returns-clause-filled
returns-clause-filled c =
    let m = c.args.mem.now in let m1 = c.add_root-new.new.mem in let m2 = c.cut_node.new.mem in
    let r = c.args.root.index in let q = c.add_root-new.result.index in
    filled_root m m1 m2 c.args.height r q c.cut_node.result.index c.add_root-new.ensures.grown c.cut_node.ensures.halves c.requires.tree.root_is c.requires.full (omega (arith, c.cut_node.ensures.wider, ap length c.add_root-new.ensures.grown.at_q)) c.requires.filled

pub add_root-new-requires-clause-room : goal.add_root-new-requires-clause-room
add_root-new-requires-clause-room c =
    let two = spare_root c.args.mem.now c.args.height c.args.root.index c.args.root.index c.requires.tree c.requires.filled c.requires.room c.requires.full refl in
    omega (arith, two)

pub cut_node-requires-clause-room : goal.cut_node-requires-clause-room
cut_node-requires-clause-room c =
    let two = spare_root c.args.mem.now c.args.height c.args.root.index c.args.root.index c.requires.tree c.requires.filled c.requires.room c.requires.full refl in
    omega (arith, two, c.add_root-new.ensures.room)

pub returns-clause-room : goal.returns-clause-room
returns-clause-room c = let hv = c.cut_node.ensures.halves in let g = c.add_root-new.ensures.grown in omega (arith, c.add_root-new.ensures.room, c.cut_node.ensures.room, hv.new, hv.longer, g.new, g.longer)

pub add_root-new-requires-clause-exact : goal.add_root-new-requires-clause-exact
add_root-new-requires-clause-exact c = c.requires.exact

pub add_root-new-requires-clause-few : goal.add_root-new-requires-clause-few
add_root-new-requires-clause-few c = c.requires.few

pub add_root-new-requires-clause-height : goal.add_root-new-requires-clause-height
add_root-new-requires-clause-height c = c.requires.height

pub add_root-new-requires-clause-tree : goal.add_root-new-requires-clause-tree
add_root-new-requires-clause-tree c = c.requires.tree

pub overflow_add-top : goal.overflow_add-top
overflow_add-top c = omega (arith, c.requires.height)

pub returns-clause-exact : goal.returns-clause-exact
returns-clause-exact c = c.cut_node.ensures.exact

pub returns-clause-height : goal.returns-clause-height
returns-clause-height c = refl

pub returns-clause-runs : goal.returns-clause-runs
returns-clause-runs c = c.cut_node.ensures.runs ∙ c.add_root-new.ensures.runs

pub returns-clause-tree : goal.returns-clause-tree
returns-clause-tree c = c.cut_node.ensures.tree

pub cut_node-requires-clause-exact : goal.cut_node-requires-clause-exact
cut_node-requires-clause-exact c = c.add_root-new.ensures.exact

pub cut_node-requires-clause-tree : goal.cut_node-requires-clause-tree
cut_node-requires-clause-tree c = c.add_root-new.ensures.tree

pub add_root-new-requires-clause-summed : goal.add_root-new-requires-clause-summed
add_root-new-requires-clause-summed c = c.requires.told.each

pub add_root-new-requires-clause-many : goal.add_root-new-requires-clause-many
add_root-new-requires-clause-many c = c.requires.told.many

pub add_root-new-requires-clause-memory : goal.add_root-new-requires-clause-memory
add_root-new-requires-clause-memory c = c.requires.told.memory

pub add_root-new-requires-clause-tags : goal.add_root-new-requires-clause-tags
add_root-new-requires-clause-tags c = c.requires.told.tags

pub add_root-new-requires-clause-given : goal.add_root-new-requires-clause-given
add_root-new-requires-clause-given c = shown_given c.args.states.now (runs (bare c.args.mem.now) c.args.height c.args.root.index) c.requires.told.given

pub add_root-new-requires-clause-short : goal.add_root-new-requires-clause-short
add_root-new-requires-clause-short c =
    let few = shown_few (runs (bare c.args.mem.now) c.args.height c.args.root.index) in
    omega (arith, few, c.requires.short)

-- the old root below the new one
grown : (m n : Memory) (table : TagStates) (s s' : Summaries) (h r q : ℕ) (g : IsGrown m n h r q) → runs (bare n) (h + 1) q ≡ runs (bare m) h r → AreTold table m s (runs (bare m) h r) → AreSummed table n s'.each.items → length s'.each.items ≡ length s.each.items → HaveMemory s' → s'.tags ≡ s.tags → n.room + 1 ≡ m.room → AreTold table n s' (runs (bare n) (h + 1) q)
grown m n table s s' h r q g same told summed many memory tags room =
    told_split m n table s s' (runs (bare m) h r) (runs (bare n) (h + 1) q) same told summed many memory tags (omega (arith, room, g.new, g.longer))

pub cut_node-requires-clause-summed : goal.cut_node-requires-clause-summed
cut_node-requires-clause-summed c = c.add_root-new.ensures.summed

pub cut_node-requires-clause-many : goal.cut_node-requires-clause-many
cut_node-requires-clause-many c =
    let e = c.add_root-new.ensures in let g = e.grown in
    omega (arith, c.requires.told.many, e.many, e.room, g.new, g.longer)

pub cut_node-requires-clause-memory : goal.cut_node-requires-clause-memory
cut_node-requires-clause-memory c = c.add_root-new.ensures.memory

pub cut_node-requires-clause-tags : goal.cut_node-requires-clause-tags
cut_node-requires-clause-tags c = let e = c.add_root-new.ensures.tags in omega (arith, e, c.requires.told.tags)

pub cut_node-requires-clause-given : goal.cut_node-requires-clause-given
cut_node-requires-clause-given c =
    let old = runs (bare c.args.mem.now) c.args.height c.args.root.index in
    subst (λ rs. AllByRecursion (IsState c.args.states.now) (shown_states rs)) (sym c.add_root-new.ensures.runs) (shown_given c.args.states.now old c.requires.told.given)

pub cut_node-requires-clause-short : goal.cut_node-requires-clause-short
cut_node-requires-clause-short c =
    let few = shown_few (runs (bare c.args.mem.now) c.args.height c.args.root.index) in
    let same = ap (λ rs. length (shown_states rs)) c.add_root-new.ensures.runs in
    omega (arith, few, same, c.requires.short)

pub returns-clause-told : goal.returns-clause-told
returns-clause-told c =
    let m = c.args.mem.now in let n = c.add_root-new.new.mem in let o = c.cut_node.new.mem in let h = c.args.height in let r = c.args.root.index in let q = c.add_root-new.result.index in
    let e = c.add_root-new.ensures in let f = c.cut_node.ensures in let hv = f.halves in
    told_split n o c.args.states.now c.add_root-new.new.sums c.cut_node.new.sums (runs (bare n) (h + 1) q) (runs (bare o) (h + 1) q) f.runs
    (grown m n c.args.states.now c.args.sums.now c.add_root-new.new.sums h r q e.grown e.runs c.requires.told e.summed e.many e.memory e.tags e.room)
    f.summed f.many f.memory f.tags (let a = f.room in omega (arith, a, hv.new, hv.longer))

pub returns-clause-tags : goal.returns-clause-tags
returns-clause-tags c = c.cut_node.ensures.tags ∙ c.add_root-new.ensures.tags

pub returns-clause-longer : goal.returns-clause-longer
returns-clause-longer c = let g = c.add_root-new.ensures.grown in let hv = c.cut_node.ensures.halves in omega (arith, g.new, g.longer, hv.new, hv.longer)

pub returns-clause-stay : goal.returns-clause-stay
returns-clause-stay c =
    let g = c.add_root-new.ensures.grown in
    let longer : length c.args.mem.now.heads ≤ length c.add_root-new.new.mem.heads = omega (arith, g.new, g.longer) in
    stay_then c.args.mem.now c.add_root-new.new.mem c.cut_node.new.mem longer c.add_root-new.ensures.stay c.cut_node.ensures.stay
