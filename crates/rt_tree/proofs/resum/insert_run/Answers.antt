use Rattle.std.proofs.Common.{◌≡◌, ℕ, ◌<◌, ◌≤◌, ◌∙◌, [], None, ap, arith, get_or, insert, length, refl, subst, sym}
use Rattle.std.specs.List.{AllByRecursion}
use Rattle.rt_nodes.specs.Nodes.{entries}
use Rattle.rt_tags.specs.Borders.{one_or_none}
use Rattle.rt_tags.specs.States.{IsState}
use Rattle.rt_tree.specs.declared.node.Entry.TheVariants.{Here}
use Rattle.rt_tree.specs.declared.node.Run.{Run}
use Rattle.rt_tree.specs.Changes.{kid}
use Rattle.rt_tree.specs.Shape.{Memory, level_of}
use Rattle.rt_tree.specs.Summaries.{shown_states}
use Rattle.rt_tree.proofs.Besides.{beside, own_given}
use Rattle.rt_tree.proofs.Passes.{get-any}
use Rattle.rt_tree.proofs.Replacing.{AreParts, but_there, parts_insert, shown_one, shows_now_there, within_now}
use Rattle.rt_tree.proofs.Wholes.{runs-bare, shape-bare}
use Rattle.rt_tree.proofs.resum.insert_run.Goals as goal

-- the entries of the leaf around the new one
it : (m : Memory) (x i : ℕ) (run : Run) → i ≤ length (entries m x) → AreParts (entries m x) (insert (entries m x) i (Here run)) i run []
it m x i run le = parts_insert (entries m x) i run le

pub put_right-requires-clause-tree : goal.put_right-requires-clause-tree
put_right-requires-clause-tree c = shape-bare c.put_run.new.mem c.args.top.height c.args.top.root.index c.put_run.ensures.tree

pub put_right-requires-clause-leaf : goal.put_right-requires-clause-leaf
put_right-requires-clause-leaf c =
    let x = c.args.place.leaf.index in
    subst (λ (b : Memory). (x < length b.heads) × (level_of b x ≡ 0)) (sym c.put_run.ensures.bare) c.requires.leaf

pub put_right-requires-clause-within : goal.put_right-requires-clause-within
put_right-requires-clause-within c =
    within_now c.args.mem.now c.put_run.new.mem c.args.top.height c.args.top.root.index c.requires.tree c.args.place.leaf.index c.requires.leaf.0 c.requires.leaf.1 c.args.place.entry c.args.run (insert (entries c.args.mem.now c.args.place.leaf.index) c.args.place.entry (Here c.args.run)) [] (it c.args.mem.now c.args.place.leaf.index c.args.place.entry c.args.run c.requires.within) c.put_run.ensures.bare

pub put_right-requires-clause-many : goal.put_right-requires-clause-many
put_right-requires-clause-many c =
    let same = ap (λ (b : Memory). length b.heads) c.put_run.ensures.bare in
    omega (arith, same, c.requires.many)

pub put_right-requires-clause-shows : goal.put_right-requires-clause-shows
put_right-requires-clause-shows c e here =
    shows_now_there c.args.mem.now c.put_run.new.mem c.args.top.height c.args.top.root.index c.requires.tree c.args.place.leaf.index c.requires.leaf.0 c.requires.leaf.1 c.args.place.entry c.args.run (insert (entries c.args.mem.now c.args.place.leaf.index) c.args.place.entry (Here c.args.run)) [] (it c.args.mem.now c.args.place.leaf.index c.args.place.entry c.args.run c.requires.within) c.put_run.ensures.bare e here
    ∙ sym (ap one_or_none c.shown_state-to.ensures.first ∙ shown_one c.args.run)

pub put_right-requires-clause-new : goal.put_right-requires-clause-new
put_right-requires-clause-new c =
    let m = c.put_run.new.mem in
    let h = c.args.top.height in
    let r = c.args.top.root.index in
    let x = c.args.place.leaf.index in
    let i = c.args.place.entry in
    let table = c.args.states.now in
    let leaf = subst (λ (b : Memory). (x < length b.heads) × (level_of b x ≡ 0)) (sym c.put_run.ensures.bare) c.requires.leaf in
    let within = within_now c.args.mem.now m h r c.requires.tree x c.requires.leaf.0 c.requires.leaf.1 i c.args.run (insert (entries c.args.mem.now x) i (Here c.args.run)) [] (it c.args.mem.now x i c.args.run c.requires.within) c.put_run.ensures.bare in
    let e = get_or (entries m x) i (kid 0) in
    let here = get-any (entries m x) i (kid 0) e within in
    let shows = shows_now_there c.args.mem.now m h r c.requires.tree x c.requires.leaf.0 c.requires.leaf.1 i c.args.run (insert (entries c.args.mem.now x) i (Here c.args.run)) [] (it c.args.mem.now x i c.args.run c.requires.within) c.put_run.ensures.bare e here
    ∙ sym (ap one_or_none c.shown_state-to.ensures.first ∙ shown_one c.args.run) in
    own_given m h r (shape-bare m h r c.put_run.ensures.tree) x leaf.0 leaf.1 i e c.shown_state-to.result within here shows table
    (subst (λ rs. AllByRecursion (IsState table) (shown_states rs)) (sym c.put_run.ensures.runs ∙ runs-bare m h r) c.requires.given)

pub put_right-requires-clause-beside : goal.put_right-requires-clause-beside
put_right-requires-clause-beside c =
    let m = c.put_run.new.mem in
    let h = c.args.top.height in
    let r = c.args.top.root.index in
    let x = c.args.place.leaf.index in
    let i = c.args.place.entry in
    let table = c.args.states.now in
    let leaf = subst (λ (b : Memory). (x < length b.heads) × (level_of b x ≡ 0)) (sym c.put_run.ensures.bare) c.requires.leaf in
    let within = within_now c.args.mem.now m h r c.requires.tree x c.requires.leaf.0 c.requires.leaf.1 i c.args.run (insert (entries c.args.mem.now x) i (Here c.args.run)) [] (it c.args.mem.now x i c.args.run c.requires.within) c.put_run.ensures.bare in
    let e = get_or (entries m x) i (kid 0) in
    let here = get-any (entries m x) i (kid 0) e within in
    let shows = shows_now_there c.args.mem.now m h r c.requires.tree x c.requires.leaf.0 c.requires.leaf.1 i c.args.run (insert (entries c.args.mem.now x) i (Here c.args.run)) [] (it c.args.mem.now x i c.args.run c.requires.within) c.put_run.ensures.bare e here
    ∙ sym (ap one_or_none c.shown_state-to.ensures.first ∙ shown_one c.args.run) in
    let are = sym c.put_run.ensures.runs ∙ runs-bare m h r in
    beside m h r (shape-bare m h r c.put_run.ensures.tree) x leaf.0 leaf.1 i e c.shown_state-to.result within here shows table
    (subst (λ rs. AllByRecursion (IsState table) (shown_states rs)) are c.requires.given)
    (let long = ap (λ rs. length (shown_states rs)) are in omega (arith, long, c.requires.short))

pub put_right-requires-clause-but : goal.put_right-requires-clause-but
put_right-requires-clause-but c =
    let m = c.args.mem.now in
    let x = c.args.place.leaf.index in
    let i = c.args.place.entry in
    but_there m c.put_run.new.mem c.args.top.height c.args.top.root.index c.requires.tree x c.requires.leaf.0 c.requires.leaf.1 i c.args.run (insert (entries m x) i (Here c.args.run)) [] (it m x i c.args.run c.requires.within) c.put_run.ensures.bare c.args.states.now c.args.sums.now.each.items c.requires.summed None refl
