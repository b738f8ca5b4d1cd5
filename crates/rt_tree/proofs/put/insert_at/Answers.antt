use Rattle.std.proofs.Common.{◌≡◌, ℕ, ◌+◌, ◌<◌, ◌≤◌, ◌++◌, insert, length, List, arith, sym, ap, ◌∙◌, subst}
use Rattle.std.specs.List.{AllByRecursion}
use Rattle.rt_nodes.specs.Nodes.{entries}
use Rattle.rt_tags.specs.States.{IsState}
use Rattle.rt_tree.specs.declared.node.Entry.TheVariants.{Here}
use Rattle.rt_tree.specs.declared.node.Run.{Run}
use Rattle.rt_tree.specs.Changes.{AreExact, bare, links}
use Rattle.rt_tree.specs.Shape.{IsShape, Memory, ahead, all_below, behind, level_of, runs}
use Rattle.rt_tree.specs.Sums.{AreFew, counts_of}
use Rattle.rt_tree.specs.Summaries.{shown_states}
use Rattle.rt_tree.proofs.Rooms.{put_at}
use Rattle.rt_tree.proofs.Standing.{ahead_insert, here_insert, stay_but, stay_insert}
use Rattle.rt_tree.proofs.Told.{AreGiven, given_insert, insert_few, shown_few, shown_given, told_next}
use Rattle.rt_tree.proofs.put.insert_at.Goals as goal

put_in : (m : Memory) (h r x i place : ℕ) (old : List Run) (run : Run) → IsShape (bare m) h r → AreExact m → (x < length m.heads) × (level_of (bare m) x ≡ 0) → i ≤ length (entries m x) → runs (bare m) h r ≡ old → length (ahead (bare m) h x) + i ≡ place → ahead (bare m) h x ++ (all_below (bare m) 0 (links (insert (entries m x) i (Here run))) ++ behind (bare m) h x) ≡ insert old place run
put_in m h r x i place old run t exact leaf le same at = put_at m h r t exact x leaf.0 leaf.1 i run le ∙ ap (λ l. insert l (length (ahead (bare m) h x) + i) run) same ∙ ap (λ k. insert old k run) at

pub insert_run-requires-clause-few : goal.insert_run-requires-clause-few
insert_run-requires-clause-few c =
    let e = c.make_room-place.ensures in let p = c.make_room-place.result in
    let m = c.args.mem.now in let h = c.args.top.height in let r = c.args.top.root.index in
    subst (λ (l : List Run). AreFew (counts_of l)) (sym (put_in c.make_room-place.new.mem h r p.leaf.index p.entry (length (ahead (bare m) h c.args.place.leaf.index) + c.args.place.entry) (runs (bare m) h r) c.args.run e.tree e.exact e.leaf e.within e.runs e.place)) c.requires.still_few

pub returns-clause-runs : goal.returns-clause-runs
returns-clause-runs c =
    let e = c.make_room-place.ensures in let p = c.make_room-place.result in
    let m = c.args.mem.now in let h = c.args.top.height in let r = c.args.top.root.index in
    c.insert_run.ensures.runs ∙ put_in c.make_room-place.new.mem h r p.leaf.index p.entry (length (ahead (bare m) h c.args.place.leaf.index) + c.args.place.entry) (runs (bare m) h r) c.args.run e.tree e.exact e.leaf e.within e.runs e.place

pub insert_run-requires-clause-summed : goal.insert_run-requires-clause-summed
insert_run-requires-clause-summed c = c.make_room-place.ensures.told.each

pub insert_run-requires-clause-many : goal.insert_run-requires-clause-many
insert_run-requires-clause-many c = let a = c.make_room-place.ensures.told.many in omega (arith, a)

pub insert_run-requires-clause-memory : goal.insert_run-requires-clause-memory
insert_run-requires-clause-memory c = c.make_room-place.ensures.told.memory

pub insert_run-requires-clause-tags : goal.insert_run-requires-clause-tags
insert_run-requires-clause-tags c = c.make_room-place.ensures.told.tags

pub insert_run-requires-clause-given : goal.insert_run-requires-clause-given
insert_run-requires-clause-given c =
    let e = c.make_room-place.ensures in let p = c.make_room-place.result in
    let m = c.args.mem.now in let h = c.args.top.height in let r = c.args.top.root.index in
    let n = length (ahead (bare m) h c.args.place.leaf.index) + c.args.place.entry in
    let table = c.args.states.now in
    subst (λ rs. AllByRecursion (IsState table) (shown_states rs)) (sym (put_in c.make_room-place.new.mem h r p.leaf.index p.entry n (runs (bare m) h r) c.args.run e.tree e.exact e.leaf e.within e.runs e.place))
    (shown_given table (insert (runs (bare m) h r) n c.args.run) (given_insert table (runs (bare m) h r) n c.args.run c.requires.state c.requires.told.given))

pub insert_run-requires-clause-short : goal.insert_run-requires-clause-short
insert_run-requires-clause-short c =
    let e = c.make_room-place.ensures in let p = c.make_room-place.result in
    let m = c.args.mem.now in let h = c.args.top.height in let r = c.args.top.root.index in
    let n = length (ahead (bare m) h c.args.place.leaf.index) + c.args.place.entry in
    let same = ap (λ rs. length (shown_states rs)) (put_in c.make_room-place.new.mem h r p.leaf.index p.entry n (runs (bare m) h r) c.args.run e.tree e.exact e.leaf e.within e.runs e.place) in
    let few = shown_few (insert (runs (bare m) h r) n c.args.run) in
    let more = insert_few (runs (bare m) h r) n c.args.run in
    omega (arith, same, few, more, c.requires.short)

pub returns-clause-told : goal.returns-clause-told
returns-clause-told c =
    let e = c.insert_run.ensures in
    let m = c.args.mem.now in let h = c.args.top.height in let r = c.args.top.root.index in
    let n = length (ahead (bare m) h c.args.place.leaf.index) + c.args.place.entry in
    let table = c.args.states.now in
    let given = subst (AreGiven table) (sym (returns-clause-runs c)) (given_insert table (runs (bare m) h r) n c.args.run c.requires.state c.requires.told.given) in
    told_next c.make_room-place.new.mem c.insert_run.new.mem table c.make_room-place.new.sums c.insert_run.new.sums (runs (bare c.make_room-place.new.mem) h r) (runs (bare c.insert_run.new.mem) h r) given c.make_room-place.ensures.told e.summed e.many e.memory e.tags (omega (arith, e.room.0, e.room.1))

pub returns-clause-tags : goal.returns-clause-tags
returns-clause-tags c = c.insert_run.ensures.tags ∙ c.make_room-place.ensures.tags

pub returns-clause-longer : goal.returns-clause-longer
returns-clause-longer c = omega (arith, c.make_room-place.ensures.longer, c.insert_run.ensures.room.1)

pub returns-clause-stay : goal.returns-clause-stay
returns-clause-stay c =
    let e = c.make_room-place.ensures in let p = c.make_room-place.result in let m = c.make_room-place.new.mem in
    let own = stay_insert m c.insert_run.new.mem c.args.top.height c.args.top.root.index p.leaf.index p.entry c.args.run e.tree e.leaf.0 c.insert_run.ensures.bare in
    stay_but c.args.mem.now m c.insert_run.new.mem e.longer e.stay p.leaf.index c.args.run own

pub returns-clause-leaf : goal.returns-clause-leaf
returns-clause-leaf c =
    let leaf = c.make_room-place.ensures.leaf in let is = c.insert_run.ensures.bare in let long = c.insert_run.ensures.room.1 in
    (omega (arith, leaf.0, long), ap (λ (b : Memory). level_of b c.make_room-place.result.leaf.index) is ∙ leaf.1)

pub returns-clause-here : goal.returns-clause-here
returns-clause-here c =
    let e = c.make_room-place.ensures in let p = c.make_room-place.result in let m = c.make_room-place.new.mem in
    here_insert m c.insert_run.new.mem c.args.top.height c.args.top.root.index p.leaf.index p.entry c.args.run e.tree e.leaf.0 e.within c.insert_run.ensures.bare

pub returns-clause-place : goal.returns-clause-place
returns-clause-place c =
    let e = c.make_room-place.ensures in let p = c.make_room-place.result in let m = c.make_room-place.new.mem in
    let same = ap length (ahead_insert m c.insert_run.new.mem c.args.top.height c.args.top.root.index p.leaf.index p.entry c.args.run e.tree e.leaf.0 e.leaf.1 c.insert_run.ensures.bare) in
    omega (arith, same, e.place)
