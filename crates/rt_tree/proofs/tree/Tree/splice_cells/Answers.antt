use Rattle.std.proofs.Common.{ℕ, List, Option, ◌+◌, ◌-◌, ◌^◌, length, refl, arith, ap, sym, ◌∙◌, subst}
use Rattle.std.specs.Prelude.{IfSome}
use Rattle.std.proofs.lemmas.Option.{slice_get_within}
use Rattle.rt_store.specs.declared.cell.Cell.{Cell}
use Rattle.rt_store.specs.Cells.{AreDistinct, put_at}
use Rattle.rt_tree.specs.declared.walk.Found.{Found}
use Rattle.rt_tree.specs.Growing.{EndsThere, GoOnIn}
use Rattle.rt_tree.specs.Holds.{Holds}
use Rattle.rt_tree.specs.Runs.{cells_of_runs}
use Rattle.rt_tree.specs.Shape.{tree_runs}
use Rattle.rt_tree.specs.Sharing.{AreBelowGreatest, AreOnce, NoneIsNewer}
use Rattle.rt_tree.specs.Stretches.{AreChanged}
use Rattle.rt_tree.specs.Tallies.{IsCountOf}
use Rattle.rt_tree.specs.Trees.{TreeValue}
use Rattle.rt_tree.proofs.CellLaws.{counted}
use Rattle.rt_tree.proofs.Cutting.{runs_few}
use Rattle.rt_tree.proofs.Kept.{shows}
use Rattle.rt_tree.proofs.Newest.{upto_more, upto_new, upto_put, upto_was}
use Rattle.rt_tree.proofs.Shared.{distinct_once}
use Rattle.rt_tree.proofs.Splicing.{longer_cells, longer_count, longer_ends, longer_kept, longer_shown, longer_text}
use Rattle.rt_tree.proofs.Showing.{kept_told, own_states, right_from, states_given}
use Rattle.rt_tree.proofs.Sure.{once_before, once_together}
use Rattle.rt_tree.proofs.Typing.{typed_in, typed_next}
use Rattle.rt_tree.proofs.Tallying.{newlines_few, visible_few}
use Rattle.rt_tree.proofs.tree.Tree.splice_cells.Goals as goal

pub counts_with-self-inside-requires-clause-few : goal.counts_with-self-inside-requires-clause-few
counts_with-self-inside-requires-clause-few c =
    let s = c.self.inside in let k = c.self.invariant.kept in let r = c.self.invariant.roomy in
    let n = counted s.text.items (tree_runs s.mem s.root.index) k.kept in
    let i = c.self.invariant.counts in
    let cells = ap (λ (v : TreeValue). v.room.cells) c.self.view_is in
    let ka = k.all in let rf = r.few in let ra = c.requires.room.0 in
    omega (arith, n.cells, i.cells, ka, rf, cells, ra)

pub counts_with-self-inside-requires-clause-below : goal.counts_with-self-inside-requires-clause-below
counts_with-self-inside-requires-clause-below c =
    let s = c.self.inside in
    let all = cells_of_runs s.text.items (tree_runs s.mem s.root.index) in
    let i = c.self.invariant.counts in
    let v = visible_few all in let n = newlines_few all in
    (omega (arith, i.cells, i.visible, v), omega (arith, i.cells, i.newlines, n))

pub put_cells-change-requires-clause-kept : goal.put_cells-change-requires-clause-kept
put_cells-change-requires-clause-kept c =
    let s = c.self.inside in let k = c.self.invariant.kept in
    longer_kept s.text.items c.deref.result.now (tree_runs s.mem s.root.index) c.args.cells.now k.kept (c.deref.ensures.value ∙ c.push_characters.ensures.items)

pub put_cells-change-requires-clause-upto : goal.put_cells-change-requires-clause-upto
put_cells-change-requires-clause-upto c =
    let s = c.self.inside in let old = tree_runs s.mem s.root.index in
    let grown = sym (longer_cells s.text.items c.push_characters.new.text.items old c.args.cells.now c.self.invariant.kept.kept c.push_characters.ensures.items) ∙ ap (λ (t : List ℕ). cells_of_runs t old) (sym c.deref.ensures.value) in
    subst (NoneIsNewer s.newest) grown c.self.invariant.newest

pub put_cells-change-requires-clause-last : goal.put_cells-change-requires-clause-last
put_cells-change-requires-clause-last c =
    let s = c.self.inside in let k = c.self.invariant.kept in
    longer_ends s.text.items c.deref.result.now (tree_runs s.mem s.root.index) c.args.cells.now k.kept (c.deref.ensures.value ∙ c.push_characters.ensures.items)

pub put_cells-change-requires-clause-within : goal.put_cells-change-requires-clause-within
put_cells-change-requires-clause-within c =
    let s = c.self.inside in
    let h = shows s.mem s.root.index s.text.items s.runs c.self.invariant.kept s.sums.each.items c.args.self.now c.self.view_is in
    let w = c.requires.within in let n = h.cells in
    omega (arith, n, w)

pub overflow_add-self : goal.overflow_add-self
overflow_add-self c =
    let s = c.self.inside in let k = c.self.invariant.kept in let r = c.self.invariant.roomy in
    let n = runs_few s.text.items (tree_runs s.mem s.root.index) k.kept in
    let m = c.put_cells-change.ensures.most in
    let cells = ap (λ (v : TreeValue). v.room.cells) c.self.view_is in
    let a = k.counted in let b = k.few in let d = r.few in let e = c.requires.room.0 in
    omega (arith, n, m, cells, a, b, d, e)

pub invariant_of-self : goal.invariant_of-self
invariant_of-self c =
    let s = c.self.inside in let k = c.self.invariant.kept in let r = c.self.invariant.roomy in
    let e = c.put_cells-change.ensures in
    let old = tree_runs s.mem s.root.index in let new = tree_runs c.put_cells-change.new.mem c.put_cells-change.result.root.index in
    let added = c.args.cells.now in let text = c.push_characters.new.text.items in
    let more = c.push_characters.ensures.items in
    let is = subst (λ (t : List ℕ). AreChanged old new t (put_at c.args.at added)) c.deref.ensures.value e.cells in
    let shown_cells = longer_shown s.text.items text old added k.kept more new c.args.at is in
    let h = shows s.mem s.root.index s.text.items s.runs k s.sums.each.items c.args.self.now c.self.view_is in
    let w = c.requires.within in let hc = h.cells in
    let n = longer_count s.text.items text old added k.kept more new c.args.at is (omega (arith, hc, w)) in
    let l = longer_text s.text.items text old added k.kept more in
    let cells = ap (λ (v : TreeValue). v.room.cells) c.self.view_is in
    let cuts = ap (λ (v : TreeValue). v.room.cuts) c.self.view_is in
    let ra = c.requires.room.0 in let rb = c.requires.room.1 in
    let ka = k.all in let kc = k.counted in let rn = r.nodes in let rh = r.holds in let rf = r.few in
    let er = e.runs in let em = e.most in let eo = e.room in let cap = c.push_characters.ensures.capacity in
    record {
      kept = record { tree = e.tree; kept = is.kept; apart = e.apart; counted = omega (arith, kc, er); few = omega (arith, n, rf, ka, cells, ra); all = omega (arith, n, l, ka) };
      roomy = record { nodes = omega (arith, rn, er, em, eo, cells, cuts, ra, rb); holds = omega (arith, rh, l, cap, cells, ra); few = omega (arith, rf, l, cells, ra) };
      newest = subst (NoneIsNewer c.newest_of-self-inside.result) (sym shown_cells) (upto_put c.newest_of-self-inside.result c.args.at added (cells_of_runs s.text.items old) (upto_more s.newest c.newest_of-self-inside.result (cells_of_runs s.text.items old) c.newest_of-self-inside.ensures.least c.self.invariant.newest) c.newest_of-self-inside.ensures.cells);
      home = e.home;
      housed = e.housed;
      steady = λ once below.
          let was = longer_kept s.text.items text old added k.kept more in
          let together = once_together text old new c.args.at added was is.kept is.cells once in
          let down = subst AreBelowGreatest is.cells below in
          let low = subst AreBelowGreatest (longer_cells s.text.items text old added k.kept more) (upto_was (2 ^ 64 - 2) c.args.at added (cells_of_runs text old) down) in
          e.sure (c.self.invariant.steady (once_before text old new c.args.at added was is.kept is.cells once) low)
          (subst (λ (t : List ℕ). AreOnce (cells_of_runs t old) added) (sym c.deref.ensures.value) together)
          (upto_new (2 ^ 64 - 2) c.args.at added (cells_of_runs text old) down);
      spans = (let had = c.self.invariant.spans in let left = e.left in omega (arith, had, left, cells, cuts, ra, rb));
      sums = record { many = e.told.many; memory = e.told.memory; tags = let h = c.self.invariant.sums.tags in omega (arith, h, e.tags) };
      counts = subst (IsCountOf c.counts_with-self-inside.result) (sym shown_cells) (c.counts_with-self-inside.ensures c.args.at (cells_of_runs s.text.items old) c.self.invariant.counts);
      last = subst (λ (l : Option Found). IfSome l (Holds c.put_cells-change.new.mem c.put_cells-change.result.root.index)) (sym c.keep.ensures) e.held;
    }

pub returns-clause-cells : goal.returns-clause-cells
returns-clause-cells c =
    let s = c.self.inside in let k = c.self.invariant.kept in
    let e = c.put_cells-change.ensures in
    let old = tree_runs s.mem s.root.index in let new = tree_runs c.put_cells-change.new.mem c.put_cells-change.result.root.index in
    let is = subst (λ (t : List ℕ). AreChanged old new t (put_at c.args.at c.args.cells.now)) c.deref.ensures.value e.cells in
    longer_shown s.text.items c.push_characters.new.text.items old c.args.cells.now k.kept c.push_characters.ensures.items new c.args.at is
    ∙ ap (λ (v : TreeValue). put_at c.args.at c.args.cells.now v.cells) c.self.view_is

pub returns-clause-runs : goal.returns-clause-runs
returns-clause-runs c =
    let s = c.self.inside in let k = c.self.invariant.kept in
    let e = c.put_cells-change.ensures in
    let old = tree_runs s.mem s.root.index in let added = c.args.cells.now in
    let same = returns-clause-cells c in
    let n = ap (λ (v : TreeValue). v.runs) c.self.view_is in
    let er = e.runs in
    λ distinct.
    let d = subst AreDistinct (same ∙ ap (λ (v : TreeValue). put_at c.args.at added v.cells) (sym c.self.view_is)) distinct in
    let o = distinct_once c.args.at (cells_of_runs s.text.items old) added d in
    let grown = sym (longer_cells s.text.items c.push_characters.new.text.items old added k.kept c.push_characters.ensures.items) ∙ ap (λ (t : List ℕ). cells_of_runs t old) (sym c.deref.ensures.value) in
    let m = e.more (subst (λ (x : List (Cell ℕ)). AreOnce x added) grown o) in
    omega (arith, m, n, er)

pub put_cells-change-requires-clause-told : goal.put_cells-change-requires-clause-told
put_cells-change-requires-clause-told c =
    let s = c.self.inside in
    let tags = ap (λ (v : TreeValue). v.room.tags) c.self.view_is in
    kept_told s.mem s.root.index s.text.items s.runs c.self.invariant.kept s.sums s.spare_tags c.self.invariant.sums c.args.states.now (omega (arith, tags, c.requires.room.2)) _ c.args.self.now c.self.view_is c.requires.agrees

pub returns-clause-agrees : goal.returns-clause-agrees
returns-clause-agrees c =
    let e = c.put_cells-change.ensures in let table = c.args.states.now in let m = c.put_cells-change.new.mem in
    record { given = states_given table c.push_characters.new.text.items (tree_runs m c.put_cells-change.result.root.index) e.told.given; right = right_from table m c.put_cells-change.new.sums.each.items e.told.each }

pub returns-clause-own : goal.returns-clause-own
returns-clause-own c =
    let e = c.put_cells-change.ensures in
    let old = tree_runs c.self.inside.mem c.self.inside.root.index in let new = tree_runs c.put_cells-change.new.mem c.put_cells-change.result.root.index in
    let is = subst (λ (t : List ℕ). AreChanged old new t (put_at c.args.at c.args.cells.now)) c.deref.ensures.value e.cells in
    own_states c.put_cells-change.new.mem c.put_cells-change.result.root.index c.push_characters.new.text.items e.tree is.kept c.put_cells-change.new.sums.each.items c.args.self.now.room

pub returns-clause-typed : goal.returns-clause-typed
returns-clause-typed c distinct on =
    let s = c.self.inside in let k = c.self.invariant.kept in
    let e = c.put_cells-change.ensures in
    let old = tree_runs s.mem s.root.index in let added = c.args.cells.now in
    let text = s.text.items in let longer = c.push_characters.new.text.items in
    let n = ap (λ (v : TreeValue). v.runs) c.self.view_is in
    let d = subst AreDistinct (returns-clause-cells c ∙ ap (λ (v : TreeValue). put_at c.args.at added v.cells) (sym c.self.view_is)) distinct in
    let o = distinct_once c.args.at (cells_of_runs text old) added d in
    let grown = longer_cells text longer old added k.kept c.push_characters.ensures.items in
    let same = sym c.deref.ensures.value in
    let once = subst (λ (x : List (Cell ℕ)). AreOnce x added) (sym grown ∙ ap (λ (t : List ℕ). cells_of_runs t old) same) o in
    let go = typed_in text longer old c.args.at added c.args.self.now k.kept (longer_text text longer old added k.kept c.push_characters.ensures.items) k.all grown
    (ap (λ (v : TreeValue). v.cells) c.self.view_is) (ap (λ (v : TreeValue). v.came) c.self.view_is) on in
    let m = e.typed once (subst (λ (t : List ℕ). GoOnIn t old c.args.at added) same go) in
    let er = e.runs in
    omega (arith, m, n, er)

pub returns-clause-next : goal.returns-clause-next
returns-clause-next c more on =
    let e = c.put_cells-change.ensures in
    let new = tree_runs c.put_cells-change.new.mem c.put_cells-change.result.root.index in let added = c.args.cells.now in
    let text = c.push_characters.new.text.items in
    let k = (invariant_of-self c).kept in
    let n = counted text new k.kept in
    let w = c.requires.within in
    let lt = slice_get_within added (length added - 1) on.last on.is in
    let ends = subst (λ (t : List ℕ). EndsThere new (c.args.at + length added) (length t)) c.deref.ensures.value (e.newest (omega (arith, lt))) in
    typed_next text new c.args.at c.args.self.now.cells added more _ (returns-clause-cells c) refl (omega (arith, w)) ends (n.cells ∙ sym k.all) on
