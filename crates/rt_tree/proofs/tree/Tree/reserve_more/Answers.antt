use Rattle.std.proofs.Common.{ℕ, ◌≡◌, ◌+◌, ◌-◌, ◌/◌, ◌^◌, ◌<◌, ◌≤◌, max, min, Bool, List, Option, None, Result, Ok, Err, OnErr, length, arith, sym, ap, ◌∙◌, subst}
use Rattle.std.proofs.Math.Nat.{min-eq_left}
use Rattle.std.specs.Option.{SomeIff}
use Rattle.rt_store.specs.Cells.{Room}
use Rattle.rt_tree.specs.Homes.{AreHome, AreOnceEach}
use Rattle.rt_nodes.specs.Nodes.{with_room}
use Rattle.rt_tree.specs.declared.summary.Summary.{Summary}
use Rattle.rt_tree.specs.Shape.{Memory, tree_runs}
use Rattle.rt_tree.specs.Summaries.{TellsAs, summary_of}
use Rattle.rt_tree.specs.Runs.{cells_of_runs}
use Rattle.rt_tree.specs.Sharing.{AreBelowGreatest, NoneIsNewer}
use Rattle.rt_tree.specs.Sound.{TreeIsSound}
use Rattle.rt_tree.specs.Tallies.{IsCountOf}
use Rattle.rt_tree.specs.Trees.{IsTreeOfText, TreeValue, tree_value}
use Rattle.rt_tree.proofs.Cutting.{runs_few}
use Rattle.rt_tree.proofs.Housing.{home_keeps}
use Rattle.rt_tree.proofs.Roomier.{room_kept, room_nodes, room_runs, room_shown, room_sums, sums_shown}
use Rattle.rt_tree.proofs.Roomier.{map_housed, room_housed}
use Rattle.rt_tree.proofs.tree.Tree.reserve_more.Goals as goal

pub overflow_add-self-inside : goal.overflow_add-self-inside
overflow_add-self-inside c =
    let s = c.self.inside in let k = c.self.invariant.kept in
    let r = runs_few s.text.items (tree_runs s.mem s.root.index) k.kept in
    let low = c.if-cells-left.false in
    omega (arith, r, low, k.counted, k.few)

pub invariant_of-self-2 : goal.invariant_of-self-2
invariant_of-self-2 c =
    let s = c.self.inside in let k = c.self.invariant.kept in
    let m = s.mem in let root = s.root.index in
    let e = c.in_ok-reserve-4.ensures.room in
    let text = c.in_ok-reserve-2.ensures.items in
    let holds = c.in_ok-reserve-2.ensures.ok in
    let low = c.if-cells-left.false in
    let len = ap length text in
    let leaves = c.reserve.new.self.leaves in
    let spans = c.in_ok-reserve.ensures.ok in let all = c.spans_for.ensures in
    let a = s.text.ok.0 in
    let b = c.reserve-2.new.self.ok.0 in
    let ask : c.in_ok-runs.runs ≡ s.runs + c.ahead-cells.result + c.ahead-cuts.result = (subst (λ (o : Option ℕ). SomeIff o (s.runs + c.ahead-cells.result + c.ahead-cuts.result < 2 ^ 64) (s.runs + c.ahead-cells.result + c.ahead-cuts.result)) c.in_ok-runs.ensures.ok_part c.checked_add.ensures).1 in
    let fits = (subst (λ (o : Option ℕ). SomeIff o (s.runs + c.ahead-cells.result + c.ahead-cuts.result < 2 ^ 64) (s.runs + c.ahead-cells.result + c.ahead-cuts.result)) c.in_ok-runs.ensures.ok_part c.checked_add.ensures).0 in
    let room : Room = record { cells = c.ahead-cells.result; cuts = c.ahead-cuts.result; tags = c.max-tags.result } in
    let sums = c.reserve-3.new.self in
    let got = c.in_ok-reserve-3.ensures in
    let same = ap (λ (t : List ℕ). tree_value c.reserve-4.new.self root t sums.each.items room s.homes.sure) text ∙ room_shown m _ root s.text.items sums.each.items room c.reserve-4.new.self e s.homes.sure in
    let nodes = room_nodes m root s.runs c.ahead-cells.result c.ahead-cuts.result c.saturating_sub.result c.reserve-4.new.self e k.counted (omega (arith, ask, c.saturating_sub.ensures, c.nodes.ensures)) in
    record {
      kept = subst (λ t. IsTreeOfText c.reserve-4.new.self root t s.runs) (sym text) (room_kept m _ root s.text.items s.runs c.reserve-4.new.self e k);
      roomy = record { nodes = nodes; holds = omega (arith, holds, b); few = omega (arith, len, a, low, c.len-left.ensures) };
      newest = subst (NoneIsNewer s.newest) (sym (ap (λ (v : TreeValue). v.cells) same)) c.self.invariant.newest;
      home = λ sure. subst (AreHome leaves) (sym (room_runs m _ root s.text.items s.runs c.reserve-4.new.self e))
          (home_keeps s.homes.leaves leaves (tree_runs m root) (λ stamp none. sym (c.in_ok-reserve.ensures.leaves stamp) ∙ none) (λ stamp none. c.in_ok-reserve.ensures.leaves stamp) (c.self.invariant.home (sym c.in_ok-reserve.ensures.sure ∙ sure)));
      housed = λ sure. room_housed m _ root s.text.items s.runs c.reserve-4.new.self e s.homes.leaves leaves c.in_ok-reserve.ensures.leaves c.in_ok-reserve.ensures.borders
          (c.self.invariant.housed (sym c.in_ok-reserve.ensures.sure ∙ sure));
      steady = λ once below. c.in_ok-reserve.ensures.sure
          ∙ c.self.invariant.steady (subst AreOnceEach (room_runs m _ root s.text.items s.runs c.reserve-4.new.self e) once) (subst AreBelowGreatest (ap (λ (v : TreeValue). v.cells) same) below);
      spans = (let low : min (c.ahead-cells.result + c.ahead-cuts.result) (2 ^ 64 - 1) ≡ c.ahead-cells.result + c.ahead-cuts.result = min-eq_left (omega (arith, fits)) in omega (arith, spans, all, low));
      sums = record {
        many = (
            let h = c.self.invariant.sums.many in
            let asked : c.saturating_sub.result ≡ c.in_ok-runs.runs / 7 + 1 - length m.heads = omega (arith, c.saturating_sub.ensures, c.nodes.ensures) in
            let heads = ap (λ (x : Memory). length x.heads) e in
            let wide = ap (λ (x : Memory). x.room) e ∙ ap (max m.room) asked in
            let low = room_sums (length m.heads) m.room (c.in_ok-runs.runs / 7 + 1) (length sums.each.items) (omega (arith, h, got.kept_nodes)) got.nodes in
            omega (arith, heads, wide, low));
        memory = got.memory;
        tags = got.tags;
      };
      counts = subst (IsCountOf s.counts) (sym (ap (λ (v : TreeValue). v.cells) same)) c.self.invariant.counts;
      last = tt;
    }

-- what is shown once there is room
now_shown : (m : Memory) (n root : ℕ) (text text' : List ℕ) (sums sums' : List Summary) (room : Room) (sure : Bool) (m' : Memory) → text' ≡ text → m' ≡ with_room m n → length m.heads ≤ length sums → ((id : ℕ) → id < length sums → TellsAs (summary_of sums id) (summary_of sums' id)) → tree_value m' root text' sums' room sure ≡ tree_value m root text sums room sure
now_shown m n root text text' sums sums' room sure m' same is many tells =
    ap (λ (t : List ℕ). tree_value m' root t sums' room sure) same ∙ room_shown m n root text sums' room m' is sure ∙ sums_shown m root text sums sums' room sure many tells

pub returns-clause-same : goal.returns-clause-same
returns-clause-same c =
    let s = c.self.inside in
    let room : Room = record { cells = c.ahead-cells.result; cuts = c.ahead-cuts.result; tags = c.max-tags.result } in
    let h = c.self.invariant.sums.many in
    now_shown s.mem _ s.root.index s.text.items _ s.sums.each.items c.reserve-3.new.self.each.items room c.reserve.new.self.sure c.reserve-4.new.self c.in_ok-reserve-2.ensures.items c.in_ok-reserve-4.ensures.room (omega (arith, h)) c.in_ok-reserve-3.ensures.same
    ∙ ap (λ (b : Bool). tree_value s.mem s.root.index s.text.items s.sums.each.items room b) c.in_ok-reserve.ensures.sure
    ∙ ap (λ (v : TreeValue). record v { room = room }) c.self.view_is

always : {A E : Type 0} (r : Result A E) (P : Type 0) → P → OnErr r P
always (Ok x) P p = tt
always (Err e) P p = p

pub returns-in_err-reserve-3-clause-unchanged : goal.returns-in_err-reserve-3-clause-unchanged
returns-in_err-reserve-3-clause-unchanged c =
    let s = c.self.inside in
    let room : Room = record { cells = s.spare_cells; cuts = s.spare_cuts; tags = s.spare_tags } in
    let h = c.self.invariant.sums.many in
    always c.from_residual-in_err-reserve-3.result _
    (ap (λ (t : List ℕ). tree_value s.mem s.root.index t c.reserve-3.new.self.each.items room c.reserve.new.self.sure) c.in_ok-reserve-2.ensures.items
    ∙ sums_shown s.mem s.root.index s.text.items s.sums.each.items c.reserve-3.new.self.each.items room c.reserve.new.self.sure (omega (arith, h)) c.in_err-reserve-3.ensures.same
    ∙ ap (λ (b : Bool). tree_value s.mem s.root.index s.text.items s.sums.each.items room b) c.in_ok-reserve.ensures.sure
    ∙ c.self.view_is)

pub returns-in_err-reserve-4-clause-unchanged : goal.returns-in_err-reserve-4-clause-unchanged
returns-in_err-reserve-4-clause-unchanged c =
    let s = c.self.inside in
    let room : Room = record { cells = s.spare_cells; cuts = s.spare_cuts; tags = s.spare_tags } in
    let h = c.self.invariant.sums.many in
    always c.from_residual-in_err-reserve-4.result _
    (ap (λ (m : Memory). tree_value m s.root.index c.reserve-2.new.self.items c.reserve-3.new.self.each.items room c.reserve.new.self.sure) c.in_err-reserve-4.ensures.refused
    ∙ ap (λ (t : List ℕ). tree_value s.mem s.root.index t c.reserve-3.new.self.each.items room c.reserve.new.self.sure) c.in_ok-reserve-2.ensures.items
    ∙ sums_shown s.mem s.root.index s.text.items s.sums.each.items c.reserve-3.new.self.each.items room c.reserve.new.self.sure (omega (arith, h)) c.in_ok-reserve-3.ensures.same
    ∙ ap (λ (b : Bool). tree_value s.mem s.root.index s.text.items s.sums.each.items room b) c.in_ok-reserve.ensures.sure
    ∙ c.self.view_is)

pub invariant_of-self : goal.invariant_of-self
invariant_of-self c =
    let s = c.self.inside in let i = c.self.invariant in let e = c.in_err-reserve.ensures in
    let leaves = c.reserve.new.self.leaves in
    record {
      kept = i.kept;
      roomy = i.roomy;
      newest = i.newest;
      home = λ sure. home_keeps s.homes.leaves leaves (tree_runs s.mem s.root.index) (λ stamp none. sym (e.leaves stamp) ∙ none) (λ stamp none. e.leaves stamp) (i.home (sym e.sure ∙ sure));
      housed = λ sure. map_housed s.mem s.root.index s.homes.leaves leaves e.leaves e.borders (i.housed (sym e.sure ∙ sure));
      steady = λ once below. e.sure ∙ i.steady once below;
      spans = (let had = i.spans in let more = e.more in omega (arith, had, more));
      sums = i.sums;
      counts = i.counts;
      last = tt;
    }

pub invariant_of-self-in_err-reserve-2 : goal.invariant_of-self-in_err-reserve-2
invariant_of-self-in_err-reserve-2 c =
    let s = c.self.inside in let i = c.self.invariant in let e = c.in_ok-reserve.ensures in
    let leaves = c.reserve.new.self.leaves in
    let same = c.in_err-reserve-2.ensures.items in
    record {
      kept = subst (λ t. IsTreeOfText s.mem s.root.index t s.runs) (sym same) i.kept;
      roomy = (let holds = i.roomy.holds in let few = i.roomy.few in let long = ap length same in let wide = c.reserve-2.ensures.capacity in record { nodes = i.roomy.nodes; holds = omega (arith, holds, long, wide); few = omega (arith, few, long) });
      newest = subst (λ t. NoneIsNewer s.newest (cells_of_runs t (tree_runs s.mem s.root.index))) (sym same) i.newest;
      home = λ sure. home_keeps s.homes.leaves leaves (tree_runs s.mem s.root.index) (λ stamp none. sym (e.leaves stamp) ∙ none) (λ stamp none. e.leaves stamp) (i.home (sym e.sure ∙ sure));
      housed = λ sure. map_housed s.mem s.root.index s.homes.leaves leaves e.leaves e.borders (i.housed (sym e.sure ∙ sure));
      steady = λ once below. e.sure ∙ i.steady once (subst (λ t. AreBelowGreatest (cells_of_runs t (tree_runs s.mem s.root.index))) same below);
      spans = (let had = i.spans in let more = e.more in omega (arith, had, more));
      sums = i.sums;
      counts = subst (λ t. IsCountOf s.counts (cells_of_runs t (tree_runs s.mem s.root.index))) (sym same) i.counts;
      last = tt;
    }

pub invariant_of-self-in_err-reserve-3 : goal.invariant_of-self-in_err-reserve-3
invariant_of-self-in_err-reserve-3 c =
    let s = c.self.inside in let i = c.self.invariant in let e = c.in_ok-reserve.ensures in
    let leaves = c.reserve.new.self.leaves in
    let same = c.in_ok-reserve-2.ensures.items in
    let got = c.in_err-reserve-3.ensures in
    record {
      kept = subst (λ t. IsTreeOfText s.mem s.root.index t s.runs) (sym same) i.kept;
      roomy = (let holds = i.roomy.holds in let few = i.roomy.few in let long = ap length same in let wide = c.reserve-2.ensures.capacity in record { nodes = i.roomy.nodes; holds = omega (arith, holds, long, wide); few = omega (arith, few, long) });
      newest = subst (λ t. NoneIsNewer s.newest (cells_of_runs t (tree_runs s.mem s.root.index))) (sym same) i.newest;
      home = λ sure. home_keeps s.homes.leaves leaves (tree_runs s.mem s.root.index) (λ stamp none. sym (e.leaves stamp) ∙ none) (λ stamp none. e.leaves stamp) (i.home (sym e.sure ∙ sure));
      housed = λ sure. map_housed s.mem s.root.index s.homes.leaves leaves e.leaves e.borders (i.housed (sym e.sure ∙ sure));
      steady = λ once below. e.sure ∙ i.steady once (subst (λ t. AreBelowGreatest (cells_of_runs t (tree_runs s.mem s.root.index))) same below);
      spans = (let had = i.spans in let more = e.more in omega (arith, had, more));
      sums = (let many = i.sums.many in let tags = i.sums.tags in record { many = omega (arith, many, got.kept_nodes); memory = got.memory; tags = omega (arith, tags, got.kept_tags) });
      counts = subst (λ t. IsCountOf s.counts (cells_of_runs t (tree_runs s.mem s.root.index))) (sym same) i.counts;
      last = tt;
    }

pub invariant_of-self-in_err-reserve-4 : goal.invariant_of-self-in_err-reserve-4
invariant_of-self-in_err-reserve-4 c =
    let s = c.self.inside in let i = c.self.invariant in let e = c.in_ok-reserve.ensures in
    let leaves = c.reserve.new.self.leaves in
    let same = c.in_ok-reserve-2.ensures.items in
    let got = c.in_ok-reserve-3.ensures in
    subst (λ (m : Memory). TreeIsSound (record { mem = m; root = s.root; text = c.reserve-2.new.self; runs = s.runs; counts = s.counts; newest = s.newest; homes = c.reserve.new.self; spare_cells = s.spare_cells; spare_cuts = s.spare_cuts; spare_tags = s.spare_tags; sums = c.reserve-3.new.self; last = None })) (sym c.in_err-reserve-4.ensures.refused) (
    record {
      kept = subst (λ t. IsTreeOfText s.mem s.root.index t s.runs) (sym same) i.kept;
      roomy = (let holds = i.roomy.holds in let few = i.roomy.few in let long = ap length same in let wide = c.reserve-2.ensures.capacity in record { nodes = i.roomy.nodes; holds = omega (arith, holds, long, wide); few = omega (arith, few, long) });
      newest = subst (λ t. NoneIsNewer s.newest (cells_of_runs t (tree_runs s.mem s.root.index))) (sym same) i.newest;
      home = λ sure. home_keeps s.homes.leaves leaves (tree_runs s.mem s.root.index) (λ stamp none. sym (e.leaves stamp) ∙ none) (λ stamp none. e.leaves stamp) (i.home (sym e.sure ∙ sure));
      housed = λ sure. map_housed s.mem s.root.index s.homes.leaves leaves e.leaves e.borders (i.housed (sym e.sure ∙ sure));
      steady = λ once below. e.sure ∙ i.steady once (subst (λ t. AreBelowGreatest (cells_of_runs t (tree_runs s.mem s.root.index))) same below);
      spans = (let had = i.spans in let more = e.more in omega (arith, had, more));
      sums = (let many = i.sums.many in let tags = i.sums.tags in record { many = omega (arith, many, got.kept_nodes); memory = got.memory; tags = omega (arith, tags, got.kept_tags) });
      counts = subst (λ t. IsCountOf s.counts (cells_of_runs t (tree_runs s.mem s.root.index))) (sym same) i.counts;
      last = tt;
    })
