-- The runs of a span, updated from stamp to stamp.
use Rattle.std.proofs.Common.{◌≡◌, ℕ, ◌+◌, ◌<◌, ◌≤◌, Bool, true, false, List, [], ◌∷◌, ◌++◌, length, map, refl, sym, ap, ◌∙◌, arith, if◌then◌else◌, subst}
use Rattle.std.specs.Prelude.{◌&&◌, nat_lt}
use Rattle.std.specs.List.{AllByRecursion}
use Rattle.std.proofs.lemmas.Bool.Decides.{nat_tests}
use Rattle.rt_nodes.specs.declared.memory.NodeId.{NodeId}
use Rattle.rt_spans.specs.Shown.{SpanMapValue}
use Rattle.rt_stamps.specs.declared.stamp.Span.{Span}
use Rattle.rt_stamps.specs.declared.stamp.Stamp.{Stamp}
use Rattle.rt_store.specs.Cells.{is_in_span}
use Rattle.rt_store.proofs.Distinct.{split}
use Rattle.rt_tree.specs.declared.update.CellUpdate.{CellUpdate}
use Rattle.rt_tree.specs.declared.update.CellUpdate.TheVariants.{Gone, State}
use Rattle.rt_tree.specs.declared.node.Counts.{Counts}
use Rattle.rt_tree.specs.declared.node.Run.{Run}
use Rattle.rt_tree.specs.Homes.{AreHome, AreOnceEach, IsNew, UpdatesOn, holders, run_to}
use Rattle.rt_tree.specs.Runs.{IsRun, first_stamp, has_cell}
use Rattle.rt_tree.specs.Sharing.{IsChangedAt, run_in}
use Rattle.rt_tree.specs.Skips.{HasCells}
use Rattle.rt_tree.specs.Stretches.{AreRunsOfText, updated_run}
use Rattle.rt_tree.specs.Sums.{counts_of}
use Rattle.rt_tree.specs.Walks.{IsBehind}
use Rattle.rt_tree.proofs.Apart.{bit}
use Rattle.rt_tree.proofs.Edges.{one_spot}
use Rattle.rt_tree.proofs.Housing.{holders-cons, holders-mid, same_home}
use Rattle.rt_tree.proofs.Pieces.{run_updated}
use Rattle.rt_tree.proofs.Shared.{first_has}

-- WHAT STAYS

update_if : (t : Bool) (update : CellUpdate) (r : Run) (P : Run → Type 0) → P r → P (updated_run update r) → P (if t then updated_run update r else r)
update_if true update r P old new = new
update_if false update r P old new = old

update_has : (update : CellUpdate) (r : Run) (stamp : Stamp) → has_cell (updated_run update r) stamp ≡ has_cell r stamp
update_has Gone r stamp = refl
update_has (State state) r stamp = refl

update_len : (update : CellUpdate) (r : Run) → (updated_run update r).len ≡ r.len
update_len Gone r = refl
update_len (State state) r = refl

update_first : (update : CellUpdate) (r : Run) → first_stamp (updated_run update r) ≡ first_stamp r
update_first Gone r = refl
update_first (State state) r = refl

module _ (span : Span) (update : CellUpdate) (count : ℕ) where
  abbrev test : Run → Bool
  test r = is_in_span span (first_stamp r) && nat_lt r.first count

  pub has_to : (r : Run) (stamp : Stamp) → has_cell (run_to span count update r) stamp ≡ has_cell r stamp
  has_to r stamp = update_if (test r) update r (λ (x : Run). has_cell x stamp ≡ has_cell r stamp) refl (update_has update r stamp)

  pub len_to : (r : Run) → (run_to span count update r).len ≡ r.len
  len_to r = update_if (test r) update r (λ (x : Run). x.len ≡ r.len) refl (update_len update r)

  pub first_to : (r : Run) → first_stamp (run_to span count update r) ≡ first_stamp r
  first_to r = update_if (test r) update r (λ (x : Run). first_stamp x ≡ first_stamp r) refl (update_first update r)

  holders_to : (rs : List Run) (stamp : Stamp) → holders stamp (map (run_to span count update) rs) ≡ holders stamp rs
  holders_to [] stamp = refl
  holders_to (r ∷ rs) stamp =
      let a = holders-cons stamp (run_to span count update r) (map (run_to span count update) rs) in
      let b = holders-cons stamp r rs in
      let h = ap bit (has_to r stamp) in
      let i = holders_to rs stamp in
      omega (arith, a, b, h, i)

  pub home_to : (leaves : SpanMapValue NodeId) (old new : List Run) → new ≡ map (run_to span count update) old → AreHome leaves old → AreHome leaves new
  home_to leaves old new is home = same_home leaves old new (λ stamp. ap (holders stamp) is ∙ holders_to old stamp) home

  kept_each : (text : List ℕ) (rs : List Run) → AllByRecursion (IsRun text) rs → AllByRecursion (IsRun text) (map (run_to span count update) rs)
  kept_each text [] all = tt
  kept_each text (r ∷ rs) all = (update_if (test r) update r (IsRun text) all.0 (run_updated text update r all.0), kept_each text rs all.1)

  pub kept_to : (old new : List Run) → new ≡ map (run_to span count update) old → AreRunsOfText old → AreRunsOfText new
  kept_to old new is kept = record { text = kept.text; short = kept.short; runs = subst (AllByRecursion (IsRun kept.text)) (sym is) (kept_each kept.text old kept.runs) }

  counts_each : (rs : List Run) → (counts_of (map (run_to span count update) rs)).cells ≡ (counts_of rs).cells
  counts_each [] = refl
  counts_each (r ∷ rs) = let l = len_to r in let i = counts_each rs in omega (arith, l, i)

  pub counts_to : (old new : List Run) → new ≡ map (run_to span count update) old → (counts_of new).cells ≡ (counts_of old).cells
  counts_to old new is = ap (λ l. (counts_of l).cells) is ∙ counts_each old

-- ALL OF A SPAN

none_yet : (span : Span) (update : CellUpdate) (r : Run) → run_to span span.first update r ≡ r
none_yet span update r =
    let t : (is_in_span span (first_stamp r) && nat_lt r.first span.first) ≡ false = split (is_in_span span (first_stamp r) && nat_lt r.first span.first) (λ y. absurd (grind (arith, nat_tests))) (λ n. n) in
    ap (λ b. if b then updated_run update r else r) t

pub at_first : (span : Span) (update : CellUpdate) (rs : List Run) → rs ≡ map (run_to span span.first update) rs
at_first span update [] = refl
at_first span update (r ∷ rs) = ap (λ x. x ∷ rs) (sym (none_yet span update r)) ∙ ap (λ l. run_to span span.first update r ∷ l) (at_first span update rs)

all_so_far : (span : Span) (update : CellUpdate) (count : ℕ) (r : Run) → span.last < count → run_to span count update r ≡ run_in span update r
all_so_far span update count r far =
    let t : (is_in_span span (first_stamp r) && nat_lt r.first count) ≡ is_in_span span (first_stamp r) = split (is_in_span span (first_stamp r))
    (λ y. let l : nat_lt r.first count ≡ true = grind (arith, nat_tests) in rw (y, l) refl)
    (λ n. rw n refl) in
    ap (λ b. if b then updated_run update r else r) t

pub at_last : (span : Span) (update : CellUpdate) (count : ℕ) (rs : List Run) → span.last < count → map (run_to span count update) rs ≡ map (run_in span update) rs
at_last span update count [] far = refl
at_last span update count (r ∷ rs) far = ap (λ x. x ∷ map (run_to span count update) rs) (all_so_far span update count r far) ∙ ap (λ l. run_in span update r ∷ l) (at_last span update count rs far)

update_twice : (update : CellUpdate) (r : Run) → updated_run update (updated_run update r) ≡ updated_run update r
update_twice Gone r = refl
update_twice (State state) r = refl

in_twice : (span : Span) (update : CellUpdate) (count : ℕ) (r : Run) → run_in span update (run_to span count update r) ≡ run_in span update r
in_twice span update count r =
    ap (λ (s : Stamp). if is_in_span span s then updated_run update (run_to span count update r) else run_to span count update r) (first_to span update count r)
    ∙ split (is_in_span span (first_stamp r))
    (λ y. rw y (split (nat_lt r.first count) (λ l. rw l (update_twice update r)) (λ l. rw l refl)))
    (λ n. rw n refl)

pub then_all : (span : Span) (update : CellUpdate) (count : ℕ) (rs : List Run) → map (run_in span update) (map (run_to span count update) rs) ≡ map (run_in span update) rs
then_all span update count [] = refl
then_all span update count (r ∷ rs) = ap (λ x. x ∷ map (run_in span update) (map (run_to span count update) rs)) (in_twice span update count r) ∙ ap (λ l. run_in span update r ∷ l) (then_all span update count rs)

-- WHAT IS LEFT OF A SPAN

-- a span from a later count on
abbrev left_of : Span → ℕ → Span
left_of span count = record span { first = count }

then_left : (span : Span) (update : CellUpdate) (count next : ℕ) (r : Run) → span.first ≤ count → count ≤ next → run_to (left_of span count) next update (run_to span count update r) ≡ run_to span next update r
then_left span update count next r low up =
    let left = left_of span count in
    ap (λ (s : Stamp). if is_in_span left s && nat_lt s.count next then updated_run update (run_to span count update r) else run_to span count update r) (first_to span update count r)
    ∙ split (is_in_span span (first_stamp r))
    (λ y. split (nat_lt r.first count)
    (λ b.
    let out : is_in_span left (first_stamp r) ≡ false = split (is_in_span left (first_stamp r)) (λ z. absurd (grind (arith, nat_tests))) (λ z. z) in
    let far : nat_lt r.first next ≡ true = grind (arith, nat_tests) in
    rw (y, b, out, far) refl)
    (λ b. let in_left : is_in_span left (first_stamp r) ≡ true = grind (arith, nat_tests) in rw (y, b, in_left) refl))
    (λ n.
    let out : is_in_span left (first_stamp r) ≡ false = split (is_in_span left (first_stamp r)) (λ z. absurd (grind (arith, nat_tests))) (λ z. z) in
    rw (n, out) refl)

then_each : (span : Span) (update : CellUpdate) (count next : ℕ) (rs : List Run) → span.first ≤ count → count ≤ next → map (run_to (left_of span count) next update) (map (run_to span count update) rs) ≡ map (run_to span next update) rs
then_each span update count next [] low up = refl
then_each span update count next (r ∷ rs) low up =
    ap (λ x. x ∷ map (run_to (left_of span count) next update) (map (run_to span count update) rs)) (then_left span update count next r low up)
    ∙ ap (λ l. run_to span next update r ∷ l) (then_each span update count next rs low up)

-- where what is left of a span was updated up to a count, the span was
pub rest_on : (span : Span) (update : CellUpdate) (count next : ℕ) (old new : List Run) → span.first ≤ count → UpdatesOn (left_of span count) update count next old new → UpdatesOn span update count next old new
rest_on span update count next old new low on = record {
  later = on.later;
  updates = λ rs is.
      on.updates old (at_first (left_of span count) update old)
      ∙ ap (map (run_to (left_of span count) next update)) is
      ∙ then_each span update count next rs low (let l = on.later in omega (arith, l));
}

-- FROM STAMP TO STAMP

pub in_it : (span : Span) (count : ℕ) (run : Run) → span.first ≤ count → count ≤ span.last → has_cell run (record { count = count; site = span.site }) ≡ true → run.first ≡ count → (run.site ≡ span.site) × (is_in_span span (first_stamp run) ≡ true)
in_it span count run low high h first =
    let s : run.site ≡ span.site = grind (arith, nat_tests) in
    (s, grind (arith, nat_tests))

each_left : (a b : List Run) → AllByRecursion HasCells (a ++ b) → AllByRecursion HasCells a
each_left [] b all = tt
each_left (r ∷ a) b all = (all.0, each_left a b all.1)

each_right : (a : List Run) (r : Run) (b : List Run) → AllByRecursion HasCells (a ++ r ∷ b) → AllByRecursion HasCells b
each_right [] r b all = all.1
each_right (x ∷ a) r b all = each_right a r b all.1

module _ (span : Span) (update : CellUpdate) (count : ℕ) where
  -- a run that doesn't begin with the counts that are passed
  same_to : (next : ℕ) (r : Run) → count ≤ next → (is_in_span span (first_stamp r) ≡ true → count ≤ r.first → r.first < next → ⊥) → run_to span next update r ≡ run_to span count update r
  same_to next r le out =
      let t : (is_in_span span (first_stamp r) && nat_lt r.first next) ≡ (is_in_span span (first_stamp r) && nat_lt r.first count) = split (is_in_span span (first_stamp r))
      (λ y. split (nat_lt r.first count)
      (λ l. let m : nat_lt r.first next ≡ true = grind (arith, nat_tests) in rw (y, l, m) refl)
      (λ l. let m : nat_lt r.first next ≡ false = split (nat_lt r.first next) (λ z. absurd (let a : count ≤ r.first = grind (arith, nat_tests) in let b : r.first < next = grind (arith, nat_tests) in out y a b)) (λ z. z) in rw (y, l, m) refl))
      (λ n. rw n refl) in
      ap (λ b. if b then updated_run update r else r) t

  abbrev now : Stamp
  now = record { count = count; site = span.site }

  begins : (r : Run) → 0 < r.len → is_in_span span (first_stamp r) ≡ true → count ≤ r.first → r.first < count + 1 → has_cell r now ≡ true
  begins r some y a b = grind (arith, nat_tests)

  -- no run has the stamp
  nobody : (rs : List Run) → AllByRecursion HasCells (map (run_to span count update) rs) → holders now (map (run_to span count update) rs) ≡ 0 → map (run_to span (count + 1) update) rs ≡ map (run_to span count update) rs
  nobody [] some none = refl
  nobody (r ∷ rs) some none =
      let c = holders-cons now (run_to span count update r) (map (run_to span count update) rs) in
      let b = ap bit (has_to span update count r now) in
      let l = len_to span update count r in
      let e = same_to (count + 1) r (omega arith) (λ y a z. let h = ap bit (begins r (let s = some.0 in omega (arith, s, l)) y a z) in omega (arith, c, none, b, h)) in
      ap (λ x. x ∷ map (run_to span (count + 1) update) rs) e ∙ ap (λ m. run_to span count update r ∷ m) (nobody rs some.1 (omega (arith, c, none)))

  pub nowhere_on : (old : List Run) → AllByRecursion HasCells old → holders now old ≡ 0 → UpdatesOn span update count (count + 1) old old
  nowhere_on old some none = record {
    later = omega arith;
    updates = λ rs e. e ∙ sym (nobody rs (subst (AllByRecursion HasCells) e some) (ap (holders now) (sym e) ∙ none));
  }

  -- a run has the stamp and begins with it
  module _ (run : Run) (site : run.site ≡ span.site) (first : run.first ≡ count) (long : 0 < run.len) (within : is_in_span span (first_stamp run) ≡ true) where
    covers : (r : Run) → is_in_span span (first_stamp r) ≡ true → count ≤ r.first → r.first < count + run.len → has_cell run (first_stamp r) ≡ true
    covers r y a b = grind (arith, nat_tests)

    other : (r : Run) → (has_cell run (first_stamp r) ≡ true → ⊥) → run_to span (count + run.len) update r ≡ run_to span count update r
    other r out = same_to (count + run.len) r (omega arith) (λ y a b. out (covers r y a b))

    others : (rs : List Run) → AllByRecursion HasCells (map (run_to span count update) rs) → IsNew run (map (run_to span count update) rs) → map (run_to span (count + run.len) update) rs ≡ map (run_to span count update) rs
    others [] some new = refl
    others (r ∷ rs) some new =
        let e = other r (λ h. apart r rs some.0 new h) in
        ap (λ x. x ∷ map (run_to span (count + run.len) update) rs) e ∙ ap (λ m. run_to span count update r ∷ m) (others rs some.1 (rest r rs new))
      where
        apart : (r : Run) (rs : List Run) → 0 < (run_to span count update r).len → IsNew run (map (run_to span count update) (r ∷ rs)) → has_cell run (first_stamp r) ≡ true → ⊥
        apart r rs some new h =
            let s = first_stamp r in
            let n = new s h in
            let c = holders-cons s (run_to span count update r) (map (run_to span count update) rs) in
            let l = len_to span update count r in
            let b = ap bit (has_to span update count r s ∙ first_has r (omega (arith, some, l))) in
            omega (arith, n, c, b)

        rest : (r : Run) (rs : List Run) → IsNew run (map (run_to span count update) (r ∷ rs)) → IsNew run (map (run_to span count update) rs)
        rest r rs new stamp h =
            let n = new stamp h in
            let c = holders-cons stamp (run_to span count update r) (map (run_to span count update) rs) in
            omega (arith, n, c)

    this : (r : Run) → run ≡ run_to span count update r → run_in span update run ≡ run_to span (count + run.len) update r
    this r e =
        let s = ap first_stamp e ∙ first_to span update count r in
        let k = ap (λ (x : Stamp). x.count) s in
        let before : nat_lt r.first count ≡ false = grind (arith, nat_tests) in
        let behind : nat_lt r.first (count + run.len) ≡ true = grind (arith, nat_tests) in
        let t : (is_in_span span (first_stamp r) && nat_lt r.first count) ≡ false = split (is_in_span span (first_stamp r)) (λ y. rw (y, before) refl) (λ n. rw n refl) in
        let same : run ≡ r = e ∙ ap (λ b. if b then updated_run update r else r) t in
        let there : is_in_span span (first_stamp r) ≡ true = ap (is_in_span span) (sym s) ∙ within in
        let u : (is_in_span span (first_stamp r) && nat_lt r.first (count + run.len)) ≡ true = rw (there, behind) refl in
        ap (λ b. if b then updated_run update run else run) within ∙ ap (updated_run update) same ∙ ap (λ b. if b then updated_run update r else r) (sym u)

    around : (left right rs : List Run) → left ++ run ∷ right ≡ map (run_to span count update) rs → AllByRecursion HasCells left → AllByRecursion HasCells right → IsNew run left → IsNew run right → left ++ run_in span update run ∷ right ≡ map (run_to span (count + run.len) update) rs
    around [] right [] e sl sr nl nr = absurd (let l = ap length e in omega (arith, l))
    around [] right (r ∷ rs) e sl sr nl nr =
        let h : run ≡ run_to span count update r = cc in
        let t : right ≡ map (run_to span count update) rs = cc in
        ap (λ x. x ∷ right) (this r h) ∙ ap (λ m. run_to span (count + run.len) update r ∷ m) (t ∙ sym (others rs (subst (AllByRecursion HasCells) t sr) (subst (IsNew run) t nr)))
    around (x ∷ left) right [] e sl sr nl nr = absurd (let l = ap length e in omega (arith, l))
    around (x ∷ left) right (r ∷ rs) e sl sr nl nr =
        let h : x ≡ run_to span count update r = cc in
        let t : left ++ run ∷ right ≡ map (run_to span count update) rs = cc in
        let f : first_stamp x ≡ first_stamp r = ap first_stamp h ∙ first_to span update count r in
        let c = λ (s : Stamp). holders-cons s x left in
        let out : has_cell run (first_stamp r) ≡ true → ⊥ = λ y.
        let z = ap (has_cell run) f ∙ y in
        let n = nl (first_stamp x) z in
        let d = c (first_stamp x) in
        let b = ap bit (first_has x sl.0) in
        omega (arith, n, d, b) in
        ap (λ y. y ∷ (left ++ run_in span update run ∷ right)) (h ∙ sym (other r out))
        ∙ ap (λ m. run_to span (count + run.len) update r ∷ m) (around left right rs t sl.1 sr (λ s y. let n = nl s y in let d = c s in omega (arith, n, d)) nr)

    pub found_on : (old new : List Run) (front : Counts) (len : ℕ) → AreOnceEach old → AllByRecursion HasCells old → IsBehind old run front → IsChangedAt old new front.cells (run_in span update) len → UpdatesOn span update count (count + run.len) old new
    found_on old new front len once some is ch =
        let was = ch.was in
        let fa = ap (λ (c : Counts). c.cells) is.before in
        let fb = ap (λ (c : Counts). c.cells) was.before in
        let s = one_spot is.left run is.right 0 was.left ch.run was.right ch.offset (sym is.here ∙ was.here) (omega (arith, fa, fb, was.at)) long was.inside in
        let new_is : new ≡ is.left ++ run_in span update run ∷ is.right =
        ch.is ∙ ap (λ l. l ++ run_in span update ch.run ∷ was.right) (sym s.left)
        ∙ ap (λ (r : Run). is.left ++ run_in span update r ∷ was.right) (sym s.run)
        ∙ ap (λ l. is.left ++ run_in span update run ∷ l) (sym s.right) in
        let m = λ (stamp : Stamp). ap (holders stamp) is.here ∙ holders-mid stamp is.left run is.right in
        let each = subst (AllByRecursion HasCells) is.here some in
        record {
          later = omega (arith, long);
          updates = λ rs e. new_is ∙ around is.left is.right rs (sym is.here ∙ e) (each_left is.left (run ∷ is.right) each) (each_right is.left run is.right each)
              (λ stamp h. let o = once stamp in let n = m stamp in let b = ap bit h in omega (arith, o, n, b))
              (λ stamp h. let o = once stamp in let n = m stamp in let b = ap bit h in omega (arith, o, n, b));
        }
