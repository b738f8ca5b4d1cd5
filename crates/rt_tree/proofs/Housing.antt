-- Runs whose stamps have leaves.
use Rattle.std.proofs.Common.{◌≡◌, ℕ, ◌+◌, ◌-◌, ◌<◌, ◌≤◌, inl, inr, Bool, true, false, List, [], ◌∷◌, ◌++◌, length, length-append, map, refl, sym, ap, ◌∙◌, arith, if◌then◌else◌, subst, Some, None}
use Rattle.std.specs.Prelude.{◌==◌, ◌&&◌, filter, nat_le, nat_lt, MatchOption}
use Rattle.std.specs.List.{AllByRecursion, list_any}
use Rattle.std.proofs.lemmas.Bool.{or_from, or_parts}
use Rattle.std.proofs.lemmas.Bool.Decides.{nat_tests}
use Rattle.std.proofs.lemmas.List.Elements.{filter-append}
use Rattle.rt_nodes.specs.declared.memory.NodeId.{NodeId}
use Rattle.rt_spans.specs.Shown.{SpanMapValue, value_of}
use Rattle.rt_stamps.specs.declared.stamp.Span.{Span}
use Rattle.rt_stamps.specs.declared.stamp.Stamp.{Stamp}
use Rattle.rt_stamps.specs.Stamps.{is_same}
use Rattle.rt_store.specs.declared.cell.Cell.{Cell}
use Rattle.rt_store.specs.Cells.{cells_from, is_in_span, position_of}
use Rattle.rt_store.proofs.Distinct.{split}
use Rattle.rt_tree.specs.declared.update.CellUpdate.{CellUpdate}
use Rattle.rt_tree.specs.declared.update.CellUpdate.TheVariants.{Gone, State}
use Rattle.rt_tree.specs.declared.node.Counts.{Counts}
use Rattle.rt_tree.specs.declared.node.CountedBy.TheVariants.{Cells}
use Rattle.rt_tree.specs.declared.node.Run.{Run}
use Rattle.rt_tree.specs.Additions.{are_joint, run_joined}
use Rattle.rt_tree.specs.Homes.{AreHome, AreOnceEach, IsAmong, IsNew, HasLeaves, IsUnknown, KeepsAll, KeepsOthers, holders}
use Rattle.rt_tree.specs.Runs.{IsRun, cells_of_runs, run_characters, first_stamp, has_cell, run_cells, with_gone}
use Rattle.rt_tree.specs.Sharing.{AreKnown, NoneIsNewer, BeginsAt, IsInside, IsRecut, is_shared_by, occurrences, run_in}
use Rattle.rt_tree.specs.Stretches.{AreRunsOfText}
use Rattle.rt_tree.specs.Sums.{counts_of}
use Rattle.rt_tree.specs.Walks.{IsBehind, IsPutAt, StandsAt}
use Rattle.rt_tree.proofs.Apart.{bit, both_begin}
use Rattle.rt_tree.proofs.CellLaws.{all_left, characters_length, counted}
use Rattle.rt_tree.proofs.Edges.{counts_mid}
use Rattle.rt_tree.proofs.Joining.{AreJoint, joint_true}
use Rattle.rt_tree.proofs.Newest.{row_upto, upto_left, upto_right}
use Rattle.rt_tree.proofs.Positions.{before, before-none, fits_here, found_is, has_within, nowhere_is, stamp_here}
use Rattle.rt_tree.proofs.Shared.{either_has, first_has, none_shared, occurs-append, occurs-cons, shared_first}

pub holders-append : (stamp : Stamp) (a b : List Run) → holders stamp (a ++ b) ≡ holders stamp a + holders stamp b
holders-append stamp a b = ap length (filter-append (λ (r : Run). has_cell r stamp) a b) ∙ length-append (filter (λ (r : Run). has_cell r stamp) a) (filter (λ (r : Run). has_cell r stamp) b)

pub holders-cons : (stamp : Stamp) (r : Run) (rs : List Run) → holders stamp (r ∷ rs) ≡ bit (has_cell r stamp) + holders stamp rs
holders-cons stamp r rs = split (has_cell r stamp) (λ e. rw e (omega arith)) (λ e. rw e (omega arith))

pub holders-mid : (stamp : Stamp) (a : List Run) (r : Run) (b : List Run) → holders stamp (a ++ r ∷ b) ≡ holders stamp a + (bit (has_cell r stamp) + holders stamp b)
holders-mid stamp a r b = holders-append stamp a (r ∷ b) ∙ ap (λ n. holders stamp a + n) (holders-cons stamp r b)

pub is_bit : (b : Bool) → b ≡ true → bit b ≡ 1
is_bit b e = ap bit e

no_bit : (b : Bool) → b ≡ false → bit b ≡ 0
no_bit b e = ap bit e

bit_low : (b : Bool) → bit b ≤ 1
bit_low true = omega arith
bit_low false = omega arith

-- NEW RUNS

not_had : (r : Run) (n : ℕ) (stamp : Stamp) → r.first + r.len ≤ n + 1 → n < stamp.count → has_cell r stamp ≡ false
not_had r n stamp low new = split (has_cell r stamp) (λ e. absurd (grind (arith, nat_tests))) (λ e. e)

none_later : (n : ℕ) (text : List ℕ) (rs : List Run) (stamp : Stamp) → AllByRecursion (IsRun text) rs → NoneIsNewer n (cells_of_runs text rs) → n < stamp.count → holders stamp rs ≡ 0
none_later n text [] stamp kept known new = refl
none_later n text (r ∷ rs) stamp kept known new =
    let long = characters_length text r kept.0 in
    let some = kept.0.some in
    let low = row_upto n r.gone r.first r.site r.state _ (omega (arith, long, some)) (upto_left n (run_cells text r) (cells_of_runs text rs) known) in
    let b = no_bit (has_cell r stamp) (not_had r n stamp (omega (arith, low, long)) new) in
    let i = none_later n text rs stamp kept.1 (upto_right n (run_cells text r) (cells_of_runs text rs) known) new in
    let c = holders-cons stamp r rs in
    omega (arith, b, i, c)

from_first : (run : Run) (stamp : Stamp) → has_cell run stamp ≡ true → run.first ≤ stamp.count
from_first run stamp h = grind (arith, nat_tests)

pub unknown_new : (leaves : SpanMapValue NodeId) (newest : ℕ) (run : Run) (rs : List Run) → AreKnown newest rs → AreHome leaves rs → IsUnknown leaves newest run → IsNew run rs
unknown_new leaves newest run rs known home (inl later) stamp h =
    let f = from_first run stamp h in
    none_later newest known.text rs stamp known.kept known.upto (omega (arith, later, f))
unknown_new leaves newest run rs known home (inr none) stamp h = home.known stamp (none stamp h)

-- ONE RUN MORE

pub home_more : (leaves after : SpanMapValue NodeId) (run : Run) (old new : List Run) → ((stamp : Stamp) → holders stamp new ≡ bit (has_cell run stamp) + holders stamp old) → AreHome leaves old → IsNew run old → HasLeaves after run → KeepsAll leaves after → KeepsOthers leaves after new → AreHome after new
home_more leaves after run old new more home fresh placed keeps others = record {
  once = λ stamp.
      let m = more stamp in let h = home.once stamp in
      split (has_cell run stamp)
      (λ t. let n = fresh stamp t in let b = is_bit (has_cell run stamp) t in omega (arith, m, n, b))
      (λ f. let b = no_bit (has_cell run stamp) f in omega (arith, m, h, b));
  known = λ stamp none.
      let m = more stamp in let h = home.known stamp (keeps stamp none) in
      split (has_cell run stamp)
      (λ t. absurd (placed stamp t none))
      (λ f. let b = no_bit (has_cell run stamp) f in omega (arith, m, h, b));
  runs = λ stamp none. let m = more stamp in others stamp none ∙ home.runs stamp (omega (arith, m, none));
}

-- leaves are only added, and to stamps of runs alone
pub home_keeps : (leaves after : SpanMapValue NodeId) (rs : List Run) → KeepsAll leaves after → KeepsOthers leaves after rs → AreHome leaves rs → AreHome after rs
home_keeps leaves after rs keeps others home = record {
  once = home.once;
  known = λ stamp none. home.known stamp (keeps stamp none);
  runs = λ stamp none. others stamp none ∙ home.runs stamp none;
}

pub others_more : (a b c : SpanMapValue NodeId) (rs : List Run) → KeepsOthers a b rs → KeepsOthers b c rs → KeepsOthers a c rs
others_more a b c rs f g stamp none = g stamp none ∙ f stamp none

pub put_holders : (old new : List Run) (at : ℕ) (run : Run) → IsPutAt old new at run → (stamp : Stamp) → holders stamp new ≡ bit (has_cell run stamp) + holders stamp old
put_holders old new at run put stamp =
    let o = ap (holders stamp) put.was.here ∙ holders-mid stamp put.was.left put.next put.was.right in
    let n = ap (holders stamp) put.is ∙ holders-mid stamp put.was.left run (put.next ∷ put.was.right) in
    let d = holders-cons stamp put.next put.was.right in
    omega (arith, o, n, d)

pub keeps_more : (a b c : SpanMapValue NodeId) → KeepsAll a b → KeepsAll b c → KeepsAll a c
keeps_more a b c f g stamp none = f stamp (g stamp none)

pub placed_more : (b c : SpanMapValue NodeId) (run : Run) → HasLeaves b run → KeepsAll b c → HasLeaves c run
placed_more b c run p g stamp h none = p stamp h (g stamp none)

-- the cell of a stamp that a run has
pub there_at : (all : List Run) (run : Run) (front : Counts) (stamp : Stamp) → IsBehind all run front → has_cell run stamp ≡ true → StandsAt Cells all run front (stamp.count - run.first) (front.cells + (stamp.count - run.first))
there_at all run front stamp is there = let w = has_within run stamp there in record { left = is.left; right = is.right; here = is.here; before = is.before; at = omega arith; inside = w }

-- A RUN'S STAMPS AND THOSE OF ITS CELLS

abbrev row : Bool → ℕ → ℕ → ℕ → List ℕ → List (Cell ℕ)
row gone count site state text = map (with_gone gone) (cells_from count site state text)

abbrev among : ℕ → ℕ → ℕ → Stamp → Bool
among count site len stamp = (site == stamp.site) && (nat_le count stamp.count && nat_lt (stamp.count - count) len)

bits_next : (count site len : ℕ) (stamp : Stamp) → bit (is_same (record { count = count; site = site }) stamp) + bit (among (count + 1) site len stamp) ≡ bit (among count site (len + 1) stamp)
bits_next count site len stamp = grind (arith, nat_tests)

none_among : (count site : ℕ) (stamp : Stamp) → among count site 0 stamp ≡ false
none_among count site stamp = split (among count site 0 stamp)
    (λ t. absurd (let no_less : nat_lt (stamp.count - count) 0 ≡ true = grind (arith, nat_tests) in grind (arith, nat_tests)))
    (λ f. f)

occurs_row_is : (gone : Bool) (count site state : ℕ) (text : List ℕ) (stamp : Stamp) → occurrences stamp (row gone count site state text) ≡ bit (among count site (length text) stamp)
occurs_row_is gone count site state [] stamp = sym (no_bit (among count site 0 stamp) (none_among count site stamp))
occurs_row_is gone count site state (c ∷ text) stamp =
    let cell : Cell ℕ = record { stamp = record { count = count; site = site }; ch = c; gone = gone; state = state } in
    let o = occurs-cons stamp cell (row gone (count + 1) site state text) in
    let i = occurs_row_is gone (count + 1) site state text stamp in
    let b = bits_next count site (length text) stamp in
    let n : length (c ∷ text) ≡ length text + 1 = omega arith in
    let e = ap (λ k. bit (among count site k stamp)) n in
    omega (arith, o, i, b, e)

occurs_is : (text : List ℕ) (r : Run) (stamp : Stamp) → IsRun text r → occurrences stamp (run_cells text r) ≡ bit (has_cell r stamp)
occurs_is text r stamp is = occurs_row_is r.gone r.first r.site r.state (run_characters text r) stamp ∙ ap (λ n. bit (among r.first r.site n stamp)) (characters_length text r is)

pub all_occurs : (text : List ℕ) (rs : List Run) (stamp : Stamp) → AllByRecursion (IsRun text) rs → occurrences stamp (cells_of_runs text rs) ≡ holders stamp rs
all_occurs text [] stamp kept = refl
all_occurs text (r ∷ rs) stamp kept =
    let a = occurs-append stamp (run_cells text r) (cells_of_runs text rs) in
    let o = occurs_is text r stamp kept.0 in
    let i = all_occurs text rs stamp kept.1 in
    let c = holders-cons stamp r rs in
    omega (arith, a, o, i, c)

recut_holders : (text : List ℕ) (old new : List Run) → AllByRecursion (IsRun text) old → IsRecut old new → (stamp : Stamp) → holders stamp new ≡ holders stamp old
recut_holders text old new kept recut stamp = sym (all_occurs text new stamp (recut.kept text kept)) ∙ ap (occurrences stamp) (recut.cells text kept) ∙ all_occurs text old stamp kept

pub same_home : (leaves : SpanMapValue NodeId) (old new : List Run) → ((stamp : Stamp) → holders stamp new ≡ holders stamp old) → AreHome leaves old → AreHome leaves new
same_home leaves old new same home = record {
  once = λ stamp. let s = same stamp in let h = home.once stamp in omega (arith, s, h);
  known = λ stamp none. same stamp ∙ home.known stamp none;
  runs = λ stamp none. home.runs stamp (sym (same stamp) ∙ none);
}

pub recut_home : (leaves : SpanMapValue NodeId) (old new : List Run) → AreRunsOfText old → IsRecut old new → AreHome leaves old → AreHome leaves new
recut_home leaves old new kept recut home = same_home leaves old new (recut_holders kept.text old new kept.runs recut) home

-- MARKS

updated_has : (span : Span) (update : CellUpdate) (r : Run) (stamp : Stamp) → has_cell (run_in span update r) stamp ≡ has_cell r stamp
updated_has span Gone r stamp = split (is_in_span span (first_stamp r)) (λ e. rw e refl) (λ e. rw e refl)
updated_has span (State state) r stamp = split (is_in_span span (first_stamp r)) (λ e. rw e refl) (λ e. rw e refl)

updated_holders : (span : Span) (update : CellUpdate) (rs : List Run) (stamp : Stamp) → holders stamp (map (run_in span update) rs) ≡ holders stamp rs
updated_holders span update [] stamp = refl
updated_holders span update (r ∷ rs) stamp =
    let a = holders-cons stamp (run_in span update r) (map (run_in span update) rs) in
    let b = holders-cons stamp r rs in
    let h = ap bit (updated_has span update r stamp) in
    let i = updated_holders span update rs stamp in
    omega (arith, a, b, h, i)

pub updated_home : (leaves : SpanMapValue NodeId) (span : Span) (update : CellUpdate) (old new : List Run) → new ≡ map (run_in span update) old → AreHome leaves old → AreHome leaves new
updated_home leaves span update old new is home = same_home leaves old new (λ stamp. ap (holders stamp) is ∙ updated_holders span update old stamp) home

-- NEW RUNS SHARE NO STAMP

each_new : (run : Run) (rs : List Run) → 0 < run.len → IsNew run rs → AllByRecursion (λ (r : Run). is_shared_by run r ≡ false) rs
each_new run [] some new = tt
each_new run (r ∷ rs) some new = (
  split (is_shared_by run r)
      (λ e. absurd (split (has_cell r (first_stamp run))
      (λ t. clash (first_stamp run) t (first_has run some))
      (λ f. let two : 1 < r.len = grind (arith, nat_tests) in clash (first_stamp r) (first_has r (omega (arith, two))) (shared_first run r e f))))
      (λ e. e),
  each_new run rs some (λ stamp h. let n = new stamp h in let c = holders-cons stamp r rs in omega (arith, n, c)),
)
  where
    clash : (stamp : Stamp) → has_cell r stamp ≡ true → has_cell run stamp ≡ true → ⊥
    clash stamp there mine =
        let n = new stamp mine in
        let c = holders-cons stamp r rs in
        let b = is_bit (has_cell r stamp) there in
        omega (arith, n, c, b)

pub new_shares : (run : Run) (rs : List Run) → 0 < run.len → IsNew run rs → list_any (is_shared_by run) rs ≡ false
new_shares run rs some new = none_shared run rs (each_new run rs some new)

none_mid : (run : Run) (left : List Run) (a : Run) (right : List Run) → list_any (is_shared_by run) left ≡ false → is_shared_by run a ≡ false → list_any (is_shared_by run) right ≡ false → list_any (is_shared_by run) (left ++ a ∷ right) ≡ false
none_mid run [] a right l x r = or_from (is_shared_by run a) (list_any (is_shared_by run) right) x r
none_mid run (y ∷ left) a right l x r =
    let p = or_parts (is_shared_by run y) (list_any (is_shared_by run) left) l in
    or_from (is_shared_by run y) (list_any (is_shared_by run) (left ++ a ∷ right)) p.0 (none_mid run left a right p.1 x r)

alone : (run a : Run) → (a.len == 1) ≡ true → is_shared_by run a ≡ false
alone run a one = split (is_shared_by run a) (λ e. absurd (grind (arith, nat_tests))) (λ e. e)

module _ (a b : Run) (j : AreJoint a b) (left right : List Run) (once : AreOnceEach (left ++ a ∷ right)) (new : IsNew b (left ++ a ∷ right)) where
  neither : (stamp : Stamp) → has_cell (run_joined a b) stamp ≡ true → (holders stamp left ≡ 0) × (holders stamp right ≡ 0)
  neither stamp h =
      let m = holders-mid stamp left a right in
      split (has_cell a stamp)
      (λ t. let o = once stamp in let one = is_bit (has_cell a stamp) t in (omega (arith, m, o, one), omega (arith, m, o, one)))
      (λ f. let n = new stamp (either_has a b stamp j h f) in (omega (arith, m, n), omega (arith, m, n)))

  pub joined_shares : 0 < b.len → (a.len == 1) ≡ true → list_any (is_shared_by (run_joined a b)) (left ++ a ∷ right) ≡ false
  joined_shares some one =
      let long : 0 < a.len + b.len = omega (arith, some) in
      none_mid (run_joined a b) left a right
      (new_shares (run_joined a b) left long (λ stamp h. (neither stamp h).0))
      (alone (run_joined a b) a one)
      (new_shares (run_joined a b) right long (λ stamp h. (neither stamp h).1))

-- a run that would go on with a new one
pub longer_shares : (a b : Run) (all : List Run) → are_joint a b ≡ true → 0 < b.len → IsAmong all a → AreOnceEach all → IsNew b all → list_any (is_shared_by (if a.len == 1 then run_joined a b else b)) all ≡ false
longer_shares a b all j some there once new = split (a.len == 1)
    (λ one. rw one (ap (λ (l : List Run). list_any (is_shared_by (run_joined a b)) l) there.here
    ∙ joined_shares a b (joint_true a b j) there.left there.right (subst AreOnceEach there.here once) (subst (IsNew b) there.here new) some one))
    (λ more. rw more (new_shares b all some new))

bits_joined : (a b : Run) (stamp : Stamp) → AreJoint a b → bit (has_cell (run_joined a b) stamp) ≡ bit (has_cell a stamp) + bit (has_cell b stamp)
bits_joined a b stamp j = let s = j.site in let f = j.first in grind (arith, nat_tests)

pub joined_holders : (a b : Run) (left right old new : List Run) → are_joint a b ≡ true → old ≡ left ++ a ∷ right → new ≡ left ++ run_joined a b ∷ right → (stamp : Stamp) → holders stamp new ≡ bit (has_cell b stamp) + holders stamp old
joined_holders a b left right old new j was is stamp =
    let o = ap (holders stamp) was ∙ holders-mid stamp left a right in
    let n = ap (holders stamp) is ∙ holders-mid stamp left (run_joined a b) right in
    let s = bits_joined a b stamp (joint_true a b j) in
    omega (arith, o, n, s)

-- where both have leaves, so has the second
pub joined_placed : (leaves : SpanMapValue NodeId) (a b : Run) → are_joint a b ≡ true → HasLeaves leaves (run_joined a b) → HasLeaves leaves b
joined_placed leaves a b j placed stamp h =
    split (has_cell (run_joined a b) stamp) (λ t. placed stamp t) (λ f.
    let s = bits_joined a b stamp (joint_true a b j) in
    let none = no_bit (has_cell (run_joined a b) stamp) f in
    let one = is_bit (has_cell b stamp) h in
    absurd (omega (arith, s, none, one)))

-- WHERE A STAMP IS

none_begin : (stamp : Stamp) (rs : List Run) → holders stamp rs ≡ 0 → AllByRecursion (BeginsAt stamp) rs
none_begin stamp [] none = tt
none_begin stamp (r ∷ rs) none =
    let c = holders-cons stamp r rs in
    (λ h. absurd (let b = is_bit (has_cell r stamp) h in omega (arith, c, none, b)), none_begin stamp rs (omega (arith, c, none)))

pub nowhere_begins : (leaves : SpanMapValue NodeId) (stamp : Stamp) (rs : List Run) → AreHome leaves rs → value_of leaves stamp ≡ None → AllByRecursion (BeginsAt stamp) rs
nowhere_begins leaves stamp rs home none = none_begin stamp rs (home.known stamp none)

starts : (run : Run) (stamp : Stamp) → has_cell run stamp ≡ true → nat_lt run.first stamp.count ≡ false → run.first ≡ stamp.count
starts run stamp h low = grind (arith, nat_tests)

later : (run : Run) (stamp : Stamp) → nat_lt run.first stamp.count ≡ true → run.first < stamp.count
later run stamp e = grind (arith, nat_tests)

module _ (rs : List Run) (run : Run) (front : Counts) (stamp : Stamp) (once : AreOnceEach rs) (is : IsBehind rs run front) (there : has_cell run stamp ≡ true) where
  others : (holders stamp is.left ≡ 0) × (holders stamp is.right ≡ 0)
  others =
      let m = ap (holders stamp) is.here ∙ holders-mid stamp is.left run is.right in
      let o = once stamp in
      let one = is_bit (has_cell run stamp) there in
      (omega (arith, m, o, one), omega (arith, m, o, one))

  pub home_inside : MatchOption (if nat_lt run.first stamp.count then Some (front.cells + (stamp.count - run.first)) else None) (AllByRecursion (BeginsAt stamp) rs) (λ at. IsInside rs stamp at)
  home_inside = split (nat_lt run.first stamp.count)
      (λ t. rw t (record { left = is.left; run = run; right = is.right; here = is.here; there = there; later = later run stamp t; place = ap (λ (c : Counts). c.cells + (stamp.count - run.first)) (sym is.before) }))
      (λ f. rw f (subst (AllByRecursion (BeginsAt stamp)) (sym is.here) (both_begin stamp is.left (run ∷ is.right) (none_begin stamp is.left others.0) ((λ h. starts run stamp there f), none_begin stamp is.right others.1))))

pub behind_few : (rs : List Run) (run : Run) (front : Counts) → IsBehind rs run front → front.cells + run.len ≤ (counts_of rs).cells
behind_few rs run front is =
    let m = ap (λ l. (counts_of l).cells) is.here ∙ counts_mid is.left run is.right in
    let f = ap (λ (c : Counts). c.cells) is.before in
    omega (arith, m, f)

-- cells before the first one that has the stamp
run_later : (text : List ℕ) (r : Run) (rest : List (Cell ℕ)) (stamp : Stamp) → IsRun text r → has_cell r stamp ≡ false → before (run_cells text r ++ rest) stamp ≡ r.len + before rest stamp
run_later text r rest stamp is none =
    let long = characters_length text r is in
    let b = before-none r.gone r.first r.site r.state (run_characters text r) rest stamp (ap (λ n. among r.first r.site n stamp) long ∙ none) in
    omega (arith, b, long)

pub had_not : (r : Run) (rs : List Run) (stamp : Stamp) → holders stamp (r ∷ rs) ≡ 0 → (has_cell r stamp ≡ false) × (holders stamp rs ≡ 0)
had_not r rs stamp none =
    let c = holders-cons stamp r rs in
    (split (has_cell r stamp) (λ t. absurd (let b = is_bit (has_cell r stamp) t in omega (arith, c, none, b))) (λ f. f), omega (arith, c, none))

all_later : (text : List ℕ) (rs rest : List Run) (stamp : Stamp) → AllByRecursion (IsRun text) rs → holders stamp rs ≡ 0 → (counts_of rs).cells ≤ before (cells_of_runs text (rs ++ rest)) stamp
all_later text [] rest stamp kept none = omega arith
all_later text (r ∷ rs) rest stamp kept none =
    let h = had_not r rs stamp none in
    let l = run_later text r (cells_of_runs text (rs ++ rest)) stamp kept.0 h.0 in
    let i = all_later text rs rest stamp kept.1 h.1 in
    omega (arith, l, i)

all_nowhere : (text : List ℕ) (rs : List Run) (stamp : Stamp) → AllByRecursion (IsRun text) rs → holders stamp rs ≡ 0 → (counts_of rs).cells ≤ before (cells_of_runs text rs) stamp
all_nowhere text [] stamp kept none = omega arith
all_nowhere text (r ∷ rs) stamp kept none =
    let h = had_not r rs stamp none in
    let l = run_later text r (cells_of_runs text rs) stamp kept.0 h.0 in
    let i = all_nowhere text rs stamp kept.1 h.1 in
    omega (arith, l, i)

-- where no run has a stamp, no cell has
pub no_holder : (text : List ℕ) (all : List Run) (stamp : Stamp) → AllByRecursion (IsRun text) all → holders stamp all ≡ 0 → None ≡ position_of (cells_of_runs text all) stamp
no_holder text all stamp kept none =
    let n = all_nowhere text all stamp kept none in
    let c = counted text all kept in
    nowhere_is (cells_of_runs text all) stamp (let l = c.cells in omega (arith, n, l))

module _ (text : List ℕ) (all : List Run) (leaves : SpanMapValue NodeId) (stamp : Stamp) (kept : AllByRecursion (IsRun text) all) (home : AreHome leaves all) where
  pub is_nowhere : value_of leaves stamp ≡ None → None ≡ position_of (cells_of_runs text all) stamp
  is_nowhere none = no_holder text all stamp kept (home.known stamp none)

  pub is_here : (run : Run) (front : Counts) → IsBehind all run front → has_cell run stamp ≡ true → Some (front.cells + (stamp.count - run.first)) ≡ position_of (cells_of_runs text all) stamp
  is_here run front is there =
      let f = ap (λ (c : Counts). c.cells) is.before in
      let o = others all run front stamp home.once is there in
      let n = all_later text is.left (run ∷ is.right) stamp (all_left text is.left (run ∷ is.right) (subst (AllByRecursion (IsRun text)) is.here kept)) o.0 in
      let e = ap (λ l. before (cells_of_runs text l) stamp) is.here in
      let low : front.cells ≤ before (cells_of_runs text all) stamp = omega (arith, f, n, e) in
      let w = has_within run stamp there in
      let st : StandsAt Cells all run front 0 front.cells = record { left = is.left; right = is.right; here = is.here; before = is.before; at = omega arith; inside = omega (arith, w) } in
      let h = stamp_here text all run front 0 front.cells kept stamp low st there in
      let s = fits_here text all run front 0 front.cells kept stamp low st in
      found_is (cells_of_runs text all) stamp (front.cells + (stamp.count - run.first)) (omega (arith, h)) (omega (arith, s, w))
