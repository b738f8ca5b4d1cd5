-- The cells that entries are on, and their states after these.
use Rattle.std.proofs.Common.{◌≡◌, ℕ, zero, suc, ◌+◌, ◌-◌, ◌<◌, ◌≤◌, ◌⊎◌, inl, inr, true, false, not, ◌||◌, ◌==◌, nat_lt, refl, sym, ap, subst, ◌∙◌, arith, All, Option, Some, None, List, [], ◌∷◌, ◌++◌, cond, length, map, filter, drop, get_or}
use Rattle.std.specs.Prelude.{IfNone, IfSome, is_some}
use Rattle.std.specs.List.{AllByRecursion, take_while}
use Rattle.std.specs.List.Sorted.{IsNonDecreasingBy}
use Rattle.std.proofs.lemmas.Bool.Decides.{nat_tests}
use Rattle.std.proofs.lemmas.List.Elements.{All-append, All-cons, All-from_recursion, All-nil, All-weaker, recursion_from_All}
use Rattle.std.proofs.lemmas.List.Sums.{take_while-cons}
use Rattle.std.proofs.lemmas.Map.Keys.{IsDistinct-head, IsDistinct-tail}
use Rattle.rt_stamps.specs.declared.stamp.Stamp.{Stamp}
use Rattle.rt_stamps.specs.Stamps.{is_same}
use Rattle.rt_stamps.proofs.Order.{same_from_true, same_refl}
use Rattle.rt_store.specs.declared.cell.Cell.{Cell}
use Rattle.rt_store.specs.Cells.{AreDistinct, cell_of, stamps_of, with_state}
use Rattle.rt_store.specs.Shown.{shown}
use Rattle.rt_store.specs.Spans.{is_among, precedes}
use Rattle.rt_store.specs.Tagged.{AreStates}
use Rattle.rt_store.proofs.Finding.{stamp_held}
use Rattle.rt_tags.specs.States.{IsState, IsTag, KeepsIds, TagStates, Write, state_at, writes_at}
use Rattle.rt_tags.specs.Writers.{state_after}
use Rattle.rt_ops.specs.Operations.{Operation}
use Rattle.rt_rga.specs.declared.plan.Named.{Named}
use Rattle.rt_rga.specs.declared.tagging.StateRun.{StateRun}
use Rattle.rt_rga.specs.Batches.{AreByStamp, CountsRise, IsCopied, HasEntries, after_tags, entries_on, tag_writes}
use Rattle.rt_tags.specs.Borders.{one_or_none}
use Rattle.rt_rga.specs.Runs.{put_back, put_back_in_any}
use Rattle.rt_rga.proofs.PlannedEntries.{writes_kept}
use Rattle.rt_rga.proofs.Skipping.{split}

-- NEW CELLS

counts_apart : (xs : List (Cell ℕ)) → CountsRise xs → (i j : ℕ) (d : Cell ℕ) → i < j → j < length xs → (get_or xs i d).stamp.count < (get_or xs j d).stamp.count
counts_apart [] h i j d l m = absurd (omega arith)
counts_apart (x ∷ xs) h zero zero d l m = absurd (omega arith)
counts_apart (x ∷ xs) h zero (suc j) d l m = All-from_recursion (λ (later : Cell ℕ). x.stamp.count < later.stamp.count) xs h.0 j d (omega arith)
counts_apart (x ∷ xs) h (suc i) zero d l m = absurd (omega arith)
counts_apart (x ∷ xs) h (suc i) (suc j) d l m = counts_apart xs h.1 i j d (omega arith) (omega arith)

pub counts_up : (xs : List (Cell ℕ)) → CountsRise xs → IsNonDecreasingBy (λ (cell : Cell ℕ). cell.stamp.count) xs
counts_up xs h i j d l m = split (i == j)
    (λ e. let k : i ≡ j = grind (arith, nat_tests) in rw k (omega arith))
    (λ e. let k : i < j = grind (arith, nat_tests) in let c = counts_apart xs h i j d k m in omega arith)

pub found_new : (new cells : List (Cell ℕ)) (s : Stamp) (at : ℕ) (d x : Cell ℕ) → CountsRise new → at < length new → x ≡ get_or new at x → is_same (get_or new at d).stamp s ≡ true
    → Some x ≡ cell_of (new ++ cells) s
found_new [] cells s at d x h l e t = absurd (omega arith)
found_new (c ∷ new) cells s zero d x h l e t = ap Some e ∙ sym (ap (λ b. cond b (Some c) (cell_of (new ++ cells) s)) t)
found_new (c ∷ new) cells s (suc at) d x h l e t =
    let less : c.stamp.count < (get_or new at d).stamp.count = All-from_recursion (λ (later : Cell ℕ). c.stamp.count < later.stamp.count) new h.0 at d (omega arith) in
    found_new new cells s at d x h.1 (omega arith) e t
    ∙ sym (ap (λ b. cond b (Some c) (cell_of (new ++ cells) s)) (apart c.stamp (get_or new at d).stamp s less t))
  where
    apart : (a b s : Stamp) → a.count < b.count → is_same b s ≡ true → is_same a s ≡ false
    apart a b s h t = grind (arith, nat_tests)

nowhere : (new cells : List (Cell ℕ)) (s : Stamp) → AllByRecursion (λ (c : Cell ℕ). is_same c.stamp s ≡ false) new → cell_of (new ++ cells) s ≡ cell_of cells s
nowhere [] cells s h = refl
nowhere (c ∷ new) cells s h = ap (λ b. cond b (Some c) (cell_of (new ++ cells) s)) h.0 ∙ nowhere new cells s h.1

pub not_new : (new cells : List (Cell ℕ)) (s : Stamp) (at : ℕ) → CountsRise new → ((k : ℕ) (d : Cell ℕ) → k < at → k < length new → nat_lt (get_or new k d).stamp.count s.count ≡ true)
    → ((k : ℕ) (d : Cell ℕ) → at ≤ k → k < length new → nat_lt (get_or new k d).stamp.count s.count ≡ false)
    → ((d : Cell ℕ) → at < length new → is_same (get_or new at d).stamp s ≡ false) → cell_of (new ++ cells) s ≡ cell_of cells s
not_new new cells s at h below above here = nowhere new cells s (recursion_from_All (λ (c : Cell ℕ). is_same c.stamp s ≡ false) new each)
  where
    less : (a s : Stamp) → nat_lt a.count s.count ≡ true → is_same a s ≡ false
    less a s l = grind (arith, nat_tests)

    more : (a b s : Stamp) → nat_lt a.count s.count ≡ false → a.count < b.count → is_same b s ≡ false
    more a b s l m = grind (arith, nat_tests)

    each : (k : ℕ) (d : Cell ℕ) → k < length new → is_same (get_or new k d).stamp s ≡ false
    each k d l = split (nat_lt k at)
        (λ e. less (get_or new k d).stamp s (below k d (grind (arith, nat_tests)) l))
        (λ e. split (k == at)
        (λ f. let g : k ≡ at = grind (arith, nat_tests) in rw g (here d (grind (arith, nat_tests))))
        (λ f. let g : at < k = grind (arith, nat_tests) in
        more (get_or new at d).stamp (get_or new k d).stamp s (above at d (omega arith) (omega arith)) (counts_apart new h at k d g l)))

-- THE FIRST ENTRY ON A CHARACTER

none_same : (s : Stamp) (ys : List Named) → AllByRecursion (λ (y : Named). is_same y.stamp s ≡ false) ys → filter (λ n. is_same n.stamp s) ys ≡ []
none_same s [] h = refl
none_same s (y ∷ ys) h = ap (λ b. cond b (y ∷ filter (λ n. is_same n.stamp s) ys) (filter (λ n. is_same n.stamp s) ys)) h.0 ∙ none_same s ys h.1

all_after : (s : Stamp) (y : Named) (ys : List Named) → precedes y.stamp s ≡ false → is_same y.stamp s ≡ false → AllByRecursion (λ (later : Named). precedes later.stamp y.stamp ≡ false) ys
    → AllByRecursion (λ (later : Named). is_same later.stamp s ≡ false) ys
all_after s y [] p n h = tt
all_after s y (z ∷ ys) p n h = (beyond y.stamp z.stamp s p n h.0, all_after s y ys p n h.1)
  where
    beyond : (y z s : Stamp) → precedes y s ≡ false → is_same y s ≡ false → precedes z y ≡ false → is_same z s ≡ false
    beyond y z s p n h = grind (arith, nat_tests)

one_run : (s : Stamp) (ys : List Named) → AreByStamp ys → AllByRecursion (λ (y : Named). precedes y.stamp s ≡ false) ys → filter (λ n. is_same n.stamp s) ys ≡ take_while (λ n. is_same n.stamp s) ys
one_run s [] o h = refl
one_run s (y ∷ ys) o h =
    split (is_same y.stamp s)
    (λ e. ap (λ b. cond b (y ∷ filter (λ n. is_same n.stamp s) ys) (filter (λ n. is_same n.stamp s) ys)) e
    ∙ ap (λ l. y ∷ l) (one_run s ys o.1 h.1)
    ∙ sym (take_while-cons (λ n. is_same n.stamp s) y ys ∙ ap (λ b. cond b (y ∷ take_while (λ n. is_same n.stamp s) ys) []) e))
    (λ e. ap (λ b. cond b (y ∷ filter (λ n. is_same n.stamp s) ys) (filter (λ n. is_same n.stamp s) ys)) e
    ∙ none_same s ys (all_after s y ys h.0 e o.0)
    ∙ sym (take_while-cons (λ n. is_same n.stamp s) y ys ∙ ap (λ b. cond b (y ∷ take_while (λ n. is_same n.stamp s) ys) []) e))

not_itself : (s : Stamp) → precedes s s ≡ false
not_itself s = grind (arith, nat_tests)

earlier : (x : Named) (xs : List Named) (j : ℕ) (d : Named) → AreByStamp (x ∷ xs) → j < length xs → is_same (get_or (x ∷ xs) j d).stamp (get_or xs j d).stamp ≡ false → is_same x.stamp (get_or xs j d).stamp ≡ false
earlier x xs zero d o l n = n
earlier x xs (suc k) d o l n =
    apart x.stamp (get_or xs k d).stamp (get_or xs (suc k) d).stamp
    (All-from_recursion (λ (later : Named). precedes later.stamp x.stamp ≡ false) xs o.0 k d (omega arith))
    (next xs k d o.1 l) n
  where
    apart : (x p s : Stamp) → precedes p x ≡ false → precedes s p ≡ false → is_same p s ≡ false → is_same x s ≡ false
    apart x p s a b c = grind (arith, nat_tests)

    next : (xs : List Named) (k : ℕ) (d : Named) → AreByStamp xs → suc k < length xs → precedes (get_or xs (suc k) d).stamp (get_or xs k d).stamp ≡ false
    next [] k d o l = absurd (omega arith)
    next (x ∷ xs) zero d o l = All-from_recursion (λ (later : Named). precedes later.stamp x.stamp ≡ false) xs o.0 0 d (omega arith)
    next (x ∷ xs) (suc k) d o l = next xs k d o.1 (omega arith)

-- from the first entry on a character on, all of them stand together
pub all_from_first : (named : List Named) (i : ℕ) (d : Named) → AreByStamp named → i < length named → ((j : ℕ) → i ≡ suc j → is_same (get_or named j d).stamp (get_or named i d).stamp ≡ false)
    → map (λ n. n.entry) (take_while (λ n. is_same n.stamp (get_or named i d).stamp) (drop i named)) ≡ entries_on named (get_or named i d).stamp
all_from_first [] i d o l p = absurd (omega arith)
all_from_first (x ∷ xs) zero d o l p = ap (map (λ n. n.entry)) (sym (one_run x.stamp (x ∷ xs) o (not_itself x.stamp, o.0)))
all_from_first (x ∷ xs) (suc j) d o l p =
    let s : Stamp = (get_or xs j d).stamp in
    all_from_first xs j d o.1 (omega arith) (λ k e. p (suc k) (ap suc e))
    ∙ sym (ap (λ b. map (λ n. n.entry) (cond b (x ∷ filter (λ n. is_same n.stamp s) xs) (filter (λ n. is_same n.stamp s) xs))) (earlier x xs j d o (omega arith) (p j refl)))

-- WRITTEN

pub found_given : (table : TagStates) (cells : List (Cell ℕ)) (s : Stamp) (c : Cell ℕ) → AreStates table cells → cell_of cells s ≡ Some c → IsState table c.state
found_given table cells s c h e = by cells (recursion_from_All (λ (cell : Cell ℕ). IsState table cell.state) cells h) e
  where
    by : (cells : List (Cell ℕ)) → AllByRecursion (λ (cell : Cell ℕ). IsState table cell.state) cells → cell_of cells s ≡ Some c → IsState table c.state
    by [] h e = absurd (cc e)
    by (x ∷ xs) h e = split (is_same x.stamp s)
        (λ t. let f : Some x ≡ Some c = sym (ap (λ b. cond b (Some x) (cell_of xs s)) t) ∙ e in let k : x ≡ c = cc in subst (λ (y : Cell ℕ). IsState table y.state) k h.0)
        (λ f. by xs h.1 (sym (ap (λ b. cond b (Some x) (cell_of xs s)) f) ∙ e))

-- a copy that was written in a later table, and then a still later one
pub written_since : (old now new : TagStates) (named : List Named) (cells : List (Cell ℕ)) (copy : Cell ℕ) → KeepsIds old now → AreStates old cells → All (λ n. IsTag old n.entry.tag) named
    → HasEntries now named cells new copy → HasEntries old named cells new copy
written_since old now new named cells copy k h t w = record {
  given = w.given;
  written = λ cell e. w.written cell e ∙ (λ i. state_after ((k.states cell.state (found_given old cells copy.stamp cell h e)).1 i) (writes_kept old now named copy.stamp k t i));
}

written_later : (old now new : TagStates) (named : List Named) (cells : List (Cell ℕ)) (copy : Cell ℕ) → KeepsIds now new → HasEntries old named cells now copy → HasEntries old named cells new copy
written_later old now new named cells copy k w = record {
  given = (k.states copy.state w.given).0;
  written = λ cell e. (k.states copy.state w.given).1 ∙ w.written cell e;
}

pub all_later : (old now new : TagStates) (named : List Named) (cells copies : List (Cell ℕ)) → KeepsIds now new → All (HasEntries old named cells now) copies → All (HasEntries old named cells new) copies
all_later old now new named cells copies k h = All-weaker (HasEntries old named cells now) (HasEntries old named cells new) (λ copy w. written_later old now new named cells copy k w) copies h

-- PUT BACK

put_written : (mid new : TagStates) (named : List Named) (cells copies : List (Cell ℕ)) (cell : Cell ℕ) → KeepsIds mid new → IsState mid cell.state → cell_of cells cell.stamp ≡ Some cell
    → AllByRecursion (HasEntries mid named cells new) copies → (is_among (stamps_of copies) cell.stamp ≡ false → entries_on named cell.stamp ≡ [])
    → state_at new (put_back copies cell).state ≡ state_after (state_at mid cell.state) (writes_at mid (entries_on named cell.stamp))
put_written mid new named cells [] cell k g e h n = (k.states cell.state g).1 ∙ sym (ap (λ es. state_after (state_at mid cell.state) (writes_at mid es)) (n refl))
put_written mid new named cells (copy ∷ copies) cell k g e h n = split (is_same copy.stamp cell.stamp)
    (λ t.
    let s : copy.stamp ≡ cell.stamp = same_from_true copy.stamp cell.stamp t in
    ap (λ b. state_at new (cond b (with_state copy.state cell) (put_back copies cell)).state) t
    ∙ h.0.written cell (ap (cell_of cells) s ∙ e)
    ∙ ap (λ s. state_after (state_at mid cell.state) (writes_at mid (entries_on named s))) s)
    (λ f.
    ap (λ b. state_at new (cond b (with_state copy.state cell) (put_back copies cell)).state) f
    ∙ put_written mid new named cells copies cell k g e h.1 (λ m. n (ap (λ b. b || is_among (stamps_of copies) cell.stamp) f ∙ m)))

only_state : {T : Type 0} (copies : List (Cell T)) (cell : Cell T) → put_back copies cell ≡ with_state (put_back copies cell).state cell
only_state [] cell = refl
only_state (copy ∷ copies) cell = split (is_same copy.stamp cell.stamp)
    (λ t. rw t refl)
    (λ f. rw f (only_state copies cell))

-- THE LOOP

pub first_apart : (named : List Named) (at : ℕ) (d : Named) → ((at == 0) || not (is_same (get_or named (at - 1) d).stamp (get_or named at d).stamp)) ≡ true
    → (j : ℕ) → at ≡ suc j → is_same (get_or named j d).stamp (get_or named at d).stamp ≡ false
first_apart named at d h j e =
    let k : at - 1 ≡ j = omega arith in
    let n : (at == 0) ≡ false = grind (arith, nat_tests) in
    let f : is_same (get_or named (at - 1) d).stamp (get_or named at d).stamp ≡ false = grind (arith, h, n) in
    ap (λ i. is_same (get_or named i d).stamp (get_or named at d).stamp) (sym k) ∙ f

among_more : (xs ys : List (Cell ℕ)) (s : Stamp) → is_among (stamps_of xs) s ≡ true → is_among (stamps_of (xs ++ ys)) s ≡ true
among_more [] ys s h = absurd (cc h)
among_more (x ∷ xs) ys s h = split (is_same x.stamp s)
    (λ e. ap (λ b. b || is_among (stamps_of (xs ++ ys)) s) e)
    (λ e. ap (λ b. b || is_among (stamps_of (xs ++ ys)) s) e ∙ among_more xs ys s (sym (ap (λ b. b || is_among (stamps_of xs) s) e) ∙ h))

among_last : (xs : List (Cell ℕ)) (copy : Cell ℕ) → is_among (stamps_of (xs ++ copy ∷ [])) copy.stamp ≡ true
among_last [] copy = ap (λ b. b || false) (same_refl copy.stamp)
among_last (x ∷ xs) copy = split (is_same x.stamp copy.stamp)
    (λ e. ap (λ b. b || is_among (stamps_of (xs ++ copy ∷ [])) copy.stamp) e)
    (λ e. ap (λ b. b || is_among (stamps_of (xs ++ copy ∷ [])) copy.stamp) e ∙ among_last xs copy)

-- the entries before a place are on cells that are copied
abbrev pub AreCopied : List (Cell ℕ) → List Named → List (Cell ℕ) → ℕ → Type 0
AreCopied cells named copies at = (k : ℕ) (d : Named) → k < at → k < length named → IsCopied cells copies (get_or named k d).stamp

-- one more, which is that of the entry at the place, or there is none since it is copied already or no cell
abbrev pub IsFound : List (Cell ℕ) → List Named → ℕ → Option (Cell ℕ) → Type 0
IsFound cells named at (Some copy) = (n : Named) → copy.stamp ≡ (get_or named at n).stamp
IsFound cells named at None = (n : Named) → ((0 < at) × ((get_or named (at - 1) n).stamp ≡ (get_or named at n).stamp)) ⊎ (cell_of cells (get_or named at n).stamp ≡ None)

pub copied_more : (cells : List (Cell ℕ)) (named : List Named) (copies : List (Cell ℕ)) (at : ℕ) (found : Option (Cell ℕ)) → at < length named → IsFound cells named at found → AreCopied cells named copies at
    → AreCopied cells named (copies ++ one_or_none found) (at + 1)
copied_more cells named copies at found l f h k d m n e = split (nat_lt k at)
    (λ t. among_more copies (one_or_none found) (get_or named k d).stamp (h k d (grind (arith, nat_tests)) n e))
    (λ t. let same : k ≡ at = grind (arith, nat_tests) in
    ap (λ i. is_among (stamps_of (copies ++ one_or_none found)) (get_or named i d).stamp) same
    ∙ here found f (sym (ap (λ i. is_among (stamps_of cells) (get_or named i d).stamp) same) ∙ e))
  where
    here : (found : Option (Cell ℕ)) → IsFound cells named at found → is_among (stamps_of cells) (get_or named at d).stamp ≡ true → is_among (stamps_of (copies ++ one_or_none found)) (get_or named at d).stamp ≡ true
    here (Some copy) f e = ap (is_among (stamps_of (copies ++ copy ∷ []))) (sym (f d)) ∙ among_last copies copy
    here None f e = elim (f d) [
      | inl w ↦ among_more copies [] (get_or named at d).stamp (
          ap (is_among (stamps_of copies)) (sym w.1)
          ∙ h (at - 1) d (omega (arith, w.0)) (omega (arith, l)) (ap (is_among (stamps_of cells)) w.1 ∙ e))
      | inr w ↦ absurd (let x : is_some (cell_of cells (get_or named at d).stamp) ≡ true = stamp_held cells (get_or named at d).stamp ∙ e in let y : is_some (cell_of cells (get_or named at d).stamp) ≡ false = ap is_some w in cc (x, y))
    ]

pub written_more : (old now new : TagStates) (named : List Named) (cells copies : List (Cell ℕ)) (found : Option (Cell ℕ)) → KeepsIds old now → KeepsIds now new → AreStates old cells
    → All (λ n. IsTag old n.entry.tag) named → All (HasEntries old named cells now) copies → IfSome found (HasEntries now named cells new) → All (HasEntries old named cells new) (copies ++ one_or_none found)
written_more old now new named cells copies None k m h t w f = All-append (HasEntries old named cells new) copies [] (all_later old now new named cells copies m w) (All-nil (HasEntries old named cells new))
written_more old now new named cells copies (Some copy) k m h t w f =
    All-append (HasEntries old named cells new) copies (copy ∷ []) (all_later old now new named cells copies m w)
    (All-cons (HasEntries old named cells new) copy [] (written_since old now new named cells copy k h t f) (All-nil (HasEntries old named cells new)))

pub found_by : (cells : List (Cell ℕ)) (named : List Named) (at : ℕ) (found : Option (Cell ℕ)) → IfSome found (λ copy. (n : Named) → copy.stamp ≡ (get_or named at n).stamp)
    → IfNone found ((n : Named) → ((0 < at) × ((get_or named (at - 1) n).stamp ≡ (get_or named at n).stamp)) ⊎ (cell_of cells (get_or named at n).stamp ≡ None)) → IsFound cells named at found
found_by cells named at None s n = n
found_by cells named at (Some copy) s n = s

-- THE END

found_further : (x : Cell ℕ) (xs cs : List (Cell ℕ)) → AllByRecursion (λ t. is_same x.stamp t ≡ false) (stamps_of cs) → AllByRecursion (λ (c : Cell ℕ). cell_of xs c.stamp ≡ Some c) cs
    → AllByRecursion (λ (c : Cell ℕ). cell_of (x ∷ xs) c.stamp ≡ Some c) cs
found_further x xs [] h k = tt
found_further x xs (c ∷ cs) h k = (ap (λ b. cond b (Some x) (cell_of xs c.stamp)) h.0 ∙ k.0, found_further x xs cs h.1 k.1)

each_found : (cells : List (Cell ℕ)) → AreDistinct cells → AllByRecursion (λ (c : Cell ℕ). cell_of cells c.stamp ≡ Some c) cells
each_found [] d = tt
each_found (c ∷ cs) d = (
  ap (λ b. cond b (Some c) (cell_of cs c.stamp)) (same_refl c.stamp),
  found_further c cs cs (IsDistinct-head is_same c.stamp (stamps_of cs) d) (each_found cs (IsDistinct-tail is_same c.stamp (stamps_of cs) d)),
)

-- what no copy has, no entry is on
silent : (cells copies : List (Cell ℕ)) (named : List Named) (s : Stamp) → is_among (stamps_of cells) s ≡ true → is_among (stamps_of copies) s ≡ false → AllByRecursion (λ (n : Named). IsCopied cells copies n.stamp) named
    → entries_on named s ≡ []
silent cells copies named s a b h = ap (map (λ n. n.entry)) (none_same s named (each named h))
  where
    each : (named : List Named) → AllByRecursion (λ (n : Named). IsCopied cells copies n.stamp) named → AllByRecursion (λ (n : Named). is_same n.stamp s ≡ false) named
    each [] h = tt
    each (n ∷ named) h = (
      split (is_same n.stamp s)
          (λ t. absurd (let e : n.stamp ≡ s = same_from_true n.stamp s t in let f : is_among (stamps_of copies) s ≡ true = ap (is_among (stamps_of copies)) (sym e) ∙ h.0 (ap (is_among (stamps_of cells)) e ∙ a) in cc (f, b)))
          (λ f. f),
      each named h.1,
    )

module _ (old mid new : TagStates) (named sorted : List Named) (ops : List Operation) (cells copies : List (Cell ℕ)) (runs : List StateRun)
    (distinct : AreDistinct cells) (given : AreStates old cells) (first : KeepsIds old mid) (second : KeepsIds mid new)
    (writes : (state : List Write) (s : Stamp) → state_after state (writes_at mid (entries_on named s)) ≡ state_after state (tag_writes ops s))
    (entries : (s : Stamp) → entries_on sorted s ≡ entries_on named s)
    (written : All (HasEntries mid sorted cells new) copies)
    (copied : All (λ n. IsCopied cells copies n.stamp) sorted)
    (back : (cell : Cell ℕ) → put_back_in_any runs cell ≡ put_back copies cell) where
  one_planned : (cell : Cell ℕ) → IsState old cell.state → cell_of cells cell.stamp ≡ Some cell → shown new (put_back_in_any runs cell) ≡ after_tags ops (shown old cell)
  one_planned cell g e =
      let there : is_among (stamps_of cells) cell.stamp ≡ true = sym (stamp_held cells cell.stamp) ∙ ap is_some e in
      let state : state_at new (put_back copies cell).state ≡ state_after (state_at old cell.state) (tag_writes ops cell.stamp) =
      put_written mid new sorted cells copies cell second (first.states cell.state g).0 e (recursion_from_All (HasEntries mid sorted cells new) copies written)
      (λ m. silent cells copies sorted cell.stamp there m (recursion_from_All (λ (n : Named). IsCopied cells copies n.stamp) sorted copied))
      ∙ ap (λ es. state_after (state_at mid cell.state) (writes_at mid es)) (entries cell.stamp)
      ∙ writes (state_at mid cell.state) cell.stamp
      ∙ ap (λ st. state_after st (tag_writes ops cell.stamp)) (first.states cell.state g).1 in
      ap (shown new) (back cell ∙ only_state copies cell) ∙ ap (λ st. with_state st (shown old cell)) state

  pub all_planned : All (λ cell. shown new (put_back_in_any runs cell) ≡ after_tags ops (shown old cell)) cells
  all_planned k d l =
      one_planned (get_or cells k d) (given k d l) (All-from_recursion (λ (c : Cell ℕ). cell_of cells c.stamp ≡ Some c) cells (each_found cells distinct) k d l)
