-- Characters that go from a text go from the portion of its cells that a working copy has.
use Rattle.std.proofs.Common.{All, ◌≡◌, ◌∙◌, ◌⊎◌, inl, inr, get_or, ◌-◌, ◌==◌, ℕ, suc, ◌+◌, ◌<◌, ◌≤◌, ◌&&◌, ◌||◌, not, Bool, true, false, List, [], ◌∷◌, cond, filter, length, map, take_while, refl, sym, ap, arith, add-zero, Option, Some, None}
use Rattle.std.specs.Prelude.{nat_le, nat_lt, option_map, slice_get, unwrap_or}
use Rattle.std.proofs.lemmas.Bool.{cond-false, cond-true, or_left, or_right}
use Rattle.std.proofs.lemmas.Bool.Decides.{nat_tests}
use Rattle.std.proofs.lemmas.List.Elements.{All-cons}
use Rattle.std.proofs.lemmas.Option.{slice_get_cases}
use Rattle.rt_stamps.specs.declared.stamp.Stamp.{Stamp}
use Rattle.rt_stamps.specs.Stamps.{is_same}
use Rattle.rt_stamps.proofs.Order.{same_from_true, same_refl}
use Rattle.rt_store.specs.declared.cell.Cell.{Cell}
use Rattle.rt_store.specs.Cells.{AreDistinct, stamps_of, visible_of}
use Rattle.rt_store.specs.Shown.{TaggedCell}
use Rattle.rt_store.specs.Spans.{is_among}
use Rattle.rt_store.proofs.Distinct.{differs, first_apart, others_distinct, split}
use Rattle.rt_plans.specs.declared.range.Range.{Range}
use Rattle.rt_plans.specs.Removals.{RangesFollow, gone_at, is_covered, is_in, stamps_at}
use Rattle.rt_revert.specs.Portions.{only, others_before, visible_before_stamp}
use Rattle.rt_revert.specs.Reverting.{are_at, as_removed, still_visible}
use Rattle.rt_revert.proofs.CellsParted.{place_first, place_next}
use Rattle.rt_revert.proofs.PortionLaws.{before_cons, is_other, only_has, only_not}

-- where places tell which cells are meant, counted from one on
abbrev Tells : {T : Type 0} → List Stamp → (ℕ → Bool) → ℕ → List (Cell T) → Type 0
Tells stamps places p cells = (k : ℕ) → places (p + k) ≡ are_at stamps cells k

tells_all : {T : Type 0} (stamps : List Stamp) (cells : List (Cell T)) → Tells stamps (are_at stamps cells) 0 cells
tells_all stamps cells k = ap (are_at stamps cells) (omega arith)

visible_at : {T : Type 0} (stamps : List Stamp) (c : Cell T) (cs : List (Cell T)) (k : ℕ) (b : Bool) → c.gone ≡ b
    → are_at stamps (c ∷ cs) k ≡ unwrap_or (option_map (λ (cell : Cell T). is_among stamps cell.stamp) (slice_get (cond (not b) (c ∷ visible_of cs) (visible_of cs)) k)) false
visible_at {T} stamps c cs k b e = ap (λ d. unwrap_or (option_map (λ (cell : Cell T). is_among stamps cell.stamp) (slice_get (cond (not d) (c ∷ visible_of cs) (visible_of cs)) k)) false) e

past_gone : {T : Type 0} (stamps : List Stamp) (places : ℕ → Bool) (p : ℕ) (c : Cell T) (cs : List (Cell T)) → c.gone ≡ true → Tells stamps places p (c ∷ cs) → Tells stamps places p cs
past_gone stamps places p c cs e h k = h k ∙ visible_at stamps c cs k true e

past_shown : {T : Type 0} (stamps : List Stamp) (places : ℕ → Bool) (p : ℕ) (c : Cell T) (cs : List (Cell T)) → c.gone ≡ false → Tells stamps places p (c ∷ cs) → Tells stamps places (p + 1) cs
past_shown stamps places p c cs e h k = ap places (omega arith) ∙ h (suc k) ∙ visible_at stamps c cs (suc k) false e

told_here : {T : Type 0} (stamps : List Stamp) (places : ℕ → Bool) (p : ℕ) (c : Cell T) (cs : List (Cell T)) → c.gone ≡ false → Tells stamps places p (c ∷ cs) → places p ≡ is_among stamps c.stamp
told_here stamps places p c cs e h = ap places (sym (add-zero p)) ∙ h 0 ∙ visible_at stamps c cs 0 false e

-- THE CELLS THAT ARE LEFT

abbrev pub gone_among : {T : Type 0} → List Stamp → Cell T → Cell T
gone_among stamps c = cond (is_among stamps c.stamp) (record c { gone = true }) c

same_stamp : {T : Type 0} (stamps : List Stamp) (c : Cell T) → (gone_among stamps c).stamp ≡ c.stamp
same_stamp stamps c = elim (is_among stamps c.stamp) as (λ b. (cond b (record c { gone = true }) c).stamp ≡ c.stamp) [ true ↦ refl | false ↦ refl ]

gone_still : {T : Type 0} (stamps : List Stamp) (c : Cell T) → c.gone ≡ true → c ≡ gone_among stamps c
gone_still stamps c e = by (is_among stamps c.stamp)
  where
    by : (b : Bool) → c ≡ cond b (record c { gone = true }) c
    by true = λ i. record c { gone = e i }
    by false = refl

gone_now : {T : Type 0} (stamps : List Stamp) (c : Cell T) (b : Bool) → c.gone ≡ false → b ≡ is_among stamps c.stamp → record c { gone = b } ≡ gone_among stamps c
gone_now {T} stamps c b e h = by (is_among stamps c.stamp) h
  where
    by : (d : Bool) → b ≡ d → record c { gone = b } ≡ cond d (record c { gone = true }) c
    by true h = λ i. record c { gone = h i }
    by false h = λ i. record c { gone = (h ∙ sym e) i }

gone_from : {T : Type 0} (stamps : List Stamp) (places : ℕ → Bool) (p : ℕ) (cells : List (Cell T)) → Tells stamps places p cells → gone_at places p cells ≡ map (gone_among stamps) cells
gone_from stamps places p [] h = refl
gone_from stamps places p (c ∷ cs) h = split c.gone
    (λ e. cond-true c.gone (c ∷ gone_at places p cs) (record c { gone = places p } ∷ gone_at places (p + 1) cs) e
    ∙ (λ i. gone_still stamps c e i ∷ gone_from stamps places p cs (past_gone stamps places p c cs e h) i))
    (λ e. cond-false c.gone (c ∷ gone_at places p cs) (record c { gone = places p } ∷ gone_at places (p + 1) cs) e
    ∙ (λ i. gone_now stamps c (places p) e (told_here stamps places p c cs e h) i ∷ gone_from stamps places (p + 1) cs (past_shown stamps places p c cs e h) i))

pub gone_law : {T : Type 0} (stamps : List Stamp) (cells : List (Cell T)) → gone_at (are_at stamps cells) 0 cells ≡ map (gone_among stamps) cells
gone_law stamps cells = gone_from stamps (are_at stamps cells) 0 cells (tells_all stamps cells)

only_map : {T : Type 0} (has : Stamp → Bool) (stamps : List Stamp) (cells : List (Cell T)) → only has (map (gone_among stamps) cells) ≡ map (gone_among stamps) (only has cells)
only_map has stamps [] = refl
only_map {T} has stamps (c ∷ cs) =
    (λ i. cond (has (same_stamp stamps c i)) (gone_among stamps c ∷ only_map has stamps cs i) (only_map has stamps cs i)) ∙ by (has c.stamp) (only has cs)
  where
    by : (b : Bool) (os : List (Cell T)) → cond b (gone_among stamps c ∷ map (gone_among stamps) os) (map (gone_among stamps) os) ≡ map (gone_among stamps) (cond b (c ∷ os) os)
    by true os = refl
    by false os = refl

pub only_gone : {T : Type 0} (has : Stamp → Bool) (stamps : List Stamp) (cells : List (Cell T))
    → only has (gone_at (are_at stamps cells) 0 cells) ≡ gone_at (are_at stamps (only has cells)) 0 (only has cells)
only_gone has stamps cells = ap (only has) (gone_law stamps cells) ∙ only_map has stamps cells ∙ sym (gone_law stamps (only has cells))

map_stamps : {T : Type 0} (stamps : List Stamp) (cells : List (Cell T)) → stamps_of (map (gone_among stamps) cells) ≡ stamps_of cells
map_stamps stamps [] = refl
map_stamps stamps (c ∷ cs) = λ i. same_stamp stamps c i ∷ map_stamps stamps cs i

pub gone_stamps : {T : Type 0} (stamps : List Stamp) (cells : List (Cell T)) → stamps_of (gone_at (are_at stamps cells) 0 cells) ≡ stamps_of cells
gone_stamps stamps cells = ap stamps_of (gone_law stamps cells) ∙ map_stamps stamps cells

-- stamps that the copy has
abbrev pub AreHad : (Stamp → Bool) → List Stamp → Type 0
AreHad has stamps = (s : Stamp) → is_among stamps s ≡ true → has s ≡ true

not_among : (has : Stamp → Bool) (stamps : List Stamp) (s : Stamp) → AreHad has stamps → has s ≡ false → is_among stamps s ≡ false
not_among has stamps s h n = split (is_among stamps s) (λ e. absurd (let x = h s e in cc (x, n))) (λ e. e)

-- the others before a cell are as they were
others_map : {T : Type 0} (has : Stamp → Bool) (stamps : List Stamp) (cells : List (Cell T)) (s : Stamp) → AreHad has stamps → others_before has (map (gone_among stamps) cells) s ≡ others_before has cells s
others_map has stamps [] s h = refl
others_map {T} has stamps (c ∷ cs) s h =
    let before = take_while (λ (cell : Cell T). not (is_same cell.stamp s)) cs in
    let after = take_while (λ (cell : Cell T). not (is_same cell.stamp s)) (map (gone_among stamps) cs) in
    before_cons has (gone_among stamps c) (map (gone_among stamps) cs) s
    ∙ ap (λ t. length (filter (λ (cell : Cell T). is_other has cell) (cond (not (is_same t s)) (gone_among stamps c ∷ after) []))) (same_stamp stamps c)
    ∙ one_more (is_same c.stamp s) after before (others_map has stamps cs s h)
    ∙ sym (before_cons has c cs s)
  where
    same_other : is_other has (gone_among stamps c) ≡ is_other has c
    same_other = split (has c.stamp)
        (λ e. none (gone_among stamps c) (ap has (same_stamp stamps c) ∙ e) ∙ sym (none c e))
        (λ e. ap (λ (x : Cell T). is_other has x) (cond-false (is_among stamps c.stamp) (record c { gone = true }) c (not_among has stamps c.stamp h e)))
      where
        none : (x : Cell T) → has x.stamp ≡ true → is_other has x ≡ false
        none x e = by x.gone (has x.stamp) e
          where
            by : (a b : Bool) → b ≡ true → (not a && not b) ≡ false
            by true true e = refl
            by false true e = refl
            by a false e = absurd (cc e)

    length_more : (a b : Bool) (x y : Cell T) (us vs : List (Cell T)) → a ≡ b → length us ≡ length vs → length (cond a (x ∷ us) us) ≡ length (cond b (y ∷ vs) vs)
    length_more a b x y us vs e k = ap (λ d. length (cond d (x ∷ us) us)) e ∙ by b
      where
        by : (d : Bool) → length (cond d (x ∷ us) us) ≡ length (cond d (y ∷ vs) vs)
        by true = ap suc k
        by false = k

    one_more : (a : Bool) (us vs : List (Cell T)) → length (filter (λ (cell : Cell T). is_other has cell) us) ≡ length (filter (λ (cell : Cell T). is_other has cell) vs)
        → length (filter (λ (cell : Cell T). is_other has cell) (cond (not a) (gone_among stamps c ∷ us) [])) ≡ length (filter (λ (cell : Cell T). is_other has cell) (cond (not a) (c ∷ vs) []))
    one_more true us vs e = refl
    one_more false us vs e =
        length_more (is_other has (gone_among stamps c)) (is_other has c) (gone_among stamps c) c (filter (λ (cell : Cell T). is_other has cell) us) (filter (λ (cell : Cell T). is_other has cell) vs) same_other e

pub others_gone : {T : Type 0} (has : Stamp → Bool) (stamps : List Stamp) (cells : List (Cell T)) (s : Stamp) → AreHad has stamps
    → others_before has (gone_at (are_at stamps cells) 0 cells) s ≡ others_before has cells s
others_gone has stamps cells s h = ap (λ l. others_before has l s) (gone_law stamps cells) ∙ others_map has stamps cells s h

-- THE CELLS THAT GO

-- those of some stamps that are visible
abbrev pub lost : {T : Type 0} → List Stamp → List (Cell T) → List (Cell T)
lost {T} stamps cells = filter (λ (cell : Cell T). is_among stamps cell.stamp) (visible_of cells)

lost_from : {T : Type 0} (stamps : List Stamp) (places : ℕ → Bool) (p : ℕ) (cells : List (Cell T)) → Tells stamps places p cells → stamps_at places p cells ≡ stamps_of (lost stamps cells)
lost_from stamps places p [] h = refl
lost_from {T} stamps places p (c ∷ cs) h =
    let here = stamps_at places p cs in
    let next = stamps_at places (p + 1) cs in
    let shown : Bool → List Stamp = λ b. stamps_of (filter (λ (cell : Cell T). is_among stamps cell.stamp) (cond (not b) (c ∷ visible_of cs) (visible_of cs))) in
    split c.gone
    (λ e. cond-true c.gone here (cond (places p) (c.stamp ∷ next) next) e ∙ lost_from stamps places p cs (past_gone stamps places p c cs e h) ∙ ap shown (sym e))
    (λ e. cond-false c.gone here (cond (places p) (c.stamp ∷ next) next) e
    ∙ one_more (places p) (is_among stamps c.stamp) next (lost stamps cs) (told_here stamps places p c cs e h) (lost_from stamps places (p + 1) cs (past_shown stamps places p c cs e h))
    ∙ ap shown (sym e))
  where
    one_more : (a b : Bool) (us : List Stamp) (vs : List (Cell T)) → a ≡ b → us ≡ stamps_of vs → cond a (c.stamp ∷ us) us ≡ stamps_of (cond b (c ∷ vs) vs)
    one_more a b us vs e k = ap (λ d. cond d (c.stamp ∷ us) us) e ∙ by b
      where
        by : (d : Bool) → cond d (c.stamp ∷ us) us ≡ stamps_of (cond d (c ∷ vs) vs)
        by true = ap (λ l. c.stamp ∷ l) k
        by false = k

pub lost_stamps : {T : Type 0} (stamps : List Stamp) (cells : List (Cell T)) → stamps_at (are_at stamps cells) 0 cells ≡ stamps_of (lost stamps cells)
lost_stamps stamps cells = lost_from stamps (are_at stamps cells) 0 cells (tells_all stamps cells)

lost_cons : {T : Type 0} (stamps : List Stamp) (c : Cell T) (cs : List (Cell T)) → lost stamps (c ∷ cs) ≡ cond c.gone (lost stamps cs) (cond (is_among stamps c.stamp) (c ∷ lost stamps cs) (lost stamps cs))
lost_cons {T} stamps c cs = by c.gone
  where
    by : (b : Bool) → filter (λ (cell : Cell T). is_among stamps cell.stamp) (cond (not b) (c ∷ visible_of cs) (visible_of cs)) ≡ cond b (lost stamps cs) (cond (is_among stamps c.stamp) (c ∷ lost stamps cs) (lost stamps cs))
    by true = refl
    by false = refl

pub lost_only : {T : Type 0} (has : Stamp → Bool) (stamps : List Stamp) (cells : List (Cell T)) → AreHad has stamps → lost stamps (only has cells) ≡ lost stamps cells
lost_only has stamps [] h = refl
lost_only {T} has stamps (c ∷ cs) h =
    let rest = lost_only has stamps cs h in
    split (has c.stamp)
    (λ e. ap (lost stamps) (only_has has c cs e) ∙ lost_cons stamps c (only has cs)
    ∙ (λ i. cond c.gone (rest i) (cond (is_among stamps c.stamp) (c ∷ rest i) (rest i))) ∙ sym (lost_cons stamps c cs))
    (λ e. ap (lost stamps) (only_not has c cs e) ∙ rest
    ∙ sym (lost_cons stamps c cs ∙ ap (λ b. cond c.gone (lost stamps cs) (cond b (c ∷ lost stamps cs) (lost stamps cs))) (not_among has stamps c.stamp h e) ∙ same c.gone))
  where
    same : (b : Bool) → cond b (lost stamps cs) (lost stamps cs) ≡ lost stamps cs
    same true = refl
    same false = refl

pub stamps_only : {T : Type 0} (has : Stamp → Bool) (stamps : List Stamp) (cells : List (Cell T)) → AreHad has stamps
    → stamps_at (are_at stamps (only has cells)) 0 (only has cells) ≡ stamps_at (are_at stamps cells) 0 cells
stamps_only has stamps cells h = lost_stamps stamps (only has cells) ∙ ap stamps_of (lost_only has stamps cells h) ∙ sym (lost_stamps stamps cells)

pub still_only : (has : Stamp → Bool) (stamps : List Stamp) (cells : List TaggedCell) → AreHad has stamps → still_visible stamps (only has cells) ≡ still_visible stamps cells
still_only has stamps cells h = ap (map as_removed) (lost_only has stamps cells h)

-- such a cell has one of the stamps, and is one of the text's
pub lost_named : {T : Type 0} (stamps : List Stamp) (cells : List (Cell T)) (s : Stamp) → is_among (stamps_of (lost stamps cells)) s ≡ true → (is_among stamps s ≡ true) × (is_among (stamps_of cells) s ≡ true)
lost_named stamps [] s a = absurd (cc a)
lost_named {T} stamps (c ∷ cs) s a =
    by (λ k. let q = lost_named stamps cs s k in (q.0, or_right (is_same c.stamp s) _ q.1)) c.gone (is_among stamps c.stamp) refl (sym (ap (λ l. is_among (stamps_of l) s) (lost_cons stamps c cs)) ∙ a)
  where
    by : (later : is_among (stamps_of (lost stamps cs)) s ≡ true → (is_among stamps s ≡ true) × (is_among (stamps_of (c ∷ cs)) s ≡ true)) (g b : Bool) → is_among stamps c.stamp ≡ b → is_among (stamps_of (cond g (lost stamps cs) (cond b (c ∷ lost stamps cs) (lost stamps cs)))) s ≡ true
        → (is_among stamps s ≡ true) × (is_among (stamps_of (c ∷ cs)) s ≡ true)
    by later true b e k = later k
    by later false false e k = later k
    by later false true e k = split (is_same c.stamp s)
        (λ f. let same : c.stamp ≡ s = same_from_true c.stamp s f in (ap (is_among stamps) (sym same) ∙ e, or_left (is_same c.stamp s) _ f))
        (λ f. later (sym (ap (λ d. d || is_among (stamps_of (lost stamps cs)) s) f) ∙ k))

-- THEIR PLACES

abbrev pub one : ℕ → Range
one place = record { from = place; to = place + 1 }

-- the places of visible cells that are meant, each as a range
abbrev pub singles : {T : Type 0} → (ℕ → Bool) → ℕ → List (Cell T) → List Range
singles places p [] = []
singles places p (c ∷ cs) = cond c.gone (singles places p cs) (cond (places p) (one p ∷ singles places (p + 1) cs) (singles places (p + 1) cs))

pub map_same : (f g : Stamp → Range) (ss : List Stamp) → ((s : Stamp) → is_among ss s ≡ true → f s ≡ g s) → map f ss ≡ map g ss
map_same f g [] h = refl
map_same f g (s ∷ ss) h =
    λ i. h s (or_left (is_same s s) _ (same_refl s)) i ∷ map_same f g ss (λ t e. h t (or_right (is_same s t) _ e)) i

-- the stamps at places are some of the text's
at_named : {T : Type 0} (places : ℕ → Bool) (p : ℕ) (cells : List (Cell T)) (s : Stamp) → is_among (stamps_at places p cells) s ≡ true → is_among (stamps_of cells) s ≡ true
at_named places p [] s h = h
at_named {T} places p (c ∷ cs) s h =
    by (at_named places p cs s) (at_named places (p + 1) cs s) c.gone (places p) h
  where
    by : (is_among (stamps_at places p cs) s ≡ true → is_among (stamps_of cs) s ≡ true) → (is_among (stamps_at places (p + 1) cs) s ≡ true → is_among (stamps_of cs) s ≡ true)
        → (g b : Bool) → is_among (cond g (stamps_at places p cs) (cond b (c.stamp ∷ stamps_at places (p + 1) cs) (stamps_at places (p + 1) cs))) s ≡ true → is_among (stamps_of (c ∷ cs)) s ≡ true
    by here next true b k = or_right (is_same c.stamp s) _ (here k)
    by here next false false k = or_right (is_same c.stamp s) _ (next k)
    by here next false true k = split (is_same c.stamp s)
        (λ f. or_left (is_same c.stamp s) _ f)
        (λ f. or_right (is_same c.stamp s) _ (next (sym (ap (λ d. d || is_among (stamps_at places (p + 1) cs) s) f) ∙ k)))

placed_from : {T : Type 0} (places : ℕ → Bool) (p : ℕ) (cells : List (Cell T)) → AreDistinct cells → map (λ s. one (visible_before_stamp cells s + p)) (stamps_at places p cells) ≡ singles places p cells
placed_from places p [] d = refl
placed_from {T} places p (c ∷ cs) d =
    by (rest p (placed_from places p cs (others_distinct c.stamp (stamps_of cs) d))) (rest (p + 1) (placed_from places (p + 1) cs (others_distinct c.stamp (stamps_of cs) d)))
    c.gone (places p) refl
  where
    apart : (s : Stamp) → is_among (stamps_of cs) s ≡ true → is_same c.stamp s ≡ false
    apart s a = differs c.stamp s (stamps_of cs) (first_apart c.stamp (stamps_of cs) d) a

    rest : (q : ℕ) → map (λ s. one (visible_before_stamp cs s + q)) (stamps_at places q cs) ≡ singles places q cs
        → (n : ℕ) → p + n ≡ q → cond c.gone 0 1 ≡ n → map (λ s. one (visible_before_stamp (c ∷ cs) s + p)) (stamps_at places q cs) ≡ singles places q cs
    rest q h n e g =
        map_same (λ s. one (visible_before_stamp (c ∷ cs) s + p)) (λ s. one (visible_before_stamp cs s + q)) (stamps_at places q cs)
        (λ s k. let a = at_named places q cs s k in let at : visible_before_stamp (c ∷ cs) s + p ≡ visible_before_stamp cs s + q = omega (arith, place_next c cs s (apart s a) a, e, g) in ap one at)
        ∙ h

    by : ((n : ℕ) → p + n ≡ p → cond c.gone 0 1 ≡ n → map (λ s. one (visible_before_stamp (c ∷ cs) s + p)) (stamps_at places p cs) ≡ singles places p cs)
        → ((n : ℕ) → p + n ≡ p + 1 → cond c.gone 0 1 ≡ n → map (λ s. one (visible_before_stamp (c ∷ cs) s + p)) (stamps_at places (p + 1) cs) ≡ singles places (p + 1) cs)
        → (g b : Bool) → c.gone ≡ g
        → map (λ s. one (visible_before_stamp (c ∷ cs) s + p)) (cond g (stamps_at places p cs) (cond b (c.stamp ∷ stamps_at places (p + 1) cs) (stamps_at places (p + 1) cs)))
        ≡ cond g (singles places p cs) (cond b (one p ∷ singles places (p + 1) cs) (singles places (p + 1) cs))
    by here next true b g = here 0 (omega arith) (ap (λ d. cond d 0 1) g)
    by here next false false g = next 1 refl (ap (λ d. cond d 0 1) g)
    by here next false true g =
        let first : visible_before_stamp (c ∷ cs) c.stamp + p ≡ p = omega (arith, place_first c cs c.stamp (same_refl c.stamp)) in
        λ i. one (first i) ∷ next 1 refl (ap (λ d. cond d 0 1) g) i

pub placed_all : {T : Type 0} (places : ℕ → Bool) (cells : List (Cell T)) → AreDistinct cells → map (λ s. one (visible_before_stamp cells s)) (stamps_at places 0 cells) ≡ singles places 0 cells
placed_all places cells d =
    ap (λ (f : Stamp → Range). map f (stamps_at places 0 cells)) (λ i s. one (sym (add-zero (visible_before_stamp cells s)) i)) ∙ placed_from places 0 cells d

-- they are in order, and cover what is meant
pub singles_order : {T : Type 0} (places : ℕ → Bool) (p q : ℕ) (cells : List (Cell T)) → q ≤ p → RangesFollow q (singles places p cells)
singles_order places p q [] le = tt
singles_order {T} places p q (c ∷ cs) le =
    by (singles_order places p q cs le) (singles_order places (p + 1) (p + 1) cs (omega arith)) (singles_order places (p + 1) q cs (omega arith)) c.gone (places p)
  where
    by : RangesFollow q (singles places p cs) → RangesFollow (p + 1) (singles places (p + 1) cs) → RangesFollow q (singles places (p + 1) cs)
        → (g b : Bool) → RangesFollow q (cond g (singles places p cs) (cond b (one p ∷ singles places (p + 1) cs) (singles places (p + 1) cs)))
    by here next later true b = here
    by here next later false true = (le, omega arith, next)
    by here next later false false = later

covered_from : {T : Type 0} (places : ℕ → Bool) (p : ℕ) (cells : List (Cell T)) (at : ℕ)
    → is_covered (singles places p cells) at ≡ (nat_le p at && (nat_lt at (p + length (visible_of cells)) && places at))
covered_from places p [] at = none (places at)
  where
    none : (b : Bool) → false ≡ (nat_le p at && (nat_lt at (p + 0) && b))
    none b = grind (arith, nat_tests)
covered_from {T} places p (c ∷ cs) at =
    by (length (visible_of cs)) (covered_from places p cs at) (covered_from places (p + 1) cs at) c.gone (places p) refl
    ∙ ap (λ m. nat_le p at && (nat_lt at (p + m) && places at)) (sym (counted c.gone (visible_of cs)))
  where
    counted : (g : Bool) (vs : List (Cell T)) → length (cond (not g) (c ∷ vs) vs) ≡ cond g (length vs) (suc (length vs))
    counted true vs = refl
    counted false vs = refl

    before : (n : ℕ) (d : Bool) → p ≡ at → (nat_le (p + 1) at && (nat_lt at (p + 1 + n) && d)) ≡ false
    before n d k = grind (arith, nat_tests)

    here : (n : ℕ) → p ≡ at → (nat_le p at && (nat_lt at (p + suc n) && places at)) ≡ places p
    here n k = first n (places at) k ∙ ap places (sym k)
      where
        first : (n : ℕ) (d : Bool) → p ≡ at → (nat_le p at && (nat_lt at (p + suc n) && d)) ≡ d
        first n d k = grind (arith, nat_tests)

    further : (n : ℕ) (d : Bool) → (p == at) ≡ false → (nat_le (p + 1) at && (nat_lt at (p + 1 + n) && d)) ≡ (nat_le p at && (nat_lt at (p + suc n) && d))
    further n d k = grind (arith, nat_tests)

    in_one : p ≡ at → is_in (one p) at ≡ true
    in_one k = grind (arith, nat_tests)

    off_one : (p == at) ≡ false → is_in (one p) at ≡ false
    off_one k = grind (arith, nat_tests)

    is_at : (p == at) ≡ true → p ≡ at
    is_at k = grind (arith, nat_tests)

    by : (n : ℕ) → is_covered (singles places p cs) at ≡ (nat_le p at && (nat_lt at (p + n) && places at))
        → is_covered (singles places (p + 1) cs) at ≡ (nat_le (p + 1) at && (nat_lt at (p + 1 + n) && places at))
        → (g b : Bool) → places p ≡ b
        → is_covered (cond g (singles places p cs) (cond b (one p ∷ singles places (p + 1) cs) (singles places (p + 1) cs))) at
        ≡ (nat_le p at && (nat_lt at (p + cond g n (suc n)) && places at))
    by n h m true b e = h
    by n h m false true e = split (p == at)
        (λ k. or_left (is_in (one p) at) _ (in_one (is_at k)) ∙ sym (here n (is_at k) ∙ e))
        (λ k. ap (λ d. d || is_covered (singles places (p + 1) cs) at) (off_one k) ∙ m ∙ further n (places at) k)
    by n h m false false e = split (p == at)
        (λ k. m ∙ before n (places at) (is_at k) ∙ sym (here n (is_at k) ∙ e))
        (λ k. m ∙ further n (places at) k)

-- at the places of some stamps
pub singles_covered : {T : Type 0} (stamps : List Stamp) (cells : List (Cell T)) (at : ℕ) → is_covered (singles (are_at stamps cells) 0 cells) at ≡ are_at stamps cells at
singles_covered {T} stamps cells at =
    covered_from (are_at stamps cells) 0 cells at ∙ by (slice_get_cases (visible_of cells) at).1
  where
    tests : Option (Cell T) → Bool
    tests o = unwrap_or (option_map (λ (cell : Cell T). is_among stamps cell.stamp) o) false

    inside : (n : ℕ) (d : Bool) → at < n → (nat_le 0 at && (nat_lt at (0 + n) && d)) ≡ d
    inside n d lt = grind (arith, nat_tests, lt)

    outside : (n : ℕ) (d : Bool) → n ≤ at → (nat_le 0 at && (nat_lt at (0 + n) && d)) ≡ false
    outside n d le = grind (arith, nat_tests, le)

    by : ((x : Cell T) × (at < length (visible_of cells)) × (slice_get (visible_of cells) at ≡ Some x) × (get_or (visible_of cells) at x ≡ x))
        ⊎ ((length (visible_of cells) ≤ at) × (slice_get (visible_of cells) at ≡ None))
        → (nat_le 0 at && (nat_lt at (0 + length (visible_of cells)) && are_at stamps cells at)) ≡ are_at stamps cells at
    by (inl x) = inside (length (visible_of cells)) (are_at stamps cells at) x.1
    by (inr x) = outside (length (visible_of cells)) (are_at stamps cells at) x.0 ∙ sym (ap tests x.1)

-- ranges in order that cover nothing past a bound end there
pub ends_within : (ranges : List Range) (n bound : ℕ) → RangesFollow n ranges → ((p : ℕ) → is_covered ranges p ≡ true → p < bound) → All (λ (range : Range). range.to ≤ bound) ranges
ends_within [] n bound o h = λ k d lt. absurd (omega arith)
ends_within (r ∷ rs) n bound o h =
    let last : is_in r (r.to - 1) ≡ true = grind (arith, nat_tests, o.1) in
    let less : r.to - 1 < bound = h (r.to - 1) (or_left (is_in r (r.to - 1)) _ last) in
    All-cons (λ (range : Range). range.to ≤ bound) r rs (omega (arith, less, o.1)) (ends_within rs r.to bound o.2 (λ p e. h p (or_right (is_in r p) _ e)))
