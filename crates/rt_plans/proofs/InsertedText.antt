-- What the text is after an insertion.
use Rattle.std.proofs.Common.{◌≡◌, ℕ, zero, suc, ◌+◌, ◌*◌, ◌<◌, ◌≤◌, ◌⊎◌, inl, inr, List, [], ◌∷◌, ◌++◌, Bool, true, false, cond, not, length, take, drop, map, get_or, refl, sym, ◌∙◌, ap, subst, arith, Some, None, take-append-drop}
use Rattle.std.specs.Prelude.{slice_get, unwrap_or, option_map, nat_lt}
use Rattle.std.specs.List.{IsDistinct, AllByRecursion, position_or_len}
use Rattle.std.proofs.lemmas.Bool.{lt-ltb}
use Rattle.std.proofs.lemmas.List.{length-drop}
use Rattle.std.proofs.lemmas.Map.Keys.{IsDistinct-head, IsDistinct-tail}
use Rattle.std.proofs.lemmas.Option.{slice_get_cases}
use Rattle.rt_stamps.proofs.Order.{same_sym, same_refl}
use Rattle.rt_stamps.specs.declared.limits.TheConstants.{MOST_CHARACTERS}
use Rattle.rt_stamps.specs.declared.stamp.Stamp.{Stamp}
use Rattle.rt_stamps.specs.declared.stamp.TheConstants.{ROOT}
use Rattle.rt_stamps.specs.Stamps.{is_same}
use Rattle.rt_stamps.specs.Words.{Word}
use Rattle.rt_store.specs.declared.cell.Cell.{Cell}
use Rattle.rt_store.specs.Cells.{visible_of, text_of, after_element, cells_from, stamps_of}
use Rattle.rt_plans.specs.DocValue.{left_stamp, put_after}
use Rattle.rt_plans.specs.Insertions.{inserts_for, cells_of_inserts, tagged_cells, new_state, further_tags}
use Rattle.rt_plans.proofs.CellLaws.{found_before}
use Rattle.rt_plans.proofs.PlaceLaws.{length_text}

-- TEXTS OF CELLS

pub text_append : {T : Type 0} (xs ys : List (Cell T)) → text_of (xs ++ ys) ≡ text_of xs ++ text_of ys
text_append {T} [] ys = refl
text_append {T} (x ∷ xs) ys =
    elim x.gone as
    (λ b. map (λ (cell : Cell T). cell.ch) (cond (not b) (x ∷ visible_of (xs ++ ys)) (visible_of (xs ++ ys)))
    ≡ map (λ (cell : Cell T). cell.ch) (cond (not b) (x ∷ visible_of xs) (visible_of xs)) ++ text_of ys)
    [ true ↦ text_append xs ys | false ↦ ap (λ t. x.ch ∷ t) (text_append xs ys) ]

pub text_new : {T : Type 0} (count site : ℕ) (state : T) (new : List ℕ) → text_of (cells_from count site state new) ≡ new
text_new count site state [] = refl
text_new count site state (c ∷ new) = ap (λ t. c ∷ t) (text_new (count + 1) site state new)

pub text_gone : {T : Type 0} (x : Cell T) (xs : List (Cell T)) → x.gone ≡ true → text_of (x ∷ xs) ≡ text_of xs
text_gone x xs e = rw e refl

pub text_shown : {T : Type 0} (x : Cell T) (xs : List (Cell T)) → x.gone ≡ false → text_of (x ∷ xs) ≡ x.ch ∷ text_of xs
text_shown x xs e = rw e refl

-- A POSITION AND ITS PLACE

-- the cells before a position are the characters before a place, and those from it on the others
record Cut {T : Type 0} (cells : List (Cell T)) (position place : ℕ) : Type 0 where
  pub front : text_of (take position cells) ≡ take place (text_of cells)
  pub rest : text_of (drop position cells) ≡ drop place (text_of cells)

cut_start : {T : Type 0} (cells : List (Cell T)) → Cut cells 0 0
cut_start cells = record { front = refl; rest = refl }

cut_gone : {T : Type 0} (x : Cell T) (xs : List (Cell T)) (position place : ℕ) → x.gone ≡ true → Cut xs position place → Cut (x ∷ xs) (suc position) place
cut_gone x xs position place e cut = record {
  front = text_gone x (take position xs) e ∙ cut.front ∙ ap (take place) (sym (text_gone x xs e));
  rest = cut.rest ∙ ap (drop place) (sym (text_gone x xs e));
}

cut_shown : {T : Type 0} (x : Cell T) (xs : List (Cell T)) (position place : ℕ) → x.gone ≡ false → Cut xs position place → Cut (x ∷ xs) (suc position) (suc place)
cut_shown x xs position place e cut = record {
  front = text_shown x (take position xs) e ∙ ap (λ t. x.ch ∷ t) cut.front ∙ ap (take (suc place)) (sym (text_shown x xs e));
  rest = cut.rest ∙ ap (drop (suc place)) (sym (text_shown x xs e));
}

-- BEHIND A VISIBLE CELL

differs_step : {T : Type 0} (s : Stamp) (y : Cell T) (ys : List (Cell T)) (p : ℕ) (x : Cell T) (b : Bool) → is_same s y.stamp ≡ false → slice_get (cond (not b) (y ∷ visible_of ys) (visible_of ys)) p ≡ Some x
    → ((q : ℕ) → slice_get (visible_of ys) q ≡ Some x → is_same s x.stamp ≡ false) → is_same s x.stamp ≡ false
differs_step {T} s y ys p x true h e rest = rest p e
differs_step {T} s y ys zero x false h e rest = let same : y ≡ x = cc in ap (λ (cell : Cell T). is_same s cell.stamp) (sym same) ∙ h
differs_step {T} s y ys (suc q) x false h e rest = rest q e

-- a stamp that no cell has is not a visible one's
differs_visible : {T : Type 0} (s : Stamp) (cells : List (Cell T)) (p : ℕ) (x : Cell T) → AllByRecursion (λ t. is_same s t ≡ false) (stamps_of cells) → slice_get (visible_of cells) p ≡ Some x → is_same s x.stamp ≡ false
differs_visible s [] p x h e = let bad : ⊥ = cc in absurd bad
differs_visible s (y ∷ ys) p x h e = differs_step s y ys p x y.gone h.0 e (λ q d. differs_visible s ys q x h.1 d)

-- the first cell with the stamp of another
abbrev first_with : {T : Type 0} → Cell T → List (Cell T) → ℕ
first_with x cells = position_or_len (λ y. is_same y.stamp x.stamp) cells

later : {T : Type 0} (x y : Cell T) (ys : List (Cell T)) → is_same y.stamp x.stamp ≡ false → first_with x (y ∷ ys) ≡ suc (first_with x ys)
later x y ys e = rw e (omega arith)

here : {T : Type 0} (x y : Cell T) (ys : List (Cell T)) → y ≡ x → first_with x (y ∷ ys) ≡ 0
here {T} x y ys same =
    let e : is_same y.stamp x.stamp ≡ true = ap (λ (cell : Cell T). is_same y.stamp cell.stamp) (sym same) ∙ same_refl y.stamp in
    rw e refl

behind_step : {T : Type 0} (y : Cell T) (ys : List (Cell T)) (p : ℕ) (x : Cell T) (b : Bool) → y.gone ≡ b → AllByRecursion (λ t. is_same y.stamp t ≡ false) (stamps_of ys)
    → slice_get (cond (not b) (y ∷ visible_of ys) (visible_of ys)) p ≡ Some x
    → ((q : ℕ) → slice_get (visible_of ys) q ≡ Some x → Cut ys (suc (first_with x ys)) (suc q)) → Cut (y ∷ ys) (suc (first_with x (y ∷ ys))) (suc p)
behind_step y ys p x true g apart e rest =
    subst (λ n. Cut (y ∷ ys) (suc n) (suc p)) (sym (later x y ys (differs_visible y.stamp ys p x apart e))) (cut_gone y ys (suc (first_with x ys)) (suc p) g (rest p e))
behind_step y ys zero x false g apart e rest =
    let same : y ≡ x = cc in
    subst (λ n. Cut (y ∷ ys) (suc n) (suc zero)) (sym (here x y ys same)) (cut_shown y ys zero zero g (cut_start ys))
behind_step y ys (suc q) x false g apart e rest =
    subst (λ n. Cut (y ∷ ys) (suc n) (suc (suc q))) (sym (later x y ys (differs_visible y.stamp ys q x apart e))) (cut_shown y ys (suc (first_with x ys)) (suc q) g (rest q e))

cut_after_cell : {T : Type 0} (cells : List (Cell T)) (p : ℕ) (x : Cell T) → IsDistinct is_same (stamps_of cells) → slice_get (visible_of cells) p ≡ Some x → Cut cells (suc (first_with x cells)) (suc p)
cut_after_cell [] p x h e = let bad : ⊥ = cc in absurd bad
cut_after_cell (y ∷ ys) p x h e =
    behind_step y ys p x y.gone refl (IsDistinct-head is_same y.stamp (stamps_of ys) h) e (λ q d. cut_after_cell ys q x (IsDistinct-tail is_same y.stamp (stamps_of ys) h) d)

after_visible : {T : Type 0} (cells : List (Cell T)) (p : ℕ) (x : Cell T) → is_same x.stamp ROOT ≡ false → slice_get (visible_of cells) p ≡ Some x → suc p < length (visible_of cells)
    → after_element cells x.stamp ≡ suc (first_with x cells)
after_visible cells p x root e h =
    let within : nat_lt (first_with x cells) (length cells) ≡ true = lt-ltb (first_with x cells) (length cells) (omega (arith, found_before cells p x e h)) in
    rw (root, within) (omega arith)

-- new cells stand where the place is
behind_left : {T : Type 0} (cells : List (Cell T)) (place : ℕ) → IsDistinct is_same (ROOT ∷ stamps_of cells) → place < length (visible_of cells) → Cut cells (after_element cells (left_stamp cells place)) place
behind_left {T} cells zero h k = cut_start cells
behind_left {T} cells (suc p) h k = by_cell (slice_get_cases (visible_of cells) p).1
  where
    by_cell : ((x : Cell T) × (p < length (visible_of cells)) × (slice_get (visible_of cells) p ≡ Some x) × (get_or (visible_of cells) p x ≡ x)) ⊎ ((length (visible_of cells) ≤ p) × (slice_get (visible_of cells) p ≡ None))
        → Cut cells (after_element cells (left_stamp cells (suc p))) (suc p)
    by_cell (inl w) =
        let root : is_same w.0.stamp ROOT ≡ false = same_sym w.0.stamp ROOT ∙ differs_visible ROOT cells p w.0 (IsDistinct-head is_same ROOT (stamps_of cells) h) w.2 in
        let left : left_stamp cells (suc p) ≡ w.0.stamp = ap (λ o. unwrap_or (option_map (λ (cell : Cell T). cell.stamp) o) ROOT) w.2 in
        subst (λ n. Cut cells n (suc p)) (sym (ap (after_element cells) left ∙ after_visible cells p w.0 root w.2 k)) (cut_after_cell cells p w.0 (IsDistinct-tail is_same ROOT (stamps_of cells) h) w.2)
    by_cell (inr w) = absurd (omega (arith, w.0))

-- the new characters stand before the one at the place
pub text_inserted : {T : Type 0} (cells new : List (Cell T)) (place : ℕ) → IsDistinct is_same (ROOT ∷ stamps_of cells) → place < length (text_of cells)
    → text_of (put_after cells (left_stamp cells place) new) ≡ take place (text_of cells) ++ text_of new ++ drop place (text_of cells)
text_inserted cells new place h k =
    let at = after_element cells (left_stamp cells place) in
    let cut = behind_left cells place h (omega (arith, length_text cells)) in
    text_append (take at cells ++ new) (drop at cells)
    ∙ ap (λ t. t ++ text_of (drop at cells)) (text_append (take at cells) new ∙ ap (λ t. t ++ text_of new) cut.front)
    ∙ ap (λ t. take place (text_of cells) ++ text_of new ++ t) cut.rest

-- SEVERAL INSERTS

-- as many Inserts as a text takes have all of its characters
pub inserts_enough : (n : ℕ) → n ≤ inserts_for n * MOST_CHARACTERS
inserts_enough n = omega arith

text_of_inserts : (inserts site count : ℕ) (names : List Word) (text : List ℕ) → length text ≤ inserts * MOST_CHARACTERS → text_of (cells_of_inserts inserts site count names text) ≡ text
text_of_inserts zero site count names [] h = refl
text_of_inserts zero site count names (c ∷ text) h = absurd (omega arith)
text_of_inserts (suc inserts) site count names text h =
    let part = take MOST_CHARACTERS text in
    let others = drop MOST_CHARACTERS text in
    let last = count + length part in
    let state = new_state site last names in
    let rest = cells_of_inserts inserts site (last + length (further_tags names)) names others in
    let few : length others ≤ inserts * MOST_CHARACTERS = omega (arith, length-drop MOST_CHARACTERS text) in
    text_append (cells_from (count + 1) site state part) rest ∙ ap (λ t. t ++ text_of rest) (text_new (count + 1) site state part)
    ∙ ap (λ t. part ++ t) (text_of_inserts inserts site (last + length (further_tags names)) names others few) ∙ take-append-drop MOST_CHARACTERS text

-- the text of new cells is the text that they are for
pub text_tagged : (site count : ℕ) (names : List Word) (text : List ℕ) → text_of (tagged_cells site count names text) ≡ text
text_tagged site count names text = text_of_inserts (inserts_for (length text)) site count names text (inserts_enough (length text))
