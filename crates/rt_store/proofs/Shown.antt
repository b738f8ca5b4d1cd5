-- Cells with what their states stand for: what doesn't look at the states is the same of them.
use Rattle.std.proofs.Common.{◌≡◌, ℕ, ◌+◌, List, [], ◌∷◌, ◌++◌, Bool, true, false, cond, not, length, map, drop, refl, sym, ◌∙◌, ap, subst, Some, None}
use Rattle.std.specs.Prelude.{filter, position, slice_get, option_map, take_while, unwrap_or, nat_lt}
use Rattle.std.specs.List.{IsDistinct, position_or_len}
use Rattle.std.proofs.lemmas.List.{length-map, drop-map}
use Rattle.std.proofs.lemmas.List.Elements.{All-head, All-tail}
use Rattle.std.proofs.lemmas.Option.{slice_get-map}
use Rattle.rt_stamps.specs.declared.stamp.Span.{Span}
use Rattle.rt_stamps.specs.declared.stamp.Stamp.{Stamp}
use Rattle.rt_stamps.specs.declared.stamp.TheConstants.{ROOT}
use Rattle.rt_stamps.specs.Stamps.{is_before, is_same}
use Rattle.rt_store.specs.declared.cell.Cell.{Cell}
use Rattle.rt_store.specs.Cells.{AreDistinct, after_element, cells_from, map_state, position_of, skip_from, stamps_of, text_of, visible_of}
use Rattle.rt_store.specs.Shown.{shown}
use Rattle.rt_store.specs.Spans.{gone_in_any, is_in_spans}
use Rattle.rt_store.specs.Tagged.{AreStates, last_place, last_with, next_place}
use Rattle.rt_store.proofs.Places.{past, past_is}
use Rattle.rt_tags.specs.States.{IsState, KeepsIds, TagStates, state_at}

-- LISTS

pub map_append : {A B : Type 0} (g : A → B) (xs ys : List A) → map g (xs ++ ys) ≡ map g xs ++ map g ys
map_append g [] ys = refl
map_append g (x ∷ xs) ys = ap (λ l. g x ∷ l) (map_append g xs ys)

chosen : {A B : Type 0} (g : A → B) (x : A) (xs : List A) (ys : List B) (b : Bool) → ys ≡ map g xs → cond b (g x ∷ ys) ys ≡ map g (cond b (x ∷ xs) xs)
chosen g x xs ys true h = ap (λ l. g x ∷ l) h
chosen g x xs ys false h = h

-- of mapped elements those pass that pass mapped
pub filter_map : {A B : Type 0} (test : B → Bool) (g : A → B) (xs : List A) → filter test (map g xs) ≡ map g (filter (λ x. test (g x)) xs)
filter_map test g [] = refl
filter_map test g (x ∷ xs) = chosen g x (filter (λ y. test (g y)) xs) (filter test (map g xs)) (test (g x)) (filter_map test g xs)

first_map : {A B : Type 0} (test : B → Bool) (g : A → B) (xs : List A) → position_or_len test (map g xs) ≡ position_or_len (λ x. test (g x)) xs
first_map test g [] = refl
first_map test g (x ∷ xs) = ap (λ n. cond (not (test (g x))) (1 + n) 0) (first_map test g xs)

pub position_map : {A B : Type 0} (test : B → Bool) (g : A → B) (xs : List A) → position test (map g xs) ≡ position (λ x. test (g x)) xs
position_map test g xs = λ i. cond (nat_lt (first_map test g xs i) (length-map xs g i)) (Some (first_map test g xs i)) None

-- NEAREST PLACES

pub next_map : {A B : Type 0} (test : B → Bool) (g : A → B) (xs : List A) (place : ℕ) → next_place test (map g xs) place ≡ next_place (λ x. test (g x)) xs place
next_map test g xs place = ap (option_map (λ k. place + k)) (ap (position test) (drop-map g place xs) ∙ position_map test g (drop place xs))

pub last_map : {A B : Type 0} (test : B → Bool) (g : A → B) (xs : List A) → last_place test (map g xs) ≡ last_place (λ x. test (g x)) xs
last_map test g [] = refl
last_map test g (x ∷ xs) = ap (last_with (test (g x))) (last_map test g xs)

-- TEXTS AND STAMPS

pub visible_shown : {S T : Type 0} (f : S → T) (cells : List (Cell S)) → visible_of (map (map_state f) cells) ≡ map (map_state f) (visible_of cells)
visible_shown f cells = filter_map (λ cell. not cell.gone) (map_state f) cells

chars_shown : {S T : Type 0} (f : S → T) (cells : List (Cell S)) → map (λ cell. cell.ch) (map (map_state f) cells) ≡ map (λ cell. cell.ch) cells
chars_shown f [] = refl
chars_shown f (cell ∷ cells) = ap (λ l. cell.ch ∷ l) (chars_shown f cells)

pub text_shown : {S T : Type 0} (f : S → T) (cells : List (Cell S)) → text_of (map (map_state f) cells) ≡ text_of cells
text_shown f cells = ap (map (λ cell. cell.ch)) (visible_shown f cells) ∙ chars_shown f (visible_of cells)

pub length_shown : {S T : Type 0} (f : S → T) (cells : List (Cell S)) → length (map (map_state f) cells) ≡ length cells
length_shown f cells = length-map cells (map_state f)

pub stamps_shown : {S T : Type 0} (f : S → T) (cells : List (Cell S)) → stamps_of (map (map_state f) cells) ≡ stamps_of cells
stamps_shown f [] = refl
stamps_shown f (cell ∷ cells) = ap (λ l. cell.stamp ∷ l) (stamps_shown f cells)

-- the visible cell at a place
pub visible_at_shown : {S T : Type 0} (f : S → T) (cells : List (Cell S)) (place : ℕ)
    → slice_get (visible_of (map (map_state f) cells)) place ≡ option_map (map_state f) (slice_get (visible_of cells) place)
visible_at_shown f cells place = ap (λ l. slice_get l place) (visible_shown f cells) ∙ slice_get-map (map_state f) (visible_of cells) place

pub distinct_shown : {S T : Type 0} (f : S → T) (cells : List (Cell S)) → AreDistinct cells → AreDistinct (map (map_state f) cells)
distinct_shown f cells h = subst (IsDistinct is_same) (sym (stamps_shown f cells)) h

pub distinct_from_shown : {S T : Type 0} (f : S → T) (cells : List (Cell S)) → AreDistinct (map (map_state f) cells) → AreDistinct cells
distinct_from_shown f cells h = subst (IsDistinct is_same) (stamps_shown f cells) h

-- POSITIONS

pub position_shown : {S T : Type 0} (f : S → T) (cells : List (Cell S)) (stamp : Stamp) → position_of (map (map_state f) cells) stamp ≡ position_of cells stamp
position_shown f cells stamp = position_map (λ cell. is_same cell.stamp stamp) (map_state f) cells

pub after_shown : {S T : Type 0} (f : S → T) (cells : List (Cell S)) (left : Stamp) → after_element (map (map_state f) cells) left ≡ after_element cells left
after_shown f cells left = ap (λ o. cond (is_same left ROOT) 0 (unwrap_or o 0 + 1)) (position_shown f cells left)

past_shown : {S T : Type 0} (f : S → T) (new : Stamp) (cells : List (Cell S)) → length (take_while (λ cell. is_before new cell.stamp) (map (map_state f) cells)) ≡ length (take_while (λ cell. is_before new cell.stamp) cells)
past_shown f new cells = past_is new (map (map_state f) cells) ∙ ap (past new) (stamps_shown f cells) ∙ sym (past_is new cells)

pub skip_shown : {S T : Type 0} (f : S → T) (cells : List (Cell S)) (left new : Stamp) → skip_from (map (map_state f) cells) left new ≡ skip_from cells left new
skip_shown f cells left new =
    ap (λ n. n + length (take_while (λ cell. is_before new cell.stamp) (drop n (map (map_state f) cells)))) (after_shown f cells left)
    ∙ ap (λ k. after_element cells left + k)
    (ap (λ xs. length (take_while (λ cell. is_before new cell.stamp) xs)) (drop-map (map_state f) (after_element cells left) cells) ∙ past_shown f new (drop (after_element cells left) cells))

pub from_shown : {S T : Type 0} (f : S → T) (count site : ℕ) (state : S) (text : List ℕ) → map (map_state f) (cells_from count site state text) ≡ cells_from count site (f state) text
from_shown f count site state [] = refl
from_shown f count site state (c ∷ text) = ap (λ l. record { stamp = record { count = count; site = site }; ch = c; gone = false; state = f state } ∷ l) (from_shown f (count + 1) site state text)

-- SPANS

gone_cell : {S T : Type 0} (f : S → T) (b : Bool) (cell : Cell S) → map_state f (cond b (record cell { gone = true }) cell) ≡ cond b (record (map_state f cell) { gone = true }) (map_state f cell)
gone_cell f true cell = refl
gone_cell f false cell = refl

pub gone_shown : {S T : Type 0} (f : S → T) (spans : List Span) (cells : List (Cell S)) → map (map_state f) (map (gone_in_any spans) cells) ≡ map (gone_in_any spans) (map (map_state f) cells)
gone_shown f spans [] = refl
gone_shown f spans (cell ∷ cells) = λ i. gone_cell f (is_in_spans spans cell.stamp) cell i ∷ gone_shown f spans cells i

-- TABLES

-- a table that keeps its ids shows old cells as before
pub shown_later : (old new : TagStates) (cells : List (Cell ℕ)) → KeepsIds old new → AreStates old cells → map (shown new) cells ≡ map (shown old) cells
shown_later old new [] keeps h = refl
shown_later old new (cell ∷ cells) keeps h =
    let p : Cell ℕ → Type 0 = λ c. IsState old c.state in
    let same : state_at new cell.state ≡ state_at old cell.state = (keeps.states cell.state (All-head p cell cells h)).1 in
    let rest : map (shown new) cells ≡ map (shown old) cells = shown_later old new cells keeps (All-tail p cell cells h) in
    λ i. map_state (λ _. same i) cell ∷ rest i
