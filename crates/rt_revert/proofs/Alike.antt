-- Cells that look alike: what reverting asks of them is the same.
use Rattle.std.proofs.Common.{◌≡◌, ◌∙◌, ℕ, zero, suc, ◌+◌, Bool, true, false, List, [], ◌∷◌, ◌++◌, cond, drop, length, map, refl, sym, ap, take, Option, Some, None}
use Rattle.std.specs.Prelude.{option_and_then, option_map, unwrap_or}
use Rattle.rt_stamps.specs.declared.limits.TheConstants.{MOST_SPANS}
use Rattle.rt_stamps.specs.declared.stamp.Stamp.{Stamp}
use Rattle.rt_stamps.specs.Stamps.{is_same}
use Rattle.rt_stamps.specs.Words.{Word}
use Rattle.rt_ops.specs.Operations.{Delete}
use Rattle.rt_store.specs.declared.cell.Cell.{Cell}
use Rattle.rt_store.specs.Cells.{after_element, cell_of, map_state, position_of, stamps_of, visible_before, visible_of}
use Rattle.rt_store.specs.Shown.{TaggedCell}
use Rattle.rt_store.proofs.Shown.{after_shown, length_shown, map_append, position_shown, stamps_shown, visible_shown}
use Rattle.rt_tags.specs.States.{names_on}
use Rattle.rt_plans.specs.DocValue.{put_after}
use Rattle.rt_plans.specs.NamedSpans.{parts_of, spans_in}
use Rattle.rt_plans.specs.RemovalDrafts.{removal_drafts}
use Rattle.rt_plans.specs.Removals.{cells_at, gone_at, stamps_at}
use Rattle.rt_plans.proofs.Shown.{cells_at_shown, stamps_at_shown}
use Rattle.rt_undo.specs.Actions.{Removed}
use Rattle.rt_revert.specs.Portions.{visible_before_stamp}
use Rattle.rt_revert.specs.Progress.{LookAlike, with_names}
use Rattle.rt_revert.specs.Reverting.{are_at, as_removed, gone_cell_of, still_visible}
use Rattle.rt_revert.proofs.TakenBack.{still_is}
use Rattle.rt_revert.proofs.WorkCells.{at_shown}

-- CHARACTERS THAT GO

pub alike_at : (stamps : List Stamp) (xs ys : List TaggedCell) → LookAlike xs ys → are_at stamps xs ≡ are_at stamps ys
alike_at stamps xs ys h = λ i place. (sym (at_shown names_on stamps xs place) ∙ ap (λ (l : List (Cell (List Word))). are_at stamps l place) h.names ∙ at_shown names_on stamps ys place) i

pub alike_stamps_at : (places : ℕ → Bool) (xs ys : List TaggedCell) → LookAlike xs ys → stamps_at places 0 xs ≡ stamps_at places 0 ys
alike_stamps_at places xs ys h =
    sym (stamps_at_shown names_on places 0 xs) ∙ ap (λ (l : List (Cell (List Word))). stamps_at places 0 l) h.names ∙ stamps_at_shown names_on places 0 ys

pub same_drafts : {S T : Type 0} (here there : ℕ → Bool) (xs : List (Cell S)) (ys : List (Cell T)) → stamps_at here 0 xs ≡ stamps_at there 0 ys
    → removal_drafts MOST_SPANS here xs ≡ removal_drafts MOST_SPANS there ys
same_drafts here there xs ys e = ap (λ ss. map (λ spans. Delete spans) (parts_of MOST_SPANS (spans_in ss))) e

-- a cell with names as a character that is removed
abbrev named_as : Cell (List Word) → Removed (List Word)
named_as cell = record { stamp = cell.stamp; tags = cell.state }

as_named : (cells : List TaggedCell) → map as_removed cells ≡ map named_as (with_names cells)
as_named [] = refl
as_named (c ∷ cs) = ap (λ l. as_removed c ∷ l) (as_named cs)

still_named : (stamps : List Stamp) (cells : List TaggedCell) → still_visible stamps cells ≡ map named_as (cells_at (are_at stamps cells) 0 (with_names cells))
still_named stamps cells =
    still_is stamps cells ∙ as_named (cells_at (are_at stamps cells) 0 cells) ∙ ap (map named_as) (sym (cells_at_shown names_on (are_at stamps cells) 0 cells))

pub alike_still : (stamps : List Stamp) (xs ys : List TaggedCell) → LookAlike xs ys → still_visible stamps xs ≡ still_visible stamps ys
alike_still stamps xs ys h =
    still_named stamps xs
    ∙ ap (λ (p : ℕ → Bool). map named_as (cells_at p 0 (with_names xs))) (alike_at stamps xs ys h)
    ∙ ap (λ (l : List (Cell (List Word))). map named_as (cells_at (are_at stamps ys) 0 l)) h.names
    ∙ sym (still_named stamps ys)

gone_step : {S T : Type 0} (f : S → T) (r : ℕ → Bool) (p : ℕ) (c : Cell S) (cs : List (Cell S)) (b : Bool)
    → gone_at r p (map (map_state f) cs) ≡ map (map_state f) (gone_at r p cs) → gone_at r (p + 1) (map (map_state f) cs) ≡ map (map_state f) (gone_at r (p + 1) cs)
    → cond b (map_state f c ∷ gone_at r p (map (map_state f) cs)) (record (map_state f c) { gone = r p } ∷ gone_at r (p + 1) (map (map_state f) cs))
    ≡ map (map_state f) (cond b (c ∷ gone_at r p cs) (record c { gone = r p } ∷ gone_at r (p + 1) cs))
gone_step f r p c cs true h k = ap (λ l. map_state f c ∷ l) h
gone_step f r p c cs false h k = ap (λ l. record (map_state f c) { gone = r p } ∷ l) k

pub gone_at_shown : {S T : Type 0} (f : S → T) (r : ℕ → Bool) (p : ℕ) (cells : List (Cell S)) → gone_at r p (map (map_state f) cells) ≡ map (map_state f) (gone_at r p cells)
gone_at_shown f r p [] = refl
gone_at_shown f r p (c ∷ cs) = gone_step f r p c cs c.gone (gone_at_shown f r p cs) (gone_at_shown f r (p + 1) cs)

pub alike_gone : (places : ℕ → Bool) (xs ys : List TaggedCell) → LookAlike xs ys → LookAlike (gone_at places 0 xs) (gone_at places 0 ys)
alike_gone places xs ys h = record {
  names = sym (gone_at_shown names_on places 0 xs) ∙ ap (λ (l : List (Cell (List Word))). gone_at places 0 l) h.names ∙ gone_at_shown names_on places 0 ys;
}

-- CHARACTERS THAT COME BACK

take_map : {A B : Type 0} (f : A → B) (n : ℕ) (xs : List A) → take n (map f xs) ≡ map f (take n xs)
take_map f zero xs = refl
take_map f (suc n) [] = refl
take_map f (suc n) (x ∷ xs) = ap (λ l. f x ∷ l) (take_map f n xs)

drop_map : {A B : Type 0} (f : A → B) (n : ℕ) (xs : List A) → drop n (map f xs) ≡ map f (drop n xs)
drop_map f zero xs = refl
drop_map f (suc n) [] = refl
drop_map f (suc n) (x ∷ xs) = drop_map f n xs

pub put_shown : {S T : Type 0} (f : S → T) (cells : List (Cell S)) (left : Stamp) (new : List (Cell S))
    → map (map_state f) (put_after cells left new) ≡ put_after (map (map_state f) cells) left (map (map_state f) new)
put_shown f cells left new =
    let at = after_element cells left in
    map_append (map_state f) (take at cells ++ new) (drop at cells)
    ∙ (λ i. map_append (map_state f) (take at cells) new i ++ sym (drop_map (map_state f) at cells) i)
    ∙ (λ i. (sym (take_map (map_state f) at cells) i ++ map (map_state f) new) ++ drop at (map (map_state f) cells))
    ∙ ap (λ n. (take n (map (map_state f) cells) ++ map (map_state f) new) ++ drop n (map (map_state f) cells)) (sym (after_shown f cells left))

pub alike_put : (xs ys new more : List TaggedCell) (left : Stamp) → LookAlike xs ys → LookAlike new more → LookAlike (put_after xs left new) (put_after ys left more)
alike_put xs ys new more left h k = record {
  names = put_shown names_on xs left new ∙ (λ i. put_after (h.names i) left (k.names i)) ∙ sym (put_shown names_on ys left more);
}

before_shown : {S T : Type 0} (f : S → T) (cells : List (Cell S)) (n : ℕ) → visible_before (map (map_state f) cells) n ≡ visible_before cells n
before_shown f cells n = ap (λ l. length (visible_of l)) (take_map (map_state f) n cells) ∙ ap length (visible_shown f (take n cells)) ∙ length_shown f (visible_of (take n cells))

-- how many visible cells stand before the place behind an element
pub place_shown : {S T : Type 0} (f : S → T) (cells : List (Cell S)) (left : Stamp)
    → visible_before (map (map_state f) cells) (after_element (map (map_state f) cells) left) ≡ visible_before cells (after_element cells left)
place_shown f cells left = before_shown f cells (after_element (map (map_state f) cells) left) ∙ ap (visible_before cells) (after_shown f cells left)

pub alike_place : (xs ys : List TaggedCell) (left : Stamp) → LookAlike xs ys → visible_before xs (after_element xs left) ≡ visible_before ys (after_element ys left)
alike_place xs ys left h =
    sym (place_shown names_on xs left) ∙ ap (λ (l : List (Cell (List Word))). visible_before l (after_element l left)) h.names ∙ place_shown names_on ys left

pub place_in_shown : {S T : Type 0} (f : S → T) (cells : List (Cell S)) (s : Stamp) → visible_before_stamp (map (map_state f) cells) s ≡ visible_before_stamp cells s
place_in_shown f cells s =
    ap (λ o. unwrap_or (option_map (visible_before (map (map_state f) cells)) o) 0) (position_shown f cells s)
    ∙ ap (λ (v : ℕ → ℕ). unwrap_or (option_map v (position_of cells s)) 0) (λ i n. before_shown f cells n i)

pub alike_place_in : (xs ys : List TaggedCell) (s : Stamp) → LookAlike xs ys → visible_before_stamp xs s ≡ visible_before_stamp ys s
alike_place_in xs ys s h = sym (place_in_shown names_on xs s) ∙ ap (λ (l : List (Cell (List Word))). visible_before_stamp l s) h.names ∙ place_in_shown names_on ys s

pub alike_stamps : (xs ys : List TaggedCell) → LookAlike xs ys → stamps_of xs ≡ stamps_of ys
alike_stamps xs ys h = sym (stamps_shown names_on xs) ∙ ap (λ (l : List (Cell (List Word))). stamps_of l) h.names ∙ stamps_shown names_on ys

-- the character of a stamp's cell, if it is gone
find_step : {S T : Type 0} (f : S → T) (b : Bool) (c : Cell S) (o : Option (Cell T)) (p : Option (Cell S)) → o ≡ option_map (map_state f) p
    → cond b (Some (map_state f c)) o ≡ option_map (map_state f) (cond b (Some c) p)
find_step f true c o p h = refl
find_step f false c o p h = h

cell_shown : {S T : Type 0} (f : S → T) (cells : List (Cell S)) (s : Stamp) → cell_of (map (map_state f) cells) s ≡ option_map (map_state f) (cell_of cells s)
cell_shown f [] s = refl
cell_shown f (c ∷ cs) s = find_step f (is_same c.stamp s) c (cell_of (map (map_state f) cs) s) (cell_of cs s) (cell_shown f cs s)

same_gone : {S T : Type 0} (f : S → T) (o : Option (Cell S))
    → option_and_then (λ (cell : Cell T). cond cell.gone (Some cell) None) (option_map (map_state f) o)
    ≡ option_map (map_state f) (option_and_then (λ (cell : Cell S). cond cell.gone (Some cell) None) o)
same_gone f None = refl
same_gone {S} {T} f (Some cell) = by cell.gone
  where
    by : (b : Bool) → cond b (Some (map_state f cell)) None ≡ option_map (map_state f) (cond b (Some cell) None)
    by true = refl
    by false = refl

gone_cell_shown : {S T : Type 0} (f : S → T) (cells : List (Cell S)) (s : Stamp) → gone_cell_of (map (map_state f) cells) s ≡ option_map (map_state f) (gone_cell_of cells s)
gone_cell_shown {S} {T} f cells s = ap (option_and_then (λ (cell : Cell T). cond cell.gone (Some cell) None)) (cell_shown f cells s) ∙ same_gone f (cell_of cells s)

abbrev pub character : {T : Type 0} → Option (Cell T) → Option ℕ
character o = option_map (λ cell. cell.ch) o

same_character : {S T : Type 0} (f : S → T) (o : Option (Cell S)) → character (option_map (map_state f) o) ≡ character o
same_character f None = refl
same_character f (Some cell) = refl

pub character_shown : {S T : Type 0} (f : S → T) (cells : List (Cell S)) (s : Stamp) → character (gone_cell_of (map (map_state f) cells) s) ≡ character (gone_cell_of cells s)
character_shown f cells s = ap character (gone_cell_shown f cells s) ∙ same_character f (gone_cell_of cells s)

pub alike_character : (xs ys : List TaggedCell) (s : Stamp) → LookAlike xs ys → character (gone_cell_of xs s) ≡ character (gone_cell_of ys s)
alike_character xs ys s h =
    sym (character_shown names_on xs s) ∙ ap (λ (l : List (Cell (List Word))). character (gone_cell_of l s)) h.names ∙ character_shown names_on ys s
