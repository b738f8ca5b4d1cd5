-- Where a widget's lines stand in the cells of a text.
use Rattle.std.proofs.Common.{◌≡◌, ℕ, zero, suc, ◌+◌, ◌<◌, ◌≤◌, min, List, [], ◌∷◌, ◌++◌, Bool, true, false, not, cond, length, take, map, refl, ap, ◌∙◌, arith, length-append}
use Rattle.std.specs.Prelude.{Option, Some, None, option_map, option_and_then, unwrap_or}
use Rattle.std.proofs.lemmas.List.Elements.{filter-append}
use Rattle.std.proofs.lemmas.List.{length-map, take-append-le}
use Rattle.rt_stamps.specs.declared.stamp.Stamp.{Stamp}
use Rattle.rt_stamps.specs.Places.{EndsWithNewline, is_newline, newlines, line_of}
use Rattle.rt_store.specs.declared.cell.Cell.{Cell}
use Rattle.rt_store.specs.Cells.{EndsFinal, text_of, visible_of, visible_before, position_of}
use Rattle.rt_store.proofs.Finding.{position_within}
use Rattle.rt_store.proofs.Places.{final_last}
use Rattle.rt_store.proofs.Shown.{map_append}
use Rattle.rt_lines.specs.Limits.{place_of, line_at, is_gone_cell, line_behind, last_line, first_line}
use Rattle.rt_lines.specs.declared.limits.Limits.{Limits}
use Rattle.rt_lines.proofs.Lines.{line_within, lines_some}

-- THE TEXT OF CELLS

pub visible_last : {T : Type 0} (front : List (Cell T)) (last : Cell T) → last.gone ≡ false → visible_of (front ++ last ∷ []) ≡ visible_of front ++ last ∷ []
visible_last front last e = rw filter-append (rw e refl)

-- it ends with a newline
pub ends_text : {T : Type 0} (cells : List (Cell T)) → EndsFinal cells → EndsWithNewline (text_of cells)
ends_text cells h =
    let (front, last, l) = final_last cells h in
    (text_of front, ap text_of l.is ∙ ap (map (λ cell. cell.ch)) (visible_last front last l.gone) ∙ map_append (λ cell. cell.ch) (visible_of front) (last ∷ []) ∙ ap (λ c. text_of front ++ c ∷ []) l.ch)

-- before a cell stand some of the visible ones
pub few_by : {X : Type 0} (b : Bool) (x : X) (before all : List X) → length before ≤ length all → length (cond b (x ∷ before) before) ≤ length (cond b (x ∷ all) all)
few_by true x before all h = omega arith
few_by false x before all h = h

few_before : {T : Type 0} (cells : List (Cell T)) (position : ℕ) → visible_before cells position ≤ length (visible_of cells)
few_before cells zero = omega arith
few_before [] (suc p) = omega arith
few_before (x ∷ xs) (suc p) = few_by (not x.gone) x (visible_of (take p xs)) (visible_of xs) (few_before xs p)

-- each cell's place is that of a character
pub place_within : {T : Type 0} (cells : List (Cell T)) (position : ℕ) → EndsFinal cells → position < length cells → visible_before cells position < length (text_of cells)
place_within {T} cells position h below =
    let (front, last, l) = final_last cells h in
    let within : position ≤ length front = omega (arith, ap length l.is, length-append front (last ∷ [])) in
    let before : visible_before cells position ≡ visible_before front position =
    ap (λ (cs : List (Cell T)). visible_before cs position) l.is ∙ ap (λ (cs : List (Cell T)). length (visible_of cs)) (take-append-le position front (last ∷ []) within) in
    let all : length (visible_of cells) ≡ length (visible_of front) + 1 =
    ap (λ (cs : List (Cell T)). length (visible_of cs)) l.is ∙ ap length (visible_last front last l.gone) ∙ length-append (visible_of front) (last ∷ []) in
    omega (arith, before, all, few_before front position, length-map (visible_of cells) (λ cell. cell.ch))

-- THE LINES OF LIMITS

-- the place of a stamp's cell is that of a character
pub place_of_within : {T : Type 0} (cells : List (Cell T)) (stamp : Stamp) (place : ℕ) → EndsFinal cells → place_of cells stamp ≡ Some place → place < length (text_of cells)
place_of_within {T} cells stamp place h e = by (position_of cells stamp) refl e
  where
    by : (o : Option ℕ) → position_of cells stamp ≡ o → option_map (visible_before cells) o ≡ Some place → place < length (text_of cells)
    by None k q = let bad : ⊥ = cc in absurd bad
    by (Some n) k q =
        let same : visible_before cells n ≡ place = cc in
        omega (arith, same, place_within cells n h (position_within cells stamp n k))

pub line_at_within : {T : Type 0} (cells : List (Cell T)) (stamp : Stamp) (line : ℕ) → EndsFinal cells → line_at cells stamp ≡ Some line → (1 ≤ line) × (line ≤ newlines (text_of cells))
line_at_within {T} cells stamp line h e = by (place_of cells stamp) refl e
  where
    by : (o : Option ℕ) → place_of cells stamp ≡ o → option_map (line_of (text_of cells)) o ≡ Some line → (1 ≤ line) × (line ≤ newlines (text_of cells))
    by None k q = let bad : ⊥ = cc in absurd bad
    by (Some p) k q =
        let same : line_of (text_of cells) p ≡ line = cc in
        let within = line_within (text_of cells) p (ends_text cells h) (place_of_within cells stamp p h k) in
        (omega (arith, same), omega (arith, same, within))

pub line_behind_some : {T : Type 0} (cells : List (Cell T)) (stamp : Stamp) (line : ℕ) → line_behind cells stamp ≡ Some line → 1 ≤ line
line_behind_some {T} cells stamp line e = by (place_of cells stamp) e
  where
    some : (b : Bool) (n : ℕ) → 1 ≤ n → 1 ≤ cond b n (n + 1)
    some true n h = h
    some false n h = omega arith

    by : (o : Option ℕ) → option_map (λ line. cond (is_gone_cell cells stamp) line (line + 1)) (option_map (line_of (text_of cells)) o) ≡ Some line → 1 ≤ line
    by None q = let bad : ⊥ = cc in absurd bad
    by (Some p) q =
        let same : cond (is_gone_cell cells stamp) (line_of (text_of cells) p) (line_of (text_of cells) p + 1) ≡ line = cc in
        omega (arith, same, some (is_gone_cell cells stamp) (line_of (text_of cells) p) (omega arith))

pub last_line_within : {T : Type 0} (cells : List (Cell T)) (limits : Limits) → EndsFinal cells → (1 ≤ last_line cells limits) × (last_line cells limits ≤ newlines (text_of cells))
last_line_within {T} cells limits h = by limits.end
  where
    lines : (o : Option ℕ) → ((line : ℕ) → o ≡ Some line → (1 ≤ line) × (line ≤ newlines (text_of cells)))
        → (1 ≤ unwrap_or o (newlines (text_of cells))) × (unwrap_or o (newlines (text_of cells)) ≤ newlines (text_of cells))
    lines None k = (lines_some (text_of cells) (ends_text cells h), omega arith)
    lines (Some line) k = k line refl

    by : (o : Option Stamp) → (1 ≤ unwrap_or (option_and_then (line_at cells) o) (newlines (text_of cells)))
        × (unwrap_or (option_and_then (line_at cells) o) (newlines (text_of cells)) ≤ newlines (text_of cells))
    by None = (lines_some (text_of cells) (ends_text cells h), omega arith)
    by (Some stamp) = lines (line_at cells stamp) (λ line e. line_at_within cells stamp line h e)

pub first_line_within : {T : Type 0} (cells : List (Cell T)) (limits : Limits) → EndsFinal cells → (1 ≤ first_line cells limits) × (first_line cells limits ≤ last_line cells limits)
first_line_within {T} cells limits h = (by limits.start, omega arith)
  where
    lines : (o : Option ℕ) → ((line : ℕ) → o ≡ Some line → 1 ≤ line) → 1 ≤ min (unwrap_or o 1) (last_line cells limits)
    lines None k = omega (arith, last_line_within cells limits h)
    lines (Some line) k = omega (arith, k line refl, last_line_within cells limits h)

    by : (o : Option Stamp) → 1 ≤ min (unwrap_or (option_and_then (line_behind cells) o) 1) (last_line cells limits)
    by None = omega (arith, last_line_within cells limits h)
    by (Some stamp) = lines (line_behind cells stamp) (λ line e. line_behind_some cells stamp line e)

-- a text has no more lines than cells
pub lines_few : {T : Type 0} (cells : List (Cell T)) → newlines (text_of cells) ≤ length cells
lines_few [] = omega arith
lines_few {T} (x ∷ xs) = by x.gone (lines_few xs)
  where
    more : (b : Bool) (n m : ℕ) → n ≤ m → cond b (n + 1) n ≤ suc m
    more true n m h = omega arith
    more false n m h = omega arith

    by : (b : Bool) → newlines (text_of xs) ≤ length xs → newlines (map (λ (cell : Cell T). cell.ch) (cond (not b) (x ∷ visible_of xs) (visible_of xs))) ≤ suc (length xs)
    by true h = omega arith
    by false h = more (is_newline x.ch) (newlines (text_of xs)) (length xs) h

-- THE CODE'S STEPS

pub last_line_is : {T : Type 0} (cells : List (Cell T)) (limits : Limits) (found : Option ℕ) (lines line : ℕ) → found ≡ option_and_then (line_at cells) limits.end
    → lines ≡ newlines (text_of cells) → line ≡ unwrap_or found lines → line ≡ last_line cells limits
last_line_is cells limits found lines line e k h = h ∙ ap (λ o. unwrap_or o lines) e ∙ ap (unwrap_or (option_and_then (line_at cells) limits.end)) k

pub first_line_is : {T : Type 0} (cells : List (Cell T)) (limits : Limits) (found : Option ℕ) (line last first : ℕ) → found ≡ option_and_then (line_behind cells) limits.start
    → line ≡ unwrap_or found 1 → last ≡ last_line cells limits → first ≡ min line last → first ≡ first_line cells limits
first_line_is cells limits found line last first e k h f =
    let l : line ≡ unwrap_or (option_and_then (line_behind cells) limits.start) 1 = k ∙ ap (λ o. unwrap_or o 1) e in
    f ∙ ap (λ n. min n last) l ∙ ap (min (unwrap_or (option_and_then (line_behind cells) limits.start) 1)) h
