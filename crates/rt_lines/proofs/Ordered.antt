-- Where the limit at the start stands before the one at the end, no line is cut off.
use Rattle.std.proofs.Common.{◌≡◌, ℕ, zero, suc, ◌+◌, ◌-◌, ◌<◌, ◌≤◌, min, List, [], ◌∷◌, Bool, true, false, not, cond, length, take, refl, sym, ap, ◌∙◌, arith, length-append}
use Rattle.std.specs.Prelude.{Option, Some, None, option_map, option_and_then, unwrap_or, slice_get}
use Rattle.std.proofs.lemmas.Option.{slice_get-map}
use Rattle.rt_stamps.specs.declared.stamp.Stamp.{Stamp}
use Rattle.rt_stamps.specs.Places.{is_newline, newlines, line_of}
use Rattle.rt_store.specs.declared.cell.Cell.{Cell}
use Rattle.rt_store.specs.Cells.{EndsFinal, cell_of, position_of, text_of, visible_before, visible_of}
use Rattle.rt_store.proofs.Finding.{found_there, visible_there}
use Rattle.rt_store.proofs.Places.{final_last}
use Rattle.rt_lines.specs.declared.limits.Limits.{Limits}
use Rattle.rt_lines.specs.Limits.{first_line, is_gone_cell, last_line, line_at, line_behind}
use Rattle.rt_lines.specs.Ordered.{IsNewline, IsStart, end_position}
use Rattle.rt_lines.proofs.Lines.{line_within}
use Rattle.rt_lines.proofs.Places.{ends_text, few_by, place_within}

-- COUNTS

-- before a later cell stand as many visible ones or more
pub before_mono : {T : Type 0} (cells : List (Cell T)) (p e : ℕ) → p ≤ e → visible_before cells p ≤ visible_before cells e
before_mono cells zero e h = omega arith
before_mono cells (suc p) zero h = absurd (omega arith)
before_mono [] (suc p) (suc e) h = omega arith
before_mono (x ∷ xs) (suc p) (suc e) h = few_by (not x.gone) x (visible_of (take p xs)) (visible_of (take e xs)) (before_mono xs p e (omega arith))

more_by : {X : Type 0} (b : Bool) (x : X) (before all : List X) → length before + 1 ≤ length all → length (cond b (x ∷ before) before) + 1 ≤ length (cond b (x ∷ all) all)
more_by true x before all h = omega arith
more_by false x before all h = h

first_by : {X : Type 0} (gone : Bool) (x : X) (all : List X) → gone ≡ false → 0 + 1 ≤ length (cond (not gone) (x ∷ all) all)
first_by true x all h = let bad : ⊥ = cc in absurd bad
first_by false x all h = omega arith

-- and behind a visible one more
pub before_more : {T : Type 0} (cells : List (Cell T)) (p e : ℕ) (cell : Cell T) → slice_get cells p ≡ Some cell → cell.gone ≡ false → p < e → visible_before cells p + 1 ≤ visible_before cells e
before_more cells p zero cell h k l = absurd (omega arith)
before_more [] p (suc e) cell h k l = let bad : ⊥ = cc in absurd bad
before_more {T} (x ∷ xs) zero (suc e) cell h k l =
    let same : x ≡ cell = cc in
    let shown : x.gone ≡ false = ap (λ (c : Cell T). c.gone) same ∙ k in
    first_by x.gone x (visible_of (take e xs)) shown
before_more (x ∷ xs) (suc p) (suc e) cell h k l = more_by (not x.gone) x (visible_of (take p xs)) (visible_of (take e xs)) (before_more xs p e cell h k (omega arith))

lines_by : (b : Bool) (n m d : ℕ) → n + d ≤ m → cond b (n + 1) n + d ≤ cond b (m + 1) m
lines_by true n m d h = omega arith
lines_by false n m d h = h

-- a later place is on the same line, or on a later one
pub taken_mono : (t : List ℕ) (a b : ℕ) → a ≤ b → newlines (take a t) + 0 ≤ newlines (take b t)
taken_mono t zero b h = omega arith
taken_mono t (suc a) zero h = absurd (omega arith)
taken_mono [] (suc a) (suc b) h = omega arith
taken_mono (c ∷ t) (suc a) (suc b) h = lines_by (is_newline c) (newlines (take a t)) (newlines (take b t)) 0 (taken_mono t a b (omega arith))

-- and behind a newline on a later one
pub taken_more : (t : List ℕ) (a b : ℕ) → slice_get t a ≡ Some 10 → a < b → newlines (take a t) + 1 ≤ newlines (take b t)
taken_more t a zero h l = absurd (omega arith)
taken_more [] a (suc b) h l = let bad : ⊥ = cc in absurd bad
taken_more (c ∷ t) zero (suc b) h l = let e : c ≡ 10 = cc in rw e (omega arith)
taken_more (c ∷ t) (suc a) (suc b) h l = lines_by (is_newline c) (newlines (take a t)) (newlines (take b t)) 1 (taken_more t a b h (omega arith))

-- THE END

-- the cell of the end is on the last line, or before it
end_line : {T : Type 0} (cells : List (Cell T)) (limits : Limits) → EndsFinal cells → line_of (text_of cells) (visible_before cells (end_position cells limits)) ≤ last_line cells limits
end_line {T} cells limits h = by limits.end
  where
    last : line_of (text_of cells) (visible_before cells (length cells - 1)) ≤ newlines (text_of cells)
    last =
        let (front, last, l) = final_last cells h in
        let below : length cells - 1 < length cells = omega (arith, ap length l.is, length-append front (last ∷ [])) in
        line_within (text_of cells) (visible_before cells (length cells - 1)) (ends_text cells h) (place_within cells (length cells - 1) h below)

    at : (o : Option ℕ) → line_of (text_of cells) (visible_before cells (unwrap_or o (length cells - 1)))
        ≤ unwrap_or (option_map (line_of (text_of cells)) (option_map (visible_before cells) o)) (newlines (text_of cells))
    at None = last
    at (Some position) = omega arith

    by : (o : Option Stamp) → line_of (text_of cells) (visible_before cells (unwrap_or (option_and_then (position_of cells) o) (length cells - 1)))
        ≤ unwrap_or (option_and_then (line_at cells) o) (newlines (text_of cells))
    by None = last
    by (Some stamp) = at (position_of cells stamp)

-- THE START

-- a newline that is there stands at its place
newline_there : {T : Type 0} (cells : List (Cell T)) (stamp : Stamp) (position e : ℕ) → position_of cells stamp ≡ Some position → IsNewline cells stamp → is_gone_cell cells stamp ≡ false → position < e
    → newlines (take (visible_before cells position) (text_of cells)) + 1 ≤ newlines (take (visible_before cells e) (text_of cells))
newline_there {T} cells stamp position e f n k l = by (cell_of cells stamp) refl n k
  where
    by : (o : Option (Cell T)) → cell_of cells stamp ≡ o → option_map (λ (cell : Cell T). cell.ch) o ≡ Some 10 → unwrap_or (option_map (λ (cell : Cell T). cell.gone) o) false ≡ false
        → newlines (take (visible_before cells position) (text_of cells)) + 1 ≤ newlines (take (visible_before cells e) (text_of cells))
    by None c m g = let bad : ⊥ = cc in absurd bad
    by (Some cell) c m g =
        let here : slice_get cells position ≡ Some cell = found_there cells stamp position f ∙ c in
        let seen : slice_get (visible_of cells) (visible_before cells position) ≡ Some cell = visible_there cells position cell here g in
        let ch : slice_get (text_of cells) (visible_before cells position) ≡ Some 10 =
        slice_get-map (λ (cell : Cell T). cell.ch) (visible_of cells) (visible_before cells position) ∙ ap (option_map (λ (cell : Cell T). cell.ch)) seen ∙ m in
        taken_more (text_of cells) (visible_before cells position) (visible_before cells e) ch (omega (arith, before_more cells position e cell here g l))

start_by : (b : Bool) (q e : ℕ) → (b ≡ false → q + 1 ≤ e) → q + 0 ≤ e → cond b (q + 1) (q + 1 + 1) ≤ e + 1
start_by true q e h k = omega arith
start_by false q e h k = let m : q + 1 ≤ e = h refl in omega arith

-- no line is cut off
pub first_is_behind : {T : Type 0} (cells : List (Cell T)) (limits : Limits) (stamp : Stamp) (position : ℕ) → EndsFinal cells → IsStart cells limits stamp position
    → line_behind cells stamp ≡ Some (first_line cells limits)
first_is_behind {T} cells limits stamp position h s =
    let text = text_of cells in
    let q = visible_before cells position in
    let e = visible_before cells (end_position cells limits) in
    let line = cond (is_gone_cell cells stamp) (line_of text q) (line_of text q + 1) in
    let behind : line_behind cells stamp ≡ Some line =
    ap (λ o. option_map (λ line. cond (is_gone_cell cells stamp) line (line + 1)) (option_map (line_of text) (option_map (visible_before cells) o))) s.found in
    let few : line ≤ line_of text e =
    start_by (is_gone_cell cells stamp) (newlines (take q text)) (newlines (take e text)) (λ g. newline_there cells stamp position (end_position cells limits) s.found s.newline g s.before)
    (taken_mono text q e (before_mono cells position (end_position cells limits) (omega (arith, s.before)))) in
    let within : line ≤ last_line cells limits = omega (arith, few, end_line cells limits h) in
    let first : first_line cells limits ≡ line =
    ap (λ o. min (unwrap_or (option_and_then (line_behind cells) o) 1) (last_line cells limits)) s.limit
    ∙ ap (λ o. min (unwrap_or o 1) (last_line cells limits)) behind ∙ shorter line (last_line cells limits) within in
    behind ∙ ap Some (sym first)
  where
    shorter : (a b : ℕ) → a ≤ b → min a b ≡ a
    shorter a b h = omega arith
