-- What is shown doesn't look at the states of cells.
use Rattle.std.proofs.Common.{◌≡◌, ℕ, ◌+◌, ◌-◌, List, cond, min, length, take, map, refl, sym, ◌∙◌, ap}
use Rattle.std.specs.Prelude.{Option, Some, None, Ok, Err, option_map, option_and_then, unwrap_or, slice_get, nat_le, nat_lt, false}
use Rattle.std.proofs.lemmas.List.{length-map, take-map}
use Rattle.std.proofs.lemmas.Option.{slice_get-map}
use Rattle.rt_stamps.specs.declared.stamp.Stamp.{Stamp}
use Rattle.rt_stamps.specs.declared.fault.Fault.TheVariants.{BadView}
use Rattle.rt_stamps.specs.Places.{newlines, line_of, line_start, line_end}
use Rattle.rt_store.specs.declared.cell.Cell.{Cell}
use Rattle.rt_store.specs.Cells.{cell_of, map_state, position_of, text_of, visible_before, visible_of}
use Rattle.rt_store.proofs.Finding.{cell_found}
use Rattle.rt_store.proofs.Shown.{position_shown, text_shown, visible_at_shown, visible_shown}
use Rattle.rt_lines.specs.declared.choice.Choice.{Choice}
use Rattle.rt_lines.specs.declared.choice.Choice.TheVariants.{Kept, Away, Line}
use Rattle.rt_lines.specs.declared.limits.Limits.{Limits}
use Rattle.rt_lines.specs.Choices.{are_lines, end_asked, end_chosen, limits_chosen, newline_of, start_asked, start_chosen}
use Rattle.rt_lines.specs.Limits.{first_line, is_gone_cell, last_line, line_at, line_behind, place_of}
use Rattle.rt_lines.specs.Stretches.{stretch_of}

before_shown : {S T : Type 0} (f : S → T) (cells : List (Cell S)) (p : ℕ) → visible_before (map (map_state f) cells) p ≡ visible_before cells p
before_shown f cells p =
    ap (λ cs. length (visible_of cs)) (take-map (map_state f) p cells) ∙ ap length (visible_shown f (take p cells)) ∙ length-map (visible_of (take p cells)) (map_state f)

mapped : {A B : Type 0} (g h : A → B) (o : Option A) → ((a : A) → g a ≡ h a) → option_map g o ≡ option_map h o
mapped g h None k = refl
mapped g h (Some a) k = ap Some (k a)

chained : {A B : Type 0} (g h : A → Option B) (o : Option A) → ((a : A) → g a ≡ h a) → option_and_then g o ≡ option_and_then h o
chained g h None k = refl
chained g h (Some a) k = k a

pub place_shown : {S T : Type 0} (f : S → T) (cells : List (Cell S)) (stamp : Stamp) → place_of (map (map_state f) cells) stamp ≡ place_of cells stamp
place_shown f cells stamp =
    ap (option_map (visible_before (map (map_state f) cells))) (position_shown f cells stamp)
    ∙ mapped (visible_before (map (map_state f) cells)) (visible_before cells) (position_of cells stamp) (before_shown f cells)

cell_shown : {S T : Type 0} (f : S → T) (cells : List (Cell S)) (stamp : Stamp) → cell_of (map (map_state f) cells) stamp ≡ option_map (map_state f) (cell_of cells stamp)
cell_shown {S} {T} f cells stamp =
    cell_found (map (map_state f) cells) stamp ∙ ap (option_and_then (slice_get (map (map_state f) cells))) (position_shown f cells stamp)
    ∙ by (position_of cells stamp) ∙ ap (option_map (map_state f)) (sym (cell_found cells stamp))
  where
    by : (o : Option ℕ) → option_and_then (slice_get (map (map_state f) cells)) o ≡ option_map (map_state f) (option_and_then (slice_get cells) o)
    by None = refl
    by (Some n) = slice_get-map (map_state f) cells n

gone_shown : {S T : Type 0} (f : S → T) (cells : List (Cell S)) (stamp : Stamp) → is_gone_cell (map (map_state f) cells) stamp ≡ is_gone_cell cells stamp
gone_shown {S} {T} f cells stamp = ap (λ o. unwrap_or (option_map (λ (cell : Cell T). cell.gone) o) false) (cell_shown f cells stamp) ∙ by (cell_of cells stamp)
  where
    by : (o : Option (Cell S)) → unwrap_or (option_map (λ (cell : Cell T). cell.gone) (option_map (map_state f) o)) false ≡ unwrap_or (option_map (λ (cell : Cell S). cell.gone) o) false
    by None = refl
    by (Some cell) = refl

pub at_shown : {S T : Type 0} (f : S → T) (cells : List (Cell S)) (stamp : Stamp) → line_at (map (map_state f) cells) stamp ≡ line_at cells stamp
at_shown f cells stamp =
    ap (option_map (line_of (text_of (map (map_state f) cells)))) (place_shown f cells stamp) ∙ ap (λ t. option_map (line_of t) (place_of cells stamp)) (text_shown f cells)

pub behind_shown : {S T : Type 0} (f : S → T) (cells : List (Cell S)) (stamp : Stamp) → line_behind (map (map_state f) cells) stamp ≡ line_behind cells stamp
behind_shown f cells stamp =
    ap (option_map (λ line. cond (is_gone_cell (map (map_state f) cells) stamp) line (line + 1))) (at_shown f cells stamp)
    ∙ ap (λ b. option_map (λ line. cond b line (line + 1)) (line_at cells stamp)) (gone_shown f cells stamp)

pub last_shown : {S T : Type 0} (f : S → T) (cells : List (Cell S)) (limits : Limits) → last_line (map (map_state f) cells) limits ≡ last_line cells limits
last_shown f cells limits =
    ap (λ o. unwrap_or o (newlines (text_of (map (map_state f) cells)))) (chained (line_at (map (map_state f) cells)) (line_at cells) limits.end (at_shown f cells))
    ∙ ap (λ t. unwrap_or (option_and_then (line_at cells) limits.end) (newlines t)) (text_shown f cells)

pub first_shown : {S T : Type 0} (f : S → T) (cells : List (Cell S)) (limits : Limits) → first_line (map (map_state f) cells) limits ≡ first_line cells limits
first_shown f cells limits =
    ap (λ o. min (unwrap_or o 1) (last_line (map (map_state f) cells) limits)) (chained (line_behind (map (map_state f) cells)) (line_behind cells) limits.start (behind_shown f cells))
    ∙ ap (min (unwrap_or (option_and_then (line_behind cells) limits.start) 1)) (last_shown f cells limits)

pub stretch_shown : {S T : Type 0} (f : S → T) (cells : List (Cell S)) (limits : Limits) → stretch_of (map (map_state f) cells) limits ≡ stretch_of cells limits
stretch_shown f cells limits = λ i. record {
  begin = line_start (text_shown f cells i) (first_shown f cells limits i);
  end = line_end (text_shown f cells i) (last_shown f cells limits i) + 1;
}

-- WHAT OPTIONS ASK FOR

newline_shown : {S T : Type 0} (f : S → T) (cells : List (Cell S)) (line : ℕ) → newline_of (map (map_state f) cells) line ≡ newline_of cells line
newline_shown {S} {T} f cells line =
    ap (λ t. option_map (λ (cell : Cell T). cell.stamp) (slice_get (visible_of (map (map_state f) cells)) (line_end t line))) (text_shown f cells)
    ∙ ap (option_map (λ (cell : Cell T). cell.stamp)) (visible_at_shown f cells (line_end (text_of cells) line))
    ∙ by (slice_get (visible_of cells) (line_end (text_of cells) line))
  where
    by : (o : Option (Cell S)) → option_map (λ (cell : Cell T). cell.stamp) (option_map (map_state f) o) ≡ option_map (λ (cell : Cell S). cell.stamp) o
    by None = refl
    by (Some cell) = refl

start_asked_shown : {S T : Type 0} (f : S → T) (cells : List (Cell S)) (limits : Limits) (choice : Choice) → start_asked (map (map_state f) cells) limits choice ≡ start_asked cells limits choice
start_asked_shown f cells limits Kept = first_shown f cells limits
start_asked_shown f cells limits Away = refl
start_asked_shown f cells limits (Line n) = refl

end_asked_shown : {S T : Type 0} (f : S → T) (cells : List (Cell S)) (limits : Limits) (choice : Choice) → end_asked (map (map_state f) cells) limits choice ≡ end_asked cells limits choice
end_asked_shown f cells limits Kept = ap (λ n. n + 1) (last_shown f cells limits)
end_asked_shown f cells limits Away = ap (λ t. newlines t + 1) (text_shown f cells)
end_asked_shown f cells limits (Line n) = refl

start_chosen_shown : {S T : Type 0} (f : S → T) (cells : List (Cell S)) (limit : Option Stamp) (choice : Choice) → start_chosen (map (map_state f) cells) limit choice ≡ start_chosen cells limit choice
start_chosen_shown f cells limit Kept = refl
start_chosen_shown f cells limit Away = refl
start_chosen_shown f cells limit (Line n) = ap (cond (nat_le n 1) None) (newline_shown f cells (n - 1))

end_chosen_shown : {S T : Type 0} (f : S → T) (cells : List (Cell S)) (limit : Option Stamp) (choice : Choice) → end_chosen (map (map_state f) cells) limit choice ≡ end_chosen cells limit choice
end_chosen_shown f cells limit Kept = refl
end_chosen_shown f cells limit Away = refl
end_chosen_shown f cells limit (Line n) =
    ap (λ t. cond (nat_lt (newlines t) n) None (newline_of (map (map_state f) cells) (n - 1))) (text_shown f cells)
    ∙ ap (cond (nat_lt (newlines (text_of cells)) n) None) (newline_shown f cells (n - 1))

pub chosen_shown : {S T : Type 0} (f : S → T) (cells : List (Cell S)) (start end : Choice) (limits : Limits) → limits_chosen (map (map_state f) cells) start end limits ≡ limits_chosen cells start end limits
chosen_shown f cells start end limits = λ i. cond
    (are_lines (newlines (text_shown f cells i)) (start_asked_shown f cells limits start i) (end_asked_shown f cells limits end i))
    (Ok (record { start = start_chosen_shown f cells limits.start start i; end = end_chosen_shown f cells limits.end end i }))
    (Err BadView)
