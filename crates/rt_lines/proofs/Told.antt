-- What the options tell of limits that a command is given is what it asked for.
use Rattle.std.proofs.Common.{◌≡◌, ℕ, ◌+◌, ◌-◌, ◌<◌, ◌≤◌, List, true, sym, ap, ◌∙◌, arith}
use Rattle.std.specs.Prelude.{Option, Some, Ok, nat_le, nat_lt, option_map}
use Rattle.rt_stamps.specs.declared.stamp.Stamp.{Stamp}
use Rattle.rt_stamps.specs.Places.{newlines}
use Rattle.rt_store.specs.declared.cell.Cell.{Cell}
use Rattle.rt_store.specs.Cells.{AreDistinct, EndsFinal, text_of}
use Rattle.rt_store.proofs.Distinct.{split}
use Rattle.rt_lines.specs.declared.choice.Choice.{Choice}
use Rattle.rt_lines.specs.declared.choice.Choice.TheVariants.{Kept, Line}
use Rattle.rt_lines.specs.declared.limits.Limits.{Limits}
use Rattle.rt_lines.specs.Choices.{are_lines, end_asked, end_chosen, limits_chosen, newline_of, start_asked, start_chosen}
use Rattle.rt_lines.specs.Limits.{end_number, first_line, last_line, start_number}
use Rattle.rt_lines.specs.Ordered.{IsStart}
use Rattle.rt_lines.proofs.Chosen.{IsNewlineOf, chosen_by, first_chosen, first_stays, last_chosen, newline_is}

-- WHAT IS CHOSEN

-- a choice that is not refused is of lines that the text has
are_shown : {T : Type 0} (cells : List (Cell T)) (start end : Choice) (limits chosen : Limits) → limits_chosen cells start end limits ≡ Ok chosen
    → are_lines (newlines (text_of cells)) (start_asked cells limits start) (end_asked cells limits end) ≡ true
are_shown cells start end limits chosen h = (chosen_by (are_lines (newlines (text_of cells)) (start_asked cells limits start) (end_asked cells limits end)) _ chosen h).0

start_is : {T : Type 0} (cells : List (Cell T)) (start end : Choice) (limits chosen : Limits) → limits_chosen cells start end limits ≡ Ok chosen
    → chosen.start ≡ start_chosen cells limits.start start
start_is cells start end limits chosen h =
    ap (λ (l : Limits). l.start) (sym (chosen_by (are_lines (newlines (text_of cells)) (start_asked cells limits start) (end_asked cells limits end)) _ chosen h).1)

end_is : {T : Type 0} (cells : List (Cell T)) (start end : Choice) (limits chosen : Limits) → limits_chosen cells start end limits ≡ Ok chosen
    → chosen.end ≡ end_chosen cells limits.end end
end_is cells start end limits chosen h =
    ap (λ (l : Limits). l.end) (sym (chosen_by (are_lines (newlines (text_of cells)) (start_asked cells limits start) (end_asked cells limits end)) _ chosen h).1)

-- a limit that is a newline is told
told_newline : {T : Type 0} (cells : List (Cell T)) (limit : Option Stamp) (before told line : ℕ) → limit ≡ newline_of cells before → (stamp : Stamp) × IsNewlineOf cells before stamp
    → told ≡ line → option_map (λ _. told) limit ≡ Some line
told_newline cells limit before told line e newline l = ap (option_map (λ _. told)) (e ∙ newline.1.is) ∙ ap Some l

-- WHAT -startline TELLS

start_newline : {T : Type 0} (cells : List (Cell T)) (limit old : Option Stamp) (line end first : ℕ) → AreDistinct cells → limit ≡ start_chosen cells old (Line line)
    → are_lines (newlines (text_of cells)) line end ≡ true → 1 < line → first ≡ line → option_map (λ _. first) limit ≡ Some line
start_newline cells limit old line end first d e h low l = split (nat_le line 1)
    (λ b. absurd (grind (arith, b, low)))
    (λ b.
    let more : line < end = grind (arith, h) in
    let few : end ≤ newlines (text_of cells) + 1 = grind (arith, h) in
    told_newline cells limit (line - 1) first line (rw b at e) (newline_is cells (line - 1) d (omega arith) (omega arith)) l)

pub start_told : {T : Type 0} (cells : List (Cell T)) (line : ℕ) (end : Choice) (limits chosen : Limits) → AreDistinct cells → 1 < line → limits_chosen cells (Line line) end limits ≡ Ok chosen
    → start_number cells chosen ≡ Some line
start_told cells line end limits chosen d low h =
    start_newline cells chosen.start limits.start line (end_asked cells limits end) (first_line cells chosen) d
    (start_is cells (Line line) end limits chosen h) (are_shown cells (Line line) end limits chosen h) low (first_chosen cells line end limits chosen d h)

pub start_stays : {T : Type 0} (cells : List (Cell T)) (end : Choice) (limits chosen : Limits) (stamp : Stamp) (position : ℕ) → AreDistinct cells → EndsFinal cells
    → IsStart cells limits stamp position → limits_chosen cells Kept end limits ≡ Ok chosen → start_number cells chosen ≡ start_number cells limits
start_stays cells end limits chosen stamp position d f s h =
    ap (λ line. option_map (λ _. line) chosen.start) (first_stays cells end limits chosen stamp position d f s h)
    ∙ ap (option_map (λ _. first_line cells limits)) (start_is cells Kept end limits chosen h)

-- WHAT -endline TELLS

end_newline : {T : Type 0} (cells : List (Cell T)) (limit old : Option Stamp) (start line last : ℕ) → AreDistinct cells → limit ≡ end_chosen cells old (Line line)
    → are_lines (newlines (text_of cells)) start line ≡ true → line ≤ newlines (text_of cells) → last + 1 ≡ line → option_map (λ _. last + 1) limit ≡ Some line
end_newline cells limit old start line last d e h high l = split (nat_lt (newlines (text_of cells)) line)
    (λ b. absurd (grind (arith, b, high)))
    (λ b.
    let more : 1 < line = grind (arith, h) in
    told_newline cells limit (line - 1) (last + 1) line (rw b at e) (newline_is cells (line - 1) d (omega arith) (omega arith)) l)

pub end_told : {T : Type 0} (cells : List (Cell T)) (start : Choice) (line : ℕ) (limits chosen : Limits) → AreDistinct cells → line ≤ newlines (text_of cells)
    → limits_chosen cells start (Line line) limits ≡ Ok chosen → end_number cells chosen ≡ Some line
end_told cells start line limits chosen d high h =
    end_newline cells chosen.end limits.end (start_asked cells limits start) line (last_line cells chosen) d
    (end_is cells start (Line line) limits chosen h) (are_shown cells start (Line line) limits chosen h) high (last_chosen cells start (Line line) limits chosen d h)
