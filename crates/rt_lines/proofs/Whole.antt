-- What is shown is whole lines.
use Rattle.std.proofs.Common.{◌≡◌, ℕ, zero, suc, ◌+◌, ◌-◌, ◌<◌, ◌≤◌, List, [], ◌∷◌, ◌++◌, length, take, drop, map, sym, ap, subst, ◌∙◌, arith}
use Rattle.std.specs.Prelude.{Some, slice_get}
use Rattle.std.proofs.lemmas.List.{length-map}
use Rattle.rt_stamps.specs.Places.{EndsWithNewline, line_end, line_start, newlines}
use Rattle.rt_store.specs.declared.cell.Cell.{Cell}
use Rattle.rt_store.specs.Cells.{EndsFinal, text_of, visible_of}
use Rattle.rt_lines.specs.declared.limits.Limits.{Limits}
use Rattle.rt_lines.specs.Limits.{first_line, last_line, no_limits}
use Rattle.rt_lines.specs.Stretches.{shown_part, stretch_of}
use Rattle.rt_lines.proofs.Parts.{get_drop, part_map}
use Rattle.rt_lines.proofs.Lines.{after_all, after_within, end_is, ends_with, lines_some, starts_below}
use Rattle.rt_lines.proofs.Places.{ends_text, first_line_within, last_line_within}

pub stretch_some : {T : Type 0} (cells : List (Cell T)) (limits : Limits) → EndsFinal cells → (stretch_of cells limits).begin < (stretch_of cells limits).end
stretch_some cells limits h =
    let last = last_line_within cells limits h in
    let first = first_line_within cells limits h in
    starts_below (text_of cells) (first_line cells limits) (last_line cells limits) first.0 first.1 last.1

pub stretch_within : {T : Type 0} (cells : List (Cell T)) (limits : Limits) → EndsFinal cells → (stretch_of cells limits).end ≤ length (visible_of cells)
stretch_within cells limits h =
    let last = last_line_within cells limits h in
    let end = end_is (last_line cells limits) (text_of cells) last.0 last.1 in
    omega (arith, end, after_within (last_line cells limits) (text_of cells), length-map (visible_of cells) (λ cell. cell.ch))

pub stretch_whole : {T : Type 0} (cells : List (Cell T)) → EndsFinal cells → stretch_of cells no_limits ≡ record { begin = 0; end = length (visible_of cells) }
stretch_whole cells h =
    let text = text_of cells in
    let first = first_line_within cells no_limits h in
    let one : first_line cells no_limits ≡ 1 = omega (arith, first, lines_some text (ends_text cells h)) in
    let begin : line_start text (first_line cells no_limits) ≡ 0 = ap (line_start text) one in
    let end = end_is (newlines text) text (lines_some text (ends_text cells h)) (omega arith) in
    let all : line_end text (newlines text) + 1 ≡ length (visible_of cells) = omega (arith, end, after_all text (ends_text cells h), length-map (visible_of cells) (λ cell. cell.ch)) in
    λ i. record { begin = begin i; end = all i }

-- PARTS

take_last : {A : Type 0} (xs : List A) (n : ℕ) (x : A) → slice_get xs n ≡ Some x → take (suc n) xs ≡ take n xs ++ x ∷ []
take_last [] n x h = let bad : ⊥ = cc in absurd bad
take_last (y ∷ ys) zero x h = let e : y ≡ x = cc in ap (λ z. z ∷ []) e
take_last (y ∷ ys) (suc n) x h = ap (λ l. y ∷ l) (take_last ys n x h)

part_ends : (b e : ℕ) (t : List ℕ) → b < e → slice_get t (e - 1) ≡ Some 10 → EndsWithNewline (take (e - b) (drop b t))
part_ends b e t h k =
    let n = e - b - 1 in
    let at : b + n ≡ e - 1 = omega arith in
    let size : e - b ≡ suc n = omega arith in
    (take n (drop b t), ap (λ k. take k (drop b t)) size ∙ take_last (drop b t) n 10 (get_drop t b n ∙ ap (slice_get t) at ∙ k))

pub shown_ends : {T : Type 0} (cells : List (Cell T)) (limits : Limits) → EndsFinal cells → EndsWithNewline (map (λ cell. cell.ch) (shown_part cells limits))
shown_ends cells limits h =
    let text = text_of cells in
    let stretch = stretch_of cells limits in
    let last = last_line_within cells limits h in
    let ends = ends_with (last_line cells limits) text last.0 last.1 in
    let at : stretch.end - 1 ≡ line_end text (last_line cells limits) = omega arith in
    subst EndsWithNewline (sym (part_map (λ cell. cell.ch) stretch (visible_of cells)))
    (part_ends stretch.begin stretch.end text (stretch_some cells limits h) (ap (slice_get text) at ∙ ends))
