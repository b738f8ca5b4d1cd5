-- Lines of a part of a text: whole lines, from where one starts up to behind the newline of one.
use Rattle.std.proofs.Common.{◌≡◌, ℕ, zero, suc, ◌+◌, ◌-◌, ◌≤◌, List, [], ◌∷◌, ◌++◌, false, length, take, drop, refl, sym, subst, ap, ◌∙◌, arith}
use Rattle.std.specs.Prelude.{Some, slice_get}
use Rattle.std.proofs.Math.Seq.{take-add}
use Rattle.std.proofs.lemmas.List.{take-append-drop, take-take}
use Rattle.rt_stamps.specs.declared.position.Position.{Position}
use Rattle.rt_stamps.specs.Places.{is_newline, newlines, after_newlines, line_of, line_start, line_end, position_at}
use Rattle.rt_store.specs.declared.cell.Cell.{Cell}
use Rattle.rt_store.specs.Cells.{EndsFinal, text_of}
use Rattle.rt_store.proofs.Distinct.{split}
use Rattle.rt_text.specs.Lines.{AreLines}
use Rattle.rt_lines.specs.declared.stretch.Stretch.{Stretch}
use Rattle.rt_lines.specs.declared.limits.Limits.{Limits}
use Rattle.rt_lines.specs.Limits.{first_line, last_line}
use Rattle.rt_lines.specs.Stretches.{part, stretch_of}
use Rattle.rt_lines.proofs.Lines.{after_within, end_is, ends_with, starts_below}
use Rattle.rt_lines.proofs.Parts.{part_length}
use Rattle.rt_lines.proofs.Places.{first_line_within, last_line_within}

-- NEWLINES

newlines_more : (a b : List ℕ) → newlines (a ++ b) ≡ newlines a + newlines b
newlines_more [] b = omega arith
newlines_more (c ∷ a) b = split (is_newline c) (λ e. rw e (omega (arith, newlines_more a b))) (λ e. rw e (newlines_more a b))

newlines_few : (t : List ℕ) (n : ℕ) → newlines (take n t) ≤ newlines t
newlines_few t n = omega (arith, newlines_more (take n t) (drop n t), ap newlines (take-append-drop n t))

-- before a place stand those before an earlier one, and those from there on
newlines_from : (t : List ℕ) (b n : ℕ) → newlines (take (b + n) t) ≡ newlines (take b t) + newlines (take n (drop b t))
newlines_from t b n = ap newlines (take-add b n t) ∙ newlines_more (take b t) (take n (drop b t))

-- one more, where a newline stands
newlines_next : (t : List ℕ) (n : ℕ) → slice_get t n ≡ Some 10 → newlines (take (suc n) t) ≡ newlines (take n t) + 1
newlines_next [] n h = let bad : ⊥ = cc in absurd bad
newlines_next (c ∷ t) zero h = let e : c ≡ 10 = cc in rw e refl
newlines_next (c ∷ t) (suc n) h = split (is_newline c) (λ e. rw e (ap (λ k. k + 1) (newlines_next t n h))) (λ e. rw e (newlines_next t n h))

-- before the start of a line end those before it
newlines_after : (k : ℕ) (t : List ℕ) → k ≤ newlines t → newlines (take (after_newlines k t) t) ≡ k
newlines_after zero t h = refl
newlines_after (suc k) [] h = absurd (omega arith)
newlines_after (suc k) (c ∷ t) h = split (is_newline c)
    (λ e.
    let few : suc k ≤ newlines t + 1 = rw e at h in
    let n : after_newlines k t + 1 ≡ suc (after_newlines k t) = omega arith in
    rw (e, n, e) (omega (arith, newlines_after k t (omega arith))))
    (λ e.
    let few : suc k ≤ newlines t = rw e at h in
    let n : after_newlines (suc k) t + 1 ≡ suc (after_newlines (suc k) t) = omega arith in
    rw (e, n, e) (newlines_after (suc k) t few))

-- WHERE LINES START

-- in the front of a text
after_front : (k m : ℕ) (t : List ℕ) → k ≤ newlines (take m t) → after_newlines k (take m t) ≡ after_newlines k t
after_front zero m t h = refl
after_front (suc k) zero t h = absurd (omega arith)
after_front (suc k) (suc m) [] h = refl
after_front (suc k) (suc m) (c ∷ t) h = split (is_newline c)
    (λ e.
    let few : suc k ≤ newlines (take m t) + 1 = rw e at h in
    rw e (ap (λ n. n + 1) (after_front k m t (omega arith))))
    (λ e.
    let few : suc k ≤ newlines (take m t) = rw e at h in
    rw e (ap (λ n. n + 1) (after_front (suc k) m t few)))

after_other : (k c : ℕ) (t : List ℕ) → is_newline c ≡ false → 1 ≤ k → after_newlines k (c ∷ t) ≡ after_newlines k t + 1
after_other zero c t e h = absurd (omega arith)
after_other (suc k) c t e h = rw e refl

-- behind a place
after_rest : (k b : ℕ) (t : List ℕ) → 1 ≤ k → b ≤ length t → after_newlines (newlines (take b t) + k) t ≡ b + after_newlines k (drop b t)
after_rest k zero t low h = let e : 0 + k ≡ k = omega arith in ap (λ n. after_newlines n t) e ∙ omega arith
after_rest k (suc b) [] low h = absurd (omega arith)
after_rest k (suc b) (c ∷ t) low h = split (is_newline c)
    (λ e.
    let i = after_rest k b t low (omega arith) in
    let n : newlines (take b t) + 1 + k ≡ suc (newlines (take b t) + k) = omega arith in
    rw (e, n, e) (omega (arith, i)))
    (λ e.
    let i = after_rest k b t low (omega arith) in
    let o = after_other (newlines (take b t) + k) c t e (omega arith) in
    rw e (omega (arith, i, o)))

-- THE LINES OF A PART

-- lines of a stretch, by the lines of limits
pub lines_between : (t : List ℕ) (first last : ℕ) → 1 ≤ first → first ≤ last → last ≤ newlines t → AreLines t (record { begin = line_start t first; end = line_end t last + 1 })
lines_between t first last low order high =
    let k = first - 1 in
    let before : newlines (take (line_start t first) t) ≡ k = newlines_after k t (omega arith) in
    let line : line_of t (line_start t first) - 1 ≡ k = omega (arith, before) in
    let end : line_end t last + 1 ≡ after_newlines last t = end_is last t (omega arith) high in
    let at : line_end t last + 1 - 1 ≡ line_end t last = omega arith in
    record {
      some = starts_below t first last low order high;
      within = omega (arith, end, after_within last t);
      starts = ap (λ n. after_newlines n t) (sym line);
      newline = ap (slice_get t) at ∙ ends_with last t (omega arith) high;
    }

-- the stretch between limits
pub lines_of_limits : {T : Type 0} (cells : List (Cell T)) (limits : Limits) (stretch : Stretch) (t : List ℕ) → EndsFinal cells → stretch ≡ stretch_of cells limits → t ≡ text_of cells → AreLines t stretch
lines_of_limits cells limits stretch t h s e =
    let last = last_line_within cells limits h in
    let first = first_line_within cells limits h in
    subst (λ (p : List ℕ × Stretch). AreLines p.0 p.1) (λ i. (sym e i, sym s i)) (lines_between (text_of cells) (first_line cells limits) (last_line cells limits) first.0 first.1 last.1)

-- so many lines stand before a stretch
abbrev pub before : List ℕ → Stretch → ℕ
before t stretch = newlines (take stretch.begin t)

module _ (t : List ℕ) (stretch : Stretch) (lines : AreLines t stretch) where
  begin_within : stretch.begin ≤ length t
  begin_within = omega (arith, lines.some, lines.within)

  pub first_start : after_newlines (before t stretch) t ≡ stretch.begin
  first_start = let e : before t stretch + 1 - 1 ≡ before t stretch = omega arith in sym (lines.starts ∙ ap (λ k. after_newlines k t) e)

  -- a line of the part starts where that of the text does
  after_part : (k : ℕ) → k ≤ newlines (part stretch t) → after_newlines (before t stretch + k) t ≡ stretch.begin + after_newlines k (part stretch t)
  after_part zero h = let e : before t stretch + 0 ≡ before t stretch = omega arith in ap (λ n. after_newlines n t) e ∙ first_start ∙ omega arith
  after_part (suc k) h =
      after_rest (suc k) stretch.begin t (omega arith) begin_within ∙ ap (λ n. stretch.begin + n) (sym (after_front (suc k) (stretch.end - stretch.begin) (drop stretch.begin t) h))

  pub start_in_part : (line : ℕ) → 1 ≤ line → line ≤ newlines (part stretch t) + 1 → line_start t (before t stretch + line) ≡ stretch.begin + line_start (part stretch t) line
  start_in_part line low high =
      let e : before t stretch + line - 1 ≡ before t stretch + (line - 1) = omega arith in
      ap (λ k. after_newlines k t) e ∙ after_part (line - 1) (omega arith)

  -- a place has the line that it has in the text, but for those before the part
  pub line_in_part : (place : ℕ) → place ≤ stretch.end - stretch.begin → line_of t (stretch.begin + place) ≡ before t stretch + line_of (part stretch t) place
  line_in_part place h =
      let same : newlines (take place (part stretch t)) ≡ newlines (take place (drop stretch.begin t)) = ap newlines (take-take place (stretch.end - stretch.begin) (drop stretch.begin t) h) in
      omega (arith, newlines_from t stretch.begin place, same)

  -- the lines of the part end with it
  pub newlines_in_part : before t stretch + newlines (part stretch t) ≡ line_of t (stretch.end - 1)
  newlines_in_part =
      let n = stretch.end - 1 in
      let e : stretch.begin + (stretch.end - stretch.begin) ≡ suc n = omega (arith, lines.some) in
      sym (newlines_from t stretch.begin (stretch.end - stretch.begin)) ∙ ap (λ k. newlines (take k t)) e ∙ newlines_next t n lines.newline

  -- there is one at least
  pub some_lines : line_of t stretch.begin ≤ line_of t (stretch.end - 1)
  some_lines =
      let n = stretch.end - 1 - stretch.begin in
      let e : stretch.begin + n ≡ stretch.end - 1 = omega (arith, lines.some) in
      omega (arith, newlines_from t stretch.begin n, ap (λ k. newlines (take k t)) e)

  -- and none past the text's
  pub few_lines : line_of t (stretch.end - 1) ≤ newlines t
  few_lines =
      let n = stretch.end - 1 in
      omega (arith, newlines_next t n lines.newline, newlines_few t (suc n))

  -- lines by their numbers in the text
  pub lines_counted : (r first : ℕ) → r ≡ line_of t (stretch.end - 1) → first ≡ line_of t stretch.begin → r - first + 1 ≡ newlines (part stretch t)
  lines_counted r first e f = omega (arith, newlines_in_part, some_lines)

  pub line_counted : (place r first : ℕ) → place ≤ stretch.end - stretch.begin → r ≡ line_of t (stretch.begin + place) → first ≡ line_of t stretch.begin → (first ≤ r) × (r - first + 1 ≡ line_of (part stretch t) place)
  line_counted place r first h e f = (omega (arith, line_in_part place h), omega (arith, line_in_part place h))

  pub line_there : (line first : ℕ) → first ≡ line_of t stretch.begin → line ≤ newlines (part stretch t) → line + first - 1 ≤ newlines t
  line_there line first f h = omega (arith, newlines_in_part, few_lines)

  pub start_counted : (line first r : ℕ) → first ≡ line_of t stretch.begin → 1 ≤ line → line ≤ newlines (part stretch t) → r ≡ line_start t (line + first - 1)
      → (stretch.begin ≤ r) × (r - stretch.begin ≡ line_start (part stretch t) line)
  start_counted line first r f low high e =
      let at : line + first - 1 ≡ before t stretch + line = omega arith in
      let start : r ≡ stretch.begin + line_start (part stretch t) line = e ∙ ap (line_start t) at ∙ start_in_part line low (omega arith) in
      (omega (arith, start), omega (arith, start))

  pub length_in_part : length (part stretch t) ≡ stretch.end - stretch.begin
  length_in_part = part_length stretch t lines.within

  -- positions
  pub position_in_part : (place line character : ℕ) → place ≤ length (part stretch t) → record { line = line; character = character } ≡ position_at t (stretch.begin + place)
      → record { line = line - (line_of t stretch.begin - 1); character = character } ≡ position_at (part stretch t) place
  position_in_part place line character h e =
      let p = part stretch t in
      let within : place ≤ stretch.end - stretch.begin = omega (arith, length_in_part) in
      let l : line ≡ line_of t (stretch.begin + place) = ap (λ (p : Position). p.line) e in
      let c : character ≡ stretch.begin + place - line_start t (line_of t (stretch.begin + place)) = ap (λ (p : Position). p.character) e in
      let here = line_in_part place within in
      let few : newlines (take place p) ≤ newlines p = newlines_few p place in
      let start : line_start t (line_of t (stretch.begin + place)) ≡ stretch.begin + line_start p (line_of p place) = ap (line_start t) here ∙ start_in_part (line_of p place) (omega arith) (omega arith) in
      let first : line - (line_of t stretch.begin - 1) ≡ line_of p place = omega (arith, l, here) in
      let second : character ≡ place - line_start p (line_of p place) = omega (arith, c, start) in
      λ i. record { line = first i; character = second i }
