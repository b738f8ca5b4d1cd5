-- Limits that are asked for are in their order.
use Rattle.std.proofs.Common.{◌≡◌, ℕ, zero, suc, ◌+◌, ◌-◌, ◌<◌, ◌≤◌, ◌⊎◌, inl, inr, min, List, [], ◌∷◌, ◌++◌, Bool, true, false, cond, length, map, take, refl, sym, subst, ap, ◌∙◌, arith, length-append}
use Rattle.std.specs.Prelude.{IfSome, Option, Some, None, Ok, Err, nat_le, nat_lt, option_map, option_and_then, slice_get, unwrap_or}
use Rattle.std.proofs.lemmas.Bool.{cases_lt}
use Rattle.std.proofs.lemmas.Bool.Decides.{nat_tests}
use Rattle.std.proofs.lemmas.List.{length-map}
use Rattle.std.proofs.lemmas.Option.{slice_get-map}
use Rattle.rt_stamps.specs.declared.stamp.Stamp.{Stamp}
use Rattle.rt_stamps.specs.declared.stamp.TheConstants.{FINAL}
use Rattle.rt_stamps.specs.Places.{is_newline, newlines, line_of}
use Rattle.rt_store.specs.declared.cell.Cell.{Cell}
use Rattle.rt_store.specs.Cells.{AreDistinct, EndsFinal, cell_of, final_cell, map_state, position_of, text_of, visible_before, visible_of}
use Rattle.rt_store.proofs.Distinct.{split}
use Rattle.rt_store.proofs.Finding.{found_there, visible_there}
use Rattle.rt_store.proofs.Places.{final_last}
use Rattle.rt_store.proofs.Shown.{map_append}
use Rattle.rt_lines.specs.declared.choice.Choice.{Choice}
use Rattle.rt_lines.specs.declared.choice.Choice.TheVariants.{Kept, Away, Line}
use Rattle.rt_lines.specs.declared.limits.Limits.{Limits}
use Rattle.rt_lines.specs.Choices.{are_lines, end_asked, end_chosen, limits_chosen, newline_of, start_asked, start_chosen}
use Rattle.rt_lines.specs.Limits.{first_line, is_gone_cell, last_line, line_at, line_behind}
use Rattle.rt_lines.specs.Ordered.{LimitsAreInOrder, IsNewline, IsStart, end_position}
use Rattle.rt_lines.proofs.Chosen.{chosen_by, newline_is}
use Rattle.rt_lines.proofs.InOrder.{final_stands, newline_at, position_is}
use Rattle.rt_lines.proofs.Ordered.{before_mono, before_more, first_is_behind, taken_mono, taken_more}
use Rattle.rt_lines.proofs.Places.{last_line_within, visible_last}

-- NO LINE IS CUT OFF

pub start_of : {T : Type 0} (cells : List (Cell T)) (limits : Limits) (stamp : Stamp) → LimitsAreInOrder cells limits → limits.start ≡ Some stamp
    → (position : ℕ) × IsStart cells limits stamp position
start_of cells limits stamp h e =
    let newline : IsNewline cells stamp = subst (λ (o : Option Stamp). IfSome o (IsNewline cells)) e h.start in
    let (p, found) = newline_at cells stamp newline in
    let there : position_of cells stamp ≡ Some p = position_is cells stamp ∙ found in
    let position : option_and_then (position_of cells) limits.start ≡ Some p = ap (option_and_then (position_of cells)) e ∙ there in
    (p, record { limit = e; found = there; newline = newline; before = subst (λ (o : Option ℕ). IfSome o (λ p. p < end_position cells limits)) position h.before })

pub first_in_order : {T : Type 0} (cells : List (Cell T)) (limits : Limits) → EndsFinal cells → LimitsAreInOrder cells limits
    → first_line cells limits ≡ unwrap_or (option_and_then (line_behind cells) limits.start) 1
first_in_order {T} cells limits f h = by limits.start refl
  where
    least : (n : ℕ) → 1 ≤ n → min 1 n ≡ 1
    least n l = omega arith

    by : (o : Option Stamp) → limits.start ≡ o → first_line cells limits ≡ unwrap_or (option_and_then (line_behind cells) limits.start) 1
    by None e =
        ap (λ o. min (unwrap_or (option_and_then (line_behind cells) o) 1) (last_line cells limits)) e ∙ least (last_line cells limits) (last_line_within cells limits f).0
        ∙ ap (λ o. unwrap_or (option_and_then (line_behind cells) o) 1) (sym e)
    by (Some stamp) e =
        let (p, start) = start_of cells limits stamp h e in
        sym (ap (λ o. unwrap_or (option_and_then (line_behind cells) o) 1) e ∙ ap (λ o. unwrap_or o 1) (first_is_behind cells limits stamp p f start))

-- LINES OF NEWLINES

abbrev line_there : {T : Type 0} → List (Cell T) → ℕ → ℕ
line_there cells position = line_of (text_of cells) (visible_before cells position)

-- the line of the cell at a position
line_found : {T : Type 0} (cells : List (Cell T)) (stamp : Stamp) (p line : ℕ) → position_of cells stamp ≡ Some p → line_at cells stamp ≡ Some line → line_there cells p ≡ line
line_found cells stamp p line f h =
    let same : Some (line_there cells p) ≡ Some line = sym (ap (λ (o : Option ℕ). option_map (line_of (text_of cells)) (option_map (visible_before cells) o)) f) ∙ h in
    cc

behind_found : {T : Type 0} (cells : List (Cell T)) (stamp : Stamp) (p line : ℕ) → position_of cells stamp ≡ Some p → line_behind cells stamp ≡ Some line
    → cond (is_gone_cell cells stamp) (line_there cells p) (line_there cells p + 1) ≡ line
behind_found cells stamp p line f h =
    let same : Some (cond (is_gone_cell cells stamp) (line_there cells p) (line_there cells p + 1)) ≡ Some line =
    sym (ap (λ (o : Option ℕ). option_map (λ line. cond (is_gone_cell cells stamp) line (line + 1)) (option_map (line_of (text_of cells)) (option_map (visible_before cells) o))) f) ∙ h in
    cc

-- a cell on an earlier line stands before
earlier : {T : Type 0} (cells : List (Cell T)) (p q : ℕ) → line_there cells p + 1 ≤ line_there cells q → p < q
earlier cells p q h = elim (cases_lt p q) [
  | inl l ↦ l
  | inr l ↦ (let same = taken_mono (text_of cells) (visible_before cells q) (visible_before cells p) (before_mono cells q p l) in absurd (omega (arith, h, same)))
]

-- a newline that is there
record IsThere {T : Type 0} (cells : List (Cell T)) (stamp : Stamp) (position : ℕ) : Type 0 where
  pub found : position_of cells stamp ≡ Some position
  pub newline : IsNewline cells stamp
  pub there : is_gone_cell cells stamp ≡ false

-- a gone cell on its line, or on an earlier one, stands before it
gone_before : {T : Type 0} (cells : List (Cell T)) (s t : Stamp) (p q : ℕ) → position_of cells s ≡ Some p → is_gone_cell cells s ≡ true → IsThere cells t q
    → line_there cells p ≤ line_there cells q → p < q
gone_before {T} cells s t p q f g i h = by (cell_of cells t) refl i.newline i.there
  where
    by : (o : Option (Cell T)) → cell_of cells t ≡ o → option_map (λ (cell : Cell T). cell.ch) o ≡ Some 10 → unwrap_or (option_map (λ (cell : Cell T). cell.gone) o) false ≡ false → p < q
    by None e n k = let bad : ⊥ = cc in absurd bad
    by (Some cell) e n k =
        let here : slice_get cells q ≡ Some cell = found_there cells t q i.found ∙ e in
        let ch : slice_get (text_of cells) (visible_before cells q) ≡ Some 10 =
        slice_get-map (λ (cell : Cell T). cell.ch) (visible_of cells) (visible_before cells q) ∙ ap (option_map (λ (cell : Cell T). cell.ch)) (visible_there cells q cell here k) ∙ n in
        elim (cases_lt p q) [
          | inl l ↦ l
          | inr l ↦ elim (cases_lt q p) [
            | inl m ↦ (let more = taken_more (text_of cells) (visible_before cells q) (visible_before cells p) ch (omega (arith, before_more cells q p cell here k m)) in absurd (omega (arith, h, more)))
            | inr m ↦ (
                let same : p ≡ q = omega (arith, l, m) in
                let one : cell_of cells s ≡ Some cell = sym (found_there cells s p f) ∙ ap (slice_get cells) same ∙ here in
                let there : is_gone_cell cells s ≡ false = ap (λ o. unwrap_or (option_map (λ (cell : Cell T). cell.gone) o) false) one ∙ k in
                let bad : ⊥ = cc in absurd bad
                )
          ]
        ]

-- where a view that begins on a line begins before a newline that is there
begins_before : {T : Type 0} (cells : List (Cell T)) (s t : Stamp) (p q line : ℕ) → position_of cells s ≡ Some p → line_behind cells s ≡ Some line → IsThere cells t q
    → line ≤ line_there cells q → p < q
begins_before {T} cells s t p q line f b i h = by (is_gone_cell cells s) refl (behind_found cells s p line f b)
  where
    by : (g : Bool) → is_gone_cell cells s ≡ g → cond g (line_there cells p) (line_there cells p + 1) ≡ line → p < q
    by true e k = gone_before cells s t p q f e i (omega (arith, k, h))
    by false e k = earlier cells p q (omega (arith, k, h))

-- THE FINAL NEWLINE

last_newline : (t : List ℕ) → newlines (take (length t) (t ++ 10 ∷ [])) + 1 ≡ newlines (t ++ 10 ∷ [])
last_newline [] = refl
last_newline (c ∷ t) = by (is_newline c) (last_newline t)
  where
    by : (b : Bool) → newlines (take (length t) (t ++ 10 ∷ [])) + 1 ≡ newlines (t ++ 10 ∷ [])
        → cond b (newlines (take (length t) (t ++ 10 ∷ [])) + 1) (newlines (take (length t) (t ++ 10 ∷ []))) + 1 ≡ cond b (newlines (t ++ 10 ∷ []) + 1) (newlines (t ++ 10 ∷ []))
    by true e = omega (arith, e)
    by false e = e

front_of : {T : Type 0} (front : List (Cell T)) (last : Cell T) → take (length front) (front ++ last ∷ []) ≡ front
front_of [] last = refl
front_of (x ∷ xs) last = ap (λ ys. x ∷ ys) (front_of xs last)

-- the last cell, which is the final newline
record IsFinal {T : Type 0} (cells : List (Cell T)) : Type 0 where
  pub is : IsThere cells FINAL (length cells - 1)
  pub line : line_there cells (length cells - 1) ≡ newlines (text_of cells)

final_is : {T : Type 0} (cells : List (Cell T)) → AreDistinct cells → EndsFinal cells → IsFinal cells
final_is {T} cells d h =
    let (front, last, l) = final_last cells h in
    let many : length cells ≡ length front + 1 = ap length l.is ∙ length-append front (last ∷ []) in
    let one_less : length cells - 1 ≡ length front = omega (arith, many) in
    let found : position_of cells FINAL ≡ Some (length cells - 1) = position_is cells FINAL ∙ final_stands cells d h in
    let cell : option_map (map_state (λ _. final_cell.state)) (cell_of cells FINAL) ≡ Some final_cell =
    ap (option_map (map_state (λ _. final_cell.state))) (sym (found_there cells FINAL (length cells - 1) found)) ∙ h in
    record {
      is = record { found = found; newline = newline (cell_of cells FINAL) cell; there = there (cell_of cells FINAL) cell };
      line = ap (λ n. line_there cells n) one_less ∙ ap (λ (cs : List (Cell T)). line_there cs (length front)) l.is ∙ last_line_is front last l.ch l.gone
          ∙ ap (λ (cs : List (Cell T)). newlines (text_of cs)) (sym l.is);
    }
  where
    newline : (o : Option (Cell T)) → option_map (map_state (λ _. final_cell.state)) o ≡ Some final_cell → option_map (λ (cell : Cell T). cell.ch) o ≡ Some 10
    newline None e = let bad : ⊥ = cc in absurd bad
    newline (Some cell) e = let same : map_state (λ _. final_cell.state) cell ≡ final_cell = cc in ap (λ (c : Cell ℕ). Some c.ch) same

    there : (o : Option (Cell T)) → option_map (map_state (λ _. final_cell.state)) o ≡ Some final_cell → unwrap_or (option_map (λ (cell : Cell T). cell.gone) o) false ≡ false
    there None e = refl
    there (Some cell) e = let same : map_state (λ _. final_cell.state) cell ≡ final_cell = cc in ap (λ (c : Cell ℕ). c.gone) same

    text_is : (front : List (Cell T)) (last : Cell T) → last.ch ≡ 10 → last.gone ≡ false → text_of (front ++ last ∷ []) ≡ text_of front ++ 10 ∷ []
    text_is front last c g =
        ap (map (λ (cell : Cell T). cell.ch)) (visible_last front last g) ∙ map_append (λ (cell : Cell T). cell.ch) (visible_of front) (last ∷ []) ∙ ap (λ c. text_of front ++ c ∷ []) c

    last_line_is : (front : List (Cell T)) (last : Cell T) → last.ch ≡ 10 → last.gone ≡ false → line_there (front ++ last ∷ []) (length front) ≡ newlines (text_of (front ++ last ∷ []))
    last_line_is front last c g =
        let before : visible_before (front ++ last ∷ []) (length front) ≡ length (text_of front) =
        ap (λ (cs : List (Cell T)). length (visible_of cs)) (front_of front last) ∙ sym (length-map (visible_of front) (λ (cell : Cell T). cell.ch)) in
        ap (λ n. line_of (text_of (front ++ last ∷ [])) n) before
        ∙ ap (λ t. line_of t (length (text_of front))) (text_is front last c g) ∙ last_newline (text_of front) ∙ ap newlines (sym (text_is front last c g))

-- THE LIMITS THAT ARE ASKED FOR

newlines_of : {T : Type 0} (cells : List (Cell T)) (line : ℕ) (limit : Option Stamp) → AreDistinct cells → 1 ≤ line → line ≤ newlines (text_of cells) → limit ≡ newline_of cells line → IfSome limit (IsNewline cells)
newlines_of cells line limit d low high e =
    let (stamp, i) = newline_is cells line d low high in
    subst (λ (o : Option Stamp). IfSome o (IsNewline cells)) (sym (e ∙ i.is)) i.newline

start_newline : {T : Type 0} (cells : List (Cell T)) (limits : Limits) (start : Choice) (end : ℕ) → AreDistinct cells → LimitsAreInOrder cells limits
    → are_lines (newlines (text_of cells)) (start_asked cells limits start) end ≡ true → IfSome (start_chosen cells limits.start start) (IsNewline cells)
start_newline cells limits Kept end d h a = h.start
start_newline cells limits Away end d h a = tt
start_newline cells limits (Line n) end d h a = split (nat_le n 1)
    (λ b. rw b tt)
    (λ b.
    let some : 1 < n = grind (arith, b) in
    let less : n < end = grind (arith, a) in
    let few : end ≤ newlines (text_of cells) + 1 = grind (arith, a) in
    rw b (newlines_of cells (n - 1) (newline_of cells (n - 1)) d (omega (arith, some)) (omega (arith, less, few)) refl))

end_newline : {T : Type 0} (cells : List (Cell T)) (limits : Limits) (end : Choice) (start : ℕ) → AreDistinct cells → LimitsAreInOrder cells limits
    → are_lines (newlines (text_of cells)) start (end_asked cells limits end) ≡ true → IfSome (end_chosen cells limits.end end) (IsNewline cells)
end_newline cells limits Kept start d h a = h.end
end_newline cells limits Away start d h a = tt
end_newline cells limits (Line n) start d h a = split (nat_lt (newlines (text_of cells)) n)
    (λ b. rw b tt)
    (λ b.
    let few : n ≤ newlines (text_of cells) = grind (arith, b) in
    let first : 1 ≤ start = grind (arith, a) in
    let less : start < n = grind (arith, a) in
    rw b (newlines_of cells (n - 1) (newline_of cells (n - 1)) d (omega (arith, first, less)) (omega (arith, few)) refl))

-- the line of a newline that is the end of a view is the last one
kept_end : {T : Type 0} (cells : List (Cell T)) (limits : Limits) → AreDistinct cells → EndsFinal cells → IfSome limits.end (IsNewline cells)
    → last_line cells limits ≡ line_there cells (end_position cells limits)
kept_end {T} cells limits d f h = by limits.end h
  where
    by : (o : Option Stamp) → IfSome o (IsNewline cells) → unwrap_or (option_and_then (line_at cells) o) (newlines (text_of cells))
        ≡ line_there cells (unwrap_or (option_and_then (position_of cells) o) (length cells - 1))
    by None k = sym (final_is cells d f).line
    by (Some s) k =
        let (p, found) = newline_at cells s k in
        let there : position_of cells s ≡ Some p = position_is cells s ∙ found in
        ap (λ (o : Option ℕ). unwrap_or (option_map (line_of (text_of cells)) (option_map (visible_before cells) o)) (newlines (text_of cells))) there
        ∙ sym (ap (λ (o : Option ℕ). line_there cells (unwrap_or o (length cells - 1))) there)

-- the start, that is there or stands before a kept end, stands before the end that is asked for
before_asked : {T : Type 0} (cells : List (Cell T)) (limits : Limits) (end : Choice) (s : Stamp) (p line : ℕ) → AreDistinct cells → EndsFinal cells → LimitsAreInOrder cells limits
    → position_of cells s ≡ Some p → line_behind cells s ≡ Some line → (is_gone_cell cells s ≡ false) ⊎ (p < end_position cells limits)
    → are_lines (newlines (text_of cells)) line (end_asked cells limits end) ≡ true
    → p < unwrap_or (option_and_then (position_of cells) (end_chosen cells limits.end end)) (length cells - 1)
before_asked cells limits Kept s p line d f h found behind or a = elim or [
  | inl there ↦ (
      let less : line < last_line cells limits + 1 = grind (arith, a) in
      let own : cond (is_gone_cell cells s) (line_there cells p) (line_there cells p + 1) ≡ line = behind_found cells s p line found behind in
      let one : line_there cells p + 1 ≡ line = rw there at own in
      earlier cells p (end_position cells limits) (omega (arith, less, one, kept_end cells limits d f h.end))
      )
  | inr before ↦ before
]
before_asked cells limits Away s p line d f h found behind or a =
    let less : line < newlines (text_of cells) + 1 = grind (arith, a) in
    let final = final_is cells d f in
    begins_before cells s FINAL p (length cells - 1) line found behind final.is (omega (arith, less, final.line))
before_asked {T} cells limits (Line n) s p line d f h found behind or a = split (nat_lt (newlines (text_of cells)) n)
    (λ b.
    let few : n ≤ newlines (text_of cells) + 1 = grind (arith, a) in
    let less : line < n = grind (arith, a) in
    let final = final_is cells d f in
    rw b (begins_before cells s FINAL p (length cells - 1) line found behind final.is (omega (arith, few, less, final.line))))
    (λ b.
    let few : n ≤ newlines (text_of cells) = grind (arith, b) in
    let less : line < n = grind (arith, a) in
    let first : 1 ≤ line = grind (arith, a) in
    let (t, i) = newline_is cells (n - 1) d (omega (arith, first, less)) (omega (arith, few)) in
    let (q, at) = newline_at cells t i.newline in
    let there : position_of cells t ≡ Some q = position_is cells t ∙ at in
    let own : line_there cells q ≡ n - 1 = line_found cells t q (n - 1) there i.at in
    let less_than : p < q = begins_before cells s t p q line found behind (record { found = there; newline = i.newline; there = i.there }) (omega (arith, less, own)) in
    let is : unwrap_or (option_and_then (position_of cells) (newline_of cells (n - 1))) (length cells - 1) ≡ q =
    ap (λ (o : Option Stamp). unwrap_or (option_and_then (position_of cells) o) (length cells - 1)) i.is ∙ ap (λ (o : Option ℕ). unwrap_or o (length cells - 1)) there in
    rw b (omega (arith, less_than, is)))

start_before : {T : Type 0} (cells : List (Cell T)) (limits : Limits) (start end : Choice) → AreDistinct cells → EndsFinal cells → LimitsAreInOrder cells limits
    → are_lines (newlines (text_of cells)) (start_asked cells limits start) (end_asked cells limits end) ≡ true
    → IfSome (option_and_then (position_of cells) (start_chosen cells limits.start start))
    (λ p. p < unwrap_or (option_and_then (position_of cells) (end_chosen cells limits.end end)) (length cells - 1))
start_before {T} cells limits Kept end d f h a = by limits.start refl
  where
    by : (o : Option Stamp) → limits.start ≡ o
        → IfSome (option_and_then (position_of cells) o) (λ p. p < unwrap_or (option_and_then (position_of cells) (end_chosen cells limits.end end)) (length cells - 1))
    by None e = tt
    by (Some s) e =
        let (p, start) = start_of cells limits s h e in
        let less = before_asked cells limits end s p (first_line cells limits) d f h start.found (first_is_behind cells limits s p f start) (inr start.before) a in
        subst (λ (o : Option ℕ). IfSome o (λ p. p < unwrap_or (option_and_then (position_of cells) (end_chosen cells limits.end end)) (length cells - 1))) (sym start.found) less
start_before cells limits Away end d f h a = tt
start_before cells limits (Line n) end d f h a = split (nat_le n 1)
    (λ b. rw b tt)
    (λ b.
    let some : 1 < n = grind (arith, b) in
    let less : n < end_asked cells limits end = grind (arith, a) in
    let few : end_asked cells limits end ≤ newlines (text_of cells) + 1 = grind (arith, a) in
    let (s, i) = newline_is cells (n - 1) d (omega (arith, some)) (omega (arith, less, few)) in
    let (p, at) = newline_at cells s i.newline in
    let there : position_of cells s ≡ Some p = position_is cells s ∙ at in
    let line : n - 1 + 1 ≡ n = omega (arith, some) in
    let before = before_asked cells limits end s p n d f h there (i.behind ∙ ap Some line) (inl i.there) a in
    let is : option_and_then (position_of cells) (newline_of cells (n - 1)) ≡ Some p = ap (option_and_then (position_of cells)) i.is ∙ there in
    rw b (subst (λ (o : Option ℕ). IfSome o (λ p. p < unwrap_or (option_and_then (position_of cells) (end_chosen cells limits.end end)) (length cells - 1))) (sym is) before))

pub order_chosen : {T : Type 0} (cells : List (Cell T)) (start end : Choice) (limits chosen : Limits) → AreDistinct cells → EndsFinal cells → LimitsAreInOrder cells limits
    → limits_chosen cells start end limits ≡ Ok chosen → LimitsAreInOrder cells chosen
order_chosen cells start end limits chosen d f h e =
    let by = chosen_by (are_lines (newlines (text_of cells)) (start_asked cells limits start) (end_asked cells limits end)) _ chosen e in
    subst (LimitsAreInOrder cells) by.1 (record {
      start = start_newline cells limits start (end_asked cells limits end) d h by.0;
      end = end_newline cells limits end (start_asked cells limits start) d h by.0;
      before = start_before cells limits start end d f h by.0;
    })
