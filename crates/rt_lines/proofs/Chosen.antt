-- The lines that a command asks for are those that its limits show.
use Rattle.std.proofs.Common.{◌≡◌, ℕ, zero, suc, ◌+◌, ◌-◌, ◌<◌, ◌≤◌, min, List, [], ◌∷◌, Bool, true, false, not, cond, length, take, refl, sym, subst, ap, ◌∙◌, arith}
use Rattle.std.specs.Prelude.{IsOk, Option, Some, None, Ok, Err, is_some, nat_le, nat_lt, option_map, option_and_then, slice_get, unwrap_or}
use Rattle.std.specs.List.{position_or_len}
use Rattle.std.proofs.lemmas.Bool.{lt-ltb}
use Rattle.std.proofs.lemmas.Bool.Decides.{nat_tests}
use Rattle.std.proofs.lemmas.Option.{slice_get-map}
use Rattle.rt_stamps.specs.declared.fault.Fault.TheVariants.{BadView}
use Rattle.rt_stamps.specs.declared.stamp.Stamp.{Stamp}
use Rattle.rt_stamps.specs.Stamps.{is_same}
use Rattle.rt_stamps.specs.Places.{is_newline, newlines, after_newlines, line_of, line_end}
use Rattle.rt_stamps.proofs.Order.{same_refl}
use Rattle.rt_store.specs.declared.cell.Cell.{Cell}
use Rattle.rt_store.specs.Cells.{AreDistinct, EndsFinal, cell_of, position_of, stamps_of, text_of, visible_before, visible_of}
use Rattle.rt_store.specs.Spans.{is_among}
use Rattle.rt_store.proofs.Distinct.{differs, first_apart, others_distinct, split}
use Rattle.rt_store.proofs.Finding.{stamp_held}
use Rattle.rt_lines.specs.declared.choice.Choice.{Choice}
use Rattle.rt_lines.specs.declared.choice.Choice.TheVariants.{Kept, Away, Line}
use Rattle.rt_lines.specs.declared.limits.Limits.{Limits}
use Rattle.rt_lines.specs.Choices.{are_lines, end_asked, end_chosen, limits_chosen, newline_of, start_asked, start_chosen}
use Rattle.rt_lines.specs.Limits.{first_line, is_gone_cell, last_line, line_at, line_behind, no_limits, place_of}
use Rattle.rt_lines.specs.Ordered.{IsNewline, IsStart}
use Rattle.rt_lines.specs.Stretches.{stretch_of}
use Rattle.rt_lines.proofs.Lines.{after_some, ends_with, lines_some}
use Rattle.rt_lines.proofs.Ordered.{first_is_behind}
use Rattle.rt_lines.proofs.Places.{ends_text}
use Rattle.rt_lines.proofs.Whole.{stretch_whole}

-- THE CELL OF A CHARACTER

-- the cell of a stamp is visible, and stands at a place
record IsFound {T : Type 0} (cells : List (Cell T)) (cell : Cell T) (place : ℕ) : Type 0 where
  stands : visible_before cells (position_or_len (λ (c : Cell T). is_same c.stamp cell.stamp) cells) ≡ place
  within : position_or_len (λ (c : Cell T). is_same c.stamp cell.stamp) cells < length cells
  found : cell_of cells cell.stamp ≡ Some cell
  visible : cell.gone ≡ false

-- behind another cell
found_behind : {T : Type 0} (x : Cell T) (xs : List (Cell T)) (cell : Cell T) (place : ℕ) → AreDistinct (x ∷ xs) → IsFound xs cell place → IsFound (x ∷ xs) cell (cond x.gone place (place + 1))
found_behind {T} x xs cell place d i =
    let among : is_among (stamps_of xs) cell.stamp ≡ true = sym (stamp_held xs cell.stamp) ∙ ap is_some i.found in
    let other : is_same x.stamp cell.stamp ≡ false = differs x.stamp cell.stamp (stamps_of xs) (first_apart x.stamp (stamps_of xs) d) among in
    let at : position_or_len (λ (c : Cell T). is_same c.stamp cell.stamp) (x ∷ xs) ≡ suc (position_or_len (λ (c : Cell T). is_same c.stamp cell.stamp) xs) = rw other (omega arith) in
    record {
      stands = ap (visible_before (x ∷ xs)) at ∙ by x.gone;
      within = rw other (omega (arith, i.within));
      found = rw other i.found;
      visible = i.visible;
    }
  where
    before : List (Cell T)
    before = take (position_or_len (λ (c : Cell T). is_same c.stamp cell.stamp) xs) xs

    by : (b : Bool) → length (cond (not b) (x ∷ visible_of before) (visible_of before)) ≡ cond b place (place + 1)
    by true = i.stands
    by false = omega (arith, i.stands)

found_here : {T : Type 0} (x : Cell T) (xs : List (Cell T)) (cell : Cell T) → x ≡ cell → x.gone ≡ false → IsFound (x ∷ xs) cell 0
found_here {T} x xs cell e g =
    let same : is_same x.stamp cell.stamp ≡ true = ap (λ (c : Cell T). is_same x.stamp c.stamp) (sym e) ∙ same_refl x.stamp in
    record {
      stands = rw same refl;
      within = rw same (omega arith);
      found = rw same (ap Some e);
      visible = ap (λ (c : Cell T). c.gone) (sym e) ∙ g;
    }

found_visible : {T : Type 0} (cells : List (Cell T)) (cell : Cell T) (place : ℕ) → AreDistinct cells → slice_get (visible_of cells) place ≡ Some cell → IsFound cells cell place
found_visible [] cell place d h = let bad : ⊥ = cc in absurd bad
found_visible {T} (x ∷ xs) cell place d h = by (λ p k. found_visible xs cell p (others_distinct x.stamp (stamps_of xs) d) k) x.gone place refl h
  where
    by : ((p : ℕ) → slice_get (visible_of xs) p ≡ Some cell → IsFound xs cell p) → (b : Bool) (p : ℕ) → x.gone ≡ b
        → slice_get (cond (not b) (x ∷ visible_of xs) (visible_of xs)) p ≡ Some cell → IsFound (x ∷ xs) cell p
    by others true p e k = subst (IsFound (x ∷ xs) cell) (ap (λ b. cond b p (p + 1)) e) (found_behind x xs cell p d (others p k))
    by others false zero e k = let same : x ≡ cell = cc in found_here x xs cell same e
    by others false (suc p) e k =
        let next : p + 1 ≡ suc p = omega arith in
        subst (IsFound (x ∷ xs) cell) (ap (λ b. cond b p (p + 1)) e ∙ next) (found_behind x xs cell p d (others p k))

-- THE NEWLINE OF A LINE

-- it stands on its line
line_of_end : (k : ℕ) (t : List ℕ) (n : ℕ) → 1 ≤ k → k ≤ newlines t → after_newlines k t ≡ suc n → newlines (take n t) + 1 ≡ k
line_of_end zero t n low high e = absurd (omega arith)
line_of_end (suc k) [] n low high e = absurd (omega arith)
line_of_end (suc zero) (c ∷ t) zero low high e = refl
line_of_end (suc zero) (c ∷ t) (suc n) low high e = split (is_newline c)
    (λ b. let m : 0 + 1 ≡ suc (suc n) = rw b at e in absurd (omega arith))
    (λ b.
    let m : after_newlines (suc zero) t + 1 ≡ suc (suc n) = rw b at e in
    let few : 1 ≤ newlines t = rw b at high in
    rw b (line_of_end (suc zero) t n low few (omega arith)))
line_of_end (suc (suc k)) (c ∷ t) zero low high e = split (is_newline c)
    (λ b.
    let m : after_newlines (suc k) t + 1 ≡ suc zero = rw b at e in
    let few : suc (suc k) ≤ newlines t + 1 = rw b at high in
    absurd (omega (arith, after_some (suc k) t (omega arith) (omega arith))))
    (λ b.
    let m : after_newlines (suc (suc k)) t + 1 ≡ suc zero = rw b at e in
    let few : suc (suc k) ≤ newlines t = rw b at high in
    absurd (omega (arith, after_some (suc (suc k)) t (omega arith) few)))
line_of_end (suc (suc k)) (c ∷ t) (suc n) low high e = split (is_newline c)
    (λ b.
    let m : after_newlines (suc k) t + 1 ≡ suc (suc n) = rw b at e in
    let few : suc (suc k) ≤ newlines t + 1 = rw b at high in
    let i = line_of_end (suc k) t n (omega arith) (omega arith) (omega arith) in
    rw b (omega (arith, i)))
    (λ b.
    let m : after_newlines (suc (suc k)) t + 1 ≡ suc (suc n) = rw b at e in
    let few : suc (suc k) ≤ newlines t = rw b at high in
    rw b (line_of_end (suc (suc k)) t n low few (omega arith)))

-- what its stamp tells as a limit
pub record IsNewlineOf {T : Type 0} (cells : List (Cell T)) (line : ℕ) (stamp : Stamp) : Type 0 where
  pub is : newline_of cells line ≡ Some stamp
  pub at : line_at cells stamp ≡ Some line
  pub behind : line_behind cells stamp ≡ Some (line + 1)
  pub newline : IsNewline cells stamp
  pub there : is_gone_cell cells stamp ≡ false

pub newline_is : {T : Type 0} (cells : List (Cell T)) (line : ℕ) → AreDistinct cells → 1 ≤ line → line ≤ newlines (text_of cells) → (stamp : Stamp) × IsNewlineOf cells line stamp
newline_is {T} cells line d low high =
    let ends = ends_with line (text_of cells) low high in
    by (slice_get (visible_of cells) (line_end (text_of cells) line)) refl (sym (slice_get-map (λ (cell : Cell T). cell.ch) (visible_of cells) (line_end (text_of cells) line)) ∙ ends)
  where
    place : ℕ
    place = line_end (text_of cells) line

    by : (o : Option (Cell T)) → slice_get (visible_of cells) place ≡ o → option_map (λ (cell : Cell T). cell.ch) o ≡ Some 10 → (stamp : Stamp) × IsNewlineOf cells line stamp
    by None e k = let bad : ⊥ = cc in absurd bad
    by (Some cell) e k =
        let f = found_visible cells cell place d e in
        let position : position_of cells cell.stamp ≡ Some (position_or_len (λ (c : Cell T). is_same c.stamp cell.stamp) cells) = rw (lt-ltb _ _ f.within) refl in
        let stands : place_of cells cell.stamp ≡ Some place = ap (option_map (visible_before cells)) position ∙ ap Some f.stands in
        let after : after_newlines line (text_of cells) ≡ suc place = omega (arith, after_some line (text_of cells) low high) in
        let own : line_of (text_of cells) place ≡ line = line_of_end line (text_of cells) place low high after in
        let at : line_at cells cell.stamp ≡ Some line = ap (option_map (line_of (text_of cells))) stands ∙ ap Some own in
        let there : is_gone_cell cells cell.stamp ≡ false = ap (λ o. unwrap_or (option_map (λ (cell : Cell T). cell.gone) o) false) f.found ∙ f.visible in
        let behind : line_behind cells cell.stamp ≡ Some (line + 1) =
        ap (option_map (λ line. cond (is_gone_cell cells cell.stamp) line (line + 1))) at ∙ ap (λ b. Some (cond b line (line + 1))) there in (
          cell.stamp,
          record {
            is = ap (option_map (λ (cell : Cell T). cell.stamp)) e;
            at = at;
            behind = behind;
            newline = ap (option_map (λ (cell : Cell T). cell.ch)) f.found ∙ k;
            there = there;
          },
        )

-- THE LIMITS

pub chosen_by : (b : Bool) (limits chosen : Limits) → cond b (Ok limits) (Err BadView) ≡ Ok chosen → (b ≡ true) × (limits ≡ chosen)
chosen_by true limits chosen e = (refl, cc)
chosen_by false limits chosen e = let bad : ⊥ = cc in absurd bad

-- the last line is the one before that asked for
last_asked : {T : Type 0} (cells : List (Cell T)) (limit : Option Stamp) (limits : Limits) (end : Choice) (start : ℕ) → AreDistinct cells → limit ≡ end_chosen cells limits.end end
    → are_lines (newlines (text_of cells)) start (end_asked cells limits end) ≡ true
    → unwrap_or (option_and_then (line_at cells) limit) (newlines (text_of cells)) + 1 ≡ end_asked cells limits end
last_asked cells limit limits Kept start d e h = ap (λ o. unwrap_or (option_and_then (line_at cells) o) (newlines (text_of cells)) + 1) e
last_asked cells limit limits Away start d e h = ap (λ o. unwrap_or (option_and_then (line_at cells) o) (newlines (text_of cells)) + 1) e
last_asked {T} cells limit limits (Line n) start d e h = split (nat_lt (newlines (text_of cells)) n)
    (λ b.
    let less : newlines (text_of cells) < n = grind (arith, b) in
    let few : n ≤ newlines (text_of cells) + 1 = grind (arith, h) in
    let none : limit ≡ None = rw b at e in
    rw none (omega arith))
    (λ b.
    let some : n ≤ newlines (text_of cells) = grind (arith, b) in
    let more : 1 < n = grind (arith, h) in
    let (stamp, i) = newline_is cells (n - 1) d (omega arith) (omega arith) in
    let newline : limit ≡ newline_of cells (n - 1) = rw b at e in
    rw (newline ∙ i.is, i.at) (omega arith))

-- the first line is the one asked for
first_asked : {T : Type 0} (cells : List (Cell T)) (limit old : Option Stamp) (line end last : ℕ) → AreDistinct cells → limit ≡ start_chosen cells old (Line line)
    → are_lines (newlines (text_of cells)) line end ≡ true → last + 1 ≡ end
    → min (unwrap_or (option_and_then (line_behind cells) limit) 1) last ≡ line
first_asked {T} cells limit old line end last d e h l = split (nat_le line 1)
    (λ b.
    let one : line ≡ 1 = grind (arith, b, h) in
    let more : line < end = grind (arith, h) in
    let none : limit ≡ None = rw b at e in
    rw none (omega arith))
    (λ b.
    let some : 1 < line = grind (arith, b) in
    let more : line < end = grind (arith, h) in
    let few : end ≤ newlines (text_of cells) + 1 = grind (arith, h) in
    let (stamp, i) = newline_is cells (line - 1) d (omega arith) (omega arith) in
    let newline : limit ≡ newline_of cells (line - 1) = rw b at e in
    rw (newline ∙ i.is, i.behind) (omega arith))

pub last_chosen : {T : Type 0} (cells : List (Cell T)) (start end : Choice) (limits chosen : Limits) → AreDistinct cells → limits_chosen cells start end limits ≡ Ok chosen
    → last_line cells chosen + 1 ≡ end_asked cells limits end
last_chosen cells start end limits chosen d h =
    let by = chosen_by (are_lines (newlines (text_of cells)) (start_asked cells limits start) (end_asked cells limits end)) _ chosen h in
    last_asked cells chosen.end limits end (start_asked cells limits start) d (ap (λ (l : Limits). l.end) (sym by.1)) by.0

pub first_chosen : {T : Type 0} (cells : List (Cell T)) (line : ℕ) (end : Choice) (limits chosen : Limits) → AreDistinct cells → limits_chosen cells (Line line) end limits ≡ Ok chosen
    → first_line cells chosen ≡ line
first_chosen cells line end limits chosen d h =
    let by = chosen_by (are_lines (newlines (text_of cells)) line (end_asked cells limits end)) _ chosen h in
    first_asked cells chosen.start limits.start line (end_asked cells limits end) (last_line cells chosen) d (ap (λ (l : Limits). l.start) (sym by.1)) by.0
    (last_chosen cells (Line line) end limits chosen d h)

-- A LIMIT THAT IS KEPT

before_end : (lines start end : ℕ) → are_lines lines start end ≡ true → start < end
before_end lines start end h = grind (arith, h)

shorter : (first last end : ℕ) → first < end → last + 1 ≡ end → min first last ≡ first
shorter first last end h e = omega arith

-- the first line stays where the one at the start stands before the one at the end
pub first_stays : {T : Type 0} (cells : List (Cell T)) (end : Choice) (limits chosen : Limits) (stamp : Stamp) (position : ℕ) → AreDistinct cells → EndsFinal cells
    → IsStart cells limits stamp position → limits_chosen cells Kept end limits ≡ Ok chosen → first_line cells chosen ≡ first_line cells limits
first_stays {T} cells end limits chosen stamp position d f s h =
    let by = chosen_by (are_lines (newlines (text_of cells)) (first_line cells limits) (end_asked cells limits end)) _ chosen h in
    let start : chosen.start ≡ Some stamp = ap (λ (l : Limits). l.start) (sym by.1) ∙ s.limit in
    let less = before_end (newlines (text_of cells)) (first_line cells limits) (end_asked cells limits end) by.0 in
    ap (λ o. min (unwrap_or (option_and_then (line_behind cells) o) 1) (last_line cells chosen)) start
    ∙ ap (λ o. min (unwrap_or o 1) (last_line cells chosen)) (first_is_behind cells limits stamp position f s)
    ∙ shorter (first_line cells limits) (last_line cells chosen) (end_asked cells limits end) less (last_chosen cells Kept end limits chosen d h)

-- LIMITS THAT ARE TAKEN AWAY

-- without the one at the start the first line is shown
pub first_whole : {T : Type 0} (cells : List (Cell T)) (end : Choice) (limits chosen : Limits) → AreDistinct cells → limits_chosen cells Away end limits ≡ Ok chosen
    → first_line cells chosen ≡ 1
first_whole {T} cells end limits chosen d h =
    let by = chosen_by (are_lines (newlines (text_of cells)) 1 (end_asked cells limits end)) _ chosen h in
    let none : chosen.start ≡ None = ap (λ (l : Limits). l.start) (sym by.1) in
    let more : 1 < end_asked cells limits end = grind (arith, by.0) in
    let some : min 1 (last_line cells chosen) ≡ 1 = omega (arith, more, last_chosen cells Away end limits chosen d h) in
    ap (λ o. min (unwrap_or (option_and_then (line_behind cells) o) 1) (last_line cells chosen)) none ∙ some

-- a text of one line at least can be shown whole
are_all : (lines : ℕ) → 1 ≤ lines → are_lines lines 1 (lines + 1) ≡ true
are_all lines h = grind (arith, nat_tests, h)

-- to take both away is never refused
pub none_chosen : {T : Type 0} (cells : List (Cell T)) (limits : Limits) → EndsFinal cells → limits_chosen cells Away Away limits ≡ Ok no_limits
none_chosen cells limits h = ap (λ b. cond b (Ok no_limits) (Err BadView)) (are_all (newlines (text_of cells)) (lines_some (text_of cells) (ends_text cells h)))

-- and then all of the text is shown
pub whole_chosen : {T : Type 0} (cells : List (Cell T)) (limits chosen : Limits) → EndsFinal cells → limits_chosen cells Away Away limits ≡ Ok chosen
    → stretch_of cells chosen ≡ record { begin = 0; end = length (visible_of cells) }
whole_chosen cells limits chosen h e =
    let by = chosen_by (are_lines (newlines (text_of cells)) 1 (newlines (text_of cells) + 1)) no_limits chosen e in
    ap (stretch_of cells) (sym by.1) ∙ stretch_whole cells h

-- without a limit at the start line 1 is first
pub first_of_none : {T : Type 0} (cells : List (Cell T)) (end : Choice) (limits chosen : Limits) → AreDistinct cells → limits.start ≡ None
    → limits_chosen cells Kept end limits ≡ Ok chosen → first_line cells chosen ≡ 1
first_of_none {T} cells end limits chosen d n h =
    let by = chosen_by (are_lines (newlines (text_of cells)) (first_line cells limits) (end_asked cells limits end)) _ chosen h in
    let none : chosen.start ≡ None = ap (λ (l : Limits). l.start) (sym by.1) ∙ n in
    let least : 1 ≤ first_line cells limits = grind (arith, by.0) in
    let less = before_end (newlines (text_of cells)) (first_line cells limits) (end_asked cells limits end) by.0 in
    let some : min 1 (last_line cells chosen) ≡ 1 = omega (arith, least, less, last_chosen cells Kept end limits chosen d h) in
    ap (λ o. min (unwrap_or (option_and_then (line_behind cells) o) 1) (last_line cells chosen)) none ∙ some

-- two lines in their order are never refused
are_two : (lines first end : ℕ) → 1 ≤ first → first < end → end ≤ lines + 1 → are_lines lines first end ≡ true
are_two lines first end h k l = grind (arith, nat_tests, h, k, l)

pub two_chosen : {T : Type 0} (cells : List (Cell T)) (first end : ℕ) (limits : Limits) → 1 ≤ first → first < end → end ≤ newlines (text_of cells) + 1
    → IsOk (limits_chosen cells (Line first) (Line end) limits)
two_chosen cells first end limits h k l = rw (are_two (newlines (text_of cells)) first end h k l) refl
