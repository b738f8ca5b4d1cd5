-- What a widget shows once new cells stand behind a visible one.
use Rattle.std.proofs.Common.{◌≡◌, ℕ, zero, suc, ◌+◌, ◌<◌, ◌≤◌, ◌&&◌, ◌||◌, ◌⊎◌, inl, inr, List, [], ◌∷◌, Bool, true, false, cond, min, length, take, drop, refl, sym, ap, subst, ◌∙◌, arith, Option, None, Some, take-append-drop, get_or}
use Rattle.std.specs.Prelude.{IfSome, is_some, nat_lt, option_and_then, option_map, slice_get, unwrap_or}
use Rattle.std.specs.List.{IsDistinct}
use Rattle.std.proofs.lemmas.List.{length-map}
use Rattle.std.proofs.lemmas.Option.{slice_get-map, slice_get_cases}
use Rattle.rt_stamps.specs.declared.stamp.Stamp.{Stamp}
use Rattle.rt_stamps.specs.declared.stamp.TheConstants.{ROOT}
use Rattle.rt_stamps.specs.Places.{line_end, line_start, newlines}
use Rattle.rt_stamps.specs.Stamps.{is_same}
use Rattle.rt_store.specs.Cells.{EndsFinal, after_element, cell_of, position_of, stamps_of, text_of, visible_of}
use Rattle.rt_store.specs.Shown.{TaggedCell}
use Rattle.rt_store.specs.Spans.{is_among}
use Rattle.rt_store.specs.Written.{AreBelowNext}
use Rattle.rt_store.proofs.Distinct.{first_apart, others_distinct}
use Rattle.rt_store.proofs.Finding.{place_found, stamp_held}
use Rattle.rt_rga.proofs.PlacesAt.{position_at}
use Rattle.rt_plans.specs.DocValue.{left_stamp, put_after}
use Rattle.rt_plans.proofs.InsertedText.{text_inserted}
use Rattle.rt_lines.specs.declared.limits.Limits.{Limits}
use Rattle.rt_lines.specs.Limits.{first_line, is_gone_cell, last_line, line_at, line_behind, place_of}
use Rattle.rt_lines.specs.Ordered.{IsNewline}
use Rattle.rt_lines.specs.Stretches.{stretch_of}
use Rattle.rt_lines.proofs.Places.{ends_text, place_of_within}
use Rattle.rt_text.specs.Neighbours.{are_sides_shown}
use Rattle.rt_text.proofs.LineCounts.{put_in}
use Rattle.rt_text.proofs.NeighbourLines.{both_sides, first_at, last_at, moved_by, start_at}
use Rattle.rt_text.proofs.NewCells.{AreNew, all_there, none_new, there_counted}
use Rattle.rt_text.proofs.PutPlaces.{IsCut, cell_more, cut_behind, cut_none, place_moved}

-- A LIMIT THAT IS A NEWLINE

-- whether it is gone
abbrev pub gone_by : List TaggedCell → Option Stamp → Bool
gone_by cells None = false
gone_by cells (Some stamp) = is_gone_cell cells stamp

-- limits are none or newlines
abbrev pub AreNewlines : List TaggedCell → Limits → Type 0
AreNewlines cells limits = IfSome limits.start (IsNewline cells) × IfSome limits.end (IsNewline cells)

newline_among : (cells : List TaggedCell) (s : Stamp) → IsNewline cells s → is_among (stamps_of cells) s ≡ true
newline_among cells s h = sym (stamp_held cells s) ∙ by (cell_of cells s) h
  where
    by : (o : Option TaggedCell) → option_map (λ (cell : TaggedCell). cell.ch) o ≡ Some 10 → is_some o ≡ true
    by None k = let bad : ⊥ = cc in absurd bad
    by (Some cell) k = refl

newline_at : (cells : List TaggedCell) (limit : Option Stamp) → IfSome limit (IsNewline cells)
    → IfSome (option_and_then (place_of cells) limit) (λ n. gone_by cells limit ≡ false → slice_get (text_of cells) n ≡ Some 10)
newline_at cells None h = tt
newline_at cells (Some s) h = by (place_of cells s) refl
  where
    seen : (n : ℕ) (o : Option TaggedCell) → cell_of cells s ≡ o → option_map (λ (cell : TaggedCell). cell.ch) o ≡ Some 10 → unwrap_or (option_map (λ (cell : TaggedCell). cell.gone) o) false ≡ false
        → place_of cells s ≡ Some n → slice_get (text_of cells) n ≡ Some 10
    seen n None e k g p = let bad : ⊥ = cc in absurd bad
    seen n (Some cell) e k g p =
        slice_get-map (λ (c : TaggedCell). c.ch) (visible_of cells) n ∙ ap (option_map (λ (c : TaggedCell). c.ch)) (place_found cells s cell n e g p) ∙ k

    by : (o : Option ℕ) → place_of cells s ≡ o → IfSome o (λ n. is_gone_cell cells s ≡ false → slice_get (text_of cells) n ≡ Some 10)
    by None e = tt
    by (Some n) e = λ g. seen n (cell_of cells s) refl h g e

place_below : (cells : List TaggedCell) (limit : Option Stamp) → EndsFinal cells → IfSome (option_and_then (place_of cells) limit) (λ n. n < length (text_of cells))
place_below cells None h = tt
place_below cells (Some s) h = by (place_of cells s) refl
  where
    by : (o : Option ℕ) → place_of cells s ≡ o → IfSome o (λ n. n < length (text_of cells))
    by None e = tt
    by (Some n) e = place_of_within cells s n h e

-- LINES BY LIMITS

pub last_by : (cells : List TaggedCell) (limits : Limits) → last_line cells limits ≡ last_at (text_of cells) (option_and_then (place_of cells) limits.end)
last_by cells limits = by limits.end
  where
    by : (o : Option Stamp) → unwrap_or (option_and_then (line_at cells) o) (newlines (text_of cells)) ≡ last_at (text_of cells) (option_and_then (place_of cells) o)
    by None = refl
    by (Some s) = refl

pub start_by : (cells : List TaggedCell) (limit : Option Stamp) → unwrap_or (option_and_then (line_behind cells) limit) 1 ≡ start_at (text_of cells) (option_and_then (place_of cells) limit) (gone_by cells limit)
start_by cells None = refl
start_by cells (Some s) = refl

pub first_by : (cells : List TaggedCell) (limits : Limits)
    → first_line cells limits ≡ first_at (text_of cells) (option_and_then (place_of cells) limits.start) (gone_by cells limits.start) (last_at (text_of cells) (option_and_then (place_of cells) limits.end))
first_by cells limits = λ i. min (start_by cells limits.start i) (last_by cells limits i)

-- NEW CELLS BEHIND A VISIBLE ONE

cut_at : (cells : List TaggedCell) (at : ℕ) → IsDistinct is_same (ROOT ∷ stamps_of cells) → at < length (visible_of cells) → IsCut (take (after_element cells (left_stamp cells at)) cells) at
cut_at cells zero d l = cut_none
cut_at cells (suc p) d l = by (slice_get_cases (visible_of cells) p).1
  where
    absent : (xs : List TaggedCell) (n : ℕ) (x : TaggedCell) → is_among (stamps_of xs) ROOT ≡ false → slice_get xs n ≡ Some x → is_same x.stamp ROOT ≡ false
    absent [] n x a e = let bad : ⊥ = cc in absurd bad
    absent (y ∷ ys) zero x a e = let same : y ≡ x = cc in ap (λ (c : TaggedCell). is_same c.stamp ROOT) (sym same) ∙ first (is_same y.stamp ROOT) a
      where
        first : (b : Bool) → (b || is_among (stamps_of ys) ROOT) ≡ false → b ≡ false
        first true k = let bad : ⊥ = cc in absurd bad
        first false k = refl
    absent (y ∷ ys) (suc n) x a e = absent ys n x (rest (is_same y.stamp ROOT) a) e
      where
        rest : (b : Bool) → (b || is_among (stamps_of ys) ROOT) ≡ false → is_among (stamps_of ys) ROOT ≡ false
        rest true k = let bad : ⊥ = cc in absurd bad
        rest false k = k

    by : ((x : TaggedCell) × (p < length (visible_of cells)) × (slice_get (visible_of cells) p ≡ Some x) × (get_or (visible_of cells) p x ≡ x)) ⊎ ((length (visible_of cells) ≤ p) × (slice_get (visible_of cells) p ≡ None))
        → IsCut (take (after_element cells (left_stamp cells (suc p))) cells) (suc p)
    by (inl w) =
        let x = w.0 in
        let c = cut_behind cells p x w.2 in
        let left : left_stamp cells (suc p) ≡ x.stamp = ap (λ o. unwrap_or (option_map (λ (cell : TaggedCell). cell.stamp) o) ROOT) w.2 in
        let root : is_same x.stamp ROOT ≡ false = absent cells c.0 x (first_apart ROOT (stamps_of cells) d) c.1 in
        let found = position_at cells c.0 x (others_distinct ROOT (stamps_of cells) d) c.1 in
        let next : unwrap_or (Some c.0) 0 + 1 ≡ suc c.0 = omega arith in
        let after : after_element cells (left_stamp cells (suc p)) ≡ suc c.0 =
        ap (after_element cells) left ∙ ap (λ b. cond b 0 (unwrap_or (position_of cells x.stamp) 0 + 1)) root ∙ ap (λ o. unwrap_or o 0 + 1) found ∙ next in
        subst (λ n. IsCut (take n cells) (suc p)) (sym after) c.2
    by (inr w) = absurd (omega (arith, w.0, l))

-- what is asked of new cells at a place
pub record ArePut (cells new : List TaggedCell) (count site at : ℕ) : Type 0 where
  pub ends : EndsFinal cells
  pub distinct : IsDistinct is_same (ROOT ∷ stamps_of cells)
  pub below : AreBelowNext count cells
  pub real : 1 ≤ site
  pub fresh : AreNew count site new
  pub within : at < length (text_of cells)

module _ (cells new : List TaggedCell) (count site at : ℕ) (put : ArePut cells new count site at) where
  abbrev cells' : List TaggedCell
  cells' = put_after cells (left_stamp cells at) new

  abbrev k : ℕ
  k = length new

  n : ℕ
  n = after_element cells (left_stamp cells at)

  cut : IsCut (take (after_element cells (left_stamp cells at)) cells) at
  cut = cut_at cells at put.distinct (omega (arith, put.within, length-map (visible_of cells) (λ (cell : TaggedCell). cell.ch)))

  pub text_put : text_of cells' ≡ put_in at (text_of new) (text_of cells)
  text_put = text_inserted cells new at put.distinct put.within

  size : length (visible_of new) ≡ k
  size = ap length (all_there count site new put.fresh)

  place_put : (limit : Option Stamp) → IfSome limit (IsNewline cells) → option_and_then (place_of cells') limit ≡ option_map (moved_by at k) (option_and_then (place_of cells) limit)
  place_put None h = refl
  place_put (Some s) h =
      let none = none_new count site cells new s put.below put.real put.fresh (newline_among cells s h) in
      place_moved (take (after_element cells (left_stamp cells at)) cells) new (drop (after_element cells (left_stamp cells at)) cells) s at k cut.seen size none (cut.before s)
      ∙ ap (λ (l : List TaggedCell). option_map (moved_by at k) (place_of l s)) (take-append-drop (after_element cells (left_stamp cells at)) cells)

  gone_put : (limit : Option Stamp) → IfSome limit (IsNewline cells) → gone_by cells' limit ≡ gone_by cells limit
  gone_put None h = refl
  gone_put (Some s) h =
      let none = none_new count site cells new s put.below put.real put.fresh (newline_among cells s h) in
      ap (λ (o : Option TaggedCell). unwrap_or (option_map (λ cell. cell.gone) o) false)
      (cell_more (take (after_element cells (left_stamp cells at)) cells) new (drop (after_element cells (left_stamp cells at)) cells) s none
      ∙ ap (λ (l : List TaggedCell). cell_of l s) (take-append-drop (after_element cells (left_stamp cells at)) cells))

  -- both sides of the end of the new characters are shown as the places of the limits say
  pub sides_put : (limits : Limits) → AreNewlines cells limits → 1 ≤ k → (stretch_of cells limits).begin ≤ at → at < (stretch_of cells limits).end
      → (nat_lt (stretch_of cells' limits).begin (at + k) && nat_lt (at + k) (stretch_of cells' limits).end)
      ≡ are_sides_shown (option_and_then (place_of cells) limits.start) (option_and_then (place_of cells) limits.end) at (text_of new)
  sides_put limits valid some low high =
      let t = text_of cells in
      let u = text_of new in
      let p = option_and_then (place_of cells) limits.start in
      let q = option_and_then (place_of cells) limits.end in
      let gone = gone_by cells limits.start in
      let many : length u ≡ k = there_counted count site new put.fresh in
      let ends = ends_text cells put.ends in
      let last : last_line cells' limits ≡ last_at (put_in at u t) (option_map (moved_by at (length u)) q) =
      last_by cells' limits ∙ (λ i. last_at (text_put i) (place_put limits.end valid.1 i)) ∙ ap (λ x. last_at (put_in at u t) (option_map (moved_by at x) q)) (sym many) in
      let first : first_line cells' limits ≡ first_at (put_in at u t) (option_map (moved_by at (length u)) p) gone (last_at (put_in at u t) (option_map (moved_by at (length u)) q)) =
      (λ i. min (start_by cells' limits.start i) (last i))
      ∙ (λ i. first_at (text_put i) (place_put limits.start valid.0 i) (gone_put limits.start valid.0 i) (last_at (put_in at u t) (option_map (moved_by at (length u)) q)))
      ∙ ap (λ x. first_at (put_in at u t) (option_map (moved_by at x) p) gone (last_at (put_in at u t) (option_map (moved_by at (length u)) q))) (sym many) in
      let begin : line_start t (first_at t p gone (last_at t q)) ≤ at = subst (λ x. line_start t x ≤ at) (first_by cells limits) low in
      let end : at < line_end t (last_at t q) + 1 = subst (λ x. at < line_end t x + 1) (last_by cells limits) high in
      (λ i. nat_lt (line_start (text_put i) (first i)) (at + sym many i) && nat_lt (at + sym many i) (line_end (text_put i) (last i) + 1))
      ∙ both_sides t u at p q gone ends put.within (omega (arith, many, some)) (newline_at cells limits.start valid.0) (place_below cells limits.end put.ends) begin end
