-- Where cells stand in what is left of a document, and the stretch that a widget then shows.
use Rattle.std.proofs.Common.{◌≡◌, ℕ, suc, ◌+◌, ◌-◌, ◌<◌, ◌||◌, List, [], ◌∷◌, Bool, true, false, cond, refl, sym, ap, ◌∙◌, arith, min, take, Option, None, Some}
use Rattle.std.specs.Prelude.{IfSome, option_and_then, option_map, slice_get, unwrap_or}
use Rattle.std.proofs.lemmas.Option.{slice_get-map}
use Rattle.rt_marks.specs.Marks.{place_left}
use Rattle.rt_stamps.specs.declared.stamp.Stamp.{Stamp}
use Rattle.rt_stamps.specs.Places.{line_end, line_start, newlines}
use Rattle.rt_stamps.specs.Stamps.{is_same}
use Rattle.rt_store.specs.declared.cell.Cell.{Cell}
use Rattle.rt_store.specs.Cells.{EndsFinal, cell_of, text_of, visible_of}
use Rattle.rt_store.specs.Shown.{TaggedCell}
use Rattle.rt_plans.specs.Removals.{gone_at}
use Rattle.rt_plans.proofs.RemovedText.{text_left}
use Rattle.rt_lines.specs.declared.limits.Limits.{Limits}
use Rattle.rt_lines.specs.Limits.{first_line, is_gone_cell, last_line, place_of}
use Rattle.rt_lines.specs.Ordered.{IsNewline}
use Rattle.rt_lines.specs.Stretches.{stretch_of}
use Rattle.rt_lines.proofs.Places.{ends_text, first_line_within, last_line_within}
use Rattle.rt_text.proofs.LeftLines.{AreInside, begin_left, end_left, first_left, kept_from, kept_whole, last_left}
use Rattle.rt_text.proofs.MarkLaws.{length_gone}
use Rattle.rt_text.proofs.NeighbourLines.{last_at, start_at}
use Rattle.rt_text.proofs.PutPlaces.{further, place_cons}
use Rattle.rt_text.proofs.ShownSides.{gone_by, last_by, start_by}
use Rattle.rt_text.proofs.StayingPlaces.{stays_at}

-- PLACES

-- of cells from a place on
gone_from : {T : Type 0} (removed : ℕ → Bool) (k : ℕ) (cells : List (Cell T)) (s : Stamp) → place_of (gone_at removed k cells) s ≡ option_map (kept_from removed k) (place_of cells s)
gone_from removed k [] s = refl
gone_from {T} removed k (c ∷ cs) s = by c.gone refl (gone_from removed k cs s) (gone_from removed (k + 1) cs s) ∙ sym (ap (option_map (kept_from removed k)) (place_cons c cs s))
  where
    here : (b : Bool) (o : Option ℕ) → option_map (further true) (option_map (kept_from removed k) o) ≡ option_map (kept_from removed k) (option_map (further true) o)
    here b None = refl
    here b (Some p) = refl

    next : (o : Option ℕ) → option_map (further (removed k)) (option_map (kept_from removed (k + 1)) o) ≡ option_map (kept_from removed k) (option_map (further false) o)
    next None = refl
    next (Some p) = refl

    inside : (b : Bool) (o : Option ℕ) → cond b (Some 0) (option_map (kept_from removed k) o) ≡ option_map (kept_from removed k) (cond b (Some 0) o)
    inside true o = refl
    inside false o = refl

    by : (b : Bool) → c.gone ≡ b → place_of (gone_at removed k cs) s ≡ option_map (kept_from removed k) (place_of cs s)
        → place_of (gone_at removed (k + 1) cs) s ≡ option_map (kept_from removed (k + 1)) (place_of cs s)
        → place_of (cond b (c ∷ gone_at removed k cs) (record c { gone = removed k } ∷ gone_at removed (k + 1) cs)) s
        ≡ option_map (kept_from removed k) (cond (is_same c.stamp s) (Some 0) (option_map (further c.gone) (place_of cs s)))
    by true e f g =
        place_cons c (gone_at removed k cs) s ∙ (λ i. cond (is_same c.stamp s) (Some 0) (option_map (further (e i)) (f i)))
        ∙ ap (cond (is_same c.stamp s) (Some 0)) (here true (place_of cs s)) ∙ inside (is_same c.stamp s) (option_map (further true) (place_of cs s))
        ∙ ap (λ b. option_map (kept_from removed k) (cond (is_same c.stamp s) (Some 0) (option_map (further b) (place_of cs s)))) (sym e)
    by false e f g =
        place_cons (record c { gone = removed k }) (gone_at removed (k + 1) cs) s ∙ ap (λ o. cond (is_same c.stamp s) (Some 0) (option_map (further (removed k)) o)) g
        ∙ ap (cond (is_same c.stamp s) (Some 0)) (next (place_of cs s)) ∙ inside (is_same c.stamp s) (option_map (further false) (place_of cs s))
        ∙ ap (λ b. option_map (kept_from removed k) (cond (is_same c.stamp s) (Some 0) (option_map (further b) (place_of cs s)))) (sym e)

pub place_gone : {T : Type 0} (removed : ℕ → Bool) (cells : List (Cell T)) (s : Stamp) → place_of (gone_at removed 0 cells) s ≡ option_map (place_left removed) (place_of cells s)
place_gone removed cells s = gone_from removed 0 cells s ∙ (λ i. option_map (λ p. sym (kept_whole removed p) i) (place_of cells s))

pub limit_gone : {T : Type 0} (removed : ℕ → Bool) (cells : List (Cell T)) (limit : Option Stamp)
    → option_and_then (place_of (gone_at removed 0 cells)) limit ≡ option_map (place_left removed) (option_and_then (place_of cells) limit)
limit_gone removed cells None = refl
limit_gone removed cells (Some s) = place_gone removed cells s

-- NEWLINES

character_from : {T : Type 0} (removed : ℕ → Bool) (k : ℕ) (cells : List (Cell T)) (s : Stamp)
    → option_map (λ (cell : Cell T). cell.ch) (cell_of (gone_at removed k cells) s) ≡ option_map (λ (cell : Cell T). cell.ch) (cell_of cells s)
character_from removed k [] s = refl
character_from {T} removed k (c ∷ cs) s = by c.gone (character_from removed k cs s) (character_from removed (k + 1) cs s)
  where
    pick : (d : Bool) (x : Cell T) (xs : List (Cell T)) → x.ch ≡ c.ch → option_map (λ (cell : Cell T). cell.ch) (cell_of xs s) ≡ option_map (λ (cell : Cell T). cell.ch) (cell_of cs s)
        → option_map (λ (cell : Cell T). cell.ch) (cond d (Some x) (cell_of xs s)) ≡ option_map (λ (cell : Cell T). cell.ch) (cond d (Some c) (cell_of cs s))
    pick true x xs e h = ap Some e
    pick false x xs e h = h

    by : (b : Bool) → option_map (λ (cell : Cell T). cell.ch) (cell_of (gone_at removed k cs) s) ≡ option_map (λ (cell : Cell T). cell.ch) (cell_of cs s)
        → option_map (λ (cell : Cell T). cell.ch) (cell_of (gone_at removed (k + 1) cs) s) ≡ option_map (λ (cell : Cell T). cell.ch) (cell_of cs s)
        → option_map (λ (cell : Cell T). cell.ch) (cell_of (cond b (c ∷ gone_at removed k cs) (record c { gone = removed k } ∷ gone_at removed (k + 1) cs)) s)
        ≡ option_map (λ (cell : Cell T). cell.ch) (cond (is_same c.stamp s) (Some c) (cell_of cs s))
    by true f g = pick (is_same c.stamp s) c (gone_at removed k cs) refl f
    by false f g = pick (is_same c.stamp s) (record c { gone = removed k }) (gone_at removed (k + 1) cs) refl g

-- a limit's newline stays one, gone or not
pub newline_gone : {T : Type 0} (removed : ℕ → Bool) (cells : List (Cell T)) (limit : Option Stamp) → IfSome limit (IsNewline cells) → IfSome limit (IsNewline (gone_at removed 0 cells))
newline_gone removed cells None h = tt
newline_gone removed cells (Some s) h = character_from removed 0 cells s ∙ h

-- CELLS THAT ARE GONE

still_gone : {T : Type 0} (removed : ℕ → Bool) (k : ℕ) (cells : List (Cell T)) (s : Stamp)
    → is_gone_cell (gone_at removed k cells) s ≡ (is_gone_cell cells s || unwrap_or (option_map (λ p. removed (k + p)) (place_of cells s)) false)
still_gone removed k [] s = refl
still_gone {T} removed k (c ∷ cs) s =
    by c.gone refl (place_of cs s) (still_gone removed k cs s) (still_gone removed (k + 1) cs s)
    ∙ ap (λ o. unwrap_or (option_map (λ (cell : Cell T). cell.gone) (cond (is_same c.stamp s) (Some c) (cell_of cs s))) false || unwrap_or (option_map (λ p. removed (k + p)) o) false) (sym (place_cons c cs s))
  where
    start : k ≡ k + 0
    start = omega arith

    back : (o : Option ℕ) → option_map (λ p. removed (k + 1 + p)) o ≡ option_map (λ p. removed (k + p)) (option_map (further false) o)
    back None = refl
    back (Some p) = let e : k + 1 + p ≡ k + suc p = omega arith in ap (λ n. Some (removed n)) e

    same : (o : Option ℕ) → option_map (λ p. removed (k + p)) o ≡ option_map (λ p. removed (k + p)) (option_map (further true) o)
    same None = refl
    same (Some p) = refl

    whole : (d : Bool) (o : Option ℕ) → c.gone ≡ true → is_gone_cell (gone_at removed k cs) s ≡ (is_gone_cell cs s || unwrap_or (option_map (λ p. removed (k + p)) o) false)
        → unwrap_or (option_map (λ (cell : Cell T). cell.gone) (cond d (Some c) (cell_of (gone_at removed k cs) s))) false
        ≡ (unwrap_or (option_map (λ (cell : Cell T). cell.gone) (cond d (Some c) (cell_of cs s))) false || unwrap_or (option_map (λ p. removed (k + p)) (cond d (Some 0) (option_map (further c.gone) o))) false)
    whole true o e f = e ∙ ap (λ x. x || removed (k + 0)) (sym e)
    whole false o e f = f ∙ (λ i. is_gone_cell cs s || unwrap_or (same o i) false) ∙ ap (λ x. is_gone_cell cs s || unwrap_or (option_map (λ p. removed (k + p)) (option_map (further x) o)) false) (sym e)

    taken : (d : Bool) (o : Option ℕ) → c.gone ≡ false → is_gone_cell (gone_at removed (k + 1) cs) s ≡ (is_gone_cell cs s || unwrap_or (option_map (λ p. removed (k + 1 + p)) o) false)
        → unwrap_or (option_map (λ (cell : Cell T). cell.gone) (cond d (Some (record c { gone = removed k })) (cell_of (gone_at removed (k + 1) cs) s))) false
        ≡ (unwrap_or (option_map (λ (cell : Cell T). cell.gone) (cond d (Some c) (cell_of cs s))) false || unwrap_or (option_map (λ p. removed (k + p)) (cond d (Some 0) (option_map (further c.gone) o))) false)
    taken true o e g = ap removed start ∙ ap (λ x. x || removed (k + 0)) (sym e)
    taken false o e g = g ∙ (λ i. is_gone_cell cs s || unwrap_or (back o i) false) ∙ ap (λ x. is_gone_cell cs s || unwrap_or (option_map (λ p. removed (k + p)) (option_map (further x) o)) false) (sym e)

    by : (b : Bool) → c.gone ≡ b → (o : Option ℕ) → is_gone_cell (gone_at removed k cs) s ≡ (is_gone_cell cs s || unwrap_or (option_map (λ p. removed (k + p)) o) false)
        → is_gone_cell (gone_at removed (k + 1) cs) s ≡ (is_gone_cell cs s || unwrap_or (option_map (λ p. removed (k + 1 + p)) o) false)
        → is_gone_cell (cond b (c ∷ gone_at removed k cs) (record c { gone = removed k } ∷ gone_at removed (k + 1) cs)) s
        ≡ (unwrap_or (option_map (λ (cell : Cell T). cell.gone) (cond (is_same c.stamp s) (Some c) (cell_of cs s))) false
        || unwrap_or (option_map (λ p. removed (k + p)) (cond (is_same c.stamp s) (Some 0) (option_map (further c.gone) o))) false)
    by true e o f g = whole (is_same c.stamp s) o e f
    by false e o f g = taken (is_same c.stamp s) o e g

-- THE STRETCH

-- characters are removed of what is shown, but not the last one
pub record AreShown (removed : ℕ → Bool) (cells : List TaggedCell) (limits : Limits) : Type 0 where
  pub final : EndsFinal cells
  pub before : (p : ℕ) → p < (stretch_of cells limits).begin → removed p ≡ false
  pub spared : removed ((stretch_of cells limits).end - 1) ≡ false

module _ (removed : ℕ → Bool) (cells : List TaggedCell) (limits : Limits) (are : AreShown removed cells limits) where
  abbrev text : List ℕ
  text = text_of cells

  abbrev left : List TaggedCell
  left = gone_at removed 0 cells

  stays_there : (p : ℕ) → removed p ≡ false → slice_get (text_of left) (place_left removed p) ≡ slice_get text p
  stays_there p h =
      slice_get-map (λ (c : TaggedCell). c.ch) (visible_of left) (place_left removed p) ∙ ap (option_map (λ (c : TaggedCell). c.ch)) (stays_at removed cells p (place_left removed p) h refl)
      ∙ sym (slice_get-map (λ (c : TaggedCell). c.ch) (visible_of cells) p)

  inside : AreInside removed text (text_of left) (first_line cells limits) (last_line cells limits)
  inside =
      let first = first_line_within cells limits are.final in
      let last = last_line_within cells limits are.final in
      let end : (stretch_of cells limits).end - 1 ≡ line_end text (last_line cells limits) = omega arith in
      record {
        is = text_left removed 0 cells;
        stays = stays_there;
        size = length_gone removed cells;
        ends = ends_text cells are.final;
        low = first.0;
        order = first.1;
        high = last.1;
        before = are.before;
        spared = ap removed (sym end) ∙ are.spared;
      }

  first_gone : (limit : Option Stamp)
      → IfSome (option_and_then (place_of cells) limit) (λ n. (gone_by cells limit ≡ true → gone_by left limit ≡ true) × (gone_by cells limit ≡ false → n < (stretch_of cells limits).begin → gone_by left limit ≡ false))
  first_gone None = tt
  first_gone (Some s) = by (place_of cells s) (still_gone removed 0 cells s)
    where
      by : (o : Option ℕ) → is_gone_cell left s ≡ (is_gone_cell cells s || unwrap_or (option_map (λ p. removed (0 + p)) o) false)
          → IfSome o (λ n. (is_gone_cell cells s ≡ true → is_gone_cell left s ≡ true) × (is_gone_cell cells s ≡ false → n < (stretch_of cells limits).begin → is_gone_cell left s ≡ false))
      by None e = tt
      by (Some n) e =
          let same : 0 + n ≡ n = omega arith in (
            λ g. e ∙ ap (λ b. b || removed (0 + n)) g,
            λ g l. e ∙ ap (λ b. b || removed (0 + n)) g ∙ ap removed same ∙ are.before n l,
          )

  last_is : last_line left limits ≡ newlines (take (place_left removed (line_end text (last_line cells limits))) (text_of left)) + 1
  last_is =
      last_by left limits ∙ ap (last_at (text_of left)) (limit_gone removed cells limits.end)
      ∙ last_left removed text (text_of left) (first_line cells limits) (last_line cells limits) inside (option_and_then (place_of cells) limits.end) (last_by cells limits)

  first_is : first_line left limits ≡ first_line cells limits
  first_is =
      (λ i. min (start_by left limits.start i) (last_is i))
      ∙ ap (λ o. min (start_at (text_of left) o (gone_by left limits.start)) (newlines (take (place_left removed (line_end text (last_line cells limits))) (text_of left)) + 1)) (limit_gone removed cells limits.start)
      ∙ first_left removed text (text_of left) (first_line cells limits) (last_line cells limits) inside (option_and_then (place_of cells) limits.start) (gone_by cells limits.start) (gone_by left limits.start)
      (first_gone limits.start) (λ i. min (start_by cells limits.start i) (last_line cells limits))

  -- it begins where it did, and ends with the same newline
  pub stretch_gone : stretch_of (gone_at removed 0 cells) limits ≡ record { begin = (stretch_of cells limits).begin; end = place_left removed ((stretch_of cells limits).end - 1) + 1 }
  stretch_gone =
      let end : line_end text (last_line cells limits) ≡ (stretch_of cells limits).end - 1 = omega arith in
      let begins : line_start (text_of left) (first_line left limits) ≡ (stretch_of cells limits).begin =
      ap (line_start (text_of left)) first_is ∙ begin_left removed text (text_of left) (first_line cells limits) (last_line cells limits) inside in
      let stops : line_end (text_of left) (last_line left limits) + 1 ≡ place_left removed ((stretch_of cells limits).end - 1) + 1 =
      ap (λ n. line_end (text_of left) n + 1) last_is ∙ end_left removed text (text_of left) (first_line cells limits) (last_line cells limits) inside ∙ ap (λ n. place_left removed n + 1) end in
      λ i. record { begin = begins i; end = stops i }
