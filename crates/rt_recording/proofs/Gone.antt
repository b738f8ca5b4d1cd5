-- Characters that are gone stay so, and visible ones aren't.
use Rattle.std.proofs.Common.{◌≡◌, ◌∙◌, ℕ, ◌+◌, ◌||◌, Bool, true, false, not, List, [], ◌∷◌, ◌++◌, Option, Some, None, cond, drop, take, take-append-drop, append_assoc, ap, refl, sym}
use Rattle.std.specs.Prelude.{option_and_then, option_map, unwrap_or}
use Rattle.std.specs.List.{AllByRecursion}
use Rattle.std.proofs.lemmas.Bool.{cond-false, cond-true, or_left, or_right}
use Rattle.rt_stamps.specs.declared.stamp.Stamp.{Stamp}
use Rattle.rt_stamps.specs.Stamps.{is_same}
use Rattle.rt_stamps.proofs.Order.{same_refl}
use Rattle.rt_store.specs.Cells.{AreDistinct, after_element, cell_of, stamps_of, visible_of}
use Rattle.rt_store.specs.Shown.{TaggedCell}
use Rattle.rt_store.specs.Spans.{is_among}
use Rattle.rt_store.proofs.Distinct.{differs, first_apart, others_distinct, split}
use Rattle.rt_plans.specs.DocValue.{put_after}
use Rattle.rt_plans.specs.Removals.{gone_at}
use Rattle.rt_revert.specs.Reverting.{gone_cell_of}
use Rattle.rt_recording.specs.Settled.{is_gone_cell}

-- the first cell of a stamp tells
pub gone_cons : (c : TaggedCell) (cs : List TaggedCell) (s : Stamp) → is_gone_cell (c ∷ cs) s ≡ cond (is_same c.stamp s) c.gone (is_gone_cell cs s)
gone_cons c cs s = by (is_same c.stamp s)
  where
    by : (b : Bool) → unwrap_or (option_map (λ (cell : TaggedCell). cell.gone) (cond b (Some c) (cell_of cs s))) false ≡ cond b c.gone (is_gone_cell cs s)
    by true = refl
    by false = refl

-- a gone cell that is found tells so
pub found_gone : (cells : List TaggedCell) (s : Stamp) (cell : TaggedCell) → gone_cell_of cells s ≡ Some cell → is_gone_cell cells s ≡ true
found_gone cells s cell h = by (cell_of cells s) h
  where
    this : (c : TaggedCell) (g : Bool) → c.gone ≡ g → cond g (Some c) None ≡ Some cell → c.gone ≡ true
    this c true e k = e
    this c false e k = absurd (cc)

    by : (o : Option TaggedCell) → option_and_then (λ (c : TaggedCell). cond c.gone (Some c) None) o ≡ Some cell → unwrap_or (option_map (λ (c : TaggedCell). c.gone) o) false ≡ true
    by None k = absurd (cc)
    by (Some c) k = this c c.gone refl k

-- who is gone has a cell
pub gone_known : (cells : List TaggedCell) (s : Stamp) → is_gone_cell cells s ≡ true → is_among (stamps_of cells) s ≡ true
gone_known [] s h = absurd (cc h)
gone_known (c ∷ cs) s h = by (is_same c.stamp s) (sym (gone_cons c cs s) ∙ h) (gone_known cs s)
  where
    by : (b : Bool) → cond b c.gone (is_gone_cell cs s) ≡ true → (is_gone_cell cs s ≡ true → is_among (stamps_of cs) s ≡ true) → (b || is_among (stamps_of cs) s) ≡ true
    by true e rest = refl
    by false e rest = rest e

visible_cons : (c : TaggedCell) (cs : List TaggedCell) (s : Stamp) (g : Bool) → c.gone ≡ g
    → is_among (stamps_of (visible_of (c ∷ cs))) s ≡ cond g (is_among (stamps_of (visible_of cs)) s) (is_same c.stamp s || is_among (stamps_of (visible_of cs)) s)
visible_cons c cs s g e = ap (λ b. is_among (stamps_of (cond (not b) (c ∷ visible_of cs) (visible_of cs))) s) e ∙ by g
  where
    by : (b : Bool) → is_among (stamps_of (cond (not b) (c ∷ visible_of cs) (visible_of cs))) s
        ≡ cond b (is_among (stamps_of (visible_of cs)) s) (is_same c.stamp s || is_among (stamps_of (visible_of cs)) s)
    by true = refl
    by false = refl

or_parts_true : (a b : Bool) → a ≡ false → (a || b) ≡ true → b ≡ true
or_parts_true true b e f = absurd (cc e)
or_parts_true false b e f = f

visible_known : (cells : List TaggedCell) (s : Stamp) → is_among (stamps_of (visible_of cells)) s ≡ true → is_among (stamps_of cells) s ≡ true
visible_known [] s h = h
visible_known (c ∷ cs) s h = split (is_same c.stamp s)
    (λ e. or_left (is_same c.stamp s) _ e)
    (λ e. or_right (is_same c.stamp s) _ (visible_known cs s (split c.gone
    (λ g. sym (visible_cons c cs s true g) ∙ h)
    (λ g. or_parts_true (is_same c.stamp s) _ e (sym (visible_cons c cs s false g) ∙ h)))))

-- a visible character isn't gone
pub visible_stays : (cells : List TaggedCell) (s : Stamp) → AreDistinct cells → is_among (stamps_of (visible_of cells)) s ≡ true → is_gone_cell cells s ≡ false
visible_stays [] s d h = absurd (cc h)
visible_stays (c ∷ cs) s d h =
    let rest = others_distinct c.stamp (stamps_of cs) d in
    let first = first_apart c.stamp (stamps_of cs) d in
    split c.gone
    (λ g. let there = sym (visible_cons c cs s true g) ∙ h in
    gone_cons c cs s
    ∙ cond-false (is_same c.stamp s) c.gone (is_gone_cell cs s) (differs c.stamp s (stamps_of cs) first (visible_known cs s there))
    ∙ visible_stays cs s rest there)
    (λ g. split (is_same c.stamp s)
    (λ e. gone_cons c cs s ∙ cond-true (is_same c.stamp s) c.gone (is_gone_cell cs s) e ∙ g)
    (λ e. gone_cons c cs s
    ∙ cond-false (is_same c.stamp s) c.gone (is_gone_cell cs s) e
    ∙ visible_stays cs s rest (or_parts_true (is_same c.stamp s) _ e (sym (visible_cons c cs s false g) ∙ h))))

-- CHARACTERS THAT GO

here_or_later : (b g x y : Bool) → cond b g x ≡ true → (x ≡ true → y ≡ true) → cond b g y ≡ true
here_or_later true g x y h f = h
here_or_later false g x y h f = f h

later : (b g x y : Bool) → cond b false x ≡ true → (x ≡ true → y ≡ true) → cond b g y ≡ true
later true g x y h f = absurd (cc h)
later false g x y h f = f h

-- who is gone stays so where others go
pub gone_still : (places : ℕ → Bool) (p : ℕ) (cells : List TaggedCell) (s : Stamp) → is_gone_cell cells s ≡ true → is_gone_cell (gone_at places p cells) s ≡ true
gone_still places p [] s h = h
gone_still places p (c ∷ cs) s h =
    let told : cond (is_same c.stamp s) c.gone (is_gone_cell cs s) ≡ true = sym (gone_cons c cs s) ∙ h in
    let same = c ∷ gone_at places p cs in
    let left : TaggedCell = record c { gone = places p } in
    let other = left ∷ gone_at places (p + 1) cs in
    split c.gone
    (λ g. ap (λ l. is_gone_cell l s) (cond-true c.gone same other g)
    ∙ gone_cons c (gone_at places p cs) s
    ∙ here_or_later (is_same c.stamp s) c.gone (is_gone_cell cs s) (is_gone_cell (gone_at places p cs) s) told (gone_still places p cs s))
    (λ g. ap (λ l. is_gone_cell l s) (cond-false c.gone same other g)
    ∙ gone_cons left (gone_at places (p + 1) cs) s
    ∙ later (is_same c.stamp s) (places p) (is_gone_cell cs s) (is_gone_cell (gone_at places (p + 1) cs) s)
    (ap (λ b. cond (is_same c.stamp s) b (is_gone_cell cs s)) (sym g) ∙ told) (gone_still places (p + 1) cs s))

-- A NEW CELL

put_between : (pre post : List TaggedCell) (x : TaggedCell) (s : Stamp) → is_same x.stamp s ≡ false → is_gone_cell (pre ++ x ∷ post) s ≡ is_gone_cell (pre ++ post) s
put_between [] post x s e = gone_cons x post s ∙ cond-false (is_same x.stamp s) x.gone (is_gone_cell post s) e
put_between (p ∷ pre) post x s e =
    gone_cons p (pre ++ x ∷ post) s ∙ ap (cond (is_same p.stamp s) p.gone) (put_between pre post x s e) ∙ sym (gone_cons p (pre ++ post) s)

-- another character is gone just where it was
pub gone_put : (cells : List TaggedCell) (left : Stamp) (x : TaggedCell) (s : Stamp) → is_same x.stamp s ≡ false
    → is_gone_cell (put_after cells left (x ∷ [])) s ≡ is_gone_cell cells s
gone_put cells left x s e =
    let at = after_element cells left in
    ap (λ l. is_gone_cell l s) (append_assoc (take at cells) (x ∷ []) (drop at cells))
    ∙ put_between (take at cells) (drop at cells) x s e
    ∙ ap (λ l. is_gone_cell l s) (take-append-drop at cells)

-- EACH OF SOME CELLS

-- what holds of each stamp among those of cells holds of each cell's
pub each_among : (P : Stamp → Type 0) (cells : List TaggedCell) → ((s : Stamp) → is_among (stamps_of cells) s ≡ true → P s) → AllByRecursion (λ (c : TaggedCell). P c.stamp) cells
each_among P [] h = tt
each_among P (c ∷ cs) h =
    (h c.stamp (or_left (is_same c.stamp c.stamp) _ (same_refl c.stamp)), each_among P cs (λ s k. h s (or_right (is_same c.stamp s) _ k)))
