-- Cells made gone by their stamps are those at the places.
use Rattle.std.proofs.Common.{◌≡◌, ℕ, ◌+◌, ◌≤◌, List, [], ◌∷◌, Bool, true, false, cond, not, ◌||◌, length, map, refl, sym, ◌∙◌, ap, arith}
use native.Mathlib.Numerals.{unary_clauses}
use Rattle.std.proofs.lemmas.Bool.{or_left, or_right, cond-true, cond-false}
use Rattle.rt_stamps.specs.declared.stamp.Span.{Span}
use Rattle.rt_stamps.specs.declared.stamp.Stamp.{Stamp}
use Rattle.rt_stamps.specs.Stamps.{is_same}
use Rattle.rt_stamps.proofs.Order.{same_refl}
use Rattle.rt_store.specs.declared.cell.Cell.{Cell}
use Rattle.rt_store.specs.Cells.{EndsFinal, visible_of, stamps_of, AreDistinct}
use Rattle.rt_plans.specs.Removals.{stamps_at, gone_at}
use Rattle.rt_plans.proofs.CellLaws.{final_parts}
use Rattle.rt_store.specs.Spans.{is_among, is_in_spans, gone_in_any}
use Rattle.rt_plans.proofs.DistinctLaws.{stamps_within}
use Rattle.rt_store.proofs.Distinct.{split, first_apart, others_distinct, differs}

-- a cell whose stamp passes a test is gone
abbrev pub gone_by : {T : Type 0} → (Stamp → Bool) → Cell T → Cell T
gone_by test cell = cond (test cell.stamp) (record cell { gone = true }) cell

-- of the stamps of cells, a test finds those at the places
abbrev pub Finds : {T : Type 0} → (Stamp → Bool) → (ℕ → Bool) → ℕ → List (Cell T) → Type 0
Finds test r p cells = (s : Stamp) → is_among (stamps_of cells) s ≡ true → test s ≡ is_among (stamps_at r p cells) s

stays_gone : {T : Type 0} (b : Bool) (cell : Cell T) → cell.gone ≡ true → cond b (record cell { gone = true }) cell ≡ cell
stays_gone true cell e = λ i. record cell { gone = sym e i }
stays_gone false cell e = refl

marked_gone : {T : Type 0} (test : Stamp → Bool) (r : ℕ → Bool) (p : ℕ) (c : Cell T) (cs : List (Cell T)) → c.gone ≡ true → Finds test r p (c ∷ cs)
    → (Finds test r p cs → map (gone_by test) cs ≡ gone_at r p cs) → map (gone_by test) (c ∷ cs) ≡ gone_at r p (c ∷ cs)
marked_gone test r p c cs e h ih =
    let at : stamps_at r p (c ∷ cs) ≡ stamps_at r p cs = cond-true c.gone _ _ e in
    let rest : map (gone_by test) cs ≡ gone_at r p cs = ih (λ s k. h s (or_right (is_same c.stamp s) _ k) ∙ ap (λ l. is_among l s) at) in
    let all : gone_at r p (c ∷ cs) ≡ c ∷ gone_at r p cs = cond-true c.gone _ _ e in
    (λ i. stays_gone (test c.stamp) c e i ∷ rest i) ∙ sym all

marked_taken : {T : Type 0} (test : Stamp → Bool) (r : ℕ → Bool) (p : ℕ) (c : Cell T) (cs : List (Cell T)) → c.gone ≡ false → r p ≡ true → is_among (stamps_of cs) c.stamp ≡ false → Finds test r p (c ∷ cs)
    → (Finds test r (p + 1) cs → map (gone_by test) cs ≡ gone_at r (p + 1) cs) → map (gone_by test) (c ∷ cs) ≡ gone_at r p (c ∷ cs)
marked_taken test r p c cs e f new h ih =
    let at : stamps_at r p (c ∷ cs) ≡ c.stamp ∷ stamps_at r (p + 1) cs = cond-false c.gone _ _ e ∙ cond-true (r p) _ _ f in
    let found : test c.stamp ≡ true = h c.stamp (or_left (is_same c.stamp c.stamp) _ (same_refl c.stamp)) ∙ ap (λ l. is_among l c.stamp) at ∙ or_left (is_same c.stamp c.stamp) _ (same_refl c.stamp) in
    let first : gone_by test c ≡ record c { gone = r p } = cond-true (test c.stamp) _ _ found ∙ (λ i. record c { gone = sym f i }) in
    let rest : map (gone_by test) cs ≡ gone_at r (p + 1) cs =
    ih (λ s k. h s (or_right (is_same c.stamp s) _ k) ∙ ap (λ l. is_among l s) at ∙ ap (λ b. b || is_among (stamps_at r (p + 1) cs) s) (differs c.stamp s (stamps_of cs) new k)) in
    let all : gone_at r p (c ∷ cs) ≡ record c { gone = r p } ∷ gone_at r (p + 1) cs = cond-false c.gone _ _ e in
    (λ i. first i ∷ rest i) ∙ sym all

marked_left : {T : Type 0} (test : Stamp → Bool) (r : ℕ → Bool) (p : ℕ) (c : Cell T) (cs : List (Cell T)) → c.gone ≡ false → r p ≡ false → is_among (stamps_of cs) c.stamp ≡ false → Finds test r p (c ∷ cs)
    → (Finds test r (p + 1) cs → map (gone_by test) cs ≡ gone_at r (p + 1) cs) → map (gone_by test) (c ∷ cs) ≡ gone_at r p (c ∷ cs)
marked_left test r p c cs e f new h ih =
    let at : stamps_at r p (c ∷ cs) ≡ stamps_at r (p + 1) cs = cond-false c.gone _ _ e ∙ cond-false (r p) _ _ f in
    let found : test c.stamp ≡ false = h c.stamp (or_left (is_same c.stamp c.stamp) _ (same_refl c.stamp)) ∙ ap (λ l. is_among l c.stamp) at ∙ stamps_within r (p + 1) cs c.stamp new in
    let same : c.gone ≡ r p = e ∙ sym f in
    let first : gone_by test c ≡ record c { gone = r p } = cond-false (test c.stamp) _ _ found ∙ (λ i. record c { gone = same i }) in
    let rest : map (gone_by test) cs ≡ gone_at r (p + 1) cs = ih (λ s k. h s (or_right (is_same c.stamp s) _ k) ∙ ap (λ l. is_among l s) at) in
    let all : gone_at r p (c ∷ cs) ≡ record c { gone = r p } ∷ gone_at r (p + 1) cs = cond-false c.gone _ _ e in
    (λ i. first i ∷ rest i) ∙ sym all

marked : {T : Type 0} (test : Stamp → Bool) (r : ℕ → Bool) (p : ℕ) (cells : List (Cell T)) → AreDistinct cells → Finds test r p cells → map (gone_by test) cells ≡ gone_at r p cells
marked test r p [] d h = refl
marked test r p (c ∷ cs) d h =
    let new = first_apart c.stamp (stamps_of cs) d in
    let rest = others_distinct c.stamp (stamps_of cs) d in
    split c.gone
    (λ e. marked_gone test r p c cs e h (λ k. marked test r p cs rest k))
    (λ e. split (r p)
    (λ f. marked_taken test r p c cs e f new h (λ k. marked test r (p + 1) cs rest k))
    (λ f. marked_left test r p c cs e f new h (λ k. marked test r (p + 1) cs rest k)))

-- where spans hold the stamps at the places, their cells are gone and no others
pub gone_from_spans : {T : Type 0} (r : ℕ → Bool) (cells : List (Cell T)) (spans : List Span) → AreDistinct cells
    → ((s : Stamp) → is_in_spans spans s ≡ is_among (stamps_at r 0 cells) s) → map (gone_in_any spans) cells ≡ gone_at r 0 cells
gone_from_spans r cells spans d h = marked (is_in_spans spans) r 0 cells d (λ s k. h s)

-- THE LAST NEWLINE

last_tail : (x y : Cell ℕ) (xs : List (Cell ℕ)) → EndsFinal (x ∷ y ∷ xs) → EndsFinal (y ∷ xs)
last_tail x y xs h = simp unary_clauses (simp unary_clauses at h)

some_step : {T : Type 0} (b : Bool) (x : Cell T) (xs : List (Cell T)) → 1 ≤ length xs → 1 ≤ length (cond (not b) (x ∷ xs) xs)
some_step true x xs h = h
some_step false x xs h = omega arith

pub some_visible : (cells : List (Cell ℕ)) → EndsFinal cells → 1 ≤ length (visible_of cells)
some_visible [] h = let bad : ⊥ = cc in absurd bad
some_visible (x ∷ []) h = let parts = final_parts x h in rw parts.2 (omega arith)
some_visible (x ∷ y ∷ xs) h = some_step x.gone x (visible_of (y ∷ xs)) (some_visible (y ∷ xs) (last_tail x y xs h))
