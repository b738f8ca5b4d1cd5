-- What is on after a tag was written, and what stays.
use Rattle.std.proofs.Common.{◌≡◌, ℕ, ◌+◌, List, [], ◌∷◌, Bool, true, false, cond, not, ◌||◌, All, map, filter, refl, sym, ◌∙◌, ap, subst, arith}
use Rattle.std.specs.Str.{bytes_eq}
use Rattle.std.proofs.lemmas.Bool.{or_left, or_right, both_ways, cond-true, cond-false}
use Rattle.std.proofs.lemmas.List.Elements.{All-head, All-tail, All-cons, All-nil}
use Rattle.rt_stamps.specs.declared.stamp.Stamp.{Stamp}
use Rattle.rt_stamps.specs.Stamps.{is_same}
use Rattle.rt_stamps.specs.Words.{Word}
use Rattle.rt_stamps.proofs.Order.{same_refl}
use Rattle.rt_store.specs.Cells.{AreDistinct, stamps_of, with_state}
use Rattle.rt_store.specs.Shown.{TaggedCell}
use Rattle.rt_store.specs.Spans.{is_among}
use Rattle.rt_store.specs.Written.{AreWritten, IsWritten}
use Rattle.rt_store.proofs.Distinct.{differs, first_apart, others_distinct, split}
use Rattle.rt_tags.specs.States.{is_on, write_of, written}
use Rattle.rt_tags.proofs.Greatest.{write_of_written}
use Rattle.rt_plans.specs.DocValue.{DocValue}
use Rattle.rt_plans.specs.Removals.{cells_at, stamps_at}
use Rattle.rt_plans.specs.TagWrites.{AreTagged, cells_beside, cells_but, changed_stamps, is_changed, tag_write, cell_with_tag, with_tag_at, last_writes}
use Rattle.rt_plans.proofs.DistinctLaws.{stamps_within}
use Rattle.rt_plans.proofs.ListedWrites.{changed_among}
use Rattle.rt_plans.proofs.Putting.{cells_at_changed, stamps_at_cells, tagged_state}
use Rattle.rt_plans.proofs.StateChanges.{ChangesState}
use Rattle.rt_plans.proofs.WriterLaws.{all_map, written_as}

-- STAMPS

module _ (site count : ℕ) (name : Word) (on : Bool) (stamps : List Stamp) where
  pub stamp_kept : (cell : TaggedCell) → (cell_with_tag site count name on stamps cell).stamp ≡ cell.stamp
  stamp_kept cell = ap (λ (c : TaggedCell). c.stamp) (tagged_state site count name on stamps cell)

  here : (cell : TaggedCell) → is_among stamps cell.stamp ≡ true → cell_with_tag site count name on stamps cell ≡ with_state (written (tag_write site count name on stamps cell.stamp) cell.state) cell
  here cell t = cond-true (is_among stamps cell.stamp) (with_state (written (tag_write site count name on stamps cell.stamp) cell.state) cell) cell t

  pub elsewhere : (cell : TaggedCell) → is_among stamps cell.stamp ≡ false → cell_with_tag site count name on stamps cell ≡ cell
  elsewhere cell f = cond-false (is_among stamps cell.stamp) (with_state (written (tag_write site count name on stamps cell.stamp) cell.state) cell) cell f

  pub says : (cell : TaggedCell) → IsWritten count cell.state → is_among stamps cell.stamp ≡ true → is_on name (cell_with_tag site count name on stamps cell).state ≡ on
  says cell known t = ap (λ (c : TaggedCell). is_on name c.state) (here cell t) ∙ written_as count (tag_write site count name on stamps cell.stamp) cell.state known (omega arith)

  -- on, or off, at each of the stamps
  pub named_as_asked : (cells : List TaggedCell) → AreWritten count cells → AreTagged name on stamps (map (cell_with_tag site count name on stamps) cells)
  named_as_asked cells h =
      all_map (λ c. IsWritten count c.state) (λ c. is_among stamps c.stamp ≡ true → is_on name c.state ≡ on) (cell_with_tag site count name on stamps)
      (λ c p t. says c p (ap (is_among stamps) (sym (stamp_kept c)) ∙ t)) cells h

  -- other cells
  pub others_stay : (cells : List TaggedCell) → cells_but stamps (map (cell_with_tag site count name on stamps) cells) ≡ cells_but stamps cells
  others_stay [] = refl
  others_stay (c ∷ cs) =
      split (is_among stamps c.stamp)
      (λ t. (λ i. cond (not (is_among stamps (stamp_kept c i))) (cell_with_tag site count name on stamps c ∷ cells_but stamps (map (cell_with_tag site count name on stamps) cs)) (cells_but stamps (map (cell_with_tag site count name on stamps) cs)))
      ∙ cond-false (not (is_among stamps c.stamp)) _ _ (ap not t) ∙ others_stay cs ∙ sym (cond-false (not (is_among stamps c.stamp)) _ _ (ap not t)))
      (λ f. λ i. cond (not (is_among stamps (elsewhere c f i).stamp)) (elsewhere c f i ∷ others_stay cs i) (others_stay cs i))

  -- other tags
  pub other_tag : (other : Word) → bytes_eq other name ≡ false → (cell : TaggedCell) → write_of other (cell_with_tag site count name on stamps cell).state ≡ write_of other cell.state
  other_tag other e cell =
      split (is_among stamps cell.stamp)
      (λ t. ap (λ (c : TaggedCell). write_of other c.state) (here cell t) ∙ write_of_written other (tag_write site count name on stamps cell.stamp) cell.state ∙ cond-false (bytes_eq other name) _ _ e)
      (λ f. ap (λ (c : TaggedCell). write_of other c.state) (elsewhere cell f))

  pub other_tags_stay : (other : Word) → bytes_eq other name ≡ false → (cells : List TaggedCell) → last_writes other (map (cell_with_tag site count name on stamps) cells) ≡ last_writes other cells
  other_tags_stay other e [] = refl
  other_tags_stay other e (c ∷ cs) = λ i. other_tag other e c i ∷ other_tags_stay other e cs i

  -- what else a cell has
  pub rest_stays : (cells : List TaggedCell) → map (with_state []) (map (cell_with_tag site count name on stamps) cells) ≡ map (with_state []) cells
  rest_stays [] = refl
  rest_stays (c ∷ cs) = λ i. with_state [] (tagged_state site count name on stamps c i) ∷ rest_stays cs i

-- PLACES

all_at : (P : TaggedCell → Type 0) (r : ℕ → Bool) (k : ℕ) (cells : List TaggedCell) → All P cells → All P (cells_at r k cells)
all_at P r k [] h = All-nil P
all_at P r k (c ∷ cs) h = by c.gone (r k) (all_at P r k cs (All-tail P c cs h)) (all_at P r (k + 1) cs (All-tail P c cs h))
  where
    by : (b d : Bool) → All P (cells_at r k cs) → All P (cells_at r (k + 1) cs) → All P (cond b (cells_at r k cs) (cond d (c ∷ cells_at r (k + 1) cs) (cells_at r (k + 1) cs)))
    by true d x y = x
    by false true x y = All-cons P c (cells_at r (k + 1) cs) (All-head P c cs h) y
    by false false x y = y

settled : (on b : Bool) → cond on (not b) b ≡ false → b ≡ on
settled true true h = refl
settled true false h = sym h
settled false b h = h

-- on, or off, at each of the places
pub placed_as_asked : (doc : DocValue) (places : ℕ → Bool) (on : Bool) (name : Word) → AreWritten doc.count doc.cells → All (λ c. is_on name c.state ≡ on) (cells_at places 0 (with_tag_at doc places on name).cells)
placed_as_asked doc places on name known =
    let chosen : List TaggedCell = cells_at places 0 doc.cells in
    let stamps = changed_stamps name on chosen in
    let g : TaggedCell → TaggedCell = cell_with_tag doc.site doc.count name on stamps in
    let P : TaggedCell → Type 0 = λ c. IsWritten doc.count c.state × (is_changed name on c ≡ true → is_among stamps c.stamp ≡ true) in
    let each : All (λ (c : TaggedCell). IsWritten doc.count c.state) chosen = all_at (λ c. IsWritten doc.count c.state) places 0 doc.cells known in
    subst (All (λ (c : TaggedCell). is_on name c.state ≡ on)) (sym (cells_at_changed g (tagged_state doc.site doc.count name on stamps) places 0 doc.cells))
    (all_map P (λ c. is_on name c.state ≡ on) g
    (λ cell p. split (is_among stamps cell.stamp)
    (λ t. says doc.site doc.count name on stamps cell p.0 t)
    (λ f. ap (λ (c : TaggedCell). is_on name c.state) (elsewhere doc.site doc.count name on stamps cell f)
    ∙ settled on (is_on name cell.state) (split (is_changed name on cell) (λ e. absurd (both_ways (is_among stamps cell.stamp) f (p.1 e))) (λ e. e))))
    chosen (λ k d lt. (each k d lt, changed_among name on chosen k d lt)))

-- THE OTHER CELLS

-- a test finds stamps at the places alone
abbrev pub FindsAt : (Stamp → Bool) → (ℕ → Bool) → ℕ → List TaggedCell → Type 0
FindsAt test r k cells = (s : Stamp) → is_among (stamps_of cells) s ≡ true → test s ≡ true → is_among (stamps_at r k cells) s ≡ true

module _ (test : Stamp → Bool) (g : TaggedCell → TaggedCell) (h : ChangesState g) (same : (c : TaggedCell) → test c.stamp ≡ false → g c ≡ c) (r : ℕ → Bool) where
  not_found : (c : TaggedCell) (k : ℕ) (cs : List TaggedCell) → is_among (stamps_of cs) c.stamp ≡ false → (test c.stamp ≡ true → is_among (stamps_at r k cs) c.stamp ≡ true) → test c.stamp ≡ false
  not_found c k cs new w = split (test c.stamp) (λ t. absurd (both_ways (is_among (stamps_at r k cs) c.stamp) (stamps_within r k cs c.stamp new) (w t))) (λ f. f)

  pub beside_stay : (k : ℕ) (cells : List TaggedCell) → AreDistinct cells → FindsAt test r k cells → cells_beside r k (map g cells) ≡ cells_beside r k cells
  beside_stay k [] d w = refl
  beside_stay k (c ∷ cs) d w =
      let new = first_apart c.stamp (stamps_of cs) d in
      let rest = others_distinct c.stamp (stamps_of cs) d in
      let itself : is_among (stamps_of (c ∷ cs)) c.stamp ≡ true = or_left (is_same c.stamp c.stamp) _ (same_refl c.stamp) in
      split c.gone
      (λ e. let at : stamps_at r k (c ∷ cs) ≡ stamps_at r k cs = cond-true c.gone _ _ e in
      let off = not_found c k cs new (λ t. ap (λ l. is_among l c.stamp) (sym at) ∙ w c.stamp itself t) in
      let ih = beside_stay k cs rest (λ s m t. ap (λ l. is_among l s) (sym at) ∙ w s (or_right (is_same c.stamp s) _ m) t) in
      (λ i. cells_beside r k (same c off i ∷ map g cs)) ∙ cond-true c.gone _ _ e ∙ ap (λ l. c ∷ l) ih ∙ sym (cond-true c.gone _ _ e))
      (λ e. split (r k)
      (λ f. let at : stamps_at r k (c ∷ cs) ≡ c.stamp ∷ stamps_at r (k + 1) cs = cond-false c.gone _ _ e ∙ cond-true (r k) _ _ f in
      let ih = beside_stay (k + 1) cs rest
      (λ s m t. ap (λ b. b || is_among (stamps_at r (k + 1) cs) s) (sym (differs c.stamp s (stamps_of cs) new m)) ∙ ap (λ l. is_among l s) (sym at) ∙ w s (or_right (is_same c.stamp s) _ m) t) in
      (λ i. cond (h c i).gone (g c ∷ cells_beside r k (map g cs)) (cond (r k) (cells_beside r (k + 1) (map g cs)) (g c ∷ cells_beside r (k + 1) (map g cs))))
      ∙ cond-false c.gone _ _ e ∙ cond-true (r k) _ _ f ∙ ih ∙ sym (cond-false c.gone _ _ e ∙ cond-true (r k) _ _ f))
      (λ f. let at : stamps_at r k (c ∷ cs) ≡ stamps_at r (k + 1) cs = cond-false c.gone _ _ e ∙ cond-false (r k) _ _ f in
      let off = not_found c (k + 1) cs new (λ t. ap (λ l. is_among l c.stamp) (sym at) ∙ w c.stamp itself t) in
      let ih = beside_stay (k + 1) cs rest (λ s m t. ap (λ l. is_among l s) (sym at) ∙ w s (or_right (is_same c.stamp s) _ m) t) in
      (λ i. cells_beside r k (same c off i ∷ map g cs)) ∙ cond-false c.gone _ _ e ∙ cond-false (r k) _ _ f ∙ ap (λ l. c ∷ l) ih ∙ sym (cond-false c.gone _ _ e ∙ cond-false (r k) _ _ f)))

some_step : (b : Bool) (c : TaggedCell) (cs some : List TaggedCell) (s : Stamp) → (is_among (stamps_of some) s ≡ true → is_among (stamps_of cs) s ≡ true) → is_among (stamps_of (cond b (c ∷ some) some)) s ≡ true
    → is_among (stamps_of (c ∷ cs)) s ≡ true
some_step true c cs some s ih e = split (is_same c.stamp s) (λ t. or_left (is_same c.stamp s) _ t) (λ f. or_right (is_same c.stamp s) _ (ih (ap (λ b. b || is_among (stamps_of some) s) (sym f) ∙ e)))
some_step false c cs some s ih e = or_right (is_same c.stamp s) _ (ih e)

-- stamps of some cells are stamps of all
pub some_among : (test : TaggedCell → Bool) (cells : List TaggedCell) (s : Stamp) → is_among (stamps_of (filter test cells)) s ≡ true → is_among (stamps_of cells) s ≡ true
some_among test [] s h = h
some_among test (c ∷ cs) s h = some_step (test c) c cs (filter test cs) s (some_among test cs s) h

pub others_stay_at : (doc : DocValue) (places : ℕ → Bool) (on : Bool) (name : Word) → AreDistinct doc.cells → cells_beside places 0 (with_tag_at doc places on name).cells ≡ cells_beside places 0 doc.cells
others_stay_at doc places on name d =
    let chosen : List TaggedCell = cells_at places 0 doc.cells in
    let stamps = changed_stamps name on chosen in
    beside_stay (is_among stamps) (cell_with_tag doc.site doc.count name on stamps) (tagged_state doc.site doc.count name on stamps) (elsewhere doc.site doc.count name on stamps) places 0 doc.cells d
    (λ s m t. ap (λ l. is_among l s) (sym (stamps_at_cells places 0 doc.cells)) ∙ some_among (is_changed name on) chosen s t)
