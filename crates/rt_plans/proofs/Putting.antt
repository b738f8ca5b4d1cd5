-- A working copy put back: the document is as its definition says.
use Rattle.std.proofs.Common.{◌≡◌, ℕ, zero, suc, ◌+◌, ◌<◌, ◌≤◌, ◌⊎◌, inl, inr, List, [], ◌∷◌, Bool, true, false, cond, All, length, map, get_or, refl, sym, ◌∙◌, ap, subst, arith}
use Rattle.std.specs.List.{IsDistinct}
use Rattle.std.proofs.lemmas.Bool.{both_ways, cases_lt}
use Rattle.std.proofs.lemmas.List.{get_or-map, length-map}
use Rattle.std.proofs.lemmas.List.Elements.{All-head, All-tail, All-cons, All-nil}
use Rattle.std.proofs.lemmas.Map.Keys.{apart_from_distinct}
use Rattle.rt_stamps.specs.declared.stamp.Stamp.{Stamp}
use Rattle.rt_stamps.specs.Stamps.{is_same}
use Rattle.rt_stamps.specs.Words.{Word}
use Rattle.rt_stamps.proofs.Order.{same_sym}
use Rattle.rt_store.specs.declared.cell.Cell.{Cell}
use Rattle.rt_store.specs.Cells.{with_state, stamps_of, AreDistinct}
use Rattle.rt_tags.specs.States.{Write, written}
use Rattle.rt_store.specs.Shown.{TaggedCell}
use Rattle.rt_plans.specs.Removals.{cells_at, stamps_at}
use Rattle.rt_store.specs.Spans.{is_among}
use Rattle.rt_plans.specs.TagWrites.{tag_write, cell_with_tag}
use Rattle.rt_plans.proofs.DistinctLaws.{distinct_at}
use Rattle.rt_plans.proofs.StateChanges.{ChangesState}

-- CHANGES OF STATES

state_step : (b : Bool) (s : List Write) (cell : TaggedCell) → cond b (with_state s cell) cell ≡ with_state (cond b (with_state s cell) cell).state cell
state_step true s cell = refl
state_step false s cell = refl

pub tagged_state : (site count : ℕ) (name : Word) (on : Bool) (stamps : List Stamp) → ChangesState (cell_with_tag site count name on stamps)
tagged_state site count name on stamps cell = state_step (is_among stamps cell.stamp) (written (tag_write site count name on stamps cell.stamp) cell.state) cell

at_step : (g : TaggedCell → TaggedCell) (cell : TaggedCell) (here next before behind : List TaggedCell) (b d : Bool) → here ≡ map g before → next ≡ map g behind
    → cond b here (cond d (g cell ∷ next) next) ≡ map g (cond b before (cond d (cell ∷ behind) behind))
at_step g cell here next before behind true d h k = h
at_step g cell here next before behind false true h k = ap (λ l. g cell ∷ l) k
at_step g cell here next before behind false false h k = k

-- the cells at places, changed
pub cells_at_changed : (g : TaggedCell → TaggedCell) → ChangesState g → (places : ℕ → Bool) (k : ℕ) (cells : List TaggedCell) → cells_at places k (map g cells) ≡ map g (cells_at places k cells)
cells_at_changed g h places k [] = refl
cells_at_changed g h places k (c ∷ cs) =
    let here : List TaggedCell = cells_at places k (map g cs) in
    let next : List TaggedCell = cells_at places (k + 1) (map g cs) in
    (λ i. cond (h c i).gone here (cond (places k) (g c ∷ next) next))
    ∙ at_step g c here next (cells_at places k cs) (cells_at places (k + 1) cs) c.gone (places k) (cells_at_changed g h places k cs) (cells_at_changed g h places (k + 1) cs)

-- of the cells of one list one stamp is on one cell
same_cell : {T : Type 0} (cells : List (Cell T)) (j k : ℕ) (d e : Cell T) → j < length cells → k < length cells → AreDistinct cells → is_same (get_or cells j d).stamp (get_or cells k e).stamp ≡ true
    → get_or cells j d ≡ get_or cells k e
same_cell {T} cells j k d e lj lk distinct h = by_order (cases_lt j k) (cases_lt k j)
  where
    stamp : Cell T → Stamp
    stamp cell = cell.stamp

    apart : (a b : ℕ) (x y : Cell T) → a < b → b < length cells → is_same (get_or cells a x).stamp (get_or cells b y).stamp ≡ false
    apart a b x y lt l =
        let first : get_or (stamps_of cells) a x.stamp ≡ (get_or cells a x).stamp = get_or-map (λ (c : Cell T). c.stamp) cells a x x.stamp (omega arith) in
        let second : get_or (stamps_of cells) b x.stamp ≡ (get_or cells b y).stamp = get_or-map (λ (c : Cell T). c.stamp) cells b y x.stamp l in
        (λ i. is_same (sym first i) (sym second i)) ∙ apart_from_distinct is_same (stamps_of cells) a b x.stamp distinct lt (omega (arith, length-map cells (λ (c : Cell T). c.stamp)))

    any_default : (xs : List (Cell T)) (n : ℕ) → n < length xs → get_or xs n d ≡ get_or xs n e
    any_default [] n l = absurd (omega arith)
    any_default (x ∷ xs) zero l = refl
    any_default (x ∷ xs) (suc n) l = any_default xs n (omega arith)

    by_order : (j < k) ⊎ (k ≤ j) → (k < j) ⊎ (j ≤ k) → get_or cells j d ≡ get_or cells k e
    by_order (inl lt) other = absurd (both_ways (is_same (get_or cells j d).stamp (get_or cells k e).stamp) (apart j k d e lt lk) h)
    by_order (inr le) (inl lt) =
        absurd (both_ways (is_same (get_or cells j d).stamp (get_or cells k e).stamp) (same_sym (get_or cells j d).stamp (get_or cells k e).stamp ∙ apart k j e d lt lj) h)
    by_order (inr le) (inr ge) = let same : j ≡ k = omega arith in any_default cells j lj ∙ ap (λ n. get_or cells n e) same

pub all_at : {T : Type 0} (P : Cell T → Type 0) (places : ℕ → Bool) (k : ℕ) (cells : List (Cell T)) → All P cells → All P (cells_at places k cells)
all_at P places k [] h = All-nil P
all_at {T} P places k (c ∷ cs) h =
    by c.gone (places k) (all_at P places k cs (All-tail P c cs h)) (all_at P places (k + 1) cs (All-tail P c cs h))
  where
    by : (b d : Bool) → All P (cells_at places k cs) → All P (cells_at places (k + 1) cs) → All P (cond b (cells_at places k cs) (cond d (c ∷ cells_at places (k + 1) cs) (cells_at places (k + 1) cs)))
    by true d x y = x
    by false true x y = All-cons P c (cells_at places (k + 1) cs) (All-head P c cs h) y
    by false false x y = y

stamps_step : {T : Type 0} (b d : Bool) (c : Cell T) (here next : List (Cell T)) (before behind : List Stamp) → stamps_of here ≡ before → stamps_of next ≡ behind
    → stamps_of (cond b here (cond d (c ∷ next) next)) ≡ cond b before (cond d (c.stamp ∷ behind) behind)
stamps_step true d c here next before behind h k = h
stamps_step false true c here next before behind h k = ap (λ l. c.stamp ∷ l) k
stamps_step false false c here next before behind h k = k

pub stamps_at_cells : {T : Type 0} (places : ℕ → Bool) (k : ℕ) (cells : List (Cell T)) → stamps_of (cells_at places k cells) ≡ stamps_at places k cells
stamps_at_cells places k [] = refl
stamps_at_cells places k (c ∷ cs) =
    stamps_step c.gone (places k) c (cells_at places k cs) (cells_at places (k + 1) cs) (stamps_at places k cs) (stamps_at places (k + 1) cs) (stamps_at_cells places k cs) (stamps_at_cells places (k + 1) cs)

pub distinct_cells_at : {T : Type 0} (places : ℕ → Bool) (k : ℕ) (cells : List (Cell T)) → AreDistinct cells → AreDistinct (cells_at places k cells)
distinct_cells_at places k cells h = subst (IsDistinct is_same) (sym (stamps_at_cells places k cells)) (distinct_at places k cells h)
