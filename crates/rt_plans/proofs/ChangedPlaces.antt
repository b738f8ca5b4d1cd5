-- The characters at which a tag changes, by their places.
use Rattle.std.proofs.Common.{◌≡◌, ℕ, suc, ◌+◌, ◌<◌, ◌≤◌, List, [], ◌∷◌, Bool, true, false, cond, not, ◌&&◌, length, filter, map, refl, sym, ◌∙◌, ap, arith, add-zero, All, Option, Some, None}
use Rattle.std.specs.Prelude.{option_map, slice_get, unwrap_or}
use Rattle.std.proofs.lemmas.Bool.{and_parts}
use Rattle.std.proofs.lemmas.List.{length-map}
use Rattle.rt_stamps.specs.declared.stamp.Stamp.{Stamp}
use Rattle.rt_stamps.specs.Words.{Word}
use Rattle.rt_store.specs.declared.cell.Cell.{Cell}
use Rattle.rt_store.specs.Cells.{stamps_of, visible_of}
use Rattle.rt_store.specs.Shown.{TaggedCell, shown}
use Rattle.rt_store.specs.Tagged.{tag_is}
use Rattle.rt_store.proofs.Shown.{visible_at_shown, visible_shown}
use Rattle.rt_tags.specs.States.{TagStates, is_on, name_at, state_at}
use Rattle.rt_plans.specs.declared.range.Range.{Range}
use Rattle.rt_plans.specs.Removals.{RangesFollow, cells_at, is_covered, stamps_at}
use Rattle.rt_plans.specs.TagWrites.{changed_stamps, is_changed, passes_at}
use Rattle.rt_plans.proofs.ChosenLaws.{chosen, chosen_visible}
use Rattle.rt_plans.proofs.PassingPlaces.{covered_within, passes_all, passes_within}
use Rattle.rt_plans.proofs.Shown.{stamps_at_shown}
use Rattle.rt_plans.proofs.StampLaws.{picked, picked_visible}
use Rattle.rt_plans.proofs.WithinLaws.{all_within}

-- BY THE NUMBER OF A TAG

changed_as : (table : TagStates) (tag : ℕ) (name : Word) (on : Bool) (cell : Cell ℕ) → name_at table tag ≡ name → tag_is table tag (not on) cell ≡ is_changed name on (shown table cell)
changed_as table tag name true cell e = ap (λ n. not (is_on n (state_at table cell.state))) e
changed_as table tag name false cell e = ap (λ n. is_on n (state_at table cell.state)) e

-- a tag changes where it has a number, and isn't yet what is asked
pub changes_as : (table : TagStates) (tag : ℕ) (name : Word) (on : Bool) (cells : List (Cell ℕ)) (place : ℕ) → name_at table tag ≡ name
    → passes_at (tag_is table tag (not on)) (visible_of cells) place ≡ passes_at (is_changed name on) (visible_of (map (shown table) cells)) place
changes_as table tag name on cells place e =
    by (slice_get (visible_of cells) place) ∙ ap (λ o. unwrap_or (option_map (is_changed name on) o) false) (sym (visible_at_shown (state_at table) cells place))
  where
    by : (o : Option (Cell ℕ)) → unwrap_or (option_map (tag_is table tag (not on)) o) false ≡ unwrap_or (option_map (is_changed name on) (option_map (shown table) o)) false
    by None = refl
    by (Some c) = changed_as table tag name on c e

-- WITHOUT A NUMBER

pub all_change : (table : TagStates) (name : Word) (cells : List (Cell ℕ)) (place : ℕ) → ((state : ℕ) → is_on name (state_at table state) ≡ false) → place < length (visible_of cells)
    → passes_at (is_changed name true) (visible_of (map (shown table) cells)) place ≡ true
all_change table name cells place h k =
    ap (λ o. unwrap_or (option_map (is_changed name true) o) false) (visible_at_shown (state_at table) cells place) ∙ by (slice_get (visible_of cells) place)
    ∙ passes_all (λ (c : Cell ℕ). is_changed name true (shown table c)) (visible_of cells) place (λ c. ap not (h c.state)) k
  where
    by : (o : Option (Cell ℕ)) → unwrap_or (option_map (is_changed name true) (option_map (shown table) o)) false ≡ unwrap_or (option_map (λ (c : Cell ℕ). is_changed name true (shown table c)) o) false
    by None = refl
    by (Some c) = refl

pub none_change : (table : TagStates) (name : Word) (cells : List (Cell ℕ)) (place : ℕ) → ((state : ℕ) → is_on name (state_at table state) ≡ false)
    → passes_at (is_changed name false) (visible_of (map (shown table) cells)) place ≡ false
none_change table name cells place h =
    ap (λ o. unwrap_or (option_map (is_changed name false) o) false) (visible_at_shown (state_at table) cells place) ∙ by (slice_get (visible_of cells) place)
  where
    by : (o : Option (Cell ℕ)) → unwrap_or (option_map (is_changed name false) (option_map (shown table) o)) false ≡ false
    by None = refl
    by (Some c) = h c.state

and_true : (b c : Bool) → (b ≡ true → c ≡ true) → b ≡ (b && c)
and_true true c h = sym (h refl)
and_true false c h = refl

-- put on, it changes at each place
pub put_everywhere : (table : TagStates) (name : Word) (cells : List (Cell ℕ)) (ranges : List Range) (place : ℕ) → ((state : ℕ) → is_on name (state_at table state) ≡ false)
    → All (λ range. range.to ≤ length (visible_of cells)) ranges → is_covered ranges place ≡ (is_covered ranges place && passes_at (is_changed name true) (visible_of (map (shown table) cells)) place)
put_everywhere table name cells ranges place h within =
    and_true (is_covered ranges place) _ (λ t. all_change table name cells place h (covered_within ranges (length (visible_of cells)) place within t))

and_false : (b c : Bool) → c ≡ false → false ≡ (b && c)
and_false true c h = sym h
and_false false c h = refl

-- taken off, at none
pub taken_nowhere : (table : TagStates) (name : Word) (cells : List (Cell ℕ)) (ranges : List Range) (place : ℕ) → ((state : ℕ) → is_on name (state_at table state) ≡ false)
    → false ≡ (is_covered ranges place && passes_at (is_changed name false) (visible_of (map (shown table) cells)) place)
taken_nowhere table name cells ranges place h = and_false (is_covered ranges place) _ (none_change table name cells place h)

-- THEIR STAMPS

picked_filtered : {T : Type 0} (test : Cell T → Bool) (c r : ℕ → Bool) (p : ℕ) (cs : List (Cell T)) → ((k : ℕ) → c (p + k) ≡ (r (p + k) && passes_at test cs k)) → picked c p cs ≡ stamps_of (filter test (chosen r p cs))
picked_filtered test c r p [] h = refl
picked_filtered {T} test c r p (x ∷ xs) h =
    let here : c p ≡ (r p && test x) = ap c (sym (add-zero p)) ∙ h 0 ∙ ap (λ n. r n && test x) (add-zero p) in
    let rest : picked c (p + 1) xs ≡ stamps_of (filter test (chosen r (p + 1) xs)) = picked_filtered test c r (p + 1) xs (λ k.
    let on : p + 1 + k ≡ p + suc k = omega arith in
    ap c on ∙ h (suc k) ∙ ap (λ n. r n && passes_at test xs k) (sym on)) in
    ap (λ b. cond b (x.stamp ∷ picked c (p + 1) xs) (picked c (p + 1) xs)) here ∙ by (r p) (picked c (p + 1) xs) (chosen r (p + 1) xs) rest
  where
    filtered : (t : Bool) (stamps : List Stamp) (l : List (Cell T)) → stamps ≡ stamps_of l → cond t (x.stamp ∷ stamps) stamps ≡ stamps_of (cond t (x ∷ l) l)
    filtered true stamps l e = ap (λ s. x.stamp ∷ s) e
    filtered false stamps l e = e

    by : (b : Bool) (stamps : List Stamp) (l : List (Cell T)) → stamps ≡ stamps_of (filter test l) → cond (b && test x) (x.stamp ∷ stamps) stamps ≡ stamps_of (filter test (cond b (x ∷ l) l))
    by true stamps l e = filtered (test x) stamps (filter test l) e
    by false stamps l e = e

-- the stamps at the places that change are those that an operation names
pub stamps_changed : (table : TagStates) (name : Word) (on : Bool) (places ranges : ℕ → Bool) (cells : List (Cell ℕ))
    → ((place : ℕ) → places place ≡ (ranges place && passes_at (is_changed name on) (visible_of (map (shown table) cells)) place))
    → stamps_at places 0 cells ≡ changed_stamps name on (cells_at ranges 0 (map (shown table) cells))
stamps_changed table name on places ranges cells h =
    let all : List TaggedCell = map (shown table) cells in
    sym (stamps_at_shown (state_at table) places 0 cells) ∙ picked_visible places 0 all
    ∙ picked_filtered (is_changed name on) places ranges 0 (visible_of all) (λ k. let z : 0 + k ≡ k = omega arith in ap places z ∙ h k ∙ ap (λ n. ranges n && passes_at (is_changed name on) (visible_of all) k) (sym z))
    ∙ ap (λ l. stamps_of (filter (is_changed name on) l)) (sym (chosen_visible ranges 0 all))

-- as many characters are shown as are kept
pub visible_many : (table : TagStates) (cells : List (Cell ℕ)) → length (visible_of (map (shown table) cells)) ≡ length (visible_of cells)
visible_many table cells = ap length (visible_shown (state_at table) cells) ∙ length-map (visible_of cells) (shown table)

-- and none of them stands behind the text
pub changed_within : (table : TagStates) (name : Word) (on : Bool) (ranges : ℕ → Bool) (cells : List (Cell ℕ)) (changed : List Range) → RangesFollow 0 changed
    → ((place : ℕ) → is_covered changed place ≡ (ranges place && passes_at (is_changed name on) (visible_of (map (shown table) cells)) place))
    → All (λ range. range.to ≤ length (visible_of cells)) changed
changed_within table name on ranges cells changed order h =
    let all : List TaggedCell = map (shown table) cells in
    let same : length (visible_of all) ≡ length (visible_of cells) = visible_many table cells in
    all_within (length (visible_of cells)) 0 changed order (λ place t.
    let there = passes_within (is_changed name on) (visible_of all) place (and_parts (ranges place) _ (sym (h place) ∙ t)).1 in
    omega (arith, there, same))
