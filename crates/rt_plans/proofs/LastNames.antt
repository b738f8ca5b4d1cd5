-- The tags on the last character of a new text are those of the text.
use Rattle.std.proofs.Common.{◌≡◌, ℕ, zero, suc, ◌+◌, ◌≤◌, List, [], ◌∷◌, ◌++◌, Bool, true, false, cond, not, filter, length, take, drop, map, refl, sym, ◌∙◌, ap, subst, arith, length-take, take-append-drop, Option, Some, None}
use Rattle.std.specs.Prelude.{option_map}
use Rattle.std.specs.List.{AllByRecursion}
use Rattle.std.specs.Str.{bytes_eq}
use Rattle.std.specs.declared.cmp.Ordering.TheVariants.{Less}
use Rattle.rt_stamps.specs.declared.limits.TheConstants.{MOST_CHARACTERS, MOST_TAGS}
use Rattle.rt_stamps.specs.declared.stamp.TheConstants.{ROOT}
use Rattle.rt_stamps.specs.Names.{name_order}
use Rattle.rt_stamps.specs.Words.{Word}
use Rattle.rt_tags.specs.States.{IsByName, Write, names_on}
use Rattle.rt_tags.specs.Tags.{sel}
use Rattle.rt_tags.specs.Writers.{listed_by, state_after}
use Rattle.rt_rga.proofs.Writes.{state_sorted}
pub use Rattle.rt_changes.proofs.TagNames.{after_rising}
use Rattle.rt_store.specs.Cells.{cells_from}
use Rattle.rt_store.specs.Shown.{TaggedCell}
use Rattle.rt_plans.specs.Insertions.{cells_of_inserts, further_tags, new_state, on_left, put_on, shared_names, tagged_cells}
use Rattle.rt_plans.proofs.InsertTexts.{last_append}
use Rattle.rt_plans.proofs.Planning.{cells_more}

-- NAMES THAT RISE

abbrev pub Rise : List Word → Type 0
Rise names = IsByName (listed_by ROOT names)

less_to : (name : Word) (ws : List Write) → AllByRecursion (λ v. name_order name v.name ≡ Less) ws → AllByRecursion (λ v. name_order name v.name ≡ Less) (listed_by ROOT (map (λ (w : Write). w.name) ws))
less_to name [] h = tt
less_to name (w ∷ ws) h = (h.0, less_to name ws h.1)

pub rise_to : (ws : List Write) → IsByName ws → Rise (map (λ (w : Write). w.name) ws)
rise_to [] h = tt
rise_to (w ∷ ws) h = (less_to w.name ws h.0, rise_to ws h.1)

less_from : (name : Word) (ws : List Write) → AllByRecursion (λ v. name_order name v.name ≡ Less) (listed_by ROOT (map (λ (w : Write). w.name) ws)) → AllByRecursion (λ v. name_order name v.name ≡ Less) ws
less_from name [] h = tt
less_from name (w ∷ ws) h = (h.0, less_from name ws h.1)

rise_from : (ws : List Write) → Rise (map (λ (w : Write). w.name) ws) → IsByName ws
rise_from [] h = tt
rise_from (w ∷ ws) h = (less_from w.name ws h.0, rise_from ws h.1)

every_filter : {X : Type 0} (P : X → Type 0) (test : X → Bool) (xs : List X) → AllByRecursion P xs → AllByRecursion P (filter test xs)
every_filter P test [] h = tt
every_filter P test (x ∷ xs) h = by (test x) (every_filter P test xs h.1)
  where
    by : (b : Bool) → AllByRecursion P (filter test xs) → AllByRecursion P (cond b (x ∷ filter test xs) (filter test xs))
    by true r = (h.0, r)
    by false r = r

pub sorted_filter : (test : Write → Bool) (state : List Write) → IsByName state → IsByName (filter test state)
sorted_filter test [] h = tt
sorted_filter test (w ∷ state) h = by (test w) (sorted_filter test state h.1)
  where
    by : (b : Bool) → IsByName (filter test state) → IsByName (cond b (w ∷ filter test state) (filter test state))
    by true r = (every_filter (λ v. name_order w.name v.name ≡ Less) test state h.0, r)
    by false r = r

pub shared_rise : (names : List Word) → Rise (shared_names names)
shared_rise names =
    let state = state_after [] (listed_by ROOT (filter (λ name. not (bytes_eq name sel)) names)) in
    rise_to (filter (λ (w : Write). w.on) state) (sorted_filter (λ (w : Write). w.on) state (state_sorted [] (listed_by ROOT (filter (λ name. not (bytes_eq name sel)) names)) tt))

-- THE STATE OF NEW CHARACTERS

abbrev writes_for : ℕ → ℕ → List Word → List Word → List Write
writes_for site last first further = listed_by ROOT first ++ put_on site last further

written_names : (site last : ℕ) (first further : List Word) → map (λ (w : Write). w.name) (writes_for site last first further) ≡ first ++ further
written_names site last (name ∷ first) further = ap (λ l. name ∷ l) (written_names site last first further)
written_names site last [] [] = refl
written_names site last [] (name ∷ further) = ap (λ l. name ∷ l) (written_names site (last + 1) [] further)

on_names : (site last : ℕ) (first further : List Word) → names_on (writes_for site last first further) ≡ first ++ further
on_names site last (name ∷ first) further = ap (λ l. name ∷ l) (on_names site last first further)
on_names site last [] [] = refl
on_names site last [] (name ∷ further) = ap (λ l. name ∷ l) (on_names site (last + 1) [] further)

pub new_names : (site last : ℕ) (names : List Word) → Rise names → names_on (new_state site last names) ≡ names
new_names site last names h =
    let writes = writes_for site last (take MOST_TAGS names) (further_tags names) in
    let whole : take MOST_TAGS names ++ further_tags names ≡ names = take-append-drop MOST_TAGS names in
    let rise : IsByName writes = rise_from writes (subst Rise (sym (written_names site last (take MOST_TAGS names) (further_tags names) ∙ whole)) h) in
    ap names_on (after_rising [] writes rise) ∙ on_names site last (take MOST_TAGS names) (further_tags names) ∙ whole

-- THE LAST CHARACTER

abbrev pub tags_of : Option TaggedCell → Option (List Word)
tags_of cell = option_map (λ cell. names_on cell.state) cell

last_in : (left : Option TaggedCell) (count site : ℕ) (state : List Write) (text : List ℕ) (names : List Word) → tags_of left ≡ Some names → names_on state ≡ names
    → tags_of (on_left left (cells_from count site state text)) ≡ Some names
last_in left count site state [] names h e = h
last_in left count site state (c ∷ text) names h e =
    last_in (Some (record { stamp = record { count = count; site = site }; ch = c; gone = false; state = state })) (count + 1) site state text names (ap Some e) e

last_part : (left : Option TaggedCell) (count site : ℕ) (state : List Write) (text : List ℕ) (names : List Word) → 1 ≤ length text → names_on state ≡ names
    → tags_of (on_left left (cells_from count site state text)) ≡ Some names
last_part left count site state [] names h e = absurd (omega arith)
last_part left count site state (c ∷ text) names h e =
    last_in (Some (record { stamp = record { count = count; site = site }; ch = c; gone = false; state = state })) (count + 1) site state text names (ap Some e) e

last_inserts : (inserts site count : ℕ) (left : Option TaggedCell) (names : List Word) (text : List ℕ) → Rise names → tags_of left ≡ Some names
    → tags_of (on_left left (cells_of_inserts inserts site count names text)) ≡ Some names
last_inserts zero site count left names text r h = h
last_inserts (suc inserts) site count left names text r h =
    let part = take MOST_CHARACTERS text in
    let last = count + length part in
    let state = new_state site last names in
    let first = cells_from (count + 1) site state part in
    ap tags_of (last_append left first (cells_of_inserts inserts site (last + length (further_tags names)) names (drop MOST_CHARACTERS text)))
    ∙ last_inserts inserts site (last + length (further_tags names)) (on_left left first) names (drop MOST_CHARACTERS text) r (last_in left (count + 1) site state part names h (new_names site last names r))

-- the tags of the last cell, behind a text
pub last_tagged : (site count : ℕ) (before : List TaggedCell) (names : List Word) (text : List ℕ) → Rise names → 1 ≤ length text
    → tags_of (on_left None (before ++ tagged_cells site count names text)) ≡ Some names
last_tagged site count before names text r h =
    let part = take MOST_CHARACTERS text in
    let last = count + length part in
    let state = new_state site last names in
    let first = cells_from (count + 1) site state part in
    let rest = tagged_cells site (last + length (further_tags names)) names (drop MOST_CHARACTERS text) in
    let left = on_left None before in
    let some : 1 ≤ length part = omega (arith, length-take MOST_CHARACTERS text) in
    ap tags_of (last_append None before (tagged_cells site count names text) ∙ ap (on_left left) (cells_more site count names text h) ∙ last_append left first rest)
    ∙ last_inserts _ site (last + length (further_tags names)) (on_left left first) names (drop MOST_CHARACTERS text) r (last_part left (count + 1) site state part names some (new_names site last names r))
