-- One part more of a text: its drafts, its stamps, and the element behind it.
use Rattle.std.proofs.Common.{◌≡◌, ℕ, suc, ◌+◌, ◌-◌, ◌*◌, ◌≤◌, List, [], ◌∷◌, ◌++◌, length, take, drop, map, refl, sym, ◌∙◌, ap, arith, append_assoc, length-drop, length-take, Option, Some, None, false}
use Rattle.std.specs.Prelude.{option_map, unwrap_or}
use Rattle.std.proofs.lemmas.List.{length-map}
use Rattle.rt_stamps.specs.declared.limits.TheConstants.{MOST_CHARACTERS, MOST_TAGS}
use Rattle.rt_stamps.specs.declared.stamp.Stamp.{Stamp}
use Rattle.rt_stamps.specs.Words.{Word}
use Rattle.rt_ops.specs.Operations.{Body, Insert}
use Rattle.rt_tags.specs.States.{Write}
use Rattle.rt_store.specs.declared.cell.Cell.{Cell}
use Rattle.rt_store.specs.Cells.{cells_from, stamps_of}
use Rattle.rt_store.specs.Shown.{TaggedCell}
use Rattle.rt_store.proofs.Shown.{map_append}
use Rattle.rt_plans.specs.InsertionDrafts.{last_element, inserts_of, tags_put_on, text_drafts}
use Rattle.rt_plans.specs.Insertions.{counts_for, further_tags, inserts_for, new_state, on_left, tagged_cells}
use Rattle.rt_plans.specs.NamedSpans.{first_parts}
use Rattle.rt_plans.proofs.Planning.{cells_more, counts_more, inserts_more}

-- DRAFTS

pub drafts_more : (site count : ℕ) (after : Stamp) (names : List Word) (text part more : List ℕ) → 1 ≤ length text → part ≡ take MOST_CHARACTERS text → more ≡ drop MOST_CHARACTERS text
    → text_drafts MOST_CHARACTERS site count after names text
    ≡ Insert after (take MOST_TAGS names) part
    ∷ (tags_put_on (record { site = site; first = count + 1; last = count + length part }) (further_tags names)
    ++ text_drafts MOST_CHARACTERS site (count + length part + length (further_tags names)) (record { count = count + length part; site = site }) names more)
drafts_more site count after names text part more h p m =
    let rest : inserts_for (length text - MOST_CHARACTERS) ≡ inserts_for (length (drop MOST_CHARACTERS text)) = ap inserts_for (sym (length-drop MOST_CHARACTERS text)) in
    ap (λ n. inserts_of site count after names (first_parts n MOST_CHARACTERS text)) (inserts_more (length text) h ∙ ap suc rest)
    ∙ (λ i. Insert after (take MOST_TAGS names) (sym p i)
    ∷ (tags_put_on (record { site = site; first = count + 1; last = count + length (sym p i) }) (further_tags names)
    ++ text_drafts MOST_CHARACTERS site (count + length (sym p i) + length (further_tags names)) (record { count = count + length (sym p i); site = site }) names (sym m i)))

pub drafts_joined : (old new all : List Body) (first : Body) (tags rest : List Body) → new ≡ old ++ first ∷ tags → all ≡ first ∷ (tags ++ rest) → new ++ rest ≡ old ++ all
drafts_joined old new all first tags rest e f = ap (λ l. l ++ rest) e ∙ append_assoc old (first ∷ tags) rest ∙ sym (ap (λ l. old ++ l) f)

pub lists_joined : {X : Type 0} (old new first rest all : List X) → new ≡ old ++ first → all ≡ first ++ rest → new ++ rest ≡ old ++ all
lists_joined old new first rest all e f = ap (λ l. l ++ rest) e ∙ append_assoc old first rest ∙ sym (ap (λ l. old ++ l) f)

-- STAMPS

pub stamps_any : {S T : Type 0} (count site : ℕ) (s : S) (t : T) (text : List ℕ) → stamps_of (cells_from count site s text) ≡ stamps_of (cells_from count site t text)
stamps_any count site s t [] = refl
stamps_any count site s t (c ∷ text) = let rest = stamps_any (count + 1) site s t text in λ i. record { count = count; site = site } ∷ rest i

pub stamps_more : (site count : ℕ) (names : List Word) (text part more : List ℕ) → 1 ≤ length text → part ≡ take MOST_CHARACTERS text → more ≡ drop MOST_CHARACTERS text
    → stamps_of (tagged_cells site count names text)
    ≡ stamps_of {T = ℕ} (cells_from (count + 1) site 0 part) ++ stamps_of (tagged_cells site (count + length part + length (further_tags names)) names more)
stamps_more site count names text part more h p m =
    let t = take MOST_CHARACTERS text in
    let state = new_state site (count + length t) names in
    let rest = tagged_cells site (count + length t + length (further_tags names)) names (drop MOST_CHARACTERS text) in
    let zero : ℕ = 0 in
    ap stamps_of (cells_more site count names text h)
    ∙ map_append (λ (cell : TaggedCell). cell.stamp) (cells_from (count + 1) site state t) rest
    ∙ ap (λ l. l ++ stamps_of rest) (stamps_any (count + 1) site state zero t)
    ∙ (λ i. stamps_of {T = ℕ} (cells_from (count + 1) site 0 (sym p i)) ++ stamps_of (tagged_cells site (count + length (sym p i) + length (further_tags names)) names (sym m i)))

pub one_stamp : (site count : ℕ) (names : List Word) (text : List ℕ) → length text ≡ 1 → record { count = count + 1; site = site } ∷ [] ≡ stamps_of (tagged_cells site count names text)
one_stamp site count names [] e = absurd (omega arith)
one_stamp site count names (c ∷ []) e = refl
one_stamp site count names (c ∷ d ∷ text) e = absurd (omega arith)

-- THE ELEMENT BEHIND

abbrev stamp_or : Option TaggedCell → Stamp → Stamp
stamp_or cell after = unwrap_or (option_map (λ cell. cell.stamp) cell) after

any_default : (x : TaggedCell) (xs : List TaggedCell) (a b : Stamp) → stamp_or (on_left (Some x) xs) a ≡ stamp_or (on_left (Some x) xs) b
any_default x [] a b = refl
any_default x (y ∷ ys) a b = any_default y ys a b

pub last_append : {T : Type 0} (left : Option (Cell T)) (xs ys : List (Cell T)) → on_left left (xs ++ ys) ≡ on_left (on_left left xs) ys
last_append left [] ys = refl
last_append left (x ∷ xs) ys = last_append (Some x) xs ys

last_behind : (left : Option TaggedCell) (after : Stamp) (ys : List TaggedCell) → stamp_or (on_left left ys) after ≡ last_element (stamp_or left after) ys
last_behind left after [] = refl
last_behind left after (y ∷ ys) = any_default y ys after (stamp_or left after)

pub behind_append : (after : Stamp) (xs ys : List TaggedCell) → last_element after (xs ++ ys) ≡ last_element (last_element after xs) ys
behind_append after xs ys = ap (λ o. stamp_or o after) (last_append None xs ys) ∙ last_behind (on_left None xs) after ys

last_from : (x : TaggedCell) (after : Stamp) (count site : ℕ) (state : List Write) (text : List ℕ) → x.stamp ≡ record { count = count; site = site }
    → stamp_or (on_left (Some x) (cells_from (count + 1) site state text)) after ≡ record { count = count + length text; site = site }
last_from x after count site state [] e = e ∙ (let n : count ≡ count + 0 = omega arith in λ i. record { count = n i; site = site })
last_from x after count site state (c ∷ text) e =
    let n : count + 1 + length text ≡ count + suc (length text) = omega arith in
    last_from (record { stamp = record { count = count + 1; site = site }; ch = c; gone = false; state = state }) after (count + 1) site state text refl
    ∙ (λ i. record { count = n i; site = site })

pub behind_cells : (after : Stamp) (count site : ℕ) (state : List Write) (text : List ℕ) → 1 ≤ length text → last_element after (cells_from (count + 1) site state text) ≡ record { count = count + length text; site = site }
behind_cells after count site state [] h = absurd (omega arith)
behind_cells after count site state (c ∷ text) h =
    let n : count + 1 + length text ≡ count + suc (length text) = omega arith in
    last_from (record { stamp = record { count = count + 1; site = site }; ch = c; gone = false; state = state }) after (count + 1) site state text refl
    ∙ (λ i. record { count = n i; site = site })

pub behind_more : (site count : ℕ) (after : Stamp) (names : List Word) (text part more : List ℕ) → 1 ≤ length text → part ≡ take MOST_CHARACTERS text → more ≡ drop MOST_CHARACTERS text
    → last_element after (tagged_cells site count names text)
    ≡ last_element (record { count = count + length part; site = site }) (tagged_cells site (count + length part + length (further_tags names)) names more)
behind_more site count after names text part more h p m =
    let t = take MOST_CHARACTERS text in
    let state = new_state site (count + length t) names in
    let rest = tagged_cells site (count + length t + length (further_tags names)) names (drop MOST_CHARACTERS text) in
    let some : 1 ≤ length t = omega (arith, length-take MOST_CHARACTERS text) in
    ap (last_element after) (cells_more site count names text h)
    ∙ behind_append after (cells_from (count + 1) site state t) rest
    ∙ ap (λ a. last_element a rest) (behind_cells after count site state t some)
    ∙ (λ i. last_element (record { count = count + length (sym p i); site = site }) (tagged_cells site (count + length (sym p i) + length (further_tags names)) names (sym m i)))

-- COUNTS

pub further_named : {X : Type 0} (f : X → Word) (xs : List X) → length (further_tags (map f xs)) ≡ length xs - MOST_TAGS
further_named f xs = length-drop MOST_TAGS (map f xs) ∙ ap (λ n. n - MOST_TAGS) (length-map xs f)

pub counts_named : {X : Type 0} (f : X → Word) (xs : List X) (text : List ℕ) → counts_for (map f xs) text ≡ length text + inserts_for (length text) * (length xs - MOST_TAGS)
counts_named f xs text = ap (λ n. length text + inserts_for (length text) * n) (further_named f xs)

pub counts_part : (names : List Word) (text part more : List ℕ) (now all : ℕ) → 1 ≤ length text → part ≡ take MOST_CHARACTERS text → more ≡ drop MOST_CHARACTERS text
    → now + counts_for names text ≡ all → now + length part + length (further_tags names) + counts_for names more ≡ all
counts_part names text part more now all h p m e =
    (λ i. now + length (p i) + length (further_tags names) + counts_for names (m i))
    ∙ added now (counts_for names text) (length (take MOST_CHARACTERS text)) (length (further_tags names)) (counts_for names (drop MOST_CHARACTERS text)) (counts_more names text h) e
  where
    added : (now a p f r : ℕ) → a ≡ p + f + r → now + a ≡ all → now + p + f + r ≡ all
    added now a p f r h e = omega arith
