-- Laws of the plan of an insertion.
use Rattle.std.proofs.Common.{◌≡◌, ℕ, zero, suc, ◌+◌, ◌-◌, ◌*◌, ◌/◌, ◌%◌, ◌<◌, ◌≤◌, List, [], ◌∷◌, ◌++◌, Bool, true, false, cond, not, length, take, drop, map, filter, get_or, refl, sym, ◌∙◌, ap, arith, ◌⊎◌, inl, inr, min, ltb}
use Rattle.std.specs.Prelude.{All, nat_eq}
use Rattle.std.proofs.lemmas.Bool.{eqb-true, lt-ltb, le-ltb, cases_lt}
use Rattle.std.proofs.lemmas.List.{take_all, drop_all, take-append-le, drop-append-le, length-drop, length-take, length-append, map_more, append-nil, append_assoc}
use Rattle.std.proofs.lemmas.Nat.{div-add-mod', div-mul-add, div_below}
use Rattle.std.proofs.lemmas.List.Elements.{filter-append, All-append, All-head, All-tail, All-cons, All-nil}
use Rattle.rt_stamps.specs.declared.limits.TheConstants.{MOST_CHARACTERS}
use Rattle.rt_stamps.specs.declared.stamp.Stamp.{Stamp}
use Rattle.rt_stamps.specs.declared.stamp.TheConstants.{ROOT}
use Rattle.rt_stamps.specs.Words.{Word}
use Rattle.rt_store.specs.declared.cell.Cell.{Cell}
use Rattle.rt_store.specs.Tagged.{AreStates}
use Rattle.std.specs.Str.{bytes_eq}
use Rattle.rt_tags.specs.States.{TagStates, Write, IsState, IsTag, KeepsIds, name_at, written}
use Rattle.rt_tags.specs.Tags.{sel}
use Rattle.rt_tags.specs.declared.states.TagEntry.{TagEntry}
use Rattle.rt_tags.specs.Writers.{listed_by, state_after}
use Rattle.rt_store.specs.Cells.{cells_from}
use Rattle.rt_plans.specs.Insertions.{cells_of_inserts, counts_for, further_tags, inserts_for, new_state, put_on, tagged_cells}

-- A TABLE THAT KEEPS ITS IDS

-- old tags have the names that they had
pub names_kept : (old new : TagStates) (tags : List ℕ) → KeepsIds old new → All (IsTag old) tags → map (name_at new) tags ≡ map (name_at old) tags
names_kept old new [] keeps h = refl
names_kept old new (t ∷ ts) keeps h =
    let first = (keeps.tags t (All-head (IsTag old) t ts h)).1 in
    let rest = names_kept old new ts keeps (All-tail (IsTag old) t ts h) in
    λ i. first i ∷ rest i

pub tags_kept : (old new : TagStates) (tags : List ℕ) → KeepsIds old new → All (IsTag old) tags → All (IsTag new) tags
tags_kept old new tags keeps h = λ k d j. (keeps.tags (get_or tags k d) (h k d j)).0

-- new cells in one state
pub states_from : (table : TagStates) (count site state : ℕ) (text : List ℕ) → IsState table state → AreStates table (cells_from count site state text)
states_from table count site state [] h = All-nil (λ (cell : Cell ℕ). IsState table cell.state)
states_from table count site state (c ∷ text) h =
    All-cons (λ (cell : Cell ℕ). IsState table cell.state) (record { stamp = record { count = count; site = site }; ch = c; gone = false; state = state }) (cells_from (count + 1) site state text) h
    (states_from table (count + 1) site state text h)

-- WRITES

pub after_more : (state : List Write) (writes more : List Write) → state_after state (writes ++ more) ≡ state_after (state_after state writes) more
after_more state [] more = refl
after_more state (w ∷ writes) more = after_more (written w state) writes more

put_on_more : (site count : ℕ) (names more : List Word) → put_on site count (names ++ more) ≡ put_on site count names ++ put_on site (count + length names) more
put_on_more site count [] more = ap (λ n. put_on site n more) (let e : count ≡ count + 0 = omega arith in e)
put_on_more site count (name ∷ names) more =
    let rest = put_on_more site (count + 1) names more in
    let e : count + 1 + length names ≡ count + suc (length names) = omega arith in
    let all : put_on site (count + 1) (names ++ more) ≡ put_on site (count + 1) names ++ put_on site (count + suc (length names)) more = rest ∙ ap (λ n. put_on site (count + 1) names ++ put_on site n more) e in
    λ i. record { name = name; writer = record { count = count + 1; site = site }; on = true } ∷ all i

listed_more : (names : List Word) (name : Word) → listed_by ROOT (names ++ name ∷ []) ≡ listed_by ROOT names ++ record { name = name; writer = ROOT; on = true } ∷ []
listed_more [] name = refl
listed_more (n ∷ names) name = let rest = listed_more names name in λ i. record { name = n; writer = ROOT; on = true } ∷ rest i

pub listed_after : (names : List Word) (name : Word) → state_after [] (listed_by ROOT (names ++ name ∷ [])) ≡ written (record { name = name; writer = ROOT; on = true }) (state_after [] (listed_by ROOT names))
listed_after names name = ap (state_after []) (listed_more names name) ∙ after_more [] (listed_by ROOT names) (record { name = name; writer = ROOT; on = true } ∷ [])

-- so many tags are listed, and each further one is put on
abbrev state_with : ℕ → ℕ → ℕ → List Word → List Write
state_with most site last names = state_after [] (listed_by ROOT (take most names) ++ put_on site last (drop most names))

abbrev writer_by : ℕ → ℕ → ℕ → ℕ → Stamp
writer_by most site last index = cond (ltb index most) ROOT (record { count = last + 1 + (index - most); site = site })

one_listed : (most site last : ℕ) (names : List Word) (name : Word) → length names < most
    → state_with most site last (names ++ name ∷ []) ≡ written (record { name = name; writer = writer_by most site last (length names); on = true }) (state_with most site last names)
one_listed most site last names name h =
    let more : length (names ++ name ∷ []) ≤ most = omega (arith, length-append names (name ∷ [])) in
    let taken : take most (names ++ name ∷ []) ≡ names ++ name ∷ [] = take_all most (names ++ name ∷ []) more in
    let left : drop most (names ++ name ∷ []) ≡ [] = drop_all most (names ++ name ∷ []) more in
    let few : length names ≤ most = omega arith in
    let t : take most names ≡ names = take_all most names few in
    let d : drop most names ≡ [] = drop_all most names few in
    let w : writer_by most site last (length names) ≡ ROOT = ap (λ b. cond b ROOT (record { count = last + 1 + (length names - most); site = site })) (lt-ltb (length names) most h) in
    (λ i. state_after [] (listed_by ROOT (taken i) ++ put_on site last (left i)))
    ∙ ap (state_after []) (append-nil (listed_by ROOT (names ++ name ∷ [])))
    ∙ listed_after names name
    ∙ sym (λ i. written (record { name = name; writer = w i; on = true }) (state_after [] (append-nil (listed_by ROOT names) i)))
    ∙ sym (λ i. written (record { name = name; writer = writer_by most site last (length names); on = true }) (state_after [] (listed_by ROOT (t i) ++ put_on site last (d i))))

one_put_on : (most site last : ℕ) (names : List Word) (name : Word) → most ≤ length names
    → state_with most site last (names ++ name ∷ []) ≡ written (record { name = name; writer = writer_by most site last (length names); on = true }) (state_with most site last names)
one_put_on most site last names name h =
    let taken : take most (names ++ name ∷ []) ≡ take most names = take-append-le most names (name ∷ []) h in
    let left : drop most (names ++ name ∷ []) ≡ drop most names ++ name ∷ [] = drop-append-le most names (name ∷ []) h in
    let l = listed_by ROOT (take most names) in
    let d = drop most names in
    let w : writer_by most site last (length names) ≡ record { count = last + 1 + (length names - most); site = site } = ap (λ b. cond b ROOT (record { count = last + 1 + (length names - most); site = site })) (le-ltb (length names) most h) in
    let n : last + length d + 1 ≡ last + 1 + (length names - most) = omega (arith, length-drop most names) in
    (λ i. state_after [] (listed_by ROOT (taken i) ++ put_on site last (left i)))
    ∙ ap (λ x. state_after [] (l ++ x)) (put_on_more site last d (name ∷ []))
    ∙ ap (state_after []) (sym (append_assoc l (put_on site last d) (put_on site (last + length d) (name ∷ []))))
    ∙ after_more [] (l ++ put_on site last d) (put_on site (last + length d) (name ∷ []))
    ∙ (λ i. written (record { name = name; writer = record { count = n i; site = site }; on = true }) (state_after [] (l ++ put_on site last d)))
    ∙ sym (λ i. written (record { name = name; writer = w i; on = true }) (state_after [] (l ++ put_on site last d)))

one_more : (most site last : ℕ) (names : List Word) (name : Word)
    → state_with most site last (names ++ name ∷ []) ≡ written (record { name = name; writer = writer_by most site last (length names); on = true }) (state_with most site last names)
one_more most site last names name = by (cases_lt (length names) most)
  where
    by : (length names < most) ⊎ (most ≤ length names) → state_with most site last (names ++ name ∷ []) ≡ written (record { name = name; writer = writer_by most site last (length names); on = true }) (state_with most site last names)
    by (inl h) = one_listed most site last names name h
    by (inr h) = one_put_on most site last names name h

-- INSERTS

-- how many parts of a size there are, one part more
part_on : (x m : ℕ) → (x + suc m) / suc m ≡ suc (x / suc m)
part_on x m =
    let q = x / suc m in
    let r = x % suc m in
    let split : q * suc m + r ≡ x = div-add-mod' x (suc m) in
    let below : r < suc m = omega arith in
    let e : x + suc m ≡ suc q * suc m + r = omega (arith, split) in
    ap (λ n. n / suc m) e ∙ div-mul-add (suc q) (suc m) r below

parts_more : (m n : ℕ) → 1 ≤ n → (n + m) / suc m ≡ suc ((n - suc m + m) / suc m)
parts_more m n h = by (cases_lt n (suc m))
  where
    by : (n < suc m) ⊎ (suc m ≤ n) → (n + m) / suc m ≡ suc ((n - suc m + m) / suc m)
    by (inl k) =
        let e : n + m ≡ n - 1 + suc m = omega arith in
        let none : (n - 1) / suc m < 1 = div_below (n - 1) (suc m) 1 (omega arith) (omega arith) in
        let none_more : (n - suc m + m) / suc m < 1 = div_below (n - suc m + m) (suc m) 1 (omega arith) (omega arith) in
        let on : (n - 1 + suc m) / suc m ≡ suc ((n - 1) / suc m) = part_on (n - 1) m in
        ap (λ x. x / suc m) e ∙ on ∙ ap suc (let same : (n - 1) / suc m ≡ (n - suc m + m) / suc m = omega (none, none_more, arith) in same)
    by (inr k) =
        let e : n + m ≡ n - suc m + m + suc m = omega arith in
        ap (λ x. x / suc m) e ∙ part_on (n - suc m + m) m

pub inserts_more : (n : ℕ) → 1 ≤ n → inserts_for n ≡ suc (inserts_for (n - MOST_CHARACTERS))
inserts_more n h = parts_more (MOST_CHARACTERS - 1) n h

pub cells_more : (site count : ℕ) (names : List Word) (text : List ℕ) → 1 ≤ length text
    → tagged_cells site count names text
    ≡ cells_from (count + 1) site (new_state site (count + length (take MOST_CHARACTERS text)) names) (take MOST_CHARACTERS text)
    ++ tagged_cells site (count + length (take MOST_CHARACTERS text) + length (further_tags names)) names (drop MOST_CHARACTERS text)
cells_more site count names text h =
    let rest : inserts_for (length text - MOST_CHARACTERS) ≡ inserts_for (length (drop MOST_CHARACTERS text)) = ap inserts_for (sym (length-drop MOST_CHARACTERS text)) in
    ap (λ n. cells_of_inserts n site count names text) (inserts_more (length text) h ∙ ap suc rest)

pub counts_more : (names : List Word) (text : List ℕ) → 1 ≤ length text
    → counts_for names text ≡ length (take MOST_CHARACTERS text) + length (further_tags names) + counts_for names (drop MOST_CHARACTERS text)
counts_more names text h =
    let whole = length text in
    let further = length (further_tags names) in
    let taken : length (take MOST_CHARACTERS text) ≡ min MOST_CHARACTERS whole = length-take MOST_CHARACTERS text in
    let left : length (drop MOST_CHARACTERS text) ≡ whole - MOST_CHARACTERS = length-drop MOST_CHARACTERS text in
    counted whole (length (take MOST_CHARACTERS text)) (length (drop MOST_CHARACTERS text)) further (inserts_for whole) (inserts_for (length (drop MOST_CHARACTERS text))) (omega arith)
    (inserts_more whole h ∙ ap (λ n. suc (inserts_for n)) (sym left))
  where
    counted : (whole part rest further a b : ℕ) → whole ≡ part + rest → a ≡ suc b → whole + a * further ≡ part + further + (rest + b * further)
    counted whole part rest further a b h k = rw (h, k) (omega arith)

pub fewer_behind : (rest behind : List ℕ) → 1 ≤ length rest → behind ≡ drop MOST_CHARACTERS rest → length behind < length rest
fewer_behind rest behind h b = omega (arith, ap length b ∙ length-drop MOST_CHARACTERS rest)

-- LISTS OF TAGS

-- one name more of a list
pub filtered_more : {X : Type 0} (test : Word → Bool) (f : X → Word) (xs : List X) (i : ℕ) (x : X) → i < length xs → x ≡ get_or xs i x
    → filter test (map f (take (i + 1) xs)) ≡ filter test (map f (take i xs)) ++ filter test (f x ∷ [])
filtered_more test f xs i x h at =
    let before = map f (take i xs) in
    ap (filter test) (map_more f xs i x h ∙ ap (λ y. before ++ f y ∷ []) (sym at)) ∙ filter-append test before (f x ∷ [])

pub passed_over : (names : List Word) (name : Word) → bytes_eq name sel ≡ true → names ≡ names ++ filter (λ n. not (bytes_eq n sel)) (name ∷ [])
passed_over names name e = sym (append-nil names) ∙ ap (λ b. names ++ cond (not b) (name ∷ []) []) (sym e)

pub kept_one : (names : List Word) (name : Word) → bytes_eq name sel ≡ false → names ++ name ∷ [] ≡ names ++ filter (λ n. not (bytes_eq n sel)) (name ∷ [])
kept_one names name e = ap (λ b. names ++ cond (not b) (name ∷ []) []) (sym e)

pub one_given : (old new : TagStates) (tags : List ℕ) (tag : ℕ) → KeepsIds old new → All (IsTag old) tags → IsTag new tag → All (IsTag new) (tags ++ tag ∷ [])
one_given old new tags tag keeps h n = All-append (IsTag new) tags (tag ∷ []) (tags_kept old new tags keeps h) (All-cons (IsTag new) tag [] n (All-nil (IsTag new)))

-- writes of tags that were given out
pub writes_given : (table : TagStates) (writes : List TagEntry) → All (IsTag table) (map (λ w. w.tag) writes) → All (λ w. IsTag table w.tag) writes
writes_given table [] h = All-nil (λ (w : TagEntry). IsTag table w.tag)
writes_given table (w ∷ writes) h =
    let tags = map (λ (e : TagEntry). e.tag) writes in
    All-cons (λ (e : TagEntry). IsTag table e.tag) w writes (All-head (IsTag table) w.tag tags h) (writes_given table writes (All-tail (IsTag table) w.tag tags h))

-- a text that isn't empty has a character
pub some_left : (empty : Bool) (n : ℕ) → empty ≡ nat_eq n 0 → empty ≡ false → 1 ≤ n
some_left empty n e f = by n (sym e ∙ f)
  where
    by : (n : ℕ) → nat_eq n 0 ≡ false → 1 ≤ n
    by zero h = let bad : ⊥ = cc in absurd bad
    by (suc n) h = omega arith

pub none_left : {X : Type 0} (empty : Bool) (rest : List X) → empty ≡ nat_eq (length rest) 0 → empty ≡ true → rest ≡ []
none_left empty [] e f = refl
none_left empty (c ∷ rest) e f = let none : suc (length rest) ≡ 0 = eqb-true (suc (length rest)) 0 (sym e ∙ f) in absurd (omega arith)
