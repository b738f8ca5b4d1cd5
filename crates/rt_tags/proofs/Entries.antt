-- Entries and what is seen of them.
use Rattle.std.proofs.Common.{◌≡◌, ℕ, zero, suc, ◌==◌, ◌||◌, ◌<◌, List, [], ◌∷◌, ◌++◌, map, filter, length, get_or, Bool, true, false, cond, refl, sym, ap, subst, ◌∙◌, arith}
use Rattle.std.specs.List.{AllByRecursion}
use Rattle.std.specs.Str.{bytes_eq}
use Rattle.std.proofs.lemmas.Bool.{or_parts}
use Rattle.std.proofs.lemmas.Bool.Decides.{Decides-eqb}
use Rattle.std.proofs.lemmas.List.Elements.{recursion_from_All}
use Rattle.rt_tags.specs.Tags.{HaveNoRepeats, is_listed}
use Rattle.rt_tags.specs.States.{Write, names_on}
use Rattle.rt_tags.specs.Kept.{HaveNames, write_seen, all_seen, tags_on}
use Rattle.rt_tags.specs.declared.states.TagEntry.{TagEntry}
use Rattle.rt_tags.proofs.Places.{split, clash, name_itself, same_name}

abbrev pub Named : ℕ → List TagEntry → Type 0
Named n entries = AllByRecursion (λ e. e.tag < n) entries

pub named : (n : ℕ) (entries : List TagEntry) → HaveNames n entries → Named n entries
named n entries h = recursion_from_All (λ e. e.tag < n) entries h

-- NAMES AT TWO PLACES

listed_there : (names : List (List ℕ)) (i : ℕ) → i < length names → is_listed (get_or names i []) names ≡ true
listed_there [] i h = absurd (omega (arith, h))
listed_there (x ∷ names) zero h = ap (λ b. b || is_listed x names) (name_itself x)
listed_there (x ∷ names) (suc i) h = by (bytes_eq (get_or names i []) x) (listed_there names i (omega (arith, h)))
  where
    by : (b : Bool) → is_listed (get_or names i []) names ≡ true → (b || is_listed (get_or names i []) names) ≡ true
    by true r = refl
    by false r = r

apart : (x : List ℕ) (names : List (List ℕ)) (j : ℕ) → is_listed x names ≡ false → j < length names → get_or names j [] ≡ x → ⊥
apart x names j n h e = clash (is_listed x names) (subst (λ v. is_listed v names ≡ true) e (listed_there names j h)) n

pub one_place : (names : List (List ℕ)) (i j : ℕ) → HaveNoRepeats names → i < length names → j < length names → get_or names i [] ≡ get_or names j [] → i ≡ j
one_place [] i j own h k e = absurd (omega (arith, h))
one_place (x ∷ names) zero zero own h k e = refl
one_place (x ∷ names) zero (suc j) own h k e = absurd (apart x names j own.0 (omega (arith, k)) (sym e))
one_place (x ∷ names) (suc i) zero own h k e = absurd (apart x names i own.0 (omega (arith, h)) e)
one_place (x ∷ names) (suc i) (suc j) own h k e = ap (λ n. suc n) (one_place names i j own.1 (omega (arith, h)) (omega (arith, k)) e)

pub same_test : (names : List (List ℕ)) (i j : ℕ) → HaveNoRepeats names → i < length names → j < length names → bytes_eq (get_or names j []) (get_or names i []) ≡ (i == j)
same_test names i j own h k =
    split (i == j)
    (λ t. let e : i ≡ j = (Decides-eqb i j).0 t in subst (λ v. bytes_eq (get_or names v []) (get_or names i []) ≡ true) e (name_itself (get_or names i [])) ∙ sym t)
    (λ f. split (bytes_eq (get_or names j []) (get_or names i []))
    (λ s. absurd (clash (i == j) ((Decides-eqb i j).1 (sym (one_place names j i own k h (same_name (get_or names j []) (get_or names i []) s)))) f))
    (λ g. g ∙ sym f))

-- A NAME WITHOUT A NUMBER

pub differs_there : (name : List ℕ) (names : List (List ℕ)) (i : ℕ) → is_listed name names ≡ false → i < length names → bytes_eq name (get_or names i []) ≡ false
differs_there name [] i h k = absurd (omega (arith, k))
differs_there name (x ∷ names) zero h k = (or_parts (bytes_eq name x) (is_listed name names) h).0
differs_there name (x ∷ names) (suc i) h k = differs_there name names i (or_parts (bytes_eq name x) (is_listed name names) h).1 (omega (arith, k))

-- THE TAGS THAT ARE ON

pub on_seen : (names : List (List ℕ)) (entries : List TagEntry) → map (λ t. get_or names t []) (tags_on entries) ≡ names_on (all_seen names entries)
on_seen names [] = refl
on_seen names (e ∷ entries) = by e.on (on_seen names entries)
  where
    by : (b : Bool) → map (λ t. get_or names t []) (tags_on entries) ≡ names_on (all_seen names entries) → map (λ t. get_or names t []) (map (λ (x : TagEntry). x.tag) (cond b (e ∷ filter (λ x. x.on) entries) (filter (λ x. x.on) entries))) ≡ map (λ (w : Write). w.name) (cond b (write_seen names e ∷ filter (λ w. w.on) (all_seen names entries)) (filter (λ w. w.on) (all_seen names entries)))
    by true r = ap (λ v. get_or names e.tag [] ∷ v) r
    by false r = r

pub on_named : (n : ℕ) (entries : List TagEntry) → Named n entries → AllByRecursion (λ t. t < n) (tags_on entries)
on_named n [] h = tt
on_named n (e ∷ entries) h = by e.on (on_named n entries h.1)
  where
    by : (b : Bool) → AllByRecursion (λ t. t < n) (tags_on entries) → AllByRecursion (λ t. t < n) (map (λ (x : TagEntry). x.tag) (cond b (e ∷ filter (λ x. x.on) entries) (filter (λ x. x.on) entries)))
    by true r = (h.0, r)
    by false r = r

-- MORE NAMES

name_stays : (names more : List (List ℕ)) (i : ℕ) → i < length names → get_or (names ++ more) i [] ≡ get_or names i []
name_stays [] more i h = absurd (omega (arith, h))
name_stays (x ∷ names) more zero h = refl
name_stays (x ∷ names) more (suc i) h = name_stays names more i (omega (arith, h))

pub seen_stays : (names more : List (List ℕ)) (entries : List TagEntry) → Named (length names) entries → all_seen (names ++ more) entries ≡ all_seen names entries
seen_stays names more [] h = refl
seen_stays names more (e ∷ entries) h =
    let one : write_seen (names ++ more) e ≡ write_seen names e = λ j. record { name = name_stays names more e.tag h.0 j; writer = e.writer; on = e.on } in
    λ j. one j ∷ seen_stays names more entries h.1 j
