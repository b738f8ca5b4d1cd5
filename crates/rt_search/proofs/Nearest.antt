-- The first match of a stretch is the nearest.
use Rattle.std.proofs.Common.{◌≡◌, ◌+◌, ◌-◌, ◌<◌, ◌≤◌, ◌∷◌, [], ℕ, zero, suc, Bool, true, false, List, length, get_or, arith, sym, ap, ◌∙◌, refl}
use Rattle.std.specs.Prelude.{filter, slice_get, Option, Some, None}
use Rattle.rt_search.specs.declared.search.Direction.{Direction}
use Rattle.rt_search.specs.declared.search.Direction.TheVariants.{Forwards, Backwards}
use Rattle.rt_search.specs.declared.search.Search.{Search}
use Rattle.rt_lines.specs.declared.stretch.Stretch.{Stretch}
use Rattle.rt_search.specs.Searches.{IsMatchIn, is_match, matches_in, ordered_places}
use Rattle.rt_search.proofs.Orders.{backwards_at, forwards_at, length_ordered}

-- where the first element that passes stands
pub record FirstAt (test : ℕ → Bool) (xs : List ℕ) (found : ℕ) : Type 0 where
  pub index : ℕ
  pub within : index < length xs
  pub there : get_or xs index 0 ≡ found
  pub passes : test found ≡ true
  pub before : (j : ℕ) → j < index → test (get_or xs j 0) ≡ false

later_at : (test : ℕ → Bool) (x : ℕ) (xs : List ℕ) (found : ℕ) → test x ≡ false → FirstAt test xs found → FirstAt test (x ∷ xs) found
later_at test x xs found e f = record { index = suc f.index; within = (let w = f.within in omega arith); there = f.there; passes = f.passes; before = earlier }
  where
    earlier : (j : ℕ) → j < suc f.index → test (get_or (x ∷ xs) j 0) ≡ false
    earlier zero h = e
    earlier (suc j) h = f.before j (omega arith)

first_case : (test : ℕ → Bool) (x : ℕ) (xs : List ℕ) (found : ℕ) (b : Bool) → test x ≡ b → slice_get (filter test (x ∷ xs)) 0 ≡ Some found
    → (slice_get (filter test xs) 0 ≡ Some found → FirstAt test xs found) → FirstAt test (x ∷ xs) found
first_case test x xs found true e h f =
    let first : Some x ≡ Some found = rw e at h in
    let same : x ≡ found = cc in
    record { index = 0; within = omega arith; there = same; passes = ap test (sym same) ∙ e; before = λ j p. absurd (omega arith) }
first_case test x xs found false e h f =
    let rest : slice_get (filter test xs) 0 ≡ Some found = rw e at h in
    later_at test x xs found e (f rest)

pub first_at : (test : ℕ → Bool) (xs : List ℕ) (found : ℕ) → slice_get (filter test xs) 0 ≡ Some found → FirstAt test xs found
first_at test [] found h = let bad : ⊥ = cc in absurd bad
first_at test (x ∷ xs) found h = first_case test x xs found (test x) refl h (first_at test xs found)

none_case : (test : ℕ → Bool) (x : ℕ) (xs : List ℕ) (b : Bool) → test x ≡ b → slice_get (filter test (x ∷ xs)) 0 ≡ None
    → (slice_get (filter test xs) 0 ≡ None → (k : ℕ) → k < length xs → test (get_or xs k 0) ≡ false) → (k : ℕ) → k < length (x ∷ xs) → test (get_or (x ∷ xs) k 0) ≡ false
none_case test x xs true e h f k p = let no : Some x ≡ None = rw e at h in let bad : ⊥ = cc in absurd bad
none_case test x xs false e h f zero p = e
none_case test x xs false e h f (suc k) p = let rest : slice_get (filter test xs) 0 ≡ None = rw e at h in f rest k (omega arith)

pub none_at : (test : ℕ → Bool) (xs : List ℕ) → slice_get (filter test xs) 0 ≡ None → (k : ℕ) → k < length xs → test (get_or xs k 0) ≡ false
none_at test [] h k p = absurd (omega arith)
none_at test (x ∷ xs) h k p = none_case test x xs (test x) refl h (none_at test xs) k p

clash : (test : ℕ → Bool) (a b : ℕ) → a ≡ b → test a ≡ false → test b ≡ true → ⊥
clash test a b e f t = let bad : false ≡ true = sym f ∙ ap test e ∙ t in cc

not_less : (i k : ℕ) → (k < i → ⊥) → i ≤ k
not_less i k f = omega arith

pub least : (search : Search) (pattern text : List ℕ) (stretch : Stretch) (found : ℕ) (d : Direction) → search.direction ≡ d → d ≡ Forwards
    → slice_get (filter (is_match search pattern text stretch) (ordered_places d stretch)) 0 ≡ Some found
    → IsMatchIn search pattern text stretch found × ((other : ℕ) → IsMatchIn search pattern text stretch other → found ≤ other)
least search pattern text stretch found Backwards e w h = let bad : ⊥ = cc in absurd bad
least search pattern text stretch found Forwards e w h =
    let test = is_match search pattern text stretch in
    let places = ordered_places Forwards stretch in
    let f = first_at test places found h in
    let many : length places ≡ stretch.end - stretch.begin = length_ordered Forwards stretch in
    let short = f.within in
    let inside : f.index < stretch.end - stretch.begin = omega arith in
    let at : found ≡ stretch.begin + f.index = sym f.there ∙ forwards_at stretch f.index 0 inside in
    let low : stretch.begin ≤ found = omega arith in
    let high : found < stretch.end = omega arith in (
      record { begins = low; ends = high; matches = f.passes },
      λ other o.
          let from = o.begins in
          let to = o.ends in
          let k : other - stretch.begin < stretch.end - stretch.begin = omega arith in
          let back : stretch.begin + (other - stretch.begin) ≡ other = omega arith in
          let far : f.index ≤ other - stretch.begin = not_less f.index (other - stretch.begin)
          (λ p. clash test (get_or places (other - stretch.begin) 0) other (forwards_at stretch (other - stretch.begin) 0 k ∙ back) (f.before (other - stretch.begin) p) o.matches) in
          omega arith,
    )

pub greatest : (search : Search) (pattern text : List ℕ) (stretch : Stretch) (found : ℕ) (d : Direction) → search.direction ≡ d → d ≡ Backwards
    → slice_get (filter (is_match search pattern text stretch) (ordered_places d stretch)) 0 ≡ Some found
    → IsMatchIn search pattern text stretch found × ((other : ℕ) → IsMatchIn search pattern text stretch other → other ≤ found)
greatest search pattern text stretch found Forwards e w h = let bad : ⊥ = cc in absurd bad
greatest search pattern text stretch found Backwards e w h =
    let test = is_match search pattern text stretch in
    let places = ordered_places Backwards stretch in
    let f = first_at test places found h in
    let many : length places ≡ stretch.end - stretch.begin = length_ordered Backwards stretch in
    let short = f.within in
    let inside : f.index < stretch.end - stretch.begin = omega arith in
    let at : found ≡ stretch.end - 1 - f.index = sym f.there ∙ backwards_at stretch f.index 0 inside in
    let low : stretch.begin ≤ found = omega arith in
    let high : found < stretch.end = omega arith in (
      record { begins = low; ends = high; matches = f.passes },
      λ other o.
          let from = o.begins in
          let to = o.ends in
          let k : stretch.end - 1 - other < stretch.end - stretch.begin = omega arith in
          let back : stretch.end - 1 - (stretch.end - 1 - other) ≡ other = omega arith in
          let far : f.index ≤ stretch.end - 1 - other = not_less f.index (stretch.end - 1 - other)
          (λ p. clash test (get_or places (stretch.end - 1 - other) 0) other (backwards_at stretch (stretch.end - 1 - other) 0 k ∙ back) (f.before (stretch.end - 1 - other) p) o.matches) in
          omega arith,
    )

pub none : (search : Search) (pattern text : List ℕ) (stretch : Stretch) (place : ℕ) (d : Direction)
    → slice_get (filter (is_match search pattern text stretch) (ordered_places d stretch)) 0 ≡ None → IsMatchIn search pattern text stretch place → ⊥
none search pattern text stretch place Forwards h o =
    let from = o.begins in
    let to = o.ends in
    let test = is_match search pattern text stretch in
    let places = ordered_places Forwards stretch in
    let many : length places ≡ stretch.end - stretch.begin = length_ordered Forwards stretch in
    let k : place - stretch.begin < stretch.end - stretch.begin = omega arith in
    let back : stretch.begin + (place - stretch.begin) ≡ place = omega arith in
    let within : place - stretch.begin < length places = omega arith in
    clash test (get_or places (place - stretch.begin) 0) place (forwards_at stretch (place - stretch.begin) 0 k ∙ back) (none_at test places h (place - stretch.begin) within) o.matches
none search pattern text stretch place Backwards h o =
    let from = o.begins in
    let to = o.ends in
    let test = is_match search pattern text stretch in
    let places = ordered_places Backwards stretch in
    let many : length places ≡ stretch.end - stretch.begin = length_ordered Backwards stretch in
    let k : stretch.end - 1 - place < stretch.end - stretch.begin = omega arith in
    let back : stretch.end - 1 - (stretch.end - 1 - place) ≡ place = omega arith in
    let within : stretch.end - 1 - place < length places = omega arith in
    clash test (get_or places (stretch.end - 1 - place) 0) place (backwards_at stretch (stretch.end - 1 - place) 0 k ∙ back) (none_at test places h (stretch.end - 1 - place) within) o.matches
