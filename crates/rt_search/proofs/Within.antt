-- Matches are characters of the text.
use Rattle.std.proofs.Common.{◌≡◌, ℕ, ◌+◌, ◌-◌, ◌<◌, ◌≤◌, List, [], ◌∷◌, ◌++◌, Bool, true, false, cond, length, get_or, All, Option, Some, None, arith, subst, sym, refl}
use Rattle.std.specs.Prelude.{IfSome, filter, flat_map, fold, slice_get}
use Rattle.std.proofs.lemmas.List.Elements.{All-append, All-cons, All-filter, All-from_get_or, All-get_or, All-head, All-nil, All-tail}
use Rattle.std.proofs.lemmas.Option.{get_or_from_slice_get, slice_get_within}
use Rattle.rt_search.specs.declared.search.Direction.{Direction}
use Rattle.rt_search.specs.declared.search.Direction.TheVariants.{Forwards, Backwards}
use Rattle.rt_search.specs.declared.search.Overlaps.{Overlaps}
use Rattle.rt_search.specs.declared.search.Search.{Search}
use Rattle.rt_lines.specs.declared.stretch.Stretch.{Stretch}
use Rattle.rt_search.specs.Searches.{all_matches, first_match, is_match, is_taken, matches, matches_in, ordered_places, stretches, with_match}
use Rattle.rt_search.proofs.Orders.{backwards_at, forwards_at, length_ordered}

abbrev pub IsIn : ℕ → ℕ → Type 0
IsIn n place = place < n

pub place_in : (d : Direction) (s : Stretch) (k e : ℕ) → k < s.end - s.begin → get_or (ordered_places d s) k e < s.end
place_in Forwards s k e h = omega (arith, forwards_at s k e h)
place_in Backwards s k e h = omega (arith, backwards_at s k e h)

places_in : (d : Direction) (s : Stretch) (n : ℕ) → s.end ≤ n → All (IsIn n) (ordered_places d s)
places_in d s n h = λ k e l. let i : k < s.end - s.begin = omega (arith, length_ordered d s) in omega (arith, place_in d s k e i)

in_stretch : (how : Search) (pattern text : List ℕ) (s : Stretch) (n : ℕ) → s.end ≤ n → All (IsIn n) (matches_in how pattern text s)
in_stretch how pattern text s n h = All-filter (is_match how pattern text s) (IsIn n) (ordered_places how.direction s) (places_in how.direction s n h)

in_both : (how : Search) (pattern text : List ℕ) (a b : Stretch) (n : ℕ) → a.end ≤ n → b.end ≤ n
    → All (IsIn n) (matches_in how pattern text a ++ (matches_in how pattern text b ++ []))
in_both how pattern text a b n h k =
    All-append (IsIn n) _ _ (in_stretch how pattern text a n h) (All-append (IsIn n) _ _ (in_stretch how pattern text b n k) (All-nil (IsIn n)))

in_one : (how : Search) (pattern text : List ℕ) (a : Stretch) (n : ℕ) → a.end ≤ n → All (IsIn n) (matches_in how pattern text a ++ [])
in_one how pattern text a n h = All-append (IsIn n) _ _ (in_stretch how pattern text a n h) (All-nil (IsIn n))

in_stretches : (how : Search) (pattern text : List ℕ) (start : ℕ) (stop : Option ℕ) (d : Direction) → start ≤ length text → IfSome stop (λ place. place ≤ length text)
    → All (IsIn (length text)) (flat_map (matches_in how pattern text) (stretches d start stop (length text)))
in_stretches how pattern text start None Forwards h k = in_both how pattern text (record { begin = start; end = length text }) (record { begin = 0; end = start }) (length text) (omega arith) h
in_stretches how pattern text start (Some stop) Forwards h k = in_one how pattern text (record { begin = start; end = stop }) (length text) k
in_stretches how pattern text start None Backwards h k = in_both how pattern text (record { begin = 0; end = start }) (record { begin = start; end = length text }) (length text) h (omega arith)
in_stretches how pattern text start (Some stop) Backwards h k = in_one how pattern text (record { begin = stop; end = start }) (length text) h

matches_within : (how : Search) (pattern text : List ℕ) (start : ℕ) (stop : Option ℕ) → start ≤ length text → IfSome stop (λ place. place ≤ length text)
    → All (IsIn (length text)) (matches how pattern text start stop)
matches_within how pattern text start stop h k = in_stretches how pattern text start stop how.direction h k

-- the first match is a character of the text
pub first_within : (how : Search) (pattern text : List ℕ) (start : ℕ) (stop : Option ℕ) (place : ℕ) → start ≤ length text → IfSome stop (λ place. place ≤ length text)
    → first_match how pattern text start stop ≡ Some place → place < length text
first_within how pattern text start stop place h k e =
    let found = matches how pattern text start stop in
    subst (IsIn (length text)) (get_or_from_slice_get found 0 place 0 e)
    (All-get_or (IsIn (length text)) found 0 0 (slice_get_within found 0 place e) (matches_within how pattern text start stop h k))

taken_within : (o : Overlaps) (m n : ℕ) (taken places : List ℕ) → All (IsIn n) taken → All (IsIn n) places → All (IsIn n) (fold (with_match o m) taken places)
taken_within o m n taken [] h k = h
taken_within o m n taken (p ∷ places) h k = taken_within o m n (with_match o m taken p) places (by (is_taken o m taken p)) (All-tail (IsIn n) p places k)
  where
    by : (b : Bool) → All (IsIn n) (cond b (taken ++ p ∷ []) taken)
    by true = All-append (IsIn n) taken (p ∷ []) h (All-cons (IsIn n) p [] (All-head (IsIn n) p places k) (All-nil (IsIn n)))
    by false = h

-- all that are taken are characters of the text
pub all_within : (o : Overlaps) (how : Search) (pattern text : List ℕ) (start : ℕ) (stop : Option ℕ) → start ≤ length text → IfSome stop (λ place. place ≤ length text)
    → All (λ place. place < length text) (all_matches o how pattern text start stop)
all_within o how pattern text start stop h k =
    taken_within o (length pattern) (length text) [] (matches how pattern text start stop) (All-nil (IsIn (length text))) (matches_within how pattern text start stop h k)
