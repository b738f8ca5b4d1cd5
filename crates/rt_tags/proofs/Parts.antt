-- The first of some names, as those are listed, when names are moved.
use Rattle.std.proofs.Common.{◌≡◌, ℕ, zero, suc, ◌+◌, ◌-◌, ◌<◌, ◌≤◌, ◌||◌, length, arith, List, [], ◌∷◌, ◌++◌, true, false, refl, sym, ap, ◌∙◌, cond, get_or, insert, remove, set, slice_get, string_bytes, take, drop, Option, Some, None, option_map}
use Rattle.std.specs.List.{swap}
use Rattle.std.specs.Prelude.{IsPermutation}
use Rattle.std.specs.Option.{option_map_or}
use Rattle.std.specs.Str.{bytes_eq}
use Rattle.std.specs.declared.string.String.{String}
use Rattle.std.proofs.lemmas.List.{length-set, length-take-le, map-append, take-append-drop, take-map, take-set-le, take-take, take_at, take_more_set}
use Rattle.std.proofs.lemmas.List.Edits.{insert-append_left, length-insert, length-remove, remove-append_left, swap_is}
use Rattle.std.proofs.lemmas.List.Sorted.{list_any-IsPermutation}
use Rattle.std.proofs.lemmas.Option.{get_or_from_slice_get, slice_get-map}
use Rattle.rt_stamps.specs.Words.{as_words}
use Rattle.indexmap.specs.IndexSet.{move_index}
use Rattle.rt_tags.specs.Tags.{HaveNoRepeats, is_listed, with_name, without}
use Rattle.rt_tags.specs.Kept.{IsListing}
use Rattle.rt_tags.specs.Seen.{IsAt}
use Rattle.rt_tags.proofs.Places.{at_within, clash, got, listed_at, listed_head, listed_tail, moved_highest, name_itself, removed, split}
use Rattle.rt_tags.proofs.Sets.{listed_map}

-- LISTED AMONG THE FIRST

pub at_part : (name : List ℕ) (names : List (List ℕ)) (n i : ℕ) → i < n → IsAt name names i → IsAt name (take n names) i
at_part name [] n i l h = absurd h
at_part name (x ∷ names) zero i l h = absurd (omega (arith, l))
at_part name (x ∷ names) (suc n) zero l h = h
at_part name (x ∷ names) (suc n) (suc i) l h = (h.0, at_part name names n i (omega (arith, l)) h.1)

pub absent_part : (name : List ℕ) (names : List (List ℕ)) (n : ℕ) → is_listed name names ≡ false → is_listed name (take n names) ≡ false
absent_part name names zero h = refl
absent_part name [] (suc n) h = refl
absent_part name (x ∷ names) (suc n) h = ap (λ b. b || is_listed name (take n names)) (listed_head name x names h) ∙ absent_part name names n (listed_tail name x names h)

pub behind_part : (name : List ℕ) (names : List (List ℕ)) (n i : ℕ) → n ≤ i → IsAt name names i → is_listed name (take n names) ≡ false
behind_part name names zero i l h = refl
behind_part name [] (suc n) i l h = refl
behind_part name (x ∷ names) (suc n) zero l h = absurd (omega (arith, l))
behind_part name (x ∷ names) (suc n) (suc i) l h = ap (λ b. b || is_listed name (take n names)) h.0 ∙ behind_part name names n i (omega (arith, l)) h.1

pub no_repeats_part : (names : List (List ℕ)) (n : ℕ) → HaveNoRepeats names → HaveNoRepeats (take n names)
no_repeats_part names zero h = tt
no_repeats_part [] (suc n) h = tt
no_repeats_part (x ∷ names) (suc n) h = (absent_part x names n h.0, no_repeats_part names n h.1)

pub listed_whole : (name : List ℕ) (names : List (List ℕ)) (n : ℕ) → is_listed name (take n names) ≡ true → is_listed name names ≡ true
listed_whole name names n h = split (is_listed name names) (λ t. t) (λ f. absurd (clash (is_listed name (take n names)) h (absent_part name names n f)))

pub place_within : (name : List ℕ) (names : List (List ℕ)) (n i : ℕ) → IsListing names n → IsAt name (take n names) i → i < n
place_within name names n i k h = omega (arith, at_within name (take n names) i h, length-take-le n names k.within)

-- MOVES AMONG THE FIRST

got_left : (xs ys : List (List ℕ)) (i : ℕ) → i < length xs → slice_get (xs ++ ys) i ≡ slice_get xs i
got_left [] ys i h = absurd (omega (arith, h))
got_left (x ∷ xs) ys zero h = refl
got_left (x ∷ xs) ys (suc i) h = got_left xs ys i (omega (arith, h))

moved_left : (xs ys : List (List ℕ)) (a b : ℕ) → a < length xs → b < length xs → move_index (xs ++ ys) a b ≡ move_index xs a b ++ ys
moved_left xs ys a b h k = by (slice_get xs a) refl
  where
    by : (r : Option (List ℕ)) → slice_get xs a ≡ r → move_index (xs ++ ys) a b ≡ move_index xs a b ++ ys
    by None e =
        ap (λ o. option_map_or (λ y. insert (remove (xs ++ ys) a) b y) o (xs ++ ys)) (got_left xs ys a h ∙ e)
        ∙ ap (λ v. v ++ ys) (sym (ap (λ o. option_map_or (λ y. insert (remove xs a) b y) o xs) e))
    by (Some y) e =
        ap (λ o. option_map_or (λ z. insert (remove (xs ++ ys) a) b z) o (xs ++ ys)) (got_left xs ys a h ∙ e)
        ∙ ap (λ v. insert v b y) (remove-append_left xs ys a h)
        ∙ insert-append_left (remove xs a) ys b y (omega (arith, k, length-remove xs a h))
        ∙ ap (λ v. v ++ ys) (sym (ap (λ o. option_map_or (λ z. insert (remove xs a) b z) o xs) e))

len_moved : (xs : List (List ℕ)) (a b : ℕ) → a < length xs → b < length xs → length (move_index xs a b) ≡ length xs
len_moved xs a b h k = by (slice_get xs a) refl
  where
    by : (r : Option (List ℕ)) → slice_get xs a ≡ r → length (move_index xs a b) ≡ length xs
    by None e = ap (λ o. length (option_map_or (λ y. insert (remove xs a) b y) o xs)) e
    by (Some y) e =
        let less = length-remove xs a h in
        let more = length-insert (remove xs a) b y (omega (arith, k, less)) in
        let same : length (insert (remove xs a) b y) ≡ length xs = omega (arith, more, less, h) in
        ap (λ o. length (option_map_or (λ z. insert (remove xs a) b z) o xs)) e ∙ same

pub part_moved : (names : List (List ℕ)) (n a b : ℕ) → n ≤ length names → a < n → b < n → take n (move_index names a b) ≡ move_index (take n names) a b
part_moved names n a b l h k =
    let len = length-take-le n names l in
    let first : a < length (take n names) = omega (arith, h, len) in
    let second : b < length (take n names) = omega (arith, k, len) in
    ap (λ v. take n (move_index v a b)) (sym (take-append-drop n names))
    ∙ ap (take n) (moved_left (take n names) (drop n names) a b first second)
    ∙ take_at (move_index (take n names) a b) (drop n names) n (len_moved (take n names) a b first second ∙ len)

-- the first of the names but one that was moved behind them
pub part_highest : (name : List ℕ) (names after : List (List ℕ)) (n i : ℕ) → IsListing names n → IsAt name (take n names) i → take n after ≡ move_index (take n names) i (n - 1) → take (n - 1) after ≡ without name (take n names)
part_highest name names after n i k at e =
    let front = take n names in
    let own = no_repeats_part names n k.differ in
    let len = length-take-le n names k.within in
    let last : n - 1 ≡ length front - 1 = ap (λ v. v - 1) (sym len) in
    let below : n - 1 ≤ n = omega arith in
    let fewer : length (without name front) ≡ n - 1 = ap (λ v. length v) (sym (removed name front i own at)) ∙ length-remove-one in
    sym (take-take (n - 1) n after below)
    ∙ ap (take (n - 1)) (e ∙ moved_highest name front i (n - 1) own at last)
    ∙ take_at (without name front) (name ∷ []) (n - 1) fewer
  where
    length-remove-one : length (remove (take n names) i) ≡ n - 1
    length-remove-one = omega (arith, length-remove (take n names) i (at_within name (take n names) i at), length-take-le n names k.within)

-- A NAME THAT IS LISTED BEHIND THE FIRST

pub with_listed : (name : List ℕ) (names : List (List ℕ)) (n i : ℕ) → i < n → IsAt name names i → take n names ≡ with_name name (take n names)
with_listed name names n i l h = sym (ap (λ b. cond b (take n names) (take n names ++ name ∷ [])) (listed_at name (take n names) i (at_part name names n i l h)))

pub with_behind : (name : List ℕ) (names : List (List ℕ)) (n i : ℕ) → n ≤ i → IsAt name names i → take n names ++ name ∷ [] ≡ with_name name (take n names)
with_behind name names n i l h = sym (ap (λ b. cond b (take n names) (take n names ++ name ∷ [])) (behind_part name names n i l h))

-- a new name stands last
pub at_last : (name : List ℕ) (names : List (List ℕ)) (i : ℕ) → i ≡ length names → is_listed name names ≡ false → IsAt name (names ++ name ∷ []) i
at_last name [] zero e h = last
  where
    last : bytes_eq name name ≡ true
    last = name_itself name
at_last name [] (suc i) e h = absurd (omega (arith, e))
at_last name (x ∷ names) zero e h = absurd (omega (arith, e))
at_last name (x ∷ names) (suc i) e h = (listed_head name x names h, at_last name names i (omega (arith, e)) (listed_tail name x names h))

swapped_front : {X : Type 0} (xs : List X) (a b : ℕ) (d : X) → a < length xs → b ≤ a → take (b + 1) (swap xs a b) ≡ take b xs ++ get_or xs a d ∷ []
swapped_front xs a b d h l =
    let before : b < length xs = omega (arith, h, l) in
    let still : b < length (set xs a (get_or xs b d)) = omega (arith, before, length-set xs a (get_or xs b d)) in
    ap (take (b + 1)) (sym (swap_is xs a b d h before))
    ∙ take_more_set (set xs a (get_or xs b d)) b (get_or xs a d) still
    ∙ ap (λ v. v ++ get_or xs a d ∷ []) (take-set-le b xs a (get_or xs b d) l)

module _ {Z : Type 0} where
  pub brought : (name : List ℕ) (keys new : List (String Z)) (a b : ℕ) → a < length keys → b ≤ a → new ≡ swap keys a b → IsAt name (as_words keys) a
      → take (b + 1) (as_words new) ≡ take b (as_words keys) ++ name ∷ []
  brought name keys new a b h l e at = by (slice_get keys a) refl
    where
      by : (r : Option (String Z)) → slice_get keys a ≡ r → take (b + 1) (as_words new) ≡ take b (as_words keys) ++ name ∷ []
      by None k = let no : None ≡ Some name = sym (slice_get-map (λ s. string_bytes s) keys a ∙ ap (option_map (λ s. string_bytes s)) k) ∙ got name (as_words keys) a at in absurd (cc)
      by (Some y) k =
          let one : Some (string_bytes y) ≡ Some name = sym (slice_get-map (λ s. string_bytes s) keys a ∙ ap (option_map (λ s. string_bytes s)) k) ∙ got name (as_words keys) a at in
          let same : string_bytes y ≡ name = cc in
          take-map (λ s. string_bytes s) (b + 1) new
          ∙ ap (λ v. as_words v) (ap (take (b + 1)) e ∙ swapped_front keys a b y h l ∙ ap (λ v. take b keys ++ v ∷ []) (get_or_from_slice_get keys a y y k))
          ∙ map-append (λ s. string_bytes s) (take b keys) (y ∷ [])
          ∙ (λ j. sym (take-map (λ s. string_bytes s) b keys) j ++ same j ∷ [])

  -- the same names are there, in another order
  pub same_names : (keys new : List (String Z)) → IsPermutation keys new → (name : List ℕ) → is_listed name (as_words new) ≡ is_listed name (as_words keys)
  same_names keys new p name = sym (listed_map name new) ∙ sym (list_any-IsPermutation (λ k. bytes_eq name (string_bytes k)) keys new p) ∙ listed_map name keys
