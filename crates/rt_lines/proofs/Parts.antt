-- What stands at the places of a stretch.
use Rattle.std.proofs.Common.{◌≡◌, ℕ, zero, suc, ◌+◌, ◌-◌, ◌<◌, ◌≤◌, List, [], ◌∷◌, length, take, drop, map, refl, sym, ap, ◌∙◌, arith}
use Rattle.std.specs.Prelude.{slice_get}
use Rattle.std.proofs.lemmas.List.{drop-map, length-drop, length-take, take-map}
use Rattle.rt_lines.specs.declared.stretch.Stretch.{Stretch}
use Rattle.rt_lines.specs.Stretches.{part}

pub part_map : {A B : Type 0} (f : A → B) (stretch : Stretch) (xs : List A) → map f (part stretch xs) ≡ part stretch (map f xs)
part_map f stretch xs =
    sym (take-map f (stretch.end - stretch.begin) (drop stretch.begin xs)) ∙ ap (take (stretch.end - stretch.begin)) (sym (drop-map f stretch.begin xs))

pub part_length : {A : Type 0} (stretch : Stretch) (xs : List A) → stretch.end ≤ length xs → length (part stretch xs) ≡ stretch.end - stretch.begin
part_length stretch xs h =
    omega (arith, h, length-take (stretch.end - stretch.begin) (drop stretch.begin xs), length-drop stretch.begin xs)

-- the element at a place
pub get_drop : {A : Type 0} (xs : List A) (b n : ℕ) → slice_get (drop b xs) n ≡ slice_get xs (b + n)
get_drop xs zero n = let e : 0 + n ≡ n = omega arith in ap (slice_get xs) (sym e)
get_drop [] (suc b) n = refl
get_drop (x ∷ xs) (suc b) n = let e : suc b + n ≡ suc (b + n) = omega arith in get_drop xs b n ∙ ap (slice_get (x ∷ xs)) (sym e)

take_get : {A : Type 0} (xs : List A) (n k : ℕ) → k < n → slice_get (take n xs) k ≡ slice_get xs k
take_get xs zero k h = absurd (omega arith)
take_get [] (suc n) k h = refl
take_get (x ∷ xs) (suc n) zero h = refl
take_get (x ∷ xs) (suc n) (suc k) h = take_get xs n k (omega arith)

pub part_get : {A : Type 0} (stretch : Stretch) (xs : List A) (n : ℕ) → n < stretch.end - stretch.begin → slice_get (part stretch xs) n ≡ slice_get xs (stretch.begin + n)
part_get stretch xs n h = take_get (drop stretch.begin xs) (stretch.end - stretch.begin) n h ∙ get_drop xs stretch.begin n
