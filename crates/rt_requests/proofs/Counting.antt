-- Switches in front of words, as slices have them.
use Rattle.std.proofs.Common.{◌≡◌, ℕ, ◌+◌, ◌-◌, ◌||◌, Bool, List, [], ◌∷◌, cond, map, take, drop, length, refl, ap, arith, String, Global, string_bytes}
use Rattle.std.specs.List.{list_any, prefix_len}
use Rattle.std.proofs.lemmas.List.{take-map, drop-map, take_all, length-drop}
use Rattle.rt_stamps.specs.Words.{Word, as_words}

-- the words at the front that pass a test
pub prefix_len_map : {X Y : Type 0} (f : X → Y) (p : Y → Bool) (xs : List X) → prefix_len p (map f xs) ≡ prefix_len (λ x. p (f x)) xs
prefix_len_map f p [] = refl
prefix_len_map f p (x ∷ xs) = ap (λ n. cond (p (f x)) (1 + n) 0) (prefix_len_map f p xs)

-- a list of values has one that passes a test
pub any_map : {X Y : Type 0} (p : Y → Bool) (h : X → Y) (xs : List X) → list_any p (map h xs) ≡ list_any (λ x. p (h x)) xs
any_map p h [] = refl
any_map p h (x ∷ xs) = ap (λ b. p (h x) || b) (any_map p h xs)

-- words at the front, and those behind them
pub front : (words : List (String Global)) (n : ℕ) → take n (as_words words) ≡ as_words (take n words)
front words n = take-map (λ w. string_bytes w) n words

pub behind : (words : List (String Global)) (n : ℕ) → drop n (as_words words) ≡ as_words (take (length words - n) (drop n words))
behind words n =
    let rest : take (length words - n) (drop n words) ≡ drop n words = take_all (length words - n) (drop n words) (omega (arith, length-drop n words)) in
    rw (rest, drop-map (λ w. string_bytes w) n words) refl

-- switches and the words behind them, by how many switches there are
pub by_parts : {T : Type 0} (f : List Word → List Word → T) (words : List (String Global)) (n m : ℕ) → n ≡ m
    → f (take m (as_words words)) (drop m (as_words words))
    ≡ f (as_words (take n words)) (as_words (take (length words - n) (drop n words)))
by_parts f words n m e = rw (← e, front words n, behind words n) refl
