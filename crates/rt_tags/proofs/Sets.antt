-- A set of strings and the names of it.
use Rattle.std.proofs.Common.{◌≡◌, ℕ, nat_lt, IfSome, Option, Some, None, remove, insert, slice_get, option_map, take, drop, true≢false, suc, ◌<◌, ◌+◌, ◌||◌, length, arith, List, [], ◌∷◌, ◌++◌, true, false, not, refl, sym, ap, ◌∙◌, Bool, cond, subst, string_bytes}
use Rattle.std.specs.Prelude.{Result, Ok, Err, IsOk, IfOk}
use Rattle.std.proofs.lemmas.Bool.Decides.{nat_tests}
use Rattle.std.specs.List.{list_any, position, position_or_len, IsDistinct, AllByRecursion}
use Rattle.std.specs.Option.{option_map_or}
use Rattle.std.specs.Str.{bytes_eq}
use Rattle.std.proofs.lemmas.List.{map-append, take-map, drop-map, length-append, length-map}
use Rattle.std.proofs.lemmas.Option.{slice_get-map}
use Rattle.indexmap.specs.IndexSet.{insert_key, move_index}
use Rattle.std.specs.declared.string.String.{String}
use Rattle.rt_stamps.specs.Words.{as_words}
use Rattle.rt_tags.specs.Tags.{HaveNoRepeats, is_listed}
use Rattle.rt_tags.specs.Seen.{IsAt}
use Rattle.rt_tags.proofs.Places.{split}

less : (a b : ℕ) → nat_lt a b ≡ true → a < b
less a b h = grind (arith, nat_tests)

module _ {Z : Type 0} where
  -- whether a name is listed, asked of the strings
  pub listed_map : (name : List ℕ) (keys : List (String Z)) → list_any (λ k. bytes_eq name (string_bytes k)) keys ≡ is_listed name (as_words keys)
  listed_map name [] = refl
  listed_map name (x ∷ keys) = ap (λ b. bytes_eq name (string_bytes x) || b) (listed_map name keys)

  -- the first string that passes stands where the name does
  pub at_first : (name : List ℕ) (keys : List (String Z)) → position_or_len (λ k. bytes_eq name (string_bytes k)) keys < length keys → IsAt name (as_words keys) (position_or_len (λ k. bytes_eq name (string_bytes k)) keys)
  at_first name [] h = absurd (omega (arith, h))
  at_first name (x ∷ keys) h =
      let p = position_or_len (λ k. bytes_eq name (string_bytes k)) keys in
      split (bytes_eq name (string_bytes x))
      (λ t. subst (λ b. IsAt name (as_words (x ∷ keys)) (cond (not b) (1 + p) 0)) (sym t) t)
      (λ f. let next : suc p ≡ 1 + p = omega arith in
      let within : 1 + p < length (x ∷ keys) = subst (λ b. cond (not b) (1 + p) 0 < length (x ∷ keys)) f h in
      let rest : IsAt name (as_words keys) p = at_first name keys (omega (arith, within)) in
      let here : IsAt name (as_words (x ∷ keys)) (1 + p) = subst (λ v. IsAt name (as_words (x ∷ keys)) v) next (f, rest) in
      subst (λ b. IsAt name (as_words (x ∷ keys)) (cond (not b) (1 + p) 0)) (sym f) here)

  pub at_position : (name : List ℕ) (keys : List (String Z)) (r : Option ℕ) → r ≡ position (λ k. bytes_eq name (string_bytes k)) keys → IfSome r (λ i. IsAt name (as_words keys) i)
  at_position name keys r e =
      let p = position_or_len (λ k. bytes_eq name (string_bytes k)) keys in
      let P : ℕ → Type 0 = λ i. IsAt name (as_words keys) i in
      subst (λ (o : Option ℕ). IfSome o P) (sym e)
      (split (nat_lt p (length keys))
      (λ t. subst (λ b. IfSome (cond b (Some p) None) P) (sym t) (at_first name keys (less p (length keys) t)))
      (λ f. subst (λ b. IfSome (cond b (Some p) None) P) (sym f) tt))

  apart : (x : String Z) (keys : List (String Z)) → AllByRecursion (λ y. bytes_eq (string_bytes x) (string_bytes y) ≡ false) keys → is_listed (string_bytes x) (as_words keys) ≡ false
  apart x [] h = refl
  apart x (y ∷ keys) h = ap (λ b. b || is_listed (string_bytes x) (as_words keys)) h.0 ∙ apart x keys h.1

  pub no_repeats : (keys : List (String Z)) → IsDistinct (λ a b. bytes_eq (string_bytes a) (string_bytes b)) keys → HaveNoRepeats (as_words keys)
  unfolding IsDistinct
  no_repeats [] h = tt
  no_repeats (x ∷ keys) h = (apart x keys h.0, no_repeats keys h.1)

  -- a new string goes behind the others
  pub added : {E : Type 0} (s : String Z) (keys new : List (String Z)) (r : Result Bool E) → IsOk r → IfOk r (λ _. new ≡ insert_key (λ a b. bytes_eq (string_bytes a) (string_bytes b)) keys s) → is_listed (string_bytes s) (as_words keys) ≡ false → new ≡ keys ++ s ∷ []
  added s keys new (Ok x) h k f = k ∙ ap (λ b. cond b keys (keys ++ s ∷ [])) (listed_map (string_bytes s) keys ∙ f)
  added s keys new (Err e) h k f = absurd (true≢false (sym h))

  pub names_added : (s : String Z) (keys new : List (String Z)) → new ≡ keys ++ s ∷ [] → as_words new ≡ as_words keys ++ string_bytes s ∷ []
  names_added s keys new e = ap (λ v. as_words v) e ∙ map-append (λ s. string_bytes s) keys (s ∷ [])

  pub len_added : (s : String Z) (keys new : List (String Z)) → new ≡ keys ++ s ∷ [] → length new ≡ length keys + 1
  len_added s keys new e = ap (λ v. length v) e ∙ length-append keys (s ∷ [])

  pub names_removed : (keys : List (String Z)) (i : ℕ) → as_words (remove keys i) ≡ remove (as_words keys) i
  names_removed keys i = map-append (λ s. string_bytes s) (take i keys) (drop (suc i) keys) ∙ (λ j. sym (take-map (λ s. string_bytes s) i keys) j ++ sym (drop-map (λ s. string_bytes s) (suc i) keys) j)

  names_inserted : (keys : List (String Z)) (i : ℕ) (s : String Z) → as_words (insert keys i s) ≡ insert (as_words keys) i (string_bytes s)
  names_inserted keys i s = map-append (λ s. string_bytes s) (take i keys) (s ∷ drop i keys) ∙ (λ j. sym (take-map (λ s. string_bytes s) i keys) j ++ string_bytes s ∷ sym (drop-map (λ s. string_bytes s) i keys) j)

  pub names_moved : (keys : List (String Z)) (a b : ℕ) → as_words (move_index keys a b) ≡ move_index (as_words keys) a b
  names_moved keys a b = by (slice_get keys a) refl
    where
      by : (r : Option (String Z)) → slice_get keys a ≡ r → as_words (move_index keys a b) ≡ move_index (as_words keys) a b
      by None e =
          ap (λ o. as_words (option_map_or (λ y. insert (remove keys a) b y) o keys)) e
          ∙ sym (ap (λ o. option_map_or (λ y. insert (remove (as_words keys) a) b y) o (as_words keys)) (slice_get-map (λ s. string_bytes s) keys a ∙ ap (option_map (λ s. string_bytes s)) e))
      by (Some y) e =
          ap (λ o. as_words (option_map_or (λ z. insert (remove keys a) b z) o keys)) e ∙ names_inserted (remove keys a) b y ∙ ap (λ l. insert l b (string_bytes y)) (names_removed keys a)
          ∙ sym (ap (λ o. option_map_or (λ z. insert (remove (as_words keys) a) b z) o (as_words keys)) (slice_get-map (λ s. string_bytes s) keys a ∙ ap (option_map (λ s. string_bytes s)) e))

  -- as many names as strings
  pub len_names : (keys : List (String Z)) → length (as_words keys) ≡ length keys
  len_names keys = length-map keys (λ s. string_bytes s)
