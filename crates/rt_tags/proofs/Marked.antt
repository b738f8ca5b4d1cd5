-- Names that are marked, and put behind those that aren't.
use Rattle.std.proofs.Common.{◌≡◌, ℕ, zero, suc, ◌+◌, ◌<◌, ◌≤◌, ◌||◌, ◌&&◌, length, arith, List, [], ◌∷◌, ◌++◌, true, false, not, refl, sym, ap, subst, ◌∙◌, Bool, cond, drop, filter, get_or, map, replicate, set, take, append-nil, string_bytes, String, Global}
use Rattle.std.specs.List.{swap}
use Rattle.std.specs.Str.{bytes_eq}
use Rattle.std.proofs.lemmas.List.{drop-map, drop-set-lt, get_or-drop, get_or-map, map_more, take_more}
use Rattle.std.proofs.lemmas.List.Edits.{swap_is}
use Rattle.std.proofs.lemmas.List.Elements.{filter-append}
use Rattle.std.proofs.lemmas.List.Folds.{list_any-append}
use Rattle.rt_stamps.specs.Words.{as_words}
use Rattle.rt_tags.specs.Tags.{HaveNoRepeats, is_forgotten, is_listed, sel}
use Rattle.rt_tags.specs.Seen.{IsAt}
use Rattle.rt_tags.proofs.Places.{clash, listed_head, listed_tail, name_itself, same_name, split}

-- MARKS

abbrev pub also : List ℕ → (List ℕ → Bool) → List ℕ → Bool
also name test x = test x || (bytes_eq x name && not (bytes_eq x sel))

or_true : (b : Bool) → (b || true) ≡ true
or_true true = refl
or_true false = refl

or_false : (b : Bool) → (b || false) ≡ b
or_false true = refl
or_false false = refl

turned : (x y : List ℕ) → bytes_eq x y ≡ false → bytes_eq y x ≡ false
turned x y h = split (bytes_eq y x) (λ t. absurd (clash (bytes_eq x y) (subst (λ v. bytes_eq v y ≡ true) (same_name y x t) (name_itself y)) h)) (λ f. f)

module _ (name : List ℕ) (test : List ℕ → Bool) where
  not_same : (x : List ℕ) → bytes_eq name x ≡ false → also name test x ≡ test x
  not_same x h = ap (λ b. test x || (b && not (bytes_eq x sel))) (turned name x h) ∙ or_false (test x)

  pub none_marked : (names : List (List ℕ)) → is_listed name names ≡ false → map test names ≡ map (also name test) names
  none_marked [] h = refl
  none_marked (x ∷ names) h = λ j. sym (not_same x (listed_head name x names h)) j ∷ none_marked names (listed_tail name x names h) j

  module _ (shared : bytes_eq name sel ≡ false) where
    itself : (x : List ℕ) → bytes_eq name x ≡ true → also name test x ≡ true
    itself x h =
        subst (λ v. also name test v ≡ true) (same_name name x h)
        (ap (λ b. test name || (b && not (bytes_eq name sel))) (name_itself name) ∙ ap (λ b. test name || not b) shared ∙ or_true (test name))

    pub one_marked : (names : List (List ℕ)) (i : ℕ) → HaveNoRepeats names → IsAt name names i → set (map test names) i true ≡ map (also name test) names
    one_marked [] i h k = absurd k
    one_marked (x ∷ names) zero h k =
        let absent : is_listed name names ≡ false = subst (λ v. is_listed v names ≡ false) (sym (same_name name x k)) h.0 in
        λ j. sym (itself x k) j ∷ none_marked names absent j
    one_marked (x ∷ names) (suc i) h k = λ j. sym (not_same x k.0) j ∷ one_marked names i h.1 k.1 j

-- A LIST OF NAMES

pub nothing_given : (marks : List Bool) (names : List (List ℕ)) → length marks ≡ length names → replicate (length marks) false ≡ map (is_forgotten []) names
nothing_given marks names e = ap (λ n. replicate n false) e ∙ each names where
  each : (names : List (List ℕ)) → replicate (length names) false ≡ map (is_forgotten []) names
  each [] = refl
  each (x ∷ names) = λ j. false ∷ each names j

pub one_more : (given : List (String Global)) (i : ℕ) (name : String Global) (bytes : List ℕ) (names : List (List ℕ)) → i < length given → name ≡ get_or given i name → bytes ≡ string_bytes name
    → map (also bytes (is_forgotten (as_words (take i given)))) names ≡ map (is_forgotten (as_words (take (i + 1) given))) names
one_more given i name bytes names l e b = (λ j. map (λ x. grown x j) names) ∙ ap (λ v. map (is_forgotten v) names) longer where
  either : (a b s : Bool) → ((a && not s) || (b && not s)) ≡ ((a || (b || false)) && not s)
  either true true true = refl
  either true true false = refl
  either true false true = refl
  either true false false = refl
  either false true true = refl
  either false true false = refl
  either false false true = refl
  either false false false = refl

  grown : (x : List ℕ) → also bytes (is_forgotten (as_words (take i given))) x ≡ is_forgotten (as_words (take i given) ++ bytes ∷ []) x
  grown x =
      either (is_listed x (as_words (take i given))) (bytes_eq x bytes) (bytes_eq x sel)
      ∙ ap (λ v. v && not (bytes_eq x sel)) (sym (list_any-append (bytes_eq x) (as_words (take i given)) (bytes ∷ [])))

  longer : as_words (take i given) ++ bytes ∷ [] ≡ as_words (take (i + 1) given)
  longer = ap (λ v. as_words (take i given) ++ v ∷ []) (b ∙ ap (λ (w : String Global). string_bytes w) e) ∙ sym (map_more (λ w. string_bytes w) given i name l)

-- PARTING

dropped_swapped : {X : Type 0} (xs : List X) (a b : ℕ) → a < length xs → b ≤ a → drop (a + 1) (swap xs a b) ≡ drop (a + 1) xs
dropped_swapped [] a b h l = absurd (omega (arith, h))
dropped_swapped (x ∷ xs) a b h l =
    let ys = x ∷ xs in
    ap (drop (a + 1)) (sym (swap_is ys a b x h (omega (arith, h, l))))
    ∙ drop-set-lt (a + 1) (set ys a (get_or ys b x)) b (get_or ys a x) (omega (arith, l))
    ∙ drop-set-lt (a + 1) ys a (get_or ys b x) (omega arith)

module _ {Z : Type 0} where
  -- the names behind two that change places
  pub behind_both : (keys new : List (String Z)) (a b : ℕ) → a < length keys → b ≤ a → new ≡ swap keys a b → drop (a + 1) (as_words new) ≡ drop (a + 1) (as_words keys)
  behind_both keys new a b h l e =
      drop-map (λ s. string_bytes s) (a + 1) new
      ∙ ap (λ v. as_words v) (ap (drop (a + 1)) e ∙ dropped_swapped keys a b h l)
      ∙ sym (drop-map (λ s. string_bytes s) (a + 1) keys)

apart_from : (x : List ℕ) (names : List (List ℕ)) (i : ℕ) → is_listed x names ≡ false → i < length names → bytes_eq (get_or names i []) x ≡ false
apart_from x [] i h l = absurd (omega (arith, l))
apart_from x (y ∷ names) zero h l = turned x y (listed_head x y names h)
apart_from x (y ∷ names) (suc i) h l = apart_from x names i (listed_tail x y names h) (omega (arith, l))

-- each name stands at its index
pub stands : (names : List (List ℕ)) (i : ℕ) → HaveNoRepeats names → i < length names → IsAt (get_or names i []) names i
stands [] i h l = absurd (omega (arith, l))
stands (x ∷ names) zero h l = name_itself x
stands (x ∷ names) (suc i) h l = (apart_from x names i h.0 (omega (arith, l)), stands names i h.1 (omega (arith, l)))

pub read_behind : (xs ys : List (List ℕ)) (i : ℕ) → drop i xs ≡ drop i ys → get_or xs i [] ≡ get_or ys i []
read_behind xs ys i e =
    let at : i + 0 ≡ i = omega arith in
    sym (ap (λ k. get_or xs k []) at) ∙ sym (get_or-drop i xs 0 []) ∙ ap (λ v. get_or v 0 []) e ∙ get_or-drop i ys 0 [] ∙ ap (λ k. get_or ys k []) at

module _ (names : List (List ℕ)) (marks : List Bool) (test : List ℕ → Bool) (i : ℕ) (l : i < length names) (is : marks ≡ map test names) where
  abbrev pub here : List ℕ
  here = get_or names i []

  abbrev pub stays : List ℕ → Bool
  stays x = not (test x)

  read : get_or marks i false ≡ test here
  read = ap (λ v. get_or v i false) is ∙ get_or-map test names i [] false l

  more : filter stays (take i names) ++ filter stays (here ∷ []) ≡ filter stays (take (i + 1) names)
  more = sym (filter-append stays (take i names) (here ∷ [])) ∙ ap (filter stays) (sym (take_more names i [] l))

  pub kept_here : (front : List (List ℕ)) → get_or marks i false ≡ false → front ≡ filter (λ x. not (test x)) (take i names) → front ++ here ∷ [] ≡ filter (λ x. not (test x)) (take (i + 1) names)
  kept_here front m f =
      let one : filter stays (here ∷ []) ≡ here ∷ [] = ap (λ b. cond (not b) (here ∷ []) []) (sym read ∙ m) in
      (λ j. f j ++ sym one j) ∙ more

  pub gone_here : (front : List (List ℕ)) → get_or marks i false ≡ true → front ≡ filter (λ x. not (test x)) (take i names) → front ≡ filter (λ x. not (test x)) (take (i + 1) names)
  gone_here front m f =
      let none : filter stays (here ∷ []) ≡ [] = ap (λ b. cond (not b) (here ∷ []) []) (sym read ∙ m) in
      sym (append-nil front) ∙ (λ j. f j ++ sym none j) ∙ more
