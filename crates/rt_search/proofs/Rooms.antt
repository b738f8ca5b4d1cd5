-- The places of a stretch where a match has room are those that count; the places that a pass leaves behind.
use Rattle.std.proofs.Common.{◌≡◌, ℕ, zero, suc, ◌+◌, ◌-◌, ◌<◌, ◌≤◌, ◌⊎◌, inl, inr, ◌∷◌, ◌++◌, [], Bool, true, false, cond, ◌&&◌, nat_le, List, length, get_or, drop, append-nil, arith, ap, refl, sym, ◌∙◌}
use Rattle.std.specs.Prelude.{filter, reverse}
use Rattle.std.specs.List.{range_with_len}
use Rattle.std.proofs.lemmas.Bool.{cases_lt}
use Rattle.std.proofs.lemmas.Bool.Decides.{nat_tests}
use Rattle.std.proofs.lemmas.List.{drop_all, drop_more, reverse-append}
use Rattle.std.proofs.lemmas.List.Elements.{filter-append}
use Rattle.rt_search.specs.declared.search.Direction.{Direction}
use Rattle.rt_search.specs.declared.search.Direction.TheVariants.{Forwards, Backwards}
use Rattle.rt_search.specs.declared.search.Strictness.{Strictness}
use Rattle.rt_search.specs.declared.search.Strictness.TheVariants.{First, Strict}
use Rattle.rt_search.specs.declared.search.Search.{Search}
use Rattle.rt_lines.specs.declared.stretch.Stretch.{Stretch}
use Rattle.rt_search.specs.Ends.{IsBefore}
use Rattle.rt_search.specs.Searches.{is_match, ordered_places, stands_at}
use Rattle.rt_search.proofs.Finding.{tested}

-- ROOM

without : (f : ℕ → Bool) (begin many : ℕ) → ((place : ℕ) → begin ≤ place → place < begin + many → f place ≡ false) → filter f (range_with_len begin many) ≡ []
without f begin zero h = refl
without f begin (suc many) h = rw (h begin (omega arith) (omega arith)) (without f (begin + 1) many (λ place l k. h place (omega arith) (omega arith)))

fewer : (f g : ℕ → Bool) (begin many few : ℕ) → few ≤ many → ((place : ℕ) → begin ≤ place → place < begin + few → f place ≡ g place)
    → ((place : ℕ) → begin + few ≤ place → place < begin + many → f place ≡ false) → filter f (range_with_len begin many) ≡ filter g (range_with_len begin few)
fewer f g begin many zero h e n = without f begin many (λ place l k. n place (omega arith) k)
fewer f g begin zero (suc few) h e n = absurd (omega arith)
fewer f g begin (suc many) (suc few) h e n =
    rw (e begin (omega arith) (omega arith))
    (ap (λ xs. cond (g begin) (begin ∷ xs) xs)
    (fewer f g (begin + 1) many few (omega arith) (λ place l k. e place (omega arith) (omega arith)) (λ place l k. n place (omega arith) (omega arith))))

turned : (f : ℕ → Bool) (xs : List ℕ) → filter f (reverse xs) ≡ reverse (filter f xs)
turned f [] = refl
turned f (x ∷ xs) =
    ap (filter f) (reverse-append (x ∷ []) xs)
    ∙ filter-append f (reverse xs) (x ∷ [])
    ∙ ap (λ ys. ys ++ filter f (x ∷ [])) (turned f xs)
    ∙ one (f x) refl
  where
    one : (b : Bool) → f x ≡ b → reverse (filter f xs) ++ filter f (x ∷ []) ≡ reverse (filter f (x ∷ xs))
    one true e = rw e (sym (reverse-append (x ∷ []) (filter f xs)))
    one false e = rw e (append-nil (reverse (filter f xs)))

room_up : (f g : ℕ → Bool) (stretch room : Stretch) → room.begin ≡ stretch.begin → room.end ≤ stretch.end
    → ((place : ℕ) → place < room.end → f place ≡ g place) → ((place : ℕ) → room.end ≤ place → place < stretch.end → f place ≡ false)
    → filter f (range_with_len stretch.begin (stretch.end - stretch.begin)) ≡ filter g (range_with_len room.begin (room.end - room.begin))
room_up f g stretch room b h e n =
    fewer f g stretch.begin (stretch.end - stretch.begin) (room.end - room.begin) (omega arith) (λ place l k. e place (omega arith)) (λ place l k. n place (omega arith) (omega arith))
    ∙ ap (λ begin. filter g (range_with_len begin (room.end - room.begin))) (sym b)

pub with_room : (d : Direction) (f g : ℕ → Bool) (stretch room : Stretch) → room.begin ≡ stretch.begin → room.end ≤ stretch.end
    → ((place : ℕ) → place < room.end → f place ≡ g place) → ((place : ℕ) → room.end ≤ place → place < stretch.end → f place ≡ false)
    → filter f (ordered_places d stretch) ≡ filter g (ordered_places d room)
with_room Forwards f g stretch room b h e n = room_up f g stretch room b h e n
with_room Backwards f g stretch room b h e n =
    turned f (range_with_len stretch.begin (stretch.end - stretch.begin))
    ∙ ap reverse (room_up f g stretch room b h e n)
    ∙ sym (turned g (range_with_len room.begin (room.end - room.begin)))

-- a match may end behind its stretch, or at its end
pub last_late : (strictness : Strictness) (end size last : ℕ) → end ≤ size → (strictness ≡ First → last ≡ size) → (strictness ≡ Strict → last ≡ end) → end ≤ last
last_late First end size last h f g = omega (arith, f refl)
last_late Strict end size last h f g = omega (arith, g refl)

-- what the search has passed before the stretch it has passed before the room
pub before_room : (d : Direction) (stretch room : Stretch) (place : ℕ) → room.begin ≡ stretch.begin → room.end ≤ stretch.end → IsBefore d stretch place → IsBefore d room place
before_room Forwards stretch room place b e h = omega arith
before_room Backwards stretch room place b e h = omega arith

and_true : (b c : Bool) → c ≡ true → (b && c) ≡ b
and_true true c h = h
and_true false c h = refl

and_false : (b c : Bool) → c ≡ false → (b && c) ≡ false
and_false true c h = h
and_false false c h = refl

ends : (a b : ℕ) → a ≤ b → nat_le a b ≡ true
ends a b h = grind (arith, nat_tests)

runs_on : (a b : ℕ) → b < a → nat_le a b ≡ false
runs_on a b h = grind (arith, nat_tests)

module _ (search : Search) (pattern text : List ℕ) (stretch : Stretch) (last place : ℕ) (within : place < stretch.end) (there : stretch.end ≤ length text) (first : search.strictness ≡ First → last ≡ length text) (strict : search.strictness ≡ Strict → last ≡ stretch.end) where
  test : is_match search pattern text stretch place ≡ (stands_at search.case pattern text place && nat_le (place + length pattern) last)
  test = tested search pattern text stretch place last (length text) _ _ within there refl first strict refl refl

  pub test_within : place + length pattern ≤ last → is_match search pattern text stretch place ≡ stands_at search.case pattern text place
  test_within h = test ∙ and_true (stands_at search.case pattern text place) (nat_le (place + length pattern) last) (ends (place + length pattern) last h)

  pub test_past : last < place + length pattern → is_match search pattern text stretch place ≡ false
  test_past h = test ∙ and_false (stands_at search.case pattern text place) (nat_le (place + length pattern) last) (runs_on (place + length pattern) last h)

-- WHAT IS LEFT

pub skip_one : (test : ℕ → Bool) (xs : List ℕ) (i : ℕ) → (i < length xs → test (get_or xs i 0) ≡ false) → filter test (drop i xs) ≡ filter test (drop (i + 1) xs)
skip_one test xs i h = by (cases_lt i (length xs))
  where
    by : (i < length xs) ⊎ (length xs ≤ i) → filter test (drop i xs) ≡ filter test (drop (i + 1) xs)
    by (inl l) = ap (filter test) (drop_more xs i 0 l) ∙ (rw (h l) refl)
    by (inr l) = rw (drop_all i xs l, drop_all (i + 1) xs (omega arith)) refl

-- the places of a list from one on to another have none
pub skips : (test : ℕ → Bool) (xs : List ℕ) (i n : ℕ) → ((k : ℕ) → i ≤ k → k < i + n → k < length xs → test (get_or xs k 0) ≡ false) → filter test (drop i xs) ≡ filter test (drop (i + n) xs)
skips test xs i zero h = ap (λ k. filter test (drop k xs)) (omega arith)
skips test xs i (suc n) h =
    skip_one test xs i (λ l. h i (omega arith) (omega arith) l)
    ∙ skips test xs (i + 1) n (λ k l m o. h k (omega arith) (omega arith) o)
    ∙ ap (λ k. filter test (drop k xs)) (omega arith)

pub takes : (test : ℕ → Bool) (xs : List ℕ) (i : ℕ) → i < length xs → test (get_or xs i 0) ≡ true → filter test (drop i xs) ≡ get_or xs i 0 ∷ filter test (drop (i + 1) xs)
takes test xs i l h = ap (filter test) (drop_more xs i 0 l) ∙ (rw h refl)

pub none_left : (test : ℕ → Bool) (xs : List ℕ) (i : ℕ) → length xs ≤ i → filter test (drop i xs) ≡ []
none_left test xs i l = rw (drop_all i xs l) refl
