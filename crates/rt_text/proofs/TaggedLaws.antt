-- Places of characters that have a tag.
use Rattle.std.proofs.Common.{◌≡◌, ℕ, zero, suc, ◌+◌, ◌<◌, ◌≤◌, List, [], ◌∷◌, Bool, true, false, not, cond, length, drop, position, refl, sym, ◌∙◌, ap, Some, None, option_map, slice_get, arith}
use Rattle.std.specs.Str.{bytes_eq}
use Rattle.std.proofs.lemmas.List.{drop_all}
use Rattle.rt_stamps.specs.declared.stamp.Stamp.{Stamp}
use Rattle.rt_store.specs.declared.cell.Cell.{Cell}
use Rattle.rt_store.specs.Tagged.{last_place, next_place, previous_place, tag_is}
use Rattle.rt_store.proofs.Nearest.{next_here, next_none, next_on, position_cons, previous_here, previous_on}
use Rattle.rt_tags.specs.States.{TagStates, is_on, name_at, state_at}
use Rattle.rt_tags.specs.Tags.{sel}
use Rattle.rt_store.specs.Spans.{is_among}
use Rattle.rt_text.specs.Widgets.{is_tagged_in}
use Rattle.rt_store.specs.Shown.{shown}

-- TESTS OF CHARACTERS

-- a tag is on a character of a widget, or it isn't, as is asked
abbrev pub asks : TagStates → List Stamp → List ℕ → Bool → Cell ℕ → Bool
asks table stamps name on cell = cond on (is_tagged_in stamps name (shown table cell)) (not (is_tagged_in stamps name (shown table cell)))

-- a character is selected, or it isn't, as is asked
abbrev pub selects : List Stamp → Bool → Cell ℕ → Bool
selects stamps on cell = cond on (is_among stamps cell.stamp) (not (is_among stamps cell.stamp))

module _ (table : TagStates) (stamps : List Stamp) (name : List ℕ) (on : Bool) where
  by_test : Bool → Cell ℕ → Bool
  by_test b cell = cond on (cond b (is_among stamps cell.stamp) (is_on name (state_at table cell.state))) (not (cond b (is_among stamps cell.stamp) (is_on name (state_at table cell.state))))

  pub asks_selected : bytes_eq name sel ≡ true → asks table stamps name on ≡ selects stamps on
  unfolding by_test
  asks_selected h = ap by_test h

  pub asks_known : (tag : ℕ) → bytes_eq name sel ≡ false → name_at table tag ≡ name → asks table stamps name on ≡ tag_is table tag on
  unfolding by_test
  asks_known tag h k = ap by_test h ∙ (λ j cell. cond on (is_on (sym k j) (state_at table cell.state)) (not (is_on (sym k j) (state_at table cell.state))))

  pub asks_unknown : bytes_eq name sel ≡ false → ((state : ℕ) → is_on name (state_at table state) ≡ false) → asks table stamps name on ≡ (λ _. cond on false true)
  unfolding by_test
  asks_unknown h k = ap by_test h ∙ (λ j cell. cond on (k cell.state j) (not (k cell.state j)))

-- PLACES

module _ {A : Type 0} where
  pub dropped : (xs : List A) (i : ℕ) (x : A) → slice_get xs i ≡ Some x → drop i xs ≡ x ∷ drop (suc i) xs
  dropped [] i x h = let bad : ⊥ = cc in absurd bad
  dropped (y ∷ xs) zero x h = let same : y ≡ x = cc in ap (λ z. z ∷ xs) same
  dropped (y ∷ xs) (suc i) x h = dropped xs i x h

  pub next_found : (test : A → Bool) (cs : List A) (at : ℕ) (c : A) → slice_get cs at ≡ Some c → test c ≡ true → next_place test cs at ≡ Some at
  next_found test cs at c h e = next_here test cs at c (drop (suc at) cs) (dropped cs at c h) e

  pub next_passed : (test : A → Bool) (cs : List A) (at : ℕ) (c : A) → slice_get cs at ≡ Some c → test c ≡ false → next_place test cs at ≡ next_place test cs (at + 1)
  next_passed test cs at c h e = next_on test cs at c (drop (suc at) cs) (dropped cs at c h) e

  pub next_end : (test : A → Bool) (cs : List A) (at : ℕ) → length cs ≤ at → next_place test cs at ≡ None
  next_end test cs at h = next_none test cs at at (drop_all at cs h) (omega arith)

  pub previous_found : (test : A → Bool) (cs : List A) (at : ℕ) (c : A) → slice_get cs at ≡ Some c → test c ≡ true → previous_place test cs (at + 1) ≡ Some at
  previous_found test cs at c h e = previous_here test cs at c (drop (suc at) cs) (dropped cs at c h) e

  pub previous_passed : (test : A → Bool) (cs : List A) (at : ℕ) (c : A) → slice_get cs at ≡ Some c → test c ≡ false → previous_place test cs (at + 1) ≡ previous_place test cs at
  previous_passed test cs at c h e = previous_on test cs at c (drop (suc at) cs) (dropped cs at c h) e

  -- a test that nothing passes, and one that all pass
  none_passes : (cs : List A) → position (λ _. false) cs ≡ None
  none_passes [] = refl
  none_passes (c ∷ cs) = position_cons (λ _. false) c cs ∙ ap (option_map suc) (none_passes cs)

  pub next_never : (cs : List A) (place : ℕ) → next_place (λ _. false) cs place ≡ None
  next_never cs place = ap (option_map (λ k. place + k)) (none_passes (drop place cs))

  pub last_never : (cs : List A) → last_place (λ _. false) cs ≡ None
  last_never [] = refl
  last_never (c ∷ cs) = rw (last_never cs) refl

  pub next_always : (cs : List A) (place : ℕ) → place < length cs → next_place (λ _. true) cs place ≡ Some place
  next_always cs place h = at_rest (drop place cs) refl
    where
      nothing_left : (xs : List A) (n : ℕ) → n < length xs → drop n xs ≡ [] → ⊥
      nothing_left [] n k e = omega (arith, k)
      nothing_left (x ∷ xs) zero k e = let bad : ⊥ = cc in bad
      nothing_left (x ∷ xs) (suc n) k e = nothing_left xs n (omega (arith, k)) e

      at_rest : (rest : List A) → drop place cs ≡ rest → next_place (λ _. true) cs place ≡ Some place
      at_rest [] e = absurd (nothing_left cs place h e)
      at_rest (c ∷ rest) e = next_here (λ _. true) cs place c rest e refl
