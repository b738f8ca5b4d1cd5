-- What a plan stands for, one text more.
use Rattle.std.proofs.Common.{◌≡◌, ℕ, zero, suc, ◌+◌, ◌<◌, ◌≤◌, List, [], ◌∷◌, ◌++◌, Bool, true, false, cond, ◌||◌, Option, ◌⊎◌, inl, inr, length, drop, map, get_or, refl, sym, ◌∙◌, ap, arith}
use Rattle.std.specs.Prelude.{nat_eq}
use Rattle.std.specs.List.{list_any}
use Rattle.std.specs.Str.{bytes_eq, chars}
use Rattle.std.proofs.lemmas.Bool.{or_left, or_right}
use Rattle.std.proofs.lemmas.List.{drop_more, get_or-map, length-map}
use Rattle.std.proofs.lemmas.List.Folds.{list_any-append}
use Rattle.rt_stamps.specs.declared.stamp.Stamp.{Stamp}
use Rattle.rt_stamps.specs.Stamps.{is_same}
use Rattle.rt_stamps.specs.Words.{Word}
use Rattle.rt_stamps.proofs.Order.{same_from_true}
use Rattle.rt_tags.specs.Tags.{is_listed, with_name}
use Rattle.rt_store.specs.Shown.{TaggedCell}
use Rattle.rt_plans.specs.Insertions.{Insertion, Piece, all_listed, counts_for, shared_names, tags_between, with_listed, with_pieces, with_unlisted}
use Rattle.rt_plans.specs.Selections.{with_stamp, with_stamps}
use Rattle.rt_store.specs.Spans.{is_among}
use Rattle.rt_plans.proofs.Planning.{some_left}

-- LISTS

pub any_at : {X : Type 0} (test : X → Bool) (xs : List X) (i : ℕ) (x : X) → i < length xs → x ≡ get_or xs i x → test x ≡ true → list_any test xs ≡ true
any_at test [] i x h e t = absurd (omega arith)
any_at test (y ∷ ys) zero x h e t = or_left (test y) (list_any test ys) (ap test (sym e) ∙ t)
any_at test (y ∷ ys) (suc i) x h e t = or_right (test y) (list_any test ys) (any_at test ys i x (omega (arith, h)) e t)

pub with_append : (xs ys selection : List Stamp) → with_stamps (xs ++ ys) selection ≡ with_stamps ys (with_stamps xs selection)
with_append [] ys selection = refl
with_append (x ∷ xs) ys selection = with_append xs ys (with_stamp x selection)

pub all_append : (names more tags : List Word) → all_listed (names ++ more) tags ≡ all_listed more (all_listed names tags)
all_append [] more tags = refl
all_append (name ∷ names) more tags = all_append names more (with_name name tags)

-- SELECTED OR TO BE SELECTED

or_none : (b : Bool) → (b || false) ≡ b
or_none true = refl
or_none false = refl

or_assoc : (a b c : Bool) → ((a || b) || c) ≡ (a || (b || c))
or_assoc true b c = refl
or_assoc false b c = refl

among_one : (selection : List Stamp) (x s : Stamp) → is_among (with_stamp x selection) s ≡ (is_among selection s || is_same x s)
among_one selection x s = by (is_among selection x) refl
  where
    there : (same : Bool) → is_same x s ≡ same → is_among selection x ≡ true → is_among selection s ≡ (is_among selection s || same)
    there true e h =
        let one : x ≡ s = same_from_true x s e in
        let is : is_among selection s ≡ true = ap (is_among selection) (sym one) ∙ h in
        is ∙ sym (or_left (is_among selection s) true is)
    there false e h = sym (or_none (is_among selection s))

    by : (b : Bool) → is_among selection x ≡ b → is_among (cond b selection (selection ++ x ∷ [])) s ≡ (is_among selection s || is_same x s)
    by true h = there (is_same x s) refl h
    by false h = list_any-append (λ other. is_same other s) selection (x ∷ []) ∙ ap (λ b. is_among selection s || b) (or_none (is_same x s))

pub among_with : (xs selection : List Stamp) (s : Stamp) → is_among (with_stamps xs selection) s ≡ (is_among selection s || is_among xs s)
among_with [] selection s = sym (or_none (is_among selection s))
among_with (x ∷ xs) selection s =
    among_with xs (with_stamp x selection) s ∙ ap (λ b. b || is_among xs s) (among_one selection x s) ∙ or_assoc (is_among selection s) (is_same x s) (is_among xs s)

-- NEIGHBOURS

-- A TEXT WITH A LIST

-- A TEXT WITHOUT A LIST

-- COUNTS
listed_count : (site : ℕ) (names : List Word) (text : List ℕ) (so_far : Insertion) → (with_listed site names text so_far).count ≡ so_far.count + counts_for (shared_names names) text
listed_count site names [] so_far = omega arith
listed_count site names (c ∷ text) so_far = refl

pub pieces_count : (site : ℕ) (pieces : List Piece) (so_far : Insertion) → so_far.count ≤ (with_pieces site pieces so_far).count
pieces_count site [] so_far = omega arith
pieces_count site (piece ∷ pieces) so_far =
    let next = with_listed site piece.tags (chars piece.text) so_far in
    let rest : next.count ≤ (with_pieces site pieces next).count = pieces_count site pieces next in
    let more : next.count ≡ so_far.count + counts_for (shared_names piece.tags) (chars piece.text) = listed_count site piece.tags (chars piece.text) so_far in
    omega (arith, rest, more)

-- too few counts for a piece are too few for all
pub pieces_spent : (site : ℕ) (piece : Piece) (pieces : List Piece) (so_far : Insertion) (greatest : ℕ) → greatest < so_far.count + counts_for (shared_names piece.tags) (chars piece.text) → greatest < (with_pieces site (piece ∷ pieces) so_far).count
pieces_spent site piece pieces so_far greatest h =
    let next = with_listed site piece.tags (chars piece.text) so_far in
    let rest : next.count ≤ (with_pieces site pieces next).count = pieces_count site pieces next in
    let more : next.count ≡ so_far.count + counts_for (shared_names piece.tags) (chars piece.text) = listed_count site piece.tags (chars piece.text) so_far in
    by next.count ((with_pieces site pieces next).count) (so_far.count + counts_for (shared_names piece.tags) (chars piece.text)) rest more h
  where
    by : (a b c : ℕ) → a ≤ b → a ≡ c → greatest < c → greatest < b
    by a b c p q r = omega arith

pub unlisted_count : (site : ℕ) (left right : Option TaggedCell) (text : List ℕ) (so_far : Insertion) → (with_unlisted site left right text so_far).count ≡ so_far.count + counts_for (tags_between left right) text
unlisted_count site left right [] so_far = omega arith
unlisted_count site left right (c ∷ text) so_far = refl

pub named_at : {X : Type 0} (f : X → Word) (name : Word) (xs : List X) (i : ℕ) (x : X) → i < length xs → x ≡ get_or xs i x → f x ≡ name → bytes_eq name name ≡ true → is_listed name (map f xs) ≡ true
named_at f name xs i x h e n t =
    let within : i < length (map f xs) = omega (arith, length-map xs f) in
    any_at (bytes_eq name) (map f xs) i (f x) within (sym (get_or-map f xs i x (f x) h ∙ ap f (sym e))) (ap (bytes_eq name) n ∙ t)

-- a fault that is kept, where what it stands for is
pub spent : {A B C D : Type 0} → (C → D) → A ⊎ (B × C) → A ⊎ (B × D)
spent f (inl a) = inl a
spent f (inr b) = inr (b.0, f b.1)

-- the pieces from an index on
pub pieces_from : (pieces : List Piece) (i : ℕ) (piece : Piece) → i < length pieces → piece ≡ get_or pieces i piece → piece ∷ drop (i + 1) pieces ≡ drop i pieces
pieces_from pieces i piece h e = ap (λ p. p ∷ drop (i + 1) pieces) e ∙ sym (drop_more pieces i piece h)

pub some_in : (text : List ℕ) (items : List ℕ) (n : ℕ) (empty : Bool) → n ≡ length items → items ≡ text → empty ≡ nat_eq n 0 → empty ≡ false → 1 ≤ length text
some_in text items n empty len e b f = omega (arith, some_left empty n b f, len, ap length e)
