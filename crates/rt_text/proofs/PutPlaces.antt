-- Where cells stand once others are put in behind a visible one.
use Rattle.std.proofs.Common.{◌≡◌, ℕ, zero, suc, ◌+◌, ◌<◌, ◌≤◌, ◌||◌, List, [], ◌∷◌, ◌++◌, Bool, true, false, cond, not, length, take, refl, sym, ap, subst, ◌∙◌, arith, Option, None, Some}
use Rattle.std.specs.Prelude.{option_map, slice_get}
use Rattle.std.proofs.lemmas.Bool.{le-leb, lt-leb}
use Rattle.rt_stamps.specs.declared.stamp.Stamp.{Stamp}
use Rattle.rt_stamps.specs.Stamps.{is_same}
use Rattle.rt_store.specs.declared.cell.Cell.{Cell}
use Rattle.rt_store.specs.Cells.{cell_of, position_of, stamps_of, visible_before, visible_of}
use Rattle.rt_store.specs.Spans.{is_among}
use Rattle.rt_store.proofs.Nearest.{position_cons}
use Rattle.rt_lines.specs.Limits.{place_of}
use Rattle.rt_text.proofs.NeighbourLines.{moved_by}

-- ONE CELL MORE

abbrev pub further : Bool → ℕ → ℕ
further gone place = cond gone place (suc place)

pub place_cons : {T : Type 0} (x : Cell T) (xs : List (Cell T)) (s : Stamp) → place_of (x ∷ xs) s ≡ cond (is_same x.stamp s) (Some 0) (option_map (further x.gone) (place_of xs s))
place_cons {T} x xs s = ap (option_map (visible_before (x ∷ xs))) (position_cons (λ (cell : Cell T). is_same cell.stamp s) x xs) ∙ by (is_same x.stamp s) (position_of xs s)
  where
    counted : (b : Bool) (v : List (Cell T)) → length (cond (not b) (x ∷ v) v) ≡ further b (length v)
    counted true v = refl
    counted false v = refl

    by : (b : Bool) (o : Option ℕ) → option_map (visible_before (x ∷ xs)) (cond b (Some 0) (option_map suc o)) ≡ cond b (Some 0) (option_map (further x.gone) (option_map (visible_before xs) o))
    by true o = refl
    by false None = refl
    by false (Some n) = ap Some (counted x.gone (visible_of (take n xs)))

seen_cons : {T : Type 0} (x : Cell T) (xs : List (Cell T)) → length (visible_of (x ∷ xs)) ≡ further x.gone (length (visible_of xs))
seen_cons x xs = by x.gone
  where
    by : (b : Bool) → length (cond (not b) (x ∷ visible_of xs) (visible_of xs)) ≡ further b (length (visible_of xs))
    by true = refl
    by false = refl

-- before a cell stand no more than all
pub place_most : {T : Type 0} (xs : List (Cell T)) (s : Stamp) (p : ℕ) → place_of xs s ≡ Some p → p ≤ length (visible_of xs)
place_most [] s p h = let bad : ⊥ = cc in absurd bad
place_most {T} (x ∷ xs) s p h = let all = seen_cons x xs in omega (arith, all, by (is_same x.stamp s) (place_of xs s) refl (sym (place_cons x xs s) ∙ h) (λ n e. place_most xs s n e))
  where
    less : (b : Bool) (n m : ℕ) → n ≤ m → further b n ≤ further b m
    less true n m h = h
    less false n m h = omega arith

    by : (b : Bool) (o : Option ℕ) → place_of xs s ≡ o → cond b (Some 0) (option_map (further x.gone) o) ≡ Some p → ((n : ℕ) → place_of xs s ≡ Some n → n ≤ length (visible_of xs)) → p ≤ further x.gone (length (visible_of xs))
    by true o e h f = let same : p ≡ 0 = cc in omega (arith, same)
    by false None e h f = let bad : ⊥ = cc in absurd bad
    by false (Some n) e h f =
        let same : further x.gone n ≡ p = cc in
        subst (λ q. q ≤ further x.gone (length (visible_of xs))) same (less x.gone n (length (visible_of xs)) (f n e))

-- SEVERAL

pub among_append : {T : Type 0} (xs ys : List (Cell T)) (s : Stamp) → is_among (stamps_of (xs ++ ys)) s ≡ (is_among (stamps_of xs) s || is_among (stamps_of ys) s)
among_append [] ys s = refl
among_append (x ∷ xs) ys s = by (is_same x.stamp s) (among_append xs ys s)
  where
    by : (b : Bool) → is_among (stamps_of (xs ++ ys)) s ≡ (is_among (stamps_of xs) s || is_among (stamps_of ys) s) → (b || is_among (stamps_of (xs ++ ys)) s) ≡ ((b || is_among (stamps_of xs) s) || is_among (stamps_of ys) s)
    by true h = refl
    by false h = h

pub cell_append : {T : Type 0} (xs ys : List (Cell T)) (s : Stamp) → cell_of (xs ++ ys) s ≡ cond (is_among (stamps_of xs) s) (cell_of xs s) (cell_of ys s)
cell_append [] ys s = refl
cell_append {T} (x ∷ xs) ys s = by (is_same x.stamp s) (cell_append xs ys s)
  where
    by : (b : Bool) → cell_of (xs ++ ys) s ≡ cond (is_among (stamps_of xs) s) (cell_of xs s) (cell_of ys s)
        → cond b (Some x) (cell_of (xs ++ ys) s) ≡ cond (b || is_among (stamps_of xs) s) (cond b (Some x) (cell_of xs s)) (cell_of ys s)
    by true h = refl
    by false h = h

pub place_append : {T : Type 0} (xs ys : List (Cell T)) (s : Stamp)
    → place_of (xs ++ ys) s ≡ cond (is_among (stamps_of xs) s) (place_of xs s) (option_map (λ p. length (visible_of xs) + p) (place_of ys s))
place_append {T} [] ys s = by (place_of ys s)
  where
    by : (o : Option ℕ) → o ≡ option_map (λ p. 0 + p) o
    by None = refl
    by (Some p) = ap Some (omega arith)
place_append {T} (x ∷ xs) ys s =
    place_cons x (xs ++ ys) s
    ∙ by (is_same x.stamp s) (is_among (stamps_of xs) s) (place_append xs ys s)
    ∙ (λ i. cond (is_same x.stamp s || is_among (stamps_of xs) s) (sym (place_cons x xs s) i) (option_map (λ p. sym (seen_cons x xs) i + p) (place_of ys s)))
  where
    more : (b : Bool) (n : ℕ) (o : Option ℕ) → option_map (further b) (option_map (λ p. n + p) o) ≡ option_map (λ p. further b n + p) o
    more b n None = refl
    more true n (Some p) = refl
    more false n (Some p) = ap Some (omega arith)

    by : (b a : Bool) → place_of (xs ++ ys) s ≡ cond a (place_of xs s) (option_map (λ p. length (visible_of xs) + p) (place_of ys s))
        → cond b (Some 0) (option_map (further x.gone) (place_of (xs ++ ys) s))
        ≡ cond (b || a) (cond b (Some 0) (option_map (further x.gone) (place_of xs s))) (option_map (λ p. further x.gone (length (visible_of xs)) + p) (place_of ys s))
    by true a h = refl
    by false true h = ap (option_map (further x.gone)) h
    by false false h = ap (option_map (further x.gone)) h ∙ more x.gone (length (visible_of xs)) (place_of ys s)

-- MORE CELLS

none_more : (a b : Bool) → b ≡ false → (a || b) ≡ a
none_more true b e = refl
none_more false b e = e

seen_append : {T : Type 0} (xs ys : List (Cell T)) → length (visible_of (xs ++ ys)) ≡ length (visible_of xs) + length (visible_of ys)
seen_append [] ys = omega arith
seen_append (x ∷ xs) ys = by x.gone (seen_append xs ys)
  where
    by : (b : Bool) → length (visible_of (xs ++ ys)) ≡ length (visible_of xs) + length (visible_of ys)
        → length (cond (not b) (x ∷ visible_of (xs ++ ys)) (visible_of (xs ++ ys))) ≡ length (cond (not b) (x ∷ visible_of xs) (visible_of xs)) + length (visible_of ys)
    by true h = h
    by false h = omega (arith, h)

-- a stamp that none of them has
pub cell_more : {T : Type 0} (xs new ys : List (Cell T)) (s : Stamp) → is_among (stamps_of new) s ≡ false → cell_of (xs ++ new ++ ys) s ≡ cell_of (xs ++ ys) s
cell_more xs new ys s h =
    cell_append (xs ++ new) ys s
    ∙ (λ i. cond (same i) (cell_append xs new s i) (cell_of ys s))
    ∙ by (is_among (stamps_of xs) s) ∙ sym (cell_append xs ys s)
  where
    same : is_among (stamps_of (xs ++ new)) s ≡ is_among (stamps_of xs) s
    same = among_append xs new s ∙ none_more (is_among (stamps_of xs) s) (is_among (stamps_of new) s) h

    by : (b : Bool) → cond b (cond b (cell_of xs s) (cell_of new s)) (cell_of ys s) ≡ cond b (cell_of xs s) (cell_of ys s)
    by true = refl
    by false = refl

pub place_moved : {T : Type 0} (xs new ys : List (Cell T)) (s : Stamp) (at k : ℕ) → length (visible_of xs) ≡ at → length (visible_of new) ≡ k → is_among (stamps_of new) s ≡ false
    → ((p : ℕ) → place_of xs s ≡ Some p → p < at) → place_of (xs ++ new ++ ys) s ≡ option_map (moved_by at k) (place_of (xs ++ ys) s)
place_moved {T} xs new ys s at k a n h before =
    place_append (xs ++ new) ys s
    ∙ (λ i. cond (same i) (place_append xs new s i) (option_map (λ p. size i + p) (place_of ys s)))
    ∙ by (is_among (stamps_of xs) s) (place_of xs s) refl (place_of ys s) ∙ sym (ap (option_map (moved_by at k)) (place_append xs ys s ∙ ap (λ m. cond (is_among (stamps_of xs) s) (place_of xs s) (option_map (λ p. m + p) (place_of ys s))) a))
  where
    same : is_among (stamps_of (xs ++ new)) s ≡ is_among (stamps_of xs) s
    same = among_append xs new s ∙ none_more (is_among (stamps_of xs) s) (is_among (stamps_of new) s) h

    size : length (visible_of (xs ++ new)) ≡ at + k
    size = omega (arith, seen_append xs new, a, n)

    by : (b : Bool) (o : Option ℕ) → place_of xs s ≡ o → (r : Option ℕ)
        → cond b (cond b o (option_map (λ p. length (visible_of xs) + p) (place_of new s))) (option_map (λ p. at + k + p) r) ≡ option_map (moved_by at k) (cond b o (option_map (λ p. at + p) r))
    by true None e r = refl
    by true (Some p) e r = ap Some (sym (ap (λ x. cond x (p + k) p) (lt-leb at p (before p e))))
    by false o e None = refl
    by false o e (Some p) =
        let back : at + p + k ≡ at + k + p = omega arith in
        ap Some (sym back ∙ sym (ap (λ x. cond x (at + p + k) (at + p)) (le-leb at (at + p) (omega arith))))

-- BEHIND A VISIBLE CELL

-- a visible cell at its place
pub record IsSeen {T : Type 0} (cells : List (Cell T)) (p : ℕ) (x : Cell T) : Type 0 where
  pub position : ℕ
  pub is : slice_get cells position ≡ Some x
  pub before : visible_before cells position ≡ p
  pub there : x.gone ≡ false

pub seen_at : {T : Type 0} (cells : List (Cell T)) (p : ℕ) (x : Cell T) → slice_get (visible_of cells) p ≡ Some x → IsSeen cells p x
seen_at [] p x h = let bad : ⊥ = cc in absurd bad
seen_at {T} (y ∷ ys) p x h = by y.gone refl p h (λ q k. seen_at ys q x k)
  where
    by : (b : Bool) → y.gone ≡ b → (p : ℕ) → slice_get (cond (not b) (y ∷ visible_of ys) (visible_of ys)) p ≡ Some x → ((q : ℕ) → slice_get (visible_of ys) q ≡ Some x → IsSeen ys q x) → IsSeen (y ∷ ys) p x
    by true g p h f =
        let s = f p h in
        record { position = suc s.position; is = s.is; before = seen_cons y (take s.position ys) ∙ ap (λ b. further b (visible_before ys s.position)) g ∙ s.before; there = s.there }
    by false g zero h f = let same : y ≡ x = cc in record { position = 0; is = ap Some same; before = refl; there = ap (λ (c : Cell T). c.gone) (sym same) ∙ g }
    by false g (suc q) h f =
        let s = f q h in
        record { position = suc s.position; is = s.is; before = seen_cons y (take s.position ys) ∙ ap (λ b. further b (visible_before ys s.position)) g ∙ ap suc s.before; there = s.there }

take_last : {A : Type 0} (xs : List A) (n : ℕ) (x : A) → slice_get xs n ≡ Some x → take (suc n) xs ≡ take n xs ++ x ∷ []
take_last [] n x h = let bad : ⊥ = cc in absurd bad
take_last (y ∷ ys) zero x h = let e : y ≡ x = cc in ap (λ z. z ∷ []) e
take_last (y ∷ ys) (suc n) x h = ap (λ l. y ∷ l) (take_last ys n x h)

-- the cells up to a visible one: as many are visible as its place says, and it too; each of them stands before the place behind it
pub record IsCut {T : Type 0} (xs : List (Cell T)) (at : ℕ) : Type 0 where
  pub seen : length (visible_of xs) ≡ at
  pub before : (s : Stamp) (p : ℕ) → place_of xs s ≡ Some p → p < at

pub cut_none : {T : Type 0} → IsCut {T = T} [] 0
cut_none {T} = record { seen = refl; before = λ s p h. let bad : ⊥ = cc in absurd bad }

cut_last : {T : Type 0} (xs : List (Cell T)) (x : Cell T) (p : ℕ) → x.gone ≡ false → length (visible_of xs) ≡ p → IsCut (xs ++ x ∷ []) (suc p)
cut_last {T} xs x p g n =
    let one : length (visible_of (x ∷ [])) ≡ 1 = seen_cons x [] ∙ ap (λ b. further b 0) g in
    record {
      seen = omega (arith, seen_append xs (x ∷ []), one, n);
      before = λ s q h. by s q (is_among (stamps_of xs) s) (place_of xs s) refl (place_of (x ∷ []) s) refl (sym (place_append xs (x ∷ []) s) ∙ h);
    }
  where
    first : (s : Stamp) (r : ℕ) → place_of (x ∷ []) s ≡ Some r → r ≡ 0
    first s r h = which (is_same x.stamp s) (sym (place_cons x [] s) ∙ h)
      where
        which : (b : Bool) → cond b (Some 0) (option_map (further x.gone) None) ≡ Some r → r ≡ 0
        which true k = cc
        which false k = let bad : ⊥ = cc in absurd bad

    by : (s : Stamp) (q : ℕ) (b : Bool) (o : Option ℕ) → place_of xs s ≡ o → (r : Option ℕ) → place_of (x ∷ []) s ≡ r → cond b o (option_map (λ m. length (visible_of xs) + m) r) ≡ Some q → q < suc p
    by s q true None e r f h = let bad : ⊥ = cc in absurd bad
    by s q true (Some m) e r f h = let same : m ≡ q = cc in omega (arith, same, place_most xs s m e, n)
    by s q false o e None f h = let bad : ⊥ = cc in absurd bad
    by s q false o e (Some r) f h = let same : length (visible_of xs) + r ≡ q = cc in omega (arith, same, first s r f, n)

-- behind the cell of a place
pub cut_behind : {T : Type 0} (cells : List (Cell T)) (p : ℕ) (x : Cell T) → slice_get (visible_of cells) p ≡ Some x
    → (n : ℕ) × (slice_get cells n ≡ Some x) × IsCut (take (suc n) cells) (suc p)
cut_behind {T} cells p x h =
    let s = seen_at cells p x h in
    (s.position, s.is, subst (λ (xs : List (Cell T)). IsCut xs (suc p)) (sym (take_last cells s.position x s.is)) (cut_last (take s.position cells) x p s.there s.before))
