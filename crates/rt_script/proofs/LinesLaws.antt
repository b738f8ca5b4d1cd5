-- The lines of a script that goes on.
use Rattle.std.proofs.Common.{◌≡◌, ◌≢◌, ℕ, ◌+◌, ◌==◌, suc, not, length, get_or, arith, take, append_assoc, append-nil, List, [], ◌∷◌, ◌++◌, Bool, true, false, cond, refl, sym, ◌∙◌, ap, ne_eqb, eqb, map}
use Rattle.std.proofs.lemmas.List.{map-append}
use Rattle.std.specs.List.{prefix_len}
use Rattle.std.proofs.lemmas.Bool.{false≢true}
use Rattle.std.proofs.lemmas.List.Sums.{prefix_len_is}
use Rattle.memchr.specs.Find.{NoneBefore, Nowhere, Passes, is_byte}
use Rattle.rt_script.specs.Lines.{split_lines, before_all, without_return, complete_of, rest_of}
use Rattle.rt_script.specs.Pieces.{is_inner}

-- a newline ends the last line
abbrev ended : List (List ℕ) × List ℕ → List (List ℕ) × List ℕ
ended p = (p.0 ++ p.1 ∷ [], [])

before_ended : (c : ℕ) (ls : List (List ℕ)) (r : List ℕ) → before_all c (ls ++ r ∷ []) [] ≡ ended (before_all c ls r)
before_ended c [] r = refl
before_ended c (l ∷ ls) r = refl

pub cut_newline : (xs : List ℕ) → split_lines (xs ++ 10 ∷ []) ≡ ended (split_lines xs)
cut_newline [] = refl
cut_newline (c ∷ xs) = rw (cut_newline xs) (
    elim (eqb c 10) as (λ b. cond b ([] ∷ (ended (split_lines xs)).0, (ended (split_lines xs)).1) (before_all c (ended (split_lines xs)).0 (ended (split_lines xs)).1) ≡ ended (cond b ([] ∷ (split_lines xs).0, (split_lines xs).1) (before_all c (split_lines xs).0 (split_lines xs).1))) [
      | true ↦ refl
      | false ↦ before_ended c (split_lines xs).0 (split_lines xs).1
    ])

-- another byte goes onto the rest
abbrev longer : ℕ → List (List ℕ) × List ℕ → List (List ℕ) × List ℕ
longer b p = (p.0, p.1 ++ b ∷ [])

before_longer : (c b : ℕ) (ls : List (List ℕ)) (r : List ℕ) → before_all c ls (r ++ b ∷ []) ≡ longer b (before_all c ls r)
before_longer c b [] r = refl
before_longer c b (l ∷ ls) r = refl

pub cut_other : (xs : List ℕ) (b : ℕ) → (b ≡ 10 → ⊥) → split_lines (xs ++ b ∷ []) ≡ longer b (split_lines xs)
cut_other [] b h = rw (ne_eqb b 10 h) refl
cut_other (c ∷ xs) b h = rw (cut_other xs b h) (
    elim (eqb c 10) as (λ t. cond t ([] ∷ (longer b (split_lines xs)).0, (longer b (split_lines xs)).1) (before_all c (longer b (split_lines xs)).0 (longer b (split_lines xs)).1) ≡ longer b (cond t ([] ∷ (split_lines xs).0, (split_lines xs).1) (before_all c (split_lines xs).0 (split_lines xs).1))) [
      | true ↦ refl
      | false ↦ before_longer c b (split_lines xs).0 (split_lines xs).1
    ])

-- a script goes on after its lines
abbrev lines_continued : List (List ℕ) × List ℕ → List ℕ → List (List ℕ) × List ℕ
lines_continued p ys = (p.0 ++ (split_lines (p.1 ++ ys)).0, (split_lines (p.1 ++ ys)).1)

before_joined : (c : ℕ) (ls : List (List ℕ)) (r ys : List ℕ) → eqb c 10 ≡ false → before_all c (ls ++ (split_lines (r ++ ys)).0) (split_lines (r ++ ys)).1 ≡ lines_continued (before_all c ls r) ys
before_joined c [] r ys e = rw e refl
before_joined c (l ∷ ls) r ys e = refl

cut_joined_one : (c : ℕ) (p : List (List ℕ) × List ℕ) (ys : List ℕ) (b : Bool) → eqb c 10 ≡ b
    → cond b ([] ∷ (lines_continued p ys).0, (lines_continued p ys).1) (before_all c (lines_continued p ys).0 (lines_continued p ys).1) ≡ lines_continued (cond b ([] ∷ p.0, p.1) (before_all c p.0 p.1)) ys
cut_joined_one c p ys true e = refl
cut_joined_one c p ys false e = before_joined c p.0 p.1 ys e

pub cut_append : (xs ys : List ℕ) → split_lines (xs ++ ys) ≡ lines_continued (split_lines xs) ys
cut_append [] ys = refl
cut_append (c ∷ xs) ys = rw (cut_append xs ys) (cut_joined_one c (split_lines xs) ys (eqb c 10) refl)

pub complete_append : (xs ys : List ℕ) → complete_of (xs ++ ys) ≡ complete_of xs ++ complete_of (rest_of xs ++ ys)
complete_append xs ys = ap (λ p. map without_return p.0) (cut_append xs ys) ∙ map-append without_return (split_lines xs).0 (split_lines (rest_of xs ++ ys)).0

cut_rest_one : (c : ℕ) (p : List (List ℕ) × List ℕ) (b : Bool) → eqb c 10 ≡ b → split_lines p.1 ≡ ([], p.1)
    → split_lines (cond b ([] ∷ p.0, p.1) (before_all c p.0 p.1)).1 ≡ ([], (cond b ([] ∷ p.0, p.1) (before_all c p.0 p.1)).1)
cut_rest_one c p true e h = h
cut_rest_one c p false e h = go c p.0 p.1 e h
  where
    go : (c : ℕ) (ls : List (List ℕ)) (r : List ℕ) → eqb c 10 ≡ false → split_lines r ≡ ([], r) → split_lines (before_all c ls r).1 ≡ ([], (before_all c ls r).1)
    go c [] r e h = rw (e, h) refl
    go c (l ∷ ls) r e h = h

-- what follows the last newline has none
pub cut_rest : (xs : List ℕ) → split_lines (rest_of xs) ≡ ([], rest_of xs)
cut_rest [] = refl
cut_rest (c ∷ xs) = cut_rest_one c (split_lines xs) (eqb c 10) refl (cut_rest xs)

pub rest_append : (xs ys : List ℕ) → rest_of (xs ++ ys) ≡ rest_of (rest_of xs ++ ys)
rest_append xs ys = ap (λ p. p.1) (cut_append xs ys)

-- only nothing has neither a line nor a rest
pub cut_empty : (xs : List ℕ) → split_lines xs ≡ ([], []) → xs ≡ []
cut_empty [] e = refl
cut_empty (c ∷ xs) e = absurd (go (eqb c 10) (split_lines xs) e)
  where
    go : (b : Bool) (p : List (List ℕ) × List ℕ) → cond b ([] ∷ p.0, p.1) (before_all c p.0 p.1) ≡ ([], []) → ⊥
    go true p e = cc (ap (λ q. q.0) e)
    go false ([], rest) e = cc (ap (λ q. q.1) e)
    go false (line ∷ lines, rest) e = cc (ap (λ q. q.0) e)

-- a newline completes the line
pub complete_newline : (xs : List ℕ) → complete_of (xs ++ 10 ∷ []) ≡ complete_of xs ++ without_return (rest_of xs) ∷ []
complete_newline xs = ap (λ p. map without_return p.0) (cut_newline xs) ∙ map-append without_return (split_lines xs).0 (rest_of xs ∷ [])

pub rest_newline : (xs : List ℕ) → rest_of (xs ++ 10 ∷ []) ≡ []
rest_newline xs = ap (λ p. p.1) (cut_newline xs)

-- another byte doesn't
pub complete_other : (xs : List ℕ) (b : ℕ) → (b ≡ 10 → ⊥) → complete_of (xs ++ b ∷ []) ≡ complete_of xs
complete_other xs b h = ap (λ p. map without_return p.0) (cut_other xs b h)

pub rest_other : (xs : List ℕ) (b : ℕ) → (b ≡ 10 → ⊥) → rest_of (xs ++ b ∷ []) ≡ rest_of xs ++ b ∷ []
rest_other xs b h = ap (λ p. p.1) (cut_other xs b h)

-- nor do bytes up to a newline
inner_is : (c : ℕ) → is_inner c ≡ true → c ≡ 10 → ⊥
inner_is c e f = absurd (false≢true (ap is_inner (sym f) ∙ e))

pub complete_front : (xs zs : List ℕ) → complete_of (xs ++ take (prefix_len is_inner zs) zs) ≡ complete_of xs
complete_front xs [] = ap complete_of (append-nil xs)
complete_front xs (z ∷ zs) = go (is_inner z) refl (complete_front (xs ++ z ∷ []) zs)
  where
    go : (b : Bool) → is_inner z ≡ b → complete_of ((xs ++ z ∷ []) ++ take (prefix_len is_inner zs) zs) ≡ complete_of (xs ++ z ∷ []) → complete_of (xs ++ take (cond b (1 + prefix_len is_inner zs) 0) (z ∷ zs)) ≡ complete_of xs
    go true e more =
        let one : 1 + prefix_len is_inner zs ≡ suc (prefix_len is_inner zs) = omega arith in
        rw one (ap complete_of (sym (append_assoc xs (z ∷ []) (take (prefix_len is_inner zs) zs))) ∙ more ∙ complete_other xs z (inner_is z e))
    go false e more = ap complete_of (append-nil xs)

pub rest_front : (xs zs : List ℕ) → rest_of (xs ++ take (prefix_len is_inner zs) zs) ≡ rest_of xs ++ take (prefix_len is_inner zs) zs
rest_front xs [] = ap rest_of (append-nil xs) ∙ sym (append-nil (rest_of xs))
rest_front xs (z ∷ zs) = go (is_inner z) refl (rest_front (xs ++ z ∷ []) zs)
  where
    go : (b : Bool) → is_inner z ≡ b → rest_of ((xs ++ z ∷ []) ++ take (prefix_len is_inner zs) zs) ≡ rest_of (xs ++ z ∷ []) ++ take (prefix_len is_inner zs) zs → rest_of (xs ++ take (cond b (1 + prefix_len is_inner zs) 0) (z ∷ zs)) ≡ rest_of xs ++ take (cond b (1 + prefix_len is_inner zs) 0) (z ∷ zs)
    go true e more =
        let one : 1 + prefix_len is_inner zs ≡ suc (prefix_len is_inner zs) = omega arith in
        let front = take (prefix_len is_inner zs) zs in
        rw one (ap rest_of (sym (append_assoc xs (z ∷ []) front)) ∙ more ∙ ap (λ r. r ++ front) (rest_other xs z (inner_is z e)) ∙ append_assoc (rest_of xs) (z ∷ []) front)
    go false e more = ap rest_of (append-nil xs) ∙ sym (append-nil (rest_of xs))

-- a script without a newline has no complete line
pub complete_none : (rest : List ℕ) → split_lines rest ≡ ([], rest) → complete_of rest ≡ []
complete_none rest h = ap (λ p. map without_return p.0) h

-- a carriage return at a line's end
pub without_return_push : (front : List ℕ) → without_return (front ++ 13 ∷ []) ≡ front
without_return_push [] = refl
without_return_push (c ∷ []) = refl
without_return_push (c ∷ d ∷ front) = ap (λ l. c ∷ l) (without_return_push (d ∷ front))

one_other : (c : ℕ) → (c ≡ 13 → ⊥) → c ∷ [] ≡ without_return (c ∷ [])
one_other c h = rw (ne_eqb c 13 h) refl

pub without_return_other : (line : List ℕ) → ((front : List ℕ) → line ≢ front ++ 13 ∷ []) → line ≡ without_return line
without_return_other [] h = refl
without_return_other (c ∷ []) h = one_other c (λ e. h [] (ap (λ b. b ∷ []) e))
without_return_other (c ∷ d ∷ line) h = ap (λ l. c ∷ l) (without_return_other (d ∷ line) (λ front e. h (c ∷ front) (ap (λ l. c ∷ l) e)))

-- where a search finds the first newline
inner_other : (b : Bool) → (b ≡ true → ⊥) → not b ≡ true
inner_other true h = absurd (h refl)
inner_other false h = refl

pub newline_first : (xs : List ℕ) (k : ℕ) → NoneBefore (Passes (is_byte 10) xs) 0 (length xs) k × Passes (is_byte 10) xs k → k ≡ prefix_len is_inner xs
newline_first xs k h = sym (prefix_len_is is_inner xs k 0 (omega (arith, h.0.high)) (λ j below. inner_other (get_or xs j 0 == 10) (h.0.before j (omega arith) below)) (λ more. ap not h.1))

pub newline_nowhere : (xs : List ℕ) → Nowhere (Passes (is_byte 10) xs) 0 (length xs) → length xs ≡ prefix_len is_inner xs
newline_nowhere xs h = sym (prefix_len_is is_inner xs (length xs) 0 (omega arith) (λ j below. inner_other (get_or xs j 0 == 10) (h j (omega arith) below)) (λ more. absurd (omega (arith, more))))
