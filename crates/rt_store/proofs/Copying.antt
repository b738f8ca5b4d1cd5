-- One cell more of a walk that copies characters.
use Rattle.std.proofs.Common.{[], ◌≡◌, ◌+◌, ◌-◌, ◌<◌, ◌≤◌, ◌∷◌, ◌++◌, take, drop, set, length, ℕ, List, zero, suc, arith, sym, ◌∙◌, ap, get_or, false}
use Rattle.std.proofs.Math.Seq.{take-suc-set}
use Rattle.std.proofs.lemmas.List.{drop-drop, drop-set-lt, drop_all}
use Rattle.rt_store.specs.declared.cell.Cell.{Cell}
use Rattle.rt_store.specs.Cells.{text_of}
use Rattle.rt_store.proofs.Nearest.{drop_more, take_more}
use Rattle.rt_store.proofs.Steps.{text_shown}

-- a rest that has an element begins before the end
pub rest_within : {X : Type 0} (xs : List X) (n : ℕ) (x : X) (rest : List X) → drop n xs ≡ x ∷ rest → n < length xs
rest_within [] zero x rest h = let bad : ⊥ = cc in absurd bad
rest_within [] (suc n) x rest h = let bad : ⊥ = cc in absurd bad
rest_within (y ∷ ys) zero x rest h = omega arith
rest_within (y ∷ ys) (suc n) x rest h = let less = rest_within ys n x rest h in omega arith

-- a rest without an element begins at the end or behind it
pub rest_ends : {X : Type 0} (xs : List X) (n : ℕ) → drop n xs ≡ [] → length xs ≤ n
rest_ends [] n h = omega arith
rest_ends (y ∷ ys) zero h = let bad : ⊥ = cc in absurd bad
rest_ends (y ∷ ys) (suc n) h = let less = rest_ends ys n h in omega arith

pub rest_here : (text : List ℕ) (cells : List (Cell ℕ)) (i at : ℕ) (d : Cell ℕ) → i < length cells → (get_or cells i d).gone ≡ false → drop at text ≡ text_of (drop i cells)
    → drop at text ≡ (get_or cells i d).ch ∷ text_of (drop (i + 1) cells)
rest_here text cells i at d h e r = r ∙ text_shown cells i d h e

pub rest_on : (text : List ℕ) (cells : List (Cell ℕ)) (i at : ℕ) (d : Cell ℕ) → i < length cells → (get_or cells i d).gone ≡ false → drop at text ≡ text_of (drop i cells)
    → drop (at + 1) text ≡ text_of (drop (i + 1) cells)
rest_on text cells i at d h e r =
    let next : at + 1 ≡ suc at = omega arith in
    ap (λ n. drop n text) next ∙ drop_more text at (get_or cells i d).ch (text_of (drop (i + 1) cells)) (rest_here text cells i at d h e r)

pub rest_over : (text : List ℕ) (cells : List (Cell ℕ)) (i at : ℕ) → length cells ≤ i → drop at text ≡ text_of (drop i cells) → length text ≤ at
rest_over text cells i at h r = rest_ends text at (r ∙ ap text_of (drop_all i cells h))

-- one character more in a buffer
pub copied_on : (text buffer : List ℕ) (at place c : ℕ) (rest : List ℕ) → place ≤ at → at - place < length buffer → drop at text ≡ c ∷ rest
    → take (at - place) buffer ≡ take (at - place) (drop place text)
    → take (at + 1 - place) (set buffer (at - place) c) ≡ take (at + 1 - place) (drop place text)
copied_on text buffer at place c rest p b h e =
    let k : at + 1 - place ≡ suc (at - place) = omega arith in
    let same : place + (at - place) ≡ at = omega arith in
    let there : drop (at - place) (drop place text) ≡ c ∷ rest = drop-drop (at - place) place text ∙ ap (λ n. drop n text) same ∙ h in
    ap (λ n. take n (set buffer (at - place) c)) k
    ∙ take-suc-set buffer (at - place) c b
    ∙ ap (λ xs. xs ++ c ∷ []) e
    ∙ sym (take_more (drop place text) (at - place) c rest there)
    ∙ ap (λ n. take n (drop place text)) (sym k)

pub behind_on : (old buffer : List ℕ) (at place c : ℕ) → place ≤ at → drop (at - place) buffer ≡ drop (at - place) old
    → drop (at + 1 - place) (set buffer (at - place) c) ≡ drop (at + 1 - place) old
behind_on old buffer at place c p e =
    let k : at + 1 - place ≡ at - place + 1 = omega arith in
    let less : at - place < at - place + 1 = omega arith in
    ap (λ n. drop n (set buffer (at - place) c)) k
    ∙ drop-set-lt (at - place + 1) buffer (at - place) c less
    ∙ sym (drop-drop 1 (at - place) buffer)
    ∙ ap (drop 1) e
    ∙ drop-drop 1 (at - place) old
    ∙ ap (λ n. drop n old) (sym k)
