use Rattle.std.proofs.Common.{◌≡◌, arith, inl, inr, ℕ, zero, suc, ◌≤◌, ◌==◌, ◌||◌, true≢false, refl, sym, ◌∙◌, ap, subst, List, [], ◌∷◌, ◌++◌, true, false, codes, take}
use Rattle.std.specs.List.{list_all}
use Rattle.std.proofs.lemmas.Bool.{eqb-false}
use Rattle.std.proofs.lemmas.List.{take_all}
use Rattle.rt_stamps.specs.Words.{Word}
use Rattle.rt_words.specs.Spelling.{AreSeparators, IsEscaped, IsSpelling, closing, is_blank, opening}
use Rattle.rt_words.proofs.Fronts.{heads}
use Rattle.rt_words.proofs.examples.reading.Goals as goal

-- the newline by its escape, the others as they are
escaped : IsEscaped (codes "a\\nb") (codes "a\nb")
escaped = (codes "a", codes "\\nb", refl, inl refl, (codes "\\n", codes "b", refl, inl refl, (codes "b", [], refl, inl refl, refl)))

-- as many braces close as open at each front
fronts : (n : ℕ) → closing (take n (codes "a {b}")) ≤ opening (take n (codes "a {b}"))
fronts zero = omega arith
fronts (suc zero) = omega arith
fronts (suc (suc zero)) = omega arith
fronts (suc (suc (suc zero))) = omega arith
fronts (suc (suc (suc (suc zero)))) = omega arith
fronts (suc (suc (suc (suc (suc n))))) =
    subst (λ (v : List ℕ). closing v ≤ opening v) (sym (take_all (suc (suc (suc (suc (suc n))))) (codes "a {b}") (omega arith))) (omega arith)

no_more : (c : ℕ) (rest : List ℕ) → [] ≡ c ∷ rest → ⊥
no_more c rest e = cc

-- no brace closes in `a`
none_closes : (word rest : List ℕ) → codes "a" ≡ (word ++ 125 ∷ []) ++ rest → ⊥
none_closes [] rest e = eqb-false 97 125 refl (heads 97 125 [] rest e).0
none_closes (c ∷ []) rest e = no_more 125 rest (heads 97 c [] (125 ∷ rest) e).1
none_closes (c ∷ d ∷ word) rest e = no_more d ((word ++ 125 ∷ []) ++ rest) (heads 97 c [] (d ∷ ((word ++ 125 ∷ []) ++ rest)) e).1

no_piece : (piece rest : List ℕ) (word : Word) → codes "{a" ≡ piece ++ rest → IsSpelling is_blank piece word → ⊥
no_piece [] rest word e (inl h) = h.0
no_piece (c ∷ piece) rest word e (inl h) =
    true≢false (subst (λ d. ((d == 34) || (d == 123)) ≡ false) (sym (heads 123 c (codes "a") (piece ++ rest) e).0) h.0.0)
no_piece piece rest word e (inr (inl h)) =
    eqb-false 123 34 refl (heads 123 34 (codes "a") ((h.0 ++ 34 ∷ []) ++ rest) (e ∙ ap (λ (v : List ℕ). v ++ rest) h.1)).0
no_piece piece rest word e (inr (inr h)) =
    none_closes word rest (heads 123 123 (codes "a") ((word ++ 125 ∷ []) ++ rest) (e ∙ ap (λ (v : List ℕ). v ++ rest) h.0)).1

no_gap : (gap piece rest : List ℕ) (word : Word) → codes "{a" ≡ gap ++ (piece ++ rest) → AreSeparators is_blank gap → IsSpelling is_blank piece word → ⊥
no_gap [] piece rest word e separators h = no_piece piece rest word e h
no_gap (c ∷ gap) piece rest word e separators h =
    true≢false (sym (subst (λ d. list_all is_blank (d ∷ gap) ≡ true) (sym (heads 123 c (codes "a") (gap ++ (piece ++ rest)) e).0) separators))

pub returns-clause-none : goal.returns-clause-none
returns-clause-none c = refl

pub returns-clause-two : goal.returns-clause-two
returns-clause-two c = (
  codes " ",
  codes "a",
  codes "  b\t",
  refl,
  refl,
  inl ((refl, refl), refl),
  refl,
  (codes "  ", codes "b", codes "\t", refl, refl, inl ((refl, refl), refl), refl, refl),
)

pub returns-clause-line : goal.returns-clause-line
returns-clause-line c = ([], codes "a\nb", [], refl, refl, inl ((refl, refl), refl), tt, refl)

pub returns-clause-list : goal.returns-clause-list
returns-clause-list c = (
  [],
  codes "a",
  codes "\nb",
  refl,
  refl,
  inl ((refl, refl), refl),
  refl,
  (codes "\n", codes "b", [], refl, refl, inl ((refl, refl), refl), tt, refl),
)

pub returns-clause-empty : goal.returns-clause-empty
returns-clause-empty c = ([], codes "\"\"", [], refl, refl, inr (inl ([], refl, refl)), tt, refl)

pub returns-clause-escape : goal.returns-clause-escape
returns-clause-escape c = ([], codes "\"a\\nb\"", [], refl, refl, inr (inl (codes "a\\nb", refl, escaped)), tt, refl)

pub returns-clause-bare : goal.returns-clause-bare
returns-clause-bare c = ([], codes "a}", [], refl, refl, inl ((refl, refl), refl), tt, refl)

pub returns-clause-quoted : goal.returns-clause-quoted
returns-clause-quoted c = (
  [],
  codes "\"a}\"",
  [],
  refl,
  refl,
  inr (inl (codes "a}", refl, (codes "a", codes "}", refl, inl refl, (codes "}", [], refl, inl refl, refl)))),
  tt,
  refl,
)

pub returns-clause-braced : goal.returns-clause-braced
returns-clause-braced c = ([], codes "{a {b}}", [], refl, refl, inr (inr (refl, (refl, fronts))), tt, refl)

pub returns-clause-unclosed : goal.returns-clause-unclosed
returns-clause-unclosed c [] h = true≢false (sym h)
returns-clause-unclosed c (word ∷ words) h = no_gap h.0 h.1 h.2 word h.3 h.4 h.5
