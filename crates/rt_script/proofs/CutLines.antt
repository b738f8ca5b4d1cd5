-- The lines of bytes are those that newlines cut.
use Rattle.std.proofs.Common.{◌≡◌, ℕ, List, [], ◌∷◌, ◌++◌, Bool, true, false, cond, refl, ◌∙◌, ap, eqb, eqb→eq, append_assoc}
use Rattle.std.specs.List.{AllByRecursion, flat_map}
use Rattle.rt_script.specs.Lines.{AreCutLines, before_all, is_one_line, split_lines}

newline_first : (bytes : List ℕ) (p : List (List ℕ) × List ℕ) → AreCutLines bytes p.0 p.1 → AreCutLines (10 ∷ bytes) ([] ∷ p.0) p.1
newline_first bytes p h = record {
  whole = ap (λ xs. 10 ∷ xs) h.whole;
  lines_end = (refl, h.lines_end);
  rest_open = h.rest_open;
}

other_first : (c : ℕ) (bytes : List ℕ) (lines : List (List ℕ)) (rest : List ℕ) → eqb c 10 ≡ false → AreCutLines bytes lines rest
    → AreCutLines (c ∷ bytes) (before_all c lines rest).0 (before_all c lines rest).1
other_first c bytes [] rest e h = record {
  whole = ap (λ xs. c ∷ xs) h.whole;
  lines_end = h.lines_end;
  rest_open = rw e h.rest_open;
}
other_first c bytes (line ∷ lines) rest e h = record {
  whole = ap (λ xs. c ∷ xs) h.whole;
  lines_end = (rw e h.lines_end.0, h.lines_end.1);
  rest_open = h.rest_open;
}

one_more : (c : ℕ) (bytes : List ℕ) (p : List (List ℕ) × List ℕ) (b : Bool) → eqb c 10 ≡ b → AreCutLines bytes p.0 p.1
    → AreCutLines (c ∷ bytes) (cond b ([] ∷ p.0, p.1) (before_all c p.0 p.1)).0 (cond b ([] ∷ p.0, p.1) (before_all c p.0 p.1)).1
one_more c bytes p true e h = rw (eqb→eq c 10 (rw e tt)) (newline_first bytes p h)
one_more c bytes p false e h = other_first c bytes p.0 p.1 e h

pub are_lines : (bytes : List ℕ) → AreCutLines bytes (split_lines bytes).0 (split_lines bytes).1
are_lines [] = record { whole = refl; lines_end = tt; rest_open = refl }
are_lines (c ∷ bytes) = one_more c bytes (split_lines bytes) (eqb c 10) refl (are_lines bytes)
