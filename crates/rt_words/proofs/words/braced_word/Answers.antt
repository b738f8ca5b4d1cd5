use Rattle.std.proofs.Common.{◌≡◌, ◌∙◌, ℕ, List, ap, sym, subst, drop, take, length, ◌-◌, arith}
use Rattle.std.proofs.lemmas.List.{take_rest}
use Rattle.std.proofs.lemmas.Str.{IsCharBoundary-after_ascii}
use Rattle.rt_words.specs.FirstWord.{ClosesAt}
use Rattle.rt_words.proofs.Braces.{unbraced}
use Rattle.rt_words.proofs.words.braced_word.Goals as goal

-- what was searched, in the text itself
rest_is : (bytes text : List ℕ) → bytes ≡ text → take (length bytes - 1) (drop 1 bytes) ≡ drop 1 text
rest_is bytes text e = take_rest bytes 1 ∙ ap (drop 1) e

pub returns-in_default-clause-quoting : goal.returns-in_default-clause-quoting
returns-in_default-clause-quoting c _ =
    unbraced c.args.text.now c.requires.text (λ n h. c.in_default.ensures n (subst (λ (t : List ℕ). ClosesAt t n) (sym (rest_is _ _ c.as_bytes.ensures.value)) h))

pub range-requires-clause-start_boundary : goal.range-requires-clause-start_boundary
range-requires-clause-start_boundary c _ = IsCharBoundary-after_ascii c.args.text.now 0 c.utf8.text c.requires.text.0 (rw c.requires.text.1 (omega arith))
