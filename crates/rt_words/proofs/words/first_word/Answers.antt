use Rattle.std.proofs.Common.{◌≡◌, ◌∙◌, ◌<◌, ℕ, List, ap, sym, subst, drop, length, get_or}
use Rattle.std.proofs.lemmas.Result.{err_from_is_err_and}
use Rattle.rt_words.specs.Spelling.{EndsWord}
use Rattle.rt_words.specs.FirstWord.{BeginsWith}
use Rattle.rt_words.specs.Separators.{separates}
use Rattle.rt_words.proofs.Separating.{separating}
use Rattle.rt_words.proofs.Spelling.{no_quoted_first, no_braced_first, quoted_followed, braced_followed}
use Rattle.rt_words.proofs.words.first_word.Goals as goal

begins : (bytes text : List ℕ) (c : ℕ) → 0 < length text → bytes ≡ text → get_or bytes 0 0 ≡ c → BeginsWith text c
begins bytes text c l e h = (l, ap (λ (v : List ℕ). get_or v 0 0) (sym e) ∙ h)

pub returns-in_err-quoted_word-in-34-clause-quoting :
    goal.returns-in_err-quoted_word-in-34-clause-quoting
returns-in_err-quoted_word-in-34-clause-quoting c e =
    let p = err_from_is_err_and c.from_residual.result c.from_residual.ensures.1 in
    no_quoted_first (separates c.args.separators) (separating c.args.separators) c.args.text.now (begins _ _ 34 c.requires.some c.as_bytes-bytes.ensures.value c.in-34.is) (c.in_err-quoted_word-in-34.ensures.quoting (cc))

pub returns-in_ok-quoted_word-in-34-clause-quoting :
    goal.returns-in_ok-quoted_word-in-34-clause-quoting
returns-in_ok-quoted_word-in-34-clause-quoting c e =
    let m = rw e at c.ended.ensures in
    quoted_followed (separates c.args.separators) (separating c.args.separators) c.args.text.now c.in_ok-quoted_word-in-34.field-0 _ (begins _ _ 34 c.requires.some c.as_bytes-bytes.ensures.value c.in-34.is) c.in_ok-quoted_word-in-34.ensures.ok
    (λ ends. m.1 (subst (λ (v : List ℕ). EndsWord (separates c.args.separators) (drop c.in_ok-quoted_word-in-34.field-0 v)) (sym c.as_bytes-bytes.ensures.value) ends))

pub returns-in_ok-braced_word-in-123-clause-quoting :
    goal.returns-in_ok-braced_word-in-123-clause-quoting
returns-in_ok-braced_word-in-123-clause-quoting c e =
    let m = rw e at c.ended-in-123.ensures in
    braced_followed (separates c.args.separators) (separating c.args.separators) c.args.text.now c.in_ok-braced_word-in-123.field-0 _ (begins _ _ 123 c.requires.some c.as_bytes-bytes.ensures.value c.in-123.is) c.in_ok-braced_word-in-123.ensures.ok
    (λ ends. m.1 (subst (λ (v : List ℕ). EndsWord (separates c.args.separators) (drop c.in_ok-braced_word-in-123.field-0 v)) (sym c.as_bytes-bytes.ensures.value) ends))

pub returns-in_err-braced_word-in-123-clause-quoting :
    goal.returns-in_err-braced_word-in-123-clause-quoting
returns-in_err-braced_word-in-123-clause-quoting c e =
    let p = err_from_is_err_and c.from_residual-in_err-braced_word-in-123.result c.from_residual-in_err-braced_word-in-123.ensures.1 in
    no_braced_first (separates c.args.separators) (separating c.args.separators) c.args.text.now (begins _ _ 123 c.requires.some c.as_bytes-bytes.ensures.value c.in-123.is) (c.in_err-braced_word-in-123.ensures.quoting (cc))
