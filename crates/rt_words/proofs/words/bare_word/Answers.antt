use Rattle.std.proofs.Common.{◌≡◌, ◌∙◌, ◌++◌, ◌-◌, ap, List, ℕ, take, arith}
use Rattle.std.specs.List.{prefix_len}
use Rattle.std.proofs.lemmas.List.Sums.{prefix_len-le-length}
use Rattle.rt_words.specs.Separators.{separates}
use Rattle.rt_words.proofs.BareWords.{is_dark, dark_ends}
use Rattle.rt_words.proofs.Separating.{separating}
use Rattle.rt_words.proofs.Spelling.{bare_first}
use Rattle.rt_words.proofs.WordSteps.{end_boundary}
use Rattle.rt_words.proofs.words.bare_word.Goals as goal

pub range-requires-clause-end_boundary : goal.range-requires-clause-end_boundary
range-requires-clause-end_boundary c =
    let text : List ℕ = c.args.text.now in
    let n : c.dark_len-len.result ≡ prefix_len (is_dark (separates c.args.separators)) text = c.dark_len-len.ensures ∙ ap (prefix_len (is_dark (separates c.args.separators))) c.as_bytes.ensures.value in
    rw n (end_boundary (separates c.args.separators) (separating c.args.separators) text (prefix_len (is_dark (separates c.args.separators)) text) (prefix_len-le-length (is_dark (separates c.args.separators)) text) (dark_ends (separates c.args.separators) text))

pub returns-clause-ok : goal.returns-clause-ok
returns-clause-ok c =
    let text : List ℕ = c.args.text.now in
    let n : c.dark_len-len.result ≡ prefix_len (is_dark (separates c.args.separators)) text = c.dark_len-len.ensures ∙ ap (prefix_len (is_dark (separates c.args.separators))) c.as_bytes.ensures.value in
    let m : ℕ = c.dark_len-len.result in
    let whole : m - 0 ≡ m = omega arith in
    rw (c.in_ok-push_str.ensures.bytes ∙ ap (λ v. v ++ c.range.result.now) c.requires.blank ∙ c.range.ensures.value ∙ ap (λ k. take k text) whole, n) (bare_first (separates c.args.separators) (separating c.args.separators) text c.requires.some c.requires.dark c.requires.quote c.requires.brace)
