use Rattle.std.proofs.Common.{◌+◌, ◌∙◌, not, ap, refl, arith}
use Rattle.std.proofs.lemmas.List.Sums.{prefix_len-le-length}
use Rattle.rt_words.specs.Separators.{separates}
use Rattle.rt_words.proofs.BareWords.{is_dark}
use Rattle.rt_words.proofs.Fronts.{past_first}
use Rattle.rt_words.proofs.WordSteps.{counted}
use Rattle.rt_words.proofs.words.dark_len.Goals as goal

pub overflow_add-result : goal.overflow_add-result
overflow_add-result c =
    let dark = is_dark (separates c.args.separators) in
    let rest = counted dark _ _ 1 _ refl c.bare_len.ensures in
    omega (arith, rest, past_first dark c.args.text.now c.requires.some (ap not c.requires.dark), prefix_len-le-length dark c.args.text.now)

pub returns : goal.returns
returns c =
    let dark = is_dark (separates c.args.separators) in
    let rest = counted dark _ _ 1 _ refl c.bare_len.ensures in
    ap (λ n. 1 + n) rest ∙ past_first dark c.args.text.now c.requires.some (ap not c.requires.dark)
