use Rattle.std.proofs.Common.{◌≡◌, Some, drop, take, map, sym, ◌∙◌, ap}
use Rattle.rt_index.specs.Expression.{kept_fixed, kept_modifier}
use Rattle.rt_index.specs.Reading.{token_length, fixed_of, modifiers_of}
use Rattle.rt_index.proofs.Modifiers.{map_some}
use Rattle.rt_index.proofs.Hope.{parsed_fixed, hopeful_fixed}
use Rattle.rt_index.proofs.expression.parse_fixed.Goals as goal

pub invariant_of-result : goal.invariant_of-result
invariant_of-result c =
    let word = c.args.word.now in
    let got = map_some kept_fixed (fixed_of (take c.args.token word)) c.args.fixed c.requires.fixed in
    let fixed : fixed_of (take (token_length word) word) ≡ Some got.0 = ap (λ n. fixed_of (take n word)) (sym c.requires.token) ∙ got.1 in
    let rest : c.split_at.result.1.now ≡ drop (token_length word) word =
    c.split_at.ensures.back ∙ ap (drop c.args.token) c.as_bytes.ensures.value ∙ ap (λ n. drop n word) c.requires.token in
    let ms = map_some (map kept_modifier) (modifiers_of c.split_at.result.1.now) c.in_ok-modifiers.modifiers.items c.in_ok-modifiers.ensures.ok in
    parsed_fixed word got.0 c.args.fixed ms.0 c.in_ok-modifiers.modifiers.items fixed got.2 (ap modifiers_of (sym rest) ∙ ms.1) ms.2

pub returns-clause-possible : goal.returns-clause-possible
returns-clause-possible c =
    let word = c.args.word.now in
    let got = map_some kept_fixed (fixed_of (take c.args.token word)) c.args.fixed c.requires.fixed in
    let fixed : fixed_of (take (token_length word) word) ≡ Some got.0 = ap (λ n. fixed_of (take n word)) (sym c.requires.token) ∙ got.1 in
    let rest : c.split_at.result.1.now ≡ drop (token_length word) word =
    c.split_at.ensures.back ∙ ap (drop c.args.token) c.as_bytes.ensures.value ∙ ap (λ n. drop n word) c.requires.token in
    let ms = map_some (map kept_modifier) (modifiers_of c.split_at.result.1.now) c.in_ok-modifiers.modifiers.items c.in_ok-modifiers.ensures.ok in
    hopeful_fixed word got.0 ms.0 fixed (ap modifiers_of (sym rest) ∙ ms.1)
