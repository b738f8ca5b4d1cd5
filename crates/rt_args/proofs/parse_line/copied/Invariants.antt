use Rattle.std.proofs.Common.{◌≡◌, map, take}
use Rattle.rt_stamps.specs.Words.{as_words}
use Rattle.rt_args.proofs.parse_line.copied.Given as goal

abbrev pub invariant-loop-text : goal.invariant-loop-text
invariant-loop-text l = as_words l.copies.items ≡ map (λ text. text.now) (take l.text-index l.texts)
