use Rattle.std.proofs.Common.{◌≡◌, ◌++◌, drop}
use Rattle.std.specs.Prelude.{string_bytes, encode_utf8_all}
use Rattle.rt_text.proofs.range.push_all.Given as goal

abbrev pub invariant-loop-c : goal.invariant-loop-c
invariant-loop-c l = string_bytes l.text ++ encode_utf8_all (drop l.c-index l.characters) ≡ string_bytes l.initial.text ++ encode_utf8_all l.characters
