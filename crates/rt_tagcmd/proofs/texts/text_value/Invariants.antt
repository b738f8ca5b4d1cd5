use Rattle.std.proofs.Common.{◌≡◌, take}
use Rattle.std.specs.Prelude.{string_bytes, encode_utf8_all}
use Rattle.rt_tagcmd.proofs.texts.text_value.Given as goal

abbrev pub invariant-loop-c : goal.invariant-loop-c
invariant-loop-c l = string_bytes l.text ≡ encode_utf8_all (take l.c-index l.chars)
