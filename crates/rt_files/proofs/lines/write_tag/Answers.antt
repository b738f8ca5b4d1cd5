use Rattle.std.proofs.Common.{◌∷◌, [], codes, map}
use Rattle.std.specs.Prelude.{if◌then◌else◌}
use Rattle.std.proofs.lemmas.Result.{err_from_is_err_and}
use Rattle.rt_words.specs.Writing.{text_of_word}
use Rattle.rt_files.specs.Shown.{text_of_span}
use Rattle.rt_files.proofs.SpacedLaws.{words_front, words_then}
use Rattle.rt_files.proofs.lines.write_tag.Goals as goal

pub returns-in_err-write_parts : goal.returns-in_err-write_parts
returns-in_err-write_parts g c =
    let p = err_from_is_err_and c.from_residual.result c.from_residual.ensures.1 in
    rw (p.1, p.2) (words_front _ _ _ ((if c.args.on then codes "on" else codes "off") ∷ text_of_word c.args.name.now ∷ codes "spans" ∷ []) (map text_of_span c.args.spans.now) (rw c.switch.ensures at c.in_err-write_parts.ensures))

pub returns : goal.returns
returns g c = words_then text_of_span _ _ _ _ c.write_spans.result ((if c.args.on then codes "on" else codes "off") ∷ text_of_word c.args.name.now ∷ codes "spans" ∷ []) c.args.spans.now (rw c.switch.ensures at c.in_ok-write_parts.ensures) c.write_spans.ensures
