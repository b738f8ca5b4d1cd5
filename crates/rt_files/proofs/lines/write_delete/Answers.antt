use Rattle.std.proofs.Common.{◌∷◌, [], codes, map}
use Rattle.std.proofs.lemmas.Result.{err_from_is_err_and}
use Rattle.rt_files.specs.Shown.{text_of_span}
use Rattle.rt_files.proofs.SpacedLaws.{words_front, words_then}
use Rattle.rt_files.proofs.lines.write_delete.Goals as goal

pub returns-in_err-write_parts : goal.returns-in_err-write_parts
returns-in_err-write_parts g c =
    let p = err_from_is_err_and c.from_residual.result c.from_residual.ensures.1 in
    rw (p.1, p.2) (words_front _ _ _ (codes "spans" ∷ []) (map text_of_span c.args.spans.now) c.in_err-write_parts.ensures)

pub returns : goal.returns
returns g c = words_then text_of_span _ _ _ _ c.write_spans.result (codes "spans" ∷ []) c.args.spans.now c.in_ok-write_parts.ensures c.write_spans.ensures
