use Rattle.std.proofs.Common.{◌∷◌, [], codes, map}
use Rattle.std.specs.Prelude.{encode_utf8_all}
use Rattle.std.proofs.lemmas.Result.{err_from_is_err_and}
use Rattle.rt_stamps.specs.Words.{as_words}
use Rattle.rt_words.specs.Writing.{text_of_word}
use Rattle.rt_files.specs.Shown.{text_of_stamp}
use Rattle.rt_files.proofs.SpacedLaws.{names_then, words_front}
use Rattle.rt_files.proofs.lines.write_insert.Goals as goal

pub returns-in_err-write_parts : goal.returns-in_err-write_parts
returns-in_err-write_parts g c =
    let p = err_from_is_err_and c.from_residual.result c.from_residual.ensures.1 in
    rw (p.1, p.2) (words_front _ _ _ (codes "after" ∷ text_of_stamp c.args.after ∷ codes "text" ∷ text_of_word (encode_utf8_all c.args.text.now) ∷ codes "tags" ∷ []) (map text_of_word (as_words c.args.tags.now)) c.in_err-write_parts.ensures)

pub returns : goal.returns
returns g c = names_then _ _ _ _ c.write_names.result (codes "after" ∷ text_of_stamp c.args.after ∷ codes "text" ∷ text_of_word (encode_utf8_all c.args.text.now) ∷ codes "tags" ∷ []) c.args.tags.now c.in_ok-write_parts.ensures c.write_names.ensures
