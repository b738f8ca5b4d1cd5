use Rattle.std.proofs.Common.{◌≡◌, ◌∙◌, ap, length, sym}
use Rattle.rt_stamps.specs.Words.{as_words}
use Rattle.rt_ops.specs.Edits.{body_of}
use Rattle.rt_ops.specs.Operations.{Insert}
use Rattle.rt_rga.proofs.Changing.{length_inserted}
use Rattle.rt_rga.proofs.answer.cells_more.Goals as goal

pub returns-in-Insert-clause-value : goal.returns-in-Insert-clause-value
returns-in-Insert-clause-value c =
    let body : c.args.op.now.body ≡ Insert c.in-Insert.after (as_words c.in-Insert.tags.items) c.in-Insert.text = sym c.edit.ensures.body ∙ ap body_of c.in-Insert.is in
    ap length c.characters.ensures ∙ sym (length_inserted c.args.op.now c.in-Insert.after (as_words c.in-Insert.tags.items) c.in-Insert.text body)
