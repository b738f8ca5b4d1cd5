use Rattle.std.proofs.Common.{◌≡◌, ◌∙◌, ap, sym}
use Rattle.rt_stamps.specs.declared.stamp.TheConstants.{FINAL}
use Rattle.rt_ops.specs.Edits.{body_of}
use Rattle.rt_ops.specs.Operations.{Delete}
use Rattle.rt_rga.specs.Cells.{deletes}
use Rattle.rt_rga.proofs.describe.removed.Goals as goal

pub runs_in-requires-clause-stays : goal.runs_in-requires-clause-stays
runs_in-requires-clause-stays g c =
    let body : c.args.op.now.body ≡ Delete c.in-Delete.spans.items = sym c.edit.ensures.body ∙ ap body_of c.in-Delete.is in
    ap (λ spans. deletes (Delete spans) FINAL) c.deref.ensures.value ∙ ap (λ b. deletes b FINAL) (sym body) ∙ c.requires.stays
