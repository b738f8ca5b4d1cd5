use Rattle.std.proofs.Common.{length, subst, sym}
use Rattle.rt_store.specs.Cells.{text_of}
use Rattle.rt_text.specs.Widgets.{AreSiteMarks}
use Rattle.rt_text.proofs.MarkLaws.{site_with_gravity}
use Rattle.rt_text.proofs.doc.Doc.set_mark_gravity.Goals as goal

pub invariant_of-self : goal.invariant_of-self
invariant_of-self g c =
    let n = length (text_of c.self.inside.replica.cells) in
    record {
      placed = subst (AreSiteMarks n) (sym c.set_gravity.ensures.marks) (site_with_gravity n c.args.name.now c.args.gravity c.self.inside.marks c.self.invariant.placed);
      listed = c.self.invariant.listed;
    }
