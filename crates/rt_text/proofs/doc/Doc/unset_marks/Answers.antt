use Rattle.std.proofs.Common.{length, subst, sym}
use Rattle.rt_stamps.specs.Words.{as_words}
use Rattle.rt_store.specs.Cells.{text_of}
use Rattle.rt_text.specs.Widgets.{AreSiteMarks}
use Rattle.rt_text.proofs.MarkLaws.{site_without_all}
use Rattle.rt_text.proofs.doc.Doc.unset_marks.Goals as goal

pub invariant_of-self : goal.invariant_of-self
invariant_of-self g c =
    let n = length (text_of c.self.inside.replica.cells) in
    let names = as_words c.args.names.now in
    record {
      placed = subst (AreSiteMarks n) (sym c.unset_all.ensures) (site_without_all n names c.self.inside.marks c.self.invariant.placed);
      listed = c.self.invariant.listed;
    }
