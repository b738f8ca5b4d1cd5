use Rattle.std.proofs.Common.{◌∙◌, ap, subst, sym}
use Rattle.rt_rga.specs.Kept.{ReplicaValue}
use Rattle.rt_text.specs.Kept.{IsDoc}
use Rattle.rt_text.proofs.MadeDocument.{seen}
use Rattle.rt_text.proofs.doc.Doc.note.Goals as goal

pub invariant_of-self : goal.invariant_of-self
invariant_of-self g c =
    let v = c.self.inside in
    subst (λ (r : ReplicaValue). IsDoc r.cells v.marks v.tags.names) (sym c.note.ensures) c.self.invariant

pub returns : goal.returns
returns g c =
    let v = c.self.inside in
    ap (λ (r : ReplicaValue). seen r v.marks v.tags.names) c.note.ensures ∙ c.self.view_is
