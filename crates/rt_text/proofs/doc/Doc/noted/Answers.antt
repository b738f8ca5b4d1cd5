use Rattle.std.proofs.Common.{◌∙◌, List, ap, reverse, subst, sym}
use Rattle.std.specs.Prelude.{IfSome}
use Rattle.rt_ops.specs.Operations.{Operation}
use Rattle.rt_plans.specs.DocValue.{DocValue}
use Rattle.rt_rga.specs.Kept.{ReplicaValue}
use Rattle.rt_rga.specs.Noted.{AreOfNewest}
use Rattle.rt_text.specs.Kept.{IsDoc}
use Rattle.rt_text.proofs.MadeDocument.{seen}
use Rattle.rt_text.proofs.doc.Doc.noted.Goals as goal

pub invariant_of-self : goal.invariant_of-self
invariant_of-self g c =
    let v = c.self.inside in
    subst (λ (r : ReplicaValue). IsDoc r.cells v.marks v.tags.names) (sym c.noted.ensures.same) c.self.invariant

pub returns : goal.returns
returns g c =
    let v = c.self.inside in
    let log = ap (λ (d : DocValue). d.log) c.self.view_is in
    record {
      newest = subst (λ (l : List Operation). IfSome c.noted.result (λ changes. AreOfNewest (reverse changes.items) l)) log c.noted.ensures.newest;
      same = ap (λ (r : ReplicaValue). seen r v.marks v.tags.names) c.noted.ensures.same ∙ c.self.view_is;
    }
