use Rattle.std.proofs.Common.{◌≡◌, ap, length, ◌≤◌, arith}
use Rattle.rt_store.specs.Cells.{text_of}
use Rattle.rt_plans.specs.DocValue.{DocValue}
use Rattle.rt_text.proofs.MarkLaws.{site_set}
use Rattle.rt_text.proofs.doc.Doc.set_mark.Goals as goal

pub invariant_of-self : goal.invariant_of-self
invariant_of-self g c =
    let n = length (text_of c.self.inside.replica.cells) in
    let same : n ≡ length (text_of c.args.self.now.cells) = ap (λ (f : DocValue). length (text_of f.cells)) c.self.view_is in
    let within : c.args.place ≤ n = omega (arith, same, c.requires.place) in
    record {
      placed = site_set n c.args.name.now c.args.place c.self.inside.marks c.set.new.self c.set.result c.set.ensures.ok c.set.ensures.err c.set.ensures.bad_name within c.requires.other c.self.invariant.placed;
      listed = c.self.invariant.listed;
    }
