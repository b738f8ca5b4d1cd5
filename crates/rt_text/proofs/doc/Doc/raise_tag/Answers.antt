use Rattle.std.specs.Prelude.{option_copied}
use Rattle.rt_plans.proofs.ListedLaws.{raise_keeps}
use Rattle.rt_text.proofs.doc.Doc.raise_tag.Goals as goal

pub invariant_of-self : goal.invariant_of-self
invariant_of-self g c =
    record {
      placed = c.self.invariant.placed;
      listed = raise_keeps c.args.name.now (option_copied c.args.above) c.self.inside.tags c.raise.new.self c.self.inside.replica.cells c.raise.result c.raise.ensures.names c.raise.ensures.err c.raise.ensures.answer c.self.invariant.listed;
    }
