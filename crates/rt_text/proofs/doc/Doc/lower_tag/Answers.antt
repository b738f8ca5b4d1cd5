use Rattle.std.specs.Prelude.{option_copied}
use Rattle.rt_plans.proofs.ListedLaws.{lower_keeps}
use Rattle.rt_text.proofs.doc.Doc.lower_tag.Goals as goal

pub invariant_of-self : goal.invariant_of-self
invariant_of-self g c =
    record {
      placed = c.self.invariant.placed;
      listed = lower_keeps c.args.name.now (option_copied c.args.below) c.self.inside.tags c.lower.new.self c.self.inside.replica.cells c.lower.result c.lower.ensures.names c.lower.ensures.err c.lower.ensures.answer c.self.invariant.listed;
    }
