use Rattle.rt_spans.proofs.Near.{repainted}
use Rattle.rt_spans.specs.Blocks.{in_block}
use Rattle.rt_spans.proofs.block.Block.stretch.Goals as goal

pub returns-clause-painted : goal.returns-clause-painted
returns-clause-painted g c =
    λ first less near. repainted first _ c.args.value (in_block c.args.self.now) (in_block c.end_at.new.self) (in_block c.hold.new.self) c.args.place less near (c.end_at.ensures.ends first less near) c.hold.ensures.items
