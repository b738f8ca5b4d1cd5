use Rattle.std.proofs.Common.{rules}
use Rattle.rt_tags.proofs.NodeKeeping.{below_more, kept, not_first}
use Rattle.rt_tags.proofs.nodes.add.Goals as goal

pub returns-clause-kept : goal.returns-clause-kept
returns-clause-kept c = kept c.args.nodes.now.keys c.args.node c.requires.kept c.requires.odd c.requires.even c.requires.filled c.requires.heap c.insert_full.new.self.keys (rw c.unwrap-place.ensures at c.insert_full.ensures.keys) c.insert_full.ensures.unique

pub returns-clause-at : goal.returns-clause-at
returns-clause-at c = search rules

pub returns-clause-new : goal.returns-clause-new
returns-clause-new c = not_first c.insert_full.new.self.keys c.unwrap-place.result.0 c.args.node (returns-clause-kept c) (returns-clause-at c) c.requires.filled

pub returns-clause-below : goal.returns-clause-below
returns-clause-below c = λ n old is. below_more c.args.nodes.now.keys c.args.node c.insert_full.new.self.keys c.unwrap-place.result.0 n (rw c.unwrap-place.ensures at c.insert_full.ensures.keys) (returns-clause-kept c) (returns-clause-at c) old is
