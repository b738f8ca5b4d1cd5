use Rattle.std.proofs.Common.{◌∙◌, sym}
use Rattle.rt_tags.proofs.Walking.{even_on, none_in_empty, none_on, odd_on, own_on}
use Rattle.rt_tags.proofs.walk.+is_none_on.Goals as goal

pub returns-then-id-eq0-clause-yes : goal.returns-then-id-eq0-clause-yes
returns-then-id-eq0-clause-yes t c = λ h. none_in_empty c.args.nodes.now.keys c.args.id c.if-id-eq0.true

pub returns-then-puts_on-clause-no : goal.returns-then-puts_on-clause-no
returns-then-puts_on-clause-no t c = λ h. own_on c.args.nodes.now.keys c.requires.kept c.args.id c.node_at-node.result c.node_at-node.ensures (sym c.puts_on.ensures ∙ c.if-puts_on.true)

pub returns-then-not-is_none_on-clause-no : goal.returns-then-not-is_none_on-clause-no
returns-then-not-is_none_on-clause-no t c = λ h. odd_on c.args.nodes.now.keys c.requires.kept c.args.id c.node_at-node.result c.node_at-node.ensures (c.is_none_on.ensures.no c.if-not-is_none_on.true)

pub returns-clause-yes : goal.returns-clause-yes
returns-clause-yes t c = λ h. none_on c.args.nodes.now.keys c.requires.kept c.args.id c.node_at-node.result c.node_at-node.ensures (sym c.puts_on.ensures ∙ c.if-puts_on.false) (c.is_none_on.ensures.yes c.if-not-is_none_on.false) (c.is_none_on-2.ensures.yes h)

pub returns-clause-no : goal.returns-clause-no
returns-clause-no t c = λ h. even_on c.args.nodes.now.keys c.requires.kept c.args.id c.node_at-node.result c.node_at-node.ensures (c.is_none_on-2.ensures.no h)
