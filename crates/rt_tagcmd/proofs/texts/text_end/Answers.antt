use Rattle.rt_tagcmd.proofs.Values.{text_ends}
use Rattle.rt_tagcmd.proofs.texts.text_end.Goals as goal

pub returns-clause-ends : goal.returns-clause-ends
returns-clause-ends c =
    λ text e. text_ends text c.args.chars.now c.args.others.now c.args.from c.args.to c.args.start c.next_place-next.result c.line_len.result e c.requires.inside.0 c.requires.inside.1 c.next_place-next.ensures c.line_len.ensures
