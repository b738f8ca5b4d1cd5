use Rattle.std.proofs.Common.{◌∙◌, ap, sym}
use Rattle.std.proofs.lemmas.Iterator.{YieldsList-from_chars}
use Rattle.std.proofs.lemmas.Iterator.Consumers.{YieldsList-end}
use Rattle.std.proofs.lemmas.List.{map-id}
use Rattle.rt_text.specs.Neighbours.{ends_behind}
use Rattle.rt_text.proofs.LineCounts.{ends_push}
use Rattle.rt_text.proofs.neighbours.ends_behind.Goals as goal

pub loop-c-preserved : goal.loop-c-preserved
loop-c-preserved c = sym (ends_push c.args.before c.loop-c.yielded c.in-Some.c)

pub returns : goal.returns
returns c =
    let t = YieldsList-end (YieldsList-from_chars c.args.text.now c.utf8.text cc) c.loop-c.yielded _ c.loop-c.yielded_by _ _ c.in-None.is c.next.ensures.steps in
    c.loop-c.invariant ∙ ap (ends_behind c.args.before) (sym (map-id c.loop-c.yielded) ∙ t.0)
