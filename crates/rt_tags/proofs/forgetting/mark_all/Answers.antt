use Rattle.std.proofs.Common.{◌∙◌}
use Rattle.rt_tags.specs.Seen.{names_of}
use Rattle.rt_tags.specs.Tags.{is_forgotten}
use Rattle.rt_tags.proofs.Marked.{nothing_given, one_more}
use Rattle.std.proofs.Common.{take, rules}
use Rattle.rt_stamps.specs.Words.{as_words}
use Rattle.rt_tags.proofs.forgetting.mark_all.Goals as goal

pub loop-name-init : goal.loop-name-init
loop-name-init c = c.fill.ensures.after (λ y h. search rules) ∙ nothing_given c.args.marks.now (names_of c.args.names.now) c.requires.len

pub loop-name-preserved : goal.loop-name-preserved
loop-name-preserved c =
    let given = c.args.given.now in
    let i = c.loop-name.name-index in
    c.mark.ensures.marks (is_forgotten (as_words (take i given))) c.loop-name.invariant
    ∙ one_more given i c.name-item.result c.deref.result.now (names_of c.args.names.now) c.loop-name-test.true c.name-item.is c.deref.ensures
