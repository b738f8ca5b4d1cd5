use Rattle.std.proofs.Common.{◌∙◌, ap}
use Rattle.std.specs.List.{insert, prefix_len}
use Rattle.rt_stamps.specs.Words.{as_words}
use Rattle.rt_tagcmd.proofs.ByBytes.{is_under, put_in}
use Rattle.rt_tagcmd.proofs.mark_name.add_name.Goals as goal

pub returns-clause-ok : goal.returns-clause-ok
returns-clause-ok c =
    let old = c.args.names.now.items in
    let added = c.in_ok-added.added in
    ap (λ v. as_words v) c.in_ok-insert.ensures.items
    ∙ ap (λ n. as_words (insert old n added)) (c.count_below-at.ensures.value ∙ ap (prefix_len (is_under c.args.name.now)) c.deref.ensures.value)
    ∙ put_in c.args.name.now added old c.in_ok-added.ensures.ok
