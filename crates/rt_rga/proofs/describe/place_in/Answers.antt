use Rattle.std.proofs.Common.{◌∙◌, ◌<◌, ap, length, subst, sym}
use Rattle.rt_stamps.specs.declared.stamp.TheConstants.{FINAL}
use Rattle.rt_stamps.specs.Stamps.{is_before}
use Rattle.rt_stamps.specs.Words.{as_words}
use Rattle.rt_ops.specs.Edits.{body_of}
use Rattle.rt_ops.specs.Operations.{stamp_of}
use Rattle.rt_store.specs.Cells.{IsPlaced, skip_from}
use Rattle.rt_rga.proofs.describe.place_in.Goals as goal

pub after_skip-requires-clause-left : goal.after_skip-requires-clause-left
after_skip-requires-clause-left g c =
    let placed : IsPlaced (g.S.TextStore.list c.args.store.now) c.in-Insert.after (stamp_of c.args.op.now) = c.requires.placed c.in-Insert.after (as_words c.in-Insert.tags.items) c.in-Insert.text (sym c.edit.ensures.body ∙ ap body_of c.in-Insert.is) in
    placed.stands

pub after_skip-requires-clause-above : goal.after_skip-requires-clause-above
after_skip-requires-clause-above g c =
    let placed : IsPlaced (g.S.TextStore.list c.args.store.now) c.in-Insert.after (stamp_of c.args.op.now) = c.requires.placed c.in-Insert.after (as_words c.in-Insert.tags.items) c.in-Insert.text (sym c.edit.ensures.body ∙ ap body_of c.in-Insert.is) in
    ap (is_before FINAL) c.stamp.ensures ∙ placed.above

pub visible_before-requires : goal.visible_before-requires
visible_before-requires g c =
    let list = g.S.TextStore.list c.args.store.now in
    let placed : IsPlaced list c.in-Insert.after (stamp_of c.args.op.now) = c.requires.placed c.in-Insert.after (as_words c.in-Insert.tags.items) c.in-Insert.text (sym c.edit.ensures.body ∙ ap body_of c.in-Insert.is) in
    subst (λ n. n < length list) (sym (c.after_skip.ensures ∙ ap (skip_from list c.in-Insert.after) c.stamp.ensures)) placed.within
