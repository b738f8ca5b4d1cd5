use Rattle.std.proofs.Common.{◌≡◌, ◌∙◌, ◌++◌, [], ◌∷◌, ap, sym, append-nil}
use Rattle.rt_ops.specs.Operations.{stamps_in}
use Rattle.rt_undo.proofs.Copying.{pushed_next, pushed_other}
use Rattle.rt_undo.proofs.copies.push_stamp.Goals as goal
use Rattle.rt_undo.proofs.copies.push_stamp.Goals.{in-Some+else-is_next, in_default}

pub returns-then-is_next-clause-ok : goal.returns-then-is_next-clause-ok
returns-then-is_next-clause-ok c =
    let stamp = c.args.stamp in
    ap stamps_in c.push_reserved.ensures.items
    ∙ pushed_next c.pop.new.self.items c.in-Some.last stamp (sym c.is_next.ensures ∙ c.if-is_next.true)
    ∙ ap (λ l. stamps_in l ++ stamp ∷ []) (sym c.in-Some.ensures.items)

pub returns-clause-ok : goal.returns-clause-ok
returns-clause-ok c =
    let stamp = c.args.stamp in
    let same : c.match-pop.spans.items ≡ c.args.spans.now.items = elim c.match-pop.branch [
      | in-Some+else-is_next w ↦ (λ i. (w.spans-is i).items) ∙ w.push_reserved-in-Some.ensures.items ∙ sym w.in-Some.ensures.items
      | in_default w ↦ (λ i. (w.spans-is i).items) ∙ sym (append-nil c.pop.new.self.items) ∙ sym w.in_default.ensures.items
    ] in
    ap stamps_in c.in_ok-push.ensures.items ∙ pushed_other c.match-pop.spans.items stamp ∙ ap (λ l. stamps_in l ++ stamp ∷ []) same
