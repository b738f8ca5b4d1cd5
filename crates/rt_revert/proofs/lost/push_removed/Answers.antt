use Rattle.std.proofs.Common.{◌≡◌, ◌∙◌, ◌++◌, [], ◌∷◌, ap, sym, append-nil}
use Rattle.rt_undo.specs.Actions.{removed_in}
use Rattle.rt_revert.proofs.Spanned.{one, pushed_alone, pushed_behind}
use Rattle.rt_revert.proofs.lost.push_removed.Goals as goal
use Rattle.rt_revert.proofs.lost.push_removed.Goals.{in-Some+else-continues_span, in_default}

pub returns-then-continues_span-clause-ok : goal.returns-then-continues_span-clause-ok
returns-then-continues_span-clause-ok c =
    let stamp = c.args.stamp in
    let state = c.args.state in
    ap removed_in c.push_reserved.ensures.items
    ∙ pushed_behind c.pop.new.self.items c.in-Some.last stamp state (sym c.continues_span.ensures ∙ c.if-continues_span.true)
    ∙ ap (λ l. removed_in l ++ one stamp state ∷ []) (sym c.in-Some.ensures.items)

pub returns-clause-ok : goal.returns-clause-ok
returns-clause-ok c =
    let stamp = c.args.stamp in
    let state = c.args.state in
    let same : c.match-pop.removed.items ≡ c.args.removed.now.items = elim c.match-pop.branch [
      | in-Some+else-continues_span w ↦ (λ i. (w.removed-is i).items) ∙ w.push_reserved-in-Some.ensures.items ∙ sym w.in-Some.ensures.items
      | in_default w ↦ (λ i. (w.removed-is i).items) ∙ sym (append-nil c.pop.new.self.items) ∙ sym w.in_default.ensures.items
    ] in
    ap removed_in c.in_ok-push.ensures.items
    ∙ pushed_alone c.match-pop.removed.items stamp state
    ∙ ap (λ l. removed_in l ++ one stamp state ∷ []) same
