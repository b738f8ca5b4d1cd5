use Rattle.std.proofs.Common.{◌≡◌, ◌∙◌, ◌∷◌, [], ℕ, Option, Some, map}
use Rattle.std.proofs.lemmas.Result.{on_ok_weaker}
use Rattle.rt_revert.specs.Reverting.{as_removed}
use Rattle.rt_text.specs.Commands.{lost_in}
use Rattle.rt_text.specs.Index.{place_at_index}
use Rattle.rt_text.specs.Widgets.{widget_of}
use Rattle.rt_recording.proofs.noting.prepare_replacement.Goals as goal

-- the place that was found
same_place : (found : Option ℕ) (here meant : ℕ) → found ≡ Some here → found ≡ Some meant → here ≡ meant
same_place found here meant e f = cc (e, f)

pub returns-in-Some-Some-clause-pending : goal.returns-in-Some-Some-clause-pending
returns-in-Some-Some-clause-pending g c =
    let view = c.args.view.now in
    let w = widget_of view in
    on_ok_weaker c.prepare.result
    (λ pending on first second.
    let from = same_place c.in_ok-begin.begin c.in-Some-Some.from (place_at_index w c.args.from.now) c.in-Some-Some.is-0 (c.in_ok-begin.ensures.ok first) in
    let to = same_place c.in_ok-end.end c.in-Some-Some.to (place_at_index w c.args.to.now) c.in-Some-Some.is-1 (c.in_ok-end.ensures.ok second) in
    pending ∙ (λ i. Some (map as_removed (lost_in view (record { from = from i; to = to i } ∷ [])))))
    c.prepare.ensures.pending
