use Rattle.std.proofs.Common.{◌≡◌, ◌∙◌, ◌++◌, [], ◌∷◌, subst, sym}
use Rattle.std.specs.Prelude.{IfSome}
use Rattle.rt_stamps.specs.declared.stamp.Span.{Span}
use Rattle.rt_undo.specs.Undo.{with_action}
use Rattle.rt_recording.specs.Naming.{named_history}
use Rattle.rt_recording.specs.Recordings.{HasStayed, Recording, came_back, span_action}
use Rattle.rt_recording.specs.Seen.{IsPrepared}
use Rattle.rt_recording.proofs.Named.{prepared_history, prepared_still}
use Rattle.rt_recording.proofs.recorder.Recorder.record.Goals as goal

pub add-requires-clause-still : goal.add-requires-clause-still
add-requires-clause-still c =
    let s = c.self.inside in
    let span : Span = record { site = c.args.site.number; first = c.args.first; last = c.args.last } in
    let next = c.in-Some.next in
    let is = sym c.take.ensures.value ∙ c.in-Some.is in
    let prepared : IsPrepared s.table s.stacks next = subst (λ o. IfSome o (IsPrepared s.table s.stacks)) is c.self.invariant.next in
    prepared_still s.table s.stacks.moves s.next next c.push_reserved.new.self c.args.kind span is
    (c.push_reserved.ensures.items ∙ (λ i. prepared.empty i ++ record { site = c.number.ensures.value i; first = c.args.first; last = c.args.last } ∷ []))
    (subst (λ (v : Recording). IfSome v.pending (λ removed. HasStayed (came_back v) (span_action c.args.kind span removed))) (sym c.self.view_is) c.requires.stays)

pub returns-in-Some-clause-history : goal.returns-in-Some-clause-history
returns-in-Some-clause-history c =
    let s = c.self.inside in
    let span : Span = record { site = c.args.site.number; first = c.args.first; last = c.args.last } in
    let next = c.in-Some.next in
    let new = c.add.new.self.history in
    let is = sym c.take.ensures.value ∙ c.in-Some.is in
    let prepared : IsPrepared s.table s.stacks next = subst (λ o. IfSome o (IsPrepared s.table s.stacks)) is c.self.invariant.next in
    subst (λ (v : Recording). IfSome v.pending (λ removed. named_history s.table new ≡ with_action v.auto (span_action c.args.kind span removed) v.history)) c.self.view_is
    (prepared_history s.table s.auto_separators s.stacks.history new s.next next c.push_reserved.new.self c.args.kind span is
    (c.push_reserved.ensures.items ∙ (λ i. prepared.empty i ++ record { site = c.number.ensures.value i; first = c.args.first; last = c.args.last } ∷ []))
    c.add.ensures.history)
