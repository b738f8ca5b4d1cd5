use Rattle.std.proofs.Common.{◌≡◌, ◌∙◌, ◌^◌, ◌-◌, All, List, ap, length, refl, string_bytes, subst, sym, true}
use Rattle.std.specs.Prelude.{false, Result, Ok, Err, OnOk}
use Rattle.std.specs.Result.{is_err}
use Rattle.rt_ops.specs.Edits.{body_of}
use Rattle.rt_oplog.specs.Logs.{with_operation}
use Rattle.rt_rga.specs.Answers.{New, answer_within}
use Rattle.rt_rga.specs.Histories.{IsHistory}
use Rattle.rt_rga.specs.Taken.{IsChange, lists_of}
use Rattle.rt_store.specs.Shown.{TaggedCell}
use Rattle.rt_changes.proofs.Accepted.{told_replays}
use Rattle.rt_stamps.specs.Words.{as_words}
use Rattle.rt_tags.specs.Tags.{IsName, is_ready}
use Rattle.rt_plans.specs.DocValue.{DocValue}
use Rattle.rt_plans.specs.Insertions.{all_listed}
use Rattle.rt_store.specs.Cells.{text_of}
use Rattle.rt_text.specs.Accepted.{with_new}
use Rattle.rt_text.specs.Kept.{IsDoc}
use Rattle.rt_text.proofs.AcceptedDocument.{accepted_fits, accepted_is, accepted_seen, all_under, lists_named, seen_continues, seen_new, seen_room, seen_with}
use Rattle.rt_text.proofs.MarkLaws.{site_fits}
use Rattle.rt_text.proofs.doc.Doc.take.Goals as goal

on_ok : {A B P : Type 0} (r : Result A B) → false ≡ is_err r → OnOk r P → P
on_ok (Ok a) e p = p
on_ok (Err b) e p = absurd (cc e)

pub take-requires-clause-continues : goal.take-requires-clause-continues
take-requires-clause-continues g c =
    seen_continues c.self.inside.replica c.args.op c.args.self.now c.self.inside.marks c.self.inside.tags.names c.self.view_is c.requires c.kept.ensures.history c.edit.ensures.rules

pub take-requires-clause-room : goal.take-requires-clause-room
take-requires-clause-room g c =
    seen_room c.self.inside.replica c.args.op c.args.self.now c.self.inside.marks c.self.inside.tags.names c.self.view_is c.requires c.kept.ensures.document.cells

pub invariant_of-self : goal.invariant_of-self
invariant_of-self g c = subst (IsDoc c.self.inside.replica.cells c.self.inside.marks) (sym c.prepare_lists.ensures.names) c.self.invariant

pub returns-then-is_err-clause-unchanged : goal.returns-then-is_err-clause-unchanged
returns-then-is_err-clause-unchanged g c = ap (seen_with c.self.inside.replica c.self.inside.marks) c.prepare_lists.ensures.names ∙ c.self.view_is

pub invariant_of-self-in-Err : goal.invariant_of-self-in-Err
invariant_of-self-in-Err g c = subst (λ (p : _). p) (λ k. IsDoc (sym c.in-Err.ensures.same k).cells c.self.inside.marks (sym c.prepare_lists.ensures.names k)) c.self.invariant

pub returns-in-Err-clause-unchanged : goal.returns-in-Err-clause-unchanged
returns-in-Err-clause-unchanged g c = (λ k. seen_with (c.in-Err.ensures.same k) c.self.inside.marks (c.prepare_lists.ensures.names k)) ∙ c.self.view_is

pub follow-requires-clause-fits : goal.follow-requires-clause-fits
follow-requires-clause-fits g c =
    let old = c.self.inside.replica in
    let is_new = seen_new old c.args.op c.args.self.now c.self.inside.marks c.self.inside.tags.names c.self.view_is c.requires in
    site_fits (length (text_of old.cells)) c.in-Ok.change.inserted (2 ^ 64 - 1) c.self.inside.marks
    (accepted_fits old c.args.op c.in-Ok.change is_new c.in-Ok.ensures.change
    c.args.self.now c.self.inside.marks c.self.inside.tags.names c.self.view_is c.kept.ensures.document.cells c.kept.ensures.most)
    c.self.invariant.placed

pub list_tags-requires-clause-names : goal.list_tags-requires-clause-names
list_tags-requires-clause-names g c =
    let names = c.deref.result.now in
    let lists : as_words names ≡ lists_of c.args.op.body = ap as_words c.deref.ensures.value ∙ c.in-Ok.ensures.change.lists in
    all_under IsName string_bytes names (subst (All IsName) (sym lists) (lists_named c.args.op.body c.edit.ensures.rules))

pub list_tags-requires-clause-ready : goal.list_tags-requires-clause-ready
list_tags-requires-clause-ready g c =
    let names = c.deref.result.now in
    let lists : as_words names ≡ lists_of c.args.op.body = ap as_words c.deref.ensures.value ∙ c.in-Ok.ensures.change.lists in
    let body : lists_of (body_of c.edit.result.now) ≡ lists_of c.args.op.body = ap lists_of c.edit.ensures.body in
    let ready = on_ok c.prepare_lists.result c.if-is_err.ensures.value c.prepare_lists.ensures.ready in
    all_under (λ n. is_ready n c.prepare_lists.new.table ≡ true) string_bytes names (subst (All (λ n. is_ready n c.prepare_lists.new.table ≡ true)) (body ∙ sym lists) ready)

pub invariant_of-self-in-Ok : goal.invariant_of-self-in-Ok
invariant_of-self-in-Ok g c =
    let old = c.self.inside.replica in
    let document = c.args.self.now in
    let op = c.args.op in
    let change = c.in-Ok.change in
    let is_new = seen_new old op document c.self.inside.marks c.self.inside.tags.names c.self.view_is c.requires in
    let tells = c.in-Ok.ensures.change in
    let lists : as_words c.deref.result.now ≡ lists_of op.body = ap as_words c.deref.ensures.value ∙ tells.lists in
    let names = c.list_tags.ensures ∙ ap (λ l. all_listed l c.prepare_lists.new.table.names) lists ∙ ap (all_listed (lists_of op.body)) c.prepare_lists.ensures.names in
    let seen : seen_with c.take.new.self c.follow.new.marks c.list_tags.new.table.names ≡ with_new op document =
    accepted_seen old op change is_new tells document c.take.new.self c.self.inside.marks c.follow.new.marks c.self.inside.tags.names c.list_tags.new.table.names c.self.view_is
    c.in-Ok.ensures.log c.store.ensures.cells c.take.ensures.site c.take.ensures.limit c.follow.ensures names in
    let doc : IsDoc document.cells document.marks document.tags = subst (λ (f : DocValue). IsDoc f.cells f.marks f.tags) c.self.view_is c.self.invariant in
    let more : IsHistory (with_operation op document.log) = subst IsHistory (ap (λ (f : DocValue). f.log) seen) c.log.ensures.history in
    subst (λ (f : DocValue). IsDoc f.cells f.marks f.tags) (sym seen) (accepted_is document op c.kept.ensures.history more c.kept.ensures.document.cells c.edit.ensures.rules doc)

pub returns-in-Ok-clause-taken : goal.returns-in-Ok-clause-taken
returns-in-Ok-clause-taken g c =
    let old = c.self.inside.replica in
    let document = c.args.self.now in
    let op = c.args.op in
    let change = c.in-Ok.change in
    let is_new = seen_new old op document c.self.inside.marks c.self.inside.tags.names c.self.view_is c.requires in
    let tells = c.in-Ok.ensures.change in
    let lists : as_words c.deref.result.now ≡ lists_of op.body = ap as_words c.deref.ensures.value ∙ tells.lists in
    let names = c.list_tags.ensures ∙ ap (λ l. all_listed l c.prepare_lists.new.table.names) lists ∙ ap (all_listed (lists_of op.body)) c.prepare_lists.ensures.names in
    accepted_seen old op change is_new tells document c.take.new.self c.self.inside.marks c.follow.new.marks c.self.inside.tags.names c.list_tags.new.table.names c.self.view_is
    c.in-Ok.ensures.log c.store.ensures.cells c.take.ensures.site c.take.ensures.limit c.follow.ensures names

pub returns-in-Ok-clause-replays : goal.returns-in-Ok-clause-replays
returns-in-Ok-clause-replays g c =
    let document = c.args.self.now in
    let cells : c.self.inside.replica.cells ≡ document.cells = ap (λ (f : DocValue). f.cells) c.self.view_is in
    told_replays document.log c.take.new.self.log document.cells c.take.new.self.cells c.args.op c.in-Ok.change c.kept.ensures.history c.log.ensures.history
    c.kept.ensures.document.cells c.store.ensures.cells (c.in-Ok.ensures.log ∙ ap (λ (f : DocValue). with_operation c.args.op f.log) c.self.view_is)
    (subst (λ (l : List TaggedCell). IsChange c.args.op l c.in-Ok.change) cells c.in-Ok.ensures.change)
