use Rattle.std.proofs.Common.{◌≡◌, ◌∙◌, ◌++◌, ◌∷◌, [], List, All, ap, cond, map, subst, sym}
use Rattle.std.specs.Prelude.{string_bytes}
use Rattle.rt_ops.specs.Edits.{body_of}
use Rattle.rt_ops.specs.Operations.{Tag, stamp_of, stamps_in}
use Rattle.rt_store.specs.Spans.{is_in_spans}
use Rattle.rt_tags.specs.declared.states.TagEntry.{TagEntry}
use Rattle.rt_tags.specs.States.{IsTag, name_at, writes_at}
use Rattle.rt_tags.specs.Writers.{state_after}
use Rattle.rt_rga.specs.declared.plan.Named.{Named}
use Rattle.rt_rga.specs.Batches.{entries_on, named_with, tag_writes_by}
use Rattle.rt_rga.proofs.PlannedEntries.{spans_named, tags_more}
use Rattle.rt_rga.proofs.plan.push_named.Goals as goal

pub returns-in_ok-push_spans-in-Tag-clause-writes : goal.returns-in_ok-push_spans-in-Tag-clause-writes
returns-in_ok-push_spans-in-Tag-clause-writes c = λ state s.
    let old = c.args.states.now in
    let new = c.number.new.self in
    let items = c.args.named.now.items in
    let op = c.args.op.now in
    let spans = c.in-Tag.spans.items in
    let e : TagEntry = record { tag = c.in_ok-tag-in-Tag.tag; writer = c.stamp.result; on = c.in-Tag.on } in
    let body : op.body ≡ Tag c.in-Tag.on (string_bytes c.in-Tag.name) spans = sym c.edit.ensures.body ∙ ap body_of c.in-Tag.is in
    let name : name_at new c.in_ok-tag-in-Tag.tag ≡ string_bytes c.in-Tag.name = c.in_ok-tag-in-Tag.ensures.tag ∙ c.deref.ensures in
    let before = state_after state (writes_at old (entries_on items s)) in
    ap (λ all. state_after state (writes_at new (entries_on all s))) (c.in_ok-push_spans-in-Tag.ensures.ok ∙ ap (λ spans. items ++ map (named_with e) (stamps_in spans)) c.deref-in-Tag.ensures.value)
    ∙ spans_named old new items e spans c.number.ensures.ids c.requires.tags state s
    ∙ (λ j. state_after before (cond (is_in_spans spans s) (record { name = name j; writer = c.stamp.ensures j; on = c.in-Tag.on } ∷ []) []))
    ∙ ap (λ body. state_after before (tag_writes_by (stamp_of op) body s)) (sym body)

pub returns-in_ok-push_spans-in-Tag-clause-tags : goal.returns-in_ok-push_spans-in-Tag-clause-tags
returns-in_ok-push_spans-in-Tag-clause-tags c =
    let new = c.number.new.self in
    let e : TagEntry = record { tag = c.in_ok-tag-in-Tag.tag; writer = c.stamp.result; on = c.in-Tag.on } in
    subst (λ (all : List Named). All (λ n. IsTag new n.entry.tag) all) (sym c.in_ok-push_spans-in-Tag.ensures.ok)
    (tags_more c.args.states.now new c.args.named.now.items e (stamps_in c.deref-in-Tag.result.now) c.number.ensures.ids c.requires.tags c.in_ok-tag-in-Tag.ensures.given)
