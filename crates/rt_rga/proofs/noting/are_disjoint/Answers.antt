use Rattle.std.proofs.Common.{◌≡◌, ◌∙◌, Bool, ◌++◌, [], ◌∷◌, List, Global, String, Vec, ap, append_assoc, append-nil, refl, subst, sym}
use Rattle.rt_stamps.specs.declared.stamp.Span.{Span}
use Rattle.rt_ops.specs.Edits.{body_of}
use Rattle.rt_ops.specs.Operations.{Body, Name, Operation, Tag}
use Rattle.rt_ops.specs.declared.op.Edit.{Edit}
use Rattle.rt_ops.specs.declared.op.Edit.TheVariants as edits
use Rattle.rt_rga.specs.Extents.{IsAdded}
use Rattle.rt_rga.proofs.NotedTags.{none_covered, one_covered}
use Rattle.rt_rga.proofs.noting.are_disjoint.Goals as goal

-- an edit that is no Tag is the body of none
no_tag : (edit : Edit) (body : Body) → body_of edit ≡ body → ((on : Bool) (name : String Global) (spans : Vec Span Global) → edit ≡ edits.Tag on name spans → ⊥)
    → (on : Bool) (name : Name) (spans : List Span) → body ≡ Tag on name spans → ⊥
no_tag (edits.Insert after tags text) body e f on name spans k = cc (e, k)
no_tag (edits.Delete gone) body e f on name spans k = cc (e, k)
no_tag (edits.Tag now one there) body e f on name spans k = f now one there refl

pub loop-op-init : goal.loop-op-init
loop-op-init c = record {
  behind = [];
  whole = sym (append-nil c.args.ops.now);
  covered = record { disjoint = tt; covered = tt };
}

pub loop-op-preserved : goal.loop-op-preserved
loop-op-preserved c =
    let op : Operation = c.in-Some.op.now in
    let behind = c.loop-op.invariant.behind in
    record {
      behind = op ∷ behind;
      whole = c.loop-op.invariant.whole ∙ ap (λ (l : List Operation). l ++ behind) c.in-Some.ensures.cases.0 ∙ append_assoc c.in-Some.rest.now (op ∷ []) behind;
      covered = none_covered c.loop-op.extents op behind (no_tag c.edit.result.now op.body c.edit.ensures.body c.in_default-edit.not-Tag) c.loop-op.invariant.covered;
    }

pub loop-op-preserved-else-not-add : goal.loop-op-preserved-else-not-add
loop-op-preserved-else-not-add c =
    let op : Operation = c.in-Some.op.now in
    let behind = c.loop-op.invariant.behind in
    let name : Name = c.as_str.result.now in
    let spans = c.in-Tag.spans.items in
    let body : op.body ≡ Tag c.in-Tag.on name spans =
    sym c.edit.ensures.body ∙ ap body_of c.in-Tag.is ∙ ap (λ (n : Name). Tag c.in-Tag.on n spans) (sym c.as_str.ensures.value) in
    let added = subst (λ (s : List Span). IsAdded s name c.loop-op.extents c.add.new.extents) c.deref.ensures.value (c.add.ensures c.if-not-add.false) in
    record {
      behind = op ∷ behind;
      whole = c.loop-op.invariant.whole ∙ ap (λ (l : List Operation). l ++ behind) c.in-Some.ensures.cases.0 ∙ append_assoc c.in-Some.rest.now (op ∷ []) behind;
      covered = one_covered c.loop-op.extents c.add.new.extents op behind c.in-Tag.on name spans body added c.loop-op.invariant.covered;
    }
