-- A reverted action, in the working copy as in the document.
use Rattle.std.proofs.Common.{◌≡◌, ◌∙◌, ℕ, zero, suc, ◌+◌, ◌<◌, false, List, [], ◌∷◌, ◌++◌, drop, get_or, length, map, sym, ap, subst, arith, take}
use Rattle.std.specs.Prelude.{reverse}
use Rattle.std.specs.declared.alloc.Global.{Global}
use Rattle.std.specs.declared.vec.Vec.{Vec}
use Rattle.std.proofs.lemmas.List.{map-append}
use mathlib.Core.List.{reverse-cons}
use Rattle.rt_stamps.specs.declared.limits.TheConstants.{GREATEST_COUNT}
use Rattle.rt_stamps.specs.declared.stamp.Span.{Span}
use Rattle.rt_stamps.specs.declared.stamp.Stamp.{Stamp}
use Rattle.rt_stamps.specs.declared.stamp.TheConstants.{FINAL}
use Rattle.rt_stamps.specs.Words.{Word}
use Rattle.rt_ops.specs.Operations.{stamps_in}
use Rattle.rt_store.specs.declared.cell.Cell.{Cell}
use Rattle.rt_store.specs.Spans.{is_among}
use Rattle.rt_tags.specs.States.{TagStates}
use Rattle.rt_undo.specs.declared.action.Action.{Action as KeptAction}
use Rattle.rt_undo.specs.declared.action.RemovedSpan.{RemovedSpan}
use Rattle.rt_undo.specs.Actions.{Action, Removed, action_of, group_of, removed_in}
use Rattle.rt_undo.specs.Renames.{now_of}
use Rattle.rt_revert.specs.declared.plan.Return.{Return}
use Rattle.rt_revert.specs.declared.progress.Progress.{Progress}
use Rattle.rt_revert.specs.Plans.{AreGiven, RemovedAreGiven, named_action, named_group, named_removed}
use Rattle.rt_revert.specs.Portions.{HasAction, HasEach, Portion}
use Rattle.rt_revert.specs.Progress.{IsSoFar, IsUnderWay}
use Rattle.rt_revert.specs.Reverting.{Reversion, stamp_after, still_visible, with_removal, with_returns, with_reverted}
use Rattle.rt_revert.specs.ReversionLaws.{AllMayRevert, MayRevert}
use Rattle.rt_revert.proofs.Had.{all_after_had}
use Rattle.rt_revert.proofs.Stamps.{all_apart}
use Rattle.rt_revert.proofs.Steps.{returns_grow}

-- the stamps of an action's characters
pub stamps_after : (table : TagStates) (plan : Progress) (ss : List Stamp) → IsUnderWay table plan → map (now_of plan.renames) ss ≡ map (stamp_after plan.returns.items) ss
stamps_after table plan ss g = ap (λ f. map f ss) (λ i s. g.now s i)

pub stays : (table : TagStates) (plan : Progress) (ss : List Stamp) → IsUnderWay table plan → is_among ss FINAL ≡ false → is_among (map (now_of plan.renames) ss) FINAL ≡ false
stays table plan ss g n = ap (λ l. is_among l FINAL) (stamps_after table plan ss g) ∙ all_apart plan.returns.items ss g.apart n

module _ (table : TagStates) (number : ℕ) (old : List (Cell ℕ)) (before : Progress) (part : Portion) (r : Reversion) (action : KeptAction) (stamps : List Stamp) where
  abbrev removed : List (Removed (List Word))
  removed = map (named_removed table) (removed_in action.removed.items)

  abbrev end : Reversion
  end = with_reverted (named_action table (action_of action)) r

  theirs : IsSoFar table number old before part r → stamps ≡ map (stamp_after before.returns.items) (stamps_in action.inserted.items) → stamps ≡ map (stamp_after r.returns) (stamps_in action.inserted.items)
  theirs h e = e ∙ ap (λ l. map (stamp_after l) (stamps_in action.inserted.items)) (sym h.returns)

  -- the working copy has the characters that go
  pub gone_had : IsSoFar table number old before part r → stamps ≡ map (stamp_after before.returns.items) (stamps_in action.inserted.items) → HasAction part (action_of action) → HasEach part stamps
  gone_had h e had = subst (HasEach part) (sym (theirs h e)) (all_after_had part r.returns (stamps_in action.inserted.items) h.within.back had.0)

  back_count : IsSoFar table number old before part r → stamps ≡ map (stamp_after before.returns.items) (stamps_in action.inserted.items)
      → (with_returns removed (with_removal stamps r)).doc.count ≡ end.doc.count
  back_count h e = ap (λ ss. (with_returns removed (with_removal ss r)).doc.count) (theirs h e)

  pub early_back : IsSoFar table number old before part r → stamps ≡ map (stamp_after before.returns.items) (stamps_in action.inserted.items)
      → GREATEST_COUNT < (with_returns removed (with_removal stamps r)).doc.count → GREATEST_COUNT < end.doc.count
  early_back h e k = subst (λ (n : ℕ). GREATEST_COUNT < n) (back_count h e) k

  pub early_gone : IsSoFar table number old before part r → stamps ≡ map (stamp_after before.returns.items) (stamps_in action.inserted.items)
      → GREATEST_COUNT < (with_removal stamps r).doc.count → GREATEST_COUNT < end.doc.count
  early_gone h e k =
      let over : GREATEST_COUNT < (with_returns removed (with_removal stamps r)).doc.count = omega (arith, k, returns_grow removed (with_removal stamps r)) in
      early_back h e over

  pub acted : (new : List (Cell ℕ)) (late : Progress) (acts : Vec KeptAction Global) (ins : Vec Span Global) (rem : Vec RemovedSpan Global)
      → IsSoFar table number old before part r → stamps ≡ map (stamp_after before.returns.items) (stamps_in action.inserted.items)
      → IsSoFar table number new late part (with_returns removed (with_removal stamps r))
      → late.actions ≡ before.actions
      → acts.items ≡ late.actions.items ++ record { number = action.number; kind = action.kind; inserted = ins; removed = rem } ∷ []
      → stamps_in ins.items ≡ map (λ (x : Return). x.newer) (drop (length before.returns.items) late.returns.items)
      → map (named_removed table) (removed_in rem.items) ≡ still_visible stamps r.doc.cells
      → IsSoFar table number new (record late { actions = acts }) part end
  acted new late acts ins rem h e k same pushed inserted gone =
      let made : KeptAction = record { number = action.number; kind = action.kind; inserted = ins; removed = rem } in
      let back : Reversion = with_returns removed (with_removal stamps r) in
      let entry : List Stamp → List (Removed (List Word)) → Action (List Word) = λ ss rs. record { number = action.number; kind = action.kind; inserted = ss; removed = rs } in
      let came : stamps_in ins.items ≡ map (λ (x : Return). x.newer) (drop (length r.returns) back.returns) =
      inserted ∙ (λ i. map (λ (x : Return). x.newer) (drop (length (sym h.returns i)) (sym k.returns i))) in
      let actions : r.actions ++ entry (map (λ (x : Return). x.newer) (drop (length r.returns) back.returns)) (still_visible stamps r.doc.cells) ∷ []
      ≡ named_group table (group_of acts.items) =
      (λ i. (h.actions ∙ ap (λ v. named_group table (group_of v.items)) (sym same)) i ++ entry (sym came i) (sym gone i) ∷ [])
      ∙ sym (map-append (named_action table) (group_of late.actions.items) (action_of made ∷ []))
      ∙ ap (map (named_action table)) (sym (map-append action_of late.actions.items (made ∷ [])))
      ∙ ap (λ l. named_group table (group_of l)) (sym pushed) in
      let ours : IsSoFar table number new (record late { actions = acts }) part (record back {
        actions = r.actions ++ entry (map (λ (x : Return). x.newer) (drop (length r.returns) back.returns)) (still_visible stamps r.doc.cells) ∷ [];
      }) = record {
        cells = k.cells;
        within = record {
          newer = k.within.newer;
          back = k.within.back;
          offsets = k.within.offsets;
          distinct = k.within.distinct;
          older = k.within.older;
          few = k.within.few;
        };
        site = k.site;
        count = k.count;
        drafts = k.drafts;
        returns = k.returns;
        actions = actions;
        changes = k.changes;
        marks = k.marks;
        tags = k.tags;
      } in
      subst (λ (ss : List Stamp). IsSoFar table number new (record late { actions = acts }) part (record (with_returns removed (with_removal ss r)) {
        actions = r.actions ++ entry (map (λ (x : Return). x.newer) (drop (length r.returns) (with_returns removed (with_removal ss r)).returns)) (still_visible ss r.doc.cells) ∷ [];
      })) (theirs h e) ours

-- GROUPS

pub action_given : (table : TagStates) (group : List KeptAction) (i : ℕ) (a : KeptAction) → i < length group → a ≡ get_or group i a → AreGiven table (group_of group) → RemovedAreGiven table (removed_in a.removed.items)
action_given table [] i a lt e h = absurd (omega arith)
action_given table (x ∷ group) zero a lt e h = subst (λ (b : KeptAction). RemovedAreGiven table (removed_in b.removed.items)) (sym e) h.0
action_given table (x ∷ group) (suc i) a lt e h = action_given table group i a (omega arith) e h.1

pub action_sound : (table : TagStates) (group : List KeptAction) (i : ℕ) (a : KeptAction) → i < length group → a ≡ get_or group i a → AllMayRevert (named_group table (group_of group)) → MayRevert (named_action table (action_of a))
action_sound table [] i a lt e h = absurd (omega arith)
action_sound table (x ∷ group) zero a lt e h = subst (λ (b : KeptAction). MayRevert (named_action table (action_of b))) (sym e) h.0
action_sound table (x ∷ group) (suc i) a lt e h = action_sound table group i a (omega arith) e h.1

one_more : (group : List KeptAction) (i : ℕ) (a : KeptAction) → i < length group → a ≡ get_or group i a → take (i + 1) group ≡ take i group ++ a ∷ []
one_more [] i a lt e = absurd (omega arith)
one_more (x ∷ group) zero a lt e = ap (λ b. b ∷ []) (sym e)
one_more (x ∷ group) (suc i) a lt e =
    let n : suc i + 1 ≡ suc (i + 1) = omega arith in
    ap (λ k. take k (x ∷ group)) n ∙ ap (λ l. x ∷ l) (one_more group i a (omega arith) e)

turned : {X : Type 0} (xs : List X) (x : X) → reverse (xs ++ x ∷ []) ≡ x ∷ reverse xs
turned [] x = reverse-cons x []
turned (y ∷ xs) x = reverse-cons y (xs ++ x ∷ []) ∙ ap (λ l. l ++ y ∷ []) (turned xs x) ∙ ap (λ l. x ∷ l) (sym (reverse-cons y xs))

pub group_left : (table : TagStates) (group : List KeptAction) (i : ℕ) (a : KeptAction) → i < length group → a ≡ get_or group i a
    → reverse (named_group table (group_of (take (i + 1) group))) ≡ named_action table (action_of a) ∷ reverse (named_group table (group_of (take i group)))
group_left table group i a lt e =
    ap (λ l. reverse (named_group table (group_of l))) (one_more group i a lt e)
    ∙ ap (λ l. reverse (map (named_action table) l)) (map-append action_of (take i group) (a ∷ []))
    ∙ ap reverse (map-append (named_action table) (group_of (take i group)) (action_of a ∷ []))
    ∙ turned (named_group table (group_of (take i group))) (named_action table (action_of a))
