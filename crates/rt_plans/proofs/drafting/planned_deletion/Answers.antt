use Rattle.std.proofs.Common.{◌≡◌, ℕ, Bool, true, false, ◌+◌, ◌-◌, ◌<◌, ◌≤◌, List, [], ◌++◌, cond, ap, append-nil, arith, length, map, refl, sym, ◌∙◌, Option, Some, None}
use Rattle.std.specs.Prelude.{is_some, option_and_then, option_map, slice_get, unwrap_or}
use Rattle.std.proofs.lemmas.List.{length-map}
use Rattle.rt_stamps.specs.declared.limits.TheConstants.{MOST_SPANS}
use Rattle.rt_stamps.specs.declared.stamp.Span.{Span}
use Rattle.rt_stamps.specs.declared.stamp.Stamp.{Stamp}
use Rattle.rt_ops.specs.Edits.{body_of}
use Rattle.rt_ops.specs.Operations.{Body, Delete}
use Rattle.rt_store.specs.declared.cell.Cell.{Cell}
use Rattle.rt_store.specs.Cells.{text_of, visible_of}
use Rattle.rt_store.specs.Shown.{TaggedCell, shown}
use Rattle.rt_tags.specs.States.{TagStates, names_on, state_at}
use Rattle.rt_lines.specs.declared.stretch.Stretch.{Stretch}
use Rattle.rt_lines.specs.Stretches.{part}
use Rattle.rt_lines.proofs.Parts.{part_length}
use Rattle.rt_plans.specs.Deletions.{Loss, loss_in}
use Rattle.rt_plans.specs.DocValue.{DocValue}
use Rattle.rt_plans.specs.NamedSpans.{parts_of, spans_in}
use Rattle.rt_plans.specs.RemovalDrafts.{removal_drafts}
use Rattle.rt_plans.specs.Removals.{is_covered, stamps_at}
use Rattle.rt_plans.specs.TagDrafts.{newline_drafts}
use Rattle.rt_plans.proofs.Shown.{stamps_at_shown}
use Rattle.std.proofs.lemmas.Result.{err_from_is_err_and}
use Rattle.rt_plans.proofs.drafting.planned_deletion.Goals as goal
use Rattle.rt_plans.proofs.drafting.planned_deletion.Goals.{then-held+in_ok-push_newline, else-held}

-- the Deletes at the same places
same_deletes : (table : TagStates) (kept : List (Cell ℕ)) (doc : DocValue) (removed places : ℕ → Bool) → doc.cells ≡ map (shown table) kept
    → ((place : ℕ) → removed place ≡ places place) → removal_drafts MOST_SPANS removed kept ≡ removal_drafts MOST_SPANS places doc.cells
same_deletes table kept doc removed places h same =
    let stamps : stamps_at removed 0 kept ≡ stamps_at places 0 doc.cells =
    (λ i. stamps_at (λ place. same place i) 0 kept) ∙ sym (stamps_at_shown (state_at table) places 0 kept) ∙ ap (stamps_at places 0) (sym h) in
    ap (λ (l : List Stamp). map (λ (spans : List Span). Delete spans) (parts_of MOST_SPANS (spans_in l))) stamps

pub push_newline-requires-clause-place : goal.push_newline-requires-clause-place
push_newline-requires-clause-place g c =
    let kept = g.S.TextStore.list c.args.store.now in
    omega (arith, c.requires.stretch.0, c.requires.stretch.1, length-map (visible_of kept) (λ (cell : Cell ℕ). cell.ch))

some_if : (b : Bool) (n : ℕ) → is_some (cond b (Some n) None) ≡ b
some_if true n = refl
some_if false n = refl

-- the last place of a stretch, among its characters
last_is : (stretch : Stretch) (text : List ℕ) → stretch.end ≤ length text → stretch.end - 1 - stretch.begin ≡ length (part stretch text) - 1
last_is stretch text h = omega (arith, part_length stretch text h)

-- and in the whole text
last_at : (stretch : Stretch) (text : List ℕ) → stretch.begin < stretch.end → stretch.end ≤ length text → stretch.end - 1 ≡ stretch.begin + (length (part stretch text) - 1)
last_at stretch text some h = omega (arith, part_length stretch text h, some)

pub returns-clause-held : goal.returns-clause-held
returns-clause-held g c =
    let text = text_of (g.S.TextStore.list c.args.store.now) in
    let stretch = c.args.stretch in
    let last = length (part stretch text) - 1 in
    c.holds-held.ensures ∙ ap (is_covered c.args.ranges.now) (last_is stretch text c.requires.stretch.1) ∙ sym (some_if (is_covered c.args.ranges.now last) (stretch.begin + last))

pub returns-clause-drafts : goal.returns-clause-drafts
returns-clause-drafts g c = λ doc h.
    let kept = g.S.TextStore.list c.args.store.now in
    let table = c.args.states.now in
    let ranges = c.args.ranges.now in
    let stretch = c.args.stretch in
    let shown = part stretch (text_of kept) in
    let last = length shown - 1 in
    let loss : Loss = loss_in shown stretch.begin ranges in
    let deletes : List Body = removal_drafts MOST_SPANS loss.places doc.cells in
    let tags : Option ℕ → List Body =
    λ o. unwrap_or (option_map (λ (cell : TaggedCell). newline_drafts cell.stamp (names_on cell.state)) (option_and_then (slice_get (visible_of doc.cells)) o)) [] in
    let held = c.holds-held.ensures ∙ ap (is_covered ranges) (last_is stretch (text_of kept) c.requires.stretch.1) in
    let at : stretch.end - 1 ≡ stretch.begin + last = last_at stretch (text_of kept) c.requires.stretch.0 c.requires.stretch.1 in
    let deleted : map body_of c.in_ok-drafts.drafts.items ≡ deletes =
    c.in_ok-drafts.ensures.ok ∙ ap (λ l. removal_drafts MOST_SPANS (is_covered l) kept) c.deref.ensures.value
    ∙ same_deletes table kept doc (is_covered c.in_ok-removed.removed.items) loss.places h c.in_ok-removed.ensures.places in
    elim c.if-held.branch [
      | then-held+in_ok-push_newline w ↦
          (λ i. map body_of (w.drafts-is i).items) ∙ w.in_ok-push_newline.ensures.ok
          ∙ (λ i. deleted i ++ unwrap_or (option_map (λ (cell : TaggedCell). newline_drafts cell.stamp (names_on cell.state)) (slice_get (visible_of (sym h i)) (at i))) [])
          ∙ ap (λ b. deletes ++ tags (cond b (Some (stretch.begin + last)) None)) (sym w.if-held.true ∙ held)
      | else-held w ↦
          (λ i. map body_of (w.drafts-is i).items) ∙ deleted ∙ sym (append-nil deletes)
          ∙ ap (λ b. deletes ++ tags (cond b (Some (stretch.begin + last)) None)) (sym w.if-held.false ∙ held)
    ]

pub returns-in_err-removed : goal.returns-in_err-removed
returns-in_err-removed g c =
    let (y, is, gives) = err_from_is_err_and c.from_residual.result c.from_residual.ensures.1 in
    rw (is, gives) (record { drafts = tt; places = tt; order = tt; before = tt; held = tt; err = c.in_err-removed.ensures.err })

pub returns-in_err-drafts : goal.returns-in_err-drafts
returns-in_err-drafts g c =
    let (y, is, gives) = err_from_is_err_and c.from_residual-in_err-drafts.result c.from_residual-in_err-drafts.ensures.1 in
    rw (is, gives) (record { drafts = tt; places = tt; order = tt; before = tt; held = tt; err = c.in_err-drafts.ensures.err })

pub returns-in_err-push_newline : goal.returns-in_err-push_newline
returns-in_err-push_newline g c =
    let (y, is, gives) = err_from_is_err_and c.from_residual-in_err-push_newline.result c.from_residual-in_err-push_newline.ensures.1 in
    rw (is, gives) (record { drafts = tt; places = tt; order = tt; before = tt; held = tt; err = c.in_err-push_newline.ensures.err })
