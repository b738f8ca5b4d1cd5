use Rattle.std.proofs.Common.{◌≡◌, ◌∙◌, ◌<◌, ℕ, List, ap, arith, length, map, refl, subst, sym}
use Rattle.std.specs.List.{AllByRecursion}
use Rattle.std.proofs.lemmas.Result.{err_from_is_err_and}
use Rattle.rt_stamps.specs.declared.limits.TheConstants.{GREATEST_COUNT}
use Rattle.rt_stamps.specs.Words.{Word, as_words}
use Rattle.rt_ops.specs.Edits.{body_of}
use Rattle.rt_store.specs.declared.cell.Cell.{Cell}
use Rattle.rt_store.specs.Shown.{shown}
use Rattle.rt_store.specs.Tagged.{AreStates}
use Rattle.rt_plans.specs.DocValue.{DocValue, new_doc}
use Rattle.rt_plans.specs.Insertions.{all_listed}
use Rattle.rt_plans.proofs.PlanLaws.{spent}
use Rattle.rt_undo.specs.Actions.{Action, group_of}
use Rattle.rt_revert.specs.Named.{AreAt, is_in_group}
use Rattle.rt_revert.specs.Plans.{IsOf, IsTextChange, marks_after, named_group}
use Rattle.rt_revert.specs.Portions.{only}
use Rattle.rt_revert.specs.Progress.{IsSoFar, LookAlike}
use Rattle.rt_revert.specs.Reverting.{as_it_is, reversion}
use Rattle.rt_revert.proofs.Grouped.{IsBegun, begun_copy, begun_going, begun_so_far, ended_given, ended_group, group_had, later_given, later_group, later_sound, older_named, portion_of, ready_cells}
use Rattle.rt_revert.proofs.group.planned_reversion.Goals as goal

pub fill-requires-clause-few : goal.fill-requires-clause-few
fill-requires-clause-few g c =
    let store = g.S.TextStore.list c.args.store.now in
    let group = group_of c.args.group.now in
    (ready_cells c.kept_cells.new.kept c.args.states.now store group c.in_ok-cells.cells.items (g.met.S.TextStore.ends c.args.store.now)
    (c.in_ok-cells.ensures.alike (only (is_in_group group) store) (subst (λ (l : List ℕ). AreAt store l (only (is_in_group group) store)) (sym c.deref.ensures.value) c.in_ok-positions.ensures.cells)) c.requires.few).0

pub fill-requires-clause-ends : goal.fill-requires-clause-ends
fill-requires-clause-ends g c =
    let store = g.S.TextStore.list c.args.store.now in
    let group = group_of c.args.group.now in
    (ready_cells c.kept_cells.new.kept c.args.states.now store group c.in_ok-cells.cells.items (g.met.S.TextStore.ends c.args.store.now)
    (c.in_ok-cells.ensures.alike (only (is_in_group group) store) (subst (λ (l : List ℕ). AreAt store l (only (is_in_group group) store)) (sym c.deref.ensures.value) c.in_ok-positions.ensures.cells)) c.requires.few).1

pub offsets_of-requires-clause-few : goal.offsets_of-requires-clause-few
offsets_of-requires-clause-few g c =
    let store = g.S.TextStore.list c.args.store.now in
    let group = group_of c.args.group.now in
    omega (
      arith,
      ap length c.in_ok-fill.ensures.list,
      (ready_cells c.kept_cells.new.kept c.args.states.now store group c.in_ok-cells.cells.items (g.met.S.TextStore.ends c.args.store.now)
          (c.in_ok-cells.ensures.alike (only (is_in_group group) store) (subst (λ (l : List ℕ). AreAt store l (only (is_in_group group) store)) (sym c.deref.ensures.value) c.in_ok-positions.ensures.cells)) c.requires.few).0,
    )

pub offsets_of-requires-clause-older : goal.offsets_of-requires-clause-older
offsets_of-requires-clause-older g c =
    let store = g.S.TextStore.list c.args.store.now in
    let group = group_of c.args.group.now in
    older_named c.kept_cells.new.kept c.args.states.now (g.C.TextStore.list c.fill.new.copy) store c.args.author.count group
    (subst (λ (l : List (Cell ℕ)). LookAlike (map (shown c.kept_cells.new.kept) l) (map (shown c.args.states.now) (only (is_in_group group) store))) (sym c.in_ok-fill.ensures.list)
    (c.in_ok-cells.ensures.alike (only (is_in_group group) store) (subst (λ (l : List ℕ). AreAt store l (only (is_in_group group) store)) (sym c.deref.ensures.value) c.in_ok-positions.ensures.cells)))
    c.requires.older c.requires.count

pub revert_all-requires-clause-copy : goal.revert_all-requires-clause-copy
revert_all-requires-clause-copy g c =
    let old = c.args.kept.now in
    let kept = c.kept_cells.new.kept in
    let states = c.args.states.now in
    let store = g.S.TextStore.list c.args.store.now in
    let work = g.C.TextStore.list c.fill.new.copy in
    let number = c.args.author.site.number in
    let count = c.args.author.count in
    let plan = c.new-plan.result in
    let group = group_of c.args.group.now in
    let offsets = c.in_ok-offsets.offsets in
    let begun : IsBegun kept states work store count offsets group plan = record {
      new = record {
        drafts = c.new-plan.ensures.drafts;
        greatest = c.new-plan.ensures.count;
        now = c.new-plan.ensures.now;
        moved = c.new-plan.ensures.moved;
        names = c.new-plan.ensures.names;
        changes = c.new-plan.ensures.changes;
        returns = c.new-plan.ensures.returns;
        actions = c.new-plan.ensures.actions;
        offsets = c.new-plan.ensures.offsets;
      };
      alike = subst (λ (l : List (Cell ℕ)). LookAlike (map (shown kept) l) (map (shown states) (only (is_in_group group) store))) (sym c.in_ok-fill.ensures.list)
          (c.in_ok-cells.ensures.alike (only (is_in_group group) store) (subst (λ (l : List ℕ). AreAt store l (only (is_in_group group) store)) (sym c.deref.ensures.value) c.in_ok-positions.ensures.cells));
      given = subst (AreStates kept) (sym c.in_ok-fill.ensures.list) c.in_ok-cells.ensures.states;
      distinct = c.requires.distinct;
      few = c.requires.few;
      older = c.requires.older;
      bounded = c.requires.count;
      small = c.in_ok-offsets.ensures.small;
      at = c.in_ok-offsets.ensures.offsets;
    } in
    begun_copy kept states work store number count offsets group plan begun

pub revert_all-requires-clause-going : goal.revert_all-requires-clause-going
revert_all-requires-clause-going g c =
    let old = c.args.kept.now in
    let kept = c.kept_cells.new.kept in
    let states = c.args.states.now in
    let store = g.S.TextStore.list c.args.store.now in
    let work = g.C.TextStore.list c.fill.new.copy in
    let number = c.args.author.site.number in
    let count = c.args.author.count in
    let plan = c.new-plan.result in
    let group = group_of c.args.group.now in
    let offsets = c.in_ok-offsets.offsets in
    let begun : IsBegun kept states work store count offsets group plan = record {
      new = record {
        drafts = c.new-plan.ensures.drafts;
        greatest = c.new-plan.ensures.count;
        now = c.new-plan.ensures.now;
        moved = c.new-plan.ensures.moved;
        names = c.new-plan.ensures.names;
        changes = c.new-plan.ensures.changes;
        returns = c.new-plan.ensures.returns;
        actions = c.new-plan.ensures.actions;
        offsets = c.new-plan.ensures.offsets;
      };
      alike = subst (λ (l : List (Cell ℕ)). LookAlike (map (shown kept) l) (map (shown states) (only (is_in_group group) store))) (sym c.in_ok-fill.ensures.list)
          (c.in_ok-cells.ensures.alike (only (is_in_group group) store) (subst (λ (l : List ℕ). AreAt store l (only (is_in_group group) store)) (sym c.deref.ensures.value) c.in_ok-positions.ensures.cells));
      given = subst (AreStates kept) (sym c.in_ok-fill.ensures.list) c.in_ok-cells.ensures.states;
      distinct = c.requires.distinct;
      few = c.requires.few;
      older = c.requires.older;
      bounded = c.requires.count;
      small = c.in_ok-offsets.ensures.small;
      at = c.in_ok-offsets.ensures.offsets;
    } in
    begun_going kept states work store number count offsets group plan begun

pub revert_all-requires-clause-given : goal.revert_all-requires-clause-given
revert_all-requires-clause-given g c = later_given c.args.kept.now c.kept_cells.new.kept (group_of c.args.group.now) c.in_ok-cells.ensures.ids c.requires.given

pub revert_all-requires-clause-sound : goal.revert_all-requires-clause-sound
revert_all-requires-clause-sound g c = later_sound c.args.kept.now c.kept_cells.new.kept (group_of c.args.group.now) c.in_ok-cells.ensures.ids c.requires.given c.requires.sound

pub returns-in_err-revert_all-clause-err : goal.returns-in_err-revert_all-clause-err
returns-in_err-revert_all-clause-err g c =
    let p = err_from_is_err_and c.from_residual-in_err-revert_all.result c.from_residual-in_err-revert_all.ensures.1 in
    let old = c.args.kept.now in
    let kept = c.kept_cells.new.kept in
    let states = c.args.states.now in
    let store = g.S.TextStore.list c.args.store.now in
    let work = g.C.TextStore.list c.fill.new.copy in
    let number = c.args.author.site.number in
    let count = c.args.author.count in
    let plan = c.new-plan.result in
    let group = group_of c.args.group.now in
    let offsets = c.in_ok-offsets.offsets in
    let begun : IsBegun kept states work store count offsets group plan = record {
      new = record {
        drafts = c.new-plan.ensures.drafts;
        greatest = c.new-plan.ensures.count;
        now = c.new-plan.ensures.now;
        moved = c.new-plan.ensures.moved;
        names = c.new-plan.ensures.names;
        changes = c.new-plan.ensures.changes;
        returns = c.new-plan.ensures.returns;
        actions = c.new-plan.ensures.actions;
        offsets = c.new-plan.ensures.offsets;
      };
      alike = subst (λ (l : List (Cell ℕ)). LookAlike (map (shown kept) l) (map (shown states) (only (is_in_group group) store))) (sym c.in_ok-fill.ensures.list)
          (c.in_ok-cells.ensures.alike (only (is_in_group group) store) (subst (λ (l : List ℕ). AreAt store l (only (is_in_group group) store)) (sym c.deref.ensures.value) c.in_ok-positions.ensures.cells));
      given = subst (AreStates kept) (sym c.in_ok-fill.ensures.list) c.in_ok-cells.ensures.states;
      distinct = c.requires.distinct;
      few = c.requires.few;
      older = c.requires.older;
      bounded = c.requires.count;
      small = c.in_ok-offsets.ensures.small;
      at = c.in_ok-offsets.ensures.offsets;
    } in
    let same : named_group kept group ≡ named_group old group = later_group old kept group c.in_ok-cells.ensures.ids c.requires.given in
    rw (p.1, p.2) (spent
    (λ k doc of. subst (λ (l : List (Action (List Word))). GREATEST_COUNT < (reversion doc l).doc.count) same
    (k (portion_of doc group) (as_it_is doc) (group_had doc group) (begun_so_far kept states work store number count offsets group plan begun doc of)))
    c.in_err-revert_all.ensures.err)

pub returns-clause-plan : goal.returns-clause-plan
returns-clause-plan g c doc of =
    let old = c.args.kept.now in
    let kept = c.kept_cells.new.kept in
    let states = c.args.states.now in
    let store = g.S.TextStore.list c.args.store.now in
    let work = g.C.TextStore.list c.fill.new.copy in
    let number = c.args.author.site.number in
    let count = c.args.author.count in
    let plan = c.new-plan.result in
    let group = group_of c.args.group.now in
    let offsets = c.in_ok-offsets.offsets in
    let begun : IsBegun kept states work store count offsets group plan = record {
      new = record {
        drafts = c.new-plan.ensures.drafts;
        greatest = c.new-plan.ensures.count;
        now = c.new-plan.ensures.now;
        moved = c.new-plan.ensures.moved;
        names = c.new-plan.ensures.names;
        changes = c.new-plan.ensures.changes;
        returns = c.new-plan.ensures.returns;
        actions = c.new-plan.ensures.actions;
        offsets = c.new-plan.ensures.offsets;
      };
      alike = subst (λ (l : List (Cell ℕ)). LookAlike (map (shown kept) l) (map (shown states) (only (is_in_group group) store))) (sym c.in_ok-fill.ensures.list)
          (c.in_ok-cells.ensures.alike (only (is_in_group group) store) (subst (λ (l : List ℕ). AreAt store l (only (is_in_group group) store)) (sym c.deref.ensures.value) c.in_ok-positions.ensures.cells));
      given = subst (AreStates kept) (sym c.in_ok-fill.ensures.list) c.in_ok-cells.ensures.states;
      distinct = c.requires.distinct;
      few = c.requires.few;
      older = c.requires.older;
      bounded = c.requires.count;
      small = c.in_ok-offsets.ensures.small;
      at = c.in_ok-offsets.ensures.offsets;
    } in
    let same : named_group kept group ≡ named_group old group = later_group old kept group c.in_ok-cells.ensures.ids c.requires.given in
    let late = g.C.TextStore.list c.revert_all.new.copy in
    let done = c.revert_all.new.plan in
    let part = portion_of doc group in
    let so_far : IsSoFar kept number late done part (reversion doc (named_group old group)) =
    subst (λ (l : List (Action (List Word))). IsSoFar kept number late done part (reversion doc l)) same
    (c.in_ok-revert_all.ensures.so_far part (as_it_is doc) (group_had doc group) (begun_so_far kept states work store number count offsets group plan begun doc of)) in
    record {
      drafts = ap (map body_of) c.in_ok-reversal.ensures.drafts ∙ sym so_far.drafts;
      actions = ended_group kept number late done part (reversion doc (named_group old group)) c.in_ok-reversal.reversal.actions.items c.in_ok-revert_all.ensures.going so_far c.in_ok-reversal.ensures.actions;
      returns = c.in_ok-reversal.ensures.returns ∙ sym so_far.returns;
      marks = ap (λ l. marks_after l doc.marks) c.in_ok-reversal.ensures.changes ∙ sym so_far.marks;
      tags = ap (λ l. all_listed (as_words l) doc.tags) c.in_ok-reversal.ensures.names ∙ sym so_far.tags;
    }

pub returns-clause-fits : goal.returns-clause-fits
returns-clause-fits g c doc of =
    let old = c.args.kept.now in
    let kept = c.kept_cells.new.kept in
    let states = c.args.states.now in
    let store = g.S.TextStore.list c.args.store.now in
    let work = g.C.TextStore.list c.fill.new.copy in
    let number = c.args.author.site.number in
    let count = c.args.author.count in
    let plan = c.new-plan.result in
    let group = group_of c.args.group.now in
    let offsets = c.in_ok-offsets.offsets in
    let begun : IsBegun kept states work store count offsets group plan = record {
      new = record {
        drafts = c.new-plan.ensures.drafts;
        greatest = c.new-plan.ensures.count;
        now = c.new-plan.ensures.now;
        moved = c.new-plan.ensures.moved;
        names = c.new-plan.ensures.names;
        changes = c.new-plan.ensures.changes;
        returns = c.new-plan.ensures.returns;
        actions = c.new-plan.ensures.actions;
        offsets = c.new-plan.ensures.offsets;
      };
      alike = subst (λ (l : List (Cell ℕ)). LookAlike (map (shown kept) l) (map (shown states) (only (is_in_group group) store))) (sym c.in_ok-fill.ensures.list)
          (c.in_ok-cells.ensures.alike (only (is_in_group group) store) (subst (λ (l : List ℕ). AreAt store l (only (is_in_group group) store)) (sym c.deref.ensures.value) c.in_ok-positions.ensures.cells));
      given = subst (AreStates kept) (sym c.in_ok-fill.ensures.list) c.in_ok-cells.ensures.states;
      distinct = c.requires.distinct;
      few = c.requires.few;
      older = c.requires.older;
      bounded = c.requires.count;
      small = c.in_ok-offsets.ensures.small;
      at = c.in_ok-offsets.ensures.offsets;
    } in
    let same : named_group kept group ≡ named_group old group = later_group old kept group c.in_ok-cells.ensures.ids c.requires.given in
    let late = g.C.TextStore.list c.revert_all.new.copy in
    let done = c.revert_all.new.plan in
    let part = portion_of doc group in
    let so_far : IsSoFar kept number late done part (reversion doc (named_group old group)) =
    subst (λ (l : List (Action (List Word))). IsSoFar kept number late done part (reversion doc l)) same
    (c.in_ok-revert_all.ensures.so_far part (as_it_is doc) (group_had doc group) (begun_so_far kept states work store number count offsets group plan begun doc of)) in
    omega (arith, so_far.count, c.in_ok-revert_all.ensures.going.count)

pub returns-clause-given : goal.returns-clause-given
returns-clause-given g c = ended_given c.kept_cells.new.kept c.revert_all.new.plan c.in_ok-reversal.reversal.actions.items c.in_ok-revert_all.ensures.going c.in_ok-reversal.ensures.actions

pub returns-clause-changes : goal.returns-clause-changes
returns-clause-changes g c =
    let old = c.args.kept.now in
    let kept = c.kept_cells.new.kept in
    let states = c.args.states.now in
    let store = g.S.TextStore.list c.args.store.now in
    let work = g.C.TextStore.list c.fill.new.copy in
    let number = c.args.author.site.number in
    let count = c.args.author.count in
    let plan = c.new-plan.result in
    let group = group_of c.args.group.now in
    let offsets = c.in_ok-offsets.offsets in
    let begun : IsBegun kept states work store count offsets group plan = record {
      new = record {
        drafts = c.new-plan.ensures.drafts;
        greatest = c.new-plan.ensures.count;
        now = c.new-plan.ensures.now;
        moved = c.new-plan.ensures.moved;
        names = c.new-plan.ensures.names;
        changes = c.new-plan.ensures.changes;
        returns = c.new-plan.ensures.returns;
        actions = c.new-plan.ensures.actions;
        offsets = c.new-plan.ensures.offsets;
      };
      alike = subst (λ (l : List (Cell ℕ)). LookAlike (map (shown kept) l) (map (shown states) (only (is_in_group group) store))) (sym c.in_ok-fill.ensures.list)
          (c.in_ok-cells.ensures.alike (only (is_in_group group) store) (subst (λ (l : List ℕ). AreAt store l (only (is_in_group group) store)) (sym c.deref.ensures.value) c.in_ok-positions.ensures.cells));
      given = subst (AreStates kept) (sym c.in_ok-fill.ensures.list) c.in_ok-cells.ensures.states;
      distinct = c.requires.distinct;
      few = c.requires.few;
      older = c.requires.older;
      bounded = c.requires.count;
      small = c.in_ok-offsets.ensures.small;
      at = c.in_ok-offsets.ensures.offsets;
    } in
    let same : named_group kept group ≡ named_group old group = later_group old kept group c.in_ok-cells.ensures.ids c.requires.given in
    let doc : DocValue = record (new_doc number 0) { cells = map (shown states) store; count = count } in
    let of : IsOf states store number count doc = record { cells = refl; site = refl; count = refl } in
    let late = g.C.TextStore.list c.revert_all.new.copy in
    let done = c.revert_all.new.plan in
    let part = portion_of doc group in
    let so_far : IsSoFar kept number late done part (reversion doc (named_group old group)) =
    subst (λ (l : List (Action (List Word))). IsSoFar kept number late done part (reversion doc l)) same
    (c.in_ok-revert_all.ensures.so_far part (as_it_is doc) (group_had doc group) (begun_so_far kept states work store number count offsets group plan begun doc of)) in
    subst (AllByRecursion IsTextChange) (sym c.in_ok-reversal.ensures.changes) so_far.changes
