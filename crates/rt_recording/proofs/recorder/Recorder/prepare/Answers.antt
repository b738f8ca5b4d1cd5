use Rattle.std.proofs.Common.{◌∙◌, ap, arith, refl, subst, sym}
use Rattle.std.proofs.lemmas.Result.{err_from_is_err_and}
use Rattle.rt_recording.specs.Naming.{HistoryIsGiven, named_history}
use Rattle.rt_recording.specs.Recordings.{Recording}
use Rattle.rt_recording.proofs.Named.{history_kept, history_stays, same_but_table, still_kept}
use Rattle.rt_recording.proofs.recorder.Recorder.prepare.Goals as goal

pub invariant_of-self : goal.invariant_of-self
invariant_of-self c =
    let s = c.self.inside in
    let kept = still_kept s c.removed_cells.new.table c.removed_cells.ensures.ids c.self.invariant s.stacks refl in
    record { given = kept.0; next = kept.1 }

pub returns-in_err-removed-clause-history : goal.returns-in_err-removed-clause-history
returns-in_err-removed-clause-history c =
    let s = c.self.inside in
    history_kept s.table c.removed_cells.new.table c.removed_cells.ensures.ids s.stacks.history c.self.invariant.given ∙ ap (λ (v : Recording). v.history) c.self.view_is

pub invariant_of-self-in_err-inserted : goal.invariant_of-self-in_err-inserted
invariant_of-self-in_err-inserted c =
    let s = c.self.inside in
    let kept = still_kept s c.removed_cells.new.table c.removed_cells.ensures.ids c.self.invariant s.stacks refl in
    record { given = kept.0; next = kept.1 }

pub returns-in_err-inserted-clause-history : goal.returns-in_err-inserted-clause-history
returns-in_err-inserted-clause-history c =
    let s = c.self.inside in
    history_kept s.table c.removed_cells.new.table c.removed_cells.ensures.ids s.stacks.history c.self.invariant.given ∙ ap (λ (v : Recording). v.history) c.self.view_is

pub invariant_of-self-in_err-reserve : goal.invariant_of-self-in_err-reserve
invariant_of-self-in_err-reserve c =
    let kept = still_kept c.self.inside c.removed_cells.new.table c.removed_cells.ensures.ids c.self.invariant c.reserve.new.self c.in_err-reserve.ensures.err in
    record { given = kept.0; next = kept.1 }

pub returns-in_err-reserve-clause-history : goal.returns-in_err-reserve-clause-history
returns-in_err-reserve-clause-history c =
    let s = c.self.inside in
    let table = c.removed_cells.new.table in
    ap (named_history table) c.reserve.ensures.history
    ∙ history_kept s.table table c.removed_cells.ensures.ids s.stacks.history c.self.invariant.given
    ∙ ap (λ (v : Recording). v.history) c.self.view_is

pub invariant_of-self-2 : goal.invariant_of-self-2
invariant_of-self-2 c =
    let s = c.self.inside in
    let table = c.removed_cells.new.table in
    record {
      given = subst (HistoryIsGiven table) (sym c.reserve.ensures.history) (history_stays s.table table c.removed_cells.ensures.ids s.stacks.history c.self.invariant.given);
      next = record {
        given = c.in_ok-removed.ensures.given;
        empty = c.in_ok-inserted.ensures.items;
        room = omega (arith, c.in_ok-inserted.ensures.len, c.in_ok-inserted.ensures.capacity);
        ready = c.in_ok-reserve.ensures.ready;
      };
    }

pub returns-clause-history : goal.returns-clause-history
returns-clause-history c =
    let s = c.self.inside in
    let table = c.removed_cells.new.table in
    ap (named_history table) c.reserve.ensures.history
    ∙ history_kept s.table table c.removed_cells.ensures.ids s.stacks.history c.self.invariant.given
    ∙ ap (λ (v : Recording). v.history) c.self.view_is

pub returns-in_err-removed-clause-same : goal.returns-in_err-removed-clause-same
returns-in_err-removed-clause-same c =
    let p = err_from_is_err_and c.from_residual.result c.from_residual.ensures.1 in
    rw p.1 (same_but_table c.self.inside c.removed_cells.new.table c.removed_cells.ensures.ids c.self.invariant c.self.inside.stacks refl c.args.self.now c.self.view_is)

pub returns-in_err-inserted-clause-same : goal.returns-in_err-inserted-clause-same
returns-in_err-inserted-clause-same c =
    let p = err_from_is_err_and c.from_residual-in_err-inserted.result c.from_residual-in_err-inserted.ensures.1 in
    rw p.1 (same_but_table c.self.inside c.removed_cells.new.table c.removed_cells.ensures.ids c.self.invariant c.self.inside.stacks refl c.args.self.now c.self.view_is)

pub returns-in_err-reserve-clause-same : goal.returns-in_err-reserve-clause-same
returns-in_err-reserve-clause-same c =
    let p = err_from_is_err_and c.from_residual-in_err-reserve.result c.from_residual-in_err-reserve.ensures.1 in
    rw p.1 (same_but_table c.self.inside c.removed_cells.new.table c.removed_cells.ensures.ids c.self.invariant c.reserve.new.self c.in_err-reserve.ensures.err c.args.self.now c.self.view_is)
