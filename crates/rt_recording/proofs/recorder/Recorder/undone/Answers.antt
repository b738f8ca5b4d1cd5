use Rattle.std.proofs.Common.{◌∙◌, ap, is_some, subst, sym}
use Rattle.rt_undo.specs.Actions.{group_of}
use Rattle.rt_undo.specs.Renames.{is_moved}
use Rattle.rt_undo.specs.Undo.{next_undo, undo_done, renamed_by}
use Rattle.rt_recording.specs.Naming.{AreGiven, HistoryIsGiven, named_group}
use Rattle.rt_recording.specs.Recordings.{HaveStayed, Recording, came_back}
use Rattle.rt_recording.specs.Returns.{back_after, stamp_after}
use Rattle.rt_recording.proofs.Renamed.{given_renamed, given_undone, some_undo, still_after, undone_is}
use Rattle.rt_recording.proofs.recorder.Recorder.undone.Goals as goal

pub undone-requires-clause-some : goal.undone-requires-clause-some
undone-requires-clause-some c =
    let s = c.self.inside in
    some_undo s.table (stamp_after c.args.returns.now) s.stacks.history c.bring_back.new.stacks.history c.bring_back.ensures.history
    (ap (λ (v : Recording). is_some (next_undo v.history)) c.self.view_is ∙ c.requires.some)

pub undone-requires-clause-still : goal.undone-requires-clause-still
undone-requires-clause-still c =
    let s = c.self.inside in
    let group = group_of c.args.reverted.items in
    still_after s.table c.bring_back.new.stacks.moves (back_after c.args.returns.now (is_moved s.stacks.moves)) group c.bring_back.ensures.moves
    (subst (λ (v : Recording). HaveStayed (back_after c.args.returns.now (came_back v)) (named_group v.table group)) (sym c.self.view_is) c.requires.stay)

pub invariant_of-self : goal.invariant_of-self
invariant_of-self c =
    let s = c.self.inside in
    let group = group_of c.args.reverted.items in
    let given = subst (λ (v : Recording). AreGiven v.table group) (sym c.self.view_is) c.requires.given in
    let between = subst (HistoryIsGiven s.table) (sym c.bring_back.ensures.history) (given_renamed s.table (stamp_after c.args.returns.now) s.stacks.history c.self.invariant.given) in
    record {
      given = subst (HistoryIsGiven s.table) (sym c.undone.ensures.history) (given_undone s.table group c.bring_back.new.stacks.history between given);
      next = tt;
    }

pub returns-clause-history : goal.returns-clause-history
returns-clause-history c =
    let s = c.self.inside in
    let group = group_of c.args.reverted.items in
    let f = stamp_after c.args.returns.now in
    undone_is s.table f group s.stacks.history c.bring_back.new.stacks.history c.undone.new.self.history c.bring_back.ensures.history c.undone.ensures.history
    ∙ ap (λ (v : Recording). undo_done (named_group v.table group) (renamed_by f v.history)) c.self.view_is
