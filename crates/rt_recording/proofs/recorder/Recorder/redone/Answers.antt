use Rattle.std.proofs.Common.{◌∙◌, ap, is_some, subst, sym}
use Rattle.rt_undo.specs.Actions.{group_of}
use Rattle.rt_undo.specs.Renames.{is_moved}
use Rattle.rt_undo.specs.Undo.{next_redo, redo_done, renamed_by}
use Rattle.rt_recording.specs.Naming.{AreGiven, HistoryIsGiven, named_group}
use Rattle.rt_recording.specs.Recordings.{HaveStayed, Recording, came_back}
use Rattle.rt_recording.specs.Returns.{back_after, stamp_after}
use Rattle.rt_recording.proofs.Renamed.{given_renamed, given_redone, some_redo, still_after, redone_is}
use Rattle.rt_recording.proofs.recorder.Recorder.redone.Goals as goal

pub redone-requires-clause-some : goal.redone-requires-clause-some
redone-requires-clause-some c =
    let s = c.self.inside in
    some_redo s.table (stamp_after c.args.returns.now) s.stacks.history c.bring_back.new.stacks.history c.bring_back.ensures.history
    (ap (λ (v : Recording). is_some (next_redo v.history)) c.self.view_is ∙ c.requires.some)

pub redone-requires-clause-still : goal.redone-requires-clause-still
redone-requires-clause-still c =
    let s = c.self.inside in
    let group = group_of c.args.reverted.items in
    still_after s.table c.bring_back.new.stacks.moves (back_after c.args.returns.now (is_moved s.stacks.moves)) group c.bring_back.ensures.moves
    (subst (λ (v : Recording). HaveStayed (back_after c.args.returns.now (came_back v)) (named_group v.table group)) (sym c.self.view_is) c.requires.stay)

pub invariant_of-self : goal.invariant_of-self
invariant_of-self c =
    let s = c.self.inside in
    let group = group_of c.args.reverted.items in
    let given = subst (λ (v : Recording). AreGiven v.table group) (sym c.self.view_is) c.requires.given in
    let between = subst (HistoryIsGiven s.table) (sym c.bring_back.ensures.history) (given_renamed s.table (stamp_after c.args.returns.now) s.stacks.history c.self.invariant.given) in
    record {
      given = subst (HistoryIsGiven s.table) (sym c.redone.ensures.history) (given_redone s.table group c.bring_back.new.stacks.history between given);
      next = tt;
    }

pub returns-clause-history : goal.returns-clause-history
returns-clause-history c =
    let s = c.self.inside in
    let group = group_of c.args.reverted.items in
    let f = stamp_after c.args.returns.now in
    redone_is s.table f group s.stacks.history c.bring_back.new.stacks.history c.redone.new.self.history c.bring_back.ensures.history c.redone.ensures.history
    ∙ ap (λ (v : Recording). redo_done (named_group v.table group) (renamed_by f v.history)) c.self.view_is
