use Rattle.std.proofs.Common.{◌≡◌, ◌∙◌, ap, option_map, subst, sym}
use Rattle.rt_undo.specs.Actions.{group_of}
use Rattle.rt_undo.specs.Undo.{next_undo}
use Rattle.rt_undo.proofs.Histories.{if_ok}
use Rattle.rt_recording.specs.Naming.{named_group}
use Rattle.rt_recording.specs.Recordings.{HaveStayed, Recording, came_back}
use Rattle.rt_recording.proofs.Renamed.{group_stayed, none_from, undo_named}
use Rattle.rt_recording.proofs.recorder.Recorder.undo_group.Goals as goal

pub returns-clause-stay : goal.returns-clause-stay
returns-clause-stay c =
    let s = c.self.inside in
    if_ok c.undo.result
    (λ group still. subst (λ (v : Recording). HaveStayed (came_back v) (named_group v.table (group_of group.items))) c.self.view_is
    (group_stayed s.table s.stacks.moves (group_of group.items) still)) c.undo.ensures.still

pub returns-clause-none : goal.returns-clause-none
returns-clause-none c =
    let s = c.self.inside in
    let e : next_undo c.args.self.now.history ≡ option_map (named_group s.table) (next_undo s.stacks.history)
    = sym (ap (λ (v : Recording). next_undo v.history) c.self.view_is) ∙ undo_named s.table s.stacks.history in (
      λ is. e ∙ ap (option_map (named_group s.table)) (c.undo.ensures.none.0 is),
      λ none. c.undo.ensures.none.1 (none_from (named_group s.table) (next_undo s.stacks.history) (sym e ∙ none)),
    )
