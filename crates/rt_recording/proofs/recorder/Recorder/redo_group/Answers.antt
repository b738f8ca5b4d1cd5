use Rattle.std.proofs.Common.{◌≡◌, ◌∙◌, ap, option_map, subst, sym}
use Rattle.rt_undo.specs.Actions.{group_of}
use Rattle.rt_undo.specs.Undo.{next_redo}
use Rattle.rt_undo.proofs.Histories.{if_ok}
use Rattle.rt_recording.specs.Naming.{named_group}
use Rattle.rt_recording.specs.Recordings.{HaveStayed, Recording, came_back}
use Rattle.rt_recording.proofs.Renamed.{group_stayed, none_from, redo_named}
use Rattle.rt_recording.proofs.recorder.Recorder.redo_group.Goals as goal

pub returns-clause-stay : goal.returns-clause-stay
returns-clause-stay c =
    let s = c.self.inside in
    if_ok c.redo.result
    (λ group still. subst (λ (v : Recording). HaveStayed (came_back v) (named_group v.table (group_of group.items))) c.self.view_is
    (group_stayed s.table s.stacks.moves (group_of group.items) still)) c.redo.ensures.still

pub returns-clause-none : goal.returns-clause-none
returns-clause-none c =
    let s = c.self.inside in
    let e : next_redo c.args.self.now.history ≡ option_map (named_group s.table) (next_redo s.stacks.history)
    = sym (ap (λ (v : Recording). next_redo v.history) c.self.view_is) ∙ redo_named s.table s.stacks.history in (
      λ is. e ∙ ap (option_map (named_group s.table)) (c.redo.ensures.none.0 is),
      λ none. c.redo.ensures.none.1 (none_from (named_group s.table) (next_redo s.stacks.history) (sym e ∙ none)),
    )
