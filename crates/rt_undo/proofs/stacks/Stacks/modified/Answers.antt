use Rattle.std.proofs.Common.{◌∙◌, ◌++◌, ◌||◌, ap, not, sym}
use Rattle.rt_undo.specs.Groups.{numbers_of, numbers_of_groups}
use Rattle.rt_undo.specs.Renames.{now_of}
use Rattle.rt_undo.specs.Seen.{history_kept}
use Rattle.rt_undo.specs.Undo.{is_modified, same_numbers}
use Rattle.rt_undo.proofs.Histories.{numbers_are}
use Rattle.rt_undo.proofs.stacks.Stacks.modified.Goals as goal

pub returns : goal.returns
returns c =
    let s = c.self.inside in
    c.is_on.ensures
    ∙ ap (λ l. s.flag.forced || not (same_numbers (numbers_of_groups s.closed.items ++ numbers_of l) s.flag.kept)) c.deref.ensures.value
    ∙ ap (λ l. s.flag.forced || not (same_numbers l s.flag.kept)) (sym (numbers_are (now_of s.renames) s.closed.items s.current.items (history_kept s)))
    ∙ ap (λ v. is_modified v.history) c.self.view_is
