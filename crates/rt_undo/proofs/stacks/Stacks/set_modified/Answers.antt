use Rattle.std.proofs.Common.{◌∙◌, ◌++◌, ap, if◌then◌else◌, sym}
use Rattle.rt_undo.specs.Groups.{numbers_of, numbers_of_groups}
use Rattle.rt_undo.specs.Renames.{now_of}
use Rattle.rt_undo.specs.Seen.{history_kept}
use Rattle.rt_undo.specs.Undo.{forced_on, renamed_by, unmodified}
use Rattle.rt_undo.proofs.Histories.{numbers_are}
use Rattle.rt_undo.proofs.stacks.Stacks.set_modified.Goals as goal

pub returns-clause-ok : goal.returns-clause-ok
returns-clause-ok c =
    let s = c.self.inside in
    let f = now_of s.renames in
    let now = c.args.self.now.history in
    (λ i. record (renamed_by f (history_kept s)) {
      kept = (c.clear.ensures.kept ∙ c.in_ok-numbers.ensures.ok
          ∙ ap (λ l. numbers_of_groups s.closed.items ++ numbers_of l) c.deref.ensures.value
          ∙ sym (numbers_are f s.closed.items s.current.items (history_kept s))) i;
      forced = c.clear.ensures.forced i;
    })
    ∙ ap (λ v. unmodified v.history) c.self.view_is
    ∙ sym (ap (λ b. if b then forced_on now else unmodified now) c.if-on.false)
