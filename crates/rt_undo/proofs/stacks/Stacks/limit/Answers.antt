use Rattle.std.proofs.Common.{◌≡◌, ◌∙◌, ◌-◌, ◌++◌, ◌==◌, ap, length, if◌then◌else◌}
use Rattle.rt_undo.specs.Actions.{group_of}
use Rattle.rt_undo.specs.Groups.{groups_of}
use Rattle.rt_undo.specs.Renames.{now_of}
use Rattle.rt_undo.specs.Seen.{history_kept}
use Rattle.rt_undo.specs.Undo.{as_group, dropped, limited, renamed_by, too_many}
use Rattle.rt_undo.proofs.Dropping.{dropped_kept, limited_renamed}
use Rattle.rt_undo.proofs.stacks.Stacks.limit.Goals as goal

pub returns-clause-history : goal.returns-clause-history
returns-clause-history c =
    let s = c.self.inside in
    let h = history_kept s in
    let n : c.too_many-n.result ≡ too_many h =
    c.too_many-n.ensures.value
    ∙ ap (λ l. if s.most == 0 then 0 else length (groups_of s.closed.items ++ as_group (group_of l)) - s.most) c.deref.ensures.value in
    (λ i. renamed_by (now_of s.renames) (record h {
      closed = groups_of (c.drop_oldest.ensures.closed i);
      kept = c.drop_oldest.ensures.kept i;
      forced = c.drop_oldest.ensures.forced i;
    }))
    ∙ ap (renamed_by (now_of s.renames)) (dropped_kept c.too_many-n.result s.closed.items h ∙ ap (λ k. dropped k h) n)
    ∙ limited_renamed (now_of s.renames) h
    ∙ ap (λ v. limited v.history) c.self.view_is
