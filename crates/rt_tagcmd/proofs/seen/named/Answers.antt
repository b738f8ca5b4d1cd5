use Rattle.std.proofs.Common.{◌≡◌, ℕ, List, subst}
use Rattle.std.specs.Prelude.{option_map}
use Rattle.rt_marks.specs.Marks.{mark_of_name}
use Rattle.rt_text.specs.Widgets.{ViewValue, mark_seen, marks_shown, stretch_by}
use Rattle.rt_tagcmd.proofs.seen.named.Goals as goal

pub returns : goal.returns
returns g c =
    subst (λ (v : ViewValue). (name : List ℕ) → mark_of_name name (marks_shown v) ≡ option_map (mark_seen (stretch_by v)) (mark_of_name name v.doc.marks))
    c.shown.ensures c.order.ensures.shown
