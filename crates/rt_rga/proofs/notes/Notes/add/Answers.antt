use Rattle.std.proofs.Common.{◌≡◌, ◌∙◌, ◌++◌, Bool, true, List, Vec, Global, ap, reverse, subst, sym}
use Rattle.std.specs.Prelude.{IfSome, Option, is_ok, if◌then◌else◌}
use Rattle.rt_rga.specs.Noted.{AreNotedOf, AreNotes, AreOfNewest}
use Rattle.rt_rga.specs.declared.notes.Notes.{Notes}
use Rattle.rt_rga.specs.declared.taken.Change.{Change}
use Rattle.rt_rga.proofs.Noted.{added}
use Rattle.rt_rga.proofs.notes.Notes.add.Goals as goal
use Rattle.rt_rga.proofs.notes.Notes.add.Goals.{in-Some, in-None}

pub returns-else-not-is_noted : goal.returns-else-not-is_noted
returns-else-not-is_noted c log ops h k = elim c.match-more.branch [
  | in-Some w ↦
      (let old = c.in-Kept.changes.items in
      let more = w.in-Some.more.items in
      let kept : AreOfNewest (reverse old) log = subst (λ (n : Notes). AreNotes n log) c.in-Kept.is h in
      let noted : AreNotedOf log ops more = subst (λ (o : Option (Vec Change Global)). IfSome o (λ changes. AreNotedOf log ops changes.items)) w.in-Some.is k in
      let ok : is_ok w.append.result ≡ true = sym w.is_ok-is_noted.ensures.value ∙ sym w.is_noted-is ∙ c.if-not-is_noted.false in
      let items : w.append.new.self.items ≡ old ++ more = w.append.ensures.items ∙ ap (λ (b : Bool). if b then old ++ more else old) ok in
      subst (λ (n : Notes). AreNotes n (reverse ops ++ log)) (sym w.self-is)
      (subst (λ (changes : List Change). AreOfNewest (reverse changes) (reverse ops ++ log)) (sym items) (added log ops old more kept noted)))
  | in-None w ↦ absurd (cc (sym w.is_noted-is ∙ c.if-not-is_noted.false))
]
