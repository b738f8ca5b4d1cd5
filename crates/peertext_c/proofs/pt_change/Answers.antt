use Rattle.std.proofs.Common.{◌≡◌, Some, inr, of_z, refl, subst, to_z, w32}
use Rattle.std.specs.Prelude.{slice_get}
use Rattle.rt_script.specs.Changes.{change_lines}
use Rattle.rt_script.specs.LineSite.{LineSiteValue, known_changes}
use Rattle.peertext_c.proofs.Saying.{says_made}
use Rattle.peertext_c.proofs.pt_change.Goals as goal

pub returns : goal.returns
returns c =
    let kept = c.in-Some.kept.value in
    let found = c.in-Some-lines_at.ensures in
    let at = subst (λ (held : LineSiteValue). slice_get (known_changes held) c.args.number ≡ Some found.0) c.deref.ensures found.1 in
    inr (kept, c.in-Some.ensures.taken, inr (found.0, at, says_made (λ z. to_z w32 (of_z w32 z)) refl refl c.in-Some-lines_at.made kept (change_lines found.0) c.say.result _ found.2 c.say.ensures))
