use Rattle.std.proofs.Common.{◌≡◌, ◌∙◌, List, [], Option, Some, Vec, Global, ap, subst, sym}
use Rattle.std.specs.Prelude.{slice_get, unwrap_or}
use Rattle.rt_changes.specs.declared.change.ToldChange.{ToldChange}
use Rattle.rt_script.specs.Telling.{told_items}
use Rattle.rt_script.specs.LineSite.{known_changes}
use Rattle.rt_script.proofs.Items.{got_at}
use Rattle.rt_script.proofs.line_site.LineSite.lines_at.Goals as goal

pub returns : goal.returns
returns c =
    let change = c.in_ok-change.change.now in
    let known : c.deref.result.now ≡ known_changes c.args.self.now = c.deref.ensures.value ∙ ap (λ (changes : Option (Vec ToldChange Global)). unwrap_or (told_items changes) []) (sym c.in-Some.is) ∙ ap known_changes c.self.view_is in
    let found = got_at c.deref.result.now c.args.number change c.in_ok-change.ensures.lookup.3.0 c.in_ok-change.ensures.lookup.1 in
    (change, subst (λ (changes : List ToldChange). slice_get changes c.args.number ≡ Some change) known found, c.change_bytes.ensures.ok, c.change_bytes.ensures.err)
