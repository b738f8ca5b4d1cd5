use Rattle.std.proofs.Common.{◌≡◌, ◌∙◌, ap, arith, length, map, sym}
use Rattle.rt_changes.specs.Telling.{changes_in}
use Rattle.rt_peers.specs.SiteStep.{text_log}
use Rattle.rt_peers.proofs.Noting.{none_left}
use Rattle.rt_peers.proofs.text.EditedText.noted_from.Goals as goal

pub returns-then-made-eq0-clause-told : goal.returns-then-made-eq0-clause-told
returns-then-made-eq0-clause-told c =
    let many : length (text_log c.args.self.now) ≡ c.len.result =
    ap (λ t. length (text_log t)) (sym c.self.view_is) ∙ ap (λ v. length v.doc.log) (sym c.noted-noted.ensures.same)
    ∙ ap length (sym c.log-log.ensures.operations) ∙ sym c.len.ensures in
    ap (map changes_in) c.new.ensures.items ∙ sym (none_left (text_log c.args.self.now) c.args.from (omega (arith, many, c.if-made-eq0.true)))
