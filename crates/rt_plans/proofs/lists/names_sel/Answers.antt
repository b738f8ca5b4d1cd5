use Rattle.std.proofs.Common.{◌≡◌, ◌∙◌, ◌<◌, arith, length, sym, refl}
use Rattle.std.specs.Prelude.{string_bytes}
use Rattle.std.proofs.lemmas.Slice.Eq.{bytes_eq-Decides}
use Rattle.rt_tags.specs.Tags.{sel}
use Rattle.rt_plans.proofs.PlanLaws.{named_at}
use Rattle.rt_plans.proofs.lists.names_sel.Goals as goal

pub returns-then-eq : goal.returns-then-eq
returns-then-eq c =
    let within : c.loop-name.name-index < length c.args.names.now = omega arith in
    let same : c.as_str.result.now ≡ sel = (bytes_eq-Decides c.as_str.result.now sel).0 (sym c.eq.ensures ∙ c.if-eq.true) in
    sym (named_at (λ w. string_bytes w) sel c.args.names.now c.loop-name.name-index c.name-item.result within c.name-item.is (sym c.as_str.ensures.value ∙ same) refl)
