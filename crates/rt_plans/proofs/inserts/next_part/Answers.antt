use Rattle.std.proofs.Common.{◌≡◌, ◌∙◌, ap, take, drop, min, length, arith}
use Rattle.std.proofs.lemmas.List.{take_min, drop_min}
use Rattle.rt_stamps.specs.declared.limits.TheConstants.{MOST_CHARACTERS}
use Rattle.rt_plans.proofs.inserts.next_part.Goals as goal

pub returns-clause-part : goal.returns-clause-part
returns-clause-part c =
    let order : c.min.result ≡ min MOST_CHARACTERS (length c.args.text.now) = omega (arith, c.min.ensures) in
    c.split_at.ensures.front ∙ ap (λ n. take n c.args.text.now) order ∙ take_min MOST_CHARACTERS c.args.text.now

pub returns-clause-rest : goal.returns-clause-rest
returns-clause-rest c =
    let order : c.min.result ≡ min MOST_CHARACTERS (length c.args.text.now) = omega (arith, c.min.ensures) in
    c.split_at.ensures.back ∙ ap (λ n. drop n c.args.text.now) order ∙ drop_min MOST_CHARACTERS c.args.text.now
