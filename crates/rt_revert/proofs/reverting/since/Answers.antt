use Rattle.std.proofs.Common.{◌≡◌, ◌∙◌, ap, arith, drop, length, min}
use Rattle.std.proofs.lemmas.List.{drop_min}
use Rattle.rt_revert.proofs.reverting.since.Goals as goal

pub returns : goal.returns
returns c =
    let order : c.min.result ≡ min c.args.before (length c.args.returns.now) = omega (arith, c.min.ensures) in
    c.split_at.ensures.back ∙ ap (λ n. drop n c.args.returns.now) order ∙ drop_min c.args.before c.args.returns.now
