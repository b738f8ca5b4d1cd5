use Rattle.std.proofs.Common.{◌≡◌, ◌∙◌, ap, sym, take, drop, min, length, arith, string_bytes}
use Rattle.std.proofs.lemmas.List.{drop-map, take-map, take_min, drop_min}
use Rattle.rt_stamps.specs.declared.limits.TheConstants.{MOST_TAGS}
use Rattle.rt_stamps.specs.Words.{as_words}
use Rattle.rt_plans.proofs.inserts.listed_first.Goals as goal

pub returns-clause-listed : goal.returns-clause-listed
returns-clause-listed c =
    let order : c.min.result ≡ min MOST_TAGS (length c.args.names.now) = omega (arith, c.min.ensures) in
    ap as_words (c.split_at.ensures.front ∙ ap (λ n. take n c.args.names.now) order ∙ take_min MOST_TAGS c.args.names.now)
    ∙ sym (take-map (λ w. string_bytes w) MOST_TAGS c.args.names.now)

pub returns-clause-further : goal.returns-clause-further
returns-clause-further c =
    let order : c.min.result ≡ min MOST_TAGS (length c.args.names.now) = omega (arith, c.min.ensures) in
    ap as_words (c.split_at.ensures.back ∙ ap (λ n. drop n c.args.names.now) order ∙ drop_min MOST_TAGS c.args.names.now)
    ∙ sym (drop-map (λ w. string_bytes w) MOST_TAGS c.args.names.now)
