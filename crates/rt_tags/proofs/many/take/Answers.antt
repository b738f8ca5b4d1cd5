use Rattle.std.proofs.Common.{◌≡◌, ◌∙◌, ◌+◌, ap, filter, nat_lt, rules, subst, sym}
use Rattle.std.proofs.lemmas.Fn.{filter_same}
use Rattle.rt_tags.specs.declared.toggles.TagCount.{TagCount}
use Rattle.rt_tags.specs.Toggles.{AreFrom, count_in}
use Rattle.rt_tags.proofs.ManyCounts.{left, left_count, left_from}
use Rattle.rt_tags.proofs.many.take.Goals as goal

pub returns-clause-order : goal.returns-clause-order
returns-clause-order c =
    let kept : c.retain.new.self.items ≡ left c.args.others.now c.args.counts.now.items = filter_same _ (λ (c : TagCount). nat_lt 0 c.count) _ (λ x b f' k. search rules) _ _ c.retain.ensures.filtered ∙ ap (λ v. filter (λ (c : TagCount). nat_lt 0 c.count) v) c.lessen.ensures.items in
    subst (AreFrom 0) (sym kept) (left_from 0 c.args.others.now c.args.counts.now.items c.requires.order)

pub returns-clause-counts : goal.returns-clause-counts
returns-clause-counts c t =
    let kept : c.retain.new.self.items ≡ left c.args.others.now c.args.counts.now.items = filter_same _ (λ (c : TagCount). nat_lt 0 c.count) _ (λ x b f' k. search rules) _ _ c.retain.ensures.filtered ∙ ap (λ v. filter (λ (c : TagCount). nat_lt 0 c.count) v) c.lessen.ensures.items in
    left_count t 0 c.args.others.now c.args.counts.now.items c.requires.order (c.requires.less t) ∙ ap (λ v. count_in t v + count_in t c.args.others.now) (sym kept)
