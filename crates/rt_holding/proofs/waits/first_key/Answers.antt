use Rattle.std.proofs.Common.{◌≡◌, ◌∙◌, ℕ, false, arith, subst, sym, true}
use Rattle.std.specs.BTreeSet.{contains}
use Rattle.std.specs.Option.{IfSome}
use Rattle.std.specs.Ordering.{is_gt}
use Rattle.std.specs.List.{slice_get}
use Rattle.rt_rga.proofs.Skipping.{split}
use Rattle.rt_holding.specs.declared.waits.Key.{Key}
use Rattle.rt_holding.specs.Waits.{by_key, least_key}
use Rattle.rt_holding.proofs.Passing.{in_front, no_later, not_before, of_least}
use Rattle.rt_holding.proofs.waits.first_key.Goals as goal

least : (site : ℕ) (l q : Key) → l ≡ least_key site → q.site ≡ site → is_gt (by_key l q) ≡ false
least site l q e s = subst (λ (x : Key). is_gt (by_key x q) ≡ false) (sym e) (of_least site q s)

pub returns-in_err-first-clause-none : goal.returns-in_err-first-clause-none
returns-in_err-first-clause-none c = rw c.from_residual.ensures (λ key s. (c.range.ensures.in_range tt).5 c.in_err-first.ensures.steps.0 key (least c.args.site c.least.result key c.least.ensures s, tt))

pub returns-then-first-site-clause-some : goal.returns-then-first-site-clause-some
returns-then-first-site-clause-some c =
    let steps = c.in_ok-first.ensures.steps in
    let k = c.in_ok-first.first.now in
    record {
      there = subst (λ xs. IfSome (slice_get xs 0) (λ x. contains by_key c.args.keys.now x ≡ true)) steps
          (in_front c.range.result (λ x. contains by_key c.args.keys.now x ≡ true) _ (λ x i. i.1) (c.range.ensures.in_range tt).1);
      of_site = c.if-first-site.true;
      first = λ q s e. (let r = (c.range.ensures.in_range tt).2 q (least c.args.site c.least.result q c.least.ensures s, tt) e in
          no_later k q (c.if-first-site.true ∙ sym s) (subst (λ xs. IfSome (slice_get xs 0) (λ x. is_gt (by_key x q) ≡ false)) steps r));
    }

pub returns-else-first-site-clause-none : goal.returns-else-first-site-clause-none
returns-else-first-site-clause-none c = λ q s. split (contains by_key c.args.keys.now q)
    (λ e. absurd (
    let steps = c.in_ok-first.ensures.steps in
    let r = (c.range.ensures.in_range tt).2 q (least c.args.site c.least.result q c.least.ensures s, tt) e in
    let k = c.in_ok-first.first.now in
    let m : is_gt (by_key k q) ≡ false = subst (λ xs. IfSome (slice_get xs 0) (λ x. is_gt (by_key x q) ≡ false)) steps r in
    let a = subst (λ xs. IfSome (slice_get xs 0) (λ x. is_gt (by_key c.least.result x) ≡ false)) steps (in_front c.range.result (λ x. is_gt (by_key c.least.result x) ≡ false) _ (λ x i. i.0.0) (c.range.ensures.in_range tt).1) in
    not_before k q c.args.site q.count (subst (λ (l : Key). is_gt (by_key l k) ≡ false) c.least.ensures a) (λ p z. c.if-first-site.false p) s (omega arith) m))
    (λ e. e)
