use Rattle.std.proofs.Common.{◌≡◌, ◌+◌, ◌-◌, ℕ, arith, ap, subst, sym, ◌∙◌, length}
use Rattle.std.proofs.lemmas.List.{length_push}
use Rattle.rt_search.specs.Borders.{AreBorders, IsBorder, pattern_read}
use Rattle.rt_search.proofs.Falling.{first_border, next_border, push_border}
use Rattle.rt_search.proofs.Reading.{pattern_has}
use Rattle.rt_search.proofs.borders.borders_of.Goals as goal
use Rattle.rt_search.proofs.borders.borders_of.Goals.{then-index-gt0, else-index-gt0}

pub loop-index-preserved : goal.loop-index-preserved
loop-index-preserved c =
    let p = pattern_read c.args.search c.args.pattern.now in
    let index = c.loop-index.index in
    let old = c.loop-index.agreed in
    let agreed = c.if-index-gt0.agreed in
    let borders = c.loop-index.borders.items in
    let border : IsBorder p (index + 1) agreed = elim c.if-index-gt0.branch [
      | then-index-gt0 w ↦
          let before : IsBorder p index old = c.loop-index.invariant.border (omega arith) in
          let next = w.further-agreed.ensures.further p (index - old) before.stands
          (ap p (omega (arith, before.fewer))
          ∙ pattern_has c.args.search c.args.pattern.now index w.read_at.result w.index-pattern-read_at.result w.read_at.ensures.value w.read_at.ensures.within w.index-pattern-read_at.is) in
          subst (IsBorder p (index + 1)) (sym w.agreed-is) (next_border p index old w.further-agreed.result before next)
      | else-index-gt0 w ↦
          let first : index ≡ 0 = omega arith in
          let none : agreed ≡ 0 = w.agreed-is ∙ c.loop-index.invariant.none first in
          subst (λ (n : ℕ). IsBorder p (n + 1) agreed) (sym first) (subst (IsBorder p 1) (sym none) (first_border p))
    ] in
    record {
      many = ap length c.in_ok-push.ensures.items ∙ length_push borders agreed ∙ ap (λ n. n + 1) c.loop-index.invariant.many;
      borders = subst (AreBorders p) (sym c.in_ok-push.ensures.items) (push_border p borders index agreed c.loop-index.invariant.borders c.loop-index.invariant.many border);
      none = λ h. absurd (omega arith);
      border = λ h. border;
    }
