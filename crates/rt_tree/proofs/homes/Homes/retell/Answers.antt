use Rattle.std.proofs.Common.{◌≡◌, ◌+◌, Bool, Option, arith, false, if◌then◌else◌, inl, inr, refl, subst, sym, true, [], ◌∙◌}
use Rattle.std.specs.Prelude.{◌&&◌}
use Rattle.rt_nodes.specs.declared.memory.NodeId.{NodeId}
use Rattle.rt_spans.specs.Shown.{IsValueBorder}
use Rattle.rt_tree.proofs.Housing.{had_not}
use Rattle.rt_tree.proofs.Leaves.{in_span}
use Rattle.rt_tree.proofs.homes.Homes.retell.Goals as goal

unpainted : (done : Bool) (a b : Option NodeId) → ◌≡◌ {A = Option NodeId} (if done && false then a else b) b
unpainted true a b = refl
unpainted false a b = refl

-- the run's span has borders, and so it is repainted
pub returns-in-Some-clause-entered : goal.returns-in-Some-clause-entered
returns-in-Some-clause-entered c = λ some was.
    let span = c.in-Some.span in
    let is = c.in-Some.ensures.is in
    let e = c.repaint.ensures in
    let old = c.args.self.now.leaves in let new = c.repaint.new.self in
    let begins : IsValueBorder old span.site span.first = subst (λ n. IsValueBorder old n span.first) (sym is.site) (subst (λ n. IsValueBorder old c.args.run.now.site n) (sym is.first) was.begins) in
    let ends : IsValueBorder old span.site (span.last + 1) = subst (λ n. IsValueBorder old n (span.last + 1)) (sym is.site) (subst (λ n. IsValueBorder old c.args.run.now.site n) (sym is.last) was.ends) in
    let done : c.repaint.result ≡ true = e.borders.1 (begins, ends) in
    record {
      span = span;
      is = is;
      values = λ stamp. e.values stamp ∙ rw done refl;
      begins = e.kept span.site span.first (let b = is.bound in let s = is.some in omega (arith, b, s)) begins (λ _. inl (omega arith));
      ends = e.kept span.site (span.last + 1) is.bound ends (λ _. inr (omega arith));
      kept = e.kept;
    }

-- a stamp that the run hasn't isn't in its span
pub returns-in-Some-clause-others : goal.returns-in-Some-clause-others
returns-in-Some-clause-others c = λ stamp none.
    let run = c.args.run.now in
    let out = in_span run c.in-Some.span stamp c.in-Some.ensures.is ∙ (had_not run [] stamp none).0 in
    c.repaint.ensures.values stamp ∙ rw out (unpainted c.repaint.result _ _)
