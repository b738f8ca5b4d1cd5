use Rattle.std.proofs.Common.{◌≡◌, ◌-◌, ◌<◌, ℕ, length, get_or, arith, ap, subst, sym, ◌∙◌}
use Rattle.rt_search.specs.Borders.{IsBorder, as_compared, pattern_read}
use Rattle.rt_search.proofs.Falling.{Falls, falls_further, falls_none, falls_on, falls_out}
use Rattle.rt_search.proofs.Reading.{other_key, pattern_has, same_key}
use Rattle.rt_search.proofs.borders.further.Goals as goal

pub loop-search-init : goal.loop-search-init
loop-search-init c = record {
  few = omega arith;
  falls = λ text start h e. falls_none (pattern_read c.args.search c.args.pattern.now) text start c.args.before h;
}

pub loop-search-preserved : goal.loop-search-preserved
loop-search-preserved c =
    let p = pattern_read c.args.search c.args.pattern.now in
    let now = c.loop-search.agreed in
    let x = c.index-pattern-read_at.result in
    let next = get_or c.args.borders.now (now - 1) 0 in
    let has : p now ≡ as_compared c.args.search.case x =
    pattern_has c.args.search c.args.pattern.now now c.read_at.result x c.read_at.ensures.value c.read_at.ensures.within c.index-pattern-read_at.is in
    let inside : now - 1 < length c.args.borders.now = omega arith in
    let border : IsBorder p now next = subst (λ (n : ℕ). IsBorder p n next) (omega arith) (c.requires.borders.each (now - 1) inside) in
    record {
      few = omega (arith, border.fewer);
      falls = λ text start h e.
          falls_on p text start c.args.before now next (c.loop-search.invariant.falls text start h e)
          (λ same. other_key c.args.search.case x c.args.character (sym c.agree.ensures ∙ c.loop-search-test.true) (sym has ∙ same ∙ e)) border;
    }

pub returns-then-agreed-eq0-clause-further : goal.returns-then-agreed-eq0-clause-further
returns-then-agreed-eq0-clause-further c =
    let p = pattern_read c.args.search c.args.pattern.now in
    let x = c.index-pattern-read_at.result in
    let now = c.loop-search.agreed in
    let none : now ≡ 0 = omega arith in
    let has : p now ≡ as_compared c.args.search.case x =
    pattern_has c.args.search c.args.pattern.now now c.read_at.result x c.read_at.ensures.value c.read_at.ensures.within c.index-pattern-read_at.is in
    λ text start h e.
    falls_out p text start c.args.before (subst (λ (n : ℕ). Falls p text start c.args.before n) none (c.loop-search.invariant.falls text start h e))
    (λ same. other_key c.args.search.case x c.args.character (sym c.agree.ensures ∙ c.loop-search-test.true) (sym has ∙ ap p none ∙ same ∙ e))

pub returns-clause-further : goal.returns-clause-further
returns-clause-further c =
    let p = pattern_read c.args.search c.args.pattern.now in
    let x = c.index-pattern-read_at.result in
    let now = c.loop-search.agreed in
    let has : p now ≡ as_compared c.args.search.case x =
    pattern_has c.args.search c.args.pattern.now now c.read_at.result x c.read_at.ensures.value c.read_at.ensures.within c.index-pattern-read_at.is in
    λ text start h e.
    falls_further p text start c.args.before now (c.loop-search.invariant.falls text start h e)
    (has ∙ same_key c.args.search.case x c.args.character (sym c.agree.ensures ∙ c.loop-search-test.false) ∙ sym e)
