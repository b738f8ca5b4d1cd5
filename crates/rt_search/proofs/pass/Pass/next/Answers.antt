use Rattle.std.proofs.Common.{◌≡◌, ◌-◌, ◌<◌, ℕ, zero, suc, Bool, false, List, arith, subst, length, get_or, refl, sym, ◌∙◌, nat_eq}
use Rattle.std.proofs.lemmas.Bool.{eqb-true}
use Rattle.rt_search.specs.Borders.{CharactersAgree, AreBorders, IsBorder, pattern_read, text_read}
use Rattle.rt_search.proofs.Falling.{agrees_at}
use Rattle.rt_search.proofs.Passing.{leaves_empty, leaves_match, leaves_none}
use Rattle.rt_search.proofs.pass.Pass.next.Goals as goal

pub returns-then-self-end-clause-found : goal.returns-then-self-end-clause-found
returns-then-self-end-clause-found g c =
    let none : length c.args.pattern.now ≡ 0 = eqb-true (length c.args.pattern.now) 0 (sym c.is_empty.ensures ∙ c.if-is_empty.true) in
    let within : c.args.self.now.start < c.args.room.end - c.args.room.begin = omega arith in
    record {
      from = omega arith;
      past = omega arith;
      within = within;
      rest = leaves_empty c.args.search c.args.pattern.now c.args.text.now c.args.room c.requires.fits c.args.self.now.start within none;
    }

pub returns-then-is_empty-clause-none : goal.returns-then-is_empty-clause-none
returns-then-is_empty-clause-none g c = λ h. leaves_none c.args.search c.args.pattern.now c.args.text.now c.args.room c.requires.fits c.args.self.now.start (omega arith)

pub returns-clause-none : goal.returns-clause-none
returns-clause-none g c = λ h.
    c.loop-self.invariant.left
    ∙ leaves_none c.args.search c.args.pattern.now c.args.text.now c.args.room c.requires.fits c.loop-self.self.start (omega arith)

some : (r : Bool) (n : ℕ) → r ≡ nat_eq n 0 → r ≡ false → 0 < n
some r zero e f = let bad : ⊥ = cc in absurd bad
some r (suc n) e f = omega arith

last_border : (p : ℕ → ℕ) (borders : List ℕ) (n : ℕ) → length borders ≡ n → 0 < n → AreBorders p borders → IsBorder p n (get_or borders (n - 1) 0)
last_border p borders n e h b = subst (λ (k : ℕ). IsBorder p k (get_or borders (n - 1) 0)) (omega arith) (b.each (n - 1) (omega arith))

pub overflow_add-self-then-self-pattern : goal.overflow_add-self-then-self-pattern
overflow_add-self-then-self-pattern g c =
    let many = some c.is_empty.result (length c.args.pattern.now) c.is_empty.ensures c.if-is_empty.false in
    omega (arith, many, c.requires.fits (c.args.room.end - 1) (omega arith))

pub returns-then-self-pattern-clause-found : goal.returns-then-self-pattern-clause-found
returns-then-self-pattern-clause-found g c =
    let how = c.args.search in
    let pattern = c.args.pattern.now in
    let text = c.args.text.now in
    let room = c.args.room in
    let size = length pattern in
    let start = c.read.new.self.start in
    let many : 0 < size = some c.is_empty.result size c.is_empty.ensures c.if-is_empty.false in
    let border = last_border (pattern_read how pattern) c.args.borders.now size c.requires.many many c.requires.borders in
    let agrees : CharactersAgree (pattern_read how pattern) (text_read how size text room) start size =
    agrees_at (pattern_read how pattern) (text_read how size text room) start start c.read.new.self.agreed size refl c.if-self-pattern.true c.read.ensures.agrees in
    let within : start < room.end - room.begin = omega arith in
    record {
      from = omega arith;
      past = omega (arith, border.fewer);
      within = within;
      rest = leaves_match how pattern text room c.requires.fits c.args.self.now.start c.loop-self.self.start start (get_or c.args.borders.now (size - 1) 0) c.loop-self.invariant.left c.read.ensures.left within agrees border;
    }
