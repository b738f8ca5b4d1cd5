use Rattle.std.proofs.Common.{◌≡◌, ◌∙◌, ◌+◌, ap, arith, sym}
use Rattle.rt_stamps.specs.declared.stamp.TheConstants.{FINAL}
use Rattle.rt_stamps.specs.Stamps.{is_same}
use Rattle.rt_rga.proofs.Onward.{characters_on, is_real, not_found}
use Rattle.rt_rga.proofs.answer.characters_to.Goals.{then-stamp, else-stamp}
use Rattle.rt_rga.proofs.answer.characters_to.Goals as goal

pub returns-in_err-run-clause-none : goal.returns-in_err-run-clause-none
returns-in_err-run-clause-none g c none = not_found (g.S.TextStore.list c.args.store.now) c.args.stamp (sym c.in_err-run.ensures.cell)

pub returns-clause-all : goal.returns-clause-all
returns-clause-all g c n le =
    characters_on (g.S.TextStore.list c.args.store.now) c.in_ok-run.run'.cell c.args.stamp c.in_ok-run.run'.last n c.in_ok-run.ensures.cell c.in_ok-run.ensures.run le
    (elim c.if-stamp.branch [
      | then-stamp w ↦ (let low = c.in_ok-run.ensures.last in let i = w.last-is in let z : c.args.stamp.count + n ≡ c.args.stamp.count = omega (arith, low, le, i) in
          ap (λ k. is_same (record { count = k; site = c.args.stamp.site }) FINAL) z ∙ sym c.if-eq.ensures)
      | else-stamp w ↦ is_real (c.args.stamp.count + n) c.args.stamp.site w.if-stamp.false
    ])
