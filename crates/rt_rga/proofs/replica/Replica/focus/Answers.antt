use Rattle.std.proofs.Common.{◌∙◌, ℕ, List, ap, map, subst, sym}
use Rattle.rt_store.specs.declared.cell.Cell.{Cell}
use Rattle.rt_store.specs.Shown.{shown}
use Rattle.rt_rga.specs.Kept.{IsWithin, ReplicaValue}
use Rattle.rt_rga.proofs.replica.Replica.focus.Goals as goal

pub invariant_of-self : goal.invariant_of-self
invariant_of-self g c =
    let v = c.self.inside in
    let within = c.self.invariant.within in
    record {
      within = subst (λ (kept : List (Cell ℕ)). IsWithin v.log.operations v.states kept v.clock v.limit) (sym c.focus.ensures.list) within;
      agrees = c.focus.ensures.agrees v.states c.self.invariant.agrees;
      noted = c.self.invariant.noted;
    }

pub returns : goal.returns
returns g c =
    let v = c.self.inside in
    let value : List (Cell ℕ) → ReplicaValue = λ kept. record {
      log = v.log.operations;
      cells = map (shown v.states) kept;
      table = v.states;
      site = v.site.number;
      limit = v.limit;
    } in
    ap value c.focus.ensures.list ∙ c.self.view_is
