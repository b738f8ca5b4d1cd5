-- A log grows by the operations of one site that are made of drafts.
use Rattle.std.proofs.Common.{◌≡◌, ◌∙◌, ℕ, false, ◌==◌, inl, List, [], ◌∷◌, refl}
use Rattle.rt_ops.specs.Operations.{Body, Operation}
use Rattle.rt_oplog.specs.Logs.{known_end, with_operation}
use Rattle.rt_rga.specs.Drafts.{next_operation, operations_of, with_drafts}
use Rattle.rt_rga.specs.Histories.{IsHistory}
use Rattle.rt_holding.specs.Grown.{HasGrownBy}
use Rattle.rt_holding.proofs.Keeping.{with_all}
use Rattle.rt_holding.proofs.Ends.{other_end}

others_stay : (site : ℕ) (drafts : List Body) (log : List Operation) (other : ℕ) → (site == other) ≡ false → known_end (with_drafts site drafts log) other ≡ known_end log other
others_stay site [] log other e = refl
others_stay site (draft ∷ drafts) log other e =
    let op = next_operation site draft log in others_stay site drafts (with_operation op log) other e ∙ other_end op log other e

pub drafts_grow_by : (site : ℕ) (drafts : List Body) (log : List Operation) → IsHistory log → HasGrownBy site log (with_drafts site drafts log)
drafts_grow_by site drafts log h = record {
  history = h;
  among = λ x i. with_all (operations_of site drafts log) log x (inl i);
  others = λ other e. others_stay site drafts log other e;
}
