-- Histories by sites.
use Rattle.std.specs.Prelude.{◌≡◌, ℕ, true, false, ◌==◌, List, [], ◌∷◌}
use Rattle.std.specs.List.{AllByRecursion, filter, list_all}
use Rattle.rt_ops.specs.Operations.{Operation, last_count, named, has_bad_stamp}
use Rattle.rt_oplog.specs.Logs.{IsFalling}
use Rattle.rt_ops.specs.Rules.{keeps_rules}
use Rattle.rt_rga.specs.Histories.{is_known}

-- a site's operations, the newest first
abbrev pub of_site : ℕ → List Operation → List Operation
of_site site set = filter (λ op. op.site == site) set

-- the last count of the newest, 0 if there is none
abbrev pub last_count_of_newest : List Operation → ℕ
last_count_of_newest [] = 0
last_count_of_newest (op ∷ older) = last_count op

-- the first has 0 as its previous count, and each other one the last count of the one before it
abbrev pub IsChain : List Operation → Type 0
IsChain [] = Unit {0}
IsChain (op ∷ older) = (op.prev ≡ last_count_of_newest older) × IsChain older

-- sound operations that keep the rules; each site's are a chain, and each names what is known in the whole set
pub record IsHistoryBySites (set : List Operation) : Type 0 where
  pub falling : IsFalling set
  pub sound : AllByRecursion (λ op. has_bad_stamp op ≡ false) set
  pub rules : AllByRecursion (λ op. keeps_rules op.body ≡ true) set
  pub chains : (site : ℕ) → IsChain (of_site site set)
  pub known : AllByRecursion (λ op. list_all (is_known set op.body) (named op.body) ≡ true) set
