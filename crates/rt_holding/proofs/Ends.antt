-- An operation leaves the known ends of other sites.
use Rattle.std.proofs.Common.{◌≡◌, ℕ, Bool, true, false, refl, ap, List, [], ◌∷◌, cond, ◌==◌, max}
use Rattle.rt_stamps.specs.Stamps.{is_before}
use Rattle.rt_ops.specs.Operations.{Operation, last_count, stamp_of}
use Rattle.rt_oplog.specs.Logs.{known_end, with_operation}

pub other_end : (y : Operation) (older : List Operation) (site : ℕ) → (y.site == site) ≡ false → known_end (with_operation y older) site ≡ known_end older site
other_end y [] site e = rw e refl
other_end y (q ∷ older) site e =
    let i = other_end y older site e in
    elim (is_before (stamp_of q) (stamp_of y)) as (λ t. known_end (cond t (y ∷ (q ∷ older)) (q ∷ with_operation y older)) site ≡ known_end (q ∷ older) site) [
      | true ↦ rw e refl
      | false ↦ ap (λ n. cond (q.site == site) (max (last_count q) n) n) i
    ]
