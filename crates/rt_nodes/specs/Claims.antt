-- Whose memory a claim is on. No public clause cites this module.
use Rattle.std.specs.Prelude.{◌≡◌}
use Rattle.std_alloc.specs.Vec.{vec_ptr, vec_capacity}
use Rattle.std_alloc.specs.declared.vec.Vec.{Vec}
use Rattle.std_alloc.specs.declared.vec.lodged.Lodged.{Lodged}
use Rattle.rt_nodes.specs.declared.claim.Claim.{Claim}

-- the claim is on the memory of the row, which came from h
pub record IsClaimOn {E A : Type 0} (c : Claim E A) (r : Vec E Lodged) (h : A) : Type 0 where
  pub at : c.at ≡ vec_ptr r
  pub places : c.places ≡ vec_capacity r
  pub from : c.heap ≡ h
