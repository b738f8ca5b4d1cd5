-- Items of a list by their place.
use Rattle.std.proofs.Common.{◌≡◌, ℕ, zero, suc, ◌<◌, List, [], ◌∷◌, Some, ap, sym, arith, length}
use Rattle.std.specs.Prelude.{slice_get, slice_index_or}

pub got_at : {X : Type 0} (xs : List X) (i : ℕ) (x : X) → i < length xs → x ≡ slice_index_or xs i x → slice_get xs i ≡ Some x
got_at [] i x h e = absurd (omega (arith, h))
got_at (y ∷ ys) zero x h e = ap Some (sym e)
got_at (y ∷ ys) (suc i) x h e = got_at ys i x (omega (arith, h)) e
