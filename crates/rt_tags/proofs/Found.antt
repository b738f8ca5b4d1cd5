-- How many elements pass a test at the front of a list.
use Rattle.std.proofs.Common.{◌≡◌, ℕ, zero, suc, ◌≤◌, List, [], ◌∷◌, length, Bool, true, false, refl, arith}
use Rattle.std.specs.List.{prefix_len}
use Rattle.std.specs.List.Sorted.{IsPartitionPoint}

pub prefix_is : {X : Type 0} (p : X → Bool) (xs : List X) (i : ℕ) → i ≤ length xs → IsPartitionPoint (λ y. p y ≡ true) (λ y. p y ≡ false) xs i → i ≡ prefix_len p xs
prefix_is p [] i h k = omega arith
prefix_is p (x ∷ xs) zero h k = let e : p x ≡ false = k.1 0 x (omega arith) (omega arith) in rw e refl
prefix_is p (x ∷ xs) (suc i) h k =
    let e : p x ≡ true = k.0 0 x (omega arith) (omega arith) in
    let r : i ≡ prefix_len p xs = prefix_is p xs i (omega arith) ((λ j d l m. k.0 (suc j) d (omega arith) (omega arith)), (λ j d l m. k.1 (suc j) d (omega arith) (omega arith))) in
    rw e (omega (arith, r))
