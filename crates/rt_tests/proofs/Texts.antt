-- The text `ab` of the tests, of which the `b` may be gone.
use Rattle.std.proofs.Common.{Bool, [], ◌∷◌, false, refl}
use Rattle.std.specs.List.{IsDistinct}
use Rattle.rt_store.specs.Cells.{AreDistinct, final_cell}

pub distinct :
    (gone : Bool)
    → AreDistinct (record { stamp = record { count = 1; site = 1 }; ch = 97; gone = false; state = 0 }
    ∷ record { stamp = record { count = 2; site = 1 }; ch = 98; gone = gone; state = 0 } ∷ final_cell ∷ [])
unfolding IsDistinct
distinct gone = ((refl, (refl, tt)), ((refl, tt), (tt, tt)))
