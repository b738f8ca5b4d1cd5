-- Whether some place passes a test, as places are gone through.
use Rattle.rt_rows.specs.declared.rows.RowPlace.{RowPlace}
use Rattle.std.proofs.Common.{◌≡◌, ℕ, ◌+◌, ◌<◌, Bool, ◌||◌, List, ◌∷◌, length, get_or, drop, sym, ap, ◌∙◌}
use Rattle.std.specs.List.{flat_map, list_any}
use Rattle.std.proofs.lemmas.List.{drop_more}
use Rattle.std.proofs.lemmas.List.Folds.{list_any-append}

pub any_more : (q : RowPlace → Bool) (xs : List RowPlace) (i : ℕ) (d : RowPlace) → i < length xs → list_any q (drop i xs) ≡ (q (get_or xs i d) || list_any q (drop (i + 1) xs))
any_more q xs i d l = ap (list_any q) (drop_more xs i d l)

pub any_part : {X : Type 0} (f : X → List RowPlace) (q : RowPlace → Bool) (bs : List X) (i : ℕ) (b : X) → i < length bs → b ≡ get_or bs i b
    → list_any q (flat_map f (drop i bs)) ≡ (list_any q (f b) || list_any q (flat_map f (drop (i + 1) bs)))
any_part f q bs i b l e =
    ap (λ xs. list_any q (flat_map f xs)) (drop_more bs i b l ∙ ap (λ x. x ∷ drop (i + 1) bs) (sym e)) ∙ list_any-append q (f b) (flat_map f (drop (i + 1) bs))
