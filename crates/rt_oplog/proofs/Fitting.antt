-- For which operations of a log the first version of the file has room.
use Rattle.rt_rows.specs.Places.{op_at}
use Rattle.rt_rows.specs.declared.rows.RowPlace.{RowPlace}
use Rattle.std.proofs.Common.{◌≡◌, ℕ, ◌+◌, ◌<◌, Bool, true, false, ◌&&◌, refl, sym, ap, ◌∙◌, List, ◌++◌, length, get_or, take, drop, take-append-drop}
use Rattle.std.specs.List.{flat_map, list_all}
use Rattle.std.proofs.lemmas.List.{map-append}
use Rattle.std.proofs.lemmas.Grind.{flat_map-append}
use Rattle.std.proofs.lemmas.List.Folds.{list_all-append, list_all-map, list_all_at, list_all_more}
use Rattle.rt_ops.specs.declared.version.Version.TheVariants.{One}
use Rattle.rt_ops.specs.Operations.{Operation}
use Rattle.rt_ops.specs.File.{fits, version_of}
use Rattle.rt_oplog.proofs.InParts.{places_next}
use Rattle.rt_oplog.proofs.Merges.{ops_at}

-- the first version has room for the operations of places
abbrev pub fit : List (List Operation) → List RowPlace → Bool
fit ops places = list_all (fits One) (ops_at ops places)

fit_append : (ops : List (List Operation)) (xs ys : List RowPlace) → fit ops (xs ++ ys) ≡ (fit ops xs && fit ops ys)
fit_append ops xs ys = ap (list_all (fits One)) (map-append (op_at ops) xs ys) ∙ list_all-append (fits One) (ops_at ops xs) (ops_at ops ys)

by_places : (ops : List (List Operation)) (places : List RowPlace) → fit ops places ≡ list_all (λ place. fits One (op_at ops place)) places
by_places ops places = list_all-map (fits One) (op_at ops) places

-- ---- the next place

pub fits_next : (ops : List (List Operation)) (places : List RowPlace) (i : ℕ) (op : Operation) → i < length places → op ≡ op_at ops (get_or places i (record { row = 0; at = 0 }))
    → fit ops (take i places) ≡ true → fits One op ≡ true → fit ops (take (i + 1) places) ≡ true
fits_next ops places i op l e before here =
    let front = sym (by_places ops (take i places)) ∙ before in
    let next = ap (fits One) (sym e) ∙ here in
    by_places ops (take (i + 1) places) ∙ list_all_more (λ place. fits One (op_at ops place)) places i (record { row = 0; at = 0 }) l ∙ (λ j. front j && next j)

pub fits_not : (ops : List (List Operation)) (places : List RowPlace) (i : ℕ) (op : Operation) → i < length places → op ≡ op_at ops (get_or places i (record { row = 0; at = 0 }))
    → fits One op ≡ false → fit ops places ≡ false
fits_not ops places i op l e here = by_places ops places ∙ list_all_at (λ place. fits One (op_at ops place)) places i (record { row = 0; at = 0 }) l (ap (fits One) (sym e) ∙ here)

pub fits_at : (ops : List (List Operation)) (places : List RowPlace) (i : ℕ) (op : Operation) → i < length places → op ≡ op_at ops (get_or places i (record { row = 0; at = 0 }))
    → fit ops places ≡ true → fits One op ≡ true
fits_at ops places i op l e all = by (fits One op) refl
  where
    by : (b : Bool) → fits One op ≡ b → fits One op ≡ true
    by true h = h
    by false h = absurd (cc (all, fits_not ops places i op l e h))

-- ---- the next part: a run, or a block

pub part_fits : {X : Type 0} (f : X → List RowPlace) (ops : List (List Operation)) (bs : List X) (i : ℕ) (b : X) → i < length bs → b ≡ get_or bs i b
    → fit ops (flat_map f (take i bs)) ≡ true → fit ops (f b) ≡ true → fit ops (flat_map f (take (i + 1) bs)) ≡ true
part_fits f ops bs i b l e before here =
    ap (fit ops) (places_next f bs i b l e) ∙ fit_append ops (flat_map f (take i bs)) (f b) ∙ (λ j. before j && here j)

-- a part among all
split_at : {X : Type 0} (f : X → List RowPlace) (ops : List (List Operation)) (bs : List X) (i : ℕ) (b : X) → i < length bs → b ≡ get_or bs i b
    → fit ops (flat_map f bs) ≡ ((fit ops (flat_map f (take i bs)) && fit ops (f b)) && fit ops (flat_map f (drop (i + 1) bs)))
split_at f ops bs i b l e =
    ap (λ xs. fit ops (flat_map f xs)) (sym (take-append-drop (i + 1) bs))
    ∙ ap (fit ops) (flat_map-append f (take (i + 1) bs) (drop (i + 1) bs))
    ∙ fit_append ops (flat_map f (take (i + 1) bs)) (flat_map f (drop (i + 1) bs))
    ∙ ap (λ a. a && fit ops (flat_map f (drop (i + 1) bs))) (ap (fit ops) (places_next f bs i b l e) ∙ fit_append ops (flat_map f (take i bs)) (f b))

middle_not : (a c : Bool) → ((a && false) && c) ≡ false
middle_not true c = refl
middle_not false c = refl

pub part_not : {X : Type 0} (f : X → List RowPlace) (ops : List (List Operation)) (bs : List X) (i : ℕ) (b : X) → i < length bs → b ≡ get_or bs i b
    → fit ops (f b) ≡ false → fit ops (flat_map f bs) ≡ false
part_not f ops bs i b l e here =
    split_at f ops bs i b l e ∙ ap (λ m. (fit ops (flat_map f (take i bs)) && m) && fit ops (flat_map f (drop (i + 1) bs))) here
    ∙ middle_not (fit ops (flat_map f (take i bs))) (fit ops (flat_map f (drop (i + 1) bs)))

pub part_at : {X : Type 0} (f : X → List RowPlace) (ops : List (List Operation)) (bs : List X) (i : ℕ) (b : X) → i < length bs → b ≡ get_or bs i b
    → fit ops (flat_map f bs) ≡ true → fit ops (f b) ≡ true
part_at f ops bs i b l e all = by (fit ops (f b)) refl
  where
    by : (m : Bool) → fit ops (f b) ≡ m → fit ops (f b) ≡ true
    by true h = h
    by false h = absurd (cc (all, part_not f ops bs i b l e h))

-- ---- the version in which a log is written

pub first_fits : (ops : List Operation) → version_of ops ≡ One → list_all (fits One) ops ≡ true
first_fits ops h = by (list_all (fits One) ops) refl
  where
    by : (b : Bool) → list_all (fits One) ops ≡ b → list_all (fits One) ops ≡ true
    by true e = e
    by false e = let two = rw e at h in absurd (cc two)
