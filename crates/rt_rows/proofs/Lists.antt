-- Lists of tags that come in: what is kept stands for the same operations.
use Rattle.std.proofs.Common.{◌≡◌, ℕ, zero, suc, ◌≤◌, refl, sym, ap, ◌∙◌, subst, arith, Bool, ◌&&◌, map, List, [], ◌∷◌, ◌++◌, length, get_or, Some, None, Option}
use Rattle.std.proofs.Math.ListN.{set, get_or-append}
use Rattle.std.specs.Cmp.Lexicographic.{pointwise}
use Rattle.rt_ops.specs.Operations.{Insert, Name, Operation}
use Rattle.rt_rows.specs.declared.rows.RowPlace.{RowPlace}
use Rattle.rt_rows.specs.declared.stored.Stored.{Stored}
use Rattle.rt_rows.specs.declared.stored.Stored.TheVariants.{Typed, Deleted, Listed, Single}
use Rattle.rt_rows.specs.Listed.{IsListed, names_at}
use Rattle.rt_rows.specs.Places.{IsOnlyNew, KeepsPlaces, StandsAt}
use Rattle.rt_rows.specs.Rows.{operations_in_row}
use Rattle.rt_rows.specs.Stored.{AreListed, IsPut, list_in, operations_stored, rows_in}

-- lists that are seen by their elements

pub pointwise_map : {X Y : Type 0} (e : Y → Y → Bool) (f : X → Y) (xs ys : List X) → pointwise e (map f xs) (map f ys) ≡ pointwise (λ x y. e (f x) (f y)) xs ys
pointwise_map e f [] [] = refl
pointwise_map e f [] (y ∷ ys) = refl
pointwise_map e f (x ∷ xs) [] = refl
pointwise_map e f (x ∷ xs) (y ∷ ys) = ap (λ b. e (f x) (f y) && b) (pointwise_map e f xs ys)

-- places of lists

pub listed_set : (many : ℕ) (kept : List Stored) (k : ℕ) (was now : Stored) → was ≡ get_or kept k was → list_in now ≡ list_in was → AreListed many kept → AreListed many (set kept k now)
listed_set many [] k was now w e h = h
listed_set many (s ∷ kept) zero was now w e h = (subst (IsListed many) (sym (e ∙ ap list_in w)) h.0, h.1)
listed_set many (s ∷ kept) (suc k) was now w e h = (h.0, listed_set many kept k was now w e h.1)

pub listed_append : (many : ℕ) (kept : List Stored) (new : Stored) → AreListed many kept → IsListed many (list_in new) → AreListed many (kept ++ new ∷ [])
listed_append many [] new h l = (l, tt)
listed_append many (s ∷ kept) new h l = (h.0, listed_append many kept new h.1 l)

one_more : (few many : ℕ) (list : Option ℕ) → few ≤ many → IsListed few list → IsListed many list
one_more few many None l h = h
one_more few many (Some at) l h = omega (arith, l, h)

pub listed_more : (few many : ℕ) (kept : List Stored) → few ≤ many → AreListed few kept → AreListed many kept
listed_more few many [] l h = h
listed_more few many (s ∷ kept) l h = (one_more few many (list_in s) l h.0, listed_more few many kept l h.1)

-- lists more

names_more : (lists more : List (List Name)) (list : Option ℕ) → IsListed (length lists) list → names_at (lists ++ more) list ≡ names_at lists list
names_more lists more None h = refl
names_more lists more (Some at) h = get_or-append lists more [] at h

stored_more : (lists more : List (List Name)) (s : Stored) → IsListed (length lists) (list_in s) → operations_stored (lists ++ more) s ≡ operations_stored lists s
stored_more lists more (Typed row) h =
    ap (λ tags. operations_in_row (record { start = row.start; after = row.after; tags = tags; text = row.text })) (names_more lists more row.list h)
stored_more lists more (Deleted row) h = refl
stored_more lists more (Listed one) h =
    ap (λ tags. record { count = one.stamp.count; site = one.stamp.site; prev = one.prev; body = Insert one.after tags one.text } ∷ []) (names_more lists more (Some one.list) h)
stored_more lists more (Single op) h = refl

pub rows_more : (lists more : List (List Name)) (kept : List Stored) → AreListed (length lists) kept → rows_in (lists ++ more) kept ≡ rows_in lists kept
rows_more lists more [] h = refl
rows_more lists more (s ∷ kept) h =
    let one = stored_more lists more s h.0 in
    let rest = rows_more lists more kept h.1 in
    λ i. one i ∷ rest i

-- an operation that is put, where the lists are these

pub there_in : (lists : List (List Name)) (old new : List Stored) (op : List (List Name) → Operation) (place : RowPlace) (one : Operation) → op lists ≡ one → IsPut old new op place
    → StandsAt (rows_in lists new) one place
there_in lists old new op place one e h = subst (λ x. StandsAt (rows_in lists new) x place) e (h.there lists)

pub new_in : (lists : List (List Name)) (old new : List Stored) (op : List (List Name) → Operation) (place : RowPlace) (was : List (List Operation))
    → rows_in lists old ≡ was → IsPut old new op place → IsOnlyNew was (rows_in lists new) place
new_in lists old new op place was e h = subst (λ rows. IsOnlyNew rows (rows_in lists new) place) e (h.one lists)

pub kept_in : (lists : List (List Name)) (old new : List Stored) (op : List (List Name) → Operation) (place : RowPlace) (was : List (List Operation))
    → rows_in lists old ≡ was → IsPut old new op place → KeepsPlaces was (rows_in lists new)
kept_in lists old new op place was e h = subst (λ rows. KeepsPlaces rows (rows_in lists new)) e (h.kept lists)
