-- The cells of a history are, in their order, among those of a larger one.
use Rattle.std.proofs.Common.{◌≡◌, ◌∙◌, ℕ, Bool, true, false, ◌⊎◌, inl, inr, List, [], ◌∷◌, ◌++◌, cond, map, ap, refl, subst, sym}
use Rattle.std.specs.List.{AllByRecursion}
use Rattle.rt_stamps.specs.declared.stamp.Stamp.{Stamp}
use Rattle.rt_stamps.specs.declared.stamp.TheConstants.{ROOT}
use Rattle.rt_stamps.specs.Stamps.{is_before, is_same}
use Rattle.rt_stamps.proofs.Order.{before_asym, before_irrefl}
use Rattle.rt_ops.specs.Operations.{Operation}
use Rattle.rt_oplog.specs.Logs.{HasOp}
use Rattle.rt_rga.specs.Cells.{cell_in, cells_of}
use Rattle.rt_rga.specs.Histories.{IsHistory, characters, final_character, inserted}
use Rattle.rt_rga.specs.Orders.{AreIn}
use Rattle.rt_rga.specs.Reading.{Character, descendants, reading_by_stamp, with_character, with_characters}
use Rattle.rt_rga.proofs.Histories.{tree_of}
use Rattle.rt_rga.proofs.Merging.{cells_are, map_map}
use Rattle.rt_rga.proofs.Rooted.{IsAscending}
use Rattle.rt_store.specs.Shown.{TaggedCell}
use Rattle.rt_lines.specs.Ordered.{StandAmong, letter_of, letters_of}

-- LISTS

among_more : {X : Type 0} (xs ys : List X) (y : X) → StandAmong xs ys → StandAmong xs (y ∷ ys)
among_more [] ys y h = tt
among_more (x ∷ xs) ys y h = inr h

among_both : {X : Type 0} (xs ys zs ws : List X) → StandAmong xs ys → StandAmong zs ws → StandAmong (xs ++ zs) (ys ++ ws)
among_both [] [] zs ws h k = k
among_both [] (y ∷ ys) zs ws h k = among_more zs (ys ++ ws) y (among_both [] ys zs ws tt k)
among_both (x ∷ xs) [] zs ws h k = absurd h
among_both (x ∷ xs) (y ∷ ys) zs ws h k = elim h [
  | inl both ↦ inl (both.0, among_both xs ys zs ws both.1 k)
  | inr rest ↦ inr (among_both (x ∷ xs) ys zs ws rest k)
]

among_front : {X : Type 0} (xs ys zs : List X) → StandAmong xs ys → StandAmong xs (ys ++ zs)
among_front [] ys zs h = tt
among_front (x ∷ xs) [] zs h = absurd h
among_front (x ∷ xs) (y ∷ ys) zs h = elim h [
  | inl both ↦ inl (both.0, among_front xs ys zs both.1)
  | inr rest ↦ inr (among_front (x ∷ xs) ys zs rest)
]

among_map : {X Y : Type 0} (f : X → Y) (xs ys : List X) → StandAmong xs ys → StandAmong (map f xs) (map f ys)
among_map f [] ys h = tt
among_map f (x ∷ xs) [] h = absurd h
among_map f (x ∷ xs) (y ∷ ys) h = elim h [
  | inl both ↦ inl (ap f both.0, among_map f xs ys both.1)
  | inr rest ↦ inr (among_map f (x ∷ xs) ys rest)
]

-- CHARACTERS OF A HISTORY

abbrev IsIn : Character → List Character → Type 0
IsIn c [] = ⊥
IsIn c (d ∷ ds) = (d ≡ c) ⊎ IsIn c ds

in_with : (new c : Character) (cs : List Character) → (new ≡ c) ⊎ IsIn c cs → IsIn c (with_character new cs)
in_with new c [] h = h
in_with new c (d ∷ ds) h = by (is_before d.stamp new.stamp) h (λ k. in_with new c ds k)
  where
    by : (b : Bool) → (new ≡ c) ⊎ IsIn c (d ∷ ds) → ((new ≡ c) ⊎ IsIn c ds → IsIn c (with_character new ds)) → IsIn c (cond b (d ∷ with_character new ds) (new ∷ d ∷ ds))
    by true k rest = elim k [ inl e ↦ inr (rest (inl e)) | inr i ↦ elim i [ inl e ↦ inl e | inr j ↦ inr (rest (inr j)) ] ]
    by false k rest = k

with_in : (new c : Character) (cs : List Character) → IsIn c (with_character new cs) → (new ≡ c) ⊎ IsIn c cs
with_in new c [] h = h
with_in new c (d ∷ ds) h = by (is_before d.stamp new.stamp) h (λ k. with_in new c ds k)
  where
    by : (b : Bool) → IsIn c (cond b (d ∷ with_character new ds) (new ∷ d ∷ ds)) → (IsIn c (with_character new ds) → (new ≡ c) ⊎ IsIn c ds) → (new ≡ c) ⊎ IsIn c (d ∷ ds)
    by true k rest = elim k [ inl e ↦ inr (inl e) | inr i ↦ elim (rest i) [ inl e ↦ inl e | inr j ↦ inr (inr j) ] ]
    by false k rest = k

in_with_all : (new : List Character) (c : Character) (cs : List Character) → IsIn c new ⊎ IsIn c cs → IsIn c (with_characters new cs)
in_with_all [] c cs h = elim h [ inl i ↦ absurd i | inr i ↦ i ]
in_with_all (n ∷ new) c cs h = in_with_all new c (with_character n cs) (elim h [
  | inl i ↦ elim i [ inl e ↦ inr (in_with n c cs (inl e)) | inr j ↦ inl j ]
  | inr i ↦ inr (in_with n c cs (inr i))
])

with_all_in : (new : List Character) (c : Character) (cs : List Character) → IsIn c (with_characters new cs) → IsIn c new ⊎ IsIn c cs
with_all_in [] c cs h = inr h
with_all_in (n ∷ new) c cs h = elim (with_all_in new c (with_character n cs) h) [
  | inl i ↦ inl (inr i)
  | inr i ↦ elim (with_in n c cs i) [ inl e ↦ inl (inl e) | inr j ↦ inr j ]
]

-- each is the final newline or one that an operation inserted
inserted_in : (log : List Operation) (c : Character) → IsIn c (characters log) → (final_character ≡ c) ⊎ ((op : Operation) × HasOp log op × IsIn c (inserted op))
inserted_in [] c h = elim h [ inl e ↦ inl e | inr i ↦ absurd i ]
inserted_in (op ∷ older) c h = elim (with_all_in (inserted op) c (characters older) h) [
  | inl i ↦ inr (op, inl refl, i)
  | inr i ↦ elim (inserted_in older c i) [ inl e ↦ inl e | inr j ↦ inr (j.0, inr j.1, j.2) ]
]

final_in : (log : List Operation) → IsIn final_character (characters log)
final_in [] = inl refl
final_in (op ∷ older) = in_with_all (inserted op) final_character (characters older) (inr (final_in older))

in_inserted : (log : List Operation) (op : Operation) (c : Character) → HasOp log op → IsIn c (inserted op) → IsIn c (characters log)
in_inserted [] op c h i = absurd h
in_inserted (q ∷ older) op c h i = elim h [
  | inl e ↦ in_with_all (inserted q) c (characters older) (inl (subst (λ (o : Operation). IsIn c (inserted o)) (sym e) i))
  | inr j ↦ in_with_all (inserted q) c (characters older) (inr (in_inserted older op c j i))
]

in_more : (old new : List Operation) (c : Character) → AreIn old new → IsIn c (characters old) → IsIn c (characters new)
in_more old new c sub h = elim (inserted_in old c h) [
  | inl e ↦ subst (λ (d : Character). IsIn d (characters new)) e (final_in new)
  | inr i ↦ in_inserted new i.0 c (sub i.0 i.1) i.2
]

-- THEIR ORDER

at_in : (P : Character → Type 0) (cs : List Character) (c : Character) → AllByRecursion P cs → IsIn c cs → P c
at_in P [] c h i = absurd i
at_in P (d ∷ ds) c h i = elim i [ inl e ↦ subst P e h.0 | inr j ↦ at_in P ds c h.1 j ]

not_itself : (c : Character) → is_before c.stamp c.stamp ≡ true → ⊥
not_itself c h = let no = before_irrefl c.stamp in cc (h, no)

not_both : (c d : Character) → is_before c.stamp d.stamp ≡ true → is_before d.stamp c.stamp ≡ true → ⊥
not_both c d h k = let no = before_asym c.stamp d.stamp h in cc (k, no)

-- by rising stamp those that are in another list stand among it
among_rising : (xs ys : List Character) → IsAscending xs → IsAscending ys → ((c : Character) → IsIn c xs → IsIn c ys) → StandAmong xs ys
among_rising [] ys h k f = tt
among_rising (x ∷ xs) [] h k f = absurd (f x (inl refl))
among_rising (x ∷ xs) (y ∷ ys) h k f = elim (f x (inl refl)) [
  | inl e ↦ inl (
    sym e,
    among_rising xs ys h.1 k.1 (λ c i. elim (f c (inr i)) [
      | inl g ↦ absurd (not_itself x (subst (λ (d : Character). is_before x.stamp d.stamp ≡ true) (sym g ∙ e) (at_in (λ d. is_before x.stamp d.stamp ≡ true) xs c h.0 i)))
      | inr j ↦ j
    ]),
  )
  | inr i ↦ inr (among_rising (x ∷ xs) ys h k.1 (λ c j. elim (f c j) [
    | inl g ↦ absurd (let after = at_in (λ d. is_before y.stamp d.stamp ≡ true) ys x k.0 i in elim j [
      | inl e ↦ not_itself y (subst (λ (d : Character). is_before y.stamp d.stamp ≡ true) (e ∙ sym g) after)
      | inr m ↦ not_both y x after (subst (λ (d : Character). is_before x.stamp d.stamp ≡ true) (sym g) (at_in (λ d. is_before x.stamp d.stamp ≡ true) xs c h.0 m))
    ])
    | inr m ↦ m
  ]))
]

-- and so does their reading
reading_among : (cs ds : List Character) (p : Stamp) → StandAmong cs ds → StandAmong (descendants cs p) (descendants ds p)
reading_among [] ds p h = tt
reading_among (c ∷ cs) [] p h = absurd h
reading_among (c ∷ cs) (d ∷ ds) p h = elim h [
  | inl both ↦ subst (λ (e : Character). StandAmong (descendants (c ∷ cs) p) (descendants (e ∷ ds) p)) both.0 (same (is_same c.left p) (reading_among cs ds p both.1) (reading_among cs ds c.stamp both.1))
  | inr rest ↦ more (is_same d.left p) (descendants (c ∷ cs) p) (reading_among (c ∷ cs) ds p rest)
]
  where
    same : (b : Bool) → StandAmong (descendants cs p) (descendants ds p) → StandAmong (descendants cs c.stamp) (descendants ds c.stamp)
        → StandAmong (cond b (descendants cs p ++ c ∷ descendants cs c.stamp) (descendants cs p)) (cond b (descendants ds p ++ c ∷ descendants ds c.stamp) (descendants ds p))
    same true i j = among_both (descendants cs p) (descendants ds p) (c ∷ descendants cs c.stamp) (c ∷ descendants ds c.stamp) i (inl (refl, j))
    same false i j = i

    more : (b : Bool) (xs : List Character) → StandAmong xs (descendants ds p) → StandAmong xs (cond b (descendants ds p ++ d ∷ descendants ds d.stamp) (descendants ds p))
    more true xs i = among_front xs (descendants ds p) (d ∷ descendants ds d.stamp) i
    more false xs i = i

-- CELLS

letters_are : (log : List Operation) → IsHistory log → letters_of (cells_of log) ≡ map (λ (c : Character). (c.stamp, c.ch)) (reading_by_stamp (characters log))
letters_are log h = ap letters_of (cells_are log h) ∙ map_map (λ (cell : TaggedCell). letter_of cell) (cell_in log) (reading_by_stamp (characters log))

pub cells_among : (old new : List Operation) → IsHistory old → IsHistory new → AreIn old new → StandAmong (letters_of (cells_of old)) (letters_of (cells_of new))
cells_among old new h k sub =
    let rising = among_rising (characters old) (characters new) (tree_of old h).ascending (tree_of new k).ascending (λ c i. in_more old new c sub i) in
    let read = reading_among (characters old) (characters new) ROOT rising in
    subst (λ (x : _). x) (λ i. StandAmong (sym (letters_are old h) i) (sym (letters_are new k) i))
    (among_map (λ (c : Character). (c.stamp, c.ch)) (reading_by_stamp (characters old)) (reading_by_stamp (characters new)) read)
