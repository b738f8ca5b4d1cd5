-- The characters of a history's cells are scalar values.
use Rattle.std.proofs.Common.{◌≡◌, ℕ, true, false, List, [], ◌∷◌, ◌++◌, cond, refl, sym, subst, map}
use Rattle.std.proofs.lemmas.Bool.{and_from, and_parts}
use Rattle.std.specs.List.{AllByRecursion}
use Rattle.std.specs.Str.{all_scalars}
use Rattle.rt_stamps.specs.declared.stamp.Stamp.{Stamp}
use Rattle.rt_stamps.specs.Stamps.{is_same}
use Rattle.rt_ops.specs.Operations.{Operation, Body, Insert, Delete, Tag, stamp_of}
use Rattle.rt_ops.specs.Rules.{are_tags, is_text, keeps_rules}
use Rattle.rt_tags.proofs.Sorted.{every_append}
use Rattle.rt_store.specs.Shown.{TaggedCell}
use Rattle.rt_store.specs.Spans.{next_stamp}
use Rattle.rt_rga.specs.Cells.{cell_in, cells_of}
use Rattle.rt_rga.specs.Histories.{IsHistory, characters, characters_from, inserted, inserted_by}
use Rattle.rt_rga.specs.Reading.{Character, descendants, reading_by_stamp, with_characters, with_character}
use Rattle.rt_rga.proofs.Merging.{cells_are}
use Rattle.rt_rga.proofs.Trees.{all_with}
use Rattle.rt_stamps.specs.declared.stamp.TheConstants.{ROOT}

-- a character is a scalar value
abbrev IsScalar : Character → Type 0
IsScalar c = all_scalars (c.ch ∷ []) ≡ true

abbrev pub HasScalar : TaggedCell → Type 0
HasScalar cell = all_scalars (cell.ch ∷ []) ≡ true

all_from : (left stamp : Stamp) (text : List ℕ) → all_scalars text ≡ true → AllByRecursion IsScalar (characters_from left stamp text)
all_from left stamp [] h = tt
all_from left stamp (ch ∷ text) h =
    let p = and_parts _ (all_scalars text) h in
    (and_from _ true p.0 refl, all_from stamp (next_stamp stamp) text p.1)

all_by : (stamp : Stamp) (body : Body) → keeps_rules body ≡ true → AllByRecursion IsScalar (inserted_by stamp body)
all_by stamp (Insert after tags text) h =
    let p = and_parts (are_tags tags) (is_text text) h in
    let q = and_parts _ (all_scalars text) p.1 in
    all_from after stamp text q.1
all_by stamp (Delete spans) h = tt
all_by stamp (Tag on name spans) h = tt

all_more : (new cs : List Character) → AllByRecursion IsScalar new → AllByRecursion IsScalar cs → AllByRecursion IsScalar (with_characters new cs)
all_more [] cs h k = k
all_more (c ∷ new) cs h k = all_more new (with_character c cs) h.1 (all_with IsScalar c h.0 cs k)

all_characters : (log : List Operation) → IsHistory log → AllByRecursion IsScalar (characters log)
all_characters [] h = (refl, tt)
all_characters (op ∷ older) h = all_more (inserted op) (characters older) (all_by (stamp_of op) op.body h.1.rules) (all_characters older h.2)

all_below : (cs : List Character) (parent : Stamp) → AllByRecursion IsScalar cs → AllByRecursion IsScalar (descendants cs parent)
all_below [] parent h = tt
all_below (c ∷ cs) parent h =
    elim (is_same c.left parent) as (λ b. AllByRecursion IsScalar (cond b (descendants cs parent ++ c ∷ descendants cs c.stamp) (descendants cs parent))) [
      | true ↦ every_append IsScalar (descendants cs parent) (c ∷ descendants cs c.stamp) (all_below cs parent h.1) (h.0, all_below cs c.stamp h.1)
      | false ↦ all_below cs parent h.1
    ]

all_cells : (log : List Operation) (cs : List Character) → AllByRecursion IsScalar cs → AllByRecursion HasScalar (map (cell_in log) cs)
all_cells log [] h = tt
all_cells log (c ∷ cs) h = (h.0, all_cells log cs h.1)

pub cells_have_scalars : (log : List Operation) → IsHistory log → AllByRecursion HasScalar (cells_of log)
cells_have_scalars log h =
    subst (AllByRecursion HasScalar) (sym (cells_are log h))
    (all_cells log (reading_by_stamp (characters log)) (all_below (characters log) ROOT (all_characters log h)))
