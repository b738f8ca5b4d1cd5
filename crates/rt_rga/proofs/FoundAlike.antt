-- Cells of which others are known: what looks at stamps and at what is gone alone is the same of them.
use Rattle.std.proofs.Common.{◌≡◌, ℕ, List, All, Option, Some, None, ap, false, filter, length, map, not, refl, subst, take, ◌∙◌}
use Rattle.std.specs.Prelude.{option_map, slice_get, unwrap_or}
use Rattle.std.proofs.lemmas.List.{length-map, take-map}
use Rattle.std.proofs.lemmas.List.Elements.{All-filter}
use Rattle.std.proofs.lemmas.Option.{get_or_from_slice_get, slice_get-map, slice_get_within}
use Rattle.rt_stamps.specs.declared.stamp.Stamp.{Stamp}
use Rattle.rt_ops.specs.Operations.{Body, Delete, Insert, Operation, Tag, stamp_of}
use Rattle.rt_store.specs.Cells.{skip_from, visible_before, visible_of}
use Rattle.rt_store.specs.Shown.{TaggedCell}
use Rattle.rt_store.proofs.Shown.{filter_map}
use Rattle.rt_rga.specs.Cells.{deletes}
use Rattle.rt_rga.specs.Noted.{switches, switches_at}
use Rattle.rt_rga.specs.Taken.{changes_tag, place_by, retags, takes_away}
use Rattle.rt_rga.proofs.Planned.{skip_keeps}

module _ (f : TaggedCell → TaggedCell) (stamps : (c : TaggedCell) → (f c).stamp ≡ c.stamp) (gone : (c : TaggedCell) → (f c).gone ≡ c.gone) where
  -- the same cells are visible, and as many
  pub visible_keeps : (cells : List TaggedCell) → visible_of (map f cells) ≡ map f (visible_of cells)
  visible_keeps cells = filter_map (λ cell. not cell.gone) f cells ∙ (λ i. map f (filter (λ cell. not (gone cell i)) cells))

  pub count_keeps : (cells : List TaggedCell) → length (visible_of (map f cells)) ≡ length (visible_of cells)
  count_keeps cells = ap (λ (cs : List TaggedCell). length cs) (visible_keeps cells) ∙ length-map (visible_of cells) f

  -- the visible cell at a place
  at_keeps : (cells : List TaggedCell) (n : ℕ) → slice_get (visible_of (map f cells)) n ≡ option_map f (slice_get (visible_of cells) n)
  at_keeps cells n = ap (λ (cs : List TaggedCell). slice_get cs n) (visible_keeps cells) ∙ slice_get-map f (visible_of cells) n

  -- an operation inserts at the same place
  before_keeps : (cells : List TaggedCell) (n : ℕ) → visible_before (map f cells) n ≡ visible_before cells n
  before_keeps cells n = ap (λ (cs : List TaggedCell). length (visible_of cs)) (take-map f n cells) ∙ count_keeps (take n cells)

  pub place_keeps : (s : Stamp) (body : Body) (cells : List TaggedCell) → place_by s body (map f cells) ≡ place_by s body cells
  place_keeps s (Insert after tags text) cells =
      ap (visible_before (map f cells)) (skip_keeps f stamps cells after s) ∙ before_keeps cells (skip_from cells after s)
  place_keeps s (Delete spans) cells = refl
  place_keeps s (Tag on name spans) cells = refl

  -- it takes the same places away
  pub taken_keeps : (body : Body) (cells : List TaggedCell) (n : ℕ) → takes_away body (map f cells) n ≡ takes_away body cells n
  taken_keeps body cells n =
      ap (λ (o : Option TaggedCell). unwrap_or (option_map (λ cell. deletes body cell.stamp) o) false) (at_keeps cells n)
      ∙ by (slice_get (visible_of cells) n)
    where
      by : (o : Option TaggedCell) → unwrap_or (option_map (λ cell. deletes body cell.stamp) (option_map f o)) false
          ≡ unwrap_or (option_map (λ cell. deletes body cell.stamp) o) false
      by None = refl
      by (Some c) = ap (deletes body) (stamps c)

  -- where it changes the tags of cells just where it switches those of the known ones, it changes the places that it switches
  pub switched_is : (op : Operation) (cells : List TaggedCell) (n : ℕ) → All (λ c. changes_tag (stamp_of op) op.body (f c) ≡ switches op.body c) cells
      → retags (stamp_of op) op.body (map f cells) n ≡ switches_at op.body cells n
  switched_is op cells n h =
      ap (λ (o : Option TaggedCell). unwrap_or (option_map (changes_tag (stamp_of op) op.body) o) false) (at_keeps cells n)
      ∙ by (slice_get (visible_of cells) n) refl
    where
      P : TaggedCell → Type 0
      P c = changes_tag (stamp_of op) op.body (f c) ≡ switches op.body c

      by : (o : Option TaggedCell) → slice_get (visible_of cells) n ≡ o
          → unwrap_or (option_map (changes_tag (stamp_of op) op.body) (option_map f o)) false ≡ unwrap_or (option_map (switches op.body) o) false
      by None e = refl
      by (Some c) e =
          subst P (get_or_from_slice_get (visible_of cells) n c c e)
          (All-filter (λ cell. not cell.gone) P cells h n c (slice_get_within (visible_of cells) n c e))
