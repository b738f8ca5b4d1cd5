-- A character's stamp finds the place at which it stands.
use Rattle.std.proofs.Common.{◌≡◌, ℕ, ◌+◌, ◌-◌, ◌<◌, Bool, true, false, List, refl, sym, ap, ◌∙◌, arith, Option, Some, None, cond}
use Rattle.std.specs.Prelude.{nat_lt, option_and_then, option_map, slice_get}
use Rattle.std.proofs.lemmas.Bool.Decides.{nat_tests}
use Rattle.rt_stamps.specs.declared.stamp.Stamp.{Stamp}
use Rattle.rt_stamps.specs.Words.{Word}
use Rattle.rt_store.specs.declared.cell.Cell.{Cell}
use Rattle.rt_store.specs.Cells.{AreDistinct, position_of, visible_before, visible_of}
use Rattle.rt_rga.proofs.RemovedPlaces.{found_visible}
use Rattle.rt_lines.specs.declared.limits.Limits.{Limits}
use Rattle.rt_lines.specs.declared.stretch.Stretch.{Stretch}
use Rattle.rt_lines.specs.Limits.{place_of}
use Rattle.rt_lines.specs.Stretches.{seen_place, stretch_of}
use Rattle.rt_text.specs.Cursors.{place_of_stamp, stamp_at}
use Rattle.rt_text.specs.Widgets.{ViewValue, view_as}
use Rattle.rt_peers.specs.Cursors.{stamp_place_by, stamp_by}
use Rattle.rt_peers.specs.SiteValue.{SiteValue, number_of_path}

seen_within : (stretch : Stretch) (place : ℕ) → place < stretch.end - stretch.begin → seen_place stretch (stretch.begin + place) ≡ place
seen_within stretch place lt = omega (arith, lt)

-- the place of the visible cell that stands there
found_place : {T : Type 0} (cells : List (Cell T)) (stretch : Stretch) (place : ℕ) (stamp : Stamp) → AreDistinct cells → place < stretch.end - stretch.begin
    → (o : Option (Cell T)) → slice_get (visible_of cells) (stretch.begin + place) ≡ o → option_map (λ cell. cell.stamp) o ≡ Some stamp
    → option_map (seen_place stretch) (place_of cells stamp) ≡ Some place
found_place cells stretch place stamp d lt None e h = absurd (cc h)
found_place {T} cells stretch place stamp d lt (Some cell) e h =
    let same : cell.stamp ≡ stamp = cc h in
    let found = found_visible cells (stretch.begin + place) cell d e in
    ap (λ s. option_map (seen_place stretch) (option_map (visible_before cells) (position_of cells s))) (sym same)
    ∙ ap (option_map (seen_place stretch)) found.at
    ∙ ap Some (seen_within stretch place lt)

pub stamp_found : {T : Type 0} (cells : List (Cell T)) (limits : Limits) (place : ℕ) (stamp : Stamp) → AreDistinct cells → stamp_at limits place cells ≡ Some stamp → place_of_stamp limits stamp cells ≡ Some place
stamp_found {T} cells limits place stamp d h =
    let stretch = stretch_of cells limits in
    by stretch (nat_lt place (stretch.end - stretch.begin)) refl h
  where
    by : (stretch : Stretch) (b : Bool) → nat_lt place (stretch.end - stretch.begin) ≡ b → cond b (option_map (λ cell. cell.stamp) (slice_get (visible_of cells) (stretch.begin + place))) None ≡ Some stamp
        → option_map (seen_place stretch) (place_of cells stamp) ≡ Some place
    by stretch true e k =
        let lt : place < stretch.end - stretch.begin = grind (arith, nat_tests, e) in
        found_place cells stretch place stamp d lt (slice_get (visible_of cells) (stretch.begin + place)) refl k
    by stretch false e k = absurd (cc k)

pub cursor_found : (path : Word) (place : ℕ) (stamp : Stamp) (state : SiteValue) → AreDistinct state.text.view.doc.cells → stamp_by path place state ≡ Some stamp → stamp_place_by path stamp state ≡ Some place
cursor_found path place stamp state d h = by (number_of_path path state.paths) h
  where
    by : (o : Option ℕ) → option_and_then (λ (view : ViewValue). stamp_at view.own.limits place view.doc.cells) (option_map (λ number. view_as number state.text.view) o) ≡ Some stamp
        → option_and_then (λ (view : ViewValue). place_of_stamp view.own.limits stamp view.doc.cells) (option_map (λ number. view_as number state.text.view) o) ≡ Some place
    by None k = absurd (cc k)
    by (Some number) k = stamp_found state.text.view.doc.cells (view_as number state.text.view).own.limits place stamp d k
