-- Places by stamps, and stamps by places, as the store has them.
use Rattle.std.proofs.Common.{◌≡◌, ℕ, ◌+◌, ◌-◌, ◌<◌, ◌≤◌, true, false, List, map, sym, ap, ◌∙◌, arith, Some, None, cond}
use Rattle.std.specs.Prelude.{nat_lt, option_map, slice_get}
use Rattle.std.proofs.lemmas.Bool.Decides.{nat_tests}
use Rattle.rt_stamps.specs.declared.stamp.Stamp.{Stamp}
use Rattle.rt_store.specs.declared.cell.Cell.{Cell}
use Rattle.rt_store.specs.Cells.{map_state, visible_of}
use Rattle.rt_store.proofs.Shown.{visible_at_shown}
use Rattle.rt_lines.specs.declared.limits.Limits.{Limits}
use Rattle.rt_lines.specs.declared.stretch.Stretch.{Stretch}
use Rattle.rt_lines.specs.Limits.{place_of}
use Rattle.rt_lines.specs.Stretches.{seen_place, stretch_of}
use Rattle.rt_lines.proofs.Shown.{place_shown}
use Rattle.rt_text.specs.Cursors.{place_of_stamp, stamp_at}

-- from the end on there is none
pub none_there : {T : Type 0} (cells : List (Cell T)) (limits : Limits) (stretch : Stretch) (place : ℕ) → stretch ≡ stretch_of cells limits → stretch.end - stretch.begin ≤ place → None ≡ stamp_at limits place cells
none_there {T} cells limits stretch place is past =
    let past_it : nat_lt place (stretch.end - stretch.begin) ≡ false = grind (arith, nat_tests, past) in
    sym (
    ap (λ (s : Stretch). cond (nat_lt place (s.end - s.begin)) (option_map (λ (c : Cell T). c.stamp) (slice_get (visible_of cells) (s.begin + place))) None) (sym is)
    ∙ ap (λ b. cond b (option_map (λ (c : Cell T). c.stamp) (slice_get (visible_of cells) (stretch.begin + place))) None) past_it
    )

module _ {S T : Type 0} (f : S → T) (kept : List (Cell S)) (cells : List (Cell T)) (limits : Limits) (stretch : Stretch)
    (shown : map (map_state f) kept ≡ cells) (is : stretch ≡ stretch_of cells limits) where
  pub stamp_there : (place : ℕ) (cell : Cell S) → place < stretch.end - stretch.begin → slice_get (visible_of kept) (stretch.begin + place) ≡ Some cell → Some cell.stamp ≡ stamp_at limits place cells
  stamp_there place cell lt found =
      let within : nat_lt place (stretch.end - stretch.begin) ≡ true = grind (arith, nat_tests, lt) in
      let at = stretch.begin + place in
      sym (
      ap (λ (s : Stretch). cond (nat_lt place (s.end - s.begin)) (option_map (λ (c : Cell T). c.stamp) (slice_get (visible_of cells) (s.begin + place))) None) (sym is)
      ∙ ap (λ b. cond b (option_map (λ (c : Cell T). c.stamp) (slice_get (visible_of cells) at)) None) within
      ∙ ap (λ (cs : List (Cell T)). option_map (λ (c : Cell T). c.stamp) (slice_get (visible_of cs) at)) (sym shown)
      ∙ ap (option_map (λ (c : Cell T). c.stamp)) (visible_at_shown f kept at)
      ∙ ap (λ o. option_map (λ (c : Cell T). c.stamp) (option_map (map_state f) o)) found
      )

  pub place_there : (stamp : Stamp) → option_map (seen_place stretch) (place_of kept stamp) ≡ place_of_stamp limits stamp cells
  place_there stamp =
      ap (λ (s : Stretch). option_map (seen_place s) (place_of kept stamp)) is
      ∙ ap (option_map (seen_place (stretch_of cells limits))) (sym (place_shown f kept stamp) ∙ ap (λ (cs : List (Cell T)). place_of cs stamp) shown)
