-- Removed characters with states of one's own table, one more at the end.
use Rattle.std.proofs.Common.{◌≡◌, ◌∙◌, ℕ, ◌+◌, ◌<◌, ◌++◌, List, [], ◌∷◌, map, take, length, get_or, ap, sym, subst}
use Rattle.std.proofs.lemmas.List.{map-append, map_more}
use Rattle.rt_stamps.specs.declared.stamp.Stamp.{Stamp}
use Rattle.rt_store.specs.declared.cell.Cell.{Cell}
use Rattle.rt_store.specs.Shown.{shown}
use Rattle.rt_tags.specs.States.{IsState, KeepsIds, TagStates, names_on, state_at}
use Rattle.rt_tags.proofs.Sorted.{every_append}
use Rattle.rt_undo.specs.Actions.{Removed}
use Rattle.rt_revert.specs.declared.copying.Alike.{Alike}
use Rattle.rt_revert.specs.Keeping.{AreAlike}
use Rattle.rt_revert.specs.Reverting.{as_removed}
use Rattle.rt_recording.specs.Naming.{RemovedAreGiven, named_removed}
use Rattle.rt_recording.proofs.Named.{removed_kept, removed_stay}

abbrev one : Stamp → ℕ → Removed ℕ
one stamp state = record { stamp = stamp; tags = state }

-- one cell more
pub cell_more : (states t u : TagStates) (old new : List (Removed ℕ)) (cells : List (Cell ℕ)) (i : ℕ) (cell : Cell ℕ) (alike : Alike)
    → i < length cells → cell ≡ get_or cells i cell → KeepsIds t u → alike.theirs ≡ cell.state → AreAlike states u alike → RemovedAreGiven t old
    → new ≡ old ++ one cell.stamp alike.own ∷ [] → map (named_removed t) old ≡ map as_removed (map (shown states) (take i cells))
    → map (named_removed u) new ≡ map as_removed (map (shown states) (take (i + 1) cells))
cell_more states t u old new cells i cell alike l is k theirs same given e before =
    ap (map (named_removed u)) e
    ∙ map-append (named_removed u) old (one cell.stamp alike.own ∷ [])
    ∙ (λ j. (removed_kept t u k old given ∙ before) j ++ record { stamp = cell.stamp; tags = (same.names ∙ ap (λ s. names_on (state_at states s)) theirs) j } ∷ [])
    ∙ (λ j. map as_removed (map (shown states) (take i cells)) ++ as_removed (shown states (is j)) ∷ [])
    ∙ sym (map-append as_removed (map (shown states) (take i cells)) (shown states (get_or cells i cell) ∷ []))
    ∙ ap (map as_removed) (sym (map_more (shown states) cells i cell l))

pub given_more : (states t u : TagStates) (old new : List (Removed ℕ)) (stamp : Stamp) (alike : Alike) → KeepsIds t u → AreAlike states u alike → RemovedAreGiven t old
    → new ≡ old ++ one stamp alike.own ∷ [] → RemovedAreGiven u new
given_more states t u old new stamp alike k same given e =
    subst (RemovedAreGiven u) (sym e) (every_append (λ r. IsState u r.tags) old (one stamp alike.own ∷ []) (removed_stay t u k old given) (same.given, tt))
