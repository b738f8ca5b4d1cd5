use Rattle.std.proofs.Common.{◌≡◌, ◌≤◌, ◌++◌, drop, map, length, All}
use Rattle.rt_stamps.specs.Outcomes.{first_of}
use Rattle.rt_stamps.specs.Words.{as_words}
use Rattle.rt_text.specs.Index.{index_check, place_at_index}
use Rattle.rt_text.proofs.range.places_of.Given as goal

abbrev pub invariant-loop-index : goal.invariant-loop-index
invariant-loop-index g l =
    let w = g.G.Ground.widget l.ground in
    record {
      same : l.places.items ++ map (place_at_index w) (as_words (drop l.index-index l.indices)) ≡ map (place_at_index w) (as_words l.indices);
      checked : first_of (map (index_check w) (as_words (drop l.index-index l.indices))) ≡ first_of (map (index_check w) (as_words l.indices));
      within : All (λ place. place ≤ length w.text) l.places.items;
    }
