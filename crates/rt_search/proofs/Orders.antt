-- The places of a stretch in the order of a search.
use Rattle.std.proofs.Common.{◌≡◌, ◌+◌, ◌-◌, ◌<◌, ℕ, length, get_or, arith, ◌∙◌}
use Rattle.std.specs.List.{range_with_len}
use Rattle.std.proofs.lemmas.List.{get_or-reverse, length-reverse}
use Rattle.std.proofs.lemmas.List.FromFn.{length-range_with_len, get_or-range_with_len}
use Rattle.rt_search.specs.declared.search.Direction.{Direction}
use Rattle.rt_search.specs.declared.search.Direction.TheVariants.{Forwards, Backwards}
use Rattle.rt_lines.specs.declared.stretch.Stretch.{Stretch}
use Rattle.rt_search.specs.Searches.{ordered_places}

pub forwards_at : (s : Stretch) (k d : ℕ) → k < s.end - s.begin → get_or (ordered_places Forwards s) k d ≡ s.begin + k
forwards_at s k d h = get_or-range_with_len s.begin (s.end - s.begin) k d h

pub backwards_at : (s : Stretch) (k d : ℕ) → k < s.end - s.begin → get_or (ordered_places Backwards s) k d ≡ s.end - 1 - k
backwards_at s k d h =
    let places = range_with_len s.begin (s.end - s.begin) in
    let many : length places ≡ s.end - s.begin = length-range_with_len s.begin (s.end - s.begin) in
    let within : k < length places = omega arith in
    let there : length places - 1 - k < s.end - s.begin = omega arith in
    get_or-reverse places k d within
    ∙ get_or-range_with_len s.begin (s.end - s.begin) (length places - 1 - k) d there
    ∙ omega arith

pub length_ordered : (direction : Direction) (s : Stretch) → length (ordered_places direction s) ≡ s.end - s.begin
length_ordered Forwards s = length-range_with_len s.begin (s.end - s.begin)
length_ordered Backwards s = length-reverse (range_with_len s.begin (s.end - s.begin)) ∙ length-range_with_len s.begin (s.end - s.begin)
