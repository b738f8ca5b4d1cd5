-- Truth as a word tells it.
use Rattle.std.specs.Prelude.{Bool, true, false, [], ◌∷◌, Option, Some, None, codes, if◌then◌else◌}
use Rattle.std.specs.List.{list_any}
use Rattle.std.specs.Str.{bytes_eq}
use Rattle.rt_stamps.specs.Words.{Word}

abbrev pub is_yes : Word → Bool
is_yes word = list_any (λ name. bytes_eq word name) (codes "1" ∷ codes "true" ∷ codes "yes" ∷ codes "on" ∷ [])

abbrev pub is_no : Word → Bool
is_no word = list_any (λ name. bytes_eq word name) (codes "0" ∷ codes "false" ∷ codes "no" ∷ codes "off" ∷ [])

-- a word for yes is true, one for no is false, and another tells nothing
abbrev pub truth_of : Word → Option Bool
truth_of word =
    if is_yes word then Some true
    else if is_no word then Some false
    else None
