-- The lines of changes, as they are said.
use Rattle.std.specs.Prelude.{List, ℕ, [], ◌∷◌, ◌++◌, codes, encode_utf8_all, flat_map, map, if◌then◌else◌}
use Rattle.std.specs.Fmt.{decimal}
use Rattle.rt_words.specs.Writing.{text_of_word}
use Rattle.rt_files.specs.Shown.{spaced}
use Rattle.rt_changes.specs.declared.change.ToldChange.{ToldChange}
use Rattle.rt_changes.specs.Replays.{Deleted, Inserted, Tagged, VisibleChange}
use Rattle.rt_changes.specs.Telling.{changes_in}

-- what a change does, and to which places, or with which text and tags
abbrev pub change_line : VisibleChange → List ℕ
change_line (Inserted at text tags) =
    codes "insert" ++ (spaced (decimal at ∷ text_of_word (encode_utf8_all text) ∷ map text_of_word tags) ++ (10 ∷ []))
change_line (Deleted from to) = codes "delete" ++ (spaced (decimal from ∷ decimal to ∷ []) ++ (10 ∷ []))
change_line (Tagged on name from to) =
    (if on then codes "tag" else codes "untag") ++ (spaced (text_of_word name ∷ decimal from ∷ decimal to ∷ []) ++ (10 ∷ []))

-- what an operation changed, a line for each change
abbrev pub change_lines : ToldChange → List ℕ
change_lines told = flat_map change_line (changes_in told)
