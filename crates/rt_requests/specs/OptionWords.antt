-- The options that all widgets of a site share, as words (Tk text manual, "WIDGET-SPECIFIC OPTIONS", -undo, -autoseparators and
-- -maxundo).
use Rattle.std.specs.Prelude.{ℕ, Bool, true, false, List, [], ◌∷◌, Option, Some, None, codes, if◌then◌else◌}
use Rattle.std.specs.Option.{option_or}
use Rattle.std.specs.Str.{bytes_eq}
use Rattle.rt_stamps.specs.Words.{Word}
use Rattle.rt_requests.specs.declared.options.Settings.{Settings}
use Rattle.rt_requests.specs.declared.options.WidgetOption.{WidgetOption}
use Rattle.rt_requests.specs.declared.options.WidgetOption.TheVariants.{Undo, AutoSeparators}
use Rattle.rt_requests.specs.MaxUndoWords.{max_undo_of}
use Rattle.rt_requests.specs.Truth.{truth_of}

-- OPTIONS

-- an option that is on or off, as it is written
abbrev pub option_word : WidgetOption → Word
option_word Undo = codes "-undo"
option_word AutoSeparators = codes "-autoseparators"

-- the one that a word names
abbrev pub option_of : Word → Option WidgetOption
option_of word =
    if bytes_eq word (codes "-undo") then Some Undo
    else if bytes_eq word (codes "-autoseparators") then Some AutoSeparators
    else None

-- SETTINGS

-- options with their values, in pairs
abbrev pub are_pairs : List Word → Bool
are_pairs [] = true
are_pairs (option ∷ []) = false
are_pairs (option ∷ value ∷ words) = are_pairs words

-- whether an option is given yes or no; of several values the last one counts
abbrev pub truth_given : WidgetOption → List Word → Option Bool
truth_given option [] = None
truth_given option (word ∷ []) = None
truth_given option (word ∷ value ∷ words) = option_or (truth_given option words) (if bytes_eq word (option_word option) then truth_of value else None)

-- the most groups that the undo stack is given; of several values the last one counts
abbrev pub max_undo_in : List Word → Option ℕ
max_undo_in [] = None
max_undo_in (word ∷ []) = None
max_undo_in (word ∷ value ∷ words) = option_or (max_undo_in words) (if bytes_eq word (codes "-maxundo") then max_undo_of value else None)

-- what pairs set
abbrev pub settings_of : List Word → Settings
settings_of words = record { undo = truth_given Undo words; auto_separators = truth_given AutoSeparators words; max_undo = max_undo_in words }
