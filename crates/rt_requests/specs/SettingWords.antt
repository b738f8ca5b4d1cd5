-- The words of `configure` and `cget`, and what they ask for (Tk text manual, "WIDGET-SPECIFIC OPTIONS"): the options that all
-- widgets of a site share, and the limits of what one widget shows.
use Rattle.std.specs.Prelude.{◌≡◌, ℕ, ◌<◌, ◌^◌, ◌&&◌, ◌||◌, not, Bool, true, false, List, [], ◌∷◌, Option, Some, None, is_some, option_map, unwrap_or, ok_or, Result, Ok, Err, codes, if◌then◌else◌}
use Rattle.std.specs.Option.{option_or}
use Rattle.std.specs.Str.{bytes_eq}
use Rattle.rt_stamps.specs.declared.fault.Fault.{Fault}
use Rattle.rt_stamps.specs.declared.fault.Fault.TheVariants.{BadCommand, BadOption}
use Rattle.rt_stamps.specs.Words.{Word}
use Rattle.rt_requests.specs.declared.options.WidgetOption.TheVariants.{Undo, AutoSeparators}
use Rattle.rt_requests.specs.OptionWords.{are_pairs, option_of, settings_of}
use Rattle.rt_requests.specs.Truth.{truth_of}
use Rattle.rt_requests.specs.declared.limits.Limit.{Limit}
use Rattle.rt_requests.specs.declared.limits.Limit.TheVariants.{Absent, Line, PastEveryLine}
use Rattle.rt_requests.specs.declared.options.NamedOption.{NamedOption}
use Rattle.rt_requests.specs.declared.options.NamedOption.TheVariants.{Shared, MaxUndo, StartLine, EndLine}
use Rattle.rt_requests.specs.declared.settings.WidgetSettings.{WidgetSettings}
use Rattle.rt_requests.specs.LimitWords.{limit_of}
use Rattle.rt_requests.specs.MaxUndoWords.{max_undo_of}

-- OPTIONS

-- the option that a word names
abbrev pub named_option : Word → Option NamedOption
named_option word =
    if bytes_eq word (codes "-startline") then Some StartLine
    else if bytes_eq word (codes "-endline") then Some EndLine
    else if bytes_eq word (codes "-maxundo") then Some MaxUndo
    else option_map Shared (option_of word)

-- the words behind `cget`: OPTION
abbrev pub asked_named_option : List Word → Result NamedOption Fault
asked_named_option (word ∷ []) = ok_or (named_option word) BadOption
asked_named_option [] = Err BadCommand
asked_named_option (word ∷ more ∷ words) = Err BadCommand

-- SETTINGS

-- what pairs of options and values ask for, or why they are refused
abbrev pub AskedOfSettings : Type 0
AskedOfSettings = Result WidgetSettings Fault

-- an option that is on or off has a word for yes or no, -maxundo a number that may have a minus in front, a limit of what is shown the
-- empty word or digits
abbrev pub can_have : Word → NamedOption → Bool
can_have value (Shared option) = is_some (truth_of value)
can_have value MaxUndo = is_some (max_undo_of value)
can_have value StartLine = is_some (limit_of value)
can_have value EndLine = is_some (limit_of value)

-- a word names an option, and it can have the value
abbrev pub can_be_given : Word → Word → Bool
can_be_given word value = unwrap_or (option_map (can_have value) (named_option word)) false

-- each of the options, in pairs with their values
abbrev pub can_all_be_set : List Word → Bool
can_all_be_set [] = true
can_all_be_set (option ∷ []) = true
can_all_be_set (option ∷ value ∷ words) = can_be_given option value && can_all_be_set words

-- the limit that an option is given; of several values the last one counts
abbrev pub limit_in : Word → List Word → Option Limit
limit_in option [] = None
limit_in option (word ∷ []) = None
limit_in option (word ∷ value ∷ words) = option_or (limit_in option words) (if bytes_eq word option then limit_of value else None)

-- what pairs set
abbrev pub settings_in : List Word → WidgetSettings
settings_in words = record { shared = settings_of words; start_line = limit_in (codes "-startline") words; end_line = limit_in (codes "-endline") words }

-- settings with a value of one more option, where it can have that
abbrev pub with_value : WidgetSettings → NamedOption → Word → Option WidgetSettings
with_value settings (Shared Undo) value = option_map (λ truth. record settings { shared = record settings.shared { undo = Some truth } }) (truth_of value)
with_value settings (Shared AutoSeparators) value =
    option_map (λ truth. record settings { shared = record settings.shared { auto_separators = Some truth } }) (truth_of value)
with_value settings MaxUndo value = option_map (λ most. record settings { shared = record settings.shared { max_undo = Some most } }) (max_undo_of value)
with_value settings StartLine value = option_map (λ limit. record settings { start_line = Some limit }) (limit_of value)
with_value settings EndLine value = option_map (λ limit. record settings { end_line = Some limit }) (limit_of value)

-- ?OPTION VALUE ...?
abbrev pub asked_of_pairs : List Word → AskedOfSettings
asked_of_pairs words =
    if not (are_pairs words) then Err BadCommand
    else if can_all_be_set words then Ok (settings_in words)
    else Err BadOption

-- the words behind `configure`: OPTION VALUE ?OPTION VALUE ...?
abbrev pub asked_settings : List Word → AskedOfSettings
asked_settings [] = Err BadCommand
asked_settings (option ∷ words) = asked_of_pairs (option ∷ words)

-- WHAT CAN BE ASKED

-- a number of a line has 64 bits
abbrev pub LimitFits : Option Limit → Type 0
LimitFits None = Unit {0}
LimitFits (Some Absent) = Unit {0}
LimitFits (Some (Line number)) = number < 2 ^ 64
LimitFits (Some PastEveryLine) = Unit {0}

-- a number of groups is below 2^63
abbrev pub IsMaxUndo : Option ℕ → Type 0
IsMaxUndo None = Unit {0}
IsMaxUndo (Some most) = most < 2 ^ 63

abbrev pub SettingsFit : WidgetSettings → Type 0
SettingsFit settings = LimitFits settings.start_line × LimitFits settings.end_line × IsMaxUndo settings.shared.max_undo

-- something is set
abbrev pub sets_some : WidgetSettings → Bool
sets_some settings =
    is_some settings.shared.undo || is_some settings.shared.auto_separators || is_some settings.shared.max_undo
    || is_some settings.start_line || is_some settings.end_line

-- WITHOUT LIMITS

-- an option of some pairs is a limit of what the widget shows
abbrev pub names_limit : List Word → Bool
names_limit [] = false
names_limit (word ∷ []) = false
names_limit (word ∷ value ∷ words) = bytes_eq word (codes "-startline") || bytes_eq word (codes "-endline") || names_limit words

-- words that name no such limit set none
abbrev pub LimitsAreNamed : Type 0
LimitsAreNamed =
    (words : List Word) (settings : WidgetSettings) → names_limit words ≡ false → asked_settings words ≡ Ok settings
    → (settings.start_line ≡ None) × (settings.end_line ≡ None)
