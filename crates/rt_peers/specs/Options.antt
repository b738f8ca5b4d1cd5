-- The options of a widget (Tk text manual, "WIDGET-SPECIFIC OPTIONS"): those that all widgets of a site share, and the limits of
-- what this one shows. What sets them, and what they tell.
use Rattle.std.specs.Prelude.{ℕ, ◌-◌, ◌^◌, List, [], Bool, Option, Some, None, unwrap_or, Result, Ok, Err}
use Rattle.std.specs.Fmt.{decimal}
use Rattle.rt_stamps.specs.declared.fault.Fault.{Fault}
use Rattle.rt_stamps.specs.Words.{Word}
use Rattle.rt_requests.specs.declared.options.Settings.{Settings}
use Rattle.rt_requests.specs.declared.limits.Limit.{Limit}
use Rattle.rt_requests.specs.declared.limits.Limit.TheVariants as limits
use Rattle.rt_requests.specs.declared.options.NamedOption.{NamedOption}
use Rattle.rt_requests.specs.declared.options.NamedOption.TheVariants.{Shared, MaxUndo, StartLine, EndLine}
use Rattle.rt_requests.specs.declared.options.WidgetOption.{WidgetOption}
use Rattle.rt_requests.specs.declared.options.WidgetOption.TheVariants.{Undo, AutoSeparators}
use Rattle.rt_requests.specs.declared.settings.WidgetSettings.{WidgetSettings}
use Rattle.rt_recording.specs.EditedValue.{EditedValue}
use Rattle.rt_text.specs.Limited.{view_limited}
use Rattle.rt_text.specs.Widgets.{ViewValue}
use Rattle.rt_lines.specs.declared.choice.Choice.{Choice}
use Rattle.rt_lines.specs.declared.choice.Choice.TheVariants.{Kept, Away, Line}
use Rattle.rt_lines.specs.Limits.{end_number, start_number}
use Rattle.rt_undo.specs.Undo.{UndoHistory, with_most}
use Rattle.rt_peers.specs.ViewStep.{Outcome, changed_step, one_word, text_of_bool}

-- SETTING

-- the line that a limit asks for; one whose number isn't kept is that of the greatest number that is, which no text has either
abbrev pub choice_of : Option Limit → Choice
choice_of None = Kept
choice_of (Some limits.Absent) = Away
choice_of (Some (limits.Line number)) = Line number
choice_of (Some limits.PastEveryLine) = Line (2 ^ 64 - 1)

-- a history whose undo stack has at most so many groups, where their number is given
abbrev pub bounded : Option ℕ → UndoHistory (List Word) → UndoHistory (List Word)
bounded None history = history
bounded (Some most) history = with_most most history

-- shared options that are given a value; the others stay
abbrev pub configured : EditedValue → Settings → EditedValue
configured text settings = record text {
  history = bounded settings.max_undo text.history;
  undo = unwrap_or settings.undo text.undo;
  auto = unwrap_or settings.auto_separators text.auto;
}

-- where what a widget shows can be set, the shared options are set too
abbrev pub text_configured : EditedValue → Settings → Result ViewValue Fault → Result EditedValue Fault
text_configured text settings (Ok view) = Ok (record (configured text settings) { view = view })
text_configured text settings (Err fault) = Err fault

-- configure OPTION VALUE ?OPTION VALUE ...?
abbrev pub text_set : EditedValue → WidgetSettings → Result EditedValue Fault
text_set text settings = text_configured text settings.shared (view_limited text.view (choice_of settings.start_line) (choice_of settings.end_line))

abbrev pub settings_step : EditedValue → WidgetSettings → Outcome EditedValue
settings_step text settings = changed_step (text_set text settings)

-- TELLING

-- what a shared option that is on or off is set to
abbrev pub option_value : EditedValue → WidgetOption → Bool
option_value text Undo = text.undo
option_value text AutoSeparators = text.auto

-- a number of a line, and the empty word without one
abbrev pub number_word : Option ℕ → Word
number_word None = []
number_word (Some number) = decimal number

-- what an option is set to: -maxundo to the most groups that the undo stack may have, a limit to the line that it stands at
abbrev pub option_value_word : EditedValue → NamedOption → Word
option_value_word text (Shared option) = text_of_bool (option_value text option)
option_value_word text MaxUndo = decimal text.history.most
option_value_word text StartLine = number_word (start_number text.view.doc.cells text.view.own.limits)
option_value_word text EndLine = number_word (end_number text.view.doc.cells text.view.own.limits)

-- cget OPTION
abbrev pub option_step : EditedValue → NamedOption → Outcome EditedValue
option_step text option = Ok (one_word (option_value_word text option), text)
