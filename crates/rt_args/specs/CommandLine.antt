-- The command line of peertext, as clap reads it: `peertext run --site N [--log F] [--out F] [FILE..]`, `peertext join A B OUT`
-- and `peertext show FILE`.
use Rattle.std.specs.Prelude.{◌≡◌, ◌⊎◌, ℕ, List, [], ◌∷◌, ◌++◌, Bool, true, false, not, ⊤, if◌then◌else◌}
use Rattle.std.specs.Prelude.{IfOk, None, Option, Result, Some, codes, option_map, string_bytes, unwrap_or}
use Rattle.std.specs.declared.alloc.AllocError.{AllocError}
use Rattle.std.specs.declared.io.ErrorKind.{ErrorKind as ReadKind}
use Rattle.std.specs.declared.io.ErrorKind.TheVariants as read
use Rattle.std.specs.Str.Parse.{digits_value, without_leading_plus}
use Rattle.clap.specs.ValueTests.{is_unsigned_in}
use Rattle.clap.specs.Words.{App, IsAmong, Row, Rule, Text, all_of, app_of, fault_of, first_of, kind_of, new_app, new_rule, one_of, rule_of, subcommand_of, with_rule, with_subcommand}
use Rattle.clap.specs.declared.builder.Arg.{Arg}
use Rattle.clap.specs.declared.builder.Command.{Command}
use Rattle.clap.specs.declared.builder.Command.TheViews.{out-Command as fields_of}
use Rattle.clap.specs.declared.builder.ArgAction.TheVariants.{Append}
use Rattle.clap.specs.declared.builder.ValueParser.TheVariants.{Unsigned}
use Rattle.clap.specs.declared.error.Error.{Error}
use Rattle.clap.specs.declared.error.ErrorKind.{ErrorKind}
use Rattle.clap.specs.declared.error.ErrorKind.TheVariants.{DisplayHelp, DisplayVersion, OutOfMemory}
use Rattle.rt_stamps.specs.Fault.{fault_text}
use Rattle.rt_stamps.specs.declared.fault.Fault.TheVariants as fault
use Rattle.rt_stamps.specs.declared.limits.TheConstants.{GREATEST_SITE}
use Rattle.rt_stamps.specs.Words.{as_words}
use Rattle.rt_args.specs.declared.command_line.Line.{Line}
use Rattle.rt_args.specs.declared.command_line.Line.TheVariants.{Run, Join, Show}
use Rattle.rt_args.specs.declared.command_line.LineFault.{LineFault}
use Rattle.rt_args.specs.declared.command_line.LineFault.TheVariants.{Usage, NoText, NoMemory}

-- `--site N`, which is required: a number from 1 to the greatest one of a site
abbrev pub site_option : Rule
site_option = record (new_rule (codes "site")) {
  long = Some (codes "site");
  value_names = 1;
  required = true;
  parser = Some (Unsigned 1 GREATEST_SITE);
}

-- `--log F` or `--out F`, which may be left out: the path of a file
abbrev pub path_option : Text → Rule
path_option name = record (new_rule name) {
  long = Some name;
  value_names = 1;
}

-- any number of words without an option before them
abbrev pub files_word : Rule
files_word = record (new_rule (codes "FILE")) {
  action = Some Append;
  value_names = 1;
}

-- `run --site N` with its options
abbrev pub run_options : App
run_options = with_rule (with_rule (with_rule (new_app (codes "run")) site_option) (path_option (codes "log"))) (path_option (codes "out"))

-- `run --site N [--log F] [--out F] [FILE..]`
abbrev pub run_command : App
run_command = with_rule run_options files_word

-- a program that wants a subcommand, and shows its help and its version by options alone
abbrev pub program : App
program =
    let plain = new_app (codes "peertext") in
    record plain {
      top = record plain.top {
        has_version = true;
        disable_help_subcommand = true;
        subcommand_required = true;
      };
    }

-- a word without an option before it, which is required
abbrev pub file_word : Text → Rule
file_word name = record (new_rule name) {
  value_names = 1;
  required = true;
}

-- `join A B OUT`
abbrev pub join_command : App
join_command = with_rule (with_rule (with_rule (new_app (codes "join")) (file_word (codes "A"))) (file_word (codes "B"))) (file_word (codes "OUT"))

-- `show FILE`
abbrev pub show_command : App
show_command = with_rule (new_app (codes "show")) (file_word (codes "FILE"))

-- `peertext run`, `peertext join` and `peertext show`
abbrev pub peertext : App
peertext = with_subcommand (with_subcommand (with_subcommand program run_command.top) join_command.top) show_command.top

-- the number that `--site` was given
abbrev pub site_given : List Row → Option ℕ
site_given rows = option_map (λ text. digits_value 10 (without_leading_plus text)) (one_of (codes "site") rows)

-- the name that was given for a file, if one was
abbrev pub file_given : Text → List Row → Option Text
file_given name rows = first_of name rows

-- the names that were given for any number of files, in the order of the words
abbrev pub files_given : Text → List Row → List Text
files_given name rows = unwrap_or (all_of name rows) []

-- the subcommand of a line
abbrev pub subcommand_name : Line → Text
subcommand_name (Run site log out files) = codes "run"
subcommand_name (Join a b out) = codes "join"
subcommand_name (Show file) = codes "show"

-- a line has what the subcommand was given
abbrev pub HasValues : List Row → Line → Type 0
HasValues rows (Run site log out files) =
    (site_given rows ≡ Some site.number)
    × (file_given (codes "log") rows ≡ option_map string_bytes log) × (file_given (codes "out") rows ≡ option_map string_bytes out)
    × (files_given (codes "FILE") rows ≡ as_words files.items)
HasValues rows (Join a b out) =
    (file_given (codes "A") rows ≡ Some (string_bytes a)) × (file_given (codes "B") rows ≡ Some (string_bytes b))
    × (file_given (codes "OUT") rows ≡ Some (string_bytes out))
HasValues rows (Show file) = file_given (codes "FILE") rows ≡ Some (string_bytes file)

-- A line says what a subcommand is, and what it was given.
abbrev pub LineIn : Option (Text × List Row) → Line → Type 0
LineIn found line = (rows : List Row) × (found ≡ Some (subcommand_name line, rows)) × HasValues rows line

-- A line says what the words do: the subcommand that they name, and what they give it.
abbrev pub LineOf : List Text → Line → Type 0
LineOf words line = LineIn (subcommand_of peertext words) line

-- What a subcommand is given where clap takes the words.

-- a number of a site
abbrev pub HasSite : List Row → Type 0
HasSite rows = (text : Text) × (one_of (codes "site") rows ≡ Some text) × (is_unsigned_in 1 GREATEST_SITE text ≡ true)

-- the name of a file
abbrev pub HasFile : Text → List Row → Type 0
HasFile name rows = (text : Text) × (file_given name rows ≡ Some text)

-- one of the subcommands, with all that it wants
abbrev pub IsWhole : Option (Text × List Row) → Type 0
IsWhole found = (rows : List Row) × (
    ((found ≡ Some (codes "run", rows)) × HasSite rows)
    ⊎ (((found ≡ Some (codes "join", rows)) × HasFile (codes "A") rows × HasFile (codes "B") rows × HasFile (codes "OUT") rows)
    ⊎ ((found ≡ Some (codes "show", rows)) × HasFile (codes "FILE") rows)))

-- clap takes the words: no step of its reading fails
abbrev pub TakesLine : List Text → Type 0
TakesLine words = fault_of peertext words ≡ []

-- Clap's error is of a kind with which its reading of the words fails. Memory may be wanting whatever the words are. Words
-- that were read are text.
abbrev pub RefusesLine : List Text → LineFault → Type 0
RefusesLine words (Usage error) = IsAmong (kind_of error) (fault_of peertext words)
RefusesLine words NoText = ⊥
RefusesLine words NoMemory = ⊤

-- an argument has this rule, and is not global
abbrev pub IsOption : Rule → Arg → Type 0
IsOption rule arg = (rule_of arg ≡ rule) × (arg.global ≡ false)

-- a command is read as this one, and has nothing global
abbrev pub IsCommand : App → Command → Type 0
IsCommand app command = (app_of command ≡ app) × ((fields_of command).has_globals ≡ false)

-- a command that was made, where there was memory for it, is read as this one
abbrev pub IsMade : App → Result Command AllocError → Type 0
IsMade app made = IfOk made (IsCommand app)

abbrev pub is_out_of_memory : ErrorKind → Bool
is_out_of_memory OutOfMemory = true
is_out_of_memory _ = false

-- clap's error, or want of memory where that is what clap met
abbrev pub fault_from : Error → LineFault
fault_from error = if is_out_of_memory (kind_of error) then NoMemory else Usage error

-- the system's words were not read: for want of memory, or since one of them is no text
abbrev pub unread : ReadKind → LineFault
unread read.OutOfMemory = NoMemory
unread kind = NoText

-- help and the version are shown: all other errors are mistakes
abbrev pub is_shown : ErrorKind → Bool
is_shown DisplayHelp = true
is_shown DisplayVersion = true
is_shown _ = false

-- the text of a mistake, or of want of memory, goes to standard error, and what was asked for to standard output
abbrev pub is_mistake : LineFault → Bool
is_mistake (Usage error) = not (is_shown (kind_of error))
is_mistake NoText = true
is_mistake NoMemory = true

-- the status with which the program ends: 1 for want of memory, wherever it comes
abbrev pub line_status : LineFault → ℕ
line_status (Usage error) = if is_shown (kind_of error) then 0 else 2
line_status NoText = 2
line_status NoMemory = 1

-- the text for the user: clap's own, which its contract leaves open, that of words that are no text, or that of want of memory
abbrev pub text_of_fault : LineFault → Option Text
text_of_fault (Usage error) = None
text_of_fault NoText = Some (codes "peertext: a word of the command line is no text" ++ (10 ∷ []))
text_of_fault NoMemory = Some (codes "peertext: " ++ (fault_text fault.NoMemory ++ (10 ∷ [])))
