-- The words of `edit`, and what they ask for (Tk text manual, "edit" and "THE UNDO MECHANISM").
use Rattle.std.specs.Prelude.{List, [], ◌∷◌, option_map, ok_or, Result, Ok, Err, codes, if◌then◌else◌}
use Rattle.std.specs.Str.{bytes_eq}
use Rattle.rt_stamps.specs.declared.fault.Fault.{Fault}
use Rattle.rt_stamps.specs.declared.fault.Fault.TheVariants.{BadCommand, BadOption}
use Rattle.rt_stamps.specs.Words.{Word}
use Rattle.rt_requests.specs.declared.request.EditRequest.{EditRequest}
use Rattle.rt_requests.specs.declared.request.EditRequest.TheVariants as edits
use Rattle.rt_requests.specs.Truth.{truth_of}

-- what is asked of the undo mechanism, or why it is refused
abbrev pub AskedOfEdits : Type 0
AskedOfEdits = Result EditRequest Fault

-- a request of no further word
abbrev pub alone : EditRequest → List Word → AskedOfEdits
alone request [] = Ok request
alone request (word ∷ words) = Err BadCommand

-- `edit modified ?BOOLEAN?`
abbrev pub asked_modified : List Word → AskedOfEdits
asked_modified [] = Ok edits.Modified
asked_modified (word ∷ []) = ok_or (option_map edits.SetModified (truth_of word)) BadOption
asked_modified (word ∷ more ∷ words) = Err BadCommand

-- `edit WHAT ?WORD ...?`
abbrev pub asked_of_edits : Word → List Word → AskedOfEdits
asked_of_edits what words =
    if bytes_eq what (codes "undo") then alone edits.Undo words
    else if bytes_eq what (codes "redo") then alone edits.Redo words
    else if bytes_eq what (codes "separator") then alone edits.Separator words
    else if bytes_eq what (codes "reset") then alone edits.Reset words
    else if bytes_eq what (codes "canundo") then alone edits.CanUndo words
    else if bytes_eq what (codes "canredo") then alone edits.CanRedo words
    else if bytes_eq what (codes "modified") then asked_modified words
    else Err BadCommand
