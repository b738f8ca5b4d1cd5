-- The words of `mark`, and what they ask for (Tk text manual, "mark").
use Rattle.std.specs.Prelude.{List, [], ◌∷◌, option_map, ok_or, Result, Ok, Err, codes, if◌then◌else◌}
use Rattle.std.specs.Str.{bytes_eq}
use Rattle.rt_marks.specs.Marks.{gravity_of}
use Rattle.rt_stamps.specs.declared.fault.Fault.{Fault}
use Rattle.rt_stamps.specs.declared.fault.Fault.TheVariants.{BadCommand, BadOption}
use Rattle.rt_stamps.specs.Words.{Word}
use Rattle.rt_requests.specs.declared.request.MarkRequest.{MarkRequest}
use Rattle.rt_requests.specs.declared.request.MarkRequest.TheVariants as marks
use Rattle.rt_requests.specs.Parts.{of_one, of_several}

-- what is asked of marks, or why it is refused
abbrev pub AskedOfMarks : Type 0
AskedOfMarks = Result MarkRequest Fault

-- `mark set NAME INDEX`
abbrev pub asked_mark_set : List Word → AskedOfMarks
asked_mark_set (name ∷ index ∷ []) = Ok (marks.Set name index)
asked_mark_set [] = Err BadCommand
asked_mark_set (name ∷ []) = Err BadCommand
asked_mark_set (name ∷ index ∷ more ∷ words) = Err BadCommand

-- `mark gravity NAME ?GRAVITY?`
abbrev pub asked_gravity : List Word → AskedOfMarks
asked_gravity (name ∷ []) = Ok (marks.Gravity name)
asked_gravity (name ∷ word ∷ []) = ok_or (option_map (marks.SetGravity name) (gravity_of word)) BadOption
asked_gravity [] = Err BadCommand
asked_gravity (name ∷ word ∷ more ∷ words) = Err BadCommand

-- `mark names`
abbrev pub asked_mark_names : List Word → AskedOfMarks
asked_mark_names [] = Ok marks.Names
asked_mark_names (word ∷ words) = Err BadCommand

-- `mark WHAT ?WORD ...?`
abbrev pub asked_of_marks : Word → List Word → AskedOfMarks
asked_of_marks what words =
    if bytes_eq what (codes "set") then asked_mark_set words
    else if bytes_eq what (codes "unset") then of_several marks.Unset words
    else if bytes_eq what (codes "gravity") then asked_gravity words
    else if bytes_eq what (codes "names") then asked_mark_names words
    else if bytes_eq what (codes "next") then of_one marks.Next words
    else if bytes_eq what (codes "previous") then of_one marks.Previous words
    else Err BadCommand
