-- The words of `tag`, and what they ask for (Tk text manual, "tag").
use Rattle.std.specs.Prelude.{List, [], ◌∷◌, Option, Some, None, Result, Ok, Err, codes, if◌then◌else◌}
use Rattle.std.specs.Str.{bytes_eq}
use Rattle.rt_stamps.specs.declared.fault.Fault.{Fault}
use Rattle.rt_stamps.specs.declared.fault.Fault.TheVariants.{BadCommand}
use Rattle.rt_stamps.specs.Words.{Word}
use Rattle.rt_requests.specs.declared.request.TagRequest.{TagRequest}
use Rattle.rt_requests.specs.declared.request.TagRequest.TheVariants as tags
use Rattle.rt_requests.specs.Parts.{Several, of_one, of_several}

-- what is asked of tags, or why it is refused
abbrev pub AskedOfTags : Type 0
AskedOfTags = Result TagRequest Fault

-- `tag add NAME INDEX ?INDEX ...?` and `tag remove`
abbrev pub asked_tagging : (Word → Several → TagRequest) → List Word → AskedOfTags
asked_tagging request (name ∷ indices) = of_several (request name) indices
asked_tagging request [] = Err BadCommand

-- `tag raise NAME ?ABOVE?` and `tag lower NAME ?BELOW?`
abbrev pub asked_order : (Word → Option Word → TagRequest) → List Word → AskedOfTags
asked_order request (name ∷ []) = Ok (request name None)
asked_order request (name ∷ other ∷ []) = Ok (request name (Some other))
asked_order request [] = Err BadCommand
asked_order request (name ∷ other ∷ more ∷ words) = Err BadCommand

-- `tag names ?INDEX?`
abbrev pub asked_tag_names : List Word → AskedOfTags
asked_tag_names [] = Ok tags.Names
asked_tag_names (index ∷ []) = Ok (tags.NamesAt index)
asked_tag_names (index ∷ more ∷ words) = Err BadCommand

-- `tag nextrange NAME INDEX ?INDEX?` and `tag prevrange`
abbrev pub asked_range : (Word → Word → Option Word → TagRequest) → List Word → AskedOfTags
asked_range request (name ∷ index ∷ []) = Ok (request name index None)
asked_range request (name ∷ index ∷ other ∷ []) = Ok (request name index (Some other))
asked_range request [] = Err BadCommand
asked_range request (name ∷ []) = Err BadCommand
asked_range request (name ∷ index ∷ other ∷ more ∷ words) = Err BadCommand

-- `tag WHAT ?WORD ...?`
abbrev pub asked_of_tags : Word → List Word → AskedOfTags
asked_of_tags what words =
    if bytes_eq what (codes "add") then asked_tagging tags.Add words
    else if bytes_eq what (codes "remove") then asked_tagging tags.Remove words
    else if bytes_eq what (codes "delete") then of_several tags.Delete words
    else if bytes_eq what (codes "raise") then asked_order tags.Raise words
    else if bytes_eq what (codes "lower") then asked_order tags.Lower words
    else if bytes_eq what (codes "names") then asked_tag_names words
    else if bytes_eq what (codes "ranges") then of_one tags.Ranges words
    else if bytes_eq what (codes "nextrange") then asked_range tags.NextRange words
    else if bytes_eq what (codes "prevrange") then asked_range tags.PreviousRange words
    else Err BadCommand
