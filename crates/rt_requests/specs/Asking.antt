-- Which words ask a widget for what, and else the fault (Tk text manual): first an unknown command or a wrong number of words,
-- BadCommand, then an unknown operator, switch, gravity, option or value, BadOption, then a list of tags that spells no words, BadQuoting,
-- or a path that no widget can have, BadName.
use Rattle.std.specs.Prelude.{◌≡◌, ◌⊎◌, List, [], ◌∷◌, take, drop, false, Option, Some, None, IsTrue, option_map, ok_or, Result, Ok, Err, MatchBool, codes, if◌then◌else◌}
use Rattle.std.specs.List.{prefix_len}
use Rattle.std.specs.Str.{bytes_eq}
use Rattle.rt_stamps.specs.declared.fault.Fault.{Fault}
use Rattle.rt_stamps.specs.declared.fault.Fault.TheVariants.{BadCommand, BadOption, BadQuoting}
use Rattle.rt_stamps.specs.Words.{Word}
use Rattle.rt_words.specs.Spelling.{SpellsList}
use Rattle.rt_requests.specs.declared.request.Request.{Request}
use Rattle.rt_requests.specs.declared.request.Request.TheVariants.{Insert, Delete, Replace, Get, Index, Compare, Count, Search, Dump, Mark, Tag, Edit, Configure, Cget, Peer}
use Rattle.rt_requests.specs.EditWords.{asked_of_edits}
use Rattle.rt_requests.specs.MarkWords.{asked_of_marks}
use Rattle.rt_requests.specs.Parts.{TaggedTextValue, TextsValue, of_several}
use Rattle.rt_requests.specs.PeerWords.{CanBeAskedOfPeers, asked_of_peers}
use Rattle.rt_requests.specs.SearchWords.{asked_of_search}
use Rattle.rt_requests.specs.SettingWords.{SettingsFit, asked_named_option, asked_settings, sets_some}
use Rattle.rt_index.specs.Comparisons.{comparison_of}
use Rattle.rt_requests.specs.Switches.{is_switch, kinds_of, measures_of, shows_some}
use Rattle.rt_requests.specs.TagWords.{asked_of_tags}

-- what words ask for, or why they are refused
abbrev pub Asked : Type 0
Asked = Result Request Fault

-- TEXTS WITH TAGS

-- words are texts with their lists of tags, in pairs, and then a text without a list, which is empty where there is no such word
abbrev pub AreTexts : List Word → List TaggedTextValue → Word → Type 0
AreTexts [] pieces rest = (pieces ≡ []) × (rest ≡ [])
AreTexts (text ∷ []) pieces rest = (pieces ≡ []) × (rest ≡ text)
AreTexts (text ∷ list ∷ words) [] rest = ⊥
AreTexts (text ∷ list ∷ words) (piece ∷ pieces) rest = (piece.text ≡ text) × SpellsList list piece.tags × AreTexts words pieces rest

-- one of their lists spells no words
abbrev pub AreNoTexts : List Word → Type 0
AreNoTexts words = (pieces : List TaggedTextValue) (rest : Word) → AreTexts words pieces rest → ⊥

-- a request of words that are texts, or else are badly quoted
abbrev pub AsksTexts : (TextsValue → Request) → List Word → Asked → Type 0
AsksTexts request words asked =
    ((texts : TextsValue) × AreTexts words texts.pieces texts.rest × (asked ≡ Ok (request texts)))
    ⊎ (AreNoTexts words × (asked ≡ Err BadQuoting))

-- `insert INDEX CHARS ?TAGLIST CHARS TAGLIST ...?`
abbrev pub AsksInsert : List Word → Asked → Type 0
AsksInsert (index ∷ text ∷ words) asked = AsksTexts (Insert index) (text ∷ words) asked
AsksInsert [] asked = asked ≡ Err BadCommand
AsksInsert (index ∷ []) asked = asked ≡ Err BadCommand

-- `replace INDEX1 INDEX2 CHARS ?TAGLIST CHARS TAGLIST ...?`
abbrev pub AsksReplace : List Word → Asked → Type 0
AsksReplace (from ∷ to ∷ text ∷ words) asked = AsksTexts (Replace from to) (text ∷ words) asked
AsksReplace [] asked = asked ≡ Err BadCommand
AsksReplace (from ∷ []) asked = asked ≡ Err BadCommand
AsksReplace (from ∷ to ∷ []) asked = asked ≡ Err BadCommand

-- READING

-- `index INDEX`
abbrev pub asked_index : List Word → Asked
asked_index (index ∷ []) = Ok (Index index)
asked_index [] = Err BadCommand
asked_index (index ∷ more ∷ words) = Err BadCommand

-- `compare INDEX OPERATOR INDEX`
abbrev pub asked_compare : List Word → Asked
asked_compare (first ∷ operator ∷ second ∷ []) = ok_or (option_map (λ comparison. Compare first comparison second) (comparison_of operator)) BadOption
asked_compare [] = Err BadCommand
asked_compare (first ∷ []) = Err BadCommand
asked_compare (first ∷ operator ∷ []) = Err BadCommand
asked_compare (first ∷ operator ∷ second ∷ more ∷ words) = Err BadCommand

-- the switches and indices of `count`
abbrev pub asked_distances : List Word → List Word → Asked
asked_distances switches (from ∷ to ∷ []) = ok_or (option_map (λ measures. Count measures from to) (measures_of switches)) BadOption
asked_distances switches [] = Err BadCommand
asked_distances switches (from ∷ []) = Err BadCommand
asked_distances switches (from ∷ to ∷ more ∷ words) = Err BadCommand

-- `count ?SWITCH ...? INDEX INDEX`: the words up to the first that is no switch are switches, the others indices
abbrev pub asked_count : List Word → Asked
asked_count words = let switches = prefix_len is_switch words in asked_distances (take switches words) (drop switches words)

-- a dump from an index on, of the kinds that switches name
abbrev pub asked_from : List Word → Word → Option Word → Asked
asked_from switches from to = ok_or (option_map (λ kinds. Dump kinds from to) (kinds_of switches)) BadOption

-- the switches and indices of `dump`
abbrev pub asked_elements : List Word → List Word → Asked
asked_elements switches (from ∷ []) = asked_from switches from None
asked_elements switches (from ∷ to ∷ []) = asked_from switches from (Some to)
asked_elements switches [] = Err BadCommand
asked_elements switches (from ∷ to ∷ more ∷ words) = Err BadCommand

-- `dump ?SWITCH ...? INDEX ?INDEX?`: the words up to the first that is no switch are switches, the others indices
abbrev pub asked_dump : List Word → Asked
asked_dump words = let switches = prefix_len is_switch words in asked_elements (take switches words) (drop switches words)

-- COMMANDS

-- what is asked of a part of the widget, as a request
abbrev pub as_request : {T : Type 0} → (T → Request) → Result T Fault → Asked
as_request request (Ok asked) = Ok (request asked)
as_request request (Err fault) = Err fault

-- `mark WHAT ?WORD ...?`
abbrev pub asked_mark : List Word → Asked
asked_mark [] = Err BadCommand
asked_mark (what ∷ words) = as_request Mark (asked_of_marks what words)

-- `tag WHAT ?WORD ...?`
abbrev pub asked_tag : List Word → Asked
asked_tag [] = Err BadCommand
asked_tag (what ∷ words) = as_request Tag (asked_of_tags what words)

-- `edit WHAT ?WORD ...?`
abbrev pub asked_edit : List Word → Asked
asked_edit [] = Err BadCommand
asked_edit (what ∷ words) = as_request Edit (asked_of_edits what words)

-- the commands that have no lists of tags
abbrev pub asked_of : Word → List Word → Asked
asked_of name words =
    if bytes_eq name (codes "delete") then of_several Delete words
    else if bytes_eq name (codes "get") then of_several Get words
    else if bytes_eq name (codes "index") then asked_index words
    else if bytes_eq name (codes "compare") then asked_compare words
    else if bytes_eq name (codes "count") then asked_count words
    else if bytes_eq name (codes "search") then as_request Search (asked_of_search words)
    else if bytes_eq name (codes "dump") then asked_dump words
    else if bytes_eq name (codes "mark") then asked_mark words
    else if bytes_eq name (codes "tag") then asked_tag words
    else if bytes_eq name (codes "edit") then asked_edit words
    else if bytes_eq name (codes "configure") then as_request Configure (asked_settings words)
    else if bytes_eq name (codes "cget") then as_request Cget (asked_named_option words)
    else if bytes_eq name (codes "peer") then as_request Peer (asked_of_peers words)
    else Err BadCommand

-- a command by its name
abbrev pub AsksOf : Word → List Word → Asked → Type 0
AsksOf name words asked =
    MatchBool (bytes_eq name (codes "insert")) (AsksInsert words asked)
    (MatchBool (bytes_eq name (codes "replace")) (AsksReplace words asked) (asked ≡ asked_of name words))

-- COMMAND WORDS: what they ask for, or why they are refused
abbrev pub Asks : List Word → Asked → Type 0
Asks [] asked = asked ≡ Err BadCommand
Asks (name ∷ words) asked = AsksOf name words asked

-- What can be asked for: neither a count nor a dump from an index that begins with a minus, since such a word is read as a
-- switch; nor a dump of no kind of elements, since that without switches is one of all kinds; nor settings of no option, since
-- `configure` names one at least, or of a line by a number of more than 64 bits, or of 2^63 groups or more; nor a widget of a path
-- that none can have.
abbrev pub CanBeAsked : Request → Type 0
CanBeAsked (Count measures from to) = is_switch from ≡ false
CanBeAsked (Dump kinds from to) = IsTrue (shows_some kinds) × (is_switch from ≡ false)
CanBeAsked (Insert index texts) = Unit {0}
CanBeAsked (Delete indices) = Unit {0}
CanBeAsked (Replace from to texts) = Unit {0}
CanBeAsked (Get indices) = Unit {0}
CanBeAsked (Index index) = Unit {0}
CanBeAsked (Compare first comparison second) = Unit {0}
CanBeAsked (Search request) = Unit {0}
CanBeAsked (Mark request) = Unit {0}
CanBeAsked (Tag request) = Unit {0}
CanBeAsked (Edit request) = Unit {0}
CanBeAsked (Configure settings) = IsTrue (sets_some settings) × SettingsFit settings
CanBeAsked (Cget option) = Unit {0}
CanBeAsked (Peer request) = CanBeAskedOfPeers request
