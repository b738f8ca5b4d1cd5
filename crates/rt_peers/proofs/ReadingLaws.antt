-- A request that only reads leaves the site as it was, and speaks of the text as its widget shows it.
use Rattle.std.proofs.Common.{◌≡◌, ◌∙◌, ℕ, true, List, [], ◌∷◌, Option, Some, None, Ok, Err, Result, ap, map, flat_map, refl, sym}
use Rattle.std.specs.Fmt.{signed_decimal}
use Rattle.rt_marks.specs.Marks.{gravity_word}
use Rattle.rt_stamps.specs.declared.fault.Fault.{Fault}
use Rattle.rt_stamps.specs.Outcomes.{Answers}
use Rattle.rt_stamps.specs.Places.{text_of_position}
use Rattle.rt_stamps.specs.Words.{Word}
use Rattle.rt_requests.specs.declared.options.NamedOption.{NamedOption}
use Rattle.rt_requests.specs.declared.options.NamedOption.TheVariants.{Shared, MaxUndo, StartLine, EndLine}
use Rattle.rt_requests.specs.declared.options.WidgetOption.TheVariants.{Undo, AutoSeparators}
use Rattle.rt_requests.specs.declared.request.EditRequest.{EditRequest}
use Rattle.rt_requests.specs.declared.request.EditRequest.TheVariants as edits
use Rattle.rt_requests.specs.declared.request.MarkRequest.{MarkRequest}
use Rattle.rt_requests.specs.declared.request.MarkRequest.TheVariants as marks
use Rattle.rt_requests.specs.declared.request.Request.{Request}
use Rattle.rt_requests.specs.declared.request.Request.TheVariants as requests
use Rattle.rt_requests.specs.declared.request.TagRequest.{TagRequest}
use Rattle.rt_requests.specs.declared.request.TagRequest.TheVariants as tags
use Rattle.rt_requests.specs.Parts.{all_of}
use Rattle.rt_tagcmd.specs.Dumping.{dumped}
use Rattle.rt_tagcmd.specs.MarkCommands.{mark_gravity, mark_names, mark_next, mark_previous}
use Rattle.rt_tagcmd.specs.SearchCommand.{searched}
use Rattle.rt_tagcmd.specs.TagCommands.{tag_names, tag_names_at, tag_nextrange, tag_prevrange, tag_ranges}
use Rattle.rt_text.specs.Commands.{compared, counted, got, got_list, got_one, position_of_index}
use Rattle.rt_text.specs.Widgets.{view_as}
use Rattle.rt_recording.specs.EditedValue.{EditedValue}
use Rattle.rt_peers.specs.Options.{option_step}
use Rattle.rt_peers.specs.Reading.{mark_reads, reads, tag_reads, edit_reads, text_as, told_at}
use Rattle.rt_peers.specs.SiteStep.{at_widget, by_widget, step_at, widget_step}
use Rattle.rt_peers.specs.SiteValue.{SiteValue, number_of_path}
use Rattle.rt_peers.specs.Step.{edit_step, on_view, step}
use Rattle.rt_peers.specs.ViewStep.{Outcome, as_outcome, element_words, get_step, mark_step, one_word, tag_step, told_step, word_or_none}
use Rattle.rt_peers.proofs.PeerLaws.{text_back}

-- what is replied by the widget of a number, and by a site that stays as it is
abbrev told : SiteValue → Outcome EditedValue → Outcome SiteValue
told state outcome = as_outcome (λ answer. (answer.0, state)) outcome

-- a reply beside a text that is left as it was
replied : (number : ℕ) (state : SiteValue) (words : List Word) → by_widget number state (λ text. Ok (words, text)) ≡ Ok (words, state)
replied number state words = ap (λ (text : EditedValue). Ok (words, record state { text = text })) (text_back state.text number)

-- a value of what a widget shows, by its words
value_told : {T : Type 0} (number : ℕ) (state : SiteValue) (words : T → List Word) (value : Result T Fault)
    → by_widget number state (λ text. on_view text (told_step words text.view value)) ≡ told state (on_view (text_as number state.text) (told_step words (view_as number state.text.view) value))
value_told number state words (Ok value) = replied number state (words value)
value_told number state words (Err fault) = refl

get_told : (number : ℕ) (state : SiteValue) (indices : List Word)
    → by_widget number state (λ text. on_view text (get_step text.view indices)) ≡ told state (on_view (text_as number state.text) (get_step (view_as number state.text.view) indices))
get_told number state [] = value_told number state (λ texts. texts) (got_list (view_as number state.text.view) [])
get_told number state (index ∷ []) = value_told number state one_word (got_one (view_as number state.text.view) index)
get_told number state (from ∷ to ∷ []) = value_told number state one_word (got (view_as number state.text.view) from to)
get_told number state (from ∷ to ∷ more ∷ indices) =
    value_told number state (λ texts. texts) (got_list (view_as number state.text.view) (from ∷ to ∷ more ∷ indices))

mark_told : (number : ℕ) (state : SiteValue) (request : MarkRequest) → mark_reads request ≡ true
    → by_widget number state (λ text. on_view text (mark_step text.view request)) ≡ told state (on_view (text_as number state.text) (mark_step (view_as number state.text.view) request))
mark_told number state (marks.Set name index) h = absurd (cc h)
mark_told number state (marks.Unset names) h = absurd (cc h)
mark_told number state (marks.SetGravity name gravity) h = absurd (cc h)
mark_told number state (marks.Gravity name) h =
    value_told number state (λ gravity. one_word (gravity_word gravity)) (mark_gravity (view_as number state.text.view) name)
mark_told number state marks.Names h = replied number state (mark_names (view_as number state.text.view))
mark_told number state (marks.Next word) h = value_told number state word_or_none (mark_next (view_as number state.text.view) word)
mark_told number state (marks.Previous word) h = value_told number state word_or_none (mark_previous (view_as number state.text.view) word)

tag_told : (number : ℕ) (state : SiteValue) (request : TagRequest) → tag_reads request ≡ true
    → by_widget number state (λ text. on_view text (tag_step text.view request)) ≡ told state (on_view (text_as number state.text) (tag_step (view_as number state.text.view) request))
tag_told number state (tags.Add name indices) h = absurd (cc h)
tag_told number state (tags.Remove name indices) h = absurd (cc h)
tag_told number state (tags.Delete names) h = absurd (cc h)
tag_told number state (tags.Raise name above) h = absurd (cc h)
tag_told number state (tags.Lower name below) h = absurd (cc h)
tag_told number state tags.Names h = replied number state (tag_names (view_as number state.text.view))
tag_told number state (tags.NamesAt index) h = value_told number state (λ names. names) (tag_names_at (view_as number state.text.view) index)
tag_told number state (tags.Ranges name) h = value_told number state (map text_of_position) (tag_ranges (view_as number state.text.view) name)
tag_told number state (tags.NextRange name from to) h =
    value_told number state (map text_of_position) (tag_nextrange (view_as number state.text.view) name from to)
tag_told number state (tags.PreviousRange name to from) h =
    value_told number state (map text_of_position) (tag_prevrange (view_as number state.text.view) name to from)

edit_told : (number : ℕ) (state : SiteValue) (request : EditRequest) → edit_reads request ≡ true
    → by_widget number state (λ text. edit_step text request) ≡ told state (edit_step (text_as number state.text) request)
edit_told number state edits.Undo h = absurd (cc h)
edit_told number state edits.Redo h = absurd (cc h)
edit_told number state edits.Separator h = absurd (cc h)
edit_told number state edits.Reset h = absurd (cc h)
edit_told number state (edits.SetModified on) h = absurd (cc h)
edit_told number state edits.CanUndo h = replied number state _
edit_told number state edits.CanRedo h = replied number state _
edit_told number state edits.Modified h = replied number state _

option_told : (number : ℕ) (state : SiteValue) (option : NamedOption)
    → by_widget number state (λ text. option_step text option) ≡ told state (option_step (text_as number state.text) option)
option_told number state (Shared Undo) = replied number state _
option_told number state (Shared AutoSeparators) = replied number state _
option_told number state MaxUndo = replied number state _
option_told number state StartLine = replied number state _
option_told number state EndLine = replied number state _

request_told : (path : Word) (number : ℕ) (state : SiteValue) (request : Request) → reads request ≡ true
    → widget_step path number state request ≡ told state (step (text_as number state.text) request)
request_told path number state (requests.Insert index texts) h = absurd (cc h)
request_told path number state (requests.Delete indices) h = absurd (cc h)
request_told path number state (requests.Replace from to texts) h = absurd (cc h)
request_told path number state (requests.Configure settings) h = absurd (cc h)
request_told path number state (requests.Peer request) h = absurd (cc h)
request_told path number state (requests.Get indices) h = get_told number state (all_of indices)
request_told path number state (requests.Index index) h =
    value_told number state (λ position. one_word (text_of_position position)) (position_of_index (view_as number state.text.view) index)
request_told path number state (requests.Compare first comparison second) h =
    value_told number state _ (compared (view_as number state.text.view) first comparison second)
request_told path number state (requests.Count measures from to) h =
    value_told number state (map signed_decimal) (counted (view_as number state.text.view) measures from to)
request_told path number state (requests.Search request) h =
    value_told number state (map text_of_position) (searched (view_as number state.text.view) request)
request_told path number state (requests.Dump kinds from to) h =
    value_told number state (flat_map element_words) (dumped (view_as number state.text.view) kinds from to)
request_told path number state (requests.Mark request) h = mark_told number state request h
request_told path number state (requests.Tag request) h = tag_told number state request h
request_told path number state (requests.Edit request) h = edit_told number state request h
request_told path number state (requests.Cget option) h = option_told number state option

-- where there is such a widget
pub reads_told : (path : Word) (request : Request) (state : SiteValue) → reads request ≡ true → step_at path state request ≡ told_at path state request
reads_told path request state h = by (number_of_path path state.paths)
  where
    by : (o : Option ℕ) → at_widget o (λ number. widget_step path number state request) ≡ at_widget o (λ number. told state (step (text_as number state.text) request))
    by None = refl
    by (Some number) = request_told path number state request h

abbrev state_in : Outcome SiteValue → SiteValue → SiteValue
state_in (Ok answer) none = answer.1
state_in (Err fault) none = none

stays : (state mid : SiteValue) (outcome : Outcome EditedValue) (words : List Word) → told state outcome ≡ Ok (words, mid) → mid ≡ state
stays state mid (Ok answer) words h = sym (ap (λ o. state_in o state) h)
stays state mid (Err fault) words h = absurd (cc h)

stays_at : (state mid : SiteValue) (o : Option ℕ) (outcome : ℕ → Outcome EditedValue) (words : List Word) → at_widget o (λ number. told state (outcome number)) ≡ Ok (words, mid) → mid ≡ state
stays_at state mid None outcome words h = absurd (cc h)
stays_at state mid (Some number) outcome words h = stays state mid (outcome number) words h

-- and so it is left by the call
pub told_leaves : (path : Word) (request : Request) (old mid : SiteValue) (result : Result (List Word) Fault) → reads request ≡ true
    → Answers (step_at path old request) old result mid → mid ≡ old
told_leaves path request old mid (Ok words) r h =
    stays_at old mid (number_of_path path old.paths) (λ number. step (text_as number old.text) request) words (sym (reads_told path request old r) ∙ h)
told_leaves path request old mid (Err fault) r h = h.0
