-- What a request to a widget does to the text as that widget shows it: the reply and the text after it, or why it is refused. Which
-- words ask for what stands in rt_requests (`Asks`). What is asked of its peers, the site answers (`PeerStep`, `SiteStep`).
use Rattle.std.specs.Prelude.{◌&&◌, [], map, flat_map, Bool, is_some, Ok, Err, if◌then◌else◌}
use Rattle.std.specs.Fmt.{signed_decimal}
use Rattle.rt_stamps.specs.Places.{text_of_position}
use Rattle.rt_stamps.specs.declared.fault.Fault.TheVariants.{BadCommand}
use Rattle.rt_requests.specs.declared.request.EditRequest.{EditRequest}
use Rattle.rt_requests.specs.declared.request.EditRequest.TheVariants as edits
use Rattle.rt_requests.specs.declared.request.Request.{Request}
use Rattle.rt_requests.specs.declared.request.Request.TheVariants.{Insert, Delete, Get, Index, Compare, Count, Search, Replace, Dump, Mark, Tag, Edit, Configure, Cget, Peer}
use Rattle.rt_requests.specs.Parts.{all_of}
use Rattle.rt_tagcmd.specs.Dumping.{dumped}
use Rattle.rt_recording.specs.EditedValue.{EditedValue}
use Rattle.rt_recording.specs.Edits.{text_deleted, text_inserted, text_replaced}
use Rattle.rt_recording.specs.Reverts.{text_redone, text_undone}
use Rattle.rt_tagcmd.specs.SearchCommand.{searched}
use Rattle.rt_text.specs.Commands.{position_of_index, compared, counted}
use Rattle.rt_text.specs.Widgets.{ViewValue}
use Rattle.rt_undo.specs.Undo.{emptied, forced_on, is_modified, next_redo, next_undo, separated, unmodified}
use Rattle.rt_peers.specs.Options.{option_step, settings_step}
use Rattle.rt_peers.specs.ViewStep.{Outcome, as_outcome, as_piece, changed_step, element_words, get_step, mark_step, one_word, tag_step, text_of_bool, told_step}

-- what a request does to what the widget shows, as one to the text: the history of its edits stays
abbrev pub on_view : EditedValue → Outcome ViewValue → Outcome EditedValue
on_view text = as_outcome (λ answer. (answer.0, record text { view = answer.1 }))

-- whether edits are recorded and there is a group to undo, or one to redo (Tk text manual, "edit canundo", "edit canredo"; that `-undo`
-- counts is by Tk's code)
abbrev pub can_undo : EditedValue → Bool
can_undo text = text.undo && is_some (next_undo text.history)

abbrev pub can_redo : EditedValue → Bool
can_redo text = text.undo && is_some (next_redo text.history)

-- what is asked of the undo mechanism
abbrev pub edit_step : EditedValue → EditRequest → Outcome EditedValue
edit_step text edits.Undo = changed_step (text_undone text)
edit_step text edits.Redo = changed_step (text_redone text)
edit_step text edits.Separator = Ok ([], record text { history = separated text.history })
edit_step text edits.Reset = Ok ([], record text { history = emptied text.history })
edit_step text edits.CanUndo = Ok (one_word (text_of_bool (can_undo text)), text)
edit_step text edits.CanRedo = Ok (one_word (text_of_bool (can_redo text)), text)
edit_step text edits.Modified = Ok (one_word (text_of_bool (is_modified text.history)), text)
edit_step text (edits.SetModified on) = Ok ([], record text { history = if on then forced_on text.history else unmodified text.history })

-- what is asked of a widget; a text by itself has no peers
abbrev pub step : EditedValue → Request → Outcome EditedValue
step text (Insert index texts) = changed_step (text_inserted text index (map as_piece texts.pieces) texts.rest)
step text (Delete indices) = changed_step (text_deleted text (all_of indices))
step text (Replace from to texts) = changed_step (text_replaced text from to (map as_piece texts.pieces) texts.rest)
step text (Get indices) = on_view text (get_step text.view (all_of indices))
step text (Index index) = on_view text (told_step (λ position. one_word (text_of_position position)) text.view (position_of_index text.view index))
step text (Compare first comparison second) =
    on_view text (told_step (λ holds. one_word (text_of_bool holds)) text.view (compared text.view first comparison second))
step text (Count measures from to) = on_view text (told_step (map signed_decimal) text.view (counted text.view measures from to))
step text (Search request) = on_view text (told_step (map text_of_position) text.view (searched text.view request))
step text (Dump kinds from to) = on_view text (told_step (flat_map element_words) text.view (dumped text.view kinds from to))
step text (Mark request) = on_view text (mark_step text.view request)
step text (Tag request) = on_view text (tag_step text.view request)
step text (Edit request) = edit_step text request
step text (Configure settings) = settings_step text settings
step text (Cget option) = option_step text option
-- a text by itself has no peers: a widget that is asked by its path has the site answer (`widget_step`), one that is asked by its number
-- answers so (`step_by`)
step text (Peer request) = Err BadCommand
