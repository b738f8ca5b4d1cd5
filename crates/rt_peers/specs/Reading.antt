-- Which requests only read, and what is replied to one.
use Rattle.std.specs.Prelude.{ℕ, Bool, true, false}
use Rattle.rt_stamps.specs.Words.{Word}
use Rattle.rt_requests.specs.declared.request.EditRequest.{EditRequest}
use Rattle.rt_requests.specs.declared.request.EditRequest.TheVariants as edits
use Rattle.rt_requests.specs.declared.request.MarkRequest.{MarkRequest}
use Rattle.rt_requests.specs.declared.request.MarkRequest.TheVariants as marks
use Rattle.rt_requests.specs.declared.request.Request.{Request}
use Rattle.rt_requests.specs.declared.request.Request.TheVariants as requests
use Rattle.rt_requests.specs.declared.request.TagRequest.{TagRequest}
use Rattle.rt_requests.specs.declared.request.TagRequest.TheVariants as tags
use Rattle.rt_recording.specs.EditedValue.{EditedValue}
use Rattle.rt_text.specs.Widgets.{view_as}
use Rattle.rt_peers.specs.SiteStep.{at_widget}
use Rattle.rt_peers.specs.SiteValue.{SiteValue, number_of_path}
use Rattle.rt_peers.specs.Step.{step}
use Rattle.rt_peers.specs.ViewStep.{Outcome, as_outcome}

-- of marks: all but to set and to unset them, and to set their gravity
abbrev pub mark_reads : MarkRequest → Bool
mark_reads (marks.Set name index) = false
mark_reads (marks.Unset names) = false
mark_reads (marks.SetGravity name gravity) = false
mark_reads (marks.Gravity name) = true
mark_reads marks.Names = true
mark_reads (marks.Next word) = true
mark_reads (marks.Previous word) = true

-- of tags: which there are, and where they are
abbrev pub tag_reads : TagRequest → Bool
tag_reads (tags.Add name indices) = false
tag_reads (tags.Remove name indices) = false
tag_reads (tags.Delete names) = false
tag_reads (tags.Raise name above) = false
tag_reads (tags.Lower name below) = false
tag_reads tags.Names = true
tag_reads (tags.NamesAt index) = true
tag_reads (tags.Ranges name) = true
tag_reads (tags.NextRange name from to) = true
tag_reads (tags.PreviousRange name to from) = true

-- of the undo mechanism: whether there is something to undo or to redo, and the modified flag
abbrev pub edit_reads : EditRequest → Bool
edit_reads edits.CanUndo = true
edit_reads edits.CanRedo = true
edit_reads edits.Modified = true
edit_reads edits.Undo = false
edit_reads edits.Redo = false
edit_reads edits.Separator = false
edit_reads edits.Reset = false
edit_reads (edits.SetModified on) = false

-- of a widget, but for its peers, whose paths the site tells
abbrev pub reads : Request → Bool
reads (requests.Get indices) = true
reads (requests.Index index) = true
reads (requests.Compare first comparison second) = true
reads (requests.Count measures from to) = true
reads (requests.Search request) = true
reads (requests.Dump kinds from to) = true
reads (requests.Mark request) = mark_reads request
reads (requests.Tag request) = tag_reads request
reads (requests.Edit request) = edit_reads request
reads (requests.Cget option) = true
reads (requests.Insert index texts) = false
reads (requests.Delete indices) = false
reads (requests.Replace from to texts) = false
reads (requests.Configure settings) = false
reads (requests.Peer request) = false

-- the text with the widget of a number in the place of the one that commands, to be read
abbrev pub text_as : ℕ → EditedValue → EditedValue
text_as number text = record text { view = view_as number text.view }

-- what is replied of the text as the widget of a path shows it, by a site that stays as it is
abbrev pub told_at : Word → SiteValue → Request → Outcome SiteValue
told_at path state request =
    at_widget (number_of_path path state.paths) (λ number. as_outcome (λ answer. (answer.0, state)) (step (text_as number state.text) request))
