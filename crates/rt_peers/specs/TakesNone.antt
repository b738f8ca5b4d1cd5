-- Requests that take no memory: none of them is refused for want of it.
use Rattle.std.specs.Prelude.{◌≡◌, Bool, true, false, IfErr, Result, Err}
use Rattle.rt_requests.specs.declared.request.EditRequest.{EditRequest}
use Rattle.rt_requests.specs.declared.request.EditRequest.TheVariants as edits
use Rattle.rt_requests.specs.declared.request.MarkRequest.{MarkRequest}
use Rattle.rt_requests.specs.declared.request.MarkRequest.TheVariants as marks
use Rattle.rt_requests.specs.declared.request.Request.{Request}
use Rattle.rt_requests.specs.declared.request.Request.TheVariants as requests
use Rattle.rt_requests.specs.declared.request.TagRequest.{TagRequest}
use Rattle.rt_requests.specs.declared.request.TagRequest.TheVariants as tags
use Rattle.rt_stamps.specs.declared.fault.Fault.{Fault}

-- a call is refused only as its outcome is, and not for want of memory
abbrev pub IsRefusedAs : {S R : Type 0} → Result S Fault → Result R Fault → Type 0
IsRefusedAs outcome result = IfErr result (λ fault. outcome ≡ Err fault)

-- of marks: to unset some, and to set the gravity of one
abbrev pub mark_takes_none : MarkRequest → Bool
mark_takes_none (marks.Unset names) = true
mark_takes_none (marks.SetGravity name gravity) = true
mark_takes_none request = false

-- of tags: to raise one, and to lower one
abbrev pub tag_takes_none : TagRequest → Bool
tag_takes_none (tags.Raise name above) = true
tag_takes_none (tags.Lower name below) = true
tag_takes_none request = false

-- of the undo mechanism: a separator, to empty its stacks, and to say that the text is modified
abbrev pub edit_takes_none : EditRequest → Bool
edit_takes_none edits.Separator = true
edit_takes_none edits.Reset = true
edit_takes_none (edits.SetModified on) = on
edit_takes_none request = false

-- of a widget: these, and to set options
abbrev pub takes_none : Request → Bool
takes_none (requests.Mark request) = mark_takes_none request
takes_none (requests.Tag request) = tag_takes_none request
takes_none (requests.Edit request) = edit_takes_none request
takes_none (requests.Configure settings) = true
takes_none request = false
