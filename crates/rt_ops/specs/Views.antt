-- Operations, seen where they are kept.
use Rattle.rt_stamps.specs.Words.{as_words}
use Rattle.rt_ops.specs.declared.view.EditView.{EditView}
use Rattle.rt_ops.specs.declared.view.EditView.TheVariants as edits
use Rattle.rt_ops.specs.declared.view.OpView.{OpView}
use Rattle.rt_ops.specs.Operations.{Body, Insert, Delete, Tag, Operation}

abbrev pub body_in : EditView → Body
body_in (edits.Insert after tags text) = Insert after (as_words tags.now) text.now
body_in (edits.Delete spans) = Delete spans.now
body_in (edits.Tag on name spans) = Tag on name.now spans.now

abbrev pub operation_in : OpView → Operation
operation_in view = record { count = view.stamp.count; site = view.stamp.site; prev = view.prev; body = body_in view.edit }
