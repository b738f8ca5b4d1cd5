-- The code's `Edit`, as a body.
use Rattle.std.specs.Prelude.{string_bytes}
use Rattle.rt_stamps.specs.Words.{as_words}
use Rattle.rt_ops.specs.declared.op.Edit.{Edit}
use Rattle.rt_ops.specs.declared.op.Edit.TheVariants as edits
use Rattle.rt_ops.specs.Operations.{Body, Insert, Delete, Tag}

abbrev pub body_of : Edit → Body
body_of (edits.Insert after tags text) = Insert after (as_words tags.items) text
body_of (edits.Delete spans) = Delete spans.items
body_of (edits.Tag on name spans) = Tag on (string_bytes name) spans.items
