use Rattle.std.proofs.Common.{refl}
use Rattle.std.proofs.Math.Utf8.{encode}
use Rattle.rt_ops.specs.File.{number, stamp_bytes, span_bytes, spans_bytes, tags_bytes}
use Rattle.rt_ops.proofs.examples.records.Goals as goal

pub returns-clause-insert : goal.returns-clause-insert
unfolding number stamp_bytes tags_bytes encode
returns-clause-insert c = refl

pub returns-clause-delete : goal.returns-clause-delete
unfolding number stamp_bytes span_bytes spans_bytes
returns-clause-delete c = refl

pub returns-clause-tag : goal.returns-clause-tag
unfolding number stamp_bytes span_bytes spans_bytes
returns-clause-tag c = refl

pub returns-clause-insert_of_two : goal.returns-clause-insert_of_two
unfolding number stamp_bytes tags_bytes encode
returns-clause-insert_of_two c = refl

pub returns-clause-wide_site : goal.returns-clause-wide_site
unfolding number stamp_bytes tags_bytes encode
returns-clause-wide_site c = refl
