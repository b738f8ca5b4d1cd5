-- The rules of an operation's names, tags, text and spans.
use Rattle.std.specs.Prelude.{ℕ, ◌&&◌, not, nat_le, Bool, List, length, Result, Ok, Err, if◌then◌else◌}
use Rattle.std.specs.List.{list_all}
use Rattle.std.specs.Str.{bytes_eq, is_utf8, all_scalars}
use Rattle.std.specs.Ordering.{is_lt}
use Rattle.rt_stamps.specs.declared.stamp.Span.{Span}
pub use Rattle.rt_stamps.specs.Spans.{each_next, is_span, is_clear_of}
use Rattle.rt_stamps.specs.Names.{is_name_length, name_order, sel}
use Rattle.rt_stamps.specs.declared.limits.TheConstants.{MOST_TAGS, MOST_CHARACTERS, MOST_SPANS}
use Rattle.rt_stamps.specs.declared.fault.Fault.{Fault}
use Rattle.rt_stamps.specs.declared.fault.Fault.TheVariants.{BadRecord}
use Rattle.rt_ops.specs.Operations.{Name, Body, Insert, Delete, Tag, Operation}

-- from the one number up to the other
abbrev pub is_within : ℕ → ℕ → ℕ → Bool
is_within least most n = nat_le least n && nat_le n most

-- as long as a name may be, UTF-8, and not `sel`, the tag that is each widget's own
abbrev pub is_name : Name → Bool
is_name name = is_utf8 name && (is_name_length (length name) && not (bytes_eq name sel))

-- lesser by bytes
abbrev pub is_lesser_name : Name → Name → Bool
is_lesser_name a b = is_lt (name_order a b)

-- at most 255 names, which rise strictly by bytes
abbrev pub are_tags : List Name → Bool
are_tags tags = is_within 0 MOST_TAGS (length tags) && (list_all is_name tags && each_next is_lesser_name tags)

-- 1 to 65,535 characters, which are scalar values of Unicode
abbrev pub is_text : List ℕ → Bool
is_text text = is_within 1 MOST_CHARACTERS (length text) && all_scalars text

-- 1 to 65,536 spans, sorted by site and then by first count, no two of which overlap or touch
abbrev pub are_spans : List Span → Bool
are_spans spans = is_within 1 MOST_SPANS (length spans) && (list_all is_span spans && each_next is_clear_of spans)

abbrev pub keeps_rules : Body → Bool
keeps_rules (Insert after tags text) = are_tags tags && is_text text
keeps_rules (Delete spans) = are_spans spans
keeps_rules (Tag on name spans) = is_name name && are_spans spans

-- the operation, where no rule is broken
abbrev pub within_rules : Operation → Result Operation Fault
within_rules op = if keeps_rules op.body then Ok op else Err BadRecord
