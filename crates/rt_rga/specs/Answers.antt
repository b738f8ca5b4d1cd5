-- What is answered to an operation that is offered.
use Rattle.std.specs.Prelude.{ℕ, ◌+◌, Bool, not, ◌&&◌, ◌||◌, ◌==◌, nat_lt, nat_le, min, List, [], ◌∷◌, length, if◌then◌else◌}
use Rattle.std.specs.List.{list_any, list_all}
use Rattle.rt_stamps.specs.declared.stamp.Span.{Span}
use Rattle.rt_stamps.specs.declared.stamp.Stamp.{Stamp}
use Rattle.rt_stamps.specs.declared.fault.Fault.{Fault}
use Rattle.rt_stamps.specs.declared.fault.Fault.TheVariants.{BadStamp, Conflict, NotYet, BadTarget, TextFull}
use Rattle.rt_ops.specs.Operations.{Operation, named, has_bad_stamp, stamps_of_span}
use Rattle.rt_oplog.specs.Logs.{known_end, holds, with_operation}
use Rattle.rt_rga.specs.Cells.{cells_of}
use Rattle.rt_rga.specs.Histories.{has_character, inserted, is_known, may_name}

-- an operation is new to a set that can take it, or the set has it, or it is refused
pub data Answer : Type 0 where
  New : Answer
  Repeat : Answer
  Refused : (fault : Fault) → Answer

-- A named stamp can never be one that is known: it is of site 0 and no operation of its kind may name it; or it is that of no
-- character, and of the operation's own site or within the known end of its site.
abbrev pub can_never_be_known : List Operation → Operation → Stamp → Bool
can_never_be_known set op stamp =
    if stamp.site == 0 then not (may_name op.body stamp)
    else not (has_character set stamp) && ((stamp.site == op.site) || nat_le stamp.count (known_end set stamp.site))

-- a span up to a count at most
abbrev pub up_to : ℕ → Span → Span
up_to count span = record span { last = min span.last count }

-- some stamp of a span is that of no character
abbrev pub has_gap : List Operation → Span → Bool
has_gap set span = list_any (λ stamp. not (has_character set stamp)) (stamps_of_span span)

-- a span has a last stamp, which is past its site's known end
abbrev pub passes_end : List Operation → Span → Bool
passes_end set span = nat_le span.first span.last && nat_lt (known_end set span.site) span.last

abbrev pub answer_to : Operation → List Operation → Answer
answer_to op set =
    if has_bad_stamp op then Refused BadStamp
    else if holds set op then Repeat
    else if nat_lt op.prev (known_end set op.site) then Refused Conflict
    else if nat_lt (known_end set op.site) op.prev then Refused NotYet
    else if list_any (can_never_be_known set op) (named op.body) then Refused BadTarget
    else if not (list_all (is_known set op.body) (named op.body)) then Refused NotYet
    else New

-- The answer of a site that keeps at most so many cells: TextFull where the cells of what is new would be more.
abbrev pub refused_if_full : Bool → Answer → Answer
refused_if_full full New = if full then Refused TextFull else New
refused_if_full full Repeat = Repeat
refused_if_full full (Refused fault) = Refused fault

abbrev pub answer_within : ℕ → Operation → List Operation → Answer
answer_within limit op set = refused_if_full (nat_lt limit (length (cells_of set) + length (inserted op))) (answer_to op set)

-- what an operation that is offered makes of a set
abbrev pub set_after : Answer → Operation → List Operation → List Operation
set_after New op set = with_operation op set
set_after Repeat op set = set
set_after (Refused fault) op set = set

abbrev pub taken : Operation → List Operation → List Operation
taken op set = set_after (answer_to op set) op set

-- operations that are offered one after the other
abbrev pub all_taken : List Operation → List Operation → List Operation
all_taken [] set = set
all_taken (op ∷ ops) set = all_taken ops (taken op set)
