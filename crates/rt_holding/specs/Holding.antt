-- Operations that come too early are held, and taken when what they were made upon is there.
use Rattle.std.specs.Prelude.{◌≡◌, ℕ, zero, suc, Bool, true, false, not, ◌&&◌, ◌||◌, nat_le, List, [], ◌∷◌, length, Option, Some, None, if◌then◌else◌}
use Rattle.std.specs.List.{filter}
use Rattle.rt_stamps.specs.declared.fault.Fault.TheVariants.{NotYet, TextFull, WaitingFull}
use Rattle.rt_stamps.specs.Stamps.{is_before}
use Rattle.rt_ops.specs.Operations.{Operation, stamp_of}
use Rattle.rt_oplog.specs.Logs.{holds, same_operation, with_operation}
use Rattle.rt_rga.specs.Answers.{Answer, New, Repeat, Refused, answer_within}
use Rattle.rt_holding.specs.declared.held.TheConstants.{MOST_HELD}
use Rattle.rt_holding.specs.Replies.{Reply}
use Rattle.rt_holding.specs.Replies as replies

-- The accepted operations, the newest first; and those that are held, by rising stamp. Of equal stamps the one that came first
-- stands first.
pub record Holding : Type 0 where
  pub log : List Operation
  pub held : List Operation

abbrev pub new_holding : Holding
new_holding = record { log = []; held = [] }

-- WHAT IS ANSWERED

-- it is answered that it comes too early
abbrev pub is_early : Answer → Bool
is_early New = false
is_early Repeat = false
is_early (Refused NotYet) = true
is_early (Refused _) = false

-- it is answered that there is no room for its cells
abbrev pub has_no_room : Answer → Bool
has_no_room New = false
has_no_room Repeat = false
has_no_room (Refused TextFull) = true
has_no_room (Refused _) = false

abbrev pub is_new : Answer → Bool
is_new New = true
is_new Repeat = false
is_new (Refused fault) = false

-- there is no place for one more among the held ones
abbrev pub is_full : List Operation → Bool
is_full held = nat_le MOST_HELD (length held)

abbrev pub as_reply : Answer → Reply
as_reply New = replies.New
as_reply Repeat = replies.Repeat
as_reply (Refused fault) = replies.Refused fault

-- Early ones are held, but for one that is held already, and where too many others are. Other answers stay.
abbrev pub reply_for : Answer → Operation → List Operation → Reply
reply_for answer op held =
    if not (is_early answer) then as_reply answer
    else if holds held op then replies.Repeat
    else if is_full held then replies.Refused WaitingFull
    else replies.Held

abbrev pub reply_to : ℕ → Operation → Holding → Reply
reply_to limit op s = reply_for (answer_within limit op s.log) op s.held

-- WHAT AN OFFER MAKES OF A STATE

abbrev pub without_op : Operation → List Operation → List Operation
without_op op held = filter (λ q. not (same_operation q op)) held

abbrev pub with_taken : Operation → Holding → Holding
with_taken op s = record { log = with_operation op s.log; held = without_op op s.held }

abbrev pub no_more_held : Operation → Holding → Holding
no_more_held op s = record { log = s.log; held = without_op op s.held }

-- a held one stands before all with greater stamps, and behind all others
abbrev pub put_held : Operation → List Operation → List Operation
put_held op [] = op ∷ []
put_held op (q ∷ held) = if is_before (stamp_of op) (stamp_of q) then op ∷ (q ∷ held) else q ∷ put_held op held

abbrev pub hold : Operation → Holding → Holding
hold op s = if holds s.held op || is_full s.held then s else record { log = s.log; held = put_held op s.held }

-- What an offered operation makes of a state, before held ones are tried. One that comes too early is held. Whatever else is
-- answered, it is held no more, but for one that found no room.
abbrev pub after_answer : Answer → Operation → Holding → Holding
after_answer answer op s =
    if is_new answer then with_taken op s
    else if is_early answer then hold op s
    else if has_no_room answer then s
    else no_more_held op s

-- HELD OPERATIONS ARE TRIED

-- a held one isn't tried, and stays, that is still too early or finds no room
abbrev pub stays : Answer → Bool
stays answer = is_early answer || has_no_room answer

-- it is held on: it would stay, or could be taken but found no memory
abbrev pub waits : Answer → Bool
waits answer = is_new answer || stays answer

-- A held one isn't tried, or not again: it would stay, or it could be taken but found no memory before, in the same call.
abbrev pub is_left : ℕ → List Operation → List Operation → Operation → Bool
is_left limit wanting log op =
    let answer = answer_within limit op log in
    stays answer || (is_new answer && holds wanting op)

-- the next one to be tried: the first that isn't left
abbrev pub next_of : ℕ → List Operation → List Operation → List Operation → Option Operation
next_of limit wanting log [] = None
next_of limit wanting log (op ∷ held) = if is_left limit wanting log op then next_of limit wanting log held else Some op

abbrev pub next_held : ℕ → List Operation → Holding → Option Operation
next_held limit wanting s = next_of limit wanting s.log s.held

-- Held ones are tried until none can be taken: the least stamp first, and of equal stamps the one that came first. One that is
-- tried is taken; or it is there already or refused for good, and dropped. What is left, and those that are taken, in order.
abbrev pub tried : ℕ → ℕ → Holding → Holding × List Operation
tried limit zero s = (s, [])
tried limit (suc n) s = elim (next_held limit [] s) [
  | None ↦ (s, [])
  | Some op ↦ (let later = tried limit n (after_answer (answer_within limit op s.log) op s) in
      (later.0, if is_new (answer_within limit op s.log) then op ∷ later.1 else later.1))
]

-- each try is of one that is held no more afterwards
abbrev pub settled : ℕ → Holding → Holding
settled limit s = (tried limit (length s.held) s).0

abbrev pub taken_then : ℕ → Holding → List Operation
taken_then limit s = (tried limit (length s.held) s).1

-- Held ones are tried as `settled` has it, and a try may find no memory: such a one stays held, and isn't tried again in the
-- same call. From a state, and those that found no memory, to the state after it and those that are taken, in order.
pub data Settles (limit : ℕ) : List Operation → Holding → Holding → List Operation → Type 0 where
  rest : {wanting : List Operation} {s : Holding} → next_held limit wanting s ≡ None → Settles limit wanting s s []
  takes : {wanting more : List Operation} {s t : Holding} {op : Operation}
      → next_held limit wanting s ≡ Some op → is_new (answer_within limit op s.log) ≡ true
      → Settles limit wanting (with_taken op s) t more → Settles limit wanting s t (op ∷ more)
  drops : {wanting more : List Operation} {s t : Holding} {op : Operation}
      → next_held limit wanting s ≡ Some op → is_new (answer_within limit op s.log) ≡ false
      → Settles limit wanting (no_more_held op s) t more → Settles limit wanting s t more
  lacks : {wanting more : List Operation} {s t : Holding} {op : Operation}
      → next_held limit wanting s ≡ Some op → is_new (answer_within limit op s.log) ≡ true
      → Settles limit (op ∷ wanting) s t more → Settles limit wanting s t more
