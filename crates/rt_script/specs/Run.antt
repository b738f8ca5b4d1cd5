-- Runs of a script, over any relation that says what the words of a line may be answered in a state, and the state after it.
use Rattle.std.specs.Prelude.{◌≡◌, ◌≢◌, ◌⊎◌, ℕ, ◌+◌, ◌≤◌, true, false, List, [], ◌∷◌, ◌++◌, length, flat_map, Option, Some, None, IfSome}
use Rattle.std.specs.Io.KnownBytes.{Appends, Consumes, IsAtEnd}
use Rattle.rt_stamps.specs.declared.limits.Bounds.{Bounds}
use Rattle.rt_stamps.specs.declared.limits.TheConstants.{PIECE_BYTES}
use Rattle.rt_stamps.specs.declared.fault.Fault.{Fault}
use Rattle.rt_stamps.specs.declared.fault.Fault.TheVariants.{NoMemory, BadQuoting, ReadFault, WriteFault}
use Rattle.rt_script.specs.Lines.{is_readable, answered_lines, complete_of, lines_of}
use Rattle.rt_stamps.specs.Streams.{Stream}
use Rattle.rt_stamps.specs.Words.{Word}
use Rattle.rt_words.specs.Spelling.{Spells, IsBadlyQuoted}
use Rattle.rt_stamps.specs.Written.{AppendsPart}
use Rattle.rt_script.specs.declared.answer.Answer.{Answer}
use Rattle.rt_script.specs.declared.answer.Answer.TheVariants.{Refused}
use Rattle.rt_script.specs.Replies.{reply_line}
use Rattle.rt_ops.specs.Intake.{IsReadUp, LastGave}

-- A line is answered what its words are. One that can't be read, or spells no words, is answered that it is badly quoted, and one
-- whose words found no memory that memory was wanting; then the state stays.
abbrev pub LineGives : {S : Type 0} → (S → List Word → Answer → S → Type 0) → S → List ℕ → Answer → S → Type 0
LineGives gives old line answer new =
    ((is_readable line ≡ true) × ((words : List Word) × Spells line words × gives old words answer new))
    ⊎ (((is_readable line ≡ false) ⊎ IsBadlyQuoted line) × (answer ≡ Refused BadQuoting) × (new ≡ old))
    ⊎ ((is_readable line ≡ true) × (answer ≡ Refused NoMemory) × (new ≡ old))

-- these answers come, one line after the other
abbrev pub RunsLines : {S : Type 0} → (S → List Word → Answer → S → Type 0) → S → List (List ℕ) → List Answer → S → Type 0
RunsLines {S} gives old [] [] new = new ≡ old
RunsLines {S} gives old (line ∷ lines) (answer ∷ answers) new = (mid : S) × LineGives gives old line answer mid × RunsLines gives mid lines answers new
RunsLines {S} gives old [] (answer ∷ answers) new = ⊥
RunsLines {S} gives old (line ∷ lines) [] new = ⊥

-- what stands before some lines, and after them: the state, and what the writer tells
pub record Point (S : Type 0) : Type 0 where
  pub state : S
  pub out : Stream

-- of a state and a writer
abbrev pub point : {S : Type 0} → S → Stream → Point S
point state out = record { state = state; out = out }

-- these lines were run, and the line of each answer was written
pub record Ran {S : Type 0} (gives : S → List Word → Answer → S → Type 0) (old new : Point S) (lines : List (List ℕ)) : Type 0 where
  pub answers : List Answer
  pub runs : RunsLines gives old.state (answered_lines lines) answers new.state
  pub wrote : Appends old.out.bytes new.out.bytes (flat_map reply_line answers)

-- The lines before one of these were run, and the line of each answer was written.
pub record RanFront {S : Type 0} (gives : S → List Word → Answer → S → Type 0) (old new : Point S) (lines : List (List ℕ)) : Type 0 where
  pub run : List (List ℕ)
  pub line : List ℕ
  pub more : List (List ℕ)
  pub split : lines ≡ run ++ line ∷ more
  pub ran : Ran gives old new run

-- What was read is a front and a piece of 1 to `PIECE_BYTES` bytes, in no more reads than one for each byte of the front, and one. All
-- lines that are complete in the front were run, and of the lines behind them those before one; the line of each answer was written. That
-- this one found no room isn't said.
pub record RanPast {S : Type 0} (gives : S → List Word → Answer → S → Type 0) (old new : Point S) (script left : Stream) (read : List ℕ) : Type 0 where
  pub front : List ℕ
  pub piece : List ℕ
  pub is : read ≡ front ++ piece
  pub some : piece ≢ []
  pub short : length piece ≤ PIECE_BYTES
  pub calls : left.calls ≤ script.calls + length front + 1
  pub run : List (List ℕ)
  pub line : List ℕ
  pub more : List (List ℕ)
  pub split : lines_of read ≡ (complete_of front ++ run) ++ line ∷ more
  pub ran : Ran gives old new (complete_of front ++ run)

-- The piece is what the last read gave: all lines that were complete before that read were run.
abbrev pub StopsInLast : {S R : Type 0} → (S → List Word → Answer → S → Type 0) → (R → Stream) → Point S → Point S → R → R → Type 0
StopsInLast gives stream old new script left =
    (read : List ℕ) × (past : RanPast gives old new (stream script) (stream left) read) × LastGave stream script left past.front past.piece

-- A front of these lines was run, up to one whose answer could not be written: the lines of the answers before it were
-- written, up to here, and then a front of the line of its answer.
pub record RanUnwritten {S : Type 0} (gives : S → List Word → Answer → S → Type 0) (old new : Point S) (lines : List (List ℕ)) : Type 0 where
  pub run : List (List ℕ)
  pub more : List (List ℕ)
  pub split : lines ≡ run ++ more
  pub answers : List Answer
  pub last : Answer
  pub runs : RunsLines gives old.state (answered_lines run) (answers ++ last ∷ []) new.state
  pub here : Option (List ℕ)
  pub wrote : Appends old.out.bytes here (flat_map reply_line answers)
  pub part : AppendsPart here new.out.bytes (reply_line last)

-- A run of a script within bounds ended: what was read of it, what was run and written, and when each fault comes.
pub record Ends {S : Type 0} (gives : S → List Word → Answer → S → Type 0) (bounds : Bounds)
    (old new : Point S) (script left : Stream) (fault : Option Fault) : Type 0 where
  -- the bytes that were read, and the one past the bound of bytes, where one more was read
  pub read : List ℕ
  pub over : List ℕ
  pub consumes : Consumes script.bytes left.bytes (read ++ over)
  pub bounded : length read ≤ bounds.bytes
  pub over_one : length over ≤ 1
  pub past : over ≢ [] → (fault ≡ Some ReadFault) × (length read ≡ bounds.bytes)
  pub reads_bounded : left.calls ≤ script.calls + bounds.reads
  -- with no fault all lines were run, the last one with or without its newline
  pub whole : fault ≡ None → IsAtEnd left.bytes × (over ≡ []) × Ran gives old new (lines_of read)
  -- after a failed read, past the bound of bytes, or where no read is left before the end is found, the complete lines that were
  -- read before
  pub unread : fault ≡ Some ReadFault → Ran gives old new (complete_of read)
  pub why_unread : fault ≡ Some ReadFault → (left.failures ≡ script.failures + 1) ⊎ (over ≢ []) ⊎ IsReadUp bounds script left read
  -- where a line couldn't be stored, those that were complete before the last piece, and some more
  pub unstored : fault ≡ Some NoMemory → RanPast gives old new script left read
  -- after a failed write, a front of what the complete lines are answered, or of all at the script's end
  pub unwritten : fault ≡ Some WriteFault → RanUnwritten gives old new (complete_of read)
      ⊎ (IsAtEnd left.bytes × RanUnwritten gives old new (lines_of read))
  pub why_unwritten : fault ≡ Some WriteFault → new.out.failures ≡ old.out.failures + 1
  -- and a fault comes for no other reason
  pub reads_failed : left.failures ≢ script.failures → fault ≡ Some ReadFault
  pub writes_failed : new.out.failures ≢ old.out.failures → fault ≡ Some WriteFault
  pub only : IfSome fault (λ why. (why ≡ NoMemory) ⊎ (why ≡ ReadFault) ⊎ (why ≡ WriteFault))
