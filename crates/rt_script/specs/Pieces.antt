-- A script that is read in pieces: what is kept of a line that isn't complete, and what is run of a piece.
use Rattle.std.specs.Prelude.{◌≡◌, ◌⊎◌, ℕ, ◌+◌, ◌==◌, ◌&&◌, not, Bool, true, false, List, [], take, Result, Ok, MatchResult}
use Rattle.std.specs.Io.KnownBytes.{Appends}
use Rattle.rt_stamps.specs.declared.fault.Fault.{Fault}
use Rattle.rt_stamps.specs.declared.fault.Fault.TheVariants.{NoMemory, WriteFault}
use Rattle.rt_script.specs.Lines.{is_readable, is_silent}
use Rattle.rt_stamps.specs.Words.{Word}
use Rattle.rt_stamps.specs.Written.{Wrote}
use Rattle.rt_script.specs.declared.answer.Answer.{Answer}
use Rattle.rt_script.specs.declared.engine.TheConstants.{MOST_KEPT_BYTES}
use Rattle.rt_script.specs.Replies.{reply_line}
use Rattle.rt_script.specs.Run.{LineGives, Point, Ran, RanFront, RanUnwritten}

-- a byte that ends no line
abbrev pub is_inner : ℕ → Bool
is_inner c = not (c == 10)

-- what is kept of a line
abbrev pub kept_bytes : List ℕ → List ℕ
kept_bytes line = take MOST_KEPT_BYTES line

-- A line was run: nothing was done for a silent one; else the line of its answer was written, or a front of it.
abbrev pub RanLine : {S : Type 0} → (S → List Word → Answer → S → Type 0) → Point S → Point S → List ℕ → Result (Unit {0}) Fault → Type 0
RanLine gives old new line result =
    ((is_readable line && is_silent line ≡ true) × (result ≡ Ok tt) × (new.state ≡ old.state) × Appends old.out.bytes new.out.bytes [])
    ⊎ ((is_readable line && is_silent line ≡ false)
    × ((answer : Answer) × LineGives gives old.state line answer new.state × Wrote old.out.bytes new.out.bytes result (reply_line answer)))

-- Lines were run, or a front of them: to one whose answer could not be written, or to one of all lines that could not be stored.
abbrev pub RanLines : {S : Type 0} → (S → List Word → Answer → S → Type 0) → Point S → Point S → List (List ℕ) → List (List ℕ)
    → Result (Unit {0}) Fault → Type 0
RanLines gives old new lines all result = MatchResult result
    (λ _. Ran gives old new lines × (new.out.failures ≡ old.out.failures))
    (λ fault. ((fault ≡ NoMemory) × RanFront gives old new all × (new.out.failures ≡ old.out.failures))
    ⊎ ((fault ≡ WriteFault) × RanUnwritten gives old new lines × (new.out.failures ≡ old.out.failures + 1)))
