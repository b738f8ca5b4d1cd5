-- The line of an answer.
use Rattle.std.specs.Prelude.{ℕ, ◌==◌, List, [], ◌∷◌, ◌++◌, flat_map, Option, Some, None, codes, if◌then◌else◌}
use Rattle.std.specs.Fmt.{decimal}
use Rattle.rt_stamps.specs.declared.fault.Fault.{Fault}
use Rattle.rt_stamps.specs.Fault.{number_of, fault_text}
use Rattle.rt_words.specs.Writing.{text_of_word}
use Rattle.rt_files.specs.Shown.{spaced}
use Rattle.rt_script.specs.declared.answer.Answer.{Answer}
use Rattle.rt_script.specs.declared.answer.Answer.TheVariants.{Replied, Refused, Received}

-- a refusal is `!`, a space and the fault's number and name
abbrev pub text_of_refusal : Fault → List ℕ
text_of_refusal fault = 33 ∷ 32 ∷ fault_text fault

-- how many operations are held is told where some are
abbrev pub held_alone : ℕ → List (List ℕ)
held_alone held = if held == 0 then [] else decimal held ∷ []

abbrev pub held_by_name : ℕ → List (List ℕ)
held_by_name held = if held == 0 then [] else codes "held" ∷ decimal held ∷ []

-- What became of a file is `=` and how many operations were new, how many repeats, and how many are held; or else the fault that
-- ended it, as a refusal, with its offset and these numbers.
abbrev pub text_of_received : ℕ → ℕ → ℕ → Option (Fault × ℕ) → List ℕ
text_of_received new repeats held None = 61 ∷ spaced (decimal new ∷ decimal repeats ∷ held_alone held)
text_of_received new repeats held (Some found) =
    text_of_refusal found.0
    ++ (spaced (codes "at" ∷ decimal found.1 ∷ codes "new" ∷ decimal new ∷ codes "repeat" ∷ decimal repeats ∷ []) ++ spaced (held_by_name held))

-- a reply is `=` and its words, a space before each
abbrev pub text_of_answer : Answer → List ℕ
text_of_answer (Replied words) = 61 ∷ flat_map (λ word. 32 ∷ text_of_word word) words
text_of_answer (Refused fault) = text_of_refusal fault
text_of_answer (Received received) = text_of_received received.new received.repeats received.held received.fault

abbrev pub reply_line : Answer → List ℕ
reply_line answer = text_of_answer answer ++ (10 ∷ [])

-- the number of the fault by which a line was refused, 0 where it was not
abbrev pub fault_number : Answer → ℕ
fault_number (Replied words) = 0
fault_number (Refused fault) = number_of fault
fault_number (Received received) = 0
