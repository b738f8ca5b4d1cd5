-- What each function answers, and what its handle holds then.
use Rattle.std.specs.Prelude.{◌≡◌, ◌⊎◌, ◌<◌, ◌≤◌, ℕ, ℤ, pos, List, Option, None, Some, Ok, false, length, reverse, slice_get}
use Rattle.rt_stamps.specs.declared.limits.TheConstants.{GREATEST_SITE, MOST_BYTES, MOST_CELLS}
use Rattle.rt_stamps.specs.declared.fault.Fault.{Fault}
use Rattle.rt_stamps.specs.declared.stamp.Stamp.{Stamp}
use Rattle.rt_stamps.specs.Fault.{number_of}
use Rattle.rt_stamps.specs.Outcomes.{Refuses}
use Rattle.rt_stamps.specs.Words.{Word}
use Rattle.rt_ops.specs.File.{spelling}
use Rattle.rt_files.specs.Ends.{SpellEnds, SpellNoEnds, ends_bytes}
use Rattle.rt_changes.specs.declared.change.ToldChange.{ToldChange}
use Rattle.rt_holding.specs.declared.receiving.Received.{Received}
use Rattle.rt_peers.specs.SiteStep.{log_of}
use Rattle.rt_script.specs.Changes.{change_lines}
use Rattle.rt_script.specs.LineSite.{AreEndsOf, LineSiteValue, ReceivesTelling, RunsLine, file_since, in_front, known_changes, new_line_site, place_at_path, saying}
use Rattle.peertext_c.specs.declared.numbers.ReceivedNumbers.{ReceivedNumbers}
use Rattle.peertext_c.specs.declared.numbers.StampNumbers.{StampNumbers}
use Rattle.peertext_c.specs.Codes.{BAD_BYTES, BAD_NUMBER, DONE, IS_HELD, NOT_KNOWN, NOT_THERE, NO_MEMORY, NO_SITE}

-- there is no site, and that is answered
abbrev pub IsNoSite : Option LineSiteValue → ℤ → Option LineSiteValue → Type 0
IsNoSite old result new = (result ≡ NO_SITE) × (old ≡ None) × (new ≡ None)

-- there is a site, which stays as it is; a code is answered
abbrev pub AnswersCode : ℤ → Option LineSiteValue → ℤ → Option LineSiteValue → Type 0
AnswersCode code old result new = (result ≡ code) × ((held : LineSiteValue) × (old ≡ Some held)) × (new ≡ old)

-- the numbers that sites have: of those of 32 bits 0 alone is none
abbrev pub IsSiteNumber : ℕ → Type 0
IsSiteNumber number = (0 < number) × (number ≤ GREATEST_SITE)

-- A site is made where there is none and its number is that of a site.
abbrev pub MakesSite : ℕ → Option LineSiteValue → ℤ → Option LineSiteValue → Type 0
MakesSite number old result new =
    ((result ≡ DONE) × IsSiteNumber number × (old ≡ None) × (new ≡ Some (new_line_site number MOST_CELLS)))
    ⊎ AnswersCode IS_HELD old result new
    ⊎ ((result ≡ BAD_NUMBER) × (number ≡ 0) × (old ≡ None) × (new ≡ None))
    ⊎ ((result ≡ NO_MEMORY) × IsSiteNumber number × (old ≡ None) × (new ≡ None))

-- A line is run, and the number of its fault is answered, or 0.
abbrev pub IsCommanded : List ℕ → Option LineSiteValue → ℤ → Option LineSiteValue → Type 0
IsCommanded line old result new =
    IsNoSite old result new
    ⊎ ((before after : LineSiteValue) × (number : ℕ) × (old ≡ Some before) × (new ≡ Some after) × RunsLine line before number after × (result ≡ pos number))

-- What was said is put in the front of the room, and its whole length is answered; or, if it isn't ready, there is no
-- memory for that.
abbrev pub TellsSaid : Option LineSiteValue → List ℕ → ℤ → Option LineSiteValue → List ℕ → Type 0
TellsSaid old room result new out = (new ≡ old)
    × (((result ≡ NO_SITE) × (old ≡ None) × (out ≡ room))
    ⊎ ((held : LineSiteValue) × (old ≡ Some held)
    × (((result ≡ pos (length held.said)) × (out ≡ in_front held.said room))
    ⊎ ((result ≡ NO_MEMORY) × (held.ready ≡ false) × (out ≡ room)))))

-- A site says some bytes, and else stays as it is; or there is no memory for that.
abbrev pub SaysOf : LineSiteValue → List ℕ → ℤ → Option LineSiteValue → Type 0
SaysOf held bytes result new =
    ((result ≡ DONE) × (new ≡ Some (saying bytes held))) ⊎ ((result ≡ NO_MEMORY) × (new ≡ Some held))

-- what each site says
abbrev pub Says : (LineSiteValue → List ℕ) → Option LineSiteValue → ℤ → Option LineSiteValue → Type 0
Says said old result new = IsNoSite old result new ⊎ ((held : LineSiteValue) × (old ≡ Some held) × SaysOf held (said held) result new)

-- the file of all operations that a site accepted or made
abbrev pub whole_file : LineSiteValue → List ℕ
whole_file held = spelling (reverse (log_of held.site))

-- Bytes are said that spell the last counts that a site knows; or there is no memory for that.
abbrev pub SaysEnds : Option LineSiteValue → ℤ → Option LineSiteValue → Type 0
SaysEnds old result new =
    IsNoSite old result new
    ⊎ ((held : LineSiteValue) × (old ≡ Some held)
    × (((ends : List (ℕ × ℕ)) × AreEndsOf held.site ends × (result ≡ DONE) × (new ≡ Some (saying (ends_bytes ends) held)))
    ⊎ ((result ≡ NO_MEMORY) × (new ≡ Some held))))

-- The file of the operations is said that are past the counts that bytes spell.
abbrev pub SaysSince : List ℕ → Option LineSiteValue → ℤ → Option LineSiteValue → Type 0
SaysSince bytes old result new =
    IsNoSite old result new
    ⊎ (SpellNoEnds bytes × AnswersCode BAD_BYTES old result new)
    ⊎ ((held : LineSiteValue) × (old ≡ Some held)
    × (((ends : List (ℕ × ℕ)) × SpellEnds bytes ends × SaysOf held (file_since ends held) result new) ⊎ ((result ≡ NO_MEMORY) × (new ≡ Some held))))

-- the fault that ended a file, by its number, and its offset; 0 for none
abbrev pub fault_numbers : Option (Fault × ℕ) → ℕ × ℕ
fault_numbers None = (0, 0)
fault_numbers (Some (fault, offset)) = (number_of fault, offset)

-- what became of a file, as numbers
abbrev pub received_numbers : Received → ReceivedNumbers
received_numbers received = record {
  fresh = received.new;
  repeats = received.repeats;
  held = received.held;
  offset = (fault_numbers received.fault).1;
  fault = (fault_numbers received.fault).0;
}

-- A file of no more bytes than one may have is received, and what became of it is told.
abbrev pub IsReceived : List ℕ → Option LineSiteValue → ReceivedNumbers → ℤ → Option LineSiteValue → ReceivedNumbers → Type 0
IsReceived bytes old room result new told =
    (IsNoSite old result new × (told ≡ room))
    ⊎ ((MOST_BYTES < length bytes) × AnswersCode BAD_BYTES old result new × (told ≡ room))
    ⊎ ((before after : LineSiteValue) × (received : Received) × (length bytes ≤ MOST_BYTES) × (old ≡ Some before) × (new ≡ Some after) × (result ≡ DONE)
    × ReceivesTelling bytes before received after × (told ≡ received_numbers received))

-- The lines of the change of a number are said, where there is one.
abbrev pub SaysChange : ℕ → Option LineSiteValue → ℤ → Option LineSiteValue → Type 0
SaysChange number old result new =
    IsNoSite old result new
    ⊎ ((held : LineSiteValue) × (old ≡ Some held)
    × (((result ≡ NOT_THERE) × (slice_get (known_changes held) number ≡ None) × (new ≡ old))
    ⊎ ((change : ToldChange) × (slice_get (known_changes held) number ≡ Some change) × SaysOf held (change_lines change) result new)))

-- Something is found in what a handle holds, and told as it is; or it isn't found, which a code says, and nothing is told. All stays.
abbrev pub IsFound : {Found Out : Type 0} → ℤ → (Found → Out) → (LineSiteValue → Option Found)
    → Option LineSiteValue → Out → ℤ → Option LineSiteValue → Out → Type 0
IsFound {Found} code told find old room result new out = (new ≡ old)
    × (((result ≡ NO_SITE) × (old ≡ None) × (out ≡ room))
    ⊎ ((held : LineSiteValue) × (old ≡ Some held)
    × (((result ≡ code) × (find held ≡ None) × (out ≡ room))
    ⊎ ((found : Found) × (result ≡ DONE) × (find held ≡ Some found) × (out ≡ told found)))))

-- What the last line or file changed is counted, operation by operation, if it is known. All stays.
abbrev pub CountsChanges : Option LineSiteValue → ℕ → ℤ → Option LineSiteValue → ℕ → Type 0
CountsChanges = IsFound NOT_KNOWN (λ changes. length changes) (λ held. held.changes)

-- The place of an index is told, or it is refused by a fault, whose number is answered; then nothing is told. All stays.
abbrev pub FindsPlace : Word → Word → Option LineSiteValue → ℕ → ℤ → Option LineSiteValue → ℕ → Type 0
FindsPlace path index old room result new out = (new ≡ old)
    × (((result ≡ NO_SITE) × (old ≡ None) × (out ≡ room))
    ⊎ ((held : LineSiteValue) × (old ≡ Some held)
    × (((result ≡ DONE) × (place_at_path path index held.site ≡ Ok out))
    ⊎ ((fault : Fault) × Refuses (place_at_path path index held.site) fault × (result ≡ pos (number_of fault)) × (out ≡ room)))))

abbrev pub stamp_numbers : Stamp → StampNumbers
stamp_numbers stamp = record { count = stamp.count; site = stamp.site }

abbrev pub stamp_of_numbers : StampNumbers → Stamp
stamp_of_numbers numbers = record { count = numbers.count; site = numbers.site }
