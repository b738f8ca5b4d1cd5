-- What the words of a script line do to a site.
use Rattle.std.specs.Prelude.{◌≡◌, ◌≤◌, ℕ, List, [], ◌∷◌, length, map, All, true, false, Option, Some, None, Result, Ok, Err, MatchOption, MatchResult, String, Vec, codes, string_bytes, if◌then◌else◌}
use Rattle.std.specs.Str.{bytes_eq}
use Rattle.std.specs.declared.alloc.Global.{Global}
use Rattle.rt_stamps.specs.declared.fault.Fault.{Fault}
use Rattle.rt_stamps.specs.declared.fault.Fault.TheVariants.{BadCommand, NoFile}
use Rattle.rt_stamps.specs.declared.limits.TheConstants.{MOST_BYTES}
use Rattle.rt_stamps.specs.Words.{Word}
use Rattle.rt_script.specs.declared.answer.Answer.{Answer}
use Rattle.rt_script.specs.declared.answer.Answer.TheVariants as answers
use Rattle.rt_holding.specs.declared.receiving.Received.{Received}
use Rattle.rt_requests.specs.PeerWords.{asked_destroy}
use Rattle.rt_peers.specs.PeerStep.{destroyed}
use Rattle.rt_peers.specs.SiteStep.{Gives, SiteReceives}
use Rattle.rt_peers.specs.SiteValue.{SiteValue}

-- a file that a script may name: its name and its bytes
abbrev pub NamedFile : Type 0
NamedFile = Word × List ℕ

-- files as they are handed in, and as lines name them
abbrev pub GivenFile : Type 0
GivenFile = String Global × Vec ℕ Global

abbrev pub named_files : List GivenFile → List NamedFile
named_files files = map (λ file. (string_bytes file.0, file.1.items)) files

-- none has more bytes than a file may have
abbrev pub AreWithin : List GivenFile → Type 0
AreWithin files = All (λ file. length file.1.items ≤ MOST_BYTES) files

-- a site, and the files that the lines of its script may name
pub record Session : Type 0 where
  pub site : SiteValue
  pub files : List NamedFile

-- the bytes of the file of a name: of one name the first counts
abbrev pub file_named : Word → List NamedFile → Option (List ℕ)
file_named name [] = None
file_named name (file ∷ files) = if bytes_eq file.0 name then Some file.1 else file_named name files

-- a line is refused with a fault, and the site is as it was
abbrev pub LineIsRefused : Fault → SiteValue → Answer → SiteValue → Type 0
LineIsRefused fault old answer new = (answer ≡ answers.Refused fault) × (new ≡ old)

-- `receive NAME`: the operations of the file are received, and the answer tells what became of them
abbrev pub ReceiveGives : List NamedFile → List Word → SiteValue → Answer → SiteValue → Type 0
ReceiveGives files (name ∷ []) old answer new = MatchOption (file_named name files)
    (LineIsRefused NoFile old answer new)
    (λ bytes. (received : Received) × (answer ≡ answers.Received received) × SiteReceives bytes old received new)
ReceiveGives files [] old answer new = LineIsRefused BadCommand old answer new
ReceiveGives files (name ∷ more ∷ words) old answer new = LineIsRefused BadCommand old answer new

-- a call without a reply, which changes the site or is refused
abbrev pub IsDone : Result SiteValue Fault → SiteValue → Answer → SiteValue → Type 0
IsDone said old answer new = MatchResult said (λ left. (answer ≡ answers.Replied []) × (new ≡ left)) (λ fault. LineIsRefused fault old answer new)

-- `destroy PATH`: the widget of the path is no longer there
abbrev pub DestroyGives : List Word → SiteValue → Answer → SiteValue → Type 0
DestroyGives words old answer new = MatchResult (asked_destroy words)
    (λ request. IsDone (destroyed request.path old) old answer new)
    (λ fault. LineIsRefused fault old answer new)

-- a reply or a fault, as an answer
abbrev pub as_answer : Result (List Word) Fault → Answer
as_answer (Ok reply) = answers.Replied reply
as_answer (Err fault) = answers.Refused fault

-- `PATH COMMAND WORDS`
abbrev pub PathGives : Word → List Word → SiteValue → Answer → SiteValue → Type 0
PathGives path words old answer new = (result : Result (List Word) Fault) × (answer ≡ as_answer result) × Gives path words old result new

-- What the words of a line give: those of `receive NAME`, of `destroy PATH`, or of `PATH COMMAND WORDS`.
abbrev pub WordsGive : List NamedFile → List Word → SiteValue → Answer → SiteValue → Type 0
WordsGive files [] old answer new = LineIsRefused BadCommand old answer new
WordsGive files (first ∷ words) old answer new =
    (bytes_eq first (codes "receive") ≡ true → ReceiveGives files words old answer new)
    × (bytes_eq first (codes "receive") ≡ false
    → (bytes_eq first (codes "destroy") ≡ true → DestroyGives words old answer new)
    × (bytes_eq first (codes "destroy") ≡ false → PathGives first words old answer new))

-- A line is answered by its words, and the files stay.
abbrev pub SiteGives : Session → List Word → Answer → Session → Type 0
SiteGives old words answer new = (new.files ≡ old.files) × WordsGive old.files words old.site answer new.site
