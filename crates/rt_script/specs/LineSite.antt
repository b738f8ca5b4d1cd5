-- A site that is asked by lines, one at a time, and what each call makes of it.
use Rattle.std.specs.Prelude.{◌≡◌, ◌⊎◌, ◌++◌, ◌&&◌, Bool, true, false, List, [], Option, Some, None, Result, Err, ℕ, drop, length, reverse, take, unwrap_or, if◌then◌else◌}
use Rattle.std.specs.BTreeMap.{is_at}
use Rattle.std.specs.Map.{lookup}
use Rattle.std.specs.Ordering.{nat_cmp}
use Rattle.std.specs.Str.{is_utf8}
use Rattle.rt_stamps.specs.declared.fault.Fault.{Fault}
use Rattle.rt_stamps.specs.declared.fault.Fault.TheVariants.{BadQuoting}
use Rattle.rt_stamps.specs.declared.stamp.Stamp.{Stamp}
use Rattle.rt_stamps.specs.Words.{Word}
use Rattle.rt_ops.specs.File.{spelling}
use Rattle.rt_oplog.specs.Logs.{known_end}
use Rattle.rt_files.specs.Ends.{AreBySite, known_by}
use Rattle.rt_changes.specs.declared.change.ToldChange.{ToldChange}
use Rattle.rt_holding.specs.declared.receiving.Received.{Received}
use Rattle.rt_peers.specs.Cursors.{index_by, stamp_place_by, stamp_by}
use Rattle.rt_peers.specs.Lacking.{past_known}
use Rattle.rt_peers.specs.SiteStep.{SiteReceives, log_of}
use Rattle.rt_peers.specs.SiteValue.{SiteValue, new_site}
use Rattle.rt_script.specs.declared.answer.Answer.{Answer}
use Rattle.rt_script.specs.declared.line_site.Spoken.{Spoken}
use Rattle.rt_script.specs.declared.line_site.Spoken.TheVariants.{Bytes, Line}
use Rattle.rt_script.specs.Lines.{is_readable, is_silent}
use Rattle.rt_script.specs.Replies.{fault_number, reply_line}
use Rattle.rt_script.specs.Run.{LineGives}
use Rattle.rt_script.specs.Site.{WordsGive}
use Rattle.rt_script.specs.Telling.{TellsChanges}

-- A site, the bytes that were said last, and what the last line or file changed, operation by operation, if that is known.
-- The bytes are ready, or are those of a reply line that is to be made when it is read: there was no memory for it.
pub record LineSiteValue : Type 0 where
  pub site : SiteValue
  pub said : List ℕ
  pub ready : Bool
  pub changes : Option (List ToldChange)

-- the bytes that are said
abbrev pub bytes_of : Spoken → List ℕ
bytes_of (Bytes bytes) = bytes.items
bytes_of (Line answer) = reply_line answer

-- whether they are ready
abbrev pub is_line_ready : Spoken → Bool
is_line_ready (Bytes bytes) = true
is_line_ready (Line answer) = false

-- what says some bytes, which are ready
abbrev pub saying : List ℕ → LineSiteValue → LineSiteValue
saying bytes kept = record kept { said = bytes; ready = true }

-- a new site, which said and changed nothing yet
abbrev pub new_line_site : ℕ → ℕ → LineSiteValue
new_line_site number limit = record { site = new_site number limit; said = []; ready = true; changes = Some [] }

-- what is known of what was changed
abbrev pub known_changes : LineSiteValue → List ToldChange
known_changes kept = unwrap_or kept.changes []

-- what has changed nothing yet
abbrev pub untold : LineSiteValue → LineSiteValue
untold kept = record kept { changes = Some [] }

-- bytes in the front of some room, as many as there is room for
abbrev pub in_front : List ℕ → List ℕ → List ℕ
in_front bytes room = take (length room) bytes ++ drop (length bytes) room

-- What the words of a line give: what they give a site by itself, without files, and what that changed. What was said stays.
pub record CommandGives (old : LineSiteValue) (words : List Word) (answer : Answer) (new : LineSiteValue) : Type 0 where
  pub gives : WordsGive [] words old.site answer new.site
  pub tells : TellsChanges old.site new.site new.changes
  pub said : (new.said ≡ old.said) × (new.ready ≡ old.ready)

-- A line gives what it gives in a script, and the line of its answer is said, which is ready if there was memory for
-- it; a silent one says nothing. What was changed before it is no longer told. The number of its fault is answered, or 0.
abbrev pub RunsLine : List ℕ → LineSiteValue → ℕ → LineSiteValue → Type 0
RunsLine line old number new =
    ((is_readable line && is_silent line ≡ true) × (number ≡ 0) × (new ≡ saying [] (untold old)))
    ⊎ ((given : LineSiteValue) × (answer : Answer) × (is_readable line && is_silent line ≡ false)
    × LineGives CommandGives (untold old) line answer given
    × (number ≡ fault_number answer) × (new ≡ record given { said = reply_line answer; ready = new.ready }))

-- A site receives a file, and keeps what it changed, which is known: the changes of each operation that was accepted. What
-- was said stays.
pub record ReceivesTelling (bytes : List ℕ) (old : LineSiteValue) (received : Received) (new : LineSiteValue) : Type 0 where
  pub receives : SiteReceives bytes old.site received new.site
  pub counted : (changes : List ToldChange) × (new.changes ≡ Some changes) × (length changes ≡ received.new)
  pub tells : TellsChanges old.site new.site new.changes
  pub said : (new.said ≡ old.said) × (new.ready ≡ old.ready)

-- these are the last counts that a site knows, by the numbers of their sites: of each site of which it has operations, and of
-- no other
pub record AreEndsOf (state : SiteValue) (ends : List (ℕ × ℕ)) : Type 0 where
  pub order : AreBySite ends
  pub known : (site : ℕ) → known_by ends site ≡ known_end (log_of state) site
  pub only : (site : ℕ) → known_end (log_of state) site ≡ 0 → lookup (is_at (nat_cmp site)) ends ≡ None

-- the place of an index in what the widget of a path shows, or why it is refused, if both are texts; else it is refused by `BadQuoting`
abbrev pub place_at_path : Word → Word → SiteValue → Result ℕ Fault
place_at_path path index site = if is_utf8 path && is_utf8 index then index_by path index site else Err BadQuoting

-- the stamp of the character at a place of what the widget of a path shows; none where the path is no text
abbrev pub stamp_of_path : Word → ℕ → SiteValue → Option Stamp
stamp_of_path path place site = if is_utf8 path then stamp_by path place site else None

-- the place of a stamp in what the widget of a path shows; none where the path is no text
abbrev pub place_of_path : Word → Stamp → SiteValue → Option ℕ
place_of_path path stamp site = if is_utf8 path then stamp_place_by path stamp site else None

-- the file of the operations of a site that are past some counts
abbrev pub file_since : List (ℕ × ℕ) → LineSiteValue → List ℕ
file_since ends kept = spelling (reverse (past_known (known_by ends) (log_of kept.site)))
