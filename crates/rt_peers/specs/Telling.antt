-- What a site tells of the operations that it takes, and a text that tells it, while its site lends it.
use Rattle.std.specs.Prelude.{◌≡◌, List, [], ◌∷◌, ◌++◌, map}
use Rattle.rt_ops.specs.Operations.{Operation}
use Rattle.rt_rga.specs.Cells.{cells_of}
use Rattle.rt_rga.specs.Drafts.{ContinueInTurn, with_operations}
use Rattle.rt_rga.specs.Texts.{tagged_text}
use Rattle.rt_oplog.specs.Logs.{with_operation}
use Rattle.rt_changes.specs.declared.change.ToldChange.{ToldChange}
use Rattle.rt_changes.specs.Replays.{AreInText, VisibleChange, changes_of, replayed}
use Rattle.rt_changes.specs.Telling.{AreChangesBetween, all_changes_in, changes_in}
use Rattle.rt_holding.specs.Runs.{AreTakenInTurn}
use Rattle.rt_recording.specs.EditedValue.{EditedValue}
use Rattle.rt_recording.specs.Edits.{text_with_new}
use Rattle.rt_peers.specs.declared.text.telling.TellingText.{TellingText}
use Rattle.rt_peers.specs.SiteStep.{text_limit, text_log}

-- the changes of operations that come one after the other, of each by itself
abbrev pub changes_each : List Operation → List Operation → List (List VisibleChange)
changes_each [] log = []
changes_each (op ∷ ops) log = changes_of op (cells_of log) ∷ changes_each ops (with_operation op log)

-- what each operation of a log changed, by itself, the newest first
abbrev pub each_change : List Operation → List (List VisibleChange)
each_change [] = []
each_change (op ∷ older) = changes_of op (cells_of older) ∷ each_change older

-- One log became another by operations each of which continued it in turn, and told is what each one changes, by itself.
pub record AreToldInTurn (old new : List Operation) (told : List (List VisibleChange)) : Type 0 where
  pub ops : List Operation
  pub turn : ContinueInTurn old ops
  pub taken : new ≡ with_operations ops old
  pub each : told ≡ changes_each ops old

-- What is told between two logs: all together are the changes between these, and each one is what one operation changes, in their
-- order.
pub record AreToldBetween (old new : List Operation) (told : List ToldChange) : Type 0 where
  pub between : AreChangesBetween old new (all_changes_in told)
  pub each : map changes_in told ≡ changes_each between.ops old

-- the text takes an operation, whose changes are told behind the others
abbrev pub telling_with_new : Operation → TellingText → TellingText
telling_with_new op t = record t {
  text = record t.text { now = text_with_new op t.text.now };
  told = record t.told { now = t.told.now ++ changes_of op (cells_of (text_log t.text.now)) ∷ [] };
}

-- A text took some operations one after the other, each of which was new to it then, and what each changed was told behind others.
pub record HasToldMore (old new : EditedValue) (before after : List (List VisibleChange)) : Type 0 where
  pub ops : List Operation
  pub turn : AreTakenInTurn (text_limit old) (text_log old) ops
  pub log : text_log new ≡ with_operations ops (text_log old)
  pub told : after ≡ before ++ changes_each ops (text_log old)

-- What is told of a text that became another: between their logs; replayed on what was visible, it gives what is; and each change is
-- in the text that those before it leave.
pub record AreToldOf (old new : EditedValue) (changes : List ToldChange) : Type 0 where
  pub told : AreToldBetween (text_log old) (text_log new) changes
  pub replays : replayed (all_changes_in changes) (tagged_text old.view.doc.cells) ≡ tagged_text new.view.doc.cells
  pub within : AreInText (all_changes_in changes) (tagged_text old.view.doc.cells)
