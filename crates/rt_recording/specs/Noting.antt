-- Words of private contracts.
use Rattle.std.specs.Prelude.{◌≡◌}
use Rattle.rt_stamps.specs.declared.stamp.Stamp.{Stamp}
use Rattle.rt_rga.specs.Cells.{cells_of}
use Rattle.rt_rga.specs.Histories.{IsHistory, greatest_last_count}
use Rattle.rt_plans.specs.DocValue.{DocValue}
use Rattle.rt_recording.specs.Recordings.{Recording, came_back}

-- what is recorded stays while an action is prepared
pub record Keeps (old new : Recording) : Type 0 where
  pub history : new.history ≡ old.history
  pub undo : new.undo ≡ old.undo
  pub auto : new.auto ≡ old.auto
  pub back : (stamp : Stamp) → came_back new stamp ≡ came_back old stamp

-- a document is that of its log
pub record IsOfLog (doc : DocValue) : Type 0 where
  pub history : IsHistory doc.log
  pub cells : doc.cells ≡ cells_of doc.log
  pub count : doc.count ≡ greatest_last_count doc.log
