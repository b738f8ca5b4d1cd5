-- What callers see of the operations that a site holds, and how its log has grown since they were last tried.
use Rattle.std.specs.Prelude.{◌≡◌, ◌==◌, ℕ, true, false, List}
use Rattle.rt_ops.specs.Operations.{Operation}
use Rattle.rt_oplog.specs.Logs.{known_end}
use Rattle.rt_rga.specs.Histories.{IsHistory}
use Rattle.rt_rga.specs.Orders.{AreIn}
use Rattle.rt_holding.specs.declared.waits.Keys.{Keys}
use Rattle.rt_holding.specs.Kept.{HeldEntry, Standing}
use Rattle.rt_holding.specs.Waits.{are_tried_at}

-- how they are kept, by which code finds those that may be tried
pub record Table : Type 0 where
  pub entries : List HeldEntry
  pub keys : Keys
  pub again : List Standing

-- the operations that are held, and how
pub record HeldValue : Type 0 where
  pub held : List Operation
  pub table : Table

-- they were last tried at a log, within a limit of cells
abbrev pub AreTriedAt : ℕ → List Operation → HeldValue → Type 0
AreTriedAt limit log value = are_tried_at limit log value.table.keys value.table.again value.table.entries ≡ true

-- A history has grown by operations of one site.
pub record HasGrownBy (site : ℕ) (older log : List Operation) : Type 0 where
  pub history : IsHistory older
  pub among : AreIn older log
  pub others : (other : ℕ) → (site == other) ≡ false → known_end log other ≡ known_end older other

-- Held operations were last tried at a log, and since then it has grown by operations of one site.
pub record AreTriedBefore (limit site : ℕ) (value : HeldValue) (log : List Operation) : Type 0 where
  pub older : List Operation
  pub tried : AreTriedAt limit older value
  pub grown : HasGrownBy site older log
