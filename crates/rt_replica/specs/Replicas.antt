-- What contracts see of a replica that holds early operations, and of its calls.
use Rattle.std.specs.Prelude.{◌≡◌, ℕ, List, [], ◌∷◌, ◌++◌, map}
use Rattle.rt_ops.specs.Operations.{Operation}
use Rattle.rt_store.specs.Shown.{TaggedCell}
use Rattle.rt_rga.specs.Cells.{cells_of}
use Rattle.rt_rga.specs.Drafts.{with_operations}
use Rattle.rt_rga.specs.Texts.{tagged_text}
use Rattle.rt_changes.specs.Replays.{replayed}
use Rattle.rt_rga.specs.declared.taken.Change.{Change}
use Rattle.rt_holding.specs.Grown.{AreTriedAt, HeldValue}
use Rattle.rt_holding.specs.Holding.{Holding, Settles, put_held, without_op}
use Rattle.rt_holding.specs.Replies.{Reply}
use Rattle.rt_holding.specs.Replies as replies
use Rattle.rt_replica.specs.declared.taken.Taken.{Taken}
use Rattle.rt_replica.specs.declared.taken.Taken.TheVariants as takings
use Rattle.rt_replica.specs.Told.{TellingValue, as_told, visible_changes, told_in_turn}

-- The accepted operations, the newest first; those that are held, by rising stamp; the cells with the writes on each; the site's
-- number; the most cells that there may be.
pub record HoldingValue : Type 0 where
  pub log : List Operation
  pub held : List Operation
  pub cells : List TaggedCell
  pub site : ℕ
  pub limit : ℕ

abbrev pub new_replica : ℕ → ℕ → HoldingValue
new_replica site limit = record { log = []; held = []; cells = cells_of []; site = site; limit = limit }

abbrev pub holding_of : HoldingValue → Holding
holding_of replica = record { log = replica.log; held = replica.held }

-- what is answered, as a reply
abbrev pub reply_of : Taken → Reply
reply_of (takings.New changes) = replies.New
reply_of takings.Repeat = replies.Repeat
reply_of takings.Held = replies.Held

-- Operations were taken one after the other, from a log on: some first, and then those of the held ones that could be, by the
-- least stamp. What each of them changed is told, in this order, and replayed on the visible text before them that gives the text
-- after them. The cells are those of the log.
pub record TakesAndTells (first log held : List Operation) (new : HoldingValue) (changes : List Change) : Type 0 where
  pub more : List Operation
  pub settles : Settles new.limit [] (record { log = with_operations first log; held = held }) (holding_of new) more
  pub told : map as_told changes ≡ told_in_turn (first ++ more) log
  pub replays : replayed (visible_changes (first ++ more) changes) (tagged_text (cells_of log)) ≡ tagged_text new.cells
  pub cells : new.cells ≡ cells_of new.log

-- What an offer makes of a replica, by its answer. A new one is taken, and held no more.
abbrev pub BecomesOf : Operation → HoldingValue → HoldingValue → Taken → Type 0
BecomesOf op old new (takings.New changes) = TakesAndTells (op ∷ []) old.log (without_op op old.held) new changes.items
BecomesOf op old new takings.Repeat = new ≡ old
BecomesOf op old new takings.Held = new ≡ record old { held = put_held op old.held }

-- the held ones were last tried at the log, and all is told
pub record HasSettled (telling : TellingValue) (held : HeldValue) : Type 0 where
  pub tried : AreTriedAt telling.limit telling.log held
  pub told : telling.changes ≡ []
