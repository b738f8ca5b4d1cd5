-- The indices of a command: each is checked before the command does anything.
use Rattle.std.specs.Prelude.{ℕ, Option}
use Rattle.std.specs.Result.{result_err, result_unwrap_or}
use Rattle.rt_index.specs.Index.{index_of}
use Rattle.rt_index.specs.Widget.{IndexedWidget}
use Rattle.rt_stamps.specs.declared.fault.Fault.{Fault}
use Rattle.rt_stamps.specs.Words.{Word}

-- why a word is no index of a widget: BadIndex, or NoneTagged
abbrev pub index_check : IndexedWidget → Word → Option Fault
index_check w word = result_err (index_of w word)

-- the place of an index that was checked
abbrev pub place_at_index : IndexedWidget → Word → ℕ
place_at_index w word = result_unwrap_or (index_of w word) 0
