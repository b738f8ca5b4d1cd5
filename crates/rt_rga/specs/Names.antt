-- Names in the states of cells.
use Rattle.std.specs.Prelude.{◌≡◌, ℕ, true, List, Some}
use Rattle.rt_ops.specs.Rules.{is_name}
use Rattle.rt_tags.specs.States.{Write, write_of}

-- each written tag has a name that a shared tag may have
abbrev pub HasNames : List Write → Type 0
HasNames state = (name : List ℕ) (w : Write) → write_of name state ≡ Some w → is_name w.name ≡ true
