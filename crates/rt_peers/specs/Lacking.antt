-- What another site lacks of a log, by the counts up to which it knows each site's operations.
use Rattle.std.specs.Prelude.{ℕ, nat_lt, Bool, List, filter, unwrap_or}
use Rattle.std.specs.BTreeMap.{get}
use Rattle.std.specs.Ordering.{nat_cmp}
use Rattle.std.specs.declared.alloc.Global.{Global}
use Rattle.std.specs.declared.collections.BTreeMap.{BTreeMap}
use Rattle.rt_ops.specs.Operations.{Operation, last_count}

-- the last count that is known of a site, 0 where none is
abbrev pub known_in : BTreeMap ℕ ℕ Global → ℕ → ℕ
known_in ends site = unwrap_or (get nat_cmp ends site) 0

-- an operation is past what is known of its site
abbrev pub is_past : (ℕ → ℕ) → Operation → Bool
is_past known op = nat_lt (known op.site) (last_count op)

-- the operations that are
abbrev pub past_known : (ℕ → ℕ) → List Operation → List Operation
past_known known log = filter (is_past known) log
