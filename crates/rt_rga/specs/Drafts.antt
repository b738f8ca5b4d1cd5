-- A site's own operations, drafted before they have counts.
use Rattle.std.specs.Prelude.{◌≡◌, ℕ, ◌+◌, ◌≤◌, true, List, [], ◌∷◌}
use Rattle.std.specs.List.{list_all}
use Rattle.rt_stamps.specs.declared.limits.TheConstants.{GREATEST_COUNT}
use Rattle.rt_stamps.specs.declared.stamp.Stamp.{Stamp}
use Rattle.rt_ops.specs.Operations.{Operation, Body, Insert, last_of, named}
use Rattle.rt_oplog.specs.Logs.{known_end, with_operation}
use Rattle.rt_ops.specs.Rules.{keeps_rules}
use Rattle.rt_rga.specs.Histories.{Continues, greatest_last_count, is_known}
use Rattle.rt_store.specs.Shown.{TaggedCell}
use Rattle.rt_rga.specs.Changes.{changed}

-- a site's next operation: its count is one more than the greatest, and it goes on from the last one of its site
abbrev pub next_operation : ℕ → Body → List Operation → Operation
next_operation site draft set = record { count = greatest_last_count set + 1; site = site; prev = known_end set site; body = draft }

-- the operations of drafts, one after the other
abbrev pub operations_of : ℕ → List Body → List Operation → List Operation
operations_of site [] set = []
operations_of site (draft ∷ drafts) set =
    let op = next_operation site draft set in
    op ∷ operations_of site drafts (with_operation op set)

-- the drafts of a single character: it goes behind an element, and has no tags
abbrev pub one_character : Stamp → ℕ → List Body
one_character after character = Insert after [] (character ∷ []) ∷ []

-- a set with operations more
abbrev pub with_operations : List Operation → List Operation → List Operation
with_operations [] set = set
with_operations (op ∷ ops) set = with_operations ops (with_operation op set)

abbrev pub with_drafts : ℕ → List Body → List Operation → List Operation
with_drafts site drafts set = with_operations (operations_of site drafts set) set

-- each operation continues a set with those before it
abbrev pub ContinueInTurn : List Operation → List Operation → Type 0
ContinueInTurn set [] = Unit {0}
ContinueInTurn set (op ∷ ops) = Continues set op × ContinueInTurn (with_operation op set) ops

-- what operations do to cells, one after the other
abbrev pub all_changed : List Operation → List TaggedCell → List TaggedCell
all_changed [] cells = cells
all_changed (op ∷ ops) cells = all_changed ops (changed op cells)

-- a draft keeps the rules, names what is known, and has counts left
pub record IsDraftFor (set : List Operation) (draft : Body) : Type 0 where
  pub rules : keeps_rules draft ≡ true
  pub known : list_all (is_known set draft) (named draft) ≡ true
  pub counts : last_of (greatest_last_count set + 1) draft ≤ GREATEST_COUNT

-- each is a draft for the set with the operations before it
abbrev pub AreDraftsFor : ℕ → List Operation → List Body → Type 0
AreDraftsFor site set [] = Unit {0}
AreDraftsFor site set (draft ∷ drafts) = IsDraftFor set draft × AreDraftsFor site (with_operation (next_operation site draft set) set) drafts
