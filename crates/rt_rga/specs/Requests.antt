-- What is asked of a site's replica, one thing after another, and the set of operations that it then has. What is refused
-- changes nothing, so a request that was refused for want of memory is one that wasn't made.
use Rattle.std.specs.Prelude.{◌≡◌, ℕ, ◌+◌, Bool, true, ◌&&◌, nat_le, List, [], ◌∷◌, length, if◌then◌else◌}
use Rattle.std.specs.List.{list_all}
use Rattle.rt_stamps.specs.declared.limits.TheConstants.{GREATEST_COUNT}
use Rattle.rt_ops.specs.Operations.{Operation, Body, Insert, Delete, Tag, last_of, named}
use Rattle.rt_oplog.specs.Logs.{with_operation}
use Rattle.rt_ops.specs.Rules.{keeps_rules}
use Rattle.rt_rga.specs.Answers.{answer_within, set_after}
use Rattle.rt_rga.specs.Cells.{cells_of}
use Rattle.rt_rga.specs.Drafts.{next_operation, with_drafts}
use Rattle.rt_rga.specs.Histories.{greatest_last_count, is_known}

-- an operation is offered, or operations of the site's own are made from drafts
pub data ReplicaRequest : Type 0 where
  Offer : (op : Operation) → ReplicaRequest
  Make : (drafts : List Body) → ReplicaRequest

-- the last count of drafts, where the first begins one above a count, and each other one above the one before it
abbrev pub last_count_after : ℕ → List Body → ℕ
last_count_after count [] = count
last_count_after count (draft ∷ drafts) = last_count_after (last_of (count + 1) draft) drafts

-- how many characters a draft inserts, and how many drafts do
abbrev pub characters_in : Body → ℕ
characters_in (Insert after tags text) = length text
characters_in (Delete spans) = 0
characters_in (Tag on name spans) = 0

abbrev pub characters_in_all : List Body → ℕ
characters_in_all [] = 0
characters_in_all (draft ∷ drafts) = characters_in draft + characters_in_all drafts

-- the counts of drafts fit, and so do all cells that there are then
abbrev pub fit : ℕ → ℕ → List Body → List Operation → Bool
fit site limit drafts set =
    nat_le (last_count_after (greatest_last_count set) drafts) GREATEST_COUNT && nat_le (length (cells_of (with_drafts site drafts set))) limit

-- Drafts become operations, all or none: they have to fit.
abbrev pub made_within : ℕ → ℕ → List Body → List Operation → List Operation
made_within site limit drafts set = if fit site limit drafts set then with_drafts site drafts set else set

-- the set after a request to the replica of a site that keeps at most so many cells
abbrev pub after_request : ℕ → ℕ → ReplicaRequest → List Operation → List Operation
after_request site limit (Offer op) set = set_after (answer_within limit op set) op set
after_request site limit (Make drafts) set = made_within site limit drafts set

abbrev pub after_requests : ℕ → ℕ → List ReplicaRequest → List Operation → List Operation
after_requests site limit [] set = set
after_requests site limit (request ∷ requests) set = after_requests site limit requests (after_request site limit request set)

-- WHAT MAY BE ASKED

-- a draft keeps the rules of an operation's fields, and names what is known when its turn comes
abbrev pub MayBeMade : ℕ → List Operation → List Body → Type 0
MayBeMade site set [] = Unit {0}
MayBeMade site set (draft ∷ drafts) =
    (keeps_rules draft ≡ true) × (list_all (is_known set draft) (named draft) ≡ true)
    × MayBeMade site (with_operation (next_operation site draft set) set) drafts

-- an offered operation keeps the rules too, and may otherwise be any
abbrev pub MayBeAsked : ℕ → List Operation → ReplicaRequest → Type 0
MayBeAsked site set (Offer op) = keeps_rules op.body ≡ true
MayBeAsked site set (Make drafts) = MayBeMade site set drafts

abbrev pub AllMayBeAsked : ℕ → ℕ → List Operation → List ReplicaRequest → Type 0
AllMayBeAsked site limit set [] = Unit {0}
AllMayBeAsked site limit set (request ∷ requests) = MayBeAsked site set request × AllMayBeAsked site limit (after_request site limit request set) requests
