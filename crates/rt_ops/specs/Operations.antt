-- Operations: what a site did, as it tells the others.
use Rattle.std.specs.Prelude.{ℕ, zero, suc, ◌+◌, ◌-◌, ◌==◌, ◌||◌, not, nat_lt, nat_le, Bool, List, [], ◌∷◌, length, Result, Ok, Err, if◌then◌else◌}
use Rattle.std.specs.List.{list_any, flat_map}
use Rattle.rt_stamps.specs.declared.stamp.Span.{Span}
use Rattle.rt_stamps.specs.declared.stamp.Stamp.{Stamp}
use Rattle.rt_stamps.specs.declared.limits.TheConstants.{GREATEST_COUNT}
use Rattle.rt_stamps.specs.declared.fault.Fault.{Fault}
use Rattle.rt_stamps.specs.declared.fault.Fault.TheVariants.{BadStamp}
use Rattle.rt_stamps.specs.Stamps.{is_before}

-- the bytes of a tag's name
abbrev pub Name : Type 0
Name = List ℕ

-- An Insert puts a text in after an element, under the tags that it lists. A Delete takes characters away. A Tag puts
-- a tag on characters, or takes it off.
pub data Body : Type 0 where
  Insert : (after : Stamp) (tags : List Name) (text : List ℕ) → Body
  Delete : (spans : List Span) → Body
  Tag : (on : Bool) (name : Name) (spans : List Span) → Body

-- `prev` is the last count of the site's operation before it, 0 if it is the first.
pub record Operation : Type 0 where
  pub count : ℕ
  pub site : ℕ
  pub prev : ℕ
  pub body : Body

-- an operation's stamp is its first one
abbrev pub stamp_of : Operation → Stamp
stamp_of op = record { count = op.count; site = op.site }

-- An Insert has a count for each character, any other operation has one.
abbrev pub last_of : ℕ → Body → ℕ
last_of count (Insert after tags text) = count + (length text - 1)
last_of count (Delete spans) = count
last_of count (Tag on name spans) = count

abbrev pub last_count : Operation → ℕ
last_count op = last_of op.count op.body

-- n stamps of a site, from a count on
abbrev pub stamps_from : ℕ → ℕ → ℕ → List Stamp
stamps_from site first zero = []
stamps_from site first (suc n) = record { count = first; site = site } ∷ stamps_from site (first + 1) n

-- the stamps of a span, from its first to its last
abbrev pub stamps_of_span : Span → List Stamp
stamps_of_span span = stamps_from span.site span.first (span.last + 1 - span.first)

abbrev pub stamps_in : List Span → List Stamp
stamps_in spans = flat_map stamps_of_span spans

-- the stamps that an operation names: the element that an Insert goes after, the characters that are deleted or tagged
abbrev pub named : Body → List Stamp
named (Insert after tags text) = after ∷ []
named (Delete spans) = stamps_in spans
named (Tag on name spans) = stamps_in spans

-- one of the stamps isn't before another
abbrev pub reaches : List Stamp → Stamp → Bool
reaches stamps stamp = list_any (λ s. not (is_before s stamp)) stamps

-- site 0; count 0; a last count past the greatest; a previous count that isn't below the count; a named stamp that
-- isn't before the operation's own
abbrev pub has_bad_stamp : Operation → Bool
has_bad_stamp op =
    (op.site == 0) || ((op.count == 0) || (nat_lt GREATEST_COUNT (last_count op) || (nat_le op.count op.prev || reaches (named op.body) (stamp_of op))))

-- an operation is sound if its stamps are
abbrev pub soundness : Operation → Result (Unit {0}) Fault
soundness op = if has_bad_stamp op then Err BadStamp else Ok tt
