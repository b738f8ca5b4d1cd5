-- What the worked examples speak of.
use Rattle.std.specs.Prelude.{ℕ, ◌+◌, ◌-◌, ◌*◌, nat_le, Bool, true, List, [], ◌∷◌, codes, if◌then◌else◌}
use Rattle.rt_stamps.specs.declared.stamp.Span.{Span}
use Rattle.rt_stamps.specs.declared.stamp.TheConstants.{ROOT}
use Rattle.rt_ops.specs.Operations.{Name, Body, Insert, Delete, Tag, Operation}
use Rattle.rt_ops.specs.Rules.{keeps_rules}

abbrev pub span : ℕ → ℕ → ℕ → Span
span site first last = record { site = site; first = first; last = last }

-- whether a Delete may name these spans, a Tag put the tag `t` on them, and an Insert of `x` list these tags
abbrev pub may_be_deleted : List Span → Bool
may_be_deleted spans = keeps_rules (Delete spans)

abbrev pub may_be_tagged : List Span → Bool
may_be_tagged spans = keeps_rules (Tag true (codes "t") spans)

abbrev pub may_be_listed : List Name → Bool
may_be_listed tags = keeps_rules (Insert ROOT tags (codes "x"))

-- site 1 puts `ab` in at the beginning, and next takes `b` away, or tags `a`
abbrev pub puts_ab : Operation
puts_ab = record { count = 1; site = 1; prev = 0; body = Insert ROOT [] (codes "ab") }

abbrev pub takes_b : Operation
takes_b = record { count = 3; site = 1; prev = 2; body = Delete (span 1 2 2 ∷ []) }

abbrev pub tags_a : Operation
tags_a = record { count = 3; site = 1; prev = 2; body = Tag true (codes "t") (span 1 1 1 ∷ []) }

-- site 65,536 puts `c` in behind `b`
abbrev pub puts_c : Operation
puts_c = record { count = 3; site = 65536; prev = 0; body = Insert (record { count = 2; site = 1 }) [] (codes "c") }

-- an operation of this stamp and `prev`
abbrev pub made : ℕ → ℕ → ℕ → Body → Operation
made count site prev body = record { count = count; site = site; prev = prev; body = body }

-- a hexadecimal digit: `0` to `9`, `a` to `f`
abbrev pub digit : ℕ → ℕ
digit c = if nat_le c 57 then c - 48 else c - 87

-- bytes, two hexadecimal digits each
abbrev pub hex : List ℕ → List ℕ
hex [] = []
hex (high ∷ []) = []
hex (high ∷ (low ∷ rest)) = (16 * digit high + digit low) ∷ hex rest
