-- What is decoded from bytes.
use Rattle.std.specs.Prelude.{◌≡◌, ◌⊎◌, ℕ, ◌<◌, ◌^◌, true, List, ◌++◌, length, Result, MatchResult}
use Rattle.std.specs.List.{AllByRecursion}
use Rattle.std.specs.Str.{is_utf8, all_scalars}
use Rattle.rt_stamps.specs.declared.stamp.Span.{Span}
use Rattle.rt_stamps.specs.declared.stamp.Stamp.{Stamp}
use Rattle.rt_stamps.specs.declared.fault.Fault.{Fault}
use Rattle.rt_stamps.specs.declared.fault.Fault.TheVariants.{NoMemory, BadRecord}
use Rattle.rt_ops.specs.declared.version.Version.{Version}
use Rattle.rt_ops.specs.Operations.{Name, Body, Operation, stamp_of}
use Rattle.rt_ops.specs.Rules.{keeps_rules}
use Rattle.rt_ops.specs.Versions.{sites}
use Rattle.rt_ops.specs.File.{has_room, named_counts, kind_of, body_bytes}

-- want of memory, or BadRecord where something doesn't hold
abbrev pub RefusesBytes : Fault → Type 0 → Type 0
RefusesBytes fault Lacks = (fault ≡ NoMemory) ⊎ ((fault ≡ BadRecord) × Lacks)

-- All of the bytes spell the value. They are refused only where they spell none.
abbrev pub Decodes : {A X : Type 0} → (A → List ℕ) → (A → Type 0) → (X → A) → List ℕ → Result X Fault → Type 0
Decodes {A} spelled Fits view bytes result = MatchResult result
    (λ x. Fits (view x) × (bytes ≡ spelled (view x)))
    (λ fault. RefusesBytes fault ((a : A) → Fits a → bytes ≡ spelled a → ⊥))

-- A front of the bytes spells the value, and the rest follows. They are refused only where no front spells one.
abbrev pub DecodesFront : {A X : Type 0} → (A → List ℕ) → (A → Type 0) → (X → A) → (X → List ℕ) → List ℕ → Result X Fault → Type 0
DecodesFront {A} spelled Fits view rest bytes result = MatchResult result
    (λ x. Fits (view x) × (bytes ≡ spelled (view x) ++ rest x))
    (λ fault. RefusesBytes fault ((a : A) (more : List ℕ) → Fits a → bytes ≡ spelled a ++ more → ⊥))

-- what was decoded fits its fields

pub record StampFits (version : Version) (stamp : Stamp) : Type 0 where
  pub count : stamp.count < 2 ^ 64
  pub site : stamp.site < sites version

pub record SpanFits (version : Version) (span : Span) : Type 0 where
  pub site : span.site < sites version
  pub first : span.first < 2 ^ 64
  pub last : span.last < 2 ^ 64

pub record BodyFits (version : Version) (body : Body) : Type 0 where
  pub room : has_room version body ≡ true
  pub counts : AllByRecursion (λ count. count < 2 ^ 64) (named_counts body)

-- a name whose length fits a byte, in UTF-8
pub record NameFits (name : Name) : Type 0 where
  pub utf8 : is_utf8 name ≡ true
  pub short : length name < 2 ^ 8

pub record TagsFit (tags : List Name) : Type 0 where
  pub each : AllByRecursion NameFits tags
  pub few : length tags < 2 ^ 8

pub record SpansFit (version : Version) (spans : List Span) : Type 0 where
  pub each : AllByRecursion (SpanFits version) spans
  pub few : length spans < 2 ^ 32

abbrev pub AreScalars : List ℕ → Type 0
AreScalars text = all_scalars text ≡ true

-- All of the bytes spell the body of an operation of this kind, stamp and `prev`. They are refused only where they spell
-- no body of the kind.
abbrev pub DecodesBody : Version → ℕ → Stamp → ℕ → List ℕ → Result Operation Fault → Type 0
DecodesBody version kind stamp prev bytes result = MatchResult result
    (λ op. BodyFits version op.body × (keeps_rules op.body ≡ true) × (kind_of op.body ≡ kind) × (stamp_of op ≡ stamp) × (op.prev ≡ prev)
    × (bytes ≡ body_bytes version op.body))
    (λ fault. RefusesBytes fault
    ((body : Body) → kind_of body ≡ kind → BodyFits version body → keeps_rules body ≡ true → bytes ≡ body_bytes version body → ⊥))

-- a name of so many bytes
pub record IsNameOf (n : ℕ) (name : Name) : Type 0 where
  pub utf8 : is_utf8 name ≡ true
  pub size : length name ≡ n

-- so many names
pub record AreNames (n : ℕ) (tags : List Name) : Type 0 where
  pub each : AllByRecursion NameFits tags
  pub count : length tags ≡ n
