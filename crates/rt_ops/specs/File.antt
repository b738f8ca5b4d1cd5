-- The operation file: the bytes that spell operations.
use Rattle.std.specs.Prelude.{◌≡◌, ℕ, ◌<◌, ◌^◌, Bool, true, false, ◌&&◌, nat_lt, nat_le, List, [], ◌∷◌, ◌++◌, length, encode_utf8_all, if◌then◌else◌}
use Rattle.std.specs.List.{flat_map, list_all, AllByRecursion}
use Rattle.std.specs.Int.{Width, w32, w64, to_be_bytes}
use Rattle.rt_stamps.specs.declared.stamp.Span.{Span}
use Rattle.rt_stamps.specs.declared.stamp.Stamp.{Stamp}
use Rattle.rt_stamps.specs.Stamps.{is_before}
use Rattle.rt_ops.specs.declared.version.Version.{Version}
use Rattle.rt_ops.specs.declared.version.Version.TheVariants.{One, Two}
use Rattle.rt_ops.specs.Operations.{Name, Body, Insert, Delete, Tag, Operation, stamp_of}
use Rattle.rt_ops.specs.Rules.{each_next, keeps_rules}
use Rattle.rt_ops.specs.Versions.{file_name, layout, sites}

-- the eight bytes with which a file begins: its name and its version
unfoldable pub magic : Version → List ℕ
magic version = file_name ++ (layout version).digit ∷ []

-- a number, the highest byte first
unfoldable pub number : Width → ℕ → List ℕ
number w n = to_be_bytes w n

-- count and site
unfoldable pub stamp_bytes : Version → Stamp → List ℕ
stamp_bytes version stamp = number w64 stamp.count ++ number (layout version).site stamp.site

-- site, first and last count
unfoldable pub span_bytes : Version → Span → List ℕ
span_bytes version span = number (layout version).site span.site ++ (number w64 span.first ++ number w64 span.last)

-- how many there are, and each of them
unfoldable pub spans_bytes : Version → List Span → List ℕ
spans_bytes version spans = number w32 (length spans) ++ flat_map (span_bytes version) spans

-- the length in one byte, and as many bytes
abbrev pub name_bytes : Name → List ℕ
name_bytes name = length name ∷ name

-- how many there are in one byte, and each of them
unfoldable pub tags_bytes : List Name → List ℕ
tags_bytes tags = length tags ∷ flat_map name_bytes tags

abbrev pub flag : Bool → ℕ
flag true = 1
flag false = 0

-- 1 Insert, 2 Delete, 3 Tag
abbrev pub kind_of : Body → ℕ
kind_of (Insert after tags text) = 1
kind_of (Delete spans) = 2
kind_of (Tag on name spans) = 3

-- the text is in UTF-8
abbrev pub body_bytes : Version → Body → List ℕ
body_bytes version (Insert after tags text) = stamp_bytes version after ++ (tags_bytes tags ++ encode_utf8_all text)
body_bytes version (Delete spans) = spans_bytes version spans
body_bytes version (Tag on name spans) = flag on ∷ (name_bytes name ++ spans_bytes version spans)

-- kind, count, site, `prev` and body
abbrev pub content_of : Version → Operation → List ℕ
content_of version op = kind_of op.body ∷ (stamp_bytes version (stamp_of op) ++ (number w64 op.prev ++ body_bytes version op.body))

-- the length of what follows, and that
abbrev pub record_of : Version → Operation → List ℕ
record_of version op = number w32 (length (content_of version op)) ++ content_of version op

-- a file of these operations, a record each
abbrev pub file_of : Version → List Operation → List ℕ
file_of version ops = magic version ++ flat_map (record_of version) ops

-- What a version has room for: the sites that stand in it, and the tags that an Insert lists.

-- the sites of spans
abbrev pub have_room : Version → List Span → Bool
have_room version spans = list_all (λ span. nat_lt span.site (sites version)) spans

-- the sites that a body names, and its tags
abbrev pub has_room : Version → Body → Bool
has_room version (Insert after tags text) = nat_lt after.site (sites version) && nat_le (length tags) (layout version).most_tags
has_room version (Delete spans) = have_room version spans
has_room version (Tag on name spans) = have_room version spans

abbrev pub fits : Version → Operation → Bool
fits version op = nat_lt op.site (sites version) && has_room version op.body

-- the counts that a body names
abbrev pub counts_in_spans : List Span → List ℕ
counts_in_spans spans = flat_map (λ span. span.first ∷ span.last ∷ []) spans

abbrev pub named_counts : Body → List ℕ
named_counts (Insert after tags text) = after.count ∷ []
named_counts (Delete spans) = counts_in_spans spans
named_counts (Tag on name spans) = counts_in_spans spans

-- an operation has a record in a version that has room for it, where eight bytes have room for its counts and its body keeps
-- the rules
pub record HasRecord (version : Version) (op : Operation) : Type 0 where
  pub room : fits version op ≡ true
  pub counts : AllByRecursion (λ count. count < 2 ^ 64) (op.count ∷ op.prev ∷ named_counts op.body)
  pub rules : keeps_rules op.body ≡ true

-- the operations of a file: each has a record, and their stamps rise strictly
pub record AreInFile (version : Version) (ops : List Operation) : Type 0 where
  pub records : AllByRecursion (HasRecord version) ops
  pub rising : each_next (λ a b. is_before (stamp_of a) (stamp_of b)) ops ≡ true

-- which version operations are written in: the first where that has room for each, else the second
abbrev pub version_of : List Operation → Version
version_of ops = if list_all (fits One) ops then One else Two

-- the one file that is written of these operations
abbrev pub spelling : List Operation → List ℕ
spelling ops = file_of (version_of ops) ops
