-- Lengths of fields, and what of two equal fields is equal.
use Rattle.std.proofs.Common.{◌≡◌, ℕ, ◌+◌, ◌-◌, ◌*◌, ◌^◌, ◌<◌, ◌≤◌, Bool, true, false, String, Global, string_bytes, List, [], ◌∷◌, ◌++◌, length, take, drop, refl, sym, ap, ◌∙◌, arith}
use Rattle.std.specs.Prelude.{encode_utf8_all}
use Rattle.std.specs.List.{flat_map, list_all, AllByRecursion}
use Rattle.std.specs.Int.{w16, w32, w64, byte_len, from_be_bytes}
use Rattle.std.proofs.lemmas.List.{take_at, drop_at, take_all, drop_all, append-nil, length-append}
use Rattle.std.proofs.Math.Utf8.{encode}
use Rattle.std.proofs.lemmas.Nat.{from_be_bytes-to_be_bytes_2, from_be_bytes-to_be_bytes_4, from_be_bytes-to_be_bytes_8}
use Rattle.std.proofs.lemmas.Str.{length-encode, len_utf8_bounds}
use Rattle.std.proofs.lemmas.Bool.Decides.{nat_tests}
use Rattle.rt_stamps.specs.declared.stamp.Span.{Span}
use Rattle.rt_stamps.specs.declared.stamp.Stamp.{Stamp}
use Rattle.rt_stamps.specs.declared.limits.TheConstants.{MOST_NAME_BYTES, MOST_TAGS, MOST_CHARACTERS, MOST_SPANS, MOST_RECORD_BYTES}
use Rattle.rt_stamps.specs.Words.{as_words}
use Rattle.rt_ops.specs.declared.version.Version.{Version}
use Rattle.rt_ops.specs.declared.version.Version.TheVariants.{One, Two}
use Rattle.rt_ops.specs.Versions.{fewest, layout, sites}
use Rattle.rt_ops.specs.Operations.{Name, Body, Insert, Delete, Tag, Operation, stamp_of}
use Rattle.rt_ops.specs.Rules.{is_name, are_spans, keeps_rules}
use Rattle.rt_ops.specs.File.{number, stamp_bytes, span_bytes, spans_bytes, name_bytes, tags_bytes, body_bytes, content_of}

-- ---- numbers

pub length_2 : (n : ℕ) → length (number w16 n) ≡ 2
unfolding number
length_2 n = refl

pub length_4 : (n : ℕ) → length (number w32 n) ≡ 4
unfolding number
length_4 n = refl

pub length_8 : (n : ℕ) → length (number w64 n) ≡ 8
unfolding number
length_8 n = refl

pub same_2 : (m n : ℕ) → m < 2 ^ 16 → n < 2 ^ 16 → number w16 m ≡ number w16 n → m ≡ n
unfolding number
same_2 m n hm hn e = sym (from_be_bytes-to_be_bytes_2 m hm) ∙ ap (from_be_bytes w16) e ∙ from_be_bytes-to_be_bytes_2 n hn

pub same_4 : (m n : ℕ) → m < 2 ^ 32 → n < 2 ^ 32 → number w32 m ≡ number w32 n → m ≡ n
unfolding number
same_4 m n hm hn e = sym (from_be_bytes-to_be_bytes_4 m hm) ∙ ap (from_be_bytes w32) e ∙ from_be_bytes-to_be_bytes_4 n hn

pub same_8 : (m n : ℕ) → m < 2 ^ 64 → n < 2 ^ 64 → number w64 m ≡ number w64 n → m ≡ n
unfolding number
same_8 m n hm hn e = sym (from_be_bytes-to_be_bytes_8 m hm) ∙ ap (from_be_bytes w64) e ∙ from_be_bytes-to_be_bytes_8 n hn

-- the number of a site

pub length_site : (ver : Version) (n : ℕ) → length (number (layout ver).site n) ≡ byte_len (layout ver).site
length_site One n = length_2 n
length_site Two n = length_4 n

pub same_site : (ver : Version) (m n : ℕ) → m < sites ver → n < sites ver → number (layout ver).site m ≡ number (layout ver).site n → m ≡ n
same_site One m n hm hn e = same_2 m n hm hn e
same_site Two m n hm hn e = same_4 m n hm hn e

-- a site has two bytes at least, and four at most
site_bytes : (ver : Version) → (2 ≤ byte_len (layout ver).site) × (byte_len (layout ver).site ≤ 4)
site_bytes One = (omega arith, omega arith)
site_bytes Two = (omega arith, omega arith)

-- two fronts of one length
pub same_front : (a b x y : List ℕ) → length a ≡ length b → a ++ x ≡ b ++ y → (a ≡ b) × (x ≡ y)
same_front a b x y len e = (
  sym (take_at a x (length b) len) ∙ ap (take (length b)) e ∙ take_at b y (length b) refl,
  sym (drop_at a x (length b) len) ∙ ap (drop (length b)) e ∙ drop_at b y (length b) refl,
)

-- ---- lengths

pub stamp_length : (ver : Version) (stamp : Stamp) → length (stamp_bytes ver stamp) ≡ 8 + byte_len (layout ver).site
unfolding stamp_bytes
stamp_length ver stamp = omega (arith, length-append (number w64 stamp.count) (number (layout ver).site stamp.site), length_8 stamp.count, length_site ver stamp.site)

pub span_length : (ver : Version) (span : Span) → length (span_bytes ver span) ≡ 16 + byte_len (layout ver).site
unfolding span_bytes
span_length ver span = omega (arith, length-append (number (layout ver).site span.site) (number w64 span.first ++ number w64 span.last), length-append (number w64 span.first) (number w64 span.last), length_8 span.first, length_8 span.last, length_site ver span.site)

pub spans_flat : (ver : Version) (spans : List Span) → length (flat_map (span_bytes ver) spans) ≡ (16 + byte_len (layout ver).site) * length spans
spans_flat One [] = refl
spans_flat One (span ∷ spans) = omega (arith, length-append (span_bytes One span) (flat_map (span_bytes One) spans), span_length One span, spans_flat One spans)
spans_flat Two [] = refl
spans_flat Two (span ∷ spans) = omega (arith, length-append (span_bytes Two span) (flat_map (span_bytes Two) spans), span_length Two span, spans_flat Two spans)

pub spans_length : (ver : Version) (spans : List Span) → length (spans_bytes ver spans) ≡ 4 + (16 + byte_len (layout ver).site) * length spans
unfolding spans_bytes
spans_length ver spans = omega (arith, length-append (number w32 (length spans)) (flat_map (span_bytes ver) spans), length_4 (length spans), spans_flat ver spans)

spans_short : (ver : Version) (spans : List Span) → length (spans_bytes ver spans) ≤ 4 + 20 * length spans
spans_short One spans = omega (arith, spans_length One spans)
spans_short Two spans = omega (arith, spans_length Two spans)

pub names_flat : (tags : List Name) → list_all is_name tags ≡ true → length (flat_map name_bytes tags) ≤ 256 * length tags
names_flat [] h = omega arith
names_flat (tag ∷ tags) h =
    let one : length tag ≤ 255 = grind (arith, nat_tests) in
    let rest : list_all is_name tags ≡ true = grind (arith, nat_tests) in
    omega (arith, length-append (name_bytes tag) (flat_map name_bytes tags), names_flat tags rest)

pub text_length : (text : List ℕ) → length (encode_utf8_all text) ≤ 4 * length text
text_length [] = omega arith
text_length (c ∷ text) = omega (arith, length-append (encode c) (encode_utf8_all text), length-encode c, len_utf8_bounds c, text_length text)

-- what the rules of a body say of its parts

pub tags_are : (after : Stamp) (tags : List Name) (text : List ℕ) → keeps_rules (Insert after tags text) ≡ true → (length tags ≤ MOST_TAGS) × (list_all is_name tags ≡ true) × (length text ≤ MOST_CHARACTERS)
tags_are after tags text h = parts (list_all is_name tags) refl
  where
    parts : (b : Bool) → list_all is_name tags ≡ b → (length tags ≤ MOST_TAGS) × (list_all is_name tags ≡ true) × (length text ≤ MOST_CHARACTERS)
    parts true e = (grind (arith, nat_tests), e, grind (arith, nat_tests))
    parts false e = absurd (grind (arith, nat_tests))

pub spans_are : (spans : List Span) → are_spans spans ≡ true → length spans ≤ MOST_SPANS
spans_are spans h = grind (arith, nat_tests)

pub tag_is : (on : Bool) (name : Name) (spans : List Span) → keeps_rules (Tag on name spans) ≡ true → (length name ≤ MOST_NAME_BYTES) × (length spans ≤ MOST_SPANS)
tag_is on name spans h = (grind (arith, nat_tests), grind (arith, nat_tests))

names_fit_all : (tags : List (String Global)) → list_all is_name (as_words tags) ≡ true → AllByRecursion (λ (tag : String Global). length (string_bytes tag) < 2 ^ 8) tags
names_fit_all [] h = tt
names_fit_all (tag ∷ tags) h =
    let rest : list_all is_name (as_words tags) ≡ true = grind (arith, nat_tests) in
    (grind (arith, nat_tests), names_fit_all tags rest)

pub names_fit : (after : Stamp) (tags : List (String Global)) (text : List ℕ) → keeps_rules (Insert after (as_words tags) text) ≡ true → AllByRecursion (λ (tag : String Global). length (string_bytes tag) < 2 ^ 8) tags
names_fit after tags text h = names_fit_all tags (tags_are after (as_words tags) text h).1

pub body_short : (ver : Version) (body : Body) → keeps_rules body ≡ true → length (body_bytes ver body) ≤ MOST_RECORD_BYTES - 21
unfolding tags_bytes
body_short ver (Insert after tags text) h =
    let rules = tags_are after tags text h in
    omega (arith, rules.0, rules.2, names_flat tags rules.1, text_length text, stamp_length ver after, (site_bytes ver).1, length-append (stamp_bytes ver after) (tags_bytes tags ++ encode_utf8_all text), length-append (flat_map name_bytes tags) (encode_utf8_all text))
body_short ver (Delete spans) h = omega (arith, spans_short ver spans, spans_are spans h)
body_short ver (Tag on name spans) h =
    let rules = tag_is on name spans h in
    omega (arith, rules.0, rules.1, spans_short ver spans, length-append name (spans_bytes ver spans))

pub content_length : (ver : Version) (op : Operation) → length (content_of ver op) ≡ fewest ver + length (body_bytes ver op.body)
content_length ver op = omega (arith, length-append (stamp_bytes ver (stamp_of op)) (number w64 op.prev ++ body_bytes ver op.body), length-append (number w64 op.prev) (body_bytes ver op.body), stamp_length ver (stamp_of op), length_8 op.prev)

-- a record always keeps to the most bytes
pub content_short : (ver : Version) (op : Operation) → keeps_rules op.body ≡ true → length (content_of ver op) ≤ MOST_RECORD_BYTES
content_short ver op h = omega (arith, content_length ver op, (site_bytes ver).1, body_short ver op.body h)

-- a length that is written in the place of four bytes
pub patched : (old new zeros content : List ℕ) (size n : ℕ) → size ≡ length old → old ≡ zeros ++ content → length zeros ≡ 4 → n ≡ length content → new ≡ number w32 n ++ drop 4 old
    → take size (new ++ drop (length new) old) ≡ number w32 (length content) ++ content
patched old new zeros content size n len is four same e =
    let rest : drop 4 old ≡ content = ap (drop 4) is ∙ drop_at zeros content 4 four in
    let whole : new ≡ number w32 (length content) ++ content = e ∙ ap (λ m. number w32 m ++ drop 4 old) same ∙ ap (λ v. number w32 (length content) ++ v) rest in
    let size_new : length new ≡ 4 + length content = ap length whole ∙ length-append (number w32 (length content)) content ∙ ap (λ m. m + length content) (length_4 (length content)) in
    let size_old : length old ≡ 4 + length content = ap length is ∙ length-append zeros content ∙ ap (λ m. m + length content) four in
    let none : drop (length new) old ≡ [] = drop_all (length new) old (omega arith) in
    ap (λ v. take size (new ++ v)) none ∙ ap (take size) (append-nil new) ∙ take_all size new (omega arith) ∙ whole
