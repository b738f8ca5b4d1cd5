-- What of two equal spellings is equal.
use Rattle.std.proofs.Common.{◌≡◌, ℕ, ◌+◌, ◌^◌, ◌<◌, Bool, true, false, List, [], ◌∷◌, ◌++◌, length, take, drop, get_or, refl, sym, ap, ◌∙◌, append_assoc, append-nil, arith, inl, inr}
use Rattle.std.specs.Prelude.{encode_utf8_all}
use Rattle.std.specs.List.{flat_map, list_all, AllByRecursion}
use Rattle.std.specs.Int.{w16, w32, w64, from_be_bytes}
use Rattle.std.proofs.lemmas.Bool.{cases_lt}
use Rattle.std.proofs.lemmas.Bool.Decides.{nat_tests}
use Rattle.std.proofs.lemmas.List.{take-append-drop, length-take, get_or-take, get_or_past}
use Rattle.std.proofs.lemmas.Nat.{be_bytes_2, be_bytes_4, be_bytes_8}
use Rattle.std.proofs.lemmas.Str.{encodes_same}
use Rattle.rt_stamps.specs.declared.stamp.Span.{Span}
use Rattle.rt_stamps.specs.declared.stamp.Stamp.{Stamp}
use Rattle.rt_ops.specs.declared.version.Version.{Version}
use Rattle.rt_ops.specs.Versions.{layout, sites}
use Rattle.rt_ops.specs.Operations.{Name, Body, Insert, Delete, Tag, Operation, stamp_of}
use Rattle.rt_ops.specs.Rules.{is_name, keeps_rules}
use Rattle.rt_ops.specs.File.{number, stamp_bytes, span_bytes, spans_bytes, name_bytes, tags_bytes, flag, kind_of, body_bytes, content_of, HasRecord}
use Rattle.rt_ops.specs.Decoding.{NameFits, StampFits, SpanFits, BodyFits, TagsFit, SpansFit}
use Rattle.rt_ops.proofs.Rooms.{after_fits, body_fits, deleted_fit, stamp_fits, tagged_fit}
use Rattle.rt_ops.proofs.Lengths.{length_4, length_8, length_site, same_4, same_8, same_site, same_front, spans_are, tags_are, tag_is}

-- ---- numbers that are read

bytes-take : (n : ℕ) (bytes : List ℕ) → ((i : ℕ) → get_or bytes i 0 < 256) → (i : ℕ) → get_or (take n bytes) i 0 < 256
bytes-take n bytes h i =
    elim (cases_lt i n) [
      | inl lt ↦ rw (get_or-take n bytes i 0 lt) (h i)
      | inr le ↦ rw (get_or_past (take n bytes) i 0 (omega (arith, length-take n bytes))) (omega arith)
    ]

number_2 : (front : List ℕ) (n : ℕ) → length front ≡ 2 → ((i : ℕ) → get_or front i 0 < 256) → n ≡ from_be_bytes w16 front → number w16 n ≡ front
unfolding number
number_2 front n len fits e = be_bytes_2 front n len fits e

number_4 : (front : List ℕ) (n : ℕ) → length front ≡ 4 → ((i : ℕ) → get_or front i 0 < 256) → n ≡ from_be_bytes w32 front → number w32 n ≡ front
unfolding number
number_4 front n len fits e = be_bytes_4 front n len fits e

number_8 : (front : List ℕ) (n : ℕ) → length front ≡ 8 → ((i : ℕ) → get_or front i 0 < 256) → n ≡ from_be_bytes w64 front → number w64 n ≡ front
unfolding number
number_8 front n len fits e = be_bytes_8 front n len fits e

joined_at : (k : ℕ) (bytes front rest text : List ℕ) → front ≡ take k bytes → rest ≡ drop k bytes → text ≡ front → bytes ≡ text ++ rest
joined_at k bytes front rest text f r e = sym (take-append-drop k bytes) ∙ ap (λ v. v ++ drop k bytes) (sym (e ∙ f)) ∙ ap (λ v. text ++ v) (sym r)

pub front_2 : (bytes front rest : List ℕ) (n : ℕ) → ((i : ℕ) → get_or bytes i 0 < 256) → (front ≡ take 2 bytes) × (rest ≡ drop 2 bytes) × (length rest + 2 ≡ length bytes) → n ≡ from_be_bytes w16 front → bytes ≡ number w16 n ++ rest
front_2 bytes front rest n fits p e =
    joined_at 2 bytes front rest (number w16 n) p.0 p.1 (number_2 (take 2 bytes) n (omega (arith, p.2, length-take 2 bytes)) (bytes-take 2 bytes fits) (e ∙ ap (from_be_bytes w16) p.0) ∙ sym p.0)

pub front_4 : (bytes front rest : List ℕ) (n : ℕ) → ((i : ℕ) → get_or bytes i 0 < 256) → (front ≡ take 4 bytes) × (rest ≡ drop 4 bytes) × (length rest + 4 ≡ length bytes) → n ≡ from_be_bytes w32 front → bytes ≡ number w32 n ++ rest
front_4 bytes front rest n fits p e =
    joined_at 4 bytes front rest (number w32 n) p.0 p.1 (number_4 (take 4 bytes) n (omega (arith, p.2, length-take 4 bytes)) (bytes-take 4 bytes fits) (e ∙ ap (from_be_bytes w32) p.0) ∙ sym p.0)

pub front_8 : (bytes front rest : List ℕ) (n : ℕ) → ((i : ℕ) → get_or bytes i 0 < 256) → (front ≡ take 8 bytes) × (rest ≡ drop 8 bytes) × (length rest + 8 ≡ length bytes) → n ≡ from_be_bytes w64 front → bytes ≡ number w64 n ++ rest
front_8 bytes front rest n fits p e =
    joined_at 8 bytes front rest (number w64 n) p.0 p.1 (number_8 (take 8 bytes) n (omega (arith, p.2, length-take 8 bytes)) (bytes-take 8 bytes fits) (e ∙ ap (from_be_bytes w64) p.0) ∙ sym p.0)

-- ---- fields

pub front_same_4 : (m n : ℕ) (x y : List ℕ) → m < 2 ^ 32 → n < 2 ^ 32 → number w32 m ++ x ≡ number w32 n ++ y → (m ≡ n) × (x ≡ y)
front_same_4 m n x y hm hn e =
    let p = same_front (number w32 m) (number w32 n) x y (length_4 m ∙ sym (length_4 n)) e in
    (same_4 m n hm hn p.0, p.1)

pub front_same_8 : (m n : ℕ) (x y : List ℕ) → m < 2 ^ 64 → n < 2 ^ 64 → number w64 m ++ x ≡ number w64 n ++ y → (m ≡ n) × (x ≡ y)
front_same_8 m n x y hm hn e =
    let p = same_front (number w64 m) (number w64 n) x y (length_8 m ∙ sym (length_8 n)) e in
    (same_8 m n hm hn p.0, p.1)

pub front_same_site : (ver : Version) (m n : ℕ) (x y : List ℕ) → m < sites ver → n < sites ver → number (layout ver).site m ++ x ≡ number (layout ver).site n ++ y → (m ≡ n) × (x ≡ y)
front_same_site ver m n x y hm hn e =
    let p = same_front (number (layout ver).site m) (number (layout ver).site n) x y (length_site ver m ∙ sym (length_site ver n)) e in
    (same_site ver m n hm hn p.0, p.1)

pub same_stamp : {ver : Version} (a b : Stamp) (x y : List ℕ) → StampFits ver a → StampFits ver b → stamp_bytes ver a ++ x ≡ stamp_bytes ver b ++ y → (a ≡ b) × (x ≡ y)
unfolding stamp_bytes
same_stamp {ver} a b x y fits others e =
    let p = front_same_8 a.count b.count (number (layout ver).site a.site ++ x) (number (layout ver).site b.site ++ y) fits.count others.count
    (sym (append_assoc (number w64 a.count) (number (layout ver).site a.site) x) ∙ e ∙ append_assoc (number w64 b.count) (number (layout ver).site b.site) y) in
    let q = front_same_site ver a.site b.site x y fits.site others.site p.1 in
    ((λ i. record { count = p.0 i; site = q.0 i }), q.1)

pub same_span : {ver : Version} (a b : Span) (x y : List ℕ) → SpanFits ver a → SpanFits ver b → span_bytes ver a ++ x ≡ span_bytes ver b ++ y → (a ≡ b) × (x ≡ y)
unfolding span_bytes
same_span {ver} a b x y fits others e =
    let regroup : (s : Span) (z : List ℕ) → (number (layout ver).site s.site ++ (number w64 s.first ++ number w64 s.last)) ++ z ≡ number (layout ver).site s.site ++ (number w64 s.first ++ (number w64 s.last ++ z)) = λ s z. simp append_assoc in
    let p = front_same_site ver a.site b.site (number w64 a.first ++ (number w64 a.last ++ x)) (number w64 b.first ++ (number w64 b.last ++ y)) fits.site others.site (sym (regroup a x) ∙ e ∙ regroup b y) in
    let q = front_same_8 a.first b.first (number w64 a.last ++ x) (number w64 b.last ++ y) fits.first others.first p.1 in
    let r = front_same_8 a.last b.last x y fits.last others.last q.1 in
    ((λ i. record { site = p.0 i; first = q.0 i; last = r.0 i }), r.1)

pub same_spans : (ver : Version) (a b : List Span) (x y : List ℕ) → length a ≡ length b → AllByRecursion (SpanFits ver) a → AllByRecursion (SpanFits ver) b → flat_map (span_bytes ver) a ++ x ≡ flat_map (span_bytes ver) b ++ y → (a ≡ b) × (x ≡ y)
same_spans ver [] [] x y len fits others e = (refl, e)
same_spans ver [] (s ∷ b) x y len fits others e = absurd (omega arith)
same_spans ver (s ∷ a) [] x y len fits others e = absurd (omega arith)
same_spans ver (s ∷ a) (t ∷ b) x y len fits others e =
    let p = same_span s t (flat_map (span_bytes ver) a ++ x) (flat_map (span_bytes ver) b ++ y) fits.0 others.0
    (sym (append_assoc (span_bytes ver s) (flat_map (span_bytes ver) a) x) ∙ e ∙ append_assoc (span_bytes ver t) (flat_map (span_bytes ver) b) y) in
    let q = same_spans ver a b x y (omega arith) fits.1 others.1 p.1 in
    ((λ i. p.0 i ∷ q.0 i), q.1)

-- a count, and what is behind ver it
pub spans_parts : (ver : Version) (count : ℕ) (rest : List ℕ) (spans : List Span) (y : List ℕ) → count < 2 ^ 32 → length spans < 2 ^ 32 → number w32 count ++ rest ≡ spans_bytes ver spans ++ y → (count ≡ length spans) × (rest ≡ flat_map (span_bytes ver) spans ++ y)
unfolding spans_bytes
spans_parts ver count rest spans y few others e =
    front_same_4 count (length spans) rest (flat_map (span_bytes ver) spans ++ y) few others (e ∙ append_assoc (number w32 (length spans)) (flat_map (span_bytes ver) spans) y)

pub all_spans_same : {ver : Version} (a b : List Span) (x y : List ℕ) → SpansFit ver a → SpansFit ver b → spans_bytes ver a ++ x ≡ spans_bytes ver b ++ y → (a ≡ b) × (x ≡ y)
unfolding spans_bytes
all_spans_same {ver} a b x y fits others e =
    let p = spans_parts ver (length a) (flat_map (span_bytes ver) a ++ x) b y fits.few others.few (sym (append_assoc (number w32 (length a)) (flat_map (span_bytes ver) a) x) ∙ e) in
    same_spans ver a b x y p.0 fits.each others.each p.1

pub heads : (m n : ℕ) (x y : List ℕ) → m ∷ x ≡ n ∷ y → (m ≡ n) × (x ≡ y)
heads m n x y e = (cc, cc)

pub same_name : (a b : Name) (x y : List ℕ) → name_bytes a ++ x ≡ name_bytes b ++ y → (a ≡ b) × (x ≡ y)
same_name a b x y e =
    let p = heads (length a) (length b) (a ++ x) (b ++ y) e in
    same_front a b x y p.0 p.1

pub same_names : (a b : List Name) (x y : List ℕ) → length a ≡ length b → flat_map name_bytes a ++ x ≡ flat_map name_bytes b ++ y → (a ≡ b) × (x ≡ y)
same_names [] [] x y len e = (refl, e)
same_names [] (s ∷ b) x y len e = absurd (omega arith)
same_names (s ∷ a) [] x y len e = absurd (omega arith)
same_names (s ∷ a) (t ∷ b) x y len e =
    let p = same_name s t (flat_map name_bytes a ++ x) (flat_map name_bytes b ++ y)
    (sym (append_assoc (name_bytes s) (flat_map name_bytes a) x) ∙ e ∙ append_assoc (name_bytes t) (flat_map name_bytes b) y) in
    let q = same_names a b x y (omega arith) p.1 in
    ((λ i. p.0 i ∷ q.0 i), q.1)

-- where names go on after those that were read, another name is at the front of the rest
pub names_go_on : (done names : List Name) (rest more : List ℕ) → length done < length names → AllByRecursion NameFits names → flat_map name_bytes done ++ rest ≡ flat_map name_bytes names ++ more
    → (name : Name) × (tail : List ℕ) × NameFits name × (rest ≡ name_bytes name ++ tail)
names_go_on [] [] rest more lt fits e = absurd (omega arith)
names_go_on [] (name ∷ names) rest more lt fits e = (name, flat_map name_bytes names ++ more, fits.0, e ∙ append_assoc (name_bytes name) (flat_map name_bytes names) more)
names_go_on (d ∷ done) [] rest more lt fits e = absurd (omega arith)
names_go_on (d ∷ done) (name ∷ names) rest more lt fits e =
    let p = same_name d name (flat_map name_bytes done ++ rest) (flat_map name_bytes names ++ more)
    (sym (append_assoc (name_bytes d) (flat_map name_bytes done) rest) ∙ e ∙ append_assoc (name_bytes name) (flat_map name_bytes names) more) in
    names_go_on done names rest more (omega arith) fits.1 p.1

pub tags_parts : (count : ℕ) (rest : List ℕ) (tags : List Name) (y : List ℕ) → count ∷ rest ≡ tags_bytes tags ++ y → (count ≡ length tags) × (rest ≡ flat_map name_bytes tags ++ y)
unfolding tags_bytes
tags_parts count rest tags y e = heads count (length tags) rest (flat_map name_bytes tags ++ y) e

pub same_tags : (a b : List Name) (x y : List ℕ) → tags_bytes a ++ x ≡ tags_bytes b ++ y → (a ≡ b) × (x ≡ y)
unfolding tags_bytes
same_tags a b x y e =
    let p = tags_parts (length a) (flat_map name_bytes a ++ x) b y e in
    same_names a b x y p.0 p.1

pub flags : (a b : Bool) → flag a ≡ flag b → a ≡ b
flags true true e = refl
flags true false e = absurd (omega arith)
flags false true e = absurd (omega arith)
flags false false e = refl

-- ---- bodies

-- what of a body makes its spelling one
abbrev pub IsSpelled : Version → Body → Type 0
IsSpelled ver (Insert after tags text) = StampFits ver after × TagsFit tags
IsSpelled ver (Delete spans) = SpansFit ver spans
IsSpelled ver (Tag on name spans) = NameFits name × SpansFit ver spans

names_fit : (tags : List Name) → list_all is_name tags ≡ true → AllByRecursion NameFits tags
names_fit [] h = tt
names_fit (name ∷ tags) h =
    let rest : list_all is_name tags ≡ true = grind (arith, nat_tests) in
    (record { utf8 = grind (arith, nat_tests); short = grind (arith, nat_tests) }, names_fit tags rest)

pub is_spelled : (ver : Version) (body : Body) → BodyFits ver body → keeps_rules body ≡ true → IsSpelled ver body
is_spelled ver (Insert after tags text) fits h =
    let rules = tags_are after tags text h in
    ((after_fits ver after tags text fits).0, record { each = names_fit tags rules.1; few = omega (arith, rules.0) })
is_spelled ver (Delete spans) fits h = record { each = deleted_fit ver spans fits; few = omega (arith, spans_are spans h) }
is_spelled ver (Tag on name spans) fits h =
    let rules = tag_is on name spans h in
    (record { utf8 = grind (arith, nat_tests); short = omega (arith, rules.0) }, record { each = tagged_fit ver on name spans fits; few = omega (arith, rules.1) })

pub same_body : (ver : Version) (a b : Body) → kind_of a ≡ kind_of b → IsSpelled ver a → IsSpelled ver b → body_bytes ver a ≡ body_bytes ver b → a ≡ b
same_body ver (Insert after tags text) (Insert other others more) k fits so e =
    let p = same_stamp after other (tags_bytes tags ++ encode_utf8_all text) (tags_bytes others ++ encode_utf8_all more) fits.0 so.0 e in
    let q = same_tags tags others (encode_utf8_all text) (encode_utf8_all more) p.1 in
    λ i. Insert (p.0 i) (q.0 i) (encodes_same text more q.1 i)
same_body ver (Insert after tags text) (Delete others) k fits so e = absurd (omega arith)
same_body ver (Insert after tags text) (Tag other label others) k fits so e = absurd (omega arith)
same_body ver (Delete spans) (Insert other others more) k fits so e = absurd (omega arith)
same_body ver (Delete spans) (Delete others) k fits so e =
    let p = all_spans_same spans others [] [] fits so (append-nil (spans_bytes ver spans) ∙ e ∙ sym (append-nil (spans_bytes ver others))) in
    λ i. Delete (p.0 i)
same_body ver (Delete spans) (Tag other label others) k fits so e = absurd (omega arith)
same_body ver (Tag on name spans) (Insert other others more) k fits so e = absurd (omega arith)
same_body ver (Tag on name spans) (Delete others) k fits so e = absurd (omega arith)
same_body ver (Tag on name spans) (Tag other label others) k fits so e =
    let f = heads (flag on) (flag other) (name_bytes name ++ spans_bytes ver spans) (name_bytes label ++ spans_bytes ver others) e in
    let n = same_name name label (spans_bytes ver spans) (spans_bytes ver others) f.1 in
    let p = all_spans_same spans others [] [] fits.1 so.1 (append-nil (spans_bytes ver spans) ∙ n.1 ∙ sym (append-nil (spans_bytes ver others))) in
    λ i. Tag (flags on other f.0 i) (n.0 i) (p.0 i)

-- ---- operations

-- what stands before the body
pub same_head : {ver : Version} (kind : ℕ) (stamp : Stamp) (prev : ℕ) (rest : List ℕ) (op : Operation) → StampFits ver stamp → prev < 2 ^ 64 → HasRecord ver op → kind ∷ (stamp_bytes ver stamp ++ (number w64 prev ++ rest)) ≡ content_of ver op
    → (kind ≡ kind_of op.body) × (stamp ≡ stamp_of op) × (prev ≡ op.prev) × (rest ≡ body_bytes ver op.body)
same_head {ver} kind stamp prev rest op fits small has e =
    let k = heads kind (kind_of op.body) (stamp_bytes ver stamp ++ (number w64 prev ++ rest)) (stamp_bytes ver (stamp_of op) ++ (number w64 op.prev ++ body_bytes ver op.body)) e in
    let s = same_stamp stamp (stamp_of op) (number w64 prev ++ rest) (number w64 op.prev ++ body_bytes ver op.body) fits (stamp_fits op has) k.1 in
    let p = front_same_8 prev op.prev rest (body_bytes ver op.body) small has.counts.1.0 s.1 in
    (k.0, s.0, p.0, p.1)

pub same_content : {ver : Version} (a b : Operation) → HasRecord ver a → HasRecord ver b → content_of ver a ≡ content_of ver b → a ≡ b
same_content {ver} a b has so e =
    let p = same_head (kind_of a.body) (stamp_of a) a.prev (body_bytes ver a.body) b (stamp_fits a has) has.counts.1.0 so e in
    let q = same_body ver a.body b.body p.0 (is_spelled ver a.body (body_fits a has) has.rules) (is_spelled ver b.body (body_fits b so) so.rules) p.3 in
    λ i. record { count = ap (λ (s : Stamp). s.count) p.1 i; site = ap (λ (s : Stamp). s.site) p.1 i; prev = p.2 i; body = q i }
