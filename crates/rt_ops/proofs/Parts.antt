-- What is decoded from the parts of a record.
use Rattle.std.proofs.Common.{◌≡◌, ℕ, ◌+◌, ◌*◌, ◌^◌, ◌<◌, ◌≤◌, Bool, true, false, List, [], ◌∷◌, ◌++◌, length, take, drop, Result, Ok, Err, IfOk, refl, sym, ap, subst, ◌∙◌, append-nil, arith, inl, inr}
use Rattle.std.specs.Result.{IsOkUnless}
use Rattle.std.specs.Prelude.{encode_utf8_all}
use Rattle.std.specs.List.{flat_map, AllByRecursion}
use Rattle.std.specs.Int.{w32, w64, byte_len}
use Rattle.std.specs.Str.{IsUtf8, chars}
use Rattle.std.proofs.lemmas.Bool.{false≢true}
use Rattle.std.proofs.lemmas.Bool.Decides.{nat_tests}
use Rattle.std.proofs.lemmas.List.{take_at, take-append-drop, length-append, length-take}
use Rattle.std.proofs.lemmas.Str.{IsUtf8-from_is_utf8, is_utf8-from_IsUtf8, encodes-chars, scalars-chars}
use Rattle.rt_stamps.specs.declared.stamp.Span.{Span}
use Rattle.rt_stamps.specs.declared.stamp.Stamp.{Stamp}
use Rattle.rt_stamps.specs.declared.fault.Fault.{Fault}
use Rattle.rt_stamps.specs.declared.fault.Fault.TheVariants.{NoMemory}
use Rattle.rt_ops.specs.declared.version.Version.{Version}
use Rattle.rt_ops.specs.Versions.{fewest, layout}
use Rattle.rt_ops.specs.Operations.{Name, Body, Insert, Delete, Tag, Operation}
use Rattle.rt_ops.specs.Rules.{keeps_rules, within_rules}
use Rattle.rt_ops.specs.File.{number, stamp_bytes, span_bytes, spans_bytes, name_bytes, tags_bytes, flag, kind_of, body_bytes, content_of, HasRecord}
use Rattle.rt_ops.specs.Decoding.{RefusesBytes, Decodes, DecodesFront, DecodesBody, NameFits, IsNameOf, AreNames, StampFits, SpanFits, BodyFits, TagsFit, SpansFit, AreScalars}
use Rattle.rt_ops.proofs.Rooms.{after_fits, body_fits, has_record}
use Rattle.rt_ops.proofs.Lengths.{stamp_length, spans_length, spans_flat, content_length}
use Rattle.rt_ops.proofs.Spells.{spans_parts, tags_parts, names_go_on, same_stamp, same_tags, same_name, heads, IsSpelled, is_spelled, same_body, same_head}

pub refused_as : (fault : Fault) {P Q : Type 0} → (P → Q) → RefusesBytes fault P → RefusesBytes fault Q
refused_as fault f (inl memory) = inl memory
refused_as fault f (inr bad) = inr (bad.0, f bad.1)

-- ---- spans

pub no_spans : (ver : Version) (bytes : List ℕ) (spans : List Span) → length bytes < 4 → bytes ≡ spans_bytes ver spans → ⊥
no_spans ver bytes spans few e = omega (arith, ap length e, spans_length ver spans)

pub other_size : {ver : Version} (bytes rest : List ℕ) (count : ℕ) (spans : List Span) → count < 2 ^ 32 → SpansFit ver spans → bytes ≡ number w32 count ++ rest → (length rest ≡ (16 + byte_len (layout ver).site) * count → ⊥) → bytes ≡ spans_bytes ver spans → ⊥
other_size {ver} bytes rest count spans few fits parts other e =
    let p = spans_parts ver count rest spans [] few fits.few (sym parts ∙ e ∙ sym (append-nil (spans_bytes ver spans))) in
    other (ap length (p.1 ∙ append-nil (flat_map (span_bytes ver) spans)) ∙ spans_flat ver spans ∙ ap (λ n. (16 + byte_len (layout ver).site) * n) (sym p.0))

pub spans_read : (ver : Version) {X : Type 0} (result : Result X Fault) (view : X → List Span) (bytes rest : List ℕ) (count : ℕ) → count < 2 ^ 32 → bytes ≡ number w32 count ++ rest
    → IfOk result (λ x. AllByRecursion (SpanFits ver) (view x)) → IfOk result (λ x. length (view x) ≡ count) → IfOk result (λ x. rest ≡ flat_map (span_bytes ver) (view x)) → IsOkUnless result NoMemory
    → Decodes (spans_bytes ver) (SpansFit ver) view bytes result
unfolding spans_bytes
spans_read ver (Ok x) view bytes rest count few parts fits size is memory =
    (record { each = fits; few = omega (arith, size) }, parts ∙ ap (λ n. number w32 n ++ rest) (sym size) ∙ ap (λ v. number w32 (length (view x)) ++ v) is)
spans_read ver (Err fault) view bytes rest count few parts fits size is memory = inl memory

-- ---- names

pub name_read : (bytes front rest name : List ℕ) (n : ℕ) → n ≤ length bytes → front ≡ take n bytes → rest ≡ drop n bytes → IsUtf8 front → name ≡ front → IsNameOf n name × (bytes ≡ name ++ rest)
name_read bytes front rest name n within f r utf8 is = (
  record { utf8 = is_utf8-from_IsUtf8 name (subst IsUtf8 (sym is) utf8); size = ap length (is ∙ f) ∙ (omega (arith, length-take n bytes)) },
  sym (take-append-drop n bytes) ∙ ap (λ v. v ++ drop n bytes) (sym (is ∙ f)) ∙ ap (λ v. name ++ v) (sym r),
)

pub no_name : (bytes front : List ℕ) (n : ℕ) → front ≡ take n bytes → (IsUtf8 front → ⊥) → (name more : List ℕ) → IsNameOf n name → bytes ≡ name ++ more → ⊥
no_name bytes front n f other name more fits e =
    other (subst IsUtf8 (sym (f ∙ ap (take n) e ∙ take_at name more n fits.size)) (IsUtf8-from_is_utf8 name fits.utf8))

pub name_front : {X : Type 0} (result : Result X Fault) (view : X → Name) (rest : X → List ℕ) (bytes tail : List ℕ) (n : ℕ) → n < 2 ^ 8 → bytes ≡ n ∷ tail
    → DecodesFront (λ name. name) (IsNameOf n) view rest tail result → DecodesFront name_bytes NameFits view rest bytes result
name_front (Ok x) view rest bytes tail n small parts h =
    (record { utf8 = h.0.utf8; short = omega (arith, h.0.size) }, parts ∙ (λ i. sym h.0.size i ∷ h.1 i))
name_front (Err fault) view rest bytes tail n small parts h =
    refused_as fault (λ none name more fits e.
    let p = heads n (length name) tail (name ++ more) (sym parts ∙ e) in
    none name more (record { utf8 = fits.utf8; size = sym p.0 }) p.1) h

pub no_name_front : (bytes : List ℕ) (name more : List ℕ) → bytes ≡ [] → bytes ≡ name_bytes name ++ more → ⊥
no_name_front bytes name more none e = omega (arith, ap length (sym none ∙ e))

-- after names that were read, no further one is at the front
pub names_end : (bytes left : List ℕ) (done : List Name) (i count : ℕ) → length done ≡ i → i < count → bytes ≡ flat_map name_bytes done ++ left → ((name : Name) (more : List ℕ) → NameFits name → left ≡ name_bytes name ++ more → ⊥)
    → (names : List Name) (more : List ℕ) → AreNames count names → bytes ≡ flat_map name_bytes names ++ more → ⊥
names_end bytes left done i count so_far lt parts none names more are e =
    let next = names_go_on done names left more (omega (arith, are.count)) are.each (sym parts ∙ e) in
    none next.0 next.1 next.2 next.3

pub tags_front : {X : Type 0} (result : Result X Fault) (view : X → List Name) (rest : X → List ℕ) (bytes tail : List ℕ) (n : ℕ) → n < 2 ^ 8 → bytes ≡ n ∷ tail
    → DecodesFront (λ tags. flat_map name_bytes tags) (AreNames n) view rest tail result → DecodesFront tags_bytes TagsFit view rest bytes result
unfolding tags_bytes
tags_front (Ok x) view rest bytes tail n small parts h =
    (record { each = h.0.each; few = omega (arith, h.0.count) }, parts ∙ (λ i. sym h.0.count i ∷ h.1 i))
tags_front (Err fault) view rest bytes tail n small parts h =
    refused_as fault (λ none tags more fits e.
    let p = tags_parts n tail tags more (sym parts ∙ e) in
    none tags more (record { each = fits.each; count = sym p.0 }) p.1) h

pub no_tags : (bytes : List ℕ) (tags : List Name) (more : List ℕ) → bytes ≡ [] → bytes ≡ tags_bytes tags ++ more → ⊥
unfolding tags_bytes
no_tags bytes tags more none e = omega (arith, ap length (sym none ∙ e))

-- ---- texts

pub text_read : {X : Type 0} (result : Result X Fault) (view : X → List ℕ) (bytes text : List ℕ) → (text ≡ bytes) × IsUtf8 bytes → IfOk result (λ x. view x ≡ chars text) → IsOkUnless result NoMemory
    → Decodes (λ cs. encode_utf8_all cs) AreScalars view bytes result
text_read (Ok x) view bytes text utf8 is memory =
    let same : view x ≡ chars bytes = is ∙ ap chars utf8.0 in
    (rw same (scalars-chars bytes utf8.1), sym (ap encode_utf8_all same ∙ encodes-chars bytes utf8.1))
text_read (Err fault) view bytes text utf8 is memory = inl memory

-- ---- bodies

-- an operation is made of a body that was read, unless a rule is broken
pub decided : (ver : Version) (kind : ℕ) (stamp : Stamp) (prev : ℕ) (body : Body) (bytes : List ℕ) → kind_of body ≡ kind → BodyFits ver body → IsSpelled ver body → bytes ≡ body_bytes ver body
    → DecodesBody ver kind stamp prev bytes (within_rules (record { count = stamp.count; site = stamp.site; prev = prev; body = body }))
decided ver kind stamp prev body bytes k fits spelled e = by (keeps_rules body) refl
  where
    by : (b : Bool) → keeps_rules body ≡ b → DecodesBody ver kind stamp prev bytes (within_rules (record { count = stamp.count; site = stamp.site; prev = prev; body = body }))
    by true rules = rw rules (fits, rules, k, refl, refl, e)
    by false rules = rw rules (inr (
      refl,
      λ other k' fits' rules' e'.
          let same : other ≡ body = same_body ver other body (k' ∙ sym k) (is_spelled ver other fits' rules') spelled (sym e' ∙ e) in
          false≢true (sym rules ∙ ap keeps_rules (sym same) ∙ rules'),
    ))

pub no_insert : (ver : Version) (bytes : List ℕ) → length bytes < 8 + byte_len (layout ver).site → (body : Body) → kind_of body ≡ 1 → BodyFits ver body → keeps_rules body ≡ true → bytes ≡ body_bytes ver body → ⊥
no_insert ver bytes few (Insert after tags text) k fits rules e = omega (arith, ap length e, length-append (stamp_bytes ver after) (tags_bytes tags ++ encode_utf8_all text), stamp_length ver after)
no_insert ver bytes few (Delete spans) k fits rules e = omega arith
no_insert ver bytes few (Tag on name spans) k fits rules e = omega arith

pub no_tags_of : {ver : Version} (bytes rest : List ℕ) (after : Stamp) → StampFits ver after → bytes ≡ stamp_bytes ver after ++ rest → ((tags : List Name) (more : List ℕ) → TagsFit tags → rest ≡ tags_bytes tags ++ more → ⊥)
    → (body : Body) → kind_of body ≡ 1 → BodyFits ver body → keeps_rules body ≡ true → bytes ≡ body_bytes ver body → ⊥
no_tags_of {ver} bytes rest after fits parts none (Insert other tags text) k fits' rules e =
    let p = same_stamp after other rest (tags_bytes tags ++ encode_utf8_all text) fits (after_fits ver other tags text fits').0 (sym parts ∙ e) in
    none tags (encode_utf8_all text) (is_spelled ver (Insert other tags text) fits' rules).1 p.1
no_tags_of {ver} bytes rest after fits parts none (Delete spans) k fits' rules e = absurd (omega arith)
no_tags_of {ver} bytes rest after fits parts none (Tag on name spans) k fits' rules e = absurd (omega arith)

-- more tags than the version lists
pub too_many_tags : {ver : Version} (bytes rest left : List ℕ) (after : Stamp) (tags : List Name) → StampFits ver after → bytes ≡ stamp_bytes ver after ++ rest → rest ≡ tags_bytes tags ++ left → (layout ver).most_tags < length tags
    → (body : Body) → kind_of body ≡ 1 → BodyFits ver body → keeps_rules body ≡ true → bytes ≡ body_bytes ver body → ⊥
too_many_tags {ver} bytes rest left after tags fits parts more many (Insert other others text) k fits' rules e =
    let p = same_stamp after other rest (tags_bytes others ++ encode_utf8_all text) fits (after_fits ver other others text fits').0 (sym parts ∙ e) in
    let q = same_tags tags others left (encode_utf8_all text) (sym more ∙ p.1) in
    omega (arith, ap length q.0, (after_fits ver other others text fits').1, many)
too_many_tags {ver} bytes rest left after tags fits parts more many (Delete spans) k fits' rules e = absurd (omega arith)
too_many_tags {ver} bytes rest left after tags fits parts more many (Tag on name spans) k fits' rules e = absurd (omega arith)

pub no_text_of : {ver : Version} (bytes rest left : List ℕ) (after : Stamp) (tags : List Name) → StampFits ver after → bytes ≡ stamp_bytes ver after ++ rest → rest ≡ tags_bytes tags ++ left → ((text : List ℕ) → AreScalars text → left ≡ encode_utf8_all text → ⊥)
    → (body : Body) → kind_of body ≡ 1 → BodyFits ver body → keeps_rules body ≡ true → bytes ≡ body_bytes ver body → ⊥
no_text_of {ver} bytes rest left after tags fits parts more none (Insert other others text) k fits' rules e =
    let p = same_stamp after other rest (tags_bytes others ++ encode_utf8_all text) fits (after_fits ver other others text fits').0 (sym parts ∙ e) in
    let q = same_tags tags others left (encode_utf8_all text) (sym more ∙ p.1) in
    none text (grind (arith, nat_tests)) q.1
no_text_of {ver} bytes rest left after tags fits parts more none (Delete spans) k fits' rules e = absurd (omega arith)
no_text_of {ver} bytes rest left after tags fits parts more none (Tag on name spans) k fits' rules e = absurd (omega arith)

pub no_spans_of : {ver : Version} (bytes rest left : List ℕ) (on : Bool) (name : Name) → bytes ≡ flag on ∷ rest → rest ≡ name_bytes name ++ left → ((spans : List Span) → SpansFit ver spans → left ≡ spans_bytes ver spans → ⊥)
    → (body : Body) → kind_of body ≡ 3 → BodyFits ver body → keeps_rules body ≡ true → bytes ≡ body_bytes ver body → ⊥
no_spans_of {ver} bytes rest left on name parts more none (Tag other label spans) k fits rules e =
    let p = heads (flag on) (flag other) rest (name_bytes label ++ spans_bytes ver spans) (sym parts ∙ e) in
    let q = same_name name label left (spans_bytes ver spans) (sym more ∙ p.1) in
    none spans (is_spelled ver (Tag other label spans) fits rules).1 q.1
no_spans_of {ver} bytes rest left on name parts more none (Delete spans) k fits rules e = absurd (omega arith)
no_spans_of {ver} bytes rest left on name parts more none (Insert after tags text) k fits rules e = absurd (omega arith)

pub no_deletion : {ver : Version} (bytes : List ℕ) → ((spans : List Span) → SpansFit ver spans → bytes ≡ spans_bytes ver spans → ⊥)
    → (body : Body) → kind_of body ≡ 2 → BodyFits ver body → keeps_rules body ≡ true → bytes ≡ body_bytes ver body → ⊥
no_deletion {ver} bytes none (Delete spans) k fits rules e = none spans (is_spelled ver (Delete spans) fits rules) e
no_deletion {ver} bytes none (Insert after tags text) k fits rules e = absurd (omega arith)
no_deletion {ver} bytes none (Tag on name spans) k fits rules e = absurd (omega arith)

-- ---- operations

pub no_content : {ver : Version} (bytes : List ℕ) → length bytes < fewest ver → (op : Operation) → HasRecord ver op → bytes ≡ content_of ver op → ⊥
no_content {ver} bytes few op has e = omega (arith, ap length e, content_length ver op)

pub decoded : {ver : Version} (kind : ℕ) (stamp : Stamp) (prev : ℕ) (bytes rest : List ℕ) (result : Result Operation Fault) → StampFits ver stamp → prev < 2 ^ 64 → bytes ≡ kind ∷ (stamp_bytes ver stamp ++ (number w64 prev ++ rest))
    → DecodesBody ver kind stamp prev rest result → Decodes (content_of ver) (HasRecord ver) (λ op. op) bytes result
decoded {ver} kind stamp prev bytes rest (Ok op) fits small parts h = (
  has_record op (subst (StampFits ver) (sym h.3) fits) (omega (arith, h.4)) h.0 h.1,
  parts ∙ (λ i. sym h.2 i ∷ (stamp_bytes ver (sym h.3 i) ++ (number w64 (sym h.4 i) ++ h.5 i))),
)
decoded {ver} kind stamp prev bytes rest (Err fault) fits small parts h =
    refused_as fault (λ none op has e.
    let p = same_head kind stamp prev rest op fits small has (sym parts ∙ e) in
    none op.body (sym p.0) (body_fits op has) has.rules p.3) h
