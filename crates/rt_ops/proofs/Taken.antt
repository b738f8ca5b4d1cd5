-- Bytes taken one piece after another.
use Rattle.std.proofs.Common.{◌≡◌, ℕ, ◌+◌, ◌^◌, ◌<◌, ◌≤◌, Bool, true, false, cond, List, [], ◌∷◌, ◌++◌, length, take, Option, Some, None, Result, Ok, Err, refl, sym, ap, subst, ◌∙◌, append_assoc, append-nil, arith, inl, inr}
use Rattle.std.specs.Prelude.{◌⊎◌, not, nat_lt}
use Rattle.std.specs.Str.{bytes_eq}
use Rattle.std.proofs.lemmas.Slice.Eq.{bytes_eq-Decides}
use Rattle.std.specs.Int.{w32}
use Rattle.std.specs.Io.KnownBytes.{Consumes}
use Rattle.std.proofs.lemmas.List.{length-append, nil_from_length}
use Rattle.rt_stamps.specs.declared.limits.TheConstants.{MOST_RECORD_BYTES}
use Rattle.rt_stamps.specs.declared.fault.Fault.{Fault}
use Rattle.rt_stamps.specs.declared.fault.Fault.TheVariants.{NoMemory, BadMagic, BadVersion, Truncated, ReadFault}
use Rattle.rt_stamps.specs.declared.limits.Bounds.{Bounds}
use Rattle.rt_ops.specs.declared.version.Version.{Version}
use Rattle.rt_ops.specs.declared.version.Version.TheVariants.{One, Two}
use Rattle.rt_ops.specs.Versions.{file_name, fewest}
use Rattle.rt_ops.specs.Operations.{Operation}
use Rattle.rt_ops.specs.Decoding.{RefusesBytes}
use Rattle.rt_ops.specs.File.{magic, number, content_of, record_of, HasRecord}
use Rattle.rt_ops.specs.Reading.{head_of, EndsEarly, HasNoRecord}
use Rattle.rt_stamps.specs.Streams.{Stream}
use Rattle.rt_ops.specs.Intake.{Takes, Finishes, IsStopped, Fails, GetsHead}
use Rattle.rt_ops.proofs.Lengths.{length_4, same_front, content_length, content_short}
use Rattle.rt_ops.proofs.Spells.{front_same_4}

pub consumes_none : (a : Option (List ℕ)) → Consumes a a []
consumes_none None = tt
consumes_none (Some xs) = refl

pub consumes_then : (a b c : Option (List ℕ)) (s t : List ℕ) → Consumes a b s → Consumes b c t → Consumes a c (s ++ t)
consumes_then None b c s t h k = tt
consumes_then (Some xs) None c s t h k = absurd h
consumes_then (Some xs) (Some ys) None s t h k = k
consumes_then (Some xs) (Some ys) (Some zs) s t h k = h ∙ ap (λ v. s ++ v) k ∙ sym (append_assoc s t zs)

pub takes_none : (a : Stream) (x : Bounds) → Takes a a x x []
takes_none a x = record { consumed = consumes_none a.bytes; failures = refl; calls = omega arith; room = omega arith; reads = refl }

pub takes_then : (a b c : Stream) (x y z : Bounds) (s t : List ℕ) → Takes a b x y s → Takes b c y z t → Takes a c x z (s ++ t)
takes_then a b c x y z s t h k = record {
  consumed = consumes_then a.bytes b.bytes c.bytes s t h.consumed k.consumed;
  failures = k.failures ∙ h.failures;
  calls = omega (arith, h.calls, k.calls, length-append s t);
  room = omega (arith, h.room, k.room, length-append s t);
  reads = k.reads ∙ h.reads;
}

pub finishes_then : (a b c : Stream) (x y z : Bounds) (s t : List ℕ) → Takes a b x y s → Finishes b c y z t → Finishes a c x z (s ++ t)
finishes_then a b c x y z s t h k = record {
  consumed = consumes_then a.bytes b.bytes c.bytes s t h.consumed k.consumed;
  failures = k.failures ∙ h.failures;
  calls = omega (arith, h.calls, k.calls, length-append s t);
  room = omega (arith, h.room, k.room, length-append s t);
  reads = k.reads ∙ h.reads;
  at_end = k.at_end;
}

pub stopped_then : (a b c : Stream) (x y : Bounds) (s t : List ℕ) → Takes a b x y s → IsStopped b c y t → IsStopped a c x (s ++ t)
stopped_then a b c x y s t h k = record {
  within = omega (arith, h.room, k.within, length-append s t);
  calls = omega (arith, h.calls, k.calls, length-append s t);
  reads = omega (arith, h.reads, k.reads);
  cause = elim k.cause [
    | inl failed ↦ inl (consumes_then a.bytes b.bytes c.bytes s t h.consumed failed.0, failed.1 ∙ ap (λ n. n + 1) h.failures)
    | inr (inl over) ↦ inr (inl (
      over.0,
      subst (Consumes a.bytes c.bytes) (sym (append_assoc s t (over.0 ∷ []))) (consumes_then a.bytes b.bytes c.bytes s (t ++ over.0 ∷ []) h.consumed over.1),
      over.2 ∙ h.failures,
      omega (arith, over.3, h.room, length-append s t),
    ))
    | inr (inr up) ↦ inr (inr (record {
      consumed = consumes_then a.bytes b.bytes c.bytes s t h.consumed up.consumed;
      failures = up.failures ∙ h.failures;
      calls = omega (arith, up.calls, h.reads);
      some = omega (arith, up.some, h.reads, h.calls, length-append s t);
    }))
  ];
}

-- why a field isn't gathered is why the record isn't read
pub not_gathered : {ver : Version} (a b c : Stream) (x y z : Bounds) (front : List ℕ) (wanted : ℕ) (fault : Fault) → Takes a b x y front → ((taken : List ℕ) → length taken < wanted → EndsEarly ver (front ++ taken))
    → ((fault ≡ NoMemory) × (taken : List ℕ) × Takes b c y z taken) ⊎ ((fault ≡ ReadFault) × (taken : List ℕ) × (length taken < wanted) × IsStopped b c y taken)
    → Fails ver a c x z fault
not_gathered {ver} a b c x y z front wanted fault h early (inl memory) = (front ++ memory.1, inl (memory.0, takes_then a b c x y z front memory.1 h memory.2))
not_gathered {ver} a b c x y z front wanted fault h early (inr stop) =
    (front ++ stop.1, inr (inr (inr (stop.0, stopped_then a b c x y front stop.1 h stop.3, early stop.1 stop.2))))

pub short_field : (ver : Version) (taken : List ℕ) → length taken < 4 → EndsEarly ver ([] ++ taken)
short_field ver taken lt = inl lt

pub short_content : (ver : Version) (n : ℕ) → fewest ver ≤ n → n ≤ MOST_RECORD_BYTES → (taken : List ℕ) → length taken < n → EndsEarly ver (number w32 n ++ taken)
short_content ver n least most taken lt = inr (n, taken, refl, least, most, lt)

-- the length field alone
pub only_length : (buffer rest : List ℕ) (n : ℕ) → buffer ≡ number w32 n ++ rest → length buffer ≤ 4 → buffer ≡ number w32 n
only_length buffer rest n parts short =
    let none : rest ≡ [] = nil_from_length rest (omega (arith, ap length parts, length-append (number w32 n) rest, length_4 n)) in
    parts ∙ ap (λ v. number w32 n ++ v) none ∙ append-nil (number w32 n)

pub bad_length : {ver : Version} (buffer : List ℕ) (n : ℕ) → n < 2 ^ 32 → buffer ≡ number w32 n → ((fewest ver ≤ n) × (n ≤ MOST_RECORD_BYTES) → ⊥) → HasNoRecord ver buffer
bad_length {ver} buffer n few is out = record {
  some = omega (arith, ap length is, length_4 n);
  whole = λ more early. elim early [
    | inl lt ↦ omega (arith, length-append buffer more, ap length is, length_4 n)
    | inr r ↦ (let p = front_same_4 n r.0 more r.1 few (omega (arith, r.4)) (ap (λ v. v ++ more) (sym is) ∙ r.2) in out (omega (arith, p.0, r.3), omega (arith, p.0, r.4)))
  ];
  none = λ op more tail has e.
      let len = length (content_of ver op) in
      let short = content_short ver op has.rules in
      let p = front_same_4 n len more (content_of ver op ++ tail) few (omega (arith, short)) (ap (λ v. v ++ more) (sym is) ∙ e ∙ append_assoc (number w32 len) (content_of ver op) tail) in
      out (omega (arith, p.0, content_length ver op), omega (arith, p.0, short));
}

-- a whole record doesn't end early
pub whole_content : (ver : Version) (content more : List ℕ) → fewest ver ≤ length content → length content ≤ MOST_RECORD_BYTES → EndsEarly ver ((number w32 (length content) ++ content) ++ more) → ⊥
whole_content ver content more least most (inl lt) =
    let n = length content in
    omega (arith, lt, length-append (number w32 n ++ content) more, length-append (number w32 n) content, length_4 n)
whole_content ver content more least most (inr r) =
    let n = length content in
    let p = front_same_4 n r.0 (content ++ more) r.1 (omega (arith, most)) (omega (arith, r.4)) (sym (append_assoc (number w32 n) content more) ∙ r.2) in
    omega (arith, p.0, ap length p.1, length-append content more, r.5)

pub bad_content : {ver : Version} (content : List ℕ) (n : ℕ) → fewest ver ≤ n → n ≤ MOST_RECORD_BYTES → length content ≡ n → ((op : Operation) → HasRecord ver op → content ≡ content_of ver op → ⊥) → HasNoRecord ver (number w32 n ++ content)
bad_content {ver} content n least most size none = record {
  some = omega (arith, length-append (number w32 n) content, length_4 n);
  whole = λ more. subst (λ m. EndsEarly ver ((number w32 m ++ content) ++ more) → ⊥) size (whole_content ver content more (omega (arith, size, least)) (omega (arith, size, most)));
  none = λ op more tail has e.
      let len = length (content_of ver op) in
      let short = content_short ver op has.rules in
      let p = front_same_4 n len (content ++ more) (content_of ver op ++ tail) (omega (arith, most)) (omega (arith, short))
      (sym (append_assoc (number w32 n) content more) ∙ e ∙ append_assoc (number w32 len) (content_of ver op) tail) in
      let q = same_front content (content_of ver op) more tail (size ∙ p.0) p.1 in
      none op has q.0;
}

-- why a record's bytes are refused
pub not_decoded : {ver : Version} (a b : Stream) (x y : Bounds) (content : List ℕ) (n : ℕ) (fault : Fault) → Takes a b x y (number w32 n ++ content) → fewest ver ≤ n → n ≤ MOST_RECORD_BYTES → length content ≡ n
    → RefusesBytes fault ((op : Operation) → HasRecord ver op → content ≡ content_of ver op → ⊥) → Fails ver a b x y fault
not_decoded {ver} a b x y content n fault h least most size (inl memory) = (number w32 n ++ content, inl (memory, h))
not_decoded {ver} a b x y content n fault h least most size (inr bad) = (number w32 n ++ content, inr (inr (inl (bad.0, h, bad_content content n least most size bad.1))))

-- ---- one read

-- ---- several reads

pub finishes_in : (a b c : Stream) (x y z : Bounds) (s : List ℕ) → Takes a b x y s → Finishes b c y z [] → Finishes a c x z s
finishes_in a b c x y z s h k = subst (Finishes a c x z) (append-nil s) (finishes_then a b c x y z s [] h k)

pub stopped_in : (a b c : Stream) (x y : Bounds) (s : List ℕ) → Takes a b x y s → IsStopped b c y [] → IsStopped a c x s
stopped_in a b c x y s h k = subst (IsStopped a c x) (append-nil s) (stopped_then a b c x y s [] h k)

-- ---- a length field

pub field_told : (a b : Stream) (x y : Bounds) (s rest : List ℕ) (n : ℕ) → s ≡ number w32 n ++ rest → length s ≤ 4 → (4 ≤ length s → Takes a b x y s) → Takes a b x y (number w32 n)
field_told a b x y s rest n parts short takes =
    subst (Takes a b x y) (only_length s rest n parts short) (takes (omega (arith, ap length parts, length-append (number w32 n) rest, length_4 n)))

-- ---- what a record has behind _ it

pub cut_content : {ver : Version} (a b c : Stream) (x y z : Bounds) (n : ℕ) (content : List ℕ) → Takes a b x y (number w32 n) → fewest ver ≤ n → n ≤ MOST_RECORD_BYTES → Finishes b c y z content → length content < n → Fails ver a c x z Truncated
cut_content {ver} a b c x y z n content h least most k lt =
    (number w32 n ++ content, inr (inl (refl, finishes_then a b c x y z (number w32 n) content h k, omega (arith, length-append (number w32 n) content, length_4 n), inr (n, content, refl, least, most, lt))))

pub refused_content : {ver : Version} (a b c : Stream) (x y z : Bounds) (n : ℕ) (content : List ℕ) (fault : Fault) → Takes a b x y (number w32 n) → fewest ver ≤ n → n ≤ MOST_RECORD_BYTES → Takes b c y z content → length content ≤ n → n ≤ length content
    → RefusesBytes fault ((op : Operation) → HasRecord ver op → content ≡ content_of ver op → ⊥) → Fails ver a c x z fault
refused_content {ver} a b c x y z n content fault h least most k short long refuses =
    not_decoded a c x z content n fault (takes_then a b c x y z (number w32 n) content h k) least most (omega arith) refuses

pub got_content : (ver : Version) (a b c : Stream) (x y z : Bounds) (n : ℕ) (content : List ℕ) (op : Operation) → Takes a b x y (number w32 n) → Takes b c y z content → length content ≤ n → n ≤ length content → content ≡ content_of ver op → Takes a c x z (record_of ver op)
got_content ver a b c x y z n content op h k short long e =
    let size : n ≡ length (content_of ver op) = omega (arith, ap length e) in
    subst (Takes a c x z) (λ i. number w32 (size i) ++ e i) (takes_then a b c x y z (number w32 n) content h k)

-- ---- the first eight bytes

-- what tells the version of a file
abbrev pub head_by : Bool → Bool → Bool → Bool → Result Version Fault
head_by named short one two = cond (not named) (Err BadMagic) (cond short (Err Truncated) (cond one (Ok One) (cond two (Ok Two) (Err BadVersion))))

tells : (named short one two : Bool) (ver : Version) → head_by named short one two ≡ Ok ver → ((ver ≡ One) × (one ≡ true)) ⊎ ((ver ≡ Two) × (two ≡ true))
tells false short one two ver e = absurd cc
tells true true one two ver e = absurd cc
tells true false true two ver e = inl (cc, refl)
tells true false false true ver e = inr (cc, refl)
tells true false false false ver e = absurd cc

pub magic_length : (ver : Version) → length (magic ver) ≡ 8
unfolding magic file_name
magic_length One = refl
magic_length Two = refl

pub head_is_magic : (front : List ℕ) (ver : Version) → head_of front ≡ Ok ver → front ≡ magic ver
head_is_magic front ver h = elim (tells (bytes_eq (take 7 front) (take (length front) file_name)) (nat_lt (length front) 8) (bytes_eq front (magic One)) (bytes_eq front (magic Two)) ver h) [
  | inl one ↦ (bytes_eq-Decides front (magic One)).0 one.1 ∙ ap magic (sym one.0)
  | inr two ↦ (bytes_eq-Decides front (magic Two)).0 two.1 ∙ ap magic (sym two.0)
]

pub head_not_gathered : (a b : Stream) (x y : Bounds) (fault : Fault) → ((fault ≡ NoMemory) × (taken : List ℕ) × Takes a b x y taken) ⊎ ((fault ≡ ReadFault) × (taken : List ℕ) × (length taken < 8) × IsStopped a b x taken)
    → GetsHead a b x y (Err fault)
head_not_gathered a b x y fault (inl memory) = (memory.1, inl (memory.0, memory.2))
head_not_gathered a b x y fault (inr stop) = (stop.1, inr (inr (stop.0, stop.3, stop.2)))

pub took_magic : (a b : Stream) (x y : Bounds) (s front : List ℕ) (ver : Version) → front ≡ s → head_of front ≡ Ok ver → (8 ≤ length s → Takes a b x y s) → Takes a b x y (magic ver)
took_magic a b x y s front ver same found h =
    let whole : s ≡ magic ver = sym same ∙ head_is_magic front ver found in
    subst (Takes a b x y) whole (h (omega (arith, ap length whole, magic_length ver)))
