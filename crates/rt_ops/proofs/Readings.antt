-- Operations read from a file, record by record.
use Rattle.std.proofs.Common.{◌≡◌, ℕ, ◌+◌, ◌<◌, ◌≤◌, Bool, true, false, suc, List, [], ◌∷◌, ◌++◌, length, take, Option, Some, None, Result, Ok, Err, IfOk, IfErr, refl, sym, ap, subst, ◌∙◌, append_assoc, append-nil, arith, inl, inr}
use Rattle.std.specs.Prelude.{◌⊎◌, min, nat_lt, IfSome}
use Rattle.std.specs.Str.{bytes_eq}
use Rattle.std.specs.List.{flat_map, AllByRecursion}
use Rattle.std.specs.Int.{w32}
use Rattle.std.specs.Io.KnownBytes.{IsAtEnd}
use Rattle.std.proofs.lemmas.Bool.{false≢true, cases_lt}
use Rattle.std.proofs.lemmas.Bool.Decides.{nat_tests}
use Rattle.std.proofs.lemmas.List.{length-append, length-take, take_at, take_all}
use Rattle.std.proofs.lemmas.List.Concat.{flat_map-append}
use Rattle.rt_stamps.specs.Stamps.{is_before}
use Rattle.rt_stamps.specs.declared.stamp.Stamp.{Stamp}
use Rattle.rt_stamps.specs.declared.fault.Fault.{Fault}
use Rattle.rt_stamps.specs.declared.fault.Fault.TheVariants.{NoMemory, Truncated, BadRecord, ReadFault}
use Rattle.rt_stamps.specs.declared.limits.Bounds.{Bounds}
use Rattle.rt_ops.specs.declared.version.Version.{Version}
use Rattle.rt_ops.specs.declared.version.Version.TheVariants.{One, Two}
use Rattle.rt_ops.specs.Operations.{Operation, stamp_of}
use Rattle.rt_ops.specs.Rules.{each_next}
use Rattle.rt_ops.specs.File.{magic, number, content_of, record_of, file_of, HasRecord, AreInFile}
use Rattle.rt_ops.specs.Reading.{head_of, offsets_from, EndsEarly, IsEnd, ReadsAs, HasNoRecord, IsBroken, Reads, stamp_of_last, may_follow}
use Rattle.rt_ops.specs.Versions.{file_name}
use Rattle.rt_stamps.specs.Streams.{Stream}
use Rattle.rt_ops.specs.Intake.{Takes, Finishes, IsStopped, Fails, GetsHead, HasRead, IsTold, ReadsFile, LacksMemory}
use Rattle.rt_ops.proofs.Lengths.{length_4, same_front, content_short}
use Rattle.rt_ops.proofs.Spells.{front_same_4, same_content}
use Rattle.rt_ops.proofs.Taken.{takes_then, finishes_then, stopped_then, magic_length, head_by, head_is_magic, took_magic}

-- ---- records

pub same_record : {ver : Version} (a b : Operation) (x y : List ℕ) → HasRecord ver a → HasRecord ver b → record_of ver a ++ x ≡ record_of ver b ++ y → (a ≡ b) × (x ≡ y)
same_record {ver} a b x y has so e =
    let m = length (content_of ver a) in
    let n = length (content_of ver b) in
    let p = front_same_4 m n (content_of ver a ++ x) (content_of ver b ++ y) (omega (arith, content_short ver a has.rules)) (omega (arith, content_short ver b so.rules))
    (sym (append_assoc (number w32 m) (content_of ver a) x) ∙ e ∙ append_assoc (number w32 n) (content_of ver b) y) in
    let q = same_front (content_of ver a) (content_of ver b) x y p.0 p.1 in
    (same_content a b has so q.0, q.1)

-- a record doesn't end early
pub is_whole : {ver : Version} (op : Operation) (more : List ℕ) → HasRecord ver op → EndsEarly ver (record_of ver op ++ more) → ⊥
is_whole {ver} op more has (inl lt) =
    let n = length (content_of ver op) in
    omega (arith, length-append (record_of ver op) more, length-append (number w32 n) (content_of ver op), length_4 n)
is_whole {ver} op more has (inr r) =
    let n = length (content_of ver op) in
    let p = front_same_4 n r.0 (content_of ver op ++ more) r.1 (omega (arith, content_short ver op has.rules)) (omega (arith, r.4)) (sym (append_assoc (number w32 n) (content_of ver op) more) ∙ r.2) in
    omega (arith, p.0, ap length p.1, length-append (content_of ver op) more, r.5)

pub record_some : (ver : Version) (op : Operation) (more : List ℕ) → 0 < length (record_of ver op ++ more)
record_some ver op more =
    let n = length (content_of ver op) in
    omega (arith, length-append (record_of ver op) more, length-append (number w32 n) (content_of ver op), length_4 n)

-- ---- one more operation

pub spelling_push : (ver : Version) (ops : List Operation) (op : Operation) → file_of ver (ops ++ op ∷ []) ≡ file_of ver ops ++ record_of ver op
spelling_push ver ops op =
    ap (λ v. magic ver ++ v) (flat_map-append (record_of ver) ops (op ∷ []) ∙ ap (λ v. flat_map (record_of ver) ops ++ v) (append-nil (record_of ver op)))
    ∙ sym (append_assoc (magic ver) (flat_map (record_of ver) ops) (record_of ver op))

pub offsets_push : (ver : Version) (at : ℕ) (ops : List Operation) (op : Operation) → offsets_from ver at (ops ++ op ∷ []) ≡ offsets_from ver at ops ++ (at + length (flat_map (record_of ver) ops)) ∷ []
offsets_push ver at [] op = ap (λ n. n ∷ []) (omega arith)
offsets_push ver at (q ∷ ops) op =
    let rest = offsets_push ver (at + length (record_of ver q)) ops op in
    let same : (at + length (record_of ver q)) + length (flat_map (record_of ver) ops) ≡ at + length (record_of ver q ++ flat_map (record_of ver) ops) = omega (arith, length-append (record_of ver q) (flat_map (record_of ver) ops)) in
    ap (λ v. at ∷ v) (rest ∙ ap (λ n. offsets_from ver (at + length (record_of ver q)) ops ++ n ∷ []) same)

pub spelling_length : (ver : Version) (ops : List Operation) → length (file_of ver ops) ≡ 8 + length (flat_map (record_of ver) ops)
spelling_length ver ops = omega (arith, length-append (magic ver) (flat_map (record_of ver) ops), magic_length ver)

pub offsets_more : (ver : Version) (ops : List Operation) (offsets : List ℕ) (op : Operation) (at : ℕ) → offsets ≡ offsets_from ver 8 ops → at ≡ length (file_of ver ops) → offsets ++ at ∷ [] ≡ offsets_from ver 8 (ops ++ op ∷ [])
offsets_more ver ops offsets op at off place =
    ap (λ v. v ++ at ∷ []) off ∙ ap (λ n. offsets_from ver 8 ops ++ n ∷ []) (place ∙ spelling_length ver ops) ∙ sym (offsets_push ver 8 ops op)

pub all_push : {ver : Version} (ops : List Operation) (op : Operation) → AllByRecursion (HasRecord ver) ops → HasRecord ver op → AllByRecursion (HasRecord ver) (ops ++ op ∷ [])
all_push {ver} [] op h has = (has, tt)
all_push {ver} (q ∷ ops) op h has = (h.0, all_push ops op h.1 has)

abbrev rises : Operation → Operation → Bool
rises a b = is_before (stamp_of a) (stamp_of b)

pub rising_push : (ops : List Operation) (op : Operation) → each_next rises ops ≡ true → may_follow (stamp_of_last ops) op ≡ true → each_next rises (ops ++ op ∷ []) ≡ true
rising_push [] op h f = refl
rising_push (q ∷ []) op h f = grind (arith, nat_tests)
rising_push (q ∷ (r ∷ ops)) op h f =
    let one : rises q r ≡ true = grind (arith, nat_tests) in
    let others : each_next rises (r ∷ ops) ≡ true = grind (arith, nat_tests) in
    let rest : each_next rises ((r ∷ ops) ++ op ∷ []) ≡ true = rising_push (r ∷ ops) op others f in
    rw (one, rest) refl

pub rising_last : (ops : List Operation) (op : Operation) → each_next rises (ops ++ op ∷ []) ≡ true → may_follow (stamp_of_last ops) op ≡ true
rising_last [] op h = refl
rising_last (q ∷ []) op h = grind (arith, nat_tests)
rising_last (q ∷ (r ∷ ops)) op h =
    let rest : each_next rises ((r ∷ ops) ++ op ∷ []) ≡ true = grind (arith, nat_tests) in
    rising_last (r ∷ ops) op rest

pub last_push : (ops : List Operation) (op : Operation) → stamp_of_last (ops ++ op ∷ []) ≡ Some (stamp_of op)
last_push [] op = refl
last_push (q ∷ []) op = refl
last_push (q ∷ (r ∷ ops)) op = last_push (r ∷ ops) op

pub in_file_none : {ver : Version} → AreInFile ver []
in_file_none {ver} = record { records = tt; rising = refl }

pub in_file_push : {ver : Version} (ops : List Operation) (op : Operation) → AreInFile ver ops → HasRecord ver op → may_follow (stamp_of_last ops) op ≡ true → AreInFile ver (ops ++ op ∷ [])
in_file_push {ver} ops op are has f = record { records = all_push ops op are.records has; rising = rising_push ops op are.rising f }

pub last_has : {ver : Version} (ops : List Operation) (op : Operation) → AllByRecursion (HasRecord ver) (ops ++ op ∷ []) → HasRecord ver op
last_has {ver} [] op h = h.0
last_has {ver} (q ∷ ops) op h = last_has ops op h.1

-- ---- what is read of bytes

pub magic_ok : (ver : Version) → head_of (magic ver) ≡ Ok ver
unfolding magic file_name
magic_ok One = refl
magic_ok Two = refl

pub front_is_magic : (ver : Version) (bytes rest : List ℕ) (ops : List Operation) → bytes ≡ file_of ver ops ++ rest → take 8 bytes ≡ magic ver
front_is_magic ver bytes rest ops parts =
    ap (take 8) (parts ∙ append_assoc (magic ver) (flat_map (record_of ver) ops) rest) ∙ take_at (magic ver) (flat_map (record_of ver) ops ++ rest) 8 (magic_length ver)

pub reads_records : {ver : Version} (bytes : List ℕ) (ops : List Operation) (offsets : List ℕ) (fault : Option (Fault × ℕ)) (rest : List ℕ) → bytes ≡ file_of ver ops ++ rest → AreInFile ver ops → offsets ≡ offsets_from ver 8 ops → IsEnd ver ops rest fault → Reads bytes ops offsets fault
reads_records {ver} bytes ops offsets fault rest parts are off end =
    subst (λ (o : Result Version Fault). ReadsAs o bytes ops offsets fault) (sym (ap head_of (front_is_magic ver bytes rest ops parts) ∙ magic_ok ver)) (rest, parts, are, off, end)

name_length : length file_name ≡ 7
unfolding file_name
name_length = refl

pub named_same : (front : List ℕ) (n : ℕ) → n ≡ min (length front) 7 → bytes_eq (take n front) (take (length (take n front)) file_name) ≡ bytes_eq (take 7 front) (take (length front) file_name)
named_same front n e = elim (cases_lt (length front) 7) [
  | inl lt ↦ (
      let mine : take n front ≡ front = take_all n front (omega (arith, e)) in
      let theirs : take 7 front ≡ front = take_all 7 front (omega arith) in
      ap (λ v. bytes_eq v (take (length v) file_name)) mine ∙ ap (λ v. bytes_eq v (take (length front) file_name)) (sym theirs))
  | inr le ↦ (
      let seven : n ≡ 7 = omega (arith, e) in
      let size : length (take 7 front) ≡ 7 = omega (arith, length-take 7 front) in
      ap (λ m. bytes_eq (take m front) (take (length (take m front)) file_name)) seven
      ∙ ap (λ v. bytes_eq (take 7 front) v) (ap (λ m. take m file_name) size ∙ take_all 7 file_name (omega (arith, name_length)) ∙ sym (take_all (length front) file_name (omega (arith, name_length)))))
]

pub reads_head : (bytes front rest : List ℕ) (fault : Fault) → bytes ≡ front ++ rest → length front ≤ 8 → (length front < 8 → rest ≡ []) → head_of front ≡ Err fault → Reads bytes [] [] (Some (fault, 0))
reads_head bytes front rest fault parts short end found =
    subst (λ (o : Result Version Fault). ReadsAs o bytes [] [] (Some (fault, 0))) (sym (ap head_of same ∙ found)) (refl, refl, refl)
  where
    same : take 8 bytes ≡ front
    same = elim (cases_lt (length front) 8) [
      | inl lt ↦ ap (take 8) (parts ∙ ap (λ v. front ++ v) (end lt) ∙ append-nil front) ∙ take_all 8 front short
      | inr le ↦ ap (take 8) parts ∙ take_at front rest 8 (omega arith)
    ]

-- ---- how reading a file ends

pub has_read : (a b : Stream) (x y : Bounds) (bytes : List ℕ) → Takes a b x y bytes → HasRead x a b bytes
has_read a b x y bytes h = record { consumed = h.consumed; within = omega (arith, h.room); failures = h.failures; calls = omega (arith, h.reads); each = omega (arith, h.calls) }

pub has_finished : (a b : Stream) (x y : Bounds) (bytes : List ℕ) → Finishes a b x y bytes → HasRead x a b bytes
has_finished a b x y bytes h = record { consumed = h.consumed; within = omega (arith, h.room); failures = h.failures; calls = omega (arith, h.reads); each = omega (arith, h.calls) }

not_read_or_memory : (named short one two : Bool) (fault : Fault) → head_by named short one two ≡ Err fault → (fault ≡ NoMemory → ⊥) × (fault ≡ ReadFault → ⊥)
not_read_or_memory false short one two fault e = ((λ is. cc), λ is. cc)
not_read_or_memory true true one two fault e = ((λ is. cc), λ is. cc)
not_read_or_memory true false true two fault e = absurd cc
not_read_or_memory true false false true fault e = absurd cc
not_read_or_memory true false false false fault e = ((λ is. cc), λ is. cc)

head_faults : (front : List ℕ) (fault : Fault) → head_of front ≡ Err fault → (fault ≡ NoMemory → ⊥) × (fault ≡ ReadFault → ⊥)
head_faults front fault e = not_read_or_memory (bytes_eq (take 7 front) (take (length front) file_name)) (nat_lt (length front) 8) (bytes_eq front (magic One)) (bytes_eq front (magic Two)) fault e

-- the fault of the first eight bytes isn't that a read failed
pub not_read : (front : List ℕ) (fault : Fault) → head_of front ≡ Err fault → fault ≡ ReadFault → ⊥
not_read front fault e = (head_faults front fault e).1

-- the fault of the first eight bytes isn't want of memory
not_memory : (front : List ℕ) (fault : Fault) → head_of front ≡ Err fault → fault ≡ NoMemory → ⊥
not_memory front fault e = (head_faults front fault e).0

-- what is told of the first eight bytes that were read, or of all where there are fewer
pub got_head : (a b : Stream) (x y : Bounds) (s front : List ℕ) (result : Result Version Fault) → result ≡ head_of front → front ≡ s → (length s ≤ 8) × (8 ≤ length s → Takes a b x y s) × (length s < 8 → Finishes a b x y s) → GetsHead a b x y result
got_head a b x y s front (Ok ver) is same got = took_magic a b x y s front ver same (sym is) got.1
got_head a b x y s front (Err fault) is same got = (s, inr (inl (ap head_of (sym same) ∙ sym is, got.0, got.1, got.2)))

pub gave_head : {G : Type 0} (s front : List ℕ) (result : Result Version Fault) → result ≡ head_of front → front ≡ s → (8 ≤ length s → G) → IfOk result (λ ver. G)
gave_head s front (Ok ver) is same gave = gave (omega (arith, ap length (sym same ∙ head_is_magic front ver (sym is)), magic_length ver))
gave_head s front (Err fault) is same gave = tt

pub unseen_head : (G : Fault → Type 0) (front : List ℕ) (result : Result Version Fault) → result ≡ head_of front → IfErr result (λ fault. fault ≡ ReadFault → G fault)
unseen_head G front (Ok ver) is = tt
unseen_head G front (Err fault) is = λ read. absurd (not_read front fault (sym is) read)

pub ends_whole : {ver : Version} (a b c : Stream) (x y z : Bounds) (ops : List Operation) (offsets : List ℕ) → Takes a b x y (file_of ver ops) → AreInFile ver ops → offsets ≡ offsets_from ver 8 ops → Finishes b c y z [] → ReadsFile x a c ops offsets None
ends_whole {ver} a b c x y z ops offsets h are off e =
    let bytes = file_of ver ops ++ [] in
    inl (bytes, has_finished a c x z bytes (finishes_then a b c x y z (file_of ver ops) [] h e), inl (e.at_end, reads_records bytes ops offsets None [] refl are off refl))

pub ends_fault : {ver : Version} (a b c : Stream) (x y z : Bounds) (ops : List Operation) (offsets : List ℕ) (fault : Fault) (at : ℕ) → Takes a b x y (file_of ver ops) → AreInFile ver ops → offsets ≡ offsets_from ver 8 ops → Fails ver b c y z fault
    → (fault ≡ NoMemory → ⊥) → at ≡ length (file_of ver ops) → ReadsFile x a c ops offsets (Some (fault, at))
ends_fault {ver} a b c x y z ops offsets fault at h are off fails other place = by fails.1
  where
    taken : List ℕ
    taken = fails.0

    bytes : List ℕ
    bytes = file_of ver ops ++ taken

    truncated : (fault ≡ Truncated) × Finishes b c y z taken × (0 < length taken) × EndsEarly ver taken → ReadsFile x a c ops offsets (Some (fault, at))
    truncated t = inl (
      bytes,
      has_finished a c x z bytes (finishes_then a b c x y z (file_of ver ops) taken h t.1),
      inl (t.1.at_end, reads_records bytes ops offsets (Some (fault, at)) taken refl are off (place, inl (t.0, (t.2, t.3)))),
    )

    broken : (fault ≡ BadRecord) × Takes b c y z taken × HasNoRecord ver taken → ReadsFile x a c ops offsets (Some (fault, at))
    broken t = inl (
      bytes,
      has_read a c x z bytes (takes_then a b c x y z (file_of ver ops) taken h t.1),
      inr (λ rest. reads_records (bytes ++ rest) ops offsets (Some (fault, at)) (taken ++ rest) (append_assoc (file_of ver ops) taken rest) are off (
        place,
        inr (
          t.0,
          record {
            some = omega (arith, t.2.some, length-append taken rest);
            whole = t.2.whole rest;
            none = λ op more next e. t.2.none op rest more (last_has ops op next.records) e;
          },
        ),
      )),
    )

    by : ((fault ≡ NoMemory) × Takes b c y z taken)
        ⊎ (((fault ≡ Truncated) × Finishes b c y z taken × (0 < length taken) × EndsEarly ver taken)
        ⊎ (((fault ≡ BadRecord) × Takes b c y z taken × HasNoRecord ver taken)
        ⊎ ((fault ≡ ReadFault) × IsStopped b c y taken × EndsEarly ver taken))) → ReadsFile x a c ops offsets (Some (fault, at))
    by (inl memory) = absurd (other memory.0)
    by (inr (inl t)) = truncated t
    by (inr (inr (inl t))) = broken t
    by (inr (inr (inr t))) = inr (at, file_of ver ops ++ taken, ap (λ f. Some (f, at)) t.0, inr (ver, taken, refl, are, off, place, t.2), stopped_then a b c x y (file_of ver ops) taken h t.1)

-- the record of an operation that may not follow
pub broken_unrisen : {ver : Version} (ops : List Operation) (op : Operation) (rest : List ℕ) → HasRecord ver op → may_follow (stamp_of_last ops) op ≡ false → IsBroken ver ops (record_of ver op ++ rest)
broken_unrisen {ver} ops op rest has out = record {
  some = record_some ver op rest;
  whole = is_whole op rest has;
  none = λ other more next e.
      let same = same_record op other rest more has (last_has ops other next.records) e in
      false≢true (sym out ∙ ap (λ o. may_follow (stamp_of_last ops) o) same.0 ∙ rising_last ops other next.rising);
}

pub ends_unrisen : {ver : Version} (a b c : Stream) (x y z : Bounds) (ops : List Operation) (offsets : List ℕ) (op : Operation) (at : ℕ) → Takes a b x y (file_of ver ops) → AreInFile ver ops → offsets ≡ offsets_from ver 8 ops → Takes b c y z (record_of ver op) → HasRecord ver op
    → may_follow (stamp_of_last ops) op ≡ false → at ≡ length (file_of ver ops) → ReadsFile x a c ops offsets (Some (BadRecord, at))
ends_unrisen {ver} a b c x y z ops offsets op at h are off t has out place =
    let bytes = file_of ver ops ++ record_of ver op in
    inl (
      bytes,
      has_read a c x z bytes (takes_then a b c x y z (file_of ver ops) (record_of ver op) h t),
      inr (λ rest. reads_records (bytes ++ rest) ops offsets (Some (BadRecord, at)) (record_of ver op ++ rest) (append_assoc (file_of ver ops) (record_of ver op) rest) are off (
        place,
        inr (refl, broken_unrisen ops op rest has out),
      )),
    )

pub ends_head : (a b : Stream) (x y : Bounds) (fault : Fault) → (bytes : List ℕ) × (((fault ≡ NoMemory) × Takes a b x y bytes)
    ⊎ (((head_of bytes ≡ Err fault) × (length bytes ≤ 8) × (8 ≤ length bytes → Takes a b x y bytes) × (length bytes < 8 → Finishes a b x y bytes))
    ⊎ ((fault ≡ ReadFault) × IsStopped a b x bytes × (length bytes < 8)))) → (fault ≡ NoMemory → ⊥) → ReadsFile x a b [] [] (Some (fault, 0))
ends_head a b x y fault gets other = by gets.1
  where
    bytes : List ℕ
    bytes = gets.0

    read : (8 ≤ length bytes → Takes a b x y bytes) → (length bytes < 8 → Finishes a b x y bytes) → HasRead x a b bytes
    read takes finishes = elim (cases_lt (length bytes) 8) [ inl lt ↦ has_finished a b x y bytes (finishes lt) | inr le ↦ has_read a b x y bytes (takes le) ]

    told : head_of bytes ≡ Err fault → length bytes ≤ 8 → (length bytes < 8 → IsAtEnd b.bytes) → IsTold b.bytes bytes [] [] (Some (fault, 0))
    told found short end = elim (cases_lt (length bytes) 8) [
      | inl lt ↦ inl (end lt, reads_head bytes bytes [] fault (sym (append-nil bytes)) short (λ less. refl) found)
      | inr le ↦ inr (λ rest. reads_head (bytes ++ rest) bytes rest fault refl short (λ lt. absurd (omega (arith, le, lt))) found)
    ]

    by : ((fault ≡ NoMemory) × Takes a b x y bytes)
        ⊎ (((head_of bytes ≡ Err fault) × (length bytes ≤ 8) × (8 ≤ length bytes → Takes a b x y bytes) × (length bytes < 8 → Finishes a b x y bytes))
        ⊎ ((fault ≡ ReadFault) × IsStopped a b x bytes × (length bytes < 8))) → ReadsFile x a b [] [] (Some (fault, 0))
    by (inl memory) = absurd (other memory.0)
    by (inr (inl t)) = inl (bytes, read t.2 t.3, told t.0 t.1 (λ lt. (t.3 lt).at_end))
    by (inr (inr t)) = inr (0, bytes, ap (λ f. Some (f, 0)) t.0, inl (t.2, refl, refl, refl), t.1)

-- ---- an offset for each operation

offsets_length : (ver : Version) (at : ℕ) (ops : List Operation) → length (offsets_from ver at ops) ≡ length ops
offsets_length ver at [] = refl
offsets_length ver at (op ∷ ops) = ap suc (offsets_length ver (at + length (record_of ver op)) ops)

pub reads_length : (bytes : List ℕ) (ops : List Operation) (offsets : List ℕ) (fault : Option (Fault × ℕ)) → Reads bytes ops offsets fault → length offsets ≡ length ops
reads_length bytes ops offsets fault h = by (head_of (take 8 bytes)) h
  where
    by : (found : Result Version Fault) → ReadsAs found bytes ops offsets fault → length offsets ≡ length ops
    by (Err found) r = ap length r.1 ∙ sym (ap length r.0)
    by (Ok ver) r = ap length r.3 ∙ offsets_length ver 8 ops

pub each_has_place : {R : Type 0} (result : Result R Fault) (bytes : List ℕ) (view : R → List Operation) (places : R → List ℕ) (found : R → Option (Fault × ℕ)) → IfOk result (λ r. Reads bytes (view r) (places r) (found r))
    → IfOk result (λ r. length (places r) ≡ length (view r))
each_has_place (Ok r) bytes view places found h = reads_length bytes (view r) (places r) (found r) h
each_has_place (Err fault) bytes view places found h = tt

pub offset_each : (x : Bounds) (a b : Stream) (ops : List Operation) (offsets : List ℕ) (fault : Option (Fault × ℕ)) → ReadsFile x a b ops offsets fault → length offsets ≡ length ops
offset_each x a b ops offsets fault (inl h) = elim h.2 [ inl t ↦ reads_length h.0 ops offsets fault t.1 | inr f ↦ reads_length (h.0 ++ []) ops offsets fault (f []) ]
offset_each x a b ops offsets fault (inr h) = elim h.3 [ inl s ↦ ap length s.2 ∙ sym (ap length s.1) | inr s ↦ ap length s.4 ∙ offsets_length s.0 8 ops ]

-- ---- want of memory

pub memory_in : {ver : Version} (a b c : Stream) (x y z : Bounds) (taken : List ℕ) (fault : Fault) → Takes a b x y taken → Fails ver b c y z fault → fault ≡ NoMemory → LacksMemory x a c
memory_in {ver} a b c x y z taken fault h fails is = by fails.1
  where
    more : List ℕ
    more = fails.0

    by : ((fault ≡ NoMemory) × Takes b c y z more)
        ⊎ (((fault ≡ Truncated) × Finishes b c y z more × (0 < length more) × EndsEarly ver more)
        ⊎ (((fault ≡ BadRecord) × Takes b c y z more × HasNoRecord ver more)
        ⊎ ((fault ≡ ReadFault) × IsStopped b c y more × EndsEarly ver more))) → LacksMemory x a c
    by (inl t) = (taken ++ more, has_read a c x z (taken ++ more) (takes_then a b c x y z taken more h t.1))
    by (inr (inl t)) = absurd (cc (is, t.0))
    by (inr (inr (inl t))) = absurd (cc (is, t.0))
    by (inr (inr (inr t))) = absurd (cc (is, t.0))

pub memory_after : (a b c : Stream) (x y z : Bounds) (taken more : List ℕ) → Takes a b x y taken → Takes b c y z more → LacksMemory x a c
memory_after a b c x y z taken more h k = (taken ++ more, has_read a c x z (taken ++ more) (takes_then a b c x y z taken more h k))

pub memory_first : (a b : Stream) (x y : Bounds) (fault : Fault) → GetsHead a b x y (Err fault) → fault ≡ NoMemory → LacksMemory x a b
memory_first a b x y fault gets is = by gets.1
  where
    bytes : List ℕ
    bytes = gets.0

    other : head_of bytes ≡ Err fault → ⊥
    other e = not_memory bytes fault e is

    by : ((fault ≡ NoMemory) × Takes a b x y bytes)
        ⊎ (((head_of bytes ≡ Err fault) × (length bytes ≤ 8) × (8 ≤ length bytes → Takes a b x y bytes) × (length bytes < 8 → Finishes a b x y bytes))
        ⊎ ((fault ≡ ReadFault) × IsStopped a b x bytes × (length bytes < 8))) → LacksMemory x a b
    by (inl t) = (bytes, has_read a b x y bytes t.1)
    by (inr (inl t)) = absurd (other t.0)
    by (inr (inr t)) = absurd (cc (is, t.0))

-- what was read up to a fault
pub ended_as : {R : Type 0} (result : Result R Fault) (view : R → List Operation) (places : R → List ℕ) (found : R → Option (Fault × ℕ)) (P : List Operation → List ℕ → Option (Fault × ℕ) → Type 0) (ops : List Operation) (offsets : List ℕ) (fault : Fault) (at : ℕ)
    → IfOk result (λ r. view r ≡ ops) → IfOk result (λ r. places r ≡ offsets) → IfOk result (λ r. (found r ≡ Some (fault, at)) × (fault ≡ NoMemory → ⊥))
    → ((fault ≡ NoMemory → ⊥) → P ops offsets (Some (fault, at))) → IfOk result (λ r. P (view r) (places r) (found r))
ended_as (Ok r) view places found P ops offsets fault at v p f reads = rw (v, p, f.0) (reads f.1)
ended_as (Err refused) view places found P ops offsets fault at v p f reads = tt

pub ended_memory : {R : Type 0} (result : Result R Fault) (x : Bounds) (a c : Stream) (fault : Fault) → IfErr result (λ refused. (refused ≡ NoMemory) × (fault ≡ NoMemory)) → (fault ≡ NoMemory → LacksMemory x a c)
    → IfErr result (λ refused. (refused ≡ NoMemory) × LacksMemory x a c)
ended_memory (Ok r) x a c fault h lacks = tt
ended_memory (Err refused) x a c fault h lacks = (h.0, lacks h.1)

-- what is known of a fault is known of what was read up to it
pub ended_by : {R : Type 0} (result : Result R Fault) (found : R → Option (Fault × ℕ)) (P : Fault → Type 0) (fault : Fault) (at : ℕ) → IfOk result (λ r. (found r ≡ Some (fault, at)) × (fault ≡ NoMemory → ⊥)) → P fault
    → IfOk result (λ r. IfSome (found r) (λ f. P f.0))
ended_by (Ok r) found P fault at f p = rw f.0 p
ended_by (Err refused) found P fault at f p = tt

-- one more record is read
pub records_more : {ver : Version} (a b c : Stream) (x y z : Bounds) (ops : List Operation) (offsets : List ℕ) (op : Operation) (at : ℕ) → Takes a b x y (file_of ver ops) → AreInFile ver ops → offsets ≡ offsets_from ver 8 ops → Takes b c y z (record_of ver op) → HasRecord ver op
    → may_follow (stamp_of_last ops) op ≡ true → at ≡ length (file_of ver ops)
    → Takes a c x z (file_of ver (ops ++ op ∷ [])) × AreInFile ver (ops ++ op ∷ []) × (offsets ++ at ∷ [] ≡ offsets_from ver 8 (ops ++ op ∷ []))
records_more {ver} a b c x y z ops offsets op at h are off t has f place = (
  subst (Takes a c x z) (sym (spelling_push ver ops op)) (takes_then a b c x y z (file_of ver ops) (record_of ver op) h t),
  in_file_push ops op are has f,
  offsets_more ver ops offsets op at off place,
)

pub follows : (ops : List Operation) (last : Option Stamp) (op : Operation) (b : Bool) → last ≡ stamp_of_last ops → b ≡ may_follow last op → may_follow (stamp_of_last ops) op ≡ b
follows ops last op b same h = ap (λ l. may_follow l op) (sym same) ∙ sym h
