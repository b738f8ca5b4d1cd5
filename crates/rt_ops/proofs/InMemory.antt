-- The records of a file in memory.
use Rattle.std.proofs.Common.{◌≡◌, ℕ, ◌+◌, ◌<◌, ◌≤◌, ◌^◌, true, false, List, [], ◌∷◌, ◌++◌, length, take, drop, Option, Some, None, Ok, refl, sym, ap, subst, ◌∙◌, append_assoc, append-nil, arith, inl, inr}
use Rattle.std.specs.Prelude.{◌⊎◌, min}
use Rattle.std.specs.Int.{w32}
use Rattle.std.proofs.lemmas.Bool.{false≢true}
use Rattle.std.proofs.lemmas.Bool.Decides.{nat_tests}
use Rattle.std.proofs.lemmas.List.{length-append, length-take, take_at, drop_at, take_min, drop-drop, take-append-drop, append_cancel_right}
use Rattle.rt_stamps.specs.declared.limits.TheConstants.{MOST_RECORD_BYTES}
use Rattle.rt_stamps.specs.declared.fault.Fault.{Fault}
use Rattle.rt_stamps.specs.declared.fault.Fault.TheVariants.{NoMemory, Truncated, BadRecord}
use Rattle.rt_stamps.specs.declared.stamp.Stamp.{Stamp}
use Rattle.rt_ops.specs.declared.version.Version.{Version}
use Rattle.rt_ops.specs.Versions.{fewest}
use Rattle.rt_ops.specs.Operations.{Operation, stamp_of}
use Rattle.rt_ops.specs.Decoding.{RefusesBytes}
use Rattle.rt_ops.specs.File.{magic, number, content_of, record_of, file_of, HasRecord, AreInFile}
use Rattle.rt_ops.specs.Rules.{is_within}
use Rattle.rt_ops.specs.Reading.{head_of, EndsEarly, HasNoRecord, IsBroken, IsEnd, Reads, offsets_from, stamp_of_last, may_follow}
use Rattle.rt_ops.specs.Records.{Left, HasTaken, IsFileUpTo, TakesRecord, RefusesRecord}
use Rattle.rt_ops.proofs.Lengths.{length_4}
use Rattle.rt_ops.proofs.Taken.{bad_length, bad_content, magic_length, head_is_magic}
use Rattle.rt_ops.proofs.Readings.{broken_unrisen, in_file_none, in_file_push, last_has, last_push, reads_records, spelling_push}
use Rattle.rt_ops.proofs.Unique.{one_list}

-- ---- the length and the content of a record

pub no_length : {ver : Version} (bytes rest : List ℕ) (n : ℕ) → n < 2 ^ 32 → bytes ≡ number w32 n ++ rest → is_within (fewest ver) MOST_RECORD_BYTES n ≡ false → (4 ≤ length bytes) × HasNoRecord ver (take 4 bytes)
no_length {ver} bytes rest n few parts out = (
  omega (arith, ap length parts, length-append (number w32 n) rest, length_4 n),
  bad_length (take 4 bytes) n few (ap (take 4) parts ∙ take_at (number w32 n) rest 4 (length_4 n)) (λ range.
      let inside : is_within (fewest ver) MOST_RECORD_BYTES n ≡ true = grind (arith, nat_tests, range.0, range.1) in
      false≢true (sym out ∙ inside)),
)

none_before : {ver : Version} (front rest : List ℕ) → HasNoRecord ver front → HasNoRecord ver (front ++ rest)
none_before {ver} front rest h = record {
  some = omega (arith, h.some, length-append front rest);
  whole = λ more early. h.whole (rest ++ more) (subst (EndsEarly ver) (append_assoc front rest more) early);
  none = λ op more tail has e. h.none op (rest ++ more) tail has (sym (append_assoc front rest more) ∙ e);
}

pub none_of_length : {ver : Version} (bytes : List ℕ) → HasNoRecord ver (take 4 bytes) → HasNoRecord ver bytes
none_of_length {ver} bytes h = subst (HasNoRecord ver) (take-append-drop 4 bytes) (none_before (take 4 bytes) (drop 4 bytes) h)

pub cut_in : (ver : Version) (bytes rest : List ℕ) (n : ℕ) → bytes ≡ number w32 n ++ rest → fewest ver ≤ n → n ≤ MOST_RECORD_BYTES → length rest < n → EndsEarly ver bytes
cut_in ver bytes rest n parts least most lt = inr (n, rest, parts, least, most, lt)

pub content_in : (ver : Version) (bytes rest content : List ℕ) (n : ℕ) → bytes ≡ number w32 n ++ rest → fewest ver ≤ n → n ≤ MOST_RECORD_BYTES → n ≤ length rest → content ≡ take n rest
    → (fewest ver ≤ length content) × (length content ≤ MOST_RECORD_BYTES) × (bytes ≡ (number w32 (length content) ++ content) ++ drop (4 + length content) bytes)
content_in ver bytes rest content n parts least most long is =
    let size : length content ≡ n = omega (arith, ap length is, length-take n rest, long) in
    let left : drop (4 + n) bytes ≡ drop n rest = sym (drop-drop n 4 bytes) ∙ ap (λ v. drop n (drop 4 v)) parts ∙ ap (drop n) (drop_at (number w32 n) rest 4 (length_4 n)) in
    let all : bytes ≡ (number w32 n ++ content) ++ drop (4 + n) bytes =
    parts ∙ ap (λ v. number w32 n ++ v) (sym (take-append-drop n rest) ∙ ap (λ v. v ++ drop n rest) (sym is) ∙ ap (λ v. content ++ v) (sym left)) ∙ sym (append_assoc (number w32 n) content (drop (4 + n) bytes)) in
    (omega (arith, size, least), omega (arith, size, most), subst (λ m. bytes ≡ (number w32 m ++ content) ++ drop (4 + m) bytes) (sym size) all)

-- ---- what was taken

-- one list of operations has the records that were taken
pub same_taken : (left : Left) (one other : List Operation) → HasTaken left one → HasTaken left other → one ≡ other
same_taken left one other h k = one_list left.version one other h.are.records k.are.records (append_cancel_right (file_of left.version one) (file_of left.version other) left.rest (sym h.bytes ∙ k.bytes))

pub begun : {ver : Version} (bytes front : List ℕ) → front ≡ take (min (length bytes) 8) bytes → head_of front ≡ Ok ver → IsFileUpTo ver bytes 8 None []
begun {ver} bytes front is found =
    let whole : take 8 bytes ≡ magic ver = sym (is ∙ least) ∙ head_is_magic front ver found in
    record {
      taken = record { bytes = sym (take-append-drop 8 bytes) ∙ ap (λ v. v ++ drop 8 bytes) (whole ∙ sym (append-nil (magic ver))); are = in_file_none };
      offset_is = omega (arith, ap length (append-nil (magic ver)), magic_length ver);
      last_is = refl;
    }
  where
    least : take (min (length bytes) 8) bytes ≡ take 8 bytes
    least = ap (λ n. take n bytes) (omega arith) ∙ take_min 8 bytes

pub front_of : (bytes front : List ℕ) → front ≡ take (min (length bytes) 8) bytes → front ≡ take 8 bytes
front_of bytes front is = let same : min (length bytes) 8 ≡ min 8 (length bytes) = omega arith in is ∙ ap (λ n. take n bytes) same ∙ take_min 8 bytes

pub where_taken : {ver : Version} (bytes : List ℕ) (offset : ℕ) (last : Option Stamp) (ops other : List Operation) → IsFileUpTo ver bytes offset last ops → HasTaken (record { version = ver; bytes = bytes; rest = drop offset bytes }) other → offset ≡ length (file_of ver other)
where_taken {ver} bytes offset last ops other h k = h.offset_is ∙ ap (λ v. length (file_of ver v)) (same_taken _ ops other h.taken k)

-- ---- why no record is taken

broken : {ver : Version} (ops : List Operation) (rest : List ℕ) → HasNoRecord ver rest → IsBroken ver ops rest
broken {ver} ops rest h = record {
  some = h.some;
  whole = λ early. h.whole [] (subst (EndsEarly ver) (sym (append-nil rest)) early);
  none = λ op more next e. h.none op [] more (last_has ops op next.records) (append-nil rest ∙ e);
}

pub refused_bytes : (left : Left) (fault : Fault) → 0 < length left.rest → ((fault ≡ Truncated) × EndsEarly left.version left.rest) ⊎ ((fault ≡ BadRecord) × HasNoRecord left.version left.rest) → RefusesRecord left fault
refused_bytes left fault some (inl cut) = inr (λ ops taken. (refl, inl (cut.0, (some, cut.1))))
refused_bytes left fault some (inr bad) = inr (λ ops taken. (refl, inr (bad.0, broken ops left.rest bad.1)))

pub refused_in : (left : Left) (content more : List ℕ) (fault : Fault) → fewest left.version ≤ length content → length content ≤ MOST_RECORD_BYTES → left.rest ≡ (number w32 (length content) ++ content) ++ more
    → RefusesBytes fault ((op : Operation) → HasRecord left.version op → content ≡ content_of left.version op → ⊥) → RefusesRecord left fault
refused_in left content more fault least most parts (inl memory) =
    inl (memory, record { content = content; more = more; parts = parts; least = least; most = most })
refused_in left content more fault least most parts (inr bad) =
    let none : HasNoRecord left.version left.rest = subst (HasNoRecord left.version) (sym parts) (none_before _ more (bad_content content (length content) least most refl bad.1)) in
    refused_bytes left fault none.some (inr (bad.0, none))

-- the record of an operation that may not follow
pub refused_after : {ver : Version} (bytes rest : List ℕ) (offset : ℕ) (last : Option Stamp) (all : List Operation) (op : Operation) → IsFileUpTo ver bytes offset last all → HasRecord ver op → drop offset bytes ≡ record_of ver op ++ rest → may_follow last op ≡ false
    → RefusesRecord (record { version = ver; bytes = bytes; rest = drop offset bytes }) BadRecord
refused_after {ver} bytes rest offset last all op at has parts out = inr (λ ops taken.
    let same : all ≡ ops = same_taken _ all ops at.taken taken in
    let after : may_follow (stamp_of_last ops) op ≡ false = ap (λ l. may_follow l op) (sym (at.last_is ∙ ap stamp_of_last same)) ∙ out in
    (refl, inr (refl, subst (IsBroken ver ops) (sym parts) (broken_unrisen ops op rest has after))))

-- ---- a record is taken

taken_more : (old new : Left) (ops : List Operation) (op : Operation) → HasTaken old ops → HasRecord old.version op → may_follow (stamp_of_last ops) op ≡ true → new.version ≡ old.version → new.bytes ≡ old.bytes → old.rest ≡ record_of old.version op ++ new.rest → HasTaken new (ops ++ op ∷ [])
taken_more old new ops op h has f version same parts = record {
  bytes = same ∙ h.bytes ∙ ap (λ v. file_of old.version ops ++ v) parts ∙ sym (append_assoc (file_of old.version ops) (record_of old.version op) new.rest) ∙ ap (λ v. v ++ new.rest) (sym (spelling_push old.version ops op)) ∙ ap (λ v. file_of v (ops ++ op ∷ []) ++ new.rest) (sym version);
  are = subst (λ v. AreInFile v (ops ++ op ∷ [])) (sym version) (in_file_push ops op h.are has f);
}

pub record_at : (ver : Version) (content rest more : List ℕ) (op : Operation) → rest ≡ (number w32 (length content) ++ content) ++ more → content ≡ content_of ver op → rest ≡ record_of ver op ++ more
record_at ver content rest more op parts is = parts ∙ ap (λ v. (number w32 (length v) ++ v) ++ more) is

pub record_long : (ver : Version) (content : List ℕ) (op : Operation) → content ≡ content_of ver op → length (record_of ver op) ≡ 4 + length content
record_long ver content op is =
    omega (arith, ap length is, length-append (number w32 (length (content_of ver op))) (content_of ver op), length_4 (length (content_of ver op)))

pub at_next : {ver : Version} (bytes : List ℕ) (offset next size : ℕ) (last : Option Stamp) (ops : List Operation) (op : Operation) → IsFileUpTo ver bytes offset last ops → HasRecord ver op → may_follow last op ≡ true → drop offset bytes ≡ record_of ver op ++ drop (4 + size) (drop offset bytes)
    → next ≡ offset + (4 + size) → length (record_of ver op) ≡ 4 + size → IsFileUpTo ver bytes next (Some (stamp_of op)) (ops ++ op ∷ [])
at_next {ver} bytes offset next size last ops op at has f parts is long = record {
  taken = taken_more _ _ ops op at.taken has (ap (λ l. may_follow l op) (sym at.last_is) ∙ f) refl refl (parts ∙ ap (λ v. record_of ver op ++ v) (drop-drop (4 + size) offset bytes ∙ ap (λ n. drop n bytes) (sym is)));
  offset_is = is ∙ omega (arith, at.offset_is, long, length-append (file_of ver ops) (record_of ver op)) ∙ ap length (sym (spelling_push ver ops op));
  last_is = sym (last_push ops op);
}

pub takes_next : {ver : Version} (bytes : List ℕ) (offset next size : ℕ) (last : Option Stamp) (all : List Operation) (op : Operation) → IsFileUpTo ver bytes offset last all → HasRecord ver op → may_follow last op ≡ true → drop offset bytes ≡ record_of ver op ++ drop (4 + size) (drop offset bytes)
    → next ≡ offset + (4 + size) → TakesRecord (record { version = ver; bytes = bytes; rest = drop offset bytes }) op (record { version = ver; bytes = bytes; rest = drop next bytes })
takes_next {ver} bytes offset next size last all op at has f parts is =
    let left : drop offset bytes ≡ record_of ver op ++ drop next bytes = parts ∙ ap (λ v. record_of ver op ++ v) (drop-drop (4 + size) offset bytes ∙ ap (λ n. drop n bytes) (sym is)) in
    record {
      version = refl;
      bytes = refl;
      record_is = left;
      taken = λ ops taken.
          let after : may_follow (stamp_of_last ops) op ≡ true = ap (λ l. may_follow l op) (sym (at.last_is ∙ ap stamp_of_last (same_taken _ all ops at.taken taken))) ∙ f in
          taken_more _ _ ops op taken has after refl refl left;
    }

pub takes_from : (left old new : Left) (op : Operation) → left ≡ old → TakesRecord left op new → TakesRecord old op new
takes_from left old new op same h = subst (λ v. TakesRecord v op new) same h

-- ---- a file that is read

-- what was taken, and the end after it
pub reads_taken : (bytes : List ℕ) (left : Left) (ops : List Operation) (offsets : List ℕ) (fault : Option (Fault × ℕ)) → HasTaken left ops → left.bytes ≡ bytes → offsets ≡ offsets_from left.version 8 ops → IsEnd left.version ops left.rest fault → Reads bytes ops offsets fault
reads_taken bytes left ops offsets fault h same off end = reads_records bytes ops offsets fault left.rest (sym same ∙ h.bytes) h.are off end

pub refused_end : (left : Left) (ops : List Operation) (fault : Fault) (at : ℕ) → RefusesRecord left fault → (fault ≡ NoMemory → ⊥) → HasTaken left ops → at ≡ length (file_of left.version ops) → IsEnd left.version ops left.rest (Some (fault, at))
refused_end left ops fault at (inl memory) other h place = absurd (other memory.0)
refused_end left ops fault at (inr end) other h place = (place, (end ops h).1)
