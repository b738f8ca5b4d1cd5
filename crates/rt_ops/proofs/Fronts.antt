-- Which operations a file begins with, and how that goes with what it is read as.
use Rattle.std.proofs.Common.{◌≡◌, ℕ, List, [], ◌∷◌, ◌++◌, take, Option, Result, Ok, Err, refl, sym, ap, subst, ◌∙◌, append_assoc, append-nil, inl, inr}
use Rattle.std.specs.Prelude.{◌⊎◌}
use Rattle.std.specs.List.{flat_map, AllByRecursion}
use Rattle.std.proofs.lemmas.List.{append_cancel_left}
use Rattle.std.proofs.lemmas.List.Concat.{flat_map-append}
use Rattle.rt_stamps.specs.declared.fault.Fault.{Fault}
use Rattle.rt_ops.specs.declared.version.Version.{Version}
use Rattle.rt_ops.specs.Operations.{Operation}
use Rattle.rt_ops.specs.File.{magic, record_of, file_of, HasRecord, AreInFile}
use Rattle.rt_ops.specs.Reading.{head_of, offsets_from, IsBegun, IsBegunIn, IsEnd, AreFirstOf, ReadsAs, Reads}
use Rattle.rt_ops.specs.Records.{Left, HasTaken}
use Rattle.rt_ops.proofs.Readings.{front_is_magic, last_has, magic_ok, reads_records, same_record}
use Rattle.rt_ops.proofs.Unique.{in_file_front, no_further, no_version, same_ok}

-- of two lists whose records some bytes begin with, one is a front of the other
fronts_of : (ver : Version) (one other : List Operation) (x y : List ℕ) → AllByRecursion (HasRecord ver) one → AllByRecursion (HasRecord ver) other → flat_map (record_of ver) one ++ x ≡ flat_map (record_of ver) other ++ y → AreFirstOf one other ⊎ AreFirstOf other one
fronts_of ver [] other x y has so e = inl (other, refl)
fronts_of ver (p ∷ one) [] x y has so e = inr (p ∷ one, refl)
fronts_of ver (p ∷ one) (q ∷ other) x y has so e =
    let same = same_record p q (flat_map (record_of ver) one ++ x) (flat_map (record_of ver) other ++ y) has.0 so.0
    (sym (append_assoc (record_of ver p) (flat_map (record_of ver) one) x) ∙ e ∙ append_assoc (record_of ver q) (flat_map (record_of ver) other) y) in
    elim (fronts_of ver one other x y has.1 so.1 same.1) [
      | inl f ↦ inl (f.0, λ i. sym same.0 i ∷ f.1 i)
      | inr f ↦ inr (f.0, λ i. same.0 i ∷ f.1 i)
    ]

records_begin : (ver : Version) (bytes x y : List ℕ) (one other : List Operation) → bytes ≡ file_of ver one ++ x → bytes ≡ file_of ver other ++ y → flat_map (record_of ver) one ++ x ≡ flat_map (record_of ver) other ++ y
records_begin ver bytes x y one other h k =
    append_cancel_left (magic ver) (flat_map (record_of ver) one ++ x) (flat_map (record_of ver) other ++ y)
    (sym (append_assoc (magic ver) (flat_map (record_of ver) one) x) ∙ sym h ∙ k ∙ append_assoc (magic ver) (flat_map (record_of ver) other) y)

two_in : {ver : Version} (bytes : List ℕ) (one other : List Operation) → IsBegunIn ver bytes one → IsBegunIn ver bytes other → AreFirstOf one other ⊎ AreFirstOf other one
two_in {ver} bytes one other h k = fronts_of ver one other h.0 k.0 h.2.records k.2.records (records_begin ver bytes h.0 k.0 one other h.1 k.1)

pub head_begun : {ver : Version} (bytes : List ℕ) (ops : List Operation) → IsBegunIn ver bytes ops → head_of (take 8 bytes) ≡ Ok ver
head_begun {ver} bytes ops h = ap head_of (front_is_magic ver bytes h.0 ops h.1) ∙ magic_ok ver

pub two_fronts : (bytes : List ℕ) (one other : List Operation) → IsBegun bytes one → IsBegun bytes other → AreFirstOf one other ⊎ AreFirstOf other one
two_fronts bytes one other h k =
    let same : h.0 ≡ k.0 = same_ok h.0 k.0 (sym (head_begun bytes one h.1) ∙ head_begun bytes other k.1) in
    two_in bytes one other h.1 (subst (λ v. IsBegunIn v bytes other) (sym same) k.1)

-- the bytes behind _ a front of what they begin with
behind : (ver : Version) (all more : List Operation) (rest x : List ℕ) → file_of ver (all ++ more) ++ x ≡ file_of ver all ++ rest → rest ≡ flat_map (record_of ver) more ++ x
behind ver all more rest x e =
    let parts : file_of ver (all ++ more) ++ x ≡ file_of ver all ++ (flat_map (record_of ver) more ++ x) =
    ap (λ v. (magic ver ++ v) ++ x) (flat_map-append (record_of ver) all more) ∙ ap (λ v. v ++ x) (sym (append_assoc (magic ver) (flat_map (record_of ver) all) (flat_map (record_of ver) more))) ∙ append_assoc (file_of ver all) (flat_map (record_of ver) more) x in
    append_cancel_left (file_of ver all) rest (flat_map (record_of ver) more ++ x) (sym e ∙ parts)

-- where the end comes after these operations, the bytes begin with no others
front_of_ended : {ver : Version} (bytes rest : List ℕ) (ops all : List Operation) (fault : Option (Fault × ℕ)) → IsBegunIn ver bytes ops → bytes ≡ file_of ver all ++ rest → AreInFile ver all → IsEnd ver all rest fault → AreFirstOf ops all
front_of_ended {ver} bytes rest ops all fault h parts are end = elim (two_in bytes ops all h (rest, parts, are)) [ inl f ↦ f | inr f ↦ no_more f.0 f.1 ]
  where
    no_more : (more : List Operation) → ops ≡ all ++ more → AreFirstOf ops all
    no_more [] e = ([], sym (append-nil ops ∙ e ∙ append-nil all))
    no_more (op ∷ more) e =
        let next : AreInFile ver (all ++ op ∷ []) = in_file_front (all ++ op ∷ []) more (subst (AreInFile ver) (e ∙ sym (append_assoc all (op ∷ []) more)) h.2) in
        let left : rest ≡ flat_map (record_of ver) (op ∷ more) ++ h.0 = behind ver all (op ∷ more) rest h.0 (ap (λ v. file_of ver v ++ h.0) (sym e) ∙ sym h.1 ∙ parts) in
        absurd (no_further all op rest (flat_map (record_of ver) more ++ h.0) fault (last_has all op next.records) next end (left ∙ append_assoc (record_of ver op) (flat_map (record_of ver) more) h.0))

pub front_of_read : (bytes : List ℕ) (ops all : List Operation) (offsets : List ℕ) (fault : Option (Fault × ℕ)) → IsBegun bytes ops → Reads bytes all offsets fault → AreFirstOf ops all
front_of_read bytes ops all offsets fault h reads = by (head_of (take 8 bytes)) (head_begun bytes ops h.1) reads
  where
    by : (found : Result Version Fault) → found ≡ Ok h.0 → ReadsAs found bytes all offsets fault → AreFirstOf ops all
    by (Ok ver) e r = front_of_ended bytes r.0 ops all fault (subst (λ v. IsBegunIn v bytes ops) (sym (same_ok ver h.0 e)) h.1) r.1 r.2 r.4
    by (Err found) e r = absurd (no_version h.0 found e)

-- what is read of a file whose first eight bytes have no fault it begins with
pub read_is_begun : (bytes : List ℕ) (all : List Operation) (offsets : List ℕ) (fault : Option (Fault × ℕ)) (ver : Version) → head_of (take 8 bytes) ≡ Ok ver → Reads bytes all offsets fault → IsBegun bytes all
read_is_begun bytes all offsets fault ver found reads = by (head_of (take 8 bytes)) found reads
  where
    by : (told : Result Version Fault) → told ≡ Ok ver → ReadsAs told bytes all offsets fault → IsBegun bytes all
    by (Ok other) e r = (other, (r.0, r.1, r.2))
    by (Err fault) e r = absurd (no_version ver fault e)

-- ---- of records that are taken

pub taken_is_read : (left : Left) (ops : List Operation) (fault : Option (Fault × ℕ)) → HasTaken left ops → IsEnd left.version ops left.rest fault → Reads left.bytes ops (offsets_from left.version 8 ops) fault
taken_is_read left ops fault h end = reads_records left.bytes ops (offsets_from left.version 8 ops) fault left.rest h.bytes h.are refl end

pub read_is_taken : (left : Left) (ops : List Operation) (offsets : List ℕ) (fault : Option (Fault × ℕ)) → HasTaken left ops → Reads left.bytes ops offsets fault → IsEnd left.version ops left.rest fault
read_is_taken left ops offsets fault h reads = by (head_of (take 8 left.bytes)) (head_begun left.bytes ops (left.rest, h.bytes, h.are)) reads
  where
    by : (found : Result Version Fault) → found ≡ Ok left.version → ReadsAs found left.bytes ops offsets fault → IsEnd left.version ops left.rest fault
    by (Ok ver) e r = in_version ver (sym (same_ok ver left.version e)) r
      where
        in_version : (v : Version) → left.version ≡ v → ReadsAs (Ok v) left.bytes ops offsets fault → IsEnd left.version ops left.rest fault
        in_version v same r =
            let mine : ReadsAs (Ok left.version) left.bytes ops offsets fault = subst (λ w. ReadsAs (Ok w) left.bytes ops offsets fault) (sym same) r in
            subst (λ v. IsEnd left.version ops v fault) (append_cancel_left (file_of left.version ops) mine.0 left.rest (sym mine.1 ∙ h.bytes)) mine.4
    by (Err found) e r = absurd (no_version left.version found e)
