-- Bytes spell at most one list of operations, and are read in one way.
use Rattle.std.proofs.Common.{◌≡◌, ℕ, Bool, true, List, [], ◌∷◌, ◌++◌, length, take, Option, Some, None, Result, Ok, Err, refl, sym, ap, subst, ◌∙◌, append_assoc, append-nil, arith, inl, inr}
use Rattle.std.specs.Prelude.{◌⊎◌}
use Rattle.std.specs.List.{flat_map, AllByRecursion}
use Rattle.std.proofs.lemmas.Bool.Decides.{nat_tests}
use Rattle.std.proofs.lemmas.List.{append_cancel_left, take_at}
use Rattle.rt_stamps.specs.Stamps.{is_before}
use Rattle.rt_stamps.specs.declared.fault.Fault.{Fault}
use Rattle.rt_stamps.specs.declared.fault.Fault.TheVariants.{Truncated, BadRecord}
use Rattle.rt_ops.specs.declared.version.Version.{Version}
use Rattle.rt_ops.specs.Operations.{Operation, stamp_of}
use Rattle.rt_ops.specs.Rules.{each_next}
use Rattle.rt_ops.specs.File.{magic, record_of, file_of, HasRecord, AreInFile}
use Rattle.rt_ops.specs.Reading.{head_of, offsets_from, EndsEarly, IsCutShort, IsBroken, IsEnd, ReadsAs, Reads}
use Rattle.rt_ops.proofs.Taken.{magic_length}
use Rattle.rt_ops.proofs.Readings.{same_record, is_whole, record_some, reads_records, magic_ok}

-- ---- spellings

same_records : (ver : Version) (a b : List Operation) → AllByRecursion (HasRecord ver) a → AllByRecursion (HasRecord ver) b → flat_map (record_of ver) a ≡ flat_map (record_of ver) b → a ≡ b
same_records ver [] [] has so e = refl
same_records ver [] (q ∷ b) has so e = absurd (omega (arith, record_some ver q (flat_map (record_of ver) b), ap length e))
same_records ver (p ∷ a) [] has so e = absurd (omega (arith, record_some ver p (flat_map (record_of ver) a), ap length e))
same_records ver (p ∷ a) (q ∷ b) has so e =
    let same = same_record p q (flat_map (record_of ver) a) (flat_map (record_of ver) b) has.0 so.0 e in
    let rest = same_records ver a b has.1 so.1 same.1 in
    λ i. same.0 i ∷ rest i

pub one_list : (ver : Version) (a b : List Operation) → AllByRecursion (HasRecord ver) a → AllByRecursion (HasRecord ver) b → file_of ver a ≡ file_of ver b → a ≡ b
one_list ver a b has so e = same_records ver a b has so (append_cancel_left (magic ver) (flat_map (record_of ver) a) (flat_map (record_of ver) b) e)

abbrev told : Version → Result Version Fault
told ver = Ok ver

pub same_ok : (a b : Version) → told a ≡ told b → a ≡ b
same_ok a b h = cc

pub no_version : (a : Version) (fault : Fault) → Err fault ≡ told a → ⊥
no_version a fault h = cc

-- files of two versions differ
one_version : (ver other : Version) (x y : List ℕ) → magic ver ++ x ≡ magic other ++ y → ver ≡ other
one_version ver other x y e = same_ok ver other (sym (magic_ok ver) ∙ ap head_of (sym (take_at (magic ver) x 8 (magic_length ver)) ∙ ap (take 8) e ∙ take_at (magic other) y 8 (magic_length other)) ∙ magic_ok other)

pub one_file : (ver other : Version) (a b : List Operation) → AllByRecursion (HasRecord ver) a → AllByRecursion (HasRecord other) b → file_of ver a ≡ file_of other b → (ver ≡ other) × (a ≡ b)
one_file ver other a b has so e =
    let same : ver ≡ other = one_version ver other (flat_map (record_of ver) a) (flat_map (record_of other) b) e in
    (same, one_list ver a b has (subst (λ v. AllByRecursion (HasRecord v) b) (sym same) so) (e ∙ ap (λ v. file_of v b) (sym same)))

-- what is written is read
pub spelled_is_read : {ver : Version} (ops : List Operation) → AreInFile ver ops → Reads (file_of ver ops) ops (offsets_from ver 8 ops) None
spelled_is_read {ver} ops are = reads_records (file_of ver ops) ops (offsets_from ver 8 ops) None [] (sym (append-nil (file_of ver ops))) are refl refl

pub none_some : {A : Type 0} (x : A) → None ≡ Some x → ⊥
none_some x e = cc

-- what is read without a fault is a file
pub read_is_spelled : (bytes : List ℕ) (ops : List Operation) (offsets : List ℕ) → Reads bytes ops offsets None → (ver : Version) × AreInFile ver ops × (bytes ≡ file_of ver ops)
read_is_spelled bytes ops offsets h = by (head_of (take 8 bytes)) h
  where
    by : (found : Result Version Fault) → ReadsAs found bytes ops offsets None → (ver : Version) × AreInFile ver ops × (bytes ≡ file_of ver ops)
    by (Ok ver) r = (ver, r.2, r.1 ∙ ap (λ v. file_of ver ops ++ v) r.4 ∙ append-nil (file_of ver ops))
    by (Err fault) r = absurd (none_some (fault, 0) r.2)

-- ---- readings

abbrev rises : Operation → Operation → Bool
rises a b = is_before (stamp_of a) (stamp_of b)

rising_front : (xs ys : List Operation) → each_next rises (xs ++ ys) ≡ true → each_next rises xs ≡ true
rising_front [] ys h = refl
rising_front (x ∷ []) ys h = refl
rising_front (x ∷ (y ∷ xs)) ys h =
    let one : rises x y ≡ true = grind (arith, nat_tests) in
    let rest : each_next rises ((y ∷ xs) ++ ys) ≡ true = grind (arith, nat_tests) in
    rw (one, rising_front (y ∷ xs) ys rest) refl

all_front : (ver : Version) (xs ys : List Operation) → AllByRecursion (HasRecord ver) (xs ++ ys) → AllByRecursion (HasRecord ver) xs
all_front ver [] ys h = tt
all_front ver (x ∷ xs) ys h = (h.0, all_front ver xs ys h.1)

pub in_file_front : {ver : Version} (xs ys : List Operation) → AreInFile ver (xs ++ ys) → AreInFile ver xs
in_file_front {ver} xs ys h = record { records = all_front ver xs ys h.records; rising = rising_front xs ys h.rising }

-- where one reading ends, no other goes on
pub no_further : {ver : Version} (front : List Operation) (op : Operation) (rest more : List ℕ) (fault : Option (Fault × ℕ)) → HasRecord ver op → AreInFile ver (front ++ op ∷ []) → IsEnd ver front rest fault → rest ≡ record_of ver op ++ more → ⊥
no_further {ver} front op rest more None has are end e = omega (arith, record_some ver op more, ap length (sym end ∙ e))
no_further {ver} front op rest more (Some fault) has are end e =
    elim end.1 [
      | inl cut ↦ is_whole op more has (subst (EndsEarly ver) e cut.1.1)
      | inr broken ↦ broken.1.none op more are e
    ]

same_end : (ver : Version) (ops : List Operation) (rest : List ℕ) (a b : Option (Fault × ℕ)) → IsEnd ver ops rest a → IsEnd ver ops rest b → a ≡ b
same_end ver ops rest None None h k = refl
same_end ver ops rest None (Some fault) h k = elim k.1 [
  | inl cut ↦ absurd (omega (arith, cut.1.0, ap length h))
  | inr broken ↦ absurd (omega (arith, broken.1.some, ap length h))
]
same_end ver ops rest (Some fault) None h k = elim h.1 [
  | inl cut ↦ absurd (omega (arith, cut.1.0, ap length k))
  | inr broken ↦ absurd (omega (arith, broken.1.some, ap length k))
]
same_end ver ops rest (Some fault) (Some other) h k = by h.1 k.1
  where
    at : fault.1 ≡ other.1
    at = h.0 ∙ sym k.0

    by : ((fault.0 ≡ Truncated) × IsCutShort ver rest) ⊎ ((fault.0 ≡ BadRecord) × IsBroken ver ops rest) → ((other.0 ≡ Truncated) × IsCutShort ver rest) ⊎ ((other.0 ≡ BadRecord) × IsBroken ver ops rest) → Some fault ≡ Some other
    by (inl x) (inl y) = λ i. Some ((x.0 ∙ sym y.0) i, at i)
    by (inl x) (inr y) = absurd (y.1.whole x.1.1)
    by (inr x) (inl y) = absurd (x.1.whole y.1.1)
    by (inr x) (inr y) = λ i. Some ((x.0 ∙ sym y.0) i, at i)

same_lists : {ver : Version} (front one other : List Operation) (rest left : List ℕ) (a b : Option (Fault × ℕ)) → AreInFile ver (front ++ one) → AreInFile ver (front ++ other) → AllByRecursion (HasRecord ver) one → AllByRecursion (HasRecord ver) other
    → flat_map (record_of ver) one ++ rest ≡ flat_map (record_of ver) other ++ left → IsEnd ver (front ++ one) rest a → IsEnd ver (front ++ other) left b → (one ≡ other) × (rest ≡ left)
same_lists {ver} front [] [] rest left a b are so has these e h k = (refl, e)
same_lists {ver} front [] (op ∷ other) rest left a b are so has these e h k =
    let next : AreInFile ver (front ++ op ∷ []) = in_file_front (front ++ op ∷ []) other (subst (AreInFile ver) (sym (append_assoc front (op ∷ []) other)) so) in
    absurd (no_further front op rest (flat_map (record_of ver) other ++ left) a these.0 next (subst (λ f. IsEnd ver f rest a) (append-nil front) h) (e ∙ append_assoc (record_of ver op) (flat_map (record_of ver) other) left))
same_lists {ver} front (op ∷ one) [] rest left a b are so has these e h k =
    let next : AreInFile ver (front ++ op ∷ []) = in_file_front (front ++ op ∷ []) one (subst (AreInFile ver) (sym (append_assoc front (op ∷ []) one)) are) in
    absurd (no_further front op left (flat_map (record_of ver) one ++ rest) b has.0 next (subst (λ f. IsEnd ver f left b) (append-nil front) k) (sym e ∙ append_assoc (record_of ver op) (flat_map (record_of ver) one) rest))
same_lists {ver} front (p ∷ one) (q ∷ other) rest left a b are so has these e h k =
    let same = same_record p q (flat_map (record_of ver) one ++ rest) (flat_map (record_of ver) other ++ left) has.0 these.0
    (sym (append_assoc (record_of ver p) (flat_map (record_of ver) one) rest) ∙ e ∙ append_assoc (record_of ver q) (flat_map (record_of ver) other) left) in
    let mine : (front ++ p ∷ []) ++ one ≡ front ++ p ∷ one = append_assoc front (p ∷ []) one in
    let theirs : (front ++ p ∷ []) ++ other ≡ front ++ q ∷ other = append_assoc front (p ∷ []) other ∙ ap (λ x. front ++ x ∷ other) same.0 in
    let rests = same_lists (front ++ p ∷ []) one other rest left a b (subst (AreInFile ver) (sym mine) are) (subst (AreInFile ver) (sym theirs) so) has.1 these.1 same.1
    (subst (λ f. IsEnd ver f rest a) (sym mine) h) (subst (λ f. IsEnd ver f left b) (sym theirs) k) in
    ((λ i. same.0 i ∷ rests.0 i), rests.1)

-- bytes are read in one way
pub one_reading : (bytes : List ℕ) (one other : List Operation) (offsets places : List ℕ) (a b : Option (Fault × ℕ)) → Reads bytes one offsets a → Reads bytes other places b → (one ≡ other) × (offsets ≡ places) × (a ≡ b)
one_reading bytes one other offsets places a b h k = by (head_of (take 8 bytes)) h k
  where
    by : (found : Result Version Fault) → ReadsAs found bytes one offsets a → ReadsAs found bytes other places b → (one ≡ other) × (offsets ≡ places) × (a ≡ b)
    by (Err fault) x y = (x.0 ∙ sym y.0, x.1 ∙ sym y.1, x.2 ∙ sym y.2)
    by (Ok ver) x y =
        let e = append_cancel_left (magic ver) (flat_map (record_of ver) one ++ x.0) (flat_map (record_of ver) other ++ y.0)
        (sym (append_assoc (magic ver) (flat_map (record_of ver) one) x.0) ∙ sym x.1 ∙ y.1 ∙ append_assoc (magic ver) (flat_map (record_of ver) other) y.0) in
        let same = same_lists [] one other x.0 y.0 a b x.2 y.2 x.2.records y.2.records e x.4 y.4 in (
          same.0,
          x.3 ∙ ap (offsets_from ver 8) same.0 ∙ sym y.3,
          same_end _ other y.0 a b (subst (λ (p : List Operation × List ℕ). IsEnd ver p.0 p.1 a) (λ i. (same.0 i, same.1 i)) x.4) y.4,
        )
