-- How far a file is read: two readings of one file are of the same operations, or one of a front of the other's.
use Rattle.std.proofs.Common.{◌≡◌, ◌∙◌, ◌++◌, ℕ, true, inl, inr, refl, sym, ap, subst, List, [], ◌∷◌, Option, None, Some, append-nil, take}
use Rattle.std.specs.Prelude.{◌⊎◌, Result, Ok, Err}
use Rattle.std.specs.List.{AllByRecursion}
use Rattle.std.specs.Option.{IfSome}
use Rattle.rt_stamps.specs.declared.fault.Fault.{Fault}
use Rattle.rt_stamps.specs.declared.fault.Fault.TheVariants.{NoMemory}
use Rattle.rt_ops.specs.File.{HasRecord}
use Rattle.rt_ops.specs.declared.version.Version.{Version}
use Rattle.rt_ops.specs.declared.version.Version.TheVariants.{One}
use Rattle.rt_ops.specs.Operations.{Operation}
use Rattle.rt_ops.specs.Reading.{IsBegun, Reads, ReadsAs, head_of, offsets_from}
use Rattle.rt_ops.specs.Rules.{keeps_rules}
use Rattle.rt_ops.proofs.Fronts.{front_of_read, head_begun, two_fronts}
use Rattle.rt_ops.proofs.Unique.{one_reading}
use Rattle.rt_oplog.specs.Logs.{HasOp}
use Rattle.rt_holding.specs.declared.receiving.Received.{Received}
use Rattle.rt_holding.specs.Receiving.{Behind, AtEnd, IsToldOf, Offers, ReadsUpTo, State, Unread, Wanting}
use Rattle.rt_holding.proofs.Receptions.{same_fault}

-- ONE READING

-- the version that the first eight bytes tell, if they tell one
abbrev pub version_told : Result Version Fault → Version
version_told (Ok ver) = ver
version_told (Err fault) = One

abbrev pub version_in : List ℕ → Version
version_in bytes = version_told (head_of (take 8 bytes))

offsets_read : (found : Result Version Fault) (bytes : List ℕ) (ops : List Operation) (offsets : List ℕ) (ending : Option (Fault × ℕ)) → ReadsAs found bytes ops offsets ending
    → offsets ≡ offsets_from (version_told found) 8 ops
offsets_read (Err found) bytes ops offsets ending h = h.1 ∙ sym (ap (offsets_from One 8) h.0)
offsets_read (Ok ver) bytes ops offsets ending h = h.3

-- each operation has the offset of its record
pub offsets_are : (bytes : List ℕ) (ops : List Operation) (offsets : List ℕ) (behind : Behind) → ReadsUpTo bytes ops offsets behind → offsets ≡ offsets_from (version_in bytes) 8 ops
offsets_are bytes ops offsets (AtEnd ending) h = offsets_read (head_of (take 8 bytes)) bytes ops offsets ending h
offsets_are bytes ops offsets (Wanting offset) h = h.3 ∙ ap (λ ver. offsets_from ver 8 ops) (sym (ap version_told (head_begun bytes ops h.1)))
offsets_are bytes ops offsets Unread h = h.2 ∙ ap (λ ver. offsets_from ver 8 ops) (sym (ap version_told (head_begun bytes ops h.1)))

begun_read : (found : Result Version Fault) (bytes : List ℕ) (ops : List Operation) (offsets : List ℕ) (ending : Option (Fault × ℕ)) → ReadsAs found bytes ops offsets ending
    → (op : Operation) → HasOp ops op → IsBegun bytes ops
begun_read (Err found) bytes ops offsets ending h op i = absurd (subst (λ l. HasOp l op) h.0 i)
begun_read (Ok ver) bytes ops offsets ending h op i = (ver, (h.0, h.1, h.2))

-- where some were read, the file begins with them
pub begun_with : (bytes : List ℕ) (ops : List Operation) (offsets : List ℕ) (behind : Behind) → ReadsUpTo bytes ops offsets behind
    → (op : Operation) → HasOp ops op → IsBegun bytes ops
begun_with bytes ops offsets (AtEnd ending) h op i = begun_read (head_of (take 8 bytes)) bytes ops offsets ending h op i
begun_with bytes ops offsets (Wanting offset) h op i = (h.0, h.1)
begun_with bytes ops offsets Unread h op i = (h.0, h.1)

all_rules : (ver : Version) (ops : List Operation) → AllByRecursion (HasRecord ver) ops → (op : Operation) → HasOp ops op → keeps_rules op.body ≡ true
all_rules ver [] h op i = absurd i
all_rules ver (q ∷ ops) h op (inl e) = subst (λ (x : Operation). keeps_rules x.body ≡ true) e h.0.rules
all_rules ver (q ∷ ops) h op (inr i) = all_rules ver ops h.1 op i

-- each operation that was read keeps the rules
pub read_rules : (bytes : List ℕ) (ops : List Operation) (offsets : List ℕ) (behind : Behind) → ReadsUpTo bytes ops offsets behind
    → (op : Operation) → HasOp ops op → keeps_rules op.body ≡ true
read_rules bytes ops offsets behind h op i =
    let begun = begun_with bytes ops offsets behind h op i in
    all_rules begun.0 ops begun.1.2.records op i

-- TWO READINGS

-- behind operations that were read up to the end or to a fault there are no more, and others were read up to the same
abbrev pub Agree : Behind → List Operation → Behind → Type 0
Agree (AtEnd ending) more (AtEnd other) = (more ≡ []) × (ending ≡ other)
Agree (AtEnd ending) more (Wanting offset) = ⊥
Agree (AtEnd ending) more Unread = ⊥
Agree (Wanting offset) more beyond = Unit {0}
Agree Unread more beyond = Unit {0}

-- one reading went no further than the other
pub record GoesNoFurther (ops other : List Operation) (behind beyond : Behind) : Type 0 where
  pub more : List Operation
  pub is : other ≡ ops ++ more
  pub agree : Agree behind more beyond

pub one_or_other : (bytes : List ℕ) (ops other : List Operation) (offsets places : List ℕ) (behind beyond : Behind)
    → ReadsUpTo bytes ops offsets behind → ReadsUpTo bytes other places beyond → GoesNoFurther ops other behind beyond ⊎ GoesNoFurther other ops beyond behind
one_or_other bytes ops other offsets places (AtEnd a) (AtEnd b) h k =
    let one = one_reading bytes ops other offsets places a b h k in
    inl (record { more = []; is = sym one.0 ∙ sym (append-nil ops); agree = (refl, one.2) })
one_or_other bytes ops other offsets places (AtEnd a) (Wanting n) h k =
    let f = front_of_read bytes other ops offsets a (k.0, k.1) h in
    inr (record { more = f.0; is = f.1; agree = tt })
one_or_other bytes ops other offsets places (AtEnd a) Unread h k =
    let f = front_of_read bytes other ops offsets a (k.0, k.1) h in
    inr (record { more = f.0; is = f.1; agree = tt })
one_or_other bytes ops other offsets places (Wanting m) (AtEnd b) h k =
    let f = front_of_read bytes ops other places b (h.0, h.1) k in
    inl (record { more = f.0; is = f.1; agree = tt })
one_or_other bytes ops other offsets places Unread (AtEnd b) h k =
    let f = front_of_read bytes ops other places b (h.0, h.1) k in
    inl (record { more = f.0; is = f.1; agree = tt })
one_or_other bytes ops other offsets places (Wanting m) (Wanting n) h k = elim (two_fronts bytes ops other (h.0, h.1) (k.0, k.1)) [
  | inl f ↦ inl (record { more = f.0; is = f.1; agree = tt })
  | inr f ↦ inr (record { more = f.0; is = f.1; agree = tt })
]
one_or_other bytes ops other offsets places (Wanting m) Unread h k = elim (two_fronts bytes ops other (h.0, h.1) (k.0, k.1)) [
  | inl f ↦ inl (record { more = f.0; is = f.1; agree = tt })
  | inr f ↦ inr (record { more = f.0; is = f.1; agree = tt })
]
one_or_other bytes ops other offsets places Unread (Wanting n) h k = elim (two_fronts bytes ops other (h.0, h.1) (k.0, k.1)) [
  | inl f ↦ inl (record { more = f.0; is = f.1; agree = tt })
  | inr f ↦ inr (record { more = f.0; is = f.1; agree = tt })
]
one_or_other bytes ops other offsets places Unread Unread h k = elim (two_fronts bytes ops other (h.0, h.1) (k.0, k.1)) [
  | inl f ↦ inl (record { more = f.0; is = f.1; agree = tt })
  | inr f ↦ inr (record { more = f.0; is = f.1; agree = tt })
]

-- A FILE WITHOUT A FAULT

-- no fault of reading came behind
abbrev pub EndsWell : Behind → Type 0
EndsWell (AtEnd ending) = ending ≡ None
EndsWell (Wanting offset) = Unit {0}
EndsWell Unread = Unit {0}

-- so nothing else is told than want of memory
pub well_told : (P : Fault × ℕ → Type 0) (behind : Behind) (told : Option (Fault × ℕ)) → EndsWell behind → IsToldOf behind told → ((offset : ℕ) → P (NoMemory, offset)) → IfSome told P
well_told P (AtEnd ending) told w e n = subst (λ t. IfSome t P) (sym (e ∙ w)) tt
well_told P (Wanting offset) told w e n = subst (λ t. IfSome t P) (sym e) (n offset)
well_told P Unread told w e n = absurd e

-- of a file that is read as some operations a front was read
pub record IsFront (all ops : List Operation) (behind : Behind) : Type 0 where
  pub more : List Operation
  pub is : all ≡ ops ++ more
  pub well : EndsWell behind

pub front_read : (bytes : List ℕ) (all ops : List Operation) (places offsets : List ℕ) (behind : Behind) → Reads bytes all places None → ReadsUpTo bytes ops offsets behind
    → IsFront all ops behind
front_read bytes all ops places offsets (AtEnd ending) r h =
    let one = one_reading bytes all ops places offsets None ending r h in
    record { more = []; is = one.0 ∙ sym (append-nil ops); well = sym one.2 }
front_read bytes all ops places offsets (Wanting offset) r h = let f = front_of_read bytes ops all places None (h.0, h.1) r in record { more = f.0; is = f.1; well = tt }
front_read bytes all ops places offsets Unread r h = let f = front_of_read bytes ops all places None (h.0, h.1) r in record { more = f.0; is = f.1; well = tt }

module _ {Site : Type 0} (log : Site → List Operation) (limit : Site → ℕ) (after : Operation → Site → Site) where
  -- where no fault is told, the file was read to its end
  pub read_to_end : (ops : List Operation) (offsets : List ℕ) (behind : Behind) (old : State Site) (received : Received) (new : State Site)
      → Offers log limit after ops offsets behind old received new → received.fault ≡ None → behind ≡ AtEnd None
  read_to_end [] offsets (AtEnd ending) old received new h e = let same : ending ≡ None = sym h.ends ∙ sym (ap (λ (r : Received). r.fault) h.counted) ∙ e in ap (λ x. AtEnd x) same
  read_to_end [] offsets (Wanting offset) old received new h e =
      let same : ◌≡◌ {A = Option (Fault × ℕ)} None (Some (_, offset)) = sym e ∙ ap (λ (r : Received). r.fault) h.counted ∙ h.ends in absurd (cc same)
  read_to_end [] offsets Unread old received new h e = absurd h.ends
  read_to_end (op ∷ ops) [] behind old received new h e = absurd h
  read_to_end (op ∷ ops) (offset ∷ offsets) behind old received new (inl h) e = absurd (let q = ap (λ (r : Received). r.fault) h.counted in let n : ⊥ = cc (q, e) in n)
  read_to_end (op ∷ ops) (offset ∷ offsets) behind old received new (inr h) e =
      read_to_end ops offsets behind h.next h.rest new h.others (sym (same_fault log limit after h.offered h.rest) ∙ sym (ap (λ (r : Received). r.fault) h.counted) ∙ e)

  -- so of a file that is read as some operations all of them were offered
  pub all_offered : (bytes : List ℕ) (all ops : List Operation) (places offsets : List ℕ) (behind : Behind) (old : State Site) (received : Received) (new : State Site)
      → Reads bytes all places None → ReadsUpTo bytes ops offsets behind → Offers log limit after ops offsets behind old received new → received.fault ≡ None
      → all ≡ ops
  all_offered bytes all ops places offsets behind old received new r h k e =
      let end = read_to_end ops offsets behind old received new k e in
      (one_reading bytes all ops places offsets None None r (subst (ReadsUpTo bytes ops offsets) end h)).0
