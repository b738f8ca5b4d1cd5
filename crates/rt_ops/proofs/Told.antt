-- What is told of a reader's bytes.
use Rattle.std.proofs.Common.{◌≡◌, ℕ, ◌+◌, ◌<◌, ◌≤◌, List, [], ◌∷◌, ◌++◌, length, take, Option, Some, None, Result, Ok, Err, arith, refl, sym, ap, subst, ◌∙◌, append-nil, inl, inr}
use Rattle.std.specs.Prelude.{◌⊎◌}
use Rattle.std.proofs.lemmas.List.{length-append}
use Rattle.std.specs.Io.KnownBytes.{Consumes}
use Rattle.rt_stamps.specs.declared.limits.Bounds.{Bounds}
use Rattle.rt_stamps.specs.declared.fault.Fault.{Fault}
use Rattle.rt_stamps.specs.declared.fault.Fault.TheVariants.{ReadFault}
use Rattle.rt_ops.specs.declared.version.Version.{Version}
use Rattle.rt_ops.specs.declared.version.Version.TheVariants.{One, Two}
use Rattle.rt_ops.specs.Operations.{Operation}
use Rattle.rt_ops.specs.File.{AreInFile, file_of}
use Rattle.rt_ops.specs.Reading.{head_of, offsets_from, ReadsAs, Reads}
use Rattle.rt_stamps.specs.Streams.{Stream}
use Rattle.rt_ops.specs.Intake.{FailsAfter, IsStopped, IsTold, PassesBytes, ReadsFile}
use Rattle.rt_ops.proofs.Readings.{in_file_none}
use Rattle.rt_ops.proofs.Unique.{none_some, read_is_spelled}

-- what is told of some operations: they are in a file of some version, at these offsets
abbrev AreTold : List Operation → List ℕ → Type 0
AreTold ops offsets = (ver : Version) × AreInFile ver ops × (offsets ≡ offsets_from ver 8 ops)

no_operations : (ops : List Operation) (offsets : List ℕ) → ops ≡ [] → offsets ≡ [] → AreTold ops offsets
no_operations ops offsets none nowhere = (One, subst (AreInFile One) (sym none) in_file_none, nowhere ∙ ap (offsets_from One 8) (sym none))

read_in_file : (bytes : List ℕ) (ops : List Operation) (offsets : List ℕ) (fault : Option (Fault × ℕ)) → Reads bytes ops offsets fault → AreTold ops offsets
read_in_file bytes ops offsets fault h = by (head_of (take 8 bytes)) h
  where
    by : (found : Result Version Fault) → ReadsAs found bytes ops offsets fault → AreTold ops offsets
    by (Err found) r = no_operations ops offsets r.0 r.1
    by (Ok ver) r = (ver, r.2, r.3)

pub told_in_file : (bounds : Bounds) (old new : Stream) (ops : List Operation) (offsets : List ℕ) (fault : Option (Fault × ℕ)) → ReadsFile bounds old new ops offsets fault → AreTold ops offsets
told_in_file bounds old new ops offsets fault (inl h) = elim h.2 [ inl t ↦ read_in_file h.0 ops offsets fault t.1 | inr f ↦ read_in_file (h.0 ++ []) ops offsets fault (f []) ]
told_in_file bounds old new ops offsets fault (inr h) = elim h.3 [ inl s ↦ no_operations ops offsets s.1 s.2 | inr s ↦ (s.0, s.3, s.4) ]

known_as : (left more : Option (List ℕ)) (bytes front : List ℕ) (ops : List Operation) (offsets : List ℕ) (fault : Option (Fault × ℕ)) → left ≡ Some bytes → Consumes left more front → IsTold more front ops offsets fault → Reads bytes ops offsets fault
known_as None more bytes front ops offsets fault e eaten told = absurd cc
known_as (Some all) None bytes front ops offsets fault e eaten told = absurd eaten
known_as (Some all) (Some rest) bytes front ops offsets fault e eaten told =
    let same : all ≡ bytes = cc e in
    let parts : front ++ rest ≡ bytes = sym eaten ∙ same in
    subst (λ v. Reads v ops offsets fault) parts (elim told [
      | inl t ↦ subst (λ v. Reads v ops offsets fault) (sym (ap (λ v. front ++ v) t.0 ∙ append-nil front)) t.1
      | inr f ↦ f rest
    ])

pub known_told : (bounds : Bounds) (old new : Stream) (bytes : List ℕ) (ops : List Operation) (offsets : List ℕ) (fault : Option (Fault × ℕ)) → old.bytes ≡ Some bytes → ((at : ℕ) → fault ≡ Some (ReadFault, at) → ⊥) → ReadsFile bounds old new ops offsets fault
    → Reads bytes ops offsets fault
known_told bounds old new bytes ops offsets fault e other (inl h) = known_as old.bytes new.bytes bytes h.0 ops offsets fault e h.1.consumed h.2
known_told bounds old new bytes ops offsets fault e other (inr h) = absurd (other h.0 h.2)

pub reads_bounded : (bounds : Bounds) (old new : Stream) (ops : List Operation) (offsets : List ℕ) (fault : Option (Fault × ℕ)) → ReadsFile bounds old new ops offsets fault → new.calls ≤ old.calls + bounds.reads
reads_bounded bounds old new ops offsets fault (inl h) = h.1.calls
reads_bounded bounds old new ops offsets fault (inr h) = h.4.reads

-- ---- bounds

-- bytes that are read are no more than there were
none_more : (left more : Option (List ℕ)) (bytes front : List ℕ) → left ≡ Some bytes → Consumes left more front → length front ≤ length bytes
none_more None more bytes front e eaten = absurd cc
none_more (Some all) None bytes front e eaten = absurd eaten
none_more (Some all) (Some rest) bytes front e eaten =
    let same : all ≡ bytes = cc e in
    omega (arith, ap length same, ap length eaten, length-append front rest)

pub enough_reads : (bounds : Bounds) (old new : Stream) (bytes : List ℕ) → bounds.bytes < bounds.reads → IsStopped old new bounds bytes → FailsAfter old new bytes ⊎ PassesBytes old new bounds bytes
enough_reads bounds old new bytes lt h = elim h.cause [ inl failed ↦ inl failed | inr (inl past) ↦ inr past | inr (inr up) ↦ absurd (omega (arith, up.some, h.within, lt)) ]

not_stopped : (bounds : Bounds) (old new : Stream) (bytes front : List ℕ) → old.bytes ≡ Some bytes → length bytes ≤ bounds.bytes → length bytes < bounds.reads → new.failures ≡ old.failures → IsStopped old new bounds front → ⊥
not_stopped bounds old new bytes front e short few same h = elim h.cause [
  | inl failed ↦ omega (arith, failed.1, same)
  | inr (inl past) ↦ omega (arith, past.3, short, none_more old.bytes new.bytes bytes (front ++ past.0 ∷ []) e past.1, length-append front (past.0 ∷ []))
  | inr (inr up) ↦ omega (arith, up.some, few, none_more old.bytes new.bytes bytes front e up.consumed)
]

pub whole_is_read : (bounds : Bounds) (old new : Stream) (bytes : List ℕ) (ops : List Operation) (offsets : List ℕ) (fault : Option (Fault × ℕ)) → old.bytes ≡ Some bytes → length bytes ≤ bounds.bytes → length bytes < bounds.reads
    → new.failures ≡ old.failures → ReadsFile bounds old new ops offsets fault → Reads bytes ops offsets fault
whole_is_read bounds old new bytes ops offsets fault e short few same (inl h) = known_as old.bytes new.bytes bytes h.0 ops offsets fault e h.1.consumed h.2
whole_is_read bounds old new bytes ops offsets fault e short few same (inr h) = absurd (not_stopped bounds old new bytes h.1 e short few same h.4)

-- of three versions two are the same
two_of_three : (a b c : Version) → (a ≡ b) ⊎ ((a ≡ c) ⊎ (b ≡ c))
two_of_three One One c = inl refl
two_of_three One Two One = inr (inl refl)
two_of_three One Two Two = inr (inr refl)
two_of_three Two One One = inr (inr refl)
two_of_three Two One Two = inr (inl refl)
two_of_three Two Two c = inl refl

as_long : {a b : Version} (ops : List Operation) (front x y : List ℕ) → front ++ x ≡ file_of a ops → front ++ y ≡ file_of b ops → a ≡ b → length x ≡ length y
as_long {a} {b} ops front x y h k same = omega (arith, length-append front x, length-append front y, ap length h, ap length k, ap (λ v. length (file_of v ops)) same)

-- what is read without a fault is read to its end
spelled_to_end : (left more : Option (List ℕ)) (bytes front : List ℕ) (ops : List Operation) (offsets : List ℕ) → left ≡ Some bytes → Consumes left more front → IsTold more front ops offsets None → length bytes ≤ length front
spelled_to_end None more bytes front ops offsets e eaten told = absurd cc
spelled_to_end (Some all) None bytes front ops offsets e eaten told = absurd eaten
spelled_to_end (Some all) (Some rest) bytes front ops offsets e eaten (inl t) =
    let same : all ≡ bytes = cc e in
    omega (arith, ap length same, ap length eaten, length-append front rest, ap length t.0)
spelled_to_end (Some all) (Some rest) bytes front ops offsets e eaten (inr f) =
    let none = read_is_spelled (front ++ []) ops offsets (f []) in
    let one = read_is_spelled (front ++ 0 ∷ []) ops offsets (f (0 ∷ [])) in
    let two = read_is_spelled (front ++ 0 ∷ (0 ∷ [])) ops offsets (f (0 ∷ (0 ∷ []))) in
    elim (two_of_three none.0 one.0 two.0) [
      | inl same ↦ absurd (omega (arith, as_long ops front [] (0 ∷ []) none.2 one.2 same))
      | inr (inl same) ↦ absurd (omega (arith, as_long ops front [] (0 ∷ (0 ∷ [])) none.2 two.2 same))
      | inr (inr same) ↦ absurd (omega (arith, as_long ops front (0 ∷ []) (0 ∷ (0 ∷ [])) one.2 two.2 same))
    ]

pub read_within : (bounds : Bounds) (old new : Stream) (bytes : List ℕ) (ops : List Operation) (offsets : List ℕ) → old.bytes ≡ Some bytes → ReadsFile bounds old new ops offsets None → length bytes ≤ bounds.bytes
read_within bounds old new bytes ops offsets e (inl h) = omega (arith, h.1.within, spelled_to_end old.bytes new.bytes bytes h.0 ops offsets e h.1.consumed h.2)
read_within bounds old new bytes ops offsets e (inr h) = absurd (none_some (ReadFault, h.0) h.2)
