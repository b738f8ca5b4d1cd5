-- One write after another.
use Rattle.std.proofs.Common.{◌≡◌, ℕ, ◌+◌, length, List, [], ◌∷◌, ◌++◌, Option, Some, None, refl, sym, ◌∙◌, ap, append_assoc, append-nil, take, drop, take-append-drop, subst, Result, Ok, Err}
use Rattle.std.proofs.Math.Seq.{take-add}
use Rattle.std.specs.Io.KnownBytes.{Appends, Keeps}
use Rattle.std.proofs.lemmas.List.{take_all, length-drop}
use Rattle.std.proofs.lemmas.Grind.{flat_map-append}
use Rattle.std.specs.List.{flat_map}
use Rattle.std.proofs.Common.{arith, drop-cons, add-one, get_or, ◌-◌, ◌<◌, add-zero}
use Rattle.rt_stamps.specs.declared.fault.Fault.{Fault}
use Rattle.rt_stamps.specs.Source.{failures_of}
use Rattle.rt_stamps.specs.Streams.{Stream}
use Rattle.rt_stamps.specs.Written.{AppendsPart, Wrote, WritesText}

pub appends_then : (a b c : Option (List ℕ)) (s t : List ℕ) → Appends a b s → Appends b c t → Appends a c (s ++ t)
appends_then None b c s t h k = tt
appends_then (Some xs) None c s t h k = absurd h
appends_then (Some xs) (Some ys) None s t h k = k
appends_then (Some xs) (Some ys) (Some zs) s t h k = k ∙ ap (λ v. v ++ t) h ∙ append_assoc xs s t

pub part_then : (a b c : Option (List ℕ)) (s t : List ℕ) → Appends a b s → AppendsPart b c t → AppendsPart a c (s ++ t)
part_then None b c s t h k = tt
part_then (Some xs) None c s t h k = absurd h
part_then (Some xs) (Some ys) None s t h k = k
part_then (Some xs) (Some ys) (Some zs) s t h k =
    (s ++ k.0, k.1, ap (λ v. s ++ v) k.2 ∙ sym (append_assoc s k.0 k.1), k.3 ∙ ap (λ v. v ++ k.0) h ∙ append_assoc xs s k.0)

pub part_longer : (a b : Option (List ℕ)) (s t : List ℕ) → AppendsPart a b s → AppendsPart a b (s ++ t)
part_longer None b s t h = tt
part_longer (Some xs) None s t h = h
part_longer (Some xs) (Some ys) s t h = (h.0, h.1 ++ t, ap (λ v. v ++ t) h.2 ∙ append_assoc h.0 h.1 t, h.3)

-- what was written is a front of what was to be written
pub part_of : (a b : Option (List ℕ)) (s t : List ℕ) → Appends a b s → AppendsPart a b (s ++ t)
part_of None b s t h = tt
part_of (Some xs) None s t h = h
part_of (Some xs) (Some ys) s t h = (s, t, refl, h)

-- the rest of a text, as a slice gives it
pub slice_rest : (n : ℕ) (text : List ℕ) → take (length text - n) (drop n text) ≡ drop n text
slice_rest n text = take_all _ _ (omega (arith, length-drop n text))

-- a front of a text, by its length, and a write that failed
pub part_failed : (a b c : Option (List ℕ)) (n : ℕ) (text : List ℕ) → Appends a b (take n text) → Keeps b c → AppendsPart a c text
part_failed None b c n text h k = tt
part_failed (Some xs) None c n text h k = absurd h
part_failed (Some xs) (Some ys) None n text h k = k
part_failed (Some xs) (Some ys) (Some zs) n text h k = (take n text, drop n text, sym (take-append-drop n text), k ∙ h)

-- a front of a text, by its length, and a write that took nothing
pub part_taken : (a b c : Option (List ℕ)) (n : ℕ) (text : List ℕ) → Appends a b (take n text) → Appends b c [] → AppendsPart a c text
part_taken None b c n text h k = tt
part_taken (Some xs) None c n text h k = absurd h
part_taken (Some xs) (Some ys) None n text h k = k
part_taken (Some xs) (Some ys) (Some zs) n text h k = (take n text, drop n text, sym (take-append-drop n text), k ∙ append-nil ys ∙ h)

pub taken_more : (a b c : Option (List ℕ)) (n k : ℕ) (text : List ℕ) → Appends a b (take n text) → Appends b c (take k (drop n text)) → Appends a c (take (n + k) text)
taken_more a b c n k text h w = subst (λ v. Appends a c v) (sym (take-add n k text)) (appends_then a b c _ _ h w)

pub wrote_then : {T E : Type 0} (a b c : Option (List ℕ)) (r : Result T E) (s t : List ℕ) → Appends a b s → Wrote b c r t → Wrote a c r (s ++ t)
wrote_then a b c (Ok x) s t h k = appends_then a b c s t h k
wrote_then a b c (Err e) s t h k = part_then a b c s t h k

-- the front of a list, an element and the others
pub flat_map_parts : {X : Type 0} (f : X → List ℕ) (xs : List X) (i : ℕ) (d : X) → i < length xs → flat_map f xs ≡ (flat_map f (take i xs) ++ f (get_or xs i d)) ++ flat_map f (drop (i + 1) xs)
flat_map_parts f xs i d h =
    ap (flat_map f) (sym (take-append-drop i xs) ∙ ap (λ v. take i xs ++ v) (drop-cons xs i d h ∙ ap (λ n. get_or xs i d ∷ drop n xs) (sym (add-one i))))
    ∙ flat_map-append f (take i xs) (get_or xs i d ∷ drop (i + 1) xs) ∙ sym (append_assoc (flat_map f (take i xs)) (f (get_or xs i d)) (flat_map f (drop (i + 1) xs)))

-- a text, after one that was written
pub writes_then : {T U : Type 0} (a b c : Stream) (x : T) (r : Result U Fault) (s t : List ℕ) → WritesText {T = T} a b (Ok x) s → WritesText b c r t
    → WritesText a c r (s ++ t)
writes_then a b c x r s t h k = record {
  wrote = wrote_then a.bytes b.bytes c.bytes r s t h.wrote k.wrote;
  fault = k.fault;
  failures = k.failures ∙ ap (λ n. n + failures_of r) (h.failures ∙ add-zero _);
}

-- a text whose front could not be written
pub writes_front : {T U : Type 0} (a b : Stream) (e : Fault) (s t : List ℕ) → WritesText {T = T} a b (Err e) s
    → WritesText {T = U} a b (Err e) (s ++ t)
writes_front a b e s t h = record { wrote = part_longer a.bytes b.bytes s t h.wrote; fault = h.fault; failures = h.failures }

-- the texts of a list, where one of them could not be written
pub writes_until : {T U X : Type 0} (f : X → List ℕ) (a b c : Stream) (e : Fault) (xs : List X) (i : ℕ) (d : X) → i < length xs
    → Appends a.bytes b.bytes (flat_map f (take i xs)) → b.failures ≡ a.failures
    → WritesText {T = T} b c (Err e) (f (get_or xs i d)) → WritesText {T = U} a c (Err e) (flat_map f xs)
writes_until f a b c e xs i d l h n k = record {
  wrote = rw (flat_map_parts f xs i d l) (part_longer a.bytes c.bytes _ _ (part_then a.bytes b.bytes c.bytes _ _ h k.wrote));
  fault = k.fault;
  failures = k.failures ∙ ap (λ m. m + 1) n;
}
