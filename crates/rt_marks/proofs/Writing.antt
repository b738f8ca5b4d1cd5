-- A loop down numbers that writes those that pass a test into a list from an index on.
use Rattle.std.proofs.Common.{◌≡◌, ℕ, zero, suc, ◌+◌, ◌<◌, ◌≤◌, List, [], ◌∷◌, ◌++◌, filter, length, get_or, set, take, drop, true, false, refl, sym, ap, ◌∙◌, Bool, cond, subst, arith, append_assoc, append-nil, take-append-drop}
use Rattle.std.proofs.lemmas.List.{length-append, length-set, length-take-le, drop_more, take_all}
use Rattle.std.proofs.lemmas.List.Elements.{filter_more}
use Rattle.std.proofs.Math.Seq.{set-append_seam}
use Rattle.rt_marks.specs.Seen.{overwritten}
use Rattle.rt_marks.proofs.InOrder.{split}

pub record IsWritten (test : ℕ → Bool) (numbers old now : List ℕ) (at next i : ℕ) : Type 0 where
  pub reached : next ≡ at + length (filter test (take i numbers))
  pub written : now ≡ overwritten at (filter test (take i numbers)) old
  pub long : length now ≡ length old

pub nothing_written : (test : ℕ → Bool) (numbers old : List ℕ) (at : ℕ) → at ≤ length old → IsWritten test numbers old old at at 0
nothing_written test numbers old at l = record {
  reached = omega arith;
  written = sym (ap (λ v. (take at old ++ []) ++ drop v old) (plain at) ∙ ap (λ v. v ++ drop at old) (append-nil (take at old)) ∙ take-append-drop at old);
  long = refl;
} where
  plain : (at : ℕ) → at + 0 ≡ at
  plain at = omega arith

-- those that pass later still have room
filter_room : (test : ℕ → Bool) (xs : List ℕ) (i d : ℕ) → i < length xs → test (get_or xs i d) ≡ true → length (filter test (take i xs)) + 1 ≤ length (filter test xs)
filter_room test [] i d l h = absurd (omega (arith, l))
filter_room test (x ∷ xs) zero d l h = subst (λ b. 0 + 1 ≤ length (cond b (x ∷ filter test xs) (filter test xs))) (sym h) (omega arith)
filter_room test (x ∷ xs) (suc i) d l h =
    let more = filter_room test xs i d (omega (arith, l)) h in
    split (test x)
    (λ t. subst (λ b. length (cond b (x ∷ filter test (take i xs)) (filter test (take i xs))) + 1 ≤ length (cond b (x ∷ filter test xs) (filter test xs))) (sym t) (omega (arith, more)))
    (λ f. subst (λ b. length (cond b (x ∷ filter test (take i xs)) (filter test (take i xs))) + 1 ≤ length (cond b (x ∷ filter test xs) (filter test xs))) (sym f) more)

pub room_for : (test : ℕ → Bool) (numbers old now : List ℕ) (at next i s : ℕ) → IsWritten test numbers old now at next i → at + length (filter test numbers) ≤ length old → i < length numbers → s ≡ get_or numbers i s → test s ≡ true → next < length now
room_for test numbers old now at next i s w r l e t =
    omega (arith, w.reached, w.long, r, filter_room test numbers i s l (ap test (sym e) ∙ t))

-- a list with one more written behind xs
write_next : (front xs old : List ℕ) (k y : ℕ) → length (front ++ xs) ≡ k → k < length old → set ((front ++ xs) ++ drop k old) k y ≡ (front ++ (xs ++ y ∷ [])) ++ drop (k + 1) old
write_next front xs old k y e l =
    ap (λ v. set ((front ++ xs) ++ v) k y) (drop_more old k y l)
    ∙ ap (λ v. set ((front ++ xs) ++ get_or old k y ∷ drop (k + 1) old) v y) (sym e)
    ∙ set-append_seam (front ++ xs) (get_or old k y) (drop (k + 1) old) y
    ∙ sym (append_assoc (front ++ xs) (y ∷ []) (drop (k + 1) old))
    ∙ ap (λ v. v ++ drop (k + 1) old) (append_assoc front xs (y ∷ []))

pub one_more_written : (test : ℕ → Bool) (numbers old now : List ℕ) (at next i s : ℕ) → IsWritten test numbers old now at next i → at + length (filter test numbers) ≤ length old → i < length numbers → s ≡ get_or numbers i s → test s ≡ true → IsWritten test numbers old (set now next s) at (next + 1) (i + 1)
one_more_written test numbers old now at next i s w r l e t =
    let xs = filter test (take i numbers) in
    let passes : test (get_or numbers i s) ≡ true = ap test (sym e) ∙ t in
    let grown : filter test (take (i + 1) numbers) ≡ xs ++ s ∷ [] = filter_more test numbers i s l ∙ ap (λ b. xs ++ cond b (get_or numbers i s ∷ []) []) passes ∙ ap (λ v. xs ++ v ∷ []) (sym e) in
    let room = filter_room test numbers i s l passes in
    let size : length (take at old ++ xs) ≡ next = length-append (take at old) xs ∙ omega (arith, length-take-le at old (omega (arith, r)), w.reached) in
    let longer : length (filter test (take (i + 1) numbers)) ≡ length xs + 1 = ap length grown ∙ length-append xs (s ∷ []) in
    record {
      reached = omega (arith, w.reached, longer);
      written = ap (λ v. set v next s) (w.written ∙ ap (λ v. (take at old ++ xs) ++ drop v old) (sym w.reached))
          ∙ write_next (take at old) xs old next s size (omega (arith, w.reached, r, room))
          ∙ ap (λ v. (take at old ++ (xs ++ s ∷ [])) ++ drop v old) (omega_eq next at (length (filter test (take (i + 1) numbers))) (length xs) w.reached longer)
          ∙ ap (λ v. (take at old ++ v) ++ drop (at + length (filter test (take (i + 1) numbers))) old) (sym grown);
      long = length-set now next s ∙ w.long;
    }
  where
    omega_eq : (next at k j : ℕ) → next ≡ at + j → k ≡ j + 1 → next + 1 ≡ at + k
    omega_eq next at k j h g = omega (arith, h, g)

pub not_written : (test : ℕ → Bool) (numbers old now : List ℕ) (at next i s : ℕ) → IsWritten test numbers old now at next i → i < length numbers → s ≡ get_or numbers i s → test s ≡ false → IsWritten test numbers old now at next (i + 1)
not_written test numbers old now at next i s w l e f =
    let xs = filter test (take i numbers) in
    let same : filter test (take (i + 1) numbers) ≡ xs = filter_more test numbers i s l ∙ ap (λ b. xs ++ cond b (get_or numbers i s ∷ []) []) (ap test (sym e) ∙ f) ∙ append-nil xs in
    record {
      reached = w.reached ∙ ap (λ v. at + length v) (sym same);
      written = w.written ∙ ap (λ v. overwritten at v old) (sym same);
      long = w.long;
    }

pub all_written : (test : ℕ → Bool) (numbers old now : List ℕ) (at next i : ℕ) → IsWritten test numbers old now at next i → length numbers ≤ i → (next ≡ at + length (filter test numbers)) × (now ≡ overwritten at (filter test numbers) old)
all_written test numbers old now at next i w l =
    let e = take_all i numbers l in
    (w.reached ∙ ap (λ v. at + length (filter test v)) e, w.written ∙ ap (λ v. overwritten at (filter test v) old) e)
