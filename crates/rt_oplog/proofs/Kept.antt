-- A log that is kept in its order, and what a join makes.
use Rattle.rt_rows.specs.Places.{HasPlace, KeepsPlaces, op_at}
use Rattle.rt_rows.specs.declared.rows.RowPlace.{RowPlace}
use Rattle.std.proofs.Common.{◌≡◌, ℕ, suc, ◌<◌, ◌≤◌, true, false, ◌⊎◌, inl, inr, List, [], ◌∷◌, ◌++◌, length, map, append_assoc, append-nil, refl, ap, ◌∙◌, sym, subst, arith, Result, Ok, Err}
use Rattle.std.proofs.lemmas.List.{map-append}
use Rattle.std.specs.List.{AllByRecursion, list_any}
use Rattle.rt_stamps.specs.declared.stamp.Stamp.{Stamp}
use Rattle.rt_stamps.specs.declared.fault.Fault.{Fault}
use Rattle.rt_stamps.specs.declared.fault.Fault.TheVariants.{NoMemory, Conflict}
use Rattle.rt_stamps.specs.Stamps.{is_before}
use Rattle.rt_stamps.proofs.Order.{differ}
use Rattle.rt_oplog.specs.declared.ends.Ends.{Ends}
use Rattle.rt_oplog.specs.Ends.{end_in}
use Rattle.rt_ops.specs.Operations.{Operation, stamp_of, has_bad_stamp}
use Rattle.rt_oplog.specs.Logs.{HasClashOf, HasOp, holds, clash, IsLog, with_operation, known_end, joined}
use Rattle.rt_oplog.specs.Kept.{newest_first, leading, IsLogInRows, is_earlier, IsPutBehind}
use Rattle.rt_oplog.specs.Merged.{IsMerged, IsTakenOver}
use Rattle.rt_oplog.proofs.Sets.{split, clash_sym, any_at, none_from}
use Rattle.rt_oplog.proofs.Joins.{free_past, joined_err, joined_ok, log_with}
use Rattle.rt_oplog.proofs.Places.{seen_kept, within_kept}
use Rattle.rt_oplog.proofs.Merges.{clash_below, seen_push, within_push, within_append}

-- an operation that is newer than all of a log

pub leading_short : (ops : List (List Operation)) (stamp : Stamp) (order : List RowPlace) → leading (is_earlier ops stamp) order ≡ length order
    → (x : Operation) → HasOp (newest_first ops order) x → is_before (stamp_of x) stamp ≡ true
leading_short ops stamp [] e x i = absurd i
leading_short ops stamp (place ∷ order) e x i = split (is_earlier ops stamp place)
    (λ h. let k : suc (leading (is_earlier ops stamp) order) ≡ suc (length order) = rw h at e in
    elim (end_has (newest_first ops order) (op_at ops place) x i) [
      | inl j ↦ leading_short ops stamp order (omega (arith, k)) x j
      | inr d ↦ subst (λ y. is_before (stamp_of y) stamp ≡ true) d h
    ])
    (λ h. let k : 0 ≡ suc (length order) = rw h at e in absurd (omega (arith, k)))
  where
    end_has : (set : List Operation) (q x : Operation) → HasOp (set ++ q ∷ []) x → HasOp set x ⊎ (q ≡ x)
    end_has [] q x h = elim h [ inl d ↦ inr d | inr j ↦ absurd j ]
    end_has (y ∷ set) q x h = elim h [ inl d ↦ inl (inl d) | inr j ↦ elim (end_has set q x j) [ inl k ↦ inl (inr k) | inr d ↦ inr d ] ]

all_before : (set : List Operation) (stamp : Stamp) → ((x : Operation) → HasOp set x → is_before (stamp_of x) stamp ≡ true) → AllByRecursion (λ q. is_before (stamp_of q) stamp ≡ true) set
all_before [] stamp f = tt
all_before (q ∷ set) stamp f = (f q (inl refl), all_before set stamp (λ x i. f x (inr i)))

-- the newest operation clashes where it goes on from below its site's known end
pub clash_newest : (ops : List (List Operation)) (order : List RowPlace) (ends : Ends) (op : Operation) → IsLogInRows ops order ends → leading (is_earlier ops (stamp_of op)) order ≡ length order
    → op.prev < end_in ends op.site → list_any (clash op) (newest_first ops order) ≡ true
clash_newest ops order ends op k e h =
    let set = newest_first ops order in
    let known = k.known op.site in
    let below : op.prev < known_end set op.site = omega (arith, known, h) in
    let (p, i, c) = clash_below set op (all_before set (stamp_of op) (leading_short ops (stamp_of op) order e), k.log.falling) below in
    any_at (clash op) set p i (clash_sym op p ∙ c)

-- it is not there yet, and stands in front of them
newest_new : (op : Operation) (set : List Operation) → AllByRecursion (λ q. is_before (stamp_of q) (stamp_of op) ≡ true) set → holds set op ≡ false
newest_new op [] h = refl
newest_new op (q ∷ set) h = rw (differ (stamp_of q) (stamp_of op) h.0, newest_new op set h.1) refl

with_newest : (op : Operation) (set : List Operation) → AllByRecursion (λ q. is_before (stamp_of q) (stamp_of op) ≡ true) set → with_operation op set ≡ op ∷ set
with_newest op [] h = refl
with_newest op (q ∷ set) h = rw h.0 refl

pub seen_newest : (ops now : List (List Operation)) (old new : List RowPlace) (op : Operation) → KeepsPlaces ops now → AllByRecursion (HasPlace ops) old
    → IsPutBehind op now old new → newest_first now new ≡ op ∷ newest_first ops old
seen_newest ops now old new op m w p =
    ap (newest_first now) p.named ∙ seen_push now old p.place ∙ ap (λ q. q ∷ newest_first now old) p.there.1 ∙ ap (λ set. op ∷ set) (seen_kept ops now old m w)

-- a log with an operation that is newer than all of it, and goes on from no lower than its site's known end
pub kept_newest : (ops now : List (List Operation)) (old new : List RowPlace) (ends more : Ends) (op : Operation) → KeepsPlaces ops now → IsLogInRows ops old ends → IsPutBehind op now old new
    → has_bad_stamp op ≡ false → AllByRecursion (λ q. is_before (stamp_of q) (stamp_of op) ≡ true) (newest_first ops old) → known_end (newest_first ops old) op.site ≤ op.prev
    → ((s : ℕ) → end_in more s ≡ known_end (op ∷ newest_first ops old) s) → IsLogInRows now new more
kept_newest ops now old new ends more op m k p s n l e =
    let set = newest_first ops old in
    let same = seen_newest ops now old new op m k.within p in
    let free = none_from (clash op) set (free_past set op s l) in
    record {
      within = subst (AllByRecursion (HasPlace now)) (sym p.named) (within_push (HasPlace now) p.place old (within_kept ops now old m k.within) p.there.0);
      log = subst IsLog (sym same) (subst IsLog (with_newest op set n) (log_with op set k.log s (newest_new op set n) free));
      known = λ site. e site ∙ ap (λ set. known_end set site) (sym same);
    }

-- operations of other rows that are taken over

pub taken_none : (more now : List (List Operation)) (old : List RowPlace) → IsTakenOver more now [] old old
taken_none more now old = record { behind = []; named = sym (append-nil old); within = tt; same = refl }

same_kept : (ops now : List (List Operation)) (order : List RowPlace) → KeepsPlaces ops now → AllByRecursion (HasPlace ops) order → map (op_at now) order ≡ map (op_at ops) order
same_kept ops now [] m w = refl
same_kept ops now (place ∷ order) m w = rw ((m place w.0).1, same_kept ops now order m w.1) refl

pub taken_more : (more ops now : List (List Operation)) (front back old mid new : List RowPlace) → KeepsPlaces ops now → IsTakenOver more ops front old mid → IsTakenOver more now back mid new
    → IsTakenOver more now (front ++ back) old new
taken_more more ops now front back old mid new m a b = record {
  behind = a.behind ++ b.behind;
  named = b.named ∙ ap (λ xs. xs ++ b.behind) a.named ∙ append_assoc old a.behind b.behind;
  within = within_append (HasPlace now) a.behind b.behind (within_kept ops now a.behind m a.within) b.within;
  same = map-append (op_at now) a.behind b.behind ∙ ap (λ xs. xs ++ map (op_at now) b.behind) (same_kept ops now a.behind m a.within ∙ a.same)
      ∙ ap (λ xs. map (op_at more) front ++ xs) b.same ∙ sym (map-append (op_at more) front back);
}

clash_of_two : (one other : List Operation) → HasClashOf one other → joined one other ≡ Err Conflict
clash_of_two one other h = let (p, q, i, j, c) = h in joined_err one other p q i j c

clash_of_merged : (ops : List (List Operation)) (one other : List Operation) (order : List RowPlace) → IsMerged ops one other order → HasClashOf (newest_first ops order) (newest_first ops order) → joined one other ≡ Err Conflict
clash_of_merged ops one other order m h =
    let (p, q, i, j, c) = h in
    joined_err one other p q ((m.members p).0 (either i)) ((m.members q).0 (either j)) c
  where
    either : {A : Type 0} → A ⊎ A → A
    either h = elim h [ inl a ↦ a | inr a ↦ a ]

pub joined_merged : (ops : List (List Operation)) (one other : List Operation) (order : List RowPlace) (ends : Ends) → IsMerged ops one other order → IsLogInRows ops order ends → IsLog one → IsLog other → joined one other ≡ Ok (newest_first ops order)
joined_merged ops one other order ends m k l n = joined_ok one other (newest_first ops order) l n (record { log = k.log; members = m.members })

-- what the steps of a join answer

pub told_of_two : (one other : List Operation) (fault : Fault) → (fault ≡ NoMemory) ⊎ ((fault ≡ Conflict) × HasClashOf one other) → (joined one other ≡ Err fault) ⊎ (fault ≡ NoMemory)
told_of_two one other fault h =
    let refused : Fault → Result (List Operation) Fault = λ f. Err f in
    elim h [ inl e ↦ inr e | inr k ↦ inl (clash_of_two one other k.1 ∙ ap refused (sym k.0)) ]

pub told_of_merged : (ops : List (List Operation)) (one other : List Operation) (order : List RowPlace) (fault : Fault) → IsMerged ops one other order
    → (fault ≡ NoMemory) ⊎ ((fault ≡ Conflict) × HasClashOf (newest_first ops order) (newest_first ops order)) → (joined one other ≡ Err fault) ⊎ (fault ≡ NoMemory)
told_of_merged ops one other order fault m h =
    let refused : Fault → Result (List Operation) Fault = λ f. Err f in
    elim h [ inl e ↦ inr e | inr k ↦ inl (clash_of_merged ops one other order m k.1 ∙ ap refused (sym k.0)) ]
