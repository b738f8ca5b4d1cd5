-- Places in a log as it is kept.
use Rattle.rt_rows.specs.Places.{HasPlace, KeepsPlaces, op_at}
use Rattle.rt_rows.specs.declared.rows.RowPlace.{RowPlace}
use Rattle.std.proofs.Common.{◌≡◌, ℕ, zero, suc, ◌<◌, ◌≤◌, Bool, true, false, ◌&&◌, ◌||◌, ◌⊎◌, inl, inr, List, [], ◌∷◌, ◌++◌, length, get_or, refl, ap, ◌∙◌, sym, subst, arith, nat_lt, length-append}
use Rattle.std.proofs.lemmas.Bool.Decides.{nat_tests}
use Rattle.std.specs.List.{AllByRecursion, list_any, insert}
use Rattle.std.specs.List.Sorted.{IsPartitionPoint, IsPartitionedBy}
use Rattle.std.proofs.lemmas.List.Folds.{list_any-append}
use Rattle.rt_stamps.specs.declared.stamp.Stamp.{Stamp}
use Rattle.rt_stamps.specs.Stamps.{is_before, is_same}
use Rattle.rt_stamps.proofs.Order.{before_trans, differ}
use Rattle.rt_oplog.specs.declared.ends.Ends.{Ends}
use Rattle.rt_oplog.specs.Ends.{end_in}
use Rattle.rt_ops.specs.Operations.{Operation, stamp_of, has_bad_stamp}
use Rattle.rt_oplog.specs.Logs.{HasOp, same_operation, holds, clash, IsFalling, IsLog, with_operation, known_end}
use Rattle.rt_oplog.specs.Kept.{newest_first, leading, IsLogInRows, is_earlier, IsPutInOrder}
use Rattle.rt_oplog.proofs.Sets.{split, operation_true, none_from}
use Rattle.rt_oplog.proofs.Joins.{log_with, end_with}

-- the front of a falling list, and its oldest

all_front : (P : Operation → Type 0) (set : List Operation) (q : Operation) → AllByRecursion P (set ++ q ∷ []) → AllByRecursion P set × P q
all_front P [] q h = (tt, h.0)
all_front P (x ∷ set) q h = let r = all_front P set q h.1 in ((h.0, r.0), r.1)

pub falling_front : (set : List Operation) (q : Operation) → IsFalling (set ++ q ∷ []) → IsFalling set
falling_front [] q h = tt
falling_front (x ∷ set) q h = ((all_front (λ y. is_before (stamp_of y) (stamp_of x) ≡ true) set q h.0).0, falling_front set q h.1)

pub oldest_before : (set : List Operation) (q x : Operation) → IsFalling (set ++ q ∷ []) → HasOp set x → is_before (stamp_of q) (stamp_of x) ≡ true
oldest_before [] q x h i = absurd i
oldest_before (y ∷ set) q x h i = elim i [
  | inl e ↦ subst (λ z. is_before (stamp_of q) (stamp_of z) ≡ true) e (all_front (λ z. is_before (stamp_of z) (stamp_of y) ≡ true) set q h.0).1
  | inr j ↦ oldest_before set q x h.1 j
]

has_front : (set : List Operation) (q x : Operation) → HasOp set x → HasOp (set ++ q ∷ []) x
has_front [] q x h = absurd h
has_front (y ∷ set) q x h = elim h [ inl e ↦ inl e | inr i ↦ inr (has_front set q x i) ]

has_last : (set : List Operation) (q : Operation) → HasOp (set ++ q ∷ []) q
has_last [] q = inl refl
has_last (y ∷ set) q = inr (has_last set q)

-- what a place of the order has

pub at_has : (ops : List (List Operation)) (order : List RowPlace) (j : ℕ) (d : RowPlace) → j < length order → HasOp (newest_first ops order) (op_at ops (get_or order j d))
at_has ops [] j d h = absurd (omega arith)
at_has ops (place ∷ order) zero d h = has_last (newest_first ops order) (op_at ops place)
at_has ops (place ∷ order) (suc j) d h = has_front (newest_first ops order) (op_at ops place) _ (at_has ops order j d (omega arith))

-- the search for a place

pub partitioned : (ops : List (List Operation)) (stamp : Stamp) (order : List RowPlace) → IsFalling (newest_first ops order) → IsPartitionedBy (is_earlier ops stamp) order
partitioned ops stamp [] f i j d h k e = absurd (omega arith)
partitioned ops stamp (place ∷ order) f zero zero d h k e = e
partitioned ops stamp (place ∷ order) f zero (suc j) d h k e =
    before_trans _ (stamp_of (op_at ops (get_or order j d))) stamp (oldest_before (newest_first ops order) (op_at ops place) _ f (at_has ops order j d (omega arith))) e
partitioned ops stamp (place ∷ order) f (suc i) zero d h k e = absurd (omega arith)
partitioned ops stamp (place ∷ order) f (suc i) (suc j) d h k e = partitioned ops stamp order (falling_front (newest_first ops order) (op_at ops place) f) i j d (omega arith) (omega arith) e

pub leading_is : {X : Type 0} (p : X → Bool) (xs : List X) (i : ℕ) → i ≤ length xs → IsPartitionPoint (λ y. p y ≡ true) (λ y. p y ≡ false) xs i → i ≡ leading p xs
leading_is p [] i h k = omega arith
leading_is p (x ∷ xs) zero h k = let e : p x ≡ false = k.1 0 x (omega arith) (omega arith) in rw e refl
leading_is p (x ∷ xs) (suc i) h k =
    let e : p x ≡ true = k.0 0 x (omega arith) (omega arith) in
    let r : i ≡ leading p xs = leading_is p xs i (omega arith) ((λ j d l m. k.0 (suc j) d (omega arith) (omega arith)), (λ j d l m. k.1 (suc j) d (omega arith) (omega arith))) in
    rw e (ap suc r)

pub leading_le : {X : Type 0} (p : X → Bool) (xs : List X) → leading p xs ≤ length xs
leading_le p [] = omega arith
leading_le p (x ∷ xs) = let r = leading_le p xs in split (p x) (λ e. rw e (omega arith)) (λ e. rw e (omega arith))

-- the oldest operation is not before a stamp, so none is
none_earlier : (set : List Operation) (q : Operation) (stamp : Stamp) → IsFalling (set ++ q ∷ []) → is_before (stamp_of q) stamp ≡ false → (x : Operation) → HasOp set x → is_before (stamp_of x) stamp ≡ false
none_earlier set q stamp f e x i = split (is_before (stamp_of x) stamp)
    (λ h. let k = before_trans (stamp_of q) (stamp_of x) stamp (oldest_before set q x f i) h in absurd (cc (k, e)))
    (λ h. h)

-- an operation put in at its place

with_newer : (op q : Operation) (set : List Operation) → is_before (stamp_of q) (stamp_of op) ≡ true → with_operation op (set ++ q ∷ []) ≡ with_operation op set ++ q ∷ []
with_newer op q [] h = rw h refl
with_newer op q (x ∷ set) h = split (is_before (stamp_of x) (stamp_of op))
    (λ e. rw e refl)
    (λ e. rw e (ap (λ xs. x ∷ xs) (with_newer op q set h)))

with_oldest : (op : Operation) (set : List Operation) → ((x : Operation) → HasOp set x → is_before (stamp_of x) (stamp_of op) ≡ false) → with_operation op set ≡ set ++ op ∷ []
with_oldest op [] h = refl
with_oldest op (x ∷ set) h = let e = h x (inl refl) in rw e (ap (λ xs. x ∷ xs) (with_oldest op set (λ y i. h y (inr i))))

earlier_none : (set : List Operation) (q op : Operation) → IsFalling (set ++ q ∷ []) → is_before (stamp_of q) (stamp_of op) ≡ false → (x : Operation) → HasOp (set ++ q ∷ []) x → is_before (stamp_of x) (stamp_of op) ≡ false
earlier_none set q op f e x i = elim (front_or_last set q x i) [
  | inl j ↦ none_earlier set q (stamp_of op) f e x j
  | inr d ↦ subst (λ y. is_before (stamp_of y) (stamp_of op) ≡ false) d e
]
  where
    front_or_last : (set : List Operation) (q x : Operation) → HasOp (set ++ q ∷ []) x → HasOp set x ⊎ (q ≡ x)
    front_or_last [] q x h = elim h [ inl d ↦ inr d | inr j ↦ absurd j ]
    front_or_last (y ∷ set) q x h = elim h [ inl d ↦ inl (inl d) | inr j ↦ elim (front_or_last set q x j) [ inl k ↦ inl (inr k) | inr d ↦ inr d ] ]

pub inserted : (ops : List (List Operation)) (op : Operation) (new : RowPlace) (order : List RowPlace) → op_at ops new ≡ op → IsFalling (newest_first ops order)
    → newest_first ops (insert order (leading (is_earlier ops (stamp_of op)) order) new) ≡ with_operation op (newest_first ops order)
inserted ops op new [] e f = ap (λ x. x ∷ []) e
inserted ops op new (place ∷ order) e f = split (is_earlier ops (stamp_of op) place)
    (λ h. rw h (ap (λ xs. xs ++ op_at ops place ∷ []) (inserted ops op new order e (falling_front (newest_first ops order) (op_at ops place) f))
    ∙ sym (with_newer op (op_at ops place) (newest_first ops order) h)))
    (λ h. rw h (ap (λ x. (newest_first ops order ++ op_at ops place ∷ []) ++ x ∷ []) e
    ∙ sym (with_oldest op (newest_first ops order ++ op_at ops place ∷ []) (earlier_none (newest_first ops order) (op_at ops place) op f h))))

-- more operations

pub seen_kept : (ops now : List (List Operation)) (order : List RowPlace) → KeepsPlaces ops now → AllByRecursion (HasPlace ops) order → newest_first now order ≡ newest_first ops order
seen_kept ops now [] k h = refl
seen_kept ops now (place ∷ order) k h = rw (seen_kept ops now order k h.1, (k place h.0).1) refl

pub within_kept : (ops now : List (List Operation)) (order : List RowPlace) → KeepsPlaces ops now → AllByRecursion (HasPlace ops) order → AllByRecursion (HasPlace now) order
within_kept ops now [] k h = tt
within_kept ops now (place ∷ order) k h = ((k place h.0).0, within_kept ops now order k h.1)

-- what was kept stays kept
pub kept_on : (ops now : List (List Operation)) (order : List RowPlace) (ends : Ends) → KeepsPlaces ops now → IsLogInRows ops order ends → IsLogInRows now order ends
kept_on ops now order ends m k =
    let same = seen_kept ops now order m k.within in
    record {
      within = within_kept ops now order m k.within;
      log = subst IsLog (sym same) k.log;
      known = λ site. k.known site ∙ ap (λ set. known_end set site) (sym same);
    }

pub within_insert : (P : RowPlace → Type 0) (new : RowPlace) (k : ℕ) (order : List RowPlace) → k ≤ length order → P new → AllByRecursion P order → AllByRecursion P (insert order k new)
within_insert P new zero order l i h = (i, h)
within_insert P new (suc k) [] l i h = absurd (omega arith)
within_insert P new (suc k) (place ∷ order) l i h = (h.0, within_insert P new k order (omega arith) i h.1)

-- the tests on the operations of the log, and on their places

pub any_seen : (p : Operation → Bool) (ops : List (List Operation)) (order : List RowPlace) → list_any p (newest_first ops order) ≡ list_any (λ place. p (op_at ops place)) order
any_seen p ops [] = refl
any_seen p ops (place ∷ order) =
    list_any-append p (newest_first ops order) (op_at ops place ∷ []) ∙ rw (any_seen p ops order) (or_turned (list_any (λ place. p (op_at ops place)) order) (p (op_at ops place)))
  where
    or_turned : (a b : Bool) → (a || (b || false)) ≡ (b || a)
    or_turned true true = refl
    or_turned true false = refl
    or_turned false true = refl
    or_turned false false = refl

-- the operation at the place of its stamp, if it is there
pub found : (ops : List (List Operation)) (op : Operation) (order : List RowPlace) (d : RowPlace) → IsFalling (newest_first ops order)
    → holds (newest_first ops order) op ≡ (nat_lt (leading (is_earlier ops (stamp_of op)) order) (length order) && same_operation (op_at ops (get_or order (leading (is_earlier ops (stamp_of op)) order) d)) op)
found ops op [] d f = refl
found ops op (place ∷ order) d f =
    let q = op_at ops place in
    let set = newest_first ops order in
    let test = λ (x : Operation). same_operation x op in
    list_any-append test set (q ∷ []) ∙ split (is_earlier ops (stamp_of op) place)
    (λ e. let s : is_same (stamp_of q) (stamp_of op) ≡ false = differ (stamp_of q) (stamp_of op) e in
    let r = found ops op order d (falling_front set q f) in
    rw (s, r, e) (last_false (nat_lt (leading (is_earlier ops (stamp_of op)) order) (length order)) (same_operation (op_at ops (get_or order (leading (is_earlier ops (stamp_of op)) order) d)) op) (leading (is_earlier ops (stamp_of op)) order) (length order) refl))
    (λ e. let n : list_any test set ≡ false = none_from test set (λ x i. unlike x (oldest_before set q x f i) e) in
    rw (n, e) (last_only (same_operation q op) (length order)))
  where
    last_false : (b c : Bool) (m n : ℕ) → b ≡ nat_lt m n → ((b && c) || (false || false)) ≡ (nat_lt (suc m) (suc n) && c)
    last_false b c m n h = let k : nat_lt (suc m) (suc n) ≡ nat_lt m n = grind (arith, nat_tests) in rw (k, ← h) (or_false (b && c))
      where
        or_false : (a : Bool) → (a || (false || false)) ≡ a
        or_false true = refl
        or_false false = refl

    last_only : (b : Bool) (n : ℕ) → (false || (b || false)) ≡ (nat_lt 0 (suc n) && b)
    last_only true n = grind (arith, nat_tests)
    last_only false n = grind (arith, nat_tests)

    unlike : (x : Operation) → is_before (stamp_of (op_at ops place)) (stamp_of x) ≡ true → is_before (stamp_of (op_at ops place)) (stamp_of op) ≡ false → same_operation x op ≡ false
    unlike x h e = split (same_operation x op)
        (λ s. let k : is_before (stamp_of (op_at ops place)) (stamp_of op) ≡ true = subst (λ y. is_before (stamp_of (op_at ops place)) (stamp_of y) ≡ true) (operation_true x op s) h in absurd (cc (k, e)))
        (λ s. s)

-- what is seen of a log once an operation is put in
pub put_seen : (ops now : List (List Operation)) (old new : List RowPlace) (op : Operation) → KeepsPlaces ops now → AllByRecursion (HasPlace ops) old → IsFalling (newest_first ops old)
    → IsPutInOrder op now old new → newest_first now new ≡ with_operation op (newest_first ops old)
put_seen ops now old new op m w f p =
    let same = seen_kept ops now old m w in
    ap (newest_first now) p.named ∙ inserted now op p.place old p.there.1 (subst IsFalling (sym same) f) ∙ ap (with_operation op) same

-- an operation that a log can take, put in
pub kept_put : (ops now : List (List Operation)) (old new : List RowPlace) (ends more : Ends) (op : Operation) → KeepsPlaces ops now → IsLogInRows ops old ends → IsPutInOrder op now old new
    → has_bad_stamp op ≡ false → holds (newest_first ops old) op ≡ false → list_any (clash op) (newest_first ops old) ≡ false
    → ((s : ℕ) → end_in more s ≡ known_end (op ∷ newest_first ops old) s) → IsLogInRows now new more
kept_put ops now old new ends more op m k p s n f e =
    let seen = put_seen ops now old new op m k.within k.log.falling p in
    let at = leading (is_earlier now (stamp_of op)) old in
    record {
      within = subst (AllByRecursion (HasPlace now)) (sym p.named)
          (within_insert (HasPlace now) p.place at old (leading_le (is_earlier now (stamp_of op)) old) p.there.0 (within_kept ops now old m k.within));
      log = subst IsLog (sym seen) (log_with op (newest_first ops old) k.log s n f);
      known = λ site. e site ∙ sym (end_with op (newest_first ops old) site) ∙ ap (λ set. known_end set site) (sym seen);
    }

pub length_seen : (ops : List (List Operation)) (order : List RowPlace) → length (newest_first ops order) ≡ length order
length_seen ops [] = refl
length_seen ops (place ∷ order) = omega (arith, length-append (newest_first ops order) (op_at ops place ∷ []), length_seen ops order)
