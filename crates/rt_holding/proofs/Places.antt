-- Held operations in a map, by their stamps and by when they came.
use Rattle.std.proofs.Common.{◌≡◌, ℕ, suc, ◌+◌, ◌<◌, ◌≤◌, Bool, true, false, inl, inr, refl, sym, ap, subst, ◌∙◌, arith, List, [], ◌∷◌, ◌++◌, append_assoc, drop, take, Option, Some, None, cond, ◌&&◌, ◌||◌, ◌==◌, length, nat_lt}
use Rattle.std.proofs.lemmas.Bool.Decides.{nat_tests}
use Rattle.std.proofs.lemmas.Cmp.{nat_cmp_total, on_total, then_total}
use Rattle.std.proofs.lemmas.Map.Keys.{sorted_head, sorted_tail}
use Rattle.std.specs.Cmp.{IsTotalOrder}
use Rattle.std.specs.List.{AllByRecursion}
use Rattle.std.specs.List.Sorted.{IsStrictlySortedBy}
use Rattle.std.specs.Map.{keys_of, lookup, remove_entry}
use Rattle.std.specs.BTreeMap.Range.{entries_between, range_contains}
use Rattle.std.specs.declared.ops.Bound.TheVariants.{Excluded, Included}
use Rattle.std.specs.BTreeMap.{BTreeMap, get, insert_entry, is_at}
use Rattle.std.specs.Option.{IfNone, IfSome, IsSomeAnd, is_some}
use Rattle.std.specs.Prelude.{Err, IfOk, Ok, OnErr, OnOk, Result}
use Rattle.std.specs.Ordering.{is_gt, nat_cmp, ordering_reverse, ordering_then}
use Rattle.std.specs.declared.cmp.Ordering.TheVariants.{Equal, Greater, Less}
use Rattle.rt_stamps.specs.Stamps.{is_before}
use Rattle.rt_ops.specs.Operations.{Operation, has_bad_stamp, stamp_of}
use Rattle.rt_ops.specs.Rules.{keeps_rules}
use Rattle.rt_oplog.specs.Logs.{HasOp, holds, same_operation}
use Rattle.rt_oplog.proofs.Sets.{operation_refl, operation_sym, operation_true}
use Rattle.rt_rga.proofs.Skipping.{split}
use Rattle.std.proofs.lemmas.List.{take-append-drop}
use Rattle.rt_holding.specs.declared.held.TheConstants.{MOST_HELD}
use Rattle.rt_holding.specs.Holding.{put_held, without_op}
use Rattle.rt_holding.specs.Kept.{AreHeld, HeldEntry, IsHeldAt, IsInPlace, Standing, by_stamp_and_arrival, ops_in, put_in_front}
use Rattle.rt_holding.specs.Runs.{NoneFalls, NoneTwice}
use Rattle.rt_holding.proofs.Keeping.{has_put, without_has}
use Rattle.rt_holding.proofs.Sites.{length_put, put_once, put_order, without_none, without_once, without_order}

-- THE ORDER OF PLACES

nat_same : (n : ℕ) → nat_cmp n n ≡ Equal
nat_same n = grind (arith, nat_tests)

pub place_same : (p : Standing) → by_stamp_and_arrival p p ≡ Equal
place_same p = rw (nat_same p.0.count, nat_same p.0.site, nat_same p.1) refl

-- an operation stands before those with greater stamps, and behind all others that came before it
pub placed : (op q : Operation) (n m : ℕ) → m < n
    → by_stamp_and_arrival (stamp_of op, n) (stamp_of q, m) ≡ cond (is_before (stamp_of op) (stamp_of q)) Less Greater
placed op q n m l = compared op.count q.count op.site q.site
  where
    last : nat_cmp n m ≡ Greater
    last = let k = l in grind (arith, nat_tests, k)

    compared : (a b c d : ℕ) → ordering_then (ordering_then (nat_cmp a b) (nat_cmp c d)) (nat_cmp n m) ≡ cond (nat_lt a b || ((a == b) && nat_lt c d)) Less Greater
    compared a b c d = rw last (grind (arith, nat_tests))

pub places_total : IsTotalOrder by_stamp_and_arrival
places_total = then_total (then_total (on_total (λ (p : Standing). p.0.count) nat_cmp_total) (on_total (λ (p : Standing). p.0.site) nat_cmp_total)) (on_total (λ (p : Standing). p.1) nat_cmp_total)

greater : (p q : Standing) → by_stamp_and_arrival q p ≡ Less → by_stamp_and_arrival p q ≡ Greater
greater p q e = places_total.antisymm p q ∙ ap ordering_reverse e

one_of : (P : Standing → Type 0) (front behind : List HeldEntry) (e : HeldEntry) → AllByRecursion P (keys_of (front ++ e ∷ behind)) → P e.0
one_of P [] behind e a = a.0
one_of P (x ∷ front) behind e a = one_of P front behind e a.1

-- those in front of an entry have lesser places
pub all_before : (front behind : List HeldEntry) (e : HeldEntry) → IsStrictlySortedBy by_stamp_and_arrival (keys_of (front ++ e ∷ behind))
    → AllByRecursion (λ x. by_stamp_and_arrival e.0 x.0 ≡ Greater) front
all_before [] behind e s = tt
all_before (x ∷ front) behind e s =
    let h = one_of (λ q. by_stamp_and_arrival x.0 q ≡ Less) front behind e (sorted_head by_stamp_and_arrival x.0 (keys_of (front ++ e ∷ behind)) s) in
    (greater e.0 x.0 h, all_before front behind e (sorted_tail by_stamp_and_arrival x.0 (keys_of (front ++ e ∷ behind)) s))

-- A PLACE

pub in_append : (front behind : List HeldEntry) (p : Standing) (op : Operation) → ops_in (front ++ (p, Some op) ∷ behind) ≡ ops_in front ++ op ∷ ops_in behind
in_append [] behind p op = refl
in_append (e ∷ front) behind p op =
    elim e.1 as (λ v. put_in_front v (ops_in (front ++ (p, Some op) ∷ behind)) ≡ put_in_front v (ops_in front) ++ op ∷ ops_in behind) [
      | None ↦ in_append front behind p op
      | Some q ↦ ap (λ l. q ∷ l) (in_append front behind p op)
    ]

pub in_both : (front behind : List HeldEntry) → ops_in (front ++ behind) ≡ ops_in front ++ ops_in behind
in_both [] behind = refl
in_both (e ∷ front) behind =
    elim e.1 as (λ v. put_in_front v (ops_in (front ++ behind)) ≡ put_in_front v (ops_in front) ++ ops_in behind) [
      | None ↦ in_both front behind
      | Some q ↦ ap (λ l. q ∷ l) (in_both front behind)
    ]

pub set_at : (front behind : List HeldEntry) (p : Standing) (v w : Option Operation) → AllByRecursion (λ e. by_stamp_and_arrival p e.0 ≡ Greater) front
    → insert_entry by_stamp_and_arrival (front ++ (p, v) ∷ behind) p w ≡ front ++ (p, w) ∷ behind
set_at [] behind p v w a = let e = place_same p in rw e refl
set_at (x ∷ front) behind p v w a = let e = a.0 in rw e (ap (λ l. x ∷ l) (set_at front behind p v w a.1))

pub out_at : (front behind : List HeldEntry) (p : Standing) (v : Option Operation) → AllByRecursion (λ e. by_stamp_and_arrival p e.0 ≡ Greater) front
    → remove_entry (is_at (by_stamp_and_arrival p)) (front ++ (p, v) ∷ behind) ≡ front ++ behind
out_at [] behind p v a = let e = place_same p in rw e refl
out_at (x ∷ front) behind p v a = let e = a.0 in rw e (ap (λ l. x ∷ l) (out_at front behind p v a.1))

pub found_at : (front behind : List HeldEntry) (p : Standing) (v : Option Operation) → AllByRecursion (λ e. by_stamp_and_arrival p e.0 ≡ Greater) front
    → lookup (is_at (by_stamp_and_arrival p)) (front ++ (p, v) ∷ behind) ≡ Some v
found_at [] behind p v a = let e = place_same p in rw e refl
found_at (x ∷ front) behind p v a = let e = a.0 in rw e (found_at front behind p v a.1)

pub get_at : (m : BTreeMap Standing (Option Operation)) (p : Standing) (op : Operation) → IsHeldAt p op m.entries → get by_stamp_and_arrival m p ≡ Some (Some op)
get_at m p op i = ap (λ es. lookup (is_at (by_stamp_and_arrival p)) es) i.is ∙ found_at i.front i.behind p (Some op) i.before

-- what stands at a place is told when another is put there
pub was_there : {E : Type 0} (r : Result (Option (Option Operation)) E) (m : BTreeMap Standing (Option Operation)) (p : Standing) (op : Operation) → IsHeldAt p op m.entries
    → IfOk r (λ old. old ≡ get by_stamp_and_arrival m p) → OnErr r (get by_stamp_and_arrival m p ≡ None) → r ≡ Ok (Some (Some op))
was_there (Ok old) m p op i e f = ap (λ v. Ok v) (e ∙ get_at m p op i)
was_there (Err x) m p op i e f = let g = get_at m p op i in cc

-- and only one stands there
pub same_at : (m : BTreeMap Standing (Option Operation)) (p : Standing) (op q : Operation) → IsHeldAt p op m.entries → IsHeldAt p q m.entries → op ≡ q
same_at m p op q i j = let g = get_at m p op i in let h = get_at m p q j in cc

-- at a place that stands no memory is wanting
pub puts : {A E : Type 0} (r : Result A E) (m : BTreeMap Standing (Option Operation)) (p : Standing) (v : Option Operation) (new old : List HeldEntry)
    → OnOk r (new ≡ old) → OnErr r (get by_stamp_and_arrival m p ≡ None) → get by_stamp_and_arrival m p ≡ Some v → new ≡ old
puts (Ok x) m p v new old e n g = e
puts (Err x) m p v new old e n g = cc

-- taken out, and put back
pub back_at : (entries : List HeldEntry) (p : Standing) (op : Operation) → IsHeldAt p op entries
    → insert_entry by_stamp_and_arrival (insert_entry by_stamp_and_arrival entries p None) p (Some op) ≡ entries
back_at entries p op i =
    ap (λ es. insert_entry by_stamp_and_arrival (insert_entry by_stamp_and_arrival es p None) p (Some op)) i.is
    ∙ ap (λ es. insert_entry by_stamp_and_arrival es p (Some op)) (set_at i.front i.behind p (Some op) None i.before)
    ∙ set_at i.front i.behind p None (Some op) i.before
    ∙ sym i.is

pub out_of : (entries : List HeldEntry) (p : Standing) (op : Operation) → IsHeldAt p op entries
    → remove_entry (is_at (by_stamp_and_arrival p)) (insert_entry by_stamp_and_arrival entries p None) ≡ remove_entry (is_at (by_stamp_and_arrival p)) entries
out_of entries p op i =
    ap (λ es. remove_entry (is_at (by_stamp_and_arrival p)) (insert_entry by_stamp_and_arrival es p None)) i.is
    ∙ ap (remove_entry (is_at (by_stamp_and_arrival p))) (set_at i.front i.behind p (Some op) None i.before)
    ∙ out_at i.front i.behind p None i.before
    ∙ sym (out_at i.front i.behind p (Some op) i.before)
    ∙ ap (remove_entry (is_at (by_stamp_and_arrival p))) (sym i.is)

-- a place that has none still stands
pub stands : (m : BTreeMap Standing (Option Operation)) (entries : List HeldEntry) (p : Standing) (op : Operation) → IsHeldAt p op entries
    → m.entries ≡ insert_entry by_stamp_and_arrival entries p None → get by_stamp_and_arrival m p ≡ Some None
stands m entries p op i e =
    ap (λ es. lookup (is_at (by_stamp_and_arrival p)) es) (e ∙ ap (λ es. insert_entry by_stamp_and_arrival es p None) i.is ∙ set_at i.front i.behind p (Some op) None i.before)
    ∙ found_at i.front i.behind p None i.before

-- OPERATIONS, EACH ONCE

fewer : (xs ys : List Operation) (op y : Operation) → holds (xs ++ op ∷ ys) y ≡ false → (same_operation op y ≡ false) × (holds (xs ++ ys) y ≡ false)
fewer [] ys op y h = (grind (arith, h), grind (arith, h))
fewer (x ∷ xs) ys op y h =
    let i = fewer xs ys op y (grind (arith, h)) in
    let a = i.1 in (i.0, grind (arith, h, a))

-- one of a list is the only one that is the same
taken_out : (xs ys : List Operation) (op : Operation) → NoneTwice (xs ++ op ∷ ys) → without_op op (xs ++ op ∷ ys) ≡ xs ++ ys
taken_out [] ys op o = let e = operation_refl op in rw e (without_none op ys o.0)
taken_out (x ∷ xs) ys op o =
    let a = (fewer xs ys op x o.0).0 in
    let e : same_operation x op ≡ false = operation_sym x op ∙ a in
    rw e (ap (λ l. x ∷ l) (taken_out xs ys op o.1))

-- WHAT A MAP KEEPS TO

pub length_in : (n : ℕ) (entries : List HeldEntry) → AllByRecursion (IsInPlace n) entries → length (ops_in entries) ≡ length entries
length_in n [] a = refl
length_in n (e ∷ entries) a =
    (elim e.1 as (λ v. IsSomeAnd v (λ op. e.0.0 ≡ stamp_of op) → length (put_in_front v (ops_in entries)) ≡ suc (length entries)) [
      | None ↦ λ k. absurd k
      | Some op ↦ λ k. ap suc (length_in n entries a.1)
    ]) a.0.op

before_all : (P : HeldEntry → Type 0) (front behind : List HeldEntry) (e : HeldEntry) → AllByRecursion P (front ++ e ∷ behind) → AllByRecursion P (front ++ behind)
before_all P [] behind e a = a.1
before_all P (x ∷ front) behind e a = (a.0, before_all P front behind e a.1)

length_out : (front behind : List HeldEntry) (e : HeldEntry) → length (front ++ e ∷ behind) ≡ suc (length (front ++ behind))
length_out [] behind e = refl
length_out (x ∷ front) behind e = ap suc (length_out front behind e)

-- an operation is taken out of a map, with its place
pub record IsTakenOut (arrivals : ℕ) (op : Operation) (entries less : List HeldEntry) : Type 0 where
  pub ops : ops_in less ≡ without_op op (ops_in entries)
  pub held : AreHeld arrivals less
  pub length : suc (length less) ≡ length entries

out_between : (arrivals : ℕ) (p : Standing) (op : Operation) (front behind : List HeldEntry) → AreHeld arrivals (front ++ (p, Some op) ∷ behind)
    → IsTakenOut arrivals op (front ++ (p, Some op) ∷ behind) (front ++ behind)
out_between arrivals p op front behind h =
    let all = front ++ (p, Some op) ∷ behind in
    let once : NoneTwice (ops_in front ++ op ∷ ops_in behind) = subst NoneTwice (in_append front behind p op) h.once in
    let ops : ops_in (front ++ behind) ≡ without_op op (ops_in all) =
    in_both front behind ∙ sym (taken_out (ops_in front) (ops_in behind) op once) ∙ ap (without_op op) (sym (in_append front behind p op)) in
    let l = length_out front behind (p, Some op) in
    record {
      ops = ops;
      held = record {
        places = before_all (IsInPlace arrivals) front behind (p, Some op) h.places;
        few = (let f = h.few in omega (arith, f, l));
        once = subst NoneTwice (sym ops) (without_once op (ops_in all) h.once);
        order = subst NoneFalls (sym ops) (without_order op (ops_in all) h.order);
        rules = λ x i. h.rules x (without_has op (ops_in all) x (subst (λ l. HasOp l x) ops i));
        sound = λ x i. h.sound x (without_has op (ops_in all) x (subst (λ l. HasOp l x) ops i));
      };
      length = sym l;
    }

pub taken_from : (arrivals : ℕ) (p : Standing) (op : Operation) (entries less : List HeldEntry) → AreHeld arrivals entries → IsHeldAt p op entries
    → less ≡ remove_entry (is_at (by_stamp_and_arrival p)) entries → IsTakenOut arrivals op entries less
taken_from arrivals p op entries less h i e =
    let r = out_between arrivals p op i.front i.behind (subst (AreHeld arrivals) i.is h) in
    let o : i.front ++ i.behind ≡ less = sym (out_at i.front i.behind p (Some op) i.before) ∙ ap (remove_entry (is_at (by_stamp_and_arrival p))) (sym i.is) ∙ sym e in
    subst (λ x. IsTakenOut arrivals op x less) (sym i.is) (subst (IsTakenOut arrivals op (i.front ++ (p, Some op) ∷ i.behind)) o r)

-- ONE AMONG THOSE OF ITS STAMP

pub range_forward : (op : Operation) (n : ℕ) → is_gt (by_stamp_and_arrival (stamp_of op, 0) (stamp_of op, n)) ≡ false
range_forward op n = rw (nat_same op.count, nat_same op.site) (grind (arith, nat_tests))

in_range : (op : Operation) (n m : ℕ) → m < n
    → range_contains by_stamp_and_arrival (Included (stamp_of op, 0)) (Excluded (stamp_of op, n)) (stamp_of op, m) ≡ true
in_range op n m l = rw (nat_same op.count, nat_same op.site) (let k = l in grind (arith, nat_tests, k))

abbrev between : ℕ → Operation → List HeldEntry → List HeldEntry
between n op entries = entries_between by_stamp_and_arrival (Included (stamp_of op, 0)) (Excluded (stamp_of op, n)) entries

-- all that are the same as an operation have its stamp
pub among_stamp : (n : ℕ) (op : Operation) (entries : List HeldEntry) → AllByRecursion (IsInPlace n) entries
    → holds (ops_in (entries_between by_stamp_and_arrival (Included (stamp_of op, 0)) (Excluded (stamp_of op, n)) entries)) op ≡ holds (ops_in entries) op
among_stamp n op [] a = refl
among_stamp n op (e ∷ entries) a = one (among_stamp n op entries a.1) e.1 e.0 (range_contains by_stamp_and_arrival (Included (stamp_of op, 0)) (Excluded (stamp_of op, n)) e.0) refl a.0.op a.0.came
  where
    one : holds (ops_in (between n op entries)) op ≡ holds (ops_in entries) op → (v : Option Operation) (p : Standing) (b : Bool) → range_contains by_stamp_and_arrival (Included (stamp_of op, 0)) (Excluded (stamp_of op, n)) p ≡ b
        → IsSomeAnd v (λ q. p.0 ≡ stamp_of q) → p.1 < n → holds (ops_in (cond b ((p, v) ∷ between n op entries) (between n op entries))) op ≡ holds (put_in_front v (ops_in entries)) op
    one i None p b e k l = absurd k
    one i (Some q) p true e k l = ap (λ t. same_operation q op || t) i
    one i (Some q) p false e k l =
        split (same_operation q op)
        (λ t. let s : p.0 ≡ stamp_of op = k ∙ ap stamp_of (operation_true q op t) in
        let r : range_contains by_stamp_and_arrival (Included (stamp_of op, 0)) (Excluded (stamp_of op, n)) p ≡ true =
        subst (λ x. range_contains by_stamp_and_arrival (Included (stamp_of op, 0)) (Excluded (stamp_of op, n)) (x, p.1) ≡ true) (sym s) (in_range op n p.1 l) in
        absurd (cc))
        (λ t. rw t i)

pub run_in : (entries es : List HeldEntry) (i n : ℕ) → es ≡ take n (drop i entries) → entries ≡ take i entries ++ (es ++ drop n (drop i entries))
run_in entries es i n e =
    sym (take-append-drop i entries) ∙ ap (λ l. take i entries ++ l) (sym (take-append-drop n (drop i entries)) ∙ ap (λ l. l ++ drop n (drop i entries)) (sym e))

-- the first of those that are left is looked at
pub looked : (entries front old new behind : List HeldEntry) (e : HeldEntry) → entries ≡ front ++ (old ++ behind) → old ≡ e ∷ new → entries ≡ (front ++ e ∷ []) ++ (new ++ behind)
looked entries front old new behind e i o = i ∙ ap (λ l. front ++ (l ++ behind)) o ∙ sym (append_assoc front (e ∷ []) (new ++ behind))

pub place_found : (entries front old new behind : List HeldEntry) (p : Standing) (v : Option Operation) (q op : Operation) → entries ≡ front ++ (old ++ behind) → old ≡ (p, v) ∷ new
    → v ≡ Some q → same_operation q op ≡ true → IsStrictlySortedBy by_stamp_and_arrival (keys_of entries) → IsHeldAt p op entries
place_found entries front old new behind p v q op i o w t s =
    let is : entries ≡ front ++ (p, Some op) ∷ (new ++ behind) =
    i ∙ ap (λ l. front ++ (l ++ behind)) o ∙ ap (λ x. front ++ (p, x) ∷ (new ++ behind)) (w ∙ ap (λ x. Some x) (operation_true q op t)) in
    record {
      front = front;
      behind = new ++ behind;
      is = is;
      before = all_before front (new ++ behind) (p, Some op) (subst (λ x. IsStrictlySortedBy by_stamp_and_arrival (keys_of x)) is s);
    }

pub not_this : (e : HeldEntry) (q op : Operation) (new : List HeldEntry) → e.1 ≡ Some q → same_operation q op ≡ false → holds (ops_in (e ∷ new)) op ≡ holds (ops_in new) op
not_this e q op new w t = rw w (rw t refl)

pub none_at_place : (e : HeldEntry) (op : Operation) (new : List HeldEntry) → e.1 ≡ None → holds (ops_in (e ∷ new)) op ≡ holds (ops_in new) op
none_at_place e op new w = rw w refl

-- ONE MORE

placed_at : (op q : Operation) (n : ℕ) (p : Standing) → p.0 ≡ stamp_of q → p.1 < n → by_stamp_and_arrival (stamp_of op, n) p ≡ cond (is_before (stamp_of op) (stamp_of q)) Less Greater
placed_at op q n p k l = subst (λ x. by_stamp_and_arrival (stamp_of op, n) (x, p.1) ≡ cond (is_before (stamp_of op) (stamp_of q)) Less Greater) (sym k) (placed op q n p.1 l)

pub put_in : (n : ℕ) (op : Operation) (entries : List HeldEntry) → AllByRecursion (IsInPlace n) entries
    → ops_in (insert_entry by_stamp_and_arrival entries (stamp_of op, n) (Some op)) ≡ put_held op (ops_in entries)
put_in n op [] a = refl
put_in n op (e ∷ entries) a = one (put_in n op entries a.1) e.1 e.0 a.0.op a.0.came
  where
    one : ops_in (insert_entry by_stamp_and_arrival entries (stamp_of op, n) (Some op)) ≡ put_held op (ops_in entries) → (v : Option Operation) (p : Standing) → IsSomeAnd v (λ q. p.0 ≡ stamp_of q) → p.1 < n
        → ops_in (insert_entry by_stamp_and_arrival ((p, v) ∷ entries) (stamp_of op, n) (Some op)) ≡ put_held op (put_in_front v (ops_in entries))
    one i None p k l = absurd k
    one i (Some q) p k l =
        let c = placed_at op q n p k l in
        split (is_before (stamp_of op) (stamp_of q))
        (λ t. let d : by_stamp_and_arrival (stamp_of op, n) p ≡ Less = c ∙ ap (λ b. cond b Less Greater) t in rw (d, t) refl)
        (λ t. let d : by_stamp_and_arrival (stamp_of op, n) p ≡ Greater = c ∙ ap (λ b. cond b Less Greater) t in rw (d, t) (ap (λ r. q ∷ r) i))

later_place : (n m : ℕ) (e : HeldEntry) → n ≤ m → IsInPlace n e → IsInPlace m e
later_place n m e l i = record { op = i.op; came = (let c = i.came in omega (arith, c, l)) }

all_later : (n : ℕ) (entries : List HeldEntry) → AllByRecursion (IsInPlace n) entries → AllByRecursion (IsInPlace (n + 1)) entries
all_later n [] a = tt
all_later n (e ∷ entries) a = (later_place n (n + 1) e (omega arith) a.0, all_later n entries a.1)

put_places : (n : ℕ) (op : Operation) (entries : List HeldEntry) → AllByRecursion (IsInPlace n) entries
    → AllByRecursion (IsInPlace (n + 1)) (insert_entry by_stamp_and_arrival entries (stamp_of op, n) (Some op))
put_places n op [] a = (record { op = refl; came = omega arith }, tt)
put_places n op (e ∷ entries) a = one (put_places n op entries a.1) e.1 e.0 a.0.op a.0.came
  where
    one : AllByRecursion (IsInPlace (n + 1)) (insert_entry by_stamp_and_arrival entries (stamp_of op, n) (Some op)) → (v : Option Operation) (p : Standing) → IsSomeAnd v (λ q. p.0 ≡ stamp_of q) → p.1 < n
        → AllByRecursion (IsInPlace (n + 1)) (insert_entry by_stamp_and_arrival ((p, v) ∷ entries) (stamp_of op, n) (Some op))
    one i None p k l = absurd k
    one i (Some q) p k l =
        let first : IsInPlace (n + 1) (p, Some q) = record { op = k; came = omega (arith, l) } in
        let new : IsInPlace (n + 1) ((stamp_of op, n), Some op) = record { op = refl; came = omega arith } in
        let c = placed_at op q n p k l in
        split (is_before (stamp_of op) (stamp_of q))
        (λ t. let d : by_stamp_and_arrival (stamp_of op, n) p ≡ Less = c ∙ ap (λ b. cond b Less Greater) t in rw d (new, (first, all_later n entries a.1)))
        (λ t. let d : by_stamp_and_arrival (stamp_of op, n) p ≡ Greater = c ∙ ap (λ b. cond b Less Greater) t in rw d (first, i))

length_put_in : (n : ℕ) (op : Operation) (entries : List HeldEntry) → AllByRecursion (IsInPlace n) entries
    → length (insert_entry by_stamp_and_arrival entries (stamp_of op, n) (Some op)) ≡ suc (length entries)
length_put_in n op entries a =
    sym (length_in (n + 1) (insert_entry by_stamp_and_arrival entries (stamp_of op, n) (Some op)) (put_places n op entries a))
    ∙ ap length (put_in n op entries a) ∙ length_put op (ops_in entries) ∙ ap suc (length_in n entries a)

pub put_held_in : (n : ℕ) (op : Operation) (entries new : List HeldEntry) → AreHeld n entries → holds (ops_in entries) op ≡ false → length entries < MOST_HELD → keeps_rules op.body ≡ true → has_bad_stamp op ≡ false
    → new ≡ insert_entry by_stamp_and_arrival entries (stamp_of op, n) (Some op) → AreHeld (n + 1) new
put_held_in n op entries new h f l r b e =
    let ops = put_in n op entries h.places in
    subst (AreHeld (n + 1)) (sym e) (record {
      places = put_places n op entries h.places;
      few = (let m = length_put_in n op entries h.places in omega (arith, l, m));
      once = subst NoneTwice (sym ops) (put_once op (ops_in entries) f h.once);
      order = subst NoneFalls (sym ops) (put_order op (ops_in entries) h.order);
      rules = λ x i. elim (has_put op (ops_in entries) x (subst (λ z. HasOp z x) ops i)) [ inl j ↦ subst (λ (y : Operation). keeps_rules y.body ≡ true) j r | inr j ↦ h.rules x j ];
      sound = λ x i. elim (has_put op (ops_in entries) x (subst (λ z. HasOp z x) ops i)) [ inl j ↦ subst (λ (y : Operation). has_bad_stamp y ≡ false) j b | inr j ↦ h.sound x j ];
    })

-- one that may be held is held no more
pub record IsForgotten (arrivals : ℕ) (op : Operation) (entries less : List HeldEntry) : Type 0 where
  pub ops : ops_in less ≡ without_op op (ops_in entries)
  pub held : AreHeld arrivals less

pub forgotten : (arrivals : ℕ) (op : Operation) (place : Option Standing) (entries less : List HeldEntry) → AreHeld arrivals entries
    → IfSome place (λ p. IsHeldAt p op entries) → IfNone place (holds (ops_in entries) op ≡ false)
    → IfSome place (λ p. less ≡ remove_entry (is_at (by_stamp_and_arrival p)) entries) → IfNone place (less ≡ entries) → IsForgotten arrivals op entries less
forgotten arrivals op None entries less h i n e f = record {
  ops = ap ops_in f ∙ sym (without_none op (ops_in entries) n);
  held = subst (AreHeld arrivals) (sym f) h;
}
forgotten arrivals op (Some p) entries less h i n e f = let r = taken_from arrivals p op entries less h i e in record { ops = r.ops; held = r.held }

-- a place is found exactly where one is held
pub found_if : (entries : List HeldEntry) (op : Operation) (place : Option Standing) → IfSome place (λ p. IsHeldAt p op entries) → IfNone place (holds (ops_in entries) op ≡ false)
    → is_some place ≡ holds (ops_in entries) op
found_if entries op None i n = sym n
found_if entries op (Some p) i n = sym (ap (λ es. holds (ops_in es) op) i.is ∙ ap (λ l. holds l op) (in_append i.front i.behind p op) ∙ there (ops_in i.front))
  where
    there : (xs : List Operation) → holds (xs ++ op ∷ ops_in i.behind) op ≡ true
    there [] = let e = operation_refl op in rw e refl
    there (x ∷ xs) = let e = there xs in elim (same_operation x op) as (λ b. (b || holds (xs ++ op ∷ ops_in i.behind) op) ≡ true) [ true ↦ refl | false ↦ e ]
