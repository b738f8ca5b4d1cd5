-- Held operations in order of arrival, and by rising stamp.
use Rattle.std.proofs.Common.{◌≡◌, ℕ, suc, Bool, true, false, not, refl, sym, ap, subst, ◌∙◌, arith, List, [], ◌∷◌, ◌++◌, Option, Some, None, cond, ◌||◌, length}
use Rattle.std.proofs.lemmas.Bool.Decides.{nat_tests}
use Rattle.std.specs.List.{AllByRecursion}
use Rattle.rt_stamps.specs.Stamps.{is_before}
use Rattle.rt_ops.specs.Operations.{Operation, stamp_of}
use Rattle.rt_oplog.specs.Logs.{holds, same_operation}
use Rattle.rt_rga.proofs.Skipping.{split}
use Rattle.rt_holding.specs.Arrivals.{ComesToTheSame, by_stamp, earlier, next_arrived, put_first}
use Rattle.rt_holding.specs.Holding.{is_left, next_of, put_held, without_op}
use Rattle.rt_holding.specs.Runs.{NoneFalls}

-- BY RISING STAMP

first_all : (P : Operation → Type 0) (op : Operation) (held : List Operation) → P op → AllByRecursion P held → AllByRecursion P (put_first op held)
first_all P op [] p a = (p, tt)
first_all P op (q ∷ held) p a = elim (is_before (stamp_of q) (stamp_of op)) as (λ t. AllByRecursion P (cond t (q ∷ put_first op held) (op ∷ (q ∷ held)))) [
  | true ↦ (a.0, first_all P op held p a.1)
  | false ↦ (p, a)
]

later_too : (p q : Operation) (held : List Operation) → is_before (stamp_of q) (stamp_of p) ≡ false → AllByRecursion (λ later. is_before (stamp_of later) (stamp_of q) ≡ false) held
    → AllByRecursion (λ later. is_before (stamp_of later) (stamp_of p) ≡ false) held
later_too p q [] e a = tt
later_too p q (r ∷ held) e a = let i = a.0 in (grind (arith, nat_tests), later_too p q held e a.1)

first_order : (op : Operation) (held : List Operation) → NoneFalls held → NoneFalls (put_first op held)
first_order op [] o = (tt, tt)
first_order op (q ∷ held) o =
    (elim (is_before (stamp_of q) (stamp_of op)) as (λ t. is_before (stamp_of q) (stamp_of op) ≡ t → NoneFalls (cond t (q ∷ put_first op held) (op ∷ (q ∷ held)))) [
      | true ↦ λ e. (first_all (λ later. is_before (stamp_of later) (stamp_of q) ≡ false) op held (grind (arith, nat_tests, e)) o.0, first_order op held o.1)
      | false ↦ λ e. ((e, later_too op q held e o.0), o)
    ]) refl

pub stamp_order : (arrived : List Operation) → NoneFalls (by_stamp arrived)
stamp_order [] = tt
stamp_order (op ∷ arrived) = first_order op (by_stamp arrived) (stamp_order arrived)

-- WHICH IS NEXT

some_path : (a b : Operation) → Some a ≡ Some b → a ≡ b
some_path a b k = cc k

next_none_before : (limit : ℕ) (wanting log : List Operation) (p : Operation) (held : List Operation) → AllByRecursion (λ later. is_before (stamp_of later) (stamp_of p) ≡ false) held
    → (x : Operation) → next_of limit wanting log held ≡ Some x → is_before (stamp_of x) (stamp_of p) ≡ false
next_none_before limit wanting log p [] a x e = absurd (cc e)
next_none_before limit wanting log p (q ∷ held) a x e = split (is_left limit wanting log q)
    (λ t. next_none_before limit wanting log p held a.1 x (rw t at e))
    (λ t. subst (λ (y : Operation). is_before (stamp_of y) (stamp_of p) ≡ false) (some_path q x (rw t at e)) a.0)

earlier_first : (op : Operation) (r : Option Operation) → ((x : Operation) → r ≡ Some x → is_before (stamp_of x) (stamp_of op) ≡ false) → earlier op r ≡ Some op
earlier_first op None f = refl
earlier_first op (Some q) f = let e = f q refl in rw e refl

next_first : (limit : ℕ) (wanting log : List Operation) (op : Operation) (held : List Operation) → NoneFalls held
    → next_of limit wanting log (put_first op held) ≡ cond (is_left limit wanting log op) (next_of limit wanting log held) (earlier op (next_of limit wanting log held))
next_first limit wanting log op [] o = refl
next_first limit wanting log op (q ∷ held) o =
    (elim (is_before (stamp_of q) (stamp_of op)) as (λ t. is_before (stamp_of q) (stamp_of op) ≡ t → next_of limit wanting log (cond t (q ∷ put_first op held) (op ∷ (q ∷ held)))
    ≡ cond (is_left limit wanting log op) (next_of limit wanting log (q ∷ held)) (earlier op (next_of limit wanting log (q ∷ held)))) [
      | true ↦ λ e. split (is_left limit wanting log q)
          (λ t. rw t (next_first limit wanting log op held o.1))
          (λ t. rw t (split (is_left limit wanting log op) (λ u. rw u refl) (λ u. rw (u, e) refl)))
      | false ↦ λ e. split (is_left limit wanting log op)
          (λ u. rw u refl)
          (λ u. rw u (sym (earlier_first op (next_of limit wanting log (q ∷ held)) (next_none_before limit wanting log op (q ∷ held) (e, later_too op q held e o.0)))))
    ]) refl

next_same : (limit : ℕ) (wanting log arrived : List Operation) → next_of limit wanting log (by_stamp arrived) ≡ next_arrived limit wanting log arrived
next_same limit wanting log [] = refl
next_same limit wanting log (op ∷ arrived) =
    next_first limit wanting log op (by_stamp arrived) (stamp_order arrived)
    ∙ ap (λ r. cond (is_left limit wanting log op) r (earlier op r)) (next_same limit wanting log arrived)

-- ONE OUT, ONE IN

first_here : (op : Operation) (held : List Operation) → AllByRecursion (λ later. is_before (stamp_of later) (stamp_of op) ≡ false) held → put_first op held ≡ op ∷ held
first_here op [] a = refl
first_here op (q ∷ held) a = let e = a.0 in rw e refl

without_lower : (P : Operation → Type 0) (op : Operation) (held : List Operation) → AllByRecursion P held → AllByRecursion P (without_op op held)
without_lower P op [] a = tt
without_lower P op (q ∷ held) a = elim (not (same_operation q op)) as (λ t. AllByRecursion P (cond t (q ∷ without_op op held) (without_op op held))) [
  | true ↦ (a.0, without_lower P op held a.1)
  | false ↦ without_lower P op held a.1
]

without_first : (op x : Operation) (held : List Operation) → NoneFalls held → without_op op (put_first x held) ≡ cond (not (same_operation x op)) (put_first x (without_op op held)) (without_op op held)
without_first op x [] o = elim (not (same_operation x op)) as (λ t. cond t (x ∷ []) [] ≡ cond t (x ∷ []) []) [ true ↦ refl | false ↦ refl ]
without_first op x (q ∷ held) o =
    (elim (is_before (stamp_of q) (stamp_of x)) as (λ t. is_before (stamp_of q) (stamp_of x) ≡ t → without_op op (cond t (q ∷ put_first x held) (x ∷ (q ∷ held)))
    ≡ cond (not (same_operation x op)) (put_first x (without_op op (q ∷ held))) (without_op op (q ∷ held))) [
      | true ↦ λ e. (let i = without_first op x held o.1 in
          split (not (same_operation q op))
          (λ t. rw t (split (not (same_operation x op))
          (λ u. let j : without_op op (put_first x held) ≡ put_first x (without_op op held) = i ∙ rw u refl in rw (u, e) (ap (λ l. q ∷ l) j))
          (λ u. let j : without_op op (put_first x held) ≡ without_op op held = i ∙ rw u refl in rw u (ap (λ l. q ∷ l) j))))
          (λ t. rw t i))
      | false ↦ λ e. split (not (same_operation x op))
          (λ u. rw u (sym (first_here x (without_op op (q ∷ held)) (without_lower (λ later. is_before (stamp_of later) (stamp_of x) ≡ false) op (q ∷ held) (e, later_too x q held e o.0)))))
          (λ u. rw u refl)
    ]) refl

without_same : (op : Operation) (arrived : List Operation) → by_stamp (without_op op arrived) ≡ without_op op (by_stamp arrived)
without_same op [] = refl
without_same op (x ∷ arrived) =
    let i = without_same op arrived in
    let j = without_first op x (by_stamp arrived) (stamp_order arrived) in
    chosen (not (same_operation x op)) x (without_op op arrived) ∙ ap (λ l. cond (not (same_operation x op)) (put_first x l) l) i ∙ sym j
  where
    chosen : (b : Bool) (x : Operation) (rest : List Operation) → by_stamp (cond b (x ∷ rest) rest) ≡ cond b (put_first x (by_stamp rest)) (by_stamp rest)
    chosen true x rest = refl
    chosen false x rest = refl

-- the first and the last of a list by rising stamp
first_last : (op x : Operation) (held : List Operation) → put_first x (put_held op held) ≡ put_held op (put_first x held)
first_last op x [] =
    (elim (is_before (stamp_of op) (stamp_of x)) as (λ t. is_before (stamp_of op) (stamp_of x) ≡ t → cond t (op ∷ (x ∷ [])) (x ∷ (op ∷ [])) ≡ cond t (op ∷ (x ∷ [])) (x ∷ (op ∷ []))) [ true ↦ λ e. refl | false ↦ λ e. refl ]) refl
first_last op x (q ∷ held) = split (is_before (stamp_of op) (stamp_of q))
    (λ e. split (is_before (stamp_of q) (stamp_of x))
    (λ f. let g : is_before (stamp_of op) (stamp_of x) ≡ true = grind (arith, nat_tests) in rw (e, f, g) (rw e refl))
    (λ f. split (is_before (stamp_of op) (stamp_of x)) (λ g. rw (e, f, g) refl) (λ g. rw (e, f, g) (rw e refl))))
    (λ e. split (is_before (stamp_of q) (stamp_of x))
    (λ f. rw (e, f) (rw e (ap (λ l. q ∷ l) (first_last op x held))))
    (λ f. let g : is_before (stamp_of op) (stamp_of x) ≡ false = grind (arith, nat_tests) in rw (e, f, g) (rw e refl)))

last_same : (op : Operation) (arrived : List Operation) → by_stamp (arrived ++ op ∷ []) ≡ put_held op (by_stamp arrived)
last_same op [] = refl
last_same op (x ∷ arrived) = ap (put_first x) (last_same op arrived) ∙ first_last op x (by_stamp arrived)

swap : (a b c : Bool) → (a || (b || c)) ≡ (b || (a || c))
swap true true c = refl
swap true false c = refl
swap false b c = refl

first_holds : (op x : Operation) (held : List Operation) → holds (put_first x held) op ≡ (same_operation x op || holds held op)
first_holds op x [] = refl
first_holds op x (q ∷ held) = elim (is_before (stamp_of q) (stamp_of x)) as (λ t. holds (cond t (q ∷ put_first x held) (x ∷ (q ∷ held))) op ≡ (same_operation x op || holds (q ∷ held) op)) [
  | true ↦ ap (λ b. same_operation q op || b) (first_holds op x held) ∙ swap (same_operation q op) (same_operation x op) (holds held op)
  | false ↦ refl
]

holds_same : (op : Operation) (arrived : List Operation) → holds (by_stamp arrived) op ≡ holds arrived op
holds_same op [] = refl
holds_same op (x ∷ arrived) = first_holds op x (by_stamp arrived) ∙ ap (λ b. same_operation x op || b) (holds_same op arrived)

first_length : (x : Operation) (held : List Operation) → length (put_first x held) ≡ suc (length held)
first_length x [] = refl
first_length x (q ∷ held) = elim (is_before (stamp_of q) (stamp_of x)) as (λ t. length (cond t (q ∷ put_first x held) (x ∷ (q ∷ held))) ≡ suc (suc (length held))) [
  | true ↦ ap suc (first_length x held)
  | false ↦ refl
]

length_same : (arrived : List Operation) → length (by_stamp arrived) ≡ length arrived
length_same [] = refl
length_same (x ∷ arrived) = first_length x (by_stamp arrived) ∙ ap suc (length_same arrived)

pub comes_to_the_same : (arrived : List Operation) → ComesToTheSame arrived
comes_to_the_same arrived = record {
  next = λ limit wanting log. next_same limit wanting log arrived;
  without = λ op. without_same op arrived;
  last = λ op. last_same op arrived;
  holds = λ op. holds_same op arrived;
  length = length_same arrived;
}
