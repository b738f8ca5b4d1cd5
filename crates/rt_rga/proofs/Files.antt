-- What a history makes of the operations of another, by rising stamp.
use Rattle.std.proofs.Common.{◌≡◌, true, false, ◌⊎◌, inl, inr, refl, subst, List, [], ◌∷◌, ◌++◌, reverse}
use mathlib.Core.List.{reverse-cons}
use Rattle.rt_ops.specs.Operations.{Operation}
use Rattle.rt_oplog.specs.Logs.{HasOp, clash, union}
use Rattle.rt_oplog.proofs.Sets.{has_union, union_has}
use Rattle.rt_rga.specs.Answers.{all_taken}
use Rattle.rt_rga.specs.Histories.{Continues, IsHistory}
use Rattle.rt_rga.specs.Orders.{AreIn, ComeInTime, is_made_upon}
use Rattle.rt_rga.proofs.Bases.{bases_there}
use Rattle.rt_rga.proofs.Joining.{all_free, union_history}
use Rattle.rt_rga.proofs.Orders.{whole}
use Rattle.rt_rga.proofs.Rising.{in_reverse, rising}

-- the part of a history that one of it continues
record IsPart (set older : List Operation) (op : Operation) : Type 0 where
  history : IsHistory older
  within : AreIn older set
  continues : Continues older op

part_of : (set : List Operation) → IsHistory set → (op : Operation) → HasOp set op → (older : List Operation) × IsPart set older op
part_of [] h op i = absurd i
part_of (q ∷ older) h op i = elim i [
  | inl e ↦ (older, record { history = h.2; within = λ x j. inr j; continues = subst (Continues older) e h.1 })
  | inr j ↦ (let (part, p) = part_of older h.2 op j in (part, record { history = p.history; within = λ x k. inr (p.within x k); continues = p.continues }))
]

-- a history has what its operations were made upon
base_in : (all set : List Operation) (op base : Operation) → IsHistory all → IsHistory set → AreIn set all → HasOp set op → HasOp all base → is_made_upon base op ≡ true → HasOp set base
base_in all set op base h k sub i j u =
    let (older, p) = part_of set k op i in
    p.within base (bases_there all older op h p.history (λ x n. sub x (p.within x n)) p.continues base j u)

in_larger : (all set : List Operation) → IsHistory all → IsHistory set → AreIn set all → (ops first seen : List Operation) → AreIn ops set → AreIn first seen → ComeInTime set first ops → ComeInTime all seen ops
in_larger all set h k sub [] first seen o f t = tt
in_larger all set h k sub (op ∷ ops) first seen o f t = (
  λ base i u. f base (t.0 base (base_in all set op base h k sub (o op (inl refl)) i u) u),
  in_larger all set h k sub ops (op ∷ first) (op ∷ seen) (λ x i. o x (inr i)) (λ x i. elim i [ inl e ↦ inl e | inr j ↦ inr (f x j) ]) t.1,
)

append_in : (xs ys : List Operation) (x : Operation) → HasOp (xs ++ ys) x → HasOp xs x ⊎ HasOp ys x
append_in [] ys x h = inr h
append_in (z ∷ xs) ys x h = elim h [ inl e ↦ inl (inl e) | inr i ↦ elim (append_in xs ys x i) [ inl j ↦ inl (inr j) | inr j ↦ inr j ] ]

reverse_in : (xs : List Operation) (x : Operation) → HasOp (reverse xs) x → HasOp xs x
reverse_in [] x h = h
reverse_in (z ∷ xs) x h = elim (append_in (reverse xs) (z ∷ []) x (subst (λ l. HasOp l x) (reverse-cons z xs) h)) [
  | inl i ↦ inr (reverse_in xs x i)
  | inr i ↦ elim i [ inl e ↦ inl e | inr j ↦ absurd j ]
]

pub all_taken_by_stamp : (one other : List Operation) → IsHistory one → IsHistory other → ((p q : Operation) → HasOp one p → HasOp other q → clash p q ≡ false) → all_taken (reverse other) one ≡ union one other
all_taken_by_stamp one other h k f =
    let u = union_history one other h k (all_free one other h k f) in
    whole (union one other) one (reverse other) u h
    (λ x. (λ i. elim (has_union one other x i) [ inl j ↦ inl j | inr j ↦ inr (in_reverse other x j) ], λ i. union_has one other x (elim i [ inl j ↦ inl j | inr j ↦ inr (reverse_in other x j) ])))
    (in_larger (union one other) other u k (λ x i. union_has one other x (inr i)) (reverse other) [] one (λ x i. reverse_in other x i) (λ x i. absurd i) (rising other k))
