-- Two histories without a clash are one.
use Rattle.std.proofs.Common.{◌≡◌, Bool, true, false, inl, inr, refl, sym, subst, ◌∙◌, arith, List, [], ◌∷◌, cond, Ok, Err}
use Rattle.std.proofs.lemmas.Bool.{cases_lt}
use Rattle.rt_stamps.specs.declared.fault.Fault.TheVariants.{Conflict}
use Rattle.rt_ops.specs.Operations.{Operation}
use Rattle.rt_oplog.specs.Logs.{HasOp, clash, has_clash, holds, joined, known_end, union, with_operation}
use Rattle.rt_oplog.proofs.Sets.{added_has, clash_from, clash_sym, free_from, has_union, union_has}
use Rattle.rt_rga.specs.Histories.{Continues, IsHistory}
use Rattle.rt_rga.proofs.Skipping.{split}
use Rattle.rt_rga.proofs.Continuing.{knows}
use Rattle.rt_rga.proofs.Histories.{history_with, known_weaker}
use Rattle.rt_rga.proofs.Accepting.{free}
use Rattle.rt_rga.proofs.Orders.{character_of, continues_free, end_from_base, end_reached, insert_of}

-- what continues a history continues a larger one that it clashes with nowhere
pub continues_more : (older more : List Operation) (op : Operation) → Continues older op → IsHistory more → ((x : Operation) → HasOp older x → HasOp more x)
    → ((r : Operation) → HasOp more r → clash op r ≡ false) → holds more op ≡ false → Continues more op
continues_more older more op k m sub f n = continues_free more op m k.sound k.rules
    (λ s i. known_weaker older more op.body s (λ c. let (x, j, t) = insert_of older s c in character_of more x s (sub x j) t) (knows k s i))
    (elim (cases_lt 0 (known_end older op.site)) [
      | inl l ↦ (let (x, i, s, t) = end_reached older op.site l in end_from_base more x op (sub x i) s (t ∙ sym k.prev))
      | inr l ↦ (let p = k.prev in omega (arith, l, p))
    ]) f n

pub union_history : (one other : List Operation) → IsHistory one → IsHistory other → ((p q : Operation) → HasOp (union one other) p → HasOp (union one other) q → clash p q ≡ false) → IsHistory (union one other)
union_history [] other h k f = k
union_history (op ∷ older) other h k f =
    let set = union older other in
    let u : IsHistory set = union_history older other h.2 k (λ p q i j. f p q (added_has op set p (inr i)) (added_has op set q (inr j))) in
    (elim (holds set op) as (λ b. holds set op ≡ b → IsHistory (cond b set (with_operation op set))) [
      | true ↦ λ e. u
      | false ↦ λ e. history_with op set u (continues_more older set op h.1 u (λ x i. union_has older other x (inl i))
          (λ r i. f op r (added_has op set op (inl refl)) (added_has op set r (inr i))) e)
    ]) refl

joined_free : (b : Bool) (all set : List Operation) → cond b (Err Conflict) (Ok all) ≡ Ok set → (b ≡ false) × (all ≡ set)
joined_free true all set e = absurd (cc e)
joined_free false all set e = (refl, cc e)

-- what two histories are joined to is a history
pub joined_history : (one other set : List Operation) → IsHistory one → IsHistory other → joined one other ≡ Ok set → IsHistory set
joined_history one other set h k e =
    let (n, i) = joined_free (has_clash (union one other)) (union one other) set e in
    subst IsHistory i (union_history one other h k (free_from (union one other) n))

pub all_free : (one other : List Operation) → IsHistory one → IsHistory other → ((p q : Operation) → HasOp one p → HasOp other q → clash p q ≡ false)
    → (p q : Operation) → HasOp (union one other) p → HasOp (union one other) q → clash p q ≡ false
all_free one other h k f p q i j = elim (has_union one other p i) [
  | inl a ↦ elim (has_union one other q j) [ inl b ↦ free one h p q a b | inr b ↦ f p q a b ]
  | inr a ↦ elim (has_union one other q j) [ inl b ↦ clash_sym p q ∙ f q p b a | inr b ↦ free other k p q a b ]
]

-- two histories, no operation of one of which clashes with one of the other, are joined to their union
pub joined_free_histories : (one other : List Operation) → IsHistory one → IsHistory other → ((p q : Operation) → HasOp one p → HasOp other q → clash p q ≡ false)
    → joined one other ≡ Ok (union one other)
joined_free_histories one other h k f = split (has_clash (union one other))
    (λ e. let (p, q, i, j, c) = clash_from (union one other) e in let n = all_free one other h k f p q i j in absurd (cc (c, n)))
    (λ e. rw e refl)
