-- Operations that come in time are taken within a limit that the whole history keeps.
use Rattle.std.proofs.Common.{◌≡◌, ◌↔◌, ℕ, ◌≤◌, true, ◌⊎◌, inl, inr, refl, sym, ap, subst, ◌∙◌, arith, List, [], ◌∷◌, ◌+◌, length, map, nat_lt}
use Rattle.std.specs.List.{AllByRecursion}
use Rattle.rt_ops.specs.Operations.{Operation}
use Rattle.rt_oplog.specs.Logs.{HasOp, with_operation}
use Rattle.rt_ops.specs.Rules.{keeps_rules}
use Rattle.rt_oplog.proofs.Sets.{has_with, with_has}
use Rattle.rt_rga.specs.Answers.{Answer, New, Repeat, Refused, all_taken, answer_to, answer_within, set_after, taken}
use Rattle.rt_rga.specs.Cells.{cells_of}
use Rattle.rt_rga.specs.Histories.{IsHistory, inserted}
use Rattle.rt_rga.specs.Orders.{ComeInTime}
use Rattle.rt_rga.specs.Requests.{Offer, after_requests}
use Rattle.rt_rga.proofs.Accepting.{history_if_new, taken_history}
use Rattle.rt_rga.proofs.Counts.{length_with}
use Rattle.rt_rga.proofs.Orders.{rules_in, whole}
use Rattle.rt_rga.proofs.Room.{other_within, taken_within}

-- the members after an offer
after_answer : (a : Answer) (op x : Operation) (set : List Operation) → HasOp (set_after a op set) x ↔ (HasOp set x ⊎ ((op ≡ x) × (a ≡ New)))
after_answer New op x set = (λ h. elim (has_with op set x h) [ inl e ↦ inr (e, refl) | inr i ↦ inl i ], λ h. with_has op set x (elim h [ inl i ↦ inr i | inr e ↦ inl e.0 ]))
after_answer Repeat op x set = (λ h. inl h, λ h. elim h [ inl i ↦ i | inr e ↦ absurd (cc e.1) ])
after_answer (Refused fault) op x set = (λ h. inl h, λ h. elim h [ inl i ↦ i | inr e ↦ absurd (cc e.1) ])

pub members : (set : List Operation) (op x : Operation) → HasOp (taken op set) x ↔ (HasOp set x ⊎ ((op ≡ x) × (answer_to op set ≡ New)))
members set op x = after_answer (answer_to op set) op x set

longer_by : (a : Answer) (op : Operation) (set : List Operation) → (a ≡ New → length (cells_of set) ≤ length (cells_of (with_operation op set))) → length (cells_of set) ≤ length (cells_of (set_after a op set))
longer_by New op set f = f refl
longer_by Repeat op set f = omega arith
longer_by (Refused fault) op set f = omega arith

one_history : (op : Operation) (set : List Operation) → IsHistory set → keeps_rules op.body ≡ true → IsHistory (taken op set)
one_history op set h r = taken_history (answer_to op set) op set h (history_if_new set op h r)

one_longer : (op : Operation) (set : List Operation) → IsHistory set → keeps_rules op.body ≡ true → length (cells_of set) ≤ length (cells_of (taken op set))
one_longer op set h r = longer_by (answer_to op set) op set (λ n. let l = length_with set op h (history_if_new set op h r n) in omega (arith, l))

longer : (ops set : List Operation) → IsHistory set → AllByRecursion (λ op. keeps_rules op.body ≡ true) ops → length (cells_of set) ≤ length (cells_of (all_taken ops set))
longer [] set h r = omega arith
longer (op ∷ ops) set h r = let a = one_longer op set h r.0 in let b = longer ops (taken op set) (one_history op set h r.0) r.1 in omega (arith, a, b)

-- an answer without a limit is the one within it, where the larger history keeps it
answer_alike : (limit : ℕ) (op : Operation) (set : List Operation) (a : Answer) → answer_to op set ≡ a → IsHistory set → keeps_rules op.body ≡ true → (a ≡ New → length (cells_of (with_operation op set)) ≤ limit)
    → answer_within limit op set ≡ answer_to op set
answer_alike limit op set New e h r l = (taken_within set op limit h r).1 (history_if_new set op h r e, l refl) ∙ sym e
answer_alike limit op set Repeat e h r l = other_within (nat_lt limit (length (cells_of set) + length (inserted op))) (answer_to op set) (λ n. let k : Repeat ≡ New = sym e ∙ n in cc k)
answer_alike limit op set (Refused fault) e h r l = other_within (nat_lt limit (length (cells_of set) + length (inserted op))) (answer_to op set) (λ n. let k : Refused fault ≡ New = sym e ∙ n in cc k)

alike : (site limit : ℕ) (ops set : List Operation) → IsHistory set → AllByRecursion (λ op. keeps_rules op.body ≡ true) ops → length (cells_of (all_taken ops set)) ≤ limit
    → after_requests site limit (map Offer ops) set ≡ all_taken ops set
alike site limit [] set h r l = refl
alike site limit (op ∷ ops) set h r l =
    let b = longer ops (taken op set) (one_history op set h r.0) r.1 in
    let m : length (cells_of (taken op set)) ≤ limit = omega (arith, b, l) in
    let e = answer_alike limit op set (answer_to op set) refl h r.0 (λ n. subst (λ a. length (cells_of (set_after a op set)) ≤ limit) n m) in
    ap (λ a. after_requests site limit (map Offer ops) (set_after a op set)) e ∙ alike site limit ops (taken op set) (one_history op set h r.0) r.1 l

all_members : (P : Operation → Type 0) (ops : List Operation) → ((x : Operation) → HasOp ops x → P x) → AllByRecursion P ops
all_members P [] f = tt
all_members P (op ∷ ops) f = (f op (inl refl), all_members P ops (λ x i. f x (inr i)))

pub whole_within : (site limit : ℕ) (set first ops : List Operation) → IsHistory set → IsHistory first → ((op : Operation) → HasOp set op ↔ (HasOp first op ⊎ HasOp ops op)) → ComeInTime set first ops
    → length (cells_of set) ≤ limit → after_requests site limit (map Offer ops) first ≡ set
whole_within site limit set first ops h o same t l =
    let w = whole set first ops h o same t in
    let r = all_members (λ op. keeps_rules op.body ≡ true) ops (λ x i. rules_in set h x ((same x).1 (inr i))) in
    alike site limit ops first o r (subst (λ s. length (cells_of s) ≤ limit) (sym w) l) ∙ w
