-- An operation of a history is new to a smaller one just where this has those that it was made upon.
use Rattle.std.proofs.Common.{◌≡◌, ◌↔◌, ℕ, ◌<◌, ◌≤◌, Bool, true, false, inl, inr, sym, subst, ◌∙◌, arith, List, ◌&&◌, ◌==◌, nat_le}
use Rattle.std.proofs.lemmas.Bool.Decides.{nat_tests}
use Rattle.std.specs.List.{list_any}
use Rattle.rt_ops.specs.Operations.{Operation, last_count, named}
use Rattle.rt_oplog.specs.Logs.{HasOp, clash, holds, reaches_into, same_operation}
use Rattle.rt_oplog.proofs.Sets.{has_held, operation_true}
use Rattle.rt_rga.specs.Reading.{has_stamp}
use Rattle.rt_rga.specs.Histories.{Continues, IsHistory, inserted}
use Rattle.rt_rga.specs.Answers.{New, answer_to}
use Rattle.rt_rga.specs.Orders.{AreIn, HasBasesIn}
use Rattle.rt_rga.proofs.Skipping.{split}
use Rattle.rt_rga.proofs.Continuing.{knows}
use Rattle.rt_rga.proofs.Histories.{character_site, inserted_range, last_ge}
use Rattle.rt_rga.proofs.Accepting.{continues_if_new, free, known_site, new_if_continues, sound_in}
use Rattle.rt_rga.proofs.Orders.{character_of, end_reached, in_time, insert_of, rules_in}
use Rattle.rt_rga.proofs.Later.{bad_prev, some_named}

-- operations of a history that have a count of a site in common are one
overlapping : (x y : Operation) (n : ℕ) → x.site ≡ y.site → x.prev < x.count → y.prev < y.count → x.count ≤ n → n ≤ last_count x → y.count ≤ n → n ≤ last_count y → same_operation x y ≡ false
    → clash x y ≡ true
overlapping x y n s a b c d e f m = split (nat_le_count x y)
    (λ g. let t : reaches_into x y ≡ true = grind (arith, nat_tests, s, b, d, e, g) in grind (arith, m, t))
    (λ g. let t : reaches_into y x ≡ true = grind (arith, nat_tests, s, a, f, c, g) in grind (arith, m, t))
  where
    nat_le_count : Operation → Operation → Bool
    nat_le_count x y = nat_le x.count y.count

one_operation : (set : List Operation) → IsHistory set → (x y : Operation) → HasOp set x → HasOp set y → x.site ≡ y.site → (n : ℕ) → x.count ≤ n → n ≤ last_count x → y.count ≤ n → n ≤ last_count y → x ≡ y
one_operation set h x y i j s n a b c d = split (same_operation x y)
    (λ e. operation_true x y e)
    (λ e. absurd (let t = overlapping x y n s (bad_prev x (sound_in set h x i)) (bad_prev y (sound_in set h y j)) a b c d e in let f = free set h x y i j in cc (t, f)))

-- the Insert of a named character is there where the character is
insert_there : (set older : List Operation) (op base : Operation) → IsHistory set → IsHistory older → AreIn older set → Continues older op → HasOp set base
    → list_any (has_stamp (inserted base)) (named op.body) ≡ true → HasOp older base
insert_there set older op base h o sub k i u =
    let (s, n, t) = some_named (has_stamp (inserted base)) (named op.body) u in
    elim (known_site older op.body s (knows k s n)) [
      | inl c ↦ (
          let (x, j, v) = insert_of older s c in
          let p = inserted_range x s v in
          let q = inserted_range base s t in
          let e : x ≡ base = one_operation set h x base (sub x j) i (sym p.site ∙ q.site) s.count p.low p.high q.low q.high in
          subst (HasOp older) e j
          )
      | inr z ↦ absurd (let w = character_site set h s (character_of set base s i t) in let y = z.1 in omega (arith, w, y))
    ]

-- so is the previous one of the site
previous_there : (set older : List Operation) (op base : Operation) → IsHistory set → IsHistory older → AreIn older set → Continues older op → HasOp set base
    → base.site ≡ op.site → last_count base ≡ op.prev → HasOp older base
previous_there set older op base h o sub k i s l =
    let a = bad_prev base (sound_in set h base i) in
    let b = last_ge base.count base.body in
    let c = k.prev in
    let (x, j, t, m) = end_reached older op.site (omega (arith, a, b, c, l)) in
    let d = last_ge x.count x.body in
    let e : x ≡ base = one_operation set h x base (sub x j) i (t ∙ sym s) (last_count base) (omega (arith, d, m, c, l)) (omega (arith, m, c, l)) b (omega arith) in
    subst (HasOp older) e j

pub bases_there : (set older : List Operation) (op : Operation) → IsHistory set → IsHistory older → AreIn older set → Continues older op → HasBasesIn set op older
bases_there set older op h o sub k base i u = split (list_any (has_stamp (inserted base)) (named op.body))
    (λ e. insert_there set older op base h o sub k i e)
    (λ e. let a : ((base.site == op.site) && (last_count base == op.prev)) ≡ true = grind (arith, e, u) in
    previous_there set older op base h o sub k i (grind (arith, nat_tests, a)) (grind (arith, nat_tests, a)))

pub new_upon_bases : (set older : List Operation) (op : Operation) → IsHistory set → IsHistory older → AreIn older set → HasOp set op → (HasOp older op → ⊥)
    → (answer_to op older ≡ New) ↔ HasBasesIn set op older
new_upon_bases set older op h o sub i n = (
  λ e. bases_there set older op h o sub (continues_if_new older op (rules_in set h op i) e),
  λ b. new_if_continues older op o (in_time set older op h o sub i b (held_not n)),
)
  where
    held_not : (HasOp older op → ⊥) → holds older op ≡ false
    held_not m = split (holds older op) (λ e. absurd (m (has_held older op e))) (λ e. e)
