-- The greatest history within operations that don't clash.
use Rattle.std.proofs.Common.{◌≡◌, Bool, true, false, not, ◌⊎◌, inl, inr, refl, subst, List, [], ◌∷◌, cond, ◌&&◌}
use Rattle.std.specs.Prelude.{nat_lt}
use Rattle.std.specs.List.{list_any, list_all}
use Rattle.rt_stamps.specs.declared.fault.Fault.{Fault}
use Rattle.rt_stamps.specs.declared.fault.Fault.TheVariants.{BadStamp, BadTarget, Conflict, NotYet}
use Rattle.rt_ops.specs.Operations.{Operation, has_bad_stamp, named}
use Rattle.rt_oplog.specs.Logs.{HasOp, clash, holds, known_end, union}
use Rattle.rt_oplog.proofs.Sets.{has_held, held_from, union_has}
use Rattle.rt_rga.specs.Answers.{Answer, New, Repeat, Refused, answer_to, can_never_be_known}
use Rattle.rt_rga.specs.Histories.{IsHistory, is_known}
use Rattle.rt_rga.specs.Orders.{AreIn}
use Rattle.rt_rga.proofs.Skipping.{split}
use Rattle.rt_rga.proofs.Accepting.{repeat_is, sound_in}
use Rattle.rt_rga.proofs.Bases.{bases_there, new_upon_bases}
use Rattle.rt_rga.proofs.Joining.{all_free, union_history}
use Rattle.rt_rga.proofs.Later.{bad_target_stays, conflict_stays}
use Rattle.rt_holding.specs.Holding.{has_no_room, is_early}
use Rattle.rt_holding.specs.Runs.{AreFree, IsGreatestHistoryWithin}

-- REFUSED FOR GOOD

-- what is answered is neither New nor Repeat, nor that it comes too early or finds no room
abbrev pub is_out : Answer → Bool
is_out New = false
is_out Repeat = false
is_out (Refused fault) = not (is_early (Refused fault)) && not (has_no_room (Refused fault))

out_tests : (P : Type 0) (b h c d e f : Bool) → (b ≡ true → P)
    → (cond b (Refused BadStamp) (cond h Repeat (cond c (Refused Conflict) (cond d (Refused NotYet) (cond e (Refused BadTarget) (cond f (Refused NotYet) New))))) ≡ Refused Conflict → P)
    → (cond b (Refused BadStamp) (cond h Repeat (cond c (Refused Conflict) (cond d (Refused NotYet) (cond e (Refused BadTarget) (cond f (Refused NotYet) New))))) ≡ Refused BadTarget → P)
    → is_out (cond b (Refused BadStamp) (cond h Repeat (cond c (Refused Conflict) (cond d (Refused NotYet) (cond e (Refused BadTarget) (cond f (Refused NotYet) New)))))) ≡ true → P
out_tests P true h c d e f x y z k = x refl
out_tests P false true c d e f x y z k = absurd (cc k)
out_tests P false false true d e f x y z k = y refl
out_tests P false false false true e f x y z k = absurd (cc k)
out_tests P false false false false true f x y z k = z refl
out_tests P false false false false false true x y z k = absurd (cc k)
out_tests P false false false false false false x y z k = absurd (cc k)

refused_repeat : (a : Answer) (fault : Fault) → a ≡ Refused fault → a ≡ Repeat → ⊥
refused_repeat a fault e f = cc (e, f)

-- what a history refuses for good no larger one has
never_in : (set more : List Operation) (op : Operation) → IsHistory set → IsHistory more → AreIn set more → is_out (answer_to op set) ≡ true → HasOp more op → ⊥
never_in set more op h m sub k i =
    let r = (repeat_is more op m).1 i in
    out_tests ⊥ (has_bad_stamp op) (holds set op) (nat_lt op.prev (known_end set op.site)) (nat_lt (known_end set op.site) op.prev) (list_any (can_never_be_known set op) (named op.body)) (not (list_all (is_known set op.body) (named op.body)))
    (λ e. let s = sound_in more m op i in cc (e, s))
    (λ e. refused_repeat (answer_to op more) Conflict (conflict_stays set more op h m sub e) r)
    (λ e. elim (bad_target_stays set more op h m sub e) [
      | inl f ↦ refused_repeat (answer_to op more) BadTarget f r
      | inr f ↦ refused_repeat (answer_to op more) Conflict f r
    ]) k

-- it was refused for good by a part of the set
pub record IsOut (set : List Operation) (op : Operation) : Type 0 where
  pub older : List Operation
  pub history : IsHistory older
  pub within : AreIn older set
  pub out : is_out (answer_to op older) ≡ true

-- THE GREATEST

module _ (ops set : List Operation) (h : IsHistory set) (w : AreIn set ops) (free : AreFree ops)
    (each : (x : Operation) → HasOp ops x → HasOp set x ⊎ ((answer_to x set ≡ New → ⊥) ⊎ IsOut set x)) where
  module _ (all : List Operation) (u : IsHistory all) (sub : AreIn set all) where
    had : (older : List Operation) (op : Operation) → IsHistory (op ∷ older) → AreIn (op ∷ older) ops → AreIn (op ∷ older) all → AreIn older set → HasOp set op
    had older op o within more f = split (holds set op)
        (λ e. has_held set op e)
        (λ e. elim (each op (within op (inl refl))) [
          | inl i ↦ i
          | inr n ↦ elim n [
            | inl m ↦ absurd (m ((new_upon_bases all set op u h sub (more op (inl refl)) (λ i. absurd (not_had i e))).1
                (λ base i t. f base (bases_there all older op u o.2 (λ x j. more x (inr j)) o.1 base i t))))
            | inr m ↦ absurd (never_in m.older all op m.history u (λ x i. sub x (m.within x i)) m.out (more op (inl refl)))
          ]
        ])
      where
        not_had : HasOp set op → holds set op ≡ false → ⊥
        not_had i e = let j = held_from set op i in cc (j, e)

    reach : (part : List Operation) → IsHistory part → AreIn part ops → AreIn part all → AreIn part set
    reach [] o within more x i = absurd i
    reach (op ∷ older) o within more x i =
        let f : AreIn older set = reach older o.2 (λ y j. within y (inr j)) (λ y j. more y (inr j)) in
        elim i [ inl e ↦ subst (HasOp set) e (had older op o within more f) | inr j ↦ f x j ]

  pub is_greatest : IsGreatestHistoryWithin ops set
  is_greatest = record {
    history = h;
    within = w;
    greatest = λ other o within.
        let between : (p q : Operation) → HasOp set p → HasOp other q → clash p q ≡ false = λ p q i j. free p q (w p i) (within q j) in
        reach (union set other) (union_history set other h o (all_free set other h o between)) (λ x i. union_has set other x (inl i)) other o within (λ x i. union_has set other x (inr i));
  }
