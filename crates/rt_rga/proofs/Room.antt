-- What is answered by a site that keeps at most so many cells.
use Rattle.std.proofs.Common.{◌≡◌, ◌↔◌, ℕ, ◌+◌, ◌<◌, ◌≤◌, Bool, true, false, not, refl, ap, ◌∙◌, arith, List, cond, length, nat_lt}
use Rattle.std.proofs.lemmas.Bool.Decides.{nat_tests}
use Rattle.std.specs.List.{list_any, list_all}
use Rattle.rt_stamps.specs.declared.fault.Fault.TheVariants.{BadStamp, Conflict, NotYet, BadTarget, TextFull}
use Rattle.rt_ops.specs.Operations.{Operation, named, has_bad_stamp}
use Rattle.rt_oplog.specs.Logs.{holds, known_end, with_operation}
use Rattle.rt_ops.specs.Rules.{keeps_rules}
use Rattle.rt_rga.specs.Answers.{Answer, New, Repeat, Refused, answer_to, answer_within, can_never_be_known, refused_if_full}
use Rattle.rt_rga.specs.Cells.{cells_of}
use Rattle.rt_rga.specs.Histories.{IsHistory, inserted, is_known}
use Rattle.rt_rga.proofs.Accepting.{history_if_new, new_if_history}
use Rattle.rt_rga.proofs.Counts.{length_with}

pub new_within : (full : Bool) (a : Answer) → refused_if_full full a ≡ New → (full ≡ false) × (a ≡ New)
new_within true New e = absurd (cc e)
new_within false New e = (refl, refl)
new_within full Repeat e = absurd (cc e)
new_within full (Refused fault) e = absurd (cc e)

full_within : (full : Bool) (a : Answer) → (a ≡ Refused TextFull → ⊥) → refused_if_full full a ≡ Refused TextFull → (full ≡ true) × (a ≡ New)
full_within true New n e = (refl, refl)
full_within false New n e = absurd (cc e)
full_within full Repeat n e = absurd (cc e)
full_within full (Refused fault) n e = absurd (n e)

-- room is asked for last
pub other_within : (full : Bool) (a : Answer) → (a ≡ New → ⊥) → refused_if_full full a ≡ a
other_within full New n = absurd (n refl)
other_within full Repeat n = refl
other_within full (Refused fault) n = refl

full_tests : (b h c d e f : Bool) → cond b (Refused BadStamp) (cond h Repeat (cond c (Refused Conflict) (cond d (Refused NotYet) (cond e (Refused BadTarget) (cond f (Refused NotYet) New))))) ≡ Refused TextFull → ⊥
full_tests true h c d e f k = cc k
full_tests false true c d e f k = cc k
full_tests false false true d e f k = cc k
full_tests false false false true e f k = cc k
full_tests false false false false true f k = cc k
full_tests false false false false false true k = cc k
full_tests false false false false false false k = cc k

never_full : (op : Operation) (set : List Operation) → answer_to op set ≡ Refused TextFull → ⊥
never_full op set k = full_tests (has_bad_stamp op) (holds set op) (nat_lt op.prev (known_end set op.site)) (nat_lt (known_end set op.site) op.prev) (list_any (can_never_be_known set op) (named op.body)) (not (list_all (is_known set op.body) (named op.body))) k

pub taken_within : (set : List Operation) (op : Operation) (limit : ℕ) → IsHistory set → keeps_rules op.body ≡ true
    → (answer_within limit op set ≡ New) ↔ (IsHistory (with_operation op set) × (length (cells_of (with_operation op set)) ≤ limit))
taken_within set op limit h r = (
  λ e. (let (f, n) = new_within (nat_lt limit (length (cells_of set) + length (inserted op))) (answer_to op set) e in
      let w = history_if_new set op h r n in
      let l = length_with set op h w in
      (w, grind (arith, nat_tests, f, l))),
  λ w. (let n = new_if_history set op h w.0 in
      let l = length_with set op h w.0 in
      let m = w.1 in
      let f : nat_lt limit (length (cells_of set) + length (inserted op)) ≡ false = grind (arith, nat_tests, l, m) in
      ap (λ b. refused_if_full b (answer_to op set)) f ∙ ap (refused_if_full false) n),
)

pub full_exactly : (set : List Operation) (op : Operation) (limit : ℕ) → IsHistory set → keeps_rules op.body ≡ true
    → (answer_within limit op set ≡ Refused TextFull) ↔ (IsHistory (with_operation op set) × (limit < length (cells_of (with_operation op set))))
full_exactly set op limit h r = (
  λ e. (let (f, n) = full_within (nat_lt limit (length (cells_of set) + length (inserted op))) (answer_to op set) (never_full op set) e in
      let w = history_if_new set op h r n in
      let l = length_with set op h w in
      (w, grind (arith, nat_tests, f, l))),
  λ w. (let n = new_if_history set op h w.0 in
      let l = length_with set op h w.0 in
      let m = w.1 in
      let f : nat_lt limit (length (cells_of set) + length (inserted op)) ≡ true = grind (arith, nat_tests, l, m) in
      ap (λ b. refused_if_full b (answer_to op set)) f ∙ ap (refused_if_full true) n),
)
