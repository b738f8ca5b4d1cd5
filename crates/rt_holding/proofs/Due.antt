-- Held operations that aren't tried stay so until one that they await is passed.
use Rattle.std.proofs.Common.{◌≡◌, ℕ, ◌+◌, ◌≤◌, Bool, true, false, refl, sym, subst, arith, List, cond, ◌&&◌, ◌||◌, length, nat_lt}
use Rattle.std.proofs.lemmas.Bool.Decides.{nat_tests}
use Rattle.rt_ops.specs.Operations.{Operation}
use Rattle.rt_oplog.specs.Logs.{holds}
use Rattle.rt_rga.specs.Answers.{Answer, New, Repeat, Refused, answer_to, answer_within, refused_if_full}
use Rattle.rt_rga.specs.Cells.{cells_of}
use Rattle.rt_rga.specs.Histories.{IsHistory, inserted}
use Rattle.rt_rga.specs.Orders.{AreIn}
use Rattle.rt_holding.specs.Holding.{has_no_room, is_early, is_left, is_new, stays}
use Rattle.rt_holding.specs.Waiting.{NoneIsPassed, WaitsAt}
use Rattle.rt_holding.proofs.Waiting.{unpassed_stay}

-- what is left by a limit comes too early or could be taken, without one
waits_by : (full : Bool) (a : Answer) (h : Bool) → (stays (refused_if_full full a) || (is_new (refused_if_full full a) && h)) ≡ true → (has_no_room a ≡ false) → (is_early a || is_new a) ≡ true
waits_by full New h e n = refl
waits_by full Repeat h e n = absurd (cc e)
waits_by full (Refused fault) h e n = first (is_early (Refused fault)) (has_no_room (Refused fault)) n e
  where
    first : (a b : Bool) → b ≡ false → ((a || b) || false) ≡ true → (a || false) ≡ true
    first true b n e = refl
    first false true n e = absurd (cc n)
    first false false n e = absurd (cc e)

-- a fuller text leaves it
left_fuller : (full more : Bool) (a : Answer) (h : Bool) → (full ≡ true → more ≡ true) → (stays (refused_if_full full a) || (is_new (refused_if_full full a) && h)) ≡ true
    → (stays (refused_if_full more a) || (is_new (refused_if_full more a) && h)) ≡ true
left_fuller true true New h f e = refl
left_fuller true false New h f e = absurd (let g = f refl in cc g)
left_fuller false true New h f e = refl
left_fuller false false New h f e = e
left_fuller full more Repeat h f e = absurd (cc e)
left_fuller full more (Refused fault) h f e = e

never_room : (op : Operation) (log : List Operation) → has_no_room (answer_to op log) ≡ false
never_room op log = by_tests _ _ _ _ _ _
  where
    by_tests : (b h c d e f : Bool) → has_no_room (cond b (Refused Rattle.rt_stamps.specs.declared.fault.Fault.TheVariants.BadStamp) (cond h Repeat (cond c (Refused Rattle.rt_stamps.specs.declared.fault.Fault.TheVariants.Conflict)
        (cond d (Refused Rattle.rt_stamps.specs.declared.fault.Fault.TheVariants.NotYet) (cond e (Refused Rattle.rt_stamps.specs.declared.fault.Fault.TheVariants.BadTarget) (cond f (Refused Rattle.rt_stamps.specs.declared.fault.Fault.TheVariants.NotYet) New)))))) ≡ false
    by_tests true h c d e f = refl
    by_tests false true c d e f = refl
    by_tests false false true d e f = refl
    by_tests false false false true e f = refl
    by_tests false false false false true f = refl
    by_tests false false false false false true = refl
    by_tests false false false false false false = refl

-- what would stay waits
pub stays_waits : (limit : ℕ) (log : List Operation) (x : Operation) → stays (answer_within limit x log) ≡ true → WaitsAt log x
stays_waits limit log x e = waits_by (nat_lt limit (length (cells_of log) + length (inserted x))) (answer_to x log) false (one (stays (answer_within limit x log)) (is_new (answer_within limit x log) && false) e) (never_room x log)
  where
    one : (a b : Bool) → a ≡ true → (a || b) ≡ true
    one true b e = refl
    one false b e = absurd (cc e)

pub left_ones_stay : (limit : ℕ) (wanting older log : List Operation) (op : Operation) → IsHistory older → IsHistory log → AreIn older log → length (cells_of older) ≤ length (cells_of log)
    → is_left limit wanting older op ≡ true → NoneIsPassed older log op → is_left limit wanting log op ≡ true
left_ones_stay limit wanting older log op h m sub l e n =
    let full = nat_lt limit (length (cells_of older) + length (inserted op)) in
    let more = nat_lt limit (length (cells_of log) + length (inserted op)) in
    let w : WaitsAt older op = waits_by full (answer_to op older) (holds wanting op) e (never_room op older) in
    let a = (unpassed_stay older log op h m sub w n).0 in
    subst (λ (x : Answer). (stays (refused_if_full more x) || (is_new (refused_if_full more x) && holds wanting op)) ≡ true) (sym a)
    (left_fuller full more (answer_to op older) (holds wanting op) (fuller (length (cells_of older)) (length (cells_of log)) (length (inserted op)) l) e)
  where
    fuller : (a b k : ℕ) → a ≤ b → nat_lt limit (a + k) ≡ true → nat_lt limit (b + k) ≡ true
    fuller a b k l e = grind (arith, nat_tests, l, e)
