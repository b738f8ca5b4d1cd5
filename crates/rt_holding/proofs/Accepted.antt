-- What a site has accepted in the end.
use Rattle.std.proofs.Common.{◌≡◌, ℕ, ◌<◌, Bool, true, false, inl, inr, refl, ap, ◌∙◌, List, [], ◌∷◌, ◌||◌}
use Rattle.rt_ops.specs.Operations.{Operation}
use Rattle.rt_oplog.specs.Logs.{AreOf, HasOp}
use Rattle.rt_rga.specs.Answers.{Answer, New, Repeat, Refused, answer_to, answer_within}
use Rattle.rt_rga.specs.Cells.{cells_of}
use Rattle.rt_rga.specs.Histories.{IsHistory}
use Rattle.rt_rga.specs.Requests.{ReplicaRequest}
use Rattle.rt_rga.proofs.Accepting.{free, one_list, repeat_is}
use Rattle.rt_rga.proofs.Room.{other_within}
use Rattle.rt_holding.specs.Holding.{Holding, has_no_room, is_new, new_holding, stays}
use Rattle.rt_holding.specs.Runs.{AreFree, IsGreatestHistoryWithin, NoneCouldBeTaken, Runs}
use Rattle.rt_holding.proofs.Greatest.{is_greatest}
use Rattle.rt_holding.proofs.Arriving.{Keeps, from_nothing}

-- what isn't answered New, nor that there is no room, wouldn't be taken with room either
not_new : (full : Bool) (a : Answer) → is_new (Rattle.rt_rga.specs.Answers.refused_if_full full a) ≡ false → has_no_room (Rattle.rt_rga.specs.Answers.refused_if_full full a) ≡ false → a ≡ New → ⊥
not_new full New e f n = full_cases full e f
  where
    full_cases : (full : Bool) → is_new (Rattle.rt_rga.specs.Answers.refused_if_full full New) ≡ false → has_no_room (Rattle.rt_rga.specs.Answers.refused_if_full full New) ≡ false → ⊥
    full_cases true e f = cc f
    full_cases false e f = cc e
not_new full Repeat e f n = cc n
not_new full (Refused fault) e f n = cc n

pub greatest_kept : (limit : ℕ) (ops : List Operation) (end : Holding) → Keeps limit (HasOp ops) end → AreFree ops → NoneCouldBeTaken limit end → IsGreatestHistoryWithin ops end.log
greatest_kept limit ops end k f n = is_greatest ops end.log k.kept.history k.kept.log f (λ x i. elim (k.kept.each x i) [
  | inl j ↦ inl j
  | inr q ↦ elim q [
    | inl j ↦ inr (inl (λ e. let m = n x j in not_new _ (answer_to x end.log) m.0 m.1 e))
    | inr j ↦ inr (inr j)
  ]
])

pub greatest_accepted : (site limit : ℕ) (requests : List ReplicaRequest) (ops : List Operation) (end : Holding) → 0 < site
    → Runs site limit requests new_holding end ops → AreFree ops → NoneCouldBeTaken limit end → IsGreatestHistoryWithin ops end.log
greatest_accepted site limit requests ops end p r f n = greatest_kept limit ops end (from_nothing site limit requests end ops p r) f n

-- there is one greatest history
pub greatest_once : (ops more one two : List Operation) → AreOf ops more → IsGreatestHistoryWithin ops one → IsGreatestHistoryWithin more two → one ≡ two
greatest_once ops more one two f g h = one_list one two g.history h.history (λ x. (
  λ i. h.greatest one g.history (λ y j. (f y).0 (g.within y j)) x i,
  λ i. g.greatest two h.history (λ y j. (f y).1 (h.within y j)) x i,
))

pub sites_agree : (site other limit most : ℕ) (requests asked : List ReplicaRequest) (ops more : List Operation) (one two : Holding) → 0 < site → 0 < other
    → Runs site limit requests new_holding one ops → Runs other most asked new_holding two more → AreOf ops more → AreFree ops
    → NoneCouldBeTaken limit one → NoneCouldBeTaken most two → cells_of one.log ≡ cells_of two.log
sites_agree site other limit most requests asked ops more one two p q r s f free m n =
    ap cells_of (greatest_once ops more one.log two.log f
    (greatest_accepted site limit requests ops one p r free m)
    (greatest_accepted other most asked more two q s (λ x y i j. free x y ((f x).1 i) ((f y).1 j)) n))

repeat_late : (a : Answer) → a ≡ Repeat → (is_new a || stays a) ≡ true → ⊥
repeat_late New e h = cc e
repeat_late Repeat e h = cc h
repeat_late (Refused fault) e h = cc e

none_there : (held : List Operation) → ((x : Operation) → HasOp held x → ⊥) → held ≡ []
none_there [] f = refl
none_there (q ∷ held) f = absurd (f q (inl refl))

pub histories_accepted : (site limit : ℕ) (requests : List ReplicaRequest) (ops set : List Operation) (end : Holding) → 0 < site
    → Runs site limit requests new_holding end ops → IsHistory set → AreOf ops set → NoneCouldBeTaken limit end → (end.log ≡ set) × (end.held ≡ [])
histories_accepted site limit requests ops set end p r h f n =
    let k = from_nothing site limit requests end ops p r in
    let g = greatest_kept limit ops end k (λ x y i j. free set h x y ((f x).0 i) ((f y).0 j)) n in
    let e : end.log ≡ set = one_list end.log set g.history h (λ x. (λ i. (f x).0 (g.within x i), λ i. g.greatest set h (λ y j. (f y).1 j) x i)) in (
      e,
      none_there end.held (λ x i.
          let m : HasOp end.log x = g.greatest set h (λ y j. (f y).1 j) x ((f x).0 (k.kept.held x i)) in
          let t = (repeat_is end.log x g.history).1 m in
          repeat_late (answer_within limit x end.log) (other_within _ (answer_to x end.log) (λ u. cc (t, u)) ∙ t) (k.late x i)),
    )
