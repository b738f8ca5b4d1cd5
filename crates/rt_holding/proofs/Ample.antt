-- Runs in which each try finds memory.
use Rattle.std.proofs.Common.{◌≡◌, ℕ, ◌<◌, Bool, true, false, inl, inr, refl, sym, subst, List, [], ◌∷◌, ◌&&◌, ◌||◌}
use Rattle.rt_ops.specs.Operations.{Operation}
use Rattle.rt_oplog.specs.Logs.{HasOp, holds}
use Rattle.rt_rga.specs.Answers.{Answer, answer_within}
use Rattle.rt_rga.specs.Requests.{Make, Offer, ReplicaRequest}
use Rattle.rt_rga.proofs.Skipping.{split}
use Rattle.rt_holding.specs.Holding.{Holding, after_answer, has_no_room, hold, is_early, is_full, is_new, no_more_held, new_holding, put_held, settled, stays, taken_then}
use Rattle.rt_holding.specs.Runs.{HoldingMayBeAsked, AllStay, AreFree, IsGreatestHistoryWithin, Leads, Runs, accepts, holding_after_request, holding_after_requests, before_tries, brought, next, none}
use Rattle.rt_holding.proofs.Accepted.{greatest_accepted}
use Rattle.rt_holding.proofs.Keeping.{has_put, none_next, without_has}
use Rattle.rt_holding.proofs.Settling.{none_left, settled_settles}

-- what one request comes to
abbrev taken_by : ℕ → ℕ → ReplicaRequest → Holding → Bool → List Operation
taken_by site limit request s true = taken_then limit (before_tries site limit request s)
taken_by site limit request s false = []

one_leads : (site limit : ℕ) (request : ReplicaRequest) (s : Holding) → Leads site limit request s (holding_after_request site limit request s) (taken_by site limit request s (accepts site limit request s))
one_leads site limit request s = split (accepts site limit request s)
    (λ e. inl (e, rw e (settled_settles limit (before_tries site limit request s))))
    (λ e. inr (e, rw e refl, rw e refl))

pub ample_runs : (site limit : ℕ) (requests : List ReplicaRequest) (s : Holding) → HoldingMayBeAsked site limit requests s
    → Runs site limit requests s (holding_after_requests site limit requests s) (brought site limit requests s)
ample_runs site limit [] s m = none
ample_runs site limit (request ∷ requests) s m =
    next (taken_by site limit request s (accepts site limit request s)) m.0 (one_leads site limit request s) (ample_runs site limit requests (holding_after_request site limit request s) m.1)

left_stays : (a b : Bool) → (a || (b && false)) ≡ true → a ≡ true
left_stays true b e = refl
left_stays false true e = absurd (cc e)
left_stays false false e = absurd (cc e)

settled_stay : (limit : ℕ) (s : Holding) → AllStay limit (settled limit s)
settled_stay limit s x i =
    let t = settled limit s in
    left_stays (stays (answer_within limit x t.log)) (is_new (answer_within limit x t.log)) (none_next limit [] t.log t.held (none_left limit s) x i)

stay_after : (limit : ℕ) (a : Answer) (op : Operation) (s : Holding) → answer_within limit op s.log ≡ a → is_new a ≡ false → AllStay limit s → AllStay limit (after_answer a op s)
stay_after limit a op s w e l = split (is_early a)
    (λ f. let q : after_answer a op s ≡ hold op s = rw (e, f) refl in
    subst (AllStay limit) (sym q) (split (holds s.held op || is_full s.held)
    (λ h. let u : hold op s ≡ s = rw h refl in subst (AllStay limit) (sym u) l)
    (λ h. let u : hold op s ≡ record { log = s.log; held = put_held op s.held } = rw h refl in
    subst (AllStay limit) (sym u) (λ x i. elim (has_put op s.held x i) [
      | inl g ↦ subst (λ y. stays (answer_within limit y s.log) ≡ true) g (rw (w, f) refl)
      | inr j ↦ l x j
    ]))))
    (λ f. split (has_no_room a)
    (λ g. let q : after_answer a op s ≡ s = rw (e, f, g) refl in subst (AllStay limit) (sym q) l)
    (λ g. let q : after_answer a op s ≡ no_more_held op s = rw (e, f, g) refl in subst (AllStay limit) (sym q) (λ x i. l x (without_has op s.held x i))))

first_stay : (site limit : ℕ) (request : ReplicaRequest) (s : Holding) → accepts site limit request s ≡ false → AllStay limit s → AllStay limit (before_tries site limit request s)
first_stay site limit (Offer op) s e l = stay_after limit (answer_within limit op s.log) op s refl e l
first_stay site limit (Make drafts) s e l = rw e l

one_stay : (site limit : ℕ) (request : ReplicaRequest) (s : Holding) → AllStay limit s → AllStay limit (holding_after_request site limit request s)
one_stay site limit request s l = split (accepts site limit request s)
    (λ e. let q : holding_after_request site limit request s ≡ settled limit (before_tries site limit request s) = rw e refl in subst (AllStay limit) (sym q) (settled_stay limit (before_tries site limit request s)))
    (λ e. let q : holding_after_request site limit request s ≡ before_tries site limit request s = rw e refl in subst (AllStay limit) (sym q) (first_stay site limit request s e l))

pub ample_stay : (site limit : ℕ) (requests : List ReplicaRequest) (s : Holding) → AllStay limit s → AllStay limit (holding_after_requests site limit requests s)
ample_stay site limit [] s l = l
ample_stay site limit (request ∷ requests) s l = ample_stay site limit requests (holding_after_request site limit request s) (one_stay site limit request s l)

stay_new : (a : Answer) → stays a ≡ true → is_new a ≡ false
stay_new Rattle.rt_rga.specs.Answers.New e = absurd (cc e)
stay_new Rattle.rt_rga.specs.Answers.Repeat e = refl
stay_new (Rattle.rt_rga.specs.Answers.Refused fault) e = refl

pub ample_greatest : (site limit : ℕ) (requests : List ReplicaRequest) → 0 < site → HoldingMayBeAsked site limit requests new_holding → AreFree (brought site limit requests new_holding)
    → ((op : Operation) → HasOp (holding_after_requests site limit requests new_holding).held op → has_no_room (answer_within limit op (holding_after_requests site limit requests new_holding).log) ≡ false)
    → IsGreatestHistoryWithin (brought site limit requests new_holding) (holding_after_requests site limit requests new_holding).log
ample_greatest site limit requests p m f r =
    let end = holding_after_requests site limit requests new_holding in
    greatest_accepted site limit requests (brought site limit requests new_holding) end p (ample_runs site limit requests new_holding m) f
    (λ x i. (stay_new (answer_within limit x end.log) (ample_stay site limit requests new_holding (λ y j. absurd j) x i), r x i))
