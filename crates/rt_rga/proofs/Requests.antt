-- Whatever is asked of a replica leaves a history.
use Rattle.std.proofs.Common.{◌≡◌, ◌↔◌, ℕ, ◌+◌, ◌<◌, ◌≤◌, Bool, true, false, inr, refl, ap, ◌∙◌, arith, List, [], ◌∷◌, cond, ◌&&◌, length, nat_le, nat_lt}
use Rattle.std.proofs.lemmas.Bool.Decides.{nat_tests}
use Rattle.rt_stamps.specs.declared.limits.TheConstants.{GREATEST_COUNT}
use Rattle.rt_stamps.specs.declared.stamp.Stamp.{Stamp}
use Rattle.rt_ops.specs.Operations.{Operation, Body, Insert, Delete, Tag, last_of, stamp_of}
use Rattle.rt_oplog.specs.Logs.{AreOf, HasOp, with_operation}
use Rattle.rt_oplog.proofs.Sets.{with_has}
use Rattle.rt_rga.specs.Answers.{Answer, New, Repeat, Refused, answer_to, answer_within, set_after}
use Rattle.rt_rga.specs.Cells.{cells_of}
use Rattle.rt_rga.specs.Drafts.{AreDraftsFor, IsDraftFor, next_operation, operations_of, with_drafts, with_operations}
use Rattle.rt_rga.specs.Histories.{IsHistory, greatest_last_count, inserted, inserted_by}
use Rattle.rt_rga.specs.Orders.{AreIn}
use Rattle.rt_rga.specs.Requests.{AllMayBeAsked, MayBeAsked, MayBeMade, Make, Offer, ReplicaRequest, after_request, after_requests, characters_in, characters_in_all, last_count_after}
use Rattle.rt_rga.proofs.Accepting.{history_if_new, new_if_continues, one_list}
use Rattle.rt_rga.proofs.Changing.{length_text}
use Rattle.rt_rga.proofs.Continuing.{sound_of}
use Rattle.rt_rga.proofs.Counts.{length_with}
use Rattle.rt_rga.proofs.Drafting.{count_after, draft_continues, made}
use Rattle.rt_rga.proofs.Histories.{history_with, last_ge}
use Rattle.rt_rga.proofs.Room.{new_within, taken_within}

-- DRAFTS WHOSE COUNTS FIT

pub not_less : (count : ℕ) (drafts : List Body) → count ≤ last_count_after count drafts
not_less count [] = omega arith
not_less count (draft ∷ drafts) = let a = last_ge (count + 1) draft in let b = not_less (last_of (count + 1) draft) drafts in omega (arith, a, b)

pub drafts_for : (site : ℕ) (set : List Operation) (drafts : List Body) → MayBeMade site set drafts → last_count_after (greatest_last_count set) drafts ≤ GREATEST_COUNT → AreDraftsFor site set drafts
drafts_for site set [] m l = tt
drafts_for site set (draft ∷ drafts) m l =
    let op = next_operation site draft set in
    let a = not_less (last_of (greatest_last_count set + 1) draft) drafts in
    let c : greatest_last_count (with_operation op set) ≡ last_of (greatest_last_count set + 1) draft = count_after op set (omega arith) in
    let k = ap (λ n. last_count_after n drafts) c in (
      record { rules = m.0; known = m.1; counts = omega (arith, a, l) },
      drafts_for site (with_operation op set) drafts m.2 (omega (arith, k, l)),
    )

counts_of : (site : ℕ) (set : List Operation) (drafts : List Body) → AreDraftsFor site set drafts → greatest_last_count set ≤ GREATEST_COUNT → last_count_after (greatest_last_count set) drafts ≤ GREATEST_COUNT
counts_of site set [] d l = l
counts_of site set (draft ∷ drafts) d l =
    let op = next_operation site draft set in
    let c : greatest_last_count (with_operation op set) ≡ last_of (greatest_last_count set + 1) draft = count_after op set (omega arith) in
    let m = d.0.counts in
    let k = ap (λ n. last_count_after n drafts) c in
    let r = counts_of site (with_operation op set) drafts d.1 (omega (arith, c, m)) in
    omega (arith, k, r)

-- a history's counts are no greater than a count may be
pub greatest_bound : (set : List Operation) → IsHistory set → greatest_last_count set ≤ GREATEST_COUNT
greatest_bound [] h = omega arith
greatest_bound (op ∷ older) h = let a = (sound_of h.1).last in let b = greatest_bound older h.2 in omega (arith, a, b)

pub fit_exactly : (site : ℕ) (drafts : List Body) (set : List Operation) → IsHistory set → MayBeMade site set drafts → (AreDraftsFor site set drafts) ↔ (last_count_after (greatest_last_count set) drafts ≤ GREATEST_COUNT)
fit_exactly site drafts set h m = (λ d. counts_of site set drafts d (greatest_bound set h), λ l. drafts_for site set drafts m l)

pub all_count_on : (site : ℕ) (drafts : List Body) (set : List Operation) → greatest_last_count (with_drafts site drafts set) ≡ last_count_after (greatest_last_count set) drafts
all_count_on site [] set = refl
all_count_on site (draft ∷ drafts) set =
    let op = next_operation site draft set in
    all_count_on site drafts (with_operation op set) ∙ ap (λ n. last_count_after n drafts) (count_after op set (omega arith))

pub inserted_length : (stamp : Stamp) (draft : Body) → length (inserted_by stamp draft) ≡ characters_in draft
inserted_length stamp (Insert after tags text) = length_text after stamp text
inserted_length stamp (Delete spans) = refl
inserted_length stamp (Tag on name spans) = refl

pub all_counted : (site : ℕ) (drafts : List Body) (set : List Operation) → 0 < site → IsHistory set → AreDraftsFor site set drafts
    → length (cells_of (with_drafts site drafts set)) ≡ length (cells_of set) + characters_in_all drafts
all_counted site [] set p h d = omega arith
all_counted site (draft ∷ drafts) set p h d =
    let op = next_operation site draft set in
    let w = history_with op set h (draft_continues site set draft p d.0) in
    let r = all_counted site drafts (with_operation op set) p w d.1 in
    let l = length_with set op h w in
    let i = inserted_length (stamp_of op) draft in
    omega (arith, r, l, i)

-- a made operation is answered New
pub made_new : (site : ℕ) (draft : Body) (set : List Operation) → 0 < site → IsHistory set → IsDraftFor set draft → answer_to (next_operation site draft set) set ≡ New
made_new site draft set p h d = new_if_continues set (next_operation site draft set) h (draft_continues site set draft p d)

-- ONE REQUEST

both : (a b : Bool) → (a && b) ≡ true → (a ≡ true) × (b ≡ true)
both true true h = (refl, refl)
both true false h = absurd (cc h)
both false b h = absurd (cc h)

offered : (P : List Operation → Type 0) (a : Answer) (op : Operation) (set : List Operation) → P set → (a ≡ New → P (with_operation op set)) → P (set_after a op set)
offered P New op set h k = k refl
offered P Repeat op set h k = h
offered P (Refused fault) op set h k = h

abbrev fits : ℕ → ℕ → List Body → List Operation → Bool
fits site limit drafts set = nat_le (last_count_after (greatest_last_count set) drafts) GREATEST_COUNT && nat_le (length (cells_of (with_drafts site drafts set))) limit

drafted : (P : List Operation → Type 0) (b : Bool) (more set : List Operation) → P set → (b ≡ true → P more) → P (cond b more set)
drafted P true more set h k = k refl
drafted P false more set h k = h

one_history : (site limit : ℕ) (request : ReplicaRequest) (set : List Operation) → 0 < site → IsHistory set → MayBeAsked site set request → IsHistory (after_request site limit request set)
one_history site limit (Offer op) set p h m = offered IsHistory (answer_within limit op set) op set h
    (λ e. let (f, n) = new_within (nat_lt limit (length (cells_of set) + length (inserted op))) (answer_to op set) e in history_if_new set op h m n)
one_history site limit (Make drafts) set p h m = drafted IsHistory (fits site limit drafts set) (with_drafts site drafts set) set h
    (λ e. let (a, b) = both (nat_le (last_count_after (greatest_last_count set) drafts) GREATEST_COUNT) (nat_le (length (cells_of (with_drafts site drafts set))) limit) e in
    (made site drafts set p h (drafts_for site set drafts m (grind (arith, nat_tests, a)))).history)

one_room : (site limit : ℕ) (request : ReplicaRequest) (set : List Operation) → IsHistory set → MayBeAsked site set request → length (cells_of set) ≤ limit → length (cells_of (after_request site limit request set)) ≤ limit
one_room site limit (Offer op) set h m l = offered (λ s. length (cells_of s) ≤ limit) (answer_within limit op set) op set l (λ e. ((taken_within set op limit h m).0 e).1)
one_room site limit (Make drafts) set h m l = drafted (λ s. length (cells_of s) ≤ limit) (fits site limit drafts set) (with_drafts site drafts set) set l
    (λ e. let (a, b) = both (nat_le (last_count_after (greatest_last_count set) drafts) GREATEST_COUNT) (nat_le (length (cells_of (with_drafts site drafts set))) limit) e in grind (arith, nat_tests, b))

more_in : (ops set : List Operation) (x : Operation) → HasOp set x → HasOp (with_operations ops set) x
more_in [] set x i = i
more_in (op ∷ ops) set x i = more_in ops (with_operation op set) x (with_has op set x (inr i))

one_in : (site limit : ℕ) (request : ReplicaRequest) (set : List Operation) (x : Operation) → HasOp set x → HasOp (after_request site limit request set) x
one_in site limit (Offer op) set x i = offered (λ s. HasOp s x) (answer_within limit op set) op set i (λ e. with_has op set x (inr i))
one_in site limit (Make drafts) set x i = drafted (λ s. HasOp s x) (fits site limit drafts set) (with_drafts site drafts set) set i (λ e. more_in (operations_of site drafts set) set x i)

-- ALL REQUESTS

pub all_history : (site limit : ℕ) (requests : List ReplicaRequest) (set : List Operation) → 0 < site → IsHistory set → AllMayBeAsked site limit set requests → IsHistory (after_requests site limit requests set)
all_history site limit [] set p h m = h
all_history site limit (request ∷ requests) set p h m = all_history site limit requests (after_request site limit request set) p (one_history site limit request set p h m.0) m.1

pub all_room : (site limit : ℕ) (requests : List ReplicaRequest) (set : List Operation) → 0 < site → IsHistory set → AllMayBeAsked site limit set requests
    → length (cells_of set) ≤ limit → length (cells_of (after_requests site limit requests set)) ≤ limit
all_room site limit [] set p h m l = l
all_room site limit (request ∷ requests) set p h m l =
    all_room site limit requests (after_request site limit request set) p (one_history site limit request set p h m.0) m.1 (one_room site limit request set h m.0 l)

pub all_in : (site limit : ℕ) (requests : List ReplicaRequest) (set : List Operation) → AreIn set (after_requests site limit requests set)
all_in site limit [] set x i = i
all_in site limit (request ∷ requests) set x i = all_in site limit requests (after_request site limit request set) x (one_in site limit request set x i)

-- two sites that have the same operations
pub all_agree : (site other limit most : ℕ) (asked more : List ReplicaRequest) → 0 < site → 0 < other → AllMayBeAsked site limit [] asked → AllMayBeAsked other most [] more
    → AreOf (after_requests site limit asked []) (after_requests other most more [])
    → cells_of (after_requests site limit asked []) ≡ cells_of (after_requests other most more [])
all_agree site other limit most asked more p q m n same = ap cells_of (one_list (after_requests site limit asked []) (after_requests other most more []) (all_history site limit asked [] p tt m) (all_history other most more [] q tt n) same)
