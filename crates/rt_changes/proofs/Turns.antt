-- The changes of operations that are offered one after the other.
use Rattle.std.proofs.Common.{◌≡◌, ℕ, ◌<◌, List, [], ◌∷◌, ◌++◌, Bool, true, false, cond, length, refl, ◌∙◌, ap}
use Rattle.std.specs.Prelude.{nat_le}
use Rattle.std.proofs.lemmas.Bool.{and_parts, leb-true}
use Rattle.rt_stamps.specs.declared.limits.TheConstants.{GREATEST_COUNT}
use Rattle.rt_rga.specs.Requests.{AllMayBeAsked, Make, MayBeAsked, Offer, ReplicaRequest, after_request, after_requests, fit, last_count_after}
use Rattle.rt_rga.proofs.Requests.{all_history, drafts_for}
use Rattle.rt_rga.proofs.Within.{continues_new}
use Rattle.std.specs.List.{AllByRecursion}
use Rattle.rt_ops.specs.Operations.{Body, Operation}
use Rattle.rt_ops.specs.Rules.{keeps_rules}
use Rattle.rt_oplog.specs.Logs.{with_operation}
use Rattle.rt_rga.specs.Answers.{Answer, New, Repeat, Refused, all_taken, answer_to, answer_within, set_after, taken}
use Rattle.rt_rga.specs.Cells.{cells_of}
use Rattle.rt_rga.specs.Drafts.{AreDraftsFor, next_operation, operations_of, with_drafts}
use Rattle.rt_rga.specs.Histories.{Continues, IsHistory, greatest_last_count}
use Rattle.rt_rga.specs.Texts.{TaggedCharacter, tagged_text}
use Rattle.rt_rga.proofs.Accepting.{history_if_new, taken_history}
use Rattle.rt_rga.proofs.Drafting.{draft_continues}
use Rattle.rt_rga.proofs.Histories.{continues_from, history_with}
use Rattle.rt_changes.specs.Replays.{VisibleChange, all_changes, replayed, changes_by_request, changes_by_requests, changes_if_new, changes_in_turn, changes_of, with_change}
use Rattle.rt_changes.proofs.Texts.{changes_replay}

pub replayed_append : (changes more : List VisibleChange) (t : List TaggedCharacter) → replayed (changes ++ more) t ≡ replayed more (replayed changes t)
replayed_append [] more t = refl
replayed_append (c ∷ changes) more t = replayed_append changes more (with_change c t)

one_offer : (a : Answer) (op : Operation) (set : List Operation) → IsHistory set → (a ≡ New → IsHistory (with_operation op set))
    → replayed (changes_if_new a op (cells_of set)) (tagged_text (cells_of set)) ≡ tagged_text (cells_of (set_after a op set))
one_offer New op set h k = changes_replay set op h (continues_from op set h (k refl))
one_offer Repeat op set h k = refl
one_offer (Refused fault) op set h k = refl

pub offers_replay : (ops set : List Operation) → IsHistory set → AllByRecursion (λ op. keeps_rules op.body ≡ true) ops → replayed (all_changes ops set) (tagged_text (cells_of set)) ≡ tagged_text (cells_of (all_taken ops set))
offers_replay [] set h r = refl
offers_replay (op ∷ ops) set h r =
    replayed_append (changes_if_new (answer_to op set) op (cells_of set)) (all_changes ops (taken op set)) (tagged_text (cells_of set))
    ∙ ap (replayed (all_changes ops (taken op set))) (one_offer (answer_to op set) op set h (history_if_new set op h r.0))
    ∙ offers_replay ops (taken op set) (taken_history (answer_to op set) op set h (history_if_new set op h r.0)) r.1

pub own_replay : (site : ℕ) (drafts : List Body) (set : List Operation) → 0 < site → IsHistory set → AreDraftsFor site set drafts
    → replayed (changes_in_turn (operations_of site drafts set) set) (tagged_text (cells_of set)) ≡ tagged_text (cells_of (with_drafts site drafts set))
own_replay site [] set l h a = refl
own_replay site (draft ∷ drafts) set l h a =
    let op = next_operation site draft set in
    let k : Continues set op = draft_continues site set draft l a.0 in
    let more = with_operation op set in
    replayed_append (changes_of op (cells_of set)) (changes_in_turn (operations_of site drafts more) more) (tagged_text (cells_of set))
    ∙ ap (replayed (changes_in_turn (operations_of site drafts more) more)) (changes_replay set op h k)
    ∙ own_replay site drafts more l (history_with op set h k) a.1

one_request : (site limit : ℕ) (request : ReplicaRequest) (set : List Operation) → 0 < site → IsHistory set → MayBeAsked site set request
    → replayed (changes_by_request site limit request set) (tagged_text (cells_of set)) ≡ tagged_text (cells_of (after_request site limit request set))
one_request site limit (Offer op) set l h m = one_offer (answer_within limit op set) op set h (λ e. history_with op set h (continues_new limit op set h m e).0)
one_request site limit (Make drafts) set l h m = by (fit site limit drafts set) refl
  where
    by : (b : Bool) → fit site limit drafts set ≡ b
        → replayed (cond b (changes_in_turn (operations_of site drafts set) set) []) (tagged_text (cells_of set)) ≡ tagged_text (cells_of (cond b (with_drafts site drafts set) set))
    by true e =
        let fit = (and_parts (nat_le (last_count_after (greatest_last_count set) drafts) GREATEST_COUNT) (nat_le (length (cells_of (with_drafts site drafts set))) limit) e).0 in
        own_replay site drafts set l h (drafts_for site set drafts m (leb-true (last_count_after (greatest_last_count set) drafts) GREATEST_COUNT fit))
    by false e = refl

pub requests_replay : (site limit : ℕ) (requests : List ReplicaRequest) (set : List Operation) → 0 < site → IsHistory set → AllMayBeAsked site limit set requests
    → replayed (changes_by_requests site limit requests set) (tagged_text (cells_of set)) ≡ tagged_text (cells_of (after_requests site limit requests set))
requests_replay site limit [] set l h m = refl
requests_replay site limit (request ∷ requests) set l h m =
    let more = after_request site limit request set in
    replayed_append (changes_by_request site limit request set) (changes_by_requests site limit requests more) (tagged_text (cells_of set))
    ∙ ap (replayed (changes_by_requests site limit requests more)) (one_request site limit request set l h m.0)
    ∙ requests_replay site limit requests more l (all_history site limit (request ∷ []) set l h (m.0, tt)) m.1
