-- A file that a site receives is so many requests, one for each operation that came with it.
use Rattle.std.proofs.Common.{◌≡◌, ◌∙◌, ◌++◌, ℕ, ◌<◌, Bool, true, false, cond, inl, inr, refl, sym, ap, subst, List, [], ◌∷◌, Ok, append_assoc, not}
use Rattle.rt_stamps.specs.declared.fault.Fault.{Fault}
use Rattle.rt_stamps.specs.declared.fault.Fault.TheVariants.{NoMemory, TextFull, WaitingFull}
use Rattle.rt_ops.specs.Operations.{Operation}
use Rattle.rt_ops.specs.Rules.{keeps_rules}
use Rattle.rt_oplog.specs.Logs.{HasOp, holds}
use Rattle.rt_rga.specs.Answers.{Answer, New, Repeat, Refused, answer_within}
use Rattle.rt_rga.specs.Requests.{Offer, ReplicaRequest}
use Rattle.rt_rga.proofs.Skipping.{split}
use Rattle.rt_holding.specs.declared.held.Offered.{Offered}
use Rattle.rt_holding.specs.declared.held.Offered.TheVariants as offerings
use Rattle.rt_holding.specs.declared.receiving.Received.{Received}
use Rattle.rt_holding.specs.Came.{came_with, is_want, offered_in}
use Rattle.rt_holding.specs.Holding.{Holding, Settles, after_answer, as_reply, is_early, is_full, is_new, put_held, reply_to, with_taken}
use Rattle.rt_holding.specs.Receiving.{Behind, Offers, Receives, State}
use Rattle.rt_holding.specs.Replies.{Reply}
use Rattle.rt_holding.specs.Replies as replies
use Rattle.rt_holding.specs.Runs.{IsHolding, Leads, Runs, before_tries, brought_by, finds_no_room, next, none}
use Rattle.rt_holding.specs.Taken.{IsOffered, IsRefused, all_after, site_holding, replied}
use Rattle.rt_holding.proofs.Fronts.{read_rules}
use Rattle.rt_holding.proofs.Sites.{refused_changes_nothing, repeat_changes_nothing, requests_keep}

-- ONE REQUEST AFTER OTHERS

-- runs that go on where others end
pub runs_on : (site limit : ℕ) (requests more : List ReplicaRequest) (s t u : Holding) (ops later : List Operation)
    → Runs site limit requests s t ops → Runs site limit more t u later → Runs site limit (requests ++ more) s u (ops ++ later)
runs_on site limit requests more s t u ops later none r = r
runs_on site limit requests more s t u ops later (next {request = request} {requests = others} {t = mid} {ops = behind} taken may leads rest) r =
    subst (Runs site limit (request ∷ (others ++ more)) s u) (sym (append_assoc (brought_by site limit request s) behind later))
    (next taken may leads (runs_on site limit others more mid t u behind later rest r))

-- ANSWERS BY REPLIES

-- a reply, by whether the answer is that it comes too early, whether it is held, and whether too many are
abbrev pub told : Bool → Bool → Bool → Answer → Reply
told early held full a = cond (not early) (as_reply a) (cond held replies.Repeat (cond full (replies.Refused WaitingFull) replies.Held))

early_not_new : (a : Answer) → is_early a ≡ true → is_new a ≡ false
early_not_new New e = absurd (cc e)
early_not_new Repeat e = refl
early_not_new (Refused fault) e = refl

pub new_if : (early held full : Bool) (a : Answer) → told early held full a ≡ replies.New → is_new a ≡ true
new_if false held full New k = refl
new_if false held full Repeat k = absurd (cc k)
new_if false held full (Refused fault) k = absurd (cc k)
new_if true true full a k = absurd (cc k)
new_if true false true a k = absurd (cc k)
new_if true false false a k = absurd (cc k)

held_if : (early held full : Bool) (a : Answer) → told early held full a ≡ replies.Held → (early ≡ true) × (held ≡ false) × (full ≡ false)
held_if false held full New k = absurd (cc k)
held_if false held full Repeat k = absurd (cc k)
held_if false held full (Refused fault) k = absurd (cc k)
held_if true true full a k = absurd (cc k)
held_if true false true a k = absurd (cc k)
held_if true false false a k = (refl, refl, refl)

-- what is refused or a repeat isn't answered New
other_if : (early held full : Bool) (a : Answer) → is_early a ≡ early → (told early held full a ≡ replies.New → ⊥) → is_new a ≡ false
other_if false held full New e n = absurd (n refl)
other_if false held full Repeat e n = refl
other_if false held full (Refused fault) e n = refl
other_if true held full a e n = early_not_new a e

-- ONE OPERATION

refused_leads : (site limit : ℕ) (op : Operation) (s : Holding) (fault : Fault) → IsHolding limit s → reply_to limit op s ≡ replies.Refused fault → Leads site limit (Offer op) s s []
refused_leads site limit op s fault k r =
    let a = answer_within limit op s.log in
    let e : is_new a ≡ false = other_if (is_early a) (holds s.held op) (is_full s.held) a refl (λ n. let q : ◌≡◌ {A = Reply} (replies.Refused fault) replies.New = sym r ∙ n in cc q) in
    let t = before_tries site limit (Offer op) s in
    inr (e, sym (refused_changes_nothing site limit op s t [] fault k r (inr (e, refl, refl))), refl)

repeat_leads : (site limit : ℕ) (op : Operation) (s : Holding) → IsHolding limit s → reply_to limit op s ≡ replies.Repeat → Leads site limit (Offer op) s s []
repeat_leads site limit op s k r =
    let a = answer_within limit op s.log in
    let e : is_new a ≡ false = other_if (is_early a) (holds s.held op) (is_full s.held) a refl (λ n. let q : ◌≡◌ {A = Reply} replies.Repeat replies.New = sym r ∙ n in cc q) in
    let t = before_tries site limit (Offer op) s in
    inr (e, sym (repeat_changes_nothing site limit op s t [] k r (inr (e, refl, refl))), refl)

held_leads : (site limit : ℕ) (op : Operation) (s : Holding) → reply_to limit op s ≡ replies.Held
    → Leads site limit (Offer op) s (record { log = s.log; held = put_held op s.held }) []
held_leads site limit op s r =
    let a = answer_within limit op s.log in
    let (f, g, h) = held_if (is_early a) (holds s.held op) (is_full s.held) a r in
    let e = early_not_new a f in
    let q : after_answer a op s ≡ record { log = s.log; held = put_held op s.held } = rw (e, f, g, h) refl in
    inr (e, sym q, refl)

new_leads : (site limit : ℕ) (op : Operation) (s t : Holding) (more : List Operation) → reply_to limit op s ≡ replies.New → Settles limit [] (with_taken op s) t more
    → Leads site limit (Offer op) s t more
new_leads site limit op s t more r settles =
    let a = answer_within limit op s.log in
    let e = new_if (is_early a) (holds s.held op) (is_full s.held) a r in
    let q : after_answer a op s ≡ with_taken op s = rw e refl in
    inl (e, subst (λ x. Settles limit [] x t more) (sym q) settles)

has_room : (o : Offered) → finds_no_room (replied (Ok o)) ≡ false
has_room (offerings.New more) = refl
has_room offerings.Repeat = refl
has_room offerings.Held = refl

no_want : (fault : Fault) → is_want fault ≡ false → finds_no_room (replies.Refused fault) ≡ false
no_want NoMemory e = refl
no_want TextFull e = absurd (cc e)
no_want WaitingFull e = absurd (cc e)
no_want _ e = refl

brings : (site limit : ℕ) (op : Operation) (s : Holding) (reply : Reply) → reply_to limit op s ≡ reply → finds_no_room reply ≡ false → brought_by site limit (Offer op) s ≡ op ∷ []
brings site limit op s reply r e = let f : finds_no_room (reply_to limit op s) ≡ false = ap finds_no_room r ∙ e in rw f refl

-- ONE AFTER THE OTHER

module _ {Site : Type 0} (log : Site → List Operation) (limit : Site → ℕ) (after : Operation → Site → Site) (keeps : (op : Operation) (s : Site) → limit (after op s) ≡ limit s) where
  abbrev state_of : State Site → Holding
  state_of s = site_holding log s.site s.held

  all_keep : (ops : List Operation) (s : Site) → limit (all_after after ops s) ≡ limit s
  all_keep [] s = refl
  all_keep (op ∷ ops) s = all_keep ops (after op s) ∙ keeps op s

  offered_limit : (op : Operation) (o : Offered) (old new : State Site) → IsOffered log after (limit old.site) op o old.site old.held new.site new.held → limit new.site ≡ limit old.site
  offered_limit op (offerings.New more) old new t = ap limit t.each ∙ all_keep t.more (after op old.site) ∙ keeps op old.site
  offered_limit op offerings.Repeat old new t = ap limit t.0
  offered_limit op offerings.Held old new t = ap limit t.0

  offered_leads : (site : ℕ) (op : Operation) (o : Offered) (old new : State Site) → IsHolding (limit old.site) (state_of old)
      → reply_to (limit old.site) op (state_of old) ≡ replied (Ok o) → IsOffered log after (limit old.site) op o old.site old.held new.site new.held
      → (more : List Operation) × Leads site (limit old.site) (Offer op) (state_of old) (state_of new) more
  offered_leads site op (offerings.New count) old new k r t = (t.more, new_leads site (limit old.site) op (state_of old) (state_of new) t.more r t.settles)
  offered_leads site op offerings.Repeat old new k r t =
      let same : state_of old ≡ state_of new = λ i. record { log = log (sym t.0 i); held = sym t.1 i } in
      ([], subst (λ u. Leads site (limit old.site) (Offer op) (state_of old) u []) same (repeat_leads site (limit old.site) op (state_of old) k r))
  offered_leads site op offerings.Held old new k r t =
      let same : record { log = log old.site; held = put_held op old.held } ≡ state_of new = λ i. record { log = log (sym t.0 i); held = sym t.1 i } in
      ([], subst (λ u. Leads site (limit old.site) (Offer op) (state_of old) u []) same (held_leads site (limit old.site) op (state_of old) r))

  -- a site from one state to another, by requests that brought some operations
  pub record Goes (site : ℕ) (old new : State Site) (came : List Operation) : Type 0 where
    pub requests : List ReplicaRequest
    pub runs : Runs site (limit old.site) requests (state_of old) (state_of new) came
    pub holding : IsHolding (limit old.site) (state_of new)
    pub limit_stays : limit new.site ≡ limit old.site

  stays_so : (site : ℕ) (old new : State Site) → IsHolding (limit old.site) (state_of old) → new ≡ old → Goes site old new []
  stays_so site old new k e = subst (λ (s : State Site). Goes site old s []) (sym e) (record { requests = []; runs = none; holding = k; limit_stays = refl })

  refused_goes : (site : ℕ) (op : Operation) (fault : Fault) (old new : State Site) → keeps_rules op.body ≡ true → IsHolding (limit old.site) (state_of old)
      → IsRefused (reply_to (limit old.site) op (state_of old)) fault → new ≡ old → Goes site old new (cond (is_want fault) [] (op ∷ []))
  refused_goes site op fault old new rules k refused same = split (is_want fault)
      (λ e. rw e (stays_so site old new k same))
      (λ e. rw e (elim refused [
        | inl r ↦ subst (λ (s : State Site). Goes site old s (op ∷ [])) (sym same) (record {
          requests = Offer op ∷ [];
          runs = subst (Runs site (limit old.site) (Offer op ∷ []) (state_of old) (state_of old)) (ap (λ ops. ops ++ []) (brings site (limit old.site) op (state_of old) (replies.Refused fault) r (no_want fault e)))
              (next [] rules (refused_leads site (limit old.site) op (state_of old) fault k r) none);
          holding = k;
          limit_stays = refl;
        })
        | inr r ↦ absurd (let q = ap is_want r.0 in let n : ⊥ = cc (q, e) in n)
      ]))

  goes_past : (site : ℕ) (op : Operation) (more came : List Operation) (o : Offered) (old mid new : State Site) → keeps_rules op.body ≡ true
      → reply_to (limit old.site) op (state_of old) ≡ replied (Ok o) → Leads site (limit old.site) (Offer op) (state_of old) (state_of mid) more
      → limit mid.site ≡ limit old.site → Goes site mid new came → Goes site old new (op ∷ came)
  goes_past site op more came o old mid new rules r leads stays rest = record {
    requests = Offer op ∷ rest.requests;
    runs = subst (Runs site (limit old.site) (Offer op ∷ rest.requests) (state_of old) (state_of new))
        (ap (λ ops. ops ++ came) (brings site (limit old.site) op (state_of old) (replied (Ok o)) r (has_room o)))
        (next more rules leads (subst (λ l. Runs site l rest.requests (state_of mid) (state_of new) came) stays rest.runs));
    holding = subst (λ l. IsHolding l (state_of new)) stays rest.holding;
    limit_stays = rest.limit_stays ∙ stays;
  }

  offers_go : (site : ℕ) (ops : List Operation) (offsets : List ℕ) (behind : Behind) (old : State Site) (received : Received) (new : State Site)
      → (h : Offers log limit after ops offsets behind old received new) → 0 < site → ((op : Operation) → HasOp ops op → keeps_rules op.body ≡ true)
      → IsHolding (limit old.site) (state_of old) → Goes site old new (offered_in log limit after ops offsets behind old received new h)
  offers_go site [] offsets behind old received new h p rules k = stays_so site old new k h.same
  offers_go site (op ∷ ops) [] behind old received new h p rules k = absurd h
  offers_go site (op ∷ ops) (offset ∷ offsets) behind old received new (inl h) p rules k = refused_goes site op h.fault old new (rules op (inl refl)) k h.refused h.same
  offers_go site (op ∷ ops) (offset ∷ offsets) behind old received new (inr h) p rules k =
      let mid = h.next in
      let (more, leads) = offered_leads site op h.offered old mid k h.reply h.is_offered in
      let stays = offered_limit op h.offered old mid h.is_offered in
      let kept = requests_keep site (limit old.site) (Offer op) (state_of old) (state_of mid) more p k (rules op (inl refl)) leads in
      goes_past site op more (offered_in log limit after ops offsets behind mid h.rest new h.others) h.offered old mid new (rules op (inl refl)) h.reply leads stays
      (offers_go site ops offsets behind mid h.rest new h.others p (λ x i. rules x (inr i)) (subst (λ l. IsHolding l (state_of mid)) (sym stays) kept))

  pub file_goes : (site : ℕ) (bytes : List ℕ) (old : State Site) (received : Received) (new : State Site) → (h : Receives log limit after bytes old received new) → 0 < site
      → IsHolding (limit old.site) (state_of old) → Goes site old new (came_with log limit after bytes old received new h)
  file_goes site bytes old received new h p k = offers_go site h.ops h.offsets h.behind old received new h.offers p (read_rules bytes h.ops h.offsets h.behind h.read) k
