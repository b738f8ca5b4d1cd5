-- Requests that are answered before held operations are tried.
use Rattle.std.proofs.Common.{◌≡◌, ◌⊎◌, ◌≤◌, ◌<◌, ℕ, Bool, true, false, List, Option, None, Some, Result, Ok, Err, ap, inl, inr, length, refl, subst, sym, arith}
use Rattle.std.specs.Prelude.{MatchBool, nat_lt}
use Rattle.std.proofs.lemmas.Bool.Decides.{nat_tests}
use Rattle.rt_requests.specs.declared.peers.PeerRequest.{PeerRequest}
use Rattle.rt_requests.specs.declared.request.Request.{Request}
use Rattle.rt_requests.specs.declared.request.Request.TheVariants.{Insert, Delete, Get, Index, Compare, Count, Search, Replace, Dump, Mark, Tag, Edit, Configure, Cget, Peer}
use Rattle.rt_requests.specs.Asking.{Asked, Asks}
use Rattle.rt_requests.proofs.AskedAlways.{asked_some}
use Rattle.rt_stamps.specs.declared.fault.Fault.{Fault}
use Rattle.rt_stamps.specs.declared.fault.Fault.TheVariants.{NoMemory, NoWidget}
use Rattle.rt_stamps.specs.Outcomes.{Answers}
use Rattle.rt_stamps.specs.Words.{Word}
use Rattle.rt_recording.specs.EditedValue.{EditedValue}
use Rattle.rt_peers.specs.Peers.{text_led}
use Rattle.rt_peers.specs.SiteStep.{AnswersInTurn, Gives, KeepsOperations, MakesAndTries, at_widget, by_leading, by_widget, has_made, log_of, outcome_at, widget_step}
use Rattle.rt_peers.specs.SiteValue.{SiteValue, number_of_path}
use Rattle.rt_peers.specs.Step.{step}
use Rattle.rt_peers.specs.ViewStep.{Outcome, as_outcome}
use Rattle.rt_peers.proofs.Gaining.{gains_none}
use Rattle.rt_peers.proofs.PeerLaws.{leading_answers, led_number}
use Rattle.rt_peers.proofs.Staying.{Steps, answer_stays}

abbrev left_in : {S : Type 0} → Outcome S → S → S
left_in (Ok answer) none = answer.1
left_in (Err fault) none = none

pub less : (n m : ℕ) → n < m → nat_lt n m ≡ true
less n m h = grind (arith, nat_tests)

pub not_less : (n m : ℕ) → m ≤ n → nat_lt n m ≡ false
not_less n m h = grind (arith, nat_tests)

-- where operations were made, held ones are tried
pub made_in_turn : (outcome : Outcome SiteValue) (old mid new : SiteValue) (result : Result (List Word) Fault) → Answers outcome old result mid
    → length (log_of old) < length (log_of mid) → MakesAndTries old mid new → AnswersInTurn outcome old result new
made_in_turn outcome old mid new result answers more makes =
    let test = less (length (log_of old)) (length (log_of mid)) more in
    (mid, answers, subst (λ (b : Bool). MatchBool b (MakesAndTries old mid new) (KeepsOperations old mid × (new ≡ mid))) (sym test) makes)

-- where none were, none are
pub made_none : (outcome : Outcome SiteValue) (old mid : SiteValue) (result : Result (List Word) Fault) → Answers outcome old result mid
    → length (log_of mid) ≤ length (log_of old) → KeepsOperations old mid → AnswersInTurn outcome old result mid
made_none outcome old mid result answers none keeps =
    let test = not_less (length (log_of old)) (length (log_of mid)) none in
    (mid, answers, subst (λ (b : Bool). MatchBool b (MakesAndTries old mid mid) (KeepsOperations old mid × (mid ≡ mid))) (sym test) (keeps, refl))

-- so it is left where a call accepted nothing
pub left_kept : (old mid new : SiteValue) → KeepsOperations old mid → MatchBool (has_made old mid) (MakesAndTries old mid new) (KeepsOperations old mid × (new ≡ mid)) → new ≡ mid
left_kept old mid new keeps h =
    let same = ap length keeps.log in
    let test = not_less (length (log_of old)) (length (log_of mid)) (omega (arith, same)) in
    (subst (λ (b : Bool). MatchBool b (MakesAndTries old mid new) (KeepsOperations old mid × (new ≡ mid))) test h).1

-- what is as it was keeps its operations
pub all_kept : (state : SiteValue) → KeepsOperations state state
all_kept state = record { log = refl; held = refl; site = refl; limit = refl }

-- what is refused, or only tells something
pub at_once : (outcome : Outcome SiteValue) (old : SiteValue) (result : Result (List Word) Fault) → Answers outcome old result old → AnswersInTurn outcome old result old
at_once outcome old result answers = made_none outcome old old result answers (omega arith) (all_kept old)

-- a request of the widget at a place is answered by the text, which that widget leads meanwhile
pub asked_answers : (place : ℕ) (request : Request) (text led after back : EditedValue) (result : Result (List Word) Fault)
    → led ≡ text_led place text → Answers (step led request) led result after → back ≡ text_led place after
    → Answers (by_leading place text (λ text. step text request)) text result back
asked_answers place request text led after back result l a b =
    subst (Answers (by_leading place text (λ text. step text request)) text result) (sym b)
    (leading_answers place text (λ text. step text request) result after (subst (λ (t : EditedValue). Answers (step t request) t result after) l a))

-- which gains the operations of drafts, and keeps its widgets
pub asked_steps : (place : ℕ) (request : Request) (old new : EditedValue) (result : Result (List Word) Fault)
    → Answers (by_leading place old (λ text. step text request)) old result new → Steps old.view new.view
asked_steps place request old new (Ok words) h = by (step (text_led place old) request) refl h
  where
    by : (outcome : Outcome EditedValue) → step (text_led place old) request ≡ outcome
        → as_outcome (λ answer. (answer.0, text_led place answer.1)) outcome ≡ Ok (words, new) → Steps old.view new.view
    by (Ok answer) e h =
        let after = answer.1 in
        let steps = answer_stays (text_led place old) request (Ok answer.0) after e in
        let is : text_led place after ≡ new = ap (λ (o : Outcome EditedValue). left_in o old) h in
        let led = led_number old.view place in
        let back = led_number after.view place in
        let number : length (text_led place after).view.others ≡ length old.view.others = omega (arith, led, back, steps.number) in
        subst (λ (t : EditedValue). Steps old.view t.view) is (record { number = number; gains = steps.gains })
    by (Err fault) e h = absurd (cc h)
asked_steps place request old new (Err fault) h =
    subst (λ (t : EditedValue). Steps old.view t.view) (sym h.0) (record { number = refl; gains = gains_none old.view.doc })

-- what isn't asked of peers is asked of the text
pub of_text : (path : Word) (place : ℕ) (state : SiteValue) (request : Request) → ((asked : PeerRequest) → request ≡ Peer asked → ⊥)
    → widget_step path place state request ≡ by_widget place state (λ text. step text request)
of_text path place state (Insert index texts) other = refl
of_text path place state (Delete indices) other = refl
of_text path place state (Replace from to texts) other = refl
of_text path place state (Get indices) other = refl
of_text path place state (Index index) other = refl
of_text path place state (Compare first comparison second) other = refl
of_text path place state (Count measures from to) other = refl
of_text path place state (Search request) other = refl
of_text path place state (Dump kinds from to) other = refl
of_text path place state (Mark request) other = refl
of_text path place state (Tag request) other = refl
of_text path place state (Edit request) other = refl
of_text path place state (Configure settings) other = refl
of_text path place state (Cget option) other = refl
of_text path place state (Peer request) other = absurd (other request refl)

-- COMMANDS

no_widget : (path : Word) (state : SiteValue) (asked : Asked) → number_of_path path state.paths ≡ None → outcome_at path state asked ≡ Err NoWidget
no_widget path state (Ok request) none = ap (λ o. at_widget o (λ place. widget_step path place state request)) none
no_widget path state (Err fault) none = ap (λ o. at_widget o (λ place. Err fault)) none

-- where there is no widget of the path
pub nowhere : (path : Word) (words : List Word) (old : SiteValue) → number_of_path path old.paths ≡ None → Gives path words old (Err NoWidget) old
nowhere path words old none =
    let reading = asked_some words in
    record {
      asked = reading.0;
      asks = reading.1;
      answers = at_once (outcome_at path old reading.0) old (Err NoWidget) (refl, inr (no_widget path old reading.0 none));
      none = λ h. (refl, refl);
    }

-- words that are refused, and words that ask for something; where memory was wanting before that was known, they ask for something too
pub refused_at : (path : Word) (place : ℕ) (words : List Word) (old : SiteValue) (asked : Asked) (fault : Fault) → number_of_path path old.paths ≡ Some place
    → Asks words asked ⊎ (asked ≡ Err NoMemory) → asked ≡ Err fault → Gives path words old (Err fault) old
refused_at path place words old asked fault found (inl asks) is = record {
  asked = Err fault;
  asks = subst (Asks words) is asks;
  answers = at_once (outcome_at path old (Err fault)) old (Err fault) (refl, inr (ap (λ o. at_widget o (λ place. Err fault)) found));
  none = λ h. absurd (cc (found, h));
}
refused_at path place words old asked fault found (inr none) is =
    let same : fault ≡ NoMemory = cc (is, none) in
    let reading = asked_some words in
    record {
      asked = reading.0;
      asks = reading.1;
      answers = at_once (outcome_at path old reading.0) old (Err fault) (refl, inl same);
      none = λ h. absurd (cc (found, h));
    }

pub asked_at : (path : Word) (place : ℕ) (words : List Word) (old new : SiteValue) (asked : Asked) (request : Request) (result : Result (List Word) Fault)
    → number_of_path path old.paths ≡ Some place → Asks words asked ⊎ (asked ≡ Err NoMemory) → asked ≡ Ok request
    → AnswersInTurn (widget_step path place old request) old result new → Gives path words old result new
asked_at path place words old new asked request result found (inl asks) is answers = record {
  asked = Ok request;
  asks = subst (Asks words) is asks;
  answers = subst (λ (o : Option ℕ). AnswersInTurn (at_widget o (λ place. widget_step path place old request)) old result new) (sym found) answers;
  none = λ h. absurd (cc (found, h));
}
asked_at path place words old new asked request result found (inr none) is answers = let no : ⊥ = cc (is, none) in absurd no
