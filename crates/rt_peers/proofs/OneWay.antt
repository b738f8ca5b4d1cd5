-- Calls for which no memory was wanting have one answer, and leave one state.
use Rattle.std.proofs.Common.{◌≡◌, ◌≢◌, ◌∙◌, ℕ, Bool, true, false, List, Ok, Err, Result, ap, inl, inr, refl, subst, sym}
use Rattle.std.specs.Prelude.{MatchBool}
use Rattle.rt_stamps.specs.declared.fault.Fault.{Fault}
use Rattle.rt_stamps.specs.declared.fault.Fault.TheVariants.{NoMemory}
use Rattle.rt_stamps.specs.Outcomes.{Answers}
use Rattle.rt_stamps.specs.Words.{Word}
use Rattle.rt_requests.specs.Asking.{Asked}
use Rattle.rt_requests.proofs.AskedOnce.{one_asked}
use Rattle.rt_recording.specs.EditedValue.{EditedValue}
use Rattle.rt_recording.specs.Edits.{text_with_new}
use Rattle.rt_holding.specs.declared.receiving.Received.{Received}
use Rattle.rt_holding.proofs.Finding.{files_find}
use Rattle.rt_holding.proofs.OneWay.{files_go, one_try}
use Rattle.rt_holding.specs.Receiving.{State as Holder}
use Rattle.rt_peers.specs.Memory.{GivesFoundMemory, ReceivingFindsMemory, ReceivingFoundMemory, RequestFoundMemory, TriesFoundMemory}
use Rattle.rt_peers.specs.SiteStep.{AnswersInTurn, Gives, KeepsOperations, MakesAndTries, SiteReceives, has_made, outcome_at, text_limit, text_log}
use Rattle.rt_peers.specs.SiteValue.{SiteValue, holding_of_site}
use Rattle.rt_peers.specs.ViewStep.{Outcome}

-- ANSWERS

abbrev got : {T : Type 0} → T → Result T Fault → T
got t (Ok value) = value
got t (Err fault) = t

abbrev fault_in : {T : Type 0} → Fault → Result T Fault → Fault
fault_in other (Ok value) = other
fault_in other (Err fault) = fault

answers_once : (outcome : Outcome SiteValue) (old : SiteValue) (one two : Result (List Word) Fault) (new left : SiteValue) → Answers outcome old one new → Answers outcome old two left
    → one ≢ Err NoMemory → two ≢ Err NoMemory → (one ≡ two) × (new ≡ left)
answers_once outcome old (Ok reply) (Ok other) new left h k f g =
    let same = ap (got (reply, new)) (sym h ∙ k) in (ap (λ (p : List Word × SiteValue). Ok p.0) same, ap (λ (p : List Word × SiteValue). p.1) same)
answers_once outcome old (Ok reply) (Err fault) new left h (e, inl none) f g = absurd (g (ap Err none))
answers_once outcome old (Ok reply) (Err fault) new left h (e, inr is) f g = absurd (cc (h, is))
answers_once outcome old (Err fault) (Ok reply) new left (e, inl none) k f g = absurd (f (ap Err none))
answers_once outcome old (Err fault) (Ok reply) new left (e, inr is) k f g = absurd (cc (k, is))
answers_once outcome old (Err fault) (Err other) new left (e, inl none) k f g = absurd (f (ap Err none))
answers_once outcome old (Err fault) (Err other) new left (e, inr is) (d, inl none) f g = absurd (g (ap Err none))
answers_once outcome old (Err fault) (Err other) new left (e, inr is) (d, inr also) f g =
    (ap (λ (o : Outcome SiteValue). Err (fault_in fault o)) (sym is ∙ also), e ∙ sym d)

-- REQUESTS

tries_once : (made : Bool) (old mid new left : SiteValue) (h : MatchBool made (MakesAndTries old mid new) (KeepsOperations old mid × (new ≡ mid)))
    (k : MatchBool made (MakesAndTries old mid left) (KeepsOperations old mid × (left ≡ mid)))
    → TriesFoundMemory made old mid new h → TriesFoundMemory made old mid left k → new ≡ left
tries_once true old mid new left h k f g =
    let one = one_try text_log text_limit text_with_new (text_limit mid.text) (holding_of_site mid) mid.text new.text left.text new.held left.held h.tries.count k.tries.count h.tries.tried k.tries.tried f g in
    let paths = h.tries.widgets ∙ sym k.tries.widgets in
    λ i. record { paths = paths i; text = one.0 i; held = one.1 i }
tries_once false old mid new left h k f g = h.1 ∙ sym k.1

pub requests_once : (outcome : Outcome SiteValue) (old : SiteValue) (one two : Result (List Word) Fault) (new left : SiteValue)
    (h : AnswersInTurn outcome old one new) (k : AnswersInTurn outcome old two left)
    → RequestFoundMemory outcome old one new h → RequestFoundMemory outcome old two left k → (one ≡ two) × (new ≡ left)
requests_once outcome old one two new left h k f g =
    let first = answers_once outcome old one two h.0 k.0 h.1 k.1 f.0 g.0 in
    let behind : new ≡ left = subst (λ (mid : SiteValue). (l : MatchBool (has_made old mid) (MakesAndTries old mid left) (KeepsOperations old mid × (left ≡ mid)))
    → TriesFoundMemory (has_made old mid) old mid left l → new ≡ left) first.1
    (λ l e. tries_once (has_made old h.0) old h.0 new left h.2 l f.1 e) k.2 g.1 in
    (first.0, behind)

-- COMMANDS

pub commands_once : (path : Word) (words : List Word) (old : SiteValue) (one two : Result (List Word) Fault) (new left : SiteValue)
    (h : Gives path words old one new) (k : Gives path words old two left)
    → GivesFoundMemory path words old one new h → GivesFoundMemory path words old two left k → (one ≡ two) × (new ≡ left)
commands_once path words old one two new left h k f g =
    let asked = one_asked words h.asked k.asked h.asks k.asks in
    subst (λ (a : Asked). (l : AnswersInTurn (outcome_at path old a) old two left) → RequestFoundMemory (outcome_at path old a) old two left l → (one ≡ two) × (new ≡ left)) asked
    (λ l e. requests_once (outcome_at path old h.asked) old one two new left h.answers l f e) k.answers g

-- A FILE

pub receiving_once : (bytes : List ℕ) (old : SiteValue) (received other : Received) (new left : SiteValue) (h : SiteReceives bytes old received new) (k : SiteReceives bytes old other left)
    → ReceivingFoundMemory bytes old received new h → ReceivingFoundMemory bytes old other left k → (received ≡ other) × (new ≡ left)
receiving_once bytes old received other new left h k f g =
    let one = files_go text_log text_limit text_with_new bytes (record { site = old.text; held = old.held }) received other
    (record { site = new.text; held = new.held }) (record { site = left.text; held = left.held }) h.text k.text f g in
    let paths = h.widgets ∙ sym k.widgets in
    (one.0, λ i. record { paths = paths i; text = (one.1 i).site; held = (one.1 i).held })

-- SUCH FILES ARE THERE

pub receiving_finds : ReceivingFindsMemory
receiving_finds bytes ops offsets ending old reads =
    let from : Holder EditedValue = record { site = old.text; held = old.held } in
    let found = files_find text_log text_limit text_with_new (λ op text new. (refl, refl)) bytes ops offsets ending from reads in
    let new : SiteValue = record old { text = found.1.site; held = found.1.held } in
    (found.0, new, record { text = found.2; widgets = refl }, found.3)
