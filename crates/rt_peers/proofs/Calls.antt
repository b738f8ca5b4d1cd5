-- Each call of a site accepts nothing, or makes operations of its own, or receives a file; so the site lives on.
use Rattle.std.proofs.Common.{◌≡◌, ◌∙◌, ℕ, Bool, true, false, List, [], Option, None, Some, Ok, Err, Result, inl, inr, ap, arith, length, refl, subst, sym}
use Rattle.std.specs.Prelude.{MatchBool}
use Rattle.std.proofs.lemmas.List.{append-nil}
use Rattle.rt_stamps.specs.declared.fault.Fault.{Fault}
use Rattle.rt_stamps.specs.Outcomes.{Answers}
use Rattle.rt_stamps.specs.Words.{Word}
use Rattle.rt_requests.specs.declared.options.NamedOption.{NamedOption}
use Rattle.rt_requests.specs.declared.peers.PeerRequest.{PeerRequest}
use Rattle.rt_requests.specs.declared.peers.PeerRequest.TheVariants.{Create, Names}
use Rattle.rt_requests.specs.declared.request.Request.{Request}
use Rattle.rt_requests.specs.declared.request.Request.TheVariants.{Cget, Configure, Peer}
use Rattle.rt_requests.specs.declared.settings.WidgetSettings.{WidgetSettings}
use Rattle.rt_ops.specs.Operations.{Operation}
use Rattle.rt_text.specs.Limited.{view_limited, with_peer}
use Rattle.rt_recording.specs.EditedValue.{EditedValue}
use Rattle.rt_recording.proofs.Outcomes.{given}
use Rattle.rt_holding.specs.declared.receiving.Received.{Received}
use Rattle.rt_peers.specs.Lives.{IsOfFile, KeepsOrMakes, Lives, LivesOn, came_to, keeps, made_by, makes, receives}
use Rattle.rt_peers.specs.Options.{choice_of, option_step, settings_step, text_set}
use Rattle.rt_peers.specs.Peers.{text_led, with_widget, without_widget}
use Rattle.rt_peers.specs.PeerStep.{created, destroyed, destroyed_at, last_check, path_check, peer_step, text_with_peer}
use Rattle.rt_peers.specs.Reading.{reads}
use Rattle.rt_peers.specs.SiteStep.{AnswersInTurn, Gives, KeepsOperations, MakesAndTries, SiteReceives, at_widget, by_widget, step_at}
use Rattle.rt_peers.specs.SiteValue.{SiteValue, number_of_path}
use Rattle.rt_peers.specs.ViewStep.{Outcome, as_outcome, changed_step, one_word}
use Rattle.rt_peers.proofs.OptionLaws.{configured_is, limited_leaves, one_more}
use Rattle.rt_peers.proofs.Coming.{file_of, made_of}
use Rattle.rt_peers.proofs.InTurn.{all_kept, left_kept, made_none}
use Rattle.rt_peers.proofs.ReadingLaws.{told_leaves}

-- CALLS THAT ACCEPT NOTHING

pub kept_on : (IsOther : Operation → Type 0) (old new : SiteValue) → KeepsOperations old new → LivesOn IsOther old new
kept_on IsOther old new k site limit came l = ([], subst (Lives site limit new) (sym (append-nil came)) (keeps l k), λ op i. absurd i)

-- so it goes on where nothing is accepted, and where operations are made
pub goes_on : (IsOther : Operation → Type 0) (old new : SiteValue) → KeepsOrMakes old new → LivesOn IsOther old new
goes_on IsOther old new (inl k) site limit came l = kept_on IsOther old new k site limit came l
goes_on IsOther old new (inr m) site limit came l = (made_by m.1, makes l m.1, λ op i. inl (made_of site limit old m.0 new came m.1 l op i))

pub same_keeps : (old new : SiteValue) → new ≡ old → KeepsOperations old new
same_keeps old new e = subst (KeepsOperations old) (sym e) (all_kept old)

doc_keeps : (old new : SiteValue) → new.text.view.doc ≡ old.text.view.doc → new.held ≡ old.held → KeepsOperations old new
doc_keeps old new e h = record { log = ap (λ d. d.log) e; held = h; site = ap (λ d. d.site) e; limit = ap (λ d. d.limit) e }

-- WHAT AN OUTCOME LEAVES

abbrev left_in : {S : Type 0} → Outcome S → S → S
left_in (Ok answer) none = answer.1
left_in (Err fault) none = none

abbrev value_in : {S : Type 0} → Result S Fault → S → S
value_in (Ok value) none = value
value_in (Err fault) none = none

changed_is : {S : Type 0} (said : Result S Fault) (words : List Word) (new : S) → changed_step said ≡ Ok (words, new) → said ≡ Ok new
changed_is {S} (Ok value) words new h = ap (λ (o : Outcome S). Ok (left_in o value)) h
changed_is (Err fault) words new h = absurd (cc h)

-- ONE WIDGET

-- the document stays
abbrev StaysBy : (EditedValue → Outcome EditedValue) → Type 0
StaysBy does = (text after : EditedValue) (words : List Word) → does text ≡ Ok (words, after) → after.view.doc ≡ text.view.doc

led_keeps : (place : ℕ) (state new : SiteValue) (words : List Word) (outcome : Outcome EditedValue)
    → ((after : EditedValue) (words : List Word) → outcome ≡ Ok (words, after) → after.view.doc ≡ state.text.view.doc)
    → as_outcome (λ answer. (answer.0, record state { text = text_led place answer.1 })) outcome ≡ Ok (words, new) → KeepsOperations state new
led_keeps place state new words (Ok answer) stays h =
    let is : record state { text = text_led place answer.1 } ≡ new = ap (λ (o : Outcome SiteValue). left_in o state) h in
    subst (KeepsOperations state) is (doc_keeps state (record state { text = text_led place answer.1 }) (stays answer.1 answer.0 refl) refl)
led_keeps place state new words (Err fault) stays h = absurd (cc h)

by_keeps : (place : ℕ) (state new : SiteValue) (does : EditedValue → Outcome EditedValue) (result : Result (List Word) Fault) → StaysBy does
    → Answers (by_widget place state does) state result new → KeepsOperations state new
by_keeps place state new does (Ok words) stays h = led_keeps place state new words (does (text_led place state.text)) (λ after said e. stays (text_led place state.text) after said e) h
by_keeps place state new does (Err fault) stays h = same_keeps state new h.0

-- what is so where nothing changes, and by the widget at each place, is so
at_each : (found : Option ℕ) (does : ℕ → Outcome SiteValue) (state new : SiteValue) (result : Result (List Word) Fault) (P : Type 0) → (new ≡ state → P)
    → ((place : ℕ) → Answers (does place) state result new → P) → Answers (at_widget found does) state result new → P
at_each None does state new (Ok words) P same each h = absurd (cc h)
at_each None does state new (Err fault) P same each h = same h.0
at_each (Some place) does state new result P same each h = each place h

at_keeps : (found : Option ℕ) (does : ℕ → Outcome SiteValue) (state new : SiteValue) (result : Result (List Word) Fault)
    → ((place : ℕ) → Answers (does place) state result new → KeepsOperations state new) → Answers (at_widget found does) state result new → KeepsOperations state new
at_keeps found does state new result each h = at_each found does state new result (KeepsOperations state new) (same_keeps state new) each h

-- OPTIONS

set_stays : (settings : WidgetSettings) → StaysBy (λ text. settings_step text settings)
set_stays settings text after words h =
    let start = choice_of settings.start_line in
    let end = choice_of settings.end_line in
    sym (limited_leaves text.view after.view start end (configured_is text after settings.shared (view_limited text.view start end) (changed_is (text_set text settings) words after h))).0

told_stays : (option : NamedOption) → StaysBy (λ text. option_step text option)
told_stays option text after words h = ap (λ (o : Outcome EditedValue). (left_in o text).view.doc) (sym h)

-- PEERS

made_keeps : (place : ℕ) (path : Word) (state new : SiteValue) (words : List Word) (said : Result EditedValue Fault)
    → ((text : EditedValue) → said ≡ Ok text → text.view.doc ≡ state.text.view.doc)
    → as_outcome (λ text. (one_word path, with_widget place path state text)) said ≡ Ok (words, new) → KeepsOperations state new
made_keeps place path state new words (Ok text) stays h =
    let is : with_widget place path state text ≡ new = ap (λ (o : Outcome SiteValue). left_in o state) h in
    subst (KeepsOperations state) is (doc_keeps state (with_widget place path state text) (stays text refl) refl)
made_keeps place path state new words (Err fault) stays h = absurd (cc h)

created_keeps : (place : ℕ) (path : Word) (state new : SiteValue) (settings : WidgetSettings) (check : Option Fault) (words : List Word)
    → created place path state settings check ≡ Ok (words, new) → KeepsOperations state new
created_keeps place path state new settings (Some fault) words h = absurd (cc h)
created_keeps place path state new settings None words h =
    let led = text_led place state.text in
    let start = choice_of settings.start_line in
    let end = choice_of settings.end_line in
    made_keeps place path state new words (text_with_peer led settings)
    (λ text e. sym (one_more led.view text.view start end (configured_is led text settings.shared (with_peer led.view start end) e)).0) h

pub peer_keeps : (path : Word) (place : ℕ) (state new : SiteValue) (request : PeerRequest) (result : Result (List Word) Fault)
    → Answers (peer_step path place state request) state result new → KeepsOperations state new
peer_keeps path place state new (Create name settings) (Ok words) h = created_keeps place name state new settings (path_check name state.paths) words h
peer_keeps path place state new Names (Ok words) h = same_keeps state new (ap (λ (o : Outcome SiteValue). left_in o state) (sym h))
peer_keeps path place state new request (Err fault) h = same_keeps state new h.0

-- so it is answered in turn, with no try behind
pub peers_answer : (path : Word) (place : ℕ) (state new : SiteValue) (request : PeerRequest) (result : Result (List Word) Fault)
    → Answers (peer_step path place state request) state result new → AnswersInTurn (peer_step path place state request) state result new
peers_answer path place state new request result h =
    let keeps = peer_keeps path place state new request result h in
    let same = ap length keeps.log in
    made_none (peer_step path place state request) state new result h (omega (arith, same)) keeps

destroyed_keeps : (found : Option ℕ) (state new : SiteValue) → destroyed_at found state ≡ Ok new → KeepsOperations state new
destroyed_keeps None state new h = absurd (cc h)
destroyed_keeps (Some place) state new h =
    subst (KeepsOperations state) (given (last_check state.paths) (without_widget place state) new h) (doc_keeps state (without_widget place state) refl refl)

-- REQUESTS

tried : (b : Bool) (old mid new : SiteValue) → MatchBool b (MakesAndTries old mid new) (KeepsOperations old mid × (new ≡ mid)) → KeepsOrMakes old new
tried true old mid new h = inr (mid, h)
tried false old mid new h = inl (subst (KeepsOperations old) (sym h.1) h.0)

pub answered : (outcome : Outcome SiteValue) (old new : SiteValue) (result : Result (List Word) Fault) → AnswersInTurn outcome old result new → KeepsOrMakes old new
answered outcome old new result h = tried _ old h.0 new h.2

-- what accepts nothing when it is answered, accepts nothing
kept_in_turn : (outcome : Outcome SiteValue) (old new : SiteValue) (result : Result (List Word) Fault) → ((mid : SiteValue) → Answers outcome old result mid → KeepsOperations old mid)
    → AnswersInTurn outcome old result new → KeepsOperations old new
kept_in_turn outcome old new result each h =
    let k = each h.0 h.1 in
    subst (KeepsOperations old) (sym (left_kept old h.0 new k h.2)) k

pub settings_kept : (path : Word) (settings : WidgetSettings) (old new : SiteValue) (result : Result (List Word) Fault)
    → AnswersInTurn (step_at path old (Configure settings)) old result new → KeepsOperations old new
settings_kept path settings old new result h =
    kept_in_turn (step_at path old (Configure settings)) old new result
    (λ mid a. at_keeps (number_of_path path old.paths) (λ place. by_widget place old (λ text. settings_step text settings)) old mid result
    (λ place b. by_keeps place old mid (λ text. settings_step text settings) result (set_stays settings) b) a) h

pub option_kept : (path : Word) (option : NamedOption) (old new : SiteValue) (result : Result (List Word) Fault)
    → AnswersInTurn (step_at path old (Cget option)) old result new → KeepsOperations old new
option_kept path option old new result h =
    kept_in_turn (step_at path old (Cget option)) old new result
    (λ mid a. at_keeps (number_of_path path old.paths) (λ place. by_widget place old (λ text. option_step text option)) old mid result
    (λ place b. by_keeps place old mid (λ text. option_step text option) result (told_stays option) b) a) h

-- a request that only reads leaves the site as it was
pub reads_leaves : (path : Word) (request : Request) (old new : SiteValue) (result : Result (List Word) Fault) → reads request ≡ true
    → AnswersInTurn (step_at path old request) old result new → new ≡ old
reads_leaves path request old new result r h =
    let mid : SiteValue = h.0 in
    let told = told_leaves path request old mid result r h.1 in
    left_kept old mid new (same_keeps old mid told) h.2 ∙ told

pub peers_kept : (path : Word) (request : PeerRequest) (old new : SiteValue) (result : Result (List Word) Fault)
    → AnswersInTurn (step_at path old (Peer request)) old result new → KeepsOperations old new
peers_kept path request old new result h =
    kept_in_turn (step_at path old (Peer request)) old new result
    (λ mid a. at_keeps (number_of_path path old.paths) (λ place. peer_step path place old request) old mid result
    (λ place b. peer_keeps path place old mid request result b) a) h

pub destroyed_kept : (path : Word) (old new : SiteValue) → destroyed path old ≡ Ok new → KeepsOperations old new
destroyed_kept path old new h = destroyed_keeps (number_of_path path old.paths) old new h

-- COMMANDS

pub given_by : (path : Word) (words : List Word) (old new : SiteValue) (result : Result (List Word) Fault) → Gives path words old result new → KeepsOrMakes old new
given_by path words old new result h = answered _ old new result h.answers

-- LIVES

pub gives_on : (IsOther : Operation → Type 0) (path : Word) (words : List Word) (old new : SiteValue) (result : Result (List Word) Fault) → Gives path words old result new
    → LivesOn IsOther old new
gives_on IsOther path words old new result h = goes_on IsOther old new (given_by path words old new result h)

pub destroyed_on : (IsOther : Operation → Type 0) (path : Word) (old new : SiteValue) → destroyed path old ≡ Ok new → LivesOn IsOther old new
destroyed_on IsOther path old new h = kept_on IsOther old new (destroyed_kept path old new h)

pub received_on : (bytes : List ℕ) (received : Received) (old new : SiteValue) → SiteReceives bytes old received new → LivesOn (IsOfFile bytes) old new
received_on bytes received old new h site limit came l =
    (came_to bytes old received new h, receives bytes received l h, λ op i. inr (file_of bytes old new received h op i))
