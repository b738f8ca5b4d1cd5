-- Calls of a site, one after the other: where no memory was wanting each has one answer; and by any calls a site lives on.
use Rattle.std.proofs.Common.{◌≡◌, ◌∙◌, ◌⊎◌, List, [], ◌∷◌, ◌++◌, Ok, Err, Result, ap, append_assoc, inl, inr, refl, subst, sym}
use Rattle.std.specs.List.{Contains}
use Rattle.std.proofs.lemmas.List.Elements.{Contains-append_left, Contains-append_right, Contains-push}
use Rattle.rt_stamps.specs.declared.fault.Fault.{Fault}
use Rattle.rt_stamps.specs.Words.{Word}
use Rattle.rt_ops.specs.Operations.{Operation}
use Rattle.rt_oplog.specs.Logs.{HasOp}
use Rattle.rt_peers.specs.Events.{Answer, Command, Destroy, Event, EventFoundMemory, EventGives, EventsFoundMemory, EventsGive, IsOfReceived, OfFile, Receive, Replied, EventAnswer}
use Rattle.rt_peers.specs.PeerStep.{Destroys}
use Rattle.rt_peers.specs.Lives.{IsOfFile, Lives, LivesOn}
use Rattle.rt_peers.specs.SiteStep.{step_at}
use Rattle.rt_peers.specs.SiteValue.{SiteValue}
use Rattle.rt_peers.proofs.Calls.{answered, destroyed_on, gives_on, goes_on, kept_on, received_on, same_keeps}
use Rattle.rt_peers.proofs.OneWay.{commands_once, receiving_once, requests_once}

-- ONE EVENT

destroys_once : (path : Word) (old : SiteValue) (one two : Result (List Word) Fault) (new left : SiteValue) → Destroys path old one new → Destroys path old two left → (one ≡ two) × (new ≡ left)
destroys_once path old (Ok reply) (Ok other) new left h k = (ap Ok (h.reply ∙ sym k.reply), cc (h.ok, k.ok))
destroys_once path old (Ok reply) (Err fault) new left h k = absurd (cc (h.ok, k.err))
destroys_once path old (Err fault) (Ok reply) new left h k = absurd (cc (h.err, k.ok))
destroys_once path old (Err fault) (Err other) new left h k = (cc (h.err, k.err), h.unchanged ∙ sym k.unchanged)

-- one result is one that is told
replied_once : (one two : Result (List Word) Fault) (new left : SiteValue) → (one ≡ two) × (new ≡ left) → (Replied one ≡ Replied two) × (new ≡ left)
replied_once one two new left same = (ap Replied same.0, same.1)

event_once : (event : Event) (old : SiteValue) (one two : EventAnswer) (new left : SiteValue) (h : EventGives event old one new) (k : EventGives event old two left)
    → EventFoundMemory event old one new h → EventFoundMemory event old two left k → (one ≡ two) × (new ≡ left)
event_once (Command path words) old (Replied a) (Replied b) new left h k f g = replied_once a b new left (commands_once path words old a b new left h k f g)
event_once (Answer path request) old (Replied a) (Replied b) new left h k f g =
    replied_once a b new left (requests_once (step_at path old request) old a b new left h k f g)
event_once (Destroy path) old (Replied a) (Replied b) new left h k f g = replied_once a b new left (destroys_once path old a b new left h k)
event_once (Receive bytes) old (OfFile a) (OfFile b) new left h k f g =
    let same = receiving_once bytes old a b new left h k f g in (ap OfFile same.0, same.1)
event_once (Receive bytes) old (OfFile a) (Replied b) new left h k f g = absurd k
event_once (Receive bytes) old (Replied a) two new left h k f g = absurd h
event_once event old (OfFile a) two new left h k f g = absurd h
event_once event old one (OfFile b) new left h k f g = absurd k

-- EVENTS

pub events_once : (events : List Event) (one two : List EventAnswer) (old new left : SiteValue) (h : EventsGive events old one new) (k : EventsGive events old two left)
    → EventsFoundMemory events old one new h → EventsFoundMemory events old two left k → (one ≡ two) × (new ≡ left)
events_once [] [] [] old new left h k f g = (refl, h ∙ sym k)
events_once [] [] (b ∷ two) old new left h k f g = absurd k
events_once [] (a ∷ one) two old new left h k f g = absurd h
events_once (event ∷ events) [] two old new left h k f g = absurd h
events_once (event ∷ events) (a ∷ one) [] old new left h k f g = absurd k
events_once (event ∷ events) (a ∷ one) (b ∷ two) old new left h k f g =
    let here = event_once event old a b h.0 k.0 h.1 k.1 f.0 g.0 in
    let behind = subst (λ (s : SiteValue). (l : EventsGive events s two left) → EventsFoundMemory events s two left l → (one ≡ two) × (new ≡ left)) here.1
    (λ l e. events_once events one two h.0 new left h.2 l f.1 e) k.2 g.1 in
    (λ i. here.0 i ∷ behind.0 i, behind.1)

-- LIVES

-- one of some operations, or of others
pub either_of : (P : Operation → Type 0) (ops more : List Operation) → ((op : Operation) → HasOp ops op → P op) → ((op : Operation) → HasOp more op → P op)
    → (op : Operation) → HasOp (ops ++ more) op → P op
either_of P [] more f g op h = g op h
either_of P (q ∷ ops) more f g op (inl e) = f op (inl e)
either_of P (q ∷ ops) more f g op (inr i) = either_of P ops more (λ x j. f x (inr j)) g op i

pub then_on : (IsOther : Operation → Type 0) (old mid new : SiteValue) → LivesOn IsOther old mid → LivesOn IsOther mid new → LivesOn IsOther old new
then_on IsOther old mid new f g site limit came l =
    let one = f site limit came l in
    let two = g site limit (came ++ one.0) one.1 in (
      one.0 ++ two.0,
      subst (Lives site limit new) (append_assoc came one.0 two.0) two.1,
      either_of (λ op. (op.site ≡ site) ⊎ IsOther op) one.0 two.0 one.2 two.2,
    )

-- more is known of the others
pub known_on : (P Q : Operation → Type 0) (old new : SiteValue) → ((op : Operation) → P op → Q op) → LivesOn P old new → LivesOn Q old new
known_on P Q old new w f site limit came l =
    let one = f site limit came l in (one.0, one.1, λ op i. elim (one.2 op i) [ inl e ↦ inl e | inr p ↦ inr (w op p) ])

-- the first of some events is one of them, and so is each later one
is_first : (event : Event) (events : List Event) → Contains (event ∷ events) event
is_first event events = Contains-append_left (event ∷ []) events event (Contains-push [] event)

is_later : (first : Event) (events : List Event) (event : Event) → Contains events event → Contains (first ∷ events) event
is_later first events event h = Contains-append_right (first ∷ []) events event h

destroys_on : (IsOther : Operation → Type 0) (path : Word) (old new : SiteValue) (result : Result (List Word) Fault) → Destroys path old result new → LivesOn IsOther old new
destroys_on IsOther path old new (Ok reply) h = destroyed_on IsOther path old new h.ok
destroys_on IsOther path old new (Err fault) h = kept_on IsOther old new (same_keeps old new h.unchanged)

event_on : (event : Event) (events : List Event) (old new : SiteValue) (told : EventAnswer) → EventGives event old told new → LivesOn (IsOfReceived (event ∷ events)) old new
event_on (Command path words) events old new (Replied result) h = gives_on _ path words old new result h
event_on (Answer path request) events old new (Replied result) h = goes_on _ old new (answered (step_at path old request) old new result h)
event_on (Destroy path) events old new (Replied result) h = destroys_on _ path old new result h
event_on (Receive bytes) events old new (OfFile received) h =
    known_on (IsOfFile bytes) (IsOfReceived (Receive bytes ∷ events)) old new (λ op i. (bytes, is_first (Receive bytes) events, i)) (received_on bytes received old new h)
event_on event events old new told h = absurd h

pub events_on : (events : List Event) (told : List EventAnswer) (old new : SiteValue) → EventsGive events old told new → LivesOn (IsOfReceived events) old new
events_on [] [] old new h = kept_on _ old new (same_keeps old new h)
events_on [] (told ∷ more) old new h = absurd h
events_on (event ∷ events) [] old new h = absurd h
events_on (event ∷ events) (told ∷ more) old new h =
    then_on (IsOfReceived (event ∷ events)) old h.0 new (event_on event events old h.0 told h.1)
    (known_on (IsOfReceived events) (IsOfReceived (event ∷ events)) h.0 new (λ op i. (i.0, is_later event events (Receive i.0) i.1, i.2)) (events_on events more h.0 new h.2))
