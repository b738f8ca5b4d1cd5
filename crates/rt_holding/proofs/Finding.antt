-- Offers and files for which no memory is wanting are there.
use Rattle.std.proofs.Common.{◌≡◌, ◌≢◌, ◌∙◌, ℕ, Bool, true, false, List, [], ◌∷◌, length, take, Option, None, Ok, Some, cond, arith, ap, inl, inr, refl, subst, sym}
use Rattle.std.specs.Prelude.{◌+◌, ◌⊎◌, Result, Err}
use Rattle.rt_stamps.specs.declared.fault.Fault.{Fault}
use Rattle.rt_stamps.specs.declared.fault.Fault.TheVariants.{BadStamp, BadTarget, Conflict, NoMemory, NotYet}
use Rattle.rt_ops.specs.File.{record_of}
use Rattle.rt_ops.specs.declared.version.Version.{Version}
use Rattle.rt_ops.specs.Operations.{Operation}
use Rattle.rt_ops.specs.Reading.{Reads, ReadsAs, head_of, offsets_from}
use Rattle.rt_rga.specs.Answers.{Answer, New, Refused, Repeat, answer_to, answer_within, refused_if_full}
use Rattle.rt_rga.specs.Drafts.{with_operations}
use Rattle.rt_holding.specs.declared.held.Offered.{Offered}
use Rattle.rt_holding.specs.declared.held.Offered.TheVariants as offered
use Rattle.rt_holding.specs.declared.receiving.Received.{Received}
use Rattle.rt_holding.specs.Holding.{Holding, is_early, is_full, put_held, reply_to, settled, taken_then, with_taken}
use Rattle.rt_holding.specs.Memory.{FilesFindMemory, FoundMemory, OfferFoundMemory, OffersFindMemory, OffersFoundMemory, TakesNew}
use Rattle.rt_holding.specs.Receiving.{AtEnd, Offers, State, none_accepted, one_more, reply_at}
use Rattle.rt_holding.specs.Replies.{Reply}
use Rattle.rt_holding.specs.Replies as replies
use Rattle.rt_holding.specs.Runs.{AreTakenInTurn}
use Rattle.rt_holding.specs.Taken.{AreTried, IsOffered, all_after, site_holding, replied}
use Rattle.rt_holding.proofs.Came.{new_if, told}
use Rattle.rt_holding.proofs.Keeping.{is_new_true}
use Rattle.rt_holding.proofs.Settling.{Finds, settled_finds, taken_in_turn}

-- NO REPLY TELLS WANT OF MEMORY

abbrev is_memory : Fault → Bool
is_memory NoMemory = true
is_memory _ = false

abbrev answers_memory : Answer → Bool
answers_memory New = false
answers_memory Repeat = false
answers_memory (Refused fault) = is_memory fault

abbrev replies_memory : Reply → Bool
replies_memory replies.New = false
replies_memory replies.Repeat = false
replies_memory replies.Held = false
replies_memory (replies.Refused fault) = is_memory fault

by_tests : (bad had conflict early target gap : Bool)
    → answers_memory (cond bad (Refused BadStamp) (cond had Repeat (cond conflict (Refused Conflict)
    (cond early (Refused NotYet) (cond target (Refused BadTarget) (cond gap (Refused NotYet) New)))))) ≡ false
by_tests true had conflict early target gap = refl
by_tests false true conflict early target gap = refl
by_tests false false true early target gap = refl
by_tests false false false true target gap = refl
by_tests false false false false true gap = refl
by_tests false false false false false true = refl
by_tests false false false false false false = refl

if_full : (full : Bool) (a : Answer) → answers_memory a ≡ false → answers_memory (refused_if_full full a) ≡ false
if_full true New e = refl
if_full false New e = refl
if_full full Repeat e = refl
if_full full (Refused fault) e = e

no_answer : (limit : ℕ) (op : Operation) (log : List Operation) → answers_memory (answer_within limit op log) ≡ false
no_answer limit op log = if_full _ (answer_to op log) (by_tests _ _ _ _ _ _)

told_memory : (early held full : Bool) (a : Answer) → answers_memory a ≡ false → replies_memory (told early held full a) ≡ false
told_memory false held full New e = refl
told_memory false held full Repeat e = refl
told_memory false held full (Refused fault) e = e
told_memory true true full a e = refl
told_memory true false true a e = refl
told_memory true false false a e = refl

never_memory : (limit : ℕ) (op : Operation) (s : Holding) (fault : Fault) → reply_to limit op s ≡ replies.Refused fault → fault ≢ NoMemory
never_memory limit op s fault e n =
    let a = answer_within limit op s.log in
    let never : replies_memory (reply_to limit op s) ≡ false = told_memory (is_early a) _ (is_full s.held) a (no_answer limit op s.log) in
    let here : is_memory fault ≡ false = ap replies_memory (sym e) ∙ never in
    let there : is_memory fault ≡ true = ap is_memory n in
    cc (here, there)

-- EACH RECORD HAS AN OFFSET

offsets_length : (ver : Version) (at : ℕ) (ops : List Operation) → length (offsets_from ver at ops) ≡ length ops
offsets_length ver at [] = refl
offsets_length ver at (op ∷ ops) = omega (arith, offsets_length ver (at + length (record_of ver op)) ops)

reads_length : (bytes : List ℕ) (ops : List Operation) (offsets : List ℕ) (ending : Option (Fault × ℕ)) → Reads bytes ops offsets ending
    → length offsets ≡ length ops
reads_length bytes ops offsets ending h = by (head_of (take 8 bytes)) h
  where
    by : (found : Result Version Fault) → ReadsAs found bytes ops offsets ending → length offsets ≡ length ops
    by (Err found) r = ap length r.1 ∙ sym (ap length r.0)
    by (Ok ver) r = ap length r.3 ∙ offsets_length ver 8 ops

module _ {Site : Type 0} (log : Site → List Operation) (limit : Site → ℕ) (after : Operation → Site → Site) where
  -- what is taken one after the other comes to the log
  grown : TakesNew log limit after → (most : ℕ) (more : List Operation) (site : Site) → limit site ≡ most → AreTakenInTurn most (log site) more
      → log (all_after after more site) ≡ with_operations more (log site)
  grown t most [] site e a = refl
  grown t most (op ∷ more) site e a =
      let k = t op site (subst (λ m. answer_within m op (log site) ≡ New) (sym e) a.0) in
      let behind = grown t most more (after op site) (k.1 ∙ e) (subst (λ l. AreTakenInTurn most l more) (sym k.0) a.1) in
      behind ∙ ap (with_operations more) k.0

  -- tries behind an operation that is new
  abbrev Tries : Operation → State Site → Type 0
  Tries op old =
      (new : State Site) × (count : ℕ)
      × (h : AreTried log after (limit old.site) (with_taken op (site_holding log old.site old.held)) (after op old.site) new.site new.held count)
      × FoundMemory h.settles

  tries : TakesNew log limit after → (op : Operation) (old : State Site) → answer_within (limit old.site) op (log old.site) ≡ New → Tries op old
  tries t op old n =
      let most = limit old.site in
      let s = with_taken op (site_holding log old.site old.held) in
      let more = taken_then most s in
      let left = (settled most s).held in
      let found = settled_finds most s in
      let turn = taken_in_turn most [] more s (settled most s) found.0 in
      let k = t op old.site n in
      let new = all_after after more (after op old.site) in
      let g : log new ≡ with_operations more s.log =
      grown t most more (after op old.site) k.1 (subst (λ l. AreTakenInTurn most l more) (sym k.0) turn.1) ∙ ap (with_operations more) k.0 in
      let same : settled most s ≡ site_holding log new left = λ i. record { log = (turn.0 ∙ sym g) i; held = left } in
      let there = subst (λ u. Finds most s u more) same found in
      (record { site = new; held = left }, length more, record { more = more; settles = there.0; each = refl; counted = refl }, there.1)

  -- an offer that isn't refused, and each try behind it found memory
  abbrev Goes : Operation → State Site → Type 0
  Goes op old =
      (answer : Offered) × (new : State Site) × (reply_at log limit after op old ≡ replied (Ok answer))
      × (h : IsOffered log after (limit old.site) op answer old.site old.held new.site new.held)
      × OfferFoundMemory log limit after (limit old.site) op answer old.site old.held new.site new.held h

  abbrev Refuses : Operation → State Site → Type 0
  Refuses op old = (fault : Fault) × (reply_at log limit after op old ≡ replies.Refused fault) × (fault ≢ NoMemory)

  either : TakesNew log limit after → (op : Operation) (old : State Site) (reply : Reply) → reply_at log limit after op old ≡ reply
      → Refuses op old ⊎ Goes op old
  either t op old replies.New e =
      let a = answer_within (limit old.site) op (log old.site) in
      let k = tries t op old (is_new_true a (new_if (is_early a) _ (is_full old.held) a e)) in
      inr (offered.New k.1, k.0, e, k.2, k.3)
  either t op old replies.Repeat e = inr (offered.Repeat, old, e, (refl, refl), tt)
  either t op old replies.Held e = inr (offered.Held, record { site = old.site; held = put_held op old.held }, e, (refl, refl), tt)
  either t op old (replies.Refused fault) e = inl (fault, e, never_memory (limit old.site) op (site_holding log old.site old.held) fault e)

  pub offers_find : OffersFindMemory log limit after
  offers_find t op old n = elim (either t op old (reply_at log limit after op old) refl) [ inl r ↦ absurd (n r.0 r.1) | inr g ↦ g ]

  all_find : TakesNew log limit after → (ops : List Operation) (offsets : List ℕ) (ending : Option (Fault × ℕ)) (old : State Site)
      → length offsets ≡ length ops
      → (received : Received) × (new : State Site) × (h : Offers log limit after ops offsets (AtEnd ending) old received new)
      × OffersFoundMemory log limit after ops offsets (AtEnd ending) old received new h
  all_find t [] offsets ending old l = (none_accepted ending old.held, old, record { told = ending; ends = refl; counted = refl; same = refl }, tt)
  all_find t (op ∷ ops) [] ending old l = absurd (omega (arith, l))
  all_find t (op ∷ ops) (offset ∷ offsets) ending old l = elim (either t op old (reply_at log limit after op old) refl) [
    | inl r ↦ (none_accepted (Some (r.0, offset)) old.held, old, inl (record { fault = r.0; refused = inl r.1; counted = refl; same = refl }), r.2)
    | inr g ↦ (let behind = all_find t ops offsets ending g.1 (omega (arith, l)) in (
      one_more g.0 behind.0,
      behind.1,
      inr (record {
        offered = g.0;
        next = g.1;
        rest = behind.0;
        reply = g.2;
        is_offered = g.3;
        counted = refl;
        others = behind.2;
      }),
      (g.4, behind.3),
    ))
  ]

  pub files_find : FilesFindMemory log limit after
  files_find t bytes ops offsets ending old reads =
      let k = all_find t ops offsets ending old (reads_length bytes ops offsets ending reads) in
      (k.0, k.1, record { ops = ops; offsets = offsets; behind = AtEnd ending; read = reads; offers = k.2 }, k.3)
