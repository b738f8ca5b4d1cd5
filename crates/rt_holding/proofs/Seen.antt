-- A site that receives a file, seen as another; and which operations it takes.
use Rattle.std.proofs.Common.{◌≡◌, ◌∙◌, ◌++◌, ℕ, List, [], ◌∷◌, Ok, ap, inl, inr, refl, subst, sym}
use Rattle.rt_ops.specs.Operations.{Operation}
use Rattle.rt_oplog.specs.Logs.{holds, with_operation}
use Rattle.rt_rga.specs.Answers.{New, answer_within}
use Rattle.rt_rga.specs.Drafts.{with_operations}
use Rattle.rt_holding.specs.declared.held.Offered.{Offered}
use Rattle.rt_holding.specs.declared.held.Offered.TheVariants as offered
use Rattle.rt_holding.specs.declared.receiving.Received.{Received}
use Rattle.rt_holding.specs.Holding.{Holding, is_early, is_full, is_new, with_taken}
use Rattle.rt_holding.specs.Memory.{TakesNew}
use Rattle.rt_holding.specs.Receiving.{Behind, Offers, State}
use Rattle.rt_holding.specs.Runs.{AreTakenInTurn}
use Rattle.rt_holding.specs.Seeing.{FilesAreSeen, FilesAreTaken, BecameByTaking, seen_as}
use Rattle.rt_holding.specs.Taken.{AreTried, IsOffered, all_after, site_holding, replied}
use Rattle.rt_holding.proofs.Came.{new_if}
use Rattle.rt_holding.proofs.Keeping.{is_new_true}
use Rattle.rt_holding.proofs.Settling.{taken_in_turn}

-- SEEN AS ANOTHER

module _ {Site Seen : Type 0} (see : Site → Seen) (log : Seen → List Operation) (limit : Seen → ℕ) (after : Operation → Site → Site)
    (seen_after : Operation → Seen → Seen) (same : (op : Operation) (site : Site) → see (after op site) ≡ seen_after op (see site)) where
  abbrev log_of : Site → List Operation
  log_of site = log (see site)

  abbrev limit_of : Site → ℕ
  limit_of site = limit (see site)

  all_seen : (ops : List Operation) (site : Site) → see (all_after after ops site) ≡ all_after seen_after ops (see site)
  all_seen [] site = refl
  all_seen (op ∷ ops) site = all_seen ops (after op site) ∙ ap (all_after seen_after ops) (same op site)

  tried_seen : (most : ℕ) (state : Holding) (first new : Site) (left : List Operation) (count : ℕ)
      → AreTried log_of after most state first new left count → AreTried log seen_after most state (see first) (see new) left count
  tried_seen most state first new left count h = record { more = h.more; settles = h.settles; each = ap see h.each ∙ all_seen h.more first; counted = h.counted }

  offered_seen : (most : ℕ) (op : Operation) (o : Offered) (old : Site) (held : List Operation) (new : Site) (left : List Operation)
      → IsOffered log_of after most op o old held new left → IsOffered log seen_after most op o (see old) held (see new) left
  offered_seen most op (offered.New more) old held new left h =
      subst (λ (s : Seen). AreTried log seen_after most (with_taken op (site_holding log (see old) held)) s (see new) left more) (same op old)
      (tried_seen most (with_taken op (site_holding log (see old) held)) (after op old) new left more h)
  offered_seen most op offered.Repeat old held new left h = (ap see h.0, h.1)
  offered_seen most op offered.Held old held new left h = (ap see h.0, h.1)

  offers_seen : (ops : List Operation) (offsets : List ℕ) (behind : Behind) (old : State Site) (received : Received) (new : State Site)
      → Offers log_of limit_of after ops offsets behind old received new
      → Offers log limit seen_after ops offsets behind (seen_as see old) received (seen_as see new)
  offers_seen [] offsets behind old received new h = record { told = h.told; ends = h.ends; counted = h.counted; same = ap (seen_as see) h.same }
  offers_seen (op ∷ ops) [] behind old received new h = absurd h
  offers_seen (op ∷ ops) (offset ∷ offsets) behind old received new (inl h) =
      inl (record { fault = h.fault; refused = h.refused; counted = h.counted; same = ap (seen_as see) h.same })
  offers_seen (op ∷ ops) (offset ∷ offsets) behind old received new (inr h) =
      inr (record {
        offered = h.offered;
        next = seen_as see h.next;
        rest = h.rest;
        reply = h.reply;
        is_offered = offered_seen (limit_of old.site) op h.offered old.site old.held h.next.site h.next.held h.is_offered;
        counted = h.counted;
        others = offers_seen ops offsets behind h.next h.rest new h.others;
      })

pub files_seen : {Site Seen : Type 0} (see : Site → Seen) (log : Seen → List Operation) (limit : Seen → ℕ)
    (after : Operation → Site → Site) (seen_after : Operation → Seen → Seen) → FilesAreSeen see log limit after seen_after
files_seen see log limit after seen_after same bytes old received new h = record {
  ops = h.ops;
  offsets = h.offsets;
  behind = h.behind;
  read = h.read;
  offers = offers_seen see log limit after seen_after same h.ops h.offsets h.behind old received new h.offers;
}

-- WHICH ARE TAKEN

-- some that are taken behind others
turn_then : (most : ℕ) (ops more log : List Operation) → AreTakenInTurn most log ops → AreTakenInTurn most (with_operations ops log) more → AreTakenInTurn most log (ops ++ more)
turn_then most [] more log h k = k
turn_then most (op ∷ ops) more log h k = (h.0, turn_then most ops more (with_operation op log) h.1 k)

module _ {Site : Type 0} (log : Site → List Operation) (limit : Site → ℕ) (after : Operation → Site → Site) (takes : TakesNew log limit after) where
  all_then : (ops more : List Operation) (site : Site) → all_after after (ops ++ more) site ≡ all_after after more (all_after after ops site)
  all_then [] more site = refl
  all_then (op ∷ ops) more site = all_then ops more (after op site)

  -- the log gains those that are taken in turn, and the limit stays
  all_taken : (ops : List Operation) (site : Site) → AreTakenInTurn (limit site) (log site) ops
      → (log (all_after after ops site) ≡ with_operations ops (log site)) × (limit (all_after after ops site) ≡ limit site)
  all_taken [] site turn = (refl, refl)
  all_taken (op ∷ ops) site turn =
      let one = takes op site turn.0 in
      let more = all_taken ops (after op site)
      (subst (λ (n : ℕ). AreTakenInTurn n (log (after op site)) ops) (sym one.1) (subst (λ (l : List Operation). AreTakenInTurn (limit site) l ops) (sym one.0) turn.1)) in
      (more.0 ∙ ap (with_operations ops) one.0, more.1 ∙ one.1)

  abbrev Took : Site → Site → Type 0
  Took old new = BecameByTaking log limit after old new

  took_none : (old new : Site) → new ≡ old → Took old new
  took_none old new e = record { ops = []; turn = tt; each = e }

  took_then : (old mid new : Site) → Took old mid → Took mid new → Took old new
  took_then old mid new h k =
      let all = all_taken h.ops old h.turn in
      let limits : limit mid ≡ limit old = ap limit h.each ∙ all.1 in
      let logs : log mid ≡ with_operations h.ops (log old) = ap log h.each ∙ all.0 in
      record {
        ops = h.ops ++ k.ops;
        turn = turn_then (limit old) h.ops k.ops (log old) h.turn
            (subst (λ (n : ℕ). AreTakenInTurn n (with_operations h.ops (log old)) k.ops) limits
            (subst (λ (l : List Operation). AreTakenInTurn (limit mid) l k.ops) logs k.turn));
        each = k.each ∙ ap (all_after after k.ops) h.each ∙ sym (all_then h.ops k.ops old);
      }

  offered_took : (op : Operation) (o : Offered) (old : Site) (held : List Operation) (new : Site) (left : List Operation)
      → Rattle.rt_holding.specs.Holding.reply_to (limit old) op (site_holding log old held) ≡ replied (Ok o)
      → IsOffered log after (limit old) op o old held new left → Took old new
  offered_took op (offered.New more) old held new left e h =
      let a = answer_within (limit old) op (log old) in
      let now = is_new_true a (new_if (is_early a) (holds held op) (is_full held) a e) in
      record {
        ops = op ∷ h.more;
        turn = (now, (taken_in_turn (limit old) [] h.more (with_taken op (site_holding log old held)) (site_holding log new left) h.settles).1);
        each = h.each;
      }
  offered_took op offered.Repeat old held new left e h = took_none old new h.0
  offered_took op offered.Held old held new left e h = took_none old new h.0

  offers_took : (ops : List Operation) (offsets : List ℕ) (behind : Behind) (old : State Site) (received : Received) (new : State Site)
      → Offers log limit after ops offsets behind old received new → Took old.site new.site
  offers_took [] offsets behind old received new h = took_none old.site new.site (ap (λ (s : State Site). s.site) h.same)
  offers_took (op ∷ ops) [] behind old received new h = absurd h
  offers_took (op ∷ ops) (offset ∷ offsets) behind old received new (inl h) = took_none old.site new.site (ap (λ (s : State Site). s.site) h.same)
  offers_took (op ∷ ops) (offset ∷ offsets) behind old received new (inr h) =
      took_then old.site h.next.site new.site (offered_took op h.offered old.site old.held h.next.site h.next.held h.reply h.is_offered)
      (offers_took ops offsets behind h.next h.rest new h.others)

pub files_taken : {Site : Type 0} (log : Site → List Operation) (limit : Site → ℕ) (after : Operation → Site → Site) → FilesAreTaken log limit after
files_taken log limit after takes bytes old received new h =
    offers_took log limit after takes h.ops h.offsets h.behind old received new h.offers
