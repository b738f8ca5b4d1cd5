-- As many changes are told of a file as operations were accepted when it was received.
use Rattle.std.proofs.Common.{◌≡◌, ◌∙◌, ◌+◌, ℕ, suc, List, [], ◌∷◌, ap, arith, inl, inr, length, refl, sym}
use Rattle.std.proofs.lemmas.List.{length-map}
use Rattle.rt_stamps.specs.Stamps.{is_before}
use Rattle.rt_ops.specs.Operations.{Operation, stamp_of}
use Rattle.rt_oplog.specs.Logs.{with_operation}
use Rattle.rt_rga.specs.Drafts.{with_operations}
use Rattle.rt_rga.proofs.Skipping.{split}
use Rattle.rt_changes.specs.declared.change.ToldChange.{ToldChange}
use Rattle.rt_changes.specs.Telling.{changes_in}
use Rattle.rt_holding.specs.declared.held.Offered.{Offered}
use Rattle.rt_holding.specs.declared.held.Offered.TheVariants as offered
use Rattle.rt_holding.specs.declared.receiving.Received.{Received}
use Rattle.rt_holding.specs.Receiving.{Behind, Offers, Receives, State, one_more}
use Rattle.rt_holding.specs.Taken.{IsOffered, all_after}
use Rattle.rt_peers.specs.SiteStep.{SiteReceives, log_of, text_limit, text_log}
use Rattle.rt_peers.specs.SiteValue.{SiteValue}
use Rattle.rt_peers.specs.Telling.{AreToldBetween, changes_each}

-- A LOG THAT GROWS

one_longer : (op : Operation) (log : List Operation) → length (with_operation op log) ≡ suc (length log)
one_longer op [] = refl
one_longer op (q ∷ log) = split (is_before (stamp_of q) (stamp_of op)) (λ e. rw e refl) (λ e. rw e (ap suc (one_longer op log)))

all_longer : (ops log : List Operation) → length (with_operations ops log) ≡ length log + length ops
all_longer [] log = omega arith
all_longer (op ∷ ops) log =
    let more = all_longer ops (with_operation op log) in
    let one = one_longer op log in
    omega (arith, more, one)

-- WHAT IS ACCEPTED

-- how many operations are accepted where one is offered
abbrev accepted : Offered → ℕ
accepted (offered.New more) = 1 + more
accepted offered.Repeat = 0
accepted offered.Held = 0

one_counted : (o : Offered) (rest : Received) → (one_more o rest).new ≡ accepted o + rest.new
one_counted (offered.New more) rest = omega arith
one_counted offered.Repeat rest = omega arith
one_counted offered.Held rest = omega arith

abbrev new_in : Received → ℕ
new_in received = received.new

-- a site that puts what it takes into its log
module _ {Site : Type 0} (log : Site → List Operation) (limit : Site → ℕ) (after : Operation → Site → Site)
    (takes : (op : Operation) (site : Site) → log (after op site) ≡ with_operation op (log site)) where
  abbrev size : Site → ℕ
  size site = length (log site)

  abbrev size_in : State Site → ℕ
  size_in s = size s.site

  all_logged : (ops : List Operation) (site : Site) → log (all_after after ops site) ≡ with_operations ops (log site)
  all_logged [] site = refl
  all_logged (op ∷ ops) site = all_logged ops (after op site) ∙ ap (with_operations ops) (takes op site)

  offered_longer : (most : ℕ) (op : Operation) (o : Offered) (old : Site) (held : List Operation) (new : Site) (left : List Operation)
      → IsOffered log after most op o old held new left → size new ≡ size old + accepted o
  offered_longer most op (offered.New more) old held new left h =
      let each = ap size h.each ∙ ap length (all_logged h.more (after op old)) in
      let all = all_longer h.more (log (after op old)) in
      let one = ap length (takes op old) ∙ one_longer op (log old) in
      let counted = h.counted in
      omega (arith, each, all, one, counted)
  offered_longer most op offered.Repeat old held new left h = let same = ap size h.0 in omega (arith, same)
  offered_longer most op offered.Held old held new left h = let same = ap size h.0 in omega (arith, same)

  offers_longer : (ops : List Operation) (offsets : List ℕ) (behind : Behind) (old : State Site) (received : Received) (new : State Site)
      → Offers log limit after ops offsets behind old received new → size_in new ≡ size_in old + received.new
  offers_longer [] offsets behind old received new h =
      let none : received.new ≡ 0 = ap new_in h.counted in
      let same = ap size_in h.same in
      omega (arith, none, same)
  offers_longer (op ∷ ops) [] behind old received new h = absurd h
  offers_longer (op ∷ ops) (offset ∷ offsets) behind old received new (inl h) =
      let none : received.new ≡ 0 = ap new_in h.counted in
      let same = ap size_in h.same in
      omega (arith, none, same)
  offers_longer (op ∷ ops) (offset ∷ offsets) behind old received new (inr h) =
      let one = offered_longer (limit old.site) op h.offered old.site old.held h.next.site h.next.held h.is_offered in
      let more = offers_longer ops offsets behind h.next h.rest new h.others in
      let all = ap new_in h.counted ∙ one_counted h.offered h.rest in
      omega (arith, one, more, all)

  file_longer : (bytes : List ℕ) (old : State Site) (received : Received) (new : State Site) → Receives log limit after bytes old received new
      → size_in new ≡ size_in old + received.new
  file_longer bytes old received new h = offers_longer h.ops h.offsets h.behind old received new h.offers

-- WHAT IS TOLD

each_told : (ops log : List Operation) → length (changes_each ops log) ≡ length ops
each_told [] log = refl
each_told (op ∷ ops) log = ap suc (each_told ops (with_operation op log))

pub counted : (bytes : List ℕ) (old new : SiteValue) (received : Received) (changes : List ToldChange) → SiteReceives bytes old received new
    → AreToldBetween (log_of old) (log_of new) changes → length changes ≡ received.new
counted bytes old new received changes h told =
    let ops = told.between.ops in
    let each : length changes ≡ length ops = sym (length-map changes changes_in) ∙ ap length told.each ∙ each_told ops (log_of old) in
    let longer : length (log_of new) ≡ length (log_of old) + length ops = ap length told.between.taken ∙ all_longer ops (log_of old) in
    let file : length (log_of new) ≡ length (log_of old) + received.new =
    file_longer text_log text_limit _ (λ op text. refl) bytes (record { site = old.text; held = old.held }) received (record { site = new.text; held = new.held }) h.text in
    omega (arith, each, longer, file)
