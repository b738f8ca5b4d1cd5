-- A file that is received where no memory is wanting has one answer, and leaves one state.
use Rattle.std.proofs.Common.{◌≡◌, ◌≢◌, ◌∙◌, ◌+◌, ◌++◌, ℕ, List, [], ◌∷◌, length, Ok, Some, ap, inl, inr, refl, subst, sym}
use Rattle.rt_stamps.specs.declared.fault.Fault.{Fault}
use Rattle.rt_stamps.specs.declared.fault.Fault.TheVariants.{NoMemory}
use Rattle.rt_ops.specs.declared.version.Version.{Version}
use Rattle.rt_ops.specs.Operations.{Operation}
use Rattle.rt_ops.specs.File.{record_of}
use Rattle.rt_ops.specs.Reading.{offsets_from}
use Rattle.rt_holding.specs.declared.held.Offered.{Offered}
use Rattle.rt_holding.specs.declared.held.Offered.TheVariants as offered
use Rattle.rt_holding.specs.declared.receiving.Received.{Received}
use Rattle.rt_holding.specs.Holding.{Holding, with_taken}
use Rattle.rt_holding.specs.Memory.{FilesGoOneWay, FoundMemory, OfferFoundMemory, OffersFoundMemory}
use Rattle.rt_holding.specs.Receiving.{Behind, AtEnd, Offers, State, Unread, Wanting, none_accepted, one_more, reply_at}
use Rattle.rt_holding.specs.Replies.{Reply}
use Rattle.rt_holding.specs.Replies as replies
use Rattle.rt_holding.specs.Taken.{AreTried, IsOffered, IsRefused, all_after, site_holding, replied}
use Rattle.rt_holding.proofs.Fronts.{Agree, GoesNoFurther, offsets_are, one_or_other, version_in}
use Rattle.rt_holding.proofs.Settling.{ample_settled}

-- what was refused, though not for want of memory, was refused by its reply
refused_by : (reply : Reply) (fault : Fault) → IsRefused reply fault → fault ≢ NoMemory → reply ≡ replies.Refused fault
refused_by reply fault (inl e) n = e
refused_by reply fault (inr h) n = absurd (n h.0)

abbrev fault_of : Fault → Reply → Fault
fault_of other (replies.Refused fault) = fault
fault_of other replies.New = other
fault_of other replies.Repeat = other
fault_of other replies.Held = other

one_fault : (reply : Reply) (fault other : Fault) → reply ≡ replies.Refused fault → reply ≡ replies.Refused other → fault ≡ other
one_fault reply fault other e f = ap (fault_of fault) (sym e ∙ f)

-- and what wasn't refused was not
not_refused : (o : Offered) (fault : Fault) (reply : Reply) → reply ≡ replied (Ok o) → reply ≡ replies.Refused fault → ⊥
not_refused (offered.New more) fault reply e f = let q : ◌≡◌ {A = Reply} replies.New (replies.Refused fault) = sym e ∙ f in cc q
not_refused offered.Repeat fault reply e f = let q : ◌≡◌ {A = Reply} replies.Repeat (replies.Refused fault) = sym e ∙ f in cc q
not_refused offered.Held fault reply e f = let q : ◌≡◌ {A = Reply} replies.Held (replies.Refused fault) = sym e ∙ f in cc q

module _ {Site : Type 0} (log : Site → List Operation) (limit : Site → ℕ) (after : Operation → Site → Site) where
  -- tries from one state on
  pub one_try : (most : ℕ) (s : Holding) (first new other : Site) (left kept : List Operation) (count number : ℕ)
      (h : AreTried log after most s first new left count) (k : AreTried log after most s first other kept number)
      → FoundMemory h.settles → FoundMemory k.settles → (new ≡ other) × (left ≡ kept) × (count ≡ number)
  one_try most s first new other left kept count number h k f g =
      let a = ample_settled most s (site_holding log new left) h.more h.settles f in
      let b = ample_settled most s (site_holding log other kept) k.more k.settles g in
      let same : h.more ≡ k.more = a.1 ∙ sym b.1 in (
        h.each ∙ ap (λ more. all_after after more first) same ∙ sym k.each,
        ap (λ (t : Holding). t.held) (a.0 ∙ sym b.0),
        sym h.counted ∙ ap length same ∙ k.counted,
      )

  state_of : Site → List Operation → State Site
  state_of site held = record { site = site; held = held }

  same_state : (s t : State Site) → s.site ≡ t.site → s.held ≡ t.held → s ≡ t
  same_state s t e f = λ i. record { site = e i; held = f i }

  -- one operation
  one_offer : (op : Operation) (o p : Offered) (old next mid : State Site) → replied (Ok o) ≡ replied (Ok p)
      → (h : IsOffered log after (limit old.site) op o old.site old.held next.site next.held)
      → (k : IsOffered log after (limit old.site) op p old.site old.held mid.site mid.held)
      → OfferFoundMemory log limit after (limit old.site) op o old.site old.held next.site next.held h
      → OfferFoundMemory log limit after (limit old.site) op p old.site old.held mid.site mid.held k
      → (o ≡ p) × (next ≡ mid)
  one_offer op (offered.New more) (offered.New other) old next mid e h k f g =
      let one = one_try (limit old.site) (with_taken op (site_holding log old.site old.held)) (after op old.site) next.site mid.site next.held mid.held more other h k f g in
      (ap offered.New one.2, same_state next mid one.0 one.1)
  one_offer op (offered.New more) offered.Repeat old next mid e h k f g = absurd (cc e)
  one_offer op (offered.New more) offered.Held old next mid e h k f g = absurd (cc e)
  one_offer op offered.Repeat (offered.New other) old next mid e h k f g = absurd (cc e)
  one_offer op offered.Repeat offered.Repeat old next mid e h k f g = (refl, same_state next mid (h.0 ∙ sym k.0) (h.1 ∙ sym k.1))
  one_offer op offered.Repeat offered.Held old next mid e h k f g = absurd (cc e)
  one_offer op offered.Held (offered.New other) old next mid e h k f g = absurd (cc e)
  one_offer op offered.Held offered.Repeat old next mid e h k f g = absurd (cc e)
  one_offer op offered.Held offered.Held old next mid e h k f g = (refl, same_state next mid (h.0 ∙ sym k.0) (h.1 ∙ sym k.1))

  -- operations one after the other, of which so many were read in one case, and perhaps more in the other
  one_run : (ver : Version) (ops more : List Operation) (at : ℕ) (behind beyond : Behind) (old : State Site) (received other : Received) (new left : State Site) → Agree behind more beyond
      → (h : Offers log limit after ops (offsets_from ver at ops) behind old received new)
      → (k : Offers log limit after (ops ++ more) (offsets_from ver at (ops ++ more)) beyond old other left)
      → OffersFoundMemory log limit after ops (offsets_from ver at ops) behind old received new h
      → OffersFoundMemory log limit after (ops ++ more) (offsets_from ver at (ops ++ more)) beyond old other left k
      → (received ≡ other) × (new ≡ left)
  one_run ver [] more at (Wanting m) beyond old received other new left a h k f g = absurd f
  one_run ver [] more at Unread beyond old received other new left a h k f g = absurd h.ends
  one_run ver [] more at (AtEnd x) (Wanting n) old received other new left a h k f g = absurd a
  one_run ver [] more at (AtEnd x) Unread old received other new left a h k f g = absurd a
  one_run ver [] (op ∷ more) at (AtEnd x) (AtEnd y) old received other new left a h k f g = absurd (let e = a.0 in cc e)
  one_run ver [] [] at (AtEnd x) (AtEnd y) old received other new left a h k f g =
      let same : h.told ≡ k.told = h.ends ∙ a.1 ∙ sym k.ends in
      (h.counted ∙ ap (λ told. none_accepted told old.held) same ∙ sym k.counted, h.same ∙ sym k.same)
  one_run ver (op ∷ ops) more at behind beyond old received other new left a (inl h) (inl k) f g =
      let same = one_fault (reply_at log limit after op old) h.fault k.fault (refused_by (reply_at log limit after op old) h.fault h.refused f) (refused_by (reply_at log limit after op old) k.fault k.refused g) in
      (h.counted ∙ ap (λ fault. none_accepted (Some (fault, at)) old.held) same ∙ sym k.counted, h.same ∙ sym k.same)
  one_run ver (op ∷ ops) more at behind beyond old received other new left a (inl h) (inr k) f g =
      absurd (not_refused k.offered h.fault (reply_at log limit after op old) k.reply (refused_by (reply_at log limit after op old) h.fault h.refused f))
  one_run ver (op ∷ ops) more at behind beyond old received other new left a (inr h) (inl k) f g =
      absurd (not_refused h.offered k.fault (reply_at log limit after op old) h.reply (refused_by (reply_at log limit after op old) k.fault k.refused g))
  one_run ver (op ∷ ops) more at behind beyond old received other new left a (inr h) (inr k) f g =
      let next = at + length (record_of ver op) in
      let all = ops ++ more in
      let here = one_offer op h.offered k.offered old h.next k.next (sym h.reply ∙ k.reply) h.is_offered k.is_offered f.0 g.0 in
      let later : (h.rest ≡ k.rest) × (new ≡ left) = subst (λ (s : State Site). (l : Offers log limit after all (offsets_from ver next all) beyond s k.rest left)
      → OffersFoundMemory log limit after all (offsets_from ver next all) beyond s k.rest left l → (h.rest ≡ k.rest) × (new ≡ left)) here.1
      (λ l e. one_run ver ops more next behind beyond h.next h.rest k.rest new left a h.others l f.1 e) k.others g.1 in
      (h.counted ∙ (λ i. one_more (here.0 i) (later.0 i)) ∙ sym k.counted, later.1)

  -- a file in which a front was read, and in which all
  one_read : (ver : Version) (ops other : List Operation) (offsets places : List ℕ) (behind beyond : Behind) (old : State Site) (received again : Received) (new left : State Site)
      → GoesNoFurther ops other behind beyond → offsets ≡ offsets_from ver 8 ops → places ≡ offsets_from ver 8 other
      → (h : Offers log limit after ops offsets behind old received new) (k : Offers log limit after other places beyond old again left)
      → OffersFoundMemory log limit after ops offsets behind old received new h → OffersFoundMemory log limit after other places beyond old again left k
      → (received ≡ again) × (new ≡ left)
  one_read ver ops other offsets places behind beyond old received again new left front d e =
      subst (λ (offsets : List ℕ). (h : Offers log limit after ops offsets behind old received new) (k : Offers log limit after other places beyond old again left)
      → OffersFoundMemory log limit after ops offsets behind old received new h → OffersFoundMemory log limit after other places beyond old again left k
      → (received ≡ again) × (new ≡ left)) (sym d)
      (subst (λ (p : List Operation × List ℕ). (h : Offers log limit after ops (offsets_from ver 8 ops) behind old received new) (k : Offers log limit after p.0 p.1 beyond old again left)
      → OffersFoundMemory log limit after ops (offsets_from ver 8 ops) behind old received new h → OffersFoundMemory log limit after p.0 p.1 beyond old again left k
      → (received ≡ again) × (new ≡ left)) (sym same) (one_run ver ops front.more 8 behind beyond old received again new left front.agree))
    where
      same : ◌≡◌ {A = List Operation × List ℕ} (other, places) (ops ++ front.more, offsets_from ver 8 (ops ++ front.more))
      same = λ i. (front.is i, (e ∙ ap (offsets_from ver 8) front.is) i)

  -- a file, however far it is read
  pub files_go : FilesGoOneWay log limit after
  files_go bytes old received other new left h k f g =
      let one = offsets_are bytes h.ops h.offsets h.behind h.read in
      let two = offsets_are bytes k.ops k.offsets k.behind k.read in
      elim (one_or_other bytes h.ops k.ops h.offsets k.offsets h.behind k.behind h.read k.read) [
        | inl front ↦ one_read (version_in bytes) h.ops k.ops h.offsets k.offsets h.behind k.behind old received other new left front one two h.offers k.offers f g
        | inr front ↦ (let same = one_read (version_in bytes) k.ops h.ops k.offsets h.offsets k.behind h.behind old other received left new front two one k.offers h.offers g f in (sym same.0, sym same.1))
      ]
