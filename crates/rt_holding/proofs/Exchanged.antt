-- A site that holds nothing receives a whole history: it takes each operation of it that it hasn't, in turn.
use Rattle.std.proofs.Common.{◌≡◌, ◌↔◌, ◌⊎◌, ◌∙◌, ◌++◌, ℕ, Bool, true, false, inl, inr, refl, sym, ap, subst, List, [], ◌∷◌, None, Ok, reverse}
use mathlib.Core.List.{reverse-cons}
use Rattle.std.specs.Option.{IfSome}
use Rattle.rt_stamps.specs.declared.fault.Fault.{Fault}
use Rattle.rt_stamps.specs.declared.fault.Fault.TheVariants.{NoMemory, TextFull}
use Rattle.rt_ops.specs.Operations.{Operation}
use Rattle.rt_ops.specs.Reading.{Reads}
use Rattle.rt_oplog.specs.Logs.{HasOp, holds, with_operation}
use Rattle.rt_rga.specs.Answers.{Answer, New, Repeat, Refused, all_taken, answer_to, answer_within, refused_if_full, taken}
use Rattle.rt_rga.specs.Histories.{IsHistory}
use Rattle.rt_rga.specs.Orders.{AreIn, ComeInTime, HasBasesIn, is_made_upon}
use Rattle.rt_oplog.proofs.Sets.{has_held}
use Rattle.rt_rga.proofs.Accepting.{new_if_continues, repeat_is}
use Rattle.rt_rga.proofs.Bases.{bases_there}
use Rattle.rt_rga.proofs.Orders.{in_time, one_taken, repeat_after, whole}
use Rattle.rt_rga.proofs.Skipping.{split}
use Rattle.rt_holding.specs.declared.held.Offered.{Offered}
use Rattle.rt_holding.specs.declared.held.Offered.TheVariants as offerings
use Rattle.rt_holding.specs.declared.receiving.Received.{Received}
use Rattle.rt_holding.specs.Holding.{as_reply, reply_for, reply_to, with_taken}
use Rattle.rt_holding.specs.Receiving.{Behind, Offers, Receives, State, one_more}
use Rattle.rt_holding.specs.Replies.{Reply}
use Rattle.rt_holding.specs.Replies as replies
use Rattle.rt_holding.specs.Taken.{IsOffered, IsRefused, site_holding, replied}
use Rattle.rt_holding.proofs.Fronts.{EndsWell, all_offered, front_read, well_told}
use Rattle.rt_holding.proofs.Settling.{nothing_tried}

-- IN TIME

come_last : (set : List Operation) (op : Operation) (xs first : List Operation) → ComeInTime set first xs
    → ((base : Operation) → HasOp set base → is_made_upon base op ≡ true → HasOp xs base ⊎ HasOp first base) → ComeInTime set first (xs ++ op ∷ [])
come_last set op [] first t b = (λ base i u. elim (b base i u) [ inl j ↦ absurd j | inr j ↦ j ], tt)
come_last set op (x ∷ xs) first t b = (
  t.0,
  come_last set op xs (x ∷ first) t.1 (λ base i u. elim (b base i u) [ inl j ↦ elim j [ inl e ↦ inr (inl e) | inr k ↦ inl k ] | inr j ↦ inr (inr j) ]),
)

has_behind : (xs ys : List Operation) (x : Operation) → HasOp ys x → HasOp (xs ++ ys) x
has_behind [] ys x i = i
has_behind (z ∷ xs) ys x i = inr (has_behind xs ys x i)

pub before : (xs ys : List Operation) (x : Operation) → HasOp xs x → HasOp (xs ++ ys) x
before [] ys x i = absurd i
before (z ∷ xs) ys x (inl e) = inl e
before (z ∷ xs) ys x (inr i) = inr (before xs ys x i)

pub in_reverse : (xs : List Operation) (x : Operation) → HasOp xs x → HasOp (reverse xs) x
in_reverse [] x i = i
in_reverse (z ∷ xs) x (inl e) = subst (λ l. HasOp l x) (sym (reverse-cons z xs)) (has_behind (reverse xs) (z ∷ []) x (inl e))
in_reverse (z ∷ xs) x (inr i) = subst (λ l. HasOp l x) (sym (reverse-cons z xs)) (before (reverse xs) (z ∷ []) x (in_reverse xs x i))

pub of_reverse : (xs : List Operation) (x : Operation) → HasOp (reverse xs) x → HasOp xs x
of_reverse [] x i = i
of_reverse (z ∷ xs) x i = elim (apart (reverse xs) x (subst (λ l. HasOp l x) (reverse-cons z xs) i)) [ inl j ↦ inr (of_reverse xs x j) | inr e ↦ inl e ]
  where
    apart : (ys : List Operation) (x : Operation) → HasOp (ys ++ z ∷ []) x → HasOp ys x ⊎ (z ≡ x)
    apart [] x (inl e) = inr e
    apart [] x (inr i) = absurd i
    apart (y ∷ ys) x (inl e) = inl (inl e)
    apart (y ∷ ys) x (inr i) = elim (apart ys x i) [ inl j ↦ inl (inr j) | inr e ↦ inr e ]

-- and so does a front of those that do
pub come_front : (set first xs ys : List Operation) → ComeInTime set first (xs ++ ys) → ComeInTime set first xs
come_front set first [] ys t = tt
come_front set first (x ∷ xs) ys t = (t.0, come_front set (x ∷ first) xs ys t.1)

-- the operations of a history come in time by rising stamp, also for a larger one
pub by_stamp : (set other first : List Operation) → IsHistory set → IsHistory other → AreIn other set → ComeInTime set first (reverse other)
by_stamp set [] first h k sub = tt
by_stamp set (op ∷ older) first h k sub =
    subst (ComeInTime set first) (sym (reverse-cons op older))
    (come_last set op (reverse older) first (by_stamp set older first h k.2 (λ x i. sub x (inr i)))
    (λ base i u. inl (in_reverse older base (bases_there set older op h k.2 (λ x j. sub x (inr j)) k.1 base i u))))

-- ANSWERS AND REPLIES

repeat_reply : (limit : ℕ) (op : Operation) (log : List Operation) → answer_to op log ≡ Repeat → answer_within limit op log ≡ Repeat
repeat_reply limit op log e = rw e refl

-- what is new is taken, or finds no room
new_reply : (full : Bool) (a : Answer) (op : Operation) (o : Offered) → a ≡ New → reply_for (refused_if_full full a) op [] ≡ replied (Ok o) → replied (Ok o) ≡ replies.New
new_reply true a op o e r = absurd (let q : ◌≡◌ {A = Reply} (replies.Refused TextFull) (replied (Ok o)) = subst (λ b. reply_for (refused_if_full true b) op [] ≡ replied (Ok o)) e r in refuses o q)
  where
    refuses : (o : Offered) → ◌≡◌ {A = Reply} (replies.Refused TextFull) (replied (Ok o)) → ⊥
    refuses (offerings.New more) q = cc q
    refuses offerings.Repeat q = cc q
    refuses offerings.Held q = cc q
new_reply false a op o e r = sym (subst (λ b. reply_for (refused_if_full false b) op [] ≡ replied (Ok o)) e r)

full_fault : (full : Bool) (a : Answer) (op : Operation) (fault : Fault) → a ≡ New → reply_for (refused_if_full full a) op [] ≡ replies.Refused fault → fault ≡ TextFull
full_fault true a op fault e r = sym (refused_same (subst (λ b. reply_for (refused_if_full true b) op [] ≡ replies.Refused fault) e r))
  where
    refused_same : {one other : Fault} → ◌≡◌ {A = Reply} (replies.Refused one) (replies.Refused other) → one ≡ other
    refused_same q = cc q
full_fault false a op fault e r = absurd (let q : ◌≡◌ {A = Reply} replies.New (replies.Refused fault) = subst (λ b. reply_for (refused_if_full false b) op [] ≡ replies.Refused fault) e r in cc q)

fault_of : (o : Offered) (r : Received) → (one_more o r).fault ≡ r.fault
fault_of (offerings.New more) r = refl
fault_of offerings.Repeat r = refl
fault_of offerings.Held r = refl

module _ {Site : Type 0} (log : Site → List Operation) (limit : Site → ℕ) (after : Operation → Site → Site) where
  -- a site of which nothing is held, with a log
  pub record HasLog (set : List Operation) (s : State Site) : Type 0 where
    pub log_is : log s.site ≡ set
    pub none : s.held ≡ []

  repeated : (op : Operation) (o : Offered) (old new : State Site) (set : List Operation) → HasLog set old → replied (Ok o) ≡ replies.Repeat
      → IsOffered log after (limit old.site) op o old.site old.held new.site new.held → HasLog set new
  repeated op (offerings.New more) old new set l e t = absurd (cc e)
  repeated op offerings.Repeat old new set l e t = record { log_is = ap log t.0 ∙ l.log_is; none = t.1 ∙ l.none }
  repeated op offerings.Held old new set l e t = absurd (cc e)

  newly : (op : Operation) (o : Offered) (old new : State Site) (set : List Operation) → HasLog set old → replied (Ok o) ≡ replies.New
      → IsOffered log after (limit old.site) op o old.site old.held new.site new.held → HasLog (with_operation op set) new
  newly op (offerings.New more) old new set l e t =
      let first = with_taken op (site_holding log old.site old.held) in
      let none : first.held ≡ [] = ap (λ held. Rattle.rt_holding.specs.Holding.without_op op held) l.none in
      let same = (nothing_tried (limit old.site) [] t.more first (site_holding log new.site new.held) none t.settles).0 in
      record { log_is = ap (λ s. s.log) same ∙ ap (with_operation op) l.log_is; none = ap (λ s. s.held) same ∙ none }
  newly op offerings.Repeat old new set l e t = absurd (cc e)
  newly op offerings.Held old new set l e t = absurd (cc e)

  one_goes : (op : Operation) (o : Offered) (all set : List Operation) (old new : State Site) → IsHistory all → IsHistory set → AreIn set all → HasOp all op → HasBasesIn all op set
      → HasLog set old → reply_to (limit old.site) op (site_holding log old.site old.held) ≡ replied (Ok o)
      → IsOffered log after (limit old.site) op o old.site old.held new.site new.held → HasLog (taken op set) new
  one_goes op o all set old new h k sub i bases l r t =
      let here : reply_for (answer_within (limit old.site) op set) op [] ≡ replied (Ok o) =
      subst (λ held. reply_for (answer_within (limit old.site) op set) op held ≡ replied (Ok o)) l.none
      (subst (λ s. reply_for (answer_within (limit old.site) op s) op old.held ≡ replied (Ok o)) l.log_is r) in
      split (holds set op)
      (λ e. let a = (repeat_is set op k).1 (has_held set op e) in
      let q : ◌≡◌ {A = Reply} (reply_for (answer_within (limit old.site) op set) op []) replies.Repeat = ap (λ b. reply_for b op []) (repeat_reply (limit old.site) op set a) in
      subst (λ s. HasLog s new) (sym (repeat_after set op a)) (repeated op o old new set l (sym here ∙ q) t))
      (λ e. let a = new_if_continues set op k (in_time all set op h k sub i bases e) in
      let q = new_reply _ (answer_to op set) op o a here in
      subst (λ s. HasLog s new) (sym (ap (λ b. Rattle.rt_rga.specs.Answers.set_after b op set) a)) (newly op o old new set l q t))

  offers_go : (all : List Operation) → IsHistory all → (ops : List Operation) (offsets : List ℕ) (behind : Behind) (old : State Site) (received : Received) (new : State Site) (seen set : List Operation)
      → Offers log limit after ops offsets behind old received new → received.fault ≡ None → HasLog set old → IsHistory set → ((x : Operation) → HasOp set x → HasOp seen x) → ((x : Operation) → HasOp seen x → HasOp set x)
      → AreIn set all → AreIn ops all → ComeInTime all seen ops → HasLog (all_taken ops set) new
  offers_go all h [] offsets behind old received new seen set f e l k a b sub o t = subst (λ s. HasLog set s) (sym f.same) l
  offers_go all h (op ∷ ops) [] behind old received new seen set f e l k a b sub o t = absurd f
  offers_go all h (op ∷ ops) (offset ∷ offsets) behind old received new seen set (inl f) e l k a b sub o t = absurd (let q = ap (λ (r : Received). r.fault) f.counted in let n : ⊥ = cc (q, e) in n)
  offers_go all h (op ∷ ops) (offset ∷ offsets) behind old received new seen set (inr f) e l k a b sub o t =
      let bases : HasBasesIn all op set = λ base i u. b base (t.0 base i u) in
      let one = one_taken all set op h k sub (o op (inl refl)) bases in
      let next = one_goes op f.offered all set old f.next h k sub (o op (inl refl)) bases l f.reply f.is_offered in
      let fault : f.rest.fault ≡ None = sym (fault_of f.offered f.rest) ∙ sym (ap (λ (r : Received). r.fault) f.counted) ∙ e in
      offers_go all h ops offsets behind f.next f.rest new (op ∷ seen) (taken op set) f.others fault next one.history
      (λ x i. elim ((one.members x).0 i) [ inl j ↦ inr (a x j) | inr q ↦ inl q ])
      (λ x i. (one.members x).1 (elim i [ inl q ↦ inr q | inr j ↦ inl (b x j) ]))
      (λ x i. elim ((one.members x).0 i) [ inl j ↦ sub x j | inr q ↦ subst (HasOp all) q (o op (inl refl)) ])
      (λ x i. o x (inr i)) t.1

  -- and only want of memory or of room ends it early
  refused_goes : (op : Operation) (fault : Fault) (all set : List Operation) (old : State Site) → IsHistory all → IsHistory set → AreIn set all → HasOp all op → HasBasesIn all op set
      → HasLog set old → IsRefused (reply_to (limit old.site) op (site_holding log old.site old.held)) fault → (fault ≡ NoMemory) ⊎ (fault ≡ TextFull)
  refused_goes op fault all set old h k sub i bases l (inr r) = inl r.0
  refused_goes op fault all set old h k sub i bases l (inl r) =
      let here : reply_for (answer_within (limit old.site) op set) op [] ≡ replies.Refused fault =
      subst (λ held. reply_for (answer_within (limit old.site) op set) op held ≡ replies.Refused fault) l.none
      (subst (λ s. reply_for (answer_within (limit old.site) op s) op old.held ≡ replies.Refused fault) l.log_is r) in
      split (holds set op)
      (λ e. let a = (repeat_is set op k).1 (has_held set op e) in
      let q : ◌≡◌ {A = Reply} replies.Repeat (replies.Refused fault) = sym (ap (λ b. reply_for b op []) (repeat_reply (limit old.site) op set a)) ∙ here in absurd (cc q))
      (λ e. let a = new_if_continues set op k (in_time all set op h k sub i bases e) in inr (full_fault _ (answer_to op set) op fault a here))

  offers_end : (all : List Operation) → IsHistory all → (ops : List Operation) (offsets : List ℕ) (behind : Behind) (old : State Site) (received : Received) (new : State Site) (seen set : List Operation)
      → Offers log limit after ops offsets behind old received new → EndsWell behind → HasLog set old → IsHistory set → ((x : Operation) → HasOp set x → HasOp seen x) → ((x : Operation) → HasOp seen x → HasOp set x)
      → AreIn set all → AreIn ops all → ComeInTime all seen ops → IfSome received.fault (λ found. (found.0 ≡ NoMemory) ⊎ (found.0 ≡ TextFull))
  offers_end all h [] offsets behind old received new seen set f w l k a b sub o t =
      subst (λ (r : Received). IfSome r.fault (λ found. (found.0 ≡ NoMemory) ⊎ (found.0 ≡ TextFull))) (sym f.counted)
      (well_told (λ found. (found.0 ≡ NoMemory) ⊎ (found.0 ≡ TextFull)) behind f.told w f.ends (λ at. inl refl))
  offers_end all h (op ∷ ops) [] behind old received new seen set f w l k a b sub o t = absurd f
  offers_end all h (op ∷ ops) (offset ∷ offsets) behind old received new seen set (inl f) w l k a b sub o t =
      subst (λ (r : Received). IfSome r.fault (λ found. (found.0 ≡ NoMemory) ⊎ (found.0 ≡ TextFull))) (sym f.counted)
      (refused_goes op f.fault all set old h k sub (o op (inl refl)) (λ base i u. b base (t.0 base i u)) l f.refused)
  offers_end all h (op ∷ ops) (offset ∷ offsets) behind old received new seen set (inr f) w l k a b sub o t =
      let bases : HasBasesIn all op set = λ base i u. b base (t.0 base i u) in
      let one = one_taken all set op h k sub (o op (inl refl)) bases in
      let next = one_goes op f.offered all set old f.next h k sub (o op (inl refl)) bases l f.reply f.is_offered in
      subst (λ fault. IfSome fault (λ found. (found.0 ≡ NoMemory) ⊎ (found.0 ≡ TextFull))) (sym (ap (λ (r : Received). r.fault) f.counted ∙ fault_of f.offered f.rest))
      (offers_end all h ops offsets behind f.next f.rest new (op ∷ seen) (taken op set) f.others w next one.history
      (λ x i. elim ((one.members x).0 i) [ inl j ↦ inr (a x j) | inr q ↦ inl q ])
      (λ x i. (one.members x).1 (elim i [ inl q ↦ inr q | inr j ↦ inl (b x j) ]))
      (λ x i. elim ((one.members x).0 i) [ inl j ↦ sub x j | inr q ↦ subst (HasOp all) q (o op (inl refl)) ])
      (λ x i. o x (inr i)) t.1)

  -- a file of operations that come in time behind those of a set, with which they are a history: where no fault is told, the site has that
  pub part_joins : (bytes : List ℕ) (offsets : List ℕ) (all set ops : List Operation) (old : State Site) (received : Received) (new : State Site)
      → Reads bytes ops offsets None → Receives log limit after bytes old received new → received.fault ≡ None → HasLog set old → IsHistory all → IsHistory set
      → ((x : Operation) → HasOp all x ↔ (HasOp set x ⊎ HasOp ops x)) → ComeInTime all set ops → HasLog all new
  part_joins bytes offsets all set ops old received new reads f e l h k same t =
      let read : ops ≡ f.ops = all_offered log limit after bytes ops f.ops offsets f.offsets f.behind old received new reads f.read f.offers e in
      let offers : Offers log limit after ops f.offsets f.behind old received new = subst (λ ops. Offers log limit after ops f.offsets f.behind old received new) (sym read) f.offers in
      subst (λ s. HasLog s new) (whole all set ops h k same t)
      (offers_go all h ops f.offsets f.behind old received new set set offers e l k (λ x i. i) (λ x i. i) (λ x i. (same x).1 (inl i)) (λ x i. (same x).1 (inr i)) t)

  pub part_ends : (bytes : List ℕ) (offsets : List ℕ) (all set ops : List Operation) (old : State Site) (received : Received) (new : State Site)
      → Reads bytes ops offsets None → Receives log limit after bytes old received new → HasLog set old → IsHistory all → IsHistory set
      → ((x : Operation) → HasOp all x ↔ (HasOp set x ⊎ HasOp ops x)) → ComeInTime all set ops → IfSome received.fault (λ found. (found.0 ≡ NoMemory) ⊎ (found.0 ≡ TextFull))
  part_ends bytes offsets all set ops old received new reads f l h k same t =
      let front = front_read bytes ops f.ops offsets f.offsets f.behind reads f.read in
      offers_end all h f.ops f.offsets f.behind old received new set set f.offers front.well l k (λ x i. i) (λ x i. i) (λ x i. (same x).1 (inl i))
      (λ x i. (same x).1 (inr (subst (λ l. HasOp l x) (sym front.is) (before f.ops front.more x i)))) (come_front all set f.ops front.more (subst (ComeInTime all set) front.is t))
