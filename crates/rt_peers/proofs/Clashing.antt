-- A site that holds nothing receives the whole log of another, whether or not operations of both clash.
use Rattle.std.proofs.Common.{◌≡◌, ◌↔◌, ◌⊎◌, ◌∙◌, ◌+◌, ℕ, Bool, true, false, ◌==◌, inl, inr, refl, sym, ap, subst, arith, List, [], ◌∷◌, length, nat_lt, None, Ok, reverse}
use Rattle.std.proofs.lemmas.Bool.Decides.{nat_tests}
use Rattle.std.proofs.lemmas.Bool.{cases_lt}
use Rattle.std.specs.List.{list_any}
use Rattle.std.specs.Option.{IfSome}
use Rattle.rt_stamps.specs.declared.fault.Fault.{Fault}
use Rattle.rt_stamps.specs.declared.fault.Fault.TheVariants.{Conflict, TextFull}
use Rattle.rt_stamps.specs.declared.stamp.Stamp.{Stamp}
use Rattle.rt_ops.specs.Operations.{Operation, last_count, named}
use Rattle.rt_ops.specs.Reading.{Reads}
use Rattle.rt_oplog.specs.Logs.{HasOp, clash, holds, with_operation}
use Rattle.rt_oplog.proofs.Joins.{joined_err}
use Rattle.rt_oplog.proofs.Sets.{any_from, has_held, has_with, held_from, none_at, split, with_has}
use Rattle.rt_rga.specs.Answers.{Answer, New, Repeat, Refused, answer_to, answer_within, refused_if_full}
use Rattle.rt_rga.specs.Cells.{cells_of}
use Rattle.rt_rga.specs.Histories.{Continues, IsHistory, inserted}
use Rattle.rt_rga.specs.Orders.{AreIn, ComeInTime, HasBasesIn, is_made_upon}
use Rattle.rt_rga.specs.Reading.{has_stamp}
use Rattle.rt_rga.proofs.Accepting.{conflict_answer, new_if_continues, repeat_is, sound_in}
use Rattle.rt_rga.proofs.Continuing.{names}
use Rattle.rt_rga.proofs.Histories.{history_with, known_weaker}
use Rattle.rt_rga.proofs.Orders.{any_named, character_of, continues_free, end_from_base, insert_of, known_in_set, previous_of, rules_in}
use Rattle.rt_holding.specs.declared.held.Offered.{Offered}
use Rattle.rt_holding.specs.declared.held.Offered.TheVariants as offerings
use Rattle.rt_holding.specs.declared.receiving.Received.{Received}
use Rattle.rt_holding.specs.Holding.{reply_for, reply_to, with_taken, without_op}
use Rattle.rt_holding.specs.Receiving.{Behind, Offers, Receives, State, one_more}
use Rattle.rt_holding.specs.Replies.{Reply}
use Rattle.rt_holding.specs.Replies as replies
use Rattle.rt_holding.specs.Taken.{IsOffered, IsRefused, site_holding, replied}
use Rattle.rt_holding.proofs.Exchanged.{HasLog, before, by_stamp, come_front, of_reverse}
use Rattle.rt_holding.proofs.Fronts.{EndsWell, all_offered, front_read, well_told}
use Rattle.rt_holding.proofs.Settling.{nothing_tried}
use Rattle.rt_peers.specs.Exchange.{IsWantOrConflict}

-- WHAT IS ANSWERED

upon_prev : (base op : Operation) → base.site ≡ op.site → last_count base ≡ op.prev → is_made_upon base op ≡ true
upon_prev base op s l =
    let a : (base.site == op.site) ≡ true = grind (arith, nat_tests) in
    let b : (last_count base == op.prev) ≡ true = grind (arith, nat_tests) in
    grind (arith, a, b)

upon_named : (base op : Operation) (s : Stamp) → names op.body s ≡ true → has_stamp (inserted base) s ≡ true → is_made_upon base op ≡ true
upon_named base op s n h = let a = any_named (has_stamp (inserted base)) (named op.body) s n h in grind (arith, a)

-- an operation of another history, whose bases are there, continues a history of which none clashes with it
continues_apart : (other set : List Operation) (op : Operation) → IsHistory other → IsHistory set → HasOp other op → HasBasesIn other op set
    → ((r : Operation) → HasOp set r → clash op r ≡ false) → holds set op ≡ false → Continues set op
continues_apart other set op h k i bases f n = continues_free set op k (sound_in other h op i) (rules_in other h op i)
    (λ s m. known_weaker other set op.body s (λ c. let (x, j, t) = insert_of other s c in character_of set x s (bases x j (upon_named x op s m t)) t) (known_in_set other h op i s m))
    (elim (cases_lt 0 op.prev) [
      | inl l ↦ (let (b, j, s, t) = previous_of other h op i l in end_from_base set b op (bases b j (upon_prev b op s t)) s t)
      | inr l ↦ omega (arith, l)
    ])
    f n

-- a history has an operation already, or is continued by it, or one of its own clashes with it
data IsAnswered (set : List Operation) (op : Operation) : Type 0 where
  there : HasOp set op → answer_to op set ≡ Repeat → IsAnswered set op
  goes_on : Continues set op → answer_to op set ≡ New → IsAnswered set op
  clashes : (q : Operation) → HasOp set q → clash op q ≡ true → answer_to op set ≡ Refused Conflict → IsAnswered set op

answered : (other set : List Operation) (op : Operation) → IsHistory other → IsHistory set → HasOp other op → HasBasesIn other op set → IsAnswered set op
answered other set op h k i bases = split (holds set op)
    (λ e. let t = has_held set op e in there t ((repeat_is set op k).1 t))
    (λ e. split (list_any (clash op) set)
    (λ c. let (q, j, t) = any_from (clash op) set c in
    clashes q j t ((conflict_answer set op k (sound_in other h op i) (λ m. let held = held_from set op m in cc (held, e))).1 c))
    (λ c. let n = continues_apart other set op h k i bases (λ r j. none_at (clash op) set r c j) e in goes_on n (new_if_continues set op k n)))

-- REPLIES

refuses : (o : Offered) (fault : Fault) → ◌≡◌ {A = Reply} (replied (Ok o)) (replies.Refused fault) → ⊥
refuses (offerings.New more) fault q = cc q
refuses offerings.Repeat fault q = cc q
refuses offerings.Held fault q = cc q

refused_same : {one other : Fault} → ◌≡◌ {A = Reply} (replies.Refused one) (replies.Refused other) → one ≡ other
refused_same q = cc q

-- what is new is taken, or finds no room
new_reply : (full : Bool) (op : Operation) (held : List Operation) (o : Offered) → replied (Ok o) ≡ reply_for (refused_if_full full New) op held → replied (Ok o) ≡ replies.New
new_reply true op held o e = absurd (refuses o TextFull e)
new_reply false op held o e = e

full_fault : (full : Bool) (op : Operation) (held : List Operation) (fault : Fault) → reply_for (refused_if_full full New) op held ≡ replies.Refused fault → fault ≡ TextFull
full_fault true op held fault e = sym (refused_same e)
full_fault false op held fault e = absurd (let q : ◌≡◌ {A = Reply} replies.New (replies.Refused fault) = e in let n : ⊥ = cc q in n)

fault_of : (o : Offered) (r : Received) → (one_more o r).fault ≡ r.fault
fault_of (offerings.New more) r = refl
fault_of offerings.Repeat r = refl
fault_of offerings.Held r = refl

-- there is no room for the cells of an operation
abbrev is_full_for : ℕ → Operation → List Operation → Bool
is_full_for limit op set = nat_lt limit (length (cells_of set) + length (inserted op))

-- a history of operations of two logs
record IsHistoryFrom (one other set : List Operation) : Type 0 where
  history : IsHistory set
  some : (x : Operation) → HasOp set x → HasOp one x ⊎ HasOp other x

module _ {Site : Type 0} (log : Site → List Operation) (limit : Site → ℕ) (after : Operation → Site → Site) where
  abbrev Logs : List Operation → State Site → Type 0
  Logs set s = HasLog log limit after set s

  reply_is : (a : Answer) (op : Operation) (set : List Operation) (old : State Site) → Logs set old → answer_to op set ≡ a
      → reply_to (limit old.site) op (site_holding log old.site old.held) ≡ reply_for (refused_if_full (is_full_for (limit old.site) op set) a) op old.held
  reply_is a op set old l e =
      ap (λ s. reply_for (answer_within (limit old.site) op s) op old.held) l.log_is
      ∙ ap (λ b. reply_for (refused_if_full (is_full_for (limit old.site) op set) b) op old.held) e

  -- ONE OPERATION

  repeated : (op : Operation) (o : Offered) (old new : State Site) (set : List Operation) → Logs set old → replied (Ok o) ≡ replies.Repeat
      → IsOffered log after (limit old.site) op o old.site old.held new.site new.held → Logs set new
  repeated op (offerings.New more) old new set l e t = absurd (cc e)
  repeated op offerings.Repeat old new set l e t = record { log_is = ap log t.0 ∙ l.log_is; none = t.1 ∙ l.none }
  repeated op offerings.Held old new set l e t = absurd (cc e)

  newly : (op : Operation) (o : Offered) (old new : State Site) (set : List Operation) → Logs set old → replied (Ok o) ≡ replies.New
      → IsOffered log after (limit old.site) op o old.site old.held new.site new.held → Logs (with_operation op set) new
  newly op (offerings.New more) old new set l e t =
      let first = with_taken op (site_holding log old.site old.held) in
      let none : first.held ≡ [] = ap (λ held. without_op op held) l.none in
      let same = (nothing_tried (limit old.site) [] t.more first (site_holding log new.site new.held) none t.settles).0 in
      record { log_is = ap (λ s. s.log) same ∙ ap (with_operation op) l.log_is; none = ap (λ s. s.held) same ∙ none }
  newly op offerings.Repeat old new set l e t = absurd (cc e)
  newly op offerings.Held old new set l e t = absurd (cc e)

  -- a site has a history that has one more operation
  record HasOneMore (set : List Operation) (op : Operation) (new : State Site) : Type 0 where
    result : List Operation
    has : Logs result new
    history : IsHistory result
    members : (x : Operation) → HasOp result x ↔ (HasOp set x ⊎ (op ≡ x))

  -- one that isn't refused is there afterwards
  goes : (op : Operation) (o : Offered) (set : List Operation) (old new : State Site) → IsHistory set → IsAnswered set op → Logs set old
      → reply_to (limit old.site) op (site_holding log old.site old.held) ≡ replied (Ok o)
      → IsOffered log after (limit old.site) op o old.site old.held new.site new.held → HasOneMore set op new
  goes op o set old new k (there i a) l r t = record {
    result = set;
    has = repeated op o old new set l (sym r ∙ reply_is Repeat op set old l a) t;
    history = k;
    members = λ x. (λ j. inl j, λ j. elim j [ inl m ↦ m | inr e ↦ subst (HasOp set) e i ]);
  }
  goes op o set old new k (goes_on c a) l r t = record {
    result = with_operation op set;
    has = newly op o old new set l (new_reply (is_full_for (limit old.site) op set) op old.held o (sym r ∙ reply_is New op set old l a)) t;
    history = history_with op set k c;
    members = λ x. (
      λ j. elim (has_with op set x j) [ inl e ↦ inr e | inr m ↦ inl m ],
      λ j. with_has op set x (elim j [ inl m ↦ inr m | inr e ↦ inl e ]),
    );
  }
  goes op o set old new k (clashes q i c a) l r t = absurd (refuses o Conflict (sym r ∙ reply_is (Refused Conflict) op set old l a))

  -- and one that is refused finds no memory or no room, or clashes with one of both logs
  ended : (op : Operation) (fault : Fault) (one other set : List Operation) (old : State Site) → IsHistoryFrom one other set → IsAnswered set op → Logs set old → HasOp other op
      → IsRefused (reply_to (limit old.site) op (site_holding log old.site old.held)) fault → IsWantOrConflict one other fault
  ended op fault one other set old m is l i (inr r) = inl r.0
  ended op fault one other set old m (there j a) l i (inl r) =
      absurd (let q : ◌≡◌ {A = Reply} replies.Repeat (replies.Refused fault) = sym (reply_is Repeat op set old l a) ∙ r in let n : ⊥ = cc q in n)
  ended op fault one other set old m (goes_on c a) l i (inl r) =
      inr (inl (full_fault (is_full_for (limit old.site) op set) op old.held fault (sym (reply_is New op set old l a) ∙ r)))
  ended op fault one other set old m (clashes q j c a) l i (inl r) =
      inr (inr (refused_same (sym r ∙ reply_is (Refused Conflict) op set old l a), joined_err one other op q (inr i) (m.some q j) c))

  -- ALL

  -- a site has a history of operations of two logs, with some of them
  pub record HasAll (one other set ops : List Operation) (new : State Site) : Type 0 where
    pub result : List Operation
    pub has : HasLog log limit after result new
    pub history : IsHistory result
    pub some : (x : Operation) → HasOp result x → HasOp one x ⊎ HasOp other x
    pub all : (x : Operation) → HasOp set x ⊎ HasOp ops x → HasOp result x

  abbrev pub Ends : List Operation → List Operation → List Operation → List Operation → Received → State Site → Type 0
  Ends one other set ops received new = (received.fault ≡ None → HasAll one other set ops new) × IfSome received.fault (λ found. IsWantOrConflict one other found.0)

  offers_end : (one other : List Operation) → IsHistory other → (ops : List Operation) (offsets : List ℕ) (behind : Behind) (old : State Site) (received : Received) (new : State Site) (seen set : List Operation)
      → Offers log limit after ops offsets behind old received new → EndsWell behind → Logs set old → IsHistoryFrom one other set → AreIn seen set → AreIn ops other → ComeInTime other seen ops
      → Ends one other set ops received new
  offers_end one other h [] offsets behind old received new seen set f w l m a o t = (
    λ e. record { result = set; has = subst (λ s. Logs set s) (sym f.same) l; history = m.history; some = m.some; all = λ x i. elim i [ inl j ↦ j | inr j ↦ absurd j ] },
    subst (λ (r : Received). IfSome r.fault (λ found. IsWantOrConflict one other found.0)) (sym f.counted) (well_told (λ found. IsWantOrConflict one other found.0) behind f.told w f.ends (λ at. inl refl)),
  )
  offers_end one other h (op ∷ ops) [] behind old received new seen set f w l m a o t = absurd f
  offers_end one other h (op ∷ ops) (offset ∷ offsets) behind old received new seen set (inl f) w l m a o t =
      let bases : HasBasesIn other op set = λ base i u. a base (t.0 base i u) in
      let is = answered other set op h m.history (o op (inl refl)) bases in (
        λ e. absurd (let q = ap (λ (r : Received). r.fault) f.counted in let n : ⊥ = cc (q, e) in n),
        subst (λ (r : Received). IfSome r.fault (λ found. IsWantOrConflict one other found.0)) (sym f.counted) (ended op f.fault one other set old m is l (o op (inl refl)) f.refused),
      )
  offers_end one other h (op ∷ ops) (offset ∷ offsets) behind old received new seen set (inr f) w l m a o t =
      let bases : HasBasesIn other op set = λ base i u. a base (t.0 base i u) in
      let is = answered other set op h m.history (o op (inl refl)) bases in
      let next = goes op f.offered set old f.next m.history is l f.reply f.is_offered in
      let among : IsHistoryFrom one other next.result = record {
        history = next.history;
        some = λ x j. elim ((next.members x).0 j) [ inl k ↦ m.some x k | inr e ↦ inr (subst (HasOp other) e (o op (inl refl))) ];
      } in
      let rest = offers_end one other h ops offsets behind f.next f.rest new (op ∷ seen) next.result f.others w next.has among
      (λ x j. (next.members x).1 (elim j [ inl e ↦ inr e | inr k ↦ inl (a x k) ]))
      (λ x j. o x (inr j)) t.1 in
      let fault : received.fault ≡ f.rest.fault = ap (λ (r : Received). r.fault) f.counted ∙ fault_of f.offered f.rest in (
        λ e. let r = rest.0 (sym fault ∙ e) in record {
          result = r.result;
          has = r.has;
          history = r.history;
          some = r.some;
          all = λ x j. r.all x (elim j [
            | inl k ↦ inl ((next.members x).1 (inl k))
            | inr k ↦ elim k [ inl e ↦ inl ((next.members x).1 (inr e)) | inr n ↦ inr n ]
          ]);
        },
        subst (λ fault. IfSome fault (λ found. IsWantOrConflict one other found.0)) (sym fault) rest.1,
      )

  -- the file of a history is received
  pub file_ends : (bytes offsets : List ℕ) (one other : List Operation) (old : State Site) (received : Received) (new : State Site)
      → Reads bytes (reverse other) offsets None → Receives log limit after bytes old received new → HasLog log limit after one old → IsHistory one → IsHistory other
      → Ends one other one (reverse other) received new
  file_ends bytes offsets one other old received new reads f l h k =
      let front = front_read bytes (reverse other) f.ops offsets f.offsets f.behind reads f.read in
      let ends = offers_end one other k f.ops f.offsets f.behind old received new [] one f.offers front.well l (record { history = h; some = λ x i. inl i })
      (λ x i. absurd i) (λ x i. of_reverse other x (subst (λ l. HasOp l x) (sym front.is) (before f.ops front.more x i)))
      (come_front other [] f.ops front.more (subst (ComeInTime other []) front.is (by_stamp other other [] k k (λ x i. i)))) in (
        λ e. subst (λ ops. HasAll one other one ops new) (sym (all_offered log limit after bytes (reverse other) f.ops offsets f.offsets f.behind old received new reads f.read f.offers e)) (ends.0 e),
        ends.1,
      )
