-- How each try of a held operation goes on.
use Rattle.std.proofs.Common.{◌≡◌, ℕ, suc, ◌+◌, ◌*◌, ◌<◌, ◌≤◌, Bool, true, false, ◌⊎◌, inl, inr, refl, sym, ap, subst, ◌∙◌, arith, List, [], ◌∷◌, ◌++◌, Option, Some, None, ◌&&◌, ◌||◌, ◌==◌, length, suc-mul}
use Rattle.std.specs.BTreeMap.{BTreeMap, IsOrdered, get, is_at}
use Rattle.std.specs.declared.alloc.Global.{Global}
use Rattle.std.specs.declared.cmp.Reverse.{Reverse}
use Rattle.std.specs.declared.collections.BinaryHeap.{BinaryHeap}
use Rattle.std.specs.BinaryHeap.{heap_items}
use Rattle.std.specs.List.{list_any}
use Rattle.std.specs.Map.{lookup, remove_entry}
use Rattle.rt_stamps.specs.declared.fault.Fault.TheVariants.{NotYet, TextFull}
use Rattle.rt_ops.specs.Operations.{Operation, has_bad_stamp}
use Rattle.rt_ops.specs.Rules.{keeps_rules}
use Rattle.rt_oplog.specs.Logs.{HasOp, holds, known_end, same_operation, with_operation}
use Rattle.rt_oplog.proofs.Sets.{operation_refl, with_has}
use Rattle.rt_rga.specs.Answers.{Answer, New, Repeat, Refused, answer_within}
use Rattle.rt_rga.specs.Histories.{IsHistory}
use Rattle.rt_rga.proofs.Skipping.{split}
use Rattle.rt_holding.specs.declared.trying.AfterTry.{AfterTry}
use Rattle.rt_holding.specs.declared.trying.AfterTry.TheVariants.{Taken, Waits, Stays, Dropped, Absent}
use Rattle.rt_holding.specs.declared.waits.Keys.{Keys}
use Rattle.rt_holding.specs.declared.waits.Waits.{Waits as Table}
use Rattle.rt_holding.specs.Grown.{HasGrownBy}
use Rattle.rt_holding.specs.Holding.{Holding, is_left, is_new, stays}
use Rattle.rt_holding.specs.Kept.{AreHeld, HeldEntry, IsHeldAt, IsNewAt, Standing, by_stamp_and_arrival, ops_in, after_try_of}
use Rattle.rt_holding.specs.Taken.{AreTried, site_holding}
use Rattle.rt_holding.specs.Waits.{IfIsThere, IsFirstDue, IsSetAt, KeepsOtherPlaces, are_all_kept, are_tried_at, is_due, is_place_in, key_at, after_try_there, sleeps}
use Rattle.rt_holding.specs.Waking.{IsWoken}
use Rattle.rt_holding.proofs.Due.{stays_waits}
use Rattle.rt_holding.proofs.Going.{AreReady, IsLeftAt, both, either, left_if_stays, next_due, none_due, or_left, or_right, tried_in, tried_now}
use Rattle.rt_holding.proofs.Ends.{other_end}
use Rattle.rt_holding.proofs.Places.{get_at, in_append, taken_from}
use Rattle.rt_holding.proofs.Standing.{at_found, own_place, there_before, this_place}
use Rattle.rt_holding.proofs.Tries.{IsSettling, begins, ends, one_dropped, one_lacking, one_taken}
use Rattle.rt_holding.proofs.Waited.{kept_more}
use Rattle.rt_holding.proofs.Waiting.{waiting_from}

-- all that were tried before are ready now
pub started : (limit by : ℕ) (wanting older log : List Operation) (m : BTreeMap Standing (Option Operation)) (old new : Table) → HasGrownBy by older log → IsWoken by log m old new
    → ((p : Standing) (x : Operation) → get by_stamp_and_arrival m p ≡ Some (Some x) → keeps_rules x.body ≡ true)
    → are_tried_at limit older old.keys old.again.items m.entries ≡ true → AreReady limit wanting log m new
started limit by wanting older log m old new g w rules a p x f =
    elim (either (is_place_in p old.again.items) (sleeps limit old.keys older p x) (tried_in limit older old m.entries a p x f)) [
      | inl j ↦ inl (w.again p j)
      | inr s ↦ elim (either (is_due p new.due) (sleeps limit new.keys log p x) (w.asleep limit older g p x f (rules p x f) s)) [ inl d ↦ inl d | inr k ↦ inr (inr k) ]
    ]

-- each keeps the rules
pub each_keeps : (arrivals : ℕ) (m : BTreeMap Standing (Option Operation)) → AreHeld arrivals m.entries → IsOrdered by_stamp_and_arrival m → (p : Standing) (x : Operation)
    → get by_stamp_and_arrival m p ≡ Some (Some x) → keeps_rules x.body ≡ true
each_keeps arrivals m h s p x f = h.rules x (at_has p x m.entries (at_found m.entries p x s f))
  where
    in_middle : (front behind : List Operation) (x : Operation) → HasOp (front ++ x ∷ behind) x
    in_middle [] behind x = inl refl
    in_middle (y ∷ front) behind x = inr (in_middle front behind x)

    at_has : (p : Standing) (x : Operation) (entries : List HeldEntry) → IsHeldAt p x entries → HasOp (ops_in entries) x
    at_has p x entries i = subst (λ ops. HasOp ops x) (sym (ap ops_in i.is ∙ in_append i.front i.behind p x)) (in_middle (ops_in i.front) (ops_in i.behind) x)

-- a log grows by one operation
pub grown_by : (older log : List Operation) (by : ℕ) (op : Operation) → IsHistory older → by ≡ op.site → log ≡ with_operation op older → HasGrownBy by older log
grown_by older log by op h b l = record {
  history = h;
  among = λ x i. subst (λ (ops : List Operation). HasOp ops x) (sym l) (with_has op older x (inr i));
  others = λ other e. ap (λ ops. known_end ops other) l ∙ other_end op older other (ap (λ n. n == other) (sym b) ∙ e);
}

-- OUTCOMES

stays_if : (lacks : Bool) (a : Answer) → Stays ≡ after_try_of lacks a → stays a ≡ true
stays_if true New e = absurd (cc e)
stays_if false New e = absurd (cc e)
stays_if lacks Repeat e = absurd (cc e)
stays_if lacks (Refused NotYet) e = refl
stays_if lacks (Refused TextFull) e = refl
stays_if lacks (Refused _) e = absurd (cc e)

never_absent : (lacks : Bool) (a : Answer) → Absent ≡ after_try_of lacks a → ⊥
never_absent true New e = cc e
never_absent false New e = cc e
never_absent lacks Repeat e = cc e
never_absent lacks (Refused NotYet) e = cc e
never_absent lacks (Refused TextFull) e = cc e
never_absent lacks (Refused _) e = cc e

waits_if : (lacks : Bool) (a : Answer) → Waits ≡ after_try_of lacks a → (is_new a ≡ true) × (lacks ≡ true)
waits_if true New e = (refl, refl)
waits_if false New e = absurd (cc e)
waits_if lacks Repeat e = absurd (cc e)
waits_if lacks (Refused NotYet) e = absurd (cc e)
waits_if lacks (Refused TextFull) e = absurd (cc e)
waits_if lacks (Refused _) e = absurd (cc e)

taken_if : (lacks : Bool) (a : Answer) → Taken ≡ after_try_of lacks a → (a ≡ New) × (lacks ≡ false)
taken_if true New e = absurd (cc e)
taken_if false New e = (refl, refl)
taken_if lacks Repeat e = absurd (cc e)
taken_if lacks (Refused NotYet) e = absurd (cc e)
taken_if lacks (Refused TextFull) e = absurd (cc e)
taken_if lacks (Refused _) e = absurd (cc e)

dropped_if : (lacks : Bool) (a : Answer) → Dropped ≡ after_try_of lacks a → (is_new a ≡ false) × (stays a ≡ false)
dropped_if true New e = absurd (cc e)
dropped_if false New e = absurd (cc e)
dropped_if lacks Repeat e = (refl, refl)
dropped_if lacks (Refused NotYet) e = absurd (cc e)
dropped_if lacks (Refused TextFull) e = absurd (cc e)
dropped_if lacks (Refused _) e = (refl, refl)

-- an operation stands at a place
pub record IsThere (m : BTreeMap Standing (Option Operation)) (p : Standing) : Type 0 where
  pub op : Operation
  pub found : get by_stamp_and_arrival m p ≡ Some (Some op)

pub there_if : (lacks : Bool) (limit : ℕ) (log : List Operation) (m : BTreeMap Standing (Option Operation)) (p : Standing) (o : AfterTry) → o ≡ after_try_there lacks limit log (get by_stamp_and_arrival m p)
    → (Absent ≡ o → ⊥) → IsThere m p
there_if lacks limit log m p o e n = one (get by_stamp_and_arrival m p) refl
  where
    one : (v : Option (Option Operation)) → get by_stamp_and_arrival m p ≡ v → IsThere m p
    one None f = absurd (n (sym (e ∙ ap (after_try_there lacks limit log) f)))
    one (Some None) f = absurd (n (sym (e ∙ ap (after_try_there lacks limit log) f)))
    one (Some (Some op)) f = record { op = op; found = f }

-- one that waits on could be taken, but memory is wanting
pub record WaitsOn (lacks : Bool) (limit : ℕ) (log : List Operation) (m : BTreeMap Standing (Option Operation)) (p : Standing) : Type 0 where
  pub there : IsThere m p
  pub why : (is_new (answer_within limit there.op log) ≡ true) × (lacks ≡ true)

pub outcome_here : (lacks : Bool) (limit : ℕ) (log : List Operation) (m : BTreeMap Standing (Option Operation)) (p : Standing) (o : AfterTry) (x : Operation) → o ≡ after_try_there lacks limit log (get by_stamp_and_arrival m p)
    → get by_stamp_and_arrival m p ≡ Some (Some x) → o ≡ after_try_of lacks (answer_within limit x log)
outcome_here lacks limit log m p o x e f = e ∙ ap (after_try_there lacks limit log) f

pub waits_there : (lacks : Bool) (limit : ℕ) (log : List Operation) (m : BTreeMap Standing (Option Operation)) (p : Standing) (o : AfterTry) → o ≡ Waits → o ≡ after_try_there lacks limit log (get by_stamp_and_arrival m p)
    → WaitsOn lacks limit log m p
waits_there lacks limit log m p o i e =
    let t = there_if lacks limit log m p o e (λ j. let k : Absent ≡ Waits = j ∙ i in cc k) in
    record { there = t; why = waits_if lacks (answer_within limit t.op log) (sym i ∙ outcome_here lacks limit log m p o t.op e t.found) }

-- one that would stay
pub stays_here : (lacks : Bool) (limit : ℕ) (log : List Operation) (o : AfterTry) (x : Operation) → o ≡ Stays → o ≡ after_try_of lacks (answer_within limit x log) → stays (answer_within limit x log) ≡ true
stays_here lacks limit log o x i e = stays_if lacks (answer_within limit x log) (sym i ∙ e)

pub stays_sound : (lacks : Bool) (limit : ℕ) (log : List Operation) (o : AfterTry) (v : Option (Option Operation)) → o ≡ Stays → o ≡ after_try_there lacks limit log v → IfIsThere (λ x. has_bad_stamp x ≡ false) v
stays_sound lacks limit log o None i e = tt
stays_sound lacks limit log o (Some None) i e = tt
stays_sound lacks limit log o (Some (Some x)) i e = (waiting_from log x (stays_waits limit log x (stays_here lacks limit log o x i e))).stamp

not_left : (new stay found : Bool) → new ≡ false → stay ≡ false → (stay || (new && found)) ≡ false
not_left true stay found n s = absurd (cc n)
not_left false true found n s = absurd (cc s)
not_left false false found n s = refl

-- what is kept for another place stays
pub sleeps_still : (limit : ℕ) (log : List Operation) (p : Standing) (old new : Keys) → KeepsOtherPlaces p old new → (q : Standing) (x : Operation) → is_at (by_stamp_and_arrival p) q ≡ false
    → sleeps limit old log q x ≡ true → sleeps limit new log q x ≡ true
sleeps_still limit log p old new k q x n h =
    let (s, a) = both (stays (answer_within limit x log)) (are_all_kept old log q x) h in
    let b = kept_more old new log q x (λ st i. k.alone (key_at st q) n ∙ i) (λ st i. k.begun (key_at st q) n ∙ i) k.ends a in
    rw s b

-- WHAT GOES ON

-- there are more of those that found no memory
left_on : (limit : ℕ) (wanting log : List Operation) (op x : Operation) → is_left limit wanting log x ≡ true → is_left limit (op ∷ wanting) log x ≡ true
left_on limit wanting log op x h = more (stays (answer_within limit x log)) (is_new (answer_within limit x log)) (same_operation op x) (holds wanting x) h
  where
    more : (s n a h : Bool) → (s || (n && h)) ≡ true → (s || (n && (a || h))) ≡ true
    more true n a h e = refl
    more false true true h e = refl
    more false true false h e = e
    more false false a h e = absurd (cc e)

left_now : (limit : ℕ) (wanting log : List Operation) (op : Operation) → is_new (answer_within limit op log) ≡ true → is_left limit (op ∷ wanting) log op ≡ true
left_now limit wanting log op n =
    let r = operation_refl op in
    elim (stays (answer_within limit op log)) as (λ s. (s || (is_new (answer_within limit op log) && (same_operation op op || holds wanting op))) ≡ true) [ true ↦ refl | false ↦ rw (n, r) refl ]

module _ {Site : Type 0} (log : Site → List Operation) (after : Operation → Site → Site) where
  -- The tries have come so far, and all that isn't due needn't be tried. None is left for want of memory before that is wanting.
  pub record IsGoing (lacks : Bool) (limit : ℕ) (state : Holding) (then_site now : Site) (m : BTreeMap Standing (Option Operation)) (waits : Table) (count : ℕ) : Type 0 where
    pub wanting : List Operation
    pub far : IsSettling log after limit wanting state then_site now (ops_in m.entries) count
    pub ready : AreReady limit wanting (log now) m waits
    pub none : lacks ≡ false → wanting ≡ []

  pub going : (limit by arrivals : ℕ) (older : List Operation) (site : Site) (m : BTreeMap Standing (Option Operation)) (old new : Table) → HasGrownBy by older (log site)
      → IsWoken by (log site) m old new → AreHeld arrivals m.entries → IsOrdered by_stamp_and_arrival m
      → are_tried_at limit older old.keys old.again.items m.entries ≡ true → IsGoing false limit (site_holding log site (ops_in m.entries)) site site m new 0
  going limit by arrivals older site m old new g w h s a = record {
    wanting = [];
    far = begins log after limit site (ops_in m.entries);
    ready = started limit by [] older (log site) m old new g w (each_keeps arrivals m h s) a;
    none = λ e. refl;
  }

  module _ (lacks : Bool) (limit : ℕ) (state : Holding) (then_site now : Site) (m : BTreeMap Standing (Option Operation)) (old : Table) (count : ℕ) (g : IsGoing lacks limit state then_site now m old count)
      (due : BinaryHeap (Reverse Standing) Global) (p : Standing) (first : IsFirstDue p old.due due) where
    -- one that was due before is, or is the one that is tried
    due_on : (q : Standing) → is_due q old.due ≡ true → (is_due q due ≡ true) ⊎ (q ≡ p)
    due_on q d = elim (either (is_due q due) (is_at (by_stamp_and_arrival q) p) (first.others q d)) [ inl i ↦ inl i | inr i ↦ inr (this_place q p i) ]

    -- none stands there
    pub absent : (o : AfterTry) → o ≡ Absent → o ≡ after_try_there lacks limit (log now) (get by_stamp_and_arrival m p)
        → IsGoing lacks limit state then_site now m (record { keys = old.keys; due = due; again = old.again }) count
    absent o i e = record {
      wanting = g.wanting;
      far = g.far;
      ready = λ q x f. elim (g.ready q x f) [
        | inl d ↦ elim (due_on q d) [
          | inl j ↦ inl j
          | inr s ↦ (let h = outcome_here lacks limit (log now) m p o x e (subst (λ (r : Standing). get by_stamp_and_arrival m r ≡ Some (Some x)) s f) in
              absurd (never_absent lacks (answer_within limit x (log now)) (sym i ∙ h)))
        ]
        | inr j ↦ inr j
      ];
      none = g.none;
    }

    -- it sleeps, or is looked at again
    pub slept : (o : AfterTry) → o ≡ Stays → o ≡ after_try_there lacks limit (log now) (get by_stamp_and_arrival m p)
        → (new : Table) → KeepsOtherPlaces p old.keys new.keys → heap_items new.due ≡ heap_items due → ((q : Standing) → is_place_in q old.again.items ≡ true → is_place_in q new.again.items ≡ true)
        → IfIsThere (λ x. (is_place_in p new.again.items || are_all_kept new.keys (log now) p x) ≡ true) (get by_stamp_and_arrival m p)
        → IsGoing lacks limit state then_site now m new count
    slept o i e new others same more asleep = record {
      wanting = g.wanting;
      far = g.far;
      ready = λ q x f. elim (g.ready q x f) [
        | inl d ↦ elim (due_on q d) [
          | inl j ↦ inl (ap (list_any (λ r. is_at (by_stamp_and_arrival q) r.0)) same ∙ j)
          | inr s ↦ inr (here q x s f)
        ]
        | inr j ↦ inr (elim j [
          | inl k ↦ inl (more q k.0, k.1)
          | inr k ↦ split (is_at (by_stamp_and_arrival p) q)
              (λ t. here q x (sym (this_place p q t)) f)
              (λ t. inr (sleeps_still limit (log now) p old.keys new.keys others q x t k))
        ])
      ];
      none = g.none;
    }
      where
        here : (q : Standing) (x : Operation) → q ≡ p → get by_stamp_and_arrival m q ≡ Some (Some x) → IsLeftAt limit g.wanting (log now) new q x
        here q x s f =
            let found : get by_stamp_and_arrival m p ≡ Some (Some x) = subst (λ (r : Standing). get by_stamp_and_arrival m r ≡ Some (Some x)) s f in
            let stay = stays_here lacks limit (log now) o x i (outcome_here lacks limit (log now) m p o x e found) in
            let there : (is_place_in p new.again.items || are_all_kept new.keys (log now) p x) ≡ true =
            subst (IfIsThere (λ y. (is_place_in p new.again.items || are_all_kept new.keys (log now) p y) ≡ true)) found asleep in
            subst (λ (r : Standing). IsLeftAt limit g.wanting (log now) new r x) (sym s) (elim (either (is_place_in p new.again.items) (are_all_kept new.keys (log now) p x) there) [
              | inl l ↦ inl (l, left_if_stays limit g.wanting (log now) x stay)
              | inr k ↦ inr (rw stay k)
            ])

    -- one that was left, or is the one that is tried, is looked at again
    ready_again : (later : List Operation) (new : Table) (x : Operation) → get by_stamp_and_arrival m p ≡ Some (Some x) → new.keys ≡ old.keys → new.due ≡ due
        → ((q : Standing) → is_place_in q new.again.items ≡ (is_place_in q old.again.items || is_at (by_stamp_and_arrival q) p))
        → ((y : Operation) → is_left limit g.wanting (log now) y ≡ true → is_left limit later (log now) y ≡ true) → is_left limit later (log now) x ≡ true
        → AreReady limit later (log now) m new
    ready_again later new x there k d a on l q y f = elim (g.ready q y f) [
      | inl e ↦ elim (due_on q e) [
        | inl j ↦ inl (ap (is_due q) d ∙ j)
        | inr s ↦ (let same : Some (Some x) ≡ Some (Some y) = sym there ∙ ap (get by_stamp_and_arrival m) (sym s) ∙ f in
            let is : x ≡ y = cc in
            let here : is_at (by_stamp_and_arrival q) p ≡ true = subst (λ (r : Standing). is_at (by_stamp_and_arrival q) r ≡ true) s (own_place q) in
            inr (inl (a q ∙ or_right (is_place_in q old.again.items) (is_at (by_stamp_and_arrival q) p) here, subst (λ (z : Operation). is_left limit later (log now) z ≡ true) is l)))
      ]
      | inr j ↦ elim j [
        | inl i ↦ inr (inl (a q ∙ or_left (is_place_in q old.again.items) (is_at (by_stamp_and_arrival q) p) i.0, on y i.1))
        | inr s ↦ inr (inr (subst (λ (t : Keys). sleeps limit t (log now) q y ≡ true) (sym k) s))
      ]
    ]

    -- it could be taken, but memory is wanting
    pub stayed : (lacking : Bool) (new : Table) (t : IsThere m p) → IsOrdered by_stamp_and_arrival m → new.keys ≡ old.keys → new.due ≡ due
        → ((q : Standing) → is_place_in q new.again.items ≡ (is_place_in q old.again.items || is_at (by_stamp_and_arrival q) p))
        → (lacking ≡ false → lacks ≡ false)
        → (is_new (answer_within limit t.op (log now)) ≡ true) × (lacking ≡ true)
        → IsGoing lacking limit state then_site now m new count
    stayed lacking new t s k d a n c = split (is_left limit g.wanting (log now) t.op)
        (λ l. record {
          wanting = g.wanting;
          far = g.far;
          ready = ready_again g.wanting new t.op t.found k d a (λ y i. i) l;
          none = λ e. g.none (n e);
        })
        (λ l. record {
          wanting = t.op ∷ g.wanting;
          far = one_lacking log after limit g.wanting state then_site now (ops_in m.entries) count t.op g.far
              (next_due limit g.wanting (log now) m old p t.op g.ready first.first s t.found l) c.0;
          ready = ready_again (t.op ∷ g.wanting) new t.op t.found k d a (left_on limit g.wanting (log now) t.op) (left_now limit g.wanting (log now) t.op c.0);
          none = λ e. absurd (let w = c.1 in cc (e, w));
        })

    -- what stays where another was taken out
    other_place : (q : Standing) → is_at (by_stamp_and_arrival p) q ≡ false → q ≡ p → ⊥
    other_place q t s = let o : is_at (by_stamp_and_arrival p) q ≡ true = subst (λ (r : Standing). is_at (by_stamp_and_arrival p) r ≡ true) (sym s) (own_place p) in cc (o, t)

    -- one is tried no more
    pub record IsGone (lacking : Bool) (site : Site) (less : BTreeMap Standing (Option Operation)) (new : Table) (arrivals more : ℕ) : Type 0 where
      pub goes : IsGoing lacking limit state then_site site less new more
      pub held : AreHeld arrivals less.entries
      pub length : suc (length less.entries) ≡ length m.entries

    pub dropped : (o : AfterTry) → o ≡ Dropped → o ≡ after_try_there lacks limit (log now) (get by_stamp_and_arrival m p) → IsOrdered by_stamp_and_arrival m
        → (arrivals : ℕ) (less : BTreeMap Standing (Option Operation)) (keys : Keys) → AreHeld arrivals m.entries → IsSetAt p None m less → KeepsOtherPlaces p old.keys keys
        → less.entries ≡ remove_entry (is_at (by_stamp_and_arrival p)) m.entries → IsGone lacks now less (record { keys = keys; due = due; again = old.again }) arrivals count
    dropped o i e s arrivals less keys h set others r =
        let t = there_if lacks limit (log now) m p o e (λ j. let k : Absent ≡ Dropped = j ∙ i in cc k) in
        let d = dropped_if lacks (answer_within limit t.op (log now)) (sym i ∙ outcome_here lacks limit (log now) m p o t.op e t.found) in
        let out = taken_from arrivals p t.op m.entries less.entries h (at_found m.entries p t.op s t.found) r in
        let l = not_left (is_new (answer_within limit t.op (log now))) (stays (answer_within limit t.op (log now))) (holds g.wanting t.op) d.0 d.1 in
        record {
          goes = record {
            wanting = g.wanting;
            far = one_dropped log after limit g.wanting state then_site now (ops_in m.entries) (ops_in less.entries) count t.op g.far
                (next_due limit g.wanting (log now) m old p t.op g.ready first.first s t.found l) d.0 out.ops;
            ready = λ q x f. let (n, was) = there_before m less p q (Some x) set f in elim (g.ready q x was) [
              | inl u ↦ elim (due_on q u) [ inl j ↦ inl j | inr j ↦ absurd (other_place q n j) ]
              | inr u ↦ elim u [
                | inl j ↦ inr (inl j)
                | inr j ↦ inr (inr (sleeps_still limit (log now) p old.keys keys others q x n j))
              ]
            ];
            none = g.none;
          };
          held = out.held;
          length = out.length;
        }

    -- what is to be taken is new
    pub taken_new : (o : AfterTry) → o ≡ Taken → o ≡ after_try_there lacks limit (log now) (get by_stamp_and_arrival m p) → IsOrdered by_stamp_and_arrival m
        → IsNewAt limit (log now) m.entries p × (lacks ≡ false)
    taken_new o i e s =
        let t = there_if lacks limit (log now) m p o e (λ j. let k : Absent ≡ Taken = j ∙ i in cc k) in
        let d = taken_if lacks (answer_within limit t.op (log now)) (sym i ∙ outcome_here lacks limit (log now) m p o t.op e t.found) in
        (record { op = t.op; there = at_found m.entries p t.op s t.found; new = d.0 }, d.1)

    pub took : IsNewAt limit (log now) m.entries p → lacks ≡ false → IsOrdered by_stamp_and_arrival m → IsHistory (log now)
        → (site : Site) (arrivals by : ℕ) (less : BTreeMap Standing (Option Operation)) (new : Table) → AreHeld arrivals m.entries
        → ((op : Operation) → IsHeldAt p op m.entries → site ≡ after op now) → ((op : Operation) → IsHeldAt p op m.entries → log site ≡ with_operation op (log now))
        → ((op : Operation) → IsHeldAt p op m.entries → by ≡ op.site)
        → IsWoken by (log site) less (record { keys = old.keys; due = due; again = old.again }) new
        → IsSetAt p None m less → less.entries ≡ remove_entry (is_at (by_stamp_and_arrival p)) m.entries → IsGone lacks site less new arrivals (count + 1)
    took t n s history site arrivals by less new h is_after is_log is_by w set r =
        let op = t.op in
        let l = is_log op t.there in
        let b = is_by op t.there in
        let out = taken_from arrivals p op m.entries less.entries h t.there r in
        let found = get_at m p op t.there in
        let not : is_left limit g.wanting (log now) op ≡ false = subst (λ ops. is_left limit ops (log now) op ≡ false) (sym (g.none n)) (let e = t.new in rw e refl) in
        let grown = grown_by (log now) (log site) by op history b l in
        record {
          goes = record {
            wanting = g.wanting;
            far = one_taken log after limit g.wanting state then_site now site (ops_in m.entries) (ops_in less.entries) count op g.far
                (next_due limit g.wanting (log now) m old p op g.ready first.first s found not) t.new (is_after op t.there) l out.ops;
            ready = λ q x f. let (n, was) = there_before m less p q (Some x) set f in elim (g.ready q x was) [
              | inl u ↦ elim (due_on q u) [ inl j ↦ inl (w.due q j) | inr j ↦ absurd (other_place q n j) ]
              | inr u ↦ elim u [
                | inl j ↦ inl (w.again q j.0)
                | inr j ↦ elim (either (is_due q new.due) (sleeps limit new.keys (log site) q x) (w.asleep limit (log now) grown q x f (each_keeps arrivals m h s q x was) j)) [ inl k ↦ inl k | inr k ↦ inr (inr k) ]
              ]
            ];
            none = g.none;
          };
          held = out.held;
          length = out.length;
        }

  -- in a map of the same entries
  pub same_entries : (lacks : Bool) (limit : ℕ) (state : Holding) (then_site now : Site) (m other : BTreeMap Standing (Option Operation)) (waits : Table) (count : ℕ) → IsGoing lacks limit state then_site now m waits count
      → other.entries ≡ m.entries → IsGoing lacks limit state then_site now other waits count
  same_entries lacks limit state then_site now m other waits count g e = record {
    wanting = g.wanting;
    far = subst (λ es. IsSettling log after limit g.wanting state then_site now (ops_in es) count) (sym e) g.far;
    ready = λ q x f. g.ready q x (ap (lookup (is_at (by_stamp_and_arrival q))) (sym e) ∙ f);
    none = g.none;
  }

  -- none is due
  pub done_in : (lacks : Bool) (limit : ℕ) (state : Holding) (then_site now : Site) (m : BTreeMap Standing (Option Operation)) (waits : Table) (count : ℕ) → IsGoing lacks limit state then_site now m waits count
      → ((q : Standing) → is_due q waits.due ≡ false) → IsOrdered by_stamp_and_arrival m
      → AreTried log after limit state then_site now (ops_in m.entries) count × (are_tried_at limit (log now) waits.keys waits.again.items m.entries ≡ true)
  done_in lacks limit state then_site now m waits count g f s = (
    ends log after limit g.wanting state then_site now (ops_in m.entries) count g.far (none_due limit g.wanting (log now) m waits g.ready f s),
    tried_now limit g.wanting (log now) m waits g.ready f s,
  )

-- MEASURES

-- one operation less, and no more that is due than there are places
pub fewer_ops : (less all due most was : ℕ) → suc less ≡ all → due ≤ most → less * (most + 1) + due < all * (most + 1) + was
fewer_ops less all due most was e d =
    let m : suc less * (most + 1) ≡ less * (most + 1) + (most + 1) = suc-mul less (most + 1) in
    let k : all * (most + 1) ≡ less * (most + 1) + (most + 1) = ap (λ n. n * (most + 1)) (sym e) ∙ m in
    omega (arith, k, d)
