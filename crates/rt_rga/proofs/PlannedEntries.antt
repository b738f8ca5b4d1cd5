-- Entries that Tags name: gathered, put in order, and taken by stamps.
use Rattle.std.proofs.Common.{◌≡◌, ℕ, suc, ◌+◌, ◌-◌, ◌<◌, ◌≤◌, Bool, true, false, not, ◌||◌, ◌&&◌, ◌==◌, nat_lt, refl, sym, ap, ◌∙◌, arith, All, Option, Some, None, List, [], ◌∷◌, ◌++◌, cond, length, map, filter, take, drop, get_or, append_assoc}
use Rattle.std.specs.List.{AllByRecursion, list_any, take_while}
use Rattle.std.specs.List.Sorted.{IsSortedBy, ties}
use Rattle.std.specs.Ordering.{is_lt, nat_cmp, ordering_then}
use Rattle.std.specs.Cmp.{IsTotalOrder}
use Rattle.std.specs.declared.cmp.Ordering.{Ordering}
use Rattle.std.proofs.lemmas.Bool.Decides.{nat_tests}
use Rattle.std.proofs.lemmas.Cmp.{nat_cmp_total, on_total, then_total}
use Rattle.std.proofs.lemmas.List.{append-nil, drop_more, map-append, take_more}
use Rattle.std.proofs.lemmas.List.Elements.{All-append, All-filter, All-map, All-weaker, filter-append, filter_agree, recursion_from_All}
use Rattle.std.proofs.lemmas.List.Sorted.{ranks_by, sorted_far}
use Rattle.std.proofs.lemmas.List.Sums.{take_while-cons}
use Rattle.rt_stamps.specs.declared.stamp.Span.{Span}
use Rattle.rt_stamps.specs.declared.stamp.Stamp.{Stamp}
use Rattle.rt_stamps.specs.Stamps.{is_before, is_same}
use Rattle.rt_stamps.proofs.Order.{before_irrefl}
use Rattle.rt_ops.specs.Operations.{Operation, stamp_of, stamps_from, stamps_in}
use Rattle.rt_store.specs.Spans.{is_in_spans, precedes}
use Rattle.rt_tags.specs.declared.states.TagEntry.{TagEntry}
use Rattle.rt_tags.specs.States.{IsTag, KeepsIds, TagStates, Write, writes_above, writes_below, is_kept, is_settled, write_at, write_of, writes_at, written}
use Rattle.rt_tags.specs.Writers.{state_after}
use Rattle.rt_tags.proofs.Greatest.{newer, write_of_written}
use Rattle.rt_tags.proofs.Places.{name_itself}
use Rattle.rt_rga.specs.declared.plan.Named.{Named}
use Rattle.rt_rga.specs.Batches.{AreByStamp, entries_on, named_with, tag_writes, tag_writes_by}
use Rattle.rt_rga.proofs.Skipping.{split}
use Rattle.rt_rga.proofs.Writes.{spans_name, state_append}

-- GATHERED

pub named_from : (entry : TagEntry) (done : List Named) (site count last : ℕ) → count < last + 1
    → done ++ map (named_with entry) (stamps_from site count (last + 1 - count)) ≡ (done ++ named_with entry (record { count = count; site = site }) ∷ []) ++ map (named_with entry) (stamps_from site (count + 1) (last + 1 - (count + 1)))
named_from entry done site count last l =
    let e : last + 1 - count ≡ suc (last + 1 - (count + 1)) = omega arith in
    ap (λ n. done ++ map (named_with entry) (stamps_from site count n)) e
    ∙ sym (append_assoc done (named_with entry (record { count = count; site = site }) ∷ []) (map (named_with entry) (stamps_from site (count + 1) (last + 1 - (count + 1)))))

-- written twice is written once
kept_itself : (w : Write) (o : Option Write) → is_kept (Some (newer o w)) w ≡ true
kept_itself w None = ap not (before_irrefl w.writer)
kept_itself w (Some v) = split (is_before v.writer w.writer)
    (λ t. ap (λ b. not (is_before (cond b w v).writer w.writer)) t ∙ ap not (before_irrefl w.writer))
    (λ f. ap (λ b. not (is_before (cond b w v).writer w.writer)) f ∙ ap not f)

twice : (w : Write) (state : List Write) → written w (written w state) ≡ written w state
twice w state =
    let s : is_settled w (written w state) ≡ true =
    ap (λ o. is_kept o w) (write_of_written w.name w state)
    ∙ ap (λ b. is_kept (cond b (Some (newer (write_of w.name state) w)) (write_of w.name state)) w) (name_itself w.name)
    ∙ kept_itself w (write_of w.name state) in
    ap (λ b. cond b (written w state) (writes_below w.name (written w state) ++ w ∷ writes_above w.name (written w state))) s

once : (b : Bool) (w : Write) (state : List Write) → state_after (written w state) (cond b (w ∷ []) []) ≡ written w state
once true w state = twice w state
once false w state = refl

-- one entry on stamps, on each of them
repeated : (table : TagStates) (e : TagEntry) (s : Stamp) (ss : List Stamp) (state : List Write)
    → state_after state (writes_at table (entries_on (map (named_with e) ss) s)) ≡ state_after state (cond (list_any (λ t. is_same t s) ss) (write_at table e.tag e.writer e.on ∷ []) [])
repeated table e s [] state = refl
repeated table e s (x ∷ ss) state = split (is_same x s)
    (λ t. ap (λ b. state_after state (writes_at table (map (λ n. n.entry) (cond b (named_with e x ∷ filter (λ n. is_same n.stamp s) (map (named_with e) ss)) (filter (λ n. is_same n.stamp s) (map (named_with e) ss)))))) t
    ∙ repeated table e s ss (written (write_at table e.tag e.writer e.on) state)
    ∙ once (list_any (λ t. is_same t s) ss) (write_at table e.tag e.writer e.on) state
    ∙ sym (ap (λ b. state_after state (cond (b || list_any (λ t. is_same t s) ss) (write_at table e.tag e.writer e.on ∷ []) [])) t))
    (λ f. ap (λ b. state_after state (writes_at table (map (λ n. n.entry) (cond b (named_with e x ∷ filter (λ n. is_same n.stamp s) (map (named_with e) ss)) (filter (λ n. is_same n.stamp s) (map (named_with e) ss)))))) f
    ∙ repeated table e s ss state
    ∙ sym (ap (λ b. state_after state (cond (b || list_any (λ t. is_same t s) ss) (write_at table e.tag e.writer e.on ∷ []) [])) f))

pub entries_append : (xs ys : List Named) (s : Stamp) → entries_on (xs ++ ys) s ≡ entries_on xs s ++ entries_on ys s
entries_append xs ys s =
    ap (map (λ n. n.entry)) (filter-append (λ n. is_same n.stamp s) xs ys)
    ∙ map-append (λ n. n.entry) (filter (λ n. is_same n.stamp s) xs) (filter (λ n. is_same n.stamp s) ys)

pub entries_kept : (old new : TagStates) → KeepsIds old new → (es : List TagEntry) → AllByRecursion (λ e. IsTag old e.tag) es → writes_at new es ≡ writes_at old es
entries_kept old new k [] h = refl
entries_kept old new k (e ∷ es) h = λ i. record { name = (k.tags e.tag h.0).1 i; writer = e.writer; on = e.on } ∷ entries_kept old new k es h.1 i

pub tags_on : (table : TagStates) (named : List Named) (s : Stamp) → All (λ n. IsTag table n.entry.tag) named → All (λ e. IsTag table e.tag) (entries_on named s)
tags_on table named s h =
    All-map (λ (e : TagEntry). IsTag table e.tag) (λ (n : Named). n.entry) (filter (λ n. is_same n.stamp s) named) (All-filter (λ n. is_same n.stamp s) (λ n. IsTag table n.entry.tag) named h)

pub writes_kept : (old new : TagStates) (named : List Named) (s : Stamp) → KeepsIds old new → All (λ n. IsTag old n.entry.tag) named → writes_at new (entries_on named s) ≡ writes_at old (entries_on named s)
writes_kept old new named s k h = entries_kept old new k (entries_on named s) (recursion_from_All (λ (e : TagEntry). IsTag old e.tag) (entries_on named s) (tags_on old named s h))

pub tags_kept : (old new : TagStates) (named : List Named) → KeepsIds old new → All (λ n. IsTag old n.entry.tag) named → All (λ n. IsTag new n.entry.tag) named
tags_kept old new named k h = All-weaker (λ (n : Named). IsTag old n.entry.tag) (λ (n : Named). IsTag new n.entry.tag) (λ n t. (k.tags n.entry.tag t).0) named h

-- one entry more on spans
pub spans_named : (old new : TagStates) (named : List Named) (e : TagEntry) (spans : List Span) → KeepsIds old new → All (λ n. IsTag old n.entry.tag) named → (state : List Write) (s : Stamp)
    → state_after state (writes_at new (entries_on (named ++ map (named_with e) (stamps_in spans)) s))
    ≡ state_after (state_after state (writes_at old (entries_on named s))) (cond (is_in_spans spans s) (write_at new e.tag e.writer e.on ∷ []) [])
spans_named old new named e spans k h state s =
    let more : List Named = map (named_with e) (stamps_in spans) in
    ap (λ es. state_after state (writes_at new es)) (entries_append named more s)
    ∙ ap (state_after state) (map-append (λ (e : TagEntry). write_at new e.tag e.writer e.on) (entries_on named s) (entries_on more s))
    ∙ state_append state (writes_at new (entries_on named s)) (writes_at new (entries_on more s))
    ∙ ap (λ ws. state_after (state_after state ws) (writes_at new (entries_on more s))) (writes_kept old new named s k h)
    ∙ repeated new e s (stamps_in spans) (state_after state (writes_at old (entries_on named s)))
    ∙ ap (λ b. state_after (state_after state (writes_at old (entries_on named s))) (cond b (write_at new e.tag e.writer e.on ∷ []) [])) (spans_name spans s)

pub tags_more : (old new : TagStates) (named : List Named) (e : TagEntry) (ss : List Stamp) → KeepsIds old new → All (λ n. IsTag old n.entry.tag) named → IsTag new e.tag
    → All (λ n. IsTag new n.entry.tag) (named ++ map (named_with e) ss)
tags_more old new named e ss k h t =
    All-append (λ (n : Named). IsTag new n.entry.tag) named (map (named_with e) ss) (tags_kept old new named k h) (All-map (λ (n : Named). IsTag new n.entry.tag) (named_with e) ss (λ i d l. t))

-- one operation more
tags_append : (xs : List Operation) (op : Operation) (s : Stamp) → tag_writes (xs ++ op ∷ []) s ≡ tag_writes xs s ++ tag_writes_by (stamp_of op) op.body s
tags_append [] op s = append-nil (tag_writes_by (stamp_of op) op.body s)
tags_append (x ∷ xs) op s = ap (λ l. tag_writes_by (stamp_of x) x.body s ++ l) (tags_append xs op s) ∙ sym (append_assoc (tag_writes_by (stamp_of x) x.body s) (tag_writes xs s) (tag_writes_by (stamp_of op) op.body s))

pub operation_more : (ops : List Operation) (i : ℕ) (op : Operation) (state : List Write) (s : Stamp) → i < length ops → op ≡ get_or ops i op
    → state_after (state_after state (tag_writes (take i ops) s)) (tag_writes_by (stamp_of op) op.body s) ≡ state_after state (tag_writes (take (i + 1) ops) s)
operation_more ops i op state s l e =
    sym (state_append state (tag_writes (take i ops) s) (tag_writes_by (stamp_of op) op.body s))
    ∙ ap (state_after state) (sym (tags_append (take i ops) op s) ∙ ap (λ xs. tag_writes xs s) (ap (λ x. take i ops ++ x ∷ []) e ∙ sym (take_more ops i op l)))

-- IN ORDER

abbrev pub key_cmp : ℕ × ℕ → ℕ × ℕ → Ordering
key_cmp a b = ordering_then (nat_cmp a.0 b.0) (nat_cmp a.1 b.1)

abbrev pub key_of : Named → ℕ × ℕ
key_of n = (n.stamp.site, n.stamp.count)

lesser : (a b c d : ℕ) → is_lt (ordering_then (nat_cmp a b) (nat_cmp c d)) ≡ (nat_lt a b || ((a == b) && nat_lt c d))
lesser a b c d = grind (arith, nat_tests)

pub entries_stay : (xs ys : List Named) → ((n : Named) → filter (ties (λ a b. is_lt (key_cmp (key_of a) (key_of b))) n) ys ≡ filter (ties (λ a b. is_lt (key_cmp (key_of a) (key_of b))) n) xs)
    → (s : Stamp) → entries_on ys s ≡ entries_on xs s
entries_stay xs ys h s =
    let n : Named = record { stamp = s; entry = record { tag = 0; writer = s; on = true } } in
    let same : (m : Named) → is_same m.stamp s ≡ ties (λ a b. is_lt (key_cmp (key_of a) (key_of b))) n m = λ m. tied s m.stamp in
    ap (map (λ n. n.entry)) (filter_agree (λ m. is_same m.stamp s) (ties (λ a b. is_lt (key_cmp (key_of a) (key_of b))) n) same ys ∙ h n
    ∙ sym (filter_agree (λ m. is_same m.stamp s) (ties (λ a b. is_lt (key_cmp (key_of a) (key_of b))) n) same xs))
  where
    tied : (s t : Stamp) → is_same t s ≡ (not (is_lt (ordering_then (nat_cmp s.site t.site) (nat_cmp s.count t.count))) && not (is_lt (ordering_then (nat_cmp t.site s.site) (nat_cmp t.count s.count))))
    tied s t = sym ((λ i. not (lesser s.site t.site s.count t.count i) && not (lesser t.site s.site t.count s.count i)) ∙ grind (arith, nat_tests))

order_from : (xs : List Named) → ((i j : ℕ) (d : Named) → i ≤ j → j < length xs → precedes (get_or xs j d).stamp (get_or xs i d).stamp ≡ false) → AreByStamp xs
order_from [] h = tt
order_from (x ∷ xs) h = (
  recursion_from_All (λ (later : Named). precedes later.stamp x.stamp ≡ false) xs (λ k d l. h 0 (suc k) d (omega arith) (omega arith)),
  order_from xs (λ i j d l m. h (suc i) (suc j) d (omega arith) (omega arith)),
)

pub in_order : (xs : List Named) → IsSortedBy (λ a b. is_lt (key_cmp (key_of a) (key_of b))) xs → AreByStamp xs
in_order xs h = order_from xs (λ i j d l m.
    sym (lesser (get_or xs j d).stamp.site (get_or xs i d).stamp.site (get_or xs j d).stamp.count (get_or xs i d).stamp.count)
    ∙ sorted_far (λ a b. is_lt (key_cmp (key_of a) (key_of b))) (ranks_by keys_total key_of) xs h i j d l m)
  where
    keys_total : IsTotalOrder key_cmp
    keys_total = then_total (on_total (λ (k : ℕ × ℕ). k.0) nat_cmp_total) (on_total (λ (k : ℕ × ℕ). k.1) nat_cmp_total)

-- IN FRONT

pub front_from : (named : List Named) (s : Stamp) (i : ℕ) (n : Named) → i < length named → n ≡ get_or named i n → is_same n.stamp s ≡ true
    → map (λ n. n.entry) (take_while (λ n. is_same n.stamp s) (drop i named)) ≡ n.entry ∷ map (λ n. n.entry) (take_while (λ n. is_same n.stamp s) (drop (i + 1) named))
front_from named s i n l e t =
    ap (λ xs. map (λ n. n.entry) (take_while (λ n. is_same n.stamp s) xs)) (drop_more named i n l ∙ ap (λ x. x ∷ drop (i + 1) named) (sym e))
    ∙ ap (map (λ n. n.entry)) (take_while-cons (λ n. is_same n.stamp s) n (drop (i + 1) named))
    ∙ ap (λ b. map (λ n. n.entry) (cond b (n ∷ take_while (λ n. is_same n.stamp s) (drop (i + 1) named)) [])) t
