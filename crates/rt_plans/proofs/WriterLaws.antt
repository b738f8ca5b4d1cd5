-- What tag operations leave: writers that are known, and tags that are listed.
use Rattle.std.proofs.Common.{◌≡◌, ℕ, zero, suc, ◌+◌, ◌-◌, ◌*◌, ◌/◌, ◌<◌, ◌≤◌, ◌⊎◌, inl, inr, List, [], ◌∷◌, Bool, true, false, cond, not, ◌||◌, ◌&&◌, All, length, map, filter, refl, sym, ◌∙◌, ap, subst, arith, Option, Some, None}
use Rattle.std.specs.List.{list_any}
use Rattle.std.specs.Str.{bytes_eq}
use Rattle.std.proofs.lemmas.Bool.{or_left, or_right, and_parts, and_from, cond-true, cond-false, lt-ltb}
use Rattle.std.proofs.lemmas.Bool.Decides.{nat_tests}
use Rattle.std.proofs.Math.Nat.{add-div_right, div-mul-le_self}
use Rattle.std.proofs.lemmas.Nat.{le-div}
use Rattle.std.proofs.lemmas.List.Elements.{All-head, All-tail, All-cons, All-nil}
use Rattle.rt_stamps.specs.declared.limits.TheConstants.{MOST_SPANS}
use Rattle.rt_stamps.specs.declared.stamp.Stamp.{Stamp}
use Rattle.rt_stamps.specs.Stamps.{is_same, is_before}
use Rattle.rt_stamps.specs.Words.{Word}
use Rattle.rt_stamps.proofs.Order.{same_from_true}
use Rattle.rt_store.specs.Cells.{with_state}
use Rattle.rt_tags.specs.Tags.{sel}
use Rattle.rt_plans.specs.TagWrites.{without_tag, without_tags, changed_stamps, spans_before, operation_of, tag_write, cell_with_tag, with_tag_at}
use Rattle.rt_store.specs.Shown.{TaggedCell}
use Rattle.rt_tags.specs.States.{Write, is_on, says_on, write_of, written}
use Rattle.rt_tags.proofs.Greatest.{newer, write_of_written}
use Rattle.rt_tags.proofs.Places.{same_name, name_itself}
use Rattle.rt_plans.specs.DocValue.{DocValue}
use Rattle.rt_store.specs.Written.{IsWritten, AreWritten}
use Rattle.rt_plans.specs.Removals.{cells_at, span_count, operations_for}
use Rattle.rt_store.specs.Spans.{precedes, next_stamp, is_among}
use Rattle.rt_store.proofs.Distinct.{split}

-- THE LAST OPERATION

-- a stamp at which a span ends
abbrev pub is_end : List Stamp → Stamp → Bool
is_end stamps s = not (is_among stamps (next_stamp s))

counts : List Stamp → ℕ
counts [] = 0
counts (x ∷ xs) = x.count + counts xs

count_within : (xs : List Stamp) (s : Stamp) → is_among xs s ≡ true → s.count ≤ counts xs
unfolding counts
count_within [] s h = let bad : ⊥ = cc in absurd bad
count_within (x ∷ xs) s h =
    split (is_same x s)
    (λ e. let same : x.count ≡ s.count = ap (λ (t : Stamp). t.count) (same_from_true x s e) in omega (arith, same))
    (λ e. let rest : s.count ≤ counts xs = count_within xs s (ap (λ b. b || is_among xs s) (sym e) ∙ h) in omega (arith, rest))

any_at : (test : Stamp → Bool) (xs : List Stamp) (s : Stamp) → is_among xs s ≡ true → test s ≡ true → list_any test xs ≡ true
any_at test [] s h e = let bad : ⊥ = cc in absurd bad
any_at test (x ∷ xs) s h e =
    split (is_same x s)
    (λ t. or_left (test x) _ (ap test (same_from_true x s t) ∙ e))
    (λ f. or_right (test x) _ (any_at test xs s (ap (λ b. b || is_among xs s) (sym f) ∙ h) e))

any_more : (p q : Stamp → Bool) (xs : List Stamp) → ((s : Stamp) → p s ≡ true → q s ≡ true) → list_any p xs ≡ true → list_any q xs ≡ true
any_more p q [] h e = e
any_more p q (x ∷ xs) h e =
    split (p x)
    (λ t. or_left (q x) _ (h x t))
    (λ f. or_right (q x) _ (any_more p q xs h (ap (λ b. b || list_any p xs) (sym f) ∙ e)))

not_itself : (s : Stamp) → not (precedes s s) ≡ true
not_itself s = grind (arith, nat_tests)

not_next : (x s : Stamp) → not (precedes x (next_stamp s)) ≡ true → not (precedes x s) ≡ true
not_next x s h = grind (arith, nat_tests)

-- the span of a stamp ends there or later
abbrev pub ends_after : List Stamp → Stamp → Bool
ends_after stamps s = list_any (λ x. is_end stamps x && not (precedes x s)) stamps

ends_here : (stamps : List Stamp) (s : Stamp) → is_among stamps s ≡ true → is_among stamps (next_stamp s) ≡ false → ends_after stamps s ≡ true
ends_here stamps s h f = any_at (λ x. is_end stamps x && not (precedes x s)) stamps s h (and_from (is_end stamps s) _ (ap not f) (not_itself s))

ends_behind : (stamps : List Stamp) (k : ℕ) (s : Stamp) → is_among stamps s ≡ true → counts stamps ≤ s.count + k → ends_after stamps s ≡ true
ends_behind stamps zero s h l =
    split (is_among stamps (next_stamp s))
    (λ t. let more : s.count + 1 ≤ counts stamps = count_within stamps (next_stamp s) t in absurd (omega (arith, more, l)))
    (λ f. ends_here stamps s h f)
ends_behind stamps (suc k) s h l =
    split (is_among stamps (next_stamp s))
    (λ t. any_more (λ x. is_end stamps x && not (precedes x (next_stamp s))) (λ x. is_end stamps x && not (precedes x s)) stamps
    (λ x e. let p = and_parts (is_end stamps x) (not (precedes x (next_stamp s))) e in and_from (is_end stamps x) _ p.0 (not_next x s p.1))
    (ends_behind stamps k (next_stamp s) t (omega (arith, l))))
    (λ f. ends_here stamps s h f)

-- more pass a test that is weaker
few_pass : (p q : Stamp → Bool) (xs : List Stamp) → ((s : Stamp) → p s ≡ true → q s ≡ true) → length (filter p xs) ≤ length (filter q xs)
few_pass p q [] h = omega arith
few_pass p q (x ∷ xs) h = by (p x) (q x) (h x) (few_pass p q xs h)
  where
    by : (a b : Bool) → (a ≡ true → b ≡ true) → length (filter p xs) ≤ length (filter q xs) → length (cond a (x ∷ filter p xs) (filter p xs)) ≤ length (cond b (x ∷ filter q xs) (filter q xs))
    by true true h l = omega (arith, l)
    by true false h l = let no : false ≡ true = h refl in let bad : ⊥ = cc in absurd bad
    by false true h l = omega (arith, l)
    by false false h l = l

fewer_pass : (p q : Stamp → Bool) (xs : List Stamp) → ((s : Stamp) → p s ≡ true → q s ≡ true) → list_any (λ s. q s && not (p s)) xs ≡ true → length (filter p xs) < length (filter q xs)
fewer_pass p q [] h e = let bad : ⊥ = cc in absurd bad
fewer_pass p q (x ∷ xs) h e = by (p x) (q x) (h x) e (few_pass p q xs h) (λ k. fewer_pass p q xs h k)
  where
    by : (a b : Bool) → (a ≡ true → b ≡ true) → ((b && not a) || list_any (λ s. q s && not (p s)) xs) ≡ true → length (filter p xs) ≤ length (filter q xs)
        → (list_any (λ s. q s && not (p s)) xs ≡ true → length (filter p xs) < length (filter q xs))
        → length (cond a (x ∷ filter p xs) (filter p xs)) < length (cond b (x ∷ filter q xs) (filter q xs))
    by true true h e l r = let k = r e in omega (arith, k)
    by true false h e l r = let no : false ≡ true = h refl in let bad : ⊥ = cc in absurd bad
    by false true h e l r = omega (arith, l)
    by false false h e l r = r e

-- fewer spans end before a stamp of theirs than there are
spans_fewer : (stamps : List Stamp) (s : Stamp) → is_among stamps s ≡ true → spans_before stamps s < span_count stamps
spans_fewer stamps s h =
    fewer_pass (λ x. precedes x s && is_end stamps x) (is_end stamps) stamps (λ x e. (and_parts (precedes x s) (is_end stamps x) e).1)
    (any_more (λ x. is_end stamps x && not (precedes x s)) (λ x. is_end stamps x && not (precedes x s && is_end stamps x)) stamps
    (λ x e. let p = and_parts (is_end stamps x) (not (precedes x s)) e in
    and_from (is_end stamps x) _ p.0 (before_not (precedes x s) (is_end stamps x) p.1))
    (ends_behind stamps (counts stamps) s h (omega arith)))
  where
    before_not : (a b : Bool) → not a ≡ true → not (a && b) ≡ true
    before_not true b h = let bad : ⊥ = cc in absurd bad
    before_not false b h = refl

divided : (m a b : ℕ) → 0 < m → a < b → a / m < (b + (m - 1)) / m
divided m a b h l =
    let e : (a + m) / m ≡ a / m + 1 = add-div_right a h in
    let f : (a + m) / m * m ≤ a + m = div-mul-le_self (a + m) m in
    let g : (a + m) / m ≤ (b + (m - 1)) / m = le-div ((a + m) / m) (b + (m - 1)) m h (omega (arith, f, l, h)) in
    omega (arith, e, g)

-- the operation that names a stamp has one of the counts that the operations take
pub operation_within : (count : ℕ) (stamps : List Stamp) (s : Stamp) → is_among stamps s ≡ true → count + 1 + operation_of stamps s ≤ count + operations_for (span_count stamps)
operation_within count stamps s h =
    let less : operation_of stamps s < operations_for (span_count stamps) = divided MOST_SPANS (spans_before stamps s) (span_count stamps) (omega arith) (spans_fewer stamps s h) in
    omega (arith, less)

-- ONE MORE WRITE

newer_within : (later : ℕ) (o : Option Write) (w : Write) → ((v : Write) → o ≡ Some v → v.writer.count ≤ later) → w.writer.count ≤ later → (newer o w).writer.count ≤ later
newer_within later None w h k = k
newer_within later (Some v) w h k = by (is_before v.writer w.writer)
  where
    by : (b : Bool) → (cond b w v).writer.count ≤ later
    by true = k
    by false = h v refl

-- the writes stay known
pub written_known : (count later : ℕ) (w : Write) (state : List Write) → count ≤ later → w.writer.count ≤ later → IsWritten count state → IsWritten later (written w state)
written_known count later w state h k known = λ q v e. by (bytes_eq q w.name) v q (sym (write_of_written q w state) ∙ e)
  where
    by : (b : Bool) (v : Write) (q : Word) → cond b (Some (newer (write_of w.name state) w)) (write_of q state) ≡ Some v → v.writer.count ≤ later
    by true v q e =
        let same : newer (write_of w.name state) w ≡ v = cc in
        subst (λ (x : Write). x.writer.count ≤ later) same (newer_within later (write_of w.name state) w (λ x f. let l = known w.name x f in omega (arith, l)) k)
    by false v q e = let l = known q v e in omega (arith, l)

newer_on : (o : Option Write) (w : Write) → says_on (Some (newer o w)) ≡ true → (says_on o ≡ true) ⊎ (w.on ≡ true)
newer_on None w h = inr h
newer_on (Some v) w h = by (is_before v.writer w.writer) h
  where
    by : (b : Bool) → (cond b w v).on ≡ true → (v.on ≡ true) ⊎ (w.on ≡ true)
    by true e = inr e
    by false e = inl e

-- a tag that is on was on before, or it was put on
pub written_on : (q : Word) (w : Write) (state : List Write) → is_on q (written w state) ≡ true → (is_on q state ≡ true) ⊎ ((bytes_eq q w.name ≡ true) × (w.on ≡ true))
written_on q w state h =
    let e : says_on (cond (bytes_eq q w.name) (Some (newer (write_of w.name state) w)) (write_of q state)) ≡ true = ap says_on (sym (write_of_written q w state)) ∙ h in
    split (bytes_eq q w.name)
    (λ t. elim (newer_on (write_of w.name state) w (ap (λ b. says_on (cond b (Some (newer (write_of w.name state) w)) (write_of q state))) (sym t) ∙ e)) [
      | inl on ↦ inl (ap (λ n. is_on n state) (same_name q w.name t) ∙ on)
      | inr on ↦ inr (t, on)
    ])
    (λ f. inl (ap (λ b. says_on (cond b (Some (newer (write_of w.name state) w)) (write_of q state))) (sym f) ∙ e))

newest : (count : ℕ) (o : Option Write) (w : Write) → ((v : Write) → o ≡ Some v → v.writer.count ≤ count) → count < w.writer.count → newer o w ≡ w
newest count None w h k = refl
newest count (Some v) w h k = let l = h v refl in cond-true (is_before v.writer w.writer) w v (or_left _ _ (lt-ltb v.writer.count w.writer.count (omega (arith, l))))

-- a tag that is written under a new count is on or off as the write says
pub written_as : (count : ℕ) (w : Write) (state : List Write) → IsWritten count state → count < w.writer.count → is_on w.name (written w state) ≡ w.on
written_as count w state known k =
    ap says_on (write_of_written w.name w state) ∙ ap (λ b. says_on (cond b (Some (newer (write_of w.name state) w)) (write_of w.name state))) (name_itself w.name)
    ∙ ap (λ (x : Write). x.on) (newest count (write_of w.name state) w (λ v e. known w.name v e) k)

-- CELLS

module _ (site count : ℕ) (name : Word) (on : Bool) (stamps : List Stamp) where
  pub tagged_written : (cell : TaggedCell) → IsWritten count cell.state → IsWritten (count + operations_for (span_count stamps)) (cell_with_tag site count name on stamps cell).state
  tagged_written cell h =
      split (is_among stamps cell.stamp)
      (λ t. let l = operation_within count stamps cell.stamp t in
      subst (λ (c : TaggedCell). IsWritten (count + operations_for (span_count stamps)) c.state)
      (sym (cond-true (is_among stamps cell.stamp) (with_state (written (tag_write site count name on stamps cell.stamp) cell.state) cell) cell t))
      (written_known count (count + operations_for (span_count stamps)) (tag_write site count name on stamps cell.stamp) cell.state (omega arith) (omega (arith, l)) h))
      (λ f. subst (λ (c : TaggedCell). IsWritten (count + operations_for (span_count stamps)) c.state)
      (sym (cond-false (is_among stamps cell.stamp) (with_state (written (tag_write site count name on stamps cell.stamp) cell.state) cell) cell f))
      (λ q v e. let l = h q v e in omega (arith, l)))

  pub tagged_on : (q : Word) (cell : TaggedCell) → is_on q (cell_with_tag site count name on stamps cell).state ≡ true → (is_on q cell.state ≡ true) ⊎ ((bytes_eq q name ≡ true) × (on ≡ true))
  tagged_on q cell h =
      split (is_among stamps cell.stamp)
      (λ t. written_on q (tag_write site count name on stamps cell.stamp) cell.state
      (ap (λ (c : TaggedCell). is_on q c.state) (sym (cond-true (is_among stamps cell.stamp) (with_state (written (tag_write site count name on stamps cell.stamp) cell.state) cell) cell t)) ∙ h))
      (λ f. inl (ap (λ (c : TaggedCell). is_on q c.state) (sym (cond-false (is_among stamps cell.stamp) (with_state (written (tag_write site count name on stamps cell.stamp) cell.state) cell) cell f)) ∙ h))

pub all_map : (P Q : TaggedCell → Type 0) (g : TaggedCell → TaggedCell) → ((c : TaggedCell) → P c → Q (g c)) → (cells : List TaggedCell) → All P cells → All Q (map g cells)
all_map P Q g h [] k = All-nil Q
all_map P Q g h (c ∷ cs) k = All-cons Q (g c) (map g cs) (h c (All-head P c cs k)) (all_map P Q g h cs (All-tail P c cs k))

-- the writers on a document's characters stay known
pub tag_written : (doc : DocValue) (places : ℕ → Bool) (on : Bool) (name : Word) → AreWritten doc.count doc.cells → AreWritten (with_tag_at doc places on name).count (with_tag_at doc places on name).cells
tag_written doc places on name h =
    let stamps = changed_stamps name on (cells_at places 0 doc.cells) in
    all_map (λ c. IsWritten doc.count c.state) (λ c. IsWritten (doc.count + operations_for (span_count stamps)) c.state) (cell_with_tag doc.site doc.count name on stamps) (tagged_written doc.site doc.count name on stamps) doc.cells h

pub tag_grows : (doc : DocValue) (places : ℕ → Bool) (on : Bool) (name : Word) → doc.count ≤ (with_tag_at doc places on name).count
tag_grows doc places on name = omega arith

without_grows : (doc : DocValue) (name : Word) → doc.count ≤ (without_tag doc name).count
without_grows doc name =
    split (bytes_eq name sel)
    (λ t. let same : (without_tag doc name).count ≡ doc.count = ap (λ (f : DocValue). f.count) (cond-true (bytes_eq name sel) doc _ t) in omega (arith, same))
    (λ f. let same : (without_tag doc name).count ≡ (with_tag_at doc (λ _. true) false name).count = ap (λ (f : DocValue). f.count) (cond-false (bytes_eq name sel) doc _ f) in omega (arith, same, tag_grows doc (λ _. true) false name))

pub all_without_grows : (names : List Word) (doc : DocValue) → doc.count ≤ (without_tags doc names).count
all_without_grows [] doc = omega arith
all_without_grows (name ∷ names) doc = omega (arith, without_grows doc name, all_without_grows names (without_tag doc name))
