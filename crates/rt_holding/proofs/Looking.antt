-- A held operation is looked at again: what became known decides.
use Rattle.std.proofs.Common.{◌≡◌, ℕ, ◌+◌, ◌<◌, ◌≤◌, Bool, true, false, not, ◌⊎◌, inl, inr, refl, sym, ap, ◌∙◌, arith, List, [], ◌∷◌, ◌++◌, cond, ◌&&◌, ◌||◌, ◌==◌, nat_le, nat_lt, max, min}
use Rattle.std.proofs.lemmas.Bool.Decides.{nat_tests}
use Rattle.std.specs.List.{list_all, list_any}
use Rattle.rt_stamps.specs.declared.fault.Fault.TheVariants.{NotYet}
use Rattle.rt_stamps.specs.declared.stamp.Span.{Span}
use Rattle.rt_stamps.specs.declared.stamp.Stamp.{Stamp}
use Rattle.rt_stamps.specs.Spans.{is_in_span}
use Rattle.rt_stamps.specs.Stamps.{is_same}
use Rattle.rt_ops.specs.Operations.{Body, Insert, Delete, Tag, Operation, named, stamps_of_span}
use Rattle.rt_oplog.specs.Logs.{known_end}
use Rattle.rt_store.specs.Spans.{is_in_spans}
use Rattle.rt_rga.specs.Answers.{New, Refused, answer_to, can_never_be_known, has_gap, passes_end}
use Rattle.rt_rga.specs.Histories.{IsHistory, has_character, is_known, may_name}
use Rattle.rt_rga.specs.Orders.{AreIn}
use Rattle.rt_rga.proofs.Skipping.{split}
use Rattle.rt_rga.proofs.Continuing.{all_at, all_from, names, none_at}
use Rattle.rt_rga.proofs.Later.{some_named}
use Rattle.rt_rga.proofs.Orders.{any_named}
use Rattle.rt_rga.proofs.Writes.{spans_name}
use Rattle.rt_rga.specs.Kept.{goes_past}
use Rattle.rt_holding.specs.Waiting.{WaitsAt, came_in, has_new_gap, looked_again, targets}
use Rattle.rt_holding.proofs.Waiting.{character_stays, named_target, no_character, not_yet_there, past_of, waiting_from}

-- ONE SPAN

any_end : (p : Stamp → Bool) (xs : List Stamp) → list_any p (xs ++ []) ≡ list_any p xs
any_end p [] = refl
any_end p (x ∷ xs) = ap (λ b. p x || b) (any_end p xs)

or_false : (b : Bool) → (b || false) ≡ b
or_false true = refl
or_false false = refl

in_one : (span : Span) (s : Stamp) → list_any (λ t. is_same t s) (stamps_of_span span) ≡ is_in_span span s
in_one span s = sym (any_end (λ t. is_same t s) (stamps_of_span span)) ∙ spans_name (span ∷ []) s ∙ or_false (is_in_span span s)

record IsIn (span : Span) (s : Stamp) : Type 0 where
  site : s.site ≡ span.site
  first : span.first ≤ s.count
  last : s.count ≤ span.last

in_from : (span : Span) (s : Stamp) → is_in_span span s ≡ true → IsIn span s
in_from span s h = record { site = grind (arith, nat_tests, h); first = grind (arith, nat_tests, h); last = grind (arith, nat_tests, h) }

in_to : (span : Span) (s : Stamp) → IsIn span s → is_in_span span s ≡ true
in_to span s i = tests s.site span.site span.first s.count span.last i.site i.first i.last
  where
    tests : (a b first count last : ℕ) → a ≡ b → first ≤ count → count ≤ last → ((a == b) && (nat_le first count && nat_le count last)) ≡ true
    tests a b first count last e f g = grind (arith, nat_tests)

-- what has no gap has none in a part
pub gap_within : (log : List Operation) (a b : Span) → a.site ≡ b.site → b.first ≤ a.first → a.last ≤ b.last → has_gap log b ≡ false → has_gap log a ≡ false
gap_within log a b e f l n = split (has_gap log a)
    (λ t. let (s, m, c) = some_named (λ s. not (has_character log s)) (stamps_of_span a) t in
    let i = in_from a s (sym (in_one a s) ∙ m) in
    let j = i.first in
    let k = i.last in
    let u : has_gap log b ≡ true = any_named (λ s. not (has_character log s)) (stamps_of_span b) s
    (in_one b s ∙ in_to b s (record { site = i.site ∙ e; first = omega (arith, f, j); last = omega (arith, l, k) })) c in
    absurd (cc (u, n)))
    (λ t. t)

-- NEW GAPS

-- a named stamp that became bad
record BecameBad (log : List Operation) (spans : List Span) (s : Stamp) : Type 0 where
  within : is_in_spans spans s ≡ true
  site : (s.site == 0) ≡ false
  absent : has_character log s ≡ false
  passed : s.count ≤ known_end log s.site

both_true : (a b : Bool) → (a && b) ≡ true → (a ≡ true) × (b ≡ true)
both_true true true h = (refl, refl)
both_true true false h = absurd (cc h)
both_true false b h = absurd (cc h)

not_true : (a : Bool) → not a ≡ true → a ≡ false
not_true true h = absurd (cc h)
not_true false h = refl

gap_from : (older log : List Operation) (span : Span) → has_new_gap older log span ≡ true → (s : Stamp) × BecameBad log (span ∷ []) s
gap_from older log span h =
    let b = both_true (not (span.site == 0)) (has_gap log (came_in older log span)) h in
    let (s, n, a) = some_named (λ s. not (has_character log s)) (stamps_of_span (came_in older log span)) b.1 in
    let i = in_from (came_in older log span) s (sym (in_one (came_in older log span) s) ∙ n) in
    let e : s.site ≡ span.site = i.site in
    let u = ap (known_end log) e in
    let f : max span.first (known_end older span.site + 1) ≤ s.count = i.first in
    let l : s.count ≤ min span.last (known_end log span.site) = i.last in
    let z = not_true (span.site == 0) b.0 in (
      s,
      record {
        within = (let k = in_to span s (record { site = e; first = omega (arith, f); last = omega (arith, l) }) in grind (arith, k));
        site = grind (arith, nat_tests, e, z);
        absent = not_true (has_character log s) a;
        passed = omega (arith, l, u);
      },
    )

gaps_from : (older log : List Operation) (spans : List Span) → list_any (has_new_gap older log) spans ≡ true → (s : Stamp) × BecameBad log spans s
gaps_from older log [] h = absurd (cc h)
gaps_from older log (span ∷ spans) h = split (has_new_gap older log span)
    (λ e. let (s, b) = gap_from older log span e in
    let w = b.within in
    (s, record { within = (let i : is_in_span span s ≡ true = sym (or_false (is_in_span span s)) ∙ w in grind (arith, i)); site = b.site; absent = b.absent; passed = b.passed }))
    (λ e. let (s, b) = gaps_from older log spans (grind (arith, h, e)) in
    let w = b.within in
    (s, record { within = grind (arith, w); site = b.site; absent = b.absent; passed = b.passed }))

gap_to : (older log : List Operation) (span : Span) (s : Stamp) → is_in_span span s ≡ true → (s.site == 0) ≡ false → has_character log s ≡ false
    → known_end older s.site < s.count → s.count ≤ known_end log s.site → has_new_gap older log span ≡ true
gap_to older log span s i z a l m =
    let k = in_from span s i in
    let e = k.site in
    let f = k.first in
    let g = k.last in
    let u = ap (known_end log) e in
    let v = ap (known_end older) e in
    let j = in_to (came_in older log span) s (record { site = e; first = omega (arith, f, l, v); last = omega (arith, g, m, u) }) in
    let y : (span.site == 0) ≡ false = grind (arith, nat_tests, e, z) in
    let n : not (has_character log s) ≡ true = rw a refl in
    let t : has_gap log (came_in older log span) ≡ true = any_named (λ s. not (has_character log s)) (stamps_of_span (came_in older log span)) s (in_one (came_in older log span) s ∙ j) n in
    rw (y, t) refl

gaps_to : (older log : List Operation) (spans : List Span) (s : Stamp) → is_in_spans spans s ≡ true → (s.site == 0) ≡ false → has_character log s ≡ false
    → known_end older s.site < s.count → s.count ≤ known_end log s.site → list_any (has_new_gap older log) spans ≡ true
gaps_to older log [] s i z a l m = absurd (cc i)
gaps_to older log (span ∷ spans) s i z a l m = split (is_in_span span s)
    (λ e. let t = gap_to older log span s e z a l m in grind (arith, t))
    (λ e. let t = gaps_to older log spans s (grind (arith, i, e)) z a l m in grind (arith, t))

-- WHAT GOES ON

going_from : (log : List Operation) (spans : List Span) → list_any (goes_past log) spans ≡ true → (s : Stamp) × ((is_in_spans spans s ≡ true) × ((s.site == 0) ≡ false) × (known_end log s.site < s.count))
going_from log [] h = absurd (cc h)
going_from log (span ∷ spans) h = split (goes_past log span)
    (λ e. let b = both_true (not (span.site == 0)) (passes_end log span) e in
    let c = both_true (nat_le span.first span.last) (nat_lt (known_end log span.site) span.last) b.1 in
    let p = c.0 in
    let q = c.1 in
    let s : Stamp = record { count = span.last; site = span.site } in
    let i : is_in_span span s ≡ true = in_to span s (record { site = refl; first = grind (arith, nat_tests, p); last = omega arith }) in
    (s, (grind (arith, i), not_true (span.site == 0) b.0, grind (arith, nat_tests, q))))
    (λ e. let (s, r) = going_from log spans (grind (arith, h, e)) in let w = r.0 in (s, (grind (arith, w), r.1, r.2)))

going_to : (log : List Operation) (spans : List Span) (s : Stamp) → is_in_spans spans s ≡ true → (s.site == 0) ≡ false → known_end log s.site < s.count → list_any (goes_past log) spans ≡ true
going_to log [] s i z l = absurd (cc i)
going_to log (span ∷ spans) s i z l = split (is_in_span span s)
    (λ e. let k = in_from span s e in
    let f = k.site in
    let g = k.first in
    let m = k.last in
    let y : (span.site == 0) ≡ false = grind (arith, nat_tests, f, z) in
    let u = ap (known_end log) f in
    let p : passes_end log span ≡ true = passes span.first span.last s.count (known_end log span.site) g m (omega (arith, l, u)) in
    let t : goes_past log span ≡ true = rw (y, p) refl in grind (arith, t))
    (λ e. let t = going_to log spans s (grind (arith, i, e)) z l in grind (arith, t))
  where
    passes : (first last count end : ℕ) → first ≤ count → count ≤ last → end < count → (nat_le first last && nat_lt end last) ≡ true
    passes first last count end a b c = grind (arith, nat_tests)

-- WHAT IS ANSWERED

may_zero : (body : Body) (s : Stamp) → (s.site == 0) ≡ false → may_name body s ≡ false
may_zero (Insert after tags text) s h = grind (arith, nat_tests)
may_zero (Delete spans) s h = refl
may_zero (Tag on name spans) s h = grind (arith, nat_tests)

-- a bad stamp, by its tests
bad_tests : (zero may has own within : Bool) → cond zero (not may) (not has && (own || within)) ≡ true
    → ((zero ≡ true) × (may ≡ false)) ⊎ ((zero ≡ false) × (has ≡ false) × ((own ≡ true) ⊎ (within ≡ true)))
bad_tests true true has own within h = absurd (cc h)
bad_tests true false has own within h = inl (refl, refl)
bad_tests false may true own within h = absurd (cc h)
bad_tests false may false true within h = inr (refl, refl, inl refl)
bad_tests false may false false true h = inr (refl, refl, inr refl)
bad_tests false may false false false h = absurd (cc h)

fine_zero : (zero may rest : Bool) → zero ≡ true → cond zero (not may) rest ≡ false → may ≡ true
fine_zero true true rest z e = refl
fine_zero true false rest z e = absurd (cc e)
fine_zero false may rest z e = absurd (cc z)

module _ (older log : List Operation) (op : Operation) (sub : AreIn older log) (fine : list_any (can_never_be_known older op) (named op.body) ≡ false) where
  bad_is_gap : list_any (can_never_be_known log op) (named op.body) ≡ list_any (has_new_gap older log) (targets op.body)
  bad_is_gap = split (list_any (has_new_gap older log) (targets op.body))
      (λ e. let (s, b) = gaps_from older log (targets op.body) e in
      let z = b.site in
      let a = b.absent in
      let p = b.passed in
      let w : nat_le s.count (known_end log s.site) ≡ true = grind (arith, nat_tests, p) in
      let n : can_never_be_known log op s ≡ true = rw (z, a, w) (or_true (s.site == op.site)) in
      any_named (can_never_be_known log op) (named op.body) s (named_target op.body s ∙ b.within) n ∙ sym e)
      (λ e. split (list_any (can_never_be_known log op) (named op.body))
      (λ f. absurd (let (s, n, t) = some_named (can_never_be_known log op) (named op.body) f in
      let o = none_at (can_never_be_known older op) (named op.body) fine s n in
      elim (bad_tests (s.site == 0) (may_name op.body s) (has_character log s) (s.site == op.site) (nat_le s.count (known_end log s.site)) t) [
        | inl z ↦ (let m = fine_zero (s.site == 0) (may_name op.body s) _ z.0 o in let k = z.1 in cc (m, k))
        | inr z ↦ split (has_character older s)
            (λ h. let i = character_stays older log sub s h in let k = z.1 in cc (i, k))
            (λ h. let q = past_of older op s z.0 o h in
            elim z.2 [
              | inl own ↦ (let k = q.0 in cc (own, k))
              | inr w ↦ (let g = gaps_to older log (targets op.body) s (sym (named_target op.body s) ∙ n) z.0 z.1 q.1 (grind (arith, nat_tests, w)) in cc (e, g))
            ])
      ]))
      (λ f. f ∙ sym e))
    where
      or_true : (a : Bool) → (not false && (a || true)) ≡ true
      or_true true = refl
      or_true false = refl

  unknown_goes_on : list_any (can_never_be_known log op) (named op.body) ≡ false → not (list_all (is_known log op.body) (named op.body)) ≡ list_any (goes_past log) (targets op.body)
  unknown_goes_on none = split (list_any (goes_past log) (targets op.body))
      (λ e. let (s, r) = going_from log (targets op.body) e in
      let a = no_character log s r.2 in
      let m = may_zero op.body s r.1 in
      let u : is_known log op.body s ≡ false = rw (a, m) refl in
      let k : list_all (is_known log op.body) (named op.body) ≡ false = split (list_all (is_known log op.body) (named op.body))
      (λ f. absurd (let i = all_at (is_known log op.body) (named op.body) f s (named_target op.body s ∙ r.0) in cc (i, u))) (λ f. f) in
      rw k (sym e))
      (λ e. let k : list_all (is_known log op.body) (named op.body) ≡ true = all_from (is_known log op.body) (named op.body) (λ s n. known s n e) in rw k (sym e))
    where
      right : (a : Bool) → (a || true) ≡ true
      right true = refl
      right false = refl

      known : (s : Stamp) → names op.body s ≡ true → list_any (goes_past log) (targets op.body) ≡ false → is_known log op.body s ≡ true
      known s n e =
          let o = none_at (can_never_be_known log op) (named op.body) none s n in
          split (s.site == 0)
          (λ z. let m = fine_zero (s.site == 0) (may_name op.body s) _ z o in rw m (right (has_character log s)))
          (λ z. split (has_character log s)
          (λ h. rw h refl)
          (λ h. absurd (let q = past_of log op s z o h in let g = going_to log (targets op.body) s (sym (named_target op.body s) ∙ n) z q.1 in cc (e, g))))

pub looks_are_enough : (older log : List Operation) (op : Operation) → IsHistory older → IsHistory log → AreIn older log → WaitsAt older op
    → op.prev ≡ known_end older op.site → op.prev ≡ known_end log op.site → answer_to op log ≡ looked_again older log op
looks_are_enough older log op h m sub w p q =
    let o = waiting_from older op w in
    let b = o.stamp in
    let a = not_yet_there log op b (omega (arith, q)) in
    let c : nat_lt op.prev (known_end log op.site) ≡ false = grind (arith, nat_tests, q) in
    let d : nat_lt (known_end log op.site) op.prev ≡ false = grind (arith, nat_tests, q) in
    let e : list_any (can_never_be_known older op) (named op.body) ≡ false = elim o.either [
      | inl x ↦ absurd (early (known_end older op.site) op.prev x p)
      | inr x ↦ x.1
    ] in
    let g = bad_is_gap older log op sub e in
    rw (b, a, c, d) (split (list_any (can_never_be_known log op) (named op.body))
    (λ f. rw (f, sym g ∙ f) refl)
    (λ f. let u = unknown_goes_on older log op sub e f in rw (f, sym g ∙ f) (ap (λ t. cond t (Refused NotYet) New) u)))
  where
    early : (a b : ℕ) → nat_lt a b ≡ true → b ≡ a → ⊥
    early a b x p = grind (arith, nat_tests)
