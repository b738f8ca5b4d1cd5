-- Held operations sleep on while what they wait for comes, span by span.
use Rattle.std.proofs.Common.{length, ◌≡◌, ℕ, ◌+◌, ◌<◌, ◌≤◌, Bool, true, false, ◌⊎◌, inl, inr, refl, sym, ap, subst, ◌∙◌, arith, List, [], ◌&&◌, ◌||◌, ◌==◌, max, nat_le, nat_lt}
use Rattle.std.proofs.lemmas.Bool.{cases_lt}
use Rattle.std.proofs.lemmas.Bool.Decides.{nat_tests}
use Rattle.std.specs.List.{list_any}
use Rattle.rt_stamps.specs.declared.stamp.Span.{Span}
use Rattle.rt_stamps.specs.declared.stamp.Stamp.{Stamp}
use Rattle.rt_stamps.specs.Spans.{is_in_span}
use Rattle.rt_ops.specs.Operations.{Operation}
use Rattle.rt_ops.specs.Rules.{keeps_rules}
use Rattle.rt_oplog.specs.Logs.{known_end}
use Rattle.rt_rga.specs.Answers.{Answer, New, Repeat, Refused, answer_to, answer_within, has_gap, refused_if_full}
use Rattle.rt_rga.specs.Cells.{cells_of}
use Rattle.rt_rga.specs.Histories.{IsHistory, inserted}
use Rattle.rt_rga.proofs.Skipping.{split}
use Rattle.rt_store.specs.Spans.{first_in_span, last_stamp}
use Rattle.rt_holding.specs.declared.waits.Key.{Key}
use Rattle.rt_holding.specs.declared.waits.Keys.{Keys}
use Rattle.rt_holding.specs.Grown.{HasGrownBy}
use Rattle.rt_holding.specs.Holding.{is_early, is_new, stays}
use Rattle.rt_holding.specs.Kept.{Standing}
use Rattle.rt_rga.specs.Kept.{goes_past}
use Rattle.rt_holding.specs.Waiting.{WaitsAt, awaited_by, came_in, has_new_gap, is_passed, targets}
use Rattle.rt_holding.specs.Waits.{IsMore, IsNotedMore, are_all_kept, has_begun, has_key, is_noted, is_waited_for, key_at, sleeps}
use Rattle.rt_holding.specs.Waking.{HasComeIn, IsSpanAmong, IsSeenTo, stamp_of_key}
use Rattle.rt_holding.proofs.Going.{both, left_if_stays, or_left}
use Rattle.rt_holding.proofs.Larger.{no_fewer_cells}
use Rattle.rt_holding.proofs.Due.{left_ones_stay}
use Rattle.rt_holding.proofs.Looking.{looks_are_enough}
use Rattle.rt_holding.proofs.Waiting.{end_stays, unpassed_stay, waiting_from}
use Rattle.rt_holding.proofs.Named.{any_of, none_of, of_each, one_of, target_has}
use Rattle.rt_holding.proofs.Waited.{IsAsleep, IsFine, IsResting, begun_from, begun_to, goes_from, goes_to, no_new_gap, none_begun, none_came, not_begun, pends, pends_from, pends_to, since, stamp, waited_more, waited_to, went_on}

-- MORE KEYS

any_more : (p q : Span → Bool) (xs : List Span) → ((s : Span) → p s ≡ true → q s ≡ true) → list_any p xs ≡ true → list_any q xs ≡ true
any_more p q xs f h = let o = one_of p xs h in any_of q xs o.span o.among (f o.span o.is)

module _ (keys new : Keys) (older log : List Operation) (p : Standing) (x : Operation) (f : (s : Stamp) → has_key keys.alone p s ≡ true → has_key new.alone p s ≡ true)
    (begun : IsMore keys.begun new.begun) (ends : IsNotedMore keys.ends new.ends) where
  more_asleep : IsAsleep keys older log p x → IsAsleep new older log p x
  more_asleep (inl b) = inl (b.0, f (stamp x.prev x.site) b.1)
  more_asleep (inr s) = inr (record {
    prev = s.prev;
    own = f (stamp (x.prev + 1) x.site) s.own;
    fine = λ span i. elim (s.fine span i) [
      | inl k ↦ inl (λ g. let (b, a) = k g in (b, f (first_in_span span) a))
      | inr k ↦ inr (k.0, waited_more keys new log p span (λ g b a. f (first_in_span span) a) (λ s. begun (key_at s p)) ends k.1)
    ];
    waits = elim s.waits [
      | inl g ↦ inl g
      | inr g ↦ inr (any_more (pends keys older log p) (pends new older log p) (targets x.body)
          (λ span h. let (a, b, n, k) = pends_from keys older log p span h in pends_to new older log p span a b n (f (first_in_span span) k)) g)
    ];
  })

  pub more_at_rest : (limit : ℕ) → IsResting limit keys older log p x → IsResting limit new older log p x
  more_at_rest limit (inl a) = inl (a.0, more_asleep a.1)
  more_at_rest limit (inr l) = inr (record { full = l.full; waits = l.waits; prev = l.prev; alone = l.alone; known = l.known; own = f (stamp (x.prev + 1) x.site) l.own })

-- A KEY IS SEEN TO

in_span : (span : Span) (s : Stamp) → s.site ≡ span.site → span.first ≤ s.count → s.count ≤ span.last → is_in_span span s ≡ true
in_span span s e f g = tests s.site span.site span.first s.count span.last e f g
  where
    tests : (a b first count last : ℕ) → a ≡ b → first ≤ count → count ≤ last → ((a == b) && (nat_le first count && nat_le count last)) ≡ true
    tests a b first count last e f g = grind (arith, nat_tests)

module _ (keys new : Keys) (older log : List Operation) (k : Key) (x : Operation) (rules : keeps_rules x.body ≡ true) (passed : k.count ≤ known_end log k.site)
    (rest : (s : Stamp) → has_key keys.alone k.place s ≡ true → (s ≡ stamp_of_key k) ⊎ (has_key new.alone k.place s ≡ true))
    (begun : IsMore keys.begun new.begun) (ends : IsNotedMore keys.ends new.ends) (seen : IsSeenTo log new k x) where
  -- a key of the operation's own site is another
  own_kept : (count : ℕ) → has_key keys.alone k.place (stamp count x.site) ≡ true → has_key new.alone k.place (stamp count x.site) ≡ true
  own_kept count h = elim (rest (stamp count x.site) h) [
    | inl e ↦ absurd (let i = ap (λ (s : Stamp). s.site) e in other i seen.other)
    | inr j ↦ j
  ]
    where
      other : x.site ≡ k.site → (k.site == x.site) ≡ false → ⊥
      other i n = grind (arith, nat_tests, i, n)

  -- the span of the key
  this_span : (span : Span) → IsSpanAmong (targets x.body) span → goes_past older span ≡ true → has_begun older span ≡ false → first_in_span span ≡ stamp_of_key k → IsFine new older log k.place span
  this_span span i g b e =
      let f = goes_from older span g in
      let is = f.is in
      let late = not_begun older span b in
      let site : span.site ≡ k.site = ap (λ (s : Stamp). s.site) e in
      let count : span.first ≡ k.count = ap (λ (s : Stamp). s.count) e in
      let same : span ≡ seen.span = target_has x.body span seen.span (stamp_of_key k) rules i seen.came.among
      (in_span span (stamp_of_key k) (sym site) (omega (arith, count)) (omega (arith, count, is))) seen.came.has in
      let last : span.last ≡ seen.span.last = ap (λ (s : Span). s.last) same in
      let known : known_end log span.site ≡ known_end log k.site = ap (known_end log) site in
      let from : max span.first (known_end older span.site + 1) ≡ k.count = omega (arith, late, count) in
      let came : came_in older log span ≡ since log k seen.span = cc (site, from, last, known) in
      inr (
        no_new_gap older log span (ap (has_gap log) came ∙ seen.came.whole),
        waited_to new log k.place span (λ on. let m = (goes_from log span on).end in
            let n = seen.next (omega (arith, m, last, known)) in
            let at : last_stamp span ≡ stamp seen.span.last k.site = cc (site, last) in
            inl (
              begun_to log span (omega (arith, count, known, passed)),
              ap (has_key new.begun k.place) at ∙ n.0,
              subst (λ z. is_noted new.ends z (known_end log z) ≡ true) (sym site) n.1,
            )),
      )

  -- the key isn't that of a span that hasn't begun
  not_the_key : (span : Span) → has_begun log span ≡ false → has_key keys.alone k.place (first_in_span span) ≡ true → has_key new.alone k.place (first_in_span span) ≡ true
  not_the_key span b a = elim (rest (first_in_span span) a) [
    | inl e ↦ absurd (let late = not_begun log span b in
        let known = ap (λ (s : Stamp). known_end log s.site) e in
        let count : span.first ≡ k.count = ap (λ (s : Stamp). s.count) e in omega (arith, late, known, count, passed))
    | inr j ↦ j
  ]

  still_fine : (span : Span) → IsSpanAmong (targets x.body) span → IsFine keys older log k.place span → IsFine new older log k.place span
  still_fine span i (inl a) = split (goes_past older span)
      (λ g. let (b, h) = a g in elim (rest (first_in_span span) h) [
        | inl e ↦ this_span span i g b e
        | inr j ↦ inl (λ g. (b, j))
      ])
      (λ g. inl (λ h. absurd (cc (g, h))))
  still_fine span i (inr a) = inr (a.0, waited_more keys new log k.place span (λ g b h. not_the_key span b h) (λ s. begun (key_at s k.place)) ends a.1)

  still_waits : (list_any (goes_past log) (targets x.body) ≡ true) ⊎ (list_any (pends keys older log k.place) (targets x.body) ≡ true)
      → (list_any (goes_past log) (targets x.body) ≡ true) ⊎ (list_any (pends new older log k.place) (targets x.body) ≡ true)
  still_waits (inl g) = inl g
  still_waits (inr h) =
      let o = one_of (pends keys older log k.place) (targets x.body) h in
      let (g, b, n, a) = pends_from keys older log k.place o.span o.is in
      elim (rest (first_in_span o.span) a) [
        | inr j ↦ inr (any_of (pends new older log k.place) (targets x.body) o.span o.among (pends_to new older log k.place o.span g b n j))
        | inl e ↦ elim seen.waits [
          | inl w ↦ inl w
          | inr w ↦ (let site : o.span.site ≡ k.site = ap (λ (s : Stamp). s.site) e in
              let count : o.span.first ≡ k.count = ap (λ (s : Stamp). s.count) e in
              let late = not_begun older o.span b in
              let z = (goes_from older o.span g).site in
              let s = w.site in
              let known : known_end older o.span.site ≡ known_end older w.later.site = ap (known_end older) (site ∙ sym s) in
              let there : known_end log w.later.site ≡ known_end log k.site = ap (known_end log) s in
              let is = w.is in
              let behind = w.behind in
              let in_time = w.passed in
              let on = goes_to older w.later (record { site = ap (λ n. n == 0) (s ∙ sym site) ∙ z; is = is; end = omega (arith, count, known, late, is, behind) }) in
              inr (any_of (pends new older log k.place) (targets x.body) w.later w.among (pends_to new older log k.place w.later on
              (none_begun older w.later (omega (arith, count, known, late, behind))) (begun_to log w.later (omega (arith, in_time, there))) w.kept)))
        ]
      ]

  seen_asleep : IsAsleep keys older log k.place x → IsAsleep new older log k.place x
  seen_asleep (inl b) = inl (b.0, own_kept x.prev b.1)
  seen_asleep (inr s) = inr (record {
    prev = s.prev;
    own = own_kept (x.prev + 1) s.own;
    fine = λ span i. still_fine span i (s.fine span i);
    waits = still_waits s.waits;
  })

  pub seen_at_rest : (limit : ℕ) → IsResting limit keys older log k.place x → IsResting limit new older log k.place x
  seen_at_rest limit (inl a) = inl (a.0, seen_asleep a.1)
  seen_at_rest limit (inr l) = inr (record { full = l.full; waits = l.waits; prev = l.prev; alone = l.alone; known = l.known; own = own_kept (x.prev + 1) l.own })

-- what has come in of a span, and doesn't reach its end, goes on
pub came_goes_on : (log : List Operation) (key : Key) (spans : List Span) (span : Span) → HasComeIn log key spans span → known_end log key.site < span.last
    → list_any (goes_past log) spans ≡ true
came_goes_on log key spans span came l =
    let h = came.has in
    let e : key.site ≡ span.site = grind (arith, nat_tests, h) in
    let f : span.first ≤ key.count = grind (arith, nat_tests, h) in
    let m : key.count ≤ span.last = grind (arith, nat_tests, h) in
    let known = ap (known_end log) e in
    any_of (goes_past log) spans span came.among (goes_to log span (record { site = ap (λ n. n == 0) (sym e) ∙ came.site; is = omega (arith, f, m); end = omega (arith, l, known) }))

-- IN THE END

module _ (keys : Keys) (by : ℕ) (older log : List Operation) (p : Standing) (x : Operation) (grown : HasGrownBy by older log) (history : IsHistory log)
    (none : (s : Stamp) → has_key keys.alone p s ≡ true → s.site ≡ by → known_end log by < s.count) where
  -- what is kept and wasn't passed before isn't passed
  unpassed : (s : Stamp) → has_key keys.alone p s ≡ true → known_end older s.site < s.count → known_end log s.site < s.count
  unpassed s h l = split (by == s.site)
      (λ e. let i : s.site ≡ by = grind (arith, nat_tests, e) in let m = none s h i in let n = ap (known_end log) i in omega (arith, m, n))
      (λ e. let m = grown.others s.site e in omega (arith, l, m))

  key_unpassed : (span : Span) → has_begun older span ≡ false → has_key keys.alone p (first_in_span span) ≡ true → known_end log span.site < span.first
  key_unpassed span b h = unpassed (first_in_span span) h (not_begun older span b)

  no_gap : (span : Span) → IsFine keys older log p span → has_new_gap older log span ≡ false
  no_gap span (inr f) = f.0
  no_gap span (inl f) = split (span.site == 0)
      (λ z. rw z refl)
      (λ z. rw z (none_came log (came_in older log span) (split (goes_past older span)
      (λ g. let (b, k) = f g in let m = key_unpassed span b k in omega (arith, m))
      (λ g. elim (cases_lt span.last span.first) [
        | inl l ↦ omega (arith, l)
        | inr l ↦ elim (cases_lt (known_end older span.site) span.last) [
          | inl m ↦ absurd (let t = goes_to older span (record { site = z; is = l; end = m }) in cc (t, g))
          | inr m ↦ omega (arith, l, m)
        ]
      ]))))

  kept_now : (span : Span) → IsFine keys older log p span → is_waited_for keys log p span ≡ true
  kept_now span (inr f) = f.1
  kept_now span (inl f) = waited_to keys log p span (λ g. let (b, k) = f (went_on older log grown.among span g) in inr (none_begun log span (key_unpassed span b k), k))

  waits_now : (list_any (goes_past log) (targets x.body) ≡ true) ⊎ (list_any (pends keys older log p) (targets x.body) ≡ true) → list_any (goes_past log) (targets x.body) ≡ true
  waits_now (inl g) = g
  waits_now (inr h) = absurd (
      let o = one_of (pends keys older log p) (targets x.body) h in
      let (g, b, n, k) = pends_from keys older log p o.span o.is in
      let m = key_unpassed o.span b k in
      let l = begun_from log o.span n in
      early _ _ l m)
    where
      early : (a b : ℕ) → a ≤ b → b < a → ⊥
      early a b h l = omega (arith, h, l)

  sleeps_on : is_early (answer_to x older) ≡ true → IsAsleep keys older log p x → (is_early (answer_to x log) && are_all_kept keys log p x) ≡ true
  sleeps_on e (inl b) =
      let d = b.0 in
      let k = b.1 in
      let w : WaitsAt older x = or_left (is_early (answer_to x older)) (is_new (answer_to x older)) e in
      let l = unpassed (record { count = x.prev; site = x.site }) k (before x.prev (known_end older x.site) d) in
      let n : list_any (is_passed log) (awaited_by older x) ≡ false = rw d (late x.prev (known_end log x.site) l) in
      let same = unpassed_stay older log x grown.history history grown.among w n in
      let early : is_early (answer_to x log) ≡ true = ap is_early same.0 ∙ e in
      let now : nat_lt (known_end log x.site) x.prev ≡ true = is_lt (known_end log x.site) x.prev l in
      let kept : are_all_kept keys log p x ≡ true = rw now k in
      rw early kept
    where
      before : (a b : ℕ) → nat_lt b a ≡ true → b < a
      before a b d = grind (arith, nat_tests, d)

      late : (a b : ℕ) → b < a → (nat_le a b || false) ≡ false
      late a b l = grind (arith, nat_tests)

      is_lt : (a b : ℕ) → a < b → nat_lt a b ≡ true
      is_lt a b l = grind (arith, nat_tests)
  sleeps_on e (inr s) =
      let w : WaitsAt older x = or_left (is_early (answer_to x older)) (is_new (answer_to x older)) e in
      let c = (waiting_from older x w).prev in
      let d = s.prev in
      let was : x.prev ≡ known_end older x.site = same x.prev (known_end older x.site) c d in
      let l = unpassed (record { count = x.prev + 1; site = x.site }) s.own (omega (arith, was)) in
      let g = end_stays older log grown.among x.site in
      let is : x.prev ≡ known_end log x.site = omega (arith, l, g, was) in
      let gaps = none_of (has_new_gap older log) (targets x.body) (λ span i. no_gap span (s.fine span i)) in
      let on = waits_now s.waits in
      let answer = looks_are_enough older log x grown.history history grown.among w was is in
      let early : is_early (answer_to x log) ≡ true = ap is_early answer ∙ (rw (gaps, on) refl) in
      let now : nat_lt (known_end log x.site) x.prev ≡ false = not_lt (known_end log x.site) x.prev is in
      let own = s.own in
      let kept : are_all_kept keys log p x ≡ true = rw now (rw own (of_each (is_waited_for keys log p) (targets x.body) (λ span i. kept_now span (s.fine span i)))) in
      rw early kept
    where
      same : (a b : ℕ) → nat_lt a b ≡ false → nat_lt b a ≡ false → a ≡ b
      same a b c d = grind (arith, nat_tests)

      not_lt : (a b : ℕ) → b ≡ a → nat_lt a b ≡ false
      not_lt a b e = grind (arith, nat_tests, e)

  pub rests_on : (limit : ℕ) → IsResting limit keys older log p x → sleeps limit keys log p x ≡ true
  rests_on limit (inl a) =
      let (e, k) = both (is_early (answer_to x log)) (are_all_kept keys log p x) (sleeps_on a.0 a.1) in
      let s : stays (answer_within limit x log) ≡ true = early_stays (nat_lt limit (length (cells_of log) + length (inserted x))) (answer_to x log) e in
      rw s k
    where
      early_stays : (full : Bool) (a : Answer) → is_early a ≡ true → stays (refused_if_full full a) ≡ true
      early_stays full New e = absurd (cc e)
      early_stays full Repeat e = absurd (cc e)
      early_stays full (Refused fault) e = rw e refl
  rests_on limit (inr l) =
      let c = (waiting_from older x l.waits).prev in
      let own = l.own in
      let u = unpassed (record { count = x.prev + 1; site = x.site }) own (within x.prev (known_end older x.site) c) in
      let n : list_any (is_passed log) (awaited_by older x) ≡ false = ap (list_any (is_passed log)) l.alone ∙ late (x.prev + 1) (known_end log x.site) u in
      let same = unpassed_stay older log x grown.history history grown.among l.waits n in
      let left = left_ones_stay limit [] older log x grown.history history grown.among (no_fewer_cells older log grown.history history grown.among) (left_if_stays limit [] older x l.full) n in
      let s : stays (answer_within limit x log) ≡ true = stays_if_left (stays (answer_within limit x log)) (is_new (answer_within limit x log)) left in
      let m = end_stays older log grown.among x.site in
      let now : nat_lt (known_end log x.site) x.prev ≡ false = not_lt (known_end older x.site) (known_end log x.site) x.prev l.prev m in
      let none : (span : Span) → IsSpanAmong (targets x.body) span → is_waited_for keys log p span ≡ true = λ span i. waited_to keys log p span (λ g.
      let t = any_of (goes_past older) (targets x.body) span i (went_on older log grown.among span g) in
      let f = l.known in absurd (cc (t, f))) in
      let kept : are_all_kept keys log p x ≡ true = rw now (rw own (of_each (is_waited_for keys log p) (targets x.body) none)) in
      rw s kept
    where
      not_lt : (old new prev : ℕ) → nat_lt old prev ≡ false → old ≤ new → nat_lt new prev ≡ false
      not_lt old new prev d m = grind (arith, nat_tests, d)

      within : (a b : ℕ) → nat_lt a b ≡ false → b < a + 1
      within a b c = grind (arith, nat_tests, c)

      late : (a b : ℕ) → b < a → (nat_le a b || false) ≡ false
      late a b l = grind (arith, nat_tests)

      stays_if_left : (a n : Bool) → (a || (n && false)) ≡ true → a ≡ true
      stays_if_left true n e = refl
      stays_if_left false true e = absurd (cc e)
      stays_if_left false false e = absurd (cc e)
