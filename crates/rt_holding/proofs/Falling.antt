-- Held operations fall asleep: what came is looked through, and spans come to their end.
use Rattle.std.proofs.Common.{◌≡◌, ℕ, ◌+◌, Bool, true, false, cond, ◌⊎◌, inl, inr, refl, sym, ap, subst, ◌∙◌, arith, List, [], ◌∷◌, ◌&&◌, ◌==◌, nat_lt, Option, Some}
use Rattle.std.proofs.lemmas.Bool.{cases_lt}
use Rattle.std.proofs.lemmas.Bool.Decides.{nat_tests}
use Rattle.std.specs.BTreeMap.{BTreeMap, get}
use Rattle.std.specs.Ordering.{nat_cmp}
use Rattle.std.specs.List.{flat_map, list_all, list_any}
use Rattle.rt_stamps.specs.declared.fault.Fault.TheVariants.{BadTarget, NotYet}
use Rattle.rt_stamps.specs.declared.stamp.Span.{Span}
use Rattle.rt_stamps.specs.declared.stamp.Stamp.{Stamp}
use Rattle.rt_ops.specs.Operations.{Operation}
use Rattle.rt_ops.specs.Rules.{keeps_rules}
use Rattle.rt_oplog.specs.Logs.{known_end}
use Rattle.rt_rga.specs.Answers.{New, Refused, answer_to, answer_within, has_gap}
use Rattle.rt_rga.specs.Histories.{IsHistory}
use Rattle.rt_rga.proofs.Accepting.{continues_if_new}
use Rattle.rt_rga.proofs.Skipping.{split}
use Rattle.rt_store.specs.Spans.{first_in_span, last_stamp}
use Rattle.rt_holding.specs.declared.waits.Waits.{Waits}
use Rattle.rt_holding.specs.Grown.{HasGrownBy}
use Rattle.rt_holding.specs.Holding.{is_early, is_new, stays}
use Rattle.rt_holding.specs.Kept.{Standing, by_stamp_and_arrival}
use Rattle.rt_rga.specs.Kept.{goes_past}
use Rattle.rt_holding.specs.Waiting.{WaitsAt, awaited_by, awaited_in, came_in, has_new_gap, targets}
use Rattle.rt_holding.specs.Waits.{IfIsThere, are_all_kept, has_begun, has_key, is_due, is_noted, is_waited_for, key_at, sleeps}
use Rattle.rt_holding.specs.Waking.{AreEndsPassed, IsSpanAmong, IsLookedThrough, IsStillWaiting}
use Rattle.rt_holding.proofs.Going.{both, or_left}
use Rattle.rt_holding.proofs.Keeping.{is_new_true}
use Rattle.rt_holding.proofs.Due.{stays_waits}
use Rattle.rt_holding.proofs.Looking.{gap_within, looks_are_enough}
use Rattle.rt_holding.proofs.Waiting.{end_stays, waiting_from}
use Rattle.rt_holding.proofs.Named.{any_of, each_of, one_of}
use Rattle.rt_holding.proofs.Waited.{IsAsleep, IsFine, IsResting, IsWaitedFor, LacksRoom, begun_from, begun_to, goes_from, goes_to, no_new_gap, none_begun, none_came, noted_end, pends, pends_to, stamp, waited_from, waited_to}

-- FROM THE START

early_goes_on : (log : List Operation) (x : Operation) → IsHistory log → is_early (answer_to x log) ≡ true → nat_lt (known_end log x.site) x.prev ≡ false
    → list_any (goes_past log) (targets x.body) ≡ true
early_goes_on log x h e d =
    let w : WaitsAt log x = or_left (is_early (answer_to x log)) (is_new (answer_to x log)) e in
    let c = (waiting_from log x w).prev in
    let p : x.prev ≡ known_end log x.site = same x.prev (known_end log x.site) c d in
    let l = looks_are_enough log log x h h (λ y i. i) w p p in
    not_yet (list_any (has_new_gap log log) (targets x.body)) (list_any (goes_past log) (targets x.body)) (ap is_early (sym l) ∙ e)
  where
    same : (a b : ℕ) → nat_lt a b ≡ false → nat_lt b a ≡ false → a ≡ b
    same a b c d = grind (arith, nat_tests)

    not_yet : (a b : Bool) → is_early (cond a (Refused BadTarget) (cond b (Refused NotYet) New)) ≡ true → b ≡ true
    not_yet true b e = absurd (cc e)
    not_yet false true e = refl
    not_yet false false e = absurd (cc e)

-- nothing goes on
no_keys : (log : List Operation) (spans : List Span) → list_any (goes_past log) spans ≡ false → flat_map (awaited_in log) spans ≡ []
no_keys log [] n = refl
no_keys log (span ∷ spans) n = split (goes_past log span)
    (λ e. absurd (let m : true ≡ false = rw e at n in cc m))
    (λ e. rw e (no_keys log spans (rw e at n)))

-- what it waits for is looked through, and the spans that have come to their end are seen to
module _ (by : ℕ) (older log : List Operation) (ops : BTreeMap Standing (Option Operation)) (grown : HasGrownBy by older log) (old mid new : Waits) (looked : IsLookedThrough by log old mid)
    (ended : AreEndsPassed by log ops mid new) (p : Standing) (x : Operation) (found : get by_stamp_and_arrival ops p ≡ Some (Some x)) (sleeping : is_due p new.due ≡ false) where
  not_due : {A : Type 0} → is_due p new.due ≡ true → A
  not_due d = absurd (cc (d, sleeping))

  key_alone : (s : Stamp) → has_key old.keys.alone p s ≡ true → has_key new.keys.alone p s ≡ true
  key_alone s k = ap (λ keys. has_key keys p s) (ended.alone ∙ looked.alone) ∙ k

  -- a span of the site that has begun
  record IsLooked (span : Span) : Type 0 where
    gap : has_gap log (came_in older log span) ≡ false
    begun : has_key mid.keys.begun p (last_stamp span) ≡ true
    noted : is_noted new.keys.ends span.site (known_end log span.site) ≡ true

  looked_here : (span : Span) → span.site ≡ by → has_key old.keys.begun p (last_stamp span) ≡ true → is_noted old.keys.ends span.site (known_end older span.site) ≡ true → IsLooked span
  looked_here span e k n = elim looked.here [
    | inl gap ↦ not_due (ended.due p (gap.all (key_at (last_stamp span) p) e k))
    | inr h ↦ (let (end, at, l) = noted_end old.keys.ends span.site (known_end older span.site) n in
        let m = end_stays older log grown.among span.site in
        let same = ap (known_end log) e in
        let (gap, noted) = h.noted end (subst (λ site. get nat_cmp old.keys.ends site ≡ Some end) e at) (omega (arith, l, m, same)) in
        record {
          gap = gap_within log (came_in older log span) (record { site = by; first = end + 1; last = known_end log by }) e (omega (arith, l)) (omega (arith, same)) gap;
          begun = ap (λ keys. has_key keys p (last_stamp span)) h.begun ∙ k;
          noted = ap (λ ends. is_noted ends span.site (known_end log span.site)) ended.ends ∙ subst (λ site. is_noted mid.keys.ends site (known_end log site) ≡ true) (sym e) noted;
        })
  ]

  looked_other : (span : Span) → (by == span.site) ≡ false → goes_past older span ≡ true → has_key old.keys.begun p (last_stamp span) ≡ true
      → is_noted old.keys.ends span.site (known_end older span.site) ≡ true → IsLooked span
  looked_other span e g k n =
      let f = (goes_from older span g).end in
      let same = grown.others span.site e in
      record {
        gap = none_came log (came_in older log span) (omega (arith, f, same));
        begun = looked.others (key_at (last_stamp span) p) e ∙ k;
        noted = ap (λ ends. is_noted ends span.site (known_end log span.site)) ended.ends
            ∙ ap (is_noted mid.keys.ends span.site) same ∙ looked.noted span.site (known_end older span.site) e n;
      }

  looked_at : (span : Span) → goes_past older span ≡ true → has_key old.keys.begun p (last_stamp span) ≡ true → is_noted old.keys.ends span.site (known_end older span.site) ≡ true → IsLooked span
  looked_at span g k n = split (by == span.site)
      (λ e. looked_here span (let i : span.site ≡ by = grind (arith, nat_tests, e) in i) k n)
      (λ e. looked_other span e g k n)

  -- one that has begun stays so
  stays_begun : (span : Span) → has_begun older span ≡ true → has_begun log span ≡ true
  stays_begun span b = let l = begun_from older span b in let m = end_stays older log grown.among span.site in begun_to log span (omega (arith, l, m))

  looked_fine : (span : Span) → goes_past older span ≡ true → IsWaitedFor old.keys older p span → IsFine new.keys older log p span
  looked_fine span g (inr a) = inl (λ h. (a.0, key_alone (first_in_span span) a.1))
  looked_fine span g (inl i) =
      let (b, k, n) = i in
      let l = looked_at span g k n in
      inr (
        no_new_gap older log span l.gap,
        waited_to new.keys log p span (λ h. inl (
          stays_begun span b,
          elim (ended.each (key_at (last_stamp span) p) l.begun) [
            | inl c ↦ c
            | inr d ↦ elim d [
              | inl c ↦ not_due c
              | inr a ↦ absurd (let m = (goes_from log span h).end in let u = a.passed in let w = ap (known_end log) a.site in omega (arith, m, u, w))
            ]
          ],
          l.noted,
        )),
      )

  fine_then : (span : Span) → is_waited_for old.keys older p span ≡ true → IsFine new.keys older log p span
  fine_then span w = split (goes_past older span)
      (λ g. looked_fine span g (waited_from old.keys older p span w g))
      (λ g. inl (λ h. absurd (cc (g, h))))

  abbrev IsOn : Type 0
  IsOn = (list_any (goes_past log) (targets x.body) ≡ true) ⊎ (list_any (pends new.keys older log p) (targets x.body) ≡ true)

  -- one that came to its end, when others are waited for
  others_wait : (span : Span) → goes_past older span ≡ true → IsStillWaiting log mid.keys.alone (key_at (last_stamp span) p) (targets x.body) → IsOn
  others_wait span g (inl a) = inl a
  others_wait span g (inr c) =
      let f = goes_from older span g in
      let e = f.end in
      let s = c.site in
      let known : known_end older c.later.site ≡ known_end older span.site = ap (known_end older) s in
      let ends : known_end log c.later.site ≡ known_end log span.site = ap (known_end log) s in
      let is = c.is in
      let behind = c.behind in
      let in_time = c.passed in
      let on = goes_to older c.later (record { site = ap (λ n. n == 0) s ∙ f.site; is = is; end = omega (arith, e, known, is, behind) }) in
      inr (any_of (pends new.keys older log p) (targets x.body) c.later c.among (pends_to new.keys older log p c.later on
      (none_begun older c.later (omega (arith, e, known, behind))) (begun_to log c.later (omega (arith, in_time, ends)))
      (ap (λ keys. has_key keys p (first_in_span c.later)) ended.alone ∙ c.kept)))

  ended_waits : (span : Span) → goes_past older span ≡ true → goes_past log span ≡ false → has_key mid.keys.begun p (last_stamp span) ≡ true → IsOn
  ended_waits span g h k =
      let f = goes_from older span g in
      elim (ended.each (key_at (last_stamp span) p) k) [
        | inl c ↦ absurd (split (by == span.site)
            (λ e. let i : span.site ≡ by = grind (arith, nat_tests, e) in
            let w = ap (known_end log) i in
            elim (cases_lt (known_end log span.site) span.last) [
              | inl l ↦ absurd (let t = goes_to log span (record { site = f.site; is = f.is; end = l }) in cc (t, h))
              | inr l ↦ (let n = ended.left (key_at (last_stamp span) p) i (omega (arith, l, w)) in absurd (cc (c, n)))
            ])
            (λ e. let m = grown.others span.site e in
            let l = f.end in
            let t = goes_to log span (record { site = f.site; is = f.is; end = omega (arith, l, m) }) in cc (t, h)))
        | inr d ↦ elim d [
          | inl c ↦ not_due c
          | inr a ↦ others_wait span g (subst (IfIsThere (λ y. IsStillWaiting log mid.keys.alone (key_at (last_stamp span) p) (targets y.body))) found a.waits)
        ]
      ]

  open_waits : (span : Span) → IsSpanAmong (targets x.body) span → goes_past older span ≡ true → IsWaitedFor old.keys older p span → IsOn
  open_waits span i g w = split (goes_past log span)
      (λ h. inl (any_of (goes_past log) (targets x.body) span i h))
      (λ h. elim w [
        | inl t ↦ (let (b, k, n) = t in ended_waits span g h (looked_at span g k n).begun)
        | inr a ↦ (let f = goes_from older span g in
            let is = f.is in
            elim (cases_lt (known_end log span.site) span.last) [
              | inl l ↦ absurd (let t = goes_to log span (record { site = f.site; is = is; end = l }) in cc (t, h))
              | inr l ↦ inr (any_of (pends new.keys older log p) (targets x.body) span i
                  (pends_to new.keys older log p span g a.0 (begun_to log span (omega (arith, is, l))) (key_alone (first_in_span span) a.1)))
            ])
      ])

  falls_asleep : IsHistory older → is_early (answer_to x older) ≡ true → are_all_kept old.keys older p x ≡ true → IsAsleep new.keys older log p x
  falls_asleep h e k = split (nat_lt (known_end older x.site) x.prev)
      (λ d. let m : has_key old.keys.alone p (stamp x.prev x.site) ≡ true = rw d at k in inl (d, key_alone (stamp x.prev x.site) m))
      (λ d. let m : (has_key old.keys.alone p (stamp (x.prev + 1) x.site) && list_all (is_waited_for old.keys older p) (targets x.body)) ≡ true = rw d at k in
      let (own, all) = both (has_key old.keys.alone p (stamp (x.prev + 1) x.site)) (list_all (is_waited_for old.keys older p) (targets x.body)) m in
      let each = each_of (is_waited_for old.keys older p) (targets x.body) all in
      let o = one_of (goes_past older) (targets x.body) (early_goes_on older x h e d) in
      inr (record {
        prev = d;
        own = key_alone (stamp (x.prev + 1) x.site) own;
        fine = λ span i. fine_then span (each span i);
        waits = open_waits o.span o.among o.is (waited_from old.keys older p o.span (each o.span o.among) o.is);
      }))

  lacks_room : (limit : ℕ) → IsHistory older → keeps_rules x.body ≡ true → stays (answer_within limit x older) ≡ true → is_early (answer_to x older) ≡ false → are_all_kept old.keys older p x ≡ true
      → LacksRoom limit new.keys older p x
  lacks_room limit h r s i k =
      let w = stays_waits limit older x s in
      let n : is_new (answer_to x older) ≡ true = rw i at w in
      let prev = (continues_if_new older x r (is_new_true (answer_to x older) n)).prev in
      let at : x.prev ≡ known_end older x.site = omega (arith, prev) in
      let d : nat_lt (known_end older x.site) x.prev ≡ false = not_lt (known_end older x.site) x.prev at in
      let l = looks_are_enough older older x h h (λ y j. j) w at at in
      let g = none_on (list_any (has_new_gap older older) (targets x.body)) (list_any (goes_past older) (targets x.body)) (ap is_new (sym l) ∙ n) in
      let alone : awaited_by older x ≡ stamp (x.prev + 1) x.site ∷ [] = rw d (ap (λ r. stamp (x.prev + 1) x.site ∷ r) (no_keys older (targets x.body) g)) in
      let m : (has_key old.keys.alone p (stamp (x.prev + 1) x.site) && list_all (is_waited_for old.keys older p) (targets x.body)) ≡ true = rw d at k in
      record {
        full = s;
        waits = w;
        prev = d;
        alone = alone;
        known = g;
        own = key_alone (stamp (x.prev + 1) x.site) (both (has_key old.keys.alone p (stamp (x.prev + 1) x.site)) (list_all (is_waited_for old.keys older p) (targets x.body)) m).0;
      }
    where
      not_lt : (a b : ℕ) → b ≡ a → nat_lt a b ≡ false
      not_lt a b e = grind (arith, nat_tests, e)

      none_on : (a b : Bool) → is_new (cond a (Refused BadTarget) (cond b (Refused NotYet) New)) ≡ true → b ≡ false
      none_on true b e = absurd (cc e)
      none_on false true e = absurd (cc e)
      none_on false false e = refl

  pub falls_to_rest : (limit : ℕ) → IsHistory older → keeps_rules x.body ≡ true → sleeps limit old.keys older p x ≡ true → IsResting limit new.keys older log p x
  falls_to_rest limit h r s =
      let (e, k) = both (stays (answer_within limit x older)) (are_all_kept old.keys older p x) s in
      split (is_early (answer_to x older))
      (λ i. inl (i, falls_asleep h i k))
      (λ i. inr (lacks_room limit h r e i k))
