-- What a held operation that sleeps waits for, span by span.
use Rattle.std.proofs.Common.{◌≡◌, ℕ, ◌+◌, ◌-◌, ◌<◌, ◌≤◌, Bool, true, false, cond, not, ◌⊎◌, inl, inr, refl, ap, arith, List, [], ◌∷◌, ◌&&◌, ◌||◌, ◌==◌, max, min, nat_le, nat_lt, Option, Some, None}
use Rattle.std.proofs.lemmas.Bool.Decides.{nat_tests}
use Rattle.std.specs.BTreeMap.{BTreeMap, get}
use Rattle.std.specs.Ordering.{nat_cmp}
use Rattle.std.specs.List.{list_all, list_any}
use Rattle.rt_stamps.specs.declared.stamp.Span.{Span}
use Rattle.rt_stamps.specs.declared.stamp.Stamp.{Stamp}
use Rattle.rt_ops.specs.Operations.{Operation}
use Rattle.rt_oplog.specs.Logs.{known_end}
use Rattle.rt_rga.specs.Answers.{answer_to, answer_within, has_gap, passes_end}
use Rattle.rt_rga.specs.Orders.{AreIn}
use Rattle.rt_rga.proofs.Skipping.{split}
use Rattle.rt_store.specs.Spans.{first_in_span, last_stamp}
use Rattle.rt_holding.specs.declared.waits.Key.{Key}
use Rattle.rt_holding.specs.declared.waits.Keys.{Keys}
use Rattle.rt_holding.specs.Holding.{is_early, stays}
use Rattle.rt_holding.specs.Kept.{Standing}
use Rattle.rt_rga.specs.Kept.{goes_past}
use Rattle.rt_holding.specs.Waiting.{WaitsAt, awaited_by, came_in, has_new_gap, targets}
use Rattle.rt_holding.specs.Waits.{HasLess, HasMore, IsNotedMore, are_all_kept, has_begun, has_key, is_keyed, is_noted, is_waited_for, key_at}
use Rattle.rt_holding.specs.Waking.{IsSpanAmong}
use Rattle.rt_holding.proofs.Going.{both}
use Rattle.rt_holding.proofs.Waiting.{end_stays}
use Rattle.rt_holding.proofs.Named.{each_of, of_each}

-- A SPAN IS WAITED FOR

-- one that has begun, at its last stamp; another at its first
abbrev pub IsWaitedFor : Keys → List Operation → Standing → Span → Type 0
IsWaitedFor keys log p span =
    ((has_begun log span ≡ true) × (has_key keys.begun p (last_stamp span) ≡ true) × (is_noted keys.ends span.site (known_end log span.site) ≡ true))
    ⊎ ((has_begun log span ≡ false) × (has_key keys.alone p (first_in_span span) ≡ true))

pub waited_from : (keys : Keys) (log : List Operation) (p : Standing) (span : Span) → is_waited_for keys log p span ≡ true → goes_past log span ≡ true → IsWaitedFor keys log p span
waited_from keys log p span w g =
    tests (goes_past log span) (has_begun log span) (has_key keys.begun p (last_stamp span)) (has_key keys.alone p (first_in_span span)) (is_noted keys.ends span.site (known_end log span.site)) w g
  where
    tests : (g b kb ka n : Bool) → (not g || (cond b kb ka && (not b || n))) ≡ true → g ≡ true → ((b ≡ true) × (kb ≡ true) × (n ≡ true)) ⊎ ((b ≡ false) × (ka ≡ true))
    tests false b kb ka n w g = absurd (cc g)
    tests true true true ka true w g = inl (refl, refl, refl)
    tests true true true ka false w g = absurd (cc w)
    tests true true false ka n w g = absurd (cc w)
    tests true false kb true n w g = inr (refl, refl)
    tests true false kb false n w g = absurd (cc w)

pub waited_to : (keys : Keys) (log : List Operation) (p : Standing) (span : Span) → (goes_past log span ≡ true → IsWaitedFor keys log p span) → is_waited_for keys log p span ≡ true
waited_to keys log p span f =
    tests (goes_past log span) (has_begun log span) (has_key keys.begun p (last_stamp span)) (has_key keys.alone p (first_in_span span)) (is_noted keys.ends span.site (known_end log span.site)) f
  where
    tests : (g b kb ka n : Bool) → (g ≡ true → ((b ≡ true) × (kb ≡ true) × (n ≡ true)) ⊎ ((b ≡ false) × (ka ≡ true))) → (not g || (cond b kb ka && (not b || n))) ≡ true
    tests false b kb ka n f = refl
    tests true b kb ka n f = elim (f refl) [
      | inl i ↦ (let (x, y, z) = i in rw (x, y, z) refl)
      | inr i ↦ (let (x, y) = i in rw (x, y) refl)
    ]

-- more is kept
pub waited_more : (keys new : Keys) (log : List Operation) (p : Standing) (span : Span)
    → (goes_past log span ≡ true → has_begun log span ≡ false → has_key keys.alone p (first_in_span span) ≡ true → has_key new.alone p (first_in_span span) ≡ true)
    → ((s : Stamp) → has_key keys.begun p s ≡ true → has_key new.begun p s ≡ true) → IsNotedMore keys.ends new.ends → is_waited_for keys log p span ≡ true → is_waited_for new log p span ≡ true
waited_more keys new log p span alone begun ends w = waited_to new log p span (λ g. elim (waited_from keys log p span w g) [
  | inl i ↦ (let (b, k, n) = i in inl (b, begun (last_stamp span) k, ends span.site (known_end log span.site) n))
  | inr i ↦ inr (i.0, alone g i.0 i.1)
])

pub waited_grown : (keys new : Keys) (log : List Operation) (p : Standing) (span : Span) → HasMore keys new → is_waited_for keys log p span ≡ true → is_waited_for new log p span ≡ true
waited_grown keys new log p span m w = waited_more keys new log p span (λ g b k. m.alone (key_at (first_in_span span) p) k) (λ s. m.begun (key_at s p)) m.ends w

-- a key that was taken out stays out
pub keyed_less : (keys new : Keys) (log : List Operation) (p : Standing) (span : Span) → HasLess keys new → (goes_past log span && is_keyed keys log p span) ≡ false
    → (goes_past log span && is_keyed new log p span) ≡ false
keyed_less keys new log p span l n = split (goes_past log span && is_keyed new log p span)
    (λ t. let (g, k) = both (goes_past log span) (is_keyed new log p span) t in
    let j : is_keyed keys log p span ≡ true = back k in
    let u : (goes_past log span && is_keyed keys log p span) ≡ true = rw g j in absurd (cc (u, n)))
    (λ t. t)
  where
    back : is_keyed new log p span ≡ true → is_keyed keys log p span ≡ true
    back k = split (has_begun log span)
        (λ e. let m : has_key new.begun p (last_stamp span) ≡ true = rw e at k in let j = l.begun (key_at (last_stamp span) p) m in rw e j)
        (λ e. let m : has_key new.alone p (first_in_span span) ≡ true = rw e at k in let j = l.alone (key_at (first_in_span span) p) m in rw e j)

-- where more is kept for a place
pub kept_more : (keys new : Keys) (log : List Operation) (p : Standing) (x : Operation) → ((s : Stamp) → has_key keys.alone p s ≡ true → has_key new.alone p s ≡ true)
    → ((s : Stamp) → has_key keys.begun p s ≡ true → has_key new.begun p s ≡ true) → IsNotedMore keys.ends new.ends → are_all_kept keys log p x ≡ true → are_all_kept new log p x ≡ true
kept_more keys new log p x f begun ends h = split (nat_lt (known_end log x.site) x.prev)
    (λ d. let m : has_key keys.alone p (record { count = x.prev; site = x.site }) ≡ true = rw d at h in rw d (f (record { count = x.prev; site = x.site }) m))
    (λ d. let m : (has_key keys.alone p (record { count = x.prev + 1; site = x.site }) && list_all (is_waited_for keys log p) (targets x.body)) ≡ true = rw d at h in
    let (own, all) = both (has_key keys.alone p (record { count = x.prev + 1; site = x.site })) (list_all (is_waited_for keys log p) (targets x.body)) m in
    let on = f (record { count = x.prev + 1; site = x.site }) own in
    let each = each_of (is_waited_for keys log p) (targets x.body) all in
    rw d (rw on (of_each (is_waited_for new log p) (targets x.body) (λ span i. waited_more keys new log p span (λ g b k. f (first_in_span span) k) begun ends (each span i)))))

-- up to where a site was looked through
pub noted_end : (ends : BTreeMap ℕ ℕ) (site count : ℕ) → is_noted ends site count ≡ true → (end : ℕ) × (get nat_cmp ends site ≡ Some end) × (end ≤ count)
noted_end ends site count n = one (get nat_cmp ends site) refl n
  where
    one : (v : Option ℕ) → get nat_cmp ends site ≡ v → elim v [ None ↦ false | Some end ↦ nat_le end count ] ≡ true → (end : ℕ) × (get nat_cmp ends site ≡ Some end) × (end ≤ count)
    one None e h = absurd (cc h)
    one (Some end) e h = (end, e, grind (arith, nat_tests, h))

-- WHAT A SLEEPER WAITS FOR

-- a span that goes on hasn't begun, and its key is kept
abbrev pub IsAlone : Keys → List Operation → Standing → Span → Type 0
IsAlone keys older p span = goes_past older span ≡ true → (has_begun older span ≡ false) × (has_key keys.alone p (first_in_span span) ≡ true)

-- it hasn't begun; or what became known of it has no gap, and what is left is waited for
abbrev pub IsFine : Keys → List Operation → List Operation → Standing → Span → Type 0
IsFine keys older log p span = IsAlone keys older p span ⊎ ((has_new_gap older log span ≡ false) × (is_waited_for keys log p span ≡ true))

-- a span that hadn't begun has, and its key is kept still
abbrev pub pends : Keys → List Operation → List Operation → Standing → Span → Bool
pends keys older log p span = (goes_past older span && not (has_begun older span)) && (has_begun log span && has_key keys.alone p (first_in_span span))

pub record SleepsOn (keys : Keys) (older log : List Operation) (p : Standing) (x : Operation) : Type 0 where
  pub prev : nat_lt (known_end older x.site) x.prev ≡ false
  pub own : has_key keys.alone p (record { count = x.prev + 1; site = x.site }) ≡ true
  pub fine : (span : Span) → IsSpanAmong (targets x.body) span → IsFine keys older log p span
  pub waits : (list_any (goes_past log) (targets x.body) ≡ true) ⊎ (list_any (pends keys older log p) (targets x.body) ≡ true)

-- it waits for the operation before it, or for what it names
abbrev pub IsAsleep : Keys → List Operation → List Operation → Standing → Operation → Type 0
IsAsleep keys older log p x =
    ((nat_lt (known_end older x.site) x.prev ≡ true) × (has_key keys.alone p (record { count = x.prev; site = x.site }) ≡ true)) ⊎ SleepsOn keys older log p x

-- It could be taken if there were room, and waits for one in its own place alone.
pub record LacksRoom (limit : ℕ) (keys : Keys) (older : List Operation) (p : Standing) (x : Operation) : Type 0 where
  pub full : stays (answer_within limit x older) ≡ true
  pub waits : WaitsAt older x
  pub prev : nat_lt (known_end older x.site) x.prev ≡ false
  pub alone : awaited_by older x ≡ record { count = x.prev + 1; site = x.site } ∷ []
  pub known : list_any (goes_past older) (targets x.body) ≡ false
  pub own : has_key keys.alone p (record { count = x.prev + 1; site = x.site }) ≡ true

-- it came too early, or finds no room
abbrev pub IsResting : ℕ → Keys → List Operation → List Operation → Standing → Operation → Type 0
IsResting limit keys older log p x = ((is_early (answer_to x older) ≡ true) × IsAsleep keys older log p x) ⊎ LacksRoom limit keys older p x

abbrev pub stamp : ℕ → ℕ → Stamp
stamp count site = record { count = count; site = site }

-- what became known of a span from a key on
abbrev pub since : List Operation → Key → Span → Span
since log k span = record { site = k.site; first = k.count; last = min span.last (known_end log k.site) }

-- the numbers of a span that goes on
pub record GoesOn (log : List Operation) (span : Span) : Type 0 where
  pub site : (span.site == 0) ≡ false
  pub is : span.first ≤ span.last
  pub end : known_end log span.site < span.last

pub goes_from : (log : List Operation) (span : Span) → goes_past log span ≡ true → GoesOn log span
goes_from log span g =
    let (z, p) = both (not (span.site == 0)) (passes_end log span) g in
    let (i, e) = both (nat_le span.first span.last) (nat_lt (known_end log span.site) span.last) p in
    record { site = turned (span.site == 0) z; is = grind (arith, nat_tests, i); end = grind (arith, nat_tests, e) }
  where
    turned : (a : Bool) → not a ≡ true → a ≡ false
    turned true h = absurd (cc h)
    turned false h = refl

pub goes_to : (log : List Operation) (span : Span) → GoesOn log span → goes_past log span ≡ true
goes_to log span g = tests (span.site == 0) span.first span.last (known_end log span.site) g.site g.is g.end
  where
    tests : (z : Bool) (first last end : ℕ) → z ≡ false → first ≤ last → end < last → (not z && (nat_le first last && nat_lt end last)) ≡ true
    tests z first last end e f g = grind (arith, nat_tests)

-- one that goes on did so before
pub went_on : (older log : List Operation) → AreIn older log → (span : Span) → goes_past log span ≡ true → goes_past older span ≡ true
went_on older log sub span g =
    let f = goes_from log span g in
    let e = f.end in
    let m = end_stays older log sub span.site in
    goes_to older span (record { site = f.site; is = f.is; end = omega (arith, e, m) })

pub begun_from : (log : List Operation) (span : Span) → has_begun log span ≡ true → span.first ≤ known_end log span.site
begun_from log span b = grind (arith, nat_tests, b)

pub begun_to : (log : List Operation) (span : Span) → span.first ≤ known_end log span.site → has_begun log span ≡ true
begun_to log span l = grind (arith, nat_tests, l)

pub not_begun : (log : List Operation) (span : Span) → has_begun log span ≡ false → known_end log span.site < span.first
not_begun log span b = grind (arith, nat_tests, b)

pub none_begun : (log : List Operation) (span : Span) → known_end log span.site < span.first → has_begun log span ≡ false
none_begun log span l = grind (arith, nat_tests, l)

pub pends_from : (keys : Keys) (older log : List Operation) (p : Standing) (span : Span) → pends keys older log p span ≡ true
    → (goes_past older span ≡ true) × (has_begun older span ≡ false) × (has_begun log span ≡ true) × (has_key keys.alone p (first_in_span span) ≡ true)
pends_from keys older log p span h = tests (goes_past older span) (has_begun older span) (has_begun log span) (has_key keys.alone p (first_in_span span)) h
  where
    tests : (g b n k : Bool) → ((g && not b) && (n && k)) ≡ true → (g ≡ true) × (b ≡ false) × (n ≡ true) × (k ≡ true)
    tests true false true true h = (refl, refl, refl, refl)
    tests true false true false h = absurd (cc h)
    tests true false false k h = absurd (cc h)
    tests true true n k h = absurd (cc h)
    tests false b n k h = absurd (cc h)

pub pends_to : (keys : Keys) (older log : List Operation) (p : Standing) (span : Span) → goes_past older span ≡ true → has_begun older span ≡ false → has_begun log span ≡ true
    → has_key keys.alone p (first_in_span span) ≡ true → pends keys older log p span ≡ true
pends_to keys older log p span g b n k = rw (g, b) (rw (n, k) refl)

-- nothing new came in
pub none_came : (log : List Operation) (span : Span) → span.last < span.first → has_gap log span ≡ false
none_came log span l = let e : span.last + 1 - span.first ≡ 0 = omega (arith, l) in rw e refl

pub no_new_gap : (older log : List Operation) (span : Span) → has_gap log (came_in older log span) ≡ false → has_new_gap older log span ≡ false
no_new_gap older log span g = and_false (not (span.site == 0)) (has_gap log (came_in older log span)) g
  where
    and_false : (a b : Bool) → b ≡ false → (a && b) ≡ false
    and_false true b e = e
    and_false false b e = refl
