-- What a held operation waits for.
use Rattle.std.proofs.Common.{◌≡◌, ℕ, ◌+◌, ◌<◌, ◌≤◌, Bool, true, false, not, ◌⊎◌, inl, inr, refl, sym, ap, ◌∙◌, arith, List, [], ◌∷◌, ◌++◌, cond, ◌&&◌, ◌||◌, ◌==◌, nat_le, nat_lt, max}
use Rattle.std.proofs.lemmas.Bool.Decides.{nat_tests}
use Rattle.std.proofs.lemmas.Bool.{cases_lt}
use Rattle.std.specs.List.{flat_map, list_all, list_any}
use Rattle.rt_stamps.specs.declared.fault.Fault.TheVariants.{BadStamp, BadTarget, Conflict, NotYet}
use Rattle.rt_stamps.specs.declared.stamp.Span.{Span}
use Rattle.rt_stamps.specs.declared.stamp.Stamp.{Stamp}
use Rattle.rt_stamps.specs.Spans.{is_in_span}
use Rattle.rt_stamps.specs.Stamps.{is_same}
use Rattle.rt_ops.specs.Operations.{Body, Insert, Delete, Tag, Operation, has_bad_stamp, named}
use Rattle.rt_oplog.specs.Logs.{holds, known_end}
use Rattle.rt_oplog.proofs.Sets.{has_held}
use Rattle.rt_store.specs.Spans.{is_in_spans}
use Rattle.rt_rga.specs.Answers.{New, Repeat, Refused, answer_to, can_never_be_known, passes_end}
use Rattle.rt_rga.specs.Histories.{IsHistory, has_character, is_known, may_name}
use Rattle.rt_rga.specs.Orders.{AreIn}
use Rattle.rt_rga.proofs.Skipping.{split}
use Rattle.rt_rga.proofs.Accepting.{end_of}
use Rattle.rt_rga.proofs.Continuing.{names, none_at, none_from}
use Rattle.rt_rga.proofs.Histories.{character_end, last_ge}
use Rattle.rt_rga.proofs.Later.{bad_prev}
use Rattle.rt_rga.proofs.Orders.{character_of, end_reached, insert_of}
use Rattle.rt_rga.proofs.Writes.{spans_name}
use Rattle.rt_holding.specs.Holding.{is_early, is_new}
use Rattle.rt_rga.specs.Kept.{goes_past}
use Rattle.rt_holding.specs.Waiting.{NoneIsPassed, WaitsAt, awaited_by, awaited_in, is_passed, targets}

-- LISTS

pub any_both : {A : Type 0} (p : A → Bool) (xs ys : List A) → list_any p (xs ++ ys) ≡ false → (list_any p xs ≡ false) × (list_any p ys ≡ false)
any_both p [] ys h = (refl, h)
any_both p (x ∷ xs) ys h = split (p x)
    (λ e. absurd (grind (arith, h, e)))
    (λ e. let r = any_both p xs ys (grind (arith, h, e)) in let a = r.0 in (grind (arith, e, a), r.1))

same_all : (p q : Stamp → Bool) (xs : List Stamp) → ((s : Stamp) → list_any (λ t. is_same t s) xs ≡ true → p s ≡ q s) → list_all p xs ≡ list_all q xs
same_all p q [] f = refl
same_all p q (x ∷ xs) f =
    let e : p x ≡ q x = f x (here x) in
    let i = same_all p q xs (λ s h. f s (grind (arith, h))) in
    ap (λ b. b && list_all p xs) e ∙ ap (λ b. q x && b) i
  where
    here : (x : Stamp) → (is_same x x || list_any (λ t. is_same t x) xs) ≡ true
    here x = let i : is_same x x ≡ true = grind (arith, nat_tests) in grind (arith, i)

-- WHAT IS NAMED

pub named_target : (body : Body) (s : Stamp) → names body s ≡ is_in_spans (targets body) s
named_target (Insert after tags text) s = grind (arith, nat_tests)
named_target (Delete spans) s = spans_name spans s
named_target (Tag on name spans) s = spans_name spans s

-- LARGER HISTORIES

pub character_stays : (older log : List Operation) → AreIn older log → (s : Stamp) → has_character older s ≡ true → has_character log s ≡ true
character_stays older log sub s h = let (x, i, t) = insert_of older s h in character_of log x s (sub x i) t

pub end_stays : (older log : List Operation) → AreIn older log → (site : ℕ) → known_end older site ≤ known_end log site
end_stays older log sub site = elim (cases_lt 0 (known_end older site)) [
  | inl l ↦ (let (x, i, s, t) = end_reached older site l in let a = end_of log x (sub x i) in let b = ap (known_end log) s in omega (arith, a, b, t))
  | inr l ↦ omega (arith, l)
]

-- a log that hasn't come past its previous count hasn't an operation
pub not_yet_there : (log : List Operation) (op : Operation) → has_bad_stamp op ≡ false → known_end log op.site ≤ op.prev → holds log op ≡ false
not_yet_there log op b l = split (holds log op)
    (λ e. absurd (let i = end_of log op (has_held log op e) in let j = bad_prev op b in let k = last_ge op.count op.body in omega (arith, i, j, k, l)))
    (λ e. e)

pub no_character : (log : List Operation) (s : Stamp) → known_end log s.site < s.count → has_character log s ≡ false
no_character log s l = split (has_character log s) (λ e. absurd (let a = character_end log s e in omega (arith, a, l))) (λ e. e)

-- WHAT WAITS

pub record IsWaiting (log : List Operation) (op : Operation) : Type 0 where
  pub stamp : has_bad_stamp op ≡ false
  pub absent : holds log op ≡ false
  pub prev : nat_lt op.prev (known_end log op.site) ≡ false
  pub either : (nat_lt (known_end log op.site) op.prev ≡ true) ⊎ ((nat_lt (known_end log op.site) op.prev ≡ false) × (list_any (can_never_be_known log op) (named op.body) ≡ false))

wait_tests : (P : Type 0) (b h c d e f : Bool) → (b ≡ false → h ≡ false → c ≡ false → (d ≡ true) ⊎ ((d ≡ false) × (e ≡ false)) → P)
    → (is_early (cond b (Refused BadStamp) (cond h Repeat (cond c (Refused Conflict) (cond d (Refused NotYet) (cond e (Refused BadTarget) (cond f (Refused NotYet) New))))))
    || is_new (cond b (Refused BadStamp) (cond h Repeat (cond c (Refused Conflict) (cond d (Refused NotYet) (cond e (Refused BadTarget) (cond f (Refused NotYet) New))))))) ≡ true → P
wait_tests P true h c d e f k w = absurd (cc w)
wait_tests P false true c d e f k w = absurd (cc w)
wait_tests P false false true d e f k w = absurd (cc w)
wait_tests P false false false true e f k w = k refl refl refl (inl refl)
wait_tests P false false false false true f k w = absurd (cc w)
wait_tests P false false false false false f k w = k refl refl refl (inr (refl, refl))

pub waiting_from : (log : List Operation) (op : Operation) → WaitsAt log op → IsWaiting log op
waiting_from log op w = wait_tests (IsWaiting log op) (has_bad_stamp op) (holds log op) (nat_lt op.prev (known_end log op.site)) (nat_lt (known_end log op.site) op.prev)
    (list_any (can_never_be_known log op) (named op.body)) (not (list_all (is_known log op.body) (named op.body)))
    (λ b h c d. record { stamp = b; absent = h; prev = c; either = d }) w

-- the tests of a named stamp
pub never_tests : (zero may has own within : Bool) → zero ≡ false → cond zero (not may) (not has && (own || within)) ≡ false → has ≡ false → (own ≡ false) × (within ≡ false)
never_tests true may has own within z e h = absurd (cc z)
never_tests false may true own within z e h = absurd (cc h)
never_tests false may false true within z e h = absurd (cc e)
never_tests false may false false true z e h = absurd (cc e)
never_tests false may false false false z e h = (refl, refl)

-- what is no character of an older log, and not bad there, is past the known end of another site
pub past_of : (older : List Operation) (op : Operation) (s : Stamp) → (s.site == 0) ≡ false → can_never_be_known older op s ≡ false → has_character older s ≡ false
    → ((s.site == op.site) ≡ false) × (known_end older s.site < s.count)
past_of older op s z e h =
    let t = never_tests (s.site == 0) (may_name op.body s) (has_character older s) (s.site == op.site) (nat_le s.count (known_end older s.site)) z e h in
    let u = t.1 in (t.0, grind (arith, nat_tests, u))

record StaysSo (older log : List Operation) (op : Operation) (s : Stamp) : Type 0 where
  never : can_never_be_known log op s ≡ false
  known : is_known log op.body s ≡ is_known older op.body s

stays_so : (older log : List Operation) (op : Operation) → AreIn older log → (s : Stamp) → can_never_be_known older op s ≡ false
    → ((s.site == 0) ≡ false → known_end older s.site < s.count → known_end log s.site < s.count) → StaysSo older log op s
stays_so older log op sub s e f = split (s.site == 0)
    (λ z. let m : may_name op.body s ≡ true = of_zero (s.site == 0) (may_name op.body s) _ z e in record {
      never = rw (z, m) refl;
      known = rw m (both (has_character log s) (has_character older s));
    })
    (λ z. split (has_character older s)
    (λ h. let i = character_stays older log sub s h in record {
      never = rw (z, i) refl;
      known = rw (h, i) refl;
    })
    (λ h. let p = past_of older op s z e h in
    let l = f z p.1 in
    let i = no_character log s l in
    let own = p.0 in
    let w : nat_le s.count (known_end log s.site) ≡ false = grind (arith, nat_tests, l) in record {
      never = rw (z, i, own, w) refl;
      known = rw (h, i) refl;
    }))
  where
    of_zero : (zero may rest : Bool) → zero ≡ true → cond zero (not may) rest ≡ false → may ≡ true
    of_zero true true rest z e = refl
    of_zero true false rest z e = absurd (cc e)
    of_zero false may rest z e = absurd (cc z)

    both : (a b : Bool) → (a || true) ≡ (b || true)
    both true true = refl
    both true false = refl
    both false true = refl
    both false false = refl

-- KEYS

-- a span's key that isn't passed
key_first : (older log : List Operation) (span : Span) → goes_past older span ≡ true → list_any (is_passed log) (awaited_in older span) ≡ false
    → known_end log span.site < max span.first (known_end older span.site + 1)
key_first older log span g n =
    let m : list_any (is_passed log) (record { count = max span.first (known_end older span.site + 1); site = span.site } ∷ []) ≡ false = rw g at n in
    below (max span.first (known_end older span.site + 1)) (known_end log span.site) m
  where
    below : (a b : ℕ) → (nat_le a b || false) ≡ false → b < a
    below a b m = grind (arith, nat_tests)

past_in : (older : List Operation) (span : Span) (s : Stamp) → is_in_span span s ≡ true → (s.site == 0) ≡ false → known_end older s.site < s.count
    → (goes_past older span ≡ true) × (s.site ≡ span.site) × (max span.first (known_end older span.site + 1) ≤ s.count)
past_in older span s i z l =
    let e : s.site ≡ span.site = grind (arith, nat_tests, i) in
    let k = ap (known_end older) e in
    let y : (span.site == 0) ≡ false = grind (arith, nat_tests, z, e) in
    let a : span.first ≤ s.count = grind (arith, nat_tests, i) in
    let b : s.count ≤ span.last = grind (arith, nat_tests, i) in
    let p : passes_end older span ≡ true = passes span.first span.last s.count (known_end older span.site) a b (omega (arith, k, l)) in
    (rw (y, p) refl, e, least span.first s.count (known_end older span.site) a (omega (arith, k, l)))
  where
    passes : (first last count end : ℕ) → first ≤ count → count ≤ last → end < count → (nat_le first last && nat_lt end last) ≡ true
    passes first last count end a b c = grind (arith, nat_tests)

    least : (first count end : ℕ) → first ≤ count → end < count → max first (end + 1) ≤ count
    least first count end a b = omega arith

unpassed_at : (older log : List Operation) (spans : List Span) (s : Stamp) → list_any (is_passed log) (flat_map (awaited_in older) spans) ≡ false → is_in_spans spans s ≡ true
    → (s.site == 0) ≡ false → known_end older s.site < s.count → known_end log s.site < s.count
unpassed_at older log [] s n i z l = absurd (cc i)
unpassed_at older log (span ∷ spans) s n i z l =
    let b = any_both (is_passed log) (awaited_in older span) (flat_map (awaited_in older) spans) n in
    split (is_in_span span s)
    (λ e. let p = past_in older span s e z l in
    let k = key_first older log span p.0 b.0 in
    let m = p.2 in
    let u = ap (known_end log) p.1 in omega (arith, k, m, u))
    (λ e. unpassed_at older log spans s b.1 (grind (arith, i, e)) z l)

-- a span's keys stay
pub key_stays : (older log : List Operation) → AreIn older log → (span : Span) → list_any (is_passed log) (awaited_in older span) ≡ false → awaited_in log span ≡ awaited_in older span
key_stays older log sub span n =
    let g = end_stays older log sub span.site in
    split (goes_past older span)
    (λ e. let k = key_first older log span e n in
    let t : goes_past log span ≡ true = still (span.site == 0) span.first span.last (known_end older span.site) (known_end log span.site) g k e in
    let m : max span.first (known_end log span.site + 1) ≡ max span.first (known_end older span.site + 1) = omega (arith, g, k) in
    rw (e, t) (ap (λ c. record { count = c; site = span.site } ∷ []) m))
    (λ e. let t : goes_past log span ≡ false = none (span.site == 0) span.first span.last (known_end older span.site) (known_end log span.site) g e in rw (e, t) refl)
  where
    still : (zero : Bool) (first last old new : ℕ) → old ≤ new → new < max first (old + 1) → (not zero && (nat_le first last && nat_lt old last)) ≡ true → (not zero && (nat_le first last && nat_lt new last)) ≡ true
    still zero first last old new g k e = grind (arith, nat_tests)

    none : (zero : Bool) (first last old new : ℕ) → old ≤ new → (not zero && (nat_le first last && nat_lt old last)) ≡ false → (not zero && (nat_le first last && nat_lt new last)) ≡ false
    none zero first last old new g e = grind (arith, nat_tests)

keys_stay : (older log : List Operation) → AreIn older log → (spans : List Span) → list_any (is_passed log) (flat_map (awaited_in older) spans) ≡ false
    → flat_map (awaited_in log) spans ≡ flat_map (awaited_in older) spans
keys_stay older log sub [] n = refl
keys_stay older log sub (span ∷ spans) n =
    let b = any_both (is_passed log) (awaited_in older span) (flat_map (awaited_in older) spans) n in
    ap (λ k. k ++ flat_map (awaited_in log) spans) (key_stays older log sub span b.0) ∙ ap (λ k. awaited_in older span ++ k) (keys_stay older log sub spans b.1)

-- UNTIL A KEY IS PASSED

pub unpassed_stay : (older log : List Operation) (op : Operation) → IsHistory older → IsHistory log → AreIn older log → WaitsAt older op → NoneIsPassed older log op
    → (answer_to op log ≡ answer_to op older) × (awaited_by log op ≡ awaited_by older op)
unpassed_stay older log op h m sub w n =
    let o = waiting_from older op w in
    let b = o.stamp in
    let a = o.absent in
    let c = o.prev in
    elim o.either [
      | inl d ↦ (
          let k : list_any (is_passed log) (record { count = op.prev; site = op.site } ∷ []) ≡ false = rw d at n in
          let l : known_end log op.site < op.prev = below op.prev (known_end log op.site) k in
          let a' = not_yet_there log op b (omega (arith, l)) in
          let c' : nat_lt op.prev (known_end log op.site) ≡ false = grind (arith, nat_tests, l) in
          let d' : nat_lt (known_end log op.site) op.prev ≡ true = grind (arith, nat_tests, l) in
          (rw (b, a, a', c, c', d, d') refl, rw (d, d') refl)
          )
      | inr de ↦ (
          let d = de.0 in
          let e = de.1 in
          let k : list_any (is_passed log) (record { count = op.prev + 1; site = op.site } ∷ flat_map (awaited_in older) (targets op.body)) ≡ false = rw d at n in
          let own : known_end log op.site < op.prev + 1 = first op.prev (known_end log op.site) _ k in
          let ks : list_any (is_passed log) (flat_map (awaited_in older) (targets op.body)) ≡ false = others (nat_le (op.prev + 1) (known_end log op.site)) _ k in
          let g = end_stays older log sub op.site in
          let a' = not_yet_there log op b (omega (arith, own)) in
          let same : known_end older op.site ≡ op.prev = grind (arith, nat_tests, c, d) in
          let c' : nat_lt op.prev (known_end log op.site) ≡ false = grind (arith, nat_tests, own) in
          let d' : nat_lt (known_end log op.site) op.prev ≡ false = grind (arith, nat_tests, g, same) in
          let each : (s : Stamp) → names op.body s ≡ true → StaysSo older log op s = λ s i. stays_so older log op sub s (none_at (can_never_be_known older op) (named op.body) e s i)
          (λ z l. unpassed_at older log (targets op.body) s ks (sym (named_target op.body s) ∙ i) z l) in
          let e' : list_any (can_never_be_known log op) (named op.body) ≡ false = none_from (can_never_be_known log op) (named op.body) (λ s i. (each s i).never) in
          let f = same_all (is_known log op.body) (is_known older op.body) (named op.body) (λ s i. (each s i).known) in (
            rw (b, a, a', c, c', d, d', e, e') (ap (λ t. cond (not t) (Refused NotYet) New) f),
            rw (d, d') (ap (λ r. record { count = op.prev + 1; site = op.site } ∷ r) (keys_stay older log sub (targets op.body) ks)),
          )
          )
    ]
  where
    below : (a b : ℕ) → (nat_le a b || false) ≡ false → b < a
    below a b m = grind (arith, nat_tests)

    first : (a b : ℕ) (r : Bool) → (nat_le (a + 1) b || r) ≡ false → b < a + 1
    first a b r m = grind (arith, nat_tests)

    others : (a r : Bool) → (a || r) ≡ false → r ≡ false
    others true r m = absurd (cc m)
    others false r m = m
