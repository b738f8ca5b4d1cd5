-- What is answered again by a larger history.
use Rattle.std.proofs.Common.{◌≡◌, ℕ, ◌<◌, ◌≤◌, Bool, true, false, not, ◌⊎◌, inl, inr, refl, ap, arith, List, [], ◌∷◌, cond, ◌||◌, ◌&&◌, ◌==◌, nat_lt, nat_le}
use Rattle.std.proofs.lemmas.Bool.Decides.{nat_tests}
use Rattle.std.proofs.lemmas.Bool.{cases_lt}
use Rattle.std.specs.List.{list_any, list_all}
use Rattle.rt_stamps.specs.declared.stamp.Stamp.{Stamp}
use Rattle.rt_stamps.specs.declared.fault.Fault.TheVariants.{BadStamp, Conflict, NotYet, BadTarget}
use Rattle.rt_stamps.specs.Stamps.{is_before, is_same}
use Rattle.rt_stamps.proofs.Order.{same_refl}
use Rattle.rt_ops.specs.Operations.{Operation, last_count, named, has_bad_stamp, stamp_of}
use Rattle.rt_oplog.specs.Logs.{HasOp, clash, holds, known_end, reaches_into, same_operation}
use Rattle.rt_oplog.proofs.Sets.{any_from, has_held, operation_true}
use Rattle.rt_rga.specs.Histories.{IsHistory, has_character, is_known, may_name}
use Rattle.rt_rga.specs.Answers.{Answer, New, Repeat, Refused, answer_to, can_never_be_known}
use Rattle.rt_rga.specs.Orders.{AreIn}
use Rattle.rt_rga.proofs.Skipping.{split}
use Rattle.rt_rga.proofs.Continuing.{names, none_at}
use Rattle.rt_rga.proofs.Histories.{character_end, character_site, inserted_range}
use Rattle.rt_rga.proofs.Accepting.{clash_from_end, end_of, free, known_site, sound_in}
use Rattle.rt_rga.proofs.Orders.{any_named, character_of, end_reached, insert_of, known_in_set}

-- a choice that came out so, and not by its first answer
passed_to : (target : Answer) (b : Bool) (x rest : Answer) → (x ≡ target → ⊥) → cond b x rest ≡ target → (b ≡ false) × (rest ≡ target)
passed_to target true x rest n h = absurd (n h)
passed_to target false x rest n h = (refl, h)

pub some_named : (p : Stamp → Bool) (xs : List Stamp) → list_any p xs ≡ true → (s : Stamp) × (list_any (λ t. is_same t s) xs ≡ true) × (p s ≡ true)
some_named p [] h = absurd (cc h)
some_named p (x ∷ xs) h = split (p x)
    (λ e. (x, (let i = same_refl x in grind (arith, i)), e))
    (λ e. let (s, i, k) = some_named p xs (grind (arith, h, e)) in (s, grind (arith, i), k))

-- THE LARGER HISTORY

end_grows : (set more : List Operation) → AreIn set more → (site : ℕ) → known_end set site ≤ known_end more site
end_grows set more sub site = elim (cases_lt 0 (known_end set site)) [
  | inl l ↦ (let (x, i, s, t) = end_reached set site l in let a = end_of more x (sub x i) in let b = ap (known_end more) s in omega (arith, a, b, t))
  | inr l ↦ omega (arith, l)
]

pub bad_prev : (x : Operation) → has_bad_stamp x ≡ false → x.prev < x.count
bad_prev x h = grind (arith, nat_tests)

-- what is no character within the known end of its site never comes to be one
absent_later : (set more : List Operation) → IsHistory set → IsHistory more → AreIn set more → (s : Stamp) → s.count ≤ known_end set s.site → has_character set s ≡ false → has_character more s ≡ false
absent_later set more h m sub s l n = split (has_character more s)
    (λ e. let (x, i, t) = insert_of more s e in
    let r = inserted_range x s t in
    let k = ap (known_end set) r.site in
    let p = bad_prev x (sound_in more m x i) in
    absurd (split (holds set x)
    (λ f. let c = character_of set x s (has_held set x f) t in cc (c, n))
    (λ f. let low = r.low in
    let (q, j, u) = any_from (clash x) set (clash_from_end set h x p f (omega (arith, p, k, l, low))) in
    let v = free more m x q i (sub q j) in cc (u, v))))
    (λ e. e)

-- AN OPERATION WITH A BAD TARGET

record IsBad (set : List Operation) (op : Operation) : Type 0 where
  stamp : has_bad_stamp op ≡ false
  prev : op.prev ≡ known_end set op.site
  target : list_any (can_never_be_known set op) (named op.body) ≡ true

target_tests : (e f : Bool) → cond e (Refused BadTarget) (cond f (Refused NotYet) New) ≡ Refused BadTarget → e ≡ true
target_tests true f h = refl
target_tests false true h = absurd (cc h)
target_tests false false h = absurd (cc h)

bad_from : (set : List Operation) (op : Operation) → answer_to op set ≡ Refused BadTarget → IsBad set op
bad_from set op h =
    let (a, h1) = passed_to (Refused BadTarget) (has_bad_stamp op) (Refused BadStamp) _ (λ e. cc e) h in
    let (b, h2) = passed_to (Refused BadTarget) (holds set op) Repeat _ (λ e. cc e) h1 in
    let (c, h3) = passed_to (Refused BadTarget) (nat_lt op.prev (known_end set op.site)) (Refused Conflict) _ (λ e. cc e) h2 in
    let (d, h4) = passed_to (Refused BadTarget) (nat_lt (known_end set op.site) op.prev) (Refused NotYet) _ (λ e. cc e) h3 in
    record {
      stamp = a;
      prev = grind (arith, nat_tests, c, d);
      target = target_tests (list_any (can_never_be_known set op) (named op.body)) (not (list_all (is_known set op.body) (named op.body))) h4;
    }

abbrev never_by : Bool → Bool → Bool → Bool → Bool → Bool
never_by zero may has own within = cond zero (not may) (not has && (own || within))

-- of a bad target: site 0 and not to be named, or of another site and no character
never_cases : (zero may has own within : Bool) → never_by zero may has own within ≡ true
    → ((zero ≡ true) × (may ≡ false)) ⊎ ((zero ≡ false) × (has ≡ false) × ((own ≡ true) ⊎ (within ≡ true)))
never_cases true true has own within h = absurd (cc h)
never_cases true false has own within h = inl (refl, refl)
never_cases false may true own within h = absurd (cc h)
never_cases false may false true within h = inr (refl, refl, inl refl)
never_cases false may false false true h = inr (refl, refl, inr refl)
never_cases false may false false false h = absurd (cc h)

never_true : (zero may has own within : Bool) → zero ≡ false → has ≡ false → (own || within) ≡ true → never_by zero may has own within ≡ true
never_true zero may has own within a b c = rw (a, b, c) refl

-- a larger history never has an operation with a bad target
clash_between : (x op : Operation) (s : Stamp) → s.site ≡ x.site → x.count ≤ s.count → s.count ≤ last_count x → s.site ≡ op.site → op.prev < s.count → is_before s (stamp_of op) ≡ true
    → same_operation x op ≡ false → clash x op ≡ true
clash_between x op s a b c d e f n =
    let g : s.count < op.count = lesser s op d f in
    let t : reaches_into x op ≡ true = grind (arith, nat_tests) in
    grind (arith, n, t)
  where
    lesser : (s : Stamp) (op : Operation) → s.site ≡ op.site → is_before s (stamp_of op) ≡ true → s.count < op.count
    lesser s op d f = grind (arith, nat_tests)

pub named_before : (op : Operation) (s : Stamp) → has_bad_stamp op ≡ false → names op.body s ≡ true → is_before s (stamp_of op) ≡ true
named_before op s h k = let i : not (is_before s (stamp_of op)) ≡ false = none_at (λ s. not (is_before s (stamp_of op))) (named op.body) (grind (arith, h)) s k in grind (arith, i)

named_by_own : (set more : List Operation) (op : Operation) (s : Stamp) → IsHistory set → IsHistory more → AreIn set more → IsBad set op → HasOp more op
    → names op.body s ≡ true → has_character set s ≡ false → s.site ≡ op.site → has_character more s ≡ false
named_by_own set more op s h m sub bad i n a site = elim (cases_lt (known_end set s.site) s.count) [
  | inr l ↦ absent_later set more h m sub s l a
  | inl l ↦ split (has_character more s)
      (λ e. let (x, j, t) = insert_of more s e in
      let r = inserted_range x s t in
      let b = named_before op s bad.stamp n in
      let k = ap (known_end set) site in
      let p = bad.prev in
      let low = r.low in
      absurd (split (same_operation x op)
      (λ f. let E : x ≡ op = operation_true x op f in
      let c = ap (λ (o : Operation). o.count) E in
      later s op site b (omega (arith, low, c)))
      (λ f. let u = clash_between x op s r.site r.low r.high site (omega (arith, l, k, p)) b f in
      let v = free more m x op j i in cc (u, v))))
      (λ e. e)
]
  where
    later : (s : Stamp) (op : Operation) → s.site ≡ op.site → is_before s (stamp_of op) ≡ true → op.count ≤ s.count → ⊥
    later s op a b c = grind (arith, nat_tests)

not_later : (set more : List Operation) (op : Operation) → IsHistory set → IsHistory more → AreIn set more → IsBad set op → HasOp more op → ⊥
not_later set more op h m sub bad i =
    let (s, n, t) = some_named (can_never_be_known set op) (named op.body) bad.target in
    let k = known_site more op.body s (known_in_set more m op i s n) in
    elim (never_cases (s.site == 0) (may_name op.body s) (has_character set s) (s.site == op.site) (nat_le s.count (known_end set s.site)) t) [
      | inl z ↦ elim k [
        | inl c ↦ (let o = character_site more m s c in let w = z.0 in grind (arith, nat_tests))
        | inr w ↦ (let v = w.0 in let u = z.1 in cc (v, u))
      ]
      | inr z ↦ elim k [
        | inl c ↦ (let g : has_character more s ≡ false = elim z.2 [
          | inl o ↦ named_by_own set more op s h m sub bad i n z.1 (grind (arith, nat_tests, o))
          | inr o ↦ absent_later set more h m sub s (grind (arith, nat_tests, o)) z.1
        ] in cc (c, g))
        | inr w ↦ (let v = w.1 in let u = z.0 in grind (arith, nat_tests))
      ]
    ]

-- the target stays bad while the site's end stays
target_stays : (set more : List Operation) (op : Operation) → IsHistory set → IsHistory more → AreIn set more → IsBad set op → known_end more op.site ≡ known_end set op.site
    → list_any (can_never_be_known more op) (named op.body) ≡ true
target_stays set more op h m sub bad same =
    let (s, n, t) = some_named (can_never_be_known set op) (named op.body) bad.target in
    any_named (can_never_be_known more op) (named op.body) s n
    (elim (never_cases (s.site == 0) (may_name op.body s) (has_character set s) (s.site == op.site) (nat_le s.count (known_end set s.site)) t) [
      | inl z ↦ (let a = z.0 in let b = z.1 in rw (a, b) refl)
      | inr z ↦ elim z.2 [
        | inl o ↦ never_true (s.site == 0) (may_name op.body s) (has_character more s) (s.site == op.site) (nat_le s.count (known_end more s.site)) z.0 (own s (grind (arith, nat_tests, o)) z.1) (grind (arith, o))
        | inr o ↦ (let l : s.count ≤ known_end set s.site = grind (arith, nat_tests, o) in
            let g = end_grows set more sub s.site in
            let w : nat_le s.count (known_end more s.site) ≡ true = grind (arith, nat_tests, l, g) in
            never_true (s.site == 0) (may_name op.body s) (has_character more s) (s.site == op.site) (nat_le s.count (known_end more s.site)) z.0 (absent_later set more h m sub s l z.1) (grind (arith, w)))
      ]
    ])
  where
    own : (s : Stamp) → s.site ≡ op.site → has_character set s ≡ false → has_character more s ≡ false
    own s e a = elim (cases_lt (known_end set s.site) s.count) [
      | inr l ↦ absent_later set more h m sub s l a
      | inl l ↦ split (has_character more s)
          (λ c. let d = character_end more s c in let i = ap (known_end set) e in let j = ap (known_end more) e in absurd (omega (arith, d, i, j, l, same)))
          (λ c. c)
    ]

-- A bad target stays one: to what has one a larger history answers so again, or that it clashes.
pub bad_target_stays : (set more : List Operation) (op : Operation) → IsHistory set → IsHistory more → AreIn set more → answer_to op set ≡ Refused BadTarget
    → (answer_to op more ≡ Refused BadTarget) ⊎ (answer_to op more ≡ Refused Conflict)
bad_target_stays set more op h m sub e =
    let bad = bad_from set op e in
    let a = bad.stamp in
    let b : holds more op ≡ false = split (holds more op) (λ f. absurd (not_later set more op h m sub bad (has_held more op f))) (λ f. f) in
    let p = bad.prev in
    let g = end_grows set more sub op.site in
    elim (cases_lt op.prev (known_end more op.site)) [
      | inl l ↦ (let c : nat_lt op.prev (known_end more op.site) ≡ true = grind (arith, nat_tests, l) in inr (rw (a, b, c) refl))
      | inr l ↦ (
          let c : nat_lt op.prev (known_end more op.site) ≡ false = grind (arith, nat_tests, l) in
          let d : nat_lt (known_end more op.site) op.prev ≡ false = grind (arith, nat_tests, p, g) in
          let f = target_stays set more op h m sub bad (omega (arith, l, p, g)) in
          inl (rw (a, b, c, d, f) refl)
          )
    ]

-- A conflict stays one.
pub conflict_stays : (set more : List Operation) (op : Operation) → IsHistory set → IsHistory more → AreIn set more → answer_to op set ≡ Refused Conflict → answer_to op more ≡ Refused Conflict
conflict_stays set more op h m sub e =
    let (a, h1) = passed_to (Refused Conflict) (has_bad_stamp op) (Refused BadStamp) _ (λ e. cc e) e in
    let (b, h2) = passed_to (Refused Conflict) (holds set op) Repeat _ (λ e. cc e) h1 in
    let l : op.prev < known_end set op.site = past (nat_lt op.prev (known_end set op.site)) _ _ _ (λ e. grind (arith, nat_tests, e)) h2 in
    let (r, j, u) = any_from (clash op) set (clash_from_end set h op (bad_prev op a) b l) in
    let n : holds more op ≡ false = split (holds more op) (λ f. absurd (let v = free more m op r (has_held more op f) (sub r j) in cc (u, v))) (λ f. f) in
    let g = end_grows set more sub op.site in
    let c : nat_lt op.prev (known_end more op.site) ≡ true = grind (arith, nat_tests, l, g) in
    rw (a, n, c) refl
  where
    past : {P : Type 0} (c d e f : Bool) → (c ≡ true → P) → cond c (Refused Conflict) (cond d (Refused NotYet) (cond e (Refused BadTarget) (cond f (Refused NotYet) New))) ≡ Refused Conflict → P
    past true d e f g k = g refl
    past false true e f g k = absurd (cc k)
    past false false true f g k = absurd (cc k)
    past false false false true g k = absurd (cc k)
    past false false false false g k = absurd (cc k)
