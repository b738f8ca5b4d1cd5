-- Logs, and the join of logs.
use Rattle.std.proofs.Common.{◌≡◌, ◌↔◌, ℕ, ◌<◌, ◌≤◌, Bool, true, false, not, ◌⊎◌, inl, inr, refl, sym, ap, ◌∙◌, subst, arith, List, [], ◌∷◌, cond, ◌||◌, ◌&&◌, ◌==◌, max, Result, Ok, Err}
use Rattle.std.proofs.lemmas.Bool.Decides.{nat_tests}
use Rattle.std.specs.List.{list_any}
use Rattle.rt_stamps.specs.declared.fault.Fault.{Fault}
use Rattle.rt_stamps.specs.declared.fault.Fault.TheVariants.{Conflict}
use Rattle.rt_stamps.specs.Stamps.{is_before, is_same}
use Rattle.rt_ops.specs.Operations.{Operation, stamp_of, last_count, has_bad_stamp}
use Rattle.rt_oplog.specs.Logs.{HasOp, same_operation, holds, reaches_into, clash, IsFalling, IsLog, with_operation, known_end, added, union, has_clash, IsUnion, HasClashOf, joined, joins}
use Rattle.rt_oplog.proofs.Sets.{split, operation_true, clash_self, clash_sym, last_ge, apart, has_with, held_from, added_has, has_union, union_has, none_at, clash_in, clash_from, free_from, falling_with, same_set, has_held, sound_prev}

-- a set that has another operation, with its stamp apart from theirs, is a log
pub log_with : (op : Operation) (set : List Operation) → IsLog set → has_bad_stamp op ≡ false → holds set op ≡ false → list_any (clash op) set ≡ false → IsLog (with_operation op set)
log_with op set l s n f = record {
  falling = falling_with op set l.falling (λ x i. apart x op s (other x i) (clash_sym x op ∙ none_at (clash op) set x f i));
  sound = λ x i. elim (has_with op set x i) [ inl e ↦ subst (λ y. has_bad_stamp y ≡ false) e s | inr j ↦ l.sound x j ];
  free = λ p q i j. elim (has_with op set p i) [
    | inl e ↦ elim (has_with op set q j) [
      | inl d ↦ subst (λ y. clash y q ≡ false) e (subst (λ y. clash op y ≡ false) d (clash_self op))
      | inr k ↦ subst (λ y. clash y q ≡ false) e (none_at (clash op) set q f k)
    ]
    | inr m ↦ elim (has_with op set q j) [
      | inl d ↦ subst (λ y. clash p y ≡ false) d (clash_sym p op ∙ none_at (clash op) set p f m)
      | inr k ↦ l.free p q m k
    ]
  ];
}
  where
    other : (x : Operation) → HasOp set x → same_operation x op ≡ false
    other x i = split (same_operation x op) (λ e. let k = held_from set x i in let j : holds set op ≡ true = subst (λ y. holds set y ≡ true) (operation_true x op e) k in absurd (cc (j, n))) (λ e. e)

falling_added : (op : Operation) (set : List Operation) → IsFalling set → ((x : Operation) → HasOp set x → holds set op ≡ false → is_same (stamp_of x) (stamp_of op) ≡ false) → IsFalling (added op set)
falling_added op set h f = (elim (holds set op) as (λ t. holds set op ≡ t → IsFalling (cond t set (with_operation op set))) [
  | true ↦ λ e. h
  | false ↦ λ e. falling_with op set h (λ x i. f x i e)
]) refl

falling_union : (one other : List Operation) → IsFalling other → ((x : Operation) → HasOp one x → has_bad_stamp x ≡ false)
    → ((p q : Operation) → HasOp (union one other) p → HasOp (union one other) q → clash p q ≡ false) → IsFalling (union one other)
falling_union [] other h s f = h
falling_union (op ∷ set) other h s f =
    let mine : HasOp (union (op ∷ set) other) op = added_has op (union set other) op (inl refl) in
    let rest = falling_union set other h (λ x i. s x (inr i)) (λ p q i j. f p q (added_has op (union set other) p (inr i)) (added_has op (union set other) q (inr j))) in
    falling_added op (union set other) rest
    (λ x i n. apart x op (s op (inl refl)) (unlike x i n) (f x op (added_has op (union set other) x (inr i)) mine))
  where
    unlike : (x : Operation) → HasOp (union set other) x → holds (union set other) op ≡ false → same_operation x op ≡ false
    unlike x i n = split (same_operation x op)
        (λ e. let k = held_from (union set other) x i in let j : holds (union set other) op ≡ true = subst (λ y. holds (union set other) y ≡ true) (operation_true x op e) k in absurd (cc (j, n)))
        (λ e. e)

pub union_log : (one other : List Operation) → IsLog one → IsLog other → has_clash (union one other) ≡ false → IsUnion one other (union one other)
union_log one other l k h = record {
  log = record {
    falling = falling_union one other k.falling l.sound (free_from (union one other) h);
    sound = λ x i. elim (has_union one other x i) [ inl m ↦ l.sound x m | inr m ↦ k.sound x m ];
    free = free_from (union one other) h;
  };
  members = λ x. (has_union one other x, union_has one other x);
}

-- two operations of the logs clash
pub joined_err : (one other : List Operation) (p q : Operation) → HasOp one p ⊎ HasOp other p → HasOp one q ⊎ HasOp other q → clash p q ≡ true → joined one other ≡ Err Conflict
joined_err one other p q i j c =
    let k : has_clash (union one other) ≡ true = clash_in (union one other) p q (union_has one other p i) (union_has one other q j) c in
    rw k

pub joined_ok : (one other set : List Operation) → IsLog one → IsLog other → IsUnion one other set → joined one other ≡ Ok set
joined_ok one other set l k u = split (has_clash (union one other))
    (λ e. let (p, q, i, j, c) = clash_from (union one other) e in
    let f = u.log.free p q ((u.members p).1 (has_union one other p i)) ((u.members q).1 (has_union one other q j)) in
    absurd (cc (c, f)))
    (λ e. let v = union_log one other l k e in
    let same : union one other ≡ set = same_set (union one other) set v.log.falling u.log.falling (λ x. (λ i. (u.members x).1 ((v.members x).0 i), λ i. (v.members x).1 ((u.members x).0 i))) in
    let wrap : List Operation → Result (List Operation) Fault = λ s. Ok s in
    rw e (ap wrap same))

-- what a join is, one way or the other
pub joined_cases : (P : Result (List Operation) Fault → Type 0) (one other : List Operation) → IsLog one → IsLog other
    → ((set : List Operation) → IsUnion one other set → joined one other ≡ Ok set → P (Ok set))
    → ((p q : Operation) → HasOp one p ⊎ HasOp other p → HasOp one q ⊎ HasOp other q → clash p q ≡ true → joined one other ≡ Err Conflict → P (Err Conflict)) → P (joined one other)
joined_cases P one other l k f g = split (has_clash (union one other))
    (λ e. let (p, q, i, j, c) = clash_from (union one other) e in
    let r : joined one other ≡ Err Conflict = rw e in
    subst P (sym r) (g p q (has_union one other p i) (has_union one other q j) c r))
    (λ e. let r : joined one other ≡ Ok (union one other) = rw e in
    subst P (sym r) (f (union one other) (union_log one other l k e) r))

-- the join is the log that has just the operations of both, and there is none exactly where two of them clash
pub joined_union : (one other log : List Operation) → IsLog one → IsLog other → (joined one other ≡ Ok log) ↔ IsUnion one other log
joined_union one other log l k = (
  joined_cases (λ r. r ≡ Ok log → IsUnion one other log) one other l k
      (λ set u e d. let same : set ≡ log = cc d in subst (IsUnion one other) same u)
      (λ p q i j c e d. absurd (cc d)),
  joined_ok one other log l k,
)

pub joined_conflict : (one other : List Operation) → IsLog one → IsLog other → (joined one other ≡ Err Conflict) ↔ HasClashOf one other
joined_conflict one other l k = (
  joined_cases (λ r. r ≡ Err Conflict → HasClashOf one other) one other l k
      (λ set u e d. absurd (cc d))
      (λ p q i j c e d. (p, q, i, j, c)),
  λ h. joined_err one other h.0 h.1 h.2 h.3 h.4,
)

either : {A B : Type 0} → A ⊎ B → B ⊎ A
either h = elim h [ inl a ↦ inr a | inr b ↦ inl b ]

pub commutative : (one other : List Operation) → IsLog one → IsLog other → joined one other ≡ joined other one
commutative one other l k = joined_cases (λ r. r ≡ joined other one) one other l k
    (λ set u e. sym (joined_ok other one set k l (record { log = u.log; members = λ x. (λ i. either ((u.members x).0 i), λ i. (u.members x).1 (either i)) })))
    (λ p q i j c e. sym (joined_err other one p q (either i) (either j) c))

pub idempotent : (one : List Operation) → IsLog one → joined one one ≡ Ok one
idempotent one l = joined_ok one one one l l (record { log = l; members = λ x. (λ i. inl i, λ i. elim i [ inl j ↦ j | inr j ↦ j ]) })

-- the join of three
pub record IsUnionOfThree (a b c set : List Operation) : Type 0 where
  pub log : IsLog set
  pub members : (x : Operation) → HasOp set x ↔ (HasOp a x ⊎ (HasOp b x ⊎ HasOp c x))

left_three : (a b c : List Operation) → IsLog a → IsLog b → IsLog c → (P : Result (List Operation) Fault → Type 0)
    → ((set : List Operation) → IsUnionOfThree a b c set → P (Ok set))
    → ((p q : Operation) → HasOp a p ⊎ (HasOp b p ⊎ HasOp c p) → HasOp a q ⊎ (HasOp b q ⊎ HasOp c q) → clash p q ≡ true → P (Err Conflict)) → P (joins (joined a b) (Ok c))
left_three a b c la lb lc P f g = joined_cases (λ r. P (joins r (Ok c))) a b la lb
    (λ set u e. joined_cases P set c u.log lc
    (λ all v d. f all (record { log = v.log; members = λ x. (λ i. grow (u.members x).0 ((v.members x).0 i), λ i. (v.members x).1 (shrink (u.members x).1 i)) }))
    (λ p q i j k d. g p q (grow (u.members p).0 i) (grow (u.members q).0 j) k))
    (λ p q i j k e. g p q (wide i) (wide j) k)
  where
    grow : {A B C S : Type 0} → (S → A ⊎ B) → S ⊎ C → A ⊎ (B ⊎ C)
    grow f i = elim i [ inl s ↦ elim (f s) [ inl a ↦ inl a | inr b ↦ inr (inl b) ] | inr c ↦ inr (inr c) ]

    shrink : {A B C S : Type 0} → (A ⊎ B → S) → A ⊎ (B ⊎ C) → S ⊎ C
    shrink f i = elim i [ inl a ↦ inl (f (inl a)) | inr j ↦ elim j [ inl b ↦ inl (f (inr b)) | inr c ↦ inr c ] ]

    wide : {A B C : Type 0} → A ⊎ B → A ⊎ (B ⊎ C)
    wide i = elim i [ inl a ↦ inl a | inr b ↦ inr (inl b) ]

right_ok : (a b c set : List Operation) → IsLog a → IsLog b → IsLog c → IsUnionOfThree a b c set → joins (Ok a) (joined b c) ≡ Ok set
right_ok a b c set la lb lc w = joined_cases (λ r. joins (Ok a) r ≡ Ok set) b c lb lc
    (λ one u e. joined_ok a one set la u.log (record { log = w.log; members = λ x. (λ i. inward (u.members x).1 ((w.members x).0 i), λ i. (w.members x).1 (outward (u.members x).0 i)) }))
    (λ p q i j k e. let f = w.log.free p q ((w.members p).1 (inr i)) ((w.members q).1 (inr j)) in absurd (cc (k, f)))
  where
    inward : {A B C S : Type 0} → (B ⊎ C → S) → A ⊎ (B ⊎ C) → A ⊎ S
    inward f i = elim i [ inl a ↦ inl a | inr j ↦ inr (f j) ]

    outward : {A B C S : Type 0} → (S → B ⊎ C) → A ⊎ S → A ⊎ (B ⊎ C)
    outward f i = elim i [ inl a ↦ inl a | inr s ↦ inr (f s) ]

right_err : (a b c : List Operation) (p q : Operation) → IsLog a → IsLog b → IsLog c → HasOp a p ⊎ (HasOp b p ⊎ HasOp c p) → HasOp a q ⊎ (HasOp b q ⊎ HasOp c q) → clash p q ≡ true
    → joins (Ok a) (joined b c) ≡ Err Conflict
right_err a b c p q la lb lc i j k = joined_cases (λ r. joins (Ok a) r ≡ Err Conflict) b c lb lc
    (λ one u e. joined_err a one p q (inward (u.members p).1 i) (inward (u.members q).1 j) k)
    (λ p q i j k e. refl)
  where
    inward : {A B C S : Type 0} → (B ⊎ C → S) → A ⊎ (B ⊎ C) → A ⊎ S
    inward f i = elim i [ inl a ↦ inl a | inr j ↦ inr (f j) ]

pub associative : (a b c : List Operation) → IsLog a → IsLog b → IsLog c → joins (joined a b) (Ok c) ≡ joins (Ok a) (joined b c)
associative a b c la lb lc = left_three a b c la lb lc (λ r. r ≡ joins (Ok a) (joined b c))
    (λ set w. sym (right_ok a b c set la lb lc w))
    (λ p q i j k. sym (right_err a b c p q la lb lc i j k))

-- the known end

pub end_ge : (set : List Operation) (x : Operation) → HasOp set x → last_count x ≤ known_end set x.site
end_ge [] x h = absurd h
end_ge (q ∷ older) x h = elim h [
  | inl e ↦ subst (λ y. last_count y ≤ known_end (q ∷ older) y.site) e (own q (known_end older q.site))
  | inr i ↦ later q x (known_end older x.site) (end_ge older x i)
]
  where
    own : (q : Operation) (rest : ℕ) → last_count q ≤ cond (q.site == q.site) (max (last_count q) rest) rest
    own q rest = grind (arith, nat_tests)

    later : (q x : Operation) (rest : ℕ) → last_count x ≤ rest → last_count x ≤ cond (q.site == x.site) (max (last_count q) rest) rest
    later q x rest h = grind (arith, nat_tests)

-- an operation that goes on from its site's known end clashes with none and is not there yet
pub free_past : (set : List Operation) (op : Operation) → has_bad_stamp op ≡ false → known_end set op.site ≤ op.prev → (x : Operation) → HasOp set x → clash op x ≡ false
free_past set op s l x i =
    let g = end_ge set x i in
    past x g
  where
    past : (x : Operation) → last_count x ≤ known_end set x.site → clash op x ≡ false
    past x g = split (op.site == x.site)
        (λ e. let d : op.site ≡ x.site = grind (arith, nat_tests) in
        let k = ap (known_end set) d in
        let a = last_ge x.count x.body in
        let b : op.prev < op.count = grind (arith, nat_tests, s) in
        let r : reaches_into op x ≡ false = grind (arith, nat_tests, g, l, k, a, b) in
        let t : reaches_into x op ≡ false = grind (arith, nat_tests, g, l, k, a, b) in
        (elim (not (same_operation op x)) as (λ n. (n && (reaches_into op x || reaches_into x op)) ≡ false) [ true ↦ rw (r, t) | false ↦ refl ]))
        (λ e. let r : reaches_into op x ≡ false = grind (arith, nat_tests, e) in
        let t : reaches_into x op ≡ false = grind (arith, nat_tests, e) in
        (elim (not (same_operation op x)) as (λ n. (n && (reaches_into op x || reaches_into x op)) ≡ false) [ true ↦ rw (r, t) | false ↦ refl ]))

pub end_with : (op : Operation) (set : List Operation) (site : ℕ) → known_end (with_operation op set) site ≡ known_end (op ∷ set) site
end_with op [] site = refl
end_with op (q ∷ older) site = elim (is_before (stamp_of q) (stamp_of op)) as (λ t. known_end (cond t (op ∷ (q ∷ older)) (q ∷ with_operation op older)) site ≡ known_end (op ∷ (q ∷ older)) site) [
  | true ↦ refl
  | false ↦ ap (λ n. cond (q.site == site) (max (last_count q) n) n) (end_with op older site) ∙ swapped (q.site == site) (op.site == site) (last_count q) (last_count op) (known_end older site)
]
  where
    swapped : (s t : Bool) (a b n : ℕ) → cond s (max a (cond t (max b n) n)) (cond t (max b n) n) ≡ cond t (max b (cond s (max a n) n)) (cond s (max a n) n)
    swapped s t a b n = grind arith

-- what goes on from no lower than its site's known end isn't there
pub later_new : (set : List Operation) (op : Operation) → IsLog set → known_end set op.site ≤ op.prev → holds set op ≡ false
later_new set op l h = split (holds set op)
    (λ e. let i = has_held set op e in
    let below = sound_prev op (l.sound op i) in
    let last = last_ge op.count op.body in
    let end = end_ge set op i in
    absurd (omega (arith, h, below, last, end)))
    (λ e. e)
