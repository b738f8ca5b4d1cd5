-- Held operations that are due are tried, the first of them each time.
use Rattle.std.proofs.Common.{◌≡◌, ℕ, Bool, true, false, ◌⊎◌, inl, inr, refl, sym, ap, subst, ◌∙◌, List, [], ◌∷◌, ◌++◌, Option, Some, None, cond, ◌&&◌, ◌||◌}
use Rattle.std.specs.BTreeMap.{BTreeMap, IsOrdered, get, insert_entry, is_at}
use Rattle.std.specs.List.{AllByRecursion, list_all, list_any}
use Rattle.std.specs.Map.{lookup, remove_entry}
use Rattle.std.specs.Ordering.{is_eq, is_lt, match_ordering, ordering_reverse}
use Rattle.std.specs.declared.cmp.Ordering.{Ordering}
use Rattle.std.specs.declared.cmp.Ordering.TheVariants.{Equal, Greater, Less}
use Rattle.rt_stamps.specs.declared.stamp.Stamp.{Stamp}
use Rattle.rt_stamps.specs.Stamps.{is_same}
use Rattle.rt_stamps.proofs.Order.{same_refl, same_from_true}
use Rattle.rt_ops.specs.Operations.{Operation}
use Rattle.rt_oplog.specs.Logs.{holds}
use Rattle.rt_rga.specs.Answers.{answer_within}
use Rattle.rt_rga.proofs.Skipping.{split}
use Rattle.rt_holding.specs.declared.waits.Waits.{Waits as Table}
use Rattle.rt_holding.specs.Holding.{is_left, is_new, next_of, stays}
use Rattle.rt_holding.specs.Kept.{HeldEntry, Standing, by_stamp_and_arrival, ops_in, put_in_front}
use Rattle.rt_holding.specs.Waits.{are_all_kept, are_tried_at, is_due, is_place_in, is_tried_at, sleeps}
use Rattle.rt_holding.proofs.Places.{places_total}
use Rattle.rt_holding.proofs.Standing.{at_found, each_found, found_all, this_place}

-- TESTS

pub both : (a b : Bool) → (a && b) ≡ true → (a ≡ true) × (b ≡ true)
both true b e = (refl, e)
both false b e = absurd (cc e)

pub either : (a b : Bool) → (a || b) ≡ true → (a ≡ true) ⊎ (b ≡ true)
either true b e = inl refl
either false b e = inr e

pub or_left : (a b : Bool) → a ≡ true → (a || b) ≡ true
or_left true b e = refl
or_left false b e = absurd (cc e)

pub or_right : (a b : Bool) → b ≡ true → (a || b) ≡ true
or_right true b e = refl
or_right false b e = e

pub all_at : (p : Stamp → Bool) (xs : List Stamp) → list_all p xs ≡ true → (s : Stamp) → list_any (λ t. is_same t s) xs ≡ true → p s ≡ true
all_at p [] h s k = absurd (cc k)
all_at p (x ∷ xs) h s k =
    let (i, j) = both (p x) (list_all p xs) h in
    split (is_same x s)
    (λ e. subst (λ t. p t ≡ true) (same_from_true x s e) i)
    (λ e. all_at p xs j s (rw e at k))

pub all_from : (p : Stamp → Bool) (xs : List Stamp) → ((s : Stamp) → list_any (λ t. is_same t s) xs ≡ true → p s ≡ true) → list_all p xs ≡ true
all_from p [] f = refl
all_from p (x ∷ xs) f =
    let i : p x ≡ true = f x (or_left (is_same x x) (list_any (λ t. is_same t x) xs) (same_refl x)) in
    rw i (all_from p xs (λ s h. f s (or_right (is_same x s) (list_any (λ t. is_same t s) xs) h)))

-- WHAT IS LEFT

pub left_if_stays : (limit : ℕ) (wanting log : List Operation) (x : Operation) → stays (answer_within limit x log) ≡ true → is_left limit wanting log x ≡ true
left_if_stays limit wanting log x e = or_left (stays (answer_within limit x log)) (is_new (answer_within limit x log) && holds wanting x) e

-- it is looked at again, or sleeps
abbrev pub IsLeftAt : ℕ → List Operation → List Operation → Table → Standing → Operation → Type 0
IsLeftAt limit wanting log waits p x = ((is_place_in p waits.again.items ≡ true) × (is_left limit wanting log x ≡ true)) ⊎ (sleeps limit waits.keys log p x ≡ true)

-- all that isn't due is left
abbrev pub AreReady : ℕ → List Operation → List Operation → BTreeMap Standing (Option Operation) → Table → Type 0
AreReady limit wanting log m waits =
    (p : Standing) (x : Operation) → get by_stamp_and_arrival m p ≡ Some (Some x) → (is_due p waits.due ≡ true) ⊎ IsLeftAt limit wanting log waits p x

left_at : (limit : ℕ) (wanting log : List Operation) (waits : Table) (p : Standing) (x : Operation) → IsLeftAt limit wanting log waits p x → is_left limit wanting log x ≡ true
left_at limit wanting log waits p x i = elim i [
  | inl j ↦ j.1
  | inr s ↦ left_if_stays limit wanting log x (both (stays (answer_within limit x log)) (are_all_kept waits.keys log p x) s).0
]

-- WHICH IS NEXT

abbrev LeftEntry : ℕ → List Operation → List Operation → HeldEntry → Type 0
LeftEntry limit wanting log e = (x : Operation) → e.1 ≡ Some x → is_left limit wanting log x ≡ true

next_behind : (limit : ℕ) (wanting log : List Operation) (front behind : List HeldEntry) → AllByRecursion (LeftEntry limit wanting log) front
    → next_of limit wanting log (ops_in (front ++ behind)) ≡ next_of limit wanting log (ops_in behind)
next_behind limit wanting log [] behind a = refl
next_behind limit wanting log (e ∷ front) behind a = one e.1 refl (next_behind limit wanting log front behind a.1)
  where
    one : (v : Option Operation) → e.1 ≡ v → next_of limit wanting log (ops_in (front ++ behind)) ≡ next_of limit wanting log (ops_in behind)
        → next_of limit wanting log (put_in_front e.1 (ops_in (front ++ behind))) ≡ next_of limit wanting log (ops_in behind)
    one None is i = rw is i
    one (Some op) is i = let l = a.0 op is in rw is (rw l i)

all_weaker : (P Q : HeldEntry → Type 0) → ((e : HeldEntry) → P e → Q e) → (entries : List HeldEntry) → AllByRecursion P entries → AllByRecursion Q entries
all_weaker P Q f [] a = tt
all_weaker P Q f (e ∷ entries) a = (f e a.0, all_weaker P Q f entries a.1)

all_both : (P Q R : HeldEntry → Type 0) → ((e : HeldEntry) → P e → Q e → R e) → (entries : List HeldEntry) → AllByRecursion P entries → AllByRecursion Q entries → AllByRecursion R entries
all_both P Q R f [] a b = tt
all_both P Q R f (e ∷ entries) a b = (f e a.0 b.0, all_both P Q R f entries a.1 b.1)

append_none : (entries : List HeldEntry) → entries ++ [] ≡ entries
append_none [] = refl
append_none (e ∷ entries) = ap (λ l. e ∷ l) (append_none entries)

-- the first that is due is next, if it isn't left
pub next_due : (limit : ℕ) (wanting log : List Operation) (m : BTreeMap Standing (Option Operation)) (waits : Table) (p : Standing) (op : Operation) → AreReady limit wanting log m waits
    → ((q : Standing) → is_due q waits.due ≡ true → is_lt (by_stamp_and_arrival q p) ≡ false) → IsOrdered by_stamp_and_arrival m → get by_stamp_and_arrival m p ≡ Some (Some op)
    → is_left limit wanting log op ≡ false → next_of limit wanting log (ops_in m.entries) ≡ Some op
next_due limit wanting log m waits p op r f s g l =
    let i = at_found m.entries p op s g in
    let a = found_all m.entries [] i.front ((p, Some op) ∷ i.behind) i.is s in
    let b = all_both (λ e. lookup (is_at (by_stamp_and_arrival e.0)) m.entries ≡ Some e.1) (λ e. by_stamp_and_arrival p e.0 ≡ Greater) (LeftEntry limit wanting log)
    (λ e h k x is. elim (r e.0 x (h ∙ ap (λ v. Some v) is)) [
      | inl d ↦ absurd (let n = f e.0 d in let o : by_stamp_and_arrival e.0 p ≡ Less = places_total.antisymm e.0 p ∙ ap ordering_reverse k in let w = ap is_lt o in cc (n, w))
      | inr j ↦ left_at limit wanting log waits e.0 x j
    ]) i.front a i.before in
    ap (λ es. next_of limit wanting log (ops_in es)) i.is ∙ next_behind limit wanting log i.front ((p, Some op) ∷ i.behind) b ∙ (rw l refl)

-- none is due
pub none_due : (limit : ℕ) (wanting log : List Operation) (m : BTreeMap Standing (Option Operation)) (waits : Table) → AreReady limit wanting log m waits
    → ((q : Standing) → is_due q waits.due ≡ false) → IsOrdered by_stamp_and_arrival m → next_of limit wanting log (ops_in m.entries) ≡ None
none_due limit wanting log m waits r f s =
    let a = each_found m.entries s in
    let b = all_weaker (λ e. lookup (is_at (by_stamp_and_arrival e.0)) m.entries ≡ Some e.1) (LeftEntry limit wanting log)
    (λ e h x is. elim (r e.0 x (h ∙ ap (λ v. Some v) is)) [
      | inl d ↦ absurd (let n = f e.0 in cc (n, d))
      | inr j ↦ left_at limit wanting log waits e.0 x j
    ]) m.entries a in
    ap (λ es. next_of limit wanting log (ops_in es)) (sym (append_none m.entries)) ∙ next_behind limit wanting log m.entries [] b

-- ALL WERE TRIED

all_tried : (P : HeldEntry → Bool) (entries : List HeldEntry) → AllByRecursion (λ e. P e ≡ true) entries → list_all P entries ≡ true
all_tried P [] a = refl
all_tried P (e ∷ entries) a = let h = a.0 in rw h (all_tried P entries a.1)

-- all were tried at the log at which none is due
pub tried_now : (limit : ℕ) (wanting log : List Operation) (m : BTreeMap Standing (Option Operation)) (waits : Table) → AreReady limit wanting log m waits
    → ((q : Standing) → is_due q waits.due ≡ false) → IsOrdered by_stamp_and_arrival m → are_tried_at limit log waits.keys waits.again.items m.entries ≡ true
tried_now limit wanting log m waits r f s =
    all_tried (is_tried_at limit log waits.keys waits.again.items) m.entries
    (all_weaker (λ e. lookup (is_at (by_stamp_and_arrival e.0)) m.entries ≡ Some e.1) (λ e. is_tried_at limit log waits.keys waits.again.items e ≡ true) (λ e h. one e.0 e.1 (r e.0) h (f e.0)) m.entries (each_found m.entries s))
  where
    one : (p : Standing) (v : Option Operation) → ((x : Operation) → get by_stamp_and_arrival m p ≡ Some (Some x) → (is_due p waits.due ≡ true) ⊎ IsLeftAt limit wanting log waits p x)
        → lookup (is_at (by_stamp_and_arrival p)) m.entries ≡ Some v → is_due p waits.due ≡ false → is_tried_at limit log waits.keys waits.again.items (p, v) ≡ true
    one p None k h n = refl
    one p (Some x) k h n = elim (k x h) [
      | inl d ↦ absurd (cc (n, d))
      | inr j ↦ elim j [
        | inl i ↦ or_left (is_place_in p waits.again.items) (sleeps limit waits.keys log p x) i.0
        | inr i ↦ or_right (is_place_in p waits.again.items) (sleeps limit waits.keys log p x) i
      ]
    ]

pub tried_in : (limit : ℕ) (log : List Operation) (waits : Table) (entries : List HeldEntry) → are_tried_at limit log waits.keys waits.again.items entries ≡ true
    → (p : Standing) (x : Operation) → lookup (is_at (by_stamp_and_arrival p)) entries ≡ Some (Some x) → is_tried_at limit log waits.keys waits.again.items (p, Some x) ≡ true
tried_in limit log waits [] a p x g = absurd (cc g)
tried_in limit log waits (e ∷ entries) a p x g =
    let (i, j) = both (is_tried_at limit log waits.keys waits.again.items e) (are_tried_at limit log waits.keys waits.again.items entries) a in
    split (is_at (by_stamp_and_arrival p) e.0)
    (λ t. let h : Some e.1 ≡ Some (Some x) = rw t at g in
    let is : e.1 ≡ Some x = cc in
    let s = this_place p e.0 t in
    subst (λ (q : Standing). is_tried_at limit log waits.keys waits.again.items (q, Some x) ≡ true) (sym s) (subst (λ (v : Option Operation). is_tried_at limit log waits.keys waits.again.items (e.0, v) ≡ true) is i))
    (λ t. tried_in limit log waits entries j p x (rw t at g))

-- fewer were tried too
pub tried_less : (P : HeldEntry → Bool) (t : Standing → Bool) (entries : List HeldEntry) → list_all P entries ≡ true → list_all P (remove_entry t entries) ≡ true
tried_less P t [] a = refl
tried_less P t (e ∷ entries) a =
    let (i, j) = both (P e) (list_all P entries) a in
    elim (t e.0) as (λ b. list_all P (cond b entries (e ∷ remove_entry t entries)) ≡ true) [ true ↦ j | false ↦ rw i (tried_less P t entries j) ]

-- one more that was tried is put in
pub tried_more : (P : HeldEntry → Bool) (entries : List HeldEntry) (p : Standing) (v : Option Operation) → P (p, v) ≡ true → list_all P entries ≡ true → list_all P (insert_entry by_stamp_and_arrival entries p v) ≡ true
tried_more P [] p v h a = rw h refl
tried_more P (e ∷ entries) p v h a = one (by_stamp_and_arrival p e.0) refl (tried_more P entries p v h (both (P e) (list_all P entries) a).1)
  where
    one : (o : Ordering) → by_stamp_and_arrival p e.0 ≡ o → list_all P (insert_entry by_stamp_and_arrival entries p v) ≡ true
        → list_all P (match_ordering (by_stamp_and_arrival p e.0) ((p, v) ∷ e ∷ entries) ((e.0, v) ∷ entries) (e ∷ insert_entry by_stamp_and_arrival entries p v)) ≡ true
    one Less is k = rw is (rw h a)
    one Equal is k =
        let s = this_place p e.0 (ap is_eq is) in
        let j : P (e.0, v) ≡ true = subst (λ (q : Standing). P (q, v) ≡ true) s h in
        rw is (rw j (both (P e) (list_all P entries) a).1)
    one Greater is k = let i = (both (P e) (list_all P entries) a).0 in rw is (rw i k)
