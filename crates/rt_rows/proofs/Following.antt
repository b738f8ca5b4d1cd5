-- Rows.
use Rattle.std.proofs.Common.{◌≡◌, ℕ, zero, suc, ◌+◌, ◌-◌, ◌<◌, ◌≤◌, Bool, true, refl, sym, ap, ◌∙◌, subst, arith, List, [], ◌∷◌, ◌++◌, length, ◌&&◌, ◌==◌, get_or, Some, Option}
use Rattle.std.proofs.lemmas.Bool.Decides.{nat_tests}
use Rattle.std.specs.Prelude.{slice_get}
use Rattle.std.specs.Cmp.Lexicographic.{bytes_decides, pointwise_decides}
use Rattle.rt_stamps.specs.declared.stamp.Stamp.{Stamp}
use Rattle.rt_stamps.specs.Stamps.{is_same}
use Rattle.rt_stamps.proofs.Order.{same_refl, same_from_true}
use Rattle.rt_ops.specs.Operations.{Name, Body, Insert, Delete, Tag, Operation, stamp_of}
use Rattle.rt_rows.specs.declared.row.RowStart.{RowStart}
use Rattle.rt_rows.specs.declared.single.TypedOp.{TypedOp}
use Rattle.rt_rows.specs.Views.{operation_under}
use Rattle.rt_rows.specs.Rows.{TypedRow, are_same_names, character_of, follows, last_of_row, from_place, is_next_of_row, one_in, operations_in_row, puts, puts_one, stamp_in, row_with}

-- one more operation at the end

pub from_more : {X : Type 0} (start : RowStart) (body : ℕ → X → Body) (place : ℕ) (xs : List X) (x : X)
    → from_place start body place (xs ++ x ∷ []) ≡ from_place start body place xs ++ one_in start (place + length xs) (body (place + length xs) x) ∷ []
from_more start body place [] x = let e : place + 0 ≡ place = omega arith in rw e refl
from_more start body place (y ∷ xs) x =
    let e : suc place + length xs ≡ place + suc (length xs) = omega arith in
    ap (λ ops. one_in start place (body place y) ∷ ops)
    (from_more start body (suc place) xs x ∙ ap (λ n. from_place start body (suc place) xs ++ one_in start n (body n x) ∷ []) e)

-- the same for a row from its first place on
pub row_more : {X : Type 0} (start : RowStart) (body : ℕ → X → Body) (xs : List X) (x : X)
    → from_place start body 0 (xs ++ x ∷ []) ≡ from_place start body 0 xs ++ one_in start (length xs) (body (length xs) x) ∷ []
row_more start body xs x =
    let e : 0 + length xs ≡ length xs = omega arith in
    from_more start body 0 xs x ∙ ap (λ n. from_place start body 0 xs ++ one_in start n (body n x) ∷ []) e

pub from_length : {X : Type 0} (start : RowStart) (body : ℕ → X → Body) (place : ℕ) (xs : List X) → length (from_place start body place xs) ≡ length xs
from_length start body place [] = refl
from_length start body place (x ∷ xs) = ap suc (from_length start body (suc place) xs)

pub from_get : {X : Type 0} (start : RowStart) (body : ℕ → X → Body) (place : ℕ) (xs : List X) (k : ℕ) (d : X) → k < length xs
    → slice_get (from_place start body place xs) k ≡ Some (one_in start (place + k) (body (place + k) (get_or xs k d)))
from_get start body place [] k d l = absurd (omega arith)
from_get start body place (x ∷ xs) zero d l =
    let z : place ≡ place + 0 = omega arith in
    let some : Operation → Option Operation = λ o. Some o in
    ap (λ n. some (one_in start n (body n x))) z
from_get start body place (x ∷ xs) (suc k) d l =
    let z : suc place + k ≡ place + suc k = omega arith in
    let some : Operation → Option Operation = λ o. Some o in
    from_get start body (suc place) xs k d (omega arith) ∙ ap (λ n. some (one_in start n (body n (get_or xs k d)))) z

-- the operation at a place of a row
pub row_get : {X : Type 0} (start : RowStart) (body : ℕ → X → Body) (xs : List X) (k : ℕ) (d : X) → k < length xs
    → slice_get (from_place start body 0 xs) k ≡ Some (one_in start k (body k (get_or xs k d)))
row_get start body xs k d l =
    let z : 0 + k ≡ k = omega arith in
    let some : Operation → Option Operation = λ o. Some o in
    from_get start body 0 xs k d l ∙ ap (λ n. some (one_in start n (body n (get_or xs k d)))) z

-- its stamp
pub from_stamp : {X : Type 0} (start : RowStart) (body : ℕ → X → Body) (place : ℕ) (xs : List X) (k : ℕ) (d : Operation) → k < length xs
    → stamp_of (get_or (from_place start body place xs) k d) ≡ stamp_in start (place + k)
from_stamp start body place [] k d l = absurd (omega arith)
from_stamp start body place (x ∷ xs) zero d l = let z : place ≡ place + 0 = omega arith in ap (stamp_in start) z
from_stamp start body place (x ∷ xs) (suc k) d l =
    let z : suc place + k ≡ place + suc k = omega arith in
    from_stamp start body (suc place) xs k d (omega arith) ∙ ap (stamp_in start) z

pub row_stamp : {X : Type 0} (start : RowStart) (body : ℕ → X → Body) (xs : List X) (k : ℕ) (d : Operation) → k < length xs
    → stamp_in start k ≡ stamp_of (get_or (from_place start body 0 xs) k d)
row_stamp start body xs k d l = let z : k ≡ 0 + k = omega arith in ap (stamp_in start) z ∙ sym (from_stamp start body 0 xs k d l)

pub from_past : {X : Type 0} (start : RowStart) (body : ℕ → X → Body) (place : ℕ) (xs : List X) (k : ℕ) (d : Operation) → length xs ≤ k
    → get_or (from_place start body place xs) k d ≡ d
from_past start body place [] k d l = refl
from_past start body place (x ∷ xs) zero d l = absurd (omega arith)
from_past start body place (x ∷ xs) (suc k) d l = from_past start body (suc place) xs k d (omega arith)

-- what is put at the end of a list is known by the list

last_same : (xs : List Operation) (a b : Operation) → xs ++ a ∷ [] ≡ xs ++ b ∷ [] → a ≡ b
last_same [] a b h = cc h
last_same (x ∷ xs) a b h = last_same xs a b (cc h)

-- the next operation

pub follows_true : (start : RowStart) (n : ℕ) (op : Operation) → 0 < n → follows start n op ≡ true → op ≡ one_in start n op.body
follows_true start zero op h t = absurd (omega arith)
follows_true start (suc n) op h t =
    let e : suc n - 1 ≡ n = omega arith in
    let u : (is_same (stamp_of op) (stamp_in start (suc n)) && (op.prev == start.count + n)) ≡ true = rw e at t in
    let i : op.count ≡ start.count + suc n = grind (arith, nat_tests, u) in
    let j : op.site ≡ start.site = grind (arith, nat_tests, u) in
    let k : op.prev ≡ start.count + n = grind (arith, nat_tests, u) in
    λ t. record { count = i t; site = j t; prev = k t; body = op.body }

follows_refl : (start : RowStart) (n : ℕ) (body : Body) → 0 < n → follows start n (one_in start n body) ≡ true
follows_refl start zero body h = absurd (omega arith)
follows_refl start (suc n) body h = let e : suc n - 1 ≡ n = omega arith in rw e (grind (arith, nat_tests))

pub follows_count : (start : RowStart) (n : ℕ) (op : Operation) → follows start n op ≡ true → op.count ≡ start.count + n
follows_count start n op t = grind (arith, nat_tests, t)

pub names_true : (a b : List Name) → are_same_names a b ≡ true → a ≡ b
names_true a b h = (pointwise_decides bytes_decides a b).0 h

names_refl : (a : List Name) → are_same_names a a ≡ true
names_refl a = (pointwise_decides bytes_decides a a).1 refl

puts_true : (last : Stamp) (tags : List Name) (body : Body) → puts_one last tags body ≡ true → body ≡ Insert last tags (character_of body ∷ [])
puts_true last tags (Insert after names []) h = absurd (cc h)
puts_true last tags (Insert after names (c ∷ [])) h =
    let p : after ≡ last = same_from_true after last (grind (arith, h)) in
    let q : names ≡ tags = names_true names tags (grind (arith, h)) in
    λ i. Insert (p i) (q i) (c ∷ [])
puts_true last tags (Insert after names (c ∷ (d ∷ text))) h = absurd (cc h)
puts_true last tags (Delete spans) h = absurd (cc h)
puts_true last tags (Tag on name spans) h = absurd (cc h)

-- the test of the operation at a place that isn't the first
abbrev test_at : RowStart → List Name → ℕ → Operation → Bool
test_at start tags n op = follows start n op && puts_one (stamp_in start (n - 1)) tags op.body

next_true : (start : RowStart) (after : Stamp) (tags : List Name) (n : ℕ) (op : Operation) → 0 < n → test_at start tags n op ≡ true
    → op ≡ one_in start n (puts start after tags n (character_of op.body))
next_true start after tags zero op h t = absurd (omega arith)
next_true start after tags (suc n) op h t =
    let e : suc n - 1 ≡ n = omega arith in
    let f : follows start (suc n) op ≡ true = grind (arith, t) in
    let r : puts_one (stamp_in start (suc n - 1)) tags op.body ≡ true = grind (arith, t) in
    let p : puts_one (stamp_in start n) tags op.body ≡ true = rw e at r in
    follows_true start (suc n) op h f ∙ ap (one_in start (suc n)) (puts_true (stamp_in start n) tags op.body p)

next_refl : (start : RowStart) (after : Stamp) (tags : List Name) (n c : ℕ) → 0 < n → test_at start tags n (one_in start n (puts start after tags n c)) ≡ true
next_refl start after tags zero c h = absurd (omega arith)
next_refl start after tags (suc n) c h =
    let e : suc n - 1 ≡ n = omega arith in
    let q : puts_one (stamp_in start n) tags (Insert (stamp_in start n) tags (c ∷ [])) ≡ true = rw (same_refl (stamp_in start n)) (names_refl tags) in
    let f = follows_refl start (suc n) (puts start after tags (suc n) c) h in
    rw (f, e) q

pub row_next : (row : TypedRow) (op : Operation) → 0 < length row.text → is_next_of_row row op ≡ true
    → operations_in_row (row_with row (character_of op.body)) ≡ operations_in_row row ++ op ∷ []
row_next row op h t =
    row_more row.start (puts row.start row.after row.tags) row.text (character_of op.body)
    ∙ ap (λ x. operations_in_row row ++ x ∷ []) (sym (next_true row.start row.after row.tags (length row.text) op h t))

pub row_exact : (row : TypedRow) (op : Operation) (c : ℕ) → 0 < length row.text → operations_in_row (row_with row c) ≡ operations_in_row row ++ op ∷ []
    → is_next_of_row row op ≡ true
row_exact row op c h e =
    let n = length row.text in
    let made = sym (row_more row.start (puts row.start row.after row.tags) row.text c) ∙ e in
    let same : one_in row.start n (puts row.start row.after row.tags n c) ≡ op =
    last_same (operations_in_row row) (one_in row.start n (puts row.start row.after row.tags n c)) op made in
    subst (λ x. test_at row.start row.tags n x ≡ true) same (next_refl row.start row.after row.tags n c h)

-- the operation of a character under the row's tags is the next one
pub typed_next : (row : TypedRow) (typed : TypedOp) → (follows row.start (length row.text) (operation_under row.tags typed) && is_same typed.after (last_of_row row)) ≡ true
    → is_next_of_row row (operation_under row.tags typed) ≡ true
typed_next row typed h =
    let op = operation_under row.tags typed in
    let f : follows row.start (length row.text) op ≡ true = grind (arith, h) in
    let p : is_same typed.after (last_of_row row) ≡ true = grind (arith, h) in
    rw (f, p) (names_refl row.tags)

-- the count of the next operation
pub next_count : (row : TypedRow) (op : Operation) → is_next_of_row row op ≡ true → op.count ≡ row.start.count + length row.text
next_count row op t = follows_count row.start (length row.text) op (grind (arith, t))
