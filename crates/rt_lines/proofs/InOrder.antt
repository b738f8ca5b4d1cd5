-- Limits stay in their order while cells come in, and where a newline comes back.
use Rattle.std.proofs.Common.{◌≡◌, ℕ, zero, suc, ◌+◌, ◌-◌, ◌<◌, ◌≤◌, ◌⊎◌, inl, inr, List, [], ◌∷◌, ◌++◌, ◌||◌, Bool, true, false, cond, length, map, refl, sym, subst, ap, ◌∙◌, arith, length-append}
use Rattle.std.specs.Prelude.{IfSome, Option, Some, None, nat_lt, option_map, option_and_then, unwrap_or}
use Rattle.std.specs.List.{find, position_or_len}
use Rattle.std.proofs.lemmas.Bool.{lt-ltb, or_parts}
use Rattle.rt_stamps.specs.declared.stamp.Stamp.{Stamp}
use Rattle.rt_stamps.specs.declared.stamp.TheConstants.{FINAL}
use Rattle.rt_stamps.specs.Stamps.{is_same, replaced}
use Rattle.rt_stamps.proofs.Order.{same_from_true, same_refl, same_sym}
use Rattle.rt_store.specs.declared.cell.Cell.{Cell}
use Rattle.rt_store.specs.Cells.{AreDistinct, EndsFinal, cell_of, position_of, put_at, stamps_of}
use Rattle.rt_store.specs.Spans.{is_among}
use Rattle.rt_store.proofs.Distinct.{differs, first_apart, others_distinct, split}
use Rattle.rt_store.proofs.Finding.{position_within}
use Rattle.rt_store.proofs.Places.{final_last, length_put}
use Rattle.rt_lines.specs.declared.limits.Limits.{Limits}
use Rattle.rt_lines.specs.Limits.{limits_renamed, no_limits}
use Rattle.rt_lines.specs.Ordered.{LimitsAreInOrder, IsNewline, StandAmong, end_position, letter_of, letters_of}

-- POSITIONS, by recursion over the cells

abbrev pub at : {T : Type 0} → List (Cell T) → Stamp → Option ℕ
at [] s = None
at (x ∷ xs) s = cond (is_same x.stamp s) (Some 0) (option_map suc (at xs s))

first_below : (n : ℕ) → cond {A = Option ℕ} (nat_lt 0 (suc n)) (Some 0) None ≡ Some 0
first_below n = ap (λ b. cond {A = Option ℕ} b (Some 0) None) (lt-ltb 0 (suc n) (omega arith))

one_further : (m l : ℕ) (o : Option ℕ) → cond (nat_lt m l) (Some m) None ≡ o → cond (nat_lt (1 + m) (suc l)) (Some (1 + m)) None ≡ option_map suc o
one_further m l o e = split (nat_lt m l)
    (λ b. let c : nat_lt (1 + m) (suc l) ≡ true = grind (arith, b) in let is : Some m ≡ o = rw b at e in
    let one : 1 + m ≡ suc m = omega arith in rw c (ap Some one ∙ ap (option_map suc) is))
    (λ b. let c : nat_lt (1 + m) (suc l) ≡ false = grind (arith, b) in let is : None ≡ o = rw b at e in rw c (ap (option_map suc) is))

pub position_is : {T : Type 0} (cells : List (Cell T)) (s : Stamp) → position_of cells s ≡ at cells s
position_is [] s = refl
position_is {T} (x ∷ xs) s = by (is_same x.stamp s) refl (position_is xs s)
  where
    by : (b : Bool) → is_same x.stamp s ≡ b → position_of xs s ≡ at xs s → position_of (x ∷ xs) s ≡ cond b (Some 0) (option_map suc (at xs s))
    by true e i = rw e (first_below (length xs))
    by false e i = rw e (one_further (position_or_len (λ (cell : Cell T). is_same cell.stamp s) xs) (length xs) (at xs s) i)

-- where a stamp is found, it is one of the cells
at_among : {T : Type 0} (cells : List (Cell T)) (s : Stamp) (p : ℕ) → at cells s ≡ Some p → is_among (stamps_of cells) s ≡ true
at_among [] s p h = let bad : ⊥ = cc in absurd bad
at_among {T} (x ∷ xs) s p h = by (is_same x.stamp s) (at xs s) (λ q e. at_among xs s q e) h
  where
    by : (b : Bool) (o : Option ℕ) → ((q : ℕ) → o ≡ Some q → is_among (stamps_of xs) s ≡ true) → cond b (Some 0) (option_map suc o) ≡ Some p → (b || is_among (stamps_of xs) s) ≡ true
    by true o rest k = refl
    by false None rest k = let bad : ⊥ = cc in absurd bad
    by false (Some q) rest k = rest q refl

-- behind another cell
at_behind : {T : Type 0} (x : Cell T) (xs : List (Cell T)) (s : Stamp) (p : ℕ) → is_same x.stamp s ≡ false → at xs s ≡ Some p → at (x ∷ xs) s ≡ Some (suc p)
at_behind x xs s p e h = rw e (ap (option_map suc) h)

-- the one cell that a position is of
record IsBehind {T : Type 0} (x : Cell T) (xs : List (Cell T)) (s : Stamp) (p before : ℕ) : Type 0 where
  pub other : is_same x.stamp s ≡ false
  pub there : at xs s ≡ Some before
  pub is : p ≡ suc before

at_where : {T : Type 0} (x : Cell T) (xs : List (Cell T)) (s : Stamp) (p : ℕ) → at (x ∷ xs) s ≡ Some p
    → ((is_same x.stamp s ≡ true) × (p ≡ 0)) ⊎ ((before : ℕ) × IsBehind x xs s p before)
at_where {T} x xs s p h = by (is_same x.stamp s) (at xs s) refl refl h
  where
    by : (b : Bool) (o : Option ℕ) → is_same x.stamp s ≡ b → at xs s ≡ o → cond b (Some 0) (option_map suc o) ≡ Some p
        → ((is_same x.stamp s ≡ true) × (p ≡ 0)) ⊎ ((before : ℕ) × IsBehind x xs s p before)
    by true o e k m = let zero_is : 0 ≡ p = cc in inl (e, sym zero_is)
    by false None e k m = let bad : ⊥ = cc in absurd bad
    by false (Some q) e k m = let suc_is : suc q ≡ p = cc in inr (q, record { other = e; there = k; is = sym suc_is })

-- CELLS AMONG MORE

same_stamp : {S T : Type 0} (x : Cell S) (y : Cell T) → letter_of x ≡ letter_of y → x.stamp ≡ y.stamp
same_stamp x y e = ap (λ (l : Stamp × ℕ). l.0) e

among_kept : {S T : Type 0} (cells : List (Cell S)) (more : List (Cell T)) (s : Stamp) (p : ℕ) → StandAmong (letters_of cells) (letters_of more) → at cells s ≡ Some p
    → (q : ℕ) × (at more s ≡ Some q)
among_kept [] more s p a h = let bad : ⊥ = cc in absurd bad
among_kept (x ∷ xs) [] s p a h = absurd a
among_kept {S} {T} (x ∷ xs) (y ∷ ys) s p a h = split (is_same y.stamp s)
    (λ e. (0, rw e refl))
    (λ e. elim a [
      | inl both ↦ elim (at_where x xs s p h) [
        | inl here ↦ (let same = ap (λ t. is_same t s) (same_stamp x y both.0) in let first = here.0 in let bad : ⊥ = cc in absurd bad)
        | inr there ↦ (let (q, found) = among_kept xs ys s there.0 both.1 there.1.there in (suc q, at_behind y ys s q e found))
      ]
      | inr rest ↦ (let (q, found) = among_kept (x ∷ xs) ys s p rest h in (suc q, at_behind y ys s q e found))
    ])

-- two stamps in their order
record AreFound {T : Type 0} (cells : List (Cell T)) (s t : Stamp) (p q : ℕ) : Type 0 where
  pub first : at cells s ≡ Some p
  pub second : at cells t ≡ Some q
  pub less : p < q

both_behind : {T : Type 0} (y : Cell T) (ys : List (Cell T)) (s t : Stamp) (p q : ℕ) → is_same y.stamp s ≡ false → is_same y.stamp t ≡ false → AreFound ys s t p q
    → AreFound (y ∷ ys) s t (suc p) (suc q)
both_behind y ys s t p q d e f = record { first = at_behind y ys s p d f.first; second = at_behind y ys t q e f.second; less = omega (arith, f.less) }

-- another cell stands in front
module _ {T : Type 0} (y : Cell T) (ys : List (Cell T)) (s t : Stamp) (d : AreDistinct (y ∷ ys)) where
  apart : (u : Stamp) (n : ℕ) → at ys u ≡ Some n → is_same y.stamp u ≡ false
  apart u n found = differs y.stamp u (stamps_of ys) (first_apart y.stamp (stamps_of ys) d) (at_among ys u n found)

  more_in_front : (i j : ℕ) → AreFound ys s t i j → (i : ℕ) × (j : ℕ) × AreFound (y ∷ ys) s t i j
  more_in_front i j found = (suc i, suc j, both_behind y ys s t i j (apart s i found.first) (apart t j found.second) found)

-- the same cell stands in front of both
front_kept : {S T : Type 0} (x : Cell S) (xs : List (Cell S)) (y : Cell T) (ys : List (Cell T)) (s t : Stamp) (p q : ℕ) → AreDistinct (y ∷ ys) → letter_of x ≡ letter_of y
    → StandAmong (letters_of xs) (letters_of ys) → AreFound (x ∷ xs) s t p q → ((p q : ℕ) → AreFound xs s t p q → (i : ℕ) × (j : ℕ) × AreFound ys s t i j)
    → (i : ℕ) × (j : ℕ) × AreFound (y ∷ ys) s t i j
front_kept x xs y ys s t p q d e rest f others = elim (at_where x xs t q f.second) [
  | inl here ↦ absurd (omega (arith, f.less, here.1))
  | inr second ↦ elim (at_where x xs s p f.first) [
    | inl here ↦ (
        let first : is_same y.stamp s ≡ true = ap (λ u. is_same u s) (sym (same_stamp x y e)) ∙ here.0 in
        let other : is_same y.stamp t ≡ false = ap (λ u. is_same u t) (sym (same_stamp x y e)) ∙ second.1.other in
        let (j, found) = among_kept xs ys t second.0 rest second.1.there in
        (0, suc j, record { first = rw first refl; second = at_behind y ys t j other found; less = omega arith })
        )
    | inr first ↦ (
        let less : first.0 < second.0 = omega (arith, f.less, first.1.is, second.1.is) in
        let (i, j, found) = others first.0 second.0 (record { first = first.1.there; second = second.1.there; less = less }) in
        more_in_front y ys s t d i j found
        )
  ]
]

order_kept : {S T : Type 0} (cells : List (Cell S)) (more : List (Cell T)) (s t : Stamp) (p q : ℕ) → AreDistinct more → StandAmong (letters_of cells) (letters_of more)
    → AreFound cells s t p q → (i : ℕ) × (j : ℕ) × AreFound more s t i j
order_kept [] more s t p q d a f = let first = f.first in let bad : ⊥ = cc in absurd bad
order_kept (x ∷ xs) [] s t p q d a f = absurd a
order_kept (x ∷ xs) (y ∷ ys) s t p q d a f =
    let rest_distinct = others_distinct y.stamp (stamps_of ys) d in
    elim a [
      | inl both ↦ front_kept x xs y ys s t p q d both.0 both.1 f (λ i j found. order_kept xs ys s t i j rest_distinct both.1 found)
      | inr rest ↦ (let (i, j, found) = order_kept (x ∷ xs) ys s t p q rest_distinct rest f in more_in_front y ys s t d i j found)
    ]

-- NEWLINES

-- one is found
pub newline_at : {T : Type 0} (cells : List (Cell T)) (s : Stamp) → IsNewline cells s → (p : ℕ) × (at cells s ≡ Some p)
newline_at [] s h = let bad : ⊥ = cc in absurd bad
newline_at {T} (x ∷ xs) s h = by (is_same x.stamp s) refl h (λ k. newline_at xs s k)
  where
    by : (b : Bool) → is_same x.stamp s ≡ b → option_map (λ (cell : Cell T). cell.ch) (cond b (Some x) (cell_of xs s)) ≡ Some 10
        → (IsNewline xs s → (p : ℕ) × (at xs s ≡ Some p)) → (p : ℕ) × (at (x ∷ xs) s ≡ Some p)
    by true e k rest = (0, rw e refl)
    by false e k rest = let (p, found) = rest k in (suc p, at_behind x xs s p e found)

newline_behind : {T : Type 0} (y : Cell T) (ys : List (Cell T)) (s : Stamp) → AreDistinct (y ∷ ys) → IsNewline ys s → IsNewline (y ∷ ys) s
newline_behind y ys s d h =
    let (p, found) = newline_at ys s h in
    let other : is_same y.stamp s ≡ false = apart y ys s s d s p found in
    rw other h

-- it stays one
newline_kept : {S T : Type 0} (cells : List (Cell S)) (more : List (Cell T)) (s : Stamp) → AreDistinct more → StandAmong (letters_of cells) (letters_of more) → IsNewline cells s → IsNewline more s
newline_kept [] more s d a h = let bad : ⊥ = cc in absurd bad
newline_kept (x ∷ xs) [] s d a h = absurd a
newline_kept {S} {T} (x ∷ xs) (y ∷ ys) s d a h =
    let rest_distinct = others_distinct y.stamp (stamps_of ys) d in
    elim a [
      | inl both ↦ by both.0 (is_same x.stamp s) refl h (λ k. newline_kept xs ys s rest_distinct both.1 k)
      | inr rest ↦ newline_behind y ys s d (newline_kept (x ∷ xs) ys s rest_distinct rest h)
    ]
  where
    by : letter_of x ≡ letter_of y → (b : Bool) → is_same x.stamp s ≡ b → option_map (λ (cell : Cell S). cell.ch) (cond b (Some x) (cell_of xs s)) ≡ Some 10
        → (IsNewline xs s → IsNewline ys s) → IsNewline (y ∷ ys) s
    by e true k m rest =
        let here : is_same y.stamp s ≡ true = ap (λ u. is_same u s) (sym (same_stamp x y e)) ∙ k in
        rw here (ap (λ (l : Stamp × ℕ). Some (l.1)) (sym e) ∙ m)
    by e false k m rest = newline_behind y ys s d (rest m)

-- the final newline stands last
or_true : (a b : Bool) → b ≡ true → (a || b) ≡ true
or_true true b h = refl
or_true false b h = h

final_held : {T : Type 0} (front : List (Cell T)) (last : Cell T) → last.stamp ≡ FINAL → is_among (stamps_of (front ++ last ∷ [])) FINAL ≡ true
final_held [] last e = rw e refl
final_held (x ∷ xs) last e = or_true (is_same x.stamp FINAL) (is_among (stamps_of (xs ++ last ∷ [])) FINAL) (final_held xs last e)

final_behind : {T : Type 0} (front : List (Cell T)) (last : Cell T) → last.stamp ≡ FINAL → AreDistinct (front ++ last ∷ []) → at (front ++ last ∷ []) FINAL ≡ Some (length front)
final_behind [] last e k = rw e refl
final_behind (x ∷ xs) last e k =
    let other : is_same x.stamp FINAL ≡ false = differs x.stamp FINAL (stamps_of (xs ++ last ∷ [])) (first_apart x.stamp (stamps_of (xs ++ last ∷ [])) k) (final_held xs last e) in
    let more : suc (length xs) ≡ length (x ∷ xs) = omega arith in
    at_behind x (xs ++ last ∷ []) FINAL (length xs) other (final_behind xs last e (others_distinct x.stamp (stamps_of (xs ++ last ∷ [])) k)) ∙ ap Some more

pub final_stands : {T : Type 0} (cells : List (Cell T)) → AreDistinct cells → EndsFinal cells → at cells FINAL ≡ Some (length cells - 1)
final_stands {T} cells d h =
    let (front, last, l) = final_last cells h in
    let many : length cells ≡ length front + 1 = ap length l.is ∙ length-append front (last ∷ []) in
    let one_less : length front ≡ length cells - 1 = omega (arith, many) in
    ap (λ (cs : List (Cell T)). at cs FINAL) l.is ∙ final_behind front last l.stamp (subst AreDistinct l.is d) ∙ ap Some one_less

-- LIMITS AMONG MORE CELLS

pub none_in_order : {T : Type 0} (cells : List (Cell T)) → LimitsAreInOrder cells no_limits
none_in_order cells = record { start = tt; end = tt; before = tt }

newlines_kept : {S T : Type 0} (cells : List (Cell S)) (more : List (Cell T)) (limit : Option Stamp) → AreDistinct more → StandAmong (letters_of cells) (letters_of more)
    → IfSome limit (IsNewline cells) → IfSome limit (IsNewline more)
newlines_kept cells more None d a h = tt
newlines_kept cells more (Some s) d a h = newline_kept cells more s d a h

-- the end of a view: its newline, which is the final one without a limit
abbrev pub end_stamp : Option Stamp → Stamp
end_stamp None = FINAL
end_stamp (Some s) = s

-- where the start stands before the end
pub end_found : {T : Type 0} (cells : List (Cell T)) (limits : Limits) → AreDistinct cells → EndsFinal cells → IfSome limits.end (IsNewline cells)
    → at cells (end_stamp limits.end) ≡ Some (end_position cells limits)
end_found {T} cells limits d f h = by limits.end h
  where
    by : (o : Option Stamp) → IfSome o (IsNewline cells) → at cells (end_stamp o) ≡ Some (unwrap_or (option_and_then (position_of cells) o) (length cells - 1))
    by None k = final_stands cells d f
    by (Some s) k = let (p, found) = newline_at cells s k in found ∙ ap (λ (o : Option ℕ). Some (unwrap_or o (length cells - 1))) (sym (position_is cells s ∙ found))

end_within : {T : Type 0} (cells : List (Cell T)) (limit : Option Stamp) (p : ℕ) → at cells (end_stamp limit) ≡ Some p
    → p ≤ unwrap_or (option_and_then (position_of cells) limit) (length cells - 1)
end_within cells None p h = let below = position_within cells FINAL p (position_is cells FINAL ∙ h) in omega (arith, below)
end_within cells (Some s) p h = let same : unwrap_or (position_of cells s) (length cells - 1) ≡ p = ap (λ (o : Option ℕ). unwrap_or o (length cells - 1)) (position_is cells s ∙ h) in omega (arith, same)

pub order_grown : {S T : Type 0} (cells : List (Cell S)) (more : List (Cell T)) (limits : Limits) → AreDistinct cells → EndsFinal cells → AreDistinct more
    → StandAmong (letters_of cells) (letters_of more) → LimitsAreInOrder cells limits → LimitsAreInOrder more limits
order_grown {S} {T} cells more limits d f e a h = record {
  start = newlines_kept cells more limits.start e a h.start;
  end = newlines_kept cells more limits.end e a h.end;
  before = by limits.start h.start h.before;
}
  where
    by : (o : Option Stamp) → IfSome o (IsNewline cells) → IfSome (option_and_then (position_of cells) o) (λ p. p < end_position cells limits)
        → IfSome (option_and_then (position_of more) o) (λ p. p < end_position more limits)
    by None k b = tt
    by (Some s) k b =
        let (p, found) = newline_at cells s k in
        let less : p < end_position cells limits = subst (λ (o : Option ℕ). IfSome o (λ p. p < end_position cells limits)) (position_is cells s ∙ found) b in
        let (i, j, both) = order_kept cells more s (end_stamp limits.end) p (end_position cells limits) e a
        (record { first = found; second = end_found cells limits d f h.end; less = less }) in
        let within : j ≤ end_position more limits = end_within more limits.end j both.second in
        subst (λ (o : Option ℕ). IfSome o (λ p. p < end_position more limits)) (sym (position_is more s ∙ both.first)) (omega (arith, both.less, within))

-- A NEWLINE THAT COMES BACK

-- one more cell at a position
either : {T : Type 0} (b : Bool) (x : Cell T) (o p : Option (Cell T)) → (option_map (λ (cell : Cell T). cell.ch) o ≡ Some 10 → option_map (λ (cell : Cell T). cell.ch) p ≡ Some 10)
    → option_map (λ (cell : Cell T). cell.ch) (cond b (Some x) o) ≡ Some 10 → option_map (λ (cell : Cell T). cell.ch) (cond b (Some x) p) ≡ Some 10
either true x o p f h = h
either false x o p f h = f h

module _ {T : Type 0} (new : Cell T) where
  -- where another cell stands then
  abbrev IsPast : ℕ → ℕ → ℕ → Type 0
  IsPast n p j = ((j ≡ p) × (p < n)) ⊎ ((j ≡ p + 1) × (n ≤ p))

  other_past : (n : ℕ) (cells : List (Cell T)) (s : Stamp) (p : ℕ) → is_same new.stamp s ≡ false → at cells s ≡ Some p → (j : ℕ) × (at (put_at n (new ∷ []) cells) s ≡ Some j) × IsPast n p j
  other_past zero cells s p o h = (suc p, at_behind new cells s p o h, inr (omega arith, omega arith))
  other_past (suc n) [] s p o h = let bad : ⊥ = cc in absurd bad
  other_past (suc n) (x ∷ xs) s p o h = elim (at_where x xs s p h) [
    | inl here ↦ (0, rw here.0 refl, inl (omega (arith, here.1), omega (arith, here.1)))
    | inr later ↦ (
        let (j, found, past) = other_past n xs s later.0 o later.1.there in (
          suc j,
          at_behind x (put_at n (new ∷ []) xs) s j later.1.other found,
          elim past [
            | inl low ↦ inl (omega (arith, low.0, later.1.is), omega (arith, low.1, later.1.is))
            | inr high ↦ inr (omega (arith, high.0, later.1.is), omega (arith, high.1, later.1.is))
          ],
        )
        )
  ]

  new_there : (n : ℕ) (cells : List (Cell T)) → n ≤ length cells → is_among (stamps_of cells) new.stamp ≡ false → at (put_at n (new ∷ []) cells) new.stamp ≡ Some n
  new_there zero cells l h = rw (same_refl new.stamp) refl
  new_there (suc n) [] l h = absurd (omega (arith, l))
  new_there (suc n) (x ∷ xs) l h =
      let apart = or_parts (is_same x.stamp new.stamp) (is_among (stamps_of xs) new.stamp) h in
      at_behind x (put_at n (new ∷ []) xs) new.stamp n apart.0 (new_there n xs (omega (arith, l)) apart.1)

  other_newline : (n : ℕ) (cells : List (Cell T)) (s : Stamp) → is_same new.stamp s ≡ false → IsNewline cells s → IsNewline (put_at n (new ∷ []) cells) s
  other_newline zero cells s o h = rw o h
  other_newline (suc n) [] s o h = let bad : ⊥ = cc in absurd bad
  other_newline (suc n) (x ∷ xs) s o h = either (is_same x.stamp s) x (cell_of xs s) (cell_of (put_at n (new ∷ []) xs) s) (λ k. other_newline n xs s o k) h

  new_newline : (n : ℕ) (cells : List (Cell T)) → new.ch ≡ 10 → is_among (stamps_of cells) new.stamp ≡ false → IsNewline (put_at n (new ∷ []) cells) new.stamp
  new_newline zero cells e h = rw (same_refl new.stamp) (ap Some e)
  new_newline (suc n) [] e h = rw (same_refl new.stamp) (ap Some e)
  new_newline (suc n) (x ∷ xs) e h =
      let apart = or_parts (is_same x.stamp new.stamp) (is_among (stamps_of xs) new.stamp) h in
      rw apart.0 (new_newline n xs e apart.1)

-- a position after a cell came in behind another position, for the stamp that the cell has then
abbrev Moves : ℕ → ℕ → ℕ → Type 0
Moves position old new = ((new ≡ old) × (old ≤ position)) ⊎ ((new ≡ old + 1) × (position ≤ old))

moved_less : (position a b i j : ℕ) → Moves position a i → Moves position b j → a < b → i < j
moved_less position a b i j m n h = elim m [
  | inl low ↦ elim n [ inl k ↦ omega (arith, low.0, k.0, h) | inr k ↦ omega (arith, low.0, k.0, h) ]
  | inr high ↦ elim n [ inl k ↦ absurd (omega (arith, high.1, k.1, h)) | inr k ↦ omega (arith, high.0, k.0, h) ]
]

module _ {T : Type 0} (cells : List (Cell T)) (limits : Limits) (former : Stamp) (position : ℕ) (new : Cell T) (there : at cells former ≡ Some position)
    (alike : option_map (λ (cell : Cell T). cell.ch) (cell_of cells former) ≡ Some new.ch) (fresh : is_among (stamps_of cells) new.stamp ≡ false) where
  abbrev more : List (Cell T)
  more = put_at (position + 1) (new ∷ []) cells

  within : position < length cells
  within = position_within cells former position (position_is cells former ∙ there)

  abbrev renamed : Stamp → Stamp
  renamed s = replaced former new.stamp s

  renamed_at : (s : Stamp) (p : ℕ) → at cells s ≡ Some p → (j : ℕ) × (at more (renamed s) ≡ Some j) × Moves position p j
  renamed_at s p h = split (is_same s former)
      (λ e. let same : Some p ≡ Some position = sym h ∙ ap (at cells) (same_from_true s former e) ∙ there in
      let is : p ≡ position = cc in
      (position + 1, rw e (new_there new (position + 1) cells (omega (arith, within)) fresh), inr (omega (arith, is), omega (arith, is))))
      (λ e. let other : is_same new.stamp s ≡ false = differs new.stamp s (stamps_of cells) fresh (at_among cells s p h) in
      let (j, found, past) = other_past new (position + 1) cells s p other h in
      (j, rw e found, elim past [ inl low ↦ inl (low.0, omega (arith, low.1)) | inr high ↦ inr (high.0, omega (arith, high.1)) ]))

  renamed_newline : (s : Stamp) → IsNewline cells s → IsNewline more (renamed s)
  renamed_newline s h = split (is_same s former)
      (λ e. let same : Some new.ch ≡ Some 10 = sym alike ∙ ap (λ t. option_map (λ (cell : Cell T). cell.ch) (cell_of cells t)) (sym (same_from_true s former e)) ∙ h in
      let is : new.ch ≡ 10 = cc in rw e (new_newline new (position + 1) cells is fresh))
      (λ e. let (p, found) = newline_at cells s h in
      let other : is_same new.stamp s ≡ false = differs new.stamp s (stamps_of cells) fresh (at_among cells s p found) in
      rw e (other_newline new (position + 1) cells s other h))

  renamed_newlines : (o : Option Stamp) → IfSome o (IsNewline cells) → IfSome (option_map renamed o) (IsNewline more)
  renamed_newlines None h = tt
  renamed_newlines (Some s) h = renamed_newline s h

  end_moves : (o : Option Stamp) → IfSome o (IsNewline cells)
      → Moves position (unwrap_or (option_and_then (position_of cells) o) (length cells - 1)) (unwrap_or (option_and_then (position_of more) (option_map renamed o)) (length more - 1))
  end_moves None h =
      let many : length more ≡ length cells + 1 = length_put (position + 1) (new ∷ []) cells in
      inr (omega (arith, many, within), omega (arith, within))
  end_moves (Some s) h =
      let (p, found) = newline_at cells s h in
      let (j, later, moves) = renamed_at s p found in
      let old : unwrap_or (position_of cells s) (length cells - 1) ≡ p = ap (λ (o : Option ℕ). unwrap_or o (length cells - 1)) (position_is cells s ∙ found) in
      let now : unwrap_or (position_of more (renamed s)) (length more - 1) ≡ j = ap (λ (o : Option ℕ). unwrap_or o (length more - 1)) (position_is more (renamed s) ∙ later) in
      subst (λ (x : _). x) (λ i. Moves position (sym old i) (sym now i)) moves

  pub order_renamed : LimitsAreInOrder cells limits → LimitsAreInOrder more (limits_renamed former new.stamp limits)
  order_renamed h = record {
    start = renamed_newlines limits.start h.start;
    end = renamed_newlines limits.end h.end;
    before = by limits.start h.start h.before;
  }
    where
      by : (o : Option Stamp) → IfSome o (IsNewline cells) → IfSome (option_and_then (position_of cells) o) (λ p. p < end_position cells limits)
          → IfSome (option_and_then (position_of more) (option_map renamed o)) (λ p. p < end_position more (limits_renamed former new.stamp limits))
      by None k b = tt
      by (Some s) k b =
          let (p, found) = newline_at cells s k in
          let less : p < end_position cells limits = subst (λ (o : Option ℕ). IfSome o (λ p. p < end_position cells limits)) (position_is cells s ∙ found) b in
          let (j, later, moves) = renamed_at s p found in
          subst (λ (o : Option ℕ). IfSome o (λ p. p < end_position more (limits_renamed former new.stamp limits))) (sym (position_is more (renamed s) ∙ later))
          (moved_less position p (end_position cells limits) j (end_position more (limits_renamed former new.stamp limits)) moves (end_moves limits.end h.end) less)
