-- Facts on the rows of a memory.
use Rattle.std.proofs.Common.{◌≡◌, ℕ, zero, suc, ◌<◌, ◌≤◌, List, [], ◌∷◌, ◌++◌, length, get_or, set, map, take, drop, refl, ap, arith, ◌+◌, ◌-◌, length-append, length-drop, length-take, length-set, ◌∙◌}
use Rattle.std.proofs.lemmas.List.{map-set}
use Rattle.std.specs.List.{refill}
use Rattle.rt_nodes.specs.Rows.{Row, row, row_items, row_at, with_items, with_tail_moved, AreEmpty}
use Rattle.rt_nodes.specs.Inside.{IsRow, AreRows}

pub refilled : {X : Type 0} (n : ℕ) (xs ws : List X) → n ≡ length xs → length ws ≡ length xs → refill n xs ws ≡ ws
refilled zero [] [] long same = refl
refilled zero (x ∷ xs) ws long same = absurd (omega arith)
refilled zero [] (w ∷ ws) long same = absurd (omega arith)
refilled (suc n) [] ws long same = absurd (omega arith)
refilled (suc n) (x ∷ xs) [] long same = absurd (omega arith)
refilled (suc n) (x ∷ xs) (w ∷ ws) long same = ap (λ l. w ∷ l) (refilled n xs ws (omega arith) (omega arith))

module _ {E : Type 0} where
  pub is_at : (rs : List (Row E)) (i : ℕ) (r : Row E) → i < length rs → r ≡ get_or rs i r → r ≡ row_at rs i
  is_at [] i r lt is = absurd (omega arith)
  is_at (x ∷ rs) zero r lt is = is
  is_at (x ∷ rs) (suc i) r lt is = is_at rs i r (omega arith) is

  pub same_at : (rs : List (Row E)) (i : ℕ) (d : Row E) → i < length rs → get_or rs i d ≡ row_at rs i
  same_at [] i d lt = absurd (omega arith)
  same_at (x ∷ rs) zero d lt = refl
  same_at (x ∷ rs) (suc i) d lt = same_at rs i d (omega arith)

  pub items_moved : (rs : List (Row E)) (a k b : ℕ) → map row_items (with_tail_moved rs a k b) ≡ set (set (map row_items rs) a (take k (row_at rs a).items)) b ((row_at rs b).items ++ drop k (row_at rs a).items)
  items_moved rs a k b =
      let less = with_items rs a (take k (row_at rs a).items) in
      map-set row_items less b (row ((row_at rs b).items ++ drop k (row_at rs a).items) (row_at less b).capacity)
      ∙ ap (λ l. set l b ((row_at rs b).items ++ drop k (row_at rs a).items)) (map-set row_items rs a (row (take k (row_at rs a).items) (row_at rs a).capacity))

  pub items_at : (rs : List (Row E)) (i : ℕ) → get_or (map row_items rs) i [] ≡ (row_at rs i).items
  items_at [] i = refl
  items_at (x ∷ rs) zero = refl
  items_at (x ∷ rs) (suc i) = items_at rs i

  pub AreRows-at : (n : ℕ) (rs : List (Row E)) (i : ℕ) → AreRows n rs → i < length rs → IsRow n (row_at rs i)
  AreRows-at n [] i all lt = absurd (omega arith)
  AreRows-at n (x ∷ rs) zero all lt = all.0
  AreRows-at n (x ∷ rs) (suc i) all lt = AreRows-at n rs i all.1 (omega arith)

  pub AreRows-set : (n : ℕ) (rs : List (Row E)) (i : ℕ) (r : Row E) → AreRows n rs → IsRow n r → AreRows n (set rs i r)
  AreRows-set n [] i r all is = tt
  AreRows-set n (x ∷ rs) zero r all is = (is, all.1)
  AreRows-set n (x ∷ rs) (suc i) r all is = (all.0, AreRows-set n rs i r all.1 is)

  pub AreRows-moved : (n : ℕ) (rs : List (Row E)) (a k b : ℕ) → AreRows n rs → a < length rs → b < length rs
      → length (row_at rs b).items + (length (row_at rs a).items - k) ≤ n → AreRows n (with_tail_moved rs a k b)
  AreRows-moved n rs a k b all lt_a lt_b room =
      let had = AreRows-at n rs a all lt_a in
      let short = length-take k (row_at rs a).items in
      let less = AreRows-set n rs a (row (take k (row_at rs a).items) (row_at rs a).capacity) all (record { room = had.room; fits = omega (arith, short, had.fits) }) in
      let to = AreRows-at n (with_items rs a (take k (row_at rs a).items)) b less (omega (arith, lt_b, length-set rs a (row (take k (row_at rs a).items) (row_at rs a).capacity))) in
      let long = length-append (row_at rs b).items (drop k (row_at rs a).items) in
      let rest = length-drop k (row_at rs a).items in
      AreRows-set n (with_items rs a (take k (row_at rs a).items)) b _ less (record { room = to.room; fits = omega (arith, long, rest, room) })

  pub AreRows-push : (n : ℕ) (rs : List (Row E)) (r : Row E) → AreRows n rs → IsRow n r → AreRows n (rs ++ r ∷ [])
  AreRows-push n [] r all is = (is, tt)
  AreRows-push n (x ∷ rs) r all is = (all.0, AreRows-push n rs r all.1 is)

  pub AreEmpty-append : (n : ℕ) (rs ss : List (Row E)) → AreEmpty n rs → AreEmpty n ss → AreEmpty n (rs ++ ss)
  AreEmpty-append n [] ss all more = more
  AreEmpty-append n (x ∷ rs) ss all more = (all.0, AreEmpty-append n rs ss all.1 more)

  pub AreEmpty-pop : (n : ℕ) (rs : List (Row E)) (r : Row E) → AreEmpty n (rs ++ r ∷ []) → AreEmpty n rs × (r ≡ row [] n)
  AreEmpty-pop n [] r all = (tt, all.0)
  AreEmpty-pop n (x ∷ rs) r all = let rest = AreEmpty-pop n rs r all.1 in ((all.0, rest.0), rest.1)

  pub map-push : (rs : List (Row E)) (r : Row E) → map row_items (rs ++ r ∷ []) ≡ map row_items rs ++ r.items ∷ []
  map-push [] r = refl
  map-push (x ∷ rs) r = ap (λ l. x.items ∷ l) (map-push rs r)

  at_join : (front back : List (Row E)) → row_at (front ++ back) (length front) ≡ row_at back 0
  at_join [] back = refl
  at_join (x ∷ front) back = at_join front back

  set_join : (front back : List (Row E)) (r : Row E) → set (front ++ back) (length front) r ≡ front ++ set back 0 r
  set_join [] back r = refl
  set_join (x ∷ front) back r = ap (λ l. x ∷ l) (set_join front back r)

  -- the tail goes from the first part to the head of the second
  pub moved_up : (front back : List (Row E)) (a k : ℕ) → a < length front
      → set front a (row (take k (row_at front a).items) (row_at front a).capacity) ++ set back 0 (row ((row_at back 0).items ++ drop k (row_at front a).items) (row_at back 0).capacity)
      ≡ with_tail_moved (front ++ back) a k (length front)
  moved_up [] back a k lt = absurd (omega arith)
  moved_up (x ∷ front) back zero k lt = rw (at_join front back, set_join front back (row ((row_at back 0).items ++ drop k x.items) (row_at back 0).capacity)) refl
  moved_up (x ∷ front) back (suc a) k lt = ap (λ l. x ∷ l) (moved_up front back a k (omega arith))

  -- and back
  pub moved_down : (front back : List (Row E)) (b k : ℕ) → b < length front
      → set front b (row ((row_at front b).items ++ drop k (row_at back 0).items) (row_at front b).capacity) ++ set back 0 (row (take k (row_at back 0).items) (row_at back 0).capacity)
      ≡ with_tail_moved (front ++ back) (length front) k b
  moved_down [] back b k lt = absurd (omega arith)
  moved_down (x ∷ front) back zero k lt = rw (at_join front back, set_join front back (row (take k (row_at back 0).items) (row_at back 0).capacity)) refl
  moved_down (x ∷ front) back (suc b) k lt = ap (λ l. x ∷ l) (moved_down front back b k (omega arith))

  pub length_moved : (rs : List (Row E)) (a k b : ℕ) → length (with_tail_moved rs a k b) ≡ length rs
  length_moved rs a k b =
      let less = with_items rs a (take k (row_at rs a).items) in
      length-set less b (row ((row_at rs b).items ++ drop k (row_at rs a).items) (row_at less b).capacity) ∙ length-set rs a (row (take k (row_at rs a).items) (row_at rs a).capacity)
