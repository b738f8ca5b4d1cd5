-- Lines of a text, and of what is left of it without the characters at some places.
use Rattle.std.proofs.Common.{◌≡◌, ℕ, zero, suc, ◌+◌, ◌-◌, ◌<◌, ◌≤◌, ◌⊎◌, inl, inr, List, [], ◌∷◌, Bool, true, false, cond, min, length, take, refl, sym, ap, ◌∙◌, arith, Option, None, Some}
use Rattle.std.proofs.lemmas.Bool.{cases_lt}
use Rattle.std.proofs.lemmas.List.{take_all}
use Rattle.std.specs.Prelude.{IfSome, option_map, slice_get}
use Rattle.rt_marks.specs.Marks.{place_left}
use Rattle.rt_marks.proofs.Leaving.{place_rising}
use Rattle.rt_stamps.specs.Places.{EndsWithNewline, after_newlines, is_newline, line_end, line_of, line_start, newlines}
use Rattle.rt_plans.specs.Removals.{left_at}
use Rattle.rt_lines.proofs.Lines.{after_all, after_rises, after_some, after_within, end_is, ends_with, starts_below}
use Rattle.rt_text.proofs.LineCounts.{behind_few, counts_more, counts_rise, few_behind, next_count}
use Rattle.rt_text.proofs.NeighbourLines.{first_at, last_at, start_at}

-- NEWLINES BEFORE A PLACE

-- behind a newline there is one more
pub next_newline : (t : List ℕ) (p : ℕ) → slice_get t p ≡ Some 10 → newlines (take (suc p) t) ≡ newlines (take p t) + 1
next_newline [] p h = let bad : ⊥ = cc in absurd bad
next_newline (c ∷ t) zero h = let e : c ≡ 10 = cc in rw e refl
next_newline (c ∷ t) (suc p) h = next_count (is_newline c) (newlines (take (suc p) t)) (newlines (take p t)) 1 (next_newline t p h)

-- and a line begins
pub after_next : (t : List ℕ) (p : ℕ) → slice_get t p ≡ Some 10 → after_newlines (newlines (take p t) + 1) t ≡ suc p
after_next [] p h = let bad : ⊥ = cc in absurd bad
after_next (c ∷ t) zero h = let e : c ≡ 10 = cc in rw e refl
after_next (c ∷ t) (suc p) h =
    let n = newlines (take p t) in
    let next : cond (is_newline c) (n + 1) n + 1 ≡ suc (cond (is_newline c) (n + 1) n) = omega arith in
    ap (λ k. after_newlines k (c ∷ t)) next ∙ by (is_newline c) n (after_next t p h)
  where
    by : (b : Bool) (n : ℕ) → after_newlines (n + 1) t ≡ suc p → cond b (after_newlines (cond b (n + 1) n) t + 1) (after_newlines (suc (cond b (n + 1) n)) t + 1) ≡ suc (suc p)
    by true n e = omega (arith, e)
    by false n e = let same : suc n ≡ n + 1 = omega arith in omega (arith, e, ap (λ k. after_newlines k t) same)

-- NEWLINES THAT STAY

-- of so many places from one on, how many stay
abbrev pub kept_from : (ℕ → Bool) → ℕ → ℕ → ℕ
kept_from removed k zero = 0
kept_from removed k (suc q) = cond (removed k) (kept_from removed (k + 1) q) (suc (kept_from removed (k + 1) q))

kept_is : (removed : ℕ → Bool) (k q : ℕ) → place_left removed (k + q) ≡ place_left removed k + kept_from removed k q
kept_is removed k zero =
    let e : k + 0 ≡ k = omega arith in
    let f : place_left removed k ≡ place_left removed k + 0 = omega arith in
    ap (place_left removed) e ∙ f
kept_is removed k (suc q) =
    let e : k + suc q ≡ k + 1 + q = omega arith in
    let next : k + 1 ≡ suc k = omega arith in
    ap (place_left removed) e ∙ kept_is removed (k + 1) q ∙ ap (λ n. place_left removed n + kept_from removed (k + 1) q) next ∙ by (removed k) (place_left removed k) (kept_from removed (k + 1) q)
  where
    by : (b : Bool) (n m : ℕ) → n + cond b 0 1 + m ≡ n + cond b m (suc m)
    by true n m = omega arith
    by false n m = omega arith

pub kept_whole : (removed : ℕ → Bool) (p : ℕ) → place_left removed p ≡ kept_from removed 0 p
kept_whole removed p =
    let e : p ≡ 0 + p = omega arith in
    let f : 0 + kept_from removed 0 p ≡ kept_from removed 0 p = omega arith in
    ap (place_left removed) e ∙ kept_is removed 0 p ∙ f

abbrev counted : (ℕ → Bool) → ℕ → List ℕ → ℕ → ℕ
counted removed k t q = newlines (take (kept_from removed k q) (left_at removed k t))

none_before : (n : ℕ) → newlines (take n []) ≡ 0
none_before zero = refl
none_before (suc n) = refl

counted_step : (removed : ℕ → Bool) (k c : ℕ) (t : List ℕ) (q : ℕ)
    → counted removed k (c ∷ t) (suc q) ≡ cond (removed k) (counted removed (k + 1) t q) (cond (is_newline c) (counted removed (k + 1) t q + 1) (counted removed (k + 1) t q))
counted_step removed k c t q = by (removed k)
  where
    by : (b : Bool) → newlines (take (cond b (kept_from removed (k + 1) q) (suc (kept_from removed (k + 1) q))) (cond b (left_at removed (k + 1) t) (c ∷ left_at removed (k + 1) t)))
        ≡ cond b (counted removed (k + 1) t q) (cond (is_newline c) (counted removed (k + 1) t q + 1) (counted removed (k + 1) t q))
    by true = refl
    by false = refl

-- between two places as many stay as there are, or fewer
counted_fewer : (removed : ℕ → Bool) (k : ℕ) (t : List ℕ) (x y : ℕ) → x ≤ y → counted removed k t y + newlines (take x t) ≤ counted removed k t x + newlines (take y t)
counted_fewer removed k [] x y h = omega (arith, none_before (kept_from removed k y), none_before x)
counted_fewer removed k (c ∷ t) zero zero h = omega arith
counted_fewer removed k (c ∷ t) (suc x) zero h = absurd (omega arith)
counted_fewer removed k (c ∷ t) zero (suc y) h =
    let step = counted_step removed k c t y in
    let rest = by (removed k) (is_newline c) (counted removed (k + 1) t y) (newlines (take y t)) (counted_fewer removed (k + 1) t zero y (omega arith)) in
    omega (arith, step, rest)
  where
    by : (b d : Bool) (n m : ℕ) → n + 0 ≤ 0 + m → cond b n (cond d (n + 1) n) + 0 ≤ 0 + cond d (m + 1) m
    by true true n m e = omega arith
    by true false n m e = omega arith
    by false true n m e = omega arith
    by false false n m e = omega arith
counted_fewer removed k (c ∷ t) (suc x) (suc y) h =
    let first = counted_step removed k c t x in
    let second = counted_step removed k c t y in
    let rest = by (removed k) (is_newline c) (counted removed (k + 1) t y) (newlines (take x t)) (counted removed (k + 1) t x) (newlines (take y t)) (counted_fewer removed (k + 1) t x y (omega arith)) in
    omega (arith, first, second, rest)
  where
    by : (b d : Bool) (n a m e : ℕ) → n + a ≤ m + e → cond b n (cond d (n + 1) n) + cond d (a + 1) a ≤ cond b m (cond d (m + 1) m) + cond d (e + 1) e
    by true true n a m e h = omega arith
    by true false n a m e h = omega arith
    by false true n a m e h = omega arith
    by false false n a m e h = omega arith

-- where none is removed as many
counted_same : (removed : ℕ → Bool) (k : ℕ) (t : List ℕ) (q : ℕ) → ((j : ℕ) → j < q → removed (k + j) ≡ false) → counted removed k t q ≡ newlines (take q t)
counted_same removed k t zero h = refl
counted_same removed k [] (suc q) h = none_before (kept_from removed k (suc q))
counted_same removed k (c ∷ t) (suc q) h =
    let at : k ≡ k + 0 = omega arith in
    let here : removed k ≡ false = ap removed at ∙ h 0 (omega arith) in
    counted_step removed k c t q ∙ ap (λ b. cond b (counted removed (k + 1) t q) (cond (is_newline c) (counted removed (k + 1) t q + 1) (counted removed (k + 1) t q))) here
    ∙ ap (λ n. cond (is_newline c) (n + 1) n) (counted_same removed (k + 1) t q (λ j l. let e : k + 1 + j ≡ k + suc j = omega arith in ap removed e ∙ h (suc j) (omega (arith, l))))

-- BY PLACES

-- how many newlines stay before a place
abbrev pub left_before : (ℕ → Bool) → List ℕ → ℕ → ℕ
left_before removed t p = newlines (take (place_left removed p) (left_at removed 0 t))

left_is : (removed : ℕ → Bool) (t : List ℕ) (p : ℕ) → left_before removed t p ≡ counted removed 0 t p
left_is removed t p = ap (λ n. newlines (take n (left_at removed 0 t))) (kept_whole removed p)

pub left_fewer : (removed : ℕ → Bool) (t : List ℕ) (x y : ℕ) → x ≤ y → left_before removed t y + newlines (take x t) ≤ left_before removed t x + newlines (take y t)
left_fewer removed t x y h = omega (arith, left_is removed t x, left_is removed t y, counted_fewer removed 0 t x y h)

pub left_rises : (removed : ℕ → Bool) (t : List ℕ) (x y : ℕ) → x ≤ y → left_before removed t x ≤ left_before removed t y
left_rises removed t x y h = omega (arith, counts_rise (left_at removed 0 t) (place_left removed x) (place_left removed y) (place_rising removed x y h))

pub left_same : (removed : ℕ → Bool) (t : List ℕ) (q : ℕ) → ((j : ℕ) → j < q → removed j ≡ false) → left_before removed t q ≡ newlines (take q t)
left_same removed t q h = left_is removed t q ∙ counted_same removed 0 t q (λ j l. let e : 0 + j ≡ j = omega arith in ap removed e ∙ h j l)

pub place_same : (removed : ℕ → Bool) (q : ℕ) → ((j : ℕ) → j < q → removed j ≡ false) → place_left removed q ≡ q
place_same removed zero h = refl
place_same removed (suc q) h =
    let here = place_same removed q (λ j l. h j (omega (arith, l))) in
    let next : place_left removed (suc q) ≡ place_left removed q + 1 = ap (λ b. place_left removed q + cond b 0 1) (h q (omega arith)) in
    omega (arith, here, next)

-- THE LINES THAT ARE SHOWN

-- characters are removed between the first and the last of some lines, the last newline not among them
pub record AreInside (removed : ℕ → Bool) (t left : List ℕ) (first last : ℕ) : Type 0 where
  pub is : left ≡ left_at removed 0 t
  pub stays : (p : ℕ) → removed p ≡ false → slice_get left (place_left removed p) ≡ slice_get t p
  pub size : length left ≡ place_left removed (length t)
  pub ends : EndsWithNewline t
  pub low : 1 ≤ first
  pub order : first ≤ last
  pub high : last ≤ newlines t
  pub before : (p : ℕ) → p < line_start t first → removed p ≡ false
  pub spared : removed (line_end t last) ≡ false

module _ (removed : ℕ → Bool) (t left : List ℕ) (first last : ℕ) (inner : AreInside removed t left first last) where
  abbrev begin : ℕ
  begin = line_start t first

  abbrev end : ℕ
  end = line_end t last

  abbrev left_at_end : ℕ
  left_at_end = newlines (take (place_left removed end) left)

  end_ten : slice_get t end ≡ Some 10
  end_ten = ends_with last t (omega (arith, inner.low, inner.order)) inner.high

  end_next : end + 1 ≡ after_newlines last t
  end_next = end_is last t (omega (arith, inner.low, inner.order)) inner.high

  end_within : end < length t
  end_within = omega (arith, end_next, after_within last t)

  begin_before : begin ≤ end
  begin_before = omega (arith, starts_below t first last inner.low inner.order inner.high)

  begin_counts : newlines (take begin t) + 1 ≡ first
  begin_counts = by (cases_lt (newlines (take begin t)) (first - 1 + 1))
    where
      some : first - 1 ≤ newlines (take begin t)
      some = few_behind (first - 1) t begin (omega (arith, begin_before, end_within)) (omega arith)

      by : (newlines (take begin t) < first - 1 + 1) ⊎ (first - 1 + 1 ≤ newlines (take begin t)) → newlines (take begin t) + 1 ≡ first
      by (inl h) = omega (arith, h, some, inner.low)
      by (inr h) =
          let next : suc (first - 1) ≤ newlines (take begin t) = omega (arith, h) in
          absurd (omega (arith, behind_few (suc (first - 1)) t begin next, after_rises (first - 1) t (omega (arith, inner.low, inner.order, inner.high))))

  end_counts : newlines (take end t) + 1 ≡ last
  end_counts = by (cases_lt (newlines (take end t)) last)
    where
      size : suc (last - 1) ≡ last
      size = omega (arith, inner.low, inner.order)

      rises : after_newlines (last - 1) t < after_newlines last t
      rises = omega (arith, after_rises (last - 1) t (omega (arith, inner.low, inner.order, inner.high)), ap (λ k. after_newlines k t) size)

      by : (newlines (take end t) < last) ⊎ (last ≤ newlines (take end t)) → newlines (take end t) + 1 ≡ last
      by (inl h) = omega (arith, h, few_behind (last - 1) t end end_within (omega (arith, rises, end_next)))
      by (inr h) = absurd (omega (arith, behind_few last t end h, end_next))

  left_is_at : (p : ℕ) → newlines (take (place_left removed p) left) ≡ left_before removed t p
  left_is_at p = ap (λ l. newlines (take (place_left removed p) l)) inner.is

  begin_left_counts : newlines (take (place_left removed begin) left) + 1 ≡ first
  begin_left_counts = omega (arith, left_is_at begin, left_same removed t begin inner.before, begin_counts)

  fewer : (x y : ℕ) → x ≤ y → newlines (take (place_left removed y) left) + newlines (take x t) ≤ newlines (take (place_left removed x) left) + newlines (take y t)
  fewer x y h = omega (arith, left_is_at x, left_is_at y, left_fewer removed t x y h)

  rising : (x y : ℕ) → x ≤ y → newlines (take (place_left removed x) left) ≤ newlines (take (place_left removed y) left)
  rising x y h = omega (arith, left_is_at x, left_is_at y, left_rises removed t x y h)

  same_before : (p : ℕ) → p < begin → newlines (take (place_left removed p) left) ≡ newlines (take p t)
  same_before p h = left_is_at p ∙ left_same removed t p (λ j l. inner.before j (omega (arith, l, h)))

  end_left_ten : slice_get left (place_left removed end) ≡ Some 10
  end_left_ten = inner.stays end inner.spared ∙ end_ten

  -- the last line still holds the same newline
  pub last_left : (q : Option ℕ) → last ≡ last_at t q → last_at left (option_map (place_left removed) q) ≡ left_at_end + 1
  last_left None e =
      let all : suc end ≡ length t = omega (arith, end_next, ap (λ k. after_newlines k t) e, after_all t inner.ends) in
      let one : place_left removed (suc end) ≡ place_left removed end + 1 = ap (λ b. place_left removed end + cond b 0 1) inner.spared in
      let many : length left ≡ suc (place_left removed end) = omega (arith, inner.size, ap (place_left removed) all, one) in
      ap newlines (sym (take_all (suc (place_left removed end)) left (omega (arith, many)))) ∙ next_newline left (place_left removed end) end_left_ten
  last_left (Some q) e = by (cases_lt end q)
    where
      by : (end < q) ⊎ (q ≤ end) → newlines (take (place_left removed q) left) + 1 ≡ left_at_end + 1
      by (inl h) = absurd (omega (arith, counts_more t end q end_ten h, end_counts, e))
      by (inr h) = omega (arith, fewer q end h, rising q end h, end_counts, e)

  -- and the first one begins where it did
  pub first_left : (p : Option ℕ) (gone now : Bool) → IfSome p (λ n. (gone ≡ true → now ≡ true) × (gone ≡ false → n < begin → now ≡ false)) → first ≡ first_at t p gone last
      → min (start_at left (option_map (place_left removed) p) now) (left_at_end + 1) ≡ first
  first_left None gone now h e = omega (arith, e, begin_left_counts, rising begin end begin_before)
  first_left (Some p) true now h e =
      ap (λ b. min (cond b (line_of left (place_left removed p)) (line_of left (place_left removed p) + 1)) (left_at_end + 1)) (h.0 refl) ∙ by (cases_lt p begin)
    where
      by : (p < begin) ⊎ (begin ≤ p) → min (line_of left (place_left removed p)) (left_at_end + 1) ≡ first
      by (inl k) = below (cases_lt (newlines (take p t)) (first - 1))
        where
          below : (newlines (take p t) < first - 1) ⊎ (first - 1 ≤ newlines (take p t)) → min (line_of left (place_left removed p)) (left_at_end + 1) ≡ first
          below (inl m) = absurd (omega (arith, m, e, inner.order, inner.low))
          below (inr m) = absurd (omega (arith, behind_few (first - 1) t p m, k))
      by (inr k) =
          let counts = begin_left_counts in
          let here = begin_counts in
          let there = end_counts in
          omega (arith, fewer begin p k, rising begin p k, fewer begin end begin_before, rising begin end begin_before, counts, here, there, e)
  first_left (Some p) false now h e = by (cases_lt p begin)
    where
      least : (b : Bool) (n : ℕ) → n ≤ cond b n (n + 1)
      least true n = omega arith
      least false n = omega arith

      by : (p < begin) ⊎ (begin ≤ p) → min (cond now (line_of left (place_left removed p)) (line_of left (place_left removed p) + 1)) (left_at_end + 1) ≡ first
      by (inl k) =
          ap (λ b. min (cond b (line_of left (place_left removed p)) (line_of left (place_left removed p) + 1)) (left_at_end + 1)) (h.1 refl k)
          ∙ below (cases_lt (newlines (take p t)) (first - 1))
        where
          below : (newlines (take p t) < first - 1) ⊎ (first - 1 ≤ newlines (take p t)) → min (line_of left (place_left removed p) + 1) (left_at_end + 1) ≡ first
          below (inl m) = omega (arith, m, same_before p k, e, inner.order, rising begin end begin_before, begin_left_counts)
          below (inr m) = absurd (omega (arith, behind_few (first - 1) t p m, k))
      by (inr k) =
          let most = least now (line_of left (place_left removed p)) in
          let counts = begin_left_counts in
          let here = begin_counts in
          let there = end_counts in
          let many = counts_rise t begin p k in
          omega (arith, most, many, rising begin p k, fewer begin end begin_before, rising begin end begin_before, counts, here, there, e)

  pub begin_left : line_start left first ≡ begin
  begin_left = by (cases_lt 0 (first - 1))
    where
      by : (0 < first - 1) ⊎ (first - 1 ≤ 0) → line_start left first ≡ begin
      by (inr h) =
          let none : first - 1 ≡ 0 = omega (arith, h) in
          ap (λ k. after_newlines k left) none ∙ sym (ap (λ k. after_newlines k t) none)
      by (inl h) =
          let some : 1 ≤ begin = after_some (first - 1) t (omega (arith, h)) (omega (arith, inner.order, inner.high)) in
          let at = begin - 1 in
          let less : at < begin = omega (arith, some) in
          let next : suc at ≡ begin = omega (arith, some) in
          let ten : slice_get t at ≡ Some 10 = ends_with (first - 1) t (omega (arith, h)) (omega (arith, inner.order, inner.high)) in
          let here : place_left removed at ≡ at = place_same removed at (λ j l. inner.before j (omega (arith, l, less))) in
          let stands : slice_get left at ≡ Some 10 = ap (slice_get left) (sym here) ∙ inner.stays at (inner.before at less) ∙ ten in
          let counts : newlines (take at left) ≡ newlines (take at t) = ap (λ n. newlines (take n left)) (sym here) ∙ same_before at less in
          let line : first - 1 ≡ newlines (take at left) + 1 = omega (arith, counts, next_newline t at ten, ap (λ n. newlines (take n t)) next, begin_counts) in
          ap (λ k. after_newlines k left) line ∙ after_next left at stands ∙ next

  pub end_left : line_end left (left_at_end + 1) + 1 ≡ place_left removed end + 1
  end_left = omega (arith, after_next left (place_left removed end) end_left_ten)
