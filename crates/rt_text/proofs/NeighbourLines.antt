-- Which lines between two places are shown once more characters stand at a place, and whether both sides of the end of these are.
use Rattle.std.proofs.Common.{◌≡◌, ℕ, zero, suc, ◌+◌, ◌-◌, ◌<◌, ◌≤◌, ◌&&◌, ◌⊎◌, inl, inr, List, [], ◌∷◌, ◌++◌, Bool, true, false, cond, not, min, length, take, drop, refl, sym, ap, ◌∙◌, arith, Option, None, Some, append_assoc, length-append}
use Rattle.std.proofs.lemmas.Bool.{cases_lt, le-ltb, lt-ltb, le-leb, lt-leb}
use Rattle.std.proofs.lemmas.Bool.Decides.{nat_tests}
use Rattle.std.proofs.lemmas.List.{take_all}
use Rattle.std.specs.Prelude.{IfSome, nat_le, nat_lt, option_map, slice_get, unwrap_or}
use Rattle.rt_stamps.specs.Places.{EndsWithNewline, after_newlines, line_end, line_of, line_start, newlines}
use Rattle.rt_lines.proofs.Lines.{end_is, line_within, lines_some}
use Rattle.rt_text.specs.Neighbours.{are_sides_shown, ends_with_newline, is_ahead, stands_behind}
use Rattle.rt_text.proofs.LineCounts.{behind_few, counts_more, counts_rise, few_behind, last_counted, some_counted, put_among, put_before, put_behind, put_in, put_length}

-- LINES BY PLACES

-- the last line that is shown: that of a place, or the text's last one
abbrev pub last_at : List ℕ → Option ℕ → ℕ
last_at text place = unwrap_or (option_map (line_of text) place) (newlines text)

-- the first one, not behind the last: that of a place, or the one behind it; or the text's first one
abbrev pub start_at : List ℕ → Option ℕ → Bool → ℕ
start_at text place gone = unwrap_or (option_map (λ line. cond gone line (line + 1)) (option_map (line_of text) place)) 1

abbrev pub first_at : List ℕ → Option ℕ → Bool → ℕ → ℕ
first_at text place gone last = min (start_at text place gone) last

-- a place of the text, once so many characters stand at another
abbrev pub moved_by : ℕ → ℕ → ℕ → ℕ
moved_by at k place = cond (nat_le at place) (place + k) place

-- TESTS

le_lt : (a b : ℕ) → nat_lt a (suc b) ≡ nat_le a b
le_lt a b = grind (arith, nat_tests)

tests_alike : (a b c d : ℕ) → (a ≤ b → c ≤ d) → (c ≤ d → a ≤ b) → nat_le a b ≡ nat_le c d
tests_alike a b c d f g = by (cases_lt b a)
  where
    by : (b < a) ⊎ (a ≤ b) → nat_le a b ≡ nat_le c d
    by (inl h) = lt-leb a b h ∙ sym (lt-leb c d (by_less (cases_lt d c)))
      where
        by_less : (d < c) ⊎ (c ≤ d) → d < c
        by_less (inl k) = k
        by_less (inr k) = absurd (omega (arith, g k, h))
    by (inr h) = le-leb a b h ∙ sym (le-leb c d (f h))

not_le : (a b : ℕ) → nat_lt a b ≡ not (nat_le b a)
not_le a b = grind (arith, nat_tests)

-- the place behind some newlines is behind another where fewer stand before that
behind_test : (k p : ℕ) (t : List ℕ) → p < length t → nat_lt p (after_newlines k t) ≡ nat_lt (newlines (take p t)) k
behind_test k p t l =
    not_le p (after_newlines k t) ∙ ap not (tests_alike (after_newlines k t) p k (newlines (take p t)) (few_behind k t p l) (behind_few k t p)) ∙ sym (not_le (newlines (take p t)) k)

before_test : (k p : ℕ) (t : List ℕ) → p < length t → nat_lt (after_newlines k t) (suc p) ≡ nat_le k (newlines (take p t))
before_test k p t l = le_lt (after_newlines k t) p ∙ tests_alike (after_newlines k t) p k (newlines (take p t)) (few_behind k t p l) (behind_few k t p)

-- THE LAST LINE

all_counted : (t new : List ℕ) (at : ℕ) → at ≤ length t → newlines (put_in at new t) ≡ newlines t + newlines new
all_counted t new at l =
    let n = length t + length new in
    ap newlines (sym (take_all n (put_in at new t) (omega (arith, put_length t new at l)))) ∙ put_behind t new at (length t) l l
    ∙ ap (λ (s : List ℕ). newlines s + newlines new) (take_all (length t) t (omega arith))

-- how the last line moves on, and whether it is that of the new characters' end or a later one
record IsLast (a nu last after : ℕ) (ahead : Bool) : Type 0 where
  most : after ≤ last + nu
  which : ((ahead ≡ true) × (after ≡ a + 1)) ⊎ ((ahead ≡ false) × (a + nu < after))

last_moves : (t new : List ℕ) (at : ℕ) (q : Option ℕ) → at ≤ length t → newlines (take at t) < last_at t q
    → IsLast (newlines (take at t)) (newlines new) (last_at t q) (last_at (put_in at new t) (option_map (moved_by at (length new)) q)) (is_ahead at q)
last_moves t new at None l h =
    let all = all_counted t new at l in
    record { most = omega (arith, all); which = inr (refl, omega (arith, all, h)) }
last_moves t new at (Some q) l h = by (cases_lt q at)
  where
    by : (q < at) ⊎ (at ≤ q)
        → IsLast (newlines (take at t)) (newlines new) (line_of t q) (line_of (put_in at new t) (moved_by at (length new) q)) (nat_lt q at)
    by (inl b) =
        let same : moved_by at (length new) q ≡ q = ap (λ x. cond x (q + length new) q) (lt-leb at q b) in
        let counted : newlines (take (moved_by at (length new) q) (put_in at new t)) ≡ newlines (take q t) =
        ap (λ p. newlines (take p (put_in at new t))) same ∙ put_before t new at q (omega arith) l in
        let few = counts_rise t q at (omega arith) in
        record { most = omega (arith, counted); which = inl (lt-ltb q at b, omega (arith, counted, h, few)) }
    by (inr b) =
        let same : moved_by at (length new) q ≡ q + length new = ap (λ x. cond x (q + length new) q) (le-leb at q b) in
        let counted : newlines (take (moved_by at (length new) q) (put_in at new t)) ≡ newlines (take q t) + newlines new =
        ap (λ p. newlines (take p (put_in at new t))) same ∙ put_behind t new at q b l in
        let few = counts_rise t at q b in
        record { most = omega (arith, counted); which = inr (le-ltb q at b, omega (arith, counted, few)) }

-- THE FIRST LINE

-- how the line of the start moves on, and whether it is behind that of the new characters' end
record IsStart (a nu start after : ℕ) (behind : Bool) : Type 0 where
  most : after ≤ start + nu
  which : ((behind ≡ true) × (a + nu < after)) ⊎ ((behind ≡ false) × (after ≤ a + 1))

start_by : (t new : List ℕ) (at p : ℕ) (gone : Bool) → at ≤ length t → (gone ≡ false → slice_get t p ≡ Some 10)
    → IsStart (newlines (take at t)) (newlines new) (cond gone (line_of t p) (line_of t p + 1))
    (cond gone (line_of (put_in at new t) (moved_by at (length new) p)) (line_of (put_in at new t) (moved_by at (length new) p) + 1)) (nat_le at p)
start_by t new at p gone l n = by (cases_lt p at) gone n
  where
    by : (p < at) ⊎ (at ≤ p) → (b : Bool) → (b ≡ false → slice_get t p ≡ Some 10)
        → IsStart (newlines (take at t)) (newlines new) (cond b (line_of t p) (line_of t p + 1))
        (cond b (line_of (put_in at new t) (moved_by at (length new) p)) (line_of (put_in at new t) (moved_by at (length new) p) + 1)) (nat_le at p)
    by (inl h) b m =
        let same : moved_by at (length new) p ≡ p = ap (λ x. cond x (p + length new) p) (lt-leb at p h) in
        let counted : newlines (take (moved_by at (length new) p) (put_in at new t)) ≡ newlines (take p t) =
        ap (λ k. newlines (take k (put_in at new t))) same ∙ put_before t new at p (omega arith) l in
        let few = counts_rise t p at (omega arith) in
        gone_or (newlines (take at t)) (newlines new) (newlines (take p t)) (newlines (take (moved_by at (length new) p) (put_in at new t))) b counted (omega (arith, few)) (λ e. counts_more t p at (m e) h) (lt-leb at p h)
      where
        gone_or : (a nu c d : ℕ) (b : Bool) → d ≡ c → c ≤ a → (b ≡ false → c + 1 ≤ a) → nat_le at p ≡ false → IsStart a nu (cond b (c + 1) (c + 1 + 1)) (cond b (d + 1) (d + 1 + 1)) (nat_le at p)
        gone_or a nu c d true e f g k = record { most = omega arith; which = inr (k, omega arith) }
        gone_or a nu c d false e f g k = let m : c + 1 ≤ a = g refl in record { most = omega arith; which = inr (k, omega arith) }
    by (inr h) b m =
        let same : moved_by at (length new) p ≡ p + length new = ap (λ x. cond x (p + length new) p) (le-leb at p h) in
        let counted : newlines (take (moved_by at (length new) p) (put_in at new t)) ≡ newlines (take p t) + newlines new =
        ap (λ k. newlines (take k (put_in at new t))) same ∙ put_behind t new at p h l in
        let few = counts_rise t at p h in
        gone_or (newlines (take at t)) (newlines new) (newlines (take p t)) (newlines (take (moved_by at (length new) p) (put_in at new t))) b counted (omega (arith, few)) (le-leb at p h)
      where
        gone_or : (a nu c d : ℕ) (b : Bool) → d ≡ c + nu → a ≤ c → nat_le at p ≡ true → IsStart a nu (cond b (c + 1) (c + 1 + 1)) (cond b (d + 1) (d + 1 + 1)) (nat_le at p)
        gone_or a nu c d true e f k = record { most = omega arith; which = inl (k, omega arith) }
        gone_or a nu c d false e f k = record { most = omega arith; which = inl (k, omega arith) }

start_moves : (t new : List ℕ) (at : ℕ) (p : Option ℕ) (gone : Bool) → at ≤ length t → IfSome p (λ n. gone ≡ false → slice_get t n ≡ Some 10)
    → IsStart (newlines (take at t)) (newlines new) (start_at t p gone) (start_at (put_in at new t) (option_map (moved_by at (length new)) p) gone) (stands_behind at p)
start_moves t new at None gone l n = record { most = omega arith; which = inr (refl, omega arith) }
start_moves t new at (Some p) gone l n = start_by t new at p gone l n

-- BOTH SIDES

both_tests : (x y c d : Bool) → y ≡ d → (d ≡ true → x ≡ c) → (x && y) ≡ (c && d)
both_tests x y c true e f = (λ i. f refl i && e i)
both_tests x y c false e f = (λ i. x && e i) ∙ never x c
  where
    never : (x c : Bool) → (x && false) ≡ (c && false)
    never true true = refl
    never true false = refl
    never false true = refl
    never false false = refl

-- the end of the new characters is before the end of what is shown
end_test : (a nu last end : ℕ) (ahead : Bool) → IsLast a nu last end ahead → nat_lt (a + nu) end ≡ not (ahead && nat_lt 0 nu)
end_test a nu last end ahead t = by t.which
  where
    by : ((ahead ≡ true) × (end ≡ a + 1)) ⊎ ((ahead ≡ false) × (a + nu < end)) → nat_lt (a + nu) end ≡ not (ahead && nat_lt 0 nu)
    by (inl h) = ap (nat_lt (a + nu)) h.1 ∙ same ∙ sym (ap (λ b. not (b && nat_lt 0 nu)) h.0)
      where
        same : nat_lt (a + nu) (a + 1) ≡ not (nat_lt 0 nu)
        same = grind (arith, nat_tests)
    by (inr h) = lt-ltb (a + nu) end h.1 ∙ sym (ap (λ b. not (b && nat_lt 0 nu)) h.0)

-- and behind its beginning
start_test : (a m nu first last start end : ℕ) (e behind : Bool) → nu ≡ m + cond e 1 0 → min first last - 1 ≤ a → IsStart a nu first start behind → end ≤ last + nu → a + nu < end
    → nat_le (min start end - 1) (a + m) ≡ not (behind && e)
start_test a m nu first last start end true behind n h s most l = by s.which
  where
    by : ((behind ≡ true) × (a + nu < start)) ⊎ ((behind ≡ false) × (start ≤ a + 1)) → nat_le (min start end - 1) (a + m) ≡ not (behind && true)
    by (inl k) = let less : a + m < min start end - 1 = omega (arith, n, k.1, l) in lt-leb (min start end - 1) (a + m) less ∙ sym (ap (λ b. not (b && true)) k.0)
    by (inr k) = let few : min start end - 1 ≤ a + m = omega (arith, k.1) in le-leb (min start end - 1) (a + m) few ∙ sym (ap (λ b. not (b && true)) k.0)
start_test a m nu first last start end false behind n h s most l =
    let few : min start end - 1 ≤ a + m = omega (arith, n, h, s.most, most) in
    le-leb (min start end - 1) (a + m) few ∙ never behind
  where
    never : (b : Bool) → true ≡ not (b && false)
    never true = refl
    never false = refl

decide : (a m nu first last start end : ℕ) (e behind ahead : Bool) → nu ≡ m + cond e 1 0 → min first last - 1 ≤ a → IsStart a nu first start behind → IsLast a nu last end ahead
    → (nat_le (min start end - 1) (a + m) && nat_lt (a + nu) end) ≡ (not (behind && e) && not (ahead && nat_lt 0 nu))
decide a m nu first last start end e behind ahead n h s t =
    let ends = end_test a nu last end ahead t in
    both_tests (nat_le (min start end - 1) (a + m)) (nat_lt (a + nu) end) (not (behind && e)) (not (ahead && nat_lt 0 nu)) ends
    (λ d. start_test a m nu first last start end e behind n h s t.most (less (a + nu) end (ends ∙ d)))
  where
    less : (x y : ℕ) → nat_lt x y ≡ true → x < y
    less x y e = grind (arith, nat_tests, e)

-- THE TEXT WITH MORE CHARACTERS

-- it ends with a newline too
put_ends : (t new : List ℕ) (at : ℕ) → EndsWithNewline t → at < length t → EndsWithNewline (put_in at new t)
put_ends t new at (front, is) l =
    let few : at ≤ length front = omega (arith, l, ap length is, length-append front (10 ∷ [])) in
    (take at t ++ new ++ drop at front, ap (λ x. take at t ++ new ++ drop at x) is ∙ ap (λ x. take at t ++ new ++ x) (drop_front front at few) ∙ sym (append_assoc (take at t ++ new) (drop at front) (10 ∷ [])))
  where
    drop_front : (xs : List ℕ) (n : ℕ) → n ≤ length xs → drop n (xs ++ 10 ∷ []) ≡ drop n xs ++ 10 ∷ []
    drop_front xs zero h = refl
    drop_front [] (suc n) h = absurd (omega arith)
    drop_front (x ∷ xs) (suc n) h = drop_front xs n (omega arith)

moved_within : (at k n p : ℕ) → p < n → moved_by at k p < n + k
moved_within at k n p h = by (nat_le at p)
  where
    by : (b : Bool) → cond b (p + k) p < n + k
    by true = omega arith
    by false = omega arith

last_within : (t : List ℕ) (q : Option ℕ) → EndsWithNewline t → IfSome q (λ n. n < length t) → (1 ≤ last_at t q) × (last_at t q ≤ newlines t)
last_within t None ends h = (lines_some t ends, omega arith)
last_within t (Some q) ends h = (omega arith, line_within t q ends h)

-- Both sides of the end of new characters are shown but where these end with a newline and the place of the start is at theirs or
-- behind it, or where they have a newline and the place of the end is before theirs.
pub both_sides : (t new : List ℕ) (at : ℕ) (p q : Option ℕ) (gone : Bool) → EndsWithNewline t → at < length t → 1 ≤ length new
    → IfSome p (λ n. gone ≡ false → slice_get t n ≡ Some 10) → IfSome q (λ n. n < length t)
    → line_start t (first_at t p gone (last_at t q)) ≤ at → at < line_end t (last_at t q) + 1
    → let text = put_in at new t in
    let last = last_at text (option_map (moved_by at (length new)) q) in
    (nat_lt (line_start text (first_at text (option_map (moved_by at (length new)) p) gone last)) (at + length new) && nat_lt (at + length new) (line_end text last + 1))
    ≡ are_sides_shown p q at new
both_sides t [] at p q gone ends l some n w low high = absurd (omega arith)
both_sides t (c ∷ cs) at p q gone ends l some n w low high =
    let new : List ℕ = c ∷ cs in
    let k = length new in
    let text = put_in at new t in
    let a = newlines (take at t) in
    let nu = newlines new in
    let m = newlines (take (length cs) new) in
    let e = ends_with_newline new in
    let q' = option_map (moved_by at k) q in
    let p' = option_map (moved_by at k) p in
    let last = last_at t q in
    let end = last_at text q' in
    let first = start_at t p gone in
    let start = start_at text p' gone in
    let within = last_within t q ends w in
    let size : length text ≡ length t + k = put_length t new at (omega (arith, l)) in
    let ends' : EndsWithNewline text = put_ends t new at ends l in
    let w' : IfSome q' (λ n. n < length text) = moved_some q w size in
    let within' = last_within text q' ends' w' in
    let less : a < last = below (cases_lt a last) within high refl in
    let moves = last_moves t new at q (omega (arith, l)) less in
    let starts = start_moves t new at p gone (omega (arith, l)) n in
    let few : min first last - 1 ≤ a = few_behind (min first last - 1) t at l low in
    let here : newlines (take (at + k) text) ≡ a + nu = put_behind t new at at (omega arith) (omega (arith, l)) in
    let before : newlines (take (at + length cs) text) ≡ a + m = put_among t new at (length cs) (omega arith) (omega (arith, l)) in
    let next : at + k ≡ suc (at + length cs) = omega arith in
    let begin : nat_lt (line_start text (min start end)) (at + k) ≡ nat_le (min start end - 1) (a + m) =
    ap (nat_lt (line_start text (min start end))) next ∙ before_test (min start end - 1) (at + length cs) text (omega (arith, size, l)) ∙ ap (nat_le (min start end - 1)) before in
    let stop : nat_lt (at + k) (line_end text end + 1) ≡ nat_lt (a + nu) end =
    ap (nat_lt (at + k)) (end_is end text within'.0 within'.1) ∙ behind_test end (at + k) text (omega (arith, size, l)) ∙ ap (λ x. nat_lt x end) here in
    (λ i. begin i && stop i) ∙ decide a m nu first last start end e (stands_behind at p) (is_ahead at q) (last_counted c cs) few starts moves
    ∙ ap (λ b. not (stands_behind at p && e) && not (is_ahead at q && b)) (some_counted new)
  where
    moved_some : (q : Option ℕ) → IfSome q (λ n. n < length t) → length (put_in at (c ∷ cs) t) ≡ length t + length (c ∷ cs)
        → IfSome (option_map (moved_by at (length (c ∷ cs))) q) (λ n. n < length (put_in at (c ∷ cs) t))
    moved_some None h e = tt
    moved_some (Some q) h e = let m = moved_within at (length (c ∷ cs)) (length t) q h in omega (arith, m, e)

    below : {last a : ℕ} → (a < last) ⊎ (last ≤ a) → (1 ≤ last) × (last ≤ newlines t) → at < line_end t last + 1 → a ≡ newlines (take at t) → a < last
    below (inl h) b k s = h
    below {last} {a} (inr h) b k s = absurd (omega (arith, end_is last t b.0 b.1, k, behind_few last t at (omega (arith, s, h))))
