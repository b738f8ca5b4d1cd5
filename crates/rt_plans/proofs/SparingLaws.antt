-- What merged ranges take, where the last one spares the last newline.
use Rattle.std.proofs.Common.{◌≡◌, ℕ, zero, suc, ◌+◌, ◌-◌, ◌<◌, ◌≤◌, ◌⊎◌, inl, inr, List, [], ◌∷◌, ◌++◌, Bool, true, false, cond, ◌&&◌, ◌==◌, length, refl, sym, ◌∙◌, ap, subst, arith, All}
use Rattle.std.specs.Prelude.{nat_lt, nat_le, ◌||◌}
use Rattle.std.proofs.lemmas.Bool.{cases_lt, or_from, or_right, lt-ltb, le-ltb, ltb-true, ltb-false}
use Rattle.std.proofs.lemmas.Bool.Decides.{nat_tests}
use Rattle.std.proofs.lemmas.List.Elements.{All-cons, All-nil, All-append}
use Rattle.std.proofs.lemmas.List.Folds.{list_any-append}
use Rattle.rt_plans.specs.declared.range.Range.{Range}
use Rattle.rt_plans.specs.Merging.{AreSpaced, begins_line, spared}
use Rattle.rt_plans.specs.Removals.{is_in, is_covered, are_covered, is_newline_at, is_removed, RangesFollow}

-- THE LAST RANGE

pub last_after : (low : ℕ) (front : List Range) (last : Range) → AreSpaced low (front ++ last ∷ []) → low ≤ last.from
last_after low [] last apart = apart.0
last_after low (range ∷ ranges) last apart = omega (arith, apart.0, apart.1, last_after (range.to + 1) ranges last apart.2)

pub last_some : (low : ℕ) (front : List Range) (last : Range) → AreSpaced low (front ++ last ∷ []) → last.from < last.to
last_some low [] last apart = apart.1
last_some low (range ∷ ranges) last apart = last_some (range.to + 1) ranges last apart.2

ended : (from to place : ℕ) → to ≤ place → (nat_le from place && nat_lt place to) ≡ false
ended from to place h = grind (arith, nat_tests)

-- no range before the last one covers the place before it, nor a later one
pub none_near : (low : ℕ) (front : List Range) (last : Range) (place : ℕ) → AreSpaced low (front ++ last ∷ []) → last.from ≤ place + 1 → is_covered front place ≡ false
none_near low [] last place apart h = refl
none_near low (range ∷ ranges) last place apart h =
    or_from (is_in range place) (is_covered ranges place) (ended range.from range.to place (omega (arith, last_after (range.to + 1) ranges last apart.2)))
    (none_near (range.to + 1) ranges last place apart.2 h)

or_none : (b : Bool) → (b || false) ≡ b
or_none true = refl
or_none false = refl

pub covered_last : (front : List Range) (last : Range) (place : ℕ) → is_covered (front ++ last ∷ []) place ≡ (is_covered front place || is_in last place)
covered_last front last place = list_any-append (λ range. is_in range place) front (last ∷ []) ∙ ap (λ b. is_covered front place || b) (or_none (is_in last place))

-- the last range is of the text where all that is covered is
pub last_within : (front : List Range) (last : Range) (n : ℕ) → last.from < last.to → ((place : ℕ) → is_covered (front ++ last ∷ []) place ≡ true → place < n) → last.to ≤ n
last_within front last n h within =
    let last_in : is_in last (last.to - 1) ≡ true = holds last.from last.to h in
    omega (arith, within (last.to - 1) (covered_last front last (last.to - 1) ∙ or_right (is_covered front (last.to - 1)) (is_in last (last.to - 1)) last_in))
  where
    holds : (from to : ℕ) → from < to → (nat_le from (to - 1) && nat_lt (to - 1) to) ≡ true
    holds from to h = grind (arith, nat_tests)

-- DOWN TO THE END

end_here : (from to place n : ℕ) (c : Bool) → from < to → to ≤ n → place + 1 ≡ n → c ≡ false
    → ((c || (nat_le from place && nat_lt place to)) && true) ≡ (nat_le from place && (to == n))
end_here from to place n c a b e f = rw f (grind (arith, nat_tests))

end_later : (from to place n : ℕ) → from < to → to ≤ n → place + 2 ≤ n
    → ((nat_le from place && nat_lt place to) && (nat_le from (place + 1) && (to == n))) ≡ (nat_le from place && (to == n))
end_later from to place n a b h = grind (arith, nat_tests)

end_apart : (from to place n : ℕ) (c : Bool) → place + 1 < from
    → ((c || (nat_le from place && nat_lt place to)) && (nat_le from (place + 1) && (to == n))) ≡ (nat_le from place && (to == n))
end_apart from to place n true h = grind (arith, nat_tests)
end_apart from to place n false h = grind (arith, nat_tests)

end_step : (from to place n : ℕ) (c : Bool) → from < to → to ≤ n → place + 2 ≤ n → (from ≤ place + 1 → c ≡ false)
    → ((c || (nat_le from place && nat_lt place to)) && (nat_le from (place + 1) && (to == n))) ≡ (nat_le from place && (to == n))
end_step from to place n c a b h near = by_cases (cases_lt (place + 1) from)
  where
    by_cases : (place + 1 < from) ⊎ (from ≤ place + 1) → ((c || (nat_le from place && nat_lt place to)) && (nat_le from (place + 1) && (to == n))) ≡ (nat_le from place && (to == n))
    by_cases (inl lt) = end_apart from to place n c lt
    by_cases (inr le) = ap (λ b. (b || (nat_le from place && nat_lt place to)) && (nat_le from (place + 1) && (to == n))) (near le) ∙ end_later from to place n a b h

covered_from : (front : List Range) (last : Range) (n : ℕ) → AreSpaced 0 (front ++ last ∷ []) → last.to ≤ n → (k place : ℕ) → place + suc k ≡ n
    → are_covered (front ++ last ∷ []) place (suc k) ≡ (nat_le last.from place && (last.to == n))
covered_from front last n apart h zero place e =
    let some = last_some 0 front last apart in
    ap (λ b. b && true) (covered_last front last place) ∙ end_here last.from last.to place n (is_covered front place) some h (omega arith) (none_near 0 front last place apart (omega arith))
covered_from front last n apart h (suc k) place e =
    ap (λ b. b && are_covered (front ++ last ∷ []) (place + 1) (suc k)) (covered_last front last place)
    ∙ ap (λ b. (is_covered front place || is_in last place) && b) (covered_from front last n apart h k (place + 1) (omega arith))
    ∙ end_step last.from last.to place n (is_covered front place) (last_some 0 front last apart) h (omega arith) (λ near. none_near 0 front last place apart near)

-- All places after one are covered, down to the end, where the last range begins at the next or before and ends there.
pub covered_to_end : (front : List Range) (last : Range) (n place : ℕ) → AreSpaced 0 (front ++ last ∷ []) → last.to ≤ n → place + 1 < n
    → are_covered (front ++ last ∷ []) (place + 1) (n - (place + 1)) ≡ (nat_le last.from (place + 1) && (last.to == n))
covered_to_end front last n place apart h k =
    let more : n - (place + 1) ≡ suc (n - (place + 2)) = omega arith in
    rw more (covered_from front last n apart h (n - (place + 2)) (place + 1) (omega arith))

-- THE LAST NEWLINE

-- a last range that ends before it
ends_before : (from to n place : ℕ) (c newline : Bool) → from < to → to < n → (from ≤ place + 1 → c ≡ false) → place + 1 < n
    → (c || (nat_le from place && nat_lt place to)) ≡ ((c || (nat_le from place && nat_lt place to)) || (newline && (nat_le from (place + 1) && (to == n))))
ends_before from to n place true newline a b near h = refl
ends_before from to n place false true a b near h = grind (arith, nat_tests)
ends_before from to n place false false a b near h = sym (or_none (nat_le from place && nat_lt place to))

-- one that ends with it: places apart before it
far_before : (from to n place : ℕ) (c begins newline : Bool) → place + 1 < from
    → (c || (nat_le (cond begins (from - 1) from) place && nat_lt place (to - 1))) ≡ ((c || (nat_le from place && nat_lt place to)) || (newline && (nat_le from (place + 1) && (to == n))))
far_before from to n place true begins newline h = refl
far_before from to n place false true true h = grind (arith, nat_tests)
far_before from to n place false true false h = grind (arith, nat_tests)
far_before from to n place false false true h = grind (arith, nat_tests)
far_before from to n place false false false h = grind (arith, nat_tests)

-- the place before it
just_before : (from to n place : ℕ) (newline : Bool) → place + 1 ≡ from → from < to → to ≡ n
    → (nat_le (cond newline (from - 1) from) place && nat_lt place (to - 1)) ≡ ((nat_le from place && nat_lt place to) || (newline && (nat_le from (place + 1) && (to == n))))
just_before from to n place true h a b = grind (arith, nat_tests)
just_before from to n place false h a b = grind (arith, nat_tests)

-- its own
inside : (from to n place : ℕ) (begins newline : Bool) → from ≤ place → place + 1 < n → to ≡ n
    → (nat_le (cond begins (from - 1) from) place && nat_lt place (to - 1)) ≡ ((nat_le from place && nat_lt place to) || (newline && (nat_le from (place + 1) && (to == n))))
inside from to n place true newline h k e =
    let new : (nat_le (from - 1) place && nat_lt place (to - 1)) ≡ true = grind (arith, nat_tests) in
    let old : (nat_le from place && nat_lt place to) ≡ true = grind (arith, nat_tests) in
    rw (new, old) refl
inside from to n place false newline h k e =
    let new : (nat_le from place && nat_lt place (to - 1)) ≡ true = grind (arith, nat_tests) in
    let old : (nat_le from place && nat_lt place to) ≡ true = grind (arith, nat_tests) in
    rw (new, old) refl

begins_after : (text : List ℕ) (from place : ℕ) → place + 1 ≡ from → begins_line text from ≡ is_newline_at text place
begins_after text from place e =
    let before : from - 1 ≡ place = omega arith in
    let later : nat_lt 0 from ≡ true = lt-ltb 0 from (omega arith) in
    rw (later, before) refl

with_newline : (text : List ℕ) (last : Range) (place : ℕ) (c : Bool) → last.from < last.to → last.to ≡ length text → (last.from ≤ place + 1 → c ≡ false) → place + 1 < length text
    → (c || (nat_le (cond (begins_line text last.from) (last.from - 1) last.from) place && nat_lt place (last.to - 1)))
    ≡ ((c || is_in last place) || (is_newline_at text place && (nat_le last.from (place + 1) && (last.to == length text))))
with_newline text last place c some e near h = by_cases (cases_lt (place + 1) last.from)
  where
    at_near : (place + 1 < last.from + 1) ⊎ (last.from + 1 ≤ place + 1) → last.from ≤ place + 1
        → (nat_le (cond (begins_line text last.from) (last.from - 1) last.from) place && nat_lt place (last.to - 1))
        ≡ (is_in last place || (is_newline_at text place && (nat_le last.from (place + 1) && (last.to == length text))))
    at_near (inl lt) le =
        let next : place + 1 ≡ last.from = omega arith in
        rw (begins_after text last.from place next) (just_before last.from last.to (length text) place (is_newline_at text place) next some e)
    at_near (inr ge) le = inside last.from last.to (length text) place (begins_line text last.from) (is_newline_at text place) (omega arith) h e

    by_cases : (place + 1 < last.from) ⊎ (last.from ≤ place + 1)
        → (c || (nat_le (cond (begins_line text last.from) (last.from - 1) last.from) place && nat_lt place (last.to - 1)))
        ≡ ((c || is_in last place) || (is_newline_at text place && (nat_le last.from (place + 1) && (last.to == length text))))
    by_cases (inl lt) = far_before last.from last.to (length text) place c (begins_line text last.from) (is_newline_at text place) lt
    by_cases (inr le) = rw (near le) (at_near (cases_lt (place + 1) (last.from + 1)) le)

spared_in : (text : List ℕ) (last : Range) (place : ℕ) (c : Bool) → last.from < last.to → last.to ≤ length text → (last.from ≤ place + 1 → c ≡ false) → place + 1 < length text
    → (c || is_in (spared text last) place) ≡ ((c || is_in last place) || (is_newline_at text place && (nat_le last.from (place + 1) && (last.to == length text))))
spared_in text last place c some within near h =
    elim (nat_lt last.to (length text)) as
    (λ b. nat_lt last.to (length text) ≡ b
    → (c || is_in (cond b last (record { from = cond (begins_line text last.from) (last.from - 1) last.from; to = last.to - 1 })) place)
    ≡ ((c || is_in last place) || (is_newline_at text place && (nat_le last.from (place + 1) && (last.to == length text))))) [
      | true ↦ λ e. ends_before last.from last.to (length text) place c (is_newline_at text place) some (ltb-true _ _ e) near h
      | false ↦ λ e. with_newline text last place c some (omega (arith, ltb-false _ _ e)) near h
    ]
    refl

pub spared_ends : (text : List ℕ) (last : Range) → last.from < last.to → last.to ≤ length text → (spared text last).to < length text
spared_ends text last some within =
    elim (nat_lt last.to (length text)) as
    (λ b. nat_lt last.to (length text) ≡ b → (cond b last (record { from = cond (begins_line text last.from) (last.from - 1) last.from; to = last.to - 1 })).to < length text)
    [ true ↦ λ e. ltb-true _ _ e | false ↦ λ e. omega arith ]
    refl

pub spared_starts : (text : List ℕ) (last : Range) → last.from ≤ (spared text last).from + 1
spared_starts text last = by_tests (nat_lt last.to (length text)) (begins_line text last.from)
  where
    by_tests : (b begins : Bool) → last.from ≤ (cond b last (record { from = cond begins (last.from - 1) last.from; to = last.to - 1 })).from + 1
    by_tests true begins = omega arith
    by_tests false true = omega arith
    by_tests false false = omega arith

-- THE REMOVED PLACES

spared_past : (text : List ℕ) (last : Range) (place : ℕ) → last.from < last.to → last.to ≤ length text → length text ≤ place + 1 → is_in (spared text last) place ≡ false
spared_past text last place some within h = ended (spared text last).from (spared text last).to place (omega (arith, spared_ends text last some within))

pub covered_spared : (text : List ℕ) (front : List Range) (last : Range) (place : ℕ) → AreSpaced 0 (front ++ last ∷ []) → last.to ≤ length text
    → (is_covered front place || is_in (spared text last) place) ≡ is_removed text (front ++ last ∷ []) place
covered_spared text front last place apart within =
    elim (nat_lt (place + 1) (length text)) as
    (λ b. nat_lt (place + 1) (length text) ≡ b
    → (is_covered front place || is_in (spared text last) place)
    ≡ (b && (is_covered (front ++ last ∷ []) place || (is_newline_at text place && are_covered (front ++ last ∷ []) (place + 1) (length text - (place + 1)))))) [
      | true ↦ λ e. spared_in text last place (is_covered front place) some within (λ near. none_near 0 front last place apart near) (ltb-true _ _ e)
          ∙ ap (λ b. b || (is_newline_at text place && (nat_le last.from (place + 1) && (last.to == length text)))) (sym (covered_last front last place))
          ∙ ap (λ b. is_covered (front ++ last ∷ []) place || (is_newline_at text place && b)) (sym (covered_to_end front last (length text) place apart within (ltb-true _ _ e)))
      | false ↦ λ e. or_from (is_covered front place) (is_in (spared text last) place) (none_near 0 front last place apart (omega (arith, some, ltb-false _ _ e))) (spared_past text last place some within (ltb-false _ _ e))
    ]
    refl
  where
    some : last.from < last.to
    some = last_some 0 front last apart

-- with the last range, or without it where it is empty then
pub places_kept : (text : List ℕ) (front : List Range) (last : Range) (place : ℕ) → AreSpaced 0 (front ++ last ∷ []) → last.to ≤ length text
    → is_covered (front ++ spared text last ∷ []) place ≡ is_removed text (front ++ last ∷ []) place
places_kept text front last place apart within = covered_last front (spared text last) place ∙ covered_spared text front last place apart within

empty_in : (from to place : ℕ) → to ≤ from → (nat_le from place && nat_lt place to) ≡ false
empty_in from to place h = grind (arith, nat_tests)

pub places_dropped : (text : List ℕ) (front : List Range) (last : Range) (place : ℕ) → AreSpaced 0 (front ++ last ∷ []) → last.to ≤ length text → (spared text last).to ≤ (spared text last).from
    → is_covered front place ≡ is_removed text (front ++ last ∷ []) place
places_dropped text front last place apart within empty =
    sym (or_none (is_covered front place)) ∙ ap (λ b. is_covered front place || b) (sym (empty_in (spared text last).from (spared text last).to place empty))
    ∙ covered_spared text front last place apart within

pub nothing_removed : (text : List ℕ) (place : ℕ) → false ≡ is_removed text [] place
nothing_removed text place = by_cases (cases_lt (place + 1) (length text))
  where
    none : (k place : ℕ) → 0 < k → are_covered [] place k ≡ false
    none zero place h = absurd (omega arith)
    none (suc k) place h = refl

    and_none : (b : Bool) → false ≡ (b && false)
    and_none true = refl
    and_none false = refl

    by_cases : (place + 1 < length text) ⊎ (length text ≤ place + 1) → false ≡ is_removed text [] place
    by_cases (inl lt) =
        rw (lt-ltb (place + 1) (length text) lt, none (length text - (place + 1)) (place + 1) (omega arith)) (and_none (is_newline_at text place))
    by_cases (inr le) = rw (le-ltb (place + 1) (length text) le) refl

-- IN ORDER

pub front_in_order : (low high : ℕ) (front : List Range) (last : Range) → low ≤ high → AreSpaced high (front ++ last ∷ []) → RangesFollow low front
front_in_order low high [] last h apart = tt
front_in_order low high (range ∷ ranges) last h apart = (omega (arith, apart.0), apart.1, front_in_order range.to (range.to + 1) ranges last (omega arith) apart.2)

after_front : (low : ℕ) (front : List Range) (last kept : Range) → AreSpaced (low + 1) (front ++ last ∷ []) → last.from ≤ kept.from + 1 → kept.from < kept.to → RangesFollow low (front ++ kept ∷ [])
after_front low [] last kept apart h k = (omega (arith, apart.0), k, tt)
after_front low (range ∷ ranges) last kept apart h k = (omega (arith, apart.0), apart.1, after_front range.to ranges last kept apart.2 h k)

pub kept_in_order : (front : List Range) (last kept : Range) → AreSpaced 0 (front ++ last ∷ []) → last.from ≤ kept.from + 1 → kept.from < kept.to → RangesFollow 0 (front ++ kept ∷ [])
kept_in_order [] last kept apart h k = (omega arith, k, tt)
kept_in_order (range ∷ ranges) last kept apart h k = (omega arith, apart.1, after_front range.to ranges last kept apart.2 h k)

front_before : (low : ℕ) (front : List Range) (last : Range) → AreSpaced low (front ++ last ∷ []) → All (λ range. range.to < last.from) front
front_before low [] last apart = All-nil (λ range. range.to < last.from)
front_before low (range ∷ ranges) last apart =
    All-cons (λ range. range.to < last.from) range ranges (omega (arith, last_after (range.to + 1) ranges last apart.2)) (front_before (range.to + 1) ranges last apart.2)

pub front_within : (front : List Range) (last : Range) (n : ℕ) → AreSpaced 0 (front ++ last ∷ []) → last.to ≤ n → All (λ range. range.to < n) front
front_within front last n apart within =
    let before : All (λ range. range.to < last.from) front = front_before 0 front last apart in
    λ k d h. omega (arith, before k d h, last_some 0 front last apart)

pub kept_within : (front : List Range) (last kept : Range) (n : ℕ) → AreSpaced 0 (front ++ last ∷ []) → last.to ≤ n → kept.to < n → All (λ range. range.to < n) (front ++ kept ∷ [])
kept_within front last kept n apart within h =
    let P : Range → Type 0 = λ range. range.to < n in
    All-append P front (kept ∷ []) (front_within front last n apart within) (All-cons P kept [] h (All-nil P))

-- THE SAME PLACES COVERED

-- ranges that cover the same places of a text remove the same
pub removed_same : (text : List ℕ) (some other : List Range) → ((place : ℕ) → is_covered some place ≡ (nat_lt place (length text) && is_covered other place)) → (place : ℕ) → is_removed text some place ≡ is_removed text other place
removed_same text some other same place =
    elim (nat_lt (place + 1) (length text)) as
    (λ b. nat_lt (place + 1) (length text) ≡ b
    → (b && (is_covered some place || (is_newline_at text place && are_covered some (place + 1) (length text - (place + 1)))))
    ≡ (b && (is_covered other place || (is_newline_at text place && are_covered other (place + 1) (length text - (place + 1)))))) [
      | true ↦ λ e. ap (λ b. b || (is_newline_at text place && are_covered some (place + 1) (length text - (place + 1)))) (here place (omega (arith, ltb-true _ _ e)))
          ∙ ap (λ b. is_covered other place || (is_newline_at text place && b)) (run (length text - (place + 1)) (place + 1) (omega (arith, ltb-true _ _ e)))
      | false ↦ λ e. refl
    ]
    refl
  where
    here : (place : ℕ) → place < length text → is_covered some place ≡ is_covered other place
    here place h = same place ∙ ap (λ b. b && is_covered other place) (lt-ltb place (length text) h)

    run : (k place : ℕ) → place + k ≤ length text → are_covered some place k ≡ are_covered other place k
    run zero place h = refl
    run (suc k) place h =
        ap (λ b. b && are_covered some (place + 1) k) (same place ∙ ap (λ b. b && is_covered other place) (lt-ltb place (length text) (omega arith)))
        ∙ ap (λ b. is_covered other place && b) (run k (place + 1) (omega arith))

-- ALL TOGETHER

-- ranges that take what a removal of others takes
pub record Takes (text : List ℕ) (ranges taken : List Range) : Type 0 where
  pub order : RangesFollow 0 taken
  pub within : All (λ range. range.to < length text) taken
  pub places : (place : ℕ) → is_covered taken place ≡ is_removed text ranges place

last_within_text : (text : List ℕ) (front : List Range) (last : Range) → AreSpaced 0 (front ++ last ∷ []) → ((place : ℕ) → is_covered (front ++ last ∷ []) place ≡ true → place < length text) → last.to ≤ length text
last_within_text text front last apart within = last_within front last (length text) (last_some 0 front last apart) within

taken_with : (text : List ℕ) (front : List Range) (last : Range) → AreSpaced 0 (front ++ last ∷ []) → last.to ≤ length text → (spared text last).from < (spared text last).to
    → Takes text (front ++ last ∷ []) (front ++ spared text last ∷ [])
taken_with text front last apart within some = record {
  order = kept_in_order front last (spared text last) apart (spared_starts text last) some;
  within = kept_within front last (spared text last) (length text) apart within (spared_ends text last (last_some 0 front last apart) within);
  places = λ place. places_kept text front last place apart within;
}

taken_without : (text : List ℕ) (front : List Range) (last : Range) → AreSpaced 0 (front ++ last ∷ []) → last.to ≤ length text → (spared text last).to ≤ (spared text last).from
    → Takes text (front ++ last ∷ []) front
taken_without text front last apart within empty = record {
  order = front_in_order 0 0 front last (omega arith) apart;
  within = front_within front last (length text) apart within;
  places = λ place. places_dropped text front last place apart within empty;
}

pub last_ends : (text : List ℕ) (merged front : List Range) (last : Range) → merged ≡ front ++ last ∷ [] → AreSpaced 0 merged → ((place : ℕ) → is_covered merged place ≡ true → place < length text)
    → (last.from < last.to) × (last.to ≤ length text)
last_ends text merged front last e apart within =
    let apart_here : AreSpaced 0 (front ++ last ∷ []) = subst (AreSpaced 0) e apart in
    (last_some 0 front last apart_here, last_within_text text front last apart_here (λ place h. within place (ap (λ ranges. is_covered ranges place) e ∙ h)))

pub with_last : (text : List ℕ) (merged front taken : List Range) (last kept : Range) → merged ≡ front ++ last ∷ [] → AreSpaced 0 merged → ((place : ℕ) → is_covered merged place ≡ true → place < length text)
    → kept ≡ spared text last → kept.from < kept.to → taken ≡ front ++ kept ∷ [] → Takes text merged taken
with_last text merged front taken last kept e apart within k some t =
    let apart_here : AreSpaced 0 (front ++ last ∷ []) = subst (AreSpaced 0) e apart in
    let ends : last.to ≤ length text = (last_ends text merged front last e apart within).1 in
    let some_here : (spared text last).from < (spared text last).to = subst (λ (range : Range). range.from < range.to) k some in
    rw (e, t, k) (taken_with text front last apart_here ends some_here)

pub without_last : (text : List ℕ) (merged front : List Range) (last kept : Range) → merged ≡ front ++ last ∷ [] → AreSpaced 0 merged → ((place : ℕ) → is_covered merged place ≡ true → place < length text)
    → kept ≡ spared text last → kept.to ≤ kept.from → Takes text merged front
without_last text merged front last kept e apart within k empty =
    let apart_here : AreSpaced 0 (front ++ last ∷ []) = subst (AreSpaced 0) e apart in
    let ends : last.to ≤ length text = (last_ends text merged front last e apart within).1 in
    let empty_here : (spared text last).to ≤ (spared text last).from = subst (λ (range : Range). range.to ≤ range.from) k empty in
    rw e (taken_without text front last apart_here ends empty_here)
