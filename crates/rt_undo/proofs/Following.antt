-- Stamps that are led on by moves.
use Rattle.std.proofs.Common.{◌≡◌, ◌∙◌, ℕ, zero, suc, ◌+◌, ◌-◌, ◌<◌, ◌≤◌, Bool, true, false, Option, Some, None, is_some, ap, sym, subst, refl, arith, cond, if◌then◌else◌}
use Rattle.std.specs.Option.{option_map_or}
use Rattle.std.proofs.lemmas.Bool.Decides.{nat_tests}
use Rattle.rt_stamps.specs.declared.stamp.Span.{Span}
use Rattle.rt_stamps.specs.declared.stamp.Stamp.{Stamp}
use Rattle.rt_stamps.specs.declared.limits.TheConstants.{GREATEST_COUNT}
use Rattle.rt_undo.specs.declared.renames.Move.{Move}
use Rattle.rt_undo.specs.Renames.{SpanMapValue, AllLeadOn, LeadsOn, follow, is_in_span, is_moved, is_same, now_of, renamed, replaced, target, value_of}

pub follow_ends : (n : ℕ) (moves : SpanMapValue Move) (s : Stamp) → value_of moves s ≡ None → follow n moves s ≡ s
unfolding follow
follow_ends zero moves s e = refl
follow_ends (suc n) moves s e = ap (λ o. option_map_or (λ m. follow n moves (target m s)) o s) e

pub follow_on : (n : ℕ) (moves : SpanMapValue Move) (s : Stamp) (m : Move) → value_of moves s ≡ Some m → follow (suc n) moves s ≡ follow n moves (target m s)
unfolding follow
follow_on n moves s m e = ap (λ o. option_map_or (λ m. follow n moves (target m s)) o s) e

now_zero : (moves : SpanMapValue Move) (s : Stamp) → follow zero moves s ≡ s
unfolding follow
now_zero moves s = refl

-- by cases of a look-up
by_look : {P : Type 0} (o : Option Move) → (o ≡ None → P) → ((m : Move) → o ≡ Some m → P) → P
by_look None none some = none refl
by_look (Some m) none some = some m refl

-- more steps than there are lead no further
pub follow_more : (n : ℕ) (moves : SpanMapValue Move) (s : Stamp) → AllLeadOn moves → GREATEST_COUNT ≤ n + s.count → follow (suc n) moves s ≡ follow n moves s
follow_more zero moves s rising far =
    by_look (value_of moves s)
    (λ none. follow_ends (suc zero) moves s none ∙ sym (follow_ends zero moves s none))
    (λ m some. let l : LeadsOn m s = rising s m some in let a = l.later in let b = l.bounded in absurd (omega arith))
follow_more (suc n) moves s rising far =
    by_look (value_of moves s)
    (λ none. follow_ends (suc (suc n)) moves s none ∙ sym (follow_ends (suc n) moves s none))
    (λ m some. let l : LeadsOn m s = rising s m some in let a = l.later in
    follow_on (suc n) moves s m some ∙ follow_more n moves (target m s) rising (omega arith) ∙ sym (follow_on n moves s m some))

-- a step of a walk
pub now_on : (moves : SpanMapValue Move) (s : Stamp) (m : Move) → AllLeadOn moves → value_of moves s ≡ Some m → now_of moves s ≡ now_of moves (target m s)
unfolding now_of
now_on moves s m rising some =
    let far : GREATEST_COUNT ≤ GREATEST_COUNT + s.count = omega arith in
    sym (follow_more GREATEST_COUNT moves s rising far) ∙ follow_on GREATEST_COUNT moves s m some

pub now_ends : (moves : SpanMapValue Move) (s : Stamp) → value_of moves s ≡ None → now_of moves s ≡ s
unfolding now_of
now_ends moves s none = follow_ends GREATEST_COUNT moves s none

-- ONE MORE RENAMING

pub none_of : (o : Option Move) → is_some o ≡ false → o ≡ None
none_of None e = refl
none_of (Some m) e = cc

inner : (a b : Move) → Some a ≡ Some b → a ≡ b
inner a b e = cc

pub span_counts : (f : Span) (s : Stamp) → is_in_span f s ≡ true → (f.first ≤ s.count) × (s.count ≤ f.last)
span_counts f s e = (grind (arith, nat_tests), grind (arith, nat_tests))

pub outside : (f : Span) (s : Stamp) → f.last < s.count → is_in_span f s ≡ false
outside f s l = grind (arith, nat_tests)

-- the characters of a span come back under other stamps, none of all of which was moved before
pub record Renaming (former : Span) (newer : Stamp) (step : Move) (old new : SpanMapValue Move) : Type 0 where
  pub values : (s : Stamp) → value_of new s ≡ (if is_in_span former s then Some step else value_of old s)
  pub begins : step.first ≡ former.first
  pub leads : step.to ≡ newer
  pub order : former.first ≤ former.last
  pub later : former.last < newer.count
  pub bound : newer.count + (former.last - former.first) ≤ GREATEST_COUNT
  pub first_time : (s : Stamp) → is_in_span former s ≡ true → is_moved old s ≡ false
  pub fresh : (s : Stamp) → is_in_span former s ≡ true → is_moved old (renamed former newer s) ≡ false
  pub rising : AllLeadOn old

value_in : (former : Span) (newer : Stamp) (step : Move) (old new : SpanMapValue Move) → Renaming former newer step old new
    → (s : Stamp) → is_in_span former s ≡ true → value_of new s ≡ Some step
value_in former newer step old new r s e = r.values s ∙ ap (λ b. cond b (Some step) (value_of old s)) e

value_out : (former : Span) (newer : Stamp) (step : Move) (old new : SpanMapValue Move) → Renaming former newer step old new
    → (s : Stamp) → is_in_span former s ≡ false → value_of new s ≡ value_of old s
value_out former newer step old new r s e = r.values s ∙ ap (λ b. cond b (Some step) (value_of old s)) e

-- by cases of a test
pub by_test : {P : Type 0} (b : Bool) → (b ≡ true → P) → (b ≡ false → P) → P
by_test true f g = f refl
by_test false f g = g refl

leads_to : (former : Span) (newer : Stamp) (step : Move) (s : Stamp) → step.first ≡ former.first → step.to ≡ newer → is_in_span former s ≡ true
    → target step s ≡ renamed former newer s
leads_to former newer step s begins leads e =
    (λ i. record { count = (leads i).count + (s.count - begins i); site = (leads i).site })
    ∙ sym (ap (λ b. cond b (record { count = newer.count + (s.count - former.first); site = newer.site }) s) e)

renamed_out : (former : Span) (newer : Stamp) (s : Stamp) → is_in_span former s ≡ false → renamed former newer s ≡ s
renamed_out former newer s e = ap (λ b. cond b (record { count = newer.count + (s.count - former.first); site = newer.site }) s) e

-- what a character of the span comes back as is moved no further
new_ends : (former : Span) (newer : Stamp) (step : Move) (old new : SpanMapValue Move) → Renaming former newer step old new
    → (s : Stamp) → is_in_span former s ≡ true → value_of new (target step s) ≡ None
new_ends former newer step old new r s e =
    let same : target step s ≡ renamed former newer s = leads_to former newer step s r.begins r.leads e in
    let far : former.last < (target step s).count = omega (arith, r.later, ap (λ t. t.count) r.leads) in
    value_out former newer step old new r (target step s) (outside former (target step s) far)
    ∙ ap (value_of old) same ∙ none_of (value_of old (renamed former newer s)) (r.fresh s e)

follow_renamed : (former : Span) (newer : Stamp) (step : Move) (old new : SpanMapValue Move) → Renaming former newer step old new
    → (n : ℕ) (s : Stamp) → GREATEST_COUNT ≤ n + s.count → follow n new s ≡ renamed former newer (follow n old s)
follow_renamed former newer step old new r zero s far =
    by_test (is_in_span former s)
    (λ yes. let c : (former.first ≤ s.count) × (s.count ≤ former.last) = span_counts former s yes in
    let l = r.later in let b = r.bound in absurd (omega arith))
    (λ no. now_zero new s ∙ sym (renamed_out former newer s no) ∙ ap (renamed former newer) (sym (now_zero old s)))
follow_renamed former newer step old new r (suc n) s far =
    by_test (is_in_span former s)
    (λ yes.
    let none : value_of old s ≡ None = none_of (value_of old s) (r.first_time s yes) in
    follow_on n new s step (value_in former newer step old new r s yes)
    ∙ follow_ends n new (target step s) (new_ends former newer step old new r s yes)
    ∙ leads_to former newer step s r.begins r.leads yes
    ∙ ap (renamed former newer) (sym (follow_ends (suc n) old s none)))
    (λ no. let same : value_of new s ≡ value_of old s = value_out former newer step old new r s no in
    by_look (value_of old s)
    (λ none. follow_ends (suc n) new s (same ∙ none) ∙ sym (renamed_out former newer s no) ∙ ap (renamed former newer) (sym (follow_ends (suc n) old s none)))
    (λ m some. let l : LeadsOn m s = r.rising s m some in let a = l.later in
    follow_on n new s m (same ∙ some)
    ∙ follow_renamed former newer step old new r n (target m s) (omega arith)
    ∙ ap (renamed former newer) (sym (follow_on n old s m some))))

pub now_renamed : (former : Span) (newer : Stamp) (step : Move) (old new : SpanMapValue Move) → Renaming former newer step old new
    → (s : Stamp) → now_of new s ≡ renamed former newer (now_of old s)
unfolding now_of
now_renamed former newer step old new r s =
    let far : GREATEST_COUNT ≤ GREATEST_COUNT + s.count = omega arith in
    follow_renamed former newer step old new r GREATEST_COUNT s far

pub rising_renamed : (former : Span) (newer : Stamp) (step : Move) (old new : SpanMapValue Move) → Renaming former newer step old new → AllLeadOn new
rising_renamed former newer step old new r s m some =
    by_test (is_in_span former s)
    (λ yes. let same : step ≡ m = inner step m (sym (value_in former newer step old new r s yes) ∙ some) in
    let c : (former.first ≤ s.count) × (s.count ≤ former.last) = span_counts former s yes in
    let l = r.later in let b = r.bound in let e = r.begins in let t : step.to.count ≡ newer.count = ap (λ t. t.count) r.leads in
    subst (λ k. LeadsOn k s) same (record { begun = omega arith; later = omega arith; bounded = omega arith }))
    (λ no. r.rising s m (sym (value_out former newer step old new r s no) ∙ some))

-- THE SAME MOVES

follow_same : (old new : SpanMapValue Move) → ((s : Stamp) → value_of new s ≡ value_of old s) → (n : ℕ) (s : Stamp) → follow n new s ≡ follow n old s
follow_same old new e zero s = now_zero new s ∙ sym (now_zero old s)
follow_same old new e (suc n) s =
    by_look (value_of old s)
    (λ none. follow_ends (suc n) new s (e s ∙ none) ∙ sym (follow_ends (suc n) old s none))
    (λ m some. follow_on n new s m (e s ∙ some) ∙ follow_same old new e n (target m s) ∙ sym (follow_on n old s m some))

pub now_same : (old new : SpanMapValue Move) → ((s : Stamp) → value_of new s ≡ value_of old s) → (s : Stamp) → now_of new s ≡ now_of old s
unfolding now_of
now_same old new e s = follow_same old new e GREATEST_COUNT s

pub rising_same : (old new : SpanMapValue Move) → ((s : Stamp) → value_of new s ≡ value_of old s) → AllLeadOn old → AllLeadOn new
rising_same old new e rising s m some = rising s m (sym (e s) ∙ some)

-- ONE STAMP

same_count : (old new s : Stamp) → is_same s old ≡ true → new.count + (s.count - old.count) ≡ new.count
same_count old new s e = let k : s.count ≡ old.count = grind (arith, nat_tests) in omega arith

in_one_yes : (old s : Stamp) → is_same s old ≡ true → is_in_span (record { site = old.site; first = old.count; last = old.count }) s ≡ true
in_one_yes old s e = grind (arith, nat_tests)

in_one_no : (old s : Stamp) → is_same s old ≡ false → is_in_span (record { site = old.site; first = old.count; last = old.count }) s ≡ false
in_one_no old s e = grind (arith, nat_tests)

pub in_one : (old s : Stamp) → is_in_span (record { site = old.site; first = old.count; last = old.count }) s ≡ is_same s old
in_one old s = by_test (is_same s old) (λ yes. in_one_yes old s yes ∙ sym yes) (λ no. in_one_no old s no ∙ sym no)

pub renamed_one : (old new s : Stamp) → renamed (record { site = old.site; first = old.count; last = old.count }) new s ≡ replaced old new s
renamed_one old new s =
    let span : Span = record { site = old.site; first = old.count; last = old.count } in
    by_test (is_same s old)
    (λ yes. let k : new.count + (s.count - old.count) ≡ new.count = same_count old new s yes in
    ap (λ b. cond b (record { count = new.count + (s.count - old.count); site = new.site }) s) (in_one_yes old s yes)
    ∙ (λ i. record { count = k i; site = new.site })
    ∙ sym (ap (λ b. cond b new s) yes))
    (λ no. renamed_out span new s (in_one_no old s no) ∙ sym (ap (λ b. cond b new s) no))

-- AT THE END

follow_still : (n : ℕ) (moves : SpanMapValue Move) (s : Stamp) → AllLeadOn moves → GREATEST_COUNT ≤ n + s.count → is_moved moves (follow n moves s) ≡ false
follow_still zero moves s rising far =
    by_look (value_of moves s)
    (λ none. ap (is_moved moves) (now_zero moves s) ∙ ap is_some none)
    (λ m some. let l : LeadsOn m s = rising s m some in let a = l.later in let b = l.bounded in absurd (omega arith))
follow_still (suc n) moves s rising far =
    by_look (value_of moves s)
    (λ none. ap (is_moved moves) (follow_ends (suc n) moves s none) ∙ ap is_some none)
    (λ m some. let l : LeadsOn m s = rising s m some in let a = l.later in
    ap (is_moved moves) (follow_on n moves s m some) ∙ follow_still n moves (target m s) rising (omega arith))

-- the stamp that a character has now leads no further
pub now_still : (moves : SpanMapValue Move) → AllLeadOn moves → (s : Stamp) → is_moved moves (now_of moves s) ≡ false
unfolding now_of
now_still moves rising s =
    let far : GREATEST_COUNT ≤ GREATEST_COUNT + s.count = omega arith in
    follow_still GREATEST_COUNT moves s rising far
