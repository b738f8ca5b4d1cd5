-- Marks within a text, before and after an edit of it.
use Rattle.std.proofs.Common.{◌≡◌, ◌⊎◌, inl, inr, ℕ, zero, suc, ◌+◌, ◌-◌, ◌<◌, ◌≤◌, List, [], ◌∷◌, ◌++◌, Bool, true, false, cond, not, length, map, take, drop, refl, sym, ap, ◌∙◌, subst, arith, Option, Some, None, Result, Ok, Err, OnOk, length-append, take-append-drop}
use Rattle.std.specs.List.{AllByRecursion}
use Rattle.std.specs.Prelude.{◌↔◌, IsSome, OnErr, option_map}
use Rattle.std.specs.Option.{option_map_or}
use Rattle.std.proofs.lemmas.Bool.{cases_lt}
use Rattle.rt_marks.specs.declared.gravity.Gravity.{Gravity}
use Rattle.rt_marks.specs.Marks.{Mark, IsName, mark_of_name, is_named, is_one_of, is_moved_on, marks_inserted, place_left, mark_left, marks_left, without_mark, without_all, put_mark, marks_set, marks_with_gravity, gravity_or_right}
use Rattle.rt_marks.proofs.InOrder.{each_with, each_in_order}
use Rattle.rt_marks.proofs.Leaving.{place_rising, place_kept}
use Rattle.rt_marks.proofs.Names.{same_name}
use Rattle.rt_stamps.specs.declared.fault.Fault.{Fault}
use Rattle.rt_stamps.specs.declared.fault.Fault.TheVariants.{BadName}
use Rattle.rt_stamps.specs.declared.limits.TheConstants.{MOST_NAME_BYTES}
use Rattle.rt_stamps.specs.declared.stamp.Stamp.{Stamp}
use Rattle.rt_store.specs.declared.cell.Cell.{Cell}
use Rattle.rt_store.specs.Cells.{text_of, after_element}
use Rattle.rt_plans.specs.DocValue.{put_after}
use Rattle.rt_plans.specs.Removals.{gone_at, left_at}
use Rattle.rt_text.specs.Widgets.{WidgetValue, IsOwnOf, IsSiteMark, AreSiteMarks, is_own, widget_inserted, widget_without}
use Rattle.rt_plans.proofs.InsertedText.{text_append}
use Rattle.rt_plans.proofs.RemovedText.{text_left}

-- A MARK THAT IS FOUND

by_test : (n : ℕ) (m : Mark) (o : Option Mark) (b : Bool) → IsSiteMark n m → ((place : ℕ) → option_map (λ (x : Mark). x.place) o ≡ Some place → place ≤ n)
    → (place : ℕ) → option_map (λ (x : Mark). x.place) (cond b (Some m) o) ≡ Some place → place ≤ n
by_test n m o true h k place e = let q : m.place ≡ place = cc in omega (arith, h.place)
by_test n m o false h k place e = k place e

-- its place is within the text
pub site_within : (n : ℕ) (marks : List Mark) → AreSiteMarks n marks → (name : List ℕ) (place : ℕ) → option_map (λ (m : Mark). m.place) (mark_of_name name marks) ≡ Some place → place ≤ n
site_within n [] h name place e = let bad : ⊥ = cc in absurd bad
site_within n (m ∷ marks) h name place e = by_test n m (mark_of_name name marks) (is_named name m) h.0 (λ p q. site_within n marks h.1 name p q) place e

found_named : (name : List ℕ) (m : Mark) (o : Option Mark) (b : Bool) → is_named name m ≡ b → IsName m.name → (IsSome o → IsName name) → IsSome (cond b (Some m) o) → IsName name
found_named name m o true e h k s = subst IsName (same_name m.name name e) h
found_named name m o false e h k s = k s

-- its name is a name
pub site_named : (n : ℕ) (marks : List Mark) → AreSiteMarks n marks → (name : List ℕ) → IsSome (mark_of_name name marks) → IsName name
site_named n [] h name s = cc
site_named n (m ∷ marks) h name s = found_named name m (mark_of_name name marks) (is_named name m) refl h.0.name (site_named n marks h.1 name) s

-- AN INSERTION

-- no place becomes too great
pub site_fits : (n k most : ℕ) (marks : List Mark) → n + k ≤ most → AreSiteMarks n marks → AllByRecursion (λ m. m.place + k ≤ most) marks
site_fits n k most [] h s = tt
site_fits n k most (m ∷ marks) h s = (omega (arith, s.0.place), site_fits n k most marks h s.1)

moved_within : (n k p : ℕ) (b : Bool) → p ≤ n → cond b (p + k) p ≤ n + k
moved_within n k p true h = omega arith
moved_within n k p false h = omega arith

moved_before : (n k p : ℕ) (b : Bool) → p < n → cond b (p + k) p < n + k
moved_before n k p true h = omega arith
moved_before n k p false h = omega arith

pub site_inserted : (n place k : ℕ) (marks : List Mark) → AreSiteMarks n marks → AreSiteMarks (n + k) (marks_inserted place k marks)
site_inserted n place k [] s = tt
site_inserted n place k (m ∷ marks) s =
    (record { place = moved_within n k m.place (is_moved_on place m.place m.gravity) s.0.place; name = s.0.name; other = s.0.other }, site_inserted n place k marks s.1)

pub own_of_inserted : (n place k : ℕ) (own : WidgetValue) → IsOwnOf n own → IsOwnOf (n + k) (widget_inserted place k own)
own_of_inserted n place k own h = record {
  insert = moved_before n k own.insert.place (is_moved_on place own.insert.place own.insert.gravity) h.insert;
  current = moved_within n k own.current.place (is_moved_on place own.current.place own.current.gravity) h.current;
  insert_name = h.insert_name;
  current_name = h.current_name;
}

-- the text grows by the new characters
pub length_put : {T : Type 0} (cells : List (Cell T)) (left : Stamp) (new : List (Cell T)) → length (text_of (put_after cells left new)) ≡ length (text_of cells) + length (text_of new)
length_put cells left new =
    let at = after_element cells left in
    let whole : text_of (take at cells ++ new ++ drop at cells) ≡ text_of (take at cells) ++ text_of new ++ text_of (drop at cells) =
    text_append (take at cells ++ new) (drop at cells) ∙ ap (λ t. t ++ text_of (drop at cells)) (text_append (take at cells) new) in
    let old : text_of cells ≡ text_of (take at cells) ++ text_of (drop at cells) = ap text_of (sym (take-append-drop at cells)) ∙ text_append (take at cells) (drop at cells) in
    let a = ap length whole ∙ length-append (text_of (take at cells) ++ text_of new) (text_of (drop at cells)) in
    let b = length-append (text_of (take at cells)) (text_of new) in
    let d = ap length old ∙ length-append (text_of (take at cells)) (text_of (drop at cells)) in
    omega (arith, a, b, d)

-- A REMOVAL

left_step : (b : Bool) (c : ℕ) (rest : List ℕ) (p : ℕ) → length (cond b rest (c ∷ rest)) + p ≡ length rest + (p + cond b 0 1)
left_step true c rest p = omega arith
left_step false c rest p = omega arith

-- as many characters are left as the text's end stands behind
pub length_left : (removed : ℕ → Bool) (k : ℕ) (text : List ℕ) → length (left_at removed k text) + place_left removed k ≡ place_left removed (k + length text)
length_left removed k [] =
    let same : k + 0 ≡ k = omega arith in
    let none : 0 + place_left removed k ≡ place_left removed k = omega arith in
    none ∙ ap (place_left removed) (sym same)
length_left removed k (c ∷ text) =
    let next : k + 1 ≡ suc k = omega arith in
    let far : k + 1 + length text ≡ k + suc (length text) = omega arith in
    left_step (removed k) c (left_at removed (k + 1) text) (place_left removed k)
    ∙ ap (λ n. length (left_at removed (k + 1) text) + place_left removed n) (sym next)
    ∙ length_left removed (k + 1) text ∙ ap (place_left removed) far

pub length_gone : {T : Type 0} (removed : ℕ → Bool) (cells : List (Cell T)) → length (text_of (gone_at removed 0 cells)) ≡ place_left removed (length (text_of cells))
length_gone removed cells =
    let n = length (text_of cells) in
    let start : 0 + n ≡ n = omega arith in
    let none : length (left_at removed 0 (text_of cells)) + 0 ≡ length (left_at removed 0 (text_of cells)) = omega arith in
    ap length (text_left removed 0 cells) ∙ sym none ∙ length_left removed 0 (text_of cells) ∙ ap (place_left removed) start

pub site_left : (n : ℕ) (removed : ℕ → Bool) (marks : List Mark) → AreSiteMarks n marks → AreSiteMarks (place_left removed n) (marks_left removed marks)
site_left n removed marks s = each_in_order (IsSiteMark (place_left removed n)) (map (mark_left removed) marks) (all marks s)
  where
    all : (marks : List Mark) → AreSiteMarks n marks → AreSiteMarks (place_left removed n) (map (mark_left removed) marks)
    all [] s = tt
    all (m ∷ marks) s = (record { place = place_rising removed m.place n s.0.place; name = s.0.name; other = s.0.other }, all marks s.1)

-- where the last newline stays
pub own_of_left : (n : ℕ) (removed : ℕ → Bool) (own : WidgetValue) → removed (n - 1) ≡ false → IsOwnOf n own → IsOwnOf (place_left removed n) (widget_without removed own)
own_of_left zero removed own f h = absurd (omega (arith, h.insert))
own_of_left (suc n) removed own f h =
    let last : suc n - 1 ≡ n = omega arith in
    let kept : removed n ≡ false = ap removed (sym last) ∙ f in
    let more : place_left removed (suc n) ≡ place_left removed n + 1 = ap (λ b. place_left removed n + cond b 0 1) kept in
    let within : place_left removed own.insert.place ≤ place_left removed n = place_rising removed own.insert.place n (omega (arith, h.insert)) in
    record {
      insert = omega (arith, more, within);
      current = place_rising removed own.current.place (suc n) h.current;
      insert_name = h.insert_name;
      current_name = h.current_name;
    }

-- NOTHING IS REMOVED

pub own_kept : (removed : ℕ → Bool) (own : WidgetValue) → ((p : ℕ) → removed p ≡ false) → widget_without removed own ≡ own
own_kept removed own h = λ i. record own { insert = record own.insert { place = place_kept removed h own.insert.place i }; current = record own.current { place = place_kept removed h own.current.place i } }

-- SOMETHING ELSE IS SELECTED

-- own marks stand where they stood
pub own_of_selecting : (n : ℕ) (own : WidgetValue) (sel : List Stamp) → IsOwnOf n own → IsOwnOf n (record own { sel = sel })
own_of_selecting n own sel h = record { insert = h.insert; current = h.current; insert_name = h.insert_name; current_name = h.current_name }

-- MARK COMMANDS

kept_by : (n : ℕ) (m : Mark) (rest : List Mark) (b : Bool) → IsSiteMark n m → AreSiteMarks n rest → AreSiteMarks n (cond b (m ∷ rest) rest)
kept_by n m rest true h s = (h, s)
kept_by n m rest false h s = s

pub site_without : (n : ℕ) (name : List ℕ) (marks : List Mark) → AreSiteMarks n marks → AreSiteMarks n (without_mark name marks)
site_without n name [] s = tt
site_without n name (m ∷ marks) s = kept_by n m (without_mark name marks) (not (is_named name m)) s.0 (site_without n name marks s.1)

pub site_without_all : (n : ℕ) (names : List (List ℕ)) (marks : List Mark) → AreSiteMarks n marks → AreSiteMarks n (without_all names marks)
site_without_all n names [] s = tt
site_without_all n names (m ∷ marks) s = kept_by n m (without_all names marks) (not (is_one_of names m)) s.0 (site_without_all n names marks s.1)

site_put : (n : ℕ) (m : Mark) (marks : List Mark) → IsSiteMark n m → AreSiteMarks n marks → AreSiteMarks n (put_mark m marks)
site_put n m marks h s = each_with (IsSiteMark n) m (without_mark m.name marks) h (site_without n m.name marks s)

found_by : (n : ℕ) (m found : Mark) (o : Option Mark) (b : Bool) → IsSiteMark n m → (o ≡ Some found → IsSiteMark n found) → cond b (Some m) o ≡ Some found → IsSiteMark n found
found_by n m found o true h k e = let same : m ≡ found = cc in subst (IsSiteMark n) same h
found_by n m found o false h k e = k e

site_found : (n : ℕ) (name : List ℕ) (marks : List Mark) (found : Mark) → AreSiteMarks n marks → mark_of_name name marks ≡ Some found → IsSiteMark n found
site_found n name [] found s e = let bad : ⊥ = cc in absurd bad
site_found n name (m ∷ marks) found s e = found_by n m found (mark_of_name name marks) (is_named name m) s.0 (λ k. site_found n name marks found s.1 k) e

turned_by : (n : ℕ) (gravity : Gravity) (marks : List Mark) (o : Option Mark) → ((found : Mark) → o ≡ Some found → IsSiteMark n found) → AreSiteMarks n marks
    → AreSiteMarks n (option_map_or (λ (m : Mark). put_mark (record m { gravity = gravity }) marks) o marks)
turned_by n gravity marks None h s = s
turned_by n gravity marks (Some m) h s =
    let k = h m refl in
    site_put n (record m { gravity = gravity }) marks (record { place = k.place; name = k.name; other = k.other }) s

pub site_with_gravity : (n : ℕ) (name : List ℕ) (gravity : Gravity) (marks : List Mark) → AreSiteMarks n marks → AreSiteMarks n (marks_with_gravity name gravity marks)
site_with_gravity n name gravity marks s = turned_by n gravity marks (mark_of_name name marks) (λ found e. site_found n name marks found s e) s

-- a name that isn't refused
fine : (name : List ℕ) → ((IsName name → ⊥) → ⊥) → IsName name
fine name h = by_length (cases_lt (length name) 1) (cases_lt MOST_NAME_BYTES (length name))
  where
    by_length : (length name < 1) ⊎ (1 ≤ length name) → (MOST_NAME_BYTES < length name) ⊎ (length name ≤ MOST_NAME_BYTES) → IsName name
    by_length (inl few) b = absurd (h (λ k. omega (arith, k.0)))
    by_length (inr some) (inl many) = absurd (h (λ k. omega (arith, k.1)))
    by_length (inr some) (inr within) = (some, within)

pub site_set : (n : ℕ) (name : List ℕ) (place : ℕ) (old new : List Mark) (r : Result (Unit {0}) Fault) → OnOk r (new ≡ marks_set name place old) → OnErr r (new ≡ old) → ((r ≡ Err BadName) ↔ (IsName name → ⊥))
    → place ≤ n → is_own name ≡ false → AreSiteMarks n old → AreSiteMarks n new
site_set n name place old new (Ok x) done kept bad within other s =
    let named_so : IsName name = fine name (λ h. let e : Ok x ≡ Err BadName = bad.1 h in cc) in
    subst (AreSiteMarks n) (sym done) (site_put n (record { name = name; place = place; gravity = gravity_or_right name old }) old (record { place = within; name = named_so; other = other }) s)
site_set n name place old new (Err fault) done kept bad within other s = subst (AreSiteMarks n) (sym kept) s
