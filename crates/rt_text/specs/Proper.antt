-- What is so of every widget, as index expressions see it: proofs, nothing to believe.
use Rattle.std.proofs.Common.{◌≡◌, ◌∙◌, ℕ, zero, suc, ◌+◌, ◌-◌, ◌<◌, ◌≤◌, List, [], ◌∷◌, ◌++◌, Bool, true, false, cond, not, Option, Some, None, length, map, take, drop, refl, sym, ap, arith}
use Rattle.std.specs.Prelude.{codes, IsSome, option_map, option_and_then, nat_lt, slice_get}
use Rattle.std.specs.List.{position_or_len}
use Rattle.std.specs.Str.{bytes_eq}
use Rattle.std.proofs.lemmas.List.{length-drop, length-map, length-take}
use Rattle.rt_index.specs.Widget.{TagEnds, IsProper, IsName}
use Rattle.rt_marks.specs.Marks.{Mark, is_named, mark_of_name}
use Rattle.rt_stamps.specs.declared.limits.TheConstants.{MOST_CELLS}
use Rattle.rt_stamps.specs.Words.{Word}
use Rattle.rt_store.specs.Cells.{text_of, visible_of}
use Rattle.rt_store.specs.Tagged.{last_with, last_place, next_place}
use Rattle.rt_tags.specs.Tags.{sel, is_listed}
use Rattle.rt_store.specs.Shown.{TaggedCell}
use Rattle.rt_plans.specs.Listed.{AreListed, listed_name, named_as}
use Rattle.rt_stamps.specs.Places.{EndsWithNewline}
use Rattle.rt_text.specs.declared.own_mark.OwnMark.TheVariants.{Insert, Current}
use Rattle.rt_text.specs.Lines.{AreLines}
use Rattle.rt_text.specs.Grounds.{widget_over}
use Rattle.rt_text.specs.Widgets.{WidgetValue, own_or, widget_seen, mark_seen, ends_of, shows_tag}
use Rattle.rt_lines.specs.declared.stretch.Stretch.{Stretch}
use Rattle.rt_lines.specs.Stretches.{part, seen_cursor, seen_place}

-- MARKS

abbrev place_if : Option Mark → Option ℕ
place_if o = option_map (λ (m : Mark). m.place) o

abbrev mark_by : Bool → Bool → WidgetValue → Option Mark → Option Mark
mark_by insert current own site = own_or (cond insert (Some Insert) (cond current (Some Current) None)) own site

place_within : (n : ℕ) (a b : Bool) (own : WidgetValue) (site : Option Mark) → own.insert.place ≤ n → own.current.place ≤ n
    → ((place : ℕ) → place_if site ≡ Some place → place ≤ n)
    → (place : ℕ) → place_if (mark_by a b own site) ≡ Some place → place ≤ n
place_within n true b own site h k s place e = let q : own.insert.place ≡ place = cc in omega arith
place_within n false true own site h k s place e = let q : own.current.place ≡ place = cc in omega arith
place_within n false false own site h k s place e = s place e

some_mark : (o : Option Mark) → IsSome (place_if o) → IsSome o
some_mark None h = h
some_mark (Some m) h = h

mark_named : (name : List ℕ) (a b : Bool) (own : WidgetValue) (site : Option Mark) → bytes_eq name (codes "insert") ≡ a
    → bytes_eq name (codes "current") ≡ b → (IsSome site → IsName name)
    → IsSome (place_if (mark_by a b own site)) → IsName name
mark_named name true b own site e f s h = named_as name (codes "insert") (omega arith, omega arith) e
mark_named name false true own site e f s h = named_as name (codes "current") (omega arith, omega arith) f
mark_named name false false own site e f s h = s (some_mark site h)

-- TAGS

-- a place that is found first is within
first_few : {A : Type 0} (test : A → Bool) (xs : List A) → position_or_len test xs ≤ length xs
first_few test [] = omega arith
first_few test (x ∷ xs) = by (not (test x)) (position_or_len test xs) (length xs) (first_few test xs)
  where
    by : (b : Bool) (n m : ℕ) → n ≤ m → cond b (1 + n) 0 ≤ suc m
    by true n m h = omega arith
    by false n m h = omega arith

next_within : {A : Type 0} (test : A → Bool) (xs : List A) (place : ℕ) → next_place test xs 0 ≡ Some place → place ≤ length xs
next_within test xs place e =
    omega (
      arith,
      by (nat_lt (position_or_len test (drop 0 xs)) (length (drop 0 xs))) (position_or_len test (drop 0 xs)) e,
      first_few test (drop 0 xs),
      length-drop 0 xs,
    )
  where
    by : (b : Bool) (n : ℕ) → option_map (λ k. 0 + k) (cond b (Some n) None) ≡ Some place → place ≡ n
    by true n h = let q : 0 + n ≡ place = cc in omega arith
    by false n h = let bad : ⊥ = cc in absurd bad

last_step : (b : Bool) (o : Option ℕ) (n : ℕ) → ((p : ℕ) → o ≡ Some p → p < n) → (place : ℕ) → last_with b o ≡ Some place → place < suc n
last_step b (Some p) n h place e = let q : p + 1 ≡ place = cc in omega (arith, h p refl)
last_step true None n h place e = let q : 0 ≡ place = cc in omega arith
last_step false None n h place e = let bad : ⊥ = cc in absurd bad

pub last_within : {A : Type 0} (test : A → Bool) (xs : List A) (place : ℕ) → last_place test xs ≡ Some place → place < length xs
last_within test [] place e = let bad : ⊥ = cc in absurd bad
last_within test (x ∷ xs) place e = last_step (test x) (last_place test xs) (length xs) (λ p h. last_within test xs p h) place e

abbrev pub ends_by : Option ℕ → Option ℕ → Option TagEnds
ends_by next last = option_and_then (λ p. option_map (λ q. record { first = p; last = q + 1 }) last) next

abbrev pub tag_by : Bool → Option TagEnds → Option (Option TagEnds)
tag_by listed ends = cond listed (Some ends) None

abbrev pub ends_in : Option (Option TagEnds) → Option TagEnds
ends_in o = option_and_then (λ (ends : Option TagEnds). ends) o

first_by : (n : ℕ) (b : Bool) (next last : Option ℕ) → ((p : ℕ) → next ≡ Some p → p ≤ n) → (place : ℕ)
    → option_map (λ (ends : TagEnds). ends.first) (ends_in (tag_by b (ends_by next last))) ≡ Some place → place ≤ n
first_by n true (Some p) (Some q) h place e = let same : p ≡ place = cc in omega (arith, h p refl)
first_by n true (Some p) None h place e = let bad : ⊥ = cc in absurd bad
first_by n true None last h place e = let bad : ⊥ = cc in absurd bad
first_by n false next last h place e = let bad : ⊥ = cc in absurd bad

last_by : (n : ℕ) (b : Bool) (next last : Option ℕ) → ((p : ℕ) → last ≡ Some p → p < n) → (place : ℕ)
    → option_map (λ (ends : TagEnds). ends.last) (ends_in (tag_by b (ends_by next last))) ≡ Some place → place ≤ n
last_by n true (Some p) (Some q) h place e = let same : q + 1 ≡ place = cc in omega (arith, h q refl)
last_by n true (Some p) None h place e = let bad : ⊥ = cc in absurd bad
last_by n true None last h place e = let bad : ⊥ = cc in absurd bad
last_by n false next last h place e = let bad : ⊥ = cc in absurd bad

is_tag : (b : Bool) (ends : Option TagEnds) → IsSome (tag_by b ends) → b ≡ true
is_tag true ends h = refl
is_tag false ends h = h

some_tag : (b : Bool) (ends : Option TagEnds) → b ≡ true → IsSome (tag_by b ends)
some_tag true ends h = refl
some_tag false ends h = h

-- MARKS OF A STRETCH

seen_within : (stretch : Stretch) (place : ℕ) → stretch.begin ≤ stretch.end → seen_place stretch place ≤ stretch.end - stretch.begin
seen_within stretch place h = omega arith

cursor_within : (stretch : Stretch) (place : ℕ) → seen_cursor stretch place ≤ stretch.end - stretch.begin
cursor_within stretch place = omega arith

one_seen : (n : ℕ) (b : Bool) (m : Mark) (o : Option Mark) → m.place ≤ n → ((place : ℕ) → place_if o ≡ Some place → place ≤ n)
    → (place : ℕ) → place_if (cond b (Some m) o) ≡ Some place → place ≤ n
one_seen n true m o h k place e = let q : m.place ≡ place = cc in omega arith
one_seen n false m o h k place e = k place e

-- each is seen in the stretch
all_seen : (stretch : Stretch) (name : List ℕ) (marks : List Mark) → stretch.begin ≤ stretch.end → (place : ℕ)
    → place_if (mark_of_name name (map (mark_seen stretch) marks)) ≡ Some place → place ≤ stretch.end - stretch.begin
all_seen stretch name [] h place e = let bad : ⊥ = cc in absurd bad
all_seen stretch name (m ∷ marks) h place e =
    one_seen (stretch.end - stretch.begin) (is_named name m) (mark_seen stretch m) (mark_of_name name (map (mark_seen stretch) marks))
    (seen_within stretch m.place h) (all_seen stretch name marks h) place e

one_there : (b : Bool) (m n : Mark) (o p : Option Mark) → (IsSome o → IsSome p) → IsSome (cond b (Some m) o) → IsSome (cond b (Some n) p)
one_there true m n o p h k = k
one_there false m n o p h k = h k

-- and has the name that it has
names_seen : (stretch : Stretch) (name : List ℕ) (marks : List Mark) → IsSome (mark_of_name name (map (mark_seen stretch) marks)) → IsSome (mark_of_name name marks)
names_seen stretch name [] h = h
names_seen stretch name (m ∷ marks) h =
    one_there (is_named name m) (mark_seen stretch m) m (mark_of_name name (map (mark_seen stretch) marks)) (mark_of_name name marks) (names_seen stretch name marks) h

-- A TEXT'S PART

get_drop : (xs : List ℕ) (b n : ℕ) → slice_get (drop b xs) n ≡ slice_get xs (b + n)
get_drop xs zero n = let e : 0 + n ≡ n = omega arith in ap (slice_get xs) (sym e)
get_drop [] (suc b) n = refl
get_drop (x ∷ xs) (suc b) n = let e : suc b + n ≡ suc (b + n) = omega arith in get_drop xs b n ∙ ap (slice_get (x ∷ xs)) (sym e)

take_last : (xs : List ℕ) (n x : ℕ) → slice_get xs n ≡ Some x → take (suc n) xs ≡ take n xs ++ x ∷ []
take_last [] n x h = let bad : ⊥ = cc in absurd bad
take_last (y ∷ ys) zero x h = let e : y ≡ x = cc in ap (λ z. z ∷ []) e
take_last (y ∷ ys) (suc n) x h = ap (λ l. y ∷ l) (take_last ys n x h)

-- lines end with a newline
lines_end : (t : List ℕ) (stretch : Stretch) → AreLines t stretch → EndsWithNewline (part stretch t)
lines_end t stretch lines =
    let b = stretch.begin in
    let n = stretch.end - b - 1 in
    let at : b + n ≡ stretch.end - 1 = omega (arith, lines.some) in
    let size : stretch.end - b ≡ suc n = omega (arith, lines.some) in
    (take n (drop b t), ap (λ k. take k (drop b t)) size ∙ take_last (drop b t) n 10 (get_drop t b n ∙ ap (slice_get t) at ∙ lines.newline))

-- whole lines, marks seen in them, and listed tags
pub proper_over : (stretch : Stretch) (cells : List TaggedCell) (marks : List Mark) (tags : List Word) (own : WidgetValue) → AreLines (text_of cells) stretch
    → length (text_of cells) ≤ MOST_CELLS → ((name : List ℕ) → IsSome (mark_of_name name marks) → IsName name) → AreListed tags cells
    → IsProper (widget_over stretch cells marks tags own)
proper_over stretch cells marks tags own lines few names listed =
    let size = stretch.end - stretch.begin in
    let n = length (part stretch (text_of cells)) in
    let chars : List TaggedCell = part stretch (visible_of cells) in
    let whole : length (text_of cells) ≡ length (visible_of cells) = length-map (visible_of cells) (λ (cell : TaggedCell). cell.ch) in
    let long : n ≡ size =
    omega (arith, lines.some, lines.within, length-take size (drop stretch.begin (text_of cells)), length-drop stretch.begin (text_of cells)) in
    let same : length chars ≡ size =
    omega (
      arith,
      whole,
      lines.some,
      lines.within,
      length-take size (drop stretch.begin (visible_of cells)),
      length-drop stretch.begin (visible_of cells),
    ) in
    let seen : WidgetValue = widget_seen stretch own in
    let found : List ℕ → Option Mark = λ name. mark_of_name name (map (mark_seen stretch) marks) in
    let order : stretch.begin ≤ stretch.end = omega (arith, lines.some) in
    record {
      newline = lines_end (text_of cells) stretch lines;
      bounded = omega (arith, long, lines.within, few);
      marks_within = λ name place e. omega (
        arith,
        long,
        place_within size (bytes_eq name (codes "insert")) (bytes_eq name (codes "current")) seen (found name)
            (cursor_within stretch own.insert.place) (seen_within stretch own.current.place order) (all_seen stretch name marks order) place e,
      );
      first_within = λ name place e. first_by n (is_listed name tags) (next_place (shows_tag own name) chars 0) (last_place (shows_tag own name) chars)
          (λ p q. omega (arith, long, same, next_within (shows_tag own name) chars p q)) place e;
      last_within = λ name place e. last_by n (is_listed name tags) (next_place (shows_tag own name) chars 0) (last_place (shows_tag own name) chars)
          (λ p q. omega (arith, long, same, last_within (shows_tag own name) chars p q)) place e;
      mark_names =
          λ name h. mark_named name (bytes_eq name (codes "insert")) (bytes_eq name (codes "current")) seen (found name) refl refl
          (λ s. names name (names_seen stretch name marks s)) h;
      tag_names = λ name h. listed_name name tags listed.names (is_tag (is_listed name tags) (ends_of (shows_tag own name) chars) h);
      insert = refl;
      current = refl;
      sel = some_tag (is_listed sel tags) (ends_of (shows_tag own sel) chars) listed.sel;
    }
