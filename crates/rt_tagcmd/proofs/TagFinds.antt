-- The ranges of a tag stand in the text, and a tag that isn't listed has none.
use Rattle.std.proofs.Common.{◌≡◌, ℕ, ◌+◌, ◌-◌, ◌<◌, ◌≤◌, List, [], ◌∷◌, length, drop, get_or, reverse, All, true, false, refl, sym, ◌∙◌, Bool, subst, arith, Some}
use Rattle.std.specs.Prelude.{find, option_to_list}
use Rattle.std.specs.Str.{bytes_eq}
use Rattle.std.proofs.lemmas.Bool.{cond-true, cond-false}
use Rattle.std.proofs.lemmas.List.{length-map, reverse-append}
use Rattle.std.proofs.lemmas.List.Elements.{All-append, All-cons, All-drop, All-head, All-nil, All-tail, All-take}
use Rattle.rt_marks.proofs.InOrder.{split}
use Rattle.rt_marks.proofs.Names.{clash, same_name}
use Rattle.rt_stamps.specs.Words.{Word}
use Rattle.rt_tags.specs.States.{is_on}
use Rattle.rt_tags.specs.Tags.{is_listed, sel}
use Rattle.rt_plans.specs.declared.range.Range.{Range}
use Rattle.rt_store.specs.Shown.{TaggedCell}
use Rattle.rt_plans.specs.Listed.{AreListed}
use Rattle.rt_store.specs.Spans.{is_among}
use Rattle.rt_store.specs.Cells.{visible_of}
use Rattle.rt_text.specs.Widgets.{ViewValue, shows_tag, length_shown, cells_shown, stretch_by}
use Rattle.rt_lines.specs.Stretches.{part}
use Rattle.rt_lines.specs.declared.stretch.Stretch.{Stretch}
use Rattle.rt_tagcmd.specs.TagCommands.{tagged_ranges}
use Rattle.rt_tagcmd.specs.TagRanges.{IsMaximal, begins_between, ranges_from, passing_ranges, next_range, previous_range}
use Rattle.rt_tagcmd.proofs.TagRangeLaws.{each_maximal}

-- WITHIN THE TEXT

text_length : (view : ViewValue) → length_shown view ≡ length (cells_shown view)
text_length view = length-map (cells_shown view) (λ cell. cell.ch)

abbrev pub LiesWithin : ℕ → Range → Type 0
LiesWithin n range = (range.from ≤ n) × (range.to ≤ n)

maximal_within : {A : Type 0} (test : A → Bool) (cs : List A) (r : Range) → IsMaximal test cs r → LiesWithin (length cs) r
maximal_within test cs r h =
    let full : r.from < r.to = h.not_empty in
    let within : r.to ≤ length cs = h.within in
    (omega (arith, full, within), within)

all_within : {A : Type 0} (test : A → Bool) (cs : List A) → All (LiesWithin (length cs)) (passing_ranges test cs)
all_within test cs = λ k d l. maximal_within test cs _ (each_maximal test cs k d l)

pub tagged_within : (view : ViewValue) (name : Word) → All (LiesWithin (length_shown view)) (tagged_ranges view name)
tagged_within view name = subst (λ n. All (LiesWithin n) (tagged_ranges view name)) (sym (text_length view)) (all_within (shows_tag view.own name) (cells_shown view))

all_found : {X : Type 0} (P : X → Type 0) (test : X → Bool) (xs : List X) → All P xs → All P (option_to_list (find test xs))
all_found P test [] h = All-nil P
all_found P test (x ∷ xs) h =
    let more = all_found P test xs (All-tail P x xs h) in
    split (test x)
    (λ t. subst (λ o. All P (option_to_list o)) (sym (cond-true (test x) (Some x) (find test xs) t)) (All-cons P x [] (All-head P x xs h) (All-nil P)))
    (λ f. subst (λ o. All P (option_to_list o)) (sym (cond-false (test x) (Some x) (find test xs) f)) more)

all_reversed : {X : Type 0} (P : X → Type 0) (xs : List X) → All P xs → All P (reverse xs)
all_reversed P [] h = h
all_reversed P (x ∷ xs) h =
    subst (All P) (sym (reverse-append (x ∷ []) xs)) (All-append P (reverse xs) (x ∷ []) (all_reversed P xs (All-tail P x xs h)) (All-cons P x [] (All-head P x xs h) (All-nil P)))

pub next_within : (view : ViewValue) (name : Word) (from to : ℕ) → All (LiesWithin (length_shown view)) (option_to_list (next_range from to (tagged_ranges view name)))
next_within view name from to = all_found (LiesWithin (length_shown view)) (begins_between from to) (tagged_ranges view name) (tagged_within view name)

pub previous_within : (view : ViewValue) (name : Word) (to from : ℕ) → All (LiesWithin (length_shown view)) (option_to_list (previous_range to from (tagged_ranges view name)))
previous_within view name to from =
    let within = LiesWithin (length_shown view) in
    all_found within (begins_between from to) (reverse (tagged_ranges view name)) (all_reversed within (tagged_ranges view name) (tagged_within view name))

-- A TAG THAT ISN'T LISTED

none_passes : {A : Type 0} (test : A → Bool) (place : ℕ) (cs : List A) → All (λ c. test c ≡ false) cs → ranges_from test place cs ≡ []
none_passes test place [] h = refl
none_passes test place (c ∷ cs) h =
    cond-false (test c) _ (ranges_from test (place + 1) cs) (All-head (λ x. test x ≡ false) c cs h)
    ∙ none_passes test (place + 1) cs (All-tail (λ x. test x ≡ false) c cs h)

not_sel : (name : Word) (tags : List Word) → is_listed sel tags ≡ true → is_listed name tags ≡ false → bytes_eq name sel ≡ false
not_sel name tags s u =
    split (bytes_eq name sel)
    (λ t. absurd (clash _ (subst (λ v. is_listed v tags ≡ true) (sym (same_name name sel t)) s) u))
    (λ f. f)

-- each shared tag of a character is listed
abbrev HasListed : List Word → TaggedCell → Type 0
HasListed tags cell = (name : Word) → is_on name cell.state ≡ true → is_listed name tags ≡ true

-- what is so of all characters is so of those of a stretch
part_all : {A : Type 0} (P : A → Type 0) (stretch : Stretch) (xs : List A) → All P xs → All P (part stretch xs)
part_all P stretch xs h = All-take P (stretch.end - stretch.begin) (drop stretch.begin xs) (All-drop P stretch.begin xs h)

not_on : (name : Word) (tags : List Word) (cell : TaggedCell) → is_listed name tags ≡ false → HasListed tags cell → is_on name cell.state ≡ false
not_on name tags cell u h =
    split (is_on name cell.state)
    (λ t. absurd (clash _ (h name t) u))
    (λ f. f)

pub unlisted : (view : ViewValue) (name : Word) → AreListed view.doc.tags view.doc.cells → is_listed name view.doc.tags ≡ false → tagged_ranges view name ≡ []
unlisted view name h u =
    let tags = view.doc.tags in
    let shown : All (HasListed tags) (cells_shown view) = part_all (HasListed tags) (stretch_by view) (visible_of view.doc.cells) h.each in
    none_passes (shows_tag view.own name) 0 (cells_shown view)
    (λ k d l. let cell = get_or (cells_shown view) k d in
    cond-false (bytes_eq name sel) (is_among view.own.sel cell.stamp) (is_on name cell.state) (not_sel name tags h.sel u) ∙ not_on name tags cell u (shown k d l))
