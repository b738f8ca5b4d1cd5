-- Tags written at places: as far as the text goes, and everywhere.
use Rattle.std.proofs.Common.{◌≡◌, ℕ, inl, inr, List, [], ◌∷◌, Bool, true, false, All, length, map, filter, get_or, refl, sym, ◌∙◌, ap, subst, add-zero}
use Rattle.std.proofs.lemmas.Bool.{both_ways, cond-false}
use Rattle.std.proofs.lemmas.List.{length-map}
use Rattle.std.proofs.lemmas.List.Elements.{All-head, All-tail}
use Rattle.rt_stamps.specs.Words.{Word}
use Rattle.rt_store.specs.Cells.{visible_of, text_of}
use Rattle.rt_tags.specs.States.{is_on}
use Rattle.rt_tags.specs.Tags.{is_listed}
use Rattle.rt_tags.proofs.Places.{split}
use Rattle.rt_plans.specs.TagWrites.{listed_if, is_changed, changed_stamps, cell_with_tag, with_tag, with_tag_at, with_tags_at}
use Rattle.rt_plans.specs.DocValue.{DocValue}
use Rattle.rt_store.specs.Shown.{TaggedCell}
use Rattle.rt_plans.specs.Listed.{AreListed}
use Rattle.rt_plans.specs.Removals.{cells_at}
use Rattle.rt_plans.proofs.ListedWrites.{everywhere, every_cell, visible_after}
use Rattle.rt_plans.proofs.Putting.{tagged_state}
use Rattle.rt_plans.proofs.StateChanges.{AreAlike, cells_alike, text_changed, visible_changed}
use Rattle.rt_plans.proofs.WriterLaws.{tagged_on}

-- AS FAR AS THE TEXT GOES

pub tag_alike : (doc : DocValue) (r s : ℕ → Bool) (on : Bool) (name : Word) → AreAlike r s 0 (length (visible_of doc.cells)) → with_tag_at doc r on name ≡ with_tag_at doc s on name
tag_alike doc r s on name h = ap (λ l. with_tag doc name on (changed_stamps name on l)) (cells_alike r s 0 doc.cells h)

-- as many characters are visible
as_many : (doc : DocValue) (s : ℕ → Bool) (on : Bool) (name : Word) → length (visible_of (with_tag_at doc s on name).cells) ≡ length (visible_of doc.cells)
as_many doc s on name =
    let stamps = changed_stamps name on (cells_at s 0 doc.cells) in
    let g : TaggedCell → TaggedCell = cell_with_tag doc.site doc.count name on stamps in
    ap length (visible_changed g (tagged_state doc.site doc.count name on stamps) doc.cells) ∙ length-map (visible_of doc.cells) g

pub tags_alike_at : (names : List Word) (doc : DocValue) (r s : ℕ → Bool) (on : Bool) → AreAlike r s 0 (length (visible_of doc.cells)) → with_tags_at doc r on names ≡ with_tags_at doc s on names
tags_alike_at [] doc r s on h = refl
tags_alike_at (name ∷ names) doc r s on h =
    ap (λ (f : DocValue). with_tags_at f r on names) (tag_alike doc r s on name h) ∙ tags_alike_at names (with_tag_at doc s on name) r s on (subst (AreAlike r s 0) (sym (as_many doc s on name)) h)

-- the text stays
pub tag_text : (doc : DocValue) (s : ℕ → Bool) (on : Bool) (name : Word) → text_of (with_tag_at doc s on name).cells ≡ text_of doc.cells
tag_text doc s on name =
    let stamps = changed_stamps name on (cells_at s 0 doc.cells) in
    text_changed (cell_with_tag doc.site doc.count name on stamps) (tagged_state doc.site doc.count name on stamps) doc.cells

pub listed_text : (on : Bool) (name : Word) (doc : DocValue) → text_of (listed_if on name doc).cells ≡ text_of doc.cells
listed_text true name doc = refl
listed_text false name doc = refl

pub listed_count : (on : Bool) (name : Word) (doc : DocValue) → (listed_if on name doc).count ≡ doc.count
listed_count true name doc = refl
listed_count false name doc = refl

-- TAGS THAT ARE DELETED

pub none_changed : (name : Word) (cells : List TaggedCell) → All (λ c. is_on name c.state ≡ false) cells → filter (is_changed name false) cells ≡ []
none_changed name [] h = refl
none_changed name (c ∷ cs) h =
    let P : TaggedCell → Type 0 = λ c. is_on name c.state ≡ false in
    cond-false (is_on name c.state) (c ∷ filter (is_changed name false) cs) (filter (is_changed name false) cs) (All-head P c cs h) ∙ none_changed name cs (All-tail P c cs h)

map_same : (cells : List TaggedCell) → map (λ (c : TaggedCell). c) cells ≡ cells
map_same [] = refl
map_same (c ∷ cs) = ap (λ l. c ∷ l) (map_same cs)

-- a tag that no character has
pub absent_tag : (doc : DocValue) (name : Word) → All (λ c. is_on name c.state ≡ false) (visible_of doc.cells) → with_tag_at doc everywhere false name ≡ doc
absent_tag doc name h =
    let none : changed_stamps name false (cells_at everywhere 0 doc.cells) ≡ [] = ap (changed_stamps name false) (every_cell 0 doc.cells) ∙ ap (map (λ (c : TaggedCell). c.stamp)) (none_changed name (visible_of doc.cells) h) in
    ap (with_tag doc name false) none ∙ (λ i. record doc { cells = map_same doc.cells i; count = add-zero doc.count i })

-- where no character has a tag, none has it after another was taken off
pub still_absent : (doc : DocValue) (name q : Word) → All (λ c. is_on q c.state ≡ false) (visible_of doc.cells) → All (λ c. is_on q c.state ≡ false) (visible_of (with_tag_at doc everywhere false name).cells)
still_absent doc name q h =
    let stamps = changed_stamps name false (cells_at everywhere 0 doc.cells) in
    visible_after (λ c. is_on q c.state ≡ false) (λ c. is_on q c.state ≡ false) doc everywhere false name
    (λ cell k. split (is_on q (cell_with_tag doc.site doc.count name false stamps cell).state)
    (λ t. elim (tagged_on doc.site doc.count name false stamps q cell t) [
      | inl before ↦ absurd (both_ways (is_on q cell.state) k before)
      | inr put ↦ absurd (both_ways false refl put.1)
    ])
    (λ f. f)) h

-- no visible character has a tag that isn't among some
abbrev pub AreAmong : List Word → List TaggedCell → Type 0
AreAmong tags cells = (name : Word) → is_listed name tags ≡ false → All (λ c. is_on name c.state ≡ false) (visible_of cells)

pub among_listed : (tags : List Word) (cells : List TaggedCell) → AreListed tags cells → AreAmong tags cells
among_listed tags cells listed name h =
    λ k d lt. split (is_on name (get_or (visible_of cells) k d).state)
    (λ t. absurd (both_ways (is_listed name tags) h (listed.each k d lt name t)))
    (λ f. f)
