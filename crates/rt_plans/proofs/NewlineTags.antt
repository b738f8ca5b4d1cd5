-- A character that loses all its tags: the same as tags that are taken off at its place.
use Rattle.std.proofs.Common.{◌≡◌, ℕ, zero, suc, ◌+◌, ◌<◌, ◌==◌, List, [], ◌∷◌, ◌++◌, Bool, true, false, cond, not, ◌||◌, map, refl, sym, ◌∙◌, ap, arith, Some}
use Rattle.std.specs.Prelude.{slice_get}
use Rattle.std.specs.List.{AllByRecursion}
use Rattle.std.specs.Str.{bytes_eq}
use Rattle.std.proofs.lemmas.Bool.{cond-false, cond-true, or_parts, or_right}
use Rattle.std.proofs.lemmas.Bool.Decides.{nat_tests}
use Rattle.rt_stamps.specs.declared.limits.TheConstants.{MOST_SPANS}
use Rattle.rt_stamps.specs.declared.stamp.Stamp.{Stamp}
use Rattle.rt_stamps.specs.Words.{Word}
use Rattle.rt_ops.specs.Operations.{Operation}
use Rattle.rt_tags.specs.States.{Write, is_on, names_on, says_on, write_of, written}
use Rattle.rt_tags.specs.Tags.{HaveNoRepeats, is_listed}
use Rattle.rt_tags.proofs.Places.{name_itself, same_name}
use Rattle.rt_tags.proofs.Commuting.{on_is_listed, on_once}
use Rattle.rt_tags.proofs.Greatest.{newer, write_of_written}
use Rattle.rt_store.specs.Cells.{stamps_of, visible_of}
use Rattle.rt_store.specs.Shown.{TaggedCell}
use Rattle.rt_store.specs.Spans.{is_among}
use Rattle.rt_store.proofs.Distinct.{split}
use Rattle.rt_rga.specs.Histories.{IsHistory}
use Rattle.rt_plans.specs.DraftLaws.{IsDocument}
use Rattle.rt_plans.specs.DocValue.{DocValue}
use Rattle.rt_plans.specs.Removals.{cells_at}
use Rattle.rt_plans.specs.TagDrafts.{newline_drafts, tag_drafts, tags_drafts_at}
use Rattle.rt_plans.specs.TagWrites.{bared, changed_stamps, tag_write, cell_with_tag, with_tag, with_tag_at, with_tags_at}
use Rattle.rt_plans.proofs.DeletionDraftLaws.{document_named}
use Rattle.rt_plans.proofs.NewlineDrafts.{of_one}
use Rattle.rt_plans.proofs.Putting.{cells_at_changed, tagged_state}
use Rattle.rt_plans.proofs.TagNames.{AreNamed, every_filter}

-- THE CELL AT A PLACE

is_here : (p m : ℕ) → p ≡ m → (p == m) ≡ true
is_here p m h = grind (arith, nat_tests)

is_elsewhere : (p m : ℕ) → (p < m) → (p == m) ≡ false
is_elsewhere p m h = grind (arith, nat_tests)

is_past : (p m : ℕ) → (m < p) → (p == m) ≡ false
is_past p m h = grind (arith, nat_tests)

none_past : (m p : ℕ) (cells : List TaggedCell) → m < p → cells_at (λ q. q == m) p cells ≡ []
none_past m p [] h = refl
none_past m p (c ∷ cs) h =
    let here = cells_at (λ q. q == m) p cs in
    let next = cells_at (λ q. q == m) (p + 1) cs in
    split c.gone
    (λ e. cond-true c.gone here (cond (p == m) (c ∷ next) next) e ∙ none_past m p cs h)
    (λ e.
    cond-false c.gone here (cond (p == m) (c ∷ next) next) e ∙ cond-false (p == m) (c ∷ next) next (is_past p m h)
    ∙ none_past m (p + 1) cs (omega (arith, h)))

first_here : (m p : ℕ) (x cell : TaggedCell) (next : List TaggedCell) → p ≡ m → next ≡ [] → Some x ≡ Some cell → cond (p == m) (x ∷ next) next ≡ cell ∷ []
first_here m p x cell next h n e =
    let same : x ≡ cell = cc in
    cond-true (p == m) (x ∷ next) next (is_here p m h) ∙ (λ i. same i ∷ n i)

there_step : (m p k : ℕ) (c cell : TaggedCell) (rest next : List TaggedCell) → p + k ≡ m → (m < p + 1 → next ≡ []) → ((j : ℕ) → p + 1 + j ≡ m → slice_get rest j ≡ Some cell → next ≡ cell ∷ [])
    → slice_get (c ∷ rest) k ≡ Some cell → cond (p == m) (c ∷ next) next ≡ cell ∷ []
there_step m p zero c cell rest next h none more e = first_here m p c cell next (omega (arith, h)) (none (omega (arith, h))) e
there_step m p (suc j) c cell rest next h none more e = cond-false (p == m) (c ∷ next) next (is_elsewhere p m (omega (arith, h))) ∙ more j (omega (arith, h)) e

only_there : (m p k : ℕ) (cells : List TaggedCell) (cell : TaggedCell) → p + k ≡ m → slice_get (visible_of cells) k ≡ Some cell → cells_at (λ q. q == m) p cells ≡ cell ∷ []
only_there m p k [] cell h e = let bad : ⊥ = cc in absurd bad
only_there m p k (c ∷ cs) cell h e =
    let rest = visible_of cs in
    let here = cells_at (λ q. q == m) p cs in
    let next = cells_at (λ q. q == m) (p + 1) cs in
    split c.gone
    (λ f.
    let seen : visible_of (c ∷ cs) ≡ rest = ap (λ b. cond (not b) (c ∷ rest) rest) f in
    cond-true c.gone here (cond (p == m) (c ∷ next) next) f ∙ only_there m p k cs cell h (ap (λ l. slice_get l k) (sym seen) ∙ e))
    (λ f.
    let seen : visible_of (c ∷ cs) ≡ c ∷ rest = ap (λ b. cond (not b) (c ∷ rest) rest) f in
    cond-false c.gone here (cond (p == m) (c ∷ next) next) f
    ∙ there_step m p k c cell rest next h (λ l. none_past m (p + 1) cs l) (λ j n s. only_there m (p + 1) j cs cell n s) (ap (λ l. slice_get l k) (sym seen) ∙ e))

-- ONE TAG

changed_one : (name : Word) (cell : TaggedCell) → is_on name cell.state ≡ true → changed_stamps name false (cell ∷ []) ≡ cell.stamp ∷ []
changed_one name cell e = ap stamps_of (cond-true (is_on name cell.state) (cell ∷ []) [] e)

stays_on : (q : Word) (w : Write) (state : List Write) → bytes_eq q w.name ≡ false → is_on q state ≡ true → is_on q (written w state) ≡ true
stays_on q w state e h = ap says_on (write_of_written q w state ∙ cond-false (bytes_eq q w.name) (Some (newer (write_of w.name state) w)) (write_of q state) e) ∙ h

still_on : (site count : ℕ) (name : Word) (on : Bool) (stamps : List Stamp) (q : Word) (cell : TaggedCell) → bytes_eq q name ≡ false → is_on q cell.state ≡ true → is_on q (cell_with_tag site count name on stamps cell).state ≡ true
still_on site count name on stamps q cell e h = by (is_among stamps cell.stamp)
  where
    by : (b : Bool) → is_on q (cond b (record cell { state = written (tag_write site count name on stamps cell.stamp) cell.state }) cell).state ≡ true
    by true = stays_on q (tag_write site count name on stamps cell.stamp) cell.state e h
    by false = h

turned : (p q : Word) → bytes_eq p q ≡ bytes_eq q p
turned p q = split (bytes_eq p q)
    (λ e. e ∙ sym (ap (λ x. bytes_eq x p) (sym (same_name p q e)) ∙ name_itself p))
    (λ e. split (bytes_eq q p)
    (λ f. absurd (let both : bytes_eq p q ≡ true = ap (λ x. bytes_eq p x) (same_name q p f) ∙ name_itself p in cc (e, both)))
    (λ f. e ∙ sym f))

all_still_on : (site count : ℕ) (name : Word) (on : Bool) (stamps : List Stamp) (cell : TaggedCell) (names : List Word) → is_listed name names ≡ false
    → AllByRecursion (λ q. is_on q cell.state ≡ true) names → AllByRecursion (λ q. is_on q (cell_with_tag site count name on stamps cell).state ≡ true) names
all_still_on site count name on stamps cell [] n h = tt
all_still_on site count name on stamps cell (q ∷ names) n h =
    let p = or_parts (bytes_eq name q) (is_listed name names) n in
    (still_on site count name on stamps q cell (sym (turned name q) ∙ p.0) h.0, all_still_on site count name on stamps cell names p.1 h.1)

-- ALL TAGS

one_each : (m : ℕ) (names : List Word) (document : DocValue) (cell : TaggedCell) → cells_at (λ p. p == m) 0 document.cells ≡ cell ∷ [] → AllByRecursion (λ q. is_on q cell.state ≡ true) names → HaveNoRepeats names
    → (tags_drafts_at MOST_SPANS document (λ p. p == m) false names ≡ newline_drafts cell.stamp names) × (with_tags_at document (λ p. p == m) false names ≡ bared document cell.stamp names)
one_each m [] document cell h on once = (refl, refl)
one_each m (name ∷ names) document cell h on once =
    let r : ℕ → Bool = λ p. p == m in
    let stamps = changed_stamps name false (cells_at r 0 document.cells) in
    let named : stamps ≡ cell.stamp ∷ [] = ap (changed_stamps name false) h ∙ changed_one name cell on.0 in
    let g = cell_with_tag document.site document.count name false stamps in
    let change = tagged_state document.site document.count name false stamps in
    let after : cells_at r 0 (with_tag_at document r false name).cells ≡ g cell ∷ [] = cells_at_changed g change r 0 document.cells ∙ ap (map g) h in
    let same : (g cell).stamp ≡ cell.stamp = ap (λ (c : TaggedCell). c.stamp) (change cell) in
    let rest = one_each m names (with_tag_at document r false name) (g cell) after (all_still_on document.site document.count name false stamps cell names once.0 on.1) once.1 in
    let drafts : tags_drafts_at MOST_SPANS (with_tag_at document r false name) r false names ≡ newline_drafts cell.stamp names = rest.0 ∙ ap (λ s. newline_drafts s names) same in (
      λ i. tag_drafts MOST_SPANS false name (named i) ++ drafts i,
      rest.1 ∙ (λ i. bared (with_tag document name false (named i)) (same i) names),
    )

-- what is listed is on
listed_on : (state : List Write) (names : List Word) → ((q : Word) → is_listed q names ≡ true → is_on q state ≡ true) → AllByRecursion (λ q. is_on q state ≡ true) names
listed_on state [] f = tt
listed_on state (name ∷ names) f =
    (f name (ap (λ b. b || is_listed name names) (name_itself name)), listed_on state names (λ q k. f q (or_right (bytes_eq q name) _ k)))

cell_named : (site : ℕ) (log : List Operation) (document : DocValue) (place : ℕ) (cell : TaggedCell) → IsHistory log → IsDocument site log document → slice_get (visible_of document.cells) place ≡ Some cell → AreNamed cell.state
cell_named site log document place cell h doc e =
    let P = λ (c : TaggedCell). AreNamed c.state in
    of_one P (visible_of document.cells) place cell (every_filter P (λ (c : TaggedCell). not c.gone) document.cells (document_named site log document h doc)) e

both : (site : ℕ) (log : List Operation) (document : DocValue) (place : ℕ) (cell : TaggedCell) → IsHistory log → IsDocument site log document → slice_get (visible_of document.cells) place ≡ Some cell
    → (tags_drafts_at MOST_SPANS document (λ p. p == place) false (names_on cell.state) ≡ newline_drafts cell.stamp (names_on cell.state))
    × (with_tags_at document (λ p. p == place) false (names_on cell.state) ≡ bared document cell.stamp (names_on cell.state))
both site log document place cell h doc e =
    let by_name = (cell_named site log document place cell h doc e).by_name in
    one_each place (names_on cell.state) document cell (only_there place 0 place document.cells cell (omega arith) e)
    (listed_on cell.state (names_on cell.state) (λ q k. on_is_listed q cell.state by_name ∙ k)) (on_once cell.state by_name)

pub newline_one_each : (site : ℕ) (log : List Operation) (document : DocValue) (place : ℕ) (cell : TaggedCell) → IsHistory log → IsDocument site log document → slice_get (visible_of document.cells) place ≡ Some cell
    → tags_drafts_at MOST_SPANS document (λ p. p == place) false (names_on cell.state) ≡ newline_drafts cell.stamp (names_on cell.state)
newline_one_each site log document place cell h doc e = (both site log document place cell h doc e).0

pub bared_as_tags : (site : ℕ) (log : List Operation) (document : DocValue) (place : ℕ) (cell : TaggedCell) → IsHistory log → IsDocument site log document → slice_get (visible_of document.cells) place ≡ Some cell
    → with_tags_at document (λ p. p == place) false (names_on cell.state) ≡ bared document cell.stamp (names_on cell.state)
bared_as_tags site log document place cell h doc e = (both site log document place cell h doc e).1
