-- Tags on the characters that a deletion leaves: they stay listed.
use Rattle.std.proofs.Common.{◌≡◌, ℕ, ◌+◌, List, [], ◌∷◌, Bool, true, false, cond, not, map, All, refl, sym, ◌∙◌, ap, subst, Option, Some, None, get_or}
use Rattle.std.specs.Str.{bytes_eq}
use Rattle.std.proofs.lemmas.List.Elements.{All-filter, All-map, All-cons, All-nil, All-head, All-tail}
use Rattle.std.proofs.lemmas.Option.{get_or_from_slice_get, slice_get_within}
use Rattle.rt_stamps.specs.declared.stamp.Stamp.{Stamp}
use Rattle.rt_stamps.specs.Stamps.{is_before}
use Rattle.rt_stamps.specs.Words.{Word}
use Rattle.rt_store.specs.Cells.{visible_of}
use Rattle.rt_store.specs.Shown.{TaggedCell}
use Rattle.rt_store.specs.Spans.{is_among}
use Rattle.rt_store.proofs.Distinct.{split}
use Rattle.rt_tags.specs.States.{Write, is_on, names_on, write_of, written, says_on}
use Rattle.rt_tags.specs.Tags.{is_listed, sel}
use Rattle.rt_tags.proofs.Greatest.{newer, write_of_written}
use Rattle.rt_tags.proofs.Places.{same_name}
use Rattle.rt_plans.specs.Deletions.{Loss, newline_left, without_places, without_text}
use Rattle.rt_plans.specs.DocValue.{DocValue}
use Rattle.rt_plans.specs.Listed.{AreListed, IsShared}
use Rattle.rt_plans.specs.Removals.{gone_at}
use Rattle.rt_plans.specs.TagWrites.{bared, cell_with_tag, tag_write, with_tag}
use Rattle.rt_plans.proofs.NewlineDrafts.{loss_has, newline_at}
use Rattle.rt_plans.proofs.ListedWrites.{shared_names_on, shared_tagged}

-- TAGS THAT ARE ON

off_newer : (o : Option Write) (w : Write) → w.on ≡ false → says_on (Some (newer o w)) ≡ true → says_on o ≡ true
off_newer None w e h = let bad : ⊥ = cc in absurd bad
off_newer (Some v) w e h = by (is_before v.writer w.writer) h
  where
    by : (b : Bool) → (cond b w v).on ≡ true → v.on ≡ true
    by true k = let bad : ⊥ = cc in absurd bad
    by false k = k

-- a tag that is on after another was taken off was on before
pub on_before : (name : Word) (w : Write) (state : List Write) → w.on ≡ false → is_on name (written w state) ≡ true → is_on name state ≡ true
on_before name w state e h =
    let now : says_on (cond (bytes_eq name w.name) (Some (newer (write_of w.name state) w)) (write_of name state)) ≡ true = sym (ap says_on (write_of_written name w state)) ∙ h in
    split (bytes_eq name w.name)
    (λ t. ap (λ n. is_on n state) (same_name name w.name t) ∙ off_newer (write_of w.name state) w e (sym (ap (λ b. says_on (cond b (Some (newer (write_of w.name state) w)) (write_of name state))) t) ∙ now))
    (λ f. sym (ap (λ b. says_on (cond b (Some (newer (write_of w.name state) w)) (write_of name state))) f) ∙ now)

-- each tag of a visible cell is listed
abbrev pub Listed : List Word → TaggedCell → Type 0
Listed names cell = cell.gone ≡ false → (name : Word) → is_on name cell.state ≡ true → is_listed name names ≡ true

abbrev pub ListedOn : List Word → TaggedCell → Type 0
ListedOn names cell = (name : Word) → is_on name cell.state ≡ true → is_listed name names ≡ true

from_step : (names : List Word) (cell : TaggedCell) (cells seen : List TaggedCell) (b : Bool) → cell.gone ≡ b → (All (ListedOn names) seen → All (Listed names) cells)
    → All (ListedOn names) (cond (not b) (cell ∷ seen) seen) → All (Listed names) (cell ∷ cells)
from_step names cell cells seen true g rest k = All-cons (Listed names) cell cells (λ e. let bad : ⊥ = cc in absurd bad) (rest k)
from_step names cell cells seen false g rest k =
    All-cons (Listed names) cell cells (λ e. All-head (ListedOn names) cell seen k) (rest (All-tail (ListedOn names) cell seen k))

from_visible : (names : List Word) (cells : List TaggedCell) → All (ListedOn names) (visible_of cells) → All (Listed names) cells
from_visible names [] h = All-nil (Listed names)
from_visible names (cell ∷ cells) h = from_step names cell cells (visible_of cells) cell.gone refl (λ k. from_visible names cells k) h

to_step : (names : List Word) (cell : TaggedCell) (seen : List TaggedCell) (b : Bool) → cell.gone ≡ b → Listed names cell → All (ListedOn names) seen → All (ListedOn names) (cond (not b) (cell ∷ seen) seen)
to_step names cell seen true g first rest = rest
to_step names cell seen false g first rest = All-cons (ListedOn names) cell seen (first g) rest

to_visible : (names : List Word) (cells : List TaggedCell) → All (Listed names) cells → All (ListedOn names) (visible_of cells)
to_visible names [] h = All-nil (ListedOn names)
to_visible names (cell ∷ cells) h =
    to_step names cell (visible_of cells) cell.gone refl (All-head (Listed names) cell cells h) (to_visible names cells (All-tail (Listed names) cell cells h))

-- where no more cells are visible, and no more tags on, they stay listed
pub listed_less : (names : List Word) (f : TaggedCell → TaggedCell) (cells : List TaggedCell) → ((cell : TaggedCell) → (f cell).gone ≡ false → cell.gone ≡ false)
    → ((cell : TaggedCell) (name : Word) → is_on name (f cell).state ≡ true → is_on name cell.state ≡ true) → ((cell : TaggedCell) → IsShared cell.state → IsShared (f cell).state)
    → AreListed names cells → AreListed names (map f cells)
listed_less names f cells seen less keeps listed = record {
  each = to_visible names (map f cells) (All-map (Listed names) f cells (λ k d j. λ g name on. from_visible names cells listed.each k d j (seen (get_or cells k d) g) name (less (get_or cells k d) name on)));
  sel = listed.sel;
  names = listed.names;
  shared = All-map (λ (cell : TaggedCell). IsShared cell.state) f cells (λ k d j. keeps (get_or cells k d) (listed.shared k d j));
}

gone_step : (p : TaggedCell → Type 0) (cell : TaggedCell) (here there : List TaggedCell) (b removed : Bool) → cell.gone ≡ b → (cell.gone ≡ false → p (record cell { gone = removed })) → p cell → All p here → All p there
    → All p (cond b (cell ∷ here) (record cell { gone = removed } ∷ there))
gone_step p cell here there true removed g f h k l = All-cons p cell here h k
gone_step p cell here there false removed g f h k l = All-cons p (record cell { gone = removed }) there (f g) l

-- what is so of each cell stays so, where it is of those that go
all_gone : (p : TaggedCell → Type 0) (removed : ℕ → Bool) (place : ℕ) (cells : List TaggedCell) → ((cell : TaggedCell) (b : Bool) → cell.gone ≡ false → p cell → p (record cell { gone = b })) → All p cells
    → All p (gone_at removed place cells)
all_gone p removed place [] f h = All-nil p
all_gone p removed place (cell ∷ cells) f h =
    let first = All-head p cell cells h in
    let rest = All-tail p cell cells h in
    gone_step p cell (gone_at removed place cells) (gone_at removed (place + 1) cells) cell.gone (removed place) refl (λ g. f cell (removed place) g first) first (all_gone p removed place cells f rest)
    (all_gone p removed (place + 1) cells f rest)

-- characters that are removed leave the tags on others listed
pub listed_gone : (names : List Word) (removed : ℕ → Bool) (cells : List TaggedCell) → AreListed names cells → AreListed names (gone_at removed 0 cells)
listed_gone names removed cells h = record {
  each = to_visible names (gone_at removed 0 cells) (all_gone (Listed names) removed 0 cells (λ cell b g k. λ e name on. k g name on) (from_visible names cells h.each));
  sel = h.sel;
  names = h.names;
  shared = all_gone (λ (cell : TaggedCell). IsShared cell.state) removed 0 cells (λ cell b g k. k) h.shared;
}

off_seen : (site count : ℕ) (name : Word) (stamps : List Stamp) (cell : TaggedCell) → (cell_with_tag site count name false stamps cell).gone ≡ false → cell.gone ≡ false
off_seen site count name stamps cell h = by (is_among stamps cell.stamp) h
  where
    by : (b : Bool) → (cond b (record cell { state = written (tag_write site count name false stamps cell.stamp) cell.state }) cell).gone ≡ false → cell.gone ≡ false
    by true k = k
    by false k = k

off_on : (site count : ℕ) (name : Word) (stamps : List Stamp) (cell : TaggedCell) (other : Word) → is_on other (cell_with_tag site count name false stamps cell).state ≡ true → is_on other cell.state ≡ true
off_on site count name stamps cell other h = by (is_among stamps cell.stamp) h
  where
    by : (b : Bool) → is_on other (cond b (record cell { state = written (tag_write site count name false stamps cell.stamp) cell.state }) cell).state ≡ true → is_on other cell.state ≡ true
    by true k = on_before other (tag_write site count name false stamps cell.stamp) cell.state refl k
    by false k = k

-- tags that are taken off a character leave those that are on listed
bared_listed : (listed : List Word) (doc : DocValue) (stamp : Stamp) (names : List Word) → All (λ name. bytes_eq name sel ≡ false) names → AreListed listed doc.cells → AreListed listed (bared doc stamp names).cells
bared_listed listed doc stamp [] others h = h
bared_listed listed doc stamp (name ∷ names) others h =
    let stamps = stamp ∷ [] in
    bared_listed listed (with_tag doc name false stamps) stamp names (All-tail (λ (n : Word). bytes_eq n sel ≡ false) name names others)
    (listed_less listed (cell_with_tag doc.site doc.count name false stamps) doc.cells (off_seen doc.site doc.count name stamps) (off_on doc.site doc.count name stamps)
    (shared_tagged doc.site doc.count name false stamps (All-head (λ (n : Word). bytes_eq n sel ≡ false) name names others)) h)

newline_shared : (doc : DocValue) (loss : Loss) (cell : TaggedCell) → All (λ cell. IsShared cell.state) doc.cells → newline_left doc loss ≡ Some cell → All (λ name. bytes_eq name sel ≡ false) (names_on cell.state)
newline_shared doc loss cell h e =
    let w = newline_at doc loss cell e in
    let P : TaggedCell → Type 0 = λ c. IsShared c.state in
    let all : All P (visible_of doc.cells) = All-filter (λ (c : TaggedCell). not c.gone) P doc.cells h in
    shared_names_on cell.state (subst P (get_or_from_slice_get (visible_of doc.cells) w.0 cell cell w.1) (all w.0 cell (slice_get_within (visible_of doc.cells) w.0 cell w.1)))

-- A DELETION

-- the tags that are listed stay so
pub deletion_listed : (doc : DocValue) (loss : Loss) (names : List Word) → AreListed names doc.cells → AreListed names (without_text doc loss).cells
deletion_listed doc loss names h =
    let left = without_places doc loss.places in
    let gone : AreListed names left.cells = listed_gone names loss.places doc.cells h in
    loss_has (λ (f : DocValue). AreListed names f.cells) doc loss gone
    (λ cell e. bared_listed names left cell.stamp (names_on cell.state) (newline_shared doc loss cell h.shared e) gone)
