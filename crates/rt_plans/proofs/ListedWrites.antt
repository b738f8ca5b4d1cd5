-- Tags that stay listed where tags are written.
use Rattle.std.proofs.Common.{◌≡◌, ℕ, ◌+◌, inl, inr, List, [], ◌∷◌, ◌++◌, Bool, true, false, cond, not, All, filter, get_or, refl, sym, ◌∙◌, ap, subst, arith}
use Rattle.std.specs.Str.{bytes_eq}
use Rattle.std.proofs.lemmas.Bool.{or_left, or_right, both_ways, cond-true, cond-false}
use Rattle.std.proofs.lemmas.List.Elements.{All-cons, All-nil, All-append, All-filter, All-map}
use Rattle.std.proofs.lemmas.List.Folds.{list_any-append}
use Rattle.rt_stamps.specs.declared.stamp.Stamp.{Stamp}
use Rattle.rt_stamps.specs.Stamps.{is_same}
use Rattle.rt_stamps.specs.Words.{Word}
use Rattle.rt_stamps.proofs.Order.{same_refl}
use Rattle.rt_store.specs.declared.cell.Cell.{Cell}
use Rattle.rt_store.specs.Cells.{visible_of, with_state, stamps_of}
use Rattle.rt_tags.specs.States.{Write, writes_above, writes_below, is_on, is_settled, names_on, written}
use Rattle.rt_tags.specs.Tags.{IsName, sel, is_listed, with_name, without}
use Rattle.rt_tags.proofs.Places.{split, same_name, name_itself}
use Rattle.rt_plans.specs.TagWrites.{listed_if, without_tag, without_tags, is_changed, changed_stamps, tag_write, cell_with_tag, with_tag_at}
use Rattle.rt_plans.specs.DocValue.{DocValue}
use Rattle.rt_store.specs.Shown.{TaggedCell}
use Rattle.rt_store.specs.Written.{IsWritten, AreWritten}
use Rattle.rt_plans.specs.Listed.{AreListed, IsShared}
use Rattle.rt_plans.specs.Removals.{cells_at}
use Rattle.rt_store.specs.Spans.{is_among}
use Rattle.rt_plans.proofs.ListedLaws.{without_names, without_other}
use Rattle.rt_plans.proofs.Putting.{tagged_state}
use Rattle.rt_plans.proofs.StateChanges.{visible_changed}
use Rattle.rt_plans.proofs.WriterLaws.{all_map, tag_written, tagged_on, written_as}

-- the tags on a character are listed
abbrev pub HasListed : List Word → TaggedCell → Type 0
HasListed tags cell = (name : Word) → is_on name cell.state ≡ true → is_listed name tags ≡ true

-- ONE TAG MORE

more_listed : (q name : Word) (tags : List Word) → is_listed q tags ≡ true → is_listed q (with_name name tags) ≡ true
more_listed q name tags h = by (is_listed name tags)
  where
    by : (b : Bool) → is_listed q (cond b tags (tags ++ name ∷ [])) ≡ true
    by true = h
    by false = list_any-append (bytes_eq q) tags (name ∷ []) ∙ or_left (is_listed q tags) _ h

new_listed : (q name : Word) (tags : List Word) → bytes_eq q name ≡ true → is_listed q (with_name name tags) ≡ true
new_listed q name tags h =
    split (is_listed name tags)
    (λ t. ap (λ b. is_listed q (cond b tags (tags ++ name ∷ []))) t ∙ ap (λ n. is_listed n tags) (same_name q name h) ∙ t)
    (λ f. ap (λ b. is_listed q (cond b tags (tags ++ name ∷ []))) f ∙ list_any-append (bytes_eq q) tags (name ∷ []) ∙ or_right (is_listed q tags) _ (or_left (bytes_eq q name) false h))

more_names : (name : Word) (tags : List Word) → IsName name → All IsName tags → All IsName (with_name name tags)
more_names name tags h k = by (is_listed name tags)
  where
    by : (b : Bool) → All IsName (cond b tags (tags ++ name ∷ []))
    by true = k
    by false = All-append IsName tags (name ∷ []) k (All-cons IsName name [] h (All-nil IsName))

-- SEL

-- one more write, of another tag than `sel`
pub shared_written : (w : Write) (state : List Write) → bytes_eq w.name sel ≡ false → IsShared state → IsShared (written w state)
shared_written w state e h = by (is_settled w state)
  where
    by : (b : Bool) → IsShared (cond b state (writes_below w.name state ++ w ∷ writes_above w.name state))
    by true = h
    by false =
        let Q : Write → Type 0 = λ v. bytes_eq v.name sel ≡ false in
        All-append Q (writes_below w.name state) (w ∷ writes_above w.name state) (All-filter _ Q state h) (All-cons Q w (writes_above w.name state) e (All-filter _ Q state h))

pub shared_tagged : (site count : ℕ) (name : Word) (on : Bool) (stamps : List Stamp) → bytes_eq name sel ≡ false → (cell : TaggedCell) → IsShared cell.state → IsShared (cell_with_tag site count name on stamps cell).state
shared_tagged site count name on stamps e cell h = by (is_among stamps cell.stamp)
  where
    by : (b : Bool) → IsShared (cond b (record cell { state = written (tag_write site count name on stamps cell.stamp) cell.state }) cell).state
    by true = shared_written (tag_write site count name on stamps cell.stamp) cell.state e h
    by false = h

tag_shared : (doc : DocValue) (places : ℕ → Bool) (on : Bool) (name : Word) → bytes_eq name sel ≡ false → All (λ c. IsShared c.state) doc.cells → All (λ c. IsShared c.state) (with_tag_at doc places on name).cells
tag_shared doc places on name e h =
    let stamps = changed_stamps name on (cells_at places 0 doc.cells) in
    all_map (λ c. IsShared c.state) (λ c. IsShared c.state) (cell_with_tag doc.site doc.count name on stamps) (shared_tagged doc.site doc.count name on stamps e) doc.cells h

-- so the tags that are on are others
pub shared_names_on : (state : List Write) → IsShared state → All (λ name. bytes_eq name sel ≡ false) (names_on state)
shared_names_on state h = All-map (λ name. bytes_eq name sel ≡ false) (λ w. w.name) (filter (λ w. w.on) state) (All-filter (λ w. w.on) (λ (w : Write). bytes_eq w.name sel ≡ false) state h)

-- what is so of the visible cells, after a tag was written
pub visible_after : (P Q : TaggedCell → Type 0) (doc : DocValue) (places : ℕ → Bool) (on : Bool) (name : Word)
    → ((cell : TaggedCell) → P cell → Q (cell_with_tag doc.site doc.count name on (changed_stamps name on (cells_at places 0 doc.cells)) cell))
    → All P (visible_of doc.cells) → All Q (visible_of (with_tag_at doc places on name).cells)
visible_after P Q doc places on name f h =
    let stamps = changed_stamps name on (cells_at places 0 doc.cells) in
    let g : TaggedCell → TaggedCell = cell_with_tag doc.site doc.count name on stamps in
    subst (All Q) (sym (visible_changed g (tagged_state doc.site doc.count name on stamps) doc.cells)) (All-map Q g (visible_of doc.cells) (λ k d lt. f (get_or (visible_of doc.cells) k d) (h k d lt)))

-- a tag that is put on is listed
pub on_listed : (doc : DocValue) (places : ℕ → Bool) (name : Word) → IsName name → bytes_eq name sel ≡ false → AreListed doc.tags doc.cells → AreListed (with_name name doc.tags) (with_tag_at doc places true name).cells
on_listed doc places name h e listed =
    let stamps = changed_stamps name true (cells_at places 0 doc.cells) in
    record {
      each = visible_after (HasListed doc.tags) (HasListed (with_name name doc.tags)) doc places true name
          (λ cell k q on. elim (tagged_on doc.site doc.count name true stamps q cell on) [
            | inl before ↦ more_listed q name doc.tags (k q before)
            | inr put ↦ new_listed q name doc.tags put.0
          ]) listed.each;
      sel = more_listed sel name doc.tags listed.sel;
      names = more_names name doc.tags h listed.names;
      shared = tag_shared doc places true name e listed.shared;
    }

-- where a tag is taken off, what is listed stays enough
pub off_listed : (doc : DocValue) (places : ℕ → Bool) (name : Word) (tags : List Word) → bytes_eq name sel ≡ false → AreListed tags doc.cells → AreListed tags (with_tag_at doc places false name).cells
off_listed doc places name tags e listed =
    let stamps = changed_stamps name false (cells_at places 0 doc.cells) in
    record {
      each = visible_after (HasListed tags) (HasListed tags) doc places false name
          (λ cell k q on. elim (tagged_on doc.site doc.count name false stamps q cell on) [
            | inl before ↦ k q before
            | inr put ↦ absurd (both_ways false refl put.1)
          ]) listed.each;
      sel = listed.sel;
      names = listed.names;
      shared = tag_shared doc places false name e listed.shared;
    }

pub written_listed : (on : Bool) (doc : DocValue) (places : ℕ → Bool) (name : Word) → IsName name → AreListed doc.tags doc.cells
    → bytes_eq name sel ≡ false → AreListed (listed_if on name (with_tag_at doc places on name)).tags (listed_if on name (with_tag_at doc places on name)).cells
written_listed true doc places name h listed e = on_listed doc places name h e listed
written_listed false doc places name h listed e = off_listed doc places name doc.tags e listed

-- A TAG TAKEN OFF EVERYWHERE

abbrev pub everywhere : ℕ → Bool
everywhere place = true

pub every_cell : {T : Type 0} (k : ℕ) (cells : List (Cell T)) → cells_at everywhere k cells ≡ visible_of cells
every_cell k [] = refl
every_cell k (c ∷ cs) = by c.gone (every_cell k cs) (every_cell (k + 1) cs)
  where
    by : (b : Bool) → cells_at everywhere k cs ≡ visible_of cs → cells_at everywhere (k + 1) cs ≡ visible_of cs → cond b (cells_at everywhere k cs) (c ∷ cells_at everywhere (k + 1) cs) ≡ cond (not b) (c ∷ visible_of cs) (visible_of cs)
    by true h k = h
    by false h k = ap (λ l. c ∷ l) k

among_more : (b : Bool) (x : TaggedCell) (xs : List TaggedCell) (s : Stamp) → is_among (stamps_of xs) s ≡ true → is_among (stamps_of (cond b (x ∷ xs) xs)) s ≡ true
among_more true x xs s h = or_right (is_same x.stamp s) _ h
among_more false x xs s h = h

pub changed_among : (name : Word) (on : Bool) (xs : List TaggedCell) → All (λ c. is_changed name on c ≡ true → is_among (changed_stamps name on xs) c.stamp ≡ true) xs
changed_among name on [] = All-nil (λ c. is_changed name on c ≡ true → is_among (changed_stamps name on []) c.stamp ≡ true)
changed_among name on (x ∷ xs) =
    All-cons (λ c. is_changed name on c ≡ true → is_among (changed_stamps name on (x ∷ xs)) c.stamp ≡ true) x xs
    (λ e. ap (λ b. is_among (stamps_of (cond b (x ∷ filter (is_changed name on) xs) (filter (is_changed name on) xs))) x.stamp) e ∙ or_left (is_same x.stamp x.stamp) _ (same_refl x.stamp))
    (λ k d lt e. among_more (is_changed name on x) x (filter (is_changed name on) xs) (get_or xs k d).stamp (changed_among name on xs k d lt e))

-- no character has it then
pub nowhere_on : (doc : DocValue) (name : Word) → AreWritten doc.count doc.cells → All (λ c. is_on name c.state ≡ false) (visible_of (with_tag_at doc everywhere false name).cells)
nowhere_on doc name known =
    let stamps = changed_stamps name false (cells_at everywhere 0 doc.cells) in
    let P : TaggedCell → Type 0 = λ c. IsWritten doc.count c.state × (is_on name c.state ≡ true → is_among stamps c.stamp ≡ true) in
    let written_each : All (λ (c : TaggedCell). IsWritten doc.count c.state) (visible_of doc.cells) = All-filter (λ c. not c.gone) (λ (c : TaggedCell). IsWritten doc.count c.state) doc.cells known in
    let among : All (λ (c : TaggedCell). is_on name c.state ≡ true → is_among stamps c.stamp ≡ true) (visible_of doc.cells) =
    λ k d lt e. ap (λ l. is_among (changed_stamps name false l) (get_or (visible_of doc.cells) k d).stamp) (every_cell 0 doc.cells) ∙ changed_among name false (visible_of doc.cells) k d lt e in
    visible_after P (λ c. is_on name c.state ≡ false) doc everywhere false name
    (λ cell p. split (is_among stamps cell.stamp)
    (λ t. ap (λ (c : TaggedCell). is_on name c.state) (cond-true (is_among stamps cell.stamp) (with_state (written (tag_write doc.site doc.count name false stamps cell.stamp) cell.state) cell) cell t)
    ∙ written_as doc.count (tag_write doc.site doc.count name false stamps cell.stamp) cell.state p.0 (omega arith))
    (λ f. ap (λ (c : TaggedCell). is_on name c.state) (cond-false (is_among stamps cell.stamp) (with_state (written (tag_write doc.site doc.count name false stamps cell.stamp) cell.state) cell) cell f)
    ∙ split (is_on name cell.state) (λ e. absurd (both_ways (is_among stamps cell.stamp) f (p.1 e))) (λ e. e)))
    (λ k d lt. (written_each k d lt, among k d lt))

gone_listed : (name : Word) (tags : List Word) (cells : List TaggedCell) → bytes_eq name sel ≡ false → All (λ c. is_on name c.state ≡ false) (visible_of cells) → AreListed tags cells → AreListed (without name tags) cells
gone_listed name tags cells other none listed = record {
  each = λ k d lt q on.
      split (bytes_eq q name)
      (λ t. absurd (both_ways (is_on q (get_or (visible_of cells) k d).state) (ap (λ n. is_on n (get_or (visible_of cells) k d).state) (same_name q name t) ∙ none k d lt) on))
      (λ f. without_other q name tags f ∙ listed.each k d lt q on);
  sel = without_other sel name tags (split (bytes_eq sel name) (λ t. absurd (both_ways (bytes_eq name sel) other (ap (λ n. bytes_eq n sel) (sym (same_name sel name t)) ∙ name_itself sel))) (λ f. f)) ∙ listed.sel;
  names = without_names name tags listed.names;
  shared = listed.shared;
}

-- what is so of a document stays so where a tag is deleted
pub record StaysTagged (doc : DocValue) : Type 0 where
  pub listed : AreListed doc.tags doc.cells
  pub known : AreWritten doc.count doc.cells

without_stays : (doc : DocValue) (name : Word) → StaysTagged doc → StaysTagged (without_tag doc name)
without_stays doc name h =
    split (bytes_eq name sel)
    (λ t. subst StaysTagged (sym (cond-true (bytes_eq name sel) doc _ t)) h)
    (λ f. subst StaysTagged (sym (cond-false (bytes_eq name sel) doc _ f)) (record {
      listed = gone_listed name doc.tags (with_tag_at doc everywhere false name).cells f (nowhere_on doc name h.known) (off_listed doc everywhere name doc.tags f h.listed);
      known = tag_written doc everywhere false name h.known;
    }))

pub all_without_stays : (names : List Word) (doc : DocValue) → StaysTagged doc → StaysTagged (without_tags doc names)
all_without_stays [] doc h = h
all_without_stays (name ∷ names) doc h = all_without_stays names (without_tag doc name) (without_stays doc name h)
