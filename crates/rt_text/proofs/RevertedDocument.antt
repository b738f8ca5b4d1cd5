-- A document after a group was reverted, which its replica made.
use Rattle.std.proofs.Common.{◌≡◌, ◌∙◌, ℕ, ◌+◌, ◌<◌, ◌≤◌, ◌&&◌, ◌||◌, Bool, true, false, not, All, List, [], ◌∷◌, Option, Some, length, map, refl, sym, ap, arith, subst}
use Rattle.std.specs.List.{list_all}
use Rattle.std.specs.Prelude.{codes, slice_get, unwrap_or}
use Rattle.std.specs.Str.{bytes_eq, is_utf8}
use Rattle.std.proofs.lemmas.Bool.{and_parts, not-true, or_left, or_right}
use Rattle.std.proofs.lemmas.List.Elements.{All-cons, All-nil}
use Rattle.rt_marks.specs.Marks.{Mark, marks_inserted, marks_left}
use Rattle.rt_ops.specs.Operations.{Body, Name}
use Rattle.rt_ops.specs.Rules.{is_name}
use Rattle.rt_stamps.specs.declared.fault.Fault.{Fault}
use Rattle.rt_stamps.specs.declared.fault.Fault.TheVariants.{ClockSpent}
use Rattle.rt_stamps.specs.declared.limits.TheConstants.{GREATEST_COUNT, MOST_CHARACTERS}
use Rattle.rt_stamps.specs.declared.stamp.Stamp.{Stamp}
use Rattle.rt_stamps.specs.declared.stamp.TheConstants.{FINAL}
use Rattle.rt_stamps.specs.Names.{is_name_length}
use Rattle.rt_stamps.specs.Outcomes.{first_of}
use Rattle.rt_stamps.specs.Stamps.{is_same}
use Rattle.rt_stamps.specs.Words.{Word}
use Rattle.rt_stamps.proofs.Order.{same_refl, same_sym}
use Rattle.rt_store.specs.declared.cell.Cell.{Cell}
use Rattle.rt_store.specs.Cells.{after_element, stamps_of, text_of, visible_before}
use Rattle.rt_store.specs.Shown.{TaggedCell, shown}
use Rattle.rt_store.specs.Spans.{is_among}
use Rattle.rt_store.proofs.Shown.{stamps_shown}
use Rattle.rt_tags.specs.States.{TagStates, state_at}
use Rattle.rt_tags.specs.Tags.{sel}
use Rattle.rt_rga.specs.Cells.{cells_of}
use Rattle.rt_rga.specs.Drafts.{with_drafts}
use Rattle.rt_rga.specs.Histories.{IsHistory, greatest_last_count, has_character}
use Rattle.rt_rga.specs.Kept.{ReplicaValue}
use Rattle.rt_rga.specs.Made.{refusal_of}
use Rattle.rt_rga.specs.Requests.{MayBeMade, characters_in_all, last_count_after}
use Rattle.rt_rga.proofs.Corollaries.{cells_have, character_count}
use Rattle.rt_rga.proofs.Requests.{all_count_on}
use Rattle.rt_plans.specs.Deletions.{without_places}
use Rattle.rt_plans.specs.DraftLaws.{AreTagNames, IsDocument, SparesLast}
use Rattle.rt_plans.specs.DocValue.{DocValue}
use Rattle.rt_plans.specs.Insertions.{all_listed, inserts_for, tagged_cells}
use Rattle.rt_plans.specs.Removals.{gone_at}
use Rattle.rt_plans.proofs.CharacterCounts.{cells_length}
use Rattle.rt_plans.proofs.ListedLaws.{listed_more}
use Rattle.rt_plans.proofs.NamedSpanLaws.{cut}
use Rattle.rt_undo.specs.Actions.{Action}
use Rattle.rt_revert.specs.Plans.{AreUpTo, IsUpTo}
use Rattle.rt_revert.specs.Reverting.{reversion, reverted, with_copy}
use Rattle.rt_revert.specs.ReversionLaws.{AllMayRevert}
use Rattle.rt_revert.proofs.CellCounts.{reversion_cells}
use Rattle.rt_revert.proofs.Induction.{reversion_keeps}
use Rattle.rt_revert.proofs.Steps.{reversion_made, reversion_may}
use Rattle.rt_text.specs.Commands.{cell_check}
use Rattle.rt_text.specs.Kept.{IsDoc}
use Rattle.rt_text.specs.Reversions.{widget_reverted, reversion_check}
use Rattle.rt_text.specs.Widgets.{AreSiteMarks, IsOwnOf, WidgetValue, widget_inserted, widget_without}
use Rattle.rt_text.proofs.AcceptedDocument.{names_are}
use Rattle.rt_text.proofs.DeletionLaws.{listed_gone}
use Rattle.rt_text.proofs.KeptDocument.{clock_spent}
use Rattle.rt_text.proofs.ListedText.{IsTaggedAmong, all_named, all_still, all_there, inserts_among, listed_put, text_among}
use Rattle.rt_text.proofs.MadeDocument.{refusal_is, seen, seen_made}
use Rattle.rt_text.proofs.MarkLaws.{length_gone, length_put, own_of_inserted, own_of_left, site_inserted, site_left}

-- COUNTS

all_among : {T : Type 0} (P : Stamp → Type 0) (cells : List (Cell T)) → ((s : Stamp) → is_among (stamps_of cells) s ≡ true → P s) → All (λ (cell : Cell T). P cell.stamp) cells
all_among {T} P [] f = All-nil (λ (cell : Cell T). P cell.stamp)
all_among {T} P (c ∷ cs) f =
    All-cons (λ (cell : Cell T). P cell.stamp) c cs (f c.stamp (or_left (is_same c.stamp c.stamp) (is_among (stamps_of cs) c.stamp) (same_refl c.stamp)))
    (all_among P cs (λ s e. f s (or_right (is_same c.stamp s) (is_among (stamps_of cs) s) e)))

which : (a b : Bool) → (a || b) ≡ true → b ≡ false → a ≡ true
which true b e f = refl
which false b e f = let bad : ⊥ = cc in absurd bad

-- no cell of a history but the final newline's is newer than its greatest count
pub store_older : (table : TagStates) (store : List (Cell ℕ)) (doc_value : DocValue) (count : ℕ) → map (shown table) store ≡ doc_value.cells → IsHistory doc_value.log → IsDocument doc_value.site doc_value.log doc_value → count ≡ doc_value.count
    → AreUpTo count store
store_older table store doc_value count e history doc n =
    all_among (IsUpTo count) store
    (λ s there apart.
    let known : (has_character doc_value.log s || is_same FINAL s) ≡ true =
    sym (cells_have doc_value.log history s) ∙ ap (λ ss. is_among ss s) (ap stamps_of (sym doc.cells ∙ sym e) ∙ stamps_shown (state_at table) store) ∙ there in
    omega (arith, character_count doc_value.log s (which (has_character doc_value.log s) (is_same FINAL s) known (same_sym FINAL s ∙ apart)), doc.count, n))

-- NAMES

not_sel : (name : Name) → is_name name ≡ true → bytes_eq name sel ≡ false
not_sel name h =
    let some = and_parts (is_utf8 name) (is_name_length (length name) && not (bytes_eq name sel)) h in
    not-true (bytes_eq name sel) (and_parts (is_name_length (length name)) (not (bytes_eq name sel)) some.1).1

others_than_sel : (names : List Name) → list_all is_name names ≡ true → All (λ name. bytes_eq name sel ≡ false) names
others_than_sel [] h = All-nil (λ (name : Name). bytes_eq name sel ≡ false)
others_than_sel (name ∷ names) h =
    let both = and_parts (is_name name) (list_all is_name names) h in
    All-cons (λ (name : Name). bytes_eq name sel ≡ false) name names (not_sel name both.0) (others_than_sel names both.1)

-- A CHARACTER THAT COMES BACK

new_among : (doc_value : DocValue) (tags : List Word) (ch : ℕ) → AreTagNames tags → All (IsTaggedAmong (all_listed tags doc_value.tags)) (tagged_cells doc_value.site doc_value.count tags (ch ∷ []))
new_among doc_value tags ch names =
    inserts_among (all_listed tags doc_value.tags) (inserts_for (length (ch ∷ []))) doc_value.site doc_value.count tags (ch ∷ []) (all_there tags doc_value.tags) (others_than_sel tags names.each)

-- the text has one character more
copy_length : (doc_value : DocValue) (stamp : Stamp) (tags : List Word) (ch : ℕ) → AreTagNames tags → length (text_of (with_copy doc_value stamp tags ch).cells) ≡ length (text_of doc_value.cells) + 1
copy_length doc_value stamp tags ch names =
    let text = ch ∷ [] in
    let new = tagged_cells doc_value.site doc_value.count tags text in
    let one : length new ≡ 1 = cells_length (inserts_for (length text)) doc_value.site doc_value.count tags text (cut MOST_CHARACTERS (length text) (omega arith)).enough in
    length_put doc_value.cells stamp new ∙ ap (λ n. length (text_of doc_value.cells) + n) (text_among (all_listed tags doc_value.tags) new (new_among doc_value tags ch names) ∙ one)

-- where marks move for it
abbrev place_of : DocValue → Stamp → ℕ
place_of doc_value stamp = visible_before doc_value.cells (after_element doc_value.cells stamp)

-- WHAT IS SO OF A DOCUMENT

abbrev MakesDoc : DocValue → Type 0
MakesDoc doc_value = IsDoc doc_value.cells doc_value.marks doc_value.tags

kept_goes : (doc_value : DocValue) (removed : ℕ → Bool) → SparesLast removed (text_of doc_value.cells) → MakesDoc doc_value → MakesDoc (without_places doc_value removed)
kept_goes doc_value removed spared h = record {
  placed = subst (λ (n : ℕ). AreSiteMarks n (marks_left removed doc_value.marks)) (sym (length_gone removed doc_value.cells)) (site_left (length (text_of doc_value.cells)) removed doc_value.marks h.placed);
  listed = listed_gone doc_value.tags removed doc_value.cells h.listed;
}

kept_comes : (doc_value : DocValue) (stamp : Stamp) (tags : List Word) (ch : ℕ) → AreTagNames tags → MakesDoc doc_value → MakesDoc (with_copy doc_value stamp tags ch)
kept_comes doc_value stamp tags ch names h =
    let all = all_listed tags doc_value.tags in
    let more = listed_more doc_value.tags all doc_value.cells (λ n e. all_still n tags doc_value.tags e) (all_named tags doc_value.tags (names_are tags names.each) h.listed.names) h.listed in
    record {
      placed = subst (λ (n : ℕ). AreSiteMarks n (marks_inserted (place_of doc_value stamp) 1 doc_value.marks)) (sym (copy_length doc_value stamp tags ch names))
          (site_inserted (length (text_of doc_value.cells)) (place_of doc_value stamp) 1 doc_value.marks h.placed);
      listed = listed_put all doc_value.cells stamp (tagged_cells doc_value.site doc_value.count tags (ch ∷ [])) more (new_among doc_value tags ch names);
    }

-- OWN MARKS

own_goes : (doc_value : DocValue) (removed : ℕ → Bool) (own : WidgetValue) → SparesLast removed (text_of doc_value.cells) → IsOwnOf (length (text_of doc_value.cells)) own
    → IsOwnOf (length (text_of (gone_at removed 0 doc_value.cells))) (widget_without removed own)
own_goes doc_value removed own spared h =
    subst (λ (n : ℕ). IsOwnOf n (widget_without removed own)) (sym (length_gone removed doc_value.cells)) (own_of_left (length (text_of doc_value.cells)) removed own spared h)

own_comes : (doc_value : DocValue) (stamp : Stamp) (tags : List Word) (ch : ℕ) (own : WidgetValue) → AreTagNames tags → IsOwnOf (length (text_of doc_value.cells)) own
    → IsOwnOf (length (text_of (with_copy doc_value stamp tags ch).cells)) (widget_inserted (place_of doc_value stamp) 1 own)
own_comes doc_value stamp tags ch own names h =
    subst (λ (n : ℕ). IsOwnOf n (widget_inserted (place_of doc_value stamp) 1 own)) (sym (copy_length doc_value stamp tags ch names)) (own_of_inserted (length (text_of doc_value.cells)) (place_of doc_value stamp) 1 own h)

-- the only mark of a document stands as the one of a widget does, as its insertion cursor, and as the mark that follows the mouse
record HasInsert (doc_value : DocValue) : Type 0 where
  own : WidgetValue
  alone : doc_value.marks ≡ own.insert ∷ []
  stands : IsOwnOf (length (text_of doc_value.cells)) own

record HasCurrent (doc_value : DocValue) : Type 0 where
  own : WidgetValue
  alone : doc_value.marks ≡ own.current ∷ []
  stands : IsOwnOf (length (text_of doc_value.cells)) own

insert_goes : (doc_value : DocValue) (removed : ℕ → Bool) → SparesLast removed (text_of doc_value.cells) → HasInsert doc_value → HasInsert (without_places doc_value removed)
insert_goes doc_value removed spared h = record { own = widget_without removed h.own; alone = ap (marks_left removed) h.alone; stands = own_goes doc_value removed h.own spared h.stands }

insert_comes : (doc_value : DocValue) (stamp : Stamp) (tags : List Word) (ch : ℕ) → AreTagNames tags → HasInsert doc_value → HasInsert (with_copy doc_value stamp tags ch)
insert_comes doc_value stamp tags ch names h = record {
  own = widget_inserted (place_of doc_value stamp) 1 h.own;
  alone = ap (marks_inserted (place_of doc_value stamp) 1) h.alone;
  stands = own_comes doc_value stamp tags ch h.own names h.stands;
}

current_goes : (doc_value : DocValue) (removed : ℕ → Bool) → SparesLast removed (text_of doc_value.cells) → HasCurrent doc_value → HasCurrent (without_places doc_value removed)
current_goes doc_value removed spared h = record { own = widget_without removed h.own; alone = ap (marks_left removed) h.alone; stands = own_goes doc_value removed h.own spared h.stands }

current_comes : (doc_value : DocValue) (stamp : Stamp) (tags : List Word) (ch : ℕ) → AreTagNames tags → HasCurrent doc_value → HasCurrent (with_copy doc_value stamp tags ch)
current_comes doc_value stamp tags ch names h = record {
  own = widget_inserted (place_of doc_value stamp) 1 h.own;
  alone = ap (marks_inserted (place_of doc_value stamp) 1) h.alone;
  stands = own_comes doc_value stamp tags ch h.own names h.stands;
}

-- THE REVERSION

-- a group that is reverted in a document of a history, where the counts fit
pub record IsReverted (doc_value : DocValue) (group : List (Action (List Word))) : Type 0 where
  pub real : 0 < doc_value.site
  pub history : IsHistory doc_value.log
  pub document : IsDocument doc_value.site doc_value.log doc_value
  pub sound : AllMayRevert group
  pub fits : (reversion doc_value group).doc.count ≤ GREATEST_COUNT

-- what is too much for the counts is refused
pub spent_check : (doc_value : DocValue) (group : List (Action (List Word))) → GREATEST_COUNT < (reversion doc_value group).doc.count → reversion_check doc_value group ≡ Some ClockSpent
spent_check doc_value group h =
    let left = (reversion doc_value group).doc in
    ap (λ (o : Option Fault). first_of (o ∷ cell_check doc_value.limit (length left.cells) ∷ [])) (clock_spent left.count h)

module _ (doc_value : DocValue) (group : List (Action (List Word))) (i : IsReverted doc_value group) where
  abbrev drafts : List Body
  drafts = (reversion doc_value group).drafts

  abbrev left : DocValue
  left = (reversion doc_value group).doc

  pub all_may : MayBeMade doc_value.site doc_value.log drafts
  all_may = reversion_may doc_value.site doc_value.log doc_value group i.real i.history i.document i.sound i.fits

  pub left_made : IsDocument doc_value.site (with_drafts doc_value.site drafts doc_value.log) left
  left_made = reversion_made doc_value.site doc_value.log doc_value group i.real i.history i.document i.sound i.fits

  pub all_refused : refusal_of doc_value.limit drafts doc_value.log ≡ reversion_check doc_value group
  all_refused =
      let count : last_count_after (greatest_last_count doc_value.log) drafts ≡ left.count = sym (all_count_on doc_value.site drafts doc_value.log) ∙ sym left_made.count in
      let cells : length (cells_of doc_value.log) + characters_in_all drafts ≡ length left.cells =
      ap (λ n. n + characters_in_all drafts) (sym (ap length i.document.cells)) ∙ reversion_cells doc_value group in
      refusal_is doc_value.limit drafts doc_value.log left.count (length left.cells) count cells

  left_limit : left.limit ≡ doc_value.limit
  left_limit = reversion_keeps (λ (f : DocValue). f.limit ≡ doc_value.limit) (λ f removed s h. h) (λ f stamp tags ch n h. h) doc_value.site doc_value.log doc_value group i.real i.history i.document i.sound i.fits refl

  -- what the replica has then made
  pub left_seen : (new : ReplicaValue) → new.log ≡ with_drafts doc_value.site drafts doc_value.log → new.cells ≡ cells_of new.log → new.site ≡ doc_value.site → new.limit ≡ doc_value.limit
      → seen new left.marks left.tags ≡ reverted doc_value group
  left_seen new log cells site limit = seen_made doc_value left drafts new log cells site limit left_limit left_made

  -- it is a document
  pub left_kept : IsDoc doc_value.cells doc_value.marks doc_value.tags → IsDoc left.cells left.marks left.tags
  left_kept kept = reversion_keeps MakesDoc kept_goes kept_comes doc_value.site doc_value.log doc_value group i.real i.history i.document i.sound i.fits kept

  -- where the only mark of a document is a widget's
  insert_left : (own : WidgetValue) → doc_value.marks ≡ own.insert ∷ [] → IsOwnOf (length (text_of doc_value.cells)) own → HasInsert left
  insert_left own alone stands =
      reversion_keeps HasInsert insert_goes insert_comes doc_value.site doc_value.log doc_value group i.real i.history i.document i.sound i.fits (record { own = own; alone = alone; stands = stands })

  current_left : (own : WidgetValue) → doc_value.marks ≡ own.current ∷ [] → IsOwnOf (length (text_of doc_value.cells)) own → HasCurrent left
  current_left own alone stands =
      reversion_keeps HasCurrent current_goes current_comes doc_value.site doc_value.log doc_value group i.real i.history i.document i.sound i.fits (record { own = own; alone = alone; stands = stands })

-- a document with a mark alone
abbrev pub only : DocValue → Mark → DocValue
only doc_value m = record doc_value { marks = m ∷ [] }

-- the same operations leave the same cells
same_cells : (doc_value other : DocValue) (group : List (Action (List Word))) → IsReverted doc_value group → IsReverted other group → other.site ≡ doc_value.site → other.log ≡ doc_value.log → (reversion other group).drafts ≡ (reversion doc_value group).drafts
    → (reversion other group).doc.cells ≡ (reversion doc_value group).doc.cells
same_cells doc_value other group i j site log e = (left_made other group j).cells ∙ (λ k. cells_of (with_drafts (site k) (e k) (log k))) ∙ sym (left_made doc_value group i).cells

-- the first of some marks
abbrev pub head_or : Mark → List Mark → Mark
head_or m marks = unwrap_or (slice_get marks 0) m

-- a widget's own marks stand in the text that is left
pub own_stands : (doc_value : DocValue) (group : List (Action (List Word))) (own : WidgetValue) → IsReverted doc_value group → IsReverted (only doc_value own.insert) group → IsReverted (only doc_value own.current) group
    → (reversion (only doc_value own.insert) group).drafts ≡ (reversion doc_value group).drafts → (reversion (only doc_value own.current) group).drafts ≡ (reversion doc_value group).drafts
    → IsOwnOf (length (text_of doc_value.cells)) own → IsOwnOf (length (text_of (reversion doc_value group).doc.cells)) (widget_reverted doc_value group own)
own_stands doc_value group own i ii ic ei ec h =
    let first = insert_left (only doc_value own.insert) group ii own refl h in
    let second = current_left (only doc_value own.current) group ic own refl h in
    let n = length (text_of (reversion doc_value group).doc.cells) in
    let m : length (text_of (reversion (only doc_value own.insert) group).doc.cells) ≡ n = ap (λ (l : List TaggedCell). length (text_of l)) (same_cells doc_value (only doc_value own.insert) group i ii refl refl ei) in
    let k : length (text_of (reversion (only doc_value own.current) group).doc.cells) ≡ n = ap (λ (l : List TaggedCell). length (text_of l)) (same_cells doc_value (only doc_value own.current) group i ic refl refl ec) in
    let insert : (widget_reverted doc_value group own).insert ≡ first.own.insert = ap (head_or own.insert) first.alone in
    let current : (widget_reverted doc_value group own).current ≡ second.own.current = ap (head_or own.current) second.alone in record {
      insert = subst (λ (x : Mark). x.place < n) (sym insert) (omega (arith, first.stands.insert, m));
      current = subst (λ (x : Mark). x.place ≤ n) (sym current) (omega (arith, second.stands.current, k));
      insert_name = subst (λ (x : Mark). x.name ≡ codes "insert") (sym insert) first.stands.insert_name;
      current_name = subst (λ (x : Mark). x.name ≡ codes "current") (sym current) second.stands.current_name;
    }
