-- The Tags that take its tags off a newline that stays, and the last newline of a document.
use Rattle.std.proofs.Common.{◌≡◌, ℕ, zero, suc, ◌+◌, ◌≤◌, ◌<◌, ◌⊎◌, inl, inr, List, [], ◌∷◌, ◌++◌, true, false, not, ◌||◌, length, refl, sym, ◌∙◌, ap, subst, arith, Option, Some, None}
use Rattle.std.specs.Prelude.{option_and_then, option_map, slice_get, unwrap_or}
use Rattle.std.specs.List.{AllByRecursion, IsDistinct, list_all}
use Rattle.std.proofs.lemmas.Bool.{and_parts, or_left, or_right}
use Rattle.rt_stamps.specs.declared.limits.TheConstants.{GREATEST_COUNT, MOST_SPANS}
use Rattle.rt_stamps.specs.declared.stamp.Stamp.{Stamp}
use Rattle.rt_stamps.specs.declared.stamp.TheConstants.{FINAL}
use Rattle.rt_stamps.specs.Stamps.{is_same}
use Rattle.rt_stamps.specs.Words.{Word}
use Rattle.rt_stamps.proofs.Order.{same_from_true, same_refl}
use Rattle.rt_ops.specs.Operations.{Operation, Body, Tag}
use Rattle.rt_ops.specs.Rules.{is_name}
use Rattle.rt_tags.specs.States.{names_on}
use Rattle.rt_store.specs.Cells.{stamps_of, text_of, visible_of}
use Rattle.rt_store.specs.Shown.{TaggedCell}
use Rattle.rt_store.specs.Spans.{is_among}
use Rattle.rt_store.proofs.Distinct.{distinct_more, none_distinct, split}
use Rattle.rt_rga.specs.Cells.{cell_in}
use Rattle.rt_rga.specs.Drafts.{with_drafts}
use Rattle.rt_rga.specs.Histories.{IsHistory, final_character, greatest_last_count, has_character}
use Rattle.rt_rga.specs.Requests.{MayBeMade}
use Rattle.rt_rga.proofs.Appending.{drafts_append, may_append}
use Rattle.rt_rga.proofs.Final.{cells_last}
use Rattle.rt_plans.specs.Deletions.{Loss, newline_left, without_places, without_text}
use Rattle.rt_plans.specs.DraftLaws.{IsDocument}
use Rattle.rt_plans.specs.DocValue.{DocValue}
use Rattle.rt_stamps.specs.Spans.{span_of}
use Rattle.rt_plans.specs.Removals.{operations_for, span_count}
use Rattle.rt_plans.specs.TagDrafts.{newline_drafts, tag_drafts}
use Rattle.rt_plans.specs.TagWrites.{bared, cell_with_tag, with_tag}
use Rattle.rt_plans.proofs.DraftSteps.{stays_character}
use Rattle.rt_plans.proofs.PlaceLaws.{length_text}
use Rattle.rt_plans.proofs.Putting.{tagged_state}
use Rattle.rt_plans.proofs.RemovalDraftLaws.{visible_append}
use Rattle.rt_plans.proofs.StateChanges.{stamps_changed}
use Rattle.rt_plans.proofs.TagDocuments.{stamps_made, tags_are_counted}
use Rattle.rt_plans.proofs.TagDraftLaws.{tags_may_be_made}
use Rattle.rt_plans.proofs.TagEffects.{some_among}
use Rattle.rt_plans.proofs.TagNames.{AreNamed, CellsNamed, all_tagged_named, every_filter, on_names}

-- ONE CHARACTER

-- the Tag that takes a tag off a character
abbrev pub tag_off : Stamp → Word → Body
tag_off stamp name = Tag false name (span_of stamp ∷ [])

one_tag : (stamp : Stamp) (name : Word) → tag_drafts MOST_SPANS false name (stamp ∷ []) ≡ tag_off stamp name ∷ []
one_tag stamp name = refl

alone : (stamp : Stamp) → IsDistinct is_same (stamp ∷ [])
alone stamp = distinct_more stamp [] refl none_distinct

-- a stamp is a character's, or the last newline's
abbrev pub IsKnown : List Operation → Stamp → Type 0
IsKnown log stamp = (has_character log stamp ≡ true) ⊎ (stamp ≡ FINAL)

known_alone : (log : List Operation) (stamp : Stamp) → IsKnown log stamp → (s : Stamp) → is_among (stamp ∷ []) s ≡ true → IsKnown log s
known_alone log stamp k s h = split (is_same stamp s)
    (λ e. subst (IsKnown log) (same_from_true stamp s e) k)
    (λ e. absurd (let no : false ≡ true = ap (λ b. b || false) (sym e) ∙ h in cc no))

tag_may : (site : ℕ) (log : List Operation) (stamp : Stamp) (name : Word) → is_name name ≡ true → IsKnown log stamp → MayBeMade site log (tag_off stamp name ∷ [])
tag_may site log stamp name n k =
    subst (MayBeMade site log) (one_tag stamp name)
    (tags_may_be_made site name false (stamp ∷ []) (alone stamp) MOST_SPANS log n (omega arith) (omega arith) (known_alone log stamp k))

pub still_known : (site : ℕ) (drafts : List Body) (log : List Operation) (stamp : Stamp) → IsKnown log stamp → IsKnown (with_drafts site drafts log) stamp
still_known site drafts log stamp (inl h) = inl (stays_character site drafts log stamp h)
still_known site drafts log stamp (inr h) = inr h

-- SEVERAL TAGS

pub bared_grows : (names : List Word) (doc_value : DocValue) (stamp : Stamp) → doc_value.count ≤ (bared doc_value stamp names).count
bared_grows [] doc_value stamp = omega arith
bared_grows (name ∷ names) doc_value stamp =
    let next : DocValue = with_tag doc_value name false (stamp ∷ []) in
    let one : doc_value.count ≤ next.count = omega arith in
    omega (arith, one, bared_grows names next stamp)

pub bared_may : (names : List Word) (site : ℕ) (log : List Operation) (stamp : Stamp) → list_all is_name names ≡ true → IsKnown log stamp → MayBeMade site log (newline_drafts stamp names)
bared_may [] site log stamp n k = tt
bared_may (name ∷ names) site log stamp n k =
    let p = and_parts (is_name name) (list_all is_name names) n in
    let first = tag_off stamp name ∷ [] in
    may_append site first (newline_drafts stamp names) log (tag_may site log stamp name p.0 k)
    (bared_may names site (with_drafts site first log) stamp p.1 (still_known site first log stamp k))

pub bared_counted : (names : List Word) (site : ℕ) (log : List Operation) (doc_value : DocValue) (stamp : Stamp) → doc_value.count ≡ greatest_last_count log
    → greatest_last_count (with_drafts site (newline_drafts stamp names) log) ≡ (bared doc_value stamp names).count
bared_counted [] site log doc_value stamp e = sym e
bared_counted (name ∷ names) site log doc_value stamp e =
    let first = tag_off stamp name ∷ [] in
    let next : DocValue = with_tag doc_value name false (stamp ∷ []) in
    let one : next.count ≡ greatest_last_count (with_drafts site first log) =
    ap (λ k. k + operations_for (span_count (stamp ∷ []))) e ∙ sym (tags_are_counted site log false name (stamp ∷ []) (alone stamp))
    ∙ ap (λ drafts. greatest_last_count (with_drafts site drafts log)) (one_tag stamp name) in
    ap greatest_last_count (drafts_append site first (newline_drafts stamp names) log) ∙ bared_counted names site (with_drafts site first log) next stamp one

pub bared_made : (names : List Word) (site : ℕ) (log : List Operation) (doc_value : DocValue) (stamp : Stamp) → 0 < site → IsHistory log → IsDocument site log doc_value → list_all is_name names ≡ true → IsKnown log stamp
    → (bared doc_value stamp names).count ≤ GREATEST_COUNT → IsDocument site (with_drafts site (newline_drafts stamp names) log) (bared doc_value stamp names)
bared_made [] site log doc_value stamp p h doc n k l = doc
bared_made (name ∷ names) site log doc_value stamp p h doc n k l =
    let q = and_parts (is_name name) (list_all is_name names) n in
    let first = tag_off stamp name ∷ [] in
    let next : DocValue = with_tag doc_value name false (stamp ∷ []) in
    let few : next.count ≤ GREATEST_COUNT = omega (arith, l, bared_grows names next stamp) in
    let may : MayBeMade site log (tag_drafts MOST_SPANS false name (stamp ∷ [])) = subst (MayBeMade site log) (sym (one_tag stamp name)) (tag_may site log stamp name q.0 k) in
    let one = stamps_made site log doc_value false name (stamp ∷ []) p h doc q.0 (alone stamp) may few in
    let larger = with_drafts site first log in
    let history : IsHistory larger = subst (λ drafts. IsHistory (with_drafts site drafts log)) (one_tag stamp name) one.0 in
    let document : IsDocument site larger next = subst (λ drafts. IsDocument site (with_drafts site drafts log) next) (one_tag stamp name) one.1 in
    subst (λ log. IsDocument site log (bared next stamp names)) (sym (drafts_append site first (newline_drafts stamp names) log))
    (bared_made names site larger next stamp p history document q.1 (still_known site first log stamp k) l)

pub bared_stamps : (names : List Word) (doc_value : DocValue) (stamp : Stamp) → stamps_of (bared doc_value stamp names).cells ≡ stamps_of doc_value.cells
bared_stamps [] doc_value stamp = refl
bared_stamps (name ∷ names) doc_value stamp =
    bared_stamps names (with_tag doc_value name false (stamp ∷ [])) stamp
    ∙ stamps_changed (cell_with_tag doc_value.site doc_value.count name false (stamp ∷ [])) (tagged_state doc_value.site doc_value.count name false (stamp ∷ [])) doc_value.cells

pub bared_named : (names : List Word) (doc_value : DocValue) (stamp : Stamp) → list_all is_name names ≡ true → CellsNamed doc_value.cells → CellsNamed (bared doc_value stamp names).cells
bared_named [] doc_value stamp n h = h
bared_named (name ∷ names) doc_value stamp n h =
    let p = and_parts (is_name name) (list_all is_name names) n in
    bared_named names (with_tag doc_value name false (stamp ∷ [])) stamp p.1 (all_tagged_named doc_value.site doc_value.count name false (stamp ∷ []) doc_value.cells p.0 h)

-- THE NEWLINE THAT STAYS

-- it is the visible cell of some place
pub newline_at : (doc_value : DocValue) (loss : Loss) (cell : TaggedCell) → newline_left doc_value loss ≡ Some cell → (place : ℕ) × (slice_get (visible_of doc_value.cells) place ≡ Some cell)
newline_at doc_value loss cell e = by loss.newline e
  where
    by : (o : Option ℕ) → option_and_then (slice_get (visible_of doc_value.cells)) o ≡ Some cell → (place : ℕ) × (slice_get (visible_of doc_value.cells) place ≡ Some cell)
    by None k = let bad : ⊥ = cc in absurd bad
    by (Some place) k = (place, k)

same_some : (x y : TaggedCell) → Some x ≡ Some y → x ≡ y
same_some x y e = cc

-- what holds of all cells holds of the one at a place
pub of_one : (P : TaggedCell → Type 0) (cells : List TaggedCell) (place : ℕ) (cell : TaggedCell) → AllByRecursion P cells → slice_get cells place ≡ Some cell → P cell
of_one P [] place cell h e = let bad : ⊥ = cc in absurd bad
of_one P (x ∷ xs) zero cell h e = subst P (same_some x cell e) h.0
of_one P (x ∷ xs) (suc place) cell h e = of_one P xs place cell h.1 e

among_at : (cells : List TaggedCell) (place : ℕ) (cell : TaggedCell) → slice_get cells place ≡ Some cell → is_among (stamps_of cells) cell.stamp ≡ true
among_at [] place cell e = let bad : ⊥ = cc in absurd bad
among_at (x ∷ xs) zero cell e =
    subst (λ (c : TaggedCell). is_among (stamps_of (x ∷ xs)) c.stamp ≡ true) (same_some x cell e) (or_left (is_same x.stamp x.stamp) _ (same_refl x.stamp))
among_at (x ∷ xs) (suc place) cell e = or_right (is_same x.stamp cell.stamp) _ (among_at xs place cell e)

pub newline_among : (doc_value : DocValue) (loss : Loss) (cell : TaggedCell) → newline_left doc_value loss ≡ Some cell → is_among (stamps_of doc_value.cells) cell.stamp ≡ true
newline_among doc_value loss cell e =
    let w = newline_at doc_value loss cell e in
    some_among (λ (c : TaggedCell). not c.gone) doc_value.cells cell.stamp (among_at (visible_of doc_value.cells) w.0 cell w.1)

pub newline_names : (doc_value : DocValue) (loss : Loss) (cell : TaggedCell) → CellsNamed doc_value.cells → newline_left doc_value loss ≡ Some cell → list_all is_name (names_on cell.state) ≡ true
newline_names doc_value loss cell h e =
    let w = newline_at doc_value loss cell e in
    let P = λ (c : TaggedCell). AreNamed c.state in
    (on_names cell.state (of_one P (visible_of doc_value.cells) w.0 cell (every_filter P (λ (c : TaggedCell). not c.gone) doc_value.cells h) w.1)).each

-- what holds of the removal, and where a newline stays, also without its tags, holds of the deletion
pub loss_has : (P : DocValue → Type 0) (doc_value : DocValue) (loss : Loss) → P (without_places doc_value loss.places)
    → ((cell : TaggedCell) → newline_left doc_value loss ≡ Some cell → P (bared (without_places doc_value loss.places) cell.stamp (names_on cell.state))) → P (without_text doc_value loss)
loss_has P doc_value loss h f = by (newline_left doc_value loss) refl
  where
    left : DocValue
    left = without_places doc_value loss.places

    by : (o : Option TaggedCell) → newline_left doc_value loss ≡ o → P (unwrap_or (option_map (λ (cell : TaggedCell). bared left cell.stamp (names_on cell.state)) o) left)
    by None e = h
    by (Some cell) e = f cell e

-- THE LAST NEWLINE OF A DOCUMENT

pub record EndsAs (doc_value : DocValue) (front : List TaggedCell) (last : TaggedCell) : Type 0 where
  pub is : doc_value.cells ≡ front ++ last ∷ []
  pub stamp : last.stamp ≡ FINAL
  pub gone : last.gone ≡ false

pub document_ends : (site : ℕ) (log : List Operation) (doc_value : DocValue) (h : IsHistory log) → IsDocument site log doc_value → EndsAs doc_value (cells_last log h).0 (cell_in log final_character)
document_ends site log doc_value h doc =
    let l = (cells_last log h).1 in
    record { is = doc.cells ∙ l.is; stamp = l.stamp; gone = l.gone }

pub length_ends : (doc_value : DocValue) (front : List TaggedCell) (last : TaggedCell) → EndsAs doc_value front last → length (visible_of front) + 1 ≡ length (text_of doc_value.cells)
length_ends doc_value front last e =
    omega (arith, length_text doc_value.cells, ap (λ (cells : List TaggedCell). length (visible_of cells)) e.is, visible_append front last e.gone)
