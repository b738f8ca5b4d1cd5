-- Documents whose replicas make the operations of tags.
use Rattle.std.proofs.Common.{◌≡◌, ◌∙◌, ◌⊎◌, ℕ, ◌<◌, ◌≤◌, Bool, true, false, cond, List, [], ◌∷◌, None, Some, inl, inr, length, map, refl, sym, ap, subst}
use Rattle.std.specs.Str.{bytes_eq}
use Rattle.std.proofs.lemmas.List.{append-nil}
use Rattle.rt_marks.specs.Marks.{Mark}
use Rattle.rt_ops.specs.Operations.{Body}
use Rattle.rt_ops.specs.Rules.{is_name}
use Rattle.rt_stamps.specs.declared.fault.Fault.{Fault}
use Rattle.rt_stamps.specs.declared.fault.Fault.TheVariants.{NoMemory}
use Rattle.rt_stamps.specs.declared.limits.TheConstants.{GREATEST_COUNT, MOST_SPANS}
use Rattle.rt_stamps.specs.Words.{Word}
use Rattle.rt_store.specs.declared.cell.Cell.{Cell}
use Rattle.rt_store.specs.Cells.{text_of}
use Rattle.rt_store.specs.Shown.{shown}
use Rattle.rt_store.proofs.Shown.{length_shown}
use Rattle.rt_tags.specs.States.{TagStates, state_at}
use Rattle.rt_tags.specs.Tags.{all_forgotten, sel, with_name, without}
use Rattle.rt_rga.specs.Cells.{cells_of}
use Rattle.rt_rga.specs.Drafts.{with_drafts}
use Rattle.rt_rga.specs.Histories.{IsHistory, greatest_last_count}
use Rattle.rt_rga.specs.Kept.{ReplicaValue}
use Rattle.rt_rga.specs.Made.{refusal_of}
use Rattle.rt_rga.specs.Requests.{MayBeMade, characters_in_all}
use Rattle.rt_rga.proofs.Requests.{all_count_on}
use Rattle.rt_plans.specs.DraftLaws.{IsDocument}
use Rattle.rt_plans.specs.DocValue.{DocValue, logged}
use Rattle.rt_plans.specs.Listed.{AreListed}
use Rattle.rt_plans.specs.TagDrafts.{tag_deletion_drafts, tag_drafts_at, tags_drafts_at}
use Rattle.rt_plans.specs.TagWrites.{with_tag_at, without_tags}
use Rattle.rt_plans.proofs.ForgottenNames.{forgotten_in_turn, in_turn}
use Rattle.rt_plans.proofs.CharacterCounts.{deletions_insert_none, tags_insert_none}
use Rattle.rt_plans.proofs.DeletedNames.{deletions_made, deletions_may}
use Rattle.rt_plans.proofs.TagDocuments.{all_deletions_counted, all_tags_counted, tags_made, tags_may}
use Rattle.rt_plans.proofs.TagPlaces.{tag_text}
use Rattle.rt_text.specs.Commands.{clock_check}
use Rattle.rt_text.specs.Kept.{IsDoc}
use Rattle.rt_text.specs.Widgets.{AreSiteMarks}
use Rattle.rt_text.proofs.MadeDocument.{clock_fits, counts_alone, seen, seen_made}

-- a document of a real site, within its limit of cells
pub record IsOfSite (doc_value : DocValue) : Type 0 where
  pub history : IsHistory doc_value.log
  pub document : IsDocument doc_value.site doc_value.log doc_value
  pub site : 0 < doc_value.site
  pub few : length doc_value.cells ≤ doc_value.limit

-- The operations of drafts, which may be made, leave an edited document, and are refused for their counts alone.
pub record Makes (doc_value : DocValue) (drafts : List Body) (edited : DocValue) : Type 0 where
  pub may : MayBeMade doc_value.site doc_value.log drafts
  pub refused : refusal_of doc_value.limit drafts doc_value.log ≡ clock_check edited.count
  pub made : edited.count ≤ GREATEST_COUNT → IsDocument doc_value.site (with_drafts doc_value.site drafts doc_value.log) edited

-- drafts that insert nothing, and are counted as the edited document is
pub makes_by : (doc_value edited : DocValue) (drafts : List Body) → IsOfSite doc_value → MayBeMade doc_value.site doc_value.log drafts → characters_in_all drafts ≡ 0 → greatest_last_count (with_drafts doc_value.site drafts doc_value.log) ≡ edited.count
    → (edited.count ≤ GREATEST_COUNT → IsDocument doc_value.site (with_drafts doc_value.site drafts doc_value.log) edited) → Makes doc_value drafts edited
makes_by doc_value edited drafts d may none count made = record {
  may = may;
  refused = counts_alone doc_value.limit drafts doc_value.log edited.count (subst (λ n. n ≤ doc_value.limit) (ap length d.document.cells) d.few) none (sym (all_count_on doc_value.site drafts doc_value.log) ∙ count);
  made = made;
}

-- ONE TAG

-- a document after a tag was put on some characters, or taken off, and is listed
abbrev pub tagged_at : DocValue → (ℕ → Bool) → Bool → Word → DocValue
tagged_at doc_value places on name = let new = with_tag_at doc_value places on name in
    record doc_value { cells = new.cells; count = new.count; tags = cond on (with_name name doc_value.tags) doc_value.tags }

pub tagged_makes : (doc_value : DocValue) (places : ℕ → Bool) (on : Bool) (name : Word) → IsOfSite doc_value → is_name name ≡ true → Makes doc_value (tag_drafts_at MOST_SPANS places on name doc_value.cells) (tagged_at doc_value places on name)
tagged_makes doc_value places on name d n =
    let one = tag_drafts_at MOST_SPANS places on name doc_value.cells in
    let same : tags_drafts_at MOST_SPANS doc_value places on (name ∷ []) ≡ one = append-nil one in
    makes_by doc_value (tagged_at doc_value places on name) one d (subst (MayBeMade doc_value.site doc_value.log) same (tags_may doc_value.site doc_value.log doc_value places on (name ∷ []) d.history d.document (n, tt)))
    (ap characters_in_all (sym same) ∙ tags_insert_none (name ∷ []) doc_value places on)
    (ap (λ l. greatest_last_count (with_drafts doc_value.site l doc_value.log)) (sym same) ∙ all_tags_counted doc_value.site doc_value.log doc_value places on (name ∷ []) d.history d.document)
    (λ l.
    let doc = subst (λ drafts. IsDocument doc_value.site (with_drafts doc_value.site drafts doc_value.log) (with_tag_at doc_value places on name)) same
    (tags_made doc_value.site doc_value.log doc_value places on (name ∷ []) d.site d.history d.document (n, tt) l) in
    record { cells = doc.cells; site = doc.site; count = doc.count })

-- DELETED TAGS

pub deleted_makes : (doc_value : DocValue) (names : List Word) → IsOfSite doc_value → Makes doc_value (tag_deletion_drafts MOST_SPANS doc_value names) (without_tags doc_value names)
deleted_makes doc_value names d =
    makes_by doc_value (without_tags doc_value names) (tag_deletion_drafts MOST_SPANS doc_value names) d (deletions_may doc_value.site doc_value.log doc_value names d.history d.document) (deletions_insert_none names doc_value)
    (all_deletions_counted doc_value.site doc_value.log doc_value names d.history d.document) (deletions_made doc_value.site doc_value.log doc_value names d.site d.history d.document)

-- a document that has a limit, marks and a text as before, and other tags
pub record IsLeftOf (doc_value new : DocValue) (names : List Word) : Type 0 where
  pub limit : new.limit ≡ doc_value.limit
  pub marks : new.marks ≡ doc_value.marks
  pub tags : new.tags ≡ names
  pub text : text_of new.cells ≡ text_of doc_value.cells

left_in_turn : (names : List Word) (doc_value : DocValue) → IsLeftOf doc_value (without_tags doc_value names) (forgotten_in_turn names doc_value.tags)
left_in_turn [] doc_value = record { limit = refl; marks = refl; tags = refl; text = refl }
left_in_turn (name ∷ names) doc_value =
    let off = with_tag_at doc_value (λ _. true) false name in
    let next : DocValue = record off { tags = without name off.tags } in
    let here = left_in_turn names doc_value in
    let there = left_in_turn names next in
    let less : IsLeftOf doc_value (without_tags next names) (forgotten_in_turn names (without name doc_value.tags)) =
    record { limit = there.limit; marks = there.marks; tags = there.tags; text = there.text ∙ tag_text doc_value (λ _. true) false name } in
    elim (bytes_eq name sel) as (λ b. IsLeftOf doc_value (without_tags (cond b doc_value next) names) (forgotten_in_turn names (cond b doc_value.tags (without name doc_value.tags)))) [ true ↦ here | false ↦ less ]

pub left_of_deletion : (names : List Word) (doc_value : DocValue) → IsLeftOf doc_value (without_tags doc_value names) (all_forgotten names doc_value.tags)
left_of_deletion names doc_value =
    let left = left_in_turn names doc_value in record { limit = left.limit; marks = left.marks; tags = left.tags ∙ in_turn names doc_value.tags; text = left.text }

-- A REPLICA'S ANSWER

module _ (doc_value edited : DocValue) (drafts : List Body) (makes : Makes doc_value drafts edited) where
  pub fits : refusal_of doc_value.limit drafts doc_value.log ≡ None → edited.count ≤ GREATEST_COUNT
  fits e = clock_fits edited.count (sym makes.refused ∙ e)

  -- the clock, or want of memory
  pub refuses : (fault : Fault) → (refusal_of doc_value.limit drafts doc_value.log ≡ Some fault) ⊎ ((fault ≡ NoMemory) × (refusal_of doc_value.limit drafts doc_value.log ≡ None)) → (fault ≡ NoMemory) ⊎ (clock_check edited.count ≡ Some fault)
  refuses fault (inl e) = inr (sym makes.refused ∙ e)
  refuses fault (inr e) = inl e.0

  -- what is seen of the replica, its marks and its tags is the edited document
  pub makes_seen : (new : ReplicaValue) (marks : List Mark) (tags : List Word) → refusal_of doc_value.limit drafts doc_value.log ≡ None → new.log ≡ with_drafts doc_value.site drafts doc_value.log → new.cells ≡ cells_of new.log
      → new.site ≡ doc_value.site → new.limit ≡ doc_value.limit → marks ≡ edited.marks → tags ≡ edited.tags → edited.limit ≡ doc_value.limit → seen new marks tags ≡ logged doc_value drafts edited
  makes_seen new marks tags e log cells site limit m t l = (λ i. seen new (m i) (t i)) ∙ seen_made doc_value edited drafts new log cells site limit l (makes.made (fits e))

-- marks and tags that are kept beside new cells with the same text
pub kept_beside : (doc_value new : DocValue) (marks : List Mark) → AreSiteMarks (length (text_of doc_value.cells)) marks → text_of new.cells ≡ text_of doc_value.cells → AreListed new.tags new.cells → IsDoc new.cells marks new.tags
kept_beside doc_value new marks placed text listed = record {
  placed = subst (λ n. AreSiteMarks n marks) (sym (ap length text)) placed;
  listed = listed;
}

-- what is so of a document by its cells as they are kept
pub of_site : (table : TagStates) (cells : List (Cell ℕ)) (doc_value : DocValue) → IsHistory doc_value.log → IsDocument doc_value.site doc_value.log doc_value → 0 < doc_value.site → map (shown table) cells ≡ doc_value.cells → length cells ≤ doc_value.limit → IsOfSite doc_value
of_site table cells doc_value history document site e few = record {
  history = history;
  document = document;
  site = site;
  few = subst (λ n. n ≤ doc_value.limit) (sym (length_shown (state_at table) cells) ∙ ap length e) few;
}
