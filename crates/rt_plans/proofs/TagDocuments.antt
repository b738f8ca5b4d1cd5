-- Documents after tag operations.
use Rattle.std.proofs.Common.{◌≡◌, ℕ, ◌+◌, ◌<◌, ◌≤◌, List, [], ◌∷◌, ◌++◌, Bool, true, false, cond, map, filter, sym, ◌∙◌, ap, subst, arith}
use Rattle.std.specs.List.{AllByRecursion, IsDistinct}
use Rattle.std.specs.Str.{bytes_eq}
use Rattle.rt_stamps.specs.declared.limits.TheConstants.{GREATEST_COUNT, MOST_SPANS}
use Rattle.rt_stamps.specs.declared.stamp.Stamp.{Stamp}
use Rattle.rt_stamps.specs.Stamps.{is_same}
use Rattle.rt_stamps.specs.Words.{Word}
use Rattle.rt_ops.specs.Operations.{Operation}
use Rattle.rt_ops.specs.Rules.{is_name}
use Rattle.rt_tags.specs.Tags.{sel, without}
use Rattle.rt_store.specs.Cells.{AreDistinct, stamps_of}
use Rattle.rt_store.specs.Shown.{TaggedCell}
use Rattle.rt_store.specs.Spans.{is_among}
use Rattle.rt_store.proofs.Distinct.{distinct_more, first_apart, none_distinct, others_distinct, split}
use Rattle.rt_rga.specs.Cells.{cells_of}
use Rattle.rt_rga.specs.Drafts.{with_drafts}
use Rattle.rt_rga.specs.Histories.{IsHistory, greatest_last_count}
use Rattle.rt_rga.specs.Requests.{MayBeMade, last_count_after}
use Rattle.rt_rga.proofs.Appending.{drafts_append, may_append}
use Rattle.rt_rga.proofs.Corollaries.{cells_distinct}
use Rattle.rt_rga.proofs.Drafting.{made}
use Rattle.rt_rga.proofs.Requests.{all_count_on, drafts_for}
use Rattle.rt_plans.specs.DraftLaws.{IsDocument}
use Rattle.rt_plans.specs.DocValue.{DocValue}
use Rattle.rt_plans.specs.Removals.{cells_at, operations_for, span_count}
use Rattle.rt_plans.specs.TagDrafts.{tag_deletion_drafts, tag_drafts, tag_drafts_at, tags_drafts_at}
use Rattle.rt_plans.specs.TagWrites.{changed_stamps, is_changed, cell_with_tag, with_tag, with_tag_at, with_tags_at, without_tags}
use Rattle.rt_plans.proofs.DistinctLaws.{stamps_within}
use Rattle.rt_plans.proofs.DraftSteps.{AreKnownCells, known_cells, known_later}
use Rattle.rt_plans.proofs.Putting.{distinct_cells_at, stamps_at_cells, tagged_state}
use Rattle.rt_plans.proofs.StateChanges.{stamps_changed}
use Rattle.rt_plans.proofs.TagDraftLaws.{tags_as_flat, tags_counted, tags_may_be_made}
use Rattle.rt_plans.proofs.TagEffects.{some_among}
use Rattle.rt_plans.proofs.WriterLaws.{tag_grows}

-- WHAT IS NAMED

distinct_step : (b : Bool) (x : Stamp) (ys : List Stamp) → is_among ys x ≡ false → IsDistinct is_same ys → IsDistinct is_same (cond b (x ∷ ys) ys)
distinct_step true x ys e h = distinct_more x ys e h
distinct_step false x ys e h = h

pub distinct_some : (test : TaggedCell → Bool) (cells : List TaggedCell) → AreDistinct cells → IsDistinct is_same (stamps_of (filter test cells))
distinct_some test [] h = none_distinct
distinct_some test (c ∷ cs) h =
    let rest = distinct_some test cs (others_distinct c.stamp (stamps_of cs) h) in
    let new : is_among (stamps_of (filter test cs)) c.stamp ≡ false =
    split (is_among (stamps_of (filter test cs)) c.stamp)
    (λ e. absurd (let there = some_among test cs c.stamp e in let apart = first_apart c.stamp (stamps_of cs) h in cc (there, apart)))
    (λ e. e) in
    by (test c) (distinct_step (test c) c.stamp (stamps_of (filter test cs)) new rest)
  where
    by : (b : Bool) → IsDistinct is_same (cond b (c.stamp ∷ stamps_of (filter test cs)) (stamps_of (filter test cs))) → IsDistinct is_same (stamps_of (cond b (c ∷ filter test cs) (filter test cs)))
    by true k = k
    by false k = k

-- the characters at places that a tag edit changes
abbrev changed_at : (ℕ → Bool) → Bool → Word → List TaggedCell → List Stamp
changed_at places on name cells = changed_stamps name on (cells_at places 0 cells)

distinct_changed : (places : ℕ → Bool) (on : Bool) (name : Word) (cells : List TaggedCell) → AreDistinct cells → IsDistinct is_same (changed_at places on name cells)
distinct_changed places on name cells d = distinct_some (is_changed name on) (cells_at places 0 cells) (distinct_cells_at places 0 cells d)

at_among : (places : ℕ → Bool) (cells : List TaggedCell) (s : Stamp) → is_among (stamps_of (cells_at places 0 cells)) s ≡ true → is_among (stamps_of cells) s ≡ true
at_among places cells s k = split (is_among (stamps_of cells) s)
    (λ e. e)
    (λ e. absurd (let no = ap (λ l. is_among l s) (stamps_at_cells places 0 cells) ∙ stamps_within places 0 cells s e in cc (no, k)))

known_changed : (log : List Operation) (places : ℕ → Bool) (on : Bool) (name : Word) (cells : List TaggedCell) → AreKnownCells log cells
    → AreKnownCells log (filter (is_changed name on) (cells_at places 0 cells))
known_changed log places on name cells f s k = f s (at_among places cells s (some_among (is_changed name on) (cells_at places 0 cells) s k))

pub one_may_be_made : (site : ℕ) (log : List Operation) (places : ℕ → Bool) (on : Bool) (name : Word) (cells : List TaggedCell) → AreDistinct cells → AreKnownCells log cells → is_name name ≡ true
    → MayBeMade site log (tag_drafts_at MOST_SPANS places on name cells)
one_may_be_made site log places on name cells d f n =
    tags_may_be_made site name on (changed_at places on name cells) (distinct_changed places on name cells d) MOST_SPANS log n (omega arith) (omega arith) (known_changed log places on name cells f)

-- the stamps stay
pub tag_stamps : (document : DocValue) (places : ℕ → Bool) (on : Bool) (name : Word) → stamps_of (with_tag_at document places on name).cells ≡ stamps_of document.cells
tag_stamps document places on name =
    let stamps = changed_at places on name document.cells in
    stamps_changed (cell_with_tag document.site document.count name on stamps) (tagged_state document.site document.count name on stamps) document.cells

pub known_tagged : (log : List Operation) (document : DocValue) (places : ℕ → Bool) (on : Bool) (name : Word) → AreKnownCells log document.cells → AreKnownCells log (with_tag_at document places on name).cells
known_tagged log document places on name f s k = f s (ap (λ l. is_among l s) (sym (tag_stamps document places on name)) ∙ k)

-- ONE TAG

-- on characters that are named by their stamps
pub stamps_made : (site : ℕ) (log : List Operation) (document : DocValue) (on : Bool) (name : Word) (stamps : List Stamp) → 0 < site → IsHistory log → IsDocument site log document → is_name name ≡ true
    → IsDistinct is_same stamps → MayBeMade site log (tag_drafts MOST_SPANS on name stamps) → (with_tag document name on stamps).count ≤ GREATEST_COUNT
    → IsHistory (with_drafts site (tag_drafts MOST_SPANS on name stamps) log) × IsDocument site (with_drafts site (tag_drafts MOST_SPANS on name stamps) log) (with_tag document name on stamps)
stamps_made site log document on name stamps p h doc n distinct may l =
    let drafts = tag_drafts MOST_SPANS on name stamps in
    let counts = tags_counted site name on stamps distinct (greatest_last_count log) in
    let fits : last_count_after (greatest_last_count log) drafts ≤ GREATEST_COUNT = omega (arith, counts, doc.count, l) in
    let all = made site drafts log p h (drafts_for site log drafts may fits) in (
      all.history,
      record {
        cells = (λ i. map (cell_with_tag (doc.site i) (doc.count i) name on stamps) (doc.cells i)) ∙ sym (all.cells ∙ tags_as_flat site name on stamps distinct log (cells_of log));
        site = doc.site;
        count = ap (λ k. k + operations_for (span_count stamps)) doc.count ∙ sym (all_count_on site drafts log ∙ counts);
      },
    )

pub one_made : (site : ℕ) (log : List Operation) (document : DocValue) (places : ℕ → Bool) (on : Bool) (name : Word) → 0 < site → IsHistory log → IsDocument site log document → is_name name ≡ true
    → (with_tag_at document places on name).count ≤ GREATEST_COUNT
    → IsHistory (with_drafts site (tag_drafts_at MOST_SPANS places on name document.cells) log)
    × IsDocument site (with_drafts site (tag_drafts_at MOST_SPANS places on name document.cells) log) (with_tag_at document places on name)
one_made site log document places on name p h doc n l =
    let d : AreDistinct document.cells = subst AreDistinct (sym doc.cells) (cells_distinct log h) in
    stamps_made site log document on name (changed_at places on name document.cells) p h doc n (distinct_changed places on name document.cells d)
    (one_may_be_made site log places on name document.cells d (known_cells log document.cells h doc.cells) n) l

pub tags_are_counted : (site : ℕ) (log : List Operation) (on : Bool) (name : Word) (stamps : List Stamp) → IsDistinct is_same stamps
    → greatest_last_count (with_drafts site (tag_drafts MOST_SPANS on name stamps) log) ≡ greatest_last_count log + operations_for (span_count stamps)
tags_are_counted site log on name stamps d = all_count_on site (tag_drafts MOST_SPANS on name stamps) log ∙ tags_counted site name on stamps d (greatest_last_count log)

-- SEVERAL TAGS

pub tags_grow : (names : List Word) (document : DocValue) (places : ℕ → Bool) (on : Bool) → document.count ≤ (with_tags_at document places on names).count
tags_grow [] document places on = omega arith
tags_grow (name ∷ names) document places on = omega (arith, tag_grows document places on name, tags_grow names (with_tag_at document places on name) places on)

all_may_be_made : (names : List Word) (site : ℕ) (log : List Operation) (document : DocValue) (places : ℕ → Bool) (on : Bool) → AreDistinct document.cells → AreKnownCells log document.cells
    → AllByRecursion (λ name. is_name name ≡ true) names → MayBeMade site log (tags_drafts_at MOST_SPANS document places on names)
all_may_be_made [] site log document places on d f n = tt
all_may_be_made (name ∷ names) site log document places on d f n =
    let one = tag_drafts_at MOST_SPANS places on name document.cells in
    let next = with_tag_at document places on name in
    may_append site one (tags_drafts_at MOST_SPANS next places on names) log (one_may_be_made site log places on name document.cells d f n.0)
    (all_may_be_made names site (with_drafts site one log) next places on (subst (IsDistinct is_same) (sym (tag_stamps document places on name)) d)
    (known_later site one log next.cells (known_tagged log document places on name f)) n.1)

pub tags_may : (site : ℕ) (log : List Operation) (document : DocValue) (places : ℕ → Bool) (on : Bool) (names : List Word) → IsHistory log → IsDocument site log document
    → AllByRecursion (λ name. is_name name ≡ true) names → MayBeMade site log (tags_drafts_at MOST_SPANS document places on names)
tags_may site log document places on names h doc n =
    all_may_be_made names site log document places on (subst AreDistinct (sym doc.cells) (cells_distinct log h)) (known_cells log document.cells h doc.cells) n

all_made : (names : List Word) (site : ℕ) (log : List Operation) (document : DocValue) (places : ℕ → Bool) (on : Bool) → 0 < site → IsHistory log → IsDocument site log document
    → AllByRecursion (λ name. is_name name ≡ true) names → (with_tags_at document places on names).count ≤ GREATEST_COUNT
    → IsDocument site (with_drafts site (tags_drafts_at MOST_SPANS document places on names) log) (with_tags_at document places on names)
all_made [] site log document places on p h doc n l = doc
all_made (name ∷ names) site log document places on p h doc n l =
    let drafts = tag_drafts_at MOST_SPANS places on name document.cells in
    let next = with_tag_at document places on name in
    let first : next.count ≤ GREATEST_COUNT = omega (arith, l, tags_grow names next places on) in
    let one = one_made site log document places on name p h doc n.0 first in
    subst (λ log. IsDocument site log (with_tags_at next places on names)) (sym (drafts_append site drafts (tags_drafts_at MOST_SPANS next places on names) log))
    (all_made names site (with_drafts site drafts log) next places on p one.0 one.1 n.1 l)

pub tags_made : (site : ℕ) (log : List Operation) (document : DocValue) (places : ℕ → Bool) (on : Bool) (names : List Word) → 0 < site → IsHistory log → IsDocument site log document
    → AllByRecursion (λ name. is_name name ≡ true) names → (with_tags_at document places on names).count ≤ GREATEST_COUNT
    → IsDocument site (with_drafts site (tags_drafts_at MOST_SPANS document places on names) log) (with_tags_at document places on names)
tags_made site log document places on names p h doc n l = all_made names site log document places on p h doc n l

-- COUNTS

one_counted : (site : ℕ) (log : List Operation) (document : DocValue) (places : ℕ → Bool) (on : Bool) (name : Word) → AreDistinct document.cells → document.count ≡ greatest_last_count log
    → (with_tag_at document places on name).count ≡ greatest_last_count (with_drafts site (tag_drafts_at MOST_SPANS places on name document.cells) log)
one_counted site log document places on name d e =
    let stamps = changed_at places on name document.cells in
    ap (λ k. k + operations_for (span_count stamps)) e ∙ sym (tags_are_counted site log on name stamps (distinct_changed places on name document.cells d))

pub tags_count : (names : List Word) (site : ℕ) (log : List Operation) (document : DocValue) (places : ℕ → Bool) (on : Bool) → AreDistinct document.cells → document.count ≡ greatest_last_count log
    → greatest_last_count (with_drafts site (tags_drafts_at MOST_SPANS document places on names) log) ≡ (with_tags_at document places on names).count
tags_count [] site log document places on d e = sym e
tags_count (name ∷ names) site log document places on d e =
    let drafts = tag_drafts_at MOST_SPANS places on name document.cells in
    let next = with_tag_at document places on name in
    ap greatest_last_count (drafts_append site drafts (tags_drafts_at MOST_SPANS next places on names) log)
    ∙ tags_count names site (with_drafts site drafts log) next places on (subst (IsDistinct is_same) (sym (tag_stamps document places on name)) d) (one_counted site log document places on name d e)

pub all_tags_counted : (site : ℕ) (log : List Operation) (document : DocValue) (places : ℕ → Bool) (on : Bool) (names : List Word) → IsHistory log → IsDocument site log document
    → greatest_last_count (with_drafts site (tags_drafts_at MOST_SPANS document places on names) log) ≡ (with_tags_at document places on names).count
all_tags_counted site log document places on names h doc = tags_count names site log document places on (subst AreDistinct (sym doc.cells) (cells_distinct log h)) doc.count

deletions_count : (names : List Word) (site : ℕ) (log : List Operation) (document : DocValue) → AreDistinct document.cells → document.count ≡ greatest_last_count log
    → greatest_last_count (with_drafts site (tag_deletion_drafts MOST_SPANS document names) log) ≡ (without_tags document names).count
deletions_count [] site log document d e = sym e
deletions_count (name ∷ names) site log document d e =
    let drafts = tag_drafts_at MOST_SPANS (λ _. true) false name document.cells in
    let off = with_tag_at document (λ _. true) false name in
    let next : DocValue = record off { tags = without name off.tags } in
    let at : Bool → Type 0 = λ b. greatest_last_count (with_drafts site (cond b [] drafts ++ tag_deletion_drafts MOST_SPANS (cond b document next) names) log) ≡ (without_tags (cond b document next) names).count in
    split (bytes_eq name sel)
    (λ f. subst at (sym f) (deletions_count names site log document d e))
    (λ f. subst at (sym f)
    (ap greatest_last_count (drafts_append site drafts (tag_deletion_drafts MOST_SPANS next names) log)
    ∙ deletions_count names site (with_drafts site drafts log) next (subst (IsDistinct is_same) (sym (tag_stamps document (λ _. true) false name)) d) (one_counted site log document (λ _. true) false name d e)))

pub all_deletions_counted : (site : ℕ) (log : List Operation) (document : DocValue) (names : List Word) → IsHistory log → IsDocument site log document
    → greatest_last_count (with_drafts site (tag_deletion_drafts MOST_SPANS document names) log) ≡ (without_tags document names).count
all_deletions_counted site log document names h doc = deletions_count names site log document (subst AreDistinct (sym doc.cells) (cells_distinct log h)) doc.count
