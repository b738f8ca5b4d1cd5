-- Tags that are deleted, whatever their names: one that is no name is on no character of a history.
use Rattle.std.proofs.Common.{◌≡◌, ◌∙◌, ℕ, ◌+◌, ◌<◌, ◌≤◌, List, [], ◌∷◌, ◌++◌, Bool, true, false, Some, cond, map, filter, refl, sym, ap, subst, arith}
use Rattle.std.specs.List.{AllByRecursion, IsDistinct}
use Rattle.std.specs.Str.{bytes_eq}
use Rattle.rt_stamps.specs.declared.limits.TheConstants.{GREATEST_COUNT, MOST_SPANS}
use Rattle.rt_stamps.specs.Stamps.{is_same}
use Rattle.rt_stamps.specs.Words.{Word}
use Rattle.rt_ops.specs.Operations.{Operation}
use Rattle.rt_ops.specs.Rules.{is_name}
use Rattle.rt_tags.specs.States.{Write, is_on, says_on, write_of}
use Rattle.rt_tags.specs.Tags.{sel, without}
use Rattle.rt_tags.proofs.Places.{same_name}
use Rattle.rt_store.specs.Cells.{AreDistinct}
use Rattle.rt_store.specs.Shown.{TaggedCell}
use Rattle.rt_store.proofs.Distinct.{split}
use Rattle.rt_rga.specs.Drafts.{with_drafts}
use Rattle.rt_rga.specs.Histories.{IsHistory}
use Rattle.rt_rga.specs.Requests.{MayBeMade}
use Rattle.rt_rga.proofs.Appending.{drafts_append, may_append}
use Rattle.rt_rga.proofs.Corollaries.{cells_distinct}
use Rattle.rt_plans.specs.DraftLaws.{IsDocument}
use Rattle.rt_plans.specs.DocValue.{DocValue}
use Rattle.rt_plans.specs.Removals.{cells_at}
use Rattle.rt_plans.specs.TagDrafts.{tag_deletion_drafts, tag_drafts, tag_drafts_at}
use Rattle.rt_plans.specs.TagWrites.{changed_stamps, is_changed, cell_with_tag, with_tag, with_tag_at, without_tags}
use Rattle.rt_plans.proofs.DraftSteps.{AreKnownCells, known_cells, known_later}
use Rattle.rt_plans.proofs.TagDocuments.{known_tagged, one_made, one_may_be_made, tag_stamps}
use Rattle.rt_plans.proofs.TagNames.{CellsNamed, IsNamed, all_tagged_named, every_named}
use Rattle.rt_plans.proofs.WriterLaws.{all_without_grows}

-- ON NO CHARACTER

abbrev everywhere : ℕ → Bool
everywhere place = true

unnamed_off : (name : Word) (state : List Write) → is_name name ≡ false → AllByRecursion IsNamed state → is_on name state ≡ false
unnamed_off name [] n h = refl
unnamed_off name (w ∷ state) n h =
    split (bytes_eq name w.name)
    (λ e. let named : is_name name ≡ true = ap is_name (same_name name w.name e) ∙ h.0 in let bad : ⊥ = cc in absurd bad)
    (λ e. ap (λ b. says_on (cond b (Some w) (write_of name state))) e ∙ unnamed_off name state n h.1)

none_changed : (name : Word) (cells : List TaggedCell) (p : ℕ) → is_name name ≡ false → CellsNamed cells → filter (is_changed name false) (cells_at everywhere p cells) ≡ []
none_changed name [] p n h = refl
none_changed name (c ∷ cs) p n h =
    let here = unnamed_off name c.state n h.0.named in
    elim c.gone as (λ b. filter (is_changed name false) (cond b (cells_at everywhere p cs) (c ∷ cells_at everywhere (p + 1) cs)) ≡ []) [
      | true ↦ none_changed name cs p n h.1
      | false ↦ ap (λ b. cond b (c ∷ filter (is_changed name false) (cells_at everywhere (p + 1) cs)) (filter (is_changed name false) (cells_at everywhere (p + 1) cs))) here ∙ none_changed name cs (p + 1) n h.1
    ]

none_stamps : (name : Word) (cells : List TaggedCell) → is_name name ≡ false → CellsNamed cells → changed_stamps name false (cells_at everywhere 0 cells) ≡ []
none_stamps name cells n h = ap (λ l. map (λ (c : TaggedCell). c.stamp) l) (none_changed name cells 0 n h)

same_cells : (site count : ℕ) (name : Word) (on : Bool) (cells : List TaggedCell) → map (cell_with_tag site count name on []) cells ≡ cells
same_cells site count name on [] = refl
same_cells site count name on (c ∷ cs) = ap (λ l. c ∷ l) (same_cells site count name on cs)

-- it makes no operation, and nothing changes
pub none_drafted : (name : Word) (cells : List TaggedCell) → is_name name ≡ false → CellsNamed cells → tag_drafts_at MOST_SPANS everywhere false name cells ≡ []
none_drafted name cells n h = ap (tag_drafts MOST_SPANS false name) (none_stamps name cells n h)

pub none_tagged : (document : DocValue) (name : Word) → is_name name ≡ false → CellsNamed document.cells → with_tag_at document everywhere false name ≡ document
none_tagged document name n h = ap (with_tag document name false) (none_stamps name document.cells n h) ∙ (λ i. record document { cells = same_cells document.site document.count name false document.cells i; count = same i })
  where
    same : document.count + 0 ≡ document.count
    same = omega arith

-- ONE NAME

-- a name, or none that is on a character
one_may : (site : ℕ) (log : List Operation) (name : Word) (cells : List TaggedCell) → AreDistinct cells → AreKnownCells log cells → CellsNamed cells → MayBeMade site log (tag_drafts_at MOST_SPANS everywhere false name cells)
one_may site log name cells d f h =
    split (is_name name)
    (λ e. one_may_be_made site log everywhere false name cells d f e)
    (λ e. subst (MayBeMade site log) (sym (none_drafted name cells e h)) tt)

off_named : (document : DocValue) (name : Word) → CellsNamed document.cells → CellsNamed (with_tag_at document everywhere false name).cells
off_named document name h =
    split (is_name name)
    (λ e. all_tagged_named document.site document.count name false (changed_stamps name false (cells_at everywhere 0 document.cells)) document.cells e h)
    (λ e. subst (λ (f : DocValue). CellsNamed f.cells) (sym (none_tagged document name e h)) h)

one_off : (site : ℕ) (log : List Operation) (document : DocValue) (name : Word) → 0 < site → IsHistory log → IsDocument site log document → (with_tag_at document everywhere false name).count ≤ GREATEST_COUNT
    → IsHistory (with_drafts site (tag_drafts_at MOST_SPANS everywhere false name document.cells) log)
    × IsDocument site (with_drafts site (tag_drafts_at MOST_SPANS everywhere false name document.cells) log) (with_tag_at document everywhere false name)
one_off site log document name p h doc l =
    let named : CellsNamed document.cells = subst CellsNamed (sym doc.cells) (every_named log h) in
    split (is_name name)
    (λ e. one_made site log document everywhere false name p h doc e l)
    (λ e. (
      subst (λ drafts. IsHistory (with_drafts site drafts log)) (sym (none_drafted name document.cells e named)) h,
      subst (λ (f : DocValue). IsDocument site (with_drafts site (tag_drafts_at MOST_SPANS everywhere false name document.cells) log) f)
          (sym (none_tagged document name e named)) (subst (λ drafts. IsDocument site (with_drafts site drafts log) document) (sym (none_drafted name document.cells e named)) doc),
    ))

-- SEVERAL

all_may : (names : List Word) (site : ℕ) (log : List Operation) (document : DocValue) → AreDistinct document.cells → AreKnownCells log document.cells → CellsNamed document.cells → MayBeMade site log (tag_deletion_drafts MOST_SPANS document names)
all_may [] site log document d f h = tt
all_may (name ∷ names) site log document d f h =
    let one = tag_drafts_at MOST_SPANS everywhere false name document.cells in
    let off = with_tag_at document everywhere false name in
    let next : DocValue = record off { tags = without name off.tags } in
    let at : Bool → Type 0 = λ b. MayBeMade site log (cond b [] one ++ tag_deletion_drafts MOST_SPANS (cond b document next) names) in
    split (bytes_eq name sel)
    (λ e. subst at (sym e) (all_may names site log document d f h))
    (λ e. subst at (sym e)
    (may_append site one (tag_deletion_drafts MOST_SPANS next names) log (one_may site log name document.cells d f h)
    (all_may names site (with_drafts site one log) next (subst (IsDistinct is_same) (sym (tag_stamps document everywhere false name)) d)
    (known_later site one log next.cells (known_tagged log document everywhere false name f)) (off_named document name h))))

pub deletions_may : (site : ℕ) (log : List Operation) (document : DocValue) (names : List Word) → IsHistory log → IsDocument site log document → MayBeMade site log (tag_deletion_drafts MOST_SPANS document names)
deletions_may site log document names h doc =
    all_may names site log document (subst AreDistinct (sym doc.cells) (cells_distinct log h)) (known_cells log document.cells h doc.cells) (subst CellsNamed (sym doc.cells) (every_named log h))

all_made : (names : List Word) (site : ℕ) (log : List Operation) (document : DocValue) → 0 < site → IsHistory log → IsDocument site log document → (without_tags document names).count ≤ GREATEST_COUNT
    → IsDocument site (with_drafts site (tag_deletion_drafts MOST_SPANS document names) log) (without_tags document names)
all_made [] site log document p h doc l = doc
all_made (name ∷ names) site log document p h doc l =
    let drafts = tag_drafts_at MOST_SPANS everywhere false name document.cells in
    let off = with_tag_at document everywhere false name in
    let next : DocValue = record off { tags = without name off.tags } in
    let at : Bool → Type 0 = λ b. (without_tags (cond b document next) names).count ≤ GREATEST_COUNT
    → IsDocument site (with_drafts site (cond b [] drafts ++ tag_deletion_drafts MOST_SPANS (cond b document next) names) log) (without_tags (cond b document next) names) in
    split (bytes_eq name sel)
    (λ e. subst at (sym e) (λ k. all_made names site log document p h doc k) l)
    (λ e. subst at (sym e)
    (λ k.
    let first : off.count ≤ GREATEST_COUNT = omega (arith, k, all_without_grows names next) in
    let one = one_off site log document name p h doc first in
    let after : IsDocument site (with_drafts site drafts log) next = record { cells = one.1.cells; site = one.1.site; count = one.1.count } in
    subst (λ log. IsDocument site log (without_tags next names)) (sym (drafts_append site drafts (tag_deletion_drafts MOST_SPANS next names) log))
    (all_made names site (with_drafts site drafts log) next p one.0 after k))
    l)

pub deletions_made : (site : ℕ) (log : List Operation) (document : DocValue) (names : List Word) → 0 < site → IsHistory log → IsDocument site log document → (without_tags document names).count ≤ GREATEST_COUNT
    → IsDocument site (with_drafts site (tag_deletion_drafts MOST_SPANS document names) log) (without_tags document names)
deletions_made site log document names p h doc l = all_made names site log document p h doc l
