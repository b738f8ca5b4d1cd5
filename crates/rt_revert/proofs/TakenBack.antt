-- The text after an action was reverted.
use Rattle.std.proofs.Common.{◌≡◌, ℕ, ◌+◌, ◌<◌, ◌≤◌, Bool, true, false, not, List, [], ◌∷◌, ◌++◌, cond, map, append_assoc, refl, sym, ◌∙◌, ap, subst, arith, add-zero, zero, suc, Some, None, filter}
use Rattle.std.specs.Prelude.{option_and_then, option_map, reverse, slice_get, unwrap_or}
use Rattle.std.specs.List.{AllByRecursion}
use Rattle.std.proofs.lemmas.Bool.{cond-false, cond-true, or_from, or_left, or_parts, or_right}
use Rattle.std.proofs.lemmas.List.{map-append, map-id}
use Rattle.std.proofs.lemmas.List.Elements.{All-tail, filter-append}
use mathlib.Core.List.{reverse-cons}
use Rattle.rt_stamps.specs.declared.stamp.Stamp.{Stamp}
use Rattle.rt_stamps.specs.declared.stamp.TheConstants.{ROOT}
use Rattle.rt_stamps.specs.Stamps.{is_same}
use Rattle.rt_stamps.specs.Words.{Word}
use Rattle.rt_stamps.proofs.Order.{same_refl, same_sym}
use Rattle.rt_ops.specs.Operations.{Operation}
use Rattle.rt_tags.specs.States.{Write, names_on}
use Rattle.rt_store.specs.Cells.{AreDistinct, cell_of, stamps_of, text_of, visible_of}
use Rattle.rt_store.specs.Shown.{TaggedCell}
use Rattle.rt_store.specs.Spans.{is_among}
use Rattle.rt_store.specs.Written.{AreBelowNext, IsBelowNext}
use Rattle.rt_store.proofs.Distinct.{differs, first_apart, new_apart, others_distinct, split}
use Rattle.rt_rga.specs.Histories.{IsHistory, greatest_last_count}
use Rattle.rt_rga.specs.Texts.{TaggedCharacter, tagged_text}
use Rattle.rt_rga.proofs.Corollaries.{cells_distinct, cells_older, root_absent}
use Rattle.rt_plans.specs.Deletions.{without_places}
use Rattle.rt_plans.specs.DraftLaws.{IsDocument}
use Rattle.rt_plans.specs.DocValue.{DocValue, logged, put_after}
use Rattle.rt_plans.specs.Insertions.{new_state, tagged_cells}
use Rattle.rt_plans.specs.Removals.{cells_at, gone_at, left_at}
use Rattle.rt_plans.proofs.ChosenLaws.{chosen, chosen_visible}
use Rattle.rt_plans.proofs.DeletionDraftLaws.{stamps_gone}
use Rattle.rt_plans.proofs.InsertDraftLaws.{put_behind}
use Rattle.rt_plans.proofs.LastNames.{Rise, new_names, rise_to, sorted_filter}
use Rattle.rt_plans.proofs.RemovedText.{text_left}
use Rattle.rt_plans.proofs.TagNames.{AreNamed, CellsNamed, every_named}
use Rattle.rt_undo.specs.Actions.{Action, restamped_one}
use Rattle.rt_undo.specs.Renames.{replaced}
use Rattle.rt_undo.specs.Undo.{with_stamps_in}
use Rattle.rt_revert.specs.Reverting.{Return, Reversion, are_at, as_it_is, as_removed, gone_cell_of, reverted, reverted_group, stamp_after, still_visible, with_each_reverted, with_insertion, with_removal, with_return, with_returns, with_reverted}

-- INSERTIONS

one_reversed : {X : Type 0} (x : X) → reverse (x ∷ []) ≡ x ∷ []
one_reversed x = reverse-cons x []

pub insertion_back : (document : DocValue) (action : Action (List Word)) → action.removed ≡ [] → text_of (reverted document (action ∷ [])).cells ≡ left_at (are_at action.inserted document.cells) 0 (text_of document.cells)
insertion_back document action none =
    let r = as_it_is document in
    let stamps = map (stamp_after []) action.inserted in
    ap (λ group. text_of (with_each_reverted group r).doc.cells) (one_reversed action)
    ∙ ap (λ removed. text_of (with_returns removed (with_removal stamps r)).doc.cells) none
    ∙ ap (λ stamps. text_of (with_removal stamps r).doc.cells) (map-id action.inserted)
    ∙ text_left (are_at action.inserted document.cells) 0 document.cells

-- REMOVALS

-- a cell as a character of the text
abbrev tagged_as : TaggedCell → TaggedCharacter
tagged_as cell = record { ch = cell.ch; tags = names_on cell.state }

tagged_append : (xs ys : List TaggedCell) → tagged_text (xs ++ ys) ≡ tagged_text xs ++ tagged_text ys
tagged_append xs ys =
    ap (map tagged_as) (filter-append (λ (cell : TaggedCell). not cell.gone) xs ys) ∙ map-append tagged_as (visible_of xs) (visible_of ys)

tagged_gone : (cell : TaggedCell) → cell.gone ≡ true → tagged_text (cell ∷ []) ≡ []
tagged_gone cell e = ap (λ b. map tagged_as (cond (not b) (cell ∷ []) [])) e

tagged_shown : (cell : TaggedCell) → cell.gone ≡ false → tagged_text (cell ∷ []) ≡ tagged_as cell ∷ []
tagged_shown cell e = ap (λ b. map tagged_as (cond (not b) (cell ∷ []) [])) e

-- a character that comes back is one cell
abbrev new_cell : ℕ → ℕ → List Word → ℕ → TaggedCell
new_cell site count tags ch = record { stamp = record { count = count + 1; site = site }; ch = ch; gone = false; state = new_state site (count + 1) tags }

one_cell : (site count : ℕ) (tags : List Word) (ch : ℕ) → tagged_cells site count tags (ch ∷ []) ≡ new_cell site count tags ch ∷ []
one_cell site count tags ch = refl

-- among two lists
among_append : (xs ys : List TaggedCell) (s : Stamp) → is_among (stamps_of xs) s ≡ false → is_among (stamps_of ys) s ≡ false → is_among (stamps_of (xs ++ ys)) s ≡ false
among_append [] ys s h k = k
among_append (x ∷ xs) ys s h k =
    let p = or_parts (is_same x.stamp s) (is_among (stamps_of xs) s) h in
    or_from (is_same x.stamp s) _ p.0 (among_append xs ys s p.1 k)

-- the cell of a stamp that none before it has
cell_behind : (pre : List TaggedCell) (cell : TaggedCell) (rest : List TaggedCell) → is_among (stamps_of pre) cell.stamp ≡ false → cell_of (pre ++ cell ∷ rest) cell.stamp ≡ Some cell
cell_behind [] cell rest h = cond-true (is_same cell.stamp cell.stamp) (Some cell) (cell_of rest cell.stamp) (same_refl cell.stamp)
cell_behind (x ∷ pre) cell rest h =
    let p = or_parts (is_same x.stamp cell.stamp) (is_among (stamps_of pre) cell.stamp) h in
    cond-false (is_same x.stamp cell.stamp) (Some x) (cell_of (pre ++ cell ∷ rest) cell.stamp) p.0 ∙ cell_behind pre cell rest p.1

pub stamp_after_more : (returns : List Return) (r : Return) (s : Stamp) → stamp_after (returns ++ r ∷ []) s ≡ replaced r.former r.newer (stamp_after returns s)
stamp_after_more [] r s = refl
stamp_after_more (x ∷ returns) r s = stamp_after_more returns r (replaced x.former x.newer s)

-- On the way back the cells before a position have come back, and those behind it still lack what was removed.
record IsPart (places : ℕ → Bool) (p : ℕ) (pre rest : List TaggedCell) (r : Reversion) : Type 0 where
  pub cells : r.doc.cells ≡ pre ++ gone_at places p rest
  pub site : 0 < r.doc.site
  pub older : AreBelowNext r.doc.count rest
  pub distinct : AreDistinct rest
  pub apart : (s : Stamp) → is_among (stamps_of rest) s ≡ true → is_among (stamps_of pre) s ≡ false
  pub root : is_among (stamps_of rest) ROOT ≡ false
  pub still : (s : Stamp) → is_among (stamps_of rest) s ≡ true → stamp_after r.returns s ≡ s
  pub named : AllByRecursion (λ c. Rise (names_on c.state)) rest

below_later : (count later : ℕ) (cells : List TaggedCell) → count ≤ later → AreBelowNext count cells → AreBelowNext later cells
below_later count later cells le h = λ k d lt. let p = h k d lt in (omega (arith, p.0, le), λ e. p.1 (omega (arith, p.0, le, e)))

-- a cell that stays, or goes for good, comes before the position
past : (places : ℕ → Bool) (p q : ℕ) (pre : List TaggedCell) (c x : TaggedCell) (cs : List TaggedCell) (r : Reversion) → x.stamp ≡ c.stamp
    → gone_at places p (c ∷ cs) ≡ x ∷ gone_at places q cs → IsPart places p pre (c ∷ cs) r → IsPart places q (pre ++ x ∷ []) cs r
past places p q pre c x cs r s e h = record {
  cells = h.cells ∙ ap (λ l. pre ++ l) e ∙ sym (append_assoc pre (x ∷ []) (gone_at places q cs));
  site = h.site;
  older = All-tail (λ (cell : TaggedCell). IsBelowNext r.doc.count cell.stamp) c cs h.older;
  distinct = others_distinct c.stamp (stamps_of cs) h.distinct;
  apart = λ t k. among_append pre (x ∷ []) t (h.apart t (or_right (is_same c.stamp t) _ k))
      (or_from (is_same x.stamp t) false (ap (λ u. is_same u t) s ∙ differs c.stamp t (stamps_of cs) (first_apart c.stamp (stamps_of cs) h.distinct) k) refl);
  root = (or_parts (is_same c.stamp ROOT) (is_among (stamps_of cs) ROOT) h.root).1;
  still = λ t k. h.still t (or_right (is_same c.stamp t) _ k);
  named = h.named.1;
}

-- the text of cells before the position, which are one character or none of the text
text_past : (pre xs : List TaggedCell) (c : TaggedCell) (cs : List TaggedCell) → tagged_text xs ≡ tagged_text (c ∷ [])
    → tagged_text (pre ++ xs) ++ tagged_text cs ≡ tagged_text pre ++ tagged_text (c ∷ cs)
text_past pre xs c cs e =
    ap (λ l. l ++ tagged_text cs) (tagged_append pre xs ∙ ap (λ l. tagged_text pre ++ l) e)
    ∙ append_assoc (tagged_text pre) (tagged_text (c ∷ [])) (tagged_text cs)
    ∙ ap (λ l. tagged_text pre ++ l) (sym (tagged_append (c ∷ []) cs))

-- a removed cell comes back
module _ (places : ℕ → Bool) (p : ℕ) (pre : List TaggedCell) (c : TaggedCell) (cs : List TaggedCell) (r : Reversion) where
  abbrev left : TaggedCell
  left = record c { gone = places p }

  abbrev new : TaggedCell
  new = new_cell r.doc.site r.doc.count (names_on c.state) c.ch

  abbrev next : Reversion
  next = with_insertion c.stamp (names_on c.state) c.ch r

  abbrev before : List TaggedCell
  before = (pre ++ left ∷ []) ++ new ∷ []

  is_next : c.gone ≡ false → places p ≡ true → IsPart places p pre (c ∷ cs) r → with_return (as_removed c) r ≡ next
  is_next e q h =
      let rest = gone_at places (p + 1) cs in
      let same : is_among (stamps_of (c ∷ cs)) c.stamp ≡ true = or_left (is_same c.stamp c.stamp) _ (same_refl c.stamp) in
      let whole : r.doc.cells ≡ pre ++ left ∷ rest = h.cells ∙ ap (λ l. pre ++ l) (cond-false c.gone (c ∷ gone_at places p cs) (left ∷ rest) e) in
      let is_there : cell_of r.doc.cells c.stamp ≡ Some left = ap (λ l. cell_of l c.stamp) whole ∙ cell_behind pre left rest (h.apart c.stamp same) in
      let found : gone_cell_of r.doc.cells c.stamp ≡ Some left =
      ap (option_and_then (λ (cell : TaggedCell). cond cell.gone (Some cell) None)) is_there ∙ ap (λ b. cond b (Some left) None) q in
      ap (λ s. unwrap_or (option_map (λ (cell : TaggedCell). with_insertion s (names_on c.state) cell.ch r) (gone_cell_of r.doc.cells s)) r) (h.still c.stamp same)
      ∙ ap (λ o. unwrap_or (option_map (λ (cell : TaggedCell). with_insertion c.stamp (names_on c.state) cell.ch r) o) r) found

  part_next : c.gone ≡ false → IsPart places p pre (c ∷ cs) r → IsPart places (p + 1) before cs next
  part_next e h =
      let rest = gone_at places (p + 1) cs in
      let here : is_among (stamps_of pre) c.stamp ≡ false = h.apart c.stamp (or_left (is_same c.stamp c.stamp) _ (same_refl c.stamp)) in
      let gone_e : gone_at places p (c ∷ cs) ≡ left ∷ rest = cond-false c.gone (c ∷ gone_at places p cs) (left ∷ rest) e in
      let root : is_same left.stamp ROOT ≡ false = (or_parts (is_same c.stamp ROOT) (is_among (stamps_of cs) ROOT) h.root).0 in
      let base = past places p (p + 1) pre c left cs r refl gone_e h in
      let whole : r.doc.cells ≡ pre ++ left ∷ rest = h.cells ∙ ap (λ l. pre ++ l) gone_e in
      let fresh : is_among (stamps_of cs) new.stamp ≡ false = new_apart r.doc.count (r.doc.count + 1) r.doc.site cs base.older (omega arith) (omega (arith, h.site)) in
      record {
        cells = ap (λ (l : List TaggedCell). put_after l c.stamp (new ∷ [])) whole ∙ put_behind pre left rest (new ∷ []) root here;
        site = h.site;
        older = below_later r.doc.count next.doc.count cs (omega arith) base.older;
        distinct = base.distinct;
        apart = λ t k. among_append (pre ++ left ∷ []) (new ∷ []) t (base.apart t k) (or_from (is_same new.stamp t) false (differs new.stamp t (stamps_of cs) fresh k) refl);
        root = base.root;
        still = λ t k. stamp_after_more r.returns (record { former = c.stamp; newer = new.stamp }) t
            ∙ ap (replaced c.stamp new.stamp) (base.still t k)
            ∙ cond-false (is_same t c.stamp) new.stamp t (same_sym t c.stamp ∙ differs c.stamp t (stamps_of cs) (first_apart c.stamp (stamps_of cs) h.distinct) k);
        named = base.named;
      }

  text_next : c.gone ≡ false → places p ≡ true → IsPart places p pre (c ∷ cs) r → tagged_text before ++ tagged_text cs ≡ tagged_text pre ++ tagged_text (c ∷ cs)
  text_next e q h =
      let names : names_on new.state ≡ names_on c.state = new_names r.doc.site (r.doc.count + 1) (names_on c.state) h.named.0 in
      let one : tagged_text (left ∷ new ∷ []) ≡ tagged_text (c ∷ []) =
      tagged_append (left ∷ []) (new ∷ []) ∙ ap (λ l. l ++ tagged_text (new ∷ [])) (tagged_gone left q) ∙ (λ i. record { ch = c.ch; tags = names i } ∷ []) ∙ sym (tagged_shown c e) in
      ap (λ (l : List TaggedCell). tagged_text l ++ tagged_text cs) (append_assoc pre (left ∷ []) (new ∷ [])) ∙ text_past pre (left ∷ new ∷ []) c cs one

back : (places : ℕ → Bool) (rest : List TaggedCell) (p : ℕ) (pre : List TaggedCell) (r : Reversion) → IsPart places p pre rest r
    → tagged_text (with_returns (map as_removed (cells_at places p rest)) r).doc.cells ≡ tagged_text pre ++ tagged_text rest
back places [] p pre r h = ap tagged_text h.cells ∙ tagged_append pre []
back places (c ∷ cs) p pre r h =
    let same = cells_at places p cs in
    let more = cells_at places (p + 1) cs in
    let text : List TaggedCell → List TaggedCharacter = λ l. tagged_text (with_returns (map as_removed l) r).doc.cells in
    let left : TaggedCell = record c { gone = places p } in
    split c.gone
    (λ e.
    ap text (cond-true c.gone same (cond (places p) (c ∷ more) more) e)
    ∙ back places cs p (pre ++ c ∷ []) r (past places p p pre c c cs r refl (cond-true c.gone (c ∷ gone_at places p cs) (left ∷ gone_at places (p + 1) cs) e) h)
    ∙ text_past pre (c ∷ []) c cs refl)
    (λ e. split (places p)
    (λ q.
    ap text (cond-false c.gone same (cond (places p) (c ∷ more) more) e ∙ cond-true (places p) (c ∷ more) more q)
    ∙ ap (λ s. tagged_text (with_returns (map as_removed more) s).doc.cells) (is_next places p pre c cs r e q h)
    ∙ back places cs (p + 1) (before places p pre c cs r) (next places p pre c cs r) (part_next places p pre c cs r e h)
    ∙ text_next places p pre c cs r e q h)
    (λ q.
    ap text (cond-false c.gone same (cond (places p) (c ∷ more) more) e ∙ cond-false (places p) (c ∷ more) more q)
    ∙ back places cs (p + 1) (pre ++ left ∷ []) r (past places p (p + 1) pre c left cs r refl (cond-false c.gone (c ∷ gone_at places p cs) (left ∷ gone_at places (p + 1) cs) e) h)
    ∙ text_past pre (left ∷ []) c cs (tagged_shown left q ∙ sym (tagged_shown c e))))

-- where no places are removed all cells stay
nowhere : (removed : ℕ → Bool) (p : ℕ) (cells : List TaggedCell) → ((q : ℕ) → removed q ≡ false) → gone_at removed p cells ≡ cells
nowhere removed p [] h = refl
nowhere removed p (c ∷ cs) h = split c.gone
    (λ e. cond-true c.gone (c ∷ gone_at removed p cs) (record c { gone = removed p } ∷ gone_at removed (p + 1) cs) e ∙ ap (λ l. c ∷ l) (nowhere removed p cs h))
    (λ e. cond-false c.gone (c ∷ gone_at removed p cs) (record c { gone = removed p } ∷ gone_at removed (p + 1) cs) e
    ∙ (λ i. record c { gone = (h p ∙ sym e) i } ∷ nowhere removed (p + 1) cs h i))

-- no cell has one of some stamps
abbrev HaveNone : List Stamp → List TaggedCell → Type 0
HaveNone stamps cells = (s : Stamp) → is_among (stamps_of cells) s ≡ true → is_among stamps s ≡ false

none_at : (stamps : List Stamp) (cells : List TaggedCell) (place : ℕ) → HaveNone stamps cells → are_at stamps cells place ≡ false
none_at stamps [] place h = refl
none_at stamps (c ∷ cs) place h =
    let at : List TaggedCell → Bool = λ shown. unwrap_or (option_map (λ (cell : TaggedCell). is_among stamps cell.stamp) (slice_get shown place)) false in
    let further : HaveNone stamps cs = λ s k. h s (or_right (is_same c.stamp s) _ k) in
    split c.gone
    (λ e. ap (λ b. at (cond (not b) (c ∷ visible_of cs) (visible_of cs))) e ∙ none_at stamps cs place further)
    (λ e. ap (λ b. at (cond (not b) (c ∷ visible_of cs) (visible_of cs))) e ∙ by place (λ k. none_at stamps cs k further))
  where
    by : (n : ℕ) → ((k : ℕ) → are_at stamps cs k ≡ false)
        → unwrap_or (option_map (λ (cell : TaggedCell). is_among stamps cell.stamp) (slice_get (c ∷ visible_of cs) n)) false ≡ false
    by zero rest = h c.stamp (or_left (is_same c.stamp c.stamp) _ (same_refl c.stamp))
    by (suc n) rest = rest n

rise_all : (cells : List TaggedCell) → AllByRecursion (λ (cell : TaggedCell). AreNamed cell.state) cells → AllByRecursion (λ (cell : TaggedCell). Rise (names_on cell.state)) cells
rise_all [] h = tt
rise_all (c ∷ cs) h = (rise_to (filter (λ (w : Write). w.on) c.state) (sorted_filter (λ (w : Write). w.on) c.state h.0.by_name), rise_all cs h.1)

-- a document that lacks the characters at some places of another one
record Lacks (places : ℕ → Bool) (document less : DocValue) : Type 0 where
  pub cells : less.cells ≡ gone_at places 0 document.cells
  pub site : less.site ≡ document.site
  pub count : document.count ≤ less.count

taken_back : (site : ℕ) (log : List Operation) (document less : DocValue) (places : ℕ → Bool) (action : Action (List Word)) → 0 < site → IsHistory log → IsDocument site log document → Lacks places document less
    → HaveNone action.inserted document.cells → action.removed ≡ map as_removed (cells_at places 0 document.cells) → tagged_text (reverted less (action ∷ [])).cells ≡ tagged_text document.cells
taken_back site log document less places action p h doc lacks none rem =
    let r = as_it_is less in
    let removed = map as_removed (cells_at places 0 document.cells) in
    let start = with_removal action.inserted r in
    let fewer : HaveNone action.inserted less.cells =
    subst (HaveNone action.inserted) (sym lacks.cells) (λ s k. none s (subst (λ (l : List Stamp). is_among l s ≡ true) (stamps_gone places 0 document.cells) k)) in
    let part : IsPart places 0 [] document.cells start = record {
      cells = nowhere (are_at action.inserted less.cells) 0 less.cells (λ place. none_at action.inserted less.cells place fewer) ∙ lacks.cells;
      site = omega (arith, lacks.site, doc.site, p);
      older = below_later (greatest_last_count log) start.doc.count document.cells (omega (arith, doc.count, lacks.count))
          (subst (AreBelowNext (greatest_last_count log)) (sym doc.cells) (cells_older log h));
      distinct = subst AreDistinct (sym doc.cells) (cells_distinct log h);
      apart = λ s k. refl;
      root = ap (λ (cells : List TaggedCell). is_among (stamps_of cells) ROOT) doc.cells ∙ root_absent log h;
      still = λ s k. refl;
      named = rise_all document.cells (subst CellsNamed (sym doc.cells) (every_named log h));
    } in
    ap (λ group. tagged_text (with_each_reverted group r).doc.cells) (one_reversed action)
    ∙ ap (λ l. tagged_text (with_returns l (with_removal (map (stamp_after []) action.inserted) r)).doc.cells) rem
    ∙ ap (λ ss. tagged_text (with_returns removed (with_removal ss r)).doc.cells) (map-id action.inserted)
    ∙ back places document.cells 0 [] start part

pub removal_back : (site : ℕ) (log : List Operation) (document : DocValue) (places : ℕ → Bool) (action : Action (List Word)) → 0 < site → IsHistory log → IsDocument site log document
    → HaveNone action.inserted document.cells → action.removed ≡ map as_removed (cells_at places 0 document.cells)
    → tagged_text (reverted (without_places document places) (action ∷ [])).cells ≡ tagged_text document.cells
removal_back site log document places action p h doc none rem =
    taken_back site log document (without_places document places) places action p h doc (record { cells = refl; site = refl; count = omega arith }) none rem

-- REDONE

-- the visible cells of some stamps are those at their places
at_tests : (test : TaggedCell → Bool) (places : ℕ → Bool) (p : ℕ) (cells : List TaggedCell)
    → ((k : ℕ) → places (p + k) ≡ unwrap_or (option_map test (slice_get cells k)) false) → chosen places p cells ≡ filter test cells
at_tests test places p [] h = refl
at_tests test places p (c ∷ cs) h =
    let here : places p ≡ test c = ap places (sym (add-zero p)) ∙ h 0 in
    let rest = at_tests test places (p + 1) cs (λ k. ap places (omega arith) ∙ h (suc k)) in
    λ i. cond (here i) (c ∷ rest i) (rest i)

pub still_is : (stamps : List Stamp) (cells : List TaggedCell) → still_visible stamps cells ≡ map as_removed (cells_at (are_at stamps cells) 0 cells)
still_is stamps cells =
    let test : TaggedCell → Bool = λ cell. is_among stamps cell.stamp in
    ap (map as_removed) (sym (chosen_visible (are_at stamps cells) 0 cells ∙ at_tests test (are_at stamps cells) 0 (visible_of cells) (λ k. ap (are_at stamps cells) (omega arith))))

redone : (site : ℕ) (log : List Operation) (document : DocValue) (action : Action (List Word)) → 0 < site → IsHistory log → IsDocument site log document
    → let undone : Action (List Word) = record action { removed = [] } in
    tagged_text (reverted (reverted document (undone ∷ [])) (reverted_group document (undone ∷ []))).cells ≡ tagged_text document.cells
redone site log document action p h doc =
    let undone : Action (List Word) = record action { removed = [] } in
    let stamps = map (stamp_after []) action.inserted in
    let places = are_at stamps document.cells in
    let text : Reversion → List TaggedCharacter = λ r. tagged_text (reverted (logged document r.drafts r.doc) (with_stamps_in (stamp_after r.returns) r.actions)).cells in
    let r = with_reverted undone (as_it_is document) in
    let again : Action (List Word) = record { number = action.number; kind = action.kind; inserted = []; removed = map (restamped_one (stamp_after [])) (still_visible stamps document.cells) } in
    ap (λ group. text (with_each_reverted group (as_it_is document))) (one_reversed undone)
    ∙ taken_back site log document (logged document r.drafts r.doc) places again p h doc (record { cells = refl; site = refl; count = omega arith }) (λ s k. refl)
    (map-id (still_visible stamps document.cells) ∙ still_is stamps document.cells)

pub insertion_redone : (site : ℕ) (log : List Operation) (document : DocValue) (action : Action (List Word)) → 0 < site → IsHistory log → IsDocument site log document → action.removed ≡ []
    → tagged_text (reverted (reverted document (action ∷ [])) (reverted_group document (action ∷ []))).cells ≡ tagged_text document.cells
insertion_redone site log document action p h doc none =
    let text : Action (List Word) → List TaggedCharacter = λ a. tagged_text (reverted (reverted document (a ∷ [])) (reverted_group document (a ∷ []))).cells in
    ap (λ l. text (record action { removed = l })) none ∙ redone site log document action p h doc
