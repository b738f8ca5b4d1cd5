-- The text after a recorded deletion or replacement was undone.
use Rattle.std.proofs.Common.{◌≡◌, ◌∙◌, ℕ, suc, ◌+◌, ◌-◌, ◌<◌, ◌≤◌, Bool, true, false, not, List, [], ◌∷◌, ◌++◌, None, Some, length, map, filter, drop, get_or, cond, ap, arith, refl, subst, sym, add-zero, append_assoc}
use Rattle.std.specs.List.{AllByRecursion}
use Rattle.std.specs.Prelude.{Option, min, option_and_then, option_map, slice_get, unwrap_or}
use Rattle.std.proofs.lemmas.Bool.{cond-false, cond-true, or_from, or_left, or_parts, or_right}
use Rattle.std.proofs.lemmas.List.{append-nil, map-append, map-id}
use Rattle.std.proofs.lemmas.List.Elements.{All-tail, filter-append}
use Rattle.rt_stamps.specs.declared.stamp.Stamp.{Stamp}
use Rattle.rt_stamps.specs.declared.stamp.TheConstants.{ROOT}
use Rattle.rt_stamps.specs.Stamps.{is_same}
use Rattle.rt_stamps.specs.Words.{Word}
use Rattle.rt_stamps.proofs.Order.{same_refl, same_sym}
use Rattle.rt_ops.specs.Operations.{Operation, stamps_of_span}
use Rattle.rt_tags.specs.States.{Write, names_on}
use Rattle.rt_store.specs.Cells.{AreDistinct, cell_of, stamps_of, visible_of}
use Rattle.rt_store.specs.Shown.{TaggedCell}
use Rattle.rt_store.specs.Spans.{is_among}
use Rattle.rt_store.specs.Written.{AreBelowNext, IsBelowNext}
use Rattle.rt_store.proofs.Distinct.{differs, first_apart, new_apart, others_distinct}
use Rattle.rt_rga.specs.Histories.{IsHistory, greatest_last_count}
use Rattle.rt_rga.specs.Texts.{TaggedCharacter, tagged_text}
use Rattle.rt_rga.proofs.Corollaries.{cells_distinct, cells_older, root_absent}
use Rattle.rt_rga.proofs.Skipping.{split}
use Rattle.rt_plans.specs.declared.range.Range.{Range}
use Rattle.rt_plans.specs.Deletions.{loss_in, newline_left, without_places}
use Rattle.rt_plans.specs.DraftLaws.{IsDocument}
use Rattle.rt_plans.specs.DocValue.{DocValue, left_stamp, put_after}
use Rattle.rt_plans.specs.Insertions.{Piece, insertion_of, left_neighbour, new_state}
use Rattle.rt_plans.specs.Removals.{cells_at, gone_at}
use Rattle.rt_plans.specs.TagWrites.{bared}
use Rattle.rt_plans.proofs.DeletionDraftLaws.{stamps_gone}
use Rattle.rt_plans.proofs.InsertDraftLaws.{put_behind}
use Rattle.rt_plans.proofs.LastNames.{Rise, new_names, rise_to, sorted_filter}
use Rattle.rt_plans.proofs.TagNames.{AreNamed, CellsNamed, every_named}
use Rattle.rt_undo.specs.declared.action.Kind.{Kind}
use Rattle.rt_undo.specs.declared.action.Kind.TheVariants.{Delete, Replace}
use Rattle.rt_undo.specs.Renames.{replaced}
use Rattle.rt_revert.specs.Reverting.{Reversion, are_at, as_it_is, as_removed, gone_cell_of, reverted, stamp_after, with_each_reverted, with_insertion, with_removal, with_return, with_returns}
use Rattle.rt_revert.proofs.TakenBack.{stamp_after_more}
use Rattle.rt_text.specs.Commands.{lost_in, none_inserted, right_behind, with_pieces_at, with_range_replaced, without_ranges}
use Rattle.rt_text.specs.Widgets.{ViewValue, begin_of, in_text, length_shown, cells_shown, text_shown}
use Rattle.rt_recording.specs.EditLaws.{tags_lost}
use Rattle.rt_recording.specs.Edits.{edit_action, counts_between}
use Rattle.rt_recording.proofs.PutBack.{AreBetween, IsNew, all_beside, beside, beside_put, between_wider, new_insertion, none_beside, one_reversed, tagged_as}
use Rattle.rt_recording.proofs.TakenBack.{counts_apart}

-- NEW CELLS THAT ARE GONE

-- no cell has one of some stamps
abbrev HaveNone : List Stamp → List TaggedCell → Type 0
HaveNone stamps cells = (s : Stamp) → is_among (stamps_of cells) s ≡ true → is_among stamps s ≡ false

-- each cell that has one of some stamps is gone
abbrev AreGone : List Stamp → List TaggedCell → Type 0
AreGone stamps cells = AllByRecursion (λ (cell : TaggedCell). is_among stamps cell.stamp ≡ true → cell.gone ≡ true) cells

-- of cells those that have one of some stamps are gone, and all others are as they were
record Went (stamps : List Stamp) (cells left : List TaggedCell) : Type 0 where
  pub gone : AreGone stamps left
  pub others : beside stamps left ≡ beside stamps cells

-- so it is where the visible cells of these stamps go
went : (stamps : List Stamp) (places : ℕ → Bool) (p : ℕ) (cells : List TaggedCell) → ((k : ℕ) → places (p + k) ≡ are_at stamps cells k)
    → Went stamps cells (gone_at places p cells)
went stamps places p [] h = record { gone = tt; others = refl }
went stamps places p (c ∷ cs) h =
    let among = is_among stamps c.stamp in
    let rest = beside stamps cs in
    let at : List TaggedCell → ℕ → Bool = λ shown k. unwrap_or (option_map (λ (cell : TaggedCell). is_among stamps cell.stamp) (slice_get shown k)) false in
    let shown : Bool → List TaggedCell = λ b. cond (not b) (c ∷ visible_of cs) (visible_of cs) in
    let left : TaggedCell = record c { gone = places p } in
    let same = gone_at places p cs in
    let further = gone_at places (p + 1) cs in
    split c.gone
    (λ e.
    let tail = went stamps places p cs (λ k. h k ∙ ap (λ b. at (shown b) k) e) in
    subst (Went stamps (c ∷ cs)) (sym (cond-true c.gone (c ∷ same) (left ∷ further) e))
    (record { gone = (λ q. e, tail.gone); others = ap (λ l. cond (not among) (c ∷ l) l) tail.others }))
    (λ e.
    let here : places p ≡ among = ap places (sym (add-zero p)) ∙ h 0 ∙ ap (λ b. at (shown b) 0) e in
    let tail = went stamps places (p + 1) cs (λ k. ap places (omega arith) ∙ h (suc k) ∙ ap (λ b. at (shown b) (suc k)) e) in
    let others : beside stamps (left ∷ further) ≡ beside stamps (c ∷ cs) =
    split among
    (λ q. ap (λ b. cond (not b) (left ∷ beside stamps further) (beside stamps further)) q ∙ tail.others ∙ sym (ap (λ b. cond (not b) (c ∷ rest) rest) q))
    (λ q. ap (λ b. cond (not b) (left ∷ beside stamps further) (beside stamps further)) q
    ∙ (λ i. record c { gone = (here ∙ q ∙ sym e) i } ∷ tail.others i) ∙ sym (ap (λ b. cond (not b) (c ∷ rest) rest) q)) in
    subst (Went stamps (c ∷ cs)) (sym (cond-false c.gone (c ∷ same) (left ∷ further) e)) (record { gone = (λ q. here ∙ q, tail.gone); others = others }))

-- CELLS AND TEXT

tagged_append : (xs ys : List TaggedCell) → tagged_text (xs ++ ys) ≡ tagged_text xs ++ tagged_text ys
tagged_append xs ys =
    ap (map tagged_as) (filter-append (λ (cell : TaggedCell). not cell.gone) xs ys) ∙ map-append tagged_as (visible_of xs) (visible_of ys)

tagged_gone : (cell : TaggedCell) → cell.gone ≡ true → tagged_text (cell ∷ []) ≡ []
tagged_gone cell e = ap (λ b. map tagged_as (cond (not b) (cell ∷ []) [])) e

tagged_shown : (cell : TaggedCell) → cell.gone ≡ false → tagged_text (cell ∷ []) ≡ tagged_as cell ∷ []
tagged_shown cell e = ap (λ b. map tagged_as (cond (not b) (cell ∷ []) [])) e

-- a character that comes back is one cell
abbrev new_cell : ℕ → ℕ → List Word → ℕ → TaggedCell
new_cell site count tags ch = record { stamp = record { count = count + 1; site = site }; ch = ch; gone = false; state = new_state site (count + 1) tags }

-- a stamp that neither of two lists has
among_append : (xs ys : List TaggedCell) (s : Stamp) → is_among (stamps_of xs) s ≡ false → is_among (stamps_of ys) s ≡ false → is_among (stamps_of (xs ++ ys)) s ≡ false
among_append [] ys s h k = k
among_append (x ∷ xs) ys s h k =
    let p = or_parts (is_same x.stamp s) (is_among (stamps_of xs) s) h in
    or_from (is_same x.stamp s) _ p.0 (among_append xs ys s p.1 k)

-- the cell of a stamp that none before it has
cell_behind : (pre : List TaggedCell) (cell : TaggedCell) (rest : List TaggedCell) → is_among (stamps_of pre) cell.stamp ≡ false → cell_of (pre ++ cell ∷ rest) cell.stamp ≡ Some cell
cell_behind [] cell rest h = cond-true (is_same cell.stamp cell.stamp) (Some cell) (cell_of rest cell.stamp) (same_refl cell.stamp)
cell_behind (x ∷ pre) cell rest h =
    let p = or_parts (is_same x.stamp cell.stamp) (is_among (stamps_of pre) cell.stamp) h in
    cond-false (is_same x.stamp cell.stamp) (Some x) (cell_of (pre ++ cell ∷ rest) cell.stamp) p.0 ∙ cell_behind pre cell rest p.1

below_later : (count later : ℕ) (cells : List TaggedCell) → count ≤ later → AreBelowNext count cells → AreBelowNext later cells
below_later count later cells le h = λ k d lt. let p = h k d lt in (omega (arith, p.0, le), λ e. p.1 (omega (arith, p.0, le, e)))

rise_all : (cells : List TaggedCell) → AllByRecursion (λ (cell : TaggedCell). AreNamed cell.state) cells → AllByRecursion (λ (cell : TaggedCell). Rise (names_on cell.state)) cells
rise_all [] h = tt
rise_all (c ∷ cs) h = (rise_to (filter (λ (w : Write). w.on) c.state) (sorted_filter (λ (w : Write). w.on) c.state h.0.by_name), rise_all cs h.1)

-- REMOVED CHARACTERS THAT COME BACK AMONG NEW ONES THAT ARE GONE

-- On the way back the cells before a position have come back. Those behind it are the old ones, which still lack what was removed,
-- and among them stand cells of some stamps, which none of the old ones has, and which are gone.
record IsPart (stamps : List Stamp) (places : ℕ → Bool) (p : ℕ) (pre mixed rest : List TaggedCell) (r : Reversion) : Type 0 where
  pub cells : r.doc.cells ≡ pre ++ mixed
  pub gone : AreGone stamps mixed
  pub old : beside stamps mixed ≡ gone_at places p rest
  pub none : HaveNone stamps rest
  pub site : 0 < r.doc.site
  pub older : AreBelowNext r.doc.count rest
  pub distinct : AreDistinct rest
  pub apart : (s : Stamp) → is_among (stamps_of rest) s ≡ true → is_among (stamps_of pre) s ≡ false
  pub root : is_among (stamps_of rest) ROOT ≡ false
  pub still : (s : Stamp) → is_among (stamps_of rest) s ≡ true → stamp_after r.returns s ≡ s
  pub named : AllByRecursion (λ c. Rise (names_on c.state)) rest

-- a cell of these stamps comes before the position
other : (stamps : List Stamp) (places : ℕ → Bool) (p : ℕ) (pre : List TaggedCell) (x : TaggedCell) (xs rest : List TaggedCell) (r : Reversion)
    → is_among stamps x.stamp ≡ true → IsPart stamps places p pre (x ∷ xs) rest r → IsPart stamps places p (pre ++ x ∷ []) xs rest r
other stamps places p pre x xs rest r e h = record {
  cells = h.cells ∙ sym (append_assoc pre (x ∷ []) xs);
  gone = h.gone.1;
  old = sym (ap (λ b. cond (not b) (x ∷ beside stamps xs) (beside stamps xs)) e) ∙ h.old;
  none = h.none;
  site = h.site;
  older = h.older;
  distinct = h.distinct;
  apart = λ t k. among_append pre (x ∷ []) t (h.apart t k)
      (or_from (is_same x.stamp t) false (same_sym x.stamp t ∙ differs t x.stamp stamps (h.none t k) e) refl);
  root = h.root;
  still = h.still;
  named = h.named;
}

-- another cell is the first old one
is_first : (stamps : List Stamp) (places : ℕ → Bool) (p : ℕ) (pre : List TaggedCell) (x y : TaggedCell) (xs l rest : List TaggedCell) (r : Reversion)
    → is_among stamps y.stamp ≡ false → gone_at places p rest ≡ x ∷ l → IsPart stamps places p pre (y ∷ xs) rest r → IsPart stamps places p pre (x ∷ xs) rest r
is_first stamps places p pre x y xs l rest r e g h =
    let both : y ∷ beside stamps xs ≡ x ∷ l = sym (ap (λ b. cond (not b) (y ∷ beside stamps xs) (beside stamps xs)) e) ∙ h.old ∙ g in
    subst (λ z. IsPart stamps places p pre (z ∷ xs) rest r) (ap (λ (l : List TaggedCell). get_or l 0 y) both) h

-- an old cell that stays, or goes for good, comes before the position
past : (stamps : List Stamp) (places : ℕ → Bool) (p q : ℕ) (pre : List TaggedCell) (c x : TaggedCell) (xs cs : List TaggedCell) (r : Reversion) → x.stamp ≡ c.stamp
    → gone_at places p (c ∷ cs) ≡ x ∷ gone_at places q cs → IsPart stamps places p pre (x ∷ xs) (c ∷ cs) r → IsPart stamps places q (pre ++ x ∷ []) xs cs r
past stamps places p q pre c x xs cs r s e h =
    let alone : is_among stamps x.stamp ≡ false = ap (is_among stamps) s ∙ h.none c.stamp (or_left (is_same c.stamp c.stamp) _ (same_refl c.stamp)) in
    let both : x ∷ beside stamps xs ≡ x ∷ gone_at places q cs = sym (ap (λ b. cond (not b) (x ∷ beside stamps xs) (beside stamps xs)) alone) ∙ h.old ∙ e in
    record {
      cells = h.cells ∙ sym (append_assoc pre (x ∷ []) xs);
      gone = h.gone.1;
      old = ap (drop 1) both;
      none = λ t k. h.none t (or_right (is_same c.stamp t) _ k);
      site = h.site;
      older = All-tail (λ (cell : TaggedCell). IsBelowNext r.doc.count cell.stamp) c cs h.older;
      distinct = others_distinct c.stamp (stamps_of cs) h.distinct;
      apart = λ t k. among_append pre (x ∷ []) t (h.apart t (or_right (is_same c.stamp t) _ k))
          (or_from (is_same x.stamp t) false (ap (λ u. is_same u t) s ∙ differs c.stamp t (stamps_of cs) (first_apart c.stamp (stamps_of cs) h.distinct) k) refl);
      root = (or_parts (is_same c.stamp ROOT) (is_among (stamps_of cs) ROOT) h.root).1;
      still = λ t k. h.still t (or_right (is_same c.stamp t) _ k);
      named = h.named.1;
    }

-- the text of cells before the position, which are one character or none of the text
text_past : (pre xs : List TaggedCell) (c : TaggedCell) (cs : List TaggedCell) → tagged_text xs ≡ tagged_text (c ∷ [])
    → tagged_text (pre ++ xs) ++ tagged_text cs ≡ tagged_text pre ++ tagged_text (c ∷ cs)
text_past pre xs c cs e =
    ap (λ l. l ++ tagged_text cs) (tagged_append pre xs ∙ ap (λ l. tagged_text pre ++ l) e)
    ∙ append_assoc (tagged_text pre) (tagged_text (c ∷ [])) (tagged_text cs)
    ∙ ap (λ l. tagged_text pre ++ l) (sym (tagged_append (c ∷ []) cs))

-- a cell that is gone is none of the text
text_other : (pre : List TaggedCell) (x : TaggedCell) (rest : List TaggedCell) → x.gone ≡ true
    → tagged_text (pre ++ x ∷ []) ++ tagged_text rest ≡ tagged_text pre ++ tagged_text rest
text_other pre x rest e =
    ap (λ l. l ++ tagged_text rest) (tagged_append pre (x ∷ []) ∙ ap (λ l. tagged_text pre ++ l) (tagged_gone x e) ∙ append-nil (tagged_text pre))

-- a removed cell comes back
module _ (stamps : List Stamp) (places : ℕ → Bool) (p : ℕ) (pre : List TaggedCell) (c : TaggedCell) (xs cs : List TaggedCell) (r : Reversion) where
  abbrev left : TaggedCell
  left = record c { gone = places p }

  abbrev new : TaggedCell
  new = new_cell r.doc.site r.doc.count (names_on c.state) c.ch

  abbrev next : Reversion
  next = with_insertion c.stamp (names_on c.state) c.ch r

  abbrev before : List TaggedCell
  before = (pre ++ left ∷ []) ++ new ∷ []

  is_next : places p ≡ true → IsPart stamps places p pre (left ∷ xs) (c ∷ cs) r → with_return (as_removed c) r ≡ next
  is_next q h =
      let same : is_among (stamps_of (c ∷ cs)) c.stamp ≡ true = or_left (is_same c.stamp c.stamp) _ (same_refl c.stamp) in
      let is_there : cell_of r.doc.cells c.stamp ≡ Some left = ap (λ l. cell_of l c.stamp) h.cells ∙ cell_behind pre left xs (h.apart c.stamp same) in
      let found : gone_cell_of r.doc.cells c.stamp ≡ Some left =
      ap (option_and_then (λ (cell : TaggedCell). cond cell.gone (Some cell) None)) is_there ∙ ap (λ b. cond b (Some left) None) q in
      ap (λ s. unwrap_or (option_map (λ (cell : TaggedCell). with_insertion s (names_on c.state) cell.ch r) (gone_cell_of r.doc.cells s)) r) (h.still c.stamp same)
      ∙ ap (λ o. unwrap_or (option_map (λ (cell : TaggedCell). with_insertion c.stamp (names_on c.state) cell.ch r) o) r) found

  part_next : c.gone ≡ false → IsPart stamps places p pre (left ∷ xs) (c ∷ cs) r → IsPart stamps places (p + 1) before xs cs next
  part_next e h =
      let here : is_among (stamps_of pre) c.stamp ≡ false = h.apart c.stamp (or_left (is_same c.stamp c.stamp) _ (same_refl c.stamp)) in
      let gone_e : gone_at places p (c ∷ cs) ≡ left ∷ gone_at places (p + 1) cs = cond-false c.gone (c ∷ gone_at places p cs) (left ∷ gone_at places (p + 1) cs) e in
      let root : is_same left.stamp ROOT ≡ false = (or_parts (is_same c.stamp ROOT) (is_among (stamps_of cs) ROOT) h.root).0 in
      let base = past stamps places p (p + 1) pre c left xs cs r refl gone_e h in
      let fresh : is_among (stamps_of cs) new.stamp ≡ false = new_apart r.doc.count (r.doc.count + 1) r.doc.site cs base.older (omega arith) (omega (arith, h.site)) in
      record {
        cells = ap (λ (l : List TaggedCell). put_after l c.stamp (new ∷ [])) h.cells ∙ put_behind pre left xs (new ∷ []) root here;
        gone = base.gone;
        old = base.old;
        none = base.none;
        site = h.site;
        older = below_later r.doc.count next.doc.count cs (omega arith) base.older;
        distinct = base.distinct;
        apart = λ t k. among_append (pre ++ left ∷ []) (new ∷ []) t (base.apart t k) (or_from (is_same new.stamp t) false (differs new.stamp t (stamps_of cs) fresh k) refl);
        root = base.root;
        still = λ t k. stamp_after_more r.returns (record { former = c.stamp; newer = new.stamp }) t
            ∙ ap (replaced c.stamp new.stamp) (base.still t k)
            ∙ cond-false (is_same t c.stamp) new.stamp t (same_sym t c.stamp ∙ differs c.stamp t (stamps_of cs) (first_apart c.stamp (stamps_of cs) h.distinct) k);
        named = base.named;
      }

  text_next : c.gone ≡ false → places p ≡ true → IsPart stamps places p pre (left ∷ xs) (c ∷ cs) r
      → tagged_text before ++ tagged_text cs ≡ tagged_text pre ++ tagged_text (c ∷ cs)
  text_next e q h =
      let names : names_on new.state ≡ names_on c.state = new_names r.doc.site (r.doc.count + 1) (names_on c.state) h.named.0 in
      let one : tagged_text (left ∷ new ∷ []) ≡ tagged_text (c ∷ []) =
      tagged_append (left ∷ []) (new ∷ []) ∙ ap (λ l. l ++ tagged_text (new ∷ [])) (tagged_gone left q) ∙ (λ i. record { ch = c.ch; tags = names i } ∷ []) ∙ sym (tagged_shown c e) in
      ap (λ (l : List TaggedCell). tagged_text l ++ tagged_text cs) (append_assoc pre (left ∷ []) (new ∷ [])) ∙ text_past pre (left ∷ new ∷ []) c cs one

-- once all have come back, the text is that of the cells before the position, and of the old ones behind it
back : (stamps : List Stamp) (places : ℕ → Bool) (mixed rest : List TaggedCell) (p : ℕ) (pre : List TaggedCell) (r : Reversion) → IsPart stamps places p pre mixed rest r
    → tagged_text (with_returns (map as_removed (cells_at places p rest)) r).doc.cells ≡ tagged_text pre ++ tagged_text rest
back stamps places [] [] p pre r h = ap tagged_text h.cells ∙ tagged_append pre []
back stamps places [] (c ∷ cs) p pre r h = absurd (omega (arith, ap length (ap stamps_of h.old ∙ stamps_gone places p (c ∷ cs))))
back stamps places (x ∷ xs) [] p pre r h =
    split (is_among stamps x.stamp)
    (λ e. back stamps places xs [] p (pre ++ x ∷ []) r (other stamps places p pre x xs [] r e h) ∙ text_other pre x [] (h.gone.0 e))
    (λ e. absurd (omega (arith, ap length (sym (ap (λ b. cond (not b) (x ∷ beside stamps xs) (beside stamps xs)) e) ∙ h.old))))
back stamps places (x ∷ xs) (c ∷ cs) p pre r h =
    let same = cells_at places p cs in
    let more = cells_at places (p + 1) cs in
    let text : List TaggedCell → List TaggedCharacter = λ l. tagged_text (with_returns (map as_removed l) r).doc.cells in
    let left : TaggedCell = record c { gone = places p } in
    let kept = gone_at places p cs in
    let further = gone_at places (p + 1) cs in
    split (is_among stamps x.stamp)
    (λ e. back stamps places xs (c ∷ cs) p (pre ++ x ∷ []) r (other stamps places p pre x xs (c ∷ cs) r e h) ∙ text_other pre x (c ∷ cs) (h.gone.0 e))
    (λ e. split c.gone
    (λ g.
    let stays = cond-true c.gone (c ∷ kept) (left ∷ further) g in
    ap text (cond-true c.gone same (cond (places p) (c ∷ more) more) g)
    ∙ back stamps places xs cs p (pre ++ c ∷ []) r (past stamps places p p pre c c xs cs r refl stays (is_first stamps places p pre c x xs kept (c ∷ cs) r e stays h))
    ∙ text_past pre (c ∷ []) c cs refl)
    (λ g.
    let goes = cond-false c.gone (c ∷ kept) (left ∷ further) g in
    let first = is_first stamps places p pre left x xs further (c ∷ cs) r e goes h in
    split (places p)
    (λ q.
    ap text (cond-false c.gone same (cond (places p) (c ∷ more) more) g ∙ cond-true (places p) (c ∷ more) more q)
    ∙ ap (λ s. tagged_text (with_returns (map as_removed more) s).doc.cells) (is_next stamps places p pre c xs cs r q first)
    ∙ back stamps places xs cs (p + 1) (before stamps places p pre c xs cs r) (next stamps places p pre c xs cs r) (part_next stamps places p pre c xs cs r g first)
    ∙ text_next stamps places p pre c xs cs r g q first)
    (λ q.
    ap text (cond-false c.gone same (cond (places p) (c ∷ more) more) g ∙ cond-false (places p) (c ∷ more) more q)
    ∙ back stamps places xs cs (p + 1) (pre ++ left ∷ []) r (past stamps places p (p + 1) pre c left xs cs r refl goes first)
    ∙ text_past pre (left ∷ []) c cs (tagged_shown left q ∙ sym (tagged_shown c g)))))

-- UNDONE

-- a document that lacks the characters at some places of another one
record Lacks (places : ℕ → Bool) (document less : DocValue) : Type 0 where
  pub cells : less.cells ≡ gone_at places 0 document.cells
  pub site : less.site ≡ document.site
  pub count : document.count ≤ less.count

-- An edit took away the characters at some places, and put in others whose stamps have counts of its own. It is undone: the text is as
-- it was.
edit_back : (site : ℕ) (log : List Operation) (document : DocValue) (places : ℕ → Bool) (kind : Kind) (new : DocValue) → 0 < site → IsHistory log → IsDocument site log document
    → new.site ≡ document.site → document.count ≤ new.count
    → beside (stamps_of_span (counts_between document.site document.count new.count)) new.cells ≡ gone_at places 0 document.cells
    → tagged_text (reverted new (edit_action kind document new (cells_at places 0 document.cells) ∷ [])).cells ≡ tagged_text document.cells
edit_back site log document places kind new p h doc same later old =
    let stamps = stamps_of_span (counts_between document.site document.count new.count) in
    let action = edit_action kind document new (cells_at places 0 document.cells) in
    let r = as_it_is new in
    let start = with_removal stamps r in
    let removed = map as_removed (cells_at places 0 document.cells) in
    let gone = went stamps (are_at stamps new.cells) 0 new.cells (λ k. ap (are_at stamps new.cells) (omega arith)) in
    let part : IsPart stamps places 0 [] start.doc.cells document.cells start = record {
      cells = refl;
      gone = gone.gone;
      old = gone.others ∙ old;
      none = counts_apart site log document new.count p h doc;
      site = omega (arith, same, doc.site, p);
      older = below_later (greatest_last_count log) start.doc.count document.cells (omega (arith, doc.count, later))
          (subst (AreBelowNext (greatest_last_count log)) (sym doc.cells) (cells_older log h));
      distinct = subst AreDistinct (sym doc.cells) (cells_distinct log h);
      apart = λ s k. refl;
      root = ap (λ (cells : List TaggedCell). is_among (stamps_of cells) ROOT) doc.cells ∙ root_absent log h;
      still = λ s k. refl;
      named = rise_all document.cells (subst CellsNamed (sym doc.cells) (every_named log h));
    } in
    ap (λ group. tagged_text (with_each_reverted group r).doc.cells) (one_reversed action)
    ∙ ap (λ ss. tagged_text (with_returns removed (with_removal ss r)).doc.cells) (map-id stamps)
    ∙ back stamps places start.doc.cells document.cells 0 [] start part

-- what a document has that lacks some characters is apart from the counts of an edit
less_apart : (site : ℕ) (log : List Operation) (document less : DocValue) (places : ℕ → Bool) (after : ℕ) → 0 < site → IsHistory log → IsDocument site log document → Lacks places document less
    → HaveNone (stamps_of_span (counts_between document.site document.count after)) less.cells
less_apart site log document less places after p h doc lacks =
    subst (HaveNone (stamps_of_span (counts_between document.site document.count after))) (sym lacks.cells) (λ s k.
    counts_apart site log document after p h doc s (subst (λ (l : List Stamp). is_among l s ≡ true) (stamps_gone places 0 document.cells) k))

-- characters are taken away, and that is undone
removed_back : (site : ℕ) (log : List Operation) (document : DocValue) (places : ℕ → Bool) (less : DocValue) → 0 < site → IsHistory log → IsDocument site log document → Lacks places document less
    → tagged_text (reverted less (edit_action Delete document less (cells_at places 0 document.cells) ∷ [])).cells ≡ tagged_text document.cells
removed_back site log document places less p h doc lacks =
    let stamps = stamps_of_span (counts_between document.site document.count less.count) in
    edit_back site log document places Delete less p h doc lacks.site lacks.count
    (all_beside stamps less.cells (less_apart site log document less places less.count p h doc lacks) ∙ lacks.cells)

-- text is inserted into such a document, and that is undone together with the removal
replaced_back : (site : ℕ) (log : List Operation) (document : DocValue) (places : ℕ → Bool) (view : ViewValue) (place : ℕ) (pieces : List Piece) (rest : Word) → 0 < site → IsHistory log
    → IsDocument site log document → Lacks places document view.doc
    → let new = (with_pieces_at view place pieces rest).doc in
    tagged_text (reverted new (edit_action Replace document new (cells_at places 0 document.cells) ∷ [])).cells ≡ tagged_text document.cells
replaced_back site log document places view place pieces rest p h doc lacks =
    let less = view.doc in
    let begun = none_inserted view in
    let inserted = insertion_of less.site (left_neighbour (cells_shown view) place) (right_behind view place pieces) pieces rest begun in
    let after = left_stamp less.cells (in_text view place) in
    let new = (with_pieces_at view place pieces rest).doc in
    let stamps = stamps_of_span (counts_between document.site document.count inserted.count) in
    let is_new : IsNew less.site less.count inserted =
    new_insertion less.site less.count (left_neighbour (cells_shown view) place) (right_behind view place pieces) pieces rest begun (record { cells = tt; count = omega arith }) in
    let between : AreBetween document.site document.count inserted.count inserted.cells =
    between_wider document.site less.count inserted.count document.count inserted.count inserted.cells lacks.count (omega arith)
    (subst (λ s. AreBetween s less.count inserted.count inserted.cells) lacks.site is_new.cells) in
    let fewer = less_apart site log document less places inserted.count p h doc lacks in
    edit_back site log document places Replace new p h doc lacks.site (omega (arith, lacks.count, is_new.count))
    (beside_put stamps less.cells inserted.cells after (all_beside stamps less.cells fewer) (none_beside document.site document.count inserted.count inserted.cells between)
    ∙ lacks.cells)

-- where a deletion takes no tags off the newline that stays, it does no more than to take characters away
only_places : (document : DocValue) (places : ℕ → Bool) (newline : Option TaggedCell) → unwrap_or (option_map (λ (cell : TaggedCell). names_on cell.state) newline) [] ≡ []
    → let left = without_places document places in
    unwrap_or (option_map (λ (cell : TaggedCell). bared left cell.stamp (names_on cell.state)) newline) left ≡ left
only_places document places None e = refl
only_places document places (Some cell) e = ap (bared (without_places document places) cell.stamp) e

-- ranges are deleted, with no tags taken off the newline that stays: the document lacks the characters at their places
lacks_ranges : (view : ViewValue) (ranges : List Range) → tags_lost view ranges ≡ []
    → Lacks (loss_in (text_shown view) (begin_of view) ranges).places view.doc (without_ranges view ranges).doc
lacks_ranges view ranges none =
    let document = view.doc in
    let loss = loss_in (text_shown view) (begin_of view) ranges in
    let less = only_places document loss.places (newline_left document loss) none in
    record {
      cells = ap (λ (d : DocValue). d.cells) less;
      site = ap (λ (d : DocValue). d.site) less;
      count = subst (λ (d : DocValue). document.count ≤ d.count) (sym less) (omega arith);
    }

-- a deletion that is undone at once leaves the text as it was
pub deletion_back : (site : ℕ) (log : List Operation) (view : ViewValue) (ranges : List Range) → 0 < site → IsHistory log
    → IsDocument site log view.doc → tags_lost view ranges ≡ []
    → let new = (without_ranges view ranges).doc in
    tagged_text (reverted new (edit_action Delete view.doc new (lost_in view ranges) ∷ [])).cells ≡ tagged_text view.doc.cells
deletion_back site log view ranges p h doc none =
    removed_back site log view.doc (loss_in (text_shown view) (begin_of view) ranges).places (without_ranges view ranges).doc p h doc (lacks_ranges view ranges none)

-- a replacement that is undone at once leaves the text as it was
pub replacement_back : (site : ℕ) (log : List Operation) (view : ViewValue) (range : Range) (pieces : List Piece) (rest : Word) → 0 < site → IsHistory log
    → IsDocument site log view.doc → tags_lost view (range ∷ []) ≡ []
    → let new = (with_range_replaced view range pieces rest).doc in
    tagged_text (reverted new (edit_action Replace view.doc new (lost_in view (range ∷ [])) ∷ [])).cells ≡ tagged_text view.doc.cells
replacement_back site log view range pieces rest p h doc none =
    let left = without_ranges view (range ∷ []) in
    replaced_back site log view.doc (loss_in (text_shown view) (begin_of view) (range ∷ [])).places left (min range.from (length_shown left - 1)) pieces rest p h doc
    (lacks_ranges view (range ∷ []) none)
