-- Characters that edits take: visible ones, each of which is gone then.
use Rattle.std.proofs.Common.{◌≡◌, ◌∙◌, ℕ, ◌+◌, ◌≤◌, ◌||◌, Bool, true, false, List, [], ◌∷◌, ◌++◌, cond, filter, length, map, ap, arith, refl, subst, sym}
use Rattle.std.specs.Prelude.{◌-◌, ◌&&◌, Option, None, Some, Ok, drop, min, option_map, take, unwrap_or}
use Rattle.std.specs.List.{list_any}
use Rattle.std.proofs.lemmas.Bool.{cond-false, cond-true}
use Rattle.std.proofs.lemmas.List.{take-append-drop}
use Rattle.std.proofs.lemmas.List.Folds.{list_any-append}
use Rattle.rt_stamps.specs.declared.stamp.Stamp.{Stamp}
use Rattle.rt_stamps.specs.Stamps.{is_same}
use Rattle.rt_stamps.specs.Words.{Word}
use Rattle.rt_stamps.proofs.Order.{same_from_true}
use Rattle.rt_store.specs.Cells.{AreDistinct, stamps_of}
use Rattle.rt_store.specs.Shown.{TaggedCell}
use Rattle.rt_store.specs.Spans.{is_among}
use Rattle.rt_store.proofs.Distinct.{first_apart, others_distinct, split}
use Rattle.rt_rga.proofs.Corollaries.{cells_distinct}
use Rattle.rt_plans.specs.declared.range.Range.{Range}
use Rattle.rt_plans.specs.Deletions.{Loss, loss_in, newline_left, without_places, without_text}
use Rattle.rt_plans.specs.DocValue.{DocValue, left_stamp, put_after}
use Rattle.rt_plans.specs.Insertions.{Piece, insertion_of, left_neighbour}
use Rattle.rt_plans.specs.Removals.{cells_at, gone_at}
use Rattle.rt_plans.specs.TagWrites.{bared, tag_write, cell_with_tag, with_tag}
use Rattle.rt_store.specs.Cells.{after_element}
use Rattle.rt_tags.specs.States.{names_on, written}
use Rattle.rt_text.specs.Commands.{view_deleted, lost_in, none_inserted, view_replaced, right_behind, with_range_replaced, without_ranges}
use Rattle.rt_text.specs.Index.{place_at_index}
use Rattle.rt_text.specs.Ranges.{ranges_of}
use Rattle.rt_text.specs.Widgets.{ViewValue, begin_of, in_text, length_shown, cells_shown, text_shown, widget_of}
use Rattle.rt_revert.specs.Reverting.{as_removed}
use Rattle.rt_undo.specs.Actions.{Removed}
use Rattle.rt_recording.specs.Edits.{lost_between, lost_from}
use Rattle.rt_recording.specs.Noting.{IsOfLog}
use Rattle.rt_recording.specs.Settled.{is_gone_cell, times}
use Rattle.rt_recording.proofs.Gone.{gone_cons}
use Rattle.rt_recording.proofs.Once.{HaveGone, one_if}
use Rattle.rt_recording.proofs.Outcomes.{given}

-- the stamps of removed characters are those of their cells
pub removed_stamps : (cells : List TaggedCell) → map (λ (r : Removed (List Word)). r.stamp) (map as_removed cells) ≡ stamps_of cells
removed_stamps [] = refl
removed_stamps (c ∷ cs) = ap (λ l. c.stamp ∷ l) (removed_stamps cs)

-- one more of them
times_here : (c : TaggedCell) (xs : List Stamp) (s : Stamp) → is_same c.stamp s ≡ true → times s (c.stamp ∷ xs) ≡ times s xs + 1
times_here c xs s e = ap (λ b. length (cond b (c.stamp ∷ filter (λ t. is_same t s) xs) (filter (λ t. is_same t s) xs))) e ∙ (omega arith)

times_there : (c : TaggedCell) (xs : List Stamp) (s : Stamp) → is_same c.stamp s ≡ false → times s (c.stamp ∷ xs) ≡ times s xs
times_there c xs s e = ap (λ b. length (cond b (c.stamp ∷ filter (λ t. is_same t s) xs) (filter (λ t. is_same t s) xs))) e

not_here : (a b : Bool) → (a || b) ≡ false → (a ≡ false) × (b ≡ false)
not_here true b h = absurd (cc h)
not_here false b h = (refl, h)

-- who has no cell isn't among those at some places
none_at : (places : ℕ → Bool) (p : ℕ) (cells : List TaggedCell) (s : Stamp) → is_among (stamps_of cells) s ≡ false → times s (stamps_of (cells_at places p cells)) ≡ 0
none_at places p [] s h = refl
none_at places p (c ∷ cs) s h =
    let apart = not_here (is_same c.stamp s) (is_among (stamps_of cs) s) h in
    by c.gone (places p) apart.0 (none_at places p cs s apart.1) (none_at places (p + 1) cs s apart.1)
  where
    by : (g here : Bool) → is_same c.stamp s ≡ false → times s (stamps_of (cells_at places p cs)) ≡ 0 → times s (stamps_of (cells_at places (p + 1) cs)) ≡ 0
        → times s (stamps_of (cond g (cells_at places p cs) (cond here (c ∷ cells_at places (p + 1) cs) (cells_at places (p + 1) cs)))) ≡ 0
    by true here e same next = same
    by false true e same next = times_there c (stamps_of (cells_at places (p + 1) cs)) s e ∙ next
    by false false e same next = next

-- THE VISIBLE CHARACTERS AT SOME PLACES GO

module _ (places : ℕ → Bool) where
  -- so often a stamp stands among those at the places, and so often it may
  abbrev taken_at : ℕ → List TaggedCell → Stamp → ℕ
  taken_at p cells s = times s (stamps_of (cells_at places p cells))

  abbrev Fits : ℕ → List TaggedCell → Stamp → Type 0
  Fits p cells s = taken_at p cells s ≤ cond (is_gone_cell cells s) 0 (one_if (is_gone_cell (gone_at places p cells) s))

  -- a cell with the stamp, before others that haven't it
  fits_here : (p : ℕ) (c : TaggedCell) (cs : List TaggedCell) (s : Stamp) → is_same c.stamp s ≡ true → is_among (stamps_of cs) s ≡ false → Fits p (c ∷ cs) s
  fits_here p c cs s e apart =
      let told : is_gone_cell (c ∷ cs) s ≡ c.gone = gone_cons c cs s ∙ cond-true (is_same c.stamp s) c.gone (is_gone_cell cs s) e in
      subst (λ b. taken_at p (c ∷ cs) s ≤ cond b 0 (one_if (is_gone_cell (gone_at places p (c ∷ cs)) s))) (sym told)
      (by c.gone (places p) refl refl)
    where
      left : TaggedCell
      left = record c { gone = places p }

      by : (g here : Bool) → c.gone ≡ g → places p ≡ here
          → times s (stamps_of (cond g (cells_at places p cs) (cond here (c ∷ cells_at places (p + 1) cs) (cells_at places (p + 1) cs))))
          ≤ cond g 0 (one_if (is_gone_cell (cond g (c ∷ gone_at places p cs) (left ∷ gone_at places (p + 1) cs)) s))
      by true here f k = omega (arith, none_at places p cs s apart)
      by false false f k = omega (arith, none_at places (p + 1) cs s apart)
      by false true f k =
          let gone : is_gone_cell (left ∷ gone_at places (p + 1) cs) s ≡ true = gone_cons left (gone_at places (p + 1) cs) s ∙ cond-true (is_same c.stamp s) (places p) (is_gone_cell (gone_at places (p + 1) cs) s) e ∙ k in
          let many = times_here c (stamps_of (cells_at places (p + 1) cs)) s e in
          let rest = none_at places (p + 1) cs s apart in
          subst (λ b. times s (stamps_of (c ∷ cells_at places (p + 1) cs)) ≤ one_if b) (sym gone) (omega (arith, many, rest))

  -- a cell with another stamp, before some
  fits_there : (p : ℕ) (c : TaggedCell) (cs : List TaggedCell) (s : Stamp) → is_same c.stamp s ≡ false → ((q : ℕ) → Fits q cs s) → Fits p (c ∷ cs) s
  fits_there p c cs s e rest =
      let told : is_gone_cell (c ∷ cs) s ≡ is_gone_cell cs s = gone_cons c cs s ∙ cond-false (is_same c.stamp s) c.gone (is_gone_cell cs s) e in
      subst (λ b. taken_at p (c ∷ cs) s ≤ cond b 0 (one_if (is_gone_cell (gone_at places p (c ∷ cs)) s))) (sym told)
      (by c.gone (places p) (rest p) (rest (p + 1)))
    where
      left : TaggedCell
      left = record c { gone = places p }

      same : is_gone_cell (c ∷ gone_at places p cs) s ≡ is_gone_cell (gone_at places p cs) s
      same = gone_cons c (gone_at places p cs) s ∙ cond-false (is_same c.stamp s) c.gone (is_gone_cell (gone_at places p cs) s) e

      next : is_gone_cell (left ∷ gone_at places (p + 1) cs) s ≡ is_gone_cell (gone_at places (p + 1) cs) s
      next = gone_cons left (gone_at places (p + 1) cs) s ∙ cond-false (is_same c.stamp s) (places p) (is_gone_cell (gone_at places (p + 1) cs) s) e

      by : (g here : Bool) → taken_at p cs s ≤ cond (is_gone_cell cs s) 0 (one_if (is_gone_cell (gone_at places p cs) s))
          → taken_at (p + 1) cs s ≤ cond (is_gone_cell cs s) 0 (one_if (is_gone_cell (gone_at places (p + 1) cs) s))
          → times s (stamps_of (cond g (cells_at places p cs) (cond here (c ∷ cells_at places (p + 1) cs) (cells_at places (p + 1) cs))))
          ≤ cond (is_gone_cell cs s) 0 (one_if (is_gone_cell (cond g (c ∷ gone_at places p cs) (left ∷ gone_at places (p + 1) cs)) s))
      by true here h k = subst (λ b. taken_at p cs s ≤ cond (is_gone_cell cs s) 0 (one_if b)) (sym same) h
      by false false h k = subst (λ b. taken_at (p + 1) cs s ≤ cond (is_gone_cell cs s) 0 (one_if b)) (sym next) k
      by false true h k =
          subst (λ b. times s (stamps_of (c ∷ cells_at places (p + 1) cs)) ≤ cond (is_gone_cell cs s) 0 (one_if b)) (sym next)
          (subst (λ n. n ≤ cond (is_gone_cell cs s) 0 (one_if (is_gone_cell (gone_at places (p + 1) cs) s))) (sym (times_there c (stamps_of (cells_at places (p + 1) cs)) s e)) k)

  fit : (p : ℕ) (cells : List TaggedCell) (s : Stamp) → AreDistinct cells → Fits p cells s
  fit p [] s d = omega arith
  fit p (c ∷ cs) s d = split (is_same c.stamp s)
      (λ e. fits_here p c cs s e (subst (λ t. is_among (stamps_of cs) t ≡ false) (same_from_true c.stamp s e) (first_apart c.stamp (stamps_of cs) d)))
      (λ e. fits_there p c cs s e (λ q. fit q cs s (others_distinct c.stamp (stamps_of cs) d)))

pub places_gone : (places : ℕ → Bool) (cells : List TaggedCell) → AreDistinct cells → HaveGone cells (gone_at places 0 cells) (stamps_of (cells_at places 0 cells))
places_gone places cells d = λ s. fit places 0 cells s d

-- and stay gone in what comes of it
have_gone_on : (old mid new : List TaggedCell) (xs : List Stamp) → ((s : Stamp) → is_gone_cell mid s ≡ true → is_gone_cell new s ≡ true) → HaveGone old mid xs → HaveGone old new xs
have_gone_on old mid new xs stay went = λ s. by s (is_gone_cell mid s) refl (is_gone_cell old s) (went s)
  where
    by : (s : Stamp) (b : Bool) → is_gone_cell mid s ≡ b → (g : Bool) → times s xs ≤ cond g 0 (one_if b) → times s xs ≤ cond g 0 (one_if (is_gone_cell new s))
    by s b e true h = h
    by s true e false h = subst (λ n. times s xs ≤ one_if n) (sym (stay s e)) h
    by s false e false h = omega (arith, h)

-- A NEWLINE THAT LOSES ITS TAGS

tagged_gone : (site count : ℕ) (name : Word) (on : Bool) (stamps : List Stamp) (cells : List TaggedCell) (s : Stamp) → is_gone_cell (map (cell_with_tag site count name on stamps) cells) s ≡ is_gone_cell cells s
tagged_gone site count name on stamps [] s = refl
tagged_gone site count name on stamps (c ∷ cs) s =
    gone_cons (cell_with_tag site count name on stamps c) (map (cell_with_tag site count name on stamps) cs) s
    ∙ by (is_among stamps c.stamp)
    ∙ ap (cond (is_same c.stamp s) c.gone) (tagged_gone site count name on stamps cs s)
    ∙ sym (gone_cons c cs s)
  where
    rest : Bool
    rest = is_gone_cell (map (cell_with_tag site count name on stamps) cs) s

    with_tag_on : TaggedCell
    with_tag_on = record c { state = written (tag_write site count name on stamps c.stamp) c.state }

    by : (b : Bool) → cond (is_same (cond b with_tag_on c).stamp s) (cond b with_tag_on c).gone rest ≡ cond (is_same c.stamp s) c.gone rest
    by true = refl
    by false = refl

bared_gone : (doc : DocValue) (stamp : Stamp) (names : List Word) (s : Stamp) → is_gone_cell (bared doc stamp names).cells s ≡ is_gone_cell doc.cells s
bared_gone doc stamp [] s = refl
bared_gone doc stamp (name ∷ names) s =
    bared_gone (with_tag doc name false (stamp ∷ [])) stamp names s ∙ tagged_gone doc.site doc.count name false (stamp ∷ []) doc.cells s

text_gone : (doc : DocValue) (loss : Loss) (s : Stamp) → is_gone_cell (without_text doc loss).cells s ≡ is_gone_cell (gone_at loss.places 0 doc.cells) s
text_gone doc loss s = by (newline_left doc loss)
  where
    left : DocValue
    left = without_places doc loss.places

    by : (o : Option TaggedCell) → is_gone_cell (unwrap_or (option_map (λ (cell : TaggedCell). bared left cell.stamp (names_on cell.state)) o) left).cells s ≡ is_gone_cell left.cells s
    by None = refl
    by (Some cell) = bared_gone left cell.stamp (names_on cell.state) s

-- what a deletion takes is gone
without_gone : (view : ViewValue) (ranges : List Range) → AreDistinct view.doc.cells
    → HaveGone view.doc.cells (without_ranges view ranges).doc.cells (map (λ (r : Removed (List Word)). r.stamp) (map as_removed (lost_in view ranges)))
without_gone view ranges d =
    let loss = loss_in (text_shown view) (begin_of view) ranges in
    let cells = view.doc.cells in
    let mid = gone_at loss.places 0 cells in
    have_gone_on cells mid (without_ranges view ranges).doc.cells (map (λ (r : Removed (List Word)). r.stamp) (map as_removed (lost_in view ranges)))
    (λ s e. text_gone view.doc loss s ∙ e)
    (subst (HaveGone cells mid) (sym (removed_stamps (cells_at loss.places 0 cells))) (places_gone loss.places cells d))

-- CELLS THAT COME BETWEEN

-- some cell of the stamp is gone
abbrev some_gone : List TaggedCell → Stamp → Bool
some_gone cells s = list_any (λ (c : TaggedCell). is_same c.stamp s && c.gone) cells

gone_some : (cells : List TaggedCell) (s : Stamp) → is_gone_cell cells s ≡ true → some_gone cells s ≡ true
gone_some [] s h = absurd (cc h)
gone_some (c ∷ cs) s h = by (is_same c.stamp s) c.gone (sym (gone_cons c cs s) ∙ h) (gone_some cs s)
  where
    by : (b g : Bool) → cond b g (is_gone_cell cs s) ≡ true → (is_gone_cell cs s ≡ true → some_gone cs s ≡ true) → ((b && g) || some_gone cs s) ≡ true
    by true true e rest = refl
    by true false e rest = absurd (cc e)
    by false g e rest = rest e

some_known : (cells : List TaggedCell) (s : Stamp) → some_gone cells s ≡ true → is_among (stamps_of cells) s ≡ true
some_known [] s h = absurd (cc h)
some_known (c ∷ cs) s h = by (is_same c.stamp s) c.gone h (some_known cs s)
  where
    by : (b g : Bool) → ((b && g) || some_gone cs s) ≡ true → (some_gone cs s ≡ true → is_among (stamps_of cs) s ≡ true) → (b || is_among (stamps_of cs) s) ≡ true
    by true g e rest = refl
    by false g e rest = rest e

some_is : (cells : List TaggedCell) (s : Stamp) → AreDistinct cells → some_gone cells s ≡ true → is_gone_cell cells s ≡ true
some_is [] s d h = absurd (cc h)
some_is (c ∷ cs) s d h = gone_cons c cs s ∙ by (is_same c.stamp s) refl c.gone h (some_is cs s (others_distinct c.stamp (stamps_of cs) d))
  where
    by : (b : Bool) → is_same c.stamp s ≡ b → (g : Bool) → ((b && g) || some_gone cs s) ≡ true → (some_gone cs s ≡ true → is_gone_cell cs s ≡ true) → cond b g (is_gone_cell cs s) ≡ true
    by true e true k rest = refl
    by true e false k rest =
        let apart = subst (λ t. is_among (stamps_of cs) t ≡ false) (same_from_true c.stamp s e) (first_apart c.stamp (stamps_of cs) d) in
        let known = some_known cs s k in
        absurd (cc (apart, known))
    by false e g k rest = rest k

split_or : (a b c : Bool) → (a || b) ≡ true → ((a || c) || b) ≡ true
split_or true b c h = refl
split_or false b true h = refl
split_or false b false h = h

some_put : (cells : List TaggedCell) (left : Stamp) (new : List TaggedCell) (s : Stamp) → some_gone cells s ≡ true → some_gone (put_after cells left new) s ≡ true
some_put cells left new s h =
    let at = after_element cells left in
    let test : TaggedCell → Bool = λ c. is_same c.stamp s && c.gone in
    let front = take at cells in
    let back = drop at cells in
    let parts : (list_any test front || list_any test back) ≡ true = sym (list_any-append test front back) ∙ ap (list_any test) (take-append-drop at cells) ∙ h in
    list_any-append test (front ++ new) back
    ∙ ap (λ b. b || list_any test back) (list_any-append test front new)
    ∙ split_or (list_any test front) (list_any test back) (list_any test new) parts

-- EDITS

pub none_lost : (old new : List TaggedCell) → HaveGone old new []
none_lost old new = λ s. omega arith

distinct_of : (doc : DocValue) → IsOfLog doc → AreDistinct doc.cells
distinct_of doc kept = subst AreDistinct (sym kept.cells) (cells_distinct doc.log kept.history)

pub deleted_gone : (view new : ViewValue) (indices : List Word) → IsOfLog view.doc → view_deleted view indices ≡ Ok new
    → HaveGone view.doc.cells new.doc.cells (map (λ (r : Removed (List Word)). r.stamp) (map as_removed (lost_between view indices)))
deleted_gone view new indices kept h =
    let ranges = ranges_of (map (place_at_index (widget_of view)) indices) in
    subst (λ (v : ViewValue). HaveGone view.doc.cells v.doc.cells (map (λ (r : Removed (List Word)). r.stamp) (map as_removed (lost_between view indices))))
    (given _ (without_ranges view ranges) new h) (without_gone view ranges (distinct_of view.doc kept))

pub replaced_gone : (view new : ViewValue) (from to : Word) (pieces : List Piece) (rest : Word) → IsOfLog view.doc → IsOfLog new.doc → view_replaced view from to pieces rest ≡ Ok new
    → HaveGone view.doc.cells new.doc.cells (map (λ (r : Removed (List Word)). r.stamp) (map as_removed (lost_from view from to)))
replaced_gone view new from to pieces rest kept same h =
    let range : Range = record { from = place_at_index (widget_of view) from; to = place_at_index (widget_of view) to } in
    let left = without_ranges view (range ∷ []) in
    let place = min range.from (length_shown left - 1) in
    let is : with_range_replaced view range pieces rest ≡ new = given _ (with_range_replaced view range pieces rest) new h in
    let at = in_text left place in
    let behind = left_stamp left.doc.cells at in
    let put = insertion_of left.doc.site (left_neighbour (cells_shown left) place) (right_behind left place pieces) pieces rest (none_inserted left) in
    let cells : put_after left.doc.cells behind put.cells ≡ new.doc.cells = ap (λ (v : ViewValue). v.doc.cells) is in
    have_gone_on view.doc.cells left.doc.cells new.doc.cells (map (λ (r : Removed (List Word)). r.stamp) (map as_removed (lost_from view from to)))
    (λ s e. some_is new.doc.cells s (distinct_of new.doc same)
    (ap (λ (l : List TaggedCell). some_gone l s) (sym cells) ∙ some_put left.doc.cells behind put.cells s (gone_some left.doc.cells s e)))
    (without_gone view (range ∷ []) (distinct_of view.doc kept))
