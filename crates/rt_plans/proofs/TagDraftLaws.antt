-- What the Tag operations of a tag edit do.
use Rattle.std.proofs.Common.{◌≡◌, ℕ, zero, suc, ◌+◌, ◌*◌, ◌/◌, ◌<◌, ◌≤◌, ◌⊎◌, inl, inr, List, [], ◌∷◌, ◌++◌, Bool, true, false, cond, ◌||◌, length, take, drop, map, refl, sym, ◌∙◌, ap, subst, arith, take-append-drop, length-drop}
use Rattle.std.specs.List.{IsDistinct, list_all}
use Rattle.std.proofs.lemmas.Bool.{and_from, and_parts, or_from, or_left, or_parts, cond-false, cond-true}
use Rattle.std.proofs.lemmas.Bool.Decides.{nat_tests}
use Rattle.std.proofs.lemmas.List.{length-take}
use Rattle.std.proofs.lemmas.List.Folds.{list_any-append}
use Rattle.std.proofs.Math.Nat.{add-div_right, div-eq_of_lt, suc-mul}
use Rattle.rt_stamps.specs.declared.limits.TheConstants.{MOST_SPANS}
use Rattle.rt_stamps.specs.declared.stamp.Span.{Span}
use Rattle.rt_stamps.specs.declared.stamp.Stamp.{Stamp}
use Rattle.rt_stamps.specs.declared.stamp.TheConstants.{FINAL}
use Rattle.rt_stamps.specs.Stamps.{is_same}
use Rattle.rt_stamps.specs.Words.{Word}
use Rattle.rt_ops.specs.Operations.{Operation, Body, Tag}
use Rattle.rt_oplog.specs.Logs.{with_operation}
use Rattle.rt_ops.specs.Rules.{is_name}
use Rattle.rt_tags.specs.States.{Write, written}
use Rattle.rt_store.specs.Cells.{is_in_span}
use Rattle.rt_store.specs.Shown.{TaggedCell}
use Rattle.rt_store.specs.Spans.{each_next, is_among, is_clear_of, is_in_spans, is_span}
use Rattle.rt_store.proofs.Distinct.{split}
use Rattle.rt_rga.specs.Changes.{written_in_any}
use Rattle.rt_rga.specs.Drafts.{all_changed, next_operation, operations_of}
use Rattle.rt_rga.specs.Histories.{greatest_last_count, has_character}
use Rattle.rt_rga.specs.Requests.{MayBeMade, last_count_after}
use Rattle.rt_rga.proofs.Continuing.{known_all}
use Rattle.rt_rga.proofs.Drafting.{count_after}
use Rattle.rt_rga.proofs.Writes.{spans_name}
use Rattle.rt_plans.specs.NamedSpans.{by_site, first_parts, parts_for, parts_of, spans_in}
use Rattle.rt_plans.specs.Removals.{operations_for, span_count}
use Rattle.rt_plans.specs.TagDrafts.{tag_drafts}
use Rattle.rt_plans.specs.TagWrites.{spans_before, cell_with_tag}
use Rattle.rt_plans.proofs.NamedSpanLaws.{IsCut, by_site_sorted, cut, cut_more, length_parts, span_at, spans_counted, spans_ended, spans_forward, spans_hold}
use Rattle.rt_plans.proofs.PartLaws.{AreSpans, in_first, in_more, more_spans, part_rules, rest_spans, still_character}
use Rattle.rt_plans.proofs.SpanLaws.{clear_runs}

-- NO STAMP IN TWO SPANS

clear_past : (x z y : Span) → is_clear_of x z ≡ true → is_span z ≡ true → is_clear_of z y ≡ true → is_clear_of x y ≡ true
clear_past x z y a b c = grind (arith, nat_tests)

not_in_next : (x z : Span) (s : Stamp) → is_clear_of x z ≡ true → is_in_span x s ≡ true → is_in_span z s ≡ false
not_in_next x z s a b = grind (arith, nat_tests)

past_next : (x z : Span) (zs : List Span) → is_clear_of x z ≡ true → is_span z ≡ true → each_next is_clear_of (z ∷ zs) ≡ true → each_next is_clear_of (x ∷ zs) ≡ true
past_next x z [] a b c = refl
past_next x z (y ∷ ys) a b c =
    let p = and_parts (is_clear_of z y) (each_next is_clear_of (y ∷ ys)) c in
    and_from (is_clear_of x y) _ (clear_past x z y a b p.0) p.1

none_after : (x : Span) (zs : List Span) (s : Stamp) → AreSpans (x ∷ zs) → is_in_span x s ≡ true → is_in_spans zs s ≡ false
none_after x [] s h k = refl
none_after x (z ∷ zs) s h k =
    let c = and_parts (is_clear_of x z) (each_next is_clear_of (z ∷ zs)) h.clear in
    let f = and_parts (is_span x) (list_all is_span (z ∷ zs)) h.forward in
    let g = and_parts (is_span z) (list_all is_span zs) f.1 in
    or_from (is_in_span z s) _ (not_in_next x z s c.0 k)
    (none_after x zs s (record { forward = and_from (is_span x) _ f.0 g.1; clear = past_next x z zs c.0 g.0 c.1 }) k)

apart : (xs ys : List Span) (s : Stamp) → AreSpans (xs ++ ys) → is_in_spans xs s ≡ true → is_in_spans ys s ≡ false
apart [] ys s h k = absurd (cc k)
apart (x ∷ xs) ys s h k = split (is_in_span x s)
    (λ e. (or_parts (is_in_spans xs s) (is_in_spans ys s) (sym (list_any-append (λ span. is_in_span span s) xs ys) ∙ none_after x (xs ++ ys) s h e)).1)
    (λ e. apart xs ys s (rest_spans (x ∷ []) (xs ++ ys) h) (ap (λ b. b || is_in_spans xs s) (sym e) ∙ k))

-- IN WHICH PART

at_front : (xs ys : List Span) (s : Stamp) → is_in_spans xs s ≡ true → span_at (xs ++ ys) s < length xs
at_front [] ys s k = absurd (cc k)
at_front (x ∷ xs) ys s k = split (is_in_span x s)
    (λ e. let n : span_at (x ∷ xs ++ ys) s ≡ 0 = cond-true (is_in_span x s) _ _ e in omega (arith, n))
    (λ e.
    let n : span_at (x ∷ xs ++ ys) s ≡ span_at (xs ++ ys) s + 1 = cond-false (is_in_span x s) _ _ e in
    omega (arith, n, at_front xs ys s (ap (λ b. b || is_in_spans xs s) (sym e) ∙ k)))

at_rest : (xs ys : List Span) (s : Stamp) → is_in_spans xs s ≡ false → span_at (xs ++ ys) s ≡ length xs + span_at ys s
at_rest [] ys s k = omega arith
at_rest (x ∷ xs) ys s k =
    let p = or_parts (is_in_span x s) (is_in_spans xs s) k in
    let n : span_at (x ∷ xs ++ ys) s ≡ span_at (xs ++ ys) s + 1 = cond-false (is_in_span x s) _ _ p.0 in
    omega (arith, n, at_rest xs ys s p.1)

some_in : (xs : List Span) (s : Stamp) → is_in_spans xs s ≡ true → 0 < length xs
some_in [] s k = absurd (cc k)
some_in (x ∷ xs) s k = omega arith

-- TAGS OF ALL PARTS

module _ (most site : ℕ) (name : Word) (on : Bool) where
  -- the write of a count
  abbrev write_at : ℕ → Write
  write_at count = record { name = name; writer = record { count = count; site = site }; on = on }

  abbrev written_at : TaggedCell → ℕ → TaggedCell
  written_at cell count = record cell { state = written (write_at count) cell.state }

  -- a cell after the operations that name the parts of spans
  abbrev pub tagged_by : ℕ → List Span → TaggedCell → TaggedCell
  tagged_by count spans cell = cond (is_in_spans spans cell.stamp) (written_at cell (count + 1 + span_at spans cell.stamp / most)) cell

  in_front : (count : ℕ) (xs ys : List Span) (cell : TaggedCell) → AreSpans (xs ++ ys) → length xs ≤ most → is_in_spans xs cell.stamp ≡ true
      → tagged_by (count + 1) ys (written_in_any xs (write_at (count + 1)) cell) ≡ tagged_by count (xs ++ ys) cell
  in_front count xs ys cell h l e =
      let s = cell.stamp in
      let here : written_in_any xs (write_at (count + 1)) cell ≡ written_at cell (count + 1) = cond-true (is_in_spans xs s) (written_at cell (count + 1)) cell e in
      let both : is_in_spans (xs ++ ys) s ≡ true = list_any-append (λ span. is_in_span span s) xs ys ∙ or_left (is_in_spans xs s) _ e in
      let first : span_at (xs ++ ys) s / most ≡ 0 = div-eq_of_lt (omega (arith, at_front xs ys s e, l)) in
      let n : count + 1 ≡ count + 1 + span_at (xs ++ ys) s / most = omega (arith, first) in
      ap (tagged_by (count + 1) ys) here ∙ cond-false (is_in_spans ys s) _ (written_at cell (count + 1)) (apart xs ys s h e)
      ∙ ap (written_at cell) n ∙ sym (cond-true (is_in_spans (xs ++ ys) s) (written_at cell (count + 1 + span_at (xs ++ ys) s / most)) cell both)

  in_rest : (count : ℕ) (xs ys : List Span) (cell : TaggedCell) → 0 < most → length xs ≡ most → is_in_spans xs cell.stamp ≡ false → is_in_spans ys cell.stamp ≡ true
      → tagged_by (count + 1) ys cell ≡ tagged_by count (xs ++ ys) cell
  in_rest count xs ys cell p l e f =
      let s = cell.stamp in
      let both : is_in_spans (xs ++ ys) s ≡ true = list_any-append (λ span. is_in_span span s) xs ys ∙ ap (λ b. b || is_in_spans ys s) e ∙ f in
      let at : span_at (xs ++ ys) s ≡ span_at ys s + most = omega (arith, at_rest xs ys s e, l) in
      let next : span_at (xs ++ ys) s / most ≡ span_at ys s / most + 1 = ap (λ n. n / most) at ∙ add-div_right (span_at ys s) p in
      let n : count + 1 + 1 + span_at ys s / most ≡ count + 1 + span_at (xs ++ ys) s / most = omega (arith, next) in
      cond-true (is_in_spans ys s) (written_at cell (count + 1 + 1 + span_at ys s / most)) cell f
      ∙ ap (written_at cell) n ∙ sym (cond-true (is_in_spans (xs ++ ys) s) (written_at cell (count + 1 + span_at (xs ++ ys) s / most)) cell both)

  in_none : (count : ℕ) (xs ys : List Span) (cell : TaggedCell) → is_in_spans xs cell.stamp ≡ false → is_in_spans ys cell.stamp ≡ false
      → tagged_by (count + 1) ys cell ≡ tagged_by count (xs ++ ys) cell
  in_none count xs ys cell e f =
      let s = cell.stamp in
      let neither : is_in_spans (xs ++ ys) s ≡ false = list_any-append (λ span. is_in_span span s) xs ys ∙ or_from (is_in_spans xs s) _ e f in
      cond-false (is_in_spans ys s) (written_at cell (count + 1 + 1 + span_at ys s / most)) cell f
      ∙ sym (cond-false (is_in_spans (xs ++ ys) s) (written_at cell (count + 1 + span_at (xs ++ ys) s / most)) cell neither)

  one_part : (count : ℕ) (xs ys : List Span) (cell : TaggedCell) → 0 < most → AreSpans (xs ++ ys) → length xs ≤ most → (0 < length ys → length xs ≡ most)
      → tagged_by (count + 1) ys (written_in_any xs (write_at (count + 1)) cell) ≡ tagged_by count (xs ++ ys) cell
  one_part count xs ys cell p h l full =
      let s = cell.stamp in
      split (is_in_spans xs s)
      (λ e. in_front count xs ys cell h l e)
      (λ e. ap (tagged_by (count + 1) ys) (cond-false (is_in_spans xs s) (written_at cell (count + 1)) cell e)
      ∙ split (is_in_spans ys s) (λ f. in_rest count xs ys cell p (full (some_in ys s f)) e f) (λ f. in_none count xs ys cell e f))

  abbrev tags : List (List Span) → List Body
  tags parts = map (λ spans. Tag on name spans) parts

  all_none : (count : ℕ) (cells : List TaggedCell) → cells ≡ map (tagged_by count []) cells
  all_none count [] = refl
  all_none count (c ∷ cs) = ap (λ l. c ∷ l) (all_none count cs)

  all_one : (count : ℕ) (xs ys : List Span) (cells : List TaggedCell) → 0 < most → AreSpans (xs ++ ys) → length xs ≤ most → (0 < length ys → length xs ≡ most)
      → map (tagged_by (count + 1) ys) (map (written_in_any xs (write_at (count + 1))) cells) ≡ map (tagged_by count (xs ++ ys)) cells
  all_one count xs ys [] p h l full = refl
  all_one count xs ys (c ∷ cs) p h l full = λ i. one_part count xs ys c p h l full i ∷ all_one count xs ys cs p h l full i

  -- Tags of all parts write on the cells of the spans, those of each part under the next count
  pub tags_write : (parts : ℕ) (log : List Operation) (cells : List TaggedCell) (spans : List Span) → 0 < most → length spans ≤ parts * most → AreSpans spans
      → all_changed (operations_of site (tags (first_parts parts most spans)) log) cells ≡ map (tagged_by (greatest_last_count log) spans) cells
  tags_write zero log cells [] p c h = all_none (greatest_last_count log) cells
  tags_write zero log cells (x ∷ xs) p c h = absurd (omega arith)
  tags_write (suc parts) log cells spans p c h =
      let count = greatest_last_count log in
      let xs = take most spans in
      let ys = drop most spans in
      let op = next_operation site (Tag on name xs) log in
      let l = length-take most spans in
      let m = length-drop most spans in
      let few : length ys ≤ parts * most = omega (arith, m, suc-mul parts most, c) in
      let later : greatest_last_count (with_operation op log) ≡ count + 1 = count_after op log (omega arith) in
      let all : xs ++ ys ≡ spans = take-append-drop most spans in
      tags_write parts (with_operation op log) (map (written_in_any xs (write_at (count + 1))) cells) ys p few (more_spans most spans h)
      ∙ ap (λ n. map (tagged_by n ys) (map (written_in_any xs (write_at (count + 1))) cells)) later
      ∙ all_one count xs ys cells p (subst AreSpans (sym all) h) (omega (arith, l)) (λ some. omega (arith, l, m, some))
      ∙ ap (λ q. map (tagged_by count q) cells) all

-- so many counts
counted : (on : Bool) (name : Word) (parts : List (List Span)) (count : ℕ) → last_count_after count (map (λ spans. Tag on name spans) parts) ≡ count + length parts
counted on name [] count = omega arith
counted on name (part ∷ parts) count = omega (arith, counted on name parts (count + 1))

-- OF STAMPS

module _ (site : ℕ) (name : Word) (on : Bool) (stamps : List Stamp) (distinct : IsDistinct is_same stamps) where
  tag_spans : AreSpans (spans_in stamps)
  tag_spans = record { forward = spans_forward stamps; clear = clear_runs (by_site stamps) (by_site_sorted stamps distinct) }

  tagged_cell : (count : ℕ) (cell : TaggedCell) → tagged_by MOST_SPANS site name on count (spans_in stamps) cell ≡ cell_with_tag site count name on stamps cell
  tagged_cell count cell =
      let s = cell.stamp in
      let spans = spans_in stamps in
      let same = spans_hold stamps s in
      let new = λ (k : ℕ). record cell { state = written (record { name = name; writer = record { count = count + 1 + k / MOST_SPANS; site = site }; on = on }) cell.state } in
      split (is_among stamps s)
      (λ e. cond-true (is_in_spans spans s) (new (span_at spans s)) cell (same ∙ e) ∙ ap new (sym (spans_ended stamps s distinct e))
      ∙ sym (cond-true (is_among stamps s) (new (spans_before stamps s)) cell e))
      (λ e. cond-false (is_in_spans spans s) (new (span_at spans s)) cell (same ∙ e) ∙ sym (cond-false (is_among stamps s) (new (spans_before stamps s)) cell e))

  tagged_cells : (count : ℕ) (cells : List TaggedCell) → map (tagged_by MOST_SPANS site name on count (spans_in stamps)) cells ≡ map (cell_with_tag site count name on stamps) cells
  tagged_cells count [] = refl
  tagged_cells count (c ∷ cs) = λ i. tagged_cell count c i ∷ tagged_cells count cs i

  -- the operations do what the flat definition says
  pub tags_as_flat : (log : List Operation) (cells : List TaggedCell)
      → all_changed (operations_of site (tag_drafts MOST_SPANS on name stamps) log) cells ≡ map (cell_with_tag site (greatest_last_count log) name on stamps) cells
  tags_as_flat log cells =
      let spans = spans_in stamps in
      tags_write MOST_SPANS site name on (parts_for MOST_SPANS (length spans)) log cells spans (omega arith) (cut MOST_SPANS (length spans) (omega arith)).enough tag_spans
      ∙ tagged_cells (greatest_last_count log) cells

  pub tags_counted : (count : ℕ) → last_count_after count (tag_drafts MOST_SPANS on name stamps) ≡ count + operations_for (span_count stamps)
  tags_counted count =
      let spans = spans_in stamps in
      counted on name (parts_of MOST_SPANS spans) count
      ∙ ap (λ n. count + n) (length_parts (parts_for MOST_SPANS (length spans)) MOST_SPANS spans ∙ ap operations_for (spans_counted stamps distinct))

  -- each stamp is a character's, or the last newline's
  abbrev pub AreKnownIn : List Operation → Type 0
  AreKnownIn log = (s : Stamp) → is_among stamps s ≡ true → (has_character log s ≡ true) ⊎ (s ≡ FINAL)

  may_tag : (parts most : ℕ) (log : List Operation) (spans : List Span) → is_name name ≡ true → 0 < most → most ≤ MOST_SPANS → IsCut parts most (length spans) → AreSpans spans
      → ((s : Stamp) → is_in_spans spans s ≡ true → (has_character log s ≡ true) ⊎ (s ≡ FINAL)) → MayBeMade site log (map (λ part. Tag on name part) (first_parts parts most spans))
  may_tag zero most log spans n p q c a f = tt
  may_tag (suc parts) most log spans n p q c a f =
      let front = take most spans in
      let op = next_operation site (Tag on name front) log in
      let more : IsCut parts most (length (drop most spans)) = subst (IsCut parts most) (sym (length-drop most spans)) (cut_more parts most (length spans) c) in (
        and_from (is_name name) _ n (part_rules parts most spans p q c a),
        known_all log (Tag on name front) (λ s k. f s (in_first most spans s (sym (spans_name front s) ∙ k))),
        may_tag parts most (with_operation op log) (drop most spans) n p q more (more_spans most spans a)
            (λ s k. elim (f s (in_more most spans s k)) [ inl h ↦ inl (still_character op log s h) | inr h ↦ inr h ]),
      )

  pub tags_may_be_made : (most : ℕ) (log : List Operation) → is_name name ≡ true → 0 < most → most ≤ MOST_SPANS → AreKnownIn log → MayBeMade site log (tag_drafts most on name stamps)
  tags_may_be_made most log n p q f =
      let spans = spans_in stamps in
      may_tag (parts_for most (length spans)) most log spans n p q (cut most (length spans) p) tag_spans (λ s k. f s (sym (spans_hold stamps s) ∙ k))
