-- What the Deletes of a removal do.
use Rattle.std.proofs.Common.{◌≡◌, ℕ, zero, suc, ◌+◌, ◌-◌, ◌*◌, ◌<◌, ◌≤◌, List, [], ◌∷◌, ◌++◌, Bool, true, false, cond, not, ◌||◌, length, take, drop, map, refl, sym, ◌∙◌, ap, subst, arith, add-zero, take-append-drop, length-drop}
use Rattle.std.proofs.lemmas.Bool.{or_from, or_left, or_right, cond-false, cond-true}
use Rattle.std.proofs.Math.Nat.{suc-mul}
use Rattle.rt_stamps.specs.declared.limits.TheConstants.{GREATEST_COUNT, MOST_SPANS}
use Rattle.rt_stamps.specs.declared.stamp.Span.{Span}
use Rattle.rt_stamps.specs.declared.stamp.Stamp.{Stamp}
use Rattle.rt_stamps.specs.declared.stamp.TheConstants.{FINAL}
use Rattle.rt_stamps.specs.Stamps.{is_same}
use Rattle.rt_stamps.proofs.Order.{same_refl}
use Rattle.rt_ops.specs.Operations.{Operation, Body, Delete}
use Rattle.rt_oplog.specs.Logs.{with_operation}
use Rattle.rt_store.specs.declared.cell.Cell.{Cell}
use Rattle.rt_store.specs.Cells.{AreDistinct, gone_in, stamps_of, text_of, visible_of}
use Rattle.rt_store.specs.Shown.{TaggedCell}
use Rattle.rt_store.specs.Spans.{gone_in_any, is_among, is_in_spans}
use Rattle.rt_store.proofs.Distinct.{differs, first_apart, others_distinct, split}
use Rattle.rt_store.proofs.Gone.{gone_more, gone_none}
use Rattle.rt_rga.specs.Cells.{cell_in, cells_of}
use Rattle.rt_rga.specs.Drafts.{all_changed, next_operation, operations_of, with_drafts}
use Rattle.rt_rga.specs.Histories.{IsHistory, final_character, greatest_last_count, has_character}
use Rattle.rt_rga.specs.Requests.{MayBeMade, last_count_after}
use Rattle.rt_rga.proofs.Continuing.{known_all}
use Rattle.rt_rga.proofs.Corollaries.{cells_distinct, cells_have}
use Rattle.rt_rga.proofs.Drafting.{made}
use Rattle.rt_rga.proofs.Final.{cells_last}
use Rattle.rt_rga.proofs.Requests.{all_count_on, drafts_for}
use Rattle.rt_rga.proofs.Writes.{spans_name}
use Rattle.rt_plans.specs.Deletions.{without_places}
use Rattle.rt_plans.specs.DraftLaws.{IsDocument, SparesLast}
use Rattle.rt_plans.specs.DocValue.{DocValue}
use Rattle.rt_plans.specs.NamedSpans.{first_parts, parts_for, parts_of, spans_in}
use Rattle.rt_plans.specs.RemovalDrafts.{removal_drafts}
use Rattle.rt_plans.specs.Removals.{gone_at, operations_for, span_count, stamps_at}
use Rattle.rt_plans.proofs.DistinctLaws.{distinct_at, stamps_within}
use Rattle.rt_plans.proofs.GoneLaws.{gone_from_spans}
use Rattle.rt_plans.proofs.NamedSpanLaws.{IsCut, by_site_sorted, cut, cut_more, length_parts, spans_counted, spans_forward, spans_hold}
use Rattle.rt_plans.proofs.PartLaws.{AreSpans, in_first, in_more, more_spans, part_rules, still_character}
use Rattle.rt_plans.proofs.PlaceLaws.{length_text}
use Rattle.rt_plans.proofs.SpanLaws.{clear_runs}
use Rattle.rt_plans.specs.NamedSpans.{by_site}

-- WHAT THEY DO

gone_append : {T : Type 0} (xs ys : List Span) (cells : List (Cell T)) → map (gone_in_any ys) (map (gone_in_any xs) cells) ≡ map (gone_in_any (xs ++ ys)) cells
gone_append [] ys cells = ap (map (gone_in_any ys)) (gone_none cells)
gone_append (x ∷ xs) ys cells = ap (map (gone_in_any ys)) (sym (gone_more x xs cells)) ∙ gone_append xs ys (map (gone_in x) cells) ∙ gone_more x (xs ++ ys) cells

abbrev deletes : List (List Span) → List Body
deletes parts = map (λ spans. Delete spans) parts

-- Deletes of all parts make gone what the whole does
deleted : (parts most site : ℕ) (log : List Operation) (cells : List TaggedCell) (spans : List Span) → length spans ≤ parts * most
    → all_changed (operations_of site (deletes (first_parts parts most spans)) log) cells ≡ map (gone_in_any spans) cells
deleted zero most site log cells [] h = sym (gone_none cells)
deleted zero most site log cells (x ∷ xs) h = absurd (omega arith)
deleted (suc parts) most site log cells spans h =
    let front = take most spans in
    let rest = drop most spans in
    let few : length rest ≤ parts * most = omega (arith, length-drop most spans, suc-mul parts most) in
    deleted parts most site (with_operation (next_operation site (Delete front) log) log) (map (gone_in_any front) cells) rest few
    ∙ gone_append front rest cells
    ∙ ap (λ l. map (gone_in_any l) cells) (take-append-drop most spans)

pub deletes_make_gone : (most site : ℕ) (log : List Operation) (removed : ℕ → Bool) → 0 < most → IsHistory log
    → all_changed (operations_of site (removal_drafts most removed (cells_of log)) log) (cells_of log) ≡ gone_at removed 0 (cells_of log)
deletes_make_gone most site log removed p h =
    let cells = cells_of log in
    let stamps = stamps_at removed 0 cells in
    let spans = spans_in stamps in
    deleted (parts_for most (length spans)) most site log cells spans (cut most (length spans) p).enough
    ∙ gone_from_spans removed cells spans (cells_distinct log h) (spans_hold stamps)

-- WHAT THEY COUNT

counted : (parts : List (List Span)) (count : ℕ) → last_count_after count (deletes parts) ≡ count + length parts
counted [] count = omega arith
counted (part ∷ parts) count = omega (arith, counted parts (count + 1))

pub deletes_counted : (log : List Operation) (removed : ℕ → Bool) → IsHistory log
    → last_count_after (greatest_last_count log) (removal_drafts MOST_SPANS removed (cells_of log)) ≡ greatest_last_count log + operations_for (span_count (stamps_at removed 0 (cells_of log)))
deletes_counted log removed h =
    let stamps = stamps_at removed 0 (cells_of log) in
    let spans = spans_in stamps in
    let distinct = distinct_at removed 0 (cells_of log) (cells_distinct log h) in
    counted (parts_of MOST_SPANS spans) (greatest_last_count log)
    ∙ ap (λ n. greatest_last_count log + n) (length_parts (parts_for MOST_SPANS (length spans)) MOST_SPANS spans ∙ ap operations_for (spans_counted stamps distinct))

pub deletes_are_counted : (site : ℕ) (log : List Operation) (removed : ℕ → Bool) → IsHistory log
    → greatest_last_count (with_drafts site (removal_drafts MOST_SPANS removed (cells_of log)) log) ≡ greatest_last_count log + operations_for (span_count (stamps_at removed 0 (cells_of log)))
deletes_are_counted site log removed h = all_count_on site (removal_drafts MOST_SPANS removed (cells_of log)) log ∙ deletes_counted log removed h

-- WHAT THEY NAME

last_among : {T : Type 0} (front : List (Cell T)) (last : Cell T) → is_among (stamps_of (front ++ last ∷ [])) last.stamp ≡ true
last_among [] last = or_left (is_same last.stamp last.stamp) _ (same_refl last.stamp)
last_among (c ∷ cs) last = or_right (is_same c.stamp last.stamp) _ (last_among cs last)

last_step : (x last : Stamp) (d : Bool) (ys : List Stamp) → is_same x last ≡ false → is_among ys last ≡ false → is_among (cond d (x ∷ ys) ys) last ≡ false
last_step x last true ys e h = or_from (is_same x last) _ e h
last_step x last false ys e h = h

last_off : {T : Type 0} (r : ℕ → Bool) (p : ℕ) (front : List (Cell T)) (last : Cell T) → AreDistinct (front ++ last ∷ []) → last.gone ≡ false
    → r (p + length (visible_of front)) ≡ false → is_among (stamps_at r p (front ++ last ∷ [])) last.stamp ≡ false
last_off r p [] last d g h =
    let off : r p ≡ false = ap r (sym (add-zero p)) ∙ h in
    ap (λ l. is_among l last.stamp) (cond-false last.gone [] (cond (r p) (last.stamp ∷ []) []) g ∙ cond-false (r p) (last.stamp ∷ []) [] off)
last_off {T} r p (c ∷ cs) last d g h =
    let behind = stamps_of (cs ++ last ∷ []) in
    let apart = first_apart c.stamp behind d in
    let rest = others_distinct c.stamp behind d in
    let here = stamps_at r p (cs ++ last ∷ []) in
    let next = stamps_at r (p + 1) (cs ++ last ∷ []) in
    split c.gone
    (λ e.
    let seen : visible_of (c ∷ cs) ≡ visible_of cs = ap (λ b. cond (not b) (c ∷ visible_of cs) (visible_of cs)) e in
    ap (λ l. is_among l last.stamp) (cond-true c.gone here (cond (r p) (c.stamp ∷ next) next) e)
    ∙ last_off r p cs last rest g (ap (λ (l : List (Cell T)). r (p + length l)) (sym seen) ∙ h))
    (λ e.
    let seen : visible_of (c ∷ cs) ≡ c ∷ visible_of cs = ap (λ b. cond (not b) (c ∷ visible_of cs) (visible_of cs)) e in
    let at : p + 1 + length (visible_of cs) ≡ p + length (c ∷ visible_of cs) = omega arith in
    ap (λ l. is_among l last.stamp) (cond-false c.gone here (cond (r p) (c.stamp ∷ next) next) e)
    ∙ last_step c.stamp last.stamp (r p) next (differs c.stamp last.stamp behind apart (last_among cs last))
    (last_off r (p + 1) cs last rest g (ap r at ∙ ap (λ (l : List (Cell T)). r (p + length l)) (sym seen) ∙ h)))

pub visible_append : {T : Type 0} (xs : List (Cell T)) (last : Cell T) → last.gone ≡ false → length (visible_of (xs ++ last ∷ [])) ≡ length (visible_of xs) + 1
visible_append [] last e = rw e refl
visible_append (x ∷ xs) last e = by x.gone (visible_append xs last e)
  where
    by : (b : Bool) → length (visible_of (xs ++ last ∷ [])) ≡ length (visible_of xs) + 1
        → length (cond (not b) (x ∷ visible_of (xs ++ last ∷ [])) (visible_of (xs ++ last ∷ []))) ≡ length (cond (not b) (x ∷ visible_of xs) (visible_of xs)) + 1
    by true h = h
    by false h = omega (arith, h)

pub last_spared : (log : List Operation) (removed : ℕ → Bool) → IsHistory log → SparesLast removed (text_of (cells_of log)) → is_among (stamps_at removed 0 (cells_of log)) FINAL ≡ false
last_spared log removed h spared =
    let w = cells_last log h in
    let front = w.0 in
    let l = w.1 in
    let last : TaggedCell = cell_in log final_character in
    let n : length (text_of (cells_of log)) - 1 ≡ 0 + length (visible_of front) =
    omega (arith, length_text (cells_of log), ap (λ (cells : List TaggedCell). length (visible_of cells)) l.is, visible_append front last l.gone) in
    ap (λ (cells : List TaggedCell). is_among (stamps_at removed 0 cells) FINAL) l.is
    ∙ last_off removed 0 front last (subst AreDistinct l.is (cells_distinct log h)) l.gone (ap removed (sym n) ∙ spared)

-- a stamp at places that spare the last newline is a character's
pub removed_character : (log : List Operation) (removed : ℕ → Bool) → IsHistory log → SparesLast removed (text_of (cells_of log))
    → (s : Stamp) → is_among (stamps_at removed 0 (cells_of log)) s ≡ true → has_character log s ≡ true
removed_character log removed h spared s k =
    let there : is_among (stamps_of (cells_of log)) s ≡ true =
    split (is_among (stamps_of (cells_of log)) s) (λ e. e) (λ e. absurd (let no = stamps_within removed 0 (cells_of log) s e in cc (no, k))) in
    let apart : is_same FINAL s ≡ false = differs FINAL s (stamps_at removed 0 (cells_of log)) (last_spared log removed h spared) k in
    let either : (has_character log s || is_same FINAL s) ≡ true = sym (cells_have log h s) ∙ there in
    or_false (has_character log s) (is_same FINAL s) apart either
  where
    or_false : (a b : Bool) → b ≡ false → (a || b) ≡ true → a ≡ true
    or_false true b e f = refl
    or_false false b e f = sym e ∙ f

may_delete : (parts most site : ℕ) (log : List Operation) (spans : List Span) → 0 < most → most ≤ MOST_SPANS → IsCut parts most (length spans) → AreSpans spans
    → ((s : Stamp) → is_in_spans spans s ≡ true → has_character log s ≡ true) → MayBeMade site log (deletes (first_parts parts most spans))
may_delete zero most site log spans p q c a f = tt
may_delete (suc parts) most site log spans p q c a f =
    let front = take most spans in
    let op = next_operation site (Delete front) log in
    let more : IsCut parts most (length (drop most spans)) = subst (IsCut parts most) (sym (length-drop most spans)) (cut_more parts most (length spans) c) in (
      part_rules parts most spans p q c a,
      known_all log (Delete front) (λ s n. f s (in_first most spans s (sym (spans_name front s) ∙ n))),
      may_delete parts most site (with_operation op log) (drop most spans) p q more (more_spans most spans a) (λ s n. still_character op log s (f s (in_more most spans s n))),
    )

pub spans_of_cells : (removed : ℕ → Bool) (cells : List TaggedCell) → AreDistinct cells → AreSpans (spans_in (stamps_at removed 0 cells))
spans_of_cells removed cells d =
    let stamps = stamps_at removed 0 cells in
    record { forward = spans_forward stamps; clear = clear_runs (by_site stamps) (by_site_sorted stamps (distinct_at removed 0 cells d)) }

pub deletes_may_be_made : (most site : ℕ) (log : List Operation) (removed : ℕ → Bool) → 0 < most → most ≤ MOST_SPANS → IsHistory log → SparesLast removed (text_of (cells_of log))
    → MayBeMade site log (removal_drafts most removed (cells_of log))
deletes_may_be_made most site log removed p q h spared =
    let stamps = stamps_at removed 0 (cells_of log) in
    let spans = spans_in stamps in
    may_delete (parts_for most (length spans)) most site log spans p q (cut most (length spans) p) (spans_of_cells removed (cells_of log) (cells_distinct log h))
    (λ s n. removed_character log removed h spared s (sym (spans_hold stamps s) ∙ n))

-- IN A DOCUMENT

pub removal_may : (site : ℕ) (log : List Operation) (doc_value : DocValue) (removed : ℕ → Bool) → IsHistory log → IsDocument site log doc_value → SparesLast removed (text_of doc_value.cells)
    → MayBeMade site log (removal_drafts MOST_SPANS removed doc_value.cells)
removal_may site log doc_value removed h doc spared =
    subst (λ (cells : List TaggedCell). MayBeMade site log (removal_drafts MOST_SPANS removed cells)) (sym doc.cells)
    (deletes_may_be_made MOST_SPANS site log removed (omega arith) (omega arith) h (subst (λ (cells : List TaggedCell). SparesLast removed (text_of cells)) doc.cells spared))

pub removal_counted : (site : ℕ) (log : List Operation) (doc_value : DocValue) (removed : ℕ → Bool) → IsHistory log → IsDocument site log doc_value
    → greatest_last_count (with_drafts site (removal_drafts MOST_SPANS removed doc_value.cells) log) ≡ (without_places doc_value removed).count
removal_counted site log doc_value removed h doc =
    ap (λ (cells : List TaggedCell). greatest_last_count (with_drafts site (removal_drafts MOST_SPANS removed cells) log)) doc.cells
    ∙ deletes_are_counted site log removed h
    ∙ sym (λ i. doc.count i + operations_for (span_count (stamps_at removed 0 (doc.cells i))))

-- a larger history, and the document with its cells
pub record IsLarger (site : ℕ) (log : List Operation) (doc_value : DocValue) : Type 0 where
  pub history : IsHistory log
  pub document : IsDocument site log doc_value

pub removal_made : (site : ℕ) (log : List Operation) (doc_value : DocValue) (removed : ℕ → Bool) → 0 < site → IsHistory log → IsDocument site log doc_value → SparesLast removed (text_of doc_value.cells)
    → (without_places doc_value removed).count ≤ GREATEST_COUNT → IsLarger site (with_drafts site (removal_drafts MOST_SPANS removed doc_value.cells) log) (without_places doc_value removed)
removal_made site log doc_value removed p h doc spared l =
    let drafts = removal_drafts MOST_SPANS removed doc_value.cells in
    let counts = removal_counted site log doc_value removed h doc in
    let fits : last_count_after (greatest_last_count log) drafts ≤ GREATEST_COUNT = omega (arith, all_count_on site drafts log, counts, l) in
    let all = made site drafts log p h (drafts_for site log drafts (removal_may site log doc_value removed h doc spared) fits) in
    let gone : all_changed (operations_of site drafts log) (cells_of log) ≡ gone_at removed 0 (cells_of log) =
    ap (λ (cells : List TaggedCell). all_changed (operations_of site (removal_drafts MOST_SPANS removed cells) log) (cells_of log)) doc.cells ∙ deletes_make_gone MOST_SPANS site log removed (omega arith) h in
    record {
      history = all.history;
      document = record { cells = ap (gone_at removed 0) doc.cells ∙ sym (all.cells ∙ gone); site = doc.site; count = sym counts };
    }
