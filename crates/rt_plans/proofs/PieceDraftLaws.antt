-- What the operations of several pieces do.
use Rattle.std.proofs.Common.{◌≡◌, ℕ, zero, suc, ◌+◌, ◌<◌, ◌≤◌, List, [], ◌∷◌, ◌++◌, Bool, true, false, ◌||◌, length, take, drop, refl, sym, ◌∙◌, ap, subst, arith, append_assoc, take-append-drop, length-drop, Some, None}
use Rattle.std.specs.Prelude.{Option, option_map, unwrap_or}
use Rattle.std.specs.Str.{chars}
use Rattle.std.proofs.lemmas.Bool.{or_from, or_left, or_right}
use Rattle.std.proofs.lemmas.Bool.Decides.{nat_tests}
use Rattle.std.proofs.lemmas.List.{append-nil, length-take}
use Rattle.rt_stamps.specs.declared.limits.TheConstants.{GREATEST_COUNT, MOST_CHARACTERS, MOST_TAGS}
use Rattle.rt_stamps.specs.declared.stamp.Span.{Span}
use Rattle.rt_stamps.specs.declared.stamp.Stamp.{Stamp}
use Rattle.rt_stamps.specs.declared.stamp.TheConstants.{ROOT}
use Rattle.rt_stamps.specs.Stamps.{is_same}
use Rattle.rt_stamps.specs.Words.{Word}
use Rattle.rt_stamps.proofs.Order.{same_refl, same_sym}
use Rattle.rt_ops.specs.Operations.{Operation, Body, Insert}
use Rattle.rt_oplog.specs.Logs.{with_operation}
use Rattle.rt_tags.specs.States.{Write}
use Rattle.rt_store.specs.Cells.{AreDistinct, after_element, cells_from, is_in_span, stamps_of}
use Rattle.rt_store.specs.Shown.{TaggedCell}
use Rattle.rt_store.specs.Spans.{is_among}
use Rattle.rt_store.proofs.Distinct.{differs, first_apart, others_distinct, split}
use Rattle.rt_rga.specs.Cells.{cells_of}
use Rattle.rt_rga.specs.Drafts.{next_operation, with_drafts}
use Rattle.rt_rga.specs.Histories.{IsHistory, greatest_last_count, has_character}
use Rattle.rt_rga.specs.Requests.{MayBeMade, last_count_after}
use Rattle.rt_rga.proofs.Appending.{drafts_append, may_append}
use Rattle.rt_rga.proofs.Corollaries.{cells_distinct, root_absent}
use Rattle.rt_rga.proofs.Drafting.{count_after}
use Rattle.rt_rga.proofs.Requests.{all_count_on}
use Rattle.rt_plans.specs.DraftLaws.{HaveTexts, IsElement, IsInserted, IsInsertion, IsText}
use Rattle.rt_plans.specs.DocValue.{put_after}
use Rattle.rt_plans.specs.InsertionDrafts.{last_element, insertion_drafts, inserts_of, pieces_drafts, tags_put_on, text_drafts}
use Rattle.rt_plans.specs.Insertions.{Insertion, Piece, cells_of_inserts, counts_for, further_tags, insertion_of, inserts_for, new_state, on_left, shared_names, tagged_cells, tags_between, with_listed, with_pieces, with_unlisted}
use Rattle.rt_plans.specs.NamedSpans.{first_parts}
use Rattle.rt_plans.proofs.DraftSteps.{stays_character}
use Rattle.rt_plans.proofs.InsertDraftLaws.{put_behind, tags_counted}
use Rattle.rt_plans.proofs.InsertRules.{new_characters, text_is_counted, text_is_made, text_may}
use Rattle.rt_plans.proofs.NamedSpanLaws.{IsCut, cut, cut_more, cut_some}

-- BEHIND THE CELLS SO FAR

last_some : (o : Option TaggedCell) (init : List TaggedCell) (x : TaggedCell) → on_left o (init ++ x ∷ []) ≡ Some x
last_some o [] x = refl
last_some o (y ∷ ys) x = last_some (Some y) ys x

last_apart : (c : TaggedCell) (cs : List TaggedCell) → (init : List TaggedCell) × (x : TaggedCell) × (c ∷ cs ≡ init ++ x ∷ [])
last_apart c [] = ([], c, refl)
last_apart c (d ∷ ds) = let w = last_apart d ds in (c ∷ w.0, w.1, ap (λ l. c ∷ l) w.2)

behind_last : (after : Stamp) (cells init : List TaggedCell) (x : TaggedCell) → cells ≡ init ++ x ∷ [] → last_element after cells ≡ x.stamp
behind_last after cells init x e =
    ap (λ l. unwrap_or (option_map (λ (cell : TaggedCell). cell.stamp) (on_left None l)) after) e
    ∙ ap (λ o. unwrap_or (option_map (λ (cell : TaggedCell). cell.stamp) o) after) (last_some None init x)

in_middle : (front : List TaggedCell) (x : TaggedCell) (rest : List TaggedCell) → is_among (stamps_of (front ++ x ∷ rest)) x.stamp ≡ true
in_middle [] x rest = or_left (is_same x.stamp x.stamp) _ (same_refl x.stamp)
in_middle (y ∷ ys) x rest = or_right (is_same y.stamp x.stamp) _ (in_middle ys x rest)

pub apart_front : (front : List TaggedCell) (x : TaggedCell) (rest : List TaggedCell) → AreDistinct (front ++ x ∷ rest) → is_among (stamps_of front) x.stamp ≡ false
apart_front [] x rest d = refl
apart_front (y ∷ ys) x rest d =
    let others = stamps_of (ys ++ x ∷ rest) in
    or_from (is_same y.stamp x.stamp) _ (differs y.stamp x.stamp others (first_apart y.stamp others d) (in_middle ys x rest)) (apart_front ys x rest (others_distinct y.stamp others d))

put_none : (cells : List TaggedCell) (after : Stamp) → put_after cells after [] ≡ cells
put_none cells after =
    let at = after_element cells after in
    ap (λ l. l ++ drop at cells) (append-nil (take at cells)) ∙ take-append-drop at cells

-- cells behind the last of those that were put in before
put_more : (cells : List TaggedCell) (after : Stamp) (first more : List TaggedCell) → AreDistinct (put_after cells after first) → is_among (stamps_of (put_after cells after first)) ROOT ≡ false
    → put_after (put_after cells after first) (last_element after first) more ≡ put_after cells after (first ++ more)
put_more cells after [] more d r = ap (λ l. put_after l after more) (put_none cells after)
put_more cells after (c ∷ cs) more d r =
    let at = after_element cells after in
    let xs = take at cells in
    let ys = drop at cells in
    let new = c ∷ cs in
    let w = last_apart c cs in
    let init = w.0 in
    let x = w.1 in
    let joined : (xs ++ init) ++ x ∷ [] ≡ xs ++ new = append_assoc xs init (x ∷ []) ∙ ap (λ l. xs ++ l) (sym w.2) in
    let whole : put_after cells after new ≡ (xs ++ init) ++ x ∷ ys = ap (λ l. l ++ ys) (sym joined) ∙ append_assoc (xs ++ init) (x ∷ []) ys in
    let none = apart_front (xs ++ init) x ys (subst AreDistinct whole d) in
    let root : is_same x.stamp ROOT ≡ false =
    same_sym x.stamp ROOT ∙ differs ROOT x.stamp (stamps_of ((xs ++ init) ++ x ∷ ys)) (ap (λ l. is_among (stamps_of l) ROOT) (sym whole) ∙ r) (in_middle (xs ++ init) x ys) in
    let last = behind_last after new init x w.2 in
    let there : put_after (put_after cells after new) (last_element after new) more ≡ put_after ((xs ++ init) ++ x ∷ ys) x.stamp more = λ i. put_after (whole i) (last i) more in
    let put : put_after ((xs ++ init) ++ x ∷ ys) x.stamp more ≡ ((xs ++ init) ++ x ∷ []) ++ more ++ ys = put_behind (xs ++ init) x ys more root none in
    let back : ((xs ++ init) ++ x ∷ []) ++ more ++ ys ≡ put_after cells after (new ++ more) = ap (λ l. l ++ more ++ ys) joined ∙ ap (λ l. l ++ ys) (append_assoc xs new more) in
    there ∙ put ∙ back

-- WHICH CHARACTERS THERE ARE

among_parts : (xs ys : List TaggedCell) (s : Stamp) → is_among (stamps_of (xs ++ ys)) s ≡ (is_among (stamps_of xs) s || is_among (stamps_of ys) s)
among_parts [] ys s = refl
among_parts (x ∷ xs) ys s = ap (λ b. is_same x.stamp s || b) (among_parts xs ys s) ∙ assoc (is_same x.stamp s) (is_among (stamps_of xs) s) (is_among (stamps_of ys) s)
  where
    assoc : (a b c : Bool) → (a || (b || c)) ≡ ((a || b) || c)
    assoc true b c = refl
    assoc false b c = refl

in_span_of : (site first last n : ℕ) (s : Stamp) → first ≤ n → n ≤ last → is_same (record { count = n; site = site }) s ≡ true → is_in_span (record { site = site; first = first; last = last }) s ≡ true
in_span_of site first last n s h k e = grind (arith, nat_tests)

from_in : (site first last n : ℕ) (state : List Write) (text : List ℕ) (s : Stamp) → first ≤ n → n + length text ≤ last + 1 → is_among (stamps_of (cells_from n site state text)) s ≡ true
    → is_in_span (record { site = site; first = first; last = last }) s ≡ true
from_in site first last n state [] s h k e = absurd (cc e)
from_in site first last n state (c ∷ cs) s h k e = split (is_same (record { count = n; site = site }) s)
    (λ f. in_span_of site first last n s h (omega arith) f)
    (λ f. from_in site first last (n + 1) state cs s (omega arith) (omega arith) (ap (λ b. b || is_among (stamps_of (cells_from (n + 1) site state cs)) s) (sym f) ∙ e))

-- each new cell is a character then
cells_known : (inserts site count : ℕ) (log : List Operation) (after : Stamp) (names : List Word) (text : List ℕ) (s : Stamp) → greatest_last_count log ≡ count → IsCut inserts MOST_CHARACTERS (length text)
    → is_among (stamps_of (cells_of_inserts inserts site count names text)) s ≡ true
    → has_character (with_drafts site (inserts_of site count after names (first_parts inserts MOST_CHARACTERS text)) log) s ≡ true
cells_known zero site count log after names text s g c e = absurd (cc e)
cells_known (suc inserts) site count log after names text s g c e =
    let part = take MOST_CHARACTERS text in
    let others = drop MOST_CHARACTERS text in
    let further = further_tags names in
    let last = count + length part in
    let next : Stamp = record { count = last; site = site } in
    let span : Span = record { site = site; first = count + 1; last = last } in
    let op = next_operation site (Insert after (take MOST_TAGS names) part) log in
    let with_insert = with_operation op log in
    let tags = tags_put_on span further in
    let after_tags = with_drafts site tags with_insert in
    let drafts = inserts_of site (last + length further) next names (first_parts inserts MOST_CHARACTERS others) in
    let some = cut_some inserts MOST_CHARACTERS (length text) c in
    let l = length-take MOST_CHARACTERS text in
    let more : IsCut inserts MOST_CHARACTERS (length others) = subst (IsCut inserts MOST_CHARACTERS) (sym (length-drop MOST_CHARACTERS text)) (cut_more inserts MOST_CHARACTERS (length text) c) in
    let one : greatest_last_count with_insert ≡ last = count_after op log (omega arith) ∙ omega (arith, g, l, some) in
    let two : greatest_last_count after_tags ≡ last + length further = all_count_on site tags with_insert ∙ ap (λ k. last_count_after k tags) one ∙ tags_counted span further last in
    let new = cells_from (count + 1) site (new_state site last names) part in
    let rest = cells_of_inserts inserts site (last + length further) names others in
    ap (λ set. has_character set s) (drafts_append site tags drafts with_insert)
    ∙ split (is_among (stamps_of new) s)
    (λ f. stays_character site drafts after_tags s
    (stays_character site tags with_insert s
    (new_characters site count log after (take MOST_TAGS names) part s g (from_in site (count + 1) last (count + 1) (new_state site last names) part s (omega arith) (omega arith) f))))
    (λ f. cells_known inserts site (last + length further) after_tags next names others s two more (ap (λ b. b || is_among (stamps_of rest) s) (sym f) ∙ sym (among_parts new rest s) ∙ e))

-- SO FAR

-- the set has the characters of the new cells and the element, and their last count
record HasSoFar (after : Stamp) (so_far : Insertion) (log : List Operation) : Type 0 where
  pub count : greatest_last_count log ≡ so_far.count
  pub known : (s : Stamp) → is_among (stamps_of so_far.cells) s ≡ true → has_character log s ≡ true
  pub element : IsElement log after

behind_known : (after : Stamp) (so_far : Insertion) (log : List Operation) → HasSoFar after so_far log → IsElement log (last_element after so_far.cells)
behind_known after so_far log h = by so_far.cells h.known
  where
    by : (cells : List TaggedCell) → ((s : Stamp) → is_among (stamps_of cells) s ≡ true → has_character log s ≡ true) → IsElement log (last_element after cells)
    by [] f = h.element
    by (c ∷ cs) f =
        let w = last_apart c cs in
        let there : is_among (stamps_of (c ∷ cs)) w.1.stamp ≡ true = ap (λ l. is_among (stamps_of l) w.1.stamp) w.2 ∙ in_middle w.0 w.1 [] in
        subst (IsElement log) (sym (behind_last after (c ∷ cs) w.0 w.1 w.2)) (or_left (has_character log w.1.stamp) _ (f w.1.stamp there))

-- a text more
pub record IsMore (site : ℕ) (so_far next : Insertion) (names : List Word) (text : List ℕ) : Type 0 where
  pub cells : next.cells ≡ so_far.cells ++ tagged_cells site so_far.count names text
  pub count : next.count ≡ so_far.count + counts_for names text

abbrev next_drafts : ℕ → Stamp → Insertion → List Word → List ℕ → List Body
next_drafts site after so_far names text = text_drafts MOST_CHARACTERS site so_far.count (last_element after so_far.cells) names text

-- a text takes as many counts as it has
next_counted : (site : ℕ) (after : Stamp) (so_far next : Insertion) (log : List Operation) (names : List Word) (text : List ℕ) → greatest_last_count log ≡ so_far.count → IsMore site so_far next names text
    → greatest_last_count (with_drafts site (next_drafts site after so_far names text) log) ≡ next.count
next_counted site after so_far next log names text g m =
    subst (λ n. greatest_last_count (with_drafts site (text_drafts MOST_CHARACTERS site n (last_element after so_far.cells) names text) log) ≡ n + counts_for names text) g
    (text_is_counted site log (last_element after so_far.cells) names text)
    ∙ sym m.count

has_more : (site : ℕ) (after : Stamp) (so_far next : Insertion) (log : List Operation) (names : List Word) (text : List ℕ) → HasSoFar after so_far log → IsMore site so_far next names text
    → HasSoFar after next (with_drafts site (next_drafts site after so_far names text) log)
has_more site after so_far next log names text h m =
    let drafts = next_drafts site after so_far names text in
    let new = tagged_cells site so_far.count names text in
    record {
      count = next_counted site after so_far next log names text h.count m;
      known = λ s e. split (is_among (stamps_of so_far.cells) s)
          (λ f. stays_character site drafts log s (h.known s f))
          (λ f. cells_known (inserts_for (length text)) site so_far.count log (last_element after so_far.cells) names text s h.count (cut MOST_CHARACTERS (length text) (omega arith))
          (ap (λ b. b || is_among (stamps_of new) s) (sym f) ∙ sym (among_parts so_far.cells new s) ∙ ap (λ l. is_among (stamps_of l) s) (sym m.cells) ∙ e));
      element = split (has_character log after)
          (λ f. or_left (has_character (with_drafts site drafts log) after) _ (stays_character site drafts log after f))
          (λ f. or_right (has_character (with_drafts site drafts log) after) _ (ap (λ b. b || is_same after ROOT) (sym f) ∙ h.element));
    }

next_may : (site : ℕ) (after : Stamp) (so_far : Insertion) (log : List Operation) (names : List Word) (text : List ℕ) → HasSoFar after so_far log → IsText names text
    → MayBeMade site log (next_drafts site after so_far names text)
next_may site after so_far log names text h t =
    subst (λ n. MayBeMade site log (text_drafts MOST_CHARACTERS site n (last_element after so_far.cells) names text)) h.count
    (text_may site log (last_element after so_far.cells) names text t.tags t.characters (behind_known after so_far log h))

-- the larger history has the cells so far
record IsSoFar (first : List Operation) (after : Stamp) (so_far : Insertion) (log : List Operation) : Type 0 where
  pub has : HasSoFar after so_far log
  pub history : IsHistory log
  pub cells : cells_of log ≡ put_after (cells_of first) after so_far.cells

next_made : (site : ℕ) (first : List Operation) (after : Stamp) (so_far next : Insertion) (log : List Operation) (names : List Word) (text : List ℕ) → 0 < site → IsSoFar first after so_far log
    → IsText names text → IsMore site so_far next names text → next.count ≤ GREATEST_COUNT → IsSoFar first after next (with_drafts site (next_drafts site after so_far names text) log)
next_made site first after so_far next log names text p h t m l =
    let has = h.has in
    let element = last_element after so_far.cells in
    let count = greatest_last_count log in
    let new = tagged_cells site so_far.count names text in
    let fits : count + counts_for names text ≤ GREATEST_COUNT = omega (arith, has.count, m.count, l) in
    let one = text_is_made site log element names text p h.history t.tags t.characters (behind_known after so_far log has) fits in
    let larger = λ (n : ℕ). with_drafts site (text_drafts MOST_CHARACTERS site n element names text) log in
    let put : put_after (cells_of log) element new ≡ put_after (cells_of first) after next.cells =
    ap (λ cells. put_after cells element new) h.cells
    ∙ put_more (cells_of first) after so_far.cells new (subst AreDistinct h.cells (cells_distinct log h.history)) (ap (λ cells. is_among (stamps_of cells) ROOT) (sym h.cells) ∙ root_absent log h.history)
    ∙ ap (put_after (cells_of first) after) (sym m.cells) in
    record {
      has = has_more site after so_far next log names text has m;
      history = subst (λ n. IsHistory (larger n)) has.count one.history;
      cells = subst (λ n. cells_of (larger n) ≡ put_after (cells_of log) element (tagged_cells site n names text)) has.count one.cells ∙ put;
    }

-- PIECES

pub listed_more : (site : ℕ) (so_far : Insertion) (tags : List Word) (text : List ℕ) → IsMore site so_far (with_listed site tags text so_far) (shared_names tags) text
listed_more site so_far tags [] = record { cells = sym (append-nil so_far.cells); count = omega arith }
listed_more site so_far tags (c ∷ text) = record { cells = refl; count = refl }

pub unlisted_more : (site : ℕ) (left right : Option TaggedCell) (so_far : Insertion) (text : List ℕ) → IsMore site so_far (with_unlisted site left right text so_far) (tags_between left right) text
unlisted_more site left right so_far [] = record { cells = sym (append-nil so_far.cells); count = omega arith }
unlisted_more site left right so_far (c ∷ text) = record { cells = refl; count = refl }

pieces_may : (pieces : List Piece) (site : ℕ) (after : Stamp) (so_far : Insertion) (log : List Operation) → HasSoFar after so_far log → HaveTexts pieces
    → MayBeMade site log (pieces_drafts MOST_CHARACTERS site after pieces so_far)
    × HasSoFar after (with_pieces site pieces so_far) (with_drafts site (pieces_drafts MOST_CHARACTERS site after pieces so_far) log)
pieces_may [] site after so_far log h t = (tt, h)
pieces_may (piece ∷ pieces) site after so_far log h t =
    let names = shared_names piece.tags in
    let text = chars piece.text in
    let next = with_listed site piece.tags text so_far in
    let drafts = next_drafts site after so_far names text in
    let more = pieces_drafts MOST_CHARACTERS site after pieces next in
    let rest = pieces_may pieces site after next (with_drafts site drafts log) (has_more site after so_far next log names text h (listed_more site so_far piece.tags text)) t.1 in (
      may_append site drafts more log (next_may site after so_far log names text h t.0) rest.0,
      subst (HasSoFar after (with_pieces site pieces next)) (sym (drafts_append site drafts more log)) rest.1,
    )

pieces_counted : (pieces : List Piece) (site : ℕ) (after : Stamp) (so_far : Insertion) (log : List Operation) → greatest_last_count log ≡ so_far.count
    → greatest_last_count (with_drafts site (pieces_drafts MOST_CHARACTERS site after pieces so_far) log) ≡ (with_pieces site pieces so_far).count
pieces_counted [] site after so_far log g = g
pieces_counted (piece ∷ pieces) site after so_far log g =
    let names = shared_names piece.tags in
    let text = chars piece.text in
    let next = with_listed site piece.tags text so_far in
    let drafts = next_drafts site after so_far names text in
    ap greatest_last_count (drafts_append site drafts (pieces_drafts MOST_CHARACTERS site after pieces next) log)
    ∙ pieces_counted pieces site after next (with_drafts site drafts log) (next_counted site after so_far next log names text g (listed_more site so_far piece.tags text))

pieces_grow : (pieces : List Piece) (site : ℕ) (so_far : Insertion) → so_far.count ≤ (with_pieces site pieces so_far).count
pieces_grow [] site so_far = omega arith
pieces_grow (piece ∷ pieces) site so_far =
    let m = (listed_more site so_far piece.tags (chars piece.text)).count in
    omega (arith, m, pieces_grow pieces site (with_listed site piece.tags (chars piece.text) so_far))

pieces_made : (pieces : List Piece) (site : ℕ) (first : List Operation) (after : Stamp) (so_far : Insertion) (log : List Operation) → 0 < site → IsSoFar first after so_far log → HaveTexts pieces
    → (with_pieces site pieces so_far).count ≤ GREATEST_COUNT
    → IsSoFar first after (with_pieces site pieces so_far) (with_drafts site (pieces_drafts MOST_CHARACTERS site after pieces so_far) log)
pieces_made [] site first after so_far log p h t l = h
pieces_made (piece ∷ pieces) site first after so_far log p h t l =
    let names = shared_names piece.tags in
    let text = chars piece.text in
    let next = with_listed site piece.tags text so_far in
    let drafts = next_drafts site after so_far names text in
    let more = pieces_drafts MOST_CHARACTERS site after pieces next in
    let few : next.count ≤ GREATEST_COUNT = omega (arith, l, pieces_grow pieces site next) in
    let one = next_made site first after so_far next log names text p h t.0 (listed_more site so_far piece.tags text) few in
    subst (IsSoFar first after (with_pieces site pieces next)) (sym (drafts_append site drafts more log))
    (pieces_made pieces site first after next (with_drafts site drafts log) p one t.1 l)

-- THE WHOLE INSERTION

has_start : (site : ℕ) (log : List Operation) (after : Stamp) (left right : Option TaggedCell) (pieces : List Piece) (rest : Word) (start : Insertion)
    → IsInsertion site log after left right pieces rest start → HasSoFar after start log
has_start site log after left right pieces rest start h = record {
  count = sym h.count;
  known = λ s e. let bad : false ≡ true = ap (λ l. is_among (stamps_of l) s) (sym h.none) ∙ e in absurd (cc bad);
  element = h.element;
}

pub insertion_may : (site : ℕ) (log : List Operation) (after : Stamp) (left right : Option TaggedCell) (pieces : List Piece) (rest : Word) (start : Insertion)
    → IsInsertion site log after left right pieces rest start → MayBeMade site log (insertion_drafts MOST_CHARACTERS site after left right pieces rest start)
insertion_may site log after left right pieces rest start h =
    let listed = with_pieces site pieces start in
    let drafts = pieces_drafts MOST_CHARACTERS site after pieces start in
    let names = tags_between (on_left left listed.cells) right in
    let all = pieces_may pieces site after start log (has_start site log after left right pieces rest start h) h.listed in
    may_append site drafts (next_drafts site after listed names (chars rest)) log all.0 (next_may site after listed (with_drafts site drafts log) names (chars rest) all.1 h.unlisted)

pub insertion_made : (site : ℕ) (log : List Operation) (after : Stamp) (left right : Option TaggedCell) (pieces : List Piece) (rest : Word) (start : Insertion) → 0 < site → IsHistory log
    → IsInsertion site log after left right pieces rest start → (insertion_of site left right pieces rest start).count ≤ GREATEST_COUNT
    → IsInserted log after (insertion_of site left right pieces rest start) (with_drafts site (insertion_drafts MOST_CHARACTERS site after left right pieces rest start) log)
insertion_made site log after left right pieces rest start p history h l =
    let listed = with_pieces site pieces start in
    let drafts = pieces_drafts MOST_CHARACTERS site after pieces start in
    let neighbour = on_left left listed.cells in
    let names = tags_between neighbour right in
    let text = chars rest in
    let whole = insertion_of site left right pieces rest start in
    let m = unlisted_more site neighbour right listed text in
    let n = m.count in
    let begin : IsSoFar log after start log = record {
      has = has_start site log after left right pieces rest start h;
      history = history;
      cells = sym (put_none (cells_of log) after) ∙ ap (put_after (cells_of log) after) (sym h.none);
    } in
    let few : listed.count ≤ GREATEST_COUNT = omega (arith, l, n) in
    let first = pieces_made pieces site log after start log p begin h.listed few in
    let done = next_made site log after listed whole (with_drafts site drafts log) names text p first h.unlisted m l in
    subst (IsInserted log after whole) (sym (drafts_append site drafts (next_drafts site after listed names text) log)) (record { cells = done.cells; count = done.has.count })

-- it takes as many counts as its definition says
pub insertion_counted : (site : ℕ) (log : List Operation) (after : Stamp) (left right : Option TaggedCell) (pieces : List Piece) (rest : Word) (start : Insertion) → start.count ≡ greatest_last_count log
    → greatest_last_count (with_drafts site (insertion_drafts MOST_CHARACTERS site after left right pieces rest start) log) ≡ (insertion_of site left right pieces rest start).count
insertion_counted site log after left right pieces rest start e =
    let listed = with_pieces site pieces start in
    let drafts = pieces_drafts MOST_CHARACTERS site after pieces start in
    let neighbour = on_left left listed.cells in
    let names = tags_between neighbour right in
    let text = chars rest in
    ap greatest_last_count (drafts_append site drafts (next_drafts site after listed names text) log)
    ∙ next_counted site after listed (insertion_of site left right pieces rest start) (with_drafts site drafts log) names text (pieces_counted pieces site after start log (sym e))
    (unlisted_more site neighbour right listed text)

pub insertion_grows : (site : ℕ) (left right : Option TaggedCell) (pieces : List Piece) (rest : Word) (start : Insertion) → start.count ≤ (insertion_of site left right pieces rest start).count
insertion_grows site left right pieces rest start =
    let listed = with_pieces site pieces start in
    let m = (unlisted_more site (on_left left listed.cells) right listed (chars rest)).count in
    omega (arith, m, pieces_grow pieces site start)
