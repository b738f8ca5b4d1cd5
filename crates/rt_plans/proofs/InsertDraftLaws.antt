-- What the Inserts of a text do, and the Tags behind them.
use Rattle.std.proofs.Common.{◌≡◌, ℕ, zero, suc, ◌+◌, ◌-◌, ◌*◌, ◌<◌, ◌≤◌, List, [], ◌∷◌, ◌++◌, Bool, true, false, cond, ◌||◌, ◌==◌, length, take, drop, map, refl, sym, ◌∙◌, ap, subst, arith, append_assoc, take-append-drop, length-drop, length-append, Some, None, nat_lt}
use Rattle.std.specs.Prelude.{unwrap_or}
use Rattle.std.specs.List.{position_or_len}
use Rattle.std.proofs.lemmas.Bool.{or_from, cond-false, cond-true, lt-ltb}
use Rattle.std.proofs.lemmas.Bool.Decides.{nat_tests}
use Rattle.std.proofs.lemmas.List.{append-nil, length-take}
use Rattle.std.proofs.lemmas.List.Elements.{All-drop, All-take, All-head, All-tail}
use Rattle.std.proofs.Math.Nat.{suc-mul}
use Rattle.std.proofs.Math.Seq.{drop-append_seam, take-append_seam}
use Rattle.rt_stamps.specs.declared.limits.TheConstants.{MOST_CHARACTERS, MOST_TAGS}
use Rattle.rt_stamps.specs.declared.stamp.Span.{Span}
use Rattle.rt_stamps.specs.declared.stamp.Stamp.{Stamp}
use Rattle.rt_stamps.specs.declared.stamp.TheConstants.{ROOT}
use Rattle.rt_stamps.specs.Stamps.{is_same}
use Rattle.rt_stamps.specs.Words.{Word}
use Rattle.rt_stamps.proofs.Order.{same_refl}
use Rattle.rt_ops.specs.Operations.{Operation, Insert, Tag}
use Rattle.rt_oplog.specs.Logs.{with_operation}
use Rattle.rt_tags.specs.States.{Write, written}
use Rattle.rt_tags.specs.Writers.{listed_by, state_after}
use Rattle.rt_store.specs.declared.cell.Cell.{Cell}
use Rattle.rt_store.specs.Cells.{after_element, cells_from, is_in_span, skip_from, stamps_of}
use Rattle.rt_store.specs.Shown.{TaggedCell}
use Rattle.rt_store.specs.Spans.{is_among, is_in_spans}
use Rattle.rt_store.specs.Written.{AreBelowNext, IsBelowNext}
use Rattle.rt_store.proofs.Distinct.{new_apart, split}
use Rattle.rt_store.proofs.Shown.{map_append}
use Rattle.rt_rga.specs.Changes.{written_in_any}
use Rattle.rt_rga.specs.Drafts.{all_changed, next_operation, operations_of, with_drafts}
use Rattle.rt_rga.specs.Histories.{greatest_last_count}
use Rattle.rt_rga.specs.Requests.{last_count_after}
use Rattle.rt_rga.proofs.Appending.{changed_append, count_append}
use Rattle.rt_rga.proofs.Drafting.{count_after}
use Rattle.rt_rga.proofs.Requests.{all_count_on}
use Rattle.rt_rga.proofs.Writes.{state_append}
use Rattle.rt_plans.specs.DocValue.{put_after}
use Rattle.rt_plans.specs.InsertionDrafts.{inserts_of, tags_put_on, text_drafts}
use Rattle.rt_plans.specs.Insertions.{cells_of_inserts, counts_for, further_tags, inserts_for, new_state, put_on, tagged_cells}
use Rattle.rt_plans.specs.NamedSpans.{first_parts}
use Rattle.rt_plans.proofs.CellLaws.{known_from, known_later, known_put, skip_from_newest}
use Rattle.rt_plans.proofs.NamedSpanLaws.{IsCut, cut, cut_more, cut_some}

-- WHERE THEY STAND

-- the cell with a stamp, where none before it has that
found_at : {T : Type 0} (front : List (Cell T)) (x : Cell T) (rest : List (Cell T)) → is_among (stamps_of front) x.stamp ≡ false
    → position_or_len (λ y. is_same y.stamp x.stamp) (front ++ x ∷ rest) ≡ length front
found_at [] x rest h = rw (same_refl x.stamp) refl
found_at (y ∷ ys) x rest h =
    let p = both (is_same y.stamp x.stamp) (is_among (stamps_of ys) x.stamp) h in
    let e = p.0 in
    let ih = found_at ys x rest p.1 in
    rw e (omega (arith, ih))
  where
    both : (a b : Bool) → a || b ≡ false → (a ≡ false) × (b ≡ false)
    both true b h = absurd (cc h)
    both false b h = (refl, h)

found_is : (n m : ℕ) → n < m → unwrap_or (cond (nat_lt n m) (Some n) None) 0 ≡ n
found_is n m h = rw (lt-ltb n m h) refl

after_found : {T : Type 0} (front : List (Cell T)) (x : Cell T) (rest : List (Cell T)) → is_same x.stamp ROOT ≡ false → is_among (stamps_of front) x.stamp ≡ false
    → after_element (front ++ x ∷ rest) x.stamp ≡ length (front ++ x ∷ [])
after_found front x rest root h =
    let n = position_or_len (λ y. is_same y.stamp x.stamp) (front ++ x ∷ rest) in
    let m = length (front ++ x ∷ rest) in
    let at : n ≡ length front = found_at front x rest h in
    let within : n < m = omega (arith, at, length-append front (x ∷ rest)) in
    let found = found_is n m within in
    cond-false (is_same x.stamp ROOT) 0 (unwrap_or (cond (nat_lt n m) (Some n) None) 0 + 1) root ∙ omega (arith, found, at, length-append front (x ∷ []))

-- cells put behind the last of others that were put in before
pub put_behind : {T : Type 0} (front : List (Cell T)) (x : Cell T) (rest new : List (Cell T)) → is_same x.stamp ROOT ≡ false → is_among (stamps_of front) x.stamp ≡ false
    → put_after (front ++ x ∷ rest) x.stamp new ≡ (front ++ x ∷ []) ++ new ++ rest
put_behind {T} front x rest new root h =
    let at = after_found front x rest root h in
    let whole : front ++ x ∷ rest ≡ (front ++ x ∷ []) ++ rest = sym (append_assoc front (x ∷ []) rest) in
    let left : take (after_element (front ++ x ∷ rest) x.stamp) (front ++ x ∷ rest) ≡ front ++ x ∷ [] =
    (λ i. take (at i) (whole i)) ∙ take-append_seam (front ++ x ∷ []) rest in
    let right : drop (after_element (front ++ x ∷ rest) x.stamp) (front ++ x ∷ rest) ≡ rest =
    (λ i. drop (at i) (whole i)) ∙ drop-append_seam (front ++ x ∷ []) rest in
    λ i. left i ++ new ++ right i

-- new cells, the last one apart
record EndsInStamp (new init : List TaggedCell) (last : TaggedCell) (stamp : Stamp) : Type 0 where
  pub is : new ≡ init ++ last ∷ []
  pub last_stamp : last.stamp ≡ stamp
  pub apart : is_among (stamps_of init) stamp ≡ false

not_last : (first last site : ℕ) → first < last → is_same (record { count = first; site = site }) (record { count = last; site = site }) ≡ false
not_last first last site h = grind (arith, nat_tests)

ends_from : (first site last : ℕ) (state : List Write) (c : ℕ) (cs : List ℕ) → last ≡ first + length cs
    → (init : List TaggedCell) × (x : TaggedCell) × EndsInStamp (cells_from first site state (c ∷ cs)) init x (record { count = last; site = site })
ends_from first site last state c [] h =
    let x : TaggedCell = record { stamp = record { count = first; site = site }; ch = c; gone = false; state = state } in
    let same : first ≡ last = omega arith in
    ([], x, record { is = refl; last_stamp = λ i. record { count = same i; site = site }; apart = refl })
ends_from first site last state c (d ∷ ds) h =
    let w = ends_from (first + 1) site last state d ds (omega arith) in
    let here : TaggedCell = record { stamp = record { count = first; site = site }; ch = c; gone = false; state = state } in (
      here ∷ w.0,
      w.1,
      record {
        is = ap (λ l. here ∷ l) w.2.is;
        last_stamp = w.2.last_stamp;
        apart = or_from (is_same here.stamp (record { count = last; site = site })) _ (not_last first last site (omega arith)) w.2.apart;
      },
    )

among_append : (xs ys : List TaggedCell) (s : Stamp) → is_among (stamps_of xs) s ≡ false → is_among (stamps_of ys) s ≡ false → is_among (stamps_of (xs ++ ys)) s ≡ false
among_append [] ys s h k = k
among_append (x ∷ xs) ys s h k = split (is_same x.stamp s)
    (λ e. absurd (let bad : true || is_among (stamps_of xs) s ≡ false = ap (λ b. b || is_among (stamps_of xs) s) (sym e) ∙ h in cc bad))
    (λ e. or_from (is_same x.stamp s) _ e (among_append xs ys s (ap (λ b. b || is_among (stamps_of xs) s) (sym e) ∙ h) k))

not_root : (count site : ℕ) → 1 ≤ site → is_same (record { count = count; site = site }) ROOT ≡ false
not_root count site h = grind (arith, nat_tests)

-- the cells of a further text go behind those of the first
put_twice : (count site : ℕ) (cells : List TaggedCell) (after : Stamp) (state : List Write) (text : List ℕ) (more : List TaggedCell) → 1 ≤ site → AreBelowNext count cells → 0 < length text
    → put_after (put_after cells after (cells_from (count + 1) site state text)) (record { count = count + length text; site = site }) more
    ≡ put_after cells after (cells_from (count + 1) site state text ++ more)
put_twice count site cells after state [] more p h n = absurd (omega arith)
put_twice count site cells after state (c ∷ cs) more p h n =
    let at = after_element cells after in
    let xs = take at cells in
    let ys = drop at cells in
    let new = cells_from (count + 1) site state (c ∷ cs) in
    let last : Stamp = record { count = count + length (c ∷ cs); site = site } in
    let w = ends_from (count + 1) site (count + length (c ∷ cs)) state c cs (omega arith) in
    let init = w.0 in
    let x = w.1 in
    let e = w.2 in
    let old : is_among (stamps_of xs) last ≡ false = new_apart count (count + length (c ∷ cs)) site xs (All-take (λ cell. IsBelowNext count cell.stamp) at cells h) (omega arith) p in
    let none : is_among (stamps_of (xs ++ init)) x.stamp ≡ false = ap (is_among (stamps_of (xs ++ init))) e.last_stamp ∙ among_append xs init last old e.apart in
    let root : is_same x.stamp ROOT ≡ false = ap (λ s. is_same s ROOT) e.last_stamp ∙ not_root (count + length (c ∷ cs)) site p in
    let joined : (xs ++ init) ++ x ∷ [] ≡ xs ++ new = append_assoc xs init (x ∷ []) ∙ ap (λ l. xs ++ l) (sym e.is) in
    let whole : (xs ++ new) ++ ys ≡ (xs ++ init) ++ x ∷ ys = ap (λ l. l ++ ys) (sym joined) ∙ append_assoc (xs ++ init) (x ∷ []) ys in
    let there : put_after (put_after cells after new) last more ≡ put_after ((xs ++ init) ++ x ∷ ys) x.stamp more = λ i. put_after (whole i) (sym e.last_stamp i) more in
    let put : put_after ((xs ++ init) ++ x ∷ ys) x.stamp more ≡ ((xs ++ init) ++ x ∷ []) ++ more ++ ys = put_behind (xs ++ init) x ys more root none in
    let back : ((xs ++ init) ++ x ∷ []) ++ more ++ ys ≡ put_after cells after (new ++ more) = ap (λ l. l ++ more ++ ys) joined ∙ ap (λ l. l ++ ys) (append_assoc xs new more) in
    there ∙ put ∙ back

-- THEIR TAGS

outside : (count site last : ℕ) (s : Stamp) → 1 ≤ site → IsBelowNext count s → is_in_span (record { site = site; first = count + 1; last = last }) s ≡ false
outside count site last s p h =
    let a = h.0 in
    split (s.count == count + 1)
    (λ e. let b = h.1 (grind (arith, nat_tests)) in grind (arith, nat_tests))
    (λ e. grind (arith, nat_tests))

inside : (count site last n : ℕ) → count + 1 ≤ n → n ≤ last → is_in_span (record { site = site; first = count + 1; last = last }) (record { count = n; site = site }) ≡ true
inside count site last n h k = grind (arith, nat_tests)

written_outside : (count site last : ℕ) (w : Write) (cells : List TaggedCell) → 1 ≤ site → AreBelowNext count cells
    → map (written_in_any (record { site = site; first = count + 1; last = last } ∷ []) w) cells ≡ cells
written_outside count site last w [] p h = refl
written_outside count site last w (c ∷ cs) p h =
    let P : TaggedCell → Type 0 = λ cell. IsBelowNext count cell.stamp in
    let off = outside count site last c.stamp p (All-head P c cs h) in
    let first : written_in_any (record { site = site; first = count + 1; last = last } ∷ []) w c ≡ c =
    cond-false (is_in_spans (record { site = site; first = count + 1; last = last } ∷ []) c.stamp) (record c { state = written w c.state }) c (or_from _ _ off refl) in
    λ i. first i ∷ written_outside count site last w cs p (All-tail P c cs h) i

or_true : (a : Bool) → a ≡ true → a || false ≡ true
or_true true h = refl
or_true false h = h

written_inside : (count site last : ℕ) (w : Write) (first : ℕ) (state : List Write) (text : List ℕ) → count + 1 ≤ first → first + length text ≤ last + 1
    → map (written_in_any (record { site = site; first = count + 1; last = last } ∷ []) w) (cells_from first site state text) ≡ cells_from first site (written w state) text
written_inside count site last w first state [] h k = refl
written_inside count site last w first state (c ∷ cs) h k =
    let cell : TaggedCell = record { stamp = record { count = first; site = site }; ch = c; gone = false; state = state } in
    let on = inside count site last first h (omega arith) in
    let here : written_in_any (record { site = site; first = count + 1; last = last } ∷ []) w cell ≡ record cell { state = written w state } =
    cond-true (is_in_spans (record { site = site; first = count + 1; last = last } ∷ []) cell.stamp) (record cell { state = written w state }) cell (or_true _ on) in
    λ i. here i ∷ written_inside count site last w (first + 1) state cs (omega arith) (omega arith) i

-- Tags on the characters of an Insert, one after the other
tags_written : (site count last : ℕ) (names : List Word) (log : List Operation) (xs ys : List TaggedCell) (state : List Write) (text : List ℕ) → 1 ≤ site → AreBelowNext count xs → AreBelowNext count ys
    → count + 1 + length text ≤ last + 1
    → all_changed (operations_of site (tags_put_on (record { site = site; first = count + 1; last = last }) names) log) (xs ++ cells_from (count + 1) site state text ++ ys)
    ≡ xs ++ cells_from (count + 1) site (state_after state (put_on site (greatest_last_count log) names)) text ++ ys
tags_written site count last [] log xs ys state text p h k l = refl
tags_written site count last (name ∷ names) log xs ys state text p h k l =
    let span : Span = record { site = site; first = count + 1; last = last } in
    let n = greatest_last_count log in
    let w : Write = record { name = name; writer = record { count = n + 1; site = site }; on = true } in
    let g : TaggedCell → TaggedCell = written_in_any (span ∷ []) w in
    let new = cells_from (count + 1) site state text in
    let op = next_operation site (Tag true name (span ∷ [])) log in
    let one : map g (xs ++ new ++ ys) ≡ xs ++ cells_from (count + 1) site (written w state) text ++ ys =
    map_append g (xs ++ new) ys ∙ ap (λ l. l ++ map g ys) (map_append g xs new)
    ∙ (λ i. written_outside count site last w xs p h i ++ written_inside count site last w (count + 1) state text (omega arith) l i ++ written_outside count site last w ys p k i) in
    let later : greatest_last_count (with_operation op log) ≡ n + 1 = count_after op log (omega arith) in
    ap (all_changed (operations_of site (tags_put_on span names) (with_operation op log))) one
    ∙ tags_written site count last names (with_operation op log) xs ys (written w state) text p h k l
    ∙ ap (λ m. xs ++ cells_from (count + 1) site (state_after (written w state) (put_on site m names)) text ++ ys) later

-- HOW MANY TAGS

pub tags_counted : (span : Span) (names : List Word) (count : ℕ) → last_count_after count (tags_put_on span names) ≡ count + length names
tags_counted span [] count = omega arith
tags_counted span (name ∷ names) count = omega (arith, tags_counted span names (count + 1))

-- THE WHOLE TEXT

pub inserts_counted : (inserts site count : ℕ) (after : Stamp) (names : List Word) (text : List ℕ) → IsCut inserts MOST_CHARACTERS (length text)
    → last_count_after count (inserts_of site count after names (first_parts inserts MOST_CHARACTERS text)) ≡ count + (length text + inserts * length (further_tags names))
inserts_counted zero site count after names text c = let e = c.enough in omega (arith, e)
inserts_counted (suc inserts) site count after names text c =
    let part = take MOST_CHARACTERS text in
    let others = drop MOST_CHARACTERS text in
    let further = further_tags names in
    let last = count + length part in
    let some = cut_some inserts MOST_CHARACTERS (length text) c in
    let l = length-take MOST_CHARACTERS text in
    let m = length-drop MOST_CHARACTERS text in
    let more : IsCut inserts MOST_CHARACTERS (length others) = subst (IsCut inserts MOST_CHARACTERS) (sym m) (cut_more inserts MOST_CHARACTERS (length text) c) in
    let next : Stamp = record { count = last; site = site } in
    let span : Span = record { site = site; first = count + 1; last = last } in
    let first : count + 1 + (length part - 1) ≡ last = omega (arith, l, some) in
    let rest = inserts_counted inserts site (last + length further) next names others more in
    count_append (tags_put_on span further) (inserts_of site (last + length further) next names (first_parts inserts MOST_CHARACTERS others)) (count + 1 + (length part - 1))
    ∙ ap (λ n. last_count_after n (inserts_of site (last + length further) next names (first_parts inserts MOST_CHARACTERS others)))
    (tags_counted span further (count + 1 + (length part - 1)) ∙ ap (λ n. n + length further) first)
    ∙ omega (arith, rest, l, m, suc-mul inserts (length further))

put_at_once : (cells : List TaggedCell) (n : ℕ) (new : List TaggedCell) → take n cells ++ (new ++ drop n cells) ≡ (take n cells ++ new) ++ drop n cells
put_at_once cells n new = sym (append_assoc (take n cells) new (drop n cells))

pub inserts_put : (inserts site count : ℕ) (log : List Operation) (cells : List TaggedCell) (after : Stamp) (names : List Word) (text : List ℕ) → 1 ≤ site → greatest_last_count log ≡ count
    → AreBelowNext count cells → IsCut inserts MOST_CHARACTERS (length text)
    → all_changed (operations_of site (inserts_of site count after names (first_parts inserts MOST_CHARACTERS text)) log) cells
    ≡ put_after cells after (cells_of_inserts inserts site count names text)
inserts_put zero site count log cells after names text p g h c =
    let at = after_element cells after in
    sym (ap (λ l. l ++ drop at cells) (append-nil (take at cells)) ∙ take-append-drop at cells)
inserts_put (suc inserts) site count log cells after names text p g h c =
    let part = take MOST_CHARACTERS text in
    let others = drop MOST_CHARACTERS text in
    let further = further_tags names in
    let last = count + length part in
    let next : Stamp = record { count = last; site = site } in
    let span : Span = record { site = site; first = count + 1; last = last } in
    let listed = listed_by ROOT (take MOST_TAGS names) in
    let draft = Insert after (take MOST_TAGS names) part in
    let op = next_operation site draft log in
    let tags = tags_put_on span further in
    let rest = inserts_of site (last + length further) next names (first_parts inserts MOST_CHARACTERS others) in
    let some = cut_some inserts MOST_CHARACTERS (length text) c in
    let l = length-take MOST_CHARACTERS text in
    let m = length-drop MOST_CHARACTERS text in
    let more : IsCut inserts MOST_CHARACTERS (length others) = subst (IsCut inserts MOST_CHARACTERS) (sym m) (cut_more inserts MOST_CHARACTERS (length text) c) in
    let at = after_element cells after in
    let xs = take at cells in
    let ys = drop at cells in
    let P : TaggedCell → Type 0 = λ cell. IsBelowNext count cell.stamp in
    let stamp : Stamp = record { count = greatest_last_count log + 1; site = site } in
    let place : skip_from cells after stamp ≡ at = skip_from_newest count cells after stamp (ap (λ n. n + 1) g) h in
    let inserted : all_changed (op ∷ []) cells ≡ xs ++ cells_from (count + 1) site (state_after [] listed) part ++ ys =
    (λ i. take (place i) cells ++ (cells_from (g i + 1) site (state_after [] listed) part ++ drop (place i) cells)) ∙ put_at_once cells at (cells_from (count + 1) site (state_after [] listed) part) in
    let one : greatest_last_count (with_operation op log) ≡ last = count_after op log (omega arith) ∙ omega (arith, g, l, some) in
    let new = cells_from (count + 1) site (new_state site last names) part in
    let tagged : all_changed (operations_of site tags (with_operation op log)) (xs ++ cells_from (count + 1) site (state_after [] listed) part ++ ys) ≡ put_after cells after new =
    tags_written site count last further (with_operation op log) xs ys (state_after [] listed) part p (All-take P at cells h) (All-drop P at cells h) (omega arith)
    ∙ ap (λ n. xs ++ cells_from (count + 1) site (state_after (state_after [] listed) (put_on site n further)) part ++ ys) one
    ∙ ap (λ state. xs ++ cells_from (count + 1) site state part ++ ys) (sym (state_append [] listed (put_on site last further))) in
    let after_tags = with_drafts site tags (with_operation op log) in
    let two : greatest_last_count after_tags ≡ last + length further = all_count_on site tags (with_operation op log) ∙ ap (λ n. last_count_after n tags) one ∙ tags_counted span further last in
    let below : AreBelowNext (last + length further) (put_after cells after new) =
    known_put (last + length further) cells after new (known_later count (last + length further) cells (omega (arith, l, some)) h)
    (known_from (count + 1) site (new_state site last names) part (last + length further) (omega arith)) in
    ap (all_changed (operations_of site (tags ++ rest) (with_operation op log))) inserted
    ∙ changed_append site tags rest (with_operation op log) (xs ++ cells_from (count + 1) site (state_after [] listed) part ++ ys)
    ∙ ap (all_changed (operations_of site rest after_tags)) tagged
    ∙ inserts_put inserts site (last + length further) after_tags (put_after cells after new) next names others p two below more
    ∙ put_twice count site cells after (new_state site last names) part (cells_of_inserts inserts site (last + length further) names others) p h (omega (arith, l, some))

-- a text is put in behind an element
pub text_put : (site count : ℕ) (log : List Operation) (cells : List TaggedCell) (after : Stamp) (names : List Word) (text : List ℕ) → 1 ≤ site → greatest_last_count log ≡ count → AreBelowNext count cells
    → all_changed (operations_of site (text_drafts MOST_CHARACTERS site count after names text) log) cells ≡ put_after cells after (tagged_cells site count names text)
text_put site count log cells after names text p g h =
    inserts_put (inserts_for (length text)) site count log cells after names text p g h (cut MOST_CHARACTERS (length text) (omega arith))

pub text_counted : (site count : ℕ) (after : Stamp) (names : List Word) (text : List ℕ)
    → last_count_after count (text_drafts MOST_CHARACTERS site count after names text) ≡ count + counts_for names text
text_counted site count after names text = inserts_counted (inserts_for (length text)) site count after names text (cut MOST_CHARACTERS (length text) (omega arith))
