-- The operations of a text keep the rules, and name what is known.
use Rattle.std.proofs.Common.{◌≡◌, ℕ, zero, suc, ◌+◌, ◌<◌, ◌≤◌, inl, List, [], ◌∷◌, ◌++◌, Bool, true, false, ◌||◌, length, take, drop, refl, sym, ◌∙◌, ap, subst, arith, take-append-drop, length-drop}
use Rattle.std.specs.List.{list_all}
use Rattle.std.specs.Str.{all_scalars}
use Rattle.std.proofs.lemmas.Bool.{and_from, and_parts, or_left, or_right}
use Rattle.std.proofs.lemmas.Bool.Decides.{nat_tests}
use Rattle.std.proofs.lemmas.List.{length-take}
use Rattle.std.proofs.lemmas.List.Folds.{list_all-append}
use Rattle.rt_stamps.specs.declared.limits.TheConstants.{GREATEST_COUNT, MOST_CHARACTERS, MOST_TAGS}
use Rattle.rt_stamps.specs.declared.stamp.Span.{Span}
use Rattle.rt_stamps.specs.declared.stamp.Stamp.{Stamp}
use Rattle.rt_stamps.specs.declared.stamp.TheConstants.{ROOT}
use Rattle.rt_stamps.specs.Stamps.{is_same}
use Rattle.rt_stamps.specs.Words.{Word}
use Rattle.rt_ops.specs.Operations.{Operation, Insert, Tag}
use Rattle.rt_oplog.specs.Logs.{with_operation}
use Rattle.rt_ops.specs.Rules.{are_spans, are_tags, is_lesser_name, is_name, is_text, is_within}
use Rattle.rt_store.specs.Cells.{is_in_span}
use Rattle.rt_store.specs.Spans.{each_next, is_in_spans, is_span, next_stamp}
use Rattle.rt_store.proofs.Distinct.{split}
use Rattle.rt_rga.specs.Cells.{cells_of}
use Rattle.rt_rga.specs.Drafts.{all_changed, next_operation, operations_of, with_drafts}
use Rattle.rt_rga.specs.Histories.{IsHistory, characters_from, greatest_last_count, has_character, inserted}
use Rattle.rt_rga.specs.Reading.{has_stamp}
use Rattle.rt_rga.specs.Requests.{MayBeMade, last_count_after}
use Rattle.rt_rga.proofs.Appending.{may_append}
use Rattle.rt_rga.proofs.Continuing.{known_all}
use Rattle.rt_rga.proofs.Corollaries.{cells_older}
use Rattle.rt_rga.proofs.Drafting.{count_after, made}
use Rattle.rt_rga.proofs.Histories.{any_with}
use Rattle.rt_rga.proofs.Requests.{all_count_on, drafts_for}
use Rattle.rt_rga.proofs.Writes.{spans_name}
use Rattle.rt_plans.specs.DraftLaws.{AreTagNames, IsElement}
use Rattle.rt_plans.specs.DocValue.{put_after}
use Rattle.rt_plans.specs.InsertionDrafts.{inserts_of, tags_put_on, text_drafts}
use Rattle.rt_plans.specs.Insertions.{counts_for, further_tags, inserts_for, tagged_cells}
use Rattle.rt_plans.specs.NamedSpans.{first_parts}
use Rattle.rt_plans.proofs.DraftSteps.{stays_character}
use Rattle.rt_plans.proofs.InsertDraftLaws.{tags_counted, text_counted, text_put}
use Rattle.rt_plans.proofs.NamedSpanLaws.{IsCut, cut, cut_more, cut_some, each_left}
use Rattle.rt_plans.proofs.PartLaws.{still_character}

-- PARTS OF NAMES AND TEXTS

front_all : {X : Type 0} (p : X → Bool) (n : ℕ) (xs : List X) → list_all p xs ≡ true → list_all p (take n xs) ≡ true
front_all p n xs h = (and_parts (list_all p (take n xs)) (list_all p (drop n xs)) (sym (list_all-append p (take n xs) (drop n xs)) ∙ ap (list_all p) (take-append-drop n xs) ∙ h)).0

rest_all : {X : Type 0} (p : X → Bool) (n : ℕ) (xs : List X) → list_all p xs ≡ true → list_all p (drop n xs) ≡ true
rest_all p n xs h = (and_parts (list_all p (take n xs)) (list_all p (drop n xs)) (sym (list_all-append p (take n xs) (drop n xs)) ∙ ap (list_all p) (take-append-drop n xs) ∙ h)).1

scalars_parts : (xs ys : List ℕ) → all_scalars (xs ++ ys) ≡ true → (all_scalars xs ≡ true) × (all_scalars ys ≡ true)
scalars_parts [] ys h = (refl, h)
scalars_parts (x ∷ xs) ys h =
    let p = and_parts _ (all_scalars (xs ++ ys)) h in
    let rest = scalars_parts xs ys p.1 in
    (and_from _ (all_scalars xs) p.0 rest.0, rest.1)

scalars_cut : (n : ℕ) (xs : List ℕ) → all_scalars xs ≡ true → (all_scalars (take n xs) ≡ true) × (all_scalars (drop n xs) ≡ true)
scalars_cut n xs h = scalars_parts (take n xs) (drop n xs) (ap all_scalars (take-append-drop n xs) ∙ h)

within : (least most n : ℕ) → least ≤ n → n ≤ most → is_within least most n ≡ true
within least most n h k = grind (arith, nat_tests)

listed_rules : (names : List Word) → AreTagNames names → are_tags (take MOST_TAGS names) ≡ true
listed_rules names h =
    let l = length-take MOST_TAGS names in
    and_from (is_within 0 MOST_TAGS (length (take MOST_TAGS names))) _ (within 0 MOST_TAGS (length (take MOST_TAGS names)) (omega arith) (omega (arith, l)))
    (and_from (list_all is_name (take MOST_TAGS names)) _ (front_all is_name MOST_TAGS names h.each)
    (each_left is_lesser_name (take MOST_TAGS names) (drop MOST_TAGS names) (ap (each_next is_lesser_name) (take-append-drop MOST_TAGS names) ∙ h.rising)))

part_rules : (text : List ℕ) → 0 < length text → all_scalars text ≡ true → is_text (take MOST_CHARACTERS text) ≡ true
part_rules text n h =
    let l = length-take MOST_CHARACTERS text in
    and_from (is_within 1 MOST_CHARACTERS (length (take MOST_CHARACTERS text))) _ (within 1 MOST_CHARACTERS (length (take MOST_CHARACTERS text)) (omega (arith, l, n)) (omega (arith, l)))
    (scalars_cut MOST_CHARACTERS text h).0

-- NEW CHARACTERS

further_on : (stamp s : Stamp) → s.site ≡ stamp.site → stamp.count ≤ s.count → is_same stamp s ≡ false → stamp.count + 1 ≤ s.count
further_on stamp s a b e = grind (arith, nat_tests)

in_from : (left stamp : Stamp) (text : List ℕ) (s : Stamp) → s.site ≡ stamp.site → stamp.count ≤ s.count → s.count < stamp.count + length text → has_stamp (characters_from left stamp text) s ≡ true
in_from left stamp [] s a b c = absurd (omega arith)
in_from left stamp (ch ∷ text) s a b c = split (is_same stamp s)
    (λ e. or_left (is_same stamp s) _ e)
    (λ e. let n = further_on stamp s a b e in or_right (is_same stamp s) _ (in_from stamp (next_stamp stamp) text s a n (omega (arith, c))))

in_counts : (span : Span) (s : Stamp) → is_in_span span s ≡ true → (s.site ≡ span.site) × (span.first ≤ s.count) × (s.count ≤ span.last)
in_counts span s h = (grind (arith, nat_tests), grind (arith, nat_tests), grind (arith, nat_tests))

-- the characters of an Insert's span are in the set with it
pub new_characters : (site count : ℕ) (log : List Operation) (after : Stamp) (tags : List Word) (text : List ℕ) (s : Stamp) → greatest_last_count log ≡ count
    → is_in_span (record { site = site; first = count + 1; last = count + length text }) s ≡ true
    → has_character (with_operation (next_operation site (Insert after tags text) log) log) s ≡ true
new_characters site count log after tags text s g h =
    let op = next_operation site (Insert after tags text) log in
    let p = in_counts (record { site = site; first = count + 1; last = count + length text }) s h in
    let low = p.1 in
    let high = p.2 in
    any_with (λ q. has_stamp (inserted q) s) op log
    ∙ or_left (has_stamp (inserted op) s) _ (in_from after (record { count = greatest_last_count log + 1; site = site }) text s p.0 (omega (arith, g, low)) (omega (arith, g, high)))

one_span : (span : Span) → is_span span ≡ true → are_spans (span ∷ []) ≡ true
one_span span h = and_from (list_all is_span (span ∷ [])) true (and_from (is_span span) true h refl) refl

in_one : (span : Span) (s : Stamp) → is_in_spans (span ∷ []) s ≡ true → is_in_span span s ≡ true
in_one span s h = by (is_in_span span s) h
  where
    by : (b : Bool) → b || false ≡ true → b ≡ true
    by true h = refl
    by false h = h

tags_may : (site : ℕ) (span : Span) (names : List Word) (log : List Operation) → is_span span ≡ true → list_all is_name names ≡ true → ((s : Stamp) → is_in_span span s ≡ true → has_character log s ≡ true)
    → MayBeMade site log (tags_put_on span names)
tags_may site span [] log h n f = tt
tags_may site span (name ∷ names) log h n f =
    let p = and_parts (is_name name) (list_all is_name names) n in
    let op = next_operation site (Tag true name (span ∷ [])) log in (
      and_from (is_name name) _ p.0 (one_span span h),
      known_all log (Tag true name (span ∷ [])) (λ s k. inl (f s (in_one span s (sym (spans_name (span ∷ []) s) ∙ k)))),
      tags_may site span names (with_operation op log) h p.1 (λ s k. still_character op log s (f s k)),
    )

-- ALL INSERTS

is_forward : (span : Span) → span.first ≤ span.last → is_span span ≡ true
is_forward span h = grind (arith, nat_tests)

in_last : (site first last : ℕ) → first ≤ last → is_in_span (record { site = site; first = first; last = last }) (record { count = last; site = site }) ≡ true
in_last site first last h = grind (arith, nat_tests)

inserts_may : (inserts site count : ℕ) (log : List Operation) (after : Stamp) (names : List Word) (text : List ℕ) → greatest_last_count log ≡ count → AreTagNames names → all_scalars text ≡ true
    → IsElement log after → IsCut inserts MOST_CHARACTERS (length text) → MayBeMade site log (inserts_of site count after names (first_parts inserts MOST_CHARACTERS text))
inserts_may zero site count log after names text g n t e c = tt
inserts_may (suc inserts) site count log after names text g n t e c =
    let part = take MOST_CHARACTERS text in
    let others = drop MOST_CHARACTERS text in
    let further = further_tags names in
    let last = count + length part in
    let next : Stamp = record { count = last; site = site } in
    let span : Span = record { site = site; first = count + 1; last = last } in
    let draft = Insert after (take MOST_TAGS names) part in
    let op = next_operation site draft log in
    let with_insert = with_operation op log in
    let tags = tags_put_on span further in
    let after_tags = with_drafts site tags with_insert in
    let some = cut_some inserts MOST_CHARACTERS (length text) c in
    let l = length-take MOST_CHARACTERS text in
    let more : IsCut inserts MOST_CHARACTERS (length others) = subst (IsCut inserts MOST_CHARACTERS) (sym (length-drop MOST_CHARACTERS text)) (cut_more inserts MOST_CHARACTERS (length text) c) in
    let f = λ (s : Stamp) (k : is_in_span span s ≡ true). new_characters site count log after (take MOST_TAGS names) part s g k in
    let one : greatest_last_count with_insert ≡ last = count_after op log (omega arith) ∙ omega (arith, g, l, some) in
    let two : greatest_last_count after_tags ≡ last + length further = all_count_on site tags with_insert ∙ ap (λ k. last_count_after k tags) one ∙ tags_counted span further last in
    let there : has_character after_tags next ≡ true = stays_character site tags with_insert next (f next (in_last site (count + 1) last (omega (arith, l, some)))) in (
      and_from (are_tags (take MOST_TAGS names)) _ (listed_rules names n) (part_rules text some t),
      and_from (has_character log after || is_same after ROOT) true e refl,
      may_append site tags (inserts_of site (last + length further) next names (first_parts inserts MOST_CHARACTERS others)) with_insert
          (tags_may site span further with_insert (is_forward span (omega (arith, l, some))) (rest_all is_name MOST_TAGS names n.each) f)
          (inserts_may inserts site (last + length further) after_tags next names others two n (scalars_cut MOST_CHARACTERS text t).1 (or_left (has_character after_tags next) _ there) more),
    )

pub text_may : (site : ℕ) (log : List Operation) (after : Stamp) (names : List Word) (text : List ℕ) → AreTagNames names → all_scalars text ≡ true → IsElement log after
    → MayBeMade site log (text_drafts MOST_CHARACTERS site (greatest_last_count log) after names text)
text_may site log after names text n t e =
    inserts_may (inserts_for (length text)) site (greatest_last_count log) log after names text refl n t e (cut MOST_CHARACTERS (length text) (omega arith))

-- THE LARGER HISTORY

pub text_as_flat : (site : ℕ) (log : List Operation) (after : Stamp) (names : List Word) (text : List ℕ) → 0 < site → IsHistory log
    → all_changed (operations_of site (text_drafts MOST_CHARACTERS site (greatest_last_count log) after names text) log) (cells_of log)
    ≡ put_after (cells_of log) after (tagged_cells site (greatest_last_count log) names text)
text_as_flat site log after names text p h = text_put site (greatest_last_count log) log (cells_of log) after names text (omega (arith, p)) refl (cells_older log h)

pub text_is_counted : (site : ℕ) (log : List Operation) (after : Stamp) (names : List Word) (text : List ℕ)
    → greatest_last_count (with_drafts site (text_drafts MOST_CHARACTERS site (greatest_last_count log) after names text) log) ≡ greatest_last_count log + counts_for names text
text_is_counted site log after names text =
    all_count_on site (text_drafts MOST_CHARACTERS site (greatest_last_count log) after names text) log ∙ text_counted site (greatest_last_count log) after names text

pub record IsMade (site : ℕ) (log : List Operation) (after : Stamp) (names : List Word) (text : List ℕ) (larger : List Operation) : Type 0 where
  pub history : IsHistory larger
  pub cells : cells_of larger ≡ put_after (cells_of log) after (tagged_cells site (greatest_last_count log) names text)

pub text_is_made : (site : ℕ) (log : List Operation) (after : Stamp) (names : List Word) (text : List ℕ) → 0 < site → IsHistory log → AreTagNames names → all_scalars text ≡ true → IsElement log after
    → greatest_last_count log + counts_for names text ≤ GREATEST_COUNT
    → IsMade site log after names text (with_drafts site (text_drafts MOST_CHARACTERS site (greatest_last_count log) after names text) log)
text_is_made site log after names text p h n t e l =
    let drafts = text_drafts MOST_CHARACTERS site (greatest_last_count log) after names text in
    let fits : last_count_after (greatest_last_count log) drafts ≤ GREATEST_COUNT = omega (arith, text_counted site (greatest_last_count log) after names text, l) in
    let all = made site drafts log p h (drafts_for site log drafts (text_may site log after names text n t e) fits) in
    record { history = all.history; cells = all.cells ∙ text_as_flat site log after names text p h }
