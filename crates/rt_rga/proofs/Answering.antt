-- What the code asks about named stamps.
use Rattle.std.proofs.Common.{◌≡◌, ℕ, zero, suc, ◌+◌, ◌-◌, ◌<◌, ◌≤◌, Bool, true, false, not, refl, sym, ap, ◌∙◌, arith, List, [], ◌∷◌, ◌++◌, cond, ◌||◌, ◌&&◌, ◌==◌, nat_lt, nat_le, Some, Ok, Err, Result}
use Rattle.std.proofs.lemmas.Bool.Decides.{nat_tests}
use Rattle.std.proofs.lemmas.List.Folds.{list_any-append}
use Rattle.std.specs.List.{find, list_any, list_all}
use Rattle.std.specs.Option.{is_some}
use Rattle.rt_stamps.specs.declared.stamp.Span.{Span}
use Rattle.rt_stamps.specs.declared.stamp.Stamp.{Stamp}
use Rattle.rt_stamps.specs.declared.stamp.TheConstants.{FINAL}
use Rattle.rt_stamps.specs.Stamps.{is_same}
use Rattle.rt_stamps.proofs.Order.{same_sym, same_from_true}
use Rattle.rt_stamps.specs.declared.fault.Fault.{Fault}
use Rattle.rt_stamps.specs.declared.fault.Fault.TheVariants.{BadStamp, BadTarget, NotYet}
use Rattle.rt_ops.specs.Operations.{Operation, Body, Insert, Delete, Tag, has_bad_stamp, named, soundness, stamps_from, stamps_of_span, stamps_in}
use Rattle.rt_oplog.specs.Logs.{holds, known_end}
use Rattle.rt_store.specs.declared.cell.Cell.{Cell}
use Rattle.rt_rga.specs.Histories.{has_character, is_known, may_name}
use Rattle.rt_rga.specs.Answers.{Answer, New, Refused, answer_to, can_never_be_known, has_gap, up_to}
use Rattle.rt_rga.specs.Kept.{AreCellsOf, goes_past, is_kept_character}
use Rattle.rt_rga.proofs.Accepting.{held_end}
use Rattle.rt_rga.proofs.Corollaries.{cells_have, no_final}
use Rattle.rt_rga.proofs.Scanning.{gap_in, known_in, target_in}
use Rattle.rt_store.specs.Cells.{stamps_of}
use Rattle.rt_store.specs.Spans.{is_among}
use Rattle.rt_rga.proofs.Skipping.{split}

-- CHARACTERS

-- a stamp's cell is found where the stamp is among those of the cells
pub found_is : (cells : List (Cell ℕ)) (s : Stamp) → is_some (find (λ cell. is_same cell.stamp s) cells) ≡ is_among (stamps_of cells) s
found_is [] s = refl
found_is (c ∷ cs) s = by (is_same c.stamp s) (found_is cs s)
  where
    by : (b : Bool) → is_some (find (λ cell. is_same cell.stamp s) cs) ≡ is_among (stamps_of cs) s → is_some (cond b (Some c) (find (λ cell. is_same cell.stamp s) cs)) ≡ (b || is_among (stamps_of cs) s)
    by true h = refl
    by false h = h

pub kept_character : (log : List Operation) (kept : List (Cell ℕ)) → AreCellsOf log kept → (s : Stamp) → is_kept_character kept s ≡ has_character log s
kept_character log kept r s =
    let a : is_among (stamps_of kept) s ≡ (has_character log s || is_same FINAL s) = ap (λ ss. is_among ss s) r.stamps ∙ cells_have log r.history s in
    let f : has_character log FINAL ≡ false = no_final log r.history in
    let t : is_same FINAL s ≡ is_same s FINAL = same_sym FINAL s in
    split (is_same s FINAL)
    (λ e. let k : has_character log s ≡ false = ap (has_character log) (same_from_true s FINAL e) ∙ f in rw (e, k) refl)
    (λ e. by (is_same s FINAL) (is_same FINAL s) (is_among (stamps_of kept) s) (has_character log s) e t a)
  where
    by : (b d m h : Bool) → b ≡ false → d ≡ b → m ≡ (h || d) → (not b && m) ≡ h
    by b d m h e t a = grind (arith, e, t, a)

-- some stamp of a span is that of no character
pub gap_kept : (log : List Operation) (kept : List (Cell ℕ)) → AreCellsOf log kept → (span : Span) → list_any (λ s. not (is_kept_character kept s)) (stamps_of_span span) ≡ has_gap log span
gap_kept log kept r span = λ i. list_any (λ s. not (kept_character log kept r s i)) (stamps_of_span span)

-- SPANS BY COUNTS

pub gap_on : (p : Stamp → Bool) (site count last : ℕ) → count < last + 1 → p (record { count = count; site = site }) ≡ false
    → list_any p (stamps_from site (count + 1) (last + 1 - (count + 1))) ≡ list_any p (stamps_from site count (last + 1 - count))
gap_on p site count last l h =
    let e : last + 1 - count ≡ suc (last + 1 - (count + 1)) = omega arith in
    sym (ap (λ n. list_any p (stamps_from site count n)) e ∙ ap (λ b. b || list_any p (stamps_from site (count + 1) (last + 1 - (count + 1)))) h)

-- the stamps of a span of site 0 are all one stamp
others : (k first n : ℕ) → list_any (λ s. not (is_same s (record { count = k; site = 0 }))) (stamps_from 0 first n) ≡ (nat_lt 0 n && not ((first == k) && (n == 1)))
others k first zero = refl
others k first (suc zero) = grind (arith, nat_tests)
others k first (suc (suc n)) = grind (arith, nat_tests)

others_in : (k : ℕ) (span : Span) → span.site ≡ 0 → span.first ≤ span.last → list_any (λ s. not (is_same s (record { count = k; site = 0 }))) (stamps_of_span span) ≡ not ((span.first == k) && (span.last == k))
others_in k span z l =
    ap (λ site. list_any (λ s. not (is_same s (record { count = k; site = 0 }))) (stamps_from site span.first (span.last + 1 - span.first))) z
    ∙ others k span.first (span.last + 1 - span.first) ∙ (by span.first span.last l)
  where
    by : (first last : ℕ) → first ≤ last → (nat_lt 0 (last + 1 - first) && not ((first == k) && (last + 1 - first == 1))) ≡ not ((first == k) && (last == k))
    by first last l = grind (arith, nat_tests)

-- whether a span of site 0 is that of another stamp than the one that an operation may name
abbrev pub is_other : Body → Span → Bool
is_other (Insert after tags text) span = not ((span.first == 0) && (span.last == 0))
is_other (Delete spans) span = true
is_other (Tag on name spans) span = not ((span.first == 1) && (span.last == 1))

any_from : (site first n : ℕ) → list_any (λ s. not false) (stamps_from site first n) ≡ nat_lt 0 n
any_from site first zero = refl
any_from site first (suc n) = grind (arith, nat_tests)

pub other_is : (body : Body) (span : Span) → span.site ≡ 0 → span.first ≤ span.last → list_any (λ s. not (may_name body s)) (stamps_of_span span) ≡ is_other body span
other_is (Insert after tags text) span z l = others_in 0 span z l
other_is (Delete spans) span z l = any_from span.site span.first (span.last + 1 - span.first) ∙ grind (arith, nat_tests)
other_is (Tag on name spans) span z l = others_in 1 span z l

-- BAD TARGETS

-- of site 0, what can never be known is what may not be named
pub never_zero : (set : List Operation) (op : Operation) (first n : ℕ) → list_any (can_never_be_known set op) (stamps_from 0 first n) ≡ list_any (λ s. not (may_name op.body s)) (stamps_from 0 first n)
never_zero set op first zero = refl
never_zero set op first (suc n) = ap (λ b. not (may_name op.body (record { count = first; site = 0 })) || b) (never_zero set op (first + 1) n)

pub target_zero : (set : List Operation) (op : Operation) (span : Span) → span.site ≡ 0 → list_any (λ s. not (may_name op.body s)) (stamps_of_span span) ≡ list_any (can_never_be_known set op) (stamps_of_span span)
target_zero set op span z =
    ap (λ site. list_any (λ s. not (may_name op.body s)) (stamps_from site span.first (span.last + 1 - span.first))) z
    ∙ sym (never_zero set op span.first (span.last + 1 - span.first))
    ∙ ap (λ site. list_any (can_never_be_known set op) (stamps_from site span.first (span.last + 1 - span.first))) (sym z)

-- of a real site, a gap up to the known end, or an own span that goes past it
pub target_real : (set : List Operation) (op : Operation) (span : Span) → (span.site == 0) ≡ false
    → (has_gap set (up_to (known_end set span.site) span) || ((span.site == op.site) && (nat_le span.first span.last && nat_lt (known_end set span.site) span.last))) ≡ list_any (can_never_be_known set op) (stamps_of_span span)
target_real set op span z =
    let g = gap_in set span in
    by (has_gap set (up_to (known_end set span.site) span)) (span.site == op.site) (nat_le span.first span.last && nat_lt (known_end set span.site) span.last) (has_gap set span) g
    ∙ sym (target_in set op span z)
  where
    by : (h own past gap : Bool) → gap ≡ (h || past) → (h || (own && past)) ≡ (h || (own && gap))
    by h own past gap g = grind (arith, g)

pub one_stamp : (s : Stamp) → stamps_of_span (record { site = s.site; first = s.count; last = s.count }) ≡ s ∷ []
one_stamp s = ap (stamps_from s.site s.count) (by s.count)
  where
    by : (n : ℕ) → n + 1 - n ≡ 1
    by n = omega arith

pub any_in_spans : (p : Stamp → Bool) (spans : List Span) → list_any (λ span. list_any p (stamps_of_span span)) spans ≡ list_any p (stamps_in spans)
any_in_spans p [] = refl
any_in_spans p (span ∷ spans) = ap (λ b. list_any p (stamps_of_span span) || b) (any_in_spans p spans) ∙ sym (list_any-append p (stamps_of_span span) (stamps_in spans))

-- WHAT IS NOT KNOWN YET

known_zero : (set : List Operation) (op : Operation) (first n : ℕ) → list_any (can_never_be_known set op) (stamps_from 0 first n) ≡ false → list_all (is_known set op.body) (stamps_from 0 first n) ≡ true
known_zero set op first zero h = refl
known_zero set op first (suc n) h =
    let k : list_all (is_known set op.body) (stamps_from 0 (first + 1) n) ≡ true = known_zero set op (first + 1) n (tail (may_name op.body (record { count = first; site = 0 })) (list_any (can_never_be_known set op) (stamps_from 0 (first + 1) n)) h) in
    by (has_character set (record { count = first; site = 0 })) (may_name op.body (record { count = first; site = 0 })) (list_any (can_never_be_known set op) (stamps_from 0 (first + 1) n)) (list_all (is_known set op.body) (stamps_from 0 (first + 1) n)) h k
  where
    tail : (m r : Bool) → (not m || r) ≡ false → r ≡ false
    tail m r h = grind (arith, h)

    by : (c m r k : Bool) → (not m || r) ≡ false → k ≡ true → ((c || m) && k) ≡ true
    by c m r k h e = grind (arith, h, e)

pub past_is : (set : List Operation) (op : Operation) (span : Span) → list_any (can_never_be_known set op) (stamps_of_span span) ≡ false
    → goes_past set span ≡ not (list_all (is_known set op.body) (stamps_of_span span))
past_is set op span h = split (span.site == 0)
    (λ z. let e : span.site ≡ 0 = grind (arith, nat_tests) in
    let k : list_any (can_never_be_known set op) (stamps_from 0 span.first (span.last + 1 - span.first)) ≡ false = ap (λ site. list_any (can_never_be_known set op) (stamps_from site span.first (span.last + 1 - span.first))) (sym e) ∙ h in
    let a : list_all (is_known set op.body) (stamps_of_span span) ≡ true = ap (λ site. list_all (is_known set op.body) (stamps_from site span.first (span.last + 1 - span.first))) e ∙ known_zero set op span.first (span.last + 1 - span.first) k in
    rw (z, a) refl)
    (λ z. let t = sym (target_in set op span z) ∙ h in
    let k = known_in set op.body span z in
    let g = gap_in set span in
    by (span.site == 0) (nat_le span.first span.last && nat_lt (known_end set span.site) span.last) (has_gap set (up_to (known_end set span.site) span)) ((span.site == op.site) && has_gap set span) (has_gap set span) (list_all (is_known set op.body) (stamps_of_span span)) z t k g)
  where
    by : (z past low own gap known : Bool) → z ≡ false → (low || own) ≡ false → known ≡ not gap → gap ≡ (low || past) → (not z && past) ≡ not known
    by z past low own gap known e t k g = grind (arith, e, t, k, g)

all_append : (p : Stamp → Bool) (xs ys : List Stamp) → list_all p (xs ++ ys) ≡ (list_all p xs && list_all p ys)
all_append p [] ys = refl
all_append p (x ∷ xs) ys = ap (λ b. p x && b) (all_append p xs ys) ∙ by (p x) (list_all p xs) (list_all p ys)
  where
    by : (a b c : Bool) → (a && (b && c)) ≡ ((a && b) && c)
    by a b c = grind arith

pub past_in : (set : List Operation) (op : Operation) (spans : List Span) → list_any (can_never_be_known set op) (stamps_in spans) ≡ false
    → list_any (goes_past set) spans ≡ not (list_all (is_known set op.body) (stamps_in spans))
past_in set op [] h = refl
past_in set op (span ∷ spans) h =
    let e : (list_any (can_never_be_known set op) (stamps_of_span span) || list_any (can_never_be_known set op) (stamps_in spans)) ≡ false = sym (list_any-append (can_never_be_known set op) (stamps_of_span span) (stamps_in spans)) ∙ h in
    let a = past_is set op span (first (list_any (can_never_be_known set op) (stamps_of_span span)) (list_any (can_never_be_known set op) (stamps_in spans)) e) in
    let b = past_in set op spans (second (list_any (can_never_be_known set op) (stamps_of_span span)) (list_any (can_never_be_known set op) (stamps_in spans)) e) in
    by (goes_past set span) (list_any (goes_past set) spans) (list_all (is_known set op.body) (stamps_of_span span)) (list_all (is_known set op.body) (stamps_in spans)) a b
    ∙ ap not (sym (all_append (is_known set op.body) (stamps_of_span span) (stamps_in spans)))
  where
    first : (a b : Bool) → (a || b) ≡ false → a ≡ false
    first a b h = grind (arith, h)

    second : (a b : Bool) → (a || b) ≡ false → b ≡ false
    second a b h = grind (arith, h)

    by : (p r a b : Bool) → p ≡ not a → r ≡ not b → (p || r) ≡ not (a && b)
    by p r a b e f = grind (arith, e, f)

-- of a real site, in the parts that the code finds
pub target_by : (set : List Operation) (op : Operation) (span : Span) (h own past : Bool) → (span.site == 0) ≡ false → h ≡ has_gap set (up_to (known_end set span.site) span) → own ≡ (span.site == op.site) → past ≡ goes_past set span
    → (h || (own && past)) ≡ list_any (can_never_be_known set op) (stamps_of_span span)
target_by set op span h own past z e f g =
    by h (has_gap set (up_to (known_end set span.site) span)) own (span.site == op.site) past (span.site == 0) (nat_le span.first span.last && nat_lt (known_end set span.site) span.last) z e f g
    ∙ target_real set op span z
  where
    by : (h k own o past none p : Bool) → none ≡ false → h ≡ k → own ≡ o → past ≡ (not none && p) → (h || (own && past)) ≡ (k || (o && p))
    by h k own o past none p z e f g = grind (arith, z, e, f, g)

abbrev sound_by : Bool → Result (Unit {0}) Fault
sound_by b = cond b (Err BadStamp) (Ok tt)

bad_tests : (b : Bool) (rest : Answer) (fault : Fault) → sound_by b ≡ Err fault → Refused fault ≡ cond b (Refused BadStamp) rest
bad_tests true rest fault h = let e : fault ≡ BadStamp = cc h in ap Refused e
bad_tests false rest fault h = absurd (cc h)

pub bad_answer : (op : Operation) (set : List Operation) (fault : Fault) → soundness op ≡ Err fault → Refused fault ≡ answer_to op set
bad_answer op set fault h = bad_tests (has_bad_stamp op) _ fault h

-- a sound operation that goes on from no lower than its site's known end isn't there
pub not_held_above : (set : List Operation) (op : Operation) → has_bad_stamp op ≡ false → nat_lt op.prev (known_end set op.site) ≡ false → holds set op ≡ false
not_held_above set op h k = split (holds set op) (λ e. absurd (let l = held_end set op e in let p : op.prev < op.count = grind (arith, nat_tests, h) in grind (arith, nat_tests, k, l, p))) (λ e. e)

-- what is answered by the known end of the site, by what can never be known, and by whether all is known
abbrev pub later_by : Bool → Bool → Bool → Answer
later_by late bad all = cond late (Refused NotYet) (cond bad (Refused BadTarget) (cond (not all) (Refused NotYet) New))

is_sound : (bad : Bool) → sound_by bad ≡ Ok tt → bad ≡ false
is_sound true h = absurd (cc h)
is_sound false h = refl

-- a sound operation that goes on from no lower than its site's known end
pub later_answer : (op : Operation) (set : List Operation) → soundness op ≡ Ok tt → known_end set op.site ≤ op.prev
    → later_by (nat_lt (known_end set op.site) op.prev) (list_any (can_never_be_known set op) (named op.body)) (list_all (is_known set op.body) (named op.body)) ≡ answer_to op set
later_answer op set h l =
    let sound : has_bad_stamp op ≡ false = is_sound (has_bad_stamp op) h in
    let low : nat_lt op.prev (known_end set op.site) ≡ false = grind (arith, nat_tests, l) in
    let new : holds set op ≡ false = not_held_above set op sound low in
    rw (sound, new, low) refl

pub by_late : (late bad all : Bool) → late ≡ true → Refused NotYet ≡ later_by late bad all
by_late late bad all h = rw h refl

pub by_bad : (late bad all : Bool) → late ≡ false → bad ≡ true → Refused BadTarget ≡ later_by late bad all
by_bad late bad all h k = rw (h, k) refl

pub by_unknown : (late bad all : Bool) → late ≡ false → bad ≡ false → not all ≡ true → Refused NotYet ≡ later_by late bad all
by_unknown late bad all h k l = rw (h, k, l) refl

pub by_known : (late bad all : Bool) → late ≡ false → bad ≡ false → not all ≡ false → New ≡ later_by late bad all
by_known late bad all h k l = rw (h, k, l) refl
