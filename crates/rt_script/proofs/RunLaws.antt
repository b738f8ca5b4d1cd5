-- Runs of lines, one after the other.
use Rattle.std.proofs.Common.{IfErr, OnOk, ◌≢◌, zero, suc, ◌==◌, ◌≡◌, inl, inr, ℕ, ◌+◌, ◌-◌, min, ◌<◌, ◌≤◌, ◌&&◌, not, Bool, true, false, cond, length, take, drop, get_or, take-append-drop, map, Some, None, List, [], ◌∷◌, ◌++◌, refl, sym, ◌∙◌, ap, subst, Option, Result, Ok, Err, append_assoc, append-nil, arith, nat_le}
use Rattle.std.proofs.lemmas.List.{take_more, take_all, take_min, take_rest, get_or-drop, length-take, length-drop}
use Rattle.std.proofs.Math.Seq.{take-add, take-append-add}
use Rattle.std.specs.List.{prefix_len}
use Rattle.std.proofs.lemmas.List.Sums.{prefix_len-le-length, prefix_len_stops}
use Rattle.std.proofs.lemmas.List.Elements.{filter-append}
use Rattle.std.proofs.lemmas.Grind.{flat_map-append}
use Rattle.std.proofs.lemmas.Bool.{false≢true, cases_lt}
use Rattle.std.proofs.lemmas.Bool.Decides.{nat_tests}
use Rattle.std.specs.Io.KnownBytes.{Appends}
use Rattle.std.specs.Str.{IsUtf8, is_utf8}
use Rattle.std.proofs.lemmas.Str.{IsUtf8-from_is_utf8, is_utf8-from_IsUtf8}
use Rattle.rt_stamps.specs.declared.limits.TheConstants.{MOST_LINE_BYTES}
use Rattle.rt_stamps.specs.declared.fault.Fault.{Fault}
use Rattle.rt_stamps.specs.declared.fault.Fault.TheVariants.{NoMemory, WriteFault}
use Rattle.rt_script.specs.Lines.{split_lines, lines_of, without_return, is_readable, is_silent, answered_lines, complete_of, rest_of, rest_line}
use Rattle.rt_stamps.specs.Words.{Word}
use Rattle.rt_stamps.proofs.Writes.{appends_then}
use Rattle.rt_script.specs.declared.answer.Answer.{Answer}
use Rattle.rt_script.specs.declared.engine.TheConstants.{MOST_KEPT_BYTES}
use Rattle.rt_script.specs.Replies.{reply_line}
use Rattle.rt_script.specs.Run.{LineGives, Point, RunsLines, Ran, RanFront, RanUnwritten}
use Rattle.rt_script.specs.Pieces.{is_inner, kept_bytes, RanLine, RanLines}
use Rattle.rt_stamps.specs.Source.{failures_of}
use Rattle.rt_script.proofs.LinesLaws.{complete_append, complete_newline, complete_front, rest_append, rest_newline, rest_front, cut_empty}

-- a run goes on
pub runs_then : {S : Type 0} (gives : S → List Word → Answer → S → Type 0) (old mid new : S) (ls ms : List (List ℕ)) (bs cs : List Answer) → RunsLines gives old ls bs mid → RunsLines gives mid ms cs new → RunsLines gives old (ls ++ ms) (bs ++ cs) new
runs_then gives old mid new [] ms [] cs h k = subst (λ s. RunsLines gives s ms cs new) h k
runs_then gives old mid new (l ∷ ls) ms (b ∷ bs) cs h k = (h.0, h.1, runs_then gives h.0 mid new ls ms bs cs h.2 k)
runs_then gives old mid new [] ms (b ∷ bs) cs h k = absurd h
runs_then gives old mid new (l ∷ ls) ms [] cs h k = absurd h

pub answered_append : (ls ms : List (List ℕ)) → answered_lines (ls ++ ms) ≡ answered_lines ls ++ answered_lines ms
answered_append ls ms = filter-append (λ line. not (is_readable line && is_silent line)) ls ms

pub ran_then : {S : Type 0} (gives : S → List Word → Answer → S → Type 0) (old mid new : Point S) (ls ms : List (List ℕ)) → Ran gives old mid ls → Ran gives mid new ms → Ran gives old new (ls ++ ms)
ran_then gives old mid new ls ms h k = record {
  answers = h.answers ++ k.answers;
  runs = rw (answered_append ls ms) (runs_then gives old.state mid.state new.state (answered_lines ls) (answered_lines ms) h.answers k.answers h.runs k.runs);
  wrote = rw (flat_map-append reply_line h.answers k.answers) (appends_then old.out.bytes mid.out.bytes new.out.bytes _ _ h.wrote k.wrote);
}

pub front_then : {S : Type 0} (gives : S → List Word → Answer → S → Type 0) (old mid new : Point S) (ls ms : List (List ℕ)) → Ran gives old mid ls → RanFront gives mid new ms → RanFront gives old new (ls ++ ms)
front_then gives old mid new ls ms h k = record {
  run = ls ++ k.run;
  line = k.line;
  more = k.more;
  split = rw k.split (sym (append_assoc ls k.run (k.line ∷ k.more)));
  ran = ran_then gives old mid new ls k.run h k.ran;
}

pub unwritten_then : {S : Type 0} (gives : S → List Word → Answer → S → Type 0) (old mid new : Point S) (ls ms : List (List ℕ)) → Ran gives old mid ls → RanUnwritten gives mid new ms → RanUnwritten gives old new (ls ++ ms)
unwritten_then gives old mid new ls ms h k = record {
  run = ls ++ k.run;
  more = k.more;
  split = rw k.split (sym (append_assoc ls k.run k.more));
  answers = h.answers ++ k.answers;
  last = k.last;
  runs = rw (answered_append ls k.run, append_assoc h.answers k.answers) (runs_then gives old.state mid.state new.state (answered_lines ls) (answered_lines k.run) h.answers (k.answers ++ k.last ∷ []) h.runs k.runs);
  here = k.here;
  wrote = rw (flat_map-append reply_line h.answers k.answers) (appends_then old.out.bytes mid.out.bytes k.here _ _ h.wrote k.wrote);
  part = k.part;
}

-- a run stops before further lines
front_longer : {S : Type 0} (gives : S → List Word → Answer → S → Type 0) (old new : Point S) (ls ms : List (List ℕ)) → RanFront gives old new ls → RanFront gives old new (ls ++ ms)
front_longer gives old new ls ms h = record {
  run = h.run;
  line = h.line;
  more = h.more ++ ms;
  split = rw h.split (append_assoc h.run (h.line ∷ h.more) ms);
  ran = h.ran;
}

pub unwritten_longer : {S : Type 0} (gives : S → List Word → Answer → S → Type 0) (old new : Point S) (ls ms : List (List ℕ)) → RanUnwritten gives old new ls → RanUnwritten gives old new (ls ++ ms)
unwritten_longer gives old new ls ms h = record {
  run = h.run;
  more = h.more ++ ms;
  split = rw h.split (append_assoc h.run h.more ms);
  answers = h.answers;
  last = h.last;
  runs = h.runs;
  here = h.here;
  wrote = h.wrote;
  part = h.part;
}

pub appends_self : (a : Option (List ℕ)) → Appends a a []
appends_self None = tt
appends_self (Some xs) = sym (append-nil xs)

pub ran_none : {S : Type 0} (gives : S → List Word → Answer → S → Type 0) (here : Point S) → Ran gives here here []
ran_none gives here = record { answers = []; runs = refl; wrote = appends_self here.out.bytes }

-- a line that is answered, and one that isn't
answered_one : (line : List ℕ) → is_readable line && is_silent line ≡ false → answered_lines (line ∷ []) ≡ line ∷ []
answered_one line e = rw e refl

answered_silent : (line : List ℕ) → is_readable line && is_silent line ≡ true → answered_lines (line ∷ []) ≡ []
answered_silent line e = rw e refl

-- a line was run, and what it was answered was written
pub ran_line : {S : Type 0} (gives : S → List Word → Answer → S → Type 0) (old new : Point S) (line : List ℕ) → RanLine gives old new line (Ok tt) → Ran gives old new (line ∷ [])
ran_line gives old new line (inl h) = record { answers = []; runs = rw (answered_silent line h.0) h.2; wrote = h.3 }
ran_line gives old new line (inr h) = record {
  answers = h.1.0 ∷ [];
  runs = rw (answered_one line h.0) (new.state, h.1.1, refl);
  wrote = rw (append-nil (reply_line h.1.0)) h.1.2;
}

-- a line was run, and what it was answered could not be written
pub unwritten_line : {S : Type 0} (gives : S → List Word → Answer → S → Type 0) (old new : Point S) (line : List ℕ) (e : Fault) → RanLine gives old new line (Err e) → RanUnwritten gives old new (line ∷ [])
unwritten_line gives old new line e (inl h) = let bad : ⊥ = cc in absurd bad
unwritten_line gives old new line e (inr h) = record {
  run = line ∷ [];
  more = [];
  split = refl;
  answers = [];
  last = h.1.0;
  runs = rw (answered_one line h.0) (new.state, h.1.1, refl);
  here = old.out.bytes;
  wrote = appends_self old.out.bytes;
  part = h.1.2;
}

-- all lines that can't be read are answered alike
unreadable_gives : {S : Type 0} (gives : S → List Word → Answer → S → Type 0) (old new : S) (l m : List ℕ) (answer : Answer) → is_readable l ≡ false → is_readable m ≡ false → LineGives gives old l answer new → LineGives gives old m answer new
unreadable_gives gives old new l m answer e f (inl h) = absurd (false≢true (sym e ∙ h.0))
unreadable_gives gives old new l m answer e f (inr (inl h)) = inr (inl (inl f, h.1, h.2))
unreadable_gives gives old new l m answer e f (inr (inr h)) = absurd (false≢true (sym e ∙ h.0))

pub unreadable_line : {S : Type 0} (gives : S → List Word → Answer → S → Type 0) (old new : Point S) (l m : List ℕ) (r : Result (Unit {0}) Fault) → is_readable l ≡ false → is_readable m ≡ false → RanLine gives old new l r → RanLine gives old new m r
unreadable_line gives old new l m r e f (inl h) = absurd (false≢true (ap (λ t. t && is_silent l) (sym e) ∙ h.0))
unreadable_line gives old new l m r e f (inr h) = inr (ap (λ t. t && is_silent m) f, (h.1.0, unreadable_gives gives old.state new.state l m h.1.0 e f h.1.1, h.1.2))

-- a line that is too long can't be read, whether or not it loses its last byte
too_long : (line : List ℕ) → MOST_LINE_BYTES < length line → is_readable line ≡ false
too_long line h = let e : nat_le (length line) MOST_LINE_BYTES ≡ false = grind (arith, nat_tests) in ap (λ t. t && is_utf8 line) e

length_without : (line : List ℕ) → length line ≤ length (without_return line) + 1
length_without [] = omega arith
length_without (c ∷ []) = elim (c == 13) as (λ t. 1 ≤ length (cond t [] (c ∷ [])) + 1) [ true ↦ omega arith | false ↦ omega arith ]
length_without (c ∷ d ∷ line) = let h = length_without (d ∷ line) in omega arith

kept_length : (line : List ℕ) → MOST_KEPT_BYTES < length line → length (kept_bytes line) ≡ MOST_KEPT_BYTES
kept_length line h = omega (arith, length-take MOST_KEPT_BYTES line)

-- a line is answered by what is kept of it
pub last_kept : {S : Type 0} (gives : S → List Word → Answer → S → Type 0) (old new : Point S) (line : List ℕ) (r : Result (Unit {0}) Fault) → RanLine gives old new (kept_bytes line) r → RanLine gives old new line r
last_kept gives old new line r h = elim (cases_lt MOST_KEPT_BYTES (length line)) [
  | inl long ↦ let e = kept_length line long in unreadable_line gives old new (kept_bytes line) line r (too_long (kept_bytes line) (omega arith)) (too_long line (omega arith)) h
  | inr short ↦ subst (λ l. RanLine gives old new l r) (take_all MOST_KEPT_BYTES line short) h
]

pub line_kept : {S : Type 0} (gives : S → List Word → Answer → S → Type 0) (old new : Point S) (line : List ℕ) (r : Result (Unit {0}) Fault) → RanLine gives old new (without_return (kept_bytes line)) r → RanLine gives old new (without_return line) r
line_kept gives old new line r h = elim (cases_lt MOST_KEPT_BYTES (length line)) [
  | inl long ↦
      let e = kept_length line long in
      unreadable_line gives old new (without_return (kept_bytes line)) (without_return line) r
      (too_long (without_return (kept_bytes line)) (omega (arith, length_without (kept_bytes line)))) (too_long (without_return line) (omega (arith, length_without line))) h
  | inr short ↦ subst (λ l. RanLine gives old new (without_return l) r) (take_all MOST_KEPT_BYTES line short) h
]

-- a byte more of a line, of which a front is kept
take_longer : (n : ℕ) (xs ys : List ℕ) → take n (take n xs ++ ys) ≡ take n (xs ++ ys)
take_longer zero xs ys = refl
take_longer (suc n) [] ys = refl
take_longer (suc n) (x ∷ xs) ys = ap (λ l. x ∷ l) (take_longer n xs ys)

pub kept_longer : (xs ys : List ℕ) → kept_bytes (kept_bytes xs ++ ys) ≡ kept_bytes (xs ++ ys)
kept_longer xs ys = take_longer MOST_KEPT_BYTES xs ys

-- as many bytes more as there is room for
pub kept_more : (old bytes : List ℕ) (n : ℕ) → length old ≤ MOST_KEPT_BYTES → n ≡ min (MOST_KEPT_BYTES - length old) (length bytes) → old ++ take n bytes ≡ kept_bytes (old ++ bytes)
kept_more old bytes n h e =
    let all : length old + (MOST_KEPT_BYTES - length old) ≡ MOST_KEPT_BYTES = omega arith in
    ap (λ v. old ++ v) (ap (λ k. take k bytes) e ∙ take_min (MOST_KEPT_BYTES - length old) bytes)
    ∙ sym (take-append-add old bytes (MOST_KEPT_BYTES - length old)) ∙ ap (λ k. take k (old ++ bytes)) all

pub kept_short : (line : List ℕ) → length (kept_bytes line) ≤ MOST_KEPT_BYTES
kept_short line = omega (arith, length-take MOST_KEPT_BYTES line)

-- the last line of a script, by what is kept of it
take_none : (n : ℕ) (line : List ℕ) → 0 < n → take n line ≡ [] → line ≡ []
take_none zero line h e = absurd (omega arith)
take_none (suc n) [] h e = refl
take_none (suc n) (c ∷ line) h e = cc

pub last_none : (rest : List ℕ) → kept_bytes rest ≡ [] → rest_line rest ≡ []
last_none rest e = ap rest_line (take_none MOST_KEPT_BYTES rest (omega arith) e)

pub last_some : (rest : List ℕ) → kept_bytes rest ≢ [] → rest_line rest ≡ rest ∷ []
last_some [] n = absurd (n refl)
last_some (c ∷ rest) n = refl

-- lines were run after others
pub lines_then : {S : Type 0} (gives : S → List Word → Answer → S → Type 0) (old mid new : Point S) (done lines all : List (List ℕ)) (r : Result (Unit {0}) Fault)
    → Ran gives old mid done → mid.out.failures ≡ old.out.failures → RanLines gives mid new lines all r → RanLines gives old new (done ++ lines) (done ++ all) r
lines_then gives old mid new done lines all (Ok x) h same k = (ran_then gives old mid new done lines h k.0, k.1 ∙ same)
lines_then gives old mid new done lines all (Err x) h same (inl k) = inl (k.0, front_then gives old mid new done all h k.1, k.2 ∙ same)
lines_then gives old mid new done lines all (Err x) h same (inr k) = inr (k.0, unwritten_then gives old mid new done lines h k.1, k.2 ∙ ap (λ m. m + 1) same)

-- a run stops before further lines
lines_longer : {S : Type 0} (gives : S → List Word → Answer → S → Type 0) (old new : Point S) (lines all more others : List (List ℕ)) (fault : Fault)
    → RanLines gives old new lines all (Err fault) → RanLines gives old new (lines ++ more) (all ++ others) (Err fault)
lines_longer gives old new lines all more others fault (inl k) = inl (k.0, front_longer gives old new all others k.1, k.2)
lines_longer gives old new lines all more others fault (inr k) = inr (k.0, unwritten_longer gives old new lines more k.1, k.2)

-- one line was run
pub one_line : {S : Type 0} (gives : S → List Word → Answer → S → Type 0) (old new : Point S) (line : List ℕ) (r : Result (Unit {0}) Fault)
    → RanLine gives old new line r → IfErr r (λ fault. fault ≡ WriteFault) → new.out.failures ≡ old.out.failures + failures_of r → RanLines gives old new (line ∷ []) (line ∷ []) r
one_line gives old new line (Ok x) h w n = (ran_line gives old new line h, omega arith)
one_line gives old new line (Err x) h w n = inr (w, unwritten_line gives old new line x h, n)

-- it could not be stored
pub unstored_line : {S : Type 0} (gives : S → List Word → Answer → S → Type 0) (here : Point S) (line : List ℕ) (fault : Fault) → fault ≡ NoMemory → RanLines gives here here (line ∷ []) (line ∷ []) (Err fault)
unstored_line gives here line fault is = inl (is, record { run = []; line = line; more = []; split = refl; ran = ran_none gives here }, refl)

-- it was run as it came, since nothing of it was kept before
pub whole_line : {S : Type 0} (gives : S → List Word → Answer → S → Type 0) (old new : Point S) (front bytes pending line : List ℕ) (r : Result (Unit {0}) Fault)
    → pending ≡ kept_bytes front → pending ≡ [] → line ≡ without_return bytes → RanLine gives old new line r → IfErr r (λ fault. fault ≡ WriteFault) → new.out.failures ≡ old.out.failures + failures_of r
    → RanLines gives old new (without_return (front ++ bytes) ∷ []) (without_return (front ++ bytes) ∷ []) r
whole_line gives old new front bytes pending line r is none e h w n =
    let blank : front ≡ [] = take_none MOST_KEPT_BYTES front (omega arith) (sym is ∙ none) in
    let same : line ≡ without_return (front ++ bytes) = e ∙ ap (λ v. without_return (v ++ bytes)) (sym blank) in
    one_line gives old new (without_return (front ++ bytes)) r (subst (λ l. RanLine gives old new l r) same h) w n

-- it was run as what is kept of it
pub kept_line : {S : Type 0} (gives : S → List Word → Answer → S → Type 0) (old new : Point S) (front bytes before pending line : List ℕ) (r : Result (Unit {0}) Fault)
    → before ≡ kept_bytes front → pending ≡ kept_bytes (before ++ bytes) → line ≡ without_return pending → RanLine gives old new line r → IfErr r (λ fault. fault ≡ WriteFault) → new.out.failures ≡ old.out.failures + failures_of r
    → RanLines gives old new (without_return (front ++ bytes) ∷ []) (without_return (front ++ bytes) ∷ []) r
kept_line gives old new front bytes before pending line r is k e h w n =
    let all : pending ≡ kept_bytes (front ++ bytes) = k ∙ ap (λ v. kept_bytes (v ++ bytes)) is ∙ kept_longer front bytes in
    one_line gives old new (without_return (front ++ bytes)) r (line_kept gives old new (front ++ bytes) r (subst (λ l. RanLine gives old new l r) (e ∙ ap without_return all) h)) w n

-- a byte of a line could not be stored: a line begins after those that were run
lines_some : (rest : List ℕ) → rest ≢ [] → (line : List ℕ) × (more : List (List ℕ)) × (lines_of rest ≡ line ∷ more)
lines_some rest some = go (split_lines rest) refl
  where
    seen : List (List ℕ) × List ℕ → List (List ℕ)
    seen p = map without_return p.0 ++ rest_line p.1

    go : (p : List (List ℕ) × List ℕ) → split_lines rest ≡ p → (line : List ℕ) × (more : List (List ℕ)) × (lines_of rest ≡ line ∷ more)
    go ([], []) e = absurd (some (cut_empty rest e))
    go ([], c ∷ left) e = (c ∷ left, [], ap seen e)
    go (l ∷ lines, left) e = (without_return l, map without_return lines ++ rest_line left, ap seen e)

pub lines_append : (xs ys : List ℕ) → lines_of (xs ++ ys) ≡ complete_of xs ++ lines_of (rest_of xs ++ ys)
lines_append xs ys =
    ap (λ v. v ++ rest_line (rest_of (xs ++ ys))) (complete_append xs ys) ∙ append_assoc (complete_of xs) (complete_of (rest_of xs ++ ys)) (rest_line (rest_of (xs ++ ys)))
    ∙ ap (λ v. complete_of xs ++ (complete_of (rest_of xs ++ ys) ++ rest_line v)) (rest_append xs ys)

nothing_before : (xs ys : List ℕ) → ys ≢ [] → xs ++ ys ≢ []
nothing_before [] ys some e = some e
nothing_before (x ∷ xs) ys some e = cc

pub front_unstored : {S : Type 0} (gives : S → List Word → Answer → S → Type 0) (old new : Point S) (xs all more : List ℕ) → Ran gives old new (complete_of xs) → all ≡ xs ++ more → more ≢ [] → RanFront gives old new (lines_of all)
front_unstored gives old new xs all more h g some =
    let left = lines_some (rest_of xs ++ more) (nothing_before (rest_of xs) more some) in
    record {
      run = complete_of xs;
      line = left.0;
      more = left.1;
      split = ap lines_of g ∙ lines_append xs more ∙ ap (λ v. complete_of xs ++ v) left.2;
      ran = h;
    }

pub drop_some : (xs : List ℕ) (i : ℕ) → i < length xs → drop i xs ≢ []
drop_some xs i h e = omega (arith, length-drop i xs, ap length e)

-- the bytes of a piece up to a place
pub bytes_more : (p xs : List ℕ) (i : ℕ) → i < length xs → p ++ take (i + 1) xs ≡ (p ++ take i xs) ++ get_or xs i 0 ∷ []
bytes_more p xs i h = ap (λ v. p ++ v) (take_more xs i 0 h) ∙ sym (append_assoc p (take i xs) (get_or xs i 0 ∷ []))

pub bytes_newline : (p xs : List ℕ) (i : ℕ) → i < length xs → get_or xs i 0 ≡ 10 → p ++ take (i + 1) xs ≡ (p ++ take i xs) ++ 10 ∷ []
bytes_newline p xs i h e = bytes_more p xs i h ∙ ap (λ b. (p ++ take i xs) ++ b ∷ []) e

pub bytes_all : (p xs : List ℕ) (n : ℕ) → p ++ xs ≡ (p ++ take n xs) ++ drop n xs
bytes_all p xs n = ap (λ v. p ++ v) (sym (take-append-drop n xs)) ∙ sym (append_assoc p (take n xs) (drop n xs))

-- how many bytes of a piece come from a place on before the next newline
abbrev pub line_at : List ℕ → ℕ → ℕ
line_at xs i = prefix_len is_inner (drop i xs)

pub line_counted : (xs : List ℕ) (i n : ℕ) → n ≡ prefix_len is_inner (take (length xs - i) (drop i xs)) → n ≡ line_at xs i
line_counted xs i n e = e ∙ ap (prefix_len is_inner) (take_rest xs i)

pub line_within : (xs : List ℕ) (i n : ℕ) → n ≡ line_at xs i → i ≤ length xs → i + n ≤ length xs
line_within xs i n e h = let l = prefix_len-le-length is_inner (drop i xs) in omega (arith, e, l, length-drop i xs, h)

newline_is : (c : ℕ) → is_inner c ≡ false → c ≡ 10
newline_is c e = grind (arith, nat_tests)

pub newline_at : (xs : List ℕ) (i n : ℕ) → n ≡ line_at xs i → i + n < length xs → get_or xs (i + n) 0 ≡ 10
newline_at xs i n e h =
    let s : line_at xs i < length (drop i xs) = omega (arith, e, length-drop i xs) in
    ap (λ k. get_or xs (i + k) 0) e ∙ sym (get_or-drop i xs (line_at xs i) 0) ∙ newline_is _ (prefix_len_stops is_inner (drop i xs) 0 s)

-- they complete no line, and are kept behind what was kept
bytes_front : (p xs : List ℕ) (i n : ℕ) → n ≡ line_at xs i → p ++ take (i + n) xs ≡ (p ++ take i xs) ++ take (line_at xs i) (drop i xs)
bytes_front p xs i n e = ap (λ k. p ++ take (i + k) xs) e ∙ ap (λ v. p ++ v) (take-add i (line_at xs i) xs) ∙ sym (append_assoc p (take i xs) (take (line_at xs i) (drop i xs)))

pub ran_front : {S : Type 0} (gives : S → List Word → Answer → S → Type 0) (old new : Point S) (p xs : List ℕ) (i n : ℕ) → n ≡ line_at xs i → Ran gives old new (complete_of (p ++ take i xs)) → Ran gives old new (complete_of (p ++ take (i + n) xs))
ran_front gives old new p xs i n e h = rw (bytes_front p xs i n e, complete_front (p ++ take i xs) (drop i xs)) h

pub kept_front : (old new p xs : List ℕ) (i n : ℕ) → n ≡ line_at xs i → new ≡ kept_bytes (old ++ take (i + n - i) (drop i xs)) → old ≡ kept_bytes (rest_of (p ++ take i xs)) → new ≡ kept_bytes (rest_of (p ++ take (i + n) xs))
kept_front old new p xs i n e h k =
    let count : i + n - i ≡ line_at xs i = omega (arith, e) in
    let front = take (line_at xs i) (drop i xs) in
    let before = rest_of (p ++ take i xs) in
    h ∙ ap (λ m. kept_bytes (old ++ take m (drop i xs))) count ∙ ap (λ v. kept_bytes (v ++ front)) k ∙ kept_longer before front
    ∙ ap kept_bytes (sym (ap rest_of (bytes_front p xs i n e) ∙ rest_front (p ++ take i xs) (drop i xs)))

-- a newline completes the line that goes on with them
pub complete_line : (p xs : List ℕ) (i n : ℕ) → n ≡ line_at xs i → i + n < length xs
    → complete_of (p ++ take (i + n + 1) xs) ≡ complete_of (p ++ take i xs) ++ without_return (rest_of (p ++ take i xs) ++ take (i + n - i) (drop i xs)) ∷ []
complete_line p xs i n e more =
    let count : i + n - i ≡ line_at xs i = omega (arith, e) in
    let before = p ++ take i xs in
    let left = drop i xs in
    let front = take (line_at xs i) left in
    ap complete_of (bytes_newline p xs (i + n) more (newline_at xs i n e more)) ∙ complete_newline (p ++ take (i + n) xs)
    ∙ ap (λ v. complete_of v ++ without_return (rest_of v) ∷ []) (bytes_front p xs i n e)
    ∙ ap (λ v. v ++ without_return (rest_of (before ++ front)) ∷ []) (complete_front before left)
    ∙ ap (λ v. complete_of before ++ without_return v ∷ []) (rest_front before left)
    ∙ ap (λ m. complete_of before ++ without_return (rest_of before ++ take m left) ∷ []) (sym count)

pub ran_more : {S : Type 0} (gives : S → List Word → Answer → S → Type 0) (old mid new : Point S) (p xs : List ℕ) (i n : ℕ) → n ≡ line_at xs i → i + n < length xs
    → Ran gives old mid (complete_of (p ++ take i xs)) → Ran gives mid new (without_return (rest_of (p ++ take i xs) ++ take (i + n - i) (drop i xs)) ∷ [])
    → Ran gives old new (complete_of (p ++ take (i + n + 1) xs))
ran_more gives old mid new p xs i n e more h k =
    subst (λ v. Ran gives old new v) (sym (complete_line p xs i n e more))
    (ran_then gives old mid new (complete_of (p ++ take i xs)) (without_return (rest_of (p ++ take i xs) ++ take (i + n - i) (drop i xs)) ∷ []) h k)

pub stopped_lines : {S : Type 0} (gives : S → List Word → Answer → S → Type 0) (old mid new : Point S) (p xs : List ℕ) (i n : ℕ) (fault : Fault) → n ≡ line_at xs i → i + n < length xs
    → Ran gives old mid (complete_of (p ++ take i xs)) → mid.out.failures ≡ old.out.failures
    → (let line = without_return (rest_of (p ++ take i xs) ++ take (i + n - i) (drop i xs)) in RanLines gives mid new (line ∷ []) (line ∷ []) (Err fault))
    → RanLines gives old new (complete_of (p ++ xs)) (lines_of (p ++ xs)) (Err fault)
stopped_lines gives old mid new p xs i n fault at more h same k =
    let here = complete_line p xs i n at more in
    let begun = p ++ take (i + n + 1) xs in
    let left = drop (i + n + 1) xs in
    let done = complete_of (p ++ take i xs) in
    let line = without_return (rest_of (p ++ take i xs) ++ take (i + n - i) (drop i xs)) in
    let next = complete_of (rest_of begun ++ left) in
    let others = lines_of (rest_of begun ++ left) in
    let ran = lines_longer gives old new (done ++ line ∷ []) (done ++ line ∷ []) next others fault (lines_then gives old mid new done (line ∷ []) (line ∷ []) (Err fault) h same k) in
    let complete : complete_of (p ++ xs) ≡ (done ++ line ∷ []) ++ next = ap complete_of (bytes_all p xs (i + n + 1)) ∙ complete_append begun left ∙ ap (λ v. v ++ next) here in
    let lines : lines_of (p ++ xs) ≡ (done ++ line ∷ []) ++ others = ap lines_of (bytes_all p xs (i + n + 1)) ∙ lines_append begun left ∙ ap (λ v. v ++ others) here in
    subst (λ v. RanLines gives old new v (lines_of (p ++ xs)) (Err fault)) (sym complete) (subst (λ v. RanLines gives old new ((done ++ line ∷ []) ++ next) v (Err fault)) (sym lines) ran)

-- the piece ends, and what is left of it is kept
pub kept_lines : {S : Type 0} (gives : S → List Word → Answer → S → Type 0) (old new : Point S) (p xs : List ℕ) (i n : ℕ) (r : Result (Unit {0}) Fault) → n ≡ line_at xs i → i + n ≡ length xs → i < length xs
    → IfErr r (λ fault. fault ≡ NoMemory) → Ran gives old new (complete_of (p ++ take i xs)) → new.out.failures ≡ old.out.failures → RanLines gives old new (complete_of (p ++ xs)) (lines_of (p ++ xs)) r
kept_lines gives old new p xs i n (Ok x) e all some w h same =
    (subst (λ v. Ran gives old new (complete_of (p ++ v))) (take_all (i + n) xs (omega (arith, all))) (ran_front gives old new p xs i n e h), same)
kept_lines gives old new p xs i n (Err x) e all some w h same = inl (w, front_unstored gives old new (p ++ take i xs) (p ++ xs) (drop i xs) h (bytes_all p xs i) (drop_some xs i some), same)

pub kept_rest : (old new p xs : List ℕ) (i n : ℕ) (r : Result (Unit {0}) Fault) → n ≡ line_at xs i → i + n ≡ length xs → OnOk r (new ≡ kept_bytes (old ++ take (i + n - i) (drop i xs)))
    → old ≡ kept_bytes (rest_of (p ++ take i xs)) → OnOk r (new ≡ kept_bytes (rest_of (p ++ xs)))
kept_rest old new p xs i n (Ok x) e all h k = kept_front old new p xs i n e h k ∙ ap (λ v. kept_bytes (rest_of (p ++ v))) (take_all (i + n) xs (omega (arith, all)))
kept_rest old new p xs i n (Err x) e all h k = tt

-- nothing is kept after a newline
pub kept_newline : (xs ys : List ℕ) → ys ≡ xs ++ 10 ∷ [] → [] ≡ kept_bytes (rest_of ys)
kept_newline xs ys f = ap kept_bytes (sym (ap rest_of f ∙ rest_newline xs))

-- nothing was run of a script without a newline
pub ran_start : {S : Type 0} (gives : S → List Word → Answer → S → Type 0) (here : Point S) (rest : List ℕ) → complete_of rest ≡ [] → Ran gives here here (complete_of rest)
ran_start gives here rest e = rw e (ran_none gives here)

-- whether a line can be read
pub readable_text : (line : List ℕ) → length line ≤ MOST_LINE_BYTES → IsUtf8 line → is_readable line ≡ true
readable_text line h u = let e : nat_le (length line) MOST_LINE_BYTES ≡ true = grind (arith, nat_tests) in ap (λ t. t && is_utf8 line) e ∙ is_utf8-from_IsUtf8 line u

pub unreadable_text : (line : List ℕ) → (IsUtf8 line → ⊥) → is_readable line ≡ false
unreadable_text line n = go (nat_le (length line) MOST_LINE_BYTES) (is_utf8 line) (λ e. n (IsUtf8-from_is_utf8 line e))
  where
    go : (a b : Bool) → (b ≡ true → ⊥) → a && b ≡ false
    go true true h = absurd (h refl)
    go true false h = refl
    go false b h = refl

-- the last line of a script was run
pub ran_last : {S : Type 0} (gives : S → List Word → Answer → S → Type 0) (old new : Point S) (rest : List ℕ) (r : Result (Unit {0}) Fault)
    → RanLine gives old new (kept_bytes rest) r → kept_bytes rest ≢ [] → IfErr r (λ fault. fault ≡ WriteFault) → new.out.failures ≡ old.out.failures + failures_of r → RanLines gives old new (rest_line rest) (rest_line rest) r
ran_last gives old new rest r h n w e = rw (last_some rest n) (one_line gives old new rest r (last_kept gives old new rest r h) w e)

pub length_none : (bytes : List ℕ) → length bytes ≡ 0 → bytes ≡ []
length_none [] e = refl
length_none (c ∷ bytes) e = absurd (omega arith)

-- what holds anyway holds of a success
pub on_any : (r : Result (Unit {0}) Fault) (P : Type 0) → P → OnOk r P
on_any (Ok x) P h = h
on_any (Err x) P h = tt
