-- What stands between quotes.
use Rattle.std.proofs.Common.{◌≡◌, ◌≢◌, ◌⊎◌, inl, inr, ℕ, ◌+◌, ◌-◌, ◌<◌, ◌≤◌, ◌==◌, ◌||◌, ◌∙◌, Bool, cond, true, false, not, true≢false, refl, sym, ap, subst, arith, List, [], ◌∷◌, ◌++◌, length, take, drop, get_or, append_assoc, append-nil, Option, Some, None, codes}
use Rattle.std.specs.List.{prefix_len}
use Rattle.std.specs.Str.{IsUtf8, IsCharBoundary}
use Rattle.std.proofs.lemmas.Bool.{cases_lt, eqb-true, eqb-false, ne_eqb}
use Rattle.std.proofs.lemmas.Str.{IsCharBoundary-before_ascii, IsCharBoundary-after_ascii}
use Rattle.std.proofs.lemmas.List.{take_more, drop_more, drop_all, length-drop, get_or-drop}
use Rattle.std.proofs.Math.Seq.{take-add}
use Rattle.std.proofs.lemmas.List.Sums.{prefix_len-le-length, prefix_len_stops}
use Rattle.rt_stamps.specs.Words.{Word}
use Rattle.rt_words.specs.Spelling.{escape_of, StandsFor, IsEscaped, IsQuoted}
use Rattle.rt_words.specs.FirstWord.{BeginsWith, IsQuotedFront, HasNoQuotedFront, is_plain}
use Rattle.rt_words.proofs.Fronts.{heads, one_more, whole_twice}

-- ---- one character

-- the character that the letter of an escape stands for
abbrev pub letter_char : ℕ → Option ℕ
letter_char l = cond (l == 110) (Some 10) (cond (l == 116) (Some 9) (cond (l == 114) (Some 13) (cond (l == 92) (Some 92) (cond (l == 34) (Some 34) None))))

-- a character as it is, or a backslash and the letter of its escape
abbrev pub Stands : List ℕ → ℕ → Type 0
Stands part c = ((part ≡ c ∷ []) × (c ≢ 34) × (c ≢ 92)) ⊎ ((letter : ℕ) × (part ≡ 92 ∷ letter ∷ []) × (letter_char letter ≡ Some c))

escape_by : (a b d e f : Bool) (c : ℕ) → (c == 10) ≡ a → (c == 9) ≡ b → (c == 13) ≡ d → (c == 92) ≡ e → (c == 34) ≡ f
    → Stands (cond a (codes "\\n") (cond b (codes "\\t") (cond d (codes "\\r") (cond e (codes "\\\\") (cond f (codes "\\\"") (c ∷ [])))))) c
escape_by true b d e f c p q r s t = inr (110, refl, ap Some (sym (eqb-true c 10 p)))
escape_by false true d e f c p q r s t = inr (116, refl, ap Some (sym (eqb-true c 9 q)))
escape_by false false true e f c p q r s t = inr (114, refl, ap Some (sym (eqb-true c 13 r)))
escape_by false false false true f c p q r s t = inr (92, refl, ap Some (sym (eqb-true c 92 s)))
escape_by false false false false true c p q r s t = inr (34, refl, ap Some (sym (eqb-true c 34 t)))
escape_by false false false false false c p q r s t = inl (refl, eqb-false c 34 t, eqb-false c 92 s)

pub escape_stands : (c : ℕ) → Stands (escape_of c) c
escape_stands c = escape_by (c == 10) (c == 9) (c == 13) (c == 92) (c == 34) c refl refl refl refl refl

pub stands : (part : List ℕ) (c : ℕ) → StandsFor part c → Stands part c
stands part c (inl e) = subst (λ p. Stands p c) (sym e) (escape_stands c)
stands part c (inr h) = inl h

some_same : (c d : ℕ) → Some c ≡ Some d → c ≡ d
some_same c d e = cc

-- the part at one place stands for one character
part_once : (p q x y : List ℕ) (c d : ℕ) → Stands p c → Stands q d → p ++ x ≡ q ++ y → (p ≡ q) × (c ≡ d) × (x ≡ y)
part_once p q x y c d (inl h) (inl k) e =
    let s = heads c d x y (sym (ap (λ (v : List ℕ). v ++ x) h.0) ∙ e ∙ ap (λ (v : List ℕ). v ++ y) k.0) in
    (h.0 ∙ ap (λ z. z ∷ []) s.0 ∙ sym k.0, s.0, s.1)
part_once p q x y c d (inl h) (inr k) e =
    absurd (h.2 (heads c 92 x (k.0 ∷ y) (sym (ap (λ (v : List ℕ). v ++ x) h.0) ∙ e ∙ ap (λ (v : List ℕ). v ++ y) k.1)).0)
part_once p q x y c d (inr h) (inl k) e =
    absurd (k.2 (sym (heads 92 d (h.0 ∷ x) y (sym (ap (λ (v : List ℕ). v ++ x) h.1) ∙ e ∙ ap (λ (v : List ℕ). v ++ y) k.0)).0))
part_once p q x y c d (inr h) (inr k) e =
    let s = heads 92 92 (h.0 ∷ x) (k.0 ∷ y) (sym (ap (λ (v : List ℕ). v ++ x) h.1) ∙ e ∙ ap (λ (v : List ℕ). v ++ y) k.1) in
    let t = heads h.0 k.0 x y s.1 in
    (h.1 ∙ ap (λ z. 92 ∷ z ∷ []) t.0 ∙ sym k.1, some_same c d (sym h.2 ∙ ap letter_char t.0 ∙ k.2), t.1)

not_quote : (p x r : List ℕ) (c : ℕ) → Stands p c → p ++ x ≡ 34 ∷ r → ⊥
not_quote p x r c (inl h) e = h.1 (heads c 34 x r (sym (ap (λ (v : List ℕ). v ++ x) h.0) ∙ e)).0
not_quote p x r c (inr h) e = eqb-false 92 34 refl (heads 92 34 (h.0 ∷ x) r (sym (ap (λ (v : List ℕ). v ++ x) h.1) ∙ e)).0

-- a letter that is in no escape
letter_none : (l : ℕ) → l ≢ 110 → l ≢ 116 → l ≢ 114 → l ≢ 92 → l ≢ 34 → letter_char l ≡ None
letter_none l a b d e f = rw (ne_eqb l 110 a, ne_eqb l 116 b, ne_eqb l 114 d, ne_eqb l 92 e, ne_eqb l 34 f) refl

none_some : (o : Option ℕ) (c : ℕ) → o ≡ None → o ≡ Some c → ⊥
none_some o c e f = let g : None ≡ Some c = sym e ∙ f in cc

no_escape_by : (part : List ℕ) (l c : ℕ) → letter_char l ≡ None → Stands part c → part ≡ 92 ∷ l ∷ [] → ⊥
no_escape_by part l c n (inl h) e = let f : c ∷ [] ≡ 92 ∷ l ∷ [] = sym h.0 ∙ e in cc
no_escape_by part l c n (inr h) e =
    let s = heads h.0 l [] [] (heads 92 92 (h.0 ∷ []) (l ∷ []) (sym h.1 ∙ e)).1 in
    none_some (letter_char l) c n (sym (ap letter_char s.0) ∙ h.2)

pub no_escape : (l : ℕ) → l ≢ 110 → l ≢ 116 → l ≢ 114 → l ≢ 92 → l ≢ 34 → (c : ℕ) → escape_of c ≢ 92 ∷ l ∷ []
no_escape l a b d e f c h = no_escape_by (escape_of c) l c (letter_none l a b d e f) (escape_stands c) h

-- ---- texts

pub escaped_append : (a b : List ℕ) (v w : Word) → IsEscaped a v → IsEscaped b w → IsEscaped (a ++ b) (v ++ w)
escaped_append a b [] w h k = subst (λ (u : List ℕ). IsEscaped (u ++ b) w) (sym h) k
escaped_append a b (c ∷ v) w h k = (h.0, h.1 ++ b, ap (λ (u : List ℕ). u ++ b) h.2 ∙ append_assoc h.0 h.1 b, h.3, escaped_append h.1 b v w h.4 k)

escaped_one : (l c : ℕ) → escape_of c ≡ 92 ∷ l ∷ [] → IsEscaped (92 ∷ l ∷ []) (c ∷ [])
escaped_one l c e = (92 ∷ l ∷ [], [], refl, inl (sym e), refl)

plain_char : (c : ℕ) → is_plain c ≡ true → (c ≢ 34) × (c ≢ 92)
plain_char c h = by (c == 34) (c == 92) refl refl h
  where
    by : (a b : Bool) → (c == 34) ≡ a → (c == 92) ≡ b → not (a || b) ≡ true → (c ≢ 34) × (c ≢ 92)
    by false false p q h = (eqb-false c 34 p, eqb-false c 92 q)
    by true b p q h = absurd (true≢false (sym h))
    by false true p q h = absurd (true≢false (sym h))

plain_by : (b : Bool) (c : ℕ) (text : List ℕ) (n : ℕ) → is_plain c ≡ b → IsEscaped (take n text) (take n text) → IsEscaped (take (cond b (1 + n) 0) (c ∷ text)) (take (cond b (1 + n) 0) (c ∷ text))
plain_by true c text n e h = subst (λ k. IsEscaped (take k (c ∷ text)) (take k (c ∷ text))) (sym (one_more n)) (c ∷ [], take n text, refl, inr (refl, (plain_char c e).0, (plain_char c e).1), h)
plain_by false c text n e h = refl

-- plain characters stand for themselves
pub plain_escaped : (text : List ℕ) → IsEscaped (take (prefix_len is_plain text) text) (take (prefix_len is_plain text) text)
plain_escaped [] = refl
plain_escaped (c ∷ text) = plain_by (is_plain c) c text (prefix_len is_plain text) refl (plain_escaped text)

-- What is read within quotes is a front of what stands there, up to any quote that closes.
abbrev pub Past : List ℕ → List ℕ → List ℕ → List ℕ → Word → Word → Type 0
Past front rest text after v w = (more : List ℕ) × (tail : Word) × (rest ≡ more ++ 34 ∷ after) × IsEscaped more tail × (text ≡ front ++ more) × (w ≡ v ++ tail)

pub past : (front : List ℕ) (v : Word) (rest text after : List ℕ) (w : Word) → IsEscaped front v → IsEscaped text w → front ++ rest ≡ text ++ 34 ∷ after → Past front rest text after v w
past front [] rest text after w a b e = (text, w, sym (ap (λ (u : List ℕ). u ++ rest) a) ∙ e, b, sym (ap (λ (u : List ℕ). u ++ text) a), refl)
past front (c ∷ v) rest text after [] a b e =
    absurd (not_quote a.0 (a.1 ++ rest) after c (stands a.0 c a.3) (sym (append_assoc a.0 a.1 rest) ∙ sym (ap (λ (u : List ℕ). u ++ rest) a.2) ∙ e ∙ ap (λ (u : List ℕ). u ++ 34 ∷ after) b))
past front (c ∷ v) rest text after (d ∷ w) a b e =
    let o = part_once a.0 b.0 (a.1 ++ rest) (b.1 ++ 34 ∷ after) c d (stands a.0 c a.3) (stands b.0 d b.3)
    (sym (append_assoc a.0 a.1 rest) ∙ sym (ap (λ (u : List ℕ). u ++ rest) a.2) ∙ e ∙ ap (λ (u : List ℕ). u ++ 34 ∷ after) b.2 ∙ append_assoc b.0 b.1 (34 ∷ after)) in
    let k = past a.1 v rest b.1 after w a.4 b.4 o.2 in (
      k.0,
      k.1,
      k.2,
      k.3,
      b.2 ∙ ap (λ (u : List ℕ). u ++ b.1) (sym o.0) ∙ ap (λ (u : List ℕ). a.0 ++ u) k.4 ∙ sym (append_assoc a.0 a.1 k.0) ∙ sym (ap (λ (u : List ℕ). u ++ k.0) a.2),
      ap (λ z. z ∷ w) (sym o.1) ∙ ap (λ (u : List ℕ). c ∷ u) k.5,
    )

-- no word ends with a quote in what follows
abbrev pub StaysOpen : List ℕ → Type 0
StaysOpen rest = (more after : List ℕ) (tail : Word) → IsEscaped more tail → rest ≡ more ++ 34 ∷ after → ⊥

pub open_nothing : StaysOpen []
open_nothing [] after tail h e = let f : [] ≡ 34 ∷ after = e in cc
open_nothing (c ∷ more) after tail h e = let f : [] ≡ c ∷ (more ++ 34 ∷ after) = e in cc

-- what follows a backslash is no letter of an escape
open_by : (part x y : List ℕ) (c : ℕ) → Stands part c → ((l : ℕ) → part ≡ 92 ∷ l ∷ [] → (y' : List ℕ) → y ≡ l ∷ y' → ⊥) → 92 ∷ y ≡ part ++ x → ⊥
open_by part x y c (inl h) none e = h.2 (sym (heads 92 c y x (e ∙ ap (λ (v : List ℕ). v ++ x) h.0)).0)
open_by part x y c (inr h) none e = none h.0 h.1 x (heads 92 92 y (h.0 ∷ x) (e ∙ ap (λ (v : List ℕ). v ++ x) h.1)).1

open_backslash : (y : List ℕ) → ((c l : ℕ) (y' : List ℕ) → escape_of c ≡ 92 ∷ l ∷ [] → y ≡ l ∷ y' → ⊥) → StaysOpen (92 ∷ y)
open_backslash y none more after [] h e =
    eqb-false 92 34 refl (heads 92 34 y after (e ∙ ap (λ (u : List ℕ). u ++ 34 ∷ after) h)).0
open_backslash y none more after (c ∷ tail) h e = by h.3
  where
    split : 92 ∷ y ≡ h.0 ++ (h.1 ++ 34 ∷ after)
    split = e ∙ ap (λ (u : List ℕ). u ++ 34 ∷ after) h.2 ∙ append_assoc h.0 h.1 (34 ∷ after)

    by : StandsFor h.0 c → ⊥
    by (inl is) = open_by h.0 (h.1 ++ 34 ∷ after) y c (stands h.0 c h.3) (λ l p y' q. none c l y' (sym is ∙ p) q) split
    by (inr k) = k.2 (sym (heads 92 c y (h.1 ++ 34 ∷ after) (split ∙ ap (λ (u : List ℕ). u ++ (h.1 ++ 34 ∷ after)) k.0)).0)

pub open_end : StaysOpen (92 ∷ [])
open_end = open_backslash [] (λ c l y is e. let f : [] ≡ l ∷ y = e in cc)

pub open_letter : (l : ℕ) (rest : List ℕ) → ((c : ℕ) → escape_of c ≢ 92 ∷ l ∷ []) → StaysOpen (92 ∷ l ∷ rest)
open_letter l rest none = open_backslash (l ∷ rest) (λ c m y is e. none c (is ∙ ap (λ z. 92 ∷ z ∷ []) (sym (heads l m rest y e).0)))

-- ---- a quoted word at the front of a text

-- two quoted words at one place
pub quoted_once : (p q r s : List ℕ) (v w : Word) → IsQuoted p v → IsQuoted q w → p ++ r ≡ q ++ s → (p ≡ q) × (v ≡ w)
quoted_once p q r s v w h k e = by k1.1 k1.0 k1.2 k1.3 k1.4 k1.5
  where
    tails : h.0 ++ 34 ∷ r ≡ k.0 ++ 34 ∷ s
    tails = sym (append_assoc h.0 (34 ∷ []) r) ∙ (heads 34 34 ((h.0 ++ 34 ∷ []) ++ r) ((k.0 ++ 34 ∷ []) ++ s) (sym (ap (λ (u : List ℕ). u ++ r) h.1) ∙ e ∙ ap (λ (u : List ℕ). u ++ s) k.1)).1 ∙ append_assoc k.0 (34 ∷ []) s

    k1 : Past h.0 (34 ∷ r) k.0 s v w
    k1 = past h.0 v (34 ∷ r) k.0 s w h.2 k.2 tails

    by : (tail : Word) (more : List ℕ) → 34 ∷ r ≡ more ++ 34 ∷ s → IsEscaped more tail → k.0 ≡ h.0 ++ more → w ≡ v ++ tail → (p ≡ q) × (v ≡ w)
    by [] more a b t u =
        let same : h.0 ≡ k.0 = sym (append-nil h.0) ∙ ap (λ (z : List ℕ). h.0 ++ z) (sym b) ∙ sym t in
        (h.1 ∙ ap (λ (z : List ℕ). 34 ∷ (z ++ 34 ∷ [])) same ∙ sym k.1, sym (append-nil v) ∙ sym u)
    by (c ∷ tail) more a b t u =
        absurd (not_quote b.0 (b.1 ++ 34 ∷ s) r c (stands b.0 c b.3) (sym (append_assoc b.0 b.1 (34 ∷ s)) ∙ sym (ap (λ (z : List ℕ). z ++ 34 ∷ s) b.2) ∙ sym a))

-- A text was read within quotes up to a place: its first quote stands before, and what was read since is the word so far.
pub record QuotedTo (text : List ℕ) (place : ℕ) (word : Word) : Type 0 where
  pub boundary : IsCharBoundary text place
  pub before : List ℕ
  pub front : take place text ≡ 34 ∷ before
  pub escaped : IsEscaped before word

take_one : (text : List ℕ) → 0 < length text → take 1 text ≡ get_or text 0 0 ∷ []
take_one [] l = absurd (omega arith)
take_one (c ∷ text) l = refl

pub quote_opened : (text : List ℕ) → IsUtf8 text → BeginsWith text 34 → QuotedTo text 1 []
quote_opened text u (l, e) =
    record {
      boundary = IsCharBoundary-after_ascii text 0 u l (rw e (omega arith));
      before = [];
      front = take_one text l ∙ ap (λ c. c ∷ []) e;
      escaped = refl;
    }

not_plain : (c : ℕ) → is_plain c ≡ false → c < 128
not_plain c h = by (c == 34) (c == 92) refl refl h
  where
    by : (a b : Bool) → (c == 34) ≡ a → (c == 92) ≡ b → not (a || b) ≡ false → c < 128
    by false false p q h = absurd (true≢false h)
    by true b p q h = let e : c ≡ 34 = eqb-true c 34 p in omega arith
    by false true p q h = let e : c ≡ 92 = eqb-true c 92 q in omega arith

pub plain_within : (text : List ℕ) (i : ℕ) → i ≤ length text → i + prefix_len is_plain (drop i text) ≤ length text
plain_within text i l = omega (arith, prefix_len-le-length is_plain (drop i text), length-drop i text)

pub plain_boundary : (text : List ℕ) (i : ℕ) → i ≤ length text → IsCharBoundary text (i + prefix_len is_plain (drop i text))
plain_boundary text i l = (plain_within text i l, λ s. (IsCharBoundary-before_ascii text _ s (low s)).1 s)
  where
    low : i + prefix_len is_plain (drop i text) < length text → get_or text (i + prefix_len is_plain (drop i text)) 0 < 128
    low s =
        let t : prefix_len is_plain (drop i text) < length (drop i text) = omega (arith, length-drop i text) in
        not_plain _ (ap is_plain (sym (get_or-drop i text (prefix_len is_plain (drop i text)) 0)) ∙ prefix_len_stops is_plain (drop i text) 0 t)

-- Then a quote, a backslash or nothing follows.
pub record StoppedAt (text : List ℕ) (place : ℕ) (word : Word) : Type 0 where
  pub read : QuotedTo text place word
  pub next : place < length text → get_or text place 0 ≢ 34 → get_or text place 0 ≡ 92

quote_ran : (text : List ℕ) (i n : ℕ) (word : Word) → n ≡ prefix_len is_plain (drop i text) → QuotedTo text i word → QuotedTo text (i + n) (word ++ take n (drop i text))
quote_ran text i n word e q =
    record {
      boundary = rw e (plain_boundary text i q.boundary.0);
      before = q.before ++ take n (drop i text);
      front = take-add i n text ∙ ap (λ (u : List ℕ). u ++ take n (drop i text)) q.front;
      escaped = escaped_append q.before (take n (drop i text)) word (take n (drop i text)) q.escaped (rw e (plain_escaped (drop i text)));
    }

quote_or_backslash : (c : ℕ) → is_plain c ≡ false → c ≢ 34 → c ≡ 92
quote_or_backslash c h q = by (c == 34) (c == 92) refl refl h
  where
    by : (a b : Bool) → (c == 34) ≡ a → (c == 92) ≡ b → not (a || b) ≡ false → c ≡ 92
    by false false p r h = absurd (true≢false h)
    by true b p r h = absurd (q (eqb-true c 34 p))
    by false true p r h = eqb-true c 92 r

-- the characters up to the next quote or backslash were read
pub run_read : (text : List ℕ) (i n : ℕ) (word run new : Word) → n ≡ prefix_len is_plain (drop i text) → run ≡ take (i + n - i) (drop i text) → new ≡ word ++ run → QuotedTo text i word
    → StoppedAt text (i + n) new
run_read text i n word run new e r s q = record { read = read; next = λ l d. quote_or_backslash _ (stop l) d }
  where
    same : i + n - i ≡ n
    same = omega arith

    all : word ++ take n (drop i text) ≡ new
    all = ap (λ k. word ++ take k (drop i text)) (sym same) ∙ ap (λ (u : List ℕ). word ++ u) (sym r) ∙ sym s

    read : QuotedTo text (i + n) new
    read = subst (λ (u : List ℕ). QuotedTo text (i + n) u) all (quote_ran text i n word e q)

    stop : i + n < length text → is_plain (get_or text (i + n) 0) ≡ false
    stop l =
        let t : prefix_len is_plain (drop i text) < length (drop i text) = omega (arith, e, length-drop i text) in
        ap (λ k. is_plain (get_or text (i + k) 0)) e ∙ ap is_plain (sym (get_or-drop i text (prefix_len is_plain (drop i text)) 0)) ∙ prefix_len_stops is_plain (drop i text) 0 t

letter_ascii : (c l : ℕ) → escape_of c ≡ 92 ∷ l ∷ [] → l < 128
letter_ascii c l e = by (cases_lt l 128)
  where
    by : (l < 128) ⊎ (128 ≤ l) → l < 128
    by (inl h) = h
    by (inr h) = absurd (no_escape l (λ p. omega arith) (λ p. omega arith) (λ p. omega arith) (λ p. omega arith) (λ p. omega arith) c e)

-- a backslash and the letter of an escape were read
pub quote_escape : (text : List ℕ) (i l c : ℕ) (word : Word) → IsUtf8 text → i + 1 < length text → get_or text (i + 1) 0 ≡ l → escape_of c ≡ 92 ∷ l ∷ [] → get_or text i 0 ≢ 34
    → StoppedAt text i word → QuotedTo text (i + 2) (word ++ c ∷ [])
quote_escape text i l c word u s g e d stopped =
    record {
      boundary = subst (λ n. IsCharBoundary text n) two (IsCharBoundary-after_ascii text (i + 1) u s (rw g (letter_ascii c l e)));
      before = q.before ++ (92 ∷ l ∷ []);
      front = sym (ap (λ n. take n text) two) ∙ take_more text (i + 1) 0 s ∙ ap (λ (z : List ℕ). z ++ get_or text (i + 1) 0 ∷ []) (take_more text i 0 (omega arith) ∙ ap (λ (z : List ℕ). z ++ get_or text i 0 ∷ []) q.front)
          ∙ append_assoc (34 ∷ q.before) (get_or text i 0 ∷ []) (get_or text (i + 1) 0 ∷ []) ∙ ap (λ (z : List ℕ). (34 ∷ q.before) ++ z) (ap (λ z. z ∷ get_or text (i + 1) 0 ∷ []) b ∙ ap (λ z. 92 ∷ z ∷ []) g);
      escaped = escaped_append q.before (92 ∷ l ∷ []) word (c ∷ []) q.escaped (escaped_one l c e);
    }
  where
    two : i + 1 + 1 ≡ i + 2
    two = omega arith

    q : QuotedTo text i word
    q = stopped.read

    b : get_or text i 0 ≡ 92
    b = stopped.next (omega arith) d

-- the quote that closes was read
pub quote_closed : (text : List ℕ) (i : ℕ) (word : Word) → i < length text → get_or text i 0 ≡ 34 → QuotedTo text i word → IsQuotedFront text (i + 1) word
quote_closed text i word l e q =
    (omega arith, (q.before, take_more text i 0 l ∙ ap (λ (z : List ℕ). z ++ get_or text i 0 ∷ []) q.front ∙ ap (λ z. 34 ∷ q.before ++ z ∷ []) e, q.escaped))

-- no quote closes what follows
pub quote_unclosed : (text : List ℕ) (i : ℕ) (word : Word) → QuotedTo text i word → StaysOpen (drop i text) → HasNoQuotedFront text
quote_unclosed text i word q none len w k = none p.0 (drop len text) p.1 p.3 p.2
  where
    body : List ℕ
    body = k.1.0

    whole : (34 ∷ q.before) ++ drop i text ≡ (34 ∷ body ++ (34 ∷ [])) ++ drop len text
    whole = sym (ap (λ (z : List ℕ). z ++ drop i text) q.front) ∙ whole_twice text i len ∙ ap (λ (z : List ℕ). z ++ drop len text) k.1.1

    p : Past q.before (drop i text) body (drop len text) word w
    p = past q.before word (drop i text) body (drop len text) w q.escaped k.1.2
        ((heads 34 34 (q.before ++ drop i text) ((body ++ (34 ∷ [])) ++ drop len text) whole).1 ∙ append_assoc body (34 ∷ []) (drop len text))

-- at the end of the text
pub unclosed_end : (text : List ℕ) (i : ℕ) (word : Word) → length text ≤ i → QuotedTo text i word → HasNoQuotedFront text
unclosed_end text i word l q = quote_unclosed text i word q (subst StaysOpen (sym (drop_all i text l)) open_nothing)

-- at a backslash that ends the text, or at its end
pub unclosed_backslash : (text : List ℕ) (i : ℕ) (word : Word) → length text ≤ i + 1 → (i < length text → get_or text i 0 ≢ 34) → StoppedAt text i word → HasNoQuotedFront text
unclosed_backslash text i word l d q = by (cases_lt i (length text))
  where
    by : (i < length text) ⊎ (length text ≤ i) → HasNoQuotedFront text
    by (inl h) =
        let e : drop i text ≡ 92 ∷ [] = drop_more text i 0 h ∙ ap (λ z. z ∷ drop (i + 1) text) (q.next h (d h)) ∙ ap (λ (z : List ℕ). 92 ∷ z) (drop_all (i + 1) text l) in
        quote_unclosed text i word q.read (subst StaysOpen (sym e) open_end)
    by (inr h) = unclosed_end text i word h q.read

-- at a backslash before another letter
pub unclosed_letter : (text : List ℕ) (i l : ℕ) (word : Word) → i + 1 < length text → get_or text (i + 1) 0 ≡ l → ((c : ℕ) → escape_of c ≢ 92 ∷ l ∷ []) → get_or text i 0 ≢ 34 → StoppedAt text i word
    → HasNoQuotedFront text
unclosed_letter text i l word s g none d q =
    let h : i < length text = omega arith in
    let e : drop i text ≡ 92 ∷ l ∷ drop (i + 1 + 1) text =
    drop_more text i 0 h ∙ ap (λ z. z ∷ drop (i + 1) text) (q.next h d) ∙ ap (λ (z : List ℕ). 92 ∷ z) (drop_more text (i + 1) 0 s ∙ ap (λ z. z ∷ drop (i + 1 + 1) text) g) in
    quote_unclosed text i word q.read (subst StaysOpen (sym e) (open_letter l (drop (i + 1 + 1) text) none))
