-- Whether a brace closes one that stands before a text, and so whether a braced word is at the front of a text.
use Rattle.std.proofs.Common.{◌≡◌, ◌≢◌, ◌⊎◌, inl, inr, ℕ, ◌+◌, ◌<◌, ◌≤◌, ◌==◌, zero, suc, List, [], ◌∷◌, ◌++◌, length, take, drop, get_or, refl, sym, ◌∙◌, ap}
use Rattle.std.proofs.Common.{subst, arith, append_assoc, take-append-drop}
use Rattle.std.proofs.lemmas.Bool.{cases_lt, cases_eq, ne_eqb}
use Rattle.std.proofs.lemmas.List.{take-take, take_all, drop_more, length-take}
use Rattle.std.proofs.lemmas.List.Sums.{count_by_more_yes, count_by_more_no}
use Rattle.rt_stamps.specs.Words.{Word}
use Rattle.rt_words.specs.Spelling.{closing, opening}
use Rattle.rt_words.specs.FirstWord.{ClosesAt, HasNoBracedFront, IsBracedFront}
use Rattle.rt_words.proofs.Braces.{OpenAt, unbraced}
use Rattle.rt_words.proofs.Fronts.{front_is, front_within}

-- one closes it or none does
abbrev IsBraceDecided : List ℕ → Type 0
IsBraceDecided text = ((place : ℕ) × ClosesAt text place) ⊎ ((place : ℕ) → ClosesAt text place → ⊥)

-- one place further, with so many open
open_next : (text : List ℕ) (i depth next : ℕ) → OpenAt text i depth
    → next + closing (take (i + 1) text) ≡ opening (take (i + 1) text) → OpenAt text (i + 1) next
open_next text i depth next o e = record { level = e; fronts = λ n l. by n l (cases_lt i n) }
  where
    by : (n : ℕ) → n ≤ i + 1 → (i < n) ⊎ (n ≤ i) → closing (take n text) ≤ opening (take n text)
    by n l (inl m) =
        let same : i + 1 ≡ n = omega arith in
        subst (λ k. closing (take k text) ≤ opening (take k text)) same (omega (arith, e))
    by n l (inr m) = o.fronts n m

-- before a place up to which no more close than open, none closes one that stands before the text
none_before : (text : List ℕ) (i depth n : ℕ) → OpenAt text i depth → n < i → ClosesAt text n → ⊥
none_before text i depth n o l h =
    let front : closing (take (n + 1) text) ≤ opening (take (n + 1) text) = o.fronts (n + 1) (omega arith) in
    let closes_more = count_by_more_yes (λ c. c == 125) text n 0 h.0 (ap (λ c. c == 125) h.1) in
    let opens_none = count_by_more_no (λ c. c == 123) text n 0 h.0 (ap (λ c. c == 123) h.1) in
    omega (arith, front, closes_more, opens_none, h.2.0)

-- of what stands before a place the fronts are its own and those of the text
none_open : (text : List ℕ) (i n : ℕ) → OpenAt text i 0 → (i < n) ⊎ (n ≤ i) → closing (take n (take i text)) ≤ opening (take n (take i text))
none_open text i n o (inl m) = rw (take_all n (take i text) (omega (arith, length-take i text))) (omega (arith, o.level))
none_open text i n o (inr m) = rw (take-take n i text m) (o.fronts n m)

-- what is decided at the next place is decided at this one
find_by : (text : List ℕ) (i depth : ℕ) → i < length text → OpenAt text i depth → ((next : ℕ) → OpenAt text (i + 1) next → IsBraceDecided text)
    → (get_or text i 0 ≡ 123) ⊎ (get_or text i 0 ≢ 123) → (get_or text i 0 ≡ 125) ⊎ (get_or text i 0 ≢ 125) → IsBraceDecided text
find_by text i depth l o on (inl a) m =
    let p = count_by_more_yes (λ c. c == 123) text i 0 l (ap (λ c. c == 123) a) in
    let q = count_by_more_no (λ c. c == 125) text i 0 l (ap (λ c. c == 125) a) in
    on (depth + 1) (open_next text i depth (depth + 1) o (omega (arith, p, q, o.level)))
find_by text i zero l o on (inr a) (inl b) =
    let level : closing (take i text) ≡ opening (take i text) = omega (arith, o.level) in
    inl (i, (l, b, (level, λ n. none_open text i n o (cases_lt i n))))
find_by text i (suc depth) l o on (inr a) (inl b) =
    let p = count_by_more_no (λ c. c == 123) text i 0 l (ap (λ c. c == 123) b) in
    let q = count_by_more_yes (λ c. c == 125) text i 0 l (ap (λ c. c == 125) b) in
    on depth (open_next text i (suc depth) depth o (omega (arith, p, q, o.level)))
find_by text i depth l o on (inr a) (inr b) =
    let p = count_by_more_no (λ c. c == 123) text i 0 l (ne_eqb _ 123 a) in
    let q = count_by_more_no (λ c. c == 125) text i 0 l (ne_eqb _ 125 b) in
    on depth (open_next text i depth depth o (omega (arith, p, q, o.level)))

-- the braces from a place on, with so many characters left
find : (left : ℕ) (text : List ℕ) (i depth : ℕ) → i + left ≡ length text → OpenAt text i depth → IsBraceDecided text
find zero text i depth e o = inr (λ n h. none_before text i depth n o (omega (arith, h.0)) h)
find (suc left) text i depth e o =
    find_by text i depth (omega arith) o (λ next. find left text (i + 1) next (omega arith)) (cases_eq (get_or text i 0) 123) (cases_eq (get_or text i 0) 125)

closed : (text : List ℕ) → IsBraceDecided text
closed text = find (length text) text 0 0 (omega arith) (record { level = refl; fronts = λ n l. none n (omega arith) })
  where
    none : (n : ℕ) → n ≡ 0 → closing (take n text) ≤ opening (take n text)
    none n e = rw e (omega arith)

-- ---- a braced word at the front of a text

abbrev pub HasBracedFront : List ℕ → Type 0
HasBracedFront text = (len : ℕ) × (word : Word) × IsBracedFront text len word

braced_front : (rest : List ℕ) → IsBraceDecided rest → HasBracedFront (123 ∷ rest) ⊎ HasNoBracedFront (123 ∷ rest)
braced_front rest (inl h) = inl (length piece, word, (front_within (123 ∷ rest) piece after whole, (front_is (123 ∷ rest) piece after whole, h.1.2)))
  where
    word : Word
    word = take h.0 rest

    after : List ℕ
    after = drop (h.0 + 1) rest

    piece : List ℕ
    piece = 123 ∷ word ++ (125 ∷ [])

    split : rest ≡ word ++ 125 ∷ after
    split = sym (take-append-drop h.0 rest) ∙ ap (λ (u : List ℕ). word ++ u) (drop_more rest h.0 0 h.1.0 ∙ ap (λ z. z ∷ after) h.1.1)

    whole : 123 ∷ rest ≡ piece ++ after
    whole = ap (λ (u : List ℕ). 123 ∷ u) (split ∙ sym (append_assoc word (125 ∷ []) after))
braced_front rest (inr none) = inr (unbraced (123 ∷ rest) (omega arith, refl) none)

pub braced_or_not : (rest : List ℕ) → HasBracedFront (123 ∷ rest) ⊎ HasNoBracedFront (123 ∷ rest)
braced_or_not rest = braced_front rest (closed rest)
