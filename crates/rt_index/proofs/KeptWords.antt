-- Each place of a word has the same word; words that are kept stay words.
use Rattle.std.proofs.Common.{◌≡◌, Bool, true, false, cond, ℕ, zero, suc, ◌+◌, ◌-◌, ◌<◌, ◌≤◌, ◌∙◌, ◌++◌, List, [], ◌∷◌, length, take, drop, reverse, replicate, nat_lt, arith, ap, sym, refl}
use Rattle.std.specs.Prelude.{slice_index, slice_set}
use Rattle.std.specs.List.{prefix_len}
use Rattle.std.proofs.Math.Seq.{drop-append_seam, take-append_seam}
use Rattle.std.proofs.lemmas.List.{drop-drop, drop-take, get_or-drop, length-drop, length-reverse, length-take, reverse-append, reverse-reverse, take-append-drop, take-take}
use Rattle.std.proofs.lemmas.List.Elements.{All-append, All-drop, All-replicate, All-set, All-take}
use Rattle.std.proofs.lemmas.List.Sums.{prefix_len-le-length, prefix_len_passes}
use Rattle.rt_index.specs.Characters.{is_word_character}
use Rattle.rt_index.specs.declared.words.WordPlaces.{WordPlaces}
use Rattle.rt_index.specs.Values.{word_start, word_end}
use Rattle.rt_index.specs.KeptWords.{AreWords, IsWord}
use Rattle.rt_index.proofs.Places.{split}
use Rattle.rt_index.proofs.Runs.{at_back, before_back, ends_within, goes_on}
use Rattle.rt_index.proofs.Spelling.{lt_true, at_least}

-- the front of a run
take_next : (b : Bool) (k whole taken : ℕ) → (k ≤ whole → taken ≡ k) → suc k ≤ cond b (1 + whole) 0 → cond b (1 + taken) 0 ≡ suc k
take_next true k whole taken same h = let i = same (omega (arith, h)) in omega (arith, i)
take_next false k whole taken same h = absurd (omega (arith, h))

take_run : {X : Type 0} (p : X → Bool) (k : ℕ) (xs : List X) → k ≤ prefix_len p xs → prefix_len p (take k xs) ≡ k
take_run p zero xs h = refl
take_run p (suc k) [] h = absurd (omega (arith, h))
take_run p (suc k) (x ∷ xs) h = take_next (p x) k (prefix_len p xs) (prefix_len p (take k xs)) (take_run p k xs) h

-- what a run has behind its front
drop_run : {X : Type 0} (p : X → Bool) (k : ℕ) (xs : List X) → k ≤ prefix_len p xs → prefix_len p xs ≡ k + prefix_len p (drop k xs)
drop_run p k xs h = goes_on p k xs (take_run p k xs h)

-- a list that passes whole, before another and from back to front
whole_before : {X : Type 0} (p : X → Bool) (xs ys : List X) → prefix_len p xs ≡ length xs → prefix_len p (xs ++ ys) ≡ length xs + prefix_len p ys
whole_before p xs ys e =
    goes_on p (length xs) (xs ++ ys) (ap (prefix_len p) (take-append_seam xs ys) ∙ e) ∙ ap (λ l. length xs + prefix_len p l) (drop-append_seam xs ys)

whole_head : (b : Bool) (rest size : ℕ) → cond b (1 + rest) 0 ≡ suc size → (b ≡ true) × (rest ≡ size)
whole_head true rest size e = (refl, omega (arith, e))
whole_head false rest size e = absurd (omega (arith, e))

whole_back : {X : Type 0} (p : X → Bool) (xs : List X) → prefix_len p xs ≡ length xs → prefix_len p (reverse xs) ≡ length xs
whole_back p [] e = refl
whole_back p (x ∷ xs) e =
    let parts = whole_head (p x) (prefix_len p xs) (length xs) e in
    let rest : prefix_len p (reverse xs) ≡ length (reverse xs) = whole_back p xs parts.1 ∙ sym (length-reverse xs) in
    let one : cond (p x) (1 + 0) 0 ≡ 1 = ap (λ b. cond b (1 + 0) 0) parts.0 in
    ap (prefix_len p) (reverse-append (x ∷ []) xs) ∙ whole_before p (reverse xs) (x ∷ []) rest ∙ ap (λ n. length (reverse xs) + n) one ∙ omega (arith, length-reverse xs)

-- the run from a place on, at a place further on within it and at one before it within the run that ends there
end_further : {X : Type 0} (p : X → Bool) (text : List X) (place k : ℕ) → k ≤ prefix_len p (drop place text)
    → (place + k) + prefix_len p (drop (place + k) text) ≡ place + prefix_len p (drop place text)
end_further p text place k h = omega (arith, drop_run p k (drop place text) h, ap (prefix_len p) (drop-drop k place text))

end_before : {X : Type 0} (p : X → Bool) (text : List X) (place j : ℕ) → place ≤ length text → j ≤ place → j ≤ prefix_len p (reverse (take place text))
    → (place - j) + prefix_len p (drop (place - j) text) ≡ place + prefix_len p (drop place text)
end_before p text place j within short h =
    let front = take place text in
    let size : length front ≡ place = omega (arith, length-take place text, within) in
    let back = drop (place - j) front in
    let last : take j (reverse front) ≡ reverse back = at_back j front (omega (arith, size, short)) ∙ ap (λ n. reverse (drop (n - j) front)) size in
    let count : length back ≡ j = omega (arith, length-drop (place - j) front, size, short) in
    let passes : prefix_len p (reverse back) ≡ length (reverse back) = sym (ap (prefix_len p) last) ∙ take_run p j (reverse front) h ∙ sym count ∙ sym (length-reverse back) in
    let whole : prefix_len p back ≡ j = ap (prefix_len p) (sym (reverse-reverse back)) ∙ whole_back p (reverse back) passes ∙ length-reverse back ∙ count in
    let there : (place - j) + j ≡ place = omega (arith, short) in
    let part : back ≡ take j (drop (place - j) text) = ap (λ n. drop (place - j) (take n text)) (sym there) ∙ drop-take (place - j) j text in
    let run = goes_on p j (drop (place - j) text) (sym (ap (prefix_len p) part) ∙ whole) in
    let rest : prefix_len p (drop j (drop (place - j) text)) ≡ prefix_len p (drop place text) = ap (prefix_len p) (drop-drop j (place - j) text) ∙ ap (λ n. prefix_len p (drop n text)) there in
    omega (arith, run, rest, there)

-- where the run that ends at a place starts, seen from a place within it
start_before : {X : Type 0} (p : X → Bool) (text : List X) (place j : ℕ) → place ≤ length text → j ≤ place → j ≤ prefix_len p (reverse (take place text))
    → place + prefix_len p (reverse (take (place - j) text)) ≡ (place - j) + prefix_len p (reverse (take place text))
start_before p text place j within short h =
    let front = take place text in
    let size : length front ≡ place = omega (arith, length-take place text, within) in
    let run = drop_run p j (reverse front) h in
    let left : drop j (reverse front) ≡ reverse (take (place - j) text) =
    before_back j front (omega (arith, size, short)) ∙ ap (λ n. reverse (take (n - j) front)) size ∙ ap reverse (take-take (place - j) place text (omega arith)) in
    omega (arith, run, ap (prefix_len p) left, short)

start_further : {X : Type 0} (p : X → Bool) (text : List X) (place k : ℕ) → k ≤ prefix_len p (drop place text)
    → prefix_len p (reverse (take (place + k) text)) ≡ k + prefix_len p (reverse (take place text))
start_further p text place k h =
    let more = take k (drop place text) in
    let passes = take_run p k (drop place text) h in
    let count : length more ≡ k = omega (arith, length-take k (drop place text), h, prefix_len-le-length p (drop place text)) in
    let whole : prefix_len p (reverse more) ≡ length (reverse more) = whole_back p more (passes ∙ sym count) ∙ sym (length-reverse more) in
    ap (λ l. prefix_len p (reverse l)) (joined place k text)
    ∙ ap (prefix_len p) (reverse-append (take place text) more)
    ∙ whole_before p (reverse more) (reverse (take place text)) whole
    ∙ ap (λ n. n + prefix_len p (reverse (take place text))) (length-reverse more ∙ count)
  where
    joined : {X : Type 0} (n k : ℕ) (xs : List X) → take (n + k) xs ≡ take n xs ++ take k (drop n xs)
    joined n k xs =
        sym (take-append-drop n (take (n + k) xs))
        ∙ ap (λ l. l ++ drop n (take (n + k) xs)) (take-take n (n + k) xs (omega arith))
        ∙ ap (λ l. take n xs ++ l) (drop-take n k xs)

-- The run through a place begins and ends for each of its places where it does for that one.
same_end : {X : Type 0} (p : X → Bool) (text : List X) (place q first end : ℕ) → place ≤ length text → first + prefix_len p (reverse (take place text)) ≡ place
    → end ≡ place + prefix_len p (drop place text) → first ≤ q → q ≤ end → q + prefix_len p (drop q text) ≡ end
same_end p text place q first end within begins ends low high = split (nat_lt q place)
    (λ e. let l = lt_true q place e in
    let is : place - (place - q) ≡ q = omega (arith, l) in
    let h = end_before p text place (place - q) within (omega arith) (omega (arith, begins, low)) in
    omega (arith, h, ends, is, ap (λ n. prefix_len p (drop n text)) is))
    (λ e. let l = at_least q place e in
    let is : place + (q - place) ≡ q = omega (arith, l) in
    let h = end_further p text place (q - place) (omega (arith, ends, high, l)) in
    omega (arith, h, ends, is, ap (λ n. prefix_len p (drop n text)) is))

same_start : {X : Type 0} (p : X → Bool) (text : List X) (place q first end : ℕ) → place ≤ length text → first + prefix_len p (reverse (take place text)) ≡ place
    → end ≡ place + prefix_len p (drop place text) → first ≤ q → q ≤ end → first + prefix_len p (reverse (take q text)) ≡ q
same_start p text place q first end within begins ends low high = split (nat_lt q place)
    (λ e. let l = lt_true q place e in
    let is : place - (place - q) ≡ q = omega (arith, l) in
    let h = start_before p text place (place - q) within (omega arith) (omega (arith, begins, low)) in
    omega (arith, h, begins, is, ap (λ n. prefix_len p (reverse (take n text))) is))
    (λ e. let l = at_least q place e in
    let is : place + (q - place) ≡ q = omega (arith, l) in
    let h = start_further p text place (q - place) (omega (arith, ends, high, l)) in
    omega (arith, h, begins, is, ap (λ n. prefix_len p (reverse (take n text))) is))

-- a place that a run goes on from passes
passes_at : (p : ℕ → Bool) (text : List ℕ) (q : ℕ) → 0 < prefix_len p (drop q text) → p (slice_index text q) ≡ true
passes_at p text q h = let here : q + 0 ≡ q = omega arith in ap (λ n. p (slice_index text n)) (sym here) ∙ sym (ap p (get_or-drop q text 0 0)) ∙ prefix_len_passes p (drop q text) 0 0 h

start_of : (text : List ℕ) (q first : ℕ) → is_word_character (slice_index text q) ≡ true → first + prefix_len is_word_character (reverse (take q text)) ≡ q → first ≡ word_start text q
start_of text q first e h = rw e (omega (arith, h))

end_of : (text : List ℕ) (q end : ℕ) → is_word_character (slice_index text q) ≡ true → q + prefix_len is_word_character (drop q text) ≡ end → end ≡ word_end text q
end_of text q end e h = rw e (sym h)

-- The run of word characters through a place is the word of each of its places.
pub is_word : (text : List ℕ) (place first end : ℕ) → place < length text → first + prefix_len is_word_character (reverse (take place text)) ≡ place
    → end ≡ place + prefix_len is_word_character (drop place text) → IsWord text (record { first = first; end = end })
is_word text place first end within begins ends = record {
  at = λ q low high.
      let e = same_end is_word_character text place q first end (omega (arith, within)) begins ends low (omega (arith, high)) in
      let s = same_start is_word_character text place q first end (omega (arith, within)) begins ends low (omega (arith, high)) in
      let passes = passes_at is_word_character text q (omega (arith, e, high)) in
      record { first = start_of text q first passes s; end = end_of text q end passes e };
}

-- A word that begins or ends near a place, which one reading finds.
pub near_start : (text : List ℕ) (n place found : ℕ) → is_word_character (slice_index text place) ≡ true
    → found ≡ prefix_len is_word_character (take n (reverse (take place text))) → found < n → place - found ≡ word_start text place
near_start text n place found passes e h =
    let whole = ends_within is_word_character n (reverse (take place text)) (omega (arith, e, h)) in
    rw passes (ap (λ k. place - k) (e ∙ sym whole))

pub near_end : (text : List ℕ) (n place found : ℕ) → is_word_character (slice_index text place) ≡ true
    → found ≡ prefix_len is_word_character (take n (drop place text)) → found < n → place + found ≡ word_end text place
near_end text n place found passes e h =
    let whole = ends_within is_word_character n (drop place text) (omega (arith, e, h)) in
    rw passes (ap (λ k. place + k) (e ∙ sym whole))

-- a character that was found to be one of a word
pub found_passing : (text : List ℕ) (place c : ℕ) (b : Bool) → c ≡ slice_index text place → b ≡ is_word_character c → b ≡ true → is_word_character (slice_index text place) ≡ true
found_passing text place c b e f h = ap is_word_character (sym e) ∙ sym f ∙ h

-- a word without characters is one of any text
pub empty_word : (text : List ℕ) → IsWord text (record { first = 0; end = 0 })
empty_word text = record { at = λ q low high. absurd (omega (arith, high)) }

pub no_words : (text : List ℕ) (n : ℕ) (words : List WordPlaces) → words ≡ replicate n (record { first = 0; end = 0 }) → AreWords text words
no_words text n words e = rw e (record { each = All-replicate (IsWord text) n (record { first = 0; end = 0 }) (empty_word text) })

-- a word that takes the place of the last one
pub turned_words : (text : List ℕ) (n : ℕ) (words turned : List WordPlaces) → AreWords text words → turned ≡ drop n words ++ take n words → AreWords text turned
turned_words text n words turned are e =
    rw e (record { each = All-append (IsWord text) (drop n words) (take n words) (All-drop (IsWord text) n words are.each) (All-take (IsWord text) n words are.each) })

pub set_words : (text : List ℕ) (i : ℕ) (words : List WordPlaces) (word : WordPlaces) → AreWords text words → IsWord text word → AreWords text (slice_set words i word)
set_words text i words word are is = record { each = All-set (IsWord text) words i word is are.each }
