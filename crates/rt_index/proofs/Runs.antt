-- Runs at the front of a list, and of a list from back to front, that are counted stretch by stretch.
use Rattle.std.proofs.Common.{◌≡◌, Bool, true, false, cond, ℕ, zero, suc, min, ◌+◌, ◌-◌, ◌<◌, ◌≤◌, ◌∙◌, ◌++◌, List, [], ◌∷◌, length, take, drop, reverse, arith, ap, sym, refl}
use Rattle.std.specs.List.{prefix_len}
use Rattle.std.proofs.Math.Seq.{drop-append_seam, take-append_seam}
use Rattle.std.proofs.lemmas.List.{drop-drop, drop-take, length-drop, length-reverse, length-take, reverse-append, take-append-drop, take-take, take_min}

-- a run that ends within the first stretch
ends_next : (b : Bool) (n taken whole : ℕ) → (taken < n → whole ≡ taken) → cond b (1 + taken) 0 < suc n → cond b (1 + whole) 0 ≡ cond b (1 + taken) 0
ends_next true n taken whole same h = ap (λ k. 1 + k) (same (omega (arith, h)))
ends_next false n taken whole same h = refl

pub ends_within : {X : Type 0} (p : X → Bool) (n : ℕ) (xs : List X) → prefix_len p (take n xs) < n → prefix_len p xs ≡ prefix_len p (take n xs)
ends_within p zero xs h = absurd (omega (arith, h))
ends_within p (suc n) [] h = refl
ends_within p (suc n) (x ∷ xs) h = ends_next (p x) n (prefix_len p (take n xs)) (prefix_len p xs) (ends_within p n xs) h

-- a run that goes on behind it
goes_next : (b : Bool) (n taken whole rest : ℕ) → (taken ≡ n → whole ≡ n + rest) → cond b (1 + taken) 0 ≡ suc n → cond b (1 + whole) 0 ≡ suc n + rest
goes_next true n taken whole rest same h = let j : taken ≡ n = omega (arith, h) in let i = same j in omega (arith, i)
goes_next false n taken whole rest same h = absurd (omega (arith, h))

pub goes_on : {X : Type 0} (p : X → Bool) (n : ℕ) (xs : List X) → prefix_len p (take n xs) ≡ n → prefix_len p xs ≡ n + prefix_len p (drop n xs)
goes_on p zero xs h = omega arith
goes_on p (suc n) [] h = absurd (omega (arith, h))
goes_on p (suc n) (x ∷ xs) h = goes_next (p x) n (prefix_len p (take n xs)) (prefix_len p xs) (prefix_len p (drop n xs)) (goes_on p n xs) h

-- the last elements, from back to front, and those before them
halves : {X : Type 0} (i : ℕ) (xs : List X) → reverse xs ≡ reverse (drop i xs) ++ reverse (take i xs)
halves i xs = ap reverse (sym (take-append-drop i xs)) ∙ reverse-append (take i xs) (drop i xs)

back_length : {X : Type 0} (n : ℕ) (xs : List X) → n ≤ length xs → length (reverse (drop (length xs - n) xs)) ≡ n
back_length n xs h = length-reverse (drop (length xs - n) xs) ∙ length-drop (length xs - n) xs ∙ omega (arith, h)

pub before_back : {X : Type 0} (n : ℕ) (xs : List X) → n ≤ length xs → drop n (reverse xs) ≡ reverse (take (length xs - n) xs)
before_back n xs h =
    let back = reverse (drop (length xs - n) xs) in
    ap (drop n) (halves (length xs - n) xs) ∙ ap (λ k. drop k (back ++ reverse (take (length xs - n) xs))) (sym (back_length n xs h)) ∙ drop-append_seam back (reverse (take (length xs - n) xs))

pub at_back : {X : Type 0} (n : ℕ) (xs : List X) → n ≤ length xs → take n (reverse xs) ≡ reverse (drop (length xs - n) xs)
at_back n xs h =
    let back = reverse (drop (length xs - n) xs) in
    ap (take n) (halves (length xs - n) xs) ∙ ap (λ k. take k (back ++ reverse (take (length xs - n) xs))) (sym (back_length n xs h)) ∙ take-append_seam back (reverse (take (length xs - n) xs))

-- what was read of a list from a place on, in a buffer that begins with it
pub read_of : {X : Type 0} (buffer text : List X) (n place read : ℕ) → read ≡ min n (length text - place) → take read buffer ≡ take read (drop place text) → take read buffer ≡ take n (drop place text)
read_of buffer text n place read count same =
    same ∙ ap (λ k. take k (drop place text)) (count ∙ ap (min n) (sym (length-drop place text))) ∙ take_min n (drop place text)

-- what was read of a list, in a buffer, of the last n elements before a place or as many as there are, from back to front
few_back : {X : Type 0} (n from place : ℕ) (xs : List X) → from ≡ place - n → length xs ≡ place → take (place - from) xs ≡ take n xs
few_back n from place xs f e = let m : place - from ≡ min n (length xs) = omega (arith, e, f) in ap (λ i. take i xs) m ∙ take_min n xs

pub read_before : {X : Type 0} (buffer text : List X) (n from place read : ℕ) → place ≤ length text → from ≡ place - n → read ≡ min n (length text - from)
    → take read buffer ≡ take read (drop from text) → reverse (take (place - from) buffer) ≡ take n (reverse (take place text))
read_before {X} buffer text n from place read h f count same =
    let k = place - from in
    let few : k ≤ read = omega (arith, h, f, count) in
    let front : take k buffer ≡ take k (drop from text) = sym (take-take k read buffer few) ∙ ap (take k) same ∙ take-take k read (drop from text) few in
    let whole : length (take place text) ≡ place = omega (arith, length-take place text, h) in
    let size : from + k ≡ place = omega (arith, f) in
    let rest : drop from (take place text) ≡ take k (drop from text) = ap (λ m. drop from (take m text)) (sym size) ∙ drop-take from k text in
    let there : length (take place text) - k ≡ from = omega (arith, whole, size) in
    let short : k ≤ length (take place text) = omega (arith, whole, size) in
    let part : take k (reverse (take place text)) ≡ reverse (drop from (take place text)) = at_back k (take place text) short ∙ ap (λ i. reverse (drop i (take place text))) there in
    ap reverse (front ∙ sym rest) ∙ sym part ∙ few_back n from place (reverse (take place text)) f (length-reverse (take place text) ∙ whole)

-- A run that is counted from a place on, up to the next place: it ends in the stretch before that, or goes on behind it.
pub ends_after : (p : ℕ → Bool) (text : List ℕ) (n from place found : ℕ) → from + prefix_len p (drop from text) ≡ place + prefix_len p (drop place text)
    → found ≡ prefix_len p (take n (drop from text)) → found < n → from + found ≡ place + prefix_len p (drop place text)
ends_after p text n from place found so_far e h =
    let short : prefix_len p (take n (drop from text)) < n = omega (arith, e, h) in
    let whole = ends_within p n (drop from text) short in
    omega (arith, so_far, e, whole)

pub goes_after : (p : ℕ → Bool) (text : List ℕ) (n from place found : ℕ) → from + prefix_len p (drop from text) ≡ place + prefix_len p (drop place text)
    → found ≡ prefix_len p (take n (drop from text)) → found ≡ n → from + found + prefix_len p (drop (from + found) text) ≡ place + prefix_len p (drop place text)
goes_after p text n from place found so_far e h =
    let long : prefix_len p (take n (drop from text)) ≡ n = omega (arith, e, h) in
    let whole = goes_on p n (drop from text) long in
    let size : from + n ≡ from + found = omega (arith, h) in
    let next : prefix_len p (drop n (drop from text)) ≡ prefix_len p (drop (from + found) text) = ap (prefix_len p) (drop-drop n from text) ∙ ap (λ k. prefix_len p (drop k text)) size in
    omega (arith, so_far, e, h, whole, next)

-- A run that is counted from a place back, down to the next place: it ends in the stretch behind that, or goes on before it.
pub ends_before : (p : ℕ → Bool) (text : List ℕ) (n to place found : ℕ) → place + prefix_len p (reverse (take to text)) ≡ to + prefix_len p (reverse (take place text))
    → found ≡ prefix_len p (take n (reverse (take to text))) → found < n → found ≤ to → (to - found) + prefix_len p (reverse (take place text)) ≡ place
ends_before p text n to place found so_far e h within =
    let short : prefix_len p (take n (reverse (take to text))) < n = omega (arith, e, h) in
    let whole = ends_within p n (reverse (take to text)) short in
    omega (arith, so_far, e, whole, within)

pub goes_before : (p : ℕ → Bool) (text : List ℕ) (n to place found : ℕ) → to ≤ length text → place + prefix_len p (reverse (take to text)) ≡ to + prefix_len p (reverse (take place text))
    → found ≡ prefix_len p (take n (reverse (take to text))) → found ≡ n → found ≤ to
    → place + prefix_len p (reverse (take (to - found) text)) ≡ (to - found) + prefix_len p (reverse (take place text))
goes_before p text n to place found inside so_far e h within =
    let long : prefix_len p (take n (reverse (take to text))) ≡ n = omega (arith, e, h) in
    let whole = goes_on p n (reverse (take to text)) long in
    let size : length (take to text) ≡ to = omega (arith, length-take to text, inside) in
    let front : drop n (reverse (take to text)) ≡ reverse (take (length (take to text) - n) (take to text)) = before_back n (take to text) (omega (arith, size, h, within)) in
    let cut : take (length (take to text) - n) (take to text) ≡ take (to - found) text = ap (λ k. take (k - n) (take to text)) size ∙ ap (λ k. take (to - k) (take to text)) (sym h) ∙ take-take (to - found) to text (omega arith) in
    let next : prefix_len p (drop n (reverse (take to text))) ≡ prefix_len p (reverse (take (to - found) text)) = ap (prefix_len p) (front ∙ ap reverse cut) in
    omega (arith, so_far, e, h, whole, next, within)
