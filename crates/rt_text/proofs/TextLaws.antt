-- Texts between places.
use Rattle.std.proofs.Common.{◌≡◌, ℕ, ◌+◌, ◌-◌, ◌<◌, ◌≤◌, ◌⊎◌, inl, inr, List, ◌++◌, length, take, drop, min, max, sym, ◌∙◌, ap, arith}
use Rattle.std.specs.Prelude.{encode_utf8_all}
use Rattle.std.proofs.Math.Seq.{take-add}
use Rattle.std.proofs.lemmas.Bool.{cases_lt}
use Rattle.std.proofs.lemmas.List.{drop-drop, take-take, take_all, take-append-le, length-drop, length-take}
use Rattle.std.proofs.lemmas.Str.{encodes-append}
use Rattle.rt_text.specs.Ranges.{text_between}
use Rattle.rt_lines.specs.declared.stretch.Stretch.{Stretch}
use Rattle.rt_lines.specs.Stretches.{part}
use Rattle.rt_text.proofs.PartPlaces.{drop_part}

-- some characters more, as they were read
pub between_more : (t buffer : List ℕ) (from place count read : ℕ) → from ≤ place → read ≤ count → take count buffer ≡ take count (drop place t)
    → encode_utf8_all (text_between t from (place + read)) ≡ encode_utf8_all (text_between t from place) ++ encode_utf8_all (take read buffer)
between_more t buffer from place count read h few same =
    let next : place + read - from ≡ (place - from) + read = omega (arith, h) in
    let place_is : from + (place - from) ≡ place = omega (arith, h) in
    let rest : drop (place - from) (drop from t) ≡ drop place t = drop-drop (place - from) from t ∙ ap (λ k. drop k t) place_is in
    let taken : take read (drop place t) ≡ take read buffer = sym (take-take read count (drop place t) few) ∙ ap (take read) (sym same) ∙ take-take read count buffer few in
    ap (λ n. encode_utf8_all (take n (drop from t))) next ∙ ap encode_utf8_all (take-add (place - from) read (drop from t))
    ∙ encodes-append (take (place - from) (drop from t)) (take read (drop (place - from) (drop from t)))
    ∙ ap (λ l. encode_utf8_all (text_between t from place) ++ encode_utf8_all l) (ap (take read) rest ∙ taken)

-- a text ends at its end
pub between_all : (t : List ℕ) (from to n : ℕ) → n ≡ length t → text_between t from (max (min to n) from) ≡ text_between t from to
between_all t from to n e = by_cases (cases_lt n to)
  where
    by_cases : (n < to) ⊎ (to ≤ n) → take (max (min to n) from - from) (drop from t) ≡ take (to - from) (drop from t)
    by_cases (inl lt) = take_all _ (drop from t) (omega (arith, length-drop from t)) ∙ sym (take_all _ (drop from t) (omega (arith, length-drop from t)))
    by_cases (inr le) = let same : max (min to n) from - from ≡ to - from = omega arith in ap (λ k. take k (drop from t)) same

-- as many characters as two bounds leave
take_least : {A : Type 0} (k m : ℕ) (xs : List A) → take (min k m) xs ≡ take k (take m xs)
take_least {A} k m xs = by (cases_lt m k)
  where
    by : (m < k) ⊎ (k ≤ m) → take (min k m) xs ≡ take k (take m xs)
    by (inl lt) = let e : min k m ≡ m = omega arith in ap (λ n. take n xs) e ∙ sym (take_all k (take m xs) (omega (arith, length-take m xs)))
    by (inr le) = let e : min k m ≡ k = omega arith in ap (λ n. take n xs) e ∙ sym (take-take k m xs le)

-- the characters between two places of a stretch, also where these are past the greatest number
pub between_in_part : (t : List ℕ) (stretch : Stretch) (from to begin sum end most : ℕ) → stretch.end ≤ most → begin ≡ min (stretch.begin + from) most → sum ≡ min (stretch.begin + to) most → end ≡ min sum stretch.end
    → text_between t begin end ≡ text_between (part stretch t) from to
between_in_part t stretch from to begin sum end most few b s e =
    by (cases_lt most (stretch.begin + from)) ∙ ap (take (to - from)) (sym (drop_part stretch t from))
  where
    p : ℕ
    p = stretch.begin + from

    by : (most < p) ⊎ (p ≤ most) → text_between t begin end ≡ take (to - from) (take (stretch.end - p) (drop p t))
    by (inl lt) =
        let none : end - begin ≡ 0 = omega arith in
        let nothing : min (to - from) (stretch.end - p) ≡ 0 = omega arith in
        ap (λ n. take n (drop begin t)) none ∙ sym (ap (λ n. take n (drop p t)) nothing) ∙ take_least (to - from) (stretch.end - p) (drop p t)
    by (inr le) =
        let same : begin ≡ p = omega arith in
        let size : end - begin ≡ min (to - from) (stretch.end - p) = omega arith in
        (λ i. take (size i) (drop (same i) t)) ∙ take_least (to - from) (stretch.end - p) (drop p t)

-- characters that are read into a buffer
pub read_in_part : (t : List ℕ) (stretch : Stretch) (place from read most : ℕ) (buffer more : List ℕ) → stretch.end ≤ most → from ≡ min (stretch.begin + place) most → read ≤ stretch.end - (stretch.begin + place)
    → read ≤ length buffer → take read buffer ≡ take read (drop from t) → take read (buffer ++ more) ≡ take read (drop place (part stretch t))
read_in_part t stretch place from read most buffer more few f r l e = by (cases_lt most (stretch.begin + place))
  where
    p : ℕ
    p = stretch.begin + place

    rest : take read (drop p t) ≡ take read (drop place (part stretch t))
    rest = sym (take-take read (stretch.end - p) (drop p t) r) ∙ ap (take read) (sym (drop_part stretch t place))

    by : (most < p) ⊎ (p ≤ most) → take read (buffer ++ more) ≡ take read (drop place (part stretch t))
    by (inl lt) = let none : read ≡ 0 = omega arith in ap (λ n. take n (buffer ++ more)) none ∙ sym (ap (λ n. take n (drop place (part stretch t))) none)
    by (inr le) = let same : from ≡ p = omega arith in take-append-le read buffer more l ∙ e ∙ ap (λ k. take read (drop k t)) same ∙ rest
