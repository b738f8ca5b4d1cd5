-- Indices, ranges and texts, one more.
use Rattle.std.proofs.Common.{◌≡◌, ℕ, ◌+◌, ◌-◌, ◌<◌, ◌≤◌, ◌⊎◌, inl, inr, List, [], ◌∷◌, true, false, length, drop, map, min, get_or, refl, sym, ◌∙◌, ap, arith, Some, Ok, Option, String, Global, string_bytes}
use Rattle.std.specs.Prelude.{encode_utf8_all}
use Rattle.std.specs.Result.{result_err, result_unwrap_or}
use Rattle.std.proofs.lemmas.List.{drop_more, length-drop, length-take}
use Rattle.rt_index.specs.Index.{index_of}
use Rattle.rt_index.specs.Widget.{IndexedWidget}
use Rattle.rt_stamps.specs.declared.fault.Fault.{Fault}
use Rattle.rt_stamps.specs.declared.fault.Fault.TheVariants.{NoMemory}
use Rattle.rt_stamps.specs.Outcomes.{first_of, Refuses}
use Rattle.rt_stamps.specs.Words.{as_words}
use Rattle.rt_plans.specs.declared.range.Range.{Range}
use Rattle.rt_text.specs.Index.{index_check, place_at_index}
use Rattle.rt_text.specs.Ranges.{text_between, has_characters, texts_of}

-- one index more
pub places_more : (w : IndexedWidget) (words : List (String Global)) (i : ℕ) (word : String Global) (place : ℕ) → i < length words → word ≡ get_or words i word → index_of w (string_bytes word) ≡ Ok place
    → map (place_at_index w) (as_words (drop i words)) ≡ place ∷ map (place_at_index w) (as_words (drop (i + 1) words))
places_more w words i word place h s e =
    let rest : List ℕ = map (place_at_index w) (as_words (drop (i + 1) words)) in
    ap (λ l. map (place_at_index w) (as_words l)) (drop_more words i word h)
    ∙ ap (λ (x : String Global). place_at_index w (string_bytes x) ∷ rest) (sym s) ∙ ap (λ r. result_unwrap_or r 0 ∷ rest) e

pub checks_more : (w : IndexedWidget) (words : List (String Global)) (i : ℕ) (word : String Global) (place : ℕ) → i < length words → word ≡ get_or words i word → index_of w (string_bytes word) ≡ Ok place
    → first_of (map (index_check w) (as_words (drop i words))) ≡ first_of (map (index_check w) (as_words (drop (i + 1) words)))
checks_more w words i word place h s e =
    let rest : List (Option Fault) = map (index_check w) (as_words (drop (i + 1) words)) in
    ap (λ l. first_of (map (index_check w) (as_words l))) (drop_more words i word h)
    ∙ ap (λ (x : String Global). first_of (index_check w (string_bytes x) ∷ rest)) (sym s) ∙ ap (λ r. first_of (result_err r ∷ rest)) e

-- an index that is refused after others that were found
pub checks_stop : (w : IndexedWidget) (words : List (String Global)) (i : ℕ) (word : String Global) (fault found : Fault) → i < length words → word ≡ get_or words i word → Refuses (index_of w (string_bytes word)) found → fault ≡ found
    → first_of (map (index_check w) (as_words (drop i words))) ≡ first_of (map (index_check w) (as_words words))
    → (fault ≡ NoMemory) ⊎ (first_of (map (index_check w) (as_words words)) ≡ Some fault)
checks_stop w words i word fault found h s (inl e) f same = inl (f ∙ e)
checks_stop w words i word fault found h s (inr e) f same =
    let rest : List (Option Fault) = map (index_check w) (as_words (drop (i + 1) words)) in
    inr (sym same ∙ ap (λ l. first_of (map (index_check w) (as_words l))) (drop_more words i word h)
    ∙ ap (λ (x : String Global). first_of (index_check w (string_bytes x) ∷ rest)) (sym s) ∙ ap (λ r. first_of (result_err r ∷ rest)) e ∙ ap (λ x. Some x) (sym f))

-- one range more
pub length_between : (t : List ℕ) (from to : ℕ) → length (text_between t from to) ≡ min (to - from) (length t - from)
length_between t from to = simp (length-take, length-drop)

some_characters : (t : List ℕ) → 0 < length t → has_characters t ≡ true
some_characters [] h = absurd (omega arith)
some_characters (c ∷ t) h = refl

no_characters : (t : List ℕ) → length t ≡ 0 → has_characters t ≡ false
no_characters [] h = refl
no_characters (c ∷ t) h = absurd (omega arith)

pub texts_some : (t : List ℕ) (ranges : List Range) (i : ℕ) (d : Range) → i < length ranges → (get_or ranges i d).from < min (get_or ranges i d).to (length t)
    → texts_of t (drop i ranges) ≡ encode_utf8_all (text_between t (get_or ranges i d).from (get_or ranges i d).to) ∷ texts_of t (drop (i + 1) ranges)
texts_some t ranges i d h k =
    let r : Range = get_or ranges i d in
    let some : has_characters (text_between t r.from r.to) ≡ true = some_characters (text_between t r.from r.to) (omega (arith, length_between t r.from r.to)) in
    rw (drop_more ranges i d h, some) refl

pub texts_none : (t : List ℕ) (ranges : List Range) (i : ℕ) (d : Range) → i < length ranges → min (get_or ranges i d).to (length t) ≤ (get_or ranges i d).from
    → texts_of t (drop i ranges) ≡ texts_of t (drop (i + 1) ranges)
texts_none t ranges i d h k =
    let r : Range = get_or ranges i d in
    let none : has_characters (text_between t r.from r.to) ≡ false = no_characters (text_between t r.from r.to) (omega (arith, length_between t r.from r.to)) in
    rw (drop_more ranges i d h, none) refl
