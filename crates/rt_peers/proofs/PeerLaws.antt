-- Widgets by their places, and paths.
use Rattle.std.proofs.Common.{◌≡◌, ◌∙◌, ◌+◌, ◌<◌, ◌≤◌, ◌||◌, ℕ, zero, suc, nat_lt, Bool, true, false, cond, not, List, [], ◌∷◌, ◌++◌, Option, Some, None, Ok, Err, Result, String, Global, inl, inr, ap, arith, drop, get_or, length, refl, set, string_bytes, subst, sym, take}
use Rattle.std.specs.Cmp.Lexicographic.{nat_list_eq_equiv}
use Rattle.std.specs.List.{AllByRecursion, IsDistinct, list_any, position, position_or_len, remove}
use Rattle.std.specs.Str.{bytes_eq}
use Rattle.std.proofs.lemmas.Bool.Decides.{nat_tests}
use Rattle.std.proofs.lemmas.List.{drop-map, length-append, length-drop, length-map, map-append, take-map}
use Rattle.std.proofs.lemmas.List.Edits.{length-remove}
use Rattle.std.proofs.lemmas.List.Quantifiers.{position-Some}
use Rattle.std.proofs.lemmas.Map.Keys.{IsDistinct-push}
use Rattle.rt_stamps.specs.declared.fault.Fault.{Fault}
use Rattle.rt_stamps.specs.Outcomes.{Answers, Refuses}
use Rattle.rt_stamps.specs.Words.{Word, as_words}
use Rattle.rt_store.proofs.Shown.{position_map}
use Rattle.rt_recording.specs.EditedValue.{EditedValue}
use Rattle.rt_text.specs.Widgets.{WidgetValue, ViewValue, widgets_of}
use Rattle.rt_peers.specs.Peers.{HavePaths, text_led, view_led, view_without}
use Rattle.rt_peers.specs.SiteStep.{by_leading, by_widget}
use Rattle.rt_peers.specs.SiteValue.{SiteValue, new_view, number_of_path}
use Rattle.rt_peers.specs.ViewStep.{Outcome, as_outcome}

-- ONE LEADS

-- what changes places twice is where it was
own_back : (xs : List WidgetValue) (k : ℕ) (own : WidgetValue) → get_or (set xs k own) k (get_or xs k own) ≡ own
own_back [] k own = refl
own_back (x ∷ xs) zero own = refl
own_back (x ∷ xs) (suc k) own = own_back xs k own

others_back : (xs : List WidgetValue) (k : ℕ) (own : WidgetValue) → set (set xs k own) k (get_or xs k own) ≡ xs
others_back [] k own = refl
others_back (x ∷ xs) zero own = refl
others_back (x ∷ xs) (suc k) own = ap (λ l. x ∷ l) (others_back xs k own)

pub led_back : (view : ViewValue) (place : ℕ) → view_led place (view_led place view) ≡ view
led_back view zero = refl
led_back view (suc k) = λ i. record view { own = own_back view.others k view.own i; others = others_back view.others k view.own i }

pub text_back : (text : EditedValue) (place : ℕ) → text_led place (text_led place text) ≡ text
text_back text place = λ i. record text { view = led_back text.view place i }

set_length : (xs : List WidgetValue) (k : ℕ) (own : WidgetValue) → length (set xs k own) ≡ length xs
set_length [] k own = refl
set_length (x ∷ xs) zero own = refl
set_length (x ∷ xs) (suc k) own = ap suc (set_length xs k own)

pub led_number : (view : ViewValue) (place : ℕ) → length (widgets_of (view_led place view)) ≡ length (widgets_of view)
led_number view zero = refl
led_number view (suc k) = ap suc (set_length view.others k view.own)

-- one that commands in the place of the first, and then gives it back
pub leading_answers : (place : ℕ) (text : EditedValue) (does : EditedValue → Outcome EditedValue) (result : Result (List Word) Fault) (new : EditedValue)
    → Answers (does (text_led place text)) (text_led place text) result new → Answers (by_leading place text does) text result (text_led place new)
leading_answers place text does (Ok reply) new h = ap (as_outcome (λ answer. (answer.0, text_led place answer.1))) h
leading_answers place text does (Err fault) new h = ((λ i. text_led place (h.0 i)) ∙ text_back text place, refused (does (text_led place text)) h.1)
  where
    refused : (outcome : Outcome EditedValue) → Refuses outcome fault → Refuses (as_outcome (λ answer. (answer.0, text_led place answer.1)) outcome) fault
    refused outcome (inl e) = inl e
    refused outcome (inr e) = inr (ap (as_outcome (λ answer. (answer.0, text_led place answer.1))) e)

-- what it is to the text, is to the site
abbrev in_site : SiteValue → Outcome EditedValue → Outcome SiteValue
in_site state outcome = as_outcome (λ answer. (answer.0, record state { text = answer.1 })) outcome

twice : (place : ℕ) (state : SiteValue) (outcome : Outcome EditedValue)
    → as_outcome (λ answer. (answer.0, record state { text = text_led place answer.1 })) outcome
    ≡ in_site state (as_outcome (λ answer. (answer.0, text_led place answer.1)) outcome)
twice place state (Ok answer) = refl
twice place state (Err fault) = refl

pub leading_site : (place : ℕ) (state : SiteValue) (does : EditedValue → Outcome EditedValue) (result : Result (List Word) Fault) (new : EditedValue)
    → Answers (by_leading place state.text does) state.text result new → Answers (by_widget place state does) state result (record state { text = new })
leading_site place state does (Ok reply) new h = twice place state (does (text_led place state.text)) ∙ ap (in_site state) h
leading_site place state does (Err fault) new h = ((λ i. record state { text = h.0 i }), refused h.1)
  where
    refused : Refuses (by_leading place state.text does) fault → Refuses (by_widget place state does) fault
    refused (inl e) = inl e
    refused (inr e) = inr (twice place state (does (text_led place state.text)) ∙ ap (in_site state) e)

-- PATHS

split : {A : Type 0} (b : Bool) → (b ≡ true → A) → (b ≡ false → A) → A
split true f g = f refl
split false f g = g refl

pub place_within : (path : Word) (paths : List Word) (place : ℕ) → number_of_path path paths ≡ Some place → place < length paths
place_within path paths place e = (position-Some (λ other. bytes_eq other path) paths place [] e).0

-- paths as strings
pub place_of_strings : (path : Word) (paths : List (String Global)) → number_of_path path (as_words paths) ≡ position (λ w. bytes_eq (string_bytes w) path) paths
place_of_strings path paths = position_map (λ other. bytes_eq other path) (λ w. string_bytes w) paths

pub place_in : (path : Word) (strings items : List (String Global)) (paths : List Word) (found : Option ℕ) → found ≡ number_of_path path (as_words strings) → strings ≡ items
    → as_words items ≡ paths → number_of_path path paths ≡ found
place_in path strings items paths found e f g = sym (e ∙ ap (λ l. number_of_path path (as_words l)) f ∙ ap (number_of_path path) g)

pub number_of_strings : (paths : List (String Global)) → length (as_words paths) ≡ length paths
number_of_strings paths = length-map paths (λ w. string_bytes w)

pub strings_without : (paths : List (String Global)) (place : ℕ) → as_words (remove paths place) ≡ remove (as_words paths) place
strings_without paths place =
    let f : String Global → Word = λ w. string_bytes w in
    map-append f (take place paths) (drop (suc place) paths) ∙ (λ i. sym (take-map f place paths) i ++ sym (drop-map f (suc place) paths) i)

pub turned : (some none : Bool) → some ≡ not none → none ≡ true → some ≡ false
turned some none e h = e ∙ ap not h

-- a path that no widget has
none_first : (b : Bool) (n : ℕ) → cond b (Some n) None ≡ None → b ≡ false
none_first true n h = absurd (cc h)
none_first false n h = refl

reached : (a b : ℕ) → nat_lt a b ≡ false → b ≤ a
reached a b h = grind (arith, nat_tests)

lacks : (path : Word) (paths : List Word) → length paths ≤ position_or_len (λ other. bytes_eq other path) paths → list_any (bytes_eq path) paths ≡ false
lacks path [] h = refl
lacks path (x ∷ paths) h =
    let n : ℕ = position_or_len (λ other. bytes_eq other path) paths in
    split (bytes_eq x path)
    (λ same. let none : suc (length paths) ≤ 0 = subst (λ b. suc (length paths) ≤ cond (not b) (1 + n) 0) same h in absurd (omega (arith, none)))
    (λ other. let more : suc (length paths) ≤ 1 + n = subst (λ b. suc (length paths) ≤ cond (not b) (1 + n) 0) other h in
    let rest : length paths ≤ n = omega (arith, more) in
    ap (λ b. b || list_any (bytes_eq path) paths) (nat_list_eq_equiv.symm path x ∙ other) ∙ lacks path paths rest)

-- EACH WIDGET HAS A PATH

pub first_path : (paths : List Word) (view : ViewValue) (path : Word) (site limit : ℕ) → paths ≡ path ∷ [] → view ≡ new_view site limit → HavePaths paths view
unfolding IsDistinct
first_path paths view path site limit e f = record { each = ap length e ∙ sym (ap (λ v. length (widgets_of v)) f); differ = subst (IsDistinct bytes_eq) (sym e) (tt, tt) }

pub one_more_path : (paths : List Word) (view new : ViewValue) (path : Word) → HavePaths paths view → number_of_path path paths ≡ None → length (widgets_of new) ≡ length (widgets_of view) + 1
    → HavePaths (paths ++ path ∷ []) new
one_more_path paths view new path h none more =
    let last = reached (position_or_len (λ other. bytes_eq other path) paths) (length paths) (none_first _ _ none) in
    record { each = omega (arith, h.each, length-append paths (path ∷ []), more); differ = IsDistinct-push nat_list_eq_equiv paths path h.differ (lacks path paths last) }

all_without : (P : Word → Type 0) (paths : List Word) (place : ℕ) → AllByRecursion P paths → AllByRecursion P (remove paths place)
all_without P [] zero h = tt
all_without P [] (suc place) h = tt
all_without P (x ∷ paths) zero h = h.1
all_without P (x ∷ paths) (suc place) h = (h.0, all_without P paths place h.1)

distinct_without : (paths : List Word) (place : ℕ) → IsDistinct bytes_eq paths → IsDistinct bytes_eq (remove paths place)
unfolding IsDistinct
distinct_without [] zero h = tt
distinct_without [] (suc place) h = tt
distinct_without (x ∷ paths) zero h = h.1
distinct_without (x ∷ paths) (suc place) h = (all_without (λ y. bytes_eq x y ≡ false) paths place h.0, distinct_without paths place h.1)

pub path_gone : (paths : List Word) (view : ViewValue) (place : ℕ) → HavePaths paths view → place < length paths → 1 < length paths → HavePaths (remove paths place) (view_without place view)
path_gone paths view place h there several =
    let all = widgets_of view in
    let here : place < length all = omega (arith, h.each) in
    record {
      each = omega (arith, h.each, length-remove paths place there, length-remove all place here, length-drop 1 (remove all place));
      differ = distinct_without paths place h.differ;
    }
