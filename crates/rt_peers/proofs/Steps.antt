-- Words and steps.
use Rattle.std.proofs.Common.{◌≡◌, ◌≤◌, ◌<◌, ◌+◌, ◌++◌, ℕ, suc, inl, inr, Ok, Err, Result, get_or, ◌∙◌, ap, sym, List, [], ◌∷◌, map, flat_map, drop, length, refl, subst, arith, String, Global, string_bytes, append_assoc, add-one, drop-cons}
use Rattle.std.specs.Prelude.{IfOk, IfErr, IsOkUnless, MatchResult, OnErr, OnOk}
use Rattle.std.proofs.lemmas.List.{map-append}
use Rattle.rt_stamps.specs.declared.fault.Fault.{Fault}
use Rattle.rt_stamps.specs.declared.fault.Fault.TheVariants.{NoMemory}
use Rattle.rt_stamps.specs.Outcomes.{Answers, Refuses}
use Rattle.rt_stamps.specs.Words.{Word, as_words}
use Rattle.rt_text.specs.Commands.{got_list}
use Rattle.rt_text.specs.Widgets.{ViewValue}
use Rattle.rt_recording.specs.EditedValue.{EditedValue, edited}
use Rattle.rt_recording.specs.Recordings.{Recording}
use Rattle.rt_peers.specs.Step.{on_view}
use Rattle.rt_peers.specs.ViewStep.{Outcome, as_outcome, changed_step, get_step, told_step}

-- a reply that is made of a value, or a want of memory in its making
pub replied_with : {T S : Type 0} (state : S) (f : T → List Word) (outcome : Result T Fault) (value : T) (result : Result (List Word) Fault) → outcome ≡ Ok value
    → IfOk result (λ reply. reply ≡ f value) → IsOkUnless result NoMemory → Answers (told_step f state outcome) state result state
replied_with state f outcome value (Ok reply) e ok err = rw (e, ok) refl
replied_with state f outcome value (Err fault) e ok err = (refl, inl err)

-- what is refused stays refused
refused_by : {T S : Type 0} (f : T → List Word × S) (outcome : Result T Fault) (fault found : Fault) → Refuses outcome found → fault ≡ found → Refuses (as_outcome f outcome) fault
refused_by f outcome fault found (inl e) h = inl (h ∙ e)
refused_by f outcome fault found (inr e) h = inr (rw (e, h) refl)

-- a change that is refused, and one that is made, by what the call says that was asked of it
pub changed_refused : {S : Type 0} (said meant : Result S Fault) (fault found : Fault) → said ≡ meant → Refuses said found → fault ≡ found → Refuses (changed_step meant) fault
changed_refused {S} said meant fault found same r e = refused_by {T = S} {S = S} (λ new. ([], new)) meant fault found (subst (λ (o : Result S Fault). Refuses o found) same r) e

pub changed_to : {S : Type 0} (said meant : Result S Fault) (new : S) → said ≡ meant → said ≡ Ok new → changed_step meant ≡ Ok ([], new)
changed_to {S} said meant new same e = ap (changed_step {S = S}) (sym same ∙ e)

-- what a change answers that is refused by its outcome, or for want of memory
pub changed_answers : {S T : Type 0} (old held new : S) (said meant : Result S Fault) (outcome : Result T Fault) (result : Result (List Word) Fault) → held ≡ old → said ≡ meant
    → OnOk outcome (said ≡ Ok new) → IfErr outcome (Refuses said) → OnErr outcome (new ≡ held) → MatchResult outcome (λ _. result ≡ Ok []) (λ fault. result ≡ Err fault)
    → Answers (changed_step meant) old result new
changed_answers old held new said meant (Ok done) result kept same ok err unchanged is =
    subst (λ (r : Result (List Word) Fault). Answers (changed_step meant) old r new) (sym is) (changed_to said meant new same ok)
changed_answers old held new said meant (Err fault) result kept same ok err unchanged is =
    subst (λ (r : Result (List Word) Fault). Answers (changed_step meant) old r new) (sym is) (unchanged ∙ kept, changed_refused said meant fault fault same err refl)

-- one that is refused by its outcome alone
pub changed_exactly : {S T : Type 0} (old held new : S) (said meant : Result S Fault) (outcome : Result T Fault) (result : Result (List Word) Fault) → held ≡ old → said ≡ meant
    → OnOk outcome (said ≡ Ok new) → IfErr outcome (λ fault. said ≡ Err fault) → OnErr outcome (new ≡ held) → MatchResult outcome (λ _. result ≡ Ok []) (λ fault. result ≡ Err fault)
    → Answers (changed_step meant) old result new
changed_exactly old held new said meant (Ok done) result kept same ok err unchanged is = changed_answers {T = Word} old held new said meant (Ok []) result kept same ok tt tt is
changed_exactly old held new said meant (Err fault) result kept same ok err unchanged is = changed_answers {T = Word} old held new said meant (Err fault) result kept same tt (inr err) unchanged is

-- a reply that is refused, and one that is made, likewise
pub refused_as : {T S : Type 0} (f : T → List Word) (state : S) (said meant : Result T Fault) (fault found : Fault) → said ≡ meant → Refuses said found → fault ≡ found
    → Refuses (told_step f state meant) fault
refused_as {T} {S} f state said meant fault found same r e = refused_by (λ v. (f v, state)) meant fault found (subst (λ (o : Result T Fault). Refuses o found) same r) e

pub replied_as : {T S : Type 0} (f : T → List Word) (state : S) (said meant : Result T Fault) (value : T) (result : Result (List Word) Fault) → said ≡ meant → said ≡ Ok value
    → IfOk result (λ reply. reply ≡ f value) → IsOkUnless result NoMemory → Answers (told_step f state meant) state result state
replied_as f state said meant value result same e ok err = replied_with state f meant value result (sym same ∙ e) ok err

-- one more of a list that is gone over, by what is made of it
pub one_more : {A B : Type 0} (f : A → B) (done new : List B) (made : B) (xs : List A) (i : ℕ) (x : A) → new ≡ done ++ made ∷ [] → made ≡ f x → i < length xs → x ≡ get_or xs i x
    → done ++ map f (drop i xs) ≡ map f xs → new ++ map f (drop (i + 1) xs) ≡ map f xs
one_more {A} f done new made xs i x pushed is_made h is before =
    ap (λ l. l ++ map f (drop (i + 1) xs)) pushed
    ∙ append_assoc done (made ∷ []) (map f (drop (i + 1) xs))
    ∙ (λ j. done ++ (is_made j ∷ map f (drop (add-one i j) xs)))
    ∙ ap (λ (l : List A). done ++ map f l) ((λ j. is j ∷ drop (suc i) xs) ∙ sym (drop-cons xs i x h)) ∙ before

-- where a word is made of it
pub one_more_word : {A : Type 0} (f : A → Word) (words new : List (String Global)) (word : String Global) (xs : List A) (i : ℕ) (x : A) → new ≡ words ++ word ∷ [] → string_bytes word ≡ f x
    → i < length xs → x ≡ get_or xs i x → as_words words ++ map f (drop i xs) ≡ map f xs → as_words new ++ map f (drop (i + 1) xs) ≡ map f xs
one_more_word f words new word xs i x pushed made h is before =
    let b : String Global → Word = λ w. string_bytes w in
    one_more f (map b words) (map b new) (b word) xs i x (ap (map b) pushed ∙ map-append b words (word ∷ [])) made h is before

-- where several words are made of it
pub one_more_of : {A : Type 0} (f : A → List Word) (done new : List Word) (xs : List A) (i : ℕ) (x : A) → new ≡ done ++ f x → i < length xs → x ≡ get_or xs i x
    → done ++ flat_map f (drop i xs) ≡ flat_map f xs → new ++ flat_map f (drop (i + 1) xs) ≡ flat_map f xs
one_more_of {A} f done new xs i x pushed h is before =
    ap (λ l. l ++ flat_map f (drop (i + 1) xs)) pushed
    ∙ append_assoc done (f x) (flat_map f (drop (i + 1) xs))
    ∙ (λ j. done ++ (f x ++ flat_map f (drop (add-one i j) xs)))
    ∙ ap (λ (l : List A). done ++ flat_map f l) ((λ j. is j ∷ drop (suc i) xs) ∙ sym (drop-cons xs i x h)) ∙ before

-- words by their number
pub single : (words : List (String Global)) (x : String Global) → 1 ≤ length words → length words < 2 → x ≡ get_or words 0 x → as_words words ≡ string_bytes x ∷ []
single [] x h k a = absurd (omega arith)
single (w ∷ []) x h k a = rw a refl
single (w ∷ v ∷ words) x h k a = absurd (omega arith)

pub pair : (words : List (String Global)) (x y : String Global) → 2 ≤ length words → length words < 3 → x ≡ get_or words 0 x → y ≡ get_or words 1 y
    → as_words words ≡ string_bytes x ∷ string_bytes y ∷ []
pair [] x y h k a b = absurd (omega arith)
pair (w ∷ []) x y h k a b = absurd (omega arith)
pair (w ∷ v ∷ []) x y h k a b = rw (a, b) refl
pair (w ∷ v ∷ u ∷ words) x y h k a b = absurd (omega arith)

-- the texts of indices that are neither one nor two
pub get_of_many : (view : ViewValue) (words : List (String Global)) → (length words ≡ 1 → ⊥) → (length words ≡ 2 → ⊥)
    → get_step view (as_words words) ≡ told_step (λ texts. texts) view (got_list view (as_words words))
get_of_many view [] one two = refl
get_of_many view (w ∷ []) one two = absurd (one refl)
get_of_many view (w ∷ v ∷ []) one two = absurd (two refl)
get_of_many view (w ∷ v ∷ u ∷ words) one two = refl

-- what a request does to what the widget shows, as one to the text
pub lifted : (state : EditedValue) (outcome : Outcome ViewValue) (result : Result (List Word) Fault) (new : ViewValue) → Answers outcome state.view result new
    → Answers (on_view state outcome) state result (record state { view = new })
lifted state outcome (Ok reply) new h = ap (on_view state) h
lifted state outcome (Err fault) new h = (λ i. record state { view = h.0 i }, refused_by (λ answer. (answer.0, record state { view = answer.1 })) outcome fault fault h.1 refl)

pub told_to : (state : EditedValue) (view : ViewValue) (recording : Recording) → edited view recording ≡ state → (outcome : ViewValue → Outcome ViewValue) (result : Result (List Word) Fault)
    → Answers (outcome view) view result view → Answers (on_view state (outcome state.view)) state result state
told_to state view recording e outcome result h =
    subst (λ (s : EditedValue). Answers (on_view s (outcome s.view)) s result s) e (lifted (edited view recording) (outcome view) result view h)

-- what a request does to what is shown, asked of a view that is borrowed
pub as_shown : {S : Type 0} (shown view : S) → shown ≡ view → (outcome : S → Outcome S) (result : Result (List Word) Fault) → Answers (outcome shown) shown result shown
    → Answers (outcome view) view result view
as_shown {S} shown view same outcome result h = subst (λ (v : S). Answers (outcome v) v result v) same h

pub told_shown : (state : EditedValue) (view shown : ViewValue) (recording : Recording) → edited view recording ≡ state → shown ≡ view → (outcome : ViewValue → Outcome ViewValue)
    (result : Result (List Word) Fault) → Answers (outcome shown) shown result shown → Answers (on_view state (outcome state.view)) state result state
told_shown state view shown recording e same outcome result h = told_to state view recording e outcome result (as_shown shown view same outcome result h)
