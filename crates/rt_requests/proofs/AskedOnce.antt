-- Words ask for one thing alone.
use Rattle.std.proofs.Common.{◌≡◌, ◌∙◌, inl, inr, ℕ, Ok, List, [], ◌∷◌, Bool, true, false, ap, sym, subst, codes, bytes_eq}
use Rattle.std.specs.Prelude.{MatchBool}
use Rattle.rt_stamps.specs.Words.{Word}
use Rattle.rt_words.specs.Spelling.{SpellsList}
use Rattle.rt_words.proofs.Spelling.{list_spells_one}
use Rattle.rt_requests.specs.declared.request.Request.{Request}
use Rattle.rt_requests.specs.declared.request.Request.TheVariants.{Insert, Replace}
use Rattle.rt_requests.specs.Parts.{TaggedTextValue, TextsValue}
use Rattle.rt_requests.specs.Asking.{Asked, Asks, AsksInsert, AsksReplace, AsksTexts, asked_of}
use Rattle.rt_requests.proofs.ReadTexts.{one_reading}

-- a list spells at most one list of words
abbrev Unique : Type 0
Unique = (list : List ℕ) (a b : List Word) → SpellsList list a → SpellsList list b → a ≡ b

abbrev texts_of : List TaggedTextValue → Word → TextsValue
texts_of pieces rest = record { pieces = pieces; rest = rest }

same_texts : (x y : TextsValue) → x.pieces ≡ y.pieces → x.rest ≡ y.rest → x ≡ y
same_texts x y e f = subst (λ (v : List TaggedTextValue). texts_of x.pieces x.rest ≡ texts_of v y.rest) e (ap (texts_of x.pieces) f)

one_of_texts : Unique → (request : TextsValue → Request) (words : List Word) (one other : Asked) → AsksTexts request words one → AsksTexts request words other → one ≡ other
one_of_texts unique request words one other (inl h) (inl k) =
    let same = one_reading unique words h.0.pieces k.0.pieces h.0.rest k.0.rest h.1 k.1 in
    h.2 ∙ ap (λ texts. Ok (request texts)) (same_texts h.0 k.0 same.0 same.1) ∙ sym k.2
one_of_texts unique request words one other (inl h) (inr k) = absurd (k.0 h.0.pieces h.0.rest h.1)
one_of_texts unique request words one other (inr h) (inl k) = absurd (h.0 k.0.pieces k.0.rest k.1)
one_of_texts unique request words one other (inr h) (inr k) = h.1 ∙ sym k.1

one_insert : Unique → (words : List Word) (one other : Asked) → AsksInsert words one → AsksInsert words other → one ≡ other
one_insert unique [] one other h k = h ∙ sym k
one_insert unique (index ∷ []) one other h k = h ∙ sym k
one_insert unique (index ∷ text ∷ words) one other h k = one_of_texts unique (Insert index) (text ∷ words) one other h k

one_replace : Unique → (words : List Word) (one other : Asked) → AsksReplace words one → AsksReplace words other → one ≡ other
one_replace unique [] one other h k = h ∙ sym k
one_replace unique (from ∷ []) one other h k = h ∙ sym k
one_replace unique (from ∷ to ∷ []) one other h k = h ∙ sym k
one_replace unique (from ∷ to ∷ text ∷ words) one other h k = one_of_texts unique (Replace from to) (text ∷ words) one other h k

abbrev by_command : Bool → Bool → List Word → Asked → Asked → Type 0
by_command is_insert is_replace words asked one = MatchBool is_insert (AsksInsert words one) (MatchBool is_replace (AsksReplace words one) (one ≡ asked))

one_of : Unique → (is_insert is_replace : Bool) (words : List Word) (asked one other : Asked) → by_command is_insert is_replace words asked one
    → by_command is_insert is_replace words asked other → one ≡ other
one_of unique true is_replace words asked one other h k = one_insert unique words one other h k
one_of unique false true words asked one other h k = one_replace unique words one other h k
one_of unique false false words asked one other h k = h ∙ sym k

pub asked_once : Unique → (words : List Word) (one other : Asked) → Asks words one → Asks words other → one ≡ other
asked_once unique [] one other h k = h ∙ sym k
asked_once unique (name ∷ words) one other h k =
    one_of unique (bytes_eq name (codes "insert")) (bytes_eq name (codes "replace")) words (asked_of name words) one other h k

pub one_asked : (words : List Word) (one other : Asked) → Asks words one → Asks words other → one ≡ other
one_asked = asked_once list_spells_one
