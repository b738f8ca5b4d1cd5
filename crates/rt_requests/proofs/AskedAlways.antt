-- Words ask for something, or are refused.
use Rattle.std.proofs.Common.{◌≡◌, ◌⊎◌, inl, inr, ℕ, Ok, Err, List, [], ◌∷◌, Bool, true, false, refl, codes, bytes_eq}
use Rattle.std.specs.Prelude.{MatchBool}
use Rattle.rt_stamps.specs.declared.fault.Fault.TheVariants.{BadCommand, BadQuoting}
use Rattle.rt_stamps.specs.Words.{Word}
use Rattle.rt_words.specs.Spelling.{IsBadlyQuotedList, SpellsList}
use Rattle.rt_words.proofs.Deciding.{list_spells}
use Rattle.rt_requests.specs.declared.request.Request.{Request}
use Rattle.rt_requests.specs.declared.request.Request.TheVariants.{Insert, Replace}
use Rattle.rt_requests.specs.Parts.{TextsValue}
use Rattle.rt_requests.specs.Asking.{AreNoTexts, AreTexts, Asked, Asks, AsksInsert, AsksReplace, AsksTexts, asked_of}

-- a list spells words or is badly quoted
abbrev Total : Type 0
Total = (list : List ℕ) → ((words : List Word) × SpellsList list words) ⊎ IsBadlyQuotedList list

-- words are texts with their lists, or one of the lists spells no words
abbrev Texts : List Word → Type 0
Texts words = ((texts : TextsValue) × AreTexts words texts.pieces texts.rest) ⊎ AreNoTexts words

-- a text and its list before others
texts_by : (text list : Word) (words : List Word) → ((tags : List Word) × SpellsList list tags) ⊎ IsBadlyQuotedList list → Texts words → Texts (text ∷ list ∷ words)
texts_by text list words (inl s) (inl h) =
    inl (record { pieces = record { text = text; tags = s.0 } ∷ h.0.pieces; rest = h.0.rest }, (refl, s.1, h.1))
texts_by text list words (inl s) (inr none) = inr no
  where
    no : AreNoTexts (text ∷ list ∷ words)
    no [] rest h = absurd h
    no (piece ∷ pieces) rest h = none pieces rest h.2
texts_by text list words (inr bad) m = inr no
  where
    no : AreNoTexts (text ∷ list ∷ words)
    no [] rest h = absurd h
    no (piece ∷ pieces) rest h = bad piece.tags h.1

texts : Total → (words : List Word) → Texts words
texts total [] = inl (record { pieces = []; rest = [] }, (refl, refl))
texts total (text ∷ []) = inl (record { pieces = []; rest = text }, (refl, refl))
texts total (text ∷ list ∷ words) = texts_by text list words (total list) (texts total words)

ask_texts : (request : TextsValue → Request) (words : List Word) → Texts words → (asked : Asked) × AsksTexts request words asked
ask_texts request words (inl h) = (Ok (request h.0), inl (h.0, h.1, refl))
ask_texts request words (inr none) = (Err BadQuoting, inr (none, refl))

ask_insert : Total → (words : List Word) → (asked : Asked) × AsksInsert words asked
ask_insert total [] = (Err BadCommand, refl)
ask_insert total (index ∷ []) = (Err BadCommand, refl)
ask_insert total (index ∷ text ∷ words) = ask_texts (Insert index) (text ∷ words) (texts total (text ∷ words))

ask_replace : Total → (words : List Word) → (asked : Asked) × AsksReplace words asked
ask_replace total [] = (Err BadCommand, refl)
ask_replace total (from ∷ []) = (Err BadCommand, refl)
ask_replace total (from ∷ to ∷ []) = (Err BadCommand, refl)
ask_replace total (from ∷ to ∷ text ∷ words) = ask_texts (Replace from to) (text ∷ words) (texts total (text ∷ words))

-- `insert`, `replace`, or a command without lists of tags
ask_of : Total → (is_insert is_replace : Bool) (words : List Word) (other : Asked)
    → (asked : Asked) × MatchBool is_insert (AsksInsert words asked) (MatchBool is_replace (AsksReplace words asked) (asked ≡ other))
ask_of total true is_replace words other = ask_insert total words
ask_of total false true words other = ask_replace total words
ask_of total false false words other = (other, refl)

pub asked_always : Total → (words : List Word) → (asked : Asked) × Asks words asked
asked_always total [] = (Err BadCommand, refl)
asked_always total (name ∷ words) = ask_of total (bytes_eq name (codes "insert")) (bytes_eq name (codes "replace")) words (asked_of name words)

pub asked_some : (words : List Word) → (asked : Asked) × Asks words asked
asked_some = asked_always list_spells
