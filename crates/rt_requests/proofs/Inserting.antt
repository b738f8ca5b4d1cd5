-- `insert` and `replace` of indices and words behind them.
use Rattle.std.proofs.Common.{◌≡◌, ◌⊎◌, ◌==◌, Err, List, [], ◌∷◌, false, length, String, Global}
use Rattle.rt_stamps.specs.declared.fault.Fault.TheVariants.{NoMemory}
use Rattle.rt_stamps.specs.Words.{Word, as_words}
use Rattle.rt_requests.specs.declared.request.Request.TheVariants.{Insert, Replace}
use Rattle.rt_requests.specs.Asking.{Asked, AsksInsert, AsksReplace, AsksTexts}

-- what is read is asked for, or memory was wanting
abbrev pub OrNoMemory : Type 0 → Asked → Type 0
OrNoMemory asks result = asks ⊎ (result ≡ Err NoMemory)

pub insert_of_some : (result : Asked) (index : Word) (texts : List (String Global)) → (length texts == 0) ≡ false
    → OrNoMemory (AsksTexts (Insert index) (as_words texts) result) result
    → OrNoMemory (AsksInsert (index ∷ as_words texts) result) result
insert_of_some result index [] h t = absurd (cc)
insert_of_some result index (text ∷ texts) h t = t

pub replace_of_some : (result : Asked) (from to : Word) (texts : List (String Global)) → (length texts == 0) ≡ false
    → OrNoMemory (AsksTexts (Replace from to) (as_words texts) result) result
    → OrNoMemory (AsksReplace (from ∷ to ∷ as_words texts) result) result
replace_of_some result from to [] h t = absurd (cc)
replace_of_some result from to (text ∷ texts) h t = t
