-- The parts of requests: words, and texts with their tags.
use Rattle.std.specs.Prelude.{List, [], ◌∷◌, Option, Some, None, option_map, ok_or, Result, Ok, Err}
use Rattle.rt_stamps.specs.declared.fault.Fault.{Fault}
use Rattle.rt_stamps.specs.declared.fault.Fault.TheVariants.{BadCommand}
use Rattle.rt_stamps.specs.Words.{Word}

-- one word or more
pub record Several : Type 0 where
  pub first : Word
  pub others : List Word

abbrev pub all_of : Several → List Word
all_of words = words.first ∷ words.others

-- some words, where there is one
abbrev pub several : List Word → Option Several
several [] = None
several (word ∷ words) = Some (record { first = word; others = words })

abbrev pub several_or_empty : List Word → Several
several_or_empty [] = record { first = []; others = [] }
several_or_empty (word ∷ words) = record { first = word; others = words }

-- a text with the names of its tags
pub record TaggedTextValue : Type 0 where
  pub text : Word
  pub tags : List Word

-- texts with tags, and a text without a list behind them
pub record TextsValue : Type 0 where
  pub pieces : List TaggedTextValue
  pub rest : Word

-- a request of one word or more
abbrev pub of_several : {T : Type 0} → (Several → T) → List Word → Result T Fault
of_several request words = ok_or (option_map request (several words)) BadCommand

-- a request of one word
abbrev pub of_one : {T : Type 0} → (Word → T) → List Word → Result T Fault
of_one request (word ∷ []) = Ok (request word)
of_one request [] = Err BadCommand
of_one request (word ∷ more ∷ words) = Err BadCommand
