-- Words that are kept while the modifiers of one expression are applied.
use Rattle.std.specs.Prelude.{◌≡◌, ◌<◌, ◌≤◌, ℕ, List}
use Rattle.std.specs.List.{All}
use Rattle.rt_index.specs.declared.words.WordPlaces.{WordPlaces}
use Rattle.rt_index.specs.Values.{word_start, word_end}

-- a stretch that is the word of a place
pub record IsWordAt (text : List ℕ) (place : ℕ) (word : WordPlaces) : Type 0 where
  pub first : word.first ≡ word_start text place
  pub end : word.end ≡ word_end text place

-- a stretch that is the word of each of its places, or an empty one
pub record IsWord (text : List ℕ) (word : WordPlaces) : Type 0 where
  pub at : (place : ℕ) → word.first ≤ place → place < word.end → IsWordAt text place word

pub record AreWords (text : List ℕ) (words : List WordPlaces) : Type 0 where
  pub each : All (IsWord text) words
