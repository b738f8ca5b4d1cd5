-- What separates the words of a text, by what the text is.
use Rattle.std.specs.Prelude.{ℕ, Bool}
use Rattle.rt_words.specs.Spelling.{is_blank}
use Rattle.rt_words.specs.Spelling.{is_list_blank}
use Rattle.rt_words.specs.declared.words.Separators.{Separators}
use Rattle.rt_words.specs.declared.words.Separators.TheVariants.{OfLine, OfList}

abbrev pub separates : Separators → ℕ → Bool
separates OfLine = is_blank
separates OfList = is_list_blank
