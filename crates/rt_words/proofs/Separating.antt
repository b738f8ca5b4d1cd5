-- What separates words is no quote and no brace, and stands as one byte.
use Rattle.std.proofs.Common.{◌≡◌, ℕ, ◌<◌, Bool, true, false, refl, arith}
use Rattle.std.proofs.lemmas.Bool.Decides.{nat_tests}
use Rattle.rt_words.specs.Spelling.{is_blank}
use Rattle.rt_words.specs.Spelling.{is_list_blank}
use Rattle.rt_words.specs.Separators.{separates}
use Rattle.rt_words.specs.declared.words.Separators.{Separators}
use Rattle.rt_words.specs.declared.words.Separators.TheVariants.{OfLine, OfList}

pub record IsSeparating (separates : ℕ → Bool) : Type 0 where
  pub quote : separates 34 ≡ false
  pub brace : separates 123 ≡ false
  pub ascii : (c : ℕ) → separates c ≡ true → c < 128

blank_ascii : (c : ℕ) → is_blank c ≡ true → c < 128
blank_ascii c h = grind (arith, nat_tests)

list_blank_ascii : (c : ℕ) → is_list_blank c ≡ true → c < 128
list_blank_ascii c h = grind (arith, nat_tests)

pub separating : (s : Separators) → IsSeparating (separates s)
separating OfLine = record { quote = refl; brace = refl; ascii = blank_ascii }
separating OfList = record { quote = refl; brace = refl; ascii = list_blank_ascii }
