-- What a part of a line is written as.
use Rattle.std.specs.Prelude.{ℕ, List, encode_utf8_all}
use Rattle.std.specs.Fmt.{decimal}
use Rattle.rt_words.specs.Writing.{text_of_word}
use Rattle.rt_files.specs.Shown.{text_of_stamp, text_of_span}
use Rattle.rt_files.specs.declared.parts.Part.{Part}
use Rattle.rt_files.specs.declared.parts.Part.TheVariants as parts

abbrev pub text_of_part : Part → List ℕ
text_of_part (parts.Letters letters) = letters.now
text_of_part (parts.Number number) = decimal number
text_of_part (parts.Stamp stamp) = text_of_stamp stamp
text_of_part (parts.Span span) = text_of_span span
text_of_part (parts.Name name) = text_of_word name.now
text_of_part (parts.Text text) = text_of_word (encode_utf8_all text.now)
