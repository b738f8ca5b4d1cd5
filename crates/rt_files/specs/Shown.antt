-- The lines of operations, as `show` writes them.
use Rattle.std.specs.Prelude.{ℕ, List, [], ◌∷◌, ◌++◌, map, flat_map, codes, encode_utf8_all, if◌then◌else◌}
use Rattle.std.specs.Fmt.{decimal}
use Rattle.rt_stamps.specs.declared.stamp.Span.{Span}
use Rattle.rt_stamps.specs.declared.stamp.Stamp.{Stamp}
use Rattle.rt_stamps.specs.Words.{Word}
use Rattle.rt_words.specs.Writing.{text_of_word}
use Rattle.rt_ops.specs.Operations.{Body, Insert, Delete, Tag, Operation, stamp_of}

-- COUNT.SITE
abbrev pub text_of_stamp : Stamp → List ℕ
text_of_stamp stamp = decimal stamp.count ++ 46 ∷ decimal stamp.site

-- SITE:FIRST-LAST
abbrev pub text_of_span : Span → List ℕ
text_of_span span = decimal span.site ++ (58 ∷ decimal span.first ++ (45 ∷ decimal span.last))

-- the first word of a line
abbrev pub kind_word : Body → Word
kind_word (Insert after tags text) = codes "insert"
kind_word (Delete spans) = codes "delete"
kind_word (Tag on name spans) = codes "tag"

-- What an operation does, word by word. Texts and names are written as the words of a script.
abbrev pub words_of : Body → List Word
words_of (Insert after tags text) =
    codes "after" ∷ text_of_stamp after ∷ codes "text" ∷ text_of_word (encode_utf8_all text) ∷ codes "tags" ∷ map text_of_word tags
words_of (Delete spans) = codes "spans" ∷ map text_of_span spans
words_of (Tag on name spans) = (if on then codes "on" else codes "off") ∷ text_of_word name ∷ codes "spans" ∷ map text_of_span spans

-- a space before each word
abbrev pub spaced : List Word → List ℕ
spaced words = flat_map (λ word. 32 ∷ word) words

-- the line of an operation: its kind, its stamp, the count before it, and what it does
abbrev pub shown_line : Operation → List ℕ
shown_line op = kind_word op.body ++ (spaced (text_of_stamp (stamp_of op) ∷ codes "prev" ∷ decimal op.prev ∷ words_of op.body) ++ (10 ∷ []))

abbrev pub shown_lines : List Operation → List ℕ
shown_lines ops = flat_map shown_line ops
