-- Words with a space before each, written in two steps.
use Rattle.std.proofs.Common.{◌≡◌, ◌∙◌, List, [], ◌∷◌, ◌++◌, Result, Ok, Err, sym, ap, subst, map, append_assoc, codes, String, Global, string_bytes}
use Rattle.std.specs.List.{flat_map}
use Rattle.std.specs.Fmt.{decimal}
use Rattle.std.proofs.lemmas.Grind.{flat_map-append}
use Rattle.std.proofs.lemmas.List.Folds.{flat_map-map}
use Rattle.rt_stamps.specs.Words.{Word, as_words}
use Rattle.rt_words.specs.Writing.{text_of_word}
use Rattle.rt_stamps.specs.declared.fault.Fault.{Fault}
use Rattle.rt_stamps.specs.Streams.{Stream}
use Rattle.rt_stamps.specs.Written.{WritesText}
use Rattle.rt_stamps.proofs.Writes.{writes_front, writes_then}
use Rattle.rt_ops.specs.Operations.{Operation, stamp_of}
use Rattle.rt_files.specs.Shown.{kind_word, shown_line, spaced, text_of_stamp, words_of}

-- a front of the first words was written
pub words_front : {T U : Type 0} (a b : Stream) (e : Fault) (words more : List Word) → WritesText {T = T} a b (Err e) (spaced words)
    → WritesText {T = U} a b (Err e) (spaced (words ++ more))
words_front {T} {U} a b e words more front =
    subst (λ v. WritesText {T = U} a b (Err e) v) (sym (flat_map-append (λ word. 32 ∷ word) words more)) (writes_front a b e _ _ front)

-- some words were written, and then more
pub words_then : {T U X : Type 0} (f : X → Word) (a b c : Stream) (x : T) (r : Result U Fault) (words : List Word) (xs : List X)
    → WritesText {T = T} a b (Ok x) (spaced words) → WritesText b c r (flat_map (λ x. 32 ∷ f x) xs) → WritesText a c r (spaced (words ++ map f xs))
words_then f a b c x r words xs one more =
    subst (λ v. WritesText a c r v) (sym (flat_map-append (λ word. 32 ∷ word) words (map f xs) ∙ ap (λ v. spaced words ++ v) (flat_map-map (λ word. 32 ∷ word) f xs)))
    (writes_then a b c x r _ _ one more)

-- some words were written, and then names, as texts and as bytes
pub names_then : {T U : Type 0} (a b c : Stream) (x : T) (r : Result U Fault) (words : List Word) (names : List (String Global))
    → WritesText {T = T} a b (Ok x) (spaced words) → WritesText b c r (flat_map (λ name. 32 ∷ text_of_word (string_bytes name)) names)
    → WritesText a c r (spaced (words ++ map text_of_word (as_words names)))
names_then a b c x r words names one more =
    words_then text_of_word a b c x r words (as_words names) one
    (subst (λ v. WritesText b c r v) (sym (flat_map-map (λ name. 32 ∷ text_of_word name) (λ name. string_bytes name) names)) more)

-- the words of a line, in the three steps that write them
pub line_is : (op : Operation) → shown_line op ≡ ((kind_word op.body ++ spaced (text_of_stamp (stamp_of op) ∷ codes "prev" ∷ decimal op.prev ∷ [])) ++ spaced (words_of op.body)) ++ (10 ∷ [])
line_is op =
    let head : List Word = text_of_stamp (stamp_of op) ∷ codes "prev" ∷ decimal op.prev ∷ [] in
    let kind = kind_word op.body in
    let rest = spaced (words_of op.body) in
    ap (λ v. kind ++ (v ++ (10 ∷ []))) (flat_map-append (λ word. 32 ∷ word) head (words_of op.body))
    ∙ ap (λ v. kind ++ v) (append_assoc (spaced head) rest (10 ∷ []))
    ∙ sym (append_assoc kind (spaced head) (rest ++ (10 ∷ []))) ∙ sym (append_assoc (kind ++ spaced head) rest (10 ∷ []))
