-- Words that are read as texts with their lists, one pair after the other.
use Rattle.std.proofs.Common.{◌≡◌, ◌∙◌, ℕ, ◌≤◌, ◌-◌, List, [], ◌∷◌, ◌++◌, take, drop, get_or, length, refl, sym, ap, subst, arith, append_assoc, append-nil, String, Global, string_bytes}
use Rattle.std.proofs.lemmas.List.{take_all}
use Rattle.rt_stamps.specs.Words.{Word, as_words}
use Rattle.rt_words.specs.Spelling.{SpellsList}
use Rattle.rt_requests.specs.Parts.{TaggedTextValue}
use Rattle.rt_requests.specs.Asking.{AreTexts}

-- some pieces were read of words, and so many words are left
pub record Reading (words left : List Word) (pieces : List TaggedTextValue) : Type 0 where
  pub reads_on : (more : List TaggedTextValue) (rest : Word) → AreTexts left more rest → AreTexts words (pieces ++ more) rest
  pub needs : (others : List TaggedTextValue) (rest : Word) → AreTexts words others rest → (more : List TaggedTextValue) × AreTexts left more rest

-- what follows a text and its list
after : (left : List Word) (text list rest : Word) (more : List TaggedTextValue) → AreTexts (text ∷ list ∷ left) more rest → (more : List TaggedTextValue) × AreTexts left more rest
after left text list rest [] h = absurd h
after left text list rest (piece ∷ more) h = (more, h.2)

pub next : (words left : List Word) (text list : Word) (pieces : List TaggedTextValue) (piece : TaggedTextValue) → piece.text ≡ text → SpellsList list piece.tags
    → Reading words (text ∷ list ∷ left) pieces → Reading words left (pieces ++ piece ∷ [])
next words left text list pieces piece e s r = record {
  reads_on = λ more rest h. subst (λ (v : List TaggedTextValue). AreTexts words v rest) (sym (append_assoc pieces (piece ∷ []) more)) (r.reads_on (piece ∷ more) rest (e, s, h));
  needs = λ others rest h. let n = r.needs others rest h in after left text list rest n.0 n.1;
}

-- what is left is a text without a list, or nothing
pub read_all : (words left : List Word) (rest : Word) (pieces : List TaggedTextValue) → AreTexts left [] rest → Reading words left pieces → AreTexts words pieces rest
read_all words left rest pieces h r = subst (λ (v : List TaggedTextValue). AreTexts words v rest) (append-nil pieces) (r.reads_on [] rest h)

-- a text and a list in front, and those behind them, as a slice has them
pub behind_two : (w v : String Global) (words : List (String Global)) → take (length (w ∷ v ∷ words) - 2) (drop 2 (w ∷ v ∷ words)) ≡ words
behind_two w v words = take_all (length (w ∷ v ∷ words) - 2) words (omega arith)

pub two_and_more : (words : List (String Global)) (x y : String Global) → 2 ≤ length words → x ≡ get_or words 0 x → y ≡ get_or words 1 y
    → as_words words ≡ string_bytes x ∷ string_bytes y ∷ as_words (take (length words - 2) (drop 2 words))
two_and_more [] x y h a b = absurd (omega arith)
two_and_more (w ∷ []) x y h a b = absurd (omega arith)
two_and_more (w ∷ v ∷ words) x y h a b = rw (a, b, behind_two w v words) refl

-- ONE READING

abbrev piece_of : Word → List Word → TaggedTextValue
piece_of text tags = record { text = text; tags = tags }

same_piece : (x y : TaggedTextValue) → x.text ≡ y.text → x.tags ≡ y.tags → x ≡ y
same_piece x y e f = subst (λ (v : Word). piece_of x.text x.tags ≡ piece_of v y.tags) e (ap (piece_of x.text) f)

same_front : (x y : TaggedTextValue) (xs ys : List TaggedTextValue) → x ≡ y → xs ≡ ys → x ∷ xs ≡ y ∷ ys
same_front x y xs ys e f = subst (λ (v : TaggedTextValue). x ∷ xs ≡ v ∷ ys) e (ap (λ l. x ∷ l) f)

pub one_reading : ((list : List ℕ) (a b : List Word) → SpellsList list a → SpellsList list b → a ≡ b)
    → (words : List Word) (pieces others : List TaggedTextValue) (rest other : Word) → AreTexts words pieces rest → AreTexts words others other → (pieces ≡ others) × (rest ≡ other)
one_reading unique [] pieces others rest other h k = (h.0 ∙ sym k.0, h.1 ∙ sym k.1)
one_reading unique (text ∷ []) pieces others rest other h k = (h.0 ∙ sym k.0, h.1 ∙ sym k.1)
one_reading unique (text ∷ list ∷ words) [] others rest other h k = absurd h
one_reading unique (text ∷ list ∷ words) (x ∷ pieces) [] rest other h k = absurd k
one_reading unique (text ∷ list ∷ words) (x ∷ pieces) (y ∷ others) rest other h k =
    let more = one_reading unique words pieces others rest other h.2 k.2 in
    (same_front x y pieces others (same_piece x y (h.0 ∙ sym k.0) (unique list x.tags y.tags h.1 k.1)) more.0, more.1)
