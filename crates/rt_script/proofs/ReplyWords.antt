-- The words of a reply, and the text of a word.
use Rattle.std.proofs.Common.{◌≡◌, ◌++◌, [], ℕ, List, ◌∷◌, Option, IfSome, sym, subst, Result, String, Global, string_bytes}
use Rattle.std.specs.List.{flat_map}
use Rattle.std.proofs.lemmas.List.Folds.{flat_map-map}
use Rattle.rt_words.specs.Writing.{text_of_word}
use Rattle.rt_stamps.specs.declared.fault.Fault.{Fault}
use Rattle.rt_stamps.specs.Streams.{Stream}
use Rattle.rt_stamps.specs.Written.{WritesText}
use Rattle.rt_stamps.specs.Words.{as_words}

-- the words of a reply, as texts and as bytes
pub reply_words : {T : Type 0} (a b : Stream) (r : Result T Fault) (ws : List (String Global)) → WritesText a b r (61 ∷ flat_map (λ w. 32 ∷ text_of_word (string_bytes w)) ws)
    → WritesText a b r (61 ∷ flat_map (λ w. 32 ∷ text_of_word w) (as_words ws))
reply_words a b r ws h = subst (λ v. WritesText a b r (61 ∷ v)) (sym (flat_map-map (λ w. 32 ∷ text_of_word w) (λ w. string_bytes w) ws)) h

-- the words of a reply that were put behind bytes, as texts and as bytes
pub pushed_words : (old new : List ℕ) (r : Option (Unit {0})) (ws : List (String Global)) → IfSome r (λ _. new ≡ old ++ ((61 ∷ flat_map (λ w. 32 ∷ text_of_word (string_bytes w)) ws) ++ (10 ∷ [])))
    → IfSome r (λ _. new ≡ old ++ ((61 ∷ flat_map (λ w. 32 ∷ text_of_word w) (as_words ws)) ++ (10 ∷ [])))
pushed_words old new r ws h =
    subst (λ v. IfSome r (λ _. new ≡ old ++ ((61 ∷ v) ++ (10 ∷ [])))) (sym (flat_map-map (λ w. 32 ∷ text_of_word w) (λ w. string_bytes w) ws)) h
