-- That the index of a place names it.
use Rattle.std.proofs.Common.{◌≡◌, ◌∙◌, ◌+◌, ◌<◌, ◌≤◌, ◌^◌, ◌++◌, [], ◌∷◌, ℕ, List, Ok, Some, ap, arith, append-nil, inl, length, min, refl, sym, None}
use Rattle.std.specs.Prelude.{codes}
use Rattle.std.specs.Fmt.{decimal}
use Rattle.std.proofs.lemmas.Fmt.{decimal_is_IsNumeral}
use Rattle.rt_stamps.specs.Places.{EndsWithNewline, place_at}
use Rattle.rt_index.specs.declared.parts.Modifier.TheVariants.{Forward}
use Rattle.rt_index.specs.declared.parts.Sign.TheVariants.{Plus}
use Rattle.rt_index.specs.declared.parts.Step.TheVariants.{Characters}
use Rattle.rt_index.specs.Grammar.{IsMove}
use Rattle.rt_index.specs.Index.{index_of, moved_from}
use Rattle.rt_index.specs.Reading.{modifiers_of}
use Rattle.rt_index.specs.Widget.{IndexedWidget}
use Rattle.rt_index.proofs.Digits.{own}
use Rattle.rt_index.proofs.Places.{lines_some}
use Rattle.rt_index.proofs.Whole.{complete}
use Rattle.rt_text.specs.PlaceWords.{place_word}

-- `+Nc`
abbrev ahead : ℕ → List ℕ
ahead n = codes "+" ++ (decimal n ++ codes "c")

ahead_moves : (n : ℕ) → n < 2 ^ 64 → IsMove (ahead n) (Forward n Characters)
ahead_moves n small =
    let number = decimal_is_IsNumeral n small in
    record {
      before = 0;
      sign = Plus;
      between = 0;
      second = None;
      digits = decimal n;
      after = 0;
      any = [];
      name = codes "c";
      step = Characters;
      number = (number.0.0, own.from (decimal n) number.0.1);
      passed_over = inl refl;
      unit = (omega arith, inl (codes "hars", refl));
      spelled = refl;
      means = ap (λ k. Forward k Characters) (sym number.1);
    }

ahead_read : (n : ℕ) → n < 2 ^ 64 → modifiers_of (ahead n) ≡ Some (Forward n Characters ∷ [])
ahead_read n small =
    complete (ahead n) (Forward n Characters ∷ []) (ahead n, [], inl (ahead_moves n small), (0, refl), sym (append-nil (ahead n)))

-- the first place of a text
first_place : (text : List ℕ) → EndsWithNewline text → place_at text (record { line = 1; character = 0 }) ≡ 0
first_place text h = grind (arith, lines_some text h)

pub named_any : (w : IndexedWidget) (place : ℕ) → EndsWithNewline w.text → place < 2 ^ 64 → index_of w (place_word place) ≡ Ok (min place (length w.text))
named_any w place ends small =
    let moved : min (0 + place) (length w.text) ≡ min place (length w.text) = omega arith in
    ap (moved_from w.text (Ok (place_at w.text (record { line = 1; character = 0 })))) (ahead_read place small)
    ∙ ap (λ first. Ok (min (first + place) (length w.text))) (first_place w.text ends)
    ∙ ap (λ p. Ok p) moved

pub named_within : (w : IndexedWidget) (place : ℕ) → EndsWithNewline w.text → place < 2 ^ 64 → place ≤ length w.text → index_of w (place_word place) ≡ Ok place
named_within w place ends small within =
    let same : min place (length w.text) ≡ place = omega arith in
    named_any w place ends small ∙ ap (λ p. Ok p) same
