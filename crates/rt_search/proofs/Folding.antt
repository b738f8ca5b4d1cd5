-- One match more of a stretch that is taken, or passed over.
use Rattle.std.proofs.Common.{◌≡◌, ◌+◌, ◌-◌, ◌<◌, ◌∷◌, ◌++◌, [], ℕ, Bool, true, false, cond, List, get_or, arith, ap, sym, ◌∙◌}
use Rattle.std.specs.Prelude.{fold}
use Rattle.rt_search.specs.declared.search.Direction.{Direction}
use Rattle.rt_search.specs.declared.search.Direction.TheVariants.{Forwards, Backwards}
use Rattle.rt_search.specs.declared.search.Overlaps.{Overlaps}
use Rattle.rt_lines.specs.declared.stretch.Stretch.{Stretch}
use Rattle.rt_search.specs.Searches.{is_taken, ordered_places, with_match}
use Rattle.rt_search.proofs.Ending.{IsAt}
use Rattle.rt_search.proofs.Orders.{backwards_at, forwards_at}

pub at_place : (d : Direction) (s : Stretch) (i p : ℕ) → i < s.end - s.begin → p ≡ get_or (ordered_places d s) i p → IsAt d s i p
at_place Forwards s i p h e = let same : p ≡ s.begin + i = e ∙ forwards_at s i p h in (same, omega arith)
at_place Backwards s i p h e = let same : p ≡ s.end - 1 - i = e ∙ backwards_at s i p h in (omega arith, omega arith)

pub next_taken : (o : Overlaps) (m : ℕ) (old all taken : List ℕ) (place : ℕ) (before after now : List ℕ) → fold (with_match o m) old all ≡ fold (with_match o m) taken before
    → before ≡ place ∷ after → with_match o m taken place ≡ now → fold (with_match o m) old all ≡ fold (with_match o m) now after
next_taken o m old all taken place before after now h e w = h ∙ ap (fold (with_match o m) taken) e ∙ ap (λ places. fold (with_match o m) places after) w

pub took : (o : Overlaps) (m : ℕ) (taken now : List ℕ) (place : ℕ) → is_taken o m taken place ≡ true → now ≡ taken ++ place ∷ [] → with_match o m taken place ≡ now
took o m taken now place h e = ap (λ b. cond b (taken ++ place ∷ []) taken) h ∙ sym e

pub passed : (o : Overlaps) (m : ℕ) (taken : List ℕ) (place : ℕ) → is_taken o m taken place ≡ false → with_match o m taken place ≡ taken
passed o m taken place h = ap (λ b. cond b (taken ++ place ∷ []) taken) h

-- what the test of a match has told, which reads the list through a reference
pub told : (o : Overlaps) (m place : ℕ) (taken seen : List ℕ) (r b : Bool) → seen ≡ taken → r ≡ is_taken o m seen place → r ≡ b → is_taken o m taken place ≡ b
told o m place taken seen r b e f g = ap (λ (xs : List ℕ). is_taken o m xs place) (sym e) ∙ sym f ∙ g
