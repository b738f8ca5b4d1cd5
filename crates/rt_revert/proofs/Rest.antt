-- What is left of lists, step by step.
use Rattle.std.proofs.Common.{◌≡◌, ◌∙◌, ℕ, zero, suc, ◌+◌, ◌≤◌, ◌<◌, false, List, [], ◌∷◌, drop, get_or, length, map, refl, sym, ap, arith}
use Rattle.std.proofs.lemmas.Bool.{or_parts}
use Rattle.std.proofs.lemmas.List.{drop_more}
use Rattle.rt_stamps.specs.declared.stamp.Stamp.{Stamp}
use Rattle.rt_store.specs.declared.cell.Cell.{Cell}
use Rattle.rt_store.specs.Cells.{gone_in, is_in_span}
use Rattle.rt_store.specs.Spans.{gone_in_any, is_in_spans}
use Rattle.rt_store.proofs.Gone.{gone_more}
use Rattle.rt_undo.specs.declared.action.RemovedSpan.{RemovedSpan}
use Rattle.rt_revert.specs.Progress.{spans_of}

-- nothing is left past the end
pub none_left : {X : Type 0} (xs : List X) (i : ℕ) → length xs ≤ i → drop i xs ≡ []
none_left [] zero h = refl
none_left [] (suc i) h = refl
none_left (x ∷ xs) zero h = absurd (omega arith)
none_left (x ∷ xs) (suc i) h = none_left xs i (omega arith)

-- the element at an index, and those behind it
pub next_left : {X : Type 0} (xs : List X) (i : ℕ) (x : X) → i < length xs → x ≡ get_or xs i x → drop i xs ≡ x ∷ drop (i + 1) xs
next_left xs i x lt e = drop_more xs i x lt ∙ ap (λ y. y ∷ drop (i + 1) xs) (sym e)

pub span_apart : (removed : List RemovedSpan) (i : ℕ) (part : RemovedSpan) (s : Stamp) → i < length removed → part ≡ get_or removed i part
    → is_in_spans (spans_of removed) s ≡ false → is_in_span part.span s ≡ false
span_apart [] i part s lt e h = absurd (omega arith)
span_apart (r ∷ removed) zero part s lt e h = ap (λ (x : RemovedSpan). is_in_span x.span s) e ∙ (or_parts (is_in_span r.span s) _ h).0
span_apart (r ∷ removed) (suc i) part s lt e h = span_apart removed i part s (omega arith) e (or_parts (is_in_span r.span s) _ h).1

pub gone_on : (removed : List RemovedSpan) (cells : List (Cell ℕ)) (i : ℕ) (part : RemovedSpan) → i < length removed → part ≡ get_or removed i part
    → map (gone_in_any (spans_of (drop (i + 1) removed))) (map (gone_in part.span) cells) ≡ map (gone_in_any (spans_of (drop i removed))) cells
gone_on removed cells i part lt e =
    gone_more part.span (spans_of (drop (i + 1) removed)) cells ∙ ap (λ l. map (gone_in_any (spans_of l)) cells) (sym (next_left removed i part lt e))
