-- What the text is after a removal.
use Rattle.std.proofs.Common.{◌≡◌, ℕ, zero, suc, ◌+◌, ◌-◌, ◌<◌, ◌≤◌, ◌⊎◌, inl, inr, List, [], ◌∷◌, ◌++◌, Bool, true, false, cond, not, length, take, drop, map, refl, sym, ◌∙◌, ap, arith}
use Rattle.std.specs.Prelude.{nat_lt}
use Rattle.std.proofs.lemmas.Bool.{cases_lt, and_left, and_right, and_from, cond-true, cond-false, le-leb, lt-leb, lt-ltb, le-ltb}
use Rattle.rt_store.specs.declared.cell.Cell.{Cell}
use Rattle.rt_store.specs.Cells.{visible_of, text_of}
use Rattle.rt_plans.specs.declared.range.Range.{Range}
use Rattle.rt_plans.specs.Merging.{begins_line, spared}
use Rattle.rt_plans.specs.Removals.{is_in, is_removed, gone_at, left_at}
use Rattle.rt_plans.proofs.SparingLaws.{covered_spared}

-- TEXTS OF CELLS

cond_text : {T : Type 0} (x : Cell T) (xs : List (Cell T)) (b : Bool) → text_of (record x { gone = b } ∷ xs) ≡ cond b (text_of xs) (x.ch ∷ text_of xs)
cond_text x xs true = refl
cond_text x xs false = refl

-- the text is what is left
pub text_left : {T : Type 0} (removed : ℕ → Bool) (place : ℕ) (cells : List (Cell T)) → text_of (gone_at removed place cells) ≡ left_at removed place (text_of cells)
text_left {T} removed place [] = refl
text_left {T} removed place (x ∷ xs) =
    elim x.gone as
    (λ b. x.gone ≡ b → text_of (cond b (x ∷ gone_at removed place xs) (record x { gone = removed place } ∷ gone_at removed (place + 1) xs))
    ≡ left_at removed place (map (λ (cell : Cell T). cell.ch) (cond (not b) (x ∷ visible_of xs) (visible_of xs)))) [
      | true ↦ λ e. gone x (gone_at removed place xs) e ∙ text_left removed place xs
      | false ↦ λ e. cond_text x (gone_at removed (place + 1) xs) (removed place) ∙ ap (λ t. cond (removed place) t (x.ch ∷ t)) (text_left removed (place + 1) xs)
    ]
    refl
  where
    gone : (y : Cell T) (ys : List (Cell T)) → y.gone ≡ true → text_of (y ∷ ys) ≡ text_of ys
    gone y ys e = rw e refl

-- ONE RANGE

left_same : (some other : ℕ → Bool) (place : ℕ) (text : List ℕ) → ((q : ℕ) → some q ≡ other q) → left_at some place text ≡ left_at other place text
left_same some other place [] same = refl
left_same some other place (c ∷ text) same =
    ap (λ b. cond b (left_at some (place + 1) text) (c ∷ left_at some (place + 1) text)) (same place)
    ∙ ap (λ t. cond (other place) t (c ∷ t)) (left_same some other (place + 1) text same)

take_none : (n : ℕ) → let none : List ℕ = [] in take n none ≡ none
take_none zero = refl
take_none (suc n) = refl

drop_none : (n : ℕ) → let none : List ℕ = [] in drop n none ≡ none
drop_none zero = refl
drop_none (suc n) = refl

left_step : (range : Range) (place c : ℕ) (text : List ℕ) → range.from ≤ range.to → left_at (is_in range) (place + 1) text ≡ take (range.from - (place + 1)) text ++ drop (range.to - (place + 1)) text
    → left_at (is_in range) place (c ∷ text) ≡ take (range.from - place) (c ∷ text) ++ drop (range.to - place) (c ∷ text)
left_step range place c text h rest = by_begin (cases_lt place range.from) (cases_lt place range.to)
  where
    by_begin : (place < range.from) ⊎ (range.from ≤ place) → (place < range.to) ⊎ (range.to ≤ place)
        → left_at (is_in range) place (c ∷ text) ≡ take (range.from - place) (c ∷ text) ++ drop (range.to - place) (c ∷ text)
    by_begin (inl before) within =
        let out : is_in range place ≡ false = and_left _ _ (lt-leb range.from place before) in
        let from : range.from - place ≡ suc (range.from - (place + 1)) = omega arith in
        let to : range.to - place ≡ suc (range.to - (place + 1)) = omega arith in
        cond-false (is_in range place) (left_at (is_in range) (place + 1) text) (c ∷ left_at (is_in range) (place + 1) text) out ∙ ap (λ t. c ∷ t) rest
        ∙ sym (rw (from, to) refl)
    by_begin (inr begun) (inl before) =
        let inside : is_in range place ≡ true = and_from _ _ (le-leb range.from place begun) (lt-ltb place range.to before) in
        let from : range.from - place ≡ 0 = omega arith in
        let from_next : range.from - (place + 1) ≡ 0 = omega arith in
        let to : range.to - place ≡ suc (range.to - (place + 1)) = omega arith in
        cond-true (is_in range place) (left_at (is_in range) (place + 1) text) (c ∷ left_at (is_in range) (place + 1) text) inside
        ∙ rest ∙ ap (λ n. take n text ++ drop (range.to - (place + 1)) text) from_next ∙ sym (rw (from, to) refl)
    by_begin (inr begun) (inr after) =
        let out : is_in range place ≡ false = and_right _ _ (le-ltb place range.to after) in
        let from : range.from - place ≡ 0 = omega arith in
        let to : range.to - place ≡ 0 = omega arith in
        let from_next : range.from - (place + 1) ≡ 0 = omega arith in
        let to_next : range.to - (place + 1) ≡ 0 = omega arith in
        cond-false (is_in range place) (left_at (is_in range) (place + 1) text) (c ∷ left_at (is_in range) (place + 1) text) out
        ∙ ap (λ t. c ∷ t) (rest ∙ ap (λ n. take n text ++ drop (range.to - (place + 1)) text) from_next ∙ ap (λ n. drop n text) to_next)
        ∙ sym (rw (from, to) refl)

left_range : (range : Range) (place : ℕ) (text : List ℕ) → range.from ≤ range.to → left_at (is_in range) place text ≡ take (range.from - place) text ++ drop (range.to - place) text
left_range range place [] h = sym (rw (take_none (range.from - place), drop_none (range.to - place)) refl)
left_range range place (c ∷ text) h = left_step range place c text h (left_range range (place + 1) text h)

spared_forward : (text : List ℕ) (range : Range) → range.from < range.to → (spared text range).from ≤ (spared text range).to
spared_forward text range h = by_tests (nat_lt range.to (length text)) (begins_line text range.from)
  where
    by_tests : (b begins : Bool) → (cond b range (record { from = cond begins (range.from - 1) range.from; to = range.to - 1 })).from ≤ (cond b range (record { from = cond begins (range.from - 1) range.from; to = range.to - 1 })).to
    by_tests true begins = omega arith
    by_tests false true = omega arith
    by_tests false false = omega arith

-- what is left of a text without one range
one_removed : (text : List ℕ) (range : Range) → range.from < range.to → range.to ≤ length text
    → left_at (is_removed text (range ∷ [])) 0 text ≡ take (spared text range).from text ++ drop (spared text range).to text
one_removed text range h k =
    let kept = spared text range in
    let from : kept.from - 0 ≡ kept.from = omega arith in
    let to : kept.to - 0 ≡ kept.to = omega arith in
    left_same (is_removed text (range ∷ [])) (is_in kept) 0 text (λ q. sym (covered_spared text [] range q (omega arith, h, tt) k))
    ∙ left_range kept 0 text (spared_forward text range h) ∙ ap (λ n. take n text ++ drop (kept.to - 0) text) from ∙ ap (λ n. take kept.from text ++ drop n text) to

pub inner_removed : (text : List ℕ) (range : Range) → range.from < range.to → range.to < length text → left_at (is_removed text (range ∷ [])) 0 text ≡ take range.from text ++ drop range.to text
inner_removed text range h k =
    let inner : spared text range ≡ range = cond-true (nat_lt range.to (length text)) range (record { from = cond (begins_line text range.from) (range.from - 1) range.from; to = range.to - 1 }) (lt-ltb range.to (length text) k) in
    one_removed text range h (omega arith) ∙ ap (λ (kept : Range). take kept.from text ++ drop kept.to text) inner

pub end_removed : (text : List ℕ) (from : ℕ) → from < length text
    → left_at (is_removed text (record { from = from; to = length text } ∷ [])) 0 text ≡ take (cond (begins_line text from) (from - 1) from) text ++ drop (length text - 1) text
end_removed text from h =
    let range : Range = record { from = from; to = length text } in
    let less : Range = record { from = cond (begins_line text from) (from - 1) from; to = length text - 1 } in
    let last : spared text range ≡ less = cond-false (nat_lt (length text) (length text)) range less (le-ltb (length text) (length text) (omega arith)) in
    one_removed text range h (omega arith) ∙ ap (λ (kept : Range). take kept.from text ++ drop kept.to text) last
