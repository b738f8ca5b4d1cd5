-- The counts of cells, up to a greatest one.
use Rattle.std.proofs.Common.{◌≡◌, ◌∙◌, ℕ, zero, suc, ◌≤◌, true, false, List, [], ◌∷◌, ◌++◌, ◌||◌, drop, get_or, sym, ap, subst, arith, take}
use Rattle.std.proofs.lemmas.List.Elements.{All-append, All-cons, All-drop, All-tail, All-take}
use Rattle.rt_stamps.specs.declared.stamp.Stamp.{Stamp}
use Rattle.rt_stamps.specs.declared.stamp.TheConstants.{FINAL}
use Rattle.rt_stamps.specs.Stamps.{is_same}
use Rattle.rt_stamps.proofs.Order.{same_from_true}
use Rattle.rt_store.specs.declared.cell.Cell.{Cell}
use Rattle.rt_store.specs.Cells.{after_element, stamps_of}
use Rattle.rt_store.specs.Spans.{is_among}
use Rattle.rt_store.specs.Written.{AreBelowNext, IsBelowNext}
use Rattle.rt_store.proofs.Distinct.{split}
use Rattle.rt_plans.specs.DocValue.{put_after}
use Rattle.rt_revert.specs.Plans.{AreUpTo, IsUpTo}

pub one_below : (count : ℕ) (s : Stamp) → IsUpTo count s → IsBelowNext count s
one_below count s h = split (is_same s FINAL)
    (λ e. let same : s ≡ FINAL = same_from_true s FINAL e in let n : s.count ≡ 1 = ap (λ (t : Stamp). t.count) same in (omega arith, λ k. ap (λ (t : Stamp). t.site) same))
    (λ e. let le : s.count ≤ count = h e in (omega arith, λ k. absurd (omega arith)))

pub all_below : {T : Type 0} (count : ℕ) (cells : List (Cell T)) → AreUpTo count cells → AreBelowNext count cells
all_below count cells h = λ k d lt. one_below count (get_or cells k d).stamp (h k d lt)

-- the count of a cell that is there
pub up_to : {T : Type 0} (count : ℕ) (cells : List (Cell T)) (s : Stamp) → AreUpTo count cells → is_among (stamps_of cells) s ≡ true → is_same s FINAL ≡ false → s.count ≤ count
up_to count [] s h e n = absurd (cc e)
up_to {T} count (c ∷ cs) s h e n = split (is_same c.stamp s)
    (λ k. let same : c.stamp ≡ s = same_from_true c.stamp s k in subst (λ (t : Stamp). t.count ≤ count) same (h 0 c (omega arith) (ap (λ (t : Stamp). is_same t FINAL) same ∙ n)))
    (λ k. up_to count cs s (All-tail (λ (cell : Cell T). IsUpTo count cell.stamp) c cs h) (sym (ap (λ b. b || is_among (stamps_of cs) s) k) ∙ e) n)

pub later_cells : {T : Type 0} (count more : ℕ) (cells : List (Cell T)) → count ≤ more → AreUpTo count cells → AreUpTo more cells
later_cells count more cells le h = λ k d lt e. omega (arith, h k d lt e, le)

pub new_up_to : {T : Type 0} (count : ℕ) (x : Cell T) → x.stamp.count ≤ count → AreUpTo count (x ∷ [])
new_up_to count x h zero d lt = λ e. h
new_up_to count x h (suc k) d lt = absurd (omega arith)

pub put_up_to : {T : Type 0} (count : ℕ) (cells : List (Cell T)) (left : Stamp) (new : List (Cell T)) → AreUpTo count cells → AreUpTo count new → AreUpTo count (put_after cells left new)
put_up_to {T} count cells left new h k =
    let at = after_element cells left in
    let P : Cell T → Type 0 = λ cell. IsUpTo count cell.stamp in
    All-append P (take at cells ++ new) (drop at cells) (All-append P (take at cells) new (All-take P at cells h) k) (All-drop P at cells h)

-- the same stamps
pub up_to_stamps : {S T : Type 0} (count : ℕ) (xs : List (Cell S)) (ys : List (Cell T)) → stamps_of xs ≡ stamps_of ys → AreUpTo count ys → AreUpTo count xs
up_to_stamps count [] ys e h = λ k d lt. absurd (omega arith)
up_to_stamps count (x ∷ xs) [] e h = absurd (cc e)
up_to_stamps {S} {T} count (x ∷ xs) (y ∷ ys) e h =
    let first : x.stamp ≡ y.stamp = cc e in
    let others : stamps_of xs ≡ stamps_of ys = cc e in
    All-cons (λ (cell : Cell S). IsUpTo count cell.stamp) x xs (subst (IsUpTo count) (sym first) (h 0 y (omega arith)))
    (up_to_stamps count xs ys others (All-tail (λ (cell : Cell T). IsUpTo count cell.stamp) y ys h))
