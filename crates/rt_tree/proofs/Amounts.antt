-- Laws of counts.
use Rattle.std.proofs.Common.{◌≡◌, ℕ, ◌+◌, ◌≤◌, ◌<◌, suc, zero, List, [], ◌∷◌, ◌++◌, length, get_or, take, refl, sym, ap, ◌∙◌, arith, subst}
use Rattle.std.specs.List.{AllByRecursion}
use Rattle.std.proofs.lemmas.List.{take_more}
use Rattle.rt_tree.specs.declared.node.Run.{Run}
use Rattle.rt_tree.specs.declared.node.Counts.{Counts}
use Rattle.rt_tree.specs.declared.node.Entry.{Entry}
use Rattle.rt_tree.specs.declared.node.Entry.TheVariants.{Down, Here}
use Rattle.rt_tree.specs.declared.node.CountedBy.{CountedBy}
use Rattle.rt_tree.specs.declared.node.CountedBy.TheVariants.{Cells, Visible, Newlines}
use Rattle.rt_tree.specs.declared.node.Totals.{Totals}
use Rattle.rt_tree.specs.Shape.{Memory, below, all_below, entry_counts, sum_of, IsExact}
use Rattle.rt_tree.specs.Sums.{AreFew, amount, counts_of, counts_of_run, no_counts, plus}

abbrev pub make : ℕ → ℕ → ℕ → Counts
make c v n = record { cells = c; visible = v; newlines = n }

pub same_counts : (a b : Counts) → a.cells ≡ b.cells → a.visible ≡ b.visible → a.newlines ≡ b.newlines → a ≡ b
same_counts a b c v n = ap (λ x. make x a.visible a.newlines) c ∙ ap (λ x. make b.cells x a.newlines) v ∙ ap (λ x. make b.cells b.visible x) n

pub plus_assoc : (a b c : Counts) → plus (plus a b) c ≡ plus a (plus b c)
plus_assoc a b c = same_counts _ _ (omega arith) (omega arith) (omega arith)

pub plus_comm : (a b : Counts) → plus a b ≡ plus b a
plus_comm a b = same_counts _ _ (omega arith) (omega arith) (omega arith)

pub plus-none : (a : Counts) → plus a no_counts ≡ a
plus-none a = same_counts _ _ (omega arith) (omega arith) (omega arith)

pub none-plus : (a : Counts) → plus no_counts a ≡ a
none-plus a = same_counts _ _ (omega arith) (omega arith) (omega arith)

pub counts-append : (a b : List Run) → counts_of (a ++ b) ≡ plus (counts_of a) (counts_of b)
counts-append [] b = sym (none-plus (counts_of b))
counts-append (r ∷ a) b = ap (plus (counts_of_run r)) (counts-append a b) ∙ sym (plus_assoc (counts_of_run r) (counts_of a) (counts_of b))

pub amount-plus : (by : CountedBy) (a b : Counts) → amount by (plus a b) ≡ amount by a + amount by b
amount-plus Cells a b = refl
amount-plus Visible a b = refl
amount-plus Newlines a b = refl

pub amount-none : (by : CountedBy) → amount by no_counts ≡ 0
amount-none Cells = refl
amount-none Visible = refl
amount-none Newlines = refl

pub sum-push : (es : List Entry) (e : Entry) → sum_of (es ++ e ∷ []) ≡ plus (sum_of es) (entry_counts e)
sum-push [] e = plus_comm (entry_counts e) no_counts
sum-push (x ∷ es) e = ap (plus (entry_counts x)) (sum-push es e) ∙ sym (plus_assoc (entry_counts x) (sum_of es) (entry_counts e))

-- one more of the first ones
pub sum-more : (es : List Entry) (i : ℕ) (e : Entry) → i < length es → e ≡ get_or es i e → sum_of (take (i + 1) es) ≡ plus (sum_of (take i es)) (entry_counts e)
sum-more es i e lt is = ap sum_of (take_more es i e lt) ∙ ap (λ x. sum_of (take i es ++ x ∷ [])) (sym is) ∙ sum-push (take i es) e

pub record Le (a b : Counts) : Type 0 where
  pub cells : a.cells ≤ b.cells
  pub visible : a.visible ≤ b.visible
  pub newlines : a.newlines ≤ b.newlines

pub le-take : (n : ℕ) (es : List Entry) → Le (sum_of (take n es)) (sum_of es)
le-take zero es = record { cells = omega arith; visible = omega arith; newlines = omega arith }
le-take (suc n) [] = record { cells = omega arith; visible = omega arith; newlines = omega arith }
le-take (suc n) (e ∷ es) = let h = le-take n es in record { cells = omega (arith, h.cells); visible = omega (arith, h.visible); newlines = omega (arith, h.newlines) }

-- what stands before the entries and the first ones together are few where all are
pub few-more : (ahead : Counts) (es : List Entry) (i : ℕ) (e : Entry) → i < length es → e ≡ get_or es i e → AreFew (plus ahead (sum_of es)) → AreFew (plus (plus ahead (sum_of (take i es))) (entry_counts e))
few-more ahead es i e lt is few =
    let more = sum-more es i e lt is in
    let le = le-take (i + 1) es in
    let P : Counts → Type 0 = λ x. Le x (sum_of es) in
    let h = subst P more le in
    record { cells = omega (arith, h.cells, few.cells); visible = omega (arith, h.visible, few.visible); newlines = omega (arith, h.newlines, few.newlines) }

-- an exact entry counts its runs
pub counts-exact : (m : Memory) (k : ℕ) (e : Entry) → IsExact m k e → entry_counts e ≡ counts_of (below m k e)
counts-exact m zero (Here r) exact = sym (plus-none (counts_of_run r))
counts-exact m (suc k) (Here r) exact = sym (plus-none (counts_of_run r))
counts-exact m zero (Down c t) exact = ap (λ (x : Totals). x.counts) exact
counts-exact m (suc k) (Down c t) exact = ap (λ (x : Totals). x.counts) exact

-- exact entries add up to their runs
pub sum-exact : (m : Memory) (k : ℕ) (es : List Entry) → AllByRecursion (IsExact m k) es → sum_of es ≡ counts_of (all_below m k es)
sum-exact m k [] all = refl
sum-exact m k (e ∷ es) all = ap (plus (entry_counts e)) (sum-exact m k es all.1) ∙ ap (λ t. plus t (counts_of (all_below m k es))) (counts-exact m k e all.0) ∙ sym (counts-append (below m k e) (all_below m k es))
