-- Where runs begin and end.
use Rattle.std.proofs.Common.{◌≡◌, ℕ, ◌+◌, ◌-◌, ◌<◌, ◌≤◌, inl, inr, List, [], ◌∷◌, ◌++◌, length, refl, sym, ap, ◌∙◌, arith, subst}
use Rattle.rt_tree.specs.declared.node.CountedBy.TheVariants.{Cells}
use Rattle.rt_tree.specs.declared.node.Counts.{Counts}
use Rattle.rt_tree.specs.declared.node.Run.{Run}
use Rattle.rt_tree.specs.Stretches.{IsEdge, lengths}
use Rattle.rt_tree.specs.Sums.{counts_of}
use Rattle.rt_tree.specs.Walks.{StandsAt}

-- the last position
pub edge_end : (a : List Run) → IsEdge (lengths a) (counts_of a).cells
edge_end [] = refl
edge_end (r ∷ a) = let e : (counts_of a).cells ≡ r.len + (counts_of a).cells - r.len = omega arith in inr (omega arith, subst (IsEdge (lengths a)) e (edge_end a))

pub edge_there : (a b : List Run) (at : ℕ) → (counts_of a).cells ≡ at → IsEdge (lengths (a ++ b)) at
edge_there [] [] at e = sym e
edge_there [] (r ∷ b) at e = inl (sym e)
edge_there (r ∷ a) b at e = inr (omega (arith, e), edge_there a b (at - r.len) (omega (arith, e)))

-- a run ends behind its cells
pub edge_behind : (a : List Run) (r : Run) (b : List Run) (at : ℕ) → (counts_of a).cells + r.len ≡ at → IsEdge (lengths (a ++ r ∷ b)) at
edge_behind [] r b at e = inr (omega (arith, e), edge_there [] b (at - r.len) (omega (arith, e)))
edge_behind (x ∷ a) r b at e = inr (omega (arith, e), edge_behind a r b (at - x.len) (omega (arith, e)))

-- a run that has a position at which one begins or ends begins there
pub edge_mid : (a : List Run) (r : Run) (b : List Run) (offset at : ℕ) → (counts_of a).cells + offset ≡ at → offset < r.len → IsEdge (lengths (a ++ r ∷ b)) at → offset ≡ 0
edge_mid [] r b offset at e lt edge = elim edge [ inl z ↦ omega (arith, e, z) | inr w ↦ absurd (omega (arith, e, lt, w.0)) ]
edge_mid (x ∷ a) r b offset at e lt edge = elim edge [ inl z ↦ omega (arith, e, z) | inr w ↦ edge_mid a r b offset (at - x.len) (omega (arith, e)) lt w.1 ]

-- a run that begins before such a position ends there or before
pub edge_far : (a : List Run) (r : Run) (b : List Run) (at : ℕ) → (counts_of a).cells < at → IsEdge (lengths (a ++ r ∷ b)) at → (counts_of a).cells + r.len ≤ at
edge_far [] r b at lt edge = elim edge [ inl z ↦ absurd (omega (arith, lt, z)) | inr w ↦ omega (arith, w.0) ]
edge_far (x ∷ a) r b at lt edge = elim edge [ inl z ↦ absurd (omega (arith, lt, z)) | inr w ↦ let h = edge_far a r b (at - x.len) (omega (arith, lt, w.0)) w.1 in omega (arith, h, w.0) ]

-- a run cut in two
pub edge_cut : (a : List Run) (r f g : Run) (b : List Run) (at : ℕ) → r.len ≡ f.len + g.len → IsEdge (lengths (a ++ r ∷ b)) at → IsEdge (lengths (a ++ f ∷ g ∷ b)) at
edge_cut [] r f g b at e edge = elim edge [
  | inl z ↦ inl z
  | inr w ↦ let same : at - r.len ≡ at - f.len - g.len = omega (arith, e) in inr (omega (arith, w.0, e), inr (omega (arith, w.0, e), subst (IsEdge (lengths b)) same w.1))
]
edge_cut (x ∷ a) r f g b at e edge = elim edge [ inl z ↦ inl z | inr w ↦ inr (w.0, edge_cut a r f g b (at - x.len) e w.1) ]

pub counts_mid : (a : List Run) (r : Run) (b : List Run) → (counts_of (a ++ r ∷ b)).cells ≡ (counts_of a).cells + (r.len + (counts_of b).cells)
counts_mid [] r b = omega arith
counts_mid (x ∷ a) r b = let h = counts_mid a r b in omega (arith, h)

-- runs of the same lengths have as many cells
pub counts_lengths : (a b : List Run) → lengths a ≡ lengths b → (counts_of a).cells ≡ (counts_of b).cells
counts_lengths [] [] e = refl
counts_lengths [] (y ∷ b) e = absurd (let h = ap length e in omega (arith, h))
counts_lengths (x ∷ a) [] e = absurd (let h = ap length e in omega (arith, h))
counts_lengths (x ∷ a) (y ∷ b) e =
    let h : x.len ≡ y.len = cc in
    let t : lengths a ≡ lengths b = cc in
    let ih = counts_lengths a b t in
    omega (arith, h, ih)

pub lengths_set : (a : List Run) (x y : Run) (b : List Run) → x.len ≡ y.len → lengths (a ++ x ∷ b) ≡ lengths (a ++ y ∷ b)
lengths_set [] x y b e = ap (λ n. n ∷ lengths b) e
lengths_set (z ∷ a) x y b e = ap (λ l. z.len ∷ l) (lengths_set a x y b e)

-- only one run has a position
pub record IsSameSpot (a : List Run) (x : Run) (b a' : List Run) (y : Run) (b' : List Run) : Type 0 where
  pub left : a ≡ a'
  pub run : x ≡ y
  pub right : b ≡ b'

pub one_spot : (a : List Run) (x : Run) (b : List Run) (o : ℕ) (a' : List Run) (y : Run) (b' : List Run) (o' : ℕ) → a ++ x ∷ b ≡ a' ++ y ∷ b' → (counts_of a).cells + o ≡ (counts_of a').cells + o' → o < x.len → o' < y.len → IsSameSpot a x b a' y b'
one_spot [] x b o [] y b' o' e at lt lt' = let h : x ≡ y = cc in let t : b ≡ b' = cc in record { left = refl; run = h; right = t }
one_spot [] x b o (z ∷ a') y b' o' e at lt lt' = let h : x ≡ z = cc in let l = ap (λ (r : Run). r.len) h in absurd (omega (arith, l, at, lt))
one_spot (z ∷ a) x b o [] y b' o' e at lt lt' = let h : z ≡ y = cc in let l = ap (λ (r : Run). r.len) h in absurd (omega (arith, l, at, lt'))
one_spot (z ∷ a) x b o (w ∷ a') y b' o' e at lt lt' =
    let h : z ≡ w = cc in
    let t : a ++ x ∷ b ≡ a' ++ y ∷ b' = cc in
    let l = ap (λ (r : Run). r.len) h in
    let ih = one_spot a x b o a' y b' o' t (omega (arith, at, l)) lt lt' in
    record { left = ap (λ (v : Run). v ∷ a) h ∙ ap (λ (v : List Run). w ∷ v) ih.left; run = ih.run; right = ih.right }

-- a run that stands at a position at which one begins or ends
pub stands_first : (all : List Run) (r : Run) (front : Counts) (offset at : ℕ) (st : StandsAt Cells all r front offset at) → IsEdge (lengths all) at → (offset ≡ 0) × ((counts_of st.left).cells ≡ at)
stands_first all r front offset at st edge =
    let f = ap (λ (c : Counts). c.cells) st.before in
    let z = edge_mid st.left r st.right offset at (omega (arith, f, st.at)) st.inside (subst (λ (l : List Run). IsEdge (lengths l) at) st.here edge) in
    (z, omega (arith, z, f, st.at))
