-- Totals to which as much is joined as came in below.
use Rattle.std.proofs.Common.{◌≡◌, ℕ, zero, suc, ◌<◌, inl, inr, List, [], ◌∷◌, length, take, drop, get_or, set, insert, refl, sym, ap, ◌∙◌, arith, subst, get_or-set_same, get_or-set_other}
use Rattle.std.proofs.lemmas.Bool.{cases_eq}
use Rattle.std.proofs.lemmas.List.{take-append-drop}
use Rattle.std.specs.List.{AllByRecursion}
use Rattle.rt_nodes.specs.Nodes.{entries, with_entries}
use Rattle.rt_tree.specs.declared.node.Entry.{Entry}
use Rattle.rt_tree.specs.declared.node.Entry.TheVariants.{Down, Here}
use Rattle.rt_tree.specs.declared.node.Totals.{Totals}
use Rattle.rt_nodes.specs.declared.memory.NodeId.{NodeId}
use Rattle.rt_tree.specs.Changes.{AreExact, AreExactBut, IsExactAt, IsLocal, Lacks, adds_up, bare, blank, entry_totals, join, strip}
use Rattle.rt_tree.specs.Shape.{IsKnown, IsShape, Memory, child_count, level_of, parent_of}
use Rattle.rt_tree.proofs.Adding.{adds-append, join_assoc, join_comm}
use Rattle.rt_tree.proofs.Exact.{each-all}
use Rattle.rt_tree.proofs.Around.{below_top, test_same}
use Rattle.rt_tree.proofs.Down.{each-at}
use Rattle.rt_tree.proofs.Raise.{length-rows, no_level, not_counted}

join_swap : (a b c : Totals) → join a (join b c) ≡ join b (join a c)
join_swap a b c = sym (join_assoc a b c) ∙ ap (λ t. join t c) (join_comm a b) ∙ join_assoc b a c

-- an entry with more in place of one
pub adds-set : (es : List Entry) (slot : ℕ) (e y : Entry) (more : Totals) → slot < length es → e ≡ get_or es slot e → entry_totals y ≡ join more (entry_totals e) → adds_up (set es slot y) ≡ join more (adds_up es)
adds-set [] slot e y more lt here is = absurd (omega (arith, lt))
adds-set (x ∷ es) zero e y more lt here is = ap (λ t. join t (adds_up es)) (is ∙ ap (λ (z : Entry). join more (entry_totals z)) here) ∙ join_assoc more (entry_totals x) (adds_up es)
adds-set (x ∷ es) (suc slot) e y more lt here is = ap (join (entry_totals x)) (adds-set es slot e y more (omega (arith, lt)) here is) ∙ join_swap (entry_totals x) more (adds_up es)

-- an entry more
pub adds-insert : (es : List Entry) (i : ℕ) (y : Entry) → adds_up (insert es i y) ≡ join (entry_totals y) (adds_up es)
adds-insert es i y =
    let front = take i es in let back = drop i es in
    adds-append front (y ∷ back) ∙ join_swap (adds_up front) (entry_totals y) (adds_up back) ∙ ap (join (entry_totals y)) (sym (adds-append front back) ∙ ap adds_up (take-append-drop i es))

pub exact-but : (but : ℕ) (m : Memory) → AreExact m → AreExactBut but m
exact-but but m exact id is = each-all (IsLocal m) (λ (e : Entry). child_count but (strip e ∷ []) ≡ 0 → IsLocal m e) (λ e x z. x) (entries m id) (exact id is)

module _ (m : Memory) (q p : ℕ) (other : q ≡ p → ⊥) where
  kept-one : (l : Entry) (x : Totals) → 0 < child_count p (l ∷ []) → (child_count q (l ∷ []) ≡ 0 → IsExactAt m l x) → x ≡ adds_up (entries m p)
  kept-one (Here r) x some e = absurd (omega (arith, some))
  kept-one (Down c ts) x some e = elim (cases_eq c.index p) [
    | inl same ↦ e (not_counted q c (λ w. other (sym w ∙ same))) ∙ ap (λ n. adds_up (entries m n)) same
    | inr ne ↦ let z = not_counted p c ne in absurd (omega (arith, some, z))
  ]

  -- what came into a node's entries is what its kept totals lack
  pub lacks : (height root : ℕ) → IsShape (bare m) height root → (more : Totals) (es : List Entry) → p < length m.heads → AreExactBut q m → adds_up es ≡ join more (adds_up (entries m p)) → Lacks p more (with_entries m p es)
  lacks height root t more es is exact sum id idis ne =
      let new = with_entries m p es in
      let own : entries new p ≡ es = get_or-set_same m.rows p es [] (omega (arith, is, t.same, length-rows m)) in
      let R : Entry → Type 0 = λ x. 0 < child_count p (strip x ∷ []) → adds_up (entries new p) ≡ join more (entry_totals x) in
      subst (AllByRecursion R) (sym (get_or-set_other m.rows p id es [] ne))
      (each-all (λ (x : Entry). child_count q (strip x ∷ []) ≡ 0 → IsLocal m x) R
      (λ x ex some. ap adds_up own ∙ sum ∙ ap (join more) (sym (kept-one (strip x) (entry_totals x) some ex))) (entries m id) (exact id idis))

module _ (m : Memory) (height root : ℕ) (t : IsShape (bare m) height root) (c : NodeId) (p slot : ℕ) (e : Entry) (more : Totals) (is : c.index < length m.heads) (lt : level_of (bare m) c.index < height) (up : p ≡ parent_of (bare m) c.index) (within : slot < length (entries m p)) (here : e ≡ get_or (entries m p) slot e) where
  known : IsKnown (bare m) c.index
  known = t.known c.index is (below_top (bare m) height root t c.index is lt)

  apart : c.index ≡ p → ⊥
  apart same = no_level (bare m) c.index p known.up up same

  known-up : p < length m.heads
  known-up = subst (λ n. n < length m.heads) (sym up) known.is

  -- what a node's entry lacks
  pub lacking : strip e ≡ Down c blank → Lacks c.index more m → adds_up (entries m c.index) ≡ join more (entry_totals e)
  lacking mine all =
      let o = test_same {X = ℕ} c.index c.index 1 0 refl in
      let h = ap (λ l. child_count c.index (l ∷ [])) mine in
      let R : Entry → Type 0 = λ x. 0 < child_count c.index (strip x ∷ []) → adds_up (entries m c.index) ≡ join more (entry_totals x) in
      each-at R (entries m p) slot e (all p known-up (λ w. apart (sym w))) within here (omega (arith, o, h))

  -- one level up
  pub lacks-up : AreExactBut c.index m → (sum : Totals) → sum ≡ join more (entry_totals e) → Lacks p more (with_entries m p (set (entries m p) slot (Down c sum)))
  lacks-up exact sum total = lacks m c.index p apart height root t more (set (entries m p) slot (Down c sum)) known-up exact (adds-set (entries m p) slot e (Down c sum) more within here total)

-- more in a leaf
pub leaf-lacks : (m new : Memory) (height root : ℕ) → IsShape (bare m) height root → AreExact m → (leaf : ℕ) (more : Totals) (es : List Entry) → leaf < length m.heads → new ≡ with_entries m leaf es → adds_up es ≡ join more (adds_up (entries m leaf)) → Lacks leaf more new
leaf-lacks m new height root t exact leaf more es is to sum =
    subst (Lacks leaf more) (sym to) (lacks m (suc leaf) leaf (λ w. omega (arith, w)) height root t more es is (exact-but (suc leaf) m exact) sum)
