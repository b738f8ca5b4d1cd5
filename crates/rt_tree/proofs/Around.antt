-- What stands around a node.
use Rattle.std.proofs.Common.{◌≡◌, ℕ, zero, suc, ◌+◌, ◌<◌, ◌==◌, if◌then◌else◌, inl, inr, List, [], ◌∷◌, ◌++◌, length, take, get_or, sym, ap, ◌∙◌, arith, subst, append_assoc, append-nil}
use Rattle.std.proofs.lemmas.List.Concat.{flat_map-append}
use Rattle.std.proofs.lemmas.Bool.{cases_eq, eq-eqb, ne_eqb}
use Rattle.rt_nodes.specs.declared.memory.NodeId.{NodeId}
use Rattle.rt_tree.specs.declared.node.Run.{Run}
use Rattle.rt_tree.specs.declared.node.Entry.{Entry}
use Rattle.rt_tree.specs.declared.node.Entry.TheVariants.{Down, Here}
use Rattle.rt_tree.specs.declared.node.Totals.{Totals}
use Rattle.rt_tree.specs.Shape.{Memory, IsShape, all_below, below, runs, child_count, left_of, right_of, around, ahead, behind, level_of, parent_of}

-- a test that holds, or not
pub test_same : {X : Type 0} (a b : ℕ) (x y : X) → a ≡ b → (if a == b then x else y) ≡ x
test_same a b x y e = ap (λ t. if t then x else y) (eq-eqb a b e)

pub test_other : {X : Type 0} (a b : ℕ) (x y : X) → (a ≡ b → ⊥) → (if a == b then x else y) ≡ y
test_other a b x y ne = ap (λ t. if t then x else y) (ne_eqb a b ne)

abbrev pub node : ℕ → NodeId
node n = record { index = n }

pub same_node : (a b : NodeId) → a.index ≡ b.index → a ≡ b
same_node a b e = ap node e

-- an entry's node
abbrev pub leads_to : Entry → ℕ → Type 0
leads_to (Here r) id = ⊥
leads_to (Down c t) id = c.index ≡ id

-- a node that is found is counted
pub count-at : (id : ℕ) (es : List Entry) (i : ℕ) (e : Entry) → i < length es → e ≡ get_or es i e → leads_to e id → 0 < child_count id es
count-at id [] i e lt is to = absurd (omega arith)
count-at id (Here r ∷ es) zero e lt is to = absurd (subst (λ (x : Entry). leads_to x id) is to)
count-at id (Down d t ∷ es) zero e lt is to = let h : d.index ≡ id = subst (λ (x : Entry). leads_to x id) is to in let t = test_same {X = ℕ} d.index id 1 0 h in omega arith
count-at id (Here r ∷ es) (suc i) e lt is to = count-at id es i e (omega arith) is to
count-at id (Down d t ∷ es) (suc i) e lt is to = let h = count-at id es i e (omega arith) is to in omega arith

-- the entries around one that stands once
pub record Cut (id : ℕ) (es : List Entry) : Type 0 where
  pub totals : Totals
  pub is : es ≡ left_of id es ++ Down (node id) totals ∷ right_of id es

pub cut_around : (id : ℕ) (es : List Entry) → 0 < child_count id es → Cut id es
cut_around id [] some = absurd (omega arith)
cut_around id (Here r ∷ es) some = let c = cut_around id es some in record { totals = c.totals; is = ap (λ l. Here r ∷ l) c.is }
cut_around id (Down d t ∷ es) some = elim (cases_eq d.index id) [
  | inl e ↦ record {
    totals = t;
    is = ap (λ n. Down n t ∷ es) (same_node d (node id) e) ∙ sym (ap (λ l. l ++ Down (node id) t ∷ right_of id (Down d t ∷ es)) (test_same d.index id [] (Down d t ∷ left_of id es) e) ∙ ap (λ r. Down (node id) t ∷ r) (test_same d.index id es (right_of id es) e));
  }
  | inr ne ↦ let s = test_other {X = ℕ} d.index id 1 0 ne in let c = cut_around id es (omega arith) in record {
    totals = c.totals;
    is = ap (λ l. Down d t ∷ l) c.is ∙ sym (ap (λ l. l ++ Down (node id) c.totals ∷ right_of id (Down d t ∷ es)) (test_other d.index id [] (Down d t ∷ left_of id es) ne) ∙ ap (λ r. Down d t ∷ (left_of id es ++ Down (node id) c.totals ∷ r)) (test_other d.index id es (right_of id es) ne));
  }
]

-- the entries before the place where a node stands
pub take-left : (id : ℕ) (es : List Entry) (i : ℕ) (e : Entry) → child_count id es ≡ 1 → i < length es → e ≡ get_or es i e → leads_to e id → take i es ≡ left_of id es
take-left id [] i e once lt is to = absurd (omega arith)
take-left id (Here r ∷ es) zero e once lt is to = absurd (subst (λ (x : Entry). leads_to x id) is to)
take-left id (Down d t ∷ es) zero e once lt is to = let h : d.index ≡ id = subst (λ (x : Entry). leads_to x id) is to in sym (test_same d.index id [] (Down d t ∷ left_of id es) h)
take-left id (Here r ∷ es) (suc i) e once lt is to = ap (λ l. Here r ∷ l) (take-left id es i e once (omega arith) is to)
take-left id (Down d t ∷ es) (suc i) e once lt is to =
    let some = count-at id es i e (omega arith) is to in
    elim (cases_eq d.index id) [
      | inl e' ↦ let s = test_same {X = ℕ} d.index id 1 0 e' in absurd (omega arith)
      | inr ne ↦ let s = test_other {X = ℕ} d.index id 1 0 ne in ap (λ l. Down d t ∷ l) (take-left id es i e (omega arith) (omega arith) is to) ∙ sym (test_other d.index id [] (Down d t ∷ left_of id es) ne)
    ]

pub regroup : (a l m r b : List Run) → a ++ ((l ++ (m ++ r)) ++ b) ≡ (a ++ l) ++ (m ++ (r ++ b))
regroup a l m r b = simp append_assoc

pub count-append : (id : ℕ) (a b : List Entry) → child_count id (a ++ b) ≡ child_count id a + child_count id b
count-append id [] b = omega arith
count-append id (Here r ∷ a) b = count-append id a b
count-append id (Down c t ∷ a) b = omega (arith, count-append id a b)

module _ (m : Memory) (height root : ℕ) (t : IsShape m height root) where
  -- only the root is at the top
  pub below_top : (id : ℕ) → id < length m.heads → level_of m id < height → id ≡ root → ⊥
  below_top id is lt e = let h : level_of m id ≡ height = ap (level_of m) e ∙ t.top in omega arith

  pub at_top : (id : ℕ) → id < length m.heads → level_of m id ≡ height → id ≡ root
  at_top id is at = elim (cases_eq id root) [ inl e ↦ e | inr ne ↦ let k = t.known id is ne in let l = t.low (parent_of m id) k.is in absurd (omega (arith, k.up)) ]

  -- all runs are those before a node, its own and those behind it
  pub cut_at : (depth k id : ℕ) → id < length m.heads → level_of m id ≡ k → depth + k ≡ height → runs m height root ≡ ahead m depth id ++ (runs m k id ++ behind m depth id)
  cut_at zero k id is at deep =
      let q : k ≡ height = omega arith in
      let e = at_top id is (at ∙ q) in
      ap (λ n. runs m n root) (sym q) ∙ ap (λ n. runs m k n) (sym e) ∙ sym (append-nil (runs m k id))
  cut_at (suc depth) k id is at deep =
      let kn = t.known id is (below_top id is (omega arith)) in
      let p = parent_of m id in
      let lvl : level_of m p ≡ suc k = kn.up ∙ ap suc at in
      let ih = cut_at depth (suc k) p kn.is lvl (omega arith) in
      let left = left_of id (around m id) in let right = right_of id (around m id) in
      let cut = cut_around id (around m id) (omega (arith, kn.once)) in
      let mid = ap (all_below m (suc k)) cut.is ∙ flat_map-append (below m (suc k)) left (Down (node id) cut.totals ∷ right) in
      let P : ℕ → Type 0 = λ n. runs m height root ≡ (ahead m depth p ++ all_below m n left) ++ (runs m k id ++ (all_below m n right ++ behind m depth p)) in
      subst P (sym lvl) (ih ∙ ap (λ x. ahead m depth p ++ (x ++ behind m depth p)) mid ∙ regroup (ahead m depth p) (all_below m (suc k) left) (runs m k id) (all_below m (suc k) right) (behind m depth p))
