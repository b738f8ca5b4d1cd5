-- One id for each state.
use Rattle.std.proofs.Common.{◌≡◌, ℕ, zero, suc, ◌==◌, ◌+◌, ◌*◌, ◌<◌, ◌≤◌, List, length, slice_get, Bool, true, cond, refl, sym, ap, subst, ◌∙◌, Option, Some, None, is_some, arith}
use Rattle.std.proofs.Math.ListN.{get_or}
use Rattle.std.proofs.lemmas.Bool.Decides.{Decides-eqb}
use Rattle.std.proofs.lemmas.Option.{slice_get-get_or}
use Rattle.rt_tags.specs.declared.nodes.Setting.{Setting}
use Rattle.rt_tags.specs.declared.nodes.Node.{Node}
use Rattle.rt_tags.specs.SharedStates.{AreShared, IsHeap, IsThere, Tree, Empty, Branch, at_id, empty_node, half, setting_of}
use Rattle.rt_tags.proofs.Settings.{by_parity, in_even, in_odd, is_same, setting_below, setting_top, part_even, part_odd}
use Rattle.rt_tags.proofs.Places.{clash, split}
use Rattle.rt_tags.proofs.Trees.{even_given, first_is, node_tree, odd_given}

-- a branch has a setting of the least tag
pub record IsBranch (tag : ℕ) (m : Option Setting) (o e : Tree) : Type 0 where
  pub is_set : is_some m ≡ true
  pub odd : (t : ℕ) → IsThere o t → tag < 2 * t + 1
  pub even : (t : ℕ) → IsThere e t → tag < 2 * t

abbrev pub IsFull : Tree → Type 0
IsFull Empty = Unit {0}
IsFull (Branch tag m o e) = IsBranch tag m o e × IsFull o × IsFull e

pub some_same : (v w : Option Setting) → v ≡ w → is_some v ≡ true → is_some w ≡ true
some_same v w e h = ap (λ (x : Option Setting). is_some x) (sym e) ∙ h

pub none_from : (v : Option Setting) → (is_some v ≡ true → ⊥) → v ≡ None
none_from None h = refl
none_from (Some m) h = absurd (h refl)

-- the tag of a branch is there, and is the least
pub top_there : (tag : ℕ) (m : Option Setting) (o e : Tree) → IsBranch tag m o e → IsThere (Branch tag m o e) tag
top_there tag m o e f = some_same m (setting_of (Branch tag m o e) tag) (sym (setting_top tag m o e tag refl)) f.is_set

least : (tag : ℕ) (m : Option Setting) (o e : Tree) → IsBranch tag m o e → (t : ℕ) → IsThere (Branch tag m o e) t → tag ≤ t
least tag m o e f t is = split (t == tag)
    (λ y. let k : t ≡ tag = (Decides-eqb t tag).0 y in omega arith)
    (λ n.
    let k : t ≡ tag → ⊥ = λ z. clash (t == tag) (is_same t tag z) n in
    let below = setting_below tag m o e t k in
    by_parity t
    (λ r. let w : tag < 2 * half t + 1 = f.odd (half t) (some_same (setting_of (Branch tag m o e) t) (setting_of o (half t)) (below ∙ part_odd o e t r) is) in omega arith)
    (λ r. let w : tag < 2 * half t = f.even (half t) (some_same (setting_of (Branch tag m o e) t) (setting_of e (half t)) (below ∙ part_even o e t r) is) in omega arith))

under_odd : (tag : ℕ) (m : Option Setting) (o e : Tree) → IsBranch tag m o e → (t : ℕ) → setting_of o t ≡ cond (2 * t + 1 == tag) None (setting_of (Branch tag m o e) (2 * t + 1))
under_odd tag m o e f t = split (2 * t + 1 == tag)
    (λ y.
    let k : 2 * t + 1 ≡ tag = (Decides-eqb (2 * t + 1) tag).0 y in
    none_from (setting_of o t) (λ is. let w : tag < 2 * t + 1 = f.odd t is in absurd (omega arith))
    ∙ sym (ap (λ (b : Bool). cond b None (setting_of (Branch tag m o e) (2 * t + 1))) y))
    (λ n.
    sym (in_odd tag m o e t (λ z. clash (2 * t + 1 == tag) (is_same (2 * t + 1) tag z) n))
    ∙ sym (ap (λ (b : Bool). cond b None (setting_of (Branch tag m o e) (2 * t + 1))) n))

under_even : (tag : ℕ) (m : Option Setting) (o e : Tree) → IsBranch tag m o e → (t : ℕ) → setting_of e t ≡ cond (2 * t == tag) None (setting_of (Branch tag m o e) (2 * t))
under_even tag m o e f t = split (2 * t == tag)
    (λ y.
    let k : 2 * t ≡ tag = (Decides-eqb (2 * t) tag).0 y in
    none_from (setting_of e t) (λ is. let w : tag < 2 * t = f.even t is in absurd (omega arith))
    ∙ sym (ap (λ (b : Bool). cond b None (setting_of (Branch tag m o e) (2 * t))) y))
    (λ n.
    sym (in_even tag m o e t (λ z. clash (2 * t == tag) (is_same (2 * t) tag z) n))
    ∙ sym (ap (λ (b : Bool). cond b None (setting_of (Branch tag m o e) (2 * t))) n))

branch : (a b : ℕ) (m n : Option Setting) (o p e q : Tree) → a ≡ b → m ≡ n → o ≡ p → e ≡ q → Branch a m o e ≡ Branch b n p q
branch a b m n o p e q f g h k = cc

-- trees with the same settings are the same
pub same : (a b : Tree) → IsFull a → IsFull b → ((t : ℕ) → setting_of a t ≡ setting_of b t) → a ≡ b
same Empty Empty f g h = refl
same Empty (Branch b n p q) f g h =
    absurd (clash (is_some (setting_of (Branch b n p q) b)) (top_there b n p q g.0) (ap (λ (v : Option Setting). is_some v) (sym (h b))))
same (Branch a m o e) Empty f g h =
    absurd (clash (is_some (setting_of (Branch a m o e) a)) (top_there a m o e f.0) (ap (λ (v : Option Setting). is_some v) (h a)))
same (Branch a m o e) (Branch b n p q) f g h =
    let le : b ≤ a = least b n p q g.0 a (some_same (setting_of (Branch a m o e) a) (setting_of (Branch b n p q) a) (h a) (top_there a m o e f.0)) in
    let ge : a ≤ b = least a m o e f.0 b (some_same (setting_of (Branch b n p q) b) (setting_of (Branch a m o e) b) (sym (h b)) (top_there b n p q g.0)) in
    let one : a ≡ b = omega arith in
    let odds = λ (t : ℕ). under_odd a m o e f.0 t ∙ ((λ j. cond (2 * t + 1 == one j) None (h (2 * t + 1) j)) ∙ sym (under_odd b n p q g.0 t)) in
    let evens = λ (t : ℕ). under_even a m o e f.0 t ∙ ((λ j. cond (2 * t == one j) None (h (2 * t) j)) ∙ sym (under_even b n p q g.0 t)) in
    branch a b m n o p e q one
    (sym (setting_top a m o e a refl) ∙ (h a ∙ setting_top b n p q a one))
    (same o p f.1 g.1 odds)
    (same e q f.2 g.2 evens)

full_node : (nodes : List Node) (n : Node) → is_some n.setting ≡ true → IsHeap nodes n → IsBranch n.tag n.setting (at_id nodes n.odd) (at_id nodes n.even)
full_node nodes n f h = record { is_set = f; odd = λ t is. (h.odd t is).0; even = λ t is. (h.even t is).0 }

pub full_below : (k i : ℕ) (nodes : List Node) → AreShared nodes → i < k → i < length nodes → IsFull (at_id nodes i)
full_below zero i nodes are b w = absurd (omega arith)
full_below (suc k) zero nodes are b w = subst IsFull (sym (first_is nodes)) tt
full_below (suc k) (suc i) nodes are b w =
    let n = get_or nodes (suc i) empty_node in
    let h : slice_get nodes (suc i) ≡ Some n = slice_get-get_or nodes (suc i) empty_node w in
    let p : 0 < suc i = omega arith in
    let o : n.odd < suc i = are.odd_before (suc i) n p h in
    let e : n.even < suc i = are.even_before (suc i) n p h in
    let ow : n.odd < length nodes = omega arith in
    let ew : n.even < length nodes = omega arith in
    subst IsFull (sym (node_tree nodes (suc i) n are p h))
    (full_node nodes n (are.filled (suc i) n p h) (are.heap (suc i) n p h), full_below k n.odd nodes are (omega arith) ow, full_below k n.even nodes are (omega arith) ew)

node_same : (a b : Node) → a.tag ≡ b.tag → a.setting ≡ b.setting → a.odd ≡ b.odd → a.even ≡ b.even → a ≡ b
node_same a b t m o e = λ j. record { tag = t j; setting = m j; odd = o j; even = e j }

-- each tree stands at one place
one_place : (k i j : ℕ) (nodes : List Node) → AreShared nodes → i < k → i < length nodes → j < length nodes → at_id nodes i ≡ at_id nodes j → i ≡ j
one_place zero i j nodes are b w v s = absurd (omega arith)
one_place (suc k) zero zero nodes are b w v s = refl
one_place (suc k) zero (suc j) nodes are b w v s =
    let n = get_or nodes (suc j) empty_node in
    let h : slice_get nodes (suc j) ≡ Some n = slice_get-get_or nodes (suc j) empty_node v in
    let t = node_tree nodes (suc j) n are (omega arith) h in
    let f = first_is nodes in absurd (cc)
one_place (suc k) (suc i) zero nodes are b w v s =
    let n = get_or nodes (suc i) empty_node in
    let h : slice_get nodes (suc i) ≡ Some n = slice_get-get_or nodes (suc i) empty_node w in
    let t = node_tree nodes (suc i) n are (omega arith) h in
    let f = first_is nodes in absurd (cc)
one_place (suc k) (suc i) (suc j) nodes are b w v s =
    let n = get_or nodes (suc i) empty_node in
    let m = get_or nodes (suc j) empty_node in
    let h : slice_get nodes (suc i) ≡ Some n = slice_get-get_or nodes (suc i) empty_node w in
    let g : slice_get nodes (suc j) ≡ Some m = slice_get-get_or nodes (suc j) empty_node v in
    let t = node_tree nodes (suc i) n are (omega arith) h in
    let u = node_tree nodes (suc j) m are (omega arith) g in
    let o : n.odd < suc i = are.odd_before (suc i) n (omega arith) h in
    let e : n.even < suc i = are.even_before (suc i) n (omega arith) h in
    let both : Branch n.tag n.setting (at_id nodes n.odd) (at_id nodes n.even) ≡ Branch m.tag m.setting (at_id nodes m.odd) (at_id nodes m.even) = sym t ∙ (s ∙ u) in
    let odds : at_id nodes n.odd ≡ at_id nodes m.odd = cc in
    let evens : at_id nodes n.even ≡ at_id nodes m.even = cc in
    let settings : n.setting ≡ m.setting = cc in
    let tags : n.tag ≡ m.tag = cc in
    let odd = one_place k n.odd m.odd nodes are (omega arith) (odd_given nodes (suc i) n are h) (odd_given nodes (suc j) m are g) odds in
    let even = one_place k n.even m.even nodes are (omega arith) (even_given nodes (suc i) n are h) (even_given nodes (suc j) m are g) evens in
    are.once (suc i) (suc j) n h (g ∙ ap (λ (x : Node). Some x) (sym (node_same n m tags settings odd even)))

pub one_id : (nodes : List Node) (i j : ℕ) → AreShared nodes → i < length nodes → j < length nodes → ((t : ℕ) → setting_of (at_id nodes i) t ≡ setting_of (at_id nodes j) t) → i ≡ j
one_id nodes i j are w v h =
    let s = same (at_id nodes i) (at_id nodes j) (full_below (suc i) i nodes are (omega arith) w) (full_below (suc j) j nodes are (omega arith) v) h in
    one_place (suc i) i j nodes are (omega arith) w v s
