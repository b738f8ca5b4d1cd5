-- What a split does to nodes with totals.
use Rattle.std.proofs.Common.{◌≡◌, ℕ, zero, suc, ◌+◌, ◌/◌, ◌<◌, inl, inr, List, [], ◌∷◌, ◌++◌, length, take, drop, get_or, set, insert, refl, sym, ap, ◌∙◌, arith, subst, get_or-set_same, get_or-set_other, length-set, length-append}
use Rattle.std.proofs.lemmas.Bool.{cases_eq}
use Rattle.std.proofs.lemmas.List.{set_split, set-get_or, take-append-drop, get_or_default}
use Rattle.rt_nodes.specs.Nodes.{entries, with_entries, with_entry}
use Rattle.rt_nodes.specs.declared.memory.NodeId.{NodeId}
use Rattle.rt_tree.specs.declared.node.Head.{Head}
use Rattle.rt_tree.specs.declared.node.Entry.{Entry}
use Rattle.rt_tree.specs.declared.node.Totals.{Totals}
use Rattle.rt_tree.specs.declared.node.Entry.TheVariants.{Down}
use Rattle.rt_tree.proofs.Adding.{IsSmall, adds-append, le-first, small-drop, small-is, small-le}
use Rattle.rt_tree.specs.Changes.{links, bare, IsHalved, IsCut, AreHalves, AreStill, AreExact, strip, blank, adds_up}
use Rattle.rt_tree.specs.Shape.{level_of, parent_of, head_at, runs, Memory, child_count, IsShape}
use Rattle.rt_tree.proofs.Around.{node}
use Rattle.rt_tree.proofs.Bares.{bare-entries}
use Rattle.rt_tree.proofs.Cuts.{cut_other, cut_tree, cut_exact, cut_runs, cut_still}
use Rattle.rt_tree.proofs.Exact.{exact-sum}
use Rattle.rt_tree.proofs.Halves.{child-of, cases_zero}
use Rattle.rt_tree.proofs.Raise.{small-node, no_level, length-rows}
use Rattle.rt_tree.proofs.Frame.{no}
use Rattle.rt_tree.proofs.NewNode.{drop-count}
use Rattle.rt_tree.specs.Sums.{totals_of}

pub insert_after : (xs : List Entry) (i : ℕ) (x y : Entry) → i < length xs → insert (set xs i x) (suc i) y ≡ take i xs ++ x ∷ y ∷ drop (suc i) xs
insert_after [] i x y lt = absurd (omega arith)
insert_after (z ∷ xs) zero x y lt = refl
insert_after (z ∷ xs) (suc i) x y lt = ap (λ l. z ∷ l) (insert_after xs i x y (omega arith))

pub cut_list : (xs : List Entry) (i : ℕ) (e : Entry) → i < length xs → e ≡ get_or xs i e → xs ≡ take i xs ++ e ∷ drop (suc i) xs
cut_list xs i e lt is = sym (set-get_or xs i e) ∙ ap (set xs i) (sym is) ∙ set_split xs i e lt

abbrev pub entry_down : NodeId → Totals → Entry
entry_down n t = Down n t

module _ (m m1 m2 m3 : Memory) (n q p : NodeId) (k slot after : ℕ) (e : Entry) (f b : Totals) (hv : IsHalved m m1 n.index q.index p.index k) (nis : n.index < length m.heads) (pis : p.index < length m.heads) (pn : p.index ≡ n.index → ⊥) (rows : length m.heads ≡ length m.rows) (within : slot < length (entries m p.index)) (here : e ≡ get_or (entries m p.index) slot e) (link : (strip e) ≡ Down n blank) (next : after ≡ suc slot) (fs : f ≡ adds_up (entries m1 n.index)) (bs : b ≡ adds_up (entries m1 q.index)) (is2 : m2 ≡ with_entry m1 p.index slot (entry_down n f)) (is3 : m3 ≡ with_entries m2 p.index (insert (entries m2 p.index) after (entry_down q b))) where
  same-p : entries m1 p.index ≡ entries m p.index
  same-p = hv.others p.index (omega (arith, pis, hv.new)) pn

  abbrev row2 : List Entry
  row2 = set (entries m1 p.index) slot (entry_down n f)

  e2 : (c : ℕ) → (c ≡ p.index → ⊥) → entries m2 c ≡ entries m1 c
  e2 c ne = ap (λ (x : Memory). entries x c) is2 ∙ get_or-set_other m1.rows p.index c row2 [] ne

  e3 : (c : ℕ) → (c ≡ p.index → ⊥) → entries m3 c ≡ entries m1 c
  e3 c ne = ap (λ (x : Memory). entries x c) is3 ∙ get_or-set_other m2.rows p.index c (insert (entries m2 p.index) after (entry_down q b)) [] ne ∙ e2 c ne

  plt : p.index < length m1.rows
  plt = let s = hv.same in let l = hv.longer in let w = hv.new in omega (arith, pis)

  len2 : length m2.rows ≡ length m1.rows
  len2 = ap (λ (x : Memory). length x.rows) is2 ∙ length-set m1.rows p.index row2

  e2p : entries m2 p.index ≡ set (entries m p.index) slot (entry_down n f)
  e2p = ap (λ (x : Memory). entries x p.index) is2 ∙ get_or-set_same m1.rows p.index row2 [] plt ∙ ap (λ l. set l slot (entry_down n f)) same-p

  e3p : entries m3 p.index ≡ take slot (entries m p.index) ++ entry_down n f ∷ entry_down q b ∷ drop (suc slot) (entries m p.index)
  e3p =
      let l = plt in let l2 = len2 in
      ap (λ (x : Memory). entries x p.index) is3 ∙ get_or-set_same m2.rows p.index (insert (entries m2 p.index) after (entry_down q b)) [] (omega arith)
      ∙ ap (λ l. insert l after (entry_down q b)) e2p ∙ ap (λ j. insert (set (entries m p.index) slot (entry_down n f)) j (entry_down q b)) next
      ∙ insert_after (entries m p.index) slot (entry_down n f) (entry_down q b) within

  heads : m3.heads ≡ m1.heads
  heads = ap (λ (x : Memory). x.heads) is3 ∙ ap (λ (x : Memory). x.heads) is2

  abbrev none : Head
  none = record { parent = record { index = 0 }; level = 0 }

  head3 : (c : ℕ) → head_at (bare m3) c ≡ head_at (bare m1) c
  head3 c = ap (λ (r : List Head). get_or r c none) heads

  q_not_p : q.index ≡ p.index → ⊥
  q_not_p w = no (omega (arith, pis, hv.new))

  pub cut_of : IsCut m m3 n.index q.index p.index (take k (entries m n.index)) (drop k (entries m n.index)) (take slot (entries m p.index)) (drop (suc slot) (entries m p.index)) e
  cut_of = record {
    new = hv.new;
    longer = ap length heads ∙ hv.longer;
    same = let a = ap length heads in let s = hv.same in let l = len2 in let r = ap (λ (x : Memory). length x.rows) is3 ∙ length-set m2.rows p.index (insert (entries m2 p.index) after (entry_down q b)) in omega arith;
    levels = λ c lt. ap (λ (h : Head). h.level) (head3 c) ∙ hv.levels c lt;
    level = ap (λ (h : Head). h.level) (head3 q.index) ∙ hv.level;
    moved = λ c lt some. ap (λ (h : Head). h.parent.index) (head3 c) ∙ hv.moved c lt some;
    stay = λ c lt z. ap (λ (h : Head). h.parent.index) (head3 c) ∙ hv.stay c lt z;
    parent = ap (λ (h : Head). h.parent.index) (head3 q.index) ∙ hv.parent;
    halves = sym (take-append-drop k (entries m n.index));
    at_n = e3 n.index (λ w. pn (sym w)) ∙ hv.at_n;
    at_q = e3 q.index q_not_p ∙ hv.at_q;
    was = cut_list (entries m p.index) slot e within here;
    named = link;
    is = e3p ∙ ap (λ t. take slot (entries m p.index) ++ entry_down n t ∷ entry_down q b ∷ drop (suc slot) (entries m p.index)) (fs ∙ ap adds_up hv.at_n) ∙ ap (λ t. take slot (entries m p.index) ++ entry_down n (adds_up (take k (entries m n.index))) ∷ entry_down q t ∷ drop (suc slot) (entries m p.index)) (bs ∙ ap adds_up hv.at_q);
    others = λ c lt nn np. e3 c np ∙ hv.others c lt nn;
  }

-- a node's halves are small
module _ (m : Memory) (height root : ℕ) (t : IsShape (bare m) height root) (exact : AreExact m) (small : IsSmall (totals_of (runs (bare m) height root))) (n : ℕ) (nis : n < length m.heads) where
  pub small-sum : IsSmall (adds_up (entries m n))
  small-sum =
      let k = level_of (bare m) n in
      small-is (adds_up (entries m n)) (totals_of (runs (bare m) k n)) (exact-sum m height root t k (λ id is le. exact id is) k n nis refl (omega arith)) (small-node m height root t k n nis refl (t.low n nis) small)

  pub small-front : (k : ℕ) → IsSmall (adds_up (take k (entries m n)))
  small-front k = small-le (adds_up (take k (entries m n))) (adds_up (entries m n)) (le-first (adds_up (take k (entries m n))) (adds_up (drop k (entries m n))) (adds_up (entries m n)) (ap adds_up (sym (take-append-drop k (entries m n))) ∙ adds-append (take k (entries m n)) (drop k (entries m n)))) small-sum

  pub small-back : (k : ℕ) → IsSmall (adds_up (drop k (entries m n)))
  small-back k = small-drop (entries m n) k small-sum

  -- the children of a node are nodes, and it is no leaf then
  pub kids-in : (c : ℕ) → 0 < child_count c (links (entries m n)) → (c < length m.heads) × (0 < level_of (bare m) n)
  kids-in c some =
      let k = child-of (bare m) n (level_of (bare m) n) (entries (bare m) n) (t.fits n nis) c (omega (arith, ap (child_count c) (bare-entries m n))) in
      (k.0, let up = k.1 in omega (arith, up))

-- what a split keeps
pub record IsKept (m m3 : Memory) (height root : ℕ) : Type 0 where
  pub tree : IsShape (bare m3) height root
  pub exact : AreExact m3
  pub runs_are : runs (bare m3) height root ≡ runs (bare m) height root

pub parent_in : (m : Memory) (height root : ℕ) → IsShape (bare m) height root → (n p : ℕ) → n < length m.heads → (n ≡ root → ⊥) → p ≡ parent_of (bare m) n → (p < length m.heads) × (p < length m.rows) × (p ≡ n → ⊥)
parent_in m height root t n p nis nr up =
    let kn = t.known n nis nr in
    let is : p < length m.heads = subst (λ x. x < length m.heads) (sym up) kn.is in
    (is, omega (arith, t.same, length-rows m), λ w. no_level (bare m) n p kn.up up (sym w))

pub split_kept : (m m1 m2 m3 : Memory) (height root : ℕ) (n q p : NodeId) (k slot after : ℕ) (f b : Totals) → IsShape (bare m) height root → AreExact m → (n.index < length m.heads) × (n.index ≡ root → ⊥) → p.index ≡ parent_of (bare m) n.index → slot < length (entries m p.index) → ((e : Entry) → e ≡ get_or (entries m p.index) slot e → (strip e) ≡ Down n blank) → IsHalved m m1 n.index q.index p.index k → after ≡ suc slot → f ≡ adds_up (entries m1 n.index) → b ≡ adds_up (entries m1 q.index) → m2 ≡ with_entry m1 p.index slot (entry_down n f) → m3 ≡ with_entries m2 p.index (insert (entries m2 p.index) after (entry_down q b)) → IsKept m m3 height root
split_kept m m1 m2 m3 height root n q p k slot after f b t exact ns up within at hv next fs bs is2 is3 =
    let pi = parent_in m height root t n.index p.index ns.0 ns.1 up in
    let d = entry_down n f in
    let e = get_or (entries m p.index) slot d in
    let here : e ≡ get_or (entries m p.index) slot e = get_or_default (entries m p.index) slot d e within in
    let cut = cut_of m m1 m2 m3 n q p k slot after e f b hv ns.0 pi.0 pi.2 (t.same ∙ length-rows m) within here (at e here) next fs bs is2 is3 in
    let front = take k (entries m n.index) in let back = drop k (entries m n.index) in
    let left = take slot (entries m p.index) in let right = drop (suc slot) (entries m p.index) in
    record {
      tree = cut_tree m m3 height root t exact n.index q.index p.index front back left right e ns.0 ns.1 up cut;
      exact = cut_exact m m3 height root t exact n.index q.index p.index front back left right e ns.0 ns.1 up cut;
      runs_are = cut_runs m m3 height root t exact n.index q.index p.index front back left right e ns.0 ns.1 up cut;
    }

pub split_wider : (m m1 m2 m3 : Memory) (height root : ℕ) (n q p : NodeId) (k slot after : ℕ) (f b : Totals) → IsShape (bare m) height root → AreExact m → (n.index < length m.heads) × (n.index ≡ root → ⊥) → p.index ≡ parent_of (bare m) n.index → slot < length (entries m p.index) → ((e : Entry) → e ≡ get_or (entries m p.index) slot e → (strip e) ≡ Down n blank) → IsHalved m m1 n.index q.index p.index k → after ≡ suc slot → f ≡ adds_up (entries m1 n.index) → b ≡ adds_up (entries m1 q.index) → m2 ≡ with_entry m1 p.index slot (entry_down n f) → m3 ≡ with_entries m2 p.index (insert (entries m2 p.index) after (entry_down q b)) → length (entries m3 p.index) ≡ length (entries m p.index) + 1
split_wider m m1 m2 m3 height root n q p k slot after f b t exact ns up within at hv next fs bs is2 is3 =
    let pi = parent_in m height root t n.index p.index ns.0 ns.1 up in
    let d = entry_down n f in
    let e = get_or (entries m p.index) slot d in
    let here : e ≡ get_or (entries m p.index) slot e = get_or_default (entries m p.index) slot d e within in
    let cut = cut_of m m1 m2 m3 n q p k slot after e f b hv ns.0 pi.0 pi.2 (t.same ∙ length-rows m) within here (at e here) next fs bs is2 is3 in
    let front = take k (entries m n.index) in let back = drop k (entries m n.index) in
    let left = take slot (entries m p.index) in let right = drop (suc slot) (entries m p.index) in
    let a = ap length cut.is ∙ length-append left (Down n (adds_up front) ∷ Down q (adds_up back) ∷ right) in
    let b = ap length cut.was ∙ length-append left (e ∷ right) in
    omega (arith, a, b)

pub split_still : (m m1 m2 m3 : Memory) (height root : ℕ) (n q p : NodeId) (k slot after : ℕ) (f b : Totals) → IsShape (bare m) height root → AreExact m → (n.index < length m.heads) × (n.index ≡ root → ⊥) → p.index ≡ parent_of (bare m) n.index → slot < length (entries m p.index) → ((e : Entry) → e ≡ get_or (entries m p.index) slot e → (strip e) ≡ Down n blank) → IsHalved m m1 n.index q.index p.index k → after ≡ suc slot → f ≡ adds_up (entries m1 n.index) → b ≡ adds_up (entries m1 q.index) → m2 ≡ with_entry m1 p.index slot (entry_down n f) → m3 ≡ with_entries m2 p.index (insert (entries m2 p.index) after (entry_down q b)) → AreStill m m3 height n.index q.index
split_still m m1 m2 m3 height root n q p k slot after f b t exact ns up within at hv next fs bs is2 is3 =
    let pi = parent_in m height root t n.index p.index ns.0 ns.1 up in
    let d = entry_down n f in
    let e = get_or (entries m p.index) slot d in
    let here : e ≡ get_or (entries m p.index) slot e = get_or_default (entries m p.index) slot d e within in
    let cut = cut_of m m1 m2 m3 n q p k slot after e f b hv ns.0 pi.0 pi.2 (t.same ∙ length-rows m) within here (at e here) next fs bs is2 is3 in
    let front = take k (entries m n.index) in let back = drop k (entries m n.index) in
    let left = take slot (entries m p.index) in let right = drop (suc slot) (entries m p.index) in
    cut_still m m3 height root t exact n.index q.index p.index front back left right e ns.0 ns.1 up cut

pub split_others : (m m1 m2 m3 : Memory) (height root : ℕ) (n q p : NodeId) (k slot after : ℕ) (f b : Totals) → IsShape (bare m) height root → AreExact m → (n.index < length m.heads) × (n.index ≡ root → ⊥) → p.index ≡ parent_of (bare m) n.index → slot < length (entries m p.index) → ((e : Entry) → e ≡ get_or (entries m p.index) slot e → (strip e) ≡ Down n blank) → IsHalved m m1 n.index q.index p.index k → after ≡ suc slot → f ≡ adds_up (entries m1 n.index) → b ≡ adds_up (entries m1 q.index) → m2 ≡ with_entry m1 p.index slot (entry_down n f) → m3 ≡ with_entries m2 p.index (insert (entries m2 p.index) after (entry_down q b)) → (c : ℕ) → c < q.index → (c ≡ n.index → ⊥) → runs (bare m3) (level_of (bare m) c) c ≡ runs (bare m) (level_of (bare m) c) c
split_others m m1 m2 m3 height root n q p k slot after f b t exact ns up within at hv next fs bs is2 is3 =
    let pi = parent_in m height root t n.index p.index ns.0 ns.1 up in
    let d = entry_down n f in
    let e = get_or (entries m p.index) slot d in
    let here : e ≡ get_or (entries m p.index) slot e = get_or_default (entries m p.index) slot d e within in
    let cut = cut_of m m1 m2 m3 n q p k slot after e f b hv ns.0 pi.0 pi.2 (t.same ∙ length-rows m) within here (at e here) next fs bs is2 is3 in
    let front = take k (entries m n.index) in let back = drop k (entries m n.index) in
    let left = take slot (entries m p.index) in let right = drop (suc slot) (entries m p.index) in
    cut_other m m3 height root t exact n.index q.index p.index front back left right e ns.0 ns.1 up cut

halves_of : (m m' : Memory) (height root n q p k : ℕ) (left right : List Entry) (e : Entry) → IsShape (bare m) height root → n < length m.heads → IsCut m m' n q p (take k (entries m n)) (drop k (entries m n)) left right e → k ≡ length (entries m n) / 2 → AreHalves m m' n q
halves_of m m' height root n q p k left right e t nis cut is = record {
  others = λ c lt nn. elim (cases_eq c p) [
    | inl w ↦
        let a = ap (λ x. length (entries m' x)) w ∙ ap length cut.is ∙ length-append left (Down (node n) (adds_up (take k (entries m n))) ∷ Down (node q) (adds_up (drop k (entries m n))) ∷ right) in
        let b = ap (λ x. length (entries m x)) w ∙ ap length cut.was ∙ length-append left (e ∷ right) in
        omega (arith, a, b)
    | inr np ↦ let a = ap length (cut.others c lt nn np) in omega (arith, a)
  ];
  new = cut.new;
  longer = cut.longer;
  levels = cut.levels;
  first = cut.at_n ∙ ap (λ j. take j (entries m n)) is;
  second = cut.at_q ∙ ap (λ j. drop j (entries m n)) is;
  parents = λ c lt. elim (cases_zero (child_count c (links (drop k (entries m n))))) [
    | inl z ↦ inl (cut.stay c lt z)
    | inr some ↦ inr ((child-of (bare m) n (level_of (bare m) n) (entries (bare m) n) (t.fits n nis) c (let d = drop-count c k (entries m n) in omega (arith, ap (child_count c) (bare-entries m n)))).2, cut.moved c lt some)
  ];
}

pub split_halves : (m m1 m2 m3 : Memory) (height root : ℕ) (n q p : NodeId) (k slot after : ℕ) (f b : Totals) → IsShape (bare m) height root → AreExact m → (n.index < length m.heads) × (n.index ≡ root → ⊥) → p.index ≡ parent_of (bare m) n.index → slot < length (entries m p.index) → ((e : Entry) → e ≡ get_or (entries m p.index) slot e → (strip e) ≡ Down n blank) → IsHalved m m1 n.index q.index p.index k → after ≡ suc slot → f ≡ adds_up (entries m1 n.index) → b ≡ adds_up (entries m1 q.index) → m2 ≡ with_entry m1 p.index slot (entry_down n f) → m3 ≡ with_entries m2 p.index (insert (entries m2 p.index) after (entry_down q b)) → k ≡ length (entries m n.index) / 2 → AreHalves m m3 n.index q.index
split_halves m m1 m2 m3 height root n q p k slot after f b t exact ns up within at hv next fs bs is2 is3 kis =
    let pi = parent_in m height root t n.index p.index ns.0 ns.1 up in
    let d = entry_down n f in
    let e = get_or (entries m p.index) slot d in
    let here : e ≡ get_or (entries m p.index) slot e = get_or_default (entries m p.index) slot d e within in
    let cut = cut_of m m1 m2 m3 n q p k slot after e f b hv ns.0 pi.0 pi.2 (t.same ∙ length-rows m) within here (at e here) next fs bs is2 is3 in
    let front = take k (entries m n.index) in let back = drop k (entries m n.index) in
    let left = take slot (entries m p.index) in let right = drop (suc slot) (entries m p.index) in
    halves_of m m3 height root n.index q.index p.index k left right e t ns.0 cut kis
