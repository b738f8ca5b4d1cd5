-- A new node with the back half of another.
use Rattle.std.proofs.Common.{◌≡◌, ℕ, suc, ◌+◌, ◌<◌, ◌≤◌, inl, inr, List, [], ◌∷◌, ◌++◌, length, take, drop, get_or, set, refl, sym, ap, ◌∙◌, arith, get_or-set_same, get_or-set_other, length-set, length-append}
use Rattle.std.proofs.lemmas.List.{get_or_append_left, get_or_push, take-append-drop, map-append}
use Rattle.rt_nodes.specs.Nodes.{entries, with_entries}
use Rattle.rt_nodes.specs.declared.memory.NodeId.{NodeId}
use Rattle.rt_tree.specs.declared.node.Head.{Head}
use Rattle.rt_tree.specs.declared.node.Entry.{Entry}
use Rattle.rt_tree.specs.Changes.{links, bare, IsAdopted, IsHalved, strip}
use Rattle.rt_tree.specs.Shape.{level_of, parent_of, head_at, Memory, child_count}
use Rattle.rt_tree.proofs.Around.{count-append}
use Rattle.rt_tree.proofs.Halves.{cases_zero}
use Rattle.rt_tree.proofs.Bares.{bare-entries}
use Rattle.rt_tree.proofs.Frame.{no}

module _ (m m1 m2 : Memory) (n p q : NodeId) (k : ℕ) (nis : n.index < length m.heads) (qh : q.index ≡ length m.heads) (qr : q.index ≡ length m.rows) (h1 : m1.heads ≡ m.heads ++ (record { parent = p; level = level_of (bare m) n.index }) ∷ []) (r1 : m1.rows ≡ m.rows ++ [] ∷ []) (room1 : m1.room + 1 ≡ m.room) (is2 : m2 ≡ with_entries (with_entries m1 n.index (take k (entries m1 n.index))) q.index (entries m1 q.index ++ drop k (entries m1 n.index))) where
  abbrev hd : Head
  hd = record { parent = p; level = level_of (bare m) n.index }

  abbrev none : Head
  none = record { parent = record { index = 0 }; level = 0 }

  e1 : (c : ℕ) → c < q.index → entries m1 c ≡ entries m c
  e1 c lt = ap (λ (r : List (List Entry)). get_or r c []) r1 ∙ get_or_append_left m.rows ([] ∷ []) [] c (omega (arith, qr))

  e1q : entries m1 q.index ≡ []
  e1q = ap (λ (r : List (List Entry)). get_or r q.index []) r1 ∙ get_or_push m.rows [] [] q.index (sym qr)

  head1 : (c : ℕ) → c < q.index → head_at (bare m1) c ≡ head_at (bare m) c
  head1 c lt = ap (λ (r : List Head). get_or r c none) h1 ∙ get_or_append_left m.heads (hd ∷ []) none c (omega (arith, qh))

  head1q : head_at (bare m1) q.index ≡ hd
  head1q = ap (λ (r : List Head). get_or r q.index none) h1 ∙ get_or_push m.heads hd none q.index (sym qh)

  lens : length m1.rows ≡ suc q.index
  lens = let l = ap length r1 in let e = length-append m.rows ([] ∷ []) in omega (arith, qr)

  lens-heads : length m1.heads ≡ suc q.index
  lens-heads = let l = ap length h1 in let e = length-append m.heads (hd ∷ []) in omega (arith, qh)

  nlt : n.index < q.index
  nlt = omega (arith, qh, nis)

  abbrev rows2 : List (List Entry)
  rows2 = set m1.rows n.index (take k (entries m1 n.index))

  at2 : (c : ℕ) → entries m2 c ≡ get_or (set rows2 q.index (entries m1 q.index ++ drop k (entries m1 n.index))) c []
  at2 c = ap (λ (x : Memory). entries x c) is2

  e2q : entries m2 q.index ≡ drop k (entries m n.index)
  e2q = at2 q.index ∙ get_or-set_same rows2 q.index (entries m1 q.index ++ drop k (entries m1 n.index)) [] (omega (arith, lens, length-set m1.rows n.index (take k (entries m1 n.index)))) ∙ ap (λ l. l ++ drop k (entries m1 n.index)) e1q ∙ ap (drop k) (e1 n.index nlt)

  e2n : entries m2 n.index ≡ take k (entries m n.index)
  e2n = at2 n.index ∙ get_or-set_other rows2 q.index n.index (entries m1 q.index ++ drop k (entries m1 n.index)) [] (λ e. no (omega (arith, nlt, e))) ∙ get_or-set_same m1.rows n.index (take k (entries m1 n.index)) [] (omega (arith, lens, nlt)) ∙ ap (take k) (e1 n.index nlt)

  e2 : (c : ℕ) → c < q.index → (c ≡ n.index → ⊥) → entries m2 c ≡ entries m c
  e2 c lt ne = at2 c ∙ get_or-set_other rows2 q.index c (entries m1 q.index ++ drop k (entries m1 n.index)) [] (λ e. no (omega (arith, e))) ∙ get_or-set_other m1.rows n.index c (take k (entries m1 n.index)) [] ne ∙ e1 c lt

  heads2 : m2.heads ≡ m1.heads
  heads2 = ap (λ (x : Memory). x.heads) is2

  heads3 : (c : ℕ) → head_at (bare m2) c ≡ head_at (bare m1) c
  heads3 c = ap (λ (r : List Head). get_or r c none) heads2

  pub kids : entries (bare m2) q.index ≡ links (drop k (entries m n.index))
  kids = bare-entries m2 q.index ∙ ap links e2q

  module _ (m3 : Memory) (a : IsAdopted m2 m3 q.index (entries (bare m2) q.index)) where
    e3 : (c : ℕ) → entries m3 c ≡ entries m2 c
    e3 c = ap (λ (r : List (List Entry)). get_or r c []) a.rows

    unheard : child_count q.index (entries (bare m2) q.index) ≡ 0 → parent_of (bare m3) q.index ≡ p.index
    unheard z = a.stay q.index z ∙ ap (λ (h : Head). h.parent.index) (heads3 q.index ∙ head1q)

    pub halved : ((c : ℕ) → 0 < child_count c (links (entries m n.index)) → c < q.index) → child_count q.index (links (drop k (entries m n.index))) ≡ 0 → IsHalved m m3 n.index q.index p.index k
    halved old z = record {
      new = qh;
      longer = a.heads ∙ ap length heads2 ∙ lens-heads;
      same = let r = ap length a.rows in let r2 = ap (λ (x : Memory). length x.rows) is2 in let s1 = length-set rows2 q.index (entries m1 q.index ++ drop k (entries m1 n.index)) in let s2 = length-set m1.rows n.index (take k (entries m1 n.index)) in let h = a.heads in let hh = ap length heads2 in let l = lens in let lh = lens-heads in omega arith;
      levels = λ c lt. a.levels c ∙ ap (λ (h : Head). h.level) (heads3 c ∙ head1 c lt);
      level = a.levels q.index ∙ ap (λ (h : Head). h.level) (heads3 q.index ∙ head1q);
      moved = λ c lt some. a.moved c (omega (arith, ap length heads2, lens-heads)) (omega (arith, ap (child_count c) kids));
      stay = λ c lt zz. a.stay c (ap (child_count c) kids ∙ zz) ∙ ap (λ (h : Head). h.parent.index) (heads3 c ∙ head1 c lt);
      parent = unheard (ap (child_count q.index) kids ∙ z);
      at_n = e3 n.index ∙ e2n;
      at_q = e3 q.index ∙ e2q;
      others = λ c lt ne. e3 c ∙ e2 c lt ne;
      room = let r = a.room in let r2 = ap (λ (x : Memory). x.room) is2 in omega (arith, room1);
    }

pub drop-count : (c k : ℕ) (es : List Entry) → child_count c (links (drop k es)) ≤ child_count c (links es)
drop-count c k es =
    let w = ap (λ l. child_count c (links l)) (sym (take-append-drop k es)) ∙ ap (child_count c) (map-append strip (take k es) (drop k es)) ∙ count-append c (links (take k es)) (links (drop k es)) in
    omega arith

abbrev pub head_of : NodeId → ℕ → Head
head_of p l = record { parent = p; level = l }

-- how the header of the new node is written
pub head-is : (m m1 : Memory) (p : NodeId) (n level : ℕ) → level ≡ level_of (bare m) n → m1.heads ≡ m.heads ++ (record { parent = p; level = level }) ∷ [] → m1.heads ≡ m.heads ++ (record { parent = p; level = level_of (bare m) n }) ∷ []
head-is m m1 p n level e is = is ∙ ap (λ l. m.heads ++ head_of p l ∷ []) e

pub none_new : (m : Memory) (n q k : ℕ) → q ≡ length m.heads → ((c : ℕ) → 0 < child_count c (links (entries m n)) → c < length m.heads) → child_count q (links (drop k (entries m n))) ≡ 0
none_new m n q k qh kids = elim (cases_zero (child_count q (links (drop k (entries m n))))) [ inl z ↦ z | inr some ↦ absurd (let d = drop-count q k (entries m n) in let l = kids q (omega arith) in omega arith) ]

-- nothing is to be adopted where no node stands among the entries
pub unadopted : (m : Memory) (q : ℕ) (es : List Entry) → ((c : ℕ) → 0 < child_count c es → ⊥) → IsAdopted m m q es
unadopted m q es none = record {
  rows = refl;
  room = refl;
  heads = refl;
  levels = λ c. refl;
  moved = λ c lt some. absurd (none c some);
  stay = λ c z. refl;
}
