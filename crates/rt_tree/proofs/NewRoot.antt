-- The calls that make a new root.
use Rattle.std.proofs.Common.{◌≡◌, ℕ, suc, ◌+◌, ◌<◌, inl, inr, List, [], ◌∷◌, ◌++◌, length, get_or, insert, sym, ap, ◌∙◌, arith, subst, get_or-set_same, get_or-set_other, length-set, length-append}
use Rattle.std.proofs.lemmas.Bool.{cases_eq}
use Rattle.std.proofs.lemmas.List.{get_or_append_left, get_or_push}
use Rattle.rt_nodes.specs.Nodes.{entries, with_entries, with_head}
use Rattle.rt_nodes.specs.declared.memory.NodeId.{NodeId}
use Rattle.rt_tree.specs.declared.node.Head.{Head}
use Rattle.rt_tree.specs.declared.node.Entry.{Entry}
use Rattle.rt_tree.specs.declared.node.Totals.{Totals}
use Rattle.rt_tree.specs.Changes.{bare, IsGrown, AreExact, adds_up}
use Rattle.rt_tree.specs.Shape.{level_of, head_at, runs, Memory, IsShape}
use Rattle.rt_tree.proofs.Grows.{grown_tree, grown_exact, grown_runs}
use Rattle.rt_tree.proofs.Splits.{entry_down}
use Rattle.rt_tree.proofs.Frame.{no}

abbrev pub root_head : NodeId → ℕ → Head
root_head p l = record { parent = p; level = l }

module _ (m m1 m2 m3 : Memory) (height : ℕ) (root q : NodeId) (z : Totals) (t : IsShape (bare m) height root.index) (exact : AreExact m) (qh : q.index ≡ length m.heads) (qr : q.index ≡ length m.rows) (h1 : m1.heads ≡ m.heads ++ (root_head root (height + 1)) ∷ []) (r1 : m1.rows ≡ m.rows ++ [] ∷ []) (zs : z ≡ adds_up (entries m root.index)) (is2 : m2 ≡ with_entries m1 q.index (insert (entries m1 q.index) 0 (entry_down root z))) (is3 : m3 ≡ with_head m2 root.index (root_head q (level_of (bare m2) root.index))) where
  abbrev none : Head
  none = record { parent = record { index = 0 }; level = 0 }

  rlt : root.index < q.index
  rlt = omega (arith, t.root_is, qh)

  lens : length m1.rows ≡ suc q.index
  lens = let l = ap length r1 in let e = length-append m.rows ([] ∷ []) in omega (arith, qr)

  lens-heads : length m1.heads ≡ suc q.index
  lens-heads = let l = ap length h1 in let e = length-append m.heads (root_head root (height + 1) ∷ []) in omega (arith, qh)

  heads2 : m2.heads ≡ m1.heads
  heads2 = ap (λ (x : Memory). x.heads) is2

  rows3 : m3.rows ≡ m2.rows
  rows3 = ap (λ (x : Memory). x.rows) is3

  len3 : length m3.heads ≡ suc q.index
  len3 = ap (λ (x : Memory). length x.heads) is3 ∙ length-set m2.heads root.index (root_head q (level_of (bare m2) root.index)) ∙ ap length heads2 ∙ lens-heads

  head2 : (c : ℕ) → c < q.index → head_at (bare m2) c ≡ head_at (bare m) c
  head2 c lt = ap (λ (r : List Head). get_or r c none) (heads2 ∙ h1) ∙ get_or_append_left m.heads (root_head root (height + 1) ∷ []) none c (omega (arith, qh))

  head2q : head_at (bare m2) q.index ≡ root_head root (height + 1)
  head2q = ap (λ (r : List Head). get_or r q.index none) (heads2 ∙ h1) ∙ get_or_push m.heads (root_head root (height + 1)) none q.index (sym qh)

  head3 : (c : ℕ) → (c ≡ root.index → ⊥) → head_at (bare m3) c ≡ head_at (bare m2) c
  head3 c ne = ap (λ (x : Memory). get_or x.heads c none) is3 ∙ get_or-set_other m2.heads root.index c (root_head q (level_of (bare m2) root.index)) none ne

  head3r : head_at (bare m3) root.index ≡ root_head q (level_of (bare m2) root.index)
  head3r = ap (λ (x : Memory). get_or x.heads root.index none) is3 ∙ get_or-set_same m2.heads root.index (root_head q (level_of (bare m2) root.index)) none (omega (arith, ap length heads2, lens-heads, rlt))

  e3q : entries m3 q.index ≡ entry_down root z ∷ []
  e3q =
      ap (λ (r : List (List Entry)). get_or r q.index []) rows3 ∙ ap (λ (x : Memory). entries x q.index) is2
      ∙ get_or-set_same m1.rows q.index (insert (entries m1 q.index) 0 (entry_down root z)) [] (omega (arith, lens))
      ∙ ap (λ l. entry_down root z ∷ l) (ap (λ (r : List (List Entry)). get_or r q.index []) r1 ∙ get_or_push m.rows [] [] q.index (sym qr))

  e3 : (c : ℕ) → c < q.index → entries m3 c ≡ entries m c
  e3 c lt =
      ap (λ (r : List (List Entry)). get_or r c []) rows3 ∙ ap (λ (x : Memory). entries x c) is2
      ∙ get_or-set_other m1.rows q.index c (insert (entries m1 q.index) 0 (entry_down root z)) [] (λ e. no (omega (arith, e)))
      ∙ ap (λ (r : List (List Entry)). get_or r c []) r1 ∙ get_or_append_left m.rows ([] ∷ []) [] c (omega (arith, qr))

  pub grown : IsGrown m m3 height root.index q.index
  grown = record {
    new = qh;
    longer = len3;
    same = let l = ap length rows3 in let r = ap (λ (x : Memory). length x.rows) is2 ∙ length-set m1.rows q.index (insert (entries m1 q.index) 0 (entry_down root z)) in let a = len3 in let b = lens in omega arith;
    levels = λ c lt. elim (cases_eq c root.index) [
      | inl e ↦ ap (level_of (bare m3)) e ∙ ap (λ (h : Head). h.level) head3r ∙ ap (λ (h : Head). h.level) (head2 root.index rlt) ∙ ap (level_of (bare m)) (sym e)
      | inr ne ↦ ap (λ (h : Head). h.level) (head3 c ne ∙ head2 c lt)
    ];
    level = ap (λ (h : Head). h.level) (head3 q.index (λ e. no (omega (arith, e, rlt))) ∙ head2q) ∙ (omega arith);
    stay = λ c lt ne. ap (λ (h : Head). h.parent.index) (head3 c ne ∙ head2 c lt);
    parent = ap (λ (h : Head). h.parent.index) head3r;
    at_q = e3q ∙ ap (λ x. entry_down root x ∷ []) zs;
    others = e3;
  }

  up-one : suc height ≡ height + 1
  up-one = omega arith

  pub new_root_tree : IsShape (bare m3) (height + 1) q.index
  new_root_tree = subst (λ h. IsShape (bare m3) h q.index) up-one (grown_tree m m3 height root.index q.index t exact grown)

  pub new_root_exact : AreExact m3
  new_root_exact = grown_exact m m3 height root.index q.index t exact grown

  pub new_root_runs : runs (bare m3) (height + 1) q.index ≡ runs (bare m) height root.index
  new_root_runs = ap (λ h. runs (bare m3) h q.index) (sym up-one) ∙ grown_runs m m3 height root.index q.index t exact grown
