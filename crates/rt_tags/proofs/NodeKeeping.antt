-- Nodes that are kept, and one more.
use Rattle.std.proofs.Common.{◌≡◌, inl, inr, ℕ, zero, suc, ◌==◌, ◌<◌, ◌&&◌, List, [], ◌∷◌, ◌++◌, length, slice_get, Bool, true, false, cond, refl, sym, ap, subst, ◌∙◌, Option, Some, None, is_some, ◌+◌, arith}
use Rattle.std.specs.Bool.{beq}
use Rattle.std.proofs.Math.ListN.{length-append}
use Rattle.std.specs.Cmp.{booleans_Decides}
use Rattle.std.specs.List.{IsDistinct, list_any}
use Rattle.std.specs.Option.{option_eq}
use Rattle.std.proofs.lemmas.Bool.{cases_lt}
use Rattle.std.proofs.lemmas.Bool.Decides.{Decides-eqb}
use Rattle.indexmap.specs.IndexSet.{insert_key}
use Rattle.rt_tags.specs.declared.nodes.Setting.{Setting}
use Rattle.rt_tags.specs.declared.nodes.Node.{Node}
use Rattle.rt_tags.specs.SharedStates.{AreShared, IsHeap, IsThere, AreBelow, IsBelow, Tree, at_id, empty_node}
use Rattle.rt_tags.proofs.Trees.{even_given, keeps, odd_given, outside}
use Rattle.rt_tags.proofs.Behind.{at_less, at_more, every_at, last_is}
use Rattle.rt_tags.proofs.Places.{clash, split}

both_and : (a b : Bool) → a ≡ true → b ≡ true → (a && b) ≡ true
both_and a b h k = ap (λ (v : Bool). v && b) h ∙ k

abbrev pub is_one_setting : Setting → Setting → Bool
is_one_setting a b = ((a.writer.count == b.writer.count) && (a.writer.site == b.writer.site)) && beq a.on b.on

abbrev pub is_one : Node → Node → Bool
is_one a b = (a.tag == b.tag) && (option_eq is_one_setting a.setting b.setting && ((a.odd == b.odd) && (a.even == b.even)))

setting_itself : (m : Option Setting) → option_eq is_one_setting m m ≡ true
setting_itself None = refl
setting_itself (Some m) =
    both_and ((m.writer.count == m.writer.count) && (m.writer.site == m.writer.site)) (beq m.on m.on)
    (both_and (m.writer.count == m.writer.count) (m.writer.site == m.writer.site) ((Decides-eqb m.writer.count m.writer.count).1 refl) ((Decides-eqb m.writer.site m.writer.site).1 refl))
    ((booleans_Decides m.on m.on).1 refl)

pub itself : (n : Node) → is_one n n ≡ true
itself n =
    both_and (n.tag == n.tag) (option_eq is_one_setting n.setting n.setting && ((n.odd == n.odd) && (n.even == n.even))) ((Decides-eqb n.tag n.tag).1 refl)
    (both_and (option_eq is_one_setting n.setting n.setting) ((n.odd == n.odd) && (n.even == n.even)) (setting_itself n.setting)
    (both_and (n.odd == n.odd) (n.even == n.even) ((Decides-eqb n.odd n.odd).1 refl) ((Decides-eqb n.even n.even).1 refl)))

-- nothing is twice among distinct nodes
apart : (n x : Node) → is_one x n ≡ false → x ≡ n → ⊥
apart n x f e = clash (is_one x n) (ap (λ (v : Node). is_one x v) (sym e) ∙ itself x) f

pub once : (ns : List Node) → IsDistinct is_one ns → (i j : ℕ) (n : Node) → slice_get ns i ≡ Some n → slice_get ns j ≡ Some n → i ≡ j
unfolding IsDistinct
once [] d i j n a b = absurd (cc)
once (x ∷ ns) d zero zero n a b = refl
once (x ∷ ns) d zero (suc j) n a b =
    let e : x ≡ n = cc in
    absurd (apart n x (every_at (λ (y : Node). is_one x y ≡ false) ns d.0 j n b) e)
once (x ∷ ns) d (suc i) zero n a b =
    let e : x ≡ n = cc in
    absurd (apart n x (every_at (λ (y : Node). is_one x y ≡ false) ns d.0 i n a) e)
once (x ∷ ns) d (suc i) (suc j) n a b = ap suc (once ns d.1 i j n a b)

-- one more node behind those that are kept
module _ (old : List Node) (node : Node) (are : AreShared old) (odd : node.odd < length old) (even : node.even < length old) (filled : is_some node.setting ≡ true) (heap : IsHeap old node) where
  odd_before : (i : ℕ) (n : Node) → 0 < i → slice_get (old ++ node ∷ []) i ≡ Some n → n.odd < i
  odd_before i n p h = elim (cases_lt i (length old)) as (λ w. n.odd < i) [
    | inl w ↦ are.odd_before i n p (at_less old (node ∷ []) i n w h)
    | inr w ↦ let e : n.odd ≡ node.odd = ap (λ (v : Node). v.odd) (last_is old node i n h w) in omega arith
  ]

  even_before : (i : ℕ) (n : Node) → 0 < i → slice_get (old ++ node ∷ []) i ≡ Some n → n.even < i
  even_before i n p h = elim (cases_lt i (length old)) as (λ w. n.even < i) [
    | inl w ↦ are.even_before i n p (at_less old (node ∷ []) i n w h)
    | inr w ↦ let e : n.even ≡ node.even = ap (λ (v : Node). v.even) (last_is old node i n h w) in omega arith
  ]

  all_filled : (i : ℕ) (n : Node) → 0 < i → slice_get (old ++ node ∷ []) i ≡ Some n → is_some n.setting ≡ true
  all_filled i n p h = elim (cases_lt i (length old)) as (λ w. is_some n.setting ≡ true) [
    | inl w ↦ are.filled i n p (at_less old (node ∷ []) i n w h)
    | inr w ↦ ap (λ (v : Node). is_some v.setting) (last_is old node i n h w) ∙ filled
  ]

  -- a heap stays one
  stays_heap : (n : Node) → n.odd < length old → n.even < length old → IsHeap old n → IsHeap (old ++ node ∷ []) n
  stays_heap n o e h = record {
    odd = λ t is. h.odd t (subst (λ (v : Tree). IsThere v t) (keeps old (node ∷ []) n.odd o) is);
    even = λ t is. h.even t (subst (λ (v : Tree). IsThere v t) (keeps old (node ∷ []) n.even e) is);
    tag = h.tag;
  }

  all_heaps : (i : ℕ) (n : Node) → 0 < i → slice_get (old ++ node ∷ []) i ≡ Some n → IsHeap (old ++ node ∷ []) n
  all_heaps i n p h = elim (cases_lt i (length old)) as (λ w. IsHeap (old ++ node ∷ []) n) [
    | inl w ↦ let g = at_less old (node ∷ []) i n w h in stays_heap n (odd_given old i n are g) (even_given old i n are g) (are.heap i n p g)
    | inr w ↦ subst (λ (v : Node). IsHeap (old ++ node ∷ []) v) (sym (last_is old node i n h w)) (stays_heap node odd even heap)
  ]

  pub one_more : IsDistinct is_one (old ++ node ∷ []) → AreShared (old ++ node ∷ [])
  one_more d = record {
    first = at_more old (node ∷ []) 0 empty_node are.first;
    odd_before = odd_before;
    even_before = even_before;
    filled = all_filled;
    once = once (old ++ node ∷ []) d;
    heap = all_heaps;
  }

  pub kept : (new : List Node) → new ≡ insert_key is_one old node → IsDistinct is_one new → AreShared new
  kept new e d = split (list_any (is_one node) old)
      (λ t. subst AreShared (sym (e ∙ ap (λ (b : Bool). cond b old (old ++ node ∷ [])) t)) are)
      (λ f. let k = e ∙ ap (λ (b : Bool). cond b old (old ++ node ∷ [])) f in
      subst AreShared (sym k) (one_more (subst (λ (v : List Node). IsDistinct is_one v) k d)))

-- a node that has a setting isn't the first
pub not_first : (nodes : List Node) (i : ℕ) (n : Node) → AreShared nodes → slice_get nodes i ≡ Some n → is_some n.setting ≡ true → 0 < i
not_first nodes zero n are h f =
    let first = are.first in
    let e : n ≡ empty_node = cc in
    absurd (clash (is_some n.setting) f (ap (λ (v : Node). is_some v.setting) e))
not_first nodes (suc i) n are h f = omega arith

last_there : (old : List Node) (node : Node) → slice_get (old ++ node ∷ []) (length old) ≡ Some node
last_there [] node = refl
last_there (x ∷ old) node = last_there old node

-- tags stay less than a number, if those of the one more are
pub below_more : (old : List Node) (node : Node) (new : List Node) (r n : ℕ) → new ≡ insert_key is_one old node → AreShared new → slice_get new r ≡ Some node → AreBelow n old → IsBelow n (at_id new r) → AreBelow n new
below_more old node new r n e are at below is = split (list_any (is_one node) old)
    (λ t. subst (AreBelow n) (sym (e ∙ ap (λ (b : Bool). cond b old (old ++ node ∷ [])) t)) below)
    (λ f.
    let k : new ≡ old ++ node ∷ [] = e ∙ ap (λ (b : Bool). cond b old (old ++ node ∷ [])) f in
    let len : length new ≡ length old + 1 = ap (λ (v : List Node). length v) k ∙ length-append old (node ∷ []) in
    λ id t there. elim (cases_lt id (length old)) as (λ w. t < n) [
      | inl w ↦ below id t (subst (λ (v : Tree). IsThere v t) (ap (λ (v : List Node). at_id v id) k ∙ keeps old (node ∷ []) id w) there)
      | inr w ↦ elim (cases_lt id (length new)) as (λ u. t < n) [
        | inl u ↦
            let last : id ≡ length old = omega arith in
            let here : slice_get new id ≡ Some node = ap (λ (v : List Node). slice_get v id) k ∙ (ap (slice_get (old ++ node ∷ [])) last ∙ last_there old node) in
            let one : id ≡ r = are.once id r node here at in
            is t (subst (λ (i : ℕ). IsThere (at_id new i) t) one there)
        | inr u ↦ absurd (outside new id t u there)
      ]
    ])
