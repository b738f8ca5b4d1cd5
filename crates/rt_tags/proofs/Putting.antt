-- One setting more.
use Rattle.std.proofs.Common.{◌≡◌, inl, inr, ℕ, zero, suc, ◌==◌, ◌+◌, ◌-◌, ◌*◌, ◌%◌, ◌^◌, ◌<◌, ◌≤◌, List, ◌++◌, length, slice_get, Bool, true, cond, refl, sym, ap, subst, ◌∙◌, Option, Some, None, is_some, arith}
use Rattle.std.proofs.Math.ListN.{length-append}
use Rattle.std.proofs.Math.Nat.{pow-succ'}
use Rattle.std.proofs.Math.ListN.{get_or}
use Rattle.std.proofs.lemmas.Option.{slice_get-get_or}
use Rattle.std.proofs.lemmas.Bool.Decides.{Decides-eqb}
use Rattle.rt_tags.specs.declared.nodes.Setting.{Setting}
use Rattle.rt_tags.specs.declared.nodes.Node.{Node}
use Rattle.rt_tags.specs.declared.nodes.TagSetting.{TagSetting}
use Rattle.rt_tags.specs.SharedStates.{AreBelow, AreShared, HasMore, IsBelow, IsHeap, IsInOrder, IsThere, Tree, Empty, Branch, at_id, empty_node, half, setting_of, with_setting}
use Rattle.rt_tags.proofs.Settings.{by_parity, in_even, in_odd, is_same, joined, setting_below, setting_top, part_even, part_odd, parts, parts_none, put_even, put_odd, swapped, there_with}
use Rattle.rt_tags.proofs.Places.{clash, split}
use Rattle.rt_tags.proofs.NodeKeeping.{not_first}
use Rattle.rt_tags.proofs.Trees.{empty_has, branches, even_given, first_is, keeps_more, node_settings, node_tree, odd_given}

pub half_below : (low levels : ℕ) → 0 < low → low < 2 ^ levels → (0 < levels) × (half low < 2 ^ (levels - 1))
half_below low zero p h = absurd (omega arith)
half_below low (suc levels) p h =
    let e : 2 ^ suc levels ≡ 2 * 2 ^ levels = pow-succ' 2 levels in
    let m : suc levels - 1 ≡ levels = omega arith in
    (omega arith, rw m (omega (arith, e, h, p)))

twice_below : (t x levels : ℕ) → 0 < levels → 2 * t + x < 2 ^ levels → t < 2 ^ (levels - 1)
twice_below t x zero p h = absurd (omega arith)
twice_below t x (suc levels) p h =
    let e : 2 ^ suc levels ≡ 2 * 2 ^ levels = pow-succ' 2 levels in
    let m : suc levels - 1 ≡ levels = omega arith in
    rw m (omega (arith, e, h))

with_same : (tag : ℕ) (setting : Setting) (a b : Tree) (t : ℕ) → setting_of a t ≡ setting_of b t → with_setting tag setting a t ≡ with_setting tag setting b t
with_same tag setting a b t e = ap (λ (v : Option Setting). cond (t == tag) (Some setting) v) e

made : (nodes : List Node) (r : ℕ) (n : Node) (o e : Tree) → AreShared nodes → slice_get nodes r ≡ Some n → is_some n.setting ≡ true → at_id nodes n.odd ≡ o → at_id nodes n.even ≡ e → at_id nodes r ≡ Branch n.tag n.setting o e
made nodes r n o e are h s f g =
    node_tree nodes r n are (not_first nodes r n are h s) h ∙ branches n.tag (at_id nodes n.odd) o (at_id nodes n.even) e n.setting f g

there_same : (a b : Tree) (t u : ℕ) → setting_of a t ≡ setting_of b u → IsThere b u → IsThere a t
there_same a b t u e h = ap (λ (v : Option Setting). is_some v) e ∙ h

pub alone_heap : (nodes : List Node) (tag : ℕ) (setting : Setting) → tag < 2 ^ 32 → IsHeap nodes (record { tag = tag; setting = Some setting; odd = 0; even = 0 })
alone_heap nodes tag setting w = record {
  odd = λ t is. absurd (empty_has nodes t is);
  even = λ t is. absurd (empty_has nodes t is);
  tag = w;
}

module _ (old : List Node) (id : ℕ) (n : Node) (was : AreShared old) (at : slice_get old id ≡ Some n) where
  -- a node without a setting is the first
  pub unset : n.setting ≡ None → id ≡ 0
  unset e = is_first id at
    where
      is_first : (i : ℕ) → slice_get old i ≡ Some n → i ≡ 0
      is_first zero h = refl
      is_first (suc i) h = absurd (clash (is_some n.setting) (was.filled (suc i) n (omega arith) h) (ap (λ (v : Option Setting). is_some v) e))

  pub is_set : (m : Setting) → n.setting ≡ Some m → 0 < id
  is_set m e = not_first old id n was at (ap (λ (v : Option Setting). is_some v) e)

  pub heap_there : (m : Setting) → n.setting ≡ Some m → IsHeap old n
  heap_there m e = was.heap id n (is_set m e) at

  -- the node's own tag is there
  pub own_there : (m : Setting) → n.setting ≡ Some m → IsThere (at_id old id) n.tag
  own_there m e = ap (λ (v : Option Setting). is_some v) (node_settings old id n was at n.tag ∙ (setting_top n.tag n.setting (at_id old n.odd) (at_id old n.even) n.tag refl ∙ e))

  pub put_alone : (new : List Node) (r tag : ℕ) (setting : Setting) → AreShared new → n.setting ≡ None → slice_get new r ≡ Some (record { tag = tag; setting = Some setting; odd = 0; even = 0 }) → (t : ℕ) → setting_of (at_id new r) t ≡ with_setting tag setting (at_id old id) t
  put_alone new r tag setting are e h t =
      let none : setting_of (at_id old id) t ≡ None = ap (λ (i : ℕ). setting_of (at_id old i) t) (unset e) ∙ ap (λ (v : Tree). setting_of v t) (first_is old) in
      ap (λ (v : Tree). setting_of v t) (made new r (record { tag = tag; setting = Some setting; odd = 0; even = 0 }) Empty Empty are h refl (first_is new) (first_is new))
      ∙ ap (λ (v : Option Setting). cond (t == tag) (Some setting) v) (parts_none t ∙ sym none)

  pub put_same : (new : List Node) (r tag : ℕ) (setting m : Setting) → AreShared new → HasMore old new → n.setting ≡ Some m → tag ≡ n.tag → slice_get new r ≡ Some (record { tag = n.tag; setting = Some setting; odd = n.odd; even = n.even }) → (t : ℕ) → setting_of (at_id new r) t ≡ with_setting tag setting (at_id old id) t
  put_same new r tag setting m are more e same h t =
      let o = at_id old n.odd in
      let v = at_id old n.even in
      let oo = keeps_more old new n.odd more (odd_given old id n was at) in
      let vv = keeps_more old new n.even more (even_given old id n was at) in
      ap (λ (x : Tree). setting_of x t) (made new r (record { tag = n.tag; setting = Some setting; odd = n.odd; even = n.even }) o v are h refl oo vv)
      ∙ (split (t == n.tag)
      (λ y. ap (λ (b : Bool). cond b (Some setting) (parts o v t)) y ∙ sym (ap (λ (b : Bool). cond b (Some setting) (setting_of (Branch n.tag n.setting o v) t)) (ap (λ (x : ℕ). t == x) same ∙ y)))
      (λ f. ap (λ (b : Bool). cond b (Some setting) (parts o v t)) f
      ∙ sym (ap (λ (b : Bool). cond b (Some setting) (setting_of (Branch n.tag n.setting o v) t)) (ap (λ (x : ℕ). t == x) same ∙ f)
      ∙ ap (λ (b : Bool). cond b n.setting (parts o v t)) f))
      ∙ with_same tag setting (Branch n.tag n.setting o v) (at_id old id) t (sym (node_settings old id n was at t)))

  pub same_heap : (setting m : Setting) → n.setting ≡ Some m → IsHeap old (record { tag = n.tag; setting = Some setting; odd = n.odd; even = n.even })
  same_heap setting m e = let h = heap_there m e in record { odd = h.odd; even = h.even; tag = h.tag }

  -- the new setting and the node's own, by their tags
  module _ (m : Setting) (e : n.setting ≡ Some m) (put top low : TagSetting) (ord : IsInOrder put (record { tag = n.tag; setting = m }) top low) (levels : ℕ) (fits : put.tag < 2 ^ levels) (small : put.tag < 2 ^ 32) (within : (t : ℕ) → IsThere (at_id old id) t → t < 2 ^ levels) where
    top_least : top.tag ≤ n.tag
    top_least = elim ord.which as (λ w. top.tag ≤ n.tag) [
      | inl w ↦ let k : low.tag ≡ n.tag = ap (λ (x : TagSetting). x.tag) w.1 in let l = ord.less in omega arith
      | inr w ↦ let k : top.tag ≡ n.tag = ap (λ (x : TagSetting). x.tag) w.0 in omega arith
    ]

    low_fits : (x : ℕ) → put.tag < x → n.tag < x → low.tag < x
    low_fits x a b = elim ord.which as (λ w. low.tag < x) [
      | inl w ↦ let k : low.tag ≡ n.tag = ap (λ (y : TagSetting). y.tag) w.1 in omega arith
      | inr w ↦ let k : low.tag ≡ put.tag = ap (λ (y : TagSetting). y.tag) w.1 in omega arith
    ]

    pub low_below : (0 < levels) × (half low.tag < 2 ^ (levels - 1))
    low_below = let l = ord.less in half_below low.tag levels (omega arith) (low_fits (2 ^ levels) fits (within n.tag (own_there m e)))

    pub low_under : (x : ℕ) → put.tag < x → IsBelow x (at_id old id) → half low.tag < x
    low_under x w below = let k = low_fits x w (below n.tag (own_there m e)) in omega (arith, k)

    pub low_half : half low.tag < 2 ^ 32
    low_half = let s = low_fits (2 ^ 32) small (heap_there m e).tag in omega arith

    pub odd_within : (t : ℕ) → IsThere (at_id old n.odd) t → t < 2 ^ (levels - 1)
    odd_within t is =
        let w : n.tag < 2 * t + 1 = ((heap_there m e).odd t is).0 in
        let k : setting_of (at_id old id) (2 * t + 1) ≡ setting_of (at_id old n.odd) t =
        node_settings old id n was at (2 * t + 1) ∙ in_odd n.tag n.setting (at_id old n.odd) (at_id old n.even) t (λ z. absurd (omega arith)) in
        twice_below t 1 levels low_below.0 (within (2 * t + 1) (ap (λ (v : Option Setting). is_some v) k ∙ is))

    pub even_within : (t : ℕ) → IsThere (at_id old n.even) t → t < 2 ^ (levels - 1)
    even_within t is =
        let w : n.tag < 2 * t = ((heap_there m e).even t is).0 in
        let k : setting_of (at_id old id) (2 * t) ≡ setting_of (at_id old n.even) t =
        node_settings old id n was at (2 * t) ∙ in_even n.tag n.setting (at_id old n.odd) (at_id old n.even) t (λ z. absurd (omega arith)) in
        let b : 2 * t < 2 ^ levels = within (2 * t) (ap (λ (v : Option Setting). is_some v) k ∙ is) in
        let c : 2 * t + 0 < 2 ^ levels = omega arith in
        twice_below t 0 levels low_below.0 c

    finally : (t : ℕ) → joined top.tag low.tag top.setting low.setting (at_id old n.odd) (at_id old n.even) t ≡ with_setting put.tag put.setting (at_id old id) t
    finally t =
        let o = at_id old n.odd in
        let v = at_id old n.even in
        let back : with_setting put.tag put.setting (Branch n.tag (Some m) o v) t ≡ with_setting put.tag put.setting (at_id old id) t =
        with_same put.tag put.setting (Branch n.tag (Some m) o v) (at_id old id) t (sym (node_settings old id n was at t ∙ ap (λ (x : Option Setting). setting_of (Branch n.tag x o v) t) e)) in
        elim ord.which as (λ w. joined top.tag low.tag top.setting low.setting o v t ≡ with_setting put.tag put.setting (at_id old id) t) [
          | inl w ↦ (λ j. joined (w.0 j).tag (w.1 j).tag (w.0 j).setting (w.1 j).setting o v t) ∙ back
          | inr w ↦ swapped top.tag low.tag top.setting low.setting o v (λ z. let l = ord.less in absurd (omega arith)) t
              ∙ ((λ j. cond (t == (w.1 j).tag) (Some (w.1 j).setting) (cond (t == (w.0 j).tag) (Some (w.0 j).setting) (parts o v t))) ∙ back)
        ]

    module _ (mid : List Node) (q : ℕ) (some : HasMore old mid) (given : q < length mid) where
      pub still_given : (i : ℕ) → i < length old → i < length mid
      still_given i w =
          let a : length mid ≡ length (old ++ some.0) = ap (λ (v : List Node). length v) some.1 in
          let b : length (old ++ some.0) ≡ length old + length some.0 = length-append old some.0 in
          omega (arith, a, b, w)

      low_small : low.tag < 2 ^ 32
      low_small = low_fits (2 ^ 32) small (heap_there m e).tag

      pub odd_heap : low.tag % 2 ≡ 1 → ((t : ℕ) → setting_of (at_id mid q) t ≡ with_setting (half low.tag) low.setting (at_id old n.odd) t) → IsHeap mid (record { tag = top.tag; setting = Some top.setting; odd = q; even = n.even })
      odd_heap r settings = record {
        odd = λ t is. elim (there_with (half low.tag) low.setting (at_id old n.odd) (at_id mid q) settings t is) as (λ w. (top.tag < 2 * t + 1) × (2 * t + 1 < 2 ^ 32)) [
          | inl k ↦ let l = ord.less in let s = low_small in let z : 2 * t + 1 ≡ low.tag = omega arith in (omega arith, omega arith)
          | inr k ↦ let g = (heap_there m e).odd t k in let w : n.tag < 2 * t + 1 = g.0 in let l = top_least in (omega arith, g.1)
        ];
        even = λ t is.
            let k : at_id mid n.even ≡ at_id old n.even = keeps_more old mid n.even some (even_given old id n was at) in
            let g = (heap_there m e).even t (subst (λ (v : Tree). IsThere v t) k is) in
            let w : n.tag < 2 * t = g.0 in let l = top_least in (omega arith, g.1);
        tag = let l = ord.less in let s = low_small in omega arith;
      }

      pub even_heap : low.tag % 2 ≡ 0 → ((t : ℕ) → setting_of (at_id mid q) t ≡ with_setting (half low.tag) low.setting (at_id old n.even) t) → IsHeap mid (record { tag = top.tag; setting = Some top.setting; odd = n.odd; even = q })
      even_heap r settings = record {
        odd = λ t is.
            let k : at_id mid n.odd ≡ at_id old n.odd = keeps_more old mid n.odd some (odd_given old id n was at) in
            let g = (heap_there m e).odd t (subst (λ (v : Tree). IsThere v t) k is) in
            let w : n.tag < 2 * t + 1 = g.0 in let l = top_least in (omega arith, g.1);
        even = λ t is. elim (there_with (half low.tag) low.setting (at_id old n.even) (at_id mid q) settings t is) as (λ w. (top.tag < 2 * t) × (2 * t < 2 ^ 32)) [
          | inl k ↦ let l = ord.less in let s = low_small in let z : 2 * t ≡ low.tag = omega arith in (omega arith, omega arith)
          | inr k ↦ let g = (heap_there m e).even t k in let w : n.tag < 2 * t = g.0 in let l = top_least in (omega arith, g.1)
        ];
        tag = let l = ord.less in let s = low_small in omega arith;
      }

      module _ (new : List Node) (r : ℕ) (are : AreShared new) (more : HasMore mid new) where
        pub put_in_odd : low.tag % 2 ≡ 1 → ((t : ℕ) → setting_of (at_id mid q) t ≡ with_setting (half low.tag) low.setting (at_id old n.odd) t) → slice_get new r ≡ Some (record { tag = top.tag; setting = Some top.setting; odd = q; even = n.even }) → (t : ℕ) → setting_of (at_id new r) t ≡ with_setting put.tag put.setting (at_id old id) t
        put_in_odd odd settings h t =
            let w = even_given old id n was at in
            let oo = keeps_more mid new q more given in
            let vv = keeps_more mid new n.even more (still_given n.even w) ∙ keeps_more old mid n.even some w in
            ap (λ (x : Tree). setting_of x t) (made new r (record { tag = top.tag; setting = Some top.setting; odd = q; even = n.even }) (at_id mid q) (at_id old n.even) are h refl oo vv)
            ∙ (put_odd top.tag low.tag top.setting low.setting (at_id old n.odd) (at_id old n.even) (at_id mid q) odd settings t ∙ finally t)

        pub put_in_even : low.tag % 2 ≡ 0 → ((t : ℕ) → setting_of (at_id mid q) t ≡ with_setting (half low.tag) low.setting (at_id old n.even) t) → slice_get new r ≡ Some (record { tag = top.tag; setting = Some top.setting; odd = n.odd; even = q }) → (t : ℕ) → setting_of (at_id new r) t ≡ with_setting put.tag put.setting (at_id old id) t
        put_in_even even settings h t =
            let w = odd_given old id n was at in
            let vv = keeps_more mid new q more given in
            let oo = keeps_more mid new n.odd more (still_given n.odd w) ∙ keeps_more old mid n.odd some w in
            ap (λ (x : Tree). setting_of x t) (made new r (record { tag = top.tag; setting = Some top.setting; odd = n.odd; even = q }) (at_id old n.odd) (at_id mid q) are h refl oo vv)
            ∙ (put_even top.tag low.tag top.setting low.setting (at_id old n.odd) (at_id old n.even) (at_id mid q) even settings t ∙ finally t)

-- the tags of a state with one setting more are less than a number, if its own and the one more are
pub below_put : (old new : List Node) (id r n tag : ℕ) (m : Setting) → AreBelow n old → tag < n → ((t : ℕ) → setting_of (at_id new r) t ≡ with_setting tag m (at_id old id) t) → IsBelow n (at_id new r)
below_put old new id r n tag m below w h = λ t is. elim (there_with tag m (at_id old id) (at_id new r) h t is) as (λ v. t < n) [
  | inl k ↦ omega arith
  | inr k ↦ below id t k
]

-- all tags have 32 bits
pub all_small : (nodes : List Node) (i : ℕ) (n : Node) → AreShared nodes → slice_get nodes i ≡ Some n → (t : ℕ) → IsThere (at_id nodes i) t → t < 2 ^ 32
all_small nodes zero n are h t is = absurd (empty_has nodes t is)
all_small nodes (suc i) n are h t is =
    let heap = are.heap (suc i) n (omega arith) h in
    let o = at_id nodes n.odd in
    let e = at_id nodes n.even in
    let settings = node_settings nodes (suc i) n are h t in
    split (t == n.tag)
    (λ y. let k : t ≡ n.tag = (Decides-eqb t n.tag).0 y in let w : n.tag < 2 ^ 32 = heap.tag in omega arith)
    (λ f.
    let below = settings ∙ setting_below n.tag n.setting o e t (λ z. clash (t == n.tag) (is_same t n.tag z) f) in
    by_parity t
    (λ r. let w : 2 * half t + 1 < 2 ^ 32 = (heap.odd (half t) (there_same o (at_id nodes (suc i)) (half t) t (sym (below ∙ part_odd o e t r)) is)).1 in omega arith)
    (λ r. let w : 2 * half t < 2 ^ 32 = (heap.even (half t) (there_same e (at_id nodes (suc i)) (half t) t (sym (below ∙ part_even o e t r)) is)).1 in omega arith))

pub small_at : (nodes : List Node) (i : ℕ) → AreShared nodes → i < length nodes → (t : ℕ) → IsThere (at_id nodes i) t → t < 2 ^ 32
small_at nodes i are w = all_small nodes i (get_or nodes i empty_node) are (slice_get-get_or nodes i empty_node w)

pub none_if : (v : Option Setting) → ((x : Setting) → v ≡ Some x → ⊥) → v ≡ None
none_if None h = refl
none_if (Some m) h = absurd (h m refl)
