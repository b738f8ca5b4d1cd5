-- A state after many writes: its top, and its parts after the writes that go into them.
use Rattle.std.proofs.Common.{◌≡◌, ℕ, ◌==◌, ◌+◌, ◌*◌, ◌^◌, ◌<◌, ◌≤◌, List, [], ◌∷◌, ◌++◌, length, slice_get, Bool, true, false, cond, refl, sym, ap, subst, ◌∙◌, arith, Option, Some, None, is_some}
use Rattle.std.specs.List.{AllByRecursion}
use Rattle.std.proofs.lemmas.Bool.Decides.{Decides-eqb}
use Rattle.rt_tags.specs.declared.nodes.Setting.{Setting}
use Rattle.rt_tags.specs.declared.nodes.Node.{Node}
use Rattle.rt_tags.specs.declared.states.TagEntry.{TagEntry}
use Rattle.rt_tags.specs.ManyWrites.{IsSplit, newer_setting, part_writes, setting_after}
use Rattle.rt_tags.specs.SharedStates.{AreBelow, AreShared, Branch, Empty, IsBelow, IsThere, Tree, at_id, empty_node, entry_if, half, setting_of}
use Rattle.rt_tags.proofs.ManyWrites.{both_fewer, fewer, part_after, part_every, there_after}
use Rattle.rt_tags.proofs.OneId.{none_from, some_same}
use Rattle.rt_tags.proofs.Places.{clash, split}
use Rattle.rt_tags.proofs.Putting.{heap_there, is_set, own_there, unset}
use Rattle.rt_tags.proofs.Settings.{by_parity, is_same, not_same, part_even, part_odd, parts, parts_none, setting_below, setting_top}
use Rattle.rt_tags.proofs.Trees.{first_is, first_node, node_settings}

both_all : (P Q R : ℕ → Type 0) → ((t : ℕ) → P t → Q t → R t) → (es : List TagEntry) → AllByRecursion (λ e. P e.tag) es → AllByRecursion (λ e. Q e.tag) es → AllByRecursion (λ e. R e.tag) es
both_all P Q R f [] p q = tt
both_all P Q R f (e ∷ es) p q = (f e.tag p.0 q.0, both_all P Q R f es p.1 q.1)

module _ (old : List Node) (id : ℕ) (n : Node) (was : AreShared old) (at : slice_get old id ≡ Some n) where
  -- a node without a setting has no parts
  no_odd : n.setting ≡ None → n.odd ≡ 0
  no_odd e = ap (λ (v : Node). v.odd) (first_node old n was (subst (λ (i : ℕ). slice_get old i ≡ Some n) (unset old id n was at e) at))

  no_even : n.setting ≡ None → n.even ≡ 0
  no_even e = ap (λ (v : Node). v.even) (first_node old n was (subst (λ (i : ℕ). slice_get old i ≡ Some n) (unset old id n was at e) at))

  -- the parts have no tag up to the node's own
  lower_none : (t : ℕ) → ((m : Setting) → n.setting ≡ Some m → t ≤ n.tag) → parts (at_id old n.odd) (at_id old n.even) t ≡ None
  lower_none t low = by n.setting refl
    where
      by : (v : Option Setting) → n.setting ≡ v → parts (at_id old n.odd) (at_id old n.even) t ≡ None
      by None e =
          let o : at_id old n.odd ≡ Empty = ap (at_id old) (no_odd e) ∙ first_is old in
          let v : at_id old n.even ≡ Empty = ap (at_id old) (no_even e) ∙ first_is old in
          (λ j. parts (o j) (v j) t) ∙ parts_none t
      by (Some m) e =
          let heap = heap_there old id n was at m e in
          let l = low m e in
          by_parity t
          (λ r. part_odd (at_id old n.odd) (at_id old n.even) t r ∙ none_from (setting_of (at_id old n.odd) (half t)) (λ is. let w : n.tag < 2 * half t + 1 = (heap.odd (half t) is).0 in absurd (omega (arith, w, l, r))))
          (λ r. part_even (at_id old n.odd) (at_id old n.even) t r ∙ none_from (setting_of (at_id old n.even) (half t)) (λ is. let w : n.tag < 2 * half t = (heap.even (half t) is).0 in absurd (omega (arith, w, l, r))))

  -- what is so of the node's own tag and of those that are written
  own_all : (P : ℕ → Type 0) (writes : List TagEntry) → ((m : Setting) → n.setting ≡ Some m → P n.tag) → AllByRecursion (λ e. P e.tag) writes → AllByRecursion (λ e. P e.tag) (entry_if n.tag n.setting ++ writes)
  own_all P writes h all = by n.setting refl
    where
      by : (v : Option Setting) → n.setting ≡ v → AllByRecursion (λ e. P e.tag) (entry_if n.tag v ++ writes)
      by None e = all
      by (Some m) e = (h m e, all)

  own_of : (P : ℕ → Type 0) (writes : List TagEntry) → AllByRecursion (λ e. P e.tag) (entry_if n.tag n.setting ++ writes) → (m : Setting) → n.setting ≡ Some m → P n.tag
  own_of P writes all m e = (subst (λ (v : Option Setting). AllByRecursion (λ e. P e.tag) (entry_if n.tag v ++ writes)) e all).0

  -- the node's own setting is its first write
  whole_after : (writes : List TagEntry) (t : ℕ) → setting_after (entry_if n.tag n.setting ++ writes) t (parts (at_id old n.odd) (at_id old n.even) t) ≡ setting_after writes t (setting_of (at_id old id) t)
  whole_after writes t =
      let o = at_id old n.odd in
      let e = at_id old n.even in
      let tree = node_settings old id n was at t in
      split (t == n.tag)
      (λ y.
      let same : t ≡ n.tag = (Decides-eqb t n.tag).0 y in
      let none : parts o e t ≡ None = lower_none t (λ m h. omega (arith, same)) in
      ap (setting_after (entry_if n.tag n.setting ++ writes) t) none
      ∙ (own_first n.setting (is_same n.tag t (sym same))
      ∙ ap (setting_after writes t) (sym (tree ∙ setting_top n.tag n.setting o e t same))))
      (λ k.
      let apart : t ≡ n.tag → ⊥ = λ z. clash (t == n.tag) (is_same t n.tag z) k in
      own_other n.setting (parts o e t) (not_same n.tag t (λ z. apart (sym z)))
      ∙ ap (setting_after writes t) (sym (tree ∙ setting_below n.tag n.setting o e t apart)))
    where
      own_first : (v : Option Setting) → (n.tag == t) ≡ true → setting_after (entry_if n.tag v ++ writes) t None ≡ setting_after writes t v
      own_first None y = refl
      own_first (Some m) y = ap (λ (b : Bool). setting_after writes t (cond b (Some m) None)) y

      own_other : (v p : Option Setting) → (n.tag == t) ≡ false → setting_after (entry_if n.tag v ++ writes) t p ≡ setting_after writes t p
      own_other None p k = refl
      own_other (Some m) p k = ap (λ (b : Bool). setting_after writes t (cond b (newer_setting p (record { tag = n.tag; writer = m.writer; on = m.on })) p)) k

  module _ (writes : List TagEntry) (top : ℕ) (setting : Option Setting) (odds evens : List TagEntry) (s : IsSplit (entry_if n.tag n.setting ++ writes) top setting odds evens) where
    top_low : (m : Setting) → n.setting ≡ Some m → top ≤ n.tag
    top_low m e = own_of (λ t. top ≤ t) writes s.least m e

    -- fewer writes and lesser ids in the parts
    less : (r part : ℕ) (ws : List TagEntry) → (n.setting ≡ None → part ≡ 0) → ((m : Setting) → n.setting ≡ Some m → part < id) → ws ≡ part_writes r top (entry_if n.tag n.setting ++ writes) → part + length ws < id + length writes
    less r part ws none some same = by n.setting refl
      where
        there : is_some (setting_after (entry_if n.tag n.setting ++ writes) top None) ≡ true
        there = some_same setting (setting_after (entry_if n.tag n.setting ++ writes) top None) s.left s.there

        by : (v : Option Setting) → n.setting ≡ v → part + length ws < id + length writes
        by None e =
            let f = fewer r top (entry_if n.tag n.setting ++ writes) None refl there in
            let l = ap length same in
            let w = ap (λ (v : Option Setting). length (entry_if n.tag v ++ writes)) e in
            omega (arith, f, l, w, none e)
        by (Some m) e =
            let f = fewer r top (entry_if n.tag n.setting ++ writes) None refl there in
            let l = ap length same in
            let w = ap (λ (v : Option Setting). length (entry_if n.tag v ++ writes)) e in
            omega (arith, f, l, w, some m e)

    pub odd_less : n.odd + length odds < id + length writes
    odd_less = less 1 n.odd odds no_odd (λ m e. was.odd_before id n (is_set old id n was at m e) at) s.in_odds

    pub even_less : n.even + length evens < id + length writes
    even_less = less 0 n.even evens no_even (λ m e. was.even_before id n (is_set old id n was at m e) at) s.in_evens

    -- on the state without writes there is a node for each write at most
    pub fresh_odd : id ≡ 0 → n.odd ≡ 0
    fresh_odd z = ap (λ (v : Node). v.odd) (first_node old n was (subst (λ (i : ℕ). slice_get old i ≡ Some n) z at))

    pub fresh_even : id ≡ 0 → n.even ≡ 0
    fresh_even z = ap (λ (v : Node). v.even) (first_node old n was (subst (λ (i : ℕ). slice_get old i ≡ Some n) z at))

    pub fresh_less : id ≡ 0 → length odds + length evens < length writes
    fresh_less z =
        let first : n ≡ empty_node = first_node old n was (subst (λ (i : ℕ). slice_get old i ≡ Some n) z at) in
        let f = both_fewer top (entry_if n.tag n.setting ++ writes) None refl (some_same setting (setting_after (entry_if n.tag n.setting ++ writes) top None) s.left s.there) in
        let a = ap length s.in_odds in
        let b = ap length s.in_evens in
        let w = ap (λ (v : Node). length (entry_if v.tag v.setting ++ writes)) first in
        omega (arith, f, a, b, w)

    -- the tags of the parts stay under a bound
    bounded : (b : ℕ) → ((m : Setting) → n.setting ≡ Some m → n.tag < b) → AllByRecursion (λ e. e.tag < b) writes → AllByRecursion (λ e. e.tag < b) (entry_if n.tag n.setting ++ writes)
    bounded b own all = own_all (λ t. t < b) writes own all

    pub odd_bounded : (b : ℕ) → ((m : Setting) → n.setting ≡ Some m → n.tag < b) → AllByRecursion (λ e. e.tag < b) writes → AllByRecursion (λ e. e.tag < b) odds
    odd_bounded b own all = subst (AllByRecursion (λ e. e.tag < b)) (sym s.in_odds) (part_every (λ t. t < b) (λ t. t < b) 1 top (λ t r o w. omega (arith, r, w)) (entry_if n.tag n.setting ++ writes) (bounded b own all))

    pub even_bounded : (b : ℕ) → ((m : Setting) → n.setting ≡ Some m → n.tag < b) → AllByRecursion (λ e. e.tag < b) writes → AllByRecursion (λ e. e.tag < b) evens
    even_bounded b own all = subst (AllByRecursion (λ e. e.tag < b)) (sym s.in_evens) (part_every (λ t. t < b) (λ t. t < b) 0 top (λ t r o w. omega (arith, r, w)) (entry_if n.tag n.setting ++ writes) (bounded b own all))

    own_small : (m : Setting) → n.setting ≡ Some m → n.tag < 2 ^ 32
    own_small m e = (heap_there old id n was at m e).tag

    pub odd_small : AllByRecursion (λ e. e.tag < 2 ^ 32) writes → AllByRecursion (λ e. e.tag < 2 ^ 32) odds
    odd_small all = odd_bounded (2 ^ 32) own_small all

    pub even_small : AllByRecursion (λ e. e.tag < 2 ^ 32) writes → AllByRecursion (λ e. e.tag < 2 ^ 32) evens
    even_small all = even_bounded (2 ^ 32) own_small all

    own_under : (b : ℕ) → AreBelow b old → (m : Setting) → n.setting ≡ Some m → n.tag < b
    own_under b below m e = below id n.tag (own_there old id n was at m e)

    pub odd_under : (b : ℕ) → AreBelow b old → AllByRecursion (λ e. e.tag < b) writes → AllByRecursion (λ e. e.tag < b) odds
    odd_under b below all = odd_bounded b (own_under b below) all

    pub even_under : (b : ℕ) → AreBelow b old → AllByRecursion (λ e. e.tag < b) writes → AllByRecursion (λ e. e.tag < b) evens
    even_under b below all = even_bounded b (own_under b below) all

    pub top_small : AllByRecursion (λ e. e.tag < 2 ^ 32) writes → top < 2 ^ 32
    top_small all = there_after (λ t. t < 2 ^ 32) (entry_if n.tag n.setting ++ writes) top None (bounded (2 ^ 32) own_small all) (λ z. absurd (cc)) (some_same setting (setting_after (entry_if n.tag n.setting ++ writes) top None) s.left s.there)

    ranged : AllByRecursion (λ e. e.tag < 2 ^ 32) writes → AllByRecursion (λ e. (top ≤ e.tag) × (e.tag < 2 ^ 32)) (entry_if n.tag n.setting ++ writes)
    ranged all = both_all (λ t. top ≤ t) (λ t. t < 2 ^ 32) (λ t. (top ≤ t) × (t < 2 ^ 32)) (λ t a b. (a, b)) (entry_if n.tag n.setting ++ writes) s.least (bounded (2 ^ 32) own_small all)

    module _ (o e : Tree) (odd : (t : ℕ) → setting_of o t ≡ setting_after odds t (setting_of (at_id old n.odd) t)) (even : (t : ℕ) → setting_of e t ≡ setting_after evens t (setting_of (at_id old n.even) t)) where
      pub odd_heap : AllByRecursion (λ e. e.tag < 2 ^ 32) writes → (t : ℕ) → IsThere o t → (top < 2 * t + 1) × (2 * t + 1 < 2 ^ 32)
      odd_heap all t is =
          there_after (λ t. (top < 2 * t + 1) × (2 * t + 1 < 2 ^ 32)) odds t (setting_of (at_id old n.odd) t)
          (subst (AllByRecursion (λ e. (top < 2 * e.tag + 1) × (2 * e.tag + 1 < 2 ^ 32))) (sym s.in_odds)
          (part_every (λ t. (top ≤ t) × (t < 2 ^ 32)) (λ t. (top < 2 * t + 1) × (2 * t + 1 < 2 ^ 32)) 1 top (λ t r ne w. let a = w.0 in let b = w.1 in (omega (arith, r, ne, a), omega (arith, r, b))) (entry_if n.tag n.setting ++ writes) (ranged all)))
          (λ k. by n.setting refl k)
          (some_same (setting_of o t) (setting_after odds t (setting_of (at_id old n.odd) t)) (odd t) is)
        where
          by : (v : Option Setting) → n.setting ≡ v → IsThere (at_id old n.odd) t → (top < 2 * t + 1) × (2 * t + 1 < 2 ^ 32)
          by None z k = absurd (clash (is_some (setting_of (at_id old n.odd) t)) k (ap (λ (v : Tree). is_some (setting_of v t)) (ap (at_id old) (no_odd z) ∙ first_is old)))
          by (Some m) z k =
              let h = (heap_there old id n was at m z).odd t k in
              let a = h.0 in
              let b = h.1 in
              let l = top_low m z in
              (omega (arith, a, l), omega (arith, b))

      pub even_heap : AllByRecursion (λ e. e.tag < 2 ^ 32) writes → (t : ℕ) → IsThere e t → (top < 2 * t) × (2 * t < 2 ^ 32)
      even_heap all t is =
          there_after (λ t. (top < 2 * t) × (2 * t < 2 ^ 32)) evens t (setting_of (at_id old n.even) t)
          (subst (AllByRecursion (λ e. (top < 2 * e.tag) × (2 * e.tag < 2 ^ 32))) (sym s.in_evens)
          (part_every (λ t. (top ≤ t) × (t < 2 ^ 32)) (λ t. (top < 2 * t) × (2 * t < 2 ^ 32)) 0 top (λ t r ne w. let a = w.0 in let b = w.1 in (omega (arith, r, ne, a), omega (arith, r, b))) (entry_if n.tag n.setting ++ writes) (ranged all)))
          (λ k. by n.setting refl k)
          (some_same (setting_of e t) (setting_after evens t (setting_of (at_id old n.even) t)) (even t) is)
        where
          by : (v : Option Setting) → n.setting ≡ v → IsThere (at_id old n.even) t → (top < 2 * t) × (2 * t < 2 ^ 32)
          by None z k = absurd (clash (is_some (setting_of (at_id old n.even) t)) k (ap (λ (v : Tree). is_some (setting_of v t)) (ap (at_id old) (no_even z) ∙ first_is old)))
          by (Some m) z k =
              let h = (heap_there old id n was at m z).even t k in
              let a = h.0 in
              let b = h.1 in
              let l = top_low m z in
              (omega (arith, a, l), omega (arith, b))

      pub settings_are : (t : ℕ) → setting_of (Branch top setting o e) t ≡ setting_after writes t (setting_of (at_id old id) t)
      settings_are t =
          let oo = at_id old n.odd in
          let oe = at_id old n.even in
          let all = entry_if n.tag n.setting ++ writes in
          split (t == top)
          (λ y.
          let same : t ≡ top = (Decides-eqb t top).0 y in
          let none : parts oo oe t ≡ None = lower_none t (λ m z. let l = top_low m z in omega (arith, same, l)) in
          setting_top top setting o e t same
          ∙ (s.left
          ∙ (ap (λ (x : ℕ). setting_after all x None) (sym same)
          ∙ (ap (setting_after all t) (sym none) ∙ whole_after writes t))))
          (λ k.
          let apart : t ≡ top → ⊥ = λ z. clash (t == top) (is_same t top z) k in
          setting_below top setting o e t apart
          ∙ (by_parity t
          (λ r. part_odd o e t r
          ∙ (odd (half t)
          ∙ (ap (λ (v : List TagEntry). setting_after v (half t) (setting_of oo (half t))) s.in_odds
          ∙ (part_after 1 top t all (setting_of oo (half t)) r apart
          ∙ ap (setting_after all t) (sym (part_odd oo oe t r))))))
          (λ r. part_even o e t r
          ∙ (even (half t)
          ∙ (ap (λ (v : List TagEntry). setting_after v (half t) (setting_of oe (half t))) s.in_evens
          ∙ (part_after 0 top t all (setting_of oe (half t)) r apart
          ∙ ap (setting_after all t) (sym (part_even oo oe t r))))))
          ∙ whole_after writes t))

-- what is so of the tags of a state and of those that are written is so afterwards
pub below_after : (old new : List Node) (id r b : ℕ) (writes : List TagEntry) → AreBelow b old → AllByRecursion (λ e. e.tag < b) writes → ((t : ℕ) → setting_of (at_id new r) t ≡ setting_after writes t (setting_of (at_id old id) t)) → IsBelow b (at_id new r)
below_after old new id r b writes below all same t is =
    there_after (λ t. t < b) writes t (setting_of (at_id old id) t) all (below id t) (some_same (setting_of (at_id new r) t) (setting_after writes t (setting_of (at_id old id) t)) (same t) is)
