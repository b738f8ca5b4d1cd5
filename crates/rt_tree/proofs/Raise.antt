-- Totals put right from a node upwards.
use Rattle.std.proofs.Common.{◌≡◌, ℕ, zero, suc, ◌+◌, ◌-◌, ◌<◌, ◌≤◌, ◌⊎◌, inl, inr, Bool, true, false, ◌==◌, if◌then◌else◌, List, [], ◌∷◌, ◌++◌, length, map, take, get_or, set, refl, sym, ap, ◌∙◌, arith, subst, get_or-set_same, get_or-set_other}
use Rattle.std.proofs.lemmas.Bool.{cases_eq, ne_eqb}
use Rattle.std.proofs.lemmas.List.{map-set, set-get_or, get_or-map, length-map, take_more}
use Rattle.rt_nodes.specs.Nodes.{entries, with_entries}
use Rattle.rt_nodes.specs.declared.memory.NodeId.{NodeId}
use Rattle.rt_tree.specs.declared.node.Run.{Run}
use Rattle.rt_tree.specs.declared.node.Head.{Head}
use Rattle.rt_tree.specs.declared.node.Entry.{Entry}
use Rattle.rt_tree.specs.declared.node.Totals.{Totals}
use Rattle.rt_tree.specs.declared.node.Entry.TheVariants.{Down, Here}
use Rattle.rt_tree.proofs.Adding.{IsSmall, small-le, le-mid}
use Rattle.rt_tree.specs.Changes.{links, bare, IsExactAt, AreExact, AreExactBut, strip, blank, entry_totals, adds_up, IsLocal}
use Rattle.rt_tree.specs.Shape.{runs, ahead, behind, level_of, parent_of, Memory, Fits, child_count, is_of, IsShape}
use Rattle.rt_tree.proofs.Around.{test_same, test_other, below_top, cut_at, count-append, same_node}
use Rattle.rt_tree.proofs.Bares.{at-map, bare-entries}
use Rattle.rt_tree.proofs.Exact.{each-both, fits-entries, exact-sum}
use Rattle.rt_tree.proofs.Frame.{other_child}
use Rattle.rt_tree.specs.Sums.{totals_of}
use Rattle.std.specs.List.{AllByRecursion}

pub not_counted : (id : ℕ) (c : NodeId) → (c.index ≡ id → ⊥) → child_count id (Down c blank ∷ []) ≡ 0
not_counted id c ne = let e = test_other {X = ℕ} c.index id 1 0 ne in omega arith

-- the runs of a node are no more than all runs
pub small-node : (m : Memory) (height root : ℕ) → IsShape (bare m) height root → (k id : ℕ) → id < length m.heads → level_of (bare m) id ≡ k → k ≤ height → IsSmall (totals_of (runs (bare m) height root)) → IsSmall (totals_of (runs (bare m) k id))
small-node m height root t k id is at le small =
    let s = bare m in
    let cut = cut_at s height root t (height - k) k id is at (omega arith) in
    let a = ahead s (height - k) id in let b = behind s (height - k) id in
    small-le (totals_of (runs s k id)) (totals_of (a ++ (runs s k id ++ b))) (le-mid a (runs s k id) b) (subst (λ (rs : List Run). IsSmall (totals_of rs)) cut small)

module _ (m : Memory) (height root : ℕ) (t : IsShape (bare m) height root) where
  low-one : (but id k : ℕ) → k ≤ level_of (bare m) but → (l : Entry) (x : Totals) → Fits (bare m) id k l → (child_count but (l ∷ []) ≡ 0 → IsExactAt m l x) → IsExactAt m l x
  low-one but id zero le (Here r) x f e = e refl
  low-one but id zero le (Down c ts) x f e = absurd f
  low-one but id (suc k) le (Here r) x f e = absurd f
  low-one but id (suc k) le (Down c ts) x f e = e (not_counted but c (λ same. omega (arith, ap (level_of (bare m)) same, f.level)))

  -- below the node, and in it, all is exact
  pub low-exact : (but : ℕ) → AreExactBut but m → (id : ℕ) → id < length m.heads → level_of (bare m) id ≤ level_of (bare m) but → AllByRecursion (IsLocal m) (entries m id)
  low-exact but exact id is le =
      let k = level_of (bare m) id in
      each-both (λ (e : Entry). Fits (bare m) id k (strip e)) (λ (e : Entry). child_count but ((strip e) ∷ []) ≡ 0 → IsLocal m e) (IsLocal m) (λ e f x. low-one but id k le (strip e) (entry_totals e) f x) (entries m id) (fits-entries m height root t id k is refl) (exact id is)

  -- the entries of the node add up to its runs
  pub sum-low : (but : ℕ) → AreExactBut but m → but < length m.heads → adds_up (entries m but) ≡ totals_of (runs (bare m) (level_of (bare m) but) but)
  sum-low but exact is = exact-sum m height root t (level_of (bare m) but) (λ id is' le. low-exact but exact id is' le) (level_of (bare m) but) but is refl (omega arith)

  -- at the root nothing is left
  pub root-exact : AreExactBut root m → AreExact m
  root-exact exact id is = low-exact root exact id is (omega (arith, t.low id is, t.top))

pub first-rest : (id : ℕ) (l : Entry) (ls : List Entry) → child_count id (l ∷ ls) ≡ child_count id (l ∷ []) + child_count id ls
first-rest id (Here r) ls = omega arith
first-rest id (Down c ts) ls = omega arith

-- a link of an entry is counted among all
pub link-counted : (id : ℕ) (es : List Entry) (slot : ℕ) (e : Entry) → slot < length es → e ≡ get_or es slot e → child_count id ((strip e) ∷ []) ≤ child_count id (links es)
link-counted id [] slot e lt is = absurd (omega arith)
link-counted id (x ∷ es) zero e lt is = let one : child_count id ((strip x) ∷ []) ≡ child_count id ((strip e) ∷ []) = ap (λ (z : Entry). child_count id ((strip z) ∷ [])) (sym is) in let h = first-rest id (strip x) (links es) in omega arith
link-counted id (x ∷ es) (suc slot) e lt is = let h = first-rest id (strip x) (links es) in let some = link-counted id es slot e (omega arith) is in omega arith

module _ (id : ℕ) (Q R : Entry → Type 0) (f : (x : Entry) → Q x → R x) where
  each-none : (es : List Entry) → child_count id (links es) ≡ 0 → AllByRecursion (λ (x : Entry). child_count id ((strip x) ∷ []) ≡ 0 → Q x) es → AllByRecursion R es
  each-none [] z all = tt
  each-none (x ∷ es) z all = let h = first-rest id (strip x) (links es) in (f x (all.0 (omega arith)), each-none es (omega arith) all.1)

  -- entries of which one stands for the node
  pub each-set_once : (es : List Entry) (slot : ℕ) (e y : Entry) → child_count id (links es) ≡ 1 → slot < length es → e ≡ get_or es slot e → 0 < child_count id ((strip e) ∷ []) → AllByRecursion (λ (x : Entry). child_count id ((strip x) ∷ []) ≡ 0 → Q x) es → R y → AllByRecursion R (set es slot y)
  each-set_once [] slot e y once lt is here all new = tt
  each-set_once (x ∷ es) zero e y once lt is here all new =
      let one : child_count id ((strip x) ∷ []) ≡ child_count id ((strip e) ∷ []) = ap (λ (z : Entry). child_count id ((strip z) ∷ [])) (sym is) in
      let h = first-rest id (strip x) (links es) in
      (new, each-none es (omega arith) all.1)
  each-set_once (x ∷ es) (suc slot) e y once lt is here all new =
      let h = first-rest id (strip x) (links es) in
      let some = link-counted id es slot e (omega arith) is in
      (f x (all.0 (omega arith)), each-set_once es slot e y (omega arith) (omega arith) is here all.1 new)

-- links stay as they were where an entry keeps its link
pub set-links : (es : List Entry) (slot : ℕ) (e y : Entry) → slot < length es → e ≡ get_or es slot e → (strip y) ≡ (strip e) → links (set es slot y) ≡ links es
set-links es slot e y lt is same =
    let l : (strip e) ≡ get_or (links es) slot (strip e) = ap strip is ∙ sym (get_or-map strip es slot e (strip e) lt) in
    map-set strip es slot y ∙ ap (set (links es) slot) (same ∙ l) ∙ set-get_or (links es) slot (strip e)

abbrev pub bare_of : List Head → List (List Entry) → ℕ → Memory
bare_of heads rows room = record { heads = heads; rows = rows; room = room }

pub length-rows : (m : Memory) → length (bare m).rows ≡ length m.rows
length-rows m = length-map m.rows links

pub no_level : (s : Memory) (q p : ℕ) → level_of s (parent_of s q) ≡ suc (level_of s q) → p ≡ parent_of s q → q ≡ p → ⊥
no_level s q p up is same = let h = ap (level_of s) (same ∙ is) in omega arith

pub same-bare : (m : Memory) (p : ℕ) (es : List Entry) → links es ≡ links (entries m p) → bare (with_entries m p es) ≡ bare m
same-bare m p es same =
    let rows : map links (set m.rows p es) ≡ map links m.rows =
    map-set links m.rows p es ∙ ap (set (map links m.rows) p) (same ∙ sym (at-map m.rows p)) ∙ set-get_or (map links m.rows) p [] in
    ap (λ rs. bare_of m.heads rs m.room) rows

module _ (m : Memory) (p : ℕ) (es : List Entry) where
  exact-one : (l : Entry) (x : Totals) → child_count p (l ∷ []) ≡ 0 → IsExactAt m l x → IsExactAt (with_entries m p es) l x
  exact-one (Here r) x z e = e
  exact-one (Down c ts) x z e = e ∙ ap adds_up (sym (get_or-set_other m.rows p c.index es [] (other_child p c z)))

  -- what is exact stays so, but for the node itself
  pub exact-frame : (x : Entry) → child_count p ((strip x) ∷ []) ≡ 0 → IsLocal m x → IsLocal (with_entries m p es) x
  exact-frame x z e = exact-one (strip x) (entry_totals x) z e

module _ (m : Memory) (height root : ℕ) (t : IsShape (bare m) height root) where
  not-here : (id q k : ℕ) → (id ≡ parent_of (bare m) q → ⊥) → (l : Entry) → Fits (bare m) id k l → child_count q (l ∷ []) ≡ 0
  not-here id q zero ne (Here r) f = refl
  not-here id q zero ne (Down c ts) f = absurd f
  not-here id q (suc k) ne (Here r) f = absurd f
  not-here id q (suc k) ne (Down c ts) f = not_counted q c (λ same. ne (sym f.parent ∙ ap (parent_of (bare m)) same))

  -- one step up
  pub raise : (c : NodeId) (p slot : ℕ) (e : Entry) (sum : Totals) → c.index < length m.heads → level_of (bare m) c.index < height → p ≡ parent_of (bare m) c.index → slot < length (entries m p) → e ≡ get_or (entries m p) slot e → (strip e) ≡ Down c blank → sum ≡ adds_up (entries m c.index) → AreExactBut c.index m → AreExactBut p (with_entries m p (set (entries m p) slot (Down c sum)))
  raise c p slot e sum is lt up within here link total exact =
      let s = bare m in
      let q = c.index in
      let kn = t.known q is (below_top s height root t q is lt) in
      let y : Entry = Down c sum in
      let es = set (entries m p) slot y in
      let new = with_entries m p es in
      let R : Entry → Type 0 = λ x. child_count p ((strip x) ∷ []) ≡ 0 → IsLocal new x in
      let q_ne_p : q ≡ p → ⊥ = λ same. no_level s q p kn.up up same in
      let once : child_count q (links (entries m p)) ≡ 1 = ap (child_count q) (sym (bare-entries m p)) ∙ ap (λ n. child_count q (entries s n)) up ∙ kn.once in
      let here_one : 0 < child_count q ((strip e) ∷ []) = let o = test_same {X = ℕ} q q 1 0 refl in let h = ap (λ l. child_count q (l ∷ [])) link in omega arith in
      let y_exact : IsLocal new y = total ∙ ap adds_up (sym (get_or-set_other m.rows p q es [] q_ne_p)) in
      λ id idis. elim (cases_eq id p) [
        | inl same ↦
            subst (AllByRecursion R) (sym (ap (λ n. entries new n) same ∙ get_or-set_same m.rows p es [] (omega (arith, idis, t.same, same, length-rows m))))
            (each-set_once q (IsLocal m) R (λ x ex z. exact-frame m p es x z ex) (entries m p) slot e y once within here here_one (subst (λ n. AllByRecursion (λ (x : Entry). child_count q ((strip x) ∷ []) ≡ 0 → IsLocal m x) (entries m n)) same (exact id idis)) (λ z. y_exact))
        | inr ne ↦
            subst (AllByRecursion R) (sym (get_or-set_other m.rows p id es [] ne))
            (each-both (λ (x : Entry). Fits s id (level_of s id) (strip x)) (λ (x : Entry). child_count q ((strip x) ∷ []) ≡ 0 → IsLocal m x) R (λ x f ex z. exact-frame m p es x z (ex (not-here id q (level_of s id) (λ w. ne (w ∙ sym up)) (strip x) f))) (entries m id) (fits-entries m height root t id (level_of s id) idis refl) (exact id idis))
      ]

pub single : (id : ℕ) (l : Entry) → (child_count id (l ∷ []) ≡ 0) ⊎ (child_count id (l ∷ []) ≡ 1)
single id (Here r) = inl refl
single id (Down c ts) = elim (cases_eq c.index id) [ inl e ↦ let t = test_same {X = ℕ} c.index id 1 0 e in inr (omega arith) | inr ne ↦ inl (not_counted id c ne) ]

pub count-more : (m : Memory) (p id i : ℕ) (e : Entry) → i < length (entries m p) → e ≡ get_or (entries m p) i e → child_count id (take i (entries (bare m) p)) ≡ 0 → (child_count id ((strip e) ∷ []) ≡ 1 → ⊥) → child_count id (take (i + 1) (entries (bare m) p)) ≡ 0
count-more m p id i e lt is none other =
    let ls = links (entries m p) in
    let long = length-map (entries m p) strip in
    let at : (strip e) ≡ get_or ls i (strip e) = ap strip is ∙ sym (get_or-map strip (entries m p) i e (strip e) lt) in
    let more : take (i + 1) ls ≡ take i ls ++ (strip e) ∷ [] = take_more ls i (strip e) (omega arith) ∙ ap (λ l. take i ls ++ l ∷ []) (sym at) in
    let z : child_count id ((strip e) ∷ []) ≡ 0 = elim (single id (strip e)) [ inl z ↦ z | inr o ↦ absurd (other o) ] in
    let b = bare-entries m p in
    let none' : child_count id (take i ls) ≡ 0 = ap (λ l. child_count id (take i l)) (sym b) ∙ none in
    ap (λ l. child_count id (take (i + 1) l)) b ∙ ap (child_count id) more ∙ count-append id (take i ls) ((strip e) ∷ []) ∙ (omega arith)

picked : (b : Bool) (x y : ℕ) → b ≡ false → (if b then x else y) ≡ y
picked b x y h = ap (λ t. if t then x else y) h

-- an entry that isn't a node's, and one that is
pub not_of : (id : ℕ) (e : Entry) → is_of id e ≡ false → child_count id (strip e ∷ []) ≡ 1 → ⊥
not_of id (Here r) h one = absurd (omega (arith, one))
not_of id (Down c t) h one = let z = picked (c.index == id) 1 0 h in absurd (omega (arith, one, z))

pub entry_is : (id : NodeId) (e : Entry) → is_of id.index e ≡ true → strip e ≡ Down id blank
entry_is id (Here r) h = cc
entry_is id (Down c t) h = elim (cases_eq c.index id.index) [
  | inl e ↦ ap (λ n. Down n blank) (same_node c id e)
  | inr ne ↦ let z = ne_eqb c.index id.index ne in cc
]
