-- What stays when the links of one node change.
use Rattle.std.proofs.Common.{◌≡◌, ℕ, zero, suc, ◌+◌, ◌<◌, inl, inr, List, [], ◌∷◌, ◌++◌, length, refl, sym, ap, ◌∙◌, arith, subst, get_or-set_same, get_or-set_other, length-set}
use Rattle.std.specs.List.{flat_map, AllByRecursion}
use Rattle.std.proofs.lemmas.Bool.{cases_eq}
use Rattle.rt_nodes.specs.Nodes.{entries, with_entries}
use Rattle.rt_nodes.specs.declared.memory.NodeId.{NodeId}
use Rattle.rt_tree.specs.declared.node.Run.{Run}
use Rattle.rt_tree.specs.declared.node.Totals.{Totals}
use Rattle.rt_tree.specs.declared.node.Entry.TheVariants.{Down, Here}
use Rattle.rt_tree.specs.Shape.{below, runs, left_of, right_of, around, ahead, behind, level_of, parent_of, Memory, Fits, child_count, IsShape, all_below}
use Rattle.rt_tree.specs.Changes.{above, links, blank}
use Rattle.rt_tree.proofs.Around.{test_same, cut_around, cut_at, count-append, below_top, node}
use Rattle.rt_tree.proofs.Exact.{each-all, each-both}
use Rattle.rt_tree.specs.declared.node.Entry.{Entry}

module _ {X : Type 0} (P : X → Type 0) where
  pub each-front : (a b : List X) → AllByRecursion P (a ++ b) → AllByRecursion P a
  each-front [] b all = tt
  each-front (x ∷ a) b all = (all.0, each-front a b all.1)

  pub each-back : (a b : List X) → AllByRecursion P (a ++ b) → AllByRecursion P b
  each-back [] b all = all
  each-back (x ∷ a) b all = each-back a b all.1

  pub each-append : (a b : List X) → AllByRecursion P a → AllByRecursion P b → AllByRecursion P (a ++ b)
  each-append [] b p q = q
  each-append (x ∷ a) b p q = (p.0, each-append a b p.1 q)

pub each-zero : (id : ℕ) (ls : List Entry) → child_count id ls ≡ 0 → AllByRecursion (λ l. child_count id (l ∷ []) ≡ 0) ls
each-zero id [] z = tt
each-zero id (Here r ∷ ls) z = (refl, each-zero id ls z)
each-zero id (Down c ts ∷ ls) z = (omega arith, each-zero id ls (omega arith))

pub no : ⊥ → ⊥
no h = h

pub flat-same : (f g : Entry → List Run) (ls : List Entry) → AllByRecursion (λ l. f l ≡ g l) ls → flat_map f ls ≡ flat_map g ls
flat-same f g [] all = refl
flat-same f g (l ∷ ls) all = ap (λ x. x ++ flat_map f ls) all.0 ∙ ap (λ y. g l ++ y) (flat-same f g ls all.1)

-- a child is another node than the one that its link is not counted for
pub other_child : (id : ℕ) (c : NodeId) → child_count id (Down c blank ∷ []) ≡ 0 → c.index ≡ id → ⊥
other_child id c z e = let t = test_same {X = ℕ} c.index id 1 0 e in omega arith

-- around a node that stands once
pub record Apart (id : ℕ) (ls : List Entry) : Type 0 where
  pub totals : Totals
  pub cut : ls ≡ left_of id ls ++ Down (node id) totals ∷ right_of id ls
  pub left : AllByRecursion (λ l. child_count id (l ∷ []) ≡ 0) (left_of id ls)
  pub right : AllByRecursion (λ l. child_count id (l ∷ []) ≡ 0) (right_of id ls)

pub apart : (id : ℕ) (ls : List Entry) → child_count id ls ≡ 1 → Apart id ls
apart id ls once =
    let cut = cut_around id ls (omega arith) in
    let counts = ap (child_count id) cut.is ∙ count-append id (left_of id ls) (Down (node id) cut.totals ∷ right_of id ls) in
    let one = test_same {X = ℕ} id id 1 0 refl in
    record { totals = cut.totals; cut = cut.is; left = each-zero id (left_of id ls) (omega arith); right = each-zero id (right_of id ls) (omega arith) }

module _ (s : Memory) (height root : ℕ) (t : IsShape s height root) (x : ℕ) (xis : x < length s.heads) (ls : List Entry) where
  abbrev pub after : Memory
  after = with_entries s x ls

  pub same-at : (c : ℕ) → (c ≡ x → ⊥) → entries after c ≡ entries s c
  same-at c ne = get_or-set_other s.rows x c ls [] ne

  pub new-at : entries after x ≡ ls
  new-at = get_or-set_same s.rows x ls [] (omega (arith, t.same))

  -- a node that isn't above x
  abbrev pub Off : ℕ → ℕ → Type 0
  Off k c = (i : ℕ) → level_of s x + i ≡ k → c ≡ above s i x → ⊥

  pub zero-same : (l : Entry) → below after zero l ≡ below s zero l
  zero-same (Here r) = refl
  zero-same (Down c ts) = refl

  each-zero-same : (links : List Entry) → AllByRecursion (λ l. below after zero l ≡ below s zero l) links
  each-zero-same [] = tt
  each-zero-same (l ∷ links) = (zero-same l, each-zero-same links)

  pub flat-zero : (links : List Entry) → all_below after zero links ≡ all_below s zero links
  flat-zero links = flat-same (below after zero) (below s zero) links (each-zero-same links)

  link-one : (k c : ℕ) → Off (suc k) c → ((d : ℕ) → d < length s.heads → level_of s d ≡ k → Off k d → runs after k d ≡ runs s k d) → (l : Entry) → Fits s c (suc k) l → below after (suc k) l ≡ below s (suc k) l
  link-one k c off ih (Here r) f = absurd f
  link-one k c off ih (Down d ts) f = ih d.index f.is f.level (λ i e same. off (suc i) (omega arith) (sym f.parent ∙ ap (parent_of s) same))

  other-node : (k c : ℕ) → level_of s c ≡ k → Off k c → c ≡ x → ⊥
  other-node k c at off e = off 0 (omega (arith, ap (level_of s) e, at)) e

  pub frame : (k c : ℕ) → c < length s.heads → level_of s c ≡ k → Off k c → runs after k c ≡ runs s k c
  frame zero c is at off = ap (all_below after zero) (same-at c (other-node zero c at off)) ∙ flat-zero (entries s c)
  frame (suc k) c is at off =
      let F : ℕ → Type 0 = λ n. AllByRecursion (Fits s c n) (entries s c) in
      let fits = subst F at (t.fits c is) in
      ap (all_below after (suc k)) (same-at c (other-node (suc k) c at off))
      ∙ flat-same (below after (suc k)) (below s (suc k)) (entries s c)
      (each-all (Fits s c (suc k)) (λ l. below after (suc k) l ≡ below s (suc k) l) (λ l f. link-one k c off (λ d dis dat doff. frame k d dis dat doff) l f) (entries s c) fits)

  pub side-one : (i id p q : ℕ) → q ≡ suc (level_of s x + i) → id ≡ above s i x → (l : Entry) → Fits s p q l → child_count id (l ∷ []) ≡ 0 → below after q l ≡ below s q l
  side-one i id p zero at top l f z = absurd (omega arith)
  side-one i id p (suc k) at top (Here r) f z = refl
  side-one i id p (suc k) at top (Down c ts) f z = frame k c.index f.is f.level (λ j e same. let h : j ≡ i = omega arith in other_child id c z (same ∙ ap (λ n. above s n x) h ∙ sym top))

  pub ahead-same : (depth i id : ℕ) → id < length s.heads → level_of s id ≡ level_of s x + i → depth + (level_of s x + i) ≡ height → id ≡ above s i x → ahead after depth id ≡ ahead s depth id
  ahead-same zero i id is at deep top = refl
  ahead-same (suc depth) i id is at deep top =
      let kn = t.known id is (below_top s height root t id is (omega arith)) in
      let p = parent_of s id in
      let lvl : level_of s p ≡ suc (level_of s x + i) = kn.up ∙ ap suc at in
      let ne = λ (e : p ≡ x). no (omega (arith, ap (level_of s) e, lvl)) in
      let ap' = apart id (around s id) kn.once in
      let fits : AllByRecursion (Fits s p (level_of s p)) (left_of id (around s id) ++ Down (node id) ap'.totals ∷ right_of id (around s id)) = subst (AllByRecursion (Fits s p (level_of s p))) ap'.cut (t.fits p kn.is) in
      let left = left_of id (around s id) in
      ap (λ es. ahead after depth p ++ all_below after (level_of s p) (left_of id es)) (same-at p ne)
      ∙ ap (λ l. ahead after depth p ++ l) (flat-same (below after (level_of s p)) (below s (level_of s p)) left
      (each-both (Fits s p (level_of s p)) (λ l. child_count id (l ∷ []) ≡ 0) (λ l. below after (level_of s p) l ≡ below s (level_of s p) l) (λ l f z. side-one i id p (level_of s p) lvl top l f z) left (each-front (Fits s p (level_of s p)) left (Down (node id) ap'.totals ∷ right_of id (around s id)) fits) ap'.left))
      ∙ ap (λ a. a ++ all_below s (level_of s p) left) (ahead-same depth (suc i) p kn.is (omega arith) (omega arith) (ap (parent_of s) top))

  pub behind-same : (depth i id : ℕ) → id < length s.heads → level_of s id ≡ level_of s x + i → depth + (level_of s x + i) ≡ height → id ≡ above s i x → behind after depth id ≡ behind s depth id
  behind-same zero i id is at deep top = refl
  behind-same (suc depth) i id is at deep top =
      let kn = t.known id is (below_top s height root t id is (omega arith)) in
      let p = parent_of s id in
      let lvl : level_of s p ≡ suc (level_of s x + i) = kn.up ∙ ap suc at in
      let ne = λ (e : p ≡ x). no (omega (arith, ap (level_of s) e, lvl)) in
      let ap' = apart id (around s id) kn.once in
      let fits : AllByRecursion (Fits s p (level_of s p)) (left_of id (around s id) ++ Down (node id) ap'.totals ∷ right_of id (around s id)) = subst (AllByRecursion (Fits s p (level_of s p))) ap'.cut (t.fits p kn.is) in
      let left = left_of id (around s id) in
      let right = right_of id (around s id) in
      ap (λ es. all_below after (level_of s p) (right_of id es) ++ behind after depth p) (same-at p ne)
      ∙ ap (λ l. l ++ behind after depth p) (flat-same (below after (level_of s p)) (below s (level_of s p)) right
      (each-both (Fits s p (level_of s p)) (λ l. child_count id (l ∷ []) ≡ 0) (λ l. below after (level_of s p) l ≡ below s (level_of s p) l) (λ l f z. side-one i id p (level_of s p) lvl top l f z) right (each-back (Fits s p (level_of s p)) left (Down (node id) ap'.totals ∷ right) fits).1 ap'.right))
      ∙ ap (λ a. all_below s (level_of s p) right ++ a) (behind-same depth (suc i) p kn.is (omega arith) (omega arith) (ap (parent_of s) top))

  fits-after : (id k : ℕ) (l : Entry) → Fits s id k l → Fits after id k l
  fits-after id zero (Here r) f = tt
  fits-after id zero (Down c ts) f = f
  fits-after id (suc k) (Here r) f = f
  fits-after id (suc k) (Down c ts) f = record { is = f.is; level = f.level; parent = f.parent }

  module _ (leaf : level_of s x ≡ 0) (fits : AllByRecursion (Fits s x zero) ls) where
    -- a leaf with other runs
    pub leaf_tree : IsShape after height root
    leaf_tree = record {
      same = t.same ∙ sym (length-set s.rows x ls);
      root_is = t.root_is;
      top = t.top;
      low = t.low;
      fits = λ id is. elim (cases_eq id x) [
        | inl e ↦ let P : ℕ → Type 0 = λ n. AllByRecursion (Fits after n (level_of s n)) (entries after n) in
            subst P (sym e) (subst (AllByRecursion (Fits after x (level_of s x))) (sym new-at) (let Q : ℕ → Type 0 = λ n. AllByRecursion (Fits after x n) ls in subst Q (sym leaf) (each-all (Fits s x zero) (Fits after x zero) (λ l f. fits-after x zero l f) ls fits)))
        | inr ne ↦ subst (AllByRecursion (Fits after id (level_of s id))) (sym (same-at id ne)) (each-all (Fits s id (level_of s id)) (Fits after id (level_of s id)) (λ l f. fits-after id (level_of s id) l f) (entries s id) (t.fits id is))
      ];
      known = λ id is ne.
          let kn = t.known id is ne in
          let up : parent_of s id ≡ x → ⊥ = λ e. no (omega (arith, ap (level_of s) e, kn.up, leaf)) in
          record { is = kn.is; up = kn.up; once = ap (child_count id) (same-at (parent_of s id) up) ∙ kn.once };
    }

    -- the runs of the tree with it
    pub leaf_runs : runs after height root ≡ ahead s height x ++ (all_below s zero ls ++ behind s height x)
    leaf_runs =
        let low = t.low x xis in
        cut_at after height root leaf_tree height 0 x xis leaf (omega arith)
        ∙ ap (λ a. a ++ (runs after zero x ++ behind after height x)) (ahead-same height 0 x xis (omega arith) (omega (arith, leaf)) refl)
        ∙ ap (λ b. ahead s height x ++ (runs after zero x ++ b)) (behind-same height 0 x xis (omega arith) (omega (arith, leaf)) refl)
        ∙ ap (λ m. ahead s height x ++ (m ++ behind s height x)) (ap (all_below after zero) new-at ∙ flat-zero ls)
