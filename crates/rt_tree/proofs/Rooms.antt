-- Places in leaves.
use Rattle.std.proofs.Common.{◌≡◌, ℕ, zero, suc, ◌+◌, ◌-◌, ◌<◌, ◌≤◌, List, [], ◌∷◌, ◌++◌, length, take, drop, insert, refl, sym, ap, ◌∙◌, arith, subst, append_assoc, length-append, length-take}
use Rattle.std.proofs.lemmas.List.{take-append-drop, map-append}
use Rattle.std.proofs.lemmas.List.Concat.{flat_map-append}
use Rattle.rt_nodes.specs.Nodes.{entries}
use Rattle.rt_tree.specs.declared.node.Run.{Run}
use Rattle.rt_tree.specs.declared.node.Entry.{Entry}
use Rattle.rt_tree.specs.declared.node.Totals.{Totals}
use Rattle.rt_tree.specs.declared.node.Entry.TheVariants.{Down, Here}
use Rattle.rt_tree.specs.Changes.{links, bare, AreExact, AreStill, strip, entry_totals}
use Rattle.rt_tree.specs.Shape.{below, runs, ahead, behind, level_of, Memory, IsShape, all_below}
use Rattle.rt_tree.proofs.Around.{at_top, cut_at}
use Rattle.rt_tree.proofs.Bares.{bare-entries}
use Rattle.rt_tree.proofs.Down.{each-take}
use Rattle.rt_tree.proofs.NewLeaf.{IsLeafEntry, IsRunAt, leaf-entries}
use Rattle.std.specs.List.{AllByRecursion}

one_run : (s : Memory) (l : Entry) (z : Totals) (rest : List Run) → IsRunAt l z → length (below s 0 l ++ rest) ≡ suc (length rest)
one_run s (Here r) z rest h = refl
one_run s (Down c ts) z rest h = absurd h

-- a leaf's entries are as many runs
pub length-leaf : (s : Memory) (es : List Entry) → AllByRecursion IsLeafEntry es → length (all_below s 0 (links es)) ≡ length es
length-leaf s [] all = refl
length-leaf s (e ∷ es) all = one_run s (strip e) (entry_totals e) (all_below s 0 (links es)) all.0 ∙ ap suc (length-leaf s es all.1)

-- the runs of a leaf with one more
insert-cut : (s : Memory) (es : List Entry) (i : ℕ) (r : Run) → all_below s 0 (links (insert es i (Here r))) ≡ all_below s 0 (links (take i es)) ++ ((r ∷ []) ++ all_below s 0 (links (drop i es)))
insert-cut s es i r =
    ap (all_below s 0) (map-append strip (take i es) (Here r ∷ drop i es))
    ∙ flat_map-append (below s 0) (links (take i es)) (Here r ∷ links (drop i es))

pub insert_at_end : (a b : List Run) (k : ℕ) (x : Run) → length a ≡ k → insert (a ++ b) k x ≡ a ++ x ∷ b
insert_at_end [] b zero x e = refl
insert_at_end [] b (suc k) x e = absurd (omega arith)
insert_at_end (y ∷ a) b zero x e = absurd (omega arith)
insert_at_end (y ∷ a) b (suc k) x e = ap (λ l. y ∷ l) (insert_at_end a b k x (omega arith))

around_one : (a l m r b : List Run) → a ++ ((l ++ (m ++ r)) ++ b) ≡ (a ++ l) ++ (m ++ (r ++ b))
around_one a l m r b = simp append_assoc

around_none : (a l r b : List Run) → a ++ ((l ++ r) ++ b) ≡ (a ++ l) ++ (r ++ b)
around_none a l r b = simp append_assoc

module _ (m : Memory) (height root : ℕ) (t : IsShape (bare m) height root) (exact : AreExact m) (x : ℕ) (xis : x < length m.heads) (leaf : level_of (bare m) x ≡ 0) where
  pub leaf-length : length (runs (bare m) 0 x) ≡ length (entries m x)
  leaf-length = ap (λ ls. length (all_below (bare m) 0 ls)) (bare-entries m x) ∙ length-leaf (bare m) (entries m x) (leaf-entries m height root t exact x xis leaf)

  -- a run put into a leaf stands at a place of the whole list
  pub put_at : (i : ℕ) (run : Run) → i ≤ length (entries m x) → ahead (bare m) height x ++ (all_below (bare m) 0 (links (insert (entries m x) i (Here run))) ++ behind (bare m) height x) ≡ insert (runs (bare m) height root) (length (ahead (bare m) height x) + i) run
  put_at i run le =
      let s = bare m in let es = entries m x in
      let a = ahead s height x in let b = behind s height x in
      let l = all_below s 0 (links (take i es)) in let r = all_below s 0 (links (drop i es)) in
      let old : runs s height root ≡ (a ++ l) ++ (r ++ b) =
      cut_at s height root t height 0 x xis leaf (omega arith)
      ∙ ap (λ ls. a ++ (all_below s 0 ls ++ b)) (bare-entries m x ∙ ap links (sym (take-append-drop i es)) ∙ map-append strip (take i es) (drop i es))
      ∙ ap (λ w. a ++ (w ++ b)) (flat_map-append (below s 0) (links (take i es)) (links (drop i es)))
      ∙ around_none a l r b in
      let long : length (a ++ l) ≡ length a + i = length-append a l ∙ (omega (arith, length-leaf s (take i es) (each-take IsLeafEntry i es (leaf-entries m height root t exact x xis leaf)), length-take i es)) in
      ap (λ w. a ++ (w ++ b)) (insert-cut s es i run) ∙ around_one a l (run ∷ []) r b
      ∙ sym (ap (λ w. insert w (length a + i) run) old ∙ insert_at_end (a ++ l) (r ++ b) (length a + i) run long)

module _ (m m' : Memory) (height root n q : ℕ) (t : IsShape (bare m') height root) (exact : AreExact m') (nis : n < length m'.heads) (was : level_of (bare m) n ≡ 0) (leaf : level_of (bare m') n ≡ 0) (st : AreStill m m' height n q) where
  pub first_place : length (ahead (bare m') height n) ≡ length (ahead (bare m) height n)
  first_place = ap length (st.first height (omega (arith, was)))

  pub second_place : 0 < height → length (ahead (bare m') height q) ≡ length (ahead (bare m) height n) + length (entries m' n)
  second_place some =
      let d : suc (height - 1) ≡ height = omega arith in
      let P : ℕ → Type 0 = λ h. length (ahead (bare m') h q) ≡ length (ahead (bare m) h n) + length (entries m' n) in
      subst P d (ap length (st.second (height - 1) (omega (arith, was)) ∙ ap (λ k. ahead (bare m) (suc (height - 1)) n ++ runs (bare m') k n) was)
      ∙ length-append (ahead (bare m) (suc (height - 1)) n) (runs (bare m') 0 n)
      ∙ ap (λ k. length (ahead (bare m) (suc (height - 1)) n) + k) (leaf-length m' height root t exact n nis leaf))

-- a full leaf isn't a root that has room
pub some_above : (m : Memory) (height root : ℕ) → IsShape (bare m) height root → (x : ℕ) → x < length m.heads → level_of (bare m) x ≡ 0 → 16 ≤ length (entries m x) → length (entries m root) < 16 → 0 < height
some_above m zero root t x xis leaf full roomy = absurd (let e = ap (λ y. length (entries m y)) (at_top (bare m) 0 root t x xis leaf) in omega (arith, e, full, roomy))
some_above m (suc height) root t x xis leaf full roomy = omega arith
