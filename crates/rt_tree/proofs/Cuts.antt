-- A node with totals cut in two.
use Rattle.std.proofs.Common.{◌≡◌, ℕ, zero, suc, ◌+◌, ◌<◌, inl, inr, List, [], ◌∷◌, ◌++◌, length, refl, sym, ap, ◌∙◌, arith, subst}
use Rattle.std.proofs.lemmas.Bool.{cases_eq}
use Rattle.std.proofs.lemmas.List.{map-append}
use Rattle.rt_nodes.specs.Nodes.{entries}
use Rattle.rt_tree.specs.declared.node.Entry.{Entry}
use Rattle.rt_tree.specs.declared.node.Totals.{Totals}
use Rattle.rt_tree.specs.declared.node.Entry.TheVariants.{Down, Here}
use Rattle.rt_tree.specs.Changes.{links, AreStill, bare, IsSplit, IsCut, IsExactAt, AreExact, strip, kid, entry_totals, adds_up, IsLocal, join}
use Rattle.rt_tree.specs.Shape.{runs, level_of, parent_of, Memory, Fits, child_count, IsShape}
use Rattle.rt_tree.proofs.Around.{node, count-append}
use Rattle.rt_tree.proofs.Bares.{bare-entries}
use Rattle.rt_tree.proofs.Exact.{each-both, each-links, fits-entries}
use Rattle.rt_tree.proofs.Frame.{each-front, each-back, each-append, each-zero, other_child, no}
use Rattle.rt_tree.proofs.Halves.{split_other, split_tree, split_runs, split_first, split_second, split_below, not-in, not-own, ponce, plevel, pis, counted_self}
use Rattle.rt_tree.proofs.Adding.{join_assoc, adds-append}
use Rattle.rt_tree.proofs.Raise.{length-rows}
use Rattle.std.specs.List.{AllByRecursion}

abbrev pub down_entry : ℕ → List Entry → Entry
down_entry n es = Down (node n) (adds_up es)

module _ (m m' : Memory) (height root : ℕ) (t : IsShape (bare m) height root) (exact : AreExact m) (n q p : ℕ) (front back left right : List Entry) (e : Entry) (nis : n < length m.heads) (nroot : n ≡ root → ⊥) (up : p ≡ parent_of (bare m) n) (cut : IsCut m m' n q p front back left right e) where
  joined : (a b : List Entry) → links (a ++ b) ≡ links a ++ links b
  joined a b = map-append strip a b

  split : IsSplit (bare m) (bare m') n q p (links front) (links back) (links left) (links right)
  split = record {
    new = cut.new;
    longer = cut.longer;
    same = cut.same ∙ sym (length-rows m');
    levels = cut.levels;
    level = cut.level;
    moved = cut.moved;
    stay = cut.stay;
    parent = cut.parent;
    halves = bare-entries m n ∙ ap links cut.halves ∙ joined front back;
    at_n = bare-entries m' n ∙ ap links cut.at_n;
    at_q = bare-entries m' q ∙ ap links cut.at_q;
    was = bare-entries m p ∙ ap links cut.was ∙ joined left (e ∷ right) ∙ ap (λ l. links left ++ l ∷ links right) cut.named;
    is = bare-entries m' p ∙ ap links cut.is ∙ joined left (down_entry n front ∷ down_entry q back ∷ right);
    others = λ c lt nn np. bare-entries m' c ∙ ap links (cut.others c lt nn np) ∙ sym (bare-entries m c);
  }

  pub cut_tree : IsShape (bare m') height root
  cut_tree = split_tree (bare m) (bare m') height root t n q p (links front) (links back) (links left) (links right) nis nroot up split

  pub cut_runs : runs (bare m') height root ≡ runs (bare m) height root
  cut_runs = split_runs (bare m) (bare m') height root t n q p (links front) (links back) (links left) (links right) nis nroot up split

  -- each other node has the runs that it had
  pub cut_other : (c : ℕ) → c < q → (c ≡ n → ⊥) → runs (bare m') (level_of (bare m) c) c ≡ runs (bare m) (level_of (bare m) c) c
  cut_other = split_other (bare m) (bare m') height root t n q p (links front) (links back) (links left) (links right) nis nroot up split

  lvl : level_of (bare m) p ≡ suc (level_of (bare m) n)
  lvl = plevel (bare m) (bare m') height root t n q p (links front) (links back) (links left) (links right) nis nroot up split

  within : p < length m.heads
  within = pis (bare m) (bare m') height root t n q p (links front) (links back) (links left) (links right) nis nroot up split

  once : child_count n (links left) + (child_count n (kid n ∷ []) + child_count n (links right)) ≡ 1
  once =
      let a = ponce (bare m) (bare m') height root t n q p (links front) (links back) (links left) (links right) nis nroot up split in
      let b = ap (child_count n) split.was ∙ count-append n (links left) (kid n ∷ links right) in
      omega arith

  exact-p : AllByRecursion (IsLocal m) (left ++ e ∷ right)
  exact-p = subst (AllByRecursion (IsLocal m)) cut.was (exact p within)

  -- the entry that was cut
  cut_total : (entry_totals e) ≡ join (adds_up front) (adds_up back)
  cut_total =
      let h = (each-back (IsLocal m) left (e ∷ right) exact-p).0 in
      let P : Entry → Type 0 = λ l. IsExactAt m l (entry_totals e) in
      subst P cut.named h ∙ ap adds_up cut.halves ∙ adds-append front back

  sum-parent : adds_up (entries m' p) ≡ adds_up (entries m p)
  sum-parent =
      ap adds_up cut.is ∙ adds-append left (down_entry n front ∷ down_entry q back ∷ right)
      ∙ ap (join (adds_up left)) (sym (join_assoc (adds_up front) (adds_up back) (adds_up right)) ∙ ap (λ x. join x (adds_up right)) (sym cut_total))
      ∙ sym (ap adds_up cut.was ∙ adds-append left (e ∷ right))

  sum-same : (c : ℕ) → c < q → (c ≡ n → ⊥) → adds_up (entries m' c) ≡ adds_up (entries m c)
  sum-same c lt nn = elim (cases_eq c p) [
    | inl w ↦ ap (λ x. adds_up (entries m' x)) w ∙ sum-parent ∙ ap (λ x. adds_up (entries m x)) (sym w)
    | inr np ↦ ap adds_up (cut.others c lt nn np)
  ]

  keep : (id k : ℕ) (l : Entry) (x : Totals) → Fits (bare m) id k l → child_count n (l ∷ []) ≡ 0 → IsExactAt m l x → IsExactAt m' l x
  keep id k (Here r) x f z h = h
  keep id zero (Down c ts) x f z h = absurd f
  keep id (suc k) (Down c ts) x f z h = h ∙ sym (sum-same c.index (omega (arith, f.is, cut.new)) (other_child n c z))

  -- entries of an old node that aren't the node's
  keeps : (id : ℕ) → id < length m.heads → (es : List Entry) → AllByRecursion (λ (x : Entry). Fits (bare m) id (level_of (bare m) id) (strip x)) es → AllByRecursion (IsLocal m) es → AllByRecursion (λ l. child_count n (l ∷ []) ≡ 0) (links es) → AllByRecursion (IsLocal m') es
  keeps id is es f h z =
      each-both (λ (x : Entry). Fits (bare m) id (level_of (bare m) id) (strip x) × (child_count n ((strip x) ∷ []) ≡ 0)) (IsLocal m) (IsLocal m') (λ x a b. keep id (level_of (bare m) id) (strip x) (entry_totals x) a.0 a.1 b) es
      (each-both (λ (x : Entry). Fits (bare m) id (level_of (bare m) id) (strip x)) (λ (x : Entry). child_count n ((strip x) ∷ []) ≡ 0) (λ (x : Entry). Fits (bare m) id (level_of (bare m) id) (strip x) × (child_count n ((strip x) ∷ []) ≡ 0)) (λ x a b. (a, b)) es f (each-links (λ l. child_count n (l ∷ []) ≡ 0) es z)) h

  fits-of : (id : ℕ) → id < length m.heads → AllByRecursion (λ (x : Entry). Fits (bare m) id (level_of (bare m) id) (strip x)) (entries m id)
  fits-of id is = fits-entries m height root t id (level_of (bare m) id) is refl

  abbrev Old : ℕ → List Entry → Type 0
  Old id es = AllByRecursion (λ (x : Entry). Fits (bare m) id (level_of (bare m) id) (strip x)) es

  each-own : (es : List Entry) → Old n es → AllByRecursion (λ l. child_count n (l ∷ []) ≡ 0) (links es)
  each-own [] all = tt
  each-own (x ∷ es) all = (not-own (bare m) (bare m') height root t n q p (links front) (links back) (links left) (links right) nis nroot up split (level_of (bare m) n) refl (strip x) all.0, each-own es all.1)

  each-in : (id : ℕ) → (id ≡ p → ⊥) → (es : List Entry) → Old id es → AllByRecursion (λ l. child_count n (l ∷ []) ≡ 0) (links es)
  each-in id np [] all = tt
  each-in id np (x ∷ es) all = (not-in (bare m) (bare m') height root t n q p (links front) (links back) (links left) (links right) nis nroot up split id (level_of (bare m) id) np (strip x) all.0, each-in id np es all.1)

  old-n : Old n (front ++ back)
  old-n = subst (Old n) cut.halves (fits-of n nis)

  exact-n : AllByRecursion (IsLocal m) (front ++ back)
  exact-n = subst (AllByRecursion (IsLocal m)) cut.halves (exact n nis)

  abbrev FitN : Entry → Type 0
  FitN x = Fits (bare m) n (level_of (bare m) n) (strip x)

  abbrev FitP : Entry → Type 0
  FitP x = Fits (bare m) p (level_of (bare m) p) (strip x)

  exact-front : AllByRecursion (IsLocal m') front
  exact-front = let f = each-front FitN front back old-n in keeps n nis front f (each-front (IsLocal m) front back exact-n) (each-own front f)

  exact-back : AllByRecursion (IsLocal m') back
  exact-back = let f = each-back FitN front back old-n in keeps n nis back f (each-back (IsLocal m) front back exact-n) (each-own back f)

  old-p : Old p (left ++ e ∷ right)
  old-p = subst (Old p) cut.was (fits-of p within)

  exact-parent : AllByRecursion (IsLocal m') (left ++ down_entry n front ∷ down_entry q back ∷ right)
  exact-parent =
      let one = counted_self n in let o = once in
      each-append (IsLocal m') left (down_entry n front ∷ down_entry q back ∷ right)
      (keeps p within left (each-front FitP left (e ∷ right) old-p) (each-front (IsLocal m) left (e ∷ right) exact-p) (each-zero n (links left) (omega arith)))
      (ap adds_up (sym cut.at_n), (ap adds_up (sym cut.at_q), keeps p within right (each-back FitP left (e ∷ right) old-p).1 (each-back (IsLocal m) left (e ∷ right) exact-p).1 (each-zero n (links right) (omega arith))))

  -- all totals stay exact
  pub cut_exact : AreExact m'
  cut_exact id is = elim (cases_eq id q) [
    | inl w ↦ subst (λ x. AllByRecursion (IsLocal m') (entries m' x)) (sym w) (subst (AllByRecursion (IsLocal m')) (sym cut.at_q) exact-back)
    | inr nq ↦ elim (cases_eq id n) [
      | inl w ↦ subst (λ x. AllByRecursion (IsLocal m') (entries m' x)) (sym w) (subst (AllByRecursion (IsLocal m')) (sym cut.at_n) exact-front)
      | inr nn ↦ elim (cases_eq id p) [
        | inl w ↦ subst (λ x. AllByRecursion (IsLocal m') (entries m' x)) (sym w) (subst (AllByRecursion (IsLocal m')) (sym cut.is) exact-parent)
        | inr np ↦
            let lt : id < q = omega (arith, cut.longer) in
            let old : id < length m.heads = omega (arith, cut.new) in
            subst (AllByRecursion (IsLocal m')) (sym (cut.others id lt nn np)) (keeps id old (entries m id) (fits-of id old) (exact id old) (each-in id np (entries m id) (fits-of id old)))
      ]
    ]
  ]

  low-n : level_of (bare m) n < height
  low-n = let kn = t.known n nis nroot in let l = t.low (parent_of (bare m) n) kn.is in omega (arith, kn.up)

  pub cut_still : AreStill m m' height n q
  cut_still = record {
    level = cut.level;
    first = λ depth deep. split_first (bare m) (bare m') height root t n q p (links front) (links back) (links left) (links right) nis nroot up split depth deep;
    second = λ depth deep. split_second (bare m) (bare m') height root t n q p (links front) (links back) (links left) (links right) nis nroot up split depth ∙ ap (λ l. l ++ runs (bare m') (level_of (bare m) n) n) (split_first (bare m) (bare m') height root t n q p (links front) (links back) (links left) (links right) nis nroot up split (suc depth) deep);
    lower = λ j depth c is lvl path deep. split_below (bare m) (bare m') height root t n q p (links front) (links back) (links left) (links right) nis nroot up split j depth c is lvl path low-n deep;
    same = λ c is lt. cut.others c (omega (arith, is, cut.new)) (λ e. let h = ap (level_of (bare m)) e in no (omega arith)) (λ e. let h = ap (level_of (bare m)) e in no (omega (arith, lvl)));
  }
