-- The entries of a node, as their runs are passed.
use Rattle.std.proofs.Common.{◌≡◌, ℕ, zero, suc, ◌+◌, ◌-◌, ◌<◌, ◌≤◌, true, List, [], ◌∷◌, ◌++◌, length, take, drop, get_or, refl, sym, ap, ◌∙◌, arith, subst}
use Rattle.std.specs.List.{AllByRecursion}
use Rattle.std.proofs.lemmas.List.{append-nil, take_more}
use Rattle.std.proofs.lemmas.List.Concat.{flat_map-append}
use Rattle.rt_nodes.specs.Nodes.{entries}
use Rattle.rt_nodes.specs.declared.memory.NodeId.{NodeId}
use Rattle.rt_stamps.specs.declared.stamp.Stamp.{Stamp}
use Rattle.rt_tree.specs.declared.node.Counts.{Counts}
use Rattle.rt_tree.specs.declared.node.Entry.{Entry}
use Rattle.rt_tree.specs.declared.node.Entry.TheVariants.{Down}
use Rattle.rt_tree.specs.declared.node.Run.{Run}
use Rattle.rt_tree.specs.declared.node.Totals.{Totals}
use Rattle.rt_tree.specs.Shape.{Memory, IsExact, IsTree, all_below, below, entry_counts, level_of, runs, sum_of}
use Rattle.rt_tree.specs.Skips.{HasCells, are_passed, passed}
use Rattle.rt_tree.specs.Sums.{counts_of, plus, totals_of}
use Rattle.rt_tree.proofs.Down.{down, each-at, sum-front}
use Rattle.rt_tree.proofs.Amounts.{counts-append, counts-exact, sum-more}
use Rattle.rt_tree.proofs.Passing.{cells, passed-append, passed-front, passed-le, passed-whole}

pub parts-at : {X : Type 0} (xs : List X) (i : ℕ) (x : X) → i < length xs → x ≡ get_or xs i x → xs ≡ take i xs ++ x ∷ drop (suc i) xs
parts-at [] i x lt is = absurd (omega (arith, lt))
parts-at (y ∷ xs) zero x lt is = ap (λ z. z ∷ xs) (sym is)
parts-at (y ∷ xs) (suc i) x lt is = ap (λ zs. y ∷ zs) (parts-at xs i x (omega (arith, lt)) is)

pub get-any : {X : Type 0} (xs : List X) (i : ℕ) (a b : X) → i < length xs → get_or xs i a ≡ get_or xs i b
get-any [] i a b lt = absurd (omega (arith, lt))
get-any (y ∷ xs) zero a b lt = refl
get-any (y ∷ xs) (suc i) a b lt = get-any xs i a b (omega (arith, lt))

pub each-append : {X : Type 0} (P : X → Type 0) (a b : List X) → AllByRecursion P (a ++ b) → AllByRecursion P a × AllByRecursion P b
each-append P [] b all = (tt, all)
each-append P (x ∷ a) b all = let both = each-append P a b all.1 in ((all.0, both.0), both.1)

module _ (m : Memory) (root : ℕ) (t : IsTree m root) (id : ℕ) (known : id < length m.heads) (some : AllByRecursion HasCells (runs m (level_of m id) id)) where
  abbrev k : ℕ
  k = level_of m id

  abbrev es : List Entry
  es = entries m id

  module _ (i : ℕ) (e : Entry) (lt : i < length es) (here : e ≡ get_or es i e) where
    abbrev front : List Run
    front = all_below m k (take i es)

    abbrev back : List Run
    back = all_below m k (drop (suc i) es)

    cut : runs m k id ≡ front ++ (below m k e ++ back)
    cut = ap (all_below m k) (parts-at es i e lt here) ∙ flat_map-append (below m k) (take i es) (e ∷ drop (suc i) es)

    both : AllByRecursion HasCells front × AllByRecursion HasCells (below m k e ++ back)
    both = each-append HasCells front (below m k e ++ back) (subst (AllByRecursion HasCells) cut some)

    pub some-entry : AllByRecursion HasCells (below m k e)
    some-entry = (each-append HasCells (below m k e) back both.1).0

    pub counts-entry : (entry_counts e).cells ≡ cells (below m k e)
    counts-entry = ap (λ (c : Counts). c.cells) (counts-exact m k e (each-at (IsExact m k) es i e (t.totals id known) lt here))

    pub counts-front : (sum_of (take i es)).cells ≡ cells front
    counts-front = ap (λ (c : Counts). c.cells) (sum-front m root t id i known)

    pub fits-entry : cells front + (cells (below m k e) + cells back) ≡ cells (runs m k id)
    fits-entry = ap (λ (c : Counts). c.cells) (sym (ap counts_of cut ∙ counts-append front (below m k e ++ back) ∙ ap (plus (counts_of front)) (counts-append (below m k e) back)))

    -- what a node that an entry names has
    pub record Child (c : NodeId) : Type 0 where
      pub is : c.index < length m.heads
      pub level : level_of m id ≡ suc (level_of m c.index)
      pub same : below m k e ≡ runs m (level_of m c.index) c.index
      pub has : AllByRecursion HasCells (runs m (level_of m c.index) c.index)
      pub few : cells (runs m (level_of m c.index) c.index) ≤ cells (runs m k id)

    pub child : (c : NodeId) (x : Totals) → e ≡ Down c x → Child c
    child c x to =
        let d = down m root t id i e c x known lt here to in
        let same = ap (below m k) to ∙ ap (λ n. below m n (Down c x)) d.level in
        let few = ap cells same in
        record {
          is = d.is;
          level = d.level;
          same = same;
          has = subst (AllByRecursion HasCells) same some-entry;
          few = omega (arith, few, fits-entry);
        }

    -- totals are those of the runs
    pub whole : (from : ℕ) (new : Stamp) (c : NodeId) (x : Totals) → e ≡ Down c x → are_passed from new x ≡ true → x.counts.cells ≡ passed from new (below m k e)
    whole from new c x to p =
        let d = down m root t id i e c x known lt here to in
        let exact = subst (IsExact m k) to (each-at (IsExact m k) es i e (t.totals id known) lt here) in
        let own : x ≡ totals_of (below m k e) = exact ∙ ap (λ y. totals_of (below m k y)) (sym to) in
        ap (λ (y : Totals). y.counts.cells) own ∙ sym (passed-whole from new (below m k e) some-entry (ap (are_passed from new) (sym own) ∙ p))

    module _ (from done inside number : ℕ) (new : Stamp) (counted : done ≡ (sum_of (take i es)).cells) (so_far : passed from new front ≡ done) (own : inside ≡ passed (from - done) new (below m k e)) (n : number ≡ (entry_counts e).cells) where
      more : (rest : List Run) → passed from new (front ++ rest) ≡ done + passed (from - done) new rest
      more rest =
          let c : done ≡ cells front = counted ∙ counts-front in
          passed-append from new front rest both.0 (so_far ∙ c) ∙ ap (λ x. x + passed (from - x) new rest) (sym c)

      pub stops_here : inside < number → done + inside ≡ passed from new (runs m k id)
      stops_here less =
          let f = passed-front (from - done) new (below m k e) back (omega (arith, less, own, n, counts-entry)) in
          let a = more (below m k e ++ back) in
          let c = ap (passed from new) cut in
          omega (arith, own, f, a, c)

      pub fits_more : done + inside ≤ cells (runs m k id)
      fits_more = let l = passed-le (from - done) new (below m k e) in omega (arith, own, l, counted, counts-front, fits-entry)

      pub goes_further : number ≤ inside → (done + inside ≡ (sum_of (take (i + 1) es)).cells) × (passed from new (all_below m k (take (i + 1) es)) ≡ done + inside)
      goes_further less =
          let l = passed-le (from - done) new (below m k e) in
          let s = ap (λ (c : Counts). c.cells) (sum-more es i e lt here) in
          let a = more (below m k e) in
          let f : passed from new (all_below m k (take (i + 1) es)) ≡ passed from new (front ++ below m k e) = ap (passed from new) (all_more m k es i e lt here) in
          (omega (arith, own, l, less, n, counts-entry, s, counted), f ∙ a ∙ ap (λ x. done + x) (sym own))
        where
          all_more : (m : Memory) (k : ℕ) (es : List Entry) (i : ℕ) (e : Entry) → i < length es → e ≡ get_or es i e → all_below m k (take (i + 1) es) ≡ all_below m k (take i es) ++ below m k e
          all_more m k es i e lt here =
              ap (all_below m k) (take_more es i e lt) ∙ flat_map-append (below m k) (take i es) (get_or es i e ∷ [])
              ∙ ap (λ x. all_below m k (take i es) ++ (below m k x ++ [])) (sym here)
              ∙ ap (λ rs. all_below m k (take i es) ++ rs) (append-nil (below m k e))
