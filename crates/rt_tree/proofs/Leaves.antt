-- In which leaf a run stands, and what the map of leaves has once a run was told.
use Rattle.std.proofs.Common.{◌≡◌, ℕ, zero, suc, ◌+◌, ◌-◌, ◌<◌, ◌≤◌, ◌⊎◌, inl, inr, true, false, List, [], ◌∷◌, ◌++◌, length, drop, take, slice_get, Some, refl, sym, ap, ◌∙◌, arith, subst}
use Rattle.std.specs.Prelude.{nat_le, nat_lt}
use Rattle.std.specs.List.{AllByRecursion}
use Rattle.std.proofs.lemmas.Bool.{cases_eq}
use Rattle.std.proofs.lemmas.Bool.Decides.{nat_tests}
use Rattle.rt_nodes.specs.declared.memory.NodeId.{NodeId}
use Rattle.rt_nodes.specs.Nodes.{entries}
use Rattle.rt_spans.specs.Shown.{IsValueBorder, SpanMapValue, value_of}
use Rattle.rt_stamps.specs.declared.stamp.Span.{Span}
use Rattle.rt_stamps.specs.declared.stamp.Stamp.{Stamp}
use Rattle.rt_store.specs.Cells.{is_in_span}
use Rattle.rt_store.proofs.Distinct.{split}
use Rattle.rt_tree.specs.declared.node.Entry.{Entry}
use Rattle.rt_tree.specs.declared.node.Entry.TheVariants.{Down, Here}
use Rattle.rt_tree.specs.declared.node.Run.{Run}
use Rattle.rt_tree.specs.declared.node.Totals.{Totals}
use Rattle.rt_tree.specs.Homes.{AreOnceEach, IsAmong, IsNew, IsSpanOf, holders}
use Rattle.rt_tree.specs.Runs.{first_stamp, has_cell}
use Rattle.rt_tree.specs.Shape.{Fits, IsShape, IsTree, Memory, ahead, all_below, behind, below, level_of, runs, runs_before, tree_runs}
use Rattle.rt_tree.specs.Skips.{HasCells}
use Rattle.rt_tree.specs.Standing.{HasLeaf, HaveLeavesBelow, IsBordered, IsEntered, Stands}
use Rattle.rt_tree.specs.Sums.{counts_of}
use Rattle.rt_tree.proofs.Around.{cut_at}
use Rattle.rt_tree.proofs.Frame.{after, each-append, each-back, each-front, leaf_runs, leaf_tree, same-at}
use Rattle.rt_tree.proofs.Housing.{had_not, holders-append, holders-cons, holders-mid, is_bit}
use Rattle.rt_tree.proofs.Shared.{first_has}
use Rattle.rt_tree.proofs.Stands.{cut_leaf, parted}

-- WHERE A RUN STANDS

-- what holds of all runs of some nodes holds of each run that is an entry of a leaf
pub in_shape : (m : Memory) (height root : ℕ) → IsShape m height root → (P : Run → Type 0) → AllByRecursion P (runs m height root)
    → (leaf : ℕ) (run : Run) → Stands m leaf run → P run
in_shape m height root t P all leaf run at =
    let top = cut_at m height root t height 0 leaf at.is at.low (omega arith) in
    let es = entries m leaf in
    let own = each-back P (ahead m height leaf) (all_below m 0 es ++ behind m height leaf) (subst (AllByRecursion P) top all) in
    let here = each-front P (all_below m 0 es) (behind m height leaf) own in
    let cut = subst (AllByRecursion P) (cut_leaf m es at.entry run at.here) here in
    (each-back P (all_below m 0 (take at.entry es)) ((run ∷ []) ++ all_below m 0 (drop (suc at.entry) es)) cut).0

-- what holds of all runs of a tree holds of each run that stands in a leaf
pub stands_in : (m : Memory) (root : ℕ) → IsTree m root → (P : Run → Type 0) → AllByRecursion P (tree_runs m root)
    → (leaf : ℕ) (run : Run) → Stands m leaf run → P run
stands_in m root t P all leaf run at = in_shape m (level_of m root) root t.shape P all leaf run at

one_holds : (m : Memory) (es : List Entry) (i : ℕ) (r : Run) (stamp : Stamp) → slice_get es i ≡ Some (Here r) → has_cell r stamp ≡ true → 0 < holders stamp (all_below m 0 es)
one_holds m es i r stamp here there =
    let left = all_below m 0 (take i es) in
    let right = all_below m 0 (drop (suc i) es) in
    let c = ap (holders stamp) (cut_leaf m es i r here) ∙ holders-mid stamp left r right in
    let b = is_bit (has_cell r stamp) there in
    omega (arith, c, b)

first_holds : (m : Memory) (e : Entry) (es : List Entry) (r : Run) (stamp : Stamp) → slice_get (e ∷ es) 0 ≡ Some (Here r) → has_cell r stamp ≡ true
    → holders stamp (all_below m 0 (e ∷ es)) ≡ 1 + holders stamp (all_below m 0 es)
first_holds m e es r stamp here there =
    let h : e ≡ Here r = cc in
    let c = ap (λ x. holders stamp (below m 0 x ++ all_below m 0 es)) h ∙ holders-cons stamp r (all_below m 0 es) in
    let b = is_bit (has_cell r stamp) there in
    omega (arith, c, b)

-- two entries of a leaf with one stamp are one entry
same_entry : (m : Memory) (es : List Entry) (i j : ℕ) (r s : Run) (stamp : Stamp) → slice_get es i ≡ Some (Here r) → slice_get es j ≡ Some (Here s) → has_cell r stamp ≡ true → has_cell s stamp ≡ true
    → holders stamp (all_below m 0 es) ≤ 1 → i ≡ j
same_entry m [] i j r s stamp here there mine own once = cc
same_entry m (e ∷ es) zero zero r s stamp here there mine own once = refl
same_entry m (e ∷ es) zero (suc j) r s stamp here there mine own once =
    let f = first_holds m e es r stamp here mine in
    let o = one_holds m es j s stamp there own in
    absurd (omega (arith, f, o, once))
same_entry m (e ∷ es) (suc i) zero r s stamp here there mine own once =
    let f = first_holds m e es s stamp there own in
    let o = one_holds m es i r stamp here mine in
    absurd (omega (arith, f, o, once))
same_entry m (e ∷ es) (suc i) (suc j) r s stamp here there mine own once =
    let c = holders-append stamp (below m 0 e) (all_below m 0 es) in
    ap suc (same_entry m es i j r s stamp here there mine own (omega (arith, c, once)))

-- no run of a list has a stamp that none holds
pub none_has : (stamp : Stamp) (rs : List Run) → holders stamp rs ≡ 0 → AllByRecursion (λ (r : Run). has_cell r stamp ≡ false) rs
none_has stamp [] none = tt
none_has stamp (r ∷ rs) none = let h = had_not r rs stamp none in (h.0, none_has stamp rs h.1)

module _ (m : Memory) (root : ℕ) (t : IsTree m root) (once : AreOnceEach (tree_runs m root)) (a b : ℕ) (r s : Run) (at : Stands m a r) (bt : Stands m b s) (stamp : Stamp) (mine : has_cell r stamp ≡ true) (own : has_cell s stamp ≡ true) where
  abbrev top : ℕ
  top = level_of m root

  parts : holders stamp (tree_runs m root) ≡ holders stamp (ahead m top a) + (holders stamp (all_below m 0 (entries m a)) + holders stamp (behind m top a))
  parts =
      let es = entries m a in
      ap (holders stamp) (cut_at m top root t.shape top 0 a at.is at.low (omega arith))
      ∙ holders-append stamp (ahead m top a) (all_below m 0 es ++ behind m top a)
      ∙ ap (λ n. holders stamp (ahead m top a) + n) (holders-append stamp (all_below m 0 es) (behind m top a))

  -- another leaf has no run with the stamp
  apart : (b ≡ a → ⊥) → ⊥
  apart ne =
      let o = once stamp in
      let h = one_holds m (entries m a) at.entry r stamp at.here mine in
      let P : Run → Type 0 = λ x. has_cell x stamp ≡ false in
      let front = none_has stamp (ahead m top a) (omega (arith, parts, o, h)) in
      let back = none_has stamp (behind m top a) (omega (arith, parts, o, h)) in
      let is = leaf_runs m top root t.shape a at.is [] at.low tt in
      let all = subst (AllByRecursion P) (sym is) (each-append P (ahead m top a) (behind m top a) front back) in
      let same = same-at m top root t.shape a at.is [] b ne in
      let late : Stands (after m top root t.shape a at.is []) b s = record { is = bt.is; low = bt.low; entry = bt.entry; here = ap (λ es. slice_get es bt.entry) same ∙ bt.here } in
      let none : has_cell s stamp ≡ false = in_shape (after m top root t.shape a at.is []) top root (leaf_tree m top root t.shape a at.is [] at.low tt) P all b s late in
      absurd (cc (none, own))

  same_leaf : b ≡ a
  same_leaf = elim (cases_eq b a) [ inl e ↦ e | inr ne ↦ absurd (apart ne) ]

  one : b ≡ a → r ≡ s
  one e =
      let o = once stamp in
      let there : slice_get (entries m a) bt.entry ≡ Some (Here s) = ap (λ n. slice_get (entries m n) bt.entry) (sym e) ∙ bt.here in
      let i = same_entry m (entries m a) at.entry bt.entry r s stamp at.here there mine own (omega (arith, parts, o)) in
      let same : Some (Here r) ≡ Some (Here s) = sym at.here ∙ ap (slice_get (entries m a)) i ∙ there in
      cc

  -- where no stamp is in two runs of a tree, runs with one stamp are one, in one leaf
  pub one_leaf : (a ≡ b) × (r ≡ s)
  one_leaf = (sym same_leaf, one same_leaf)

-- runs are entries of leaves alone
pub here_low : (m : Memory) (root : ℕ) → IsTree m root → (id i : ℕ) (run : Run) → id < length m.heads → slice_get (entries m id) i ≡ Some (Here run) → level_of m id ≡ 0
here_low m root t id i run is here = low (level_of m id) (entries m id) i (t.shape.fits id is) here
  where
    low : (k : ℕ) (es : List Entry) (i : ℕ) → AllByRecursion (Fits m id k) es → slice_get es i ≡ Some (Here run) → k ≡ 0
    low zero es i fits here = refl
    low (suc k) [] i fits here = cc
    low (suc k) (e ∷ es) zero fits here = let h : e ≡ Here run = cc in absurd (subst (Fits m id (suc k)) h fits.0)
    low (suc k) (e ∷ es) (suc i) fits here = low (suc k) es i fits.1 here

-- WHAT THE MAP HAS ONCE A RUN WAS TOLD

-- two runs share no stamp
abbrev pub ShareNone : Run → Run → Type 0
ShareNone r s = (stamp : Stamp) → has_cell r stamp ≡ true → has_cell s stamp ≡ true → ⊥

pub in_span : (r : Run) (span : Span) (stamp : Stamp) → IsSpanOf r span → is_in_span span stamp ≡ has_cell r stamp
in_span r span stamp is = let a = is.site in let b = is.first in let c = is.last in let d = is.some in grind (arith, nat_tests)

-- the last stamp of a run
abbrev last_stamp : Run → Stamp
last_stamp r = record { count = r.first + r.len - 1; site = r.site }

has_last : (r : Run) → HasCells r → has_cell r (last_stamp r) ≡ true
has_last r some = grind (arith, nat_tests)

module _ (old new : SpanMapValue NodeId) (r : Run) (leaf : NodeId) (told : IsEntered old new r leaf) where
  -- the run that was told has the leaf
  pub own_leaf : HasLeaf new leaf.index r
  own_leaf stamp there = told.values stamp ∙ rw (in_span r told.span stamp told.is ∙ there) refl

  -- and spans begin and end where it does
  pub own_borders : IsBordered new r
  own_borders = record {
    begins = subst (λ n. IsValueBorder new n r.first) told.is.site (subst (λ n. IsValueBorder new told.span.site n) told.is.first told.begins);
    ends = subst (λ n. IsValueBorder new n (r.first + r.len)) told.is.site (subst (λ n. IsValueBorder new told.span.site n) told.is.last told.ends);
    bound = let l = told.is.last in let b = told.is.bound in omega (arith, l, b);
  }

  -- a stamp that it hasn't has the leaf that it had
  pub value_kept : (stamp : Stamp) → has_cell r stamp ≡ false → value_of new stamp ≡ value_of old stamp
  value_kept stamp out = told.values stamp ∙ rw (in_span r told.span stamp told.is ∙ out) refl

  module _ (s : Run) (none : ShareNone r s) where
    -- so have those of a run that shares no stamp with it
    pub leaf_kept : (b : ℕ) → HasLeaf old b s → HasLeaf new b s
    leaf_kept b was stamp there = value_kept stamp (split (has_cell r stamp) (λ t. absurd (none stamp t there)) (λ f. f)) ∙ was stamp there

    -- a count doesn't stand within the span, if a stamp of the other run would be in it then
    clear : (count : ℕ) → (stamp : Stamp) → has_cell s stamp ≡ true → s.site ≡ told.span.site
        → (told.span.first < count → count ≤ told.span.last → is_in_span told.span stamp ≡ true) → (count ≤ told.span.first) ⊎ (told.span.last < count)
    clear count stamp there site within =
        elim (or_below count) [
          | inl low ↦ inl low
          | inr later ↦ elim (or_above count) [
            | inl high ↦ inr high
            | inr sooner ↦ absurd (none stamp (sym (in_span r told.span stamp told.is) ∙ within later sooner) there)
          ]
        ]
      where
        or_below : (count : ℕ) → (count ≤ told.span.first) ⊎ (told.span.first < count)
        or_below count = split (nat_le count told.span.first) (λ t. inl (grind (arith, nat_tests))) (λ f. inr (grind (arith, nat_tests)))

        or_above : (count : ℕ) → (told.span.last < count) ⊎ (count ≤ told.span.last)
        or_above count = split (nat_lt told.span.last count) (λ t. inl (grind (arith, nat_tests))) (λ f. inr (grind (arith, nat_tests)))

    -- spans still begin and end where such a run does: were its border within the span, its first stamp or its last one would be in it
    pub borders_kept : HasCells s → IsBordered old s → IsBordered new s
    borders_kept some was =
        let bound = was.bound in
        record {
          begins = told.kept s.site s.first (omega (arith, bound)) was.begins (λ site. clear s.first (first_stamp s) (first_has s some) site (λ later sooner. grind (arith, nat_tests)));
          ends = told.kept s.site (s.first + s.len) bound was.ends (λ site. clear (s.first + s.len) (last_stamp s) (has_last s some) site (λ later sooner. grind (arith, nat_tests)));
          bound = bound;
        }

-- a run shares no stamp with those that it is new to
pub new_share_none : (r : Run) (rs : List Run) → IsNew r rs → AllByRecursion (ShareNone r) rs
new_share_none r [] fresh = tt
new_share_none r (s ∷ rs) fresh = (
  (λ stamp mine own. let c = holders-cons stamp s rs in let n = fresh stamp mine in let b = is_bit (has_cell s stamp) own in omega (arith, c, n, b)),
  new_share_none r rs (λ stamp mine. let c = holders-cons stamp s rs in let n = fresh stamp mine in omega (arith, c, n)),
)

-- so of many runs that share no stamp with one that was told
pub each_bordered : (old new : SpanMapValue NodeId) (r : Run) (leaf : NodeId) → IsEntered old new r leaf
    → (rs : List Run) → AllByRecursion (ShareNone r) rs → AllByRecursion HasCells rs → AllByRecursion (IsBordered old) rs → AllByRecursion (IsBordered new) rs
each_bordered old new r leaf told [] none some was = tt
each_bordered old new r leaf told (s ∷ rs) none some was = (borders_kept old new r leaf told s none.0 some.0 was.0, each_bordered old new r leaf told rs none.1 some.1 was.1)

-- where no stamp is in two runs, a run is new to all others
pub new_to_others : (all : List Run) (r : Run) → AreOnceEach all → (among : IsAmong all r) → IsNew r among.left × IsNew r among.right
new_to_others all r once among = ((λ stamp mine. (none stamp mine).0), (λ stamp mine. (none stamp mine).1))
  where
    none : (stamp : Stamp) → has_cell r stamp ≡ true → (holders stamp among.left ≡ 0) × (holders stamp among.right ≡ 0)
    none stamp mine =
        let m = ap (holders stamp) among.here ∙ holders-mid stamp among.left r among.right in
        let o = once stamp in
        let b = is_bit (has_cell r stamp) mine in
        (omega (arith, m, o, b), omega (arith, m, o, b))

-- spans still begin and end where each run does, once one of them was told
pub all_bordered : (old new : SpanMapValue NodeId) (r : Run) (leaf : NodeId) → IsEntered old new r leaf
    → (all : List Run) → IsAmong all r → AreOnceEach all → AllByRecursion HasCells all → AllByRecursion (IsBordered old) all → AllByRecursion (IsBordered new) all
all_bordered old new r leaf told all among once some was =
    let P = IsBordered old in let Q = IsBordered new in
    let l = among.left in let rest = among.right in
    let p = subst (AllByRecursion P) among.here was in
    let q = subst (AllByRecursion HasCells) among.here some in
    let fresh = new_to_others all r once among in
    let front = each_bordered old new r leaf told l (new_share_none r l fresh.0) (each-front HasCells l (r ∷ rest) q) (each-front P l (r ∷ rest) p) in
    let back = each_bordered old new r leaf told rest (new_share_none r rest fresh.1) (each-back HasCells l (r ∷ rest) q).1 (each-back P l (r ∷ rest) p).1 in
    subst (AllByRecursion Q) (sym among.here) (each-append Q l (r ∷ rest) front (own_borders old new r leaf told, back))

-- a run that stands in a leaf is among the runs of the tree
pub stands_among : (m : Memory) (root : ℕ) → IsTree m root → (leaf : ℕ) (run : Run) → Stands m leaf run → IsAmong (tree_runs m root) run
stands_among m root t leaf run at =
    let b = parted m root t leaf at.entry run (counts_of (runs_before m root leaf at.entry)) at.is at.low at.here refl in
    record { left = b.left; right = b.right; here = b.here }

-- once a run was told of the leaf in which it stands, each run has the leaf that it had
pub stands_kept : (m : Memory) (root : ℕ) → IsTree m root → AreOnceEach (tree_runs m root) → (old new : SpanMapValue NodeId) (r : Run) (leaf : NodeId)
    → Stands m leaf.index r → IsEntered old new r leaf → (b : ℕ) (s : Run) → Stands m b s → HasLeaf old b s → HasLeaf new b s
stands_kept m root t once old new r leaf at told b s bt was stamp own = split (has_cell r stamp)
    (λ mine. let o = one_leaf m root t once leaf.index b r s at bt stamp mine own in own_leaf old new r leaf told stamp mine ∙ ap (λ n. Some (record { index = n })) o.0)
    (λ out. value_kept old new r leaf told stamp out ∙ was stamp own)

-- TELLING THE RUNS OF A NODE

-- the runs of leaves before a node have their leaves, and so have those that are a node's first entries
pub record AreToldTo (m : Memory) (root node i : ℕ) (leaves : SpanMapValue NodeId) : Type 0 where
  pub bordered : AllByRecursion (IsBordered leaves) (tree_runs m root)
  pub below : HaveLeavesBelow node m leaves
  pub here : (run : Run) (at : Stands m node run) → at.entry < i → HasLeaf leaves node run

-- once they have all, so have the runs of leaves up to the node
pub all_told : (m : Memory) (root node i : ℕ) (leaves : SpanMapValue NodeId) → length (entries m node) ≤ i → AreToldTo m root node i leaves → HaveLeavesBelow (node + 1) m leaves
all_told m root node i leaves end told leaf run at lt = elim (cases_eq leaf node) [
  | inl e ↦ subst (λ n. HasLeaf leaves n run) (sym e) (told.here run (subst (λ n. Stands m n run) e at) (omega (arith, end, within (entries m node) at.entry run (ap (λ n. slice_get (entries m n) at.entry) (sym e) ∙ at.here))))
  | inr ne ↦ told.below leaf run at (omega (arith, lt, ne))
]
  where
    within : (es : List Entry) (i : ℕ) (run : Run) → slice_get es i ≡ Some (Here run) → i < length es
    within [] i run here = cc
    within (e ∷ es) zero run here = omega arith
    within (e ∷ es) (suc i) run here = let h = within es i run here in omega (arith, h)

same_run : (m : Memory) (node i : ℕ) (e : Entry) (run : Run) (at : Stands m node run) → slice_get (entries m node) i ≡ Some e → at.entry ≡ i → e ≡ Here run
same_run m node i e run at here same = let h : Some e ≡ Some (Here run) = sym here ∙ ap (slice_get (entries m node)) (sym same) ∙ at.here in cc

-- the next entry's run is told
pub told_here : (m : Memory) (root : ℕ) → IsTree m root → AreOnceEach (tree_runs m root) → AllByRecursion HasCells (tree_runs m root)
    → (old new : SpanMapValue NodeId) (leaf : NodeId) (i : ℕ) (r : Run) → leaf.index < length m.heads → slice_get (entries m leaf.index) i ≡ Some (Here r)
    → (0 < r.len → IsBordered old r → IsEntered old new r leaf) → AreToldTo m root leaf.index i old → AreToldTo m root leaf.index (i + 1) new
told_here m root t once some old new leaf i r is here hint was =
    let node = leaf.index in
    let at : Stands m node r = record { is = is; low = here_low m root t node i r is here; entry = i; here = here } in
    let told = hint (stands_in m root t HasCells some node r at) (stands_in m root t (IsBordered old) was.bordered node r at) in
    record {
      bordered = all_bordered old new r leaf told (tree_runs m root) (stands_among m root t node r at) once some was.bordered;
      below = λ b s bt lt. stands_kept m root t once old new r leaf at told b s bt (was.below b s bt lt);
      here = λ s st lt. elim (cases_eq st.entry i) [
        | inl e ↦ let h = same_run m node i (Here r) s st here e in let same : r ≡ s = cc in subst (HasLeaf new node) same (own_leaf old new r leaf told)
        | inr ne ↦ stands_kept m root t once old new r leaf at told node s st (was.here s st (omega (arith, lt, ne)))
      ];
    }

-- the next entry is no run
pub told_down : (m : Memory) (root node i : ℕ) (leaves : SpanMapValue NodeId) (c : NodeId) (ts : Totals) → slice_get (entries m node) i ≡ Some (Down c ts)
    → AreToldTo m root node i leaves → AreToldTo m root node (i + 1) leaves
told_down m root node i leaves c ts here was = record {
  bordered = was.bordered;
  below = was.below;
  here = λ s st lt. elim (cases_eq st.entry i) [
    | inl e ↦ absurd (let h = same_run m node i (Down c ts) s st here e in cc)
    | inr ne ↦ was.here s st (omega (arith, lt, ne))
  ];
}
