-- A node cut in two.
use Rattle.std.proofs.Common.{◌≡◌, ℕ, zero, suc, ◌+◌, ◌<◌, ◌≤◌, ◌⊎◌, inl, inr, List, [], ◌∷◌, ◌++◌, length, refl, sym, ap, ◌∙◌, arith, subst, append-nil}
use Rattle.std.proofs.lemmas.Bool.{cases_eq}
use Rattle.std.proofs.lemmas.List.Concat.{flat_map-append}
use Rattle.std.proofs.lemmas.List.{append_assoc}
use Rattle.rt_nodes.specs.Nodes.{entries}
use Rattle.rt_tree.specs.declared.node.Run.{Run}
use Rattle.rt_tree.specs.declared.node.Entry.TheVariants.{Down, Here}
use Rattle.rt_tree.specs.declared.node.Totals.{Totals}
use Rattle.rt_tree.specs.Shape.{IsKnown, below, runs, ahead, left_of, right_of, level_of, parent_of, Memory, Fits, child_count, IsShape, all_below}
use Rattle.rt_tree.specs.Changes.{IsSplit, above, kid, blank}
use Rattle.rt_tree.proofs.Around.{test_same, test_other, count-append, below_top, node}
use Rattle.rt_tree.proofs.Exact.{each-all, each-both}
use Rattle.rt_tree.proofs.Frame.{each-front, each-back, each-append, each-zero, apart, flat-same, no, other_child}
use Rattle.rt_tree.proofs.Raise.{first-rest, not_counted}
use Rattle.std.specs.List.{AllByRecursion}
use Rattle.rt_tree.specs.declared.node.Entry.{Entry}

pub cases_zero : (x : ℕ) → (x ≡ 0) ⊎ (0 < x)
cases_zero zero = inl refl
cases_zero (suc x) = inr (omega arith)

pub counted_self : (id : ℕ) → child_count id (kid id ∷ []) ≡ 1
counted_self id = let e = test_same {X = ℕ} id id 1 0 refl in omega arith

-- what is counted among links that fit is a child
pub child-of : (s : Memory) (id k : ℕ) (ls : List Entry) → AllByRecursion (Fits s id k) ls → (c : ℕ) → 0 < child_count c ls → (c < length s.heads) × (suc (level_of s c) ≡ k) × (parent_of s c ≡ id)
child-of s id k [] all c some = absurd (omega arith)
child-of s id zero (Here r ∷ ls) all c some = child-of s id zero ls all.1 c some
child-of s id zero (Down d ts ∷ ls) all c some = absurd all.0
child-of s id (suc k) (Here r ∷ ls) all c some = absurd all.0
child-of s id (suc k) (Down d ts ∷ ls) all c some = elim (cases_eq d.index c) [
  | inl e ↦ let P : ℕ → Type 0 = λ n. (n < length s.heads) × (suc (level_of s n) ≡ suc k) × (parent_of s n ≡ id) in subst P e (all.0.is, ap suc all.0.level, all.0.parent)
  | inr ne ↦ let t = test_other {X = ℕ} d.index c 1 0 ne in child-of s id (suc k) ls all.1 c (omega arith)
]

abbrev pub Counted : List Entry → Entry → Type 0
Counted ls (Here r) = Unit {0}
Counted ls (Down c ts) = 0 < child_count c.index ls

counted-more : (x : Entry) (ls : List Entry) (l : Entry) → Counted ls l → Counted (x ∷ ls) l
counted-more x ls (Here r) h = tt
counted-more x ls (Down c ts) h = let e = first-rest c.index x ls in omega arith

counted-first : (x : Entry) (ls : List Entry) → Counted (x ∷ ls) x
counted-first (Here r) ls = tt
counted-first (Down c ts) ls = let e = counted_self c.index in let h = first-rest c.index (Down c ts) ls in omega arith

pub each-counted : (ls : List Entry) → AllByRecursion (Counted ls) ls
each-counted [] = tt
each-counted (x ∷ ls) = (counted-first x ls, each-all (Counted ls) (Counted (x ∷ ls)) (λ l h. counted-more x ls l h) ls (each-counted ls))

module _ (s s' : Memory) (height root : ℕ) (t : IsShape s height root) (n q p : ℕ) (front back left right : List Entry) (nis : n < length s.heads) (nroot : n ≡ root → ⊥) (up : p ≡ parent_of s n) (sp : IsSplit s s' n q p front back left right) where
  abbrev Stays : Entry → Type 0
  Stays (Here r) = Unit {0}
  Stays (Down c ts) = child_count c.index back ≡ 0

  kn : IsKnown s n
  kn = t.known n nis nroot

  pub pis : p < length s.heads
  pis = subst (λ x. x < length s.heads) (sym up) kn.is

  pub plevel : level_of s p ≡ suc (level_of s n)
  plevel = ap (level_of s) up ∙ kn.up

  pub ponce : child_count n (entries s p) ≡ 1
  ponce = ap (λ x. child_count n (entries s x)) up ∙ kn.once

  pub p_not_n : p ≡ n → ⊥
  p_not_n e = let h = ap (level_of s) e in let l = plevel in omega arith

  fits-halves : AllByRecursion (Fits s n (level_of s n)) (front ++ back)
  fits-halves = subst (AllByRecursion (Fits s n (level_of s n))) sp.halves (t.fits n nis)

  fits-front : AllByRecursion (Fits s n (level_of s n)) front
  fits-front = each-front (Fits s n (level_of s n)) front back fits-halves

  fits-back : AllByRecursion (Fits s n (level_of s n)) back
  fits-back = each-back (Fits s n (level_of s n)) front back fits-halves

  -- a child of the node is counted once in its halves
  half-once : (c : ℕ) → c < length s.heads → suc (level_of s c) ≡ level_of s n → parent_of s c ≡ n → child_count c front + child_count c back ≡ 1
  half-once c cis lvl par =
      let low = t.low n nis in
      let k = t.known c cis (below_top s height root t c cis (omega arith)) in
      let o = ap (λ x. child_count c (entries s x)) (sym par) ∙ k.once in
      sym (count-append c front back) ∙ ap (child_count c) (sym sp.halves) ∙ o

  fit-stay : (id k : ℕ) (l : Entry) → Fits s id k l → Stays l → Fits s' id k l
  fit-stay id zero (Here r) f st = tt
  fit-stay id zero (Down c ts) f st = f
  fit-stay id (suc k) (Here r) f st = f
  fit-stay id (suc k) (Down c ts) f st = let lt : c.index < q = omega (arith, f.is, sp.new) in record { is = omega (arith, lt, sp.longer); level = sp.levels c.index lt ∙ f.level; parent = sp.stay c.index lt st ∙ f.parent }

  fit-move : (k : ℕ) (l : Entry) → Fits s n k l → Counted back l → Fits s' q k l
  fit-move zero (Here r) f m = tt
  fit-move zero (Down c ts) f m = f
  fit-move (suc k) (Here r) f m = f
  fit-move (suc k) (Down c ts) f m = let lt : c.index < q = omega (arith, f.is, sp.new) in record { is = omega (arith, lt, sp.longer); level = sp.levels c.index lt ∙ f.level; parent = sp.moved c.index lt m }

  stays-other : (id k : ℕ) → (id ≡ n → ⊥) → (l : Entry) → Fits s id k l → Stays l
  stays-other id zero ne (Here r) f = tt
  stays-other id zero ne (Down c ts) f = absurd f
  stays-other id (suc k) ne (Here r) f = tt
  stays-other id (suc k) ne (Down c ts) f = elim (cases_zero (child_count c.index back)) [
    | inl z ↦ z
    | inr some ↦ let b = child-of s n (level_of s n) back fits-back c.index some in absurd (ne (sym f.parent ∙ b.2))
  ]

  stays-front : (k : ℕ) → k ≡ level_of s n → (l : Entry) → Fits s n k l → Counted front l → Stays l
  stays-front zero at (Here r) f m = tt
  stays-front zero at (Down c ts) f m = absurd f
  stays-front (suc k) at (Here r) f m = tt
  stays-front (suc k) at (Down c ts) f m = let o = half-once c.index f.is (ap suc f.level ∙ at) f.parent in omega arith

  front-links : AllByRecursion (Fits s' n (level_of s n)) front
  front-links = each-both (Fits s n (level_of s n)) (Counted front) (Fits s' n (level_of s n)) (λ l f m. fit-stay n (level_of s n) l f (stays-front (level_of s n) refl l f m)) front fits-front (each-counted front)

  back-links : AllByRecursion (Fits s' q (level_of s n)) back
  back-links = each-both (Fits s n (level_of s n)) (Counted back) (Fits s' q (level_of s n)) (λ l f m. fit-move (level_of s n) l f m) back fits-back (each-counted back)

  other-links : (id : ℕ) → (id ≡ n → ⊥) → (ls : List Entry) → AllByRecursion (Fits s id (level_of s id)) ls → AllByRecursion (Fits s' id (level_of s id)) ls
  other-links id ne ls all = each-all (Fits s id (level_of s id)) (Fits s' id (level_of s id)) (λ l f. fit-stay id (level_of s id) l f (stays-other id (level_of s id) ne l f)) ls all

  new-link : Fits s' p (suc (level_of s n)) (kid q)
  new-link = record { is = omega (arith, sp.longer); level = sp.level; parent = sp.parent }

  parent-links : AllByRecursion (Fits s' p (level_of s p)) (left ++ kid n ∷ kid q ∷ right)
  parent-links =
      let old = other-links p p_not_n (left ++ kid n ∷ right) (subst (AllByRecursion (Fits s p (level_of s p))) sp.was (t.fits p pis)) in
      let P : Entry → Type 0 = Fits s' p (level_of s p) in
      let rest = each-back P left (kid n ∷ right) old in
      let Q : ℕ → Type 0 = λ k. Fits s' p k (kid q) in
      each-append P left (kid n ∷ kid q ∷ right) (each-front P left (kid n ∷ right) old) (rest.0, (subst Q (sym plevel) new-link, rest.1))

  abbrev Fit : ℕ → Type 0
  Fit id = AllByRecursion (Fits s' id (level_of s' id)) (entries s' id)

  fit-all : (id : ℕ) → id < length s'.heads → Fit id
  fit-all id is = elim (cases_eq id q) [
    | inl e ↦ subst Fit (sym e) (subst (λ k. AllByRecursion (Fits s' q k) (entries s' q)) (sym sp.level) (subst (AllByRecursion (Fits s' q (level_of s n))) (sym sp.at_q) back-links))
    | inr nq ↦
        let lt : id < q = omega (arith, sp.longer) in
        subst (λ k. AllByRecursion (Fits s' id k) (entries s' id)) (sym (sp.levels id lt)) (elim (cases_eq id n) [
          | inl e ↦ subst (λ x. AllByRecursion (Fits s' x (level_of s x)) (entries s' x)) (sym e) (subst (AllByRecursion (Fits s' n (level_of s n))) (sym sp.at_n) front-links)
          | inr nn ↦ elim (cases_eq id p) [
            | inl e ↦ subst (λ x. AllByRecursion (Fits s' x (level_of s x)) (entries s' x)) (sym e) (subst (AllByRecursion (Fits s' p (level_of s p))) (sym sp.is) parent-links)
            | inr np ↦ subst (AllByRecursion (Fits s' id (level_of s id))) (sym (sp.others id lt nn np)) (other-links id nn (entries s id) (t.fits id (omega (arith, sp.new))))
          ]
        ])
  ]

  -- the new node stands nowhere yet
  unlisted : (id k : ℕ) (ls : List Entry) → AllByRecursion (Fits s id k) ls → child_count q ls ≡ 0
  unlisted id k ls all = elim (cases_zero (child_count q ls)) [ inl z ↦ z | inr some ↦ let c = child-of s id k ls all q some in absurd (omega (arith, c.0, sp.new)) ]

  known-by : (id up' : ℕ) → parent_of s' id ≡ up' → up' < length s'.heads → level_of s' up' ≡ suc (level_of s' id) → child_count id (entries s' up') ≡ 1 → IsKnown s' id
  known-by id up' e is lvl once = record {
    is = subst (λ x. x < length s'.heads) (sym e) is;
    up = ap (level_of s') e ∙ lvl;
    once = ap (λ x. child_count id (entries s' x)) e ∙ once;
  }

  -- how often a node stands in the parent now
  count-parent : (id : ℕ) → child_count id (entries s' p) ≡ child_count id (entries s p) + child_count id (kid q ∷ [])
  count-parent id =
      let a = ap (child_count id) sp.is ∙ count-append id left (kid n ∷ kid q ∷ right) in
      let b = ap (child_count id) sp.was ∙ count-append id left (kid n ∷ right) in
      omega arith

  known-new : IsKnown s' q
  known-new =
      let none = unlisted p (level_of s p) (entries s p) (t.fits p pis) in
      let one = counted_self q in
      let c = count-parent q in
      let l = sp.levels p (omega (arith, pis, sp.new)) in
      let m = sp.level in let pl = plevel in
      known-by q p sp.parent (omega (arith, pis, sp.new, sp.longer)) (omega arith) (omega arith)

  known-moved : (id : ℕ) → id < q → 0 < child_count id back → IsKnown s' id
  known-moved id lt some =
      let c = child-of s n (level_of s n) back fits-back id some in
      let o = half-once id c.0 c.1 c.2 in
      let l = sp.levels id lt in let m = sp.level in
      let b = ap (child_count id) sp.at_q in
      known-by id q (sp.moved id lt some) (omega (arith, sp.longer)) (omega (arith, c.1)) (omega arith)

  known-stay : (id : ℕ) → id < q → (id ≡ root → ⊥) → child_count id back ≡ 0 → IsKnown s' id
  known-stay id lt nr z =
      let k = t.known id (omega (arith, sp.new)) nr in
      let u = parent_of s id in
      let ul = sp.levels u (omega (arith, k.is, sp.new)) in
      let l = sp.levels id lt in let ku = k.up in let ko = k.once in
      known-by id u (sp.stay id lt z) (omega (arith, k.is, sp.new, sp.longer)) (omega arith) (elim (cases_eq u n) [
        | inl e ↦
            let a = ap (λ x. child_count id (entries s' x)) e ∙ ap (child_count id) sp.at_n in
            let b = ap (λ x. child_count id (entries s x)) e ∙ ap (child_count id) sp.halves ∙ count-append id front back in
            omega (arith, a, b)
        | inr nn ↦ elim (cases_eq u p) [
          | inl e ↦
              let a = ap (λ x. child_count id (entries s' x)) e ∙ count-parent id in
              let b = ap (λ x. child_count id (entries s x)) e in
              let c = not_counted id (node q) (λ w. no (omega (arith, w))) in
              omega (arith, a, b, c)
          | inr np ↦ ap (child_count id) (sp.others u (omega (arith, k.is, sp.new)) nn np) ∙ ko
        ]
      ])

  known-all : (id : ℕ) → id < length s'.heads → (id ≡ root → ⊥) → IsKnown s' id
  known-all id is nr = elim (cases_eq id q) [
    | inl e ↦ subst (IsKnown s') (sym e) known-new
    | inr nq ↦ elim (cases_zero (child_count id back)) [ inl z ↦ known-stay id (omega (arith, sp.longer)) nr z | inr some ↦ known-moved id (omega (arith, sp.longer)) some ]
  ]

  low-all : (id : ℕ) → id < length s'.heads → level_of s' id ≤ height
  low-all id is = elim (cases_eq id q) [
    | inl e ↦ let a = ap (level_of s') e in let b = sp.level in let c = t.low n nis in omega arith
    | inr nq ↦ let a = sp.levels id (omega (arith, sp.longer)) in let b = t.low id (omega (arith, sp.longer, sp.new)) in omega arith
  ]

  -- still a tree
  pub split_tree : IsShape s' height root
  split_tree = record {
    same = sp.same;
    root_is = omega (arith, t.root_is, sp.longer, sp.new);
    top = sp.levels root (omega (arith, t.root_is, sp.new)) ∙ t.top;
    low = low-all;
    fits = fit-all;
    known = known-all;
  }

  abbrev SameLinks : ℕ → Type 0
  SameLinks j = (id : ℕ) (l : Entry) → Fits s id j l → child_count n (l ∷ []) ≡ 0 → below s' j l ≡ below s j l

  abbrev SameNodes : ℕ → Type 0
  SameNodes j = (c : ℕ) → c < q → level_of s c ≡ j → (c ≡ n → ⊥) → runs s' j c ≡ runs s j c

  same-zero : SameLinks zero
  same-zero id (Here r) f z = refl
  same-zero id (Down c ts) f z = refl

  same-suc : (j : ℕ) → SameNodes j → SameLinks (suc j)
  same-suc j nodes id (Here r) f z = refl
  same-suc j nodes id (Down c ts) f z = nodes c.index (omega (arith, f.is, sp.new)) f.level (other_child n c z)

  pub not-in : (id j : ℕ) → (id ≡ p → ⊥) → (l : Entry) → Fits s id j l → child_count n (l ∷ []) ≡ 0
  not-in id zero np (Here r) f = refl
  not-in id zero np (Down c ts) f = absurd f
  not-in id (suc j) np (Here r) f = refl
  not-in id (suc j) np (Down c ts) f = not_counted n c (λ e. np (sym f.parent ∙ ap (parent_of s) e ∙ sym up))

  pub not-own : (j : ℕ) → j ≡ level_of s n → (l : Entry) → Fits s n j l → child_count n (l ∷ []) ≡ 0
  not-own zero at (Here r) f = refl
  not-own zero at (Down c ts) f = absurd f
  not-own (suc j) at (Here r) f = refl
  not-own (suc j) at (Down c ts) f = not_counted n c (λ e. no (omega (arith, ap (level_of s) e, f.level)))

  flat-links : (j id : ℕ) → SameLinks j → (ls : List Entry) → AllByRecursion (Fits s id j) ls → AllByRecursion (λ l. child_count n (l ∷ []) ≡ 0) ls → all_below s' j ls ≡ all_below s j ls
  flat-links j id same ls f z = flat-same (below s' j) (below s j) ls (each-both (Fits s id j) (λ l. child_count n (l ∷ []) ≡ 0) (λ l. below s' j l ≡ below s j l) (λ l a b. same id l a b) ls f z)

  -- the two halves have the runs of the whole
  halves-runs : (j : ℕ) → level_of s n ≡ j → SameLinks j → runs s' j n ++ runs s' j q ≡ runs s j n
  halves-runs j at same =
      let fits : AllByRecursion (Fits s n j) (front ++ back) = subst (λ k. AllByRecursion (Fits s n k) (front ++ back)) at fits-halves in
      ap (λ ls. all_below s' j ls ++ runs s' j q) sp.at_n
      ∙ ap (λ ls. all_below s' j front ++ all_below s' j ls) sp.at_q
      ∙ sym (flat_map-append (below s' j) front back)
      ∙ flat-links j n same (front ++ back) fits (each-all (Fits s n j) (λ l. child_count n (l ∷ []) ≡ 0) (λ l f. not-own j (sym at) l f) (front ++ back) fits)
      ∙ ap (all_below s j) (sym sp.halves)

  other-runs : (j c : ℕ) → SameLinks j → c < q → level_of s c ≡ j → (c ≡ n → ⊥) → (c ≡ p → ⊥) → runs s' j c ≡ runs s j c
  other-runs j c same lt at nn np =
      let fits : AllByRecursion (Fits s c j) (entries s c) = subst (λ k. AllByRecursion (Fits s c k) (entries s c)) at (t.fits c (omega (arith, sp.new))) in
      ap (all_below s' j) (sp.others c lt nn np)
      ∙ flat-links j c same (entries s c) fits (each-all (Fits s c j) (λ l. child_count n (l ∷ []) ≡ 0) (λ l f. not-in c j np l f) (entries s c) fits)

  regroup : (a m r b : List Run) → a ++ (m ++ (r ++ b)) ≡ a ++ ((m ++ r) ++ b)
  regroup a m r b = simp append_assoc

  parent-runs : (j : ℕ) → level_of s n ≡ j → SameLinks (suc j) → SameLinks j → runs s' (suc j) p ≡ runs s (suc j) p
  parent-runs j at same low =
      let fits : AllByRecursion (Fits s p (suc j)) (left ++ kid n ∷ right) = subst (λ k. AllByRecursion (Fits s p k) (left ++ kid n ∷ right)) (plevel ∙ ap suc at) (subst (AllByRecursion (Fits s p (level_of s p))) sp.was (t.fits p pis)) in
      let F : Entry → Type 0 = Fits s p (suc j) in
      let counts = ap (child_count n) sp.was ∙ count-append n left (kid n ∷ right) in
      let one = counted_self n in let o = ponce in
      let l = flat-links (suc j) p same left (each-front F left (kid n ∷ right) fits) (each-zero n left (omega arith)) in
      let r = flat-links (suc j) p same right (each-back F left (kid n ∷ right) fits).1 (each-zero n right (omega arith)) in
      ap (all_below s' (suc j)) sp.is
      ∙ flat_map-append (below s' (suc j)) left (kid n ∷ kid q ∷ right)
      ∙ ap (λ a. a ++ (runs s' j n ++ (runs s' j q ++ all_below s' (suc j) right))) l
      ∙ ap (λ b. all_below s (suc j) left ++ (runs s' j n ++ (runs s' j q ++ b))) r
      ∙ regroup (all_below s (suc j) left) (runs s' j n) (runs s' j q) (all_below s (suc j) right)
      ∙ ap (λ m. all_below s (suc j) left ++ (m ++ all_below s (suc j) right)) (halves-runs j at low)
      ∙ sym (ap (all_below s (suc j)) sp.was ∙ flat_map-append (below s (suc j)) left (kid n ∷ right))

  both : (j : ℕ) → SameNodes j × SameLinks j
  both zero = ((λ c lt at nn. other-runs zero c same-zero lt at nn (λ e. let h = ap (level_of s) e in let l = plevel in no (omega arith))), same-zero)
  both (suc j) =
      let b = both j in
      let links = same-suc j b.0 in (
        (λ c lt at nn. elim (cases_eq c p) [
          | inl e ↦ let h = ap (level_of s) e in let l = plevel in subst (λ x. runs s' (suc j) x ≡ runs s (suc j) x) (sym e) (parent-runs j (omega arith) links b.1)
          | inr np ↦ other-runs (suc j) c links lt at nn np
        ]),
        links,
      )

  -- each other node has the runs that it had
  pub split_other : (c : ℕ) → c < q → (c ≡ n → ⊥) → runs s' (level_of s c) c ≡ runs s (level_of s c) c
  split_other c lt nn = (both (level_of s c)).0 c lt refl nn

  -- with the same runs
  pub split_runs : runs s' height root ≡ runs s height root
  split_runs = (both height).0 root (omega (arith, t.root_is, sp.new)) t.top (λ e. nroot (sym e))

  -- what stands before a node above the one that was cut stays
  pub split_ahead : (depth id : ℕ) → id < q → level_of s n < level_of s id → depth + level_of s id ≡ height → ahead s' depth id ≡ ahead s depth id
  split_ahead zero id lt high deep = refl
  split_ahead (suc depth) id lt high deep =
      let kn' = t.known id (omega (arith, sp.new)) (below_top s height root t id (omega (arith, sp.new)) (omega arith)) in
      let u = parent_of s id in
      let ult : u < q = omega (arith, kn'.is, sp.new) in
      let z : child_count id back ≡ 0 = elim (cases_zero (child_count id back)) [ inl z ↦ z | inr some ↦ absurd (let c = child-of s n (level_of s n) back fits-back id some in omega (arith, c.1)) ] in
      let same : parent_of s' id ≡ u = sp.stay id lt z in
      let un : u ≡ n → ⊥ = λ e. let h = ap (level_of s) e in no (omega (arith, kn'.up)) in
      let pl = plevel in
      let up' : u ≡ p → ⊥ = λ e. let h = ap (level_of s) e in no (omega (arith, kn'.up)) in
      let links = (both (level_of s u)).1 in
      let k = level_of s u in
      let left' = left_of id (entries s u) in
      let cut = apart id (entries s u) kn'.once in
      let fits : AllByRecursion (Fits s u k) (left' ++ Down (node id) cut.totals ∷ right_of id (entries s u)) = subst (AllByRecursion (Fits s u k)) cut.cut (t.fits u kn'.is) in
      let f = each-front (Fits s u k) left' (Down (node id) cut.totals ∷ right_of id (entries s u)) fits in
      ap (λ x. ahead s' depth x ++ all_below s' (level_of s' x) (left_of id (entries s' x))) same
      ∙ ap (λ j. ahead s' depth u ++ all_below s' j (left_of id (entries s' u))) (sp.levels u ult)
      ∙ ap (λ ls. ahead s' depth u ++ all_below s' k (left_of id ls)) (sp.others u ult un up')
      ∙ ap (λ l. ahead s' depth u ++ l) (flat-links k u links left' f (each-all (Fits s u k) (λ l. child_count n (l ∷ []) ≡ 0) (λ l w. not-in u k up' l w) left' f))
      ∙ ap (λ a. a ++ all_below s k left') (split_ahead depth u ult (omega (arith, kn'.up)) (omega (arith, kn'.up)))

  left-at : (id : ℕ) (z : Totals) (a b : List Entry) → child_count id a ≡ 0 → left_of id (a ++ Down (node id) z ∷ b) ≡ a
  left-at id z [] b none = test_same id id [] (Down (node id) z ∷ left_of id b) refl
  left-at id z (Here r ∷ a) b none = ap (λ l. Here r ∷ l) (left-at id z a b none)
  left-at id z (Down c ts ∷ a) b none = elim (cases_eq c.index id) [
    | inl e ↦ let o = test_same {X = ℕ} c.index id 1 0 e in absurd (omega arith)
    | inr ne ↦ test_other c.index id [] (Down c ts ∷ left_of id (a ++ Down (node id) z ∷ b)) ne ∙ ap (λ l. Down c ts ∷ l) (left-at id z a b (let o = test_other {X = ℕ} c.index id 1 0 ne in omega arith))
  ]

  -- and what stands before the node itself
  pub split_ahead_first : (depth : ℕ) → suc depth + level_of s n ≡ height → child_count n back ≡ 0 → ahead s' (suc depth) n ≡ ahead s (suc depth) n
  split_ahead_first depth deep z =
      let same : parent_of s' n ≡ p = sp.stay n (omega (arith, nis, sp.new)) z ∙ sym up in
      let plt : p < q = omega (arith, pis, sp.new) in
      let pl = plevel in let o = ponce in
      let counts = ap (child_count n) sp.was ∙ count-append n left (kid n ∷ right) in
      let one = counted_self n in
      let none : child_count n left ≡ 0 = omega arith in
      let k = level_of s p in
      let fits : AllByRecursion (Fits s p k) (left ++ kid n ∷ right) = subst (AllByRecursion (Fits s p k)) sp.was (t.fits p pis) in
      let f = each-front (Fits s p k) left (kid n ∷ right) fits in
      let links = (both k).1 in
      ap (λ x. ahead s' depth x ++ all_below s' (level_of s' x) (left_of n (entries s' x))) same
      ∙ ap (λ j. ahead s' depth p ++ all_below s' j (left_of n (entries s' p))) (sp.levels p plt)
      ∙ ap (λ ls. ahead s' depth p ++ all_below s' k (left_of n ls)) sp.is
      ∙ ap (λ ls. ahead s' depth p ++ all_below s' k ls) (left-at n blank left (kid q ∷ right) none)
      ∙ ap (λ l. ahead s' depth p ++ l) (flat-links k p links left f (each-zero n left none))
      ∙ ap (λ a. a ++ all_below s k left) (split_ahead depth p plt (omega arith) (omega arith))
      ∙ sym (ap (λ x. ahead s depth x ++ all_below s (level_of s x) (left_of n (entries s x))) (sym up)
      ∙ ap (λ ls. ahead s depth p ++ all_below s k (left_of n ls)) sp.was
      ∙ ap (λ ls. ahead s depth p ++ all_below s k ls) (left-at n blank left right none))

  not-back : child_count n back ≡ 0
  not-back = elim (cases_zero (child_count n back)) [ inl z ↦ z | inr some ↦ absurd (let c = child-of s n (level_of s n) back fits-back n some in omega (arith, c.1)) ]

  ahead-in : (x : Memory) (z : Totals) (depth id u k : ℕ) (a b : List Entry) → parent_of x id ≡ u → level_of x u ≡ k → entries x u ≡ a ++ Down (node id) z ∷ b → child_count id a ≡ 0 → ahead x (suc depth) id ≡ ahead x depth u ++ all_below x k a
  ahead-in x z depth id u k a b par lvl es none =
      ap (λ y. ahead x depth y ++ all_below x (level_of x y) (left_of id (entries x y))) par
      ∙ ap (λ j. ahead x depth u ++ all_below x j (left_of id (entries x u))) lvl
      ∙ ap (λ ls. ahead x depth u ++ all_below x k (left_of id ls)) es
      ∙ ap (λ ls. ahead x depth u ++ all_below x k ls) (left-at id z a b none)

  -- what stands before the node
  pub split_first : (depth : ℕ) → depth + level_of s n ≡ height → ahead s' depth n ≡ ahead s depth n
  split_first zero deep = refl
  split_first (suc depth) deep = split_ahead_first depth deep not-back

  q-alone : child_count q (left ++ kid n ∷ []) ≡ 0
  q-alone =
      let none = unlisted p (level_of s p) (entries s p) (t.fits p pis) in
      let was = ap (child_count q) sp.was ∙ count-append q left (kid n ∷ right) in
      let first = first-rest q (kid n) right in
      count-append q left (kid n ∷ []) ∙ (omega arith)

  mid_list : (a : List Entry) (x y : Entry) (b : List Entry) → a ++ x ∷ y ∷ b ≡ (a ++ x ∷ []) ++ y ∷ b
  mid_list a x y b = sym (append_assoc a (x ∷ []) (y ∷ b))

  add_last : (a b c : List Run) → a ++ (b ++ (c ++ [])) ≡ (a ++ b) ++ c
  add_last a b c = simp (append_assoc, append-nil)

  -- and before the new one
  pub split_second : (depth : ℕ) → ahead s' (suc depth) q ≡ ahead s' (suc depth) n ++ runs s' (level_of s n) n
  split_second depth =
      let o = ponce in
      let counts = ap (child_count n) sp.was ∙ count-append n left (kid n ∷ right) in
      let one = counted_self n in
      let first = first-rest n (kid n) right in
      let none : child_count n left ≡ 0 = omega arith in
      let lvl : level_of s' p ≡ suc (level_of s n) = sp.levels p (omega (arith, pis, sp.new)) ∙ plevel in
      let par : parent_of s' n ≡ p = sp.stay n (omega (arith, nis, sp.new)) not-back ∙ sym up in
      let k = suc (level_of s n) in
      ahead-in s' blank depth q p k (left ++ kid n ∷ []) right sp.parent lvl (sp.is ∙ mid_list left (kid n) (kid q) right) q-alone
      ∙ ap (λ l. ahead s' depth p ++ l) (flat_map-append (below s' k) left (kid n ∷ []))
      ∙ add_last (ahead s' depth p) (all_below s' k left) (runs s' (level_of s n) n)
      ∙ ap (λ l. l ++ runs s' (level_of s n) n) (sym (ahead-in s' blank depth n p k left (kid q ∷ right) par lvl sp.is none))

  own-links : (ls : List Entry) → AllByRecursion (Fits s n (level_of s n)) ls → all_below s' (level_of s n) ls ≡ all_below s (level_of s n) ls
  own-links ls fits = flat-links (level_of s n) n (both (level_of s n)).1 ls fits (each-all (Fits s n (level_of s n)) (λ l. child_count n (l ∷ []) ≡ 0) (λ l f. not-own (level_of s n) refl l f) ls fits)

  child-stays : (depth c : ℕ) → c < length s.heads → suc (level_of s c) ≡ level_of s n → parent_of s c ≡ n → suc depth + level_of s n ≡ height → ahead s' (suc (suc depth)) c ≡ ahead s (suc (suc depth)) c
  child-stays depth c cis lvl par deep =
      let k = level_of s n in
      let o = half-once c cis lvl par in
      let lt : c < q = omega (arith, cis, sp.new) in
      let nl : level_of s' n ≡ k = sp.levels n (omega (arith, nis, sp.new)) in
      elim (cases_zero (child_count c back)) [
        | inl z ↦
            let one : child_count c front ≡ 1 = omega arith in
            let cut = apart c front one in
            let a = left_of c front in let b = right_of c front in
            let P : Entry → Type 0 = Fits s n k in
            let fits = each-front P a (Down (node c) cut.totals ∷ b) (subst (AllByRecursion P) cut.cut fits-front) in
            let whole : entries s n ≡ a ++ Down (node c) cut.totals ∷ (b ++ back) = sp.halves ∙ ap (λ l. l ++ back) cut.cut ∙ append_assoc a (Down (node c) cut.totals ∷ b) back in
            let none : child_count c a ≡ 0 = (let e = ap (child_count c) cut.cut ∙ count-append c a (Down (node c) cut.totals ∷ b) in let f = first-rest c (Down (node c) cut.totals) b in let g = counted_self c in omega arith) in
            ahead-in s' cut.totals (suc depth) c n k a b (sp.stay c lt z ∙ par) nl (sp.at_n ∙ cut.cut) none
            ∙ ap (λ l. ahead s' (suc depth) n ++ l) (own-links a fits)
            ∙ ap (λ l. l ++ all_below s k a) (split_first (suc depth) deep)
            ∙ sym (ahead-in s cut.totals (suc depth) c n k a (b ++ back) par refl whole none)
        | inr some ↦
            let one : child_count c back ≡ 1 = omega arith in
            let cut = apart c back one in
            let a = left_of c back in let b = right_of c back in
            let P : Entry → Type 0 = Fits s n k in
            let fits = each-front P a (Down (node c) cut.totals ∷ b) (subst (AllByRecursion P) cut.cut fits-back) in
            let whole : entries s n ≡ (front ++ a) ++ Down (node c) cut.totals ∷ b = sp.halves ∙ ap (λ l. front ++ l) cut.cut ∙ sym (append_assoc front a (Down (node c) cut.totals ∷ b)) in
            let none : child_count c a ≡ 0 = (let e = ap (child_count c) cut.cut ∙ count-append c a (Down (node c) cut.totals ∷ b) in let f = first-rest c (Down (node c) cut.totals) b in let g = counted_self c in omega arith) in
            let none-all : child_count c (front ++ a) ≡ 0 = count-append c front a ∙ (omega arith) in
            ahead-in s' cut.totals (suc depth) c q k a b (sp.moved c lt some) sp.level (sp.at_q ∙ cut.cut) none
            ∙ ap (λ l. l ++ all_below s' k a) (split_second depth)
            ∙ append_assoc (ahead s' (suc depth) n) (runs s' k n) (all_below s' k a)
            ∙ ap (λ ls. ahead s' (suc depth) n ++ (all_below s' k ls ++ all_below s' k a)) sp.at_n
            ∙ ap (λ l. ahead s' (suc depth) n ++ l) (sym (flat_map-append (below s' k) front a) ∙ own-links (front ++ a) (each-append P front a fits-front fits))
            ∙ ap (λ l. l ++ all_below s k (front ++ a)) (split_first (suc depth) deep)
            ∙ sym (ahead-in s cut.totals (suc depth) c n k (front ++ a) b par refl whole none-all)
      ]

  above-up : (i c : ℕ) → above s i (parent_of s c) ≡ parent_of s (above s i c)
  above-up zero c = refl
  above-up (suc i) c = ap (parent_of s) (above-up i c)

  -- what stands before a node below the cut one stays
  pub split_below : (j depth c : ℕ) → c < length s.heads → level_of s c + suc j ≡ level_of s n → above s (suc j) c ≡ n → level_of s n < height → depth + level_of s c ≡ height → ahead s' depth c ≡ ahead s depth c
  split_below j zero c cis lvl path nlow deep = absurd (omega arith)
  split_below zero (suc zero) c cis lvl path nlow deep = absurd (omega arith)
  split_below zero (suc (suc depth)) c cis lvl path nlow deep = child-stays depth c cis (omega arith) path (omega arith)
  split_below (suc j) (suc depth) c cis lvl path nlow deep =
      let kn' = t.known c cis (below_top s height root t c cis (omega arith)) in
      let u = parent_of s c in
      let lt : c < q = omega (arith, cis, sp.new) in
      let ult : u < q = omega (arith, kn'.is, sp.new) in
      let z : child_count c back ≡ 0 = elim (cases_zero (child_count c back)) [ inl z ↦ z | inr some ↦ absurd (let w = child-of s n (level_of s n) back fits-back c some in omega (arith, w.1)) ] in
      let same : parent_of s' c ≡ u = sp.stay c lt z in
      let un : u ≡ n → ⊥ = λ e. let h = ap (level_of s) e in no (omega (arith, kn'.up)) in
      let pl = plevel in
      let up' : u ≡ p → ⊥ = λ e. let h = ap (level_of s) e in no (omega (arith, kn'.up)) in
      let k = level_of s u in
      let a = left_of c (entries s u) in let b = right_of c (entries s u) in
      let cut = apart c (entries s u) kn'.once in
      let fits = each-front (Fits s u k) a (Down (node c) cut.totals ∷ b) (subst (AllByRecursion (Fits s u k)) cut.cut (t.fits u kn'.is)) in
      let none : child_count c a ≡ 0 = (let e = ap (child_count c) cut.cut ∙ count-append c a (Down (node c) cut.totals ∷ b) in let f = first-rest c (Down (node c) cut.totals) b in let g = counted_self c in let o = kn'.once in omega arith) in
      ahead-in s' cut.totals depth c u k a b same (sp.levels u ult) (sp.others u ult un up' ∙ cut.cut) none
      ∙ ap (λ l. ahead s' depth u ++ l) (flat-links k u (both k).1 a fits (each-all (Fits s u k) (λ l. child_count n (l ∷ []) ≡ 0) (λ l w. not-in u k up' l w) a fits))
      ∙ ap (λ l. l ++ all_below s k a) (split_below j depth u kn'.is (omega (arith, kn'.up)) (above-up (suc j) c ∙ path) nlow (omega (arith, kn'.up)))
      ∙ sym (ahead-in s cut.totals depth c u k a b refl refl cut.cut none)
