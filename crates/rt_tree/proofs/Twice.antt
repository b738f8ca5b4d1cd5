-- A state that comes in beside an equal one changes no summary.
use Rattle.std.proofs.Common.{◌≡◌, Bool, true, false, if◌then◌else◌, ℕ, ◌+◌, ◌<◌, ◌⊎◌, inl, inr, List, [], ◌∷◌, ◌++◌, length, get_or, drop, take, refl, sym, ap, ◌∙◌, arith, subst, suc, Option, None, Some}
use Rattle.std.proofs.lemmas.Bool.{cases_eq}
use Rattle.std.proofs.lemmas.List.{append-nil}
use Rattle.rt_nodes.specs.Nodes.{entries}
use Rattle.rt_tags.specs.Borders.{border, borders, either, first, is_tagged, last, one_or_none}
use Rattle.rt_tags.specs.States.{TagStates}
use Rattle.rt_tags.proofs.Bordering.{first_of, joined, last_of}
use Rattle.rt_tree.specs.declared.node.Entry.{Entry}
use Rattle.rt_tree.specs.declared.summary.Summary.{Summary}
use Rattle.rt_tree.specs.Changes.{above}
use Rattle.rt_tree.specs.Shape.{IsShape, Memory, all_below, below, level_of, runs}
use Rattle.rt_tree.specs.Summaries.{AreSummed, AreSummedBut, IsSummary, left_in, right_in, shown_before, shown_behind, shown_states, summary_of}
use Rattle.rt_tree.proofs.Noting.{shows_now}
use Rattle.rt_tree.proofs.Paths.{at}
use Rattle.rt_tree.proofs.Reaching.{shown-append}

no_border : (b : Bool) → ◌≡◌ {A = ℕ} (if b then (if b then 0 else 1) else (if b then 1 else 0)) 0
no_border true = refl
no_border false = refl

same_border : (test : ℕ → Bool) (s : ℕ) → border test (Some s) (Some s) ≡ 0
same_border test s = no_border (test s)

-- the same state once more
record IsTwice (xs ys : List ℕ) (s : ℕ) : Type 0 where
  pub begins : first (xs ++ s ∷ ys) ≡ first (xs ++ ys)
  pub ends : last (xs ++ s ∷ ys) ≡ last (xs ++ ys)
  pub same : (test : ℕ → Bool) → borders test (xs ++ s ∷ ys) ≡ borders test (xs ++ ys)

-- behind one
first_behind : (xs ys : List ℕ) (s : ℕ) → last xs ≡ Some s → first (xs ++ s ∷ ys) ≡ first (xs ++ ys)
first_behind [] ys s is = absurd (cc)
first_behind (x ∷ xs) ys s is = refl

last_behind : (o : Option ℕ) (p : Option ℕ) (s : ℕ) → p ≡ Some s → either (either o (Some s)) p ≡ either o p
last_behind None p s is = sym is
last_behind (Some z) p s is = refl

twice_behind : (xs ys : List ℕ) (s : ℕ) → last xs ≡ Some s → IsTwice xs ys s
twice_behind xs ys s is = record {
  begins = first_behind xs ys s is;
  ends = last_of xs (s ∷ ys) ∙ last_behind (last ys) (last xs) s is ∙ sym (last_of xs ys);
  same = λ test.
      let a : borders test (xs ++ s ∷ ys) ≡ borders test xs + (border test (last xs) (Some s) + (border test (Some s) (first ys) + borders test ys)) = joined test xs (s ∷ ys) in
      let b = joined test xs ys in
      let c : border test (last xs) (Some s) ≡ 0 = ap (λ o. border test o (Some s)) is ∙ same_border test s in
      let d : border test (last xs) (first ys) ≡ border test (Some s) (first ys) = ap (λ o. border test o (first ys)) is in
      omega (arith, a, b, c, d);
}

-- before one
last_before : (o p : Option ℕ) (y s : ℕ) → either (either (either o (Some y)) (Some s)) p ≡ either (either o (Some y)) p
last_before None p y s = refl
last_before (Some z) p y s = refl

first_before : (o : Option ℕ) (y s : ℕ) → Some y ≡ Some s → either o (Some s) ≡ either o (Some y)
first_before o y s is = ap (either o) (sym is)

twice_before : (xs ys : List ℕ) (s : ℕ) → first ys ≡ Some s → IsTwice xs ys s
twice_before xs [] s is = absurd (cc)
twice_before xs (y ∷ ys) s is = record {
  begins = first_of xs (s ∷ y ∷ ys) ∙ first_before (first xs) y s is ∙ sym (first_of xs (y ∷ ys));
  ends = last_of xs (s ∷ y ∷ ys) ∙ last_before (last ys) (last xs) y s ∙ sym (last_of xs (y ∷ ys));
  same = λ test.
      let a : borders test (xs ++ s ∷ y ∷ ys) ≡ borders test xs + (border test (last xs) (Some s) + (border test (Some s) (Some y) + borders test (y ∷ ys))) = joined test xs (s ∷ y ∷ ys) in
      let b : borders test (xs ++ y ∷ ys) ≡ borders test xs + (border test (last xs) (Some y) + borders test (y ∷ ys)) = joined test xs (y ∷ ys) in
      let c : border test (Some s) (Some y) ≡ 0 = ap (λ o. border test (Some s) o) is ∙ same_border test s in
      let d : border test (last xs) (Some s) ≡ border test (last xs) (Some y) = ap (λ o. border test (last xs) o) (sym is) in
      omega (arith, a, b, c, d);
}

still : (table : TagStates) (xs ys : List ℕ) (s : ℕ) (sum : Summary) → IsTwice xs ys s → IsSummary table (xs ++ ys) sum → IsSummary table (xs ++ s ∷ ys) sum
still table xs ys s sum t is = record {
  first = is.first ∙ sym t.begins;
  last = is.last ∙ sym t.ends;
  counts = record { given = λ tag given. is.counts.given tag given ∙ sym (t.same (is_tagged table tag)); others = is.counts.others };
}

-- at the end
pub pushed_twice : (table : TagStates) (xs : List ℕ) (state : ℕ) (sum : Summary) → sum.last ≡ Some state → IsSummary table xs sum → IsSummary table (xs ++ state ∷ []) sum
pushed_twice table xs state sum is was =
    still table xs [] state sum (twice_behind xs [] state (sym was.last ∙ is)) (subst (λ l. IsSummary table l sum) (sym (append-nil xs)) was)

-- what stands beside an entry of a leaf stands beside it below each node above
seen_before : (m : Memory) (j x i s : ℕ) → last (shown_before m 0 x i) ≡ Some s → last (shown_before m j x i) ≡ Some s
seen_before m j x i s is =
    let own = all_below m 0 (take i (entries m x)) in let l = left_in m j x in
    ap last (shown-append l own) ∙ last_of (shown_states l) (shown_states own) ∙ ap (λ o. either o (last (shown_states l))) is

or_none : (o : Option ℕ) → either o None ≡ o
or_none None = refl
or_none (Some x) = refl

seen_behind : (m : Memory) (j x i s : ℕ) → first (shown_behind m 0 x i) ≡ Some s → first (shown_behind m j x i) ≡ Some s
seen_behind m j x i s is =
    let own = all_below m 0 (drop (suc i) (entries m x)) in let r = right_in m j x in
    let here : first (shown_states own) ≡ Some s = sym (ap first (shown-append own []) ∙ first_of (shown_states own) [] ∙ or_none (first (shown_states own))) ∙ is in
    ap first (shown-append own r) ∙ first_of (shown_states own) (shown_states r) ∙ ap (λ o. either o (first (shown_states r))) here

beside : (table : TagStates) (m : Memory) (j x i : ℕ) (new : Option ℕ) (sum : Summary) → (last (shown_before m 0 x i) ≡ new) ⊎ (first (shown_behind m 0 x i) ≡ new)
    → IsSummary table (shown_before m j x i ++ shown_behind m j x i) sum → IsSummary table (shown_before m j x i ++ (one_or_none new ++ shown_behind m j x i)) sum
beside table m j x i None sum is was = was
beside table m j x i (Some s) sum (inl is) was = still table (shown_before m j x i) (shown_behind m j x i) s sum (twice_behind (shown_before m j x i) (shown_behind m j x i) s (seen_before m j x i s is)) was
beside table m j x i (Some s) sum (inr is) was = still table (shown_before m j x i) (shown_behind m j x i) s sum (twice_before (shown_before m j x i) (shown_behind m j x i) s (seen_behind m j x i s is)) was

-- so all summaries are right where a state came in beside an equal one
pub summed_beside : (table : TagStates) (m : Memory) (sums : List Summary) (height root x i : ℕ) (t : IsShape m height root) (xis : x < length m.heads) (low : level_of m x ≡ 0)
    (e : Entry) (old new : Option ℕ) → i < length (entries m x) → e ≡ get_or (entries m x) i e → shown_states (below m 0 e) ≡ one_or_none new → old ≡ None
    → (last (shown_before m 0 x i) ≡ new) ⊎ (first (shown_behind m 0 x i) ≡ new) → AreSummedBut table m sums height x i old → AreSummed table m sums
summed_beside table m sums height root x i t xis low e old new lt here shows none side but id is = elim (cases_eq id (above m (level_of m id) x)) [
  | inl same ↦ let j = level_of m id in let le = t.low id is in
      let now = shows_now m height root t x xis low i e new lt here shows j le in
      let was = subst (λ o. IsSummary table (shown_before m j x i ++ (one_or_none o ++ shown_behind m j x i)) (summary_of sums (above m j x))) none (but.path j le) in
      subst (λ d. IsSummary table (shown_states (runs m j d)) (summary_of sums d)) (sym same)
      (subst (λ l. IsSummary table l (summary_of sums (above m j x))) (sym now) (beside table m j x i new (summary_of sums (above m j x)) side was))
  | inr ne ↦ but.others id is (λ k kle same. ne (same ∙ ap (λ n. above m n x) (sym (ap (level_of m) same ∙ (at m height root t x xis low k kle).1))))
]
