-- In which leaf runs stand, after changes of nodes.
use Rattle.std.proofs.Common.{◌≡◌, ◌≢◌, ℕ, zero, suc, ◌<◌, ◌≤◌, ◌/◌, ◌⊎◌, inl, inr, List, [], ◌∷◌, length, take, insert, set, slice_get, Some, refl, sym, ap, ◌∙◌, subst, arith, get_or-set_other}
use Rattle.std.proofs.lemmas.Bool.{cases_eq, cases_lt}
use Rattle.rt_nodes.specs.Nodes.{entries, with_entries}
use Rattle.rt_tree.specs.declared.node.Entry.{Entry}
use Rattle.rt_tree.specs.declared.node.Entry.TheVariants.{Down, Here}
use Rattle.rt_tree.specs.declared.node.Run.{Run}
use Rattle.rt_tree.specs.Changes.{AreHalves, IsGrown, bare, links}
use Rattle.rt_tree.specs.Shape.{IsShape, Memory, ahead, all_below, level_of, runs}
use Rattle.rt_tree.specs.Standing.{Stands, Stay, StayBut}
use Rattle.rt_tree.proofs.Bares.{bare-entries}
use Rattle.rt_tree.proofs.Frame.{ahead-same, new-at}
use Rattle.rt_tree.proofs.Holding.{here_at}
use Rattle.rt_tree.proofs.Wholes.{runs-bare}

-- a run is one of some entries
abbrev IsAmong : Run → List Entry → Type 0
IsAmong run es = (i : ℕ) × (slice_get es i ≡ Some (Here run))

module _ (run : Run) where
  among_front : (es : List Entry) (k i : ℕ) → slice_get (take k es) i ≡ Some (Here run) → slice_get es i ≡ Some (Here run)
  among_front es zero i is = cc
  among_front [] (suc k) i is = is
  among_front (e ∷ es) (suc k) zero is = is
  among_front (e ∷ es) (suc k) (suc i) is = among_front es k i is

  -- what is among entries is among the runs of a leaf that has them, and the other way round
  run_of : (m : Memory) (es : List Entry) (i : ℕ) → slice_get es i ≡ Some (Here run) → (j : ℕ) × (slice_get (all_below m 0 es) j ≡ Some run)
  run_of m [] i is = (0, cc)
  run_of m (Here r ∷ es) zero is = (0, cc)
  run_of m (Down c t ∷ es) zero is = (0, cc)
  run_of m (Here r ∷ es) (suc i) is = let it = run_of m es i is in (suc it.0, it.1)
  run_of m (Down c t ∷ es) (suc i) is = run_of m es i is

  entry_of : (m : Memory) (es : List Entry) (j : ℕ) → slice_get (all_below m 0 es) j ≡ Some run → IsAmong run es
  entry_of m [] j is = (0, cc)
  entry_of m (Here r ∷ es) zero is = (0, cc)
  entry_of m (Here r ∷ es) (suc j) is = let it = entry_of m es j is in (suc it.0, it.1)
  entry_of m (Down c t ∷ es) j is = let it = entry_of m es j is in (suc it.0, it.1)

  -- a run that was put in, or put in place of another, is the only new one
  among_insert : (es : List Entry) (own : Run) (k i : ℕ) → slice_get (insert es k (Here own)) i ≡ Some (Here run) → (run ≡ own) ⊎ IsAmong run es
  among_insert es own zero zero is = inl cc
  among_insert es own zero (suc i) is = inr (i, is)
  among_insert [] own (suc k) zero is = inl cc
  among_insert [] own (suc k) (suc i) is = inl cc
  among_insert (e ∷ es) own (suc k) zero is = inr (0, is)
  among_insert (e ∷ es) own (suc k) (suc i) is = elim (among_insert es own k i is) [
    | inl e ↦ inl e
    | inr it ↦ inr (suc it.0, it.1)
  ]

  among_set : (es : List Entry) (own : Run) (k i : ℕ) → slice_get (set es k (Here own)) i ≡ Some (Here run) → (run ≡ own) ⊎ IsAmong run es
  among_set [] own k i is = inr (i, is)
  among_set (e ∷ es) own zero zero is = inl cc
  among_set (e ∷ es) own zero (suc i) is = inr (suc i, is)
  among_set (e ∷ es) own (suc k) zero is = inr (0, is)
  among_set (e ∷ es) own (suc k) (suc i) is = elim (among_set es own k i is) [
    | inl e ↦ inl e
    | inr it ↦ inr (suc it.0, it.1)
  ]

insert_get : (es : List Entry) (i : ℕ) (e : Entry) → i ≤ length es → slice_get (insert es i e) i ≡ Some e
insert_get [] zero e le = refl
insert_get [] (suc i) e le = absurd (omega (arith, le))
insert_get (f ∷ es) zero e le = refl
insert_get (f ∷ es) (suc i) e le = insert_get es i e (omega (arith, le))

-- what stays, or stays but for one run, after what stays
module _ (a b c : Memory) (longer : length a.heads ≤ length b.heads) (first : Stay a b) where
  pub stay_then : Stay b c → Stay a c
  stay_then second leaf run s = elim (second leaf run s) [
    | inl new ↦ inl (omega (arith, new, longer))
    | inr was ↦ first leaf run was
  ]

  pub stay_but : (at : ℕ) (own : Run) → StayBut b c at own → StayBut a c at own
  stay_but at own second leaf run s = elim (second leaf run s) [
    | inl new ↦ inl (omega (arith, new, longer))
    | inr (inl was) ↦ elim (first leaf run was) [
      | inl new ↦ inl new
      | inr is ↦ inr (inl is)
    ]
    | inr (inr is) ↦ inr (inr is)
  ]

module _ (m n : Memory) where
  -- a run of an old leaf that had it stood there
  stood : (leaf : ℕ) (run : Run) → Stands n leaf run → leaf < length m.heads → level_of n leaf ≡ level_of m leaf → IsAmong run (entries m leaf) → Stands m leaf run
  stood leaf run s old level among = record { is = old; low = sym level ∙ s.low; entry = among.0; here = among.1 }

  -- runs stay when a node is cut in two
  pub stay_cut : (x q : ℕ) → AreHalves m n x q
      → ((id : ℕ) → id < length m.heads → id ≢ x → runs (bare n) (level_of (bare m) id) id ≡ runs (bare m) (level_of (bare m) id) id) → Stay m n
  stay_cut x q h others leaf run s = elim (cases_lt leaf (length m.heads)) [
    | inr new ↦ inl new
    | inl old ↦
        let level : level_of n leaf ≡ level_of m leaf = h.levels leaf (omega (arith, old, h.new)) in
        let among : IsAmong run (entries m leaf) = elim (cases_eq leaf x) [
          | inl e ↦
              let half = ap (entries n) e ∙ h.first in
              let front : slice_get (entries m x) s.entry ≡ Some (Here run) = among_front run (entries m x) (length (entries m x) / 2) s.entry (subst (λ es. slice_get es s.entry ≡ Some (Here run)) half s.here) in
              (s.entry, subst (λ id. slice_get (entries m id) s.entry ≡ Some (Here run)) (sym e) front)
          | inr ne ↦
              let low : level_of m leaf ≡ 0 = sym level ∙ s.low in
              let bared : runs (bare n) 0 leaf ≡ runs (bare m) 0 leaf = subst (λ k. runs (bare n) k leaf ≡ runs (bare m) k leaf) low (others leaf old ne) in
              let same : runs n 0 leaf ≡ runs m 0 leaf = sym (runs-bare n 0 leaf) ∙ bared ∙ runs-bare m 0 leaf in
              let it = run_of run n (entries n leaf) s.entry s.here in
              entry_of run m (entries m leaf) it.0 (subst (λ rs. slice_get rs it.0 ≡ Some run) same it.1)
        ] in
        inr (stood leaf run s old level among)
  ]

  -- and when a new root is put above the old one
  pub stay_grown : (height root q : ℕ) → IsGrown m n height root q → Stay m n
  stay_grown height root q g leaf run s = elim (cases_lt leaf (length m.heads)) [
    | inr new ↦ inl new
    | inl old ↦
        let lt : leaf < q = omega (arith, old, g.new) in
        inr (stood leaf run s old (g.levels leaf lt) (s.entry, subst (λ es. slice_get es s.entry ≡ Some (Here run)) (g.others leaf lt) s.here))
  ]

  -- but for one run when a leaf has other entries, of which one run alone is new
  module _ (height root at : ℕ) (es : List Entry) (own : Run) (t : IsShape (bare m) height root) (there : at < length m.heads) (is : bare n ≡ with_entries (bare m) at (links es))
      (only : (run : Run) (i : ℕ) → slice_get es i ≡ Some (Here run) → (run ≡ own) ⊎ IsAmong run (entries m at)) where
    others_are : (leaf : ℕ) → leaf ≢ at → links (entries m leaf) ≡ links (entries n leaf)
    others_are leaf ne =
        sym (bare-entries m leaf) ∙ sym (get_or-set_other (bare m).rows at leaf (links es) [] ne)
        ∙ sym (ap (λ (b : Memory). entries b leaf) is) ∙ bare-entries n leaf

    own_are : links es ≡ links (entries n at)
    own_are = sym (new-at (bare m) height root t at there (links es)) ∙ sym (ap (λ (b : Memory). entries b at) is) ∙ bare-entries n at

    stay_own : StayBut m n at own
    stay_own leaf run s =
        let level : level_of n leaf ≡ level_of m leaf = ap (λ (b : Memory). level_of b leaf) is in
        let old : leaf < length m.heads = let same = ap (λ (b : Memory). length b.heads) is in let lt = s.is in omega (arith, lt, same) in
        elim (cases_eq leaf at) [
          | inr ne ↦ inr (inl (stood leaf run s old level (s.entry, here_at (entries m leaf) (entries n leaf) s.entry run (others_are leaf ne) s.here)))
          | inl e ↦
              let here : slice_get (entries n at) s.entry ≡ Some (Here run) = subst (λ id. slice_get (entries n id) s.entry ≡ Some (Here run)) e s.here in
              elim (only run s.entry (here_at es (entries n at) s.entry run own_are here)) [
                | inl new ↦ inr (inr (e, new))
                | inr it ↦ inr (inl (stood leaf run s old level (it.0, subst (λ id. slice_get (entries m id) it.0 ≡ Some (Here run)) (sym e) it.1)))
              ]
        ]

  module _ (height root at i : ℕ) (own : Run) (t : IsShape (bare m) height root) (there : at < length m.heads) where
    pub stay_insert : bare n ≡ with_entries (bare m) at (links (insert (entries m at) i (Here own))) → StayBut m n at own
    stay_insert is = stay_own height root at (insert (entries m at) i (Here own)) own t there is (λ run j here. among_insert run (entries m at) own i j here)

    -- the one that was put in stands there
    pub here_insert : i ≤ length (entries m at) → bare n ≡ with_entries (bare m) at (links (insert (entries m at) i (Here own))) → slice_get (entries n at) i ≡ Some (Here own)
    here_insert le is =
        here_at (entries n at) (insert (entries m at) i (Here own)) i own
        (sym (bare-entries n at) ∙ ap (λ (b : Memory). entries b at) is ∙ new-at (bare m) height root t at there (links (insert (entries m at) i (Here own))))
        (insert_get (entries m at) i (Here own) le)

    -- what stands before its leaf has stayed
    pub ahead_insert : level_of m at ≡ 0 → bare n ≡ with_entries (bare m) at (links (insert (entries m at) i (Here own))) → ahead (bare n) height at ≡ ahead (bare m) height at
    ahead_insert low is = ap (λ b. ahead b height at) is ∙ ahead-same (bare m) height root t at there (links (insert (entries m at) i (Here own))) height 0 at there (omega arith) (omega (arith, low)) refl

    pub stay_set : bare n ≡ with_entries (bare m) at (links (set (entries m at) i (Here own))) → StayBut m n at own
    stay_set is = stay_own height root at (set (entries m at) i (Here own)) own t there is (λ run j here. among_set run (entries m at) own i j here)
