-- A new root above the old one.
use Rattle.std.proofs.Common.{◌≡◌, ℕ, zero, suc, ◌<◌, inl, inr, [], ◌∷◌, refl, sym, ap, ◌∙◌, arith, subst, append-nil}
use Rattle.std.proofs.lemmas.Bool.{cases_eq}
use Rattle.rt_nodes.specs.Nodes.{entries}
use Rattle.rt_tree.specs.declared.node.Entry.{Entry}
use Rattle.rt_tree.specs.declared.node.Totals.{Totals}
use Rattle.rt_tree.specs.declared.node.Entry.TheVariants.{Down, Here}
use Rattle.rt_tree.specs.Changes.{links, bare, IsGrown, IsExactAt, AreExact, strip, kid, blank, entry_totals, adds_up, IsLocal}
use Rattle.rt_tree.specs.Shape.{below, runs, level_of, parent_of, Memory, Fits, child_count, IsShape, all_below}
use Rattle.rt_tree.proofs.Bares.{bare-entries}
use Rattle.rt_tree.proofs.Exact.{each-all, each-both, fits-entries}
use Rattle.rt_tree.proofs.Frame.{flat-same, no}
use Rattle.rt_tree.proofs.Halves.{counted_self}
use Rattle.rt_tree.proofs.Raise.{length-rows}
use Rattle.std.specs.List.{AllByRecursion}

module _ (m m' : Memory) (height root q : ℕ) (t : IsShape (bare m) height root) (exact : AreExact m) (g : IsGrown m m' height root q) where
  s : Memory
  s = bare m

  abbrev s' : Memory
  s' = bare m'

  same-at : (c : ℕ) → c < q → entries s' c ≡ entries (bare m) c
  same-at c lt = bare-entries m' c ∙ ap links (g.others c lt) ∙ sym (bare-entries m c)

  at-q : entries s' q ≡ kid root ∷ []
  at-q = bare-entries m' q ∙ ap links g.at_q

  link-same : (j : ℕ) → ((c : ℕ) → c < q → level_of (bare m) c ≡ j → runs s' j c ≡ runs (bare m) j c) → (id : ℕ) (l : Entry) → Fits (bare m) id (suc j) l → below s' (suc j) l ≡ below (bare m) (suc j) l
  link-same j ih id (Here r) f = refl
  link-same j ih id (Down c ts) f = ih c.index (omega (arith, f.is, g.new)) f.level

  zero-link : (l : Entry) → below s' zero l ≡ below (bare m) zero l
  zero-link (Here r) = refl
  zero-link (Down c ts) = refl

  fits-at : (id j : ℕ) → id < q → level_of (bare m) id ≡ j → AllByRecursion (Fits (bare m) id j) (entries (bare m) id)
  fits-at id j lt at = subst (λ k. AllByRecursion (Fits (bare m) id k) (entries (bare m) id)) at (t.fits id (omega (arith, g.new)))

  pub same-runs : (j c : ℕ) → c < q → level_of (bare m) c ≡ j → runs s' j c ≡ runs (bare m) j c
  same-runs zero c lt at = ap (all_below s' zero) (same-at c lt) ∙ flat-same (below s' zero) (below (bare m) zero) (entries (bare m) c) (each-all (Fits (bare m) c zero) (λ l. below s' zero l ≡ below (bare m) zero l) (λ l f. zero-link l) (entries (bare m) c) (fits-at c zero lt at))
  same-runs (suc j) c lt at = ap (all_below s' (suc j)) (same-at c lt) ∙ flat-same (below s' (suc j)) (below (bare m) (suc j)) (entries (bare m) c) (each-all (Fits (bare m) c (suc j)) (λ l. below s' (suc j) l ≡ below (bare m) (suc j) l) (λ l f. link-same j (λ d dl da. same-runs j d dl da) c l f) (entries (bare m) c) (fits-at c (suc j) lt at))

  pub grown_runs : runs s' (suc height) q ≡ runs (bare m) height root
  grown_runs = ap (all_below s' (suc height)) at-q ∙ append-nil (runs s' height root) ∙ same-runs height root (omega (arith, t.root_is, g.new)) t.top

  root-no-kid : (id k : ℕ) → id < q → level_of (bare m) id ≡ k → (l : Entry) → Fits (bare m) id k l → Fits s' id k l
  root-no-kid id zero lt at (Here r) f = tt
  root-no-kid id zero lt at (Down c ts) f = f
  root-no-kid id (suc k) lt at (Here r) f = f
  root-no-kid id (suc k) lt at (Down c blank) f =
      let clt : c.index < q = omega (arith, f.is, g.new) in
      record { is = omega (arith, clt, g.longer); level = g.levels c.index clt ∙ f.level; parent = g.stay c.index clt (λ e. let h = ap (level_of (bare m)) e in let low = t.low id (omega (arith, g.new)) in no (omega (arith, f.level, t.top))) ∙ f.parent }

  fit-q : AllByRecursion (Fits s' q (suc height)) (kid root ∷ [])
  fit-q = (record { is = omega (arith, t.root_is, g.new, g.longer); level = g.levels root (omega (arith, t.root_is, g.new)) ∙ t.top; parent = g.parent }, tt)

  pub grown_tree : IsShape s' (suc height) q
  grown_tree = record {
    same = g.same ∙ sym (length-rows m');
    root_is = omega (arith, g.longer);
    top = g.level;
    low = λ id is. elim (cases_eq id q) [
      | inl e ↦ let h = ap (level_of s') e in omega (arith, g.level)
      | inr ne ↦ let l = g.levels id (omega (arith, g.longer)) in let w = t.low id (omega (arith, g.longer, g.new)) in omega arith
    ];
    fits = λ id is. elim (cases_eq id q) [
      | inl e ↦ subst (λ x. AllByRecursion (Fits s' x (level_of s' x)) (entries s' x)) (sym e) (subst (λ k. AllByRecursion (Fits s' q k) (entries s' q)) (sym g.level) (subst (AllByRecursion (Fits s' q (suc height))) (sym at-q) fit-q))
      | inr ne ↦
          let lt : id < q = omega (arith, g.longer) in
          subst (λ k. AllByRecursion (Fits s' id k) (entries s' id)) (sym (g.levels id lt)) (subst (AllByRecursion (Fits s' id (level_of (bare m) id))) (sym (same-at id lt)) (each-all (Fits (bare m) id (level_of (bare m) id)) (Fits s' id (level_of (bare m) id)) (λ l f. root-no-kid id (level_of (bare m) id) lt refl l f) (entries (bare m) id) (t.fits id (omega (arith, g.new)))))
    ];
    known = λ id is nq.
        let lt : id < q = omega (arith, g.longer, nq) in
        let l = g.levels id lt in
        elim (cases_eq id root) [
          | inl e ↦
              let p : parent_of s' id ≡ q = ap (parent_of s') e ∙ g.parent in
              let rl : level_of (bare m) id ≡ height = ap (level_of (bare m)) e ∙ t.top in
              record {
                is = omega (arith, p, g.longer);
                up = ap (level_of s') p ∙ g.level ∙ (omega arith);
                once = ap (λ x. child_count id (entries s' x)) p ∙ ap (child_count id) at-q ∙ ap (λ x. child_count id (kid x ∷ [])) (sym e) ∙ counted_self id;
              }
          | inr nr ↦
              let k = t.known id (omega (arith, g.new)) nr in
              let p = g.stay id lt nr in
              let plt : parent_of (bare m) id < q = omega (arith, k.is, g.new) in
              record {
                is = omega (arith, p, plt, g.longer);
                up = ap (level_of s') p ∙ g.levels (parent_of (bare m) id) plt ∙ k.up ∙ ap suc (sym l);
                once = ap (λ x. child_count id (entries s' x)) p ∙ ap (child_count id) (same-at (parent_of (bare m) id) plt) ∙ k.once;
              }
        ];
  }

  exact-one : (id k : ℕ) → (l : Entry) (x : Totals) → Fits (bare m) id k l → IsExactAt m l x → IsExactAt m' l x
  exact-one id k (Here r) x f h = h
  exact-one id zero (Down c ts) x f h = absurd f
  exact-one id (suc k) (Down c ts) x f h = h ∙ ap adds_up (sym (g.others c.index (omega (arith, f.is, g.new))))

  pub grown_exact : AreExact m'
  grown_exact id is = elim (cases_eq id q) [
    | inl e ↦ subst (λ x. AllByRecursion (IsLocal m') (entries m' x)) (sym e) (subst (AllByRecursion (IsLocal m')) (sym g.at_q) (ap adds_up (sym (g.others root (omega (arith, t.root_is, g.new)))), tt))
    | inr ne ↦
        let lt : id < q = omega (arith, g.longer) in
        subst (AllByRecursion (IsLocal m')) (sym (g.others id lt)) (each-both (λ (x : Entry). Fits (bare m) id (level_of (bare m) id) (strip x)) (IsLocal m) (IsLocal m') (λ x f h. exact-one id (level_of (bare m) id) (strip x) (entry_totals x) f h) (entries m id) (fits-entries m height root t id (level_of (bare m) id) (omega (arith, g.new)) refl) (exact id (omega (arith, g.new))))
  ]
