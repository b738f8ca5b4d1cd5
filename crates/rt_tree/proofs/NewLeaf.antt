-- A leaf with other entries.
use Rattle.std.proofs.Common.{◌≡◌, ℕ, zero, suc, ◌<◌, inl, inr, List, [], ◌∷◌, ◌++◌, length, take, drop, set, insert, sym, ap, ◌∙◌, arith, subst, get_or-set_same, get_or-set_other}
use Rattle.std.proofs.lemmas.Bool.{cases_eq}
use Rattle.std.proofs.lemmas.List.{map-set, take-append-drop}
use Rattle.rt_nodes.specs.Nodes.{entries, with_entries}
use Rattle.rt_tree.specs.declared.node.Entry.{Entry}
use Rattle.rt_tree.specs.declared.node.Totals.{Totals}
use Rattle.rt_tree.specs.declared.node.Entry.TheVariants.{Down, Here}
use Rattle.rt_tree.specs.Changes.{links, bare, IsExactAt, AreExact, AreExactBut, strip, entry_totals, IsLocal}
use Rattle.rt_tree.specs.Shape.{runs, ahead, behind, level_of, Memory, Fits, child_count, IsShape, all_below}
use Rattle.rt_tree.proofs.Exact.{each-all, each-both, fits-entries}
use Rattle.rt_tree.proofs.Frame.{leaf_tree, leaf_runs, each-append, each-front, each-back}
use Rattle.rt_tree.proofs.Raise.{length-rows, exact-frame, bare_of}
use Rattle.rt_tree.specs.Sums.{totals_of}
use Rattle.std.specs.List.{AllByRecursion}

abbrev pub IsRunAt : Entry → Totals → Type 0
IsRunAt (Here r) t = t ≡ totals_of (r ∷ [])
IsRunAt (Down c ts) t = ⊥

-- an entry of a leaf
abbrev pub IsLeafEntry : Entry → Type 0
IsLeafEntry e = IsRunAt (strip e) (entry_totals e)

pub record Changed (m new : Memory) (height root x : ℕ) (es : List Entry) : Type 0 where
  pub tree : IsShape (bare new) height root
  pub exact : AreExactBut x new
  pub runs_are : runs (bare new) height root ≡ ahead (bare m) height x ++ (all_below (bare m) zero (links es) ++ behind (bare m) height x)

module _ (m : Memory) (height root : ℕ) (t : IsShape (bare m) height root) (exact : AreExact m) (x : ℕ) (xis : x < length m.heads) (leaf : level_of (bare m) x ≡ 0) where
  abbrev new : List Entry → Memory
  new es = with_entries m x es

  bare-new : (es : List Entry) → bare (new es) ≡ with_entries (bare m) x (links es)
  bare-new es = ap (λ rs. bare_of m.heads rs m.room) (map-set links m.rows x es)

  fits-one : (l : Entry) (z : Totals) → IsRunAt l z → Fits (bare m) x zero l
  fits-one (Here r) z h = tt
  fits-one (Down c ts) z h = h

  fits-new : (es : List Entry) → AllByRecursion IsLeafEntry es → AllByRecursion (Fits (bare m) x zero) (links es)
  fits-new [] all = tt
  fits-new (e ∷ es) all = (fits-one (strip e) (entry_totals e) all.0, fits-new es all.1)

  exact-run : (es : List Entry) (l : Entry) (z : Totals) → IsRunAt l z → IsExactAt (new es) l z
  exact-run es (Here r) z h = h
  exact-run es (Down c ts) z h = absurd h

  exact-new : (es : List Entry) → AllByRecursion IsLeafEntry es → AreExactBut x (new es)
  exact-new es all id is =
      let R : Entry → Type 0 = λ e. child_count x ((strip e) ∷ []) ≡ 0 → IsLocal (new es) e in
      elim (cases_eq id x) [
        | inl e ↦ subst (AllByRecursion R) (sym (ap (λ n. entries (new es) n) e ∙ get_or-set_same m.rows x es [] (omega (arith, xis, t.same, length-rows m)))) (each-all IsLeafEntry R (λ y h z. exact-run es (strip y) (entry_totals y) h) es all)
        | inr ne ↦ subst (AllByRecursion R) (sym (get_or-set_other m.rows x id es [] ne)) (each-all (IsLocal m) R (λ y h z. exact-frame m x es y z h) (entries m id) (exact id is))
      ]

  changed_to : (es : List Entry) → AllByRecursion IsLeafEntry es → Changed m (new es) height root x es
  changed_to es all =
      let b = bare-new es in
      record {
        tree = subst (λ s. IsShape s height root) (sym b) (leaf_tree (bare m) height root t x xis (links es) leaf (fits-new es all));
        exact = exact-new es all;
        runs_are = ap (λ s. runs s height root) b ∙ leaf_runs (bare m) height root t x xis (links es) leaf (fits-new es all);
      }

  -- other entries in a leaf
  pub changed : (new : Memory) (es : List Entry) → new ≡ with_entries m x es → AllByRecursion IsLeafEntry es → Changed m new height root x es
  changed n es is all = let P : Memory → Type 0 = λ y. Changed m y height root x es in subst P (sym is) (changed_to es all)

  leaf-one : (l : Entry) (z : Totals) → Fits (bare m) x zero l → IsExactAt m l z → IsRunAt l z
  leaf-one (Here r) z f h = h
  leaf-one (Down c ts) z f h = f

  -- the entries of a leaf are runs
  pub leaf-entries : AllByRecursion IsLeafEntry (entries m x)
  leaf-entries = each-both (λ (e : Entry). Fits (bare m) x zero (strip e)) (IsLocal m) IsLeafEntry (λ e f h. leaf-one (strip e) (entry_totals e) f h) (entries m x) (fits-entries m height root t x zero xis leaf) (exact x xis)

pub bare_with : (m : Memory) (x : ℕ) (es : List Entry) → bare (with_entries m x es) ≡ with_entries (bare m) x (links es)
bare_with m x es = ap (λ rs. bare_of m.heads rs m.room) (map-set links m.rows x es)

module _ {X : Type 0} (P : X → Type 0) where
  pub each-set : (xs : List X) (i : ℕ) (y : X) → AllByRecursion P xs → P y → AllByRecursion P (set xs i y)
  each-set [] i y all p = tt
  each-set (x ∷ xs) zero y all p = (p, all.1)
  each-set (x ∷ xs) (suc i) y all p = (all.0, each-set xs i y all.1 p)

module _ {X : Type 0} (P : X → Type 0) where
  pub each-insert : (xs : List X) (i : ℕ) (y : X) → AllByRecursion P xs → P y → AllByRecursion P (insert xs i y)
  each-insert xs i y all p =
      let whole : AllByRecursion P (take i xs ++ drop i xs) = subst (AllByRecursion P) (sym (take-append-drop i xs)) all in
      each-append P (take i xs) (y ∷ drop i xs) (each-front P (take i xs) (drop i xs) whole) (p, each-back P (take i xs) (drop i xs) whole)
