-- Summaries of nodes, with their totals and without.
use Rattle.std.proofs.Common.{◌≡◌, ℕ, zero, suc, ◌++◌, List, [], ◌∷◌, drop, take, refl, ap, subst, sym, ◌∙◌, Option}
use Rattle.rt_nodes.specs.Nodes.{entries}
use Rattle.rt_tags.specs.Borders.{one_or_none}
use Rattle.rt_tags.specs.States.{TagStates}
use Rattle.rt_tree.specs.declared.node.Entry.{Entry}
use Rattle.rt_tree.specs.declared.summary.Summary.{Summary}
use Rattle.rt_tree.specs.Changes.{above, bare, links, strip}
use Rattle.rt_tree.specs.Shape.{Memory, all_below, left_of, level_of, parent_of, right_of}
use Rattle.rt_tree.specs.Summaries.{AreSummed, AreSummedBut, IsSummary, left_in, right_in, shown_before, shown_behind, shown_states, summary_of}
use Rattle.rt_tree.proofs.Bares.{bare-entries}
use Rattle.rt_tree.proofs.Wholes.{below-bare, flat-bare, left-bare, right-bare, runs-bare}

take_links : (n : ℕ) (es : List Entry) → take n (links es) ≡ links (take n es)
take_links zero es = refl
take_links (suc n) [] = refl
take_links (suc n) (e ∷ es) = ap (λ l. strip e ∷ l) (take_links n es)

drop_links : (n : ℕ) (es : List Entry) → drop n (links es) ≡ links (drop n es)
drop_links zero es = refl
drop_links (suc n) [] = refl
drop_links (suc n) (e ∷ es) = drop_links n es

module _ (m : Memory) where
  part-bare : (k : ℕ) (id : ℕ) (f : List Entry → List Entry) → ((es : List Entry) → f (links es) ≡ links (f es)) → all_below (bare m) k (f (entries (bare m) id)) ≡ all_below m k (f (entries m id))
  part-bare k id f same = ap (λ es. all_below (bare m) k (f es)) (bare-entries m id) ∙ ap (all_below (bare m) k) (same (entries m id)) ∙ flat-bare m k (below-bare m k) (f (entries m id))

  above-bare : (j x : ℕ) → above (bare m) j x ≡ above m j x
  above-bare zero x = refl
  above-bare (suc j) x = ap (parent_of m) (above-bare j x)

  left_in-bare : (j x : ℕ) → left_in (bare m) j x ≡ left_in m j x
  left_in-bare zero x = refl
  left_in-bare (suc j) x =
      (λ i. all_below (bare m) (suc j) (left_of (above-bare j x i) (entries (bare m) (above-bare (suc j) x i))) ++ left_in-bare j x i)
      ∙ ap (λ l. l ++ left_in m j x) (part-bare (suc j) (above m (suc j) x) (left_of (above m j x)) (left-bare m (above m j x)))

  right_in-bare : (j x : ℕ) → right_in (bare m) j x ≡ right_in m j x
  right_in-bare zero x = refl
  right_in-bare (suc j) x =
      (λ i. right_in-bare j x i ++ all_below (bare m) (suc j) (right_of (above-bare j x i) (entries (bare m) (above-bare (suc j) x i))))
      ∙ ap (λ l. right_in m j x ++ l) (part-bare (suc j) (above m (suc j) x) (right_of (above m j x)) (right-bare m (above m j x)))

  before-bare : (j x i : ℕ) → shown_before (bare m) j x i ≡ shown_before m j x i
  before-bare j x i = (λ k. shown_states (left_in-bare j x k ++ part-bare 0 x (take i) (take_links i) k))

  behind-bare : (j x i : ℕ) → shown_behind (bare m) j x i ≡ shown_behind m j x i
  behind-bare j x i = (λ k. shown_states (part-bare 0 x (drop (suc i)) (drop_links (suc i)) k ++ right_in-bare j x k))

  -- summaries are the same ones
  pub summed-bare : (table : TagStates) (sums : List Summary) → AreSummed table m sums → AreSummed table (bare m) sums
  summed-bare table sums are id is = subst (λ rs. IsSummary table (shown_states rs) (summary_of sums id)) (sym (runs-bare m (level_of m id) id)) (are id is)

  pub but-bare : (table : TagStates) (sums : List Summary) (height x i : ℕ) (old : Option ℕ) → AreSummedBut table (bare m) sums height x i old → AreSummedBut table m sums height x i old
  but-bare table sums height x i old but = record {
    path = λ j le.
        subst (λ id. IsSummary table (shown_before m j x i ++ (one_or_none old ++ shown_behind m j x i)) (summary_of sums id)) (above-bare j x)
        (subst (λ l. IsSummary table l (summary_of sums (above (bare m) j x))) (λ k. before-bare j x i k ++ (one_or_none old ++ behind-bare j x i k)) (but.path j le));
    others = λ id is off.
        subst (λ rs. IsSummary table (shown_states rs) (summary_of sums id)) (runs-bare m (level_of m id) id) (but.others id is (λ j le same. off j le (same ∙ above-bare j x)));
  }
