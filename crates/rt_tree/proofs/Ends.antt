-- Spots at which runs are known to end.
use Rattle.std.proofs.Common.{◌≡◌, ◌≢◌, inl, inr, ℕ, zero, suc, ◌+◌, ◌<◌, List, [], ◌∷◌, ◌++◌, Option, Some, None, take, slice_get, sym, ap, subst, ◌∙◌, arith, append_assoc}
use Rattle.std.specs.Prelude.{IfSome, MatchOption}
use Rattle.std.proofs.lemmas.Bool.{cases_eq}
use Rattle.rt_nodes.specs.Nodes.{entries}
use Rattle.rt_tree.specs.declared.node.Counts.{Counts}
use Rattle.rt_tree.specs.declared.node.Entry.{Entry}
use Rattle.rt_tree.specs.declared.node.Entry.TheVariants.{Here}
use Rattle.rt_tree.specs.declared.node.CountedBy.TheVariants.{Cells}
use Rattle.rt_tree.specs.declared.node.Run.{Run}
use Rattle.rt_tree.specs.declared.put.Known.{Known}
use Rattle.rt_tree.specs.declared.put.Known.TheVariants.{Behind, Nothing}
use Rattle.rt_tree.specs.declared.walk.Found.{Found}
use Rattle.rt_tree.specs.declared.walk.Spot.{Spot}
use Rattle.rt_tree.specs.Holds.{Holds, HoldsAt, IsEndAt, IsHeld}
use Rattle.rt_tree.specs.Shape.{Memory, ahead, all_below, below, level_of, runs_before}
use Rattle.rt_tree.specs.Sums.{counts_of, counts_of_run, plus}
use Rattle.rt_tree.specs.Walks.{IsSpot}
use Rattle.rt_tree.proofs.Edges.{counts_mid}
use Rattle.rt_tree.proofs.Amounts.{counts-append, plus-none}

-- the runs of the first entries of a leaf, and one more
taken : (m : Memory) (es : List Entry) (i : ℕ) (run : Run) → slice_get es i ≡ Some (Here run) → all_below m 0 (take (suc i) es) ≡ all_below m 0 (take i es) ++ run ∷ []
taken m [] i run is = cc
taken m (e ∷ es) zero run is = let h : e ≡ Here run = cc in ap (λ x. below m 0 x ++ []) h
taken m (e ∷ es) (suc i) run is = ap (λ l. below m 0 e ++ l) (taken m es i run is) ∙ sym (append_assoc (below m 0 e) (all_below m 0 (take i es)) (run ∷ []))

-- the run behind one that ends at a position begins there
pub next_spot : (m : Memory) (root at : ℕ) (spot : Spot) (i : ℕ) (run : Run) → IsEndAt m root at spot → i ≡ spot.entry + 1 → slice_get (entries m spot.leaf.index) i ≡ Some (Here run) → 0 < run.len → IsSpot m root Cells at spot.leaf.index i 0 run
next_spot m root at spot i run end next here some = record {
  is = end.is.is;
  low = end.is.low;
  here = here;
  at =
      let es = entries m spot.leaf.index in
      let front = all_below m 0 (take spot.entry es) in
      let before = ahead m (level_of m root) spot.leaf.index in
      let one : i ≡ suc spot.entry = omega (arith, next) in
      let cut = ap (λ l. (counts_of (before ++ l)).cells) (ap (λ k. all_below m 0 (take k es)) one ∙ taken m es spot.entry end.run end.is.here) in
      let same = ap (λ l. (counts_of l).cells) (sym (append_assoc before front (end.run ∷ []))) in
      let count = counts_mid (before ++ front) end.run [] in
      omega (arith, cut, same, count, end.is.at, end.last, end.next);
  inside = some;
}

-- what the runs before one count, and itself
pub counts_with : (m : Memory) (root leaf entry i : ℕ) (run : Run) (front : Counts) → IsHeld m root leaf entry run front → i ≡ entry + 1 → plus front (counts_of_run run) ≡ counts_of (runs_before m root leaf i)
counts_with m root leaf entry i run front held next =
    let es = entries m leaf in
    let before = ahead m (level_of m root) leaf in
    let first = all_below m 0 (take entry es) in
    let one : i ≡ suc entry = omega (arith, next) in
    let cut : runs_before m root leaf i ≡ (before ++ first) ++ run ∷ [] =
    ap (λ k. before ++ all_below m 0 (take k es)) one ∙ ap (λ l. before ++ l) (taken m es entry run held.here) ∙ sym (append_assoc before first (run ∷ [])) in
    ap (λ c. plus c (counts_of_run run)) held.before
    ∙ ap (plus (counts_of (before ++ first))) (sym (plus-none (counts_of_run run)))
    ∙ sym (counts-append (before ++ first) (run ∷ []))
    ∙ ap counts_of (sym cut)

-- the run behind one that stands in a leaf stands there too
pub next_held : (m : Memory) (root leaf entry i : ℕ) (run next : Run) (front : Counts) → IsHeld m root leaf entry run front → i ≡ entry + 1 → slice_get (entries m leaf) i ≡ Some (Here next) → IsHeld m root leaf i next (plus front (counts_of_run run))
next_held m root leaf entry i run next front held one here = record {
  is = held.is;
  low = held.low;
  here = here;
  before = counts_with m root leaf entry i run front held one;
}

-- what is known is known if the root has stayed
pub known_still : (was known : Known) (old now : ℕ) (m n : Memory) (root top at : ℕ) → (now ≡ old → known ≡ was) → (now ≢ old → known ≡ Nothing) → HoldsAt m root at was → (now ≡ old → (n ≡ m) × (top ≡ root)) → HoldsAt n top at known
known_still was known old now m n root top at same dropped is still = elim (cases_eq now old) [
  | inl e ↦
      let s = still e in
      let here = subst (HoldsAt m root at) (sym (same e)) is in
      subst (λ (x : Memory). HoldsAt x top at known) (sym s.0) (subst (λ r. HoldsAt m r at known) (sym s.1) here)
  | inr ne ↦ subst (HoldsAt n top at) (sym (dropped ne)) tt
]

-- a run is known to begin behind an end that is known
pub known_behind : (end : Option Spot) (known : Known) (m : Memory) (root at : ℕ) → MatchOption end (known ≡ Nothing) (λ spot. known ≡ Behind spot) → IfSome end (IsEndAt m root at) → HoldsAt m root at known
known_behind None known m root at is end = subst (HoldsAt m root at) (sym is) tt
known_behind (Some spot) known m root at is end = subst (HoldsAt m root at) (sym is) end

-- a run that is known to stand somewhere does while the nodes stay
pub held_still : (last held : Option Found) (done : ℕ) (m n : Memory) (root : ℕ) → (done ≡ 0 → held ≡ last) → (0 < done → held ≡ None) → IfSome last (Holds m root) → (done ≡ 0 → n ≡ m) → IfSome held (Holds n root)
held_still last held done m n root same dropped is still = elim (cases_eq done 0) [
  | inl e ↦ subst (λ (x : Memory). IfSome held (Holds x root)) (sym (still e)) (subst (λ (o : Option Found). IfSome o (Holds m root)) (sym (same e)) is)
  | inr ne ↦ subst (λ (o : Option Found). IfSome o (Holds n root)) (sym (dropped (omega (arith, ne)))) tt
]

-- the last cell of a run that stands at a spot
pub spot_end : (m : Memory) (root place at leaf entry offset : ℕ) (run : Run) → IsSpot m root Cells place leaf entry 0 run → offset + 1 ≡ run.len → place + run.len ≡ at → IsEndAt m root at (record { leaf = record { index = leaf }; entry = entry; offset = offset })
spot_end m root place at leaf entry offset run spot last next = record {
  run = run;
  place = place + offset;
  is = record { is = spot.is; low = spot.low; here = spot.here; at = omega (arith, spot.at); inside = omega (arith, last) };
  last = last;
  next = omega (arith, last, next);
}

-- the front of a run that is kept where it stands
pub kept_front : (m : Memory) (root : ℕ) (spot here : Spot) (run : Run) (front : Counts) → IsHeld m root here.leaf.index here.entry run front → here.leaf.index ≡ spot.leaf.index → here.entry ≡ spot.entry → front ≡ counts_of (runs_before m root spot.leaf.index spot.entry)
kept_front m root spot here run front held leaf entry =
    held.before ∙ ap (λ l. counts_of (runs_before m root l here.entry)) leaf ∙ ap (λ i. counts_of (runs_before m root spot.leaf.index i)) entry
