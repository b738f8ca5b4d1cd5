-- Elements of a stretch by their places.
use Rattle.std.proofs.Common.{◌≡◌, ℕ, ◌+◌, ◌-◌, ◌<◌, ◌≤◌, List, [], ◌∷◌, ◌++◌, filter, true, false, refl, sym, ap, ◌∙◌, Bool, cond, arith, subst}
use Rattle.std.specs.List.{All, range_with_len}
use Rattle.std.proofs.lemmas.List.Elements.{All-append, All-weaker, filter-append, filter_passes}
use Rattle.std.proofs.lemmas.List.Sorted.{All-permutation}
use Rattle.rt_tagcmd.specs.declared.stretch.DumpStretch.{DumpStretch}
use Rattle.rt_tagcmd.specs.Elements.{Placed, by_place, is_at_place}
use Rattle.rt_tagcmd.specs.Stretches.{AreGathered, IsSortOf, is_in_stretch, within}
use Rattle.rt_tagcmd.proofs.Bools.{between, is_between, split}
use Rattle.rt_tagcmd.proofs.Placing.{at_is, elsewhere, same_places, spread}

abbrev pub IsInside : DumpStretch → Placed → Type 0
IsInside s e = (s.from ≤ e.place) × (e.place < s.behind)

-- WHAT STANDS AT A PLACE OF THE STRETCH

kept : (s : DumpStretch) (e : Placed) (es : List Placed) → is_in_stretch s e.place ≡ true → within s (e ∷ es) ≡ e ∷ within s es
kept s e es t = ap (λ b. cond b (e ∷ within s es) (within s es)) t

left : (s : DumpStretch) (e : Placed) (es : List Placed) → is_in_stretch s e.place ≡ false → within s (e ∷ es) ≡ within s es
left s e es f = ap (λ b. cond b (e ∷ within s es) (within s es)) f

clash : (b : Bool) → b ≡ true → b ≡ false → ⊥
clash true h k = cc
clash false h k = cc

same_within : (s : DumpStretch) (p : ℕ) (es : List Placed) → is_in_stretch s p ≡ true → filter (is_at_place p) (within s es) ≡ filter (is_at_place p) es
same_within s p [] h = refl
same_within s p (e ∷ es) h =
    let more = same_within s p es h in
    split (is_in_stretch s e.place)
    (λ t. ap (filter (is_at_place p)) (kept s e es t)
    ∙ ap (λ v. cond (is_at_place p e) (e ∷ v) v) more)
    (λ f. ap (filter (is_at_place p)) (left s e es f) ∙ more
    ∙ split (is_at_place p e)
    (λ t. absurd (clash (is_in_stretch s e.place) (ap (is_in_stretch s) (at_is e.place p t) ∙ h) f))
    (λ g. sym (elsewhere p e es g)))

-- GATHERED

-- elements of the stretch, put in order
pub sorted : (s : DumpStretch) (all xs ys : List Placed) → xs ≡ within s all → IsSortOf xs ys → AreGathered s all ys
sorted s all xs ys e o = record {
  inside = All-permutation (IsInside s) xs ys o.permuted (subst (All (IsInside s)) (sym e) (All-weaker (λ x. is_in_stretch s x.place ≡ true) (IsInside s) (λ x t. between s.from s.behind x.place t) (within s all) (filter_passes (λ x. is_in_stretch s x.place) all)));
  rise = o.rise;
  same = λ place l h. o.same place ∙ ap (filter (is_at_place place)) e ∙ same_within s place all (is_between s.from s.behind place l h);
}

-- and more elements of the stretch, put in order with them
pub with_more : (s : DumpStretch) (all xs more ys : List Placed) → AreGathered s all xs → All (IsInside s) more → IsSortOf (xs ++ more) ys → AreGathered s (all ++ more) ys
with_more s all xs more ys g i o = record {
  inside = All-permutation (IsInside s) (xs ++ more) ys o.permuted (All-append (IsInside s) xs more g.inside i);
  rise = o.rise;
  same = λ place l h. o.same place ∙ filter-append (is_at_place place) xs more ∙ ap (λ v. v ++ filter (is_at_place place) more) (g.same place l h) ∙ sym (filter-append (is_at_place place) all more);
}

-- they are the elements of the stretch place by place
pub gathered : (s : DumpStretch) (all ys : List Placed) → AreGathered s all ys → ys ≡ by_place (range_with_len s.from (s.behind - s.from)) all
gathered s all ys g =
    let n = s.behind - s.from in
    spread n s.from ys g.rise (All-weaker (IsInside s) (λ e. s.from ≤ e.place) (λ e i. i.0) ys g.inside) (All-weaker (IsInside s) (λ e. e.place < s.from + n) (λ e i. high e i) ys g.inside)
    ∙ same_places n s.from ys all (λ p l h. g.same p l (omega arith))
  where
    high : (e : Placed) → IsInside s e → e.place < s.from + (s.behind - s.from)
    high e i = let low : s.from ≤ e.place = i.0 in let far : e.place < s.behind = i.1 in omega arith
