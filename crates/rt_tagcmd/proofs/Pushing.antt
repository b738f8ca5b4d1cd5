-- Elements of a stretch, one behind the other, and as they are answered.
use Rattle.std.proofs.Common.{◌≡◌, ℕ, List, [], ◌∷◌, ◌++◌, map, filter, flat_map, refl, sym, ap, ◌∙◌, Bool, cond}
use Rattle.rt_tagcmd.specs.declared.stretch.DumpStretch.{DumpStretch}
use Rattle.rt_tagcmd.specs.Elements.{Element, Placed, answered}
use Rattle.rt_tagcmd.specs.Stretches.{is_in_stretch, within}
use Rattle.rt_tagcmd.proofs.Bools.{split}
use Rattle.rt_stamps.specs.declared.position.Position.{Position}
use Rattle.rt_stamps.specs.Places.{position_at}

-- one list for each of some elements
pub flat_over : {X Y : Type 0} (f : Y → List Placed) (g : X → Y) (xs : List X) → flat_map f (map g xs) ≡ flat_map (λ x. f (g x)) xs
flat_over f g [] = refl
flat_over f g (x ∷ xs) = ap (λ v. f (g x) ++ v) (flat_over f g xs)

abbrev makes : (s : DumpStretch) {X : Type 0} (f : X → Placed) → X → Bool
makes s f x = is_in_stretch s (f x).place

-- the elements of a stretch, made of what stands in it
pub within_made : (s : DumpStretch) {X : Type 0} (f : X → Placed) (xs : List X) → map f (filter (λ x. is_in_stretch s (f x).place) xs) ≡ within s (map f xs)
within_made s f [] = refl
within_made s f (x ∷ xs) =
    let more = within_made s f xs in
    split (is_in_stretch s (f x).place)
    (λ t. ap (λ b. map f (cond b (x ∷ filter (makes s f) xs) (filter (makes s f) xs))) t ∙ ap (λ v. f x ∷ v) more ∙ sym (ap (λ b. cond b (f x ∷ within s (map f xs)) (within s (map f xs))) t))
    (λ t. ap (λ b. map f (cond b (x ∷ filter (makes s f) xs) (filter (makes s f) xs))) t ∙ more ∙ sym (ap (λ b. cond b (f x ∷ within s (map f xs)) (within s (map f xs))) t))

-- an element at its place
pub at_its_place : (text : List ℕ) (e : Placed) (p : Position) (made : Element) → made ≡ record { key = e.key; value = e.value; position = p } → p ≡ position_at text e.place → made ≡ answered text e
at_its_place text e p made h k = h ∙ (λ i. record { key = e.key; value = e.value; position = k i })
