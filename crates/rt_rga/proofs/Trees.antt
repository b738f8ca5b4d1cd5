-- Trees of characters, and what a new character has_character of one.
use Rattle.std.proofs.Common.{◌≡◌, true, false, ◌⊎◌, inl, inr, refl, sym, ap, ◌∙◌, arith, List, [], ◌∷◌, cond, ◌||◌}
use Rattle.std.proofs.lemmas.Bool.Decides.{nat_tests}
use Rattle.std.specs.List.{AllByRecursion}
use Rattle.rt_stamps.specs.declared.stamp.Stamp.{Stamp}
use Rattle.rt_stamps.specs.Stamps.{is_before, is_same}
use Rattle.rt_stamps.specs.declared.stamp.TheConstants.{ROOT}
use Rattle.rt_rga.specs.Reading.{Character, descendants, reading_by_stamp, with_character, has_stamp}
use Rattle.rt_rga.proofs.Rooted.{IsAscending, IsRooted, IsTree}
use Rattle.rt_stamps.proofs.Order.{before_total, same_refl, same_from_true}
use Rattle.rt_rga.proofs.Skipping.{placed, split, all_weaker, AllAfter, law, member_choice, absent_after, all_after_trans}

-- what makes a new character one that a tree can take
pub record Fits (new : Character) (cs : List Character) : Type 0 where
  pub greater : is_before new.left new.stamp ≡ true
  pub known : (has_stamp cs new.left ≡ true) ⊎ (new.left ≡ ROOT)
  pub fresh : has_stamp cs new.stamp ≡ false

pub not_before_root : (s : Stamp) → is_before s ROOT ≡ false
not_before_root s = grind (arith, nat_tests)

-- what a test finds in no character
pub all_from_absent : (s : Stamp) (cs : List Character) → has_stamp cs s ≡ false → AllByRecursion (λ d. is_same d.stamp s ≡ false) cs
all_from_absent s [] h = tt
all_from_absent s (c ∷ cs) h = (grind arith, all_from_absent s cs (grind arith))

pub member_same : (cs : List Character) (a b : Stamp) → is_same a b ≡ true → has_stamp cs a ≡ has_stamp cs b
member_same cs a b h = ap (has_stamp cs) (same_from_true a b h)

-- no character of the tree is a child of a new one
not_child : (new : Character) (cs : List Character) → Fits new cs → (d : Character) → IsRooted cs d → is_same d.left new.stamp ≡ false
not_child new cs f d r = split (is_same d.left new.stamp)
    (λ e. elim r.known [
      | inl k ↦ absurd (let m = member_same cs d.left new.stamp e in cc (f.fresh, m, k))
      | inr k ↦ absurd (let m : new.stamp ≡ ROOT = sym (same_from_true d.left new.stamp e) ∙ k in
          let n : is_before new.left ROOT ≡ true = rw m at f.greater in cc (n, not_before_root new.left))
    ])
    (λ e. e)

pub law_tree : (new : Character) (cs : List Character) → IsTree cs → Fits new cs → (p : Stamp) → descendants (with_character new cs) p ≡ placed p new (descendants cs p)
law_tree new cs t f p =
    law new f.greater cs t.ascending
    (all_weaker (IsRooted cs) (λ d. is_before d.left d.stamp ≡ true) (λ d r. r.greater) cs t.rooted)
    (all_weaker (IsRooted cs) (λ d. is_same d.left new.stamp ≡ false) (λ d r. not_child new cs f d r) cs t.rooted)
    (all_from_absent new.stamp cs f.fresh) p

pub all_with : (P : Character → Type 0) (new : Character) → P new → (cs : List Character) → AllByRecursion P cs → AllByRecursion P (with_character new cs)
all_with P new h [] k = (h, tt)
all_with P new h (c ∷ cs) k = elim (is_before c.stamp new.stamp) as (λ t. AllByRecursion P (cond t (c ∷ with_character new cs) (new ∷ c ∷ cs))) [
  | true ↦ (k.0, all_with P new h cs k.1)
  | false ↦ (h, k)
]

pub ascending_with : (new : Character) (cs : List Character) → IsAscending cs → has_stamp cs new.stamp ≡ false → IsAscending (with_character new cs)
ascending_with new [] a f = (tt, tt)
ascending_with new (c ∷ cs) a f =
    elim (is_before c.stamp new.stamp) as (λ t. is_before c.stamp new.stamp ≡ t → IsAscending (cond t (c ∷ with_character new cs) (new ∷ c ∷ cs))) [
      | true ↦ λ e. (all_with (λ d. is_before c.stamp d.stamp ≡ true) new e cs a.0, ascending_with new cs a.1 (grind arith))
      | false ↦ λ e. let d : is_before new.stamp c.stamp ≡ true = before_total c.stamp new.stamp e (grind arith) in
          ((d, all_after_trans new.stamp c.stamp d cs a.0), a)
    ] refl

pub member_with : (new : Character) (cs : List Character) (s : Stamp) → has_stamp (with_character new cs) s ≡ (is_same new.stamp s || has_stamp cs s)
member_with new [] s = refl
member_with new (c ∷ cs) s = grind (arith, member_with new cs s)

-- what is known in a tree is known in a larger one
pub known_with : (new : Character) (cs : List Character) (s : Stamp) → (has_stamp cs s ≡ true) ⊎ (s ≡ ROOT)
    → (has_stamp (with_character new cs) s ≡ true) ⊎ (s ≡ ROOT)
known_with new cs s h = elim h [ inl k ↦ inl (rw (member_with new cs s, k) (grind arith)) | inr k ↦ inr k ]

pub rooted_with : (new : Character) (cs : List Character) (d : Character) → IsRooted cs d → IsRooted (with_character new cs) d
rooted_with new cs d r = record { greater = r.greater; known = known_with new cs d.left r.known }

pub tree_with : (new : Character) (cs : List Character) → IsTree cs → Fits new cs → IsTree (with_character new cs)
tree_with new cs t f = record {
  ascending = ascending_with new cs t.ascending f.fresh;
  rooted = all_with (IsRooted (with_character new cs)) new (record { greater = f.greater; known = known_with new cs new.left f.known }) cs
      (all_weaker (IsRooted cs) (IsRooted (with_character new cs)) (λ d r. rooted_with new cs d r) cs t.rooted);
}

-- Each character of the list is descendants one that isn't in the list.
module _ (R : Stamp → Type 0) (s : Stamp) where
  descendants_by : (c : Character) (cs : List Character) → is_before c.left c.stamp ≡ true → AllAfter c.stamp cs → R c.left
      → (is_same c.stamp s || has_stamp (descendants cs c.stamp) s) ≡ true
      → (p : Stamp) × (R p) × (has_stamp (c ∷ cs) p ≡ false) × (has_stamp (descendants (c ∷ cs) p) s ≡ true)
  descendants_by c cs g a r h = (
    c.left,
    r,
    absent_after c.left (c ∷ cs) (g, all_after_trans c.left c.stamp g cs a),
    member_choice c (is_same c.left c.left) (descendants cs c.left) (descendants cs c.stamp) s ∙ (rw (same_refl c.left, h) (grind arith)),
  )

  descendants_some : (cs : List Character) → IsAscending cs → AllByRecursion (λ d. is_before d.left d.stamp ≡ true) cs
      → AllByRecursion (λ d. R d.left) cs → has_stamp cs s ≡ true
      → (p : Stamp) × (R p) × (has_stamp cs p ≡ false) × (has_stamp (descendants cs p) s ≡ true)
  descendants_some [] a g r h = absurd (cc h)
  descendants_some (c ∷ cs) a g r h = split (is_same c.stamp s)
      (λ e. descendants_by c cs g.0 a.0 r.0 (grind (arith, e)))
      (λ e. let (p, rp, np, m) = descendants_some cs a.1 g.1 r.1 (grind (arith, h, e)) in
      split (is_same c.stamp p)
      (λ f. descendants_by c cs g.0 a.0 r.0 (let k : has_stamp (descendants cs c.stamp) s ≡ true = rw (same_from_true c.stamp p f) m in grind (arith, k)))
      (λ f. (p, rp, grind (arith, f, np), member_choice c (is_same c.left p) (descendants cs p) (descendants cs c.stamp) s ∙ grind (arith, m))))

-- Each character of a tree is in its reading.
pub complete : (cs : List Character) → IsTree cs → (s : Stamp) → has_stamp cs s ≡ true → has_stamp (reading_by_stamp cs) s ≡ true
complete cs t s h =
    let (p, known, absent, found) = descendants_some (λ p. (has_stamp cs p ≡ true) ⊎ (p ≡ ROOT)) s cs t.ascending
    (all_weaker (IsRooted cs) (λ d. is_before d.left d.stamp ≡ true) (λ d r. r.greater) cs t.rooted)
    (all_weaker (IsRooted cs) (λ d. (has_stamp cs d.left ≡ true) ⊎ (d.left ≡ ROOT)) (λ d r. r.known) cs t.rooted) h in
    elim known [ inl k ↦ absurd (cc (absent, k)) | inr k ↦ rw k at found ]
