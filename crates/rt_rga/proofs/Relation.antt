-- The reading by recursion is the reading by cases.
use Rattle.std.proofs.Common.{◌≡◌, ℕ, true, false, refl, sym, ap, ◌∙◌, subst, arith, zero, suc, ◌≤◌, length, List, [], ◌∷◌, ◌++◌, cond, append_assoc, reverse}
use Rattle.std.proofs.lemmas.Bool.Decides.{nat_tests}
use mathlib.Core.List.{reverse-cons}
use Rattle.std.proofs.lemmas.List.{append-nil}
use Rattle.std.specs.List.{AllByRecursion, filter, flat_map}
use Rattle.rt_stamps.specs.declared.stamp.Stamp.{Stamp}
use Rattle.rt_stamps.specs.Stamps.{is_before, is_same}
use Rattle.rt_stamps.specs.declared.stamp.TheConstants.{ROOT}
use Rattle.rt_rga.specs.Reading.{Character, descendants, reading_by_stamp, children, forest, reading, ReadsSiblings, none, next, IsReading}
use Rattle.rt_rga.proofs.Rooted.{IsAscending, IsRooted, IsTree}
use Rattle.rt_rga.proofs.Skipping.{AllAfter, all_weaker}
use Rattle.rt_stamps.proofs.Order.{before_irrefl}

pub reads_once : {cs ks xs ys : List Character} → ReadsSiblings cs ks xs → ReadsSiblings cs ks ys → xs ≡ ys
reads_once none none = refl
reads_once (next {c = c} {inner = i} {rest = r} a b) (next {inner = j} {rest = s} d e) =
    let p : i ≡ j = reads_once a d in
    let q : r ≡ s = reads_once b e in
    cc

pub reads_append : {cs ks xs : List Character} → ReadsSiblings cs ks xs → {js ys : List Character} → ReadsSiblings cs js ys → ReadsSiblings cs (ks ++ js) (xs ++ ys)
reads_append none k = k
reads_append (next {c = c} {inner = i} {rest = r} a b) {ys = ys} k = rw (append_assoc i r ys) (next a (reads_append b k))

kept_left : (p s c : Stamp) → is_before p c ≡ true → is_before s c ≡ false → is_same p s ≡ false
kept_left p s c h k = grind (arith, nat_tests)

kept_bound : (s m c : Stamp) → is_before m c ≡ true → is_before s c ≡ false → is_before s m ≡ false
kept_bound s m c h k = grind (arith, nat_tests)

abbrev of_parent : Stamp → List Character → List Character
of_parent s cs = filter (λ c. is_same c.left s) cs

alone : (all : List Character) (c : Character) (inner : List Character) → ReadsSiblings all (children all c.stamp) inner → ReadsSiblings all (c ∷ []) (c ∷ inner)
alone all c inner r = subst (λ xs. ReadsSiblings all (c ∷ []) (c ∷ xs)) (append-nil inner) (next r none)

-- The characters after a stamp m have all children of what isn't before m.
reads_from : (all : List Character) (cs : List Character) (m : Stamp)
    → ((s : Stamp) → is_before s m ≡ false → of_parent s all ≡ of_parent s cs)
    → AllAfter m cs → IsAscending cs → AllByRecursion (λ d. is_before d.left d.stamp ≡ true) cs
    → (p : Stamp) → ReadsSiblings all (children cs p) (descendants cs p)
reads_from all [] m f a asc g p = none
reads_from all (c ∷ cs) m f a asc g p =
    let f' : (s : Stamp) → is_before s c.stamp ≡ false → of_parent s all ≡ of_parent s cs
    = λ s h. f s (kept_bound s m c.stamp a.0 h) ∙ rw (kept_left c.left s c.stamp g.0 h) in
    let own : children all c.stamp ≡ children cs c.stamp = ap reverse (f' c.stamp (before_irrefl c.stamp)) in
    elim (is_same c.left p) as (λ t. ReadsSiblings all (reverse (cond t (c ∷ of_parent p cs) (of_parent p cs))) (cond t (descendants cs p ++ c ∷ descendants cs c.stamp) (descendants cs p))) [
      | true ↦ subst (λ ks. ReadsSiblings all ks (descendants cs p ++ c ∷ descendants cs c.stamp)) (sym (reverse-cons c (of_parent p cs)))
          (reads_append (reads_from all cs c.stamp f' asc.0 asc.1 g.1 p) (alone all c (descendants cs c.stamp)
          (subst (λ ks. ReadsSiblings all ks (descendants cs c.stamp)) (sym own) (reads_from all cs c.stamp f' asc.0 asc.1 g.1 c.stamp))))
      | false ↦ reads_from all cs c.stamp f' asc.0 asc.1 g.1 p
    ]

nothing_before_root : (cs : List Character) → AllByRecursion (λ d. is_before d.left d.stamp ≡ true) cs → AllAfter ROOT cs
nothing_before_root [] g = tt
nothing_before_root (c ∷ cs) g = (after_root c.left c.stamp g.0, nothing_before_root cs g.1)
  where
    after_root : (p s : Stamp) → is_before p s ≡ true → is_before ROOT s ≡ true
    after_root p s h = grind (arith, nat_tests)

-- The reading by recursion is depth first.
pub reading_reads : (cs : List Character) → IsTree cs → IsReading cs (reading_by_stamp cs)
reading_reads cs t =
    let g = all_weaker (IsRooted cs) (λ d. is_before d.left d.stamp ≡ true) (λ d r. r.greater) cs t.rooted in
    reads_from cs cs ROOT (λ s h. refl) (nothing_before_root cs g) t.ascending g ROOT

-- It is the one reading.
pub reading_once : (cs xs : List Character) → IsTree cs → IsReading cs xs → xs ≡ reading_by_stamp cs
reading_once cs xs t r = reads_once r (reading_reads cs t)

-- The function that goes depth first is that reading too.

flat_map_append : {X Y : Type 0} (f : X → List Y) (xs ys : List X) → flat_map f (xs ++ ys) ≡ flat_map f xs ++ flat_map f ys
flat_map_append f [] ys = refl
flat_map_append f (x ∷ xs) ys = ap (λ zs. f x ++ zs) (flat_map_append f xs ys) ∙ sym (append_assoc (f x) (flat_map f xs) (flat_map f ys))

forest_append : (n : ℕ) (all xs : List Character) (c : Character) → forest (suc n) all (xs ++ c ∷ []) ≡ forest (suc n) all xs ++ c ∷ forest n all (children all c.stamp)
forest_append n all xs c =
    flat_map_append (λ d. d ∷ forest n all (children all d.stamp)) xs (c ∷ [])
    ∙ ap (λ zs. flat_map (λ d. d ∷ forest n all (children all d.stamp)) xs ++ c ∷ zs) (append-nil (forest n all (children all c.stamp)))

forest_none : (n : ℕ) (all : List Character) → forest n all [] ≡ []
forest_none zero all = refl
forest_none (suc n) all = refl

forest_from : (all : List Character) (cs : List Character) (m : Stamp) (n : ℕ) → length cs ≤ n
    → ((s : Stamp) → is_before s m ≡ false → of_parent s all ≡ of_parent s cs)
    → AllAfter m cs → IsAscending cs → AllByRecursion (λ d. is_before d.left d.stamp ≡ true) cs
    → (p : Stamp) → forest n all (children cs p) ≡ descendants cs p
forest_from all [] m n l f a asc g p = forest_none n all
forest_from all (c ∷ cs) m zero l f a asc g p = absurd (omega arith)
forest_from all (c ∷ cs) m (suc n) l f a asc g p =
    let f' : (s : Stamp) → is_before s c.stamp ≡ false → of_parent s all ≡ of_parent s cs
    = λ s h. f s (kept_bound s m c.stamp a.0 h) ∙ rw (kept_left c.left s c.stamp g.0 h) in
    let own : children all c.stamp ≡ children cs c.stamp = ap reverse (f' c.stamp (before_irrefl c.stamp)) in
    let inner : forest n all (children all c.stamp) ≡ descendants cs c.stamp = ap (forest n all) own ∙ forest_from all cs c.stamp n (omega arith) f' asc.0 asc.1 g.1 c.stamp in
    let rest : forest (suc n) all (children cs p) ≡ descendants cs p = forest_from all cs c.stamp (suc n) (omega arith) f' asc.0 asc.1 g.1 p in
    elim (is_same c.left p) as (λ t. forest (suc n) all (reverse (cond t (c ∷ of_parent p cs) (of_parent p cs))) ≡ cond t (descendants cs p ++ c ∷ descendants cs c.stamp) (descendants cs p)) [
      | true ↦ ap (forest (suc n) all) (reverse-cons c (of_parent p cs)) ∙ forest_append n all (children cs p) c ∙ ap (λ zs. zs ++ c ∷ forest n all (children all c.stamp)) rest ∙ ap (λ zs. descendants cs p ++ c ∷ zs) inner
      | false ↦ rest
    ]

pub reading_is : (cs : List Character) → IsTree cs → reading cs ≡ reading_by_stamp cs
reading_is cs t =
    let g = all_weaker (IsRooted cs) (λ d. is_before d.left d.stamp ≡ true) (λ d r. r.greater) cs t.rooted in
    forest_from cs cs ROOT (length cs) (omega arith) (λ s h. refl) (nothing_before_root cs g) t.ascending g ROOT
