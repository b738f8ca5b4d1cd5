-- The order of marks.
use Rattle.std.proofs.Common.{◌≡◌, true, false, refl, sym, ap, ◌∙◌}
use Rattle.std.specs.Ordering.{ordering_then, is_lt, ordering_reverse}
use Rattle.std.specs.Cmp.{IsTotalOrder}
use Rattle.std.proofs.lemmas.Cmp.{then_total, on_total, nat_cmp_total, nat_list_cmp_total, tied_itself}
use Rattle.std.specs.FinMap.{slice_cmp-IsAntisymmetric, nat_cmp-IsAntisymmetric}
use Rattle.std.specs.declared.cmp.Ordering.{Ordering}
use Rattle.std.specs.declared.cmp.Ordering.TheVariants.{Less, Equal, Greater}
use Rattle.rt_marks.specs.declared.gravity.Gravity.{Gravity}
use Rattle.rt_marks.specs.declared.gravity.Gravity.TheVariants.{Left, Right}
use Rattle.rt_marks.specs.Marks.{Mark, gravity_order, mark_order, comes_before}

gravity_total : IsTotalOrder gravity_order
gravity_total = record { antisymm = antisymm; trans = trans; congr = congr } where
  antisymm : (x y : Gravity) → gravity_order x y ≡ ordering_reverse (gravity_order y x)
  antisymm Left Left = refl
  antisymm Left Right = refl
  antisymm Right Left = refl
  antisymm Right Right = refl

  trans : (x y z : Gravity) → gravity_order x y ≡ Less → gravity_order y z ≡ Less → gravity_order x z ≡ Less
  trans Left Left z h k = k
  trans Left Right Left h k = cc
  trans Left Right Right h k = refl
  trans Right Left z h k = cc
  trans Right Right z h k = k

  congr : (x y z : Gravity) → gravity_order x y ≡ Equal → gravity_order x z ≡ gravity_order y z
  congr Left Left z h = refl
  congr Left Right z h = cc
  congr Right Left z h = cc
  congr Right Right z h = refl

same_gravity : (a b : Gravity) → gravity_order a b ≡ Equal → a ≡ b
same_gravity Left Left h = refl
same_gravity Left Right h = cc
same_gravity Right Left h = cc
same_gravity Right Right h = refl

pub mark_total : IsTotalOrder mark_order
mark_total = then_total (on_total (λ (m : Mark). m.place) nat_cmp_total) (then_total (on_total (λ (m : Mark). m.gravity) gravity_total) (on_total (λ (m : Mark). m.name) nat_list_cmp_total))

first_tied : (x y : Ordering) → ordering_then x y ≡ Equal → x ≡ Equal
first_tied Less y h = h
first_tied Equal y h = refl
first_tied Greater y h = h

second_tied : (x y : Ordering) → ordering_then x y ≡ Equal → y ≡ Equal
second_tied Less y h = cc
second_tied Equal y h = h
second_tied Greater y h = cc

-- marks that tie are one
pub same_mark : (a b : Mark) → mark_order a b ≡ Equal → a ≡ b
same_mark a b h =
    let p : a.place ≡ b.place = nat_cmp-IsAntisymmetric _ _ (first_tied _ _ h) in
    let rest = second_tied _ _ h in
    let g : a.gravity ≡ b.gravity = same_gravity _ _ (first_tied _ _ rest) in
    let n : a.name ≡ b.name = slice_cmp-IsAntisymmetric nat_cmp-IsAntisymmetric _ _ (second_tied _ _ rest) in
    λ i. record { name = n i; place = p i; gravity = g i }

less_from_lt : (o : Ordering) → is_lt o ≡ true → o ≡ Less
less_from_lt Less h = refl
less_from_lt Equal h = cc
less_from_lt Greater h = cc

reversed : (o : Ordering) → is_lt o ≡ true → is_lt (ordering_reverse o) ≡ false
reversed Less h = refl
reversed Equal h = cc
reversed Greater h = cc

neither : (o : Ordering) → is_lt o ≡ false → is_lt (ordering_reverse o) ≡ false → o ≡ Equal
neither Less h k = cc
neither Equal h k = refl
neither Greater h k = cc

module _ {X : Type 0} {R : X → X → Ordering} (o : IsTotalOrder R) where
  pub lt_trans : (a b c : X) → is_lt (R a b) ≡ true → is_lt (R b c) ≡ true → is_lt (R a c) ≡ true
  lt_trans a b c h k = ap is_lt (o.trans a b c (less_from_lt _ h) (less_from_lt _ k))

  pub lt_irrefl : (a : X) → is_lt (R a a) ≡ false
  lt_irrefl a = ap is_lt (tied_itself o a)

  pub lt_asym : (a b : X) → is_lt (R a b) ≡ true → is_lt (R b a) ≡ false
  lt_asym a b h = ap is_lt (o.antisymm b a) ∙ reversed (R a b) h

  pub lt_neither : (a b : X) → is_lt (R a b) ≡ false → is_lt (R b a) ≡ false → R a b ≡ Equal
  lt_neither a b h k = neither (R a b) h (sym (ap is_lt (o.antisymm b a)) ∙ k)

pub before_trans : (a b c : Mark) → comes_before a b ≡ true → comes_before b c ≡ true → comes_before a c ≡ true
before_trans = lt_trans mark_total

pub before_irrefl : (a : Mark) → comes_before a a ≡ false
before_irrefl = lt_irrefl mark_total

pub before_asym : (a b : Mark) → comes_before a b ≡ true → comes_before b a ≡ false
before_asym = lt_asym mark_total

pub before_neither : (a b : Mark) → comes_before a b ≡ false → comes_before b a ≡ false → a ≡ b
before_neither a b h k = same_mark a b (lt_neither mark_total a b h k)
