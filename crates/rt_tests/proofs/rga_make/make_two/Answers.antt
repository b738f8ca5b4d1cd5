use Rattle.std.proofs.Common.{refl, subst, sym}
use Rattle.rt_rga.specs.Requests.{MayBeMade}
use Rattle.rt_tests.proofs.rga_make.make_two.Goals as goal

pub make-requires : goal.make-requires
make-requires c =
    subst (λ (p : _). p) (λ j. MayBeMade (sym c.requires.site j) (sym c.requires.log j) (sym c.in_ok-drafts.ensures j))
    (refl, refl, (refl, refl, tt))
