use Rattle.std.proofs.Common.{refl, subst, sym}
use Rattle.rt_script.specs.Telling.{TellsChanges}
use Rattle.rt_script.proofs.Untold.{unchanged}
use Rattle.rt_script.proofs.telling.words_tell.Goals as goal

pub returns-in_default-clause-tells : goal.returns-in_default-clause-tells
returns-in_default-clause-tells c =
    let site = c.args.site.now in
    subst (TellsChanges site site) (sym c.untold.ensures.changes) (unchanged site site refl)

pub returns-then-is_receive-clause-tells : goal.returns-then-is_receive-clause-tells
returns-then-is_receive-clause-tells c =
    let site = c.args.site.now in
    subst (TellsChanges site site) (sym c.untold-then-is_receive.ensures.changes) (unchanged site site refl)
