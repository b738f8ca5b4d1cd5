use Rattle.std.proofs.Common.{refl}
use Rattle.rt_script.proofs.Untold.{unchanged}
use Rattle.rt_script.proofs.site_lines.destroy.Goals as goal

pub returns-in-Err-clause-untold : goal.returns-in-Err-clause-untold
returns-in-Err-clause-untold c = unchanged c.args.site.now c.args.site.now refl
