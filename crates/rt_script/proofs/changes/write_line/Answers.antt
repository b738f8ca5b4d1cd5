use Rattle.rt_script.proofs.ChangeLines.{in_four}
use Rattle.rt_script.proofs.changes.write_line.Goals as goal

pub returns : goal.returns
returns g c =
    in_four _ _ _ _ _ c.write_all-2.result _ _ _ _ c.in_ok-write_all.ensures.wrote c.in_ok-write_parts.ensures.wrote c.in_ok-write_names.ensures.wrote c.write_all-2.ensures.wrote
