use Rattle.rt_tags.proofs.Spreading.{fewer, replaced, spread}
use Rattle.rt_tags.proofs.laws.replaced_stretches.Goals as goal

pub returns-clause-spread : goal.returns-clause-spread
returns-clause-spread g c = spread

pub returns-clause-replaced : goal.returns-clause-replaced
returns-clause-replaced g c = replaced

pub returns-clause-fewer : goal.returns-clause-fewer
returns-clause-fewer g c = fewer
