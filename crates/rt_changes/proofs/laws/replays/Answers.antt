use Rattle.rt_changes.proofs.Exact.{changes_exact}
use Rattle.rt_changes.proofs.Texts.{changes_replay}
use Rattle.rt_changes.proofs.Told.{told_changes_are}
use Rattle.rt_changes.proofs.Within.{changes_within}
use Rattle.rt_changes.proofs.laws.replays.Goals as goal

pub returns-clause-one : goal.returns-clause-one
returns-clause-one c = changes_replay

pub returns-clause-within : goal.returns-clause-within
returns-clause-within c = changes_within

pub returns-clause-exact : goal.returns-clause-exact
returns-clause-exact c = changes_exact

pub returns-clause-told : goal.returns-clause-told
returns-clause-told c = told_changes_are
