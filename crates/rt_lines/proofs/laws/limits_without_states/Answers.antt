use Rattle.rt_lines.proofs.Shown.{chosen_shown, first_shown, last_shown, stretch_shown}
use Rattle.rt_lines.proofs.laws.limits_without_states.Goals as goal

pub returns-clause-stretch : goal.returns-clause-stretch
returns-clause-stretch g c f cells limits = stretch_shown f cells limits

pub returns-clause-first : goal.returns-clause-first
returns-clause-first g c f cells limits = first_shown f cells limits

pub returns-clause-last : goal.returns-clause-last
returns-clause-last g c f cells limits = last_shown f cells limits

pub returns-clause-chosen : goal.returns-clause-chosen
returns-clause-chosen g c f cells start end limits = chosen_shown f cells start end limits
