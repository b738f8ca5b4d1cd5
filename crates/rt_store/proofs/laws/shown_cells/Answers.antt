use Rattle.rt_store.proofs.Shown.{gone_shown, shown_later, skip_shown, stamps_shown, text_shown}
use Rattle.rt_store.proofs.laws.shown_cells.Goals as goal
use Rattle.rt_tags.specs.States.{state_at}

pub returns-clause-text : goal.returns-clause-text
returns-clause-text c table cells = text_shown (state_at table) cells

pub returns-clause-stamps : goal.returns-clause-stamps
returns-clause-stamps c table cells = stamps_shown (state_at table) cells

pub returns-clause-place : goal.returns-clause-place
returns-clause-place c table cells left new = skip_shown (state_at table) cells left new

pub returns-clause-gone : goal.returns-clause-gone
returns-clause-gone c table spans cells = gone_shown (state_at table) spans cells

pub returns-clause-later : goal.returns-clause-later
returns-clause-later c old new cells = shown_later old new cells
