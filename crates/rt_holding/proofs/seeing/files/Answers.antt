use Rattle.rt_holding.proofs.Seen.{files_seen, files_taken}
use Rattle.rt_holding.proofs.seeing.files.Goals as goal

pub returns-clause-seen : goal.returns-clause-seen
returns-clause-seen g c see log limit after seen_after = files_seen see log limit after seen_after

pub returns-clause-taken : goal.returns-clause-taken
returns-clause-taken g c log limit after = files_taken log limit after
