use Rattle.rt_holding.proofs.Finding.{files_find, offers_find}
use Rattle.rt_holding.proofs.OneWay.{files_go}
use Rattle.rt_holding.proofs.Settling.{ample_settled, settled_finds}
use Rattle.rt_holding.proofs.laws.one_way.Goals as goal

pub returns-clause-settles : goal.returns-clause-settles
returns-clause-settles g c = ample_settled

pub returns-clause-found : goal.returns-clause-found
returns-clause-found g c = settled_finds

pub returns-clause-files : goal.returns-clause-files
returns-clause-files g c log limit after = files_go log limit after

pub returns-clause-offers_found : goal.returns-clause-offers_found
returns-clause-offers_found g c log limit after = offers_find log limit after

pub returns-clause-files_found : goal.returns-clause-files_found
returns-clause-files_found g c log limit after = files_find log limit after
