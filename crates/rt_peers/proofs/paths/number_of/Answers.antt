use Rattle.std.proofs.Common.{◌∙◌, sym}
use Rattle.rt_peers.proofs.PeerLaws.{place_of_strings}
use Rattle.rt_peers.proofs.paths.number_of.Goals as goal

pub returns : goal.returns
returns c = c.position_of.ensures ∙ sym (place_of_strings c.args.path.now c.args.paths.now)
