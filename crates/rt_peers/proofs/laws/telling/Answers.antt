use Rattle.std.proofs.Common.{Ok, ap}
use Rattle.rt_recording.specs.EditedValue.{EditedValue}
use Rattle.rt_peers.proofs.Calls.{reads_leaves}
use Rattle.rt_peers.proofs.PeerLaws.{text_back}
use Rattle.rt_peers.proofs.ReadingLaws.{reads_told}
use Rattle.rt_peers.proofs.laws.telling.Goals as goal

pub returns : goal.returns
returns c = record {
  back = λ place text. text_back text place;
  told = λ place state reply. ap (λ (text : EditedValue). Ok (reply, record state { text = text })) (text_back state.text place);
  reads = reads_told;
  left = reads_leaves;
}
