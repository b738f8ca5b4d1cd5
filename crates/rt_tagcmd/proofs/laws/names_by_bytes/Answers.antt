use Rattle.rt_tagcmd.proofs.ByBytes.{ascending_by_bytes, same_by_bytes}
use Rattle.rt_tagcmd.proofs.laws.names_by_bytes.Goals as goal

pub returns : goal.returns
returns c = record { same = same_by_bytes; ascending = ascending_by_bytes }
