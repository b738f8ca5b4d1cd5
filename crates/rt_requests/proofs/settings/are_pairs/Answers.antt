use Rattle.std.proofs.Common.{string_bytes}
use Rattle.rt_requests.proofs.ReadSettings.{even_pairs}
use Rattle.rt_requests.proofs.settings.are_pairs.Goals as goal

pub returns : goal.returns
returns c = even_pairs (λ w. string_bytes w) c.args.words.now
