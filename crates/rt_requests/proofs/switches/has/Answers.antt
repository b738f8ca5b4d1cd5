use Rattle.std.proofs.Common.{◌∙◌, bytes_eq, string_bytes, sym}
use Rattle.rt_requests.proofs.Counting.{any_map}
use Rattle.rt_requests.proofs.switches.has.Goals as goal

pub returns : goal.returns
returns c = c.is_among.ensures ∙ sym (any_map (λ switch. bytes_eq switch c.args.name.now) (λ w. string_bytes w) c.args.switches.now)
