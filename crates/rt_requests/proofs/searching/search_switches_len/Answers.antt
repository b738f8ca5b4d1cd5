use Rattle.std.proofs.Common.{◌∙◌, string_bytes, sym}
use Rattle.rt_requests.specs.SearchWords.{is_search_switch}
use Rattle.rt_requests.proofs.Counting.{prefix_len_map}
use Rattle.rt_requests.proofs.searching.search_switches_len.Goals as goal

pub returns-clause-value : goal.returns-clause-value
returns-clause-value c = c.count_switches.ensures.value ∙ sym (prefix_len_map (λ w. string_bytes w) is_search_switch c.args.words.now)
