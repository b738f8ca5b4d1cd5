use Rattle.std.proofs.Common.{◌∙◌, string_bytes, sym}
use Rattle.std.proofs.lemmas.List.Folds.{list_all-map}
use Rattle.rt_requests.specs.SearchWords.{is_known_switch}
use Rattle.rt_requests.proofs.search_switches.all_known.Goals as goal

pub returns : goal.returns
returns c = c.are_known.ensures ∙ sym (list_all-map is_known_switch (λ w. string_bytes w) c.args.switches.now)
