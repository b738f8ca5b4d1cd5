use Rattle.std.proofs.Common.{◌∙◌, ap, sym, take, List}
use Rattle.rt_stamps.specs.Words.{Word, as_words}
use Rattle.rt_requests.specs.SearchWords.{asked_by_arguments, without_dashes}
use Rattle.rt_requests.proofs.Counting.{by_parts}
use Rattle.rt_requests.proofs.searching.of_search.Goals as goal

pub returns : goal.returns
returns c =
    let words = c.args.words.now in
    let n = c.search_switches_len-switches.result in
    let switches : List Word = as_words (take n words) in
    c.by_arguments.ensures ∙ ap (asked_by_arguments switches) c.without_dashes.ensures
    ∙ sym (by_parts (λ front back. asked_by_arguments front (without_dashes back)) words n _ c.search_switches_len-switches.ensures.value)
