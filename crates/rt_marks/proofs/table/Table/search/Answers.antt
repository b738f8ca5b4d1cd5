use Rattle.std.proofs.Common.{rules, of_calls, subst}
use Rattle.std.specs.List.Sorted.{IsBinarySearchResult}
use Rattle.std.proofs.lemmas.Fn.{always_returns_same}
use Rattle.rt_marks.specs.Marks.{name_order}
use Rattle.rt_marks.specs.Seen.{in_slot}
use Rattle.rt_marks.specs.Tables.{slots_of}
use Rattle.rt_marks.proofs.Searching.{found_from, gap_from}
use Rattle.rt_marks.proofs.table.Table.search.Goals as goal

pub returns-clause-found : goal.returns-clause-found
returns-clause-found c =
    let f = in_slot (slots_of c.args.self.now) in
    let searched = c.binary_search_by.ensures.position (λ s. name_order (f s).name c.args.name.now) (always_returns_same _ _ _ (λ a r f k. search (rules, of_calls))) in
    found_from c.args.name.now (slots_of c.args.self.now) c.args.self.now.by_name.items c.binary_search_by.result (subst (λ v. IsBinarySearchResult (λ s. name_order (f s).name c.args.name.now) v c.binary_search_by.result) c.as_slice.ensures.value searched)

pub returns-clause-gap : goal.returns-clause-gap
returns-clause-gap c =
    let f = in_slot (slots_of c.args.self.now) in
    let searched = c.binary_search_by.ensures.position (λ s. name_order (f s).name c.args.name.now) (always_returns_same _ _ _ (λ a r f k. search (rules, of_calls))) in
    gap_from c.args.name.now (slots_of c.args.self.now) c.args.self.now.by_name.items c.binary_search_by.result c.requires.ascending (subst (λ v. IsBinarySearchResult (λ s. name_order (f s).name c.args.name.now) v c.binary_search_by.result) c.as_slice.ensures.value searched)
