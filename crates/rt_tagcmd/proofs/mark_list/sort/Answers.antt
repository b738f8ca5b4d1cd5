use Rattle.std.proofs.Common.{rules}
use Rattle.std.proofs.lemmas.List.Sorted.{answers_always, ranks_by}
use Rattle.rt_marks.proofs.Order.{mark_total}
use Rattle.rt_marks.specs.Marks.{comes_before}
use Rattle.rt_marks.specs.Seen.{spotted}
use Rattle.rt_tagcmd.proofs.Sorting.{sorted_are}
use Rattle.rt_tagcmd.proofs.mark_list.sort.Goals as goal

pub returns-clause-ok : goal.returns-clause-ok
returns-clause-ok c =
    sorted_are c.args.spots.now.items c.sort_by.new.self.items c.in_ok-sort_by.ensures.permutation
    (c.in_ok-sort_by.ensures.sorted (λ a b. comes_before (spotted a) (spotted b)) (ranks_by mark_total spotted) (answers_always _ _ _ (λ f a r g h. search rules)))
