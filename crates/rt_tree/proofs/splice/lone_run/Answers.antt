use Rattle.std.proofs.Common.{List, ◌-◌, length, drop, sym, subst, arith}
use Rattle.std.proofs.lemmas.List.{length-drop, take_all}
use Rattle.rt_store.specs.declared.cell.Cell.{Cell}
use Rattle.rt_tree.specs.Additions.{EndsWith}
use Rattle.rt_tree.proofs.Splicing.{ends_later}
use Rattle.rt_tree.proofs.splice.lone_run.Goals as goal

pub first_run-requires-clause-last : goal.first_run-requires-clause-last
first_run-requires-clause-last c =
    let cells = c.args.cells.now in let k = c.args.done in
    let l = length-drop k cells in
    let e = take_all (length cells - k) (drop k cells) (omega (arith, l)) in
    subst (λ (x : List (Cell _)). EndsWith c.args.text.now x) (sym e) (ends_later c.args.text.now cells k (let s = c.requires.some in omega (arith, s)) c.requires.last)
