use Rattle.std.proofs.Common.{Option, Some, ap, arith, subst, sym, ◌+◌, ◌∙◌}
use Rattle.std.proofs.lemmas.Option.{slice_get-get_or}
use Rattle.rt_nodes.specs.Nodes.{entries}
use Rattle.rt_spans.specs.Shown.{value_of}
use Rattle.rt_tree.specs.declared.homes.Homes.{Homes}
use Rattle.rt_tree.specs.declared.node.Entry.{Entry}
use Rattle.rt_tree.proofs.Leaves.{AreToldTo, all_told, here_low, told_down, told_here}
use Rattle.rt_tree.proofs.Sure.{held_none, stands_without}
use Rattle.rt_tree.proofs.homes.Homes.retell_all.Goals.{in-Here, in-Down}
use Rattle.rt_tree.proofs.homes.Homes.retell_all.Goals as goal

-- one entry more
pub loop-i-preserved : goal.loop-i-preserved
loop-i-preserved c =
    let inv = c.loop-i.invariant in
    let m = c.args.mem.now in let node = c.args.node.index in let i = c.loop-i.i in
    let es = entries m node in
    let some : Entry → Option Entry = λ x. Some x in
    let here = slice_get-get_or es i c.read_entry.result (omega (arith, c.loop-i-test.true, c.len-i-end.ensures.value)) ∙ ap some (sym c.read_entry.ensures) in
    elim c.match-read_entry.branch [
      | in-Here w ↦
          let e = w.retell.ensures in let same = w.self-is in
          record {
            told = λ root t once cells was below. subst (λ (h : Homes). AreToldTo m root node (i + 1) h.leaves) (sym same)
                (told_here m root t once cells c.loop-i.self.leaves w.retell.new.self.leaves c.args.node i w.in-Here.run' c.requires.0 (here ∙ ap some w.in-Here.is) e.entered (inv.told root t once cells was below));
            keeps = λ stamp none. inv.keeps stamp (e.keeps stamp (ap (λ (h : Homes). value_of h.leaves stamp) (sym same) ∙ none));
            others = λ root t stamp none.
                let h = here ∙ ap some w.in-Here.is in
                let out = stands_without m root t stamp none node w.in-Here.run' (record { is = c.requires.0; low = here_low m root t node i w.in-Here.run' c.requires.0 h; entry = i; here = h }) in
                ap (λ (h : Homes). value_of h.leaves stamp) same ∙ e.others stamp (held_none w.in-Here.run' stamp out) ∙ inv.others root t stamp none;
            sure = ap (λ (h : Homes). h.sure) same ∙ e.sure ∙ inv.sure;
            left = ap (λ (h : Homes). h.left) same ∙ e.left ∙ inv.left;
          }
      | in-Down w ↦
          let same = w.self-is in
          record {
            told = λ root t once cells was below. subst (λ (h : Homes). AreToldTo m root node (i + 1) h.leaves) (sym same)
                (told_down m root node i c.loop-i.self.leaves w.in-Down.field-0 w.in-Down.field-1 (here ∙ ap some w.in-Down.is) (inv.told root t once cells was below));
            keeps = λ stamp none. inv.keeps stamp (ap (λ (h : Homes). value_of h.leaves stamp) (sym same) ∙ none);
            others = λ root t stamp none. ap (λ (h : Homes). value_of h.leaves stamp) same ∙ inv.others root t stamp none;
            sure = ap (λ (h : Homes). h.sure) same ∙ inv.sure;
            left = ap (λ (h : Homes). h.left) same ∙ inv.left;
          }
    ]

pub returns-clause-housed : goal.returns-clause-housed
returns-clause-housed c = λ root t once cells was below.
    let told = c.loop-i.invariant.told root t once cells was below in
    let many = c.len-i-end.ensures.value in
    (told.bordered, all_told c.args.mem.now root c.args.node.index c.loop-i.i c.loop-i.self.leaves (omega (arith, many, c.loop-i-test.false)) told)
