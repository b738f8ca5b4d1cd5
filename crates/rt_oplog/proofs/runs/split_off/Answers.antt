use Rattle.std.proofs.Common.{◌≡◌, ◌++◌, ◌-◌, take, drop, length, sym, ap, ◌∙◌, arith, take-append-drop}
use Rattle.rt_oplog.specs.declared.runs.TheConstants.{HALF}
use Rattle.rt_oplog.proofs.Merges.{rest_of}
use Rattle.rt_oplog.proofs.runs.split_off.Goals as goal

pub returns-clause-items : goal.returns-clause-items
returns-clause-items c =
    let runs = c.args.runs.now.items in
    let none = ap length c.requires.spare.0 in
    let rest = rest_of HALF c.deref.result.now in
    let fits = ap length rest in
    let items = rw (c.extend_from_slice.ensures.succeeds (omega (arith, none, c.deref.ensures.len, c.args.spare.ok.0, c.requires.spare.1, c.requires.few, c.requires.full))) at c.extend_from_slice.ensures.items in
    let later : c.extend_from_slice.new.self.items ≡ drop HALF runs = items ∙ ap (λ xs. xs ++ take (length c.deref.result.now - HALF) (drop HALF c.deref.result.now)) c.requires.spare.0 ∙ rest ∙ ap (drop HALF) c.deref.ensures.value in
    sym (ap (λ xs. xs ++ c.extend_from_slice.new.self.items) c.truncate.ensures.items ∙ ap (λ xs. take HALF runs ++ xs) later ∙ take-append-drop HALF runs)
