use Rattle.std.proofs.Common.{◌∷◌, [], rules, subst, sym}
use Rattle.std.proofs.lemmas.Result.{err_from_is_err_and}
use Rattle.rt_tags.specs.Tags.{sel}
use Rattle.rt_plans.specs.Listed.{AreListed}
use Rattle.rt_rga.specs.Cells.{cells_of}
use Rattle.rt_text.proofs.doc.Doc.new.Goals as goal

listed_at_first : AreListed (sel ∷ []) (cells_of [])
listed_at_first = search rules

pub over-requires : goal.over-requires
over-requires g c = subst (AreListed (sel ∷ [])) (sym c.in_ok-replica.ensures.cells) listed_at_first

pub returns-clause-err : goal.returns-clause-err
returns-clause-err g c = c.over.ensures.err

pub new-requires : goal.new-requires
new-requires g c = record { store = c.requires.store; limit = c.requires.limit }

pub returns-in_err-replica : goal.returns-in_err-replica
returns-in_err-replica g c =
    let p = err_from_is_err_and c.from_residual.result c.from_residual.ensures.1 in
    rw (p.1, p.2) (record { ok = tt; err = c.in_err-replica.ensures.fault })
