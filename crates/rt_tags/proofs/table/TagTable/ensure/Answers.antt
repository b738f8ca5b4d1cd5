use Rattle.std.proofs.Common.{◌≡◌, ◌∙◌, ℕ, List, ap, false, inr, refl, subst, sym, take}
use Rattle.std.proofs.lemmas.Result.{err_from_is_err_and}
use Rattle.rt_tags.specs.Tags.{Tags, is_ready}
use Rattle.rt_tags.proofs.table.TagTable.ensure.Goals as goal

-- the tags of a listing
abbrev tags_of : ℕ → List (List ℕ) → Tags
tags_of listed names = record { names = take listed names; ready = names }

pub returns-in_err-check_name-clause-names : goal.returns-in_err-check_name-clause-names
returns-in_err-check_name-clause-names c =
    let p = err_from_is_err_and c.from_residual.result c.from_residual.ensures.1 in
    rw p.1 tt

pub returns-in_err-check_name-clause-ready : goal.returns-in_err-check_name-clause-ready
returns-in_err-check_name-clause-ready c =
    let p = err_from_is_err_and c.from_residual.result c.from_residual.ensures.1 in
    rw p.1 tt

pub returns-in_err-check_name-clause-err : goal.returns-in_err-check_name-clause-err
returns-in_err-check_name-clause-err c =
    let p = err_from_is_err_and c.from_residual.result c.from_residual.ensures.1 in
    rw p.1 refl

pub returns-in_err-place-in-None-clause-names : goal.returns-in_err-place-in-None-clause-names
returns-in_err-place-in-None-clause-names c =
    let p = err_from_is_err_and c.from_residual-in_err-place-in-None.result c.from_residual-in_err-place-in-None.ensures.1 in
    rw p.1 tt

pub returns-in_err-place-in-None-clause-ready : goal.returns-in_err-place-in-None-clause-ready
returns-in_err-place-in-None-clause-ready c =
    let p = err_from_is_err_and c.from_residual-in_err-place-in-None.result c.from_residual-in_err-place-in-None.ensures.1 in
    rw p.1 tt

pub returns-in_err-place-in-None-clause-err : goal.returns-in_err-place-in-None-clause-err
returns-in_err-place-in-None-clause-err c =
    let p = err_from_is_err_and c.from_residual-in_err-place-in-None.result c.from_residual-in_err-place-in-None.ensures.1 in
    rw p.1 (ap (tags_of c.self.inside.listed) c.in_err-place-in-None.ensures.err ∙ c.self.view_is)

pub returns-in_err-place-in-None-clause-fault : goal.returns-in_err-place-in-None-clause-fault
returns-in_err-place-in-None-clause-fault c =
    let p = err_from_is_err_and c.from_residual-in_err-place-in-None.result c.from_residual-in_err-place-in-None.ensures.1 in
    rw (p.1, p.2) (inr refl)

pub returns-in_err-place-in-None-clause-memory : goal.returns-in_err-place-in-None-clause-memory
returns-in_err-place-in-None-clause-memory c = λ h. subst (λ (t : Tags). is_ready c.args.name.now t ≡ false) c.self.view_is (sym c.in-None.ensures.found)

pub returns-in-Some-clause-err : goal.returns-in-Some-clause-err
returns-in-Some-clause-err c = tt

pub returns-in-Some-clause-fault : goal.returns-in-Some-clause-fault
returns-in-Some-clause-fault c = tt

pub returns-in_ok-place-in-None-clause-err : goal.returns-in_ok-place-in-None-clause-err
returns-in_ok-place-in-None-clause-err c = tt

pub returns-in_ok-place-in-None-clause-fault : goal.returns-in_ok-place-in-None-clause-fault
returns-in_ok-place-in-None-clause-fault c = tt
