use Rattle.std.proofs.lemmas.Result.{err_from_is_err_and}
use Rattle.std.proofs.Common.{◌≡◌, All, string_bytes, subst, true, refl, arith, sym}
use Rattle.rt_tags.specs.Tags.{is_ready, IsName}
use Rattle.rt_text.proofs.ReadyLaws.{anyway}
use Rattle.rt_text.proofs.preparing.make_room.Goals as goal

pub returns-in_err-prepare_tags : goal.returns-in_err-prepare_tags
returns-in_err-prepare_tags c =
    let p = err_from_is_err_and c.from_residual.result c.from_residual.ensures.1 in
    rw (p.1, p.2) (record { tags = c.prepare_tags.ensures.names; selection = refl; others = refl; ready = tt; selects = tt; between = tt; err = c.in_err-prepare_tags.ensures.err })

pub returns-in_err-reserve : goal.returns-in_err-reserve
returns-in_err-reserve c =
    let p = err_from_is_err_and c.from_residual-in_err-reserve.result c.from_residual-in_err-reserve.ensures.1 in
    rw (p.1, p.2) (record { tags = c.prepare_tags.ensures.names; selection = c.reserve.ensures.same; others = refl; ready = tt; selects = tt; between = tt; err = c.in_err-reserve.ensures.err })

pub prepare_tags-requires : goal.prepare_tags-requires
prepare_tags-requires c = subst (All (λ w. IsName (string_bytes w))) (sym c.deref.ensures.value) c.requires

pub returns-clause-tags : goal.returns-clause-tags
returns-clause-tags c = c.prepare_tags.ensures.names

pub returns-clause-selection : goal.returns-clause-selection
returns-clause-selection c = c.reserve.ensures.same

pub returns-clause-others : goal.returns-clause-others
returns-clause-others c = c.reserve_others.ensures.same

pub returns-clause-between : goal.returns-clause-between
returns-clause-between c = c.reserve_others.ensures.room

pub returns-clause-err : goal.returns-clause-err
returns-clause-err c = c.reserve_others.ensures.err

pub returns-clause-selects : goal.returns-clause-selects
returns-clause-selects c = anyway c.reserve_others.result (omega (arith, c.in_ok-reserve.ensures.room, c.len.ensures))

pub returns-clause-ready : goal.returns-clause-ready
returns-clause-ready c = anyway c.reserve_others.result (subst (All (λ w. is_ready (string_bytes w) c.prepare_tags.new.table ≡ true)) c.deref.ensures.value c.in_ok-prepare_tags.ensures.ready)
