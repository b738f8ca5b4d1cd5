use Rattle.std.proofs.Common.{refl, ◌∙◌, ◌++◌, ◌∷◌, ap, arith, length, string_bytes, sym, Global}
use Rattle.std.proofs.lemmas.Result.{err_from_is_err_and}
use Rattle.std.proofs.lemmas.Grind.{common_steps}
use Rattle.std.proofs.lemmas.List.{length-map, take_all}
use Rattle.std.specs.List.{flat_map}
use Rattle.rt_stamps.specs.Words.{as_words}
use Rattle.rt_ops.specs.File.{name_bytes, tags_bytes}
use Rattle.rt_ops.proofs.spell.push_tags.Goals as goal

pub returns-in_err-push : goal.returns-in_err-push
returns-in_err-push c =
    let (y, is, gives) = err_from_is_err_and c.from_residual.result c.from_residual.ensures.1 in
    rw (is, gives) (record { ok = tt; fault = refl })

pub returns-in_err-push_name : goal.returns-in_err-push_name
returns-in_err-push_name c =
    let (y, is, gives) = err_from_is_err_and c.from_residual-in_err-push_name.result c.from_residual-in_err-push_name.ensures.1 in
    rw (is, gives) (record { ok = tt; fault = c.in_err-push_name.ensures.fault })

pub loop-tag-preserved : goal.loop-tag-preserved
loop-tag-preserved c = grind (arith, common_steps)

pub returns-clause-ok : goal.returns-clause-ok
unfolding tags_bytes
returns-clause-ok c =
    let out = c.args.out.now.items in
    let tags = c.args.tags.now in
    c.loop-tag.invariant
    ∙ ap (λ ts. out ++ length tags ∷ flat_map name_bytes (as_words ts)) (take_all c.loop-tag.tag-index tags c.loop-tag-test.false)
    ∙ ap (λ n. out ++ n ∷ flat_map name_bytes (as_words tags)) (sym (length-map tags (string_bytes {Z = Global})))

pub returns-clause-fault : goal.returns-clause-fault
returns-clause-fault c = tt
