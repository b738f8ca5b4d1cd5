use Rattle.std.proofs.Common.{◌≡◌, List, ◌++◌, map, inr, refl, sym, ◌∙◌, subst}
use Rattle.std.specs.Prelude.{option_map}
use Rattle.rt_index.specs.declared.parts.Modifier.{Modifier}
use Rattle.rt_index.specs.Expression.{kept_modifier}
use Rattle.rt_index.specs.Reading.{modifiers_of}
use Rattle.rt_index.proofs.Modifiers.{read_next, read_none, read_done}
use Rattle.rt_index.proofs.reading.modifiers_of.Goals as goal

pub returns-in-None-clause-err : goal.returns-in-None-clause-err
returns-in-None-clause-err c =
    inr (refl, read_none c.loop-rest.modifiers.items c.loop-rest.rest.now c.args.text.now (sym c.is_blank.ensures ∙ c.loop-rest-test.true) (sym c.in-None.ensures.value) c.loop-rest.invariant)

pub loop-rest-preserved : goal.loop-rest-preserved
loop-rest-preserved c =
    let h = read_next c.loop-rest.modifiers.items c.loop-rest.rest.now c.args.text.now c.in-Some.found.0 c.in-Some.found.1.now
    (sym c.is_blank.ensures ∙ c.loop-rest-test.true) (sym c.in-Some.ensures.value) c.loop-rest.invariant in
    let P : List Modifier → Type 0 =
    λ xs. option_map (λ ms. xs ++ map kept_modifier ms) (modifiers_of c.in-Some.found.1.now) ≡ option_map (map kept_modifier) (modifiers_of c.args.text.now) in
    subst P (sym c.in_ok-push.ensures.ok) h

pub returns-clause-ok : goal.returns-clause-ok
returns-clause-ok c =
    read_done c.loop-rest.modifiers.items c.loop-rest.rest.now c.args.text.now (sym c.is_blank.ensures ∙ c.loop-rest-test.false) c.loop-rest.invariant
