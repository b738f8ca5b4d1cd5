use Rattle.std.proofs.Common.{◌∙◌, ◌++◌, ◌∷◌, [], arith, subst, sym}
use Rattle.std.proofs.lemmas.Grind.{common_steps}
use Rattle.rt_tags.specs.Seen.{IsAt, names_of}
use Rattle.rt_tags.proofs.Parts.{at_last}
use Rattle.rt_tags.proofs.Sets.{len_names}
use Rattle.rt_tags.proofs.names.add_new.Goals as goal

pub returns-clause-index : goal.returns-clause-index
returns-clause-index c =
    let all = c.add.ensures.names ∙ (λ j. c.make_room.ensures.names j ++ c.in_ok-name.ensures.ok j ∷ []) in
    subst (λ v. IsAt c.args.name.now v c.len-index.result) (sym all)
    (at_last c.args.name.now (names_of c.args.names.now) c.len-index.result (c.len-index.ensures.len ∙ sym (len_names c.args.names.now.keys)) c.requires.new)

pub returns-clause-marks : goal.returns-clause-marks
returns-clause-marks c = grind (arith, common_steps)
