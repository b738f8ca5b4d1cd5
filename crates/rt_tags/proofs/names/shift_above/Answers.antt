use Rattle.std.proofs.Common.{◌≡◌, ◌∙◌, arith, take}
use Rattle.rt_tags.specs.Seen.{names_of}
use Rattle.rt_tags.proofs.Parts.{no_repeats_part}
use Rattle.rt_tags.proofs.Places.{raised_down, raised_itself, raised_up}
use Rattle.rt_tags.proofs.names.shift_above.Goals as goal

pub returns-then-from-to-clause-names : goal.returns-then-from-to-clause-names
returns-then-from-to-clause-names c = λ name other a b.
    let own = no_repeats_part (names_of c.args.names.now) c.args.listed c.requires.listed.differ in
    c.shift.ensures.names ∙ raised_up name other (take c.args.listed (names_of c.args.names.now)) own c.args.from c.args.to c.if-from-to.true a b

pub returns-then-to-from-clause-names : goal.returns-then-to-from-clause-names
returns-then-to-from-clause-names c = λ name other a b.
    let own = no_repeats_part (names_of c.args.names.now) c.args.listed c.requires.listed.differ in
    c.shift-then-to-from.ensures.names ∙ raised_down name other (take c.args.listed (names_of c.args.names.now)) own c.args.from c.args.to c.if-to-from.true a b

pub returns-else-to-from-clause-names : goal.returns-else-to-from-clause-names
returns-else-to-from-clause-names c = λ name other a b.
    let one : c.args.from ≡ c.args.to = omega (arith, c.if-from-to.false, c.if-to-from.false) in
    let own = no_repeats_part (names_of c.args.names.now) c.args.listed c.requires.listed.differ in
    raised_itself name other (take c.args.listed (names_of c.args.names.now)) own c.args.from c.args.to one a b
