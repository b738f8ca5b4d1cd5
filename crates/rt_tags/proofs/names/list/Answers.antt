use Rattle.std.proofs.Common.{◌∙◌, arith}
use Rattle.rt_tags.specs.Seen.{names_of}
use Rattle.rt_tags.proofs.Parts.{with_behind, with_listed}
use Rattle.rt_tags.proofs.Sets.{len_names}
use Rattle.rt_tags.proofs.names.list.Goals as goal

pub returns-then-index-listed-clause-names : goal.returns-then-index-listed-clause-names
returns-then-index-listed-clause-names c = λ name at. with_listed name (names_of c.args.names.now) c.args.listed c.args.index c.if-index-listed.true at

pub returns-clause-names : goal.returns-clause-names
returns-clause-names c = λ name at. c.bring.ensures.front name at ∙ with_behind name (names_of c.args.names.now) c.args.listed c.args.index c.if-index-listed.false at

pub returns-clause-listed : goal.returns-clause-listed
returns-clause-listed c = record {
  differ = c.bring.ensures.no_repeats;
  within = omega (arith, c.bring.ensures.len, len_names c.bring.new.names.keys, c.requires.index, c.if-index-listed.false);
}

pub returns-clause-len : goal.returns-clause-len
returns-clause-len c = omega (arith, c.bring.ensures.len, len_names c.bring.new.names.keys, len_names c.args.names.now.keys)
