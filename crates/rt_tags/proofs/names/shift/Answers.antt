use Rattle.std.proofs.Common.{◌∙◌, ap, arith, take}
use Rattle.rt_stamps.specs.Words.{as_words}
use Rattle.rt_tags.specs.Seen.{names_of}
use Rattle.rt_tags.proofs.Parts.{part_moved, same_names}
use Rattle.rt_tags.proofs.Sets.{len_names, names_moved, no_repeats}
use Rattle.rt_tags.proofs.names.shift.Goals as goal

pub move_index-requires-clause-from_in_bounds : goal.move_index-requires-clause-from_in_bounds
move_index-requires-clause-from_in_bounds c = omega (arith, c.requires.from, c.requires.listed.within, len_names c.args.names.now.keys)

pub move_index-requires-clause-to_in_bounds : goal.move_index-requires-clause-to_in_bounds
move_index-requires-clause-to_in_bounds c = omega (arith, c.requires.to, c.requires.listed.within, len_names c.args.names.now.keys)

pub returns-clause-listed : goal.returns-clause-listed
returns-clause-listed c = record {
  differ = no_repeats c.move_index.new.self.keys c.move_index.ensures.unique;
  within = omega (arith, c.requires.listed.within, c.move_index.ensures.reordered.1, len_names c.args.names.now.keys, len_names c.move_index.new.self.keys);
}

pub returns-clause-names : goal.returns-clause-names
returns-clause-names c =
    ap (take c.args.listed) (ap (λ v. as_words v) c.move_index.ensures.keys ∙ names_moved c.args.names.now.keys c.args.from c.args.to)
    ∙ part_moved (names_of c.args.names.now) c.args.listed c.args.from c.args.to c.requires.listed.within c.requires.from c.requires.to

pub returns-clause-same : goal.returns-clause-same
returns-clause-same c = same_names c.args.names.now.keys c.move_index.new.self.keys c.move_index.ensures.reordered.0

pub returns-clause-len : goal.returns-clause-len
returns-clause-len c = omega (arith, c.move_index.ensures.reordered.1, len_names c.args.names.now.keys, len_names c.move_index.new.self.keys)
