use Rattle.std.specs.Str.Parse.{ExplainsUnsignedError, HasUnsignedDigitsIfOk, ParsesUnsigned}
use Rattle.std.proofs.Common.{◌∙◌, ap, sym, Some}
use Rattle.rt_args.proofs.Named.{has_number, number_is}
use Rattle.rt_args.proofs.parse_line.site_in.Goals as goal

pub unwrap-requires : goal.unwrap-requires
unwrap-requires c =
    has_number (λ bs r. ParsesUnsigned 32 10 bs r × ExplainsUnsignedError 10 bs r × HasUnsignedDigitsIfOk bs r) (λ u x g. g.0)
    c.args.run.now c.get_one.result c.requires c.get_one.ensures.value

pub site_of-requires : goal.site_of-requires
site_of-requires c =
    (number_is (λ bs r. ParsesUnsigned 32 10 bs r × ExplainsUnsignedError 10 bs r × HasUnsignedDigitsIfOk bs r) (λ u x g. g.0)
    c.args.run.now c.get_one.result c.requires c.get_one.ensures.value c.unwrap.result c.unwrap.ensures).0

pub returns : goal.returns
returns c =
    (number_is (λ bs r. ParsesUnsigned 32 10 bs r × ExplainsUnsignedError 10 bs r × HasUnsignedDigitsIfOk bs r) (λ u x g. g.0)
    c.args.run.now c.get_one.result c.requires c.get_one.ensures.value c.unwrap.result c.unwrap.ensures).1 ∙ ap Some (sym c.site_of.ensures)
