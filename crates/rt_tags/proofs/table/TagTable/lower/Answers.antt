use Rattle.std.proofs.Common.{◌∙◌, ap, sym, option_copied, take}
use Rattle.rt_tags.specs.Tags.{Tags, lowered}
use Rattle.rt_tags.specs.Seen.{names_of}
use Rattle.rt_tags.proofs.Parts.{no_repeats_part, place_within}
use Rattle.rt_tags.proofs.Places.{moved_lowest}
use Rattle.rt_tags.proofs.Tables.{at_front}
use Rattle.rt_tags.proofs.table.TagTable.lower.Goals as goal

pub shift-requires-clause-from : goal.shift-requires-clause-from
shift-requires-clause-from c =
    let names = names_of c.self.inside.names in
    place_within c.args.name.now names c.self.inside.listed c.in-Some.from c.self.invariant.listing (at_front c.args.name.now names c.self.inside.listed c.args.self.now c.self.view_is c.in-Some.from c.in-Some.ensures.index)

pub shift_below-requires-clause-from : goal.shift_below-requires-clause-from
shift_below-requires-clause-from c =
    let names = names_of c.self.inside.names in
    place_within c.args.name.now names c.self.inside.listed c.in-Some.from c.self.invariant.listing (at_front c.args.name.now names c.self.inside.listed c.args.self.now c.self.view_is c.in-Some.from c.in-Some.ensures.index)

pub shift_below-requires-clause-to : goal.shift_below-requires-clause-to
shift_below-requires-clause-to c =
    let names = names_of c.self.inside.names in
    let other = c.in-Some-below.other.now in
    place_within other names c.self.inside.listed c.in-Some-listed_place.to c.self.invariant.listing (at_front other names c.self.inside.listed c.args.self.now c.self.view_is c.in-Some-listed_place.to c.in-Some-listed_place.ensures.index)

pub returns-in-None-below-clause-names : goal.returns-in-None-below-clause-names
returns-in-None-below-clause-names c =
    let name = c.args.name.now in
    let n = c.self.inside.listed in
    let names = names_of c.self.inside.names in
    let own = no_repeats_part names n c.self.invariant.listing.differ in
    let at = at_front name names n c.args.self.now c.self.view_is c.in-Some.from c.in-Some.ensures.index in
    c.shift.ensures.names
    ∙ moved_lowest name (take n names) c.in-Some.from own at
    ∙ ap (λ o. lowered name (option_copied o) (take n names)) (sym c.in-None-below.is)
    ∙ ap (λ (t : Tags). lowered name (option_copied c.args.below) t.names) c.self.view_is
