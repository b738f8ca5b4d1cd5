use Rattle.std.proofs.Common.{◌∙◌, ◌-◌, ap, sym, option_copied, take}
use Rattle.std.proofs.lemmas.List.{length-take-le}
use Rattle.rt_tags.specs.Tags.{Tags, raised}
use Rattle.rt_tags.specs.Seen.{names_of}
use Rattle.rt_tags.proofs.Parts.{no_repeats_part, place_within}
use Rattle.rt_tags.proofs.Places.{moved_highest}
use Rattle.rt_tags.proofs.Tables.{at_front}
use Rattle.rt_tags.proofs.table.TagTable.raise.Goals as goal

pub shift_highest-requires-clause-from : goal.shift_highest-requires-clause-from
shift_highest-requires-clause-from c =
    let names = names_of c.self.inside.names in
    place_within c.args.name.now names c.self.inside.listed c.in-Some.from c.self.invariant.listing (at_front c.args.name.now names c.self.inside.listed c.args.self.now c.self.view_is c.in-Some.from c.in-Some.ensures.index)

pub shift_above-requires-clause-from : goal.shift_above-requires-clause-from
shift_above-requires-clause-from c =
    let names = names_of c.self.inside.names in
    place_within c.args.name.now names c.self.inside.listed c.in-Some.from c.self.invariant.listing (at_front c.args.name.now names c.self.inside.listed c.args.self.now c.self.view_is c.in-Some.from c.in-Some.ensures.index)

pub shift_above-requires-clause-to : goal.shift_above-requires-clause-to
shift_above-requires-clause-to c =
    let names = names_of c.self.inside.names in
    let other = c.in-Some-above.other.now in
    place_within other names c.self.inside.listed c.in-Some-listed_place.to c.self.invariant.listing (at_front other names c.self.inside.listed c.args.self.now c.self.view_is c.in-Some-listed_place.to c.in-Some-listed_place.ensures.index)

pub returns-in-None-above-clause-names : goal.returns-in-None-above-clause-names
returns-in-None-above-clause-names c =
    let name = c.args.name.now in
    let n = c.self.inside.listed in
    let names = names_of c.self.inside.names in
    let own = no_repeats_part names n c.self.invariant.listing.differ in
    let at = at_front name names n c.args.self.now c.self.view_is c.in-Some.from c.in-Some.ensures.index in
    c.shift_highest.ensures.names
    ∙ moved_highest name (take n names) c.in-Some.from (n - 1) own at (ap (λ v. v - 1) (sym (length-take-le n names c.self.invariant.listing.within)))
    ∙ ap (λ o. raised name (option_copied o) (take n names)) (sym c.in-None-above.is)
    ∙ ap (λ (t : Tags). raised name (option_copied c.args.above) t.names) c.self.view_is
