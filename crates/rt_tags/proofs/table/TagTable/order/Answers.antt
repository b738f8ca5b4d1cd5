use Rattle.std.proofs.Common.{◌≡◌, ℕ, List, subst, true}
use Rattle.rt_tags.specs.Seen.{names_of}
use Rattle.rt_tags.specs.Tags.{HaveNoRepeats, Tags, is_listed, is_ready}
use Rattle.rt_tags.proofs.Parts.{listed_whole, no_repeats_part}
use Rattle.rt_tags.proofs.table.TagTable.order.Goals as goal

pub returns-clause-no_repeats : goal.returns-clause-no_repeats
returns-clause-no_repeats c = subst (λ (t : Tags). HaveNoRepeats t.names) c.self.view_is (no_repeats_part (names_of c.self.inside.names) c.self.inside.listed c.self.invariant.listing.differ)

pub returns-clause-ready : goal.returns-clause-ready
returns-clause-ready c =
    subst (λ (t : Tags). (name : List ℕ) → is_listed name t.names ≡ true → is_ready name t ≡ true) c.self.view_is
    (λ name h. listed_whole name (names_of c.self.inside.names) c.self.inside.listed h)
