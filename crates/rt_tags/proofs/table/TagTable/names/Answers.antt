use Rattle.std.proofs.Common.{◌∙◌, ap, arith, length, string_bytes, sym, take}
use Rattle.std.proofs.lemmas.List.{take-map}
use Rattle.rt_stamps.specs.Words.{as_words}
use Rattle.rt_tags.specs.Tags.{Tags}
use Rattle.rt_tags.proofs.Sets.{len_names}
use Rattle.rt_tags.proofs.table.TagTable.names.Goals as goal

pub split_at-requires : goal.split_at-requires
split_at-requires c = omega (arith, c.self.invariant.listing.within, len_names c.self.inside.names.keys, ap (λ v. length v) c.as_slice.ensures.keys)

pub returns-clause-names : goal.returns-clause-names
returns-clause-names c =
    let keys = c.self.inside.names.keys in
    c.in_ok-copied.ensures
    ∙ ap (λ v. as_words v) (c.split_at.ensures.front ∙ ap (take c.self.inside.listed) c.as_slice.ensures.keys)
    ∙ sym (take-map (λ s. string_bytes s) c.self.inside.listed keys)
    ∙ ap (λ (t : Tags). t.names) c.self.view_is
