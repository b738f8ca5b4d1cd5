use Rattle.std.proofs.Common.{◌≡◌, ◌<◌, ◌∙◌, [], All, ap, length, map, subst, sym}
use Rattle.std.proofs.lemmas.List.Elements.{All-from_recursion}
use Rattle.rt_stamps.specs.declared.stamp.TheConstants.{ROOT}
use Rattle.rt_stamps.specs.Words.{as_words}
use Rattle.rt_tags.specs.Kept.{HaveNames, all_seen, tags_on}
use Rattle.rt_tags.specs.Seen.{names_of}
use Rattle.rt_tags.specs.States.{TagStates, name_at, names_on}
use Rattle.rt_tags.specs.Writers.{listed_by, state_after}
use Rattle.rt_tags.proofs.Entries.{named, on_named, on_seen}
use Rattle.rt_tags.proofs.Keeping.{table_of}
use Rattle.rt_tags.proofs.Listing.{listed_writes, on_given}
use Rattle.rt_tags.proofs.Sets.{len_names}
use Rattle.rt_tags.proofs.states.StateTable.in_order.Goals as goal

pub sorted-requires : goal.sorted-requires
sorted-requires c =
    let now = c.args.self.now in
    let writes = c.deref.ensures.value ∙ c.in_ok-writes.ensures in
    let len : length now.names ≡ length c.as_slice.result.now = ap (λ (t : TagStates). length t.names) (sym c.self.view_is) ∙ len_names c.self.inside.names.keys ∙ ap (λ v. length v) (sym c.as_slice.ensures.keys) in
    subst (λ n. HaveNames n c.deref.result.now) len (subst (HaveNames (length now.names)) (sym writes) (on_given (length now.names) ROOT c.args.tags.now c.requires))

pub returns-clause-names : goal.returns-clause-names
returns-clause-names c =
    let names = names_of c.self.inside.names in
    let here = table_of names c.self.inside.nodes.keys in
    let writes = c.deref.ensures.value ∙ c.in_ok-writes.ensures in
    let entries = subst (λ v. all_seen (as_words v) c.in_ok-sorted.sorted.items ≡ state_after [] (all_seen (as_words v) c.deref.result.now)) c.as_slice.ensures.keys c.in_ok-sorted.ensures.entries in
    subst (λ (t : TagStates). map (name_at t) c.in_ok-tags_on.field-0.items ≡ names_on (state_after [] (listed_by ROOT (map (name_at t) c.args.tags.now)))) c.self.view_is
    (ap (map (name_at here)) (c.in_ok-tags_on.ensures ∙ ap tags_on c.deref-2.ensures.value)
    ∙ on_seen names c.in_ok-sorted.sorted.items
    ∙ ap names_on (entries ∙ ap (λ v. state_after [] (all_seen names v)) writes ∙ ap (state_after []) (listed_writes here ROOT c.args.tags.now)))

pub returns-clause-tags : goal.returns-clause-tags
returns-clause-tags c =
    let now = c.args.self.now in
    let n = length (as_words c.as_slice.result.now) in
    let sorted = c.in_ok-sorted.sorted.items in
    let len : n ≡ length now.names = ap (λ v. length (as_words v)) c.as_slice.ensures.keys ∙ ap (λ (t : TagStates). length t.names) c.self.view_is in
    let all = All-from_recursion (λ t. t < n) (tags_on sorted) (on_named n sorted (named n sorted c.in_ok-sorted.ensures.sorted.named)) in
    subst (λ m. All (λ t. t < m) c.in_ok-tags_on.field-0.items) len (subst (All (λ t. t < n)) (sym (c.in_ok-tags_on.ensures ∙ ap tags_on c.deref-2.ensures.value)) all)
