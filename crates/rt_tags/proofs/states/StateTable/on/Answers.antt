use Rattle.std.proofs.Common.{◌≡◌, ◌∙◌, ◌++◌, ◌<◌, [], All, ap, length, map, subst, sym}
use Rattle.std.proofs.lemmas.List.Elements.{All-from_recursion}
use Rattle.rt_stamps.specs.Words.{as_words}
use Rattle.rt_tags.specs.Kept.{HaveNames, all_seen, tags_on}
use Rattle.rt_tags.specs.Seen.{names_of}
use Rattle.rt_tags.specs.SharedStates.{at_id, entries_of, scaled}
use Rattle.rt_tags.specs.States.{TagStates, name_at, names_on, state_at}
use Rattle.rt_tags.specs.Writers.{state_after}
use Rattle.rt_tags.specs.declared.states.TagEntry.{TagEntry}
use Rattle.rt_tags.proofs.Entries.{named, on_named, on_seen}
use Rattle.rt_tags.proofs.Keeping.{full_at, place_given, state_there, table_of}
use Rattle.rt_tags.proofs.SeenStates.{entries_named}
use Rattle.rt_tags.proofs.Sets.{len_names}
use Rattle.rt_tags.proofs.Walking.{entries_whole}
use Rattle.rt_tags.proofs.states.StateTable.on.Goals as goal

pub add_entries-requires-clause-given : goal.add_entries-requires-clause-given
add_entries-requires-clause-given c = place_given (names_of c.self.inside.names) c.self.inside.nodes.keys c.self.invariant c.args.self.now c.self.view_is c.state.inside.place c.args.state c.state.view_is c.requires

pub sorted-requires : goal.sorted-requires
sorted-requires c =
    let names = names_of c.self.inside.names in
    let nodes = c.self.inside.nodes.keys in
    let all = entries_of (at_id nodes c.args.state) in
    let is : c.deref.result.now ≡ all =
    c.deref.ensures.value ∙ (c.in_ok-add_entries.ensures
    ∙ ((λ j. c.new-entries.ensures.items j ++ scaled 1 0 (entries_of (at_id nodes (c.state.view_is j)))) ∙ entries_whole all)) in
    let have = All-from_recursion (λ (e : TagEntry). e.tag < length names) all (entries_named (length names) (at_id nodes c.args.state) (full_at nodes c.args.state c.self.invariant.shared) (c.self.invariant.named c.args.state)) in
    let len : length names ≡ length c.as_slice.result.now = len_names c.self.inside.names.keys ∙ ap (λ v. length v) (sym c.as_slice.ensures.keys) in
    subst (λ n. HaveNames n c.deref.result.now) len (subst (HaveNames (length names)) (sym is) have)

pub returns-clause-names : goal.returns-clause-names
returns-clause-names c =
    let names = names_of c.self.inside.names in
    let nodes = c.self.inside.nodes.keys in
    let all = entries_of (at_id nodes c.args.state) in
    let is : c.deref.result.now ≡ all =
    c.deref.ensures.value ∙ (c.in_ok-add_entries.ensures
    ∙ ((λ j. c.new-entries.ensures.items j ++ scaled 1 0 (entries_of (at_id nodes (c.state.view_is j)))) ∙ entries_whole all)) in
    let here = table_of names nodes in
    let entries = subst (λ v. all_seen (as_words v) c.in_ok-sorted.sorted.items ≡ state_after [] (all_seen (as_words v) c.deref.result.now)) c.as_slice.ensures.keys c.in_ok-sorted.ensures.entries in
    subst (λ (t : TagStates). map (name_at t) c.in_ok-tags_on.field-0.items ≡ names_on (state_at t c.args.state)) c.self.view_is
    (ap (map (name_at here)) (c.in_ok-tags_on.ensures ∙ ap tags_on c.deref-2.ensures.value)
    ∙ on_seen names c.in_ok-sorted.sorted.items
    ∙ ap names_on (entries ∙ ap (λ v. state_after [] (all_seen names v)) is ∙ sym (state_there names nodes c.args.state)))

pub returns-clause-tags : goal.returns-clause-tags
returns-clause-tags c =
    let now = c.args.self.now in
    let n = length (as_words c.as_slice.result.now) in
    let sorted = c.in_ok-sorted.sorted.items in
    let len : n ≡ length now.names = ap (λ v. length (as_words v)) c.as_slice.ensures.keys ∙ ap (λ (t : TagStates). length t.names) c.self.view_is in
    let all = All-from_recursion (λ t. t < n) (tags_on sorted) (on_named n sorted (named n sorted c.in_ok-sorted.ensures.sorted.named)) in
    subst (λ m. All (λ t. t < m) c.in_ok-tags_on.field-0.items) len (subst (All (λ t. t < n)) (sym (c.in_ok-tags_on.ensures ∙ ap tags_on c.deref-2.ensures.value)) all)
