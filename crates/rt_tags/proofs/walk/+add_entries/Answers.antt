use Rattle.std.proofs.Common.{◌≡◌, ◌+◌, ◌*◌, ◌++◌, ◌∙◌, ℕ, List, ap, arith}
use Rattle.rt_tags.specs.SharedStates.{at_id, entries_of, entry_if, scaled}
use Rattle.rt_tags.specs.declared.states.TagEntry.{TagEntry}
use Rattle.rt_tags.proofs.Trees.{even_given, odd_given}
use Rattle.rt_tags.proofs.Walking.{entries_empty, entries_in_steps, even_all, even_wide, odd_all, odd_wide, on_ok, tag_there}
use Rattle.rt_tags.proofs.walk.+add_entries.Goals as goal

pub returns-then-id-eq0 : goal.returns-then-id-eq0
returns-then-id-eq0 t c = entries_empty c.args.nodes.now.keys c.args.id c.args.scale c.args.offset c.if-id-eq0.true c.args.out.now.items

pub overflow_mul-tag : goal.overflow_mul-tag
overflow_mul-tag t c = let w = c.requires.fits c.node_at-node.result.tag (tag_there c.args.nodes.now.keys c.requires.kept c.args.id c.node_at-node.result (omega arith) c.node_at-node.ensures) in omega arith

pub overflow_add-tag : goal.overflow_add-tag
overflow_add-tag t c = let w = c.requires.fits c.node_at-node.result.tag (tag_there c.args.nodes.now.keys c.requires.kept c.args.id c.node_at-node.result (omega arith) c.node_at-node.ensures) in omega arith

pub add_entries-requires : goal.add_entries-requires
add_entries-requires t c =
    let d = c.decreases in
    let before = c.requires.kept.odd_before c.args.id c.node_at-node.result (omega arith) c.node_at-node.ensures in
    (omega (arith, before, d), (c.requires.kept, (odd_given c.args.nodes.now.keys c.args.id c.node_at-node.result c.requires.kept c.node_at-node.ensures, (odd_all c.args.nodes.now.keys c.requires.kept c.args.id c.args.scale c.args.offset c.node_at-node.result (omega arith) c.node_at-node.ensures c.requires.fits, odd_wide c.args.nodes.now.keys c.requires.kept c.args.id c.args.scale c.args.offset c.node_at-node.result (omega arith) c.node_at-node.ensures c.requires.fits))))

pub add_entries-requires-2 : goal.add_entries-requires-2
add_entries-requires-2 t c =
    let d = c.decreases in
    let before = c.requires.kept.even_before c.args.id c.node_at-node.result (omega arith) c.node_at-node.ensures in
    (omega (arith, before, d), (c.requires.kept, (even_given c.args.nodes.now.keys c.args.id c.node_at-node.result c.requires.kept c.node_at-node.ensures, (even_all c.args.nodes.now.keys c.requires.kept c.args.id c.args.scale c.args.offset c.node_at-node.result (omega arith) c.node_at-node.ensures c.requires.fits, even_wide c.args.nodes.now.keys c.requires.kept c.args.id c.args.scale c.args.offset c.node_at-node.result (omega arith) c.node_at-node.ensures c.requires.fits))))

pub returns : goal.returns
returns t c =
    let nodes = c.args.nodes.now.keys in
    let node = c.node_at-node.result in
    on_ok c.add_entries-2.result c.add_entries-2.ensures (λ e.
    let old = c.args.out.now.items in
    let one = entry_if (node.tag * c.args.scale + c.args.offset) node.setting in
    let odds = scaled (c.args.scale * 2) (c.args.offset + c.args.scale) (entries_of (at_id nodes node.odd)) in
    let evens = scaled (c.args.scale * 2) c.args.offset (entries_of (at_id nodes node.even)) in
    let two : c.add_entries.new.out.items ≡ (old ++ one) ++ odds = c.in_ok-add_entries.ensures ∙ ap (λ (v : List TagEntry). v ++ odds) (c.in_ok-push_setting.ensures ∙ ap (λ (x : ℕ). old ++ entry_if x node.setting) c.at.ensures) in
    e ∙ (ap (λ (v : List TagEntry). v ++ evens) two ∙ entries_in_steps nodes c.requires.kept c.args.id c.args.scale c.args.offset node (omega arith) c.node_at-node.ensures old))
