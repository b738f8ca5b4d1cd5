use Rattle.std.proofs.Common.{◌≡◌, ◌∙◌, ◌<◌, ◌^◌, ℕ, List, [], Some, ap, arith, length, slice_get, subst, sym}
use Rattle.std.proofs.lemmas.List.{append-nil, length-append}
use Rattle.std.proofs.lemmas.List.Elements.{All-from_recursion}
use Rattle.std.proofs.lemmas.Result.{IfOk-weaker}
use Rattle.rt_tags.specs.Kept.{HaveNames}
use Rattle.rt_tags.specs.ManyWrites.{setting_after}
use Rattle.rt_tags.specs.SharedStates.{HasMore, IsBelow, Tree, at_id, setting_of}
use Rattle.rt_tags.specs.declared.nodes.Node.{Node}
use Rattle.rt_tags.specs.declared.states.TagEntry.{TagEntry}
use Rattle.rt_tags.proofs.Entries.{named}
use Rattle.rt_tags.proofs.Trees.{even_given, keeps_more, more_both, node_settings, odd_given}
use Rattle.rt_tags.proofs.WriteParts.{below_after, even_heap, even_less, even_small, even_under, fresh_even, fresh_less, fresh_odd, odd_heap, odd_less, odd_small, odd_under, settings_are, top_small}
use Rattle.rt_tags.proofs.building.+write_in.Goals as goal

still_given : (old new : List Node) (i : ℕ) → HasMore old new → i < length old → i < length new
still_given old new i more w = let l = ap length more.1 ∙ length-append old more.0 in omega (arith, l, w)

-- a part's settings, told by later nodes and from earlier ones
part_later : (old mid new later : List Node) (part r : ℕ) (ws writes : List TagEntry) → HasMore old mid → part < length old → HasMore new later → r < length new → ws ≡ writes → ((t : ℕ) → setting_of (at_id new r) t ≡ setting_after ws t (setting_of (at_id mid part) t)) → (t : ℕ) → setting_of (at_id later r) t ≡ setting_after writes t (setting_of (at_id old part) t)
part_later old mid new later part r ws writes before given more made same h t =
    ap (λ (v : Tree). setting_of v t) (keeps_more new later r more made)
    ∙ (h t ∙ (λ j. setting_after (same j) t (setting_of (keeps_more old mid part before given j) t)))

itself_more : (nodes : List Node) → HasMore nodes nodes
itself_more nodes = ([], sym (append-nil nodes))

pub write_in-requires : goal.write_in-requires
write_in-requires t c =
    let old = c.args.nodes.now.keys in
    let n = c.node_at-node.result in
    let p = c.in_ok-parts.parts in
    let writes = c.args.writes.now in
    let l = odd_less old c.args.id n c.requires.kept c.node_at-node.ensures writes p.top p.setting p.odds.items p.evens.items c.in_ok-parts.ensures in
    let v = ap length c.deref.ensures.value in
    let d = c.decreases in
    let tags = subst (HaveNames (2 ^ 32)) (sym c.deref.ensures.value) (All-from_recursion (λ (e : TagEntry). e.tag < 2 ^ 32) p.odds.items
    (odd_small old c.args.id n c.requires.kept c.node_at-node.ensures writes p.top p.setting p.odds.items p.evens.items c.in_ok-parts.ensures (named (2 ^ 32) writes c.requires.tags))) in
    (omega (arith, l, v, d), (c.requires.kept, (odd_given old c.args.id n c.requires.kept c.node_at-node.ensures, tags)))

pub returns-in_err-odd-clause-below : goal.returns-in_err-odd-clause-below
returns-in_err-odd-clause-below t c = λ k below names.
    let p = c.in_ok-parts.parts in
    let writes = c.args.writes.now in
    c.write_in.ensures.below k below (subst (HaveNames k) (sym c.deref.ensures.value) (All-from_recursion (λ (e : TagEntry). e.tag < k) p.odds.items
    (odd_under c.args.nodes.now.keys c.args.id c.node_at-node.result c.requires.kept c.node_at-node.ensures writes p.top p.setting p.odds.items p.evens.items c.in_ok-parts.ensures k below (named k writes names))))

pub write_in-requires-2 : goal.write_in-requires-2
write_in-requires-2 t c =
    let old = c.args.nodes.now.keys in
    let n = c.node_at-node.result in
    let p = c.in_ok-parts.parts in
    let writes = c.args.writes.now in
    let l = even_less old c.args.id n c.requires.kept c.node_at-node.ensures writes p.top p.setting p.odds.items p.evens.items c.in_ok-parts.ensures in
    let v = ap length c.deref-2.ensures.value in
    let d = c.decreases in
    let tags = subst (HaveNames (2 ^ 32)) (sym c.deref-2.ensures.value) (All-from_recursion (λ (e : TagEntry). e.tag < 2 ^ 32) p.evens.items
    (even_small old c.args.id n c.requires.kept c.node_at-node.ensures writes p.top p.setting p.odds.items p.evens.items c.in_ok-parts.ensures (named (2 ^ 32) writes c.requires.tags))) in
    (omega (arith, l, v, d), (c.write_in.ensures.kept, (still_given old c.write_in.new.nodes.keys n.even c.write_in.ensures.more (even_given old c.args.id n c.requires.kept c.node_at-node.ensures), tags)))

pub returns-in_err-even-clause-below : goal.returns-in_err-even-clause-below
returns-in_err-even-clause-below t c = λ k below names.
    let p = c.in_ok-parts.parts in
    let writes = c.args.writes.now in
    let mid = c.write_in.ensures.below k below (subst (HaveNames k) (sym c.deref.ensures.value) (All-from_recursion (λ (e : TagEntry). e.tag < k) p.odds.items
    (odd_under c.args.nodes.now.keys c.args.id c.node_at-node.result c.requires.kept c.node_at-node.ensures writes p.top p.setting p.odds.items p.evens.items c.in_ok-parts.ensures k below (named k writes names)))) in
    c.write_in-2.ensures.below k mid (subst (HaveNames k) (sym c.deref-2.ensures.value) (All-from_recursion (λ (e : TagEntry). e.tag < k) p.evens.items
    (even_under c.args.nodes.now.keys c.args.id c.node_at-node.result c.requires.kept c.node_at-node.ensures writes p.top p.setting p.odds.items p.evens.items c.in_ok-parts.ensures k below (named k writes names))))

pub overflow_cast-above : goal.overflow_cast-above
overflow_cast-above t c =
    let p = c.in_ok-parts.parts in
    let w = top_small c.args.nodes.now.keys c.args.id c.node_at-node.result c.requires.kept c.node_at-node.ensures c.args.writes.now p.top p.setting p.odds.items p.evens.items c.in_ok-parts.ensures (named (2 ^ 32) c.args.writes.now c.requires.tags) in
    omega (arith, w)

pub keep-requires-clause-heap : goal.keep-requires-clause-heap
keep-requires-clause-heap t c =
    let old = c.args.nodes.now.keys in
    let mid = c.write_in.new.nodes.keys in
    let new = c.write_in-2.new.nodes.keys in
    let n = c.node_at-node.result in
    let p = c.in_ok-parts.parts in
    let writes = c.args.writes.now in
    let was = c.requires.kept in
    let at = c.node_at-node.ensures in
    let all = named (2 ^ 32) writes c.requires.tags in
    let ho = part_later old old mid new n.odd c.in_ok-odd.odd c.deref.result.now p.odds.items (itself_more old) (odd_given old c.args.id n was at) c.write_in-2.ensures.more c.in_ok-odd.ensures.given c.deref.ensures.value c.in_ok-odd.ensures.settings in
    let he = part_later old mid new new n.even c.in_ok-even.even c.deref-2.result.now p.evens.items c.write_in.ensures.more (even_given old c.args.id n was at) (itself_more new) c.in_ok-even.ensures.given c.deref-2.ensures.value c.in_ok-even.ensures.settings in
    record {
      odd = odd_heap old c.args.id n was at writes p.top p.setting p.odds.items p.evens.items c.in_ok-parts.ensures (at_id new c.in_ok-odd.odd) (at_id new c.in_ok-even.even) ho he all;
      even = even_heap old c.args.id n was at writes p.top p.setting p.odds.items p.evens.items c.in_ok-parts.ensures (at_id new c.in_ok-odd.odd) (at_id new c.in_ok-even.even) ho he all;
      tag = top_small old c.args.id n was at writes p.top p.setting p.odds.items p.evens.items c.in_ok-parts.ensures all;
    }

pub returns-clause-settings : goal.returns-clause-settings
returns-clause-settings t c =
    let old = c.args.nodes.now.keys in
    let mid = c.write_in.new.nodes.keys in
    let two = c.write_in-2.new.nodes.keys in
    let new = c.keep.new.nodes.keys in
    let n = c.node_at-node.result in
    let p = c.in_ok-parts.parts in
    let writes = c.args.writes.now in
    let was = c.requires.kept in
    let at = c.node_at-node.ensures in
    let above : Node = record { tag = p.top; setting = p.setting; odd = c.in_ok-odd.odd; even = c.in_ok-even.even } in
    let ho = part_later old old mid new n.odd c.in_ok-odd.odd c.deref.result.now p.odds.items (itself_more old) (odd_given old c.args.id n was at) (more_both mid two new c.write_in-2.ensures.more c.keep.ensures.more) c.in_ok-odd.ensures.given c.deref.ensures.value c.in_ok-odd.ensures.settings in
    let he = part_later old mid two new n.even c.in_ok-even.even c.deref-2.result.now p.evens.items c.write_in.ensures.more (even_given old c.args.id n was at) c.keep.ensures.more c.in_ok-even.ensures.given c.deref-2.ensures.value c.in_ok-even.ensures.settings in
    IfOk-weaker c.keep.result (λ r. slice_get new r ≡ Some above) (λ r. (t : ℕ) → setting_of (at_id new r) t ≡ setting_after writes t (setting_of (at_id old c.args.id) t))
    (λ r h. λ t. node_settings new r above c.keep.ensures.kept h t
    ∙ settings_are old c.args.id n was at writes p.top p.setting p.odds.items p.evens.items c.in_ok-parts.ensures (at_id new c.in_ok-odd.odd) (at_id new c.in_ok-even.even) ho he t)
    c.keep.ensures.at

pub returns-clause-below : goal.returns-clause-below
returns-clause-below t c = λ k below names.
    let old = c.args.nodes.now.keys in
    let new = c.keep.new.nodes.keys in
    let writes = c.args.writes.now in
    let p = c.in_ok-parts.parts in
    let mid = c.write_in.ensures.below k below (subst (HaveNames k) (sym c.deref.ensures.value) (All-from_recursion (λ (e : TagEntry). e.tag < k) p.odds.items
    (odd_under old c.args.id c.node_at-node.result c.requires.kept c.node_at-node.ensures writes p.top p.setting p.odds.items p.evens.items c.in_ok-parts.ensures k below (named k writes names)))) in
    let two = c.write_in-2.ensures.below k mid (subst (HaveNames k) (sym c.deref-2.ensures.value) (All-from_recursion (λ (e : TagEntry). e.tag < k) p.evens.items
    (even_under old c.args.id c.node_at-node.result c.requires.kept c.node_at-node.ensures writes p.top p.setting p.odds.items p.evens.items c.in_ok-parts.ensures k below (named k writes names)))) in
    c.keep.ensures.below k two
    (IfOk-weaker c.keep.result (λ r. (t : ℕ) → setting_of (at_id new r) t ≡ setting_after writes t (setting_of (at_id old c.args.id) t)) (λ r. IsBelow k (at_id new r))
    (λ r h. below_after old new c.args.id r k writes below (named k writes names) h) (returns-clause-settings t c))

pub returns-in_err-odd-clause-few : goal.returns-in_err-odd-clause-few
returns-in_err-odd-clause-few t c = λ z.
    let p = c.in_ok-parts.parts in
    let s = fresh_less c.args.nodes.now.keys c.args.id c.node_at-node.result c.requires.kept c.node_at-node.ensures c.args.writes.now p.top p.setting p.odds.items p.evens.items c.in_ok-parts.ensures z in
    let a = c.write_in.ensures.few (fresh_odd c.args.nodes.now.keys c.args.id c.node_at-node.result c.requires.kept c.node_at-node.ensures c.args.writes.now p.top p.setting p.odds.items p.evens.items c.in_ok-parts.ensures z) in
    let v = ap length c.deref.ensures.value in
    omega (arith, s, a, v)

pub returns-in_err-even-clause-few : goal.returns-in_err-even-clause-few
returns-in_err-even-clause-few t c = λ z.
    let p = c.in_ok-parts.parts in
    let s = fresh_less c.args.nodes.now.keys c.args.id c.node_at-node.result c.requires.kept c.node_at-node.ensures c.args.writes.now p.top p.setting p.odds.items p.evens.items c.in_ok-parts.ensures z in
    let a = c.write_in.ensures.few (fresh_odd c.args.nodes.now.keys c.args.id c.node_at-node.result c.requires.kept c.node_at-node.ensures c.args.writes.now p.top p.setting p.odds.items p.evens.items c.in_ok-parts.ensures z) in
    let b = c.write_in-2.ensures.few (fresh_even c.args.nodes.now.keys c.args.id c.node_at-node.result c.requires.kept c.node_at-node.ensures c.args.writes.now p.top p.setting p.odds.items p.evens.items c.in_ok-parts.ensures z) in
    let v = ap length c.deref.ensures.value in
    let w = ap length c.deref-2.ensures.value in
    omega (arith, s, a, b, v, w)

pub returns-clause-few : goal.returns-clause-few
returns-clause-few t c = λ z.
    let p = c.in_ok-parts.parts in
    let s = fresh_less c.args.nodes.now.keys c.args.id c.node_at-node.result c.requires.kept c.node_at-node.ensures c.args.writes.now p.top p.setting p.odds.items p.evens.items c.in_ok-parts.ensures z in
    let a = c.write_in.ensures.few (fresh_odd c.args.nodes.now.keys c.args.id c.node_at-node.result c.requires.kept c.node_at-node.ensures c.args.writes.now p.top p.setting p.odds.items p.evens.items c.in_ok-parts.ensures z) in
    let b = c.write_in-2.ensures.few (fresh_even c.args.nodes.now.keys c.args.id c.node_at-node.result c.requires.kept c.node_at-node.ensures c.args.writes.now p.top p.setting p.odds.items p.evens.items c.in_ok-parts.ensures z) in
    let v = ap length c.deref.ensures.value in
    let w = ap length c.deref-2.ensures.value in
    let k = c.keep.ensures.len in
    omega (arith, s, a, b, v, w, k)
