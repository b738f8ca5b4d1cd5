use Rattle.std.proofs.Common.{◌≡◌, ◌+◌, ◌*◌, ◌<◌, ◌≤◌, drop, vec_capacity, ◌^◌, ◌&&◌, ℕ, Bool, ap, subst, sym, arith}
use Rattle.rt_tags.specs.SharedStates.{IsThere, at_id, chosen, if_so, is_off, puts_on, setting_of}
use Rattle.rt_tags.specs.Toggles.{count_in}
use Rattle.rt_tags.proofs.ManyCounts.{parts}
use Rattle.rt_tags.proofs.OneId.{some_same}
use Rattle.rt_tags.proofs.Trees.{even_given, odd_given}
use Rattle.rt_tags.proofs.Walking.{empty_none, even_fits, even_part, even_scale, even_whole, in_steps, odd_fits, odd_part, odd_scale, odd_whole, shared_none, tag_fits, tag_there, times}
use Rattle.rt_tags.proofs.walk.+put_beyond.Goals.{then-parts-eq0-via-then-parts-eq0, then-parts-eq0-via-else-parts-eq0+then-parts}
use Rattle.rt_tags.proofs.walk.+put_beyond.Goals as goal

pub returns-then-parts-eq0-clause-counts : goal.returns-then-parts-eq0-clause-counts
returns-then-parts-eq0-clause-counts t c = λ tag.
    let nodes = c.args.nodes.now.keys in
    elim c.then-parts-eq0.branch [
      | then-parts-eq0-via-then-parts-eq0 w ↦ let z = empty_none nodes c.args.parts.here c.args.other c.args.parts.scale c.args.parts.offset w.if-parts-eq0.true tag in omega (arith, z)
      | then-parts-eq0-via-else-parts-eq0+then-parts w ↦ let z = shared_none nodes c.requires.kept c.args.parts.here c.args.other c.args.parts.scale c.args.parts.offset c.requires.here
          (subst (λ (i : ℕ). (t : ℕ) → IsThere (at_id nodes i) t → setting_of (at_id nodes c.args.other) (t * c.args.parts.scale + c.args.parts.offset) ≡ setting_of (at_id nodes i) t) (sym w.if-parts.true) c.requires.part) tag in omega (arith, z)
    ]

pub overflow_mul-tag : goal.overflow_mul-tag
overflow_mul-tag t c = let w = tag_fits c.args.nodes.now.keys c.requires.kept c.args.parts.here c.args.parts.there c.args.other c.args.parts.scale c.args.parts.offset c.node_at-node.result c.node_at-beside.result (omega arith) c.node_at-node.ensures c.node_at-beside.ensures c.requires.part c.requires.fits in omega arith

pub overflow_add-tag : goal.overflow_add-tag
overflow_add-tag t c = let w = tag_fits c.args.nodes.now.keys c.requires.kept c.args.parts.here c.args.parts.there c.args.other c.args.parts.scale c.args.parts.offset c.node_at-node.result c.node_at-beside.result (omega arith) c.node_at-node.ensures c.node_at-beside.ensures c.requires.part c.requires.fits in omega arith

pub overflow_cast-tag-2 : goal.overflow_cast-tag-2
overflow_cast-tag-2 t c = let w = tag_fits c.args.nodes.now.keys c.requires.kept c.args.parts.here c.args.parts.there c.args.other c.args.parts.scale c.args.parts.offset c.node_at-node.result c.node_at-beside.result (omega arith) c.node_at-node.ensures c.node_at-beside.ensures c.requires.part c.requires.fits in omega arith

pub put_if-requires-clause-within : goal.put_if-requires-clause-within
put_if-requires-clause-within t c = c.requires.within c.node_at-node.result.tag (tag_there c.args.nodes.now.keys c.requires.kept c.args.parts.here c.node_at-node.result (omega arith) c.node_at-node.ensures)

pub put_if-requires-clause-few : goal.put_if-requires-clause-few
put_if-requires-clause-few t c =
    let nodes = c.args.nodes.now.keys in
    let node = c.node_at-node.result in
    let test = is_off (at_id nodes c.args.other) in
    let own = node.tag * c.args.parts.scale + c.args.parts.offset in
    let odds = λ (tag : ℕ). times tag (chosen (λ t. t * (c.args.parts.scale * 2) + (c.args.parts.offset + c.args.parts.scale)) test (at_id nodes node.odd)) in
    let evens = λ (tag : ℕ). times tag (chosen (λ t. t * (c.args.parts.scale * 2) + c.args.parts.offset) test (at_id nodes node.even)) in
    let one : (tag : ℕ) → times tag (if_so c.is_beyond-is_so.result own) ≡ times tag (if_so (puts_on node.setting && test own) own) = λ tag. ap (λ (b : Bool). times tag (if_so b own)) c.is_beyond-is_so.ensures in
    let s = in_steps c.args.nodes.now.keys c.requires.kept c.args.parts.here c.args.parts.there c.args.other c.args.parts.scale c.args.parts.offset c.node_at-node.result c.node_at-beside.result (omega arith) c.node_at-node.ensures c.node_at-beside.ensures c.requires.part c.requires.fits own in
    let k = c.requires.few own in
    let o = one own in
    omega (arith, s, k, o)

pub put_if-requires-clause-behind : goal.put_if-requires-clause-behind
put_if-requires-clause-behind t c =
    let nodes = c.args.nodes.now.keys in
    let node = c.node_at-node.result in
    let test = is_off (at_id nodes c.args.other) in
    let own = node.tag * c.args.parts.scale + c.args.parts.offset in
    let odds = λ (tag : ℕ). times tag (chosen (λ t. t * (c.args.parts.scale * 2) + (c.args.parts.offset + c.args.parts.scale)) test (at_id nodes node.odd)) in
    let evens = λ (tag : ℕ). times tag (chosen (λ t. t * (c.args.parts.scale * 2) + c.args.parts.offset) test (at_id nodes node.even)) in
    let one : (tag : ℕ) → times tag (if_so c.is_beyond-is_so.result own) ≡ times tag (if_so (puts_on node.setting && test own) own) = λ tag. ap (λ (b : Bool). times tag (if_so b own)) c.is_beyond-is_so.ensures in
    let s = in_steps c.args.nodes.now.keys c.requires.kept c.args.parts.here c.args.parts.there c.args.other c.args.parts.scale c.args.parts.offset c.node_at-node.result c.node_at-beside.result (omega arith) c.node_at-node.ensures c.node_at-beside.ensures c.requires.part c.requires.fits own in
    let k = c.requires.behind own in
    let o = one own in
    omega (arith, s, k, o)

pub put_beyond-requires : goal.put_beyond-requires
put_beyond-requires t c =
    let nodes = c.args.nodes.now.keys in
    let node = c.node_at-node.result in
    let test = is_off (at_id nodes c.args.other) in
    let own = node.tag * c.args.parts.scale + c.args.parts.offset in
    let odds = λ (tag : ℕ). times tag (chosen (λ t. t * (c.args.parts.scale * 2) + (c.args.parts.offset + c.args.parts.scale)) test (at_id nodes node.odd)) in
    let evens = λ (tag : ℕ). times tag (chosen (λ t. t * (c.args.parts.scale * 2) + c.args.parts.offset) test (at_id nodes node.even)) in
    let one : (tag : ℕ) → times tag (if_so c.is_beyond-is_so.result own) ≡ times tag (if_so (puts_on node.setting && test own) own) = λ tag. ap (λ (b : Bool). times tag (if_so b own)) c.is_beyond-is_so.ensures in
    let d = c.decreases in
    let before = c.requires.kept.odd_before c.args.parts.here node (omega arith) c.node_at-node.ensures in
    let same = c.put_if.ensures.capacity in
    let within : (t : ℕ) → IsThere (at_id nodes node.odd) t → t * (c.args.parts.scale * 2) + (c.args.parts.offset + c.args.parts.scale) < vec_capacity c.put_if.new.counts = λ t is.
    let e = odd_whole nodes c.requires.kept c.args.parts.here node c.node_at-node.ensures t is in
    let k : (2 * t + 1) * c.args.parts.scale + c.args.parts.offset < vec_capacity c.args.counts.now = c.requires.within (2 * t + 1) (some_same (setting_of (at_id nodes node.odd) t) (setting_of (at_id nodes c.args.parts.here) (2 * t + 1)) (sym e) is) in
    omega (arith, k, same) in
    let few : (tag : ℕ) → count_in tag c.put_if.new.counts.items + odds tag < 2 ^ 32 = λ tag. let k = c.requires.few tag in let o = one tag in let s = in_steps c.args.nodes.now.keys c.requires.kept c.args.parts.here c.args.parts.there c.args.other c.args.parts.scale c.args.parts.offset c.node_at-node.result c.node_at-beside.result (omega arith) c.node_at-node.ensures c.node_at-beside.ensures c.requires.part c.requires.fits tag in let f = c.put_if.ensures.counts tag in omega (arith, k, o, s, f) in
    let n = c.args.ordered in
    let behind : (tag : ℕ) → count_in tag (drop n c.put_if.new.counts.items) + odds tag ≤ 1 = λ tag. let k = c.requires.behind tag in let o = one tag in let s = in_steps c.args.nodes.now.keys c.requires.kept c.args.parts.here c.args.parts.there c.args.other c.args.parts.scale c.args.parts.offset c.node_at-node.result c.node_at-beside.result (omega arith) c.node_at-node.ensures c.node_at-beside.ensures c.requires.part c.requires.fits tag in let f = c.put_if.ensures.counts tag in let r = c.put_if.ensures.first tag in let x = parts tag n c.args.counts.now.items in let y = parts tag n c.put_if.new.counts.items in omega (arith, k, o, s, f, r, x, y) in
    (omega (arith, before, d), (c.requires.kept, (odd_given nodes c.args.parts.here node c.requires.kept c.node_at-node.ensures, (odd_given nodes c.args.parts.there c.node_at-beside.result c.requires.kept c.node_at-beside.ensures, (c.requires.other, (odd_part c.args.nodes.now.keys c.requires.kept c.args.parts.here c.args.parts.there c.args.other c.args.parts.scale c.args.parts.offset c.node_at-node.result c.node_at-beside.result (omega arith) c.node_at-node.ensures c.node_at-beside.ensures c.requires.part c.requires.fits, (odd_fits c.args.nodes.now.keys c.requires.kept c.args.parts.here c.args.parts.there c.args.other c.args.parts.scale c.args.parts.offset c.node_at-node.result c.node_at-beside.result (omega arith) c.node_at-node.ensures c.node_at-beside.ensures c.requires.part c.requires.fits, (odd_scale c.args.nodes.now.keys c.requires.kept c.args.parts.here c.args.parts.there c.args.other c.args.parts.scale c.args.parts.offset c.node_at-node.result c.node_at-beside.result (omega arith) c.node_at-node.ensures c.node_at-beside.ensures c.requires.part c.requires.fits, (c.put_if.ensures.placed, (within, (c.put_if.ensures.others, (few, behind))))))))))))

pub put_beyond-requires-2 : goal.put_beyond-requires-2
put_beyond-requires-2 t c =
    let nodes = c.args.nodes.now.keys in
    let node = c.node_at-node.result in
    let test = is_off (at_id nodes c.args.other) in
    let own = node.tag * c.args.parts.scale + c.args.parts.offset in
    let odds = λ (tag : ℕ). times tag (chosen (λ t. t * (c.args.parts.scale * 2) + (c.args.parts.offset + c.args.parts.scale)) test (at_id nodes node.odd)) in
    let evens = λ (tag : ℕ). times tag (chosen (λ t. t * (c.args.parts.scale * 2) + c.args.parts.offset) test (at_id nodes node.even)) in
    let one : (tag : ℕ) → times tag (if_so c.is_beyond-is_so.result own) ≡ times tag (if_so (puts_on node.setting && test own) own) = λ tag. ap (λ (b : Bool). times tag (if_so b own)) c.is_beyond-is_so.ensures in
    let d = c.decreases in
    let before = c.requires.kept.even_before c.args.parts.here node (omega arith) c.node_at-node.ensures in
    let same = c.put_beyond.ensures.capacity in let same_one = c.put_if.ensures.capacity in
    let within : (t : ℕ) → IsThere (at_id nodes node.even) t → t * (c.args.parts.scale * 2) + c.args.parts.offset < vec_capacity c.put_beyond.new.counts = λ t is.
    let e = even_whole nodes c.requires.kept c.args.parts.here node c.node_at-node.ensures t is in
    let k : 2 * t * c.args.parts.scale + c.args.parts.offset < vec_capacity c.args.counts.now = c.requires.within (2 * t) (some_same (setting_of (at_id nodes node.even) t) (setting_of (at_id nodes c.args.parts.here) (2 * t)) (sym e) is) in
    omega (arith, k, same, same_one) in
    let few : (tag : ℕ) → count_in tag c.put_beyond.new.counts.items + evens tag < 2 ^ 32 = λ tag. let k = c.requires.few tag in let o = one tag in let s = in_steps c.args.nodes.now.keys c.requires.kept c.args.parts.here c.args.parts.there c.args.other c.args.parts.scale c.args.parts.offset c.node_at-node.result c.node_at-beside.result (omega arith) c.node_at-node.ensures c.node_at-beside.ensures c.requires.part c.requires.fits tag in let f = c.put_if.ensures.counts tag in let g = c.put_beyond.ensures.counts tag in omega (arith, k, o, s, f, g) in
    let n = c.args.ordered in
    let behind : (tag : ℕ) → count_in tag (drop n c.put_beyond.new.counts.items) + evens tag ≤ 1 = λ tag. let k = c.requires.behind tag in let o = one tag in let s = in_steps c.args.nodes.now.keys c.requires.kept c.args.parts.here c.args.parts.there c.args.other c.args.parts.scale c.args.parts.offset c.node_at-node.result c.node_at-beside.result (omega arith) c.node_at-node.ensures c.node_at-beside.ensures c.requires.part c.requires.fits tag in let f = c.put_if.ensures.counts tag in let g = c.put_beyond.ensures.counts tag in let r = c.put_if.ensures.first tag in let q = c.put_beyond.ensures.first tag in let x = parts tag n c.args.counts.now.items in let y = parts tag n c.put_beyond.new.counts.items in omega (arith, k, o, s, f, g, r, q, x, y) in
    (omega (arith, before, d), (c.requires.kept, (even_given nodes c.args.parts.here node c.requires.kept c.node_at-node.ensures, (even_given nodes c.args.parts.there c.node_at-beside.result c.requires.kept c.node_at-beside.ensures, (c.requires.other, (even_part c.args.nodes.now.keys c.requires.kept c.args.parts.here c.args.parts.there c.args.other c.args.parts.scale c.args.parts.offset c.node_at-node.result c.node_at-beside.result (omega arith) c.node_at-node.ensures c.node_at-beside.ensures c.requires.part c.requires.fits, (even_fits c.args.nodes.now.keys c.requires.kept c.args.parts.here c.args.parts.there c.args.other c.args.parts.scale c.args.parts.offset c.node_at-node.result c.node_at-beside.result (omega arith) c.node_at-node.ensures c.node_at-beside.ensures c.requires.part c.requires.fits, (even_scale c.args.nodes.now.keys c.requires.kept c.args.parts.here c.args.parts.there c.args.other c.args.parts.scale c.args.parts.offset c.node_at-node.result c.node_at-beside.result (omega arith) c.node_at-node.ensures c.node_at-beside.ensures c.requires.part c.requires.fits, (c.put_beyond.ensures.placed, (within, (c.put_beyond.ensures.others, (few, behind))))))))))))

pub returns-clause-counts : goal.returns-clause-counts
returns-clause-counts t c = λ tag.
    let nodes = c.args.nodes.now.keys in
    let node = c.node_at-node.result in
    let test = is_off (at_id nodes c.args.other) in
    let own = node.tag * c.args.parts.scale + c.args.parts.offset in
    let odds = λ (tag : ℕ). times tag (chosen (λ t. t * (c.args.parts.scale * 2) + (c.args.parts.offset + c.args.parts.scale)) test (at_id nodes node.odd)) in
    let evens = λ (tag : ℕ). times tag (chosen (λ t. t * (c.args.parts.scale * 2) + c.args.parts.offset) test (at_id nodes node.even)) in
    let one : (tag : ℕ) → times tag (if_so c.is_beyond-is_so.result own) ≡ times tag (if_so (puts_on node.setting && test own) own) = λ tag. ap (λ (b : Bool). times tag (if_so b own)) c.is_beyond-is_so.ensures in
    let o = one tag in
    let s = in_steps c.args.nodes.now.keys c.requires.kept c.args.parts.here c.args.parts.there c.args.other c.args.parts.scale c.args.parts.offset c.node_at-node.result c.node_at-beside.result (omega arith) c.node_at-node.ensures c.node_at-beside.ensures c.requires.part c.requires.fits tag in
    let f = c.put_if.ensures.counts tag in
    let g = c.put_beyond.ensures.counts tag in
    let h = c.put_beyond-2.ensures.counts tag in
    omega (arith, o, s, f, g, h)
