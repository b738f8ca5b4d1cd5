use Rattle.std.proofs.Common.{◌≡◌, ◌∷◌, [], ap, arith, length, subst, sym, ◌∙◌}
use Rattle.std.specs.List.{insert}
use Rattle.std.proofs.lemmas.List.Edits.{insert_end}
use Rattle.rt_oplog.specs.Blocks.{AreHalfFull, runs_of}
use Rattle.rt_oplog.proofs.Filling.{half_more, runs_append, runs_of_all, some_spare}
use Rattle.rt_oplog.proofs.blocks.append.Goals as goal

pub take_spare-rest-requires-clause-left : goal.take_spare-rest-requires-clause-left
take_spare-rest-requires-clause-left c =
    let full = rw (c.deref.ensures.value, c.if-is_full.true) at c.is_full.ensures.full in
    some_spare _ _ _ _ c.requires.room (omega (arith, runs_of_all c.args.blocks.now.items c.requires.half full, c.args.blocks.now.ok.0))

pub returns-then-is_full-clause-half : goal.returns-then-is_full-clause-half
returns-then-is_full-clause-half c =
    let bs = c.args.blocks.now.items in
    let full = rw (c.deref.ensures.value, c.if-is_full.true) at c.is_full.ensures.full in
    let count : c.len-count.result ≡ length bs = omega (arith, c.len-count.ensures, c.args.blocks.now.ok.0) in
    subst AreHalfFull (sym (c.insert_block.ensures.items ∙ ap (λ n. insert bs n c.one.result) count ∙ insert_end bs c.one.result)) (half_more bs c.one.result c.requires.half full)

pub returns-then-is_full-clause-runs : goal.returns-then-is_full-clause-runs
returns-then-is_full-clause-runs c =
    let bs = c.args.blocks.now.items in
    let count : c.len-count.result ≡ length bs = omega (arith, c.len-count.ensures, c.args.blocks.now.ok.0) in
    let items = c.insert_block.ensures.items ∙ ap (λ n. insert bs n c.one.result) count ∙ insert_end bs c.one.result in
    omega (arith, ap runs_of items, runs_append bs (c.one.result ∷ []), c.one.ensures.one)
