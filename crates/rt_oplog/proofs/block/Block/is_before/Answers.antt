use Rattle.rt_oplog.specs.Kept.{is_earlier}
use Rattle.std.proofs.Common.{◌≡◌, ◌-◌, ◌<◌, length, get_or, ap, sym, ◌∙◌, arith}
use Rattle.rt_oplog.specs.Places.{end_place}
use Rattle.rt_oplog.specs.Runs.{places_of}
use Rattle.rt_oplog.proofs.InRuns.{last_run}
use Rattle.rt_oplog.proofs.block.Block.is_before.Goals as goal

pub returns : goal.returns
returns c =
    let runs = c.args.self.now.runs.items in
    let p = is_earlier c.args.ops.now.rows c.args.stamp in
    let run = c.index.result.now in
    let at : c.len.result - 1 ≡ length runs - 1 = omega (arith, c.len.ensures, c.args.self.now.runs.ok.0) in
    let some : 0 < length runs = omega (arith, c.args.self.now.runs.ok.0, c.args.self.now.some) in
    c.ends_before.ensures ∙ ap (λ r. p (end_place (places_of r))) (c.index.ensures ∙ ap (λ i. get_or runs i run) at) ∙ sym (ap p (last_run runs run some))
