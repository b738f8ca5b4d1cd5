use Rattle.std.proofs.Common.{◌≡◌, Bool, true, false, refl, sym, nat_lt}
use Rattle.std.specs.Prelude.{◌&&◌}
use Rattle.std.specs.List.{list_any}
use Rattle.rt_tree.specs.Shape.{tree_runs}
use Rattle.rt_tree.specs.Sharing.{is_shared_by}
use Rattle.rt_tree.proofs.Housing.{new_shares, unknown_new}
use Rattle.rt_tree.proofs.splice.is_in_two.Goals as goal

none_is : (a b : Bool) → b ≡ false → false ≡ (a && b)
none_is true b e = sym e
none_is false b e = refl

pub returns-then-is_new : goal.returns-then-is_new
returns-then-is_new c =
    let all = tree_runs c.args.mem.now c.args.root.index in let run = c.args.run.now in let i = c.is_new.ensures in
    let home = c.requires.home (i.sure c.if-is_new.true) in
    none_is (nat_lt 1 run.len) (list_any (is_shared_by run) all) (new_shares run all c.requires.some (unknown_new c.args.homes.now.leaves c.args.newest run all c.requires.known home (i.unknown c.if-is_new.true)))
