use Rattle.std.proofs.Common.{arith, string_bytes, Global}
use Rattle.std.proofs.lemmas.Bool.Decides.{nat_tests}
use Rattle.std.proofs.lemmas.List.{length-map}
use Rattle.rt_ops.specs.Rules.{is_name, is_lesser_name}
use Rattle.rt_ops.proofs.Adjacent.{all_map, each_next_map}
use Rattle.rt_ops.proofs.rules.are_tags.Goals as goal

pub returns-then-are_names : goal.returns-then-are_names
returns-then-are_names c =
    let names = all_map is_name (string_bytes {Z = Global}) c.args.tags.now in
    let rising = each_next_map is_lesser_name (string_bytes {Z = Global}) c.args.tags.now in
    let len = length-map c.args.tags.now (string_bytes {Z = Global}) in
    rw (names, rising, len) (grind (arith, nat_tests))

pub returns-else-are_names : goal.returns-else-are_names
returns-else-are_names c =
    let names = all_map is_name (string_bytes {Z = Global}) c.args.tags.now in
    let rising = each_next_map is_lesser_name (string_bytes {Z = Global}) c.args.tags.now in
    let len = length-map c.args.tags.now (string_bytes {Z = Global}) in
    rw (names, rising, len) (grind (arith, nat_tests))
