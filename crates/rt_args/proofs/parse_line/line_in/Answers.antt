use Rattle.std.proofs.Common.{codes, refl}
use Rattle.rt_args.proofs.Named.{file_of_show, files_of_join, found_is, is_show, line_found, site_of_run}
use Rattle.rt_args.proofs.parse_line.line_in.Goals as goal

pub run_in-requires : goal.run_in-requires
run_in-requires c = site_of_run _ _ c.requires (found_is c.args.matches.now _ _ (c.in-Some.ensures.found.0 refl) c.in-Some.ensures.rows)

pub returns-in-Some : goal.returns-in-Some
returns-in-Some c =
    line_found _ _ _ (found_is c.args.matches.now (codes "run") _ (c.in-Some.ensures.found.0 refl) c.in-Some.ensures.rows) c.run_in.result c.run_in.ensures

pub join_in-requires-clause-a : goal.join_in-requires-clause-a
join_in-requires-clause-a c =
    let join = c.in-Some-subcommand_matches.ensures in
    (files_of_join _ _ c.requires (found_is c.args.matches.now _ _ (join.found.0 refl) join.rows)).0

pub join_in-requires-clause-b : goal.join_in-requires-clause-b
join_in-requires-clause-b c =
    let join = c.in-Some-subcommand_matches.ensures in
    (files_of_join _ _ c.requires (found_is c.args.matches.now _ _ (join.found.0 refl) join.rows)).1

pub join_in-requires-clause-out : goal.join_in-requires-clause-out
join_in-requires-clause-out c =
    let join = c.in-Some-subcommand_matches.ensures in
    (files_of_join _ _ c.requires (found_is c.args.matches.now _ _ (join.found.0 refl) join.rows)).2

pub returns-in-Some-subcommand_matches : goal.returns-in-Some-subcommand_matches
returns-in-Some-subcommand_matches c =
    let join = c.in-Some-subcommand_matches.ensures in
    line_found _ _ _ (found_is c.args.matches.now (codes "join") _ (join.found.0 refl) join.rows) c.join_in.result c.join_in.ensures

pub unwrap-requires : goal.unwrap-requires
unwrap-requires c =
    c.subcommand_matches-in-None-subcommand_matches.ensures.found.1
    (is_show c.args.matches.now c.requires c.in-None.ensures.found.1 c.in-None-subcommand_matches.ensures.found.1)

pub show_in-requires : goal.show_in-requires
show_in-requires c =
    let named = is_show c.args.matches.now c.requires c.in-None.ensures.found.1 c.in-None-subcommand_matches.ensures.found.1 in
    file_of_show _ _ c.requires (found_is c.args.matches.now _ _ named (rw c.unwrap.ensures at c.subcommand_matches-in-None-subcommand_matches.ensures.rows))

pub returns-in-None-subcommand_matches : goal.returns-in-None-subcommand_matches
returns-in-None-subcommand_matches c =
    let named = is_show c.args.matches.now c.requires c.in-None.ensures.found.1 c.in-None-subcommand_matches.ensures.found.1 in
    let rows = rw c.unwrap.ensures at c.subcommand_matches-in-None-subcommand_matches.ensures.rows in
    line_found _ _ _ (found_is c.args.matches.now (codes "show") _ named rows) c.show_in.result c.show_in.ensures
