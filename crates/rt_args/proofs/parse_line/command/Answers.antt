use Rattle.rt_args.proofs.parse_line.command.Goals as goal

pub returns : goal.returns
returns c =
    let run = c.with_command-program.ensures _ _ c.program.ensures c.run_command.ensures in
    c.with_command.ensures _ _ (c.with_command-program-2.ensures _ _ run c.join_command.ensures) c.show_command.ensures
