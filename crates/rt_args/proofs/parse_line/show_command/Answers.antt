use Rattle.rt_args.proofs.parse_line.show_command.Goals as goal

pub returns : goal.returns
returns c = c.with_option.ensures _ _ c.subcommand.ensures c.file_word.ensures
