use Rattle.rt_args.proofs.parse_line.join_command.Goals as goal

pub returns : goal.returns
returns c =
    let a = c.with_option-join.ensures _ _ c.subcommand.ensures c.file_word.ensures in
    c.with_option.ensures _ _ (c.with_option-join-2.ensures _ _ a c.file_word-2.ensures) c.file_word-3.ensures
