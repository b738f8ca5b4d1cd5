use Rattle.rt_args.proofs.parse_line.run_command.Goals as goal

pub returns : goal.returns
returns c =
    let site = c.with_option-run.ensures _ _ c.subcommand.ensures c.site_option.ensures in
    let log = c.with_option-run-2.ensures _ _ site c.path_option.ensures in
    c.with_option.ensures _ _ (c.with_option-run-3.ensures _ _ log c.path_option-2.ensures) c.files_word.ensures
