use Rattle.std.proofs.Common.{◌∙◌, ap, sym, Some}
use Rattle.std.specs.Option.{option_map}
use Rattle.std.proofs.lemmas.Result.{IfOk-weaker}
use Rattle.clap.specs.Words.{found_of}
use Rattle.clap.proofs.WalkLemmas.{first_value-rows}
use Rattle.rt_args.proofs.Named.{some_mapped}
use Rattle.rt_args.proofs.parse_line.file_in.Goals as goal

pub unwrap-file-requires : goal.unwrap-file-requires
unwrap-file-requires c =
    some_mapped (λ s. s.now) c.get_str.result c.requires.0 (c.get_str.ensures ∙ first_value-rows (found_of c.args.matches.now) c.args.name.now ∙ c.requires.1)

pub returns : goal.returns
returns c =
    let at = sym (first_value-rows (found_of c.args.matches.now) c.args.name.now) ∙ sym c.get_str.ensures in
    let read = at ∙ ap (option_map (λ s. s.now)) c.unwrap-file.ensures in
    IfOk-weaker c.from_str.result _ _ (λ file copied. read ∙ ap Some (sym copied)) c.from_str.ensures.ok
