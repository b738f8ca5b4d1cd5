use Rattle.std.proofs.Common.{◌∙◌, ap}
use Rattle.std.specs.Option.{option_copied}
use Rattle.rt_script.proofs.Indexed.{found_file}
use Rattle.rt_script.proofs.site_lines.file_found.Goals as goal

pub returns : goal.returns
returns c = found_file c.args.name.now c.args.files.now c.copied.result c.requires.within (ap option_copied (c.copied.ensures ∙ c.get.ensures.value) ∙ c.requires.index c.args.name.now)
