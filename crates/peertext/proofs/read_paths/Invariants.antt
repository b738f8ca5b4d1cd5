use Rattle.std.proofs.Common.{◌≡◌, take}
use Rattle.rt_stamps.specs.Words.{as_words}
use Rattle.rt_script.specs.Site.{AreWithin}
use Rattle.peertext.specs.Program.{names_of_files}
use Rattle.peertext.proofs.read_paths.Given as goal

abbrev pub invariant-loop-path : goal.invariant-loop-path
invariant-loop-path l = AreWithin l.files.items × (names_of_files l.files.items ≡ as_words (take l.path-index l.paths))
