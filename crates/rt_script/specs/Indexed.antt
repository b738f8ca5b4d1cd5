-- An index, by name, of the files that a script may name.
use Rattle.std.specs.Prelude.{◌≡◌, ℕ, List}
use Rattle.std.specs.Borrow.{Bor}
use Rattle.std.specs.Option.{option_copied}
use Rattle.std.specs.Str.{bytes_eq}
use Rattle.indexmap.specs.IndexMap.{IndexMap, get_by}
use Rattle.rt_stamps.specs.Words.{Word}
use Rattle.rt_script.specs.Site.{GivenFile, file_named, named_files}

-- under each name the index has the bytes of the file of that name, or nothing where there is none
abbrev pub Finds : {S : Type 0} → IndexMap (Bor (List ℕ)) (Bor (List ℕ)) S → List GivenFile → Type 0
Finds index files = (name : Word) → option_copied (get_by (λ key. bytes_eq name key.now) index) ≡ file_named name (named_files files)
