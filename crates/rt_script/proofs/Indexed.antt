-- An index of files: what it has by a name, and with one more file before the others.
use Rattle.std.proofs.Common.{◌≡◌, ◌∙◌, ◌≤◌, arith, ℕ, Bool, true, false, List, [], ◌∷◌, Option, Some, None, Bor, ap, length, refl, string_bytes, sym}
use Rattle.std.specs.Prelude.{MatchOption, if◌then◌else◌}
use Rattle.std.specs.Map.{update}
use Rattle.std.specs.Option.{option_copied}
use Rattle.std.specs.Str.{bytes_eq}
use Rattle.std.proofs.lemmas.List.Elements.{All-head, All-tail}
use Rattle.indexmap.specs.IndexMap.{IndexMap, get_by}
use Rattle.rt_stamps.specs.declared.limits.TheConstants.{MOST_BYTES}
use Rattle.rt_stamps.specs.Words.{Word}
use Rattle.rt_script.specs.Indexed.{Finds}
use Rattle.rt_script.specs.Site.{AreWithin, GivenFile, file_named, named_files}

-- what was found is one file or among more, and within either way
either :
    (b : Bool) (bytes one : List ℕ) (more : Option (List ℕ)) → (if b then Some one else more) ≡ Some bytes
    → length one ≤ MOST_BYTES → (more ≡ Some bytes → length bytes ≤ MOST_BYTES) → length bytes ≤ MOST_BYTES
either true bytes one more e here there = grind (arith, here, e)
either false bytes one more e here there = there e

named_within : (name : Word) (files : List GivenFile) (bytes : List ℕ) → AreWithin files → file_named name (named_files files) ≡ Some bytes → length bytes ≤ MOST_BYTES
named_within name [] bytes within e = grind (arith, e)
named_within name (file ∷ files) bytes within e =
    either (bytes_eq (string_bytes file.0) name) bytes file.1.items (file_named name (named_files files)) e
    (All-head (λ f. length f.1.items ≤ MOST_BYTES) file files within)
    (named_within name files bytes (All-tail (λ f. length f.1.items ≤ MOST_BYTES) file files within))

-- what was found by a name is the file of that name
pub found_file : (name : Word) (files : List GivenFile) (found : Option (Bor (List ℕ))) → AreWithin files → option_copied found ≡ file_named name (named_files files)
    → MatchOption found (file_named name (named_files files) ≡ None) (λ bytes. (file_named name (named_files files) ≡ Some bytes.now) × (length bytes.now ≤ MOST_BYTES))
found_file name files None within e = sym e
found_file name files (Some bytes) within e = (sym e, named_within name files bytes.now within (sym e))

put_at :
    (b : Bool) (bytes : Bor (List ℕ)) (more : Option (Bor (List ℕ))) (rest : Option (List ℕ)) → option_copied more ≡ rest
    → option_copied (if b then Some bytes else more) ≡ (if b then Some bytes.now else rest)
put_at true bytes more rest e = refl
put_at false bytes more rest e = e

-- an index has one more file, before the others, where its bytes are put at its name
pub finds-put :
    {S : Type 0} (old new : IndexMap (Bor (List ℕ)) (Bor (List ℕ)) S) (file : GivenFile) (files : List GivenFile) (key : List ℕ) (bytes : Bor (List ℕ))
    → key ≡ string_bytes file.0 → bytes.now ≡ file.1.items
    → ((name : List ℕ) → get_by (λ k. bytes_eq name k.now) new ≡ update bytes_eq (λ other. get_by (λ k. bytes_eq other k.now) old) key (Some bytes) name)
    → Finds old files → Finds new (file ∷ files)
finds-put old new file files key bytes is holds updates finds = λ name.
    ap option_copied (updates name)
    ∙ put_at (bytes_eq key name) bytes (get_by (λ k. bytes_eq name k.now) old) (file_named name (named_files files)) (finds name)
    ∙ ap (λ (l : List ℕ). if bytes_eq key name then Some l else file_named name (named_files files)) holds
    ∙ ap (λ (k : List ℕ). if bytes_eq k name then Some file.1.items else file_named name (named_files files)) is
