-- Offsets: where the records of a file begin.
use Rattle.std.proofs.Common.{◌≡◌, ℕ, zero, suc, ◌+◌, ◌<◌, List, [], ◌∷◌, ◌++◌, length, take, Some, refl, ap, ◌∙◌, arith}
use Rattle.std.specs.Prelude.{slice_get}
use Rattle.std.specs.List.{flat_map}
use Rattle.std.proofs.lemmas.List.{length-append}
use Rattle.rt_ops.specs.declared.version.Version.{Version}
use Rattle.rt_ops.specs.Operations.{Operation}
use Rattle.rt_ops.specs.File.{magic, record_of, file_of}
use Rattle.rt_ops.specs.Reading.{offsets_from}
use Rattle.rt_ops.proofs.Taken.{magic_length}

begin_at : (ver : Version) (at : ℕ) (ops : List Operation) (place : ℕ) → place < length ops → slice_get (offsets_from ver at ops) place ≡ Some (at + length (flat_map (record_of ver) (take place ops)))
begin_at ver at [] place h = absurd (omega arith)
begin_at ver at (op ∷ ops) zero h = let e : at ≡ at + 0 = omega arith in ap Some e
begin_at ver at (op ∷ ops) (suc place) h =
    let r = record_of ver op in
    let rest = flat_map (record_of ver) (take place ops) in
    let e : at + length r + length rest ≡ at + length (r ++ rest) = omega (arith, length-append r rest) in
    begin_at ver (at + length r) ops place (omega arith) ∙ ap Some e

pub offsets_begin : (ver : Version) (ops : List Operation) (place : ℕ) → place < length ops → slice_get (offsets_from ver 8 ops) place ≡ Some (length (file_of ver (take place ops)))
offsets_begin ver ops place h =
    let rest = flat_map (record_of ver) (take place ops) in
    let e : 8 + length rest ≡ length (magic ver ++ rest) = omega (arith, length-append (magic ver) rest, magic_length ver) in
    begin_at ver 8 ops place h ∙ ap Some e

as_many : (ver : Version) (at : ℕ) (ops : List Operation) → length (offsets_from ver at ops) ≡ length ops
as_many ver at [] = refl
as_many ver at (op ∷ ops) = ap suc (as_many ver (at + length (record_of ver op)) ops)

pub one_offset_each : (ver : Version) (ops : List Operation) → length (offsets_from ver 8 ops) ≡ length ops
one_offset_each ver ops = as_many ver 8 ops
