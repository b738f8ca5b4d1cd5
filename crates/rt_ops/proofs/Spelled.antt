-- A file written record by record.
use Rattle.std.proofs.Common.{◌≡◌, ℕ, ◌+◌, ◌<◌, List, [], ◌∷◌, ◌++◌, length, take, drop, get_or, sym, ap, ◌∙◌, append_assoc, Option, Some}
use Rattle.std.specs.Prelude.{slice_get, encode_utf8_all}
use Rattle.std.specs.List.{flat_map}
use Rattle.std.specs.Io.KnownBytes.{Appends}
use Rattle.std.proofs.Math.Utf8.{encode}
use Rattle.std.proofs.lemmas.List.{take_more, append-nil}
use Rattle.std.proofs.lemmas.List.Concat.{flat_map-append}
use Rattle.std.proofs.lemmas.Option.{slice_get_within, get_or_from_slice_get}
use Rattle.std.proofs.lemmas.Str.{encodes-append}
use Rattle.rt_stamps.specs.Written.{AppendsPart}
use Rattle.rt_stamps.proofs.Writes.{flat_map_parts, appends_then, part_then, part_longer, part_of}
use Rattle.rt_ops.specs.declared.version.Version.{Version}
use Rattle.rt_ops.specs.Operations.{Operation}
use Rattle.rt_ops.specs.File.{magic, record_of, file_of}

pub encodes_more : (text : List ℕ) (i c : ℕ) → i < length text → c ≡ get_or text i c → encode_utf8_all (take (i + 1) text) ≡ encode_utf8_all (take i text) ++ encode c
encodes_more text i c h is =
    ap encode_utf8_all (take_more text i c h ∙ ap (λ x. take i text ++ x ∷ []) (sym is)) ∙ encodes-append (take i text) (c ∷ []) ∙ ap (λ v. encode_utf8_all (take i text) ++ v) (append-nil (encode c))

pub spelling_more : (ver : Version) (ops : List Operation) (i : ℕ) (op : Operation) → slice_get ops i ≡ Some op → file_of ver (take (i + 1) ops) ≡ file_of ver (take i ops) ++ record_of ver op
spelling_more ver ops i op h =
    ap (file_of ver) (take_more ops i op (slice_get_within ops i op h) ∙ ap (λ x. take i ops ++ x ∷ []) (get_or_from_slice_get ops i op op h))
    ∙ ap (λ v. magic ver ++ v) (flat_map-append (record_of ver) (take i ops) (op ∷ []) ∙ ap (λ v. flat_map (record_of ver) (take i ops) ++ v) (append-nil (record_of ver op)))
    ∙ sym (append_assoc (magic ver) (flat_map (record_of ver) (take i ops)) (record_of ver op))

-- what was written, the next record and the others
pub spelling_parts : (ver : Version) (ops : List Operation) (i : ℕ) (op : Operation) → slice_get ops i ≡ Some op → file_of ver ops ≡ (file_of ver (take i ops) ++ record_of ver op) ++ flat_map (record_of ver) (drop (i + 1) ops)
spelling_parts ver ops i op h =
    let front = flat_map (record_of ver) (take i ops) in
    let rest = flat_map (record_of ver) (drop (i + 1) ops) in
    ap (λ v. magic ver ++ v) (flat_map_parts (record_of ver) ops i op (slice_get_within ops i op h) ∙ ap (λ x. (front ++ record_of ver x) ++ rest) (get_or_from_slice_get ops i op op h))
    ∙ sym (append_assoc (magic ver) (front ++ record_of ver op) rest) ∙ ap (λ v. v ++ rest) (sym (append_assoc (magic ver) front (record_of ver op)))

pub wrote_more : (ver : Version) (a b c : Option (List ℕ)) (ops : List Operation) (i : ℕ) (op : Operation) → slice_get ops i ≡ Some op → Appends a b (file_of ver (take i ops)) → Appends b c (record_of ver op) → Appends a c (file_of ver (take (i + 1) ops))
wrote_more ver a b c ops i op is h k = rw (spelling_more ver ops i op is) (appends_then a b c _ _ h k)

-- a front of the file was written: no more than the records before; a part of the next one too
pub wrote_before : (ver : Version) (a b : Option (List ℕ)) (ops : List Operation) (i : ℕ) (op : Operation) → slice_get ops i ≡ Some op → Appends a b (file_of ver (take i ops)) → AppendsPart a b (file_of ver ops)
wrote_before ver a b ops i op is h = rw (spelling_parts ver ops i op is, append_assoc (file_of ver (take i ops)) (record_of ver op) (flat_map (record_of ver) (drop (i + 1) ops))) (part_of a b _ _ h)

pub wrote_part : (ver : Version) (a b c : Option (List ℕ)) (ops : List Operation) (i : ℕ) (op : Operation) → slice_get ops i ≡ Some op → Appends a b (file_of ver (take i ops)) → AppendsPart b c (record_of ver op) → AppendsPart a c (file_of ver ops)
wrote_part ver a b c ops i op is h k = rw (spelling_parts ver ops i op is) (part_longer a c _ _ (part_then a b c _ _ h k))
