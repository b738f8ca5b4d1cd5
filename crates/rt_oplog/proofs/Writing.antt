-- A log's file, written block by block.
use Rattle.rt_rows.specs.Places.{op_at}
use Rattle.rt_rows.specs.declared.rows.RowPlace.{RowPlace}
use Rattle.std.proofs.Common.{◌≡◌, ℕ, ◌+◌, ◌<◌, sym, ap, ◌∙◌, append_assoc, List, [], ◌∷◌, ◌++◌, length, get_or, take, drop, take-append-drop, Option}
use Rattle.std.specs.Io.KnownBytes.{Appends}
use Rattle.std.specs.List.{flat_map}
use Rattle.std.proofs.lemmas.List.{append-nil, map-append, take_more}
use Rattle.std.proofs.lemmas.Grind.{flat_map-append}
use Rattle.rt_stamps.specs.Written.{AppendsPart}
use Rattle.rt_stamps.proofs.Writes.{appends_then, part_of, part_then, part_longer}
use Rattle.rt_ops.specs.declared.version.Version.{Version}
use Rattle.rt_ops.specs.Operations.{Operation}
use Rattle.rt_ops.specs.File.{magic, record_of, file_of}
use Rattle.rt_oplog.specs.declared.block.Block.{Block}
use Rattle.rt_oplog.specs.declared.run.Run.{Run}
use Rattle.rt_oplog.specs.Runs.{places_in, places_of}
use Rattle.rt_oplog.specs.Blocks.{places_in_blocks, places_of_block}
use Rattle.rt_oplog.proofs.InParts.{places_next}
use Rattle.rt_oplog.proofs.Merges.{ops_at}

-- the records of the operations of places
abbrev pub records_of : Version → List (List Operation) → List RowPlace → List ℕ
records_of ver ops places = flat_map (record_of ver) (ops_at ops places)

records_append : (ver : Version) (ops : List (List Operation)) (xs ys : List RowPlace) → records_of ver ops (xs ++ ys) ≡ records_of ver ops xs ++ records_of ver ops ys
records_append ver ops xs ys = ap (flat_map (record_of ver)) (map-append (op_at ops) xs ys) ∙ flat_map-append (record_of ver) (ops_at ops xs) (ops_at ops ys)

spelling_append : (ver : Version) (ops : List (List Operation)) (xs ys : List RowPlace) → file_of ver (ops_at ops (xs ++ ys)) ≡ file_of ver (ops_at ops xs) ++ records_of ver ops ys
spelling_append ver ops xs ys = ap (λ v. magic ver ++ v) (records_append ver ops xs ys) ∙ sym (append_assoc (magic ver) (records_of ver ops xs) (records_of ver ops ys))

-- ---- the next place

record_next : (ver : Version) (ops : List (List Operation)) (places : List RowPlace) (i : ℕ) (op : Operation) → i < length places → op ≡ op_at ops (get_or places i (record { row = 0; at = 0 }))
    → records_of ver ops (take (i + 1) places) ≡ records_of ver ops (take i places) ++ record_of ver op
record_next ver ops places i op h e =
    ap (records_of ver ops) (take_more places i (record { row = 0; at = 0 }) h) ∙ records_append ver ops (take i places) (get_or places i (record { row = 0; at = 0 }) ∷ []) ∙ ap (λ v. records_of ver ops (take i places) ++ v) (append-nil _ ∙ ap (record_of ver) (sym e))

records_parts : (ver : Version) (ops : List (List Operation)) (places : List RowPlace) (i : ℕ) → records_of ver ops places ≡ records_of ver ops (take i places) ++ records_of ver ops (drop i places)
records_parts ver ops places i = ap (records_of ver ops) (sym (take-append-drop i places)) ∙ records_append ver ops (take i places) (drop i places)

pub next_wrote : (ver : Version) (a b c : Option (List ℕ)) (ops : List (List Operation)) (places : List RowPlace) (i : ℕ) (op : Operation) → i < length places → op ≡ op_at ops (get_or places i (record { row = 0; at = 0 }))
    → Appends a b (records_of ver ops (take i places)) → Appends b c (record_of ver op) → Appends a c (records_of ver ops (take (i + 1) places))
next_wrote ver a b c ops places i op l e h k = rw (record_next ver ops places i op l e) (appends_then a b c _ _ h k)

-- a front was written: no more than the records before, a part of the next one too

pub before_wrote : (ver : Version) (a b : Option (List ℕ)) (ops : List (List Operation)) (places : List RowPlace) (i : ℕ) → Appends a b (records_of ver ops (take i places)) → AppendsPart a b (records_of ver ops places)
before_wrote ver a b ops places i h = rw (records_parts ver ops places i) (part_of a b _ _ h)

pub part_wrote : (ver : Version) (a b c : Option (List ℕ)) (ops : List (List Operation)) (places : List RowPlace) (i : ℕ) (op : Operation) → i < length places → op ≡ op_at ops (get_or places i (record { row = 0; at = 0 }))
    → Appends a b (records_of ver ops (take i places)) → AppendsPart b c (record_of ver op) → AppendsPart a c (records_of ver ops places)
part_wrote ver a b c ops places i op l e h k =
    rw (records_parts ver ops places (i + 1), record_next ver ops places i op l e) (part_longer a c _ _ (part_then a b c _ _ h k))

-- ---- the next run

pub part_run : (ver : Version) (a b c : Option (List ℕ)) (ops : List (List Operation)) (runs : List Run) (i : ℕ) (run : Run) → i < length runs → run ≡ get_or runs i run
    → Appends a b (records_of ver ops (places_in (take i runs))) → AppendsPart b c (records_of ver ops (places_of run)) → AppendsPart a c (records_of ver ops (places_in runs))
part_run ver a b c ops runs i run l e h k =
    let parts = ap places_in (sym (take-append-drop (i + 1) runs)) ∙ flat_map-append places_of (take (i + 1) runs) (drop (i + 1) runs) in
    let next = ap (records_of ver ops) (places_next places_of runs i run l e) ∙ records_append ver ops (places_in (take i runs)) (places_of run) in
    rw (parts, records_append ver ops (places_in (take (i + 1) runs)) (places_in (drop (i + 1) runs)), next) (part_longer a c _ _ (part_then a b c _ _ h k))

-- ---- the next block

block_next : (ver : Version) (ops : List (List Operation)) (bs : List Block) (i : ℕ) (b : Block) → i < length bs → b ≡ get_or bs i b
    → file_of ver (ops_at ops (places_in_blocks (take (i + 1) bs))) ≡ file_of ver (ops_at ops (places_in_blocks (take i bs))) ++ records_of ver ops (places_of_block b)
block_next ver ops bs i b l e = ap (λ places. file_of ver (ops_at ops places)) (places_next places_of_block bs i b l e) ∙ spelling_append ver ops (places_in_blocks (take i bs)) (places_of_block b)

pub part_block : (ver : Version) (a b c : Option (List ℕ)) (ops : List (List Operation)) (bs : List Block) (i : ℕ) (d : Block) → i < length bs → d ≡ get_or bs i d
    → Appends a b (file_of ver (ops_at ops (places_in_blocks (take i bs)))) → AppendsPart b c (records_of ver ops (places_of_block d)) → AppendsPart a c (file_of ver (ops_at ops (places_in_blocks bs)))
part_block ver a b c ops bs i d l e h k =
    let parts = ap places_in_blocks (sym (take-append-drop (i + 1) bs)) ∙ flat_map-append places_of_block (take (i + 1) bs) (drop (i + 1) bs) in
    rw (parts, spelling_append ver ops (places_in_blocks (take (i + 1) bs)) (places_in_blocks (drop (i + 1) bs)), block_next ver ops bs i d l e) (part_longer a c _ _ (part_then a b c _ _ h k))
