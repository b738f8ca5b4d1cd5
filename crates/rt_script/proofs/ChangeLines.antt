-- Lines of changes, as they are written.
use Rattle.std.proofs.Common.{◌≡◌, ◌∙◌, ℕ, List, [], ◌∷◌, ◌++◌, Option, Result, Ok, Err, String, Vec, Global, Bool, ap, sym, append_assoc, codes, map, string_bytes}
use Rattle.std.specs.Prelude.{OnOk, encode_utf8_all}
use Rattle.std.specs.Fmt.{decimal}
use Rattle.std.specs.Io.KnownBytes.{Appends}
use Rattle.std.specs.List.{flat_map}
use Rattle.std.proofs.lemmas.Grind.{flat_map-append}
use Rattle.std.proofs.lemmas.List.Folds.{flat_map-map}
use Rattle.rt_stamps.specs.Words.{as_words}
use Rattle.rt_stamps.specs.Written.{Wrote}
use Rattle.rt_stamps.proofs.Writes.{appends_then}
use Rattle.rt_words.specs.Writing.{text_of_word}
use Rattle.rt_files.specs.Shown.{spaced}
use Rattle.rt_rga.specs.declared.taken.PlaceRun.{PlaceRun}
use Rattle.rt_changes.specs.declared.change.ToldChange.{ToldChange}
use Rattle.rt_changes.specs.declared.change.ToldChange.TheVariants as told
use Rattle.rt_changes.specs.Replays.{Deleted, Inserted, Tagged}
use Rattle.rt_script.specs.Changes.{change_line, change_lines}

-- the line of an insertion, in the steps that write it
pub insert_is : (at : ℕ) (text : List ℕ) (tags : List (String Global)) → change_line (Inserted at text (as_words tags))
    ≡ codes "insert" ++ (spaced (decimal at ∷ text_of_word (encode_utf8_all text) ∷ []) ++ (flat_map (λ name. 32 ∷ text_of_word (string_bytes name)) tags ++ (10 ∷ [])))
insert_is at text tags =
    let first : List (List ℕ) = decimal at ∷ text_of_word (encode_utf8_all text) ∷ [] in
    let names = flat_map (λ (name : String Global). 32 ∷ text_of_word (string_bytes name)) tags in
    let split : spaced (first ++ map text_of_word (as_words tags)) ≡ spaced first ++ names =
    flat_map-append (λ word. 32 ∷ word) first (map text_of_word (as_words tags))
    ∙ ap (λ v. spaced first ++ v) (flat_map-map (λ word. 32 ∷ word) text_of_word (as_words tags) ∙ flat_map-map (λ word. 32 ∷ text_of_word word) (λ (name : String Global). string_bytes name) tags) in
    ap (λ v. codes "insert" ++ (v ++ (10 ∷ []))) split ∙ ap (λ v. codes "insert" ++ v) (append_assoc (spaced first) names (10 ∷ []))

-- four texts were written, one behind the other
pub in_four : {T E : Type 0} (a b c d e : Option (List ℕ)) (r : Result T E) (s t u v : List ℕ) → Appends a b s → Appends b c t → Appends c d u → Wrote d e r v
    → OnOk r (Appends a e (s ++ (t ++ (u ++ v))))
in_four a b c d e (Ok x) s t u v one two three last = appends_then a b e s (t ++ (u ++ v)) one (appends_then b c e t (u ++ v) two (appends_then c d e u v three last))
in_four a b c d e (Err x) s t u v one two three last = tt

-- the lines of runs that are gone, or on which a tag changed
pub deleted_is : (change : ToldChange) (runs : Vec PlaceRun Global) (items : List PlaceRun) → change ≡ told.Deleted runs → items ≡ runs.items
    → change_lines change ≡ flat_map (λ run. change_line (Deleted run.from run.to)) items
deleted_is change runs items is same =
    ap change_lines is ∙ flat_map-map change_line (λ (run : PlaceRun). Deleted run.from run.to) runs.items ∙ ap (flat_map (λ (run : PlaceRun). change_line (Deleted run.from run.to))) (sym same)

pub tagged_is : (change : ToldChange) (on : Bool) (name : String Global) (text : List ℕ) (runs : Vec PlaceRun Global) (items : List PlaceRun) → change ≡ told.Tagged on name runs
    → text ≡ string_bytes name → items ≡ runs.items → change_lines change ≡ flat_map (λ run. change_line (Tagged on text run.from run.to)) items
tagged_is change on name text runs items is named same =
    ap change_lines is ∙ flat_map-map change_line (λ (run : PlaceRun). Tagged on (string_bytes name) run.from run.to) runs.items
    ∙ ap (λ (bytes : List ℕ). flat_map (λ (run : PlaceRun). change_line (Tagged on bytes run.from run.to)) runs.items) (sym named)
    ∙ ap (flat_map (λ (run : PlaceRun). change_line (Tagged on text run.from run.to))) (sym same)
