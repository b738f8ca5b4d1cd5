-- What an operation does to the characters, without their tags.
use Rattle.std.proofs.Common.{◌≡◌, ℕ, ◌+◌, List, [], ◌∷◌, Bool, true, false, cond, map, refl, sym, ◌∙◌, ap}
use Rattle.rt_stamps.specs.declared.stamp.Span.{Span}
use Rattle.rt_stamps.specs.declared.stamp.Stamp.{Stamp}
use Rattle.rt_ops.specs.Operations.{Insert, Delete, Tag, Name, Operation, stamp_of}
use Rattle.rt_oplog.specs.Logs.{with_operation}
use Rattle.rt_store.specs.Cells.{put_at, text_of}
use Rattle.rt_rga.specs.Cells.{cells_of}
use Rattle.rt_rga.specs.Histories.{Continues, IsHistory}
use Rattle.rt_rga.specs.Taken.{place_in, retags, takes_away}
use Rattle.rt_rga.specs.Texts.{TaggedCharacter, tagged_text}
use Rattle.rt_rga.proofs.Merging.{map_put}
use Rattle.rt_rga.proofs.Texts.{tagged_characters}
use Rattle.rt_changes.specs.Replays.{all_under, changed_at, left_at, tagged_with}
use Rattle.rt_changes.proofs.Texts.{deletes_take_away, inserts_put_in, tags_retag}

abbrev ch_of : TaggedCharacter → ℕ
ch_of c = c.ch

under_text : (tags : List Name) (text : List ℕ) → map ch_of (all_under tags text) ≡ text
under_text tags [] = refl
under_text tags (c ∷ text) = ap (λ l. c ∷ l) (under_text tags text)

map_left : {X Y : Type 0} (f : X → Y) (at : ℕ → Bool) (k : ℕ) (xs : List X) → map f (left_at at k xs) ≡ left_at at k (map f xs)
map_left f at k [] = refl
map_left f at k (x ∷ xs) = by (at k) (map_left f at (k + 1) xs)
  where
    by : (b : Bool) → map f (left_at at (k + 1) xs) ≡ left_at at (k + 1) (map f xs) → map f (cond b (left_at at (k + 1) xs) (x ∷ left_at at (k + 1) xs)) ≡ cond b (left_at at (k + 1) (map f xs)) (f x ∷ left_at at (k + 1) (map f xs))
    by true ih = ih
    by false ih = ap (λ l. f x ∷ l) ih

same_characters : (on : Bool) (name : Name) (at : ℕ → Bool) (k : ℕ) (xs : List TaggedCharacter) → map ch_of (changed_at at (tagged_with on name) k xs) ≡ map ch_of xs
same_characters on name at k [] = refl
same_characters on name at k (x ∷ xs) = by (at k) (same_characters on name at (k + 1) xs)
  where
    by : (b : Bool) → map ch_of (changed_at at (tagged_with on name) (k + 1) xs) ≡ map ch_of xs → (cond b (tagged_with on name x) x).ch ∷ map ch_of (changed_at at (tagged_with on name) (k + 1) xs) ≡ x.ch ∷ map ch_of xs
    by true ih = ap (λ l. x.ch ∷ l) ih
    by false ih = ap (λ l. x.ch ∷ l) ih

pub inserts_put_text_in : (set : List Operation) (op : Operation) (after : Stamp) (tags : List Name) (text : List ℕ) → op.body ≡ Insert after tags text → IsHistory set → Continues set op
    → text_of (cells_of (with_operation op set)) ≡ put_at (place_in op (cells_of set)) text (text_of (cells_of set))
inserts_put_text_in set op after tags text e h k =
    sym (tagged_characters (cells_of (with_operation op set)))
    ∙ ap (map ch_of) (inserts_put_in set op after tags text e h k)
    ∙ map_put ch_of (place_in op (cells_of set)) (all_under tags text) (tagged_text (cells_of set))
    ∙ (λ i. put_at (place_in op (cells_of set)) (under_text tags text i) (tagged_characters (cells_of set) i))

pub deletes_take_text_away : (set : List Operation) (op : Operation) (spans : List Span) → op.body ≡ Delete spans → IsHistory set → Continues set op
    → text_of (cells_of (with_operation op set)) ≡ left_at (takes_away op.body (cells_of set)) 0 (text_of (cells_of set))
deletes_take_text_away set op spans e h k =
    sym (tagged_characters (cells_of (with_operation op set)))
    ∙ ap (map ch_of) (deletes_take_away set op spans e h k)
    ∙ map_left ch_of (takes_away op.body (cells_of set)) 0 (tagged_text (cells_of set))
    ∙ ap (left_at (takes_away op.body (cells_of set)) 0) (tagged_characters (cells_of set))

pub tags_leave_text : (set : List Operation) (op : Operation) (on : Bool) (name : Name) (spans : List Span) → op.body ≡ Tag on name spans → IsHistory set → Continues set op
    → text_of (cells_of (with_operation op set)) ≡ text_of (cells_of set)
tags_leave_text set op on name spans e h k =
    sym (tagged_characters (cells_of (with_operation op set)))
    ∙ ap (map ch_of) (tags_retag set op on name spans e h k)
    ∙ same_characters on name (retags (stamp_of op) op.body (cells_of set)) 0 (tagged_text (cells_of set))
    ∙ tagged_characters (cells_of set)
