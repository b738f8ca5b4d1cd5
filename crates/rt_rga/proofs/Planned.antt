-- Operations at once: Tags wait until all Inserts and Deletes are done.
use Rattle.std.proofs.Common.{◌≡◌, ℕ, ◌+◌, ◌≤◌, Bool, true, false, true≢false, refl, sym, ap, ◌∙◌, arith, List, [], ◌∷◌, ◌++◌, cond, length, map, take, drop}
use Rattle.std.proofs.lemmas.Bool.Decides.{nat_tests}
use Rattle.std.proofs.lemmas.List.{drop-map, take-map}
use Rattle.std.specs.Prelude.{position, take_while, unwrap_or}
use Rattle.std.specs.List.{AllByRecursion}
use Rattle.rt_stamps.specs.declared.stamp.Span.{Span}
use Rattle.rt_stamps.specs.declared.stamp.Stamp.{Stamp}
use Rattle.rt_stamps.specs.declared.stamp.TheConstants.{ROOT}
use Rattle.rt_stamps.specs.Stamps.{is_before, is_same}
use Rattle.rt_stamps.proofs.Order.{before_asym}
use Rattle.rt_ops.specs.Operations.{Operation, Body, Insert, Delete, Tag, Name, has_bad_stamp, stamp_of}
use Rattle.rt_store.specs.Cells.{after_element, cells_from, position_of, put_at, skip_from, stamps_of, with_state}
use Rattle.rt_store.specs.Shown.{TaggedCell}
use Rattle.rt_store.specs.Spans.{gone_in_any, is_in_spans}
use Rattle.rt_store.proofs.Places.{past, past_is}
use Rattle.rt_store.proofs.Shown.{map_append, position_map}
use Rattle.rt_tags.specs.States.{Write, written}
use Rattle.rt_tags.specs.Writers.{listed_by, state_after}
use Rattle.rt_rga.specs.Batches.{AreRising, AreSound, after_tags, all_put, put_by, tag_writes, tag_writes_by}
use Rattle.rt_rga.specs.Changes.{changed_by, written_in_any}
use Rattle.rt_rga.specs.Drafts.{all_changed}
use Rattle.rt_rga.proofs.Continuing.{names}
use Rattle.rt_rga.proofs.Later.{named_before}
use Rattle.rt_rga.proofs.Skipping.{split}
use Rattle.rt_rga.proofs.Writes.{spans_name}

-- CELLS THAT KEEP THEIR STAMPS

module _ (g : TaggedCell → TaggedCell) (keeps : (c : TaggedCell) → (g c).stamp ≡ c.stamp) where
  pub stamps_keep : (cells : List TaggedCell) → stamps_of (map g cells) ≡ stamps_of cells
  stamps_keep [] = refl
  stamps_keep (c ∷ cells) = λ i. keeps c i ∷ stamps_keep cells i

  position_keeps : (cells : List TaggedCell) (s : Stamp) → position_of (map g cells) s ≡ position_of cells s
  position_keeps cells s = position_map (λ cell. is_same cell.stamp s) g cells ∙ (λ i. position (λ cell. is_same (keeps cell i) s) cells)

  after_keeps : (cells : List TaggedCell) (left : Stamp) → after_element (map g cells) left ≡ after_element cells left
  after_keeps cells left = ap (λ o. cond (is_same left ROOT) 0 (unwrap_or o 0 + 1)) (position_keeps cells left)

  past_keeps : (new : Stamp) (cells : List TaggedCell) → length (take_while (λ cell. is_before new cell.stamp) (map g cells)) ≡ length (take_while (λ cell. is_before new cell.stamp) cells)
  past_keeps new cells = past_is new (map g cells) ∙ ap (past new) (stamps_keep cells) ∙ sym (past_is new cells)

  pub skip_keeps : (cells : List TaggedCell) (left new : Stamp) → skip_from (map g cells) left new ≡ skip_from cells left new
  skip_keeps cells left new =
      ap (λ n. n + length (take_while (λ cell. is_before new cell.stamp) (drop n (map g cells)))) (after_keeps cells left)
      ∙ ap (λ k. after_element cells left + k)
      (ap (λ xs. length (take_while (λ cell. is_before new cell.stamp) xs)) (drop-map g (after_element cells left) cells) ∙ past_keeps new (drop (after_element cells left) cells))

  put_keeps : (n : ℕ) (new cells : List TaggedCell) → map g new ≡ new → put_at n new (map g cells) ≡ map g (put_at n new cells)
  put_keeps n new cells e =
      (λ i. take-map g n cells i ++ (new ++ drop-map g n cells i))
      ∙ sym
      (map_append g (take n cells) (new ++ drop n cells)
      ∙ ap (λ l. map g (take n cells) ++ l) (map_append g new (drop n cells) ∙ ap (λ l. l ++ map g (drop n cells)) e))

-- A WRITE BEFORE WHAT COMES LATER

same_stamp : (b : Bool) (w : Write) (c : TaggedCell) → (cond b (record c { state = written w c.state }) c).stamp ≡ c.stamp
same_stamp true w c = refl
same_stamp false w c = refl

written_stamp : (spans : List Span) (w : Write) (c : TaggedCell) → (written_in_any spans w c).stamp ≡ c.stamp
written_stamp spans w c = same_stamp (is_in_spans spans c.stamp) w c

-- a sound Tag names nothing that is made later
pub not_named : (tag : Operation) (on : Bool) (name : Name) (spans : List Span) (s : Stamp) → tag.body ≡ Tag on name spans → has_bad_stamp tag ≡ false → is_before (stamp_of tag) s ≡ true
    → is_in_spans spans s ≡ false
not_named tag on name spans s b h k = split (is_in_spans spans s)
    (λ e.
    let n : names tag.body s ≡ true = ap (λ body. names body s) b ∙ spans_name spans s ∙ e in
    let c = named_before tag s h n in
    let d = before_asym (stamp_of tag) s k in
    absurd (true≢false (sym c ∙ d)))
    (λ e. e)

new_cells_keep : (spans : List Span) (w : Write) (from count site : ℕ) (state : List Write) (text : List ℕ) → ((n : ℕ) → from ≤ n → is_in_spans spans (record { count = n; site = site }) ≡ false) → from ≤ count
    → map (written_in_any spans w) (cells_from count site state text) ≡ cells_from count site state text
new_cells_keep spans w from count site state [] h k = refl
new_cells_keep spans w from count site state (ch ∷ text) h k =
    let cell : TaggedCell = record { stamp = record { count = count; site = site }; ch = ch; gone = false; state = state } in
    λ i. ap (λ b. cond b (record cell { state = written w state }) cell) (h count k) i ∷ new_cells_keep spans w from (count + 1) site state text h (omega arith) i

gone_cell : (b d : Bool) (w : Write) (c : TaggedCell) → cond b (record (cond d (record c { state = written w c.state }) c) { gone = true }) (cond d (record c { state = written w c.state }) c)
    ≡ cond d (record (cond b (record c { gone = true }) c) { state = written w (cond b (record c { gone = true }) c).state }) (cond b (record c { gone = true }) c)
gone_cell true true w c = refl
gone_cell true false w c = refl
gone_cell false true w c = refl
gone_cell false false w c = refl

gone_stamp : (b : Bool) (c : TaggedCell) → (cond b (record c { gone = true }) c).stamp ≡ c.stamp
gone_stamp true c = refl
gone_stamp false c = refl

gone_or_written : (gone spans : List Span) (w : Write) (c : TaggedCell) → gone_in_any gone (written_in_any spans w c) ≡ written_in_any spans w (gone_in_any gone c)
gone_or_written gone spans w c =
    ap (λ s. cond (is_in_spans gone s) (record (written_in_any spans w c) { gone = true }) (written_in_any spans w c)) (written_stamp spans w c)
    ∙ gone_cell (is_in_spans gone c.stamp) (is_in_spans spans c.stamp) w c
    ∙ sym (ap (λ s. cond (is_in_spans spans s) (record (gone_in_any gone c) { state = written w (gone_in_any gone c).state }) (gone_in_any gone c)) (gone_stamp (is_in_spans gone c.stamp) c))

all_gone_or_written : (gone spans : List Span) (w : Write) (cells : List TaggedCell) → map (gone_in_any gone) (map (written_in_any spans w) cells) ≡ map (written_in_any spans w) (map (gone_in_any gone) cells)
all_gone_or_written gone spans w [] = refl
all_gone_or_written gone spans w (c ∷ cells) = λ i. gone_or_written gone spans w c i ∷ all_gone_or_written gone spans w cells i

-- a write goes past one later Insert or Delete, and past all
past_one : (spans : List Span) (w : Write) (stamp : Stamp) (body : Body) (cells : List TaggedCell) → ((n : ℕ) → stamp.count ≤ n → is_in_spans spans (record { count = n; site = stamp.site }) ≡ false)
    → put_by stamp body (map (written_in_any spans w) cells) ≡ map (written_in_any spans w) (put_by stamp body cells)
past_one spans w stamp (Insert after tags text) cells h =
    let g : TaggedCell → TaggedCell = written_in_any spans w in
    let new : List TaggedCell = cells_from stamp.count stamp.site (state_after [] (listed_by ROOT tags)) text in
    ap (λ n. put_at n new (map g cells)) (skip_keeps g (written_stamp spans w) cells after stamp)
    ∙ put_keeps g (written_stamp spans w) (skip_from cells after stamp) new cells (new_cells_keep spans w stamp.count stamp.count stamp.site (state_after [] (listed_by ROOT tags)) text h (omega arith))
past_one spans w stamp (Delete gone) cells h = all_gone_or_written gone spans w cells
past_one spans w stamp (Tag on name others) cells h = refl

later_count : (a b : Stamp) (n : ℕ) → is_before a b ≡ true → b.count ≤ n → is_before a (record { count = n; site = b.site }) ≡ true
later_count a b n h k = grind (arith, nat_tests)

past_all : (tag : Operation) (on : Bool) (name : Name) (spans : List Span) (w : Write) (ops : List Operation) (cells : List TaggedCell) → tag.body ≡ Tag on name spans → has_bad_stamp tag ≡ false
    → AllByRecursion (λ later. is_before (stamp_of tag) (stamp_of later) ≡ true) ops → all_put ops (map (written_in_any spans w) cells) ≡ map (written_in_any spans w) (all_put ops cells)
past_all tag on name spans w [] cells b s h = refl
past_all tag on name spans w (op ∷ ops) cells b s h =
    ap (all_put ops) (past_one spans w (stamp_of op) op.body cells (λ n k. not_named tag on name spans (record { count = n; site = op.site }) b s (later_count (stamp_of tag) (stamp_of op) n h.0 k)))
    ∙ past_all tag on name spans w ops (put_by (stamp_of op) op.body cells) b s h.1

-- THE BATCH

one_cell : (b : Bool) (w : Write) (writes : List Write) (c : TaggedCell) → with_state (state_after (cond b (record c { state = written w c.state }) c).state writes) (cond b (record c { state = written w c.state }) c)
    ≡ with_state (state_after c.state (cond b (w ∷ []) [] ++ writes)) c
one_cell true w writes c = refl
one_cell false w writes c = refl

tag_first : (spans : List Span) (w : Write) (ops : List Operation) (c : TaggedCell) → after_tags ops (written_in_any spans w c) ≡ with_state (state_after c.state (cond (is_in_spans spans c.stamp) (w ∷ []) [] ++ tag_writes ops c.stamp)) c
tag_first spans w ops c =
    ap (λ s. with_state (state_after (written_in_any spans w c).state (tag_writes ops s)) (written_in_any spans w c)) (written_stamp spans w c)
    ∙ one_cell (is_in_spans spans c.stamp) w (tag_writes ops c.stamp) c

all_tag_first : (spans : List Span) (w : Write) (ops : List Operation) (cells : List TaggedCell)
    → map (after_tags ops) (map (written_in_any spans w) cells) ≡ map (λ c. with_state (state_after c.state (cond (is_in_spans spans c.stamp) (w ∷ []) [] ++ tag_writes ops c.stamp)) c) cells
all_tag_first spans w ops [] = refl
all_tag_first spans w ops (c ∷ cells) = λ i. tag_first spans w ops c i ∷ all_tag_first spans w ops cells i

no_tags : (cells : List TaggedCell) → cells ≡ map (after_tags []) cells
no_tags [] = refl
no_tags (c ∷ cells) = ap (λ l. c ∷ l) (no_tags cells)

-- what the tags of one more operation and of others do
abbrev more_tags : Stamp → Body → List Operation → TaggedCell → TaggedCell
more_tags stamp body ops cell = with_state (state_after cell.state (tag_writes_by stamp body cell.stamp ++ tag_writes ops cell.stamp)) cell

one_more : (op : Operation) (body : Body) (ops : List Operation) (cells : List TaggedCell) → op.body ≡ body → has_bad_stamp op ≡ false → AllByRecursion (λ later. is_before (stamp_of op) (stamp_of later) ≡ true) ops
    → map (after_tags ops) (all_put ops (changed_by (stamp_of op) body cells)) ≡ map (more_tags (stamp_of op) body ops) (all_put ops (put_by (stamp_of op) body cells))
one_more op (Insert after tags text) ops cells b s h = refl
one_more op (Delete spans) ops cells b s h = refl
one_more op (Tag on name spans) ops cells b s h =
    let w : Write = record { name = name; writer = stamp_of op; on = on } in
    ap (map (after_tags ops)) (past_all op on name spans w ops cells b s h) ∙ all_tag_first spans w ops (all_put ops cells)

-- what operations do one after the other, the Tags do after all the others
pub batch : (ops : List Operation) (cells : List TaggedCell) → AreSound ops → AreRising ops → all_changed ops cells ≡ map (after_tags ops) (all_put ops cells)
batch [] cells s h = no_tags cells
batch (op ∷ ops) cells s h = batch ops (changed_by (stamp_of op) op.body cells) s.1 h.1 ∙ one_more op op.body ops cells refl s.0 h.0

-- A SITE'S OWN OPERATIONS
