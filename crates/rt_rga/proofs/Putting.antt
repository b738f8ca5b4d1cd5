-- Kept cells after the Inserts and Deletes of several operations.
use Rattle.std.proofs.Common.{◌≡◌, ℕ, ◌+◌, ◌≤◌, ◌<◌, true, false, refl, sym, ap, ◌∙◌, arith, List, [], ◌∷◌, ◌++◌, All, cond, length, map, take, drop, get_or}
use Rattle.std.specs.Prelude.{position, take_while, unwrap_or}
use Rattle.std.proofs.lemmas.List.{drop_at, drop-map, length-append, length-map, length-take, take_at, take-map}
use Rattle.std.proofs.lemmas.List.Elements.{All-append, All-drop, All-map, All-take}
use Rattle.rt_stamps.specs.declared.stamp.Span.{Span}
use Rattle.rt_stamps.specs.declared.stamp.Stamp.{Stamp}
use Rattle.rt_stamps.specs.declared.stamp.TheConstants.{ROOT}
use Rattle.rt_stamps.specs.Stamps.{is_before, is_same}
use Rattle.rt_ops.specs.Operations.{Operation, Body, Insert, Delete, Tag, stamp_of}
use Rattle.rt_oplog.specs.Logs.{with_operation}
use Rattle.rt_store.specs.declared.cell.Cell.{Cell}
use Rattle.rt_store.specs.Cells.{after_element, IsPlaced, position_of, put_at, skip_from, stamps_of}
use Rattle.rt_store.specs.Shown.{shown, TaggedCell}
use Rattle.rt_store.specs.Spans.{gone_in_any, is_in_spans}
use Rattle.rt_store.proofs.Gone.{length_stays, stamps_stay}
use Rattle.rt_store.proofs.Places.{length_from, length_put, past, past_is}
use Rattle.rt_store.proofs.Shown.{gone_shown, position_map, skip_shown}
use Rattle.rt_tags.specs.States.{TagStates, Write, state_at, written}
use Rattle.rt_tags.specs.Writers.{listed_by, state_after}
use Rattle.std.proofs.lemmas.Bool.Decides.{nat_tests}
use Rattle.std.specs.List.{AllByRecursion}
use Rattle.rt_ops.specs.Operations.{last_count}
use Rattle.rt_rga.specs.Batches.{all_put, AreRising, AreSound, put_by}
use Rattle.rt_rga.specs.Drafts.{ContinueInTurn, all_changed, with_operations}
use Rattle.rt_rga.specs.Cells.{cells_of}
use Rattle.rt_rga.specs.Changes.{changed_by, written_in_any}
use Rattle.rt_rga.specs.Histories.{Continues, IsHistory, greatest_last_count}
use Rattle.rt_rga.specs.Making.{AreNewest, CanAllBePut, CanBePut, fresh_by, fresh_cells, kept_after, put_by_kept}
use Rattle.rt_rga.specs.Requests.{characters_in}
use Rattle.rt_rga.proofs.Final.{final_stays, placed_insert}
use Rattle.rt_rga.proofs.Drafting.{count_after}
use Rattle.rt_rga.proofs.Histories.{history_with, last_ge}
use Rattle.rt_rga.proofs.Merging.{cells_with, map_put}

-- PLACES ARE THOSE OF STAMPS

position_alike : {S T : Type 0} (xs : List (Cell S)) (ys : List (Cell T)) (s : Stamp) → stamps_of xs ≡ stamps_of ys → position_of xs s ≡ position_of ys s
position_alike {S} {T} xs ys s e =
    sym (position_map (λ t. is_same t s) (λ (cell : Cell S). cell.stamp) xs)
    ∙ ap (position (λ t. is_same t s)) e
    ∙ position_map (λ t. is_same t s) (λ (cell : Cell T). cell.stamp) ys

after_alike : {S T : Type 0} (xs : List (Cell S)) (ys : List (Cell T)) (left : Stamp) → stamps_of xs ≡ stamps_of ys → after_element xs left ≡ after_element ys left
after_alike xs ys left e = ap (λ o. cond (is_same left ROOT) 0 (unwrap_or o 0 + 1)) (position_alike xs ys left e)

past_from : {T : Type 0} (xs : List (Cell T)) (n : ℕ) (new : Stamp) → length (take_while (λ cell. is_before new cell.stamp) (drop n xs)) ≡ past new (drop n (stamps_of xs))
past_from {T} xs n new = past_is new (drop n xs) ∙ ap (past new) (sym (drop-map (λ (cell : Cell T). cell.stamp) n xs))

pub skip_alike : {S T : Type 0} (xs : List (Cell S)) (ys : List (Cell T)) (left new : Stamp) → stamps_of xs ≡ stamps_of ys → skip_from xs left new ≡ skip_from ys left new
skip_alike xs ys left new e =
    let a = after_alike xs ys left e in
    ap (λ n. after_element xs left + n) (past_from xs (after_element xs left) new)
    ∙ (λ i. a i + past new (drop (a i) (e i)))
    ∙ sym (ap (λ n. after_element ys left + n) (past_from ys (after_element ys left) new))

length_alike : {S T : Type 0} (xs : List (Cell S)) (ys : List (Cell T)) → stamps_of xs ≡ stamps_of ys → length xs ≡ length ys
length_alike {S} {T} xs ys e = sym (length-map xs (λ (cell : Cell S). cell.stamp)) ∙ ap length e ∙ length-map ys (λ (cell : Cell T). cell.stamp)

pub placed_alike : {S T : Type 0} (xs : List (Cell S)) (ys : List (Cell T)) (left new : Stamp) → stamps_of xs ≡ stamps_of ys → IsPlaced xs left new → IsPlaced ys left new
placed_alike xs ys left new e p =
    let l = length_alike xs ys e in
    let a = after_alike xs ys left e in
    let s = skip_alike xs ys left new e in
    record {
      stands = (rw (sym (position_alike xs ys left e)) p.stands.0, (let b = p.stands.1 in omega (arith, b, l, a)));
      above = p.above;
      within = let w = p.within in omega (arith, w, l, s);
    }

-- ONE OPERATION

-- new cells that are left have the stamps of those to come
front : {X : Type 0} (n : ℕ) (xs ys : List X) → length xs ≡ n → take n (xs ++ ys) ≡ xs
front n xs ys e = take_at xs ys n e

back : {X : Type 0} (n : ℕ) (xs ys : List X) → length xs ≡ n → drop n (xs ++ ys) ≡ ys
back n xs ys e = drop_at xs ys n e

pub length_fresh : (stamp : Stamp) (body : Body) → length (fresh_by stamp body) ≡ characters_in body
length_fresh stamp (Insert after tags text) = length_from stamp.count stamp.site (state_after [] (listed_by ROOT tags)) text
length_fresh stamp (Delete spans) = refl
length_fresh stamp (Tag on name spans) = refl

pub put_length : (stamp : Stamp) (body : Body) (new kept : List (Cell ℕ)) → CanBePut stamp body new kept → length (put_by_kept stamp body new kept) ≡ length kept + characters_in body
put_length stamp (Insert after tags text) new kept h =
    let t = length-take (length text) new in
    let m = h.1 in
    length_put (skip_from kept after stamp) (take (length text) new) kept ∙ omega (arith, t, m)
put_length stamp (Delete spans) new kept h = length_stays spans kept ∙ omega arith
put_length stamp (Tag on name spans) new kept h = omega arith

-- the stamps of cells after an operation
written_stamps : (spans : List Span) (w : Write) (cells : List TaggedCell) → stamps_of (map (written_in_any spans w) cells) ≡ stamps_of cells
written_stamps spans w [] = refl
written_stamps spans w (c ∷ cells) = elim (is_in_spans spans c.stamp) as (λ b. stamps_of (cond b (record c { state = written w c.state }) c ∷ map (written_in_any spans w) cells) ≡ c.stamp ∷ stamps_of cells) [
  | true ↦ ap (λ l. c.stamp ∷ l) (written_stamps spans w cells)
  | false ↦ ap (λ l. c.stamp ∷ l) (written_stamps spans w cells)
]

stamps_put : {T : Type 0} (n : ℕ) (new xs : List (Cell T)) → stamps_of (put_at n new xs) ≡ put_at n (stamps_of new) (stamps_of xs)
stamps_put {T} n new xs = map_put (λ (cell : Cell T). cell.stamp) n new xs

pub stamps_after : (stamp : Stamp) (body : Body) (new kept : List (Cell ℕ)) (cells rest : List TaggedCell)
    → stamps_of kept ≡ stamps_of cells → stamps_of new ≡ stamps_of (fresh_by stamp body ++ rest)
    → stamps_of (put_by_kept stamp body new kept) ≡ stamps_of (changed_by stamp body cells)
stamps_after stamp (Insert after tags text) new kept cells rest e f =
    let fresh : List TaggedCell = fresh_by stamp (Insert after tags text) in
    let n : length fresh ≡ length text = length_fresh stamp (Insert after tags text) in
    let t : stamps_of (take (length text) new) ≡ stamps_of fresh =
    sym (take-map (λ (cell : Cell ℕ). cell.stamp) (length text) new) ∙ ap (take (length text)) f ∙ take-map (λ (cell : TaggedCell). cell.stamp) (length text) (fresh ++ rest)
    ∙ ap (λ (xs : List TaggedCell). stamps_of xs) (front (length text) fresh rest n) in
    stamps_put (skip_from kept after stamp) (take (length text) new) kept
    ∙ (λ i. put_at (skip_alike kept cells after stamp e i) (t i) (e i))
    ∙ sym (stamps_put (skip_from cells after stamp) fresh cells)
stamps_after stamp (Delete spans) new kept cells rest e f = stamps_stay spans kept ∙ e ∙ sym (stamps_stay spans cells)
stamps_after stamp (Tag on name spans) new kept cells rest e f = e ∙ sym (written_stamps spans (record { name = name; writer = stamp; on = on }) cells)

pub stamps_left : (stamp : Stamp) (body : Body) (new : List (Cell ℕ)) (rest : List TaggedCell) → stamps_of new ≡ stamps_of (fresh_by stamp body ++ rest) → stamps_of (drop (characters_in body) new) ≡ stamps_of rest
stamps_left stamp body new rest f =
    let fresh : List TaggedCell = fresh_by stamp body in
    sym (drop-map (λ (cell : Cell ℕ). cell.stamp) (characters_in body) new)
    ∙ ap (drop (characters_in body)) f
    ∙ drop-map (λ (cell : TaggedCell). cell.stamp) (characters_in body) (fresh ++ rest)
    ∙ ap (λ (xs : List TaggedCell). stamps_of xs) (back (characters_in body) fresh rest (length_fresh stamp body))

-- SEVERAL, EACH OF WHICH CONTINUES A HISTORY

can_put : (set : List Operation) (op : Operation) (body : Body) (new kept : List (Cell ℕ)) (rest : List TaggedCell) → op.body ≡ body → IsHistory set → Continues set op
    → stamps_of kept ≡ stamps_of (cells_of set) → stamps_of new ≡ stamps_of (fresh_by (stamp_of op) body ++ rest) → CanBePut (stamp_of op) body new kept
can_put set op (Insert after tags text) new kept rest b h k e f =
    let fresh : List TaggedCell = fresh_by (stamp_of op) (Insert after tags text) in
    let n : length fresh ≡ length text = length_fresh (stamp_of op) (Insert after tags text) in
    let l = length_alike new (fresh ++ rest) f in
    let m = length-append fresh rest in
    (placed_alike (cells_of set) kept after (stamp_of op) (sym e) (placed_insert set op after tags text b h k), omega (arith, n, l, m))
can_put set op (Delete spans) new kept rest b h k e f = final_stays set op spans b h k
can_put set op (Tag on name spans) new kept rest b h k e f = tt

pub can_all_put : (set ops : List Operation) (new kept : List (Cell ℕ)) → IsHistory set → ContinueInTurn set ops → stamps_of kept ≡ stamps_of (cells_of set) → stamps_of new ≡ stamps_of (fresh_cells ops)
    → CanAllBePut ops new kept
can_all_put set [] new kept h k e f = tt
can_all_put set (op ∷ ops) new kept h k e f = (
  can_put set op op.body new kept (fresh_cells ops) refl h k.0 e f,
  can_all_put (with_operation op set) ops (drop (characters_in op.body) new) (put_by_kept (stamp_of op) op.body new kept) (history_with op set h k.0) k.1
      (stamps_after (stamp_of op) op.body new kept (cells_of set) (fresh_cells ops) e f ∙ ap (λ (xs : List TaggedCell). stamps_of xs) (sym (cells_with op set h k.0)))
      (stamps_left (stamp_of op) op.body new (fresh_cells ops) f),
)

pub length_kept_after : (ops : List Operation) (new kept : List (Cell ℕ)) → CanAllBePut ops new kept → length (kept_after ops new kept) ≡ length kept + length (fresh_cells ops)
length_kept_after [] new kept h = omega arith
length_kept_after (op ∷ ops) new kept h =
    let i = length_kept_after ops (drop (characters_in op.body) new) (put_by_kept (stamp_of op) op.body new kept) h.1 in
    let j = put_length (stamp_of op) op.body new kept h.0 in
    let n = length_fresh (stamp_of op) op.body in
    let m = length-append (fresh_by (stamp_of op) op.body) (fresh_cells ops) in
    omega (arith, i, j, n, m)

-- WHAT THEY SHOW

pub put_shown : (table : TagStates) (stamp : Stamp) (body : Body) (new kept : List (Cell ℕ)) (rest : List TaggedCell) → map (shown table) new ≡ fresh_by stamp body ++ rest
    → map (shown table) (put_by_kept stamp body new kept) ≡ put_by stamp body (map (shown table) kept)
put_shown table stamp (Insert after tags text) new kept rest e =
    let fresh : List TaggedCell = fresh_by stamp (Insert after tags text) in
    let t : map (shown table) (take (length text) new) ≡ fresh =
    sym (take-map (shown table) (length text) new) ∙ ap (take (length text)) e ∙ front (length text) fresh rest (length_fresh stamp (Insert after tags text)) in
    map_put (shown table) (skip_from kept after stamp) (take (length text) new) kept
    ∙ (λ i. put_at (sym (skip_shown (state_at table) kept after stamp) i) (t i) (map (shown table) kept))
put_shown table stamp (Delete spans) new kept rest e = gone_shown (state_at table) spans kept
put_shown table stamp (Tag on name spans) new kept rest e = refl

pub left_shown : (table : TagStates) (stamp : Stamp) (body : Body) (new : List (Cell ℕ)) (rest : List TaggedCell) → map (shown table) new ≡ fresh_by stamp body ++ rest → map (shown table) (drop (characters_in body) new) ≡ rest
left_shown table stamp body new rest e =
    sym (drop-map (shown table) (characters_in body) new) ∙ ap (drop (characters_in body)) e ∙ back (characters_in body) (fresh_by stamp body) rest (length_fresh stamp body)

pub kept_shown : (table : TagStates) (ops : List Operation) (new kept : List (Cell ℕ)) → map (shown table) new ≡ fresh_cells ops → map (shown table) (kept_after ops new kept) ≡ all_put ops (map (shown table) kept)
kept_shown table [] new kept e = refl
kept_shown table (op ∷ ops) new kept e =
    kept_shown table ops (drop (characters_in op.body) new) (put_by_kept (stamp_of op) op.body new kept) (left_shown table (stamp_of op) op.body new (fresh_cells ops) e)
    ∙ ap (all_put ops) (put_shown table (stamp_of op) op.body new kept (fresh_cells ops) e)

-- what holds of each cell, gone or not, still does
module _ (P : Cell ℕ → Type 0) (stays : (cell : Cell ℕ) → P cell → P (record cell { gone = true })) where
  stays_in : (spans : List Span) (cell : Cell ℕ) → P cell → P (gone_in_any spans cell)
  stays_in spans cell p = elim (is_in_spans spans cell.stamp) as (λ b. P (cond b (record cell { gone = true }) cell)) [
    | true ↦ stays cell p
    | false ↦ p
  ]

  pub put_every : (stamp : Stamp) (body : Body) (new kept : List (Cell ℕ)) → All P new → All P kept → All P (put_by_kept stamp body new kept)
  put_every stamp (Insert after tags text) new kept n k =
      All-append P (take (skip_from kept after stamp) kept) (take (length text) new ++ drop (skip_from kept after stamp) kept) (All-take P (skip_from kept after stamp) kept k)
      (All-append P (take (length text) new) (drop (skip_from kept after stamp) kept) (All-take P (length text) new n) (All-drop P (skip_from kept after stamp) kept k))
  put_every stamp (Delete spans) new kept n k = gone_every kept k
    where
      gone_every : (cells : List (Cell ℕ)) → All P cells → All P (map (gone_in_any spans) cells)
      gone_every cells k = All-map P (gone_in_any spans) cells (λ i d l. stays_in spans (get_or cells i d) (k i d l))
  put_every stamp (Tag on name spans) new kept n k = k

  pub every_after : (ops : List Operation) (new kept : List (Cell ℕ)) → All P new → All P kept → All P (kept_after ops new kept)
  every_after [] new kept n k = k
  every_after (op ∷ ops) new kept n k =
      every_after ops (drop (characters_in op.body) new) (put_by_kept (stamp_of op) op.body new kept) (All-drop P (characters_in op.body) new n) (put_every (stamp_of op) op.body new kept n k)

-- OPERATIONS THAT ARE NEWER THAN ALL BEFORE THEM

-- they rise
above_all : (set ops : List Operation) (stamp : Stamp) → stamp.count ≤ greatest_last_count set → AreNewest set ops → AllByRecursion (λ later. is_before stamp (stamp_of later) ≡ true) ops
above_all set [] stamp h n = tt
above_all set (op ∷ ops) stamp h n =
    let after : greatest_last_count (with_operation op set) ≡ last_count op = count_after op set n.0 in
    let least : op.count ≤ last_count op = last_ge op.count op.body in
    (lesser stamp (stamp_of op) (let f = n.0 in omega arith), above_all (with_operation op set) ops stamp (let f = n.0 in omega arith) n.1)
  where
    lesser : (a b : Stamp) → a.count < b.count → is_before a b ≡ true
    lesser a b h = grind (arith, nat_tests)

pub newest_rise : (set ops : List Operation) → AreNewest set ops → AreRising ops
newest_rise set [] n = tt
newest_rise set (op ∷ ops) n =
    let after : greatest_last_count (with_operation op set) ≡ last_count op = count_after op set n.0 in
    let least : op.count ≤ last_count op = last_ge op.count op.body in
    (above_all (with_operation op set) ops (stamp_of op) (omega arith) n.1, newest_rise (with_operation op set) ops n.1)

pub in_turn_sound : (set ops : List Operation) → ContinueInTurn set ops → AreSound ops
in_turn_sound set [] k = tt
in_turn_sound set (op ∷ ops) k = (k.0.sound, in_turn_sound (with_operation op set) ops k.1)

-- after them
pub history_after : (ops set : List Operation) → IsHistory set → ContinueInTurn set ops → IsHistory (with_operations ops set)
history_after [] set h k = h
history_after (op ∷ ops) set h k = history_after ops (with_operation op set) (history_with op set h k.0) k.1

pub cells_after : (ops set : List Operation) → IsHistory set → ContinueInTurn set ops → cells_of (with_operations ops set) ≡ all_changed ops (cells_of set)
cells_after [] set h k = refl
cells_after (op ∷ ops) set h k = cells_after ops (with_operation op set) (history_with op set h k.0) k.1 ∙ ap (all_changed ops) (cells_with op set h k.0)
