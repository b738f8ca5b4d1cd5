-- What the store shows of the cells of a log, while the Tags of a batch wait; and which Tags are of one tag.
use Rattle.std.proofs.Common.{◌≡◌, ◌∙◌, ℕ, ◌<◌, ◌&&◌, Bool, Bor, true, false, not, All, Option, Some, None, List, [], ◌∷◌, ◌++◌, ap, arith, cond, get_or}
use Rattle.std.proofs.Common.{map, refl, reverse, subst, sym}
use Rattle.std.proofs.lemmas.Bool.Decides.{nat_tests}
use Rattle.std.proofs.lemmas.List.Elements.{All-from_recursion, recursion_from_All}
use Rattle.indexmap.specs.IndexMap.{IndexMap}
use Rattle.std.specs.List.{AllByRecursion}
use Rattle.std.specs.Str.{bytes_eq}
use Rattle.rt_stamps.specs.declared.stamp.Span.{Span}
use Rattle.rt_stamps.specs.declared.stamp.Stamp.{Stamp}
use Rattle.rt_stamps.specs.Stamps.{is_before}
use Rattle.rt_ops.specs.Operations.{Operation, Body, Insert, Delete, Tag, Name, stamp_of}
use Rattle.rt_oplog.specs.Logs.{with_operation}
use Rattle.rt_store.specs.Shown.{TaggedCell}
use Rattle.rt_store.specs.Spans.{is_in_spans}
use Rattle.rt_store.specs.Written.{IsWritten}
use Rattle.rt_tags.specs.States.{Write, is_kept, is_on, is_settled, says_on, write_of, written}
use Rattle.rt_tags.specs.Writers.{state_after}
use Rattle.rt_tags.proofs.Greatest.{newer, write_of_written}
use Rattle.rt_tags.proofs.Places.{clash, same_name}
use Rattle.rt_tags.proofs.Sorted.{every, every_append}
use Rattle.rt_rga.specs.Batches.{after_tags, all_put, put_by, tag_writes, tag_writes_by}
use Rattle.rt_rga.specs.Cells.{cells_of}
use Rattle.rt_rga.specs.Drafts.{ContinueInTurn, with_operations}
use Rattle.rt_rga.specs.Histories.{Continues, IsHistory, greatest_last_count}
use Rattle.rt_rga.specs.Making.{AreNewest}
use Rattle.rt_rga.specs.Noted.{AreDisjoint, AreDisjointTwo, IsFoundAlike, switches}
use Rattle.rt_rga.specs.Extents.{IsAdded, covers_under}
use Rattle.rt_rga.specs.declared.extent.Extent.{Extent}
use Rattle.rt_rga.specs.Taken.{changes_tag, differ}
use Rattle.rt_rga.proofs.Corollaries.{cells_written}
use Rattle.rt_rga.proofs.Noted.{in_front}
use Rattle.rt_rga.proofs.Planned.{batch}
use Rattle.rt_rga.proofs.Putting.{cells_after, history_after, in_turn_sound, newest_rise}
use Rattle.rt_rga.proofs.Skipping.{split}

-- THOSE THAT ARE DONE, AND THOSE THAT ARE LEFT

-- the first of some operations continue in turn, and so do the others after them
turn_front : (set xs ys : List Operation) → ContinueInTurn set (xs ++ ys) → ContinueInTurn set xs
turn_front set [] ys h = tt
turn_front set (x ∷ xs) ys h = (h.0, turn_front (with_operation x set) xs ys h.1)

turn_back : (set xs ys : List Operation) → ContinueInTurn set (xs ++ ys) → ContinueInTurn (with_operations xs set) ys
turn_back set [] ys h = h
turn_back set (x ∷ xs) ys h = turn_back (with_operation x set) xs ys h.1

-- the first of some operations are the newest of a set, and so are the others after them
newest_front : (set xs ys : List Operation) → AreNewest set (xs ++ ys) → AreNewest set xs
newest_front set [] ys h = tt
newest_front set (x ∷ xs) ys h = (h.0, newest_front (with_operation x set) xs ys h.1)

newest_back : (set xs ys : List Operation) → AreNewest set (xs ++ ys) → AreNewest (with_operations xs set) ys
newest_back set [] ys h = h
newest_back set (x ∷ xs) ys h = newest_back (with_operation x set) xs ys h.1

-- one operation more is put in last
pub all_put_more : (ops : List Operation) (op : Operation) (cells : List TaggedCell)
    → all_put (ops ++ op ∷ []) cells ≡ put_by (stamp_of op) op.body (all_put ops cells)
all_put_more [] op cells = refl
all_put_more (o ∷ ops) op cells = all_put_more ops op (put_by (stamp_of o) o.body cells)

-- the cells that are put in, with the writes of the Tags so far, are those of the log with the operations that are done
pub done_cells : (log done left : List Operation) → IsHistory log → ContinueInTurn log (done ++ left) → AreNewest log (done ++ left)
    → map (after_tags done) (all_put done (cells_of log)) ≡ cells_of (reverse done ++ log)
done_cells log done left h k n =
    let turn = turn_front log done left k in
    let newer_ones = newest_front log done left n in
    sym (batch done (cells_of log) (in_turn_sound log done turn) (newest_rise log done newer_ones))
    ∙ sym (cells_after done log h turn)
    ∙ ap cells_of (in_front done log newer_ones)

-- which is a history
pub done_history : (log done left : List Operation) → IsHistory log → ContinueInTurn log (done ++ left) → AreNewest log (done ++ left)
    → IsHistory (reverse done ++ log)
done_history log done left h k n =
    subst IsHistory (in_front done log (newest_front log done left n)) (history_after done log h (turn_front log done left k))

-- the next operation is newer than those
newest_next : (log done rest : List Operation) (op : Operation) → AreNewest log (done ++ op ∷ rest) → greatest_last_count (reverse done ++ log) < op.count
newest_next log done rest op n =
    subst (λ (l : List Operation). greatest_last_count l < op.count) (in_front done log (newest_front log done (op ∷ rest) n))
    (newest_back log done (op ∷ rest) n).0

-- and continues them
pub continues_next : (log done rest : List Operation) (op : Operation) → ContinueInTurn log (done ++ op ∷ rest) → AreNewest log (done ++ op ∷ rest)
    → Continues (reverse done ++ log) op
continues_next log done rest op k n =
    subst (λ (l : List Operation). Continues l op) (in_front done log (newest_front log done (op ∷ rest) n)) (turn_back log done (op ∷ rest) k).0

-- WRITES

lesser : (a b : Stamp) → a.count < b.count → is_before a b ≡ true
lesser a b h = grind (arith, nat_tests)

-- no write of a state is as new as one of a greater count
newer_write : (count : ℕ) (w : Write) (state : List Write) → count < w.writer.count → IsWritten count state → is_settled w state ≡ false
newer_write count w state l f = by (write_of w.name state) refl
  where
    by : (o : Option Write) → write_of w.name state ≡ o → is_kept o w ≡ false
    by None e = refl
    by (Some v) e = let m = f w.name v e in ap not (lesser v.writer w.writer (omega arith))

-- so no cell of a history has a write that is as new
unsettled : (log : List Operation) (w : Write) → IsHistory log → greatest_last_count log < w.writer.count
    → All (λ (c : TaggedCell). is_settled w c.state ≡ false) (cells_of log)
unsettled log w h l = λ i d lt. newer_write (greatest_last_count log) w (get_or (cells_of log) i d).state l (cells_written log h i d lt)

-- writes of other tags leave a tag as it is
on_elsewhere : (name : List ℕ) (state writes : List Write) → AllByRecursion (λ w. bytes_eq name w.name ≡ false) writes
    → is_on name (state_after state writes) ≡ is_on name state
on_elsewhere name state [] h = refl
on_elsewhere name state (w ∷ writes) h =
    on_elsewhere name (written w state) writes h.1
    ∙ ap says_on (write_of_written name w state ∙ ap (λ b. cond b (Some (newer (write_of w.name state) w)) (write_of name state)) h.0)

-- TAGS OF OTHER NAMES, OR ELSEWHERE

-- what holds of each of some operations holds of one in their midst
amid : (P : Operation → Type 0) (xs ys : List Operation) (x : Operation) → AllByRecursion P (xs ++ x ∷ ys) → P x
amid P [] ys x h = h.0
amid P (y ∷ xs) ys x h = amid P xs ys x h.1

-- no operation that is done is a Tag of the tag of the next one that names a stamp of it
apart_before : (done rest : List Operation) (op : Operation) → AreDisjoint (done ++ op ∷ rest) → AllByRecursion (λ o. AreDisjointTwo o.body op.body) done
apart_before [] rest op h = tt
apart_before (o ∷ done) rest op h = (amid (λ later. AreDisjointTwo o.body later.body) done rest op h.0, apart_before done rest op h.1)

no_other : (b here : Bool) → here ≡ true → (b && (true && here)) ≡ false → b ≡ false
no_other b here h k = grind (arith, h, k)

-- so they write none of it at such a stamp
elsewhere : (done : List Operation) (on : Bool) (name : Name) (spans : List Span) → AllByRecursion (λ o. AreDisjointTwo o.body (Tag on name spans)) done
    → (s : Stamp) → is_in_spans spans s ≡ true → AllByRecursion (λ w. bytes_eq name w.name ≡ false) (tag_writes done s)
elsewhere [] on name spans h s here = tt
elsewhere (o ∷ done) on name spans h s here =
    every_append (λ (w : Write). bytes_eq name w.name ≡ false) (tag_writes_by (stamp_of o) o.body s) (tag_writes done s) (one (stamp_of o) o.body h.0)
    (elsewhere done on name spans h.1 s here)
  where
    one : (stamp : Stamp) (body : Body) → AreDisjointTwo body (Tag on name spans)
        → AllByRecursion (λ (w : Write). bytes_eq name w.name ≡ false) (tag_writes_by stamp body s)
    one stamp (Insert after tags text) k = tt
    one stamp (Delete gone) k = tt
    one stamp (Tag now other there) k =
        let w : Write = record { name = other; writer = stamp; on = now } in
        (elim (is_in_spans there s) as (λ b. (bytes_eq name other && (b && is_in_spans spans s)) ≡ false
        → AllByRecursion (λ (w : Write). bytes_eq name w.name ≡ false) (cond b (w ∷ []) [])) [
          | true ↦ λ e. (no_other (bytes_eq name other) (is_in_spans spans s) here e, tt)
          | false ↦ λ e. tt
        ]) (k s)

-- THE CELLS THAT ARE SHOWN ON THE WAY

-- what holds of each cell that is made of others
from_map : (P : TaggedCell → Type 0) (f : TaggedCell → TaggedCell) (cells : List TaggedCell) → AllByRecursion P (map f cells)
    → AllByRecursion (λ cell. P (f cell)) cells
from_map P f [] h = tt
from_map P f (c ∷ cells) h = (h.0, from_map P f cells h.1)

always : (P : TaggedCell → Type 0) → ((cell : TaggedCell) → P cell) → (cells : List TaggedCell) → AllByRecursion P cells
always P f [] = tt
always P f (c ∷ cells) = (f c, always P f cells)

-- an operation changes the tag of a cell after the Tags that are done just where it switches that of the cell without them
abbrev IsAlike : List Operation → Stamp → Body → TaggedCell → Type 0
IsAlike done stamp body cell = changes_tag stamp body (after_tags done cell) ≡ switches body cell

-- so does a Tag, where none that is done is of its tag and names a stamp of it, if no write is as new
tag_alike : (done : List Operation) (stamp : Stamp) (on : Bool) (name : Name) (spans : List Span)
    → AllByRecursion (λ o. AreDisjointTwo o.body (Tag on name spans)) done → (cell : TaggedCell)
    → is_settled (record { name = name; writer = stamp; on = on }) (after_tags done cell).state ≡ false → IsAlike done stamp (Tag on name spans) cell
tag_alike done stamp on name spans apart cell s = split (is_in_spans spans cell.stamp)
    (λ here. let e = on_elsewhere name cell.state (tag_writes done cell.stamp) (elsewhere done on name spans apart cell.stamp here) in
    λ i. is_in_spans spans cell.stamp && (not (s i) && differ on (e i)))
    (λ there. outside (is_in_spans spans cell.stamp) _ _ there)
  where
    outside : (b x y : Bool) → b ≡ false → (b && x) ≡ (b && y)
    outside b x y h = grind (arith, h)

-- of the next operation that holds of each cell that is put in
pub found_alike : (log done rest : List Operation) (op : Operation) (known : List TaggedCell) → IsHistory log → ContinueInTurn log (done ++ op ∷ rest)
    → AreNewest log (done ++ op ∷ rest) → AreDisjoint (done ++ op ∷ rest) → known ≡ all_put done (cells_of log) → IsFoundAlike op (after_tags done) known
found_alike log done rest op known h k n a e = record {
  stamps = λ cell. refl;
  gone = λ cell. refl;
  tags = subst (All (IsAlike done stamp op.body)) (sym e) (All-from_recursion (IsAlike done stamp op.body) put (each op.body (apart_before done rest op a)));
}
  where
    stamp : Stamp
    stamp = stamp_of op

    put : List TaggedCell
    put = all_put done (cells_of log)

    each : (body : Body) → AllByRecursion (λ o. AreDisjointTwo o.body body) done → AllByRecursion (IsAlike done stamp body) put
    each (Insert after tags text) p = always (IsAlike done stamp (Insert after tags text)) (λ cell. refl) put
    each (Delete spans) p = always (IsAlike done stamp (Delete spans)) (λ cell. refl) put
    each (Tag on name spans) p =
        let w : Write = record { name = name; writer = stamp; on = on } in
        let log_now : List Operation = reverse done ++ log in
        let is_older : TaggedCell → Type 0 = λ cell. is_settled w cell.state ≡ false in
        let older = unsettled log_now w (done_history log done (op ∷ rest) h k n) (newest_next log done rest op n) in
        let shown = subst (AllByRecursion is_older) (sym (done_cells log done (op ∷ rest) h k n)) (recursion_from_All is_older (cells_of log_now) older) in
        every (λ cell. is_older (after_tags done cell)) (IsAlike done stamp (Tag on name spans)) (tag_alike done stamp on name spans p) put
        (from_map is_older (after_tags done) put shown)

-- WHAT THE TAGS BEHIND NAME

-- each stamp that a Tag names is covered by what is kept under its name
abbrev pub IsCovered : {S : Type 0} → IndexMap (Bor (List ℕ)) Extent S → Body → Type 0
IsCovered extents (Insert after tags text) = Unit {0}
IsCovered extents (Delete spans) = Unit {0}
IsCovered extents (Tag on name spans) = (stamp : Stamp) → is_in_spans spans stamp ≡ true → covers_under extents name stamp ≡ true

-- what names no stamp that is covered under its name is disjoint from what is covered
disjoint_from : {S : Type 0} (extents : IndexMap (Bor (List ℕ)) Extent S) (on : Bool) (name : Name) (spans : List Span) (body : Body)
    → ((stamp : Stamp) → (is_in_spans spans stamp && covers_under extents name stamp) ≡ false) → IsCovered extents body → AreDisjointTwo (Tag on name spans) body
disjoint_from extents on name spans (Insert after tags text) n h = λ stamp. refl
disjoint_from extents on name spans (Delete gone) n h = λ stamp. refl
disjoint_from extents on name spans (Tag also_on other others) n h = λ stamp. split (bytes_eq other name && (is_in_spans spans stamp && is_in_spans others stamp))
    (λ t. let parts = all_three (bytes_eq other name) (is_in_spans spans stamp) (is_in_spans others stamp) t in
    let covered : covers_under extents name stamp ≡ true = subst (λ (x : Name). covers_under extents x stamp ≡ true) (same_name other name parts.0) (h stamp parts.1.1) in
    absurd (clash (is_in_spans spans stamp && covers_under extents name stamp) (λ i. parts.1.0 i && covered i) (n stamp)))
    (λ f. f)
  where
    all_three : (a b c : Bool) → (a && (b && c)) ≡ true → (a ≡ true) × ((b ≡ true) × (c ≡ true))
    all_three a b c h = (grind (arith, h), (grind (arith, h), grind (arith, h)))

-- operations are disjoint, and what their Tags name is covered by what is kept
pub record AreCovered {S : Type 0} (extents : IndexMap (Bor (List ℕ)) Extent S) (ops : List Operation) : Type 0 where
  pub disjoint : AreDisjoint ops
  pub covered : AllByRecursion (λ o. IsCovered extents o.body) ops

-- what is no Tag
abbrev pub IsNoTag : Body → Type 0
IsNoTag body = (on : Bool) (name : Name) (spans : List Span) → body ≡ Tag on name spans → ⊥

-- with an operation before them that is none
pub none_covered : {S : Type 0} (extents : IndexMap (Bor (List ℕ)) Extent S) (op : Operation) (ops : List Operation) → IsNoTag op.body → AreCovered extents ops
    → AreCovered extents (op ∷ ops)
none_covered extents op ops n h = record {
  disjoint = (every (λ o. IsCovered extents o.body) (λ o. AreDisjointTwo op.body o.body) (λ o p. other op.body o.body n) ops h.covered, h.disjoint);
  covered = (free op.body n, h.covered);
}
  where
    other : (a b : Body) → IsNoTag a → AreDisjointTwo a b
    other (Insert after tags text) b f = λ stamp. refl
    other (Delete gone) b f = λ stamp. refl
    other (Tag on name spans) b f = absurd (f on name spans refl)

    free : (b : Body) → IsNoTag b → IsCovered extents b
    free (Insert after tags text) f = tt
    free (Delete gone) f = tt
    free (Tag on name spans) f = absurd (f on name spans refl)

-- with a Tag before them whose spans are added
pub one_covered : {S : Type 0} (old new : IndexMap (Bor (List ℕ)) Extent S) (op : Operation) (ops : List Operation) (on : Bool) (name : Name) (spans : List Span)
    → op.body ≡ Tag on name spans → IsAdded spans name old new → AreCovered old ops → AreCovered new (op ∷ ops)
one_covered old new op ops on name spans e added h = record {
  disjoint = (
    every (λ o. IsCovered old o.body) (λ o. AreDisjointTwo op.body o.body)
        (λ o p. subst (λ (b : Body). AreDisjointTwo b o.body) (sym e) (disjoint_from old on name spans o.body added.disjoint p)) ops h.covered,
    h.disjoint,
  );
  covered = (
    subst (λ (b : Body). IsCovered new b) (sym e) added.added,
    every (λ o. IsCovered old o.body) (λ o. IsCovered new o.body) (λ o p. still o.body p) ops h.covered,
  );
}
  where
    still : (b : Body) → IsCovered old b → IsCovered new b
    still (Insert after tags text) p = tt
    still (Delete gone) p = tt
    still (Tag also_on other others) p = λ stamp i. added.kept other stamp (p stamp i)
