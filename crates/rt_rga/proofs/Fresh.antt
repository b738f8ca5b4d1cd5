-- New characters of operations that are newer than all before them: their counts rise, above all that are known.
use Rattle.std.proofs.Common.{◌≡◌, ℕ, zero, suc, ◌||◌, ◌==◌, ◌+◌, ◌≤◌, ◌<◌, false, refl, sym, ap, subst, ◌∙◌, arith, List, [], ◌∷◌, ◌++◌, All, length, map}
use Rattle.std.proofs.lemmas.Bool.Decides.{nat_tests}
use Rattle.std.proofs.lemmas.List.{map-append}
use Rattle.std.proofs.lemmas.List.Elements.{All-append}
use Rattle.std.specs.List.{AllByRecursion, IsDistinct}
use Rattle.rt_stamps.specs.declared.stamp.Stamp.{Stamp}
use Rattle.rt_stamps.specs.declared.stamp.TheConstants.{ROOT}
use Rattle.rt_stamps.specs.Stamps.{is_same}
use Rattle.rt_oplog.specs.Logs.{with_operation}
use Rattle.rt_ops.specs.Operations.{Operation, Body, Insert, Delete, Tag, last_count, last_of, stamp_of}
use Rattle.rt_store.specs.declared.cell.Cell.{Cell}
use Rattle.rt_store.specs.Cells.{AreDistinct, cells_from, stamps_of}
use Rattle.rt_store.specs.Shown.{shown, TaggedCell}
use Rattle.rt_store.specs.Spans.{is_among}
use Rattle.rt_store.specs.Tagged.{AreStates}
use Rattle.rt_store.specs.Written.{IsBelowNext}
use Rattle.rt_store.proofs.Distinct.{distinct_more}
use Rattle.rt_store.proofs.GivenStates.{kept_states}
use Rattle.rt_store.proofs.Shown.{stamps_shown}
use Rattle.rt_tags.specs.States.{IsState, KeepsIds, TagStates, state_at}
use Rattle.rt_tags.specs.Writers.{listed_by, state_after}
use Rattle.rt_tags.proofs.Sorted.{every_append}
use Rattle.rt_rga.specs.Batches.{CountsRise}
use Rattle.rt_rga.specs.Cells.{cells_of}
use Rattle.rt_rga.specs.Histories.{greatest_last_count}
use Rattle.rt_rga.specs.Making.{AreNewest, fresh_by, fresh_cells}
use Rattle.rt_rga.specs.Replicas.{IsReplica}
use Rattle.rt_rga.specs.Drafts.{ContinueInTurn}
use Rattle.rt_rga.proofs.Continuing.{sound_of}
use Rattle.rt_rga.proofs.Skipping.{split}
use Rattle.rt_rga.proofs.Corollaries.{cells_older}
use Rattle.rt_rga.proofs.Drafting.{count_after}
use Rattle.rt_rga.proofs.Histories.{last_ge}
use Rattle.rt_rga.proofs.Replicas.{replica_distinct}
use Rattle.rt_rga.proofs.Within.{cells_by}

-- each stamp has a lesser count than those after it
abbrev StampsRise : List Stamp → Type 0
StampsRise [] = Unit {0}
StampsRise (s ∷ ss) = AllByRecursion (λ t. s.count < t.count) ss × StampsRise ss

every_weaker : {X : Type 0} (P Q : X → Type 0) → ((x : X) → P x → Q x) → (xs : List X) → AllByRecursion P xs → AllByRecursion Q xs
every_weaker P Q f [] h = tt
every_weaker P Q f (x ∷ xs) h = (f x h.0, every_weaker P Q f xs h.1)

rise_append : (xs ys : List Stamp) (bound : ℕ) → StampsRise xs → StampsRise ys → AllByRecursion (λ t. t.count ≤ bound) xs → AllByRecursion (λ t. bound < t.count) ys → StampsRise (xs ++ ys)
rise_append [] ys bound x y h k = y
rise_append (s ∷ xs) ys bound x y h k = (
  every_append (λ t. s.count < t.count) xs ys x.0 (every_weaker (λ (t : Stamp). bound < t.count) (λ (t : Stamp). s.count < t.count) (λ t b. let l = h.0 in omega arith) ys k),
  rise_append xs ys bound x.1 y h.1 k,
)

-- the stamps of a text
module _ {T : Type 0} (site : ℕ) (state : T) where
  from_above : (bound count : ℕ) (text : List ℕ) → bound < count → AllByRecursion (λ t. bound < t.count) (stamps_of (cells_from count site state text))
  from_above bound count [] h = tt
  from_above bound count (c ∷ cs) h = (h, from_above bound (count + 1) cs (omega arith))

  from_below : (bound count : ℕ) (text : List ℕ) → count + length text ≤ bound + 1 → AllByRecursion (λ t. t.count ≤ bound) (stamps_of (cells_from count site state text))
  from_below bound count [] h = tt
  from_below bound count (c ∷ cs) h = (omega arith, from_below bound (count + 1) cs (omega arith))

  from_rise : (count : ℕ) (text : List ℕ) → StampsRise (stamps_of (cells_from count site state text))
  from_rise count [] = tt
  from_rise count (c ∷ cs) = (from_above count (count + 1) cs (omega arith), from_rise (count + 1) cs)

by_above : (bound : ℕ) (stamp : Stamp) (body : Body) → bound < stamp.count → AllByRecursion (λ t. bound < t.count) (stamps_of (fresh_by stamp body))
by_above bound stamp (Insert after tags text) h = from_above stamp.site (state_after [] (listed_by ROOT tags)) bound stamp.count text h
by_above bound stamp (Delete spans) h = tt
by_above bound stamp (Tag on name spans) h = tt

by_below : (stamp : Stamp) (body : Body) → 0 < stamp.count → AllByRecursion (λ t. t.count ≤ last_of stamp.count body) (stamps_of (fresh_by stamp body))
by_below stamp (Insert after tags text) h = from_below stamp.site (state_after [] (listed_by ROOT tags)) (last_of stamp.count (Insert after tags text)) stamp.count text (omega arith)
by_below stamp (Delete spans) h = tt
by_below stamp (Tag on name spans) h = tt

by_rise : (stamp : Stamp) (body : Body) → StampsRise (stamps_of (fresh_by stamp body))
by_rise stamp (Insert after tags text) = from_rise stamp.site (state_after [] (listed_by ROOT tags)) stamp.count text
by_rise stamp (Delete spans) = tt
by_rise stamp (Tag on name spans) = tt

stamps_append : {T : Type 0} (xs ys : List (Cell T)) → stamps_of (xs ++ ys) ≡ stamps_of xs ++ stamps_of ys
stamps_append {T} xs ys = map-append (λ (cell : Cell T). cell.stamp) xs ys

fresh_above : (bound : ℕ) (set ops : List Operation) → bound ≤ greatest_last_count set → AreNewest set ops → AllByRecursion (λ t. bound < t.count) (stamps_of (fresh_cells ops))
fresh_above bound set [] b n = tt
fresh_above bound set (op ∷ ops) b n =
    let after : greatest_last_count (with_operation op set) ≡ last_count op = count_after op set n.0 in
    let least : op.count ≤ last_count op = last_ge op.count op.body in
    let above = n.0 in
    subst (AllByRecursion (λ t. bound < t.count)) (sym (stamps_append (fresh_by (stamp_of op) op.body) (fresh_cells ops)))
    (every_append (λ t. bound < t.count) (stamps_of (fresh_by (stamp_of op) op.body)) (stamps_of (fresh_cells ops)) (by_above bound (stamp_of op) op.body (omega (arith, above, b))) (fresh_above bound (with_operation op set) ops (omega (arith, after, least, above, b)) n.1))

fresh_rise : (set ops : List Operation) → AreNewest set ops → StampsRise (stamps_of (fresh_cells ops))
fresh_rise set [] n = tt
fresh_rise set (op ∷ ops) n =
    let after : greatest_last_count (with_operation op set) ≡ last_count op = count_after op set n.0 in
    let above = n.0 in
    subst StampsRise (sym (stamps_append (fresh_by (stamp_of op) op.body) (fresh_cells ops)))
    (rise_append (stamps_of (fresh_by (stamp_of op) op.body)) (stamps_of (fresh_cells ops)) (last_count op) (by_rise (stamp_of op) op.body) (fresh_rise (with_operation op set) ops n.1)
    (by_below (stamp_of op) op.body (omega (arith, above))) (fresh_above (last_count op) (with_operation op set) ops (omega (arith, after)) n.1))

-- as cells
rise_cells : (cells : List (Cell ℕ)) → StampsRise (stamps_of cells) → CountsRise cells
rise_cells [] h = tt
rise_cells (c ∷ cells) h = (later cells h.0, rise_cells cells h.1)
  where
    later : (xs : List (Cell ℕ)) → AllByRecursion (λ t. c.stamp.count < t.count) (stamps_of xs) → AllByRecursion (λ (x : Cell ℕ). c.stamp.count < x.stamp.count) xs
    later [] h = tt
    later (x ∷ xs) h = (h.0, later xs h.1)

fresh_stamps : (table : TagStates) (fresh : List (Cell ℕ)) (ops : List Operation) → map (shown table) fresh ≡ fresh_cells ops → stamps_of (fresh_cells ops) ≡ stamps_of fresh
fresh_stamps table fresh ops e = ap (λ (cells : List TaggedCell). stamps_of cells) (sym e) ∙ stamps_shown (state_at table) fresh

pub fresh_counts : (log ops : List Operation) (table : TagStates) (fresh : List (Cell ℕ)) → AreNewest log ops → map (shown table) fresh ≡ fresh_cells ops → CountsRise fresh
fresh_counts log ops table fresh n e = rise_cells fresh (subst StampsRise (fresh_stamps table fresh ops e) (fresh_rise log ops n))

-- apart from each other and from all that are known
lesser_differs : (s t : Stamp) → s.count < t.count → is_same t s ≡ false
lesser_differs s t h = grind (arith, nat_tests, h)

known_differs : (bound : ℕ) (s t : Stamp) → bound < s.count → 0 < s.site → IsBelowNext bound t → is_same t s ≡ false
known_differs bound s t h p k =
    let a = k.0 in
    split (t.count == s.count)
    (λ e. let z = k.1 (grind (arith, nat_tests, h, a, e)) in grind (arith, nat_tests, z, p))
    (λ e. grind (arith, nat_tests, e))

among_none : (s : Stamp) (ss : List Stamp) → AllByRecursion (λ t. is_same t s ≡ false) ss → is_among ss s ≡ false
among_none s [] h = refl
among_none s (t ∷ ss) h = ap (λ b. b || is_among ss s) h.0 ∙ among_none s ss h.1

apart : (bound : ℕ) (ss old : List Stamp) → StampsRise ss → AllByRecursion (λ t. bound < t.count) ss → AllByRecursion (λ t. 0 < t.site) ss → AllByRecursion (IsBelowNext bound) old → IsDistinct is_same old
    → IsDistinct is_same (ss ++ old)
apart bound [] old r a p b d = d
apart bound (s ∷ ss) old r a p b d =
    distinct_more s (ss ++ old)
    (among_none s (ss ++ old) (every_append (λ t. is_same t s ≡ false) ss old
    (every_weaker (λ (t : Stamp). s.count < t.count) (λ (t : Stamp). is_same t s ≡ false) (lesser_differs s) ss r.0)
    (every_weaker (IsBelowNext bound) (λ (t : Stamp). is_same t s ≡ false) (λ t k. known_differs bound s t a.0 p.0 k) old b)))
    (apart bound ss old r.1 a.1 p.1 b d)

below : (count : ℕ) (cells : List TaggedCell) → All (λ cell. IsBelowNext count cell.stamp) cells → AllByRecursion (IsBelowNext count) (stamps_of cells)
below count [] h = tt
below count (c ∷ cells) h = (h 0 c (omega arith), below count cells (λ k d l. h (suc k) d (omega (arith, l))))

from_sites : {T : Type 0} (count site : ℕ) (state : T) (text : List ℕ) → 0 < site → AllByRecursion (λ t. 0 < t.site) (stamps_of (cells_from count site state text))
from_sites count site state [] h = tt
from_sites count site state (c ∷ cs) h = (h, from_sites (count + 1) site state cs h)

by_sites : (stamp : Stamp) (body : Body) → 0 < stamp.site → AllByRecursion (λ t. 0 < t.site) (stamps_of (fresh_by stamp body))
by_sites stamp (Insert after tags text) h = from_sites stamp.count stamp.site (state_after [] (listed_by ROOT tags)) text h
by_sites stamp (Delete spans) h = tt
by_sites stamp (Tag on name spans) h = tt

fresh_sites : (set ops : List Operation) → ContinueInTurn set ops → AllByRecursion (λ t. 0 < t.site) (stamps_of (fresh_cells ops))
fresh_sites set [] k = tt
fresh_sites set (op ∷ ops) k =
    subst (AllByRecursion (λ t. 0 < t.site)) (sym (stamps_append (fresh_by (stamp_of op) op.body) (fresh_cells ops)))
    (every_append (λ t. 0 < t.site) (stamps_of (fresh_by (stamp_of op) op.body)) (stamps_of (fresh_cells ops)) (by_sites (stamp_of op) op.body (sound_of k.0).site) (fresh_sites (with_operation op set) ops k.1))

pub fresh_distinct : (log ops : List Operation) (table mid : TagStates) (kept fresh : List (Cell ℕ)) → IsReplica log table kept → ContinueInTurn log ops → AreNewest log ops → map (shown mid) fresh ≡ fresh_cells ops → AreDistinct (fresh ++ kept)
fresh_distinct log ops table mid kept fresh r k n e =
    let count = greatest_last_count log in
    let stamps = fresh_stamps mid fresh ops e in
    subst (IsDistinct is_same) (sym (stamps_append fresh kept))
    (apart count (stamps_of fresh) (stamps_of kept) (subst StampsRise stamps (fresh_rise log ops n)) (subst (AllByRecursion (λ t. count < t.count)) stamps (fresh_above count log ops (omega arith) n))
    (subst (AllByRecursion (λ t. 0 < t.site)) stamps (fresh_sites log ops k))
    (subst (AllByRecursion (IsBelowNext count)) (sym (cells_by log table kept r).stamps) (below count (cells_of log) (cells_older log r.history)))
    (replica_distinct log table kept r))

-- the states of both are given
pub fresh_states : (table mid : TagStates) (kept fresh : List (Cell ℕ)) → KeepsIds table mid → AreStates table kept → AreStates mid fresh → AreStates mid (fresh ++ kept)
fresh_states table mid kept fresh k s f = All-append (λ (cell : Cell ℕ). IsState mid cell.state) fresh kept f (kept_states table mid kept k s)

-- what holds of each of both
pub all_front : {X : Type 0} (P : X → Type 0) (xs ys : List X) → All P (xs ++ ys) → All P xs
all_front P [] ys h = λ k d l. absurd (omega (arith, l))
all_front P (x ∷ xs) ys h = first (h 0 x (omega arith)) (all_front P xs ys (λ k d l. h (suc k) d (omega (arith, l))))
  where
    first : P x → All P xs → All P (x ∷ xs)
    first p q zero d l = p
    first p q (suc k) d l = q k d (omega (arith, l))

pub all_back : {X : Type 0} (P : X → Type 0) (xs ys : List X) → All P (xs ++ ys) → All P ys
all_back P [] ys h = h
all_back P (x ∷ xs) ys h = all_back P xs ys (λ k d l. h (suc k) d (omega (arith, l)))
