-- What the cells of a history are.
use Rattle.std.proofs.Common.{◌≡◌, ℕ, ◌≤◌, Bool, true, false, All, sym, ap, subst, ◌∙◌, arith, Some, List, [], ◌∷◌, ◌++◌, cond, ◌||◌, ◌&&◌, map, filter}
use Rattle.std.proofs.lemmas.Bool.Decides.{nat_tests}
use Rattle.std.proofs.lemmas.List.Folds.{list_any-append}
use Rattle.std.proofs.lemmas.List.Elements.{All-from_recursion}
use Rattle.std.proofs.lemmas.Map.Keys.{IsDistinct-cons}
use Rattle.std.specs.List.{AllByRecursion, IsDistinct, list_all}
use Rattle.std.specs.Ordering.{is_lt, is_gt}
use Rattle.std.specs.Str.{bytes_eq}
use Rattle.rt_stamps.specs.declared.stamp.Stamp.{Stamp}
use Rattle.rt_stamps.specs.declared.stamp.TheConstants.{FINAL, ROOT}
use Rattle.rt_stamps.specs.Names.{name_order}
use Rattle.rt_stamps.specs.Stamps.{is_before, is_same}
use Rattle.rt_stamps.proofs.Order.{differ, same_refl, same_sym, same_from_true}
use Rattle.rt_tags.specs.States.{Write, writes_above, writes_below, is_settled, write_of, written}
use Rattle.rt_tags.specs.Writers.{listed_by, state_after}
use Rattle.rt_tags.proofs.Sorted.{every_append}
use Rattle.rt_ops.specs.Operations.{Operation, Body, Insert, Delete, Tag, Name, stamp_of}
use Rattle.rt_ops.specs.Rules.{is_name, keeps_rules}
use Rattle.rt_rga.specs.Reading.{Character, descendants, has_stamp, reading_by_stamp}
use Rattle.rt_rga.proofs.Rooted.{IsAscending, IsTree}
use Rattle.rt_rga.specs.Histories.{IsHistory, characters, characters_from, greatest_last_count, has_character, inserted}
use Rattle.rt_rga.specs.Cells.{cell_in, cells_of, writes_by, writes_on}
use Rattle.rt_rga.proofs.Skipping.{all_weaker, all_after_trans, descendants_after, descendants_apart, split}
use Rattle.rt_rga.proofs.Trees.{complete}
use Rattle.rt_rga.proofs.Runs.{sound, stamps_read}
use Rattle.rt_rga.proofs.Histories.{all_from_members, character_site, inserted_range, last_ge, member_characters, tree_of}
use Rattle.rt_store.specs.Spans.{is_among, is_in_spans}
use Rattle.rt_store.specs.Shown.{TaggedCell}
use Rattle.rt_store.specs.Written.{IsBelowNext, IsWritten}
use Rattle.rt_store.specs.Cells.{AreDistinct, stamps_of}
use Rattle.rt_rga.proofs.Merging.{any_map, cells_are, stamps_are}

-- WHICH CHARACTERS

read_has : (cs : List Character) → IsTree cs → (s : Stamp) → has_stamp (reading_by_stamp cs) s ≡ has_stamp cs s
read_has cs t s = split (has_stamp cs s) (λ e. complete cs t s e ∙ sym e) (λ e. sound cs s e ∙ sym e)

-- the cells have the inserted characters and the final newline
pub cells_have : (set : List Operation) → IsHistory set → (s : Stamp) → is_among (stamps_of (cells_of set)) s ≡ (has_character set s || is_same FINAL s)
cells_have set h s =
    let xs = reading_by_stamp (characters set) in
    ap (λ cells. is_among (stamps_of cells) s) (cells_are set h)
    ∙ ap (λ ss. is_among ss s) (stamps_are set xs)
    ∙ any_map (λ t. is_same t s) (λ c. c.stamp) xs
    ∙ read_has (characters set) (tree_of set h) s
    ∙ member_characters set s
    ∙ or_false (has_character set s) (is_same FINAL s)
  where
    or_false : (a b : Bool) → (a || (b || false)) ≡ (a || b)
    or_false a b = grind arith

no_root : (set : List Operation) → IsHistory set → has_character set ROOT ≡ false
no_root set h = split (has_character set ROOT) (λ e. absurd (let i = character_site set h ROOT e in omega arith)) (λ e. e)

pub no_final : (set : List Operation) → IsHistory set → has_character set FINAL ≡ false
no_final set h = split (has_character set FINAL) (λ e. absurd (let i = character_site set h FINAL e in omega arith)) (λ e. e)

-- the root is no cell
pub root_absent : (set : List Operation) → IsHistory set → is_among (stamps_of (cells_of set)) ROOT ≡ false
root_absent set h = cells_have set h ROOT ∙ ap (λ b. b || is_same FINAL ROOT) (no_root set h)

-- EACH ONCE

abbrev Differ : List Character → Type 0
Differ [] = Unit {0}
Differ (c ∷ cs) = (has_stamp cs c.stamp ≡ false) × Differ cs

differ_append : (xs ys : List Character) → Differ xs → Differ ys → ((s : Stamp) → has_stamp xs s ≡ true → has_stamp ys s ≡ false) → Differ (xs ++ ys)
differ_append [] ys h k f = k
differ_append (x ∷ xs) ys h k f = (
  (let p = h.0 in let q : has_stamp ys x.stamp ≡ false = f x.stamp (rw (same_refl x.stamp)) in list_any-append (λ c. is_same c.stamp x.stamp) xs ys ∙ grind (arith, p, q)),
  differ_append xs ys h.1 k (λ s m. f s (grind (arith, m))),
)

descendants_differ : (cs : List Character) → IsAscending cs → AllByRecursion (λ d. is_before d.left d.stamp ≡ true) cs → (p : Stamp) → Differ (descendants cs p)
descendants_differ [] asc g p = tt
descendants_differ (c ∷ cs) asc g p = split (is_same c.left p)
    (λ e. let k : is_before p c.stamp ≡ true = rw (← same_from_true c.left p e) g.0 in
    rw e (differ_append (descendants cs p) (c ∷ descendants cs c.stamp) (descendants_differ cs asc.1 g.1 p)
    (descendants_after c.stamp cs asc.0 c.stamp, descendants_differ cs asc.1 g.1 c.stamp)
    (λ s m. apart s m (descendants_apart cs asc.1 p c.stamp (all_after_trans p c.stamp k cs asc.0) asc.0 (differ p c.stamp k) s m))))
    (λ e. rw e (descendants_differ cs asc.1 g.1 p))
  where
    apart : (s : Stamp) → has_stamp (descendants cs p) s ≡ true → has_stamp (descendants cs c.stamp) s ≡ false → (is_same c.stamp s || has_stamp (descendants cs c.stamp) s) ≡ false
    apart s m o = split (is_same c.stamp s)
        (λ e. absurd (let i : has_stamp (descendants cs p) s ≡ false = rw (← same_from_true c.stamp s e) (descendants_after c.stamp cs asc.0 p) in cc (i, m)))
        (λ e. grind (arith, e, o))

none_distinct : IsDistinct is_same []
unfolding IsDistinct
none_distinct = tt

all_differ : (s : Stamp) (cs : List Character) → has_stamp cs s ≡ false → AllByRecursion (λ t. is_same s t ≡ false) (stamps_read cs)
all_differ s [] h = tt
all_differ s (c ∷ cs) h = (same_sym s c.stamp ∙ grind (arith, h), all_differ s cs (grind (arith, h)))

distinct_from : (cs : List Character) → Differ cs → IsDistinct is_same (stamps_read cs)
distinct_from [] h = none_distinct
distinct_from (c ∷ cs) h = IsDistinct-cons is_same c.stamp (stamps_read cs) (all_differ c.stamp cs h.0) (distinct_from cs h.1)

-- no two cells have one stamp
pub cells_distinct : (set : List Operation) → IsHistory set → AreDistinct (cells_of set)
cells_distinct set h =
    let t = tree_of set h in
    let xs = reading_by_stamp (characters set) in
    let e : stamps_of (cells_of set) ≡ stamps_read xs = ap stamps_of (cells_are set h) ∙ stamps_are set xs in
    subst (IsDistinct is_same) (sym e)
    (distinct_from xs (descendants_differ (characters set) t.ascending (all_weaker _ (λ d. is_before d.left d.stamp ≡ true) (λ d r. r.greater) (characters set) t.rooted) ROOT))

-- COUNTS

pub character_count : (set : List Operation) (s : Stamp) → has_character set s ≡ true → s.count ≤ greatest_last_count set
character_count [] s h = absurd (cc h)
character_count (q ∷ older) s h = split (has_stamp (inserted q) s)
    (λ e. let m = (inserted_range q s e).high in grind (arith, m))
    (λ e. let m = character_count older s (grind (arith, h, e)) in grind (arith, m))

older_final : (count : ℕ) (s : Stamp) → is_same FINAL s ≡ true → IsBelowNext count s
older_final count s h = (grind (arith, nat_tests), λ e. grind (arith, nat_tests))

all_cells : (set : List Operation) (P : Stamp → Type 0) (xs : List Character) → AllByRecursion (λ c. P c.stamp) xs → AllByRecursion (λ (cell : TaggedCell). P cell.stamp) (map (cell_in set) xs)
all_cells set P [] h = tt
all_cells set P (x ∷ xs) h = (h.0, all_cells set P xs h.1)

-- each stamp is less than those that a site gives next
pub cells_older : (set : List Operation) → IsHistory set → All (λ cell. IsBelowNext (greatest_last_count set) cell.stamp) (cells_of set)
cells_older set h =
    let P : Stamp → Type 0 = IsBelowNext (greatest_last_count set) in
    let xs = reading_by_stamp (characters set) in
    All-from_recursion (λ (cell : TaggedCell). P cell.stamp) (cells_of set) (subst (AllByRecursion (λ (cell : TaggedCell). P cell.stamp)) (sym (cells_are set h))
    (all_cells set P xs (all_from_members P xs (λ s m. by s (sym (read_has (characters set) (tree_of set h) s ∙ member_characters set s) ∙ m)))))
  where
    by : (s : Stamp) → (has_character set s || (is_same FINAL s || false)) ≡ true → IsBelowNext (greatest_last_count set) s
    by s m = split (has_character set s)
        (λ e. let c = character_count set s e in (omega arith, λ k. absurd (omega arith)))
        (λ e. older_final (greatest_last_count set) s (grind (arith, m, e)))

-- WRITES

every_filter : (P : Write → Type 0) (test : Write → Bool) (xs : List Write) → AllByRecursion P xs → AllByRecursion P (filter test xs)
every_filter P test [] h = tt
every_filter P test (x ∷ xs) h = elim (test x) as (λ b. AllByRecursion P (cond b (x ∷ filter test xs) (filter test xs))) [
  | true ↦ (h.0, every_filter P test xs h.1)
  | false ↦ every_filter P test xs h.1
]

-- what holds of writes holds of those in the state that they leave
written_every : (P : Write → Type 0) (w : Write) (state : List Write) → P w → AllByRecursion P state → AllByRecursion P (written w state)
written_every P w state h k = elim (is_settled w state) as (λ b. AllByRecursion P (cond b state (writes_below w.name state ++ w ∷ writes_above w.name state))) [
  | true ↦ k
  | false ↦ every_append P (writes_below w.name state) (w ∷ writes_above w.name state) (every_filter P (λ v. is_lt (name_order v.name w.name)) state k) (h, every_filter P (λ v. is_gt (name_order v.name w.name)) state k)
]

state_every : (P : Write → Type 0) (state xs : List Write) → AllByRecursion P state → AllByRecursion P xs → AllByRecursion P (state_after state xs)
state_every P state [] h k = h
state_every P state (x ∷ xs) h k = state_every P (written x state) xs (written_every P x state k.0 h) k.1

found_every : (P : Write → Type 0) (name : List ℕ) (state : List Write) (w : Write) → AllByRecursion P state → write_of name state ≡ Some w → P w
found_every P name [] w h e = absurd (cc e)
found_every P name (x ∷ state) w h e = split (bytes_eq name x.name)
    (λ t. let i : Some x ≡ Some w = sym (ap (λ b. cond b (Some x) (write_of name state)) t) ∙ e in let j : x ≡ w = cc in subst P j h.0)
    (λ f. found_every P name state w h.1 (sym (ap (λ b. cond b (Some x) (write_of name state)) f) ∙ e))

-- a write of an operation up to a count, of a name that a tag may have
abbrev IsFine : ℕ → Write → Type 0
IsFine count w = (w.writer.count ≤ count) × (is_name w.name ≡ true)

listed_fine : (count : ℕ) (tags : List Name) → list_all is_name tags ≡ true → AllByRecursion (IsFine count) (listed_by ROOT tags)
listed_fine count [] h = tt
listed_fine count (tag ∷ tags) h = ((omega arith, and_left (is_name tag) (list_all is_name tags) h), listed_fine count tags (and_right (is_name tag) (list_all is_name tags) h))
  where
    and_left : (a b : Bool) → (a && b) ≡ true → a ≡ true
    and_left a b h = grind arith

    and_right : (a b : Bool) → (a && b) ≡ true → b ≡ true
    and_right a b h = grind arith

tags_named : (n a b t : Bool) → ((n && (a && b)) && t) ≡ true → a ≡ true
tags_named n a b t h = grind arith

writes_fine : (count : ℕ) (stamp : Stamp) (body : Body) (s : Stamp) → stamp.count ≤ count → keeps_rules body ≡ true → AllByRecursion (IsFine count) (writes_by stamp body s)
writes_fine count stamp (Insert after tags text) s l r = elim (has_stamp (characters_from after stamp text) s) as (λ b. AllByRecursion (IsFine count) (cond b (listed_by ROOT tags) [])) [
  | true ↦ listed_fine count tags (tags_named _ (list_all is_name tags) _ _ r)
  | false ↦ tt
]
writes_fine count stamp (Delete spans) s l r = tt
writes_fine count stamp (Tag on name spans) s l r = elim (is_in_spans spans s) as (λ b. AllByRecursion (IsFine count) (cond b (record { name = name; writer = stamp; on = on } ∷ []) [])) [
  | true ↦ ((l, first (is_name name) _ r), tt)
  | false ↦ tt
]
  where
    first : (a b : Bool) → (a && b) ≡ true → a ≡ true
    first a b h = grind arith

raise_fine : (m n : ℕ) → m ≤ n → (ws : List Write) → AllByRecursion (IsFine m) ws → AllByRecursion (IsFine n) ws
raise_fine m n l [] h = tt
raise_fine m n l (w ∷ ws) h = ((let i = h.0.0 in omega arith, h.0.1), raise_fine m n l ws h.1)

all_fine : (set : List Operation) → IsHistory set → (s : Stamp) → AllByRecursion (IsFine (greatest_last_count set)) (writes_on set s)
all_fine [] h s = tt
all_fine (op ∷ older) h s =
    every_append (IsFine (greatest_last_count (op ∷ older))) (writes_on older s) (writes_by (stamp_of op) op.body s)
    (raise_fine (greatest_last_count older) (greatest_last_count (op ∷ older)) (omega arith) (writes_on older s) (all_fine older h.2 s))
    (writes_fine (greatest_last_count (op ∷ older)) (stamp_of op) op.body s (let g = last_ge op.count op.body in omega arith) h.1.rules)

pub state_fine : (set : List Operation) → IsHistory set → (s : Stamp) (name : List ℕ) (w : Write) → write_of name (state_after [] (writes_on set s)) ≡ Some w → IsFine (greatest_last_count set) w
state_fine set h s name w e = found_every (IsFine (greatest_last_count set)) name (state_after [] (writes_on set s)) w (state_every (IsFine (greatest_last_count set)) [] (writes_on set s) tt (all_fine set h s)) e

each_state : (set : List Operation) (P : List Write → Type 0) → ((s : Stamp) → P (state_after [] (writes_on set s))) → (xs : List Character) → AllByRecursion (λ (cell : TaggedCell). P cell.state) (map (cell_in set) xs)
each_state set P f [] = tt
each_state set P f (x ∷ xs) = (f x.stamp, each_state set P f xs)

pub all_states : (set : List Operation) → IsHistory set → (P : List Write → Type 0) → ((s : Stamp) → P (state_after [] (writes_on set s))) → All (λ (cell : TaggedCell). P cell.state) (cells_of set)
all_states set h P f = All-from_recursion (λ (cell : TaggedCell). P cell.state) (cells_of set) (subst (AllByRecursion (λ (cell : TaggedCell). P cell.state)) (sym (cells_are set h)) (each_state set P f (reading_by_stamp (characters set))))

-- no write is newer than the history
pub cells_written : (set : List Operation) → IsHistory set → All (λ cell. IsWritten (greatest_last_count set) cell.state) (cells_of set)
cells_written set h = all_states set h (IsWritten (greatest_last_count set)) (λ s name w e. (state_fine set h s name w e).0)

-- each written tag has a name that a tag may have, which `sel` is not
pub cells_named : (set : List Operation) → IsHistory set → All (λ (cell : TaggedCell). (name : List ℕ) (w : Write) → write_of name cell.state ≡ Some w → is_name w.name ≡ true) (cells_of set)
cells_named set h = all_states set h (λ state. (name : List ℕ) (w : Write) → write_of name state ≡ Some w → is_name w.name ≡ true) (λ s name w e. (state_fine set h s name w e).1)
