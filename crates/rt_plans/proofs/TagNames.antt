-- The tags of new text are names, and rise by their bytes.
use Rattle.std.proofs.Common.{◌≡◌, ℕ, zero, suc, ◌+◌, ◌<◌, ◌≤◌, ◌⊎◌, inl, inr, All, List, [], ◌∷◌, ◌++◌, Bool, true, false, cond, not, ◌&&◌, get_or, length, map, filter, take, drop, refl, sym, ◌∙◌, ap, subst, take-append-drop, Option, Some, None}
use Rattle.std.specs.Prelude.{slice_get}
use Rattle.std.specs.List.{AllByRecursion, list_all}
use Rattle.std.specs.Ordering.{is_gt, is_lt}
use Rattle.std.specs.Str.{bytes_eq, chars}
use Rattle.std.specs.declared.cmp.Ordering.TheVariants.{Less}
use Rattle.std.proofs.lemmas.Bool.{and_from, and_parts}
use Rattle.std.proofs.lemmas.List.Folds.{list_all-append}
use Rattle.std.proofs.lemmas.List.Elements.{All-from_recursion, recursion_from_All}
use Rattle.std.proofs.lemmas.Option.{slice_get_cases}
use Rattle.rt_stamps.specs.declared.limits.TheConstants.{MOST_CHARACTERS, MOST_TAGS}
use Rattle.rt_stamps.specs.declared.stamp.Stamp.{Stamp}
use Rattle.rt_stamps.specs.declared.stamp.TheConstants.{ROOT}
use Rattle.rt_stamps.specs.Names.{name_order}
use Rattle.rt_stamps.specs.Words.{Word}
use Rattle.rt_ops.specs.Operations.{Operation, Body, Insert, Delete, Tag, stamp_of}
use Rattle.rt_ops.specs.Rules.{are_tags, is_lesser_name, is_name, is_text, is_within, keeps_rules}
use Rattle.rt_tags.specs.States.{IsByName, Write, writes_above, writes_below, is_on, is_settled, names_on, written}
use Rattle.rt_tags.specs.Tags.{sel}
use Rattle.rt_tags.specs.Writers.{listed_by, state_after}
use Rattle.rt_tags.proofs.Sorted.{every_append}
use Rattle.rt_store.specs.Cells.{cells_from, visible_of}
use Rattle.rt_store.specs.Shown.{TaggedCell}
use Rattle.rt_store.specs.Spans.{each_next, is_among, is_in_spans}
use Rattle.rt_store.proofs.Shown.{filter_map}
use Rattle.rt_rga.specs.Cells.{cells_of, writes_by, writes_on}
use Rattle.rt_rga.specs.Histories.{IsHistory, characters_from}
use Rattle.rt_rga.specs.Reading.{has_stamp}
use Rattle.rt_rga.proofs.Corollaries.{all_states}
use Rattle.rt_rga.proofs.Writes.{state_sorted}
use Rattle.rt_plans.specs.DraftLaws.{AreTagNames, HaveTexts}
use Rattle.rt_plans.specs.Insertions.{Insertion, Piece, cells_of_inserts, further_tags, inserts_for, left_neighbour, new_state, on_left, put_on, shared_names, tagged_cells, tags_between, with_listed, with_pieces}
use Rattle.rt_plans.specs.DocValue.{DocValue}
use Rattle.rt_plans.specs.Removals.{cells_at, gone_at}
use Rattle.rt_plans.specs.TagWrites.{changed_stamps, tag_write, cell_with_tag, with_tag_at, with_tags_at}
use Rattle.rt_plans.proofs.PieceDraftLaws.{listed_more}

-- NAMES IN STATES

abbrev pub IsNamed : Write → Type 0
IsNamed w = is_name w.name ≡ true

pub record AreNamed (state : List Write) : Type 0 where
  pub by_name : IsByName state
  pub named : AllByRecursion IsNamed state

pub every_filter : {X : Type 0} (P : X → Type 0) (test : X → Bool) (xs : List X) → AllByRecursion P xs → AllByRecursion P (filter test xs)
every_filter P test [] h = tt
every_filter P test (x ∷ xs) h = by (test x) (every_filter P test xs h.1)
  where
    by : (b : Bool) → AllByRecursion P (filter test xs) → AllByRecursion P (cond b (x ∷ filter test xs) (filter test xs))
    by true r = (h.0, r)
    by false r = r

sorted_filter : (test : Write → Bool) (state : List Write) → IsByName state → IsByName (filter test state)
sorted_filter test [] h = tt
sorted_filter test (w ∷ state) h = by (test w) (sorted_filter test state h.1)
  where
    by : (b : Bool) → IsByName (filter test state) → IsByName (cond b (w ∷ filter test state) (filter test state))
    by true r = (every_filter (λ v. name_order w.name v.name ≡ Less) test state h.0, r)
    by false r = r

some_named : (test : Write → Bool) (state : List Write) → AreNamed state → AreNamed (filter test state)
some_named test state h = record { by_name = sorted_filter test state h.by_name; named = every_filter IsNamed test state h.named }

written_every : (w : Write) (state : List Write) → IsNamed w → AllByRecursion IsNamed state → AllByRecursion IsNamed (written w state)
written_every w state h k = by (is_settled w state)
  where
    by : (b : Bool) → AllByRecursion IsNamed (cond b state (writes_below w.name state ++ w ∷ writes_above w.name state))
    by true = k
    by false =
        every_append IsNamed (writes_below w.name state) (w ∷ writes_above w.name state) (every_filter IsNamed (λ v. is_lt (name_order v.name w.name)) state k)
        (h, every_filter IsNamed (λ v. is_gt (name_order v.name w.name)) state k)

state_every : (state ws : List Write) → AllByRecursion IsNamed state → AllByRecursion IsNamed ws → AllByRecursion IsNamed (state_after state ws)
state_every state [] h k = h
state_every state (w ∷ ws) h k = state_every (written w state) ws (written_every w state k.0 h) k.1

after_writes : (ws : List Write) → AllByRecursion IsNamed ws → AreNamed (state_after [] ws)
after_writes ws h = record { by_name = state_sorted [] ws tt; named = state_every [] ws tt h }

each_name : (state : List Write) → AllByRecursion IsNamed state → list_all is_name (map (λ (w : Write). w.name) state) ≡ true
each_name [] h = refl
each_name (w ∷ state) h = and_from (is_name w.name) _ h.0 (each_name state h.1)

rising_names : (state : List Write) → IsByName state → each_next is_lesser_name (map (λ (w : Write). w.name) state) ≡ true
rising_names [] h = refl
rising_names (w ∷ []) h = refl
rising_names (w ∷ v ∷ state) h = and_from (is_lesser_name w.name v.name) _ (ap is_lt h.0.0) (rising_names (v ∷ state) h.1)

names_are : (state : List Write) → AreNamed state → AreTagNames (map (λ (w : Write). w.name) state)
names_are state h = record { each = each_name state h.named; rising = rising_names state h.by_name }

-- LISTED NAMES

listed_named : (stamp : Stamp) (names : List Word) → list_all is_name names ≡ true → AllByRecursion IsNamed (listed_by stamp names)
listed_named stamp [] h = tt
listed_named stamp (name ∷ names) h = let p = and_parts (is_name name) (list_all is_name names) h in (p.0, listed_named stamp names p.1)

put_named : (site count : ℕ) (names : List Word) → list_all is_name names ≡ true → AllByRecursion IsNamed (put_on site count names)
put_named site count [] h = tt
put_named site count (name ∷ names) h = let p = and_parts (is_name name) (list_all is_name names) h in (p.0, put_named site (count + 1) names p.1)

but_sel : (names : List Word) → AllByRecursion (λ name. bytes_eq name sel ≡ false → is_name name ≡ true) names → list_all is_name (filter (λ name. not (bytes_eq name sel)) names) ≡ true
but_sel [] h = refl
but_sel (name ∷ names) h = by (bytes_eq name sel) h.0 (but_sel names h.1)
  where
    by : (b : Bool) → (b ≡ false → is_name name ≡ true) → list_all is_name (filter (λ name. not (bytes_eq name sel)) names) ≡ true
        → list_all is_name (cond (not b) (name ∷ filter (λ name. not (bytes_eq name sel)) names) (filter (λ name. not (bytes_eq name sel)) names)) ≡ true
    by true f r = r
    by false f r = and_from (is_name name) _ (f refl) r

-- the shared ones of a list
pub shared_are : (names : List Word) → AllByRecursion (λ name. bytes_eq name sel ≡ false → is_name name ≡ true) names → AreTagNames (shared_names names)
shared_are names h =
    let writes = listed_by ROOT (filter (λ name. not (bytes_eq name sel)) names) in
    let state = after_writes writes (listed_named ROOT (filter (λ name. not (bytes_eq name sel)) names) (but_sel names h)) in
    names_are (filter (λ (w : Write). w.on) (state_after [] writes)) (some_named (λ (w : Write). w.on) (state_after [] writes) state)

-- NEIGHBOURS

-- a cell's tags are names
abbrev HasNamed : Option TaggedCell → Type 0
HasNamed None = Unit {0}
HasNamed (Some cell) = AreNamed cell.state

none_are : AreTagNames []
none_are = record { each = refl; rising = refl }

between_are : (left right : Option TaggedCell) → HasNamed left → AreTagNames (tags_between left right)
between_are None right h = none_are
between_are (Some left) None h = none_are
between_are (Some left) (Some right) h =
    let on = filter (λ (w : Write). w.on) left.state in
    subst AreTagNames (sym (filter_map (λ name. is_on name right.state) (λ (w : Write). w.name) on))
    (names_are (filter (λ (w : Write). is_on w.name right.state) on) (some_named (λ (w : Write). is_on w.name right.state) on (some_named (λ (w : Write). w.on) left.state h)))

by_op : (stamp : Stamp) (body : Body) (s : Stamp) → keeps_rules body ≡ true → AllByRecursion IsNamed (writes_by stamp body s)
by_op stamp (Insert after tags text) s r =
    let p = and_parts (are_tags tags) (is_text text) r in
    let q = and_parts (is_within 0 MOST_TAGS (length tags)) (list_all is_name tags && each_next is_lesser_name tags) p.0 in
    let n = and_parts (list_all is_name tags) (each_next is_lesser_name tags) q.1 in
    by (has_stamp (characters_from after stamp text) s) (listed_named ROOT tags n.0)
  where
    by : (b : Bool) → AllByRecursion IsNamed (listed_by ROOT tags) → AllByRecursion IsNamed (cond b (listed_by ROOT tags) [])
    by true h = h
    by false h = tt
by_op stamp (Delete spans) s r = tt
by_op stamp (Tag on name spans) s r = by (is_in_spans spans s)
  where
    by : (b : Bool) → AllByRecursion IsNamed (cond b (record { name = name; writer = stamp; on = on } ∷ []) [])
    by true = ((and_parts (is_name name) _ r).0, tt)
    by false = tt

writes_named : (log : List Operation) → IsHistory log → (s : Stamp) → AllByRecursion IsNamed (writes_on log s)
writes_named [] h s = tt
writes_named (op ∷ older) h s = every_append IsNamed (writes_on older s) (writes_by (stamp_of op) op.body s) (writes_named older h.2 s) (by_op (stamp_of op) op.body s h.1.rules)

cells_are_named : (log : List Operation) → IsHistory log → All (λ (cell : TaggedCell). AreNamed cell.state) (cells_of log)
cells_are_named log h = all_states log h AreNamed (λ s. after_writes (writes_on log s) (writes_named log h s))

abbrev pub CellsNamed : List TaggedCell → Type 0
CellsNamed cells = AllByRecursion (λ (cell : TaggedCell). AreNamed cell.state) cells

neighbour_named : (cells : List TaggedCell) (place : ℕ) → CellsNamed cells → HasNamed (left_neighbour (visible_of cells) place)
neighbour_named cells zero h = tt
neighbour_named cells (suc p) h = by (All-from_recursion (λ (cell : TaggedCell). AreNamed cell.state) (visible_of cells) (every_filter (λ (cell : TaggedCell). AreNamed cell.state) (λ (cell : TaggedCell). not cell.gone) cells h))
    (slice_get_cases (visible_of cells) p).1
  where
    by : All (λ (cell : TaggedCell). AreNamed cell.state) (visible_of cells)
        → ((x : TaggedCell) × (p < length (visible_of cells)) × (slice_get (visible_of cells) p ≡ Some x) × (get_or (visible_of cells) p x ≡ x))
        ⊎ ((length (visible_of cells) ≤ p) × (slice_get (visible_of cells) p ≡ None))
        → HasNamed (slice_get (visible_of cells) p)
    by all (inl w) = subst HasNamed (sym w.2) (subst (λ (cell : TaggedCell). AreNamed cell.state) w.3 (all p w.0 w.1))
    by all (inr w) = subst HasNamed (sym w.1) tt

-- THE TAGS ON CELLS

pub on_names : (state : List Write) → AreNamed state → AreTagNames (names_on state)
on_names state h = names_are (filter (λ (w : Write). w.on) state) (some_named (λ (w : Write). w.on) state h)

pub cells_have_names : (log : List Operation) → IsHistory log → All (λ (cell : TaggedCell). AreTagNames (names_on cell.state)) (cells_of log)
cells_have_names log h = λ i d l. on_names (get_or (cells_of log) i d).state (cells_are_named log h i d l)

-- NEW CELLS

new_named : (site last : ℕ) (names : List Word) → list_all is_name names ≡ true → AreNamed (new_state site last names)
new_named site last names h =
    let p = and_parts (list_all is_name (take MOST_TAGS names)) (list_all is_name (drop MOST_TAGS names))
    (sym (list_all-append is_name (take MOST_TAGS names) (drop MOST_TAGS names)) ∙ ap (list_all is_name) (take-append-drop MOST_TAGS names) ∙ h) in
    after_writes (listed_by ROOT (take MOST_TAGS names) ++ put_on site last (further_tags names))
    (every_append IsNamed (listed_by ROOT (take MOST_TAGS names)) (put_on site last (further_tags names)) (listed_named ROOT (take MOST_TAGS names) p.0) (put_named site last (further_tags names) p.1))

from_named : (count site : ℕ) (state : List Write) (text : List ℕ) → AreNamed state → CellsNamed (cells_from count site state text)
from_named count site state [] h = tt
from_named count site state (c ∷ text) h = (h, from_named (count + 1) site state text h)

inserts_named : (inserts site count : ℕ) (names : List Word) (text : List ℕ) → list_all is_name names ≡ true → CellsNamed (cells_of_inserts inserts site count names text)
inserts_named zero site count names text h = tt
inserts_named (suc inserts) site count names text h =
    let part = take MOST_CHARACTERS text in
    let last = count + length part in
    every_append (λ (cell : TaggedCell). AreNamed cell.state) (cells_from (count + 1) site (new_state site last names) part)
    (cells_of_inserts inserts site (last + length (further_tags names)) names (drop MOST_CHARACTERS text))
    (from_named (count + 1) site (new_state site last names) part (new_named site last names h))
    (inserts_named inserts site (last + length (further_tags names)) names (drop MOST_CHARACTERS text) h)

pieces_named : (pieces : List Piece) (site : ℕ) (so_far : Insertion) → HaveTexts pieces → CellsNamed so_far.cells → CellsNamed (with_pieces site pieces so_far).cells
pieces_named [] site so_far t h = h
pieces_named (piece ∷ pieces) site so_far t h =
    let text = chars piece.text in
    let names = shared_names piece.tags in
    let next = with_listed site piece.tags text so_far in
    let new = tagged_cells site so_far.count names text in
    pieces_named pieces site next t.1
    (subst CellsNamed (sym (listed_more site so_far piece.tags text).cells)
    (every_append (λ (cell : TaggedCell). AreNamed cell.state) so_far.cells new h (inserts_named (inserts_for (length text)) site so_far.count names text t.0.tags.each)))

last_named : (o : Option TaggedCell) (cells : List TaggedCell) → HasNamed o → CellsNamed cells → HasNamed (on_left o cells)
last_named o [] h k = h
last_named o (c ∷ cs) h k = last_named (Some c) cs k.0 k.1

-- the tags that both neighbours of a place have, where pieces stand before it perhaps
pub tags_between_in : (site : ℕ) (cells : List TaggedCell) (place : ℕ) (right : Option TaggedCell) (pieces : List Piece) (start : Insertion) → CellsNamed cells → HaveTexts pieces → start.cells ≡ []
    → AreTagNames (tags_between (on_left (left_neighbour (visible_of cells) place) (with_pieces site pieces start).cells) right)
tags_between_in site cells place right pieces start h t none =
    let left = left_neighbour (visible_of cells) place in
    let new = (with_pieces site pieces start).cells in
    between_are (on_left left new) right (last_named left new (neighbour_named cells place h) (pieces_named pieces site start t (subst CellsNamed (sym none) tt)))

pub every_named : (log : List Operation) → IsHistory log → CellsNamed (cells_of log)
every_named log h = recursion_from_All (λ (cell : TaggedCell). AreNamed cell.state) (cells_of log) (cells_are_named log h)

pub tags_between_are : (site : ℕ) (log : List Operation) (place : ℕ) (right : Option TaggedCell) (pieces : List Piece) (start : Insertion) → IsHistory log → HaveTexts pieces → start.cells ≡ []
    → AreTagNames (tags_between (on_left (left_neighbour (visible_of (cells_of log)) place) (with_pieces site pieces start).cells) right)
tags_between_are site log place right pieces start h t none = tags_between_in site (cells_of log) place right pieces start (every_named log h) t none

-- AFTER OTHER WRITES

tagged_named : (site count : ℕ) (name : Word) (on : Bool) (stamps : List Stamp) (cell : TaggedCell) → is_name name ≡ true → AreNamed cell.state → AreNamed (cell_with_tag site count name on stamps cell).state
tagged_named site count name on stamps cell n h = by (is_among stamps cell.stamp)
  where
    by : (b : Bool) → AreNamed (cond b (record cell { state = written (tag_write site count name on stamps cell.stamp) cell.state }) cell).state
    by true = record {
      by_name = state_sorted cell.state (tag_write site count name on stamps cell.stamp ∷ []) h.by_name;
      named = written_every (tag_write site count name on stamps cell.stamp) cell.state n h.named;
    }
    by false = h

pub all_tagged_named : (site count : ℕ) (name : Word) (on : Bool) (stamps : List Stamp) (cells : List TaggedCell) → is_name name ≡ true → CellsNamed cells → CellsNamed (map (cell_with_tag site count name on stamps) cells)
all_tagged_named site count name on stamps [] n h = tt
all_tagged_named site count name on stamps (c ∷ cs) n h = (tagged_named site count name on stamps c n h.0, all_tagged_named site count name on stamps cs n h.1)

pub tags_named : (names : List Word) (doc : DocValue) (places : ℕ → Bool) (on : Bool) → list_all is_name names ≡ true → CellsNamed doc.cells → CellsNamed (with_tags_at doc places on names).cells
tags_named [] doc places on n h = h
tags_named (name ∷ names) doc places on n h =
    let p = and_parts (is_name name) (list_all is_name names) n in
    tags_named names (with_tag_at doc places on name) places on p.1 (all_tagged_named doc.site doc.count name on (changed_stamps name on (cells_at places 0 doc.cells)) doc.cells p.0 h)

pub gone_named : (r : ℕ → Bool) (p : ℕ) (cells : List TaggedCell) → CellsNamed cells → CellsNamed (gone_at r p cells)
gone_named r p [] h = tt
gone_named r p (c ∷ cs) h =
    let here : CellsNamed (c ∷ gone_at r p cs) = (h.0, gone_named r p cs h.1) in
    let next : CellsNamed (record c { gone = r p } ∷ gone_at r (p + 1) cs) = (h.0, gone_named r (p + 1) cs h.1) in
    elim c.gone as (λ b. CellsNamed (cond b (c ∷ gone_at r p cs) (record c { gone = r p } ∷ gone_at r (p + 1) cs))) [ true ↦ here | false ↦ next ]
