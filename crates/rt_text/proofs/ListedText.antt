-- The tags of new text are listed.
use Rattle.std.proofs.Common.{◌≡◌, ℕ, zero, suc, ◌+◌, ◌<◌, List, [], ◌∷◌, ◌++◌, Bool, true, false, cond, not, All, Option, None, Some, length, take, drop, map, filter, get_or, refl, sym, ◌∙◌, ap, subst, arith}
use Rattle.std.specs.Prelude.{IfSome, slice_get}
use Rattle.std.specs.Str.{bytes_eq, chars}
use Rattle.std.proofs.lemmas.Bool.{not-true, or_left, or_right}
use Rattle.std.proofs.lemmas.List.{take-append-drop}
use Rattle.std.proofs.lemmas.List.Elements.{All-append, All-cons, All-drop, All-filter, All-head, All-map, All-nil, All-tail, All-take, All-weaker, filter-append, filter_passes}
use Rattle.std.proofs.lemmas.Option.{get_or_from_slice_get, slice_get_within}
use Rattle.std.proofs.lemmas.List.Folds.{list_any-append}
use Rattle.rt_stamps.specs.declared.limits.TheConstants.{MOST_CHARACTERS, MOST_TAGS}
use Rattle.rt_stamps.specs.declared.stamp.Stamp.{Stamp}
use Rattle.rt_stamps.specs.declared.stamp.TheConstants.{ROOT}
use Rattle.rt_stamps.specs.Words.{Word}
use Rattle.rt_store.specs.declared.cell.Cell.{Cell}
use Rattle.rt_store.specs.Cells.{after_element, text_of, visible_of, cells_from}
use Rattle.rt_tags.specs.States.{IsByName, Write, writes_above, writes_below, is_on, is_settled, names_on, says_on, write_of, written}
use Rattle.rt_tags.specs.Tags.{IsName, is_listed, sel, with_name}
use Rattle.rt_tags.specs.Writers.{listed_by, state_after}
use Rattle.rt_tags.proofs.Commuting.{on_is_listed}
use Rattle.rt_tags.proofs.Places.{name_itself, same_name, split}
use Rattle.rt_tags.proofs.Sorted.{written_sorted}
use Rattle.rt_plans.specs.DocValue.{put_after}
use Rattle.rt_store.specs.Shown.{TaggedCell}
use Rattle.rt_plans.specs.Insertions.{Insertion, Piece, all_listed, cells_of_inserts, further_tags, inserts_for, insertion_of, on_left, left_neighbour, new_state, put_on, shared_names, tagged_cells, tags_between, with_listed, with_pieces, with_unlisted}
use Rattle.rt_text.specs.Commands.{names_in}
use Rattle.rt_plans.specs.Listed.{AreListed, IsShared, listed_name}

-- NAMES IN STATES

-- each write of a state is of a name with a property
abbrev pub HaveNamed : (Word → Type 0) → List Write → Type 0
HaveNamed P state = All (λ w. P w.name) state

named_written : (P : Word → Type 0) (w : Write) (state : List Write) → P w.name → HaveNamed P state → HaveNamed P (written w state)
named_written P w state p h = by (is_settled w state)
  where
    by : (b : Bool) → HaveNamed P (cond b state (writes_below w.name state ++ w ∷ writes_above w.name state))
    by true = h
    by false =
        let Q : Write → Type 0 = λ v. P v.name in
        All-append Q (writes_below w.name state) (w ∷ writes_above w.name state) (All-filter _ Q state h) (All-cons Q w (writes_above w.name state) p (All-filter _ Q state h))

pub named_after : (P : Word → Type 0) (writes state : List Write) → HaveNamed P state → HaveNamed P writes → HaveNamed P (state_after state writes)
named_after P [] state h k = h
named_after P (w ∷ writes) state h k =
    let Q : Write → Type 0 = λ v. P v.name in
    named_after P writes (written w state) (named_written P w state (All-head Q w writes k) h) (All-tail Q w writes k)

by_name_after : (writes state : List Write) → IsByName state → IsByName (state_after state writes)
by_name_after [] state h = h
by_name_after (w ∷ writes) state h = by_name_after writes (written w state) (written_sorted w state h)

-- a tag that is on has that property
pub named_on : (P : Word → Type 0) (name : Word) (state : List Write) → HaveNamed P state → is_on name state ≡ true → P name
named_on P name [] h e = let bad : ⊥ = cc in absurd bad
named_on P name (w ∷ state) h e =
    let Q : Write → Type 0 = λ v. P v.name in
    split (bytes_eq name w.name)
    (λ t. subst P (sym (same_name name w.name t)) (All-head Q w state h))
    (λ f. named_on P name state (All-tail Q w state h) (sym (ap (λ b. says_on (cond b (Some w) (write_of name state))) f) ∙ e))

named_names : (P : Word → Type 0) (state : List Write) → HaveNamed P state → All P (names_on state)
named_names P state h = All-map P (λ w. w.name) (filter (λ w. w.on) state) (All-filter (λ w. w.on) (λ w. P w.name) state h)

put_on_named : (P : Word → Type 0) (site count : ℕ) (names : List Word) → All P names → HaveNamed P (put_on site count names)
put_on_named P site count [] h = All-nil (λ w. P w.name)
put_on_named P site count (name ∷ names) h =
    All-cons (λ w. P w.name) (record { name = name; writer = record { count = count + 1; site = site }; on = true }) (put_on site (count + 1) names) (All-head P name names h) (put_on_named P site (count + 1) names (All-tail P name names h))

pub listed_by_named : (P : Word → Type 0) (stamp : Stamp) (names : List Word) → All P names → HaveNamed P (listed_by stamp names)
listed_by_named P stamp [] h = All-nil (λ w. P w.name)
listed_by_named P stamp (name ∷ names) h = All-cons (λ w. P w.name) (record { name = name; writer = stamp; on = true }) (listed_by stamp names) (All-head P name names h) (listed_by_named P stamp names (All-tail P name names h))

-- the names of a list keep theirs
shared_named : (P : Word → Type 0) (names : List Word) → All P names → All P (shared_names names)
shared_named P names h =
    let own = filter (λ name. not (bytes_eq name sel)) names in
    named_names P (state_after [] (listed_by ROOT own)) (named_after P (listed_by ROOT own) [] (All-nil (λ w. P w.name)) (listed_by_named P ROOT own (All-filter _ P names h)))

-- and are others than `sel`
shared_other : (names : List Word) → All (λ name. bytes_eq name sel ≡ false) (shared_names names)
shared_other names =
    let P : Word → Type 0 = λ name. bytes_eq name sel ≡ false in
    let own = filter (λ name. not (bytes_eq name sel)) names in
    named_names P (state_after [] (listed_by ROOT own))
    (named_after P (listed_by ROOT own) [] (All-nil (λ w. P w.name)) (listed_by_named P ROOT own (λ k d lt. not-true (bytes_eq (get_or own k d) sel) (filter_passes (λ name. not (bytes_eq name sel)) names k d lt))))

-- NEW CELLS

-- a character is there, its tags are among some names, and its state has one write of each
pub record IsTaggedAmong (tags : List Word) (cell : TaggedCell) : Type 0 where
  pub each : (name : Word) → is_on name cell.state ≡ true → is_listed name tags ≡ true
  pub by_name : IsByName cell.state
  pub shared : IsShared cell.state
  pub there : cell.gone ≡ false

state_named : (P : Word → Type 0) (site last : ℕ) (names : List Word) → All P names → HaveNamed P (new_state site last names)
state_named P site last names h =
    let writes = listed_by ROOT (take MOST_TAGS names) ++ put_on site last (further_tags names) in
    let all : HaveNamed P writes =
    All-append (λ w. P w.name) (listed_by ROOT (take MOST_TAGS names)) (put_on site last (further_tags names)) (listed_by_named P ROOT (take MOST_TAGS names) (All-take P MOST_TAGS names h))
    (put_on_named P site last (further_tags names) (All-drop P MOST_TAGS names h)) in
    named_after P writes [] (All-nil (λ w. P w.name)) all

-- another name than `sel`
abbrev IsOther : Word → Type 0
IsOther name = bytes_eq name sel ≡ false

state_among : (tags : List Word) (site last : ℕ) (names : List Word) → All (λ name. is_listed name tags ≡ true) names → All IsOther names
    → ((name : Word) → is_on name (new_state site last names) ≡ true → is_listed name tags ≡ true) × IsByName (new_state site last names) × IsShared (new_state site last names)
state_among tags site last names h k =
    let P : Word → Type 0 = λ name. is_listed name tags ≡ true in
    let writes = listed_by ROOT (take MOST_TAGS names) ++ put_on site last (further_tags names) in
    (λ name on. named_on P name (new_state site last names) (state_named P site last names h) on, by_name_after writes [] tt, state_named IsOther site last names k)

from_among : (tags : List Word) (count site : ℕ) (state : List Write) (text : List ℕ) → ((name : Word) → is_on name state ≡ true → is_listed name tags ≡ true) → IsByName state → IsShared state
    → All (IsTaggedAmong tags) (cells_from count site state text)
from_among tags count site state [] h k q = All-nil (IsTaggedAmong tags)
from_among tags count site state (c ∷ text) h k q =
    All-cons (IsTaggedAmong tags) (record { stamp = record { count = count; site = site }; ch = c; gone = false; state = state }) (cells_from (count + 1) site state text) (record { each = h; by_name = k; shared = q; there = refl }) (from_among tags (count + 1) site state text h k q)

pub inserts_among : (tags : List Word) (inserts site count : ℕ) (names : List Word) (text : List ℕ) → All (λ name. is_listed name tags ≡ true) names → All IsOther names
    → All (IsTaggedAmong tags) (cells_of_inserts inserts site count names text)
inserts_among tags zero site count names text h q = All-nil (IsTaggedAmong tags)
inserts_among tags (suc inserts) site count names text h q =
    let part = take MOST_CHARACTERS text in
    let last = count + length part in
    let s = state_among tags site last names h q in
    All-append (IsTaggedAmong tags) (cells_from (count + 1) site (new_state site last names) part) (cells_of_inserts inserts site (last + length (further_tags names)) names (drop MOST_CHARACTERS text))
    (from_among tags (count + 1) site (new_state site last names) part s.0 s.1 s.2) (inserts_among tags inserts site (last + length (further_tags names)) names (drop MOST_CHARACTERS text) h q)

-- LISTS THAT GROW

with_still : (n name : Word) (tags : List Word) → is_listed n tags ≡ true → is_listed n (with_name name tags) ≡ true
with_still n name tags h = by (is_listed name tags)
  where
    by : (b : Bool) → is_listed n (cond b tags (tags ++ name ∷ [])) ≡ true
    by true = h
    by false = list_any-append (bytes_eq n) tags (name ∷ []) ∙ or_left (is_listed n tags) (is_listed n (name ∷ [])) h

with_itself : (name : Word) (tags : List Word) → is_listed name (with_name name tags) ≡ true
with_itself name tags = by (is_listed name tags) refl
  where
    by : (b : Bool) → is_listed name tags ≡ b → is_listed name (cond b tags (tags ++ name ∷ [])) ≡ true
    by true h = h
    by false h = list_any-append (bytes_eq name) tags (name ∷ []) ∙ or_right (is_listed name tags) (is_listed name (name ∷ [])) (or_left (bytes_eq name name) false (name_itself name))

-- what is listed stays listed
pub all_still : (n : Word) (names tags : List Word) → is_listed n tags ≡ true → is_listed n (all_listed names tags) ≡ true
all_still n [] tags h = h
all_still n (name ∷ names) tags h = all_still n names (with_name name tags) (with_still n name tags h)

-- and all names are listed
pub all_there : (names tags : List Word) → All (λ n. is_listed n (all_listed names tags) ≡ true) names
all_there [] tags = All-nil (λ n. is_listed n tags ≡ true)
all_there (name ∷ names) tags =
    All-cons (λ n. is_listed n (all_listed names (with_name name tags)) ≡ true) name names (all_still name names (with_name name tags) (with_itself name tags)) (all_there names (with_name name tags))

with_named : (name : Word) (tags : List Word) → IsName name → All IsName tags → All IsName (with_name name tags)
with_named name tags h k = by (is_listed name tags)
  where
    by : (b : Bool) → All IsName (cond b tags (tags ++ name ∷ []))
    by true = k
    by false = All-append IsName tags (name ∷ []) k (All-cons IsName name [] h (All-nil IsName))

pub all_named : (names tags : List Word) → All IsName names → All IsName tags → All IsName (all_listed names tags)
all_named [] tags h k = k
all_named (name ∷ names) tags h k = all_named names (with_name name tags) (All-tail IsName name names h) (with_named name tags (All-head IsName name names h) k)

-- INSERTIONS

-- what an insertion lists: the tags of its characters, and names
pub record ListsAll (x : Insertion) : Type 0 where
  pub cells : All (IsTaggedAmong x.tags) x.cells
  pub names : All IsName x.tags

among_still : (names tags : List Word) (cells : List TaggedCell) → All (IsTaggedAmong tags) cells → All (IsTaggedAmong (all_listed names tags)) cells
among_still names tags cells h = All-weaker (IsTaggedAmong tags) (IsTaggedAmong (all_listed names tags)) (λ cell a. record { each = λ name on. all_still name names tags (a.each name on); by_name = a.by_name; shared = a.shared; there = a.there }) cells h

listed_lists : (site : ℕ) (names : List Word) (text : List ℕ) (so_far : Insertion) → All IsName names → ListsAll so_far → ListsAll (with_listed site names text so_far)
listed_lists site names [] so_far h k = k
listed_lists site names (c ∷ text) so_far h k =
    let shared = shared_names names in
    let tags = all_listed shared so_far.tags in
    let new = tagged_cells site so_far.count shared (c ∷ text) in
    record {
      cells = All-append (IsTaggedAmong tags) so_far.cells new (among_still shared so_far.tags so_far.cells k.cells)
          (inserts_among tags (inserts_for (length (c ∷ text))) site so_far.count shared (c ∷ text) (all_there shared so_far.tags) (shared_other names));
      names = all_named shared so_far.tags (shared_named IsName names h) k.names;
    }

pub all_front : {X : Type 0} (P : X → Type 0) (xs ys : List X) → All P (xs ++ ys) → All P xs
all_front P [] ys h = All-nil P
all_front P (x ∷ xs) ys h = All-cons P x xs (All-head P x (xs ++ ys) h) (all_front P xs ys (All-tail P x (xs ++ ys) h))

pub all_rest : {X : Type 0} (P : X → Type 0) (xs ys : List X) → All P (xs ++ ys) → All P ys
all_rest P [] ys h = h
all_rest P (x ∷ xs) ys h = all_rest P xs ys (All-tail P x (xs ++ ys) h)

pieces_lists : (site : ℕ) (pieces : List Piece) (so_far : Insertion) → All IsName (names_in pieces) → ListsAll so_far → ListsAll (with_pieces site pieces so_far)
pieces_lists site [] so_far h k = k
pieces_lists site (piece ∷ pieces) so_far h k =
    pieces_lists site pieces (with_listed site piece.tags (chars piece.text) so_far) (all_rest IsName piece.tags (names_in pieces) h) (listed_lists site piece.tags (chars piece.text) so_far (all_front IsName piece.tags (names_in pieces) h) k)

-- the tags of a character with one write of each are on
names_among : (tags : List Word) (cell : TaggedCell) → IsTaggedAmong tags cell → All (λ name. is_listed name tags ≡ true) (names_on cell.state)
names_among tags cell a = λ k d lt.
    let name = get_or (names_on cell.state) k d in
    a.each name (on_is_listed name cell.state a.by_name ∙ there (names_on cell.state) k d lt)
  where
    there : (names : List Word) (k : ℕ) (d : Word) → k < length names → is_listed (get_or names k d) names ≡ true
    there [] k d lt = absurd (omega (arith, lt))
    there (name ∷ names) zero d lt = or_left (bytes_eq name name) (is_listed name names) (name_itself name)
    there (name ∷ names) (suc k) d lt = or_right (bytes_eq (get_or names k d) name) (is_listed (get_or names k d) names) (there names k d (omega (arith, lt)))

between_among : (tags : List Word) (left right : Option TaggedCell) → IfSome left (IsTaggedAmong tags) → All (λ name. is_listed name tags ≡ true) (tags_between left right)
between_among tags None right h = All-nil (λ name. is_listed name tags ≡ true)
between_among tags (Some left) None h = All-nil (λ name. is_listed name tags ≡ true)
between_among tags (Some left) (Some right) h = All-filter (λ name. is_on name right.state) (λ name. is_listed name tags ≡ true) (names_on left.state) (names_among tags left h)

between_other : (tags : List Word) (left right : Option TaggedCell) → IfSome left (IsTaggedAmong tags) → All IsOther (tags_between left right)
between_other tags None right h = All-nil IsOther
between_other tags (Some left) None h = All-nil IsOther
between_other tags (Some left) (Some right) h = All-filter (λ name. is_on name right.state) IsOther (names_on left.state) (named_names IsOther left.state h.shared)

unlisted_lists : (site : ℕ) (left right : Option TaggedCell) (text : List ℕ) (so_far : Insertion) → IfSome left (IsTaggedAmong so_far.tags) → ListsAll so_far → ListsAll (with_unlisted site left right text so_far)
unlisted_lists site left right [] so_far h k = k
unlisted_lists site left right (c ∷ text) so_far h k =
    let names = tags_between left right in
    let tags = all_listed names so_far.tags in
    let new = tagged_cells site so_far.count names (c ∷ text) in
    let listed : All (λ name. is_listed name so_far.tags ≡ true) names = between_among so_far.tags left right h in
    record {
      cells = All-append (IsTaggedAmong tags) so_far.cells new (among_still names so_far.tags so_far.cells k.cells)
          (inserts_among tags (inserts_for (length (c ∷ text))) site so_far.count names (c ∷ text) (all_there names so_far.tags) (between_other so_far.tags left right h));
      names = all_named names so_far.tags (All-weaker (λ name. is_listed name so_far.tags ≡ true) IsName (λ name e. listed_name name so_far.tags k.names e) names listed) k.names;
    }

last_among : (tags : List Word) (left : Option TaggedCell) (cells : List TaggedCell) → IfSome left (IsTaggedAmong tags) → All (IsTaggedAmong tags) cells → IfSome (on_left left cells) (IsTaggedAmong tags)
last_among tags left [] h k = h
last_among tags left (c ∷ cs) h k = last_among tags (Some c) cs (All-head (IsTaggedAmong tags) c cs k) (All-tail (IsTaggedAmong tags) c cs k)

listed_tags : (site : ℕ) (names : List Word) (text : List ℕ) (so_far : Insertion) (n : Word) → is_listed n so_far.tags ≡ true → is_listed n (with_listed site names text so_far).tags ≡ true
listed_tags site names [] so_far n h = h
listed_tags site names (c ∷ text) so_far n h = all_still n (shared_names names) so_far.tags h

pieces_tags : (site : ℕ) (pieces : List Piece) (so_far : Insertion) (n : Word) → is_listed n so_far.tags ≡ true → is_listed n (with_pieces site pieces so_far).tags ≡ true
pieces_tags site [] so_far n h = h
pieces_tags site (piece ∷ pieces) so_far n h = pieces_tags site pieces (with_listed site piece.tags (chars piece.text) so_far) n (listed_tags site piece.tags (chars piece.text) so_far n h)

unlisted_tags : (site : ℕ) (left right : Option TaggedCell) (text : List ℕ) (so_far : Insertion) (n : Word) → is_listed n so_far.tags ≡ true → is_listed n (with_unlisted site left right text so_far).tags ≡ true
unlisted_tags site left right [] so_far n h = h
unlisted_tags site left right (c ∷ text) so_far n h = all_still n (tags_between left right) so_far.tags h

left_still : (tags more : List Word) (left : Option TaggedCell) → ((n : Word) → is_listed n tags ≡ true → is_listed n more ≡ true) → IfSome left (IsTaggedAmong tags) → IfSome left (IsTaggedAmong more)
left_still tags more None h k = k
left_still tags more (Some cell) h k = record { each = λ name on. h name (k.each name on); by_name = k.by_name; shared = k.shared; there = k.there }

-- an insertion lists the tags of its characters
pub insertion_lists : (site : ℕ) (left right : Option TaggedCell) (pieces : List Piece) (rest : Word) (start : Insertion) → All IsName (names_in pieces) → IfSome left (IsTaggedAmong start.tags) → ListsAll start
    → ListsAll (insertion_of site left right pieces rest start)
insertion_lists site left right pieces rest start h l k =
    let listed = with_pieces site pieces start in
    let lists = pieces_lists site pieces start h k in
    unlisted_lists site (on_left left listed.cells) right (chars rest) listed (last_among listed.tags left listed.cells (left_still start.tags listed.tags left (λ n e. pieces_tags site pieces start n e) l) lists.cells) lists

-- and keeps what was listed
pub insertion_tags : (site : ℕ) (left right : Option TaggedCell) (pieces : List Piece) (rest : Word) (start : Insertion) (n : Word) → is_listed n start.tags ≡ true → is_listed n (insertion_of site left right pieces rest start).tags ≡ true
insertion_tags site left right pieces rest start n h =
    let listed = with_pieces site pieces start in
    unlisted_tags site (on_left left listed.cells) right (chars rest) listed n (pieces_tags site pieces start n h)

-- all of its characters are there
pub text_among : (tags : List Word) (cells : List TaggedCell) → All (IsTaggedAmong tags) cells → length (text_of cells) ≡ length cells
text_among tags [] h = refl
text_among tags (c ∷ cs) h =
    let first = (All-head (IsTaggedAmong tags) c cs h).there in
    ap (λ b. length (map (λ (cell : TaggedCell). cell.ch) (cond (not b) (c ∷ visible_of cs) (visible_of cs)))) first ∙ ap suc (text_among tags cs (All-tail (IsTaggedAmong tags) c cs h))

-- THE DOCUMENT AFTER IT

pub visible_all : {T : Type 0} (P : Cell T → Type 0) (xs ys : List (Cell T)) → All P (visible_of xs) → All P (visible_of ys) → All P (visible_of (xs ++ ys))
visible_all P xs ys h k = subst (All P) (sym (filter-append (λ cell. not cell.gone) xs ys)) (All-append P (visible_of xs) (visible_of ys) h k)

pub listed_put : (tags : List Word) (cells : List TaggedCell) (left : Stamp) (new : List TaggedCell) → AreListed tags cells → All (IsTaggedAmong tags) new → AreListed tags (put_after cells left new)
listed_put tags cells left new h k =
    let at = after_element cells left in
    let P : TaggedCell → Type 0 = λ cell. (name : Word) → is_on name cell.state ≡ true → is_listed name tags ≡ true in
    let Q : TaggedCell → Type 0 = λ cell. IsShared cell.state in
    let parts : visible_of (take at cells) ++ visible_of (drop at cells) ≡ visible_of cells = sym (filter-append (λ cell. not cell.gone) (take at cells) (drop at cells)) ∙ ap visible_of (take-append-drop at cells) in
    let all : All P (visible_of (take at cells) ++ visible_of (drop at cells)) = subst (All P) (sym parts) h.each in
    let added : All P (visible_of new) = All-filter (λ cell. not cell.gone) P new (All-weaker (IsTaggedAmong tags) P (λ cell a. a.each) new k) in
    record {
      each = visible_all P (take at cells ++ new) (drop at cells) (visible_all P (take at cells) new (all_front P (visible_of (take at cells)) (visible_of (drop at cells)) all) added) (all_rest P (visible_of (take at cells)) (visible_of (drop at cells)) all);
      sel = h.sel;
      names = h.names;
      shared = All-append Q (take at cells ++ new) (drop at cells) (All-append Q (take at cells) new (All-take Q at cells h.shared) (All-weaker (IsTaggedAmong tags) Q (λ cell a. a.shared) new k)) (All-drop Q at cells h.shared);
    }

-- the names that are listed are names
pub names_of_all : (names tags : List Word) → All IsName (all_listed names tags) → All IsName names
names_of_all names tags h = All-weaker (λ n. is_listed n (all_listed names tags) ≡ true) IsName (λ n e. listed_name n (all_listed names tags) h e) names (all_there names tags)

-- A LEFT NEIGHBOUR

cell_among : (cells : List TaggedCell) (tags : List Word) (place : ℕ) (o : Option TaggedCell) → AreListed tags cells → All (λ (c : TaggedCell). IsByName c.state) cells → slice_get (visible_of cells) place ≡ o → IfSome o (IsTaggedAmong tags)
cell_among cells tags place None listed sorted e = tt
cell_among cells tags place (Some cell) listed sorted e =
    let seen = visible_of cells in
    let is : get_or seen place cell ≡ cell = get_or_from_slice_get seen place cell cell e in
    let within : place < length seen = slice_get_within seen place cell e in
    let passes : not cell.gone ≡ true = subst (λ (c : TaggedCell). not c.gone ≡ true) is (filter_passes (λ (c : TaggedCell). not c.gone) cells place cell within) in
    record {
      each = subst (λ (c : TaggedCell). (name : Word) → is_on name c.state ≡ true → is_listed name tags ≡ true) is (listed.each place cell within);
      by_name = subst (λ (c : TaggedCell). IsByName c.state) is (All-filter (λ (c : TaggedCell). not c.gone) (λ (c : TaggedCell). IsByName c.state) cells sorted place cell within);
      shared = subst (λ (c : TaggedCell). IsShared c.state) is (All-filter (λ (c : TaggedCell). not c.gone) (λ (c : TaggedCell). IsShared c.state) cells listed.shared place cell within);
      there = not-true cell.gone passes;
    }

pub left_among : (cells : List TaggedCell) (tags : List Word) (place : ℕ) → AreListed tags cells → All (λ (c : TaggedCell). IsByName c.state) cells → IfSome (left_neighbour (visible_of cells) place) (IsTaggedAmong tags)
left_among cells tags zero listed sorted = tt
left_among cells tags (suc place) listed sorted = cell_among cells tags place (slice_get (visible_of cells) place) listed sorted refl
