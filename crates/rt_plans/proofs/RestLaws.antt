-- Text without a list behind pieces.
use Rattle.std.proofs.Common.{◌≡◌, ℕ, zero, suc, ◌+◌, ◌≤◌, ◌&&◌, ◌||◌, Bool, true, false, cond, List, [], ◌∷◌, length, filter, map, not, refl, sym, ◌∙◌, ap, subst, arith, Option, Some, None}
use Rattle.std.specs.Prelude.{All, IfSome, is_some, option_map, slice_get, unwrap_or}
use Rattle.std.specs.Str.{chars}
use Rattle.std.proofs.lemmas.List.Elements.{All-filter}
use Rattle.std.proofs.lemmas.Option.{get_or_from_slice_get, slice_get_within}
use Rattle.rt_stamps.specs.declared.stamp.Stamp.{Stamp}
use Rattle.rt_stamps.specs.declared.stamp.TheConstants.{ROOT}
use Rattle.rt_stamps.specs.Words.{Word, as_words}
use Rattle.rt_tags.specs.States.{IsState, TagStates, is_on, state_at}
use Rattle.rt_store.specs.declared.cell.Cell.{Cell}
use Rattle.rt_store.specs.Cells.{stamps_of, visible_of}
use Rattle.rt_store.specs.Shown.{TaggedCell, shown}
use Rattle.rt_store.specs.Spans.{is_among}
use Rattle.rt_store.specs.Tagged.{AreStates}
use Rattle.rt_store.proofs.Shown.{visible_at_shown}
use Rattle.rt_plans.specs.declared.inserting.Plan.{Plan}
use Rattle.rt_plans.specs.declared.pieces.PlannedPieces.{PlannedPieces}
use Rattle.rt_plans.specs.DocValue.{left_stamp}
use Rattle.rt_plans.specs.InsertionDrafts.{last_element}
use Rattle.rt_plans.specs.InsertionPlans.{Plans, selected_between}
use Rattle.rt_plans.specs.Insertions.{Insertion, Piece, all_listed, are_among, left_neighbour, on_left, selected_if, tagged_cells, tags_between, with_listed, with_pieces, with_unlisted}
use Rattle.rt_plans.specs.PlannedPieces.{ArePlanned, AreSoFar}
use Rattle.rt_plans.specs.Selections.{with_stamps}
use Rattle.rt_plans.proofs.CharacterCounts.{unlisted_length}
use Rattle.rt_plans.proofs.LastNames.{tags_of}
use Rattle.rt_plans.proofs.PieceLaws.{IsMoreText}
use Rattle.rt_plans.proofs.PlanLaws.{all_append}

-- THE LEFT NEIGHBOUR'S TAGS

some_last : (x : TaggedCell) (xs : List TaggedCell) → None ≡ tags_of (on_left (Some x) xs) → ⊥
some_last x [] h = cc h
some_last x (y ∷ ys) h = some_last y ys h

pub between_last : (cells : List TaggedCell) (left : Option TaggedCell) (right : TaggedCell) (names : List Word) → Some names ≡ tags_of (on_left None cells)
    → filter (λ name. is_on name right.state) names ≡ tags_between (on_left left cells) (Some right)
between_last [] left right names h = absurd (cc h)
between_last (c ∷ cs) left right names h = by (on_left (Some c) cs) h
  where
    by : (o : Option TaggedCell) → Some names ≡ tags_of o → filter (λ name. is_on name right.state) names ≡ tags_between o (Some right)
    by None e = absurd (cc e)
    by (Some x) e = ap (λ o. filter (λ name. is_on name right.state) (unwrap_or o [])) e

pub no_last : (cells : List TaggedCell) (left : Option TaggedCell) → None ≡ tags_of (on_left None cells) → left ≡ on_left left cells
no_last [] left h = refl
no_last (c ∷ cs) left h = absurd (some_last c cs h)

-- THE LEFT NEIGHBOUR

none_named : {X : Type 0} (f : X → List Word) (o : Option X) → is_some o ≡ false → None ≡ option_map f o
none_named f None h = refl
none_named f (Some x) h = absurd (cc h)

is_none : {X : Type 0} (f : X → List Word) (o : Option X) → option_map f o ≡ None → is_some o ≡ false
is_none f None h = refl
is_none f (Some x) h = absurd (cc h)

either : (a b : Bool) → (a || b) ≡ false → (a ≡ false) × (b ≡ false)
either true b h = absurd (cc h)
either false b h = (refl, h)

-- some pieces have no text, and there is no left neighbour
no_left : (after : Stamp) (selection : List Stamp) (listed : List Word) (pieces : PlannedPieces) (so_far : Insertion) (table : TagStates) (left : Option (Cell ℕ)) → AreSoFar after selection listed pieces so_far
    → (is_some pieces.last || is_some left) ≡ false → on_left (option_map (shown table) left) so_far.cells ≡ None
no_left after selection listed pieces so_far table left h e =
    let p = either (is_some pieces.last) (is_some left) e in
    sym (no_last so_far.cells (option_map (shown table) left) (none_named (λ names. as_words names.items) pieces.last p.0 ∙ h.last)) ∙ none left p.1
  where
    none : (o : Option (Cell ℕ)) → is_some o ≡ false → option_map (shown table) o ≡ None
    none None k = refl
    none (Some x) k = absurd (cc k)

among_last : (stamps : List Stamp) (x : TaggedCell) (xs : List TaggedCell) (right : TaggedCell) (after : Stamp)
    → are_among stamps (on_left (Some x) xs) (Some right) ≡ (is_among stamps (unwrap_or (option_map (λ cell. cell.stamp) (on_left (Some x) xs)) after) && is_among stamps right.stamp)
among_last stamps x [] right after = refl
among_last stamps x (y ∷ ys) right after = among_last stamps y ys right after

are_both : (after : Stamp) (selection : List Stamp) (listed : List Word) (pieces : PlannedPieces) (so_far : Insertion) (table : TagStates) (left : Option (Cell ℕ)) (right : TaggedCell) (stamps : List Stamp) → AreSoFar after selection listed pieces so_far
    → IfSome left (λ cell. after ≡ cell.stamp) → (is_some pieces.last || is_some left) ≡ true
    → are_among stamps (on_left (option_map (shown table) left) so_far.cells) (Some right) ≡ (is_among stamps pieces.texts.behind && is_among stamps right.stamp)
are_both after selection listed pieces so_far table left right stamps h a e = by so_far.cells h.last ∙ ap (λ s. is_among stamps s && is_among stamps right.stamp) (sym h.element)
  where
    first : (o : Option (Cell ℕ)) → is_some o ≡ true → IfSome o (λ cell. after ≡ cell.stamp)
        → are_among stamps (option_map (shown table) o) (Some right) ≡ (is_among stamps after && is_among stamps right.stamp)
    first None k b = absurd (cc k)
    first (Some x) k b = ap (λ s. is_among stamps s && is_among stamps right.stamp) (sym b)

    by : (cells : List TaggedCell) → option_map (λ names. as_words names.items) pieces.last ≡ tags_of (on_left None cells)
        → are_among stamps (on_left (option_map (shown table) left) cells) (Some right) ≡ (is_among stamps (last_element after cells) && is_among stamps right.stamp)
    by [] k = first left (sym (ap (λ b. b || is_some left) (is_none (λ names. as_words names.items) pieces.last k)) ∙ e) a
    by (c ∷ cs) k = among_last stamps c cs right after

-- BOTH SIDES

abbrev sides : PlannedPieces → Option (Cell ℕ) → Option (Cell ℕ) → Option (Stamp × Stamp)
sides pieces left right = cond {A = Option (Stamp × Stamp)} (is_some pieces.last || is_some left) (option_map (λ cell. (pieces.texts.behind, cell.stamp)) right) None

never_both : (stamps : List Stamp) (left : Option TaggedCell) → are_among stamps left None ≡ false
never_both stamps None = refl
never_both stamps (Some left) = refl

-- one side is missing
pub not_both : (after : Stamp) (selection : List Stamp) (listed : List Word) (pieces : PlannedPieces) (so_far : Insertion) (table : TagStates) (left right : Option (Cell ℕ)) (stamps : List Stamp) → AreSoFar after selection listed pieces so_far
    → sides pieces left right ≡ None → are_among stamps (on_left (option_map (shown table) left) so_far.cells) (option_map (shown table) right) ≡ false
not_both after selection listed pieces so_far table left None stamps h e = never_both stamps (on_left (option_map (shown table) left) so_far.cells)
not_both after selection listed pieces so_far table left (Some x) stamps h e = by (is_some pieces.last || is_some left) refl e
  where
    by : (b : Bool) → (is_some pieces.last || is_some left) ≡ b → cond {A = Option (Stamp × Stamp)} b (Some (pieces.texts.behind, x.stamp)) None ≡ None → are_among stamps (on_left (option_map (shown table) left) so_far.cells) (Some (shown table x)) ≡ false
    by true k f = absurd (cc f)
    by false k f = ap (λ o. are_among stamps o (Some (shown table x))) (no_left after selection listed pieces so_far table left h k)

-- both are there
pub is_side : (after : Stamp) (selection : List Stamp) (listed : List Word) (pieces : PlannedPieces) (so_far : Insertion) (table : TagStates) (left right : Option (Cell ℕ)) (one other : Stamp) (stamps : List Stamp) → AreSoFar after selection listed pieces so_far
    → IfSome left (λ cell. after ≡ cell.stamp) → sides pieces left right ≡ Some (one, other)
    → are_among stamps (on_left (option_map (shown table) left) so_far.cells) (option_map (shown table) right) ≡ (is_among stamps one && is_among stamps other)
is_side after selection listed pieces so_far table left None one other stamps h a e = by (is_some pieces.last || is_some left) e
  where
    by : (b : Bool) → cond {A = Option (Stamp × Stamp)} b None None ≡ Some (one, other) → are_among stamps (on_left (option_map (shown table) left) so_far.cells) None ≡ (is_among stamps one && is_among stamps other)
    by true f = absurd (cc f)
    by false f = absurd (cc f)
is_side after selection listed pieces so_far table left (Some x) one other stamps h a e = by (is_some pieces.last || is_some left) refl e
  where
    by : (b : Bool) → (is_some pieces.last || is_some left) ≡ b → cond {A = Option (Stamp × Stamp)} b (Some (pieces.texts.behind, x.stamp)) None ≡ Some (one, other)
        → are_among stamps (on_left (option_map (shown table) left) so_far.cells) (Some (shown table x)) ≡ (is_among stamps one && is_among stamps other)
    by false k f = absurd (cc f)
    by true k f =
        let here : Stamp × Stamp = (pieces.texts.behind, x.stamp) in
        let same : here ≡ (one, other) = cc f in
        are_both after selection listed pieces so_far table left (shown table x) stamps h a k ∙ (λ i. is_among stamps (same i).0 && is_among stamps (same i).1)

-- so there is a right one
pub right_side : (pieces : PlannedPieces) (left right : Option (Cell ℕ)) (both : Stamp × Stamp) → sides pieces left right ≡ Some both → right ≡ None → ⊥
right_side pieces left None both e n = by (is_some pieces.last || is_some left) e
  where
    by : (b : Bool) → cond {A = Option (Stamp × Stamp)} b None None ≡ Some both → ⊥
    by true f = cc f
    by false f = cc f
right_side pieces left (Some x) both e n = cc n

-- THE PLAN

none_between : (others : List (List Stamp)) → map (selected_between None) others ≡ others
none_between [] = refl
none_between (s ∷ others) = ap (λ l. s ∷ l) (none_between others)

pub plans_nothing : (plan : Plan) (after : Stamp) (selection : List Stamp) (listed : List Word) (pieces : PlannedPieces) (site : ℕ) (left right : Option TaggedCell) (text : List ℕ) (so_far : Insertion) → text ≡ []
    → AreSoFar after selection listed pieces so_far → ArePlanned plan pieces None
    → Plans plan selection so_far.others listed (with_unlisted site left right text so_far)
plans_nothing plan after selection listed pieces site left right text so_far e h p =
    subst (λ t. Plans plan selection so_far.others listed (with_unlisted site left right t so_far)) (sym e) (record {
      characters = p.characters ∙ h.characters;
      sel = (λ i. with_stamps (p.selected i).items selection) ∙ h.sel;
      others = ap (λ o. map (selected_between o) so_far.others) p.others ∙ none_between so_far.others;
      tags = (λ i. all_listed (as_words (p.names i).items) listed) ∙ h.tags;
    })

pub plans_rest : (plan : Plan) (after : Stamp) (selection : List Stamp) (listed : List Word) (old new : PlannedPieces) (site : ℕ) (left right : Option TaggedCell) (text : List ℕ) (so_far : Insertion) → 1 ≤ length text
    → AreSoFar after selection listed old so_far → IsMoreText site (tags_between left right) text old new
    → plan.characters ≡ new.characters
    → with_stamps plan.selected.items selection ≡ selected_if (are_among (with_stamps old.selected.items selection) left right) (stamps_of (tagged_cells site old.texts.count (tags_between left right) text)) (with_stamps old.selected.items selection)
    → plan.names ≡ new.names
    → ((other : List Stamp) → selected_between plan.between other ≡ selected_if (are_among other left right) (stamps_of (tagged_cells site old.texts.count (tags_between left right) text)) other)
    → Plans plan selection so_far.others listed (with_unlisted site left right text so_far)
plans_rest plan after selection listed old new site left right [] so_far some h m c s n b = absurd (omega arith)
plans_rest plan after selection listed old new site left right (x ∷ text) so_far some h m c s n b =
    let names = tags_between left right in
    let more : ℕ → List TaggedCell = λ count. tagged_cells site count names (x ∷ text) in
    record {
      characters = c ∙ m.characters ∙ ap (λ n. n + length (x ∷ text)) h.characters ∙ sym (unlisted_length site left right (x ∷ text) so_far);
      sel = s ∙ (λ i. selected_if (are_among (h.sel i) left right) (stamps_of (more (h.count i))) (h.sel i));
      others = λ i. map (λ other. (b other ∙ (λ j. selected_if (are_among other left right) (stamps_of (more (h.count j))) other)) i) so_far.others;
      tags = (λ i. all_listed (as_words (n i).items) listed) ∙ ap (λ l. all_listed l listed) m.tags ∙ all_append (as_words old.names.items) names listed ∙ ap (all_listed names) h.tags;
    }

-- NEIGHBOURS IN A STORE

-- the state of a character was given out
pub visible_given : (table : TagStates) (cells : List (Cell ℕ)) (place : ℕ) (cell : Cell ℕ) → AreStates table cells → slice_get (visible_of cells) place ≡ Some cell → IsState table cell.state
visible_given table cells place cell h e =
    let p : Cell ℕ → Type 0 = λ c. IsState table c.state in
    let all : All p (visible_of cells) = All-filter (λ c. not c.gone) p cells h in
    subst p (get_or_from_slice_get (visible_of cells) place cell cell e) (all place cell (slice_get_within (visible_of cells) place cell e))

given_by : (table : TagStates) (cells : List (Cell ℕ)) (place : ℕ) (o : Option (Cell ℕ)) → AreStates table cells → slice_get (visible_of cells) place ≡ o → IfSome o (λ cell. IsState table cell.state)
given_by table cells place None h e = tt
given_by table cells place (Some cell) h e = visible_given table cells place cell h e

pub left_given : (table : TagStates) (cells : List (Cell ℕ)) (place : ℕ) → AreStates table cells → IfSome (left_neighbour (visible_of cells) place) (λ cell. IsState table cell.state)
left_given table cells zero h = tt
left_given table cells (suc place) h = given_by table cells place (slice_get (visible_of cells) place) h refl

pub left_shown : (table : TagStates) (cells : List (Cell ℕ)) (place : ℕ) → option_map (shown table) (left_neighbour (visible_of cells) place) ≡ left_neighbour (visible_of (map (shown table) cells)) place
left_shown table cells zero = refl
left_shown table cells (suc place) = sym (visible_at_shown (state_at table) cells place)

same_stamp : (table : TagStates) (o : Option (Cell ℕ)) → option_map (λ cell. cell.stamp) o ≡ option_map (λ cell. cell.stamp) (option_map (shown table) o)
same_stamp table None = refl
same_stamp table (Some x) = refl

pub element_shown : (table : TagStates) (cells : List (Cell ℕ)) (place : ℕ) → unwrap_or (option_map (λ cell. cell.stamp) (left_neighbour (visible_of cells) place)) ROOT ≡ left_stamp (map (shown table) cells) place
element_shown table cells zero = refl
element_shown table cells (suc place) =
    ap (λ o. unwrap_or o ROOT) (same_stamp table (slice_get (visible_of cells) place) ∙ ap (option_map (λ (cell : TaggedCell). cell.stamp)) (sym (visible_at_shown (state_at table) cells place)))

-- OTHERS

pub listed_others : (site : ℕ) (names : List Word) (text : List ℕ) (so_far : Insertion) → (with_listed site names text so_far).others ≡ so_far.others
listed_others site names [] so_far = refl
listed_others site names (c ∷ text) so_far = refl

pub pieces_others : (site : ℕ) (pieces : List Piece) (so_far : Insertion) → (with_pieces site pieces so_far).others ≡ so_far.others
pieces_others site [] so_far = refl
pieces_others site (piece ∷ pieces) so_far = pieces_others site pieces (with_listed site piece.tags (chars piece.text) so_far) ∙ listed_others site piece.tags (chars piece.text) so_far
