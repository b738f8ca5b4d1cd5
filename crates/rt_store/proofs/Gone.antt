-- Cells made gone by spans.
use Rattle.std.proofs.Common.{◌≡◌, ℕ, ◌+◌, ◌<◌, List, [], ◌∷◌, Bool, true, false, cond, ◌||◌, length, map, drop, get_or, refl, sym, ◌∙◌, ap}
use Rattle.std.proofs.lemmas.List.{drop_more, length-map}
use Rattle.std.proofs.lemmas.List.Elements.{All-map}
use Rattle.rt_stamps.specs.declared.stamp.Span.{Span}
use Rattle.rt_store.specs.declared.cell.Cell.{Cell}
use Rattle.rt_store.specs.Cells.{gone_in, is_in_span, stamps_of}
use Rattle.rt_store.specs.Spans.{gone_in_any, is_in_spans}
use Rattle.rt_store.specs.Tagged.{AreStates}
use Rattle.rt_tags.specs.States.{IsState, TagStates}

-- one span after another
one_more : {T : Type 0} (b d : Bool) (c : Cell T) → cond d (record (cond b (record c { gone = true }) c) { gone = true }) (cond b (record c { gone = true }) c) ≡ cond (b || d) (record c { gone = true }) c
one_more true true c = refl
one_more true false c = refl
one_more false true c = refl
one_more false false c = refl

same_stamp : {T : Type 0} (b : Bool) (c : Cell T) → (cond b (record c { gone = true }) c).stamp ≡ c.stamp
same_stamp true c = refl
same_stamp false c = refl

gone_more_cell : {T : Type 0} (span : Span) (spans : List Span) (c : Cell T) → gone_in_any spans (gone_in span c) ≡ gone_in_any (span ∷ spans) c
gone_more_cell span spans c =
    let b = is_in_span span c.stamp in
    ap (λ s. cond (is_in_spans spans s) (record (gone_in span c) { gone = true }) (gone_in span c)) (same_stamp b c) ∙ one_more b (is_in_spans spans c.stamp) c

pub gone_more : {T : Type 0} (span : Span) (spans : List Span) (cells : List (Cell T)) → map (gone_in_any spans) (map (gone_in span) cells) ≡ map (gone_in_any (span ∷ spans)) cells
gone_more span spans [] = refl
gone_more span spans (c ∷ cs) = λ i. gone_more_cell span spans c i ∷ gone_more span spans cs i

pub gone_more_at : {T : Type 0} (cells : List (Cell T)) (spans : List Span) (i : ℕ) (d : Span) → i < length spans
    → map (gone_in_any (drop (i + 1) spans)) (map (gone_in (get_or spans i d)) cells) ≡ map (gone_in_any (drop i spans)) cells
gone_more_at cells spans i d h = gone_more (get_or spans i d) (drop (i + 1) spans) cells ∙ ap (λ l. map (gone_in_any l) cells) (sym (drop_more spans i d h))

pub gone_none : {T : Type 0} (cells : List (Cell T)) → map (gone_in_any []) cells ≡ cells
gone_none [] = refl
gone_none (c ∷ cs) = ap (λ l. c ∷ l) (gone_none cs)

-- the stamps stay
pub stamps_stay : {T : Type 0} (spans : List Span) (cells : List (Cell T)) → stamps_of (map (gone_in_any spans) cells) ≡ stamps_of cells
stamps_stay spans [] = refl
stamps_stay spans (c ∷ cs) = λ i. same_stamp (is_in_spans spans c.stamp) c i ∷ stamps_stay spans cs i

-- made gone by spans, cells are as many, as known and as different
pub length_stays : {T : Type 0} (spans : List Span) (cells : List (Cell T)) → length (map (gone_in_any spans) cells) ≡ length cells
length_stays spans cells = length-map cells (gone_in_any spans)

kept_state : (b : Bool) (cell : Cell ℕ) → (cond b (record cell { gone = true }) cell).state ≡ cell.state
kept_state true cell = refl
kept_state false cell = refl

-- and their states are those that a table gave out
pub all_gone_states : (table : TagStates) (spans : List Span) (cells : List (Cell ℕ)) → AreStates table cells → AreStates table (map (gone_in_any spans) cells)
all_gone_states table spans cells h =
    All-map (λ (cell : Cell ℕ). IsState table cell.state) (gone_in_any spans) cells (λ k d j. rw (kept_state (is_in_spans spans (get_or cells k d).stamp) (get_or cells k d)) (h k d j))
