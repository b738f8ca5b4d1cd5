-- The widgets of a site stay as many as they are, whatever is asked of one of them.
use Rattle.std.proofs.Common.{◌≡◌, ◌∙◌, ℕ, suc, Bool, true, false, cond, List, [], ◌∷◌, Option, None, Some, Ok, Err, Result, ap, inl, inr, length, map, min, refl, subst, sym, ◌-◌}
use Rattle.std.specs.Prelude.{flat_map}
use Rattle.std.specs.Fmt.{signed_decimal}
use Rattle.std.specs.Option.{option_map_or}
use Rattle.std.specs.Str.{bytes_eq}
use Rattle.std.proofs.lemmas.List.{length-map}
use Rattle.rt_stamps.specs.declared.fault.Fault.{Fault}
use Rattle.rt_stamps.specs.declared.fault.Fault.TheVariants.{NothingToRedo, NothingToUndo}
use Rattle.rt_stamps.specs.declared.stamp.Stamp.{Stamp}
use Rattle.rt_stamps.specs.Outcomes.{Answers, unless}
use Rattle.rt_stamps.specs.Places.{text_of_position}
use Rattle.rt_stamps.specs.Words.{Word}
use Rattle.rt_marks.specs.declared.gravity.Gravity.{Gravity}
use Rattle.rt_marks.specs.Marks.{without_all}
use Rattle.rt_ops.specs.Operations.{Operation}
use Rattle.rt_requests.specs.declared.request.EditRequest.{EditRequest}
use Rattle.rt_requests.specs.declared.request.EditRequest.TheVariants as edits
use Rattle.rt_requests.specs.declared.request.MarkRequest.{MarkRequest}
use Rattle.rt_requests.specs.declared.request.MarkRequest.TheVariants as marks
use Rattle.rt_requests.specs.declared.request.Request.{Request}
use Rattle.rt_requests.specs.declared.request.Request.TheVariants.{Insert, Delete, Get, Index, Compare, Count, Search, Replace, Dump, Mark, Tag, Edit, Configure, Cget, Peer}
use Rattle.rt_requests.specs.declared.request.TagRequest.{TagRequest}
use Rattle.rt_requests.specs.declared.request.TagRequest.TheVariants as tags
use Rattle.rt_requests.specs.Parts.{all_of}
use Rattle.rt_tags.specs.Tags.{lowered, raised, sel}
use Rattle.rt_tagcmd.specs.Dumping.{dumped}
use Rattle.rt_plans.specs.declared.range.Range.{Range}
use Rattle.rt_plans.specs.DocValue.{DocValue}
use Rattle.rt_plans.specs.Insertions.{Piece}
use Rattle.rt_tagcmd.specs.SearchCommand.{searched}
use Rattle.rt_store.specs.Shown.{TaggedCell}
use Rattle.rt_tagcmd.specs.MarkCommands.{set_at, with_gravity}
use Rattle.rt_tagcmd.specs.TagCommands.{tag_written}
use Rattle.rt_text.specs.declared.own_mark.OwnMark.{OwnMark}
use Rattle.rt_text.specs.Commands.{compared, counted, view_deleted, got, got_list, got_one, view_inserted, insertion_place, position_of_index, view_replaced, with_pieces_at, with_range_replaced, with_tag_in, with_tags_deleted, without_ranges}
use Rattle.rt_text.specs.Index.{place_at_index}
use Rattle.rt_text.specs.Limited.{view_limited}
use Rattle.rt_text.specs.Ranges.{ranges_of}
use Rattle.rt_text.specs.Widgets.{WidgetValue, ViewValue, length_shown, own_mark_of, widget_of, with_marks, with_selections, with_tags}
use Rattle.rt_undo.specs.declared.action.Kind.{Kind}
use Rattle.rt_undo.specs.declared.action.Kind.TheVariants as kinds
use Rattle.rt_undo.specs.Actions.{Action}
use Rattle.rt_undo.specs.Undo.{UndoHistory, next_redo, next_undo, redo_done, undo_done}
use Rattle.rt_recording.specs.Reversals.{group_redone, reverted_by, group_undone}
use Rattle.rt_recording.specs.EditedValue.{EditedValue}
use Rattle.rt_recording.specs.Edits.{lost_between, lost_from, recorded_edit, text_deleted, text_inserted, text_replaced, text_with_new}
use Rattle.rt_recording.specs.Reverts.{text_redone, text_undone, with_history}
use Rattle.rt_recording.proofs.Outcomes.{given}
use Rattle.rt_holding.specs.declared.held.Offered.{Offered}
use Rattle.rt_holding.specs.declared.held.Offered.TheVariants as offerings
use Rattle.rt_holding.specs.declared.receiving.Received.{Received}
use Rattle.rt_holding.specs.Receiving.{Behind, Offers, Receives, State as Holder}
use Rattle.rt_holding.specs.Holding.{Holding, with_taken}
use Rattle.rt_holding.specs.Taken.{AreTried, IsOffered, all_after, site_holding}
use Rattle.rt_peers.specs.SiteStep.{text_limit, text_log}
use Rattle.rt_peers.specs.Options.{choice_of, text_set}
use Rattle.rt_peers.proofs.OptionLaws.{configured_is, limited_leaves}
use Rattle.rt_peers.proofs.Gaining.{Gains, IsOfSame, deleted_gain, gains_none, gains_then, group_gains, pieces_gain, ranges_gain, write_gains}
use Rattle.rt_peers.specs.Step.{edit_step, on_view, step}
use Rattle.rt_peers.specs.ViewStep.{Outcome, as_piece, changed_step, element_words, get_step, mark_step, one_word, tag_step, text_of_bool, told_step}

-- as many other widgets
abbrev pub Stay : ViewValue → ViewValue → Type 0
Stay old new = length new.others ≡ length old.others

-- WHAT AN ANSWER LEAVES

abbrev left_by : {S : Type 0} → Outcome S → S → S
left_by (Ok answer) none = answer.1
left_by (Err fault) none = none

abbrev words_by : {S : Type 0} → Outcome S → List Word
words_by (Ok answer) = answer.0
words_by (Err fault) = []

abbrev value_of : {S : Type 0} → Result S Fault → S → S
value_of (Ok value) none = value
value_of (Err fault) none = none

pub changed_is : {S : Type 0} (said : Result S Fault) (words : List Word) (new : S) → changed_step said ≡ Ok (words, new) → said ≡ Ok new
changed_is {S} (Ok value) words new h = ap (λ (o : Outcome S). Ok (left_by o value)) h
changed_is (Err fault) words new h = absurd (cc h)

pub told_is : {T S : Type 0} (f : T → List Word) (old : S) (said : Result T Fault) (words : List Word) (new : S) → told_step f old said ≡ Ok (words, new) → old ≡ new
told_is {S = S} f old (Ok value) words new h = ap (λ (o : Outcome S). left_by o old) h
told_is f old (Err fault) words new h = absurd (cc h)

pub same_is : {S : Type 0} (told words : List Word) (old new : S) → ◌≡◌ {A = Outcome S} (Ok (told, old)) (Ok (words, new)) → old ≡ new
same_is {S} told words old new h = ap (λ (o : Outcome S). left_by o old) h

-- WHAT A COMMAND CHANGES: not how many widgets there are; and of operations, the log has those more that the site makes of drafts

pub record Steps (old new : ViewValue) : Type 0 where
  pub number : Stay old new
  pub gains : Gains old.doc new.doc

same : (old new : ViewValue) → old ≡ new → Steps old new
same old new e = subst (Steps old) e (record { number = refl; gains = gains_none old.doc })

-- what is changed is no operation
apart : (old new : ViewValue) → Stay old new → new.doc.log ≡ old.doc.log → IsOfSame old.doc new.doc → Steps old new
apart old new number log same = record { number = number; gains = record { drafts = []; log = log; same = same } }

checked : (check : Option Fault) (old value new : ViewValue) → unless check value ≡ Ok new → Steps old value → Steps old new
checked check old value new h steps = subst (Steps old) (given check value new h) steps

-- EDITS

as_many : (selections : List (List Stamp)) (widgets : List WidgetValue) → length (with_selections selections widgets) ≡ length widgets
as_many selections [] = refl
as_many [] (own ∷ widgets) = refl
as_many (selection ∷ selections) (own ∷ widgets) = ap suc (as_many selections widgets)

pieces_stay : (view : ViewValue) (place : ℕ) (pieces : List Piece) (rest : Word) → Steps view (with_pieces_at view place pieces rest)
pieces_stay view place pieces rest = record { number = as_many _ _ ∙ length-map view.others _; gains = pieces_gain view place pieces rest }

ranges_stay : (view : ViewValue) (ranges : List Range) → Steps view (without_ranges view ranges)
ranges_stay view ranges = record { number = length-map view.others _; gains = ranges_gain view ranges }

-- one change after another
both : (old mid new : ViewValue) → Steps old mid → Steps mid new → Steps old new
both old mid new p q = record { number = q.number ∙ p.number; gains = gains_then old.doc mid.doc new.doc p.gains q.gains }

inserted_stays : (view new : ViewValue) (index : Word) (pieces : List Piece) (rest : Word) → view_inserted view index pieces rest ≡ Ok new → Steps view new
inserted_stays view new index pieces rest h =
    let place = insertion_place (widget_of view) index in checked _ view (with_pieces_at view place pieces rest) new h (pieces_stay view place pieces rest)

deleted_stays : (view new : ViewValue) (indices : List Word) → view_deleted view indices ≡ Ok new → Steps view new
deleted_stays view new indices h =
    let ranges = ranges_of (map (place_at_index (widget_of view)) indices) in checked _ view (without_ranges view ranges) new h (ranges_stay view ranges)

replaced_stays : (view new : ViewValue) (from to : Word) (pieces : List Piece) (rest : Word) → view_replaced view from to pieces rest ≡ Ok new → Steps view new
replaced_stays view new from to pieces rest h =
    let range : Range = record { from = place_at_index (widget_of view) from; to = place_at_index (widget_of view) to } in
    let left = without_ranges view (range ∷ []) in
    checked _ view (with_range_replaced view range pieces rest) new h
    (both view left (with_range_replaced view range pieces rest) (ranges_stay view (range ∷ [])) (pieces_stay left (min range.from (length_shown left - 1)) pieces rest))

recorded_is : (kind : Kind) (lost : List TaggedCell) (text new : EditedValue) (said : Result ViewValue Fault) → recorded_edit kind lost text said ≡ Ok new → said ≡ Ok new.view
recorded_is kind lost text new (Ok view) h = ap (λ (o : Result EditedValue Fault). Ok (value_of o text).view) h
recorded_is kind lost text new (Err fault) h = absurd (cc h)

-- UNDO AND REDO

reverted_is : (text new : EditedValue) (said : Result (ViewValue × UndoHistory (List Word)) Fault) → with_history text said ≡ Ok new → (history : UndoHistory (List Word)) × (said ≡ Ok (new.view, history))
reverted_is text new (Ok left) h = (left.1, ap (λ (o : Result EditedValue Fault). Ok ((value_of o text).view, left.1)) h)
reverted_is text new (Err fault) h = absurd (cc h)

group_stays : (done : List (Action (List Word)) → UndoHistory (List Word) → UndoHistory (List Word)) (view new : ViewValue) (old history : UndoHistory (List Word)) (group : List (Action (List Word)))
    → reverted_by done view old group ≡ Ok (new, history) → Steps view new
group_stays done view new old history group h =
    let e = given _ _ _ h in
    subst (Steps view) (λ i. (e i).0) (record { number = length-map view.others _; gains = group_gains view group })

last_stays : (done : List (Action (List Word)) → UndoHistory (List Word) → UndoHistory (List Word)) (none : Fault) (view new : ViewValue) (old history : UndoHistory (List Word))
    (group : Option (List (Action (List Word)))) → option_map_or (reverted_by done view old) group (Err none) ≡ Ok (new, history) → Steps view new
last_stays done none view new old history None h = absurd (cc h)
last_stays done none view new old history (Some group) h = group_stays done view new old history group h

undone_by : (undo : Bool) (text new : EditedValue) (said : Result EditedValue Fault) → cond undo said (Ok text) ≡ Ok new → (said ≡ Ok new → Steps text.view new.view) → Steps text.view new.view
undone_by true text new said h steps = steps h
undone_by false text new said h steps = same text.view new.view (ap (λ (o : Result EditedValue Fault). (value_of o text).view) h)

undone_stays : (text new : EditedValue) → text_undone text ≡ Ok new → Steps text.view new.view
undone_stays text new h =
    undone_by text.undo text new (with_history text (group_undone text.view text.history)) h
    (λ e. let said = reverted_is text new (group_undone text.view text.history) e in last_stays undo_done NothingToUndo text.view new.view text.history said.0 (next_undo text.history) said.1)

redone_stays : (text new : EditedValue) → text_redone text ≡ Ok new → Steps text.view new.view
redone_stays text new h =
    undone_by text.undo text new (with_history text (group_redone text.view text.history)) h
    (λ e. let said = reverted_is text new (group_redone text.view text.history) e in last_stays redo_done NothingToRedo text.view new.view text.history said.0 (next_redo text.history) said.1)

-- MARKS AND TAGS

set_stays : (which : Option OwnMark) (view : ViewValue) (name : Word) (place : ℕ) → Steps view (set_at which view name place)
set_stays (Some which) view name place = apart view (set_at (Some which) view name place) refl refl (record { site = refl; limit = refl })
set_stays None view name place = apart view (set_at None view name place) refl refl (record { site = refl; limit = refl })

gravity_stays : (which : Option OwnMark) (view : ViewValue) (name : Word) (gravity : Gravity) → Steps view (with_gravity which view name gravity)
gravity_stays (Some which) view name gravity = apart view (with_gravity (Some which) view name gravity) refl refl (record { site = refl; limit = refl })
gravity_stays None view name gravity = apart view (with_gravity None view name gravity) refl refl (record { site = refl; limit = refl })

pub mark_stays : (view new : ViewValue) (request : MarkRequest) (words : List Word) → mark_step view request ≡ Ok (words, new) → Steps view new
mark_stays view new (marks.Set name index) words h =
    let place = place_at_index (widget_of view) index in checked _ view (set_at (own_mark_of name) view name place) new (changed_is _ words new h) (set_stays (own_mark_of name) view name place)
mark_stays view new (marks.Unset names) words h = let value = with_marks view (without_all (all_of names) view.doc.marks) in checked _ view value new (changed_is _ words new h) (apart view value refl refl (record { site = refl; limit = refl }))
mark_stays view new (marks.Gravity name) words h = same view new (told_is _ view _ words new h)
mark_stays view new (marks.SetGravity name gravity) words h =
    checked _ view (with_gravity (own_mark_of name) view name gravity) new (changed_is _ words new h) (gravity_stays (own_mark_of name) view name gravity)
mark_stays view new marks.Names words h = same view new (same_is _ words view new h)
mark_stays view new (marks.Next word) words h = same view new (told_is _ view _ words new h)
mark_stays view new (marks.Previous word) words h = same view new (told_is _ view _ words new h)

one_of_two : (own : Bool) (old one other : ViewValue) → Stay old one → Stay old other → Stay old (cond own one other)
one_of_two true old one other first second = first
one_of_two false old one other first second = second

write_stays : (view : ViewValue) (on : Bool) (name : Word) (ranges : List Range) → Steps view (with_tag_in view on name ranges)
write_stays view on name ranges = record { number = one_of_two (bytes_eq name sel) view _ _ refl refl; gains = write_gains view on name ranges }

written_stays : (on : Bool) (view new : ViewValue) (name : Word) (indices : List Word) (words : List Word) → changed_step (tag_written on view name indices) ≡ Ok (words, new) → Steps view new
written_stays on view new name indices words h =
    let ranges = ranges_of (map (place_at_index (widget_of view)) indices) in
    checked _ view (with_tag_in view on name ranges) new (changed_is _ words new h) (write_stays view on name ranges)

pub tag_stays : (view new : ViewValue) (request : TagRequest) (words : List Word) → tag_step view request ≡ Ok (words, new) → Steps view new
tag_stays view new (tags.Add name indices) words h = written_stays true view new name (all_of indices) words h
tag_stays view new (tags.Remove name indices) words h = written_stays false view new name (all_of indices) words h
tag_stays view new (tags.Delete names) words h = checked _ view (with_tags_deleted view (all_of names)) new (changed_is _ words new h) (record { number = refl; gains = deleted_gain view (all_of names) })
tag_stays view new (tags.Raise name above) words h = let value = with_tags view (raised name above view.doc.tags) in checked _ view value new (changed_is _ words new h) (apart view value refl refl (record { site = refl; limit = refl }))
tag_stays view new (tags.Lower name below) words h = let value = with_tags view (lowered name below view.doc.tags) in checked _ view value new (changed_is _ words new h) (apart view value refl refl (record { site = refl; limit = refl }))
tag_stays view new tags.Names words h = same view new (same_is _ words view new h)
tag_stays view new (tags.NamesAt index) words h = same view new (told_is _ view _ words new h)
tag_stays view new (tags.Ranges name) words h = same view new (told_is _ view _ words new h)
tag_stays view new (tags.NextRange name from to) words h = same view new (told_is _ view _ words new h)
tag_stays view new (tags.PreviousRange name to from) words h = same view new (told_is _ view _ words new h)

get_stays : (view new : ViewValue) (indices : List Word) (words : List Word) → get_step view indices ≡ Ok (words, new) → Steps view new
get_stays view new [] words h = same view new (told_is (λ (texts : List Word). texts) view (got_list view []) words new h)
get_stays view new (index ∷ []) words h = same view new (told_is one_word view (got_one view index) words new h)
get_stays view new (from ∷ to ∷ []) words h = same view new (told_is one_word view (got view from to) words new h)
get_stays view new (from ∷ to ∷ more ∷ indices) words h = same view new (told_is (λ (texts : List Word). texts) view (got_list view (from ∷ to ∷ more ∷ indices)) words new h)

-- REQUESTS

shown_is : (text new : EditedValue) (outcome : Outcome ViewValue) (words : List Word) → on_view text outcome ≡ Ok (words, new) → outcome ≡ Ok (words, new.view)
shown_is text new (Ok answer) words h = ap (λ (o : Outcome EditedValue). Ok (words_by o, (left_by o text).view)) h
shown_is text new (Err fault) words h = absurd (cc h)

told_stays : {T : Type 0} (f : T → List Word) (text new : EditedValue) (said : Result T Fault) (words : List Word) → on_view text (told_step f text.view said) ≡ Ok (words, new) → Steps text.view new.view
told_stays f text new said words h = same text.view new.view (told_is f text.view said words new.view (shown_is text new (told_step f text.view said) words h))

edit_stays : (text new : EditedValue) (request : EditRequest) (words : List Word) → edit_step text request ≡ Ok (words, new) → Steps text.view new.view
edit_stays text new edits.Undo words h = undone_stays text new (changed_is (text_undone text) words new h)
edit_stays text new edits.Redo words h = redone_stays text new (changed_is (text_redone text) words new h)
edit_stays text new edits.Separator words h = same text.view new.view (ap (λ (o : Outcome EditedValue). (left_by o text).view) h)
edit_stays text new edits.Reset words h = same text.view new.view (ap (λ (o : Outcome EditedValue). (left_by o text).view) h)
edit_stays text new edits.CanUndo words h = same text.view new.view (ap (λ (o : Outcome EditedValue). (left_by o text).view) h)
edit_stays text new edits.CanRedo words h = same text.view new.view (ap (λ (o : Outcome EditedValue). (left_by o text).view) h)
edit_stays text new edits.Modified words h = same text.view new.view (ap (λ (o : Outcome EditedValue). (left_by o text).view) h)
edit_stays text new (edits.SetModified on) words h = same text.view new.view (ap (λ (o : Outcome EditedValue). (left_by o text).view) h)

step_stays : (text new : EditedValue) (request : Request) (words : List Word) → step text request ≡ Ok (words, new) → Steps text.view new.view
step_stays text new (Insert index texts) words h =
    let pieces : List Piece = map as_piece texts.pieces in
    inserted_stays text.view new.view index pieces texts.rest
    (recorded_is kinds.Insert [] text new (view_inserted text.view index pieces texts.rest) (changed_is (text_inserted text index pieces texts.rest) words new h))
step_stays text new (Delete indices) words h =
    deleted_stays text.view new.view (all_of indices)
    (recorded_is kinds.Delete (lost_between text.view (all_of indices)) text new (view_deleted text.view (all_of indices)) (changed_is (text_deleted text (all_of indices)) words new h))
step_stays text new (Replace from to texts) words h =
    let pieces : List Piece = map as_piece texts.pieces in
    replaced_stays text.view new.view from to pieces texts.rest
    (recorded_is kinds.Replace (lost_from text.view from to) text new (view_replaced text.view from to pieces texts.rest) (changed_is (text_replaced text from to pieces texts.rest) words new h))
step_stays text new (Get indices) words h = get_stays text.view new.view (all_of indices) words (shown_is text new (get_step text.view (all_of indices)) words h)
step_stays text new (Index index) words h = told_stays (λ position. one_word (text_of_position position)) text new (position_of_index text.view index) words h
step_stays text new (Compare first comparison second) words h = told_stays (λ holds. one_word (text_of_bool holds)) text new (compared text.view first comparison second) words h
step_stays text new (Count measures from to) words h = told_stays (map signed_decimal) text new (counted text.view measures from to) words h
step_stays text new (Search request) words h = told_stays (map text_of_position) text new (searched text.view request) words h
step_stays text new (Dump shown from to) words h = told_stays (flat_map element_words) text new (dumped text.view shown from to) words h
step_stays text new (Mark request) words h = mark_stays text.view new.view request words (shown_is text new (mark_step text.view request) words h)
step_stays text new (Tag request) words h = tag_stays text.view new.view request words (shown_is text new (tag_step text.view request) words h)
step_stays text new (Edit request) words h = edit_stays text new request words h
step_stays text new (Configure settings) words h =
    let start = choice_of settings.start_line in
    let end = choice_of settings.end_line in
    let said : view_limited text.view start end ≡ Ok new.view = configured_is text new settings.shared (view_limited text.view start end) (changed_is (text_set text settings) words new h) in
    let leaves = limited_leaves text.view new.view start end said in
    record { number = sym (ap length leaves.1); gains = subst (λ (doc : DocValue). Gains text.view.doc doc) leaves.0 (gains_none text.view.doc) }
step_stays text new (Cget option) words h = same text.view new.view (ap (λ (o : Outcome EditedValue). (left_by o text).view) h)
step_stays text new (Peer request) words h = absurd (cc h)

pub answer_stays : (old : EditedValue) (request : Request) (result : Result (List Word) Fault) (new : EditedValue) → Answers (step old request) old result new → Steps old.view new.view
answer_stays old request (Ok words) new h = step_stays old new request words h
answer_stays old request (Err fault) new h = same old.view new.view (λ i. (sym h.0 i).view)

-- OPERATIONS OF OTHER SITES

-- What each operation that is taken keeps, is kept by all that are.
module _ (P : EditedValue → Type 0) (keeps : (op : Operation) (text : EditedValue) → P text → P (text_with_new op text)) where
  all_keep : (ops : List Operation) (text : EditedValue) → P text → P (all_after text_with_new ops text)
  all_keep [] text h = h
  all_keep (op ∷ ops) text h = all_keep ops (text_with_new op text) (keeps op text h)

  pub tried_keep : (limit : ℕ) (state : Holding) (old new : EditedValue) (left : List Operation) (count : ℕ)
      → AreTried text_log text_with_new limit state old new left count → P old → P new
  tried_keep limit state old new left count h p = subst P (sym h.each) (all_keep h.more old p)

  offered_keeps : (limit : ℕ) (op : Operation) (offered : Offered) (old : EditedValue) (held : List Operation) (new : EditedValue) (left : List Operation)
      → IsOffered text_log text_with_new limit op offered old held new left → P old → P new
  offered_keeps limit op (offerings.New more) old held new left h p =
      tried_keep limit (with_taken op (site_holding text_log old held)) (text_with_new op old) new left more h (keeps op old p)
  offered_keeps limit op offerings.Repeat old held new left h p = subst P (sym h.0) p
  offered_keeps limit op offerings.Held old held new left h p = subst P (sym h.0) p

  offers_keep : (ops : List Operation) (offsets : List ℕ) (behind : Behind) (old : Holder EditedValue) (received : Received) (new : Holder EditedValue)
      → Offers text_log text_limit text_with_new ops offsets behind old received new → P old.site → P new.site
  offers_keep [] offsets behind old received new h p = subst (λ (s : Holder EditedValue). P s.site) (sym h.same) p
  offers_keep (op ∷ ops) [] behind old received new h p = absurd h
  offers_keep (op ∷ ops) (offset ∷ offsets) behind old received new (inl h) p = subst (λ (s : Holder EditedValue). P s.site) (sym h.same) p
  offers_keep (op ∷ ops) (offset ∷ offsets) behind old received new (inr h) p =
      offers_keep ops offsets behind h.next h.rest new h.others (offered_keeps (text_limit old.site) op h.offered old.site old.held h.next.site h.next.held h.is_offered p)

  pub received_keep : (bytes : List ℕ) (old : Holder EditedValue) (received : Received) (new : Holder EditedValue)
      → Receives text_log text_limit text_with_new bytes old received new → P old.site → P new.site
  received_keep bytes old received new h p = offers_keep h.ops h.offsets h.behind old received new h.offers p

-- how many widgets there are
taken_stays : (old : ViewValue) (op : Operation) (text : EditedValue) → Stay old text.view → Stay old (text_with_new op text).view
taken_stays old op text h = length-map text.view.others _ ∙ h

pub tried_stay : (limit : ℕ) (state : Holding) (old new : EditedValue) (left : List Operation) (count : ℕ)
    → AreTried text_log text_with_new limit state old new left count → Stay old.view new.view
tried_stay limit state old new left count h = tried_keep (λ t. Stay old.view t.view) (taken_stays old.view) limit state old new left count h refl

pub received_stays : (bytes : List ℕ) (old : Holder EditedValue) (received : Received) (new : Holder EditedValue)
    → Receives text_log text_limit text_with_new bytes old received new → Stay old.site.view new.site.view
received_stays bytes old received new h = received_keep (λ t. Stay old.site.view t.view) (taken_stays old.site.view) bytes old received new h refl
