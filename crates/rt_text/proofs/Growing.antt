-- Commands that let a log grow, and leave each widget's limits as they are.
use Rattle.std.proofs.Common.{◌≡◌, ◌∙◌, ℕ, ◌-◌, inr, List, [], ◌∷◌, ap, length, map, min, refl, subst, sym}
use Rattle.std.specs.Prelude.{is_some}
use Rattle.rt_stamps.specs.declared.limits.TheConstants.{MOST_CHARACTERS, MOST_SPANS}
use Rattle.rt_stamps.specs.declared.stamp.Stamp.{Stamp}
use Rattle.rt_stamps.specs.Words.{Word}
use Rattle.rt_oplog.specs.Logs.{HasOp, with_operation}
use Rattle.rt_oplog.proofs.Sets.{with_has}
use Rattle.rt_ops.specs.Operations.{Body, Operation}
use Rattle.rt_rga.specs.Drafts.{operations_of, with_drafts, with_operations}
use Rattle.rt_rga.specs.Orders.{AreIn}
use Rattle.rt_plans.specs.declared.range.Range.{Range}
use Rattle.rt_plans.specs.Deletions.{delete_drafts, loss_in}
use Rattle.rt_plans.specs.DocValue.{DocValue, left_stamp, logged}
use Rattle.rt_plans.specs.InsertionDrafts.{insertion_drafts}
use Rattle.rt_plans.specs.Insertions.{Piece, insertion_of, left_neighbour}
use Rattle.rt_text.specs.Accepted.{widget_with_new, view_with_new}
use Rattle.rt_text.specs.Commands.{last_unselected, none_inserted, right_behind, with_pieces_at, with_range_replaced, without_ranges}
use Rattle.rt_text.specs.Widgets.{WidgetValue, ViewValue, begin_of, in_text, length_shown, limits_of, widget_inserted, widget_without, reselected, cells_shown, text_shown, with_selections}

-- LOGS

-- a log has the operations of another
abbrev pub Grows : List Operation → List Operation → Type 0
Grows old new = AreIn old new

pub grows_same : (old new : List Operation) → new ≡ old → Grows old new
grows_same old new e op h = subst (λ (log : List Operation). HasOp log op) (sym e) h

pub grows_by : (old mid new : List Operation) → Grows old mid → Grows mid new → Grows old new
grows_by old mid new f g op h = g op (f op h)

pub grows_with : (op : Operation) (log : List Operation) → Grows log (with_operation op log)
grows_with op log x h = with_has op log x (inr h)

grows_all : (ops log : List Operation) → Grows log (with_operations ops log)
grows_all [] log x h = h
grows_all (op ∷ ops) log x h = grows_all ops (with_operation op log) x (grows_with op log x h)

pub grows_drafts : (site : ℕ) (drafts : List Body) (log : List Operation) → Grows log (with_drafts site drafts log)
grows_drafts site drafts log = grows_all (operations_of site drafts log) log

-- VIEWS

-- the log grows, and each widget's limits stay
pub record GrowsTo (view new : ViewValue) : Type 0 where
  pub log : Grows view.doc.log new.doc.log
  pub limits : limits_of new ≡ limits_of view

pub view_grows_by : (old mid new : ViewValue) → GrowsTo old mid → GrowsTo mid new → GrowsTo old new
view_grows_by old mid new f g = record { log = grows_by old.doc.log mid.doc.log new.doc.log f.log g.log; limits = g.limits ∙ f.limits }

-- what keeps the limits of one widget keeps those of all
by_rule : (rule : WidgetValue → WidgetValue) → ((own : WidgetValue) → (rule own).limits ≡ own.limits) → (own : WidgetValue) (others : List WidgetValue)
    → map (λ (own : WidgetValue). own.limits) (rule own ∷ map rule others) ≡ map (λ (own : WidgetValue). own.limits) (own ∷ others)
by_rule rule f own [] = ap (λ l. l ∷ []) (f own)
by_rule rule f own (other ∷ others) = λ i. f own i ∷ by_rule rule f other others i

selected_too : (selections : List (List Stamp)) (widgets : List WidgetValue) → map (λ (own : WidgetValue). own.limits) (with_selections selections widgets) ≡ map (λ (own : WidgetValue). own.limits) widgets
selected_too selections [] = refl
selected_too [] (own ∷ widgets) = refl
selected_too (selection ∷ selections) (own ∷ widgets) = ap (λ l. own.limits ∷ l) (selected_too selections widgets)

-- text is put in
pub put_grows : (view : ViewValue) (place : ℕ) (pieces : List Piece) (rest : Word) → GrowsTo view (with_pieces_at view place pieces rest)
put_grows view place pieces rest =
    let at = in_text view place in
    let left = left_neighbour (cells_shown view) place in
    let right = right_behind view place pieces in
    let new = insertion_of view.doc.site left right pieces rest (none_inserted view) in
    let moves : WidgetValue → WidgetValue = widget_inserted at (length new.cells) in
    record {
      log = grows_drafts view.doc.site (insertion_drafts MOST_CHARACTERS view.doc.site (left_stamp view.doc.cells at) left right pieces rest (none_inserted view)) view.doc.log;
      limits = ap (λ l. view.own.limits ∷ l) (selected_too new.others (map moves view.others)) ∙ by_rule moves (λ own. refl) view.own view.others;
    }

-- ranges are removed
pub without_grows : (view : ViewValue) (ranges : List Range) → GrowsTo view (without_ranges view ranges)
without_grows view ranges =
    let loss = loss_in (text_shown view) (begin_of view) ranges in
    record {
      log = grows_drafts view.doc.site (delete_drafts MOST_SPANS view.doc loss) view.doc.log;
      limits = by_rule (λ own. reselected (last_unselected view (is_some loss.newline)) (widget_without loss.places own)) (λ own. refl) view.own view.others;
    }

-- a range is replaced
pub replaced_grows : (view : ViewValue) (range : Range) (pieces : List Piece) (rest : Word) → GrowsTo view (with_range_replaced view range pieces rest)
replaced_grows view range pieces rest =
    let left = without_ranges view (range ∷ []) in
    let place = min range.from (length_shown left - 1) in
    view_grows_by view left (with_pieces_at left place pieces rest) (without_grows view (range ∷ [])) (put_grows left place pieces rest)

-- an operation is accepted
pub grows_taken : (op : Operation) (view : ViewValue) → GrowsTo view (view_with_new op view)
grows_taken op view = record { log = grows_with op view.doc.log; limits = by_rule (widget_with_new op view.doc) (λ own. refl) view.own view.others }

-- tags are written
pub logged_grows : (view : ViewValue) (drafts : List Body) (edited : DocValue) → GrowsTo view (record view { doc = logged view.doc drafts edited })
logged_grows view drafts edited = record { log = grows_drafts view.doc.site drafts view.doc.log; limits = refl }
