use Rattle.std.proofs.Common.{◌≡◌, ◌∙◌, ◌<◌, ◌⊎◌, [], ◌∷◌, Some, ap, inl, inr, length, map, refl, sym, List, Option}
use Rattle.rt_stamps.specs.declared.fault.Fault.{Fault}
use Rattle.rt_stamps.specs.declared.fault.Fault.TheVariants.{ClockSpent, NoMemory}
use Rattle.rt_stamps.specs.declared.limits.TheConstants.{GREATEST_COUNT}
use Rattle.rt_stamps.specs.Outcomes.{first_of}
use Rattle.rt_plans.specs.DocValue.{DocValue}
use Rattle.rt_text.specs.Commands.{cell_check, with_pieces_at}
use Rattle.rt_text.specs.Owned.{widget_value}
use Rattle.rt_text.specs.Widgets.{WidgetValue, ViewValue}
use Rattle.rt_text.proofs.KeptDocument.{clock_spent}
use Rattle.rt_text.proofs.PutLaws.{late_checks}
use Rattle.rt_text.proofs.doc.Doc.insert_pieces.Goals as goal

-- counts that are too great are refused first
spent : (doc : DocValue) (edited : List WidgetValue → ViewValue) (others : List WidgetValue) (fault : Fault) → (fault ≡ NoMemory) ⊎ ((fault ≡ ClockSpent) × ((o : List WidgetValue) → GREATEST_COUNT < (edited o).doc.count))
    → (fault ≡ NoMemory) ⊎ (first_of (late_checks doc (edited others)) ≡ Some fault)
spent doc edited others fault (inl e) = inl e
spent doc edited others fault (inr p) =
    let view = edited others in
    inr (ap (λ (o : Option Fault). first_of (o ∷ cell_check doc.limit (length view.doc.cells) ∷ [])) (clock_spent view.doc.count (p.1 others)) ∙ ap (λ (x : Fault). Some x) (sym p.0))

pub returns-in-Err : goal.returns-in-Err
returns-in-Err g c = record {
  ok = tt;
  checked = tt;
  err = spent c.args.self.now (λ (o : List WidgetValue). with_pieces_at (record { doc = c.args.self.now; own = widget_value c.args.widget.now; others = o }) c.args.text.place c.args.text.pieces.now c.args.text.rest.now)
      (map widget_value c.args.others.now) c.in-Err.fault c.in-Err.ensures.err;
  unchanged = refl;
  own = c.requires.own;
  others = c.requires.others;
}
