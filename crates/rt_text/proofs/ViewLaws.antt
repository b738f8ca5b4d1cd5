-- A document as a widget shows it.
use Rattle.std.proofs.Common.{List}
use Rattle.rt_plans.specs.DocValue.{DocValue}
use Rattle.rt_text.specs.Widgets.{WidgetValue, ViewValue}

-- a document on which a widget works, beside others
abbrev pub viewed : DocValue → WidgetValue → List WidgetValue → ViewValue
viewed doc own others = record { doc = doc; own = own; others = others }
