-- What the widget of a path shows. Places of indices there, and places by stamps: another site's cursor, a comment's anchor.
use Rattle.std.specs.Prelude.{ℕ, Option, None, Some, Result, Err, option_and_then, option_map}
use Rattle.rt_stamps.specs.declared.fault.Fault.{Fault}
use Rattle.rt_stamps.specs.declared.fault.Fault.TheVariants.{NoWidget}
use Rattle.rt_stamps.specs.declared.stamp.Stamp.{Stamp}
use Rattle.rt_stamps.specs.Words.{Word}
use Rattle.rt_index.specs.Index.{index_of}
use Rattle.rt_text.specs.Cursors.{place_of_stamp, stamp_at}
use Rattle.rt_text.specs.Widgets.{ViewValue, view_as, widget_of}
use Rattle.rt_peers.specs.SiteValue.{SiteValue, number_of_path}

-- the text as the widget of a path shows it; none where there is no such widget
abbrev pub widget_by : Word → SiteValue → Option ViewValue
widget_by path state = option_map (λ number. view_as number state.text.view) (number_of_path path state.paths)

-- the place of an index in what a widget shows, where there is one
abbrev pub index_in : Word → Option ViewValue → Result ℕ Fault
index_in index None = Err NoWidget
index_in index (Some view) = index_of (widget_of view) index

-- the place of an index in what the widget of a path shows
abbrev pub index_by : Word → Word → SiteValue → Result ℕ Fault
index_by path index state = index_in index (widget_by path state)

-- the stamp of the character at a place of what the widget of a path shows; none from its end on, or where there is no such widget
abbrev pub stamp_by : Word → ℕ → SiteValue → Option Stamp
stamp_by path place state = option_and_then (λ view. stamp_at view.own.limits place view.doc.cells) (widget_by path state)

-- how many of the characters that the widget of a path shows stand before that of a stamp, which may be gone or outside; none where no
-- cell has the stamp, or where there is no such widget
abbrev pub stamp_place_by : Word → Stamp → SiteValue → Option ℕ
stamp_place_by path stamp state = option_and_then (λ view. place_of_stamp view.own.limits stamp view.doc.cells) (widget_by path state)
