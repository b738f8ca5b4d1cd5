-- What an operation does to cells.
use Rattle.std.specs.Prelude.{List, [], map, if◌then◌else◌}
use Rattle.rt_stamps.specs.declared.stamp.Span.{Span}
use Rattle.rt_stamps.specs.declared.stamp.Stamp.{Stamp}
use Rattle.rt_stamps.specs.declared.stamp.TheConstants.{ROOT}
use Rattle.rt_ops.specs.Operations.{Operation, Body, Insert, Delete, Tag, stamp_of}
use Rattle.rt_store.specs.Cells.{cells_from, put_at, skip_from, with_state}
use Rattle.rt_tags.specs.States.{Write, written}
use Rattle.rt_store.specs.Spans.{gone_in_any, is_in_spans}
use Rattle.rt_store.specs.Shown.{TaggedCell}
use Rattle.rt_tags.specs.Writers.{listed_by, state_after}

-- a cell after one more write
abbrev pub with_write : Write → TaggedCell → TaggedCell
with_write w cell = with_state (written w cell.state) cell

-- a cell with a stamp in one of the spans after one more write, another is as it was
abbrev pub written_in_any : List Span → Write → TaggedCell → TaggedCell
written_in_any spans w cell = if is_in_spans spans cell.stamp then with_write w cell else cell

-- An Insert puts its cells past the element that it goes after and all cells directly behind that with greater stamps. A
-- Delete makes cells gone. A Tag writes on cells.
abbrev pub changed_by : Stamp → Body → List TaggedCell → List TaggedCell
changed_by stamp (Insert after tags text) cells =
    put_at (skip_from cells after stamp) (cells_from stamp.count stamp.site (state_after [] (listed_by ROOT tags)) text) cells
changed_by stamp (Delete spans) cells = map (gone_in_any spans) cells
changed_by stamp (Tag on name spans) cells = map (written_in_any spans (record { name = name; writer = stamp; on = on })) cells

abbrev pub changed : Operation → List TaggedCell → List TaggedCell
changed op cells = changed_by (stamp_of op) op.body cells
