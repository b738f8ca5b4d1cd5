-- What runs add up to.
use Rattle.std.specs.Prelude.{ℕ, ◌+◌, ◌-◌, ◌^◌, ◌<◌, List, [], ◌∷◌, if◌then◌else◌}
use Rattle.rt_stamps.specs.declared.limits.TheConstants.{GREATEST_SITE}
use Rattle.rt_stamps.specs.declared.stamp.Stamp.{Stamp}
use Rattle.rt_stamps.specs.Stamps.{is_before}
use Rattle.rt_tree.specs.declared.node.Run.{Run}
use Rattle.rt_tree.specs.declared.node.Counts.{Counts}
use Rattle.rt_tree.specs.declared.node.CountedBy.{CountedBy}
use Rattle.rt_tree.specs.declared.node.CountedBy.TheVariants.{Cells, Visible, Newlines}
use Rattle.rt_tree.specs.declared.node.Totals.{Totals}
use Rattle.rt_tree.specs.Runs.{first_stamp}

abbrev pub no_counts : Counts
no_counts = record { cells = 0; visible = 0; newlines = 0 }

abbrev pub plus : Counts → Counts → Counts
plus a b = record { cells = a.cells + b.cells; visible = a.visible + b.visible; newlines = a.newlines + b.newlines }

-- how many cells, visible characters and visible newlines a run has
abbrev pub counts_of_run : Run → Counts
counts_of_run r = record { cells = r.len; visible = if r.gone then 0 else r.len; newlines = if r.gone then 0 else (if r.newline then 1 else 0) }

-- how many all runs have together
abbrev pub counts_of : List Run → Counts
counts_of [] = no_counts
counts_of (r ∷ rs) = plus (counts_of_run r) (counts_of rs)

-- one of the three numbers
abbrev pub amount : CountedBy → Counts → ℕ
amount Cells counts = counts.cells
amount Visible counts = counts.visible
amount Newlines counts = counts.newlines

abbrev pub lesser : Stamp → Stamp → Stamp
lesser a b = if is_before b a then b else a

-- the least of the stamps of the runs' first cells; of no run the greatest stamp that there can be
abbrev pub least_first : List Run → Stamp
least_first [] = record { count = 2 ^ 64 - 1; site = GREATEST_SITE }
least_first (r ∷ rs) = lesser (first_stamp r) (least_first rs)

-- what runs add up to
abbrev pub totals_of : List Run → Totals
totals_of rs = record { least_count = (least_first rs).count; counts = counts_of rs; least_site = (least_first rs).site }

-- as many as can be counted
pub record AreFew (counts : Counts) : Type 0 where
  pub cells : counts.cells < 2 ^ 32
  pub visible : counts.visible < 2 ^ 32
  pub newlines : counts.newlines < 2 ^ 32
