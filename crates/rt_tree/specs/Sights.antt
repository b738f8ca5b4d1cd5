-- What a look at an entry tells of a tag.
use Rattle.std.specs.Prelude.{ℕ, List, Option, Some, None, if◌then◌else◌}
use Rattle.rt_tags.specs.Toggles.{count_of}
use Rattle.rt_tree.specs.declared.node.Entry.{Entry}
use Rattle.rt_tree.specs.declared.node.Entry.TheVariants.{Down, Here}
use Rattle.rt_tree.specs.declared.summary.Summary.{Summary}
use Rattle.rt_tree.specs.Summaries.{summary_of}

-- how many borders a tag has between the visible characters of an entry: of a node as is kept, of a run, which has one state, none; and
-- none is told where no tag is asked for
abbrev pub borders_in : List Summary → Option ℕ → Entry → ℕ
borders_in sums None e = 0
borders_in sums (Some tag) (Here r) = 0
borders_in sums (Some tag) (Down c t) = count_of tag (summary_of sums c.index).counts

-- the state of the first of these characters, if there is one and a tag is asked for
abbrev pub first_in : List Summary → Option ℕ → Entry → Option ℕ
first_in sums None e = None
first_in sums (Some tag) (Here r) = if r.gone then None else Some r.state
first_in sums (Some tag) (Down c t) = (summary_of sums c.index).first
