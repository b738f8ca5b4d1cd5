use Rattle.std.proofs.Common.{◌≡◌, ◌++◌, drop}
use Rattle.rt_stamps.specs.Words.{as_words}
use Rattle.rt_store.specs.Cells.{text_of}
use Rattle.rt_text.specs.Ranges.{texts_of}
use Rattle.rt_lines.specs.Stretches.{part}
use Rattle.rt_text.proofs.range.texts_of.Given as goal

abbrev pub invariant-loop-range : goal.invariant-loop-range
invariant-loop-range g l =
    let t = part l.stretch (text_of (g.S.TextStore.list l.store)) in
    as_words l.texts.items ++ texts_of t (drop l.range-index l.ranges) ≡ texts_of t l.ranges
