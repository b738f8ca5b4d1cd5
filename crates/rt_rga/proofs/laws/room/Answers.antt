use Rattle.std.proofs.Common.{nat_lt, length, ◌+◌}
use Rattle.rt_rga.specs.Answers.{answer_to}
use Rattle.rt_rga.specs.Cells.{cells_of}
use Rattle.rt_rga.specs.Histories.{inserted}
use Rattle.rt_rga.proofs.Room.{full_exactly, other_within, taken_within}
use Rattle.rt_rga.proofs.laws.room.Goals as goal

pub returns-clause-new : goal.returns-clause-new
returns-clause-new c = taken_within

pub returns-clause-full : goal.returns-clause-full
returns-clause-full c = full_exactly

pub returns-clause-others : goal.returns-clause-others
returns-clause-others c = λ set op limit n. other_within (nat_lt limit (length (cells_of set) + length (inserted op))) (answer_to op set) n
