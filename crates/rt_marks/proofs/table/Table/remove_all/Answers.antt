use Rattle.std.proofs.Common.{◌∙◌, ap, arith, not, refl, take}
use Rattle.std.proofs.lemmas.List.{take_all}
use Rattle.rt_stamps.specs.Words.{as_words}
use Rattle.rt_marks.specs.Marks.{is_one_of, without_all}
use Rattle.rt_marks.specs.Tables.{marks_in_table, slots_of}
use Rattle.rt_marks.proofs.Cutting.{all_there, one_name_more}
use Rattle.rt_marks.proofs.Tables.{seen_length}
use Rattle.rt_marks.proofs.table.Table.remove_all.Goals as goal

pub loop-name-init : goal.loop-name-init
loop-name-init c =
    let table = c.args.self.now in
    record {
      table = c.requires;
      within = omega (arith, c.len-kept.ensures, table.marks.ok.0, seen_length table.marks.items);
      marks = refl;
      parted = all_there (slots_of table) c.len-kept.result (omega (arith, c.len-kept.ensures, table.marks.ok.0, seen_length table.marks.items));
    }

pub loop-name-preserved : goal.loop-name-preserved
loop-name-preserved c =
    let names = c.args.names.now in
    let i = c.loop-name.name-index in
    record {
      table = c.put_behind-kept.ensures.table;
      within = c.put_behind-kept.ensures.within;
      marks = c.put_behind-kept.ensures.marks ∙ c.loop-name.invariant.marks;
      parted = one_name_more names i c.name-item.result c.deref.result.now (slots_of c.put_behind-kept.new.self) c.put_behind-kept.result c.loop-name-test.true c.name-item.is c.deref.ensures
          (c.put_behind-kept.ensures.parted (λ m. not (is_one_of (as_words (take i names)) m)) c.loop-name.invariant.parted);
    }

pub returns-clause-marks : goal.returns-clause-marks
returns-clause-marks c =
    let names = c.args.names.now in
    let i = c.loop-name.name-index in
    c.cut.ensures.marks (λ m. not (is_one_of (as_words (take i names)) m)) c.loop-name.invariant.parted
    ∙ ap (without_all (as_words (take i names))) c.loop-name.invariant.marks
    ∙ ap (λ v. without_all (as_words v) (marks_in_table c.args.self.now)) (take_all i names c.loop-name-test.false)
