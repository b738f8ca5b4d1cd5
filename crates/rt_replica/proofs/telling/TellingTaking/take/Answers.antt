use Rattle.std.proofs.Common.{◌≡◌, ◌∙◌, List, [], ◌∷◌, ◌++◌, ap, arith, length, map, subst}
use Rattle.rt_rga.specs.Answers.{New, answer_within}
use Rattle.rt_rga.specs.Cells.{cells_of}
use Rattle.rt_rga.specs.declared.taken.Change.{Change}
use Rattle.rt_rga.proofs.Within.{continues_new}
use Rattle.rt_replica.specs.Told.{ChangeValue, TellingValue, after_taken, as_told, told_of}
use Rattle.rt_replica.proofs.Told.{map_append, told_is}
use Rattle.rt_replica.proofs.telling.TellingTaking.take.Goals as goal

pub take-requires-clause-continues : goal.take-requires-clause-continues
take-requires-clause-continues g c =
    let v = c.self.inside.replica in
    let new : answer_within v.limit c.args.op v.log ≡ New = ap (λ (t : TellingValue). answer_within t.limit c.args.op t.log) c.self.view_is ∙ c.requires in
    (continues_new v.limit c.args.op v.log c.log.ensures.history c.edit.ensures.rules new).0

pub take-requires-clause-room : goal.take-requires-clause-room
take-requires-clause-room g c =
    let v = c.self.inside.replica in
    let new : answer_within v.limit c.args.op v.log ≡ New = ap (λ (t : TellingValue). answer_within t.limit c.args.op t.log) c.self.view_is ∙ c.requires in
    omega (arith, (continues_new v.limit c.args.op v.log c.log.ensures.history c.edit.ensures.rules new).1, ap length c.store.ensures.cells)

pub returns-in-Ok-clause-taken : goal.returns-in-Ok-clause-taken
returns-in-Ok-clause-taken g c =
    let v = c.self.inside.replica in
    let w = c.take.new.self in
    let op = c.args.op in
    let change = c.in-Ok.change in
    let before = c.self.inside.changes.items in
    let items = c.push_reserved.ensures.items ∙ ap (λ (l : List Change). l ++ change ∷ []) c.reserve.ensures.items in
    let told : as_told change ≡ told_of op (cells_of v.log) = told_is op v.cells change c.in-Ok.ensures.change ∙ ap (told_of op) c.store.ensures.cells in
    let changes : map as_told c.push_reserved.new.self.items ≡ map as_told before ++ told_of op (cells_of v.log) ∷ [] =
    ap (map as_told) items ∙ map_append as_told before (change ∷ []) ∙ ap (λ (t : ChangeValue). map as_told before ++ t ∷ []) told in
    let cells = c.store-in-Ok.ensures.cells ∙ ap cells_of c.in-Ok.ensures.log in
    let new : TellingValue = record { log = w.log; cells = w.cells; site = w.site; limit = w.limit; changes = map as_told c.push_reserved.new.self.items } in
    subst (λ (t : TellingValue). new ≡ after_taken op t) c.self.view_is
    (λ i. record { log = c.in-Ok.ensures.log i; cells = cells i; site = c.take.ensures.site i; limit = c.take.ensures.limit i; changes = changes i })
