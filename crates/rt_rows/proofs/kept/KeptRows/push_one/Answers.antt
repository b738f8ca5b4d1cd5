use Rattle.std.proofs.Common.{◌≡◌, ap, subst, sym, List}
use Rattle.rt_ops.specs.Operations.{Name, Operation}
use Rattle.rt_rows.specs.declared.rows.RowPlace.{RowPlace}
use Rattle.rt_rows.specs.declared.stored.Stored.{Stored}
use Rattle.rt_rows.specs.Stored.{AreListed, IsPut, KeptValue}
use Rattle.rt_rows.specs.Views.{operation_of}
use Rattle.rt_rows.proofs.kept.KeptRows.push_one.Goals as goal
use Rattle.rt_rows.proofs.kept.KeptRows.push_one.Goals.{in-Some, in-None}

-- an operation that is put, told by values that are the same
same_put : (old new was : List Stored) (op : List (List Name) → Operation) (place at : RowPlace) → new ≡ was → place ≡ at → IsPut old was op at → IsPut old new op place
same_put old new was op place at e f h = subst (λ kept. IsPut old kept op place) (sym e) (subst (IsPut old was op) (sym f) h)

pub returns-clause-put : goal.returns-clause-put
returns-clause-put c =
    let old = c.args.self.now.kept in
    let op : List (List Name) → Operation = λ lists. operation_of lists c.args.one.now in
    let place = c.match-join.place in
    let put : IsPut old c.match-join.self.kept op place = elim c.match-join.branch [
      | in-Some w ↦ same_put old c.match-join.self.kept c.join.new.self.kept op place w.in-Some.place (ap (λ (v : KeptValue). v.kept) w.self-is) w.place-is w.in-Some.ensures.put
      | in-None w ↦ same_put old c.match-join.self.kept w.begin_row-place.new.self.kept op place w.begin_row-place.result
          (ap (λ (v : KeptValue). v.kept) w.self-is) w.place-is
          (subst (λ kept. IsPut kept w.begin_row-place.new.self.kept op w.begin_row-place.result) w.in-None.ensures.same w.begin_row-place.ensures.put)
    ] in
    subst (λ kept. IsPut old kept op place) (sym (ap (λ (v : KeptValue). v.kept) c.self.view_is)) put

pub returns-clause-listed : goal.returns-clause-listed
returns-clause-listed c many h l =
    let all : AreListed many c.match-join.self.kept = elim c.match-join.branch [
      | in-Some w ↦ subst (AreListed many) (sym (ap (λ (v : KeptValue). v.kept) w.self-is)) (c.join.ensures.listed many h)
      | in-None w ↦ subst (AreListed many) (sym (ap (λ (v : KeptValue). v.kept) w.self-is)) (w.begin_row-place.ensures.listed many (c.join.ensures.listed many h) l)
    ] in
    subst (AreListed many) (sym (ap (λ (v : KeptValue). v.kept) c.self.view_is)) all
