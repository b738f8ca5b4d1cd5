use Rattle.std.proofs.Common.{◌≡◌, suc, ◌+◌, [], ◌∷◌, ◌++◌, ap, ◌∙◌, arith}
use Rattle.rt_rows.specs.declared.rows.RowPlace.{RowPlace}
use Rattle.rt_oplog.specs.Runs.{places_from}
use Rattle.rt_oplog.proofs.InRuns.{from_more}
use Rattle.rt_oplog.proofs.run.Run.grown.Goals as goal

pub returns-then-place-self-clause-places : goal.returns-then-place-self-clause-places
returns-then-place-self-clause-places c =
    let self = c.args.self in
    let place = c.args.place in
    let row : self.row ≡ place.row = omega (arith, c.if-self-place.true) in
    let at : suc self.at + self.more ≡ place.at = omega (arith, c.if-self-place-2.true, c.if-place-self.true) in
    let first : RowPlace = record { row = self.row; at = self.at } in
    ap (λ xs. first ∷ xs) (from_more self.row (suc self.at) self.more 1
    ∙ ap (λ r. places_from self.row (suc self.at) self.more ++ record { row = r; at = suc self.at + self.more } ∷ []) row
    ∙ ap (λ k. places_from self.row (suc self.at) self.more ++ record { row = place.row; at = k } ∷ []) at)
