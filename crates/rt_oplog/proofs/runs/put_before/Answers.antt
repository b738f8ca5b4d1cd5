use Rattle.std.proofs.Common.{◌≡◌, ◌+◌, ◌-◌, ◌<◌, ◌∷◌, ◌++◌, [], length, get_or, sym, ap, ◌∙◌, arith}
use Rattle.std.specs.List.{insert}
use Rattle.std.proofs.lemmas.List.Edits.{insert_end}
use Rattle.rt_oplog.specs.Runs.{places_in, places_of, places_to}
use Rattle.rt_oplog.proofs.InParts as parts
use Rattle.rt_oplog.proofs.runs.put_before.Goals as goal

pub returns-in-Some-clause-items : goal.returns-in-Some-clause-items
returns-in-Some-clause-items c =
    let runs = c.args.runs.now.items in
    let place = c.args.place in
    let i = c.args.run - 1 in
    let b = c.index_mut.result.now in
    let told = rw c.in-Some.is at c.grown_before.ensures in
    let one : i + 1 ≡ c.args.run = omega (arith, told.0) in
    let l : i < length runs = omega (arith, told.0, c.requires.within, c.args.runs.now.ok.0) in
    let is = c.index_mut.ensures.value in
    let new : places_of c.in-Some.grown ≡ insert (places_of b) (length (places_of b)) place = told.1 b ∙ ap (λ rs. places_of (get_or rs i b) ++ place ∷ []) c.deref.ensures.value ∙ ap (λ r. places_of r ++ place ∷ []) (sym is) ∙ sym (insert_end (places_of b) place) in
    let up = parts.places_up_to places_of runs i b l is in
    parts.put_part places_of runs i b c.in-Some.grown (length (places_of b)) place l is (omega arith) new ∙ ap (λ n. insert (places_in runs) n place) (sym up ∙ ap (places_to runs) one)

pub returns-in-None-clause-items : goal.returns-in-None-clause-items
returns-in-None-clause-items c =
    let runs = c.args.runs.now.items in
    ap places_in c.insert_run.ensures.items ∙ parts.put_new places_of runs c.args.run c.one.result c.args.place (omega (arith, c.requires.within, c.args.runs.now.ok.0)) c.one.ensures
