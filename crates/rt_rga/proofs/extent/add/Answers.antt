use Rattle.std.proofs.Common.{◌≡◌, ◌∙◌, Result, Ok, Err, Some, ap, arith, sym, true}
use Rattle.std.specs.Prelude.{OnOk}
use Rattle.std.specs.Result.{is_ok}
use Rattle.std.proofs.lemmas.Map.Text.{hash_map_updates_str}
use Rattle.rt_rga.specs.Extents.{joined_if_apart}
use Rattle.rt_rga.proofs.Extents.{covered, put_there}
use Rattle.rt_rga.proofs.extent.add.Goals as goal

-- what is so of an Ok, where there is one
of_ok : {T E : Type 0} (r : Result T E) (P : Type 0) → is_ok r ≡ true → OnOk r P → P
of_ok (Ok x) P e p = p
of_ok (Err y) P e p = grind (arith, e)

pub returns-in-Some-beside : goal.returns-in-Some-beside
returns-in-Some-beside c = λ ok.
    let extent = c.in-Some.extent in
    let both = c.in-Some-beside.both in
    let put = of_ok c.insert.result _ (sym c.is_ok.ensures.value ∙ ok) c.insert.ensures.updates in
    let found = c.copied.ensures ∙ c.get.ensures.value in
    put_there c.args.spans.now c.args.name.now c.args.extents.now c.insert.new.self extent both
    (λ stamp. covered c.args.spans.now extent stamp c.requires (sym c.in-Some.ensures))
    (ap (joined_if_apart extent) (sym found) ∙ sym c.in-Some-beside.ensures)
    (hash_map_updates_str c.args.name.now c.args.extents.now c.insert.new.self (Some both) put)
