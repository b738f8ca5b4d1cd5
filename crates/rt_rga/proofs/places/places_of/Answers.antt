use Rattle.std.proofs.Common.{◌≡◌, ◌∙◌, ℕ, List, All, ap, length, subst, sym}
use Rattle.std.proofs.lemmas.List.Sorted.{All-permutation, list_any-IsPermutation}
use Rattle.std.proofs.lemmas.Result.{IfOk-weaker}
use Rattle.rt_store.specs.Cells.{visible_of}
use Rattle.rt_rga.specs.declared.taken.PlaceRun.{PlaceRun}
use Rattle.rt_rga.specs.NamedRuns.{IsBelow, names_at, spans_of_runs}
use Rattle.rt_rga.specs.Taken.{is_in_run, is_in_runs}
use Rattle.rt_rga.proofs.places.places_of.Goals as goal

pub returns-clause-places : goal.returns-clause-places
returns-clause-places g c =
    let list = g.S.TextStore.list c.args.store.now in
    let found = c.in_ok-places.places.items in
    let sorted = c.deref.result.now in
    let end = length (visible_of list) in
    let below : All (IsBelow end) sorted = subst (All (IsBelow end)) (sym c.deref.ensures.value) (All-permutation (IsBelow end) found c.sort.new.runs.items c.sort.ensures.same c.in_ok-places.ensures.below) in
    let same : (place : ℕ) → is_in_runs sorted place ≡ names_at (spans_of_runs c.args.runs.now) list place = λ place.
    ap (λ (runs : List PlaceRun). is_in_runs runs place) c.deref.ensures.value
    ∙ sym (list_any-IsPermutation (λ run. is_in_run run place) found c.sort.new.runs.items c.sort.ensures.same) ∙ c.in_ok-places.ensures.places place in
    IfOk-weaker c.joined.result _ _ (λ joined h place. h end below place ∙ same place) c.joined.ensures.same

pub returns-clause-falling : goal.returns-clause-falling
returns-clause-falling g c =
    let list = g.S.TextStore.list c.args.store.now in
    let found = c.in_ok-places.places.items in
    let sorted = c.deref.result.now in
    let end = length (visible_of list) in
    let below : All (IsBelow end) sorted = subst (All (IsBelow end)) (sym c.deref.ensures.value) (All-permutation (IsBelow end) found c.sort.new.runs.items c.sort.ensures.same c.in_ok-places.ensures.below) in
    let same : (place : ℕ) → is_in_runs sorted place ≡ names_at (spans_of_runs c.args.runs.now) list place = λ place.
    ap (λ (runs : List PlaceRun). is_in_runs runs place) c.deref.ensures.value
    ∙ sym (list_any-IsPermutation (λ run. is_in_run run place) found c.sort.new.runs.items c.sort.ensures.same) ∙ c.in_ok-places.ensures.places place in
    IfOk-weaker c.joined.result _ _ (λ joined h last within. h end last below (λ place t. within place (sym (same place) ∙ t))) c.joined.ensures.falling
