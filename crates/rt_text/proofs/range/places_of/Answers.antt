use Rattle.std.proofs.Common.{◌≡◌, ◌≤◌, ◌+◌, ◌++◌, ◌∷◌, [], ◌∙◌, ℕ, List, sym, ap, append_assoc, length, map, drop, All, Ok, string_bytes, inl, refl}
use Rattle.std.proofs.lemmas.List.Elements.{All-append, All-cons, All-nil}
use Rattle.std.proofs.lemmas.Result.{err_from_is_err_and}
use Rattle.rt_index.specs.Index.{index_of}
use Rattle.rt_stamps.specs.Outcomes.{Refuses}
use Rattle.rt_stamps.specs.Words.{as_words}
use Rattle.rt_text.specs.Index.{place_at_index}
use Rattle.rt_text.proofs.RangeLaws.{places_more, checks_more, checks_stop}
use Rattle.rt_text.proofs.range.places_of.Goals as goal

one_within : (n p : ℕ) → p ≤ n → All (λ place. place ≤ n) (p ∷ [])
one_within n p h = All-cons (λ place. place ≤ n) p [] h (All-nil (λ place. place ≤ n))

pub returns-in_err-place_of_index : goal.returns-in_err-place_of_index
returns-in_err-place_of_index g c =
    let w = g.G.Ground.widget c.args.ground.now in
    let word = c.index-item.result in
    let found : Refuses (index_of w (string_bytes word)) c.in_err-place_of_index.field-0.0 = rw c.deref.ensures at c.in_err-place_of_index.ensures.err in
    let p = err_from_is_err_and c.from_residual.result c.from_residual.ensures.1 in
    rw p.1 (record {
      ok = tt;
      checked = tt;
      within = tt;
      err = checks_stop w c.args.indices.now c.loop-index.index-index word p.0 c.in_err-place_of_index.field-0.0 c.loop-index-test.true c.index-item.is found p.2 c.loop-index.invariant.checked;
    })

pub returns-in_err-push : goal.returns-in_err-push
returns-in_err-push g c =
    let p = err_from_is_err_and c.from_residual-in_err-push.result c.from_residual-in_err-push.ensures.1 in
    rw (p.1, p.2) (record { ok = tt; checked = tt; within = tt; err = inl refl })

pub loop-index-preserved : goal.loop-index-preserved
loop-index-preserved g c =
    let w = g.G.Ground.widget c.args.ground.now in
    let words = c.args.indices.now in
    let i = c.loop-index.index-index in
    let word = c.index-item.result in
    let place = c.in_ok-place_of_index.field-0 in
    let found : index_of w (string_bytes word) ≡ Ok place = ap (index_of w) (sym c.deref.ensures) ∙ c.in_ok-place_of_index.ensures.ok in
    let rest : List ℕ = map (place_at_index w) (as_words (drop (i + 1) words)) in
    record {
      same = ap (λ v. v ++ rest) c.in_ok-push.ensures.items ∙ append_assoc c.loop-index.places.items (place ∷ []) rest ∙ ap (λ v. c.loop-index.places.items ++ v) (sym (places_more w words i word place c.loop-index-test.true c.index-item.is found)) ∙ c.loop-index.invariant.same;
      checked = sym (checks_more w words i word place c.loop-index-test.true c.index-item.is found) ∙ c.loop-index.invariant.checked;
      within = rw c.in_ok-push.ensures.items (All-append (λ p. p ≤ length w.text) c.loop-index.places.items (place ∷ []) c.loop-index.invariant.within (one_within (length w.text) place c.in_ok-place_of_index.ensures.within));
    }
