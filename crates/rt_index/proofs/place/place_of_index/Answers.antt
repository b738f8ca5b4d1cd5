use Rattle.std.proofs.Common.{◌≡◌, ◌∙◌, ◌⊎◌, ℕ, List, drop, take, Err, None, Ok, Result, Some, ap, inl, inr, false, sym, true}
use Rattle.std.specs.Prelude.{IfErr, IfOk, is_some, option_map}
use Rattle.rt_stamps.specs.declared.fault.Fault.{Fault}
use Rattle.rt_stamps.specs.declared.fault.Fault.TheVariants.{BadIndex, NoMemory}
use Rattle.rt_stamps.specs.Outcomes.{Refuses}
use Rattle.rt_index.specs.declared.parts.Fixed.{Fixed}
use Rattle.rt_index.specs.Expression.{kept_fixed}
use Rattle.rt_index.specs.Index.{IsNeverIndex, fixed_place, index_of, moved_from}
use Rattle.rt_index.specs.Reading.{fixed_of, modifiers_of, token_length}
use Rattle.rt_index.specs.Widget.{IndexedWidget, IsProper}
use Rattle.rt_index.proofs.Hope.{fixed_same}
use Rattle.rt_index.proofs.Kept.{fixed_kept}
use Rattle.rt_index.proofs.Modifiers.{map_none, map_some}
use Rattle.rt_index.proofs.place.place_of_index.Goals as goal

-- a position or `end`, and what the modifiers behind it make of its place
by_fixed : (w : IndexedWidget) (word front rest : List ℕ) (token place : ℕ) (fixed : Fixed) → IsProper w → token ≡ token_length word → front ≡ take token word → rest ≡ drop token word
    → Some fixed ≡ option_map kept_fixed (fixed_of front) → place ≡ fixed_place w.text fixed → moved_from w.text (Ok place) (modifiers_of rest) ≡ index_of w word
by_fixed w word front rest token place fixed proper cut front_is rest_is found place_is =
    let got = map_some kept_fixed (fixed_of front) fixed (sym found) in
    ap (λ n. moved_from w.text (Ok n) (modifiers_of rest)) (place_is ∙ ap (fixed_place w.text) (sym got.2) ∙ fixed_kept w.text got.0 proper.bounded)
    ∙ ap (λ r. moved_from w.text (Ok (fixed_place w.text got.0)) (modifiers_of r)) (rest_is ∙ ap (λ n. drop n word) cut)
    ∙ sym (fixed_same w word got.0 (ap fixed_of (sym (front_is ∙ ap (λ n. take n word) cut)) ∙ got.1))

-- a word that begins with neither
not_fixed : {P : Type 0} (word front : List ℕ) (token : ℕ) → token ≡ token_length word → front ≡ take token word → None ≡ option_map kept_fixed (fixed_of front)
    → is_some (fixed_of (take (token_length word) word)) ≡ true → P
not_fixed word front token cut front_is none e =
    let no : fixed_of (take (token_length word) word) ≡ None =
    ap fixed_of (sym (front_is ∙ ap (λ n. take n word) cut)) ∙ map_none kept_fixed (fixed_of front) (sym none) in
    let no_value : false ≡ true = sym (ap is_some no) ∙ e in
    cc

-- what a call answers that answers the place
found : (r outcome : Result ℕ Fault) → r ≡ outcome → IfOk r (λ place. outcome ≡ Ok place)
found (Ok place) outcome e = sym e
found (Err fault) outcome e = tt

not_found : (r outcome : Result ℕ Fault) → r ≡ outcome → IfErr r (Refuses outcome)
not_found (Ok place) outcome e = tt
not_found (Err fault) outcome e = inr (sym e)

-- a word that is an index of no proper widget, or want of memory
refused : (w : IndexedWidget) (word : List ℕ) (fault : Fault) → IsProper w → (fault ≡ NoMemory) ⊎ ((fault ≡ BadIndex) × IsNeverIndex word) → Refuses (index_of w word) fault
refused w word fault proper (inl e) = inl e
refused w word fault proper (inr p) = inr (p.1 w proper ∙ ap (λ f. Err f) (sym p.0))

pub returns-in-Some : goal.returns-in-Some
returns-in-Some g c =
    let w = g.G.Ground.widget c.args.ground.now in
    let word = c.args.word.now in
    let token = c.token_length-token.result in
    let cut : token ≡ token_length word = c.token_length-token.ensures.value ∙ ap token_length c.as_bytes.ensures.value in
    let same : c.moved_by.result ≡ index_of w word =
    c.moved_by.ensures.value
    ∙ by_fixed w word c.split_at.result.0.now c.split_at.result.1.now token c.fixed_place.result c.in-Some.fixed (g.met.G.Ground.proper c.args.ground.now) cut
    (c.split_at.ensures.front ∙ ap (take token) c.as_bytes-2.ensures.value) (c.split_at.ensures.back ∙ ap (drop token) c.as_bytes-2.ensures.value)
    c.in-Some.ensures c.fixed_place.ensures.value in
    record {
      ok = found c.moved_by.result (index_of w word) same;
      within = c.moved_by.ensures.within;
      err = not_found c.moved_by.result (index_of w word) same;
      fixed = λ e. same;
    }

pub returns-in-Ok : goal.returns-in-Ok
returns-in-Ok g c =
    let w = g.G.Ground.widget c.args.ground.now in
    let same : c.resolve.result ≡ index_of w c.args.word.now = c.resolve.ensures.place ∙ ap (index_of w) c.in-Ok.ensures.word in
    record {
      ok = found c.resolve.result (index_of w c.args.word.now) same;
      within = c.resolve.ensures.within;
      err = not_found c.resolve.result (index_of w c.args.word.now) same;
      fixed = λ e. same;
    }

pub returns-in-Err : goal.returns-in-Err
returns-in-Err g c =
    let token = c.token_length-token.result in
    record {
      ok = tt;
      within = tt;
      err = refused (g.G.Ground.widget c.args.ground.now) c.args.word.now c.in-Err.fault (g.met.G.Ground.proper c.args.ground.now) c.in-Err.ensures.fault;
      fixed = not_fixed c.args.word.now c.split_at.result.0.now token (c.token_length-token.ensures.value ∙ ap token_length c.as_bytes.ensures.value)
          (c.split_at.ensures.front ∙ ap (take token) c.as_bytes-2.ensures.value) c.in-None.ensures;
    }
