use Rattle.std.proofs.Common.{◌≡◌, ◌≤◌, ◌==◌, ◌∷◌, ◌∙◌, false, ℕ, List, Option, None, Some, Ok, Err, ap, length, refl, sym}
use Rattle.std.specs.Prelude.{option_map}
use Rattle.rt_stamps.specs.declared.fault.Fault.TheVariants.{BadIndex}
use Rattle.rt_stamps.specs.declared.limits.TheConstants.{MOST_CELLS}
use Rattle.rt_index.specs.declared.parts.Modifier.{Modifier}
use Rattle.rt_index.specs.Expression.{kept_found, kept_modifier}
use Rattle.rt_index.specs.Index.{moved_from}
use Rattle.rt_index.specs.Reading.{after_spaces, first_modifier, modifiers_of}
use Rattle.rt_index.specs.Values.{moved}
use Rattle.rt_index.proofs.Kept.{moved_kept}
use Rattle.rt_index.proofs.Modifiers.{map_none, map_some, next, no_more, none_next}
use Rattle.rt_index.proofs.place.moved_with.Goals as goal

-- the first modifier moves the place, and the others what it makes of it
moved_on : (text : List ℕ) (place reached : ℕ) (t rest : List ℕ) (m : Modifier) → length text ≤ MOST_CELLS → place ≤ length text → (length (after_spaces t) == 0) ≡ false
    → option_map kept_found (first_modifier t) ≡ Some (m, rest) → reached ≡ moved text place m
    → moved_from text (Ok reached) (modifiers_of rest) ≡ moved_from text (Ok place) (modifiers_of t)
moved_on text place reached t rest m few within b e reached_is =
    let got = map_some kept_found (first_modifier t) (m, rest) e in
    let x = got.0 in
    let p : kept_modifier x.0 ≡ m = ap (λ f. f.0) got.2 in
    let q : x.1 ≡ rest = ap (λ f. f.1) got.2 in
    ap (λ n. moved_from text (Ok n) (modifiers_of rest)) (reached_is ∙ sym (ap (moved text place) p) ∙ moved_kept text place x.0 few within)
    ∙ ap (λ r. moved_from text (Ok (moved text place x.0)) (modifiers_of r)) (sym q)
    ∙ first x.0 (modifiers_of x.1)
    ∙ ap (moved_from text (Ok place)) (sym (next t x.0 x.1 b got.1))
  where
    first : (m : Modifier) (o : Option (List Modifier)) → moved_from text (Ok (moved text place m)) o ≡ moved_from text (Ok place) (option_map (λ ms. m ∷ ms) o)
    first m None = refl
    first m (Some ms) = refl

-- what isn't a modifier
stopped : (text : List ℕ) (place : ℕ) (t : List ℕ) → (length (after_spaces t) == 0) ≡ false → option_map kept_found (first_modifier t) ≡ None
    → Err BadIndex ≡ moved_from text (Ok place) (modifiers_of t)
stopped text place t b e = ap (moved_from text (Ok place)) (sym (none_next t b (map_none kept_found (first_modifier t) e)))

pub returns-in-None-clause-value : goal.returns-in-None-clause-value
returns-in-None-clause-value g c =
    stopped (g.G.Ground.widget c.args.ground.now).text c.loop-rest.place c.loop-rest.rest.now (sym c.is_blank.ensures ∙ c.loop-rest-test.true) (sym c.in-None.ensures.value)
    ∙ c.loop-rest.invariant.same

pub loop-rest-preserved : goal.loop-rest-preserved
loop-rest-preserved g c = record {
  within = c.moved-place.ensures.within;
  words = c.moved-place.ensures.words;
  same = moved_on (g.G.Ground.widget c.args.ground.now).text c.loop-rest.place c.moved-place.result c.loop-rest.rest.now c.in-Some.more.now c.in-Some.modifier
      (g.met.G.Ground.proper c.args.ground.now).bounded c.loop-rest.invariant.within (sym c.is_blank.ensures ∙ c.loop-rest-test.true) (sym c.in-Some.ensures.value) c.moved-place.ensures.value
      ∙ c.loop-rest.invariant.same;
}

pub returns-clause-value : goal.returns-clause-value
returns-clause-value g c =
    let text = (g.G.Ground.widget c.args.ground.now).text in
    ap (moved_from text (Ok c.loop-rest.place)) (sym (no_more c.loop-rest.rest.now (sym c.is_blank.ensures ∙ c.loop-rest-test.false))) ∙ c.loop-rest.invariant.same
