use Rattle.std.proofs.Common.{◌≡◌, ◌∷◌, ◌++◌, ◌∙◌, [], ℕ, List, Option, None, Some, ap, append-nil, length, refl, sym}
use Rattle.std.specs.Prelude.{flat_map, option_to_list, slice_get}
use Rattle.rt_search.specs.Searches.{matches, matches_in, stretches}
use Rattle.rt_search.specs.declared.search.Search.{Search}
use Rattle.rt_lines.specs.declared.stretch.Stretch.{Stretch}
use Rattle.rt_search.proofs.find.find_first.Goals as goal

-- what stands first of two lists
first_of_near : (near rest : List ℕ) (place : ℕ) → Some place ≡ slice_get near 0 → Some place ≡ slice_get (near ++ rest) 0
first_of_near [] rest place h = absurd (cc)
first_of_near (x ∷ near) rest place h = h

first_of_rest : (near rest : List ℕ) → None ≡ slice_get near 0 → slice_get rest 0 ≡ slice_get (near ++ rest) 0
first_of_rest [] rest h = refl
first_of_rest (x ∷ near) rest h = absurd (cc)

-- the matches of the stretches that a search goes through
module _ (search : Search) (pattern text : List ℕ) (start : ℕ) (stop : Option ℕ) (end : ℕ) (near : Stretch) (far : Option Stretch) (value : near ∷ option_to_list far ≡ stretches search.direction start stop end) (whole : end ≡ length text) where
  searched : flat_map (matches_in search pattern text) (near ∷ option_to_list far) ≡ matches search pattern text start stop
  searched = ap (flat_map (matches_in search pattern text)) (value ∙ ap (stretches search.direction start stop) whole)

  found_near : (place : ℕ) → Some place ≡ slice_get (matches_in search pattern text near) 0 → Some place ≡ slice_get (matches search pattern text start stop) 0
  found_near place h =
      first_of_near (matches_in search pattern text near) (flat_map (matches_in search pattern text) (option_to_list far)) place h
      ∙ ap (λ places. slice_get places 0) searched

  found_far : (stretch : Stretch) (got : Option ℕ) → far ≡ Some stretch → None ≡ slice_get (matches_in search pattern text near) 0
      → got ≡ slice_get (matches_in search pattern text stretch) 0 → got ≡ slice_get (matches search pattern text start stop) 0
  found_far stretch got is none h =
      h ∙ ap (λ places. slice_get places 0) (sym (append-nil (matches_in search pattern text stretch)))
      ∙ ap (λ more. slice_get (flat_map (matches_in search pattern text) (option_to_list more)) 0) (sym is)
      ∙ first_of_rest (matches_in search pattern text near) (flat_map (matches_in search pattern text) (option_to_list far)) none
      ∙ ap (λ places. slice_get places 0) searched

  found_none : far ≡ None → None ≡ slice_get (matches_in search pattern text near) 0 → None ≡ slice_get (matches search pattern text start stop) 0
  found_none is none =
      ap (λ more. slice_get (flat_map (matches_in search pattern text) (option_to_list more)) 0) (sym is)
      ∙ first_of_rest (matches_in search pattern text near) (flat_map (matches_in search pattern text) (option_to_list far)) none
      ∙ ap (λ places. slice_get places 0) searched

pub returns-in-Some-clause-ok : goal.returns-in-Some-clause-ok
returns-in-Some-clause-ok g c =
    found_near c.args.search c.args.pattern.now c.args.text.now c.args.start c.args.stop c.len.result c.stretches-far.result.0 c.stretches-far.result.1
    c.stretches-far.ensures.value c.len.ensures c.in-Some.place c.in-Some.ensures

pub returns-in-Some-far-clause-ok : goal.returns-in-Some-far-clause-ok
returns-in-Some-far-clause-ok g c =
    found_far c.args.search c.args.pattern.now c.args.text.now c.args.start c.args.stop c.len.result c.stretches-far.result.0 c.stretches-far.result.1
    c.stretches-far.ensures.value c.len.ensures c.in-Some-far.far c.first_in-in-Some-far.result c.in-Some-far.is c.in_default.ensures c.first_in-in-Some-far.ensures

pub returns-clause-ok : goal.returns-clause-ok
returns-clause-ok g c =
    found_none c.args.search c.args.pattern.now c.args.text.now c.args.start c.args.stop c.len.result c.stretches-far.result.0 c.stretches-far.result.1
    c.stretches-far.ensures.value c.len.ensures c.in-None.is c.in_default.ensures
