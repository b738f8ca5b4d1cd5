-- What raising and lowering a tag answer: names that may be none, then tags that aren't listed.
use Rattle.std.proofs.Common.{◌≡◌, ◌∙◌, ◌∷◌, ◌++◌, [], List, Option, Some, None, Bool, true, false, Result, Ok, Err, ap, map, refl, sym}
use Rattle.std.specs.Prelude.{◌&&◌, if◌then◌else◌, IfErr, OnOk, option_to_list}
use Rattle.rt_stamps.specs.declared.fault.Fault.{Fault}
use Rattle.rt_stamps.specs.declared.fault.Fault.TheVariants.{NoTag}
use Rattle.rt_stamps.specs.Names.{name_check}
use Rattle.rt_stamps.specs.Outcomes.{first_of, unless}
use Rattle.rt_stamps.specs.Words.{Word}
use Rattle.rt_tags.specs.Tags.{is_listed, is_place}
use Rattle.rt_text.specs.Widgets.{ViewValue}
use Rattle.rt_tagcmd.specs.TagCommands.{order_check, tag_check}
use Rattle.rt_tagcmd.proofs.TagChecks.{both_none, first_some, second_some}

-- what is wrong, unless it is listed
abbrev found : Bool → Option Fault
found b = if b then None else Some NoTag

abbrev said : Bool → Result (Unit {0}) Fault
said b = if b then Ok tt else Err NoTag

one_found : (b : Bool) → first_of (found b ∷ []) ≡ found (b && true)
one_found true = refl
one_found false = refl

both_found : (a b : Bool) → first_of (found a ∷ found b ∷ []) ≡ found (a && b)
both_found true true = refl
both_found true false = refl
both_found false b = refl

tags_found : (view : ViewValue) (name : Word) (other : Option Word)
    → first_of (map (tag_check view) (name ∷ option_to_list other)) ≡ found (is_listed name view.doc.tags && is_place other view.doc.tags)
tags_found view name None = one_found (is_listed name view.doc.tags)
tags_found view name (Some o) = both_found (is_listed name view.doc.tags) (is_listed o view.doc.tags)

passes : (o : Option Fault) (x : Unit {0}) → Ok x ≡ unless o tt → o ≡ None
passes None x h = refl
passes (Some f) x h = let bad : ⊥ = cc in absurd bad

fails : (o : Option Fault) (fault : Fault) → Err fault ≡ unless {T = Unit {0}} o tt → o ≡ Some fault
fails None fault h = let bad : ⊥ = cc in absurd bad
fails (Some f) fault h = cc

module _ {T : Type 0} (names tags : List (Option Fault)) (new after : T) (none : first_of names ≡ None) where
  listed_ok : (b : Bool) (r : Result (Unit {0}) Fault) → first_of tags ≡ found b → r ≡ said b → OnOk r (new ≡ after) → OnOk r (unless (first_of (names ++ tags)) after ≡ Ok new)
  listed_ok true (Ok x) k e n = ap (λ o. unless o after) (both_none names tags none k) ∙ ap (λ (v : T). Ok v) (sym n)
  listed_ok false (Ok x) k e n = let bad : ⊥ = cc in absurd bad
  listed_ok b (Err f) k e n = tt

  listed_err : (b : Bool) (r : Result (Unit {0}) Fault) → first_of tags ≡ found b → r ≡ said b → IfErr r (λ fault. unless (first_of (names ++ tags)) after ≡ Err fault)
  listed_err b (Ok x) k e = tt
  listed_err true (Err f) k e = let bad : ⊥ = cc in absurd bad
  listed_err false (Err f) k e = let same : NoTag ≡ f = cc in ap (λ o. unless o after) (second_some names tags NoTag none k) ∙ ap (λ (v : Fault). Err v) same

module _ {T : Type 0} (view : ViewValue) (name : Word) (other : Option Word) where
  pub order_refused : (after : T) (fault : Fault) → Err fault ≡ unless {T = Unit {0}} (first_of (map name_check (name ∷ option_to_list other))) tt → unless (order_check view name other) after ≡ Err fault
  order_refused after fault h =
      let names = map name_check (name ∷ option_to_list other) in
      ap (λ o. unless o after) (first_some names (map (tag_check view) (name ∷ option_to_list other)) fault (fails (first_of names) fault h))

  pub order_ok : (new after : T) (r : Result (Unit {0}) Fault) (x : Unit {0}) → Ok x ≡ unless (first_of (map name_check (name ∷ option_to_list other))) tt
      → r ≡ (if is_listed name view.doc.tags && is_place other view.doc.tags then Ok tt else Err NoTag) → OnOk r (new ≡ after) → OnOk r (unless (order_check view name other) after ≡ Ok new)
  order_ok new after r x h e n =
      let names = map name_check (name ∷ option_to_list other) in
      listed_ok names (map (tag_check view) (name ∷ option_to_list other)) new after (passes (first_of names) x h) (is_listed name view.doc.tags && is_place other view.doc.tags) r (tags_found view name other) e n

  pub order_err : (after : T) (r : Result (Unit {0}) Fault) (x : Unit {0}) → Ok x ≡ unless (first_of (map name_check (name ∷ option_to_list other))) tt
      → r ≡ (if is_listed name view.doc.tags && is_place other view.doc.tags then Ok tt else Err NoTag) → IfErr r (λ fault. unless (order_check view name other) after ≡ Err fault)
  order_err after r x h e =
      let names = map name_check (name ∷ option_to_list other) in
      listed_err names (map (tag_check view) (name ∷ option_to_list other)) after after (passes (first_of names) x h) (is_listed name view.doc.tags && is_place other view.doc.tags) r (tags_found view name other) e
