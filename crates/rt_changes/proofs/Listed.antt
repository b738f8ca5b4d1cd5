-- What is listed with a tag on or off.
use Rattle.std.proofs.Common.{◌≡◌, List, [], ◌∷◌, ◌++◌, Bool, true, false, cond, ◌&&◌, ◌||◌, filter, refl, sym, ◌∙◌, ap}
use Rattle.std.specs.List.{list_any}
use Rattle.std.specs.Ordering.{is_eq, is_gt, is_lt}
use Rattle.std.specs.Str.{bytes_eq}
use Rattle.std.specs.declared.cmp.Ordering.{Ordering}
use Rattle.std.specs.declared.cmp.Ordering.TheVariants.{Less, Equal, Greater}
use Rattle.std.proofs.lemmas.List.Folds.{list_any-append}
use Rattle.std.proofs.lemmas.Map.Text.{is_eq-slice_cmp}
use Rattle.std.proofs.lemmas.Map.Views.{any-filter_same}
use Rattle.rt_stamps.specs.Names.{name_order}
use Rattle.rt_ops.specs.Operations.{Name}
use Rattle.rt_tags.specs.Tags.{is_listed}
use Rattle.rt_tags.proofs.Places.{same_name}
use Rattle.rt_changes.specs.Replays.{tags_with}

pub tags_listed : (on : Bool) (name q : Name) (tags : List Name) → is_listed q (tags_with on name tags) ≡ cond (bytes_eq q name) on (is_listed q tags)
tags_listed on name q tags =
    list_any-append (bytes_eq q) (filter (λ x. is_lt (name_order x name)) tags) (cond on (name ∷ []) [] ++ filter (λ x. is_gt (name_order x name)) tags)
    ∙ ap (λ b. b || list_any (bytes_eq q) (cond on (name ∷ []) [] ++ filter (λ x. is_gt (name_order x name)) tags))
    (any-filter_same (bytes_eq q) (λ x. is_lt (name_order x name)) (is_lt (name_order q name)) (λ x e. ap (λ n. is_lt (name_order n name)) (sym (same_name q x e))) tags)
    ∙ ap (λ b. (is_lt (name_order q name) && is_listed q tags) || b) (list_any-append (bytes_eq q) (cond on (name ∷ []) []) (filter (λ x. is_gt (name_order x name)) tags)
    ∙ ap (λ b. list_any (bytes_eq q) (cond on (name ∷ []) []) || b)
    (any-filter_same (bytes_eq q) (λ x. is_gt (name_order x name)) (is_gt (name_order q name)) (λ x e. ap (λ n. is_gt (name_order n name)) (sym (same_name q x e))) tags))
    ∙ by on (name_order q name) refl (bytes_eq q name) refl
  where
    other : (o : Ordering) → name_order q name ≡ o → bytes_eq q name ≡ is_eq o
    other o e = sym (is_eq-slice_cmp q name) ∙ ap is_eq e

    three : (on e l : Bool) (o : Ordering) → e ≡ is_eq o → ((is_lt o && l) || ((cond on (e || false) false) || (is_gt o && l))) ≡ cond e on l
    three true e true Less k = ap (λ b. cond b true true) (sym k)
    three true e false Less k = rw k refl
    three false e true Less k = rw k refl
    three false e false Less k = rw k refl
    three true e l Equal k = rw k refl
    three false e l Equal k = rw k refl
    three true e true Greater k = rw k refl
    three true e false Greater k = rw k refl
    three false e true Greater k = rw k refl
    three false e false Greater k = rw k refl

    given : (b : Bool) → list_any (bytes_eq q) (cond b (name ∷ []) []) ≡ cond b (bytes_eq q name || false) false
    given true = refl
    given false = refl

    by : (b : Bool) (o : Ordering) → name_order q name ≡ o → (e : Bool) → bytes_eq q name ≡ e
        → ((is_lt (name_order q name) && is_listed q tags) || (list_any (bytes_eq q) (cond b (name ∷ []) []) || (is_gt (name_order q name) && is_listed q tags))) ≡ cond (bytes_eq q name) b (is_listed q tags)
    by b o p e r =
        ap (λ c. (is_lt (name_order q name) && is_listed q tags) || (c || (is_gt (name_order q name) && is_listed q tags))) (given b)
        ∙ three b (bytes_eq q name) (is_listed q tags) (name_order q name) (other (name_order q name) refl)
