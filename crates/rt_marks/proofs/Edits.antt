-- What an edit makes of marks, where a name was sought among them.
use Rattle.std.proofs.Common.{◌≡◌, ℕ, List, sym, ap, ◌∙◌, Some, None}
use Rattle.std.specs.Option.{option_map_or}
use Rattle.rt_marks.specs.declared.gravity.Gravity.{Gravity}
use Rattle.rt_marks.specs.declared.gravity.Gravity.TheVariants.{Right}
use Rattle.rt_marks.specs.Marks.{Mark, with_mark, mark_of_name, without_mark, put_mark, gravity_or_right, marks_set, marks_with_gravity}
use Rattle.rt_marks.proofs.Names.{without_none}

pub gravity_of_none : (q : List ℕ) (marks : List Mark) (gravity : Gravity) → mark_of_name q marks ≡ None → marks ≡ marks_with_gravity q gravity marks
gravity_of_none q marks gravity h = sym (ap (λ o. option_map_or (λ (m : Mark). put_mark (record m { gravity = gravity }) marks) o marks) h)

pub nothing_removed : (q : List ℕ) (marks : List Mark) → mark_of_name q marks ≡ None → marks ≡ without_mark q marks
nothing_removed q marks h = sym (without_none q marks h)

pub gravity_of_found : (q : List ℕ) (marks : List Mark) (gravity : Gravity) (m : Mark) → mark_of_name q marks ≡ Some m → put_mark (record m { gravity = gravity }) marks ≡ marks_with_gravity q gravity marks
gravity_of_found q marks gravity m h = sym (ap (λ o. option_map_or (λ (m : Mark). put_mark (record m { gravity = gravity }) marks) o marks) h)

pub set_of_found : (q : List ℕ) (marks : List Mark) (place : ℕ) (m : Mark) → m.name ≡ q → mark_of_name q marks ≡ Some m → put_mark (record m { place = place }) marks ≡ marks_set q place marks
set_of_found q marks place m e h =
    let kept : m.gravity ≡ gravity_or_right q marks = sym (ap (λ o. option_map_or (λ (m : Mark). m.gravity) o Right) h) in
    let same : record m { place = place } ≡ record { name = q; place = place; gravity = gravity_or_right q marks } = λ j. record { name = e j; place = place; gravity = kept j } in
    ap (λ v. put_mark v marks) same

pub set_of_none : (q : List ℕ) (marks : List Mark) (place : ℕ) (name : List ℕ) → name ≡ q → mark_of_name q marks ≡ None → with_mark (record { name = name; place = place; gravity = Right }) marks ≡ marks_set q place marks
set_of_none q marks place name e h =
    let fresh : Right ≡ gravity_or_right q marks = sym (ap (λ o. option_map_or (λ (m : Mark). m.gravity) o Right) h) in
    let same : record { name = name; place = place; gravity = Right } ≡ record { name = q; place = place; gravity = gravity_or_right q marks } = λ j. record { name = e j; place = place; gravity = fresh j } in
    ap (λ v. with_mark v marks) same ∙ ap (with_mark (record { name = q; place = place; gravity = gravity_or_right q marks })) (sym (without_none q marks h))
