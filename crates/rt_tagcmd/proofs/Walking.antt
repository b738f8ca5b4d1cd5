-- A walk through marks in order, from the last to the first of them.
use Rattle.std.proofs.Common.{◌≡◌, ℕ, zero, suc, ◌≤◌, ◌<◌, ◌-◌, ◌∙◌, List, [], ◌∷◌, length, drop, map, Option, Some, None, arith, ap, sym}
use Rattle.std.specs.Prelude.{IfSome, option_map, slice_get}
use Rattle.rt_marks.specs.declared.mark_ref.MarkRef.{MarkRef}
use Rattle.rt_marks.specs.Seen.{spotted}
use Rattle.rt_marks.specs.Marks.{Mark, HaveOwnNames, AreInOrder, in_order}
use Rattle.rt_marks.proofs.Names.{ordered_in_order}
use Rattle.rt_lines.specs.declared.stretch.Stretch.{Stretch}
use Rattle.rt_text.specs.Widgets.{mark_seen}
use Rattle.rt_tagcmd.proofs.ShownMarks.{own_seen_names}

-- those that the walk has passed, where it has so many left before them, as a stretch sees them
abbrev pub passed_seen : Stretch → ℕ → List Mark → List Mark
passed_seen stretch left marks = in_order (map (mark_seen stretch) (drop left marks))

passed_names : (left : ℕ) (marks : List Mark) → HaveOwnNames marks → HaveOwnNames (drop left marks)
passed_names zero marks h = h
passed_names (suc left) [] h = tt
passed_names (suc left) (m ∷ marks) h = passed_names left marks h.1

pub seen_ordered : (stretch : Stretch) (left : ℕ) (marks : List Mark) → HaveOwnNames marks → AreInOrder (passed_seen stretch left marks)
seen_ordered stretch left marks h = ordered_in_order (map (mark_seen stretch) (drop left marks)) (own_seen_names stretch (drop left marks) (passed_names left marks h))

-- one more is passed
pub next_passed : (at : ℕ) (m : Mark) (marks : List Mark) → slice_get marks at ≡ Some m → drop at marks ≡ m ∷ drop (suc at) marks
next_passed zero m [] e = let bad : ⊥ = cc in absurd bad
next_passed zero m (x ∷ marks) e = let same : x ≡ m = cc in ap (λ v. v ∷ marks) same
next_passed (suc at) m [] e = let bad : ⊥ = cc in absurd bad
next_passed (suc at) m (x ∷ marks) e = next_passed at m marks e

pub is_last : (o : Option MarkRef) (count : ℕ) (marks : List Mark) → 0 < count → option_map spotted o ≡ slice_get marks (count - 1)
    → IfSome o (λ mark. (0 < count) × (drop (count - 1) marks ≡ spotted mark ∷ drop count marks))
is_last None count marks l e = tt
is_last (Some mark) count marks l e =
    let back : suc (count - 1) ≡ count = omega (arith, l) in
    (l, next_passed (count - 1) (spotted mark) marks (sym e) ∙ ap (λ n. spotted mark ∷ drop n marks) back)

some_within : (at : ℕ) (marks : List Mark) → at < length marks → slice_get marks at ≡ None → ⊥
some_within at [] l e = omega (arith, l)
some_within zero (m ∷ marks) l e = cc
some_within (suc at) (m ∷ marks) l e = some_within at marks (omega (arith, l)) e

pub none_left : (o : Option MarkRef) (count : ℕ) (marks : List Mark) → 0 < count → count ≤ length marks → option_map spotted o ≡ slice_get marks (count - 1) → o ≡ None → count ≡ 0
none_left o count marks l within e none =
    absurd (some_within (count - 1) marks (omega (arith, l, within)) (sym e ∙ ap (option_map spotted) none))
