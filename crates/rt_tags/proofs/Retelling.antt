-- Toggles by a later table.
use Rattle.std.proofs.Common.{◌≡◌, ℕ, ◌<◌, ◌≤◌, false, List, [], ◌∷◌, length, sym, ap, ◌∙◌, arith, nat_lt}
use Rattle.std.proofs.lemmas.Bool.{ltb-true, ltb-false}
use Rattle.std.specs.List.{AllByRecursion}
use Rattle.rt_tags.specs.Borders.{AreToggles, borders, is_tagged}
use Rattle.rt_tags.specs.States.{IsState, IsTag, KeepsIds, TagStates, is_on, name_at, state_at}
use Rattle.rt_tags.specs.Toggles.{TagCounts, count_of}
use Rattle.rt_tags.proofs.Bordering.{none_pass, same_borders}
use Rattle.rt_tags.proofs.Places.{split}

module _ (old new : TagStates) (keeps : KeepsIds old new) (tag : ℕ) where
  -- a tag of both
  alike : IsTag old tag → (states : List ℕ) → AllByRecursion (IsState old) states → AllByRecursion (λ s. is_tagged old tag s ≡ is_tagged new tag s) states
  alike h [] all = tt
  alike h (s ∷ states) all =
      let e : is_tagged new tag s ≡ is_tagged old tag s = ap (λ n. is_on n (state_at new s)) (keeps.tags tag h).1 ∙ ap (is_on (name_at old tag)) (keeps.states s all.0).1 in
      (sym e, alike h states all.1)

  -- a tag of the later one alone
  nowhere : length old.names ≤ tag → IsTag new tag → (states : List ℕ) → AllByRecursion (IsState old) states → AllByRecursion (λ s. is_tagged new tag s ≡ false) states
  nowhere more h [] all = tt
  nowhere more h (s ∷ states) all = (keeps.later tag s more h all.0, nowhere more h states all.1)

pub retold : (old new : TagStates) (states : List ℕ) (t : TagCounts) → KeepsIds old new → AllByRecursion (IsState old) states → AreToggles old states t → AreToggles new states t
retold old new states t keeps all are = record { given = given; others = others }
  where
    given : (tag : ℕ) → IsTag new tag → count_of tag t ≡ borders (is_tagged new tag) states
    given tag h =
        split (nat_lt tag (length old.names))
        (λ less. are.given tag (ltb-true _ _ less) ∙ same_borders (is_tagged old tag) (is_tagged new tag) states (alike old new keeps tag (ltb-true _ _ less) states all))
        (λ more. are.others tag (ltb-false _ _ more) ∙ sym (none_pass (is_tagged new tag) states (nowhere old new keeps tag (ltb-false _ _ more) h states all)))

    others : (tag : ℕ) → length new.names ≤ tag → count_of tag t ≡ 0
    others tag l =
        split (nat_lt tag (length old.names))
        (λ less. let h : tag < length new.names = (keeps.tags tag (ltb-true _ _ less)).0 in absurd (omega (arith, h, l)))
        (λ more. are.others tag (ltb-false _ _ more))
