-- Stamps of characters, some of which came back under other stamps, one after the other.
use Rattle.std.proofs.Common.{◌≡◌, ◌∙◌, ◌<◌, ◌||◌, Bool, true, false, List, [], ◌∷◌, ◌++◌, ap, refl, sym, arith}
use Rattle.std.proofs.lemmas.Bool.{both_ways, cond-false, cond-true, or_from, or_left, or_right}
use Rattle.std.proofs.lemmas.Bool.Decides.{nat_tests}
use Rattle.rt_stamps.specs.declared.stamp.Stamp.{Stamp}
use Rattle.rt_stamps.specs.Stamps.{is_same}
use Rattle.rt_store.proofs.Distinct.{split}
use Rattle.rt_undo.specs.Renames.{replaced}
use Rattle.rt_revert.proofs.TakenBack.{stamp_after_more}
use Rattle.rt_recording.specs.Returns.{AreReturns, IsReturn, Return, back_after, back_with, stamp_after}

-- who came back did so for good
back_stays : (returns : List Return) (back : Stamp → Bool) (s : Stamp) → back s ≡ true → back_after returns back s ≡ true
back_stays [] back s h = h
back_stays (r ∷ returns) back s h = back_stays returns (back_with r back) s (or_right (is_same s r.former) (back s) h)

-- who didn't come back has its stamp still
pub stamp_stays : (returns : List Return) (back : Stamp → Bool) (s : Stamp) → back_after returns back s ≡ false → stamp_after returns s ≡ s
stamp_stays [] back s h = refl
stamp_stays (r ∷ returns) back s h = split (is_same s r.former)
    (λ e. absurd (both_ways (back_after returns (back_with r back) s) h (back_stays returns (back_with r back) s (or_left (is_same s r.former) (back s) e))))
    (λ e. ap (stamp_after returns) (cond-false (is_same s r.former) r.newer s e) ∙ stamp_stays returns (back_with r back) s h)

-- ONE MORE

back_more : (returns : List Return) (r : Return) (back : Stamp → Bool) (s : Stamp) → back_after (returns ++ r ∷ []) back s ≡ back_with r (back_after returns back) s
back_more [] r back s = refl
back_more (x ∷ returns) r back s = back_more returns r (back_with x back) s

pub returns_more : (returns : List Return) (r : Return) (back : Stamp → Bool) → AreReturns back returns → IsReturn (back_after returns back) r
    → AreReturns back (returns ++ r ∷ [])
returns_more [] r back are is = (is, tt)
returns_more (x ∷ returns) r back are is = (are.0, returns_more returns r (back_with x back) are.1 is)

counts_differ : (s t : Stamp) → t.count < s.count → is_same s t ≡ false
counts_differ s t lt = grind (arith, nat_tests)

step_stays : (r : Return) (back : Stamp → Bool) (s : Stamp) → IsReturn back r → back s ≡ false → back_with r back (replaced r.former r.newer s) ≡ false
step_stays r back s is h = split (is_same s r.former)
    (λ e. ap (back_with r back) (cond-true (is_same s r.former) r.newer s e)
    ∙ or_from (is_same r.newer r.former) (back r.newer) (counts_differ r.newer r.former is.later) is.fresh)
    (λ e. ap (back_with r back) (cond-false (is_same s r.former) r.newer s e) ∙ or_from (is_same s r.former) (back s) e h)

-- the character of a stamp didn't come back under another one than it has now
abbrev pub Stays : (Stamp → Bool) → List Return → Stamp → Type 0
Stays back returns s = back_after returns back (stamp_after returns s) ≡ false

pub stays_more : (returns : List Return) (r : Return) (back : Stamp → Bool) (s : Stamp) → IsReturn (back_after returns back) r → Stays back returns s
    → Stays back (returns ++ r ∷ []) s
stays_more returns r back s is h =
    ap (back_after (returns ++ r ∷ []) back) (stamp_after_more returns r s)
    ∙ back_more returns r back (replaced r.former r.newer (stamp_after returns s))
    ∙ step_stays r (back_after returns back) (stamp_after returns s) is h

pub stays_here : (returns : List Return) (back : Stamp → Bool) (s : Stamp) → back_after returns back s ≡ false → Stays back returns s
stays_here returns back s h = ap (back_after returns back) (stamp_stays returns back s h) ∙ h

-- who came back after one more
pub back_one : (returns : List Return) (r : Return) (back : Stamp → Bool) (s : Stamp) → back_after (returns ++ r ∷ []) back s ≡ true
    → is_same s r.former ≡ false → back_after returns back s ≡ true
back_one returns r back s h e = rest (is_same s r.former) (back_after returns back s) e (sym (back_more returns r back s) ∙ h)
  where
    rest : (a b : Bool) → a ≡ false → (a || b) ≡ true → b ≡ true
    rest true b e f = absurd (cc e)
    rest false b e f = f
