-- Tags that are on in one state and not in another.
use Rattle.std.proofs.Common.{◌≡◌, ℕ, ◌+◌, ◌<◌, ◌≤◌, nat_lt, Bool, true, false, cond, List, [], ◌∷◌, length, refl, sym, arith, true≢false}
use Rattle.std.proofs.lemmas.Bool.{ltb-true, ltb-false}
use Rattle.rt_tags.specs.declared.toggles.TagCount.{TagCount}
use Rattle.rt_tags.specs.Borders.{beyond}
use Rattle.rt_tags.specs.Toggles.{AreFrom, count_in}
use Rattle.rt_tags.proofs.Counts.{next, share, share_own}
use Rattle.rt_tags.proofs.Places.{split}

-- ROOM

-- as many counts as there are tags at most, from a first one on
pub within : (low n : ℕ) (cs : List TagCount) → low ≤ n → AreFrom low cs → ((tag : ℕ) → n ≤ tag → count_in tag cs ≡ 0) → length cs + low ≤ n
within low n [] l h none = omega (arith, l)
within low n (c ∷ cs) l h none =
    let own : share c.tag c ≡ c.count = share_own c.tag c refl in
    let some : 0 < count_in c.tag (c ∷ cs) = let e = next c.tag c cs in let pos : 0 < c.count = h.1 in omega (arith, e, own, pos) in
    let less : c.tag < n = split (nat_lt c.tag n) (λ t. ltb-true _ _ t) (λ f. let z : count_in c.tag (c ∷ cs) ≡ 0 = none c.tag (ltb-false _ _ f) in absurd (omega (arith, z, some))) in
    let low_is : low ≤ c.tag = h.0 in
    let rest = within (c.tag + 1) n cs (omega (arith, less)) h.2 (λ tag more. let e = next tag c cs in let z : count_in tag (c ∷ cs) ≡ 0 = none tag more in omega (arith, e, z)) in
    omega (arith, rest, low_is)

-- BOTH WAYS

abbrev differ : Bool → Bool → ℕ
differ a b = cond a (cond b 0 1) (cond b 1 0)

pub both : (a b : Bool) → beyond a b + beyond b a ≡ differ a b
both true true = refl
both true false = refl
both false true = refl
both false false = refl

pub most_one : (a b : Bool) → beyond a b ≤ 1
most_one true true = omega arith
most_one true false = omega arith
most_one false b = omega arith

abbrev none : ℕ
none = 0

pub same_none : (a b : Bool) → a ≡ b → beyond a b + beyond b a ≡ none
same_none true true e = refl
same_none true false e = absurd (true≢false e)
same_none false true e = absurd (true≢false (sym e))
same_none false false e = refl
