-- Summaries of stretches that are joined.
use Rattle.std.proofs.Common.{◌≡◌, ℕ, ◌+◌, ◌<◌, ◌≤◌, Bool, List, [], ◌∷◌, ◌++◌, length, length-append, refl, sym, ap, subst, ◌∙◌, arith, Option, Some, None, true, false, true≢false, if◌then◌else◌}
use Rattle.std.specs.Prelude.{is_some, nat_lt}
use Rattle.std.proofs.lemmas.Bool.{ltb-true, ltb-false}
use Rattle.rt_store.proofs.Distinct.{split}
use Rattle.rt_tags.specs.Borders.{AreToggles, border, borders, either, first, is_tagged, last, one_or_none}
use Rattle.rt_tags.specs.States.{IsTag, TagStates}
use Rattle.rt_tags.specs.Toggles.{TagCounts, count_of}
use Rattle.rt_tags.proofs.Bordering.{few, first_of, joined, last_of}
use Rattle.rt_tags.proofs.Spreading.{fewer, replaced}
use Rattle.rt_tree.specs.declared.summary.Summary.{Summary}
use Rattle.rt_tree.specs.Summaries.{IsSummary}

module _ (table : TagStates) (xs ys : List ℕ) (a b new : Summary) (one : IsSummary table xs a) (other : IsSummary table ys b) where
  pub joined_summary : new.first ≡ either a.first b.first → new.last ≡ either b.last a.last
      → ((tag : ℕ) → IsTag table tag → count_of tag new.counts ≡ count_of tag a.counts + border (is_tagged table tag) a.last b.first + count_of tag b.counts)
      → ((tag : ℕ) → length table.names ≤ tag → count_of tag new.counts ≡ 0)
      → IsSummary table (xs ++ ys) new
  joined_summary f l counts none = record {
    first = f ∙ (λ j. either (one.first j) (other.first j)) ∙ sym (first_of xs ys);
    last = l ∙ (λ j. either (other.last j) (one.last j)) ∙ sym (last_of xs ys);
    counts = record {
      given = λ tag h.
          let c = counts tag h in
          let x = one.counts.given tag h in
          let y = other.counts.given tag h in
          let j = joined (is_tagged table tag) xs ys in
          let m : border (is_tagged table tag) a.last b.first ≡ border (is_tagged table tag) (last xs) (first ys) = (λ j. border (is_tagged table tag) (one.last j) (other.first j)) in
          omega (arith, c, x, y, j, m);
      others = none;
    };
  }

-- A STATE REPLACED

first_spread : (xs mid ys : List ℕ) → first (xs ++ (mid ++ ys)) ≡ either (first xs) (either (first mid) (first ys))
first_spread xs mid ys = first_of xs (mid ++ ys) ∙ ap (either (first xs)) (first_of mid ys)

last_spread : (xs mid ys : List ℕ) → last (xs ++ (mid ++ ys)) ≡ either (either (last ys) (last mid)) (last xs)
last_spread xs mid ys = last_of xs (mid ++ ys) ∙ ap (λ o. either o (last xs)) (last_of mid ys)

-- where there is a last one, there is a first one, and the other way round
ends : (xs : List ℕ) → is_some (last xs) ≡ is_some (first xs)
ends [] = refl
ends (x ∷ xs) = some (last xs) x
  where
    some : (o : Option ℕ) (x : ℕ) → is_some (either o (Some x)) ≡ true
    some None x = refl
    some (Some y) x = refl

first_one : (o : Option ℕ) → first (one_or_none o) ≡ o
first_one None = refl
first_one (Some x) = refl

last_one : (o : Option ℕ) → last (one_or_none o) ≡ o
last_one None = refl
last_one (Some x) = refl

if_some : (o p q : Option ℕ) → is_some o ≡ true → either o p ≡ either o q
if_some None p q e = absurd (true≢false (sym e))
if_some (Some x) p q e = refl

if_none : (o p : Option ℕ) → is_some o ≡ false → either o p ≡ p
if_none None p e = refl
if_none (Some x) p e = absurd (true≢false e)

either_or : (a b c : Option ℕ) → either (either a b) c ≡ either a (either b c)
either_or None b c = refl
either_or (Some x) b c = refl

module _ (table : TagStates) (xs ys : List ℕ) (old new : Option ℕ) (a b : Summary) (minus plus : TagCounts) where
  abbrev pub around_with : Option ℕ → List ℕ
  around_with o = one_or_none (last xs) ++ (one_or_none o ++ one_or_none (first ys))

  module _ (was : IsSummary table (xs ++ (one_or_none old ++ ys)) a) (less : AreToggles table (around_with old) minus) where
    -- what is taken away was there
    pub enough : (tag : ℕ) → count_of tag minus ≤ count_of tag a.counts
    enough tag = split (nat_lt tag (length table.names))
        (λ t. let h : tag < length table.names = ltb-true _ _ t in
        let m = less.given tag h in
        let c = was.counts.given tag h in
        let f = fewer (is_tagged table tag) xs (one_or_none old) ys in
        omega (arith, m, c, f))
        (λ f. let m = less.others tag (ltb-false _ _ f) in omega (arith, m))

    pub replaced_summary : AreToggles table (around_with new) plus
        → ((tag : ℕ) → count_of tag b.counts + count_of tag minus ≡ count_of tag a.counts + count_of tag plus)
        → b.first ≡ (if is_some (last xs) then a.first else either new (first ys))
        → b.last ≡ (if is_some (first ys) then a.last else either new (last xs))
        → IsSummary table (xs ++ (one_or_none new ++ ys)) b
    replaced_summary more counts f l = record {
      first = f ∙ split (is_some (last xs))
          (λ t. ap (λ c. if c then a.first else either new (first ys)) t ∙ was.first ∙ first_spread xs (one_or_none old) ys
          ∙ if_some (first xs) (either (first (one_or_none old)) (first ys)) (either (first (one_or_none new)) (first ys)) (sym (ends xs) ∙ t) ∙ sym (first_spread xs (one_or_none new) ys))
          (λ n. ap (λ c. if c then a.first else either new (first ys)) n ∙ ap (λ o. either o (first ys)) (sym (first_one new))
          ∙ sym (if_none (first xs) (either (first (one_or_none new)) (first ys)) (sym (ends xs) ∙ n)) ∙ sym (first_spread xs (one_or_none new) ys));
      last = l ∙ split (is_some (first ys))
          (λ t. ap (λ c. if c then a.last else either new (last xs)) t ∙ was.last ∙ last_spread xs (one_or_none old) ys
          ∙ either_or (last ys) (last (one_or_none old)) (last xs)
          ∙ if_some (last ys) (either (last (one_or_none old)) (last xs)) (either (last (one_or_none new)) (last xs)) (ends ys ∙ t)
          ∙ sym (either_or (last ys) (last (one_or_none new)) (last xs)) ∙ sym (last_spread xs (one_or_none new) ys))
          (λ n. ap (λ c. if c then a.last else either new (last xs)) n ∙ ap (λ o. either o (last xs)) (sym (last_one new))
          ∙ sym (if_none (last ys) (either (last (one_or_none new)) (last xs)) (ends ys ∙ n))
          ∙ sym (either_or (last ys) (last (one_or_none new)) (last xs)) ∙ sym (last_spread xs (one_or_none new) ys));
      counts = record {
        given = λ tag h.
            let c = counts tag in
            let m = less.given tag h in
            let p = more.given tag h in
            let w = was.counts.given tag h in
            let r = replaced (is_tagged table tag) xs (one_or_none old) (one_or_none new) ys in
            omega (arith, c, m, p, w, r);
        others = λ tag far.
            let c = counts tag in
            let p = more.others tag far in
            let w = was.counts.others tag far in
            omega (arith, c, p, w);
      };
    }

-- neighbours are those that are told
pub at_ends : (table : TagStates) (xs ys : List ℕ) (before after o : Option ℕ) (t : TagCounts) → last xs ≡ before → first ys ≡ after
    → AreToggles table (one_or_none before ++ (one_or_none o ++ one_or_none after)) t → AreToggles table (one_or_none (last xs) ++ (one_or_none o ++ one_or_none (first ys))) t
at_ends table xs ys before after o t e f h =
    subst (λ p. AreToggles table (one_or_none p ++ (one_or_none o ++ one_or_none (first ys))) t) (sym e)
    (subst (λ n. AreToggles table (one_or_none before ++ (one_or_none o ++ one_or_none n)) t) (sym f) h)

-- no more toggles than characters
pub few_toggles : (table : TagStates) (states : List ℕ) (t : TagCounts) → AreToggles table states t → (tag : ℕ) → count_of tag t ≤ length states
few_toggles table states t are tag = split (nat_lt tag (length table.names))
    (λ y. let e = are.given tag (ltb-true _ _ y) in let f = few (is_tagged table tag) states in omega (arith, e, f))
    (λ n. let e = are.others tag (ltb-false _ _ n) in omega (arith, e))

one_long : (o : Option ℕ) → length (one_or_none o) ≤ 1
one_long None = omega arith
one_long (Some x) = omega arith

pub length_spread : (xs ys : List ℕ) (o : Option ℕ) → length (xs ++ (one_or_none o ++ ys)) ≤ length xs + length ys + 1
length_spread xs ys o =
    let a = length-append xs (one_or_none o ++ ys) in
    let b = length-append (one_or_none o) ys in
    let c = one_long o in
    omega (arith, a, b, c)

pub length_three : (p v n : Option ℕ) → length (one_or_none p ++ (one_or_none v ++ one_or_none n)) ≤ 3
length_three p v n =
    let a = length_spread (one_or_none p) (one_or_none n) v in
    let b = one_long p in
    let c = one_long n in
    omega (arith, a, b, c)

-- A STATE BETWEEN ITS NEIGHBOURS

-- the borders that a state, or none, makes between its neighbours
pub three : (test : ℕ → Bool) (p v n : Option ℕ) → borders test (one_or_none p ++ (one_or_none v ++ one_or_none n)) ≡ (if is_some v then border test p v + border test v n else border test p n)
three test None None None = refl
three test None None (Some z) = refl
three test None (Some y) None = refl
three test None (Some y) (Some z) = omega arith
three test (Some x) None None = refl
three test (Some x) None (Some z) = omega arith
three test (Some x) (Some y) None = omega arith
three test (Some x) (Some y) (Some z) = omega arith

module _ (table : TagStates) (p v n : Option ℕ) (none one two : TagCounts) (empty : (tag : ℕ) → count_of tag none ≡ 0) where
  -- counted by one border, where there is no state
  pub around_none : is_some v ≡ false → ((tag : ℕ) → IsTag table tag → count_of tag one ≡ count_of tag none + border (is_tagged table tag) p n) → ((tag : ℕ) → length table.names ≤ tag → count_of tag one ≡ count_of tag none)
      → AreToggles table (one_or_none p ++ (one_or_none v ++ one_or_none n)) one
  around_none off given others = record {
    given = λ tag h.
        let g = given tag h in
        let z = empty tag in
        let t = three (is_tagged table tag) p v n ∙ ap (λ b. if b then border (is_tagged table tag) p v + border (is_tagged table tag) v n else border (is_tagged table tag) p n) off in
        omega (arith, g, z, t);
    others = λ tag far. others tag far ∙ empty tag;
  }
