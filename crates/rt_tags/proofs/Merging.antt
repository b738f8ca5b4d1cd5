-- States of many writes, merged from two that are by name.
use Rattle.std.proofs.Common.{◌≡◌, ℕ, ◌+◌, ◌<◌, List, [], ◌∷◌, ◌++◌, length, Bool, true, false, not, cond, refl, sym, ap, subst, ◌∙◌, arith, Option, Some, None, append-nil}
use Rattle.std.specs.List.{AllByRecursion}
use Rattle.std.specs.Ordering.{is_lt, is_gt, is_eq, ordering_reverse}
use Rattle.std.specs.Str.{bytes_eq}
use Rattle.std.specs.declared.cmp.Ordering.TheVariants.{Less, Equal, Greater}
use Rattle.std.proofs.lemmas.Cmp.{nat_list_cmp_total}
use Rattle.std.proofs.lemmas.List.{map-append}
use Rattle.std.proofs.lemmas.List.Elements.{All-head, All-tail}
use Rattle.std.proofs.lemmas.Map.Text.{is_eq-slice_cmp}
use Rattle.rt_stamps.specs.Names.{name_order}
use Rattle.rt_stamps.specs.Stamps.{is_before}
use Rattle.rt_tags.specs.States.{Write, IsByName, writes_above, writes_below, is_kept, is_settled, write_of, written}
use Rattle.rt_tags.specs.Writers.{greater, greatest, state_after, writes_of}
use Rattle.rt_tags.specs.Kept.{HaveNames, IsFirst, IsSorted, all_seen, write_seen}
use Rattle.rt_tags.specs.declared.states.TagEntry.{TagEntry}
use Rattle.rt_tags.proofs.Commuting.{all_above, back_other, none_above, one_state}
use Rattle.rt_tags.proofs.Greatest.{after_all, newer, top}
use Rattle.rt_tags.proofs.Places.{name_itself, same_name}
use Rattle.rt_tags.proofs.Sorted.{turned, written_sorted}

-- a name that is less than another
opposite : (a b : List ℕ) → name_order a b ≡ Less → name_order b a ≡ Greater
opposite a b h = nat_list_cmp_total.antisymm b a ∙ ap ordering_reverse h

-- A WRITE AND THE FIRST OF A STATE

-- the first write of a state stays there where the new one's name comes after it
front_written : (x y : Write) (s : List Write) → name_order x.name y.name ≡ Less → written y (x ∷ s) ≡ x ∷ written y s
front_written x y s l =
    let other : bytes_eq y.name x.name ≡ false = back_other x.name y.name (sym (is_eq-slice_cmp x.name y.name) ∙ ap is_eq l) in
    (λ j. cond (is_kept (cond (other j) (Some x) (write_of y.name s)) y) (x ∷ s) (cond (is_lt (l j)) (x ∷ writes_below y.name s) (writes_below y.name s) ++ y ∷ cond (is_gt (l j)) (x ∷ writes_above y.name s) (writes_above y.name s)))
    ∙ by (is_settled y s)
  where
    by : (b : Bool) → cond b (x ∷ s) (x ∷ writes_below y.name s ++ y ∷ writes_above y.name s) ≡ x ∷ cond b s (writes_below y.name s ++ y ∷ writes_above y.name s)
    by true = refl
    by false = refl

none_below : (name : List ℕ) (s : List Write) → AllByRecursion (λ v. name_order name v.name ≡ Less) s → writes_below name s ≡ []
none_below name [] h = refl
none_below name (v ∷ s) h = ap (λ o. cond (is_lt o) (v ∷ writes_below name s) (writes_below name s)) (opposite name v.name h.0) ∙ none_below name s h.1

rest_above : (name : List ℕ) (s : List Write) → AllByRecursion (λ v. name_order name v.name ≡ Less) s → writes_above name s ≡ s
rest_above name [] h = refl
rest_above name (v ∷ s) h = ap (λ o. cond (is_gt o) (v ∷ writes_above name s) (writes_above name s)) (opposite name v.name h.0) ∙ ap (λ r. v ∷ r) (rest_above name s h.1)

-- a write whose name comes before all of a state
written_first : (y : Write) (s : List Write) → AllByRecursion (λ v. name_order y.name v.name ≡ Less) s → written y s ≡ y ∷ s
written_first y s h =
    ap (λ o. cond (is_kept o y) s (writes_below y.name s ++ y ∷ writes_above y.name s)) (none_above y.name s h)
    ∙ (λ j. none_below y.name s h j ++ y ∷ rest_above y.name s h j)

-- a write of the first tag of a state
written_same : (x y : Write) (s : List Write) → name_order x.name y.name ≡ Equal → AllByRecursion (λ v. name_order x.name v.name ≡ Less) s → written y (x ∷ s) ≡ newer (Some x) y ∷ s
written_same x y s e h =
    let one : x.name ≡ y.name = same_name x.name y.name (sym (is_eq-slice_cmp x.name y.name) ∙ ap is_eq e) in
    let same : bytes_eq y.name x.name ≡ true = subst (λ n. bytes_eq y.name n ≡ true) (sym one) (name_itself y.name) in
    let more : AllByRecursion (λ v. name_order y.name v.name ≡ Less) s = subst (λ n. AllByRecursion (λ v. name_order n v.name ≡ Less) s) one h in
    (λ j. cond (is_kept (cond (same j) (Some x) (write_of y.name s)) y) (x ∷ s) (cond (is_lt (e j)) (x ∷ writes_below y.name s) (writes_below y.name s) ++ y ∷ cond (is_gt (e j)) (x ∷ writes_above y.name s) (writes_above y.name s)))
    ∙ (λ j. cond (not (is_before x.writer y.writer)) (x ∷ s) (none_below y.name s more j ++ y ∷ rest_above y.name s more j))
    ∙ by (is_before x.writer y.writer)
  where
    by : (b : Bool) → cond (not b) (x ∷ s) (y ∷ s) ≡ cond b y x ∷ s
    by true = refl
    by false = refl

-- WRITES BEHIND THE FIRST OF A STATE

front_stays : (x : Write) (s t : List Write) → AllByRecursion (λ v. name_order x.name v.name ≡ Less) t → state_after (x ∷ s) t ≡ x ∷ state_after s t
front_stays x s [] h = refl
front_stays x s (y ∷ t) h = ap (λ r. state_after r t) (front_written x y s h.0) ∙ front_stays x (written y s) t h.1

first_new : (y : Write) (t : List Write) → IsByName (y ∷ t) → state_after [] (y ∷ t) ≡ y ∷ state_after [] t
first_new y t h = front_stays y [] t h.0

first_less : (x y : Write) (s t : List Write) → IsByName (y ∷ t) → name_order x.name y.name ≡ Less → state_after (x ∷ s) (y ∷ t) ≡ x ∷ state_after s (y ∷ t)
first_less x y s t h l = front_stays x s (y ∷ t) (all_above x.name y t h l)

first_greater : (x y : Write) (s t : List Write) → IsByName (x ∷ s) → IsByName (y ∷ t) → name_order x.name y.name ≡ Greater → state_after (x ∷ s) (y ∷ t) ≡ y ∷ state_after (x ∷ s) t
first_greater x y s t g h l =
    ap (λ r. state_after r t) (written_first y (x ∷ s) (all_above y.name x s g (turned x.name y.name l)))
    ∙ front_stays y (x ∷ s) t h.0

first_equal : (x y : Write) (s t : List Write) → IsByName (x ∷ s) → IsByName (y ∷ t) → name_order x.name y.name ≡ Equal → state_after (x ∷ s) (y ∷ t) ≡ newer (Some x) y ∷ state_after s t
first_equal x y s t g h e =
    let one : x.name ≡ y.name = same_name x.name y.name (sym (is_eq-slice_cmp x.name y.name) ∙ ap is_eq e) in
    ap (λ r. state_after r t) (written_same x y s e g.0)
    ∙ front_stays (newer (Some x) y) s t (by (is_before x.writer y.writer) one)
  where
    by : (b : Bool) → x.name ≡ y.name → AllByRecursion (λ v. name_order (cond b y x).name v.name ≡ Less) t
    by true n = h.0
    by false n = subst (λ m. AllByRecursion (λ v. name_order m v.name ≡ Less) t) (sym n) h.0

-- STATES OF WHOLE LISTS

pub after_by_name : (s t : List Write) → IsByName s → IsByName (state_after s t)
after_by_name s [] h = h
after_by_name s (y ∷ t) h = after_by_name (written y s) t (written_sorted y s h)

pub after_append : (s t u : List Write) → state_after s (t ++ u) ≡ state_after (state_after s t) u
after_append s [] u = refl
after_append s (y ∷ t) u = after_append (written y s) t u

itself_again : (t : List Write) → IsByName t → state_after [] t ≡ t
itself_again [] h = refl
itself_again (y ∷ t) h = first_new y t h ∙ ap (λ r. y ∷ r) (itself_again t h.1)

top_by : (o : Option Write) (t u : List Write) → greatest t ≡ greatest u → top o t ≡ top o u
top_by None t u e = e
top_by (Some v) t u e = ap (λ g. Some (greater v g)) e

-- writes leave on a state what the state that they make leaves on it
pub after_made : (s t : List Write) → IsByName s → state_after s (state_after [] t) ≡ state_after s t
after_made s t h =
    let made = state_after [] t in
    let sorted : IsByName made = after_by_name [] t tt in
    one_state (state_after s made) (state_after s t) (after_by_name s made h) (after_by_name s t h)
    (λ q. after_all q s made
    ∙ top_by (write_of q s) (writes_of q made) (writes_of q t) (sym (after_all q [] made) ∙ ap (write_of q) (itself_again made sorted) ∙ after_all q [] t)
    ∙ sym (after_all q s t))

pub halves : (t u : List Write) → state_after [] (t ++ u) ≡ state_after (state_after [] t) (state_after [] u)
halves t u = after_append [] t u ∙ sym (after_made (state_after [] t) u (after_by_name [] t tt))

-- ENTRIES

module _ (names : List (List ℕ)) where
  rest_sorted : (x : TagEntry) (more : List TagEntry) → IsSorted names (x ∷ more) → IsSorted names more
  rest_sorted x more h = record { named = All-tail (λ (e : TagEntry). e.tag < length names) x more h.named; by_name = h.by_name.1 }

  named_first : (x : TagEntry) (more : List TagEntry) → IsSorted names (x ∷ more) → x.tag < length names
  named_first x more h = All-head (λ (e : TagEntry). e.tag < length names) x more h.named

  pub named_in : (x : TagEntry) (xs more : List TagEntry) → (xs ≡ x ∷ more) × (length more + 1 ≡ length xs) → IsSorted names xs → x.tag < length names
  named_in x xs more (e, l) h = named_first x more (subst (IsSorted names) e h)

  pub first_in_new : (old new more : List TagEntry) (y : TagEntry) → length old ≡ 0 → (new ≡ y ∷ more) × (length more + 1 ≡ length new) → IsSorted names old → IsSorted names new → IsFirst names old new y old more
  first_in_new (x ∷ old) new more y z e g h = absurd (omega (arith, z))
  first_in_new [] new more y z (e, l) g h =
      let k = subst (IsSorted names) e h in
      record {
        named = named_first y more k;
        first = ap (λ v. state_after [] (all_seen names v)) e ∙ first_new (write_seen names y) (all_seen names more) k.by_name;
        old_sorted = g;
        new_sorted = rest_sorted y more k;
        less = omega (arith, l);
      }

  pub first_in_old : (old new more : List TagEntry) (x : TagEntry) → (old ≡ x ∷ more) × (length more + 1 ≡ length old) → length new ≡ 0 → IsSorted names old → IsSorted names new → IsFirst names old new x more new
  first_in_old old (y ∷ new) more x e z g h = absurd (omega (arith, z))
  first_in_old old [] more x (e, l) z g h =
      let k = subst (IsSorted names) e g in
      record {
        named = named_first x more k;
        first = ap (all_seen names) e;
        old_sorted = rest_sorted x more k;
        new_sorted = h;
        less = omega (arith, l);
      }

  module _ (old new more_old more_new : List TagEntry) (x y : TagEntry) (e : (old ≡ x ∷ more_old) × (length more_old + 1 ≡ length old)) (f : (new ≡ y ∷ more_new) × (length more_new + 1 ≡ length new)) (g : IsSorted names old) (h : IsSorted names new) where
    both : state_after (all_seen names old) (all_seen names new) ≡ state_after (all_seen names (x ∷ more_old)) (all_seen names (y ∷ more_new))
    both = λ j. state_after (all_seen names (e.0 j)) (all_seen names (f.0 j))

    old_is : IsSorted names (x ∷ more_old)
    old_is = subst (IsSorted names) e.0 g

    new_is : IsSorted names (y ∷ more_new)
    new_is = subst (IsSorted names) f.0 h

    pub first_is_less : name_order (write_seen names x).name (write_seen names y).name ≡ Less → IsFirst names old new x more_old new
    first_is_less l = record {
      named = named_first x more_old old_is;
      first = both ∙ first_less (write_seen names x) (write_seen names y) (all_seen names more_old) (all_seen names more_new) new_is.by_name l ∙ ap (λ v. write_seen names x ∷ state_after (all_seen names more_old) (all_seen names v)) (sym f.0);
      old_sorted = rest_sorted x more_old old_is;
      new_sorted = h;
      less = omega (arith, e.1);
    }

    pub first_is_greater : name_order (write_seen names x).name (write_seen names y).name ≡ Greater → IsFirst names old new y old more_new
    first_is_greater l = record {
      named = named_first y more_new new_is;
      first = both ∙ first_greater (write_seen names x) (write_seen names y) (all_seen names more_old) (all_seen names more_new) old_is.by_name new_is.by_name l ∙ ap (λ v. write_seen names y ∷ state_after (all_seen names v) (all_seen names more_new)) (sym e.0);
      old_sorted = g;
      new_sorted = rest_sorted y more_new new_is;
      less = omega (arith, f.1);
    }

    pub first_is_equal : (z : TagEntry) → name_order (write_seen names x).name (write_seen names y).name ≡ Equal → z ≡ cond (is_before x.writer y.writer) y x → IsFirst names old new z more_old more_new
    first_is_equal z l r = record {
      named = subst (λ (v : TagEntry). v.tag < length names) (sym r) (either (is_before x.writer y.writer));
      first = both ∙ first_equal (write_seen names x) (write_seen names y) (all_seen names more_old) (all_seen names more_new) old_is.by_name new_is.by_name l ∙ ap (λ w. w ∷ state_after (all_seen names more_old) (all_seen names more_new)) (one (is_before x.writer y.writer) ∙ ap (write_seen names) (sym r));
      old_sorted = rest_sorted x more_old old_is;
      new_sorted = rest_sorted y more_new new_is;
      less = omega (arith, e.1, f.1);
    }
      where
        either : (b : Bool) → (cond b y x).tag < length names
        either true = named_first y more_new new_is
        either false = named_first x more_old old_is

        one : (b : Bool) → cond b (write_seen names y) (write_seen names x) ≡ write_seen names (cond b y x)
        one true = refl
        one false = refl

  -- at the end nothing is left
  pub all_merged : (old new out : List TagEntry) (state : List Write) → (old ≡ []) × (new ≡ []) → all_seen names out ++ state_after (all_seen names old) (all_seen names new) ≡ state → all_seen names out ≡ state
  all_merged old new out state (e, f) h = sym (append-nil (all_seen names out)) ∙ (λ j. all_seen names out ++ state_after (all_seen names (sym e j)) (all_seen names (sym f j))) ∙ h

  pub merged_sorted : (old new out : List TagEntry) → IsSorted names old → HaveNames (length names) out → all_seen names out ≡ state_after (all_seen names old) (all_seen names new) → IsSorted names out
  merged_sorted old new out g n e = record { named = n; by_name = subst IsByName (sym e) (after_by_name (all_seen names old) (all_seen names new) g.by_name) }

  -- a list of at most one
  pub short_sorted : (entries : List TagEntry) → length entries < 2 → HaveNames (length names) entries → IsSorted names entries
  short_sorted [] l n = record { named = n; by_name = tt }
  short_sorted (x ∷ []) l n = record { named = n; by_name = (tt, tt) }
  short_sorted (x ∷ y ∷ entries) l n = absurd (omega (arith, l))

  pub short_made : (entries : List TagEntry) → length entries < 2 → all_seen names entries ≡ state_after [] (all_seen names entries)
  short_made [] l = refl
  short_made (x ∷ []) l = refl
  short_made (x ∷ y ∷ entries) l = absurd (omega (arith, l))

  pub halves_made : (all front back f b : List TagEntry) → all ≡ front ++ back → all_seen names f ≡ state_after [] (all_seen names front) → all_seen names b ≡ state_after [] (all_seen names back)
      → state_after (all_seen names f) (all_seen names b) ≡ state_after [] (all_seen names all)
  halves_made all front back f b e g h =
      (λ j. state_after (g j) (h j))
      ∙ sym (halves (all_seen names front) (all_seen names back))
      ∙ ap (state_after []) (sym (map-append (write_seen names) front back) ∙ ap (all_seen names) (sym e))
