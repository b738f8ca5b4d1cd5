-- States stay in the order of their names.
use Rattle.std.proofs.Common.{◌≡◌, ℕ, List, [], ◌∷◌, ◌++◌, filter, Bool, true, false, true≢false, cond, refl, sym, ap, subst, ◌∙◌}
use Rattle.std.specs.List.{AllByRecursion}
use Rattle.std.specs.Ordering.{is_lt, is_gt, ordering_reverse}
use Rattle.std.specs.declared.cmp.Ordering.{Ordering}
use Rattle.std.specs.declared.cmp.Ordering.TheVariants.{Less, Equal, Greater}
use Rattle.std.proofs.lemmas.Cmp.{nat_list_cmp_total}
use Rattle.rt_stamps.specs.Names.{name_order}
use Rattle.rt_tags.specs.States.{Write, IsByName, writes_below, writes_above, written, is_settled}
use Rattle.rt_tags.proofs.Places.{split}

lesser : (o : Ordering) → is_lt o ≡ true → o ≡ Less
lesser Less h = refl
lesser Equal h = absurd (true≢false (sym h))
lesser Greater h = absurd (true≢false (sym h))

greater : (o : Ordering) → is_gt o ≡ true → o ≡ Greater
greater Less h = absurd (true≢false (sym h))
greater Equal h = absurd (true≢false (sym h))
greater Greater h = refl

-- a name that another is greater than
pub turned : (a b : List ℕ) → name_order a b ≡ Greater → name_order b a ≡ Less
turned a b h = nat_list_cmp_total.antisymm b a ∙ ap ordering_reverse h

pub every : {X : Type 0} (P Q : X → Type 0) → ((x : X) → P x → Q x) → (xs : List X) → AllByRecursion P xs → AllByRecursion Q xs
every P Q f [] h = tt
every P Q f (x ∷ xs) h = (f x h.0, every P Q f xs h.1)

pub every_append : {X : Type 0} (P : X → Type 0) (xs ys : List X) → AllByRecursion P xs → AllByRecursion P ys → AllByRecursion P (xs ++ ys)
every_append P [] ys h k = k
every_append P (x ∷ xs) ys h k = (h.0, every_append P xs ys h.1 k)

every_filter : {X : Type 0} (P : X → Type 0) (test : X → Bool) (xs : List X) → AllByRecursion P xs → AllByRecursion P (filter test xs)
every_filter P test [] h = tt
every_filter P test (x ∷ xs) h = by (test x) (every_filter P test xs h.1)
  where
    by : (b : Bool) → AllByRecursion P (filter test xs) → AllByRecursion P (cond b (x ∷ filter test xs) (filter test xs))
    by true r = (h.0, r)
    by false r = r

every_passes : {X : Type 0} (test : X → Bool) (xs : List X) → AllByRecursion (λ x. test x ≡ true) (filter test xs)
every_passes test [] = tt
every_passes test (x ∷ xs) = by (test x) refl (every_passes test xs)
  where
    by : (b : Bool) → test x ≡ b → AllByRecursion (λ x. test x ≡ true) (filter test xs) → AllByRecursion (λ x. test x ≡ true) (cond b (x ∷ filter test xs) (filter test xs))
    by true e r = (e, r)
    by false e r = r

sorted_filter : (test : Write → Bool) (state : List Write) → IsByName state → IsByName (filter test state)
sorted_filter test [] h = tt
sorted_filter test (w ∷ state) h = by (test w) (sorted_filter test state h.1)
  where
    by : (b : Bool) → IsByName (filter test state) → IsByName (cond b (w ∷ filter test state) (filter test state))
    by true r = (every_filter (λ v. name_order w.name v.name ≡ Less) test state h.0, r)
    by false r = r

sorted_join : (front : List Write) (w : Write) (back : List Write) → IsByName front → AllByRecursion (λ v. name_order v.name w.name ≡ Less) front → AllByRecursion (λ v. name_order w.name v.name ≡ Less) back → IsByName back → IsByName (front ++ w ∷ back)
sorted_join [] w back f g h k = (h, k)
sorted_join (v ∷ front) w back f g h k = (
  every_append (λ x. name_order v.name x.name ≡ Less) front (w ∷ back) f.0
      (g.0, every (λ x. name_order w.name x.name ≡ Less) (λ x. name_order v.name x.name ≡ Less) (λ x l. nat_list_cmp_total.trans v.name w.name x.name g.0 l) back h),
  sorted_join front w back f.1 g.1 h k,
)

pub put_sorted : (w : Write) (state : List Write) → IsByName state → IsByName (writes_below w.name state ++ w ∷ writes_above w.name state)
put_sorted w state h =
    sorted_join (writes_below w.name state) w (writes_above w.name state)
    (sorted_filter (λ v. is_lt (name_order v.name w.name)) state h)
    (every (λ v. is_lt (name_order v.name w.name) ≡ true) (λ v. name_order v.name w.name ≡ Less) (λ v l. lesser (name_order v.name w.name) l) (writes_below w.name state) (every_passes (λ v. is_lt (name_order v.name w.name)) state))
    (every (λ v. is_gt (name_order v.name w.name) ≡ true) (λ v. name_order w.name v.name ≡ Less) (λ v l. turned v.name w.name (greater (name_order v.name w.name) l)) (writes_above w.name state) (every_passes (λ v. is_gt (name_order v.name w.name)) state))
    (sorted_filter (λ v. is_gt (name_order v.name w.name)) state h)

pub written_sorted : (w : Write) (state : List Write) → IsByName state → IsByName (written w state)
written_sorted w state h =
    split (is_settled w state)
    (λ t. subst (λ b. IsByName (cond b state (writes_below w.name state ++ w ∷ writes_above w.name state))) (sym t) h)
    (λ f. subst (λ b. IsByName (cond b state (writes_below w.name state ++ w ∷ writes_above w.name state))) (sym f) (put_sorted w state h))
