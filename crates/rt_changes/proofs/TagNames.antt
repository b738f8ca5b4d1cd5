-- The tags that are on a character, after an Insert and after one more write.
use Rattle.std.proofs.Common.{◌≡◌, ℕ, List, [], ◌∷◌, ◌++◌, ◌&&◌, Bool, true, false, cond, filter, length, map, refl, sym, ◌∙◌, ap, subst, append_assoc, Some, None}
use Rattle.std.specs.List.{AllByRecursion, list_all}
use Rattle.std.specs.Ordering.{is_eq, is_gt, is_lt, ordering_reverse}
use Rattle.std.specs.Str.{bytes_eq}
use Rattle.std.specs.declared.cmp.Ordering.{Ordering}
use Rattle.std.specs.declared.cmp.Ordering.TheVariants.{Less, Equal, Greater}
use Rattle.std.proofs.lemmas.Bool.{and_parts}
use Rattle.std.proofs.lemmas.Cmp.{nat_list_cmp_total}
use Rattle.std.proofs.lemmas.List.{append-nil}
use Rattle.std.proofs.lemmas.Map.Text.{is_eq-slice_cmp}
use Rattle.rt_stamps.specs.declared.stamp.Stamp.{Stamp}
use Rattle.rt_stamps.specs.declared.limits.TheConstants.{MOST_TAGS}
use Rattle.rt_stamps.specs.Names.{name_order}
use Rattle.rt_stamps.specs.Spans.{each_next}
use Rattle.rt_ops.specs.Operations.{Insert, Name}
use Rattle.rt_ops.specs.Rules.{are_tags, is_lesser_name, is_text, keeps_rules, is_within, is_name}
use Rattle.std.proofs.lemmas.Slice.Eq.{bytes_eq-Decides}
use Rattle.rt_tags.specs.States.{IsByName, Write, writes_above, writes_below, is_kept, is_on, is_settled, names_on, says_on, write_of, written}
use Rattle.rt_tags.specs.Writers.{listed_by, state_after}
use Rattle.rt_tags.proofs.Commuting.{all_above, back_other, none_above}
use Rattle.rt_tags.proofs.Sorted.{turned}
use Rattle.rt_changes.specs.Replays.{tags_with}

-- WRITES THAT RISE

unequal : (a b : Name) → name_order a b ≡ Less → bytes_eq b a ≡ false
unequal a b h = back_other a b (sym (is_eq-slice_cmp a b) ∙ ap is_eq h)

none_before : (w : Write) (front : List Write) → AllByRecursion (λ v. name_order v.name w.name ≡ Less) front → write_of w.name front ≡ None
none_before w [] h = refl
none_before w (v ∷ front) h = ap (λ b. cond b (Some v) (write_of w.name front)) (unequal v.name w.name h.0) ∙ none_before w front h.1

all_below : (w : Write) (front : List Write) → AllByRecursion (λ v. name_order v.name w.name ≡ Less) front → writes_below w.name front ≡ front
all_below w [] h = refl
all_below w (v ∷ front) h = ap (λ o. cond (is_lt o) (v ∷ writes_below w.name front) (writes_below w.name front)) h.0 ∙ ap (λ l. v ∷ l) (all_below w front h.1)

none_over : (w : Write) (front : List Write) → AllByRecursion (λ v. name_order v.name w.name ≡ Less) front → writes_above w.name front ≡ []
none_over w [] h = refl
none_over w (v ∷ front) h = ap (λ o. cond (is_gt o) (v ∷ writes_above w.name front) (writes_above w.name front)) h.0 ∙ none_over w front h.1

written_last : (w : Write) (front : List Write) → AllByRecursion (λ v. name_order v.name w.name ≡ Less) front → written w front ≡ front ++ w ∷ []
written_last w front h =
    ap (λ o. cond (is_kept o w) front (writes_below w.name front ++ w ∷ writes_above w.name front)) (none_before w front h)
    ∙ (λ i. all_below w front h i ++ w ∷ none_over w front h i)

front_less : (front : List Write) (w : Write) (ws : List Write) → IsByName (front ++ w ∷ ws) → AllByRecursion (λ v. name_order v.name w.name ≡ Less) front
front_less [] w ws h = tt
front_less (v ∷ front) w ws h = (at front h.0, front_less front w ws h.1)
  where
    at : (front : List Write) → AllByRecursion (λ x. name_order v.name x.name ≡ Less) (front ++ w ∷ ws) → name_order v.name w.name ≡ Less
    at [] k = k.0
    at (x ∷ front) k = at front k.1

pub after_rising : (front ws : List Write) → IsByName (front ++ ws) → state_after front ws ≡ front ++ ws
after_rising front [] h = sym (append-nil front)
after_rising front (w ∷ ws) h =
    let joined : (front ++ w ∷ []) ++ ws ≡ front ++ w ∷ ws = append_assoc front (w ∷ []) ws in
    ap (λ s. state_after s ws) (written_last w front (front_less front w ws h))
    ∙ after_rising (front ++ w ∷ []) ws (subst IsByName (sym joined) h)
    ∙ joined

-- AN INSERT'S TAGS

less_is : (o : Ordering) → is_lt o ≡ true → o ≡ Less
less_is Less h = refl
less_is Equal h = absurd (cc h)
less_is Greater h = absurd (cc h)

listed_less : (writer : Stamp) (a b : Name) (names : List Name) → name_order a b ≡ Less → each_next is_lesser_name (b ∷ names) ≡ true
    → AllByRecursion (λ v. name_order a v.name ≡ Less) (listed_by writer (b ∷ names))
listed_less writer a b [] l h = (l, tt)
listed_less writer a b (c ∷ names) l h =
    let both = and_parts (is_lesser_name b c) (each_next is_lesser_name (c ∷ names)) h in
    (l, listed_less writer a c names (nat_list_cmp_total.trans a b c l (less_is (name_order b c) both.0)) both.1)

rising : (writer : Stamp) (names : List Name) → each_next is_lesser_name names ≡ true → IsByName (listed_by writer names)
rising writer [] h = tt
rising writer (a ∷ []) h = (tt, tt)
rising writer (a ∷ (b ∷ names)) h =
    let both = and_parts (is_lesser_name a b) (each_next is_lesser_name (b ∷ names)) h in
    (listed_less writer a b names (less_is (name_order a b) both.0) both.1, rising writer (b ∷ names) both.1)

listed_on : (writer : Stamp) (names : List Name) → names_on (listed_by writer names) ≡ names
listed_on writer [] = refl
listed_on writer (a ∷ names) = ap (λ l. a ∷ l) (listed_on writer names)

rules_rise : (after : Stamp) (tags : List Name) (text : List ℕ) → keeps_rules (Insert after tags text) ≡ true → each_next is_lesser_name tags ≡ true
rules_rise after tags text h =
    let all = and_parts (are_tags tags) (is_text text) h in
    let more = and_parts (is_within 0 MOST_TAGS (length tags)) (list_all is_name tags && each_next is_lesser_name tags) all.0 in
    (and_parts (list_all is_name tags) (each_next is_lesser_name tags) more.1).1

-- the tags of new characters
pub new_tags : (writer after : Stamp) (tags : List Name) (text : List ℕ) → keeps_rules (Insert after tags text) ≡ true → names_on (state_after [] (listed_by writer tags)) ≡ tags
new_tags writer after tags text h = ap names_on (after_rising [] (listed_by writer tags) (rising writer tags (rules_rise after tags text h))) ∙ listed_on writer tags

-- ONE MORE WRITE

on_filter : (test : Name → Bool) (state : List Write) → names_on (filter (λ w. test w.name) state) ≡ filter test (names_on state)
on_filter test [] = refl
on_filter test (w ∷ state) = by (test w.name) refl w.on refl (on_filter test state)
  where
    by : (a : Bool) → test w.name ≡ a → (b : Bool) → w.on ≡ b → names_on (filter (λ w. test w.name) state) ≡ filter test (names_on state)
        → names_on (cond a (w ∷ filter (λ w. test w.name) state) (filter (λ w. test w.name) state)) ≡ filter test (map (λ (w : Write). w.name) (cond b (w ∷ filter (λ w. w.on) state) (filter (λ w. w.on) state)))
    by true e true o ih = rw o (rw e (ap (λ l. w.name ∷ l) ih))
    by true e false o ih = rw o ih
    by false e true o ih = rw e ih
    by false e false o ih = ih

on_append : (xs ys : List Write) → names_on (xs ++ ys) ≡ names_on xs ++ names_on ys
on_append [] ys = refl
on_append (x ∷ xs) ys = by x.on (on_append xs ys)
  where
    by : (b : Bool) → names_on (xs ++ ys) ≡ names_on xs ++ names_on ys → map (λ (w : Write). w.name) (cond b (x ∷ filter (λ w. w.on) (xs ++ ys)) (filter (λ w. w.on) (xs ++ ys))) ≡ map (λ (w : Write). w.name) (cond b (x ∷ filter (λ w. w.on) xs) (filter (λ w. w.on) xs)) ++ names_on ys
    by true ih = ap (λ l. x.name ∷ l) ih
    by false ih = ih

put_on : (name : Name) (w : Write) (state : List Write) → name ≡ w.name → names_on (writes_below w.name state ++ w ∷ writes_above w.name state) ≡ tags_with w.on name (names_on state)
put_on name w state e =
    on_append (writes_below w.name state) (w ∷ writes_above w.name state)
    ∙ (λ i. on_filter (λ x. is_lt (name_order x w.name)) state i ++ here w.on i)
    ∙ ap (λ n. tags_with w.on n (names_on state)) (sym e)
  where
    here : (b : Bool) → map (λ (w : Write). w.name) (cond b (w ∷ filter (λ w. w.on) (writes_above w.name state)) (filter (λ w. w.on) (writes_above w.name state))) ≡ cond b (w.name ∷ []) [] ++ filter (λ x. is_gt (name_order x w.name)) (names_on state)
    here true = ap (λ l. w.name ∷ l) (on_filter (λ x. is_gt (name_order x w.name)) state)
    here false = on_filter (λ x. is_gt (name_order x w.name)) state

-- names that all come after one
module _ (name : Name) where
  none_lesser : (state : List Write) → AllByRecursion (λ v. name_order name v.name ≡ Less) state → filter (λ x. is_lt (name_order x name)) (names_on state) ≡ []
  none_lesser [] h = refl
  none_lesser (v ∷ state) h = by v.on (none_lesser state h.1)
    where
      over : name_order v.name name ≡ Greater
      over = nat_list_cmp_total.antisymm v.name name ∙ ap ordering_reverse h.0

      by : (b : Bool) → filter (λ x. is_lt (name_order x name)) (names_on state) ≡ []
          → filter (λ x. is_lt (name_order x name)) (map (λ (w : Write). w.name) (cond b (v ∷ filter (λ w. w.on) state) (filter (λ w. w.on) state))) ≡ []
      by true ih = rw over ih
      by false ih = ih

  all_greater : (state : List Write) → AllByRecursion (λ v. name_order name v.name ≡ Less) state → filter (λ x. is_gt (name_order x name)) (names_on state) ≡ names_on state
  all_greater [] h = refl
  all_greater (v ∷ state) h = by v.on (all_greater state h.1)
    where
      over : name_order v.name name ≡ Greater
      over = nat_list_cmp_total.antisymm v.name name ∙ ap ordering_reverse h.0

      by : (b : Bool) → filter (λ x. is_gt (name_order x name)) (names_on state) ≡ names_on state
          → filter (λ x. is_gt (name_order x name)) (map (λ (w : Write). w.name) (cond b (v ∷ filter (λ w. w.on) state) (filter (λ w. w.on) state)))
          ≡ map (λ (w : Write). w.name) (cond b (v ∷ filter (λ w. w.on) state) (filter (λ w. w.on) state))
      by true ih = rw over (ap (λ l. v.name ∷ l) ih)
      by false ih = ih

  -- a tag that is on already, or off already
  pub same_tags : (on : Bool) (state : List Write) → IsByName state → is_on name state ≡ on → tags_with on name (names_on state) ≡ names_on state
  same_tags on [] h e = by on e
    where
      by : (b : Bool) → false ≡ b → tags_with b name [] ≡ []
      by true e = absurd (cc e)
      by false e = refl
  same_tags on (v ∷ state) h e = by (name_order v.name name) refl (λ k. same_tags on state h.1 k)
    where
      shorter : Bool → List Name
      shorter b = map (λ (w : Write). w.name) (cond b (v ∷ filter (λ w. w.on) state) (filter (λ w. w.on) state))

      before : (b : Bool) → name_order v.name name ≡ Less → tags_with on name (names_on state) ≡ names_on state → tags_with on name (shorter b) ≡ shorter b
      before true o ih = rw o (ap (λ l. v.name ∷ l) ih)
      before false o ih = ih

      here : (b : Bool) → v.on ≡ b → name_order v.name name ≡ Equal → tags_with v.on name (shorter b) ≡ shorter b
      here true o q =
          let same : v.name ≡ name = (bytes_eq-Decides v.name name).0 (sym (is_eq-slice_cmp v.name name) ∙ ap is_eq q) in
          let over = subst (λ n. AllByRecursion (λ x. name_order n x.name ≡ Less) state) same h.0 in
          rw o (rw q ((λ i. none_lesser state over i ++ name ∷ all_greater state over i) ∙ ap (λ n. n ∷ names_on state) (sym same)))
      here false o q =
          let same : v.name ≡ name = (bytes_eq-Decides v.name name).0 (sym (is_eq-slice_cmp v.name name) ∙ ap is_eq q) in
          let over = subst (λ n. AllByRecursion (λ x. name_order n x.name ≡ Less) state) same h.0 in
          rw o (λ i. none_lesser state over i ++ all_greater state over i)

      by : (o : Ordering) → name_order v.name name ≡ o → (is_on name state ≡ on → tags_with on name (names_on state) ≡ names_on state) → tags_with on name (names_on (v ∷ state)) ≡ names_on (v ∷ state)
      by Less o ih =
          before v.on o (ih (sym (ap (λ b. says_on (cond b (Some v) (write_of name state))) (unequal v.name name o)) ∙ e))
      by Equal o ih =
          let same : bytes_eq name v.name ≡ true = (bytes_eq-Decides name v.name).1 (sym ((bytes_eq-Decides v.name name).0 (sym (is_eq-slice_cmp v.name name) ∙ ap is_eq o))) in
          let is : v.on ≡ on = sym (ap (λ b. says_on (cond b (Some v) (write_of name state))) same) ∙ e in
          ap (λ b. tags_with b name (names_on (v ∷ state))) (sym is) ∙ here v.on refl o
      by Greater o ih =
          let over = all_above name v state h (turned v.name name o) in
          let off : on ≡ false = sym e ∙ ap says_on (none_above name (v ∷ state) over) in
          ap (λ b. tags_with b name (names_on (v ∷ state))) off
          ∙ (λ i. none_lesser (v ∷ state) over i ++ all_greater (v ∷ state) over i)

-- the tags after a write that isn't less than another of its tag
pub written_tags : (w : Write) (state : List Write) → is_settled w state ≡ false → names_on (written w state) ≡ tags_with w.on w.name (names_on state)
written_tags w state h = ap (λ b. names_on (cond b state (writes_below w.name state ++ w ∷ writes_above w.name state))) h ∙ put_on w.name w state refl
