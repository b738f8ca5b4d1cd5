-- The modified flag, as it is told which groups and actions can be undone.
use Rattle.std.proofs.Common.{◌≡◌, ◌∙◌, ◌⊎◌, inl, inr, ℕ, zero, suc, ◌+◌, ◌-◌, ◌<◌, ◌≤◌, ◌++◌, ◌||◌, ◌==◌, Bool, true, false, not, List, [], ◌∷◌, Some, None, length, take, drop, get_or, cond, is_some, append-nil, append_assoc, length-append, length-drop, drop_of_length-le, take-append-drop, take_all, take-take, take-suc, drop-drop, drop_at, eqb-true, ap, subst, sym, refl, arith}
use Rattle.std.specs.Prelude.{unwrap_or}
use Rattle.std.specs.declared.vec.Vec.{Vec}
use Rattle.std.specs.declared.alloc.Global.{Global}
use Rattle.std.proofs.lemmas.List.{length-map, length-take-le, map-append, take-append-le}
use Rattle.std.proofs.lemmas.Bool.Decides.{nat_tests}
use Rattle.std.proofs.lemmas.Grind.{flat_map-append}
use Rattle.rt_undo.specs.declared.action.Action.{Action as KeptAction}
use Rattle.rt_undo.specs.Flag.{IsLost, IsTold, ModifiedFlag}
use Rattle.rt_undo.specs.Groups.{numbers_of, numbers_of_groups}
use Rattle.rt_undo.specs.Undo.{but_newest, rest_after, same_numbers}
use Rattle.rt_undo.proofs.Dropping.{kept_after, nothing_after}
use Rattle.rt_undo.proofs.Following.{by_test}
use Rattle.rt_undo.proofs.Histories.{is_all, is_empty, rest_none, rest_then, same_rest, some_of}

-- WHAT A LIST BEGINS WITH

pub rest_begins : (xs kept rest : List ℕ) → rest_after xs kept ≡ Some rest → kept ≡ xs ++ rest
rest_begins [] kept rest e = some_of kept rest e
rest_begins (x ∷ xs) [] rest e = cc
rest_begins (x ∷ xs) (k ∷ kept) rest e = by_test (x == k)
    (λ yes. let left = rest_begins xs kept rest (sym (ap (λ b. cond b (rest_after xs kept) None) yes) ∙ e) in
    λ i. sym (eqb-true x k yes) i ∷ left i)
    (λ no. let none : None ≡ Some rest = sym (ap (λ b. cond b (rest_after xs kept) None) no) ∙ e in cc)

same_number : (x : ℕ) → (x == x) ≡ true
same_number x = grind (arith, nat_tests)

rest_of : (xs rest : List ℕ) → rest_after xs (xs ++ rest) ≡ Some rest
rest_of [] rest = refl
rest_of (x ∷ xs) rest = ap (λ b. cond b (rest_after xs (xs ++ rest)) None) (same_number x) ∙ rest_of xs rest

rest_back : (xs ys kept rest : List ℕ) → rest_after (xs ++ ys) kept ≡ Some rest → rest_after xs kept ≡ Some (ys ++ rest)
rest_back xs ys kept rest e = ap (rest_after xs) (rest_begins (xs ++ ys) kept rest e ∙ append_assoc xs ys rest) ∙ rest_of xs (ys ++ rest)

rest_drop : (xs kept rest : List ℕ) → rest_after xs kept ≡ Some rest → rest ≡ drop (length xs) kept
rest_drop xs kept rest e = sym (ap (drop (length xs)) (rest_begins xs kept rest e) ∙ drop_at xs rest (length xs) refl)

-- PLACES IN THE KEPT NUMBERS

place_is : (ns : List ℕ) (passed place : ℕ) (xs : List ℕ) → passed ≤ length ns → place ≤ length ns
    → rest_after xs (drop passed ns) ≡ Some (drop place ns) → passed + length xs ≡ place
place_is ns passed place xs p q e =
    omega (arith, ap (λ l. length l) (rest_begins xs (drop passed ns) (drop place ns) e), length-append xs (drop place ns), length-drop passed ns, length-drop place ns)

pub place_fits : (ns : List ℕ) (passed place : ℕ) (xs ys : List ℕ) → passed ≤ length ns → place ≤ length ns
    → rest_after (xs ++ ys) (drop passed ns) ≡ Some (drop place ns) → length ys ≤ place
place_fits ns passed place xs ys p q e = omega (arith, place_is ns passed place (xs ++ ys) p q e, length-append xs ys)

pub place_back : (ns : List ℕ) (passed place : ℕ) (xs ys : List ℕ) → passed ≤ length ns → place ≤ length ns
    → rest_after (xs ++ ys) (drop passed ns) ≡ Some (drop place ns) → rest_after xs (drop passed ns) ≡ Some (drop (place - length ys) ns)
place_back ns passed place xs ys p q e =
    let back = rest_back xs ys (drop passed ns) (drop place ns) e in
    let n : passed + length xs ≡ place - length ys = omega (arith, place_is ns passed place (xs ++ ys) p q e, length-append xs ys) in
    back ∙ ap Some (rest_drop xs (drop passed ns) (ys ++ drop place ns) back ∙ drop-drop (length xs) passed ns ∙ ap (λ k. drop k ns) n)

pub numbers_fit : (ns : List ℕ) (passed : ℕ) (xs rest : List ℕ) → passed ≤ length ns → rest_after xs (drop passed ns) ≡ Some rest → passed + length xs ≤ length ns
numbers_fit ns passed xs rest p e =
    omega (arith, ap (λ l. length l) (rest_begins xs (drop passed ns) rest e), length-append xs rest, length-drop passed ns)

-- NUMBERS OF GROUPS AND ACTIONS

pub by_less : {P : Type 0} (m n : ℕ) → m ≤ n → (m < n → P) → (m ≡ n → P) → P
by_less zero zero l less same = same refl
by_less zero (suc n) l less same = less (omega arith)
by_less (suc m) zero l less same = absurd (omega (arith, l))
by_less (suc m) (suc n) l less same = by_less m n (omega (arith, l)) (λ h. less (omega (arith, h))) (λ e. same (ap suc e))

group_more : (closed : List (Vec KeptAction Global)) (v : Vec KeptAction Global) → numbers_of_groups (closed ++ v ∷ []) ≡ numbers_of_groups closed ++ numbers_of v.items
group_more closed v =
    flat_map-append (λ group. numbers_of group.items) closed (v ∷ []) ∙ ap (λ l. numbers_of_groups closed ++ l) (append-nil (numbers_of v.items))

action_more : (closed : List (Vec KeptAction Global)) (current : List KeptAction) (a : KeptAction)
    → numbers_of_groups closed ++ numbers_of (current ++ a ∷ []) ≡ (numbers_of_groups closed ++ numbers_of current) ++ a.number ∷ []
action_more closed current a =
    ap (λ l. numbers_of_groups closed ++ l) (map-append (λ x. x.number) current (a ∷ []))
    ∙ sym (append_assoc (numbers_of_groups closed) (numbers_of current) (a.number ∷ []))

-- where all of them agree
all_agree : (f : ModifiedFlag) (closed : List (Vec KeptAction Global)) (current : List KeptAction) → IsTold f closed current
    → f.groups ≡ length closed → f.actions ≡ length current → rest_after (numbers_of_groups closed ++ numbers_of current) f.kept ≡ Some f.rest
all_agree f closed current told g a =
    let groups = take_all f.groups closed (omega (arith, g)) in
    let actions = take_all f.actions current (omega (arith, a)) in
    (λ i. rest_after (numbers_of_groups (sym groups i) ++ numbers_of (sym actions i)) f.kept) ∙ told.rest

pub groups_agree : (f : ModifiedFlag) (closed : List (Vec KeptAction Global)) → IsTold f closed []
    → f.groups ≡ length closed → rest_after (numbers_of_groups closed) f.kept ≡ Some f.rest
groups_agree f closed told g =
    ap (λ l. rest_after l f.kept) (sym (append-nil (numbers_of_groups closed))) ∙ all_agree f closed [] told g (omega (arith, told.actions))

-- THE FLAG IS ASKED

not_lost : {P : Type 0} (f : ModifiedFlag) → f.forced ≡ false → IsLost f ⊎ P → P
not_lost f free (inl lost) = let both : true ≡ false = sym lost.0 ∙ free in cc
not_lost f free (inr p) = p

none_same : (xs kept : List ℕ) → rest_after xs kept ≡ None → false ≡ same_numbers xs kept
none_same xs kept none = sym (same_rest xs kept ∙ ap is_all none)

pub other_groups : (f : ModifiedFlag) (closed : List (Vec KeptAction Global)) (current : List KeptAction) → f.forced ≡ false → IsTold f closed current
    → f.groups < length closed → false ≡ same_numbers (numbers_of_groups closed ++ numbers_of current) f.kept
other_groups f closed current free told l =
    let n = suc f.groups in
    let parts : numbers_of_groups (take n closed) ++ numbers_of_groups (drop n closed) ≡ numbers_of_groups closed =
    sym (flat_map-append (λ group. numbers_of group.items) (take n closed) (drop n closed)) ∙ ap (λ l. numbers_of_groups l) (take-append-drop n closed) in
    let none = rest_none (numbers_of_groups (take n closed)) (numbers_of_groups (drop n closed)) f.kept (not_lost f free (told.no_group l)) in
    none_same (numbers_of_groups closed ++ numbers_of current) f.kept
    (rest_none (numbers_of_groups closed) (numbers_of current) f.kept (ap (λ l. rest_after l f.kept) (sym parts) ∙ none))

pub other_actions : (f : ModifiedFlag) (closed : List (Vec KeptAction Global)) (current : List KeptAction) → f.forced ≡ false → IsTold f closed current
    → f.groups ≡ length closed → f.actions < length current → false ≡ same_numbers (numbers_of_groups closed ++ numbers_of current) f.kept
other_actions f closed current free told e l =
    let n = suc f.actions in
    let front = numbers_of_groups closed in
    let parts : (front ++ numbers_of (take n current)) ++ numbers_of (drop n current) ≡ front ++ numbers_of current =
    append_assoc front (numbers_of (take n current)) (numbers_of (drop n current))
    ∙ ap (λ l. front ++ l) (sym (map-append (λ x. x.number) (take n current) (drop n current)) ∙ ap (λ l. numbers_of l) (take-append-drop n current)) in
    none_same (front ++ numbers_of current) f.kept
    (ap (λ l. rest_after l f.kept) (sym parts) ∙ rest_none (front ++ numbers_of (take n current)) (numbers_of (drop n current)) f.kept (not_lost f free (told.no_action e l)))

pub same_groups : (f : ModifiedFlag) (closed : List (Vec KeptAction Global)) (current : List KeptAction) → IsTold f closed current
    → f.groups ≡ length closed → f.actions ≡ length current → is_empty f.rest ≡ same_numbers (numbers_of_groups closed ++ numbers_of current) f.kept
same_groups f closed current told g a =
    sym (same_rest (numbers_of_groups closed ++ numbers_of current) f.kept ∙ ap is_all (all_agree f closed current told g a))

-- IT IS TAKEN AWAY

pub told_all : (closed : List (Vec KeptAction Global)) (current : List KeptAction) (ns : List ℕ) (forced : Bool) → ns ≡ numbers_of_groups closed ++ numbers_of current
    → IsTold (record { kept = ns; forced = forced; groups = length closed; actions = length current; rest = drop (length ns) ns }) closed current
told_all closed current ns forced e =
    let front = numbers_of_groups closed ++ numbers_of current in
    let none : drop (length ns) ns ≡ [] = drop_of_length-le ns (omega arith) in
    record {
      groups = omega arith;
      actions = omega arith;
      rest = (λ i. rest_after (numbers_of_groups (take_all (length closed) closed (omega arith) i) ++ numbers_of (take_all (length current) current (omega arith) i)) (e i))
          ∙ ap (rest_after front) (sym (append-nil front)) ∙ rest_of front [] ∙ ap Some (sym none);
      behind = λ l. absurd (omega (arith, l));
      no_group = λ l. absurd (omega (arith, l));
      no_action = λ e l. absurd (omega (arith, l));
    }

-- ACTIONS COME AND GO

pub action_agrees : (f : ModifiedFlag) (closed : List (Vec KeptAction Global)) (current : List KeptAction) (a : KeptAction) (rest : List ℕ) → IsTold f closed current
    → f.groups ≡ length closed → f.actions ≡ length current → rest_after (a.number ∷ []) f.rest ≡ Some rest
    → IsTold (record f { actions = f.actions + 1; rest = rest }) closed (current ++ a ∷ [])
action_agrees f closed current a rest told g n e =
    let front = numbers_of_groups closed ++ numbers_of current in
    let long = length-append current (a ∷ []) in
    record {
      groups = told.groups;
      actions = omega (arith, long, n);
      rest = (λ i. rest_after (numbers_of_groups (take_all f.groups closed (omega (arith, g)) i) ++ numbers_of (take_all (f.actions + 1) (current ++ a ∷ []) (omega (arith, long, n)) i)) f.kept)
          ∙ ap (λ l. rest_after l f.kept) (action_more closed current a)
          ∙ rest_then front (a.number ∷ []) f.kept f.rest (all_agree f closed current told g n) ∙ e;
      behind = λ l. absurd (omega (arith, g, l));
      no_group = λ l. absurd (omega (arith, g, l));
      no_action = λ e l. absurd (omega (arith, long, n, l));
    }

pub action_beside : (f : ModifiedFlag) (closed : List (Vec KeptAction Global)) (current : List KeptAction) (a : KeptAction) → IsTold f closed current
    → (f.groups ≡ length closed → f.actions ≡ length current → rest_after (a.number ∷ []) f.rest ≡ None)
    → IsTold f closed (current ++ a ∷ [])
action_beside f closed current a told none =
    let front = numbers_of_groups closed ++ numbers_of current in
    let long = length-append current (a ∷ []) in
    record {
      groups = told.groups;
      actions = omega (arith, told.actions, long);
      rest = ap (λ l. rest_after (numbers_of_groups (take f.groups closed) ++ numbers_of l) f.kept) (take-append-le f.actions current (a ∷ []) told.actions) ∙ told.rest;
      behind = told.behind;
      no_group = told.no_group;
      no_action = λ g l. by_less f.actions (length current) told.actions
          (λ less. subst (λ xs. IsLost f ⊎ (rest_after (numbers_of_groups closed ++ numbers_of xs) f.kept ≡ None))
          (sym (take-append-le (suc f.actions) current (a ∷ []) (omega (arith, less)))) (told.no_action g less))
          (λ same. inr (ap (λ l. rest_after (numbers_of_groups closed ++ numbers_of l) f.kept) (take_all (suc f.actions) (current ++ a ∷ []) (omega (arith, same, long)))
          ∙ ap (λ l. rest_after l f.kept) (action_more closed current a)
          ∙ rest_then front (a.number ∷ []) f.kept f.rest (all_agree f closed current told g same) ∙ none g same));
    }

pub actions_go : (f : ModifiedFlag) (closed : List (Vec KeptAction Global)) (current : List KeptAction) (rest : List ℕ) → IsTold f closed current
    → rest_after (numbers_of_groups (take f.groups closed)) f.kept ≡ Some rest → IsTold (record f { actions = 0; rest = rest }) closed []
actions_go f closed current rest told e = record {
  groups = told.groups;
  actions = omega arith;
  rest = ap (λ l. rest_after l f.kept) (append-nil (numbers_of_groups (take f.groups closed))) ∙ e;
  behind = λ l. refl;
  no_group = told.no_group;
  no_action = λ e l. absurd (omega (arith, l));
}

-- how many numbers the actions have that agree
pub actions_long : (f : ModifiedFlag) (closed : List (Vec KeptAction Global)) (current : List KeptAction) → IsTold f closed current
    → length (numbers_of (take f.actions current)) ≡ f.actions
actions_long f closed current told = length-map (take f.actions current) (λ x. x.number) ∙ length-take-le f.actions current told.actions

-- GROUPS COME AND GO

pub group_agrees : (f : ModifiedFlag) (closed : List (Vec KeptAction Global)) (v : Vec KeptAction Global) (rest : List ℕ) → IsTold f closed []
    → f.groups ≡ length closed → rest_after (numbers_of v.items) f.rest ≡ Some rest
    → IsTold (record f { groups = f.groups + 1; rest = rest }) (closed ++ v ∷ []) []
group_agrees f closed v rest told g e =
    let front = numbers_of_groups closed in
    let long = length-append closed (v ∷ []) in
    let none : f.actions ≡ 0 = omega (arith, told.actions) in
    record {
      groups = omega (arith, long, g);
      actions = told.actions;
      rest = (λ i. rest_after (numbers_of_groups (take_all (f.groups + 1) (closed ++ v ∷ []) (omega (arith, long, g)) i) ++ numbers_of (take (none i) [])) f.kept)
          ∙ ap (λ l. rest_after l f.kept) (append-nil (numbers_of_groups (closed ++ v ∷ [])) ∙ group_more closed v)
          ∙ rest_then front (numbers_of v.items) f.kept f.rest (groups_agree f closed told g) ∙ e;
      behind = λ l. none;
      no_group = λ l. absurd (omega (arith, long, g, l));
      no_action = λ e l. absurd (omega (arith, l));
    }

pub group_beside : (f : ModifiedFlag) (closed : List (Vec KeptAction Global)) (v : Vec KeptAction Global) → IsTold f closed []
    → (f.groups ≡ length closed → rest_after (numbers_of v.items) f.rest ≡ None) → IsTold f (closed ++ v ∷ []) []
group_beside f closed v told none =
    let front = numbers_of_groups closed in
    let long = length-append closed (v ∷ []) in
    record {
      groups = omega (arith, long, told.groups);
      actions = told.actions;
      rest = ap (λ l. rest_after (numbers_of_groups l ++ numbers_of (take f.actions [])) f.kept) (take-append-le f.groups closed (v ∷ []) told.groups) ∙ told.rest;
      behind = λ l. omega (arith, told.actions);
      no_group = λ l. by_less f.groups (length closed) told.groups
          (λ less. subst (λ xs. IsLost f ⊎ (rest_after (numbers_of_groups xs) f.kept ≡ None))
          (sym (take-append-le (suc f.groups) closed (v ∷ []) (omega (arith, less)))) (told.no_group less))
          (λ same. inr (ap (λ l. rest_after (numbers_of_groups l) f.kept) (take_all (suc f.groups) (closed ++ v ∷ []) (omega (arith, same, long)))
          ∙ ap (λ l. rest_after l f.kept) (group_more closed v)
          ∙ rest_then front (numbers_of v.items) f.kept f.rest (groups_agree f closed told same) ∙ none same));
      no_action = λ e l. absurd (omega (arith, l));
    }

pub last_beside : (f : ModifiedFlag) (closed : List (Vec KeptAction Global)) → IsTold f closed [] → f.groups < length closed → IsTold f (but_newest closed) []
last_beside f closed told l =
    let long = length-take-le (length closed - 1) closed (omega arith) in
    record {
      groups = omega (arith, long, l);
      actions = told.actions;
      rest = ap (λ xs. rest_after (numbers_of_groups xs ++ numbers_of (take f.actions [])) f.kept) (take-take f.groups (length closed - 1) closed (omega (arith, l))) ∙ told.rest;
      behind = λ l. omega (arith, told.actions);
      no_group = λ less. subst (λ xs. IsLost f ⊎ (rest_after (numbers_of_groups xs) f.kept ≡ None))
          (sym (take-take (suc f.groups) (length closed - 1) closed (omega (arith, less, long)))) (told.no_group l);
      no_action = λ e l. absurd (omega (arith, l));
    }

pub last_agrees : (f : ModifiedFlag) (closed : List (Vec KeptAction Global)) (rest : List ℕ) → IsTold f closed [] → f.groups ≡ length closed
    → rest_after (numbers_of_groups (but_newest closed)) f.kept ≡ Some rest → IsTold (record f { groups = f.groups - 1; rest = rest }) (but_newest closed) []
last_agrees f closed rest told g e =
    let long = length-take-le (length closed - 1) closed (omega arith) in
    let none : f.actions ≡ 0 = omega (arith, told.actions) in
    record {
      groups = omega (arith, long, g);
      actions = told.actions;
      rest = (λ i. rest_after (numbers_of_groups (take_all (f.groups - 1) (but_newest closed) (omega (arith, long, g)) i) ++ numbers_of (take (none i) [])) f.kept)
          ∙ ap (λ l. rest_after l f.kept) (append-nil (numbers_of_groups (but_newest closed))) ∙ e;
      behind = λ l. none;
      no_group = λ l. absurd (omega (arith, long, g, l));
      no_action = λ e l. absurd (omega (arith, l));
    }

-- there is no group
pub last_of_none : (f : ModifiedFlag) (closed : List (Vec KeptAction Global)) → length closed ≡ 0 → IsTold f closed [] → IsTold f (but_newest closed) []
last_of_none f closed e told =
    subst (λ xs. IsTold f xs []) (sym (take_all (length closed - 1) closed (omega (arith, e)))) told

-- the numbers of all groups, and of the last one
pub with_last : (closed : List (Vec KeptAction Global)) (v : Vec KeptAction Global) → 0 < length closed → get_or closed (length closed - 1) v ≡ v
    → numbers_of_groups closed ≡ numbers_of_groups (but_newest closed) ++ numbers_of v.items
with_last closed v l is =
    let n = length closed - 1 in
    let all : closed ≡ but_newest closed ++ v ∷ [] =
    sym (take_all (suc n) closed (omega (arith, l))) ∙ take-suc closed n v (omega (arith, l)) ∙ ap (λ x. but_newest closed ++ x ∷ []) is in
    ap (λ xs. numbers_of_groups xs) all ∙ group_more (but_newest closed) v

-- THE OLDEST GROUP IS DROPPED

pub first_agrees : (f : ModifiedFlag) (v : Vec KeptAction Global) (closed : List (Vec KeptAction Global)) (current : List KeptAction) (g : ℕ) → f.groups ≡ suc g
    → IsTold f (v ∷ closed) current → rest_after (numbers_of v.items) f.kept ≡ Some (drop (length v.items) f.kept)
first_agrees f v closed current g e told =
    let xs = numbers_of v.items in
    let ys = numbers_of_groups (take g closed) in
    let zs = numbers_of (take f.actions current) in
    let all : rest_after (xs ++ (ys ++ zs)) f.kept ≡ Some f.rest =
    ap (λ l. rest_after l f.kept) (sym (append_assoc xs ys zs)) ∙ (λ i. rest_after (numbers_of_groups (take (sym e i) (v ∷ closed)) ++ zs) f.kept) ∙ told.rest in
    let back = rest_back xs (ys ++ zs) f.kept f.rest all in
    back ∙ ap Some (rest_drop xs f.kept ((ys ++ zs) ++ f.rest) back ∙ ap (λ n. drop n f.kept) (length-map v.items (λ x. x.number)))

either : {A B C D : Type 0} → (A → C) → (B → D) → A ⊎ B → C ⊎ D
either f g (inl a) = inl (f a)
either f g (inr b) = inr (g b)

none_behind : (xs next : List ℕ) → [] ≡ xs ++ next → next ≡ []
none_behind [] next e = sym e
none_behind (x ∷ xs) next e = cc

pub first_goes : (kept rest next : List ℕ) (forced : Bool) (g actions : ℕ) (v : Vec KeptAction Global) (closed : List (Vec KeptAction Global)) (current : List KeptAction)
    → rest_after (numbers_of v.items) kept ≡ Some next
    → IsTold (record { kept = kept; forced = forced; groups = suc g; actions = actions; rest = rest }) (v ∷ closed) current
    → IsTold (record { kept = next; forced = forced; groups = g; actions = actions; rest = rest }) closed current
first_goes kept rest next forced g actions v closed current e told =
    let xs = numbers_of v.items in
    let old : ModifiedFlag = record { kept = kept; forced = forced; groups = suc g; actions = actions; rest = rest } in
    let new : ModifiedFlag = record { kept = next; forced = forced; groups = g; actions = actions; rest = rest } in
    let lost : IsLost old → IsLost new = λ l. (l.0, none_behind xs next (sym l.1 ∙ rest_begins xs kept next e)) in
    let left : (ys : List ℕ) → rest_after (xs ++ ys) kept ≡ rest_after ys next = λ ys. rest_then xs ys kept next e in
    record {
      groups = omega (arith, told.groups);
      actions = told.actions;
      rest = sym (left (numbers_of_groups (take g closed) ++ numbers_of (take actions current)))
          ∙ ap (λ l. rest_after l kept) (sym (append_assoc xs (numbers_of_groups (take g closed)) (numbers_of (take actions current)))) ∙ told.rest;
      behind = λ l. told.behind (omega (arith, l));
      no_group = λ l. either lost (λ none. sym (left (numbers_of_groups (take (suc g) closed))) ∙ none) (told.no_group (omega (arith, l)));
      no_action = λ h l. either lost
          (λ none. sym (left (numbers_of_groups closed ++ numbers_of (take (suc actions) current)))
          ∙ ap (λ l. rest_after l kept) (sym (append_assoc xs (numbers_of_groups closed) (numbers_of (take (suc actions) current)))) ∙ none)
          (told.no_action (ap suc h) l);
    }

-- its numbers aren't those that are kept
pub lost_told : (ns : List ℕ) (groups actions : ℕ) (closed : List (Vec KeptAction Global)) (current : List KeptAction) → groups ≡ 0 → actions ≡ 0
    → IsTold (record { kept = drop (length ns) ns; forced = true; groups = groups; actions = actions; rest = drop (length ns) ns }) closed current
lost_told ns groups actions closed current g a =
    let none : drop (length ns) ns ≡ [] = drop_of_length-le ns (omega arith) in
    record {
      groups = omega (arith, g);
      actions = omega (arith, a);
      rest = λ i. rest_after (numbers_of_groups (take (g i) closed) ++ numbers_of (take (a i) current)) (drop (length ns) ns);
      behind = λ l. a;
      no_group = λ l. inl (refl, none);
      no_action = λ e l. inl (refl, none);
    }

first_is : (f : ModifiedFlag) (v : Vec KeptAction Global) (closed : List (Vec KeptAction Global)) (current : List KeptAction) → f.groups ≡ 0
    → IsTold f (v ∷ closed) current → IsLost f ⊎ (rest_after (numbers_of v.items) f.kept ≡ None)
first_is f v closed current e told = either (λ lost. lost)
    (λ none. ap (λ l. rest_after l f.kept) (sym (append-nil (numbers_of v.items))) ∙ (λ i. rest_after (numbers_of_groups (take (suc (sym e i)) (v ∷ closed))) f.kept) ∙ none)
    (told.no_group (omega (arith, e)))

either_way : {A B P : Type 0} → (A → P) → (B → P) → A ⊎ B → P
either_way f g (inl a) = f a
either_way f g (inr b) = g b

pub nothing_kept : (f : ModifiedFlag) (v : Vec KeptAction Global) (closed : List (Vec KeptAction Global)) (current : List KeptAction) → f.groups ≡ 0
    → IsTold f (v ∷ closed) current → kept_after (numbers_of v.items) f.kept ≡ []
nothing_kept f v closed current e told = either_way
    (λ lost. ap (kept_after (numbers_of v.items)) lost.1 ∙ nothing_after (numbers_of v.items))
    (λ none. ap (λ o. unwrap_or o []) none)
    (first_is f v closed current e told)

always : (b : Bool) → (b || true) ≡ true
always true = refl
always false = refl

pub forced_then : (f : ModifiedFlag) (v : Vec KeptAction Global) (closed : List (Vec KeptAction Global)) (current : List KeptAction) → f.groups ≡ 0
    → IsTold f (v ∷ closed) current → (f.forced || not (is_some (rest_after (numbers_of v.items) f.kept))) ≡ true
forced_then f v closed current e told = either_way
    (λ lost. ap (λ b. b || not (is_some (rest_after (numbers_of v.items) f.kept))) lost.0)
    (λ none. ap (λ o. f.forced || not (is_some o)) none ∙ always f.forced)
    (first_is f v closed current e told)
