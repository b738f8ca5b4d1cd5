-- Histories whose oldest groups are dropped.
use Rattle.std.proofs.Common.{◌≡◌, ◌∙◌, ℕ, zero, suc, ◌-◌, ◌≤◌, ◌<◌, ◌++◌, ◌||◌, ◌==◌, Bool, true, false, not, List, [], ◌∷◌, Option, Some, None, map, length, take, drop, is_some, append-nil, append_assoc, length-append, length-drop, ap, sym, refl, arith, if◌then◌else◌}
use Rattle.std.specs.Prelude.{unwrap_or}
use Rattle.std.specs.declared.vec.Vec.{Vec}
use Rattle.std.specs.declared.alloc.Global.{Global}
use Rattle.std.proofs.lemmas.List.{drop-append-le, drop-map, length-map, take-append-drop, take-map}
use Rattle.std.proofs.lemmas.Bool.Decides.{nat_tests}
use Rattle.std.proofs.lemmas.Grind.{flat_map-append}
use Rattle.rt_stamps.specs.declared.stamp.Stamp.{Stamp}
use Rattle.rt_undo.specs.declared.action.Action.{Action as KeptAction}
use Rattle.rt_undo.specs.Actions.{group_of}
use Rattle.rt_undo.specs.Groups.{groups_of, numbers_of, numbers_of_groups}
use Rattle.rt_undo.specs.Undo.{UndoHistory, as_group, dropped, is_modified, limited, numbers, numbers_in, renamed_by, rest_after, same_numbers, to_undo, too_many, with_stamps_in}
use Rattle.rt_undo.proofs.Histories.{is_all, numbers_closed, numbers_groups_renamed, rest_none, rest_then, same_rest, to_undo_renamed}

-- NUMBERS THAT LEAVE

-- what is kept after numbers have left, and whether the flag is forced then
abbrev pub kept_after : List ℕ → List ℕ → List ℕ
kept_after xs kept = unwrap_or (rest_after xs kept) []

abbrev pub forced_after : List ℕ → List ℕ → Bool → Bool
forced_after xs kept forced = forced || not (is_some (rest_after xs kept))

-- by cases of an option
by_option : {P : Type 0} (o : Option (List ℕ)) → ((rest : List ℕ) → o ≡ Some rest → P) → (o ≡ None → P) → P
by_option (Some rest) some none = some rest refl
by_option None some none = none refl

pub nothing_after : (xs : List ℕ) → kept_after xs [] ≡ []
nothing_after [] = refl
nothing_after (x ∷ xs) = refl

pub or_false : (b : Bool) → b || false ≡ b
or_false true = refl
or_false false = refl

or_true : (b c : Bool) → b || true ≡ (b || true) || c
or_true true c = refl
or_true false c = refl

pub kept_more : (xs ys kept : List ℕ) → kept_after ys (kept_after xs kept) ≡ kept_after (xs ++ ys) kept
kept_more xs ys kept = by_option (rest_after xs kept)
    (λ rest e. ap (λ o. kept_after ys (unwrap_or o [])) e ∙ ap (λ o. unwrap_or o []) (sym (rest_then xs ys kept rest e)))
    (λ e. ap (λ o. kept_after ys (unwrap_or o [])) e ∙ nothing_after ys ∙ ap (λ o. unwrap_or o []) (sym (rest_none xs ys kept e)))

pub forced_more : (xs ys kept : List ℕ) (forced : Bool)
    → forced_after ys (kept_after xs kept) (forced_after xs kept forced) ≡ forced_after (xs ++ ys) kept forced
forced_more xs ys kept forced = by_option (rest_after xs kept)
    (λ rest e. ap (λ o. (forced || not (is_some o)) || not (is_some (rest_after ys (unwrap_or o [])))) e
    ∙ ap (λ b. b || not (is_some (rest_after ys rest))) (or_false forced)
    ∙ ap (λ o. forced || not (is_some o)) (sym (rest_then xs ys kept rest e)))
    (λ e. ap (λ o. (forced || not (is_some o)) || not (is_some (rest_after ys (unwrap_or o [])))) e
    ∙ sym (or_true forced (not (is_some (rest_after ys []))))
    ∙ ap (λ o. forced || not (is_some o)) (sym (rest_none xs ys kept e)))

-- THE NEXT GROUP GOES

head_is : {X : Type 0} {x y : X} {xs ys : List X} → x ∷ xs ≡ y ∷ ys → x ≡ y
head_is e = cc

rest_is : {X : Type 0} {x y : X} {xs ys : List X} → x ∷ xs ≡ y ∷ ys → xs ≡ ys
rest_is e = cc

nil_cons : {X P : Type 0} {x : X} {xs : List X} → [] ≡ x ∷ xs → P
nil_cons e = cc

pub one_less : {X : Type 0} (xs : List X) (i : ℕ) (x : X) (rest : List X) → drop i xs ≡ x ∷ rest → drop (suc i) xs ≡ rest
one_less [] zero x rest e = nil_cons e
one_less [] (suc i) x rest e = nil_cons e
one_less (y ∷ xs) zero x rest e = rest_is e
one_less (y ∷ xs) (suc i) x rest e = one_less xs i x rest e

pub numbers_next : (groups : List (Vec KeptAction Global)) (i : ℕ) (group : Vec KeptAction Global) (rest : List (Vec KeptAction Global))
    → drop i groups ≡ group ∷ rest → numbers_of_groups (take (suc i) groups) ≡ numbers_of_groups (take i groups) ++ numbers_of group.items
numbers_next [] zero group rest e = nil_cons e
numbers_next [] (suc i) group rest e = nil_cons e
numbers_next (g ∷ groups) zero group rest e = append-nil (numbers_of g.items) ∙ ap (λ v. numbers_of v.items) (head_is e)
numbers_next (g ∷ groups) (suc i) group rest e =
    ap (λ l. numbers_of g.items ++ l) (numbers_next groups i group rest e)
    ∙ sym (append_assoc (numbers_of g.items) (numbers_of_groups (take i groups)) (numbers_of group.items))

-- HISTORIES

pub too_many_renamed : (f : Stamp → Stamp) (h : UndoHistory ℕ) → too_many (renamed_by f h) ≡ too_many h
too_many_renamed f h =
    ap (λ n. if h.most == 0 then 0 else n - h.most) (ap (λ l. length l) (to_undo_renamed f h) ∙ length-map (to_undo h) (with_stamps_in {T = ℕ} f))

pub dropped_renamed : (f : Stamp → Stamp) (n : ℕ) (h : UndoHistory ℕ) → renamed_by f (dropped n h) ≡ dropped n (renamed_by f h)
dropped_renamed f n h =
    let same : numbers_in (take n h.closed) ≡ numbers_in (take n (map (with_stamps_in {T = ℕ} f) h.closed)) =
    sym (ap (λ l. numbers_in l) (take-map (with_stamps_in {T = ℕ} f) n h.closed) ∙ numbers_groups_renamed f (take n h.closed)) in
    λ i. record (renamed_by f h) {
      closed = sym (drop-map (with_stamps_in {T = ℕ} f) n h.closed) i;
      kept = kept_after (same i) h.kept;
      forced = forced_after (same i) h.kept h.forced;
    }

pub limited_renamed : (f : Stamp → Stamp) (h : UndoHistory ℕ) → renamed_by f (limited h) ≡ limited (renamed_by f h)
limited_renamed f h = dropped_renamed f (too_many h) h ∙ ap (λ n. dropped n (renamed_by f h)) (sym (too_many_renamed f h))

-- groups as they are kept
pub dropped_kept : (n : ℕ) (groups : List (Vec KeptAction Global)) (h : UndoHistory ℕ)
    → record h {
      closed = groups_of (drop n groups);
      kept = kept_after (numbers_of_groups (take n groups)) h.kept;
      forced = forced_after (numbers_of_groups (take n groups)) h.kept h.forced;
    } ≡ dropped n (record h { closed = groups_of groups })
dropped_kept n groups h =
    let same : numbers_of_groups (take n groups) ≡ numbers_in (take n (groups_of groups)) =
    sym (ap (λ l. numbers_in l) (take-map (λ g. group_of g.items) n groups) ∙ numbers_closed (take n groups)) in
    λ i. record h {
      closed = sym (drop-map (λ g. group_of g.items) n groups) i;
      kept = kept_after (same i) h.kept;
      forced = forced_after (same i) h.kept h.forced;
    }

-- THE FLAG STAYS

-- the numbers of what can be undone begin with those of the oldest groups
numbers_parted : (n : ℕ) (h : UndoHistory ℕ) → numbers h ≡ numbers_in (take n h.closed) ++ numbers (dropped n h)
numbers_parted n h =
    ap (λ l. numbers_in (l ++ as_group h.current)) (sym (take-append-drop n h.closed))
    ∙ ap (λ l. numbers_in l) (append_assoc (take n h.closed) (drop n h.closed) (as_group h.current))
    ∙ flat_map-append (λ group. map (λ action. action.number) group) (take n h.closed) (drop n h.closed ++ as_group h.current)

flag_parted : (xs ys kept : List ℕ) (forced : Bool)
    → forced_after xs kept forced || not (same_numbers ys (kept_after xs kept)) ≡ forced || not (same_numbers (xs ++ ys) kept)
flag_parted xs ys kept forced = by_option (rest_after xs kept)
    (λ rest e. ap (λ o. (forced || not (is_some o)) || not (same_numbers ys (unwrap_or o []))) e
    ∙ ap (λ b. b || not (same_numbers ys rest)) (or_false forced)
    ∙ ap (λ b. forced || not b) (same_rest ys rest ∙ ap is_all (sym (rest_then xs ys kept rest e)) ∙ sym (same_rest (xs ++ ys) kept)))
    (λ e. ap (λ o. (forced || not (is_some o)) || not (same_numbers ys (unwrap_or o []))) e
    ∙ sym (or_true forced (not (same_numbers ys [])))
    ∙ ap (λ b. forced || not b) (ap is_all (sym (rest_none xs ys kept e)) ∙ sym (same_rest (xs ++ ys) kept)))

-- whatever can be undone later, the numbers of the oldest groups count as if they stood in front
pub later_flag : (n : ℕ) (h later : UndoHistory ℕ)
    → is_modified (record (dropped n h) { closed = later.closed; current = later.current })
    ≡ h.forced || not (same_numbers (numbers_in (take n h.closed) ++ numbers later) h.kept)
later_flag n h later = flag_parted (numbers_in (take n h.closed)) (numbers later) h.kept h.forced

pub same_flag : (n : ℕ) (h : UndoHistory ℕ) → is_modified (dropped n h) ≡ is_modified h
same_flag n h =
    later_flag n h (dropped n h)
    ∙ ap (λ l. h.forced || not (same_numbers l h.kept)) (sym (numbers_parted n h))

-- THE NEWEST GROUPS STAY

group_or_none : {X : Type 0} (xs : List X) → length (as_group xs) ≤ 1
group_or_none [] = omega arith
group_or_none (x ∷ xs) = omega arith

by_zero : {P : Type 0} (n : ℕ) → (n ≡ 0 → P) → (0 < n → P) → P
by_zero zero none some = none refl
by_zero (suc n) none some = some (omega arith)

-- where any number may be, none are too many
none_too_many : (h : UndoHistory ℕ) → h.most ≡ 0 → too_many h ≡ 0
none_too_many h e = ap (λ n. if n == 0 then 0 else length (to_undo h) - n) e

some_too_many : (h : UndoHistory ℕ) → 0 < h.most → too_many h ≡ length (to_undo h) - h.most
some_too_many h l =
    let no : (h.most == 0) ≡ false = grind (arith, nat_tests) in
    ap (λ b. if b then 0 else length (to_undo h) - h.most) no

closed_too_many : (h : UndoHistory ℕ) → too_many h ≤ length h.closed
closed_too_many h = by_zero h.most
    (λ e. omega (arith, none_too_many h e))
    (λ l. omega (arith, some_too_many h l, length-append h.closed (as_group h.current), group_or_none h.current))

pub newest_stay : (h : UndoHistory ℕ) → to_undo (limited h) ≡ drop (too_many h) (to_undo h)
newest_stay h = sym (drop-append-le (too_many h) h.closed (as_group h.current) (closed_too_many h))

pub most_stay : (h : UndoHistory ℕ) → 0 < h.most → length (to_undo (limited h)) ≤ h.most
most_stay h l = omega (arith, ap (λ gs. length gs) (newest_stay h), length-drop (too_many h) (to_undo h), some_too_many h l)

pub full_stay : (h : UndoHistory ℕ) → 0 < h.most → h.most ≤ length (to_undo h) → length (to_undo (limited h)) ≡ h.most
full_stay h l m = omega (arith, ap (λ gs. length gs) (newest_stay h), length-drop (too_many h) (to_undo h), some_too_many h l)

none_dropped : (h : UndoHistory ℕ) → too_many h ≡ 0 → limited h ≡ h
none_dropped h none = ap (λ n. dropped n h) none ∙ (λ i. record h { forced = or_false h.forced i })

pub few_stay : (h : UndoHistory ℕ) → length (to_undo h) ≤ h.most → limited h ≡ h
few_stay h l = none_dropped h (by_zero h.most (none_too_many h) (λ p. omega (arith, some_too_many h p)))

pub any_stay : (h : UndoHistory ℕ) → h.most ≡ 0 → limited h ≡ h
any_stay h e = none_dropped h (none_too_many h e)
