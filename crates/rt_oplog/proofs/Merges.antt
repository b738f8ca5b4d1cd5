-- Two ordered lists of operations, merged.
use Rattle.rt_rows.specs.Places.{HasPlace, op_at}
use Rattle.rt_rows.specs.declared.rows.RowPlace.{RowPlace}
use Rattle.std.proofs.Common.{◌≡◌, ◌↔◌, ℕ, zero, suc, ◌+◌, ◌-◌, ◌<◌, ◌≤◌, true, false, ◌==◌, nat_lt, ◌⊎◌, inl, inr, List, [], ◌∷◌, ◌++◌, length, map, get_or, take, drop, cond, max, refl, ap, ◌∙◌, sym, subst, arith, append_assoc, append-nil, take-append-drop, drop-cons, add-one, reverse}
use Rattle.std.proofs.lemmas.Bool.Decides.{nat_tests}
use Rattle.std.specs.List.{AllByRecursion}
use Rattle.rt_stamps.specs.Stamps.{is_before}
use Rattle.rt_stamps.proofs.Order.{before_trans, before_irrefl}
use Rattle.rt_oplog.specs.declared.ends.Ends.{Ends}
use Rattle.rt_oplog.specs.Ends.{end_in}
use Rattle.rt_ops.specs.Operations.{Operation, stamp_of, has_bad_stamp, last_count}
use Rattle.rt_oplog.specs.Logs.{HasClashOf, HasOp, same_operation, reaches_into, clash, IsFalling, IsLog, known_end}
use Rattle.rt_oplog.specs.Kept.{newest_first, IsLogInRows}
use Rattle.rt_oplog.proofs.Sets.{split, operation_true, clash_self, clash_sym, member_before}
use Rattle.rt_oplog.proofs.Joins.{free_past}
use Rattle.std.proofs.lemmas.List.{take_more, take_all, length-drop, reverse-append}
use Rattle.std.proofs.Math.ListN.{set}
use Rattle.rt_oplog.proofs.Places.{oldest_before, falling_front, at_has}

-- the operations of places, the first one first
abbrev pub ops_at : List (List Operation) → List RowPlace → List Operation
ops_at ops order = map (op_at ops) order

-- each is before those behind it
abbrev pub IsRising : List Operation → Type 0
IsRising [] = Unit {0}
IsRising (x ∷ xs) = ((y : Operation) → HasOp xs y → is_before (stamp_of x) (stamp_of y) ≡ true) × IsRising xs

-- What was merged, the newest first, and what is left of the two.
pub record Merging (one other merged left right : List Operation) : Type 0 where
  pub falling : IsFalling merged
  pub ahead : (p x : Operation) → HasOp merged p → HasOp left x ⊎ HasOp right x → is_before (stamp_of p) (stamp_of x) ≡ true
  pub rising_left : IsRising left
  pub rising_right : IsRising right
  pub members : (x : Operation) → (HasOp merged x ⊎ (HasOp left x ⊎ HasOp right x)) ↔ (HasOp one x ⊎ HasOp other x)

turned : {A B : Type 0} → A ⊎ B → B ⊎ A
turned h = elim h [ inl a ↦ inr a | inr b ↦ inl b ]

turned_rest : {A B C : Type 0} → A ⊎ (B ⊎ C) → A ⊎ (C ⊎ B)
turned_rest h = elim h [ inl a ↦ inl a | inr b ↦ inr (turned b) ]

pub sides : (one other merged left right : List Operation) → Merging one other merged left right → Merging one other merged right left
sides one other merged left right m = record {
  falling = m.falling;
  ahead = λ p x i j. m.ahead p x i (turned j);
  rising_left = m.rising_right;
  rising_right = m.rising_left;
  members = λ x. (λ h. (m.members x).0 (turned_rest h), λ h. turned_rest ((m.members x).1 h));
}

all_from : (P : Operation → Type 0) (set : List Operation) → ((x : Operation) → HasOp set x → P x) → AllByRecursion P set
all_from P [] f = tt
all_from P (q ∷ set) f = (f q (inl refl), all_from P set (λ x i. f x (inr i)))

pub take_left : (one other merged : List Operation) (x : Operation) (left right : List Operation) → Merging one other merged (x ∷ left) right
    → ((y : Operation) → HasOp right y → is_before (stamp_of x) (stamp_of y) ≡ true) → Merging one other (x ∷ merged) left right
take_left one other merged x left right m f = record {
  falling = (all_from (λ q. is_before (stamp_of q) (stamp_of x) ≡ true) merged (λ q i. m.ahead q x i (inl (inl refl))), m.falling);
  ahead = λ p y i j. elim i [
    | inl e ↦ subst (λ z. is_before (stamp_of z) (stamp_of y) ≡ true) e (elim j [ inl k ↦ m.rising_left.0 y k | inr k ↦ f y k ])
    | inr k ↦ m.ahead p y k (elim j [ inl l ↦ inl (inr l) | inr l ↦ inr l ])
  ];
  rising_left = m.rising_left.1;
  rising_right = m.rising_right;
  members = λ y. (λ h. (m.members y).0 (back h), λ h. on ((m.members y).1 h));
}
  where
    back : {A B C D : Type 0} → (A ⊎ B) ⊎ (C ⊎ D) → B ⊎ ((A ⊎ C) ⊎ D)
    back h = elim h [ inl i ↦ elim i [ inl a ↦ inr (inl (inl a)) | inr b ↦ inl b ] | inr j ↦ elim j [ inl c ↦ inr (inl (inr c)) | inr d ↦ inr (inr d) ] ]

    on : {A B C D : Type 0} → B ⊎ ((A ⊎ C) ⊎ D) → (A ⊎ B) ⊎ (C ⊎ D)
    on h = elim h [ inl b ↦ inl (inr b) | inr i ↦ elim i [ inl j ↦ elim j [ inl a ↦ inl (inl a) | inr c ↦ inr (inl c) ] | inr d ↦ inr (inr d) ] ]

-- the first of a rising list is before all others of it, and so is what is before the first
before_all : (x y : Operation) (right : List Operation) → IsRising (y ∷ right) → is_before (stamp_of x) (stamp_of y) ≡ true → (z : Operation) → HasOp (y ∷ right) z → is_before (stamp_of x) (stamp_of z) ≡ true
before_all x y right r e z i = elim i [
  | inl d ↦ subst (λ w. is_before (stamp_of x) (stamp_of w) ≡ true) d e
  | inr j ↦ before_trans (stamp_of x) (stamp_of y) (stamp_of z) e (r.0 z j)
]

pub take_lesser : (one other merged : List Operation) (x y : Operation) (left right : List Operation) → Merging one other merged (x ∷ left) (y ∷ right)
    → is_before (stamp_of x) (stamp_of y) ≡ true → Merging one other (x ∷ merged) left (y ∷ right)
take_lesser one other merged x y left right m e = take_left one other merged x left (y ∷ right) m (before_all x y right m.rising_right e)

pub take_greater : (one other merged : List Operation) (x y : Operation) (left right : List Operation) → Merging one other merged (x ∷ left) (y ∷ right)
    → is_before (stamp_of y) (stamp_of x) ≡ true → Merging one other (y ∷ merged) (x ∷ left) right
take_greater one other merged x y left right m e =
    sides one other (y ∷ merged) right (x ∷ left) (take_lesser one other merged y x right left (sides one other merged (x ∷ left) (y ∷ right) m) e)

pub take_both : (one other merged : List Operation) (x y : Operation) (left right : List Operation) → Merging one other merged (x ∷ left) (y ∷ right)
    → x ≡ y → Merging one other (x ∷ merged) left right
take_both one other merged x y left right m e = take_left one other merged x left right
    (record {
      falling = m.falling;
      ahead = λ p z i j. m.ahead p z i (elim j [ inl k ↦ inl k | inr k ↦ inr (inr k) ]);
      rising_left = m.rising_left;
      rising_right = m.rising_right.1;
      members = λ z. (
        λ h. (m.members z).0 (elim h [ inl a ↦ inl a | inr i ↦ elim i [ inl b ↦ inr (inl b) | inr c ↦ inr (inr (inr c)) ] ]),
        λ h. elim ((m.members z).1 h) [ inl a ↦ inl a | inr i ↦ elim i [ inl b ↦ inr (inl b) | inr c ↦ elim c [ inl d ↦ inr (inl (inl (e ∙ d))) | inr d ↦ inr (inr d) ] ] ],
      );
    })
    (λ z i. subst (λ w. is_before (stamp_of w) (stamp_of z) ≡ true) (sym e) (m.rising_right.0 z i))

-- places

pub seen_push : (ops : List (List Operation)) (order : List RowPlace) (place : RowPlace) → newest_first ops (order ++ place ∷ []) ≡ op_at ops place ∷ newest_first ops order
seen_push ops [] place = refl
seen_push ops (first ∷ order) place = ap (λ xs. xs ++ op_at ops first ∷ []) (seen_push ops order place)

pub has_end : (set : List Operation) (q x : Operation) → HasOp set x ⊎ (q ≡ x) → HasOp (set ++ q ∷ []) x
has_end [] q x h = elim h [ inl i ↦ absurd i | inr e ↦ inl e ]
has_end (y ∷ set) q x h = elim h [ inl i ↦ elim i [ inl e ↦ inl e | inr j ↦ inr (has_end set q x (inl j)) ] | inr e ↦ inr (has_end set q x (inr e)) ]

pub end_has : (set : List Operation) (q x : Operation) → HasOp (set ++ q ∷ []) x → HasOp set x ⊎ (q ≡ x)
end_has [] q x h = elim h [ inl e ↦ inr e | inr i ↦ absurd i ]
end_has (y ∷ set) q x h = elim h [ inl e ↦ inl (inl e) | inr i ↦ elim (end_has set q x i) [ inl j ↦ inl (inr j) | inr e ↦ inr e ] ]

pub seen_has : (ops : List (List Operation)) (order : List RowPlace) (x : Operation) → HasOp (newest_first ops order) x ↔ HasOp (ops_at ops order) x
seen_has ops [] x = (λ h. h, λ h. h)
seen_has ops (place ∷ order) x = (
  λ h. elim (end_has (newest_first ops order) (op_at ops place) x h) [ inl i ↦ inr ((seen_has ops order x).0 i) | inr e ↦ inl e ],
  λ h. has_end (newest_first ops order) (op_at ops place) x (elim h [ inl e ↦ inr e | inr i ↦ inl ((seen_has ops order x).1 i) ]),
)

pub rising_seen : (ops : List (List Operation)) (order : List RowPlace) → IsFalling (newest_first ops order) → IsRising (ops_at ops order)
rising_seen ops [] f = tt
rising_seen ops (place ∷ order) f = (
  λ y i. oldest_before (newest_first ops order) (op_at ops place) y f ((seen_has ops order y).1 i),
  rising_seen ops order (falling_front (newest_first ops order) (op_at ops place) f),
)

pub merging_start : (ops more : List (List Operation)) (mine theirs : List RowPlace) → IsFalling (newest_first ops mine) → IsFalling (newest_first more theirs)
    → Merging (newest_first ops mine) (newest_first more theirs) [] (ops_at ops mine) (ops_at more theirs)
merging_start ops more mine theirs f g = record {
  falling = tt;
  ahead = λ p x i j. absurd i;
  rising_left = rising_seen ops mine f;
  rising_right = rising_seen more theirs g;
  members = λ x. (
    λ h. elim h [ inl i ↦ absurd i | inr j ↦ elim j [ inl k ↦ inl ((seen_has ops mine x).1 k) | inr k ↦ inr ((seen_has more theirs x).1 k) ] ],
    λ h. inr (elim h [ inl k ↦ inl ((seen_has ops mine x).0 k) | inr k ↦ inr ((seen_has more theirs x).0 k) ]),
  );
}

-- the rest of one side goes behind
pub merging_rest : (one other : List Operation) (ops : List (List Operation)) (order rest : List RowPlace) → Merging one other (newest_first ops order) (ops_at ops rest) []
    → Merging one other (newest_first ops (order ++ rest)) [] []
merging_rest one other ops order [] m = subst (λ xs. Merging one other (newest_first ops xs) [] []) (sym (append-nil order)) m
merging_rest one other ops order (place ∷ rest) m =
    subst (λ xs. Merging one other (newest_first ops xs) [] []) (append_assoc order (place ∷ []) rest)
    (merging_rest one other ops (order ++ place ∷ []) rest
    (subst (λ xs. Merging one other xs (ops_at ops rest) []) (sym (seen_push ops order place)) (take_left one other (newest_first ops order) (op_at ops place) (ops_at ops rest) [] m (λ y i. absurd i))))

-- a site's known end is the last count of one of its operations
pub end_from : (set : List Operation) (site n : ℕ) → n < known_end set site → (p : Operation) × HasOp set p × (p.site ≡ site) × (n < last_count p)
end_from [] site n h = absurd (omega arith)
end_from (q ∷ set) site n h = split (nat_lt n (known_end set site))
    (λ e. let (p, i, s, l) = end_from set site n (grind (arith, nat_tests)) in (p, inr i, s, l))
    (λ e. let k = own q (known_end set site) h e in (q, inl refl, k.0, k.1))
  where
    own : (q : Operation) (rest : ℕ) → n < cond (q.site == site) (max (last_count q) rest) rest → nat_lt n rest ≡ false → (q.site ≡ site) × (n < last_count q)
    own q rest h e = (grind (arith, nat_tests), grind (arith, nat_tests))

-- a newer operation that goes on from below the known end clashes
pub clash_below : (set : List Operation) (op : Operation) → IsFalling (op ∷ set) → op.prev < known_end set op.site → (p : Operation) × HasOp set p × (clash p op ≡ true)
clash_below set op f h =
    let (p, i, s, l) = end_from set op.site op.prev h in
    let b = member_before op p set f.0 i in
    (p, i, overlap p s l b)
  where
    overlap : (p : Operation) → p.site ≡ op.site → op.prev < last_count p → is_before (stamp_of p) (stamp_of op) ≡ true → clash p op ≡ true
    overlap p s l b =
        let r : reaches_into p op ≡ true = grind (arith, nat_tests, s, l, b) in
        let d : same_operation p op ≡ false = split (same_operation p op)
        (λ e. let n = before_irrefl (stamp_of op) in let k : is_before (stamp_of op) (stamp_of op) ≡ true = subst (λ y. is_before (stamp_of y) (stamp_of op) ≡ true) (operation_true p op e) b in absurd (cc (k, n)))
        (λ e. e) in
        rw (d, r)

-- a newer operation that goes on from the known end is taken
pub log_newer : (set : List Operation) (op : Operation) → IsLog set → has_bad_stamp op ≡ false → IsFalling (op ∷ set) → known_end set op.site ≤ op.prev → IsLog (op ∷ set)
log_newer set op l s f h = record {
  falling = f;
  sound = λ x i. elim i [ inl e ↦ subst (λ y. has_bad_stamp y ≡ false) e s | inr j ↦ l.sound x j ];
  free = λ p q i j. elim i [
    | inl e ↦ elim j [
      | inl d ↦ subst (λ y. clash y q ≡ false) e (subst (λ y. clash op y ≡ false) d (clash_self op))
      | inr k ↦ subst (λ y. clash y q ≡ false) e (free_past set op s h q k)
    ]
    | inr m ↦ elim j [
      | inl d ↦ subst (λ y. clash p y ≡ false) d (clash_sym p op ∙ free_past set op s h p m)
      | inr k ↦ l.free p q m k
    ]
  ];
}

-- fronts of the places

pub seen_append : (ops : List (List Operation)) (xs ys : List RowPlace) → newest_first ops (xs ++ ys) ≡ newest_first ops ys ++ newest_first ops xs
seen_append ops [] ys = sym (append-nil (newest_first ops ys))
seen_append ops (place ∷ xs) ys = ap (λ s. s ++ op_at ops place ∷ []) (seen_append ops xs ys) ∙ append_assoc (newest_first ops ys) (newest_first ops xs) (op_at ops place ∷ [])

pub falling_after : (xs ys : List Operation) → IsFalling (xs ++ ys) → IsFalling ys
falling_after [] ys h = h
falling_after (x ∷ xs) ys h = falling_after xs ys h.1

pub has_after : (xs ys : List Operation) (x : Operation) → HasOp ys x → HasOp (xs ++ ys) x
has_after [] ys x h = h
has_after (y ∷ xs) ys x h = inr (has_after xs ys x h)

pub seen_parts : (ops : List (List Operation)) (order : List RowPlace) (i : ℕ) → newest_first ops order ≡ newest_first ops (drop i order) ++ newest_first ops (take i order)
seen_parts ops order i = ap (newest_first ops) (sym (take-append-drop i order)) ∙ seen_append ops (take i order) (drop i order)

falling_take : (ops : List (List Operation)) (order : List RowPlace) (i : ℕ) → IsFalling (newest_first ops order) → IsFalling (newest_first ops (take i order))
falling_take ops order i f = falling_after (newest_first ops (drop i order)) (newest_first ops (take i order)) (subst IsFalling (seen_parts ops order i) f)

has_take : (ops : List (List Operation)) (order : List RowPlace) (i : ℕ) (x : Operation) → HasOp (newest_first ops (take i order)) x → HasOp (newest_first ops order) x
has_take ops order i x h = subst (λ s. HasOp s x) (sym (seen_parts ops order i)) (has_after (newest_first ops (drop i order)) (newest_first ops (take i order)) x h)

pub within_push : (P : RowPlace → Type 0) (place : RowPlace) (order : List RowPlace) → AllByRecursion P order → P place → AllByRecursion P (order ++ place ∷ [])
within_push P place [] h l = (l, tt)
within_push P place (first ∷ order) h l = (h.0, within_push P place order h.1 l)

pub within_append : (P : RowPlace → Type 0) (order rest : List RowPlace) → AllByRecursion P order → AllByRecursion P rest → AllByRecursion P (order ++ rest)
within_append P [] rest h l = l
within_append P (first ∷ order) rest h l = (h.0, within_append P order rest h.1 l)

pub within_drop : (P : RowPlace → Type 0) (i : ℕ) (order : List RowPlace) → AllByRecursion P order → AllByRecursion P (drop i order)
within_drop P zero order h = h
within_drop P (suc i) [] h = tt
within_drop P (suc i) (first ∷ order) h = within_drop P i order h.1

pub within_at : (P : RowPlace → Type 0) (i : ℕ) (order : List RowPlace) → i < length order → AllByRecursion P order → P (get_or order i (record { row = 0; at = 0 }))
within_at P i [] l h = absurd (omega arith)
within_at P zero (first ∷ order) l h = h.0
within_at P (suc i) (first ∷ order) l h = within_at P i order (omega arith) h.1

seen_next : (ops : List (List Operation)) (order : List RowPlace) (i : ℕ) → i < length order → newest_first ops (take (i + 1) order) ≡ op_at ops (get_or order i (record { row = 0; at = 0 })) ∷ newest_first ops (take i order)
seen_next ops order i h = ap (newest_first ops) (take_more order i (record { row = 0; at = 0 }) h) ∙ seen_push ops (take i order) (get_or order i (record { row = 0; at = 0 }))

-- one more operation, and its end

pub kept_step : (ops : List (List Operation)) (order : List RowPlace) (i : ℕ) (ends more : Ends) (op : Operation) → i < length order → op ≡ op_at ops (get_or order i (record { row = 0; at = 0 }))
    → AllByRecursion (HasPlace ops) order → IsFalling (newest_first ops order) → ((x : Operation) → HasOp (newest_first ops order) x → has_bad_stamp x ≡ false)
    → IsLogInRows ops (take i order) ends → end_in ends op.site ≤ op.prev → ((s : ℕ) → end_in more s ≡ cond (op.site == s) (max (last_count op) (end_in ends s)) (end_in ends s))
    → IsLogInRows ops (take (i + 1) order) more
kept_step ops order i ends more op h e w f s k l m =
    let set = newest_first ops (take i order) in
    let seen : newest_first ops (take (i + 1) order) ≡ op ∷ set = seen_next ops order i h ∙ ap (λ y. y ∷ set) (sym e) in
    let sound : has_bad_stamp op ≡ false = rw e (s (op_at ops (get_or order i (record { row = 0; at = 0 }))) (at_has ops order i (record { row = 0; at = 0 }) h)) in
    let past : known_end set op.site ≤ op.prev = let a = k.known op.site in omega arith in
    record {
      within = subst (λ xs. AllByRecursion (HasPlace ops) xs) (sym (take_more order i (record { row = 0; at = 0 }) h)) (within_push (HasPlace ops) (get_or order i (record { row = 0; at = 0 })) (take i order) k.within (within_at (HasPlace ops) i order h w));
      log = subst IsLog (sym seen) (log_newer set op k.log sound (subst IsFalling seen (falling_take ops order (i + 1) f)) past);
      known = λ site. m site ∙ ap (λ n. cond (op.site == site) (max (last_count op) n) n) (k.known site) ∙ ap (λ xs. known_end xs site) (sym seen);
    }

pub clash_step : (ops : List (List Operation)) (order : List RowPlace) (i : ℕ) (ends : Ends) (op : Operation) → i < length order → op ≡ op_at ops (get_or order i (record { row = 0; at = 0 }))
    → IsFalling (newest_first ops order) → IsLogInRows ops (take i order) ends → op.prev < end_in ends op.site → HasClashOf (newest_first ops order) (newest_first ops order)
clash_step ops order i ends op h e f k l =
    let set = newest_first ops (take i order) in
    let seen : newest_first ops (take (i + 1) order) ≡ op ∷ set = seen_next ops order i h ∙ ap (λ y. y ∷ set) (sym e) in
    let below : op.prev < known_end set op.site = let a = k.known op.site in omega arith in
    let (p, j, c) = clash_below set op (subst IsFalling seen (falling_take ops order (i + 1) f)) below in
    (p, op, inl (has_take ops order i p j), inl (subst (λ y. HasOp (newest_first ops order) y) (sym e) (at_has ops order i (record { row = 0; at = 0 }) h)), c)

pub ops_drop : (ops : List (List Operation)) (order : List RowPlace) (i : ℕ) → i < length order → ops_at ops (drop i order) ≡ op_at ops (get_or order i (record { row = 0; at = 0 })) ∷ ops_at ops (drop (i + 1) order)
ops_drop ops order i h = ap (ops_at ops) (drop-cons order i (record { row = 0; at = 0 }) h ∙ ap (λ n. get_or order i (record { row = 0; at = 0 }) ∷ drop n order) (sym (add-one i)))

pub kept_none : (ops : List (List Operation)) (ends : Ends) → ((s : ℕ) → end_in ends s ≡ 0) → IsLogInRows ops [] ends
kept_none ops ends e = record {
  within = tt;
  log = record { falling = tt; sound = λ op i. absurd i; free = λ p q i j. absurd i };
  known = e;
}

-- in the order of the places

pub seen_reversed : (ops : List (List Operation)) (order : List RowPlace) → reverse (newest_first ops order) ≡ ops_at ops order
seen_reversed ops [] = refl
seen_reversed ops (place ∷ order) = reverse-append (newest_first ops order) (op_at ops place ∷ []) ∙ ap (λ xs. op_at ops place ∷ xs) (seen_reversed ops order)

pub at_map : (ops : List (List Operation)) (order : List RowPlace) (i : ℕ) (d : Operation) → i < length order → get_or (ops_at ops order) i d ≡ op_at ops (get_or order i (record { row = 0; at = 0 }))
at_map ops [] i d h = absurd (omega arith)
at_map ops (place ∷ order) zero d h = refl
at_map ops (place ∷ order) (suc i) d h = at_map ops order i d (omega arith)

-- a list from a place on, as a slice has it
pub rest_of : {X : Type 0} (n : ℕ) (xs : List X) → take (length xs - n) (drop n xs) ≡ drop n xs
rest_of n xs = take_all _ _ (omega (arith, length-drop n xs))
