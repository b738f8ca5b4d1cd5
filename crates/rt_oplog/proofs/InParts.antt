-- Places in parts, one part after another, as one list: the parts are runs, or blocks.
use Rattle.rt_rows.specs.declared.rows.RowPlace.{RowPlace}
use Rattle.std.proofs.Common.{◌≡◌, ℕ, zero, suc, ◌+◌, ◌-◌, ◌<◌, ◌≤◌, Bool, true, false, List, [], ◌∷◌, ◌++◌, length, get_or, take, set, refl, sym, ap, subst, ◌∙◌, arith, append-nil, append_assoc, length-append, inl, inr}
use Rattle.std.specs.Prelude.{slice_get, Some}
use Rattle.std.specs.List.{AllByRecursion, flat_map, list_all, insert}
use Rattle.std.specs.List.Sorted.{IsPartitionedBy}
use Rattle.std.proofs.lemmas.List.{take_more}
use Rattle.std.proofs.lemmas.List.Concat.{flat_map-append, get_or-flat_map}
use Rattle.std.proofs.lemmas.List.Edits.{insert-append_left, insert-append_right}
use Rattle.std.proofs.lemmas.List.Folds.{list_all_at}
use Rattle.std.proofs.lemmas.Option.{slice_get_read}
use Rattle.rt_stamps.specs.declared.stamp.Stamp.{Stamp}
use Rattle.rt_stamps.specs.Stamps.{is_before}
use Rattle.rt_ops.specs.Operations.{Operation, stamp_of}
use Rattle.rt_oplog.specs.Logs.{HasOp, IsFalling, IsLog}
use Rattle.rt_oplog.specs.Kept.{newest_first, leading, is_earlier}
use Rattle.rt_oplog.specs.Places.{end_place}
use Rattle.rt_oplog.proofs.Sets.{split}
use Rattle.rt_oplog.proofs.Places.{partitioned}
use Rattle.rt_oplog.proofs.Merges.{falling_after, has_after, seen_append}

-- tests on places

pub any_default : {X : Type 0} (xs : List X) (i : ℕ) (x y : X) → i < length xs → get_or xs i x ≡ get_or xs i y
any_default [] i x y k = absurd (omega arith)
any_default (z ∷ xs) zero x y k = refl
any_default (z ∷ xs) (suc i) x y k = any_default xs i x y (omega arith)

all_by_index : {X : Type 0} (p : X → Bool) (xs : List X) → ((i : ℕ) (d : X) → i < length xs → p (get_or xs i d) ≡ true) → list_all p xs ≡ true
all_by_index p [] f = refl
all_by_index p (x ∷ xs) f = rw (f 0 x (omega arith)) (all_by_index p xs (λ i d l. f (suc i) d (omega arith)))

-- where what passes a test stands in front, all pass if the last one does
pub all_if_last : {X : Type 0} (p : X → Bool) (xs : List X) (d : X) → 0 < length xs → IsPartitionedBy p xs → p (get_or xs (length xs - 1) d) ≡ list_all p xs
all_if_last {X} p xs d l h = split (p (get_or xs (length xs - 1) d))
    (λ e. e ∙ sym (all_by_index p xs (λ i x k. h i (length xs - 1) x (omega (arith, k)) (omega (arith, l)) (subst (λ (y : X). p y ≡ true) (same_last x) e))))
    (λ e. e ∙ sym (list_all_at p xs (length xs - 1) d (omega (arith, l)) e))
  where
    same_last : (x : X) → get_or xs (length xs - 1) d ≡ get_or xs (length xs - 1) x
    same_last x = any_default xs (length xs - 1) d x (omega (arith, l))

pub leading_all : {X : Type 0} (p : X → Bool) (xs ys : List X) → list_all p xs ≡ true → leading p (xs ++ ys) ≡ length xs + leading p ys
leading_all p [] ys h = omega arith
leading_all p (x ∷ xs) ys h = split (p x)
    (λ e. let r = leading_all p xs ys (rw e at h) in rw e (omega (arith, r)))
    (λ e. let k = rw e at h in absurd (cc k))

pub leading_front : {X : Type 0} (p : X → Bool) (xs ys : List X) → list_all p xs ≡ false → leading p (xs ++ ys) ≡ leading p xs
leading_front p [] ys h = absurd (cc h)
leading_front p (x ∷ xs) ys h = split (p x)
    (λ e. rw e (ap suc (leading_front p xs ys (rw e at h))))
    (λ e. rw e refl)

pub leading_fails : {X : Type 0} (p : X → Bool) (xs : List X) → list_all p xs ≡ false → leading p xs < length xs
leading_fails p [] h = absurd (cc h)
leading_fails p (x ∷ xs) h = split (p x)
    (λ e. let r = leading_fails p xs (rw e at h) in rw e (omega (arith, r)))
    (λ e. rw e (omega arith))

-- the first place that fails a test stands in the first part of which not all pass

abbrev pub part_passes : {X : Type 0} → (X → List RowPlace) → (RowPlace → Bool) → X → Bool
part_passes f p x = list_all p (f x)

pub leading_at : {X : Type 0} (f : X → List RowPlace) (p : RowPlace → Bool) (bs : List X) (i : ℕ) (b : X) → i ≡ leading (part_passes f p) bs → i < length bs → b ≡ get_or bs i b
    → leading p (flat_map f bs) ≡ length (flat_map f (take i bs)) + leading p (f b)
leading_at f p [] i b e l g = absurd (omega arith)
leading_at f p (c ∷ bs) zero b e l g = split (part_passes f p c)
    (λ h. let k = rw h at e in absurd (omega (arith, k)))
    (λ h. let k = leading_front p (f c) (flat_map f bs) h in k ∙ ap (λ x. leading p (f x)) (sym g) ∙ sym (zero_plus (leading p (f b))))
  where
    zero_plus : (n : ℕ) → 0 + n ≡ n
    zero_plus n = omega arith
leading_at f p (c ∷ bs) (suc i) b e l g = split (part_passes f p c)
    (λ h. let k = rw h at e in
    let r = leading_at f p bs i b (omega (arith, k)) (omega arith) g in
    let a = leading_all p (f c) (flat_map f bs) h in
    let n = length-append (f c) (flat_map f (take i bs)) in
    omega (arith, r, a, n))
    (λ h. let k = rw h at e in absurd (omega (arith, k)))

pub leading_within : {X : Type 0} (f : X → List RowPlace) (p : RowPlace → Bool) (bs : List X) (i : ℕ) (b : X) → i ≡ leading (part_passes f p) bs → i < length bs → b ≡ get_or bs i b
    → leading p (f b) < length (f b)
leading_within f p [] i b e l g = absurd (omega arith)
leading_within f p (c ∷ bs) zero b e l g = split (part_passes f p c)
    (λ h. let k = rw h at e in absurd (omega (arith, k)))
    (λ h. subst (λ x. leading p (f x) < length (f x)) (sym g) (leading_fails p (f c) h))
leading_within f p (c ∷ bs) (suc i) b e l g = split (part_passes f p c)
    (λ h. let k = rw h at e in leading_within f p bs i b (omega (arith, k)) (omega arith) g)
    (λ h. let k = rw h at e in absurd (omega (arith, k)))

pub leading_none : {X : Type 0} (f : X → List RowPlace) (p : RowPlace → Bool) (bs : List X) → leading (part_passes f p) bs ≡ length bs → leading p (flat_map f bs) ≡ length (flat_map f bs)
leading_none f p [] e = refl
leading_none f p (c ∷ bs) e = split (part_passes f p c)
    (λ h. let k = rw h at e in
    let r = leading_none f p bs (omega (arith, k)) in
    let a = leading_all p (f c) (flat_map f bs) h in
    let n = length-append (f c) (flat_map f bs) in
    omega (arith, r, a, n))
    (λ h. let k = rw h at e in absurd (omega (arith, k)))

-- a part among parts

falling_back : (xs ys : List Operation) → IsFalling (xs ++ ys) → IsFalling xs
falling_back [] ys h = tt
falling_back (x ∷ xs) ys h = (all_back (λ q. is_before (stamp_of q) (stamp_of x) ≡ true) xs ys h.0, falling_back xs ys h.1)
  where
    all_back : (P : Operation → Type 0) (xs ys : List Operation) → AllByRecursion P (xs ++ ys) → AllByRecursion P xs
    all_back P [] ys h = tt
    all_back P (x ∷ xs) ys h = (h.0, all_back P xs ys h.1)

pub places_next : {X : Type 0} (f : X → List RowPlace) (bs : List X) (i : ℕ) (b : X) → i < length bs → b ≡ get_or bs i b → flat_map f (take (i + 1) bs) ≡ flat_map f (take i bs) ++ f b
places_next f bs i b l e =
    ap (flat_map f) (take_more bs i b l ∙ ap (λ x. take i bs ++ x ∷ []) (sym e)) ∙ flat_map-append f (take i bs) (b ∷ []) ∙ ap (λ xs. flat_map f (take i bs) ++ xs) (append-nil (f b))

pub falling_part : {X : Type 0} (f : X → List RowPlace) (ops : List (List Operation)) (bs : List X) (i : ℕ) (b : X) → i < length bs → b ≡ get_or bs i b → IsFalling (newest_first ops (flat_map f bs)) → IsFalling (newest_first ops (f b))
falling_part f ops [] i b l e h = absurd (omega arith)
falling_part f ops (c ∷ bs) zero b l e h =
    let g = subst IsFalling (seen_append ops (f c) (flat_map f bs)) h in
    subst (λ x. IsFalling (newest_first ops (f x))) (sym e) (falling_after (newest_first ops (flat_map f bs)) (newest_first ops (f c)) g)
falling_part f ops (c ∷ bs) (suc i) b l e h =
    let g = subst IsFalling (seen_append ops (f c) (flat_map f bs)) h in
    falling_part f ops bs i b (omega arith) e (falling_back (newest_first ops (flat_map f bs)) (newest_first ops (f c)) g)

-- no part is empty
abbrev pub HavePlaces : {X : Type 0} → (X → List RowPlace) → Type 0
HavePlaces {X} f = (x : X) → 0 < length (f x)

-- the first place of a part, in the one list
first_at : {X : Type 0} (f : X → List RowPlace) → HavePlaces f → (bs : List X) (j : ℕ) (e : X) (d : RowPlace) → j < length bs
    → (length (flat_map f (take j bs)) < length (flat_map f bs)) × (get_or (flat_map f bs) (length (flat_map f (take j bs))) d ≡ get_or (f (get_or bs j e)) 0 d)
first_at f some [] j e d l = absurd (omega arith)
first_at f some (b ∷ bs) zero e d l = (
  (let n = length-append (f b) (flat_map f bs) in let s = some b in omega (arith, n, s)),
  front_of (f b) (flat_map f bs) d (some b),
)
  where
    front_of : (xs ys : List RowPlace) (d : RowPlace) → 0 < length xs → get_or (xs ++ ys) 0 d ≡ get_or xs 0 d
    front_of [] ys d h = absurd (omega arith)
    front_of (x ∷ xs) ys d h = refl
first_at f some (b ∷ bs) (suc j) e d l =
    let r = first_at f some bs j e d (omega arith) in
    let n = length-append (f b) (flat_map f (take j bs)) in
    let m = length-append (f b) (flat_map f bs) in (
      omega (arith, r.0, n, m),
      ap (λ k. get_or (f b ++ flat_map f bs) k d) n ∙ behind (f b) (flat_map f bs) (length (flat_map f (take j bs))) d ∙ r.1,
    )
  where
    behind : (xs ys : List RowPlace) (k : ℕ) (d : RowPlace) → get_or (xs ++ ys) (length xs + k) d ≡ get_or ys k d
    behind [] ys k d = let e : 0 + k ≡ k = omega arith in ap (λ n. get_or ys n d) e
    behind (x ∷ xs) ys k d = let e : suc (length xs) + k ≡ suc (length xs + k) = omega arith in ap (λ n. get_or (x ∷ (xs ++ ys)) n d) e ∙ behind xs ys k d

parts_parted : {X : Type 0} (f : X → List RowPlace) → HavePlaces f → (ops : List (List Operation)) (stamp : Stamp) (bs : List X) → IsFalling (newest_first ops (flat_map f bs)) → IsPartitionedBy (part_passes f (is_earlier ops stamp)) bs
parts_parted f some ops stamp [] h i j d l k e = absurd (omega arith)
parts_parted f some ops stamp (b ∷ bs) h zero zero d l k e = e
parts_parted f some ops stamp (b ∷ bs) h (suc i) zero d l k e = absurd (omega arith)
parts_parted f some ops stamp (b ∷ bs) h (suc i) (suc j) d l k e =
    let g = subst IsFalling (seen_append ops (f b) (flat_map f bs)) h in
    parts_parted f some ops stamp bs (falling_back (newest_first ops (flat_map f bs)) (newest_first ops (f b)) g) i j d (omega arith) (omega arith) e
parts_parted f some ops stamp (b ∷ bs) h zero (suc j) d l k e =
    let p = is_earlier ops stamp in
    let all = f b ++ flat_map f bs in
    let n = length-append (f b) (flat_map f bs) in
    let c = get_or bs j d in
    all_by_index p (f b) (λ i x w.
    let at = first_at f some (b ∷ bs) (suc j) d x k in
    let first : p (get_or (f c) 0 x) ≡ true = all_first p (f c) x (some c) e in
    let there : p (get_or all (length (flat_map f (take (suc j) (b ∷ bs)))) x) ≡ true = ap p at.1 ∙ first in
    let m = length-append (f b) (flat_map f (take j bs)) in
    let here = partitioned ops stamp all h i (length (flat_map f (take (suc j) (b ∷ bs)))) x (omega (arith, w, m)) at.0 there in
    ap p (sym (get_or-front (f b) (flat_map f bs) i x w)) ∙ here)
  where
    all_first : (p : RowPlace → Bool) (xs : List RowPlace) (d : RowPlace) → 0 < length xs → list_all p xs ≡ true → p (get_or xs 0 d) ≡ true
    all_first p [] d l h = absurd (omega arith)
    all_first p (x ∷ xs) d l h = split (p x) (λ e. e) (λ e. let k = rw e at h in absurd (cc k))

    get_or-front : (xs ys : List RowPlace) (i : ℕ) (d : RowPlace) → i < length xs → get_or (xs ++ ys) i d ≡ get_or xs i d
    get_or-front [] ys i d h = absurd (omega arith)
    get_or-front (x ∷ xs) ys zero d h = refl
    get_or-front (x ∷ xs) ys (suc i) d h = get_or-front xs ys i d (omega arith)

-- the search among parts goes by their last places

-- the operation of a part's last place is before a stamp
abbrev pub last_earlier : {X : Type 0} → (X → List RowPlace) → List (List Operation) → Stamp → X → Bool
last_earlier f ops stamp b = is_earlier ops stamp (end_place (f b))

last_tells : {X : Type 0} (f : X → List RowPlace) → HavePlaces f → (ops : List (List Operation)) (stamp : Stamp) (bs : List X) → IsFalling (newest_first ops (flat_map f bs)) → (i : ℕ) (d : X) → i < length bs
    → last_earlier f ops stamp (get_or bs i d) ≡ part_passes f (is_earlier ops stamp) (get_or bs i d)
last_tells f some ops stamp bs h i d l =
    let b = get_or bs i d in
    let g = falling_part f ops bs i b l (any_default bs i d b l) h in
    all_if_last (is_earlier ops stamp) (f b) (record { row = 0; at = 0 }) (some b) (partitioned ops stamp (f b) g)

leading_same : {X : Type 0} (p q : X → Bool) (xs : List X) → ((i : ℕ) (d : X) → i < length xs → p (get_or xs i d) ≡ q (get_or xs i d)) → leading p xs ≡ leading q xs
leading_same p q [] h = refl
leading_same p q (x ∷ xs) h =
    let e : p x ≡ q x = h 0 x (omega arith) in
    let r = leading_same p q xs (λ i d l. h (suc i) d (omega arith)) in
    split (q x) (λ k. rw (e, k, r) refl) (λ k. rw (e, k) refl)

pub last_leading : {X : Type 0} (f : X → List RowPlace) → HavePlaces f → (ops : List (List Operation)) (stamp : Stamp) (bs : List X) → IsFalling (newest_first ops (flat_map f bs))
    → leading (last_earlier f ops stamp) bs ≡ leading (part_passes f (is_earlier ops stamp)) bs
last_leading f some ops stamp bs h = leading_same (last_earlier f ops stamp) (part_passes f (is_earlier ops stamp)) bs (last_tells f some ops stamp bs h)

pub last_parted : {X : Type 0} (f : X → List RowPlace) → HavePlaces f → (ops : List (List Operation)) (stamp : Stamp) (bs : List X) → IsFalling (newest_first ops (flat_map f bs)) → IsPartitionedBy (last_earlier f ops stamp) bs
last_parted f some ops stamp bs h i j d l k e =
    last_tells f some ops stamp bs h i d (omega (arith, l, k)) ∙ parts_parted f some ops stamp bs h i j d l k (sym (last_tells f some ops stamp bs h j d k) ∙ e)

-- the last part's last place tells whether all operations are before a stamp
pub last_of_all : {X : Type 0} (f : X → List RowPlace) → HavePlaces f → (ops : List (List Operation)) (stamp : Stamp) (bs : List X) (d : X) → 0 < length bs → IsFalling (newest_first ops (flat_map f bs))
    → last_earlier f ops stamp (get_or bs (length bs - 1) d) ≡ list_all (part_passes f (is_earlier ops stamp)) bs
last_of_all f some ops stamp bs d l h =
    last_tells f some ops stamp bs h (length bs - 1) d (omega (arith, l)) ∙ all_if_last (part_passes f (is_earlier ops stamp)) bs d l (parts_parted f some ops stamp bs h)

pub all_earlier : {X : Type 0} (f : X → List RowPlace) (p : RowPlace → Bool) (bs : List X) → list_all (part_passes f p) bs ≡ true → leading p (flat_map f bs) ≡ length (flat_map f bs)
all_earlier f p bs h =
    let q = part_passes f p in
    let n = leading_all q bs [] h in
    leading_none f p bs (ap (leading q) (sym (append-nil bs)) ∙ omega (arith, n))

-- a place of a part, in the one list

pub places_up_to : {X : Type 0} (f : X → List RowPlace) (bs : List X) (i : ℕ) (b : X) → i < length bs → b ≡ get_or bs i b → length (flat_map f (take (i + 1) bs)) ≡ length (flat_map f (take i bs)) + length (f b)
places_up_to f bs i b l e = ap length (places_next f bs i b l e) ∙ length-append (flat_map f (take i bs)) (f b)

places_within : {X : Type 0} (f : X → List RowPlace) (bs : List X) (i at : ℕ) (b : X) → i < length bs → b ≡ get_or bs i b → at < length (f b) → length (flat_map f (take i bs)) + at < length (flat_map f bs)
places_within f [] i at b l e w = absurd (omega arith)
places_within f (c ∷ bs) zero at b l e w =
    let n = length-append (f c) (flat_map f bs) in
    let k = ap (λ x. length (f x)) e in
    omega (arith, n, k, w)
places_within f (c ∷ bs) (suc i) at b l e w =
    let n = length-append (f c) (flat_map f bs) in
    let m = length-append (f c) (flat_map f (take i bs)) in
    let r = places_within f bs i at b (omega arith) e w in
    omega (arith, n, m, r)

pub place_at : {X : Type 0} (f : X → List RowPlace) (bs : List X) (i at : ℕ) (place : RowPlace) (b : X) → i < length bs → b ≡ get_or bs i b → at < length (f b) → place ≡ get_or (f b) at place
    → slice_get (flat_map f bs) (length (flat_map f (take i bs)) + at) ≡ Some place
place_at f bs i at place b l e w r =
    let there : at < length (f (get_or bs i b)) = subst (λ x. at < length (f x)) e w in
    slice_get_read (flat_map f bs) (length (flat_map f bs)) (length (flat_map f (take i bs)) + at) place refl (places_within f bs i at b l e w)
    (r ∙ ap (λ x. get_or (f x) at place) e ∙ sym (get_or-flat_map f bs i at b place l there))

-- what holds of all places, of one part

pub all_part : {X : Type 0} (f : X → List RowPlace) (P : RowPlace → Type 0) (bs : List X) (i : ℕ) (b : X) → i < length bs → b ≡ get_or bs i b → AllByRecursion P (flat_map f bs) → AllByRecursion P (f b)
all_part f P [] i b l e h = absurd (omega arith)
all_part f P (c ∷ bs) zero b l e h = subst (λ x. AllByRecursion P (f x)) (sym e) (parts P (f c) (flat_map f bs) h).0
  where
    parts : (P : RowPlace → Type 0) (xs ys : List RowPlace) → AllByRecursion P (xs ++ ys) → AllByRecursion P xs × AllByRecursion P ys
    parts P [] ys h = (tt, h)
    parts P (x ∷ xs) ys h = let r = parts P xs ys h.1 in ((h.0, r.0), r.1)
all_part f P (c ∷ bs) (suc i) b l e h = all_part f P bs i b (omega arith) e (rest P (f c) (flat_map f bs) h)
  where
    rest : (P : RowPlace → Type 0) (xs ys : List RowPlace) → AllByRecursion P (xs ++ ys) → AllByRecursion P ys
    rest P [] ys h = h
    rest P (x ∷ xs) ys h = rest P xs ys h.1

has_part : {X : Type 0} (f : X → List RowPlace) (ops : List (List Operation)) (bs : List X) (i : ℕ) (b : X) (x : Operation) → i < length bs → b ≡ get_or bs i b → HasOp (newest_first ops (f b)) x → HasOp (newest_first ops (flat_map f bs)) x
has_part f ops [] i b x l e h = absurd (omega arith)
has_part f ops (c ∷ bs) zero b x l e h =
    let same = subst (λ y. HasOp (newest_first ops (f y)) x) e h in
    subst (λ s. HasOp s x) (sym (seen_append ops (f c) (flat_map f bs))) (has_after (newest_first ops (flat_map f bs)) (newest_first ops (f c)) x same)
has_part f ops (c ∷ bs) (suc i) b x l e h =
    subst (λ s. HasOp s x) (sym (seen_append ops (f c) (flat_map f bs))) (has_before (newest_first ops (flat_map f bs)) (newest_first ops (f c)) x (has_part f ops bs i b x (omega arith) e h))
  where
    has_before : (xs ys : List Operation) (x : Operation) → HasOp xs x → HasOp (xs ++ ys) x
    has_before [] ys x h = absurd h
    has_before (y ∷ xs) ys x h = elim h [ inl d ↦ inl d | inr j ↦ inr (has_before xs ys x j) ]

pub log_part : {X : Type 0} (f : X → List RowPlace) (ops : List (List Operation)) (bs : List X) (i : ℕ) (b : X) → i < length bs → b ≡ get_or bs i b → IsLog (newest_first ops (flat_map f bs)) → IsLog (newest_first ops (f b))
log_part f ops bs i b l e h = record {
  falling = falling_part f ops bs i b l e h.falling;
  sound = λ op j. h.sound op (has_part f ops bs i b op l e j);
  free = λ p q j k. h.free p q (has_part f ops bs i b p l e j) (has_part f ops bs i b q l e k);
}

-- a place put in

pub put_part : {X : Type 0} (f : X → List RowPlace) (bs : List X) (i : ℕ) (b new : X) (at : ℕ) (place : RowPlace) → i < length bs → b ≡ get_or bs i b → at ≤ length (f b) → f new ≡ insert (f b) at place
    → flat_map f (set bs i new) ≡ insert (flat_map f bs) (length (flat_map f (take i bs)) + at) place
put_part f [] i b new at place l e w n = absurd (omega arith)
put_part f (c ∷ bs) zero b new at place l e w n =
    let same : at ≤ length (f c) = subst (λ x. at ≤ length (f x)) e w in
    ap (λ xs. xs ++ flat_map f bs) (n ∙ ap (λ x. insert (f x) at place) e) ∙ sym (insert-append_left (f c) (flat_map f bs) at place same) ∙ ap (λ k. insert (f c ++ flat_map f bs) k place) (from_zero at)
  where
    from_zero : (k : ℕ) → k ≡ 0 + k
    from_zero k = omega arith
put_part f (c ∷ bs) (suc i) b new at place l e w n =
    let r = put_part f bs i b new at place (omega arith) e w n in
    let len = length-append (f c) (flat_map f (take i bs)) in
    let k : length (flat_map f (take (suc i) (c ∷ bs))) + at ≡ length (f c) + (length (flat_map f (take i bs)) + at) = omega (arith, len) in
    let back : length (f c) + (length (flat_map f (take i bs)) + at) - length (f c) ≡ length (flat_map f (take i bs)) + at = omega arith in
    ap (λ xs. f c ++ xs) r
    ∙ sym (ap (λ m. insert (f c ++ flat_map f bs) m place) k
    ∙ insert-append_right (f c) (flat_map f bs) (length (f c)) (length (f c) + (length (flat_map f (take i bs)) + at)) place refl (omega arith)
    ∙ ap (λ m. f c ++ insert (flat_map f bs) m place) back)

-- a part that is put in
pub put_new : {X : Type 0} (f : X → List RowPlace) (bs : List X) (i : ℕ) (new : X) (place : RowPlace) → i ≤ length bs → f new ≡ place ∷ []
    → flat_map f (insert bs i new) ≡ insert (flat_map f bs) (length (flat_map f (take i bs))) place
put_new f bs zero new place l n = ap (λ xs. xs ++ flat_map f bs) n
put_new f [] (suc i) new place l n = absurd (omega arith)
put_new f (c ∷ bs) (suc i) new place l n =
    let r = put_new f bs i new place (omega arith) n in
    let len = length-append (f c) (flat_map f (take i bs)) in
    let back : length (f c) + length (flat_map f (take i bs)) - length (f c) ≡ length (flat_map f (take i bs)) = omega arith in
    ap (λ xs. f c ++ xs) r
    ∙ sym (ap (λ m. insert (f c ++ flat_map f bs) m place) len
    ∙ insert-append_right (f c) (flat_map f bs) (length (f c)) (length (f c) + length (flat_map f (take i bs))) place refl (omega arith)
    ∙ ap (λ m. f c ++ insert (flat_map f bs) m place) back)

-- one part becomes two
pub split_part : {X : Type 0} (f : X → List RowPlace) (bs : List X) (i : ℕ) (b front back : X) → i < length bs → b ≡ get_or bs i b → f b ≡ f front ++ f back
    → flat_map f (insert (set bs i front) (suc i) back) ≡ flat_map f bs
split_part f [] i b front back l e n = absurd (omega arith)
split_part f (c ∷ bs) zero b front back l e n =
    sym (append_assoc (f front) (f back) (flat_map f bs)) ∙ ap (λ xs. xs ++ flat_map f bs) (sym n ∙ ap f e)
split_part f (c ∷ bs) (suc i) b front back l e n = ap (λ xs. f c ++ xs) (split_part f bs i b front back (omega arith) e n)
