-- Two logs while they are merged.
use Rattle.rt_rows.specs.Places.{HasPlace, KeepsPlaces, op_at}
use Rattle.rt_rows.specs.declared.rows.RowPlace.{RowPlace}
use Rattle.std.proofs.Common.{◌≡◌, ℕ, ◌+◌, ◌<◌, ◌≤◌, true, false, ◌⊎◌, inl, inr, List, [], ◌∷◌, ◌++◌, length, map, get_or, drop, refl, ap, ◌∙◌, sym, subst, arith, append-nil}
use Rattle.std.proofs.lemmas.List.{drop_all}
use Rattle.std.specs.List.{AllByRecursion}
use Rattle.rt_stamps.specs.Stamps.{is_before}
use Rattle.rt_stamps.proofs.Order.{before_total}
use Rattle.rt_ops.specs.Operations.{Operation, stamp_of}
use Rattle.rt_oplog.specs.Logs.{HasClashOf, same_operation, clash, IsFalling, IsLog}
use Rattle.rt_oplog.specs.Kept.{newest_first}
use Rattle.rt_oplog.specs.Merged.{IsMerged, IsTakenOver}
use Rattle.rt_oplog.proofs.Sets.{split, apart}
use Rattle.rt_oplog.proofs.Places.{at_has, seen_kept, within_kept}
use Rattle.rt_oplog.proofs.Merges.{ops_at, ops_drop, Merging, sides, take_lesser, take_greater, take_both, merging_start, merging_rest, seen_push, within_push, within_append, within_drop, within_at}

-- the place that a search past the end reads
abbrev pub first_place : RowPlace
first_place = record { row = 0; at = 0 }

-- What stands after so many places of each: the rows so far, and the order so far.
pub record IsMerging (ops more : List (List Operation)) (mine theirs : List RowPlace) (now : List (List Operation)) (order : List RowPlace) (i j : ℕ) : Type 0 where
  pub left : i ≤ length mine
  pub right : j ≤ length theirs
  pub kept : KeepsPlaces ops now
  pub within : AllByRecursion (HasPlace now) order
  pub merging : Merging (newest_first ops mine) (newest_first more theirs) (newest_first now order) (ops_at ops (drop i mine)) (ops_at more (drop j theirs))

pub starts : (ops more : List (List Operation)) (mine theirs : List RowPlace) → IsFalling (newest_first ops mine) → IsFalling (newest_first more theirs) → IsMerging ops more mine theirs ops [] 0 0
starts ops more mine theirs f g = record {
  left = omega arith;
  right = omega arith;
  kept = λ place h. (h, refl);
  within = tt;
  merging = merging_start ops more mine theirs f g;
}

-- the first of each side, and one of them taken

heads_left : (one other merged left right : List Operation) (x y : Operation) (xs ys : List Operation) → left ≡ x ∷ xs → right ≡ y ∷ ys → Merging one other merged left right
    → is_before (stamp_of x) (stamp_of y) ≡ true → Merging one other (x ∷ merged) xs right
heads_left one other merged left right x y xs ys a b m e =
    subst (λ r. Merging one other (x ∷ merged) xs r) (sym b) (take_lesser one other merged x y xs ys (subst (λ r. Merging one other merged (x ∷ xs) r) b (subst (λ l. Merging one other merged l right) a m)) e)

heads_right : (one other merged left right : List Operation) (x y : Operation) (xs ys : List Operation) → left ≡ x ∷ xs → right ≡ y ∷ ys → Merging one other merged left right
    → is_before (stamp_of y) (stamp_of x) ≡ true → Merging one other (y ∷ merged) left ys
heads_right one other merged left right x y xs ys a b m e =
    subst (λ l. Merging one other (y ∷ merged) l ys) (sym a) (take_greater one other merged x y xs ys (subst (λ r. Merging one other merged (x ∷ xs) r) b (subst (λ l. Merging one other merged l right) a m)) e)

heads_both : (one other merged left right : List Operation) (x y : Operation) (xs ys : List Operation) → left ≡ x ∷ xs → right ≡ y ∷ ys → Merging one other merged left right
    → x ≡ y → Merging one other (x ∷ merged) xs ys
heads_both one other merged left right x y xs ys a b m e =
    take_both one other merged x y xs ys (subst (λ r. Merging one other merged (x ∷ xs) r) b (subst (λ l. Merging one other merged l right) a m)) e

-- places that are taken over

taken_within : (more all : List (List Operation)) (taken old places : List RowPlace) (now : List (List Operation)) → KeepsPlaces now all → AllByRecursion (HasPlace now) old
    → IsTakenOver more all taken old places → AllByRecursion (HasPlace all) places
taken_within more all taken old places now m w t =
    subst (AllByRecursion (HasPlace all)) (sym t.named) (within_append (HasPlace all) old t.behind (within_kept now all old m w) t.within)

taken_one : (more all : List (List Operation)) (place : RowPlace) (old places : List RowPlace) (now : List (List Operation)) → KeepsPlaces now all → AllByRecursion (HasPlace now) old
    → IsTakenOver more all (place ∷ []) old places → newest_first all places ≡ op_at more place ∷ newest_first now old
taken_one more all place old places now m w t =
    ap (newest_first all) t.named ∙ one t.behind t.same
  where
    one : (behind : List RowPlace) → map (op_at all) behind ≡ op_at more place ∷ [] → newest_first all (old ++ behind) ≡ op_at more place ∷ newest_first now old
    one [] e = absurd (cc e)
    one (new ∷ []) e = let same : op_at all new ≡ op_at more place = cc e in seen_push all old new ∙ ap (λ x. x ∷ newest_first all old) same ∙ ap (λ set. op_at more place ∷ set) (seen_kept now all old m w)
    one (new ∷ (next ∷ behind)) e = absurd (cc e)

-- one of mine comes next
pub go_left : (ops more : List (List Operation)) (mine theirs : List RowPlace) (now : List (List Operation)) (order : List RowPlace) (i j : ℕ) → IsMerging ops more mine theirs now order i j
    → i < length mine → j < length theirs → AllByRecursion (HasPlace ops) mine
    → is_before (stamp_of (op_at ops (get_or mine i first_place))) (stamp_of (op_at more (get_or theirs j first_place))) ≡ true
    → IsMerging ops more mine theirs now (order ++ get_or mine i first_place ∷ []) (i + 1) j
go_left ops more mine theirs now order i j s h k w e =
    let place = get_or mine i first_place in
    let stays = s.kept place (within_at (HasPlace ops) i mine h w) in
    record {
      left = omega arith;
      right = s.right;
      kept = s.kept;
      within = within_push (HasPlace now) place order s.within stays.0;
      merging = subst (λ set. Merging (newest_first ops mine) (newest_first more theirs) set (ops_at ops (drop (i + 1) mine)) (ops_at more (drop j theirs)))
          (sym (seen_push now order place ∙ ap (λ x. x ∷ newest_first now order) stays.1))
          (heads_left _ _ _ _ _ _ _ _ _ (ops_drop ops mine i h) (ops_drop more theirs j k) s.merging e);
    }

-- one of theirs comes next, and is taken over
pub go_right : (ops more : List (List Operation)) (mine theirs : List RowPlace) (now : List (List Operation)) (order : List RowPlace) (i j : ℕ) (all : List (List Operation)) (places : List RowPlace)
    → IsMerging ops more mine theirs now order i j → i < length mine → j < length theirs
    → is_before (stamp_of (op_at more (get_or theirs j first_place))) (stamp_of (op_at ops (get_or mine i first_place))) ≡ true
    → KeepsPlaces now all → IsTakenOver more all (get_or theirs j first_place ∷ []) order places → IsMerging ops more mine theirs all places i (j + 1)
go_right ops more mine theirs now order i j all places s h k e m t =
    let one = newest_first ops mine in
    let other = newest_first more theirs in
    record {
      left = s.left;
      right = omega arith;
      kept = λ place w. let a = s.kept place w in let b = m place a.0 in (b.0, b.1 ∙ a.1);
      within = taken_within more all _ order places now m s.within t;
      merging = subst (λ set. Merging one other set (ops_at ops (drop i mine)) (ops_at more (drop (j + 1) theirs)))
          (sym (taken_one more all (get_or theirs j first_place) order places now m s.within t))
          (heads_right _ _ _ _ _ _ _ _ _ (ops_drop ops mine i h) (ops_drop more theirs j k) s.merging e);
    }

-- both have the same next
pub go_both : (ops more : List (List Operation)) (mine theirs : List RowPlace) (now : List (List Operation)) (order : List RowPlace) (i j : ℕ) → IsMerging ops more mine theirs now order i j
    → i < length mine → j < length theirs → AllByRecursion (HasPlace ops) mine → op_at ops (get_or mine i first_place) ≡ op_at more (get_or theirs j first_place)
    → IsMerging ops more mine theirs now (order ++ get_or mine i first_place ∷ []) (i + 1) (j + 1)
go_both ops more mine theirs now order i j s h k w e =
    let place = get_or mine i first_place in
    let stays = s.kept place (within_at (HasPlace ops) i mine h w) in
    record {
      left = omega arith;
      right = omega arith;
      kept = s.kept;
      within = within_push (HasPlace now) place order s.within stays.0;
      merging = subst (λ set. Merging (newest_first ops mine) (newest_first more theirs) set (ops_at ops (drop (i + 1) mine)) (ops_at more (drop (j + 1) theirs)))
          (sym (seen_push now order place ∙ ap (λ x. x ∷ newest_first now order) stays.1))
          (heads_both _ _ _ _ _ _ _ _ _ (ops_drop ops mine i h) (ops_drop more theirs j k) s.merging e);
    }

-- two different operations of one stamp clash
pub clash_at : (ops more : List (List Operation)) (mine theirs : List RowPlace) (i j : ℕ) → i < length mine → j < length theirs → IsLog (newest_first more theirs)
    → is_before (stamp_of (op_at ops (get_or mine i first_place))) (stamp_of (op_at more (get_or theirs j first_place))) ≡ false
    → is_before (stamp_of (op_at more (get_or theirs j first_place))) (stamp_of (op_at ops (get_or mine i first_place))) ≡ false
    → same_operation (op_at ops (get_or mine i first_place)) (op_at more (get_or theirs j first_place)) ≡ false
    → HasClashOf (newest_first ops mine) (newest_first more theirs)
clash_at ops more mine theirs i j h k l e f n =
    let x = op_at ops (get_or mine i first_place) in
    let y = op_at more (get_or theirs j first_place) in
    let s = l.sound y (at_has more theirs j first_place k) in (
      x,
      y,
      inl (at_has ops mine i first_place h),
      inr (at_has more theirs j first_place k),
      split (clash x y) (λ t. t)
          (λ t. let d = apart x y s n t in let b = before_total (stamp_of x) (stamp_of y) e d in absurd (cc (b, f))),
    )

-- both rests, of which one is empty

ops_kept : (ops now : List (List Operation)) (order : List RowPlace) → KeepsPlaces ops now → AllByRecursion (HasPlace ops) order → ops_at now order ≡ ops_at ops order
ops_kept ops now [] m w = refl
ops_kept ops now (place ∷ order) m w = rw ((m place w.0).1, ops_kept ops now order m w.1) refl

pub ends : (ops more : List (List Operation)) (mine theirs : List RowPlace) (now : List (List Operation)) (order : List RowPlace) (i j : ℕ) (all : List (List Operation)) (places : List RowPlace)
    → IsMerging ops more mine theirs now order i j → AllByRecursion (HasPlace ops) mine → (length mine ≤ i) ⊎ (length theirs ≤ j)
    → KeepsPlaces now all → IsTakenOver more all (drop j theirs) (order ++ drop i mine) places → IsMerged all (newest_first ops mine) (newest_first more theirs) places
ends ops more mine theirs now order i j all places s w h m t =
    let one = newest_first ops mine in
    let other = newest_first more theirs in
    let left = within_drop (HasPlace ops) i mine w in
    let here = within_append (HasPlace now) order (drop i mine) s.within (within_kept ops now (drop i mine) s.kept left) in
    let before = seen_kept now all (order ++ drop i mine) m here in
    let rest : Merging one other (newest_first all (order ++ drop i mine)) (ops_at all t.behind) [] =
    sides one other _ _ _ (subst (λ set. Merging one other set [] (ops_at all t.behind)) (sym before) (subst (λ r. Merging one other (newest_first now (order ++ drop i mine)) [] r) (sym t.same) (done left h))) in
    let last = subst (λ ps. Merging one other (newest_first all ps) [] []) (sym t.named) (merging_rest one other all (order ++ drop i mine) t.behind rest) in
    record {
      within = taken_within more all (drop j theirs) (order ++ drop i mine) places now m here t;
      falling = last.falling;
      members = λ x. (λ k. (last.members x).0 (inl k), λ k. elim ((last.members x).1 k) [ inl a ↦ a | inr b ↦ elim b [ inl a ↦ absurd a | inr a ↦ absurd a ] ]);
    }
  where
    done : AllByRecursion (HasPlace ops) (drop i mine) → (length mine ≤ i) ⊎ (length theirs ≤ j) → Merging (newest_first ops mine) (newest_first more theirs) (newest_first now (order ++ drop i mine)) [] (ops_at more (drop j theirs))
    done left k = elim k [
      | inl a ↦ (let e : drop i mine ≡ [] = drop_all i mine a in rw (e, append-nil order) (rw e at s.merging))
      | inr b ↦ (let e : drop j theirs ≡ [] = drop_all j theirs b in
          let same : ops_at now (drop i mine) ≡ ops_at ops (drop i mine) = ops_kept ops now (drop i mine) s.kept left in
          rw e (merging_rest (newest_first ops mine) (newest_first more theirs) now order (drop i mine) (rw same (rw e at s.merging))))
    ]
