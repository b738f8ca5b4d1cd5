-- A site's own operations continue what it knows, and are the newest.
use Rattle.std.proofs.Common.{◌≡◌, ℕ, ◌+◌, ◌-◌, ◌<◌, ◌≤◌, Bool, true, false, not, All, inl, inr, refl, sym, ap, subst, ◌∙◌, arith, List, [], ◌∷◌, ◌||◌, ◌==◌, length, drop, get_or, Some, nat_le, nat_lt}
use Rattle.std.specs.Prelude.{reverse, slice_get, take_while}
use Rattle.std.proofs.lemmas.List.{get_or-reverse}
use Rattle.std.proofs.lemmas.Option.{get_or_from_slice_get}
use Rattle.std.proofs.lemmas.Bool.Decides.{nat_tests}
use Rattle.std.proofs.lemmas.List.Elements.{All-drop, All-from_recursion}
use Rattle.std.specs.List.{AllByRecursion}
use Rattle.rt_stamps.specs.declared.limits.TheConstants.{GREATEST_COUNT}
use Rattle.rt_stamps.specs.declared.stamp.Stamp.{Stamp}
use Rattle.rt_stamps.specs.declared.stamp.TheConstants.{FINAL, ROOT}
use Rattle.rt_stamps.specs.Stamps.{is_before}
use Rattle.rt_stamps.proofs.Order.{before_trans}
use Rattle.rt_store.specs.declared.cell.Cell.{Cell}
use Rattle.rt_store.specs.Cells.{after_element, skip_from}
use Rattle.rt_ops.specs.Operations.{Operation, Body, Insert, Delete, Tag, stamp_of, last_of, last_count, named, reaches}
use Rattle.rt_oplog.specs.Logs.{known_end, with_operation}
use Rattle.rt_rga.specs.Histories.{Continues, IsHistory, greatest_last_count, is_known}
use Rattle.rt_rga.specs.Cells.{cells_of}
use Rattle.rt_rga.specs.Drafts.{AreDraftsFor, IsDraftFor, all_changed, next_operation, operations_of, with_drafts}
use Rattle.rt_rga.proofs.Skipping.{split}
use Rattle.rt_rga.proofs.Continuing.{IsKnown, all_at, known_from, none_from}
use Rattle.rt_rga.proofs.Histories.{history_with, last_ge}
use Rattle.rt_rga.proofs.Merging.{cells_with}
use Rattle.rt_store.specs.Written.{IsBelowNext}
use Rattle.rt_rga.proofs.Corollaries.{cells_older, character_count}

-- THE NEWEST OPERATION

lesser : (a b : Stamp) → a.count < b.count → is_before a b ≡ true
lesser a b h = grind (arith, nat_tests)

pub newest : (op : Operation) (set : List Operation) → greatest_last_count set < op.count → with_operation op set ≡ op ∷ set
newest op [] h = refl
newest op (q ∷ older) h =
    let g = last_ge q.count q.body in
    let e : is_before (stamp_of q) (stamp_of op) ≡ true = lesser (stamp_of q) (stamp_of op) (grind (arith, g, h)) in
    rw e

pub older_by_count : (op : Operation) (set : List Operation) → greatest_last_count set < op.count → AllByRecursion (λ q. is_before (stamp_of q) (stamp_of op) ≡ true) set
older_by_count op [] h = tt
older_by_count op (q ∷ older) h = let g = last_ge q.count q.body in (lesser (stamp_of q) (stamp_of op) (grind (arith, g, h)), older_by_count op older (grind (arith, h)))

pub newer_than_all : (op : Operation) (set : List Operation) → greatest_last_count set < op.count → All (λ q. is_before (stamp_of q) (stamp_of op) ≡ true) set
newer_than_all op set h = All-from_recursion (λ q. is_before (stamp_of q) (stamp_of op) ≡ true) set (older_by_count op set h)

pub older_of_none : (op : Operation) (set : List Operation) → length set ≡ 0 → AllByRecursion (λ q. is_before (stamp_of q) (stamp_of op) ≡ true) set
older_of_none op [] h = tt
older_of_none op (q ∷ older) h = absurd (omega (arith, h))

-- an operation before which all others are is put in front of them
pub put_in_front : (op : Operation) (set : List Operation) → AllByRecursion (λ q. is_before (stamp_of q) (stamp_of op) ≡ true) set → with_operation op set ≡ op ∷ set
put_in_front op [] h = refl
put_in_front op (q ∷ older) h = rw h.0 refl

all_before : (s t : Stamp) → is_before s t ≡ true → (older : List Operation) → AllByRecursion (λ q. is_before (stamp_of q) s ≡ true) older → AllByRecursion (λ q. is_before (stamp_of q) t ≡ true) older
all_before s t h [] k = tt
all_before s t h (q ∷ older) k = (before_trans (stamp_of q) s t k.0 h, all_before s t h older k.1)

-- all operations of a history are before what its newest one is before
pub all_before_newest : (op last : Operation) (set : List Operation) → IsHistory set → slice_get (reverse set) (length set - 1) ≡ Some last → is_before (stamp_of last) (stamp_of op) ≡ true
    → AllByRecursion (λ q. is_before (stamp_of q) (stamp_of op) ≡ true) set
all_before_newest op last [] h e b = tt
all_before_newest op last (q ∷ older) h e b =
    let all : List Operation = q ∷ older in
    let zero : length all - 1 - (length all - 1) ≡ 0 = omega arith in
    let read : get_or (reverse all) (length all - 1) last ≡ last = get_or_from_slice_get (reverse all) (length all - 1) last last e in
    let is : q ≡ last = sym (get_or-reverse all (length all - 1) last (omega arith) ∙ ap (λ n. get_or all n last) zero) ∙ read in
    let first : is_before (stamp_of q) (stamp_of op) ≡ true = ap (λ (o : Operation). is_before (stamp_of o) (stamp_of op)) is ∙ b in
    (first, all_before (stamp_of q) (stamp_of op) first older h.0)

pub end_within : (set : List Operation) (site : ℕ) → known_end set site ≤ greatest_last_count set
end_within [] site = omega arith
end_within (q ∷ older) site = let i = end_within older site in grind (arith, i)

-- it skips nothing
not_before : (count : ℕ) (new s : Stamp) → new.count ≡ count + 1 → IsBelowNext count s → is_before new s ≡ false
not_before count new s n h =
    let a = h.0 in
    split (s.count == new.count)
    (λ e. let b = h.1 (grind (arith, nat_tests, n)) in grind (arith, nat_tests))
    (λ e. grind (arith, nat_tests))

skip_none : {T : Type 0} (count : ℕ) (new : Stamp) (xs : List (Cell T)) → new.count ≡ count + 1 → All (λ cell. IsBelowNext count cell.stamp) xs → length (take_while (λ cell. is_before new cell.stamp) xs) ≡ 0
skip_none count new [] n h = refl
skip_none count new (x ∷ xs) n h = rw (not_before count new x.stamp n (h 0 x (omega arith))) refl

pub skips_nothing : {T : Type 0} (count : ℕ) (cells : List (Cell T)) (left new : Stamp) → new.count ≡ count + 1 → All (λ cell. IsBelowNext count cell.stamp) cells → skip_from cells left new ≡ after_element cells left
skips_nothing count cells left new n h =
    let none : length (take_while (λ cell. is_before new cell.stamp) (drop (after_element cells left) cells)) ≡ 0 =
    skip_none count new (drop (after_element cells left) cells) n (All-drop (λ cell. IsBelowNext count cell.stamp) (after_element cells left) cells h) in
    omega arith

pub directly : (set : List Operation) (left new : Stamp) → IsHistory set → new.count ≡ greatest_last_count set + 1 → skip_from (cells_of set) left new ≡ after_element (cells_of set) left
directly set left new h n = skips_nothing (greatest_last_count set) (cells_of set) left new n (cells_older set h)

-- DRAFTS

root_before : (s : Stamp) → 0 < s.count → is_before ROOT s ≡ true
root_before s h = grind (arith, nat_tests)

final_before : (s : Stamp) → 0 < s.count → 0 < s.site → is_before FINAL s ≡ true
final_before s h k = grind (arith, nat_tests)

known_before : (set : List Operation) (body : Body) (s new : Stamp) → new.count ≡ greatest_last_count set + 1 → 0 < new.site → IsKnown set body s → is_before s new ≡ true
known_before set (Insert after tags text) s new n p k = elim k [
  | inl m ↦ (let c = character_count set s m in lesser s new (omega arith))
  | inr e ↦ subst (λ t. is_before t new ≡ true) (sym e) (root_before new (omega arith))
]
known_before set (Delete spans) s new n p k = let c = character_count set s k in lesser s new (omega arith)
known_before set (Tag on name spans) s new n p k = elim k [
  | inl m ↦ (let c = character_count set s m in lesser s new (omega arith))
  | inr e ↦ subst (λ t. is_before t new ≡ true) (sym e) (final_before new (omega arith) p)
]

pub draft_continues : (site : ℕ) (set : List Operation) (draft : Body) → 0 < site → IsDraftFor set draft → Continues set (next_operation site draft set)
draft_continues site set draft p d =
    let op = next_operation site draft set in
    let r : reaches (named draft) (stamp_of op) ≡ false = none_from (λ s. not (is_before s (stamp_of op))) (named draft)
    (λ s i. let b = known_before set draft s (stamp_of op) refl p (known_from set draft s (all_at (is_known set draft) (named draft) d.known s i)) in grind (arith, b)) in
    let e = end_within set site in
    let l = d.counts in
    record {
      sound = sound_tests site (greatest_last_count set + 1) (last_of (greatest_last_count set + 1) draft) (known_end set site) (reaches (named draft) (stamp_of op)) p (omega arith) l (omega arith) r;
      rules = d.rules;
      prev = refl;
      known = d.known;
    }
  where
    sound_tests : (site count last prev : ℕ) (r : Bool) → 0 < site → 0 < count → last ≤ GREATEST_COUNT → prev < count → r ≡ false
        → ((site == 0) || ((count == 0) || (nat_lt GREATEST_COUNT last || (nat_le count prev || r)))) ≡ false
    sound_tests site count last prev r a b c d e = grind (arith, nat_tests)

-- a site's drafts make its history larger, and change the cells one after the other
pub record AreMade (site : ℕ) (set : List Operation) (drafts : List Body) : Type 0 where
  pub history : IsHistory (with_drafts site drafts set)
  pub cells : cells_of (with_drafts site drafts set) ≡ all_changed (operations_of site drafts set) (cells_of set)

pub made : (site : ℕ) (drafts : List Body) (set : List Operation) → 0 < site → IsHistory set → AreDraftsFor site set drafts → AreMade site set drafts
made site [] set p h d = record { history = h; cells = refl }
made site (draft ∷ drafts) set p h d =
    let op = next_operation site draft set in
    let k = draft_continues site set draft p d.0 in
    let rest = made site drafts (with_operation op set) p (history_with op set h k) d.1 in
    record {
      history = rest.history;
      cells = rest.cells ∙ ap (all_changed (operations_of site drafts (with_operation op set))) (cells_with op set h k);
    }

-- the count afterwards
pub count_after : (op : Operation) (set : List Operation) → greatest_last_count set < op.count → greatest_last_count (with_operation op set) ≡ last_count op
count_after op set h = ap greatest_last_count (newest op set h) ∙ (let g = last_ge op.count op.body in omega arith)
