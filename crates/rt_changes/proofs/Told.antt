-- What the code tells of an operation.
use Rattle.std.proofs.Common.{◌≡◌, ℕ, ◌+◌, ◌-◌, ◌<◌, ◌≤◌, List, [], ◌∷◌, Bool, true, false, true≢false, length, map, refl, sym, ◌∙◌, ap, arith}
use Rattle.std.specs.Prelude.{nat_lt, option_map, unwrap_or}
use Rattle.std.proofs.lemmas.Bool.Decides.{nat_tests}
use Rattle.std.proofs.lemmas.Option.{slice_get_past}
use Rattle.rt_stamps.specs.declared.stamp.Stamp.{Stamp}
use Rattle.rt_ops.specs.Operations.{Body, Insert, Delete, Tag, Operation, stamp_of}
use Rattle.rt_store.specs.Cells.{visible_of}
use Rattle.rt_store.specs.Shown.{TaggedCell}
use Rattle.rt_tags.proofs.Places.{split}
use Rattle.rt_rga.specs.Cells.{deletes}
use Rattle.rt_rga.specs.Taken.{AreFallingRuns, IsChange, changes_tag, is_in_runs, place_by, retags, takes_away}
use Rattle.rt_rga.specs.declared.taken.Change.{Change}
use Rattle.rt_rga.specs.declared.taken.PlaceRun.{PlaceRun}
use Rattle.rt_changes.specs.Replays.{Deleted, Inserted, Tagged, runs_of, body_changes, changes_of, told_by}
use Rattle.rt_changes.proofs.Runs.{in_first, in_others, none_past, runs_fall, runs_have}

abbrev SamePlaces : List PlaceRun → List PlaceRun → Type 0
SamePlaces xs ys = (q : ℕ) → is_in_runs xs q ≡ is_in_runs ys q

-- a run that is there has its last place
no_runs : (end : ℕ) (x : PlaceRun) (xs : List PlaceRun) → AreFallingRuns end (x ∷ xs) → SamePlaces (x ∷ xs) [] → ⊥
no_runs end x xs h s =
    let last : ℕ = x.to - 1 in
    let in_it : is_in_runs (x ∷ xs) last ≡ true = in_first x xs last (omega (arith, h.0)) (omega (arith, h.0)) in
    true≢false (sym in_it ∙ s last)

-- the first run ends no later than another first run with the same places
ends_by : (end more : ℕ) (x y : PlaceRun) (xs ys : List PlaceRun) → AreFallingRuns end (x ∷ xs) → AreFallingRuns more (y ∷ ys) → SamePlaces (x ∷ xs) (y ∷ ys) → y.to < x.to → ⊥
ends_by end more x y xs ys h k s l =
    let last : ℕ = x.to - 1 in
    let in_it : is_in_runs (x ∷ xs) last ≡ true = in_first x xs last (omega (arith, h.0)) (omega (arith, h.0)) in
    let past : is_in_runs (y ∷ ys) last ≡ false = none_past (y.to + 1) (y ∷ ys) last (k.0, omega arith, k.2) (omega (arith, l)) in
    true≢false (sym in_it ∙ s last ∙ past)

-- and it begins no earlier
begins_by : (end more : ℕ) (x y : PlaceRun) (xs ys : List PlaceRun) → AreFallingRuns end (x ∷ xs) → AreFallingRuns more (y ∷ ys) → SamePlaces (x ∷ xs) (y ∷ ys) → x.to ≡ y.to → x.from < y.from → ⊥
begins_by end more x y xs ys h k s e l =
    let gap : ℕ = y.from - 1 in
    let in_it : is_in_runs (x ∷ xs) gap ≡ true = in_first x xs gap (omega (arith, l)) (omega (arith, l, e, k.0)) in
    let out : is_in_runs (y ∷ ys) gap ≡ false = in_others y ys gap (omega (arith, l)) ∙ none_past y.from ys gap k.2 (omega (arith, l)) in
    true≢false (sym in_it ∙ s gap ∙ out)

-- falling runs are known by their places
pub one_list : (end more : ℕ) (xs ys : List PlaceRun) → AreFallingRuns end xs → AreFallingRuns more ys → SamePlaces xs ys → xs ≡ ys
one_list end more [] [] h k s = refl
one_list end more [] (y ∷ ys) h k s = absurd (no_runs more y ys k (λ q. sym (s q)))
one_list end more (x ∷ xs) [] h k s = absurd (no_runs end x xs h s)
one_list end more (x ∷ xs) (y ∷ ys) h k s =
    let to : x.to ≡ y.to = omega (arith, ends_by end more x y xs ys h k s, ends_by more end y x ys xs k h (λ q. sym (s q))) in
    let from : x.from ≡ y.from = omega (arith, begins_by end more x y xs ys h k s to, begins_by more end y x ys xs k h (λ q. sym (s q)) (sym to)) in
    let rest : xs ≡ ys = one_list x.from y.from xs ys h.2 k.2 (λ q. split (nat_lt q x.from)
    (λ t. let below : q < x.from = grind (arith, nat_tests, t) in sym (in_others x xs q below) ∙ s q ∙ in_others y ys q (omega (arith, below, from)))
    (λ f. let past : x.from ≤ q = grind (arith, nat_tests, f) in none_past x.from xs q h.2 (omega (arith, past)) ∙ sym (none_past y.from ys q k.2 (omega (arith, past, from))))) in
    λ i. record { from = from i; to = to i } ∷ rest i

-- falling runs of some places below a bound are the longest runs of these
pub known_runs : (at : ℕ → Bool) (n end : ℕ) (runs : List PlaceRun) → ((q : ℕ) → is_in_runs runs q ≡ at q) → ((q : ℕ) → n ≤ q → at q ≡ false) → AreFallingRuns end runs → runs ≡ runs_of at n
known_runs at n end runs h none f =
    one_list end (n + 1) runs (runs_of at n) f (runs_fall at n) (λ q. h q ∙ split (nat_lt q n)
    (λ t. let below : q < n = grind (arith, nat_tests, t) in sym (runs_have at n q below))
    (λ e. let past : n ≤ q = grind (arith, nat_tests, e) in none q past ∙ sym (none_past (n + 1) (runs_of at n) q (runs_fall at n) (omega (arith, past)))))

-- no place past the visible text is taken away or tagged
pub none_taken : (body : Body) (cells : List TaggedCell) (q : ℕ) → length (visible_of cells) ≤ q → takes_away body cells q ≡ false
none_taken body cells q past = ap (λ o. unwrap_or (option_map (λ (cell : TaggedCell). deletes body cell.stamp) o) false) (slice_get_past (visible_of cells) q past)

pub none_tagged : (stamp : Stamp) (body : Body) (cells : List TaggedCell) (q : ℕ) → length (visible_of cells) ≤ q → retags stamp body cells q ≡ false
none_tagged stamp body cells q past = ap (λ o. unwrap_or (option_map (changes_tag stamp body) o) false) (slice_get_past (visible_of cells) q past)

module _ (op : Operation) (cells : List TaggedCell) (change : Change) (c : IsChange op cells change) where
  told_from : (body : Body) → op.body ≡ body → told_by body change ≡ body_changes (stamp_of op) body cells
  told_from (Insert after tags text) e = ap (λ place. Inserted place text tags ∷ []) (c.first ∙ ap (λ b. place_by (stamp_of op) b cells) e)
  told_from (Delete spans) e =
      let n = length (visible_of cells) in
      ap (map (λ (run : PlaceRun). Deleted run.from run.to))
      (known_runs (takes_away (Delete spans) cells) n n change.removed.items (λ q. c.removed q ∙ ap (λ b. takes_away b cells q) e) (none_taken (Delete spans) cells) c.runs)
  told_from (Tag on name spans) e =
      let n = length (visible_of cells) in
      ap (map (λ (run : PlaceRun). Tagged on name run.from run.to))
      (known_runs (retags (stamp_of op) (Tag on name spans) cells) n (n + 1) change.retagged.items (λ q. c.retagged q ∙ ap (λ b. retags (stamp_of op) b cells q) e) (none_tagged (stamp_of op) (Tag on name spans) cells) c.tagged_runs)

pub told_changes_are : (op : Operation) (cells : List TaggedCell) (change : Change) → IsChange op cells change → told_by op.body change ≡ changes_of op cells
told_changes_are op cells change c = told_from op cells change c op.body refl
