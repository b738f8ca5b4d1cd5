-- The changes of an operation are within the text.
use Rattle.std.proofs.Common.{◌≡◌, ℕ, zero, suc, ◌+◌, ◌<◌, ◌≤◌, List, [], ◌∷◌, ◌++◌, Bool, true, false, cond, not, length, map, take, drop, refl, sym, ◌∙◌, ap, subst, arith, length-append, length-take, length-drop, take-append-drop}
use Rattle.std.proofs.lemmas.Bool.{and_parts}
use Rattle.std.proofs.lemmas.Bool.Decides.{nat_tests}
use Rattle.std.proofs.lemmas.List.{length-map, take-append-le}
use Rattle.std.proofs.lemmas.List.Elements.{filter-append}
use Rattle.rt_stamps.specs.declared.stamp.Stamp.{Stamp}
use Rattle.rt_ops.specs.Operations.{Body, Insert, Delete, Tag, Name, Operation, stamp_of}
use Rattle.rt_ops.specs.Rules.{are_tags, is_text, keeps_rules}
use Rattle.rt_store.specs.Cells.{EndsFinal, skip_from, visible_before, visible_of}
use Rattle.rt_store.specs.Shown.{TaggedCell}
use Rattle.rt_store.proofs.Places.{final_last}
use Rattle.rt_tags.proofs.Places.{split}
use Rattle.rt_rga.specs.Cells.{cells_of}
use Rattle.rt_rga.specs.Histories.{Continues, IsHistory}
use Rattle.rt_rga.specs.Taken.{AreFallingRuns, retags, takes_away}
use Rattle.rt_rga.specs.Texts.{TaggedCharacter, tagged_text}
use Rattle.rt_rga.specs.declared.taken.PlaceRun.{PlaceRun}
use Rattle.rt_rga.proofs.Final.{ends_final, final_stays, placed_insert}
use Rattle.rt_rga.proofs.RemovedPlaces.{taken_before}
use Rattle.rt_changes.specs.Replays.{AreInText, Deleted, VisibleChange, Tagged, runs_of, body_changes, changes_of, tagged_with}
use Rattle.rt_changes.proofs.Runs.{runs_fall}
use Rattle.rt_changes.proofs.Texts.{shows}

-- DELETE

deleted_within : (end : ℕ) (runs : List PlaceRun) (t : List TaggedCharacter) → AreFallingRuns end runs → end ≤ length t → AreInText (map (λ run. Deleted run.from run.to) runs) t
deleted_within end [] t h l = tt
deleted_within end (run ∷ runs) t h l =
    let a = length-append (take run.from t) (drop run.to t) in
    let b = length-take run.from t in
    let c = length-drop run.to t in
    ((h.0, omega (arith, h.1, l)), deleted_within run.from runs (take run.from t ++ drop run.to t) h.2 (omega (arith, a, b, c, h.0, h.1, l)))

falls_short : (at : ℕ → Bool) (n : ℕ) → ((q : ℕ) → q + 1 ≡ n → at q ≡ false) → AreFallingRuns n (runs_of at n)
falls_short at zero h = tt
falls_short at (suc m) h =
    let next : m + 1 ≡ suc m = omega arith in
    subst (λ b. AreFallingRuns (suc m) (cond b (Rattle.rt_changes.specs.Replays.with_place m (runs_of at m)) (runs_of at m))) (sym (h m next)) (subst (λ n. AreFallingRuns n (runs_of at m)) next (runs_fall at m))

-- TAG

tagged_within : (on : Bool) (name : Name) (end : ℕ) (runs : List PlaceRun) (t : List TaggedCharacter) → AreFallingRuns end runs → end ≤ length t + 1 → AreInText (map (λ run. Tagged on name run.from run.to) runs) t
tagged_within on name end [] t h l = tt
tagged_within on name end (run ∷ runs) t h l =
    let a = length-append (take run.from t) (map (tagged_with on name) (drop run.from (take run.to t)) ++ drop run.to t) in
    let b = length-take run.from t in (
      (h.0, omega (arith, h.1, l)),
      tagged_within on name run.from runs (take run.from t ++ (map (tagged_with on name) (drop run.from (take run.to t)) ++ drop run.to t)) h.2 (omega (arith, a, b, h.0, h.1, l)),
    )

-- INSERT

visible_parts : (front back : List TaggedCell) → length (visible_of (front ++ back)) ≡ length (visible_of front) + length (visible_of back)
visible_parts front back = ap length (filter-append (λ (cell : TaggedCell). not cell.gone) front back) ∙ length-append (visible_of front) (visible_of back)

below_final : (cells : List TaggedCell) (n : ℕ) → EndsFinal cells → n < length cells → visible_before cells n < length (visible_of cells)
below_final cells n ends l =
    let (front, last, k) = final_last cells ends in
    let long : length cells ≡ length front + 1 = ap length k.is ∙ length-append front (last ∷ []) in
    let taken : take n cells ≡ take n front = ap (take n) k.is ∙ take-append-le n front (last ∷ []) (omega (arith, long, l)) in
    let before : visible_before cells n ≡ length (visible_of (take n front)) = ap (λ cs. length (visible_of cs)) taken in
    let parts : length (visible_of front) ≡ length (visible_of (take n front)) + length (visible_of (drop n front)) = ap (λ cs. length (visible_of cs)) (sym (take-append-drop n front)) ∙ visible_parts (take n front) (drop n front) in
    let whole : length (visible_of cells) ≡ length (visible_of front) + 1 =
    ap (λ cs. length (visible_of cs)) k.is ∙ visible_parts front (last ∷ []) ∙ ap (λ g. length (visible_of front) + length (cond (not g) (last ∷ []) [])) k.gone in
    omega (arith, before, parts, whole)

has_text : (after : Stamp) (tags : List Name) (text : List ℕ) → keeps_rules (Insert after tags text) ≡ true → 1 ≤ length text
has_text after tags text h = let t : is_text text ≡ true = (and_parts (are_tags tags) (is_text text) h).1 in grind (arith, nat_tests, t)

-- ALL CHANGES

changes_in : (set : List Operation) (op : Operation) (body : Body) → op.body ≡ body → IsHistory set → Continues set op → AreInText (body_changes (stamp_of op) body (cells_of set)) (tagged_text (cells_of set))
changes_in set op (Insert after tags text) e h k =
    let cells = cells_of set in
    let long : length (tagged_text cells) ≡ length (visible_of cells) = length-map (visible_of cells) shows in
    let below = below_final cells (skip_from cells after (stamp_of op)) (ends_final set h) (placed_insert set op after tags text e h k).within in
    ((omega (arith, long, below), has_text after tags text (ap keeps_rules (sym e) ∙ k.rules)), tt)
changes_in set op (Delete spans) e h k =
    let cells = cells_of set in
    let long : length (tagged_text cells) ≡ length (visible_of cells) = length-map (visible_of cells) shows in
    let at : ℕ → Bool = takes_away (Delete spans) cells in
    deleted_within (length (visible_of cells)) (runs_of at (length (visible_of cells))) (tagged_text cells)
    (falls_short at (length (visible_of cells)) (λ q n. split (at q)
    (λ t. let l = taken_before cells (Delete spans) q (ends_final set h) (final_stays set op spans e h k) t in absurd (omega (arith, l, n)))
    (λ f. f)))
    (omega (arith, long))
changes_in set op (Tag on name spans) e h k =
    let cells = cells_of set in
    let long : length (tagged_text cells) ≡ length (visible_of cells) = length-map (visible_of cells) shows in
    let at : ℕ → Bool = retags (stamp_of op) (Tag on name spans) cells in
    tagged_within on name (length (visible_of cells) + 1) (runs_of at (length (visible_of cells))) (tagged_text cells) (runs_fall at (length (visible_of cells))) (omega (arith, long))

pub changes_within : (set : List Operation) (op : Operation) → IsHistory set → Continues set op → AreInText (changes_of op (cells_of set)) (tagged_text (cells_of set))
changes_within set op h k = changes_in set op op.body refl h k
