-- The final newline is the last cell of a history, and where an operation finds its places.
use Rattle.std.proofs.Common.{◌≡◌, ℕ, ◌-◌, ◌<◌, true, false, ◌⊎◌, inl, inr, refl, sym, ap, subst, ◌∙◌, arith, Some, List, [], ◌∷◌, ◌++◌, map, length}
use Rattle.std.specs.Prelude.{slice_get, option_map}
use Rattle.std.proofs.lemmas.Bool.Decides.{nat_tests}
use Rattle.std.proofs.lemmas.List.{length-append, map-append}
use Rattle.std.specs.List.{AllByRecursion}
use Rattle.rt_stamps.specs.declared.stamp.Span.{Span}
use Rattle.rt_stamps.specs.declared.stamp.Stamp.{Stamp}
use Rattle.rt_stamps.specs.declared.stamp.TheConstants.{FINAL, ROOT}
use Rattle.rt_stamps.specs.Stamps.{is_before, is_same}
use Rattle.rt_stamps.proofs.Order.{before_asym, same_refl, same_sym}
use Rattle.rt_store.specs.Cells.{EndsFinal, final_cell, IsPlaced, map_state, stamps_of}
use Rattle.rt_ops.specs.Operations.{Operation, Body, Insert, Delete, Tag, Name, stamp_of}
use Rattle.rt_rga.specs.Reading.{Character, descendants, reading_by_stamp, with_character, with_characters}
use Rattle.rt_rga.specs.Histories.{Continues, IsHistory, characters, characters_from, final_character, has_character, inserted, inserted_by}
use Rattle.rt_rga.specs.Cells.{cell_in, cells_of}
use Rattle.rt_rga.proofs.Skipping.{AllAfter, childless, split}
use Rattle.rt_rga.proofs.Trees.{all_with}
use Rattle.rt_rga.proofs.Continuing.{names, knows, IsKnown, sound_of}
use Rattle.rt_rga.proofs.Histories.{all_from_members, character_site, inserted_range}
use Rattle.rt_rga.proofs.Writes.{not_gone, spans_name}
use Rattle.rt_rga.proofs.Merging.{cells_are, known_after}
use Rattle.rt_store.specs.Spans.{is_among, is_in_spans, next_stamp}
use Rattle.rt_store.specs.Shown.{TaggedCell}
use Rattle.rt_store.proofs.Places.{skip_short, stands}
use Rattle.rt_rga.proofs.Corollaries.{cells_have, no_final}

-- THE LEAST CHARACTER, WHICH HAS NO CHILDREN

with_final : (new : Character) (rest : List Character) → is_before FINAL new.stamp ≡ true → with_character new (final_character ∷ rest) ≡ final_character ∷ with_character new rest
with_final new rest h = rw h refl

with_all_final : (new rest : List Character) → AllAfter FINAL new → with_characters new (final_character ∷ rest) ≡ final_character ∷ with_characters new rest
with_all_final [] rest h = refl
with_all_final (c ∷ new) rest h = ap (with_characters new) (with_final c rest h.0) ∙ with_all_final new (with_character c rest) h.1

all_with_all : (P : Character → Type 0) (new cs : List Character) → AllByRecursion P new → AllByRecursion P cs → AllByRecursion P (with_characters new cs)
all_with_all P [] cs h k = k
all_with_all P (c ∷ new) cs h k = all_with_all P new (with_character c cs) h.1 (all_with P c h.0 cs k)

after_final : (s : Stamp) → 0 < s.site → 0 < s.count → is_before FINAL s ≡ true
after_final s h k = grind (arith, nat_tests)

site_apart : (s : Stamp) → 0 < s.site → is_same s FINAL ≡ false
site_apart s h = grind (arith, nat_tests)

inserted_after : (older : List Operation) (op : Operation) → Continues older op → AllAfter FINAL (inserted op)
inserted_after older op k = all_from_members (λ s. is_before FINAL s ≡ true) (inserted op)
    (λ s m. let r = inserted_range op s m in let o = sound_of k in after_final s (omega (arith, r.site, o.site)) (omega (arith, r.low, o.count)))

lefts_apart : (left stamp : Stamp) (text : List ℕ) → is_same left FINAL ≡ false → 0 < stamp.site → AllByRecursion (λ c. is_same c.left FINAL ≡ false) (characters_from left stamp text)
lefts_apart left stamp [] h k = tt
lefts_apart left stamp (ch ∷ text) h k = (h, lefts_apart stamp (next_stamp stamp) text (site_apart stamp k) k)

left_of_known : (older : List Operation) → IsHistory older → (after : Stamp) → (has_character older after ≡ true) ⊎ (after ≡ ROOT) → is_same after FINAL ≡ false
left_of_known older h after k = elim k [ inl m ↦ site_apart after (character_site older h after m) | inr e ↦ rw e refl ]

inserted_lefts : (older : List Operation) → IsHistory older → (stamp : Stamp) (body : Body) → 0 < stamp.site → ((s : Stamp) → names body s ≡ true → IsKnown older body s)
    → AllByRecursion (λ c. is_same c.left FINAL ≡ false) (inserted_by stamp body)
inserted_lefts older h stamp (Insert after tags text) l k = lefts_apart after stamp text (left_of_known older h after (k after (rw (same_refl after)))) l
inserted_lefts older h stamp (Delete spans) l k = tt
inserted_lefts older h stamp (Tag on name spans) l k = tt

front_of : (set : List Operation) → IsHistory set → (rest : List Character) × (characters set ≡ final_character ∷ rest) × AllByRecursion (λ c. is_same c.left FINAL ≡ false) rest
front_of [] h = ([], refl, tt)
front_of (op ∷ older) h =
    let (rest, e, f) = front_of older h.2 in (
      with_characters (inserted op) rest,
      ap (with_characters (inserted op)) e ∙ with_all_final (inserted op) rest (inserted_after older op h.1),
      all_with_all (λ c. is_same c.left FINAL ≡ false) (inserted op) rest (inserted_lefts older h.2 (stamp_of op) op.body (sound_of h.1).site (knows h.1)) f,
    )

reads_last : (set : List Operation) → IsHistory set → (front : List Character) × (reading_by_stamp (characters set) ≡ front ++ final_character ∷ [])
reads_last set h =
    let (rest, e, f) = front_of set h in
    (descendants rest ROOT, ap reading_by_stamp e ∙ ap (λ ds. descendants rest ROOT ++ final_character ∷ ds) (childless FINAL rest f))

-- the cells, the last one apart
pub record IsLast (cells front : List TaggedCell) (last : TaggedCell) : Type 0 where
  pub is : cells ≡ front ++ last ∷ []
  pub stamp : last.stamp ≡ FINAL
  pub ch : last.ch ≡ 10
  pub gone : last.gone ≡ false

pub cells_last : (set : List Operation) → IsHistory set → (front : List TaggedCell) × IsLast (cells_of set) front (cell_in set final_character)
cells_last set h =
    let (front, e) = reads_last set h in (
      map (cell_in set) front,
      record {
        is = cells_are set h ∙ ap (map (cell_in set)) e ∙ map-append (cell_in set) front (final_character ∷ []);
        stamp = refl;
        ch = refl;
        gone = not_gone set h FINAL (no_final set h);
      },
    )

at_end : {X : Type 0} (xs : List X) (x : X) → slice_get (xs ++ x ∷ []) (length xs) ≡ Some x
at_end [] x = refl
at_end (y ∷ ys) x = at_end ys x

get_last : {X : Type 0} (xs : List X) (x : X) → slice_get (xs ++ x ∷ []) (length (xs ++ x ∷ []) - 1) ≡ Some x
get_last xs x =
    let e : length (xs ++ x ∷ []) - 1 ≡ length xs = omega (arith, length-append xs (x ∷ [])) in
    ap (slice_get (xs ++ x ∷ [])) e ∙ at_end xs x

-- the last cell is the final newline
pub ends_final : (set : List Operation) → IsHistory set → EndsFinal (cells_of set)
ends_final set h =
    let (front, l) = cells_last set h in
    let last : TaggedCell = cell_in set final_character in
    subst (λ (cells : List TaggedCell). option_map (map_state (λ _. final_cell.state)) (slice_get cells (length cells - 1)) ≡ Some final_cell) (sym l.is)
    (ap (option_map (map_state (λ _. final_cell.state))) (get_last front last) ∙ (λ i. Some (record { stamp = FINAL; ch = 10; gone = l.gone i; state = 0 })))

-- PLACES

pub placed_insert : (set : List Operation) (op : Operation) (after : Stamp) (tags : List Name) (text : List ℕ) → op.body ≡ Insert after tags text → IsHistory set → Continues set op → IsPlaced (cells_of set) after (stamp_of op)
placed_insert set op after tags text e h k =
    let (front, l) = cells_last set h in
    let last : TaggedCell = cell_in set final_character in
    let known = known_after set op.body after tags text e (knows k) in
    let n : is_same FINAL after ≡ false = same_sym FINAL after ∙ left_of_known set h after known in
    let above : is_before FINAL (stamp_of op) ≡ true = after_final (stamp_of op) (sound_of k).site (sound_of k).count in
    let there : (is_among (stamps_of (cells_of set)) after ≡ true) ⊎ (after ≡ ROOT) = elim known [ inl i ↦ inl (cells_have set h after ∙ grind (arith, i)) | inr i ↦ inr i ] in
    let among : (is_among (stamps_of (front ++ last ∷ [])) after ≡ true) ⊎ (after ≡ ROOT) = subst (λ (cells : List TaggedCell). (is_among (stamps_of cells) after ≡ true) ⊎ (after ≡ ROOT)) l.is there in
    subst (λ (cells : List TaggedCell). IsPlaced cells after (stamp_of op)) (sym l.is)
    (record {
      stands = stands after front last n among;
      above = above;
      within = skip_short after (stamp_of op) front last (before_asym FINAL (stamp_of op) above) n among;
    })

-- a Delete leaves the final newline
pub final_stays : (set : List Operation) (op : Operation) (spans : List Span) → op.body ≡ Delete spans → IsHistory set → Continues set op → is_in_spans spans FINAL ≡ false
final_stays set op spans e h k =
    (subst (λ b. ((s : Stamp) → names b s ≡ true → IsKnown set b s) → is_in_spans spans FINAL ≡ false) (sym e)
    (λ f. split (is_in_spans spans FINAL)
    (λ g. absurd (let i : has_character set FINAL ≡ true = f FINAL (spans_name spans FINAL ∙ g) in let j = no_final set h in cc (i, j)))
    (λ g. g))) (knows k)
