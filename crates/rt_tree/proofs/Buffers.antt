-- Characters in a buffer.
use Rattle.std.proofs.Common.{◌≡◌, ℕ, suc, ◌+◌, ◌-◌, ◌<◌, ◌≤◌, List, [], ◌∷◌, ◌++◌, length, take, drop, set, get_or, sym, ap, ◌∙◌, arith}
use Rattle.std.specs.List.{AllByRecursion}
use Rattle.std.proofs.Math.Seq.{take-add, take-suc-set}
use Rattle.std.proofs.lemmas.List.{append_assoc, drop-append-le, drop-drop, drop-set-lt, drop-take, length-drop, length-map, take-append-le, take-take, take_more}
use Rattle.rt_store.specs.declared.cell.Cell.{Cell}
use Rattle.rt_store.specs.Cells.{text_of, visible_of}
use Rattle.rt_tree.specs.declared.node.Counts.{Counts}
use Rattle.rt_tree.specs.declared.node.CountedBy.TheVariants.{Visible}
use Rattle.rt_tree.specs.declared.node.Run.{Run}
use Rattle.rt_tree.specs.Runs.{IsRun, cells_of_runs, run_characters, run_cells}
use Rattle.rt_tree.specs.Walks.{StandsAt}
use Rattle.rt_tree.proofs.CellLaws.{cells_around, characters_length, counted_left, is_run, shown_text, text-append, visible_run}
use Rattle.rt_tree.proofs.Skipping.{drop-right}

-- one character more
pub one_more : (text old buffer : List ℕ) (from at i ch : ℕ) → at + i < length buffer → i < length (drop from text) → ch ≡ get_or (drop from text) i ch
    → take (at + i) buffer ≡ take at old ++ take i (drop from text) → take (at + (i + 1)) (set buffer (at + i) ch) ≡ take at old ++ take (i + 1) (drop from text)
one_more text old buffer from at i ch less there is e =
    let k : at + (i + 1) ≡ suc (at + i) = omega arith in
    ap (λ n. take n (set buffer (at + i) ch)) k
    ∙ take-suc-set buffer (at + i) ch less
    ∙ ap (λ xs. xs ++ ch ∷ []) e
    ∙ append_assoc (take at old) (take i (drop from text)) (ch ∷ [])
    ∙ ap (λ x. take at old ++ (take i (drop from text) ++ x ∷ [])) is
    ∙ ap (λ xs. take at old ++ xs) (sym (take_more (drop from text) i ch there))

-- what is behind stays
pub behind_it : (old buffer : List ℕ) (at i ch : ℕ) → drop (at + i) buffer ≡ drop (at + i) old → drop (at + (i + 1)) (set buffer (at + i) ch) ≡ drop (at + (i + 1)) old
behind_it old buffer at i ch e =
    let k : at + (i + 1) ≡ at + i + 1 = omega arith in
    let less : at + i < at + i + 1 = omega arith in
    ap (λ n. drop n (set buffer (at + i) ch)) k
    ∙ drop-set-lt (at + i + 1) buffer (at + i) ch less
    ∙ sym (drop-drop 1 (at + i) buffer)
    ∙ ap (drop 1) e
    ∙ drop-drop 1 (at + i) old
    ∙ ap (λ n. drop n old) (sym k)

-- more of a text in a buffer
pub more_of : (all text old new : List ℕ) (place from done more : ℕ) → take done old ≡ take done (drop place all) → take (done + more) new ≡ take done old ++ take more (drop from text)
    → take more (drop (place + done) all) ≡ take more (drop from text) → take (done + more) new ≡ take (done + more) (drop place all)
more_of all text old new place from done more e n p =
    n
    ∙ ap (λ xs. xs ++ take more (drop from text)) e
    ∙ ap (λ xs. take done (drop place all) ++ xs) (sym p ∙ ap (take more) (sym (drop-drop done place all)))
    ∙ sym (take-add done more (drop place all))

pub rest_of : (first old new : List ℕ) (done more : ℕ) → drop done old ≡ drop done first → drop (done + more) new ≡ drop (done + more) old → drop (done + more) new ≡ drop (done + more) first
rest_of first old new done more e n = n ∙ sym (drop-drop more done old) ∙ ap (drop more) e ∙ drop-drop more done first

-- the characters of a text from a place on, as far as a run goes
module _ (text : List ℕ) (all : List Run) (run : Run) (front : Counts) (offset place : ℕ) (runs : AllByRecursion (IsRun text) all) where
  pub run_part : StandsAt Visible all run front offset place → (k : ℕ) → k ≤ run.len - offset → take k (drop place (text_of (cells_of_runs text all))) ≡ take k (drop (run.at + offset) text)
  run_part st k le =
      let s = visible_run text all run front offset place runs st in
      let before = cells_of_runs text st.left in
      let after = cells_of_runs text st.right in
      let own = is_run text all run front offset place runs st.left st.right st.here in
      let l = counted_left text all run front offset place runs st.left st.right st.here in
      let f = ap (λ (x : Counts). x.visible) st.before in
      let chars = run_characters text run in
      let long = characters_length text run own in
      let n = length-map (visible_of before) (λ (c : Cell ℕ). c.ch) in
      let whole : text_of (cells_of_runs text all) ≡ text_of before ++ (chars ++ text_of after) =
      ap text_of (cells_around text all run front offset place runs st.left st.right st.here)
      ∙ text-append before (run_cells text run ++ after)
      ∙ ap (λ xs. text_of before ++ xs) (text-append (run_cells text run) after ∙ ap (λ xs. xs ++ text_of after) (shown_text text run s.0)) in
      let m = run.len - offset in
      let parts : run.len ≡ offset + m = omega (arith, s.1) in
      let mine : drop offset chars ≡ take m (drop offset (drop run.at text)) = ap (λ n. drop offset (take n (drop run.at text))) parts ∙ drop-take offset m (drop run.at text) in
      let len : length (drop offset chars) ≡ length chars - offset = length-drop offset chars in
      ap (λ xs. take k (drop place xs)) whole
      ∙ ap (take k) (drop-right (text_of before) (chars ++ text_of after) place offset (omega (arith, n, l.visible, f, st.at)))
      ∙ ap (take k) (drop-append-le offset chars (text_of after) (omega (arith, long, s.1)))
      ∙ take-append-le k (drop offset chars) (text_of after) (omega (arith, len, long, le))
      ∙ ap (take k) mine
      ∙ take-take k m (drop offset (drop run.at text)) le
      ∙ ap (take k) (drop-drop offset run.at text)

  -- a run ends within the visible cells, and its characters in the text
  pub fits_text : StandsAt Visible all run front offset place → (offset < run.len) × (run.at + run.len ≤ length text)
  fits_text st = ((visible_run text all run front offset place runs st).1, (is_run text all run front offset place runs st.left st.right st.here).stands)
