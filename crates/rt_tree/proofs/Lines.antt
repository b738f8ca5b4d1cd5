-- Lines and places by runs.
use Rattle.std.proofs.Common.{◌≡◌, ℕ, ◌+◌, ◌-◌, ◌<◌, Bool, true, false, if◌then◌else◌, List, ◌∷◌, ◌++◌, length, take, refl, ap, ◌∙◌, arith}
use Rattle.std.specs.List.{AllByRecursion}
use Rattle.std.proofs.lemmas.List.{length-map, take-append-le}
use Rattle.std.proofs.Math.Seq.{take-append-add}
use Rattle.rt_stamps.specs.Places.{after_newlines, newlines}
use Rattle.rt_store.specs.declared.cell.Cell.{Cell}
use Rattle.rt_store.specs.Cells.{text_of, visible_of}
use Rattle.rt_tree.specs.declared.node.Counts.{Counts}
use Rattle.rt_tree.specs.declared.node.CountedBy.TheVariants.{Visible, Newlines}
use Rattle.rt_tree.specs.declared.node.Run.{Run}
use Rattle.rt_tree.specs.Runs.{IsRun, cells_of_runs, run_characters, run_cells}
use Rattle.rt_tree.specs.Walks.{StandsAt}
use Rattle.rt_tree.proofs.CellLaws.{cells_around, characters_length, counted_left, is_run, shown_text, text-append, visible_run}
use Rattle.rt_tree.proofs.Texts.{after-append, after-last, newlines-append, newlines-take}

module _ (text : List ℕ) (all : List Run) (run : Run) (front : Counts) (offset place : ℕ) (runs : AllByRecursion (IsRun text) all) where
  -- the text around a run that isn't gone
  text_around : (left right : List Run) → all ≡ left ++ run ∷ right → run.gone ≡ false → text_of (cells_of_runs text all) ≡ text_of (cells_of_runs text left) ++ (run_characters text run ++ text_of (cells_of_runs text right))
  text_around left right here shown =
      ap text_of (cells_around text all run front offset place runs left right here)
      ∙ text-append (cells_of_runs text left) (run_cells text run ++ cells_of_runs text right)
      ∙ ap (λ l. text_of (cells_of_runs text left) ++ l) (text-append (run_cells text run) (cells_of_runs text right) ∙ ap (λ l. l ++ text_of (cells_of_runs text right)) (shown_text text run shown))

  length_left : (left : List Run) → length (text_of (cells_of_runs text left)) ≡ length (visible_of (cells_of_runs text left))
  length_left left = length-map (visible_of (cells_of_runs text left)) (λ (c : Cell ℕ). c.ch)

  -- the newlines before a visible place are those of the runs before its own
  pub newlines_found : StandsAt Visible all run front offset place → newlines (take place (text_of (cells_of_runs text all))) ≡ front.newlines
  newlines_found st =
      let s = visible_run text all run front offset place runs st in
      let l = counted_left text all run front offset place runs st.left st.right st.here in
      let v = ap (λ (x : Counts). x.visible) st.before in
      let n = ap (λ (x : Counts). x.newlines) st.before in
      let own = is_run text all run front offset place runs st.left st.right st.here in
      let a = text_of (cells_of_runs text st.left) in
      let mine = run_characters text run in
      let b = text_of (cells_of_runs text st.right) in
      let long = characters_length text run own in
      let at : place ≡ length a + offset = omega (arith, length_left st.left, l.visible, v, st.at) in
      let few = newlines-take offset (run.len - 1) mine (omega (arith, s.1)) in
      ap (λ t. newlines (take place t)) (text_around st.left st.right st.here s.0)
      ∙ ap (λ k. newlines (take k (a ++ (mine ++ b)))) at
      ∙ ap newlines (take-append-add a (mine ++ b) offset)
      ∙ newlines-append a (take offset (mine ++ b))
      ∙ ap (λ t. newlines a + newlines t) (take-append-le offset mine b (omega (arith, long, s.1)))
      ∙ omega (arith, few, own.plain, l.newlines, n)

  -- a run in which a newline is isn't gone, and ends with it
  newline_run : StandsAt Newlines all run front offset place → (run.gone ≡ false) × (run.newline ≡ true) × (offset ≡ 0)
  newline_run st = ends run.gone run.newline st.inside where
    ends : (gone newline : Bool) → offset < (if gone then 0 else (if newline then 1 else 0)) → (gone ≡ false) × (newline ≡ true) × (offset ≡ 0)
    ends true newline lt = absurd (omega arith)
    ends false true lt = (refl, refl, omega arith)
    ends false false lt = absurd (omega arith)

  -- the place after a newline is that after its run
  pub start_found : StandsAt Newlines all run front offset place → after_newlines (place + 1) (text_of (cells_of_runs text all)) ≡ front.visible + run.len
  start_found st =
      let s = newline_run st in
      let l = counted_left text all run front offset place runs st.left st.right st.here in
      let v = ap (λ (x : Counts). x.visible) st.before in
      let n = ap (λ (x : Counts). x.newlines) st.before in
      let own = is_run text all run front offset place runs st.left st.right st.here in
      let a = text_of (cells_of_runs text st.left) in
      let mine = run_characters text run in
      let b = text_of (cells_of_runs text st.right) in
      let long = characters_length text run own in
      let at : place + 1 ≡ newlines a + 1 = omega (arith, l.newlines, n, st.at, s.2) in
      let one : newlines mine ≡ 1 = own.ends ∙ ap (λ x. if x then 1 else 0) s.1 in
      let last = after-last (run.len - 1) mine b own.plain one (omega (arith, own.some, long)) in
      ap (after_newlines (place + 1)) (text_around st.left st.right st.here s.0)
      ∙ ap (λ k. after_newlines k (a ++ (mine ++ b))) at
      ∙ after-append 1 a (mine ++ b) (omega arith)
      ∙ omega (arith, last, long, length_left st.left, l.visible, v)
