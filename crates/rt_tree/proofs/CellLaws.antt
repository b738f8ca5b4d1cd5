-- The cells of runs.
use Rattle.std.proofs.Common.{◌≡◌, ℕ, zero, suc, ◌+◌, ◌<◌, not, Bool, true, false, List, [], ◌∷◌, ◌++◌, length, drop, map, refl, sym, ap, ◌∙◌, arith, subst, Some, slice_get, if◌then◌else◌, length-append}
use Rattle.std.specs.List.{AllByRecursion}
use Rattle.std.proofs.lemmas.List.{length-take-le, length-drop, length-map, map-append}
use Rattle.std.proofs.lemmas.List.Concat.{flat_map-append}
use Rattle.std.proofs.lemmas.List.Elements.{filter-append}
use Rattle.rt_stamps.specs.Places.{newlines}
use Rattle.rt_store.specs.declared.cell.Cell.{Cell}
use Rattle.rt_store.specs.Cells.{cells_from, text_of, visible_of}
use Rattle.rt_store.proofs.Places.{length_from}
use Rattle.rt_tree.specs.declared.node.Counts.{Counts}
use Rattle.rt_tree.specs.declared.node.CountedBy.TheVariants.{Cells, Visible}
use Rattle.rt_tree.specs.declared.node.Run.{Run}
use Rattle.rt_tree.specs.Runs.{IsRun, cells_of_runs, run_characters, run_cells, with_gone}
use Rattle.rt_tree.specs.Sums.{counts_of}
use Rattle.rt_tree.specs.Walks.{StandsAt}
use Rattle.rt_tree.proofs.Down.{each-mid}
use Rattle.rt_tree.proofs.Texts.{newlines-append}

pub visible-append : (a b : List (Cell ℕ)) → visible_of (a ++ b) ≡ visible_of a ++ visible_of b
visible-append a b = filter-append (λ (c : Cell ℕ). not c.gone) a b

pub text-append : (a b : List (Cell ℕ)) → text_of (a ++ b) ≡ text_of a ++ text_of b
text-append a b = ap (map (λ (c : Cell ℕ). c.ch)) (visible-append a b) ∙ map-append (λ (c : Cell ℕ). c.ch) (visible_of a) (visible_of b)

pub all_shown : (cs : List (Cell ℕ)) → visible_of (map (with_gone false) cs) ≡ map (with_gone false) cs
all_shown [] = refl
all_shown (c ∷ cs) = ap (λ l. with_gone false c ∷ l) (all_shown cs)

pub none_shown : (cs : List (Cell ℕ)) → visible_of (map (with_gone true) cs) ≡ []
none_shown [] = refl
none_shown (c ∷ cs) = none_shown cs

pub characters_from : (gone : Bool) (count site state : ℕ) (text : List ℕ) → map (λ (c : Cell ℕ). c.ch) (map (with_gone gone) (cells_from count site state text)) ≡ text
characters_from gone count site state [] = refl
characters_from gone count site state (c ∷ text) = ap (λ l. c ∷ l) (characters_from gone (count + 1) site state text)

-- how many characters and cells a run has
pub characters_length : (text : List ℕ) (r : Run) → IsRun text r → length (run_characters text r) ≡ r.len
characters_length text r is = length-take-le r.len (drop r.at text) (let h = length-drop r.at text in omega (arith, h, is.stands))

pub run_length : (text : List ℕ) (r : Run) → IsRun text r → length (run_cells text r) ≡ r.len
run_length text r is = length-map (cells_from r.first r.site r.state (run_characters text r)) (with_gone r.gone) ∙ length_from r.first r.site r.state (run_characters text r) ∙ characters_length text r is

-- the text and the visible cells of a run that isn't gone, and of one that is
pub shown_run : (text : List ℕ) (r : Run) → r.gone ≡ false → visible_of (run_cells text r) ≡ run_cells text r
shown_run text r shown =
    let cs = cells_from r.first r.site r.state (run_characters text r) in
    let P : Bool → Type 0 = λ g. visible_of (map (with_gone g) cs) ≡ map (with_gone g) cs in
    subst P (sym shown) (all_shown cs)

pub gone_run : (text : List ℕ) (r : Run) → r.gone ≡ true → visible_of (run_cells text r) ≡ []
gone_run text r gone =
    let cs = cells_from r.first r.site r.state (run_characters text r) in
    let P : Bool → Type 0 = λ g. visible_of (map (with_gone g) cs) ≡ [] in
    subst P (sym gone) (none_shown cs)

pub shown_text : (text : List ℕ) (r : Run) → r.gone ≡ false → text_of (run_cells text r) ≡ run_characters text r
shown_text text r shown = ap (map (λ (c : Cell ℕ). c.ch)) (shown_run text r shown) ∙ characters_from r.gone r.first r.site r.state (run_characters text r)

pub gone_text : (text : List ℕ) (r : Run) → r.gone ≡ true → text_of (run_cells text r) ≡ []
gone_text text r gone = ap (map (λ (c : Cell ℕ). c.ch)) (gone_run text r gone)

pub run_visible : (text : List ℕ) (r : Run) → IsRun text r → (g : Bool) → r.gone ≡ g → length (visible_of (run_cells text r)) ≡ (if g then 0 else r.len)
run_visible text r is true e = ap length (gone_run text r e)
run_visible text r is false e = ap length (shown_run text r e) ∙ run_length text r is

pub run_newlines : (text : List ℕ) (r : Run) → IsRun text r → (g : Bool) → r.gone ≡ g → newlines (text_of (run_cells text r)) ≡ (if g then 0 else (if r.newline then 1 else 0))
run_newlines text r is true e = ap newlines (gone_text text r e)
run_newlines text r is false e = ap newlines (shown_text text r e) ∙ is.ends

-- runs count what their cells do
pub record Counted (text : List ℕ) (rs : List Run) : Type 0 where
  pub cells : length (cells_of_runs text rs) ≡ (counts_of rs).cells
  pub visible : length (visible_of (cells_of_runs text rs)) ≡ (counts_of rs).visible
  pub newlines : newlines (text_of (cells_of_runs text rs)) ≡ (counts_of rs).newlines

pub counted : (text : List ℕ) (rs : List Run) → AllByRecursion (IsRun text) rs → Counted text rs
counted text [] all = record { cells = refl; visible = refl; newlines = refl }
counted text (r ∷ rs) all =
    let more = counted text rs all.1 in
    let mine = run_cells text r in
    let rest = cells_of_runs text rs in
    let c = length-append mine rest in
    let d = run_length text r all.0 in
    let v = ap length (visible-append mine rest) ∙ length-append (visible_of mine) (visible_of rest) in
    let w = run_visible text r all.0 r.gone refl in
    let n = ap newlines (text-append mine rest) ∙ newlines-append (text_of mine) (text_of rest) in
    let o = run_newlines text r all.0 r.gone refl in
    record { cells = omega (arith, c, d, more.cells); visible = omega (arith, v, w, more.visible); newlines = omega (arith, n, o, more.newlines) }

pub all_left : (text : List ℕ) (a b : List Run) → AllByRecursion (IsRun text) (a ++ b) → AllByRecursion (IsRun text) a
all_left text [] b all = tt
all_left text (r ∷ a) b all = (all.0, all_left text a b all.1)

-- an element of a list in the middle
pub get-right : {X : Type 0} (a b : List X) (n k : ℕ) → length a + k ≡ n → slice_get (a ++ b) n ≡ slice_get b k
get-right [] b n k e = let h : n ≡ k = omega arith in ap (slice_get b) h
get-right (x ∷ a) b zero k e = absurd (omega arith)
get-right (x ∷ a) b (suc n) k e = get-right a b n k (omega arith)

pub get-left : {X : Type 0} (a b : List X) (k : ℕ) → k < length a → slice_get (a ++ b) k ≡ slice_get a k
get-left [] b k lt = absurd (omega arith)
get-left (x ∷ a) b zero lt = refl
get-left (x ∷ a) b (suc k) lt = get-left a b k (omega arith)

-- the cell so many places into a run
pub get-from : (gone : Bool) (count site state : ℕ) (text : List ℕ) (i ch : ℕ) → slice_get text i ≡ Some ch → slice_get (map (with_gone gone) (cells_from count site state text)) i ≡ Some (record { stamp = record { count = count + i; site = site }; ch = ch; gone = gone; state = state })
get-from gone count site state [] i ch is = absurd (some_none is) where
  some_none : {x : ℕ} → slice_get [] i ≡ Some x → ⊥
  some_none e = cc
get-from gone count site state (c ∷ text) zero ch is = let z : count + 0 ≡ count = omega arith in let e : c ≡ ch = cc in rw (z, e)
get-from gone count site state (c ∷ text) (suc i) ch is = let z : count + 1 + i ≡ count + suc i = omega arith in get-from gone (count + 1) site state text i ch is ∙ ap (λ n. Some (record { stamp = record { count = n; site = site }; ch = ch; gone = gone; state = state })) z

module _ (text : List ℕ) (all : List Run) (run : Run) (front : Counts) (offset place : ℕ) (runs : AllByRecursion (IsRun text) all) where
  pub is_run : (left right : List Run) → all ≡ left ++ run ∷ right → IsRun text run
  is_run left right here = each-mid (IsRun text) left run right (subst (AllByRecursion (IsRun text)) here runs)

  pub counted_left : (left right : List Run) → all ≡ left ++ run ∷ right → Counted text left
  counted_left left right here = counted text left (all_left text left (run ∷ right) (subst (AllByRecursion (IsRun text)) here runs))

  pub cells_around : (left right : List Run) → all ≡ left ++ run ∷ right → cells_of_runs text all ≡ cells_of_runs text left ++ (run_cells text run ++ cells_of_runs text right)
  cells_around left right here = ap (cells_of_runs text) here ∙ flat_map-append (run_cells text) left (run ∷ right)

  -- the cell at a position
  pub nth_found : StandsAt Cells all run front offset place → slice_get (cells_of_runs text all) place ≡ slice_get (run_cells text run) offset
  nth_found st =
      let here = st.here in
      let mine = run_cells text run in
      let before = cells_of_runs text st.left in
      let l = counted_left st.left st.right here in
      let f = ap (λ (x : Counts). x.cells) st.before in
      let long = run_length text run (is_run st.left st.right here) in
      ap (λ xs. slice_get xs place) (cells_around st.left st.right here)
      ∙ get-right before (mine ++ cells_of_runs text st.right) place offset (omega (arith, l.cells, f, st.at))
      ∙ get-left mine (cells_of_runs text st.right) offset (omega (arith, long, st.inside))

  -- a run in which a visible place is isn't gone
  pub visible_run : StandsAt Visible all run front offset place → (run.gone ≡ false) × (offset < run.len)
  visible_run st = shown run.gone st.inside where
    shown : (gone : Bool) → offset < (if gone then 0 else run.len) → (gone ≡ false) × (offset < run.len)
    shown true lt = absurd (omega arith)
    shown false lt = (refl, lt)

  pub visible_around : (left right : List Run) → all ≡ left ++ run ∷ right → run.gone ≡ false → visible_of (cells_of_runs text all) ≡ visible_of (cells_of_runs text left) ++ (run_cells text run ++ visible_of (cells_of_runs text right))
  visible_around left right here shown =
      ap visible_of (cells_around left right here)
      ∙ visible-append (cells_of_runs text left) (run_cells text run ++ cells_of_runs text right)
      ∙ ap (λ l. visible_of (cells_of_runs text left) ++ l) (visible-append (run_cells text run) (cells_of_runs text right) ∙ ap (λ l. l ++ visible_of (cells_of_runs text right)) (shown_run text run shown))

  -- the visible cell at a place
  pub visible_found : StandsAt Visible all run front offset place → slice_get (visible_of (cells_of_runs text all)) place ≡ slice_get (run_cells text run) offset
  visible_found st =
      let here = st.here in
      let s = visible_run st in
      let mine = run_cells text run in
      let l = counted_left st.left st.right here in
      let f = ap (λ (x : Counts). x.visible) st.before in
      let long = run_length text run (is_run st.left st.right here) in
      ap (λ xs. slice_get xs place) (visible_around st.left st.right here s.0)
      ∙ get-right (visible_of (cells_of_runs text st.left)) (mine ++ visible_of (cells_of_runs text st.right)) place offset (omega (arith, l.visible, f, st.at))
      ∙ get-left mine (visible_of (cells_of_runs text st.right)) offset (omega (arith, long, s.1))
