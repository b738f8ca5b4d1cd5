-- The runs of a span, updated run by run.
use Rattle.std.proofs.Common.{◌≡◌, ℕ, suc, ◌+◌, ◌^◌, ◌<◌, ◌≤◌, Bool, true, false, List, [], ◌∷◌, ◌++◌, length, map, refl, sym, ap, ◌∙◌, arith, subst, append_assoc, append-nil}
use Rattle.std.proofs.lemmas.Bool.Decides.{nat_tests}
use Rattle.std.proofs.lemmas.List.{length-map, map-append}
use Rattle.std.specs.List.{AllByRecursion}
use Rattle.rt_stamps.specs.declared.limits.TheConstants.{MOST_CELLS}
use Rattle.rt_stamps.specs.declared.stamp.Span.{Span}
use Rattle.rt_stamps.specs.declared.stamp.Stamp.{Stamp}
use Rattle.rt_store.specs.declared.cell.Cell.{Cell}
use Rattle.rt_store.specs.Cells.{cells_from, is_in_span}
use Rattle.rt_store.specs.Spans.{last_stamp, next_stamp}
use Rattle.rt_store.proofs.Distinct.{split}
use Rattle.rt_tree.specs.declared.update.CellUpdate.{CellUpdate}
use Rattle.rt_tree.specs.declared.update.CellUpdate.TheVariants.{Gone, State}
use Rattle.rt_tree.specs.declared.node.Counts.{Counts}
use Rattle.rt_tree.specs.declared.node.CountedBy.TheVariants.{Cells}
use Rattle.rt_tree.specs.declared.node.Run.{Run}
use Rattle.rt_tree.specs.Runs.{IsRun, cells_of_runs, run_characters, first_stamp, has_cell, run_cells, with_gone}
use Rattle.rt_tree.specs.Sharing.{AreApart, BeginsAt, IsChangedAt, IsRecut, cell_updated_in, is_long_with, long_with, run_in}
use Rattle.rt_tree.specs.Stretches.{AreChanged, AreRunsOfText, updated_cell, updated_run}
use Rattle.rt_tree.specs.Sums.{AreFew, counts_of, counts_of_run, plus}
use Rattle.rt_tree.specs.Walks.{IsReplacedAt, StandsAt}
use Rattle.rt_tree.proofs.Apart.{bit, long-cons}
use Rattle.rt_tree.proofs.CellLaws.{characters_length, counted}
use Rattle.rt_tree.proofs.Cutting.{few_with}
use Rattle.rt_tree.proofs.Edges.{counts_mid, one_spot}
use Rattle.rt_tree.proofs.Pieces.{updated_cells, updated_length, run_updated}
use Rattle.rt_tree.proofs.Positions.{has_within}
use Rattle.rt_tree.proofs.Walking.{IsNext, all_right, next_is, none_left}

-- RUNS THAT WERE CUT

pub recut_kept : (old new : List Run) → IsRecut old new → AreRunsOfText old → AreRunsOfText new
recut_kept old new is kept = record { text = kept.text; short = kept.short; runs = is.kept kept.text kept.runs }

pub recut_cells : (old new : List Run) → IsRecut old new → AreRunsOfText old → (counts_of new).cells ≡ (counts_of old).cells
recut_cells old new is kept =
    let a = counted kept.text old kept.runs in
    let b = counted kept.text new (is.kept kept.text kept.runs) in
    let c = ap length (is.cells kept.text kept.runs) in
    omega (arith, a.cells, b.cells, c)

-- ONE RUN

module _ (span : Span) (update : CellUpdate) (old : List Run) (run : Run) (front : Counts) (offset at : ℕ) where
  pub changed_out : StandsAt Cells old run front offset at → is_in_span span (first_stamp run) ≡ false → IsChangedAt old old at (run_in span update) run.len
  changed_out st out = record {
    run = run;
    front = front;
    offset = offset;
    was = st;
    is = st.here ∙ ap (λ (r : Run). st.left ++ r ∷ st.right) (sym (rw out refl));
    long = refl;
  }

  pub changed_in : (new : List Run) → AreRunsOfText old → (st : StandsAt Cells old run front offset at) → is_in_span span (first_stamp run) ≡ true → IsReplacedAt old new at (updated_run update run) → IsChangedAt old new at (run_in span update) run.len
  changed_in new kept st within rep =
      let f = ap (λ (c : Counts). c.cells) rep.was.before in
      let g = ap (λ (c : Counts). c.cells) st.before in
      let a = st.at in let b = rep.was.at in
      let s = one_spot st.left run st.right offset rep.was.left rep.before rep.was.right rep.offset (sym st.here ∙ rep.was.here) (omega (arith, f, g, a, b)) st.inside rep.was.inside in
      record {
        run = run;
        front = front;
        offset = offset;
        was = st;
        is =
            (rep.is ∙ ap (λ l. l ++ updated_run update run ∷ rep.was.right) (sym s.left) ∙ ap (λ l. st.left ++ updated_run update run ∷ l) (sym s.right)
            ∙ ap (λ (r : Run). st.left ++ r ∷ st.right) (sym (rw within refl)));
        long = refl;
      }

pub updated_few : (update : CellUpdate) (old : List Run) (run : Run) (front : Counts) (offset at : ℕ) → AreRunsOfText old → (counts_of old).cells ≤ MOST_CELLS → StandsAt Cells old run front offset at → AreFew (plus (counts_of_run (updated_run update run)) (counts_of old))
updated_few update old run front offset at kept few st =
    let l = updated_length update run in
    let w = ap (λ l. (counts_of l).cells) st.here ∙ counts_mid st.left run st.right in
    let i = st.inside in
    few_with (updated_run update run) old (omega (arith, l, i)) (omega (arith, l, w, few)) kept few

-- RUN BY RUN

module _ (span : Span) (update : CellUpdate) where
  abbrev f : Run → Run
  f = run_in span update

  run_len : (r : Run) → (f r).len ≡ r.len
  run_len r = split (is_in_span span (first_stamp r)) (λ e. rw e (updated_length update r)) (λ e. rw e refl)

  run_kept : (text : List ℕ) (r : Run) → IsRun text r → IsRun text (f r)
  run_kept text r is = split (is_in_span span (first_stamp r)) (λ e. rw e (run_updated text update r is)) (λ e. rw e is)

  run_long : (stamp : Stamp) (r : Run) → is_long_with stamp (f r) ≡ is_long_with stamp r
  run_long stamp r = split (is_in_span span (first_stamp r)) (λ e. rw e (update_long update)) (λ e. rw e refl)
    where
      update_long : (m : CellUpdate) → is_long_with stamp (updated_run m r) ≡ is_long_with stamp r
      update_long Gone = refl
      update_long (State state) = refl

  pub runs_count : (rs : List Run) → (counts_of (map f rs)).cells ≡ (counts_of rs).cells
  runs_count [] = refl
  runs_count (r ∷ rs) = let a = run_len r in let b = runs_count rs in omega (arith, a, b)

  pub runs_kept : (text : List ℕ) (rs : List Run) → AllByRecursion (IsRun text) rs → AllByRecursion (IsRun text) (map f rs)
  runs_kept text [] all = tt
  runs_kept text (r ∷ rs) all = (run_kept text r all.0, runs_kept text rs all.1)

  pub runs_apart : (rs : List Run) → AreApart rs → AreApart (map f rs)
  runs_apart rs is stamp = let e = same rs in let h = is stamp in omega (arith, e, h)
    where
      same : (l : List Run) → long_with stamp (map f l) ≡ long_with stamp l
      same [] = refl
      same (r ∷ l) =
          let a = long-cons stamp (f r) (map f l) in
          let b = long-cons stamp r l in
          let c = ap bit (run_long stamp r) in
          let d = same l in
          omega (arith, a, b, c, d)

  -- the first runs are updated, up to a position
  pub record AreUpdated (old now : List Run) (at : ℕ) : Type 0 where
    pub left : List Run
    pub right : List Run
    pub was : old ≡ left ++ right
    pub is : now ≡ map f left ++ right
    pub count : (counts_of left).cells ≡ at

  pub none_updated : (old : List Run) → AreUpdated old old 0
  none_updated old = record { left = []; right = old; was = refl; is = refl; count = refl }

  kept_parts : (text : List ℕ) (a b : List Run) → AllByRecursion (IsRun text) (a ++ b) → AllByRecursion (IsRun text) (map f a ++ b)
  kept_parts text [] b all = all
  kept_parts text (r ∷ a) b all = (run_kept text r all.0, kept_parts text a b all.1)

  count_parts : (a b : List Run) → (counts_of (map f a ++ b)).cells ≡ (counts_of (a ++ b)).cells
  count_parts [] b = refl
  count_parts (r ∷ a) b = let e = run_len r in let h = count_parts a b in omega (arith, e, h)

  module _ (old now : List Run) (at : ℕ) (kept : AreRunsOfText old) (few : (counts_of old).cells ≤ MOST_CELLS) (m : AreUpdated old now at) where
    pub now_kept : AreRunsOfText now
    now_kept = record {
      text = kept.text;
      short = kept.short;
      runs = subst (AllByRecursion (IsRun kept.text)) (sym m.is) (kept_parts kept.text m.left m.right (subst (AllByRecursion (IsRun kept.text)) m.was kept.runs));
    }

    pub now_count : (counts_of now).cells ≡ (counts_of old).cells
    now_count = ap (λ (l : List Run). (counts_of l).cells) m.is ∙ count_parts m.left m.right ∙ ap (λ (l : List Run). (counts_of l).cells) (sym m.was)

    pub now_few : (counts_of now).cells ≤ MOST_CELLS
    now_few = let c = now_count in omega (arith, c, few)

    rest_kept : AllByRecursion (IsRun kept.text) m.right
    rest_kept = all_right kept.text m.left m.right (subst (AllByRecursion (IsRun kept.text)) m.was kept.runs)

    module _ (new : List Run) (len : ℕ) (ch : IsChangedAt now new at f len) where
      next : IsNext (map f m.left) m.right ch.was.left ch.run ch.was.right ch.offset
      next = next_is kept.text now (map f m.left) m.right at ch.run ch.front ch.offset m.is (runs_count m.left ∙ m.count) rest_kept ch.was

      pub more_updated : AreUpdated old new (at + len)
      more_updated = record {
        left = m.left ++ ch.run ∷ [];
        right = ch.was.right;
        was = m.was ∙ ap (λ (l : List Run). m.left ++ l) next.rest ∙ sym (append_assoc m.left (ch.run ∷ []) ch.was.right);
        is =
            (ch.is ∙ ap (λ (l : List Run). l ++ f ch.run ∷ ch.was.right) (sym next.left)
            ∙ sym (append_assoc (map f m.left) (f ch.run ∷ []) ch.was.right)
            ∙ ap (λ (l : List Run). l ++ ch.was.right) (sym (map-append f m.left (ch.run ∷ []))));
        count = (let c = counts_mid m.left ch.run [] in let a = m.count in let l = ch.long in omega (arith, c, a, l));
      }

      pub more_within : at + len ≤ (counts_of old).cells
      more_within =
          let c = ap (λ (l : List Run). (counts_of l).cells) more_updated.was in
          let d = more_updated.count in
          let e = counts_split more_updated.left more_updated.right in
          omega (arith, c, d, e)
        where
          counts_split : (a b : List Run) → (counts_of (a ++ b)).cells ≡ (counts_of a).cells + (counts_of b).cells
          counts_split [] b = omega arith
          counts_split (x ∷ a) b = let h = counts_split a b in omega (arith, h)

      pub more_some : 0 < len
      more_some = let l = ch.long in let i = ch.was.inside in omega (arith, l, i)

    pub all_updated : (counts_of old).cells ≤ at → now ≡ map f old
    all_updated end =
        let c = ap (λ (l : List Run). (counts_of l).cells) m.was in
        let d = m.count in
        let none = none_left kept.text m.left m.right rest_kept (omega (arith, c, d, end)) in
        m.is ∙ ap (λ (l : List Run). map f m.left ++ l) none ∙ append-nil (map f m.left) ∙ ap (map f) (sym (m.was ∙ ap (λ (l : List Run). m.left ++ l) none ∙ append-nil m.left))

  -- THE CELLS OF RUNS THAT LIE IN A SPAN OR OUT OF IT

  abbrev row : Bool → ℕ → ℕ → ℕ → List ℕ → List (Cell ℕ)
  row gone count site state text = map (with_gone gone) (cells_from count site state text)

  abbrev in_it : ℕ → ℕ → Bool
  in_it count site = is_in_span span (record { count = count; site = site })

  cells_out : (gone : Bool) (count site state : ℕ) (text : List ℕ) → ((i : ℕ) → i < length text → in_it (count + i) site ≡ false) → map (cell_updated_in span update) (row gone count site state text) ≡ row gone count site state text
  cells_out gone count site state [] out = refl
  cells_out gone count site state (c ∷ text) out =
      let z : count + 0 ≡ count = omega arith in
      let here : in_it count site ≡ false = subst (λ n. in_it n site ≡ false) z (out 0 (omega arith)) in
      let rest = cells_out gone (count + 1) site state text (λ i lt. let n : count + suc i ≡ count + 1 + i = omega arith in subst (λ n. in_it n site ≡ false) n (out (suc i) (omega (arith, lt)))) in
      rw (here, rest) refl

  cells_within : (gone : Bool) (count site state : ℕ) (text : List ℕ) → ((i : ℕ) → i < length text → in_it (count + i) site ≡ true) → map (cell_updated_in span update) (row gone count site state text) ≡ map (updated_cell update) (row gone count site state text)
  cells_within gone count site state [] out = refl
  cells_within gone count site state (c ∷ text) out =
      let z : count + 0 ≡ count = omega arith in
      let here : in_it count site ≡ true = subst (λ n. in_it n site ≡ true) z (out 0 (omega arith)) in
      let rest = cells_within gone (count + 1) site state text (λ i lt. let n : count + suc i ≡ count + 1 + i = omega arith in subst (λ n. in_it n site ≡ true) n (out (suc i) (omega (arith, lt)))) in
      rw (here, rest) refl

  module _ (text : List ℕ) (r : Run) (is : IsRun text r) (first : BeginsAt (record { count = span.first; site = span.site }) r) (behind : BeginsAt (next_stamp (last_stamp span)) r) where
    stays_in : (i : ℕ) → i < r.len → is_in_span span (first_stamp r) ≡ true → in_it (r.first + i) r.site ≡ true
    stays_in i lt e = split (has_cell r (next_stamp (last_stamp span)))
        (λ h. let b = behind h in absurd (grind (arith, nat_tests)))
        (λ h. grind (arith, nat_tests))

    stays_out : (i : ℕ) → i < r.len → is_in_span span (first_stamp r) ≡ false → in_it (r.first + i) r.site ≡ false
    stays_out i lt e = split (has_cell r (record { count = span.first; site = span.site }))
        (λ h. let b = first h in split (in_it (r.first + i) r.site) (λ y. absurd (grind (arith, nat_tests))) (λ n. n))
        (λ h. split (in_it (r.first + i) r.site) (λ y. absurd (grind (arith, nat_tests))) (λ n. n))

    one_updated : run_cells text (f r) ≡ map (cell_updated_in span update) (run_cells text r)
    one_updated =
        let long = characters_length text r is in
        split (is_in_span span (first_stamp r))
        (λ e. rw e (updated_cells text update r ∙ sym (cells_within r.gone r.first r.site r.state (run_characters text r) (λ i lt. stays_in i (omega (arith, lt, long)) e))))
        (λ e. rw e (sym (cells_out r.gone r.first r.site r.state (run_characters text r) (λ i lt. stays_out i (omega (arith, lt, long)) e))))

  pub span_updated : (text : List ℕ) (rs : List Run) → AllByRecursion (IsRun text) rs → AllByRecursion (BeginsAt (record { count = span.first; site = span.site })) rs → AllByRecursion (BeginsAt (next_stamp (last_stamp span))) rs → cells_of_runs text (map f rs) ≡ map (cell_updated_in span update) (cells_of_runs text rs)
  span_updated text [] all first behind = refl
  span_updated text (r ∷ rs) all first behind =
      ap (λ l. l ++ cells_of_runs text (map f rs)) (one_updated text r all.0 first.0 behind.0)
      ∙ ap (λ l. map (cell_updated_in span update) (run_cells text r) ++ l) (span_updated text rs all.1 first.1 behind.1)
      ∙ sym (map-append (cell_updated_in span update) (run_cells text r) (cells_of_runs text rs))

-- no run goes behind the greatest count
pub none_behind : (text : List ℕ) (rs : List Run) (stamp : Stamp) → 2 ^ 64 ≤ stamp.count → AllByRecursion (IsRun text) rs → AllByRecursion (BeginsAt stamp) rs
none_behind text [] stamp e all = tt
none_behind text (r ∷ rs) stamp e all = (λ h. let c = all.0.counts in let w = has_within r stamp h in absurd (omega (arith, c, w, e)), none_behind text rs stamp e all.1)

-- as many cells as before
pub span_count : (old new : List Run) (text : List ℕ) (g : Cell ℕ → Cell ℕ) → AllByRecursion (IsRun text) old → AreChanged old new text (map g) → (counts_of new).cells ≡ (counts_of old).cells
span_count old new text g all is =
    let a = counted text old all in
    let b = counted text new is.kept in
    let c = ap length is.cells ∙ length-map (cells_of_runs text old) g in
    omega (arith, a.cells, b.cells, c)

pub span_changed : (old mid cut new : List Run) (span : Span) (update : CellUpdate) → IsRecut old mid → IsRecut mid cut → AllByRecursion (BeginsAt (record { count = span.first; site = span.site })) mid → AllByRecursion (BeginsAt (next_stamp (last_stamp span))) cut → new ≡ map (run_in span update) cut
    → (text : List ℕ) → AllByRecursion (IsRun text) old → AreChanged old new text (map (cell_updated_in span update))
span_changed old mid cut new span update one two first behind is text all =
    let all1 = one.kept text all in
    let all2 = two.kept text all1 in
    record {
      kept = subst (AllByRecursion (IsRun text)) (sym is) (runs_kept span update text cut all2);
      cells =
          (ap (cells_of_runs text) is
          ∙ span_updated span update text cut all2 (two.begins (record { count = span.first; site = span.site }) first) behind
          ∙ ap (map (cell_updated_in span update)) (two.cells text all1 ∙ one.cells text all));
    }
