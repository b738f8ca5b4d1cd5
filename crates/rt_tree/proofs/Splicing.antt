-- New cells put in run by run.
use Rattle.std.proofs.Common.{◌≡◌, ℕ, ◌+◌, ◌-◌, ◌^◌, ◌<◌, ◌≤◌, true, false, List, [], ◌∷◌, ◌++◌, length, take, drop, map, refl, sym, ap, ◌∙◌, arith, subst, append_assoc, length-append}
use Rattle.std.specs.Prelude.{◌==◌, if◌then◌else◌}
use Rattle.std.specs.List.{AllByRecursion, list_any}
use Rattle.std.proofs.Math.Seq.{take-add}
use Rattle.std.proofs.lemmas.List.{drop-drop, drop_at, length-drop, length-map, length-take-le, take_all, take_at, take-append-drop, drop-map}
use Rattle.rt_stamps.specs.declared.limits.TheConstants.{MOST_CELLS}
use Rattle.rt_store.specs.declared.cell.Cell.{Cell}
use Rattle.rt_store.specs.Cells.{put_at}
use Rattle.rt_tree.specs.declared.node.Counts.{Counts}
use Rattle.rt_tree.specs.declared.node.CountedBy.TheVariants.{Cells}
use Rattle.rt_tree.specs.declared.node.Run.{Run}
use Rattle.rt_tree.specs.Additions.{EndsWith, IsFrontOf, IsRunOf, IsStretch, are_joint, run_joined, stretch_count}
use Rattle.rt_tree.specs.Growing.{EndsThere}
use Rattle.rt_tree.specs.Runs.{IsRun, cells_of_runs, run_cells}
use Rattle.rt_tree.specs.Shape.{IsTree, Memory, level_of, tree_runs}
use Rattle.rt_tree.specs.Sharing.{AreApart, AreOnce, IsRecut, is_shared_by, occurrences}
use Rattle.rt_tree.specs.Stretches.{AreChanged, AreRunsOfText, IsEdge, lengths}
use Rattle.rt_tree.specs.Sums.{AreFew, counts_of, counts_of_run, plus}
use Rattle.rt_tree.specs.Walks.{IsPutAt, IsReplacedAt, StandsAt}
use Rattle.rt_tree.proofs.CellLaws.{counted, counted_left, is_run, run_length}
use Rattle.rt_tree.proofs.Cutting.{few_with, low_tree}
use Rattle.rt_tree.proofs.Edges.{counts_mid, edge_there, one_spot, stands_first, IsSameSpot}
use Rattle.rt_tree.proofs.Joining.{joined_cells, joined_run, joint_true}
use Rattle.rt_tree.proofs.Shared.{apart_joined, apart_put, occurs-parts, occurs-put}
use Rattle.rt_tree.proofs.Pieces.{cells_mid, grown_cells, grown_kept, kept_more, kept_set}

-- more elements behind those that were put in
pub put_more : {X : Type 0} (at : ℕ) (a b xs : List X) → at ≤ length xs → put_at (at + length a) b (put_at at a xs) ≡ put_at at (a ++ b) xs
put_more at a b xs le =
    let front = take at xs in
    let back = drop at xs in
    let whole : put_at at a xs ≡ (front ++ a) ++ back = sym (append_assoc front a back) in
    let long = length-take-le at xs le in
    let n : length (front ++ a) ≡ at + length a = length-append front a ∙ ap (λ i. i + length a) long in
    ap (λ l. take (at + length a) l ++ (b ++ drop (at + length a) l)) whole
    ∙ ap (λ l. l ++ (b ++ drop (at + length a) ((front ++ a) ++ back))) (take_at (front ++ a) back (at + length a) n)
    ∙ ap (λ l. (front ++ a) ++ (b ++ l)) (drop_at (front ++ a) back (at + length a) n)
    ∙ append_assoc front a (b ++ back)
    ∙ ap (λ l. front ++ l) (sym (append_assoc a b back))

-- elements put in between others
pub put_between : {X : Type 0} (at : ℕ) (a b new : List X) → length a ≡ at → put_at at new (a ++ b) ≡ a ++ (new ++ b)
put_between at a b new e = ap (λ l. l ++ (new ++ drop at (a ++ b))) (take_at a b at e) ∙ ap (λ l. a ++ (new ++ l)) (drop_at a b at e)

pub put_none : {X : Type 0} (at : ℕ) (xs : List X) → put_at at [] xs ≡ xs
put_none at xs = take-append-drop at xs

pub put_length : {X : Type 0} (at : ℕ) (a xs : List X) → at ≤ length xs → length (put_at at a xs) ≡ length xs + length a
put_length at a xs le =
    let p = length-append (take at xs) (a ++ drop at xs) in
    let q = length-append a (drop at xs) in
    let r = length-take-le at xs le in
    let s = length-drop at xs in
    omega (arith, p, q, r, s, le)

-- the last cells
pub ends_later : (text : List ℕ) (cells : List (Cell ℕ)) (k : ℕ) → k ≤ length cells → EndsWith text cells → EndsWith text (drop k cells)
ends_later text cells k le e =
    let l = length-drop k cells in
    let n : length text - length (drop k cells) ≡ length text - length cells + k = omega (arith, l, le, e.long) in
    record {
      long = omega (arith, l, e.long);
      last = ap (λ i. drop i text) n ∙ sym (drop-drop k (length text - length cells) text) ∙ ap (drop k) e.last ∙ drop-map (λ (c : Cell ℕ). c.ch) k cells;
    }

-- so many cells have been put in, in so many runs
pub record IsSpliced (text : List ℕ) (old now : List Run) (at done more lone : ℕ) (cells : List (Cell ℕ)) : Type 0 where
  pub low : done ≤ length cells
  pub edge : IsEdge (lengths now) (at + done)
  pub changed : AreChanged old now text (put_at at (take done cells))
  pub runs : length now ≡ length old + more
  pub most : more ≤ done
  pub apart : AreApart now
  pub few : AreOnce (cells_of_runs text old) cells → (more + stretch_count (drop done cells) ≤ stretch_count cells) × (lone ≡ 0)

pub none_spliced : (text : List ℕ) (old : List Run) (at : ℕ) (cells : List (Cell ℕ)) → AllByRecursion (IsRun text) old → IsEdge (lengths old) at → AreApart old → IsSpliced text old old at 0 0 0 cells
none_spliced text old at cells all edge apart =
    let z : at ≡ at + 0 = omega arith in
    record {
      low = omega arith;
      edge = subst (IsEdge (lengths old)) z edge;
      changed = record { kept = all; cells = sym (put_none at (cells_of_runs text old)) };
      runs = omega arith;
      most = omega arith;
      apart = apart;
      few = λ once. (omega arith, refl);
    }

module _ (text : List ℕ) (old now : List Run) (at done more lone : ℕ) (cells : List (Cell ℕ)) (all : AllByRecursion (IsRun text) old) (short : length text ≤ MOST_CELLS) (few : (counts_of old).cells + length cells ≤ MOST_CELLS) (within : at < (counts_of old).cells) (is : IsSpliced text old now at done more lone cells) where
  -- there are as many cells more
  pub spliced_cells : (counts_of now).cells ≡ (counts_of old).cells + done
  spliced_cells =
      let a = counted text old all in
      let b = counted text now is.changed.kept in
      let c = ap length is.changed.cells ∙ put_length at (take done cells) (cells_of_runs text old) (omega (arith, a.cells, within)) in
      let d = length-take-le done cells is.low in
      omega (arith, a.cells, b.cells, c, d)

  now_kept : AreRunsOfText now
  now_kept = record { text = text; short = short; runs = is.changed.kept }

  pub spliced_within : at + done < (counts_of now).cells
  spliced_within = omega (arith, spliced_cells, within)

  pub spliced_few : (counts_of now).cells ≤ MOST_CELLS
  spliced_few = omega (arith, spliced_cells, few, is.low)

  pub spliced_low : (m : Memory) (root : ℕ) → IsTree m root → tree_runs m root ≡ now → level_of m root + 1 < 2 ^ 32
  spliced_low m root t e = low_tree m root t (subst AreRunsOfText (sym e) now_kept) (subst (λ (l : List Run). (counts_of l).cells ≤ MOST_CELLS) (sym e) spliced_few)

  pub spliced_runs : length now ≤ length old + length cells
  spliced_runs = omega (arith, is.runs, is.most, is.low)

  pub spliced_once : AreOnce (cells_of_runs text old) cells → AreOnce (cells_of_runs text now) (drop done cells)
  spliced_once once stamp =
      let h = once stamp in
      let a = ap (occurrences stamp) is.changed.cells ∙ occurs-put stamp at (take done cells) (cells_of_runs text old) in
      let b = occurs-parts stamp done cells in
      omega (arith, h, a, b)

  module _ (run : Run) (rest : IsFrontOf text (drop done cells) run) where
    within_rest : run.len + done ≤ length cells
    within_rest = let l = length-drop done cells in let w = rest.within in omega (arith, l, w, is.low)

    pub spliced_with : AreFew (plus (counts_of_run run) (counts_of now))
    spliced_with = few_with run now rest.run.some (omega (arith, within_rest, few)) now_kept spliced_few

    module _ (new : List Run) (put : IsPutAt now new (at + done) run) where
      first : (put.offset ≡ 0) × ((counts_of put.was.left).cells ≡ at + done)
      first = stands_first now put.next put.front put.offset (at + done) put.was is.edge

      new_kept : AllByRecursion (IsRun text) new
      new_kept =
          subst (AllByRecursion (IsRun text)) (sym put.is)
          (kept_more text put.was.left run (put.next ∷ put.was.right) rest.run (subst (AllByRecursion (IsRun text)) put.was.here is.changed.kept))

      new_edge : IsEdge (lengths new) (at + (done + run.len))
      new_edge =
          let e = counts_mid put.was.left run [] in
          subst (λ (l : List Run). IsEdge (lengths l) (at + (done + run.len))) (append_assoc put.was.left (run ∷ []) (put.next ∷ put.was.right) ∙ sym put.is)
          (edge_there (put.was.left ++ run ∷ []) (put.next ∷ put.was.right) (at + (done + run.len)) (omega (arith, e, first.1)))

      new_cells : cells_of_runs text new ≡ put_at at (take (done + run.len) cells) (cells_of_runs text old)
      new_cells =
          let left = cells_of_runs text put.was.left in
          let right = cells_of_runs text (put.next ∷ put.was.right) in
          let a = counted text old all in
          let l = counted_left text now put.next put.front put.offset (at + done) is.changed.kept put.was.left put.was.right put.was.here in
          let long : length left ≡ at + done = l.cells ∙ first.1 in
          let d = length-take-le done cells is.low in
          let was : left ++ right ≡ put_at at (take done cells) (cells_of_runs text old) = sym (cells_around_left put.was.left (put.next ∷ put.was.right)) ∙ ap (cells_of_runs text) (sym put.was.here) ∙ is.changed.cells in
          let n : at + done ≡ at + length (take done cells) = ap (λ i. at + i) (sym d) in
          ap (cells_of_runs text) put.is
          ∙ cells_mid text put.was.left run (put.next ∷ put.was.right)
          ∙ ap (λ m. left ++ (m ++ right)) rest.same
          ∙ sym (put_between (at + done) left right (take run.len (drop done cells)) long)
          ∙ ap (put_at (at + done) (take run.len (drop done cells))) was
          ∙ ap (λ i. put_at i (take run.len (drop done cells)) (put_at at (take done cells) (cells_of_runs text old))) n
          ∙ put_more at (take done cells) (take run.len (drop done cells)) (cells_of_runs text old) (omega (arith, a.cells, within))
          ∙ ap (λ c. put_at at c (cells_of_runs text old)) (sym (take-add done run.len cells))
        where
          cells_around_left : (a b : List Run) → cells_of_runs text (a ++ b) ≡ cells_of_runs text a ++ cells_of_runs text b
          cells_around_left [] b = refl
          cells_around_left (x ∷ a) b = ap (λ l. run_cells text x ++ l) (cells_around_left a b) ∙ sym (append_assoc (run_cells text x) (cells_of_runs text a) (cells_of_runs text b))

      pub more_spliced : (lone' : ℕ) → AreApart (run ∷ now) → (lone ≡ 0 → AreOnce (cells_of_runs text now) (drop done cells) → IsStretch (drop done cells) run.len × (lone' ≡ 0)) → IsSpliced text old new at (done + run.len) (more + 1) lone' cells
      more_spliced lone' apart chosen =
          let a = ap length put.is ∙ length-append put.was.left (run ∷ put.next ∷ put.was.right) in
          let b = ap length put.was.here ∙ length-append put.was.left (put.next ∷ put.was.right) in
          let d = ap stretch_count (drop-drop run.len done cells) in
          let some = rest.run.some in
          record {
            low = omega (arith, within_rest);
            edge = new_edge;
            changed = record { kept = new_kept; cells = new_cells };
            runs = omega (arith, a, b, is.runs);
            most = (let m = is.most in omega (arith, m, some));
            apart = apart_put now new (at + done) run put apart;
            few = λ once. (let f = is.few once in let c = chosen f.1 (spliced_once once) in let s = c.0.longest in let g = f.0 in (omega (arith, g, s, d), c.1));
          }

      -- it ends there, and its characters are the last of those that are in
      pub new_ends : length cells ≤ length text → EndsThere new (at + (done + run.len)) (length text - length cells + (done + run.len))
      new_ends long =
          let l = length-drop done cells in
          let b = rest.at in
          record { left = put.was.left; run = run; right = put.next ∷ put.was.right; here = put.is; some = rest.run.some; end = omega (arith, first.1); stands = omega (arith, l, b, long, is.low) }

      pub fewer_cells : length cells - (done + run.len) < length cells - done
      fewer_cells = omega (arith, rest.run.some, within_rest)

-- all are in
pub all_spliced : (text : List ℕ) (old now : List Run) (at done more lone : ℕ) (cells : List (Cell ℕ)) → IsSpliced text old now at done more lone cells → length cells ≤ done → AreChanged old now text (put_at at cells) × (AreOnce (cells_of_runs text old) cells → more ≤ stretch_count cells)
all_spliced text old now at done more lone cells is end =
    (record { kept = is.changed.kept; cells = is.changed.cells ∙ ap (λ l. put_at at l (cells_of_runs text old)) (take_all done cells end) }, λ once. (let f = (is.few once).0 in omega (arith, f)))

-- A RUN THAT GOES ON

module _ (text : List ℕ) (old : List Run) (at : ℕ) (cells : List (Cell ℕ)) (all : AllByRecursion (IsRun text) old) (run b : Run) (front : Counts) (offset : ℕ) (st : StandsAt Cells old run front offset (at - 1)) (some : 0 < at) (last : offset + 1 ≡ run.len) (rest : IsRunOf text cells b) (j : are_joint run b ≡ true) where
  there : IsRun text run
  there = is_run text old run front offset (at - 1) all st.left st.right st.here

  left_cells : (counts_of st.left).cells + offset ≡ at - 1
  left_cells = let f = ap (λ (c : Counts). c.cells) st.before in omega (arith, f, st.at)

  module _ (new : List Run) (rep : IsReplacedAt old new (at - 1) (run_joined run b)) where
    same : IsSameSpot st.left run st.right rep.was.left rep.before rep.was.right
    same =
        let f = ap (λ (c : Counts). c.cells) rep.was.before in
        one_spot st.left run st.right offset rep.was.left rep.before rep.was.right rep.offset (sym st.here ∙ rep.was.here) (omega (arith, left_cells, f, rep.was.at)) st.inside rep.was.inside

    pub new_is : new ≡ st.left ++ run_joined run b ∷ st.right
    new_is = rep.is ∙ ap (λ l. l ++ run_joined run b ∷ rep.was.right) (sym same.left) ∙ ap (λ l. st.left ++ run_joined run b ∷ l) (sym same.right)

    extended_cells : cells_of_runs text new ≡ put_at at (take b.len cells) (cells_of_runs text old)
    extended_cells =
        let left = cells_of_runs text st.left in let mid = run_cells text run in let right = cells_of_runs text st.right in
        let l = counted_left text old run front offset (at - 1) all st.left st.right st.here in
        let m = run_length text run there in
        let long : length (left ++ mid) ≡ at = (let p = length-append left mid in omega (arith, p, l.cells, left_cells, m, last, some)) in
        ap (cells_of_runs text) new_is
        ∙ cells_mid text st.left (run_joined run b) st.right
        ∙ ap (λ c. left ++ (c ++ right)) (joined_cells text run b there rest.front.run (joint_true run b j) ∙ ap (λ c. mid ++ c) rest.front.same)
        ∙ ap (λ c. left ++ c) (append_assoc mid (take b.len cells) right)
        ∙ sym (append_assoc left mid (take b.len cells ++ right))
        ∙ sym (put_between at (left ++ mid) right (take b.len cells) long)
        ∙ ap (put_at at (take b.len cells)) (append_assoc left mid right ∙ sym (cells_mid text st.left run st.right) ∙ ap (cells_of_runs text) (sym st.here))

    pub extended : AreChanged old new text (put_at at (take b.len cells))
    extended = record {
      kept = subst (AllByRecursion (IsRun text)) (sym new_is) (kept_set text st.left run (run_joined run b) st.right (λ is. joined_run text run b is rest.front.run (joint_true run b j)) (subst (AllByRecursion (IsRun text)) st.here all));
      cells = extended_cells;
    }

    pub extended_apart : AreApart old → list_any (is_shared_by (if run.len == 1 then run_joined run b else b)) old ≡ false → AreApart new
    extended_apart is apart =
        subst AreApart (sym new_is)
        (apart_joined run b st.left st.right j there.some (subst (λ (l : List Run). list_any (is_shared_by (if run.len == 1 then run_joined run b else b)) l ≡ false) st.here apart) (subst AreApart st.here is))

-- THE CELLS THAT ARE LEFT

pub rest_is : {X : Type 0} (k : ℕ) (xs : List X) → k ≤ length xs → take (length xs - k) (drop k xs) ≡ drop k xs
rest_is k xs le = let l = length-drop k xs in take_all (length xs - k) (drop k xs) (omega (arith, l))

pub ends_now : (text : List ℕ) (cells : List (Cell ℕ)) → EndsWith (text ++ map (λ (c : Cell ℕ). c.ch) cells) cells
ends_now text cells =
    let m = map (λ (c : Cell ℕ). c.ch) cells in
    let l = length-map cells (λ (c : Cell ℕ). c.ch) in
    let a = length-append text m in
    record { long = omega (arith, l, a); last = drop_at text m (length (text ++ m) - length cells) (omega (arith, l, a)) }

module _ (text : List ℕ) (old m1 : List Run) (at k : ℕ) (cells : List (Cell ℕ)) (all : AllByRecursion (IsRun text) old) (is : AreChanged old m1 text (put_at at (take k cells))) (low : k ≤ length cells) (within : at < (counts_of old).cells) where
  pub put_count : (counts_of m1).cells ≡ (counts_of old).cells + k
  put_count =
      let a = counted text old all in
      let b = counted text m1 is.kept in
      let c = ap length is.cells ∙ put_length at (take k cells) (cells_of_runs text old) (omega (arith, a.cells, within)) in
      let d = length-take-le k cells low in
      omega (arith, a.cells, b.cells, c, d)

  module _ (m2 : List Run) (cut : IsRecut m1 m2) where
    pub rest_once : AreOnce (cells_of_runs text old) cells → AreOnce (cells_of_runs text m2) (drop k cells)
    rest_once once stamp =
        let h = once stamp in
        let a = ap (occurrences stamp) (cut.cells text is.kept ∙ is.cells) ∙ occurs-put stamp at (take k cells) (cells_of_runs text old) in
        let b = occurs-parts stamp k cells in
        omega (arith, h, a, b)

    pub cut_count : (counts_of m2).cells ≡ (counts_of old).cells + k
    cut_count =
        let a = counted text m1 is.kept in
        let b = counted text m2 (cut.kept text is.kept) in
        let c = ap length (cut.cells text is.kept) in
        omega (arith, a.cells, b.cells, c, put_count)

    pub put_twice : (new : List Run) → AreChanged m2 new text (put_at (at + k) (drop k cells)) → AreChanged old new text (put_at at cells)
    put_twice new rest =
        let a = counted text old all in
        let front = take k cells in
        let d = length-take-le k cells low in
        let n : at + k ≡ at + length front = ap (λ i. at + i) (sym d) in
        record {
          kept = rest.kept;
          cells =
              (rest.cells
              ∙ ap (put_at (at + k) (drop k cells)) (cut.cells text is.kept ∙ is.cells)
              ∙ ap (λ i. put_at i (drop k cells) (put_at at front (cells_of_runs text old))) n
              ∙ put_more at front (drop k cells) (cells_of_runs text old) (omega (arith, a.cells, within))
              ∙ ap (λ l. put_at at l (cells_of_runs text old)) (take-append-drop k cells));
        }

-- A LONGER TEXT

module _ (text longer : List ℕ) (old : List Run) (cells : List (Cell ℕ)) (kept : AllByRecursion (IsRun text) old) (more : longer ≡ text ++ map (λ (c : Cell ℕ). c.ch) cells) where
  abbrev new_characters : List ℕ
  new_characters = map (λ (c : Cell ℕ). c.ch) cells

  pub longer_kept : AllByRecursion (IsRun longer) old
  longer_kept = subst (λ (t : List ℕ). AllByRecursion (IsRun t) old) (sym more) (grown_kept text new_characters old kept)

  pub longer_ends : EndsWith longer cells
  longer_ends = subst (λ (t : List ℕ). EndsWith t cells) (sym more) (ends_now text cells)

  pub longer_text : length longer ≡ length text + length cells
  longer_text = ap length more ∙ length-append text new_characters ∙ ap (λ n. length text + n) (length-map cells (λ (c : Cell ℕ). c.ch))

  pub longer_cells : cells_of_runs longer old ≡ cells_of_runs text old
  longer_cells = ap (λ (t : List ℕ). cells_of_runs t old) more ∙ grown_cells text new_characters old kept

  pub longer_shown : (new : List Run) (at : ℕ) → AreChanged old new longer (put_at at cells) → cells_of_runs longer new ≡ put_at at cells (cells_of_runs text old)
  longer_shown new at is = is.cells ∙ ap (put_at at cells) longer_cells

  pub longer_count : (new : List Run) (at : ℕ) → AreChanged old new longer (put_at at cells) → at < (counts_of old).cells → (counts_of new).cells ≡ (counts_of old).cells + length cells
  longer_count new at is within =
      let a = counted longer old longer_kept in
      let b = counted longer new is.kept in
      let c = ap length is.cells ∙ put_length at cells (cells_of_runs longer old) (omega (arith, a.cells, within)) in
      omega (arith, a.cells, b.cells, c)
