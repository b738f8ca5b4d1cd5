-- What an operation does to the visible text with its tags.
use Rattle.std.proofs.Common.{◌≡◌, ℕ, ◌+◌, List, [], ◌∷◌, ◌++◌, Bool, true, false, cond, not, ◌&&◌, All, length, map, take, drop, refl, sym, ◌∙◌, ap, arith, take-append-drop}
use Rattle.std.specs.List.{flat_map}
use Rattle.std.proofs.Math.Seq.{drop-append_seam, take-append_seam}
use Rattle.std.proofs.lemmas.List.{length-map, map-append}
use Rattle.std.proofs.lemmas.List.Concat.{flat_map_single}
use Rattle.std.proofs.lemmas.List.Elements.{All-head, All-tail, filter-append}
use Rattle.rt_stamps.specs.declared.stamp.Span.{Span}
use Rattle.rt_stamps.specs.declared.stamp.Stamp.{Stamp}
use Rattle.rt_stamps.specs.declared.stamp.TheConstants.{ROOT}
use Rattle.rt_ops.specs.Operations.{Body, Insert, Delete, Tag, Name, Operation, stamp_of}
use Rattle.rt_ops.specs.Rules.{keeps_rules}
use Rattle.rt_oplog.specs.Logs.{with_operation}
use Rattle.rt_store.specs.Cells.{cells_from, put_at, skip_from, visible_before, visible_of}
use Rattle.rt_store.specs.Shown.{TaggedCell}
use Rattle.rt_store.specs.Spans.{gone_in_any, is_in_spans}
use Rattle.rt_tags.specs.States.{IsByName, Write, is_on, is_settled, names_on, written}
use Rattle.rt_tags.specs.Writers.{listed_by, state_after}
use Rattle.rt_tags.proofs.Places.{split}
use Rattle.rt_rga.specs.Cells.{cells_of, writes_on}
use Rattle.rt_rga.specs.Changes.{changed_by, with_write, written_in_any}
use Rattle.rt_rga.specs.Histories.{Continues, IsHistory}
use Rattle.rt_rga.specs.Taken.{changes_tag, differ, is_in_runs, place_by, retags, takes_away}
use Rattle.rt_rga.specs.Texts.{TaggedCharacter, tagged_text}
use Rattle.rt_rga.specs.declared.taken.PlaceRun.{PlaceRun}
use Rattle.rt_rga.proofs.Merging.{cells_with}
use Rattle.rt_rga.proofs.Texts.{all_cells_of}
use Rattle.rt_rga.proofs.Writes.{state_sorted}
use Rattle.rt_changes.specs.Replays.{Deleted, Tagged, all_under, changed_at, left_at, replayed, runs_of, body_changes, changes_of, tagged_with, tags_with}
use Rattle.rt_changes.proofs.Places.{changed_each, each_alike, each_at, each_passing, left_each}
use Rattle.rt_changes.proofs.Runs.{run_by_run, runs_each, runs_fall, runs_have}
use Rattle.rt_changes.proofs.TagNames.{new_tags, same_tags, written_tags}

-- a cell as a character with its tags
abbrev pub shows : TaggedCell → TaggedCharacter
shows cell = record { ch = cell.ch; tags = names_on cell.state }

abbrev pub AreByName : List TaggedCell → Type 0
AreByName cells = All (λ (cell : TaggedCell). IsByName cell.state) cells

-- INSERT

-- what is seen of the visible cells
module _ {X : Type 0} (f : TaggedCell → X) where
  abbrev pub view : List TaggedCell → List X
  view cells = map f (visible_of cells)

  view_parts : (front back : List TaggedCell) → view (front ++ back) ≡ view front ++ view back
  view_parts front back = ap (map f) (filter-append (λ cell. not cell.gone) front back) ∙ map-append f (visible_of front) (visible_of back)

  pub put_view : (n : ℕ) (new cells : List TaggedCell) → view (put_at n new cells) ≡ put_at (visible_before cells n) (view new) (view cells)
  put_view n new cells =
      let front = take n cells in
      let back = drop n cells in
      let whole : view cells ≡ view front ++ view back = ap view (sym (take-append-drop n cells)) ∙ view_parts front back in
      let long : length (view front) ≡ visible_before cells n = length-map (visible_of front) f in
      let taken : take (visible_before cells n) (view cells) ≡ view front = (λ i. take (sym long i) (whole i)) ∙ take-append_seam (view front) (view back) in
      let left : drop (visible_before cells n) (view cells) ≡ view back = (λ i. drop (sym long i) (whole i)) ∙ drop-append_seam (view front) (view back) in
      view_parts front (new ++ back)
      ∙ ap (λ l. view front ++ l) (view_parts new back)
      ∙ sym (λ i. taken i ++ (view new ++ left i))

new_text : (count site : ℕ) (state : List Write) (text : List ℕ) → tagged_text (cells_from count site state text) ≡ all_under (names_on state) text
new_text count site state [] = refl
new_text count site state (c ∷ text) = ap (λ l. record { ch = c; tags = names_on state } ∷ l) (new_text (count + 1) site state text)

insert_text : (stamp after : Stamp) (tags : List Name) (text : List ℕ) (cells : List TaggedCell) → keeps_rules (Insert after tags text) ≡ true
    → tagged_text (changed_by stamp (Insert after tags text) cells) ≡ put_at (place_by stamp (Insert after tags text) cells) (all_under tags text) (tagged_text cells)
insert_text stamp after tags text cells rules =
    let state = state_after [] (listed_by ROOT tags) in
    put_view shows (skip_from cells after stamp) (cells_from stamp.count stamp.site state text) cells
    ∙ ap (λ l. put_at (visible_before cells (skip_from cells after stamp)) l (tagged_text cells))
    (new_text stamp.count stamp.site state text ∙ ap (λ n. all_under n text) (new_tags ROOT after tags text rules))

-- DELETE

module _ {X : Type 0} (f : TaggedCell → X) (spans : List Span) where
  abbrev left_of : TaggedCell → List X
  left_of v = cond (is_in_spans spans v.stamp) [] (f v ∷ [])

  gone_view : (cells : List TaggedCell) → view f (map (gone_in_any spans) cells) ≡ flat_map left_of (visible_of cells)
  gone_view [] = refl
  gone_view (c ∷ cs) = by (is_in_spans spans c.stamp) refl (gone_view cs)
    where
      ws : List TaggedCell
      ws = visible_of (map (gone_in_any spans) cs)

      by : (b : Bool) → is_in_spans spans c.stamp ≡ b → map f ws ≡ flat_map left_of (visible_of cs)
          → map f (cond (not (cond b (record c { gone = true }) c).gone) (cond b (record c { gone = true }) c ∷ ws) ws) ≡ flat_map left_of (cond (not c.gone) (c ∷ visible_of cs) (visible_of cs))
      by true e ih = at c.gone
        where
          at : (g : Bool) → map f ws ≡ flat_map left_of (cond (not g) (c ∷ visible_of cs) (visible_of cs))
          at true = ih
          at false = ih ∙ ap (λ b. cond b [] (f c ∷ []) ++ flat_map left_of (visible_of cs)) (sym e)
      by false e ih = at c.gone
        where
          at : (g : Bool) → map f (cond (not g) (c ∷ ws) ws) ≡ flat_map left_of (cond (not g) (c ∷ visible_of cs) (visible_of cs))
          at true = ih
          at false = ap (λ l. f c ∷ l) ih ∙ ap (λ b. cond b [] (f c ∷ []) ++ flat_map left_of (visible_of cs)) (sym e)

  pub delete_view : (cells : List TaggedCell) → view f (map (gone_in_any spans) cells) ≡ left_at (takes_away (Delete spans) cells) 0 (view f cells)
  delete_view cells =
      gone_view cells
      ∙ sym (left_each (takes_away (Delete spans) cells) 0 (view f cells)
      ∙ each_passing (λ x. []) f (λ cell. is_in_spans spans cell.stamp) (takes_away (Delete spans) cells) 0 (visible_of cells) (λ i. let same : 0 + i ≡ i = omega arith in ap (takes_away (Delete spans) cells) same))

-- TAG

module _ (stamp : Stamp) (on : Bool) (name : Name) (spans : List Span) where
  abbrev w : Write
  w = record { name = name; writer = stamp; on = on }

  -- what a cell shows after the Tag
  cell_text : (c : TaggedCell) → IsByName c.state → shows (written_in_any spans w c) ≡ cond (changes_tag stamp (Tag on name spans) c) (tagged_with on name (shows c)) (shows c)
  cell_text c sorted = split (is_in_spans spans c.stamp)
      (λ t. split (is_settled w c.state)
      (λ s. rw t (rw s refl))
      (λ u. ap (λ b. shows (cond b (with_write w c) c)) t ∙ newer u
      ∙ sym (ap (λ b. cond (b && (not (is_settled w c.state) && differ on (is_on name c.state))) (tagged_with on name (shows c)) (shows c)) t
      ∙ ap (λ b. cond (not b && differ on (is_on name c.state)) (tagged_with on name (shows c)) (shows c)) u)))
      (λ n. rw n refl)
    where
      cases : (b is : Bool) → (ts : List Name) → ts ≡ tags_with b name (names_on c.state) → (is ≡ b → tags_with b name (names_on c.state) ≡ names_on c.state)
          → ◌≡◌ {A = TaggedCharacter} (record { ch = c.ch; tags = ts }) (cond (differ b is) (tagged_with b name (shows c)) (shows c))
      cases true true ts e k = ap (λ (l : List Name). record { ch = c.ch; tags = l }) (e ∙ k refl)
      cases true false ts e k = ap (λ (l : List Name). record { ch = c.ch; tags = l }) e
      cases false true ts e k = ap (λ (l : List Name). record { ch = c.ch; tags = l }) e
      cases false false ts e k = ap (λ (l : List Name). record { ch = c.ch; tags = l }) (e ∙ k refl)

      newer : is_settled w c.state ≡ false → shows (with_write w c) ≡ cond (differ on (is_on name c.state)) (tagged_with on name (shows c)) (shows c)
      newer u = cases on (is_on name c.state) (names_on (written w c.state)) (written_tags w c.state u) (same_tags name on c.state sorted)

  abbrev h : TaggedCell → List TaggedCharacter
  h v = cond (changes_tag stamp (Tag on name spans) v) (tagged_with on name (shows v) ∷ []) (shows v ∷ [])

  step : (k c : TaggedCell) (ws vs : List TaggedCell) → k.gone ≡ c.gone → shows k ∷ [] ≡ h c → map shows ws ≡ flat_map h vs
      → map shows (cond (not k.gone) (k ∷ ws) ws) ≡ flat_map h (cond (not c.gone) (c ∷ vs) vs)
  step k c ws vs e p ih = ap (λ g. map shows (cond (not g) (k ∷ ws) ws)) e ∙ by c.gone
    where
      by : (g : Bool) → map shows (cond (not g) (k ∷ ws) ws) ≡ flat_map h (cond (not g) (c ∷ vs) vs)
      by true = ih
      by false = λ i. p i ++ ih i

  retagged_text : (cells : List TaggedCell) → AreByName cells → tagged_text (map (written_in_any spans w) cells) ≡ flat_map h (visible_of cells)
  retagged_text [] s = refl
  retagged_text (c ∷ cs) s =
      step (written_in_any spans w c) c (visible_of (map (written_in_any spans w) cs)) (visible_of cs)
      (gone (is_in_spans spans c.stamp))
      (ap (λ x. x ∷ []) (cell_text c (All-head (λ (cell : TaggedCell). IsByName cell.state) c cs s)) ∙ one (changes_tag stamp (Tag on name spans) c))
      (retagged_text cs (All-tail (λ (cell : TaggedCell). IsByName cell.state) c cs s))
    where
      gone : (b : Bool) → (cond b (with_write w c) c).gone ≡ c.gone
      gone true = refl
      gone false = refl

      one : (b : Bool) → cond b (tagged_with on name (shows c)) (shows c) ∷ [] ≡ cond b (tagged_with on name (shows c) ∷ []) (shows c ∷ [])
      one true = refl
      one false = refl

  pub tag_text : (cells : List TaggedCell) → AreByName cells
      → tagged_text (changed_by stamp (Tag on name spans) cells) ≡ changed_at (retags stamp (Tag on name spans) cells) (tagged_with on name) 0 (tagged_text cells)
  tag_text cells s =
      retagged_text cells s
      ∙ sym (changed_each (retags stamp (Tag on name spans) cells) (tagged_with on name) 0 (tagged_text cells)
      ∙ each_passing (λ x. tagged_with on name x ∷ []) shows (changes_tag stamp (Tag on name spans)) (retags stamp (Tag on name spans) cells) 0 (visible_of cells)
      (λ i. let same : 0 + i ≡ i = omega arith in ap (retags stamp (Tag on name spans) cells) same))

-- REPLAYED

abbrev nothing_of : TaggedCharacter → List TaggedCharacter
nothing_of x = []

no_element : (xs : List TaggedCharacter) → flat_map nothing_of xs ≡ []
no_element [] = refl
no_element (x ∷ xs) = no_element xs

deleted_runs : (runs : List PlaceRun) (t : List TaggedCharacter) → replayed (map (λ run. Deleted run.from run.to) runs) t ≡ run_by_run nothing_of runs t
deleted_runs [] t = refl
deleted_runs (run ∷ runs) t =
    ap (λ l. replayed (map (λ run. Deleted run.from run.to) runs) (take run.from t ++ (l ++ drop run.to t))) (sym (no_element (drop run.from (take run.to t))))
    ∙ deleted_runs runs (take run.from t ++ (flat_map nothing_of (drop run.from (take run.to t)) ++ drop run.to t))

tagged_runs : (on : Bool) (name : Name) (runs : List PlaceRun) (t : List TaggedCharacter) → replayed (map (λ run. Tagged on name run.from run.to) runs) t ≡ run_by_run (λ x. tagged_with on name x ∷ []) runs t
tagged_runs on name [] t = refl
tagged_runs on name (run ∷ runs) t =
    ap (λ l. replayed (map (λ run. Tagged on name run.from run.to) runs) (take run.from t ++ (l ++ drop run.to t))) (sym (flat_map_single (tagged_with on name) (drop run.from (take run.to t))))
    ∙ tagged_runs on name runs (take run.from t ++ (flat_map (λ x. tagged_with on name x ∷ []) (drop run.from (take run.to t)) ++ drop run.to t))

-- the runs of places, run by run, are the places
all_runs : (g : TaggedCharacter → List TaggedCharacter) (at : ℕ → Bool) (n : ℕ) (t : List TaggedCharacter) → length t ≡ n → run_by_run g (runs_of at n) t ≡ each_at at g 0 t
all_runs g at n t e =
    runs_each g (n + 1) (runs_of at n) t (runs_fall at n) (omega (arith, e))
    ∙ each_alike g (is_in_runs (runs_of at n)) at 0 t (λ q l m. runs_have at n q (omega (arith, m, e)))

replay_by : (stamp : Stamp) (body : Body) (cells : List TaggedCell) → keeps_rules body ≡ true → AreByName cells → replayed (body_changes stamp body cells) (tagged_text cells) ≡ tagged_text (changed_by stamp body cells)
replay_by stamp (Insert after tags text) cells rules s = sym (insert_text stamp after tags text cells rules)
replay_by stamp (Delete spans) cells rules s =
    deleted_runs (runs_of (takes_away (Delete spans) cells) (length (visible_of cells))) (tagged_text cells)
    ∙ all_runs (λ x. []) (takes_away (Delete spans) cells) (length (visible_of cells)) (tagged_text cells) (length-map (visible_of cells) shows)
    ∙ sym (left_each (takes_away (Delete spans) cells) 0 (tagged_text cells))
    ∙ sym (delete_view shows spans cells)
replay_by stamp (Tag on name spans) cells rules s =
    tagged_runs on name (runs_of (retags stamp (Tag on name spans) cells) (length (visible_of cells))) (tagged_text cells)
    ∙ all_runs (λ x. tagged_with on name x ∷ []) (retags stamp (Tag on name spans) cells) (length (visible_of cells)) (tagged_text cells) (length-map (visible_of cells) shows)
    ∙ sym (changed_each (retags stamp (Tag on name spans) cells) (tagged_with on name) 0 (tagged_text cells))
    ∙ sym (tag_text stamp on name spans cells s)

-- HISTORIES

pub by_name : (set : List Operation) → IsHistory set → AreByName (cells_of set)
by_name set h = all_cells_of set h (λ (cell : TaggedCell). IsByName cell.state) (λ c. state_sorted [] (writes_on set c.stamp) tt)

more_text : (set : List Operation) (op : Operation) (body : Body) → op.body ≡ body → IsHistory set → Continues set op → tagged_text (cells_of (with_operation op set)) ≡ tagged_text (changed_by (stamp_of op) body (cells_of set))
more_text set op body e h k = ap tagged_text (cells_with op set h k) ∙ ap (λ b. tagged_text (changed_by (stamp_of op) b (cells_of set))) e

rules_of : (set : List Operation) (op : Operation) (body : Body) → op.body ≡ body → Continues set op → keeps_rules body ≡ true
rules_of set op body e k = ap keeps_rules (sym e) ∙ k.rules

pub inserts_put_in : (set : List Operation) (op : Operation) (after : Stamp) (tags : List Name) (text : List ℕ) → op.body ≡ Insert after tags text → IsHistory set → Continues set op
    → tagged_text (cells_of (with_operation op set)) ≡ put_at (place_by (stamp_of op) op.body (cells_of set)) (all_under tags text) (tagged_text (cells_of set))
inserts_put_in set op after tags text e h k =
    more_text set op (Insert after tags text) e h k
    ∙ insert_text (stamp_of op) after tags text (cells_of set) (rules_of set op (Insert after tags text) e k)
    ∙ ap (λ b. put_at (place_by (stamp_of op) b (cells_of set)) (all_under tags text) (tagged_text (cells_of set))) (sym e)

pub deletes_take_away : (set : List Operation) (op : Operation) (spans : List Span) → op.body ≡ Delete spans → IsHistory set → Continues set op
    → tagged_text (cells_of (with_operation op set)) ≡ left_at (takes_away op.body (cells_of set)) 0 (tagged_text (cells_of set))
deletes_take_away set op spans e h k =
    more_text set op (Delete spans) e h k
    ∙ delete_view shows spans (cells_of set)
    ∙ ap (λ b. left_at (takes_away b (cells_of set)) 0 (tagged_text (cells_of set))) (sym e)

pub tags_retag : (set : List Operation) (op : Operation) (on : Bool) (name : Name) (spans : List Span) → op.body ≡ Tag on name spans → IsHistory set → Continues set op
    → tagged_text (cells_of (with_operation op set)) ≡ changed_at (retags (stamp_of op) op.body (cells_of set)) (tagged_with on name) 0 (tagged_text (cells_of set))
tags_retag set op on name spans e h k =
    more_text set op (Tag on name spans) e h k
    ∙ tag_text (stamp_of op) on name spans (cells_of set) (by_name set h)
    ∙ ap (λ b. changed_at (retags (stamp_of op) b (cells_of set)) (tagged_with on name) 0 (tagged_text (cells_of set))) (sym e)

pub changes_replay : (set : List Operation) (op : Operation) → IsHistory set → Continues set op → replayed (changes_of op (cells_of set)) (tagged_text (cells_of set)) ≡ tagged_text (cells_of (with_operation op set))
changes_replay set op h k = replay_by (stamp_of op) op.body (cells_of set) k.rules (by_name set h) ∙ sym (more_text set op op.body refl h k)
