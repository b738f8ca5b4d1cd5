-- Cells after one more operation.
use Rattle.std.proofs.Common.{◌≡◌, ℕ, zero, suc, Bool, true, false, ◌⊎◌, inl, inr, refl, sym, ap, subst, ◌∙◌, arith, List, [], ◌∷◌, ◌++◌, cond, ◌||◌, map, take, drop}
use Rattle.std.proofs.lemmas.List.{map-append}
use Rattle.std.specs.List.{AllByRecursion, list_any}
use Rattle.rt_stamps.specs.declared.stamp.Span.{Span}
use Rattle.rt_stamps.specs.declared.stamp.Stamp.{Stamp}
use Rattle.rt_stamps.specs.declared.stamp.TheConstants.{FINAL, ROOT}
use Rattle.rt_stamps.specs.Stamps.{is_before, is_same}
use Rattle.rt_stamps.proofs.Order.{same_refl}
use Rattle.rt_store.specs.Cells.{cells_from, put_at, skip_from, stamps_of}
use Rattle.rt_tags.specs.States.{Write, written}
use Rattle.rt_tags.specs.Writers.{listed_by, state_after}
use Rattle.rt_ops.specs.Operations.{Operation, Body, Insert, Delete, Tag, Name, stamp_of}
use Rattle.rt_oplog.specs.Logs.{with_operation}
use Rattle.rt_rga.specs.Reading.{Character, has_stamp, reading, reading_by_stamp, with_characters}
use Rattle.rt_rga.specs.Histories.{characters_from, inserted_by, inserted, has_character, characters, Continues, IsHistory}
use Rattle.rt_rga.specs.Cells.{deletes, is_gone, writes_by, writes_on, cell_in, cells_of}
use Rattle.rt_rga.specs.Changes.{changed, changed_by, written_in_any}
use Rattle.rt_rga.proofs.Skipping.{split, all_weaker}
use Rattle.rt_rga.proofs.Trees.{complete}
use Rattle.rt_rga.proofs.Relation.{reading_is}
use Rattle.rt_rga.proofs.Runs.{AllFresh, sound, stamps_read}
use Rattle.rt_rga.proofs.Continuing.{names, IsKnown, knows, HasText, sound_of}
use Rattle.rt_rga.proofs.Histories.{run_law, history_with, law_insert, continues_from, tree_of, inserted_fresh, characters_with, inserted_new, inserted_range, member_characters, all_from_members, not_final}
use Rattle.rt_store.proofs.Places.{after_skip, skip_is}
use Rattle.rt_store.specs.Spans.{gone_in_any, is_among, is_in_spans, next_stamp}
use Rattle.rt_store.specs.Shown.{TaggedCell}
use Rattle.rt_rga.proofs.Writes.{silent_with, alone_with, tag_with, gone_with, not_gone, not_written}

-- map

pub map_take : {X Y : Type 0} (f : X → Y) (n : ℕ) (xs : List X) → map f (take n xs) ≡ take n (map f xs)
map_take f zero xs = refl
map_take f (suc n) [] = refl
map_take f (suc n) (x ∷ xs) = ap (λ ys. f x ∷ ys) (map_take f n xs)

pub map_drop : {X Y : Type 0} (f : X → Y) (n : ℕ) (xs : List X) → map f (drop n xs) ≡ drop n (map f xs)
map_drop f zero xs = refl
map_drop f (suc n) [] = refl
map_drop f (suc n) (x ∷ xs) = map_drop f n xs

pub map_put : {X Y : Type 0} (f : X → Y) (n : ℕ) (new xs : List X) → map f (put_at n new xs) ≡ put_at n (map f new) (map f xs)
map_put f n new xs =
    map-append f (take n xs) (new ++ drop n xs)
    ∙ ap (λ ys. map f (take n xs) ++ ys) (map-append f new (drop n xs))
    ∙ rw (map_take f n xs, map_drop f n xs)

pub map_same : {X Y : Type 0} (f g : X → Y) (xs : List X) → AllByRecursion (λ x. f x ≡ g x) xs → map f xs ≡ map g xs
map_same f g [] h = refl
map_same f g (x ∷ xs) h = let p = h.0 in let q = map_same f g xs h.1 in cc

pub map_map : {X Y Z : Type 0} (g : Y → Z) (f : X → Y) (xs : List X) → map g (map f xs) ≡ map (λ x. g (f x)) xs
map_map g f [] = refl
map_map g f (x ∷ xs) = ap (λ ys. g (f x) ∷ ys) (map_map g f xs)

pub any_map : {X Y : Type 0} (p : Y → Bool) (f : X → Y) (xs : List X) → list_any p (map f xs) ≡ list_any (λ x. p (f x)) xs
any_map p f [] = refl
any_map p f (x ∷ xs) = ap (λ b. p (f x) || b) (any_map p f xs)

pub all_of : {X : Type 0} (P : X → Type 0) → ((x : X) → P x) → (xs : List X) → AllByRecursion P xs
all_of P f [] = tt
all_of P f (x ∷ xs) = (f x, all_of P f xs)

-- the cells by the reading in one pass
pub cells_are : (set : List Operation) → IsHistory set → cells_of set ≡ map (cell_in set) (reading_by_stamp (characters set))
cells_are set h = ap (map (cell_in set)) (reading_is (characters set) (tree_of set h))

-- cells of characters have their stamps
pub stamps_are : (set : List Operation) (xs : List Character) → stamps_of (map (cell_in set) xs) ≡ stamps_read xs
stamps_are set xs = map_map (λ (cell : TaggedCell). cell.stamp) (cell_in set) xs

same_cell : (stamp : Stamp) (ch : ℕ) (g g' : Bool) (m m' : List Write) → g ≡ g' → m ≡ m'
    → ◌≡◌ {A = TaggedCell} (record { stamp = stamp; ch = ch; gone = g; state = m }) (record { stamp = stamp; ch = ch; gone = g'; state = m' })
same_cell stamp ch g g' m m' p q = λ i. record { stamp = stamp; ch = ch; gone = p i; state = q i }

-- a character as a new cell
abbrev new_cell : List Write → Character → TaggedCell
new_cell state c = record { stamp = c.stamp; ch = c.ch; gone = false; state = state }

new_cells : (state : List Write) (left stamp : Stamp) (text : List ℕ) → map (new_cell state) (characters_from left stamp text) ≡ cells_from stamp.count stamp.site state text
new_cells state left stamp [] = refl
new_cells state left stamp (ch ∷ text) = ap (λ cells. new_cell state (record { stamp = stamp; left = left; ch = ch }) ∷ cells) (new_cells state stamp (next_stamp stamp) text)

-- what is known of a set with one more operation
pub record IsMore (older more : List Operation) (stamp : Stamp) (body : Body) : Type 0 where
  pub gone : (s : Stamp) → is_gone more s ≡ (deletes body s || is_gone older s)
  pub silent : (s : Stamp) → writes_by stamp body s ≡ [] → writes_on more s ≡ writes_on older s
  pub alone : (s : Stamp) → writes_on older s ≡ [] → writes_on more s ≡ writes_by stamp body s
  pub tag : (w : Write) (s : Stamp) → writes_by stamp body s ≡ w ∷ [] → w.writer ≡ stamp → state_after [] (writes_on more s) ≡ written w (state_after [] (writes_on older s))
  pub reads : reading_by_stamp (characters more) ≡ reading_by_stamp (with_characters (inserted_by stamp body) (characters older))

module _ (older more : List Operation) (stamp : Stamp) where
  one_deleted : (spans : List Span) → IsMore older more stamp (Delete spans) → (c : Character) → cell_in more c ≡ gone_in_any spans (cell_in older c)
  one_deleted spans k c =
      same_cell c.stamp c.ch (is_gone more c.stamp) (is_in_spans spans c.stamp || is_gone older c.stamp) (state_after [] (writes_on more c.stamp)) (state_after [] (writes_on older c.stamp))
      (k.gone c.stamp) (ap (state_after []) (k.silent c.stamp refl))
      ∙ elim (is_in_spans spans c.stamp) as (λ t. ◌≡◌ {A = TaggedCell}
      (record { stamp = c.stamp; ch = c.ch; gone = t || is_gone older c.stamp; state = state_after [] (writes_on older c.stamp) })
      (cond t (record { stamp = c.stamp; ch = c.ch; gone = true; state = state_after [] (writes_on older c.stamp) }) (cell_in older c))) [ true ↦ refl | false ↦ refl ]

  one_tagged : (on : Bool) (name : Name) (spans : List Span) → IsMore older more stamp (Tag on name spans) → (c : Character)
      → cell_in more c ≡ written_in_any spans (record { name = name; writer = stamp; on = on }) (cell_in older c)
  one_tagged on name spans k c = split (is_in_spans spans c.stamp)
      (λ e. rw e (same_cell c.stamp c.ch (is_gone more c.stamp) (is_gone older c.stamp) (state_after [] (writes_on more c.stamp)) (written (record { name = name; writer = stamp; on = on }) (state_after [] (writes_on older c.stamp)))
      (k.gone c.stamp) (k.tag (record { name = name; writer = stamp; on = on }) c.stamp (rw e refl) refl)))
      (λ e. rw e (same_cell c.stamp c.ch (is_gone more c.stamp) (is_gone older c.stamp) (state_after [] (writes_on more c.stamp)) (state_after [] (writes_on older c.stamp))
      (k.gone c.stamp) (ap (state_after []) (k.silent c.stamp (rw e refl)))))

  module _ (after : Stamp) (tags : List Name) (text : List ℕ) (k : IsMore older more stamp (Insert after tags text)) where
    one_kept : (c : Character) → has_stamp (characters_from after stamp text) c.stamp ≡ false → cell_in more c ≡ cell_in older c
    one_kept c n =
        same_cell c.stamp c.ch (is_gone more c.stamp) (is_gone older c.stamp) (state_after [] (writes_on more c.stamp)) (state_after [] (writes_on older c.stamp))
        (k.gone c.stamp) (ap (state_after []) (k.silent c.stamp (rw n refl)))

    one_new : (c : Character) → has_stamp (characters_from after stamp text) c.stamp ≡ true → is_gone older c.stamp ≡ false → writes_on older c.stamp ≡ []
        → cell_in more c ≡ new_cell (state_after [] (listed_by ROOT tags)) c
    one_new c n g m =
        let ws : writes_by stamp (Insert after tags text) c.stamp ≡ listed_by ROOT tags = rw n refl in
        same_cell c.stamp c.ch (is_gone more c.stamp) false (state_after [] (writes_on more c.stamp)) (state_after [] (listed_by ROOT tags))
        (k.gone c.stamp ∙ g) (ap (state_after []) (k.alone c.stamp m ∙ ws))

    put : (n : ℕ) (xs : List Character) → n ≡ after_skip after stamp (stamps_read xs) → (is_among (stamps_read xs) after ≡ true) ⊎ (after ≡ ROOT)
        → AllByRecursion (λ c. has_stamp (characters_from after stamp text) c.stamp ≡ false) xs
        → AllByRecursion (λ c. (has_stamp (characters_from after stamp text) c.stamp ≡ true) × (is_gone older c.stamp ≡ false) × (writes_on older c.stamp ≡ [])) (characters_from after stamp text)
        → map (cell_in more) (put_at n (characters_from after stamp text) xs) ≡ changed_by stamp (Insert after tags text) (map (cell_in older) xs)
    put n xs e known old new =
        let ms = characters_from after stamp text in
        let state = state_after [] (listed_by ROOT tags) in
        let p : map (cell_in more) ms ≡ cells_from stamp.count stamp.site state text = map_same (cell_in more) (new_cell state) ms
        (all_weaker (λ c. (has_stamp (characters_from after stamp text) c.stamp ≡ true) × (is_gone older c.stamp ≡ false) × (writes_on older c.stamp ≡ []))
        (λ c. cell_in more c ≡ new_cell state c) (λ c h. one_new c h.0 h.1 h.2) ms new) ∙ new_cells state after stamp text in
        let q : map (cell_in more) xs ≡ map (cell_in older) xs = map_same (cell_in more) (cell_in older) xs
        (all_weaker (λ c. has_stamp (characters_from after stamp text) c.stamp ≡ false) (λ c. cell_in more c ≡ cell_in older c) (λ c h. one_kept c h) xs old) in
        let i : stamps_of (map (cell_in older) xs) ≡ stamps_read xs = stamps_are older xs in
        let r : n ≡ skip_from (map (cell_in older) xs) after stamp = e ∙ ap (after_skip after stamp) (sym i)
        ∙ sym (skip_is (map (cell_in older) xs) after stamp (rw i known)) in
        map_put (cell_in more) n ms xs
        ∙ ap (λ ys. put_at n ys (map (cell_in more) xs)) p
        ∙ ap (λ ys. put_at n (cells_from stamp.count stamp.site state text) ys) q
        ∙ ap (λ m. put_at m (cells_from stamp.count stamp.site state text) (map (cell_in older) xs)) r

  module _ (h : IsHistory older) where
    left_known : (after : Stamp) → (has_character older after ≡ true) ⊎ (after ≡ ROOT) → (is_among (stamps_read (reading_by_stamp (characters older))) after ≡ true) ⊎ (after ≡ ROOT)
    left_known after k = elim k [
      | inl i ↦ inl (any_map (λ other. is_same other after) (λ c. c.stamp) (reading_by_stamp (characters older))
          ∙ complete (characters older) (tree_of older h) after (member_characters older after ∙ grind (arith, i)))
      | inr i ↦ inr i
    ]

    changed_cells : (body : Body) → IsMore older more stamp body → HasText body → ((s : Stamp) → names body s ≡ true → is_before s stamp ≡ true)
        → ((s : Stamp) → names body s ≡ true → IsKnown older body s) → AllFresh (inserted_by stamp body) (characters older)
        → ((s : Stamp) → has_stamp (inserted_by stamp body) s ≡ true → (has_character older s ≡ false) × (is_same FINAL s ≡ false))
        → map (cell_in more) (reading_by_stamp (characters more)) ≡ changed_by stamp body (map (cell_in older) (reading_by_stamp (characters older)))
    changed_cells (Insert after tags text) k t n w f new =
        ap (map (cell_in more)) (k.reads ∙ run_law older stamp after tags text h t n w f)
        ∙ put after tags text k (after_skip after stamp (stamps_read (reading_by_stamp (characters older)))) (reading_by_stamp (characters older)) refl
        (left_known after (w after (rw (same_refl after))))
        (all_from_members (λ s. has_stamp (characters_from after stamp text) s ≡ false) (reading_by_stamp (characters older))
        (λ s m. split (has_stamp (characters_from after stamp text) s)
        (λ e. absurd (let (i, j) = new s e in
        let l : has_stamp (characters older) s ≡ false = member_characters older s ∙ grind (arith, i, j) in
        let o = sound (characters older) s l in cc (o, m)))
        (λ e. e)))
        (all_from_members (λ s. (has_stamp (characters_from after stamp text) s ≡ true) × (is_gone older s ≡ false) × (writes_on older s ≡ [])) (characters_from after stamp text)
        (λ s m. let (i, j) = new s m in (m, not_gone older h s i, not_written older h s i j)))
    changed_cells (Delete spans) k t n w f new =
        ap (map (cell_in more)) k.reads
        ∙ map_same (cell_in more) (λ c. gone_in_any spans (cell_in older c)) (reading_by_stamp (characters older)) (all_of (λ c. cell_in more c ≡ gone_in_any spans (cell_in older c)) (one_deleted spans k) (reading_by_stamp (characters older)))
        ∙ sym (map_map (gone_in_any spans) (cell_in older) (reading_by_stamp (characters older)))
    changed_cells (Tag on name spans) k t n w f new =
        let v : Write = record { name = name; writer = stamp; on = on } in
        ap (map (cell_in more)) k.reads
        ∙ map_same (cell_in more) (λ c. written_in_any spans v (cell_in older c)) (reading_by_stamp (characters older))
        (all_of (λ c. cell_in more c ≡ written_in_any spans v (cell_in older c)) (one_tagged on name spans k) (reading_by_stamp (characters older)))
        ∙ sym (map_map (written_in_any spans v) (cell_in older) (reading_by_stamp (characters older)))

-- Each operation that continues a history changes the cells as the definition says, and the cells are those of the larger history.
pub cells_with : (op : Operation) (older : List Operation) → IsHistory older → Continues older op → cells_of (with_operation op older) ≡ changed op (cells_of older)
cells_with op older h k =
    cells_are (with_operation op older) (history_with op older h k)
    ∙ changed_cells older (with_operation op older) (stamp_of op) h op.body
    (record {
      gone = gone_with op older;
      silent = silent_with op older;
      alone = alone_with op older;
      tag = tag_with op older h k;
      reads = ap reading_by_stamp (characters_with op older h k);
    })
    (sound_of k).text (sound_of k).named (knows k) (inserted_fresh older op k)
    (λ s m. (inserted_new older op k s m, not_final s (let r = inserted_range op s m in omega (arith, r.site, (sound_of k).site))))
    ∙ ap (changed op) (sym (cells_are older h))

-- where a new stamp goes among the cells of a history
pub skip_at : (older : List Operation) (after new : Stamp) → IsHistory older → (has_character older after ≡ true) ⊎ (after ≡ ROOT)
    → skip_from (cells_of older) after new ≡ after_skip after new (stamps_read (reading_by_stamp (characters older)))
skip_at older after new h k =
    let xs = reading_by_stamp (characters older) in
    let i : stamps_of (map (cell_in older) xs) ≡ stamps_read xs = stamps_are older xs in
    ap (λ cells. skip_from cells after new) (cells_are older h)
    ∙ skip_is (map (cell_in older) xs) after new (rw i (left_known older older new h after k))
    ∙ ap (after_skip after new) i

pub known_after : (older : List Operation) (body : Body) (after : Stamp) (tags : List Name) (text : List ℕ) → body ≡ Insert after tags text
    → ((s : Stamp) → names body s ≡ true → IsKnown older body s) → (has_character older after ≡ true) ⊎ (after ≡ ROOT)
known_after older body after tags text e = subst (λ b. ((s : Stamp) → names b s ≡ true → IsKnown older b s) → (has_character older after ≡ true) ⊎ (after ≡ ROOT)) (sym e) (λ k. k after (rw (same_refl after)))

-- the law of skipping
pub skipping : (older : List Operation) (op : Operation) (after : Stamp) (tags : List Name) (text : List ℕ) → op.body ≡ Insert after tags text
    → IsHistory older → IsHistory (with_operation op older)
    → reading (characters (with_operation op older)) ≡ put_at (skip_from (cells_of older) after (stamp_of op)) (inserted op) (reading (characters older))
skipping older op after tags text e h w =
    let k = continues_from op older h w in
    reading_is (characters (with_operation op older)) (tree_of (with_operation op older) w)
    ∙ law_insert older op after tags text e h k
    ∙ ap (λ n. put_at n (inserted op) (reading_by_stamp (characters older))) (sym (skip_at older after (stamp_of op) h (known_after older op.body after tags text e (knows k))))
    ∙ ap (put_at (skip_from (cells_of older) after (stamp_of op)) (inserted op)) (sym (reading_is (characters older) (tree_of older h)))
