-- One mark is moved, put in or taken away, and the lists of the slots' numbers with it.
use Rattle.std.proofs.Common.{◌≡◌, ◌≢◌, ℕ, suc, ◌+◌, ◌<◌, ◌≤◌, ◌==◌, List, [], ◌∷◌, ◌++◌, map, length, get_or, set, take, drop, false, refl, sym, ap, ◌∙◌, cond, subst, arith, None}
use Rattle.std.specs.List.{insert, remove, AllByRecursion}
use Rattle.std.proofs.lemmas.Bool.{eqb-true, eq-eqb}
use Rattle.std.proofs.lemmas.List.{map-append, take-map, drop-map, get_or_at, get_or-set_other, get_or-set_same, get_or-take, get_or_append_left, length-set, length_push, length-take-le, set_split, set-get_or}
use Rattle.rt_marks.specs.Marks.{Mark, comes_before, AreInOrder, with_mark, mark_of_name, without_mark, HaveOwnNames, AreAscending, put_mark}
use Rattle.rt_marks.specs.Seen.{names_of_marks, no_mark, in_slot, in_slots, slot_times, IsEachOnce, IsOrder, IsIndexed, MarksPartAt, IsGap}
use Rattle.rt_marks.proofs.InOrder.{split}
use Rattle.rt_marks.proofs.Names.{clash, none_other, ordered_with}
use Rattle.rt_marks.proofs.ByName.{ascending_added, ascending_taken, none_in_gap}
use Rattle.rt_marks.proofs.Times
use Rattle.rt_marks.proofs.Times.{each_below, each_present, once_below, once_inserted, once_moved, once_removed, renamed, renumbered, tally, times_middle, times_remove}
use Rattle.rt_marks.proofs.Slots.{each_other, each_weaker, order_without, put_view, same_marks, same_names, stands_at, stands_read, stands_taken, stands_within, view_named, view_own, without_middle}

-- a slot's number is told from another's
pub apart : (x s : ℕ) → (x == s) ≡ false → x ≢ s
apart x s f = λ e. clash (x == s) (eq-eqb x s e) f

-- MOVED: the mark of a slot has its name still

-- what moving the mark of a slot starts from: its number stood at an index, and another index is where it belongs now
pub record Moves (marks : List Mark) (in_order : List ℕ) (slot : ℕ) (m : Mark) (i j : ℕ) : Type 0 where
  pub there : slot < length marks
  pub name : m.name ≡ (in_slot marks slot).name
  pub from : MarksPartAt (λ x. comes_before x (in_slot marks slot)) (in_slots marks in_order) i
  pub to : MarksPartAt (λ x. comes_before x m) (in_slots (set marks slot m) (remove in_order i)) j

-- the others stay as they are
others_stay : (marks : List Mark) (slot : ℕ) (m : Mark) (slots : List ℕ) → slot_times slot slots ≡ 0 → in_slots (set marks slot m) slots ≡ in_slots marks slots
others_stay marks slot m slots h =
    same_marks (in_slot (set marks slot m)) (in_slot marks) slots
    (each_weaker (λ x. (x == slot) ≡ false) (λ x. in_slot (set marks slot m) x ≡ in_slot marks x) slots (λ x f. get_or-set_other marks slot x m no_mark (apart x slot f)) (each_other slot slots h))

-- a slot's number, and then the view parted at it
pub record Held (marks : List Mark) (in_order : List ℕ) (slot : ℕ) (i : ℕ) : Type 0 where
  pub front : List ℕ
  pub back : List ℕ
  pub is : in_order ≡ front ++ slot ∷ back
  pub taken : remove in_order i ≡ front ++ back
  pub absent : slot_times slot (front ++ back) ≡ 0
  pub view : in_slots marks in_order ≡ in_slots marks front ++ in_slot marks slot ∷ in_slots marks back
  pub rest : in_slots marks (front ++ back) ≡ in_slots marks front ++ in_slots marks back

pub held : (marks : List Mark) (in_order : List ℕ) (slot i : ℕ) → IsEachOnce (length marks) in_order → AreInOrder (in_slots marks in_order) → slot < length marks → MarksPartAt (λ x. comes_before x (in_slot marks slot)) (in_slots marks in_order) i → Held marks in_order slot i
held marks in_order slot i once o l p =
    let s = stands_at marks in_order slot i once o l p in
    let f = in_slot marks in
    let one = once_below (length marks) in_order once slot l in
    let two = ap (slot_times slot) s.is ∙ times_middle slot s.front slot s.back in
    let here = ap tally (eq-eqb slot slot refl) in
    record {
      front = s.front;
      back = s.back;
      is = s.is;
      taken = stands_taken slot in_order i s;
      absent = omega (arith, one, two, here);
      view = ap (map f) s.is ∙ map-append f s.front (slot ∷ s.back);
      rest = map-append f s.front s.back;
    }

-- the view without the mark of a slot
held_without : (marks : List Mark) (by_name in_order : List ℕ) (slot i : ℕ) → IsIndexed marks by_name in_order → (h : Held marks in_order slot i) → in_slots marks (h.front ++ h.back) ≡ without_mark (in_slot marks slot).name (in_slots marks in_order)
held_without marks by_name in_order slot i x h =
    let own = subst HaveOwnNames h.view (view_own marks by_name in_order x) in
    h.rest ∙ sym (ap (without_mark (in_slot marks slot).name) h.view ∙ without_middle (in_slot marks slot).name (in_slots marks h.front) (in_slot marks slot) (in_slots marks h.back) own refl)

held_order : (marks : List Mark) (by_name in_order : List ℕ) (slot i : ℕ) → IsIndexed marks by_name in_order → (h : Held marks in_order slot i) → AreInOrder (in_slots marks (h.front ++ h.back))
held_order marks by_name in_order slot i x h =
    subst AreInOrder (sym h.rest) (order_without (in_slots marks h.front) (in_slot marks slot) (in_slots marks h.back) (subst AreInOrder h.view x.ordered))

held_none : (marks : List Mark) (by_name in_order : List ℕ) (slot i : ℕ) → IsIndexed marks by_name in_order → (h : Held marks in_order slot i) → mark_of_name (in_slot marks slot).name (in_slots marks (h.front ++ h.back)) ≡ None
held_none marks by_name in_order slot i x h =
    ap (mark_of_name (in_slot marks slot).name) h.rest ∙ none_other (in_slots marks h.front) (in_slot marks slot) (in_slots marks h.back) (subst HaveOwnNames h.view (view_own marks by_name in_order x))

-- between, its number is out of the order
pub moved_out : (marks : List Mark) (by_name in_order : List ℕ) (slot : ℕ) (m : Mark) (i : ℕ) → IsIndexed marks by_name in_order → slot < length marks → MarksPartAt (λ x. comes_before x (in_slot marks slot)) (in_slots marks in_order) i → IsOrder (set marks slot m) (remove in_order i)
moved_out marks by_name in_order slot m i x l p =
    let h = held marks in_order slot i x.order_once x.ordered l p in
    let kept = others_stay marks slot m (h.front ++ h.back) h.absent in
    let fewer : (s : ℕ) → 1 ≤ slot_times s (h.front ++ h.back) → s < length (set marks slot m) = λ s k.
    let more = ap (slot_times s) h.is ∙ times_middle s h.front slot h.back in
    subst (λ v. s < v) (sym (length-set marks slot m)) (below_of (length marks) in_order x.order_once s (omega (arith, k, more))) in
    subst (λ v. IsOrder (set marks slot m) v) (sym h.taken) (record {
      there = each_present (λ s. s < length (set marks slot m)) (h.front ++ h.back) fewer;
      ordered = subst AreInOrder (sym kept) (held_order marks by_name in_order slot i x h);
    })
  where
    below_of : (n : ℕ) (xs : List ℕ) → IsEachOnce n xs → (s : ℕ) → 1 ≤ slot_times s xs → s < n
    below_of n xs h s k = Times.each_there (λ v. v < n) xs s (each_below n xs h) k

pub moved_view : (marks : List Mark) (by_name in_order : List ℕ) (slot : ℕ) (m : Mark) (i j : ℕ) → IsIndexed marks by_name in_order → Moves marks in_order slot m i j → in_slots (set marks slot m) (insert (remove in_order i) j slot) ≡ put_mark m (in_slots marks in_order)
moved_view marks by_name in_order slot m i j x v =
    let h = held marks in_order slot i x.order_once x.ordered v.there v.from in
    let kept = ap (in_slots (set marks slot m)) h.taken ∙ others_stay marks slot m (h.front ++ h.back) h.absent in
    put_view (in_slot (set marks slot m)) (remove in_order i) j slot m (get_or-set_same marks slot m no_mark v.there) v.to
    ∙ ap (with_mark m) (kept ∙ held_without marks by_name in_order slot i x h ∙ ap (λ q. without_mark q (in_slots marks in_order)) (sym v.name))

pub moved_indexed : (marks : List Mark) (by_name in_order : List ℕ) (slot : ℕ) (m : Mark) (i j : ℕ) → IsIndexed marks by_name in_order → Moves marks in_order slot m i j → IsIndexed (set marks slot m) by_name (insert (remove in_order i) j slot)
moved_indexed marks by_name in_order slot m i j x v =
    let h = held marks in_order slot i x.order_once x.ordered v.there v.from in
    let n = length-set marks slot m in
    let kept = ap (in_slots (set marks slot m)) h.taken ∙ others_stay marks slot m (h.front ++ h.back) h.absent in
    let name : (s : ℕ) → (in_slot marks s).name ≡ (in_slot (set marks slot m) s).name = λ s. split (s == slot)
    (λ t. let e = eqb-true s slot t in ap (λ w. (in_slot marks w).name) e ∙ sym v.name ∙ sym (ap (λ (w : Mark). w.name) (ap (λ w. in_slot (set marks slot m) w) e ∙ get_or-set_same marks slot m no_mark v.there)))
    (λ f. ap (λ (w : Mark). w.name) (sym (get_or-set_other marks slot s m no_mark (apart s slot f)))) in
    let none : mark_of_name m.name (in_slots marks (h.front ++ h.back)) ≡ None = subst (λ q. mark_of_name q (in_slots marks (h.front ++ h.back)) ≡ None) (sym v.name) (held_none marks by_name in_order slot i x h) in
    record {
      names_once = subst (λ w. IsEachOnce w by_name) (sym n) x.names_once;
      order_once = subst (λ w. IsEachOnce w (insert (remove in_order i) j slot)) (sym n)
          (subst (λ w. IsEachOnce (length marks) (insert w j slot)) (sym h.taken) (once_moved (length marks) h.front slot h.back j (subst (IsEachOnce (length marks)) h.is x.order_once)));
      ascending = subst AreAscending (same_names (in_slot marks) (in_slot (set marks slot m)) by_name name) x.ascending;
      ordered = subst AreInOrder (sym (put_view (in_slot (set marks slot m)) (remove in_order i) j slot m (get_or-set_same marks slot m no_mark v.there) v.to ∙ ap (with_mark m) kept))
          (ordered_with m (in_slots marks (h.front ++ h.back)) none (held_order marks by_name in_order slot i x h));
    }

-- PUT IN

added_stay : (marks : List Mark) (m : Mark) (slots : List ℕ) → AllByRecursion (λ s. s < length marks) slots → in_slots (marks ++ m ∷ []) slots ≡ in_slots marks slots
added_stay marks m slots h =
    same_marks (in_slot (marks ++ m ∷ [])) (in_slot marks) slots (each_weaker (λ s. s < length marks) (λ s. in_slot (marks ++ m ∷ []) s ≡ in_slot marks s) slots (λ s l. get_or_append_left marks (m ∷ []) no_mark s l) h)

in_last : (marks : List Mark) (m : Mark) → in_slot (marks ++ m ∷ []) (length marks) ≡ m
in_last marks m = get_or_at marks m [] no_mark (length marks) refl

pub added_view : (marks : List Mark) (by_name in_order : List ℕ) (m : Mark) (i : ℕ) → IsIndexed marks by_name in_order → MarksPartAt (λ x. comes_before x m) (in_slots marks in_order) i → in_slots (marks ++ m ∷ []) (insert in_order i (length marks)) ≡ with_mark m (in_slots marks in_order)
added_view marks by_name in_order m i x p =
    let kept = added_stay marks m in_order (each_below (length marks) in_order x.order_once) in
    put_view (in_slot (marks ++ m ∷ [])) in_order i (length marks) m (in_last marks m) (subst (λ v. MarksPartAt (λ x. comes_before x m) v i) (sym kept) p)
    ∙ ap (with_mark m) kept

pub added_indexed : (marks : List Mark) (by_name in_order : List ℕ) (m : Mark) (gap i : ℕ) → IsIndexed marks by_name in_order → IsGap m.name (names_of_marks (in_slots marks by_name)) gap → MarksPartAt (λ x. comes_before x m) (in_slots marks in_order) i → IsIndexed (marks ++ m ∷ []) (insert by_name gap (length marks)) (insert in_order i (length marks))
added_indexed marks by_name in_order m gap i x g p =
    let n = length_push marks m in
    let f = in_slot (marks ++ m ∷ []) in
    let kept = added_stay marks m by_name (each_below (length marks) by_name x.names_once) in
    let named_now : map f (insert by_name gap (length marks)) ≡ take gap (in_slots marks by_name) ++ m ∷ drop gap (in_slots marks by_name) =
    map-append f (take gap by_name) (length marks ∷ drop gap by_name)
    ∙ (λ j. sym (take-map f gap by_name) j ++ in_last marks m j ∷ sym (drop-map f gap by_name) j)
    ∙ ap (λ v. take gap v ++ m ∷ drop gap v) kept in
    let none : mark_of_name m.name (in_slots marks in_order) ≡ None = view_named m.name marks by_name in_order x ∙ none_in_gap m.name (in_slots marks by_name) gap g in
    record {
      names_once = subst (λ w. IsEachOnce w (insert by_name gap (length marks))) (sym n) (once_inserted (length marks) by_name gap x.names_once);
      order_once = subst (λ w. IsEachOnce w (insert in_order i (length marks))) (sym n) (once_inserted (length marks) in_order i x.order_once);
      ascending = subst (λ v. AreAscending (names_of_marks v)) (sym named_now) (ascending_added (in_slots marks by_name) gap m g x.ascending);
      ordered = subst AreInOrder (sym (added_view marks by_name in_order m i x p)) (ordered_with m (in_slots marks in_order) none x.ordered);
    }

-- TAKEN AWAY: the last slot's mark comes to stand in the slot

pub record Takes (marks : List Mark) (by_name in_order : List ℕ) (slot last rank last_rank i k : ℕ) : Type 0 where
  pub size : length marks ≡ last + 1
  pub there : slot < length marks
  pub ranked : rank < length by_name
  pub rank_read : get_or by_name rank 0 ≡ slot
  pub last_ranked : last_rank < length by_name
  pub last_read : get_or by_name last_rank 0 ≡ last
  pub at : MarksPartAt (λ x. comes_before x (in_slot marks slot)) (in_slots marks in_order) i
  pub last_at : MarksPartAt (λ x. comes_before x (in_slot marks last)) (in_slots marks in_order) k

abbrev pub brought_down : List Mark → ℕ → ℕ → List Mark
brought_down marks slot last = take last (set marks slot (in_slot marks last))

one_down : (marks : List Mark) (slot last s : ℕ) → length marks ≡ last + 1 → slot < length marks → s < length marks → (s == slot) ≡ false → in_slot (brought_down marks slot last) (renamed last slot s) ≡ in_slot marks s
one_down marks slot last s n l k f =
    let all = set marks slot (in_slot marks last) in
    split (s == last)
    (λ t. let e = eqb-true s last t in
    let less : slot < last = below_last slot last s e f (omega (arith, n, l)) in
    ap (λ v. in_slot (take last all) (cond v slot s)) t ∙ get_or-take last all slot no_mark less ∙ get_or-set_same marks slot (in_slot marks last) no_mark l ∙ ap (in_slot marks) (sym e))
    (λ g. let less : s < last = under s last (apart s last g) (omega (arith, n, k)) in
    ap (λ v. in_slot (take last all) (cond v slot s)) g ∙ get_or-take last all s no_mark less ∙ get_or-set_other marks slot s (in_slot marks last) no_mark (apart s slot f))
  where
    under : (x y : ℕ) → x ≢ y → x ≤ y → x < y
    under x y h k = omega (arith, h, k)

    below_last : (x y s : ℕ) → s ≡ y → (s == x) ≡ false → x ≤ y → x < y
    below_last x y s e f k = under x y (λ h. apart s x f (e ∙ sym h)) k

-- the marks of the other slots, by their numbers then
brought : (marks : List Mark) (slots : List ℕ) (slot last i : ℕ) → IsEachOnce (length marks) slots → length marks ≡ last + 1 → slot < length marks → i < length slots → get_or slots i 0 ≡ slot → in_slots (brought_down marks slot last) (map (renamed last slot) (remove slots i)) ≡ in_slots marks (remove slots i)
brought marks slots slot last i once n l k e = through (remove slots i) (each_present (λ s. in_slot (brought_down marks slot last) (renamed last slot s) ≡ in_slot marks s) (remove slots i) one) where
  through : (xs : List ℕ) → AllByRecursion (λ s. in_slot (brought_down marks slot last) (renamed last slot s) ≡ in_slot marks s) xs → in_slots (brought_down marks slot last) (map (renamed last slot) xs) ≡ in_slots marks xs
  through [] h = refl
  through (x ∷ xs) h = let more = through xs h.1 in λ j. h.0 j ∷ more j

  one : (s : ℕ) → 1 ≤ slot_times s (remove slots i) → in_slot (brought_down marks slot last) (renamed last slot s) ≡ in_slot marks s
  one s h =
      let counted = times_remove s slots i 0 k in
      let here : tally (get_or slots i 0 == s) ≡ tally (slot == s) = ap (λ v. tally (v == s)) e in
      let below : s < length marks = Times.each_there (λ v. v < length marks) slots s (each_below (length marks) slots once) (omega (arith, h, counted)) in
      one_down marks slot last s n l below (split (s == slot)
      (λ t. let same = eqb-true s slot t in
      absurd (omega (arith, h, counted, here, once_below (length marks) slots once s below, ap tally (eq-eqb slot s (sym same)))))
      (λ f. f))

-- what becomes of a list of numbers
pub takes_once : (marks : List Mark) (slots : List ℕ) (slot last i k : ℕ) → IsEachOnce (length marks) slots → length marks ≡ last + 1 → slot < length marks → i < length slots → get_or slots i 0 ≡ slot → k < length slots → get_or slots k 0 ≡ last → remove (set slots k slot) i ≡ map (renamed last slot) (remove slots i)
takes_once marks slots slot last i k once n l li ei lk ek =
    renumbered slots i k last slot 0 li lk ei ek (once_below (length marks) slots once last (omega (arith, n)))

once_then : (marks : List Mark) (slots : List ℕ) (slot last i k : ℕ) → IsEachOnce (length marks) slots → length marks ≡ last + 1 → slot < length marks → i < length slots → get_or slots i 0 ≡ slot → k < length slots → get_or slots k 0 ≡ last → IsEachOnce (length (brought_down marks slot last)) (remove (set slots k slot) i)
once_then marks slots slot last i k once n l li ei lk ek =
    let all = set marks slot (in_slot marks last) in
    let size : length (brought_down marks slot last) ≡ last = length-take-le last all (omega (arith, n, length-set marks slot (in_slot marks last))) in
    subst (λ v. IsEachOnce v (remove (set slots k slot) i)) (sym size)
    (subst (IsEachOnce last) (sym (takes_once marks slots slot last i k once n l li ei lk ek)) (once_removed last slots i slot 0 (subst (λ v. IsEachOnce v slots) n once) li ei (omega (arith, n, l))))

view_then : (marks : List Mark) (slots : List ℕ) (slot last i k : ℕ) → IsEachOnce (length marks) slots → length marks ≡ last + 1 → slot < length marks → i < length slots → get_or slots i 0 ≡ slot → k < length slots → get_or slots k 0 ≡ last → in_slots (brought_down marks slot last) (remove (set slots k slot) i) ≡ in_slots marks (remove slots i)
view_then marks slots slot last i k once n l li ei lk ek =
    ap (in_slots (brought_down marks slot last)) (takes_once marks slots slot last i k once n l li ei lk ek) ∙ brought marks slots slot last i once n l li ei

pub taken_view : (marks : List Mark) (by_name in_order : List ℕ) (slot last rank last_rank i k : ℕ) → IsIndexed marks by_name in_order → Takes marks by_name in_order slot last rank last_rank i k → in_slots (brought_down marks slot last) (remove (set in_order k slot) i) ≡ without_mark (in_slot marks slot).name (in_slots marks in_order)
taken_view marks by_name in_order slot last rank last_rank i k x v =
    let s = stands_at marks in_order slot i x.order_once x.ordered v.there v.at in
    let t = stands_at marks in_order last k x.order_once x.ordered (omega (arith, v.size)) v.last_at in
    let h = held marks in_order slot i x.order_once x.ordered v.there v.at in
    view_then marks in_order slot last i k x.order_once v.size v.there (stands_within slot in_order i s) (stands_read slot in_order i 0 s) (stands_within last in_order k t) (stands_read last in_order k 0 t)
    ∙ ap (in_slots marks) h.taken ∙ held_without marks by_name in_order slot i x h

pub taken_indexed : (marks : List Mark) (by_name in_order : List ℕ) (slot last rank last_rank i k : ℕ) → IsIndexed marks by_name in_order → Takes marks by_name in_order slot last rank last_rank i k → IsIndexed (brought_down marks slot last) (remove (set by_name last_rank slot) rank) (remove (set in_order k slot) i)
taken_indexed marks by_name in_order slot last rank last_rank i k x v =
    let s = stands_at marks in_order slot i x.order_once x.ordered v.there v.at in
    let t = stands_at marks in_order last k x.order_once x.ordered (omega (arith, v.size)) v.last_at in
    let h = held marks in_order slot i x.order_once x.ordered v.there v.at in
    let f = in_slot marks in
    let parted : in_slots marks by_name ≡ in_slots marks (take rank by_name) ++ f slot ∷ in_slots marks (drop (suc rank) by_name) =
    ap (in_slots marks) (sym (set-get_or by_name rank 0) ∙ set_split by_name rank (get_or by_name rank 0) v.ranked)
    ∙ map-append f (take rank by_name) (get_or by_name rank 0 ∷ drop (suc rank) by_name)
    ∙ ap (λ w. in_slots marks (take rank by_name) ++ f w ∷ in_slots marks (drop (suc rank) by_name)) v.rank_read in
    let fewer : in_slots marks (remove by_name rank) ≡ in_slots marks (take rank by_name) ++ in_slots marks (drop (suc rank) by_name) = map-append f (take rank by_name) (drop (suc rank) by_name) in
    record {
      names_once = once_then marks by_name slot last rank last_rank x.names_once v.size v.there v.ranked v.rank_read v.last_ranked v.last_read;
      order_once = once_then marks in_order slot last i k x.order_once v.size v.there (stands_within slot in_order i s) (stands_read slot in_order i 0 s) (stands_within last in_order k t) (stands_read last in_order k 0 t);
      ascending = subst (λ w. AreAscending (names_of_marks w)) (sym (view_then marks by_name slot last rank last_rank x.names_once v.size v.there v.ranked v.rank_read v.last_ranked v.last_read ∙ fewer))
          (ascending_taken (in_slots marks (take rank by_name)) (f slot) (in_slots marks (drop (suc rank) by_name)) (subst (λ w. AreAscending (names_of_marks w)) parted x.ascending));
      ordered = subst AreInOrder (sym (view_then marks in_order slot last i k x.order_once v.size v.there (stands_within slot in_order i s) (stands_read slot in_order i 0 s) (stands_within last in_order k t) (stands_read last in_order k 0 t) ∙ ap (in_slots marks) h.taken))
          (held_order marks by_name in_order slot i x h);
    }

-- OF TABLES, by the values of their vectors

pub moved_table : (S S' : List Mark) (N N' O O' O'' : List ℕ) (slot i j : ℕ) (m here then : Mark) → IsIndexed S N O → slot < length S → in_slot S slot ≡ here → m.name ≡ (in_slot S slot).name → MarksPartAt (λ x. comes_before x here) (in_slots S O) i → S' ≡ set S slot m → N' ≡ N → O' ≡ remove O i → in_slot S' slot ≡ then → MarksPartAt (λ x. comes_before x then) (in_slots S' O') j → O'' ≡ insert O' j slot → IsIndexed S' N' O'' × (in_slots S' O'' ≡ put_mark m (in_slots S O))
moved_table S S' N N' O O' O'' slot i j m here then x l eh name from es en eo et to ei =
    let now : then ≡ m = sym et ∙ ap (λ v. in_slot v slot) es ∙ get_or-set_same S slot m no_mark l in
    let start : MarksPartAt (λ x. comes_before x (in_slot S slot)) (in_slots S O) i = subst (λ v. MarksPartAt (λ x. comes_before x v) (in_slots S O) i) (sym eh) from in
    let one : MarksPartAt (λ x. comes_before x m) (in_slots S' O') j = subst (λ v. MarksPartAt (λ x. comes_before x v) (in_slots S' O') j) now to in
    let two : MarksPartAt (λ x. comes_before x m) (in_slots (set S slot m) O') j = subst (λ v. MarksPartAt (λ x. comes_before x m) (in_slots v O') j) es one in
    let three : MarksPartAt (λ x. comes_before x m) (in_slots (set S slot m) (remove O i)) j = subst (λ v. MarksPartAt (λ x. comes_before x m) (in_slots (set S slot m) v) j) eo two in
    let v : Moves S O slot m i j = record { there = l; name = name; from = start; to = three } in
    let order : O'' ≡ insert (remove O i) j slot = ei ∙ ap (λ w. insert w j slot) eo in
    let indexed : IsIndexed S' N' (insert (remove O i) j slot) = subst (λ w. IsIndexed w N' (insert (remove O i) j slot)) (sym es) (subst (λ w. IsIndexed (set S slot m) w (insert (remove O i) j slot)) (sym en) (moved_indexed S N O slot m i j x v)) in
    (subst (λ w. IsIndexed S' N' w) (sym order) indexed, (λ k. in_slots (es k) (order k)) ∙ moved_view S N O slot m i j x v)

pub moved_out_table : (S S' : List Mark) (N O O' : List ℕ) (slot i : ℕ) (m here : Mark) → IsIndexed S N O → slot < length S → in_slot S slot ≡ here → MarksPartAt (λ x. comes_before x here) (in_slots S O) i → S' ≡ set S slot m → O' ≡ remove O i → IsOrder S' O'
moved_out_table S S' N O O' slot i m here x l eh from es eo =
    let start : MarksPartAt (λ x. comes_before x (in_slot S slot)) (in_slots S O) i = subst (λ v. MarksPartAt (λ x. comes_before x v) (in_slots S O) i) (sym eh) from in
    subst (λ v. IsOrder v O') (sym es) (subst (λ v. IsOrder (set S slot m) v) (sym eo) (moved_out S N O slot m i x l start))

pub stands_before : (S : List Mark) (N O : List ℕ) (slot i : ℕ) (here : Mark) → IsIndexed S N O → slot < length S → in_slot S slot ≡ here → MarksPartAt (λ x. comes_before x here) (in_slots S O) i → i < length O
stands_before S N O slot i here x l eh from =
    stands_within slot O i (stands_at S O slot i x.order_once x.ordered l (subst (λ v. MarksPartAt (λ x. comes_before x v) (in_slots S O) i) (sym eh) from))

pub taken_table : (S S' : List Mark) (N N' O O' : List ℕ) (slot last rank last_rank i k : ℕ) (here end : Mark) → IsIndexed S N O → length S ≡ last + 1 → slot < length S → rank < length N → get_or N rank 0 ≡ slot → last_rank < length N → get_or N last_rank 0 ≡ last → in_slot S slot ≡ here → MarksPartAt (λ x. comes_before x here) (in_slots S O) i → in_slot S last ≡ end → MarksPartAt (λ x. comes_before x end) (in_slots S O) k → S' ≡ brought_down S slot last → N' ≡ remove (set N last_rank slot) rank → O' ≡ remove (set O k slot) i → IsIndexed S' N' O' × (in_slots S' O' ≡ without_mark (in_slot S slot).name (in_slots S O))
taken_table S S' N N' O O' slot last rank last_rank i k here end x size l lr er ll el eh ph ee pe es en eo =
    let v : Takes S N O slot last rank last_rank i k = record {
      size = size;
      there = l;
      ranked = lr;
      rank_read = er;
      last_ranked = ll;
      last_read = el;
      at = subst (λ v. MarksPartAt (λ x. comes_before x v) (in_slots S O) i) (sym eh) ph;
      last_at = subst (λ v. MarksPartAt (λ x. comes_before x v) (in_slots S O) k) (sym ee) pe;
    } in
    let indexed = taken_indexed S N O slot last rank last_rank i k x v in (
      subst (λ w. IsIndexed w N' O') (sym es) (subst (λ w. IsIndexed (brought_down S slot last) w O') (sym en) (subst (λ w. IsIndexed (brought_down S slot last) (remove (set N last_rank slot) rank) w) (sym eo) indexed)),
      (λ j. in_slots (es j) (eo j)) ∙ taken_view S N O slot last rank last_rank i k x v,
    )
