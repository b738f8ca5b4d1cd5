-- Cells that are typed on.
use Rattle.std.proofs.Common.{◌≡◌, ℕ, zero, suc, ◌+◌, ◌-◌, ◌<◌, ◌≤◌, ◌==◌, Bool, true, false, List, [], ◌∷◌, ◌++◌, length, take, drop, get_or, slice_get, Some, refl, sym, ap, ◌∙◌, arith, subst, length-append, if◌then◌else◌}
use Rattle.std.specs.Cmp.{booleans_Decides}
use Rattle.std.proofs.Math.Bool.{beq}
use Rattle.std.specs.Prelude.{nat_lt, not, ◌&&◌, ◌||◌}
use Rattle.std.specs.List.{AllByRecursion, list_any}
use Rattle.std.proofs.lemmas.Bool.{eq-eqb, eqb-true, true≢false}
use Rattle.std.proofs.lemmas.List.{length-drop, length-take-le}
use Rattle.std.proofs.lemmas.List.Concat.{flat_map-append}
use Rattle.std.proofs.lemmas.Option.{slice_get_within}
use Rattle.rt_stamps.specs.Places.{newlines}
use Rattle.rt_stamps.specs.declared.stamp.Stamp.{Stamp}
use Rattle.rt_store.proofs.Distinct.{split}
use Rattle.rt_store.specs.declared.cell.Cell.{Cell}
use Rattle.rt_store.specs.Cells.{put_at}
use Rattle.rt_tree.specs.declared.node.Counts.{Counts}
use Rattle.rt_tree.specs.declared.node.CountedBy.TheVariants.{Cells}
use Rattle.rt_tree.specs.declared.node.Run.{Run}
use Rattle.rt_tree.specs.Additions.{IsFrontOf, IsStretch, are_joint, follows, run_joined, stretch_count}
use Rattle.rt_tree.specs.Growing.{EndsThere, GoOnIn}
use Rattle.rt_tree.specs.Runs.{IsRun, cells_of_runs, run_characters, first_stamp, has_cell, run_cells}
use Rattle.rt_tree.specs.Sharing.{AreOnce, is_shared_by, occurrences}
use Rattle.rt_tree.specs.Sums.{counts_of}
use Rattle.rt_tree.specs.Trees.{TreeValue, came_of, numbers_from}
use Rattle.rt_tree.specs.Typing.{AreTypedOn, GoOn}
use Rattle.rt_tree.specs.Walks.{StandsAt}
use Rattle.rt_tree.proofs.CellLaws.{all_left, characters_length, counted, get-from, get-left, get-right, is_run, nth_found}
use Rattle.rt_tree.proofs.Down.{each-mid}
use Rattle.rt_tree.proofs.Following.{follows_true, stretches_some}
use Rattle.rt_tree.proofs.Going.{get-at}
use Rattle.rt_tree.proofs.Joining.{AreJoint}
use Rattle.rt_tree.proofs.Passes.{get-any}
use Rattle.rt_tree.proofs.Shared.{either_has, first_has, none_shared, occurs-append, occurs-parts, occurs_run, shared_first, shared_twice}

some_is : {X : Type 0} (a b : X) → Some a ≡ Some b → a ≡ b
some_is a b e = cc

-- IN WHICH ORDER CELLS CAME

numbers_length : (at n : ℕ) → length (numbers_from at n) ≡ n
numbers_length at zero = refl
numbers_length at (suc n) = ap suc (numbers_length (at + 1) n)

numbers_at : (at n i : ℕ) → i < n → slice_get (numbers_from at n) i ≡ Some (at + i)
numbers_at at zero i lt = absurd (omega (arith, lt))
numbers_at at (suc n) zero lt = let z : at ≡ at + 0 = omega arith in ap Some z
numbers_at at (suc n) (suc i) lt = let z : at + 1 + i ≡ at + suc i = omega arith in numbers_at (at + 1) n i (omega (arith, lt)) ∙ ap Some z

came_length : (rs : List Run) → length (came_of rs) ≡ (counts_of rs).cells
came_length [] = refl
came_length (r ∷ rs) = let a = length-append (numbers_from r.at r.len) (came_of rs) in let n = numbers_length r.at r.len in let h = came_length rs in omega (arith, a, n, h)

-- the number of the cell so many places into a run
came_found : (left : List Run) (run : Run) (right : List Run) (offset place : ℕ) → (counts_of left).cells + offset ≡ place → offset < run.len → slice_get (came_of (left ++ run ∷ right)) place ≡ Some (run.at + offset)
came_found left run right offset place e lt =
    let mine = numbers_from run.at run.len in
    let l = came_length left in
    let n = numbers_length run.at run.len in
    ap (λ xs. slice_get xs place) (flat_map-append (λ (r : Run). numbers_from r.at r.len) left (run ∷ right))
    ∙ get-right (came_of left) (mine ++ came_of right) place offset (omega (arith, l, e))
    ∙ get-left mine (came_of right) offset (omega (arith, n, lt))
    ∙ numbers_at run.at run.len offset lt

-- where a run ends whose characters are the last of the text, the last cell came last of all
pub ends_last : (rs : List Run) (at place : ℕ) → EndsThere rs at place → slice_get (came_of rs) (at - 1) ≡ Some (place - 1)
ends_last rs at place e =
    let f = came_found e.left e.run e.right (e.run.len - 1) (at - 1) (omega (arith, e.end, e.some)) (omega (arith, e.some)) in
    let n : e.run.at + (e.run.len - 1) ≡ place - 1 = omega (arith, e.stands, e.some) in
    ap (λ (l : List Run). slice_get (came_of l) (at - 1)) e.here ∙ f ∙ ap Some n

-- the last of elements that were put in
pub put_last : {X : Type 0} (at : ℕ) (new xs : List X) (x : X) → at ≤ length xs → slice_get new (length new - 1) ≡ Some x → slice_get (put_at at new xs) (at + length new - 1) ≡ Some x
put_last at new xs x le is =
    let lt = slice_get_within new (length new - 1) x is in
    let t = length-take-le at xs le in
    get-right (take at xs) (new ++ drop at xs) (at + length new - 1) (length new - 1) (omega (arith, t, lt))
    ∙ get-left new (drop at xs) (length new - 1) lt
    ∙ is

-- a run that got longer ends there
pub longer_ends : (new : List Run) (at begun : ℕ) (left : List Run) (a b : Run) (right : List Run) → AreJoint a b → new ≡ left ++ run_joined a b ∷ right → (counts_of left).cells + a.len ≡ at → b.at ≡ begun → 0 < b.len → EndsThere new (at + b.len) (begun + b.len)
longer_ends new at begun left a b right j is end from some = record {
  left = left;
  run = run_joined a b;
  right = right;
  here = is;
  some = omega (arith, some);
  end = omega (arith, end);
  stands = let t = j.at in omega (arith, t, from);
}

-- A CELL THAT FOLLOWS

one_follows : (before a : Cell ℕ) (rest : List (Cell ℕ)) → stretch_count (before ∷ a ∷ rest) ≡ 1 → (follows before a ≡ true) × (stretch_count (a ∷ rest) ≡ 1)
one_follows before a rest one =
    let some = stretches_some a rest in
    split (follows before a)
    (λ t. let z : stretch_count (before ∷ a ∷ rest) ≡ 0 + stretch_count (a ∷ rest) = ap (λ (b : Bool). (if b then 0 else 1) + stretch_count (a ∷ rest)) t in (t, omega (arith, z, one)))
    (λ f. let z : stretch_count (before ∷ a ∷ rest) ≡ 1 + stretch_count (a ∷ rest) = ap (λ (b : Bool). (if b then 0 else 1) + stretch_count (a ∷ rest)) f in absurd (omega (arith, z, one, some)))

none_left : (cells : List (Cell ℕ)) → stretch_count cells ≡ 0 → length cells ≡ 0
none_left [] e = refl
none_left (a ∷ cells) e = let s = stretches_some a cells in absurd (omega (arith, e, s))

-- cells that go on from one are one stretch
pub whole_stretch : (before : Cell ℕ) (cells : List (Cell ℕ)) (len : ℕ) → stretch_count (before ∷ cells) ≡ 1 → IsStretch cells len → len ≡ length cells
whole_stretch before [] len one is = let w = is.within in omega (arith, w)
whole_stretch before (a ∷ rest) len one is =
    let o = (one_follows before a rest one).1 in
    let g = is.longest in
    let w = is.within in
    let z = none_left (drop len (a ∷ rest)) (omega (arith, o, g)) in
    let l = length-drop len (a ∷ rest) in
    omega (arith, z, l, w)

-- no newline but the last character, and none there
last_plain : (cs : List ℕ) (n ch : ℕ) → length cs ≡ n + 1 → slice_get cs n ≡ Some ch → (ch ≡ 10 → ⊥) → newlines (take n cs) ≡ 0 → newlines cs ≡ 0
last_plain [] n ch long at plain none = absurd (omega (arith, long))
last_plain (c ∷ []) zero ch long at plain none =
    let same = some_is c ch at in
    split (c == 10)
    (λ t. absurd (plain (sym same ∙ eqb-true c 10 t)))
    (λ f. ap (λ (b : Bool). if b then newlines [] + 1 else newlines []) f)
last_plain (c ∷ d ∷ cs) zero ch long at plain none = absurd (omega (arith, long))
last_plain (c ∷ cs) (suc n) ch long at plain none = split (c == 10)
    (λ t. absurd (let z : newlines (take (suc n) (c ∷ cs)) ≡ newlines (take n cs) + 1 = ap (λ (b : Bool). if b then newlines (take n cs) + 1 else newlines (take n cs)) t in omega (arith, z, none)))
    (λ f.
    let z : newlines (take (suc n) (c ∷ cs)) ≡ newlines (take n cs) = ap (λ (b : Bool). if b then newlines (take n cs) + 1 else newlines (take n cs)) f in
    let w : newlines (c ∷ cs) ≡ newlines cs = ap (λ (b : Bool). if b then newlines cs + 1 else newlines cs) f in
    let h = last_plain cs n ch (omega (arith, long)) at plain (omega (arith, z, none)) in
    omega (arith, w, h))

no_newline : (text : List ℕ) (run : Run) (offset ch : ℕ) → IsRun text run → offset + 1 ≡ run.len → slice_get (run_characters text run) offset ≡ Some ch → (ch ≡ 10 → ⊥) → run.newline ≡ false
no_newline text run offset ch is last at plain =
    let long = characters_length text run is in
    let n : run.len - 1 ≡ offset = omega (arith, last) in
    let front : newlines (take offset (run_characters text run)) ≡ 0 = ap (λ i. newlines (take i (run_characters text run))) (sym n) ∙ is.plain in
    let none = last_plain (run_characters text run) offset ch (omega (arith, long, last)) at plain front in
    let ends = is.ends in
    split run.newline
    (λ t. let z : ◌≡◌ {A = ℕ} (if run.newline then 1 else 0) 1 = ap (λ (b : Bool). if b then 1 else 0) t in absurd (omega (arith, none, ends, z)))
    (λ f. f)

-- a cell of a run
record IsIn (text : List ℕ) (run : Run) (offset : ℕ) (a : Cell ℕ) : Type 0 where
  count : a.stamp.count ≡ run.first + offset
  site : a.stamp.site ≡ run.site
  state : a.state ≡ run.state
  gone : a.gone ≡ run.gone
  ch : slice_get (run_characters text run) offset ≡ Some a.ch

there_is : (text : List ℕ) (run : Run) (offset : ℕ) (a : Cell ℕ) → IsRun text run → offset < run.len → slice_get (run_cells text run) offset ≡ Some a → IsIn text run offset a
there_is text run offset a is lt at =
    let cs = run_characters text run in
    let long = characters_length text run is in
    let ch = get_or cs offset 0 in
    let here : slice_get cs offset ≡ Some ch = get-at cs offset ch (omega (arith, long, lt)) (get-any cs offset 0 ch (omega (arith, long, lt))) in
    let cell : a ≡ record { stamp = record { count = run.first + offset; site = run.site }; ch = ch; gone = run.gone; state = run.state } =
    some_is a _ (sym at ∙ get-from run.gone run.first run.site run.state cs offset ch here) in
    record {
      count = ap (λ (c : Cell ℕ). c.stamp.count) cell;
      site = ap (λ (c : Cell ℕ). c.stamp.site) cell;
      state = ap (λ (c : Cell ℕ). c.state) cell;
      gone = ap (λ (c : Cell ℕ). c.gone) cell;
      ch = here ∙ ap Some (sym (ap (λ (c : Cell ℕ). c.ch) cell));
    }

first_is : (text : List ℕ) (run : Run) (a : Cell ℕ) (rest : List (Cell ℕ)) → IsFrontOf text (a ∷ rest) run → IsIn text run 0 a
first_is text run a rest f = there_is text run 0 a f.run f.run.some (ap (λ (l : List (Cell ℕ)). slice_get l 0) f.same ∙ taken run.len f.run.some) where
  taken : (n : ℕ) → 0 < n → slice_get (take n (a ∷ rest)) 0 ≡ Some a
  taken zero some = absurd (omega (arith, some))
  taken (suc n) some = refl

both : (a b : Bool) → a ≡ true → b ≡ true → (a && b) ≡ true
both a b p q = ap (λ (x : Bool). x && b) p ∙ q

joint : (a b : Run) → AreJoint a b → are_joint a b ≡ true
joint a b j =
    let s = eq-eqb b.state a.state j.state in
    let g = (booleans_Decides b.gone a.gone).1 j.gone in
    let i = eq-eqb b.site a.site j.site in
    let f = eq-eqb b.first (a.first + a.len) j.first in
    let t = eq-eqb b.at (a.at + a.len) j.at in
    both (b.state == a.state) _ s (both (beq b.gone a.gone) _ g (both (b.site == a.site) _ i (both (b.first == a.first + a.len) _ f (both (b.at == a.at + a.len) _ t (ap not j.plain)))))

-- the run that ends before cells that are typed on goes on with theirs
module _ (text : List ℕ) (old : List Run) (at : ℕ) (cells : List (Cell ℕ)) (all : AllByRecursion (IsRun text) old) (run : Run) (front : Counts) (offset : ℕ) (st : StandsAt Cells old run front offset (at - 1)) (on : GoOnIn text old at cells) where
  there : IsRun text run
  there = is_run text old run front offset (at - 1) all st.left st.right st.here

  low : run.at + run.len + length cells ≤ length text
  low = each-mid (λ (r : Run). r.at + r.len + length cells ≤ length text) st.left run st.right (subst (AllByRecursion (λ (r : Run). r.at + r.len + length cells ≤ length text)) st.here on.old)

  place : run.at + offset ≡ length text - length cells - 1
  place =
      let f = ap (λ (c : Counts). c.cells) st.before in
      let s = st.at in
      some_is (run.at + offset) (length text - length cells - 1) (sym (ap (λ (l : List Run). slice_get (came_of l) (at - 1)) st.here ∙ came_found st.left run st.right offset (at - 1) (omega (arith, f, s)) (let i = st.inside in omega (arith, i))) ∙ on.last)

  pub typed_end : offset + 1 ≡ run.len
  typed_end = let p = place in let l = low in let i = st.inside in omega (arith, p, l, i)

  before_is : IsIn text run offset on.before
  before_is = there_is text run offset on.before there (let i = st.inside in omega (arith, i)) (sym (nth_found text old run front offset (at - 1) all st) ∙ on.there)

  joint_first : (a : Cell ℕ) (rest : List (Cell ℕ)) (b : Run) → cells ≡ a ∷ rest → IsFrontOf text cells b → AreJoint run b
  joint_first a rest b are f =
      let g = follows_true on.before a (one_follows on.before a rest (ap (λ (l : List (Cell ℕ)). stretch_count (on.before ∷ l)) (sym are) ∙ on.one)).0 in
      let h = first_is text b a rest (subst (λ (l : List (Cell ℕ)). IsFrontOf text l b) are f) in
      let w = before_is in
      let e = typed_end in
      let p = place in
      let l = low in
      let c = ap (λ (s : Stamp). s.count) g.stamp in
      let s = ap (λ (s : Stamp). s.site) g.stamp in
      let hc = h.count in
      let wc = w.count in
      let some = there.some in
      let ba = f.at in
      record {
        state = sym h.state ∙ g.state ∙ w.state;
        gone = sym h.gone ∙ g.gone ∙ w.gone;
        site = sym h.site ∙ s ∙ w.site;
        first = omega (arith, hc, c, wc, e);
        at = omega (arith, ba, p, e, l, some);
        plain = no_newline text run offset on.before.ch there e w.ch g.plain;
      }

  pub typed_joint : (b : Run) → IsFrontOf text cells b → are_joint run b ≡ true
  typed_joint b f = joint run b (by_cells cells refl) where
    by_cells : (l : List (Cell ℕ)) → cells ≡ l → AreJoint run b
    by_cells [] e = absurd (let w = f.within in let s = f.run.some in let n = ap (λ (l : List (Cell ℕ)). length l) e in omega (arith, w, s, n))
    by_cells (a ∷ rest) e = joint_first a rest b e f

-- NO OTHER RUN HAS A STAMP OF THE LONGER ONE

all_mid : (P : Run → Type 0) (left : List Run) (x : Run) (right : List Run) → AllByRecursion P left → P x → AllByRecursion P right → AllByRecursion P (left ++ x ∷ right)
all_mid P [] x right a p b = (p, b)
all_mid P (y ∷ left) x right a p b = (a.0, all_mid P left x right a.1 p b)

module _ (text : List ℕ) (cells : List (Cell ℕ)) (run b : Run) (is : IsRun text run) (f : IsFrontOf text cells b) (j : AreJoint run b) where
  new_stamp : (s : Stamp) → has_cell b s ≡ true → 1 ≤ occurrences s cells
  new_stamp s h = let a = occurs_run text b s f.run h in let q = occurs-parts s b.len cells in let i = ap (occurrences s) f.same in omega (arith, a, q, i)

  none_in : (rs : List Run) → AllByRecursion (IsRun text) rs → ((s : Stamp) → occurrences s (cells_of_runs text rs) + (occurrences s (run_cells text run) + occurrences s cells) ≤ 1) → AllByRecursion (λ (r : Run). is_shared_by (run_joined run b) r ≡ false) rs
  none_in [] kept once = tt
  none_in (r ∷ rs) kept once = (
    split (is_shared_by (run_joined run b) r)
        (λ t. split (has_cell r (first_stamp run))
        (λ h.
        let s = first_stamp run in
        let x = occurs_run text r s kept.0 h in
        let y = occurs_run text run s is (first_has run is.some) in
        let p = occurs-append s (run_cells text r) (cells_of_runs text rs) in
        let o = once s in
        absurd (omega (arith, x, y, p, o)))
        (λ n.
        let s = first_stamp r in
        let x = occurs_run text r s kept.0 (first_has r kept.0.some) in
        let p = occurs-append s (run_cells text r) (cells_of_runs text rs) in
        let o = once s in
        let h = shared_first (run_joined run b) r t n in
        split (has_cell run s)
        (λ mine. let y = occurs_run text run s is mine in absurd (omega (arith, x, y, p, o)))
        (λ other. let y = new_stamp s (either_has run b s j h other) in absurd (omega (arith, x, y, p, o)))))
        (λ n. n),
    none_in rs kept.1 (λ s. let p = occurs-append s (run_cells text r) (cells_of_runs text rs) in let o = once s in omega (arith, p, o)),
  )

right_runs : (text : List ℕ) (a : List Run) (x : Run) (b : List Run) → AllByRecursion (IsRun text) (a ++ x ∷ b) → AllByRecursion (IsRun text) b
right_runs text [] x b h = h.1
right_runs text (y ∷ a) x b h = right_runs text a x b h.1

pub typed_apart : (text : List ℕ) (left : List Run) (run : Run) (right : List Run) (cells : List (Cell ℕ)) (b : Run) → AllByRecursion (IsRun text) (left ++ run ∷ right) → IsFrontOf text cells b → AreJoint run b → AreOnce (cells_of_runs text (left ++ run ∷ right)) cells
    → list_any (is_shared_by (if run.len == 1 then run_joined run b else b)) (left ++ run ∷ right) ≡ true → ⊥
typed_apart text left run right cells b all f j once e = split (run.len == 1)
    (λ one.
    let own : is_shared_by (run_joined run b) run ≡ false = ap (λ (x : Bool). x && (has_cell run (first_stamp (run_joined run b)) || has_cell (run_joined run b) (first_stamp run))) (ap (nat_lt 1) (eqb-true run.len 1 one)) in
    let none = none_shared (run_joined run b) old (all_mid (λ (r : Run). is_shared_by (run_joined run b) r ≡ false) left run right (none_in text cells run b is f j left lefts once_left) own (none_in text cells run b is f j right rights once_right)) in
    true≢false (sym e ∙ ap (λ (t : Bool). list_any (is_shared_by (if t then run_joined run b else b)) old) one ∙ none))
    (λ more. shared_twice text old b cells all f once (sym (ap (λ (t : Bool). list_any (is_shared_by (if t then run_joined run b else b)) old) more) ∙ e))
  where
    old : List Run
    old = left ++ run ∷ right

    is : IsRun text run
    is = each-mid (IsRun text) left run right all

    lefts : AllByRecursion (IsRun text) left
    lefts = all_left text left (run ∷ right) all

    rights : AllByRecursion (IsRun text) right
    rights = right_runs text left run right all

    parts : (s : Stamp) → occurrences s (cells_of_runs text old) ≡ occurrences s (cells_of_runs text left) + (occurrences s (run_cells text run) + occurrences s (cells_of_runs text right))
    parts s =
        let a = ap (occurrences s) (flat_map-append (run_cells text) left (run ∷ right)) ∙ occurs-append s (cells_of_runs text left) (run_cells text run ++ cells_of_runs text right) in
        let c = occurs-append s (run_cells text run) (cells_of_runs text right) in
        omega (arith, a, c)

    once_left : (s : Stamp) → occurrences s (cells_of_runs text left) + (occurrences s (run_cells text run) + occurrences s cells) ≤ 1
    once_left s = let p = parts s in let o = once s in omega (arith, p, o)

    once_right : (s : Stamp) → occurrences s (cells_of_runs text right) + (occurrences s (run_cells text run) + occurrences s cells) ≤ 1
    once_right s = let p = parts s in let o = once s in omega (arith, p, o)

-- WHAT IS SHOWN

low_runs : (text longer : List ℕ) (n : ℕ) (rs : List Run) → length longer ≡ length text + n → AllByRecursion (IsRun text) rs → AllByRecursion (λ (r : Run). r.at + r.len + n ≤ length longer) rs
low_runs text longer n [] more kept = tt
low_runs text longer n (r ∷ rs) more kept = (let s = kept.0.stands in omega (arith, s, more), low_runs text longer n rs more kept.1)

pub typed_in : (text longer : List ℕ) (rs : List Run) (at : ℕ) (cells : List (Cell ℕ)) (s : TreeValue) → AllByRecursion (IsRun text) rs → length longer ≡ length text + length cells → length text ≡ (counts_of rs).cells
    → cells_of_runs longer rs ≡ cells_of_runs text rs → cells_of_runs text rs ≡ s.cells → came_of rs ≡ s.came → AreTypedOn s at cells → GoOnIn longer rs at cells
typed_in text longer rs at cells s kept more all grown shown came on =
    let n = counted text rs kept in
    let l = ap (λ (x : List (Cell ℕ)). length x) shown in
    let e : length s.cells - 1 ≡ length longer - length cells - 1 = (let k = n.cells in omega (arith, k, l, more, all)) in
    record {
      before = on.before;
      some = on.some;
      there = ap (λ (x : List (Cell ℕ)). slice_get x (at - 1)) (grown ∙ shown) ∙ on.there;
      last = ap (λ x. slice_get x (at - 1)) came ∙ on.last ∙ ap Some e;
      one = on.one;
      old = low_runs text longer (length cells) rs more kept;
    }

-- what goes on from the last of cells that were put in is typed on
pub typed_next : (text : List ℕ) (new : List Run) (at : ℕ) (was added more : List (Cell ℕ)) (s : TreeValue) → s.cells ≡ put_at at added was → s.came ≡ came_of new → at ≤ length was
    → EndsThere new (at + length added) (length text) → length s.cells ≡ length text → GoOn added more → AreTypedOn s (at + length added) more
typed_next text new at was added more s cells came le ends all on =
    let lt = slice_get_within added (length added - 1) on.last on.is in
    let e : length text - 1 ≡ length s.cells - 1 = omega (arith, all) in
    record {
      before = on.last;
      some = omega (arith, lt);
      there = ap (λ (x : List (Cell ℕ)). slice_get x (at + length added - 1)) cells ∙ put_last at added was on.last le on.is;
      last = ap (λ x. slice_get x (at + length added - 1)) came ∙ ends_last new (at + length added) (length text) ends ∙ ap Some e;
      one = on.one;
    }
