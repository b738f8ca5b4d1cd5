-- Several characters, characters_from one after another.
use Rattle.std.proofs.Common.{◌≡◌, ℕ, suc, true, false, inl, inr, refl, sym, ap, ◌∙◌, arith, List, [], ◌∷◌, ◌++◌, append_assoc, ◌||◌, take, drop, map}
use Rattle.std.proofs.lemmas.Bool.Decides.{nat_tests}
use Rattle.std.proofs.lemmas.List.Folds.{list_any-append}
use Rattle.std.proofs.lemmas.List.{take-append-drop}
use Rattle.std.specs.List.{AllByRecursion}
use Rattle.rt_stamps.specs.declared.stamp.Stamp.{Stamp}
use Rattle.rt_stamps.specs.Stamps.{is_before, is_same}
use Rattle.rt_stamps.specs.declared.stamp.TheConstants.{ROOT}
use Rattle.rt_rga.specs.Reading.{Character, reading_by_stamp, with_character, with_characters, has_stamp}
use Rattle.rt_rga.proofs.Rooted.{IsTree}
use Rattle.rt_stamps.proofs.Order.{same_refl, differ}
use Rattle.rt_rga.proofs.Skipping.{skip, skip_after_left, placed, split, AllAfter, all_descendants, placed_after, after_at, all_after_trans}
use Rattle.rt_store.specs.Cells.{put_at}
use Rattle.rt_store.proofs.Places.{after_skip, past, past_after}
use Rattle.rt_rga.proofs.Trees.{Fits, law_tree, tree_with, member_with, all_from_absent, complete}

-- characters inserted one after another: each has the one before it as its left element, the first has `left`
abbrev pub IsRun : Stamp → List Character → Type 0
IsRun left [] = Unit {0}
IsRun left (c ∷ cs) = (c.left ≡ left) × (is_before left c.stamp ≡ true) × IsRun c.stamp cs

abbrev pub stamps_read : List Character → List Stamp
stamps_read cs = map (λ c. c.stamp) cs

-- nothing directly following is greater
abbrev pub Stops : Stamp → List Character → Type 0
Stops s [] = Unit {0}
Stops s (d ∷ ds) = is_before s d.stamp ≡ false

absent_from_all : (s : Stamp) (cs : List Character) → AllByRecursion (λ d. is_same d.stamp s ≡ false) cs → has_stamp cs s ≡ false
absent_from_all s [] h = refl
absent_from_all s (c ∷ cs) h = grind (arith, h.0, absent_from_all s cs h.1)

-- the reading has the characters and no others
pub sound : (cs : List Character) (s : Stamp) → has_stamp cs s ≡ false → has_stamp (reading_by_stamp cs) s ≡ false
sound cs s h = absent_from_all s (reading_by_stamp cs) (all_descendants (λ d. is_same d.stamp s ≡ false) cs (all_from_absent s cs h) ROOT)

after_root : (p s : Stamp) → is_before p s ≡ true → is_same s ROOT ≡ false
after_root p s h = grind (arith, nat_tests)

not_past : (l c d : Stamp) → is_before l c ≡ true → is_before l d ≡ false → is_before c d ≡ false
not_past l c d h k = grind (arith, nat_tests)

skip_at_once : (new : Character) (xs : List Character) → Stops new.stamp xs → skip new xs ≡ new ∷ xs
skip_at_once new [] h = refl
skip_at_once new (x ∷ xs) h = rw h

stops_later : (l c : Stamp) (xs : List Character) → is_before l c ≡ true → Stops l xs → Stops c xs
stops_later l c [] h k = tt
stops_later l c (x ∷ xs) h k = not_past l c x.stamp h k

-- a place in the list where a new character goes
pub record IsPlace (new : Character) (xs ys : List Character) (n : ℕ) : Type 0 where
  pub is : ys ≡ take n xs ++ new ∷ drop n xs
  pub stops : Stops new.stamp (drop n xs)

place_later : (new x : Character) (xs ys : List Character) (n : ℕ) → IsPlace new xs ys n → IsPlace new (x ∷ xs) (x ∷ ys) (suc n)
place_later new x xs ys n h = record { is = ap (λ zs. x ∷ zs) h.is; stops = h.stops }

skip_place : (new : Character) (xs : List Character) → IsPlace new xs (skip new xs) (past new.stamp (stamps_read xs))
skip_place new [] = record { is = refl; stops = tt }
skip_place new (x ∷ xs) = split (is_before new.stamp x.stamp)
    (λ e. rw e (place_later new x xs (skip new xs) (past new.stamp (stamps_read xs)) (skip_place new xs)))
    (λ e. rw e (record { is = refl; stops = e }))

after_place : (new : Character) (xs : List Character) → has_stamp xs new.left ≡ true
    → IsPlace new xs (skip_after_left new xs) (past_after new.left new.stamp (stamps_read xs))
after_place new [] m = absurd (cc m)
after_place new (x ∷ xs) m = split (is_same x.stamp new.left)
    (λ e. rw e (place_later new x xs (skip new xs) (past new.stamp (stamps_read xs)) (skip_place new xs)))
    (λ e. rw e (place_later new x xs (skip_after_left new xs) (past_after new.left new.stamp (stamps_read xs)) (after_place new xs (grind arith))))

pub place : (new : Character) (cs : List Character) → IsTree cs → Fits new cs
    → IsPlace new (reading_by_stamp cs) (reading_by_stamp (with_character new cs)) (after_skip new.left new.stamp (stamps_read (reading_by_stamp cs)))
place new cs t f =
    rw (law_tree new cs t f ROOT)
    (split (is_same new.left ROOT)
    (λ e. rw e (skip_place new (reading_by_stamp cs)))
    (λ e. rw e (after_place new (reading_by_stamp cs) (complete cs t new.left (elim f.known [
      | inl k ↦ k
      | inr k ↦ absurd (let n = same_refl ROOT in let o : is_same ROOT ROOT ≡ false = rw k at e in cc (n, o))
    ])))))

-- the rest of a run goes directly after its first character
front_more : (front : List Character) (l : Character) (xs : List Character) → (front ++ l ∷ []) ++ xs ≡ front ++ l ∷ xs
front_more front l xs = append_assoc front (l ∷ []) xs

record IsBehind (l : Character) (front back cs : List Character) : Type 0 where
  tree : IsTree cs
  known : has_stamp cs l.stamp ≡ true
  after_root : is_same l.stamp ROOT ≡ false
  reads : reading_by_stamp cs ≡ front ++ l ∷ back
  absent : has_stamp front l.stamp ≡ false
  stops : Stops l.stamp back

behind_more : (l new : Character) (front back cs : List Character) → IsBehind l front back cs → new.left ≡ l.stamp → is_before l.stamp new.stamp ≡ true
    → has_stamp cs new.stamp ≡ false → IsBehind new (front ++ l ∷ []) back (with_character new cs)
behind_more l new front back cs b e h f =
    let fits : Fits new cs = record { greater = rw e h; known = inl (rw e b.known); fresh = f } in
    let s : is_same new.left ROOT ≡ false = rw e b.after_root in
    let g : has_stamp front new.left ≡ false = rw e b.absent in
    let i : is_same l.stamp new.left ≡ true = rw e (same_refl l.stamp) in
    let stops : Stops new.stamp back = stops_later l.stamp new.stamp back h b.stops in
    let absent : has_stamp (front ++ l ∷ back) new.stamp ≡ false = rw b.reads at (sound cs new.stamp f) in
    let parts : (has_stamp front new.stamp || (is_same l.stamp new.stamp || has_stamp back new.stamp)) ≡ false
    = sym (list_any-append (λ d. is_same d.stamp new.stamp) front (l ∷ back)) ∙ absent in
    record {
      tree = tree_with new cs b.tree fits;
      known = rw (member_with new cs new.stamp, same_refl new.stamp);
      after_root = after_root l.stamp new.stamp h;
      reads = law_tree new cs b.tree fits ROOT ∙ ap (placed ROOT new) b.reads ∙ placed_after new ROOT (front ++ l ∷ back) s
          ∙ after_at new l front back g i ∙ ap (λ xs. front ++ l ∷ xs) (skip_at_once new back stops) ∙ sym (front_more front l (new ∷ back));
      absent = list_any-append (λ d. is_same d.stamp new.stamp) front (l ∷ []) ∙ grind arith;
      stops = stops;
    }

abbrev pub AllFresh : List Character → List Character → Type 0
AllFresh new cs = AllByRecursion (λ c. has_stamp cs c.stamp ≡ false) new

both : (P Q R : Character → Type 0) → ((d : Character) → P d → Q d → R d) → (xs : List Character) → AllByRecursion P xs → AllByRecursion Q xs → AllByRecursion R xs
both P Q R w [] h k = tt
both P Q R w (x ∷ xs) h k = (w x h.0 k.0, both P Q R w xs h.1 k.1)

pub run_after : (left : Stamp) (cs : List Character) → IsRun left cs → AllAfter left cs
run_after left [] r = tt
run_after left (c ∷ cs) r = (r.1, all_after_trans left c.stamp r.1 cs (run_after c.stamp cs r.2))

-- those after a character of the run stay fresh once it stands
pub still_fresh : (c : Character) (rest cs : List Character) → IsRun c.stamp rest → AllFresh rest cs → AllFresh rest (with_character c cs)
still_fresh c rest cs r f =
    both (λ d. is_before c.stamp d.stamp ≡ true) (λ d. has_stamp cs d.stamp ≡ false) (λ d. has_stamp (with_character c cs) d.stamp ≡ false)
    (λ d a b. member_with c cs d.stamp ∙ grind (arith, differ c.stamp d.stamp a, b)) rest (run_after c.stamp rest r) f

run_reading : (rest : List Character) (l : Character) (front back cs : List Character) → IsBehind l front back cs → IsRun l.stamp rest → AllFresh rest cs
    → reading_by_stamp (with_characters rest cs) ≡ front ++ l ∷ (rest ++ back)
run_reading [] l front back cs b r f = b.reads
run_reading (c ∷ rest) l front back cs b r f =
    run_reading rest c (front ++ l ∷ []) back (with_character c cs) (behind_more l c front back cs b r.0 r.1 f.0) r.2 (still_fresh c rest cs r.2 f.1)
    ∙ front_more front l (c ∷ (rest ++ back))

-- what asks the tree to take a run
pub record FitsRun (new : Character) (rest cs : List Character) : Type 0 where
  pub first : Fits new cs
  pub run : IsRun new.stamp rest
  pub fresh : AllFresh rest cs

pub tree_run : (rest : List Character) (new : Character) (cs : List Character) → IsTree cs → FitsRun new rest cs → IsTree (with_characters (new ∷ rest) cs)
tree_run [] new cs t f = tree_with new cs t f.first
tree_run (c ∷ rest) new cs t f = tree_run rest c (with_character new cs) (tree_with new cs t f.first)
    (record {
      first = record { greater = rw f.run.0 f.run.1; known = inl (rw (f.run.0, member_with new cs new.stamp, same_refl new.stamp)); fresh = (still_fresh new (c ∷ rest) cs f.run f.fresh).0 };
      run = f.run.2;
      fresh = (still_fresh new (c ∷ rest) cs f.run f.fresh).1;
    })

-- The law of skipping, for any number of characters.
pub law_run : (new : Character) (rest cs : List Character) → IsTree cs → FitsRun new rest cs
    → reading_by_stamp (with_characters (new ∷ rest) cs) ≡ put_at (after_skip new.left new.stamp (stamps_read (reading_by_stamp cs))) (new ∷ rest) (reading_by_stamp cs)
law_run new rest cs t f =
    let xs = reading_by_stamp cs in
    let n = after_skip new.left new.stamp (stamps_read (reading_by_stamp cs)) in
    let p = place new cs t f.first in
    let absent : has_stamp (take n xs ++ drop n xs) new.stamp ≡ false = rw (take-append-drop n xs) (sound cs new.stamp f.first.fresh) in
    let parts : (has_stamp (take n xs) new.stamp || has_stamp (drop n xs) new.stamp) ≡ false
    = sym (list_any-append (λ d. is_same d.stamp new.stamp) (take n xs) (drop n xs)) ∙ absent in
    run_reading rest new (take n xs) (drop n xs) (with_character new cs)
    (record {
      tree = tree_with new cs t f.first;
      known = rw (member_with new cs new.stamp, same_refl new.stamp);
      after_root = after_root new.left new.stamp f.first.greater;
      reads = p.is;
      absent = grind arith;
      stops = p.stops;
    })
    f.run (still_fresh new rest cs f.run f.fresh)
