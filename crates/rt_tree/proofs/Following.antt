-- Stretches of cells that follow one another.
use Rattle.std.proofs.Common.{◌≡◌, ℕ, zero, suc, ◌+◌, ◌-◌, ◌^◌, ◌<◌, ◌≤◌, ◌==◌, not, Bool, true, false, List, [], ◌∷◌, length, map, take, drop, get_or, refl, sym, ap, ◌∙◌, arith, subst, if◌then◌else◌}
use Rattle.std.proofs.Math.Bool.{beq}
use Rattle.std.specs.Cmp.{booleans_Decides}
use Rattle.std.proofs.lemmas.Bool.{and_parts, eqb-true}
use Rattle.std.proofs.lemmas.List.{length-take-le, take-map}
use Rattle.rt_stamps.proofs.Order.{same_from_true}
use Rattle.rt_stamps.specs.Places.{newlines}
use Rattle.rt_stamps.specs.Stamps.{is_same}
use Rattle.rt_stamps.specs.declared.stamp.Stamp.{Stamp}
use Rattle.rt_store.specs.declared.cell.Cell.{Cell}
use Rattle.rt_store.specs.Cells.{cells_from}
use Rattle.rt_store.specs.Spans.{next_stamp}
use Rattle.rt_tree.specs.Additions.{EndsWith, IsRunOf, IsStretch, follows, run_from, stretch_count}
use Rattle.rt_tree.specs.Runs.{with_gone}
use Rattle.rt_tree.proofs.Around.{test_other, test_same}

-- what it is to follow
pub record Follows (a b : Cell ℕ) : Type 0 where
  pub state : b.state ≡ a.state
  pub gone : b.gone ≡ a.gone
  pub stamp : b.stamp ≡ next_stamp a.stamp
  pub plain : a.ch ≡ 10 → ⊥

abbrev bit : Bool → ℕ
bit b = if b then 0 else 1

not_true : (b : Bool) → not b ≡ true → bit b ≡ 1
not_true true h = sym (ap bit h)
not_true false h = refl

not_ten : (n : ℕ) → not (n == 10) ≡ true → n ≡ 10 → ⊥
not_ten n t e = let s : bit (n == 10) ≡ 0 = test_same {X = ℕ} n 10 0 1 e in let o = not_true (n == 10) t in omega (arith, s, o)

pub follows_true : (a b : Cell ℕ) → follows a b ≡ true → Follows a b
follows_true a b t =
    let p = and_parts (b.state == a.state) _ t in
    let q = and_parts (beq b.gone a.gone) _ p.1 in
    let r = and_parts (is_same b.stamp (next_stamp a.stamp)) _ q.1 in
    record {
      state = eqb-true b.state a.state p.0;
      gone = (booleans_Decides b.gone a.gone).0 q.0;
      stamp = same_from_true b.stamp (next_stamp a.stamp) r.0;
      plain = not_ten a.ch r.1;
    }

-- where a cell doesn't follow a stretch ends
break : (b : Bool) → bit b ≡ 0 → b ≡ true
break true e = refl
break false e = absurd (omega (arith, e))

pub stretches_some : (a : Cell ℕ) (cells : List (Cell ℕ)) → 1 ≤ stretch_count (a ∷ cells)
stretches_some a [] = omega arith
stretches_some a (b ∷ cells) = let h = stretches_some b cells in omega (arith, h)

one_bit : (b : Bool) → bit b ≤ 1
one_bit true = omega arith
one_bit false = omega arith

pub stretches_few : (cells : List (Cell ℕ)) → stretch_count cells ≤ length cells
stretches_few [] = omega arith
stretches_few (a ∷ []) = omega arith
stretches_few (a ∷ b ∷ cells) = let h = stretches_few (b ∷ cells) in let o = one_bit (follows a b) in omega (arith, h, o)

-- fewer cells, no more stretches
pub stretches_drop : (n : ℕ) (cells : List (Cell ℕ)) → stretch_count (drop n cells) ≤ stretch_count cells
stretches_drop zero cells = omega arith
stretches_drop (suc n) [] = omega arith
stretches_drop (suc n) (a ∷ []) = let h = stretches_drop n [] in omega (arith, h)
stretches_drop (suc n) (a ∷ b ∷ cells) = let h = stretches_drop n (b ∷ cells) in omega (arith, h)

-- one more cell that follows
pub stretch_more : (cells : List (Cell ℕ)) (i : ℕ) (x y : Cell ℕ) → suc i < length cells → x ≡ get_or cells i x → y ≡ get_or cells (suc i) y → follows x y ≡ true → stretch_count (take (suc i) cells) ≡ 1 → stretch_count (take (suc (suc i)) cells) ≡ 1
stretch_more [] i x y lt ex ey f one = absurd (omega arith)
stretch_more (a ∷ []) i x y lt ex ey f one = absurd (omega arith)
stretch_more (a ∷ b ∷ cells) zero x y lt ex ey f one = let t : follows a b ≡ true = ap (λ c. follows c b) (sym ex) ∙ ap (follows x) (sym ey) ∙ f in ap (λ (c : Bool). (if c then 0 else 1) + 1) t
stretch_more (a ∷ b ∷ cells) (suc i) x y lt ex ey f one =
    let some = stretches_some b (take i cells) in
    let rest : stretch_count (b ∷ take i cells) ≡ 1 = omega (arith, one, some) in
    let h = stretch_more (b ∷ cells) i x y (omega arith) ex ey f rest in
    omega (arith, one, some, h)

-- a cell that doesn't follow begins another stretch
pub stretch_ends : (cells : List (Cell ℕ)) (i : ℕ) (x y : Cell ℕ) → suc i < length cells → x ≡ get_or cells i x → y ≡ get_or cells (suc i) y → follows x y ≡ false → stretch_count cells ≡ stretch_count (take (suc i) cells) + stretch_count (drop (suc i) cells)
stretch_ends [] i x y lt ex ey f = absurd (omega arith)
stretch_ends (a ∷ []) i x y lt ex ey f = absurd (omega arith)
stretch_ends (a ∷ b ∷ cells) zero x y lt ex ey f = let t : follows a b ≡ false = ap (λ c. follows c b) (sym ex) ∙ ap (follows x) (sym ey) ∙ f in ap (λ (c : Bool). (if c then 0 else 1) + stretch_count (b ∷ cells)) t
stretch_ends (a ∷ b ∷ cells) (suc i) x y lt ex ey f = let h = stretch_ends (b ∷ cells) i x y (omega arith) ex ey f in omega (arith, h)

-- the cells of one stretch: counts from the first on, one site, one state, gone or not
pub one_cells : (a : Cell ℕ) (cells : List (Cell ℕ)) → stretch_count (a ∷ cells) ≡ 1 → map (with_gone a.gone) (cells_from a.stamp.count a.stamp.site a.state (map (λ (c : Cell ℕ). c.ch) (a ∷ cells))) ≡ a ∷ cells
one_cells a [] one = refl
one_cells a (b ∷ cells) one =
    let some = stretches_some b cells in
    let f = follows_true a b (break (follows a b) (omega (arith, one, some))) in
    let h = one_cells b cells (omega (arith, one, some)) in
    let rest = map (λ (c : Cell ℕ). c.ch) (b ∷ cells) in
    let same : map (with_gone a.gone) (cells_from (a.stamp.count + 1) a.stamp.site a.state rest) ≡ map (with_gone b.gone) (cells_from b.stamp.count b.stamp.site b.state rest) =
    ap (λ g. map (with_gone g) (cells_from (a.stamp.count + 1) a.stamp.site a.state rest)) (sym f.gone)
    ∙ ap (λ (s : Stamp). map (with_gone b.gone) (cells_from s.count s.site a.state rest)) (sym f.stamp)
    ∙ ap (λ s. map (with_gone b.gone) (cells_from b.stamp.count b.stamp.site s rest)) (sym f.state) in
    ap (λ l. a ∷ l) (same ∙ h)

-- no newline but at the end
pub one_line : (a : Cell ℕ) (cells : List (Cell ℕ)) → stretch_count (a ∷ cells) ≡ 1 → newlines (take (length cells) (map (λ (c : Cell ℕ). c.ch) (a ∷ cells))) ≡ 0
one_line a [] one = refl
one_line a (b ∷ cells) one =
    let some = stretches_some b cells in
    let f = follows_true a b (break (follows a b) (omega (arith, one, some))) in
    let h = one_line b cells (omega (arith, one, some)) in
    let more = newlines (take (length cells) (map (λ (c : Cell ℕ). c.ch) (b ∷ cells))) in
    test_other a.ch 10 (more + 1) more f.plain ∙ h

-- the last cell
last_count : (a : Cell ℕ) (cells : List (Cell ℕ)) (d : Cell ℕ) → stretch_count (a ∷ cells) ≡ 1 → (get_or (a ∷ cells) (length cells) d).stamp.count ≡ a.stamp.count + length cells
last_count a [] d one = omega arith
last_count a (b ∷ cells) d one =
    let some = stretches_some b cells in
    let f = follows_true a b (break (follows a b) (omega (arith, one, some))) in
    let h = last_count b cells d (omega (arith, one, some)) in
    let n : b.stamp.count ≡ a.stamp.count + 1 = ap (λ (s : Stamp). s.count) f.stamp in
    omega (arith, h, n)

last_line : (a : Cell ℕ) (cells : List (Cell ℕ)) (d : Cell ℕ) → stretch_count (a ∷ cells) ≡ 1 → newlines (map (λ (c : Cell ℕ). c.ch) (a ∷ cells)) ≡ (if (get_or (a ∷ cells) (length cells) d).ch == 10 then 1 else 0)
last_line a [] d one = refl
last_line a (b ∷ cells) d one =
    let some = stretches_some b cells in
    let f = follows_true a b (break (follows a b) (omega (arith, one, some))) in
    let h = last_line b cells d (omega (arith, one, some)) in
    let more = newlines (map (λ (c : Cell ℕ). c.ch) (b ∷ cells)) in
    test_other a.ch 10 (more + 1) more f.plain ∙ h

-- a stretch ends before a cell that doesn't follow, and goes on with one that does
pub stretch_done : (cells : List (Cell ℕ)) (i : ℕ) (x y : Cell ℕ) → 1 ≤ i → i < length cells → x ≡ get_or cells (i - 1) x → y ≡ get_or cells i y → follows x y ≡ false → stretch_count (take i cells) ≡ 1 → IsStretch cells i
stretch_done cells zero x y some lt ex ey f one = absurd (omega (arith, some))
stretch_done cells (suc i) x y some lt ex ey f one =
    let z : suc i - 1 ≡ i = omega arith in
    let e = stretch_ends cells i x y lt (ex ∙ ap (λ n. get_or cells n x) z) ey f in
    record { within = omega (arith, lt); one = one; longest = omega (arith, e, one) }

pub stretch_goes : (cells : List (Cell ℕ)) (i : ℕ) (x y : Cell ℕ) → 1 ≤ i → i < length cells → x ≡ get_or cells (i - 1) x → y ≡ get_or cells i y → follows x y ≡ true → stretch_count (take i cells) ≡ 1 → stretch_count (take (i + 1) cells) ≡ 1
stretch_goes cells zero x y some lt ex ey f one = absurd (omega (arith, some))
stretch_goes cells (suc i) x y some lt ex ey f one =
    let z : suc i - 1 ≡ i = omega arith in
    let n : suc i + 1 ≡ suc (suc i) = omega arith in
    ap (λ k. stretch_count (take k cells)) n ∙ stretch_more cells i x y lt (ex ∙ ap (λ n. get_or cells n x) z) ey f one

-- the run of a stretch
pub run_is : (text : List ℕ) (cells : List (Cell ℕ)) (len : ℕ) (first last : Cell ℕ) → IsStretch cells len → 0 < length cells → EndsWith text cells → first ≡ get_or cells 0 first → last ≡ get_or cells (len - 1) last → last.stamp.count < 2 ^ 64
    → IsRunOf text cells (run_from first (length text - length cells) len (last.ch == 10))
run_is text [] len first last is some ends ef el fits = absurd (omega (arith, some))
run_is text (a ∷ rest) zero first last is some ends ef el fits = absurd (let o = is.one in omega (arith, o))
run_is text (a ∷ rest) (suc n) first last is some ends ef el fits =
    let z : suc n - 1 ≡ n = omega arith in
    let xs = take n rest in
    let long : length xs ≡ n = length-take-le n rest (let w = is.within in omega (arith, w)) in
    let one : stretch_count (a ∷ xs) ≡ 1 = is.one in
    let at = length text - length (a ∷ rest) in
    let chars : take (suc n) (drop at text) ≡ map (λ (c : Cell ℕ). c.ch) (a ∷ xs) = ap (take (suc n)) ends.last ∙ take-map (λ (c : Cell ℕ). c.ch) (suc n) (a ∷ rest) in
    let there : last ≡ get_or (a ∷ xs) (length xs) last = el ∙ ap (λ k. get_or (a ∷ rest) k last) z ∙ shorter n (a ∷ rest) last (suc n) (omega arith) ∙ ap (λ k. get_or (a ∷ xs) k last) (sym long) in
    let count = ap (λ (c : Cell ℕ). c.stamp.count) there ∙ last_count a xs last one in
    let newline = last_line a xs last one ∙ ap (λ (c : Cell ℕ). if c.ch == 10 then 1 else 0) (sym there) in
    let same : first ≡ a = ef in
    subst (λ (f : Cell ℕ). IsRunOf text (a ∷ rest) (run_from f at (suc n) (last.ch == 10))) (sym same)
    (record {
      stretch = is;
      front = record {
        within = is.within;
        at = refl;
        run = record {
          some = omega arith;
          stands = (let w = is.within in let l = ends.long in omega (arith, w, l));
          counts = omega (arith, count, fits, long);
          plain = ap (λ l. newlines (take (suc n - 1) l)) chars ∙ ap (λ k. newlines (take k (map (λ (c : Cell ℕ). c.ch) (a ∷ xs)))) (z ∙ sym long) ∙ one_line a xs one;
          ends = ap newlines chars ∙ newline;
        };
        same = ap (λ l. map (with_gone a.gone) (cells_from a.stamp.count a.stamp.site a.state l)) chars ∙ one_cells a xs one;
      };
    })
  where
    shorter : (k : ℕ) (l : List (Cell ℕ)) (d : Cell ℕ) (m : ℕ) → k < m → get_or l k d ≡ get_or (take m l) k d
    shorter k [] d zero lt = absurd (omega (arith, lt))
    shorter k (x ∷ l) d zero lt = absurd (omega (arith, lt))
    shorter k [] d (suc m) lt = refl
    shorter zero (x ∷ l) d (suc m) lt = refl
    shorter (suc k) (x ∷ l) d (suc m) lt = shorter k l d m (omega (arith, lt))
