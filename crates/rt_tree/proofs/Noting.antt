-- Summaries that are put right from a leaf up.
use Rattle.std.proofs.Common.{◌≡◌, ◌≢◌, ℕ, zero, suc, ◌+◌, ◌<◌, ◌≤◌, List, [], ◌∷◌, ◌++◌, length, take, drop, get_or, refl, sym, ap, ◌∙◌, arith, subst, append-nil, append_assoc, Option, None, Some, inl, inr}
use Rattle.std.specs.Prelude.{IfSome, nat_lt}
use Rattle.std.proofs.lemmas.Bool.{cases_eq, ltb-false, ltb-true}
use Rattle.rt_store.proofs.Distinct.{split}
use Rattle.std.specs.List.{AllByRecursion}
use Rattle.std.proofs.lemmas.List.{length-take-le}
use Rattle.std.proofs.lemmas.List.Concat.{flat_map-append}
use Rattle.rt_nodes.specs.Nodes.{entries}
use Rattle.rt_tags.specs.Borders.{either, first, last, one_or_none}
use Rattle.rt_tags.specs.States.{TagStates}
use Rattle.rt_tags.proofs.Bordering.{first_of, last_of}
use Rattle.rt_tree.specs.declared.node.Entry.{Entry}
use Rattle.rt_tree.specs.declared.node.Entry.TheVariants.{Down, Here}
use Rattle.rt_tree.specs.declared.summary.Summary.{Summary}
use Rattle.rt_tree.specs.Changes.{above, bare, kid, strip}
use Rattle.rt_tree.specs.Shape.{Fits, IsShape, Memory, all_below, below, child_count, left_of, level_of, parent_of, right_of, runs}
use Rattle.rt_tree.specs.Summaries.{AreSummedBut, HasEnds, IsSummary, left_in, right_in, shown_before, shown_behind, shown_states, summary_of}
use Rattle.rt_tree.proofs.Around.{below_top, leads_to, node, take-left}
use Rattle.rt_tree.proofs.Bares.{bare-entries}
use Rattle.rt_tree.proofs.Exact.{each-all}
use Rattle.rt_tree.proofs.Frame.{apart}
use Rattle.rt_tree.proofs.Passes.{parts-at}
use Rattle.rt_tree.proofs.Paths.{apart_five, at, drop_past, path}
use Rattle.rt_tree.proofs.Reaching.{shown-append}
use Rattle.rt_tree.proofs.Wholes.{count-bare}

pub leads : (e : Entry) (id : ℕ) → strip e ≡ kid id → leads_to e id
leads (Here r) id h = absurd (cc)
leads (Down c ts) id h = let g : c ≡ record { index = id } = cc in ap (λ n. n.index) g

-- summaries are right below a level
abbrev pub AreRightBelow : Memory → TagStates → List Summary → ℕ → Type 0
AreRightBelow m table sums k = (c : ℕ) → c < length m.heads → level_of m c < k → IsSummary table (shown_states (runs m (level_of m c) c)) (summary_of sums c)

-- what a node above an entry had, whose summary is still the first one
pub was_is : (table : TagStates) (m : Memory) (first_sums sums : List Summary) (height x i : ℕ) (old : Option ℕ) → AreSummedBut table m first_sums height x i old
    → (j p : ℕ) → j ≤ height → p ≡ above m j x → summary_of sums p ≡ summary_of first_sums p → IsSummary table (shown_before m j x i ++ (one_or_none old ++ shown_behind m j x i)) (summary_of sums p)
was_is table m first_sums sums height x i old but j p le p_is same =
    subst (IsSummary table (shown_before m j x i ++ (one_or_none old ++ shown_behind m j x i))) (ap (summary_of first_sums) (sym p_is) ∙ sym same) (but.path j le)

-- the last and the first of states are some of them
pub last_all : (P : ℕ → Type 0) (xs : List ℕ) → AllByRecursion P xs → IfSome (last xs) P
last_all P [] all = tt
last_all P (y ∷ xs) all = by (last xs) (last_all P xs all.1)
  where
    by : (o : Option ℕ) → IfSome o P → IfSome (either o (Some y)) P
    by None h = all.0
    by (Some z) h = h

pub first_all : (P : ℕ → Type 0) (xs : List ℕ) → AllByRecursion P xs → IfSome (first xs) P
first_all P [] all = tt
first_all P (y ∷ xs) all = all.0

module _ (m : Memory) (height root : ℕ) (t : IsShape m height root) where
  -- so the entries of a node of that level tell their ends
  pub ends_of : (table : TagStates) (sums : List Summary) (k id : ℕ) → length m.heads ≤ length sums → id < length m.heads → level_of m id ≡ k → AreRightBelow m table sums k → AllByRecursion (HasEnds m k sums) (entries m id)
  ends_of table sums k id many is lvl right = each-all (Fits m id k) (HasEnds m k sums) (λ e f. one k refl e f) (entries m id) (subst (λ n. AllByRecursion (Fits m id n) (entries m id)) lvl (t.fits id is))
    where
      one : (n : ℕ) → n ≡ k → (e : Entry) → Fits m id n e → HasEnds m n sums e
      one zero same (Here r) f = tt
      one zero same (Down c ts) f = absurd f
      one (suc j) same (Here r) f = absurd f
      one (suc j) same (Down c ts) f =
          let low : level_of m c.index < k = omega (arith, f.level, same) in
          let s = subst (λ n. IsSummary table (shown_states (runs m n c.index)) (summary_of sums c.index)) f.level (right c.index f.is low) in
          (omega (arith, f.is, many), s.first, s.last)

  module _ (x : ℕ) (xis : x < length m.heads) (low : level_of m x ≡ 0) (i : ℕ) where
    -- AT THE LEAF

    pub last_first : (k : ℕ) → k ≡ 0 → last (shown_states (all_below m k (take i (entries m x)))) ≡ last (shown_before m 0 x i)
    last_first k z = ap (λ n. last (shown_states (all_below m n (take i (entries m x))))) z

    pub first_first : (k n : ℕ) → k ≡ 0 → n ≡ suc i → first (shown_states (all_below m k (drop n (entries m x)))) ≡ first (shown_behind m 0 x i)
    first_first k n z e = (λ h. first (shown_states (all_below m (z h) (drop (e h) (entries m x))))) ∙ ap (λ rs. first (shown_states rs)) (sym (append-nil (all_below m 0 (drop (suc i) (entries m x)))))

    -- ONE LEVEL UP

    module _ (j : ℕ) (le : suc j ≤ height) where
      abbrev pub id : ℕ
      id = above m j x

      abbrev pub up : ℕ
      up = above m (suc j) x

      abbrev es : List Entry
      es = entries m up

      is : (id < length m.heads) × (level_of m id ≡ j)
      is = at m height root t x xis low j (omega (arith, le))

      pub left_stands : (slot : ℕ) (e : Entry) → slot < length es → e ≡ get_or es slot e → strip e ≡ kid id → take slot es ≡ left_of id es
      left_stands slot e lt here to = take-left id es slot e (t.known id is.0 (below_top m height root t id is.0 (omega (arith, is.1, le)))).once lt here (leads e id to)

      pub right_stands : (slot : ℕ) (e : Entry) → slot < length es → e ≡ get_or es slot e → strip e ≡ kid id → drop (slot + 1) es ≡ right_of id es
      right_stands slot e lt here to =
          let kn = t.known id is.0 (below_top m height root t id is.0 (omega (arith, is.1, le))) in
          let ap' = apart id es kn.once in
          let left = left_stands slot e lt here to in
          let long : length (left_of id es) ≡ slot = ap length (sym left) ∙ length-take-le slot es (omega (arith, lt)) in
          let more : slot + 1 ≡ suc (length (left_of id es)) = omega (arith, long) in
          ap (λ n. drop n es) more ∙ ap (drop (suc (length (left_of id es)))) ap'.cut ∙ drop_past (left_of id es) (Down (node id) ap'.totals) (right_of id es)

      pub before_up : shown_before m (suc j) x i ≡ shown_states (all_below m (suc j) (left_of id es)) ++ shown_before m j x i
      before_up =
          ap shown_states (append_assoc (all_below m (suc j) (left_of id es)) (left_in m j x) (all_below m 0 (take i (entries m x))))
          ∙ shown-append (all_below m (suc j) (left_of id es)) (left_in m j x ++ all_below m 0 (take i (entries m x)))

      pub behind_up : shown_behind m (suc j) x i ≡ shown_behind m j x i ++ shown_states (all_below m (suc j) (right_of id es))
      behind_up =
          ap shown_states (sym (append_assoc (all_below m 0 (drop (suc i) (entries m x))) (right_in m j x) (all_below m (suc j) (right_of id es))))
          ∙ shown-append (all_below m 0 (drop (suc i) (entries m x)) ++ right_in m j x) (all_below m (suc j) (right_of id es))

      -- the neighbours as they are seen from there
      pub last_up : (slot : ℕ) (before : Option ℕ) → before ≡ last (shown_before m j x i) → take slot es ≡ left_of id es
          → either before (last (shown_states (all_below m (suc j) (take slot es)))) ≡ last (shown_before m (suc j) x i)
      last_up slot before was left =
          (λ k. either (was k) (last (shown_states (all_below m (suc j) (left k)))))
          ∙ sym (ap last before_up ∙ last_of (shown_states (all_below m (suc j) (left_of id es))) (shown_before m j x i))

      pub first_up : (slot : ℕ) (after : Option ℕ) → after ≡ first (shown_behind m j x i) → drop (slot + 1) es ≡ right_of id es
          → either after (first (shown_states (all_below m (suc j) (drop (slot + 1) es)))) ≡ first (shown_behind m (suc j) x i)
      first_up slot after was right =
          (λ k. either (was k) (first (shown_states (all_below m (suc j) (right k)))))
          ∙ sym (ap first behind_up ∙ first_of (shown_behind m j x i) (shown_states (all_below m (suc j) (right_of id es))))

    -- a node above the leaf and its child, by numbers that are theirs
    module _ (j : ℕ) (le : suc j ≤ height) (p child : ℕ) (p_is : p ≡ above m (suc j) x) (child_is : child ≡ above m j x) where
      pub above_is : (p < length m.heads) × (level_of m p ≡ suc j)
      above_is = let n = at m height root t x xis low (suc j) le in subst (λ q. (q < length m.heads) × (level_of m q ≡ suc j)) (sym p_is) n

      pub is_node : (p < length m.heads) × (p < length m.rows)
      is_node = (above_is.0, subst (λ n. p < n) t.same above_is.0)

      pub child_at : (child < length m.heads) × (level_of m child ≡ j)
      child_at = let n = at m height root t x xis low j (omega (arith, le)) in subst (λ d. (d < length m.heads) × (level_of m d ≡ j)) (sym child_is) n

      pub stands_in : 0 < child_count child (entries (bare m) p)
      stands_in =
          let kn = t.known child child_at.0 (below_top m height root t child child_at.0 (omega (arith, child_at.1, le))) in
          let up : parent_of m child ≡ p = ap (parent_of m) child_is ∙ sym p_is in
          let once = ap (λ q. child_count child (entries m q)) (sym up) ∙ kn.once in
          let same = ap (child_count child) (bare-entries m p) ∙ count-bare m child (entries m p) in
          omega (arith, once, same)

      abbrev LastIs : ℕ → ℕ → Type 0
      LastIs q d = (slot : ℕ) (e : Entry) (before : Option ℕ) → slot < length (entries m q) → e ≡ get_or (entries m q) slot e → strip e ≡ kid d → before ≡ last (shown_before m j x i)
          → either before (last (shown_states (all_below m (level_of m q) (take slot (entries m q))))) ≡ last (shown_before m (suc j) x i)

      pub last_is : LastIs p child
      last_is = subst (λ q. LastIs q child) (sym p_is) (subst (λ d. LastIs (above m (suc j) x) d) (sym child_is)
          (λ slot e before lt here to was. ap (λ n. either before (last (shown_states (all_below m n (take slot (entries m (above m (suc j) x))))))) (at m height root t x xis low (suc j) le).1
          ∙ last_up j le slot before was (left_stands j le slot e lt here to)))

      abbrev FirstIs : ℕ → ℕ → Type 0
      FirstIs q d = (slot : ℕ) (e : Entry) (after : Option ℕ) → slot < length (entries m q) → e ≡ get_or (entries m q) slot e → strip e ≡ kid d → after ≡ first (shown_behind m j x i)
          → either after (first (shown_states (all_below m (level_of m q) (drop (slot + 1) (entries m q))))) ≡ first (shown_behind m (suc j) x i)

      pub first_is : FirstIs p child
      first_is = subst (λ q. FirstIs q child) (sym p_is) (subst (λ d. FirstIs (above m (suc j) x) d) (sym child_is)
          (λ slot e after lt here to was. ap (λ n. either after (first (shown_states (all_below m n (drop (slot + 1) (entries m (above m (suc j) x))))))) (at m height root t x xis low (suc j) le).1
          ∙ first_up j le slot after was (right_stands j le slot e lt here to)))

    -- WHAT A NODE ABOVE SHOWS NOW

    pub shows_now : (e : Entry) (new : Option ℕ) → i < length (entries m x) → e ≡ get_or (entries m x) i e → shown_states (below m 0 e) ≡ one_or_none new
        → (j : ℕ) → j ≤ height → shown_states (runs m j (above m j x)) ≡ shown_before m j x i ++ (one_or_none new ++ shown_behind m j x i)
    shows_now e new lt here shows j le =
        let l = left_in m j x in
        let r = right_in m j x in
        let f = all_below m 0 (take i (entries m x)) in
        let k = all_below m 0 (drop (suc i) (entries m x)) in
        let own : runs m 0 x ≡ f ++ (below m 0 e ++ k) = ap (all_below m 0) (parts-at (entries m x) i e lt here) ∙ flat_map-append (below m 0) (take i (entries m x)) (e ∷ drop (suc i) (entries m x)) in
        ap shown_states (path m height root t x xis low j le ∙ ap (λ rs. l ++ (rs ++ r)) own ∙ apart_five l f (below m 0 e) k r)
        ∙ shown-append (l ++ f) (below m 0 e ++ (k ++ r))
        ∙ ap (λ z. shown_states (l ++ f) ++ z) (shown-append (below m 0 e) (k ++ r) ∙ ap (λ z. z ++ shown_states (k ++ r)) shows)

    -- SUMMARIES

    module _ (table : TagStates) (first_sums old_sums new_sums : List Summary) (old new : Option ℕ) (but : AreSummedBut table m first_sums height x i old) where
      -- once a node's summary is right too
      pub right_up : (j : ℕ) → j ≤ height → AreRightBelow m table old_sums j
          → ((c : ℕ) → c < length m.heads → j ≤ level_of m c → summary_of old_sums c ≡ summary_of first_sums c)
          → ((c : ℕ) → c ≢ above m j x → summary_of new_sums c ≡ summary_of old_sums c)
          → IsSummary table (shown_states (runs m j (above m j x))) (summary_of new_sums (above m j x))
          → AreRightBelow m table new_sums (suc j)
      right_up j le right rest others own c is lower = elim (cases_eq c (above m j x)) [
        | inl same ↦ let n = at m height root t x xis low j le in subst (λ d. IsSummary table (shown_states (runs m (level_of m d) d)) (summary_of new_sums d)) (sym same)
            (subst (λ k. IsSummary table (shown_states (runs m k (above m j x))) (summary_of new_sums (above m j x))) (sym n.1) own)
        | inr ne ↦ subst (IsSummary table (shown_states (runs m (level_of m c) c))) (sym (others c ne)) (split (nat_lt (level_of m c) j)
            (λ y. right c is (ltb-true _ _ y))
            (λ n. let high : j ≤ level_of m c = ltb-false _ _ n in
            subst (IsSummary table (shown_states (runs m (level_of m c) c))) (sym (rest c is high))
            (but.others c is (λ k kle same. ne (same ∙ ap (λ n. above m n x) (let g = ap (level_of m) same ∙ (at m height root t x xis low k kle).1 in omega (arith, g, high, lower)))))))
      ]
