-- Runs whose stamps have their leaves in the map, once a run was put in, made longer, cut or updated.
use Rattle.std.proofs.Common.{◌≡◌, ℕ, ◌+◌, ◌-◌, ◌<◌, ◌⊎◌, inl, inr, Bool, true, false, true≢false, List, [], ◌∷◌, ◌++◌, length, length-append, map, refl, sym, ap, ◌∙◌, arith, subst, Some}
use Rattle.std.specs.Prelude.{◌==◌, ◌&&◌, nat_le, nat_lt, if◌then◌else◌}
use Rattle.std.specs.List.{AllByRecursion}
use Rattle.std.proofs.lemmas.Bool.Decides.{nat_tests}
use Rattle.rt_nodes.specs.declared.memory.NodeId.{NodeId}
use Rattle.rt_spans.specs.Shown.{IsValueBorder, SpanMapValue, value_of}
use Rattle.rt_stamps.specs.declared.stamp.Span.{Span}
use Rattle.rt_stamps.specs.declared.stamp.Stamp.{Stamp}
use Rattle.rt_store.specs.Cells.{is_in_span}
use Rattle.rt_store.proofs.Distinct.{split}
use Rattle.rt_tree.specs.declared.update.CellUpdate.{CellUpdate}
use Rattle.rt_tree.specs.declared.update.CellUpdate.TheVariants.{Gone, State}
use Rattle.rt_tree.specs.declared.node.Run.{Run}
use Rattle.rt_tree.specs.Additions.{are_joint, run_joined}
use Rattle.rt_tree.specs.Homes.{AreOnceEach, IsNew}
use Rattle.rt_tree.specs.Runs.{first_stamp, has_cell}
use Rattle.rt_tree.specs.Shape.{IsTree, Memory, tree_runs}
use Rattle.rt_tree.specs.Sharing.{run_in}
use Rattle.rt_tree.specs.Skips.{HasCells}
use Rattle.rt_tree.specs.Standing.{AreHoused, HasLeaf, HaveLeavesBelow, IsBordered, IsParted, HaveSameStamps, IsEntered, Stands, StayBut, StampsStay}
use Rattle.rt_tree.specs.Stretches.{back_of, updated_run}
use Rattle.rt_tree.specs.Walks.{IsPutAt}
use Rattle.rt_tree.proofs.Frame.{each-append, each-back, each-front}
use Rattle.rt_tree.proofs.Apart.{bit}
use Rattle.rt_tree.proofs.Housing.{holders-mid}
use Rattle.rt_tree.proofs.Joining.{joint_true}
use Rattle.rt_tree.proofs.Leaves.{ShareNone, each_bordered, leaf_kept, new_share_none, one_leaf, own_borders, own_leaf, stands_in, value_kept}

-- where no stamp is in two runs, one of several shares none with those before it, and none with those behind it
pub once_left : (left right : List Run) (run : Run) → AreOnceEach (left ++ run ∷ right) → AllByRecursion (ShareNone run) left
once_left left right run once = new_share_none run left (λ stamp own. let m = holders-mid stamp left run right in let o = once stamp in let b : bit (has_cell run stamp) ≡ 1 = ap bit own in omega (arith, m, o, b))

pub once_right : (left right : List Run) (run : Run) → AreOnceEach (left ++ run ∷ right) → AllByRecursion (ShareNone run) right
once_right left right run once = new_share_none run right (λ stamp own. let m = holders-mid stamp left run right in let o = once stamp in let b : bit (has_cell run stamp) ≡ 1 = ap bit own in omega (arith, m, o, b))

-- one run more, each of which has cells
pub put_many : (old new : List Run) (at : ℕ) (run : Run) → IsPutAt old new at run → length new ≡ length old + 1
put_many old new at run put =
    let a = ap length put.is ∙ length-append put.was.left (run ∷ put.next ∷ put.was.right) in
    let b = ap length put.was.here ∙ length-append put.was.left (put.next ∷ put.was.right) in
    omega (arith, a, b)

pub put_some : (old new : List Run) (at : ℕ) (run : Run) → IsPutAt old new at run → HasCells run → AllByRecursion HasCells old → AllByRecursion HasCells new
put_some old new at run put own some =
    let all = subst (AllByRecursion HasCells) put.was.here some in
    let left = put.was.left in
    let rest = put.next ∷ put.was.right in
    subst (AllByRecursion HasCells) (sym put.is) (each-append HasCells left (run ∷ rest) (each-front HasCells left rest all) (own, each-back HasCells left rest all))

pub told_some : (leaves after : SpanMapValue NodeId) (run : Run) (leaf : NodeId) → IsEntered leaves after run leaf → HasCells run
told_some leaves after run leaf told = let a = told.is.some in let b = told.is.last in let c = told.is.first in omega (arith, a, b, c)

-- the stamps of two runs that were joined are those of the two, and the stamps of the back part of a run are its own
joined_has : (a b : Run) (stamp : Stamp) → are_joint a b ≡ true → has_cell (run_joined a b) stamp ≡ true → (has_cell a stamp ≡ true) ⊎ (has_cell b stamp ≡ true)
joined_has a b stamp joint there = split (has_cell a stamp) (λ t. inl t) (λ f. inr (let j = joint_true a b joint in grind (arith, nat_tests)))

back_has : (k : ℕ) (r : Run) (stamp : Stamp) → k < r.len → has_cell (back_of k r) stamp ≡ true → has_cell r stamp ≡ true
back_has k r stamp less there = grind (arith, nat_tests)

module _ (leaves after : SpanMapValue NodeId) (run : Run) (leaf : NodeId) (told : IsEntered leaves after run leaf) where
  own_there : (b : ℕ) (r : Run) → b ≡ leaf.index → r ≡ run → HasLeaf after b r
  own_there b r e f = subst (λ n. HasLeaf after n r) (sym e) (subst (λ s. HasLeaf after leaf.index s) (sym f) (own_leaf leaves after run leaf told))

  -- A RUN PUT IN

  module _ (m n : Memory) (root next at : ℕ) (t : IsTree m root) (fresh : IsNew run (tree_runs m root)) (h : AreHoused m root leaves) where
    pub put_bordered : AllByRecursion HasCells (tree_runs m root) → IsPutAt (tree_runs m root) (tree_runs n next) at run → AllByRecursion (IsBordered after) (tree_runs n next)
    put_bordered some put =
        let all = subst (AllByRecursion (IsBordered after)) put.was.here (each_bordered leaves after run leaf told (tree_runs m root) (new_share_none run (tree_runs m root) fresh) some h.bordered) in
        subst (AllByRecursion (IsBordered after)) (sym put.is)
        (each-append (IsBordered after) put.was.left (run ∷ put.next ∷ put.was.right) (each-front (IsBordered after) put.was.left (put.next ∷ put.was.right) all)
        (own_borders leaves after run leaf told, each-back (IsBordered after) put.was.left (put.next ∷ put.was.right) all))

    pub put_leaves : StayBut m n leaf.index run → HaveLeavesBelow (length m.heads) n after
    put_leaves stay b r stands lt = elim (stay b r stands) [
      | inl high ↦ absurd (omega (arith, high, lt))
      | inr rest ↦ elim rest [
        | inl was ↦ leaf_kept leaves after run leaf told r (stands_in m root t (ShareNone run) (new_share_none run (tree_runs m root) fresh) b r was) b (h.there b r was)
        | inr own ↦ own_there b r own.0 own.1
      ]
    ]

  -- A RUN MADE LONGER

  module _ (m n : Memory) (root : ℕ) (t : IsTree m root) (h : AreHoused m root leaves) (a b : Run) (left right : List Run) (joint : are_joint a b ≡ true) (whole : run ≡ run_joined a b)
      (was : tree_runs m root ≡ left ++ a ∷ right) (is : tree_runs n root ≡ left ++ run ∷ right) (once : AreOnceEach (tree_runs m root)) (once_now : AreOnceEach (tree_runs n root))
      (fresh : IsNew b (tree_runs m root)) (stood : Stands m leaf.index a) where
    joined_there : StayBut m n leaf.index run → length n.heads ≡ length m.heads → (at : ℕ) (r : Run) → Stands n at r → HasLeaf after at r
    joined_there stay same at r stands stamp own = elim (stay at r stands) [
      | inl high ↦ let low = stands.is in absurd (omega (arith, high, low, same))
      | inr rest ↦ elim rest [
        | inl before ↦ split (has_cell run stamp)
            (λ there. elim (joined_has a b stamp joint (sym (ap (λ x. has_cell x stamp) whole) ∙ there)) [
              | inl in_a ↦ let one = one_leaf m root t once leaf.index at a r stood before stamp in_a own in
                  subst (λ k. value_of after stamp ≡ Some (record { index = k })) one.0 (own_leaf leaves after run leaf told stamp there)
              | inr in_b ↦ absurd (stands_in m root t (ShareNone b) (new_share_none b (tree_runs m root) fresh) at r before stamp in_b own)
            ])
            (λ off. value_kept leaves after run leaf told stamp off ∙ h.there at r before stamp own)
        | inr this ↦ own_there at r this.0 this.1 stamp own
      ]
    ]

    pub joined_housed : AllByRecursion HasCells (tree_runs m root) → StayBut m n leaf.index run → length n.heads ≡ length m.heads → AreHoused n root after
    joined_housed some stay same =
        let cells = subst (AllByRecursion HasCells) was some in
        let borders = subst (AllByRecursion (IsBordered leaves)) was h.bordered in
        let each = subst AreOnceEach is once_now in
        record {
          bordered = subst (AllByRecursion (IsBordered after)) (sym is)
              (each-append (IsBordered after) left (run ∷ right)
              (each_bordered leaves after run leaf told left (once_left left right run each) (each-front HasCells left (a ∷ right) cells) (each-front (IsBordered leaves) left (a ∷ right) borders)) (
                own_borders leaves after run leaf told,
                each_bordered leaves after run leaf told right (once_right left right run each) (each-back HasCells left (a ∷ right) cells).1 (each-back (IsBordered leaves) left (a ∷ right) borders).1,
              ));
          there = joined_there stay same;
        }

-- A RUN CUT IN TWO

module _ (leaves after : SpanMapValue NodeId) (m n : Memory) (root next : ℕ) (front : Run) (leaf : NodeId) (told : IsEntered leaves after front leaf) (cut : IsParted m n root next front leaf.index)
    (now : IsTree n next) (once : AreOnceEach (tree_runs n next)) (h : AreHoused m root leaves) where
  abbrev back : Run
  back = back_of cut.count cut.run

  pub parted_leaves : HaveLeavesBelow (length m.heads) n after
  parted_leaves at r stands lt stamp own = split (has_cell front stamp)
      (λ there. let one = one_leaf n next now once leaf.index at front r cut.there stands stamp there own in
      subst (λ k. value_of after stamp ≡ Some (record { index = k })) one.0 (own_leaf leaves after front leaf told stamp there))
      (λ off. value_kept leaves after front leaf told stamp off ∙ elim (cut.stay at r stands) [
        | inl high ↦ absurd (omega (arith, high, lt))
        | inr rest ↦ elim rest [
          | inl before ↦ h.there at r before stamp own
          | inr parts ↦ elim parts [
            | inl this ↦ absurd (true≢false (sym own ∙ ap (λ x. has_cell x stamp) this.1 ∙ off))
            | inr that ↦ subst (λ k. value_of leaves stamp ≡ Some (record { index = k })) (sym that.0)
                (h.there cut.at cut.run cut.stood stamp (back_has cut.count cut.run stamp cut.less (sym (ap (λ x. has_cell x stamp) that.1) ∙ own)))
          ]
        ]
      ])

  pub parted_bordered : AllByRecursion HasCells (tree_runs m root) → AllByRecursion (IsBordered after) (tree_runs n next)
  parted_bordered some =
      let cells = subst (AllByRecursion HasCells) cut.was some in
      let borders = subst (AllByRecursion (IsBordered leaves)) cut.was h.bordered in
      let each = subst AreOnceEach cut.is once in
      let own = (each-back (IsBordered leaves) cut.left (cut.run ∷ cut.right) borders).0 in
      let s = told.is in
      let first = ap (λ (x : Run). x.first) cut.front_is in
      let len = ap (λ (x : Run). x.len) cut.front_is in
      let site : told.span.site ≡ cut.run.site = s.site ∙ ap (λ (x : Run). x.site) cut.front_is in
      let less = cut.less in
      let begins : told.span.last + 1 ≡ cut.run.first + cut.count = omega (arith, s.last, first, len) in
      let end : cut.run.first + cut.run.len ≡ cut.run.first + cut.count + (cut.run.len - cut.count) = omega (arith, less) in
      let last = told.kept cut.run.site (cut.run.first + cut.run.len) own.bound own.ends (λ e. inr (omega (arith, begins, less))) in
      let back_bordered : IsBordered after back = record {
        begins = subst (λ k. IsValueBorder after k (cut.run.first + cut.count)) site (subst (λ k. IsValueBorder after told.span.site k) begins told.ends);
        ends = subst (λ k. IsValueBorder after cut.run.site k) end last;
        bound = let low = own.bound in omega (arith, low, less);
      } in
      subst (AllByRecursion (IsBordered after)) (sym cut.is)
      (each-append (IsBordered after) cut.left (front ∷ back ∷ cut.right)
      (each_bordered leaves after front leaf told cut.left (once_left cut.left (back ∷ cut.right) front each) (each-front HasCells cut.left (cut.run ∷ cut.right) cells) (each-front (IsBordered leaves) cut.left (cut.run ∷ cut.right) borders)) (
        own_borders leaves after front leaf told,
        (
          back_bordered,
          each_bordered leaves after front leaf told cut.right (once_right cut.left (back ∷ cut.right) front each).1 (each-back HasCells cut.left (cut.run ∷ cut.right) cells).1 (each-back (IsBordered leaves) cut.left (cut.run ∷ cut.right) borders).1,
        ),
      ))

-- RUNS MARKED

has_alike : (a b : Run) (stamp : Stamp) → HaveSameStamps a b → has_cell b stamp ≡ has_cell a stamp
has_alike a b stamp same i = (same.site i == stamp.site) && (nat_le (same.first i) stamp.count && nat_lt (stamp.count - same.first i) (same.len i))

module _ (leaves : SpanMapValue NodeId) where
  updated_border : (in_span : Bool) (update : CellUpdate) (r : Run) → IsBordered leaves r → IsBordered leaves (if in_span then updated_run update r else r)
  updated_border true Gone r was = record { begins = was.begins; ends = was.ends; bound = was.bound }
  updated_border true (State state) r was = record { begins = was.begins; ends = was.ends; bound = was.bound }
  updated_border false update r was = was

  updated_borders : (span : Span) (update : CellUpdate) (rs : List Run) → AllByRecursion (IsBordered leaves) rs → AllByRecursion (IsBordered leaves) (map (run_in span update) rs)
  updated_borders span update [] was = tt
  updated_borders span update (r ∷ rs) was = (updated_border (is_in_span span (first_stamp r)) update r was.0, updated_borders span update rs was.1)

  pub updated_housed : (m n : Memory) (root : ℕ) (span : Span) (update : CellUpdate) → tree_runs n root ≡ map (run_in span update) (tree_runs m root) → StampsStay m n → AreHoused m root leaves → AreHoused n root leaves
  updated_housed m n root span update is stay h = record {
    bordered = subst (AllByRecursion (IsBordered leaves)) (sym is) (updated_borders span update (tree_runs m root) h.bordered);
    there = λ at r stands stamp own. let before = stay at r stands in h.there at before.was before.stood stamp (sym (has_alike before.was r stamp before.same) ∙ own);
  }

-- the updated run stands where the run stood
updated_alike : (update : CellUpdate) (r : Run) → HaveSameStamps r (updated_run update r)
updated_alike Gone r = record { first = refl; len = refl; site = refl }
updated_alike (State state) r = record { first = refl; len = refl; site = refl }

pub updated_stay : (m n : Memory) (at : ℕ) (update : CellUpdate) (run : Run) → Stands m at run → StayBut m n at (updated_run update run) → length n.heads ≡ length m.heads → StampsStay m n
updated_stay m n at update run stood stay same b r stands = elim (stay b r stands) [
  | inl high ↦ let low = stands.is in absurd (omega (arith, high, low, same))
  | inr rest ↦ elim rest [
    | inl was ↦ record { was = r; stood = was; same = record { first = refl; len = refl; site = refl } }
    | inr own ↦ record { was = run; stood = subst (λ k. Stands m k run) (sym own.0) stood; same = subst (HaveSameStamps run) (sym own.1) (updated_alike update run) }
  ]
]

-- WHERE RUNS STAND AFTER SEVERAL STEPS

pub stamps_same : (m : Memory) → StampsStay m m
stamps_same m at r stands = record { was = r; stood = stands; same = record { first = refl; len = refl; site = refl } }

pub stamps_then : (a b c : Memory) → StampsStay a b → StampsStay b c → StampsStay a c
stamps_then a b c first second at r stands =
    let mid = second at r stands in
    let old = first at mid.was mid.stood in
    record { was = old.was; stood = old.stood; same = record { first = mid.same.first ∙ old.same.first; len = mid.same.len ∙ old.same.len; site = mid.same.site ∙ old.same.site } }
