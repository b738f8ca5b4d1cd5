-- Nodes that get a parent, one by one.
use Rattle.std.proofs.Common.{◌≡◌, ℕ, ◌+◌, ◌<◌, inl, inr, List, [], ◌∷◌, ◌++◌, length, take, get_or, sym, ap, ◌∙◌, arith, subst, get_or-set_same, get_or-set_other, length-set}
use Rattle.std.proofs.lemmas.Bool.{cases_eq}
use Rattle.std.proofs.lemmas.List.{get_or-map, length-map, take_more}
use Rattle.rt_nodes.specs.Nodes.{entries, with_head}
use Rattle.rt_nodes.specs.declared.memory.NodeId.{NodeId}
use Rattle.rt_tree.specs.declared.node.Head.{Head}
use Rattle.rt_tree.specs.declared.node.Run.{Run}
use Rattle.rt_tree.specs.declared.node.Entry.{Entry}
use Rattle.rt_tree.specs.declared.node.Entry.TheVariants.{Down, Here}
use Rattle.rt_tree.specs.Changes.{links, bare, IsAdopted, strip, blank}
use Rattle.rt_tree.specs.Shape.{level_of, parent_of, head_at, Memory, child_count}
use Rattle.rt_tree.proofs.Around.{count-append}
use Rattle.rt_tree.proofs.Bares.{bare-entries}
use Rattle.rt_tree.proofs.Raise.{not_counted, link-counted}
use Rattle.rt_tree.proofs.Halves.{counted_self}

pub links-more : (m m1 : Memory) (q i : ℕ) (e : Entry) → m1.rows ≡ m.rows → i < length (entries m1 q) → e ≡ get_or (entries m1 q) i e → take (i + 1) (entries (bare m) q) ≡ take i (entries (bare m) q) ++ (strip e) ∷ []
links-more m m1 q i e same lt is =
    let rows = λ (x : List (List Entry)). get_or x q [] in
    let es = ap rows same in
    let ls = entries (bare m) q in
    let b : ls ≡ links (entries m1 q) = bare-entries m q ∙ ap links (sym es) in
    let at : (strip e) ≡ get_or ls i (strip e) = ap strip is ∙ sym (get_or-map strip (entries m1 q) i e (strip e) lt) ∙ ap (λ l. get_or l i (strip e)) (sym b) in
    take_more ls i (strip e) (omega (arith, ap length b, length-map (entries m1 q) strip)) ∙ ap (λ l. take i ls ++ l ∷ []) (sym at)

abbrev pub child_head : Memory → NodeId → NodeId → Head
child_head m1 q c = record { parent = q; level = level_of (bare m1) c.index }

module _ (m m1 m2 : Memory) (q c : NodeId) (i : ℕ) (e : Entry) (a : IsAdopted m m1 q.index (take i (entries (bare m) q.index))) (cis : c.index < length m.heads) (within : i < length (entries m1 q.index)) (is : e ≡ get_or (entries m1 q.index) i e) (link : (strip e) ≡ Down c blank) (next : m2 ≡ with_head m1 c.index (child_head m1 q c)) where
  ls : List Entry
  ls = entries (bare m) q.index

  abbrev m3 : Memory
  m3 = with_head m1 c.index (child_head m1 q c)

  counts : (x : ℕ) → child_count x (take (i + 1) (entries (bare m) q.index)) ≡ child_count x (take i (entries (bare m) q.index)) + child_count x (Down c blank ∷ [])
  counts x = ap (child_count x) (links-more m m1 q.index i e a.rows within is ∙ ap (λ l. take i (entries (bare m) q.index) ++ l ∷ []) link) ∙ count-append x (take i (entries (bare m) q.index)) (Down c blank ∷ [])

  none : Head
  none = record { parent = record { index = 0 }; level = 0 }

  here : head_at (bare m3) c.index ≡ child_head m1 q c
  here = get_or-set_same m1.heads c.index (child_head m1 q c) (record { parent = record { index = 0 }; level = 0 }) (omega (arith, a.heads))

  there : (x : ℕ) → (x ≡ c.index → ⊥) → head_at (bare m3) x ≡ head_at (bare m1) x
  there x ne = get_or-set_other m1.heads c.index x (child_head m1 q c) (record { parent = record { index = 0 }; level = 0 }) ne

  adopted_to : IsAdopted m m3 q.index (take (i + 1) (entries (bare m) q.index))
  adopted_to = record {
    rows = a.rows;
    room = a.room;
    heads = length-set m1.heads c.index (child_head m1 q c) ∙ a.heads;
    levels = λ x. elim (cases_eq x c.index) [
      | inl w ↦ ap (level_of (bare m3)) w ∙ ap (λ (h : Head). h.level) here ∙ a.levels c.index ∙ ap (level_of (bare m)) (sym w)
      | inr ne ↦ ap (λ (h : Head). h.level) (there x ne) ∙ a.levels x
    ];
    moved = λ x xis some. elim (cases_eq x c.index) [
      | inl w ↦ ap (parent_of (bare m3)) w ∙ ap (λ (h : Head). h.parent.index) here
      | inr ne ↦ ap (λ (h : Head). h.parent.index) (there x ne) ∙ a.moved x xis (let z = not_counted x c (λ w. ne (sym w)) in omega (arith, counts x))
    ];
    stay = λ x z. elim (cases_eq x c.index) [
      | inl w ↦ absurd (let o = counted_self c.index in let k = counts x in let d = ap (λ y. child_count y (Down c blank ∷ [])) w in omega arith)
      | inr ne ↦ ap (λ (h : Head). h.parent.index) (there x ne) ∙ a.stay x (omega (arith, counts x))
    ];
  }

  pub adopted : IsAdopted m m2 q.index (take (i + 1) (entries (bare m) q.index))
  adopted = let P : Memory → Type 0 = λ y. IsAdopted m y q.index (take (i + 1) (entries (bare m) q.index)) in subst P (sym next) adopted_to

-- a run has no parent
pub passed : (m m1 : Memory) (q i : ℕ) (e : Entry) (r : Run) → IsAdopted m m1 q (take i (entries (bare m) q)) → i < length (entries m1 q) → e ≡ get_or (entries m1 q) i e → (strip e) ≡ Here r → IsAdopted m m1 q (take (i + 1) (entries (bare m) q))
passed m m1 q i e r a within is link =
    let ls = entries (bare m) q in
    let counts = λ (x : ℕ). ap (child_count x) (links-more m m1 q i e a.rows within is ∙ ap (λ l. take i ls ++ l ∷ []) link) ∙ count-append x (take i ls) (Here r ∷ []) in
    record {
      rows = a.rows;
      room = a.room;
      heads = a.heads;
      levels = a.levels;
      moved = λ x xis some. a.moved x xis (omega (arith, counts x));
      stay = λ x z. a.stay x (omega (arith, counts x));
    }

-- a child that stands in an entry is counted among the links
pub kid_in : (m m1 : Memory) (q i : ℕ) (e : Entry) (c : NodeId) → m1.rows ≡ m.rows → i < length (entries m1 q) → e ≡ get_or (entries m1 q) i e → (strip e) ≡ Down c blank → 0 < child_count c.index (entries (bare m) q)
kid_in m m1 q i e c same lt is link =
    let es = ap (λ (x : List (List Entry)). get_or x q []) same in
    let k = link-counted c.index (entries m1 q) i e lt is in
    let one = counted_self c.index in
    let l = ap (λ x. child_count c.index (x ∷ [])) link in
    let b = ap (child_count c.index) (bare-entries m q ∙ ap links (sym es)) in
    omega arith
