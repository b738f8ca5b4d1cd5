-- What nodes stand for.
use Rattle.std.proofs.Common.{◌≡◌, ℕ, zero, suc, ◌+◌, ◌<◌, List, [], ◌∷◌, ◌++◌, length, take, slice_get, refl, sym, ap, ◌∙◌, Option, Some, None, is_some, ◌≤◌, true≢false, arith}
use Rattle.std.proofs.lemmas.List.{append_assoc, get_or_past}
use Rattle.std.proofs.lemmas.Option.{slice_get_within}
use Rattle.std.proofs.Math.ListN.{get_or-append, length-append}
use Rattle.std.proofs.Math.Seq.{get_or-append_seam, take-append_seam}
use Rattle.rt_tags.specs.declared.nodes.Setting.{Setting}
use Rattle.rt_tags.specs.declared.nodes.Node.{Node}
use Rattle.rt_tags.specs.SharedStates.{AreShared, HasMore, IsThere, Tree, Empty, Branch, at_id, empty_node, grown, setting_of, tree_at, tree_of, trees_of}
use Rattle.rt_tags.proofs.Settings.{none_there}

pub grown_length : (trees : List Tree) (nodes : List Node) → length (grown trees nodes) ≡ length trees + length nodes
grown_length trees [] = omega arith
grown_length trees (n ∷ nodes) =
    let e : length (trees ++ tree_of trees n ∷ []) ≡ length trees + 1 = length-append trees (tree_of trees n ∷ []) in
    omega (arith, grown_length (trees ++ tree_of trees n ∷ []) nodes, e)

pub grown_append : (trees : List Tree) (old more : List Node) → grown trees (old ++ more) ≡ grown (grown trees old) more
grown_append trees [] more = refl
grown_append trees (n ∷ old) more = grown_append (trees ++ tree_of trees n ∷ []) old more

-- trees that are there stay
pub stays : (trees : List Tree) (nodes : List Node) (i : ℕ) → i < length trees → tree_at (grown trees nodes) i ≡ tree_at trees i
stays trees [] i w = refl
stays trees (n ∷ nodes) i w =
    let e : length (trees ++ tree_of trees n ∷ []) ≡ length trees + 1 = length-append trees (tree_of trees n ∷ []) in
    let v : i < length (trees ++ tree_of trees n ∷ []) = omega arith in
    stays (trees ++ tree_of trees n ∷ []) nodes i v ∙ get_or-append trees (tree_of trees n ∷ []) Empty i w

pub branches : (tag : ℕ) (a b c d : Tree) (m : Option Setting) → a ≡ b → c ≡ d → Branch tag m a c ≡ Branch tag m b d
branches tag a b c d m e f = cc

same_parts : (trees others : List Tree) (n : Node) → tree_at trees n.odd ≡ tree_at others n.odd → tree_at trees n.even ≡ tree_at others n.even → tree_of trees n ≡ tree_of others n
same_parts trees others n e f = branches n.tag (tree_at trees n.odd) (tree_at others n.odd) (tree_at trees n.even) (tree_at others n.even) n.setting e f

-- a node's tree is made of those of its parts
pub grown_at : (trees : List Tree) (nodes : List Node) (k : ℕ) (n : Node) → slice_get nodes k ≡ Some n → n.odd < length trees + k → n.even < length trees + k → tree_at (grown trees nodes) (length trees + k) ≡ tree_of (grown trees nodes) n
grown_at trees [] k n h o e = absurd (cc)
grown_at trees (x ∷ nodes) zero n h o e =
    let t = tree_of trees x in
    let one : x ≡ n = cc in
    let len : length (trees ++ t ∷ []) ≡ length trees + 1 = length-append trees (t ∷ []) in
    let here : length trees < length (trees ++ t ∷ []) = omega arith in
    let odd : n.odd < length trees = omega arith in
    let even : n.even < length trees = omega arith in
    let oddx : tree_at (grown trees (x ∷ nodes)) n.odd ≡ tree_at trees n.odd = stays trees (x ∷ nodes) n.odd odd in
    let evenx : tree_at (grown trees (x ∷ nodes)) n.even ≡ tree_at trees n.even = stays trees (x ∷ nodes) n.even even in
    let place : length trees + zero ≡ length trees = omega arith in
    ap (tree_at (grown trees (x ∷ nodes))) place
    ∙ (stays (trees ++ t ∷ []) nodes (length trees) here
    ∙ (get_or-append_seam trees t [] Empty
    ∙ (ap (tree_of trees) one
    ∙ sym (same_parts (grown trees (x ∷ nodes)) trees n oddx evenx))))
grown_at trees (x ∷ nodes) (suc k) n h o e =
    let t = tree_of trees x in
    let len : length (trees ++ t ∷ []) ≡ length trees + 1 = length-append trees (t ∷ []) in
    let odd : n.odd < length (trees ++ t ∷ []) + k = omega arith in
    let even : n.even < length (trees ++ t ∷ []) + k = omega arith in
    let place : length trees + suc k ≡ length (trees ++ t ∷ []) + k = omega arith in
    ap (tree_at (grown trees (x ∷ nodes))) place ∙ grown_at (trees ++ t ∷ []) nodes k n h odd even

pub first_is : (nodes : List Node) → at_id nodes 0 ≡ Empty
first_is [] = refl
first_is (x ∷ nodes) = let w : 0 < length (Empty ∷ []) = omega arith in stays (Empty ∷ []) nodes 0 w

pub keeps : (old more : List Node) (i : ℕ) → i < length old → at_id (old ++ more) i ≡ at_id old i
keeps [] more i w = absurd (omega arith)
keeps (x ∷ old) more i w =
    let len : length (grown (Empty ∷ []) old) ≡ length (Empty ∷ []) + length old = grown_length (Empty ∷ []) old in
    let v : i < length (grown (Empty ∷ []) old) = omega arith in
    ap (λ (ts : List Tree). tree_at ts i) (grown_append (Empty ∷ []) old more) ∙ stays (grown (Empty ∷ []) old) more i v

pub keeps_more : (old new : List Node) (i : ℕ) → HasMore old new → i < length old → at_id new i ≡ at_id old i
keeps_more old new i h w = ap (λ (v : List Node). at_id v i) h.1 ∙ keeps old h.0 i w

pub trees_length : (nodes : List Node) → length (trees_of nodes) ≡ length nodes
trees_length [] = refl
trees_length (x ∷ nodes) = let e : length (grown (Empty ∷ []) nodes) ≡ length (Empty ∷ []) + length nodes = grown_length (Empty ∷ []) nodes in omega arith

pub node_tree : (nodes : List Node) (i : ℕ) (n : Node) → AreShared nodes → 0 < i → slice_get nodes i ≡ Some n → at_id nodes i ≡ Branch n.tag n.setting (at_id nodes n.odd) (at_id nodes n.even)
node_tree [] i n are p h = absurd (cc)
node_tree (x ∷ nodes) zero n are p h = absurd (omega arith)
node_tree (x ∷ nodes) (suc k) n are p h =
    let o : n.odd < suc k = are.odd_before (suc k) n p h in
    let e : n.even < suc k = are.even_before (suc k) n p h in
    let odd : n.odd < length (Empty ∷ []) + k = omega arith in
    let even : n.even < length (Empty ∷ []) + k = omega arith in
    let place : suc k ≡ length (Empty ∷ []) + k = omega arith in
    ap (tree_at (grown (Empty ∷ []) nodes)) place ∙ grown_at (Empty ∷ []) nodes k n h odd even

-- the parts of a node were given out
pub first_node : (nodes : List Node) (n : Node) → AreShared nodes → slice_get nodes 0 ≡ Some n → n ≡ empty_node
first_node nodes n are h = let first = are.first in cc

pub odd_given : (nodes : List Node) (i : ℕ) (n : Node) → AreShared nodes → slice_get nodes i ≡ Some n → n.odd < length nodes
odd_given nodes zero n are h =
    let w : 0 < length nodes = slice_get_within nodes 0 n h in
    let e : n.odd ≡ 0 = ap (λ (v : Node). v.odd) (first_node nodes n are h) in omega arith
odd_given nodes (suc i) n are h =
    let w : suc i < length nodes = slice_get_within nodes (suc i) n h in
    let p : 0 < suc i = omega arith in
    let e : n.odd < suc i = are.odd_before (suc i) n p h in omega arith

pub even_given : (nodes : List Node) (i : ℕ) (n : Node) → AreShared nodes → slice_get nodes i ≡ Some n → n.even < length nodes
even_given nodes zero n are h =
    let w : 0 < length nodes = slice_get_within nodes 0 n h in
    let e : n.even ≡ 0 = ap (λ (v : Node). v.even) (first_node nodes n are h) in omega arith
even_given nodes (suc i) n are h =
    let w : suc i < length nodes = slice_get_within nodes (suc i) n h in
    let p : 0 < suc i = omega arith in
    let e : n.even < suc i = are.even_before (suc i) n p h in omega arith

-- the settings of an id are those of its node
pub node_settings : (nodes : List Node) (i : ℕ) (n : Node) → AreShared nodes → slice_get nodes i ≡ Some n → (t : ℕ) → setting_of (at_id nodes i) t ≡ setting_of (Branch n.tag n.setting (at_id nodes n.odd) (at_id nodes n.even)) t
node_settings nodes zero n are h t =
    let is : n ≡ empty_node = first_node nodes n are h in
    let none : Branch n.tag n.setting (at_id nodes n.odd) (at_id nodes n.even) ≡ Branch 0 None Empty Empty =
    ap (λ (v : Node). Branch v.tag v.setting (at_id nodes v.odd) (at_id nodes v.even)) is ∙ ap (λ (v : Tree). Branch 0 None v v) (first_is nodes) in
    ap (λ (v : Tree). setting_of v t) (first_is nodes) ∙ sym (ap (λ (v : Tree). setting_of v t) none ∙ none_there t)
node_settings nodes (suc i) n are h t = let p : 0 < suc i = omega arith in ap (λ (v : Tree). setting_of v t) (node_tree nodes (suc i) n are p h)

-- nothing stands at a place behind all nodes
pub outside_is : (nodes : List Node) (i : ℕ) → length nodes ≤ i → at_id nodes i ≡ Empty
outside_is nodes i w = let e : length (trees_of nodes) ≡ length nodes = trees_length nodes in get_or_past (trees_of nodes) i Empty (omega (arith, e, w))

pub outside : (nodes : List Node) (i t : ℕ) → length nodes ≤ i → IsThere (at_id nodes i) t → ⊥
outside nodes i t w is = absurd (true≢false (sym is ∙ ap (λ (v : Tree). is_some (setting_of v t)) (outside_is nodes i w)))

pub more_both : (a b c : List Node) → HasMore a b → HasMore b c → HasMore a c
more_both a b c more again = (more.0 ++ again.0, again.1 ∙ (ap (λ (v : List Node). v ++ again.0) more.1 ∙ append_assoc a more.0 again.0))

-- what is put behind is cut off again
pub cut_back : (old new : List Node) → HasMore old new → take (length old) new ≡ old
cut_back old new more = ap (take (length old)) more.1 ∙ take-append_seam old more.0

-- nothing is in the empty state
pub empty_has : (nodes : List Node) (t : ℕ) → IsThere (at_id nodes 0) t → ⊥
empty_has nodes t is = absurd (true≢false (sym is ∙ ap (λ (v : Tree). is_some (setting_of v t)) (first_is nodes)))
