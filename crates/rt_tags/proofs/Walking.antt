-- Walks over the parts of a state.
use Rattle.std.proofs.Common.{◌≡◌, ℕ, ◌==◌, cond, zero, suc, ◌+◌, ◌*◌, ◌^◌, ◌<◌, ◌≤◌, ◌&&◌, not, List, [], ◌∷◌, ◌++◌, length, slice_get, Bool, true, false, refl, sym, ap, subst, ◌∙◌, Option, Some, None, Result, Ok, Err, OnOk, is_some, arith}
use Rattle.std.specs.List.{count_by}
use Rattle.std.proofs.Math.ListN.{get_or}
use Rattle.std.proofs.Math.Nat.{mul-le-mul_left}
use Rattle.std.proofs.lemmas.Bool.Decides.{Decides-eqb}
use Rattle.std.proofs.lemmas.List.Sums.{sum_by-append}
use Rattle.std.proofs.lemmas.List.{append_assoc, append-nil}
use Rattle.std.proofs.lemmas.Option.{slice_get-get_or}
use Rattle.rt_tags.specs.declared.nodes.Setting.{Setting}
use Rattle.rt_tags.specs.declared.nodes.Node.{Node}
use Rattle.rt_tags.specs.declared.states.TagEntry.{TagEntry}
use Rattle.rt_tags.specs.SharedStates.{AreShared, IsThere, Tree, Empty, Branch, at_id, chosen, empty_node, entries_of, entry_if, half, if_so, is_off, puts_on, scaled, setting_of}
use Rattle.rt_tags.proofs.OneId.{IsFull, full_below, some_same}
use Rattle.rt_tags.proofs.Settings.{by_parity, in_even, in_odd, is_same, part_even, part_odd, setting_below, setting_top}
use Rattle.rt_tags.proofs.Places.{clash, split}
use Rattle.rt_tags.proofs.Trees.{empty_has, even_given, first_is, first_node, node_settings, node_tree, odd_given}

-- how often a tag is listed
abbrev pub times : ℕ → List ℕ → ℕ
times tag tags = count_by (λ x. x == tag) tags

pub times_append : (tag : ℕ) (xs ys : List ℕ) → times tag (xs ++ ys) ≡ times tag xs + times tag ys
times_append tag xs ys = sum_by-append (λ x. cond (x == tag) 1 0) xs ys

pub times_alone : (x tag : ℕ) → times tag (x ∷ []) ≡ cond (x == tag) 1 0
times_alone x tag = omega arith

module _ (nodes : List Node) (are : AreShared nodes) where
  -- a tag of a part is there in the whole
  pub odd_whole : (i : ℕ) (n : Node) → slice_get nodes i ≡ Some n → (t : ℕ) → IsThere (at_id nodes n.odd) t → setting_of (at_id nodes i) (2 * t + 1) ≡ setting_of (at_id nodes n.odd) t
  odd_whole zero n h t is =
      let e : n.odd ≡ 0 = ap (λ (v : Node). v.odd) (first_node nodes n are h) in
      absurd (empty_has nodes t (subst (λ (i : ℕ). IsThere (at_id nodes i) t) e is))
  odd_whole (suc i) n h t is =
      let heap = are.heap (suc i) n (omega arith) h in
      let w : n.tag < 2 * t + 1 = (heap.odd t is).0 in
      node_settings nodes (suc i) n are h (2 * t + 1) ∙ in_odd n.tag n.setting (at_id nodes n.odd) (at_id nodes n.even) t (λ z. absurd (omega arith))

  pub even_whole : (i : ℕ) (n : Node) → slice_get nodes i ≡ Some n → (t : ℕ) → IsThere (at_id nodes n.even) t → setting_of (at_id nodes i) (2 * t) ≡ setting_of (at_id nodes n.even) t
  even_whole zero n h t is =
      let e : n.even ≡ 0 = ap (λ (v : Node). v.even) (first_node nodes n are h) in
      absurd (empty_has nodes t (subst (λ (i : ℕ). IsThere (at_id nodes i) t) e is))
  even_whole (suc i) n h t is =
      let heap = are.heap (suc i) n (omega arith) h in
      let w : n.tag < 2 * t = (heap.even t is).0 in
      node_settings nodes (suc i) n are h (2 * t) ∙ in_even n.tag n.setting (at_id nodes n.odd) (at_id nodes n.even) t (λ z. absurd (omega arith))

  pub tag_there : (i : ℕ) (n : Node) → 0 < i → slice_get nodes i ≡ Some n → IsThere (at_id nodes i) n.tag
  tag_there i n p h =
      some_same n.setting (setting_of (at_id nodes i) n.tag) (sym (node_settings nodes i n are h n.tag ∙ setting_top n.tag n.setting (at_id nodes n.odd) (at_id nodes n.even) n.tag refl)) (are.filled i n p h)

  -- a part that isn't empty has a tag
  some_tag : (i : ℕ) → 0 < i → i < length nodes → (t : ℕ) × IsThere (at_id nodes i) t
  some_tag i p w = ((get_or nodes i empty_node).tag, tag_there i (get_or nodes i empty_node) p (slice_get-get_or nodes i empty_node w))

  module _ (here scale offset : ℕ) (n : Node) (p : 0 < here) (at : slice_get nodes here ≡ Some n) (fits : (t : ℕ) → IsThere (at_id nodes here) t → t * scale + offset < 2 ^ 32) where
    pub odd_all : (t : ℕ) → IsThere (at_id nodes n.odd) t → t * (scale * 2) + (offset + scale) < 2 ^ 32
    odd_all t is =
        let w : (2 * t + 1) * scale + offset < 2 ^ 32 = fits (2 * t + 1) (some_same (setting_of (at_id nodes n.odd) t) (setting_of (at_id nodes here) (2 * t + 1)) (sym (odd_whole here n at t is)) is) in
        omega arith

    pub even_all : (t : ℕ) → IsThere (at_id nodes n.even) t → t * (scale * 2) + offset < 2 ^ 32
    even_all t is =
        let w : 2 * t * scale + offset < 2 ^ 32 = fits (2 * t) (some_same (setting_of (at_id nodes n.even) t) (setting_of (at_id nodes here) (2 * t)) (sym (even_whole here n at t is)) is) in
        omega arith

    pub odd_wide : 0 < n.odd → (scale * 2 < 2 ^ 33) × (offset + scale < 2 ^ 33)
    odd_wide q =
        let s = some_tag n.odd q (odd_given nodes here n are at) in
        let w : s.0 * (scale * 2) + (offset + scale) < 2 ^ 32 = odd_all s.0 s.1 in
        (omega arith, omega arith)

    pub even_wide : 0 < n.even → (scale * 2 < 2 ^ 33) × (offset < 2 ^ 33)
    even_wide q =
        let s = some_tag n.even q (even_given nodes here n are at) in
        let w : s.0 * (scale * 2) + offset < 2 ^ 32 = even_all s.0 s.1 in
        let h : n.tag < 2 * s.0 = ((are.heap here n p at).even s.0 s.1).0 in
        let one : 1 ≤ s.0 = omega arith in
        let m : scale * 2 ≤ s.0 * (scale * 2) = omega (arith, mul-le-mul_left (scale * 2) one) in
        (omega arith, omega arith)

  module _ (here there other scale offset : ℕ) (n b : Node) (p : 0 < here) (at : slice_get nodes here ≡ Some n) (beside : slice_get nodes there ≡ Some b) (part : (t : ℕ) → IsThere (at_id nodes there) t → setting_of (at_id nodes other) (t * scale + offset) ≡ setting_of (at_id nodes there) t) (fits : (t : ℕ) → IsThere (at_id nodes here) t → t * scale + offset < 2 ^ 32) where
    pub tag_fits : n.tag * scale + offset < 2 ^ 32
    tag_fits = fits n.tag (tag_there here n p at)

    whole_odd : (t : ℕ) → (2 * t + 1) * scale + offset ≡ t * (scale * 2) + (offset + scale)
    whole_odd t = omega arith

    whole_even : (t : ℕ) → 2 * t * scale + offset ≡ t * (scale * 2) + offset
    whole_even t = omega arith

    pub odd_part : (t : ℕ) → IsThere (at_id nodes b.odd) t → setting_of (at_id nodes other) (t * (scale * 2) + (offset + scale)) ≡ setting_of (at_id nodes b.odd) t
    odd_part t is =
        let e = odd_whole there b beside t is in
        ap (setting_of (at_id nodes other)) (sym (whole_odd t)) ∙ (part (2 * t + 1) (some_same (setting_of (at_id nodes b.odd) t) (setting_of (at_id nodes there) (2 * t + 1)) (sym e) is) ∙ e)

    pub even_part : (t : ℕ) → IsThere (at_id nodes b.even) t → setting_of (at_id nodes other) (t * (scale * 2) + offset) ≡ setting_of (at_id nodes b.even) t
    even_part t is =
        let e = even_whole there b beside t is in
        ap (setting_of (at_id nodes other)) (sym (whole_even t)) ∙ (part (2 * t) (some_same (setting_of (at_id nodes b.even) t) (setting_of (at_id nodes there) (2 * t)) (sym e) is) ∙ e)

    pub odd_fits : (t : ℕ) → IsThere (at_id nodes n.odd) t → t * (scale * 2) + (offset + scale) < 2 ^ 32
    odd_fits = odd_all here scale offset n p at fits

    pub even_fits : (t : ℕ) → IsThere (at_id nodes n.even) t → t * (scale * 2) + offset < 2 ^ 32
    even_fits = even_all here scale offset n p at fits

    pub odd_scale : 0 < n.odd → (scale * 2 < 2 ^ 33) × (offset + scale < 2 ^ 33)
    odd_scale = odd_wide here scale offset n p at fits

    pub even_scale : 0 < n.even → (scale * 2 < 2 ^ 33) × (offset < 2 ^ 33)
    even_scale = even_wide here scale offset n p at fits

    -- what the walk counts, in three steps
    pub in_steps : (tag : ℕ) → times tag (if_so (puts_on n.setting && is_off (at_id nodes other) (n.tag * scale + offset)) (n.tag * scale + offset))
        + (times tag (chosen (λ t. t * (scale * 2) + (offset + scale)) (is_off (at_id nodes other)) (at_id nodes n.odd))
        + times tag (chosen (λ t. t * (scale * 2) + offset) (is_off (at_id nodes other)) (at_id nodes n.even)))
        ≡ times tag (chosen (λ t. t * scale + offset) (is_off (at_id nodes other)) (at_id nodes here))
    in_steps tag =
        let test = is_off (at_id nodes other) in
        let one = if_so (puts_on n.setting && test (n.tag * scale + offset)) (n.tag * scale + offset) in
        let odds = chosen (λ t. t * (scale * 2) + (offset + scale)) test (at_id nodes n.odd) in
        let evens = chosen (λ t. t * (scale * 2) + offset) test (at_id nodes n.even) in
        let o : chosen (λ t. (2 * t + 1) * scale + offset) test (at_id nodes n.odd) ≡ odds = λ j. chosen (λ t. whole_odd t j) test (at_id nodes n.odd) in
        let e : chosen (λ t. 2 * t * scale + offset) test (at_id nodes n.even) ≡ evens = λ j. chosen (λ t. whole_even t j) test (at_id nodes n.even) in
        let tree : chosen (λ t. t * scale + offset) test (at_id nodes here) ≡ one ++ (odds ++ evens) =
        ap (chosen (λ t. t * scale + offset) test) (node_tree nodes here n are p at) ∙ (λ j. one ++ (o j ++ e j)) in
        sym (ap (times tag) tree ∙ (times_append tag one (odds ++ evens) ∙ ap (λ v. times tag one + v) (times_append tag odds evens)))

-- what both share isn't beyond
pub nothing_chosen : (tree : Tree) → IsFull tree → (whole : ℕ → ℕ) (test : ℕ → Bool) → ((t : ℕ) → IsThere tree t → puts_on (setting_of tree t) ≡ true → test (whole t) ≡ false) → chosen whole test tree ≡ []
nothing_chosen Empty full whole test h = refl
nothing_chosen (Branch tag m o e) full whole test h =
    let top = setting_top tag m o e tag refl in
    let first : if_so (puts_on m && test (whole tag)) (whole tag) ≡ [] = ap (λ (b : Bool). if_so b (whole tag)) (split (puts_on m)
    (λ y. ap (λ (b : Bool). b && test (whole tag)) y ∙ h tag (some_same m (setting_of (Branch tag m o e) tag) (sym top) full.0.is_set) (ap (λ (v : Option Setting). puts_on v) top ∙ y))
    (λ f. ap (λ (b : Bool). b && test (whole tag)) f)) in
    let odds : chosen (λ t. whole (2 * t + 1)) test o ≡ [] = nothing_chosen o full.1 (λ t. whole (2 * t + 1)) test (λ t is on.
    let w : tag < 2 * t + 1 = full.0.odd t is in
    let k = in_odd tag m o e t (λ z. absurd (omega arith)) in
    h (2 * t + 1) (some_same (setting_of o t) (setting_of (Branch tag m o e) (2 * t + 1)) (sym k) is) (ap (λ (v : Option Setting). puts_on v) k ∙ on)) in
    let evens : chosen (λ t. whole (2 * t)) test e ≡ [] = nothing_chosen e full.2 (λ t. whole (2 * t)) test (λ t is on.
    let w : tag < 2 * t = full.0.even t is in
    let k = in_even tag m o e t (λ z. absurd (omega arith)) in
    h (2 * t) (some_same (setting_of e t) (setting_of (Branch tag m o e) (2 * t)) (sym k) is) (ap (λ (v : Option Setting). puts_on v) k ∙ on)) in
    λ j. first j ++ (odds j ++ evens j)

pub shared_none : (nodes : List Node) → AreShared nodes → (here other scale offset : ℕ) → here < length nodes → ((t : ℕ) → IsThere (at_id nodes here) t → setting_of (at_id nodes other) (t * scale + offset) ≡ setting_of (at_id nodes here) t) → (tag : ℕ) → times tag (chosen (λ t. t * scale + offset) (is_off (at_id nodes other)) (at_id nodes here)) ≡ 0
shared_none nodes are here other scale offset w part tag =
    ap (times tag) (nothing_chosen (at_id nodes here) (full_below (suc here) here nodes are (omega arith) w) (λ t. t * scale + offset) (is_off (at_id nodes other))
    (λ t is on. ap (λ (v : Option Setting). not (puts_on v)) (part t is) ∙ ap (λ (b : Bool). not b) on))

pub empty_none : (nodes : List Node) (here other scale offset : ℕ) → here ≡ 0 → (tag : ℕ) → times tag (chosen (λ t. t * scale + offset) (is_off (at_id nodes other)) (at_id nodes here)) ≡ 0
empty_none nodes here other scale offset z tag = ap (λ (v : Tree). times tag (chosen (λ t. t * scale + offset) (is_off (at_id nodes other)) v)) (ap (at_id nodes) z ∙ first_is nodes)

pub on_ok : {A E : Type 0} {P Q : Type 0} (r : Result A E) → OnOk r P → (P → Q) → OnOk r Q
on_ok (Ok x) h f = f h
on_ok (Err x) h f = tt

-- THE ENTRIES OF A PART

scaled_twice : (a b c d e f : ℕ) → ((x : ℕ) → (x * a + b) * c + d ≡ x * e + f) → (es : List TagEntry) → scaled c d (scaled a b es) ≡ scaled e f es
scaled_twice a b c d e f h [] = refl
scaled_twice a b c d e f h (x ∷ es) = λ j. record { tag = h x.tag j; writer = x.writer; on = x.on } ∷ scaled_twice a b c d e f h es j

scaled_append : (c d : ℕ) (xs ys : List TagEntry) → scaled c d (xs ++ ys) ≡ scaled c d xs ++ scaled c d ys
scaled_append c d [] ys = refl
scaled_append c d (x ∷ xs) ys = ap (λ (v : List TagEntry). record { tag = x.tag * c + d; writer = x.writer; on = x.on } ∷ v) (scaled_append c d xs ys)

scaled_one : (c d tag : ℕ) (m : Option Setting) → scaled c d (entry_if tag m) ≡ entry_if (tag * c + d) m
scaled_one c d tag None = refl
scaled_one c d tag (Some m) = refl

pub entries_empty : (nodes : List Node) (id scale offset : ℕ) → id ≡ 0 → (old : List TagEntry) → old ≡ old ++ scaled scale offset (entries_of (at_id nodes id))
entries_empty nodes id scale offset z old = sym (ap (λ (v : Tree). old ++ scaled scale offset (entries_of v)) (ap (at_id nodes) z ∙ first_is nodes) ∙ append-nil old)

pub entries_in_steps : (nodes : List Node) (are : AreShared nodes) (id scale offset : ℕ) (n : Node) → 0 < id → slice_get nodes id ≡ Some n → (old : List TagEntry)
    → ((old ++ entry_if (n.tag * scale + offset) n.setting) ++ scaled (scale * 2) (offset + scale) (entries_of (at_id nodes n.odd))) ++ scaled (scale * 2) offset (entries_of (at_id nodes n.even)) ≡ old ++ scaled scale offset (entries_of (at_id nodes id))
entries_in_steps nodes are id scale offset n p at old =
    let one = entry_if (n.tag * scale + offset) n.setting in
    let o = entries_of (at_id nodes n.odd) in
    let e = entries_of (at_id nodes n.even) in
    let odds = scaled (scale * 2) (offset + scale) o in
    let evens = scaled (scale * 2) offset e in
    let tree : scaled scale offset (entries_of (at_id nodes id)) ≡ one ++ (odds ++ evens) =
    ap (λ (v : Tree). scaled scale offset (entries_of v)) (node_tree nodes id n are p at)
    ∙ (scaled_append scale offset (entry_if n.tag n.setting) (scaled 2 1 o ++ scaled 2 0 e)
    ∙ (ap (λ (v : List TagEntry). scaled scale offset (entry_if n.tag n.setting) ++ v) (scaled_append scale offset (scaled 2 1 o) (scaled 2 0 e))
    ∙ (λ j. scaled_one scale offset n.tag n.setting j ++ (scaled_twice 2 1 scale offset (scale * 2) (offset + scale) (λ x. omega arith) o j ++ scaled_twice 2 0 scale offset (scale * 2) offset (λ x. omega arith) e j)))) in
    append_assoc (old ++ one) odds evens ∙ (append_assoc old one (odds ++ evens) ∙ ap (λ (v : List TagEntry). old ++ v) (sym tree))

pub entries_whole : (es : List TagEntry) → scaled 1 0 es ≡ es
entries_whole [] = refl
entries_whole (e ∷ es) = let one : e.tag * 1 + 0 ≡ e.tag = omega arith in λ j. record { tag = one j; writer = e.writer; on = e.on } ∷ entries_whole es j

-- NO TAG THAT IS ON

pub on_is_there : (m : Option Setting) → puts_on m ≡ true → is_some m ≡ true
on_is_there None h = h
on_is_there (Some m) h = refl

pub none_in_empty : (nodes : List Node) (id : ℕ) → id ≡ 0 → (t : ℕ) → puts_on (setting_of (at_id nodes id) t) ≡ false
none_in_empty nodes id z t = ap (λ (v : Tree). puts_on (setting_of v t)) (ap (at_id nodes) z ∙ first_is nodes)

module _ (nodes : List Node) (are : AreShared nodes) (id : ℕ) (n : Node) (at : slice_get nodes id ≡ Some n) where
  pub own_on : puts_on n.setting ≡ true → (t : ℕ) × (puts_on (setting_of (at_id nodes id) t) ≡ true)
  own_on h = (n.tag, ap (λ (v : Option Setting). puts_on v) (node_settings nodes id n are at n.tag ∙ setting_top n.tag n.setting (at_id nodes n.odd) (at_id nodes n.even) n.tag refl) ∙ h)

  pub odd_on : (t : ℕ) × (puts_on (setting_of (at_id nodes n.odd) t) ≡ true) → (t : ℕ) × (puts_on (setting_of (at_id nodes id) t) ≡ true)
  odd_on w = (2 * w.0 + 1, ap (λ (v : Option Setting). puts_on v) (odd_whole nodes are id n at w.0 (on_is_there (setting_of (at_id nodes n.odd) w.0) w.1)) ∙ w.1)

  pub even_on : (t : ℕ) × (puts_on (setting_of (at_id nodes n.even) t) ≡ true) → (t : ℕ) × (puts_on (setting_of (at_id nodes id) t) ≡ true)
  even_on w = (2 * w.0, ap (λ (v : Option Setting). puts_on v) (even_whole nodes are id n at w.0 (on_is_there (setting_of (at_id nodes n.even) w.0) w.1)) ∙ w.1)

  pub none_on : puts_on n.setting ≡ false → ((t : ℕ) → puts_on (setting_of (at_id nodes n.odd) t) ≡ false) → ((t : ℕ) → puts_on (setting_of (at_id nodes n.even) t) ≡ false) → (t : ℕ) → puts_on (setting_of (at_id nodes id) t) ≡ false
  none_on own odd even t =
      let o = at_id nodes n.odd in
      let e = at_id nodes n.even in
      ap (λ (v : Option Setting). puts_on v) (node_settings nodes id n are at t)
      ∙ split (t == n.tag)
      (λ y. ap (λ (v : Option Setting). puts_on v) (setting_top n.tag n.setting o e t ((Decides-eqb t n.tag).0 y)) ∙ own)
      (λ f.
      let below = setting_below n.tag n.setting o e t (λ k. clash (t == n.tag) (is_same t n.tag k) f) in
      by_parity t
      (λ r. ap (λ (v : Option Setting). puts_on v) (below ∙ part_odd o e t r) ∙ odd (half t))
      (λ r. ap (λ (v : Option Setting). puts_on v) (below ∙ part_even o e t r) ∙ even (half t)))
