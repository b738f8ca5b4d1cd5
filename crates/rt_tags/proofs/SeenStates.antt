-- What is seen of a state that shares its parts.
use Rattle.std.proofs.Common.{◌≡◌, ℕ, suc, ◌==◌, ◌||◌, ◌+◌, ◌*◌, ◌%◌, ◌<◌, List, [], ◌∷◌, ◌++◌, filter, length, get_or, Bool, true, false, not, cond, refl, sym, ap, subst, ◌∙◌, arith, Option, Some, None, inl, inr}
use Rattle.std.specs.List.{AllByRecursion}
use Rattle.std.specs.Str.{bytes_eq}
use Rattle.std.proofs.lemmas.Bool.{cases_lt}
use Rattle.std.proofs.lemmas.Bool.Decides.{Decides-eqb}
use Rattle.std.proofs.lemmas.List.Elements.{filter-append}
use Rattle.rt_stamps.specs.Stamps.{is_before}
use Rattle.rt_tags.specs.declared.nodes.Setting.{Setting}
use Rattle.rt_tags.specs.declared.states.TagEntry.{TagEntry}
use Rattle.rt_tags.specs.Kept.{all_seen, write_seen, state_of}
use Rattle.rt_tags.specs.SharedStates.{Branch, Empty, IsBelow, IsThere, Tree, entries_of, entry_if, half, is_setting_kept, puts_on, scaled, setting_of, settings_after}
use Rattle.rt_tags.specs.States.{IsByName, Write, is_kept, is_on, is_settled, says_on, write_of, written}
use Rattle.rt_tags.specs.Tags.{HaveNoRepeats, is_listed}
use Rattle.rt_tags.specs.Writers.{greatest, writes_of}
use Rattle.rt_tags.proofs.Commuting.{one_state}
use Rattle.rt_tags.proofs.Entries.{Named, differs_there, same_test}
use Rattle.rt_tags.proofs.Greatest.{after_all, newer, write_of_written}
use Rattle.rt_tags.proofs.Merging.{after_by_name}
use Rattle.rt_tags.proofs.OneId.{IsFull, none_from, some_same}
use Rattle.rt_tags.proofs.Places.{clash, same_name, split}
use Rattle.rt_tags.proofs.Settings.{by_parity, in_even, in_odd, is_same, not_same, part_even, part_odd, same_tests, setting_below, setting_top}
use Rattle.rt_tags.proofs.Sorted.{every_append, written_sorted}

-- THE ENTRY OF A TAG

abbrev of_tag : ℕ → List TagEntry → List TagEntry
of_tag t entries = filter (λ e. e.tag == t) entries

in_part : (scale offset t u : ℕ) → ((x : ℕ) → (x * scale + offset == t) ≡ (x == u)) → (es : List TagEntry) → of_tag t (scaled scale offset es) ≡ scaled scale offset (of_tag u es)
in_part scale offset t u h [] = refl
in_part scale offset t u h (e ∷ es) =
    let one : TagEntry = record { tag = e.tag * scale + offset; writer = e.writer; on = e.on } in
    ap (λ b. cond b (one ∷ of_tag t (scaled scale offset es)) (of_tag t (scaled scale offset es))) (h e.tag) ∙ by (e.tag == u) (in_part scale offset t u h es)
  where
    by : (b : Bool) → of_tag t (scaled scale offset es) ≡ scaled scale offset (of_tag u es)
        → cond b (record { tag = e.tag * scale + offset; writer = e.writer; on = e.on } ∷ of_tag t (scaled scale offset es)) (of_tag t (scaled scale offset es)) ≡ scaled scale offset (cond b (e ∷ of_tag u es) (of_tag u es))
    by true r = ap (λ (v : List TagEntry). record { tag = e.tag * scale + offset; writer = e.writer; on = e.on } ∷ v) r
    by false r = r

not_in_part : (scale offset t : ℕ) → ((x : ℕ) → (x * scale + offset == t) ≡ false) → (es : List TagEntry) → of_tag t (scaled scale offset es) ≡ []
not_in_part scale offset t h [] = refl
not_in_part scale offset t h (e ∷ es) =
    let one : TagEntry = record { tag = e.tag * scale + offset; writer = e.writer; on = e.on } in
    ap (λ b. cond b (one ∷ of_tag t (scaled scale offset es)) (of_tag t (scaled scale offset es))) (h e.tag) ∙ not_in_part scale offset t h es

of_one : (tag t : ℕ) (m : Option Setting) → tag ≡ t → of_tag t (entry_if tag m) ≡ entry_if t m
of_one tag t None e = refl
of_one tag t (Some m) e =
    let one : TagEntry = record { tag = tag; writer = m.writer; on = m.on } in
    ap (λ b. cond b (one ∷ []) []) (is_same tag t e) ∙ ap (λ (n : ℕ). entry_if n (Some m)) e

of_another : (tag t : ℕ) (m : Option Setting) → (tag ≡ t → ⊥) → of_tag t (entry_if tag m) ≡ []
of_another tag t None e = refl
of_another tag t (Some m) e = let one : TagEntry = record { tag = tag; writer = m.writer; on = m.on } in ap (λ b. cond b (one ∷ []) []) (not_same tag t e)

whole_entry : (scale offset u t : ℕ) (m : Option Setting) → u * scale + offset ≡ t → scaled scale offset (entry_if u m) ≡ entry_if t m
whole_entry scale offset u t None e = refl
whole_entry scale offset u t (Some m) e = ap (λ (n : ℕ). entry_if n (Some m)) e

entries_nil : (xs : List TagEntry) → xs ++ [] ≡ xs
entries_nil [] = refl
entries_nil (x ∷ xs) = ap (λ (v : List TagEntry). x ∷ v) (entries_nil xs)

pub entries_there : (tree : Tree) → IsFull tree → (t : ℕ) → of_tag t (entries_of tree) ≡ entry_if t (setting_of tree t)
entries_there Empty full t = refl
entries_there (Branch tag m o e) full t =
    let is = λ (x : TagEntry). x.tag == t in
    let one = entry_if tag m in
    let odds = scaled 2 1 (entries_of o) in
    let evens = scaled 2 0 (entries_of e) in
    let parts : of_tag t (one ++ (odds ++ evens)) ≡ of_tag t one ++ (of_tag t odds ++ of_tag t evens) =
    filter-append is one (odds ++ evens) ∙ ap (λ (v : List TagEntry). of_tag t one ++ v) (filter-append is odds evens) in
    let odd_in = λ (r : t % 2 ≡ 1).
    in_part 2 1 t (half t) (λ x. same_tests (x * 2 + 1) t x (half t) (λ k. omega arith) (λ k. omega arith)) (entries_of o)
    ∙ (ap (scaled 2 1) (entries_there o full.1 (half t)) ∙ whole_entry 2 1 (half t) t (setting_of o (half t)) (omega arith)) in
    let even_in = λ (r : t % 2 ≡ 0).
    in_part 2 0 t (half t) (λ x. same_tests (x * 2 + 0) t x (half t) (λ k. omega arith) (λ k. omega arith)) (entries_of e)
    ∙ (ap (scaled 2 0) (entries_there e full.2 (half t)) ∙ whole_entry 2 0 (half t) t (setting_of e (half t)) (omega arith)) in
    let odd_out = λ (r : t % 2 ≡ 0). not_in_part 2 1 t (λ x. not_same (x * 2 + 1) t (λ k. absurd (omega arith))) (entries_of o) in
    let even_out = λ (r : t % 2 ≡ 1). not_in_part 2 0 t (λ x. not_same (x * 2 + 0) t (λ k. absurd (omega arith))) (entries_of e) in
    parts ∙ split (t == tag)
    (λ y.
    let k : t ≡ tag = (Decides-eqb t tag).0 y in
    let no_o : of_tag t odds ≡ [] = by_parity t
    (λ r. odd_in r ∙ ap (entry_if t) (none_from (setting_of o (half t)) (λ is. let w : tag < 2 * half t + 1 = full.0.odd (half t) is in absurd (omega arith))))
    odd_out in
    let no_e : of_tag t evens ≡ [] = by_parity t
    even_out
    (λ r. even_in r ∙ ap (entry_if t) (none_from (setting_of e (half t)) (λ is. let w : tag < 2 * half t = full.0.even (half t) is in absurd (omega arith)))) in
    (λ j. of_one tag t m (sym k) j ++ (no_o j ++ no_e j)) ∙ (entries_nil (entry_if t m) ∙ ap (entry_if t) (sym (setting_top tag m o e t k))))
    (λ n.
    let apart : t ≡ tag → ⊥ = λ k. clash (t == tag) (is_same t tag k) n in
    let none = of_another tag t m (λ k. apart (sym k)) in
    let below = setting_below tag m o e t apart in
    by_parity t
    (λ r. (λ j. none j ++ (odd_in r j ++ even_out r j)) ∙ (entries_nil (entry_if t (setting_of o (half t))) ∙ ap (entry_if t) (sym (below ∙ part_odd o e t r))))
    (λ r. (λ j. none j ++ (odd_out r j ++ even_in r j)) ∙ ap (entry_if t) (sym (below ∙ part_even o e t r))))

-- what is so of each tag that is there is so of each entry
part_all : (P : ℕ → Type 0) (scale offset : ℕ) (es : List TagEntry) → AllByRecursion (λ e. P (e.tag * scale + offset)) es → AllByRecursion (λ e. P e.tag) (scaled scale offset es)
part_all P scale offset [] h = tt
part_all P scale offset (e ∷ es) h = (h.0, part_all P scale offset es h.1)

one_all : (P : ℕ → Type 0) (tag : ℕ) (m : Option Setting) → P tag → AllByRecursion (λ e. P e.tag) (entry_if tag m)
one_all P tag None h = tt
one_all P tag (Some m) h = (h, tt)

entries_all : (P : ℕ → Type 0) (tree : Tree) → IsFull tree → ((t : ℕ) → IsThere tree t → P t) → AllByRecursion (λ (e : TagEntry). P e.tag) (entries_of tree)
entries_all P Empty full h = tt
entries_all P (Branch tag m o e) full h =
    let top = h tag (some_same m (setting_of (Branch tag m o e) tag) (sym (setting_top tag m o e tag refl)) full.0.is_set) in
    let odds = entries_all (λ t. P (t * 2 + 1)) o full.1 (λ t is.
    let w : tag < 2 * t + 1 = full.0.odd t is in
    let same : 2 * t + 1 ≡ t * 2 + 1 = omega arith in
    subst P same (h (2 * t + 1) (some_same (setting_of o t) (setting_of (Branch tag m o e) (2 * t + 1)) (sym (in_odd tag m o e t (λ z. absurd (omega arith)))) is))) in
    let evens = entries_all (λ t. P (t * 2 + 0)) e full.2 (λ t is.
    let w : tag < 2 * t = full.0.even t is in
    let same : 2 * t ≡ t * 2 + 0 = omega arith in
    subst P same (h (2 * t) (some_same (setting_of e t) (setting_of (Branch tag m o e) (2 * t)) (sym (in_even tag m o e t (λ z. absurd (omega arith)))) is))) in
    every_append (λ (x : TagEntry). P x.tag) (entry_if tag m) (scaled 2 1 (entries_of o) ++ scaled 2 0 (entries_of e)) (one_all P tag m top)
    (every_append (λ (x : TagEntry). P x.tag) (scaled 2 1 (entries_of o)) (scaled 2 0 (entries_of e)) (part_all P 2 1 (entries_of o) odds) (part_all P 2 0 (entries_of e) evens))

pub entries_named : (n : ℕ) (tree : Tree) → IsFull tree → IsBelow n tree → Named n (entries_of tree)
entries_named n tree full below = entries_all (λ t. t < n) tree full below

-- THE WRITE OF A TAG

-- a tag's setting as a write, if there is one
abbrev pub write_if : List ℕ → Option Setting → Option Write
write_if name None = None
write_if name (Some m) = Some (record { name = name; writer = m.writer; on = m.on })

writes_there : (names : List (List ℕ)) (tag : ℕ) → HaveNoRepeats names → tag < length names → (es : List TagEntry) → Named (length names) es → writes_of (get_or names tag []) (all_seen names es) ≡ all_seen names (of_tag tag es)
writes_there names tag own h [] k = refl
writes_there names tag own h (e ∷ es) k =
    ap (λ b. cond b (write_seen names e ∷ writes_of (get_or names tag []) (all_seen names es)) (writes_of (get_or names tag []) (all_seen names es))) (same_test names e.tag tag own k.0 h)
    ∙ by (e.tag == tag) (writes_there names tag own h es k.1)
  where
    by : (b : Bool) → writes_of (get_or names tag []) (all_seen names es) ≡ all_seen names (of_tag tag es)
        → cond b (write_seen names e ∷ writes_of (get_or names tag []) (all_seen names es)) (writes_of (get_or names tag []) (all_seen names es)) ≡ all_seen names (cond b (e ∷ of_tag tag es) (of_tag tag es))
    by true r = ap (λ (v : List Write). write_seen names e ∷ v) r
    by false r = r

no_writes : (name : List ℕ) (names : List (List ℕ)) → is_listed name names ≡ false → (es : List TagEntry) → Named (length names) es → writes_of name (all_seen names es) ≡ []
no_writes name names f [] k = refl
no_writes name names f (e ∷ es) k =
    ap (λ b. cond b (write_seen names e ∷ writes_of name (all_seen names es)) (writes_of name (all_seen names es))) (differs_there name names e.tag f k.0) ∙ no_writes name names f es k.1

module _ (names : List (List ℕ)) (own : HaveNoRepeats names) (tree : Tree) (full : IsFull tree) (below : IsBelow (length names) tree) where
  pub write_there : (tag : ℕ) → tag < length names → write_of (get_or names tag []) (state_of names tree) ≡ write_if (get_or names tag []) (setting_of tree tag)
  write_there tag w =
      let q = get_or names tag [] in
      after_all q [] (all_seen names (entries_of tree))
      ∙ (ap greatest (writes_there names tag own w (entries_of tree) (entries_named (length names) tree full below) ∙ ap (all_seen names) (entries_there tree full tag))
      ∙ by (setting_of tree tag))
    where
      by : (m : Option Setting) → greatest (all_seen names (entry_if tag m)) ≡ write_if (get_or names tag []) m
      by None = refl
      by (Some m) = refl

  pub write_nowhere : (name : List ℕ) → is_listed name names ≡ false → write_of name (state_of names tree) ≡ None
  write_nowhere name f = after_all name [] (all_seen names (entries_of tree)) ∙ ap greatest (no_writes name names f (entries_of tree) (entries_named (length names) tree full below))

  pub by_name_there : IsByName (state_of names tree)
  by_name_there = after_by_name [] (all_seen names (entries_of tree)) tt

  pub on_there : (tag : ℕ) → tag < length names → is_on (get_or names tag []) (state_of names tree) ≡ puts_on (setting_of tree tag)
  on_there tag w = ap says_on (write_there tag w) ∙ by (setting_of tree tag)
    where
      by : (m : Option Setting) → says_on (write_if (get_or names tag []) m) ≡ puts_on m
      by None = refl
      by (Some m) = refl

  pub settled_there : (e : TagEntry) → e.tag < length names → is_settled (write_seen names e) (state_of names tree) ≡ is_setting_kept (setting_of tree e.tag) e.writer
  settled_there e w = ap (λ o. is_kept o (write_seen names e)) (write_there e.tag w) ∙ by (setting_of tree e.tag)
    where
      by : (m : Option Setting) → is_kept (write_if (get_or names e.tag []) m) (write_seen names e) ≡ is_setting_kept m e.writer
      by None = refl
      by (Some m) = refl

-- ONE MORE WRITE

pub listed_place : (name : List ℕ) (names : List (List ℕ)) → is_listed name names ≡ true → (i : ℕ) × (i < length names) × (get_or names i [] ≡ name)
listed_place name [] h = absurd (cc)
listed_place name (x ∷ names) h = split (bytes_eq name x)
    (λ t. (0, (omega arith), sym (same_name name x t)))
    (λ f. let r = listed_place name names (sym (ap (λ b. b || is_listed name names) f) ∙ h) in (suc r.0, (let w = r.1 in omega (arith, w)), r.2))

pub newer_if : (names : List (List ℕ)) (e : TagEntry) (o : Option Setting) → write_if (get_or names e.tag []) (cond (is_setting_kept o e.writer) o (Some (record { writer = e.writer; on = e.on }))) ≡ Some (newer (write_if (get_or names e.tag []) o) (write_seen names e))
newer_if names e None = refl
newer_if names e (Some m) = by (is_before m.writer e.writer)
  where
    by : (b : Bool) → write_if (get_or names e.tag []) (cond (not b) (Some m) (Some (record { writer = e.writer; on = e.on }))) ≡ Some (cond b (write_seen names e) (record { name = get_or names e.tag []; writer = m.writer; on = m.on }))
    by true = refl
    by false = refl

module _ (names : List (List ℕ)) (own : HaveNoRepeats names) (old new : Tree) (full : IsFull old) (below : IsBelow (length names) old) (full_new : IsFull new) (below_new : IsBelow (length names) new) where
  module _ (e : TagEntry) (w : e.tag < length names) (after : (t : ℕ) → setting_of new t ≡ settings_after e.tag (record { writer = e.writer; on = e.on }) old t) where
    at_tag : (i : ℕ) → i < length names → write_of (get_or names i []) (state_of names new) ≡ write_of (get_or names i []) (written (write_seen names e) (state_of names old))
    at_tag i k =
        let q = get_or names i [] in
        let s : Setting = record { writer = e.writer; on = e.on } in
        let v = write_seen names e in
        let state = state_of names old in
        write_there names own new full_new below_new i k
        ∙ (ap (write_if q) (after i)
        ∙ (split (e.tag == i)
        (λ y.
        let one : e.tag ≡ i = (Decides-eqb e.tag i).0 y in
        ap (λ (b : Bool). write_if q (cond (is_setting_kept (setting_of old e.tag) e.writer) (setting_of old i) (cond b (Some s) (setting_of old i)))) (is_same i e.tag (sym one))
        ∙ (subst (λ (x : ℕ). write_if (get_or names x []) (cond (is_setting_kept (setting_of old e.tag) e.writer) (setting_of old x) (Some s)) ≡ Some (newer (write_if (get_or names e.tag []) (setting_of old e.tag)) v)) one (newer_if names e (setting_of old e.tag))
        ∙ (ap (λ (o : Option Write). Some (newer o v)) (sym (write_there names own old full below e.tag w))
        ∙ sym (ap (λ (b : Bool). cond b (Some (newer (write_of v.name state) v)) (write_of q state)) (same_test names e.tag i own w k ∙ y)))))
        (λ n.
        let apart : (i == e.tag) ≡ false = not_same i e.tag (λ z. clash (e.tag == i) (is_same e.tag i (sym z)) n) in
        ap (λ (b : Bool). write_if q (cond (is_setting_kept (setting_of old e.tag) e.writer) (setting_of old i) (cond b (Some s) (setting_of old i)))) apart
        ∙ (ap (write_if q) (either_way (is_setting_kept (setting_of old e.tag) e.writer) (setting_of old i))
        ∙ (sym (write_there names own old full below i k)
        ∙ sym (ap (λ (b : Bool). cond b (Some (newer (write_of v.name state) v)) (write_of q state)) (same_test names e.tag i own w k ∙ n)))))
        ∙ sym (write_of_written q v state)))
      where
        either_way : (b : Bool) (o : Option Setting) → cond b o o ≡ o
        either_way true o = refl
        either_way false o = refl

    at_none : (q : List ℕ) → is_listed q names ≡ false → write_of q (state_of names new) ≡ write_of q (written (write_seen names e) (state_of names old))
    at_none q f =
        let v = write_seen names e in
        let state = state_of names old in
        write_nowhere names own new full_new below_new q f
        ∙ sym (write_of_written q v state
        ∙ (ap (λ (b : Bool). cond b (Some (newer (write_of v.name state) v)) (write_of q state)) (differs_there q names e.tag f w)
        ∙ write_nowhere names own old full below q f))

    pub written_there : state_of names new ≡ written (write_seen names e) (state_of names old)
    written_there =
        one_state (state_of names new) (written (write_seen names e) (state_of names old)) (by_name_there names own new full_new below_new)
        (written_sorted (write_seen names e) (state_of names old) (by_name_there names own old full below))
        (λ q. split (is_listed q names)
        (λ t. let r = listed_place q names t in subst (λ (x : List ℕ). write_of x (state_of names new) ≡ write_of x (written (write_seen names e) (state_of names old))) r.2 (at_tag r.0 r.1))
        (λ f. at_none q f))

  setting_if : (name : List ℕ) (a b : Option Setting) → write_if name a ≡ write_if name b → a ≡ b
  setting_if name None None h = refl
  setting_if name None (Some m) h = absurd (cc)
  setting_if name (Some m) None h = absurd (cc)
  setting_if name (Some m) (Some n) h =
      let one : record { name = name; writer = m.writer; on = m.on } ≡ record { name = name; writer = n.writer; on = n.on } = cc in
      λ j. Some (record { writer = ap (λ (x : Write). x.writer) one j; on = ap (λ (x : Write). x.on) one j })

  -- states that are seen alike have the same settings
  pub settings_there : state_of names old ≡ state_of names new → (t : ℕ) → setting_of old t ≡ setting_of new t
  settings_there same t = elim (cases_lt t (length names)) as (λ w. setting_of old t ≡ setting_of new t) [
    | inl w ↦ setting_if (get_or names t []) (setting_of old t) (setting_of new t)
        (sym (write_there names own old full below t w) ∙ (ap (write_of (get_or names t [])) same ∙ write_there names own new full_new below_new t w))
    | inr w ↦ none_from (setting_of old t) (λ is. let k = below t is in absurd (omega (arith, k, w))) ∙ sym (none_from (setting_of new t) (λ is. let k = below_new t is in absurd (omega (arith, k, w))))
  ]
