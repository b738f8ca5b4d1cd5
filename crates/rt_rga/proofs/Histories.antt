-- Histories, and one more operation.
use Rattle.std.proofs.Common.{◌≡◌, ℕ, ◌+◌, ◌<◌, ◌≤◌, Bool, true, false, ◌⊎◌, inl, inr, refl, sym, ap, subst, ◌∙◌, arith, List, [], ◌∷◌, cond, ◌||◌, ◌==◌, length, max}
use Rattle.std.proofs.lemmas.Bool.Decides.{nat_tests}
use Rattle.std.specs.List.{AllByRecursion, list_any}
use Rattle.rt_stamps.specs.declared.stamp.Stamp.{Stamp}
use Rattle.rt_stamps.specs.Stamps.{is_before, is_same}
use Rattle.rt_stamps.specs.declared.stamp.TheConstants.{FINAL, ROOT}
use Rattle.rt_rga.specs.Reading.{Character, reading_by_stamp, with_character, with_characters, has_stamp}
use Rattle.rt_rga.proofs.Rooted.{IsTree}
use Rattle.rt_ops.specs.Operations.{Operation, Body, Insert, Delete, Tag, Name, stamp_of, last_of, last_count}
use Rattle.rt_oplog.specs.Logs.{with_operation, known_end}
use Rattle.rt_rga.specs.Histories.{characters_from, inserted_by, inserted, has_character, Continues, IsHistory, final_character, characters}
use Rattle.rt_rga.proofs.Continuing.{names, IsKnown, knows, known_all, HasText, sound_of}
use Rattle.rt_stamps.proofs.Order.{before_trans, before_asym, before_total, same_refl, same_sym, same_from_true}
use Rattle.rt_rga.proofs.Skipping.{split}
use Rattle.rt_rga.proofs.Trees.{member_with}
use Rattle.rt_store.proofs.Places.{after_skip}
use Rattle.rt_store.specs.Cells.{put_at}
use Rattle.rt_rga.proofs.Runs.{IsRun, stamps_read, AllFresh, FitsRun, tree_run, law_run}

-- the characters of an operation lie in its counts
pub record Within (stamp : Stamp) (n : ℕ) (s : Stamp) : Type 0 where
  pub site : s.site ≡ stamp.site
  pub low : stamp.count ≤ s.count
  pub high : s.count < stamp.count + n

typed_range : (left stamp : Stamp) (text : List ℕ) (s : Stamp) → has_stamp (characters_from left stamp text) s ≡ true → Within stamp (length text) s
typed_range left stamp [] s h = absurd (cc h)
typed_range left stamp (x ∷ text) s h = split (is_same stamp s)
    (λ e. let k : stamp ≡ s = same_from_true stamp s e in
    record { site = cc (ap (λ t. t.site) k); low = omega (arith, ap (λ t. t.count) k); high = omega (arith, ap (λ t. t.count) k) })
    (λ e. let r = typed_range stamp (record { count = stamp.count + 1; site = stamp.site }) text s (grind arith) in
    record { site = r.site; low = omega (arith, r.low); high = omega (arith, r.high) })

next_after : (s : Stamp) → is_before s (record { count = s.count + 1; site = s.site }) ≡ true
next_after s = grind (arith, nat_tests)

pub typed_run : (left stamp : Stamp) (text : List ℕ) → is_before left stamp ≡ true → IsRun left (characters_from left stamp text)
typed_run left stamp [] h = tt
typed_run left stamp (x ∷ text) h = (refl, h, typed_run stamp (record { count = stamp.count + 1; site = stamp.site }) text (next_after stamp))

pub record IsInCounts (stamp : Stamp) (body : Body) (s : Stamp) : Type 0 where
  pub site : s.site ≡ stamp.site
  pub low : stamp.count ≤ s.count
  pub high : s.count ≤ last_of stamp.count body

inserted_by_range : (stamp : Stamp) (body : Body) (s : Stamp) → has_stamp (inserted_by stamp body) s ≡ true → IsInCounts stamp body s
inserted_by_range stamp (Insert after tags text) s h =
    let r = typed_range after stamp text s h in
    record { site = r.site; low = r.low; high = omega (arith, r.high) }
inserted_by_range stamp (Delete spans) s h = absurd (cc h)
inserted_by_range stamp (Tag on name spans) s h = absurd (cc h)

pub inserted_range : (op : Operation) (s : Stamp) → has_stamp (inserted op) s ≡ true → IsInCounts (stamp_of op) op.body s
inserted_range op s h = inserted_by_range (stamp_of op) op.body s h

end_more : (op : Operation) (s : Stamp) (rest : ℕ) → IsInCounts (stamp_of op) op.body s → s.count ≤ cond (op.site == s.site) (max (last_count op) rest) rest
end_more op s rest m = grind (arith, nat_tests, m.site, m.high)

pub end_kept : (op : Operation) (site count rest : ℕ) → count ≤ rest → count ≤ cond (op.site == site) (max (last_count op) rest) rest
end_kept op site count rest h = grind (arith, h)

-- a character lies within the known end of its site
pub character_end : (operations : List Operation) (s : Stamp) → has_character operations s ≡ true → s.count ≤ known_end operations s.site
character_end [] s h = absurd (cc h)
character_end (op ∷ older) s h = split (has_stamp (inserted op) s)
    (λ e. end_more op s (known_end older s.site) (inserted_range op s e))
    (λ e. end_kept op s.site s.count (known_end older s.site) (character_end older s (grind arith)))

-- a character's site is a site
pub character_site : (operations : List Operation) → IsHistory operations → (s : Stamp) → has_character operations s ≡ true → 0 < s.site
character_site [] t s h = absurd (cc h)
character_site (op ∷ older) t s h = split (has_stamp (inserted op) s)
    (λ e. let m = inserted_range op s e in omega (arith, m.site, (sound_of t.1).site))
    (λ e. character_site older t.2 s (grind arith))

pub member_with_all : (new cs : List Character) (s : Stamp) → has_stamp (with_characters new cs) s ≡ (has_stamp new s || has_stamp cs s)
member_with_all [] cs s = refl
member_with_all (c ∷ new) cs s = member_with_all new (with_character c cs) s ∙ rw (member_with c cs s) (shuffle (has_stamp new s) (is_same c.stamp s) (has_stamp cs s))
  where
    shuffle : (a b c : Bool) → (a || (b || c)) ≡ ((b || a) || c)
    shuffle a b c = grind arith

pub member_characters : (operations : List Operation) (s : Stamp) → has_stamp (characters operations) s ≡ (has_character operations s || (is_same FINAL s || false))
member_characters [] s = refl
member_characters (op ∷ older) s = member_with_all (inserted op) (characters older) s ∙ rw (member_characters older s) (shuffle (has_stamp (inserted op) s) (has_character older s) (is_same FINAL s || false))
  where
    shuffle : (a b c : Bool) → (a || (b || c)) ≡ ((a || b) || c)
    shuffle a b c = grind arith

-- what an operation has_character is new
pub inserted_new : (older : List Operation) (op : Operation) → Continues older op → (s : Stamp) → has_stamp (inserted op) s ≡ true → has_character older s ≡ false
inserted_new older op k s h = split (has_character older s)
    (λ e. let m = inserted_range op s h in
    let i : s.count ≤ known_end older s.site = character_end older s e in
    let j : known_end older s.site ≡ known_end older op.site = ap (known_end older) m.site in
    absurd (omega (arith, m.low, k.prev, (sound_of k).prev)))
    (λ e. e)

pub all_from_members : (P : Stamp → Type 0) (cs : List Character) → ((s : Stamp) → has_stamp cs s ≡ true → P s) → AllByRecursion (λ c. P c.stamp) cs
all_from_members P [] f = tt
all_from_members P (c ∷ cs) f = (f c.stamp (rw (same_refl c.stamp)), all_from_members P cs (λ s h. f s (grind (arith, h))))

pub not_final : (s : Stamp) → 0 < s.site → is_same FINAL s ≡ false
not_final s h = grind (arith, nat_tests)

pub inserted_fresh : (older : List Operation) (op : Operation) → Continues older op → AllFresh (inserted op) (characters older)
inserted_fresh older op k = all_from_members (λ s. has_stamp (characters older) s ≡ false) (inserted op)
    (λ s h. let m = inserted_range op s h in
    let n : has_character older s ≡ false = inserted_new older op k s h in
    let f : is_same FINAL s ≡ false = not_final s (omega (arith, m.site, (sound_of k).site)) in
    member_characters older s ∙ grind arith)

final_tree : IsTree (final_character ∷ [])
final_tree = record { ascending = (tt, tt); rooted = (record { greater = refl; known = inr refl }, tt) }

-- what an operation has_character is nothing, or a run that the tree can take
pub IsNothingOrRun : List Character → List Character → Type 0
IsNothingOrRun new cs = (new ≡ []) ⊎ ((c : Character) × (rest : List Character) × (new ≡ c ∷ rest) × FitsRun c rest cs)

known_member : (older : List Operation) (s : Stamp) → (has_character older s ≡ true) ⊎ (s ≡ ROOT) → (has_stamp (characters older) s ≡ true) ⊎ (s ≡ ROOT)
known_member older s h = elim h [ inl k ↦ inl (member_characters older s ∙ rw k) | inr k ↦ inr k ]

pub run_fits : (older : List Operation) (stamp after : Stamp) (ch : ℕ) (text : List ℕ) → is_before after stamp ≡ true
    → (has_character older after ≡ true) ⊎ (after ≡ ROOT) → AllFresh (characters_from after stamp (ch ∷ text)) (characters older)
    → FitsRun (record { stamp = stamp; left = after; ch = ch }) (characters_from stamp (record { count = stamp.count + 1; site = stamp.site }) text) (characters older)
run_fits older stamp after ch text h k f = record {
  first = record { greater = h; known = known_member older after k; fresh = f.0 };
  run = typed_run stamp (record { count = stamp.count + 1; site = stamp.site }) text (next_after stamp);
  fresh = f.1;
}

inserted_runs : (older : List Operation) (stamp : Stamp) (body : Body) → HasText body → ((s : Stamp) → names body s ≡ true → is_before s stamp ≡ true)
    → ((s : Stamp) → names body s ≡ true → IsKnown older body s) → AllFresh (inserted_by stamp body) (characters older) → IsNothingOrRun (inserted_by stamp body) (characters older)
unfolding IsNothingOrRun
inserted_runs older stamp (Insert after tags []) t n k f = inl refl
inserted_runs older stamp (Insert after tags (ch ∷ text)) t n k f =
    inr (
      record { stamp = stamp; left = after; ch = ch },
      characters_from stamp (record { count = stamp.count + 1; site = stamp.site }) text,
      refl,
      run_fits older stamp after ch text (n after (rw (same_refl after))) (k after (rw (same_refl after))) f,
    )
inserted_runs older stamp (Delete spans) t n k f = inl refl
inserted_runs older stamp (Tag on name spans) t n k f = inl refl

pub op_runs : (older : List Operation) (op : Operation) → Continues older op → IsNothingOrRun (inserted op) (characters older)
op_runs older op k = inserted_runs older (stamp_of op) op.body (sound_of k).text (sound_of k).named (knows k) (inserted_fresh older op k)

tree_more : (new cs : List Character) → IsTree cs → IsNothingOrRun new cs → IsTree (with_characters new cs)
unfolding IsNothingOrRun
tree_more new cs t h = elim h [
  | inl e ↦ rw e t
  | inr r ↦ let (c, rest, e, f) = r in rw e (tree_run rest c cs t f)
]

-- The characters of a history are a tree.
pub tree_of : (operations : List Operation) → IsHistory operations → IsTree (characters operations)
tree_of [] h = final_tree
tree_of (op ∷ older) h = tree_more (inserted op) (characters older) (tree_of older h.2) (op_runs older op h.1)

-- One more operation among the others.

pub any_with : (p : Operation → Bool) (op : Operation) (older : List Operation) → list_any p (with_operation op older) ≡ (p op || list_any p older)
any_with p op [] = refl
any_with p op (q ∷ older) = grind (arith, any_with p op older)

pub all_with_op : (P : Operation → Type 0) (op : Operation) → P op → (older : List Operation) → AllByRecursion P older → AllByRecursion P (with_operation op older)
all_with_op P op h [] k = (h, tt)
all_with_op P op h (q ∷ older) k = elim (is_before (stamp_of q) (stamp_of op)) as (λ t. AllByRecursion P (cond t (op ∷ q ∷ older) (q ∷ with_operation op older))) [
  | true ↦ (h, k)
  | false ↦ (k.0, all_with_op P op h older k.1)
]

end_with : (op : Operation) (older : List Operation) (site : ℕ) → (op.site == site) ≡ false → known_end (with_operation op older) site ≡ known_end older site
end_with op [] site h = rw h
end_with op (q ∷ older) site h = grind (arith, h, end_with op older site h)

pub known_weaker : (older more : List Operation) (body : Body) (s : Stamp) → (has_character older s ≡ true → has_character more s ≡ true) → IsKnown older body s → IsKnown more body s
known_weaker older more (Insert after tags text) s h k = elim k [ inl m ↦ inl (h m) | inr m ↦ inr m ]
known_weaker older more (Delete spans) s h k = h k
known_weaker older more (Tag on name spans) s h k = elim k [ inl m ↦ inl (h m) | inr m ↦ inr m ]

pub last_ge : (count : ℕ) (body : Body) → count ≤ last_of count body
last_ge count (Insert after tags text) = omega arith
last_ge count (Delete spans) = omega arith
last_ge count (Tag on name spans) = omega arith

pub continues_with : (older : List Operation) (q op : Operation) → Continues older q → (op.site == q.site) ≡ false → Continues (with_operation op older) q
continues_with older q op k n = record {
  sound = k.sound;
  rules = k.rules;
  prev = k.prev ∙ sym (end_with op older q.site n);
  known = known_all (with_operation op older) q.body (λ s h. known_weaker older (with_operation op older) q.body s
      (λ m. any_with (λ p. has_stamp (inserted p) s) op older ∙ grind (arith, m)) (knows k s h));
}

pub end_own : (q : Operation) (site rest : ℕ) → (q.site == site) ≡ true → last_count q ≤ cond (q.site == site) (max (last_count q) rest) rest
end_own q site rest h = grind (arith, h)

before_count : (a b : Stamp) → is_before a b ≡ true → a.count ≤ b.count
before_count a b h = grind (arith, nat_tests)

-- an operation before q, which the set with q can take, is of another site
other_site : (older : List Operation) (q op : Operation) → Continues (q ∷ older) op → is_before (stamp_of op) (stamp_of q) ≡ true → (q.site == op.site) ≡ false
other_site older q op k b = split (q.site == op.site)
    (λ e. absurd (omega (arith, k.prev, (sound_of k).prev, end_own q op.site (known_end older op.site) e, last_ge q.count q.body, before_count (stamp_of op) (stamp_of q) b)))
    (λ e. e)

not_inserted : (q : Operation) (s t : Stamp) → is_before s t ≡ true → is_before t (stamp_of q) ≡ true → has_stamp (inserted q) s ≡ false
not_inserted q s t h k = split (has_stamp (inserted q) s)
    (λ e. let m = inserted_range q s e in absurd (late (before_trans s t (stamp_of q) h k) m.site m.low))
    (λ e. e)
  where
    late : is_before s (stamp_of q) ≡ true → s.site ≡ q.site → q.count ≤ s.count → ⊥
    late i j l = grind (arith, nat_tests)

pub lower : (older : List Operation) (q op : Operation) → Continues (q ∷ older) op → is_before (stamp_of op) (stamp_of q) ≡ true → Continues older op
lower older q op k b = record {
  sound = k.sound;
  rules = k.rules;
  prev = k.prev ∙ rw (other_site older q op k b);
  known = known_all older op.body (λ s h. known_weaker (q ∷ older) older op.body s
      (λ m. let n = not_inserted q s (stamp_of op) ((sound_of k).named s h) b in grind (arith, m, n)) (knows k s h));
}

-- stamps of one set are apart
pub not_same_op : (older : List Operation) (q op : Operation) → Continues (q ∷ older) op → is_same (stamp_of q) (stamp_of op) ≡ false
not_same_op older q op k = split (is_same (stamp_of q) (stamp_of op))
    (λ e. let i = same_from_true (stamp_of q) (stamp_of op) e in
    let j : (q.site == op.site) ≡ true = grind (arith, nat_tests) in
    absurd (omega (arith, k.prev, (sound_of k).prev, end_own q op.site (known_end older op.site) j, last_ge q.count q.body, ap (λ t. t.count) i)))
    (λ e. e)

pub site_sym : (a b : ℕ) → (a == b) ≡ (b == a)
site_sym a b = grind (arith, nat_tests)

pub ops_weaker : (P Q : Operation → Type 0) → ((d : Operation) → P d → Q d) → (xs : List Operation) → AllByRecursion P xs → AllByRecursion Q xs
ops_weaker P Q w [] h = tt
ops_weaker P Q w (x ∷ xs) h = (w x h.0, ops_weaker P Q w xs h.1)

-- A history with an operation that continues it is a history.
pub history_with : (op : Operation) (older : List Operation) → IsHistory older → Continues older op → IsHistory (with_operation op older)
history_with op [] h k = (tt, k, tt)
history_with op (q ∷ older) h k =
    elim (is_before (stamp_of q) (stamp_of op)) as (λ t. is_before (stamp_of q) (stamp_of op) ≡ t → IsHistory (cond t (op ∷ q ∷ older) (q ∷ with_operation op older))) [
      | true ↦ λ e. ((e, ops_weaker (λ p. is_before (stamp_of p) (stamp_of q) ≡ true) (λ p. is_before (stamp_of p) (stamp_of op) ≡ true) (λ p i. before_trans (stamp_of p) (stamp_of q) (stamp_of op) i e) older h.0), k, h)
      | false ↦ λ e. let b : is_before (stamp_of op) (stamp_of q) ≡ true = before_total (stamp_of q) (stamp_of op) e (not_same_op older q op k) in (
        all_with_op (λ p. is_before (stamp_of p) (stamp_of q) ≡ true) op b older h.0,
        continues_with older q op h.1 (site_sym op.site q.site ∙ other_site older q op k b),
        history_with op older h.2 (lower older q op k b),
      )
    ] refl

-- The order in which characters are added doesn't matter.
pub after_both : (a b c : Stamp) → is_before c a ≡ true → is_before c b ≡ false → is_before b a ≡ true
after_both a b c h k = grind (arith, nat_tests)

with_comm : (a b : Character) → is_same a.stamp b.stamp ≡ false → (cs : List Character) → with_character a (with_character b cs) ≡ with_character b (with_character a cs)
with_comm a b n [] = split (is_before b.stamp a.stamp)
    (λ e. let f = before_asym b.stamp a.stamp e in grind (arith, e, f))
    (λ e. let f = before_total b.stamp a.stamp e (same_sym b.stamp a.stamp ∙ n) in grind (arith, e, f))
with_comm a b n (c ∷ cs) = split (is_before c.stamp a.stamp)
    (λ e. split (is_before c.stamp b.stamp)
    (λ f. grind (arith, e, f, with_comm a b n cs))
    (λ f. let g = after_both a.stamp b.stamp c.stamp e f in let h = before_asym b.stamp a.stamp g in grind (arith, e, f, g, h)))
    (λ e. split (is_before c.stamp b.stamp)
    (λ f. let g = after_both b.stamp a.stamp c.stamp f e in let h = before_asym a.stamp b.stamp g in grind (arith, e, f, g, h))
    (λ f. split (is_before b.stamp a.stamp)
    (λ g. let h = before_asym b.stamp a.stamp g in grind (arith, e, f, g, h))
    (λ g. let h = before_total b.stamp a.stamp g (same_sym b.stamp a.stamp ∙ n) in grind (arith, e, f, g, h))))

abbrev AreApart : List Character → List Character → Type 0
AreApart xs ys = AllByRecursion (λ x. AllByRecursion (λ y. is_same x.stamp y.stamp ≡ false) ys) xs

with_one_comm : (a : Character) (new : List Character) → AllByRecursion (λ y. is_same a.stamp y.stamp ≡ false) new → (cs : List Character)
    → with_character a (with_characters new cs) ≡ with_characters new (with_character a cs)
with_one_comm a [] h cs = refl
with_one_comm a (c ∷ new) h cs = with_one_comm a new h.1 (with_character c cs) ∙ ap (with_characters new) (with_comm a c h.0 cs)

with_all_comm : (xs ys : List Character) → AreApart xs ys → (cs : List Character)
    → with_characters xs (with_characters ys cs) ≡ with_characters ys (with_characters xs cs)
with_all_comm [] ys h cs = refl
with_all_comm (x ∷ xs) ys h cs = ap (with_characters xs) (with_one_comm x ys h.0 cs) ∙ with_all_comm xs ys h.1 (with_character x cs)

pub sites_apart : (a b : Stamp) (m n : ℕ) → a.site ≡ m → b.site ≡ n → (m == n) ≡ false → is_same a b ≡ false
sites_apart a b m n h k o = grind (arith, nat_tests)

inserted_apart : (q op : Operation) → (q.site == op.site) ≡ false → AreApart (inserted q) (inserted op)
inserted_apart q op h = all_from_members (λ s. AllByRecursion (λ y. is_same s y.stamp ≡ false) (inserted op)) (inserted q)
    (λ s m. all_from_members (λ t. is_same s t ≡ false) (inserted op)
    (λ t n. sites_apart s t q.site op.site (inserted_range q s m).site (inserted_range op t n).site h))

-- The characters of a history with one more operation.
pub characters_with : (op : Operation) (older : List Operation) → IsHistory older → Continues older op
    → characters (with_operation op older) ≡ with_characters (inserted op) (characters older)
characters_with op [] h k = refl
characters_with op (q ∷ older) h k =
    elim (is_before (stamp_of q) (stamp_of op)) as (λ t. is_before (stamp_of q) (stamp_of op) ≡ t
    → characters (cond t (op ∷ q ∷ older) (q ∷ with_operation op older)) ≡ with_characters (inserted op) (characters (q ∷ older))) [
      | true ↦ λ e. refl
      | false ↦ λ e. let b : is_before (stamp_of op) (stamp_of q) ≡ true = before_total (stamp_of q) (stamp_of op) e (not_same_op older q op k) in
          ap (with_characters (inserted q)) (characters_with op older h.2 (lower older q op k b))
          ∙ with_all_comm (inserted q) (inserted op) (inserted_apart q op (other_site older q op k b)) (characters older)
    ] refl

end_ge : (op : Operation) (older : List Operation) → last_count op ≤ known_end (with_operation op older) op.site
end_ge op [] = grind (arith, nat_tests)
end_ge op (q ∷ older) = grind (arith, nat_tests, end_ge op older)

raised : (older : List Operation) (q op : Operation) → Continues older op → (q.site == op.site) ≡ false → Continues (q ∷ older) op
raised older q op k n = record {
  sound = k.sound;
  rules = k.rules;
  prev = k.prev ∙ rw n;
  known = known_all (q ∷ older) op.body (λ s h. known_weaker older (q ∷ older) op.body s (λ m. grind (arith, m)) (knows k s h));
}

sites_differ : (older : List Operation) (q op : Operation) → Continues older op → Continues older q → Continues (with_operation op older) q → (q.site == op.site) ≡ false
sites_differ older q op k kq kw = split (q.site == op.site)
    (λ e. let s : q.site ≡ op.site = grind (arith, nat_tests) in
    let i = ap (known_end older) s in
    let j = ap (known_end (with_operation op older)) s in
    absurd (omega (arith, kq.prev, kw.prev, k.prev, (sound_of k).prev, end_ge op older, last_ge op.count op.body, i, j)))
    (λ e. e)

pub continues_from : (op : Operation) (older : List Operation) → IsHistory older → IsHistory (with_operation op older) → Continues older op
continues_from op [] h w = w.1
continues_from op (q ∷ older) h w =
    (elim (is_before (stamp_of q) (stamp_of op)) as (λ t. IsHistory (cond t (op ∷ q ∷ older) (q ∷ with_operation op older)) → Continues (q ∷ older) op) [
      | true ↦ λ v. v.1
      | false ↦ λ v. let k = continues_from op older h.2 v.2 in raised older q op k (sites_differ older q op k h.1 v.1)
    ]) w

pub run_law : (older : List Operation) (stamp after : Stamp) (tags : List Name) (text : List ℕ) → IsHistory older → 0 < length text
    → ((s : Stamp) → names (Insert after tags text) s ≡ true → is_before s stamp ≡ true) → ((s : Stamp) → names (Insert after tags text) s ≡ true → IsKnown older (Insert after tags text) s)
    → AllFresh (characters_from after stamp text) (characters older)
    → reading_by_stamp (with_characters (characters_from after stamp text) (characters older))
    ≡ put_at (after_skip after stamp (stamps_read (reading_by_stamp (characters older)))) (characters_from after stamp text) (reading_by_stamp (characters older))
run_law older stamp after tags [] h t n k f = absurd (omega arith)
run_law older stamp after tags (ch ∷ text) h t n k f =
    law_run (record { stamp = stamp; left = after; ch = ch }) (characters_from stamp (record { count = stamp.count + 1; site = stamp.site }) text) (characters older)
    (tree_of older h) (run_fits older stamp after ch text (n after (rw (same_refl after))) (k after (rw (same_refl after))) f)

by_body : (older : List Operation) (stamp : Stamp) (body : Body) (after : Stamp) (tags : List Name) (text : List ℕ) → body ≡ Insert after tags text → IsHistory older
    → HasText body → ((s : Stamp) → names body s ≡ true → is_before s stamp ≡ true) → ((s : Stamp) → names body s ≡ true → IsKnown older body s)
    → AllFresh (inserted_by stamp body) (characters older)
    → reading_by_stamp (with_characters (inserted_by stamp body) (characters older))
    ≡ put_at (after_skip after stamp (stamps_read (reading_by_stamp (characters older)))) (inserted_by stamp body) (reading_by_stamp (characters older))
by_body older stamp body after tags text e h =
    subst (λ b. HasText b → ((s : Stamp) → names b s ≡ true → is_before s stamp ≡ true) → ((s : Stamp) → names b s ≡ true → IsKnown older b s)
    → AllFresh (inserted_by stamp b) (characters older)
    → reading_by_stamp (with_characters (inserted_by stamp b) (characters older))
    ≡ put_at (after_skip after stamp (stamps_read (reading_by_stamp (characters older)))) (inserted_by stamp b) (reading_by_stamp (characters older)))
    (sym e) (λ t n k f. run_law older stamp after tags text h t n k f)

-- The law of skipping: a history with an Insert.
pub law_insert : (older : List Operation) (op : Operation) (after : Stamp) (tags : List Name) (text : List ℕ) → op.body ≡ Insert after tags text
    → IsHistory older → Continues older op
    → reading_by_stamp (characters (with_operation op older)) ≡ put_at (after_skip after (stamp_of op) (stamps_read (reading_by_stamp (characters older)))) (inserted op) (reading_by_stamp (characters older))
law_insert older op after tags text e h k =
    ap reading_by_stamp (characters_with op older h k)
    ∙ by_body older (stamp_of op) op.body after tags text e h (sound_of k).text (sound_of k).named (knows k) (inserted_fresh older op k)
