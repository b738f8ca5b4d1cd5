-- The greatest write of a tag decides, an Insert's list under its own stamp.
use Rattle.std.proofs.Common.{◌≡◌, true, false, ◌⊎◌, inl, inr, refl, sym, ap, subst, ◌∙◌, arith, List, [], ◌∷◌, ◌++◌, cond, append_assoc}
use Rattle.std.proofs.lemmas.List.{append-nil}
use Rattle.std.specs.List.{AllByRecursion}
use Rattle.rt_stamps.specs.declared.stamp.Stamp.{Stamp}
use Rattle.rt_stamps.specs.declared.stamp.TheConstants.{FINAL, ROOT}
use Rattle.rt_stamps.specs.Stamps.{is_before, is_same}
use Rattle.rt_tags.specs.States.{Write, is_on}
use Rattle.rt_tags.specs.Writers.{is_shared, listed_by, state_after}
use Rattle.rt_tags.proofs.Greatest.{decides, listed_by_root}
use Rattle.rt_tags.proofs.Sorted.{every_append}
use Rattle.rt_ops.specs.Operations.{Operation, Body, Insert, Delete, Tag, Name, stamp_of}
use Rattle.rt_rga.specs.Reading.{has_stamp}
use Rattle.rt_rga.specs.Histories.{IsHistory, has_character, inserted, inserted_by}
use Rattle.rt_rga.specs.Cells.{stamped_writes_by, stamped_writes_on, writes_by, writes_on}
use Rattle.rt_rga.proofs.Skipping.{split}
use Rattle.rt_rga.proofs.Histories.{inserted_new, inserted_range, not_final}
use Rattle.rt_rga.proofs.Continuing.{sound_of}
use Rattle.rt_store.specs.Spans.{is_in_spans}
use Rattle.rt_rga.proofs.Writes.{not_written}

-- An operation that doesn't insert a character writes and says the same on it, under its own stamp.
pub record IsTagging (stamp : Stamp) (body : Body) (s : Stamp) : Type 0 where
  pub same : writes_by stamp body s ≡ stamped_writes_by stamp body s
  pub own : AllByRecursion (λ w. w.writer ≡ stamp) (writes_by stamp body s)

tagging : (stamp : Stamp) (body : Body) (s : Stamp) → has_stamp (inserted_by stamp body) s ≡ false → IsTagging stamp body s
tagging stamp (Insert after tags text) s n = record { same = rw n refl; own = rw n tt }
tagging stamp (Delete spans) s n = record { same = refl; own = tt }
tagging stamp (Tag on name spans) s n = record {
  same = refl;
  own = elim (is_in_spans spans s) as (λ b. AllByRecursion (λ (w : Write). w.writer ≡ stamp) (cond b (record { name = name; writer = stamp; on = on } ∷ []) [])) [
    | true ↦ (refl, tt)
    | false ↦ tt
  ];
}

-- One that inserts it lists its tags.
listing : (stamp : Stamp) (body : Body) (s : Stamp) → has_stamp (inserted_by stamp body) s ≡ true → (tags : List Name) × (writes_by stamp body s ≡ listed_by ROOT tags) × (stamped_writes_by stamp body s ≡ listed_by stamp tags)
listing stamp (Insert after tags text) s h = (tags, rw h refl, rw h refl)
listing stamp (Delete spans) s h = absurd (cc h)
listing stamp (Tag on name spans) s h = absurd (cc h)

-- a list, and tags written later
pub record IsListed (set : List Operation) (s insert : Stamp) (tags : List Name) (later : List Write) : Type 0 where
  pub there : has_character set s ≡ true
  pub writes : writes_on set s ≡ listed_by ROOT tags ++ later
  pub says : stamped_writes_on set s ≡ listed_by insert tags ++ later
  pub after : AllByRecursion (λ w. is_before insert w.writer ≡ true) later
  pub newest : (t : Stamp) → AllByRecursion (λ q. is_before (stamp_of q) t ≡ true) set → is_before insert t ≡ true

own_after : (insert stamp : Stamp) → is_before insert stamp ≡ true → (ws : List Write) → AllByRecursion (λ w. w.writer ≡ stamp) ws → AllByRecursion (λ w. is_before insert w.writer ≡ true) ws
own_after insert stamp h [] k = tt
own_after insert stamp h (w ∷ ws) k = (subst (λ s. is_before insert s ≡ true) (sym k.0) h, own_after insert stamp h ws k.1)

listed_more : (q : Operation) (older : List Operation) (s insert : Stamp) (tags : List Name) (later : List Write) → IsHistory (q ∷ older) → IsTagging (stamp_of q) q.body s → IsListed older s insert tags later
    → IsListed (q ∷ older) s insert tags (later ++ writes_by (stamp_of q) q.body s)
listed_more q older s insert tags later h t l =
    let ws = writes_by (stamp_of q) q.body s in
    let m = l.there in
    record {
      there = grind (arith, m);
      writes = ap (λ vs. vs ++ ws) l.writes ∙ append_assoc (listed_by ROOT tags) later ws;
      says = ap (λ vs. vs ++ stamped_writes_by (stamp_of q) q.body s) l.says ∙ append_assoc (listed_by insert tags) later (stamped_writes_by (stamp_of q) q.body s)
          ∙ ap (λ vs. listed_by insert tags ++ (later ++ vs)) (sym t.same);
      after = every_append (λ w. is_before insert w.writer ≡ true) later ws l.after (own_after insert (stamp_of q) (l.newest (stamp_of q) h.0) ws t.own);
      newest = λ u k. l.newest u k.1;
    }

abbrev Views : List Operation → Stamp → Type 0
Views set s = ((has_character set s ≡ false) × (writes_on set s ≡ stamped_writes_on set s)) ⊎ ((insert : Stamp) × (tags : List Name) × (later : List Write) × IsListed set s insert tags later)

listed_first : (q : Operation) (older : List Operation) (s : Stamp) → IsHistory (q ∷ older) → has_stamp (inserted q) s ≡ true → Views older s → Views (q ∷ older) s
listed_first q older s h e v =
    let n : has_character older s ≡ false = inserted_new older q h.1 s e in
    let f : is_same FINAL s ≡ false = not_final s (let r = inserted_range q s e in omega (arith, r.site, (sound_of h.1).site)) in
    let w : writes_on older s ≡ [] = not_written older h.2 s n f in
    let (tags, a, b) = listing (stamp_of q) q.body s e in
    elim v [
      | inl i ↦ inr (
        stamp_of q,
        tags,
        [],
        record {
          there = grind (arith, e);
          writes = ap (λ vs. vs ++ writes_by (stamp_of q) q.body s) w ∙ a ∙ sym (append-nil (listed_by ROOT tags));
          says = ap (λ vs. vs ++ stamped_writes_by (stamp_of q) q.body s) (sym i.1 ∙ w) ∙ b ∙ sym (append-nil (listed_by (stamp_of q) tags));
          after = tt;
          newest = λ t k. k.0;
        },
      )
      | inr r ↦ absurd (let (insert, others, later, l) = r in let m = l.there in cc (n, m))
    ]

view : (set : List Operation) → IsHistory set → (s : Stamp) → Views set s
view [] h s = inl (refl, refl)
view (q ∷ older) h s = split (has_stamp (inserted q) s)
    (λ e. listed_first q older s h e (view older h.2 s))
    (λ e. let t = tagging (stamp_of q) q.body s e in
    elim (view older h.2 s) [
      | inl i ↦ (let n = i.0 in inl (grind (arith, e, n), ap (λ vs. vs ++ writes_by (stamp_of q) q.body s) i.1 ∙ ap (λ vs. stamped_writes_on older s ++ vs) t.same))
      | inr r ↦ (let (insert, tags, later, l) = r in inr (insert, tags, later ++ writes_by (stamp_of q) q.body s, listed_more q older s insert tags later h t l))
    ])

pub shared_is : (set : List Operation) → IsHistory set → (s : Stamp) (name : Name) → is_on name (state_after [] (writes_on set s)) ≡ is_shared name (stamped_writes_on set s)
shared_is set h s name = elim (view set h s) [
  | inl i ↦ decides name (writes_on set s) ∙ ap (is_shared name) i.1
  | inr r ↦ (let (insert, tags, later, l) = r in
      ap (λ ws. is_on name (state_after [] ws)) l.writes ∙ listed_by_root name insert tags later l.after ∙ ap (is_shared name) (sym l.says))
]
