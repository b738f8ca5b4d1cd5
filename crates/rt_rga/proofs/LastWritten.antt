-- The writes in front against the entries that were written last, and what a state came into by these.
use Rattle.std.proofs.Common.{◌≡◌, ℕ, zero, suc, ◌+◌, ◌<◌, Bool, true, false, not, refl, sym, ap, ◌∙◌, arith, All, Option, Some, None, List, [], ◌∷◌, cond, length, map, drop, get_or, slice_get, add-one}
use Rattle.std.specs.List.{take_while}
use Rattle.std.specs.Option.{option_eq}
use Rattle.std.proofs.lemmas.List.{drop_more}
use Rattle.std.proofs.lemmas.List.Elements.{All-weaker, recursion_from_All}
use Rattle.std.proofs.lemmas.List.Sums.{take_while-cons}
use Rattle.rt_stamps.specs.declared.stamp.Stamp.{Stamp}
use Rattle.rt_stamps.specs.Stamps.{is_same}
use Rattle.rt_tags.specs.declared.states.TagEntry.{TagEntry}
use Rattle.rt_tags.specs.States.{IsState, IsTag, KeepsIds, TagStates, state_at, writes_at}
use Rattle.rt_tags.specs.Writers.{state_after}
use Rattle.rt_rga.specs.declared.plan.Named.{Named}
use Rattle.rt_rga.specs.declared.plan.Written.{Written}
use Rattle.rt_rga.specs.Batches.{WrittenIsGiven, entries_in_front, entry_if}
use Rattle.rt_rga.proofs.PlannedEntries.{entries_kept}
use Rattle.rt_rga.proofs.Skipping.{split}

-- IN FRONT

pub front_none : (named : List Named) (s : Stamp) (i : ℕ) → entry_if s (slice_get named i) ≡ None → entries_in_front (drop i named) s ≡ []
front_none [] s zero h = refl
front_none [] s (suc i) h = refl
front_none (n ∷ named) s zero h = split (is_same n.stamp s)
    (λ t. absurd (let e : Some n.entry ≡ None = sym (ap (λ b. cond b (Some n.entry) None) t) ∙ h in cc e))
    (λ f. ap (map (λ n. n.entry)) (take_while-cons (λ n. is_same n.stamp s) n named) ∙ ap (λ b. map (λ n. n.entry) (cond b (n ∷ take_while (λ n. is_same n.stamp s) named) [])) f)
front_none (n ∷ named) s (suc i) h = front_none named s i h

front_suc : (named : List Named) (s : Stamp) (i : ℕ) (e : TagEntry) → entry_if s (slice_get named i) ≡ Some e → entries_in_front (drop i named) s ≡ e ∷ entries_in_front (drop (suc i) named) s
front_suc [] s zero e h = absurd (cc h)
front_suc [] s (suc i) e h = absurd (cc h)
front_suc (n ∷ named) s zero e h = split (is_same n.stamp s)
    (λ t. let k : Some n.entry ≡ Some e = sym (ap (λ b. cond b (Some n.entry) None) t) ∙ h in let l : n.entry ≡ e = cc in
    ap (map (λ n. n.entry)) (take_while-cons (λ n. is_same n.stamp s) n named)
    ∙ ap (λ b. map (λ n. n.entry) (cond b (n ∷ take_while (λ n. is_same n.stamp s) named) [])) t
    ∙ ap (λ e. e ∷ entries_in_front named s) l)
    (λ f. absurd (let k : None ≡ Some e = sym (ap (λ b. cond b (Some n.entry) None) f) ∙ h in cc k))
front_suc (n ∷ named) s (suc i) e h = front_suc named s i e h

pub front_some : (named : List Named) (s : Stamp) (i : ℕ) (e : TagEntry) → entry_if s (slice_get named i) ≡ Some e → entries_in_front (drop i named) s ≡ e ∷ entries_in_front (drop (i + 1) named) s
front_some named s i e h = front_suc named s i e h ∙ ap (λ k. e ∷ entries_in_front (drop k named) s) (sym (add-one i))

-- what is in front from a place on is what is left of the entries
abbrev pub AreLeft : List Named → Stamp → List TagEntry → ℕ → Type 0
AreLeft named s entries i = entries_in_front (drop i named) s ≡ drop i entries

-- the first is that entry
pub first_left : (named : List Named) (s : Stamp) (entries : List TagEntry) (i : ℕ) (e : TagEntry) → i < length entries → e ≡ get_or entries i e → AreLeft named s entries i → entry_if s (slice_get named i) ≡ Some e
first_left named s entries i e l is h = by (entry_if s (slice_get named i)) refl
  where
    left : entries_in_front (drop i named) s ≡ e ∷ drop (i + 1) entries
    left = h ∙ drop_more entries i e l ∙ ap (λ x. x ∷ drop (i + 1) entries) (sym is)

    by : (o : Option TagEntry) → entry_if s (slice_get named i) ≡ o → entry_if s (slice_get named i) ≡ Some e
    by None k = absurd (let x : [] ≡ e ∷ drop (i + 1) entries = sym (front_none named s i k) ∙ left in cc x)
    by (Some f) k =
        let x : f ∷ entries_in_front (drop (i + 1) named) s ≡ e ∷ drop (i + 1) entries = sym (front_some named s i f k) ∙ left in
        let y : f ≡ e = cc x in
        k ∙ ap Some y

pub less_left : (named : List Named) (s : Stamp) (entries : List TagEntry) (i : ℕ) (e : TagEntry) → i < length entries → e ≡ get_or entries i e → entry_if s (slice_get named i) ≡ Some e
    → AreLeft named s entries i → AreLeft named s entries (i + 1)
less_left named s entries i e l is f h =
    let x : e ∷ entries_in_front (drop (i + 1) named) s ≡ e ∷ drop (i + 1) entries = sym (front_some named s i e f) ∙ h ∙ drop_more entries i e l ∙ ap (λ x. x ∷ drop (i + 1) entries) (sym is) in
    cc x

pub more_left : (named : List Named) (s : Stamp) (entries : List TagEntry) (i : ℕ) (e : TagEntry) → i < length entries → e ≡ get_or entries i e → entry_if s (slice_get named i) ≡ Some e
    → AreLeft named s entries (i + 1) → AreLeft named s entries i
more_left named s entries i e l is f h =
    front_some named s i e f ∙ ap (λ es. e ∷ es) h ∙ sym (drop_more entries i e l ∙ ap (λ x. x ∷ drop (i + 1) entries) (sym is))

-- none is left
pub none_left : (named : List Named) (s : Stamp) (i : ℕ) → entries_in_front (drop i named) s ≡ [] → entry_if s (slice_get named i) ≡ None
none_left named s i h = by (entry_if s (slice_get named i)) refl
  where
    by : (o : Option TagEntry) → entry_if s (slice_get named i) ≡ o → entry_if s (slice_get named i) ≡ None
    by None k = k
    by (Some f) k = absurd (let x : f ∷ entries_in_front (drop (i + 1) named) s ≡ [] = sym (front_some named s i f k) ∙ h in cc x)

-- what a test of an entry tells of one that may be none
pub option_same : (E : TagEntry → TagEntry → Bool) → ((a b : TagEntry) → E a b ≡ true → a ≡ b) → (o : Option TagEntry) (e : TagEntry) (r : Bool) → r ≡ not (option_eq E o (Some e)) → r ≡ false → o ≡ Some e
option_same E h None e r k l = absurd (cc (k, l))
option_same E h (Some x) e r k l = ap Some (h x e (grind (arith, k, l)))

pub option_other : (E : TagEntry → TagEntry → Bool) → ((a : TagEntry) → E a a ≡ true) → (o : Option TagEntry) (e : TagEntry) (r : Bool) → r ≡ not (option_eq E o (Some e)) → r ≡ true → o ≡ Some e → ⊥
option_other E h o e r k l m =
    let x : true ≡ false = sym l ∙ k ∙ ap (λ o. not (option_eq E o (Some e))) m ∙ ap not (h e) in
    absurd (cc x)

-- WRITTEN LAST

-- what was written in a table, as a later one has it
pub written_in_later : (old new : TagStates) (last : Written) → KeepsIds old new → IsState old last.before → All (λ e. IsTag old e.tag) last.entries.items → IsState new last.after
    → state_at new last.after ≡ state_after (state_at old last.before) (writes_at old last.entries.items) → WrittenIsGiven new last
written_in_later old new last k o t n w = record {
  before = (k.states last.before o).0;
  tags = All-weaker (λ (e : TagEntry). IsTag old e.tag) (λ (e : TagEntry). IsTag new e.tag) (λ e t. (k.tags e.tag t).0) last.entries.items t;
  after = n;
  written = w ∙ sym (λ i. state_after ((k.states last.before o).1 i) (entries_kept old new k last.entries.items (recursion_from_All (λ (e : TagEntry). IsTag old e.tag) last.entries.items t) i));
}
