-- The borders of a tag in a stretch, as a walk along its ranges gathers them.
use Rattle.std.proofs.Common.{◌≡◌, ℕ, ◌-◌, ◌<◌, ◌≤◌, List, [], ◌∷◌, ◌++◌, map, sym, ap, ◌∙◌, Bool, false}
use Rattle.std.proofs.lemmas.List.{append_assoc, append-nil, map-append}
use Rattle.std.proofs.lemmas.Simd.{map-map}
use Rattle.rt_plans.specs.declared.range.Range.{Range}
use Rattle.rt_stamps.specs.Words.{Word}
use Rattle.rt_store.specs.Tagged.{IsLeastFrom, Passes}
use Rattle.rt_tagcmd.specs.TagRanges.{passing_ranges}
use Rattle.rt_tagcmd.specs.declared.element.Key.{Key}
use Rattle.rt_tagcmd.specs.declared.stretch.DumpStretch.{DumpStretch}
use Rattle.rt_tagcmd.specs.Elements.{Placed, element_at}
use Rattle.rt_tagcmd.specs.Stretches.{RunsTo, within}
use Rattle.rt_tagcmd.proofs.Pushing.{within_made}
use Rattle.rt_tagcmd.proofs.Turns.{begun, begun_turns, ended, ended_turns, first_kept, from_place, froms_are, kept, none_left, range_more, tos_are}

-- the borders from a place on that a stretch has
abbrev pub left : {A : Type 0} → Key → Word → (Bool → Bool → Bool) → (A → Bool) → DumpStretch → List A → ℕ → List Placed
left key name way test s cs p = map (element_at key name) (kept s (from_place way test cs p))

-- all of them
of_ranges : {A : Type 0} (key : Key) (name : Word) (way : Bool → Bool → Bool) (test : A → Bool) (side : Range → ℕ) (s : DumpStretch) (cs : List A) (p : ℕ) → p ≡ s.from - 1
    → map side (passing_ranges test cs) ≡ from_place way test cs 0 → within s (map (λ r. element_at key name (side r)) (passing_ranges test cs)) ≡ left key name way test s cs p
of_ranges key name way test side s cs p e h =
    ap (within s) (sym (map-map (element_at key name) side (passing_ranges test cs)))
    ∙ sym (within_made s (element_at key name) (map side (passing_ranges test cs)))
    ∙ ap (λ v. map (element_at key name) (kept s v)) h
    ∙ ap (map (element_at key name)) (first_kept way test s p cs e)

pub ends_first : {A : Type 0} (key : Key) (name : Word) (test : A → Bool) (s : DumpStretch) (cs : List A) (p : ℕ) → p ≡ s.from - 1
    → within s (map (λ r. element_at key name r.to) (passing_ranges test cs)) ≡ left key name ended test s cs p
ends_first key name test s cs p e = of_ranges key name ended test (λ r. r.to) s cs p e (tos_are test 0 cs)

pub starts_first : {A : Type 0} (key : Key) (name : Word) (test : A → Bool) (s : DumpStretch) (cs : List A) (p : ℕ) → p ≡ s.from - 1
    → within s (map (λ r. element_at key name r.from) (passing_ranges test cs)) ≡ left key name begun test s cs p
starts_first key name test s cs p e = of_ranges key name begun test (λ r. r.from) s cs p e (froms_are test 0 cs)

-- one more
pushed : (key : Key) (name : Word) (s : DumpStretch) (p : ℕ) (all old new : List Placed) (before rest : List ℕ) → all ≡ old ++ map (element_at key name) before → before ≡ kept s (p ∷ []) ++ rest
    → new ≡ old ++ within s (element_at key name p ∷ []) → all ≡ new ++ map (element_at key name) rest
pushed key name s p all old new before rest h e n =
    h
    ∙ ap (λ v. old ++ map (element_at key name) v) e
    ∙ ap (λ v. old ++ v) (map-append (element_at key name) (kept s (p ∷ [])) rest ∙ ap (λ v. v ++ map (element_at key name) rest) (within_made s (element_at key name) (p ∷ [])))
    ∙ sym (append_assoc old (within s (element_at key name p ∷ [])) (map (element_at key name) rest))
    ∙ ap (λ v. v ++ map (element_at key name) rest) (sym n)

pub end_more : {A : Type 0} (key : Key) (name : Word) (test : A → Bool) (s : DumpStretch) (cs : List A) (p begin end : ℕ) (all old new : List Placed)
    → IsLeastFrom test cs p begin → RunsTo test cs begin end s.behind
    → all ≡ old ++ left key name ended test s cs p → new ≡ old ++ within s (element_at key name end ∷ []) → all ≡ new ++ left key name ended test s cs end
end_more key name test s cs p begin end all old new b r h n =
    pushed key name s end all old new (kept s (from_place ended test cs p)) (kept s (from_place ended test cs end)) h (range_more ended test ended_turns s p begin end cs b r) n

pub start_more : {A : Type 0} (key : Key) (name : Word) (test : A → Bool) (s : DumpStretch) (cs : List A) (p begin end : ℕ) (all old new : List Placed)
    → IsLeastFrom test cs p begin → RunsTo test cs begin end s.behind
    → all ≡ old ++ left key name begun test s cs p → new ≡ old ++ within s (element_at key name begin ∷ []) → all ≡ new ++ left key name begun test s cs end
start_more key name test s cs p begin end all old new b r h n =
    pushed key name s begin all old new (kept s (from_place begun test cs p)) (kept s (from_place begun test cs end)) h
    (range_more begun test begun_turns s p begin end cs b r ∙ ap (λ v. v ++ kept s (from_place begun test cs end)) (append-nil (kept s (begin ∷ [])))) n

-- and none behind the last
no_more : {A : Type 0} (key : Key) (name : Word) (way : Bool → Bool → Bool) (is : (b : Bool) → way b b ≡ false) (test : A → Bool) (s : DumpStretch) (cs : List A) (p : ℕ) (all new : List Placed)
    → ((k : ℕ) → p ≤ k → k < s.behind → Passes test cs k → ⊥) → all ≡ new ++ left key name way test s cs p → new ≡ all
no_more key name way is test s cs p all new n h = sym (h ∙ ap (λ v. new ++ map (element_at key name) v) (none_left way test is s p cs n) ∙ append-nil new)

pub no_end_more : {A : Type 0} (key : Key) (name : Word) (test : A → Bool) (s : DumpStretch) (cs : List A) (p : ℕ) (all new : List Placed)
    → ((k : ℕ) → p ≤ k → k < s.behind → Passes test cs k → ⊥) → all ≡ new ++ left key name ended test s cs p → new ≡ all
no_end_more key name test s cs p all new n h = no_more key name ended ended_turns test s cs p all new n h

pub no_start_more : {A : Type 0} (key : Key) (name : Word) (test : A → Bool) (s : DumpStretch) (cs : List A) (p : ℕ) (all new : List Placed)
    → ((k : ℕ) → p ≤ k → k < s.behind → Passes test cs k → ⊥) → all ≡ new ++ left key name begun test s cs p → new ≡ all
no_start_more key name test s cs p all new n h = no_more key name begun begun_turns test s cs p all new n h
