-- Names that get numbers, one after the other, and writes that put them on.
use Rattle.std.proofs.Common.{◌≡◌, ℕ, ◌<◌, nat_lt, List, [], ◌∷◌, ◌++◌, All, length, map, refl, ap, ◌∙◌, true}
use Rattle.std.proofs.lemmas.Bool.{ltb-true, ltb-false}
use Rattle.std.proofs.lemmas.List.Elements.{All-append, All-cons, All-head, All-nil, All-tail, All-weaker}
use Rattle.rt_stamps.specs.declared.stamp.Stamp.{Stamp}
use Rattle.rt_tags.specs.States.{TagStates, IsTag, KeepsIds, all_numbered, is_on, name_at, numbered, state_at, writes_at}
use Rattle.rt_tags.specs.Writers.{listed_by}
use Rattle.rt_tags.specs.Kept.{all_on}
use Rattle.rt_tags.specs.declared.states.TagEntry.{TagEntry}
use Rattle.rt_tags.proofs.Places.{split}

pub keeps_both : (a b c : TagStates) → KeepsIds a b → KeepsIds b c → KeepsIds a c
keeps_both a b c h k = record {
  tags = λ i l. let x = h.tags i l in let y = k.tags i x.0 in (y.0, y.1 ∙ x.1);
  states = λ i l. let x = h.states i l in let y = k.states i x.0 in (y.0, y.1 ∙ x.1);
  later = λ tag state more given there.
      let mid = h.states state there in
      split (nat_lt tag (length b.names))
      (λ t. let own : tag < length b.names = ltb-true _ _ t in
      ap (λ n. is_on n (state_at c state)) (k.tags tag own).1 ∙ ap (is_on (name_at b tag)) (k.states state mid.0).1 ∙ h.later tag state more own there)
      (λ f. k.later tag state (ltb-false _ _ f) given mid.0);
}

pub names_stay : (old new : TagStates) → KeepsIds old new → (tags : List ℕ) → All (IsTag old) tags → map (name_at new) tags ≡ map (name_at old) tags
names_stay old new k [] h = refl
names_stay old new k (t ∷ tags) h = λ j. (k.tags t (All-head (IsTag old) t tags h)).1 j ∷ names_stay old new k tags (All-tail (IsTag old) t tags h) j

pub given_more : (old new : TagStates) → KeepsIds old new → (tags : List ℕ) (t : ℕ) → All (IsTag old) tags → IsTag new t → All (IsTag new) (tags ++ t ∷ [])
given_more old new k tags t h n =
    All-append (IsTag new) tags (t ∷ []) (All-weaker (IsTag old) (IsTag new) (λ i l. (k.tags i l).0) tags h) (All-cons (IsTag new) t [] n (All-nil (IsTag new)))

pub numbered_more : (names : List (List ℕ)) (name : List ℕ) (t : TagStates) → all_numbered (names ++ name ∷ []) t ≡ numbered name (all_numbered names t)
numbered_more [] name t = refl
numbered_more (n ∷ names) name t = numbered_more names name (numbered n t)

pub on_given : (n : ℕ) (writer : Stamp) (tags : List ℕ) → All (λ t. t < n) tags → All (λ (e : TagEntry). e.tag < n) (all_on writer tags)
on_given n writer [] h = All-nil (λ (e : TagEntry). e.tag < n)
on_given n writer (t ∷ tags) h =
    All-cons (λ (e : TagEntry). e.tag < n) (record { tag = t; writer = writer; on = true }) (all_on writer tags) (All-head (λ i. i < n) t tags h) (on_given n writer tags (All-tail (λ i. i < n) t tags h))

pub listed_writes : (t : TagStates) (writer : Stamp) (tags : List ℕ) → writes_at t (all_on writer tags) ≡ listed_by writer (map (name_at t) tags)
listed_writes t writer [] = refl
listed_writes t writer (tag ∷ tags) = ap (λ v. record { name = name_at t tag; writer = writer; on = true } ∷ v) (listed_writes t writer tags)
