-- A history by falling stamp is one by its sites.
use Rattle.std.proofs.Common.{◌≡◌, ℕ, ◌<◌, ◌≤◌, true, false, refl, sym, ap, ◌∙◌, arith, List, [], ◌∷◌, cond, ◌==◌, max}
use Rattle.std.proofs.lemmas.Bool.Decides.{nat_tests}
use Rattle.std.specs.List.{AllByRecursion, list_all}
use Rattle.rt_stamps.specs.declared.stamp.Stamp.{Stamp}
use Rattle.rt_stamps.specs.Stamps.{is_before}
use Rattle.rt_rga.specs.Reading.{has_stamp}
use Rattle.rt_ops.specs.Operations.{Operation, stamp_of, last_count, named, has_bad_stamp}
use Rattle.rt_oplog.specs.Logs.{IsFalling, known_end}
use Rattle.rt_ops.specs.Rules.{keeps_rules}
use Rattle.rt_rga.specs.Histories.{inserted, has_character, is_known, IsHistory}
use Rattle.rt_rga.specs.Sites.{of_site, last_count_of_newest, IsChain, IsHistoryBySites}
use Rattle.rt_rga.proofs.Accepting.{falling}
use Rattle.rt_rga.proofs.Continuing.{all_at, known_from, knows, known_all, sound_from, sound_of, text_by_rules}
use Rattle.rt_stamps.proofs.Order.{before_trans}
use Rattle.rt_rga.proofs.Skipping.{split}
use Rattle.rt_rga.proofs.Histories.{last_ge, known_weaker, inserted_range}

own_end : (op : Operation) (rest : ℕ) → op.prev ≡ rest → op.prev < op.count → max (last_count op) rest ≡ last_count op
own_end op rest e l = let g = last_ge op.count op.body in omega arith

-- the known end of a site is where its newest operation ends
end_first : (set : List Operation) → IsHistory set → (site : ℕ) → known_end set site ≡ last_count_of_newest (of_site site set)
end_first [] h site = refl
end_first (op ∷ older) h site = split (op.site == site)
    (λ e. let s : op.site ≡ site = grind (arith, nat_tests) in rw e (own_end op (known_end older site) (h.1.prev ∙ ap (known_end older) s) (sound_of h.1).prev))
    (λ e. rw e (end_first older h.2 site))

chained : (set : List Operation) → IsHistory set → (site : ℕ) → IsChain (of_site site set)
chained [] h site = tt
chained (op ∷ older) h site = split (op.site == site)
    (λ e. let s : op.site ≡ site = grind (arith, nat_tests) in rw e (h.1.prev ∙ ap (known_end older) s ∙ end_first older h.2 site, chained older h.2 site))
    (λ e. rw e (chained older h.2 site))

all_sound : (set : List Operation) → IsHistory set → AllByRecursion (λ op. has_bad_stamp op ≡ false) set
all_sound [] h = tt
all_sound (op ∷ older) h = (h.1.sound, all_sound older h.2)

all_rules : (set : List Operation) → IsHistory set → AllByRecursion (λ op. keeps_rules op.body ≡ true) set
all_rules [] h = tt
all_rules (op ∷ older) h = (h.1.rules, all_rules older h.2)

all_known : (all set : List Operation) → IsHistory set → ((s : Stamp) → has_character set s ≡ true → has_character all s ≡ true)
    → AllByRecursion (λ op. list_all (is_known all op.body) (named op.body) ≡ true) set
all_known all [] h f = tt
all_known all (op ∷ older) h f =
    let g : (s : Stamp) → has_character older s ≡ true → has_character all s ≡ true = λ s m. f s (grind (arith, m)) in
    (known_all all op.body (λ s n. known_weaker older all op.body s (g s) (knows h.1 s n)), all_known all older h.2 g)

pub by_sites : (set : List Operation) → IsHistory set → IsHistoryBySites set
by_sites set h = record { falling = falling set h; sound = all_sound set h; rules = all_rules set h; chains = chained set h; known = all_known set set h (λ s m. m) }

rest_chain : (op : Operation) (older : List Operation) → ((site : ℕ) → IsChain (of_site site (op ∷ older))) → (site : ℕ) → IsChain (of_site site older)
rest_chain op older c site =
    (elim (op.site == site) as (λ t. IsChain (cond t (op ∷ of_site site older) (of_site site older)) → IsChain (of_site site older)) [ true ↦ λ k. k.1 | false ↦ λ k. k ]) (c site)

own_chain : (op : Operation) (older : List Operation) → ((site : ℕ) → IsChain (of_site site (op ∷ older))) → op.prev ≡ last_count_of_newest (of_site op.site older)
own_chain op older c =
    let e : (op.site == op.site) ≡ true = grind (arith, nat_tests) in
    let k : IsChain (cond (op.site == op.site) (op ∷ of_site op.site older) (of_site op.site older)) = c op.site in
    (rw e at k).0

-- an operation has_character nothing that is before it
inserted_later : (op : Operation) (s : Stamp) → is_before s (stamp_of op) ≡ true → has_stamp (inserted op) s ≡ false
inserted_later op s l = split (has_stamp (inserted op) s)
    (λ e. let r = inserted_range op s e in absurd (late r.site r.low))
    (λ e. e)
  where
    late : s.site ≡ op.site → op.count ≤ s.count → ⊥
    late i j = grind (arith, nat_tests)

-- each operation of the set is known below a bound in the rest
from_sites : (all set : List Operation) (bound : Stamp → Type 0) → ((s : Stamp) → bound s → has_character all s ≡ true → has_character set s ≡ true)
    → IsFalling set → AllByRecursion (λ op. (s : Stamp) → is_before s (stamp_of op) ≡ true → bound s) set
    → AllByRecursion (λ op. has_bad_stamp op ≡ false) set → AllByRecursion (λ op. keeps_rules op.body ≡ true) set → ((site : ℕ) → IsChain (of_site site set))
    → AllByRecursion (λ op. list_all (is_known all op.body) (named op.body) ≡ true) set → IsHistory set
from_sites all [] bound m f b sound rules c k = tt
from_sites all (op ∷ older) bound m f b sound rules c k =
    let inner : (s : Stamp) → is_before s (stamp_of op) ≡ true → has_character all s ≡ true → has_character older s ≡ true
    = λ s l n. let i = m s (b.0 s l) n in let j = not_own op s l in grind (arith, i, j) in
    let rest : IsHistory older = from_sites all older (λ s. is_before s (stamp_of op) ≡ true) inner f.1
    (within older f.0) sound.1 rules.1 (rest_chain op older c) k.1 in
    let own = sound_from op (text_by_rules op.body rules.0) sound.0 in (
      f.0,
      record {
        sound = sound.0;
        rules = rules.0;
        prev = own_chain op older c ∙ sym (end_first older rest op.site);
        known = known_all older op.body (λ s n. known_weaker all older op.body s (inner s (own.named s n)) (known_from all op.body s (all_at (is_known all op.body) (named op.body) k.0 s n)));
      },
      rest,
    )
  where
    within : (set : List Operation) → AllByRecursion (λ q. is_before (stamp_of q) (stamp_of op) ≡ true) set
        → AllByRecursion (λ q. (s : Stamp) → is_before s (stamp_of q) ≡ true → is_before s (stamp_of op) ≡ true) set
    within [] h = tt
    within (q ∷ set) h = (λ s l. before_trans s (stamp_of q) (stamp_of op) l h.0, within set h.1)

    not_own : (op : Operation) (s : Stamp) → is_before s (stamp_of op) ≡ true → has_stamp (inserted op) s ≡ false
    not_own op s l = inserted_later op s l

pub is_history : (set : List Operation) → IsHistoryBySites set → IsHistory set
is_history set h = from_sites set set (λ s. Unit {0}) (λ s b m. m) h.falling (no_bound set) h.sound h.rules h.chains h.known
  where
    no_bound : (set : List Operation) → AllByRecursion (λ op. (s : Stamp) → is_before s (stamp_of op) ≡ true → Unit {0}) set
    no_bound [] = tt
    no_bound (q ∷ set) = (λ s l. tt, no_bound set)
