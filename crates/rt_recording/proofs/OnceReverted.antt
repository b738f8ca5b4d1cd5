-- Who was taken away is gone, and was so once, also while a group is reverted, and after it.
use Rattle.std.proofs.Common.{◌≡◌, ◌∙◌, ℕ, suc, ◌+◌, ◌-◌, ◌<◌, ◌≤◌, Bool, true, false, List, [], ◌∷◌, ◌++◌, Option, Some, cond, length, map, take, ap, arith, refl, subst, sym, append_assoc}
use Rattle.std.specs.Prelude.{None, option_and_then, option_map, reverse, slice_get, unwrap_or}
use Rattle.std.specs.List.{AllByRecursion, flat_map}
use mathlib.Core.List.{reverse-cons}
use Rattle.std.proofs.lemmas.List.{append-nil, length-map, map-append, map-id, take-map}
use Rattle.rt_stamps.specs.declared.limits.TheConstants.{GREATEST_COUNT}
use Rattle.rt_stamps.specs.declared.stamp.Stamp.{Stamp}
use Rattle.rt_stamps.specs.Stamps.{replaced}
use Rattle.rt_stamps.specs.Words.{Word}
use Rattle.rt_stamps.proofs.Order.{same_refl}
use Rattle.rt_ops.specs.Operations.{Operation}
use Rattle.rt_store.specs.Cells.{AreDistinct, cell_of, stamps_of}
use Rattle.rt_store.specs.Shown.{TaggedCell}
use Rattle.rt_rga.specs.Histories.{IsHistory}
use Rattle.rt_plans.specs.DraftLaws.{IsDocument}
use Rattle.rt_plans.specs.DocValue.{DocValue}
use Rattle.rt_plans.specs.Removals.{cells_at}
use Rattle.rt_undo.specs.Actions.{Action, Removed, restamped_one}
use Rattle.rt_undo.specs.Undo.{UndoHistory, as_group, but_newest, newest, redo_done, renamed_by, to_undo, undo_done, with_stamps_in}
use Rattle.rt_revert.specs.Reverting.{Reversion, are_at, as_it_is, gone_cell_of, next_in, reversion, reverted_group, since, still_visible, with_each_reverted, with_insertion, with_removal, with_return, with_returns, with_reverted}
use Rattle.rt_revert.specs.ReversionLaws.{AllMayRevert, MayReturn, MayRevert}
use Rattle.rt_revert.proofs.Stamps.{all_apart}
use Rattle.rt_revert.proofs.Steps.{IsOnWay, action_step, all_grow, all_reversed, gone_step, return_step, returns_grow}
use Rattle.rt_revert.proofs.TakenBack.{stamp_after_more, still_is}
use Rattle.rt_recording.specs.Recordings.{HaveStayed}
use Rattle.rt_recording.specs.Returns.{Return, back_after, stamp_after}
use Rattle.rt_recording.specs.Settled.{AreGoneOnce, removed_in_history, is_gone_cell, taken_by, times}
use Rattle.rt_recording.proofs.Gone.{gone_still}
use Rattle.rt_recording.proofs.Once.{HaveGone, by_append, in_append, in_groups, in_groups_append, in_history, in_limited, in_one, in_to_undo, none_replaced, once_fewer, once_grown, once_more, one_if, taken_append, times_append, times_by}
use Rattle.rt_recording.proofs.OnceTaken.{places_gone, removed_stamps}
use Rattle.rt_recording.proofs.Stayed.{Stays, stamp_stays}
use Rattle.rt_recording.proofs.Told.{AreKept, IsTold, action_told, gone_next, kept_on_way, mapped, removed_on, went_here}

-- nobody came back before
abbrev none : Stamp → Bool
none s = false

-- some, under the stamps that they have after those of a reversion came back, are gone once in its document
abbrev pub StandOnce : Reversion → List Stamp → Type 0
StandOnce r stamps = AreGoneOnce r.doc.cells (map (stamp_after r.returns) stamps)

-- the stamps of removed characters
abbrev stamps_removed : List (Removed (List Word)) → List Stamp
stamps_removed removed = map (λ (x : Removed (List Word)). x.stamp) removed

-- the stamp under which a character that came back had gone
abbrev former_of : Return → Stamp
former_of r = r.former

-- WHO COMES BACK

-- some come back, each under the stamp that it went by; others are gone once, and have the stamps that they had
record Back (r next : Reversion) (others came : List Stamp) : Type 0 where
  pub once : StandOnce next others
  pub still : map (stamp_after next.returns) others ≡ others
  pub formers : map former_of next.returns ≡ map former_of r.returns ++ came

none_gone : (cells : List TaggedCell) (s : Stamp) → gone_cell_of cells s ≡ None → is_gone_cell cells s ≡ false
none_gone cells s h = by (cell_of cells s) h
  where
    this : (c : TaggedCell) (g : Bool) → c.gone ≡ g → cond g (Some c) None ≡ None → c.gone ≡ false
    this c true e k = absurd (cc k)
    this c false e k = e

    by : (o : Option TaggedCell) → option_and_then (λ (c : TaggedCell). cond c.gone (Some c) None) o ≡ None → unwrap_or (option_map (λ (c : TaggedCell). c.gone) o) false ≡ false
    by None k = refl
    by (Some c) k = this c c.gone refl k

head_same : (x y : Stamp) (xs ys : List Stamp) → x ∷ xs ≡ y ∷ ys → x ≡ y
head_same x y xs ys e = cc e

tail_same : (x y : Stamp) (xs ys : List Stamp) → x ∷ xs ≡ y ∷ ys → xs ≡ ys
tail_same x y xs ys e = cc e

-- one comes back, as it is gone: the others are gone as before
return_once : (removed : Removed (List Word)) (others : List Stamp) (r : Reversion) → AreKept r → StandOnce r (removed.stamp ∷ others)
    → map (stamp_after r.returns) (removed.stamp ∷ others) ≡ removed.stamp ∷ others → Back r (with_return removed r) others (removed.stamp ∷ [])
return_once removed others r k h t = by (gone_cell_of r.doc.cells stamp) refl
  where
    stamp : Stamp
    stamp = stamp_after r.returns removed.stamp

    rest : List Stamp
    rest = map (stamp_after r.returns) others

    both : (s : Stamp) → times s (stamp ∷ rest) ≡ times s (stamp ∷ []) + times s rest
    both s = times_append s (stamp ∷ []) rest

    itself : times stamp (stamp ∷ []) ≡ 1
    itself = ap (λ b. length (cond b (stamp ∷ []) [])) (same_refl stamp)

    is_gone_now : (b : Bool) → is_gone_cell r.doc.cells stamp ≡ b → times stamp (stamp ∷ rest) ≤ one_if b → is_gone_cell r.doc.cells stamp ≡ true
    is_gone_now true e f = e
    is_gone_now false e f = absurd (let all = both stamp in let one = itself in omega (arith, all, one, f))

    not_again : (b : Bool) → times stamp (stamp ∷ rest) ≤ one_if b → times stamp rest ≡ 0
    not_again true f = let all = both stamp in let one = itself in omega (arith, all, one, f)
    not_again false f = let all = both stamp in omega (arith, all, f)

    came : Return
    came = record { former = stamp; newer = next_in r.doc }

    names : (xs : List Stamp) → map (stamp_after (r.returns ++ came ∷ [])) xs ≡ map (replaced stamp (next_in r.doc)) (map (stamp_after r.returns) xs)
    names [] = refl
    names (x ∷ xs) = (λ i. stamp_after_more r.returns came x i ∷ names xs i)

    by : (o : Option TaggedCell) → gone_cell_of r.doc.cells stamp ≡ o
        → Back r (unwrap_or (option_map (λ (cell : TaggedCell). with_insertion stamp removed.tags cell.ch r) o) r) others (removed.stamp ∷ [])
    by None e = let gone = is_gone_now (is_gone_cell r.doc.cells stamp) refl (h stamp) in let not_gone = none_gone r.doc.cells stamp e in absurd (cc (gone, not_gone))
    by (Some cell) e =
        let next = with_insertion stamp removed.tags cell.ch r in
        let same = names others ∙ none_replaced stamp (next_in r.doc) rest (not_again (is_gone_cell r.doc.cells stamp) (h stamp)) in
        record {
          once = subst (AreGoneOnce next.doc.cells) (sym same)
              (once_grown r.doc.cells next.doc.cells rest (gone_next none stamp removed.tags cell.ch r k)
              (once_fewer r.doc.cells rest (stamp ∷ rest) (λ s. let all = both s in omega (arith, all)) h));
          still = same ∙ tail_same stamp removed.stamp rest others t;
          formers = map-append former_of r.returns (came ∷ []) ∙ ap (λ x. map former_of r.returns ++ x ∷ []) (head_same stamp removed.stamp rest others t);
        }

returns_once : (site : ℕ) (log : List Operation) (removed : List (Removed (List Word))) (others : List Stamp) (r : Reversion) → 0 < site → IsOnWay site log r
    → AllByRecursion MayReturn removed → (with_returns removed r).doc.count ≤ GREATEST_COUNT → StandOnce r (stamps_removed removed ++ others)
    → map (stamp_after r.returns) (stamps_removed removed ++ others) ≡ stamps_removed removed ++ others
    → Back r (with_returns removed r) others (stamps_removed removed)
returns_once site log [] others r p h m l s t = record { once = s; still = t; formers = sym (append-nil (map former_of r.returns)) }
returns_once site log (x ∷ more) others r p h m l s t =
    let next = with_return x r in
    let few : next.doc.count ≤ GREATEST_COUNT = omega (arith, returns_grow more next, l) in
    let one = return_once x (stamps_removed more ++ others) r (kept_on_way site log r p h) s t in
    let rest = returns_once site log more others next p (return_step site log x r p h m.0 few) m.1 l one.once one.still in
    record {
      once = rest.once;
      still = rest.still;
      formers = rest.formers ∙ ap (λ l. l ++ stamps_removed more) one.formers ∙ append_assoc (map former_of r.returns) (x.stamp ∷ []) (stamps_removed more);
    }

-- WHO GOES

-- the stamps of those that are still visible
abbrev went : List Stamp → List TaggedCell → List Stamp
went stamps cells = map (λ (x : Removed (List Word)). x.stamp) (still_visible stamps cells)

-- those that go join those that were gone
went_once : (stamps : List Stamp) (r : Reversion) → AreDistinct r.doc.cells → HaveGone r.doc.cells (with_removal stamps r).doc.cells (went stamps r.doc.cells)
went_once stamps r d =
    let places = are_at stamps r.doc.cells in
    let same : went stamps r.doc.cells ≡ stamps_of (cells_at places 0 r.doc.cells) =
    ap (map (λ (x : Removed (List Word)). x.stamp)) (still_is stamps r.doc.cells) ∙ removed_stamps (cells_at places 0 r.doc.cells) in
    subst (HaveGone r.doc.cells (with_removal stamps r).doc.cells) (sym same) (places_gone places r.doc.cells d)

-- they came back under no other stamp
kept_stamps : (returns : List Return) (xs : List Stamp) → AllByRecursion (λ s. back_after returns none s ≡ false) xs → map (stamp_after returns) xs ≡ xs
kept_stamps returns [] h = refl
kept_stamps returns (x ∷ xs) h = (λ i. stamp_stays returns none x h.0 i ∷ kept_stamps returns xs h.1 i)

visible_kept : (stamps : List Stamp) (r : Reversion) → AreDistinct r.doc.cells → IsTold none r → map (stamp_after r.returns) (went stamps r.doc.cells) ≡ went stamps r.doc.cells
visible_kept stamps r d t = kept_stamps r.returns (went stamps r.doc.cells)
    (mapped (λ s. back_after r.returns none s ≡ false) (λ (x : Removed (List Word)). x.stamp) (still_visible stamps r.doc.cells) (went_here none stamps r d t))

-- STAMPS THAT STAY

-- of two lists that keep their stamps each does, and the other way round
both_still : (f : Stamp → Stamp) (xs ys : List Stamp) → map f xs ≡ xs → map f ys ≡ ys → map f (xs ++ ys) ≡ xs ++ ys
both_still f xs ys h k = map-append f xs ys ∙ (λ i. h i ++ k i)

two_still : (f : Stamp → Stamp) (xs ys : List Stamp) → map f (xs ++ ys) ≡ xs ++ ys → (map f xs ≡ xs) × (map f ys ≡ ys)
two_still f [] ys h = (refl, h)
two_still f (x ∷ xs) ys h =
    let rest = two_still f xs ys (tail_same (f x) x (map f (xs ++ ys)) (xs ++ ys) h) in
    ((λ i. head_same (f x) x (map f (xs ++ ys)) (xs ++ ys) h i ∷ rest.0 i), rest.1)

apart_still : (f : Stamp → Stamp) (xs ys zs : List Stamp) → map f (xs ++ (ys ++ zs)) ≡ xs ++ (ys ++ zs) → (map f xs ≡ xs) × (map f ys ≡ ys) × (map f zs ≡ zs)
apart_still f xs ys zs h =
    let first = two_still f xs (ys ++ zs) h in
    let rest = two_still f ys zs first.1 in
    (first.0, rest.0, rest.1)

-- ACTIONS

-- those that the actions that are left took away, others, and those that the reverted actions took away
abbrev in_turn : Reversion → List (Action (List Word)) → List Stamp → List Stamp
in_turn r actions others = taken_by actions ++ (others ++ taken_by r.actions)

action_once : (site : ℕ) (log : List Operation) (action : Action (List Word)) (more : List (Action (List Word))) (others : List Stamp) (r : Reversion) → 0 < site
    → IsOnWay site log r → MayRevert action → (with_reverted action r).doc.count ≤ GREATEST_COUNT → IsTold none r → StandOnce r (in_turn r (action ∷ more) others)
    → map (stamp_after r.returns) (in_turn r (action ∷ more) others) ≡ in_turn r (action ∷ more) others
    → Back r (with_reverted action r) (in_turn (with_reverted action r) more others) (stamps_removed action.removed)
action_once site log action more others r p h c l t once st =
    let stamps = map (stamp_after r.returns) action.inserted in
    let left = with_removal stamps r in
    let all = with_returns action.removed left in
    let f = stamp_after r.returns in
    let own = map (λ (x : Removed (List Word)). x.stamp) action.removed in
    let gone = went stamps r.doc.cells in
    let acts = taken_by r.actions in
    let rest = taken_by more ++ (others ++ (acts ++ (gone ++ []))) in
    let few : left.doc.count ≤ GREATEST_COUNT = omega (arith, returns_grow action.removed left, l) in
    let way = gone_step site log stamps r p h (all_apart r.returns action.inserted h.apart c.inserted) few in
    let d = (kept_on_way site log r p h).distinct in
    let joined = once_more r.doc.cells left.doc.cells (map f (in_turn r (action ∷ more) others)) gone
    (λ s g. gone_still (are_at stamps r.doc.cells) 0 r.doc.cells s g) once (went_once stamps r d) in
    let ready : StandOnce left (own ++ rest) =
    once_fewer left.doc.cells (map f (own ++ rest)) (map f (in_turn r (action ∷ more) others) ++ gone)
    (λ s.
    let a = by_append s f own rest in
    let b = by_append s f (taken_by more) (others ++ (acts ++ (gone ++ []))) in
    let e = by_append s f others (acts ++ (gone ++ [])) in
    let i = by_append s f acts (gone ++ []) in
    let j = by_append s f gone [] in
    let k = times_append s (map f (in_turn r (action ∷ more) others)) gone in
    let m = by_append s f (taken_by (action ∷ more)) (others ++ acts) in
    let n = by_append s f own (taken_by more) in
    let o = by_append s f others acts in
    let q : times_by s f gone ≡ times s gone = ap (times s) (visible_kept stamps r d t) in
    omega (arith, a, b, e, i, j, k, m, n, o, q)) joined in
    let parts = apart_still f (own ++ taken_by more) others acts st in
    let front = two_still f own (taken_by more) parts.0 in
    let kept : map f (own ++ rest) ≡ own ++ rest =
    both_still f own rest front.0
    (both_still f (taken_by more) (others ++ (acts ++ (gone ++ []))) front.1
    (both_still f others (acts ++ (gone ++ [])) parts.1
    (both_still f acts (gone ++ []) parts.2 (both_still f gone [] (visible_kept stamps r d t) refl)))) in
    let done = returns_once site log action.removed rest left p way c.removed l ready kept in
    let new = taken_append r.actions (record { number = action.number; kind = action.kind; inserted = since r all; removed = still_visible stamps r.doc.cells } ∷ []) in
    record {
      once = subst (λ (xs : List Stamp). StandOnce all (taken_by more ++ (others ++ xs))) (sym new) done.once;
      still = subst (λ (xs : List Stamp). map (stamp_after all.returns) (taken_by more ++ (others ++ xs)) ≡ taken_by more ++ (others ++ xs)) (sym new) done.still;
      formers = done.formers;
    }

all_once : (site : ℕ) (log : List Operation) (actions : List (Action (List Word))) (others : List Stamp) (r : Reversion) → 0 < site → IsOnWay site log r → AllMayRevert actions
    → (with_each_reverted actions r).doc.count ≤ GREATEST_COUNT → IsTold none r → HaveStayed (λ s. back_after r.returns none (stamp_after r.returns s)) r.actions
    → AllByRecursion (λ (a : Action (List Word)). AllByRecursion (λ (x : Removed (List Word)). Stays none r.returns x.stamp) a.removed) actions
    → StandOnce r (in_turn r actions others) → map (stamp_after r.returns) (in_turn r actions others) ≡ in_turn r actions others
    → Back r (with_each_reverted actions r) (in_turn (with_each_reverted actions r) [] others) (taken_by actions)
all_once site log [] others r p h c l t st s once same = record { once = once; still = same; formers = sym (append-nil (map former_of r.returns)) }
all_once site log (action ∷ actions) others r p h c l t st s once same =
    let next = with_reverted action r in
    let few : next.doc.count ≤ GREATEST_COUNT = omega (arith, all_grow actions next, l) in
    let on = action_told none site log action r p h c.0 few t s.0 st in
    let one = action_once site log action actions others r p h c.0 few t once same in
    let rest = all_once site log actions others next p (action_step site log action r p h c.0 few) c.1 l on.leads.told on.stay (removed_on none r next actions on.leads s.1) one.once one.still in
    record {
      once = rest.once;
      still = rest.still;
      formers = rest.formers ∙ ap (λ l. l ++ taken_by actions) one.formers ∙ append_assoc (map former_of r.returns) (stamps_removed action.removed) (taken_by actions);
    }

-- GROUPS

in_reverse : (s : Stamp) (group : List (Action (List Word))) → times s (taken_by (reverse group)) ≡ times s (taken_by group)
in_reverse s [] = refl
in_reverse s (action ∷ group) =
    let own = map (λ (x : Removed (List Word)). x.stamp) action.removed in
    let first = ap (λ g. times s (taken_by g)) (reverse-cons action group) in
    let all = in_append s (reverse group) (action ∷ []) in
    let one = times_append s own [] in
    let both = times_append s own (taken_by group) in
    let rest = in_reverse s group in
    omega (arith, first, all, one, both, rest)

trivial : {X : Type 0} (P : X → Type 0) → ((x : X) → P x) → (xs : List X) → AllByRecursion P xs
trivial P f [] = tt
trivial P f (x ∷ xs) = (f x, trivial P f xs)

taken_now : (f : Stamp → Stamp) (group : List (Action (List Word))) → taken_by (with_stamps_in f group) ≡ map f (taken_by group)
taken_now f [] = refl
taken_now f (action ∷ group) =
    (λ i. own action.removed i ++ taken_now f group i)
    ∙ sym (map-append f (map (λ (x : Removed (List Word)). x.stamp) action.removed) (taken_by group))
  where
    own : (removed : List (Removed (List Word))) → map (λ (x : Removed (List Word)). x.stamp) (map (restamped_one {T = List Word} f) removed) ≡ map f (map (λ (x : Removed (List Word)). x.stamp) removed)
    own [] = refl
    own (x ∷ xs) = ap (λ l. f x.stamp ∷ l) (own xs)

-- after a group was reverted those are gone once that the group for the other stack takes away, and others that were, by the stamps
-- that they have then; and just those came back that the group took away, in the order of reverting
pub record IsOnce (document : DocValue) (group : List (Action (List Word))) (others : List Stamp) : Type 0 where
  pub once : AreGoneOnce (reversion document group).doc.cells (map (stamp_after (reversion document group).returns) others ++ taken_by (reverted_group document group))
  pub formers : map (λ (r : Return). r.former) (reversion document group).returns ≡ taken_by (reverse group)

pub reversion_once : (site : ℕ) (log : List Operation) (document : DocValue) (group : List (Action (List Word))) (others : List Stamp) → 0 < site → IsHistory log
    → IsDocument site log document → AllMayRevert group → (reversion document group).doc.count ≤ GREATEST_COUNT → AreGoneOnce document.cells (taken_by group ++ others)
    → IsOnce document group others
reversion_once site log document group others p h doc c l once =
    let r = reversion document group in
    let f = stamp_after r.returns in
    let start : StandOnce (as_it_is document) (in_turn (as_it_is document) (reverse group) others) =
    once_fewer document.cells (map (λ s. s) (in_turn (as_it_is document) (reverse group) others)) (taken_by group ++ others)
    (λ s.
    let same = ap (times s) (map-id (in_turn (as_it_is document) (reverse group) others)) in
    let a = times_append s (taken_by (reverse group)) (others ++ []) in
    let b = times_append s others [] in
    let e = times_append s (taken_by group) others in
    let k = in_reverse s group in
    omega (arith, same, a, b, e, k)) once in
    let all = all_once site log (reverse group) others (as_it_is document) p (record { may = tt; history = h; document = doc; apart = tt; sound = tt }) (all_reversed MayRevert group c) l
    (record { gone = λ s e. absurd (cc e); returns = tt; newer = tt }) tt
    (trivial (λ (a : Action (List Word)). AllByRecursion (λ (x : Removed (List Word)). Stays none [] x.stamp) a.removed)
    (λ a. trivial (λ (x : Removed (List Word)). Stays none [] x.stamp) (λ x. refl) a.removed) (reverse group)) start (map-id (in_turn (as_it_is document) (reverse group) others)) in
    record {
      once = once_fewer r.doc.cells (map f others ++ taken_by (reverted_group document group)) (map f (in_turn r [] others))
          (λ s.
          let a = times_append s (map f others) (taken_by (reverted_group document group)) in
          let b = ap (times s) (taken_now f r.actions) in
          let e = by_append s f others (taken_by r.actions) in
          omega (arith, a, b, e)) all.once;
      formers = all.formers;
    }

-- HISTORIES

groups_now : (f : Stamp → Stamp) (groups : List (List (Action (List Word)))) → flat_map taken_by (map (with_stamps_in f) groups) ≡ map f (flat_map taken_by groups)
groups_now f [] = refl
groups_now f (group ∷ groups) = (λ i. taken_now f group i ++ groups_now f groups i) ∙ sym (map-append f (taken_by group) (flat_map taken_by groups))

-- all groups but the last one, and that
last_parts : (s : Stamp) (groups : List (List (Action (List Word)))) (group : List (Action (List Word))) → newest groups ≡ Some group
    → in_groups s (but_newest groups) + times s (taken_by group) ≡ in_groups s groups
last_parts s [] group e = absurd (cc e)
last_parts s (g ∷ []) group e = let same : g ≡ group = cc e in let one = in_one s g in subst (λ (x : List (Action (List Word))). in_groups s (but_newest (g ∷ [])) + times s (taken_by x) ≡ in_groups s (g ∷ [])) same (omega (arith, one))
last_parts s (g ∷ h ∷ groups) group e =
    let at : length (g ∷ h ∷ groups) - 1 ≡ suc (length (h ∷ groups) - 1) = omega arith in
    let still : newest (h ∷ groups) ≡ Some group = sym (ap (slice_get (g ∷ h ∷ groups)) at) ∙ e in
    let front : in_groups s (but_newest (g ∷ h ∷ groups)) ≡ in_groups s (g ∷ but_newest (h ∷ groups)) = ap (λ n. in_groups s (take n (g ∷ h ∷ groups))) at in
    let rest = last_parts s (h ∷ groups) group still in
    let a = times_append s (taken_by g) (flat_map taken_by (but_newest (h ∷ groups))) in
    let b = times_append s (taken_by g) (flat_map taken_by (h ∷ groups)) in
    omega (arith, front, rest, a, b)

to_undo_now : (f : Stamp → Stamp) (h : UndoHistory (List Word)) → to_undo (renamed_by f h) ≡ map (with_stamps_in f) (to_undo h)
to_undo_now f h = ap (λ l. map (with_stamps_in f) h.closed ++ l) (by h.current) ∙ sym (map-append (with_stamps_in f) h.closed (as_group h.current))
  where
    by : (group : List (Action (List Word))) → as_group (with_stamps_in f group) ≡ map (with_stamps_in f) (as_group group)
    by [] = refl
    by (action ∷ group) = refl

but_newest_now : (f : Stamp → Stamp) (groups : List (List (Action (List Word)))) → but_newest (map (with_stamps_in f) groups) ≡ map (with_stamps_in f) (but_newest groups)
but_newest_now f groups = (λ i. take (length-map groups (with_stamps_in {T = List Word} f) i - 1) (map (with_stamps_in f) groups)) ∙ take-map (with_stamps_in f) (length groups - 1) groups

-- the others of a group that is undone, and of one that is redone
abbrev pub beside_undone : UndoHistory (List Word) → List Stamp
beside_undone h = flat_map taken_by (but_newest (to_undo h)) ++ flat_map taken_by h.undone

abbrev pub beside_redone : UndoHistory (List Word) → List Stamp
beside_redone h = flat_map taken_by (to_undo h) ++ flat_map taken_by (but_newest h.undone)

pub before_undo : (cells : List TaggedCell) (h : UndoHistory (List Word)) (group : List (Action (List Word))) → newest (to_undo h) ≡ Some group → AreGoneOnce cells (removed_in_history h)
    → AreGoneOnce cells (taken_by group ++ beside_undone h)
before_undo cells h group e = once_fewer cells (taken_by group ++ beside_undone h) (removed_in_history h) (λ s.
    let parts = last_parts s (to_undo h) group e in
    let undo = in_to_undo s h in
    let a = times_append s (taken_by group) (beside_undone h) in
    let b = times_append s (flat_map taken_by (but_newest (to_undo h))) (flat_map taken_by h.undone) in
    let all = in_history s h in
    omega (arith, parts, undo, a, b, all))

pub before_redo : (cells : List TaggedCell) (h : UndoHistory (List Word)) (group : List (Action (List Word))) → newest h.undone ≡ Some group → AreGoneOnce cells (removed_in_history h)
    → AreGoneOnce cells (taken_by group ++ beside_redone h)
before_redo cells h group e = once_fewer cells (taken_by group ++ beside_redone h) (removed_in_history h) (λ s.
    let parts = last_parts s h.undone group e in
    let undo = in_to_undo s h in
    let a = times_append s (taken_by group) (beside_redone h) in
    let b = times_append s (flat_map taken_by (to_undo h)) (flat_map taken_by (but_newest h.undone)) in
    let all = in_history s h in
    omega (arith, parts, undo, a, b, all))

pub after_undo : (cells : List TaggedCell) (f : Stamp → Stamp) (h : UndoHistory (List Word)) (reverted : List (Action (List Word)))
    → AreGoneOnce cells (map f (beside_undone h) ++ taken_by reverted) → AreGoneOnce cells (removed_in_history (undo_done reverted (renamed_by f h)))
after_undo cells f h reverted = once_fewer cells (removed_in_history (undo_done reverted (renamed_by f h))) (map f (beside_undone h) ++ taken_by reverted) (λ s.
    let all = in_history s (undo_done reverted (renamed_by f h)) in
    let closed = ap (λ l. in_groups s (but_newest l)) (to_undo_now f h) ∙ ap (in_groups s) (but_newest_now f (to_undo h)) ∙ ap (times s) (groups_now f (but_newest (to_undo h))) in
    let undone = in_groups_append s (map (with_stamps_in f) h.undone) (reverted ∷ []) in
    let one = in_one s reverted in
    let old = ap (times s) (groups_now f h.undone) in
    let a = times_append s (map f (beside_undone h)) (taken_by reverted) in
    let b = by_append s f (flat_map taken_by (but_newest (to_undo h))) (flat_map taken_by h.undone) in
    omega (arith, all, closed, undone, one, old, a, b))

pub after_redo : (cells : List TaggedCell) (f : Stamp → Stamp) (h : UndoHistory (List Word)) (reverted : List (Action (List Word)))
    → AreGoneOnce cells (map f (beside_redone h) ++ taken_by reverted) → AreGoneOnce cells (removed_in_history (redo_done reverted (renamed_by f h)))
after_redo cells f h reverted = once_fewer cells (removed_in_history (redo_done reverted (renamed_by f h))) (map f (beside_redone h) ++ taken_by reverted) (λ s.
    let now = renamed_by f h in
    let whole : UndoHistory (List Word) = record now { closed = to_undo now ++ reverted ∷ []; current = []; undone = but_newest now.undone } in
    let fewer = in_limited s whole in
    let all = in_history s whole in
    let closed = in_groups_append s (to_undo (renamed_by f h)) (reverted ∷ []) in
    let undo = ap (in_groups s) (to_undo_now f h) ∙ ap (times s) (groups_now f (to_undo h)) in
    let one = in_one s reverted in
    let undone = ap (in_groups s) (but_newest_now f h.undone) ∙ ap (times s) (groups_now f (but_newest h.undone)) in
    let a = times_append s (map f (beside_redone h)) (taken_by reverted) in
    let b = by_append s f (flat_map taken_by (to_undo h)) (flat_map taken_by (but_newest h.undone)) in
    omega (arith, fewer, all, closed, undo, one, undone, a, b))
