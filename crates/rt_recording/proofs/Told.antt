-- What a reversion tells of the characters that come back by it: each does so for the first time, and is gone under its former stamp;
-- and the group for the other stack names none of them.
use Rattle.std.proofs.Common.{◌≡◌, ◌∙◌, ℕ, ◌+◌, ◌<◌, ◌≤◌, ◌||◌, Bool, true, false, List, [], ◌∷◌, Option, Some, None, cond, drop, filter, length, map, ap, refl, subst, sym, arith}
use Rattle.std.specs.Prelude.{option_map, reverse, unwrap_or}
use Rattle.std.specs.List.{AllByRecursion}
use Rattle.std.proofs.lemmas.Bool.{both_ways, false_from_ne_true}
use Rattle.rt_stamps.specs.declared.limits.TheConstants.{GREATEST_COUNT}
use Rattle.rt_stamps.specs.declared.stamp.Stamp.{Stamp}
use Rattle.rt_stamps.specs.declared.stamp.TheConstants.{FINAL}
use Rattle.rt_stamps.specs.Stamps.{is_same}
use Rattle.rt_stamps.specs.Words.{Word}
use Rattle.rt_stamps.proofs.Order.{same_from_true, same_sym}
use Rattle.rt_ops.specs.Operations.{Operation}
use Rattle.rt_tags.proofs.Sorted.{every_append}
use Rattle.rt_store.specs.Cells.{AreDistinct, stamps_of, visible_of}
use Rattle.rt_store.specs.Shown.{TaggedCell}
use Rattle.rt_store.specs.Spans.{is_among}
use Rattle.rt_store.specs.Written.{AreBelowNext}
use Rattle.rt_store.proofs.Distinct.{differs, new_apart, split}
use Rattle.rt_rga.specs.Drafts.{with_drafts}
use Rattle.rt_rga.specs.Histories.{IsHistory, has_character}
use Rattle.rt_rga.proofs.Corollaries.{cells_distinct, cells_have, character_count}
use Rattle.rt_plans.specs.DraftLaws.{IsDocument}
use Rattle.rt_plans.specs.DocValue.{DocValue}
use Rattle.rt_plans.specs.Insertions.{new_state}
use Rattle.rt_undo.specs.Actions.{Action, Removed, restamped, restamped_one}
use Rattle.rt_undo.specs.Undo.{with_stamps_in}
use Rattle.rt_revert.specs.Reverting.{Reversion, are_at, as_it_is, as_removed, gone_cell_of, next_in, reversion, reverted_group, since, still_visible, with_each_reverted, with_insertion, with_removal, with_return, with_returns, with_reverted}
use Rattle.rt_revert.specs.ReversionLaws.{AllMayRevert, MayReturn, MayRevert}
use Rattle.rt_revert.proofs.Stamps.{IsApart, after_apart, all_apart}
use Rattle.rt_revert.proofs.Steps.{IsOnWay, action_step, all_grow, all_reversed, gone_step, on_way, return_step, returns_grow}
use Rattle.rt_text.proofs.KeptLimits.{below_on_way, real_on_way}
use Rattle.rt_recording.specs.Recordings.{HasStayed, HaveStayed}
use Rattle.rt_recording.specs.Returns.{AreReturns, IsReturn, Return, back_after, stamp_after}
use Rattle.rt_recording.specs.Settled.{is_gone_cell}
use Rattle.rt_recording.proofs.Every.{every_drop}
use Rattle.rt_recording.proofs.Gone.{each_among, found_gone, gone_known, gone_put, gone_still, visible_stays}
use Rattle.rt_recording.proofs.Stayed.{Stays, back_one, returns_more, stays_here, stays_more}

-- EACH OF SOME

pub every_weaker : {X : Type 0} (P Q : X → Type 0) → ((x : X) → P x → Q x) → (xs : List X) → AllByRecursion P xs → AllByRecursion Q xs
every_weaker P Q f [] h = tt
every_weaker P Q f (x ∷ xs) h = (f x h.0, every_weaker P Q f xs h.1)

every_filter : {X : Type 0} (P : X → Type 0) (test : X → Bool) (xs : List X) → AllByRecursion P xs → AllByRecursion P (filter test xs)
every_filter P test [] h = tt
every_filter {X} P test (x ∷ xs) h = by (test x) (every_filter P test xs h.1)
  where
    by : (b : Bool) → AllByRecursion P (filter test xs) → AllByRecursion P (cond b (x ∷ filter test xs) (filter test xs))
    by true rest = (h.0, rest)
    by false rest = rest

pub mapped : {X Y : Type 0} (P : Y → Type 0) (f : X → Y) (xs : List X) → AllByRecursion (λ x. P (f x)) xs → AllByRecursion P (map f xs)
mapped P f [] h = tt
mapped P f (x ∷ xs) h = (h.0, mapped P f xs h.1)

-- THE CELLS OF A HISTORY

pub record AreKept (r : Reversion) : Type 0 where
  pub site : 0 < r.doc.site
  pub below : AreBelowNext r.doc.count r.doc.cells
  pub distinct : AreDistinct r.doc.cells
  pub older : (s : Stamp) → is_among (stamps_of r.doc.cells) s ≡ true → is_same s FINAL ≡ false → s.count ≤ r.doc.count

first_holds : (a b : Bool) → b ≡ false → (a || b) ≡ true → a ≡ true
first_holds true b e f = refl
first_holds false b e f = absurd (both_ways b e f)

pub kept_on_way : (site : ℕ) (log : List Operation) (r : Reversion) → 0 < site → IsOnWay site log r → AreKept r
kept_on_way site log r p h =
    let more = with_drafts site r.drafts log in
    let doc = h.document in
    record {
      site = real_on_way site log r p h;
      below = below_on_way site log r h;
      distinct = subst AreDistinct (sym doc.cells) (cells_distinct more h.history);
      older = λ s m n.
          let there : has_character more s ≡ true =
          first_holds (has_character more s) (is_same FINAL s) (same_sym FINAL s ∙ n)
          (sym (cells_have more h.history s) ∙ ap (λ (l : List TaggedCell). is_among (stamps_of l) s) (sym doc.cells) ∙ m) in
          omega (arith, doc.count, character_count more s there);
    }

-- A CHARACTER THAT COMES BACK

-- who came back is gone; each came back for the first time, and not again
pub record IsTold (back : Stamp → Bool) (r : Reversion) : Type 0 where
  pub gone : (s : Stamp) → back_after r.returns back s ≡ true → is_gone_cell r.doc.cells s ≡ true
  pub returns : AreReturns back r.returns
  pub newer : AllByRecursion (λ (x : Return). Stays back r.returns x.newer) r.returns

-- from one reversion on to another, who stayed stays
pub record Leads (back : Stamp → Bool) (r next : Reversion) : Type 0 where
  pub told : IsTold back next
  pub stays : (s : Stamp) → Stays back r.returns s → Stays back next.returns s

module _ (back : Stamp → Bool) (stamp : Stamp) (tags : List Word) (ch : ℕ) (r : Reversion) where
  abbrev came : Return
  came = record { former = stamp; newer = next_in r.doc }

  abbrev this : TaggedCell
  this = record { stamp = next_in r.doc; ch = ch; gone = false; state = new_state r.doc.site (r.doc.count + 1) tags }

  abbrev next : Reversion
  next = with_insertion stamp tags ch r

  fresh_cell : AreKept r → is_among (stamps_of r.doc.cells) (next_in r.doc) ≡ false
  fresh_cell k = new_apart r.doc.count (r.doc.count + 1) r.doc.site r.doc.cells k.below (omega arith) k.site

  fresh : AreKept r → IsTold back r → back_after r.returns back (next_in r.doc) ≡ false
  fresh k t = false_from_ne_true (back_after r.returns back (next_in r.doc))
      (λ e. both_ways (is_among (stamps_of r.doc.cells) (next_in r.doc)) (fresh_cell k) (gone_known r.doc.cells (next_in r.doc) (t.gone (next_in r.doc) e)))

  is_return : AreKept r → IsTold back r → is_gone_cell r.doc.cells stamp ≡ true → is_same stamp FINAL ≡ false → back_after r.returns back stamp ≡ false
      → next.doc.count ≤ GREATEST_COUNT → IsReturn (back_after r.returns back) came
  is_return k t g n f l =
      let older : stamp.count ≤ r.doc.count = k.older stamp (gone_known r.doc.cells stamp g) n in
      record { later = omega (arith, older); bounded = omega (arith, l); first_time = f; fresh = fresh k t }

  pub gone_next : AreKept r → (s : Stamp) → is_gone_cell r.doc.cells s ≡ true → is_gone_cell next.doc.cells s ≡ true
  gone_next k s g =
      gone_put r.doc.cells stamp this s (differs (next_in r.doc) s (stamps_of r.doc.cells) (fresh_cell k) (gone_known r.doc.cells s g)) ∙ g

  told_next : AreKept r → IsTold back r → is_gone_cell r.doc.cells stamp ≡ true → IsReturn (back_after r.returns back) came → IsTold back next
  told_next k t g is = record {
    gone = λ s e. gone_next k s (split (is_same s stamp)
        (λ same. ap (is_gone_cell r.doc.cells) (same_from_true s stamp same) ∙ g)
        (λ other. t.gone s (back_one r.returns came back s e other)));
    returns = returns_more r.returns came back t.returns is;
    newer = every_append (λ (x : Return). Stays back next.returns x.newer) r.returns (came ∷ [])
        (every_weaker (λ (x : Return). Stays back r.returns x.newer) (λ (x : Return). Stays back next.returns x.newer)
        (λ x h. stays_more r.returns came back x.newer is h) r.returns t.newer)
        (stays_more r.returns came back (next_in r.doc) is (stays_here r.returns back (next_in r.doc) (fresh k t)), tt);
  }

abbrev pub brought : Stamp → List Word → Option TaggedCell → Reversion → Reversion
brought stamp tags o r = unwrap_or (option_map (λ (cell : TaggedCell). with_insertion stamp tags cell.ch r) o) r

pub return_told : (back : Stamp → Bool) (removed : Removed (List Word)) (r : Reversion) → AreKept r → IsTold back r → AllByRecursion IsApart r.returns → MayReturn removed
    → (with_return removed r).doc.count ≤ GREATEST_COUNT → Stays back r.returns removed.stamp → Leads back r (with_return removed r)
return_told back removed r k t a m l s = by (gone_cell_of r.doc.cells stamp) refl l
  where
    stamp : Stamp
    stamp = stamp_after r.returns removed.stamp

    by : (o : Option TaggedCell) → gone_cell_of r.doc.cells stamp ≡ o → (brought stamp removed.tags o r).doc.count ≤ GREATEST_COUNT → Leads back r (brought stamp removed.tags o r)
    by None e f = record { told = t; stays = λ u h. h }
    by (Some cell) e f =
        let g : is_gone_cell r.doc.cells stamp ≡ true = found_gone r.doc.cells stamp cell e in
        let is = is_return back stamp removed.tags cell.ch r k t g (after_apart r.returns removed.stamp a m.stamp) s f in
        record { told = told_next back stamp removed.tags cell.ch r k t g is; stays = λ u h. stays_more r.returns (record { former = stamp; newer = next_in r.doc }) back u is h }

pub returns_told : (back : Stamp → Bool) (site : ℕ) (log : List Operation) (removed : List (Removed (List Word))) (r : Reversion) → 0 < site → IsOnWay site log r → IsTold back r
    → AllByRecursion MayReturn removed → (with_returns removed r).doc.count ≤ GREATEST_COUNT → AllByRecursion (λ (x : Removed (List Word)). Stays back r.returns x.stamp) removed
    → Leads back r (with_returns removed r)
returns_told back site log [] r p h t m l s = record { told = t; stays = λ u k. k }
returns_told back site log (x ∷ more) r p h t m l s =
    let next = with_return x r in
    let few : next.doc.count ≤ GREATEST_COUNT = omega (arith, returns_grow more next, l) in
    let on = return_told back x r (kept_on_way site log r p h) t h.apart m.0 few s.0 in
    let still = every_weaker (λ (y : Removed (List Word)). Stays back r.returns y.stamp) (λ (y : Removed (List Word)). Stays back next.returns y.stamp) (λ y k. on.stays y.stamp k) more s.1 in
    let rest = returns_told back site log more next p (return_step site log x r p h m.0 few) on.told m.1 l still in
    record { told = rest.told; stays = λ u k. rest.stays u (on.stays u k) }

-- ACTIONS

-- whether the character of a stamp came back under another one than it has now
abbrev now_back : (Stamp → Bool) → List Return → Stamp → Bool
now_back back returns s = back_after returns back (stamp_after returns s)

stayed_on : (back : Stamp → Bool) (r next : Reversion) (action : Action (List Word)) → Leads back r next → HasStayed (now_back back r.returns) action → HasStayed (now_back back next.returns) action
stayed_on back r next action on h = record {
  inserted = every_weaker (Stays back r.returns) (Stays back next.returns) on.stays action.inserted h.inserted;
  removed = every_weaker (λ (x : Removed (List Word)). Stays back r.returns x.stamp) (λ (x : Removed (List Word)). Stays back next.returns x.stamp)
      (λ x k. on.stays x.stamp k) action.removed h.removed;
}

-- those that go were visible, so they didn't come back under other stamps
pub went_here : (back : Stamp → Bool) (stamps : List Stamp) (r : Reversion) → AreDistinct r.doc.cells → IsTold back r
    → AllByRecursion (λ (x : Removed (List Word)). back_after r.returns back x.stamp ≡ false) (still_visible stamps r.doc.cells)
went_here back stamps r d t =
    let P : Stamp → Type 0 = λ s. back_after r.returns back s ≡ false in
    let cells = r.doc.cells in
    let test : TaggedCell → Bool = λ cell. is_among stamps cell.stamp in
    let each = each_among P (visible_of cells) (λ s m. false_from_ne_true (back_after r.returns back s)
    (λ e. both_ways (is_gone_cell cells s) (visible_stays cells s d m) (t.gone s e))) in
    mapped (λ (x : Removed (List Word)). P x.stamp) as_removed (filter test (visible_of cells)) (every_filter (λ (c : TaggedCell). P c.stamp) test (visible_of cells) each)

went_stay : (back : Stamp → Bool) (stamps : List Stamp) (r : Reversion) → AreDistinct r.doc.cells → IsTold back r
    → AllByRecursion (λ (x : Removed (List Word)). Stays back r.returns x.stamp) (still_visible stamps r.doc.cells)
went_stay back stamps r d t =
    every_weaker (λ (x : Removed (List Word)). back_after r.returns back x.stamp ≡ false) (λ (x : Removed (List Word)). Stays back r.returns x.stamp)
    (λ x h. stays_here r.returns back x.stamp h) (still_visible stamps r.doc.cells) (went_here back stamps r d t)

pub record Comes (back : Stamp → Bool) (r next : Reversion) : Type 0 where
  pub leads : Leads back r next
  pub stay : HaveStayed (now_back back next.returns) next.actions

pub action_told : (back : Stamp → Bool) (site : ℕ) (log : List Operation) (action : Action (List Word)) (r : Reversion) → 0 < site → IsOnWay site log r → MayRevert action
    → (with_reverted action r).doc.count ≤ GREATEST_COUNT → IsTold back r → AllByRecursion (λ (x : Removed (List Word)). Stays back r.returns x.stamp) action.removed
    → HaveStayed (now_back back r.returns) r.actions → Comes back r (with_reverted action r)
action_told back site log action r p h c l t s st =
    let stamps = map (stamp_after r.returns) action.inserted in
    let left = with_removal stamps r in
    let all = with_returns action.removed left in
    let few : left.doc.count ≤ GREATEST_COUNT = omega (arith, returns_grow action.removed left, l) in
    let way = gone_step site log stamps r p h (all_apart r.returns action.inserted h.apart c.inserted) few in
    let told : IsTold back left = record { gone = λ u e. gone_still (are_at stamps r.doc.cells) 0 r.doc.cells u (t.gone u e); returns = t.returns; newer = t.newer } in
    let on : Leads back left all = returns_told back site log action.removed left p way told c.removed l s in
    let led : Leads back r all = record { told = on.told; stays = on.stays } in
    let new : Action (List Word) = record { number = action.number; kind = action.kind; inserted = since r all; removed = still_visible stamps r.doc.cells } in
    let fine : HasStayed (now_back back all.returns) new = record {
      inserted = mapped (Stays back all.returns) (λ (x : Return). x.newer) (drop (length r.returns) all.returns)
          (every_drop (λ (x : Return). Stays back all.returns x.newer) (length r.returns) all.returns on.told.newer);
      removed = every_weaker (λ (x : Removed (List Word)). Stays back r.returns x.stamp) (λ (x : Removed (List Word)). Stays back all.returns x.stamp)
          (λ x k. on.stays x.stamp k) (still_visible stamps r.doc.cells) (went_stay back stamps r (kept_on_way site log r p h).distinct t);
    } in
    record {
      leads = record { told = record { gone = on.told.gone; returns = on.told.returns; newer = on.told.newer }; stays = on.stays };
      stay = every_append (HasStayed (now_back back all.returns)) r.actions (new ∷ [])
          (every_weaker (HasStayed (now_back back r.returns)) (HasStayed (now_back back all.returns)) (λ a k. stayed_on back r all a led k) r.actions st) (fine, tt);
    }

-- none of those that actions took away came back under another stamp than it has now
abbrev pub RemovedStay : (Stamp → Bool) → List Return → List (Action (List Word)) → Type 0
RemovedStay back returns group = AllByRecursion (λ (a : Action (List Word)). AllByRecursion (λ (x : Removed (List Word)). Stays back returns x.stamp) a.removed) group

pub removed_on : (back : Stamp → Bool) (r next : Reversion) (group : List (Action (List Word))) → Leads back r next → RemovedStay back r.returns group → RemovedStay back next.returns group
removed_on back r next group on h =
    every_weaker (λ (a : Action (List Word)). AllByRecursion (λ (x : Removed (List Word)). Stays back r.returns x.stamp) a.removed)
    (λ (a : Action (List Word)). AllByRecursion (λ (x : Removed (List Word)). Stays back next.returns x.stamp) a.removed)
    (λ a k. every_weaker (λ (x : Removed (List Word)). Stays back r.returns x.stamp) (λ (x : Removed (List Word)). Stays back next.returns x.stamp)
    (λ x j. on.stays x.stamp j) a.removed k) group h

all_told : (back : Stamp → Bool) (site : ℕ) (log : List Operation) (actions : List (Action (List Word))) (r : Reversion) → 0 < site → IsOnWay site log r → AllMayRevert actions
    → (with_each_reverted actions r).doc.count ≤ GREATEST_COUNT → IsTold back r → RemovedStay back r.returns actions → HaveStayed (now_back back r.returns) r.actions
    → Comes back r (with_each_reverted actions r)
all_told back site log [] r p h c l t s st = record { leads = record { told = t; stays = λ u k. k }; stay = st }
all_told back site log (action ∷ actions) r p h c l t s st =
    let next = with_reverted action r in
    let few : next.doc.count ≤ GREATEST_COUNT = omega (arith, all_grow actions next, l) in
    let on = action_told back site log action r p h c.0 few t s.0 st in
    let rest = all_told back site log actions next p (action_step site log action r p h c.0 few) c.1 l on.leads.told (removed_on back r next actions on.leads s.1) on.stay in
    record { leads = record { told = rest.leads.told; stays = λ u k. rest.leads.stays u (on.leads.stays u k) }; stay = rest.stay }

-- UNDER THE STAMPS OF NOW

action_now : (back : Stamp → Bool) (f : Stamp → Stamp) (action : Action (List Word)) → HasStayed (λ s. back (f s)) action → HasStayed back (restamped f action)
action_now back f action h = record {
  inserted = mapped (λ (s : Stamp). back s ≡ false) f action.inserted h.inserted;
  removed = mapped (λ (x : Removed (List Word)). back x.stamp ≡ false) (restamped_one {T = List Word} f) action.removed h.removed;
}

group_now : (back : Stamp → Bool) (f : Stamp → Stamp) (group : List (Action (List Word))) → HaveStayed (λ s. back (f s)) group → HaveStayed back (with_stamps_in f group)
group_now back f [] h = tt
group_now back f (action ∷ group) h = (action_now back f action h.0, group_now back f group h.1)

-- GROUPS

-- what a group's reversion tells
pub record IsReturned (back : Stamp → Bool) (document : DocValue) (group : List (Action (List Word))) : Type 0 where
  pub returns : AreReturns back (reversion document group).returns
  pub others : AllByRecursion IsApart (reversion document group).returns
  pub stay : HaveStayed (back_after (reversion document group).returns back) (reverted_group document group)
  pub gone : (s : Stamp) → back_after (reversion document group).returns back s ≡ true → is_gone_cell (reversion document group).doc.cells s ≡ true

pub reversion_told : (site : ℕ) (log : List Operation) (document : DocValue) (group : List (Action (List Word))) (back : Stamp → Bool) → 0 < site → IsHistory log
    → IsDocument site log document → AllMayRevert group → (reversion document group).doc.count ≤ GREATEST_COUNT → ((s : Stamp) → back s ≡ true → is_gone_cell document.cells s ≡ true)
    → HaveStayed back group → IsReturned back document group
reversion_told site log document group back p h doc c l g st =
    let r = reversion document group in
    let way = on_way site log document group p h doc c l in
    let removed : RemovedStay back [] group =
    every_weaker (HasStayed back) (λ (a : Action (List Word)). AllByRecursion (λ (x : Removed (List Word)). back x.stamp ≡ false) a.removed) (λ a k. k.removed) group st in
    let all = all_told back site log (reverse group) (as_it_is document) p (record { may = tt; history = h; document = doc; apart = tt; sound = tt }) (all_reversed MayRevert group c) l
    (record { gone = g; returns = tt; newer = tt })
    (all_reversed (λ (a : Action (List Word)). AllByRecursion (λ (x : Removed (List Word)). back x.stamp ≡ false) a.removed) group removed) tt in
    record { returns = all.leads.told.returns; others = way.apart; stay = group_now (back_after r.returns back) (stamp_after r.returns) r.actions all.stay; gone = all.leads.told.gone }
