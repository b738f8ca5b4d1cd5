-- From drafts to operations.
use Rattle.std.proofs.Common.{◌≡◌, ℕ, suc, ◌+◌, ◌<◌, ◌≤◌, refl, sym, ap, subst, ◌∙◌, arith, List, [], ◌∷◌, ◌++◌, ◌==◌, Bool, All, true, false, cond, map, max, length, drop, get_or, nat_le, nat_lt, not, ◌&&◌, Some, None}
use Rattle.std.proofs.lemmas.List.{append_assoc, drop_more, length-append, map-append}
use Rattle.rt_ops.specs.Edits.{body_of}
use Rattle.rt_ops.specs.Operations.{Operation, Body, Insert, Name, last_count, last_of, stamp_of}
use Rattle.rt_ops.specs.Rules.{keeps_rules}
use Rattle.rt_ops.specs.declared.op.Edit.{Edit}
use Rattle.rt_rga.specs.Making.{AreNewest, operations_from}
use Rattle.rt_rga.specs.Made.{cell_check, refusal_from, refusal_of, unless_refused}
use Rattle.rt_rga.proofs.Skipping.{split}
use Rattle.rt_rga.specs.Cells.{cells_of}
use Rattle.rt_rga.specs.Drafts.{AreDraftsFor, ContinueInTurn, next_operation, operations_of, with_drafts}
use Rattle.rt_rga.specs.Histories.{IsHistory, greatest_last_count, inserted}
use Rattle.rt_oplog.specs.Logs.{known_end, with_operation}
use Rattle.rt_stamps.specs.declared.limits.TheConstants.{GREATEST_COUNT}
use Rattle.rt_stamps.specs.declared.fault.Fault.TheVariants.{ClockSpent, TextFull}
use Rattle.std.proofs.lemmas.Bool.Decides.{nat_tests}
use Rattle.std.specs.List.{AllByRecursion}
use Rattle.rt_rga.proofs.Drafting.{count_after, draft_continues, end_within, newest}
use Rattle.rt_rga.proofs.Histories.{last_ge}
use Rattle.rt_rga.proofs.Putting.{length_fresh}
use Rattle.rt_rga.specs.Requests.{MayBeMade, characters_in_all, last_count_after, made_within}
use Rattle.rt_rga.specs.Making.{fresh_by, fresh_cells}
use Rattle.rt_rga.proofs.Replicas.{all_from_states}
use Rattle.rt_rga.proofs.Requests.{all_counted, drafts_for, inserted_length, not_less}
use Rattle.rt_stamps.specs.declared.stamp.Stamp.{Stamp}
use Rattle.rt_stamps.specs.Outcomes.{first_of}
use Rattle.rt_stamps.specs.declared.stamp.TheConstants.{ROOT}
use Rattle.rt_store.specs.declared.cell.Cell.{Cell}
use Rattle.rt_store.specs.Cells.{cells_from}
use Rattle.rt_store.specs.Shown.{shown, TaggedCell}
use Rattle.rt_store.specs.Tagged.{AreStates}
use Rattle.rt_store.proofs.GivenStates.{kept_states}
use Rattle.rt_store.proofs.Shown.{from_shown, shown_later}
use Rattle.rt_tags.specs.States.{IsState, KeepsIds, TagStates, state_at}
use Rattle.rt_tags.specs.Writers.{listed_by, state_after}
use Rattle.std.proofs.lemmas.List.Elements.{All-append, All-from_recursion}

-- what is left of drafts, one step on
pub drafts_left : (drafts : List Edit) (i : ℕ) (draft : Edit) → i < length drafts → draft ≡ get_or drafts i draft
    → map body_of (drop i drafts) ≡ body_of draft ∷ map body_of (drop (i + 1) drafts)
drafts_left drafts i draft lt e = ap (map body_of) (drop_more drafts i draft lt ∙ ap (λ d. d ∷ drop (i + 1) drafts) (sym e))

-- the last count of all is at least that of the first
pub first_within : (last : ℕ) (drafts : List Edit) (i : ℕ) (draft : Edit) → i < length drafts → draft ≡ get_or drafts i draft
    → last_of (last + 1) (body_of draft) ≤ last_count_after last (map body_of (drop i drafts))
first_within last drafts i draft lt e =
    subst (λ (bodies : List Body). last_of (last + 1) (body_of draft) ≤ last_count_after last bodies) (sym (drafts_left drafts i draft lt e))
    (not_less (last_of (last + 1) (body_of draft)) (map body_of (drop (i + 1) drafts)))

-- one more operation, of the first draft that is left
pub stamped_more : (site last prev more : ℕ) (ops now all : List Operation) (op : Operation) (old new : List Edit) (draft : Edit) → old ≡ draft ∷ new
    → last_of (last + 1) (body_of draft) ≡ last + more → op ≡ record { count = last + 1; site = site; prev = prev; body = body_of draft } → now ≡ ops ++ op ∷ []
    → ops ++ operations_from site last prev (map body_of old) ≡ all → now ++ operations_from site (last + more) (last + more) (map body_of new) ≡ all
stamped_more site last prev more ops now all op old new draft e l o p h =
    let rest = operations_from site (last + more) (last + more) (map body_of new) in
    ap (λ (xs : List Operation). xs ++ rest) p
    ∙ append_assoc ops (op ∷ []) rest
    ∙ ap (λ (x : Operation). ops ++ x ∷ rest) o
    ∙ ap (λ n. ops ++ record { count = last + 1; site = site; prev = prev; body = body_of draft } ∷ operations_from site n n (map body_of new)) (sym l)
    ∙ ap (λ (drafts : List Edit). ops ++ operations_from site last prev (map body_of drafts)) (sym e)
    ∙ h

pub rules_left : (old new : List Edit) (draft : Edit) → old ≡ draft ∷ new → All (λ d. keeps_rules (body_of d) ≡ true) old → All (λ d. keeps_rules (body_of d) ≡ true) new
rules_left old new draft e h = λ k d lt. subst (λ (drafts : List Edit). All (λ d. keeps_rules (body_of d) ≡ true) drafts) e h (suc k) d (omega (arith, lt))

pub fits_left : (last more bound : ℕ) (old new : List Edit) (draft : Edit) → old ≡ draft ∷ new → last_of (last + 1) (body_of draft) ≡ last + more
    → last_count_after last (map body_of old) ≤ bound → last_count_after (last + more) (map body_of new) ≤ bound
fits_left last more bound old new draft e l h =
    subst (λ n. last_count_after n (map body_of new) ≤ bound) l (subst (λ (drafts : List Edit). last_count_after last (map body_of drafts) ≤ bound) e h)

-- drafts whose counts don't fit are refused for that
pub counts_refused : (last cells limit : ℕ) (drafts : List Body) → GREATEST_COUNT < last_count_after last drafts → refusal_from last cells limit drafts ≡ Some ClockSpent
counts_refused last cells limit drafts h =
    let spent : nat_lt GREATEST_COUNT (last_count_after last drafts) ≡ true = grind (arith, nat_tests, h) in
    λ i. first_of (cond (spent i) (Some ClockSpent) None ∷ cell_check limit (cells + characters_in_all drafts) ∷ [])

-- those whose counts fit, where the cells fit or not
pub cells_refused : (last cells limit : ℕ) (drafts : List Body) → last_count_after last drafts ≤ GREATEST_COUNT → limit < cells + characters_in_all drafts → refusal_from last cells limit drafts ≡ Some TextFull
cells_refused last cells limit drafts h k =
    let spent : nat_lt GREATEST_COUNT (last_count_after last drafts) ≡ false = grind (arith, nat_tests, h) in
    let full : nat_lt limit (cells + characters_in_all drafts) ≡ true = grind (arith, nat_tests, k) in
    λ i. first_of (cond (spent i) (Some ClockSpent) None ∷ cond (full i) (Some TextFull) None ∷ [])

pub none_refused : (last cells limit : ℕ) (drafts : List Body) → last_count_after last drafts ≤ GREATEST_COUNT → cells + characters_in_all drafts ≤ limit → refusal_from last cells limit drafts ≡ None
none_refused last cells limit drafts h k =
    let spent : nat_lt GREATEST_COUNT (last_count_after last drafts) ≡ false = grind (arith, nat_tests, h) in
    let full : nat_lt limit (cells + characters_in_all drafts) ≡ false = grind (arith, nat_tests, k) in
    λ i. first_of (cond (spent i) (Some ClockSpent) None ∷ cond (full i) (Some TextFull) None ∷ [])

-- CELLS OF NEW CHARACTERS

-- those of one more Insert, whose list of tags has an id
pub fresh_more : (old new : TagStates) (kept now added : List (Cell ℕ)) (stamp at : Stamp) (body : Body) (after : Stamp) (tags : List Name) (text : List ℕ) (id : ℕ)
    → KeepsIds old new → AreStates old kept → now ≡ kept ++ added → added ≡ cells_from at.count at.site id text → at ≡ stamp → body ≡ Insert after tags text
    → state_at new id ≡ state_after [] (listed_by ROOT tags) → map (shown new) now ≡ map (shown old) kept ++ fresh_by stamp body
fresh_more old new kept now added stamp at body after tags text id k s n a e b m =
    let one : map (shown new) added ≡ fresh_by stamp body =
    ap (map (shown new)) a ∙ from_shown (state_at new) at.count at.site id text ∙ (λ i. cells_from (e i).count (e i).site (m i) text) ∙ ap (fresh_by stamp) (sym b) in
    ap (map (shown new)) n ∙ map-append (shown new) kept added ∙ ap (λ (cells : List TaggedCell). cells ++ map (shown new) added) (shown_later old new kept k s) ∙ ap (λ (cells : List TaggedCell). map (shown old) kept ++ cells) one

pub fresh_given : (old new : TagStates) (kept now added : List (Cell ℕ)) (at : Stamp) (text : List ℕ) (id : ℕ)
    → KeepsIds old new → AreStates old kept → now ≡ kept ++ added → added ≡ cells_from at.count at.site id text → IsState new id → AreStates new now
fresh_given old new kept now added at text id k s n a g =
    subst (AreStates new) (sym n)
    (All-append (λ (cell : Cell ℕ). IsState new cell.state) kept added (kept_states old new kept k s) (subst (AreStates new) (sym a) (all_from_states new at.count at.site id text g)))

pub ops_left : (ops : List Operation) (i : ℕ) (op : Operation) → i < length ops → op ≡ get_or ops i op → drop i ops ≡ op ∷ drop (i + 1) ops
ops_left ops i op lt e = drop_more ops i op lt ∙ ap (λ (x : Operation). x ∷ drop (i + 1) ops) (sym e)

pub fresh_left : (ops : List Operation) (i : ℕ) (op : Operation) (cells now : List TaggedCell) → drop i ops ≡ op ∷ drop (i + 1) ops → now ≡ cells ++ fresh_by (stamp_of op) op.body
    → cells ++ fresh_cells (drop i ops) ≡ fresh_cells ops → now ++ fresh_cells (drop (i + 1) ops) ≡ fresh_cells ops
fresh_left ops i op cells now d n h =
    ap (λ (xs : List TaggedCell). xs ++ fresh_cells (drop (i + 1) ops)) n
    ∙ append_assoc cells (fresh_by (stamp_of op) op.body) (fresh_cells (drop (i + 1) ops))
    ∙ ap (λ (xs : List Operation). cells ++ fresh_cells xs) (sym d)
    ∙ h

-- A SITE'S NEXT OPERATIONS

-- the known end of a site after its newest operation
end_after : (op : Operation) (set : List Operation) → greatest_last_count set < op.count → known_end (with_operation op set) op.site ≡ last_count op
end_after op set h =
    let g = last_ge op.count op.body in
    let w = end_within set op.site in
    ap (λ (ops : List Operation). known_end ops op.site) (newest op set h) ∙ ap (λ b. cond b (max (last_count op) (known_end set op.site)) (known_end set op.site)) (same op.site) ∙ omega (arith, g, w, h)
  where
    same : (n : ℕ) → (n == n) ≡ true
    same n = grind (arith, nat_tests)

pub operations_are : (site : ℕ) (drafts : List Body) (set : List Operation) → operations_from site (greatest_last_count set) (known_end set site) drafts ≡ operations_of site drafts set
operations_are site [] set = refl
operations_are site (draft ∷ drafts) set =
    let op = next_operation site draft set in
    let above : greatest_last_count set < op.count = omega arith in
    let count : greatest_last_count (with_operation op set) ≡ last_of (greatest_last_count set + 1) draft = count_after op set above in
    let end : known_end (with_operation op set) site ≡ last_of (greatest_last_count set + 1) draft = end_after op set above in
    (λ i. op ∷ operations_from site (sym count i) (sym end i) drafts) ∙ ap (λ (ops : List Operation). op ∷ ops) (operations_are site drafts (with_operation op set))

pub in_turn : (site : ℕ) (drafts : List Body) (set : List Operation) → 0 < site → AreDraftsFor site set drafts → ContinueInTurn set (operations_of site drafts set)
in_turn site [] set p d = tt
in_turn site (draft ∷ drafts) set p d = (draft_continues site set draft p d.0, in_turn site drafts (with_operation (next_operation site draft set) set) p d.1)

pub are_newest : (site : ℕ) (drafts : List Body) (set : List Operation) → AreNewest set (operations_of site drafts set)
are_newest site [] set = tt
are_newest site (draft ∷ drafts) set = (omega arith, are_newest site drafts (with_operation (next_operation site draft set) set))

-- one operation has so many new cells as it inserts characters
pub one_counted : (ops : List Operation) (op : Operation) → length ops ≡ 1 → op ≡ get_or ops 0 op → length (fresh_cells ops) ≡ length (inserted op)
one_counted [] op n e = absurd (cc n)
one_counted (o ∷ []) op n e =
    let m = length-append (fresh_by (stamp_of o) o.body) [] in
    let fresh = length_fresh (stamp_of o) o.body in
    let same : length (inserted o) ≡ length (inserted op) = ap (λ (x : Operation). length (inserted x)) (sym e) in
    let one = inserted_length (stamp_of o) o.body in
    omega (arith, m, fresh, same, one)
one_counted (o ∷ p ∷ ops) op n e = (let bad : ⊥ = omega (arith, n) in absurd bad)

pub fresh_counted : (site : ℕ) (drafts : List Body) (set : List Operation) → length (fresh_cells (operations_of site drafts set)) ≡ characters_in_all drafts
fresh_counted site [] set = refl
fresh_counted site (draft ∷ drafts) set =
    let op = next_operation site draft set in
    let n = length_fresh (stamp_of op) draft in
    let m = length-append (fresh_by (stamp_of op) draft) (fresh_cells (operations_of site drafts (with_operation op set))) in
    let i = fresh_counted site drafts (with_operation op set) in
    omega (arith, n, m, i)

pub rules_of : (site : ℕ) (drafts : List Edit) (set : List Operation) → MayBeMade site set (map body_of drafts) → All (λ draft. keeps_rules (body_of draft) ≡ true) drafts
rules_of site drafts set m = All-from_recursion (λ draft. keeps_rules (body_of draft) ≡ true) drafts (each drafts set m)
  where
    each : (drafts : List Edit) (set : List Operation) → MayBeMade site set (map body_of drafts) → AllByRecursion (λ draft. keeps_rules (body_of draft) ≡ true) drafts
    each [] set m = tt
    each (draft ∷ drafts) set m = (m.0, each drafts (with_operation (next_operation site (body_of draft) set) set) m.2)

-- drafts that are not refused are those of operations that can be made
spent_not : (spent full : Bool) → first_of (cond spent (Some ClockSpent) None ∷ cond full (Some TextFull) None ∷ []) ≡ None → (spent ≡ false) × (full ≡ false)
spent_not true full e = absurd (cc e)
spent_not false true e = absurd (cc e)
spent_not false false e = (refl, refl)

pub unrefused : (site limit : ℕ) (drafts : List Body) (log : List Operation) → MayBeMade site log drafts → refusal_of limit drafts log ≡ None
    → AreDraftsFor site log drafts × (length (cells_of log) + characters_in_all drafts ≤ limit)
unrefused site limit drafts log m e =
    let (spent, full) = spent_not (nat_lt GREATEST_COUNT (last_count_after (greatest_last_count log) drafts)) (nat_lt limit (length (cells_of log) + characters_in_all drafts)) e in
    (drafts_for site log drafts m (grind (arith, nat_tests, spent)), grind (arith, nat_tests, full))

-- what is asked of operations that are logged at once
pub record AreReady (limit : ℕ) (log ops : List Operation) : Type 0 where
  pub continues : ContinueInTurn log ops
  pub newest : AreNewest log ops
  pub room : length (cells_of log) + length (fresh_cells ops) ≤ limit

pub ready : (site limit : ℕ) (drafts : List Body) (log ops : List Operation) → 0 < site → MayBeMade site log drafts → refusal_of limit drafts log ≡ None → ops ≡ operations_of site drafts log → AreReady limit log ops
ready site limit drafts log ops p m r e =
    let (d, full) = unrefused site limit drafts log m r in
    let n = fresh_counted site drafts log in
    subst (AreReady limit log) (sym e) (record {
      continues = in_turn site drafts log p d;
      newest = are_newest site drafts log;
      room = omega (arith, full, n);
    })

pub made_of : (one site last prev : ℕ) (drafts : List Body) (log : List Operation) → one ≡ site → last ≡ greatest_last_count log → prev ≡ known_end log site
    → operations_from one last prev drafts ≡ operations_of site drafts log
made_of one site last prev drafts log s l p = (λ i. operations_from (s i) (l i) (p i) drafts) ∙ operations_are site drafts log

-- a request makes what a replica does
by_full : (full : Bool) (more set : List Operation) → cond (not full) more set ≡ unless_refused (first_of (cond full (Some TextFull) None ∷ [])) more set
by_full true more set = refl
by_full false more set = refl

pub as_requested : (site limit : ℕ) (drafts : List Body) (set : List Operation) → 0 < site → IsHistory set → MayBeMade site set drafts
    → made_within site limit drafts set ≡ unless_refused (refusal_of limit drafts set) (with_drafts site drafts set) set
as_requested site limit drafts set p h m =
    let more = with_drafts site drafts set in
    let last = last_count_after (greatest_last_count set) drafts in
    let full : Bool = nat_lt limit (length (cells_of set) + characters_in_all drafts) in
    split (nat_lt GREATEST_COUNT last)
    (λ spent. (
    let e : nat_le last GREATEST_COUNT ≡ false = grind (arith, nat_tests, spent) in
    ap (λ b. cond (b && nat_le (length (cells_of more)) limit) more set) e
    ∙ sym (ap (λ b. unless_refused (first_of (cond b (Some ClockSpent) None ∷ cond full (Some TextFull) None ∷ [])) more set) spent)))
    (λ fits. (
    let e : nat_le last GREATEST_COUNT ≡ true = grind (arith, nat_tests, fits) in
    let l = all_counted site drafts set p h (drafts_for site set drafts m (grind (arith, nat_tests, fits))) in
    let f : nat_le (length (cells_of more)) limit ≡ not full = grind (arith, nat_tests, l) in
    (λ i. cond (e i && f i) more set) ∙ by_full full more set
    ∙ sym (ap (λ b. unless_refused (first_of (cond b (Some ClockSpent) None ∷ cond full (Some TextFull) None ∷ [])) more set) fits)))
