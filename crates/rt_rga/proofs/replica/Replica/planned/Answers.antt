use Rattle.std.proofs.Common.{◌≡◌, ◌∙◌, ℕ, List, Option, ap, arith, length, map, subst, sym, ◌+◌, ◌≤◌}
use Rattle.std.specs.Prelude.{Err, OnOk, IfOk, Ok, Result}
use Rattle.std.proofs.lemmas.List.{length-map}
use Rattle.std.proofs.lemmas.Result.{IfErr-weaker, IfOk-weaker}
use Rattle.rt_ops.specs.Edits.{body_of}
use Rattle.rt_oplog.specs.Logs.{known_end}
use Rattle.rt_ops.specs.Operations.{Body, Operation}
use Rattle.rt_store.specs.declared.cell.Cell.{Cell}
use Rattle.rt_store.specs.Shown.{shown, TaggedCell}
use Rattle.rt_rga.specs.Cells.{cells_of}
use Rattle.rt_rga.specs.OneOrMany.{items_in}
use Rattle.rt_rga.specs.Histories.{greatest_last_count}
use Rattle.rt_rga.specs.Kept.{ReplicaValue}
use Rattle.rt_rga.specs.Made.{RefusesFor, refusal_from, refusal_of}
use Rattle.rt_rga.specs.Making.{AreNewest, fresh_cells}
use Rattle.rt_rga.specs.Drafts.{ContinueInTurn}
use Rattle.rt_rga.proofs.Making.{made_of, ready, rules_of}
use Rattle.rt_stamps.specs.declared.fault.Fault.{Fault}
use Rattle.rt_rga.proofs.replica.Replica.planned.Goals as goal

-- what an answer is said to be, with what is known because there is one
if_made : {A E : Type 0} (r : Result A E) (C : Type 0) (P Q : A → Type 0) → (C → (x : A) → P x → Q x) → OnOk r C → IfOk r P → IfOk r Q
if_made (Ok x) C P Q f k h = f k x h
if_made (Err y) C P Q f k h = tt

pub prepared-requires-clause-rules : goal.prepared-requires-clause-rules
prepared-requires-clause-rules g c = rules_of c.args.self.now.site (items_in c.args.drafts) c.args.self.now.log c.requires

pub returns-clause-made : goal.returns-clause-made
returns-clause-made g c =
    let v = c.self.inside in
    let now = c.args.self.now in
    let bodies : List Body = map body_of (items_in c.args.drafts) in
    let seen : v.log.operations ≡ now.log = ap (λ (a : ReplicaValue). a.log) c.self.view_is in
    let site : c.number-site.result ≡ now.site = c.number-site.ensures.value ∙ ap (λ (a : ReplicaValue). a.site) c.self.view_is in
    let last : c.seen.result ≡ greatest_last_count now.log = c.seen.ensures.value ∙ c.self.invariant.within.seen ∙ ap greatest_last_count seen in
    let prev : c.known.result ≡ known_end now.log now.site = c.known.ensures ∙ (λ i. known_end (seen i) (site i)) in
    IfOk-weaker c.prepared.result _ _
    (λ ops h. h ∙ made_of c.number-site.result now.site c.seen.result c.known.result bodies now.log site last prev)
    c.prepared.ensures.ops

pub returns-clause-continues : goal.returns-clause-continues
returns-clause-continues g c =
    let v = c.self.inside in
    let now = c.args.self.now in
    let kept : List (Cell ℕ) = g.S.TextStore.list v.store in
    let bodies : List Body = map body_of (items_in c.args.drafts) in
    let seen : v.log.operations ≡ now.log = ap (λ (a : ReplicaValue). a.log) c.self.view_is in
    let site : c.number-site.result ≡ now.site = c.number-site.ensures.value ∙ ap (λ (a : ReplicaValue). a.site) c.self.view_is in
    let last : c.seen.result ≡ greatest_last_count now.log = c.seen.ensures.value ∙ c.self.invariant.within.seen ∙ ap greatest_last_count seen in
    let prev : c.known.result ≡ known_end now.log now.site = c.known.ensures ∙ (λ i. known_end (seen i) (site i)) in
    let cells : c.cells.result ≡ length (cells_of now.log) = c.cells.ensures ∙ sym (length-map kept (shown v.states)) ∙ ap length c.self.invariant.within.replica.cells ∙ ap (λ (ops : List Operation). length (cells_of ops)) seen in
    let limit : v.limit ≡ now.limit = ap (λ (a : ReplicaValue). a.limit) c.self.view_is in
    let told : refusal_from c.seen.result c.cells.result v.limit bodies ≡ refusal_of now.limit bodies now.log = λ i. refusal_from (last i) (cells i) (limit i) bodies in
    if_made c.prepared.result _ _ (λ ops. ContinueInTurn now.log (items_in ops))
    (λ fits ops h. (ready now.site now.limit bodies now.log (items_in ops) (omega (arith, site, c.number-site.ensures.positive)) c.requires (sym told ∙ fits)
    (h ∙ made_of c.number-site.result now.site c.seen.result c.known.result bodies now.log site last prev)).continues)
    c.prepared.ensures.fits c.prepared.ensures.ops

pub returns-clause-newest : goal.returns-clause-newest
returns-clause-newest g c =
    let v = c.self.inside in
    let now = c.args.self.now in
    let kept : List (Cell ℕ) = g.S.TextStore.list v.store in
    let bodies : List Body = map body_of (items_in c.args.drafts) in
    let seen : v.log.operations ≡ now.log = ap (λ (a : ReplicaValue). a.log) c.self.view_is in
    let site : c.number-site.result ≡ now.site = c.number-site.ensures.value ∙ ap (λ (a : ReplicaValue). a.site) c.self.view_is in
    let last : c.seen.result ≡ greatest_last_count now.log = c.seen.ensures.value ∙ c.self.invariant.within.seen ∙ ap greatest_last_count seen in
    let prev : c.known.result ≡ known_end now.log now.site = c.known.ensures ∙ (λ i. known_end (seen i) (site i)) in
    let cells : c.cells.result ≡ length (cells_of now.log) = c.cells.ensures ∙ sym (length-map kept (shown v.states)) ∙ ap length c.self.invariant.within.replica.cells ∙ ap (λ (ops : List Operation). length (cells_of ops)) seen in
    let limit : v.limit ≡ now.limit = ap (λ (a : ReplicaValue). a.limit) c.self.view_is in
    let told : refusal_from c.seen.result c.cells.result v.limit bodies ≡ refusal_of now.limit bodies now.log = λ i. refusal_from (last i) (cells i) (limit i) bodies in
    if_made c.prepared.result _ _ (λ ops. AreNewest now.log (items_in ops))
    (λ fits ops h. (ready now.site now.limit bodies now.log (items_in ops) (omega (arith, site, c.number-site.ensures.positive)) c.requires (sym told ∙ fits)
    (h ∙ made_of c.number-site.result now.site c.seen.result c.known.result bodies now.log site last prev)).newest)
    c.prepared.ensures.fits c.prepared.ensures.ops

pub returns-clause-room : goal.returns-clause-room
returns-clause-room g c =
    let v = c.self.inside in
    let now = c.args.self.now in
    let kept : List (Cell ℕ) = g.S.TextStore.list v.store in
    let bodies : List Body = map body_of (items_in c.args.drafts) in
    let seen : v.log.operations ≡ now.log = ap (λ (a : ReplicaValue). a.log) c.self.view_is in
    let site : c.number-site.result ≡ now.site = c.number-site.ensures.value ∙ ap (λ (a : ReplicaValue). a.site) c.self.view_is in
    let last : c.seen.result ≡ greatest_last_count now.log = c.seen.ensures.value ∙ c.self.invariant.within.seen ∙ ap greatest_last_count seen in
    let prev : c.known.result ≡ known_end now.log now.site = c.known.ensures ∙ (λ i. known_end (seen i) (site i)) in
    let cells : c.cells.result ≡ length (cells_of now.log) = c.cells.ensures ∙ sym (length-map kept (shown v.states)) ∙ ap length c.self.invariant.within.replica.cells ∙ ap (λ (ops : List Operation). length (cells_of ops)) seen in
    let limit : v.limit ≡ now.limit = ap (λ (a : ReplicaValue). a.limit) c.self.view_is in
    let told : refusal_from c.seen.result c.cells.result v.limit bodies ≡ refusal_of now.limit bodies now.log = λ i. refusal_from (last i) (cells i) (limit i) bodies in
    let many : length now.cells ≡ length (cells_of now.log) = sym (ap (λ (a : ReplicaValue). length a.cells) c.self.view_is) ∙ ap (λ (xs : List TaggedCell). length xs) c.self.invariant.within.replica.cells ∙ ap (λ (ops : List Operation). length (cells_of ops)) seen in
    if_made c.prepared.result _ _ (λ ops. length now.cells + length (fresh_cells (items_in ops)) ≤ now.limit)
    (λ fits ops h.
    let room = (ready now.site now.limit bodies now.log (items_in ops) (omega (arith, site, c.number-site.ensures.positive)) c.requires (sym told ∙ fits)
    (h ∙ made_of c.number-site.result now.site c.seen.result c.known.result bodies now.log site last prev)).room in
    omega (arith, room, many))
    c.prepared.ensures.fits c.prepared.ensures.ops

pub returns-clause-fits : goal.returns-clause-fits
returns-clause-fits g c =
    let v = c.self.inside in
    let now = c.args.self.now in
    let kept : List (Cell ℕ) = g.S.TextStore.list v.store in
    let bodies : List Body = map body_of (items_in c.args.drafts) in
    let seen : v.log.operations ≡ now.log = ap (λ (a : ReplicaValue). a.log) c.self.view_is in
    let last : c.seen.result ≡ greatest_last_count now.log = c.seen.ensures.value ∙ c.self.invariant.within.seen ∙ ap greatest_last_count seen in
    let cells : c.cells.result ≡ length (cells_of now.log) = c.cells.ensures ∙ sym (length-map kept (shown v.states)) ∙ ap length c.self.invariant.within.replica.cells ∙ ap (λ (ops : List Operation). length (cells_of ops)) seen in
    let limit : v.limit ≡ now.limit = ap (λ (a : ReplicaValue). a.limit) c.self.view_is in
    let told : refusal_from c.seen.result c.cells.result v.limit bodies ≡ refusal_of now.limit bodies now.log = λ i. refusal_from (last i) (cells i) (limit i) bodies in
    IfOk-weaker c.prepared.result _ _ (λ ops h. sym told ∙ h) c.prepared.ensures.fits

pub returns-clause-refused : goal.returns-clause-refused
returns-clause-refused g c =
    let v = c.self.inside in
    let now = c.args.self.now in
    let kept : List (Cell ℕ) = g.S.TextStore.list v.store in
    let bodies : List Body = map body_of (items_in c.args.drafts) in
    let seen : v.log.operations ≡ now.log = ap (λ (a : ReplicaValue). a.log) c.self.view_is in
    let last : c.seen.result ≡ greatest_last_count now.log = c.seen.ensures.value ∙ c.self.invariant.within.seen ∙ ap greatest_last_count seen in
    let cells : c.cells.result ≡ length (cells_of now.log) = c.cells.ensures ∙ sym (length-map kept (shown v.states)) ∙ ap length c.self.invariant.within.replica.cells ∙ ap (λ (ops : List Operation). length (cells_of ops)) seen in
    let limit : v.limit ≡ now.limit = ap (λ (a : ReplicaValue). a.limit) c.self.view_is in
    let told : refusal_from c.seen.result c.cells.result v.limit bodies ≡ refusal_of now.limit bodies now.log = λ i. refusal_from (last i) (cells i) (limit i) bodies in
    IfErr-weaker c.prepared.result _ _
    (λ fault. subst (λ (o : Option Fault). RefusesFor o fault) told)
    c.prepared.ensures.refused
