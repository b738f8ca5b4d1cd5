use Rattle.std.proofs.Common.{◌≡◌, ◌∙◌, ◌+◌, ◌<◌, ◌≤◌, ℕ, List, ap, arith, length, sym}
use Rattle.std.proofs.lemmas.List.{length-map}
use Rattle.rt_ops.specs.Operations.{Operation}
use Rattle.rt_stamps.specs.declared.limits.TheConstants.{GREATEST_COUNT}
use Rattle.rt_store.specs.declared.cell.Cell.{Cell}
use Rattle.rt_store.specs.Shown.{shown, TaggedCell}
use Rattle.rt_rga.specs.Cells.{cells_of}
use Rattle.rt_rga.specs.Histories.{greatest_last_count}
use Rattle.rt_rga.specs.Kept.{ReplicaValue}
use Rattle.rt_rga.proofs.Typing.{fits, full, spent}
use Rattle.rt_rga.proofs.replica.Replica.stamp_of_character.Goals as goal

pub returns-then-last-ge-GREATEST_COUNT : goal.returns-then-last-ge-GREATEST_COUNT
returns-then-last-ge-GREATEST_COUNT g c =
    let now = c.args.self.now in
    let seen : c.self.inside.log.operations ≡ now.log = ap (λ (a : ReplicaValue). a.log) c.self.view_is in
    let last : c.seen-last.result ≡ greatest_last_count now.log = c.seen-last.ensures.value ∙ c.self.invariant.within.seen ∙ ap greatest_last_count seen in
    let none : GREATEST_COUNT ≤ greatest_last_count now.log = omega (arith, last, c.if-last-ge-GREATEST_COUNT.true) in
    record { stamp = tt; positive = tt; fits = tt; refused = λ after character. spent now.limit after character now.log none; room = tt }

pub returns-then-cells-self : goal.returns-then-cells-self
returns-then-cells-self g c =
    let v = c.self.inside in
    let now = c.args.self.now in
    let kept : List (Cell ℕ) = g.S.TextStore.list v.store in
    let seen : v.log.operations ≡ now.log = ap (λ (a : ReplicaValue). a.log) c.self.view_is in
    let last : c.seen-last.result ≡ greatest_last_count now.log = c.seen-last.ensures.value ∙ c.self.invariant.within.seen ∙ ap greatest_last_count seen in
    let cells : c.cells.result ≡ length (cells_of now.log) = c.cells.ensures ∙ sym (length-map kept (shown v.states)) ∙ ap length c.self.invariant.within.replica.cells ∙ ap (λ (ops : List Operation). length (cells_of ops)) seen in
    let limit : v.limit ≡ now.limit = ap (λ (a : ReplicaValue). a.limit) c.self.view_is in
    let left : greatest_last_count now.log < GREATEST_COUNT = omega (arith, last, c.if-last-ge-GREATEST_COUNT.false) in
    let none : now.limit ≤ length (cells_of now.log) = omega (arith, cells, limit, c.if-cells-self.true) in
    record { stamp = tt; positive = tt; fits = tt; refused = λ after character. full now.limit after character now.log left none; room = tt }

pub returns : goal.returns
returns g c =
    let v = c.self.inside in
    let now = c.args.self.now in
    let kept : List (Cell ℕ) = g.S.TextStore.list v.store in
    let seen : v.log.operations ≡ now.log = ap (λ (a : ReplicaValue). a.log) c.self.view_is in
    let last : c.seen-last.result ≡ greatest_last_count now.log = c.seen-last.ensures.value ∙ c.self.invariant.within.seen ∙ ap greatest_last_count seen in
    let cells : c.cells.result ≡ length (cells_of now.log) = c.cells.ensures ∙ sym (length-map kept (shown v.states)) ∙ ap length c.self.invariant.within.replica.cells ∙ ap (λ (ops : List Operation). length (cells_of ops)) seen in
    let limit : v.limit ≡ now.limit = ap (λ (a : ReplicaValue). a.limit) c.self.view_is in
    let site : c.number.result ≡ now.site = c.number.ensures.value ∙ ap (λ (a : ReplicaValue). a.site) c.self.view_is in
    let left : greatest_last_count now.log < GREATEST_COUNT = omega (arith, last, c.if-last-ge-GREATEST_COUNT.false) in
    let space : length (cells_of now.log) < now.limit = omega (arith, cells, limit, c.if-cells-self.false) in
    let many : length now.cells ≡ length (cells_of now.log) = sym (ap (λ (a : ReplicaValue). length a.cells) c.self.view_is) ∙ ap (λ (xs : List TaggedCell). length xs) c.self.invariant.within.replica.cells ∙ ap (λ (ops : List Operation). length (cells_of ops)) seen in
    record {
      stamp = λ i. record { count = last i + 1; site = site i };
      positive = omega (arith, site, c.number.ensures.positive);
      fits = λ after character. fits now.limit after character now.log left space;
      refused = tt;
      room = omega (arith, space, many);
    }
