use Rattle.std.proofs.Common.{◌≡◌, ℕ, ◌<◌, leb, false, rules, arith, sym}
use Rattle.std.proofs.lemmas.Bool.{leb-true}
use Rattle.std.proofs.lemmas.Bool.Decides.{nat_tests}
use Rattle.std.proofs.lemmas.List.Sorted.{IsPartitionPoint-from_clause, IsPartitionedBy-leb}
use Rattle.rt_tagcmd.specs.Elements.{Placed}
use Rattle.rt_tagcmd.proofs.Values.{Parts, next_stands, no_next}
use Rattle.rt_tagcmd.proofs.texts.next_place.Goals as goal

pub returns-in-Some : goal.returns-in-Some
returns-in-Some c =
    let es = c.args.others.now in
    let parted = IsPartitionedBy-leb (λ (e : Placed). e.place) es c.args.place c.requires.rise in
    let point = IsPartitionPoint-from_clause (λ (e : Placed). leb e.place c.args.place) es c.partition_point-next.result c.partition_point-next.ensures.partitioned parted (λ a r q k. search rules) in
    let parts : Parts c.args.place es c.partition_point-next.result = (λ k d h. leb-true _ _ (point.0 k d (omega arith) h), λ k d l h. above _ _ (point.1 k d l h)) in
    rw (c.min.ensures, c.place.ensures)
    (next_stands c.args.place c.args.end c.partition_point-next.result c.in-Some.other.now es c.requires.rise parts c.in-Some.ensures.lookup.3.0 (sym c.in-Some.ensures.lookup.1) c.requires.before)
  where
    above : (p q : ℕ) → leb p q ≡ false → q < p
    above p q h = grind (arith, nat_tests)

pub returns-in-None : goal.returns-in-None
returns-in-None c =
    let es = c.args.others.now in
    let parted = IsPartitionedBy-leb (λ (e : Placed). e.place) es c.args.place c.requires.rise in
    let point = IsPartitionPoint-from_clause (λ (e : Placed). leb e.place c.args.place) es c.partition_point-next.result c.partition_point-next.ensures.partitioned parted (λ a r q k. search rules) in
    let parts : Parts c.args.place es c.partition_point-next.result = (λ k d h. leb-true _ _ (point.0 k d (omega arith) h), λ k d l h. above _ _ (point.1 k d l h)) in
    no_next c.args.place c.args.end c.partition_point-next.result es parts c.in-None.ensures.lookup.3 c.requires.before
  where
    above : (p q : ℕ) → leb p q ≡ false → q < p
    above p q h = grind (arith, nat_tests)
