-- Drafts after drafts.
use Rattle.std.proofs.Common.{◌≡◌, ◌↔◌, ℕ, ◌+◌, List, [], ◌∷◌, ◌++◌, refl, ap, arith}
use Rattle.rt_ops.specs.Operations.{Operation, Body}
use Rattle.rt_oplog.specs.Logs.{with_operation}
use Rattle.rt_store.specs.Shown.{TaggedCell}
use Rattle.rt_rga.specs.Drafts.{all_changed, next_operation, operations_of, with_drafts}
use Rattle.rt_rga.specs.Requests.{MayBeMade, characters_in_all, last_count_after}

pub operations_append : (site : ℕ) (xs ys : List Body) (set : List Operation) → operations_of site (xs ++ ys) set ≡ operations_of site xs set ++ operations_of site ys (with_drafts site xs set)
operations_append site [] ys set = refl
operations_append site (x ∷ xs) ys set =
    let op = next_operation site x set in
    ap (λ ops. op ∷ ops) (operations_append site xs ys (with_operation op set))

pub drafts_append : (site : ℕ) (xs ys : List Body) (set : List Operation) → with_drafts site (xs ++ ys) set ≡ with_drafts site ys (with_drafts site xs set)
drafts_append site [] ys set = refl
drafts_append site (x ∷ xs) ys set = drafts_append site xs ys (with_operation (next_operation site x set) set)

pub changed_append : (site : ℕ) (xs ys : List Body) (set : List Operation) (cells : List TaggedCell)
    → all_changed (operations_of site (xs ++ ys) set) cells ≡ all_changed (operations_of site ys (with_drafts site xs set)) (all_changed (operations_of site xs set) cells)
changed_append site [] ys set cells = refl
changed_append site (x ∷ xs) ys set cells = changed_append site xs ys (with_operation (next_operation site x set) set) _

pub may_append : (site : ℕ) (xs ys : List Body) (set : List Operation) → MayBeMade site set xs → MayBeMade site (with_drafts site xs set) ys → MayBeMade site set (xs ++ ys)
may_append site [] ys set h k = k
may_append site (x ∷ xs) ys set h k = (h.0, h.1, may_append site xs ys (with_operation (next_operation site x set) set) h.2 k)

may_parts : (site : ℕ) (xs ys : List Body) (set : List Operation) → MayBeMade site set (xs ++ ys) → MayBeMade site set xs × MayBeMade site (with_drafts site xs set) ys
may_parts site [] ys set h = (tt, h)
may_parts site (x ∷ xs) ys set h = let p = may_parts site xs ys (with_operation (next_operation site x set) set) h.2 in ((h.0, h.1, p.0), p.1)

pub may_both : (site : ℕ) (xs ys : List Body) (set : List Operation) → MayBeMade site set (xs ++ ys) ↔ (MayBeMade site set xs × MayBeMade site (with_drafts site xs set) ys)
may_both site xs ys set = (may_parts site xs ys set, λ p. may_append site xs ys set p.0 p.1)

pub count_append : (xs ys : List Body) (count : ℕ) → last_count_after count (xs ++ ys) ≡ last_count_after (last_count_after count xs) ys
count_append [] ys count = refl
count_append (x ∷ xs) ys count = count_append xs ys _

pub characters_append : (xs ys : List Body) → characters_in_all (xs ++ ys) ≡ characters_in_all xs + characters_in_all ys
characters_append [] ys = omega arith
characters_append (x ∷ xs) ys = omega (arith, characters_append xs ys)
