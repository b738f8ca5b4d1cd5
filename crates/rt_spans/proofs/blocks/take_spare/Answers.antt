use Rattle.std.proofs.Common.{◌≡◌, ◌++◌, ◌∷◌, List, [], subst}
use Rattle.std.specs.List.{AllByRecursion}
use Rattle.std.specs.declared.alloc.Global.{Global}
use Rattle.std.specs.declared.vec.Vec.{Vec}
use Rattle.rt_spans.specs.declared.entry.SpanEntry.{SpanEntry}
use Rattle.rt_spans.specs.Blocks.{IsSpare}
use Rattle.rt_spans.proofs.blocks.take_spare.Goals as goal

with_last : {X : Type 0} (P : X → Type 0) (xs : List X) (x : X) → AllByRecursion P (xs ++ x ∷ []) → AllByRecursion P xs × P x
with_last P [] x h = (tt, h.0)
with_last P (y ∷ xs) x h = let more = with_last P xs x h.1 in ((h.0, more.0), more.1)

spare_taken : {V : Type 0} (old now : List (Vec (SpanEntry V) Global)) (rest : Vec (SpanEntry V) Global) → AllByRecursion IsSpare old → old ≡ now ++ rest ∷ [] → AllByRecursion IsSpare now × IsSpare rest
spare_taken {V} old now rest h e = with_last IsSpare now rest (subst (λ v. AllByRecursion (IsSpare {V = V}) v) e h)

pub returns-clause-empty : goal.returns-clause-empty
returns-clause-empty g c =
    (spare_taken c.args.spare.now.items c.pop.new.self.items c.unwrap.result c.requires.spares (rw c.unwrap.ensures at c.pop.ensures.items)).1.0

pub returns-clause-room : goal.returns-clause-room
returns-clause-room g c =
    (spare_taken c.args.spare.now.items c.pop.new.self.items c.unwrap.result c.requires.spares (rw c.unwrap.ensures at c.pop.ensures.items)).1.1

pub returns-clause-spares : goal.returns-clause-spares
returns-clause-spares g c =
    (spare_taken c.args.spare.now.items c.pop.new.self.items c.unwrap.result c.requires.spares (rw c.unwrap.ensures at c.pop.ensures.items)).0
