-- What a replica tells of operations that it takes.
use Rattle.std.proofs.Common.{◌≡◌, ◌∙◌, ◌+◌, List, [], ◌∷◌, ◌++◌, ap, length, map, refl, sym}
use Rattle.rt_ops.specs.Operations.{Operation, stamp_of}
use Rattle.rt_oplog.specs.Logs.{with_operation}
use Rattle.rt_store.specs.Cells.{visible_of}
use Rattle.rt_store.specs.Shown.{TaggedCell}
use Rattle.rt_rga.specs.Cells.{cells_of}
use Rattle.rt_rga.specs.Drafts.{with_operations}
use Rattle.rt_rga.specs.Taken.{IsChange, retags, takes_away}
use Rattle.rt_rga.specs.declared.taken.Change.{Change}
use Rattle.rt_changes.proofs.Told.{known_runs, none_tagged, none_taken}
use Rattle.rt_holding.specs.Taken.{all_after}
use Rattle.rt_replica.specs.Told.{TellingValue, after_taken, as_told, told_in_turn, told_of}

-- what the code tells is what is to be told
pub told_is : (op : Operation) (cells : List TaggedCell) (change : Change) → IsChange op cells change → as_told change ≡ told_of op cells
told_is op cells change c =
    let n = length (visible_of cells) in
    let removed = known_runs (takes_away op.body cells) n n change.removed.items c.removed (none_taken op.body cells) c.runs in
    let retagged = known_runs (retags (stamp_of op) op.body cells) n (n + 1) change.retagged.items c.retagged (none_tagged (stamp_of op) op.body cells) c.tagged_runs in
    λ i. record { place = c.first i; inserted = c.more i; removed = removed i; retagged = retagged i; lists = c.lists i }

-- OPERATIONS IN TURN

pub map_append : {X Y : Type 0} (f : X → Y) (xs ys : List X) → map f (xs ++ ys) ≡ map f xs ++ map f ys
map_append f [] ys = refl
map_append f (x ∷ xs) ys = ap (λ l. f x ∷ l) (map_append f xs ys)

pub all_after_append : (ops more : List Operation) (t : TellingValue) → all_after after_taken (ops ++ more) t ≡ all_after after_taken more (all_after after_taken ops t)
all_after_append [] more t = refl
all_after_append (op ∷ ops) more t = all_after_append ops more (after_taken op t)

append_none : {X : Type 0} (xs : List X) → xs ++ [] ≡ xs
append_none [] = refl
append_none (x ∷ xs) = ap (λ ys. x ∷ ys) (append_none xs)

append_all : {X : Type 0} (xs ys zs : List X) → (xs ++ ys) ++ zs ≡ xs ++ (ys ++ zs)
append_all [] ys zs = refl
append_all (x ∷ xs) ys zs = ap (λ l. x ∷ l) (append_all xs ys zs)

pub all_told : (ops : List Operation) (t : TellingValue) → (all_after after_taken ops t).changes ≡ t.changes ++ told_in_turn ops t.log
all_told [] t = sym (append_none t.changes)
all_told (op ∷ ops) t = all_told ops (after_taken op t) ∙ append_all t.changes (told_of op (cells_of t.log) ∷ []) (told_in_turn ops (with_operation op t.log))

pub all_logged : (ops : List Operation) (t : TellingValue) → (all_after after_taken ops t).log ≡ with_operations ops t.log
all_logged [] t = refl
all_logged (op ∷ ops) t = all_logged ops (after_taken op t)

pub all_celled : (ops : List Operation) (t : TellingValue) → t.cells ≡ cells_of t.log → (all_after after_taken ops t).cells ≡ cells_of (all_after after_taken ops t).log
all_celled [] t c = c
all_celled (op ∷ ops) t c = all_celled ops (after_taken op t) refl

pub all_sited : (ops : List Operation) (t : TellingValue) → (all_after after_taken ops t).site ≡ t.site
all_sited [] t = refl
all_sited (op ∷ ops) t = all_sited ops (after_taken op t)

pub all_limited : (ops : List Operation) (t : TellingValue) → (all_after after_taken ops t).limit ≡ t.limit
all_limited [] t = refl
all_limited (op ∷ ops) t = all_limited ops (after_taken op t)
