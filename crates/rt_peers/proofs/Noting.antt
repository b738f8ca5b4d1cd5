-- What a site tells of its own operations.
use Rattle.std.proofs.Common.{◌≡◌, ◌∙◌, ◌++◌, ◌+◌, ◌<◌, ◌≤◌, ℕ, suc, List, [], ◌∷◌, Some, ap, append_assoc, arith, drop, get_or, length, map, refl, reverse, subst, sym, take}
use Rattle.std.specs.Prelude.{slice_get}
use Rattle.std.proofs.lemmas.List.{append-nil, drop_all, drop_at, drop_more, length-append, length-drop, length-reverse, map-append, reverse-append, take-append-drop}
use Rattle.rt_ops.specs.Operations.{Body, Operation}
use Rattle.rt_oplog.specs.Logs.{with_operation}
use Rattle.rt_rga.specs.Cells.{cells_of}
use Rattle.rt_rga.specs.Drafts.{next_operation, operations_of, with_drafts}
use Rattle.rt_rga.specs.Histories.{IsHistory}
use Rattle.rt_rga.specs.Taken.{IsChange}
use Rattle.rt_rga.specs.declared.taken.Change.{Change}
use Rattle.rt_rga.proofs.Drafting.{newest}
use Rattle.rt_changes.specs.declared.change.ToldChange.{ToldChange}
use Rattle.rt_changes.specs.declared.change.ToTell.{ToTell}
use Rattle.rt_changes.specs.Replays.{VisibleChange, changes_of}
use Rattle.rt_changes.specs.Telling.{IsToTell, changes_in, placed}
use Rattle.rt_changes.proofs.Telling.{placed_changes}
use Rattle.rt_holding.specs.Taken.{site_holding}
use Rattle.rt_holding.proofs.Settling.{taken_in_turn}
use Rattle.rt_recording.specs.EditedValue.{EditedValue}
use Rattle.rt_peers.specs.SiteStep.{TextTries, text_limit, text_log}
use Rattle.rt_rga.specs.Noted.{AreOfNewest}
use Rattle.rt_peers.specs.Telling.{AreToldInTurn, changes_each, each_change}
use Rattle.rt_peers.proofs.Making.{continue_made, operations_longer}

-- THE NEWEST OPERATIONS OF A LOG

pub each_many : (log : List Operation) → length (each_change log) ≡ length log
each_many [] = refl
each_many (op ∷ log) = ap suc (each_many log)

-- what the operations of drafts change stands behind what the others do
each_drafted : (site : ℕ) (drafts : List Body) (set : List Operation)
    → reverse (each_change (with_drafts site drafts set)) ≡ reverse (each_change set) ++ changes_each (operations_of site drafts set) set
each_drafted site [] set = sym (append-nil (reverse (each_change set)))
each_drafted site (draft ∷ drafts) set =
    let op = next_operation site draft set in
    let more = with_operation op set in
    let front : more ≡ op ∷ set = newest op set (omega arith) in
    each_drafted site drafts more
    ∙ ap (λ (l : List Operation). reverse (each_change l) ++ changes_each (operations_of site drafts more) more) front
    ∙ ap (λ (l : List (List VisibleChange)). l ++ changes_each (operations_of site drafts more) more)
    (reverse-append (changes_of op (cells_of set) ∷ []) (each_change set))
    ∙ append_assoc (reverse (each_change set)) (changes_of op (cells_of set) ∷ []) (changes_each (operations_of site drafts more) more)

pub told_drafted : (site : ℕ) (drafts : List Body) (set : List Operation)
    → drop (length set) (reverse (each_change (with_drafts site drafts set))) ≡ changes_each (operations_of site drafts set) set
told_drafted site drafts set =
    ap (drop (length set)) (each_drafted site drafts set)
    ∙ drop_at (reverse (each_change set)) (changes_each (operations_of site drafts set) set) (length set)
    (length-reverse (each_change set) ∙ each_many set)

-- ONE OF THEM

-- a change of operations of a log, and the operation that it is of: so many are newer than that one
record IsOf (change : Change) (newer : ℕ) (log : List Operation) : Type 0 where
  pub front : List Operation
  pub op : Operation
  pub older : List Operation
  pub is : log ≡ front ++ op ∷ older
  pub many : length front ≡ newer
  pub change_is : IsChange op (cells_of older) change

one_of : (newer : List Change) (change : Change) (rest : List Change) (log : List Operation) → AreOfNewest (newer ++ change ∷ rest) log
    → IsOf change (length newer) log
one_of [] change rest [] h = absurd h
one_of [] change rest (op ∷ log) h = record { front = []; op = op; older = log; is = refl; many = refl; change_is = h.0 }
one_of (c ∷ newer) change rest [] h = absurd h
one_of (c ∷ newer) change rest (op ∷ log) h =
    let r = one_of newer change rest log h.1 in
    record { front = op ∷ r.front; op = r.op; older = r.older; is = ap (λ (l : List Operation). op ∷ l) r.is; many = ap suc r.many; change_is = r.change_is }

-- BEHIND A FRONT

got_behind : {X : Type 0} (xs : List X) (x : X) (ys : List X) (n : ℕ) → length xs ≡ n → slice_get (xs ++ x ∷ ys) n ≡ Some x
got_behind xs x ys n e = subst (λ (k : ℕ). slice_get (xs ++ x ∷ ys) k ≡ Some x) e (at_end xs)
  where
    at_end : (xs : List _) → slice_get (xs ++ x ∷ ys) (length xs) ≡ Some x
    at_end [] = refl
    at_end (y ∷ xs) = at_end xs

drop_behind : {X : Type 0} (xs : List X) (x : X) (ys : List X) (n : ℕ) → length xs ≡ n → drop n (xs ++ x ∷ ys) ≡ x ∷ drop (n + 1) (xs ++ x ∷ ys)
drop_behind xs x ys n e =
    drop_at xs (x ∷ ys) n e
    ∙ ap (λ (l : List _). x ∷ l) (sym (drop_at (xs ++ x ∷ []) ys (n + 1) (length-append xs (x ∷ []) ∙ omega (arith, e))) ∙ ap (drop (n + 1)) (append_assoc xs (x ∷ []) ys))

reversed_around : {X : Type 0} (front : List X) (x : X) (behind : List X) → reverse (front ++ x ∷ behind) ≡ reverse behind ++ x ∷ reverse front
reversed_around front x behind =
    reverse-append front (x ∷ behind) ∙ ap (λ (l : List _). l ++ reverse front) (reverse-append (x ∷ []) behind)
    ∙ append_assoc (reverse behind) (x ∷ []) (reverse front)

-- what older operations change comes first, and then what further ones do
record HasBehind (log more : List Operation) : Type 0 where
  pub behind : List (List VisibleChange)
  pub is : reverse (each_change more) ≡ reverse (each_change log) ++ behind

each_behind : (front log : List Operation) → HasBehind log (front ++ log)
each_behind [] log = record { behind = []; is = sym (append-nil (reverse (each_change log))) }
each_behind (op ∷ front) log =
    let r = each_behind front log in
    let one = changes_of op (cells_of (front ++ log)) ∷ [] in
    record {
      behind = r.behind ++ one;
      is = reverse-append one (each_change (front ++ log)) ∙ ap (λ (l : List (List VisibleChange)). l ++ one) r.is ∙ append_assoc (reverse (each_change log)) r.behind one;
    }

-- THE CHANGE OF AN OPERATION

-- An operation of a log stands at a place, and a change is its own: what it changed comes behind what those before it changed.
pub record IsOwnAt (log : List Operation) (place : ℕ) (op : Operation) (change : Change) : Type 0 where
  pub older : List Operation
  pub change_is : IsChange op (cells_of older) change
  pub left : drop place (reverse (each_change log)) ≡ changes_of op (cells_of older) ∷ drop (place + 1) (reverse (each_change log))

own_at : (log : List Operation) (newer place : ℕ) (op : Operation) (change : Change) → IsOf change newer log → length log ≡ place + 1 + newer
    → slice_get (reverse log) place ≡ Some op → IsOwnAt log place op change
own_at log newer place op change r many found =
    let all = ap length r.is ∙ length-append r.front (r.op ∷ r.older) in
    let older : length r.older ≡ place = omega (arith, all, many, r.many) in
    let stands : slice_get (reverse log) place ≡ Some r.op =
    ap (λ (l : List Operation). slice_get l place) (ap reverse r.is ∙ reversed_around r.front r.op r.older)
    ∙ got_behind (reverse r.older) r.op (reverse r.front) place (length-reverse r.older ∙ older) in
    let same : r.op ≡ op = cc (stands, found) in
    let one = changes_of r.op (cells_of r.older) in
    let b = each_behind r.front (r.op ∷ r.older) in
    let all_told : reverse (each_change log) ≡ reverse (each_change r.older) ++ one ∷ b.behind =
    ap (λ (l : List Operation). reverse (each_change l)) r.is ∙ b.is
    ∙ ap (λ (l : List (List VisibleChange)). l ++ b.behind) (reverse-append (one ∷ []) (each_change r.older)) ∙ append_assoc (reverse (each_change r.older)) (one ∷ []) b.behind in
    let left : drop place (reverse (each_change log)) ≡ one ∷ drop (place + 1) (reverse (each_change log)) =
    ap (drop place) all_told
    ∙ drop_behind (reverse (each_change r.older)) one b.behind place (length-reverse (each_change r.older) ∙ each_many r.older ∙ older)
    ∙ ap (λ (l : List (List VisibleChange)). one ∷ drop (place + 1) l) (sym all_told) in
    record {
      older = r.older;
      change_is = subst (λ (o : Operation). IsChange o (cells_of r.older) change) same r.change_is;
      left = subst (λ (o : Operation). drop place (reverse (each_change log)) ≡ changes_of o (cells_of r.older) ∷ drop (place + 1) (reverse (each_change log))) same left;
    }

-- the change at an index is that of the operation at its place
pub own_change : (log : List Operation) (changes : List Change) (from i : ℕ) (op : Operation) (change : Change) → from + length changes ≡ length log
    → AreOfNewest (reverse changes) log → i < length changes → change ≡ get_or changes i change → slice_get (reverse log) (from + i) ≡ Some op
    → IsOwnAt log (from + i) op change
own_change log changes from i op change many h lt is found =
    let front = take i changes in
    let behind = drop (i + 1) changes in
    let around : changes ≡ front ++ change ∷ behind =
    sym (take-append-drop i changes) ∙ ap (λ (l : List Change). front ++ l) (drop_more changes i change lt) ∙ ap (λ (c : Change). front ++ c ∷ behind) (sym is) in
    let newer = length (reverse behind) in
    let count = length-reverse behind ∙ length-drop (i + 1) changes in
    own_at log newer (from + i) op change
    (one_of (reverse behind) change (reverse front) log (subst (λ (l : List Change). AreOfNewest l log) (ap reverse around ∙ reversed_around front change behind) h))
    (omega (arith, many, count, lt)) found

-- one more is told
pub one_more_own : (log : List Operation) (from place : ℕ) (op : Operation) (change : Change) (t : ToTell) (told new : List ToldChange) (one : ToldChange)
    → IsOwnAt log place op change → IsToTell op.body t → changes_in one ≡ placed t change → new ≡ told ++ one ∷ []
    → map changes_in told ++ drop place (reverse (each_change log)) ≡ drop from (reverse (each_change log))
    → map changes_in new ++ drop (place + 1) (reverse (each_change log)) ≡ drop from (reverse (each_change log))
one_more_own log from place op change t told new one own to_tell is pushed before =
    let left = drop (place + 1) (reverse (each_change log)) in
    let same : changes_in one ≡ changes_of op (cells_of own.older) = is ∙ placed_changes op (cells_of own.older) t change to_tell own.change_is in
    ap (λ (l : List ToldChange). map changes_in l ++ left) pushed
    ∙ ap (λ (l : List (List VisibleChange)). l ++ left) (map-append changes_in told (one ∷ []))
    ∙ append_assoc (map changes_in told) (changes_in one ∷ []) left
    ∙ ap (λ (c : List VisibleChange). map changes_in told ++ c ∷ left) same
    ∙ ap (λ (l : List (List VisibleChange)). map changes_in told ++ l) (sym own.left)
    ∙ before

-- all are told
pub all_own : (log : List Operation) (from place : ℕ) (told : List ToldChange) → length log ≤ place
    → map changes_in told ++ drop place (reverse (each_change log)) ≡ drop from (reverse (each_change log))
    → map changes_in told ≡ drop from (reverse (each_change log))
all_own log from place told h e =
    sym (append-nil (map changes_in told))
    ∙ ap (λ (l : List (List VisibleChange)). map changes_in told ++ l)
    (sym (drop_all place (reverse (each_change log)) (let n = length-reverse (each_change log) ∙ each_many log in omega (arith, n, h))))
    ∙ e

-- ALL OF THEM

-- A site made operations of drafts; told is what the newest ones changed, as many as there are more.
pub own_in_turn : (site : ℕ) (drafts : List Body) (old new : List Operation) (told : List (List VisibleChange)) → new ≡ with_drafts site drafts old
    → IsHistory new → told ≡ drop (length old) (reverse (each_change new)) → AreToldInTurn old new told
own_in_turn site drafts old new told made h e = record {
  ops = operations_of site drafts old;
  turn = continue_made site drafts old (subst IsHistory made h);
  taken = made;
  each = e ∙ ap (λ (l : List Operation). drop (length old) (reverse (each_change l))) made ∙ told_drafted site drafts old;
}

-- where there are no further ones
pub none_left : (log : List Operation) (from : ℕ) → length log ≤ from → drop from (reverse (each_change log)) ≡ []
none_left log from h = drop_all from (reverse (each_change log)) (let n = length-reverse (each_change log) ∙ each_many log in omega (arith, n, h))

-- HELD OPERATIONS THAT ARE TRIED

-- the log gets no shorter by those that are taken
pub no_shorter : (old : EditedValue) (held : List Operation) (new : EditedValue) (left : List Operation) → TextTries old held new left
    → length (text_log old) ≤ length (text_log new)
no_shorter old held new left h =
    let log = (taken_in_turn (text_limit old) [] h.1.more (site_holding text_log old held) (site_holding text_log new left) h.1.settles).0 in
    let more = operations_longer h.1.more (text_log old) in
    omega (arith, ap length log, more)
