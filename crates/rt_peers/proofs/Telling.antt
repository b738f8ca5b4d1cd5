-- What a text tells that receives a file, or tries what is held.
use Rattle.std.proofs.Common.{◌≡◌, ◌∙◌, ◌++◌, ℕ, List, [], ◌∷◌, ap, append_assoc, inl, inr, map, refl, subst, sym, true}
use Rattle.rt_ops.specs.Operations.{Operation}
use Rattle.rt_ops.specs.Rules.{keeps_rules}
use Rattle.rt_oplog.specs.Logs.{HasOp, with_operation}
use Rattle.rt_rga.specs.Cells.{cells_of}
use Rattle.rt_rga.specs.Drafts.{ContinueInTurn, with_operations}
use Rattle.rt_rga.specs.Histories.{IsHistory}
use Rattle.rt_rga.specs.Texts.{tagged_text}
use Rattle.rt_rga.proofs.Histories.{history_with}
use Rattle.rt_rga.proofs.Orders.{rules_in}
use Rattle.rt_rga.proofs.Within.{continues_new}
use Rattle.rt_store.specs.Shown.{TaggedCell}
use Rattle.rt_changes.specs.declared.change.ToldChange.{ToldChange}
use Rattle.rt_changes.specs.Replays.{AreInText, VisibleChange, changes_in_turn, changes_of, replayed}
use Rattle.rt_changes.specs.Telling.{all_changes_in, changes_in}
use Rattle.rt_changes.proofs.Telling.{taken_exact, taken_replay, taken_within}
use Rattle.rt_holding.specs.declared.receiving.Received.{Received}
use Rattle.rt_holding.specs.Receiving.{Receives, State as Holder}
use Rattle.rt_holding.specs.Runs.{AreTakenInTurn}
use Rattle.rt_holding.specs.Seeing.{BecameByTaking}
use Rattle.rt_holding.specs.Taken.{AreTried, all_after, site_holding}
use Rattle.rt_holding.proofs.Keeping.{with_all}
use Rattle.rt_holding.proofs.Seen.{files_seen, files_taken}
use Rattle.rt_holding.proofs.Settling.{taken_in_turn}
use Rattle.rt_recording.specs.EditedValue.{EditedValue}
use Rattle.rt_recording.specs.Edits.{text_with_new}
use Rattle.rt_peers.specs.declared.text.telling.TellingText.{TellingText}
use Rattle.rt_peers.specs.SiteStep.{text_limit, text_log}
use Rattle.rt_peers.specs.Telling.{AreToldBetween, AreToldInTurn, AreToldOf, HasToldMore, changes_each, telling_with_new}

abbrev text_in : TellingText → EditedValue
text_in t = t.text.now

abbrev told_in : TellingText → List (List VisibleChange)
told_in t = t.told.now

abbrev log_in : TellingText → List Operation
log_in t = text_log t.text.now

abbrev limit_in : TellingText → ℕ
limit_in t = text_limit t.text.now

abbrev seen : Holder TellingText → Holder EditedValue
seen s = record { site = s.site.text.now; held = s.held }

append_none : {X : Type 0} (xs : List X) → xs ++ [] ≡ xs
append_none [] = refl
append_none (x ∷ xs) = ap (λ ys. x ∷ ys) (append_none xs)

all_told : (ops : List Operation) (t : TellingText) → told_in (all_after telling_with_new ops t) ≡ told_in t ++ changes_each ops (log_in t)
all_told [] t = sym (append_none (told_in t))
all_told (op ∷ ops) t =
    all_told ops (telling_with_new op t)
    ∙ append_assoc (told_in t) (changes_of op (cells_of (log_in t)) ∷ []) (changes_each ops (with_operation op (log_in t)))

all_logged : (ops : List Operation) (t : TellingText) → log_in (all_after telling_with_new ops t) ≡ with_operations ops (log_in t)
all_logged [] t = refl
all_logged (op ∷ ops) t = all_logged ops (telling_with_new op t)

module _ {X : Type 0} (name : TellingText → X) (same : (op : Operation) (t : TellingText) → name (telling_with_new op t) ≡ name t) where
  all_named : (ops : List Operation) (t : TellingText) → name (all_after telling_with_new ops t) ≡ name t
  all_named [] t = refl
  all_named (op ∷ ops) t = all_named ops (telling_with_new op t) ∙ same op t

module _ (bytes : List ℕ) (old : Holder TellingText) (received : Received) (new : Holder TellingText)
    (h : Receives log_in limit_in telling_with_new bytes old received new) where
  took : BecameByTaking log_in limit_in telling_with_new old.site new.site
  took = files_taken log_in limit_in telling_with_new (λ op t new. (refl, refl)) bytes old received new h

  pub text_receives : Receives text_log text_limit text_with_new bytes (seen old) received (seen new)
  text_receives = files_seen text_in text_log text_limit telling_with_new text_with_new (λ op t. refl) bytes old received new h

  pub has_told : HasToldMore (text_in old.site) (text_in new.site) (told_in old.site) (told_in new.site)
  has_told = record {
    ops = took.ops;
    turn = took.turn;
    log = ap log_in took.each ∙ all_logged took.ops old.site;
    told = ap told_in took.each ∙ all_told took.ops old.site;
  }

  pub still_named : {X : Type 0} (name : TellingText → X) → ((op : Operation) (t : TellingText) → name (telling_with_new op t) ≡ name t)
      → name new.site ≡ name old.site
  still_named name same = ap name took.each ∙ all_named name same took.ops old.site

-- HELD OPERATIONS THAT ARE TRIED

all_seen : (ops : List Operation) (t : TellingText) → text_in (all_after telling_with_new ops t) ≡ all_after text_with_new ops (text_in t)
all_seen [] t = refl
all_seen (op ∷ ops) t = all_seen ops (telling_with_new op t)

module _ (held left : List Operation) (old new : TellingText) (count : ℕ)
    (h : AreTried log_in telling_with_new (limit_in old) (site_holding log_in old held) old new left count) where
  pub text_tries : AreTried text_log text_with_new (limit_in old) (site_holding text_log (text_in old) held) (text_in old) (text_in new) left count
  text_tries = record { more = h.more; settles = h.settles; each = ap text_in h.each ∙ all_seen h.more old; counted = h.counted }

  pub tried_told : HasToldMore (text_in old) (text_in new) (told_in old) (told_in new)
  tried_told = record {
    ops = h.more;
    turn = (taken_in_turn (limit_in old) [] h.more (site_holding log_in old held) (site_holding log_in new left) h.settles).1;
    log = ap log_in h.each ∙ all_logged h.more old;
    told = ap told_in h.each ∙ all_told h.more old;
  }

  pub tried_named : {X : Type 0} (name : TellingText → X) → ((op : Operation) (t : TellingText) → name (telling_with_new op t) ≡ name t) → name new ≡ name old
  tried_named name same = ap name h.each ∙ all_named name same h.more old

-- TOLD IN TURN

pub none_in_turn : (old new : List Operation) → new ≡ old → AreToldInTurn old new []
none_in_turn old new e = record { ops = []; turn = tt; taken = e; each = refl }

all_with : (ops more log : List Operation) → with_operations (ops ++ more) log ≡ with_operations more (with_operations ops log)
all_with [] more log = refl
all_with (op ∷ ops) more log = all_with ops more (with_operation op log)

continue_then : (ops more log : List Operation) → ContinueInTurn log ops → ContinueInTurn (with_operations ops log) more → ContinueInTurn log (ops ++ more)
continue_then [] more log h k = k
continue_then (op ∷ ops) more log h k = (h.0, continue_then ops more (with_operation op log) h.1 k)

each_then : (ops more log : List Operation) → changes_each (ops ++ more) log ≡ changes_each ops log ++ changes_each more (with_operations ops log)
each_then [] more log = refl
each_then (op ∷ ops) more log = ap (λ (l : List (List VisibleChange)). changes_of op (cells_of log) ∷ l) (each_then ops more (with_operation op log))

-- what is told of two steps is told of both together
pub told_then : (old mid new : List Operation) (told more : List (List VisibleChange)) → AreToldInTurn old mid told → AreToldInTurn mid new more
    → AreToldInTurn old new (told ++ more)
told_then old mid new told more p q = record {
  ops = p.ops ++ q.ops;
  turn = continue_then p.ops q.ops old p.turn (subst (λ (l : List Operation). ContinueInTurn l q.ops) p.taken q.turn);
  taken = q.taken ∙ ap (with_operations q.ops) p.taken ∙ sym (all_with p.ops q.ops old);
  each = (λ i. p.each i ++ (q.each ∙ ap (changes_each q.ops) p.taken) i) ∙ sym (each_then p.ops q.ops old);
}

-- WHAT WAS TOLD

-- operations that are new in turn continue the log in turn
continue_in_turn : (limit : ℕ) (ops log : List Operation) → IsHistory log → ((op : Operation) → HasOp ops op → keeps_rules op.body ≡ true)
    → AreTakenInTurn limit log ops → ContinueInTurn log ops
continue_in_turn limit [] log h rules turn = tt
continue_in_turn limit (op ∷ ops) log h rules turn =
    let k = (continues_new limit op log h (rules op (inl refl)) turn.0).0 in
    (k, continue_in_turn limit ops (with_operation op log) (history_with op log h k) (λ x i. rules x (inr i)) turn.1)

-- What a text told behind what was told before is told in turn with that.
pub told_behind : (older : List Operation) (old new : EditedValue) (before after : List (List VisibleChange)) → IsHistory (text_log old) → IsHistory (text_log new)
    → HasToldMore old new before after → AreToldInTurn older (text_log old) before → AreToldInTurn older (text_log new) after
told_behind older old new before after h k t first =
    let turn : ContinueInTurn (text_log old) t.ops =
    continue_in_turn (text_limit old) t.ops (text_log old) h
    (λ x i. rules_in (with_operations t.ops (text_log old)) (subst IsHistory t.log k) x (with_all t.ops (text_log old) x (inr i))) t.turn in
    subst (AreToldInTurn older (text_log new)) (sym t.told)
    (told_then older (text_log old) (text_log new) before (changes_each t.ops (text_log old)) first (record { ops = t.ops; turn = turn; taken = t.log; each = refl }))

-- behind nothing
pub only_told : (old new : EditedValue) (before after changes : List (List VisibleChange)) → before ≡ [] → changes ≡ after → IsHistory (text_log old)
    → IsHistory (text_log new) → HasToldMore old new before after → AreToldInTurn (text_log old) (text_log new) changes
only_told old new before after changes none all h k more =
    subst (AreToldInTurn (text_log old) (text_log new)) (sym all)
    (told_behind (text_log old) old new before after h k more (subst (AreToldInTurn (text_log old) (text_log old)) (sym none) (none_in_turn (text_log old) (text_log old) refl)))

-- what each operation changes is together what all change
together : (told : List ToldChange) (ops log : List Operation) → map changes_in told ≡ changes_each ops log → all_changes_in told ≡ changes_in_turn ops log
together [] [] log h = refl
together [] (op ∷ ops) log h = absurd (cc h)
together (t ∷ told) [] log h = absurd (cc h)
together (t ∷ told) (op ∷ ops) log h =
    let one : changes_in t ≡ changes_of op (cells_of log) = cc h in
    let rest : map changes_in told ≡ changes_each ops (with_operation op log) = cc h in
    (λ i. one i ++ together told ops (with_operation op log) rest i)

module _ (old new : EditedValue) (told : List ToldChange) (before : IsHistory (text_log old))
    (t : AreToldInTurn (text_log old) (text_log new) (map changes_in told)) where
  all_told_in : all_changes_in told ≡ changes_in_turn t.ops (text_log old)
  all_told_in = together told t.ops (text_log old) t.each

  pub told_between : AreToldBetween (text_log old) (text_log new) told
  told_between = record {
    between = record { ops = t.ops; turn = t.turn; taken = t.taken; told = all_told_in; exact = taken_exact t.ops (text_log old) before t.turn };
    each = t.each;
  }

  pub changes_replay : old.view.doc.cells ≡ cells_of (text_log old) → new.view.doc.cells ≡ cells_of (text_log new)
      → replayed (all_changes_in told) (tagged_text old.view.doc.cells) ≡ tagged_text new.view.doc.cells
  changes_replay first last =
      ap (λ (cells : List TaggedCell). replayed (all_changes_in told) (tagged_text cells)) first
      ∙ ap (λ (l : List VisibleChange). replayed l (tagged_text (cells_of (text_log old)))) all_told_in
      ∙ taken_replay t.ops (text_log old) before t.turn
      ∙ ap (λ (log : List Operation). tagged_text (cells_of log)) (sym t.taken) ∙ ap tagged_text (sym last)

  pub changes_in_text : old.view.doc.cells ≡ cells_of (text_log old) → AreInText (all_changes_in told) (tagged_text old.view.doc.cells)
  changes_in_text first =
      subst (λ (cells : List TaggedCell). AreInText (all_changes_in told) (tagged_text cells)) (sym first)
      (subst (λ (l : List VisibleChange). AreInText l (tagged_text (cells_of (text_log old)))) (sym all_told_in)
      (taken_within t.ops (text_log old) before t.turn))

  pub told_of : old.view.doc.cells ≡ cells_of (text_log old) → new.view.doc.cells ≡ cells_of (text_log new) → AreToldOf old new told
  told_of first last = record { told = told_between; replays = changes_replay first last; within = changes_in_text first }

-- where nothing changed
pub none_told : (text : EditedValue) (told : List ToldChange) → told ≡ [] → AreToldOf text text told
none_told text told e = subst (AreToldOf text text) (sym e) (record {
  told = record { between = record { ops = []; turn = tt; taken = refl; told = refl; exact = tt }; each = refl };
  replays = refl;
  within = tt;
})
