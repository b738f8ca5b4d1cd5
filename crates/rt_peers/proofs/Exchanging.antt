-- A site that holds nothing receives the whole log of another.
use Rattle.std.proofs.Common.{◌≡◌, ◌∙◌, List, Ok, Result, ap, inl, inr, refl, sym}
use Rattle.std.proofs.lemmas.Option.{IfSome_then}
use Rattle.rt_stamps.specs.declared.fault.Fault.{Fault}
use Rattle.rt_ops.specs.Operations.{Operation}
use Rattle.rt_oplog.specs.Logs.{joined}
use Rattle.rt_oplog.proofs.Joins.{commutative, joined_err, joined_ok}
use Rattle.rt_rga.specs.Histories.{IsHistory}
use Rattle.rt_rga.proofs.Accepting.{log_of as is_log}
use Rattle.rt_rga.proofs.Joining.{joined_free_histories}
use Rattle.rt_recording.specs.EditedValue.{EditedValue}
use Rattle.rt_recording.specs.Edits.{text_with_new}
use Rattle.rt_holding.specs.Receiving.{State as Holder}
use Rattle.rt_holding.proofs.Exchanged.{in_reverse}
use Rattle.rt_peers.specs.Exchange.{AgreeOnceExchanged, ExchangeAgrees, ReceivesAny, ReceivesWhole, TellsClash}
use Rattle.rt_peers.specs.SiteStep.{log_of, text_limit, text_log}
use Rattle.rt_peers.specs.SiteValue.{SiteValue}
use Rattle.rt_peers.proofs.Clashing.{file_ends}

abbrev pub holder : SiteValue → Holder EditedValue
holder state = record { site = state.text; held = state.held }

pub receives_any : (one : SiteValue) (log : List Operation) → IsHistory (log_of one) → IsHistory log → ReceivesAny one log
receives_any one log p q bytes received new file none h =
    let set = log_of one in
    let ends = file_ends text_log text_limit text_with_new bytes file.0 set log (holder one) received (holder new) file.1 h.text (record { log_is = refl; none = none }) p q in (
      λ e. let all = ends.0 e in (
        joined_ok set log all.result (is_log set p) (is_log log q) (record {
          log = is_log all.result all.history;
          members = λ x. (all.some x, λ i. all.all x (elim i [ inl j ↦ inl j | inr j ↦ inr (in_reverse log x j) ]));
        })
            ∙ ap (λ l. Ok l) (sym all.has.log_is),
        all.has.none,
      ),
      ends.1,
    )

pub tells_clash : (one : SiteValue) (log : List Operation) → IsHistory (log_of one) → IsHistory log → TellsClash one log
tells_clash one log p q bytes received new file none c h e =
    let no = joined_err (log_of one) log c.0 c.1 c.2 c.3 c.4 in
    let yes = ((receives_any one log p q bytes received new file none h).0 e).0 in
    cc (no, yes)

pub receives_whole : (one : SiteValue) (log : List Operation) → IsHistory (log_of one) → IsHistory log → ReceivesWhole one log
receives_whole one log p q bytes received new file apart none h =
    let any = receives_any one log p q bytes received new file none h in
    let yes = joined_free_histories (log_of one) log p q apart in (
      any.0,
      IfSome_then received.fault any.1 (λ found end. elim end [ inl m ↦ inl m | inr f ↦ elim f [ inl t ↦ inr t | inr c ↦ (let no = c.1 in absurd (cc (no, yes))) ] ]),
    )

-- the join is one, whichever log comes first
pub one_join : (a b l m : List Operation) → IsHistory a → IsHistory b → joined a b ≡ Ok l → joined b a ≡ Ok m → l ≡ m
one_join a b l m h k e f =
    let same : ◌≡◌ {A = Result (List Operation) Fault} (Ok l) (Ok m) = sym e ∙ commutative a b (is_log a h) (is_log b k) ∙ f in
    cc same

pub exchange_agrees : (one other : SiteValue) → IsHistory (log_of one) → IsHistory (log_of other) → ExchangeAgrees one other
exchange_agrees one other p q file_one file_other received_one received_other new_one new_other back file apart none empty h k e f =
    one_join (log_of one) (log_of other) (log_of new_one) (log_of new_other) p q
    ((receives_any one (log_of other) p q file_other received_one new_one file none h).0 e).0
    ((receives_any other (log_of one) q p file_one received_other new_other back empty k).0 f).0

-- two sites that receive each other's logs with no fault told have one log
pub one_log_exchanged : (one other left_one left_other : SiteValue) → IsHistory (log_of one) → IsHistory (log_of other)
    → AgreeOnceExchanged log_of one other left_one left_other
one_log_exchanged one other left_one left_other p q file_one file_other back file h k =
    one_join (log_of one) (log_of other) (log_of left_one) (log_of left_other) p q
    ((receives_any one (log_of other) p q file_other h.1 left_one file h.0 h.2).0 h.3).0
    ((receives_any other (log_of one) q p file_one k.1 left_other back k.0 k.2).0 k.3).0
