-- The headline: what is proved of peertext as a whole, of any two sites. Each word leads on to its definition, and behind each sentence
-- stands the law that has it. The code meets these relations by its contracts: `SiteState::answer` by `AnswersInTurn`, `command` by
-- `Gives`, `receive` by `SiteReceives`, each other call by the relation of its event; `begun` by `Begins`, and `run_site` by
-- `RunsScript`, in which the lines are answered in order (`Ends`). `SiteState::export` gives bytes that are read as the log.
use Rattle.std.specs.Prelude.{◌≡◌, ◌⊎◌, ◌↔◌, List, Result, Ok, Err, MatchResult}
use Rattle.rt_stamps.specs.declared.fault.Fault.{Fault}
use Rattle.rt_stamps.specs.declared.fault.Fault.TheVariants.{Conflict}
use Rattle.rt_stamps.specs.Outcomes.{Refuses}
use Rattle.rt_stamps.specs.Words.{Word}
use Rattle.rt_requests.specs.declared.request.Request.{Request}
use Rattle.rt_requests.specs.Asking.{Asked, Asks}
use Rattle.rt_ops.specs.Operations.{Operation}
use Rattle.rt_oplog.specs.Logs.{AreOf, HasClashOf, IsUnion, joined}
use Rattle.rt_rga.specs.Cells.{cells_of}
use Rattle.rt_rga.specs.Histories.{IsHistory}
use Rattle.rt_rga.specs.Texts.{TaggedCharacter, tagged_text}
use Rattle.rt_peers.specs.Events.{EventsGoOneWay, EventsLive}
use Rattle.rt_peers.specs.Exchange.{ReceivesAny}
use Rattle.rt_peers.specs.Lives.{AcceptsGreatest, AgreeInAnyOrder}
use Rattle.rt_peers.specs.SiteStep.{AnswersInTurn, Tries, log_of, step_at}
use Rattle.rt_peers.specs.SiteValue.{SiteValue}
use Rattle.rt_script.specs.Lived.{RunsLive}
use Rattle.rt_script.specs.Output.{LinesGoOneWay, RunsHaveOneOutput}

-- the text of a site, whichever lines its widgets show: its visible characters, each with the shared tags that are on
abbrev pub text_of_site : SiteValue → List TaggedCharacter
text_of_site state = tagged_text state.text.view.doc.cells

-- A request that is answered has the reply of its step and leaves its state, but that held operations may be tried behind it. One
-- that is refused is so as its step is, or for want of memory, and then the site is as it was.
abbrev pub RepliesByStep : Type 0
RepliesByStep =
    (path : Word) (request : Request) (old new : SiteValue) (result : Result (List Word) Fault) → AnswersInTurn (step_at path old request) old result new
    → MatchResult result
    (λ reply. (mid : SiteValue) × (step_at path old request ≡ Ok (reply, mid)) × ((new ≡ mid) ⊎ Tries mid new))
    (λ fault. (new ≡ old) × Refuses (step_at path old request) fault)

-- words ask for one request, or are refused with one fault
abbrev pub WordsAskOnce : Type 0
WordsAskOnce = (words : List Word) → (asked : Asked) × Asks words asked × ((other : Asked) → Asks words other → other ≡ asked)

pub record Headline (one other : SiteValue) : Type 0 where
  -- A site's log is a history, and its cells are those of its log (`SiteState::log` of rt_peers).
  pub history : IsHistory (log_of one)
  pub cells : one.text.view.doc.cells ≡ cells_of (log_of one)
  -- Sites that accepted the same operations hold the same text with the same tags (`sites_agree` of rt_peers).
  pub agree : AreOf (log_of one) (log_of other) → text_of_site one ≡ text_of_site other
  -- So do those to which the same operations came, no two of which clash, in any orders, as soon as neither holds one that could be
  -- taken with more memory and room (`sites_agree_in_any_order`).
  pub in_any_order : AgreeInAnyOrder text_of_site one other
  -- Such a site has accepted the greatest history within what came to it (`accepted`).
  pub accepted : AcceptsGreatest
  -- The join of two logs is the log of just the operations of both, and Conflict just where two of these clash (`joining` of rt_oplog).
  pub union : (log : List Operation) → (joined (log_of one) (log_of other) ≡ Ok log) ↔ IsUnion (log_of one) (log_of other) log
  pub conflict : (joined (log_of one) (log_of other) ≡ Err Conflict) ↔ HasClashOf (log_of one) (log_of other)
  -- A site that holds nothing and receives the file of the other's log comes to that join and holds nothing; or it is told a fault,
  -- which is want of memory or of room, or Conflict, and then the join is Conflict too (`exchange` of rt_peers).
  pub exchange : ReceivesAny one (log_of other)
  -- The words of a command ask for one request, or are refused with one fault (`reading_is_total`, `reading_is_unique` of
  -- rt_requests).
  pub words : WordsAskOnce
  -- A request has the reply of its step and leaves its state, or is refused.
  pub replies : RepliesByStep
  -- A list of calls, from one state on, has at most one list of answers and leaves at most one state, where no memory was wanting
  -- (`one_way` of rt_peers). So it is of the lines of a script (`one_output`).
  pub one_way : EventsGoOneWay
  pub lines : LinesGoOneWay
  -- What comes to a site by calls, or by a whole run, are operations of its own number and of the files that it is given (`lives_on`
  -- of rt_peers, `runs`).
  pub calls : EventsLive
  pub runs : RunsLive
  -- A run that ends with no fault, and for which no memory was wanting, writes one text, which the site's number, the script, the log
  -- and the files decide (`one_output`).
  pub output : RunsHaveOneOutput
