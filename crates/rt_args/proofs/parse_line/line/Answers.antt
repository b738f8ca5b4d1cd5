use Rattle.std.proofs.Common.{◌≡◌, ◌∙◌, ap, subst, sym, refl, map, true, []}
use Rattle.std.proofs.lemmas.Result.{err_from_is_err_and}
use Rattle.clap.specs.Kinds.{HasKind}
use Rattle.clap.specs.Words.{fault_of, is_simple, is_simple_and_free, subcommand_of}
use Rattle.clap.proofs.OnLiterals.{clap_on_literals}
use Rattle.rt_args.specs.CommandLine.{IsWhole, LineIn, peertext}
use Rattle.rt_args.proofs.TakenWords.{taken_words, refused_by}
use Rattle.rt_args.proofs.parse_line.line.Goals as goal

is_free : is_simple_and_free peertext ≡ true
unfolding clap_on_literals
is_free = refl

simple : is_simple peertext ≡ true
unfolding clap_on_literals
simple = refl

pub returns-in_err-matches-clause-refuses : goal.returns-in_err-matches-clause-refuses
returns-in_err-matches-clause-refuses c =
    let words = map (λ w. w.now) c.args.words.now in
    let app_is = c.in_ok-command.ensures.0 in
    let kinds = subst (λ a. HasKind (fault_of a words) c.in_err-matches.field-0.0) app_is (c.in_err-matches.ensures.kinds (ap is_simple_and_free app_is ∙ is_free)) in
    refused_by words c.from_residual-in_err-matches.result c.in_err-matches.field-0.0 c.from_residual-in_err-matches.ensures.1 kinds

pub line_in-read-requires : goal.line_in-read-requires
line_in-read-requires c =
    let words = map (λ w. w.now) c.args.words.now in
    let app_is = c.in_ok-command.ensures.0 in
    let taken = subst (λ a. fault_of a words ≡ []) app_is (c.in_ok-matches.ensures.kinds (ap is_simple_and_free app_is ∙ is_free)) in
    let sub = (c.in_ok-matches.ensures.matches (ap is_simple app_is ∙ simple)).1 ∙ ap (λ a. subcommand_of a words) app_is in
    subst IsWhole (sym sub) (taken_words words taken)

pub returns-in-Ok-clause-takes : goal.returns-in-Ok-clause-takes
returns-in-Ok-clause-takes c =
    let words = map (λ w. w.now) c.args.words.now in
    let app_is = c.in_ok-command.ensures.0 in
    subst (λ a. fault_of a words ≡ []) app_is (c.in_ok-matches.ensures.kinds (ap is_simple_and_free app_is ∙ is_free))

pub returns-in_err-command : goal.returns-in_err-command
returns-in_err-command c =
    let (y, is, gives) = err_from_is_err_and c.from_residual.result c.from_residual.ensures.1 in
    rw (is, gives) (record { line = tt; takes = tt; refuses = tt })

pub returns-in_err-matches-clause-line : goal.returns-in_err-matches-clause-line
returns-in_err-matches-clause-line c =
    let (y, is, gives) = err_from_is_err_and c.from_residual-in_err-matches.result c.from_residual-in_err-matches.ensures.1 in
    rw is tt

pub returns-in_err-matches-clause-takes : goal.returns-in_err-matches-clause-takes
returns-in_err-matches-clause-takes c =
    let (y, is, gives) = err_from_is_err_and c.from_residual-in_err-matches.result c.from_residual-in_err-matches.ensures.1 in
    rw is tt

pub returns-in-Ok-clause-line : goal.returns-in-Ok-clause-line
returns-in-Ok-clause-line c =
    let words = map (λ w. w.now) c.args.words.now in
    let app_is = c.in_ok-command.ensures.0 in
    let sub = (c.in_ok-matches.ensures.matches (ap is_simple app_is ∙ simple)).1 ∙ ap (λ a. subcommand_of a words) app_is in
    subst (λ found. LineIn found c.in-Ok.read) sub c.in-Ok.ensures
