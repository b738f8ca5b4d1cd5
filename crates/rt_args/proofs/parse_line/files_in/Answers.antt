use Rattle.std.proofs.Common.{◌∙◌, ap, sym, map, []}
use Rattle.std.specs.Option.{option_map}
use Rattle.std.specs.Prelude.{unwrap_or}
use Rattle.std.proofs.lemmas.Result.{IfOk-weaker}
use Rattle.rt_stamps.specs.Words.{as_words}
use Rattle.clap.specs.Words.{found_of}
use Rattle.clap.proofs.WalkLemmas.{raw_values-rows}
use Rattle.rt_args.proofs.parse_line.files_in.Goals as goal

pub returns-in-Some : goal.returns-in-Some
returns-in-Some c =
    let at = sym (raw_values-rows (found_of c.args.run.now) c.args.name.now) ∙ sym c.get_raw.ensures in
    let read = ap (λ found. unwrap_or found []) (at ∙ ap (option_map (λ s. map (λ v. v.now) s.now)) c.in-Some.is) in
    IfOk-weaker c.copied.result _ _ (λ copies is. read ∙ sym is) c.copied.ensures

pub returns-in-None : goal.returns-in-None
returns-in-None c =
    let at = sym (raw_values-rows (found_of c.args.run.now) c.args.name.now) ∙ sym c.get_raw.ensures in
    let read = ap (λ found. unwrap_or found []) (at ∙ ap (option_map (λ s. map (λ v. v.now) s.now)) c.in-None.is) in
    read ∙ sym (ap as_words c.new.ensures.items)
