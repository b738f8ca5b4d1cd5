use Rattle.std.proofs.Common.{◌∙◌, List, ap, string_bytes, subst, sym}
use Rattle.rt_stamps.specs.Words.{Word, as_words}
use Rattle.rt_requests.proofs.ReadTexts.{two_and_more}
use Rattle.rt_requests.specs.SettingWords.{named_option, with_value}
use Rattle.rt_requests.proofs.ReadSettings.{AreRead, all_read, none_set, one_more}
use Rattle.rt_requests.proofs.settings.read_pairs.Goals as goal

pub loop-left-preserved : goal.loop-left-preserved
loop-left-preserved c =
    let words : List Word = as_words c.args.words.now in
    let split = two_and_more c.loop-left.left.now c.word-item.result c.value-item.result c.in-len2-up.len_at_least c.word-item.is c.value-item.is in
    let read = subst (λ (v : List Word). AreRead words v c.loop-left.settings) split c.loop-left.invariant in
    let named = sym (ap named_option c.deref.ensures) ∙ sym c.of.ensures ∙ c.in_ok-option.was in
    let set = sym (ap (with_value c.loop-left.settings c.in_ok-option.option) c.deref-in-len2-up.ensures) ∙ sym c.with.ensures ∙ c.in_ok-settings.was in
    one_more words _ (string_bytes c.word-item.result) (string_bytes c.value-item.result) c.in_ok-option.option c.loop-left.settings
    c.in_ok-settings.settings named set read

pub returns-in_err-settings : goal.returns-in_err-settings
returns-in_err-settings c =
    let words : List Word = as_words c.args.words.now in
    let split = two_and_more c.loop-left.left.now c.word-item.result c.value-item.result c.in-len2-up.len_at_least c.word-item.is c.value-item.is in
    let read = subst (λ (v : List Word). AreRead words v c.loop-left.settings) split c.loop-left.invariant in
    let named = sym (ap named_option c.deref.ensures) ∙ sym c.of.ensures ∙ c.in_ok-option.was in
    let unset = sym (ap (with_value c.loop-left.settings c.in_ok-option.option) c.deref-in-len2-up.ensures) ∙ sym c.with.ensures ∙ c.in_err-settings.was in
    c.from_residual-in_err-settings.ensures
    ∙ none_set words _ (string_bytes c.word-item.result) (string_bytes c.value-item.result) c.in_ok-option.option c.loop-left.settings named unset read

pub returns : goal.returns
returns c = all_read (λ w. string_bytes w) (as_words c.args.words.now) c.loop-left.left.now c.loop-left.settings c.in_default.len_below c.loop-left.invariant
