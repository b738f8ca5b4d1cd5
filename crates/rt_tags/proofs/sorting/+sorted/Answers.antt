use Rattle.std.proofs.Common.{◌≡◌, ◌∙◌, ap, length, subst, sym, []}
use Rattle.std.proofs.lemmas.Result.{IfOk-weaker}
use Rattle.rt_stamps.specs.Words.{as_words}
use Rattle.rt_tags.specs.Kept.{HaveNames, IsSorted, all_seen}
use Rattle.rt_tags.specs.Writers.{state_after}
use Rattle.rt_tags.proofs.Merging.{halves_made, short_made, short_sorted}
use Rattle.rt_tags.proofs.Sets.{len_names}
use Rattle.rt_tags.proofs.sorting.+sorted.Goals as goal

pub returns-then-writes-lt2-clause-sorted : goal.returns-then-writes-lt2-clause-sorted
returns-then-writes-lt2-clause-sorted t c =
    let names = as_words c.args.names.now in
    let named : HaveNames (length names) c.args.writes.now = subst (λ n. HaveNames n c.args.writes.now) (sym (len_names c.args.names.now)) c.requires in
    IfOk-weaker c.copied.result (λ v. v.items ≡ c.args.writes.now) (λ v. IsSorted names v.items) (λ v e. subst (IsSorted names) (sym e) (short_sorted names c.args.writes.now c.if-writes-lt2.true named)) c.copied.ensures

pub returns-then-writes-lt2-clause-entries : goal.returns-then-writes-lt2-clause-entries
returns-then-writes-lt2-clause-entries t c =
    let names = as_words c.args.names.now in
    IfOk-weaker c.copied.result (λ v. v.items ≡ c.args.writes.now) (λ v. all_seen names v.items ≡ state_after [] (all_seen names c.args.writes.now)) (λ v e. ap (all_seen names) e ∙ short_made names c.args.writes.now c.if-writes-lt2.true) c.copied.ensures

pub returns-clause-entries : goal.returns-clause-entries
returns-clause-entries t c =
    let names = as_words c.args.names.now in
    IfOk-weaker c.merged.result (λ v. all_seen names v.items ≡ state_after (all_seen names c.deref.result.now) (all_seen names c.deref-2.result.now)) (λ v. all_seen names v.items ≡ state_after [] (all_seen names c.args.writes.now))
    (λ v e. e
    ∙ (λ j. state_after (all_seen names (c.deref.ensures.value j)) (all_seen names (c.deref-2.ensures.value j)))
    ∙ halves_made names c.args.writes.now c.split_at.result.0.now c.split_at.result.1.now c.in_ok-front.front.items c.in_ok-back.back.items c.split_at.ensures.by_index.0 c.in_ok-front.ensures.entries c.in_ok-back.ensures.entries)
    c.merged.ensures.entries
