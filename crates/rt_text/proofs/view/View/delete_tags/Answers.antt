use Rattle.std.proofs.Common.{ap, length, map, subst, sym}
use Rattle.std.specs.List.{AllByRecursion}
use Rattle.std.proofs.lemmas.Result.{on_err_weaker, on_ok_weaker}
use Rattle.rt_stamps.specs.declared.limits.TheConstants.{MOST_SPANS}
use Rattle.rt_stamps.specs.Words.{as_words}
use Rattle.rt_plans.specs.DocValue.{DocValue, logged}
use Rattle.rt_plans.specs.TagDrafts.{tag_deletion_drafts}
use Rattle.rt_plans.specs.TagWrites.{without_tags}
use Rattle.rt_text.specs.Owned.{widget_value}
use Rattle.rt_text.specs.Widgets.{IsOwnOf}
use Rattle.rt_text.proofs.Growing.{logged_grows}
use Rattle.rt_text.proofs.KeptLimits.{order_made}
use Rattle.rt_text.proofs.ViewLaws.{viewed}
use Rattle.rt_text.proofs.view.View.delete_tags.Goals as goal

pub invariant_of-self : goal.invariant_of-self
invariant_of-self g c =
    let old = c.self.inside.doc in
    let others = map widget_value c.self.inside.others.items in
    let names = as_words c.args.names.now in
    let drafts = tag_deletion_drafts MOST_SPANS old names in
    let edited = without_tags old names in
    let view = viewed old (widget_value c.self.inside.widget) others in
    let made = on_ok_weaker c.delete_tags-done.result (λ e. ap (λ (f : DocValue). viewed f (widget_value c.self.inside.widget) others) e) c.delete_tags-done.ensures.ok in
    let same = on_err_weaker c.delete_tags-done.result (λ e. ap (λ (f : DocValue). viewed f (widget_value c.self.inside.widget) others) e) c.delete_tags-done.ensures.unchanged in
    let long = sym (ap length c.delete_tags-done.ensures.text) in
    record {
      own = subst (λ n. IsOwnOf n (widget_value c.self.inside.widget)) long c.self.invariant.own;
      others = subst (λ n. AllByRecursion (IsOwnOf n) others) long c.self.invariant.others;
      limits = order_made c.delete_tags-done.result view (viewed (logged old drafts edited) (widget_value c.self.inside.widget) others) (viewed c.delete_tags-done.new.self (widget_value c.self.inside.widget) others)
          c.kept.ensures.history c.kept.ensures.document.cells c.log.ensures.history c.log.ensures.cells (logged_grows view drafts edited) made same c.self.invariant.limits;
    }
