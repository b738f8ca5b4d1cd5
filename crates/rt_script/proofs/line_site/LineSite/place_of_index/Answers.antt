use Rattle.std.proofs.Common.{◌≡◌, ◌∙◌, ℕ, List, Ok, Err, Result, ap, inr, subst, sym}
use Rattle.std.specs.Prelude.{IfErr, IfOk}
use Rattle.std.specs.Str.{IsUtf8}
use Rattle.rt_stamps.specs.declared.fault.Fault.{Fault}
use Rattle.rt_stamps.specs.declared.fault.Fault.TheVariants.{BadQuoting}
use Rattle.rt_stamps.specs.Outcomes.{Refuses}
use Rattle.rt_peers.specs.Cursors.{index_by}
use Rattle.rt_peers.specs.SiteValue.{SiteValue}
use Rattle.rt_script.specs.LineSite.{LineSiteValue, place_at_path}
use Rattle.rt_script.proofs.Paths.{if_no_index, if_no_path, if_texts}
use Rattle.rt_script.proofs.line_site.LineSite.place_of_index.Goals as goal

-- texts are asked as the bytes that they are, and the site is the one that is kept
asked : (path index given named : List ℕ) (site : SiteValue) (kept : LineSiteValue) → given ≡ path → named ≡ index → site ≡ kept.site → IsUtf8 path → IsUtf8 index
    → index_by given named site ≡ place_at_path path index kept.site
asked path index given named site kept e f is u v =
    (λ i. index_by (e i) (f i) (is i)) ∙ if_texts path index (index_by path index kept.site) (Err BadQuoting) u v

pub returns-in-Ok-from_utf8-clause-ok : goal.returns-in-Ok-from_utf8-clause-ok
returns-in-Ok-from_utf8-clause-ok c =
    let is = ap (λ (kept : LineSiteValue). kept.site) c.self.view_is in
    let both = asked c.args.path.now c.args.index.now c.in-Ok.path.now c.in-Ok-from_utf8.index.now c.self.inside.site c.args.self.now c.in-Ok.ensures.cases.0 c.in-Ok-from_utf8.ensures.cases.0 is c.in-Ok.ensures.cases.1 c.in-Ok-from_utf8.ensures.cases.1 in
    subst (λ (o : Result ℕ Fault). IfOk c.place_of_index.result (λ place. o ≡ Ok place)) both c.place_of_index.ensures.ok

pub returns-in-Ok-from_utf8-clause-err : goal.returns-in-Ok-from_utf8-clause-err
returns-in-Ok-from_utf8-clause-err c =
    let is = ap (λ (kept : LineSiteValue). kept.site) c.self.view_is in
    let both = asked c.args.path.now c.args.index.now c.in-Ok.path.now c.in-Ok-from_utf8.index.now c.self.inside.site c.args.self.now c.in-Ok.ensures.cases.0 c.in-Ok-from_utf8.ensures.cases.0 is c.in-Ok.ensures.cases.1 c.in-Ok-from_utf8.ensures.cases.1 in
    subst (λ (o : Result ℕ Fault). IfErr c.place_of_index.result (Refuses o)) both c.place_of_index.ensures.err

pub returns-in-Err-from_utf8-clause-err : goal.returns-in-Err-from_utf8-clause-err
returns-in-Err-from_utf8-clause-err c =
    inr (sym (if_no_index c.args.path.now c.args.index.now (index_by c.args.path.now c.args.index.now c.args.self.now.site) (Err BadQuoting) c.in-Err-from_utf8.ensures.cases.0))

pub returns-in-Err-clause-err : goal.returns-in-Err-clause-err
returns-in-Err-clause-err c =
    inr (sym (if_no_path c.args.path.now c.args.index.now (index_by c.args.path.now c.args.index.now c.args.self.now.site) (Err BadQuoting) c.in-Err.ensures.cases.0))
