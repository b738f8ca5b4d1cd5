use Rattle.std.proofs.Common.{◌≡◌, ◌∙◌, ◌++◌, ◌∷◌, [], List, String, Global, ap, codes, map, refl, string_bytes}
use Rattle.std.proofs.lemmas.Result.{err_from_is_err_and}
use Rattle.rt_peers.proofs.PeerLaws.{first_path}
use Rattle.rt_peers.proofs.site.SiteState.new.Goals as goal

pub invariant_of-result : goal.invariant_of-result
invariant_of-result c =
    let f : String Global → List _ = λ w. string_bytes w in
    let items : map f c.push.new.self.items ≡ codes ".t" ∷ [] =
    ap (map f) (c.in_ok-push.ensures.items ∙ ap (λ l. l ++ c.in_ok-from_str.field-0 ∷ []) c.in_ok-paths.ensures.items) ∙ ap (λ x. x ∷ []) c.in_ok-from_str.ensures.ok in
    record {
      paths = first_path (map f c.push.new.self.items) c.in_ok-text.text.view (codes ".t") c.args.site.number c.args.limit items (ap (λ t. t.view) c.in_ok-text.ensures.ok);
      tried = c.new-2.ensures.tried c.in_ok-text.text.view.doc.limit c.in_ok-text.text.view.doc.log;
    }

pub returns-in_err-text : goal.returns-in_err-text
returns-in_err-text c =
    let (y, is, gives) = err_from_is_err_and c.from_residual.result c.from_residual.ensures.1 in
    rw (is, gives) (record { ok = tt; err = c.in_err-text.ensures.err })

pub returns-in_err-paths : goal.returns-in_err-paths
returns-in_err-paths c =
    let (y, is, gives) = err_from_is_err_and c.from_residual-in_err-paths.result c.from_residual-in_err-paths.ensures.1 in
    rw (is, gives) (record { ok = tt; err = refl })

pub returns-in_err-from_str : goal.returns-in_err-from_str
returns-in_err-from_str c =
    let (y, is, gives) = err_from_is_err_and c.from_residual-in_err-from_str.result c.from_residual-in_err-from_str.ensures.1 in
    rw (is, gives) (record { ok = tt; err = refl })

pub returns-in_err-push : goal.returns-in_err-push
returns-in_err-push c =
    let (y, is, gives) = err_from_is_err_and c.from_residual-in_err-push.result c.from_residual-in_err-push.ensures.1 in
    rw (is, gives) (record { ok = tt; err = refl })
