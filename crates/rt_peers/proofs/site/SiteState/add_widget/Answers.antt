use Rattle.std.proofs.Common.{◌≡◌, ◌∙◌, ◌++◌, ◌∷◌, [], List, None, String, Global, ap, map, string_bytes, subst, sym}
use Rattle.std.proofs.lemmas.List.{map-append}
use Rattle.rt_peers.specs.Peers.{HavePaths}
use Rattle.rt_peers.specs.SiteValue.{SiteValue, number_of_path}
use Rattle.rt_plans.specs.DocValue.{DocValue}
use Rattle.rt_holding.specs.Grown.{AreTriedAt}
use Rattle.rt_peers.proofs.OptionLaws.{led_one_more, made_doc}
use Rattle.rt_peers.proofs.PeerLaws.{one_more_path}
use Rattle.rt_peers.proofs.site.SiteState.add_widget.Goals as goal

pub invariant_of-self-2 : goal.invariant_of-self-2
invariant_of-self-2 c =
    let f : String Global → List _ = λ w. string_bytes w in
    let old = c.self.inside.paths.items in
    let view = c.self.inside.text.view in
    let new = c.args.path.now in
    let none : number_of_path new (map f old) ≡ None = subst (λ (s : SiteValue). number_of_path new s.paths ≡ None) (sym c.self.view_is) c.requires.free in
    let items : map f c.push_reserved.new.self.items ≡ map f old ++ new ∷ [] =
    ap (map f) (c.push_reserved.ensures.items ∙ ap (λ l. l ++ c.in_ok-path.path ∷ []) c.in_ok-reserve.ensures.items) ∙ map-append f old (c.in_ok-path.path ∷ [])
    ∙ ap (λ x. map f old ++ x ∷ []) c.in_ok-path.ensures.ok in
    let more = led_one_more c.args.number c.self.inside.text c.add_peer.new.self c.args.settings.now c.in_ok-add_peer.ensures.ok in
    let docs = made_doc c.args.number c.self.inside.text c.add_peer.new.self c.args.settings.now c.in_ok-add_peer.ensures.ok in
    record {
      paths = subst (λ l. HavePaths l c.add_peer.new.self.view) (sym items) (one_more_path (map f old) view c.add_peer.new.self.view new c.self.invariant.paths none more);
      tried = subst (λ (d : DocValue). AreTriedAt d.limit d.log c.self.inside.held) docs c.self.invariant.tried;
    }
