use Rattle.std.proofs.Common.{All, IsUtf8, ap, get_or, string_bytes, subst}
use Rattle.std.proofs.lemmas.List.Elements.{All-map}
use Rattle.std.proofs.lemmas.Str.{IsUtf8-string_bytes}
use Rattle.rt_plans.specs.Insertions.{Piece}
use Rattle.rt_plans.proofs.piece.Piece.is_text.Goals as goal

pub returns-clause-text : goal.returns-clause-text
returns-clause-text c = subst IsUtf8 (ap (λ (p : Piece). p.text) c.self.view_is) (IsUtf8-string_bytes c.self.inside.text)

pub returns-clause-tags : goal.returns-clause-tags
returns-clause-tags c =
    subst (All IsUtf8) (ap (λ (p : Piece). p.tags) c.self.view_is)
    (All-map IsUtf8 (λ w. string_bytes w) c.self.inside.tags.items (λ k d lt. IsUtf8-string_bytes (get_or c.self.inside.tags.items k d)))
