use Rattle.std.proofs.Common.{◌≡◌, ◌∙◌, ◌∷◌, ◌≤◌, All, List, String, Vec, Global, ℕ, Some, ap, false, length, map, string_bytes, subst, sym}
use Rattle.std.specs.Str.{bytes_eq}
use Rattle.std.proofs.lemmas.Bool.{cond-false}
use Rattle.std.proofs.lemmas.List.Elements.{All-tail}
use Rattle.rt_stamps.specs.declared.limits.TheConstants.{MOST_BYTES}
use Rattle.rt_script.specs.Site.{NamedFile, file_named}
use Rattle.rt_script.proofs.site_lines.file_named.Goals as goal

pub loop-file-preserved : goal.loop-file-preserved
loop-file-preserved c =
    let File : Type 0 = String Global × Vec ℕ Global in
    let named : File → NamedFile = λ f. (string_bytes f.0, f.1.items) in
    let file = c.in-Some.file.now in
    let rest = c.in-Some.rest.now in
    let whole : c.loop-file.left.now ≡ file ∷ rest = c.in-Some.ensures.cases.0 in
    let within = subst (λ (l : List File). All (λ f. length f.1.items ≤ MOST_BYTES) l) whole c.loop-file.invariant.within in
    let other : bytes_eq (string_bytes file.0) c.args.name.now ≡ false = ap (λ w. bytes_eq w c.args.name.now) (sym c.as_str.ensures.value) ∙ sym c.eq.ensures ∙ c.if-eq.false in
    record {
      within = All-tail (λ f. length f.1.items ≤ MOST_BYTES) file rest within;
      rest = sym (cond-false (bytes_eq (string_bytes file.0) c.args.name.now) (Some file.1.items) (file_named c.args.name.now (map named rest)) other) ∙ ap (λ (l : List File). file_named c.args.name.now (map named l)) (sym whole) ∙ c.loop-file.invariant.rest;
    }
