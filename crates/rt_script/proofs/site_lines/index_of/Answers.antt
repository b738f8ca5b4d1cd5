use Rattle.std.proofs.Common.{◌≡◌, ◌∙◌, [], ◌∷◌, ◌++◌, arith, List, Result, Some, Ok, Err, false, ap, append_assoc, sym}
use Rattle.std.specs.Prelude.{OnOk}
use Rattle.std.specs.Result.{is_err}
use Rattle.std.proofs.lemmas.Map.Text.{hash_map_updates_str}
use Rattle.rt_script.specs.Site.{GivenFile}
use Rattle.rt_script.proofs.Indexed.{finds-put}
use Rattle.rt_script.proofs.site_lines.index_of.Goals as goal

-- what is so of an Ok, where there is no Err
of_ok : {T E : Type 0} (r : Result T E) (P : Type 0) → is_err r ≡ false → OnOk r P → P
of_ok (Ok x) P e p = p
of_ok (Err y) P e p = grind (arith, e)

pub loop-file-preserved : goal.loop-file-preserved
loop-file-preserved c =
    let file = c.in-Some.file.now in
    let behind = c.loop-file.invariant.behind in
    let key = c.as_str.result.now in
    let bytes = c.as_slice.result in
    let put = of_ok c.insert.result _ (sym c.is_err.ensures.value ∙ c.if-is_err.false) c.insert.ensures.updates in
    let updates = hash_map_updates_str key c.loop-file.index c.insert.new.self (Some bytes) put in
    record {
      behind = file ∷ behind;
      whole = c.loop-file.invariant.whole ∙ ap (λ (l : List GivenFile). l ++ behind) c.in-Some.ensures.cases.0 ∙ append_assoc c.in-Some.rest.now (file ∷ []) behind;
      finds = finds-put c.loop-file.index c.insert.new.self file behind key bytes c.as_str.ensures.value c.as_slice.ensures.value updates c.loop-file.invariant.finds;
    }
