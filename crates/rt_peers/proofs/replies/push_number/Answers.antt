use Rattle.std.proofs.Common.{◌≡◌, ◌∙◌, ℕ, ◌+◌, ◌++◌, [], ◌∷◌, List, Result, Ok, Err, ap, arith, string_bytes, subst, sym}
use Rattle.std.specs.Prelude.{OnOk, if◌then◌else◌}
use Rattle.std.specs.Fmt.{decimal}
use Rattle.std.specs.Result.{is_ok}
use Rattle.std.specs.Char.{encode_utf8}
use Rattle.std.proofs.lemmas.Fmt.{decimal_digit}
use Rattle.rt_peers.proofs.replies.push_number.Goals as goal

-- what is so of an Ok, where there is one
on_ok : {T E X : Type 0} (r : Result T E) (new done left : X) → new ≡ (if is_ok r then done else left) → OnOk r (new ≡ done)
on_ok (Ok x) new done left e = e
on_ok (Err y) new done left e = tt

pub returns-then-number-lt10 : goal.returns-then-number-lt10
returns-then-number-lt10 c =
    let n = c.args.number in
    let glyph : c.from.result ≡ 48 + n = omega (arith, c.from.ensures, c.if-number-lt10.true) in
    let same : encode_utf8 c.from.result ≡ decimal n =
    c.push.ensures.ascii (omega (arith, glyph, c.if-number-lt10.true)) ∙ ap (λ (x : ℕ). x ∷ []) glyph ∙ sym (decimal_digit n c.if-number-lt10.true) in
    on_ok c.push.result _ _ (string_bytes c.args.text.now)
    (subst (λ (bytes : List ℕ). string_bytes c.push.new.self ≡ (if is_ok c.push.result then string_bytes c.args.text.now ++ bytes else string_bytes c.args.text.now)) same c.push.ensures.bytes)
