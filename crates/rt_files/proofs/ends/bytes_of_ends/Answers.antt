use Rattle.std.proofs.Common.{◌≡◌, ◌∙◌, ◌++◌, List, ℕ, ap, sym, append_assoc}
use Rattle.std.specs.Int.{to_be_bytes, w32, w64}
use Rattle.rt_files.specs.Ends.{ends_bytes}
use Rattle.rt_files.proofs.ends.bytes_of_ends.Goals as goal

-- one count more behind the bytes
one_more : (front site count rest : List ℕ) → ((front ++ site) ++ count) ++ rest ≡ front ++ ((site ++ count) ++ rest)
one_more front site count rest =
    append_assoc (front ++ site) count rest ∙ append_assoc front site (count ++ rest) ∙ ap (λ (l : List ℕ). front ++ l) (sym (append_assoc site count rest))

pub loop-site-preserved : goal.loop-site-preserved
loop-site-preserved c =
    let front = c.loop-site.bytes.items in
    let rest = ends_bytes c.next.new.self in
    let count = c.to_be_bytes-in-loop-site.result in
    let written = c.in_ok-extend_from_slice-2.ensures.items ∙ ap (λ (l : List ℕ). l ++ count) c.in_ok-extend_from_slice.ensures.items in
    let first = ap (λ (s : List ℕ). front ++ ((s ++ count) ++ rest)) c.to_be_bytes.ensures in
    let second = ap (λ (n : List ℕ). front ++ ((to_be_bytes w32 c.in-Some.site.now ++ n) ++ rest)) c.to_be_bytes-in-loop-site.ensures in
    ap (λ (l : List ℕ). l ++ rest) written ∙ one_more front c.to_be_bytes.result count rest ∙ first ∙ second
    ∙ ap (λ (it : List (ℕ × ℕ)). front ++ ends_bytes it) (sym c.in-Some.ensures.steps) ∙ c.loop-site.invariant
