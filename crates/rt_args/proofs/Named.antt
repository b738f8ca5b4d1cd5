-- The subcommand that was named, and what it was given.
use Rattle.std.proofs.Common.{◌≡◌, ◌∙◌, ◌<◌, ℕ, inl, inr, refl, sym, ap, subst, List, [], get_or, nat_eq, Option, Some, None, is_some, Result, Ok, Err, true, false, true≢false, codes}
use Rattle.std.specs.Option.{IsSome, option_map, unwrap_or}
use Rattle.std.specs.Prelude.{IfOk}
use Rattle.std.specs.Str.Parse.{ParsesUnsigned, digits_value, without_leading_plus}
use Rattle.clap.specs.Words.{ReadsOne, Row, Text, found_of, one_text, rows_of, subcommand_name_of, subcommand_rows_of}
use Rattle.clap.specs.declared.parser.ArgMatches.{ArgMatches}
use Rattle.clap.specs.declared.parser.ArgMatches.TheViews.{out-ArgMatches}
use Rattle.clap.proofs.WalkLemmas.{one_text-rows}
use Rattle.rt_args.specs.CommandLine.{HasFile, HasSite, HasValues, IsWhole, LineIn, site_given, subcommand_name}
use Rattle.rt_args.specs.declared.command_line.Line.{Line}
use Rattle.rt_args.proofs.TakenWords.{number_read}

-- ---- names

abbrev rows_or : Option (Text × List Row) → List Row
rows_or None = []
rows_or (Some p) = p.1

abbrev letter : Option (Text × List Row) → ℕ
letter None = 0
letter (Some p) = get_or p.0 0 0

other_letter : (n : ℕ) (a b : Option (Text × List Row)) → a ≡ b → nat_eq (letter a) n ≡ false → nat_eq (letter b) n ≡ true → ⊥
other_letter n a b e one other = true≢false (sym other ∙ ap (λ o. nat_eq (letter o) n) (sym e) ∙ one)

mapped : {X Y Z : Type 0} (f : X → Y) (g : X → Z) (o : Option X) → option_map (λ (p : Y × Z). p.0) (option_map (λ x. (f x, g x)) o) ≡ option_map f o
mapped f g None = refl
mapped f g (Some x) = refl

named_rows : (m : ArgMatches) → option_map (λ (p : Text × List Row). p.0) (subcommand_rows_of m) ≡ subcommand_name_of m
named_rows m = mapped _ _ (out-ArgMatches m).subcommand

pair_is : (found : Option (Text × List Row)) (name : Text) (rows : List Row) → option_map (λ (p : Text × List Row). p.0) found ≡ Some name
    → option_map (λ (p : Text × List Row). p.1) found ≡ Some rows → found ≡ Some (name, rows)
pair_is None name rows n r = absurd (true≢false (ap is_some (sym n)))
pair_is (Some p) name rows n r =
    let one : p.0 ≡ name = ap (λ o. unwrap_or o []) n in
    let other : p.1 ≡ rows = ap (λ o. unwrap_or o []) r in
    ap (λ x. Some (x, p.1)) one ∙ ap (λ y. Some (name, y)) other

-- the subcommand, by its name and its rows
pub found_is : (m : ArgMatches) (name : Text) (rows : List Row) → subcommand_name_of m ≡ Some name
    → option_map (λ (p : Text × List Row). p.1) (subcommand_rows_of m) ≡ Some rows → subcommand_rows_of m ≡ Some (name, rows)
found_is m name rows n r = pair_is (subcommand_rows_of m) name rows (named_rows m ∙ n) r

pub site_of_run : (found : Option (Text × List Row)) (rows : List Row) → IsWhole found → found ≡ Some (codes "run", rows) → HasSite rows
site_of_run found rows (rs, inl h) is = subst HasSite (ap rows_or (sym h.0 ∙ is)) h.1
site_of_run found rows (rs, inr (inl h)) is = absurd (other_letter 114 _ _ (sym h.0 ∙ is) refl refl)
site_of_run found rows (rs, inr (inr h)) is = absurd (other_letter 114 _ _ (sym h.0 ∙ is) refl refl)

pub files_of_join : (found : Option (Text × List Row)) (rows : List Row) → IsWhole found → found ≡ Some (codes "join", rows)
    → HasFile (codes "A") rows × HasFile (codes "B") rows × HasFile (codes "OUT") rows
files_of_join found rows (rs, inl h) is = absurd (other_letter 106 _ _ (sym h.0 ∙ is) refl refl)
files_of_join found rows (rs, inr (inl h)) is =
    subst (λ rows. HasFile (codes "A") rows × HasFile (codes "B") rows × HasFile (codes "OUT") rows) (ap rows_or (sym h.0 ∙ is)) (h.1, h.2, h.3)
files_of_join found rows (rs, inr (inr h)) is = absurd (other_letter 106 _ _ (sym h.0 ∙ is) refl refl)

pub file_of_show : (found : Option (Text × List Row)) (rows : List Row) → IsWhole found → found ≡ Some (codes "show", rows) → HasFile (codes "FILE") rows
file_of_show found rows (rs, inl h) is = absurd (other_letter 115 _ _ (sym h.0 ∙ is) refl refl)
file_of_show found rows (rs, inr (inl h)) is = absurd (other_letter 115 _ _ (sym h.0 ∙ is) refl refl)
file_of_show found rows (rs, inr (inr h)) is = subst (HasFile (codes "FILE")) (ap rows_or (sym h.0 ∙ is)) h.1

-- what is neither a run nor a join is a show
pub is_show : (m : ArgMatches) → IsWhole (subcommand_rows_of m) → (subcommand_name_of m ≡ Some (codes "run") → false ≡ true)
    → (subcommand_name_of m ≡ Some (codes "join") → false ≡ true) → subcommand_name_of m ≡ Some (codes "show")
is_show m (rs, inl h) a b = absurd (true≢false (sym (a (sym (named_rows m) ∙ ap (option_map (λ (p : Text × List Row). p.0)) h.0))))
is_show m (rs, inr (inl h)) a b = absurd (true≢false (sym (b (sym (named_rows m) ∙ ap (option_map (λ (p : Text × List Row). p.0)) h.0))))
is_show m (rs, inr (inr h)) a b = sym (named_rows m) ∙ ap (option_map (λ (p : Text × List Row). p.0)) h.0

pub line_found : {E : Type 0} (name : Text) (found : Option (Text × List Row)) (rows : List Row) → found ≡ Some (name, rows) → (r : Result Line E)
    → IfOk r (λ line. (subcommand_name line ≡ name) × HasValues rows line) → IfOk r (LineIn found)
line_found name found rows is (Ok line) h = (rows, is ∙ ap (λ n. Some (n, rows)) (sym h.0), h.1)
line_found name found rows is (Err e) h = tt

-- ---- values

module _ {E : Type 0} (G : List ℕ → Result ℕ E → Type 0) (parses : (u : List ℕ) (x : Result ℕ E) → G u x → ParsesUnsigned 32 10 u x)
    (run : ArgMatches) (r : Option ℕ) (has : HasSite (rows_of (found_of run)))
    (reads : (t : List ℕ) → one_text (found_of run) (codes "site") ≡ Some t → ReadsOne G t r) where
  number : (r ≡ Some (digits_value 10 (without_leading_plus has.0))) × (0 < digits_value 10 (without_leading_plus has.0))
  number = number_read G has.0 r (reads has.0 (one_text-rows (found_of run) (codes "site") ∙ has.1)) parses has.2

  pub has_number : IsSome r
  has_number = subst IsSome (sym number.0) refl

  pub number_is : (n : ℕ) → r ≡ Some n → (0 < n) × (site_given (rows_of (found_of run)) ≡ Some n)
  number_is n is =
      let value : digits_value 10 (without_leading_plus has.0) ≡ n = ap (λ o. unwrap_or o 0) (sym number.0 ∙ is) in
      (subst (λ k. 0 < k) value number.1, ap (option_map (λ text. digits_value 10 (without_leading_plus text))) has.1 ∙ ap Some value)

pub some_mapped : {X Y : Type 0} (f : X → Y) (o : Option X) (y : Y) → option_map f o ≡ Some y → IsSome o
some_mapped f None y e = absurd (true≢false (ap is_some (sym e)))
some_mapped f (Some x) y e = refl
