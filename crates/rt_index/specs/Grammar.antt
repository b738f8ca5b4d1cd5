-- The grammar of index expressions. A word is its bytes; a text is a part of it.
--
--     position = digits "." ( digits | "end" )
--     modifier = spaces? ("+" | "-") spaces? ("+" | "-")? digits spaces? ("any" spaces)? unit
--              | spaces ("any" spaces)? keyword
--
-- A unit is a front of `chars`, `indices` or `lines` that isn't empty, a keyword a front of at least five letters of
-- `linestart`, `lineend`, `wordstart` or `wordend`. Spaces may follow the last modifier. Numbers are decimal, of any size.
use Rattle.std.specs.Prelude.{◌≡◌, ℕ, ◌+◌, ◌<◌, ◌≤◌, ◌⊎◌, true, List, [], ◌∷◌, ◌++◌, length, replicate, Option, Some, None, codes}
use Rattle.std.specs.Str.{all_ascii_digits}
use Rattle.std.specs.Str.Parse.{digits_value}
use Rattle.rt_index.specs.declared.parts.Fixed.{Fixed}
use Rattle.rt_index.specs.declared.parts.Fixed.TheVariants.{Character, LineEndOf, End}
use Rattle.rt_index.specs.declared.parts.Sign.{Sign}
use Rattle.rt_index.specs.declared.parts.Sign.TheVariants.{Plus, Minus}
use Rattle.rt_index.specs.declared.parts.Step.{Step}
use Rattle.rt_index.specs.declared.parts.Step.TheVariants.{Characters, Lines}
use Rattle.rt_index.specs.declared.parts.Keyword.{Keyword}
use Rattle.rt_index.specs.declared.parts.Keyword.TheVariants.{LineStart, LineEnd, WordStart, WordEnd}
use Rattle.rt_index.specs.declared.parts.Modifier.{Modifier}
use Rattle.rt_index.specs.declared.parts.Modifier.TheVariants.{Forward, Back, To}

abbrev pub spaces : ℕ → List ℕ
spaces n = replicate n 32

-- decimal digits, one or more
abbrev pub IsNumber : List ℕ → Type 0
IsNumber digits = (0 < length digits) × (all_ascii_digits digits ≡ true)

-- digits "." digits | digits "." "end" | "end"
abbrev pub IsFixed : List ℕ → Fixed → Type 0
IsFixed text (Character line character) =
    (l c : List ℕ) × IsNumber l × IsNumber c × (text ≡ l ++ codes "." ++ c) × (line ≡ digits_value 10 l) × (character ≡ digits_value 10 c)
IsFixed text (LineEndOf line) = (l : List ℕ) × IsNumber l × (text ≡ l ++ codes ".end") × (line ≡ digits_value 10 l)
IsFixed text End = text ≡ codes "end"

abbrev pub sign_text : Sign → List ℕ
sign_text Plus = codes "+"
sign_text Minus = codes "-"

-- a second sign, or none; it turns the direction if it is "-"
abbrev pub second_text : Option Sign → List ℕ
second_text None = []
second_text (Some sign) = sign_text sign

abbrev pub turned : Sign → Sign
turned Plus = Minus
turned Minus = Plus

abbrev pub direction : Sign → Option Sign → Sign
direction sign None = sign
direction sign (Some Plus) = sign
direction sign (Some Minus) = turned sign

abbrev pub counted_modifier : Sign → ℕ → Step → Modifier
counted_modifier Plus k step = Forward k step
counted_modifier Minus k step = Back k step

-- ("any" spaces)?
abbrev pub IsAny : List ℕ → Type 0
IsAny text = (text ≡ []) ⊎ ((n : ℕ) × (text ≡ codes "any" ++ spaces (n + 1)))

abbrev pub IsFront : List ℕ → List ℕ → Type 0
IsFront name whole = (rest : List ℕ) × (whole ≡ name ++ rest)

abbrev pub IsUnit : List ℕ → Step → Type 0
IsUnit name Characters = (0 < length name) × (IsFront name (codes "chars") ⊎ IsFront name (codes "indices"))
IsUnit name Lines = (0 < length name) × IsFront name (codes "lines")

abbrev pub keyword_text : Keyword → List ℕ
keyword_text LineStart = codes "linestart"
keyword_text LineEnd = codes "lineend"
keyword_text WordStart = codes "wordstart"
keyword_text WordEnd = codes "wordend"

abbrev pub IsKeyword : List ℕ → Keyword → Type 0
IsKeyword name keyword = (5 ≤ length name) × IsFront name (keyword_text keyword)

-- spaces? ("+" | "-") spaces? ("+" | "-")? digits spaces? ("any" spaces)? unit
pub record IsMove (text : List ℕ) (modifier : Modifier) : Type 0 where
  pub before : ℕ
  pub sign : Sign
  pub between : ℕ
  pub second : Option Sign
  pub digits : List ℕ
  pub after : ℕ
  pub any : List ℕ
  pub name : List ℕ
  pub step : Step
  pub number : IsNumber digits
  pub passed_over : IsAny any
  pub unit : IsUnit name step
  pub spelled : text ≡ spaces before ++ (sign_text sign ++ (spaces between ++ (second_text second ++ (digits ++ (spaces after ++ (any ++ name))))))
  pub means : modifier ≡ counted_modifier (direction sign second) (digits_value 10 digits) step

-- spaces ("any" spaces)? keyword
pub record IsGoing (text : List ℕ) (modifier : Modifier) : Type 0 where
  pub before : ℕ
  pub any : List ℕ
  pub name : List ℕ
  pub keyword : Keyword
  pub passed_over : IsAny any
  pub word : IsKeyword name keyword
  pub spelled : text ≡ spaces (before + 1) ++ (any ++ name)
  pub means : modifier ≡ To keyword

abbrev pub IsModifier : List ℕ → Modifier → Type 0
IsModifier text modifier = IsMove text modifier ⊎ IsGoing text modifier

-- modifiers one after another, and perhaps spaces
abbrev pub AreModifiers : List ℕ → List Modifier → Type 0
AreModifiers text [] = (n : ℕ) × (text ≡ spaces n)
AreModifiers text (m ∷ ms) = (front rest : List ℕ) × IsModifier front m × AreModifiers rest ms × (text ≡ front ++ rest)
