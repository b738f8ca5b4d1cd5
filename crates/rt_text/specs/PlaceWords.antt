-- Places as indices are written (Tk text manual, "Indices").
use Rattle.std.specs.Prelude.{ℕ, ◌++◌, codes}
use Rattle.std.specs.Fmt.{decimal}
use Rattle.rt_stamps.specs.Words.{Word}

-- `1.0+Nc`: N characters after the first one
abbrev pub place_word : ℕ → Word
place_word place = codes "1.0+" ++ (decimal place ++ codes "c")
