-- The searches of the worked examples.
use Rattle.rt_search.specs.declared.search.Case.TheVariants.{Exact}
use Rattle.rt_search.specs.declared.search.Direction.TheVariants.{Backwards, Forwards}
use Rattle.rt_search.specs.declared.search.Strictness.TheVariants.{First, Strict}
use Rattle.rt_search.specs.declared.search.Search.{Search}

abbrev pub forwards : Search
forwards = record { direction = Forwards; case = Exact; strictness = First }

abbrev pub backwards : Search
backwards = record { direction = Backwards; case = Exact; strictness = First }

-- with strict limits
abbrev pub strictly : Search
strictly = record { direction = Forwards; case = Exact; strictness = Strict }

abbrev pub strictly_backwards : Search
strictly_backwards = record { direction = Backwards; case = Exact; strictness = Strict }
