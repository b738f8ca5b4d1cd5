-- What the functions answer: 0 or more where they are done, and less where they are refused.
use Rattle.std.specs.Prelude.{ℤ, pos, negsuc}

abbrev pub DONE : ℤ
DONE = pos 0

-- minus 1: the handle holds no site
abbrev pub NO_SITE : ℤ
NO_SITE = negsuc 0

-- minus 2: memory was wanting
abbrev pub NO_MEMORY : ℤ
NO_MEMORY = negsuc 1

-- minus 3: the handle holds a site already
abbrev pub IS_HELD : ℤ
IS_HELD = negsuc 2

-- minus 4: the number is no site's
abbrev pub BAD_NUMBER : ℤ
BAD_NUMBER = negsuc 3

-- minus 5: there are too many bytes, or they spell no counts
abbrev pub BAD_BYTES : ℤ
BAD_BYTES = negsuc 4

-- minus 6: what is named isn't there
abbrev pub NOT_THERE : ℤ
NOT_THERE = negsuc 5

-- minus 7: what was changed isn't known
abbrev pub NOT_KNOWN : ℤ
NOT_KNOWN = negsuc 6
