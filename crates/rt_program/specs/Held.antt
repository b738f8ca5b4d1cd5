-- What keeps a file from taking the place of another.
use Rattle.std.specs.Prelude.{Bool, true, false}
use Rattle.std.specs.declared.io.ErrorKind.{ErrorKind}
use Rattle.std.specs.declared.io.ErrorKind.TheVariants.{PermissionDenied, ReadOnlyFilesystem, InvalidFilename, AlreadyExists, ResourceBusy}

-- The folder of a path can't be written, takes no longer name, or has all the names that were tried; or what has the path
-- is held there. All else, as want of memory or of room, is no reason to write a file in place.
abbrev pub is_held : ErrorKind → Bool
is_held PermissionDenied = true
is_held ReadOnlyFilesystem = true
is_held InvalidFilename = true
is_held AlreadyExists = true
is_held ResourceBusy = true
is_held kind = false
