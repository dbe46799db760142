-- What one walk over two lists of runs reads.
use Rattle.std.specs.Prelude.{List, reverse, Bool, if◌then◌else◌}
use Rattle.completion_bounds.specs.declared.pairings.Later.{Later}

-- a list of columns as it stands, or from its end
abbrev pub turned : Bool → List Later → List Later
turned downwards columns = if downwards then reverse columns else columns
