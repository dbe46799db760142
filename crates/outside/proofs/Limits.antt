-- The limits that definitions cite.
use Rattle.std.proofs.Common.{◌≡◌, refl}
use Rattle.outside.specs.declared.source.TheConstants.{LONGEST_FILE}

longest_file : LONGEST_FILE ≡ 1048576
longest_file = refl
