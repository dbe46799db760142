use Rattle.std.proofs.Common.{arith}
use Rattle.worked_surface.proofs.report_calls.compose_shift.Goals as goal

pub compose_shift-requires : goal.compose_shift-requires
compose_shift-requires c = record { some = omega (arith, c.requires.some); fits = c.requires.fits; part = c.requires.part; places = c.requires.places }
