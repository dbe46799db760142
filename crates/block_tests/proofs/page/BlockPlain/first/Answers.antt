use Rattle.std.proofs.Common.{◌≡◌, subst, sym, arith}
use Rattle.weights.specs.Labellings.{labellings}
use Rattle.weights.proofs.Sums.{sum_by-one}
use Rattle.enumerate.specs.Walk.{BeginsWith}
use Rattle.block_tests.specs.BlockNetworks.{first_arrangement}
use Rattle.block_tests.proofs.Arranged.{begins}
use Rattle.block_tests.proofs.page.BlockPlain.first.Goals as goal

pub returns-in_err-append-clause-bounded : goal.returns-in_err-append-clause-bounded
returns-in_err-append-clause-bounded c = omega (arith, sum_by-one (labellings c.args.self.now), c.first.ensures.fits)

pub returns-clause-bounded : goal.returns-clause-bounded
returns-clause-bounded c = omega (arith, sum_by-one (labellings c.args.self.now), c.first.ensures.fits)

pub returns-clause-first : goal.returns-clause-first
returns-clause-first c =
    let first : c.append.new.self ≡ first_arrangement c.args.self.now = cc (c.in_ok-append.ensures.ok, c.first.ensures.first) in
    subst (BeginsWith (labellings c.args.self.now)) (sym first) (begins c.args.self.now)
