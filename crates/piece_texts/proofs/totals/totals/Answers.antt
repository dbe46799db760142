use Rattle.std.proofs.Common.{rules, ◌≡◌, ◌<◌, ◌+◌, length, ℕ, false, sym, subst, arith, List}
use Rattle.piece_texts.specs.declared.piece.Piece.{Piece}
use Rattle.piece_texts.specs.Places.{piece_at}
use Rattle.piece_texts.specs.Merges.{differs}
use Rattle.piece_texts.specs.TotalSteps.{Totalled, sums_with, AllWithin}
use Rattle.piece_texts.proofs.SumsGrow.{totals-more}
use Rattle.piece_texts.proofs.totals.totals.Goals as goal

pub loop-i-preserved : goal.loop-i-preserved
loop-i-preserved c =
    let pieces : List Piece = c.args.pieces.now in
    let i : ℕ = c.loop-i.i in
    let low : i < length pieces = omega (arith, c.loop-i-test.true, c.len-i-end.ensures.count) in
    let same : differs (piece_at pieces 0) (piece_at pieces i) ≡ false = search rules in
    let given : AllWithin (piece_at pieces 0).total (sums_with c.loop-i.sums (piece_at pieces i)) × (c.in-Some.more ≡ sums_with c.loop-i.sums (piece_at pieces i)) = search rules in
    let more = totals-more pieces i c.loop-i.sums low c.loop-i.invariant.none c.loop-i.invariant.sums same given.0 in
    record {
      none = more.0;
      sums = subst (Totalled pieces (i + 1)) (sym given.1) more.1;
      one = c.at-one.ensures;
    }
