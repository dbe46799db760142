use Rattle.std.proofs.Common.{rules, ◌≡◌, ℕ, List, None, Some, Option, length, take, drop, ◌+◌, ◌-◌, arith, ◌∙◌, append_assoc}
use Rattle.std.proofs.Math.Seq.{take-add}
use Rattle.std.proofs.lemmas.List.{length-drop, take_all}
use Rattle.std.specs.Io.KnownBytes.{Appends}
use Rattle.outside.proofs.sink.write_all.Goals as goal

-- what was taken of a piece, and then more of it
appends_more : (before middle after : Option (List ℕ)) (piece : List ℕ) (at n : ℕ) → Appends before middle (take at piece) → Appends middle after (take n (drop at piece)) → Appends before after (take (at + n) piece)
appends_more None middle after piece at n first second = tt
appends_more (Some xs) None after piece at n first second = absurd first
appends_more (Some xs) (Some ys) None piece at n first second = second
appends_more (Some xs) (Some ys) (Some zs) piece at n first second =
    rw take-add (second ∙ rw first (append_assoc xs (take at piece) (take n (drop at piece))))

-- the slice from a place on is the list from there
offered : (at : ℕ) (piece : List ℕ) → take (length piece - at) (drop at piece) ≡ drop at piece
offered at piece = take_all (length piece - at) (drop at piece) (omega (arith, length-drop at piece))

pub loop-at-preserved : goal.loop-at-preserved
loop-at-preserved g c = record {
  within = search rules;
  written = appends_more _ _ _ c.args.piece.now c.loop-at.at c.in-Ok.n c.loop-at.invariant.written (rw (offered c.loop-at.at c.args.piece.now) at c.in-Ok.ensures.takes);
  counts = search rules;
}
