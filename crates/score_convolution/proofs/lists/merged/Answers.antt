use Rattle.std.proofs.Common.{◌<◌, ◌⊎◌, inl, inr, length, arith}
use Rattle.weights.specs.declared.TheConstants.{MAX}
use Rattle.score_convolution.proofs.Spots.{all-near}
use Rattle.score_convolution.proofs.SpotMerges.{fewer-left, first-rise, left-few, merges-more, merges-none, second-rise}
use Rattle.score_convolution.proofs.lists.merged.Goals as goal
use Rattle.score_convolution.proofs.lists.merged.Goals.{then-i-len, else-i-len+then-j-len}

pub place_at-requires : goal.place_at-requires
place_at-requires g c = all-near MAX 0 0 c.args.ones.now c.requires.first (omega (arith, c.requires.near))

pub place_at-requires-in-loop-i : goal.place_at-requires-in-loop-i
place_at-requires-in-loop-i g c = all-near MAX c.args.by 0 c.args.others.now c.requires.second (omega (arith, c.requires.near))

pub take_at-one-requires-clause-near : goal.take_at-one-requires-clause-near
take_at-one-requires-clause-near g c = all-near MAX 0 0 c.args.ones.now c.requires.first (omega (arith, c.requires.near))

pub take_at-one-requires-clause-rise : goal.take_at-one-requires-clause-rise
take_at-one-requires-clause-rise g c = first-rise c.args.ones.now c.args.others.now c.args.by c.loop-i.i c.loop-i.j c.loop-i.spots c.loop-i.invariant c.requires.near c.requires.first c.requires.second c.place_at.result c.place_at-in-loop-i.result c.min-place.result c.min-place.ensures c.place_at.ensures.some c.place_at.ensures.none c.place_at-in-loop-i.ensures.some c.place_at-in-loop-i.ensures.none

pub take_at-other-requires-clause-near : goal.take_at-other-requires-clause-near
take_at-other-requires-clause-near g c = all-near MAX c.args.by 0 c.args.others.now c.requires.second (omega (arith, c.requires.near))

pub take_at-other-requires-clause-rise : goal.take_at-other-requires-clause-rise
take_at-other-requires-clause-rise g c = second-rise c.args.ones.now c.args.others.now c.args.by c.loop-i.i c.loop-i.j c.loop-i.spots c.loop-i.invariant c.requires.near c.requires.first c.requires.second c.place_at.result c.place_at-in-loop-i.result c.min-place.result c.min-place.ensures c.place_at.ensures.some c.place_at.ensures.none c.place_at-in-loop-i.ensures.some c.place_at-in-loop-i.ensures.none

pub overflow_add-one : goal.overflow_add-one
overflow_add-one g c = omega (
  arith,
  left-few c.args.ones.now c.loop-i.i c.take_at-one.result.next c.take_at-one.result.draws c.min-place.result 0 c.take_at-one.ensures.told,
  left-few c.args.others.now c.loop-i.j c.take_at-other.result.next c.take_at-other.result.draws c.min-place.result c.args.by c.take_at-other.ensures.told,
  c.requires.light,
)

pub loop-i-init : goal.loop-i-init
loop-i-init g c = rw c.in_ok-spots.ensures (merges-none c.args.ones.now c.args.others.now c.args.by c.requires.first c.requires.second)

pub loop-i-smaller : goal.loop-i-smaller
loop-i-smaller g c =
    let some : (c.loop-i.i < length c.args.ones.now) ⊎ (c.loop-i.j < length c.args.others.now) = elim c.if-i-len.branch [ then-i-len w ↦ inl (omega (arith, w.if-i-len.true, c.len-in-loop-i.ensures)) | else-i-len+then-j-len w ↦ inr (omega (arith, w.if-j-len.true, w.len-else-i-len.ensures)) ] in
    fewer-left c.args.ones.now c.args.others.now c.args.by c.loop-i.i c.loop-i.j c.loop-i.spots c.loop-i.invariant c.requires.near c.requires.first c.requires.second c.place_at.result c.place_at-in-loop-i.result c.min-place.result c.min-place.ensures c.place_at.ensures.some c.place_at.ensures.none c.place_at-in-loop-i.ensures.some c.place_at-in-loop-i.ensures.none some c.take_at-one.result.next c.take_at-other.result.next c.take_at-one.ensures.moved c.take_at-other.ensures.moved c.take_at-one.ensures.on c.take_at-other.ensures.on

pub loop-i-preserved : goal.loop-i-preserved
loop-i-preserved g c =
    let some : (c.loop-i.i < length c.args.ones.now) ⊎ (c.loop-i.j < length c.args.others.now) = elim c.if-i-len.branch [ then-i-len w ↦ inl (omega (arith, w.if-i-len.true, c.len-in-loop-i.ensures)) | else-i-len+then-j-len w ↦ inr (omega (arith, w.if-j-len.true, w.len-else-i-len.ensures)) ] in
    merges-more c.args.ones.now c.args.others.now c.args.by c.loop-i.i c.loop-i.j c.loop-i.spots c.loop-i.invariant c.requires.near c.requires.first c.requires.second c.place_at.result c.place_at-in-loop-i.result c.min-place.result c.min-place.ensures c.place_at.ensures.some c.place_at.ensures.none c.place_at-in-loop-i.ensures.some c.place_at-in-loop-i.ensures.none some c.take_at-one.result.next c.take_at-other.result.next c.take_at-one.result.draws c.take_at-other.result.draws c.push.new.self c.in_ok-push.ensures c.take_at-one.ensures.within c.take_at-other.ensures.within c.take_at-one.ensures.rise c.take_at-other.ensures.rise c.take_at-one.ensures.told c.take_at-other.ensures.told
