use Rattle.std.proofs.Common.{◌<◌, ◌≤◌, arith}
use Rattle.label_network.proofs.BinomialTable.{read, read-left_out}
use Rattle.label_network.proofs.binomials.Binomials.choose.Goals.{then-k-self, else-k-self}
use Rattle.label_network.proofs.binomials.Binomials.choose.Goals as goal

pub returns : goal.returns
returns c = elim c.if-k-self.branch [
  | then-k-self w ↦ (let small : c.if-k-self.few < c.args.self.now.width = omega (arith, w.if-k-self, w.few-is) in
      rw (← w.few-is) (read c.args.self.now.width c.args.self.now.most c.args.self.now.table.items c.args.self.now.right c.args.n c.if-k-self.few c.index.result.now c.requires.most small (rw w.few-is c.requires.fits) c.index.ensures))
  | else-k-self w ↦ (let large : c.args.self.now.width ≤ c.args.k = omega (arith, w.if-k-self) in
      let small : c.if-k-self.few < c.args.self.now.width = omega (arith, c.requires.held large, w.few-is) in
      read-left_out c.args.self.now.width c.args.self.now.most c.args.self.now.table.items c.args.self.now.right c.args.n c.args.k c.if-k-self.few c.index.result.now c.requires.most c.requires.fewer w.few-is small c.requires.fits c.index.ensures)
]
