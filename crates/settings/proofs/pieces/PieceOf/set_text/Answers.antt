use Rattle.std.proofs.Common.{ap}
use Rattle.settings.specs.Pieces.{parts_form, piece_with, stage_form}
use Rattle.settings.specs.Values.{number_of}
use Rattle.settings.specs.declared.names.OptionName.{OptionName}
use Rattle.settings.proofs.PutAs.{put_found}
use Rattle.settings.proofs.pieces.PieceOf.set_text.Goals as goal

pub returns-in-Stage : goal.returns-in-Stage
returns-in-Stage c =
    let wanted = λ (name : OptionName). piece_with name c.args.text.now c.args.self.now in
    put_found (λ at. record c.args.self.now { at = at }) c.args.name (wanted c.args.name) (number_of stage_form c.args.text.now) c.number_of.result c.put_found.new.place c.put_found.result (ap wanted c.in-Stage.is) c.number_of.ensures c.put_found.ensures

pub returns-in-Parts : goal.returns-in-Parts
returns-in-Parts c =
    let wanted = λ (name : OptionName). piece_with name c.args.text.now c.args.self.now in
    put_found (λ parts. record c.args.self.now { parts = parts; part = 0 }) c.args.name (wanted c.args.name) (number_of parts_form c.args.text.now) c.number_of-in-Parts.result c.put_found-in-Parts.new.place c.put_found-in-Parts.result (ap wanted c.in-Parts.is) c.number_of-in-Parts.ensures c.put_found-in-Parts.ensures
