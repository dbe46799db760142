use Rattle.std.proofs.Common.{Option, Some, ap, option_and_then, option_map, refl}
use Rattle.settings.specs.Options.{with_piece}
use Rattle.settings.specs.Pieces.{piece_with}
use Rattle.settings.specs.declared.pieces.PieceOf.{PieceOf}
use Rattle.settings.proofs.PutAs.{put_found}
use Rattle.settings.proofs.settings.Settings.set_piece.Goals as goal

pub returns-in-Some : goal.returns-in-Some
returns-in-Some c =
    let put = λ (piece : PieceOf). record c.args.self.now { piece = Some piece } in
    let text_in = piece_with c.args.name c.args.text.now in
    let wanted = λ (piece : Option PieceOf). option_map put (option_and_then text_in piece) in
    let found = text_in c.in-Some.piece in
    put_found put c.args.name (with_piece c.args.name c.args.text.now c.args.self.now) found found c.set_text.new.self c.set_text.result (ap wanted c.in-Some.is) refl c.set_text.ensures
