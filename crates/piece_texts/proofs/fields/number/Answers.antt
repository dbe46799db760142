use Rattle.std.proofs.Common.{rules, ◌≡◌, arith, subst}
use Rattle.std.specs.Str.Parse.{ParsesUnsigned}
use Rattle.piece_texts.proofs.FieldsRead.{number-read, parsed, utf8}
use Rattle.piece_texts.proofs.fields.number.Goals as goal

pub returns-in-Ok-parse : goal.returns-in-Ok-parse
returns-in-Ok-parse c =
    let same : c.in-Ok.digits.now ≡ c.args.text.now = search rules in
    number-read c.args.least c.args.most c.in-Ok-parse.n c.args.text.now c.parse.result c.shortest.result c.requires (subst (λ t. ParsesUnsigned 128 10 t c.parse.result) same c.parse.ensures.value.0) c.in-Ok-parse.is c.shortest.ensures

pub returns-in-Err-parse : goal.returns-in-Err-parse
returns-in-Err-parse c n is =
    let same : c.in-Ok.digits.now ≡ c.args.text.now = search rules in
    let read = parsed n c.args.text.now c.parse.result (omega (arith, c.requires, is.high)) is.shortest (subst (λ t. ParsesUnsigned 128 10 t c.parse.result) same c.parse.ensures.value.0) in
    let fault = c.in-Err-parse.is in
    cc

pub returns-in-Err : goal.returns-in-Err
returns-in-Err c n is = c.in-Err.ensures.cases.0 (utf8 n c.args.text.now (omega (arith, c.requires, is.high)) is.shortest)
