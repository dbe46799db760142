use Rattle.std.proofs.Common.{ap, List, option_map, refl, ℕ}
use Rattle.settings.specs.Options.{form_of}
use Rattle.settings.specs.Values.{column_scores_form, miss_of, missing_of, number_of, numbers_of, order_of, peak_form, row_scores_form, scores_of, separator_of, tail_choice_of}
use Rattle.settings.specs.declared.names.OptionName.{OptionName}
use Rattle.settings.specs.declared.names.OptionName.TheVariants.{Order}
use Rattle.settings.proofs.PutAs.{put_found, put_read}
use Rattle.settings.proofs.settings.Settings.set_text.Goals as goal

pub returns-in-Tail : goal.returns-in-Tail
returns-in-Tail c =
    let wanted = λ (name : OptionName). (form_of name).set c.args.text.now c.args.self.now in
    put_found (λ value. record c.args.self.now { tail = value }) c.args.name (wanted c.args.name) (tail_choice_of c.args.text.now) c.named.result c.put_found.new.place c.put_found.result (ap wanted c.in-Tail.is) c.named.ensures c.put_found.ensures

pub returns-in-Scores : goal.returns-in-Scores
returns-in-Scores c =
    let wanted = λ (name : OptionName). (form_of name).set c.args.text.now c.args.self.now in
    put_found (λ value. record c.args.self.now { scores = value }) c.args.name (wanted c.args.name) (scores_of c.args.text.now) c.scores_of.result c.put_found-in-Scores.new.place c.put_found-in-Scores.result (ap wanted c.in-Scores.is) c.scores_of.ensures c.put_found-in-Scores.ensures

pub returns-in-Separator : goal.returns-in-Separator
returns-in-Separator c =
    let wanted = λ (name : OptionName). (form_of name).set c.args.text.now c.args.self.now in
    put_found (λ value. record c.args.self.now { separator = value }) c.args.name (wanted c.args.name) (separator_of c.args.text.now) c.separator_of.result c.put_found-in-Separator.new.place c.put_found-in-Separator.result (ap wanted c.in-Separator.is) c.separator_of.ensures c.put_found-in-Separator.ensures

pub returns-in-Missing : goal.returns-in-Missing
returns-in-Missing c =
    let wanted = λ (name : OptionName). (form_of name).set c.args.text.now c.args.self.now in
    put_found (λ value. record c.args.self.now { missing = value }) c.args.name (wanted c.args.name) (missing_of c.args.text.now) c.missing_of.result c.put_found-in-Missing.new.place c.put_found-in-Missing.result (ap wanted c.in-Missing.is) c.missing_of.ensures c.put_found-in-Missing.ensures

pub returns-in-Miss : goal.returns-in-Miss
returns-in-Miss c =
    let wanted = λ (name : OptionName). (form_of name).set c.args.text.now c.args.self.now in
    put_found (λ value. record c.args.self.now { miss = value }) c.args.name (wanted c.args.name) (miss_of c.args.text.now) c.miss_of.result c.put_found-in-Miss.new.place c.put_found-in-Miss.result (ap wanted c.in-Miss.is) c.miss_of.ensures c.put_found-in-Miss.ensures

pub returns-in-Order : goal.returns-in-Order
returns-in-Order c =
    let meant = order_of c.args.text.now in
    let put = λ (order : List (List ℕ)). record c.args.self.now { order = order } in
    rw c.in-Order.is (put_read put Order (option_map put meant) meant c.order_of.result c.put.new.place c.put.result refl c.order_of.ensures c.put.ensures)

pub returns-in-Peak : goal.returns-in-Peak
returns-in-Peak c =
    let wanted = λ (name : OptionName). (form_of name).set c.args.text.now c.args.self.now in
    put_found (λ value. record c.args.self.now { peak = value }) c.args.name (wanted c.args.name) (number_of peak_form c.args.text.now) c.number_of.result c.put_found-in-Peak.new.place c.put_found-in-Peak.result (ap wanted c.in-Peak.is) c.number_of.ensures c.put_found-in-Peak.ensures

pub returns-in-RowScores : goal.returns-in-RowScores
returns-in-RowScores c =
    let wanted = λ (name : OptionName). (form_of name).set c.args.text.now c.args.self.now in
    put_read (λ value. record c.args.self.now { row_scores = value }) c.args.name (wanted c.args.name) (numbers_of row_scores_form c.args.text.now) c.numbers_of.result c.put-in-RowScores.new.place c.put-in-RowScores.result (ap wanted c.in-RowScores.is) c.numbers_of.ensures.numbers c.put-in-RowScores.ensures

pub returns-in-ColumnScores : goal.returns-in-ColumnScores
returns-in-ColumnScores c =
    let wanted = λ (name : OptionName). (form_of name).set c.args.text.now c.args.self.now in
    put_read (λ value. record c.args.self.now { column_scores = value }) c.args.name (wanted c.args.name) (numbers_of column_scores_form c.args.text.now) c.numbers_of-in-ColumnScores.result c.put-in-ColumnScores.new.place c.put-in-ColumnScores.result (ap wanted c.in-ColumnScores.is) c.numbers_of-in-ColumnScores.ensures.numbers c.put-in-ColumnScores.ensures
