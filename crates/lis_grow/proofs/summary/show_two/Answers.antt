use Rattle.lis_model.specs.Replies.{number_line}
use Rattle.lis_session.proofs.InTurn.{answers_then}
use Rattle.lis_grow.proofs.summary.show_two.Goals as goal

pub returns : goal.returns
returns g c =
    answers_then (number_line c.args.label.now c.args.count) (number_line c.args.next.now c.args.more) c.in_ok-show_count.field-0 c.show_count-2.result c.in_ok-show_count.ensures c.show_count-2.ensures
