use Rattle.std.proofs.Common.{map, ap, sym, ◌∙◌, Some, IfSome, ◌<◌, subst}
use Rattle.std.specs.String.{string_bytes}
use Rattle.lis_shell.specs.Words.{MakesInRange}
use Rattle.lis_shell.proofs.Forms.{view_named, put_named}
use Rattle.std.proofs.lemmas.List.{length-map}
use Rattle.lis_shell.specs.declared.words.Task.TheVariants.{OnImage}
use Rattle.lis_shell.proofs.top.carry_task.Goals as goal

pub make_image-requires : goal.make_image-requires
make_image-requires g c = record {
  range = subst (λ task. IfSome task MakesInRange) (c.in-Some-Make.is ∙ ap Some c.in-Some-Make.field-0-is) c.task_of.ensures.range;
}

pub returns-in-Some-Make-clause-cause : goal.returns-in-Some-Make-clause-cause
returns-in-Some-Make-clause-cause g c = c.make_image.ensures.cause (g.S.Source.faults c.args.input.now)

pub returns-in-Some-Upgrade-clause-cause : goal.returns-in-Some-Upgrade-clause-cause
returns-in-Some-Upgrade-clause-cause g c = c.upgrade_image.ensures.cause (g.S.Source.faults c.args.input.now)

pub part_in-requires-clause-words : goal.part_in-requires-clause-words
part_in-requires-clause-words g c =
    subst (λ n. 3 < n) (length-map c.args.words.now string_bytes) (view_named (map string_bytes c.args.words.now)
    (sym c.task_of.ensures.task ∙ c.in-Some-OnImage-View.is ∙ ap Some (c.in-Some-OnImage-View.field-0-is ∙ ap OnImage c.in-Some-OnImage-View.field-0-0-is))).0

pub part_in-requires-clause-name : goal.part_in-requires-clause-name
part_in-requires-clause-name g c =
    (view_named (map string_bytes c.args.words.now)
    (sym c.task_of.ensures.task ∙ c.in-Some-OnImage-View.is ∙ ap Some (c.in-Some-OnImage-View.field-0-is ∙ ap OnImage c.in-Some-OnImage-View.field-0-0-is))).1

pub part_in-requires-in-Some-OnImage-Put-clause-words : goal.part_in-requires-in-Some-OnImage-Put-clause-words
part_in-requires-in-Some-OnImage-Put-clause-words g c =
    subst (λ n. 3 < n) (length-map c.args.words.now string_bytes) (put_named (map string_bytes c.args.words.now)
    (sym c.task_of.ensures.task ∙ c.in-Some-OnImage-Put.is ∙ ap Some (c.in-Some-OnImage-Put.field-0-is ∙ ap OnImage c.in-Some-OnImage-Put.field-0-0-is))).0

pub part_in-requires-in-Some-OnImage-Put-clause-name : goal.part_in-requires-in-Some-OnImage-Put-clause-name
part_in-requires-in-Some-OnImage-Put-clause-name g c =
    (put_named (map string_bytes c.args.words.now)
    (sym c.task_of.ensures.task ∙ c.in-Some-OnImage-Put.is ∙ ap Some (c.in-Some-OnImage-Put.field-0-is ∙ ap OnImage c.in-Some-OnImage-Put.field-0-0-is))).1
