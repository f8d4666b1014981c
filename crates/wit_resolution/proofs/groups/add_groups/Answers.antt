use Rattle.std.proofs.lemmas.Result.{err_from_is_err_and}
use Rattle.wit_resolution.specs.Groups.{Pass, SomePass}
use Rattle.wit_resolution.proofs.Taking.{one_taken, first_passes_of, first_refused, size_weaker}
use Rattle.wit_resolution.proofs.groups.add_groups.Goals as goal

pub loop-group-preserved : goal.loop-group-preserved
loop-group-preserved c =
    one_taken c.args.source_map.now c.args.packages.now.items c.args.groups.items c.loop-group.source_map c.add_group.new.source_map c.loop-group.packages.items c.add_group.new.packages.items
    c.loop-group.group-iterator.rest.items c.next.new.self.rest.items c.in-Some.group c.loop-group.invariant c.in-Some.ensures.steps.0 c.in_ok-add_group.ensures.texts c.in_ok-add_group.ensures.ok c.in_ok-add_group.ensures.fit

pub returns-in_err-add_group-clause-cause : goal.returns-in_err-add_group-clause-cause
returns-in_err-add_group-clause-cause c =
    let p = err_from_is_err_and c.from_residual.result c.from_residual.ensures.1 in
    rw (p.1, p.2)
    (size_weaker (Pass c.loop-group.source_map c.in-Some.group) (SomePass c.args.source_map.now c.args.groups.items)
    (first_passes_of c.args.source_map.now c.args.packages.now.items c.args.groups.items c.loop-group.source_map c.loop-group.packages.items c.loop-group.group-iterator.rest.items c.next.new.self.rest.items c.in-Some.group
    c.loop-group.invariant c.in-Some.ensures.steps.0) c.in_err-add_group.field-0.0 c.in_err-add_group.ensures.cause)

pub returns-in_err-add_group-clause-err : goal.returns-in_err-add_group-clause-err
returns-in_err-add_group-clause-err c =
    let p = err_from_is_err_and c.from_residual.result c.from_residual.ensures.1 in
    rw (p.1)
    (first_refused c.args.source_map.now c.args.packages.now.items c.args.groups.items c.loop-group.source_map c.add_group.new.source_map c.loop-group.packages.items c.loop-group.group-iterator.rest.items c.next.new.self.rest.items
    c.in-Some.group c.loop-group.invariant c.in-Some.ensures.steps.0 c.in_err-add_group.ensures.err)
