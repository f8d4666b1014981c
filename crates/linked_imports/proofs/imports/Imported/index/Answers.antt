use Rattle.std.proofs.Common.{arith}
use Rattle.std.proofs.lemmas.Option.{slice_get_within}
use Rattle.std.proofs.lemmas.Result.{IfOk-weaker}
use Rattle.linked_imports.proofs.Taken.{own_place, own_index, instance_within, instance_is, take_index, took_keeps, taken_below}
use Rattle.linked_imports.proofs.imports.Imported.index.Goals as goal

pub own_index-requires : goal.own_index-requires
own_index-requires c = own_place c.args.self.now c.requires.0 c.args.found.interface c.args.found.function.now c.as_str-name.result.now c.in-None.is c.as_str-name.ensures.value c.requires.1

pub index-requires-in-Some : goal.index-requires-in-Some
index-requires-in-Some c =
    let k = instance_within c.args.self.now c.requires.0 c.args.found.interface c.args.found.function.now c.in-Some.id c.in-Some.is c.requires.1 in
    let lt = slice_get_within c.args.self.now.instances.items c.in-Some.id _ k.1 in
    let same = c.index.ensures in
    omega (arith, lt, same)

pub unreachable-requires : goal.unreachable-requires
unreachable-requires c =
    let k = instance_within c.args.self.now c.requires.0 c.args.found.interface c.args.found.function.now c.in-Some.id c.in-Some.is c.requires.1 in
    c.in_default.not-Some k.0 (instance_is c.args.self.now.instances.items c.in-Some.id c.index.result k.0 c.index-in-Some.result.now k.1 c.index.ensures c.index-in-Some.ensures)

pub returns-in-None-clause-ok : goal.returns-in-None-clause-ok
returns-in-None-clause-ok c types good there =
    IfOk-weaker c.own_index.result _ _ (λ n h. own_index c.args.self.now types c.args.found.interface c.args.found.function.now c.as_str-name.result.now n c.in-None.is c.as_str-name.ensures.value good there h) c.own_index.ensures.ok

pub returns-in-Some-index-clause-keeps : goal.returns-in-Some-index-clause-keeps
returns-in-Some-index-clause-keeps c types good = took_keeps c.take_function.result c.args.self.now.root c.take_function.new.self types c.in-Some-index.instance c.as_str-name.result.now c.take_function.ensures.ok c.take_function.ensures.err (c.take_function.ensures.good types good)

pub returns-in-Some-index-clause-ok : goal.returns-in-Some-index-clause-ok
returns-in-Some-index-clause-ok c types good there =
    IfOk-weaker c.take_function.result _ _ (λ n h. take_index c.args.self.now c.take_function.new.self types c.args.found.interface c.args.found.function.now c.as_str-name.result.now c.in-Some.id c.index.result c.in-Some-index.instance n
    c.index-in-Some.result.now c.in-Some.is c.as_str-name.ensures.value c.index.ensures c.index-in-Some.ensures c.in-Some-index.is there h) c.take_function.ensures.ok

pub returns-in-Some-index-clause-placed : goal.returns-in-Some-index-clause-placed
returns-in-Some-index-clause-placed c = c.take_function.ensures.placed (taken_below c.args.self.now c.requires.0 c.args.found.interface c.args.found.function.now c.in-Some.id c.index.result c.in-Some-index.instance c.index-in-Some.result.now c.in-Some.is c.index.ensures c.index-in-Some.ensures c.in-Some-index.is c.requires.1)
