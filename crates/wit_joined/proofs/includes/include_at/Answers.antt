use Rattle.std.proofs.Common.{refl}
use Rattle.std.proofs.lemmas.Result.{IfOk-weaker, IfErr-weaker}
use Rattle.wit_copied_trees.specs.Passed.wit_includes-declared-worlds-Include.{Include}
use Rattle.wit_joined.specs.declared.includes.JoinFault.{JoinFault}
use Rattle.wit_joined.specs.declared.includes.Sides.{Sides}
use Rattle.wit_joined.specs.Joined.{state, IsIncludedOne, IsIncludedAt, IsOneCause, IsAtCause}
use Rattle.wit_joined.proofs.Including.{slice_has, on_ok_from, at_place, at_cause, stays_backward}
use Rattle.wit_joined.proofs.includes.include_at.Goals as goal

pub include_one-requires-clause-there : goal.include_one-requires-clause-there
include_one-requires-clause-there c = c.requires.there c.get.result.now (slice_has c.args.worlds.now c.args.include.now.id c.get.result.now c.get.ensures)

pub returns-clause-ok : goal.returns-clause-ok
returns-clause-ok c =
    let n = c.args.include.now in
    let one : Include = record { from = n.id; world = c.get.result; into = c.args.id; names = c.as_slice.result; span = n.span } in
    let old = c.args.types.now in
    let new = c.include_one.new.types in
    IfOk-weaker c.include_one.result (λ (found : Sides). IsIncludedOne one old c.args.sides new found) (λ (found : Sides). IsIncludedAt c.args.worlds.now c.args.id n (state old c.args.sides) (state new found))
    (λ found o. at_place c.args.worlds.now c.args.id n one c.get.result.now c.get.ensures refl refl c.as_slice.ensures.value refl refl old new c.args.sides found o) c.include_one.ensures.ok

pub returns-clause-backward : goal.returns-clause-backward
returns-clause-backward c =
    let n = c.args.include.now in
    let one : Include = record { from = n.id; world = c.get.result; into = c.args.id; names = c.as_slice.result; span = n.span } in
    let old = c.args.types.now in
    let new = c.include_one.new.types in
    on_ok_from (λ (found : Sides). IsIncludedOne one old c.args.sides new found) c.include_one.result (λ found o. stays_backward c.law_included_types_are_backward.ensures one old new c.args.sides found c.requires.backward o) c.include_one.ensures.ok

pub returns-clause-cause : goal.returns-clause-cause
returns-clause-cause c =
    let n = c.args.include.now in
    let one : Include = record { from = n.id; world = c.get.result; into = c.args.id; names = c.as_slice.result; span = n.span } in
    IfErr-weaker c.include_one.result (λ (fault : JoinFault). IsOneCause one fault) (λ (fault : JoinFault). IsAtCause c.args.worlds.now n fault)
    (λ fault h. at_cause c.args.worlds.now c.args.id n one c.get.result.now c.get.ensures refl refl c.as_slice.ensures.value refl refl fault h) c.include_one.ensures.cause
