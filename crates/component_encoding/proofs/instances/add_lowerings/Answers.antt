use Rattle.std.proofs.Common.{◌≡◌, ◌+◌, ◌++◌, [], length, map, refl, sym, ap, subst, get_or, ◌∙◌, arith, ◌<◌}
use Rattle.std.proofs.lemmas.List.{append-nil, take_all}
use Rattle.wasm_types.specs.Entries.{import_value}
use Rattle.component_builder.specs.Builder.{index_behind}
use Rattle.component_encoding.specs.Given.{under_value, AreGivenFor, MayBeGiven}
use Rattle.component_encoding.specs.Instances.{lowering_of}
use Rattle.component_encoding.proofs.Giveable.{may_one_more}
use Rattle.component_encoding.proofs.Groups.{lowering_next, given_one_more}
use Rattle.component_encoding.proofs.instances.add_lowerings.Goals as goal

pub loop-place-init : goal.loop-place-init
loop-place-init c = (sym (append-nil c.args.builder.now), subst (AreGivenFor (index_behind c.args.builder.now (lowering_of 0)) []) (sym c.new-given.ensures) (λ text name. refl), λ once. subst (MayBeGiven (index_behind c.args.builder.now (lowering_of 0) + 0)) (sym c.new-given.ensures) (record { texts = refl; names = tt; functions = tt }))

pub loop-place-preserved : goal.loop-place-preserved
loop-place-preserved c =
    let start = c.args.builder.now in
    let old = c.loop-place.builder in
    let is = c.args.imports.now in
    let fs = c.args.functions.now in
    let k = c.loop-place.place in
    let was = c.loop-place.invariant.0 in
    let lt : k < length is = c.loop-place-test.true in
    let same = c.requires in
    let low : k < length fs = omega (arith, lt, same) in (
      lowering_next start old c.add_lowering.new.builder fs k 0 low was c.in_ok-index.ensures.added,
      given_one_more start old is fs (map under_value c.loop-place.given.groups.items) (map under_value c.add.new.self.groups.items) k (get_or fs k 0) c.in_ok-index.index _ lt low was c.in_ok-index.ensures.index c.in_ok-add.ensures c.loop-place.invariant.1,
      λ once. may_one_more start old is fs (map under_value c.loop-place.given.groups.items) (map under_value c.add.new.self.groups.items) k (get_or fs k 0) c.in_ok-index.index _ lt low was c.in_ok-index.ensures.index c.in_ok-add.ensures c.loop-place.invariant.1 once (c.loop-place.invariant.2 once),
    )

pub returns-clause-added : goal.returns-clause-added
returns-clause-added c =
    let past = c.loop-place-test.false in
    let same = c.requires in
    c.loop-place.invariant.0 ∙ ap (λ fs. c.args.builder.now ++ map lowering_of fs) (take_all c.loop-place.place c.args.functions.now (omega (arith, past, same)))

pub returns-clause-given : goal.returns-clause-given
returns-clause-given c =
    let past = c.loop-place-test.false in
    subst (λ is. AreGivenFor (index_behind c.args.builder.now (lowering_of 0)) (map import_value is) (map under_value c.loop-place.given.groups.items)) (take_all c.loop-place.place c.args.imports.now past) c.loop-place.invariant.1

pub returns-clause-once : goal.returns-clause-once
returns-clause-once c = λ once.
    let past = c.loop-place-test.false in
    let within = c.loop-place.auto.place-end in
    let all : c.loop-place.place ≡ length c.args.imports.now = omega (arith, past, within) in
    subst (λ n. MayBeGiven (index_behind c.args.builder.now (lowering_of 0) + n) (map under_value c.loop-place.given.groups.items)) all (c.loop-place.invariant.2 once)
