use Rattle.std.proofs.Common.{◌≡◌, ◌++◌, ◌∷◌, [], List, map, sym, ap, ◌∙◌}
use Rattle.std.proofs.lemmas.List.{append-nil, map-append, map-id}
use Rattle.std.proofs.lemmas.Iterator.Adapters.{YieldsList-from_vec}
use Rattle.std.proofs.lemmas.Iterator.Consumers.{YieldsList-end}
use Rattle.component_builder.specs.Builder.{index_behind}
use Rattle.component_instances.specs.Instances.{core_argument_value}
use Rattle.component_value_types.specs.Names.{named_value}
use Rattle.component_encoding.specs.Given.{under_value}
use Rattle.component_encoding.specs.Instances.{instance_of, arguments_from}
use Rattle.component_encoding.specs.declared.given.Group.{Group}
use Rattle.component_encoding.proofs.Groups.{instance_next, argument_next}
use Rattle.component_encoding.proofs.instances.add_groups.Goals as goal

pub loop-group-init : goal.loop-group-init
loop-group-init c = (sym (append-nil c.args.builder.now), ap (map (named_value core_argument_value)) c.new-args.ensures.items)

pub loop-group-preserved : goal.loop-group-preserved
loop-group-preserved c =
    let start = c.args.builder.now in
    let old = c.loop-group.builder in
    let was = c.loop-group.invariant.0 in (
      instance_next start old c.add_group.new.builder c.loop-group.yielded c.in-Some.group was c.in_ok-add_group.ensures.added,
      argument_next start old c.loop-group.yielded c.in-Some.group (map (named_value core_argument_value) c.loop-group.args.items) (map (named_value core_argument_value) c.push.new.self.items) (named_value core_argument_value c.in_ok-add_group.field-0) was
          c.loop-group.invariant.1 c.in_ok-add_group.ensures.argument (ap (map (named_value core_argument_value)) c.in_ok-push.ensures.items ∙ map-append (named_value core_argument_value) c.loop-group.args.items (c.in_ok-add_group.field-0 ∷ [])),
    )

pub returns-clause-added : goal.returns-clause-added
returns-clause-added c =
    let gs = c.args.groups.items in
    let yields = YieldsList-from_vec {s = c.into_iter-group-iterator.result} gs c.into_iter-group-iterator.ensures.into_iter_gives.0 (c.into_iter-group-iterator.ensures.into_iter_gives.1 ∙ c.args.groups.ok.0) in
    let over = YieldsList-end yields c.loop-group.yielded c.loop-group.group-iterator c.loop-group.yielded_by c.next.result c.next.new.self c.in-None.is c.next.ensures.steps in
    let all : c.loop-group.yielded ≡ gs = sym (map-id c.loop-group.yielded) ∙ over.0 in
    c.loop-group.invariant.0 ∙ ap (λ (xs : List Group). c.args.builder.now ++ map instance_of (map under_value xs)) all

pub returns-clause-arguments : goal.returns-clause-arguments
returns-clause-arguments c =
    let gs = c.args.groups.items in
    let yields = YieldsList-from_vec {s = c.into_iter-group-iterator.result} gs c.into_iter-group-iterator.ensures.into_iter_gives.0 (c.into_iter-group-iterator.ensures.into_iter_gives.1 ∙ c.args.groups.ok.0) in
    let over = YieldsList-end yields c.loop-group.yielded c.loop-group.group-iterator c.loop-group.yielded_by c.next.result c.next.new.self c.in-None.is c.next.ensures.steps in
    let all : c.loop-group.yielded ≡ gs = sym (map-id c.loop-group.yielded) ∙ over.0 in
    c.loop-group.invariant.1 ∙ ap (λ (xs : List Group). arguments_from (index_behind c.args.builder.now (instance_of (record { text = []; items = [] }))) (map under_value xs)) all
