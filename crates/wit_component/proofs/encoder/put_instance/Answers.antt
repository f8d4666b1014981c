use Rattle.std.proofs.Common.{◌≡◌, ◌++◌, ◌∷◌, [], ℕ, List, length, map, ap, sym, ◌∙◌, arith}
use Rattle.std.proofs.lemmas.List.{map-append, length-map}
use Rattle.component_value_types.specs.Combinators.{NamedValue}
use Rattle.component_value_types.specs.Names.{named_value}
use Rattle.component_instances.specs.Instances.{core_argument_value, core_instantiate}
use Rattle.component_sections.specs.Component as whole
use Rattle.component_sections.specs.Component.{a_core_instance}
use Rattle.known_definitions.specs.Definition.{instantiation_of}
use Rattle.known_definitions.specs.Known.{named_argument}
use Rattle.wit_component.specs.CoreNames.{root, standard}
use Rattle.wit_component.specs.Component.{given_under, instance_with, instances_for, arguments_for}
use Rattle.wit_component.specs.Written.{written, among}
use Rattle.wit_component.proofs.Written.{both_written}
use Rattle.wit_component.proofs.WrittenGiven.{arguments_are, arguments_count}
use Rattle.wit_component.proofs.encoder.put_instance.Goals as goal

pub returns-clause-added : goal.returns-clause-added
returns-clause-added c = λ l places all.
    let noted = map (named_value core_argument_value) in
    let are = arguments_are l (noted c.new-args.result.items) (noted c.put_inline.new.args.items) (noted c.put_inline-2.new.args.items) (length c.new-args.result.items) (length c.put_inline.new.args.items)
    (ap noted c.new-args.ensures.items) (sym (length-map c.new-args.result.items (named_value core_argument_value))) (sym (length-map c.put_inline.new.args.items (named_value core_argument_value)))
    (c.in_ok-put_inline.ensures.args l places.legacy all) (c.in_ok-put_inline-2.ensures.args l places.standard all) in
    let before = written c.args.out.now.items in
    let mid = written c.put_inline-2.new.out.items in
    let instances = both_written before (written c.put_inline.new.out.items) mid (instance_with (given_under l root)) (instance_with (given_under l standard)) (c.in_ok-put_inline.ensures.added l places.legacy all) (c.in_ok-put_inline-2.ensures.added l places.standard all) in
    let made : written c.push.new.self.items ≡ mid ++ among (instantiation_of 0 (arguments_for l) ∷ []) =
    ap written c.in_ok-push.ensures.items ∙ map-append whole.definition_value c.put_inline-2.new.out.items _ ∙ ap (λ (xs : List (NamedValue ℕ)). mid ++ a_core_instance (core_instantiate 0 xs) ∷ []) are in
    both_written before mid (written c.push.new.self.items) (instances_for l) (instantiation_of 0 (arguments_for l) ∷ []) instances made

pub returns-clause-index : goal.returns-clause-index
returns-clause-index c = λ l places all.
    let noted = map (named_value core_argument_value) in
    let are = arguments_are l (noted c.new-args.result.items) (noted c.put_inline.new.args.items) (noted c.put_inline-2.new.args.items) (length c.new-args.result.items) (length c.put_inline.new.args.items)
    (ap noted c.new-args.ensures.items) (sym (length-map c.new-args.result.items (named_value core_argument_value))) (sym (length-map c.put_inline.new.args.items (named_value core_argument_value)))
    (c.in_ok-put_inline.ensures.args l places.legacy all) (c.in_ok-put_inline-2.ensures.args l places.standard all) in
    let count : length c.put_inline-2.new.args.items ≡ length (instances_for l) =
    sym (length-map c.put_inline-2.new.args.items (named_value core_argument_value)) ∙ ap length are ∙ length-map (arguments_for l) named_argument ∙ arguments_count l in
    omega (arith, c.len-index.ensures, c.put_inline-2.new.args.ok, count)
