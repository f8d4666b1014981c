use Rattle.std.proofs.Common.{◌≡◌, ◌+◌, ◌++◌, ◌∷◌, [], length, map, sym, ap, subst, ◌∙◌}
use Rattle.component_builder.specs.Builder.{index_behind}
use Rattle.component_instances.specs.Instances.{core_argument_value}
use Rattle.component_sections.specs.Component.{a_core_module}
use Rattle.component_value_types.specs.Names.{named_value}
use Rattle.linked_imports.specs.Passed.right_components-Main.{main_of}
use Rattle.wasm_format.specs.Module.{module_value}
use Rattle.wasm_types.specs.Entries.{import_value}
use Rattle.component_encoding.specs.Given.{under_value, AreGivenFor, MayBeGiven}
use Rattle.component_encoding.specs.Instances.{lowering_of, instance_of, arguments_from, instantiation}
use Rattle.component_encoding.proofs.Counts.{Lengths, counts}
use Rattle.component_encoding.proofs.Groups.{behind_module, behind_lowerings}
use Rattle.core_links.specs.Imports.{RepeatsPair}
use Rattle.component_encoding.proofs.Growth.{begins_more}
use Rattle.component_encoding.proofs.PlacedModule.{module_placed}
use Rattle.component_encoding.proofs.Instantiated.{instantiates}
use Rattle.component_encoding.proofs.instances.add_main_module.Goals as goal

pub returns-clause-begins : goal.returns-clause-begins
returns-clause-begins c =
    let ds = c.args.builder.now in
    let us = map under_value c.into_groups.result.items in
    begins_more ds c.add.new.self c.add_instance.new.builder (a_core_module c.args.bytes.now ∷ [], c.in_ok-core_module.ensures.added)
    (begins_more c.add.new.self c.add_lowerings.new.builder c.add_instance.new.builder (map lowering_of c.args.functions.now, c.in_ok-given.ensures.added)
    (begins_more c.add_lowerings.new.builder c.add_groups.new.builder c.add_instance.new.builder (map instance_of us, c.in_ok-args.ensures.added)
    (instantiation c.in_ok-core_module.core_module (map (named_value core_argument_value) c.in_ok-args.args.items) ∷ [], c.in_ok-instance.ensures.added)))

pub returns-clause-instance : goal.returns-clause-instance
returns-clause-instance c = λ low.
    let m = module_value c.args.main.now in
    let bytes = c.args.bytes.now in
    let main = main_of bytes m in
    let ds = c.args.builder.now in
    let es = c.add.new.self in
    let fs = c.args.functions.now in
    let us = map under_value c.into_groups.result.items in
    let args = map (named_value core_argument_value) c.in_ok-args.args.items in
    let base = index_behind es (lowering_of 0) in
    let first = c.in_ok-core_module.ensures.added in
    let second = c.in_ok-given.ensures.added in
    instantiates m bytes ds c.add_groups.new.builder c.add_instance.new.builder fs us base c.in_ok-core_module.core_module c.in_ok-instance.instance args
    (behind_module ds es bytes first ∙ ap (λ (l : Lengths). l.core_functions) (counts main ds))
    (c.in_ok-core_module.ensures.index ∙ ap (λ (l : Lengths). l.modules) (counts main ds))
    (c.in_ok-args.ensures.arguments ∙ ap (λ n. arguments_from n us) (behind_lowerings ds es c.add_lowerings.new.builder bytes fs (record { text = []; items = [] }) first second ∙ ap (λ (l : Lengths). l.core_instances) (counts main ds)))
    (c.in_ok-args.ensures.added ∙ ap (λ l. l ++ map instance_of us) (second ∙ ap (λ l. l ++ map lowering_of fs) first))
    c.in_ok-instance.ensures.added
    c.in_ok-instance.ensures.index
    (subst (λ gs. AreGivenFor base m.imports (map under_value gs)) (sym c.into_groups.ensures) (subst (λ is. AreGivenFor base (map import_value is) (map under_value c.in_ok-given.given.groups.items)) c.as_slice.ensures.value c.in_ok-given.ensures.given))
    c.requires.distinct
    low

pub returns-clause-placed : goal.returns-clause-placed
returns-clause-placed c = λ low.
    let m = module_value c.args.main.now in
    let main = main_of c.args.bytes.now m in
    let fs = c.args.functions.now in
    let us = map under_value c.into_groups.result.items in
    let es = c.add.new.self in
    let args = map (named_value core_argument_value) c.in_ok-args.args.items in
    let many = c.requires.so_many in
    let so_many : length c.as_slice.result.now ≡ length fs = ap length c.as_slice.ensures.value ∙ sym many in
    let given = c.in_ok-given.ensures.once (subst (λ is. RepeatsPair (map import_value is) → ⊥) (sym c.as_slice.ensures.value) c.requires.distinct) in
    module_placed main c.args.builder.now es c.add_lowerings.new.builder c.add_groups.new.builder c.add_instance.new.builder c.args.bytes.now fs us c.in_ok-core_module.core_module args
    c.in_ok-core_module.ensures.added c.in_ok-given.ensures.added c.in_ok-args.ensures.added c.in_ok-instance.ensures.added c.in_ok-core_module.ensures.index c.in_ok-args.ensures.arguments
    (subst (λ gs. MayBeGiven (index_behind es (lowering_of 0) + length fs) (map under_value gs)) (sym c.into_groups.ensures) (subst (λ n. MayBeGiven (index_behind es (lowering_of 0) + n) (map under_value c.in_ok-given.given.groups.items)) so_many given)) low
