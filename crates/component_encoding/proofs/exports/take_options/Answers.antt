use Rattle.std.proofs.Common.{sym, ap, subst}
use Rattle.std.specs.Prelude.{option_and_then}
use Rattle.component_definitions.specs.declared.canonical.CanonicalOption.TheVariants as canonical
use Rattle.linked_imports.specs.Passed.component_meaning-Spaces.{meaning}
use Rattle.linked_imports.specs.Passed.link_table-View.{name_at, options_value}
use Rattle.linked_imports.specs.Passed.right_components-Ends.{AreOptionsOf}
use Rattle.component_encoding.proofs.Growth.{grows, main_stays}
use Rattle.component_encoding.proofs.Staying.{option_for_stays, options_are}
use Rattle.component_encoding.proofs.exports.take_options.Goals as goal

pub returns-clause-options : goal.returns-clause-options
returns-clause-options c = λ l main same m offered shared.
    let o = options_value l.main.exports c.args.options.now in
    let one = c.memory.new.builder in
    let two = c.realloc.new.builder in
    let memory = c.in_ok-memory.ensures.option l main o same (ap (λ es. option_and_then (name_at es) c.args.options.now.memory) (sym same)) m offered shared in
    let m_one = main_stays main (meaning main c.args.builder.now) (meaning main one) c.args.instance (c.in_ok-memory.ensures.only main).instances m in
    let realloc = c.in_ok-realloc.ensures.option l main o same (ap (λ es. option_and_then (name_at es) c.args.options.now.realloc) (sym same)) m_one offered memory.1 in
    let stays = option_for_stays l (meaning main one) (meaning main two) c.args.instance o o.memory canonical.Memory c.in_ok-memory.memory (grows main one two c.in_ok-realloc.ensures.begins) memory.0 in (
      subst (AreOptionsOf l (meaning main two) c.args.instance o) (sym c.in_ok-options_of.ensures) (options_are l (meaning main two) c.args.instance o c.in_ok-memory.memory c.in_ok-realloc.realloc stays realloc.0),
      realloc.1,
    )
