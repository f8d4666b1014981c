use Rattle.component_definitions.specs.Aliases.{core_instance_export}
use Rattle.component_entries.specs.Entries.{an_alias}
use Rattle.component_sections.specs.Component.{an_entry}
use Rattle.component_encoding.specs.Placing.{known_behind}
use Rattle.component_encoding.proofs.Behind.{instance_below, placed_with, names_with}
use Rattle.component_encoding.proofs.Following.{alias_follows}
use Rattle.component_encoding.proofs.Takes.{takes, takes_only}
use Rattle.component_encoding.proofs.exports.take_export.Goals as goal

pub returns-clause-only : goal.returns-clause-only
returns-clause-only c = λ main. takes_only main c.args.builder.now c.args.instance c.args.name.now c.args.kind c.add.new.self c.in_ok-index.ensures.added

pub returns-clause-takes : goal.returns-clause-takes
returns-clause-takes c = λ main ty m o. takes main c.args.builder.now c.args.instance c.args.name.now c.args.kind ty c.in_ok-index.index c.add.new.self c.in_ok-index.ensures.added c.in_ok-index.ensures.index m o

pub returns-clause-placed : goal.returns-clause-placed
returns-clause-placed c = λ main m. record {
  placed = placed_with c.args.builder.now c.add.new.self (an_entry (an_alias (core_instance_export c.args.kind c.args.instance c.args.name.now))) c.in_ok-index.ensures.added
      (alias_follows (known_behind c.args.builder.now) c.args.kind c.args.instance c.args.name.now (instance_below main c.args.builder.now c.args.instance m));
  names = names_with c.args.builder.now c.add.new.self (an_entry (an_alias (core_instance_export c.args.kind c.args.instance c.args.name.now))) c.in_ok-index.ensures.added;
}
