use Rattle.std.proofs.Common.{Some, ap, sym, ◌∙◌}
use Rattle.std.specs.Prelude.{option_map, string_bytes}
use Rattle.wit_names.specs.Passed.wit_types-Package.{interface_text}
use Rattle.wit_names.specs.Names.{canonical_text, IsKeyText}
use Rattle.wit_core_names.specs.Texts.{interface_text_in}
use Rattle.wit_core_names.proofs.Keys.{named_there, some_text}
use Rattle.wit_core_names.proofs.texts.key_text.Goals as goal
use Rattle.wit_core_names.proofs.texts.key_text.Goals.{in-Standard32+in_ok-text-in-Standard32, in-Legacy+in_ok-text-in-Legacy}

pub name_canonicalized_world_key-requires-clause-there : goal.name_canonicalized_world_key-requires-clause-there
name_canonicalized_world_key-requires-clause-there c = named_there c.args.tables.now.packages.now c.args.tables.now.interfaces.now c.args.key.now c.requires.there

pub name_world_key-requires-clause-there : goal.name_world_key-requires-clause-there
name_world_key-requires-clause-there c = named_there c.args.tables.now.packages.now c.args.tables.now.interfaces.now c.args.key.now c.requires.there

pub unreachable-requires : goal.unreachable-requires
unreachable-requires c =
    elim c.match-mangling.branch as (λ _. ⊥) [
      | in-Standard32+in_ok-text-in-Standard32 w ↦ some_text canonical_text c.args.tables.now.packages.now c.args.tables.now.interfaces.now c.args.key.now _ c.requires.there w.in_ok-text-in-Standard32.ensures (ap (option_map string_bytes) (sym w.text-is ∙ c.in-None.is))
      | in-Legacy+in_ok-text-in-Legacy w ↦ some_text interface_text c.args.tables.now.packages.now c.args.tables.now.interfaces.now c.args.key.now _ c.requires.there w.in_ok-text-in-Legacy.ensures (ap (option_map string_bytes) (sym w.text-is ∙ c.in-None.is))
    ]

pub returns : goal.returns
returns c =
    elim c.match-mangling.branch as (λ _. IsKeyText (interface_text_in c.args.mangling) c.args.tables.now.packages.now c.args.tables.now.interfaces.now c.args.key.now (Some (string_bytes c.in-Some.text))) [
      | in-Standard32+in_ok-text-in-Standard32 w ↦
          rw (w.in-Standard32.is, sym (ap (option_map string_bytes) (sym w.text-is ∙ c.in-Some.is))) w.in_ok-text-in-Standard32.ensures
      | in-Legacy+in_ok-text-in-Legacy w ↦ rw (w.in-Legacy.is, sym (ap (option_map string_bytes) (sym w.text-is ∙ c.in-Some.is))) w.in_ok-text-in-Legacy.ensures
    ]
